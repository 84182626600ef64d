-- An accepted call of a header keeps what stands: the header told has one field more, and the last one makes it whole.
-- Each call is its turn's, so what stands there is known, and its octets are put behind. Assumes nothing.
use Prim.Native.Nat.{ℕ, ◌+◌, ◌-◌, ◌^◌, ◌≤◌, ◌<◌}
use mathlib.Core.Path.{◌≡◌, refl, sym, ap, ◌∙◌}
use mathlib.Core.List.{List, [], ◌∷◌, ◌++◌, append_assoc, append-nil}
use native.Mathlib.Omega.{arith}
use native.Mathlib.Nat.{zero-add}
use lib.ListN.{length, length-append}
use lib.Dec.{leb, eqb}
use borrow.Author.Tests.{eqb-true, leb-true}
use Rattle.octets.specs.Limits.{longest, most_listed}
use Rattle.octets.specs.Writing.{word, images, Each, Octet}
use Rattle.octets.proofs.Spans.{each_join}
use Rattle.texts.specs.Texts.{led_image, GoodText, GoodLed}
use Rattle.texts.specs.declared.Rule.{Rule}
use Rattle.texts.specs.declared.Rule.TheVariants.{Characters}
use Rattle.texts.proofs.Fields.{text_none}
use Rattle.headers.specs.Header.{Namespace, Header, header_image, GoodNamespace, GoodHeader}
use Rattle.writing_parts.specs.Faults.{fine, unless}
use Rattle.writing_parts.proofs.Faults.{holds}
use Rattle.writer.specs.declared.Wanted.{Wanted}
use Rattle.writer.specs.declared.Wanted.TheVariants as wants
use Rattle.writer.specs.Writer.{Call, recorder, start_time, default_namespace, namespace_count, uri, short_name, service_count, service, document_id, turn_at, does, breach}
use Rattle.writer.proofs.Kept.{at_turn}
use Rattle.writer.proofs.Values.{obeyed}
use Rattle.promises_writing.specs.Promise.{namespace_calls, service_calls, header_calls, Account, adds, tell}
use Rattle.promises_writing.proofs.Standing.{Spot, spot, state_at, behind}
use Rattle.promises_writing.proofs.Put.{octets_of, images_snoc, each_snoc, header_octets_lem}
use Rattle.promises_writing.proofs.Shapes.{InHeader, namespaced, served, Shape, Stand, rest, Inv, PassesHere, left_here, put_keeps}

-- Octets that were put without fault fit a length and are what their rule asks.
pub is_led : (rule : Rule) (xs : List ℕ) → Each Octet xs → breach rule xs ≡ fine → length (led_image xs) ≤ longest → GoodLed rule xs
unfolding led_image
is_led rule xs e f h = (e, omega (arith, length-append (word 4 (length xs)) xs), obeyed rule xs f)

pub is_text : (xs : List ℕ) → Each Octet xs → breach Characters xs ≡ fine → length (led_image xs) ≤ longest → GoodText xs
is_text = is_led Characters

-- A header by its fields in image order.
abbrev header : List ℕ → ℕ → List ℕ → List Namespace → List (List ℕ) → List ℕ → Header
header r s d o v i = record { recorder = r; start = s; default = d; others = o; services = v; id = i }

good_header : {r : List ℕ} {s : ℕ} {d : List ℕ} {o : List Namespace} {v : List (List ℕ)} {i : List ℕ} → GoodText r → s < 2 ^ 64 → GoodText d → length o ≤ 16 → Each GoodNamespace o
    → length v ≤ 16 → Each GoodText v → length i ≡ 16 → Each Octet i → GoodHeader (header r s d o v i)
good_header g₁ g₂ g₃ g₄ g₅ g₆ g₇ g₈ g₉ =
    record { recorder = g₁; start = g₂; default = g₃; few_others = g₄; others = g₅; few_services = g₆; services = g₇; id_length = g₈; id = g₉ }

-- One call more of a header.
on : {calls more : Header → ℕ → List ℕ → List Call} {Counts Next : Header → ℕ → Type 0} {x : Spot} {done : List ℕ} {told : Account} (c : Call) (u : Wanted) (j : ℕ)
    (i : InHeader calls Counts x done told) (h : Header) (n : ℕ) (name : List ℕ) → GoodHeader h → GoodText name → Next h n
    → calls i.h i.n i.name ++ c ∷ [] ≡ more h n name → InHeader more Next (spot x.book u j x.start x.rows) (done ++ octets_of c) (adds told c)
on {told = told} c u j i h n name good text counts said =
    record {
      h = h;
      n = n;
      name = name;
      good = good;
      text = text;
      counts = counts;
      said = ap (λ (z : List Call). z ++ c ∷ []) i.said ∙ said;
      is = behind (octets_of c) i.is ∙ sym (images_snoc octets_of told.latest c);
      first = i.first;
      no_start = i.no_start;
      no_rows = i.no_rows;
      no_book = i.no_book;
    }

module _ {buffer lent : List ℕ} {told : Account} (now : Stand buffer lent told) where
  -- What a call keeps, where it is accepted here.
  abbrev pub Keeps : Call → Type 0
  Keeps c = PassesHere now (does (state_at now.done now.at) (now.done ++ rest now) now.at.book c)
      → Inv buffer lent (tell told c) (left_here now (does (state_at now.done now.at) (now.done ++ rest now) now.at.book c))

  pub keep_recorder : (xs : List ℕ) → Each Octet xs → Keeps (recorder xs)
  unfolding does
  keep_recorder xs o p =
      put_keeps now (adds told (recorder xs)) wants.Recorder wants.StartTime (breach Characters xs) (word 4 4 ++ led_image xs) 0 now.at.start p λ i _ small.
      let h = i.h in
      let g = i.good in
      let text : GoodText xs = is_text xs o p.faultless (omega (arith, length-append (word 4 4) (led_image xs))) in
      on (recorder xs) wants.StartTime 0 i (header xs h.start h.default h.others h.services h.id) 0 []
      (good_header text g.start g.default g.few_others g.others g.few_services g.services g.id_length g.id) text_none tt refl

  pub keep_start : (n : ℕ) → n < 2 ^ 64 → Keeps (start_time n)
  unfolding does
  keep_start n small p =
      put_keeps now (adds told (start_time n)) wants.StartTime wants.DefaultNamespace fine (word 8 n) 0 now.at.start p λ i _ _.
      let h = i.h in
      let g = i.good in
      on (start_time n) wants.DefaultNamespace 0 i (header h.recorder n h.default h.others h.services h.id) 0 []
      (good_header g.recorder small g.default g.few_others g.others g.few_services g.services g.id_length g.id) text_none tt refl

  pub keep_default : (xs : List ℕ) → Each Octet xs → Keeps (default_namespace xs)
  unfolding does
  keep_default xs o p =
      put_keeps now (adds told (default_namespace xs)) wants.DefaultNamespace wants.NamespaceCount (breach Characters xs) (led_image xs) 0 now.at.start p λ i _ small.
      let h = i.h in
      let g = i.good in
      on (default_namespace xs) wants.NamespaceCount 0 i (header h.recorder h.start xs h.others h.services h.id) 0 []
      (good_header g.recorder g.start (is_text xs o p.faultless small) g.few_others g.others g.few_services g.services g.id_length g.id) text_none tt refl

  -- The count is that of the namespaces to come: none are given yet.
  pub keep_namespaces : (n : ℕ) → Keeps (namespace_count n)
  unfolding does
  keep_namespaces n p =
      put_keeps now (adds told (namespace_count n)) wants.NamespaceCount (turn_at n wants.Uri wants.ServiceCount) (unless (leb n most_listed) 4) (word 4 n) n now.at.start p λ i _ _.
      let h = i.h in
      let g = i.good in
      let most : n ≤ 16 = leb-true n most_listed (holds (leb n most_listed) 4 p.faultless) in
      let h₁ : Header = header h.recorder h.start h.default [] h.services h.id in
      let g₁ : GoodHeader h₁ = good_header g.recorder g.start g.default (omega arith) tt g.few_services g.services g.id_length g.id in
      at_turn (λ u. Shape u (spot now.at.book u n now.at.start now.at.rows) (now.done ++ word 4 n) (adds told (namespace_count n))) n wants.Uri wants.ServiceCount
      (λ _. on (namespace_count n) wants.Uri n i h₁ n [] g₁ text_none (zero-add n, most) refl)
      (λ none. on (namespace_count n) wants.ServiceCount n i h₁ 0 [] g₁ text_none tt (ap (namespaced h₁) none))

  pub keep_uri : (xs : List ℕ) → Each Octet xs → Keeps (uri xs)
  unfolding does
  keep_uri xs o p =
      put_keeps now (adds told (uri xs)) wants.Uri wants.ShortName (breach Characters xs) (led_image xs) now.at.count now.at.start p λ i _ small.
      on (uri xs) wants.ShortName now.at.count i i.h i.n xs i.good (is_text xs o p.faultless small) i.counts refl

  pub keep_short : (xs : List ℕ) → Each Octet xs → Keeps (short_name xs)
  unfolding does
  keep_short xs o p =
      let left : ℕ = now.at.count - 1 in
      put_keeps now (adds told (short_name xs)) wants.ShortName (turn_at left wants.Uri wants.ServiceCount) (breach Characters xs) (led_image xs) left now.at.start p λ i one small.
      let h = i.h in
      let g = i.good in
      let sum = i.counts in
      let more : Namespace = record { uri = i.name; short = xs } in
      let others : List Namespace = h.others ++ more ∷ [] in
      let long : length others ≡ length h.others + 1 = length-append h.others (more ∷ []) in
      let h₁ : Header = header h.recorder h.start h.default others h.services h.id in
      let g₁ : GoodHeader h₁ =
      good_header g.recorder g.start g.default (omega arith) (each_join GoodNamespace h.others (more ∷ []) g.others (record { uri = i.text; short = is_text xs o p.faultless small }, tt))
      g.few_services g.services g.id_length g.id in
      let said : (namespaced h i.n ++ uri i.name ∷ []) ++ short_name xs ∷ [] ≡ namespaced h₁ i.n = rw (each_snoc namespace_calls h.others more) (simp append_assoc) in
      at_turn (λ u. Shape u (spot now.at.book u left now.at.start now.at.rows) (now.done ++ led_image xs) (adds told (short_name xs))) left wants.Uri wants.ServiceCount
      (λ _. on (short_name xs) wants.Uri left i h₁ i.n [] g₁ text_none (omega arith, sum.1) said)
      (λ none.
      let all : i.n ≡ length others = omega arith in
      on (short_name xs) wants.ServiceCount left i h₁ 0 [] g₁ text_none tt (said ∙ ap (namespaced h₁) all))

  -- The count is that of the services to come: none are given yet.
  pub keep_services : (n : ℕ) → Keeps (service_count n)
  unfolding does
  keep_services n p =
      put_keeps now (adds told (service_count n)) wants.ServiceCount (turn_at n wants.Service wants.DocumentId) (unless (leb n most_listed) 4) (word 4 n) n now.at.start p λ i _ _.
      let h = i.h in
      let g = i.good in
      let most : n ≤ 16 = leb-true n most_listed (holds (leb n most_listed) 4 p.faultless) in
      let h₁ : Header = header h.recorder h.start h.default h.others [] h.id in
      let g₁ : GoodHeader h₁ = good_header g.recorder g.start g.default g.few_others g.others (omega arith) tt g.id_length g.id in
      at_turn (λ u. Shape u (spot now.at.book u n now.at.start now.at.rows) (now.done ++ word 4 n) (adds told (service_count n))) n wants.Service wants.DocumentId
      (λ _. on (service_count n) wants.Service n i h₁ n [] g₁ text_none (zero-add n, most) refl)
      (λ none. on (service_count n) wants.DocumentId n i h₁ 0 [] g₁ text_none tt (ap (served h₁) none))

  pub keep_service : (xs : List ℕ) → Each Octet xs → Keeps (service xs)
  unfolding does
  keep_service xs o p =
      let left : ℕ = now.at.count - 1 in
      put_keeps now (adds told (service xs)) wants.Service (turn_at left wants.Service wants.DocumentId) (breach Characters xs) (led_image xs) left now.at.start p λ i one small.
      let h = i.h in
      let g = i.good in
      let sum = i.counts in
      let services : List (List ℕ) = h.services ++ xs ∷ [] in
      let long : length services ≡ length h.services + 1 = length-append h.services (xs ∷ []) in
      let h₁ : Header = header h.recorder h.start h.default h.others services h.id in
      let g₁ : GoodHeader h₁ =
      good_header g.recorder g.start g.default g.few_others g.others (omega arith) (each_join GoodText h.services (xs ∷ []) g.services (is_text xs o p.faultless small, tt)) g.id_length g.id in
      let said : served h i.n ++ service xs ∷ [] ≡ served h₁ i.n = rw (each_snoc service_calls h.services xs) (simp append_assoc) in
      at_turn (λ u. Shape u (spot now.at.book u left now.at.start now.at.rows) (now.done ++ led_image xs) (adds told (service xs))) left wants.Service wants.DocumentId
      (λ _. on (service xs) wants.Service left i h₁ i.n [] g₁ text_none (omega arith, sum.1) said)
      (λ none.
      let all : i.n ≡ length services = omega arith in
      on (service xs) wants.DocumentId left i h₁ 0 [] g₁ text_none tt (said ∙ ap (served h₁) all))

  pub keep_id : (xs : List ℕ) → Each Octet xs → Keeps (document_id xs)
  unfolding does header_calls images
  keep_id xs o p =
      put_keeps now (adds told (document_id xs)) wants.DocumentId wants.Element (unless (eqb (length xs) 16) 5) (octets_of (document_id xs)) 0 now.at.start p λ i _ _.
      let h = i.h in
      let g = i.good in
      let size : length xs ≡ 16 = eqb-true (length xs) 16 (holds (eqb (length xs) 16) 5 p.faultless) in
      let h₁ : Header = header h.recorder h.start h.default h.others h.services xs in
      let all : told.latest ++ document_id xs ∷ [] ≡ header_calls h₁ = ap (λ (z : List Call). z ++ document_id xs ∷ []) i.said ∙ simp append_assoc in (
        record {
          h = h₁;
          items = [];
          header = good_header g.recorder g.start g.default g.few_others g.others g.few_services g.services size o;
          good = tt;
          is = behind (octets_of (document_id xs)) i.is ∙ (sym (images_snoc octets_of told.latest (document_id xs)) ∙ (ap (images octets_of) all ∙ (header_octets_lem h₁ ∙ sym (append-nil (header_image h₁)))));
          said = rw i.first (all ∙ sym (append-nil (header_calls h₁)));
          book_is = i.no_book;
          rows_is = i.no_rows;
        },
        i.no_start,
      )
