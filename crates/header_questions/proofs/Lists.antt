-- Where the strings of an accepted header stand: item n of a list behind the items before it, and the places of both counts from the lengths of what stands before them.
use Prim.Native.Nat.{ℕ, ◌+◌, ◌≤◌}
use mathlib.Core.Path.{◌≡◌, refl, sym, ap, ◌∙◌, subst}
use mathlib.Core.List.{List}
use mathlib.Core.Bool.{Bool, true, false}
use native.Mathlib.Omega.{arith}
use lib.ListN.{length}
use lib.Dec.{leb}
use borrow.Author.Tests.{leb-true, leb-false}
use Rattle.octets.specs.Limits.{longest}
use Rattle.octets.specs.Reading.{Read, ok, no, ◌then◌, choose, ends, is_ok, be, part, number, exactly, run}
use Rattle.octets.specs.Writing.{images, Each, Octet}
use Rattle.octets.specs.Answers.{says}
use Rattle.octets.specs.Asked.{nth, part_of, StandsAt, found_at}
use Rattle.octets.specs.declared.Refused.{Refused}
use Rattle.std.specs.Prelude.{Result, Ok, Err}
use Rattle.octets.proofs.Inverse.{several, chosen, after}
use Rattle.octets.proofs.Ends.{exactly_place, run_ends}
use Rattle.octets.proofs.Runs.{Item, run_item}
use Rattle.octets.proofs.Asked.{part_stands, nth_none, nth_some, number_is}
use Rattle.texts.specs.Texts.{text, led_image}
use Rattle.texts.proofs.Fields.{text_whole}
use Rattle.texts.proofs.Ends.{text_stands}
use Rattle.headers.specs.Header.{Namespace, Header, namespace_at, id_at, header_at, namespace_image}
use Rattle.headers.specs.Answers.{Located, Accepted}
use Rattle.headers.specs.declared.Places.{Places}
use Rattle.headers.proofs.Headers.{namespace_inverse}
use Rattle.header_questions.specs.Questions.{namespaces_place, services_place, namespace_asked, service_asked}
use Rattle.header_questions.specs.Places.{listed_at, IsText}

-- Item n of a list, where the items before it end.
module _ {A : Type 0} (s : List ℕ) (short : length s ≤ longest) (one : ℕ → Read A) (items : List A) (at end : ℕ)
    (counts : number 4 s at ≡ ok (length items) (at + 4)) (reads : run one (length items) (at + 4) ≡ ok items end)
    (n next : ℕ) (read : Read A) (is : read ≡ nth n at items next) where
  missing : length items ≤ n → (r : Result ℕ Refused) → says r ≡ no 18 at → StandsAt s one read r
  missing h (Ok p) e = absurd (let z : ◌≡◌ {A = ℕ} 0 1 = cc in omega arith)
  missing h (Err r) e =
      let a : r.number ≡ 18 = cc in
      let b : r.place ≡ at = cc in
      rw (a, b) (is ∙ nth_none n at items next h)

  there : Item one (at + 4) items n → (r : Result ℕ Refused) → says r ≡ ends (run (λ p. ends (one p)) n (at + 4)) → StandsAt s one read r
  there i (Ok p) e =
      let stop : ◌≡◌ {A = Read ℕ} (ok p p) (ok i.place i.place) = e ∙ (sym (run_ends one n (at + 4)) ∙ i.before) in
      let place : i.place ≡ p = cc in
      record {
        item = i.item;
        next = next;
        last = i.next;
        is = is ∙ nth_some n at items next i.is;
        reads = subst (λ (q : ℕ). one q ≡ ok i.item i.next) place i.reads;
        short = short;
      }
  there i (Err r) e =
      let stop : ◌≡◌ {A = Read ℕ} (no r.number r.place) (ok i.place i.place) = e ∙ (sym (run_ends one n (at + 4)) ∙ i.before) in
      absurd (let z : ◌≡◌ {A = ℕ} 0 1 = cc in omega arith)

  pub listed_stands : (r : Result ℕ Refused) → says r ≡ listed_at (λ p. ends (one p)) s at n → StandsAt s one read r
  unfolding listed_at
  listed_stands r e = go (leb (be 4 s at) n) refl e
    where
      go : (t : Bool) → leb (be 4 s at) n ≡ t → says r ≡ choose t (λ _. no 18 at) (λ _. ends (run (λ p. ends (one p)) n (at + 4))) → StandsAt s one read r
      go true t e = missing (omega (arith, leb-true (be 4 s at) n t, (number_is s 4 at (length items) (at + 4) counts).1)) r e
      go false t e = there (run_item one (length items) (at + 4) end n items reads (omega (arith, leb-false (be 4 s at) n t, (number_is s 4 at (length items) (at + 4) counts).1))) r e

-- The counts stand where the lengths of what is before them say.
module _ (s : List ℕ) (o : Each Octet s) (h : Header) (p : Places) (l : Located s h p) where
  text_place : (at : ℕ) (xs : List ℕ) (next : ℕ) → text s at ≡ ok xs next → (next ≡ at + length (led_image xs)) × (next ≤ length s)
  text_place at xs next e =
      let r = text_stands s at e in
      let f = ((text_whole s).forth o (omega (arith, r.head)) e).2 in
      (f.place, f.inside)

  pub namespaces_place_lem : p.namespaces ≡ namespaces_place h
  unfolding namespaces_place
  namespaces_place_lem =
      (text_place (p.start + 8) h.default p.namespaces l.default).0
      ∙ ap (λ (n : ℕ). n + 8 + length (led_image h.default)) (text_place 4 h.recorder p.start l.recorder).0

  pub services_place_lem : p.services ≡ services_place h
  unfolding services_place
  services_place_lem =
      let inside = (number_is s 4 p.namespaces (length h.others) (p.namespaces + 4) l.namespaces).0 in
      ((several (namespace_inverse s) (length h.others)).forth o inside l.others).2.place
      ∙ ap (λ (n : ℕ). n + 4 + length (images namespace_image h.others)) namespaces_place_lem

-- A list of an accepted header can be looked through: its count stands there.
module _ (s : List ℕ) (p : Places) (h : Accepted s (header_at s) p) where
  abbrev Counts : ℕ → Type 0
  Counts at = (at + 4 ≤ length s) × (length s ≤ longest)

  pub namespaces_count : Counts p.namespaces
  namespaces_count = ((number_is s 4 p.namespaces _ _ h.located.namespaces).0, h.short)

  pub services_count : Counts p.services
  services_count = ((number_is s 4 p.services _ _ h.located.counted).0, h.short)

-- What is asked of an accepted header's lists stands where the code looks.
module _ (s : List ℕ) (o : Each Octet s) (p : Places) (h : Accepted s (header_at s) p) (n : ℕ) (r : Result ℕ Refused) where
  pub namespace_stands : says r ≡ listed_at (λ q. ends (namespace_at s q)) s p.namespaces n → StandsAt s (namespace_at s) (namespace_asked s n) r
  unfolding namespace_asked
  namespace_stands e =
      let l = h.located in
      listed_stands s h.short (namespace_at s) h.header.others p.namespaces p.services l.namespaces l.others n p.end _
      (rw h.reads (ap (λ (q : ℕ). nth n q h.header.others p.end) (sym (namespaces_place_lem s o h.header p l)))) r e

  pub service_stands : says r ≡ listed_at (λ q. ends (text s q)) s p.services n → StandsAt s (text s) (service_asked s n) r
  unfolding service_asked
  service_stands e =
      let l = h.located in
      listed_stands s h.short (text s) h.header.services p.services p.id l.counted l.services n p.end _
      (rw h.reads (ap (λ (q : ℕ). nth n q h.header.services p.end) (sym (services_place_lem s o h.header p l)))) r e

-- Where the header is refused, so is what is asked of it.
module _ (s : List ℕ) (n : ℕ) (r : Refused) (no_header : header_at s ≡ no r.number r.place) where
  pub namespace_refused : StandsAt s (namespace_at s) (namespace_asked s n) (Err r)
  unfolding namespace_asked
  namespace_refused = rw no_header refl

  pub service_refused : StandsAt s (text s) (service_asked s n) (Err r)
  unfolding service_asked
  service_refused = rw no_header refl

-- A namespace is its two strings, one behind the other.
pub namespace_parts : (s : List ℕ) (at : ℕ) (x : Namespace) (next : ℕ) → namespace_at s at ≡ ok x next
    → (mid : ℕ) × (text s at ≡ ok x.uri mid) × (text s mid ≡ ok x.short next)
unfolding namespace_at
namespace_parts s at x next e = go (text s at) refl e
  where
    second : (uri : List ℕ) (mid : ℕ) → text s at ≡ ok uri mid → (q : Read (List ℕ)) → text s mid ≡ q
        → (q then λ short end. ok (record { uri = uri; short = short }) end) ≡ ok x next → (m : ℕ) × (text s at ≡ ok x.uri m) × (text s m ≡ ok x.short next)
    second uri mid f (ok short end) g e =
        let same : ◌≡◌ {A = Namespace} (record { uri = uri; short = short }) x = cc in
        let place : end ≡ next = cc in
        (mid, f ∙ ap (λ (y : Namespace). ok y.uri mid) same, g ∙ (ap (λ (y : Namespace). ok y.short end) same ∙ ap (ok x.short) place))
    second uri mid f (no m q) g e = absurd (let z : ◌≡◌ {A = ℕ} 0 1 = cc in omega arith)

    go : (r : Read (List ℕ)) → text s at ≡ r → (r then λ uri mid. text s mid then λ short end. ok (record { uri = uri; short = short }) end) ≡ ok x next
        → (m : ℕ) × (text s at ≡ ok x.uri m) × (text s m ≡ ok x.short next)
    go (ok uri mid) f e = second uri mid f (text s mid) refl e
    go (no m q) f e = absurd (let z : ◌≡◌ {A = ℕ} 0 1 = cc in omega arith)

-- The document id stands behind its length.
pub id_there : (s : List ℕ) (at : ℕ) (id : List ℕ) → id_at s at ≡ ok id (at + 20) → (at + 20 ≤ length s) × (part s (at + 4) 16 ≡ id)
unfolding id_at
id_there s at id e =
    after (exactly 16 5 s at) _ e λ m mid e₁ e₂.
    let place = exactly_place s at 16 5 m mid e₁ in
    let (t, e₃) = chosen (leb (mid + 16) (length s)) (λ _. ok (part s mid 16) (mid + 16)) 1 at e₂ in
    (omega (arith, leb-true (mid + 16) (length s) t), ap (λ (q : ℕ). part s q 16) (sym place) ∙ (let same : part s mid 16 ≡ id = cc in same))

-- Where a namespace was found its URI stands, and where a service definition was, that string.
module _ {A : Type 0} (s : List ℕ) (one : ℕ → Read A) (f : A → List ℕ) (string : (p : ℕ) (a : A) (last : ℕ) → one p ≡ ok a last → (end : ℕ) × (text s p ≡ ok (f a) end)) (read : Read A) where
  pub is_text : (r : Result ℕ Refused) → StandsAt s one read r → IsText s r
  is_text (Ok p) i = let (end, e) = string p i.item i.last i.reads in (i.short, ap is_ok e)
  is_text (Err q) i = tt

  pub text_shown : (r : Result ℕ Refused) → StandsAt s one read r → part_of {A = List ℕ} (λ x. x) (found_at (text s) r) ≡ part_of f read
  text_shown r i = here r i ∙ part_stands s one read f r i
    where
      here : (r : Result ℕ Refused) → StandsAt s one read r → part_of {A = List ℕ} (λ x. x) (found_at (text s) r) ≡ part_of f (found_at one r)
      here (Ok p) i = let (end, e) = string p i.item i.last i.reads in ap (part_of {A = List ℕ} (λ x. x)) e ∙ sym (ap (part_of f) i.reads)
      here (Err q) i = refl
