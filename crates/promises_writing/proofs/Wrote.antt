-- The converse: whatever calls are made from a fresh state and an empty book, refused ones and giving up among them, where they end finished they have written the image of a document inside the limits, which is just what the accepted ones told.
-- Each accepted call keeps what stands at its turn, and a refused one leaves it; at the last turn that is a whole document. Assumes nothing.
use Prim.Native.Nat.{ℕ, ◌+◌, ◌-◌, ◌≤◌, max}
use mathlib.Core.Path.{◌≡◌, refl, sym, ap, ◌∙◌, subst}
use mathlib.Core.List.{List, [], ◌∷◌, ◌++◌, append_assoc, append-nil}
use mathlib.Core.Bool.{Bool, true, false}
use native.Mathlib.Omega.{arith}
use lib.ListN.{length, take, drop, replicate, length-replicate, replicate-append-replicate}
use lib.Seq.{drop_at, drop-append_seam, drop-append-add, drop-drop}
use lib.Dec.{leb, lit<}
use borrow.Author.Tests.{leb-true, leb-false}
use Rattle.octets.specs.Limits.{book_room}
use Rattle.texts.proofs.Fields.{text_none}
use Rattle.octets.specs.Reading.{Read, ok, no}
use Rattle.octets.specs.Writing.{word, images, Each}
use Rattle.octets.proofs.Spans.{length_word, word_octets, each_front, each_drop}
use Rattle.octets.proofs.Inverse.{after}
use Rattle.layouts.specs.Book.{Book, book_image, book_of}
use Rattle.layouts.proofs.Growing.{good_nil}
use Rattle.elements.specs.Reading.{reading}
use Rattle.elements.specs.Document.{Document, row_count, image, reading_of}
use Rattle.elements.proofs.Behind.{holding_of}
use Rattle.promises.proofs.Documents.{one_meaning}
use Rattle.writer.specs.declared.Wanted.{Wanted}
use Rattle.writer.specs.declared.Wanted.TheVariants as wants
use Rattle.writer.specs.Writer.{Call, recorder, start_time, default_namespace, namespace_count, uri, short_name, service_count, service, document_id, open_layout, type_name, attribute_count, attribute_name, attribute_type, open_row, value, close_row, give_up, finish, Written, Deed, does, call, run_calls}
use Rattle.promises_writing.specs.Promise.{book_behind, onto, begun, finished, Given, Bearing, more, opening, back, bearing, Account, nothing_told, tell, tell_all, kept_calls, Run, Forward, farther_as, farther, answering, goes_on, begins, ran, cleared, Going, Wrote}
use Rattle.writer.proofs.Calls.{passed_all}
use Rattle.promises_writing.proofs.Calls.{Runs, runs_both, runs_none, runs_one}
use Rattle.promises_writing.proofs.Standing.{Spot, spot, state_at, standing, onto_length}
use Rattle.promises_writing.proofs.Writes.{image_stands, reads}
use Rattle.promises_writing.proofs.Shapes.{Ended, Shape, Stand, rest, Inv, PassesHere, left_here}
use Rattle.promises_writing.proofs.KeepsHeader.{keep_recorder, keep_start, keep_default, keep_namespaces, keep_uri, keep_short, keep_services, keep_service, keep_id}
use Rattle.promises_writing.proofs.KeepsLayout.{keep_layout, keep_name, keep_attributes, keep_attribute, keep_type}
use Rattle.promises_writing.proofs.KeepsRow.{keep_row, keep_value, keep_close, keep_given_up, keep_finish}

-- A buffer cleared as far as one place, from another on: before it zeroes are left, and behind it all is as lent.
zeroes_from : (buffer : List ℕ) (p n : ℕ) → p ≤ n → drop p (cleared buffer n) ≡ replicate (n - p) 0 ++ drop n buffer
zeroes_from buffer p n h =
    let sum : p + (n - p) ≡ n = omega arith in
    subst (λ (m : ℕ). drop p (cleared buffer m) ≡ replicate (n - p) 0 ++ drop m buffer) sum (
    rw (length-replicate {A = ℕ} (p + (n - p)) 0, ← replicate-append-replicate {A = ℕ} p (n - p) 0, append_assoc (replicate p 0) (replicate (n - p) 0) (drop (p + (n - p)) buffer))
    (drop_at (replicate p 0) (replicate (n - p) 0 ++ drop (p + (n - p)) buffer) p (length-replicate {A = ℕ} p 0))
    )

as_lent : (buffer : List ℕ) (p n : ℕ) → n ≤ p → drop p (cleared buffer n) ≡ drop p buffer
as_lent buffer p n h =
    let long = length-replicate {A = ℕ} n 0 in
    let sum : length (replicate {A = ℕ} n 0) + (p - n) ≡ p = omega arith in
    let zeros : List ℕ = replicate n 0 in
    subst (λ (m : ℕ). drop m (cleared buffer n) ≡ drop m buffer) sum (drop-append-add zeros (drop (length zeros) buffer) (p - n) ∙ drop-drop (p - n) (length zeros) buffer)

cleared_length : (buffer : List ℕ) (n : ℕ) → n ≤ length buffer → length (cleared buffer n) ≡ length buffer
cleared_length buffer n h = onto_length buffer (replicate n 0) (omega (arith, length-replicate {A = ℕ} n 0))

-- Cleared farther: zeroes from the start of what was given up, then what lay behind it.
clears : (buffer : List ℕ) (far place start : ℕ) → start ≤ place → drop start (cleared buffer (max far place)) ≡ replicate (place - start) 0 ++ drop place (cleared buffer far)
clears buffer far place start h = go (leb far place) refl
  where
    go : (t : Bool) → leb far place ≡ t → drop start (cleared buffer (max far place)) ≡ replicate (place - start) 0 ++ drop place (cleared buffer far)
    go true e =
        let low : far ≤ place = leb-true far place e in
        let most : max far place ≡ place = omega arith in
        rw (most, as_lent buffer place far low) (zeroes_from buffer start place h)
    go false e =
        let low : place ≤ far = omega (arith, leb-false far place e) in
        let most : max far place ≡ far = omega arith in
        let sum : far - start ≡ (place - start) + (far - place) = omega arith in
        rw (most, zeroes_from buffer place far low, zeroes_from buffer start far (omega arith), sum, ← replicate-append-replicate {A = ℕ} (place - start) (far - place) 0)
        (append_assoc (replicate (place - start) 0) (replicate (far - place) 0) (drop far buffer))

-- One call more told.
tell_snoc : (t : Account) (cs : List Call) (c : Call) → tell_all t (cs ++ c ∷ []) ≡ tell (tell_all t cs) c
tell_snoc t [] c = refl
tell_snoc t (d ∷ cs) c = tell_snoc (tell t d) cs c

module _ (buffer lent : List ℕ) (long : book_room ≤ length lent) where
  -- What stands, over the buffer with zeroes as far as the farthest place from which an element was given up.
  record Held (told : Account) (far : ℕ) (w : Written) : Type 0 where
    low : far ≤ length buffer
    inv : Inv (cleared buffer far) lent told w

  module _ {so_far : Account} {far : ℕ} (low : far ≤ length buffer) (now : Stand (cleared buffer far) lent so_far) where
    -- What a call is here, and what it leaves.
    abbrev deed : Call → Deed
    deed c = does (state_at now.done now.at) (now.done ++ rest now) now.at.book c

    -- A call that gives nothing up leaves the farthest place.
    same_far : {told : Account} {w : Written} → Inv (cleared buffer far) lent told w → Held told far w
    same_far i = record { low = low; inv = i }

    given_up : PassesHere now (deed give_up) → Held (tell so_far give_up) (max far (length now.done)) (left_here now (deed give_up))
    unfolding does
    given_up p =
        let place : ℕ = length now.done in
        let room : length (cleared buffer far) ≡ length buffer = cleared_length buffer far low in
        let inside = now.inside in
        let most : max far place ≤ length buffer = omega arith in
        let head = p.inside.head p.in_turn in
        record {
          low = most;
          inv = keep_given_up now (cleared buffer (max far place)) (cleared_length buffer (max far place) most ∙ sym room) (clears buffer far place now.at.start (omega arith)) p;
        }

    -- Every call that can be given.
    keep : (c : Call) → Given c → PassesHere now (deed c) → Held (tell so_far c) (farther far (state_at now.done now.at) c) (left_here now (deed c))
    keep (recorder xs) g p = same_far (keep_recorder now xs g p)
    keep (start_time n) g p = same_far (keep_start now n g p)
    keep (default_namespace xs) g p = same_far (keep_default now xs g p)
    keep (namespace_count n) g p = same_far (keep_namespaces now n p)
    keep (uri xs) g p = same_far (keep_uri now xs g p)
    keep (short_name xs) g p = same_far (keep_short now xs g p)
    keep (service_count n) g p = same_far (keep_services now n p)
    keep (service xs) g p = same_far (keep_service now xs g p)
    keep (document_id xs) g p = same_far (keep_id now xs g p)
    keep (open_layout n) g p = same_far (keep_layout now n g p)
    keep (type_name xs) g p = same_far (keep_name now xs g p)
    keep (attribute_count n) g p = same_far (keep_attributes now n p)
    keep (attribute_name xs) g p = same_far (keep_attribute now xs g p)
    keep (attribute_type t) g p = same_far (keep_type now t p)
    keep (open_row n stated) g p = same_far (keep_row now n stated g p)
    keep (value b v) g p = same_far (keep_value now b v g p)
    keep close_row g p = same_far (keep_close now p)
    keep give_up g p = given_up p
    keep (finish n) g p = same_far (keep_finish now n g p)

  -- One call that is accepted.
  call_keeps : (so_far : Account) (far : ℕ) (w : Written) (c : Call) → Held so_far far w → Given c → {v : Written} {n : ℕ}
      → call w.state w.buffer w.book w.used c ≡ ok v n → Held (tell so_far c) (farther far w.state c) v
  call_keeps so_far far w c h g {v} {n} e =
      let i = h.inv in
      let now = i.stand in
      let b : Book = now.at.book in
      let here = passed_all (state_at now.done now.at) (now.done ++ rest now) (onto lent (book_image b)) (length (book_image b)) c
      (subst (λ (x : Written). call x.state x.buffer x.book x.used c ≡ ok v n) i.is e) (holding_of b lent now.good long) in
      subst (λ (x : Written). Held (tell so_far c) (farther far x.state c) v) (sym i.is)
      (subst (Held (tell so_far c) (farther far (state_at now.done now.at) c)) (sym here.left) (keep h.low now c g here.passes))

  -- A run as far as it went.
  record Kept (r : Run) : Type 0 where
    held : Held (tell_all nothing_told r.accepted) r.farthest r.now
    runs : Runs r.accepted (begun buffer lent) r.now

  answer_keeps : (r : Run) (c : Call) → Given c → Kept r → Kept (answering r c (call r.now.state r.now.buffer r.now.book r.now.used c))
  answer_keeps r c g k = go (call r.now.state r.now.buffer r.now.book r.now.used c) refl
    where
      go : (x : Read Written) → call r.now.state r.now.buffer r.now.book r.now.used c ≡ x → Kept (answering r c x)
      go (ok v n) e =
          let held : Held (tell (tell_all nothing_told r.accepted) c) (farther r.farthest r.now.state c) v = call_keeps _ r.farthest r.now c k.held g e in
          record {
            held = subst (λ (t : Account). Held t (farther r.farthest r.now.state c) v) (sym (tell_snoc nothing_told r.accepted c)) held;
            runs = runs_both k.runs (runs_one c r.now e);
          }
      go (no n p) e = k

  run_keeps : (r : Run) (cs : List Call) → Each Given cs → Kept r → Kept (goes_on r cs)
  unfolding goes_on
  run_keeps r [] g k = k
  run_keeps r (c ∷ cs) g k = run_keeps (answering r c (call r.now.state r.now.buffer r.now.book r.now.used c)) cs g.1 (answer_keeps r c g.0 k)

  begun_stands : Inv buffer lent nothing_told (begun buffer lent)
  unfolding book_image images
  begun_stands =
      record {
        stand =
            record {
              done = [];
              at = spot [] wants.Recorder 0 0 0;
              inside = omega arith;
              good = good_nil;
              shape =
                  record {
                    h = record { recorder = []; start = 0; default = []; others = []; services = []; id = word 16 0 };
                    n = 0;
                    name = [];
                    good =
                        record {
                          recorder = text_none;
                          start = lit< tt;
                          default = text_none;
                          few_others = omega arith;
                          others = tt;
                          few_services = omega arith;
                          services = tt;
                          id_length = length_word 16 0;
                          id = word_octets 16 0;
                        };
                    text = text_none;
                    counts = tt;
                    said = refl;
                    is = refl;
                    first = refl;
                    no_start = refl;
                    no_rows = refl;
                    no_book = refl;
                  };
            };
        is = refl;
      }

  begins_kept : Kept (begins buffer lent)
  begins_kept = record { held = record { low = omega arith; inv = begun_stands }; runs = runs_none }

  kept : (calls : List Call) → Each Given calls → Kept (ran calls buffer lent)
  kept calls g = run_keeps (begins buffer lent) calls g begins_kept

-- What stands where a document is whole.
finished_stands : (buffer book done : List ℕ) (x : Spot) (d : Document) → done ≡ image d → x ≡ spot (book_behind [] d.items) wants.Nothing 0 0 (row_count d.items)
    → standing book done (drop (length done) buffer) x ≡ finished d buffer book
unfolding finished
finished_stands buffer book done x d is spot_is = rw (is, spot_is)

module _ (calls : List Call) (given : Each Given calls) (buffer book : List ℕ) (long : book_room ≤ length book) where
  -- At every point of a run.
  pub going : Going buffer book (ran calls buffer book)
  going =
      let k = kept buffer book long calls given in
      let i = k.held.inv in
      let done : List ℕ = i.stand.done in
      let b : Book = i.stand.at.book in
      let far : ℕ = (ran calls buffer book).farthest in
      record {
        alone = k.runs.runs;
        behind = subst (λ (x : Written). drop x.state.place x.buffer ≡ drop x.state.place (cleared buffer far)) (sym i.is) (drop-append_seam done (drop (length done) (cleared buffer far)));
        layouts = b;
        again = subst (λ (x : Written). book_of x.book x.used ≡ ok b x.used) (sym i.is) (holding_of b book i.stand.good long);
      }

  -- Where it ends finished, what its accepted calls told is a document inside the limits, and it stands written.
  pub wrote : (ran calls buffer book).now.state.turn ≡ wants.Nothing → Wrote buffer book (ran calls buffer book)
  unfolding kept_calls
  wrote last =
      let r : Run = ran calls buffer book in
      let i = (kept buffer book long calls given).held.inv in
      let now = i.stand in
      let all : Account = tell_all nothing_told r.accepted in
      let turn : now.at.turn ≡ wants.Nothing = sym (ap (λ (x : Written). x.state.turn) i.is) ∙ last in
      let end : Ended now.at now.done all = subst (λ (t : Wanted). Shape t now.at now.done all) turn now.shape in
      record {
        document = end.d;
        good = end.good;
        said = end.said;
        left = i.is ∙ finished_stands (cleared buffer r.farthest) book now.done now.at end.d end.is end.spot_is;
      }

-- What a finished run has written is read back as the document that was told.
pub reads_back : {buffer book : List ℕ} {r : Run} (h : Wrote buffer book r)
    → reading (take r.now.state.place r.now.buffer) ≡ ok (reading_of h.document) r.now.state.place
reads_back h =
    subst (λ (x : Written). reading (take x.state.place x.buffer) ≡ ok (reading_of h.document) x.state.place) (sym h.left) (reads h.document h.good _ _)

-- Only one document can have been written.
pub wrote_once : {buffer book : List ℕ} {r : Run} (g h : Wrote buffer book r) → g.document ≡ h.document
wrote_once g h = one_meaning g.document h.document g.good h.good (sym (stands_at g) ∙ stands_at h)
  where
    stands_at : {buffer book : List ℕ} {r : Run} (k : Wrote buffer book r) → take r.now.state.place r.now.buffer ≡ image k.document
    stands_at k = subst (λ (x : Written). take x.state.place x.buffer ≡ image k.document) (sym k.left) (image_stands k.document _ _)

-- Calls that are all accepted are a run of just these.
runs_on : (r : Run) (cs : List Call) {v : Written} {n : ℕ} → run_calls cs r.now ≡ ok v n → ((goes_on r cs).now ≡ v) × ((goes_on r cs).accepted ≡ r.accepted ++ cs)
unfolding goes_on run_calls
runs_on r [] e = (cc, sym (append-nil r.accepted))
runs_on r (c ∷ cs) {v} e =
    after (call r.now.state r.now.buffer r.now.book r.now.used c) _ e λ u m e₁ e₂.
    let (is, all) = runs_on (answering r c (ok u m)) cs e₂ in
    subst (λ (x : Read Written). ((goes_on (answering r c x) cs).now ≡ v) × ((goes_on (answering r c x) cs).accepted ≡ r.accepted ++ c ∷ cs)) (sym e₁) (is, all ∙ append_assoc r.accepted (c ∷ []) cs)

pub all_accepted : (cs : List Call) (buffer book : List ℕ) {v : Written} {n : ℕ} → run_calls cs (begun buffer book) ≡ ok v n
    → ((ran cs buffer book).now ≡ v) × ((ran cs buffer book).accepted ≡ cs)
all_accepted cs buffer book e = runs_on (begins buffer book) cs e

-- Where no accepted call gave up, the farthest place is 0: behind the place all is as lent.
same_place : (b : Bearing) (far place : ℕ) → (b ≡ back → ⊥) → farther_as b far place ≡ far
same_place more far place h = refl
same_place opening far place h = refl
same_place back far place h = absurd (h refl)

stays : (r : Run) (cs : List Call) → (Each Forward r.accepted → r.farthest ≡ 0) → Each Forward (goes_on r cs).accepted → (goes_on r cs).farthest ≡ 0
unfolding goes_on
stays r [] h all = h all
stays r (c ∷ cs) h all = stays (answering r c (call r.now.state r.now.buffer r.now.book r.now.used c)) cs (go (call r.now.state r.now.buffer r.now.book r.now.used c)) all
  where
    go : (x : Read Written) → Each Forward (answering r c x).accepted → (answering r c x).farthest ≡ 0
    go (ok v n) f =
        let last : Each Forward (c ∷ []) =
        subst (Each Forward) (drop-append_seam r.accepted (c ∷ [])) (each_drop Forward (length r.accepted) (r.accepted ++ c ∷ []) f) in
        same_place (bearing c) r.farthest r.now.state.place last.0 ∙ h (each_front Forward r.accepted (c ∷ []) f)
    go (no n p) f = h f

pub never_given_up : (cs : List Call) (buffer book : List ℕ) → Each Forward (ran cs buffer book).accepted → (ran cs buffer book).farthest ≡ 0
never_given_up cs buffer book all = stays (begins buffer book) cs (λ _. refl) all
