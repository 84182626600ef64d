-- The calls of a header put its image.
-- A call that puts octets and meets no fault is accepted where they fit; runs of such calls join. Assumes nothing.
use Prim.Native.Nat.{ℕ, suc, ◌+◌, ◌-◌, ◌≤◌}
use mathlib.Core.Path.{◌≡◌, refl, ap, subst}
use mathlib.Core.List.{List, [], ◌∷◌, ◌++◌, append_assoc, append-nil}
use native.Mathlib.Omega.{arith}
use lib.ListN.{length, drop, length-append}
use lib.Dec.{leb, eqb, eqb-suc-zero}
use borrow.Author.Tests.{le-leb, eq-eqb}
use Rattle.octets.specs.Limits.{most_rows, book_room}
use Rattle.octets.specs.Writing.{word, images, Each}
use Rattle.texts.specs.Texts.{led_image, GoodText}
use Rattle.texts.specs.declared.Rule.TheVariants.{Characters}
use Rattle.layouts.specs.Book.{Book, book_image, GoodBook}
use Rattle.headers.specs.Header.{Namespace, Header, namespace_image, header_image, GoodHeader, GoodNamespace}
use Rattle.elements.proofs.Behind.{holding_of}
use Rattle.writing_parts.specs.Faults.{Fault, fine, unless}
use Rattle.writer.specs.declared.Wanted.{Wanted}
use Rattle.writer.specs.declared.Wanted.TheVariants as wants
use Rattle.writer.specs.Writer.{Call, recorder, start_time, default_namespace, namespace_count, uri, short_name, service_count, service, document_id, Written, room, asks, order_of, put, turn_at, does, breach}
use Rattle.writer.proofs.Bounds.{Bounds}
use Rattle.writer.proofs.Values.{unbroken}
use Rattle.writer.proofs.Calls.{Passes, accepted}
use Rattle.promises_writing.specs.Promise.{each, namespace_calls, service_calls, header_calls, onto}
use Rattle.promises_writing.proofs.Calls.{Runs, runs_both, runs_none, runs_one}
use Rattle.promises_writing.proofs.Standing.{Spot, spot, state_at, standing, onto_length, drop_on, put_leaves}

-- What stands in a lent buffer whose first octets were written, all behind them as lent.
abbrev pub stand : (buffer lent done : List ℕ) → Spot → Written
stand buffer lent done x = standing lent done (drop (length done) buffer) x

pub room_long : (size : ℕ) → room size ≤ size
unfolding room
room_long size = omega arith

pub room_same : (buffer done : List ℕ) → length done ≤ room (length buffer) → room (length (onto buffer done)) ≡ room (length buffer)
room_same buffer done h = ap room (onto_length buffer done (omega (arith, room_long (length buffer))))

-- Calls that put octets behind those written, where they fit.
pub record Puts (buffer lent : List ℕ) (cs : List Call) (xs done : List ℕ) (x y : Spot) : Type 0 where
  pub runs : length (done ++ xs) ≤ room (length buffer) → Runs cs (stand buffer lent done x) (stand buffer lent (done ++ xs) y)

module _ {buffer lent : List ℕ} where
  pub puts_none : {done : List ℕ} {x : Spot} → Puts buffer lent [] [] done x x
  puts_none {done} = record { runs = λ h. rw (append-nil done) runs_none }

  pub puts_both : {a b : List Call} {xs ys done : List ℕ} {x y z : Spot} → Puts buffer lent a xs done x y → Puts buffer lent b ys (done ++ xs) y z
      → Puts buffer lent (a ++ b) (xs ++ ys) done x z
  puts_both {xs = xs} {ys} {done} p q =
      record {
        runs = λ h.
            let e = append_assoc done xs ys in
            let m : length ((done ++ xs) ++ ys) ≤ room (length buffer) = rw e h in
            runs_both (p.runs (omega (arith, length-append (done ++ xs) ys))) (rw e at (q.runs m));
      }

  -- The same octets by another name.
  pub puts_as : {cs : List Call} {xs ys done : List ℕ} {x y : Spot} → xs ≡ ys → Puts buffer lent cs xs done x y → Puts buffer lent cs ys done x y
  puts_as {cs} {done = done} {x} {y} e p = subst (λ (zs : List ℕ). Puts buffer lent cs zs done x y) e p

-- A state in which a call may put octets.
pub record Ready (x : Spot) (place : ℕ) : Type 0 where
  pub least : (asks x.turn).least ≤ x.count
  pub most : x.count ≤ (asks x.turn).most
  pub rows : x.rows ≤ most_rows
  pub head : x.start + (asks x.turn).head ≤ place

pub ready_bounds : (buffer done : List ℕ) (x : Spot) → Ready x (length done) → length done ≤ room (length buffer) → Bounds (state_at done x) (length (onto buffer done))
ready_bounds buffer done x r h =
    record { place = rw (room_same buffer done h) h; least = r.least; most = r.most; rows = r.rows; head = λ _. r.head }

module _ (buffer lent : List ℕ) (long : book_room ≤ length lent) where
  -- One call that puts octets and has no fault.
  pub put_one : (c : Call) (done xs : List ℕ) (x : Spot) (u : Wanted) (j i : ℕ) (fault : Fault) → GoodBook x.book
      → does (state_at done x) (onto buffer done) x.book c ≡ put (state_at done x) x.turn fault xs u j i → fault ≡ fine → Ready x (length done)
      → Puts buffer lent (c ∷ []) xs done x (spot x.book u j i x.rows)
  put_one c done xs x u j i fault good e f r =
      record {
        runs = λ h.
            let sum = length-append done xs in
            let p : Passes (state_at done x) (onto buffer done) (length (book_image x.book)) x.book (put (state_at done x) x.turn fault xs u j i) =
            record {
              inside = ready_bounds buffer done x r (omega arith);
              in_turn = eq-eqb (order_of x.turn) (order_of x.turn) refl;
              faultless = f;
              learnt = refl;
              fits = rw (room_same buffer done (omega arith)) (omega arith);
            } in
            runs_one c (stand buffer lent done x)
            (rw (e, put_leaves lent done (drop (length done) buffer) x x.turn u fault xs j i, drop_on buffer done xs) at
            (accepted (state_at done x) (onto buffer done) (onto lent (book_image x.book)) (length (book_image x.book)) (holding_of x.book lent good long) c (rw e p)));
      }

  module _ (b : Book) (good : GoodBook b) where
    namespaces_put : (ns : List Namespace) (done : List ℕ) → length ns ≤ 16 → Each GoodNamespace ns
        → Puts buffer lent (each namespace_calls ns) (images namespace_image ns) done (spot b (turn_at (length ns) wants.Uri wants.ServiceCount) (length ns) 0 0) (spot b wants.ServiceCount 0 0 0)
    unfolding images namespace_image does
    namespaces_put [] done h g = puts_none
    namespaces_put (n ∷ ns) done h g =
        let less : suc (length ns) - 1 ≡ length ns = omega arith in
        rw (eqb-suc-zero (length ns))
        (puts_both {a = namespace_calls n}
        (puts_both {a = uri n.uri ∷ []} {b = short_name n.short ∷ []}
        (put_one (uri n.uri) done (led_image n.uri) (spot b wants.Uri (suc (length ns)) 0 0) wants.ShortName (suc (length ns)) 0 (breach Characters n.uri) good refl (unbroken Characters n.uri g.0.uri.2) (omega arith))
        (put_one (short_name n.short) (done ++ led_image n.uri) (led_image n.short) (spot b wants.ShortName (suc (length ns)) 0 0)
        (turn_at (length ns) wants.Uri wants.ServiceCount) (length ns) 0 (breach Characters n.short) good (rw less) (unbroken Characters n.short g.0.short.2) (omega arith)))
        (namespaces_put ns (done ++ (led_image n.uri ++ led_image n.short)) (omega arith) g.1))

    services_put : (ss : List (List ℕ)) (done : List ℕ) → length ss ≤ 16 → Each GoodText ss
        → Puts buffer lent (each service_calls ss) (images led_image ss) done (spot b (turn_at (length ss) wants.Service wants.DocumentId) (length ss) 0 0) (spot b wants.DocumentId 0 0 0)
    unfolding images does
    services_put [] done h g = puts_none
    services_put (x ∷ ss) done h g =
        let less : suc (length ss) - 1 ≡ length ss = omega arith in
        rw (eqb-suc-zero (length ss))
        (puts_both {a = service_calls x}
        (put_one (service x) done (led_image x) (spot b wants.Service (suc (length ss)) 0 0) (turn_at (length ss) wants.Service wants.DocumentId) (length ss) 0 (breach Characters x) good (rw less) (unbroken Characters x g.0.2) (omega arith))
        (services_put ss (done ++ led_image x) (omega arith) g.1))

    pub header_put : (h : Header) → GoodHeader h → Puts buffer lent (header_calls h) (header_image h) [] (spot b wants.Recorder 0 0 0) (spot b wants.Element 0 0 0)
    unfolding header_image header_calls does
    header_put h g =
        puts_as (simp append_assoc)
        (puts_both {a = recorder h.recorder ∷ start_time h.start ∷ default_namespace h.default ∷ namespace_count (length h.others) ∷ []}
        (puts_both {a = recorder h.recorder ∷ []}
        (put_one (recorder h.recorder) [] (word 4 4 ++ led_image h.recorder) (spot b wants.Recorder 0 0 0) wants.StartTime 0 0 (breach Characters h.recorder) good refl (unbroken Characters h.recorder g.recorder.2) (omega arith))
        (puts_both {a = start_time h.start ∷ []}
        (put_one (start_time h.start) _ (word 8 h.start) (spot b wants.StartTime 0 0 0) wants.DefaultNamespace 0 0 fine good refl refl (omega arith))
        (puts_both {a = default_namespace h.default ∷ []}
        (put_one (default_namespace h.default) _ (led_image h.default) (spot b wants.DefaultNamespace 0 0 0) wants.NamespaceCount 0 0 (breach Characters h.default) good refl (unbroken Characters h.default g.default.2) (omega arith))
        (put_one (namespace_count (length h.others)) _ (word 4 (length h.others)) (spot b wants.NamespaceCount 0 0 0) (turn_at (length h.others) wants.Uri wants.ServiceCount) (length h.others) 0
        (unless (leb (length h.others) 16) 4) good refl (rw (le-leb (length h.others) 16 g.few_others)) (omega arith)))))
        (puts_both {a = each namespace_calls h.others} (namespaces_put h.others _ g.few_others g.others)
        (puts_both {a = service_count (length h.services) ∷ []}
        (put_one (service_count (length h.services)) _ (word 4 (length h.services)) (spot b wants.ServiceCount 0 0 0) (turn_at (length h.services) wants.Service wants.DocumentId) (length h.services) 0
        (unless (leb (length h.services) 16) 4) good refl (rw (le-leb (length h.services) 16 g.few_services)) (omega arith))
        (puts_both {a = each service_calls h.services} (services_put h.services _ g.few_services g.services)
        (put_one (document_id h.id) _ (word 4 16 ++ h.id ++ word 4 0xffffffff) (spot b wants.DocumentId 0 0 0) wants.Element 0 0
        (unless (eqb (length h.id) 16) 5) good refl (rw (eq-eqb (length h.id) 16 g.id_length)) (omega arith))))))
