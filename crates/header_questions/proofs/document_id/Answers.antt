-- `header_questions::document_id` meets its contract: sixteen octets behind their length. Assumes nothing.
use native.Mathlib.Omega.{arith}
use Prim.Native.Nat.{ℕ, ◌+◌, ◌-◌}
use mathlib.Core.List.{List}
use mathlib.Core.Path.{◌≡◌, sym, ap, ◌∙◌}
use native.Mathlib.Nat.{add-sub_cancel_left}
use Rattle.octets.specs.Reading.{part}
use Rattle.octets.specs.Asked.{part_of}
use Rattle.headers.specs.Header.{Header}
use lib.ListN.{take, drop}
use Rattle.header_questions.proofs.Lists.{id_there}
use Rattle.header_questions.proofs.document_id.Goals as goal

-- The part from the octets' first place to the one sixteen behind it.
sixteen : (s : List ℕ) (at : ℕ) → take (at + 4 + 16 - (at + 4)) (drop (at + 4) s) ≡ part s (at + 4) 16
unfolding part
sixteen s at = ap (λ (n : ℕ). take n (drop (at + 4) s)) (add-sub_cancel_left (at + 4) 16)

pub returns : goal.returns
returns c =
    let h = c.in-Ok.ensures in
    let s = c.args.doc.now in
    sixteen s c.in-Ok.places.id ∙ ((id_there s c.in-Ok.places.id h.header.id h.located.id).1 ∙ sym (ap (part_of (λ (x : Header). x.id)) h.reads))

pub overflow_add-start : goal.overflow_add-start
overflow_add-start c = let h = c.in-Ok.ensures in omega (arith, h.short, (id_there _ _ _ h.located.id).0)

pub overflow_add-stop : goal.overflow_add-stop
overflow_add-stop c = let h = c.in-Ok.ensures in omega (arith, h.short, (id_there _ _ _ h.located.id).0)

pub slice_bounds-result-end-2 : goal.slice_bounds-result-end-2
slice_bounds-result-end-2 c = let h = c.in-Ok.ensures in omega (arith, (id_there _ _ _ h.located.id).0)
