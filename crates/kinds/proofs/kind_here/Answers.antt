-- `kinds::kind_here` meets its contract: what a type number stands for that is known to be accepted. Assumes nothing.
use native.Mathlib.Omega.{arith}
use Prim.Native.Nat.{ℕ, ◌+◌, ◌%◌}
use mathlib.Core.Path.{◌≡◌, refl, sym, ap, ◌∙◌}
use mathlib.Core.Bool.{true}
use Rattle.std.specs.Prelude.{Result, Ok, Err, IsOk}
use Rattle.octets.specs.Reading.{is_ok}
use Rattle.octets.specs.declared.Fault.{Fault}
use Rattle.octets.proofs.Inverse.{ok_value}
use Rattle.kinds.specs.Kinds.{basic_of, kind_for, kind_at}
use Rattle.kinds.specs.Answers.{kinds}
use Rattle.kinds.specs.declared.Kind.{Kind}
use Rattle.kinds.proofs.Table.{kind_is, kind_ok, kind_low, kind_small}
use Rattle.kinds.proofs.kind_here.Goals as goal
use Rattle.kinds.proofs.kind_here.Lts
use Rattle.kinds.proofs.kind_here.Reads
use Rattle.kinds.proofs.kind_here.Tie

pub u32_at-requires : goal.u32_at-requires
u32_at-requires c = (kind_is c.args.s.now c.args.at c.requires).0

-- What the number stands for is what is read there.
told : (f : Lts.After-kind_by Tie.the-claims Reads.Pre Reads.Post) → let a = f.args in kinds a.at (a.at + 4) f.kind_by.result ≡ kind_at a.s.now a.at
told f =
    let a = f.args in
    f.kind_by.ensures a.at (a.at + 4)
    ∙ (ap (λ (n : ℕ). kind_for a.at n (a.at + 4) (basic_of (n % 256))) f.u32_at.ensures
    ∙ (sym (kind_low a.at _ (a.at + 4) (kind_small a.s.now a.at f.requires)) ∙ sym (kind_ok a.s.now a.at (kind_is a.s.now a.at f.requires).0)))

pub kind_by-requires : goal.kind_by-requires
kind_by-requires c = let small = kind_small c.args.s.now c.args.at c.requires in omega (arith, small, c.u32_at.ensures)

accepted : (at next : ℕ) (x : Result Kind Fault) → is_ok (kinds at next x) ≡ true → IsOk x
accepted at next (Ok k) e = refl
accepted at next (Err f) e = absurd (let z : ◌≡◌ {A = ℕ} 0 1 = cc in omega arith)

pub unwrap-requires : goal.unwrap-requires
unwrap-requires c = let a = c.args in accepted a.at (a.at + 4) c.kind_by.result (ap is_ok (told c.before) ∙ c.requires)

pub returns : goal.returns
returns c = λ k next e.
    let a = c.args in
    ok_value (sym (told c.before.before) ∙ ap (kinds a.at (a.at + 4)) c.unwrap.ensures) e
