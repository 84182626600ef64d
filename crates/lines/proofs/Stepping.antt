-- Which element of an accepted step an answer tells.
use Prim.Native.Nat.{ℕ}
use mathlib.Core.Path.{◌≡◌, refl}
use mathlib.Core.Bool.{Bool}
use native.Mathlib.Omega.{arith}
use lib.IntN.{ℤ}
use lib.ListN.{length}
use Rattle.kinds.specs.Kinds.{signed}
use Rattle.layouts.specs.Layout.{Layout}
use Rattle.rows.specs.Row.{Row}
use Rattle.elements.specs.Element.{Element, item, layout, row, finish}
use Rattle.elements.specs.Answers.{met_of}
use Rattle.elements.specs.declared.Met.TheVariants as met

pub met_layout : (e : Element) (number count : ℕ) → met_of e ≡ met.Layout number count
    → (l : Layout) × (e ≡ item (layout l)) × (number ≡ l.number) × (count ≡ length l.attributes)
met_layout (item (layout l)) number count e =
    let a : number ≡ l.number = cc in
    let b : count ≡ length l.attributes = cc in
    (l, refl, a, b)
met_layout (item (row r)) number count e = absurd (let z : ◌≡◌ {A = ℕ} 0 1 = cc in omega arith)
met_layout (finish n t) number count e = absurd (let z : ◌≡◌ {A = ℕ} 0 1 = cc in omega arith)

pub met_row : (e : Element) (number : ℕ) (stated : Bool) (count : ℕ) → met_of e ≡ met.Row number stated count
    → (r : Row) × (e ≡ item (row r)) × (number ≡ r.number) × (count ≡ length r.fields)
met_row (item (layout l)) number stated count e = absurd (let z : ◌≡◌ {A = ℕ} 0 1 = cc in omega arith)
met_row (item (row r)) number stated count e =
    let a : number ≡ r.number = cc in
    let b : count ≡ length r.fields = cc in
    (r, refl, a, b)
met_row (finish n t) number stated count e = absurd (let z : ◌≡◌ {A = ℕ} 0 1 = cc in omega arith)

pub met_end : (e : Element) (count : ℕ) (time : ℤ) → met_of e ≡ met.End count time → (t : ℕ) × (e ≡ finish count t) × (signed 8 t ≡ time)
met_end (item (layout l)) count time e = absurd (let z : ◌≡◌ {A = ℕ} 0 1 = cc in omega arith)
met_end (item (row r)) count time e = absurd (let z : ◌≡◌ {A = ℕ} 0 1 = cc in omega arith)
met_end (finish n t) count time e =
    let a : n ≡ count = cc in
    let b : signed 8 t ≡ time = cc in
    (t, cc, b)
