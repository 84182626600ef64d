-- How a field is read: a value and the place behind it, or a refusal by number and place.
use Rattle.std.specs.Prelude.{ℕ, zero, suc, ◌+◌, ◌*◌, List, [], ◌∷◌, Bool, true, false, ◌&&◌, length, get_or, take, drop, leb, eqb}
use Rattle.octets.specs.declared.Room.{Room}
use Rattle.octets.specs.declared.Room.TheVariants.{Document, Stated}

-- What is read: the value and the next place, or the refusal's number and place and nothing else.
pub data Read (A : Type 0) : Type 0 where
  ok : A → ℕ → Read A
  no : ℕ → ℕ → Read A

infixl 20 ◌then◌
-- What follows a field, from its value and the place behind it. The first fault met in reading order is the one given.
abbrev pub ◌then◌ : {A B : Type 0} → Read A → (A → ℕ → Read B) → Read B
◌then◌ (ok a next) f = f a next
◌then◌ (no n p) f = no n p

-- The first answer where the test holds, else the second; only the chosen one is worked out.
abbrev pub choose : {A : Type 0} → Bool → (Unit {0} → A) → (Unit {0} → A) → A
choose true a b = a tt
choose false a b = b tt

-- A reading as its end alone: what a function that hands over no value answers.
abbrev pub ends : {A : Type 0} → Read A → Read ℕ
ends (ok a next) = ok next next
ends (no n p) = no n p

abbrev pub is_ok : {A : Type 0} → Read A → Bool
is_ok (ok a next) = true
is_ok (no n p) = false

-- The value read, or another where there is none.
abbrev pub value_or : {A : Type 0} → A → Read A → A
value_or other (ok a next) = a
value_or other (no n p) = other

-- All numbers are big-endian: the number that w octets from a place spell.
unfoldable pub be : ℕ → List ℕ → ℕ → ℕ
be zero s at = 0
be (suc w) s at = be w s at * 256 + get_or s (at + w) 0

-- The n octets from a place.
unfoldable pub part : List ℕ → ℕ → ℕ → List ℕ
part s at n = take n (drop at s)

-- How far a field may reach: to the document's end, or to the end of a row whose stated length stands at a place.
abbrev pub reach : Room → List ℕ → ℕ
reach Document s = length s
reach (Stated end length_at) s = end

-- Refusal 1, at the field or the length that passes the document's end; 13, at the row's length, inside a stated row.
abbrev pub overrun : {A : Type 0} → Room → ℕ → Read A
overrun Document at = no 1 at
overrun (Stated end length_at) at = no 13 length_at

-- A number of w octets.
unfoldable pub number_in : Room → ℕ → List ℕ → ℕ → Read ℕ
number_in room w s at = choose (leb (at + w) (reach room s)) (λ _. ok (be w s at) (at + w)) (λ _. overrun room at)

-- A number that only the document's end bounds.
abbrev pub number : ℕ → List ℕ → ℕ → Read ℕ
number = number_in Document

-- Refusal 4: a count over its limit, at the count.
unfoldable pub count : ℕ → List ℕ → ℕ → Read ℕ
count most s at = number 4 s at then λ n next. choose (leb n most) (λ _. ok n next) (λ _. no 4 at)

-- Four octets that spell a number given; any other is refused where it stands.
unfoldable pub exactly : ℕ → ℕ → List ℕ → ℕ → Read ℕ
exactly n refusal s at = number 4 s at then λ m next. choose (eqb m n) (λ _. ok m next) (λ _. no refusal at)

-- A run of k things, each read by f.
unfoldable pub run : {A : Type 0} → (ℕ → Read A) → ℕ → ℕ → Read (List A)
run f zero at = ok [] at
run f (suc k) at = f at then λ a next. run f k next then λ rest end. ok (a ∷ rest) end

-- Whether two runs of octets are equal.
abbrev pub same : List ℕ → List ℕ → Bool
same [] [] = true
same [] (y ∷ ys) = false
same (x ∷ xs) [] = false
same (x ∷ xs) (y ∷ ys) = eqb x y && same xs ys
