-- The image of a field: its octets.
use Rattle.std.specs.Prelude.{ℕ, zero, suc, ◌+◌, ◌/◌, ◌%◌, ◌<◌, List, [], ◌∷◌, ◌++◌, length, take, drop}

-- A number as w octets, the most significant first.
unfoldable pub word : ℕ → ℕ → List ℕ
word zero n = []
word (suc w) n = word w (n / 256) ++ n % 256 ∷ []

-- The images of a list's items, one after another.
unfoldable pub images : {A : Type 0} → (A → List ℕ) → List A → List ℕ
images f [] = []
images f (a ∷ rest) = f a ++ images f rest

-- Octets laid over a list from a place on; all else is as it was.
unfoldable pub over : List ℕ → ℕ → List ℕ → List ℕ
over s at xs = take at s ++ (xs ++ drop (at + length xs) s)

-- Every item of a list.
abbrev pub Each : {A : Type 0} → (A → Type 0) → List A → Type 0
Each P [] = Unit {0}
Each P (a ∷ rest) = P a × Each P rest

abbrev pub Octet : ℕ → Type 0
Octet x = x < 256
