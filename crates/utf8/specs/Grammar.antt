-- RFC 3629's own sentence: octets are UTF-8 where they are characters one behind another, each of a form that the table lists.
use Rattle.std.specs.Prelude.{ℕ, ◌≡◌, List, [], ◌∷◌, true, ◌⊎◌}
use Rattle.octets.specs.Writing.{images, Each}
use Rattle.utf8.specs.Utf8.{Range, within, forms, utf8}

-- As many octets as ranges, each in its own.
abbrev pub Fits : List Range → List ℕ → Type 0
Fits [] [] = Unit {0}
Fits [] (x ∷ xs) = ⊥
Fits (r ∷ rest) [] = ⊥
Fits (r ∷ rest) (x ∷ xs) = (within r x ≡ true) × Fits rest xs

abbrev pub Among : List Range → List (List Range) → Type 0
Among form [] = ⊥
Among form (line ∷ lines) = (line ≡ form) ⊎ Among form lines

pub record Character (xs : List ℕ) : Type 0 where
  pub form : List Range
  pub listed : Among form forms
  pub fits : Fits form xs

pub record Text (xs : List ℕ) : Type 0 where
  pub characters : List (List ℕ)
  pub each : Each Character characters
  pub is : images (λ c. c) characters ≡ xs

pub record Grammar (xs : List ℕ) : Type 0 where
  pub forth : utf8 xs ≡ true → Text xs
  pub back : Text xs → utf8 xs ≡ true
