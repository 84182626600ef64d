-- Octets behind a length: how they are read by a rule, their image, and which have one.
use Rattle.std.specs.Prelude.{ℕ, ◌+◌, ◌^◌, ◌<◌, ◌≡◌, List, ◌++◌, Bool, true, length, leb}
use Rattle.octets.specs.Reading.{Read, ok, no, ◌then◌, choose, part, reach, overrun, number_in}
use Rattle.octets.specs.Writing.{word, Each, Octet}
use Rattle.octets.specs.declared.Room.{Room}
use Rattle.octets.specs.declared.Room.TheVariants.{Document}
use Rattle.utf8.specs.Utf8.{utf8}
use Rattle.texts.specs.declared.Rule.{Rule}
use Rattle.texts.specs.declared.Rule.TheVariants.{Free, Characters}

-- Whether octets are what a rule asks: the one test of a string, for its reading, its image and the writer.
abbrev pub holds : Rule → List ℕ → Bool
holds Free xs = true
holds Characters xs = utf8 xs

-- The refusal where they are not. 24: a string that is not UTF-8. Free octets always are: their number is never given.
abbrev pub fault : Rule → ℕ
fault Free = 0
fault Characters = 24

-- A four-octet length and that many octets, perhaps none; where they do not fit, the place is the length's.
unfoldable pub octets_in : Room → List ℕ → ℕ → Read (List ℕ)
octets_in room s at =
    number_in room 4 s at then λ n next.
    choose (leb (next + n) (reach room s)) (λ _. ok (part s next n) (next + n)) (λ _. overrun room at)

-- The same by a rule, which is asked of them when they are known to be there; where they break it, the place is the length's too.
unfoldable pub led_in : Rule → Room → List ℕ → ℕ → Read (List ℕ)
led_in rule room s at = octets_in room s at then λ xs next. choose (holds rule xs) (λ _. ok xs next) (λ _. no (fault rule) at)

-- A string that only the document's end bounds.
abbrev pub text : List ℕ → ℕ → Read (List ℕ)
text = led_in Characters Document

-- A four-octet length and that many octets. No padding anywhere.
unfoldable pub led_image : List ℕ → List ℕ
led_image xs = word 4 (length xs) ++ xs

-- Those that have an image: octets that are what the rule asks, and whose count fits a four-octet length.
abbrev pub GoodLed : Rule → List ℕ → Type 0
GoodLed rule xs = Each Octet xs × (length xs < 2 ^ 32) × (holds rule xs ≡ true)

abbrev pub GoodText : List ℕ → Type 0
GoodText = GoodLed Characters
