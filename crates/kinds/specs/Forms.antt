-- A value by its form: how it is read, its image, and which values have one.
use Rattle.std.specs.Prelude.{ℕ, ◌^◌, ◌<◌, ◌≤◌, List, [], leb}
use Rattle.octets.specs.Reading.{Read, ok, no, ◌then◌, choose, number_in}
use Rattle.octets.specs.Writing.{word}
use Rattle.octets.specs.declared.Room.{Room}
use Rattle.texts.specs.Texts.{led_in, led_image, GoodLed}
use Rattle.kinds.specs.declared.Form.{Form}
use Rattle.kinds.specs.declared.Form.TheVariants.{Fixed, Truth, Led}

-- A number by its bits, or octets.
pub data Value : Type 0 where
  bits : ℕ → Value
  held : List ℕ → Value

-- A value that may reach as far as its room. Refusal 14: a boolean that is not 0 or 1, at that octet.
unfoldable pub value_in : Room → Form → List ℕ → ℕ → Read Value
value_in room (Fixed w) s at = number_in room w s at then λ n next. ok (bits n) next
value_in room Truth s at = number_in room 1 s at then λ n next. choose (leb n 1) (λ _. ok (bits n) next) (λ _. no 14 at)
value_in room (Led rule) s at = led_in rule room s at then λ xs next. ok (held xs) next

abbrev pub value_image : Form → Value → List ℕ
value_image (Fixed w) (bits n) = word w n
value_image (Fixed w) (held xs) = []
value_image Truth (bits n) = word 1 n
value_image Truth (held xs) = []
value_image (Led rule) (bits n) = []
value_image (Led rule) (held xs) = led_image xs

-- A value that its form has an image for.
abbrev pub GoodValue : Form → Value → Type 0
GoodValue (Fixed w) (bits n) = n < 256 ^ w
GoodValue (Fixed w) (held xs) = ⊥
GoodValue Truth (bits n) = n ≤ 1
GoodValue Truth (held xs) = ⊥
GoodValue (Led rule) (bits n) = ⊥
GoodValue (Led rule) (held xs) = GoodLed rule xs

-- A form of at most eight octets, as all in the table are.
abbrev pub Slim : Form → Type 0
Slim (Fixed w) = w ≤ 8
Slim Truth = Unit {0}
Slim (Led rule) = Unit {0}
