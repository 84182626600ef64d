-- The texts that programs print, as octets, and what it is to print one.
use Rattle.std.specs.Prelude.{ℕ, zero, suc, ◌+◌, ◌-◌, ◌/◌, ◌%◌, ◌≡◌, List, [], ◌∷◌, ◌++◌, Bool, true, false, cond, ◌&&◌, not, length, take, set, leb, ltb, eqb, ℤ, pos, negsuc}
use Prim.Native.Char.{code}
use Prim.Native.String as str
use Rattle.octets.specs.Writing.{images}
use Rattle.printing.specs.declared.Show.{Show}
use Rattle.printing.specs.declared.Show.TheVariants.{Plain, Hex, Escaped}

-- The octets of a literal, which is ASCII.
abbrev pub spelt : str.String → List ℕ
spelt str.[] = []
spelt (str.◌∷◌ c s) = code c ∷ spelt s

-- A lent buffer, and how many of its octets wait to be written out.
pub data Held : Type 0 where
  held : List ℕ → ℕ → Held

abbrev pub waiting : Held → List ℕ
waiting (held buffer n) = take n buffer

-- One octet more: behind what waits, or at the start of a full buffer, which is written out first. Without a buffer nothing waits.
unfoldable pub put : Held → ℕ → Held
put (held buffer n) x = cond (ltb n (length buffer)) (held (set buffer n x) (n + 1)) (cond (eqb (length buffer) 0) (held buffer 0) (held (set buffer 0 x) 1))

-- What is written out for it: nothing, the full buffer, or without one the octet itself.
unfoldable pub goes : Held → ℕ → List ℕ
goes (held buffer n) x = cond (ltb n (length buffer)) [] (cond (eqb (length buffer) 0) (x ∷ []) buffer)

-- A text's octets one after another, and what is written out meanwhile.
unfoldable pub puts : Held → List ℕ → Held
puts h [] = h
puts h (x ∷ xs) = puts (put h x) xs

unfoldable pub gone : Held → List ℕ → List ℕ
gone h [] = []
gone h (x ∷ xs) = goes h x ++ gone (put h x) xs

-- To print a text is to put its octets: it settles the whole buffer and how much of it waits.
pub record Prints (before : List ℕ) (n : ℕ) (text after : List ℕ) (r : ℕ) : Type 0 where
  pub is : held after r ≡ puts (held before n) text

-- A digit: from 10 on a letter, of which the first is given.
abbrev pub digit : ℕ → ℕ → ℕ
digit ten d = cond (ltb d 10) (48 + d) (ten + (d - 10))

-- An octet as two hex digits.
abbrev pub pair : ℕ → ℕ → List ℕ
pair ten x = digit ten (x / 16) ∷ digit ten (x % 16) ∷ []

-- The octets of a string that stand for themselves: those from 21 to 7E hex, "%" excepted.
abbrev pub is_plain : ℕ → Bool
is_plain x = leb 0x21 x && (leb x 0x7e && not (eqb x 0x25))

-- How an octet is shown: as it is, as two lower-case hex digits, or, where it does not stand for itself, as "%" and two capital ones.
abbrev pub shown : Show → ℕ → List ℕ
shown Plain x = x ∷ []
shown Hex x = pair (code "a") x
shown Escaped x = cond (is_plain x) (x ∷ []) (spelt "%" ++ pair (code "A") x)

-- Octets shown one after another.
abbrev pub showing : Show → List ℕ → List ℕ
showing how xs = images (shown how) xs

-- The digits of a number, the most significant first, at most k of them.
unfoldable pub digits : ℕ → ℕ → List ℕ
digits zero n = []
digits (suc k) n = cond (ltb n 10) [] (digits k (n / 10)) ++ (48 + n % 10) ∷ []

-- A number in decimal: no number of 64 bits has more than twenty digits.
abbrev pub decimal : ℕ → List ℕ
decimal n = digits 20 n

-- A number in k digits, with zeros before it; of a longer number the last k.
unfoldable pub filled : ℕ → ℕ → List ℕ
filled zero n = []
filled (suc k) n = filled k (n / 10) ++ (48 + n % 10) ∷ []

-- A signed number in decimal, with "-" before a negative one.
abbrev pub signed : ℤ → List ℕ
signed (pos n) = decimal n
signed (negsuc n) = spelt "-" ++ decimal (n + 1)

abbrev pub truth : Bool → List ℕ
truth true = spelt "1"
truth false = spelt "0"

-- A refusal's number and place.
abbrev pub refusal : ℕ → ℕ → List ℕ
refusal number place =
    (showing Plain (spelt "refused ") ++ decimal number) ++ (showing Plain (spelt " ") ++ decimal place)
