-- The laws of types: the table both ways, the equations of reading a type, and that its reading and its image are inverse.
-- The table's codes follow each other, so a code is in it just between the first and the last.
use mathlib.Core.Path.{◌≡◌, refl, sym, ap, ◌∙◌}
use mathlib.Core.List.{List, [], ◌∷◌}
use mathlib.Core.Bool.{Bool, true, false}
use mathlib.Core.Option.{Option, some, none}
use mathlib.Core.Logic.{◌⊎◌, inl, inr}
use Prim.Native.Nat.{ℕ, ◌+◌, ◌*◌, ◌/◌, ◌%◌, ◌^◌, ◌≤◌, ◌<◌}
use native.Mathlib.Omega.{arith}
use lib.ListN.{length}
use lib.Dec.{leb, ltb, eqb, lit≤}
use lib.Arith.{digits_div, digits_mod}
use borrow.Author.Tests.{eqb-true, eqb-false, ltb-true, lt-leb, lt-ltb, ne_eqb}
use Rattle.octets.specs.Reading.{ok, no, choose, be, number, is_ok, ends}
use Rattle.octets.specs.Writing.{word}
use Rattle.octets.proofs.Spans.{word_octets}
use Rattle.octets.proofs.Inverse.{Inverse, Answer, Any, after, settle, chosen, refused}
use Rattle.octets.proofs.Fields.{number_whole}
use Rattle.octets.proofs.Ends.{number_ok, number_no, number_room, first_ok}
use Rattle.kinds.specs.Kinds.{basics, number_of, code_of, among, basic_of, kind_for, kind_of, kind_at}
use Rattle.kinds.specs.declared.Basic.{Basic}
use Rattle.kinds.specs.declared.Basic.TheVariants.{Int, UnsignedInt, Long, UnsignedLong, Float, Double, HexBinary, String, Boolean, Byte, UnsignedByte, Short, UnsignedShort}
use Rattle.kinds.specs.declared.Kind.{Kind}

-- The table of types, both ways.
pub code_known : (b : Basic) → (0x21 ≤ code_of b) × (code_of b ≤ 0x2d) × (basic_of (code_of b) ≡ some b)
unfolding basic_of among
code_known Int = (lit≤ tt, lit≤ tt, refl)
code_known UnsignedInt = (lit≤ tt, lit≤ tt, refl)
code_known Long = (lit≤ tt, lit≤ tt, refl)
code_known UnsignedLong = (lit≤ tt, lit≤ tt, refl)
code_known Float = (lit≤ tt, lit≤ tt, refl)
code_known Double = (lit≤ tt, lit≤ tt, refl)
code_known HexBinary = (lit≤ tt, lit≤ tt, refl)
code_known String = (lit≤ tt, lit≤ tt, refl)
code_known Boolean = (lit≤ tt, lit≤ tt, refl)
code_known Byte = (lit≤ tt, lit≤ tt, refl)
code_known UnsignedByte = (lit≤ tt, lit≤ tt, refl)
code_known Short = (lit≤ tt, lit≤ tt, refl)
code_known UnsignedShort = (lit≤ tt, lit≤ tt, refl)

found : (code : ℕ) (bs : List Basic) (b : Basic) → among code bs ≡ some b → code_of b ≡ code
unfolding among
found code [] b e = absurd (let z : ◌≡◌ {A = ℕ} 0 1 = cc in omega arith)
found code (c ∷ bs) b e = go (eqb code (code_of c)) refl e (found code bs b)
  where
    go : (t : Bool) → eqb code (code_of c) ≡ t → choose t (λ _. some c) (λ _. among code bs) ≡ some b
        → (among code bs ≡ some b → code_of b ≡ code) → code_of b ≡ code
    go true q r f = let same : c ≡ b = cc in ap code_of (sym same) ∙ sym (eqb-true code (code_of c) q)
    go false q r f = f r

pub code_of_basic : (code : ℕ) (b : Basic) → basic_of code ≡ some b → code_of b ≡ code
unfolding basic_of
code_of_basic code b e = found code basics b e

pub kind_for_lem : (at t next : ℕ) (o : Option Basic) {k : Kind} {end : ℕ} → kind_for at t next o ≡ ok k end
    → (b : Basic) × (o ≡ some b) × (ok (record { derived = t / 256; basic = b }) next ≡ ok k end)
kind_for_lem at t next (some b) e = (b, refl, e)
kind_for_lem at t next none e = absurd (let z : ◌≡◌ {A = ℕ} 0 1 = cc in omega arith)

module _ (s : List ℕ) where
  pub kind_inverse : Inverse s (length s) (kind_at s) (λ k. word 4 (number_of k)) Any (λ k. k.derived < 256)
  unfolding kind_at
  kind_inverse =
      record {
        back = λ k _ g p.
            let (low, high, is) = code_known k.basic in
            let c : code_of k.basic < 256 = omega arith in
            let t : ℕ = number_of k in
            rw (
              (number_whole s 4).back t tt (omega arith) p,
              lt-leb (2 ^ 31) t (omega arith),
              lt-ltb t 0x10000 (omega arith),
              digits_mod k.derived c,
              is,
              digits_div k.derived c,
            );
        forth = λ o {a = k} {at} h e.
            after (number 4 s at) _ e λ t next e₁ e₂.
            let (u, g, p) = (number_whole s 4).forth o h e₁ in
            let (t₁, e₃) = refused (leb (2 ^ 31) t) 9 at _ e₂ in
            let (t₂, e₄) = chosen (ltb t 0x10000) (λ _. kind_for at t next (basic_of (t % 256))) 8 at e₃ in
            let (b, f, e₅) = kind_for_lem at t next (basic_of (t % 256)) e₄ in
            let small : t < 65536 = ltb-true t 65536 t₂ in
            let whole : t ≡ t / 256 * 256 + code_of b = omega (arith, code_of_basic (t % 256) b f) in
            settle (Answer s (length s) (λ x. word 4 (number_of x)) Any (λ x. x.derived < 256) at) e₅ (tt, omega arith, rw whole at p);
        octets = λ k _ g. word_octets 4 (number_of k);
      }

-- A table whose codes follow each other from c on.
abbrev From : ℕ → List Basic → Type 0
From c [] = Unit {0}
From c (b ∷ bs) = (code_of b ≡ c) × From (c + 1) bs

outside : (code c : ℕ) (bs : List Basic) → From c bs → (code < c) ⊎ (c + length bs ≤ code) → among code bs ≡ none
unfolding among
outside code c [] f h = refl
outside code c (b ∷ bs) f (inl h) = rw (ne_eqb code (code_of b) (λ z. omega (arith, f.0))) (outside code (c + 1) bs f.1 (inl (omega arith)))
outside code c (b ∷ bs) f (inr h) = rw (ne_eqb code (code_of b) (λ z. omega (arith, f.0))) (outside code (c + 1) bs f.1 (inr (omega arith)))

rows : From 0x21 basics
rows = (refl, (refl, (refl, (refl, (refl, (refl, (refl, (refl, (refl, (refl, (refl, (refl, (refl, tt)))))))))))))

pub basic_low : (code : ℕ) → code < 0x21 → basic_of code ≡ none
unfolding basic_of
basic_low code h = outside code 0x21 basics rows (inl h)

pub basic_high : (code : ℕ) → 0x2d < code → basic_of code ≡ none
unfolding basic_of
basic_high code h = outside code 0x21 basics rows (inr (omega arith))

inside : (code c : ℕ) (bs : List Basic) → From c bs → c ≤ code → code < c + length bs → among code bs ≡ none → ⊥
unfolding among
inside code c [] f h g e = omega (arith, h, g)
inside code c (b ∷ bs) f h g e = go (eqb code (code_of b)) refl e (inside code (c + 1) bs f.1)
  where
    go : (t : Bool) → eqb code (code_of b) ≡ t → choose t (λ _. some b) (λ _. among code bs) ≡ none
        → (c + 1 ≤ code → code < c + 1 + length bs → among code bs ≡ none → ⊥) → ⊥
    go true q r more = let is : ◌≡◌ {A = Option Basic} (some b) none = r in cc
    go false q r more = more (let other = eqb-false code (code_of b) q in omega (arith, f.0, other)) (omega (arith, g)) r

pub basic_there : (code : ℕ) → 0x21 ≤ code → code ≤ 0x2d → basic_of code ≡ none → ⊥
unfolding basic_of
basic_there code h g e = inside code 0x21 basics rows h (omega arith) e

-- What a type number means, by its bits.
module _ (at t next : ℕ) where
  pub kind_low : t < 0x10000 → kind_of at t next ≡ kind_for at t next (basic_of (t % 256))
  kind_low g = rw (lt-leb (2 ^ 31) t (omega arith), lt-ltb t 0x10000 g) refl

  pub for_some : (b : Basic) → code_of b ≡ t % 256 → kind_for at t next (basic_of (t % 256)) ≡ ok (record { derived = t / 256; basic = b }) next
  for_some b e = rw (← e, (code_known b).2) refl

  pub kind_some : (b : Basic) → t < 0x10000 → code_of b ≡ t % 256 → kind_of at t next ≡ ok (record { derived = t / 256; basic = b }) next
  kind_some b g e = kind_low g ∙ for_some b e

-- A type at a place, from its number.
module _ (s : List ℕ) (at : ℕ) where
  pub kind_no : length s < at + 4 → kind_at s at ≡ no 1 at
  unfolding kind_at
  kind_no h = rw (number_no s at 4 h) refl

  pub kind_ok : at + 4 ≤ length s → kind_at s at ≡ kind_of at (be 4 s at) (at + 4)
  unfolding kind_at
  kind_ok h = rw (number_ok s at 4 h) refl

-- A type that is accepted ends behind its number.
kind_next : (at t next : ℕ) → is_ok (kind_of at t next) ≡ true → ends (kind_of at t next) ≡ ok next next
kind_next at t next = go (leb (2 ^ 31) t) (ltb t 0x10000) (basic_of (t % 256))
  where
    go : (b c : Bool) (o : Option Basic) → is_ok (choose b (λ _. no 9 at) (λ _. choose c (λ _. kind_for at t next o) (λ _. no 8 at))) ≡ true
        → ends (choose b (λ _. no 9 at) (λ _. choose c (λ _. kind_for at t next o) (λ _. no 8 at))) ≡ ok next next
    go true c o h = absurd (let z : ◌≡◌ {A = ℕ} 0 1 = cc in omega arith)
    go false true (some b) h = refl
    go false true none h = absurd (let z : ◌≡◌ {A = ℕ} 0 1 = cc in omega arith)
    go false false o h = absurd (let z : ◌≡◌ {A = ℕ} 0 1 = cc in omega arith)

pub kind_is : (s : List ℕ) (at : ℕ) → is_ok (kind_at s at) ≡ true → (at + 4 ≤ length s) × (ends (kind_at s at) ≡ ok (at + 4) (at + 4))
unfolding kind_at
kind_is s at t =
    let h = number_room s at 4 (first_ok (number 4 s at) _ t) in
    (h, rw (number_ok s at 4 h) (kind_next at (be 4 s at) (at + 4) (rw (number_ok s at 4 h) at t)))

-- The number of a type that is accepted has no high bits.
pub kind_small : (s : List ℕ) (at : ℕ) → is_ok (kind_at s at) ≡ true → be 4 s at < 0x10000
kind_small s at h = ltb-true n 0x10000 (go (leb (2 ^ 31) n) (ltb n 0x10000) (sym (ap is_ok (kind_ok s at (kind_is s at h).0)) ∙ h))
  where
    n : ℕ
    n = be 4 s at

    go : (b c : Bool) → is_ok (choose b (λ _. no 9 at) (λ _. choose c (λ _. kind_for at n (at + 4) (basic_of (n % 256))) (λ _. no 8 at))) ≡ true → c ≡ true
    go true c h = absurd (let z : ◌≡◌ {A = ℕ} 0 1 = cc in omega arith)
    go false true h = refl
    go false false h = h

-- One code is one basic type.
pub code_once : (b c : Basic) → code_of b ≡ code_of c → b ≡ c
code_once b c e = let is : ◌≡◌ {A = Option Basic} (some b) (some c) = sym (code_known b).2 ∙ (ap basic_of e ∙ (code_known c).2) in cc
