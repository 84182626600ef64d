-- Octets behind a length that were tried: by their rule, in a document and in a stated row, what stands there, and the end or the refusal.
use Rattle.std.specs.Prelude.{ℕ, List, [], ◌∷◌}
use Rattle.octets.specs.Reading.{Read, ok, no, ends}
use Rattle.octets.specs.declared.Room.{Room}
use Rattle.octets.specs.declared.Room.TheVariants.{Document, Stated}
use Rattle.texts.specs.Texts.{led_in}
use Rattle.texts.specs.declared.Rule.{Rule}
use Rattle.texts.specs.declared.Rule.TheVariants.{Free, Characters}

pub record Case : Type 0 where
  pub rule : Rule
  pub room : Room
  pub octets : List ℕ
  pub answer : Read ℕ

abbrev case : Rule → Room → List ℕ → Read ℕ → Case
case rule room octets answer = record { rule = rule; room = room; octets = octets; answer = answer }

abbrev pub asked : Case → Read ℕ
asked c = ends (led_in c.rule c.room c.octets 0)

abbrev pub each : (Case → Read ℕ) → List Case → List (Read ℕ)
each f [] = []
each f (c ∷ rest) = f c ∷ each f rest

abbrev pub cases : List Case
cases =
    -- No octets, "José", and the same in an old code, which are free octets and no string.
    case Characters Document (0 ∷ 0 ∷ 0 ∷ 0 ∷ []) (ok 4 4)
    ∷ case Characters Document (0 ∷ 0 ∷ 0 ∷ 5 ∷ 0x4a ∷ 0x6f ∷ 0x73 ∷ 0xc3 ∷ 0xa9 ∷ []) (ok 9 9)
    ∷ case Characters Document (0 ∷ 0 ∷ 0 ∷ 4 ∷ 0x4a ∷ 0x6f ∷ 0x73 ∷ 0xe9 ∷ []) (no 24 0)
    ∷ case Free Document (0 ∷ 0 ∷ 0 ∷ 4 ∷ 0x4a ∷ 0x6f ∷ 0x73 ∷ 0xe9 ∷ []) (ok 8 8)
    -- The octets counted are looked at, and none behind them: cut by its length a character is none.
    ∷ case Characters Document (0 ∷ 0 ∷ 0 ∷ 4 ∷ 0x4a ∷ 0x6f ∷ 0x73 ∷ 0xc3 ∷ 0xa9 ∷ []) (no 24 0)
    ∷ case Characters Document (0 ∷ 0 ∷ 0 ∷ 1 ∷ 0x4a ∷ 0xff ∷ []) (ok 5 5)
    -- 1 and 13 come first, whatever is there.
    ∷ case Characters Document (0 ∷ 0 ∷ 0 ∷ []) (no 1 0)
    ∷ case Characters Document (0 ∷ 0 ∷ 0 ∷ 2 ∷ 0xff ∷ []) (no 1 0)
    ∷ case Characters (Stated 5 90) (0 ∷ 0 ∷ 0 ∷ 2 ∷ 0xff ∷ 0xff ∷ []) (no 13 90)
    ∷ case Characters (Stated 6 90) (0 ∷ 0 ∷ 0 ∷ 2 ∷ 0xff ∷ 0xff ∷ []) (no 24 0)
    ∷ case Free (Stated 6 90) (0 ∷ 0 ∷ 0 ∷ 2 ∷ 0xff ∷ 0xff ∷ []) (ok 6 6)
    ∷ []
