-- Strings that were tried, each as the number that its octets spell, and whether it is UTF-8.
use Rattle.std.specs.Prelude.{ℕ, List, [], ◌∷◌, ◌++◌, Bool, true, false}
use Rattle.octets.specs.Writing.{word}

pub record Case : Type 0 where
  pub octets : List ℕ
  pub answer : Bool

abbrev pub each : {A : Type 0} → (Case → A) → List Case → List A
each f [] = []
each f (c ∷ rest) = f c ∷ each f rest

abbrev tried : Bool → ℕ → List ℕ → List Case
tried answer w [] = []
tried answer w (n ∷ rest) = record { octets = word w n; answer = answer } ∷ tried answer w rest

-- Strings of so many octets.
abbrev good : ℕ → List ℕ → List Case
good = tried true

abbrev bad : ℕ → List ℕ → List Case
bad = tried false

abbrev pub cases : List Case
cases =
    -- Each form, by its line: the first and the last octet of each range, and those beside them. 00-7F
    good 1 (0x00 ∷ 0x7f ∷ [])
    ++ bad 1 (0x80 ∷ [])
    -- C2-DF tail
    ++ good 2 (0xc280 ∷ 0xc2bf ∷ 0xdf80 ∷ 0xdfbf ∷ [])
    ++ bad 2 (0xc180 ∷ 0xc1bf ∷ 0xe080 ∷ 0xe0bf ∷ 0xc27f ∷ 0xdf7f ∷ 0xc2c0 ∷ 0xdfc0 ∷ [])
    -- E0 A0-BF tail
    ++ good 3 (0xe0a080 ∷ 0xe0a0bf ∷ 0xe0bf80 ∷ 0xe0bfbf ∷ 0xe1a080 ∷ 0xe1bfbf ∷ [])
    ++ bad 3 (0xdfa080 ∷ 0xdfbfbf ∷ 0xe09f80 ∷ 0xe09fbf ∷ 0xe0c080 ∷ 0xe0c0bf ∷ 0xe0a07f ∷ 0xe0bf7f ∷ 0xe0a0c0 ∷ 0xe0bfc0 ∷ [])
    -- E1-EC two tails
    ++ good 3 (0xe18080 ∷ 0xe180bf ∷ 0xe1bf80 ∷ 0xe1bfbf ∷ 0xec8080 ∷ 0xec80bf ∷ 0xecbf80 ∷ 0xecbfbf ∷ 0xe0bfbf ∷ 0xed8080 ∷ [])
    ++ bad 3 (0xe08080 ∷ 0xedbfbf ∷ 0xe17f80 ∷ 0xec7fbf ∷ 0xe1c080 ∷ 0xecc0bf ∷ 0xe1807f ∷ 0xecbf7f ∷ 0xe180c0 ∷ 0xecbfc0 ∷ [])
    -- ED 80-9F tail
    ++ good 3 (0xed8080 ∷ 0xed80bf ∷ 0xed9f80 ∷ 0xed9fbf ∷ 0xec8080 ∷ 0xec9fbf ∷ 0xee8080 ∷ 0xee9fbf ∷ [])
    ++ bad 3 (0xed7f80 ∷ 0xed7fbf ∷ 0xeda080 ∷ 0xeda0bf ∷ 0xed807f ∷ 0xed9f7f ∷ 0xed80c0 ∷ 0xed9fc0 ∷ [])
    -- EE-EF two tails
    ++ good 3 (0xee8080 ∷ 0xee80bf ∷ 0xeebf80 ∷ 0xeebfbf ∷ 0xef8080 ∷ 0xef80bf ∷ 0xefbf80 ∷ 0xefbfbf ∷ 0xed8080 ∷ [])
    ++ bad 3 (0xedbfbf ∷ 0xf08080 ∷ 0xf0bfbf ∷ 0xee7f80 ∷ 0xef7fbf ∷ 0xeec080 ∷ 0xefc0bf ∷ 0xee807f ∷ 0xefbf7f ∷ 0xee80c0 ∷ 0xefbfc0 ∷ [])
    -- F0 90-BF two tails
    ++ good 4 (0xf0908080 ∷ 0xf09080bf ∷ 0xf090bf80 ∷ 0xf090bfbf ∷ 0xf0bf8080 ∷ 0xf0bf80bf ∷ 0xf0bfbf80 ∷ 0xf0bfbfbf ∷ 0xf1908080 ∷ 0xf1bfbfbf ∷ [])
    ++ bad 4 (0xef908080 ∷ 0xefbfbfbf ∷ 0xf08f8080 ∷ 0xf08fbfbf ∷ 0xf0c08080 ∷ 0xf0c0bfbf ∷ 0xf0907f80 ∷ [])
    ++ bad 4 (0xf0bf7fbf ∷ 0xf090c080 ∷ 0xf0bfc0bf ∷ 0xf090807f ∷ 0xf0bfbf7f ∷ 0xf09080c0 ∷ 0xf0bfbfc0 ∷ [])
    -- F1-F3 three tails
    ++ good 4 (0xf1808080 ∷ 0xf18080bf ∷ 0xf180bf80 ∷ 0xf180bfbf ∷ 0xf1bf8080 ∷ 0xf1bf80bf ∷ 0xf1bfbf80 ∷ 0xf1bfbfbf ∷ 0xf3808080 ∷ [])
    ++ good 4 (0xf38080bf ∷ 0xf380bf80 ∷ 0xf380bfbf ∷ 0xf3bf8080 ∷ 0xf3bf80bf ∷ 0xf3bfbf80 ∷ 0xf3bfbfbf ∷ 0xf0bfbfbf ∷ 0xf4808080 ∷ [])
    ++ bad 4 (0xf0808080 ∷ 0xf4bfbfbf ∷ 0xf17f8080 ∷ 0xf37fbfbf ∷ 0xf1c08080 ∷ 0xf3c0bfbf ∷ 0xf1807f80 ∷ [])
    ++ bad 4 (0xf3bf7fbf ∷ 0xf180c080 ∷ 0xf3bfc0bf ∷ 0xf180807f ∷ 0xf3bfbf7f ∷ 0xf18080c0 ∷ 0xf3bfbfc0 ∷ [])
    -- F4 80-8F two tails
    ++ good 4 (0xf4808080 ∷ 0xf48080bf ∷ 0xf480bf80 ∷ 0xf480bfbf ∷ 0xf48f8080 ∷ 0xf48f80bf ∷ 0xf48fbf80 ∷ 0xf48fbfbf ∷ 0xf3808080 ∷ 0xf38fbfbf ∷ [])
    ++ bad 4 (0xf5808080 ∷ 0xf58fbfbf ∷ 0xf47f8080 ∷ 0xf47fbfbf ∷ 0xf4908080 ∷ 0xf490bfbf ∷ 0xf4807f80 ∷ [])
    ++ bad 4 (0xf48f7fbf ∷ 0xf480c080 ∷ 0xf48fc0bf ∷ 0xf480807f ∷ 0xf48fbf7f ∷ 0xf48080c0 ∷ 0xf48fbfc0 ∷ [])
    -- Forms that are too long for what they spell.
    ++ bad 2 (0xc080 ∷ 0xc1bf ∷ [])
    ++ bad 3 (0xe08080 ∷ 0xe09fbf ∷ [])
    ++ bad 4 (0xf0808080 ∷ 0xf08fbfbf ∷ 0xf8808080 ∷ [])
    ++ bad 5 (0xf888808080 ∷ [])
    ++ bad 6 (0xfc8080808080 ∷ 0xfc8480808080 ∷ [])
    -- Surrogates, alone and in a pair; their neighbours are characters.
    ++ good 3 (0xed9fbf ∷ 0xee8080 ∷ [])
    ++ bad 3 (0xeda080 ∷ 0xedadbf ∷ 0xedae80 ∷ 0xedafbf ∷ 0xedb080 ∷ 0xedbe80 ∷ 0xedbf80 ∷ 0xedbfbf ∷ [])
    ++ bad 6 (0xeda080edb080 ∷ 0xedafbfedbfbf ∷ [])
    -- Past 10FFFF, and octets that open nothing.
    ++ good 4 (0xf48fbfbf ∷ [])
    ++ bad 1 (0xf8 ∷ 0xfe ∷ 0xff ∷ [])
    ++ bad 2 (0xfeff ∷ 0xfffe ∷ [])
    ++ bad 4 (0xf4908080 ∷ 0xf4bfbfbf ∷ 0xf5808080 ∷ 0xf7bfbfbf ∷ 0xfefeffff ∷ [])
    -- Characters cut at each length, at the end and before another.
    ++ bad 1 (0xc3 ∷ 0xe2 ∷ 0xf0 ∷ [])
    ++ bad 2 (0xe282 ∷ 0xf09f ∷ 0x61c3 ∷ 0xc361 ∷ 0xe261 ∷ 0xf061 ∷ [])
    ++ bad 3 (0xf09f98 ∷ 0x61e282 ∷ 0xc3a9c3 ∷ 0xe28261 ∷ 0xf09f61 ∷ 0xc3c3a9 ∷ [])
    ++ bad 4 (0x61f09f98 ∷ 0xf09f9861 ∷ [])
    ++ bad 5 (0xe282e282ac ∷ [])
    ++ bad 7 (0xf09f98f09f9880 ∷ [])
    -- An ASCII or a first octet inside a character, and a tail too many.
    ++ bad 1 (0x80 ∷ 0xbf ∷ [])
    ++ bad 2 (0x8080 ∷ 0x6180 ∷ 0x8061 ∷ [])
    ++ bad 3 (0xe261ac ∷ 0xe2c3ac ∷ 0xc3a980 ∷ [])
    ++ bad 4 (0xf0619880 ∷ 0xf09f6180 ∷ 0xf0c39880 ∷ 0xf09fc380 ∷ 0xe282acbf ∷ [])
    ++ bad 5 (0xf09f988080 ∷ [])
    -- The empty string, zeros, text of all widths, the signature EF BB BF alone, before and inside text, and noncharacters.
    ++ good 0 (0 ∷ [])
    ++ good 1 (0x00 ∷ [])
    ++ good 2 (0x0000 ∷ [])
    ++ good 3 (0x006100 ∷ 0xefbbbf ∷ 0xefbfbe ∷ 0xefbfbf ∷ [])
    ++ good 4 (0xefbbbf61 ∷ 0xf0bfbfbf ∷ 0xf48fbfbe ∷ [])
    ++ good 5 (0x61efbbbf61 ∷ [])
    ++ good 10 (0x61c3a9e282acf09f9880 ∷ [])
    ++ bad 2 (0xefbb ∷ [])
