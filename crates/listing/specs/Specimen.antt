-- What the scope has listed and proved of the specimen, its times in milliseconds: the five lines; those from 104 on; and the specimen with a short for its byte.
use Rattle.std.specs.Prelude.{ℕ, ◌≡◌, List, [], ◌∷◌, ◌++◌}
use Rattle.kinds.specs.declared.Basic.TheVariants.{UnsignedInt, Byte}
use Rattle.layouts.specs.Layout.{Attribute, Layout}
use Rattle.elements.specs.Walk.{spot_at, through}
use Rattle.printing.specs.Text.{spelt}
use Rattle.promises.specs.Specimen.{specimen, shorts}
use Rattle.listing.specs.Listing.{lines_of, listing}

-- Its layout.
abbrev u : Attribute
u = record { name = spelt "u"; kind = record { derived = 0; basic = UnsignedInt } }

abbrev d : Attribute
d = record { name = spelt "d"; kind = record { derived = 0; basic = Byte } }

abbrev seven : Layout
seven = record { number = 7; type_name = spelt "A"; attributes = u ∷ d ∷ [] }

abbrev start_lines : List ℕ
start_lines = spelt "document 4 1970-01-01T00:01:26.400Z\n" ++ (spelt "layout 52 7 =A 2\n" ++ spelt "row 87 7 10 -2\n")

abbrev last_lines : List ℕ
last_lines = spelt "row 104 7 0 127\n" ++ spelt "end 121 2 1970-01-01T00:01:26.401Z\n"

pub record Printed : Type 0 where
  pub five : listing specimen ≡ start_lines ++ last_lines
  pub rest : lines_of (through specimen (spot_at 104 1 (seven ∷ []))) ≡ last_lines
  pub short : listing shorts ≡ start_lines ++ (spelt "row 105 7 0 127\n" ++ spelt "end 123 2 1970-01-01T00:01:26.401Z\n")
