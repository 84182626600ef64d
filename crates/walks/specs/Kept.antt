-- What a walk keeps of a book's layouts, in their order: their numbers, the places at which they stand in the octets of a shelf, and their plans.
use Rattle.std.specs.Prelude.{ℕ, ◌+◌, ◌*◌, ◌<◌, ◌≡◌, List, [], ◌∷◌, ◌++◌, Bool, true, length, get_or, set, take, replicate, leb}
use Rattle.std.specs.Prelude as std
use Rattle.std.proofs.Math.Option.{Option, some, none}
use Rattle.octets.specs.Reading.{Read, ok, no, choose}
use Rattle.layouts.specs.Layout.{Layout, layout_at}
use Rattle.layouts.specs.Book.{Book, book_image, GoodBook}
use Rattle.plans.specs.Plan.{plan_for, Begins, most_steps}
use Rattle.octets.specs.Limits.{most_layouts}
use Rattle.walks.specs.declared.Known.{Known}

-- How many layouts were counted, and the index behind the last plan.
pub record Tally : Type 0 where
  pub known : ℕ
  pub filled : ℕ

abbrev pub tally_of : Known → Tally
tally_of k = record { known = k.count; filled = k.filled }

-- Before any layout: the first 64 steps say where plans stand, and plans are put behind them.
abbrev pub nothing : Tally
nothing = record { known = 0; filled = most_layouts }

abbrev pub empty : Known
empty = record { numbers = replicate most_layouts 0; places = replicate most_layouts 0; steps = replicate most_steps 0; count = 0; filled = most_layouts }

-- Whether a layout's plan leaves eight steps to each layout that may follow, of 64 in all: the first ends before step 712, each other eight further on. Then it has one.
abbrev pub holds : Tally → Layout → Bool
holds t l = leb (t.filled + length (plan_for l)) (712 + t.known * 8)

-- The tally with one layout more, and with a book's layouts.
abbrev pub grown : Tally → Layout → Tally
grown t l = record { known = t.known + 1; filled = choose (holds t l) (λ _. t.filled + length (plan_for l)) (λ _. t.filled) }

abbrev pub tallied : Tally → Book → Tally
tallied t [] = t
tallied t (l ∷ more) = tallied (grown t l) more

-- A layout's number as it is kept: with 2 ^ 32 added where it has no plan, so that no number of a row is equal to it.
abbrev pub mark_of : Tally → Layout → ℕ
mark_of t l = choose (holds t l) (λ _. l.number) (λ _. l.number + 4294967296)

abbrev pub marks : Tally → Book → List ℕ
marks t [] = []
marks t (l ∷ more) = mark_of t l ∷ marks (grown t l) more

-- The plans of a book's layouts behind others: where a layout has one, it begins where the step of the layout's index says.
abbrev pub PlansFrom : List ℕ → Tally → Book → Type 0
PlansFrom steps t [] = Unit {0}
PlansFrom steps t (l ∷ more) =
    (holds t l ≡ true → (get_or steps t.known 0 ≡ t.filled) × Begins steps t.filled (plan_for l)) × PlansFrom steps (grown t l) more

-- The layouts that stand at places of a shelf, each if one does.
abbrev pub as_option : {A : Type 0} → Read A → Option A
as_option (ok a next) = some a
as_option (no n p) = none

abbrev pub standing : List ℕ → List ℕ → List (Option Layout)
standing shelf [] = []
standing shelf (p ∷ ps) = as_option (layout_at shelf p) ∷ standing shelf ps

abbrev pub all : Book → List (Option Layout)
all [] = []
all (l ∷ rest) = some l ∷ all rest

-- The numbers known are those of a good book's layouts.
pub record Numbered (k : Known) (book : Book) : Type 0 where
  pub good : GoodBook book
  pub count : length book ≡ k.count
  pub long : length k.numbers ≡ most_layouts
  pub marked : take k.count k.numbers ≡ marks nothing book

-- Index i of the places known is where the i-th layout of the book stands.
pub record Shelved (shelf : List ℕ) (k : Known) (book : Book) : Type 0 where
  pub long : length k.places ≡ most_layouts
  pub stands : standing shelf (take k.count k.places) ≡ all book

-- The plans that there is room for stand in the steps.
pub record Planned (k : Known) (book : Book) : Type 0 where
  pub numbered : Numbered k book
  pub long : length k.steps ≡ most_steps
  pub plans : PlansFrom k.steps nothing book

pub record Plans (k : Known) : Type 0 where
  pub book : Book
  pub planned : Planned k book

-- All that is kept of a book.
pub record Kept (shelf : List ℕ) (k : Known) (book : Book) : Type 0 where
  pub planned : Planned k book
  pub shelved : Shelved shelf k book
  pub tally : tally_of k ≡ tallied nothing book

-- None of the numbers known is this one.
abbrev pub Lacks : Known → ℕ → Type 0
Lacks k n = (i : ℕ) → i < k.count → get_or k.numbers i 0 ≡ n → ⊥

-- The index of a number among those known, by a layout of that number which has a plan; or that there is none in any book of theirs.
abbrev pub Indexes : Known → ℕ → std.Option ℕ → Type 0
Indexes k n (std.Some i) = (i < k.count) × (get_or k.numbers i 0 ≡ n)
Indexes k n std.None = (book : Book) → Numbered k book → Lacks k n

-- A layout at a place is kept behind those known: its number and its place are put behind theirs, it is counted, and its plan, if it has one, is put behind theirs, which stay.
pub record Keeps (l : Layout) (place : ℕ) (k k₁ : Known) : Type 0 where
  pub number : k₁.numbers ≡ set k.numbers k.count (mark_of (tally_of k) l)
  pub place_is : k₁.places ≡ set k.places k.count place
  pub tally : tally_of k₁ ≡ grown (tally_of k) l
  pub long : length k₁.steps ≡ most_steps
  pub plans : (book : Book) → tally_of k ≡ tallied nothing book → PlansFrom k.steps nothing book → PlansFrom k₁.steps nothing (book ++ l ∷ [])

-- Octets that are the image of a good book.
pub record Image (s : List ℕ) (book : Book) : Type 0 where
  pub good : GoodBook book
  pub is : book_image book ≡ s

pub record Images (s : List ℕ) : Type 0 where
  pub book : Book
  pub image : Image s book
