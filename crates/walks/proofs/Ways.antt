-- The one invariant of a loop of turns: a way from where it began, and all that is kept of the book behind it. It goes on over rows, by an item, and with an item whose layout is new and is kept.
use Prim.Native.Nat.{ℕ, ◌+◌, ◌≤◌, ◌<◌}
use mathlib.Core.Path.{◌≡◌, refl, sym, ap, subst}
use mathlib.Core.List.{List, [], ◌∷◌, ◌++◌}
use native.Mathlib.Omega.{arith}
use lib.IntN.{ℤ}
use lib.ListN.{length}
use Rattle.std.specs.Prelude.{Ok, Err}
use Rattle.octets.specs.declared.Refused.{Refused}
use Rattle.octets.specs.Limits.{longest}
use Rattle.octets.specs.Reading.{ok}
use Rattle.octets.specs.Writing.{Each, Octet}
use Rattle.kinds.specs.Kinds.{signed}
use Rattle.layouts.specs.Layout.{layout_at}
use Rattle.layouts.specs.Book.{Book, book_image, GoodBook}
use Rattle.elements.specs.Walk.{ended, refused, Seen, Turn, goes, stops, Path, Spot, spot_at, turn_at}
use Rattle.elements.proofs.Walks.{path_join, path_one}
use Rattle.elements.proofs.Through.{rows_few, path_rows, path_moves}
use Rattle.walks.specs.Kept.{Kept, Keeps}
use Rattle.walks.specs.Rows.{Strides}
use Rattle.walks.specs.Answers.{gone_of, moved_of, Bears}
use Rattle.walks.specs.declared.Known.{Known}
use Rattle.walks.specs.declared.Gone.{Gone}
use Rattle.walks.specs.declared.Moved.TheVariants as moved
use Rattle.walks.proofs.Keeping.{kept_more}
use Rattle.walks.proofs.Moves.{Newly, item_spot, item_moves, item_old, item_newly}

-- The turn that an answer tells of.
pub moved_item : (t : Turn Spot) (g : Gone) → moved_of t ≡ Ok (moved.Item g) → (p : Seen) × (y : Spot) × (t ≡ goes p y) × (gone_of p y ≡ g)
moved_item (goes p y) g e = (p, y, refl, (let same : gone_of p y ≡ g = cc in same))
moved_item (stops (ended n t next)) g e = absurd (let z : ◌≡◌ {A = ℕ} 0 1 = cc in omega arith)
moved_item (stops (refused n p)) g e = absurd (let z : ◌≡◌ {A = ℕ} 0 1 = cc in omega arith)

pub moved_end : (t : Turn Spot) (n next : ℕ) (time : ℤ) → moved_of t ≡ Ok (moved.End n time next) → (u : ℕ) × (t ≡ stops (ended n u next)) × (signed 8 u ≡ time)
moved_end (goes p y) n next time e = absurd (let z : ◌≡◌ {A = ℕ} 0 1 = cc in omega arith)
moved_end (stops (ended m u end)) n next time e =
    let a : m ≡ n = cc in
    let b : end ≡ next = cc in
    (u, rw (a, b) refl, (let same : signed 8 u ≡ time = cc in same))
moved_end (stops (refused m p)) n next time e = absurd (let z : ◌≡◌ {A = ℕ} 0 1 = cc in omega arith)

pub moved_refused : (t : Turn Spot) (r : Refused) → moved_of t ≡ Err r → t ≡ stops (refused r.number r.place)
moved_refused (goes q y) r e = absurd (let z : ◌≡◌ {A = ℕ} 0 1 = cc in omega arith)
moved_refused (stops (ended m u end)) r e = absurd (let z : ◌≡◌ {A = ℕ} 0 1 = cc in omega arith)
moved_refused (stops (refused m q)) r e = let same : ◌≡◌ {A = Refused} (record { number = m; place = q }) r = cc in ap (λ (x : Refused). stops (refused x.number x.place)) same

-- A way that began at a spot and is now at a place, with the book behind it kept by a shelf.
pub record OnWay (s : List ℕ) (x : Spot) (passed : List Seen) (shelf : List ℕ) (k : Known) (at rows used : ℕ) : Type 0 where
  pub book : Book
  pub kept : Kept shelf k book
  pub size : length (book_image book) ≡ used
  pub path : Path (turn_at s) x passed (spot_at at rows book)
  pub inside : at ≤ length s

pub way_start : (s shelf : List ℕ) (k : Known) (at rows : ℕ) (book : Book) → at ≤ length s → Kept shelf k book → OnWay s (spot_at at rows book) [] shelf k at rows (length (book_image book))
way_start s shelf k at rows book h kept = record { book = book; kept = kept; size = refl; path = refl; inside = h }

module _ (s : List ℕ) (o : Each Octet s) (short : length s ≤ longest) (x : Spot) (passed : List Seen) (shelf : List ℕ) (k : Known) (at rows used : ℕ)
    (w : OnWay s x passed shelf k at rows used) where
  abbrev here : Spot
  here = spot_at at rows w.book

  -- What a turn from here bears.
  pub way_bears : Bears shelf used k w.book
  way_bears = record { planned = w.kept.planned; shelved = w.kept.shelved; size = w.size }

  -- The rows passed are not more than the octets.
  pub way_few : x.at + rows ≤ x.rows + at
  way_few = omega (arith, path_rows s passed x here w.path, path_moves s o short passed x here w.path, rows_few passed)

  -- Over rows.
  pub way_rows : {labels entry exit : List ℕ} {most next count : ℕ} → Strides s here k labels most entry exit next count
      → (more : List Seen) × OnWay s x (passed ++ more) shelf k next (rows + count) used × (at + count ≤ next)
  way_rows {labels} {entry} {exit} {most} {next} {count} h =
      let p = h.passage in (
        p.seen,
        subst (λ (n : ℕ). OnWay s x (passed ++ p.seen) shelf k next (rows + n) used) p.is_count
            (record { book = w.book; kept = w.kept; size = w.size; path = path_join (turn_at s) passed p.seen x here _ w.path p.path; inside = h.inside }),
        subst (λ (n : ℕ). at + n ≤ next) p.is_count (path_moves s o short p.seen here _ p.path),
      )

  -- One item on.
  module _ (p : Seen) (y : Spot) (e : turn_at s here ≡ goes p y) where
    on : (shelf₁ : List ℕ) (k₁ : Known) → Kept shelf₁ k₁ y.book → OnWay s x (passed ++ p ∷ []) shelf₁ k₁ p.next y.rows (length (book_image y.book))
    on shelf₁ k₁ kept =
        record {
          book = y.book;
          kept = kept;
          size = refl;
          path =
              subst (λ (z : Spot). Path (turn_at s) x (passed ++ p ∷ []) z) (item_spot s o short at rows w.book p y e)
              (path_join (turn_at s) passed (p ∷ []) x here y w.path (path_one (turn_at s) p here y e));
          inside = (item_moves s o short at rows w.book p y e).1;
        }

    -- Its layout is not new: what is kept stays.
    pub way_old : length (book_image y.book) ≤ used → OnWay s x (passed ++ p ∷ []) shelf k p.next y.rows (length (book_image y.book))
    way_old old =
        let same = item_old s o short at rows w.book p y e (omega (arith, w.size)) in
        on shelf k (subst (Kept shelf k) (sym same) w.kept)

    -- It is new.
    pub way_newly : used < length (book_image y.book) → Newly s at p.next w.book y.book
    way_newly more = item_newly s o short at rows w.book p y e (omega (arith, w.size)) w.kept.planned.numbered.good

    -- It is kept by a place of the shelf.
    pub way_new : (n : Newly s at p.next w.book y.book) (place next : ℕ) → layout_at shelf place ≡ ok n.layout next → {k₁ : Known} → Keeps n.layout place k k₁
        → OnWay s x (passed ++ p ∷ []) shelf k₁ p.next y.rows (length (book_image y.book))
    way_new n place next reads {k₁} h =
        on shelf k₁
        (subst (Kept shelf k₁) (sym n.is)
        (kept_more shelf k w.book w.kept (omega (arith, n.few, w.kept.planned.numbered.count)) n.layout (subst GoodBook n.is n.good) place next reads k₁ h))
