-- A way over a second book beside an accepted way: the same elements, as far as the book covers their rows.
-- A step takes of its book only what `find` answers of a row's number and whether a layout can be learnt; both books are within the final one, and so neither passes a limit. Assumes nothing.
use Prim.Native.Nat.{ℕ, ◌+◌}
use mathlib.Core.Path.{◌≡◌, refl, sym, ◌∙◌, ap, subst}
use mathlib.Core.List.{List, [], ◌∷◌, ◌++◌, Memᴰ, append-nil, append_assoc}
use mathlib.Core.Bool.{Bool, true, false, ◌&&◌}
use mathlib.Core.Option.{Option, some, none}
use native.Mathlib.Omega.{arith}
use Rattle.octets.specs.Reading.{ok, no}
use Rattle.layouts.specs.Layout.{Layout}
use Rattle.layouts.specs.Book.{Book, find, is_none, Distinct, GoodBook}
use Rattle.rows.specs.Row.{Row}
use Rattle.elements.specs.Element.{Item, layout, row, Element, item, finish, Stepped, element_at}
use Rattle.elements.specs.Walk.{Stop, ended, refused, Seen, stops, Path, seen_at, Spot, spot_at, spot_of, turn_at}
use Rattle.elements.specs.Reading.{Placed, placed_all, elements_of}
use Rattle.promises.specs.Resume.{layout_of, layouts_of}
use Rattle.octets.specs.Writing.{Each, Octet}
use Rattle.layouts.proofs.Finding.{absent, some_same, Within}
use Rattle.layouts.proofs.Growing.{absent_append, Alike, alike_append, Learns, learns_within}
use Rattle.elements.proofs.Went.{Went, at_layout, at_row, at_finish, went, layout_step, row_step, row_stop, finish_step}
use Rattle.rows.proofs.RowLaws.{row_found, row_agrees, row_lacks}
use Rattle.elements.proofs.Turns.{took_at, ends, turn_item, turn_end}
use Rattle.promises.proofs.Run.{Gains, element_gains, turn_gains, path_gains}

-- An element that is no row, or a row whose layout's number is in a book.
abbrev pub Known : Book → Element → Type 0
Known book (item (layout l)) = Unit {0}
Known book (item (row r)) = is_none (find r.number book) ≡ false
Known book (finish n t) = Unit {0}

-- Elements whose rows each name a layout that is in a book or among the elements before.
abbrev pub Covered : Book → List Placed → Type 0
Covered book [] = Unit {0}
Covered book (p ∷ ps) = Known book p.element × Covered (book ++ layout_of p.element) ps

pub present : {A : Type 0} (o : Option A) → is_none o ≡ false → (a : A) × (o ≡ some a)
present (some a) e = (a, refl)
present none e = let z : ◌≡◌ {A = ℕ} 0 1 = cc in absurd (omega arith)

pub alike_none : (b c : Book) → Alike b c → (n : ℕ) → find n c ≡ none → find n b ≡ none
alike_none b c a n e = absent (find n b) (a n ∙ rw e refl)

-- A second book, within the final one, that has the numbers of some layouts.
pub record Beside (f c d : Book) : Type 0 where
  pub distinct : Distinct c
  pub within : Within c f
  pub alike : Alike c d

-- One item over a second book.
record Follows (s : List ℕ) (f : Book) (x : Spot) (i : Item) (passed next : ℕ) (c d : Book) : Type 0 where
  pub stepped : Stepped
  pub reads : element_at s x.at x.rows c ≡ ok stepped next
  pub is : stepped.element ≡ item i
  pub rows : stepped.rows ≡ passed
  pub beside : Beside f stepped.book (d ++ layout_of (item i))

module _ (s : List ℕ) (f : Book) (good : GoodBook f) where
  follows : (x : Spot) (st : Stepped) (next : ℕ) (i : Item) → element_at s x.at x.rows x.book ≡ ok st next → st.element ≡ item i → Within st.book f
      → ((l : Layout) → Memᴰ l (layout_of (item i)) → find l.number f ≡ some l) → (c d : Book) → Beside f c d → Known d (item i) → Follows s f x i st.rows next c d
  follows x st next i e is inside has c d b known = go (went s x.at x.rows x.book st next e)
    where
      go : Went s x.at x.rows x.book st next → Follows s f x i st.rows next c d
      go (at_layout l z k h g el ro) =
          let q : i ≡ layout l = cc in
          let t : Learns f c l (x.at + 4) = learns_within f c l (x.at + 4) good b.distinct b.within (has l (rw q (Memᴰ.head refl))) in
          rw (q, ro) (record {
            stepped = record { element = item (layout l); rows = x.rows; book = t.book };
            reads = layout_step s x.at x.rows c l next t.book (x.at + 4) k h t.learns;
            is = refl;
            rows = refl;
            beside = record { distinct = t.distinct; within = t.within; alike = λ n. t.alike n ∙ alike_append c d (l ∷ []) b.alike n };
          })
      go (at_row r k h el ro bo) =
          let q : i ≡ row r = cc in
          let found = row_found x.book s (x.at + 4) r next h in
          let here = present (find r.number c) (b.alike r.number ∙ subst (λ (j : Item). Known d (item j)) q known) in
          let in_f : find r.number f ≡ some found.0 = inside r.number found.0 (ap (find r.number) bo ∙ found.1) in
          let one : here.0 ≡ found.0 = some_same (b.within r.number here.0 here.1) in_f in
          let same : find r.number c ≡ find r.number x.book = here.1 ∙ (ap some one ∙ sym found.1) in
          rw (q, ro) (record {
            stepped = record { element = item (row r); rows = x.rows + 1; book = c };
            reads = row_step s x.at x.rows c r next k (row_agrees x.book s (x.at + 4) r next h c same);
            is = refl;
            rows = refl;
            beside = rw (append-nil d) b;
          })
      go (at_finish n t k h el ro bo) = absurd (let z : ◌≡◌ {A = ℕ} 0 1 = cc in omega arith)

-- A way over a second book.
pub record Resumes (s : List ℕ) (f : Book) (x y : Spot) (ps : List Seen) (c d : Book) : Type 0 where
  pub seen : List Seen
  pub book : Book
  pub path : Path (turn_at s) (spot_at x.at x.rows c) seen (spot_at y.at y.rows book)
  pub same : placed_all seen ≡ placed_all ps
  pub beside : Beside f book (d ++ layouts_of (placed_all ps))

module _ (s : List ℕ) (o : Each Octet s) (f : Book) (good : GoodBook f) where
  pub resumes : (ps : List Seen) (x y : Spot) → Path (turn_at s) x ps y → GoodBook x.book → Within y.book f
      → (c d : Book) → Beside f c d → (more : List Placed) → Covered d (placed_all ps ++ more) → Resumes s f x y ps c d
  resumes [] x y h begins inside c d b more covered =
      record { seen = []; book = c; path = ap (λ (z : Spot). spot_at z.at z.rows c) h; same = refl; beside = rw (append-nil d) b }
  resumes (p ∷ ps) x y h begins inside c d b more covered =
      let t = took_at s x p h.0 h.1 in
      let st : Stepped = t.stepped in
      let next : Spot = spot_of st p.next in
      let on : Path (turn_at s) next ps y = subst (λ (z : Spot). Path (turn_at s) z ps y) t.spot h.2 in
      let one : Gains x.book (layout_of (item p.which)) st.book =
      subst (λ (e : Element). Gains x.book (layout_of e) st.book) t.is (element_gains s o x.at x.rows x.book st p.next begins t.reads) in
      let in_f : Within st.book f = λ n l e. inside n l ((path_gains s o ps next y one.good on).keeps n l e) in
      let g = follows s f good x st p.next p.which t.reads t.is in_f (λ l i. in_f l.number l (one.has l i)) c d b covered.0 in
      let place : p.place ≡ x.at = ap (λ (q : Seen). q.place) t.seen in
      let rest = resumes ps next y on one.good inside g.stepped.book (d ++ layout_of (item p.which)) g.beside more covered.1 in
      record {
        seen = seen_at x.at p.which g.stepped p.next ∷ rest.seen;
        book = rest.book;
        path = (
          spot_of g.stepped p.next,
          turn_item spot_of x.at (element_at s x.at x.rows c) g.stepped p.next p.which g.reads g.is,
          subst (λ (n : ℕ). Path (turn_at s) (spot_at p.next n g.stepped.book) rest.seen (spot_at y.at y.rows rest.book)) (sym g.rows) rest.path,
        );
        same = cc rest.same;
        beside = rw (← append_assoc d (layout_of (item p.which)) (layouts_of (placed_all ps))) rest.beside;
      }

module _ (s : List ℕ) where
  -- The end is read alike over every book.
  pub end_alike : (x : Spot) (n t next : ℕ) (c : Book) → turn_at s x ≡ stops (ended n t next) → turn_at s (spot_at x.at x.rows c) ≡ stops (ended n t next)
  end_alike x n t next c e =
      let (st, reads, is) = ends spot_of x.at (element_at s x.at x.rows x.book) n t next e in
      go st is (went s x.at x.rows x.book st next reads)
    where
      go : (st : Stepped) → st.element ≡ finish n t → Went s x.at x.rows x.book st next → turn_at s (spot_at x.at x.rows c) ≡ stops (ended n t next)
      go st is (at_layout l z k h g el ro) = absurd (let z : ◌≡◌ {A = ℕ} 0 1 = cc in omega arith)
      go st is (at_row r k h el ro bo) = absurd (let z : ◌≡◌ {A = ℕ} 0 1 = cc in omega arith)
      go st is (at_finish m u k h el ro bo) =
          turn_end spot_of x.at (element_at s x.at x.rows c) (record { element = finish m u; rows = x.rows; book = c }) next n t
          (finish_step s x.at x.rows c (finish m u) next k h) (sym el ∙ is)

  -- A row that the second book lacks.
  pub lacks : (at rows : ℕ) (b : Book) (st : Stepped) (next : ℕ) (r : Row) (c : Book) → element_at s at rows b ≡ ok st next
      → st.element ≡ item (row r) → find r.number c ≡ none → element_at s at rows c ≡ no 12 (at + 4)
  lacks at rows b st next r c e is none_there = go (went s at rows b st next e)
    where
      go : Went s at rows b st next → element_at s at rows c ≡ no 12 (at + 4)
      go (at_layout l x k h g el ro) = let z : ◌≡◌ {A = ℕ} 0 1 = cc in absurd (omega arith)
      go (at_row v k h el ro bo) =
          let q : r ≡ v = cc in
          row_stop s at rows c 12 (at + 4) k (row_lacks b s (at + 4) v next h c (subst (λ (y : Row). find y.number c ≡ none) q none_there))
      go (at_finish n t k h el ro bo) = let z : ◌≡◌ {A = ℕ} 0 1 = cc in absurd (omega arith)

-- A book with all the numbers of another.
abbrev pub Under : Book → Book → Type 0
Under b d = (n : ℕ) → is_none (find n b) ≡ false → is_none (find n d) ≡ false

and_under : (a b c : Bool) → (a ≡ false → b ≡ false) → a && c ≡ false → b && c ≡ false
and_under true true c h e = e
and_under true false c h e = refl
and_under false true c h e = let z : ◌≡◌ {A = ℕ} 0 1 = cc (h refl) in absurd (omega arith)
and_under false false c h e = refl

under_append : (b d e : Book) → Under b d → Under (b ++ e) (d ++ e)
under_append b d e u n h = absent_append n d e ∙ and_under (is_none (find n b)) (is_none (find n d)) (is_none (find n e)) (u n) (sym (absent_append n b e) ∙ h)

-- A way is covered by any book with all the numbers of its own, and so is its end.
pub covers : (s : List ℕ) → Each Octet s → (ps : List Seen) (x y : Spot) (at : ℕ) (e : Stop) (d : Book) → Path (turn_at s) x ps y → GoodBook x.book → Under x.book d
    → Covered d (elements_of ps at (some e))
covers s o [] x y at (ended n t next) d h good u = (tt, tt)
covers s o [] x y at (refused n p) d h good u = tt
covers s o (p ∷ ps) x y at e d h good u =
    let t = took_at s x p h.0 h.1 in
    let one = turn_gains s o x h.0 p good h.1 in (
      subst (Known d) t.is (go t.stepped (went s x.at x.rows x.book t.stepped p.next t.reads)),
      covers s o ps h.0 y at e (d ++ layout_of (item p.which)) h.2 one.good λ n q. under_append x.book d (layout_of (item p.which)) u n (sym (one.alike n) ∙ q),
    )
  where
    go : (st : Stepped) → Went s x.at x.rows x.book st p.next → Known d st.element
    go st (at_layout l z k e g el ro) = rw el tt
    go st (at_row r k e el ro bo) = rw el (u r.number (rw (row_found x.book s (x.at + 4) r p.next e).1 refl))
    go st (at_finish n t k e el ro bo) = rw el tt
