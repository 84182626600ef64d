-- What a way reads and leaves: the element named first is read at its spot; over books in hand, a book that has gained the layouts met and nothing else, and few rows. Assumes nothing.
use Prim.Native.Nat.{ℕ, ◌+◌, ◌≤◌}
use mathlib.Core.Path.{◌≡◌, refl, sym, ◌∙◌, ap, subst}
use mathlib.Core.List.Memᴰ
use mathlib.Core.List.{List, [], ◌∷◌, ◌++◌, append-nil, append_assoc, Memᴰ}
use mathlib.Core.Option.{some}
use mathlib.Core.Logic.{◌⊎◌, inl, inr}
use native.Mathlib.Omega.{arith}
use lib.ListN.{length}
use Rattle.octets.specs.Limits.{longest}
use Rattle.octets.specs.Reading.{Read, ok, is_ok}
use Rattle.octets.specs.Writing.{Each, Octet}
use Rattle.layouts.specs.Layout.{Layout}
use Rattle.layouts.specs.Book.{Book, find, GoodBook}
use Rattle.elements.specs.Element.{Element, item, finish, Stepped, element_at}
use Rattle.elements.specs.Walk.{Stop, ended, refused, Seen, Turn, goes, stops, Path, turn_of, Spot, turn_at}
use Rattle.elements.specs.Reading.{Placed, placed, placed_all, elements_of}
use Rattle.promises.specs.BySteps.{Few}
use Rattle.promises.specs.Resume.{layout_of, layouts_of}
use Rattle.octets.proofs.Ends.{number_room}
use Rattle.layouts.proofs.Layouts.{layout_forth}
use Rattle.layouts.proofs.Finding.{Within}
use Rattle.layouts.proofs.Growing.{Learnt, learnt, Alike, alike_append, alike_known, Grown, grown}
use Rattle.elements.proofs.Went.{Went, at_layout, at_row, at_finish, went}
use Rattle.elements.proofs.Behind.{few_rows}
use Rattle.elements.proofs.Turns.{took, ends, took_at, turn_moves, turn_rows}

-- An element that is read at a spot; so is the first one that a way to its stop meets.
module _ {X : Type 0} (at : X → ℕ) (to : X → Stepped → ℕ → X) (read : X → Read Stepped) where
  pub record Here (x : X) (p : Placed) : Type 0 where
    pub stepped : Stepped
    pub next : ℕ
    pub reads : read x ≡ ok stepped next
    pub place : p.place ≡ at x
    pub is : stepped.element ≡ p.element

  abbrev turn : X → Turn X
  turn x = turn_of (to x) (at x) (read x)

  pub first_here : (ps : List Seen) (x y : X) (e : Stop) (p : Placed) (others : List Placed) → Path turn x ps y → turn y ≡ stops e → p ∷ others ≡ elements_of ps (at y) (some e) → Here x p
  first_here (q ∷ ps) x y e p others h stop is =
      let t = took (to x) (at x) (read x) q h.0 h.1 in
      let same : placed q ≡ p = cc in
      rw (← same) (record { stepped = t.stepped; next = q.next; reads = t.reads; place = ap (λ (r : Seen). r.place) t.seen; is = t.is })
  first_here [] x y (ended n t next) p others h stop is =
      let (st, reads, last) = ends (to y) (at y) (read y) n t next stop in
      let same : record { place = at y; element = finish n t } ≡ p = cc in
      rw (← same, h) (record { stepped = st; next = next; reads = reads; place = refl; is = last })
  first_here [] x y (refused n q) p others h stop is = absurd (let z : ◌≡◌ {A = ℕ} 0 1 = cc in omega arith)

-- What a book gains: it stays good, keeps what it had, and has layouts met, and no other number.
pub record Gains (b ls c : Book) : Type 0 where
  pub good : GoodBook c
  pub keeps : Within b c
  pub has : (l : Layout) → Memᴰ l ls → find l.number c ≡ some l
  pub alike : Alike c (b ++ ls)

nothing_gained : (b : Book) → GoodBook b → Gains b [] b
nothing_gained b good = record { good = good; keeps = λ n m f. f; has = λ m i. absurd (Memᴰ.not-nil i); alike = rw (append-nil b) (λ n. refl) }

module _ (s : List ℕ) (o : Each Octet s) where
  pub element_gains : (at rows : ℕ) (b : Book) (st : Stepped) (next : ℕ) → GoodBook b → element_at s at rows b ≡ ok st next → Gains b (layout_of st.element) st.book
  element_gains at rows b st next good e = go (went s at rows b st next e)
    where
      learning : (l : Layout) → Learnt b l st.book → Alike st.book (b ++ l ∷ [])
      learning l (inl h) = rw h.3 (alike_known b l h.0 h.1)
      learning l (inr h) = rw h.3 (λ n. refl)

      go : Went s at rows b st next → Gains b (layout_of st.element) st.book
      go (at_layout l x k h g el ro) =
          let t : Grown b l st.book = grown b l (at + 4) st.book x good (layout_forth s l (at + 4) next o (number_room s at 4 (ap is_ok k)) h).0 g in
          rw el (record {
            good = t.good;
            keeps = t.keeps;
            has = λ m i. let q : m ≡ l = Memᴰ.eq_of_singleton i in subst (λ (y : Layout). find y.number st.book ≡ some y) (sym q) t.has;
            alike = learning l (learnt b l (at + 4) st.book x g);
          })
      go (at_row r k h el ro bo) = rw (el, bo) (nothing_gained b good)
      go (at_finish n t k h el ro bo) = rw (el, bo) (nothing_gained b good)

  pub turn_gains : (x y : Spot) (p : Seen) → GoodBook x.book → turn_at s x ≡ goes p y → Gains x.book (layout_of (item p.which)) y.book
  turn_gains x y p good e =
      let t = took_at s x p y e in
      rw t.spot (subst (λ (d : Element). Gains x.book (layout_of d) t.stepped.book) t.is (element_gains x.at x.rows x.book t.stepped p.next good t.reads))

  pub path_gains : (ps : List Seen) (x y : Spot) → GoodBook x.book → Path (turn_at s) x ps y → Gains x.book (layouts_of (placed_all ps)) y.book
  path_gains [] x y good h = rw (← h) (nothing_gained x.book good)
  path_gains (p ∷ ps) x y good h =
      let one = turn_gains x h.0 p good h.1 in
      let more = path_gains ps h.0 y one.good h.2 in
      record {
        good = more.good;
        keeps = λ n m f. more.keeps n m (one.keeps n m f);
        has = λ l i. go one more l (Memᴰ.append_cases (layout_of (item p.which)) i);
        alike = rw (← append_assoc x.book (layout_of (item p.which)) (layouts_of (placed_all ps)))
            (λ n. more.alike n ∙ alike_append h.0.book (x.book ++ layout_of (item p.which)) (layouts_of (placed_all ps)) one.alike n);
      }
    where
      go : Gains x.book (layout_of (item p.which)) h.0.book → Gains h.0.book (layouts_of (placed_all ps)) y.book → (l : Layout)
          → Memᴰ l (layout_of (item p.which)) ⊎ Memᴰ l (layouts_of (placed_all ps)) → find l.number y.book ≡ some l
      go one more l (inl i) = more.keeps l.number l (one.has l i)
      go one more l (inr i) = more.has l i

  -- Every row takes more than one octet, so that few rows stay few.
  pub path_few : length s ≤ longest → (ps : List Seen) (x y : Spot) → Path (turn_at s) x ps y → Few s x.at x.rows → Few s y.at y.rows
  path_few short [] x y h few = rw (← h) few
  path_few short (p ∷ ps) x y h few =
      path_few short ps h.0 y h.2 (omega (arith, turn_moves s x o short p h.0 h.1, turn_rows s x p h.0 h.1, few_rows (item p.which)))
