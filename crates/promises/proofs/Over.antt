-- The reading by steps over lent octets is the walk over the book that they hold, and so it is the reading; what each of its steps is given and leaves. Assumes nothing.
use Prim.Native.Nat.{ℕ, ◌+◌, ◌≤◌}
use mathlib.Core.Path.{◌≡◌, refl, sym, ◌∙◌, ap, subst}
use mathlib.Core.List.{List, [], ◌∷◌, ◌++◌, append_assoc, append-nil}
use mathlib.Core.Option.{some, none}
use mathlib.Core.Logic.{inl, inr}
use native.Mathlib.Omega.{arith}
use native.Mathlib.Nat.{add-zero}
use lib.ListN.{length, take, drop, length-append}
use lib.Dec.{leb}
use borrow.Author.Tests.{leb-true}
use Rattle.octets.specs.Limits.{longest, book_room}
use Rattle.octets.specs.Reading.{Read, ok, no}
use Rattle.octets.specs.Writing.{Each, Octet, over}
use Rattle.layouts.specs.Layout.{Layout, layout_image}
use Rattle.layouts.specs.Book.{Book, book_image, book_of, book_in, GoodBook}
use Rattle.headers.specs.Header.{Header, header_at}
use Rattle.elements.specs.Element.{layout, Element, item, Stepped}
use Rattle.elements.specs.Steps.{holding, lent_book, step_at}
use Rattle.elements.specs.Walk.{Stop, Seen, stops, Walk, standing, behind, walk, Path, Spot, spot_at, turn_at, through, Lent, lent_at, lent_of, turn_over, through_over}
use Rattle.elements.specs.Walk as walk
use Rattle.elements.specs.Reading.{Placed, placed_all, closing, elements_of, answer_of, elements_read, reading_from, Reading, headed, reading, as_row, rows_of, whole}
use Rattle.promises.specs.BySteps.{Ending, refused, ending_of, BySteps, answer, FromFirst, no_header, then_steps, Carries, Few, OneReading, OneFirst, Appends, Comes, Meets, Stops}
use Rattle.octets.proofs.Inverse.{after, chosen}
use Rattle.layouts.proofs.Books as books
use Rattle.layouts.proofs.Books.{image_nil, image_snoc, book_back, book_forth}
use Rattle.layouts.proofs.Growing.{Learnt, learnt, good_nil}
use Rattle.elements.proofs.Before.{lent_forth, lent_is, step_refused}
use Rattle.elements.proofs.Went.{Went, at_layout, at_row, at_finish, went, step_rows}
use Rattle.elements.proofs.Told.{holding_lent}
use Rattle.elements.proofs.Walks.{walk_none, walk_path, walk_at_stop, path_walk, path_split}
use Rattle.elements.proofs.Turns.{took_over, refuses, turn_no}
use Rattle.elements.proofs.Through.{through_comes, through_stops, through_path, over_stops}
use Rattle.elements.proofs.Readings.{placed_length, cut}
use Rattle.elements.proofs.Lents.{Holds, through_alike}
use Rattle.promises.proofs.Run.{first_here}

-- Where a walk by steps comes to: elements before its stop, and the place of that.
pub record Came (s : List ℕ) (x : Lent) (ps : List Placed) (at : ℕ) (e : Stop) : Type 0 where
  pub passes : placed_all (through_over s x).seen ≡ ps
  pub place : (through_over s x).spot.at ≡ at
  pub stop : (through_over s x).stop ≡ some e

pub came_steps : {s : List ℕ} {x : Lent} {ps : List Placed} {at : ℕ} {e : Stop} → Came s x ps at e → BySteps s x (ps ++ closing at (some e)) (ending_of e)
came_steps {s = s} {x = x} {ps = ps} {e = e} c =
    let k = (through_over s x).spot.at in
    record {
      stop = e;
      comes = c.stop;
      gives = ap (λ (qs : List Placed). qs ++ closing k (some e)) c.passes ∙ ap (λ (p : ℕ). ps ++ closing p (some e)) c.place;
      ends = refl;
    }

module _ (s : List ℕ) (o : Each Octet s) (short : length s ≤ longest) where
  -- Lent octets that carry a good book hold it.
  pub holds : (x : Lent) (y : Spot) → x.at ≡ y.at → x.rows ≡ y.rows → Few s y.at y.rows → Carries x.octets x.used y.book → GoodBook y.book → Holds s o short x y
  unfolding book_in
  holds x y at rows few c good =
      let there : book_of x.octets x.used ≡ ok y.book x.used =
      subst (λ (u : ℕ). book_of x.octets u ≡ ok y.book u) (sym c.size)
      (book_back y.book x.octets good c.room (subst (λ (u : ℕ). take u x.octets ≡ book_image y.book) c.size c.held)) in
      record { at = at; rows = rows; few = rw (at, rows) few; room = c.room; is = rw there refl; book = rw there refl; good = good }

  -- The steps over them come to where a way over it comes to.
  pub path_came : (x : Lent) (y z : Spot) (ps : List Seen) (e : Stop) → Holds s o short x y → Path (turn_at s) y ps z → turn_at s z ≡ stops e → Came s x (placed_all ps) z.at e
  path_came x y z ps e h way stop =
      let all : through s y ≡ behind ps (standing z (some e)) = through_path s o short ps y z way ∙ ap (behind ps) (through_stops s o short z e stop) in
      let w = through_alike s o short x y h in
      record { passes = rw (w.seen, all, append-nil ps) refl; place = w.spot.at ∙ rw all refl; stop = w.stop ∙ rw all refl }

  read_steps : (x : Lent) (y : Spot) → Holds s o short x y → (ps : List Placed) × (e : Ending) × BySteps s x ps e × (elements_read (through s y) ≡ answer ps e)
  unfolding through
  read_steps x y h =
      let w : Walk Spot = through s y in
      let (e, stop) = through_comes s o short y in
      let ps : List Placed = elements_of w.seen w.spot.at (some e) in
      let d = path_came x y w.spot w.seen e h (walk_path (turn_at s) (length s + 1) y) (walk_at_stop (turn_at s) (length s + 1) y e stop) in
      (ps, ending_of e, came_steps d, rw stop (answered ps w.spot.at e))
    where
      answered : (ps : List Placed) (at : ℕ) (e : Stop) → answer_of ps at (some e) ≡ answer ps (ending_of e)
      answered ps at (walk.ended n t next) = refl
      answered ps at (walk.refused n p) = refl

-- Steps go one way alone.
pub once : {s : List ℕ} {x : Lent} {ps : List Placed} {e : Ending} → BySteps s x ps e → (qs : List Placed) (f : Ending) → BySteps s x qs f → (qs ≡ ps) × (f ≡ e)
once {s} {x} d qs f c =
    let same : c.stop ≡ d.stop = cc (c.comes, d.comes) in
    (sym c.gives ∙ (ap (λ (z : Stop). elements_of (through_over s x).seen (through_over s x).spot.at (some z)) same ∙ d.gives), sym c.ends ∙ (ap ending_of same ∙ d.ends))

pub one_reading : (s : List ℕ) (x : Lent) → Each Octet s → Each Octet x.octets → Few s x.at x.rows → OneReading s x
unfolding reading_from
one_reading s x o p few = go (lent_book s x.rows x.octets x.used) refl
  where
    told : (ps : List Placed) (e : Ending) → BySteps s x ps e → reading_from s x.at x.rows x.octets x.used ≡ answer ps e → OneReading s x
    told ps e d q = record { elements = ps; ending = e; steps = d; only = λ qs f c. once d qs f c; answers = q }

    go : (r : Read Book) → lent_book s x.rows x.octets x.used ≡ r → OneReading s x
    go (no n m) e =
        let stop = over_stops s o x (walk.refused n m) (turn_no (lent_of x.octets) x.at _ n m (step_refused s x.rows x.octets x.used x.at n m e)) in
        told [] (refused n m) (record { stop = walk.refused n m; comes = rw stop refl; gives = rw stop refl; ends = refl }) (rw e refl)
    go (ok b end) e =
        let (short, low, is) = lent_forth s x.rows x.octets x.used p e in
        let l = (book_forth x.octets x.used p is).0 in
        let (ps, f, d, q) = read_steps s o short x (spot_at x.at x.rows (book_in x.octets x.used))
        (record { at = refl; rows = refl; few = few; room = l.room; is = is; book = refl; good = l.good }) in
        told ps f d (rw (lent_is s x.rows x.octets x.used short is low) q)

-- A first-octet reading.
pub header_short : (s : List ℕ) {h : Header} {next : ℕ} → header_at s ≡ ok h next → length s ≤ longest
unfolding header_at
header_short s e = let (t, _) = chosen (leb (length s) longest) _ 2 0 e in leb-true (length s) longest t

module _ (s : List ℕ) (o : Each Octet s) (octets : List ℕ) (room : book_room ≤ length octets) where
  first_goes : (h : Header) (next : ℕ) → header_at s ≡ ok h next
      → (ps : List Placed) × (e : Ending) × BySteps s (lent_at next 0 octets 0) ps e × (reading s ≡ headed h (answer ps e))
  unfolding reading
  first_goes h next e =
      let short = header_short s e in
      let empty : Carries octets 0 [] = record { room = room; size = rw image_nil refl; held = rw image_nil refl } in
      let (ps, f, d, q) = read_steps s o short (lent_at next 0 octets 0) (spot_at next 0 [])
      (holds s o short (lent_at next 0 octets 0) (spot_at next 0 []) refl refl (omega arith) empty good_nil) in
      (ps, f, d, rw (e, q))

  first_only : (r : Read Reading) → FromFirst s octets r → r ≡ reading s
  unfolding reading
  first_only r (no_header e) = rw e
  first_only r (then_steps {h} {next} {elements} {e} e₁ d q) =
      let (ps, f, c, z) = first_goes h next e₁ in
      let (a, b) = once c elements e d in
      let same : answer elements e ≡ answer ps f = cc (a, b) in
      q ∙ (ap (headed h) same ∙ sym z)

  pub one_first : OneFirst s octets
  unfolding reading whole
  one_first = record { steps = go (header_at s) refl; only = first_only; whole_is = λ r f. rw (first_only r f) }
    where
      go : (r : Read Header) → header_at s ≡ r → FromFirst s octets (reading s)
      go (no n p) e = subst (FromFirst s octets) (rw e) (no_header e)
      go (ok h next) e = let (ps, f, d, z) = first_goes h next e in then_steps e d z

-- What an accepted step leaves.
kept : (octets : List ℕ) (used : ℕ) (b : Book) → books.Lent octets used b → (holding b octets ≡ octets) × (length (book_image b) ≡ used)
kept octets used b l = (holding_lent octets used b l, l.size)

appended : (octets : List ℕ) (used : ℕ) (b : Book) (m : Layout) → books.Lent octets used b
    → (holding (b ++ m ∷ []) octets ≡ over octets used (layout_image m)) × (length (book_image (b ++ m ∷ [])) ≡ used + length (layout_image m))
unfolding over
appended octets used b m lent =
    let long : length (book_image (b ++ m ∷ [])) ≡ used + length (layout_image m) =
    ap length (image_snoc b m) ∙ length-append (book_image b) (layout_image m) ∙ ap (λ (n : ℕ). n + length (layout_image m)) lent.size in
    (rw (long, image_snoc b m, lent.image) (append_assoc (take used octets) (layout_image m) (drop (used + length (layout_image m)) octets)), long)

pub appends : (s : List ℕ) (at rows : ℕ) (octets : List ℕ) (used : ℕ) (st : Stepped) (next : ℕ) → Each Octet octets → step_at s at rows octets used ≡ ok st next → Appends octets used st
unfolding step_at
appends s at rows octets used st next o e =
    after (lent_book s rows octets used) _ e λ b x e₁ e₂.
    let (short, low, is) = lent_forth s rows octets used o e₁ in
    let same : book_in octets used ≡ b = cc (lent_is s rows octets used short is low, e₁) in
    go b (subst (books.Lent octets used) same (book_forth octets used o is).0) (went s at rows b st next e₂)
  where
    learning : (b : Book) (m : Layout) → books.Lent octets used b → st.element ≡ item (layout m) → Learnt b m st.book → Appends octets used st
    learning b m lent el (inl h) = inl (rw h.3 (kept octets used b lent))
    learning b m lent el (inr h) = let (p, q) = appended octets used b m lent in inr (m, el, rw h.3 p, rw h.3 q)

    go : (b : Book) → books.Lent octets used b → Went s at rows b st next → Appends octets used st
    go b lent (at_layout m x k h g el ro) = learning b m lent el (learnt b m (at + 4) st.book x g)
    go b lent (at_row r k h el ro bo) = inl (rw bo (kept octets used b lent))
    go b lent (at_finish n t k h el ro bo) = inl (rw bo (kept octets used b lent))

-- The rows at each element.
step_counts : (s : List ℕ) (at rows : ℕ) (octets : List ℕ) (used : ℕ) (st : Stepped) (next : ℕ) → step_at s at rows octets used ≡ ok st next → st.rows ≡ rows + as_row st.element
unfolding step_at
step_counts s at rows octets used st next e = after (lent_book s rows octets used) _ e λ b x e₁ e₂. step_rows s at rows b st next e₂

module _ (s : List ℕ) where
  over_rows : (ps : List Seen) (x y : Lent) → Path (turn_over s) x ps y → y.rows ≡ x.rows + rows_of (placed_all ps)
  over_rows [] x y h = rw (← h) (sym (add-zero x.rows))
  over_rows (p ∷ ps) x y h =
      let t = took_over s x p h.0 h.1 in
      let one : h.0.rows ≡ x.rows + as_row (item p.which) =
      ap (λ (z : Lent). z.rows) t.spot ∙ (step_counts s x.at x.rows x.octets x.used t.stepped p.next t.reads ∙ ap (λ (d : Element). x.rows + as_row d) t.is) in
      omega (arith, over_rows ps h.0 y h.2)

  -- Behind a way a reading by steps stands where the way leads.
  comes : (x : Lent) (ps : List Seen) (z : Lent) → Path (turn_over s) x ps z → Comes s x (placed_all ps) z
  comes x ps z h =
      let there : walk (turn_over s) (length (placed_all ps)) x ≡ behind ps (standing z none) =
      ap (λ (k : ℕ). walk (turn_over s) k x) (placed_length ps ∙ sym (add-zero (length ps))) ∙ (path_walk (turn_over s) ps 0 x z h ∙ ap (behind ps) (walk_none (turn_over s) z)) in
      record { passes = rw (there, append-nil ps) refl; stands = rw there refl }

-- Each element of a reading by steps.
pub meets : {s : List ℕ} {x : Lent} {ps : List Placed} {e : Ending} (a : List Placed) (q : Placed) (b : List Placed) → BySteps s x ps e → ps ≡ a ++ q ∷ b → Meets s x a q
unfolding through_over
meets {s} {x} a q b d is =
    let w : Walk Lent = through_over s x in
    let c = cut w.seen w.spot.at (some d.stop) a q b (d.gives ∙ is) in
    let (z, to, on) = path_split (turn_over s) c.front c.back x w.spot (subst (λ (ps : List Seen). Path (turn_over s) x ps w.spot) c.both (walk_path (turn_over s) (length s + 1) x)) in
    let h = first_here (λ (y : Lent). y.at) (λ (y : Lent). lent_of y.octets) (λ (y : Lent). step_at s y.at y.rows y.octets y.used) c.back z w.spot d.stop q b on
    (walk_at_stop (turn_over s) (length s + 1) x d.stop d.comes) c.rest_is in
    rw c.before_is (record {
      given = z;
      stepped = h.stepped;
      next = h.next;
      comes = comes s x c.front z to;
      there = sym h.place;
      steps = h.reads;
      element = h.is;
      rows_told = over_rows s c.front x z to;
      counts = step_counts s z.at z.rows z.octets z.used h.stepped h.next h.reads ∙ ap (λ (el : Element). z.rows + as_row el) h.is;
    })

-- The step at which a reading is refused.
pub came_stops : {s : List ℕ} {x : Lent} {ps : List Placed} {at n p : ℕ} → Came s x ps at (walk.refused n p) → Stops s x ps at n p
unfolding through_over
came_stops {s} {x} {n = n} {p} c =
    let w : Walk Lent = through_over s x in
    let y : Lent = w.spot in
    rw (← c.passes) (record {
      given = y;
      comes = comes s x w.seen y (walk_path (turn_over s) (length s + 1) x);
      there = c.place;
      refuses = refuses (lent_of y.octets) y.at (step_at s y.at y.rows y.octets y.used) n p (walk_at_stop (turn_over s) (length s + 1) x (walk.refused n p) c.stop);
    })
