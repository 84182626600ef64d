-- Items and their image: a way is good items of which just the octets passed are the image, and the image of good items is a way. So elements read to the end are a document's.
use Prim.Native.Nat.{ℕ, suc, ◌+◌, ◌^◌, ◌≤◌, ◌<◌}
use mathlib.Core.Path.{◌≡◌, refl, sym, ap, ◌∙◌, subst}
use mathlib.Core.List.{List, [], ◌∷◌, ◌++◌, append-nil}
use native.Mathlib.Omega.{arith}
use native.Mathlib.Nat.{add-zero, add_assoc}
use lib.ListN.{length, length-append}
use Rattle.octets.specs.Limits.{longest}
use Rattle.octets.specs.Reading.{ok}
use Rattle.octets.specs.Writing.{images, Each, Octet}
use Rattle.octets.proofs.Spans.{Spans, none_spans, join, middle}
use Rattle.layouts.specs.Book.{Book}
use Rattle.elements.specs.Element.{Item, layout, row, item, finish, Stepped, element_at}
use Rattle.elements.specs.Walk.{ended, Seen, stops, Walk, behind, walk, Path, seen_at, Spot, spot_at, spot_of, turn_at}
use Rattle.elements.specs.Reading.{Placed, placed_all, elements_read}
use Rattle.elements.specs.Document.{item_image, row_count, GoodItems, placed_from}
use Rattle.elements.proofs.Elements.{end_image, Came, a_layout, a_row, an_end, element_back, element_forth}
use Rattle.elements.proofs.Walks.{walk_stops, walk_path, walk_at_stop, path_walk}
use Rattle.elements.proofs.Turns.{ends, turn_item, turn_end, took_at, turn_moves}
use Rattle.elements.proofs.Readings.{read_ended}

abbrev pub items_of : List Seen → List Item
items_of [] = []
items_of (p ∷ ps) = p.which ∷ items_of ps

-- Items with their places.
abbrev pub items_from : ℕ → List Item → List Placed
items_from at [] = []
items_from at (i ∷ rest) = record { place = at; element = item i } ∷ items_from (at + length (item_image i)) rest

pub placed_from_lem : (at rows end : ℕ) (items : List Item) → placed_from at rows end items ≡ items_from at items ++ (record { place = at + length (images item_image items); element = finish rows end } ∷ [])
unfolding images
placed_from_lem at rows end [] = rw (add-zero at) refl
placed_from_lem at rows end (i ∷ rest) =
    rw (placed_from_lem (at + length (item_image i)) rows end rest, length-append (item_image i) (images item_image rest), add_assoc at (length (item_image i)) (length (images item_image rest))) refl

module _ (s : List ℕ) (short : length s ≤ longest) where
  -- What a way passes: good items, and just the octets of their image.
  pub record Way (x : Spot) (ps : List Seen) (y : Spot) : Type 0 where
    pub good : GoodItems x.book (items_of ps)
    pub spans : Spans s (length s) x.at y.at (images item_image (items_of ps))
    pub rows : x.rows + row_count (items_of ps) ≡ y.rows
    pub places : placed_all ps ≡ items_from x.at (items_of ps)

  module _ (o : Each Octet s) where
    one_more : (x : Spot) (i : Item) (st : Stepped) (next : ℕ) → Came s x.at x.rows x.book st next → st.element ≡ item i
        → (ps : List Seen) (y : Spot) → Way (spot_of st next) ps y → Way x (seen_at x.at i st next ∷ ps) y
    unfolding images
    one_more x i st next (a_layout {l} {learnt} g m p) is ps y w =
        let q : i ≡ layout l = cc in
        rw q (record { good = (g, (learnt, m, w.good)); spans = join p w.spans; rows = w.rows; places = rw (w.places, p.place) refl })
    one_more x i st next (a_row {r} g p) is ps y w =
        let q : i ≡ row r = cc in
        rw q (record { good = (g.0, g.1, w.good); spans = join p w.spans; rows = omega (arith, w.rows); places = rw (w.places, p.place) refl })
    one_more x i st next (an_end g h p) is ps y w = absurd (let z : ◌≡◌ {A = ℕ} 0 1 = cc in omega arith)

    pub path_way : (ps : List Seen) (x y : Spot) → x.at ≤ length s → Path (turn_at s) x ps y → Way x ps y
    unfolding images
    path_way [] x y h e = rw (← e) (record { good = tt; spans = none_spans x.at h; rows = add-zero x.rows; places = refl })
    path_way (p ∷ ps) x y h e =
        let t = took_at s x p e.0 e.1 in
        let on = path_way ps e.0 y (turn_moves s x o short p e.0 e.1).1 e.2 in
        subst (λ (q : Seen). Way x (q ∷ ps) y) (sym t.seen)
        (one_more x p.which t.stepped p.next (element_forth s short x.at x.rows x.book o h t.reads) t.is ps y
        (subst (λ (z : Spot). Way z ps y) t.spot on))

  -- The way that the image of good items is.
  pub record Goes (x : Spot) (items : List Item) (next : ℕ) : Type 0 where
    pub seen : List Seen
    pub spot : Spot
    pub path : Path (turn_at s) x seen spot
    pub is : items_of seen ≡ items
    pub at : spot.at ≡ next
    pub rows : spot.rows ≡ x.rows + row_count items
    pub places : placed_all seen ≡ items_from x.at items

  go_on : (x : Spot) (i : Item) (st : Stepped) (mid : ℕ) → element_at s x.at x.rows x.book ≡ ok st mid → st.element ≡ item i → st.rows ≡ x.rows + row_count (i ∷ [])
      → mid ≡ x.at + length (item_image i) → (rest : List Item) (next : ℕ) → Goes (spot_of st mid) rest next → Goes x (i ∷ rest) next
  go_on x i st mid e is counts place rest next g =
      record {
        seen = seen_at x.at i st mid ∷ g.seen;
        spot = g.spot;
        path = (spot_of st mid, turn_item spot_of x.at (element_at s x.at x.rows x.book) st mid i e is, g.path);
        is = rw g.is refl;
        at = g.at;
        rows = g.rows ∙ counted i counts;
        places = rw (g.places, place) refl;
      }
    where
      counted : (j : Item) → st.rows ≡ x.rows + row_count (j ∷ []) → st.rows + row_count rest ≡ x.rows + row_count (j ∷ rest)
      counted (layout l) h = omega arith
      counted (row r) h = omega arith

  pub items_go : (items : List Item) (x : Spot) (next : ℕ) → x.rows + row_count items < 2 ^ 32 → GoodItems x.book items → Spans s (length s) x.at next (images item_image items) → Goes x items next
  unfolding images
  items_go [] x next few g p = record { seen = []; spot = x; path = refl; is = refl; at = sym (p.place ∙ add-zero x.at); rows = sym (add-zero x.rows); places = refl }
  items_go (layout l ∷ rest) x next few g p =
      let (p₁, p₂) = middle (item_image (layout l)) (images item_image rest) p in
      let mid : ℕ = x.at + length (item_image (layout l)) in
      let st : Stepped = record { element = item (layout l); rows = x.rows; book = g.1.0 } in
      go_on x (layout l) st mid (element_back s short x.rows x.book (omega arith) (a_layout g.0 g.1.1 p₁)) refl (sym (add-zero x.rows)) refl rest next
      (items_go rest (spot_of st mid) next few g.1.2 p₂)
  items_go (row r ∷ rest) x next few g p =
      let (p₁, p₂) = middle (item_image (row r)) (images item_image rest) p in
      let mid : ℕ = x.at + length (item_image (row r)) in
      let st : Stepped = record { element = item (row r); rows = x.rows + 1; book = x.book } in
      go_on x (row r) st mid (element_back s short x.rows x.book (omega arith) (a_row (g.0, g.1) p₁)) refl refl refl rest next
      (items_go rest (spot_of st mid) next (omega arith) g.2 p₂)

  -- Elements to the end, and the image of a document's items and end.
  pub elements_back : (items : List Item) {at end : ℕ} (rows total time : ℕ) (book : Book) → GoodItems book items → rows + row_count items ≡ total
      → total < 2 ^ 32 → time < 2 ^ 64 → end ≡ length s → Spans s (length s) at end (images item_image items ++ end_image total time) → (k : ℕ)
      → elements_read (walk (turn_at s) (length items + suc k) (spot_at at rows book)) ≡ ok (placed_from at total time items) end
  elements_back items {at} {end} rows total time book g sum small h whole p k =
      let (p₁, p₂) = middle (images item_image items) (end_image total time) p in
      let x : Spot = spot_at at rows book in
      let w = items_go items x (at + length (images item_image items)) (omega arith) g p₁ in
      let y : Spot = w.spot in
      let told : y.rows ≡ total = w.rows ∙ sum in
      let last : Stepped = record { element = finish y.rows time; rows = y.rows; book = y.book } in
      let stop : turn_at s y ≡ stops (ended y.rows time end) =
      turn_end spot_of y.at (element_at s y.at y.rows y.book) last end y.rows time
      (element_back s short y.rows y.book (omega arith) (an_end h whole (rw (told, w.at) p₂))) refl in
      let long : length items ≡ length w.seen = ap length (sym w.is) ∙ items_length w.seen in
      ap (λ (n : ℕ). elements_read (walk (turn_at s) (n + suc k) x)) long
      ∙ (ap elements_read (path_walk (turn_at s) w.seen (suc k) x y w.path ∙ ap (behind w.seen) (walk_stops (turn_at s) k y (ended y.rows time end) stop))
      ∙ rw (append-nil w.seen, w.places, w.at, told, placed_from_lem at total time items) refl)
    where
      items_length : (ps : List Seen) → length (items_of ps) ≡ length ps
      items_length [] = refl
      items_length (q ∷ ps) = ap (λ (n : ℕ). suc n) (items_length ps)

  -- The elements read from a place to the end, as items and a time.
  pub record Elements (at rows : ℕ) (book : Book) (placed : List Placed) (end : ℕ) : Type 0 where
    pub items : List Item
    pub total : ℕ
    pub time : ℕ
    pub good : GoodItems book items
    pub sum : rows + row_count items ≡ total
    pub small : time < 2 ^ 64
    pub spans : Spans s (length s) at end (images item_image items ++ end_image total time)
    pub is : placed ≡ placed_from at total time items
    pub whole : end ≡ length s

  pub elements_forth : (k : ℕ) → Each Octet s → {at rows end : ℕ} {book : Book} {placed : List Placed} → at ≤ length s
      → elements_read (walk (turn_at s) k (spot_at at rows book)) ≡ ok placed end → Elements at rows book placed end
  elements_forth k o {at} {rows} {end} {book} {placed} h e =
      let x : Spot = spot_at at rows book in
      let w : Walk Spot = walk (turn_at s) k x in
      let (n, t, stop, is) = read_ended w placed end e in
      let way = path_way o w.seen x w.spot h (walk_path (turn_at s) k x) in
      let (st, reads, last) = ends spot_of w.spot.at (element_at s w.spot.at w.spot.rows w.spot.book) n t end (walk_at_stop (turn_at s) k x (ended n t end) stop) in
      close w way n t is st last (element_forth s short w.spot.at w.spot.rows w.spot.book o way.spans.inside reads)
    where
      close : (w : Walk Spot) → Way (spot_at at rows book) w.seen w.spot → (n t : ℕ) → placed ≡ placed_all w.seen ++ (record { place = w.spot.at; element = finish n t } ∷ [])
          → (st : Stepped) → st.element ≡ finish n t → Came s w.spot.at w.spot.rows w.spot.book st end → Elements at rows book placed end
      close w way n t is st last (a_layout g m p) = absurd (let z : ◌≡◌ {A = ℕ} 0 1 = cc in omega arith)
      close w way n t is st last (a_row g p) = absurd (let z : ◌≡◌ {A = ℕ} 0 1 = cc in omega arith)
      close w way n t is st last (an_end {time} g whole p) =
          let a : n ≡ w.spot.rows = cc in
          let b : t ≡ time = cc in
          record {
            items = items_of w.seen;
            total = w.spot.rows;
            time = time;
            good = way.good;
            sum = way.rows;
            small = g;
            spans = join way.spans p;
            is = is ∙ rw (way.places, a, b, way.spans.place, ← placed_from_lem at w.spot.rows time (items_of w.seen)) refl;
            whole = whole;
          }
