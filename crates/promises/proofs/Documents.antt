-- Demand 2: a document's reading is its image's inverse, so that octets are accepted just where they are the image of a good document, and of one alone.
-- Header and elements are inverse each by their own laws, one behind the other. Assumes nothing.
use mathlib.Core.Path.{◌≡◌, refl, sym, ap, ◌∙◌, subst}
use mathlib.Core.List.{List, [], ◌∷◌, ◌++◌, append_assoc}
use Prim.Native.Nat.{ℕ, suc, ◌+◌, ◌-◌, ◌≤◌}
use native.Mathlib.Omega.{arith}
use native.Mathlib.Nat.{zero-add}
use lib.ListN.{length, length-append}
use lib.Dec.{leb, lit≤}
use borrow.Author.Tests.{leb-true, le-leb}
use mathlib.Core.Bool.{true}
use mathlib.Core.Logic.{◌↔◌}
use Rattle.octets.specs.Limits.{longest}
use Rattle.octets.specs.Reading.{Read, ok, no, ◌then◌, is_ok}
use Rattle.octets.specs.Writing.{word, images, Each, Octet}
use Rattle.layouts.specs.Layout.{layout_image}
use Rattle.rows.specs.Row.{row_image}
use Rattle.headers.specs.Header.{Header, header_from, header_at, header_image, GoodHeader}
use Rattle.elements.specs.Element.{Item, layout, row}
use Rattle.elements.specs.Walk.{spot_at, turn_at, walk, through}
use Rattle.elements.specs.Reading.{Placed, elements_read, Reading, reading, rows_of, whole}
use Rattle.elements.specs.Document.{Document, item_image, row_count, image, Good, placed_from, reading_of}
use Rattle.octets.proofs.Spans.{Spans, join, middle, all_spans, spans_all, length_word, word_octets, each_append}
use Rattle.octets.proofs.Inverse.{after, settle, chosen, no_ok}
use Rattle.promises.specs.Meaning.{Means, Meaning}
use Rattle.headers.proofs.Headers.{header_inverse}
use Rattle.elements.proofs.Elements.{end_image, items_octets}
use Rattle.elements.proofs.Items.{Elements, elements_back, elements_forth}

pub image_is : (d : Document) → image d ≡ header_image d.header ++ (images item_image d.items ++ end_image (row_count d.items) d.end)
unfolding image
image_is d = simp append_assoc

-- Items are not more than their octets.
pub few : (items : List Item) → (row_count items ≤ length items) × (length items ≤ length (images item_image items))
unfolding images
few [] = (omega arith, omega arith)
few (layout l ∷ rest) =
    let h = few rest in
    (omega arith, omega (arith, length-append (item_image (layout l)) (images item_image rest), length-append (word 4 1) (layout_image l), length_word 4 1))
few (row r ∷ rest) =
    let h = few rest in
    (omega arith, omega (arith, length-append (item_image (row r)) (images item_image rest), length-append (word 4 2) (row_image r), length_word 4 2))

-- Whatever is inside the limits is read back from its image.
pub complete : (d : Document) → Good d → reading (image d) ≡ ok (reading_of d) (length (image d))
unfolding reading through header_at reading_of
complete d g =
    let s : List ℕ = image d in
    let header : List ℕ = header_image d.header in
    let items : List ℕ = images item_image d.items in
    let rows : ℕ = row_count d.items in
    let (p, q) = middle header (items ++ end_image rows d.end) (subst (Spans s (length s) 0 (length s)) (image_is d) (all_spans s)) in
    let many : length d.items ≤ length s =
    omega (arith, few d.items, ap length (image_is d), length-append header (items ++ end_image rows d.end), length-append items (end_image rows d.end)) in
    let k : ℕ = length s - length d.items in
    let turns : length s + 1 ≡ length d.items + suc k = omega arith in
    let elements = ap (λ (n : ℕ). elements_read (walk (turn_at s) n (spot_at (0 + length header) 0 []))) turns
    ∙ elements_back s g.fits d.items 0 rows d.end [] g.items (zero-add rows) (omega (arith, few d.items, g.fits)) g.end refl q k in
    rw (
      le-leb (length s) longest g.fits,
      (header_inverse s).back d.header tt g.header p,
      elements,
      zero-add (length header),
    )

-- The document that a reading of a whole list is the reading of.
abbrev Reads : List ℕ → Reading → ℕ → Type 0
Reads s r end = (d : Document) × Means s d × (reading_of d ≡ r) × (end ≡ length s)

meaning : {s : List ℕ} {h : Header} {next end : ℕ} {placed : List Placed} (short : length s ≤ longest) → GoodHeader h → Spans s (length s) 0 next (header_image h)
    → Elements s short next 0 [] placed end → Reads s (record { header = h; elements = placed }) end
unfolding reading_of
meaning {s} {h} {next} short g p m =
    let d : Document = record { header = h; items = m.items; end = m.time } in
    let count : m.total ≡ row_count m.items = sym m.sum ∙ zero-add (row_count m.items) in
    let place : next ≡ length (header_image h) = p.place ∙ zero-add (length (header_image h)) in
    let is : image d ≡ s = image_is d ∙ spans_all (join p (rw count at m.spans)) m.whole in (
      d,
      record { good = record { header = g; items = m.good; end = m.small; fits = rw is short }; is = is },
      ap (λ (xs : List Placed). record { header = h; elements = xs }) (cc m.is),
      m.whole,
    )

-- What is read is inside the limits, and its image is what was read.
pub sound : (s : List ℕ) → Each Octet s → (r : Reading) (end : ℕ) → reading s ≡ ok r end
    → (d : Document) × Means s d × (reading_of d ≡ r) × (end ≡ length s)
unfolding reading through header_at
sound s o r end e =
    after (header_at s) _ e λ h next e₁ e₂.
    after (elements_read (through s (spot_at next 0 []))) _ e₂ λ placed last e₃ e₄.
    let (t, e₅) = chosen (leb (length s) longest) (λ _. header_from s 0) 2 0 e₁ in
    let short : length s ≤ longest = leb-true (length s) longest t in
    let (u, g, p) = (header_inverse s).forth o (omega arith) e₅ in
    settle (Reads s) e₄ (meaning short g p (elements_forth s short (length s + 1) o p.inside e₃))

-- An image is of octets, so that every good document is one that can be lent.
pub image_octets : (d : Document) → Good d → Each Octet (image d)
image_octets d g =
    rw (image_is d)
    (each_append (header_image d.header) (images item_image d.items ++ end_image (row_count d.items) d.end) ((header_inverse []).octets d.header tt g.header)
    (each_append (images item_image d.items) (end_image (row_count d.items) d.end) (items_octets [] (lit≤ tt) d.items [] g.items)
    (each_append (word 4 3) (word 4 (row_count d.items) ++ word 8 d.end) (word_octets 4 3)
    (each_append (word 4 (row_count d.items)) (word 8 d.end) (word_octets 4 (row_count d.items)) (word_octets 8 d.end)))))

-- Two meanings of one image are one.
unique : (d e : Document) → Good d → Good e → image d ≡ image e → reading_of d ≡ reading_of e
unique d e g h same = settle (λ (r : Reading) (_ : ℕ). reading_of d ≡ r) (sym (complete d g) ∙ ap reading same ∙ complete e h) refl

-- A reading names its document.
heads : {a b : Placed} {x y : List Placed} → a ∷ x ≡ b ∷ y → (a.element ≡ b.element) × (x ≡ y)
heads {a} {b} {x} {y} e =
    let h : a ≡ b = cc in
    (ap (λ (p : Placed). p.element) h, cc)

placed_once : (at at₁ rows rows₁ end end₁ : ℕ) (xs ys : List Item) → placed_from at rows end xs ≡ placed_from at₁ rows₁ end₁ ys → (xs ≡ ys) × (end ≡ end₁)
placed_once at at₁ rows rows₁ end end₁ [] [] e = let h = (heads e).0 in (refl, cc)
placed_once at at₁ rows rows₁ end end₁ [] (y ∷ ys) e = let h = (heads e).0 in (cc, cc)
placed_once at at₁ rows rows₁ end end₁ (x ∷ xs) [] e = let h = (heads e).0 in (cc, cc)
placed_once at at₁ rows rows₁ end end₁ (x ∷ xs) (y ∷ ys) e =
    let h = (heads e).0 in
    let same : x ≡ y = cc in
    let (q, r) = placed_once (at + length (item_image x)) (at₁ + length (item_image y)) rows rows₁ end end₁ xs ys (heads e).1 in
    (cc, r)

pub one_meaning : (d e : Document) → Good d → Good e → image d ≡ image e → d ≡ e
unfolding reading_of
one_meaning d e g h same =
    let r : reading_of d ≡ reading_of e = unique d e g h same in
    let header : d.header ≡ e.header = ap (λ (x : Reading). x.header) r in
    let (items, end) = placed_once _ _ _ _ _ _ d.items e.items (ap (λ (x : Reading). x.elements) r) in
    λ i. record { header = header i; items = items i; end = end i }

-- The whole check counts a document's rows.
placed_rows : (at rows end : ℕ) (items : List Item) → rows_of (placed_from at rows end items) ≡ row_count items
placed_rows at rows end [] = refl
placed_rows at rows end (layout l ∷ rest) = zero-add (rows_of (placed_from (at + length (item_image (layout l))) rows end rest)) ∙ placed_rows (at + length (item_image (layout l))) rows end rest
placed_rows at rows end (row r ∷ rest) = ap (λ (n : ℕ). 1 + n) (placed_rows (at + length (item_image (row r))) rows end rest)

counts : (d : Document) → Good d → whole (image d) ≡ ok (row_count d.items) (length (image d))
unfolding whole reading_of
counts d g = rw (complete d g, placed_rows (length (header_image d.header)) (row_count d.items) d.end d.items)

-- The whole check and the reading are accepted together, and refused alike.
whole_ok : (s : List ℕ) → is_ok (whole s) ≡ is_ok (reading s)
unfolding whole
whole_ok s = go (reading s)
  where
    go : (r : Read Reading) → is_ok (r then λ x end. ok (rows_of x.elements) end) ≡ is_ok r
    go (ok x end) = refl
    go (no n p) = refl

whole_no : (s : List ℕ) (n p : ℕ) → (whole s ≡ no n p) ↔ (reading s ≡ no n p)
unfolding whole
whole_no s n p = (go (reading s), λ e. rw e)
  where
    go : (r : Read Reading) → (r then λ x end. ok (rows_of x.elements) end) ≡ no n p → r ≡ no n p
    go (ok x end) e = absurd (no_ok e refl)
    go (no m q) e = let a : m ≡ n = cc in let b : q ≡ p = cc in cc

pub demand_2 : (s : List ℕ) → Each Octet s → Meaning s
demand_2 s o =
    record {
      complete = back;
      sound = sound s o;
      one = λ d e m n. one_meaning d e m.good n.good (m.is ∙ sym n.is);
      accepts = (λ t. forth (reading s) refl (sym (whole_ok s) ∙ t), λ m. ap is_ok (back m.0 m.1).1);
      refuses = whole_no s;
    }
  where
    back : (d : Document) → Means s d → (reading s ≡ ok (reading_of d) (length s)) × (whole s ≡ ok (row_count d.items) (length s))
    back d m =
        subst (λ (x : List ℕ). (reading x ≡ ok (reading_of d) (length x)) × (whole x ≡ ok (row_count d.items) (length x))) m.is
        (complete d m.good, counts d m.good)

    forth : (r : Read Reading) → reading s ≡ r → is_ok r ≡ true → (d : Document) × Means s d
    forth (ok x end) e t = let (d, m, q, z) = sound s o x end e in (d, m)
    forth (no n p) e t = absurd (let z : ◌≡◌ {A = ℕ} 0 1 = cc in omega arith)
