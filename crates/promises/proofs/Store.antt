-- Demand 3: steps from an element of an accepted document on, over lent octets that hold a book taken from it, are those of the first-octet reading, up to the first row whose layout is lacking.
-- The first-octet reading goes to the element and on to the end; the second way goes beside it. Assumes nothing.
use Prim.Native.Nat.{ℕ, ◌+◌, ◌≤◌}
use mathlib.Core.Path.{◌≡◌, refl, sym, ◌∙◌, ap, subst}
use mathlib.Core.List.{List, [], ◌∷◌, ◌++◌, Memᴰ, append-nil, append_assoc}
use mathlib.Core.Bool.{false}
use mathlib.Core.Option.{Option, some, none}
use mathlib.Core.Logic.{◌⊎◌, inl, inr}
use native.Mathlib.Omega.{arith}
use lib.ListN.{length}
use Rattle.octets.specs.Limits.{longest}
use Rattle.octets.specs.Writing.{Each, Octet}
use Rattle.layouts.specs.Layout.{Layout, layout_image, GoodLayout}
use Rattle.layouts.specs.Book.{Book, find, is_none, Distinct, GoodBook}
use Rattle.rows.specs.Row.{Row}
use Rattle.headers.specs.Header.{header_at}
use Rattle.elements.specs.Element.{layout, row, Element, item, finish, element_at}
use Rattle.elements.specs.Walk.{Stop, Seen, stops, Walk, Path, Spot, spot_at, spot_of, turn_at, through, Lent, lent_at}
use Rattle.elements.specs.Walk as walk
use Rattle.elements.specs.Reading.{Placed, placed_all, elements_of, elements_read, Reading, reading, rows_of}
use Rattle.promises.specs.BySteps.{ended, refused, BySteps, Carries, Few, Stops}
use Rattle.promises.specs.Resume.{layout_of, layouts_of, Once, AllIn, CutAt, Taken, Lacking, FirstLacking, Resumed}
use Rattle.octets.proofs.Inverse.{ok_value, ok_place, after}
use Rattle.layouts.proofs.Finding.{none_some, some_same, find_number, find_member, member_find, each_find, total_within, total_length, total_image}
use Rattle.layouts.proofs.Growing.{Alike, good_nil}
use Rattle.elements.proofs.Walks.{walk_path, walk_at_stop, path_split}
use Rattle.elements.proofs.Turns.{turn_no}
use Rattle.elements.proofs.Through.{path_rows}
use Rattle.elements.proofs.Readings.{read_ended, cut}
use Rattle.elements.proofs.Lents.{Holds}
use Rattle.promises.proofs.Run.{Here, first_here, path_gains, path_few}
use Rattle.promises.proofs.Over.{Came, came_steps, came_stops, once, header_short, holds, path_came}
use Rattle.promises.proofs.Beside.{Known, Covered, present, alike_none, Beside, resumes, end_alike, lacks, Under, covers}

-- Rows that are covered, and the first that is not.
covered_first : (a : List Placed) (ps : List Placed) (book : Book) → Covered book ps → (q : Placed) (b : List Placed) → ps ≡ a ++ q ∷ b → Lacking book a q → ⊥
covered_first [] ps book c q b e x =
    let k : Known book q.element = (subst (Covered book) e c).0 in
    let known : is_none (find x.its.number book) ≡ false = subst (Known book) x.is_row k in
    let lacks : find x.its.number book ≡ none = rw (append-nil book) at x.lacks in
    none_some lacks (present (find x.its.number book) known).1
covered_first (p ∷ a) ps book c q b e x =
    covered_first a (a ++ q ∷ b) (book ++ layout_of p.element) (subst (Covered book) e c).1 q b refl
    (record { its = x.its; is_row = x.is_row; lacks = rw (append_assoc book (layout_of p.element) (layouts_of a)) x.lacks })

known_or : (book : Book) (p : Placed) (e : Element) → p.element ≡ e → Known book e ⊎ Lacking book [] p
known_or book p (item (layout l)) q = inl tt
known_or book p (finish n t) q = inl tt
known_or book p (item (row w)) q = go (find w.number book) refl
  where
    go : (o : Option Layout) → find w.number book ≡ o → (is_none (find w.number book) ≡ false) ⊎ Lacking book [] p
    go none e = inr (record { its = w; is_row = q; lacks = rw (append-nil book) e })
    go (some l) e = inl (rw e refl)

abbrev Found : Book → List Placed → Type 0
Found book ps = (met : List Placed) × (p : Placed) × (others : List Placed) × (ps ≡ met ++ p ∷ others) × Covered book met × Lacking book met p

covered_or : (ps : List Placed) (book : Book) → Covered book ps ⊎ Found book ps
covered_or [] book = inl tt
covered_or (p ∷ ps) book = go (known_or book p p.element refl) (covered_or ps (book ++ layout_of p.element))
  where
    go : Known book p.element ⊎ Lacking book [] p
        → Covered (book ++ layout_of p.element) ps ⊎ Found (book ++ layout_of p.element) ps → Covered book (p ∷ ps) ⊎ Found book (p ∷ ps)
    go (inr h) c = inr ([], p, ps, refl, tt, h)
    go (inl k) (inl c) = inl (k, c)
    go (inl k) (inr f) =
        let (met, q, others, split, c, l) = f in
        let again : Lacking book (p ∷ met) q = record { its = l.its; is_row = l.is_row; lacks = rw (← append_assoc book (layout_of p.element) (layouts_of met)) l.lacks } in
        inr (p ∷ met, q, others, ap (λ (ps : List Placed). p ∷ ps) split, (k, c), again)

first_lacking : (ps : List Placed) (book : Book) → Found book ps → (met : List Placed) × (p : Placed) × FirstLacking book ps met p
first_lacking ps book f = (f.0, f.1, record { others = f.2; split = f.3; lacking = f.5; first = λ a q b e x. covered_first a f.0 book f.4 q b e x })

covered_of : (ps : List Placed) (book : Book) → ((met : List Placed) (p : Placed) → FirstLacking book ps met p → ⊥) → Covered book ps
covered_of ps book h = go (covered_or ps book)
  where
    go : Covered book ps ⊎ Found book ps → Covered book ps
    go (inl c) = c
    go (inr f) = let (met, p, lack) = first_lacking ps book f in absurd (h met p lack)

read_at : (s : List ℕ) → (ps : List Seen) (x y : Spot) (e : Stop) (p : Placed) (others : List Placed) → Path (turn_at s) x ps y → turn_at s y ≡ stops e → p ∷ others ≡ elements_of ps y.at (some e)
    → Here (λ (z : Spot). z.at) (λ (z : Spot). spot_of) (λ (z : Spot). element_at s z.at z.rows z.book) x p
read_at s = first_here (λ (z : Spot). z.at) (λ (z : Spot). spot_of) (λ (z : Spot). element_at s z.at z.rows z.book)

-- An accepted reading at one of its elements: the way on from there to the end.
record AtCut (s : List ℕ) (before : List Placed) (here : Placed) (rest : List Placed) (end : ℕ) : Type 0 where
  pub short : length s ≤ longest
  pub spot : Spot
  pub final : Spot
  pub seen : List Seen
  pub count : ℕ
  pub time : ℕ
  pub path : Path (turn_at s) spot seen final
  pub ends : turn_at s final ≡ stops (walk.ended count time end)
  pub is : here ∷ rest ≡ elements_of seen final.at (some (walk.ended count time end))
  pub rows : rows_of before ≡ spot.rows
  pub few : Few s spot.at spot.rows
  pub good : GoodBook spot.book
  pub final_good : GoodBook final.book
  pub has : (l : Layout) → Memᴰ l (layouts_of (before ++ here ∷ rest)) → find l.number final.book ≡ some l
  pub alike : Alike spot.book (layouts_of before)

layouts_ended : (ps : List Placed) (at n t : ℕ) → layouts_of (ps ++ record { place = at; element = finish n t } ∷ []) ≡ layouts_of ps
layouts_ended [] at n t = refl
layouts_ended (p ∷ ps) at n t = ap (λ (b : Book). layout_of p.element ++ b) (layouts_ended ps at n t)

at_cut : (s : List ℕ) → Each Octet s → (before : List Placed) (here : Placed) (rest : List Placed) (end : ℕ) → CutAt s before here rest end → AtCut s before here rest end
unfolding reading through
at_cut s o before here rest end accepted =
    after (header_at s) _ accepted.accepted λ h next e₁ e₂.
    let first : Spot = spot_at next 0 [] in
    let w : Walk Spot = through s first in
    after (elements_read w) _ e₂ λ els stop e₃ e₄.
    let q : before ++ here ∷ rest ≡ els = ap (λ (r : Reading). r.elements) (ok_value e₄ refl) in
    let z : stop ≡ end = ok_place refl e₄ in
    let (n, t, ends, is) = read_ended w els end (rw (← z) e₃) in
    let all : Path (turn_at s) first w.seen w.spot = walk_path (turn_at s) (length s + 1) first in
    let c = cut w.seen w.spot.at (some (walk.ended n t end)) before here rest (sym (q ∙ is)) in
    let (spot, to, on) = path_split (turn_at s) c.front c.back first w.spot (subst (λ (ps : List Seen). Path (turn_at s) first ps w.spot) c.both all) in
    let short = header_short s e₁ in
    let gains = path_gains s o w.seen first w.spot good_nil all in
    let front = path_gains s o c.front first spot good_nil to in
    record {
      short = short;
      spot = spot;
      final = w.spot;
      seen = c.back;
      count = n;
      time = t;
      path = on;
      ends = walk_at_stop (turn_at s) (length s + 1) first (walk.ended n t end) ends;
      is = c.rest_is;
      rows = ap rows_of c.before_is ∙ (let n = path_rows s c.front first spot to in omega arith);
      few = path_few s o short c.front first spot to (omega arith);
      good = front.good;
      final_good = gains.good;
      has = λ l i. gains.has l (subst (Memᴰ l) (ap layouts_of (q ∙ is) ∙ layouts_ended (placed_all w.seen) w.spot.at n t) i);
      alike = subst (λ (ps : List Placed). Alike spot.book (layouts_of ps)) (sym c.before_is) front.alike;
    }

-- Each layout once, so each number once.
numbers : (f ls : Book) → ((l : Layout) → Memᴰ l ls → find l.number f ≡ some l) → (b : Book) → AllIn b ls → Once b → Distinct b
numbers f ls has [] all once = tt
numbers f ls has (l ∷ b) all once = (go (find l.number b) refl, numbers f ls has b (λ m i. all m (mathlib.Core.List.Memᴰ.tail i)) once.1)
  where
    go : (o : Option Layout) → find l.number b ≡ o → find l.number b ≡ none
    go none e = e
    go (some m) e =
        let i : Memᴰ m b = member_find l.number b m e in
        let n : m.number ≡ l.number = find_number l.number b m e in
        let x : find m.number f ≡ some m = has m (all m (mathlib.Core.List.Memᴰ.tail i)) in
        let y : find l.number f ≡ some l = has l (all l (mathlib.Core.List.Memᴰ.head refl)) in
        let q : l ≡ m = some_same y (ap (λ (k : ℕ). find k f) (sym n) ∙ x) in
        absurd (once.0 (mathlib.Core.List.Memᴰ.cast q i))

each_member : (P : Layout → Type 0) (b : Book) → ((l : Layout) → Memᴰ l b → P l) → Each P b
each_member P [] f = tt
each_member P (l ∷ b) f = (f l (mathlib.Core.List.Memᴰ.head refl), each_member P b (λ m i. f m (mathlib.Core.List.Memᴰ.tail i)))

module _ (s : List ℕ) (o : Each Octet s) (before : List Placed) (here : Placed) (rest : List Placed) (end : ℕ) (accepted : CutAt s before here rest end)
    (book : Book) (taken : Taken (before ++ here ∷ rest) book) where
  c : AtCut s before here rest end
  c = at_cut s o before here rest end accepted

  beside : Beside c.final.book book book
  beside =
      record {
        distinct = numbers c.final.book (layouts_of (before ++ here ∷ rest)) c.has book taken.only taken.once;
        within = λ n l e. subst (λ (k : ℕ). find k c.final.book ≡ some l) (find_number n book l e) (c.has l (taken.only l (member_find n book l e)));
        alike = λ n. refl;
      }

  -- Such a book is a good one: its layouts are among those of the final book, and no more.
  good : GoodBook book
  good =
      let few = total_within (λ l. 1) book c.final.book beside.distinct beside.within in
      let small = total_within (λ l. length (layout_image l)) book c.final.book beside.distinct beside.within in
      let x = c.final_good.few in
      let y = c.final_good.small in
      record {
        few = omega (arith, total_length book, total_length c.final.book);
        small = omega (arith, total_image book, total_image c.final.book);
        good = each_member GoodLayout book λ l i. each_find GoodLayout l.number c.final.book l c.final_good.good (c.has l (taken.only l i));
        distinct = beside.distinct;
      }

  under : AllIn (layouts_of before) book → Under c.spot.book book
  under all n e =
      let l = present (find n (layouts_of before)) (sym (c.alike n) ∙ e) in
      let x : find l.0.number book ≡ some l.0 = find_member book l.0 beside.distinct (all l.0 (member_find n (layouts_of before) l.0 l.1)) in
      let q : l.0.number ≡ n = find_number n (layouts_of before) l.0 l.1 in
      rw (← q, x) refl

  covered_all : AllIn (layouts_of before) book → Covered book (here ∷ rest)
  covered_all all =
      subst (Covered book) (sym c.is)
      (covers s o c.seen c.spot c.final c.final.at (walk.ended c.count c.time end) book c.path c.good (under all))

  module _ (octets : List ℕ) (used : ℕ) (carries : Carries octets used book) where
    from : Lent
    from = lent_at here.place (rows_of before) octets used

    in_step : Holds s o c.short from (spot_at c.spot.at c.spot.rows book)
    unfolding from
    in_step = holds s o c.short from (spot_at c.spot.at c.spot.rows book)
        (read_at s c.seen c.spot c.final (walk.ended c.count c.time end) here rest c.path c.ends c.is).place c.rows c.few carries good

    -- Over a book that covers the rows behind it, the steps are the same.
    covered_same : Covered book (here ∷ rest) → BySteps s from (here ∷ rest) (ended end)
    covered_same covered =
        let stop : Stop = walk.ended c.count c.time end in
        let t = resumes s o c.final.book c.final_good c.seen c.spot c.final c.path c.good (λ n l e. e) book book beside _ (subst (Covered book) c.is covered) in
        let d = path_came s o c.short from (spot_at c.spot.at c.spot.rows book) (spot_at c.final.at c.final.rows t.book) t.seen stop in_step t.path
        (end_alike s c.final c.count c.time end t.book c.ends) in
        rw (c.is, ← t.same) (came_steps d)

    -- Up to the first row whose layout is neither in the book nor met since, the steps are the same, and there they are refused.
    lacking_stops : (met : List Placed) (p : Placed) → FirstLacking book (here ∷ rest) met p
        → BySteps s from met (refused 12 (p.place + 4)) × Stops s from met p.place 12 (p.place + 4)
    lacking_stops met p lack =
        let stop : Stop = walk.ended c.count c.time end in
        let k = cut c.seen c.final.at (some stop) met p lack.others (sym c.is ∙ lack.split) in
        let (mid, to, on) = path_split (turn_at s) k.front k.back c.spot c.final (subst (λ (ps : List Seen). Path (turn_at s) c.spot ps c.final) k.both c.path) in
        let back = path_gains s o k.back mid c.final (path_gains s o k.front c.spot mid c.good to).good on in
        let covered : Covered book (placed_all k.front ++ []) =
        rw (append-nil (placed_all k.front), ← k.before_is) (covered_of met book (λ a q f. lack.first a q f.others f.split f.lacking)) in
        let t = resumes s o c.final.book c.final_good k.front c.spot mid to c.good back.keeps book book beside [] covered in
        let w : Row = lack.lacking.its in
        let none_there : find w.number t.book ≡ none =
        alike_none t.book (book ++ layouts_of (placed_all k.front)) t.beside.alike w.number (rw (← k.before_is) lack.lacking.lacks) in
        let h = read_at s k.back mid c.final stop p lack.others on c.ends k.rest_is in
        let d : Came s from (placed_all t.seen) mid.at (walk.refused 12 (mid.at + 4)) =
        path_came s o c.short from (spot_at c.spot.at c.spot.rows book) (spot_at mid.at mid.rows t.book) t.seen (walk.refused 12 (mid.at + 4)) in_step t.path
        (turn_no spot_of mid.at (element_at s mid.at mid.rows t.book) 12 (mid.at + 4)
        (lacks s mid.at mid.rows mid.book h.stepped h.next w t.book h.reads (h.is ∙ lack.lacking.is_row) none_there)) in
        stopped met p.place (placed_all t.seen) (placed_all k.front) mid.at k.before_is t.same h.place d
      where
        stopped : (met : List Placed) (place : ℕ) (ps qs : List Placed) (at : ℕ) → met ≡ qs → ps ≡ qs → place ≡ at → Came s from ps at (walk.refused 12 (at + 4))
            → BySteps s from met (refused 12 (place + 4)) × Stops s from met place 12 (place + 4)
        stopped met place ps qs at e f q d =
            rw (e, ← f, q) (subst (λ (os : List Placed). BySteps s from os (refused 12 (at + 4))) (append-nil ps) (came_steps d), came_stops d)

    lacking_or_not : Covered book (here ∷ rest) ⊎ Found book (here ∷ rest)
        → ((met : List Placed) × (p : Placed) × FirstLacking book (here ∷ rest) met p) ⊎ ((met : List Placed) (p : Placed) → FirstLacking book (here ∷ rest) met p → ⊥)
    lacking_or_not (inl c) = inr (λ met p f. covered_first met (here ∷ rest) book c p f.others f.split f.lacking)
    lacking_or_not (inr f) = inl (first_lacking (here ∷ rest) book f)

    resumed : Resumed s before here rest end book octets used
    unfolding from
    resumed =
        record {
          same = λ all. covered_same (covered_all all);
          lacks = λ met p lack. (lacking_stops met p lack).0;
          there = λ met p lack. (lacking_stops met p lack).1;
          unneeded = λ h. covered_same (covered_of (here ∷ rest) book h);
          either = lacking_or_not (covered_or (here ∷ rest) book);
          only = λ ps qs e f c d. once c qs f d;
        }

pub demand_3 : (s : List ℕ) → Each Octet s → (before : List Placed) (here : Placed) (behind : List Placed) (end : ℕ) → CutAt s before here behind end
    → (book : Book) → Taken (before ++ here ∷ behind) book → (octets : List ℕ) (used : ℕ) → Carries octets used book
    → Resumed s before here behind end book octets used
demand_3 = resumed
