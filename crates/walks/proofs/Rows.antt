-- A stretch of rows: none, and one row more behind those passed, with its word behind theirs.
use Prim.Native.Nat.{ℕ, suc, ◌+◌, ◌%◌, ◌^◌, ◌≤◌}
use mathlib.Core.Path.{◌≡◌, refl, sym, ap, ◌∙◌}
use mathlib.Core.List.{List, [], ◌∷◌, ◌++◌}
use mathlib.Core.Bool.{Bool}
use native.Mathlib.Omega.{arith}
use lib.ListN.{length, get_or, set, take, drop, length-append, take-append-drop}
use lib.Seq.{length-take-le}
use lib.Dec.{ltb}
use Rattle.octets.specs.Reading.{be}
use Rattle.octets.specs.Writing.{Each}
use Rattle.layouts.specs.Book.{Book, position}
use Rattle.rows.proofs.Named.{row_says_lem}
use Rattle.elements.specs.Element.{item, row, Stepped, element_at}
use Rattle.elements.specs.Walk.{Seen, goes, Path, Spot, seen_at, spot_at, spot_of, turn_at}
use Rattle.elements.proofs.Walks.{path_join, path_one}
use Rattle.elements.proofs.Turns.{turn_item}
use Rattle.elements.proofs.Went.{row_step}
use Rattle.walks.specs.declared.Known.{Known}
use Rattle.walks.specs.Rows.{row_word, word_by, words_by, laid, Passes, HasPlan, Passage}

-- Words of items one behind another.
words_more : (labels : List ℕ) (ps : List Seen) (p : Seen) → words_by labels (ps ++ p ∷ []) ≡ words_by labels ps ++ word_by labels p.which p.position p.next ∷ []
words_more labels [] p = refl
words_more labels (q ∷ ps) p = ap (λ (ws : List ℕ). word_by labels q.which q.position q.next ∷ ws) (words_more labels ps p)

pub words_length : (labels : List ℕ) (ps : List Seen) → length (words_by labels ps) ≡ length ps
words_length labels [] = refl
words_length labels (p ∷ ps) = ap (λ (n : ℕ). suc n) (words_length labels ps)

-- Words put behind others.
pub laid_both : (n : ℕ) (ws vs xs : List ℕ) → laid n (ws ++ vs) xs ≡ laid (n + length ws) vs (laid n ws xs)
laid_both n [] vs xs = ap (λ (k : ℕ). laid k vs xs) (let none : n ≡ n + 0 = omega arith in none)
laid_both n (w ∷ ws) vs xs = laid_both (n + 1) ws vs (set xs n w) ∙ ap (λ (k : ℕ). laid k vs (laid (n + 1) ws (set xs n w))) (let one : n + 1 + length ws ≡ n + length (w ∷ ws) = omega arith in one)

-- Words put in what stands behind others, and in the whole.
laid_behind : (ys : List ℕ) (n : ℕ) (ws zs : List ℕ) → ys ++ laid n ws zs ≡ laid (length ys + n) ws (ys ++ zs)
laid_behind ys n [] zs = refl
laid_behind ys n (w ∷ ws) zs =
    laid_behind ys (n + 1) ws (set zs n w)
    ∙ (ap (laid (length ys + (n + 1)) ws) (set_behind ys zs) ∙ ap (λ (k : ℕ). laid k ws (set (ys ++ zs) (length ys + n) w)) (let one : length ys + (n + 1) ≡ length ys + n + 1 = omega arith in one))
  where
    set_behind : (ys zs : List ℕ) → ys ++ set zs n w ≡ set (ys ++ zs) (length ys + n) w
    set_behind [] zs = ap (λ (k : ℕ). set zs k w) (let none : n ≡ 0 + n = omega arith in none)
    set_behind (y ∷ ys) zs = ap (λ (xs : List ℕ). y ∷ xs) (set_behind ys zs) ∙ ap (λ (k : ℕ). set (y ∷ (ys ++ zs)) k w) (let one : suc (length ys + n) ≡ length (y ∷ ys) + n = omega arith in one)

pub laid_from : (n : ℕ) (ws xs : List ℕ) → n ≤ length xs → take n xs ++ laid 0 ws (drop n xs) ≡ laid n ws xs
laid_from n ws xs h =
    laid_behind (take n xs) 0 ws (drop n xs)
    ∙ (ap (λ (k : ℕ). laid k ws (take n xs ++ drop n xs)) (let long : length (take n xs) + 0 ≡ n = omega (arith, length-take-le n xs h) in long) ∙ ap (laid n ws) (take-append-drop n xs))

planned_more : (numbers : List ℕ) (ps : List Seen) (p : Seen) → Each (HasPlan numbers) ps → HasPlan numbers p → Each (HasPlan numbers) (ps ++ p ∷ [])
planned_more numbers [] p e h = (h, tt)
planned_more numbers (q ∷ ps) p e h = (e.0, planned_more numbers ps p e.1 h)

module _ (s : List ℕ) (at rows : ℕ) (book : Book) (known : Known) (labels entry : List ℕ) where
  pub passage_none : Passage s (spot_at at rows book) known.numbers labels entry entry at 0
  passage_none =
      record {
        seen = [];
        path = ap (λ (k : ℕ). spot_at at k book) (let none : rows ≡ rows + 0 = omega arith in none);
        planned = tt;
        is_count = refl;
        put = refl;
      }

  pub passage_more : (words : List ℕ) (pos n : ℕ) → Passage s (spot_at at rows book) known.numbers labels entry words pos n
      → (next i word : ℕ) → Passes s pos book known next i → word ≡ row_word (get_or labels i 0 % 2 ^ 32) (ltb (be 4 s (pos + 4 + 4)) 0xffffffff) next
      → Passage s (spot_at at rows book) known.numbers labels entry (set words n word) next (n + 1)
  passage_more words pos n p next i word h w =
      let seen = p.seen in
      let passed : ℕ = rows + length seen in
      let st : Stepped = record { element = item (row h.row); rows = passed + 1; book = book } in
      let more : Seen = seen_at pos (row h.row) st next in
      let said = row_says_lem s (pos + 4) h.row next book h.reads in
      let index : position h.row.number book ≡ i = ap (λ (k : ℕ). position k book) said.number ∙ h.index in
      let behind : 0 + length (words_by labels seen) ≡ n = omega (arith, p.is_count, words_length labels seen) in
      let one : passed + 1 ≡ rows + length (seen ++ more ∷ []) = omega (arith, length-append seen (more ∷ [])) in
      let is : word ≡ word_by labels (row h.row) more.position next =
      w ∙ (ap (λ (b : Bool). row_word (get_or labels i 0 % 2 ^ 32) b next) (sym said.stated) ∙ ap (λ (j : ℕ). row_word (get_or labels j 0 % 2 ^ 32) h.row.is_stated next) (sym index)) in
      record {
        seen = seen ++ more ∷ [];
        path = path_join (turn_at s) seen (more ∷ []) (spot_at at rows book) (spot_at pos passed book) _ p.path
            (path_one (turn_at s) more (spot_at pos passed book) _
            (turn_item spot_of pos (element_at s pos passed book) st next (row h.row) (row_step s pos passed book h.row next h.kind h.reads) refl
            ∙ ap (λ (k : ℕ). goes more (spot_at next k book)) one));
        planned = planned_more known.numbers seen more p.planned (ap (λ (j : ℕ). get_or known.numbers j 0) index ∙ (h.plan ∙ sym said.number));
        is_count = omega (arith, p.is_count, length-append seen (more ∷ []));
        put =
            ap (λ (xs : List ℕ). set xs n word) p.put
            ∙ (ap (λ (m : ℕ). set (laid 0 (words_by labels seen) entry) m word) (sym behind)
            ∙ (sym (laid_both 0 (words_by labels seen) (word ∷ []) entry)
            ∙ ap (λ (ws : List ℕ). laid 0 ws entry) (ap (λ (x : ℕ). words_by labels seen ++ x ∷ []) is ∙ sym (words_more labels seen more))));
      }

  -- No row was passed: the walk is where it was, and no word is put.
  pub passage_still : {exit : List ℕ} {next : ℕ} → Passage s (spot_at at rows book) known.numbers labels entry exit next 0 → (next ≡ at) × (exit ≡ entry)
  passage_still {exit} {next} p = go p.seen p.is_count p.path p.put
    where
      go : (ps : List Seen) → length ps ≡ 0 → Path (turn_at s) (spot_at at rows book) ps (spot_at next (rows + length ps) book) → exit ≡ laid 0 (words_by labels ps) entry
          → (next ≡ at) × (exit ≡ entry)
      go [] none path put = (ap (λ (y : Spot). y.at) (sym path), put)
      go (q ∷ ps) none path put = absurd (omega arith)
