-- A run on its way, and what it answers: refused as its first step is, else by the items of its way and where it stands behind them.
use Prim.Native.Nat.{ℕ, zero, suc, ◌+◌, ◌-◌, ◌≤◌, ◌<◌}
use mathlib.Core.Path.{◌≡◌, refl, sym, ap, ◌∙◌, subst}
use mathlib.Core.List.{List, [], ◌∷◌, ◌++◌, append-nil}
use mathlib.Core.Option.{Option, some, none}
use native.Mathlib.Omega.{arith}
use lib.ListN.{length, set, take, drop, length-append, length-drop, drop_of_length-le}
use lib.Seq.{take_all}
use borrow.Rule.Slice.PartMut.{mid_of, put_mid}
use Rattle.std.specs.Prelude.{Ok, Err}
use Rattle.octets.specs.Reading.{ok, no}
use Rattle.elements.specs.Element.{Stepped}
use Rattle.elements.specs.Steps.{step_at}
use Rattle.elements.specs.Walk.{Stop, ended, refused, Seen, goes, stops, behind, walk, Path, Lent, lent_of, turn_over}
use Rattle.elements.proofs.Walks.{walk_none, walk_stops, path_walk, path_join, path_one}
use Rattle.elements.proofs.Turns.{took_over, refuses, ends}
use Rattle.walks.specs.Rows.{laid}
use Rattle.walks.proofs.Rows.{laid_both, laid_from}
use Rattle.runs.specs.Runs.{item_word, words_of, run_asked}
use Rattle.runs.specs.Answers.{Ran}

words_append : (ps qs : List Seen) → words_of (ps ++ qs) ≡ words_of ps ++ words_of qs
words_append [] qs = refl
words_append (p ∷ ps) qs = ap (λ (ws : List ℕ). item_word p.which p.next ∷ ws) (words_append ps qs)

words_length : (ps : List Seen) → length (words_of ps) ≡ length ps
words_length [] = refl
words_length (p ∷ ps) = ap (λ (n : ℕ). suc n) (words_length ps)

-- Words put in the part from an index on, when the part is back.
pub laid_part : (n : ℕ) (ws xs : List ℕ) → n ≤ length xs → put_mid n (length xs - n) xs (laid 0 ws (mid_of n (length xs - n) xs)) ≡ laid n ws xs
laid_part n ws xs h =
    let rest : length (drop n xs) ≤ length xs - n = omega (arith, length-drop n xs) in
    ap (λ (ys : List ℕ). take n xs ++ (laid 0 ws (mid_of n (length xs - n) xs) ++ ys)) (drop_of_length-le (drop n xs) rest)
    ∙ (ap (λ (ys : List ℕ). take n xs ++ ys) (append-nil (laid 0 ws (mid_of n (length xs - n) xs)))
    ∙ (ap (λ (ys : List ℕ). take n xs ++ laid 0 ws ys) (take_all (length xs - n) (drop n xs) rest) ∙ laid_from n ws xs h))

-- A run that began over some octets and words and is now at a place, n items further on.
pub record OnRun (s : List ℕ) (x : Lent) (lent words : List ℕ) (n : ℕ) (here : Lent) : Type 0 where
  pub passed : List Seen
  pub count : length passed ≡ n
  pub few : n ≤ 4096
  pub put : words ≡ laid 0 (words_of passed) lent
  pub path : Path (turn_over s) x passed here

module _ (s : List ℕ) (x : Lent) (lent : List ℕ) where
  pub run_start : OnRun s x lent lent 0 x
  run_start = record { passed = []; count = refl; few = omega arith; put = refl; path = refl }

  module _ {words : List ℕ} {n : ℕ} {here : Lent} (w : OnRun s x lent words n here) where
    -- A way further on, with its words.
    pub run_path : (seen : List Seen) (there : Lent) → Path (turn_over s) here seen there → n + length seen ≤ 4096
        → OnRun s x lent (laid n (words_of seen) words) (n + length seen) there
    run_path seen there h room =
        let long : n ≡ 0 + length (words_of w.passed) = omega (arith, w.count, words_length w.passed) in
        record {
          passed = w.passed ++ seen;
          count = length-append w.passed seen ∙ ap (λ (k : ℕ). k + length seen) w.count;
          few = room;
          put =
              ap (laid n (words_of seen)) w.put ∙ (ap (λ (k : ℕ). laid k (words_of seen) (laid 0 (words_of w.passed) lent)) long
              ∙ (sym (laid_both 0 (words_of w.passed) (words_of seen) lent) ∙ ap (λ (ws : List ℕ). laid 0 ws lent) (sym (words_append w.passed seen))));
          path = path_join (turn_over s) w.passed seen x here there w.path h;
        }

    pub run_item : (p : Seen) (there : Lent) → turn_over s here ≡ goes p there → n < 4096 → OnRun s x lent (set words n (item_word p.which p.next)) (n + 1) there
    run_item p there e h = run_path (p ∷ []) there (path_one (turn_over s) p here there e) (omega arith)

    -- What the walk is where the run stops, and where it is full.
    pub run_stops : (e : Stop) → turn_over s here ≡ stops e → n < 4096 → walk (turn_over s) 4096 x ≡ record { seen = w.passed; spot = here; stop = some e }
    run_stops e h room =
        ap (λ (k : ℕ). walk (turn_over s) k x) (let sum : 4096 ≡ length w.passed + suc (4095 - n) = omega (arith, w.count) in sum)
        ∙ (path_walk (turn_over s) w.passed (suc (4095 - n)) x here w.path ∙ (ap (behind w.passed) (walk_stops (turn_over s) (4095 - n) here e h)
        ∙ ap (λ (ps : List Seen). record { seen = ps; spot = here; stop = some e }) (append-nil w.passed)))

    pub run_full : n ≡ 4096 → walk (turn_over s) 4096 x ≡ record { seen = w.passed; spot = here; stop = none }
    run_full h =
        ap (λ (k : ℕ). walk (turn_over s) k x) (let sum : 4096 ≡ length w.passed + 0 = omega (arith, w.count) in sum)
        ∙ (path_walk (turn_over s) w.passed 0 x here w.path ∙ (ap (behind w.passed) (walk_none (turn_over s) here)
        ∙ ap (λ (ps : List Seen). record { seen = ps; spot = here; stop = none }) (append-nil w.passed)))

    -- The first step is read where an item was passed.
    first_read : 0 < n → (st : Stepped) × (next : ℕ) × (step_at s x.at x.rows x.octets x.used ≡ ok st next)
    first_read h = go w.passed w.path (omega (arith, w.count))
      where
        go : (ps : List Seen) → Path (turn_over s) x ps here → 0 < length ps → (st : Stepped) × (next : ℕ) × (step_at s x.at x.rows x.octets x.used ≡ ok st next)
        go [] q h = absurd (omega arith)
        go (p ∷ ps) q h = let t = took_over s x p q.0 q.1 in (t.stepped, p.next, t.reads)

    pub none_passed : n ≡ 0 → x ≡ here
    none_passed h = go w.passed w.path (w.count ∙ h)
      where
        go : (ps : List Seen) → Path (turn_over s) x ps here → length ps ≡ 0 → x ≡ here
        go [] q z = q
        go (p ∷ ps) q z = absurd (omega arith)

    -- What is answered.
    answer : (st : Stepped) (next : ℕ) → step_at s x.at x.rows x.octets x.used ≡ ok st next → (e : Option Stop)
        → walk (turn_over s) 4096 x ≡ record { seen = w.passed; spot = here; stop = e }
        → Ran x.octets lent (run_asked s x) here.octets words (Ok (record { count = n; next = here.at; rows = here.rows; used = here.used }))
    unfolding run_asked
    answer st next first e is =
        rw (first, is)
        (ap (λ (k : ℕ). Ok (record { count = k; next = here.at; rows = here.rows; used = here.used })) (sym w.count), refl, w.put)

    pub went_some : 0 < n → (e : Option Stop) → walk (turn_over s) 4096 x ≡ record { seen = w.passed; spot = here; stop = e }
        → Ran x.octets lent (run_asked s x) here.octets words (Ok (record { count = n; next = here.at; rows = here.rows; used = here.used }))
    went_some h e is = let (st, next, first) = first_read h in answer st next first e is

    pub went_end : (m t next : ℕ) → turn_over s here ≡ stops (ended m t next) → n < 4096
        → Ran x.octets lent (run_asked s x) here.octets words (Ok (record { count = n; next = here.at; rows = here.rows; used = here.used }))
    went_end m t next h room = go n refl
      where
        go : (k : ℕ) → n ≡ k → Ran x.octets lent (run_asked s x) here.octets words (Ok (record { count = n; next = here.at; rows = here.rows; used = here.used }))
        go (suc k) q = went_some (omega arith) (some (ended m t next)) (run_stops (ended m t next) h room)
        go zero q =
            let y : Lent = here in
            let (st, reads, _) = ends (lent_of y.octets) y.at (step_at s y.at y.rows y.octets y.used) m t next h in
            answer st next (subst (λ (z : Lent). step_at s z.at z.rows z.octets z.used ≡ ok st next) (sym (none_passed q)) reads) (some (ended m t next))
            (run_stops (ended m t next) h room)

    pub went_refused : (m p : ℕ) → turn_over s here ≡ stops (refused m p) → n ≡ 0 → Ran x.octets lent (run_asked s x) here.octets words (Err (record { number = m; place = p }))
    unfolding run_asked
    went_refused m p h q =
        let y : Lent = here in
        let same = none_passed q in
        let reads = refuses (lent_of y.octets) y.at (step_at s y.at y.rows y.octets y.used) m p h in
        let first : step_at s x.at x.rows x.octets x.used ≡ no m p = subst (λ (z : Lent). step_at s z.at z.rows z.octets z.used ≡ no m p) (sym same) reads in
        rw first (refl, ap (λ (z : Lent). z.octets) (sym same), w.put ∙ nothing w.passed (w.count ∙ q))
      where
        nothing : (ps : List Seen) → length ps ≡ 0 → laid 0 (words_of ps) lent ≡ lent
        nothing [] z = refl
        nothing (r ∷ ps) z = absurd (omega arith)

  -- A run whose first step is refused leaves book and words.
  pub asked_refused : (n p : ℕ) → step_at s x.at x.rows x.octets x.used ≡ no n p → Ran x.octets lent (run_asked s x) x.octets lent (Err (record { number = n; place = p }))
  unfolding run_asked
  asked_refused n p e = rw e (refl, refl, refl)
