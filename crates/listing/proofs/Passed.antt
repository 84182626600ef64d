-- A listing on the way: the lines of the items passed are printed, over octets that carry their book, and the lines of the walk are those and what is printed from here on.
use Prim.Native.Nat.{ℕ, ◌+◌, ◌≤◌, ◌<◌}
use mathlib.Core.Path.{◌≡◌, sym, ap, ◌∙◌, subst}
use mathlib.Core.List.{List, [], ◌∷◌, ◌++◌, append_assoc, append-nil}
use mathlib.Core.Option.{some}
use Rattle.std.specs.Prelude.{Result, Ok, Err}
use Rattle.octets.specs.declared.Refused.{Refused}
use native.Mathlib.Omega.{arith}
use lib.IntN.{ℤ}
use lib.ListN.{length, take, replicate, length-replicate}
use lib.Seq.{length-take-le}
use Rattle.octets.specs.Limits.{longest, book_room}
use Rattle.octets.specs.Reading.{ok}
use Rattle.octets.specs.Writing.{images, Each, Octet}
use Rattle.octets.proofs.Spans.{each_replicate}
use Rattle.kinds.specs.Kinds.{signed}
use Rattle.layouts.specs.Layout.{Layout, layout_at}
use Rattle.layouts.specs.Book.{Book, book_image, book_in}
use Rattle.layouts.proofs.Books.{Lent}
use Rattle.layouts.proofs.Lends.{empty_book_lem}
use Rattle.elements.specs.Element.{Element, item, Stepped, element_at}
use Rattle.elements.specs.Steps.{holding, step_at}
use Rattle.elements.specs.Answers.{met_of, Grows}
use Rattle.elements.specs.Walk.{Stop, ended, refused, Seen, goes, stops, Walk, standing, behind, Path, Spot, spot_at, spot_of, turn_at, through}
use Rattle.elements.specs.Reading.{Placed, placed, placed_all, elements_of}
use Rattle.elements.proofs.Before.{step_is}
use Rattle.elements.proofs.Behind.{few_rows}
use Rattle.elements.proofs.Turns.{Took, took_at, turn_rows}
use Rattle.elements.proofs.Walks.{path_join, path_one}
use Rattle.elements.proofs.Through.{through_path, through_stops}
use Rattle.elements.proofs.Readings.{placed_append, elements_behind}
use Rattle.walks.specs.Kept.{empty, Keeps}
use Rattle.walks.specs.Answers.{gone_of, moved_of, Bears, GoesOn}
use Rattle.walks.specs.declared.Known.{Known}
use Rattle.walks.specs.declared.Gone.{Gone}
use Rattle.walks.specs.declared.Moved.{Moved}
use Rattle.walks.specs.declared.Moved.TheVariants as moved
use Rattle.walks.proofs.Keeping.{kept_empty}
use Rattle.walks.proofs.Moves.{item_spot, item_moves, item_left}
use Rattle.walks.proofs.Ways.{moved_item, moved_end, moved_refused}
use Rattle.walks.proofs.Lents.{Carried, carried_lent, carried_bears, carried_old, carried_grows, carried_newly, carried_new}
use Rattle.printing.specs.Pages.{Shows}
use Rattle.printing.specs.declared.Page.{Page}
use Rattle.printing.proofs.Puts.{images_append, images_none, images_one}
use Rattle.printing.proofs.Pages.{then, says, nothing}
use Rattle.lines.specs.Lines.{end_text, refusal_text, element_text}
use Rattle.listing.specs.Listing.{stop_text, lines_of}

abbrev line : Placed → List ℕ
line p = element_text p.place p.element

-- The lines of items and then those of a walk behind them.
lines_behind : (ps : List Seen) (w : Walk Spot) → lines_of (behind ps w) ≡ images line (placed_all ps) ++ lines_of w
lines_behind ps w =
    let rest : List Placed = elements_of w.seen w.spot.at w.stop in
    rw (elements_behind ps w.seen w.spot.at w.stop, images_append line (placed_all ps) rest) (append_assoc (images line (placed_all ps)) (images line rest) (stop_text w.stop))

-- What holds on the way.
pub record Passed (s : List ℕ) (at : ℕ) (before : Page) (octets : List ℕ) (k : Known) (pos rows used : ℕ) (after : Page) : Type 0 where
  pub size : length octets ≡ book_room
  pub carried : Carried octets used k
  pub inside : pos ≤ length s
  pub few : rows ≤ pos
  pub items : List Seen
  pub path : Path (turn_at s) (spot_at at 0 []) items (spot_at pos rows (book_in octets used))
  pub prints : Shows before (images line (placed_all items)) after

pub passed_start : (s : List ℕ) (at : ℕ) (before : Page) → at ≤ length s
    → Passed s at before (replicate book_room 0) empty at 0 0 before
passed_start s at before inside =
    let size = length-replicate {A = ℕ} book_room 0 in
    let (is, none) = empty_book_lem (replicate book_room 0) (omega arith) in
    let kept = kept_empty (take 0 (replicate book_room 0)) in
    record {
      size = size;
      carried = record { octets_are = each_replicate book_room 0 (omega arith); is = is; kept = rw none kept };
      inside = inside;
      few = omega arith;
      items = [];
      path = ap (spot_at at 0) (sym none);
      prints = says (sym (images_none line)) (nothing before);
    }

module _ {s : List ℕ} {at : ℕ} {before : Page} {octets : List ℕ} {k : Known} {pos rows used : ℕ} {mid : Page}
    (g : Passed s at before octets k pos rows used mid) where
  abbrev here : Spot
  here = spot_at pos rows (book_in octets used)

  pub passed_lent : Lent octets used (book_in octets used)
  passed_lent = carried_lent octets used k g.carried

  pub passed_bears : Bears (take used octets) used k (book_in octets used)
  passed_bears = carried_bears octets used k g.carried

  pub passed_fits : used ≤ length octets
  passed_fits = omega (arith, passed_lent.most, passed_lent.room)

  pub passed_shelf : length (take used octets) ≡ used
  passed_shelf = length-take-le used octets passed_fits

  -- How the walk goes on from here, by what was met.
  pub passed_on : (entry exit : List ℕ) {x y : Result Moved Refused}
      → ((book : Book) → Bears (take used octets) used k book → GoesOn s (spot_at pos rows book) k k.numbers 0 entry exit x) → x ≡ y → GoesOn s here k k.numbers 0 entry exit y
  passed_on entry exit went is = subst (GoesOn s here k k.numbers 0 entry exit) is (went (book_in octets used) passed_bears)

  module _ (o : Each Octet s) (short : length s ≤ longest) where
    stopped : {after : Page} (e : Stop) → turn_at s here ≡ stops e → Shows mid (lines_of (standing here (some e))) after
        → Shows before (lines_of (through s (spot_at at 0 []))) after
    stopped e h put =
        let whole = through_path s o short g.items (spot_at at 0 []) here g.path ∙ ap (behind g.items) (through_stops s o short here e h) in
        says (sym (ap lines_of whole ∙ lines_behind g.items (standing here (some e)))) (then g.prints put)

    -- The turn from here told a refusal, or the end: its line is the last.
    pub passed_refused : (r : Refused) {after : Page} → moved_of (turn_at s here) ≡ Err r → Shows mid (refusal_text r.number r.place) after
        → Shows before (lines_of (through s (spot_at at 0 []))) after
    unfolding images
    passed_refused r e put = stopped (refused r.number r.place) (moved_refused (turn_at s here) r e) put

    pub passed_end : (count next : ℕ) (time : ℤ) {after : Page} → moved_of (turn_at s here) ≡ Ok (moved.End count time next) → Shows mid (end_text pos count time) after
        → Shows before (lines_of (through s (spot_at at 0 []))) after
    unfolding images
    passed_end count next time e put =
        let (u, is, same) = moved_end (turn_at s here) count next time e in
        let l : List ℕ = end_text pos count (signed 8 u) in
        stopped (ended count u next) is (says (ap (end_text pos count) (sym same) ∙ sym (append-nil (l ++ []) ∙ append-nil l)) put)

    -- An item whose layout is new, and what holds where its line is printed and the layout is put behind the used octets and kept.
    pub record Grown (gone : Gone) (line : List ℕ) : Type 0 where
      pub grows : Grows s pos gone.next (book_in octets used)
      pub layout : Layout
      pub reads : layout_at s (pos + 4) ≡ ok layout gone.next
      pub few : length (book_in octets used) < 64
      pub on : {exit : List ℕ} {k₁ : Known} {after : Page} → Shows mid line after → length exit ≡ length octets
          → ((rows : ℕ) (st : Stepped) → element_at s pos rows (book_in octets used) ≡ ok st gone.next → exit ≡ holding st.book octets)
          → Keeps layout used k k₁ → Passed s at before exit k₁ gone.next gone.rows gone.used after

    -- An item: the step that reads it, where it ends, and what holds where its line is printed.
    pub record Goes (gone : Gone) : Type 0 where
      pub stepped : Stepped
      pub reads : step_at s pos rows octets used ≡ ok stepped gone.next
      pub met : met_of stepped.element ≡ gone.met
      pub further : (pos + 4 ≤ gone.next) × (gone.next ≤ length s)
      pub old : gone.used ≤ used → {after : Page} → Shows mid (element_text pos stepped.element) after
          → Passed s at before octets k gone.next gone.rows gone.used after
      pub new : used < gone.used → Grown gone (element_text pos stepped.element)

    module _ (p : Seen) (y : Spot) (e : turn_at s here ≡ goes p y) where
      took : Took spot_of pos (element_at s pos rows (book_in octets used)) p y
      took = took_at s here p y e

      abbrev text : List ℕ
      text = element_text pos took.stepped.element

      said : text ≡ line (placed p)
      said = ap (λ (x : Element). element_text pos x) took.is ∙ ap (λ (q : Seen). element_text q.place (item q.which)) (sym took.seen)

      on : {after : Page} → Shows mid text after → (octets₁ : List ℕ) (used₁ : ℕ) {k₁ : Known} → length octets₁ ≡ book_room
          → Carried octets₁ used₁ k₁ → book_in octets₁ used₁ ≡ y.book → Passed s at before octets₁ k₁ p.next y.rows used₁ after
      on put octets₁ used₁ size c same =
          let moves = item_moves s o short pos rows (book_in octets used) p y e in
          let spot = item_spot s o short pos rows (book_in octets used) p y e ∙ ap (spot_at p.next y.rows) (sym same) in
          record {
            size = size;
            carried = c;
            inside = moves.1;
            few = omega (arith, g.few, moves.0, turn_rows s here p y e, few_rows (item p.which));
            items = g.items ++ p ∷ [];
            path =
                subst (λ (z : Spot). Path (turn_at s) (spot_at at 0 []) (g.items ++ p ∷ []) z) spot
                (path_join (turn_at s) g.items (p ∷ []) (spot_at at 0 []) here y g.path (path_one (turn_at s) p here y e));
            prints =
                says (sym (ap (images line) (placed_append g.items (p ∷ [])) ∙ images_append line (placed_all g.items) (placed p ∷ [])))
                (then g.prints (says (said ∙ sym (images_one line (placed p))) put));
          }

      item_goes : Goes (gone_of p y)
      item_goes =
          record {
            stepped = took.stepped;
            reads = step_is s rows octets used pos short g.carried.is (omega (arith, g.few, g.inside)) ∙ took.reads;
            met = ap met_of took.is;
            further = item_moves s o short pos rows (book_in octets used) p y e;
            old = λ old put.
                let (same, _, size) = carried_old octets used k g.carried s o short pos rows p y e old in
                rw size (on put octets used g.size g.carried (sym same));
            new = λ more.
                let n = carried_newly octets used k g.carried s o short pos rows p y e more in
                record {
                  grows = carried_grows octets used k g.carried s o short pos rows p y e more;
                  layout = n.layout;
                  reads = n.reads;
                  few = n.few;
                  on = λ {exit} put long left h.
                      let is = item_left s o short pos rows (book_in octets used) p y e (omega (arith, passed_lent.size, more)) octets exit left in
                      let (c, same) = carried_new octets used k g.carried s o short pos rows p y e more exit is h in
                      on put exit (length (book_image y.book)) (long ∙ g.size) c same;
                };
          }

    pub passed_item : (entry exit : List ℕ) {x : Result Moved Refused} {m : Moved} (gone : Gone)
        → ((book : Book) → Bears (take used octets) used k book → GoesOn s (spot_at pos rows book) k k.numbers 0 entry exit x) → x ≡ Ok m → m ≡ moved.Item gone → Goes gone
    passed_item entry exit gone went is one =
        let (p, y, turn, same) = moved_item (turn_at s here) gone (sym (passed_on entry exit went (is ∙ ap Ok one)).is) in
        subst Goes same (item_goes p y turn)
