-- `elements::element` meets its contract: the number is looked up in the used octets, the element is read over them, and a layout that the book grew by is laid behind them. Assumes nothing.
use native.Mathlib.Omega.{arith}
use Prim.Native.Nat.{ℕ, ◌+◌}
use mathlib.Core.Path.{◌≡◌, sym, ap, ◌∙◌}
use mathlib.Core.List.{List}
use Rattle.octets.specs.Reading.{ok}
use lib.ListN.{length, take}
use Rattle.octets.specs.Writing.{Each, Octet}
use Rattle.octets.proofs.Spans.{each_octet}
use Rattle.layouts.specs.Book.{Book, book_in}
use Rattle.layouts.specs.Answers.{Image}
use Rattle.layouts.proofs.Books.{Lent}
use Rattle.layouts.proofs.Lends.{stood}
use Rattle.layouts.proofs.Walks.{lent_book_lem, book_image_lem, lent_length}
use Rattle.elements.specs.Element.{element_at}
use Rattle.elements.specs.Steps.{octets_left, holding}
use Rattle.elements.specs.Answers.{tells, Over}
use Rattle.elements.specs.declared.Step.{Step}
use Rattle.std.specs.Prelude.{Ok}
use Rattle.std.proofs.lemmas.Result.{err_from_is_err_and}
use Rattle.elements.proofs.Told.{element_cut, holding_same, Told, told, told_used, refusing}
use Rattle.elements.proofs.Behind.{element_old}
use Rattle.elements.proofs.element.Goals.{After-element_over, then-used-step, else-used-step}
use Rattle.elements.proofs.element.Goals as goal
use Rattle.elements.proofs.element.Lts
use Rattle.elements.proofs.element.Reads
use Rattle.elements.proofs.element.Tie

-- The arguments by names, where the octets of both slices are known.
abbrev Known : Type 0
Known = Lts.After-slice_known Tie.the-claims Reads.Pre Reads.Post Tie.handed_clauses

module _ (k : Known) where
  abbrev doc : List ℕ
  doc = k.args.doc.now

  abbrev at : ℕ
  at = k.args.at

  abbrev rows : ℕ
  rows = k.args.rows

  abbrev lent : List ℕ
  lent = k.args.book.now

  abbrev used : ℕ
  used = k.args.used

  abbrev book : Book
  book = book_in lent used

  octets : Each Octet doc
  octets = each_octet doc k.shared_slice_known-1.given

  lent_octets : Each Octet lent
  lent_octets = each_octet lent k.slice_known-1.given

  held : Lent lent used book
  held = lent_book_lem lent used lent_octets k.requires.2

  image : Image (take used lent) book
  image = book_image_lem lent used book held

  used_length : length (take used lent) ≡ used
  used_length = lent_length lent used held

pub returns-then-doc-at : goal.returns-then-doc-at
returns-then-doc-at c =
    let e = element_cut (doc c.before.before) (at c.before.before) (rows c.before.before) (book c.before.before) (omega (arith, c.if-doc-at.true)) in
    (sym (ap tells e), sym (ap (octets_left (lent c.before.before)) e))

pub look_in-looked-requires : goal.look_in-looked-requires
look_in-looked-requires c =
    let known_here = c.before.before.before in
    (omega (arith, used_length known_here, (held known_here).most), record { book = book known_here; image = image known_here })

-- What was looked up.
abbrev LookedUp : Type 0
LookedUp = Lts.After-look_in Tie.the-claims Reads.Pre Reads.Post Tie.handed_clauses

over : (l : LookedUp) → Over (doc l.before.before.before) (at l.before.before.before + 4) (take (used l.before.before.before) (lent l.before.before.before)) l.look_in-looked.result (used l.before.before.before) (book l.before.before.before)
over l =
    record { number = l.number_behind.result; is = l.number_behind.ensures.0; looks = l.look_in-looked.ensures (book l.before.before.before) (image l.before.before.before); size = (held l.before.before.before).size }

pub element_over-requires : goal.element_over-requires
element_over-requires c =
    let known_here = c.before.before.before.before in
    let p = c.requires in
    (omega (arith, c.if-doc-at.false), p.0, p.1, omega (arith, used_length known_here, (held known_here).most), (held known_here).most, stood (take (used known_here) (lent known_here)) (over c.before).number (book known_here) c.look_in-looked.result (over c.before).looks)

-- The element that was read.
abbrev Answered : Type 0
Answered = Lts.After-element_over Tie.the-claims Reads.Pre Reads.Post Tie.handed_clauses

abbrev Of : Answered → Known
Of v = v.before.before.before.before

is_read : (v : Answered) → v.element_over.result ≡ tells (element_at (doc (Of v)) (at (Of v)) (rows (Of v)) (book (Of v)))
is_read v = v.element_over.ensures (book (Of v)) (over v.before)

reads : (v : Answered) (step : Step) → v.element_over.result ≡ Ok step → Told (element_at (doc (Of v)) (at (Of v)) (rows (Of v)) (book (Of v))) step
reads v step q = told (element_at (doc (Of v)) (at (Of v)) (rows (Of v)) (book (Of v))) step (sym (is_read v) ∙ q)

pub returns-in_err-step : goal.returns-in_err-step
returns-in_err-step c =
    let v = (goal.at.returns-in_err-step c).After-element_over.before in
    let k = Of v in
    let (_, is, same) = err_from_is_err_and c.from_residual.result c.from_residual.ensures.1 in
    let e = refusing (element_at (doc k) (at k) (rows k) (book k)) _ (sym (is_read v) ∙ c.in_err-step.was) in
    (rw (is, same) (sym (ap tells e)), sym (ap (octets_left (lent k)) e))

-- A layout that the book grew by.
pub grow-requires : goal.grow-requires
grow-requires c =
    let v = (goal.at.grow-requires c).After-element_over.before in
    let k = Of v in
    let x = reads v _ c.in_ok-step.was in
    let p = c.requires in (
      p.0,
      p.2,
      record { rows = rows k; stepped = x.stepped; reads = x.reads ∙ ap (λ (y : Step). ok x.stepped y.next) x.is; more = omega (arith, (held k).size, told_used x, c.if-used-step.true) },
    )

pub returns : goal.returns
returns c =
    let v = (goal.at.returns c).After-element_over.before in
    let k = Of v in
    let is = c.in_ok-step.was in
    let x = reads v _ is in
    let left = sym (ap (octets_left (lent k)) x.reads) in (
      sym is ∙ is_read v,
      elim c.if-used-step.branch [
        | then-used-step w ↦ w.book-is ∙ (w.grow.ensures (rows k) x.stepped (x.reads ∙ ap (λ (z : Step). ok x.stepped z.next) x.is) ∙ left)
        | else-used-step w ↦
            let same = element_old (doc k) (octets k) (at k) (rows k) (book k) x.stepped x.next x.reads (used k) _ (held k).size (told_used x) w.if-used-step.false in
            w.book-is ∙ (sym (holding_same (lent k) (used k) (lent_octets k) c.requires.2) ∙ (ap (λ (b : Book). holding b (lent k)) (sym same) ∙ left))
      ],
    )

pub slice_bounds-look_in-end : goal.slice_bounds-look_in-end
slice_bounds-look_in-end c = omega (arith, (held c.before.before).room, (held c.before.before).most)

pub slice_bounds-look_in-end-2 : goal.slice_bounds-look_in-end-2
slice_bounds-look_in-end-2 c = sym (used_length c.before.before)

pub slice_bounds-element_over-end : goal.slice_bounds-element_over-end
slice_bounds-element_over-end c = omega (arith, (held c.before.before.before.before).room, (held c.before.before.before.before).most)

pub slice_bounds-element_over-end-2 : goal.slice_bounds-element_over-end-2
slice_bounds-element_over-end-2 c = sym (used_length c.before.before.before.before)
