-- `walks::Known::index` meets its contract. The invariant: of every such book the layouts met are kept, and those left stand from here on.
-- The measure is what is left of the octets. Assumes nothing.
use native.Mathlib.Omega.{arith}
use Rattle.layouts.specs.Book.{Book}
use Rattle.walks.specs.Kept.{Image}
use Rattle.walks.proofs.Indexing.{Here, met_none, met_here, met_all}
use Rattle.walks.proofs.Known.index.Goals as goal
use Rattle.walks.proofs.Known.index.Goals.{In-loop-pos}

pub loop-pos-init : goal.loop-pos-init
loop-pos-init c = λ book image.
    let p = c.requires in
    let a = c.args in
    met_none a.s.now book image a.self.now.numbers a.self.now.places a.self.now.steps p.1 p.2 p.3

-- The layout here, of any book whose image the octets are, and of the one that is required.
here_in : (t : In-loop-pos) (book : Book) → Image t.args.s.now book → Here t.args.s.now t.loop-pos.self t.loop-pos.pos book
here_in t book image =
    let l = t.loop-pos in
    met_here t.args.s.now l.self l.pos book (l.invariant book image) image.good t.loop-pos-test.true

held : (t : In-loop-pos) → Here t.args.s.now t.loop-pos.self t.loop-pos.pos t.requires.4.book
held t = here_in t t.requires.4.book t.requires.4.image

pub keep-requires : goal.keep-requires
keep-requires c =
    let h = held (goal.at.keep-requires c).In-loop-pos in
    (c.requires.0, h.accepted, h.bounds.0, h.room, h.bounds.1, h.bounds.2, omega (arith, c.loop-pos-test.true, c.requires.0))

pub layout_skip-pos-requires : goal.layout_skip-pos-requires
layout_skip-pos-requires c = (c.requires.0, (held (goal.at.layout_skip-pos-requires c).In-loop-pos).accepted)

pub loop-pos-smaller : goal.loop-pos-smaller
loop-pos-smaller c =
    let t = (goal.at.loop-pos-smaller c).In-loop-pos in
    omega (arith, ((held t).on c.keep.new.self c.layout_skip-pos.result c.keep.ensures c.layout_skip-pos.ensures).0, c.loop-pos-test.true)

pub loop-pos-preserved : goal.loop-pos-preserved
loop-pos-preserved c = λ book image.
    ((here_in (goal.at.loop-pos-preserved c).In-loop-pos book image).on c.keep.new.self c.layout_skip-pos.result c.keep.ensures c.layout_skip-pos.ensures).1

pub returns : goal.returns
returns c = λ book image.
    let l = c.loop-pos in
    met_all c.args.s.now l.self l.pos book (l.invariant book image) c.loop-pos-test.false
