-- `giving::give_text` meets its contract: the length and the octets are the string's image. Assumes nothing.
use mathlib.Core.Path.{◌≡◌, refl}
use mathlib.Core.List.{List, [], ◌++◌, append-nil}
use Prim.Native.Nat.{ℕ}
use lib.ListN.{length}
use Rattle.octets.specs.Writing.{word}
use Rattle.texts.specs.Texts.{led_image}
use Rattle.writer.proofs.Tests.{same_put, gave}
use Rattle.giving.proofs.give_text.Goals as goal

image : (xs : List ℕ) {h : List ℕ} → h ≡ word 4 (length xs) → h ++ (xs ++ []) ≡ led_image xs
unfolding led_image
image xs e = rw (e, append-nil xs) refl

pub returns : goal.returns
returns c =
    let a = c.args in
    gave a.from.state a.buf.now a.book.now a.from.used c.give.ensures
    (same_put a.from.state a.turn a.from.state.start c.breach.ensures (image a.xs.now c.word4-head.ensures) refl refl)
