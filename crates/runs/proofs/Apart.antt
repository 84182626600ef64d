-- An item's word can be taken apart again: its number, whether it is a row, whether its length is stated, and the next place. By arithmetic of the four parts.
use Prim.Native.Nat.{ℕ, ◌/◌, ◌%◌, ◌<◌}
use mathlib.Core.Path.{◌≡◌}
use mathlib.Core.Bool.{true, false}
use native.Mathlib.Omega.{arith}
use Rattle.walks.specs.Rows.{row_word}
use Rattle.runs.specs.Runs.{layout_word}

-- What is read off a word.
abbrev pub Tells : ℕ → ℕ → ℕ → ℕ → ℕ → Type 0
Tells word number is_row stated next =
    (word / 4294967296 ≡ number) × (word / 2147483648 % 2 ≡ is_row) × (word / 1073741824 % 2 ≡ stated) × (word % 1073741824 ≡ next)

pub layout_tells : (number next : ℕ) → next < 1073741824 → Tells (layout_word number next) number 0 0 next
layout_tells number next h = (omega arith, omega arith, omega arith, omega arith)

pub stated_tells : (number next : ℕ) → next < 1073741824 → Tells (row_word number true next) number 1 1 next
stated_tells number next h = (omega arith, omega arith, omega arith, omega arith)

pub open_tells : (number next : ℕ) → next < 1073741824 → Tells (row_word number false next) number 1 0 next
open_tells number next h = (omega arith, omega arith, omega arith, omega arith)
