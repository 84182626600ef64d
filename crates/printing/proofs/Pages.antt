-- Texts printed on a page one behind another, and that a text leaves one page.
use Prim.Native.Nat.{ℕ}
use mathlib.Core.Path.{◌≡◌, refl, sym, ap, ◌∙◌}
use mathlib.Core.List.{List, [], ◌++◌}
use denote.MutBor.{MutBor, at_last}
use Rattle.printing.specs.Pages.{Shows}
use Rattle.printing.specs.declared.Page.{Page}
use Rattle.printing.proofs.Puts as puts
use Rattle.printing.proofs.Waits as waits

pub then : {before mid after : Page} {a b : List ℕ} → Shows before a mid → Shows mid b after → Shows before (a ++ b) after
then {before} {mid} {after} p q =
    record {
      prints = puts.then p.prints q.prints;
      same = q.same ∙ ap (λ (r : MutBor (List ℕ)). at_last r after.out.now) p.same;
    }

-- A text said in other words.
pub says : {before after : Page} {a b : List ℕ} → a ≡ b → Shows before a after → Shows before b after
says e p = record { prints = puts.says e p.prints; same = p.same }

pub nothing : (page : Page) → Shows page [] page
nothing page = record { prints = puts.nothing page.out.now page.n; same = refl }

-- The inputs allow one page.
pub one_page : {before after other : Page} {text : List ℕ} → Shows before text after → Shows before text other → after ≡ other
one_page {before} p q =
    let (now, n) = waits.one_print p.prints q.prints in
    let out = p.same ∙ ap (at_last before.out) now ∙ sym q.same in
    λ i. record { out = out i; n = n i }

-- A page is its lent buffer and how much waits.
pub same_page : {p q : Page} → p.out ≡ q.out → p.n ≡ q.n → p ≡ q
same_page out n = λ i. record { out = out i; n = n i }
