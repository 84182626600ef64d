-- The contracts of layouts themselves that settle the answer: each allows one; of a part handed back, one content; where a layout was looked up, all but the place. Assumes nothing.
use Prim.Native.Nat.{ℕ, ◌<◌}
use Rattle.std.specs.Prelude.{Result, Ok, Err}
use mathlib.Core.Path.{◌≡◌, refl, sym, ap, ◌∙◌}
use mathlib.Core.List.{List, [], ◌∷◌, ◌++◌}
use mathlib.Core.Option.{Option, some, none}
use native.Mathlib.Omega.{arith}
use lib.ListN.{length, drop, length-append, length-drop}
use Rattle.octets.specs.OfContracts.{Once, OnceSeen}
use Rattle.octets.proofs.Inverse.{ok_value, ok_place, no_ok}
use Rattle.octets.proofs.Ends.{ended, value_is}
use Rattle.octets.proofs.Contracts.{says_once, fault_once}
use Rattle.layouts.specs.Layout.{Attribute, Layout}
use Rattle.layouts.specs.Book.{Book}
use Rattle.layouts.specs.Answers.{Looks, Judges, looked_but}
use Rattle.layouts.specs.declared.Looked.{Looked}
use Rattle.layouts.specs.declared.Looked.TheVariants.{There, Missing}
use Rattle.layouts.specs.declared.Learning.{Learning}
use Rattle.layouts.specs.declared.Learning.TheVariants.{Known, New}
use Rattle.octets.specs.declared.Fault.{Fault}
use Rattle.layouts.proofs.layout_end as layout_end
use Rattle.layouts.proofs.attribute_skip as attribute_skip
use Rattle.layouts.proofs.attributes_at as attributes_at
use Rattle.layouts.proofs.layout_skip as layout_skip
use Rattle.layouts.proofs.look_in as look_in
use Rattle.layouts.proofs.find as find
use Rattle.layouts.proofs.is_book as is_book
use Rattle.layouts.proofs.judge as judge
use Rattle.layouts.proofs.layout_number as layout_number
use Rattle.layouts.proofs.type_name as type_name
use Rattle.layouts.proofs.attribute_count as attribute_count
use Rattle.layouts.proofs.kind_behind as kind_behind
use Rattle.layouts.proofs.attribute_kind as attribute_kind

pub record Contracts : Type 0 where
  pub of_layout_end : Once layout_end.Kinds.ps layout_end.Kinds.r layout_end.Reads.Pre layout_end.Reads.Post
  pub of_attribute_skip : Once attribute_skip.Kinds.ps attribute_skip.Kinds.r attribute_skip.Reads.Pre attribute_skip.Reads.Post
  pub of_attributes_at : Once attributes_at.Kinds.ps attributes_at.Kinds.r attributes_at.Reads.Pre attributes_at.Reads.Post
  pub of_layout_skip : Once layout_skip.Kinds.ps layout_skip.Kinds.r layout_skip.Reads.Pre layout_skip.Reads.Post
  pub of_look_in : OnceSeen look_in.Kinds.ps look_in.Kinds.r (λ κs. looked_but) look_in.Reads.Pre look_in.Reads.Post
  pub of_find : OnceSeen find.Kinds.ps find.Kinds.r (λ κs. looked_but) find.Reads.Pre find.Reads.Post
  pub of_is_book : Once is_book.Kinds.ps is_book.Kinds.r is_book.Reads.Pre is_book.Reads.Post
  pub of_judge : Once judge.Kinds.ps judge.Kinds.r judge.Reads.Pre judge.Reads.Post
  pub of_layout_number : Once layout_number.Kinds.ps layout_number.Kinds.r layout_number.Reads.Pre layout_number.Reads.Post
  pub of_type_name : OnceSeen type_name.Kinds.ps type_name.Kinds.r (λ κs x. x.now) type_name.Reads.Pre type_name.Reads.Post
  pub of_attribute_count : Once attribute_count.Kinds.ps attribute_count.Kinds.r attribute_count.Reads.Pre attribute_count.Reads.Post
  pub of_kind_behind : Once kind_behind.Kinds.ps kind_behind.Kinds.r kind_behind.Reads.Pre kind_behind.Reads.Post
  pub of_attribute_kind : Once attribute_kind.Kinds.ps attribute_kind.Kinds.r attribute_kind.Reads.Pre attribute_kind.Reads.Post

-- Of more than n attributes there is one of index n.
nth : (n : ℕ) (xs : List Attribute) → n < length xs → (a : Attribute) × (more : List Attribute) × (drop n xs ≡ a ∷ more)
nth n xs h = go (drop n xs) refl
  where
    go : (ys : List Attribute) → drop n xs ≡ ys → (a : Attribute) × (more : List Attribute) × (drop n xs ≡ a ∷ more)
    go [] is = absurd (omega (arith, length-drop n xs, ap length is))
    go (a ∷ more) is = (a, more, is)

-- A layout is in a book or not.
never : {o : Option Layout} {l : Layout} → o ≡ some l → o ≡ none → ⊥
never e f = let z : ◌≡◌ {A = ℕ} 0 1 = cc in omega arith

looks_once : (s : List ℕ) (n : ℕ) (book : Book) (x y : Looked) → Looks s n book x → Looks s n book y → looked_but x ≡ looked_but y
looks_once s n book (There p) (There q) e f = refl
looks_once s n book (There p) (Missing k) e f = absurd (never e.found f.0)
looks_once s n book (Missing k) (There q) e f = absurd (never f.found e.0)
looks_once s n book (Missing k) (Missing l) e f = ap Missing (sym e.1 ∙ f.1)

-- A book is not itself with a layout more.
longer : (book : Book) (l : Layout) → book ≡ book ++ l ∷ [] → ⊥
longer book l e = omega (arith, ap length e, length-append book (l ∷ []))

-- What a book makes of a layout is one.
judges_once : (used : ℕ) (book : Book) (l : Layout) (at : ℕ) (x y : Result Learning Fault) → Judges used book l at x → Judges used book l at y → x ≡ y
judges_once used book l at (Ok Known) (Ok Known) e f = refl
judges_once used book l at (Ok Known) (Ok (New v)) e f = absurd (longer book l (ok_value e f.0))
judges_once used book l at (Ok Known) (Err n) e f = absurd (no_ok f e)
judges_once used book l at (Ok (New u)) (Ok Known) e f = absurd (longer book l (ok_value f e.0))
judges_once used book l at (Ok (New u)) (Ok (New v)) e f = ap (λ (k : ℕ). Ok (New k)) (e.1 ∙ sym f.1)
judges_once used book l at (Ok (New u)) (Err n) e f = absurd (no_ok f e.0)
judges_once used book l at (Err m) (Ok Known) e f = absurd (no_ok e f)
judges_once used book l at (Err m) (Ok (New v)) e f = absurd (no_ok e f.0)
judges_once used book l at (Err m) (Err n) e f = ap Err (fault_once m n (cc))

pub contracts : Contracts
contracts =
    record {
      of_layout_end = λ κs a p x y u v e f. (says_once x y (e.0 ∙ sym f.0), refl);
      of_attribute_skip = λ κs a p x y u v e f. (ok_place e f, refl);
      of_attributes_at = λ κs a p x y u v e f. (ok_place e.0 f.0, refl);
      of_layout_skip = λ κs a p x y u v e f. (ok_place e f, refl);
      of_look_in = λ κs a p x y u v e f. let h = p.1 in (looks_once _ _ _ x y (e h.book h.image) (f h.book h.image), refl);
      of_find = λ κs a p x y u v e f. (looks_once _ _ _ x y e f, refl);
      of_is_book = λ κs a p x y u v e f. (e ∙ sym f, refl);
      of_judge = λ κs a p x y u v e f. let (l, is) = ended _ _ p.2 in let h = p.4 in (judges_once _ _ _ _ x y (e h.book l h.image is) (f h.book l h.image is), refl);
      of_layout_number = λ κs a p x y u v e f. let (l, next, is) = value_is _ p in (e l next is ∙ sym (f l next is), refl);
      of_type_name = λ κs a p x y u v e f. let (l, next, is) = value_is _ p.1 in (e l next is ∙ sym (f l next is), refl);
      of_attribute_count = λ κs a p x y u v e f. let (l, next, is) = value_is _ p.1 in (e l next is ∙ sym (f l next is), refl);
      of_kind_behind = λ κs a p x y u v e f. let (b, next, is) = value_is _ p.1 in (e b next is ∙ sym (f b next is), refl);
      of_attribute_kind = λ κs a p x y u v e f. let h = p.1 in let (b, more, is) = nth _ _ h.more in (e h.layout h.end b more h.reads is ∙ sym (f h.layout h.end b more h.reads is), refl);
    }
