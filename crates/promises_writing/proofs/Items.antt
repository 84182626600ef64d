-- What stands between elements has one item more where an element is made whole behind it; an element is opened there, and grows.
-- Items, octets, calls, book and rows are each joined at their end. Assumes nothing.
use Prim.Native.Nat.{ℕ, ◌+◌}
use mathlib.Core.Path.{◌≡◌, refl, sym, ap, ◌∙◌, subst}
use mathlib.Core.List.{List, [], ◌∷◌, ◌++◌, append_assoc, append-nil}
use native.Mathlib.Omega.{arith}
use native.Mathlib.Nat.{zero-add}
use lib.ListN.{length}
use Rattle.octets.specs.Writing.{images}
use Rattle.layouts.specs.Book.{Book}
use Rattle.headers.specs.Header.{header_image}
use Rattle.elements.specs.Element.{Item, layout, row}
use Rattle.elements.specs.Document.{item_image, row_count, GoodItems}
use Rattle.writer.specs.declared.Wanted.{Wanted}
use Rattle.writer.specs.declared.Wanted.TheVariants as wants
use Rattle.writer.specs.Writer.{Call}
use Rattle.promises_writing.specs.Promise.{each, item_calls, header_calls, with_layout, book_behind, Account, adds, opens}
use Rattle.promises_writing.proofs.Standing.{Spot, spot, behind}
use Rattle.promises_writing.proofs.Writes.{learn_with}
use Rattle.promises_writing.proofs.Put.{octets_of, images_snoc, each_snoc}
use Rattle.promises_writing.proofs.Shapes.{Between, Opened, Shape}

-- One item more behind those that stand.
items_snoc : (items : List Item) (b : Book) (i : Item) → GoodItems b items → GoodItems (book_behind b items) (i ∷ []) → GoodItems b (items ++ i ∷ [])
items_snoc [] b i g h = h
items_snoc (layout l ∷ others) b i g h =
    let is : with_layout b l ≡ g.1.0 = sym (learn_with b l g.1.0 0 0 g.1.1) in
    (g.0, (g.1.0, g.1.1, items_snoc others g.1.0 i g.1.2 (subst (λ (c : Book). GoodItems (book_behind c others) (i ∷ [])) is h)))
items_snoc (row r ∷ others) b i g h = (g.0, g.1, items_snoc others b i g.2 h)

book_snoc : (items : List Item) (b : Book) (i : Item) → book_behind b (items ++ i ∷ []) ≡ book_behind (book_behind b items) (i ∷ [])
book_snoc [] b i = refl
book_snoc (layout l ∷ others) b i = book_snoc others (with_layout b l) i
book_snoc (row r ∷ others) b i = book_snoc others b i

count_snoc : (items : List Item) (i : Item) → row_count (items ++ i ∷ []) ≡ row_count items + row_count (i ∷ [])
count_snoc [] i = sym (zero-add (row_count (i ∷ [])))
count_snoc (layout l ∷ others) i = count_snoc others i
count_snoc (row r ∷ others) i = let h = count_snoc others i in omega arith

pub next_item : {b : Book} {rows : ℕ} {done : List ℕ} {calls : List Call} → Between b rows done calls → (i : Item) → GoodItems b (i ∷ [])
    → Between (book_behind b (i ∷ [])) (rows + row_count (i ∷ [])) (done ++ item_image i) (calls ++ item_calls i)
next_item s i g =
    record {
      h = s.h;
      items = s.items ++ i ∷ [];
      header = s.header;
      good = items_snoc s.items [] i s.good (subst (λ (c : Book). GoodItems c (i ∷ [])) s.book_is g);
      is = behind (item_image i) s.is
          ∙ (append_assoc (header_image s.h) (images item_image s.items) (item_image i) ∙ ap (λ (z : List ℕ). header_image s.h ++ z) (sym (images_snoc item_image s.items i)));
      said = ap (λ (z : List Call). z ++ item_calls i) s.said
          ∙ (append_assoc (header_calls s.h) (each item_calls s.items) (item_calls i) ∙ ap (λ (z : List Call). header_calls s.h ++ z) (sym (each_snoc item_calls s.items i)));
      book_is = ap (λ (c : Book). book_behind c (i ∷ [])) s.book_is ∙ sym (book_snoc s.items [] i);
      rows_is = ap (λ (n : ℕ). n + row_count (i ∷ [])) s.rows_is ∙ sym (count_snoc s.items i);
    }

pub same_between : {b c : Book} {m n : ℕ} {d e : List ℕ} {x y : List Call} → Between b m d x → b ≡ c → m ≡ n → d ≡ e → x ≡ y → Between c n e y
same_between s p q r t =
    record {
      h = s.h;
      items = s.items;
      header = s.header;
      good = s.good;
      is = sym r ∙ s.is;
      said = sym t ∙ s.said;
      book_is = sym p ∙ s.book_is;
      rows_is = sym q ∙ s.rows_is;
    }

-- An element opened, and more octets of it.
pub opening : (x : Spot) (done : List ℕ) (told : Account) (c : Call) (u : Wanted) → Shape wants.Element x done told
    → Opened (spot x.book u 0 (length done) x.rows) (done ++ octets_of c) (opens told c)
unfolding images
opening x done told c u i =
    record { before = done; between = i.0; start = refl; is = ap (λ (z : List ℕ). done ++ z) (sym (append-nil (octets_of c))) }

pub longer : {x : Spot} {done : List ℕ} {told : Account} (c : Call) (u : Wanted) (j : ℕ) → Opened x done told
    → Opened (spot x.book u j x.start x.rows) (done ++ octets_of c) (adds told c)
longer {told = told} c u j o =
    record {
      before = o.before;
      between = o.between;
      start = o.start;
      is = behind (octets_of c) o.is
          ∙ (append_assoc o.before (images octets_of told.latest) (octets_of c) ∙ ap (λ (z : List ℕ). o.before ++ z) (sym (images_snoc octets_of told.latest c)));
    }

pub one_more : (c : Call) {l f : List Call} → l ≡ f → l ++ c ∷ [] ≡ f ++ c ∷ []
one_more c e = ap (λ (z : List Call). z ++ c ∷ []) e
