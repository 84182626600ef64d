-- The octets that calls put are those of the image: of a header, of a layout, and of a row whose length is not put yet.
-- A list's calls put its items' octets one after another. Assumes nothing.
use Prim.Native.Nat.{ℕ}
use mathlib.Core.Path.{◌≡◌, refl, sym, ap, ◌∙◌}
use mathlib.Core.List.{List, [], ◌∷◌, ◌++◌, append_assoc, append-nil}
use Rattle.octets.specs.Writing.{word, images}
use Rattle.texts.specs.Texts.{led_image}
use Rattle.layouts.specs.Layout.{Layout, attribute_image, layout_image}
use Rattle.rows.specs.Row.{Row, field_image, length_image}
use Rattle.headers.specs.Header.{Header, namespace_image, header_image}
use Rattle.elements.specs.Element.{layout}
use Rattle.writer.specs.Writer.{Call, open_row, fresh, does}
use Rattle.promises_writing.specs.Promise.{each, namespace_calls, service_calls, attribute_calls, field_calls, item_calls, header_calls}

-- The octets that a call puts, where they do not depend on the state.
abbrev pub octets_of : Call → List ℕ
octets_of c = (does fresh [] [] c).octets

images_join : {A : Type 0} (f : A → List ℕ) (xs ys : List A) → images f (xs ++ ys) ≡ images f xs ++ images f ys
unfolding images
images_join f [] ys = refl
images_join f (x ∷ xs) ys = ap (λ (s : List ℕ). f x ++ s) (images_join f xs ys) ∙ sym (append_assoc (f x) (images f xs) (images f ys))

images_one : {A : Type 0} (f : A → List ℕ) (a : A) → images f (a ∷ []) ≡ f a
unfolding images
images_one f a = append-nil (f a)

pub images_snoc : {A : Type 0} (f : A → List ℕ) (xs : List A) (a : A) → images f (xs ++ a ∷ []) ≡ images f xs ++ f a
images_snoc f xs a = images_join f xs (a ∷ []) ∙ ap (λ (s : List ℕ). images f xs ++ s) (images_one f a)

pub each_snoc : {A : Type 0} (f : A → List Call) (xs : List A) (a : A) → each f (xs ++ a ∷ []) ≡ each f xs ++ f a
each_snoc f [] a = append-nil (f a)
each_snoc f (x ∷ xs) a = ap (λ (s : List Call). f x ++ s) (each_snoc f xs a) ∙ sym (append_assoc (f x) (each f xs) (f a))

images_each : {A : Type 0} (f : A → List Call) (g : A → List ℕ) → ((a : A) → images octets_of (f a) ≡ g a) → (xs : List A) → images octets_of (each f xs) ≡ images g xs
unfolding images
images_each f g one [] = refl
images_each f g one (a ∷ xs) = images_join octets_of (f a) (each f xs) ∙ rw (one a, images_each f g one xs)

pub header_octets_lem : (h : Header) → images octets_of (header_calls h) ≡ header_image h
unfolding header_calls header_image namespace_image does images
header_octets_lem h =
    simp (
      images_join octets_of,
      images_each namespace_calls namespace_image (λ n. simp append-nil),
      images_each service_calls led_image (λ xs. simp append-nil),
      append_assoc,
      append-nil,
    )

pub layout_octets : (l : Layout) → images octets_of (item_calls (layout l)) ≡ word 4 1 ++ layout_image l
unfolding layout_image attribute_image does images
layout_octets l = rw (images_each attribute_calls attribute_image (λ a. simp append-nil) l.attributes) (simp append_assoc)

pub row_octets : (r : Row) → images octets_of ((open_row r.number r.is_stated ∷ []) ++ each field_calls r.fields)
    ≡ word 4 2 ++ (word 4 r.number ++ (length_image r.is_stated 0 ++ images field_image r.fields))
unfolding field_image does images
row_octets r = rw (images_each field_calls field_image (λ f. simp append-nil) r.fields) (simp append_assoc)
