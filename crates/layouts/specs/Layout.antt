-- A layout: a number, a type name, and attributes.
use Rattle.std.specs.Prelude.{ℕ, ◌<◌, ◌≤◌, ◌^◌, List, ◌++◌, length}
use Rattle.octets.specs.Limits.{most_attributes}
use Rattle.octets.specs.Reading.{Read, ok, ◌then◌, number, count, run}
use Rattle.octets.specs.Writing.{word, images, Each}
use Rattle.texts.specs.Texts.{text, led_image, GoodText}
use Rattle.kinds.specs.declared.Kind.{Kind}
use Rattle.kinds.specs.Kinds.{number_of, kind_at}

pub record Attribute : Type 0 where
  pub name : List ℕ
  pub kind : Kind

pub record Layout : Type 0 where
  pub number : ℕ
  pub type_name : List ℕ
  pub attributes : List Attribute

-- An attribute: a name string and a four-octet type.
unfoldable pub attribute_at : List ℕ → ℕ → Read Attribute
attribute_at s at = text s at then λ name next. kind_at s next then λ kind end. ok (record { name = name; kind = kind }) end

-- A layout from its number to its last type: a 32-bit number, the type name, a count of attributes of at most 64, and these.
unfoldable pub layout_at : List ℕ → ℕ → Read Layout
layout_at s at =
    number 4 s at then λ n named.
    text s named then λ name counted.
    count most_attributes s counted then λ k first.
    run (attribute_at s) k first then λ attributes end.
    ok (record { number = n; type_name = name; attributes = attributes }) end

unfoldable pub attribute_image : Attribute → List ℕ
attribute_image a = led_image a.name ++ word 4 (number_of a.kind)

-- A layout's octets as a book holds them: without the kind.
unfoldable pub layout_image : Layout → List ℕ
layout_image l =
    word 4 l.number ++ led_image l.type_name ++ word 4 (length l.attributes) ++ images attribute_image l.attributes

pub record GoodAttribute (a : Attribute) : Type 0 where
  pub name : GoodText a.name
  pub derived : a.kind.derived < 256

-- A layout inside the limits: numbers that fit their octets, strings of octets, at most 64 attributes.
pub record GoodLayout (l : Layout) : Type 0 where
  pub number : l.number < 2 ^ 32
  pub type_name : GoodText l.type_name
  pub few : length l.attributes ≤ most_attributes
  pub attributes : Each GoodAttribute l.attributes
