-- What the answers to questions say: the scope's meaning of every case.
use Rattle.std.specs.Prelude.{Result, Ok, Err}
use Rattle.octets.specs.Reading.{Read, ok, no}
use Rattle.octets.specs.declared.Refused.{Refused}
use Rattle.kinds.specs.declared.Kind.{Kind}
use Rattle.kinds.specs.Values.{value_of}
use Rattle.layouts.specs.Layout.{Attribute}
use Rattle.rows.specs.Row.{Field}
use Rattle.questions.specs.declared.TypedValue.{TypedValue}

-- A field's type and value.
abbrev pub field_tells : Read Field → Result TypedValue Refused
field_tells (ok f next) = Ok (record { kind = f.attribute.kind; value = value_of f.attribute.kind.basic f.value })
field_tells (no n p) = Err (record { number = n; place = p })

-- An attribute's type.
abbrev pub kind_tells : Read Attribute → Result Kind Refused
kind_tells (ok a next) = Ok a.kind
kind_tells (no n p) = Err (record { number = n; place = p })
