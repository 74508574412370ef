-- The plain kind and the plain value of the program's.
use Rattle.bas_fileval.specs.Kind as kind
use Rattle.bas_fileval.specs.Value as value
use Rattle.bas_fileval.specs.declared.value.Kind.{Kind}
use Rattle.bas_fileval.specs.declared.value.Kind.TheVariants.{Number, Text}
use Rattle.bas_fileval.specs.declared.value.Value.{Value}
use Rattle.bas_fileval.specs.declared.value.Value.TheVariants as rust

abbrev pub plain_kind : Kind → kind.Kind
plain_kind Number = kind.Number
plain_kind Text = kind.Text

abbrev pub plain_value : Value → value.Value
plain_value (rust.Num x) = value.Num x
plain_value (rust.Text bytes) = value.Text bytes
