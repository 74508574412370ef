-- What an answer says that a supplied function takes.
use Rattle.bas_scope.specs.Supplied as form
use Rattle.bas_operands.specs.declared.forms.Parameter.{Parameter}
use Rattle.bas_operands.specs.declared.forms.Parameter.TheVariants as told

-- what an argument is
abbrev pub parameter_told : Parameter → form.Parameter
parameter_told told.Number = form.Number
parameter_told told.Text = form.Text
parameter_told told.Array = form.Array
