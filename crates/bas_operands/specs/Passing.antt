-- What a procedure is passed.
use Rattle.bas_ast.specs.Tree as t
use Rattle.bas_face.specs.declared.shape.Shape.{Shape}
use Rattle.bas_scope.specs.Senses.{Senses}
use Rattle.bas_rules.specs.Calling.{passed_by_call, passed_to_function}
use Rattle.bas_operands.specs.declared.passing.Callee.{Callee}
use Rattle.bas_operands.specs.declared.passing.Callee.TheVariants.{Sub, Function}

-- what an argument is, passed to a procedure of a kind
abbrev pub passed_to : Callee → Senses → t.Actual → Shape
passed_to Sub s actual = passed_by_call s actual
passed_to Function s actual = passed_to_function s actual
