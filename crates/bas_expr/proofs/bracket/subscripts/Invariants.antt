use Rattle.std.proofs.Common.{◌≡◌, map}
use Rattle.bas_expr.specs.Reading.{expr_in}
use Rattle.bas_expr.proofs.bracket.subscripts.Given as goal

abbrev pub invariant-actuals : goal.invariant-actuals
invariant-actuals l = l.exprs ≡ map expr_in l.yielded
