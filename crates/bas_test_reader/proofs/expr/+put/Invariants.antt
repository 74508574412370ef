use Rattle.std.proofs.Common.{◌+◌, ◌*◌}
use Rattle.bas_test_reader.proofs.expr.+put.Given as goal

abbrev pub decreases-put_expr : goal.decreases-put_expr
decreases-put_expr l = 8 * l.fuel + 0

abbrev pub decreases-put_exprs : goal.decreases-put_exprs
decreases-put_exprs l = 8 * l.fuel + 1

abbrev pub decreases-put_actuals : goal.decreases-put_actuals
decreases-put_actuals l = 8 * l.fuel + 1

abbrev pub decreases-put_substring : goal.decreases-put_substring
decreases-put_substring l = 8 * l.fuel + 2

abbrev pub decreases-put_primary : goal.decreases-put_primary
decreases-put_primary l = 8 * l.fuel + 3

abbrev pub decreases-put_factor : goal.decreases-put_factor
decreases-put_factor l = 8 * l.fuel + 4

abbrev pub decreases-put_term : goal.decreases-put_term
decreases-put_term l = 8 * l.fuel + 5

abbrev pub decreases-put_signed : goal.decreases-put_signed
decreases-put_signed l = 8 * l.fuel + 6
