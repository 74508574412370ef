use Rattle.std.proofs.Common.{◌+◌, ◌*◌}
use Rattle.bas_test_reader.proofs.expr.+put_cond.Given as goal

abbrev pub decreases-put_test : goal.decreases-put_test
decreases-put_test l = 4 * l.fuel + 0

abbrev pub decreases-put_conj : goal.decreases-put_conj
decreases-put_conj l = 4 * l.fuel + 1

abbrev pub decreases-put_cond : goal.decreases-put_cond
decreases-put_cond l = 4 * l.fuel + 2
