use Rattle.std.proofs.Common.{◌+◌, ◌-◌, ◌*◌, length}
use Rattle.bas_form.specs.Reader.{IsAsFar}
use Rattle.bas_expr.specs.Reading.{expr}
use Rattle.bas_expr.specs.Testing as testing
use Rattle.bas_expr.proofs.condition.+longest_cond.Given as goal

abbrev pub decreases-longest_cond : goal.decreases-longest_cond
decreases-longest_cond l = 4200 * l.depth + 0

abbrev pub decreases-group : goal.decreases-group
decreases-group l = 4200 * l.depth + 1

abbrev pub decreases-test : goal.decreases-test
decreases-test l = 4200 * l.depth + (2 + l.nots)

abbrev pub decreases-next_test : goal.decreases-next_test
decreases-next_test l = 4200 * l.depth + 4099

abbrev pub decreases-tests : goal.decreases-tests
decreases-tests l = 4200 * l.depth + 4100

abbrev pub decreases-conj : goal.decreases-conj
decreases-conj l = 4200 * l.depth + 4101

abbrev pub decreases-next_conj : goal.decreases-next_conj
decreases-next_conj l = 4200 * l.depth + 4102

abbrev pub decreases-conjs : goal.decreases-conjs
decreases-conjs l = 4200 * l.depth + 4103

abbrev pub decreases-alternative : goal.decreases-alternative
decreases-alternative l = 4200 * l.depth + 4104

abbrev pub invariant-tests-more : goal.invariant-tests-more
invariant-tests-more l = IsAsFar (testing.next_test l.line (expr l.line (l.depth + 1)) (testing.cond l.line l.depth) (length l.line)) (length l.line) l.initial.at l.more l.at

abbrev pub decreases-tests-more : goal.decreases-tests-more
decreases-tests-more l = length l.line - l.at

abbrev pub invariant-conjs-more : goal.invariant-conjs-more
invariant-conjs-more l = IsAsFar (testing.next_conj l.line (expr l.line (l.depth + 1)) (testing.cond l.line l.depth) (length l.line)) (length l.line) l.initial.at l.more l.at

abbrev pub decreases-conjs-more : goal.decreases-conjs-more
decreases-conjs-more l = length l.line - l.at
