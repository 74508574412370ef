use Rattle.std.proofs.Common.{◌+◌, ◌-◌, ◌*◌, length}
use Rattle.bas_form.specs.Reader.{IsAsFar}
use Rattle.bas_expr.specs.Reading as reading
use Rattle.bas_expr.proofs.LoopLaws.{HasListed}
use Rattle.bas_expr.proofs.expression.+longest_expr.Given as goal

abbrev pub decreases-longest_expr : goal.decreases-longest_expr
decreases-longest_expr l = 32 * l.depth + 0

abbrev pub decreases-group : goal.decreases-group
decreases-group l = 32 * l.depth + 1

abbrev pub decreases-actual : goal.decreases-actual
decreases-actual l = 32 * l.depth + 1

abbrev pub decreases-next_actual : goal.decreases-next_actual
decreases-next_actual l = 32 * l.depth + 2

abbrev pub decreases-more_actuals : goal.decreases-more_actuals
decreases-more_actuals l = 32 * l.depth + 3

abbrev pub decreases-list_from : goal.decreases-list_from
decreases-list_from l = 32 * l.depth + 4

abbrev pub decreases-range_from : goal.decreases-range_from
decreases-range_from l = 32 * l.depth + 1

abbrev pub decreases-after_opening : goal.decreases-after_opening
decreases-after_opening l = 32 * l.depth + 5

abbrev pub decreases-bracket : goal.decreases-bracket
decreases-bracket l = 32 * l.depth + 6

abbrev pub decreases-after_list : goal.decreases-after_list
decreases-after_list l = 32 * l.depth + 7

abbrev pub decreases-named : goal.decreases-named
decreases-named l = 32 * l.depth + 8

abbrev pub decreases-primary : goal.decreases-primary
decreases-primary l = 32 * l.depth + 9

abbrev pub decreases-next_primary : goal.decreases-next_primary
decreases-next_primary l = 32 * l.depth + 10

abbrev pub decreases-exponents : goal.decreases-exponents
decreases-exponents l = 32 * l.depth + 11

abbrev pub decreases-factor : goal.decreases-factor
decreases-factor l = 32 * l.depth + 12

abbrev pub decreases-next_factor : goal.decreases-next_factor
decreases-next_factor l = 32 * l.depth + 13

abbrev pub decreases-factors : goal.decreases-factors
decreases-factors l = 32 * l.depth + 14

abbrev pub decreases-term : goal.decreases-term
decreases-term l = 32 * l.depth + 15

abbrev pub decreases-next_term : goal.decreases-next_term
decreases-next_term l = 32 * l.depth + 16

abbrev pub decreases-terms : goal.decreases-terms
decreases-terms l = 32 * l.depth + 17

abbrev pub decreases-sum : goal.decreases-sum
decreases-sum l = 32 * l.depth + 18

abbrev pub invariant-exponents-more : goal.invariant-exponents-more
invariant-exponents-more l = IsAsFar (reading.next_primary l.line (reading.expr l.line l.depth)) (length l.line) l.initial.at l.more l.at

abbrev pub decreases-exponents-more : goal.decreases-exponents-more
decreases-exponents-more l = length l.line - l.at

abbrev pub invariant-factors-more : goal.invariant-factors-more
invariant-factors-more l = IsAsFar (reading.next_factor l.line (reading.expr l.line l.depth)) (length l.line) l.initial.at l.more l.at

abbrev pub decreases-factors-more : goal.decreases-factors-more
decreases-factors-more l = length l.line - l.at

abbrev pub invariant-terms-more : goal.invariant-terms-more
invariant-terms-more l = IsAsFar (reading.next_term l.line (reading.expr l.line l.depth)) (length l.line) l.initial.at l.more l.at

abbrev pub decreases-terms-more : goal.decreases-terms-more
decreases-terms-more l = length l.line - l.at

abbrev pub invariant-more_actuals-more : goal.invariant-more_actuals-more
invariant-more_actuals-more l = HasListed (reading.next_actual l.line (reading.expr l.line l.depth)) (length l.line) l.fn.first l.fn.at l.all.items l.at

abbrev pub decreases-more_actuals-more : goal.decreases-more_actuals-more
decreases-more_actuals-more l = length l.line - l.at
