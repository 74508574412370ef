use Rattle.bas_dec.proofs.CommonLaws.{order_total, equal_is_same, same_is_equal}
use Rattle.bas_dec.proofs.laws.numbers_are_in_order.Goals as goal

pub returns-clause-total : goal.returns-clause-total
returns-clause-total c = order_total

pub returns-clause-equal : goal.returns-clause-equal
returns-clause-equal c = λ x y h g. (equal_is_same x y h g, same_is_equal x y)
