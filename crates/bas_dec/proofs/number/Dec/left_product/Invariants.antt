use Rattle.std.proofs.Common.{◌≡◌, Ok}
use Rattle.bas_dec.specs.Power.{left_product as left_product_of}
use Rattle.bas_dec.proofs.number.Dec.left_product.Given as goal

abbrev pub invariant-loop : goal.invariant-loop
invariant-loop l = Ok l.power ≡ left_product_of l.self l.counter
