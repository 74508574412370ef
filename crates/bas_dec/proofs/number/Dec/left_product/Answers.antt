use Rattle.std.proofs.Common.{◌≡◌, ◌∙◌, ◌+◌, sym, arith, rules, Err}
use Rattle.bas_dec.specs.Power.{left_product as left_product_of}
use Rattle.bas_dec.proofs.Products.{one_product_more, product_fault}
use Rattle.bas_dec.proofs.number.Dec.left_product.Goals as goal

pub returns-in_err-power : goal.returns-in_err-power
returns-in_err-power c =
    let fault : left_product_of c.args.self c.args.n ≡ Err c.in_err-power.field-0.0 =
    product_fault c.args.self (c.loop.counter + 1) c.args.n c.in_err-power.field-0.0 (omega arith)
    (one_product_more c.args.self c.loop.power c.loop.counter c.loop.invariant ∙ sym c.in_err-power.ensures) in
    rw fault (search rules)
