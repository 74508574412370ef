use Rattle.bas_dec.proofs.CommonLaws.{product_turned}
use Rattle.bas_dec.proofs.laws.products_commute.Goals as goal

pub returns : goal.returns
returns c = product_turned
