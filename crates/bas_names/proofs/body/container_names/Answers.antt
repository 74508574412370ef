-- The container's table is looked up before the variables of the module.
use Rattle.bas_names.proofs.Bodies.{container_senses}
use Rattle.bas_names.proofs.body.container_names.Goals as goal

pub returns : goal.returns
returns c = λ outer entries home has before. container_senses c.args.unit c.args.container outer entries home has before
