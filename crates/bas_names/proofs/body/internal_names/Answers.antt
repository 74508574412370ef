-- The procedure's table is looked up before that of its container.
use Rattle.bas_names.proofs.Bodies.{internal_senses}
use Rattle.bas_names.proofs.body.internal_names.Goals as goal

pub returns : goal.returns
returns c = λ outer entries procedure home has before inside. internal_senses c.args.unit c.args.container c.args.inner outer entries procedure home has before inside
