-- The entry stands behind the others.
use Rattle.bas_names.proofs.Putting.{if_ok, put_one}
use Rattle.bas_names.proofs.entry.Table.put.Goals as goal

pub returns : goal.returns
returns c = if_ok c.put_behind.result (λ x h meaning e. put_one c.args.self.now _ c.args.name c.args.entry meaning h e) c.put_behind.ensures
