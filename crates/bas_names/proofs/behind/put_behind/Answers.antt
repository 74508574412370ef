-- The name had no value.
use Rattle.std.proofs.Common.{sym, ◌∙◌}
use Rattle.bas_names.proofs.Putting.{put_behind}
use Rattle.bas_names.proofs.behind.put_behind.Goals as goal

pub returns-in_ok-insert : goal.returns-in_ok-insert
returns-in_ok-insert g c = put_behind c.args.map.now c.insert.new.self c.args.name c.args.value (sym c.contains_key.ensures ∙ c.if-not-contains_key.true) c.in_ok-insert.ensures.updates
