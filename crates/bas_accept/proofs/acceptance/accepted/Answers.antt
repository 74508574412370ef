-- What is answered is accepted, and what is refused is not.
use Rattle.std.proofs.Common.{map}
use Rattle.bas_ast.specs.UnitTree.{unit_tree}
use Rattle.bas_accept.proofs.Accepting.{is_accepted, none_accepted}
use Rattle.bas_accept.proofs.acceptance.accepted.Goals as goal

pub returns-in-Ok-clause-found : goal.returns-in-Ok-clause-found
returns-in-Ok-clause-found c = is_accepted c.args.file.now (map unit_tree c.in-Ok.units.items) c.in-Ok.ensures.value

pub returns-in-Err-clause-none : goal.returns-in-Err-clause-none
returns-in-Err-clause-none c r units e h = none_accepted c.args.file.now r units (c.in-Err.ensures.refused r e) h
