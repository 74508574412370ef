use Rattle.bas_ast.specs.UnitTree.{program_tree}
use Rattle.bas_drive.proofs.Running.{runs}
use Rattle.bas_drive.proofs.run.run_program.Goals as goal

pub returns-in-Ok-clause-does : goal.returns-in-Ok-clause-does
returns-in-Ok-clause-does g c =
    runs (program_tree c.args.program.now) c.args.lines _ _ c.in-Ok.turn c.turn_ending.result c.sound_program_is_not_lost.ensures c.requires c.in-Ok.ensures.within c.in-Ok.ensures.means c.in-Ok.ensures.whole c.turn_ending.ensures
