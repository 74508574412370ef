use Rattle.std.proofs.Common.{map, sym, subst}
use Rattle.bas_ast.specs.UnitTree.{program_tree, unit_tree}
use Rattle.bas_drive.specs.Ending.{RunOf}
use Rattle.bas_drive.proofs.Running.{units_answer}
use Rattle.bas_drive.proofs.run.run_units.Goals as goal

pub returns-in-Some-clause-does : goal.returns-in-Some-clause-does
returns-in-Some-clause-does g c = λ input.
    subst (λ o. RunOf o (g.O.Sink.taken c.args.out.now) (g.O.Sink.taken c.run_program.new.out) c.run_program.result)
    (units_answer c.args.name (map unit_tree c.args.units.now) (program_tree c.in-Some.program.now) c.args.lines input (sym c.in-Some.ensures))
    (c.run_program.ensures.does input)
