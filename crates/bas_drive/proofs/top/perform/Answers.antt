use Rattle.std.proofs.Common.{ℕ, List, IfSome, subst}
use Rattle.bas_drive.specs.Answer.{command_answer}
use Rattle.bas_drive.specs.Ending.{RunOf}
use Rattle.bas_drive.proofs.top.perform.Goals as goal

pub returns-in-Some-clause-does : goal.returns-in-Some-clause-does
returns-in-Some-clause-does g c =
    subst (λ o. IfSome (g.S.Store.files c.args.store.now) (λ files. (input : List ℕ) → RunOf (command_answer o files input) (g.O.Sink.taken c.args.out.now) (g.O.Sink.taken c.run_command.new.out) c.run_command.result))
    c.in-Some.ensures.value c.run_command.ensures.does
