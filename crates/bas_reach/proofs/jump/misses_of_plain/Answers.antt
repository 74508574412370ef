-- What is no GOTO may go where IF MISSING or IF THERE says.
use Rattle.std.proofs.Common.{sym, ap, ◌∙◌}
use Rattle.std.specs.Option.{option_to_list}
use Rattle.bas_scope.specs.Lines.{gathered}
use Rattle.bas_rules.specs.Jumping.{line_of_then}
use Rattle.bas_reach.specs.Placing.{misses}
use Rattle.bas_reach.specs.Standing.{around_of}
use Rattle.bas_reach.proofs.Misses.{goes_by_miss}
use Rattle.bas_reach.proofs.jump.misses_of_plain.Goals as goal

pub returns-in_default : goal.returns-in_default
returns-in_default c =
    let reach = (around_of c.args.around.now).reach in
    c.misses_then.ensures
    ∙ ap (λ m. misses reach (gathered (λ m. line_of_then m.goes) (option_to_list m))) c.miss_of.ensures
    ∙ ap (misses reach) (sym (goes_by_miss c.args.plain.now c.in_default.not-Goto))
