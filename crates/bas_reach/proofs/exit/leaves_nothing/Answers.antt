-- What is no EXIT may leave a loop where IF MISSING or IF THERE says so.
use Rattle.std.proofs.Common.{[], ◌∷◌, sym, ap, ◌∙◌}
use Rattle.std.specs.List.{list_any}
use Rattle.std.specs.Option.{option_to_list}
use Rattle.bas_scope.specs.Lines.{gathered}
use Rattle.bas_rules.specs.Jumping.{miss_leaves_nothing}
use Rattle.bas_reach.proofs.Misses.{leaves_by_miss}
use Rattle.bas_reach.proofs.exit.leaves_nothing.Goals as goal

pub returns-in_default : goal.returns-in_default
returns-in_default c = λ x tells first.
    c.miss_leaves_nothing.ensures x tells
    ∙ ap (λ m. list_any (miss_leaves_nothing x) (gathered (λ m. m.goes ∷ []) (option_to_list m))) c.miss_of.ensures
    ∙ sym (leaves_by_miss x c.args.plain.now c.in_default.not-ExitDo c.in_default.not-ExitFor c.in_default.not-ExitSub c.in_default.not-ExitFunction)
