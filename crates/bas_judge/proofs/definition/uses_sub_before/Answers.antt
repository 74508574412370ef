-- The names are those of the one line.
use Rattle.std.proofs.Common.{ap, ◌∙◌}
use Rattle.std.specs.List.{list_any}
use Rattle.bas_names.specs.Names.{senses_in}
use Rattle.bas_judge.specs.Clashes.{is_sub_before}
use Rattle.bas_judge.proofs.definition.uses_sub_before.Goals as goal

pub returns : goal.returns
returns c =
    c.is_any_sub_before.ensures
    ∙ ap (list_any (is_sub_before (senses_in c.args.names.now) c.args.first.now c.args.line)) (c.as_slice.ensures.value ∙ c.in_ok-used.ensures)
