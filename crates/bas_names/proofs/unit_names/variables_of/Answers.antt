-- Those of PUBLIC are put before those of SHARE.
use Rattle.std.proofs.Common.{ap, ◌∙◌}
use Rattle.bas_ast.specs.Tree as t
use Rattle.bas_scope.specs.Bodies.{public_on, shared_on}
use Rattle.bas_scope.specs.Lines.{gathered}
use Rattle.bas_names.specs.Lent.{line_trees}
use Rattle.bas_names.specs.Tables.{options_told}
use Rattle.bas_names.proofs.Putting.{puts_has, puts_both, same_entries}
use Rattle.bas_names.proofs.unit_names.variables_of.Goals as goal

pub returns : goal.returns
returns c =
    let o = options_told c.args.options in
    puts_has c.new-table.result c.put_shared.new.table _ c.new-table.ensures
    (puts_both
    (same_entries (ap (gathered (λ (line : t.NumLine). public_on o line.item)) (ap line_trees c.as_slice.ensures.value ∙ c.in_ok-lines.ensures)) c.in_ok-put_publics.ensures)
    (same_entries (ap (gathered (λ (line : t.NumLine). shared_on o line.item)) (ap line_trees c.as_slice-2.ensures.value ∙ c.in_ok-lines.ensures)) c.in_ok-put_shared.ensures))
