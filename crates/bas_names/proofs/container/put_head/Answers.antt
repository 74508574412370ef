-- Formals go before the function itself.
use Rattle.std.proofs.Common.{ap, ◌∙◌}
use Rattle.bas_ast.specs.PartTree.{formal_tree}
use Rattle.std.proofs.Common.{map}
use Rattle.bas_scope.specs.Lines.{gathered, own_lines}
use Rattle.bas_scope.specs.Scope.{formal_entry}
use Rattle.bas_names.proofs.Putting.{puts_both, same_entries}
use Rattle.bas_names.proofs.container.put_head.Goals as goal

pub returns : goal.returns
returns c = λ outer block has declares.
    let formals = map formal_tree c.formals_on.result.now in
    puts_both
    (same_entries
    (ap (λ o. gathered (formal_entry o (own_lines block)) formals) has.options ∙ ap (gathered (formal_entry outer.options (own_lines block))) c.formals_on.ensures)
    (c.in_ok-put_formals.ensures (own_lines block) declares))
    (c.in_ok-put_own_function.ensures outer has.procedures)
