-- A section is its first line and its block.
use Rattle.std.proofs.Common.{sym, ap, ◌∙◌}
use Rattle.bas_ast.specs.BlockTree.{section_tree}
use Rattle.bas_ast.proofs.BlockTrees.{section_out}
use Rattle.bas_scope.specs.Lines.{own_lines}
use Rattle.bas_names.specs.Lent.{line_trees}
use Rattle.bas_names.proofs.Putting.{if_ok, same_lines}
use Rattle.bas_names.proofs.internal.internal_table.Goals as goal

pub returns : goal.returns
returns c =
    let s = c.args.section.now in
    if_ok c.inside_table.result
    (λ table h.
    h (section_tree s) (ap (λ x. x.0.item) (section_out s))
    (same_lines (ap line_trees c.as_slice.ensures.value ∙ c.in_ok-lines.ensures ∙ ap (λ x. own_lines x.1) (sym (section_out s))) c.in_ok-declared.ensures))
    c.inside_table.ensures
