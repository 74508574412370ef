-- A line alone, or the first one of a construct.
use Rattle.std.proofs.Common.{sym, ap, ◌∙◌}
use Rattle.bas_ast.specs.BlockTree.{line_tree, stmt_tree, sections_tree}
use Rattle.bas_ast.specs.Tree.{Nest}
use Rattle.bas_ast.proofs.BlockTrees.{stmt_single, stmt_nest}
use Rattle.bas_rules.specs.Sites.{counted_stmt}
use Rattle.bas_reach.proofs.lines.counted_stmt.Goals as goal

pub returns-in-Single : goal.returns-in-Single
returns-in-Single c = c.counted_line.ensures ∙ sym (ap counted_stmt (ap stmt_tree c.in-Single.is ∙ stmt_single c.in-Single.line))

pub returns-in-Nest : goal.returns-in-Nest
returns-in-Nest c =
    c.counted_first.ensures
    ∙ ap (λ x. counted_stmt (Nest (sections_tree x) (line_tree c.in-Nest.end))) c.as_slice.ensures
    ∙ sym (ap counted_stmt (ap stmt_tree c.in-Nest.is ∙ stmt_nest c.in-Nest.sections c.in-Nest.end))
