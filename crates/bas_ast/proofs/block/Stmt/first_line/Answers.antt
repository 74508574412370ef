use Rattle.std.proofs.Common.{sym, ap, ◌∙◌}
use Rattle.bas_ast.specs.Accessors.{line_of, first_of}
use Rattle.bas_ast.specs.BlockTree.{stmt_tree, sections_tree}
use Rattle.bas_ast.proofs.BlockTrees.{stmt_single, stmt_nest}
use Rattle.bas_ast.proofs.block.Stmt.first_line.Goals as goal

pub returns-in-Single : goal.returns-in-Single
returns-in-Single c = sym (ap line_of (ap stmt_tree c.in-Single.is ∙ stmt_single _))

pub returns-in-Nest : goal.returns-in-Nest
returns-in-Nest c = c.first_line_of.ensures ∙ ap (λ x. first_of (sections_tree x) c.in-Nest.end.line) c.as_slice.ensures ∙ sym (ap line_of (ap stmt_tree c.in-Nest.is ∙ stmt_nest _ _))
