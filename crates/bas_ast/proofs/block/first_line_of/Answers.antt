use Rattle.std.proofs.Common.{sym, ap, ◌∙◌}
use Rattle.bas_ast.proofs.BlockTrees.{section_out}
use Rattle.bas_ast.proofs.FirstLine.{first_is}
use Rattle.bas_ast.proofs.block.first_line_of.Goals as goal

pub returns-in-Some : goal.returns-in-Some
returns-in-Some c = ap (λ x. x.0.line) (sym (section_out c.in-Some.section.now)) ∙ sym (first_is c.args.sections.now c.in-Some.section.now _ (sym c.in-Some.ensures.value))
