-- The first section, where there is one.
use Rattle.std.proofs.Common.{sym, ap, ◌∙◌}
use Rattle.bas_ast.proofs.BlockTrees.{section_out}
use Rattle.bas_rules.specs.Sites.{counted_line}
use Rattle.bas_reach.proofs.Counting.{first_counts, none_counts}
use Rattle.bas_reach.proofs.lines.counted_first.Goals as goal

pub returns-in-Some : goal.returns-in-Some
returns-in-Some c = c.counted_line.ensures ∙ ap (λ x. counted_line x.0) (sym (section_out c.in-Some.section.now)) ∙ sym (first_counts c.args.sections.now c.in-Some.section.now _ (sym c.in-Some.ensures.value))

pub returns-in-None : goal.returns-in-None
returns-in-None c = sym (none_counts c.args.sections.now _ (sym c.in-None.ensures.value))
