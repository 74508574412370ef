use Rattle.std.proofs.Common.{ap, sym, ◌∙◌, map}
use Rattle.bas_ast.specs.BlockTree.{line_tree, section_tree}
use Rattle.bas_ast.proofs.BlockTrees.{section_out}
use Rattle.bas_nest.specs.Reading.{opener}
use Rattle.bas_nest.proofs.Trees.{opener_of}
use Rattle.bas_nest.proofs.reader.opener.Goals as goal

pub returns-in-Some : goal.returns-in-Some
returns-in-Some c =
    ap (λ x. x.0.line) (sym (section_out c.in-Some.section.now))
    ∙ opener_of c.as_slice.result.now c.in-Some.section.now (line_tree c.args.level.now.head) (sym c.in-Some.ensures.value)
    ∙ ap (λ xs. opener (map section_tree xs) (line_tree c.args.level.now.head)) c.as_slice.ensures
