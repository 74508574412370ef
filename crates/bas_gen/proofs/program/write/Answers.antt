-- The block, and the END line.
use Rattle.std.proofs.Common.{refl, ◌∙◌}
use Rattle.bas_ast.specs.UnitTree.{program_tree}
use Rattle.bas_genexpr.specs.Numbering.{variables}
use Rattle.bas_gen.specs.Addresses.{address_at}
use Rattle.bas_gen.proofs.MakingPrograms.{program_made}
use Rattle.bas_gen.proofs.program.write.Goals as goal

pub returns : goal.returns
returns c = λ hs hw he.
    program_made (variables c.args.slots.now) (address_at c.args.targets.now) (program_tree c.args.program.now) (record { code = c.new.result; lines = c.new-2.result; sizes = c.of.result }) c.emit_block.new.output (record { code = c.put_closing.new.code; lines = c.emit_block.new.output.lines; sizes = c.emit_block.new.output.sizes }) c.enter_closing.new.output c.put_closing.new.code c.len-from.result
    c.new.ensures c.new-2.ensures.items (c.of.ensures ∙ hs) c.in_ok-emit_block.ensures c.len-from.ensures c.in_ok-put_closing.ensures refl refl c.in_ok-enter_closing.ensures hw he
