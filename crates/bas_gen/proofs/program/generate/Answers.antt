-- The slots, the code and the lines are those of the program.
use Rattle.std.proofs.Common.{refl, ◌∙◌}
use Rattle.bas_ast.specs.UnitTree.{program_tree}
use Rattle.bas_genexpr.specs.Numbering.{variables}
use Rattle.bas_gen.specs.Addresses.{address_at}
use Rattle.bas_gen.specs.Layouts.{labels_of}
use Rattle.bas_gen.proofs.MadeBodies.{slots_counted, same_addresses, code_made}
use Rattle.bas_gen.proofs.program.generate.Goals as goal

pub returns-clause-made : goal.returns-clause-made
returns-clause-made c = λ sound.
    let p = program_tree c.args.program.now in
    let laid = c.in_ok-layout.ensures in
    let written = c.in_ok-output.ensures laid.sizes laid.within sound.closes in
    record {
      unit = refl;
      slots = slots_counted p c.in_ok-slots.slots c.count-count.result c.in_ok-slots.ensures c.count-count.ensures.same;
      code = c.into_seq.ensures ∙ code_made p (variables c.in_ok-slots.slots) (address_at c.in_ok-targets.targets) c.in_ok-output.output.code c.in_ok-slots.ensures (same_addresses p (labels_of c.in_ok-layout.layout.labels.items) (address_at c.in_ok-targets.targets) laid.labels c.in_ok-targets.ensures) written.0;
      lines = c.of.ensures ∙ written.1;
      guards = c.of-2.ensures ∙ c.new.ensures.items;
    }
