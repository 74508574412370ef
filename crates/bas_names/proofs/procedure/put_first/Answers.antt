-- The first section tells whether a construct is an internal procedure.
use Rattle.std.proofs.Common.{sym, ◌∙◌}
use Rattle.bas_names.specs.Tables.{options_told}
use Rattle.bas_names.proofs.Internals.{first_put, first_not_put}
use Rattle.bas_names.proofs.procedure.put_first.Goals as goal

pub returns-in_ok-put_with_block : goal.returns-in_ok-put_with_block
returns-in_ok-put_with_block c = λ home close.
    first_put (options_told c.args.options) home c.args.sections.now c.in-Some.section.now close c.args.table.now c.put_with_block.new.table
    (sym c.in-Some.ensures.value) (sym c.opens_procedure.ensures ∙ c.if-opens_procedure.true) (c.in_ok-put_with_block.ensures home)

pub returns-else-opens_procedure : goal.returns-else-opens_procedure
returns-else-opens_procedure c = λ home close.
    first_not_put (options_told c.args.options) home c.args.sections.now c.in-Some.section.now close c.args.table.now
    (sym c.in-Some.ensures.value) (sym c.opens_procedure.ensures ∙ c.if-opens_procedure.false)
