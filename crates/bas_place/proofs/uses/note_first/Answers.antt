-- The first section tells whether a construct is an internal procedure.
use Rattle.std.proofs.Common.{sym, ◌∙◌}
use Rattle.bas_place.proofs.Inners.{gains_first, gains_no_first}
use Rattle.bas_place.proofs.uses.note_first.Goals as goal

pub returns-in_ok-note_procedure : goal.returns-in_ok-note_procedure
returns-in_ok-note_procedure c = λ outer entries close s.
    gains_first outer entries c.args.sections.now c.in-Some.section.now close c.args.uses.now c.note_procedure.new.uses
    (sym c.in-Some.ensures.value) (sym c.opens_procedure.ensures ∙ c.if-opens_procedure.true) (c.in_ok-note_procedure.ensures outer entries s)

pub returns-else-opens_procedure : goal.returns-else-opens_procedure
returns-else-opens_procedure c = λ outer entries close s.
    gains_no_first outer entries c.args.sections.now c.in-Some.section.now close c.args.uses.now
    (sym c.in-Some.ensures.value) (sym c.opens_procedure.ensures ∙ c.if-opens_procedure.false)
