use Rattle.std.proofs.Common.{sym, ◌∙◌}
use Rattle.bas_form.proofs.ByteLaws.{byte_end_found, byte_end_other, byte_end_outside}
use Rattle.bas_form.proofs.scan.byte_end.Goals as goal
use Rattle.bas_form.proofs.scan.byte_end.Goals.{else-at-text-via-then-at-text+else-has, else-at-text-via-else-at-text}

pub returns-then-has-clause-value : goal.returns-then-has-clause-value
returns-then-has-clause-value c = sym (byte_end_found c.args.text.now c.args.class c.args.at c.if-at-text.true (sym c.has.ensures ∙ c.if-has.true))

pub returns-else-at-text-clause-value : goal.returns-else-at-text-clause-value
returns-else-at-text-clause-value c = elim c.else-at-text.branch [
  | else-at-text-via-then-at-text+else-has w ↦ sym (byte_end_other c.args.text.now c.args.class c.args.at w.if-at-text.true (sym w.has.ensures ∙ w.if-has.false))
  | else-at-text-via-else-at-text w ↦ sym (byte_end_outside c.args.text.now c.args.class c.args.at w.if-at-text.false)
]
