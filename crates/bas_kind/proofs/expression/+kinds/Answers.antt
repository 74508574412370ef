-- An expression has the kind of its last operator, or of the operand that it is.
use Rattle.std.proofs.Common.{sym, ap, ◌∙◌}
use Rattle.std.specs.Option.{option_copied}
use Rattle.bas_kind.proofs.Operators.{by_operator, by_sign, by_term}
use Rattle.bas_kind.proofs.expression.+kinds.Goals as goal

pub is_number-returns-in-Some : goal.is_number-returns-in-Some
is_number-returns-in-Some t c = c.is_numeric_sign.ensures ∙ by_operator c.args.expr.now c.as_slice.result.now c.in-Some.field-0.now c.as_slice.ensures (sym (ap option_copied c.in-Some.is) ∙ c.last.ensures.value)

pub is_number-returns-then-is_some : goal.is_number-returns-then-is_some
is_number-returns-then-is_some t c = c.if-is_some.true ∙ by_sign c.args.expr.now c.as_slice.result.now c.as_slice.ensures (sym (ap option_copied c.in-None.is) ∙ c.last.ensures.value) (sym c.is_some.ensures ∙ c.if-is_some.true)

pub is_number-returns-else-is_some : goal.is_number-returns-else-is_some
is_number-returns-else-is_some t c = rw (← c.get.ensures) c.is_numeric_term.ensures ∙ by_term c.args.expr.now c.as_slice.result.now c.as_slice.ensures (sym (ap option_copied c.in-None.is) ∙ c.last.ensures.value) (sym c.is_some.ensures ∙ c.if-is_some.false)
