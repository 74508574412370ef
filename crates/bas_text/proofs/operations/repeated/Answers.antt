use Rattle.std.proofs.Common.{◌++◌, ap, ◌∙◌, arith}
use Rattle.bas_text.proofs.JoinLaws.{repeat_more}
use Rattle.bas_text.proofs.operations.repeated.Goals as goal

pub loop-preserved : goal.loop-preserved
loop-preserved c = (
  c.in_ok-extend_from_slice.ensures.items ∙ ap (λ more. more ++ c.args.bytes.now) c.loop.invariant.0 ∙ repeat_more c.loop.counter c.args.bytes.now,
  omega (arith, c.in_ok-extend_from_slice.ensures.len, c.loop.invariant.1),
)
