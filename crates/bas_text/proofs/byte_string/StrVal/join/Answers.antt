use Rattle.std.proofs.Common.{length, ap, arith}
use Rattle.std.proofs.lemmas.Bool.{false≢true}
use Rattle.bas_text.proofs.JoinLaws.{joined_empty}
use Rattle.bas_text.proofs.byte_string.StrVal.join.Goals as goal

pub returns-then-len-gt-MAX_STRING_LEN-clause-empty : goal.returns-then-len-gt-MAX_STRING_LEN-clause-empty
returns-then-len-gt-MAX_STRING_LEN-clause-empty c = λ empty.
    absurd (omega (arith, joined_empty c.args.self.now c.args.b.now empty, ap length c.bytes-front.ensures.same, ap length c.bytes-back.ensures.same))

pub returns-in_err-joined-clause-empty : goal.returns-in_err-joined-clause-empty
returns-in_err-joined-clause-empty c = λ empty.
    absurd (false≢true (c.in_err-joined.ensures.succeeds (omega (arith, joined_empty c.args.self.now c.args.b.now empty, ap length c.bytes-front.ensures.same, ap length c.bytes-back.ensures.same))))
