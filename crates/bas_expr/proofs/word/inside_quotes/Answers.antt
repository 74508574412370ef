use Rattle.std.proofs.Common.{◌≡◌, ◌+◌, suc, sym, ◌∙◌, append_assoc, append-nil, arith}
use Rattle.bas_expr.proofs.QuoteLaws.{quote_pair, quote_end}
use Rattle.bas_expr.proofs.word.inside_quotes.Goals as goal

pub bytes-preserved-then-text-at-eq34 : goal.bytes-preserved-then-text-at-eq34
bytes-preserved-then-text-at-eq34 c =
    let inside = c.bytes-test.true in
    let e = quote_pair c.args.text.now c.bytes.at (omega arith) c.if-text-at-eq34.true in
    let two : c.bytes.at + 2 ≡ suc (suc c.bytes.at) = omega arith in
    rw (c.in_ok-push.ensures.items, append_assoc, two, ← e) c.bytes.invariant

pub returns : goal.returns
returns c =
    let stop = c.bytes-test.false in
    let e = quote_end c.args.text.now c.bytes.at (omega arith) in
    let i = rw e at c.bytes.invariant in
    sym (append-nil c.bytes.bytes.items) ∙ i
