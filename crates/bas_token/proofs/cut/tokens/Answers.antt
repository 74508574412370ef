use Rattle.std.proofs.Common.{◌≡◌, ◌<◌, length, inl, sym, ap, ◌∙◌, subst, arith}
use Rattle.bas_token.specs.declared.token.TokenFault.TheVariants.{BadToken}
use Rattle.bas_form.specs.declared.byte_class.ByteClass.TheVariants.{Space}
use Rattle.bas_form.specs.Bytes as bytes
use Rattle.bas_token.specs.Tokens.{IsBadByte}
use Rattle.bas_token.proofs.CutLaws.{read_on, whole_found, whole_only, bad_found, bad_only}
use Rattle.bas_token.proofs.cut.tokens.Goals as goal

pub loop-token-preserved : goal.loop-token-preserved
loop-token-preserved c =
    record {
      within = c.in-Some.ensures.within;
      read = rw c.in_ok-push.ensures.items (read_on c.args.line.now c.loop-token.found.items c.loop-token.at c.in-Some.token c.loop-token.invariant.read (sym c.in-Some.ensures.value));
    }

pub returns-then-end-line-clause-found : goal.returns-then-end-line-clause-found
returns-then-end-line-clause-found c =
    whole_found c.args.line.now c.loop-token.found.items c.loop-token.at c.loop-token.invariant.read (sym c.next_token.ensures.value ∙ c.in_default.is)
    (sym c.past-end.ensures.value ∙ c.if-end-line.true)

pub returns-then-end-line-clause-only : goal.returns-then-end-line-clause-only
returns-then-end-line-clause-only c tokens are =
    (whole_only c.args.line.now c.loop-token.found.items c.loop-token.at c.loop-token.invariant.read (sym c.next_token.ensures.value ∙ c.in_default.is) tokens are).0

pub returns-then-end-line-clause-bad_only : goal.returns-then-end-line-clause-bad_only
returns-then-end-line-clause-bad_only c at bad =
    let there = bad_only c.args.line.now c.loop-token.found.items c.loop-token.at c.loop-token.invariant.read (sym c.next_token.ensures.value ∙ c.in_default.is) at bad in
    let whole = sym c.past-end.ensures.value ∙ c.if-end-line.true in
    let inside = bad.inside in
    omega arith

pub returns-else-end-line-clause-only : goal.returns-else-end-line-clause-only
returns-else-end-line-clause-only c tokens are =
    let whole =
    c.past-end.ensures.value
    ∙ (whole_only c.args.line.now c.loop-token.found.items c.loop-token.at c.loop-token.invariant.read (sym c.next_token.ensures.value ∙ c.in_default.is) tokens are).1 in
    absurd (c.if-end-line.false whole)

pub returns-else-end-line-clause-bad : goal.returns-else-end-line-clause-bad
returns-else-end-line-clause-bad c at e =
    let same : c.past-end.result ≡ at = cc in
    let there = c.past-end.ensures.value in
    let within = c.past-end.ensures.within in
    let inside : bytes.past c.args.line.now Space c.loop-token.at < length c.args.line.now = omega arith in
    subst (IsBadByte c.args.line.now) (sym c.past-end.ensures.value ∙ same)
    (bad_found c.args.line.now c.loop-token.found.items c.loop-token.at c.loop-token.invariant.read (sym c.next_token.ensures.value ∙ c.in_default.is) inside)

pub returns-else-end-line-clause-bad_only : goal.returns-else-end-line-clause-bad_only
returns-else-end-line-clause-bad_only c at bad =
    inl (ap BadToken (c.past-end.ensures.value ∙ bad_only c.args.line.now c.loop-token.found.items c.loop-token.at c.loop-token.invariant.read (sym c.next_token.ensures.value ∙ c.in_default.is) at bad))
