use Rattle.std.proofs.Common.{◌≡◌, ◌+◌, ◌-◌, length, drop, sym, ap, subst, ◌∙◌, arith, rules}
use Rattle.std.proofs.lemmas.List.{take_rest}
use Rattle.memchr.specs.Find.{FindsNeedle}
use Rattle.bas_text.specs.Strings.{natural}
use Rattle.bas_text.proofs.PlaceLaws.{position_past, position_none, position_some}
use Rattle.bas_text.proofs.byte_string.StrVal.position.Goals as goal

pub returns-then-start-text : goal.returns-then-start-text
returns-then-start-text c =
    let from : c.natural.result ≡ natural c.args.from = search rules in
    sym (position_past c.args.self.now c.args.b.now c.args.from (omega (arith, ap length c.bytes-text.ensures.same)))

pub returns-in-Some : goal.returns-in-Some
returns-in-Some c =
    let from : c.natural.result ≡ natural c.args.from = search rules in
    let start : c.saturating_sub-start.result ≡ natural c.args.from - 1 = c.saturating_sub-start.ensures ∙ ap (λ n. n - 1) from in
    let hay = take_rest c.bytes-text.result.now c.saturating_sub-start.result ∙ (ap (λ t. drop c.saturating_sub-start.result t) c.bytes-text.ensures.same ∙ ap (λ n. drop n c.args.self.now) start) in
    let found = subst (λ t. FindsNeedle t c.bytes.result.now 0 c.find.result) hay c.find.ensures in
    let needle = subst (λ b. FindsNeedle (drop (natural c.args.from - 1) c.args.self.now) b 0 c.find.result) c.bytes.ensures.same found in
    ap (λ n. n + c.in-Some.at + 1) start
    ∙ sym (position_some c.args.self.now c.args.b.now c.args.from c.in-Some.at (omega (arith, ap length c.bytes-text.ensures.same))
    (subst (λ r. FindsNeedle (drop (natural c.args.from - 1) c.args.self.now) c.args.b.now 0 r) c.in-Some.is needle))

pub returns-in-None : goal.returns-in-None
returns-in-None c =
    let from : c.natural.result ≡ natural c.args.from = search rules in
    let start : c.saturating_sub-start.result ≡ natural c.args.from - 1 = c.saturating_sub-start.ensures ∙ ap (λ n. n - 1) from in
    let hay = take_rest c.bytes-text.result.now c.saturating_sub-start.result ∙ (ap (λ t. drop c.saturating_sub-start.result t) c.bytes-text.ensures.same ∙ ap (λ n. drop n c.args.self.now) start) in
    let found = subst (λ t. FindsNeedle t c.bytes.result.now 0 c.find.result) hay c.find.ensures in
    let needle = subst (λ b. FindsNeedle (drop (natural c.args.from - 1) c.args.self.now) b 0 c.find.result) c.bytes.ensures.same found in
    sym (position_none c.args.self.now c.args.b.now c.args.from (omega (arith, ap length c.bytes-text.ensures.same))
    (subst (λ r. FindsNeedle (drop (natural c.args.from - 1) c.args.self.now) c.args.b.now 0 r) c.in-None.is needle))
