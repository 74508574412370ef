use Rattle.std.proofs.Common.{◌≡◌, ◌<◌, ◌≤◌, length, refl, sym, ap, subst, ◌∙◌, arith, rules}
use Rattle.std.proofs.lemmas.Bool.{false≢true}
use Rattle.std.proofs.lemmas.Bool.Decides.{nat_tests}
use Rattle.bas_text.specs.Strings.{repeat}
use Rattle.bas_text.specs.declared.byte_string.TheConstants.{MAX_STRING_LEN}
use Rattle.bas_text.proofs.JoinLaws.{repeat_empty, repeat_past, repeat_within, length-repeat}
use Rattle.bas_text.proofs.byte_string.StrVal.repeat.Goals as goal

pub returns-then-is_empty-clause-same : goal.returns-then-is_empty-clause-same
returns-then-is_empty-clause-same c =
    let zero : length c.bytes-bytes.result.now ≡ 0 = grind (arith, nat_tests) in
    c.holding.ensures ∙ c.new.ensures.items ∙ sym (repeat_empty c.args.n c.args.self.now (sym (ap length c.bytes-bytes.ensures.same) ∙ zero))

pub returns-then-is_empty-clause-too_long : goal.returns-then-is_empty-clause-too_long
returns-then-is_empty-clause-too_long c =
    let zero : length c.bytes-bytes.result.now ≡ 0 = grind (arith, nat_tests) in
    (λ h. absurd (cc), λ long. absurd (omega (arith, ap length (repeat_empty c.args.n c.args.self.now (sym (ap length c.bytes-bytes.ensures.same) ∙ zero)))))

pub returns-then-n-bytes-clause-too_long : goal.returns-then-n-bytes-clause-too_long
returns-then-n-bytes-clause-too_long c =
    let some : 0 < length c.bytes-bytes.result.now = grind (arith, nat_tests) in
    let past = repeat_past c.args.n MAX_STRING_LEN c.bytes-bytes.result.now some c.if-n-bytes.true in
    (λ _. subst (λ t. MAX_STRING_LEN < length (repeat c.args.n t)) c.bytes-bytes.ensures.same past, λ _. refl)

pub returns-then-n-bytes-clause-empty : goal.returns-then-n-bytes-clause-empty
returns-then-n-bytes-clause-empty c = λ empty.
    let some : 0 < length c.bytes-bytes.result.now = grind (arith, nat_tests) in
    let past = repeat_past c.args.n MAX_STRING_LEN c.bytes-bytes.result.now some c.if-n-bytes.true in
    absurd (omega (arith, past, ap (λ t. length (repeat c.args.n t)) c.bytes-bytes.ensures.same, ap length empty))

pub returns-in_err-repeated-clause-too_long : goal.returns-in_err-repeated-clause-too_long
returns-in_err-repeated-clause-too_long c =
    let some : 0 < length c.bytes-bytes.result.now = grind (arith, nat_tests) in
    let within = repeat_within c.args.n MAX_STRING_LEN c.bytes-bytes.result.now some c.if-n-bytes.false in
    let short : length (repeat c.args.n c.args.self.now) ≤ MAX_STRING_LEN = subst (λ t. length (repeat c.args.n t) ≤ MAX_STRING_LEN) c.bytes-bytes.ensures.same within in
    (search rules, λ long. absurd (omega arith))

pub returns-in_err-repeated-clause-empty : goal.returns-in_err-repeated-clause-empty
returns-in_err-repeated-clause-empty c = λ empty.
    absurd (false≢true (c.in_err-repeated.ensures.empty (sym (length-repeat c.args.n c.bytes-bytes.result.now) ∙ ap (λ t. length (repeat c.args.n t)) c.bytes-bytes.ensures.same ∙ ap length empty)))

pub holding-requires-2 : goal.holding-requires-2
holding-requires-2 c =
    let some : 0 < length c.bytes-bytes.result.now = grind (arith, nat_tests) in
    let within = repeat_within c.args.n MAX_STRING_LEN c.bytes-bytes.result.now some c.if-n-bytes.false in
    subst (λ t. length t ≤ MAX_STRING_LEN) (sym c.in_ok-repeated.ensures.same) within
