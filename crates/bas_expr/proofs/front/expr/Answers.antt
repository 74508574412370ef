use Rattle.std.proofs.Common.{◌≡◌, Some, None, sym, ◌∙◌, ap}
use Rattle.bas_form.proofs.ReaderLaws.{last, only, none}
use Rattle.bas_expr.specs.Lexemes.{lexemes}
use Rattle.bas_expr.specs.Reading as reading
use Rattle.bas_expr.proofs.ExpressionLaws.{expr_longest}
use Rattle.bas_expr.proofs.front.expr.Goals as goal

pub returns-in-Some-clause-found : goal.returns-in-Some-clause-found
returns-in-Some-clause-found c =
    let ts = lexemes c.args.line.now c.args.tokens.now in
    let e : reading.expr ts 65 c.args.at ≡ Some c.in-Some.found = ap (λ s. reading.expr s 65 c.args.at) (sym c.new-token_line.ensures) ∙ sym c.in_ok-found.ensures ∙ c.in-Some.is in
    (expr_longest ts 65).sound c.args.at c.in-Some.found.0 c.in-Some.found.1 e

pub returns-in-Some-clause-longest : goal.returns-in-Some-clause-longest
returns-in-Some-clause-longest c =
    let ts = lexemes c.args.line.now c.args.tokens.now in
    let e : reading.expr ts 65 c.args.at ≡ Some c.in-Some.found = ap (λ s. reading.expr s 65 c.args.at) (sym c.new-token_line.ensures) ∙ sym c.in_ok-found.ensures ∙ c.in-Some.is in
    last (expr_longest ts 65) c.args.at c.in-Some.found e

pub returns-in-Some-clause-only : goal.returns-in-Some-clause-only
returns-in-Some-clause-only c =
    let ts = lexemes c.args.line.now c.args.tokens.now in
    let e : reading.expr ts 65 c.args.at ≡ Some c.in-Some.found = ap (λ s. reading.expr s 65 c.args.at) (sym c.new-token_line.ensures) ∙ sym c.in_ok-found.ensures ∙ c.in-Some.is in
    only (expr_longest ts 65) c.args.at c.in-Some.found e

pub returns-in-None-clause-none : goal.returns-in-None-clause-none
returns-in-None-clause-none c _ =
    let ts = lexemes c.args.line.now c.args.tokens.now in
    let e : reading.expr ts 65 c.args.at ≡ None = ap (λ s. reading.expr s 65 c.args.at) (sym c.new-token_line.ensures) ∙ sym c.in_ok-found.ensures ∙ c.in-None.is in
    none (expr_longest ts 65) c.args.at e
