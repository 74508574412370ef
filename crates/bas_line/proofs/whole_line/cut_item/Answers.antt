use Rattle.std.proofs.Common.{◌≤◌, List, length, All, sym, subst, arith}
use Rattle.bas_token.specs.declared.token.Token.{Token}
use Rattle.bas_token.proofs.CutLaws.{tokens_count}
use Rattle.bas_expr.specs.TokenLine.{LiesIn}
use Rattle.bas_expr.proofs.TokenLaws.{tokens_lie}
use Rattle.bas_line.proofs.TokenCut.{tokens_sound}
use Rattle.bas_line.proofs.whole_line.cut_item.Goals as goal

pub new-requires-clause-lie : goal.new-requires-clause-lie
new-requires-clause-lie c =
    let are = tokens_sound c.args.line.now c.in_ok-found.found.items c.in_ok-found.ensures.found in
    subst (λ (ts : List Token). All (LiesIn c.args.line.now) ts) (sym c.deref.ensures.value) (tokens_lie c.args.line.now c.in_ok-found.found.items are)

pub new-requires-clause-few : goal.new-requires-clause-few
new-requires-clause-few c =
    let are = tokens_sound c.args.line.now c.in_ok-found.found.items c.in_ok-found.ensures.found in
    let count = tokens_count c.args.line.now c.in_ok-found.found.items are in
    let short = c.requires in
    subst (λ (ts : List Token). length ts ≤ 4096) (sym c.deref.ensures.value) (omega arith)
