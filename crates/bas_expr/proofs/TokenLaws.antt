-- The tokens of a line lie in it.
use Rattle.std.proofs.Common.{ℕ, ◌≤◌, List, [], ◌∷◌, length, All, arith}
use Rattle.std.proofs.lemmas.List.Elements.{All-nil, All-cons}
use Rattle.bas_token.specs.declared.token.Token.{Token}
use Rattle.bas_token.specs.Tokens.{AreTokens, AreInOrder}
use Rattle.bas_token.proofs.CutLaws.{tokens_in_order, tokens_count}
use Rattle.bas_expr.specs.TokenLine.{LiesIn}

in_order_lie : (line : List ℕ) (at : ℕ) (tokens : List Token) → AreInOrder (length line) at tokens → (at ≤ length line) × All (LiesIn line) tokens
in_order_lie line at [] h = (h, All-nil (LiesIn line))
in_order_lie line at (t ∷ ts) h =
    let rest = in_order_lie line t.to ts h.2 in
    let a = h.0 in
    let b = h.1 in
    let c = rest.0 in
    (omega arith, All-cons (LiesIn line) t ts (omega arith, c) rest.1)

pub tokens_lie : (line : List ℕ) (tokens : List Token) → AreTokens line tokens → All (LiesIn line) tokens
tokens_lie line tokens are = (in_order_lie line 0 tokens (tokens_in_order line tokens are)).1

pub few_tokens : (line : List ℕ) (tokens : List Token) → AreTokens line tokens → length tokens ≤ length line
few_tokens line tokens are = tokens_count line tokens are
