-- The columns of commas and TABs.
use Rattle.std.proofs.Common.{◌≡◌, ℕ, ◌-◌, ◌%◌, ◌<◌, ◌≤◌, cond, ltb, sym, ap, subst, ◌∙◌}
use Rattle.std.proofs.lemmas.Bool.{lt-ltb, le-ltb}
use Rattle.bas_console.specs.Layout.{comma, tab, line_end, spaced_to, ended_where, sequence, next_zone}

-- a comma goes to a zone that begins before the margin
pub comma-spaced : (margin column target : ℕ) → target ≡ next_zone column → target < margin → comma margin column ≡ spaced_to target column
unfolding comma
comma-spaced margin column target e less =
    ap (λ b. cond b (spaced_to (next_zone column) column) (line_end column)) (lt-ltb (next_zone column) margin (subst (λ z. z < margin) e less))
    ∙ ap (λ z. spaced_to z column) (sym e)

-- and to the next line where there is none
pub comma-ended : (margin column : ℕ) → margin ≤ next_zone column → comma margin column ≡ line_end column
unfolding comma
comma-ended margin column past = ap (λ b. cond b (spaced_to (next_zone column) column) (line_end column)) (le-ltb (next_zone column) margin past)

-- a TAB by its target
pub tab-is : (margin n target : ℕ) → target ≡ (n - 1) % margin → (column : ℕ) → sequence (ended_where (λ c. ltb target c)) (spaced_to target) column ≡ tab margin n column
unfolding tab
tab-is margin n target e column = ap (λ t. sequence (ended_where (λ c. ltb t c)) (spaced_to t) column) e
