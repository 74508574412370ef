-- The bytes inside quotes, one at a time.
use Rattle.std.proofs.Common.{◌≡◌, ℕ, zero, suc, ◌-◌, ◌<◌, ◌≤◌, List, [], ◌∷◌, drop, length, slice_index, refl, arith}
use Rattle.bas_expr.specs.Words.{inside_quotes}

pub quote_pair : (text : List ℕ) (at : ℕ) → at < length text - 1 → slice_index text at ≡ 34 → inside_quotes (drop at text) ≡ 34 ∷ inside_quotes (drop (suc (suc at)) text)
quote_pair [] at l e = absurd (omega arith)
quote_pair (a ∷ []) zero l e = absurd (omega arith)
quote_pair (a ∷ b ∷ more) zero l e = rw e refl
quote_pair (a ∷ more) (suc n) l e = quote_pair more n (omega arith) e

pub quote_end : (text : List ℕ) (at : ℕ) → length text - 1 ≤ at → inside_quotes (drop at text) ≡ []
quote_end [] zero l = refl
quote_end [] (suc n) l = refl
quote_end (a ∷ []) zero l = refl
quote_end (a ∷ b ∷ more) zero l = absurd (omega arith)
quote_end (a ∷ more) (suc n) l = quote_end more n (omega arith)
