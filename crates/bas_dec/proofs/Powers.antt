-- Powers of ten, and what they do to a size.
use Rattle.std.proofs.Common.{◌≡◌, ℕ, ◌-◌, ◌*◌, ◌^◌, ◌<◌, ◌≤◌, arith, lit<, ap, ◌∙◌}
use Rattle.std.proofs.Math.Nat.{pow-le-pow_right, one-le-pow, mul-le-mul_right}
use Rattle.std.proofs.lemmas.Nat.{pow-add}
use Rattle.bas_dec.specs.Number.{limit}

pub ten_to_positive : (k : ℕ) → 0 < 10 ^ k
ten_to_positive k = omega (arith, one-le-pow k 10 (lit< tt))

pub ten_to_rises : (i j : ℕ) → i ≤ j → 10 ^ i ≤ 10 ^ j
ten_to_rises i j h = pow-le-pow_right (lit< tt) h

pub ten_to_bounds : (k : ℕ) → k ≤ 38 → (0 < 10 ^ k) × (10 ^ k ≤ limit)
ten_to_bounds k h = (ten_to_positive k, ten_to_rises k 38 h)

pub ten_to_split : (i j : ℕ) → i ≤ j → 10 ^ j ≡ 10 ^ (j - i) * 10 ^ i
ten_to_split i j h = ap (λ k. 10 ^ k) (omega arith) ∙ pow-add 10 (j - i) i

pub product_positive : (m n : ℕ) → 0 < m → 0 < n → 0 < m * n
product_positive m n h g = omega (arith, mul-le-mul_right {m = 1} {n = m} n h)

-- a size above 0 with 38 zeros behind it has too many digits
pub raised_reaches : (n k : ℕ) → 0 < n → 38 ≤ k → limit ≤ n * 10 ^ k
raised_reaches n k h g = omega (arith, ten_to_rises 38 k g, mul-le-mul_right {m = 1} {n = n} (10 ^ k) h)
