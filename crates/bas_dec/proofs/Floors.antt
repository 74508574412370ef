-- The greatest whole number that is not above a fraction, and the whole part.
use Rattle.std.proofs.Common.{◌≡◌, ℕ, zero, suc, ◌+◌, ◌-◌, ◌*◌, ◌/◌, ◌%◌, ◌<◌, arith, refl, ap, ◌∙◌, sym, true, false, ℤ, pos, negsuc, neg_ℤ, ◌+ℤ◌, ◌*ℤ◌}
use Rattle.std.specs.Prelude.{unsigned_abs}
use Rattle.std.specs.Int.{int_div_euclid, int_rem_euclid}
use Rattle.std.proofs.lemmas.Int.{ints}
use Rattle.std.proofs.lemmas.Nat.{div-mul-add, div-add-mod', mod_below}
use Rattle.bas_dec.specs.Number.{signed}
use Rattle.bas_dec.specs.Fraction.{floor, plus, half, ratio}
use Rattle.bas_dec.proofs.Integers.{sum_times, times_twice, neg_times}

below_zero : (m d r : ℕ) → r < d → neg_ℤ (pos (suc m * d)) +ℤ pos r ≡ negsuc (suc m * d - r - 1)
below_zero m d r h = from (suc m * d) r (omega arith)
  where
    from : (k r : ℕ) → r < k → neg_ℤ (pos k) +ℤ pos r ≡ negsuc (k - r - 1)
    from zero r h = absurd (omega arith)
    from (suc k) r h = omega (arith, ints)

-- k is the quotient rounded down where a rest from 0 to below d is left
pub floor_unique : (k : ℤ) (d r : ℕ) → r < d → int_div_euclid (k *ℤ pos d +ℤ pos r) (pos d) ≡ k
floor_unique (pos a) d r h = ap pos (div-mul-add a d r h)
floor_unique (negsuc m) d r h =
    let size : suc m * d - r - 1 ≡ m * d + (d - r - 1) = omega arith in
    ap (λ z. int_div_euclid z (pos d)) (below_zero m d r h) ∙ ap (λ n. negsuc (n / d)) size ∙ ap negsuc (div-mul-add m d (d - r - 1) (omega arith))

-- what euclidean division gives
pub euclid : (a : ℤ) (d : ℕ) → 0 < d → int_div_euclid a (pos d) *ℤ pos d +ℤ int_rem_euclid a (pos d) ≡ a
euclid (pos a) d h = ap pos (div-add-mod' a d)
euclid (negsuc a) d h =
    let rest : a % d < d = mod_below a d h in
    let whole : a / d * d + a % d ≡ a = div-add-mod' a d in
    below_zero (a / d) d (d - 1 - a % d) (omega arith) ∙ ap negsuc (omega arith)

pub rest_size : (a : ℤ) (d : ℕ) → 0 < d → unsigned_abs (int_rem_euclid a (pos d)) < d
rest_size (pos a) d h = mod_below a d h
rest_size (negsuc a) d h = omega arith

pub rest_above : (a : ℤ) (d : ℕ) → int_rem_euclid a (pos d) ≡ pos (unsigned_abs (int_rem_euclid a (pos d)))
rest_above (pos a) d = refl
rest_above (negsuc a) d = refl

-- the same, with a rest that is a natural number
pub euclid_at : (a : ℤ) (d : ℕ) → 0 < d → int_div_euclid a (pos d) *ℤ pos d +ℤ pos (unsigned_abs (int_rem_euclid a (pos d))) ≡ a
euclid_at a d h = ap (λ r. int_div_euclid a (pos d) *ℤ pos d +ℤ r) (sym (rest_above a d)) ∙ euclid a d h

-- a common factor goes
pub floor_scaled : (a : ℤ) (d k : ℕ) → 0 < d → 0 < k → int_div_euclid (a *ℤ pos k) (pos (d * k)) ≡ int_div_euclid a (pos d)
floor_scaled a d k some factor =
    let q : ℤ = int_div_euclid a (pos d) in
    let r : ℕ = unsigned_abs (int_rem_euclid a (pos d)) in
    let less : r * k < d * k = smaller r d k factor (rest_size a d some) in
    let e : a *ℤ pos k ≡ q *ℤ pos (d * k) +ℤ pos (r * k) = ap (λ z. z *ℤ pos k) (sym (euclid_at a d some)) ∙ sum_times (q *ℤ pos d) (pos r) k ∙ ap (λ z. z +ℤ pos (r * k)) (times_twice q d k) in
    ap (λ z. int_div_euclid z (pos (d * k))) e ∙ floor_unique q (d * k) (r * k) less
  where
    smaller : (r d k : ℕ) → 0 < k → r < d → r * k < d * k
    smaller r d k h g = grind arith

pub half_up_above : (n q : ℕ) → floor (plus (ratio (pos n) q) half) ≡ signed false ((2 * n + q) / (2 * q))
half_up_above n q =
    let up : n * 2 + 1 * q ≡ 2 * n + q = omega arith in
    let down : q * 2 ≡ 2 * q = omega arith in
    rw (up, down) refl

half_below : (n q k t : ℕ) → t < q * 2 → k + t ≡ 2 * suc n + q - 1 → negsuc n *ℤ pos 2 +ℤ pos 1 *ℤ pos q ≡ neg_ℤ (pos k) +ℤ pos (q * 2 - 1 - t)
half_below n q k t h e = omega (arith, ints)

pub half_up_below : (n q : ℕ) → 0 < q → floor (plus (ratio (negsuc n) q) half) ≡ signed true ((2 * suc n + q - 1) / (2 * q))
half_up_below n q h =
    let d : ℕ = q * 2 in
    let some : 0 < d = omega arith in
    let m : ℕ = (2 * suc n + q - 1) / d in
    let t : ℕ = (2 * suc n + q - 1) % d in
    let less : t < d = mod_below (2 * suc n + q - 1) d some in
    let value : negsuc n *ℤ pos 2 +ℤ pos 1 *ℤ pos q ≡ neg_ℤ (pos m) *ℤ pos d +ℤ pos (d - 1 - t) =
    half_below n q (m * d) t less (div-add-mod' (2 * suc n + q - 1) d) ∙ ap (λ z. z +ℤ pos (d - 1 - t)) (sym (neg_times (pos m) d)) in
    ap (λ z. int_div_euclid z (pos d)) value ∙ floor_unique (neg_ℤ (pos m)) d (d - 1 - t) (omega arith) ∙ ap (λ k. neg_ℤ (pos ((2 * suc n + q - 1) / k))) (omega arith)
