-- What stays of a number whose last digits are rounded off, one digit after the other.
use Rattle.std.proofs.Common.{◌≡◌, ℕ, zero, suc, ◌+◌, ◌-◌, ◌*◌, ◌/◌, ◌%◌, ◌^◌, ◌<◌, ◌≤◌, arith, refl, ap, ◌∙◌, sym, lit<}
use Rattle.std.proofs.Math.Nat.{mul-le-mul_right, pow-suc, div-div-eq-div-mul, div-eq_of_lt}
use Rattle.std.proofs.Math.Numerals.{sub-one}
use Rattle.std.proofs.lemmas.Nat.{div-mul-add, div-add-mod', mod_below}
use Rattle.bas_dec.proofs.Powers.{ten_to_positive, ten_to_rises}

-- less than a half stays of a number with fewer digits
pub round_all : (n count : ℕ) → n < 10 ^ 60 → 60 < count → 0 ≡ (2 * n + 10 ^ count) / (2 * 10 ^ count)
round_all n count h g =
    let most : 10 ^ 61 ≤ 10 ^ count = ten_to_rises 61 count (omega arith) in
    sym (div-eq_of_lt (omega arith))

-- n is q * 10 * unit + digit * unit + rest: the digit decides
module _ (q digit unit rest : ℕ) (small : rest < unit) where
  digit_below_half : digit < 5 → (2 * ((q * 10 + digit) * unit + rest) + unit * 10) / (2 * (unit * 10)) ≡ q
  digit_below_half h =
      let most : digit * unit ≤ 4 * unit = mul-le-mul_right {m = digit} {n = 4} unit (omega arith) in
      let parted : 2 * ((q * 10 + digit) * unit + rest) + unit * 10 ≡ q * (2 * (unit * 10)) + (2 * (digit * unit) + 2 * rest + unit * 10) = omega arith in
      ap (λ z. z / (2 * (unit * 10))) parted ∙ div-mul-add q (2 * (unit * 10)) (2 * (digit * unit) + 2 * rest + unit * 10) (omega arith)

  digit_from_half : 5 ≤ digit → digit < 10 → (2 * ((q * 10 + digit) * unit + rest) + unit * 10) / (2 * (unit * 10)) ≡ q + 1
  digit_from_half h below =
      let least : 5 * unit ≤ digit * unit = mul-le-mul_right {m = 5} {n = digit} unit h in
      let most : digit * unit ≤ 9 * unit = mul-le-mul_right {m = digit} {n = 9} unit (omega arith) in
      let parted : 2 * ((q * 10 + digit) * unit + rest) + unit * 10 ≡ (q + 1) * (2 * (unit * 10)) + (2 * (digit * unit) + 2 * rest - unit * 10) = omega arith in
      ap (λ z. z / (2 * (unit * 10))) parted ∙ div-mul-add (q + 1) (2 * (unit * 10)) (2 * (digit * unit) + 2 * rest - unit * 10) (omega arith)

digits_apart : (n unit : ℕ) → n ≡ (n / unit / 10 * 10 + n / unit % 10) * unit + n % unit
digits_apart n unit = sym (div-add-mod' n unit) ∙ ap (λ x. x * unit + n % unit) (sym (div-add-mod' (n / unit) 10))

ten_to_next : (k : ℕ) → 0 < k → 10 ^ k ≡ 10 ^ (k - 1) * 10
ten_to_next zero h = absurd (omega arith)
ten_to_next (suc k) h = rw (sub-one, pow-suc) refl

-- x is n without its last k - 1 digits
module _ (n k x : ℕ) (some : 0 < k) (left : x ≡ n / 10 ^ (k - 1)) where
  rounds : (m : ℕ) → (2 * ((n / 10 ^ (k - 1) / 10 * 10 + n / 10 ^ (k - 1) % 10) * 10 ^ (k - 1) + n % 10 ^ (k - 1)) + 10 ^ (k - 1) * 10) / (2 * (10 ^ (k - 1) * 10)) ≡ m → m ≡ (2 * n + 10 ^ k) / (2 * 10 ^ k)
  rounds m e = rw (ten_to_next k some) (sym e ∙ ap (λ z. (2 * z + 10 ^ (k - 1) * 10) / (2 * (10 ^ (k - 1) * 10))) (sym (digits_apart n (10 ^ (k - 1)))))

  pub rounds_down : x % 10 < 5 → x / 10 ≡ (2 * n + 10 ^ k) / (2 * 10 ^ k)
  rounds_down h =
      rw left (rounds _ (digit_below_half _ _ _ _ (mod_below n (10 ^ (k - 1)) (ten_to_positive (k - 1))) (rw left at h)))

  pub rounds_up : 5 ≤ x % 10 → x / 10 + 1 ≡ (2 * n + 10 ^ k) / (2 * 10 ^ k)
  rounds_up h =
      rw left (rounds _ (digit_from_half _ _ _ _ (mod_below n (10 ^ (k - 1)) (ten_to_positive (k - 1))) (rw left at h) (mod_below _ 10 (lit< tt))))

  pub digit_off : x / 10 ≡ n / 10 ^ (k + 1 - 1)
  digit_off = rw left (div-div-eq-div-mul n (10 ^ (k - 1)) 10 ∙ ap (λ z. n / z) (sym (ten_to_next k some) ∙ ap (λ j. 10 ^ j) (omega arith)))
