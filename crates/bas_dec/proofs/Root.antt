-- The whole square root.
use Rattle.std.proofs.Common.{◌≡◌, ℕ, zero, suc, ◌+◌, ◌-◌, ◌*◌, ◌/◌, ◌%◌, ◌^◌, ◌<◌, ◌≤◌, arith, refl, ap, ◌∙◌, sym, add-zero, add-suc, true, false, inl, inr, Ok, Err, ℤ, pos, ◌*ℤ◌}
use Rattle.std.specs.Prelude.{nat_le, if◌then◌else◌, unsigned_abs, int_lt, Result}
use Rattle.std.proofs.lemmas.Int.{unsigned_abs-mul}
use Rattle.bas_dec.specs.declared.fault.DecFault.{DecFault}
use Rattle.bas_dec.specs.declared.fault.DecFault.TheVariants.{Overflow}
use Rattle.bas_dec.specs.Arithmetic.{bounded, number_at}
use Rattle.bas_dec.proofs.Bounds.{bounded_small, bounded_value, bounded_fault}
use Rattle.std.proofs.lemmas.Bool.Decides.{nat_tests}
use Rattle.std.proofs.lemmas.Nat.{mul-le, div-add-mod', mod_below}
use Rattle.std.proofs.Math.Nat.{mul-le-mul_right, div-mul-le_self, mul-div_cancel, mul-div-mul_right}
use Rattle.std.proofs.lemmas.Bool.{cases_lt}
use Rattle.bas_dec.specs.Number.{limit}
use Rattle.bas_dec.specs.declared.TheConstants.{SHORT}
use Rattle.bas_dec.proofs.Powers.{ten_to_positive, ten_to_split}
use Rattle.bas_dec.specs.Power.{root, root_within, root_limit, root_of}

yes : (a b : ℕ) → a ≤ b → nat_le a b ≡ true
yes a b h = grind (arith, nat_tests)

no : (a b : ℕ) → b < a → nat_le a b ≡ false
no a b h = grind (arith, nat_tests)

root_top : (p q r : ℕ) → r * r * q ≤ p → root_within p q r ≡ r
unfolding root_within
root_top p q zero h = refl
root_top p q (suc r) h = rw (yes (suc r * suc r * q) p h) refl

larger : (p q r m : ℕ) → p < (r + 1) * (r + 1) * q → r + 1 ≤ m → p < m * m * q
larger p q r m h g = omega (arith, h, mul-le-mul_right {m = (r + 1) * (r + 1)} {n = m * m} q (mul-le (r + 1) (r + 1) m m g g))

root_down : (p q r j : ℕ) → r * r * q ≤ p → p < (r + 1) * (r + 1) * q → root_within p q (r + j) ≡ r
unfolding root_within
root_down p q r zero h g = rw add-zero (root_top p q r h)
root_down p q r (suc j) h g =
    let over : p < suc (r + j) * suc (r + j) * q = larger p q r (suc (r + j)) g (omega arith) in
    rw (add-suc, no (suc (r + j) * suc (r + j) * q) p over) (root_down p q r j h g)

square_above : (r q : ℕ) → 0 < q → r ≤ r * r * q
square_above zero q h = omega arith
square_above (suc r) q h = omega (arith, mul-le (suc r) 1 (suc r) (suc r) (omega arith) (omega arith), mul-le (suc r * suc r) 1 (suc r * suc r) q (omega arith) h)

root_unique : (p q r : ℕ) → 0 < q → r * r * q ≤ p → p < (r + 1) * (r + 1) * q → root p q ≡ r
unfolding root
root_unique p q r some h g =
    let e : r + (p - r) ≡ p = omega (arith, square_above r q some) in
    ap (root_within p q) (sym e) ∙ root_down p q r (p - r) h g

-- the root of p / q is that of its whole part
pub root_is : (p q r : ℕ) → 0 < q → r * r ≤ p / q → p / q < (r + 1) * (r + 1) → root p q ≡ r
root_is p q r some h g =
    let low : r * r * q ≤ p = omega (arith, mul-le-mul_right {m = r * r} {n = p / q} q h, div-mul-le_self p q) in
    let rest : p % q < q = mod_below p q some in
    let high : p < (r + 1) * (r + 1) * q = omega (arith, mul-le-mul_right {m = p / q + 1} {n = (r + 1) * (r + 1)} q (omega arith), div-add-mod' p q) in
    root_unique p q r some low high

-- a number at 18 places reaches 38 digits exactly from the limit of roots on
scaled : (a b : ℕ) → a * b ≡ 10 ^ 18 → root_limit * a * b ≡ limit
scaled a b e = omega (arith, ap (λ z. root_limit * z) e)

square_far : (n s : ℕ) → s ≤ SHORT → limit ≤ n * 10 ^ (SHORT - s) → root_limit * 10 ^ s ≤ n
square_far n s h g = elim (cases_lt n (root_limit * 10 ^ s)) [
  | inl less ↦
      let b : ℕ = 10 ^ (SHORT - s) in
      let all : root_limit * 10 ^ s * b ≡ limit = scaled (10 ^ s) b (ap (λ k. k) (turned b (10 ^ s) ∙ sym (ten_to_split s SHORT h))) in
      absurd (omega (arith, g, all, ten_to_positive (SHORT - s), mul-le-mul_right {m = n + 1} {n = root_limit * 10 ^ s} b (omega arith)))
  | inr more ↦ more
]
  where
    turned : (j k : ℕ) → k * j ≡ j * k
    turned j k = omega arith

square_near : (n s : ℕ) → s ≤ SHORT → n * 10 ^ (SHORT - s) < limit → n < root_limit * 10 ^ s
square_near n s h g = elim (cases_lt n (root_limit * 10 ^ s)) [
  | inl less ↦ less
  | inr more ↦
      let b : ℕ = 10 ^ (SHORT - s) in
      let all : root_limit * 10 ^ s * b ≡ limit = scaled (10 ^ s) b (turned b (10 ^ s) ∙ sym (ten_to_split s SHORT h)) in
      absurd (omega (arith, g, all, mul-le-mul_right {m = root_limit * 10 ^ s} {n = n} b more))
]
  where
    turned : (j k : ℕ) → k * j ≡ j * k
    turned j k = omega arith

square_at : (n s : ℕ) → s ≤ SHORT → n * 10 ^ SHORT / 10 ^ s ≡ n * 10 ^ (SHORT - s)
square_at n s h =
    let split : n * 10 ^ SHORT ≡ n * 10 ^ (SHORT - s) * 10 ^ s = ap (λ k. n * k) (ten_to_split s SHORT h) ∙ grouped n (10 ^ (SHORT - s)) (10 ^ s) in
    ap (λ k. k / 10 ^ s) split ∙ mul-div_cancel (n * 10 ^ (SHORT - s)) (ten_to_positive s)
  where
    grouped : (n j k : ℕ) → n * (j * k) ≡ n * j * k
    grouped n j k = omega arith

pub square_shorter : (n s : ℕ) → SHORT ≤ s → n * 10 ^ SHORT / 10 ^ s ≡ n / 10 ^ (s - SHORT)
square_shorter n s h = ap (λ k. n * 10 ^ SHORT / k) (ten_to_split SHORT s h) ∙ mul-div-mul_right n (10 ^ (s - SHORT)) (ten_to_positive SHORT)

in_reach : (t n : ℕ) (a b : Result ℕ DecFault) → n < t → (if nat_le t n then a else b) ≡ b
in_reach t n a b h = grind (arith, nat_tests)

out_of_reach : (t n : ℕ) (a b : Result ℕ DecFault) → t ≤ n → (if nat_le t n then a else b) ≡ a
out_of_reach t n a b h = grind (arith, nat_tests)

-- the square that the code finds
pub square_found : (c v : ℤ) (s : ℕ) → s ≤ SHORT → Ok v ≡ bounded (c *ℤ pos (10 ^ (SHORT - s))) → (if nat_le (root_limit * 10 ^ s) (unsigned_abs c) then Err Overflow else Ok (unsigned_abs c * 10 ^ SHORT / 10 ^ s)) ≡ Ok (unsigned_abs v)
square_found c v s h e =
    let n : ℕ = unsigned_abs c in
    let size : unsigned_abs (c *ℤ pos (10 ^ (SHORT - s))) ≡ n * 10 ^ (SHORT - s) = unsigned_abs-mul c (pos (10 ^ (SHORT - s))) in
    let small : n * 10 ^ (SHORT - s) < limit = rw (← size) (bounded_small (c *ℤ pos (10 ^ (SHORT - s))) v e) in
    in_reach (root_limit * 10 ^ s) n (Err Overflow) (Ok (n * 10 ^ SHORT / 10 ^ s)) (square_near n s h small) ∙ ap Ok (square_at n s h ∙ sym size ∙ ap unsigned_abs (sym (bounded_value (c *ℤ pos (10 ^ (SHORT - s))) v e)))

-- and the fault where it finds none
pub square_refused : (c : ℤ) (s : ℕ) (e : DecFault) → s ≤ SHORT → Err e ≡ bounded (c *ℤ pos (10 ^ (SHORT - s))) → (if nat_le (root_limit * 10 ^ s) (unsigned_abs c) then Err Overflow else Ok (unsigned_abs c * 10 ^ SHORT / 10 ^ s)) ≡ Err Overflow
square_refused c s e h f =
    let n : ℕ = unsigned_abs c in
    let size : unsigned_abs (c *ℤ pos (10 ^ (SHORT - s))) ≡ n * 10 ^ (SHORT - s) = unsigned_abs-mul c (pos (10 ^ (SHORT - s))) in
    let large : limit ≤ n * 10 ^ (SHORT - s) = rw (← size) (bounded_fault (c *ℤ pos (10 ^ (SHORT - s))) e f) in
    out_of_reach (root_limit * 10 ^ s) n (Err Overflow) (Ok (n * 10 ^ SHORT / 10 ^ s)) (square_far n s h large)

one_value : (r : Result ℕ DecFault) (k v : ℕ) → r ≡ Ok k → r ≡ Ok v → k ≡ v
one_value r k v e f = cc

no_value : (r : Result ℕ DecFault) (v : ℕ) → r ≡ Err Overflow → r ≡ Ok v → ⊥
no_value r v e f = cc

value_there : (t n k v : ℕ) → (if nat_le t n then Err Overflow else Ok k) ≡ Ok v → (nat_le t n ≡ false) × (k ≡ v)
value_there t n k v e = elim (cases_lt n t) [
  | inl less ↦ (no t n less, one_value (if nat_le t n then Err Overflow else Ok k) k v (in_reach t n (Err Overflow) (Ok k) less) e)
  | inr more ↦ absurd (no_value (if nat_le t n then Err Overflow else Ok k) v (out_of_reach t n (Err Overflow) (Ok k) more) e)
]

-- the root from that of the square's whole part
pub root_found : (c : ℤ) (s r v : ℕ) → int_lt c (pos 0) ≡ false → Ok v ≡ (if nat_le (root_limit * 10 ^ s) (unsigned_abs c) then Err Overflow else Ok (unsigned_abs c * 10 ^ SHORT / 10 ^ s)) → r * r ≤ v → v < (r + 1) * (r + 1) → root_of (record { coefficient = c; scale = s }) ≡ number_at (pos r) (SHORT / 2)
unfolding root_of
root_found c s r v sign e below above =
    let n : ℕ = unsigned_abs c in
    let there : (nat_le (root_limit * 10 ^ s) n ≡ false) × (n * 10 ^ SHORT / 10 ^ s ≡ v) = value_there (root_limit * 10 ^ s) n (n * 10 ^ SHORT / 10 ^ s) v (sym e) in
    rw (sign, there.0, root_is (n * 10 ^ SHORT) (10 ^ s) r (ten_to_positive s) (rw there.1 below) (rw there.1 above)) refl
