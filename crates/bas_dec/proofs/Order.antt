-- How two numbers compare, from how their coefficients at one scale do.
use Rattle.std.proofs.Common.{◌≡◌, ℕ, zero, suc, ◌-◌, ◌*◌, ◌^◌, ◌<◌, ◌≤◌, arith, refl, ap, ◌∙◌, sym, true, false, ℤ, pos, negsuc, neg_ℤ, ◌*ℤ◌, Ok, Err, inl, inr}
use Rattle.std.specs.Prelude.{unsigned_abs, nat_lt}
use Rattle.std.specs.Ordering.{int_cmp, ordering_reverse}
use Rattle.std.specs.declared.cmp.Ordering.TheVariants.{Less, Greater}
use Rattle.std.proofs.lemmas.Bool.Decides.{nat_tests}
use Rattle.std.proofs.lemmas.Bool.{cases_lt}
use Rattle.std.proofs.Math.Nat.{mul-le-mul_right}
use Rattle.bas_dec.specs.declared.fault.DecFault.{DecFault}
use Rattle.bas_dec.specs.Number.{Number, limit}
use Rattle.bas_dec.specs.Arithmetic.{aligned, order_of}
use Rattle.bas_dec.proofs.Integers.{times_twice}
use Rattle.bas_dec.proofs.Bounds.{bounded_value, bounded_fault}
use Rattle.bas_dec.proofs.Powers.{ten_to_positive, ten_to_split, product_positive}

less_scaled : (a b k : ℕ) → 0 < k → nat_lt (a * k) (b * k) ≡ nat_lt a b
less_scaled a b k h = elim (cases_lt a b) [
  | inl less ↦ let e : nat_lt (a * k) (b * k) ≡ true = grind (arith, nat_tests, mul-le-mul_right {m = suc a} {n = b} k less) in grind (arith, nat_tests)
  | inr more ↦ let e : nat_lt (a * k) (b * k) ≡ false = grind (arith, nat_tests, mul-le-mul_right {m = b} {n = a} k more) in grind (arith, nat_tests)
]

above_scaled : (a b k : ℕ) → 0 < k → int_cmp (pos (a * k)) (pos (b * k)) ≡ int_cmp (pos a) (pos b)
above_scaled a b k h = rw (less_scaled a b k h, less_scaled b a k h) refl

below_any : (m n : ℕ) → 0 < m → int_cmp (neg_ℤ (pos m)) (pos n) ≡ Less
below_any zero n h = absurd (omega arith)
below_any (suc m) n h = refl

above_any : (m n : ℕ) → 0 < m → int_cmp (pos n) (neg_ℤ (pos m)) ≡ Greater
above_any zero n h = absurd (omega arith)
above_any (suc m) n h = refl

less_suc : (m n : ℕ) → nat_lt (suc m) (suc n) ≡ nat_lt m n
less_suc m n = elim (cases_lt m n) [
  | inl less ↦ let e : nat_lt m n ≡ true = grind (arith, nat_tests) in grind (arith, nat_tests)
  | inr more ↦ let e : nat_lt m n ≡ false = grind (arith, nat_tests) in grind (arith, nat_tests)
]

turned_below : (m n : ℕ) → int_cmp (negsuc m) (negsuc n) ≡ int_cmp (pos (suc n)) (pos (suc m))
turned_below m n = rw (less_suc m n, less_suc n m) refl

both_below : (m n : ℕ) → 0 < m → 0 < n → int_cmp (neg_ℤ (pos m)) (neg_ℤ (pos n)) ≡ int_cmp (pos n) (pos m)
both_below zero n h g = absurd (omega arith)
both_below (suc m) zero h g = absurd (omega arith)
both_below (suc m) (suc n) h g = turned_below m n

-- a common factor above zero changes no order
pub order_scaled : (a b : ℤ) (k : ℕ) → 0 < k → int_cmp (a *ℤ pos k) (b *ℤ pos k) ≡ int_cmp a b
order_scaled (pos a) (pos b) k h = above_scaled a b k h
order_scaled (pos a) (negsuc b) k h = above_any (suc b * k) (a * k) (product_positive (suc b) k (omega arith) h)
order_scaled (negsuc a) (pos b) k h = below_any (suc a * k) (b * k) (product_positive (suc a) k (omega arith) h)
order_scaled (negsuc a) (negsuc b) k h = both_below (suc a * k) (suc b * k) (product_positive (suc a) k (omega arith) h) (product_positive (suc b) k (omega arith) h) ∙ above_scaled (suc b) (suc a) k h ∙ sym (turned_below a b)

greater : (m n : ℕ) → n < m → int_cmp (pos m) (pos n) ≡ Greater
greater m n h = grind (arith, nat_tests)

less : (m n : ℕ) → m < n → int_cmp (pos m) (pos n) ≡ Less
less m n h = grind (arith, nat_tests)

factor_positive : (a k : ℕ) → 0 < a * k → 0 < a
factor_positive zero k h = absurd (omega arith)
factor_positive (suc a) k h = omega arith

size_below : (n : ℕ) → unsigned_abs (neg_ℤ (pos n)) ≡ n
size_below zero = refl
size_below (suc n) = refl

-- a coefficient that has passed the limit lies on its own side of every other
pub order_beyond : (a b : ℤ) (k : ℕ) → limit ≤ unsigned_abs (a *ℤ pos k) → unsigned_abs b < limit → int_cmp (a *ℤ pos k) b ≡ int_cmp a (pos 0)
order_beyond (pos a) (pos b) k h g = greater (a * k) b (omega arith) ∙ sym (greater a 0 (factor_positive a k (omega arith)))
order_beyond (pos a) (negsuc b) k h g = sym (greater a 0 (factor_positive a k (omega arith)))
order_beyond (negsuc a) (pos b) k h g = below_any (suc a * k) b (omega (arith, size_below (suc a * k)))
order_beyond (negsuc a) (negsuc b) k h g = both_below (suc a * k) (suc b) (omega (arith, size_below (suc a * k))) (omega arith) ∙ less (suc b) (suc a * k) (omega (arith, size_below (suc a * k)))

raised_twice : (a : ℤ) (s t : ℕ) → s ≤ t → a *ℤ pos (10 ^ t) ≡ a *ℤ pos (10 ^ (t - s)) *ℤ pos (10 ^ s)
raised_twice a s t h = ap (λ k. a *ℤ pos k) (ten_to_split s t h) ∙ sym (times_twice a (10 ^ (t - s)) (10 ^ s))

order_at : (a b : ℤ) (s t : ℕ) → s ≤ t → order_of (record { coefficient = a; scale = s }) (record { coefficient = b; scale = t }) ≡ int_cmp (a *ℤ pos (10 ^ (t - s))) b
unfolding order_of
order_at a b s t h = ap (λ x. int_cmp x (b *ℤ pos (10 ^ s))) (raised_twice a s t h) ∙ order_scaled (a *ℤ pos (10 ^ (t - s))) b (10 ^ s) (ten_to_positive s)

pub order_aligned : (x y : Number) (p : ℤ) → x.scale ≤ y.scale → Ok p ≡ aligned x y.scale → order_of x y ≡ int_cmp p y.coefficient
order_aligned x y p h e = order_at x.coefficient y.coefficient x.scale y.scale h ∙ ap (λ c. int_cmp c y.coefficient) (sym (bounded_value (x.coefficient *ℤ pos (10 ^ (y.scale - x.scale))) p e))

pub order_far : (x y : Number) (e : DecFault) → x.scale ≤ y.scale → unsigned_abs y.coefficient < limit → Err e ≡ aligned x y.scale → order_of x y ≡ int_cmp x.coefficient (pos 0)
order_far x y e h small far =
    let k : ℕ = 10 ^ (y.scale - x.scale) in
    order_at x.coefficient y.coefficient x.scale y.scale h ∙ order_beyond x.coefficient y.coefficient k (bounded_fault (x.coefficient *ℤ pos k) e far) small

nat_turned : (a b : ℕ) → ordering_reverse (int_cmp (pos a) (pos b)) ≡ int_cmp (pos b) (pos a)
nat_turned a b = grind (arith, nat_tests)

int_turned : (a b : ℤ) → ordering_reverse (int_cmp a b) ≡ int_cmp b a
int_turned (pos a) (pos b) = nat_turned a b
int_turned (pos a) (negsuc b) = refl
int_turned (negsuc a) (pos b) = refl
int_turned (negsuc a) (negsuc b) = nat_turned b a

pub order_turned : (x y : Number) → ordering_reverse (order_of y x) ≡ order_of x y
unfolding order_of
order_turned x y = int_turned (y.coefficient *ℤ pos (10 ^ x.scale)) (x.coefficient *ℤ pos (10 ^ y.scale))
