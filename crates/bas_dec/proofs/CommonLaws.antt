-- Laws of sums, products and the order.
use Rattle.std.proofs.Common.{◌≡◌, ℕ, ◌+◌, ◌-◌, ◌^◌, ◌<◌, arith, refl, ap, ◌∙◌, sym, ℤ, pos, ◌+ℤ◌, ◌*ℤ◌, Result, Ok, Err, ◌⊎◌, inl, inr}
use Rattle.std.specs.Prelude.{unsigned_abs, max}
use Rattle.std.specs.Ordering.{int_cmp}
use Rattle.std.specs.Cmp.{IsTotalOrder}
use Rattle.std.specs.declared.cmp.Ordering.TheVariants.{Less, Equal}
use Rattle.std.proofs.lemmas.Cmp.{int_cmp_total, tied_itself}
use Rattle.std.proofs.lemmas.Map.Lookups.{exact_signed}
use Rattle.std.proofs.lemmas.Bool.{cases_lt}
use Rattle.std.proofs.Math.IntN.{+ℤ_comm, *ℤ_comm}
use Rattle.bas_dec.specs.Number.{Number, IsNumber, limit}
use Rattle.bas_dec.specs.Arithmetic.{and_then, bounded, aligned, number_at, sum_of, product_of, kept_places, rounded_within, order_of}
use Rattle.bas_dec.specs.declared.fault.DecFault.{DecFault}
use Rattle.bas_dec.specs.declared.fault.DecFault.TheVariants.{Overflow}
use Rattle.bas_dec.proofs.Integers.{times_turned}
use Rattle.bas_dec.proofs.Powers.{ten_to_positive}
use Rattle.bas_dec.proofs.Bounds.{bounded_within, bounded_beyond}
use Rattle.bas_dec.proofs.Low.{number_unique}
use Rattle.bas_dec.proofs.Order.{order_turned, order_scaled}

-- ---- the order
scaled_alike : (a b : ℤ) (i j k : ℕ) → 0 < k → int_cmp (a *ℤ pos i) (b *ℤ pos j) ≡ int_cmp (a *ℤ pos k *ℤ pos i) (b *ℤ pos k *ℤ pos j)
scaled_alike a b i j k h = sym (order_scaled (a *ℤ pos i) (b *ℤ pos j) k h) ∙ ap (λ z. int_cmp z (b *ℤ pos j *ℤ pos k)) (times_turned a i k) ∙ ap (λ z. int_cmp (a *ℤ pos k *ℤ pos i) z) (times_turned b j k)

transitive : (a b c : ℤ) (i j k : ℕ) → 0 < i → 0 < j → 0 < k → int_cmp (a *ℤ pos j) (b *ℤ pos i) ≡ Less → int_cmp (b *ℤ pos k) (c *ℤ pos j) ≡ Less → int_cmp (a *ℤ pos k) (c *ℤ pos i) ≡ Less
transitive a b c i j k hi hj hk e f =
    let first : int_cmp (a *ℤ pos k *ℤ pos j) (b *ℤ pos k *ℤ pos i) ≡ Less = sym (scaled_alike a b j i k hk) ∙ e in
    let second : int_cmp (b *ℤ pos k *ℤ pos i) (c *ℤ pos i *ℤ pos j) ≡ Less = ap (λ z. int_cmp z (c *ℤ pos i *ℤ pos j)) (times_turned b k i) ∙ sym (scaled_alike b c k j i hi) ∙ f in
    sym (order_scaled (a *ℤ pos k) (c *ℤ pos i) j hj) ∙ int_cmp_total.trans (a *ℤ pos k *ℤ pos j) (b *ℤ pos k *ℤ pos i) (c *ℤ pos i *ℤ pos j) first second

congruent : (a b c : ℤ) (i j k : ℕ) → 0 < i → 0 < j → 0 < k → int_cmp (a *ℤ pos j) (b *ℤ pos i) ≡ Equal → int_cmp (a *ℤ pos k) (c *ℤ pos i) ≡ int_cmp (b *ℤ pos k) (c *ℤ pos j)
congruent a b c i j k hi hj hk e =
    let first : int_cmp (a *ℤ pos k *ℤ pos j) (b *ℤ pos k *ℤ pos i) ≡ Equal = sym (scaled_alike a b j i k hk) ∙ e in
    sym (order_scaled (a *ℤ pos k) (c *ℤ pos i) j hj) ∙ int_cmp_total.congr (a *ℤ pos k *ℤ pos j) (b *ℤ pos k *ℤ pos i) (c *ℤ pos i *ℤ pos j) first ∙ ap (λ z. int_cmp (b *ℤ pos k *ℤ pos i) z) (times_turned c i j) ∙ order_scaled (b *ℤ pos k) (c *ℤ pos j) i hi

pub order_total : IsTotalOrder order_of
unfolding order_of
order_total = record {
  antisymm = λ x y. sym (order_turned x y);
  trans = λ x y z e f. transitive x.coefficient y.coefficient z.coefficient (10 ^ x.scale) (10 ^ y.scale) (10 ^ z.scale) (ten_to_positive x.scale) (ten_to_positive y.scale) (ten_to_positive z.scale) e f;
  congr = λ x y z e. congruent x.coefficient y.coefficient z.coefficient (10 ^ x.scale) (10 ^ y.scale) (10 ^ z.scale) (ten_to_positive x.scale) (ten_to_positive y.scale) (ten_to_positive z.scale) e;
}

pub equal_is_same : (x y : Number) → IsNumber x → IsNumber y → order_of x y ≡ Equal → x ≡ y
unfolding order_of
equal_is_same x y h g e = number_unique x y h g (exact_signed _ _ e)

pub same_is_equal : (x y : Number) → x ≡ y → order_of x y ≡ Equal
same_is_equal x y e = ap (order_of x) (sym e) ∙ tied_itself order_total x

-- ---- sums and products in either order
either : (c : ℤ) → (bounded c ≡ Ok c) ⊎ (bounded c ≡ Err Overflow)
either c = elim (cases_lt (unsigned_abs c) limit) [ inl less ↦ inl (bounded_within c less) | inr more ↦ inr (bounded_beyond c more) ]

in_either_order : (a b : ℤ) (f : ℤ → ℤ → Result Number DecFault) → and_then (bounded a) (λ p. and_then (bounded b) (λ q. f p q)) ≡ and_then (bounded b) (λ q. and_then (bounded a) (λ p. f p q))
in_either_order a b f = elim (either a) [
  | inl e ↦ elim (either b) [ inl g ↦ rw (e, g) refl | inr g ↦ rw (e, g) refl ]
  | inr e ↦ elim (either b) [ inl g ↦ rw (e, g) refl | inr g ↦ rw (e, g) refl ]
]

max_turned : (m n : ℕ) → max m n ≡ max n m
max_turned m n = omega arith

-- the sum at s places
sum_at : ℕ → Number → Number → Result Number DecFault
sum_at s x y = and_then (aligned x s) (λ a. and_then (aligned y s) (λ b. and_then (bounded (a +ℤ b)) (λ c. number_at c s)))

sum_at_turned : (s : ℕ) (x y : Number) → sum_at s x y ≡ sum_at s y x
unfolding sum_at
sum_at_turned s x y =
    let p : ℤ = x.coefficient *ℤ pos (10 ^ (s - x.scale)) in
    let q : ℤ = y.coefficient *ℤ pos (10 ^ (s - y.scale)) in
    in_either_order p q (λ a b. and_then (bounded (a +ℤ b)) (λ c. number_at c s)) ∙ turned p q s
  where
    turned : (p q : ℤ) (s : ℕ) → and_then (bounded q) (λ b. and_then (bounded p) (λ a. and_then (bounded (a +ℤ b)) (λ c. number_at c s))) ≡ and_then (bounded q) (λ b. and_then (bounded p) (λ a. and_then (bounded (b +ℤ a)) (λ c. number_at c s)))
    turned p q s = elim (either q) [
      | inl e ↦ elim (either p) [
        | inl g ↦ rw (e, g) (ap (λ z. and_then (bounded z) (λ c. number_at c s)) (+ℤ_comm p q))
        | inr g ↦ rw (e, g) refl
      ]
      | inr e ↦ rw e refl
    ]

pub sum_turned : (x y : Number) → sum_of x y ≡ sum_of y x
unfolding sum_of sum_at
sum_turned x y = sum_at_turned (max x.scale y.scale) x y ∙ ap (λ s. sum_at s y x) (max_turned x.scale y.scale)

pub product_turned : (x y : Number) → product_of x y ≡ product_of y x
unfolding product_of
product_turned x y =
    let places : kept_places x.scale y.scale ≡ kept_places y.scale x.scale = omega arith in
    let scales : x.scale + y.scale ≡ y.scale + x.scale = omega arith in
    ap (λ c. and_then (bounded c) (λ p. rounded_within p (x.scale + y.scale) (kept_places x.scale y.scale))) (*ℤ_comm x.coefficient y.coefficient) ∙ ap (λ s. and_then (bounded (y.coefficient *ℤ x.coefficient)) (λ p. rounded_within p s (kept_places x.scale y.scale))) scales ∙ ap (λ t. and_then (bounded (y.coefficient *ℤ x.coefficient)) (λ p. rounded_within p (y.scale + x.scale) t)) places
