-- A sum and a difference have the exact value, so the one undoes the other.
use Rattle.std.proofs.Common.{◌≡◌, ℕ, ◌+◌, ◌-◌, ◌*◌, ◌^◌, ◌<◌, ◌≤◌, arith, refl, ap, ◌∙◌, sym, ℤ, pos, neg_ℤ, ◌+ℤ◌, ◌-ℤ◌, ◌*ℤ◌, Result, Ok, Err, Option, Some, None}
use Rattle.std.specs.Prelude.{max, ok_or}
use borrow.Author.Differences.{up, down, same_in, sum_is_lem, product_is, neg_is}
use Rattle.bas_dec.specs.Number.{Number, IsNumber, low}
use Rattle.bas_dec.specs.Arithmetic.{and_then, bounded, aligned, number_at, sum_of, difference_of}
use Rattle.bas_dec.specs.Fraction.{SameValue, value_of, plus, minus}
use Rattle.bas_dec.specs.declared.fault.DecFault.{DecFault}
use Rattle.bas_dec.specs.declared.fault.DecFault.TheVariants.{Overflow}
use Rattle.bas_dec.proofs.Integers.{cancel, times_cancel, times_twice, times_turned, sum_times, difference_times}
use Rattle.bas_dec.proofs.Powers.{ten_to_positive, ten_to_split, product_positive}
use Rattle.bas_dec.proofs.Bounds.{bounded_value}
use Rattle.bas_dec.proofs.Low.{IsNumberOf, low_sound, number_unique}

-- a chain that has a value had one at its first step
record HasFirst {A B : Type 0} (r : Result A DecFault) (f : A → Result B DecFault) (b : B) : Type 0 where
  first : A
  is : r ≡ Ok first
  then : f first ≡ Ok b

fault_is_no_value : {B : Type 0} (e : DecFault) (b : B) → Err e ≡ Ok b → ⊥
fault_is_no_value e b h = cc

has_first : {A B : Type 0} (r : Result A DecFault) (f : A → Result B DecFault) (b : B) → and_then r f ≡ Ok b → HasFirst r f b
has_first (Ok a) f b e = record { first = a; is = refl; then = e }
has_first (Err e) f b h = absurd (fault_is_no_value e b h)

low_there : (o : Option Number) (z : Number) → ok_or o Overflow ≡ Ok z → o ≡ Some z
low_there (Some x) z e = cc
low_there None z e = absurd (fault_is_no_value Overflow z e)

-- z is the number of (a + b) / 10 ^ s for the coefficients a and b of x and y at s places
sum_found : (s : ℕ) (x y z : Number) → and_then (aligned x s) (λ a. and_then (aligned y s) (λ b. and_then (bounded (a +ℤ b)) (λ c. number_at c s))) ≡ Ok z → IsNumberOf (x.coefficient *ℤ pos (10 ^ (s - x.scale)) +ℤ y.coefficient *ℤ pos (10 ^ (s - y.scale))) s z
sum_found s x y z e =
    let one = has_first (aligned x s) (λ a. and_then (aligned y s) (λ b. and_then (bounded (a +ℤ b)) (λ c. number_at c s))) z e in
    let two = has_first (aligned y s) (λ b. and_then (bounded (one.first +ℤ b)) (λ c. number_at c s)) z one.then in
    let three = has_first (bounded (one.first +ℤ two.first)) (λ c. number_at c s) z two.then in
    let p : one.first ≡ x.coefficient *ℤ pos (10 ^ (s - x.scale)) = bounded_value _ one.first (sym one.is) in
    let q : two.first ≡ y.coefficient *ℤ pos (10 ^ (s - y.scale)) = bounded_value _ two.first (sym two.is) in
    let r : three.first ≡ one.first +ℤ two.first = bounded_value _ three.first (sym three.is) in
    let same : three.first ≡ x.coefficient *ℤ pos (10 ^ (s - x.scale)) +ℤ y.coefficient *ℤ pos (10 ^ (s - y.scale)) = r ∙ ap (λ a. a +ℤ two.first) p ∙ ap (λ b. x.coefficient *ℤ pos (10 ^ (s - x.scale)) +ℤ b) q in
    rw (← same) (low_sound three.first s z (low_there (low three.first s) z three.then))

difference_found : (s : ℕ) (x y z : Number) → and_then (aligned x s) (λ a. and_then (aligned y s) (λ b. and_then (bounded (a -ℤ b)) (λ c. number_at c s))) ≡ Ok z → IsNumberOf (x.coefficient *ℤ pos (10 ^ (s - x.scale)) -ℤ y.coefficient *ℤ pos (10 ^ (s - y.scale))) s z
difference_found s x y z e =
    let one = has_first (aligned x s) (λ a. and_then (aligned y s) (λ b. and_then (bounded (a -ℤ b)) (λ c. number_at c s))) z e in
    let two = has_first (aligned y s) (λ b. and_then (bounded (one.first -ℤ b)) (λ c. number_at c s)) z one.then in
    let three = has_first (bounded (one.first -ℤ two.first)) (λ c. number_at c s) z two.then in
    let p : one.first ≡ x.coefficient *ℤ pos (10 ^ (s - x.scale)) = bounded_value _ one.first (sym one.is) in
    let q : two.first ≡ y.coefficient *ℤ pos (10 ^ (s - y.scale)) = bounded_value _ two.first (sym two.is) in
    let r : three.first ≡ one.first -ℤ two.first = bounded_value _ three.first (sym three.is) in
    let same : three.first ≡ x.coefficient *ℤ pos (10 ^ (s - x.scale)) -ℤ y.coefficient *ℤ pos (10 ^ (s - y.scale)) = r ∙ ap (λ a. a -ℤ two.first) p ∙ ap (λ b. x.coefficient *ℤ pos (10 ^ (s - x.scale)) -ℤ b) q in
    rw (← same) (low_sound three.first s z (low_there (low three.first s) z three.then))

-- a coefficient at the larger scale, times both powers, is the coefficient at the other's power
brought : (c : ℤ) (s t u : ℕ) → t ≤ s → c *ℤ pos (10 ^ (s - t)) *ℤ pos (10 ^ t * 10 ^ u) ≡ c *ℤ pos (10 ^ u) *ℤ pos (10 ^ s)
brought c s t u h = times_twice c (10 ^ (s - t)) (10 ^ t * 10 ^ u) ∙ ap (λ k. c *ℤ pos k) (grouped (10 ^ (s - t)) (10 ^ t) (10 ^ u) ∙ ap (λ k. 10 ^ u * k) (sym (ten_to_split t s h))) ∙ sym (times_twice c (10 ^ u) (10 ^ s))
  where
    grouped : (j k m : ℕ) → j * (k * m) ≡ m * (j * k)
    grouped j k m = omega arith

brought_turned : (c : ℤ) (s t u : ℕ) → t ≤ s → c *ℤ pos (10 ^ (s - t)) *ℤ pos (10 ^ u * 10 ^ t) ≡ c *ℤ pos (10 ^ u) *ℤ pos (10 ^ s)
brought_turned c s t u h = ap (λ k. c *ℤ pos (10 ^ (s - t)) *ℤ pos k) (turned (10 ^ u) (10 ^ t)) ∙ brought c s t u h
  where
    turned : (j k : ℕ) → j * k ≡ k * j
    turned j k = omega arith

pub sum_is_exact : (x y z : Number) → sum_of x y ≡ Ok z → IsNumber z × SameValue (value_of z) (plus (value_of x) (value_of y))
unfolding sum_of
sum_is_exact x y z e =
    let s : ℕ = max x.scale y.scale in
    let a : ℤ = x.coefficient *ℤ pos (10 ^ (s - x.scale)) in
    let b : ℤ = y.coefficient *ℤ pos (10 ^ (s - y.scale)) in
    let k : ℕ = 10 ^ x.scale * 10 ^ y.scale in
    let found : IsNumberOf (a +ℤ b) s z = sum_found s x y z e in
    let both : (a +ℤ b) *ℤ pos k ≡ (x.coefficient *ℤ pos (10 ^ y.scale) +ℤ y.coefficient *ℤ pos (10 ^ x.scale)) *ℤ pos (10 ^ s) =
    sum_times a b k ∙ ap (λ p. p +ℤ b *ℤ pos k) (brought x.coefficient s x.scale y.scale (omega arith)) ∙ ap (λ q. x.coefficient *ℤ pos (10 ^ y.scale) *ℤ pos (10 ^ s) +ℤ q) (brought_turned y.coefficient s y.scale x.scale (omega arith)) ∙ sym (sum_times (x.coefficient *ℤ pos (10 ^ y.scale)) (y.coefficient *ℤ pos (10 ^ x.scale)) (10 ^ s)) in
    (found.number, times_cancel _ _ (10 ^ s) (ten_to_positive s) (times_turned z.coefficient k (10 ^ s) ∙ ap (λ p. p *ℤ pos k) found.value ∙ times_turned (a +ℤ b) (10 ^ z.scale) k ∙ ap (λ p. p *ℤ pos (10 ^ z.scale)) both ∙ times_turned (x.coefficient *ℤ pos (10 ^ y.scale) +ℤ y.coefficient *ℤ pos (10 ^ x.scale)) (10 ^ s) (10 ^ z.scale)))

pub difference_is_exact : (x y z : Number) → difference_of x y ≡ Ok z → IsNumber z × SameValue (value_of z) (minus (value_of x) (value_of y))
unfolding difference_of
difference_is_exact x y z e =
    let s : ℕ = max x.scale y.scale in
    let a : ℤ = x.coefficient *ℤ pos (10 ^ (s - x.scale)) in
    let b : ℤ = y.coefficient *ℤ pos (10 ^ (s - y.scale)) in
    let k : ℕ = 10 ^ x.scale * 10 ^ y.scale in
    let found : IsNumberOf (a -ℤ b) s z = difference_found s x y z e in
    let both : (a -ℤ b) *ℤ pos k ≡ (x.coefficient *ℤ pos (10 ^ y.scale) -ℤ y.coefficient *ℤ pos (10 ^ x.scale)) *ℤ pos (10 ^ s) =
    difference_times a b k ∙ ap (λ p. p -ℤ b *ℤ pos k) (brought x.coefficient s x.scale y.scale (omega arith)) ∙ ap (λ q. x.coefficient *ℤ pos (10 ^ y.scale) *ℤ pos (10 ^ s) -ℤ q) (brought_turned y.coefficient s y.scale x.scale (omega arith)) ∙ sym (difference_times (x.coefficient *ℤ pos (10 ^ y.scale)) (y.coefficient *ℤ pos (10 ^ x.scale)) (10 ^ s)) in
    (found.number, times_cancel _ _ (10 ^ s) (ten_to_positive s) (times_turned z.coefficient k (10 ^ s) ∙ ap (λ p. p *ℤ pos k) found.value ∙ times_turned (a -ℤ b) (10 ^ z.scale) k ∙ ap (λ p. p *ℤ pos (10 ^ z.scale)) both ∙ times_turned (x.coefficient *ℤ pos (10 ^ y.scale) -ℤ y.coefficient *ℤ pos (10 ^ x.scale)) (10 ^ s) (10 ^ z.scale)))

-- an equation of a sum, over natural numbers
sum_sides : (z x y : ℤ) (k i j m : ℕ) → z *ℤ pos k ≡ (x *ℤ pos i +ℤ y *ℤ pos j) *ℤ pos m → up z * k + (down x * i + down y * j) * m ≡ down z * k + (up x * i + up y * j) * m
sum_sides z x y k i j m e =
    let s : ℤ = x *ℤ pos i +ℤ y *ℤ pos j in
    omega (arith, ap up e, ap down e, product_is z (pos k), product_is s (pos m), ap (λ n. n * m) (sum_is_lem (x *ℤ pos i) (y *ℤ pos j)), ap (λ n. n * m) ((product_is x (pos i)).0), ap (λ n. n * m) ((product_is x (pos i)).1), ap (λ n. n * m) ((product_is y (pos j)).0), ap (λ n. n * m) ((product_is y (pos j)).1))

difference_sides : (z x y : ℤ) (k i j m : ℕ) → z *ℤ pos k ≡ (x *ℤ pos i -ℤ y *ℤ pos j) *ℤ pos m → up z * k + (down x * i + up y * j) * m ≡ down z * k + (up x * i + down y * j) * m
difference_sides z x y k i j m e =
    let s : ℤ = x *ℤ pos i -ℤ y *ℤ pos j in
    omega (arith, ap up e, ap down e, product_is z (pos k), product_is s (pos m), ap (λ n. n * m) (sum_is_lem (x *ℤ pos i) (neg_ℤ (y *ℤ pos j))), ap (λ n. n * m) ((neg_is (y *ℤ pos j)).0), ap (λ n. n * m) ((neg_is (y *ℤ pos j)).1), ap (λ n. n * m) ((product_is x (pos i)).0), ap (λ n. n * m) ((product_is x (pos i)).1), ap (λ n. n * m) ((product_is y (pos j)).0), ap (λ n. n * m) ((product_is y (pos j)).1))

back_again : (wu wd zu zd xu xd yu yd w x y z : ℕ) → zu * (x * y) + (xd * y + yd * x) * z ≡ zd * (x * y) + (xu * y + yu * x) * z → wu * (z * y) + (zd * y + yu * z) * w ≡ wd * (z * y) + (zu * y + yd * z) * w → (wu * x + xd * w) * (z * y * y) ≡ (wd * x + xu * w) * (z * y * y)
back_again wu wd zu zd xu xd yu yd w x y z e f = omega (arith, ap (λ n. n * (y * w)) e, ap (λ n. n * (x * y)) f)

pub sum_undone : (x y z w : Number) → IsNumber x → sum_of x y ≡ Ok z → difference_of z y ≡ Ok w → w ≡ x
sum_undone x y z w h e f =
    let sum : IsNumber z × SameValue (value_of z) (plus (value_of x) (value_of y)) = sum_is_exact x y z e in
    let back : IsNumber w × SameValue (value_of w) (minus (value_of z) (value_of y)) = difference_is_exact z y w f in
    let a : ℤ = w.coefficient in
    let b : ℤ = x.coefficient in
    let all : (up a * 10 ^ x.scale + down b * 10 ^ w.scale) * (10 ^ z.scale * 10 ^ y.scale * 10 ^ y.scale) ≡ (down a * 10 ^ x.scale + up b * 10 ^ w.scale) * (10 ^ z.scale * 10 ^ y.scale * 10 ^ y.scale) =
    back_again (up a) (down a) (up z.coefficient) (down z.coefficient) (up b) (down b) (up y.coefficient) (down y.coefficient) (10 ^ w.scale) (10 ^ x.scale) (10 ^ y.scale) (10 ^ z.scale)
    (sum_sides z.coefficient x.coefficient y.coefficient (10 ^ x.scale * 10 ^ y.scale) (10 ^ y.scale) (10 ^ x.scale) (10 ^ z.scale) sum.1)
    (difference_sides w.coefficient z.coefficient y.coefficient (10 ^ z.scale * 10 ^ y.scale) (10 ^ y.scale) (10 ^ z.scale) (10 ^ w.scale) back.1) in
    let factor : 0 < 10 ^ z.scale * 10 ^ y.scale * 10 ^ y.scale = product_positive (10 ^ z.scale * 10 ^ y.scale) (10 ^ y.scale) (product_positive (10 ^ z.scale) (10 ^ y.scale) (ten_to_positive z.scale) (ten_to_positive y.scale)) (ten_to_positive y.scale) in
    let one : up a * 10 ^ x.scale + down b * 10 ^ w.scale ≡ down a * 10 ^ x.scale + up b * 10 ^ w.scale = cancel _ _ (10 ^ z.scale * 10 ^ y.scale * 10 ^ y.scale) factor all in
    number_unique w x back.0 h (same_in _ _ (omega (arith, one, product_is a (pos (10 ^ x.scale)), product_is b (pos (10 ^ w.scale)))))
