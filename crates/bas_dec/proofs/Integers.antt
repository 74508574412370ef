-- Rules of whole numbers: what a factor does to sums and products, and when it goes.
use Rattle.std.proofs.Common.{◌≡◌, ℕ, zero, suc, ◌+◌, ◌*◌, ◌/◌, ◌<◌, arith, refl, ap, ◌∙◌, sym, ℤ, pos, neg_ℤ, ◌+ℤ◌, ◌-ℤ◌, ◌*ℤ◌}
use Rattle.std.specs.Prelude.{int_div}
use Rattle.std.proofs.Math.Nat.{mul-div_cancel, zero-div}
use borrow.Author.Differences.{up, down, same_in, sum_is_lem, product_is, neg_is}

pub sum_times : (a b : ℤ) (k : ℕ) → (a +ℤ b) *ℤ pos k ≡ a *ℤ pos k +ℤ b *ℤ pos k
sum_times a b k = same_in _ _ (omega (arith, product_is (a +ℤ b) (pos k), ap (λ z. z * k) (sum_is_lem a b), sum_is_lem (a *ℤ pos k) (b *ℤ pos k), product_is a (pos k), product_is b (pos k)))

pub difference_times : (a b : ℤ) (k : ℕ) → (a -ℤ b) *ℤ pos k ≡ a *ℤ pos k -ℤ b *ℤ pos k
difference_times a b k =
    same_in _ _ (omega (arith, product_is (a -ℤ b) (pos k), ap (λ z. z * k) ((neg_is b).0), ap (λ z. z * k) ((neg_is b).1), ap (λ z. z * k) (sum_is_lem a (neg_ℤ b)), sum_is_lem (a *ℤ pos k) (neg_ℤ (b *ℤ pos k)), neg_is (b *ℤ pos k), product_is a (pos k), product_is b (pos k)))

pub times_twice : (a : ℤ) (j k : ℕ) → a *ℤ pos j *ℤ pos k ≡ a *ℤ pos (j * k)
times_twice a j k = same_in _ _ (omega (arith, product_is (a *ℤ pos j) (pos k), ap (λ z. z * k) ((product_is a (pos j)).0), ap (λ z. z * k) ((product_is a (pos j)).1), product_is a (pos (j * k))))

-- two factors change places
pub times_turned : (a : ℤ) (j k : ℕ) → a *ℤ pos j *ℤ pos k ≡ a *ℤ pos k *ℤ pos j
times_turned a j k = times_twice a j k ∙ ap (λ n. a *ℤ pos n) (omega arith) ∙ sym (times_twice a k j)

pub neg_times : (a : ℤ) (k : ℕ) → neg_ℤ a *ℤ pos k ≡ neg_ℤ (a *ℤ pos k)
neg_times a k = same_in _ _ (omega (arith, product_is (neg_ℤ a) (pos k), ap (λ z. z * k) ((neg_is a).0), ap (λ z. z * k) ((neg_is a).1), neg_is (a *ℤ pos k), product_is a (pos k)))

pub cancel : (m n k : ℕ) → 0 < k → m * k ≡ n * k → m ≡ n
cancel m n k h e = sym (mul-div_cancel m h) ∙ ap (λ z. z / k) e ∙ mul-div_cancel n h

pub times_cancel : (a b : ℤ) (k : ℕ) → 0 < k → a *ℤ pos k ≡ b *ℤ pos k → a ≡ b
times_cancel a b k h e = same_in a b (cancel (up a + down b) (up b + down a) k h (omega (arith, ap up e, ap down e, product_is a (pos k), product_is b (pos k))))

pub times_one : (a : ℤ) → a *ℤ pos 1 ≡ a
times_one a = same_in _ _ (omega (arith, product_is a (pos 1)))

pub div_negative : (m q : ℕ) → int_div (neg_ℤ (pos m)) (pos q) ≡ neg_ℤ (pos (m / q))
div_negative zero q = let none : 0 / q ≡ 0 = zero-div q in rw none refl
div_negative (suc m) q = refl
