-- The number of a value: there is at most one, and `low` finds it.
use Rattle.std.proofs.Common.{◌≡◌, ℕ, zero, suc, ◌+◌, ◌-◌, ◌*◌, ◌%◌, ◌^◌, ◌<◌, ◌≤◌, arith, refl, ap, ◌∙◌, sym, inl, inr, subst, add-zero, ℤ, pos, negsuc, neg_ℤ, ◌*ℤ◌, Some}
use Rattle.std.specs.Prelude.{unsigned_abs}
use Rattle.std.proofs.Math.Nat.{pow-suc}
use Rattle.std.proofs.lemmas.Bool.{cases_lt}
use Rattle.std.proofs.lemmas.Bool.Decides.{nat_tests}
use Rattle.std.proofs.lemmas.Nat.{pow-add}
use Rattle.std.proofs.lemmas.Int.{unsigned_abs-mul}
use Rattle.bas_dec.specs.Number.{Number, IsNumber, limit, stripped, with_sign, number_of, low}
use Rattle.bas_dec.specs.declared.TheConstants.{PLACES}
use Rattle.bas_dec.proofs.Integers.{cancel}
use Rattle.bas_dec.proofs.Lowest.{IsStripped, is_stripped}
use Rattle.bas_dec.proofs.Powers.{ten_to_positive, product_positive}

regroup : (a k m r : ℕ) → a * (k * 10 * m) ≡ r → a * (k * 10) * m ≡ r
regroup a k m r e = omega arith

ends : (b k : ℕ) → b ≡ k * 10 → 0 < b % 10 → ⊥
ends b k e h = omega arith

ordered : (a b i d : ℕ) → (0 < i + d → 0 < b % 10) → a * 10 ^ (i + d) ≡ b * 10 ^ i → (a ≡ b) × (d ≡ 0)
ordered a b i zero g e = (cancel a b (10 ^ i) (ten_to_positive i) (ap (λ k. a * 10 ^ k) (sym (add-zero i)) ∙ e), refl)
ordered a b i (suc d) g e =
    let split : 10 ^ (i + suc d) ≡ 10 ^ d * 10 * 10 ^ i = pow-add 10 i (suc d) ∙ rw pow-suc (omega arith) in
    let same : a * (10 ^ d * 10) ≡ b = cancel (a * (10 ^ d * 10)) b (10 ^ i) (ten_to_positive i) (regroup a (10 ^ d) (10 ^ i) (b * 10 ^ i) (rw split at e)) in
    absurd (ends b (a * 10 ^ d) (sym same ∙ omega arith) (g (omega arith)))

-- two sizes of one value in lowest form are the same
pub lowest_unique : (a b i j : ℕ) → (0 < i → 0 < a % 10) → (0 < j → 0 < b % 10) → a * 10 ^ j ≡ b * 10 ^ i → (a ≡ b) × (i ≡ j)
lowest_unique a b i j h g e = elim (cases_lt i j) [
  | inl less ↦ let d : i + (j - i) ≡ j = omega arith in
      let r : (a ≡ b) × (j - i ≡ 0) = ordered a b i (j - i) (λ some. g (omega arith)) (ap (λ k. a * 10 ^ k) d ∙ e) in
      (r.0, omega (arith, r.1))
  | inr more ↦ let d : j + (i - j) ≡ i = omega arith in
      let r : (b ≡ a) × (i - j ≡ 0) = ordered b a j (i - j) (λ some. h (omega arith)) (ap (λ k. b * 10 ^ k) d ∙ sym e) in
      (sym r.0, omega (arith, r.1))
]

-- the sign of c goes over to what is left of it
pub sign_value : (c : ℤ) (m k n : ℕ) → m * k ≡ unsigned_abs c * n → with_sign c m *ℤ pos k ≡ c *ℤ pos n
sign_value (pos a) m k n e = ap pos e
sign_value (negsuc a) zero k n e = let none : suc a * n ≡ 0 = omega (arith, e) in let left : 0 * k ≡ 0 = omega arith in rw (none, left) refl
sign_value (negsuc a) (suc m) k n e = ap (λ z. neg_ℤ (pos z)) e

opposite_signs : (a b : ℕ) → 0 < b → neg_ℤ (pos b) ≡ pos a → ⊥
opposite_signs a zero h e = absurd (omega arith)
opposite_signs a (suc b) h e = cc

-- numbers of one value have one sign
pub sign_back : (c d : ℤ) (k n : ℕ) → 0 < k → 0 < n → d *ℤ pos k ≡ c *ℤ pos n → with_sign c (unsigned_abs d) ≡ d
sign_back (pos a) (pos b) k n h g e = refl
sign_back (pos a) (negsuc b) k n h g e = absurd (opposite_signs (a * n) (suc b * k) (product_positive (suc b) k (omega arith) h) e)
sign_back (negsuc a) (pos b) k n h g e = absurd (opposite_signs (b * k) (suc a * n) (product_positive (suc a) n (omega arith) g) (sym e))
sign_back (negsuc a) (negsuc b) k n h g e = refl

pub size_with_sign : (c : ℤ) (n : ℕ) → unsigned_abs (with_sign c n) ≡ n
size_with_sign (pos _) n = refl
size_with_sign (negsuc _) zero = refl
size_with_sign (negsuc _) (suc n) = refl

-- x is the number of the value c / 10 ^ s
pub record IsNumberOf (c : ℤ) (s : ℕ) (x : Number) : Type 0 where
  pub number : IsNumber x
  pub value : x.coefficient *ℤ pos (10 ^ s) ≡ c *ℤ pos (10 ^ x.scale)

number_of_some : (c : ℤ) (s : ℕ) (x : Number) → number_of c s ≡ Some x → (unsigned_abs c < limit) × (s ≤ PLACES) × (record { coefficient = c; scale = s } ≡ x)
number_of_some c s x e = grind (arith, nat_tests)

pub number_of_itself : (c : ℤ) (s : ℕ) → unsigned_abs c < limit → s ≤ PLACES → number_of c s ≡ Some (record { coefficient = c; scale = s })
number_of_itself c s small few = grind (arith, nat_tests)

small_of : {c : ℤ} {s : ℕ} {x : Number} → IsNumberOf c s x → unsigned_abs x.coefficient * 10 ^ s ≡ unsigned_abs c * 10 ^ x.scale
small_of {c} {s} {x} h = sym (unsigned_abs-mul x.coefficient (pos (10 ^ s))) ∙ ap unsigned_abs h.value ∙ unsigned_abs-mul c (pos (10 ^ x.scale))

same_part : (a b c i j k : ℕ) → a * k ≡ c * i → b * k ≡ c * j → a * j * k ≡ b * i * k
same_part a b c i j k e f = omega (arith, ap (λ z. z * j) e, ap (λ z. z * i) f)

-- what `low` finds is the number of the value
pub low_sound : (c : ℤ) (s : ℕ) (x : Number) → low c s ≡ Some x → IsNumberOf c s x
unfolding low
low_sound c s x e =
    let n : ℕ = unsigned_abs c in
    let m : ℕ = (stripped n s).0 in
    let t : ℕ = (stripped n s).1 in
    let left : IsStripped n s m t = is_stripped n s m t refl in
    let found : (unsigned_abs (with_sign c m) < limit) × (t ≤ PLACES) × (record { coefficient = with_sign c m; scale = t } ≡ x) = number_of_some (with_sign c m) t x e in
    let P : Number → Type 0 = λ y. IsNumberOf c s y in
    subst P found.2 (record {
      number = record { small = found.0; places = found.1; lowest = rw (size_with_sign c m) left.lowest };
      value = sign_value c m (10 ^ s) (10 ^ t) left.value;
    })

-- the number of the value is found
pub low_complete : (c : ℤ) (s : ℕ) (x : Number) → IsNumberOf c s x → low c s ≡ Some x
unfolding low
low_complete c s x h =
    let n : ℕ = unsigned_abs c in
    let m : ℕ = (stripped n s).0 in
    let t : ℕ = (stripped n s).1 in
    let left : IsStripped n s m t = is_stripped n s m t refl in
    let digits : unsigned_abs x.coefficient * 10 ^ s ≡ n * 10 ^ x.scale = small_of h in
    let one : unsigned_abs x.coefficient * 10 ^ t ≡ m * 10 ^ x.scale = cancel _ _ (10 ^ s) (ten_to_positive s) (same_part (unsigned_abs x.coefficient) m n (10 ^ x.scale) (10 ^ t) (10 ^ s) digits left.value) in
    let same : (unsigned_abs x.coefficient ≡ m) × (x.scale ≡ t) = lowest_unique (unsigned_abs x.coefficient) m x.scale t h.number.lowest left.lowest one in
    let back : with_sign c (unsigned_abs x.coefficient) ≡ x.coefficient = sign_back c x.coefficient (10 ^ s) (10 ^ x.scale) (ten_to_positive s) (ten_to_positive x.scale) h.value in
    rw (← same.0, ← same.1, back) (number_of_itself x.coefficient x.scale h.number.small h.number.places)

-- a number is that of its own value
pub low_itself : (x : Number) → IsNumber x → low x.coefficient x.scale ≡ Some x
low_itself x h = low_complete x.coefficient x.scale x (record { number = h; value = refl })

-- two numbers of one value are one
pub number_unique : (x y : Number) → IsNumber x → IsNumber y → x.coefficient *ℤ pos (10 ^ y.scale) ≡ y.coefficient *ℤ pos (10 ^ x.scale) → x ≡ y
number_unique x y h g e =
    let found : low y.coefficient y.scale ≡ Some x = low_complete y.coefficient y.scale x (record { number = h; value = e }) in
    same_some (sym found ∙ low_itself y g)
  where
    same_some : {a b : Number} → Some a ≡ Some b → a ≡ b
    same_some e = cc
