-- The number that has the value of a fraction.
use Rattle.std.proofs.Common.{◌≡◌, ℕ, zero, suc, ◌-◌, ◌*◌, ◌%◌, ◌^◌, ◌<◌, ◌==◌, arith, refl, ap, ◌∙◌, sym, ℤ, pos, negsuc, neg_ℤ, ◌+ℤ◌, ◌*ℤ◌, Option, Some, None, Ok, eq-eqb, inl, inr, true, false}
use Rattle.std.specs.Prelude.{unsigned_abs, int_div, int_rem}
use Rattle.std.proofs.lemmas.Bool.{ne_eqb}
use Rattle.std.proofs.lemmas.Int.{quot-rem}
use Rattle.std.proofs.Math.Nat.{mul-div_cancel, mul-mod_left, eq-zero-or-pos}
use Rattle.std.proofs.Math.IntN.{+ℤ_idr}
use Rattle.bas_dec.specs.Number.{Number, IsNumber, low}
use Rattle.bas_dec.specs.Arithmetic.{number_at}
use Rattle.bas_dec.specs.Fraction.{Fraction, number_equal_to, number_with}
use Rattle.bas_dec.specs.declared.TheConstants.{PLACES}
use Rattle.bas_dec.proofs.Integers.{times_twice, times_turned, times_cancel, div_negative}
use Rattle.bas_dec.proofs.Powers.{ten_to_positive, ten_to_split}
use Rattle.bas_dec.proofs.Low.{IsNumberOf, low_sound, low_complete}

-- x is the number of the value of a
pub record IsNumberWith (a : Fraction) (x : Number) : Type 0 where
  pub number : IsNumber x
  pub value : x.coefficient *ℤ pos a.denominator ≡ a.numerator *ℤ pos (10 ^ x.scale)

pub div_exact : (z : ℤ) (q : ℕ) → 0 < q → int_div (z *ℤ pos q) (pos q) ≡ z
div_exact (pos a) q h = ap pos (mul-div_cancel a h)
div_exact (negsuc a) q h = div_negative (suc a * q) q ∙ ap (λ n. neg_ℤ (pos n)) (mul-div_cancel (suc a) h)

rem_exact : (z : ℤ) (q : ℕ) → 0 < q → unsigned_abs (int_rem (z *ℤ pos q) (pos q)) ≡ 0
rem_exact (pos a) q h = mul-mod_left a q
rem_exact (negsuc a) q h = rest (suc a * q) q (mul-mod_left (suc a) q)
  where
    rest : (m q : ℕ) → m % q ≡ 0 → unsigned_abs (int_rem (neg_ℤ (pos m)) (pos q)) ≡ 0
    rest zero q e = e
    rest (suc m) q e = rw e refl

size_zero : (z : ℤ) → unsigned_abs z ≡ 0 → z ≡ pos 0
size_zero (pos n) e = ap pos e
size_zero (negsuc n) e = absurd (omega arith)

-- a fraction with no rest is whole
no_rest : (n : ℤ) (q : ℕ) → unsigned_abs (int_rem n (pos q)) ≡ 0 → int_div n (pos q) *ℤ pos q ≡ n
no_rest n q e = sym (+ℤ_idr (int_div n (pos q) *ℤ pos q)) ∙ ap (λ r. int_div n (pos q) *ℤ pos q +ℤ r) (sym (size_zero (int_rem n (pos q)) e)) ∙ quot-rem n (pos q)

pub equal_to_complete : (a : Fraction) (x : Number) → 0 < a.denominator → IsNumberWith a x → number_equal_to a ≡ Some x
unfolding number_equal_to
equal_to_complete a x some h =
    let z : ℤ = x.coefficient *ℤ pos (10 ^ (PLACES - x.scale)) in
    let split : 10 ^ PLACES ≡ 10 ^ (PLACES - x.scale) * 10 ^ x.scale = ten_to_split x.scale PLACES h.number.places in
    let scaled : a.numerator *ℤ pos (10 ^ PLACES) ≡ z *ℤ pos a.denominator =
    ap (λ k. a.numerator *ℤ pos k) (split ∙ swapped (10 ^ (PLACES - x.scale)) (10 ^ x.scale)) ∙ sym (times_twice a.numerator (10 ^ x.scale) (10 ^ (PLACES - x.scale))) ∙ ap (λ k. k *ℤ pos (10 ^ (PLACES - x.scale))) (sym h.value) ∙ times_turned x.coefficient a.denominator (10 ^ (PLACES - x.scale)) in
    let value : x.coefficient *ℤ pos (10 ^ PLACES) ≡ z *ℤ pos (10 ^ x.scale) = ap (λ k. x.coefficient *ℤ pos k) split ∙ sym (times_twice x.coefficient (10 ^ (PLACES - x.scale)) (10 ^ x.scale)) in
    let whole : (unsigned_abs (int_rem (z *ℤ pos a.denominator) (pos a.denominator)) == 0) ≡ true = eq-eqb _ _ (rem_exact z a.denominator some) in
    rw (scaled, whole, div_exact z a.denominator some) (low_complete z PLACES x (record { number = h.number; value = value }))
  where
    swapped : (j k : ℕ) → j * k ≡ k * j
    swapped j k = omega arith

pub equal_to_sound : (a : Fraction) (x : Number) → 0 < a.denominator → number_equal_to a ≡ Some x → IsNumberWith a x
unfolding number_equal_to
equal_to_sound a x some e =
    let n : ℤ = a.numerator *ℤ pos (10 ^ PLACES) in
    elim (eq-zero-or-pos (unsigned_abs (int_rem n (pos a.denominator)))) [
      | inl none ↦
          let test : (unsigned_abs (int_rem n (pos a.denominator)) == 0) ≡ true = eq-eqb _ _ none in
          let m : ℤ = int_div n (pos a.denominator) in
          let found : IsNumberOf m PLACES x = low_sound m PLACES x (rw test at e) in
          let exact : m *ℤ pos a.denominator ≡ n = no_rest n a.denominator none in
          record {
            number = found.number;
            value = times_cancel _ _ (10 ^ PLACES) (ten_to_positive PLACES) (times_turned x.coefficient a.denominator (10 ^ PLACES) ∙ ap (λ k. k *ℤ pos a.denominator) found.value ∙ times_turned m (10 ^ x.scale) a.denominator ∙ ap (λ k. k *ℤ pos (10 ^ x.scale)) exact ∙ times_turned a.numerator (10 ^ PLACES) (10 ^ x.scale));
          }
      | inr rest ↦
          let test : (unsigned_abs (int_rem n (pos a.denominator)) == 0) ≡ false = ne_eqb _ _ (λ z. omega (arith, z, rest)) in
          absurd (nothing None x refl (rw test at e))
    ]
  where
    nothing : (o : Option Number) (y : Number) → o ≡ None → o ≡ Some y → ⊥
    nothing o y e f = cc

same_option : (o p : Option Number) → ((x : Number) → o ≡ Some x → p ≡ Some x) → ((x : Number) → p ≡ Some x → o ≡ Some x) → o ≡ p
same_option (Some x) p f g = sym (f x refl)
same_option None (Some y) f g = g y refl
same_option None None f g = refl

-- the number of a fraction is that of a coefficient and a scale with its value
pub equal_to_low : (a : Fraction) (c : ℤ) (s : ℕ) → 0 < a.denominator → c *ℤ pos a.denominator ≡ a.numerator *ℤ pos (10 ^ s) → number_equal_to a ≡ low c s
equal_to_low a c s some e = same_option (number_equal_to a) (low c s) (λ x f. low_complete c s x (down x (equal_to_sound a x some f))) (λ x f. equal_to_complete a x some (up x (low_sound c s x f)))
  where
    down : (x : Number) → IsNumberWith a x → IsNumberOf c s x
    down x h = record {
      number = h.number;
      value = times_cancel _ _ a.denominator some (times_turned x.coefficient (10 ^ s) a.denominator ∙ ap (λ k. k *ℤ pos (10 ^ s)) h.value ∙ times_turned a.numerator (10 ^ x.scale) (10 ^ s) ∙ ap (λ k. k *ℤ pos (10 ^ x.scale)) (sym e) ∙ times_turned c a.denominator (10 ^ x.scale));
    }

    up : (x : Number) → IsNumberOf c s x → IsNumberWith a x
    up x h = record {
      number = h.number;
      value = times_cancel _ _ (10 ^ s) (ten_to_positive s) (times_turned x.coefficient a.denominator (10 ^ s) ∙ ap (λ k. k *ℤ pos a.denominator) h.value ∙ times_turned c (10 ^ x.scale) a.denominator ∙ ap (λ k. k *ℤ pos (10 ^ x.scale)) e ∙ times_turned a.numerator (10 ^ s) (10 ^ x.scale));
    }

pub number_with_is : (a : Fraction) (c : ℤ) (s : ℕ) → 0 < a.denominator → c *ℤ pos a.denominator ≡ a.numerator *ℤ pos (10 ^ s) → number_with a ≡ number_at c s
number_with_is a c s some e = rw (equal_to_low a c s some e) refl

-- a number with the value of the fraction
pub number_with_this : (a : Fraction) (x : Number) → 0 < a.denominator → IsNumber x → x.coefficient *ℤ pos a.denominator ≡ a.numerator *ℤ pos (10 ^ x.scale) → number_with a ≡ Ok x
number_with_this a x some h e = rw (equal_to_complete a x some (record { number = h; value = e })) refl
