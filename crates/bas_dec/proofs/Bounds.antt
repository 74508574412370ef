-- Where a coefficient reaches the limit.
use Rattle.std.proofs.Common.{◌≡◌, ℕ, zero, suc, ◌^◌, ◌<◌, ◌≤◌, arith, refl, ℤ, pos, negsuc, ◌*ℤ◌, Ok, Err}
use Rattle.std.specs.Prelude.{unsigned_abs}
use Rattle.std.proofs.lemmas.Bool.Decides.{nat_tests}
use Rattle.std.proofs.lemmas.Int.{unsigned_abs-mul}
use Rattle.bas_dec.specs.declared.fault.DecFault.{DecFault}
use Rattle.bas_dec.specs.declared.fault.DecFault.TheVariants.{Overflow}
use Rattle.bas_dec.specs.Number.{limit}
use Rattle.bas_dec.specs.Arithmetic.{bounded}
use Rattle.bas_dec.proofs.Powers.{raised_reaches, product_positive, ten_to_positive}

pub bounded_within : (c : ℤ) → unsigned_abs c < limit → bounded c ≡ Ok c
bounded_within c h = grind (arith, nat_tests)

pub bounded_beyond : (c : ℤ) → limit ≤ unsigned_abs c → bounded c ≡ Err Overflow
bounded_beyond c h = grind (arith, nat_tests)

pub bounded_value : (c a : ℤ) → Ok a ≡ bounded c → a ≡ c
bounded_value c a e = grind (arith, nat_tests)

pub bounded_small : (c a : ℤ) → Ok a ≡ bounded c → unsigned_abs c < limit
bounded_small c a e = grind (arith, nat_tests)

pub bounded_fault : (c : ℤ) (e : DecFault) → Err e ≡ bounded c → limit ≤ unsigned_abs c
bounded_fault c e h = grind (arith, nat_tests)

pub size_positive : (c : ℤ) → (c ≡ pos 0 → ⊥) → 0 < unsigned_abs c
size_positive (pos zero) h = absurd (h refl)
size_positive (pos (suc n)) h = omega arith
size_positive (negsuc n) h = omega arith

pub raised_beyond : (c : ℤ) (zeros : ℕ) → (c ≡ pos 0 → ⊥) → 38 ≤ zeros → bounded (c *ℤ pos (10 ^ zeros)) ≡ Err Overflow
raised_beyond c zeros some h =
    bounded_beyond (c *ℤ pos (10 ^ zeros)) (omega (arith, unsigned_abs-mul c (pos (10 ^ zeros)), raised_reaches (unsigned_abs c) zeros (size_positive c some) h))

pub raised_positive : (c : ℤ) (zeros : ℕ) → 0 < unsigned_abs c → 0 < unsigned_abs (c *ℤ pos (10 ^ zeros))
raised_positive c zeros h = rw unsigned_abs-mul (product_positive (unsigned_abs c) (10 ^ zeros) h (ten_to_positive zeros))
