-- The lowest form: what is taken off, and what stays.
use Rattle.std.proofs.Common.{◌≡◌, ℕ, zero, suc, ◌+◌, ◌-◌, ◌*◌, ◌/◌, ◌%◌, ◌^◌, ◌<◌, ◌≤◌, ◌==◌, arith, refl, ap, ◌∙◌, sym, Bool, true, false, inl, inr, subst, add-zero, add-suc}
use Rattle.std.specs.Prelude.{unsigned_abs}
use Rattle.std.proofs.Math.Numerals.{sub-one}
use Rattle.std.proofs.lemmas.Bool.{ne_eqb}
use Rattle.std.proofs.lemmas.Nat.{div-add-mod', pow-add}
use Rattle.std.proofs.Math.Nat.{pow-suc, eq-zero-or-pos, mul-mod_left}
use Rattle.bas_dec.specs.Number.{signed, with_sign, stripped, low, number_of}

pub stripped_zero : (n s : ℕ) → 0 < s → n % 10 ≡ 0 → stripped n s ≡ stripped (n / 10) (s - 1)
unfolding stripped
stripped_zero n zero h e = absurd (omega arith)
stripped_zero n (suc s) h e = rw (e, sub-one) refl

pub stripped_nonzero : (n s : ℕ) → (0 < s → 0 < n % 10) → stripped n s ≡ (n, s)
unfolding stripped
stripped_nonzero n zero h = refl
stripped_nonzero n (suc s) h = let off : (n % 10 == 0) ≡ false = ne_eqb _ _ (λ e. omega (arith, h (omega arith))) in rw off refl

raised_once : (n s : ℕ) → stripped (n * 10) (suc s) ≡ stripped n s
raised_once n s = stripped_zero (n * 10) (suc s) (omega arith) (omega arith) ∙ ap (λ m. stripped m (suc s - 1)) (omega arith) ∙ ap (stripped n) (omega arith)

-- zeros put behind a number are taken off again
pub stripped_raised : (n s k : ℕ) → stripped (n * 10 ^ k) (s + k) ≡ stripped n s
stripped_raised n s zero = ap (λ m. stripped m (s + 0)) (omega arith) ∙ ap (stripped n) (add-zero s)
stripped_raised n s (suc k) =
    let one : n * 10 ^ suc k ≡ n * 10 ^ k * 10 = rw pow-suc (omega arith) in
    rw (one, add-suc) (raised_once (n * 10 ^ k) (s + k) ∙ stripped_raised n s k)

-- k zeros are taken off at once
pub stripped_zeros : (n s k : ℕ) → k ≤ s → n % 10 ^ k ≡ 0 → stripped n s ≡ stripped (n / 10 ^ k) (s - k)
stripped_zeros n s k h e =
    let digits : n ≡ n / 10 ^ k * 10 ^ k = omega (arith, div-add-mod' n (10 ^ k)) in
    let places : s ≡ s - k + k = omega arith in
    ap (λ m. stripped m s) digits ∙ ap (stripped (n / 10 ^ k * 10 ^ k)) places ∙ stripped_raised (n / 10 ^ k) (s - k) k

-- where fewer than twice z zeros stand at the end, fewer than z are left without z
pub fewer_zeros : (n z : ℕ) → n % 10 ^ z ≡ 0 → 0 < n % 10 ^ (2 * z) → 0 < n / 10 ^ z % 10 ^ z
fewer_zeros n z e h = elim (eq-zero-or-pos (n / 10 ^ z % 10 ^ z)) [
  | inl none ↦
      let p : ℕ = 10 ^ z in
      let q : ℕ = n / p in
      let once : n ≡ q * p = omega (arith, div-add-mod' n p) in
      let twice : q ≡ q / p * p = omega (arith, div-add-mod' q p) in
      let both : n ≡ q / p * (p * p) = once ∙ ap (λ m. m * p) twice ∙ omega arith in
      let square : 10 ^ (2 * z) ≡ p * p = ap (λ k. 10 ^ k) (omega arith) ∙ pow-add 10 z z in
      let rest : n % 10 ^ (2 * z) ≡ 0 = ap (λ m. n % m) square ∙ ap (λ m. m % (p * p)) both ∙ mul-mod_left (q / p) (p * p) in
      absurd (omega (arith, h, rest))
  | inr some ↦ some
]

-- m / 10 ^ t is n / 10 ^ s without the zeros at the end of its fraction
pub record IsStripped (n s m t : ℕ) : Type 0 where
  pub value : m * 10 ^ s ≡ n * 10 ^ t
  pub lowest : 0 < t → 0 < m % 10
  pub size : m ≤ n
  pub places : t ≤ s

ten_times : (n q s m t : ℕ) → n ≡ q * 10 → m * 10 ^ s ≡ q * 10 ^ t → m * 10 ^ suc s ≡ n * 10 ^ t
ten_times n q s m t e h = rw (pow-suc, e) (omega (arith, h))

one_more : (n s m t : ℕ) → n % 10 ≡ 0 → IsStripped (n / 10) s m t → IsStripped n (suc s) m t
one_more n s m t e h = record {
  value = ten_times n (n / 10) s m t (omega arith) h.value;
  lowest = h.lowest;
  size = omega (arith, h.size);
  places = omega (arith, h.places);
}

as_it_is : (n s : ℕ) → (0 < s → 0 < n % 10) → IsStripped n s n s
as_it_is n s h = record { value = refl; lowest = h; size = omega arith; places = omega arith }

pub stripped_is : (n s : ℕ) → IsStripped n s (stripped n s).0 (stripped n s).1
unfolding stripped
stripped_is n zero = as_it_is n 0 (λ h. absurd (omega arith))
stripped_is n (suc s) =
    elim (eq-zero-or-pos (n % 10)) [
      | inl e ↦ rw (stripped_zero n (suc s) (omega arith) e, sub-one) (one_more n s _ _ e (stripped_is (n / 10) s))
      | inr some ↦ rw (stripped_nonzero n (suc s) (λ _. some)) (as_it_is n (suc s) (λ _. some))
    ]

-- the same of a pair that is known to be what stays
pub is_stripped : (n s m t : ℕ) → (m, t) ≡ stripped n s → IsStripped n s m t
is_stripped n s m t e =
    let P : ℕ × ℕ → Type 0 = λ p. IsStripped n s p.0 p.1 in subst P (sym e) (stripped_is n s)

sign_kept : (b : Bool) (n m : ℕ) → m ≤ n → with_sign (signed b n) m ≡ signed b m
sign_kept false n m h = refl
sign_kept true zero m h = let none : m ≡ 0 = omega arith in rw none refl
sign_kept true (suc n) m h = refl

pub size_signed : (b : Bool) (n : ℕ) → unsigned_abs (signed b n) ≡ n
size_signed false n = refl
size_signed true zero = refl
size_signed true (suc n) = refl

pub low_stripped : (b : Bool) (n s m t : ℕ) → (m, t) ≡ stripped n s → number_of (signed b m) t ≡ low (signed b n) s
unfolding low
low_stripped b n s m t e =
    let left : IsStripped n s m t = is_stripped _ _ _ _ e in
    rw (size_signed b n, ← e, sign_kept b n m left.size) refl
