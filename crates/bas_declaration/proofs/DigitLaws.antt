-- The number that digits write, held digit by digit.
use Rattle.std.proofs.Common.{◌≡◌, ℕ, suc, ◌+◌, ◌-◌, ◌*◌, ◌≤◌, ◌<◌, min, List, [], ◌∷◌, ◌++◌, length, take, get_or, refl, ap, ◌∙◌, arith}
use Rattle.std.proofs.lemmas.List.Sums.{fold-append}
use Rattle.std.proofs.Math.Seq.{take-suc}
use Rattle.bas_dec.specs.Numeral.{number_written}
use Rattle.bas_declaration.specs.Digits.{held}

capped : (n k : ℕ) → min 4294967295 (n * 10 + k) ≡ min (min 4294967295 n * 10 + k) 4294967295
capped n k = omega arith

pub held_none : 0 ≡ held []
unfolding held
held_none = refl

pub held_small : (xs : List ℕ) → held xs ≤ 4294967295
unfolding held
held_small xs = omega arith

pub held_more : (xs : List ℕ) (d : ℕ) → held (xs ++ d ∷ []) ≡ min (held xs * 10 + (d - 48)) 4294967295
unfolding held
held_more xs d = ap (λ n. min 4294967295 n) (fold-append (λ m digit. m * 10 + (digit - 48)) 0 xs (d ∷ [])) ∙ capped (number_written xs) (d - 48)

pub held_next : (text : List ℕ) (i v : ℕ) → i < length text → v ≡ held (take i text) → min (v * 10 + (get_or text i 0 - 48)) 4294967295 ≡ held (take (i + 1) text)
held_next text i v h e = let one : i + 1 ≡ suc i = omega arith in rw (one, take-suc text i 0 h, held_more (take i text) (get_or text i 0), e) refl
