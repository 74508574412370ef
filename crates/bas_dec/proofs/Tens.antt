-- The table of the powers of ten.
use Rattle.std.proofs.Common.{◌≡◌, ℕ, zero, suc, ◌+◌, ◌^◌, ◌<◌, ◌≤◌, ◌==◌, ◌&&◌, arith, refl, ap, ◌∙◌, Bool, true, List, [], ◌∷◌, length, get_or, IsTrue}
use Rattle.std.proofs.lemmas.Bool.Decides.{nat_tests}
use Rattle.bas_dec.specs.declared.words.TheConstants.{TENS}

-- the items are the powers of ten from the kth on
abbrev are_tens : ℕ → List ℕ → Bool
are_tens k [] = true
are_tens k (x ∷ xs) = (x == 10 ^ k) && are_tens (suc k) xs

head_is : (x n : ℕ) (rest : Bool) → IsTrue ((x == n) && rest) → (x ≡ n) × IsTrue rest
head_is x n rest h = grind (arith, nat_tests)

item_is : (k i : ℕ) (xs : List ℕ) → IsTrue (are_tens k xs) → i < length xs → get_or xs i 0 ≡ 10 ^ (k + i)
item_is k i [] h g = absurd (omega arith)
item_is k zero (x ∷ xs) h g = (head_is x (10 ^ k) (are_tens (suc k) xs) h).0 ∙ ap (λ n. 10 ^ n) (omega arith)
item_is k (suc i) (x ∷ xs) h g = item_is (suc k) i xs ((head_is x (10 ^ k) (are_tens (suc k) xs) h).1) (omega arith) ∙ ap (λ n. 10 ^ n) (omega arith)

pub tens_rule : (k : ℕ) → k ≤ 38 → get_or TENS k 0 ≡ 10 ^ k
tens_rule k h = item_is 0 k TENS refl (omega arith) ∙ ap (λ n. 10 ^ n) (omega arith)
