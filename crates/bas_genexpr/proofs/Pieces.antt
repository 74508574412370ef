-- Lists that are made piece by piece, and loops over lists.
use Rattle.std.proofs.Common.{◌≡◌, ℕ, suc, ◌+◌, ◌<◌, List, [], ◌∷◌, ◌++◌, length, sym, ap, ◌∙◌, append_assoc, append-nil, add-one, drop, drop-cons, get_or}

module _ {A : Type 0} where
  pub two : (a b c xs ys : List A) → b ≡ a ++ xs → c ≡ b ++ ys → c ≡ a ++ (xs ++ ys)
  two a b c xs ys p q = q ∙ ap (λ l. l ++ ys) p ∙ append_assoc a xs ys

  pub three : (a b c d xs ys zs : List A) → b ≡ a ++ xs → c ≡ b ++ ys → d ≡ c ++ zs → d ≡ a ++ (xs ++ (ys ++ zs))
  three a b c d xs ys zs p q r = two a b d xs (ys ++ zs) p (two b c d ys zs q r)

  pub four : (a b c d e ws xs ys zs : List A) → b ≡ a ++ ws → c ≡ b ++ xs → d ≡ c ++ ys → e ≡ d ++ zs → e ≡ a ++ (ws ++ (xs ++ (ys ++ zs)))
  four a b c d e ws xs ys zs p q r s = two a b e ws (xs ++ (ys ++ zs)) p (three b c d e xs ys zs q r s)

  -- a piece of what was left has been made
  pub one_less : (a b xs rest all : List A) → b ≡ a ++ xs → a ++ (xs ++ rest) ≡ all → b ++ rest ≡ all
  one_less a b xs rest all p t = ap (λ l. l ++ rest) p ∙ append_assoc a xs rest ∙ t

  pub two_less : (a b c xs ys rest all : List A) → b ≡ a ++ xs → c ≡ b ++ ys → a ++ (xs ++ (ys ++ rest)) ≡ all → c ++ rest ≡ all
  two_less a b c xs ys rest all p q t = one_less b c ys rest all q (one_less a b xs (ys ++ rest) all p t)

  -- nothing is left
  pub none_left : (a rest all : List A) → rest ≡ [] → a ++ rest ≡ all → a ≡ all
  none_left a rest all e t = sym (append-nil a) ∙ ap (λ l. a ++ l) (sym e) ∙ t

  -- what is left at a turn of a loop
  pub turn : (xs : List A) (i : ℕ) (x : A) → i < length xs → x ≡ get_or xs i x → drop i xs ≡ x ∷ drop (i + 1) xs
  turn xs i x h e = rw (add-one, drop-cons xs i x, h) (ap (λ y. y ∷ drop (suc i) xs) (sym e))
