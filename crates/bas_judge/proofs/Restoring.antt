-- The lines that statements restore.
use Rattle.std.proofs.Common.{◌≡◌, Bool, ◌||◌, List, [], ◌∷◌, ◌++◌, append-nil, append_assoc, refl, sym, ap, ◌∙◌}
use Rattle.std.specs.List.{list_any}
use Rattle.std.proofs.lemmas.List.Folds.{list_any-append}
use Rattle.bas_scope.specs.Lines.{gathered}

-- of one alone
pub of_one : {X Y : Type 0} (test : Y → Bool) (f : X → List Y) (x : X) → list_any test (gathered f (x ∷ [])) ≡ list_any test (f x)
of_one test f x = ap (list_any test) (append-nil (f x))

gathered_both : {X Y : Type 0} (f : X → List Y) (xs ys : List X) → gathered f (xs ++ ys) ≡ gathered f xs ++ gathered f ys
gathered_both f [] ys = refl
gathered_both f (x ∷ xs) ys = ap (λ zs. f x ++ zs) (gathered_both f xs ys) ∙ sym (append_assoc (f x) (gathered f xs) (gathered f ys))

-- of two in a row
pub of_both : {X Y : Type 0} (test : Y → Bool) (f : X → List Y) (xs ys : List X)
    → list_any test (gathered f (xs ++ ys)) ≡ (list_any test (gathered f xs) || list_any test (gathered f ys))
of_both test f xs ys = ap (list_any test) (gathered_both f xs ys) ∙ list_any-append test (gathered f xs) (gathered f ys)
