-- What is appended for the parts of a text, in their order, is what the whole of it uses.
use Rattle.std.proofs.Common.{◌≡◌, ℕ, suc, ◌+◌, ◌<◌, ◌≤◌, length, get_or, drop, drop-cons, add-one, List, [], ◌∷◌, ◌++◌, refl, sym, ap, ◌∙◌, append_assoc, append-nil, Result, OnOk}
use Rattle.std.proofs.lemmas.List.{at_drop_all}
use Rattle.std.proofs.lemmas.Result.{on_ok_weaker}
use Rattle.std.proofs.lemmas.List.Elements.{filter_map-append}
use Rattle.bas_scope.specs.Bodies.{bare_name}
use Rattle.bas_scope.specs.Nodes.{Node}
use Rattle.bas_uses.specs.Uses.{bare_names}

pub names_both : (xs ys : List Node) → bare_names (xs ++ ys) ≡ bare_names xs ++ bare_names ys
unfolding bare_names
names_both xs ys = filter_map-append bare_name xs ys

-- no nodes
pub none : (a : List (List ℕ)) → a ≡ a ++ bare_names []
unfolding bare_names
none a = sym (append-nil a)

pub two : (a b c : List (List ℕ)) (xs ys : List Node) → b ≡ a ++ bare_names xs → c ≡ b ++ bare_names ys → c ≡ a ++ bare_names (xs ++ ys)
two a b c xs ys p q = q ∙ ap (λ l. l ++ bare_names ys) p ∙ append_assoc a _ _ ∙ ap (λ l. a ++ l) (sym (names_both xs ys))

pub three : (a b c d : List (List ℕ)) (xs ys zs : List Node) → b ≡ a ++ bare_names xs → c ≡ b ++ bare_names ys → d ≡ c ++ bare_names zs
    → d ≡ a ++ bare_names (xs ++ (ys ++ zs))
three a b c d xs ys zs p q r = two a b d xs (ys ++ zs) p (two b c d ys zs q r)

-- the last of two parts, and of three, may fail
pub two_parts : {R E : Type 0} (result : Result R E) (a b c : List (List ℕ)) (xs ys : List Node) → b ≡ a ++ bare_names xs
    → OnOk result (c ≡ b ++ bare_names ys) → OnOk result (c ≡ a ++ bare_names (xs ++ ys))
two_parts result a b c xs ys p = on_ok_weaker result (two a b c xs ys p)

pub three_parts : {R E : Type 0} (result : Result R E) (a b c d : List (List ℕ)) (xs ys zs : List Node) → b ≡ a ++ bare_names xs
    → c ≡ b ++ bare_names ys → OnOk result (d ≡ c ++ bare_names zs) → OnOk result (d ≡ a ++ bare_names (xs ++ (ys ++ zs)))
three_parts result a b c d xs ys zs p q = on_ok_weaker result (three a b c d xs ys zs p q)

-- what is left at a turn of a loop
turn : {A : Type 0} → (xs : List A) (i : ℕ) (x : A) → i < length xs → x ≡ get_or xs i x → drop i xs ≡ x ∷ drop (i + 1) xs
turn xs i x h e = rw (add-one, drop-cons xs i x, h) (ap (λ y. y ∷ drop (suc i) xs) (sym e))

-- a turn of a loop over the parts of a row
pub names_turn : {X : Type 0} (nodes : X → List Node) (row : List X → List Node) → ((x : X) (xs : List X) → row (x ∷ xs) ≡ nodes x ++ row xs)
    → (xs : List X) (i : ℕ) (x : X) (before after all : List (List ℕ)) → i < length xs → x ≡ get_or xs i x
    → after ≡ before ++ bare_names (nodes x) → before ++ bare_names (row (drop i xs)) ≡ all → after ++ bare_names (row (drop (i + 1) xs)) ≡ all
names_turn nodes row opens xs i x before after all h e p whole =
    let left = drop (i + 1) xs in
    two before after (after ++ bare_names (row left)) (nodes x) (row left) p refl
    ∙ ap (λ l. before ++ bare_names l) (sym (ap row (turn xs i x h e) ∙ opens x left))
    ∙ whole

-- the end of such a loop
pub names_end : {X : Type 0} (row : List X → List Node) → row [] ≡ [] → (xs : List X) (i : ℕ) (now all : List (List ℕ))
    → length xs ≤ i → now ++ bare_names (row (drop i xs)) ≡ all → now ≡ all
names_end row empty xs i now all over whole =
    none now ∙ ap (λ l. now ++ bare_names l) (sym empty) ∙ sym (at_drop_all (λ l. now ++ bare_names (row l)) xs i over) ∙ whole
