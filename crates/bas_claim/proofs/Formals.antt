-- The names of formals, one by one.
use Rattle.std.proofs.Common.{◌≡◌, ◌+◌, ◌<◌, ℕ, List, [], ◌∷◌, ◌++◌, map, take, length, slice_index_or, Option, Some, None, refl, sym, ap, ◌∙◌, append_assoc}
use Rattle.std.proofs.lemmas.List.{take_more, map-append}
use Rattle.std.specs.List.{filter_map}
use Rattle.std.specs.Option.{option_to_list}
use Rattle.bas_ast.specs.Tree as t
use Rattle.bas_ast.specs.declared.part.Formal.{Formal}
use Rattle.bas_ast.specs.PartTree.{formal_tree}
use Rattle.bas_rules.specs.Naming.{name_of_formal}

joined : (xs : List t.Formal) (x : t.Formal) → filter_map name_of_formal (xs ++ x ∷ []) ≡ filter_map name_of_formal xs ++ option_to_list (name_of_formal x)
joined [] x = alone (name_of_formal x) refl
  where
    alone : (o : Option (List ℕ)) → name_of_formal x ≡ o → filter_map name_of_formal (x ∷ []) ≡ option_to_list o
    alone None e = rw e refl
    alone (Some name) e = rw e refl
joined (y ∷ ys) x = by (name_of_formal y) refl (joined ys x)
  where
    by : (o : Option (List ℕ)) → name_of_formal y ≡ o → filter_map name_of_formal (ys ++ x ∷ []) ≡ filter_map name_of_formal ys ++ option_to_list (name_of_formal x)
        → filter_map name_of_formal (y ∷ (ys ++ x ∷ [])) ≡ filter_map name_of_formal (y ∷ ys) ++ option_to_list (name_of_formal x)
    by None e ih = rw e ih
    by (Some name) e ih = rw e (ap (λ rest. name ∷ rest) ih)

-- one more formal
pub one_more : (old mid new : List (List ℕ)) (formals : List Formal) (i : ℕ) (x : Formal) → i < length formals → x ≡ slice_index_or formals i x
    → mid ≡ old ++ filter_map name_of_formal (map formal_tree (take i formals)) → new ≡ mid ++ option_to_list (name_of_formal (formal_tree x))
    → new ≡ old ++ filter_map name_of_formal (map formal_tree (take (i + 1) formals))
one_more old mid new formals i x there is m n =
    let before = map formal_tree (take i formals) in
    let names : filter_map name_of_formal (map formal_tree (take (i + 1) formals)) ≡ filter_map name_of_formal before ++ option_to_list (name_of_formal (formal_tree x))
    = ap (λ xs. filter_map name_of_formal (map formal_tree xs)) (take_more formals i x there ∙ ap (λ y. take i formals ++ y ∷ []) (sym is))
    ∙ (ap (filter_map name_of_formal) (map-append formal_tree (take i formals) (x ∷ [])) ∙ joined before (formal_tree x)) in
    n ∙ (ap (λ xs. xs ++ option_to_list (name_of_formal (formal_tree x))) m
    ∙ (append_assoc old (filter_map name_of_formal before) (option_to_list (name_of_formal (formal_tree x))) ∙ ap (λ xs. old ++ xs) (sym names)))
