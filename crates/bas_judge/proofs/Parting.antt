-- The least of two rows, place by place, is the lesser of their least.
use Rattle.std.proofs.Common.{◌≡◌, ◌≤◌, ℕ, suc, Bool, true, false, not, ◌&&◌, ◌||◌, if◌then◌else◌, List, [], ◌∷◌, Option, Some, None, refl, sym, ap, ◌∙◌, arith}
use Rattle.std.specs.Prelude.{⊤}
use Rattle.std.specs.List.{list_any, list_all}
use Rattle.bas_rules.specs.Sites.{Site}
use Rattle.std.specs.Prelude.{map}
use Rattle.bas_scope.specs.Nodes.{item_nodes}
use Rattle.bas_scope.specs.Senses.{senses_of}
use Rattle.bas_rules.specs.Kinds.{node_agrees}
use Rattle.bas_rules.specs.Jumping.{jumps_into_block, gosub_into_block, exits_nothing, resumes_nothing, restores_no_data, chains_in_initial_part}
use Rattle.bas_rules.specs.Statements.{plains_on, plain_agrees, item_agrees}
use Rattle.bas_rules.specs.Declaring.{declares_other_kind, has_type_out_of_bounds, has_bounds_out_of_range, has_late_option, is_out_of_module, has_program_formal}
use Rattle.bas_rules.specs.Naming.{declared_twice, handler_is_not_one, counts_by_wrong_variable, array_misused, sets_function, applies_nothing}
use Rattle.bas_rules.specs.Calling.{misfits_at, miscounts_at, has_too_many_args}
use Rattle.bas_rules.specs.Recording.{has_bad_case, has_bad_attributes, awaits_what_never_comes}
use Rattle.bas_rules.specs.Well.{has_wrong_kind, rules, first_failed}
use Rattle.bas_operands.specs.Operands.{nodes_fault, least}
use Rattle.bas_judge.specs.Rows.{first_true, has_wrong_kind_itself, lists_too_many_itself, broken_by_line, line_fault, operands_fault, FaultsOfPlaces}

-- a rule from n on
abbrev IsFrom : ℕ → Option ℕ → Type 0
IsFrom n None = ⊤
IsFrom n (Some m) = n ≤ m

from_later : (n : ℕ) (o : Option ℕ) → IsFrom (suc n) o → IsFrom n o
from_later n None h = tt
from_later n (Some m) h = omega (arith)

least_first : (n : ℕ) (o : Option ℕ) → IsFrom n o → Some n ≡ least (Some n) o
least_first n None h = refl
least_first n (Some m) h = ap Some (omega (arith))

least_second : (n : ℕ) (o : Option ℕ) → IsFrom n o → Some n ≡ least o (Some n)
least_second n None h = refl
least_second n (Some m) h = ap Some (omega (arith))

-- of two places
module _ (x y : Site) where
  failed_from : (n : ℕ) (tests : List (Site → Bool)) (z : Site) → IsFrom n (first_failed n tests (z ∷ []))
  failed_from n [] z = tt
  failed_from n (test ∷ tests) z = by (test z) (failed_from (suc n) tests z)
    where
      by : (b : Bool) → IsFrom (suc n) (first_failed (suc n) tests (z ∷ [])) → IsFrom n (if b || false then Some n else first_failed (suc n) tests (z ∷ []))
      by true ih = omega (arith)
      by false ih = from_later n (first_failed (suc n) tests (z ∷ [])) ih

  two_places : (n : ℕ) (tests : List (Site → Bool)) → first_failed n tests (x ∷ y ∷ []) ≡ least (first_failed n tests (x ∷ [])) (first_failed n tests (y ∷ []))
  two_places n [] = refl
  two_places n (test ∷ tests) = by (test x) (test y) (two_places (suc n) tests) (failed_from (suc n) tests x) (failed_from (suc n) tests y)
    where
      by : (a b : Bool) → first_failed (suc n) tests (x ∷ y ∷ []) ≡ least (first_failed (suc n) tests (x ∷ [])) (first_failed (suc n) tests (y ∷ []))
          → IsFrom (suc n) (first_failed (suc n) tests (x ∷ [])) → IsFrom (suc n) (first_failed (suc n) tests (y ∷ []))
          → (if a || (b || false) then Some n else first_failed (suc n) tests (x ∷ y ∷ []))
          ≡ least (if a || false then Some n else first_failed (suc n) tests (x ∷ [])) (if b || false then Some n else first_failed (suc n) tests (y ∷ []))
      by false false ih p q = ih
      by true true ih p q = ap Some (omega (arith))
      by true false ih p q = least_first n (first_failed (suc n) tests (y ∷ [])) (from_later n (first_failed (suc n) tests (y ∷ [])) q)
      by false true ih p q = least_second n (first_failed (suc n) tests (x ∷ [])) (from_later n (first_failed (suc n) tests (x ∷ [])) p)

-- two rows, place by place
abbrev both : List Bool → List Bool → List Bool
both [] bs = bs
both (a ∷ left) [] = a ∷ left
both (a ∷ left) (b ∷ bs) = (a || b) ∷ both left bs

true_from : (n : ℕ) (bs : List Bool) → IsFrom n (first_true n bs)
true_from n [] = tt
true_from n (true ∷ bs) = omega (arith)
true_from n (false ∷ bs) = from_later n (first_true (suc n) bs) (true_from (suc n) bs)

none_left : (o : Option ℕ) → o ≡ least o None
none_left None = refl
none_left (Some m) = refl

both_rows : (n : ℕ) (left bs : List Bool) → first_true n (both left bs) ≡ least (first_true n left) (first_true n bs)
both_rows n [] bs = refl
both_rows n (a ∷ left) [] = none_left (first_true n (a ∷ left))
both_rows n (false ∷ left) (false ∷ bs) = both_rows (suc n) left bs
both_rows n (true ∷ left) (true ∷ bs) = ap Some (omega (arith))
both_rows n (true ∷ left) (false ∷ bs) = least_first n (first_true (suc n) bs) (from_later n (first_true (suc n) bs) (true_from (suc n) bs))
both_rows n (false ∷ left) (true ∷ bs) = least_second n (first_true (suc n) left) (from_later n (first_true (suc n) left) (true_from (suc n) left))

-- of one place
module _ (x : Site) where
  or_false : (a : Bool) → (a || false) ≡ a
  or_false true = refl
  or_false false = refl

  none_agrees : {X : Type 0} (agrees : X → Bool) (xs : List X) → list_any (λ y. not (agrees y)) xs ≡ not (list_all agrees xs)
  none_agrees agrees [] = refl
  none_agrees agrees (y ∷ ys) = by (agrees y) (none_agrees agrees ys)
    where
      by : (b : Bool) → list_any (λ z. not (agrees z)) ys ≡ not (list_all agrees ys) → (not b || list_any (λ z. not (agrees z)) ys) ≡ not (b && list_all agrees ys)
      by true ih = ih
      by false ih = refl

  kinds_parted : (i p n d : Bool) → (not (i && (p && n)) || d) ≡ ((not (i && p) || d) || not n)
  kinds_parted true true true d = sym (or_false d)
  kinds_parted true true false true = refl
  kinds_parted true true false false = refl
  kinds_parted true false n d = refl
  kinds_parted false p n d = refl

  swapped : (a b : Bool) → (a || b) ≡ (b || a)
  swapped true true = refl
  swapped true false = refl
  swapped false true = refl
  swapped false false = refl

  -- whether a node breaks each of the rules, from 1 to 24
  abbrev broken_by_nodes : List Bool
  broken_by_nodes =
      let s = senses_of x.body.scope in
      let nodes = item_nodes x.item in
      false ∷ list_any (array_misused s) nodes ∷ list_any (λ node. not (node_agrees s node)) nodes ∷ false ∷ false ∷ false
      ∷ false ∷ false ∷ false ∷ false ∷ list_any (misfits_at s) nodes ∷ list_any (miscounts_at s) nodes
      ∷ false ∷ false ∷ false ∷ list_any (sets_function s) nodes ∷ false ∷ false
      ∷ false ∷ list_any has_too_many_args nodes ∷ false ∷ false ∷ list_any (applies_nothing s) nodes
      ∷ false ∷ []

  then_same : {a b : Bool} {left bs : List Bool} → a ≡ b → left ≡ bs → (a ∷ left) ≡ (b ∷ bs)
  then_same p q = λ i. p i ∷ q i

  alone : (a : Bool) → a ≡ (a || false)
  alone a = sym (or_false a)

  kinds : has_wrong_kind x ≡ (has_wrong_kind_itself x || list_any (λ node. not (node_agrees (senses_of x.body.scope) node)) (item_nodes x.item))
  kinds =
      kinds_parted (item_agrees x.item) (list_all plain_agrees (plains_on x.item)) (list_all (node_agrees (senses_of x.body.scope)) (item_nodes x.item)) (declares_other_kind x.item)
      ∙ ap (λ b. has_wrong_kind_itself x || b) (sym (none_agrees (node_agrees (senses_of x.body.scope)) (item_nodes x.item)))

  parted : map (λ test. test x) rules ≡ both (broken_by_line x) broken_by_nodes
  parted =
      then_same (alone (declared_twice x)) (then_same refl (then_same kinds (then_same (alone (jumps_into_block x))
      (then_same (alone (gosub_into_block x)) (then_same (alone (exits_nothing x)) (then_same (alone (resumes_nothing x))
      (then_same (alone (handler_is_not_one x)) (then_same (alone (counts_by_wrong_variable x)) (then_same (alone (has_bad_case x))
      (then_same refl (then_same refl (then_same (alone (has_type_out_of_bounds x)) (then_same (alone (has_bounds_out_of_range x))
      (then_same (alone (has_late_option x)) (then_same refl (then_same (alone (restores_no_data x)) (then_same (alone (is_out_of_module x))
      (then_same (alone (has_bad_attributes x)) (then_same (swapped (list_any has_too_many_args (item_nodes x.item)) (lists_too_many_itself x))
      (then_same (alone (awaits_what_never_comes x)) (then_same (alone (chains_in_initial_part x)) (then_same refl
      (then_same (alone (has_program_formal x)) refl)))))))))))))))))))))))

  tested : (n : ℕ) (tests : List (Site → Bool)) → first_failed n tests (x ∷ []) ≡ first_true n (map (λ test. test x) tests)
  tested n [] = refl
  tested n (test ∷ tests) =
      ap (λ b. if b then Some n else first_failed (suc n) tests (x ∷ [])) (or_false (test x))
      ∙ ap (λ o. if test x then Some n else o) (tested (suc n) tests)

  nodes_tested : first_true 1 broken_by_nodes ≡ operands_fault x
  unfolding nodes_fault
  nodes_tested = refl

  one_place : first_failed 1 rules (x ∷ []) ≡ least (line_fault x) (operands_fault x)
  one_place =
      tested 1 rules
      ∙ ap (first_true 1) parted
      ∙ both_rows 1 (broken_by_line x) broken_by_nodes
      ∙ ap (least (line_fault x)) nodes_tested

pub faults_of_places : FaultsOfPlaces
faults_of_places = record { one = one_place; two = λ x y. two_places x y 1 rules }
