-- Slots for one part of the text after another.
use Rattle.std.proofs.Common.{◌≡◌, ℕ, ◌≤◌, List, [], ◌∷◌, ◌++◌, length, Option, Some, None, Result, Ok, Err, sym, ap, ◌∙◌, subst, arith, length-append}
use Rattle.bas_mean.specs.World.{Variable}
use Rattle.bas_carry.specs.Slots.{index_of, with_variable, with_variables}
use Rattle.bas_carry.proofs.Parts.{variables_in_parts, no_variable}
use Rattle.bas_genexpr.specs.declared.fault.GenFault.{GenFault}
use Rattle.bas_genexpr.specs.declared.fault.GenFault.TheVariants.{TooLarge, Memory}
use Rattle.bas_genexpr.specs.Numbering.{variables, slot_limit, Numbers}
use Rattle.bas_genexpr.specs.Refusals.{IsRefusal}

one_grows : (o : Option ℕ) (order : List Variable) (x : Variable) → length order ≤ length (with_variable o order x)
one_grows None order x = let l = length-append order (x ∷ []) in omega arith
one_grows (Some k) order x = omega arith

-- more variables are never fewer slots
pub grows : (xs order : List Variable) → length order ≤ length (with_variables order xs)
unfolding with_variables
grows [] order = omega arith
grows (x ∷ xs) order =
    let a = one_grows (index_of order x) order x in
    let b = grows xs (with_variable (index_of order x) order x) in
    omega arith

pub refused_more : (f : GenFault) (m n limit : ℕ) → m ≤ n → IsRefusal f m limit → IsRefusal f n limit
refused_more (TooLarge size told) m n limit h r = (omega arith, r.1, r.2)
refused_more Memory m n limit h r = tt

-- a refusal at the first part is one of the whole
pub refused_first : (f : GenFault) (old : List (List ℕ)) (xs ys all : List Variable) → xs ++ ys ≡ all → IsRefusal f (length (with_variables (variables old) xs)) slot_limit → IsRefusal f (length (with_variables (variables old) all)) slot_limit
refused_first f old xs ys all e r =
    let g = grows ys (with_variables (variables old) xs) in
    let l = ap length (sym (variables_in_parts xs ys (variables old)) ∙ ap (with_variables (variables old)) e) in
    refused_more f _ _ slot_limit (omega arith) r

-- the whole is numbered where its two parts are
pub numbers_both : {T : Type 0} (r : Result T GenFault) (old mid new : List (List ℕ)) (xs ys all : List Variable) → xs ++ ys ≡ all → variables mid ≡ with_variables (variables old) xs → Numbers r mid new ys → Numbers r old new all
numbers_both (Ok x) old mid new xs ys all e p n = n ∙ ap (λ o. with_variables o ys) p ∙ sym (variables_in_parts xs ys (variables old)) ∙ ap (with_variables (variables old)) e
numbers_both (Err f) old mid new xs ys all e p n = subst (λ o. IsRefusal f (length o) slot_limit) (ap (λ o. with_variables o ys) p ∙ sym (variables_in_parts xs ys (variables old)) ∙ ap (with_variables (variables old)) e) n

-- nothing to number
pub numbers_none : (old : List (List ℕ)) (all : List Variable) → [] ≡ all → variables old ≡ with_variables (variables old) all
numbers_none old all e = sym (no_variable (variables old)) ∙ ap (with_variables (variables old)) e

-- a loop: what is numbered, with the variables of what is left, are the slots of the whole
pub numbers_turn : (a b : List (List ℕ)) (xs rest left : List Variable) (whole : List Variable) → xs ++ rest ≡ left → variables b ≡ with_variables (variables a) xs → with_variables (variables a) left ≡ whole → with_variables (variables b) rest ≡ whole
numbers_turn a b xs rest left whole e p t = ap (λ o. with_variables o rest) p ∙ sym (variables_in_parts xs rest (variables a)) ∙ ap (with_variables (variables a)) e ∙ t

pub refused_turn : (f : GenFault) (a : List (List ℕ)) (xs rest left whole : List Variable) → xs ++ rest ≡ left → with_variables (variables a) left ≡ whole → IsRefusal f (length (with_variables (variables a) xs)) slot_limit → IsRefusal f (length whole) slot_limit
refused_turn f a xs rest left whole e t r = subst (λ o. IsRefusal f (length o) slot_limit) t (refused_first f a xs rest left e r)

pub numbers_end : (a : List (List ℕ)) (left whole : List Variable) → left ≡ [] → with_variables (variables a) left ≡ whole → variables a ≡ whole
numbers_end a left whole e t = sym (no_variable (variables a)) ∙ ap (with_variables (variables a)) (sym e) ∙ t
