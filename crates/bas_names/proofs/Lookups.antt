-- What the rules see of a scope is found by looking names up.
use Rattle.std.proofs.Common.{◌≡◌, ℕ, List, Option, Some, None, refl, ap, ◌∙◌}
use Rattle.std.specs.Option.{option_map, option_or, unwrap_or}
use Rattle.bas_face.specs.declared.face.CallKind.TheVariants as call
use Rattle.bas_scope.specs.Shapes.{Options, undeclared}
use Rattle.bas_scope.specs.Supplied.{Forms, forms_of}
use Rattle.bas_scope.specs.Scope.{Home, Meaning, Variable, SubOf, FunctionOf, Supplied, Scope, entry_of, only_function, stands_for, elsewhere, procedure_or, called_by}
use Rattle.bas_scope.specs.Senses.{Shaped, SubWith, SuppliedWith, sense, lookup_of, function_sense, procedure_sense, undeclared_shape, named_by, called_in, senses_by, senses_of}
use Rattle.bas_names.specs.Names.{lookup_in}
use Rattle.bas_names.specs.Law.{HasTables, AreLookedUp}
use Rattle.bas_names.specs.declared.names.Names.{Names}

undeclared_same : (options : Options) (home : Home) (name : List ℕ) → Shaped (undeclared_shape options.numbers name) ≡ sense (Variable home (undeclared options name))
undeclared_same options home name = refl

-- a name as an operand or a target
named_same : (s : Scope) (name : List ℕ) → named_by (lookup_of s) name ≡ sense (stands_for s name)
named_same s name = by (forms_of name) (entry_of name s.names) (entry_of name s.outer.procedures)
  where
    by : (f : Option Forms) (e p : Option Meaning)
        → unwrap_or (option_or (option_map SuppliedWith f) (option_or (option_map sense e) (function_sense (option_map sense p)))) (Shaped (undeclared_shape s.outer.options.numbers name))
        ≡ sense (unwrap_or (option_or (option_map Supplied f) (option_or e (only_function p))) (Variable s.home (undeclared s.outer.options name)))
    by (Some forms) e p = refl
    by None (Some meaning) p = refl
    by None None (Some (FunctionOf home formals value)) = refl
    by None None (Some (Variable home cell)) = undeclared_same s.outer.options s.home name
    by None None (Some (SubOf home formals)) = undeclared_same s.outer.options s.home name
    by None None (Some (Supplied forms)) = undeclared_same s.outer.options s.home name
    by None None None = undeclared_same s.outer.options s.home name

-- a name by CALL
called_same : (s : Scope) (name : List ℕ) → called_in (lookup_of s) name ≡ sense (called_by s name)
called_same s name = by (entry_of name s.names) (entry_of name s.outer.procedures)
  where
    other : (p : Option Meaning) → unwrap_or (option_map sense p) (SubWith None) ≡ sense (unwrap_or p (elsewhere call.Sub))
    other None = refl
    other (Some meaning) = refl

    by : (e p : Option Meaning) → procedure_sense (option_map sense e) (unwrap_or (option_map sense p) (SubWith None)) ≡ sense (procedure_or e (unwrap_or p (elsewhere call.Sub)))
    by (Some (SubOf home formals)) p = refl
    by (Some (FunctionOf home formals value)) p = refl
    by (Some (Variable home cell)) p = other p
    by (Some (Supplied forms)) p = other p
    by None p = other p

in_scope : (s : Scope) → senses_by (lookup_of s) ≡ senses_of s
in_scope s = λ i. record { named = λ name. named_same s name i; called = λ name. called_same s name i }

lookups_same : (n : Names) (s : Scope) → HasTables n s → lookup_in n ≡ lookup_of s
lookups_same n s has = λ i. record { names = λ name. has.names name i; procedures = λ name. has.procedures name i; numbers = has.numbers i }

pub are_looked_up : AreLookedUp
are_looked_up = record {
  in_scope = in_scope;
  in_tables = λ n s has. ap senses_by (lookups_same n s has) ∙ in_scope s;
}
