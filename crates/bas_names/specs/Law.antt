-- What the rules see of a scope is found by looking names up.
use Rattle.std.specs.Prelude.{◌≡◌, ℕ, List}
use Rattle.bas_scope.specs.Scope.{Scope}
use Rattle.bas_scope.specs.Senses.{senses_of, lookup_of, senses_by}
use Rattle.bas_names.specs.Names.{lookup_in, senses_in}
use Rattle.bas_names.specs.declared.names.Names.{Names}

-- the tables of a body have what its scope has of each name
pub record HasTables (n : Names) (s : Scope) : Type 0 where
  pub names : (name : List ℕ) → (lookup_in n).names name ≡ (lookup_of s).names name
  pub procedures : (name : List ℕ) → (lookup_in n).procedures name ≡ (lookup_of s).procedures name
  pub numbers : (lookup_in n).numbers ≡ (lookup_of s).numbers

-- the rules see of a scope what there is to look up in it; so they see the same in its tables
pub record AreLookedUp : Type 0 where
  pub in_scope : (s : Scope) → senses_by (lookup_of s) ≡ senses_of s
  pub in_tables : (n : Names) (s : Scope) → HasTables n s → senses_in n ≡ senses_of s
