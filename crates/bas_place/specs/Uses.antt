-- The names of SUBs that lines and bodies use as variables, and first lines that gain them.
use Rattle.std.specs.Prelude.{◌≡◌, ℕ, ◌||◌, nat_lt, List}
use Rattle.std.specs.List.{filter}
use Rattle.bas_ast.specs.Tree as t
use Rattle.bas_scope.specs.Lines.{gathered}
use Rattle.bas_scope.specs.Scope.{Outer, Table}
use Rattle.bas_scope.specs.Senses.{Senses, senses_of}
use Rattle.bas_scope.specs.Bodies.{Body}
use Rattle.bas_rules.specs.Naming.{is_among, is_sub_sense, sub_names_used, lines_before}
use Rattle.bas_names.specs.Tables.{HasBefore, HasOuter}
use Rattle.bas_claim.specs.First.{stands_before}
use Rattle.bas_claim.specs.declared.first.FirstLines.{FirstLines}
use Rattle.bas_place.specs.declared.uses.Seen.{Seen}

-- the names of SUBs among some
abbrev pub subs_among : Senses → List (List ℕ) → List (List ℕ)
subs_among s names = filter (λ name. is_sub_sense (s.named name)) names

-- the names of SUBs that those of some lines use as variables that stand before a line
abbrev pub used_above : Senses → List t.NumLine → ℕ → List (List ℕ)
used_above s lines l = gathered (λ line. sub_names_used s line.item) (filter (λ line. nat_lt line.line l) lines)

-- the same of bodies
abbrev pub used_in : List Body → ℕ → List (List ℕ)
used_in bodies l = gathered (λ body. gathered (λ line. sub_names_used (senses_of body.scope) line.item) (lines_before body l)) bodies

-- first lines gain the names that are given before each line
pub record Gains (old new : FirstLines) (given : ℕ → List (List ℕ)) : Type 0 where
  pub before : (name : List ℕ) (l : ℕ) → stands_before new name l ≡ (stands_before old name l || is_among name (given l))

-- what is seen is so of a unit and of the names of a container
pub record Sees (seen : Seen) (outer : Outer) (entries : Table) : Type 0 where
  pub unit : HasOuter seen.unit.now outer
  pub container : HasBefore seen.container.now seen.unit.now.variables entries
