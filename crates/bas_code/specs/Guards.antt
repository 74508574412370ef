-- The list of handlers at an address.
use Rattle.std.specs.Prelude.{ℕ, zero, suc, Bool, true, false, ◌&&◌, List, [], ◌∷◌, ◌++◌, length, Option, Some, None, nat_eq, nat_lt, nat_le, slice_get, if◌then◌else◌}
use Rattle.bas_code.specs.declared.body.LineEntry.{LineEntry}
use Rattle.bas_code.specs.declared.body.Guard.{Guard}
use Rattle.bas_code.specs.State.{Activation}

-- a guard of the list, with the number of activations that were live when its WHEN was entered
pub record Tag : Type 0 where
  pub guard : Guard
  pub base : ℕ

-- whether an address stands in a guard's range
abbrev pub is_guarded : Guard → ℕ → Bool
is_guarded g pc = nat_le g.from pc && nat_lt pc g.to

-- the smaller range
abbrev pub inner_of : Guard → Option Guard → Option Guard
inner_of g None = Some g
inner_of g (Some h) = if nat_le h.from g.from && nat_le g.to h.to then Some g else Some h

-- the innermost guard around an address
abbrev pub innermost : List Guard → ℕ → Option Guard
innermost [] pc = None
innermost (g ∷ guards) pc = if is_guarded g pc then inner_of g (innermost guards pc) else innermost guards pc

-- a guard and those around it, from the innermost on; a chain is no longer than the table
abbrev pub chain : ℕ → List Guard → Option Guard → List Guard
chain zero guards o = []
chain (suc k) guards None = []
chain (suc k) guards (Some g) = g ∷ chain k guards (slice_get guards g.outer)

-- the guards around an address, and around a guard
abbrev pub guards_at : List Guard → ℕ → List Guard
guards_at guards pc = chain (length guards) guards (innermost guards pc)

-- the guards around a guard, innermost first
abbrev pub guards_around : List Guard → Guard → List Guard
guards_around guards g = chain (length guards) guards (slice_get guards g.outer)

-- leaves a guard out where the test holds
abbrev pub kept_unless : Bool → Guard → List Guard → List Guard
kept_unless true g gs = gs
kept_unless false g gs = g ∷ gs

-- those whose range does not hold an address
abbrev pub away_from : ℕ → List Guard → List Guard
away_from pc [] = []
away_from pc (g ∷ gs) = kept_unless (is_guarded g pc) g (away_from pc gs)

-- guards that were entered when that many activations were live
abbrev pub tagged : ℕ → List Guard → List Tag
tagged base [] = []
tagged base (g ∷ gs) = record { guard = g; base = base } ∷ tagged base gs

-- the list for guards that were entered when `base` activations were live: without an activation all
-- of them; else those of them that do not hold the entry of the last one's handler, and its rest
abbrev pub handlers_in : List Guard → List Guard → ℕ → List Activation → List Tag
handlers_in guards gs base [] = tagged 0 gs
handlers_in guards gs base (a ∷ acts) =
    if nat_eq base (suc (length acts))
    then tagged base (away_from a.guard.handler gs) ++ handlers_in guards (guards_around guards a.guard) a.base acts
    else handlers_in guards gs base acts

-- the list at an address
abbrev pub handlers_at : List Guard → ℕ → List Activation → List Tag
handlers_at guards pc acts = handlers_in guards (guards_at guards pc) (length acts) acts

-- the first activations, as many as the base says
abbrev pub cut_to : ℕ → List Activation → List Activation
cut_to base [] = []
cut_to base (a ∷ acts) = if nat_eq base (suc (length acts)) then a ∷ acts else cut_to base acts

-- the entry of the line whose range holds an address
abbrev pub entry_at : List LineEntry → ℕ → Option LineEntry
entry_at [] pc = None
entry_at (e ∷ entries) pc = if nat_le e.start pc && nat_lt pc e.end then Some e else entry_at entries pc
