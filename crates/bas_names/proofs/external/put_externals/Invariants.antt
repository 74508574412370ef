-- The procedures that are left.
use Rattle.std.proofs.Common.{map, drop}
use Rattle.bas_scope.specs.Scope.{Outer, external}
use Rattle.bas_names.specs.Tables.{Has}
use Rattle.bas_names.proofs.Putting.{Leaves}
use Rattle.bas_names.proofs.external.put_externals.Given as goal

abbrev pub invariant-loop-name : goal.invariant-loop-name
invariant-loop-name l = (outer : Outer) → Has l.procedures outer.procedures
    → Leaves l.initial.table l.table (map (λ name. (name, external outer l.kind name)) l.names) (map (λ name. (name, external outer l.kind name)) (drop l.name-index l.names))
