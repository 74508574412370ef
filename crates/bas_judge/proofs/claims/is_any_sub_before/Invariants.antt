-- The whole answers as what is left.
use Rattle.std.proofs.Common.{◌≡◌, drop}
use Rattle.std.specs.List.{list_any}
use Rattle.bas_names.specs.Names.{senses_in}
use Rattle.bas_judge.specs.Clashes.{is_sub_before}
use Rattle.bas_judge.proofs.claims.is_any_sub_before.Given as goal

abbrev pub invariant-loop-name : goal.invariant-loop-name
invariant-loop-name l =
    list_any (is_sub_before (senses_in l.names) l.first l.line) (drop l.name-index l.used)
    ≡ list_any (is_sub_before (senses_in l.names) l.first l.line) l.used
