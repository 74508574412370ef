-- The whole answers as what is left.
use Rattle.std.proofs.Common.{◌≡◌, drop}
use Rattle.std.specs.Prelude.{not}
use Rattle.std.specs.List.{list_any}
use Rattle.std.specs.Option.{is_some}
use Rattle.bas_names.specs.Names.{found_in}
use Rattle.bas_judge.proofs.names.is_any_missing.Given as goal

abbrev pub invariant-loop-name : goal.invariant-loop-name
invariant-loop-name l =
    list_any (λ name. not (is_some (found_in l.procedures name))) (drop l.name-index l.names)
    ≡ list_any (λ name. not (is_some (found_in l.procedures name))) l.names
