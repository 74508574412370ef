-- The whole answers as what is left.
use Rattle.std.proofs.Common.{◌≡◌, map, drop, nat_eq}
use Rattle.std.specs.List.{list_any, filter_map}
use Rattle.bas_ast.specs.PartTree.{formal_tree}
use Rattle.bas_rules.specs.Calling.{channel_of}
use Rattle.bas_rules.proofs.lists.has_channel.Given as goal

abbrev pub invariant-loop-formal : goal.invariant-loop-formal
invariant-loop-formal l =
    list_any (nat_eq l.number) (filter_map channel_of (map formal_tree (drop l.formal-index l.formals)))
    ≡ list_any (nat_eq l.number) (filter_map channel_of (map formal_tree l.formals))
