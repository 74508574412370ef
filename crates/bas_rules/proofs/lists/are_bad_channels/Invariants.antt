-- The whole answers as what is left.
use Rattle.std.proofs.Common.{◌≡◌, map, drop}
use Rattle.std.specs.List.{filter_map}
use Rattle.bas_ast.specs.PartTree.{formal_tree}
use Rattle.bas_rules.specs.Calling as rule
use Rattle.bas_rules.proofs.lists.are_bad_channels.Given as goal

abbrev pub invariant-loop-i : goal.invariant-loop-i
invariant-loop-i l =
    rule.are_bad_channels (filter_map rule.channel_of (map formal_tree (drop l.i l.formals)))
    ≡ rule.are_bad_channels (filter_map rule.channel_of (map formal_tree l.formals))
