-- The whole answers as what is left; a first line of the unit has its own test.
use Rattle.std.proofs.Common.{◌≡◌, if◌then◌else◌, map, drop, nat_lt}
use Rattle.std.specs.List.{filter, list_any}
use Rattle.bas_ast.specs.BlockTree.{line_tree}
use Rattle.bas_rules.specs.Declaring as rule
use Rattle.bas_rules.proofs.options.comes_late.Given as goal

abbrev pub invariant-loop-line : goal.invariant-loop-line
invariant-loop-line l =
    let left = filter (λ line. nat_lt line.line l.number) (map (λ line. line_tree line.now) (drop l.line-index l.lines)) in
    (if l.is_first then rule.comes_late l.kind left else list_any (rule.may_not_follow l.kind) left)
    ≡ rule.comes_late l.kind (filter (λ line. nat_lt line.line l.number) (map (λ line. line_tree line.now) l.lines))
