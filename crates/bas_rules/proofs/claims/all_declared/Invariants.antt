-- What is taken is claimed.
use Rattle.std.proofs.Common.{◌≡◌, map, take}
use Rattle.bas_ast.specs.DeclarationTree.{declared_tree}
use Rattle.bas_rules.specs.Naming as rule
use Rattle.bas_rules.specs.declared.claims.Claim.TheVariants.{Imports, Makes}
use Rattle.bas_rules.proofs.claims.all_declared.Given as goal

abbrev pub invariant-loop-item : goal.invariant-loop-item
invariant-loop-item l = l.claims.items ≡ (map (λ item. rule.types_name item.name item.bounds) (map declared_tree (take l.item-index l.items)))
