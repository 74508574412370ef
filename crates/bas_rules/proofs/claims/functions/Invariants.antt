-- What is taken is claimed.
use Rattle.std.proofs.Common.{◌≡◌, map, take}
use Rattle.bas_ast.specs.DeclarationTree.{declared_tree}
use Rattle.bas_rules.specs.Naming as rule
use Rattle.bas_rules.specs.declared.claims.Claim.TheVariants.{Imports, Makes}
use Rattle.bas_rules.proofs.claims.functions.Given as goal

abbrev pub invariant-loop-name : goal.invariant-loop-name
invariant-loop-name l = l.claims.items ≡ map Imports (take l.name-index l.names)
