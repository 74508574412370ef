-- Each part gets its slots behind the parts before it.
use Rattle.std.proofs.Common.{sym, ap}
use Rattle.std.specs.Option.{option_map}
use Rattle.bas_ast.specs.PartTree.{loopc_tree}
use Rattle.bas_carry.specs.Slots.{in_loopc}
use Rattle.bas_genexpr.proofs.NumberLemmas.{numbers_none}
use Rattle.bas_gen.proofs.TextNames.{loop_names}
use Rattle.bas_gen.proofs.names.number_loopc.Goals as goal

pub returns-in-Some : goal.returns-in-Some
returns-in-Some c = rw (c.in-Some.is, ← loop_names, ← c.loop_condition.ensures) c.number_condition.ensures

pub returns-in-None : goal.returns-in-None
returns-in-None c = numbers_none c.args.slots.now _ (ap (λ x. in_loopc (option_map loopc_tree x)) (sym c.in-None.is))
