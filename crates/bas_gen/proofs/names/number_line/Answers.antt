-- Each part gets its slots behind the parts before it.
use Rattle.std.proofs.Common.{sym, ap}
use Rattle.bas_carry.specs.Slots.{in_line}
use Rattle.bas_genexpr.proofs.NumberLemmas.{numbers_none}
use Rattle.bas_gen.proofs.TextNames.{remark_has_none, other_has_none}
use Rattle.bas_gen.proofs.names.number_line.Goals as goal

pub returns-in-Else : goal.returns-in-Else
returns-in-Else c = numbers_none c.args.slots.now _ (ap in_line (sym c.in-Else.ensures))

pub returns-in-End : goal.returns-in-End
returns-in-End c = numbers_none c.args.slots.now _ (ap in_line (sym c.in-End.ensures))

pub returns-in-Remark : goal.returns-in-Remark
returns-in-Remark c = numbers_none c.args.slots.now _ (remark_has_none _ c.in-Remark.ensures)

pub returns-in-Other : goal.returns-in-Other
returns-in-Other c = numbers_none c.args.slots.now _ (other_has_none _ c.in-Other.ensures)
