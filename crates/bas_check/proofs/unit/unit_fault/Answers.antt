-- Each kind of unit.
use Rattle.bas_ast.specs.UnitTree.{unit_tree}
use Rattle.bas_check.proofs.unit.unit_fault.Goals as goal

pub returns-in-Program : goal.returns-in-Program
unfolding unit_tree
returns-in-Program c = rw (c.in-Program.is) (c.program_fault.ensures)

pub returns-in-Module : goal.returns-in-Module
unfolding unit_tree
returns-in-Module c = rw (c.in-Module.is) (c.module_fault.ensures)
