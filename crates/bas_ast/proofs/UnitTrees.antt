-- The equations of the plain trees of units.
use Rattle.std.proofs.Common.{◌≡◌, refl}
use Rattle.bas_ast.specs.Tree as t
use Rattle.bas_ast.specs.UnitTree.{module_tree, procedure_tree, program_tree, unit_tree}
use Rattle.bas_ast.specs.declared.unit.Program.{Program}
use Rattle.bas_ast.specs.declared.unit.Procedure.{Procedure}
use Rattle.bas_ast.specs.declared.unit.Module.{Module}
use Rattle.bas_ast.specs.declared.unit.Unit.TheVariants as unit
use Rattle.bas_ast.specs.UnitEquations.{UnitEquations}

pub unit_program : (x : Program) → unit_tree (unit.Program x) ≡ t.ProgramUnit (program_tree x)
unfolding unit_tree
unit_program x = refl

pub unit_procedure : (x : Procedure) → unit_tree (unit.Procedure x) ≡ t.ProcedureUnit (procedure_tree x)
unfolding unit_tree
unit_procedure x = refl

pub unit_module : (x : Module) → unit_tree (unit.Module x) ≡ t.ModuleUnit (module_tree x)
unfolding unit_tree
unit_module x = refl

pub ruleset unit_trees = (unit_program, unit_procedure, unit_module)

pub unit_equations : UnitEquations
unit_equations = record { unit_program = unit_program; unit_procedure = unit_procedure; unit_module = unit_module }
