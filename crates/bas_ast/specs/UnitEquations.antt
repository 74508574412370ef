-- The equations of the plain trees of units.
use Rattle.std.specs.Prelude.{◌≡◌}
use Rattle.bas_ast.specs.Tree as t
use Rattle.bas_ast.specs.UnitTree.{module_tree, procedure_tree, program_tree, unit_tree}
use Rattle.bas_ast.specs.declared.unit.Program.{Program}
use Rattle.bas_ast.specs.declared.unit.Procedure.{Procedure}
use Rattle.bas_ast.specs.declared.unit.Module.{Module}
use Rattle.bas_ast.specs.declared.unit.Unit.TheVariants as unit

-- the plain tree of each alternative is its own alternative with the plain trees of its parts
pub record UnitEquations : Type 0 where
  pub unit_program : (x : Program) → unit_tree (unit.Program x) ≡ t.ProgramUnit (program_tree x)
  pub unit_procedure : (x : Procedure) → unit_tree (unit.Procedure x) ≡ t.ProcedureUnit (procedure_tree x)
  pub unit_module : (x : Module) → unit_tree (unit.Module x) ≡ t.ModuleUnit (module_tree x)
