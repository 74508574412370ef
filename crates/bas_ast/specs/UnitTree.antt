-- The plain trees of programs, procedures and modules.
use Rattle.std.specs.Prelude.{map}
use Rattle.std.specs.Option.{option_map}
use Rattle.bas_ast.specs.Tree as t
use Rattle.bas_ast.specs.BlockTree.{line_tree, block_tree}
use Rattle.bas_ast.specs.declared.unit.Program.{Program}
use Rattle.bas_ast.specs.declared.unit.Procedure.{Procedure}
use Rattle.bas_ast.specs.declared.unit.Module.{Module}
use Rattle.bas_ast.specs.declared.unit.Unit.{Unit as SourceUnit}
use Rattle.bas_ast.specs.declared.unit.Unit.TheVariants as unit

-- the plain tree of a program
abbrev pub program_tree : Program → t.Program
program_tree x = record { name = x.name; head = option_map line_tree x.head; body = block_tree x.body; close = line_tree x.end }

-- the plain tree of an external procedure
abbrev pub procedure_tree : Procedure → t.Procedure
procedure_tree x = record { head = line_tree x.head; body = block_tree x.body; close = line_tree x.end }

-- the plain tree of a module
abbrev pub module_tree : Module → t.Module
module_tree x = record { head = line_tree x.head; initial = block_tree x.initial; procs = map procedure_tree x.procs; close = line_tree x.end }

-- the plain tree of a unit
unfoldable pub unit_tree : SourceUnit → t.SourceUnit
unit_tree (unit.Program x) = t.ProgramUnit (program_tree x)
unit_tree (unit.Procedure x) = t.ProcedureUnit (procedure_tree x)
unit_tree (unit.Module x) = t.ModuleUnit (module_tree x)
