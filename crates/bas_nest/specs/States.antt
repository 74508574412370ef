-- The plain state of a reading: each part with the plain trees of its parts.
use Rattle.std.specs.Prelude.{map}
use Rattle.std.specs.Option.{option_map}
use Rattle.bas_ast.specs.BlockTree.{line_tree, section_tree, stmt_tree, block_tree}
use Rattle.bas_ast.specs.UnitTree.{procedure_tree, unit_tree}
use Rattle.bas_nest.specs.Reading as r
use Rattle.bas_nest.specs.declared.state.Level.{Level}
use Rattle.bas_nest.specs.declared.state.Owner.{Owner}
use Rattle.bas_nest.specs.declared.state.Owner.TheVariants as owner
use Rattle.bas_nest.specs.declared.state.Body.{Body}
use Rattle.bas_nest.specs.declared.state.Open.{Open}
use Rattle.bas_nest.specs.declared.state.Open.TheVariants as opened
use Rattle.bas_nest.specs.declared.state.Reading.{Reading}

abbrev pub level_tree : Level → r.Level
level_tree x = record { construct = x.construct; sections = map section_tree x.sections; head = line_tree x.head; stmts = map stmt_tree x.stmts }

abbrev pub owner_tree : Owner → r.Owner
owner_tree (owner.Program name head first) = r.OfProgram name (option_map line_tree head) first
owner_tree (owner.Procedure head) = r.OfProcedure (line_tree head)
owner_tree (owner.Initial head) = r.OfInitial (line_tree head)
owner_tree (owner.Member part initial procs head) = r.OfMember (line_tree part) (block_tree initial) (map procedure_tree procs) (line_tree head)

abbrev pub body_tree : Body → r.Open
body_tree x = r.Within (owner_tree x.owner) (map stmt_tree x.stmts) (map level_tree x.levels)

abbrev pub open_tree : Open → r.Open
open_tree (opened.Outside waiting) = r.Outside (map line_tree waiting)
open_tree (opened.Within body) = body_tree body
open_tree (opened.Between part initial procs) = r.Between (line_tree part) (block_tree initial) (map procedure_tree procs)

abbrev pub reading_tree : Reading → r.Reading
reading_tree x = record { units = map unit_tree x.units; opened = open_tree x.opened }
