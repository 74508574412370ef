-- Plain trees of lists that grow at their end.
use Rattle.std.proofs.Common.{◌≡◌, List, [], ◌∷◌, ◌++◌, map, Option, Some, None, slice_get, refl, ap, sym, ◌∙◌, append_assoc}
use Rattle.std.proofs.lemmas.List.{map-append}
use Rattle.bas_ast.specs.Tree as t
use Rattle.bas_ast.specs.BlockTree.{line_tree, stmt_tree, block_tree, section_tree, sections_tree, stmts_tree, sections_of, stmts_of}
use Rattle.bas_ast.specs.UnitTree.{unit_tree, procedure_tree}
use Rattle.bas_ast.specs.declared.block.NumLine.{NumLine}
use Rattle.bas_ast.specs.declared.block.Stmt.{Stmt}
use Rattle.bas_ast.specs.declared.block.Stmt as stmt_form
use Rattle.bas_ast.specs.declared.block.Block.{Block, Block-F, roll-Block}
use Rattle.bas_ast.specs.declared.block.Section.{Section, Section-F, roll-Section}
use Rattle.bas_ast.specs.declared.unit.Unit.{Unit as SourceUnit}
use Rattle.bas_ast.specs.declared.unit.Procedure.{Procedure}
use Rattle.bas_nest.specs.Reading as r
use Rattle.bas_nest.specs.Constructs.{inside}
use Rattle.bas_nest.specs.States.{level_tree}
use Rattle.bas_nest.specs.declared.state.Level.{Level}
use Rattle.bas_ast.proofs.BlockTrees.{stmt_single, stmt_nest, block_roll, section_roll}

sections_rows : (xs : List Section) → sections_of (map section_tree xs) ≡ sections_tree xs
sections_rows [] = refl
sections_rows (x ∷ xs) = ap (t.MoreSections (section_tree x).0 (section_tree x).1) (sections_rows xs)

stmts_rows : (xs : List Stmt) → stmts_of (map stmt_tree xs) ≡ stmts_tree xs
stmts_rows [] = refl
stmts_rows (x ∷ xs) = ap (t.MoreStmts (stmt_tree x)) (stmts_rows xs)

pub block_of_stmts : (stmts : List Stmt) → block_tree (roll-Block (record { stmts = stmts })) ≡ stmts_of (map stmt_tree stmts)
block_of_stmts stmts = block_roll (record { stmts = stmts }) ∙ sym (stmts_rows stmts)

pub nest_of_sections : (sections : List Section) (end : NumLine) → stmt_tree (stmt_form.Nest sections end) ≡ t.Nest (sections_of (map section_tree sections)) (line_tree end)
nest_of_sections sections end = stmt_nest sections end ∙ ap (λ (s : t.Sections). t.Nest s (line_tree end)) (sym (sections_rows sections))

pub section_more : (xs : List Section) (head : NumLine) (body : Block) → map section_tree (xs ++ roll-Section (record { head = head; body = body }) ∷ []) ≡ map section_tree xs ++ (line_tree head, block_tree body) ∷ []
section_more xs head body =
    map-append section_tree xs (roll-Section (record { head = head; body = body }) ∷ [])
    ∙ ap (λ (y : t.NumLine × t.Block). map section_tree xs ++ y ∷ []) (section_roll (record { head = head; body = body }))

pub stmts_more : (xs : List Stmt) (x : Stmt) → map stmt_tree (xs ++ x ∷ []) ≡ map stmt_tree xs ++ stmt_tree x ∷ []
stmts_more xs x = map-append stmt_tree xs (x ∷ [])

pub units_more : (xs : List SourceUnit) (x : SourceUnit) → map unit_tree (xs ++ x ∷ []) ≡ map unit_tree xs ++ unit_tree x ∷ []
units_more xs x = map-append unit_tree xs (x ∷ [])

pub procs_more : (xs : List Procedure) (x : Procedure) → map procedure_tree (xs ++ x ∷ []) ≡ map procedure_tree xs ++ procedure_tree x ∷ []
procs_more xs x = map-append procedure_tree xs (x ∷ [])

pub lines_more : (xs : List NumLine) (x : NumLine) → map line_tree (xs ++ x ∷ []) ≡ map line_tree xs ++ line_tree x ∷ []
lines_more xs x = map-append line_tree xs (x ∷ [])

abbrev or_else : Level → Option Level → Level
or_else level None = level
or_else level (Some other) = other

abbrev first_or : Section → Option Section → Section
first_or section None = section
first_or section (Some other) = other

-- where a line stands, by the innermost of what is open
pub around_top : (owner : r.Owner) (levels : List Level) (level : Level) → slice_get levels 0 ≡ Some level → r.around owner (map level_tree levels) ≡ inside level.construct
around_top owner [] level e = absurd (cc)
around_top owner (top ∷ levels) level e = ap (λ (o : Option Level). inside (or_else top o).construct) e

pub around_none : (owner : r.Owner) (levels : List Level) → slice_get levels 0 ≡ None → r.around owner (map level_tree levels) ≡ r.around_owner owner
around_none owner [] e = refl
around_none owner (top ∷ levels) e = absurd (cc)

-- the first section of a construct begins with the line that opened it
pub opener_of : (sections : List Section) (section : Section) (head : t.NumLine) → slice_get sections 0 ≡ Some section → (section_tree section).0.line ≡ r.opener (map section_tree sections) head
opener_of [] section head e = absurd (cc)
opener_of (first ∷ sections) section head e = ap (λ (o : Option Section). (section_tree (first_or first o)).0.line) (sym e)

pub innermost_top : (owner : r.Owner) (levels : List Level) (level : Level) → slice_get levels 0 ≡ Some level → r.innermost owner (map level_tree levels) ≡ r.opener (level_tree level).sections (level_tree level).head
innermost_top owner [] level e = absurd (cc)
innermost_top owner (top ∷ levels) level e = ap (λ (o : Option Level). r.opener (level_tree (or_else top o)).sections (level_tree (or_else top o)).head) e

pub innermost_none : (owner : r.Owner) (levels : List Level) → slice_get levels 0 ≡ None → r.innermost owner (map level_tree levels) ≡ r.first_line owner
innermost_none owner [] e = refl
innermost_none owner (top ∷ levels) e = absurd (cc)

-- one more remark as a statement, and those behind it
pub waited_next : (done : List Stmt) (line : NumLine) (rest : List NumLine) →
    map stmt_tree (done ++ stmt_form.Single line ∷ []) ++ r.waited (map line_tree rest) ≡ map stmt_tree done ++ r.waited (map line_tree (line ∷ rest))
waited_next done line rest =
    ap (λ (xs : List t.Stmt). xs ++ r.waited (map line_tree rest)) (stmts_more done (stmt_form.Single line))
    ∙ append_assoc (map stmt_tree done) (stmt_tree (stmt_form.Single line) ∷ []) (r.waited (map line_tree rest))
    ∙ ap (λ (x : t.Stmt). map stmt_tree done ++ x ∷ r.waited (map line_tree rest)) (stmt_single line)
