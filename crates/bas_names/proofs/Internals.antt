-- The internal procedure that a construct is.
use Rattle.std.proofs.Common.{◌≡◌, Bool, true, false, if◌then◌else◌, List, [], ◌∷◌, Some, None, sym, ap, ◌∙◌}
use Rattle.std.specs.List.{slice_get}
use Rattle.bas_ast.specs.Tree as t
use Rattle.bas_ast.specs.BlockTree.{item_tree, line_tree, block_tree, section_tree, sections_tree}
use Rattle.bas_ast.specs.declared.block.Section.{Section, out-Section}
use Rattle.bas_ast.proofs.BlockTrees.{section_out}
use Rattle.bas_scope.specs.Lines.{gathered, opens_procedure}
use Rattle.bas_scope.specs.Shapes.{Options}
use Rattle.bas_scope.specs.Scope.{Home, Inner, Table as Entries, inner_of, procedure_entry}
use Rattle.bas_names.specs.declared.entry.Table.{Table}
use Rattle.bas_names.specs.Tables.{Puts}
use Rattle.bas_names.proofs.Putting.{puts_none, puts_both, same_entries}

-- the entry of an internal procedure
abbrev pub inner_entry : Options → Home → Inner → Entries
inner_entry options home inner = procedure_entry options home inner.0.item inner.1

abbrev if_opens : t.NumLine × t.Block → List Inner
if_opens s = if opens_procedure s.0.item then s ∷ [] else []

first_inner : (xs : List Section) (x : Section) (close : t.NumLine) → slice_get xs 0 ≡ Some x → inner_of (t.Nest (sections_tree xs) close) ≡ if_opens (section_tree x)
first_inner [] x close e = let bad : None ≡ Some x = e in absurd cc
first_inner (y ∷ ys) x close e = let same : y ≡ x = cc in ap (λ z. if_opens (section_tree z)) same

-- the first section as it is, where that is known to open a procedure or not
inner_known : (xs : List Section) (x : Section) (close : t.NumLine) (opens : Bool) → slice_get xs 0 ≡ Some x → opens_procedure (item_tree (out-Section x).head.item) ≡ opens
    → inner_of (t.Nest (sections_tree xs) close) ≡ (if opens then (line_tree (out-Section x).head, block_tree (out-Section x).body) ∷ [] else [])
inner_known xs x close opens e o =
    first_inner xs x close e
    ∙ ap if_opens (section_out x)
    ∙ ap (λ (b : Bool). if b then (line_tree (out-Section x).head, block_tree (out-Section x).body) ∷ [] else []) o

pub first_put : (options : Options) (home : Home) (xs : List Section) (x : Section) (close : t.NumLine) (old new : Table)
    → slice_get xs 0 ≡ Some x → opens_procedure (item_tree (out-Section x).head.item) ≡ true
    → Puts old new (procedure_entry options home (item_tree (out-Section x).head.item) (block_tree (out-Section x).body))
    → Puts old new (gathered (inner_entry options home) (inner_of (t.Nest (sections_tree xs) close)))
first_put options home xs x close old new e o p =
    same_entries (sym (ap (gathered (inner_entry options home)) (inner_known xs x close true e o))) (puts_both p (puts_none new))

pub first_not_put : (options : Options) (home : Home) (xs : List Section) (x : Section) (close : t.NumLine) (old : Table)
    → slice_get xs 0 ≡ Some x → opens_procedure (item_tree (out-Section x).head.item) ≡ false
    → Puts old old (gathered (inner_entry options home) (inner_of (t.Nest (sections_tree xs) close)))
first_not_put options home xs x close old e o =
    same_entries (sym (ap (gathered (inner_entry options home)) (inner_known xs x close false e o))) (puts_none old)
