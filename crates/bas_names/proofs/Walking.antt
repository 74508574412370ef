-- The lines that a part of a body pushes.
use Rattle.std.proofs.Common.{◌≡◌, Bool, true, false, ◌&&◌, not, if◌then◌else◌, List, [], ◌∷◌, ◌++◌, sym, ap, ◌∙◌, append_assoc}
use Rattle.std.specs.Borrow.{Bor}
use Rattle.std.proofs.lemmas.List.{map-append}
use Rattle.bas_ast.specs.Tree as t
use Rattle.bas_ast.specs.BlockTree.{item_tree, line_tree, block_tree, section_tree}
use Rattle.bas_ast.specs.declared.block.NumLine.{NumLine}
use Rattle.bas_ast.specs.declared.block.Section.{Section, out-Section}
use Rattle.bas_ast.proofs.BlockTrees.{section_out}
use Rattle.bas_scope.specs.Lines.{lines_of_block, opens_procedure}
use Rattle.bas_names.specs.Lent.{line_trees}

pub pushed : (old new : List (Bor NumLine)) (line : Bor NumLine) → new ≡ old ++ line ∷ [] → line_trees new ≡ line_trees old ++ line_tree line.now ∷ []
pushed old new line e = ap line_trees e ∙ map-append (λ l. line_tree l.now) old (line ∷ [])

-- what a section pushes, of which the block may be left out
abbrev pub PushesSection : (inside opens : Bool) (old new : List (Bor NumLine)) → t.NumLine × t.Block → Type 0
PushesSection inside opens old new s =
    ((opens && not inside) ≡ (opens_procedure s.0.item && not inside))
    × (line_trees new ≡ line_trees old ++ s.0 ∷ (if opens && not inside then [] else lines_of_block inside s.1))

pub section_pushed : (s : Section) (inside opens : Bool) (old mid new : List (Bor NumLine)) (head : Bor NumLine)
    → opens ≡ opens_procedure (item_tree (out-Section s).head.item) → mid ≡ old ++ head ∷ [] → head.now ≡ (out-Section s).head
    → line_trees new ≡ line_trees mid ++ lines_of_block inside (block_tree (out-Section s).body) → (opens && not inside) ≡ false
    → PushesSection inside opens old new (section_tree s)
section_pushed s inside opens old mid new head o m h n e =
    rw section_out (
      ap (λ b. b && not inside) o,
      n
          ∙ ap (λ l. l ++ lines_of_block inside (block_tree (out-Section s).body)) (pushed old mid head m ∙ ap (λ x. line_trees old ++ line_tree x ∷ []) h)
          ∙ append_assoc (line_trees old) (line_tree (out-Section s).head ∷ []) (lines_of_block inside (block_tree (out-Section s).body))
          ∙ ap (λ b. line_trees old ++ line_tree (out-Section s).head ∷ (if b then [] else lines_of_block inside (block_tree (out-Section s).body))) (sym e),
    )

pub section_left_out : (s : Section) (inside opens : Bool) (old new : List (Bor NumLine)) (head : Bor NumLine)
    → opens ≡ opens_procedure (item_tree (out-Section s).head.item) → new ≡ old ++ head ∷ [] → head.now ≡ (out-Section s).head
    → (opens && not inside) ≡ true
    → PushesSection inside opens old new (section_tree s)
section_left_out s inside opens old new head o m h e =
    rw section_out (
      ap (λ b. b && not inside) o,
      pushed old new head m
          ∙ ap (λ x. line_trees old ++ line_tree x ∷ []) h
          ∙ ap (λ b. line_trees old ++ line_tree (out-Section s).head ∷ (if b then [] else lines_of_block inside (block_tree (out-Section s).body))) (sym e),
    )
