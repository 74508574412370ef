-- The first of several sections.
use Rattle.std.proofs.Common.{◌≡◌, ℕ, List, [], ◌∷◌, Option, Some, None, ap}
use Rattle.std.specs.List.{slice_get}
use Rattle.bas_ast.specs.Accessors.{first_of}
use Rattle.bas_ast.specs.BlockTree.{sections_tree, section_tree}
use Rattle.bas_ast.specs.declared.block.Section.{Section}

pub first_is : (xs : List Section) (x : Section) (close : ℕ) → slice_get xs 0 ≡ Some x → first_of (sections_tree xs) close ≡ (section_tree x).0.line
first_is [] x close e = let bad : None ≡ Some x = e in absurd cc
first_is (y ∷ ys) x close e = let same : y ≡ x = cc in ap (λ z. (section_tree z).0.line) same
