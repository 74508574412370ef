-- The plain tree of a condition: each layer with the plain trees of its parts in their places.
use Rattle.std.specs.Prelude.{List, [], ◌∷◌}
use Rattle.bas_ast.specs.Tree as t
use Rattle.bas_ast.specs.ExpressionTree.{expr_tree}
use Rattle.bas_ast.specs.declared.condition.Rel.{Rel}
use Rattle.bas_ast.specs.declared.condition.Rel.TheVariants as rel
use Rattle.bas_ast.specs.declared.condition.Cond.{Cond, Cond-F, fold-Cond}
use Rattle.bas_ast.specs.declared.condition.Conj.{Conj, Conj-F, fold-Conj}
use Rattle.bas_ast.specs.declared.condition.Test.{Test, Test-F, fold-Test}
use Rattle.bas_ast.specs.declared.condition.Test.TheOpen as layer

-- the plain form of a relation
abbrev pub rel_tree : Rel → t.Rel
rel_tree rel.Equal = t.Equal
rel_tree rel.NotEqual = t.NotEqual
rel_tree rel.Less = t.Less
rel_tree rel.Greater = t.Greater
rel_tree rel.AtMost = t.AtMost
rel_tree rel.AtLeast = t.AtLeast

-- plain trees in a row
abbrev pub conjs_of : List t.Conj → t.Conjs
conjs_of [] = t.NoConjs
conjs_of (x ∷ xs) = t.MoreConjs x (conjs_of xs)

abbrev pub tests_of : List t.Test → t.Tests
tests_of [] = t.NoTests
tests_of (x ∷ xs) = t.MoreTests x (tests_of xs)

-- a layer of each type, with plain trees as its parts
abbrev pub test_of : Test-F t.Test t.Cond t.Conj → t.Test
test_of (layer.Not x) = t.Not x
test_of (layer.Group x) = t.CondGroup x
test_of (layer.Compare left op right) = t.Compare (expr_tree left) (rel_tree op) (expr_tree right)

abbrev pub cond_of : Cond-F t.Test t.Cond t.Conj → t.Cond
cond_of x = t.AnyOf x.first (conjs_of x.rest)

abbrev pub conj_of : Conj-F t.Test t.Cond t.Conj → t.Conj
conj_of x = t.AllOf x.first (tests_of x.rest)

-- the plain tree of a condition
unfoldable pub cond_tree : Cond → t.Cond
cond_tree = fold-Cond t.Test t.Cond t.Conj test_of cond_of conj_of

-- the plain tree of what OR joins
unfoldable pub conj_tree : Conj → t.Conj
conj_tree = fold-Conj t.Test t.Cond t.Conj test_of cond_of conj_of

-- the plain tree of what AND joins
unfoldable pub test_tree : Test → t.Test
test_tree = fold-Test t.Test t.Cond t.Conj test_of cond_of conj_of

-- the plain trees of parts in a row
abbrev pub conjs_tree : List Conj → t.Conjs
conjs_tree [] = t.NoConjs
conjs_tree (x ∷ xs) = t.MoreConjs (conj_tree x) (conjs_tree xs)

abbrev pub tests_tree : List Test → t.Tests
tests_tree [] = t.NoTests
tests_tree (x ∷ xs) = t.MoreTests (test_tree x) (tests_tree xs)
