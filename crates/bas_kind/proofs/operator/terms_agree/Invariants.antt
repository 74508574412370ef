-- The whole agrees where what is left does.
use Rattle.std.proofs.Common.{◌≡◌, drop}
use Rattle.bas_ast.specs.ExpressionTree.{terms_tree}
use Rattle.bas_kind.specs.Truths.{kind_of}
use Rattle.bas_rules.specs.Kinds.{terms_agree}
use Rattle.bas_kind.proofs.operator.terms_agree.Given as goal

abbrev pub invariant-loop-sign : goal.invariant-loop-sign
invariant-loop-sign l = terms_agree (kind_of l.before) (terms_tree (drop l.sign-index l.rest)) ≡ terms_agree (kind_of l.fn.numeric) (terms_tree l.rest)
