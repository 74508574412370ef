-- The code of conditions, in two forms: `Unless` jumps to an address if the condition is false, `If` jumps there
-- if it is true. Otherwise each continues after its code.
use Rattle.std.specs.Prelude.{◌≡◌, ℕ, suc, Option, Some, None}
use Rattle.bas_ast.specs.Tree.{Rel, Expr, Cond, AnyOf, Conjs, NoConjs, MoreConjs, Conj, AllOf, Tests, NoTests, MoreTests, Test, Not, CondGroup, Compare, Loopc, While, Until}
use Rattle.bas_ast.specs.Tree as tree
use Rattle.bas_code.specs.declared.instr.Relation.{Relation}
use Rattle.bas_code.specs.declared.instr.Relation.TheVariants.{Equal, NotEqual, Less, Greater, AtMost, AtLeast}
use Rattle.bas_code.specs.declared.instr.Instr.{Instr}
use Rattle.bas_code.specs.declared.instr.Instr.TheVariants as instr
use Rattle.bas_code.specs.declared.instr.JumpInstr.TheVariants.{JumpFalse, JumpTrue}
use Rattle.bas_code.specs.declared.instr.CompareInstr.TheVariants.{CompareNum}
use Rattle.bas_carry.specs.Text.{Text, At, NoneAt, OneAt, ThenAt}
use Rattle.bas_carry.specs.Expressions.{ExprAt}

-- the relation that an instruction is given
abbrev pub relation_of : Rel → Relation
relation_of tree.Equal = Equal
relation_of tree.NotEqual = NotEqual
relation_of tree.Less = Less
relation_of tree.Greater = Greater
relation_of tree.AtMost = AtMost
relation_of tree.AtLeast = AtLeast

module _ (text : Text) where
  -- both expressions, and their comparison
  abbrev pub CompareAt : Expr → Rel → Expr → ℕ → ℕ → Type 0
  CompareAt a rel b from to = ThenAt text (ExprAt text a) (ThenAt text (ExprAt text b) (OneAt text (instr.Compare (CompareNum (relation_of rel))))) from to

  -- a truth, and a jump on it
  pub record ForkAt (Code : ℕ → ℕ → Type 0) (i : Instr) (from to : ℕ) : Type 0 where
    pub middle : ℕ
    pub code : Code from middle
    pub jump : At text middle i
    pub end : suc middle ≡ to

  abbrev mutual
    -- jumps unless the condition holds
    pub UnlessAt : Cond → (from to a : ℕ) → Type 0
    UnlessAt (AnyOf first rest) from to a = UnlessAnyAt (UnlessAllAt first) (IfAllAt first) rest from to a

    -- jumps unless the first, which has these two codes, or one of the rest holds
    pub UnlessAnyAt : (Unless If : ℕ → ℕ → ℕ → Type 0) → Conjs → (from to a : ℕ) → Type 0
    UnlessAnyAt Unless If NoConjs from to a = Unless from to a
    UnlessAnyAt Unless If (MoreConjs next rest) from to a =
        (middle : ℕ) × If from middle to × UnlessAnyAt (UnlessAllAt next) (IfAllAt next) rest middle to a

    -- jumps if the condition holds
    pub IfAt : Cond → (from to a : ℕ) → Type 0
    IfAt (AnyOf first rest) from to a = IfAnyAt (IfAllAt first) rest from to a

    -- jumps if the first, which has this code, or one of the rest holds
    pub IfAnyAt : (If : ℕ → ℕ → ℕ → Type 0) → Conjs → (from to a : ℕ) → Type 0
    IfAnyAt If NoConjs from to a = If from to a
    IfAnyAt If (MoreConjs next rest) from to a = (middle : ℕ) × If from middle a × IfAnyAt (IfAllAt next) rest middle to a

    -- jumps unless all of the conditions hold
    pub UnlessAllAt : Conj → (from to a : ℕ) → Type 0
    UnlessAllAt (AllOf first rest) from to a = UnlessEachAt (UnlessTestAt first) rest from to a

    -- jumps unless the first, which has this code, and all of the rest hold
    pub UnlessEachAt : (Unless : ℕ → ℕ → ℕ → Type 0) → Tests → (from to a : ℕ) → Type 0
    UnlessEachAt Unless NoTests from to a = Unless from to a
    UnlessEachAt Unless (MoreTests next rest) from to a = (middle : ℕ) × Unless from middle a × UnlessEachAt (UnlessTestAt next) rest middle to a

    -- jumps if all of the conditions hold
    pub IfAllAt : Conj → (from to a : ℕ) → Type 0
    IfAllAt (AllOf first rest) from to a = IfEachAt (UnlessTestAt first) (IfTestAt first) rest from to a

    -- jumps if the first, which has these two codes, and all of the rest hold
    pub IfEachAt : (Unless If : ℕ → ℕ → ℕ → Type 0) → Tests → (from to a : ℕ) → Type 0
    IfEachAt Unless If NoTests from to a = If from to a
    IfEachAt Unless If (MoreTests next rest) from to a =
        (middle : ℕ) × Unless from middle to × IfEachAt (UnlessTestAt next) (IfTestAt next) rest middle to a

    -- jumps unless the test holds; NOT exchanges the two forms
    pub UnlessTestAt : Test → (from to a : ℕ) → Type 0
    UnlessTestAt (Not t) from to a = IfTestAt t from to a
    UnlessTestAt (CondGroup c) from to a = UnlessAt c from to a
    UnlessTestAt (Compare x rel y) from to a = ForkAt (CompareAt x rel y) (instr.Jump (JumpFalse a)) from to

    -- jumps if the test holds
    pub IfTestAt : Test → (from to a : ℕ) → Type 0
    IfTestAt (Not t) from to a = UnlessTestAt t from to a
    IfTestAt (CondGroup c) from to a = IfAt c from to a
    IfTestAt (Compare x rel y) from to a = ForkAt (CompareAt x rel y) (instr.Jump (JumpTrue a)) from to

  -- jumps to a if the loop ends
  abbrev pub LoopcAt : Option Loopc → (from to a : ℕ) → Type 0
  LoopcAt None from to a = NoneAt text from to
  LoopcAt (Some (While c)) from to a = UnlessAt c from to a
  LoopcAt (Some (Until c)) from to a = IfAt c from to a
