-- The rules that each kind of node is held to.
use Rattle.std.proofs.Common.{◌≡◌, ℕ, suc, Bool, ◌&&◌, ◌==◌, List, [], ◌∷◌, length, map, refl, ap, sym}
use Rattle.std.specs.Prelude.{not}
use Rattle.std.proofs.Math.Dec.{eqb-suc-zero}
use Rattle.bas_ast.specs.Tree as t
use Rattle.bas_ast.specs.ExpressionTree.{actual_tree, actuals_tree, exprs_tree, target_tree}
use Rattle.bas_ast.specs.declared.expression.Actual.{Actual}
use Rattle.bas_ast.specs.declared.expression.Expr.{Expr}
use Rattle.bas_ast.specs.declared.expression.Target.{Target, out-Target}
use Rattle.bas_ast.proofs.ExpressionTrees.{target_out}
use Rattle.bas_scope.specs.Nodes.{OfPrimary, OfTarget, OfCall}
use Rattle.bas_scope.specs.Senses.{Sense, Senses}
use Rattle.bas_rules.specs.Kinds.{call_agrees, primary_agrees, target_agrees}
use Rattle.bas_rules.specs.Naming.{misuses_args, misuses_target, takes_args, is_function, is_outside_function, exprs_length}
use Rattle.bas_rules.specs.Calling.{misfits_function, misfits_sub, miscounts, is_too_long}
use Rattle.bas_operands.specs.Operands.{node_fault, first_broken}
use Rattle.bas_operands.proofs.Arguments.{actuals_mapped}

named_rules : (s : Senses) (name : List ℕ) (xs : List Actual)
    → first_broken ((2, misuses_args s (s.named name) (map actual_tree xs)) ∷ (3, not (call_agrees (s.named name) (map actual_tree xs)))
    ∷ (11, misfits_function s (map actual_tree xs) (s.named name)) ∷ (12, miscounts s (s.named name) (map actual_tree xs))
    ∷ (20, is_too_long (map actual_tree xs)) ∷ (23, not (length xs == 0) && not (takes_args (s.named name))) ∷ [])
    ≡ node_fault s (OfPrimary (t.Named name (actuals_tree xs)))
unfolding node_fault
named_rules s name [] = refl
named_rules s name (x ∷ xs) =
    let rules = λ (l : List t.Actual). first_broken ((2, misuses_args s (s.named name) (actual_tree x ∷ l)) ∷ (3, not (call_agrees (s.named name) (actual_tree x ∷ l)))
    ∷ (11, misfits_function s (actual_tree x ∷ l) (s.named name)) ∷ (12, miscounts s (s.named name) (actual_tree x ∷ l))
    ∷ (20, is_too_long (actual_tree x ∷ l)) ∷ (23, not (takes_args (s.named name))) ∷ []) in
    rw (eqb-suc-zero (length xs)) (ap rules (sym (actuals_mapped xs)))

-- a name with arguments
pub named_is : (s : Senses) (name : List ℕ) (xs : List Actual) (sense : Sense) (b c d e f g : Bool) → sense ≡ s.named name
    → b ≡ misuses_args s sense (map actual_tree xs) → c ≡ call_agrees sense (map actual_tree xs)
    → d ≡ misfits_function s (map actual_tree xs) sense → e ≡ miscounts s sense (map actual_tree xs)
    → f ≡ is_too_long (map actual_tree xs) → g ≡ (not (length xs == 0) && not (takes_args sense))
    → first_broken ((2, b) ∷ (3, not c) ∷ (11, d) ∷ (12, e) ∷ (20, f) ∷ (23, g) ∷ []) ≡ node_fault s (OfPrimary (t.Named name (actuals_tree xs)))
named_is s name xs sense b c d e f g is eb ec ed ee ef eg = rw (eb, ec, ed, ee, ef, eg, is) (named_rules s name xs)

call_rules : (s : Senses) (name : List ℕ) (xs : List Actual)
    → first_broken ((3, not (call_agrees (s.called name) (map actual_tree xs))) ∷ (11, misfits_sub s (map actual_tree xs) (s.called name))
    ∷ (20, is_too_long (map actual_tree xs)) ∷ (23, is_function (s.called name)) ∷ [])
    ≡ node_fault s (OfCall name (actuals_tree xs))
unfolding node_fault
call_rules s name xs =
    let rules = λ (l : List t.Actual). first_broken ((3, not (call_agrees (s.called name) l)) ∷ (11, misfits_sub s l (s.called name))
    ∷ (20, is_too_long l) ∷ (23, is_function (s.called name)) ∷ []) in
    ap rules (sym (actuals_mapped xs))

-- CALL
pub call_is : (s : Senses) (name : List ℕ) (xs : List Actual) (sense : Sense) (c d f g : Bool) → sense ≡ s.called name
    → c ≡ call_agrees sense (map actual_tree xs) → d ≡ misfits_sub s (map actual_tree xs) sense
    → f ≡ is_too_long (map actual_tree xs) → g ≡ is_function sense
    → first_broken ((3, not c) ∷ (11, d) ∷ (20, f) ∷ (23, g) ∷ []) ≡ node_fault s (OfCall name (actuals_tree xs))
call_is s name xs sense c d f g is ec ed ef eg = rw (ec, ed, ef, eg, is) (call_rules s name xs)

exprs_counted : (xs : List Expr) → exprs_length (exprs_tree xs) ≡ length xs
exprs_counted [] = refl
exprs_counted (x ∷ xs) = ap suc (exprs_counted xs)

target_rules : (s : Senses) (name : List ℕ) (xs : List Expr)
    → first_broken ((2, misuses_target (s.named name) (length xs)) ∷ (3, not (target_agrees (t.Variable name (exprs_tree xs))))
    ∷ (16, (length xs == 0) && is_outside_function (s.named name)) ∷ [])
    ≡ node_fault s (OfTarget (t.Variable name (exprs_tree xs)))
unfolding node_fault
target_rules s name [] = refl
target_rules s name (x ∷ xs) =
    let rules = λ (n : ℕ). first_broken ((2, misuses_target (s.named name) n) ∷ (3, not (target_agrees (t.Variable name (exprs_tree (x ∷ xs))))) ∷ []) in
    rw (eqb-suc-zero (length xs)) (ap rules (sym (exprs_counted (x ∷ xs))))

-- a target, by what its name is
pub set_is : (s : Senses) (name : List ℕ) (n : ℕ) (sense : Sense) (b c d : Bool) → sense ≡ s.named name
    → b ≡ misuses_target sense n → d ≡ ((n == 0) && is_outside_function sense)
    → first_broken ((2, b) ∷ (3, not c) ∷ (16, d) ∷ [])
    ≡ first_broken ((2, misuses_target (s.named name) n) ∷ (3, not c) ∷ (16, (n == 0) && is_outside_function (s.named name)) ∷ [])
set_is s name n sense b c d is eb ed = rw (eb, ed, is) refl

-- a target
pub target_is : (s : Senses) (x : Target) (xs : List Expr) (c : Bool) → xs ≡ (out-Target x).subscripts → c ≡ target_agrees (target_tree x)
    → first_broken ((2, misuses_target (s.named (out-Target x).name) (length xs)) ∷ (3, not c)
    ∷ (16, (length xs == 0) && is_outside_function (s.named (out-Target x).name)) ∷ [])
    ≡ node_fault s (OfTarget (target_tree x))
target_is s x xs c same ec = rw (ec, target_out x, same) (target_rules s (out-Target x).name (out-Target x).subscripts)

-- a substring
pub substring_is : (s : Senses) (x : Target) (first last : t.Expr) (sense : Sense) (c d : Bool) → sense ≡ s.named (out-Target x).name
    → c ≡ primary_agrees s (t.Substring (target_tree x) first last) → d ≡ is_function sense
    → first_broken ((3, not c) ∷ (16, d) ∷ []) ≡ node_fault s (OfPrimary (t.Substring (target_tree x) first last))
unfolding node_fault
substring_is s x first last sense c d is ec ed = rw (ec, ed, is, target_out x) refl
