-- What is inside of each construct: its first line tells no more than which one it is.
use Rattle.std.proofs.Common.{◌≡◌, ℕ, List, Option, None, Result, Ok, Err, IfOk, refl, ap}
use Rattle.std.specs.Option.{option_map}
use Rattle.bas_ast.specs.Tree as t
use Rattle.bas_ast.specs.BlockTree.{item_tree}
use Rattle.bas_ast.specs.ExpressionTree.{expr_tree}
use Rattle.bas_ast.specs.PartTree.{part_tree}
use Rattle.bas_ast.specs.declared.block.LineItem.{LineItem}
use Rattle.bas_ast.specs.declared.block.LineItem.TheVariants as item
use Rattle.bas_ast.specs.declared.expression.Expr.{Expr}
use Rattle.bas_ast.specs.declared.part.Loopc.{Loopc}
use Rattle.bas_ast.specs.declared.part.Part.{Part}
use Rattle.bas_ast.specs.declared.part.Part.TheVariants as part
use Rattle.bas_rules.specs.Sites as rule
use Rattle.bas_reach.specs.Standing.{Enters}
use Rattle.bas_reach.specs.declared.around.Around.{Around}

pub if_ok : {T E : Type 0} {P Q : T → Type 0} → (r : Result T E) → ((x : T) → P x → Q x) → IfOk r P → IfOk r Q
if_ok (Ok x) go h = go x h
if_ok (Err e) go h = h

-- another first line, inside of which the same is around
pub enters_as : {E : Type 0} → (r : Result Around E) (outer : Around) (head other : t.LineItem) (block : t.Block) (close last : ℕ) → ((a : rule.Around) → rule.inside head block close a ≡ rule.inside other block last a) →
    IfOk r (λ inner. Enters outer inner other block last) → IfOk r (λ inner. Enters outer inner head block close)
enters_as r outer head other block close last same = if_ok r (λ inner enters a tells. rw (same a) (enters a tells))

pub do_inside : (p : Part) (loopc : Option Loopc) (block : t.Block) (close : ℕ) (a : rule.Around) → p ≡ part.Do loopc → rule.inside (t.OfPart (part_tree p)) block close a ≡ rule.inside (t.OfPart (t.Do None)) block close a
unfolding part_tree
do_inside p loopc block close a e = ap (λ q. rule.inside (t.OfPart (part_tree q)) block close a) e

pub for_inside : (p : Part) (name : List ℕ) (start limit : Expr) (step : Option Expr) (block : t.Block) (close : ℕ) (a : rule.Around) → p ≡ part.For name start limit step →
    rule.inside (t.OfPart (part_tree p)) block close a ≡ rule.inside (t.OfPart (t.For name (expr_tree start) (expr_tree limit) (option_map expr_tree step))) block close a
unfolding part_tree
for_inside p name start limit step block close a e = ap (λ q. rule.inside (t.OfPart (part_tree q)) block close a) e

pub use_inside : (p : Part) (block : t.Block) (close : ℕ) (a : rule.Around) → p ≡ part.Use → rule.inside (t.OfPart (part_tree p)) block close a ≡ rule.inside (t.OfPart t.Use) block 0 a
unfolding part_tree
use_inside p block close a e = ap (λ q. rule.inside (t.OfPart (part_tree q)) block close a) e

pub handler_inside : (p : Part) (name : List ℕ) (block : t.Block) (close : ℕ) (a : rule.Around) → p ≡ part.Handler name → rule.inside (t.OfPart (part_tree p)) block close a ≡ rule.inside (t.OfPart (t.Handler name)) block 0 a
unfolding part_tree
handler_inside p name block close a e = ap (λ q. rule.inside (t.OfPart (part_tree q)) block close a) e

pub other_inside : (p : Part) (block : t.Block) (close : ℕ) (a : rule.Around) →
    ((loopc : Option Loopc) → p ≡ part.Do loopc → ⊥) → ((name : List ℕ) (start limit : Expr) (step : Option Expr) → p ≡ part.For name start limit step → ⊥) → (p ≡ part.Use → ⊥) → ((name : List ℕ) → p ≡ part.Handler name → ⊥) →
    rule.inside (t.OfPart (part_tree p)) block close a ≡ rule.inside t.Nothing block 0 a
unfolding part_tree
other_inside (part.Do loopc) block close a no_do no_for no_use no_handler = absurd (no_do loopc refl)
other_inside (part.For name start limit step) block close a no_do no_for no_use no_handler = absurd (no_for name start limit step refl)
other_inside part.Use block close a no_do no_for no_use no_handler = absurd (no_use refl)
other_inside (part.Handler name) block close a no_do no_for no_use no_handler = absurd (no_handler name refl)
other_inside _ block close a no_do no_for no_use no_handler = refl

pub no_construct : (x : LineItem) (block : t.Block) (close : ℕ) (a : rule.Around) → ((p : Part) → x ≡ item.Part p → ⊥) → rule.inside (item_tree x) block close a ≡ rule.inside t.Nothing block 0 a
unfolding item_tree
no_construct (item.Part p) block close a no_part = absurd (no_part p refl)
no_construct _ block close a no_part = refl
