-- Arguments hide a name.
use Rattle.std.proofs.Common.{◌≡◌, ℕ, false, List, [], ◌∷◌, Option, Some, None, refl}
use Rattle.std.specs.Prelude.{nat_lt}
use Rattle.std.specs.Option.{option_map_or}
use Rattle.bas_scope.specs.Nodes.{Node, OfWhole, whole_or}
use Rattle.bas_scope.specs.Senses.{Senses}
use Rattle.bas_rules.specs.Naming.{is_array, named_array, dimensions_in}
use Rattle.bas_rules.specs.Calling.{is_of_several}
use Rattle.bas_ast.specs.Tree as t
use Rattle.bas_ast.specs.ExpressionTree.{actuals_tree}
use Rattle.bas_ast.specs.declared.expression.Actual.{Actual}
use Rattle.bas_operands.specs.Whole.{name_alone}

pub args_hide : (name : List ℕ) (xs : List Actual) → (xs ≡ [] → ⊥) → None ≡ name_alone (Some (t.Named name (actuals_tree xs)))
args_hide name [] h = absurd (h refl)
args_hide name (x ∷ xs) h = refl

-- an array by itself is a name alone
pub array_alone : (s : Senses) (p : Option t.Primary) → named_array s p ≡ option_map_or (λ name. is_array (s.named name)) (name_alone p) false
array_alone s None = refl
array_alone s (Some (t.Numeric numeral)) = refl
array_alone s (Some (t.Quoted text)) = refl
array_alone s (Some (t.Group expr)) = refl
array_alone s (Some (t.Named name t.NoArgs)) = refl
array_alone s (Some (t.Named name (t.MoreArgs actual rest))) = refl
array_alone s (Some (t.Substring target first last)) = refl

-- so is an array of several dimensions
pub several_alone : (s : Senses) (p : Option t.Primary) → is_of_several s p ≡ option_map_or (λ name. nat_lt 1 (dimensions_in (s.named name))) (name_alone p) false
several_alone s None = refl
several_alone s (Some (t.Numeric numeral)) = refl
several_alone s (Some (t.Quoted text)) = refl
several_alone s (Some (t.Group expr)) = refl
several_alone s (Some (t.Named name t.NoArgs)) = refl
several_alone s (Some (t.Named name (t.MoreArgs actual rest))) = refl
several_alone s (Some (t.Substring target first last)) = refl

-- an argument that is a name alone is passed whole
pub whole_alone : (p : Option t.Primary) (others : List Node)
    → whole_or p others ≡ option_map_or (λ name. OfWhole (t.Named name t.NoArgs) ∷ []) (name_alone p) others
whole_alone None others = refl
whole_alone (Some (t.Numeric numeral)) others = refl
whole_alone (Some (t.Quoted text)) others = refl
whole_alone (Some (t.Group expr)) others = refl
whole_alone (Some (t.Named name t.NoArgs)) others = refl
whole_alone (Some (t.Named name (t.MoreArgs actual rest))) others = refl
whole_alone (Some (t.Substring target first last)) others = refl
