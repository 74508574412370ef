-- Statements that are no GOTO and no EXIT: what they may leave is what IF MISSING or IF THERE says.
use Rattle.std.proofs.Common.{◌≡◌, ℕ, [], ◌∷◌, refl}
use Rattle.std.specs.List.{list_any}
use Rattle.std.specs.Option.{option_to_list}
use Rattle.bas_ast.specs.StatementTree.{plain_tree}
use Rattle.bas_ast.specs.declared.statement.Plain.{Plain}
use Rattle.bas_ast.specs.declared.statement.Plain.TheVariants as plain
use Rattle.bas_scope.specs.Lines.{gathered}
use Rattle.bas_rules.specs.Jumping.{goto_of, line_of_then, leaves_nothing, miss_leaves_nothing}
use Rattle.bas_rules.specs.Sites.{Site}
use Rattle.bas_rules.specs.Statements.{miss_of}

pub goes_by_miss : (p : Plain) → ((line : ℕ) → p ≡ plain.Goto line → ⊥) → goto_of (plain_tree p) ≡ gathered (λ m. line_of_then m.goes) (option_to_list (miss_of (plain_tree p)))
unfolding plain_tree
goes_by_miss (plain.Goto line) no_goto = absurd (no_goto line refl)
goes_by_miss _ no_goto = refl

pub leaves_by_miss : (x : Site) (p : Plain) → (p ≡ plain.ExitDo → ⊥) → (p ≡ plain.ExitFor → ⊥) → (p ≡ plain.ExitSub → ⊥) → (p ≡ plain.ExitFunction → ⊥) →
    leaves_nothing x (plain_tree p) ≡ list_any (miss_leaves_nothing x) (gathered (λ m. m.goes ∷ []) (option_to_list (miss_of (plain_tree p))))
unfolding plain_tree
leaves_by_miss x plain.ExitDo no_do no_for no_sub no_function = absurd (no_do refl)
leaves_by_miss x plain.ExitFor no_do no_for no_sub no_function = absurd (no_for refl)
leaves_by_miss x plain.ExitSub no_do no_for no_sub no_function = absurd (no_sub refl)
leaves_by_miss x plain.ExitFunction no_do no_for no_sub no_function = absurd (no_function refl)
leaves_by_miss x _ no_do no_for no_sub no_function = refl
