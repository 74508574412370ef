-- What the one line in the body of a definition breaks, its operands left out: it may use a SUB before it, or
-- set its name to a value of another kind, and nothing else.
use Rattle.std.proofs.Common.{◌≡◌, ℕ, Bool, true, false, not, ◌&&◌, ◌||◌, if◌then◌else◌, List, [], ◌∷◌, refl, sym, ◌∙◌}
use Rattle.std.specs.Bool.{beq}
use Rattle.std.proofs.Math.Bool.{or-false, and-false}
use Rattle.bas_ast.specs.Tree as t
use Rattle.bas_scope.specs.Shapes.{is_text_name}
use Rattle.bas_rules.specs.Sites.{Ground, site_at}
use Rattle.bas_rules.specs.Kinds.{Kind, Numeric, String, is_numeric, is_number, name_kind, expr_kind, same_kind}
use Rattle.bas_rules.specs.Naming.{uses_sub_before, declared_twice}
use Rattle.bas_rules.specs.Jumping.{is_initial, resumes_nothing, chains_in_initial_part}
use Rattle.bas_operands.specs.Operands.{first_broken}
use Rattle.bas_judge.specs.Definitions.{definition_line}
use Rattle.bas_judge.specs.Rows.{has_wrong_kind_itself, line_fault}

by_kinds : (text : Bool) (kind : Kind) → beq text (is_numeric kind) ≡ not (same_kind (if text then String else Numeric) kind)
by_kinds true Numeric = refl
by_kinds true String = refl
by_kinds false Numeric = refl
by_kinds false String = refl

-- a value of another kind than the name
pub other_kind : (name : List ℕ) (value : t.Expr) (text number : Bool) → text ≡ is_text_name name → number ≡ is_number value
    → beq text number ≡ not (same_kind (name_kind name) (expr_kind value))
other_kind name value text number e f = (λ i. beq (e i) (f i)) ∙ by_kinds (is_text_name name) (expr_kind value)

one_target : (same : Bool) → not same ≡ (not ((same && true) && true) || false)
one_target true = refl
one_target false = refl

-- the rules that the line breaks
pub definition_row : (g : Ground) (line : ℕ) (name : List ℕ) (value : t.Expr) (used other : Bool)
    → used ≡ uses_sub_before (site_at g t.Nothing (definition_line line name value))
    → other ≡ not (same_kind (name_kind name) (expr_kind value))
    → first_broken ((1, used) ∷ (3, other) ∷ []) ≡ line_fault (site_at g t.Nothing (definition_line line name value))
definition_row g line name value used other u o =
    let x = site_at g t.Nothing (definition_line line name value) in
    let twice : used ≡ declared_twice x = u ∙ sym (or-false (uses_sub_before x)) in
    let kind : other ≡ has_wrong_kind_itself x = o ∙ one_target (same_kind (name_kind name) (expr_kind value)) in
    let resumed : false ≡ resumes_nothing x = sym (and-false (not g.around.in_handler)) in
    let chained : false ≡ chains_in_initial_part x = sym (and-false (is_initial g.body.kind)) in
    λ i. first_broken ((1, twice i) ∷ (3, kind i) ∷ (7, resumed i) ∷ (22, chained i) ∷ [])
