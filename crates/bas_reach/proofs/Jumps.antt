-- The lines that the jumps of a line name, part by part.
use Rattle.std.proofs.Common.{◌≡◌, ℕ, Bool, true, false, not, ◌||◌, List, [], ◌∷◌, ◌++◌, append-nil, append_assoc, refl, sym, ap, ◌∙◌}
use Rattle.std.proofs.lemmas.List.Folds.{list_any-append}
use Rattle.bas_ast.specs.Tree as t
use Rattle.bas_scope.specs.Lines.{gathered}
use Rattle.bas_rules.specs.Jumping.{is_listed}
use Rattle.bas_rules.specs.Statements.{plains_on}
use Rattle.bas_rules.specs.Sites as rule
use Rattle.bas_reach.specs.Placing.{misses}
use Rattle.bas_reach.specs.Standing.{IsSame}
use Rattle.bas_reach.proofs.Counting.{or_false}

or_grouped : (a b c : Bool) → ((a || b) || c) ≡ (a || (b || c))
or_grouped true b c = refl
or_grouped false b c = refl

pub one_missed : (reach : List ℕ) (line : ℕ) → misses reach (line ∷ []) ≡ not (is_listed reach line)
one_missed reach line = or_false (not (is_listed reach line))

pub misses_both : (reach lines more : List ℕ) → misses reach (lines ++ more) ≡ (misses reach lines || misses reach more)
misses_both reach lines more = list_any-append (λ l. not (is_listed reach l)) lines more

pub gathered_one : {X Y : Type 0} → (f : X → List Y) (x : X) → gathered f (x ∷ []) ≡ f x
gathered_one f x = append-nil (f x)

gathered_both : {X Y : Type 0} → (f : X → List Y) (xs ys : List X) → gathered f (xs ++ ys) ≡ gathered f xs ++ gathered f ys
gathered_both f [] ys = refl
gathered_both f (x ∷ xs) ys = ap (λ zs. f x ++ zs) (gathered_both f xs ys) ∙ sym (append_assoc (f x) (gathered f xs) (gathered f ys))

-- the lines that a line names itself, and those that its statements name
parts_miss : (reach own : List ℕ) (goes : t.Plain → List ℕ) (first second : List t.Plain) (item : t.LineItem) → first ++ second ≡ plains_on item →
    misses reach (own ++ gathered goes (plains_on item)) ≡ ((misses reach own || misses reach (gathered goes first)) || misses reach (gathered goes second))
parts_miss reach own goes first second item e =
    misses_both reach own (gathered goes (plains_on item))
    ∙ ap (λ plains. misses reach own || misses reach (gathered goes plains)) (sym e)
    ∙ ap (λ lines. misses reach own || misses reach lines) (gathered_both goes first second)
    ∙ ap (λ b. misses reach own || b) (misses_both reach (gathered goes first) (gathered goes second))
    ∙ sym (or_grouped (misses reach own) (misses reach (gathered goes first)) (misses reach (gathered goes second)))

-- the same lines are missed where the same lines are reached
same_missed : (x a : rule.Around) (lines : List ℕ) → IsSame x a → misses x.reach lines ≡ misses a.reach lines
same_missed x a [] same = refl
same_missed x a (l ∷ ls) same = ap (λ b. not b || misses x.reach ls) (same.reach l) ∙ ap (λ b. not (is_listed a.reach l) || b) (same_missed x a ls same)

-- the parts of a line miss what the whole line misses, wherever what is kept stands
pub whole_misses : (kept a : rule.Around) (own : List ℕ) (goes : t.Plain → List ℕ) (first second : List t.Plain) (item : t.LineItem) (b0 b1 b2 : Bool) → first ++ second ≡ plains_on item →
    b0 ≡ misses kept.reach own → b1 ≡ misses kept.reach (gathered goes first) → b2 ≡ misses kept.reach (gathered goes second) → IsSame kept a →
    ((b0 || b1) || b2) ≡ misses a.reach (own ++ gathered goes (plains_on item))
whole_misses kept a own goes first second item b0 b1 b2 e e0 e1 e2 same =
    rw (e0, e1, e2) (sym (parts_miss kept.reach own goes first second item e) ∙ same_missed kept a (own ++ gathered goes (plains_on item)) same)
