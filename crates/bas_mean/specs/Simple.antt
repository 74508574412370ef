-- The rows of the simple lines: what the words of each do, and what they lead to.
use Rattle.std.specs.Prelude.{ℕ, List, [], ◌∷◌, Option, Some, None}
use Rattle.bas_dec.specs.Number.{Number}
use Rattle.bas_dec.specs.Text.{text_of}
use Rattle.bas_ast.specs.Tree.{Expr, Target, Variable, NoExprs, MoreExprs, Sep, Pitem, Printed, Plain, Let, Print, Goto, ExitDo, Simple, Alone}
use Rattle.bas_mean.specs.World.{OfName, Ref, World}
use Rattle.bas_mean.specs.Printing.{with_item, with_line_ended}
use Rattle.bas_mean.specs.Outcome.{Evaluated, Gives, then_with, undefined, LineOf, EndOf, Next, Onward, Jump}
use Rattle.bas_mean.specs.Place.{Here}
use Rattle.bas_mean.specs.Expression.{answered, fitted, stored, number}

-- a store through a reference
abbrev pub store : Here → Ref → Number → World → Evaluated Next
store here r x w = then_with (answered here (fitted (w.cells r.invocation r.variable) x) w) (λ y w1. Gives Onward (stored r y w1))

-- a target's reference
abbrev pub target_ref : Here → Target → World → Evaluated Ref
target_ref here (Variable name NoExprs) w = Gives (here.refs (OfName name)) w
target_ref here (Variable name (MoreExprs e rest)) w = undefined w

-- LET: the target's reference, the value, and the store
abbrev pub let_words : Here → List Target → Expr → World → Evaluated Next
let_words here (t ∷ []) e w = then_with (target_ref here t w) (λ r w1. then_with (number here e w1) (λ x w2. store here r x w2))
let_words here _ e w = undefined w

-- PRINT: the item, which is printed when it has been evaluated, and the end of the line
abbrev pub print_words : Here → Option Pitem → List (Sep × Option Pitem) → World → Evaluated Next
print_words here None [] w = Gives Onward (with_line_ended w)
print_words here (Some (Printed e)) [] w = then_with (number here e w) (λ x w1. Gives Onward (with_line_ended (with_item (text_of x) w1)))
print_words here _ _ w = undefined w

-- EXIT DO: past the end of the innermost DO around it
abbrev pub exit_words : Option ℕ → World → Evaluated Next
exit_words None w = undefined w
exit_words (Some l) w = Gives (Jump (EndOf l)) w

-- one row for each statement
abbrev pub plain_words : Here → Plain → World → Evaluated Next
plain_words here (Let targets e) w = let_words here targets e w
plain_words here (Print list) w = print_words here list.first list.rest w
plain_words here (Goto l) w = Gives (Jump (LineOf l)) w
plain_words here ExitDo w = exit_words here.around.do_line w
plain_words here _ w = undefined w

-- a statement alone
abbrev pub simple_words : Here → Simple → World → Evaluated Next
simple_words here (Alone plain) w = plain_words here plain w
simple_words here _ w = undefined w
