-- The grammar of one-line IF and ON over plain statements, one form for each alternative.
use Rattle.std.specs.Prelude.{ℕ, List, Option, codes}
use Rattle.bas_form.specs.Form.{Form, Terminal, ◌then◌, ◌or◌, Built, ◌perhaps◌}
use Rattle.bas_ast.specs.declared.expression.Expr.{Expr}
use Rattle.bas_ast.specs.declared.condition.Cond.{Cond}
use Rattle.bas_ast.specs.declared.statement.Plain.{Plain}
use Rattle.bas_ast.specs.declared.statement.Branch.{Branch}
use Rattle.bas_ast.specs.declared.statement.Branch.TheVariants as branch
use Rattle.bas_ast.specs.declared.statement.Simple.{Simple}
use Rattle.bas_ast.specs.declared.statement.Simple.TheVariants as simple
use Rattle.bas_expr.specs.Lexemes.{Lexeme}
use Rattle.bas_expr.specs.Separated.{Behind}
use Rattle.bas_declaration.specs.Keywords.{at_word, then_word, spells}
use Rattle.bas_declaration.specs.Parts.{Listed, E, C}
use Rattle.bas_list.specs.Words.{line_number}
use Rattle.bas_line.specs.declared.jump.Jump.{Jump}
use Rattle.bas_line.specs.declared.jump.Jump.TheVariants as jump
use Rattle.bas_line.specs.Words.{if_word}

-- ---- the trees that parts make

-- a condition and one branch or two
abbrev pub if_of : Cond × (Branch × Option Branch) → Simple
if_of p = simple.If p.0 p.1.0 p.1.1

-- a value, where it goes, the lines, and what is done for no line
abbrev pub on_of : Expr × (Jump × (List ℕ × Option Plain)) → Simple
on_of (e, (jump.Goto, (numbers, other))) = simple.OnGoto e numbers other
on_of (e, (jump.Gosub, (numbers, other))) = simple.OnGosub e numbers other

module _ (tokens : List Lexeme) where
  -- "GOTO" | "GOSUB", each of one word or of two
  abbrev pub IsJump : Form Jump
  IsJump =
      Built (λ (word : Unit {0}). jump.Goto) (Terminal (spells (codes "GOTO") tokens))
      or Built (λ (word : Unit {0}). jump.Gosub) (Terminal (spells (codes "GOSUB") tokens))
      or Built (λ (word : Unit {0}). jump.Goto) (Behind (spells (codes "GO") tokens) (Terminal (spells (codes "TO") tokens)))
      or Built (λ (word : Unit {0}). jump.Gosub) (Behind (spells (codes "GO") tokens) (Terminal (spells (codes "SUB") tokens)))

-- `P` is what a plain statement is.
module _ (tokens : List Lexeme) (P : Form Plain) where
  -- number | plain
  abbrev pub IsBranch : Form Branch
  IsBranch = Built branch.Number (Terminal (line_number tokens)) or Built branch.Plain P

  -- branch [ "ELSE" branch ]
  abbrev pub IsBranches : Form (Branch × Option Branch)
  IsBranches = IsBranch perhaps Behind (spells (codes "ELSE") tokens) IsBranch

  -- "IF" cond "THEN" ( number | plain ) [ "ELSE" ( number | plain ) ]
  abbrev pub IsIf : Form Simple
  IsIf = Built if_of (Behind (at_word if_word tokens) (C tokens then Behind (at_word then_word tokens) IsBranches))

  -- number { "," number } [ "ELSE" plain ]
  abbrev pub IsNumbers : Form (List ℕ × Option Plain)
  IsNumbers = Listed tokens (Terminal (line_number tokens)) perhaps Behind (spells (codes "ELSE") tokens) P

  -- "ON" expr ( "GOTO" | "GOSUB" ) number { "," number } [ "ELSE" plain ]
  abbrev pub IsOn : Form Simple
  IsOn = Built on_of (Behind (spells (codes "ON") tokens) (E tokens then (IsJump tokens then IsNumbers)))

  -- simple = plain | one-line IF | ON
  abbrev pub IsSimple : Form Simple
  IsSimple = Built simple.Plain P or IsIf or IsOn
