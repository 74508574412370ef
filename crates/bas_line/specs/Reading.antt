-- How one-line IF and ON are read, in one pass from the left.
use Rattle.std.specs.Prelude.{ℕ, List, Option, codes}
use Rattle.bas_form.specs.Reader.{Reader, terminal, ◌followed_by◌, either, built, ◌maybe◌}
use Rattle.bas_ast.specs.declared.statement.Plain.{Plain}
use Rattle.bas_ast.specs.declared.statement.Branch.{Branch}
use Rattle.bas_ast.specs.declared.statement.Branch.TheVariants as branch
use Rattle.bas_ast.specs.declared.statement.Simple.{Simple}
use Rattle.bas_ast.specs.declared.statement.Simple.TheVariants as simple
use Rattle.bas_expr.specs.Lexemes.{Lexeme}
use Rattle.bas_expr.specs.Marks.{at_mark, comma}
use Rattle.bas_expr.specs.Separated.{behind}
use Rattle.bas_declaration.specs.Keywords.{at_word, then_word, spells}
use Rattle.bas_declaration.specs.Reading.{listed, e, c}
use Rattle.bas_list.specs.Words.{line_number}
use Rattle.bas_line.specs.declared.jump.Jump.{Jump}
use Rattle.bas_line.specs.declared.jump.Jump.TheVariants as jump
use Rattle.bas_line.specs.Words.{if_word}
use Rattle.bas_line.specs.Simples.{if_of, on_of}

module _ (tokens : List Lexeme) where
  -- the word behind GO
  unfoldable pub behind_go : Reader Jump
  behind_go =
      either (built (λ (word : Unit {0}). jump.Goto) (behind (spells (codes "GO") tokens) (terminal (spells (codes "TO") tokens))))
      (built (λ (word : Unit {0}). jump.Gosub) (behind (spells (codes "GO") tokens) (terminal (spells (codes "SUB") tokens))))

  -- "GOTO" | "GOSUB"
  unfoldable pub one_jump : Reader Jump
  one_jump =
      either (built (λ (word : Unit {0}). jump.Goto) (terminal (spells (codes "GOTO") tokens)))
      (either (built (λ (word : Unit {0}). jump.Gosub) (terminal (spells (codes "GOSUB") tokens))) behind_go)

  -- "," number
  abbrev pub next_number : Reader ℕ
  next_number = behind (at_mark comma tokens) (terminal (line_number tokens))

  -- number { "," number }
  unfoldable pub number_list : Reader (List ℕ)
  number_list = listed tokens (terminal (line_number tokens))

-- `p` reads a plain statement.
module _ (tokens : List Lexeme) (p : Reader Plain) where
  -- number | plain
  unfoldable pub one_branch : Reader Branch
  one_branch = either (built branch.Number (terminal (line_number tokens))) (built branch.Plain p)

  -- "ELSE" branch
  unfoldable pub else_branch : Reader Branch
  else_branch = behind (spells (codes "ELSE") tokens) one_branch

  -- branch [ "ELSE" branch ]
  unfoldable pub branches : Reader (Branch × Option Branch)
  branches = one_branch maybe else_branch

  -- "THEN" branch [ "ELSE" branch ]
  unfoldable pub then_branches : Reader (Branch × Option Branch)
  then_branches = behind (at_word then_word tokens) branches

  -- "IF" cond "THEN" branch [ "ELSE" branch ]
  unfoldable pub if_line : Reader Simple
  if_line = built if_of (behind (at_word if_word tokens) (c tokens followed_by then_branches))

  -- "ELSE" plain
  unfoldable pub else_plain : Reader Plain
  else_plain = behind (spells (codes "ELSE") tokens) p

  -- number { "," number } [ "ELSE" plain ]
  unfoldable pub numbers : Reader (List ℕ × Option Plain)
  numbers = number_list tokens maybe else_plain

  -- "ON" expr ( "GOTO" | "GOSUB" ) numbers
  unfoldable pub on_line : Reader Simple
  on_line = built on_of (behind (spells (codes "ON") tokens) (e tokens followed_by (one_jump tokens followed_by numbers)))

  -- plain, or else one-line IF, or else ON
  unfoldable pub simple_at : Reader Simple
  simple_at = either (built simple.Plain p) (either if_line on_line)
