-- The top of a body without END.
use Rattle.std.proofs.Common.{ℕ, List, [], ◌++◌, append-nil}
use Rattle.bas_rules.specs.Sites as rule
use Rattle.bas_reach.specs.Standing.{Tells}
use Rattle.bas_reach.specs.declared.around.Around.{Around}

-- no line is put behind
pub no_end : (top : Around) (lines : List ℕ) → Tells top (rule.at_top lines) → Tells top (rule.at_top (lines ++ []))
no_end top lines h = rw append-nil h
