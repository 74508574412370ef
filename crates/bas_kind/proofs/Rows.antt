-- What holds of the statements of a line, in one row or in two.
use Rattle.std.proofs.Math.Bool.{and-true}
use Rattle.std.proofs.lemmas.List.Folds.{list_all-append}

pub ruleset rows = (and-true, list_all-append)
