use Rattle.std.proofs.Common.{refl}
use Rattle.std.specs.Fmt.{digits}
use Rattle.bas_drive.proofs.laws.worked_reports.Goals as goal

pub returns-clause-stop : goal.returns-clause-stop
unfolding digits
returns-clause-stop c = refl

pub returns-clause-long : goal.returns-clause-long
unfolding digits
returns-clause-long c = refl

pub returns-clause-unnumbered : goal.returns-clause-unnumbered
unfolding digits
returns-clause-unnumbered c = refl

pub returns-clause-order : goal.returns-clause-order
unfolding digits
returns-clause-order c = refl

pub returns-clause-bad_line : goal.returns-clause-bad_line
unfolding digits
returns-clause-bad_line c = refl

pub returns-clause-nest : goal.returns-clause-nest
unfolding digits
returns-clause-nest c = refl

pub returns-clause-unclosed : goal.returns-clause-unclosed
unfolding digits
returns-clause-unclosed c = refl

pub returns-clause-rule : goal.returns-clause-rule
unfolding digits
returns-clause-rule c = refl

pub returns-clause-file : goal.returns-clause-file
unfolding digits
returns-clause-file c = refl

pub returns-clause-body : goal.returns-clause-body
unfolding digits
returns-clause-body c = refl
