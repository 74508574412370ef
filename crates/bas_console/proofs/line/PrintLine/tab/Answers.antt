use Rattle.std.proofs.Common.{◌-◌, ◌%◌, ap}
use Rattle.bas_console.specs.Line.{Line}
use Rattle.bas_console.proofs.Columns.{tab-is}
use Rattle.bas_console.proofs.Printing.{prints-same}
use Rattle.bas_console.proofs.line.PrintLine.tab.Goals as goal

pub returns-in-Ok-clause-printed : goal.returns-in-Ok-clause-printed
returns-in-Ok-clause-printed c = prints-same (tab-is c.args.self.now.margin c.args.n _ (ap (λ (l : Line). (c.args.n - 1) % l.margin) c.go_to.view_is) _) c.in-Ok.ensures.printed
