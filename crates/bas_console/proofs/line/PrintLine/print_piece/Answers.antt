use Rattle.std.proofs.Common.{◌+◌, ◌≤◌, length, sym, subst}
use Rattle.std.proofs.lemmas.Result.{on_ok_weaker}
use Rattle.bas_console.specs.Line.{Line}
use Rattle.bas_console.proofs.Printing.{prints-then, prints-same}
use Rattle.bas_console.proofs.Wrapping.{item-piece}
use Rattle.bas_console.proofs.line.PrintLine.print_piece.Goals as goal

pub returns-clause-printed : goal.returns-clause-printed
returns-clause-printed c =
    let ended = c.in_ok-make_room.ensures in
    on_ok_weaker c.place.result
    (λ placed. prints-same (sym (item-piece c.args.self.now.margin c.args.piece.now c.args.self.now.column (subst (λ (l : Line). l.column + length c.args.piece.now ≤ l.margin) ended.printed.line ended.room))) (prints-then ended.printed placed))
    c.place.ensures.printed
