use Rattle.std.proofs.Common.{◌≡◌, ◌+◌, ◌-◌, ◌%◌, ap, arith, sym}
use Rattle.std.proofs.lemmas.Result.{on_ok_weaker}
use Rattle.bas_console.specs.Line.{Line}
use Rattle.bas_console.proofs.Columns.{comma-spaced, comma-ended}
use Rattle.bas_console.proofs.Printing.{prints-same}
use Rattle.bas_console.proofs.line.PrintLine.comma.Goals as goal

pub returns-then-spaces-self-clause-printed : goal.returns-then-spaces-self-clause-printed
returns-then-spaces-self-clause-printed c =
    let margin : c.self.inside.margin ≡ c.args.self.now.margin = ap (λ (l : Line). l.margin) c.self.view_is in
    let column : c.self.inside.column ≡ c.args.self.now.column = ap (λ (l : Line). l.column) c.self.view_is in
    let again : c.space_to.inside.column ≡ c.args.self.now.column = ap (λ (l : Line). l.column) c.space_to.view_is in
    on_ok_weaker c.space_to-then-spaces-self.result
    (prints-same (sym (comma-spaced c.args.self.now.margin c.args.self.now.column (c.space_to.inside.column + (16 - c.self.inside.column % 16)) (omega arith) (omega arith))))
    c.space_to-then-spaces-self.ensures.printed

pub returns-else-spaces-self-clause-printed : goal.returns-else-spaces-self-clause-printed
returns-else-spaces-self-clause-printed c =
    let margin : c.self.inside.margin ≡ c.args.self.now.margin = ap (λ (l : Line). l.margin) c.self.view_is in
    let column : c.self.inside.column ≡ c.args.self.now.column = ap (λ (l : Line). l.column) c.self.view_is in
    on_ok_weaker c.end.result
    (prints-same (sym (comma-ended c.args.self.now.margin c.args.self.now.column (omega arith))))
    c.end.ensures.printed
