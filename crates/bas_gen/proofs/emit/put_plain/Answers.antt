-- LET of one target.
use Rattle.std.proofs.Common.{sym}
use Rattle.std.proofs.lemmas.Result.{on_ok_weaker}
use Rattle.bas_genexpr.specs.Numbering.{variables}
use Rattle.bas_gen.specs.Addresses.{address_at}
use Rattle.bas_gen.specs.Emitting.{around_of}
use Rattle.bas_gen.proofs.Making.{let_made}
use Rattle.bas_gen.proofs.emit.put_plain.Goals as goal

pub returns-in_ok-put_expression-in-Some : goal.returns-in_ok-put_expression-in-Some
returns-in_ok-put_expression-in-Some c =
    on_ok_weaker c.push-in-Some.result
    (let_made (variables c.args.slots.now) (address_at c.args.targets.now) (around_of c.args.do_line) _ c.in-Let.list.now.targets c.items.result.now c.in-Some.target.now _ c.place.result c.args.code.now c.push.new.self c.put_expression.new.code c.push-in-Some.new.self c.in-Let.ensures c.items.ensures (sym c.in-Some.ensures.value) c.place.ensures c.in_ok-push-in-Some.ensures c.in_ok-put_expression-in-Some.ensures)
    c.push-in-Some.ensures

pub returns-in-ExitDo : goal.returns-in-ExitDo
returns-in-ExitDo c = rw c.in-ExitDo.ensures (c.put_exit.ensures (variables c.args.slots.now))
