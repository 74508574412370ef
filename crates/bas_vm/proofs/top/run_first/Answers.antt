use Rattle.std.proofs.Common.{refl, sym, ◌∙◌}
use Rattle.bas_vm.proofs.Bodies.{read-at}
use Rattle.bas_vm.proofs.Images.{lost-without-program, lost-without-body, refused, program-runs, fit-without-program, fit-without-body, fit-image, fit-not-refused}
use Rattle.bas_vm.proofs.top.run_first.Goals as goal

pub returns-in_default-clause-does : goal.returns-in_default-clause-does
returns-in_default-clause-does g c = λ input. lost-without-program c.args.image.now c.items.result.now c.args.lines input (g.O.Sink.taken c.args.out.now) c.items.ensures c.in_default.ensures.value

pub returns-in_default-get-clause-does : goal.returns-in_default-get-clause-does
returns-in_default-get-clause-does g c = λ input.
    lost-without-body c.args.image.now c.items.result.now c.in-Some.field-0.now c.items.ensures c.in-Some.ensures.value c.items-2.result.now c.from.result c.args.lines input (g.O.Sink.taken c.args.out.now)
    c.items-2.ensures c.from.ensures c.in_default-get.ensures.lookup.3

pub returns-then-not-is_fit-clause-does : goal.returns-then-not-is_fit-clause-does
returns-then-not-is_fit-clause-does g c = (
  refused c.args.image.now c.items.result.now c.in-Some.field-0.now c.items.ensures c.in-Some.ensures.value c.in-Some-get.proc.now
      (read-at c.items-2.result.now c.args.image.now.procs c.from.result c.in-Some.field-0.now.1 c.in-Some-get.proc.now c.items-2.ensures c.from.ensures c.in-Some-get.ensures.lookup.3.0 c.in-Some-get.ensures.lookup.1)
      (sym c.is_fit.ensures ∙ c.if-not-is_fit.true),
  refl,
)

pub returns-clause-does : goal.returns-clause-does
returns-clause-does g c =
    program-runs c.args.image.now c.items.result.now c.in-Some.field-0.now c.items.ensures c.in-Some.ensures.value c.in-Some-get.proc.now
    (read-at c.items-2.result.now c.args.image.now.procs c.from.result c.in-Some.field-0.now.1 c.in-Some-get.proc.now c.items-2.ensures c.from.ensures c.in-Some-get.ensures.lookup.3.0 c.in-Some-get.ensures.lookup.1)
    c.args.lines (g.O.Sink.taken c.args.out.now) (g.O.Sink.taken c.run_program.new.out) c.run_program.result c.run_program.ensures.does

pub returns-in_default-clause-refused : goal.returns-in_default-clause-refused
returns-in_default-clause-refused g c = fit-not-refused c.args.image.now _ (fit-without-program c.args.image.now c.items.result.now c.items.ensures c.in_default.ensures.value)

pub returns-in_default-get-clause-refused : goal.returns-in_default-get-clause-refused
returns-in_default-get-clause-refused g c =
    fit-not-refused c.args.image.now _
    (fit-without-body c.args.image.now c.items.result.now c.in-Some.field-0.now c.items.ensures c.in-Some.ensures.value c.items-2.result.now c.from.result c.items-2.ensures c.from.ensures c.in_default-get.ensures.lookup.3)

pub returns-clause-refused : goal.returns-clause-refused
returns-clause-refused g c =
    fit-not-refused c.args.image.now _
    (fit-image c.args.image.now c.items.result.now c.in-Some.field-0.now c.items.ensures c.in-Some.ensures.value c.in-Some-get.proc.now
    (read-at c.items-2.result.now c.args.image.now.procs c.from.result c.in-Some.field-0.now.1 c.in-Some-get.proc.now c.items-2.ensures c.from.ensures c.in-Some-get.ensures.lookup.3.0 c.in-Some-get.ensures.lookup.1)
    (sym c.is_fit.ensures ∙ c.if-not-is_fit.false))
