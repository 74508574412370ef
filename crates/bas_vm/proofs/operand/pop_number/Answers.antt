use Rattle.std.proofs.Common.{ap, sym, ◌∙◌}
use Rattle.bas_code.specs.Machine.{on_number}
use Rattle.bas_vm.proofs.Stacks.{stacked-none, stacked-top}
use Rattle.bas_vm.proofs.operand.pop_number.Goals as goal

pub returns-in_default : goal.returns-in_default
returns-in_default c = λ go. ap (λ s. on_number s go) (stacked-none c.args.stack.now.items (sym c.args.stack.now.ok.0 ∙ c.in_default.ensures.cases.0))

pub returns-in-Number : goal.returns-in-Number
returns-in-Number c = λ go. ap (λ s. on_number s go) (stacked-top c.args.stack.now.items c.pop.new.self.items c.in-Some.top _ c.in-Some.ensures.items c.in-Number.is)

pub returns-in-Truth : goal.returns-in-Truth
returns-in-Truth c = λ go. ap (λ s. on_number s go) (stacked-top c.args.stack.now.items c.pop.new.self.items c.in-Some.top _ c.in-Some.ensures.items c.in-Truth.is)

pub returns-in-Spot : goal.returns-in-Spot
returns-in-Spot c = λ go. ap (λ s. on_number s go) (stacked-top c.args.stack.now.items c.pop.new.self.items c.in-Some.top _ c.in-Some.ensures.items c.in-Spot.is)
