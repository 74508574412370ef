use Rattle.std.proofs.Common.{subst}
use Rattle.bas_vm.specs.Shown.{stacked}
use Rattle.bas_vm.specs.Rows.{StoresEach}
use Rattle.bas_vm.proofs.Storing.{store-done, store-lost}
use Rattle.bas_vm.proofs.store.store_through.Goals as goal

pub returns-then-store_each-clause-leads : goal.returns-then-store_each-clause-leads
returns-then-store_each-clause-leads c = λ slots.
    store-done c.args.count slots c.in-Some.x c.args.cells.now.items c.store_each.new.cells.items (stacked c.args.stack.now.items) (stacked c.pop_number.new.stack.items) (stacked c.store_each.new.stack.items) c.in-Some.ensures
    (subst (λ b. StoresEach c.args.count c.in-Some.x c.args.cells.now.items (stacked c.pop_number.new.stack.items) b c.store_each.new.cells.items (stacked c.store_each.new.stack.items)) c.if-store_each.true c.store_each.ensures)

pub returns-else-store_each-clause-leads : goal.returns-else-store_each-clause-leads
returns-else-store_each-clause-leads c = λ slots.
    store-lost c.args.count slots c.in-Some.x c.args.cells.now.items c.store_each.new.cells.items (stacked c.args.stack.now.items) (stacked c.pop_number.new.stack.items) (stacked c.store_each.new.stack.items) c.in-Some.ensures
    (subst (λ b. StoresEach c.args.count c.in-Some.x c.args.cells.now.items (stacked c.pop_number.new.stack.items) b c.store_each.new.cells.items (stacked c.store_each.new.stack.items)) c.if-store_each.false c.store_each.ensures)
