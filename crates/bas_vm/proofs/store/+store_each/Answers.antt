use Rattle.std.proofs.Common.{◌-◌, ◌<◌, arith, subst}
use Rattle.bas_vm.specs.Shown.{stacked}
use Rattle.bas_vm.specs.Rows.{StoresEach}
use Rattle.bas_vm.proofs.Storing.{each-more}
use Rattle.bas_vm.proofs.store.+store_each.Goals as goal

pub returns : goal.returns
returns t c =
    each-more c.args.count c.args.x c.args.cells.now.items c.store_each.new.cells.items c.store_one.new.cells.items
    (stacked c.args.stack.now.items) (stacked c.pop_spot.new.stack.items) (stacked c.store_each.new.stack.items) c.in-Some.n c.store_one.result
    (let lt : 0 < c.args.count = omega (arith, c.if-count-eq0.false) in lt) c.in-Some.ensures
    (subst (λ b. StoresEach (c.args.count - 1) c.args.x c.args.cells.now.items (stacked c.pop_spot.new.stack.items) b c.store_each.new.cells.items (stacked c.store_each.new.stack.items)) c.if-not-store_each.false c.store_each.ensures)
    c.store_one.ensures
