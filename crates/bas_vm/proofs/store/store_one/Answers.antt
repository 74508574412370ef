use Rattle.std.proofs.Common.{◌<◌, ◌≤◌, length, ap, arith}
use Rattle.std.specs.Prelude.{slice_set}
use Rattle.bas_vm.proofs.Storing.{stored-there, stored-nowhere}
use Rattle.bas_vm.proofs.store.store_one.Goals as goal

pub returns-then-n-len : goal.returns-then-n-len
returns-then-n-len c =
    stored-nowhere c.args.n c.args.x c.args.cells.now.items
    (let le : length c.args.cells.now.items ≤ c.args.n = omega (arith, c.from-n.ensures, c.len.ensures, c.args.cells.now.ok.0, c.if-n-len.true) in le)

pub returns : goal.returns
returns c =
    stored-there c.args.n c.args.x c.args.cells.now.items _
    (let lt : c.args.n < length c.args.cells.now.items = omega (arith, c.from-n.ensures, c.len.ensures, c.args.cells.now.ok.0, c.if-n-len.false) in lt)
    (ap (λ k. slice_set c.args.cells.now.items k c.args.x) c.from-n.ensures)
