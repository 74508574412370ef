use Rattle.std.proofs.Common.{ℕ, ◌+◌, ◌^◌, ◌<◌, ◌≤◌, get_or, arith}
use Rattle.bas_world.proofs.Pieces.{unlisted}
use Rattle.bas_world.proofs.plan.lists_next.Goals as goal

pub returns-in-None : goal.returns-in-None
returns-in-None c =
    let small : (i : ℕ) → get_or c.args.listed.now i 0 < 2 ^ 64 = λ i. omega (arith, c.type_inv.listed i) in
    let past : 2 ^ 64 ≤ c.args.calls + 1 = grind (arith, c.in-None.ensures) in
    unlisted c.args.listed.now (c.args.calls + 1) small past
