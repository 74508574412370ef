use Rattle.std.proofs.Common.{ℕ, ◌^◌, ◌<◌, ◌≤◌, arith, lit<, get_or}
use Rattle.std.proofs.Math.Nat.{pow-le-pow_right}
use Rattle.bas_drive.proofs.words.spelled.Goals as goal

small_power : (i : ℕ) → i < 12 → 10 ^ i ≤ 100000000000
small_power i h = pow-le-pow_right {n = 10} (lit< tt) {i = i} {j = 11} (omega arith)

pub overflow_mul-n : goal.overflow_mul-n
overflow_mul-n c = omega (arith, small_power c.loop-digit.digit-index (omega arith))

pub overflow_add-n : goal.overflow_add-n
overflow_add-n c =
    let digit : get_or c.args.digits.now c.loop-digit.digit-index 0 < 256 = omega (arith, c.type_inv.digits c.loop-digit.digit-index) in
    omega (arith, small_power c.loop-digit.digit-index (omega arith))
