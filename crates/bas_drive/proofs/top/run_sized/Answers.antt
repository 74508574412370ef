use Rattle.std.proofs.Common.{◌≤◌, length, ap, arith}
use Rattle.bas_drive.specs.declared.top.TheConstants.{SOURCE_BYTES}
use Rattle.bas_drive.proofs.Endings.{source_can_end}
use Rattle.bas_drive.proofs.top.run_sized.Goals as goal

pub returns-in-Ok-clause-ends : goal.returns-in-Ok-clause-ends
returns-in-Ok-clause-ends g c =
    let fits : length c.as_slice.result.now ≤ SOURCE_BYTES = omega (arith, ap (λ xs. length xs) c.as_slice.ensures.value, c.in-Ok.ensures.within, c.if-size.false, c.ranges.size.fits) in
    source_can_end c.args.name c.args.lines c.as_slice.result.now _ _ c.run_source.result fits c.run_source.ensures.does
