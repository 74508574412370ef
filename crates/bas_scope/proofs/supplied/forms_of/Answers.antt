use Rattle.std.proofs.Common.{sym}
use Rattle.bas_scope.proofs.SuppliedParts.{of_three}
use Rattle.bas_scope.proofs.supplied.forms_of.Goals as goal

pub returns : goal.returns
returns c =
    let found = of_three c.bytes-bytes.result.now c.first_forms.result c.second_forms.result c.third_forms.result
    c.first_forms.ensures c.second_forms.ensures c.third_forms.ensures in
    rw (c.or-2.ensures, c.or.ensures, sym c.bytes-bytes.ensures.same) found
