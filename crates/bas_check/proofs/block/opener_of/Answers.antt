-- The line of the first section opens the construct.
use Rattle.std.proofs.Common.{sym}
use Rattle.bas_check.proofs.Sections.{opener_is}
use Rattle.bas_check.proofs.block.opener_of.Goals as goal

pub returns-in-Some : goal.returns-in-Some
returns-in-Some c = λ nothing. opener_is c.args.sections.now c.in-Some.section.now (sym c.in-Some.ensures.value)
