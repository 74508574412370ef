use Rattle.bas_line.proofs.TokenCut.{tokens_whole}
use Rattle.bas_line.proofs.WholeLaws.{no_tokens}
use Rattle.bas_line.proofs.whole_line.cut.Goals as goal

pub returns-in-Ok-clause-found : goal.returns-in-Ok-clause-found
returns-in-Ok-clause-found c = tokens_whole c.args.line.now c.in-Ok.found.items c.in-Ok.ensures.found

pub returns-in-Err-BadToken-clause-none : goal.returns-in-Err-BadToken-clause-none
returns-in-Err-BadToken-clause-none c e = no_tokens c.args.line.now (λ tokens are. let only = c.in-Err-BadToken.ensures.only tokens are in absurd (cc))
