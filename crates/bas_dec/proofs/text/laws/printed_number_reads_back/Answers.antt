use Rattle.bas_dec.proofs.TextLemmas.{text_of_is}
use Rattle.bas_dec.proofs.ReadBackLemmas.{reads_back}
use Rattle.bas_dec.proofs.text.laws.printed_number_reads_back.Goals as goal

pub returns-clause-parts : goal.returns-clause-parts
returns-clause-parts c = text_of_is

pub returns-clause-size : goal.returns-clause-size
returns-clause-size c = reads_back
