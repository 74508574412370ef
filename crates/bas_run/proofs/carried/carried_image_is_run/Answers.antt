use Rattle.bas_run.proofs.Programs.{carried_is_fit}
use Rattle.bas_run.proofs.carried.carried_image_is_run.Goals as goal

pub returns : goal.returns
returns c = carried_is_fit
