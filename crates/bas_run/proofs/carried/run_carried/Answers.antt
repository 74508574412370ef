use Rattle.bas_run.proofs.Meant.{means, sound}
use Rattle.bas_run.proofs.carried.run_carried.Goals as goal

pub returns-clause-means : goal.returns-clause-means
returns-clause-means g c = means c.args.image.now c.args.lines (g.O.Sink.taken c.args.out.now) (g.O.Sink.taken c.run.new.out) c.run.result c.image_does_what_is_meant.ensures c.run.ensures.only

pub returns-clause-sound : goal.returns-clause-sound
returns-clause-sound g c = sound c.args.image.now c.args.lines (g.O.Sink.taken c.args.out.now) (g.O.Sink.taken c.run.new.out) c.run.result c.image_does_what_is_meant.ensures c.run.ensures.does c.run.ensures.only
