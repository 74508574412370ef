use Rattle.std.proofs.Common.{◌∙◌, sym, subst}
use Rattle.bas_vm.specs.Took.{TookAll, TookPrefix}
use Rattle.bas_drive.specs.Report.{report_of}
use Rattle.bas_drive.specs.Headline.{IsTold}
use Rattle.bas_drive.specs.Headline.IsTold.{Whole, CutByFault, CutByMemory}
use Rattle.bas_drive.proofs.Taking.{TookPrefix-none}
use Rattle.bas_drive.proofs.report.write_report.Goals as goal

pub returns-in-Err-clause-told : goal.returns-in-Err-clause-told
returns-in-Err-clause-told g c = CutByMemory (TookPrefix-none _ (report_of c.args.ending))

pub returns-in-Ok-write_all-clause-told : goal.returns-in-Ok-write_all-clause-told
returns-in-Ok-write_all-clause-told g c =
    subst (λ s. IsTold c.args.ending (g.E.Sink.taken c.args.report.now) (g.E.Sink.taken c.write_all.new.out) s) (sym c.status_of.ensures)
    (Whole (subst (λ text. TookAll (g.E.Sink.taken c.args.report.now) (g.E.Sink.taken c.write_all.new.out) text) (c.as_slice.ensures.value ∙ c.in-Ok.ensures) c.in-Ok-write_all.ensures.all))

pub returns-in-Err-Failed-clause-told : goal.returns-in-Err-Failed-clause-told
returns-in-Err-Failed-clause-told g c =
    CutByFault (subst (λ text. TookPrefix (g.E.Sink.taken c.args.report.now) (g.E.Sink.taken c.write_all.new.out) text) (c.as_slice.ensures.value ∙ c.in-Ok.ensures) c.in-Err-Failed.ensures.prefix)

pub returns-clause-told : goal.returns-clause-told
returns-clause-told g c =
    CutByMemory (subst (λ text. TookPrefix (g.E.Sink.taken c.args.report.now) (g.E.Sink.taken c.write_all.new.out) text) (c.as_slice.ensures.value ∙ c.in-Ok.ensures) c.in-Err-Memory.ensures.prefix)
