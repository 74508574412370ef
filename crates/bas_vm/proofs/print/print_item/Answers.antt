use Rattle.std.proofs.Common.{◌++◌, subst}
use Rattle.bas_dec.specs.Text.{text_of}
use Rattle.bas_vm.specs.Rows.{room_bytes}
use Rattle.bas_vm.specs.Took.{TookPrefix}
use Rattle.bas_vm.proofs.Taking.{TookPrefix-then, text_at}
use Rattle.bas_vm.proofs.print.print_item.Goals as goal

pub returns-in_err-write_all-clause-prefix : goal.returns-in_err-write_all-clause-prefix
returns-in_err-write_all-clause-prefix g c =
    subst (λ n. TookPrefix (g.O.Sink.taken c.args.out.now) (g.O.Sink.taken c.write_all.new.out) (room_bytes c.args.column.now n ++ text_of c.args.x)) c.print_into-count.ensures.length
    (subst (λ text. TookPrefix (g.O.Sink.taken c.args.out.now) (g.O.Sink.taken c.write_all.new.out) (room_bytes c.args.column.now c.print_into-count.result ++ text))
    (text_at _ _ _ _ c.print_into-count.ensures.length c.print_into-count.ensures.text)
    (TookPrefix-then _ _ _ _ _ c.in_ok-make_room.ensures.all c.in_err-write_all.ensures.prefix))

pub returns-clause-prefix : goal.returns-clause-prefix
returns-clause-prefix g c =
    subst (λ n. TookPrefix (g.O.Sink.taken c.args.out.now) (g.O.Sink.taken c.write_all.new.out) (room_bytes c.args.column.now n ++ text_of c.args.x)) c.print_into-count.ensures.length
    (subst (λ text. TookPrefix (g.O.Sink.taken c.args.out.now) (g.O.Sink.taken c.write_all.new.out) (room_bytes c.args.column.now c.print_into-count.result ++ text))
    (text_at _ _ _ _ c.print_into-count.ensures.length c.print_into-count.ensures.text)
    (TookPrefix-then _ _ _ _ _ c.in_ok-make_room.ensures.all c.in_ok-write_all.ensures.prefix))
