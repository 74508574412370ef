use Rattle.std.proofs.Common.{◌≡◌, ◌+◌, max, length, ◌∙◌, ap, arith}
use Rattle.std.specs.Vec.{vec_len}
use Rattle.bas_world.specs.Files.{overwritten}
use Rattle.bas_world.proofs.Pieces.{filled-overwritten, written-back}
use Rattle.bas_world.proofs.file.FileBytes.write_at.Goals as goal

pub returns-clause-ok : goal.returns-clause-ok
returns-clause-ok c =
    let old = c.self.inside.bytes.items in
    let held : vec_len c.self.inside.bytes ≡ length old = grind arith in
    let grown : c.max-len.result ≡ max (length old) (c.args.at + length c.args.piece.now) =
    grind (arith, c.in-Some.ensures, c.max-len.ensures, c.len.ensures) in
    let long : length c.put_piece.new.whole ≡ c.resize.new.self.len = grind (arith, c.put_piece.auto.whole, c.deref_mut.ensures.len) in
    written-back c.resize.new.self.len c.put_piece.new.whole c.resize.new.self.items long
    ∙ c.put_piece.ensures
    ∙ filled-overwritten old c.args.piece.now c.args.at _ _ c.deref_mut.result.now grown held (c.deref_mut.ensures.value ∙ c.in_ok-resize.ensures.items)
    ∙ ap (λ file. overwritten file c.args.at c.args.piece.now) c.self.view_is
