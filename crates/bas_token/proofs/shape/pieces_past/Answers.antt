use Rattle.std.proofs.Common.{sym, ◌∙◌, arith}
use Rattle.bas_token.proofs.EndsOfShapes.{pieces_on, pieces_done}
use Rattle.bas_token.proofs.shape.pieces_past.Goals as goal

pub loop-next-preserved : goal.loop-next-preserved
loop-next-preserved c =
    record {
      within = c.in-Some.ensures.within;
      grows = (let later = c.in-Some.ensures.grows in omega arith);
      same = pieces_on c.args.line.now c.loop-next.at c.in-Some.next (sym c.in-Some.ensures.value) ∙ c.loop-next.invariant.same;
    }

pub returns-clause-value : goal.returns-clause-value
returns-clause-value c = sym (pieces_done c.args.line.now c.loop-next.at (sym c.piece_end.ensures.value ∙ c.in_default.is)) ∙ c.loop-next.invariant.same
