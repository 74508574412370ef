use Rattle.std.proofs.Common.{sym, ◌∙◌}
use Rattle.bas_claim.proofs.Keys.{set_with}
use Rattle.bas_claim.proofs.Doubles.{first_is_new}
use Rattle.bas_claim.proofs.twice.+put_all.Goals as goal

pub returns-else-not-is_new : goal.returns-else-not-is_new
returns-else-not-is_new t c =
    let later = c.in_ok-is_later-in-Some.ensures in
    let name = c.in-Some.name.now in
    let others = c.in-Some.others.now in
    let added = c.in_ok-is_new-in-Some.ensures in
    rw (c.in-Some.ensures.cases.0) (
      first_is_new name others _ c.in_ok-is_later-in-Some.is_later (later.1.has name) (sym c.if-not-is_new.false ∙ added.added) later.0,
      set_with c.put_all.new.set c.insert.new.self name others later.1 added.updates.0,
    )
