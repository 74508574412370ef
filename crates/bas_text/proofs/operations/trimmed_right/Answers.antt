use Rattle.std.proofs.Common.{◌≡◌, ◌-◌, length, get_or, sym, ◌∙◌, arith, length-take}
use Rattle.bas_text.proofs.TrimLaws.{last_space, last_other}
use Rattle.bas_text.proofs.operations.trimmed_right.Goals as goal

pub loop-rest-preserved : goal.loop-rest-preserved
loop-rest-preserved c =
    let last : get_or c.loop-rest.rest.now (length c.loop-rest.rest.now - 1) 0 ≡ 32 = omega arith in (
      last_space c.loop-rest.rest.now c.in-32.len_at_least last ∙ c.loop-rest.invariant.0,
      omega (arith, length-take (length c.loop-rest.rest.now - 1) c.loop-rest.rest.now),
    )

pub returns-in_default-2-clause-same : goal.returns-in_default-2-clause-same
returns-in_default-2-clause-same c =
    let other : get_or c.loop-rest.rest.now (length c.loop-rest.rest.now - 1) 0 ≡ 32 → ⊥ = λ last. omega arith in
    sym (last_other c.loop-rest.rest.now c.in_default.len_at_least other) ∙ c.loop-rest.invariant.0
