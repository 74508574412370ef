-- The block's own variable, or one around it.
use Rattle.std.proofs.Common.{sym, ap, ◌∙◌}
use Rattle.bas_rules.specs.Naming.{is_among}
use Rattle.bas_reach.specs.Standing.{around_of}
use Rattle.bas_reach.proofs.Layers.{outer_counters, counting, first_found, later_found, same_self}
use Rattle.bas_reach.proofs.around.Around.+counts.Goals as goal

pub returns-then-eq : goal.returns-then-eq
returns-then-eq t c = λ a tells. first_found c.eq.result _ _ c.if-eq.true (counting c.args.self.now c.args.name.now c.eq.result a tells c.eq.ensures)

pub returns-in-Some : goal.returns-in-Some
returns-in-Some t c = λ a tells.
    later_found c.eq.result _ _ c.counts.result c.if-eq.false
    (c.counts.ensures (around_of c.in-Some.outer.now) (same_self _) ∙ ap (λ o. is_among c.args.name.now (outer_counters o)) (sym c.in-Some.is))
    (counting c.args.self.now c.args.name.now c.eq.result a tells c.eq.ensures)

pub returns-in-None : goal.returns-in-None
returns-in-None t c = λ a tells.
    later_found c.eq.result _ _ _ c.if-eq.false (ap (λ o. is_among c.args.name.now (outer_counters o)) (sym c.in-None.is))
    (counting c.args.self.now c.args.name.now c.eq.result a tells c.eq.ensures)
