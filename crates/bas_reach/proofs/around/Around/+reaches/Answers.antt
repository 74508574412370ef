-- In the block's own lines, or around it.
use Rattle.std.proofs.Common.{sym, ap, ◌∙◌}
use Rattle.bas_rules.specs.Jumping.{is_listed}
use Rattle.bas_reach.proofs.Layers.{outer_reach, reached, first_found, later_found}
use Rattle.bas_reach.proofs.around.Around.+reaches.Goals as goal

pub returns-then-contains : goal.returns-then-contains
returns-then-contains t c = first_found c.contains.result _ _ c.if-contains.true (reached c.args.self.now c.args.line c.number.result c.contains.result c.number.ensures.same c.contains.ensures)

pub returns-in-Some : goal.returns-in-Some
returns-in-Some t c =
    later_found c.contains.result _ _ c.reaches.result c.if-contains.false (c.reaches.ensures ∙ ap (λ o. is_listed (outer_reach o) c.args.line) (sym c.in-Some.is))
    (reached c.args.self.now c.args.line c.number.result c.contains.result c.number.ensures.same c.contains.ensures)

pub returns-in-None : goal.returns-in-None
returns-in-None t c =
    later_found c.contains.result _ _ _ c.if-contains.false (ap (λ o. is_listed (outer_reach o) c.args.line) (sym c.in-None.is))
    (reached c.args.self.now c.args.line c.number.result c.contains.result c.number.ensures.same c.contains.ensures)
