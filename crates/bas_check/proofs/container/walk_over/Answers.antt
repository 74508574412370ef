-- What is kept of the unit and of the family is so at the top of the container.
use Rattle.bas_check.proofs.container.walk_over.Goals as goal

pub returns : goal.returns
returns c = λ g unit nothing kept. record {
  place = record {
    unit = unit;
    outer = kept.seen;
    family = record { claimed = kept.claims; used = kept.uses };
    body = kept.body;
    names = c.container_names-names.ensures g.body.scope.outer g.body.scope.names g.body.scope.home (rw (kept.seen) (unit.names)) kept.own;
    around = kept.top;
  };
  outer = kept.outer;
  container = kept.names;
  nothing = nothing;
}
