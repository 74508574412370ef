-- The body, the names and the uses of a container.
use Rattle.std.proofs.Common.{refl}
use Rattle.std.specs.Option.{option_map}
use Rattle.bas_scope.specs.Bodies.{outer_of}
use Rattle.bas_check.specs.Containers.{ground_in, lent_line}
use Rattle.bas_check.proofs.Procedures.{top_ends}
use Rattle.bas_check.proofs.container.family_of.Goals as goal

pub returns : goal.returns
returns c = λ tree unit nothing ends.
    let container = c.args.container.now in
    let g = ground_in container tree in
    let names = c.in_ok-names.ensures (outer_of tree) unit.names in
    let body = c.in_ok-body.ensures tree g.body refl (c.head_of-head.ensures nothing) refl ends in
    record {
      outer = refl;
      seen = refl;
      body = body;
      claims = body.claims;
      uses = c.in_ok-uses.ensures (outer_of tree) container.kind (option_map lent_line container.head) unit.names names;
      names = names;
      own = names;
      top = top_ends _ tree g.body _ ends body;
    }
