-- The walk begins at the top of the container.
use Rattle.bas_check.specs.Containers.{ground_in}
use Rattle.bas_check.proofs.unit.container_fault.Goals as goal

pub returns : goal.returns
returns c = λ tree unit nothing ends.
    let g = ground_in c.args.container.now tree in
    c.lines_fault.ensures g (c.walk_over-walk.ensures g unit nothing (c.in_ok-family.ensures tree unit nothing ends))
