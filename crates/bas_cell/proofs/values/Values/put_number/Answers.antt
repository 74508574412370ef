use Rattle.std.proofs.Common.{sym, ap, ◌∙◌, slice_set}
use Rattle.std.proofs.lemmas.List.{map-set}
use Rattle.bas_fileval.specs.Value as value
use Rattle.bas_cell.specs.Stored.{plain_values}
use Rattle.bas_cell.proofs.values.Values.put_number.Goals as goal

pub returns-in-Numbers-clause-values : goal.returns-in-Numbers-clause-values
returns-in-Numbers-clause-values c =
    map-set value.Num c.in-Numbers.numbers.items c.args.at c.args.x
    ∙ ap (λ held. slice_set (plain_values held) c.args.at (value.Num c.args.x)) (sym c.in-Numbers.is)
