use Rattle.std.proofs.Common.{sym, ap, ◌∙◌, slice_set}
use Rattle.std.proofs.lemmas.List.{map-set}
use Rattle.bas_fileval.specs.Value as value
use Rattle.bas_cell.specs.Stored.{plain_values}
use Rattle.bas_cell.proofs.values.Values.put_text.Goals as goal

pub returns-in-Texts-clause-values : goal.returns-in-Texts-clause-values
returns-in-Texts-clause-values c =
    map-set value.Text c.in-Texts.texts.items c.args.at c.args.text
    ∙ ap (λ held. slice_set (plain_values held) c.args.at (value.Text c.args.text)) (sym c.in-Texts.is)
