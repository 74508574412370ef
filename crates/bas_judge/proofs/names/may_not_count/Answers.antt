-- What the name is, and what is around the line.
use Rattle.std.proofs.Common.{not, ◌||◌, ap, ◌∙◌}
use Rattle.bas_rules.specs.Naming.{is_number_scalar}
use Rattle.bas_judge.proofs.names.may_not_count.Goals as goal

pub returns : goal.returns
returns c = λ x same tells.
    let scalar = c.is_number_scalar.ensures ∙ (ap is_number_scalar c.named.ensures ∙ ap (λ s. is_number_scalar (s.named c.args.name)) same) in
    let counted = c.counts.ensures x.around tells in
    λ i. not (scalar i) || counted i
