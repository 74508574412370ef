use Rattle.std.proofs.Common.{sym, ap, ◌∙◌, Some}
use Rattle.bas_data.proofs.DataLaws.{data_some, data_none}
use Rattle.bas_data.proofs.data_text.data.Goals as goal

pub returns-in-Some : goal.returns-in-Some
returns-in-Some c =
    let found = rw c.in-Some.is at c.in_ok-items.ensures.found in
    ap Some c.of.ensures ∙ sym (data_some c.args.text.now c.items_end-end.result c.in-Some.items.items c.items_end-end.ensures.value (sym c.rest_ends.ensures ∙ c.if-not-rest_ends.false) found)

pub returns-in-None : goal.returns-in-None
returns-in-None c =
    sym (data_none c.args.text.now c.items_end-end.result c.items_end-end.ensures.value (sym c.rest_ends.ensures ∙ c.if-not-rest_ends.false) (λ items are. let only = c.in_ok-items.ensures.only items are in let h = rw c.in-None.is at only in h))
