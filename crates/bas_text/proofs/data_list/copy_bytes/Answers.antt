use Rattle.std.proofs.Common.{◌++◌, ◌∷◌, [], map, sym, ap, ◌∙◌, append_assoc, append-nil}
use Rattle.bas_text.specs.Trim.{as_space, between}
use Rattle.bas_text.proofs.TrimLaws.{between_none, copied_on}
use Rattle.bas_text.proofs.data_list.copy_bytes.Goals as goal

pub loop-at-init : goal.loop-at-init
loop-at-init c = sym (ap (λ bytes. c.args.out.now.items ++ map as_space bytes) (between_none c.args.text.now c.args.from) ∙ append-nil c.args.out.now.items)

pub loop-at-preserved : goal.loop-at-preserved
loop-at-preserved c =
    c.in_ok-push.ensures.items
    ∙ ap (λ items. items ++ c.as_space.result ∷ []) c.loop-at.invariant
    ∙ append_assoc c.args.out.now.items (map as_space (between c.args.text.now c.args.from c.loop-at.at)) (c.as_space.result ∷ [])
    ∙ ap (λ bytes. c.args.out.now.items ++ bytes)
    (ap (λ b. map as_space (between c.args.text.now c.args.from c.loop-at.at) ++ b ∷ []) c.as_space.ensures ∙ sym (copied_on c.args.text.now c.args.from c.loop-at.at c.loop-at.auto.at))
