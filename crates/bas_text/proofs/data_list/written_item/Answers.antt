use Rattle.std.proofs.Common.{◌≡◌, ℕ, true, false, Some, ◌++◌, map, sym, ap, ◌∙◌}
use Rattle.bas_form.specs.declared.byte_class.ByteClass.TheVariants.{DataPart}
use Rattle.bas_form.specs.Bytes.{past}
use Rattle.bas_text.specs.declared.data_list.Datum.{Datum}
use Rattle.bas_text.specs.Trim.{as_space, trim_right, between}
use Rattle.bas_text.specs.DataItems.{datum}
use Rattle.bas_text.specs.Reading as reading
use Rattle.bas_text.proofs.ItemLaws.{item_quoted, item_plain}
use Rattle.bas_text.proofs.data_list.written_item.Goals as goal

pub returns-in-Some-clause-value : goal.returns-in-Some-clause-value
returns-in-Some-clause-value c =
    let quoted = rw c.in-Some.is at c.in_ok-bytes.ensures.value in
    item_quoted c.args.text.now c.args.at c.in-Some.bytes.items c.in-Some.end (ap (reading.quoted_text c.args.text.now) (sym c.past-from.ensures.value) ∙ quoted)
    ∙ ap (λ end. Some (let found : Datum × ℕ = (datum true c.in-Some.bytes.items, end) in found)) (sym c.past.ensures.value)

pub returns-clause-value : goal.returns-clause-value
returns-clause-value c =
    let nothing = rw c.in_default.is at c.in_ok-bytes.ensures.value in
    let from = sym c.past-from.ensures.value in
    let copied : c.copy_bytes.new.out.items ≡ map as_space (between c.args.text.now c.past-from.result c.trimmed_end.result) =
    c.in_ok-copy_bytes.ensures.copied ∙ ap (λ items. items ++ map as_space (between c.args.text.now c.past-from.result c.trimmed_end.result)) c.new-bytes.ensures.items in
    item_plain c.args.text.now c.args.at (ap (reading.quoted_text c.args.text.now) from ∙ nothing)
    ∙ ap (λ n. Some (let found : Datum × ℕ = (datum false (trim_right (map as_space (between c.args.text.now n (past c.args.text.now DataPart n)))), past c.args.text.now DataPart n) in found)) from
    ∙ ap (λ n. Some (let found : Datum × ℕ = (datum false (trim_right (map as_space (between c.args.text.now c.past-from.result n))), n) in found)) (sym c.past-end.ensures.value)
    ∙ ap (λ bytes. Some (let found : Datum × ℕ = (datum false bytes, c.past-end.result) in found)) (c.trimmed_end.ensures.trimmed ∙ sym copied)
