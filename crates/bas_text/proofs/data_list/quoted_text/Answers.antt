use Rattle.std.proofs.Common.{◌+◌, ◌-◌, ℕ, List, Some, ◌++◌, map, sym, ap, ◌∙◌}
use Rattle.bas_text.specs.Trim.{as_space, between}
use Rattle.bas_text.specs.Reading as reading
use Rattle.bas_text.proofs.PieceLaws.{quoted_some, quoted_none}
use Rattle.bas_text.proofs.data_list.quoted_text.Goals as goal

pub returns-in_default-clause-value : goal.returns-in_default-clause-value
returns-in_default-clause-value c = quoted_none c.args.text.now c.args.at (sym c.piece_end.ensures.value ∙ c.in_default.is)

pub returns-clause-value : goal.returns-clause-value
returns-clause-value c =
    let first =
    c.in_ok-copy_bytes.ensures.copied
    ∙ ap (λ items. items ++ map as_space (between c.args.text.now (c.args.at + 1) (c.in-Some.first - 1))) c.new-out.ensures.items in
    let whole = c.in_ok-end.ensures.copied ∙ ap (λ items. items ++ reading.more_bytes c.args.text.now c.in-Some.first) first in
    quoted_some c.args.text.now c.args.at c.in-Some.first (sym c.in-Some.ensures.value)
    ∙ ap (λ bytes. Some (let found : List ℕ × ℕ = (bytes, reading.pieces_past c.args.text.now c.in-Some.first) in found)) (sym whole)
    ∙ ap (λ end. Some (let found : List ℕ × ℕ = (c.copy_pieces.new.out.items, end) in found)) (sym c.in_ok-end.ensures.value)
