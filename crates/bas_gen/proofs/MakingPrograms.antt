-- The code and lines of a whole program.
use Rattle.std.proofs.Common.{◌≡◌, ℕ, ◌+◌, ◌≤◌, true, false, List, [], ◌++◌, length, refl, sym, ap, ◌∙◌, arith, append-nil}
use Rattle.bas_ast.specs.Tree as t
use Rattle.bas_mean.specs.Built.{is_end}
use Rattle.bas_mean.specs.Meaning.{outermost}
use Rattle.bas_mean.specs.World.{Variable}
use Rattle.bas_mean.specs.Outcome as outcome
use Rattle.bas_code.specs.declared.instr.Instr.{Instr}
use Rattle.bas_carry.specs.Codes.{closing_size, block_size, closing_code, block_code, program_code}
use Rattle.bas_carry.specs.Tables.{closing_rows, block_rows, program_rows}
use Rattle.bas_carry.proofs.Lengths.{block_length}
use Rattle.bas_genexpr.specs.Counts.{code_limit}
use Rattle.bas_gen.specs.declared.output.Output.{Output}
use Rattle.bas_gen.specs.Generated.{program_size}
use Rattle.bas_gen.specs.Layouts.{block_list}
use Rattle.bas_gen.specs.Emitting.{Emits, EntersClosing, closing_end}

end_small : (item : t.LineItem) → is_end item ≡ true → closing_end item ≡ closing_size item
end_small (t.OfPart (t.Loop loopc)) e = let bad : false ≡ true = e in absurd cc
end_small _ e = refl

pub program_made : (order : List Variable) (addr : outcome.Target → ℕ) (p : t.Program) (o0 o1 o2 new : Output) (code2 : List Instr) (from : ℕ) → o0.code ≡ [] → o0.lines.items ≡ [] → o0.sizes ≡ block_list p.body
    → Emits o0 o1 (block_list p.body) (block_size p.body) (λ at. block_code order addr outermost p.body at) (λ at. block_rows p.body at)
    → from ≡ length o1.code → (length o1.code + closing_size p.close.item ≤ code_limit → code2 ≡ o1.code ++ closing_code order addr 0 p.close.line p.close.item (length o1.code))
    → o2.code ≡ code2 → o2.lines.items ≡ o1.lines.items → EntersClosing o2 new p.close.line p.close.item from 0 → program_size p ≤ code_limit → is_end p.close.item ≡ true
    → (new.code ≡ program_code order addr p) × (new.lines.items ≡ program_rows p)
program_made order addr p o0 o1 o2 new code2 from e0 el es emits ef e2 oc ol closes fits ends =
    let z : length o0.code ≡ 0 = ap length e0 in
    let g = emits [] (es ∙ sym (append-nil (block_list p.body))) (omega arith) in
    let b = block_code order addr outermost p.body 0 in
    let made : o1.code ≡ b = g.code ∙ ap (λ x. x ++ block_code order addr outermost p.body (length o0.code)) e0 ∙ ap (λ k. block_code order addr outermost p.body k) z in
    let rows : o1.lines.items ≡ block_rows p.body 0 = g.lines ∙ ap (λ x. x ++ block_rows p.body (length o0.code)) el ∙ ap (λ k. block_rows p.body k) z in
    let l1 : length o1.code ≡ block_size p.body = ap length made ∙ block_length order addr p.body outermost 0 in
    let small = end_small p.close.item ends in
    let row = closes (omega arith) (omega arith) in (
      row.code ∙ append-nil o2.code ∙ oc ∙ e2 (omega arith) ∙ ap (λ x. x ++ closing_code order addr 0 p.close.line p.close.item (length o1.code)) made ∙ ap (λ k. b ++ closing_code order addr 0 p.close.line p.close.item k) l1,
      row.lines ∙ ap (λ x. x ++ closing_rows p.close.line p.close.item from 0) (ol ∙ rows) ∙ ap (λ k. block_rows p.body 0 ++ closing_rows p.close.line p.close.item k 0) (ef ∙ l1),
    )
