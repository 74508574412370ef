-- An item that is printed piece by piece.
use Rattle.std.proofs.Common.{◌≡◌, ℕ, ◌≤◌, min, List, [], ◌++◌, length, refl, ap, sym, subst, ◌∙◌, append_assoc, append-nil}
use Rattle.std.proofs.lemmas.List.{nil_from_length}
use Rattle.bas_console.specs.Layout.{Printed, nothing, item, sequence}
use Rattle.bas_console.specs.Line.{Line, IsLine}
use Rattle.bas_console.specs.Prints.{Prints, Extends}
use Rattle.bas_console.proofs.Printing.{extends-prints, extends-then}
use Rattle.bas_console.proofs.Wrapping.{item-chunk, item-empty, column_item}

-- what is left of an item is to be printed after the pieces that have been
pub record Left (text rest : List ℕ) (old now : Line) (before between : List ℕ) : Type 0 where
  pub room : 1 ≤ old.margin
  pub within : now.column ≤ old.margin
  pub extended : Extends old now before between
  pub bytes : before ++ (item old.margin text old.column).bytes ≡ between ++ (item old.margin rest now.column).bytes
  pub column : (item old.margin text old.column).column ≡ (item old.margin rest now.column).column

-- before the first piece all is left
pub left-all : (text : List ℕ) (line : Line) (output : List ℕ) → IsLine line → Left text text line line output output
left-all text line output h = record {
  room = h.room;
  within = h.within;
  extended = record { margin = refl; more = []; output = sym (append-nil output) };
  bytes = refl;
  column = refl;
}

-- one piece more
pub left-piece : (text all piece rest : List ℕ) {old now new : Line} {before between after : List ℕ} → all ≡ piece ++ rest → length piece ≡ min old.margin (length all) → Left text all old now before between → Prints (item now.margin piece) now new between after → Left text rest old new before after
left-piece text all piece rest {old} {now} {new} {before} {between} {after} parts size l p =
    let m : ℕ = old.margin in
    let first : Printed = item m piece now.column in
    let here : Prints (item m piece) now new between after = subst (λ k. Prints (item k piece) now new between after) l.extended.margin p in
    let column : new.column ≡ first.column = ap (λ (x : Line). x.column) here.line in
    let split : item m all now.column ≡ sequence (item m piece) (item m rest) now.column =
    ap (λ t. item m t now.column) parts ∙ item-chunk m now.column piece rest l.room l.within (size ∙ ap (λ t. min m (length t)) parts) in
    record {
      room = l.room;
      within = subst (λ k. k ≤ m) (sym column) (column_item m piece now.column l.room l.within);
      extended = extends-then l.extended (extends-prints p);
      bytes = l.bytes ∙ ap (λ (x : Printed). between ++ x.bytes) split ∙ sym (append_assoc between first.bytes (item m rest first.column).bytes)
          ∙ ap (λ o. o ++ (item m rest first.column).bytes) (sym here.bytes) ∙ ap (λ k. after ++ (item m rest k).bytes) (sym column);
      column = l.column ∙ ap (λ (x : Printed). x.column) split ∙ ap (λ k. (item m rest k).column) (sym column);
    }

-- when nothing is left, the item is printed
pub left-none : (text rest : List ℕ) {old new : Line} {before after : List ℕ} → length rest ≡ 0 → Left text rest old new before after → Prints (item old.margin text) old new before after
left-none text rest {old} {new} {before} {after} none l =
    let m : ℕ = old.margin in
    let end : item m rest new.column ≡ nothing new.column = ap (λ t. item m t new.column) (nil_from_length rest none) ∙ item-empty m new.column l.within in
    let column : (item m text old.column).column ≡ new.column = l.column ∙ ap (λ (x : Printed). x.column) end in
    record {
      bytes = sym (append-nil after) ∙ sym (l.bytes ∙ ap (λ (x : Printed). after ++ x.bytes) end);
      line = sym (ap (λ k. record old { column = k }) column ∙ ap (λ k. record new { margin = k }) (sym l.extended.margin));
    }
