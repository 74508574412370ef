-- What calls do with a print line and the output, one after the other.
use Rattle.std.proofs.Common.{◌≡◌, ℕ, List, [], ◌++◌, ap, sym, ◌∙◌, append_assoc, append-nil}
use Rattle.bas_console.specs.Layout.{Printed, Step, sequence}
use Rattle.bas_console.specs.Line.{Line}
use Rattle.bas_console.specs.Prints.{Prints, Stays, Extends}

-- two steps one after the other
pub prints-then : {first second : Step} {old mid new : Line} {before between after : List ℕ} → Prints first old mid before between → Prints second mid new between after → Prints (sequence first second) old new before after
prints-then {first} {second} {old} {mid} {new} {before} {between} {after} f s = record {
  bytes = s.bytes ∙ ap (λ (l : Line). between ++ (second l.column).bytes) f.line ∙ ap (λ (o : List ℕ). o ++ (second (first old.column).column).bytes) f.bytes ∙ append_assoc before _ _;
  line = s.line ∙ ap (λ (l : Line). record l { column = (second l.column).column }) f.line;
}

-- a step appends something
pub extends-prints : {step : Step} {old new : Line} {before after : List ℕ} → Prints step old new before after → Extends old new before after
extends-prints {step} {old} p = record { margin = ap (λ (l : Line). l.margin) p.line; more = (step old.column).bytes; output = p.bytes }

-- nothing was appended
pub extends-stays : {old new : Line} {before after : List ℕ} → Stays old new before after → Extends old new before after
extends-stays s = record { margin = ap (λ (l : Line). l.margin) s.line; more = []; output = s.output ∙ sym (append-nil _) }

-- what was appended first, and then
pub extends-then : {old mid new : Line} {before between after : List ℕ} → Extends old mid before between → Extends mid new between after → Extends old new before after
extends-then {old} {mid} {new} {before} f s = record {
  margin = s.margin ∙ f.margin;
  more = f.more ++ s.more;
  output = s.output ∙ ap (λ (o : List ℕ). o ++ s.more) f.output ∙ append_assoc before f.more s.more;
}

-- a step that does the same at the column
pub prints-same : {step other : Step} {old new : Line} {before after : List ℕ} → step old.column ≡ other old.column → Prints step old new before after → Prints other old new before after
prints-same {old = old} {before = before} e p = record {
  bytes = p.bytes ∙ ap (λ (x : Printed). before ++ x.bytes) e;
  line = p.line ∙ ap (λ (x : Printed). record old { column = x.column }) e;
}
