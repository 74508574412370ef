use Rattle.std.proofs.Common.{◌≡◌, ◌<◌, ◌≤◌, ℕ, List, length, Option, Some, None, IfSome, MatchOption, sym, ap, ◌∙◌, subst, arith}
use Rattle.bas_text.specs.declared.byte_string.TheConstants.{MAX_STRING_LEN}
use Rattle.bas_text.specs.DataItems.{IsQuotedString}
use Rattle.bas_text.specs.Reading as reading
use Rattle.bas_form.proofs.ReaderLaws.{same_some}
use Rattle.bas_text.proofs.ItemLaws.{whole_found, whole_only}
use Rattle.bas_text.proofs.data_list.quoted_string.Goals as goal

-- what a string of some bytes tells
abbrev IsMade : Option (List ℕ) → List ℕ → Type 0
IsMade o bytes = MatchOption o (MAX_STRING_LEN < length bytes) (λ string. (string ≡ bytes) × (length bytes ≤ MAX_STRING_LEN))

made_found : (text bytes : List ℕ) (end : ℕ) (o : Option (List ℕ)) → IsMade o bytes → reading.quoted_text text 0 ≡ Some (bytes, end) → end ≡ length text → IfSome o (λ string. IsQuotedString text string)
made_found text bytes end None made e last = tt
made_found text bytes end (Some string) made e last = subst (IsQuotedString text) (sym made.0) (whole_found text bytes end e last made.1)

made_only : (text bytes : List ℕ) (end : ℕ) (o : Option (List ℕ)) → IsMade o bytes → reading.quoted_text text 0 ≡ Some (bytes, end) → (string : List ℕ) → IsQuotedString text string → MatchOption o ⊥ (λ f. f ≡ string)
made_only text bytes end None made e string is =
    let same : bytes ≡ string = ap (λ t. t.0) (same_some (sym e ∙ whole_only text string is)) in
    let short = is.3 in
    let count = ap (λ b. length b) same in
    absurd (omega arith)
made_only text bytes end (Some made_string) made e string is = made.0 ∙ ap (λ t. t.0) (same_some (sym e ∙ whole_only text string is))

pub returns-in_default-clause-only : goal.returns-in_default-clause-only
returns-in_default-clause-only c string is =
    let nothing = rw c.in_default.is at c.in_ok-bytes.ensures.value in
    absurd (let both : None ≡ Some (string, length c.args.text.now) = sym nothing ∙ whole_only c.args.text.now string is in cc)

pub returns-then-stop-text-clause-found : goal.returns-then-stop-text-clause-found
returns-then-stop-text-clause-found c =
    let read = rw c.in-Some.is at c.in_ok-bytes.ensures.value in
    made_found c.args.text.now c.in-Some.bytes.items c.in-Some.stop c.from_vec.result c.from_vec.ensures read c.if-stop-text.true

pub returns-then-stop-text-clause-only : goal.returns-then-stop-text-clause-only
returns-then-stop-text-clause-only c string is =
    let read = rw c.in-Some.is at c.in_ok-bytes.ensures.value in
    made_only c.args.text.now c.in-Some.bytes.items c.in-Some.stop c.from_vec.result c.from_vec.ensures read string is

pub returns-else-stop-text-clause-only : goal.returns-else-stop-text-clause-only
returns-else-stop-text-clause-only c string is =
    let read = rw c.in-Some.is at c.in_ok-bytes.ensures.value in
    c.if-stop-text.false (ap (λ t. t.1) (same_some (sym read ∙ whole_only c.args.text.now string is)))
