use Rattle.std.proofs.Common.{◌≡◌, ◌++◌, ◌∷◌, [], length, sym, ap, ◌∙◌, subst, arith}
use Rattle.bas_form.specs.Reader.{all_from}
use Rattle.bas_text.specs.DataItems.{AreItems, next_item}
use Rattle.bas_text.proofs.ListLaws.{only_items, whole_items, long_first, long_rest}
use Rattle.bas_text.proofs.data_list.data_items.Goals as goal

pub returns-in_default-clause-only : goal.returns-in_default-clause-only
returns-in_default-clause-only c items are =
    let long = rw c.in_default.is at c.in_ok-first.ensures.long in
    long_first c.args.text.now long.0 long.1 long.2 long.3 items are

pub returns-in_default-2-clause-only : goal.returns-in_default-2-clause-only
returns-in_default-2-clause-only c items are =
    let found = rw c.in-Some.is at c.in_ok-first.ensures.found in
    let long = rw c.in_default-2.is at c.in_ok-end.ensures.long in
    long_rest c.args.text.now c.in-Some.first c.in-Some.next found long items are

-- the items that were put in the list
listed : (c : goal.Then-end-text) → c.more_items.new.items.items ≡ c.in-Some.first ∷ (all_from (next_item c.args.text.now) (length c.args.text.now) c.in-Some.next).0
listed c =
    let more = rw c.in-Some-2.is at c.in_ok-end.ensures.found in
    more.items ∙ ap (λ items. items ++ (all_from (next_item c.args.text.now) (length c.args.text.now) c.in-Some.next).0)
    (c.in_ok-push.ensures.items ∙ ap (λ items. items ++ c.in-Some.first ∷ []) c.new-items.ensures.items)

pub returns-then-end-text-clause-found : goal.returns-then-end-text-clause-found
returns-then-end-text-clause-found c =
    let found = rw c.in-Some.is at c.in_ok-first.ensures.found in
    let short = rw c.in-Some.is at c.in_ok-first.ensures.short in
    let more = rw c.in-Some-2.is at c.in_ok-end.ensures.found in
    let whole = whole_items c.args.text.now c.in-Some.first c.in-Some.next found (sym more.end ∙ c.if-end-text.true) short more.short in
    subst (AreItems c.args.text.now) (sym (listed c)) whole

pub returns-then-end-text-clause-only : goal.returns-then-end-text-clause-only
returns-then-end-text-clause-only c items are =
    let found = rw c.in-Some.is at c.in_ok-first.ensures.found in
    listed c ∙ sym (only_items c.args.text.now c.in-Some.first c.in-Some.next found items are).0

pub returns-else-end-text-clause-only : goal.returns-else-end-text-clause-only
returns-else-end-text-clause-only c items are =
    let found = rw c.in-Some.is at c.in_ok-first.ensures.found in
    let more = rw c.in-Some-2.is at c.in_ok-end.ensures.found in
    let is = only_items c.args.text.now c.in-Some.first c.in-Some.next found items are in
    let within = more.within in
    let end = more.end in
    let outside = is.1 in
    c.if-end-text.false (omega arith)
