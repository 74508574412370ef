use Rattle.std.proofs.Common.{◌++◌, ◌∷◌, [], All, sym, ap, ◌∙◌, subst, arith, append_assoc}
use Rattle.std.proofs.lemmas.List.Elements.{All-push}
use Rattle.bas_text.proofs.DataLaws.{item_longest}
use Rattle.bas_text.proofs.ListLaws.{IsShort, next_is, next_none, read_on, read_ends, read_long}
use Rattle.bas_text.proofs.data_list.more_items.Goals as goal

pub returns-in_default-2-clause-long : goal.returns-in_default-2-clause-long
returns-in_default-2-clause-long c =
    let long = rw c.in_default-2.is at c.in_ok-datum.ensures.long in
    read_long c.args.text.now c.args.from c.loop-start.at c.loop-start.invariant.front long.0 long.1 c.loop-start.invariant.read
    (next_is c.args.text.now c.loop-start.at c.in-Some.start long.0 long.1 (sym c.in-Some.ensures.value) long.2) long.3

pub loop-start-preserved : goal.loop-start-preserved
loop-start-preserved c =
    let found = rw c.in-Some-2.is at c.in_ok-datum.ensures.found in
    let short = rw c.in-Some-2.is at c.in_ok-datum.ensures.short in
    let within = rw c.in-Some-2.is at c.in_ok-datum.ensures.within in
    record {
      within = within;
      front = c.loop-start.invariant.front ++ c.in-Some-2.datum ∷ [];
      read = read_on c.args.text.now c.args.from c.loop-start.at c.loop-start.invariant.front c.in-Some-2.datum c.in-Some-2.end c.loop-start.invariant.read
          (next_is c.args.text.now c.loop-start.at c.in-Some.start c.in-Some-2.datum c.in-Some-2.end (sym c.in-Some.ensures.value) found);
      items =
          c.in_ok-push.ensures.items ∙ ap (λ items. items ++ c.in-Some-2.datum ∷ []) c.loop-start.invariant.items
          ∙ append_assoc c.args.items.now.items c.loop-start.invariant.front (c.in-Some-2.datum ∷ []);
      short = All-push IsShort c.loop-start.invariant.front c.in-Some-2.datum c.loop-start.invariant.short short;
    }

pub loop-start-smaller : goal.loop-start-smaller
loop-start-smaller c =
    let found = rw c.in-Some-2.is at c.in_ok-datum.ensures.found in
    let within = rw c.in-Some-2.is at c.in_ok-datum.ensures.within in
    let longest = item_longest c.args.text.now in
    let grown = longest.grows c.in-Some.start c.in-Some-2.datum c.in-Some-2.end (longest.sound c.in-Some.start c.in-Some-2.datum c.in-Some-2.end found) in
    let comma = c.in-Some.ensures.grows in
    omega arith

pub returns-clause-found : goal.returns-clause-found
returns-clause-found c =
    let done =
    read_ends c.args.text.now c.args.from c.loop-start.at c.loop-start.invariant.front c.loop-start.invariant.read
    (next_none c.args.text.now c.loop-start.at (sym c.byte_end.ensures.value ∙ c.in_default.is)) in
    record {
      items = c.loop-start.invariant.items ∙ ap (λ read. c.args.items.now.items ++ read.0) (sym done);
      end = ap (λ read. read.1) (sym done);
      short = subst (All IsShort) (ap (λ read. read.0) (sym done)) c.loop-start.invariant.short;
      within = c.loop-start.invariant.within;
    }
