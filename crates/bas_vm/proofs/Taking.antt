-- What a sink took in two steps.
use Rattle.std.proofs.Common.{◌≡◌, ℕ, List, [], ◌++◌, Option, Some, None, length, take, drop, ◌-◌, refl, sym, ap, subst, ◌∙◌, append_assoc, append-nil}
use Rattle.std.proofs.lemmas.List.{take-append-drop, take_rest, take_at}
use Rattle.std.specs.Option.{option_map}
use Rattle.bas_vm.specs.Took.{TookAll, TookPrefix}

-- a part of the text was sent and taken, and the rest is left
pub record Sending (before now : Option (List ℕ)) (text left : List ℕ) : Type 0 where
  pub sent : List ℕ
  pub whole : sent ++ left ≡ text
  pub took : TookAll before now sent

-- nothing was taken
pub TookAll-none : (before : Option (List ℕ)) → TookAll before before []
TookAll-none None = refl
TookAll-none (Some taken) = ap (λ t. Some t) (sym (append-nil taken))

-- first one text and then another
pub TookAll-then : (before middle now : Option (List ℕ)) (first second : List ℕ) → TookAll before middle first → TookAll middle now second → TookAll before now (first ++ second)
TookAll-then before middle now first second one two =
    let after_one : now ≡ option_map (λ taken. taken ++ second) (option_map (λ taken. taken ++ first) before) = two ∙ ap (λ m. option_map (λ taken. taken ++ second) m) one in
    after_one ∙ joined before
  where
    joined : (before : Option (List ℕ)) → option_map (λ taken. taken ++ second) (option_map (λ taken. taken ++ first) before) ≡ option_map (λ taken. taken ++ (first ++ second)) before
    joined None = refl
    joined (Some taken) = ap (λ t. Some t) (append_assoc taken first second)

-- the sink took some more of what is left
pub Sending-more :
    (before middle now : Option (List ℕ)) (text left : List ℕ) (count : ℕ) →
    Sending before middle text left → TookAll middle now (take count left) → Sending before now text (drop count left)
Sending-more before middle now text left count so_far more = record {
  sent = so_far.sent ++ take count left;
  whole = append_assoc so_far.sent (take count left) (drop count left) ∙ (ap (λ r. so_far.sent ++ r) (take-append-drop count left) ∙ so_far.whole);
  took = TookAll-then before middle now so_far.sent (take count left) so_far.took more;
}

-- the same, with what is left as a slice's range from count on
pub Sending-range :
    (before middle now : Option (List ℕ)) (text left : List ℕ) (count : ℕ) →
    Sending before middle text left → TookAll middle now (take count left) → Sending before now text (take (length left - count) (drop count left))
Sending-range before middle now text left count so_far more =
    subst (Sending before now text) (sym (take_rest left count)) (Sending-more before middle now text left count so_far more)

-- nothing is sent yet
pub Sending-none : (before : Option (List ℕ)) (text : List ℕ) → Sending before before text text
Sending-none before text = record { sent = []; whole = refl; took = TookAll-none before }

-- a text of which some was taken is the front of a longer one
pub TookPrefix-front : (before now : Option (List ℕ)) (text more : List ℕ) → TookPrefix before now text → TookPrefix before now (text ++ more)
TookPrefix-front before now text more some = record {
  part = some.part;
  rest = some.rest ++ more;
  whole = sym (append_assoc some.part some.rest more) ∙ ap (λ t. t ++ more) some.whole;
  took = some.took;
}

-- first all of one text, and then some of another
pub TookPrefix-then :
    (before middle now : Option (List ℕ)) (first second : List ℕ) → TookAll before middle first → TookPrefix middle now second → TookPrefix before now (first ++ second)
TookPrefix-then before middle now first second all some = record {
  part = first ++ some.part;
  rest = some.rest;
  whole = append_assoc first some.part some.rest ∙ ap (λ t. first ++ t) some.whole;
  took = TookAll-then before middle now first some.part all some.took;
}

-- the front of a buffer that begins with a text
pub text_at : (count : ℕ) (text buffer rest : List ℕ) → count ≡ length text → buffer ≡ text ++ rest → take count buffer ≡ text
text_at count text buffer rest is_count is_buffer = ap (λ b. take count b) is_buffer ∙ take_at text rest count (sym is_count)

-- nothing was taken of any text
pub TookPrefix-none : (before : Option (List ℕ)) (text : List ℕ) → TookPrefix before before text
TookPrefix-none before text = record { part = []; rest = text; whole = refl; took = TookAll-none before }

-- all of a text is some of it
pub TookPrefix-all : (before now : Option (List ℕ)) (text : List ℕ) → TookAll before now text → TookPrefix before now text
TookPrefix-all before now text took = record { part = text; rest = []; whole = append-nil text; took = took }
