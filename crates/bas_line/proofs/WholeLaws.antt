-- What `item_of` reads is the item of the line, and the only one.
use Rattle.std.proofs.Common.{◌≡◌, ℕ, ◌-◌, List, length, take, drop, Option, Some, None, refl, sym, ap, ◌∙◌}
use Rattle.std.proofs.Math.Seq.{take-length}
use Rattle.std.proofs.lemmas.List.{length-drop}
use Rattle.std.specs.Prelude.{Result, Ok, Err, IfOk}
use Rattle.bas_form.proofs.ReaderLaws.{same_some}
use Rattle.bas_ast.specs.declared.block.LineItem.{LineItem}
use Rattle.bas_token.specs.declared.token.Token.{Token}
use Rattle.bas_data.specs.Reading.{data_word}
use Rattle.bas_token.specs.Tokens.{AreTokens}
use Rattle.bas_line.specs.Cut.{tokens_of}
use Rattle.bas_line.specs.Plains.{IsPlain, plain_at}
use Rattle.bas_line.specs.Items.{IsItem}
use Rattle.bas_line.specs.Itemizing.{data_item_of, item_behind, item_for, item_of}
use Rattle.bas_line.specs.declared.whole_line.LineFault.{LineFault}
use Rattle.bas_line.proofs.PlainLaws.{plain_longest, plain_begins}
use Rattle.bas_line.proofs.TokenCut.{tokens_sound}
use Rattle.bas_line.proofs.LineLaws.{line_sound, line_whole}

pub item_stands : (line : List ℕ) (x : LineItem) → item_of line ≡ Some x → IsItem line x
unfolding item_of
item_stands line x e = line_sound IsPlain plain_at plain_longest plain_begins line x e

pub item_read : (line : List ℕ) (x : LineItem) → IsItem line x → item_of line ≡ Some x
unfolding item_of
item_read line x h = line_whole IsPlain plain_at plain_longest plain_begins line x h

-- a line has one item at most
pub one_item : (line : List ℕ) (x y : LineItem) → IsItem line x → IsItem line y → x ≡ y
one_item line x y h g = same_some (sym (item_read line x h) ∙ item_read line y g)

pub no_item : (line : List ℕ) → item_of line ≡ None → (x : LineItem) → IsItem line x → ⊥
no_item line e x h = let some = item_read line x h in absurd (cc)

none_by : (line : List ℕ) (o : Option (List Token)) → tokens_of line ≡ o → ((tokens : List Token) → AreTokens line tokens → ⊥) → tokens_of line ≡ None
none_by line None e never = e
none_by line (Some tokens) e never = absurd (never tokens (tokens_sound line tokens e))

-- a line with no list of tokens has none to read
pub no_tokens : (line : List ℕ) → ((tokens : List Token) → AreTokens line tokens → ⊥) → tokens_of line ≡ None
no_tokens line never = none_by line (tokens_of line) refl never

-- ---- for a line of data, and for every other

behind_is : (line : List ℕ) (behind : ℕ) → data_word line ≡ Some behind → item_of line ≡ data_item_of (drop behind line)
unfolding item_of item_for
behind_is line behind e = rw e refl

all_taken : (line : List ℕ) (behind : ℕ) → take (length line - behind) (drop behind line) ≡ drop behind line
all_taken line behind = ap (λ n. take n (drop behind line)) (sym (length-drop behind line)) ∙ take-length (drop behind line)

pub data_is : (line : List ℕ) (behind : ℕ) → data_word line ≡ Some behind → item_of line ≡ data_item_of (take (length line - behind) (drop behind line))
data_is line behind e = behind_is line behind e ∙ ap data_item_of (sym (all_taken line behind))

pub cut_is : (line : List ℕ) → data_word line ≡ None → item_of line ≡ item_behind line plain_at None
unfolding item_of item_for
cut_is line e = rw e refl

-- what was answered is the item
pub found_by : (line : List ℕ) (o : Option LineItem) (r : Result LineItem LineFault) → item_of line ≡ o → IfOk r (λ item. o ≡ Some item) → IfOk r (λ item. IsItem line item)
found_by line o (Ok x) e h = item_stands line x (e ∙ h)
found_by line o (Err fault) e h = h

-- and no other is
pub only_by : (line : List ℕ) (o : Option LineItem) (r : Result LineItem LineFault) → item_of line ≡ o → IfOk r (λ item. o ≡ Some item) → IfOk r (λ item. (other : LineItem) → IsItem line other → other ≡ item)
only_by line o (Ok x) e h = λ other is. one_item line other x is (item_stands line x (e ∙ h))
only_by line o (Err fault) e h = h

pub value_by : (line : List ℕ) (o : Option LineItem) (r : Result LineItem LineFault) → item_of line ≡ o → IfOk r (λ item. o ≡ Some item) → IfOk r (λ item. item_of line ≡ Some item)
value_by line o (Ok x) e h = e ∙ h
value_by line o (Err fault) e h = h
