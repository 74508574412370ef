-- The law of each form, whatever the forms are that it is made of: its reader takes the longest.
use Rattle.std.specs.Prelude.{◌≡◌, ℕ, ◌+◌, ◌≤◌, ◌⊎◌, List, [], ◌∷◌, cond, Option, Some, None, IsSome, codes, nat_le, ◌&&◌, ◌==◌}
use Rattle.std.proofs.lemmas.Option.{none-some}
use Rattle.bas_form.specs.Form.{Form, Terminal, ◌then◌, Optional, Repeated, ◌or◌, Dispatched, NotAhead, Built, ◌perhaps◌, Chain, Between}
use Rattle.bas_form.specs.Reader.{Reader, terminal, ◌followed_by◌, optional, repeated, either, dispatched, not_ahead, built, ◌maybe◌, chain, between, ReadsLongest, Begins}
use Rattle.bas_form.specs.Element.{element_at, StandsInside}

-- a form, and a reader that takes the longest of it in a text of `len` elements
pub record ReadForm (A : Type 0) (len : ℕ) : Type 1 where
  pub least : ℕ
  pub form : Form A
  pub goes_on : ℕ → Type 0
  pub reader : Reader A
  pub takes_longest : ReadsLongest len least form goes_on reader

-- the form that never begins, with the reader that reads nothing
abbrev pub nothing : {A : Type 0} (len : ℕ) → ReadForm A len
nothing len = record {
  least = 0;
  form = λ at a next. ⊥;
  goes_on = λ n. ⊥;
  reader = λ at. None;
  takes_longest = record { sound = λ at a next e. none-some (a, next) e; grows = λ at a next h. absurd h; within = λ at a next h. absurd h; longest = λ at a next h. absurd h };
}

-- no place that the one may go on from is one at which the other begins
abbrev pub NeverBegins : {B : Type 0} → (ℕ → Type 0) → Form B → Type 0
NeverBegins {B = B} GoesOn G = (n : ℕ) → GoesOn n → (b : B) (next : ℕ) → G n b next → ⊥

-- a form behind which nothing goes on
abbrev pub Never : ℕ → Type 0
Never n = ⊥

abbrev pub TerminalLaw : Type 0 → Type 0
TerminalLaw A = (len : ℕ) (element : ℕ → Option A) → StandsInside len element → ReadsLongest len 1 (Terminal element) Never (terminal element)

abbrev pub NotAheadLaw : Type 0 → Type 0
NotAheadLaw A = (len : ℕ) (element : ℕ → Option A) → ReadsLongest len 0 (NotAhead element) Never (not_ahead element)

module _ {A : Type 0} {len : ℕ} (F : ReadForm A len) where
  abbrev pub OptionalLaw : Type 0
  OptionalLaw = 1 ≤ F.least → ReadsLongest len 0 (Optional F.form) (λ n. F.goes_on n ⊎ Begins F.reader n) (optional F.reader)

  abbrev pub RepeatedLaw : Type 0
  RepeatedLaw = 1 ≤ F.least → NeverBegins F.goes_on F.form → ReadsLongest len 0 (Repeated F.form) (λ n. F.goes_on n ⊎ Begins F.reader n) (repeated F.reader len)

  abbrev pub BuiltLaw : Type 0 → Type 0
  BuiltLaw B = (make : A → B) → ReadsLongest len F.least (Built make F.form) F.goes_on (built make F.reader)

  abbrev pub ChainLaw : Type 0 → Type 0
  ChainLaw O = (operator : ℕ → Option O) → StandsInside len operator → ((n : ℕ) → F.goes_on n → operator n ≡ None) →
      ReadsLongest len F.least (Chain operator F.form) (λ n. F.goes_on n ⊎ IsSome (operator n)) (chain operator F.reader len)

  abbrev pub BetweenLaw : Type 0 → Type 0 → Type 0
  BetweenLaw O C = (opening : ℕ → Option O) (closing : ℕ → Option C) → StandsInside len opening → StandsInside len closing →
      ((n : ℕ) → F.goes_on n → closing n ≡ None) → ReadsLongest len (F.least + 2) (Between opening closing F.form) Never (between opening closing F.reader)

module _ {A B : Type 0} {len : ℕ} (F : ReadForm A len) (G : ReadForm B len) where
  abbrev pub ThenLaw : Type 0
  ThenLaw = NeverBegins F.goes_on G.form → ReadsLongest len (F.least + G.least) (F.form then G.form) G.goes_on (F.reader followed_by G.reader)

  abbrev pub PerhapsLaw : Type 0
  PerhapsLaw = 1 ≤ G.least → NeverBegins F.goes_on G.form →
      ReadsLongest len F.least (F.form perhaps G.form) (λ n. F.goes_on n ⊎ (G.goes_on n ⊎ Begins G.reader n)) (F.reader maybe G.reader)

-- two forms that never begin at one place
abbrev pub OrLaw : {A : Type 0} {len : ℕ} → ReadForm A len → ReadForm A len → Type 0
OrLaw {A = A} {len = len} F G = (least : ℕ) → least ≤ F.least → least ≤ G.least → ((n : ℕ) (a : A) (next : ℕ) → F.form n a next → (b : A) (last : ℕ) → G.form n b last → ⊥) →
    ReadsLongest len least (F.form or G.form) (λ n. F.goes_on n ⊎ G.goes_on n) (either F.reader G.reader)

-- a form for each key
abbrev pub DispatchedLaw : {K A : Type 0} {len : ℕ} → (K → ReadForm A len) → Type 0
DispatchedLaw {K = K} {len = len} forms = (key : ℕ → Option K) (least : ℕ) → ((k : K) → least ≤ (forms k).least) →
    ReadsLongest len least (Dispatched key (λ k. (forms k).form)) (λ n. (k : K) × (forms k).goes_on n) (dispatched key (λ k. (forms k).reader))

-- ---- a worked grammar: digits between commas, perhaps in parentheses

abbrev digit : ℕ → Option ℕ
digit b = cond (nat_le 48 b && nat_le b 57) (Some b) None

abbrev byte : ℕ → ℕ → Option ℕ
byte wanted b = cond (b == wanted) (Some b) None

abbrev digits_read : List ℕ → ℕ → ℕ → Option ((ℕ × List (ℕ × ℕ)) × ℕ)
digits_read text len = chain (element_at (byte 44) text) (terminal (element_at digit text)) len

abbrev in_parentheses : List ℕ → ℕ → ℕ → Option (ℕ × ℕ)
in_parentheses text len = between (element_at (byte 40) text) (element_at (byte 41) text) (terminal (element_at digit text))

-- the longest chain is taken, and an operator with no item behind it is left; what is not closed is not read
pub record WorkedGrammar : Type 0 where
  pub longest : digits_read (codes "1,2,3 ") 6 0 ≡ Some ((49, (44, 50) ∷ (44, 51) ∷ []), 5)
  pub left_over : digits_read (codes "1,2,") 4 0 ≡ Some ((49, (44, 50) ∷ []), 3)
  pub from_the_middle : digits_read (codes "1,2,3") 5 4 ≡ Some ((51, []), 5)
  pub nothing : digits_read (codes ",2") 2 0 ≡ None
  pub closed : in_parentheses (codes "(7)") 3 0 ≡ Some (55, 3)
  pub open_end : in_parentheses (codes "(7") 2 0 ≡ None
