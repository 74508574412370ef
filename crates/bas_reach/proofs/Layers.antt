-- What is around a line, by what is kept of the block and of what is around it.
use Rattle.std.proofs.Common.{◌≡◌, ℕ, nat_eq, nat_cmp, Bool, true, false, ◌||◌, List, [], ◌∷◌, ◌++◌, Option, Some, None, Bor, append-nil, refl, sym, ap, ◌∙◌, arith}
use Rattle.std.specs.Cmp.Lexicographic.{pointwise}
use Rattle.std.specs.List.{list_any}
use Rattle.std.specs.Option.{option_eq, option_to_list}
use Rattle.std.specs.Ordering.{is_eq}
use Rattle.std.specs.BTreeMap.{is_at}
use Rattle.std.specs.BTreeSet.{BTreeSet, contains}
use Rattle.std.proofs.lemmas.List.Folds.{list_any-append}
use Rattle.bas_rules.specs.Jumping.{is_listed}
use Rattle.bas_rules.specs.Naming.{is_among}
use Rattle.bas_rules.specs.Sites as rule
use Rattle.bas_reach.specs.Standing.{around_block, around_of, IsSame, Tells}
use Rattle.bas_reach.specs.declared.around.Around.{Around, Around-F, out-Around, map-Around, roll-Around, roll-out-Around, fold-roll-Around, fold_out-Around}
use Rattle.bas_reach.specs.Sets.{HasNumbers}
use Rattle.bas_reach.proofs.Counting.{or_false}

-- a block with what is around it
with_outer : Around-F Around → Option (Bor Around) → rule.Around
with_outer x outer = around_block (map-Around Around rule.Around around_of (record x { outer = outer }))

around_out : (x : Around) → around_of x ≡ with_outer (out-Around x) (out-Around x).outer
unfolding around_of with_outer
around_out x = fold_out-Around rule.Around around_block x

-- the lines and the variables of what is around a block
abbrev pub outer_reach : Option (Bor Around) → List ℕ
outer_reach None = []
outer_reach (Some outer) = (around_of outer.now).reach

abbrev pub outer_counters : Option (Bor Around) → List (List ℕ)
outer_counters None = []
outer_counters (Some outer) = (around_of outer.now).counters

reach_with : (x : Around-F Around) (outer : Option (Bor Around)) → (with_outer x outer).reach ≡ x.lines.keys ++ outer_reach outer
unfolding with_outer
reach_with x None = refl
reach_with x (Some outer) = refl

counters_with : (x : Around-F Around) (outer : Option (Bor Around)) → (with_outer x outer).counters ≡ option_to_list x.counter ++ outer_counters outer
unfolding with_outer
counters_with x None = refl
counters_with x (Some outer) = refl

is_eq_nat : (a b : ℕ) → is_eq (nat_cmp a b) ≡ nat_eq a b
is_eq_nat a b = grind arith

keys_listed : (keys : List ℕ) (l : ℕ) → list_any (is_at (nat_cmp l)) keys ≡ is_listed keys l
keys_listed [] l = refl
keys_listed (k ∷ ks) l = ap (λ b. b || list_any (is_at (nat_cmp l)) ks) (is_eq_nat l k) ∙ ap (λ b. nat_eq l k || b) (keys_listed ks l)

-- a line is one of the block, or is reached from around it
listed_out : (x : Around) (l : ℕ) → is_listed (around_of x).reach l ≡ (contains nat_cmp (out-Around x).lines l || is_listed (outer_reach (out-Around x).outer) l)
listed_out x l =
    ap (λ a. is_listed a.reach l) (around_out x)
    ∙ ap (λ numbers. is_listed numbers l) (reach_with (out-Around x) (out-Around x).outer)
    ∙ list_any-append (nat_eq l) (out-Around x).lines.keys (outer_reach (out-Around x).outer)
    ∙ ap (λ b. b || is_listed (outer_reach (out-Around x).outer) l) (sym (keys_listed (out-Around x).lines.keys l))

counter_among : (name : List ℕ) (counter : Option (List ℕ)) → is_among name (option_to_list counter) ≡ option_eq (pointwise nat_eq) (Some name) counter
counter_among name None = refl
counter_among name (Some other) = or_false (pointwise nat_eq name other)

-- a variable counts the block, or one around it
counted_out : (x : Around) (name : List ℕ) → is_among name (around_of x).counters ≡ (option_eq (pointwise nat_eq) (Some name) (out-Around x).counter || is_among name (outer_counters (out-Around x).outer))
counted_out x name =
    ap (λ a. is_among name a.counters) (around_out x)
    ∙ ap (is_among name) (counters_with (out-Around x) (out-Around x).outer)
    ∙ list_any-append (pointwise nat_eq name) (option_to_list (out-Around x).counter) (outer_counters (out-Around x).outer)
    ∙ ap (λ b. b || is_among name (outer_counters (out-Around x).outer)) (counter_among name (out-Around x).counter)

-- what is found in the block, or around it
pub first_found : (here outer whole : Bool) → here ≡ true → whole ≡ (here || outer) → true ≡ whole
first_found here outer whole e w = ap (λ b. b || outer) (sym e) ∙ sym w

pub later_found : (here outer whole found : Bool) → here ≡ false → found ≡ outer → whole ≡ (here || outer) → found ≡ whole
later_found here outer whole found e f w = f ∙ ap (λ b. b || outer) (sym e) ∙ sym w

pub same_self : (a : rule.Around) → IsSame a a
same_self a = record { reach = λ l. refl; in_do = refl; in_for = refl; in_handler = refl; counters = λ name. refl }

-- a line is reached from the block or from around it
pub reached : (x : Around) (l n : ℕ) (here : Bool) → n ≡ l → here ≡ contains nat_cmp (out-Around x).lines n → is_listed (around_of x).reach l ≡ (here || is_listed (outer_reach (out-Around x).outer) l)
reached x l n here same is = listed_out x l ∙ ap (λ b. b || is_listed (outer_reach (out-Around x).outer) l) (ap (contains nat_cmp (out-Around x).lines) (sym same) ∙ sym is)

-- a variable counts where what is kept stands
pub counting : (x : Around) (name : List ℕ) (here : Bool) (a : rule.Around) → Tells x a → here ≡ option_eq (pointwise nat_eq) (Some name) (out-Around x).counter → is_among name a.counters ≡ (here || is_among name (outer_counters (out-Around x).outer))
counting x name here a tells is = sym (tells.counters name) ∙ counted_out x name ∙ ap (λ b. b || is_among name (outer_counters (out-Around x).outer)) (sym is)

around_roll : (x : Around-F Around) → around_of (roll-Around x) ≡ with_outer x x.outer
unfolding around_of with_outer
around_roll x = fold-roll-Around rule.Around around_block x

flags_with : (x : Around-F Around) (outer : Option (Bor Around)) → ((with_outer x outer).in_do ≡ x.in_do) × ((with_outer x outer).in_for ≡ x.in_for) × ((with_outer x outer).in_handler ≡ x.in_handler)
unfolding with_outer
flags_with x outer = (refl, refl, refl)

-- what is kept of a block, by its lines and what is around it
tells_layer : (x : Around-F Around) (numbers behind : List ℕ) (names : List (List ℕ)) (a : rule.Around) →
    HasNumbers x.lines numbers → ((l : ℕ) → is_listed (outer_reach x.outer) l ≡ is_listed behind l) → ((name : List ℕ) → is_among name (outer_counters x.outer) ≡ is_among name names) →
    IsSame (record { reach = numbers ++ behind; in_do = x.in_do; in_for = x.in_for; in_handler = x.in_handler; counters = option_to_list x.counter ++ names }) a → Tells (roll-Around x) a
tells_layer x numbers behind names a has further counted same = record {
  reach = λ l.
      ap (λ y. is_listed y.reach l) (around_roll x)
      ∙ ap (λ all. is_listed all l) (reach_with x x.outer)
      ∙ list_any-append (nat_eq l) x.lines.keys (outer_reach x.outer)
      ∙ ap (λ b. b || is_listed (outer_reach x.outer) l) (sym (keys_listed x.lines.keys l) ∙ has l)
      ∙ ap (λ b. is_listed numbers l || b) (further l)
      ∙ sym (list_any-append (nat_eq l) numbers behind)
      ∙ same.reach l;
  in_do = ap (λ y. y.in_do) (around_roll x) ∙ (flags_with x x.outer).0 ∙ same.in_do;
  in_for = ap (λ y. y.in_for) (around_roll x) ∙ (flags_with x x.outer).1 ∙ same.in_for;
  in_handler = ap (λ y. y.in_handler) (around_roll x) ∙ (flags_with x x.outer).2 ∙ same.in_handler;
  counters = λ name.
      ap (λ y. is_among name y.counters) (around_roll x)
      ∙ ap (is_among name) (counters_with x x.outer)
      ∙ list_any-append (pointwise nat_eq name) (option_to_list x.counter) (outer_counters x.outer)
      ∙ ap (λ b. is_among name (option_to_list x.counter) || b) (counted name)
      ∙ sym (list_any-append (pointwise nat_eq name) (option_to_list x.counter) names)
      ∙ same.counters name;
}

-- a block inside of another
pub tells_inner : (outer : Bor Around) (x : Around-F Around) (numbers : List ℕ) (o a : rule.Around) → x.outer ≡ Some outer → HasNumbers x.lines numbers → Tells outer.now o →
    IsSame (record { reach = numbers ++ o.reach; in_do = x.in_do; in_for = x.in_for; in_handler = x.in_handler; counters = option_to_list x.counter ++ o.counters }) a → Tells (roll-Around x) a
tells_inner outer x numbers o a e has tells same =
    tells_layer x numbers o.reach o.counters a has (λ l. ap (λ y. is_listed (outer_reach y) l) e ∙ tells.reach l) (λ name. ap (λ y. is_among name (outer_counters y)) e ∙ tells.counters name) same

-- lines around which there is nothing
pub tells_outermost : (x : Around) (lines : BTreeSet ℕ) (in_handler : Bool) (numbers : List ℕ) → out-Around x ≡ record { outer = None; lines = lines; in_do = false; in_for = false; in_handler = in_handler; counter = None } → HasNumbers lines numbers → Tells x (record (rule.at_top numbers) { in_handler = in_handler })
tells_outermost x lines in_handler numbers e has =
    rw (← roll-out-Around x, e)
    (tells_layer (record { outer = None; lines = lines; in_do = false; in_for = false; in_handler = in_handler; counter = None }) numbers [] [] _ has (λ l. refl) (λ name. refl)
    (record { reach = λ l. ap (λ all. is_listed all l) (append-nil numbers); in_do = refl; in_for = refl; in_handler = refl; counters = λ name. refl }))

-- what is kept of the constructs around
pub flags_kept : (x : Around) (a : rule.Around) → Tells x a → ((out-Around x).in_do ≡ a.in_do) × ((out-Around x).in_for ≡ a.in_for) × ((out-Around x).in_handler ≡ a.in_handler)
flags_kept x a tells = (
  sym (flags_with (out-Around x) (out-Around x).outer).0 ∙ sym (ap (λ y. y.in_do) (around_out x)) ∙ tells.in_do,
  sym (flags_with (out-Around x) (out-Around x).outer).1 ∙ sym (ap (λ y. y.in_for) (around_out x)) ∙ tells.in_for,
  sym (flags_with (out-Around x) (out-Around x).outer).2 ∙ sym (ap (λ y. y.in_handler) (around_out x)) ∙ tells.in_handler,
)

pub tells_out : (outer : Bor Around) (y : Around) (x : Around-F Around) (numbers : List ℕ) (o a : rule.Around) → out-Around y ≡ x → x.outer ≡ Some outer → HasNumbers x.lines numbers → Tells outer.now o →
    IsSame (record { reach = numbers ++ o.reach; in_do = x.in_do; in_for = x.in_for; in_handler = x.in_handler; counters = option_to_list x.counter ++ o.counters }) a → Tells y a
tells_out outer y x numbers o a is e has tells same = rw (← roll-out-Around y, is) (tells_inner outer x numbers o a e has tells same)

pub kept_do : (x : Around) → (out-Around x).in_do ≡ (around_of x).in_do
kept_do x = (flags_kept x (around_of x) (same_self (around_of x))).0

pub kept_for : (x : Around) → (out-Around x).in_for ≡ (around_of x).in_for
kept_for x = (flags_kept x (around_of x) (same_self (around_of x))).1

pub kept_handler : (x : Around) → (out-Around x).in_handler ≡ (around_of x).in_handler
kept_handler x = (flags_kept x (around_of x) (same_self (around_of x))).2

pub ruleset kept = (kept_do, kept_for, kept_handler)
