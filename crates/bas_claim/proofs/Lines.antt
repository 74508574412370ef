-- First lines, line by line.
use Rattle.std.proofs.Common.{◌≡◌, ℕ, Bool, true, false, ◌&&◌, ◌||◌, nat_lt, List, [], ◌∷◌, ◌++◌, None, cond, refl, sym, ap, ◌∙◌}
use Rattle.std.specs.Prelude.{bytes_eq}
use Rattle.std.specs.List.{filter}
use Rattle.bas_ast.specs.Tree.{LineItem, NumLine}
use Rattle.bas_scope.specs.Lines.{gathered}
use Rattle.bas_rules.specs.Naming.{is_among}
use Rattle.bas_claim.specs.First.{line_of, Notes, AreFirst}
use Rattle.bas_claim.specs.declared.first.FirstLines.{FirstLines}

or_false : (a : Bool) → (a || false) ≡ a
or_false true = refl
or_false false = refl

associated : (a b c : Bool) → (a || (b || c)) ≡ ((a || b) || c)
associated true b c = refl
associated false b c = refl

among_joined : (name : List ℕ) (xs ys : List (List ℕ)) → is_among name (xs ++ ys) ≡ (is_among name xs || is_among name ys)
among_joined name [] ys = refl
among_joined name (x ∷ xs) ys = ap (λ b. bytes_eq name x || b) (among_joined name xs ys) ∙ associated (bytes_eq name x) (is_among name xs) (is_among name ys)

among_alone : (name : List ℕ) (xs : List (List ℕ)) → is_among name (xs ++ []) ≡ is_among name xs
among_alone name xs = among_joined name xs [] ∙ or_false (is_among name xs)

module _ (given : LineItem → List (List ℕ)) (name : List ℕ) where
  abbrev stands_in : List NumLine → Bool
  stands_in lines = is_among name (gathered (λ line. given line.item) lines)

  abbrev stands_above : ℕ → List NumLine → Bool
  stands_above l lines = stands_in (filter (λ line. nat_lt line.line l) lines)

  stands_more : (lines : List NumLine) (x : NumLine) → stands_in (lines ++ x ∷ []) ≡ (stands_in lines || is_among name (given x.item))
  stands_more [] x = among_alone name (given x.item)
  stands_more (y ∷ lines) x =
      among_joined name (given y.item) (gathered (λ line. given line.item) (lines ++ x ∷ []))
      ∙ (ap (λ b. is_among name (given y.item) || b) (stands_more lines x)
      ∙ (associated (is_among name (given y.item)) (stands_in lines) (is_among name (given x.item))
      ∙ ap (λ b. b || is_among name (given x.item)) (sym (among_joined name (given y.item) (gathered (λ line. given line.item) lines)))))

  one_above : (l : ℕ) (x : NumLine) (b : Bool) → stands_in (cond b (x ∷ []) []) ≡ (is_among name (given x.item) && b)
  one_above l x true = among_alone name (given x.item) ∙ sym (and_true (is_among name (given x.item)))
    where
      and_true : (a : Bool) → (a && true) ≡ a
      and_true true = refl
      and_true false = refl
  one_above l x false = sym (and_false (is_among name (given x.item)))
    where
      and_false : (a : Bool) → (a && false) ≡ false
      and_false true = refl
      and_false false = refl

  with_above : (y : NumLine) (rest : List NumLine) (b : Bool) → stands_in (cond b (y ∷ rest) rest) ≡ ((is_among name (given y.item) && b) || stands_in rest)
  with_above y rest b = by (is_among name (given y.item)) refl b
    where
      by : (a : Bool) → is_among name (given y.item) ≡ a → (c : Bool) → stands_in (cond c (y ∷ rest) rest) ≡ ((is_among name (given y.item) && c) || stands_in rest)
      by true e true = among_joined name (given y.item) (gathered (λ line. given line.item) rest) ∙ rw e refl
      by false e true = among_joined name (given y.item) (gathered (λ line. given line.item) rest) ∙ rw e refl
      by true e false = rw e refl
      by false e false = rw e refl

  above_more : (l : ℕ) (lines : List NumLine) (x : NumLine) → stands_above l (lines ++ x ∷ []) ≡ (stands_above l lines || (is_among name (given x.item) && nat_lt x.line l))
  above_more l [] x = one_above l x (nat_lt x.line l)
  above_more l (y ∷ lines) x =
      with_above y (filter (λ line. nat_lt line.line l) (lines ++ x ∷ [])) (nat_lt y.line l)
      ∙ (ap (λ b. (is_among name (given y.item) && nat_lt y.line l) || b) (above_more l lines x)
      ∙ (associated (is_among name (given y.item) && nat_lt y.line l) (stands_above l lines) (is_among name (given x.item) && nat_lt x.line l)
      ∙ ap (λ b. b || (is_among name (given x.item) && nat_lt x.line l)) (sym (with_above y (filter (λ line. nat_lt line.line l) lines) (nat_lt y.line l)))))

-- no lines give nothing
pub first_none : (given : LineItem → List (List ℕ)) (first : FirstLines) → ((name : List ℕ) → line_of first name ≡ None) → AreFirst first given []
first_none given first h = record { stands = λ name. rw (h name) refl; before = λ name l. rw (h name) refl }

-- one more line
pub first_more : (given : LineItem → List (List ℕ)) (old new : FirstLines) (lines : List NumLine) (x : NumLine)
    → AreFirst old given lines → Notes old new (given x.item) x.line → AreFirst new given (lines ++ x ∷ [])
first_more given old new lines x f n = record {
  stands = λ name. n.stands name ∙ (ap (λ b. b || is_among name (given x.item)) (f.stands name) ∙ sym (stands_more given name lines x));
  before = λ name l. n.before name l ∙ (ap (λ b. b || (is_among name (given x.item) && nat_lt x.line l)) (f.before name l) ∙ sym (above_more given name l lines x));
}
