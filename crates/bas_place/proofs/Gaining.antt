-- First lines gain names line by line and body by body.
use Rattle.std.proofs.Common.{◌≡◌, ℕ, Bool, true, false, ◌&&◌, ◌||◌, nat_lt, List, [], ◌∷◌, ◌++◌, cond, refl, sym, ap, ◌∙◌, append-nil}
use Rattle.std.specs.Prelude.{bytes_eq}
use Rattle.std.specs.List.{filter}
use Rattle.std.proofs.lemmas.List.Folds.{list_any-append}
use Rattle.std.proofs.lemmas.List.Elements.{filter-append}
use Rattle.bas_ast.specs.Tree as t
use Rattle.bas_scope.specs.Lines.{gathered, own_lines}
use Rattle.bas_scope.specs.Senses.{Senses, senses_of}
use Rattle.bas_scope.specs.Bodies.{Body}
use Rattle.bas_rules.specs.Naming.{is_among, sub_names_used, lines_before}
use Rattle.bas_names.proofs.Putting.{gathered-append}
use Rattle.bas_claim.specs.First.{stands_before, Notes}
use Rattle.bas_claim.specs.declared.first.FirstLines.{FirstLines}
use Rattle.bas_place.specs.Uses.{Gains, used_above, used_in}

or_false : (b : Bool) → b ≡ (b || false)
or_false true = refl
or_false false = refl

and_true : (b : Bool) → (b && true) ≡ b
and_true true = refl
and_true false = refl

and_false : (b : Bool) → (b && false) ≡ false
and_false true = refl
and_false false = refl

associated : (a b c : Bool) → ((a || b) || c) ≡ (a || (b || c))
associated true b c = refl
associated false b c = refl

-- nothing is gained
pub gains_none : (first : FirstLines) → Gains first first (λ l. [])
gains_none first = record { before = λ name l. or_false (stands_before first name l) }

-- names are gained, and then others
pub gains_both : (a b c : FirstLines) (f g h : ℕ → List (List ℕ)) → ((l : ℕ) → h l ≡ f l ++ g l) → Gains a b f → Gains b c g → Gains a c h
gains_both a b c f g h e p q = record {
  before = λ name l.
      q.before name l
      ∙ (ap (λ x. x || is_among name (g l)) (p.before name l)
      ∙ (associated (stands_before a name l) (is_among name (f l)) (is_among name (g l))
      ∙ ap (λ x. stands_before a name l || x) (sym (list_any-append (bytes_eq name) (f l) (g l)) ∙ ap (is_among name) (sym (e l)))));
}

-- the same names are given
pub gains_same : (a b : FirstLines) (f g : ℕ → List (List ℕ)) → ((l : ℕ) → f l ≡ g l) → Gains a b f → Gains a b g
gains_same a b f g e p = record { before = λ name l. p.before name l ∙ ap (λ names. stands_before a name l || is_among name names) (e l) }

-- a line alone
alone : (s : Senses) (x : t.NumLine) (name : List ℕ) (l : ℕ) → (is_among name (sub_names_used s x.item) && nat_lt x.line l) ≡ is_among name (used_above s (x ∷ []) l)
alone s x name l = by (nat_lt x.line l)
  where
    by : (b : Bool) → (is_among name (sub_names_used s x.item) && b) ≡ is_among name (gathered (λ (line : t.NumLine). sub_names_used s line.item) (cond b (x ∷ []) []))
    by true = and_true (is_among name (sub_names_used s x.item)) ∙ ap (is_among name) (sym (append-nil (sub_names_used s x.item)))
    by false = and_false (is_among name (sub_names_used s x.item))

pub gains_alone : (s : Senses) (old new : FirstLines) (x : t.NumLine) → Notes old new (sub_names_used s x.item) x.line → Gains old new (used_above s (x ∷ []))
gains_alone s old new x n = record { before = λ name l. n.before name l ∙ ap (λ b. stands_before old name l || b) (alone s x name l) }

above_both : (s : Senses) (xs ys : List t.NumLine) (l : ℕ) → used_above s (xs ++ ys) l ≡ used_above s xs l ++ used_above s ys l
above_both s xs ys l =
    let given = λ (line : t.NumLine). sub_names_used s line.item in
    ap (gathered given) (filter-append (λ (line : t.NumLine). nat_lt line.line l) xs ys)
    ∙ gathered-append given (filter (λ (line : t.NumLine). nat_lt line.line l) xs) (filter (λ (line : t.NumLine). nat_lt line.line l) ys)

-- one more line
pub gains_line : (s : Senses) (old mid new : FirstLines) (lines : List t.NumLine) (x : t.NumLine)
    → Gains old mid (used_above s lines) → Notes mid new (sub_names_used s x.item) x.line → Gains old new (used_above s (lines ++ x ∷ []))
gains_line s old mid new lines x p n =
    gains_both old mid new (used_above s lines) (used_above s (x ∷ [])) (used_above s (lines ++ x ∷ [])) (above_both s lines (x ∷ [])) p (gains_alone s mid new x n)

abbrev used_by : Body → ℕ → List (List ℕ)
used_by body l = gathered (λ line. sub_names_used (senses_of body.scope) line.item) (lines_before body l)

-- some bodies, and then others
pub gains_bodies : (old mid new : FirstLines) (xs ys : List Body) → Gains old mid (used_in xs) → Gains mid new (used_in ys) → Gains old new (used_in (xs ++ ys))
gains_bodies old mid new xs ys p q =
    gains_both old mid new (used_in xs) (used_in ys) (used_in (xs ++ ys)) (λ l. gathered-append (λ body. used_by body l) xs ys) p q

-- the lines of a body
pub gains_body : (s : Senses) (body : Body) (block : t.Block) (lines : List t.NumLine) (old new : FirstLines)
    → s ≡ senses_of body.scope → body.block ≡ block → lines ≡ own_lines block → Gains old new (used_above s lines) → Gains old new (used_in (body ∷ []))
gains_body s body block lines old new e b h p = gains_same old new (used_above s lines) (used_in (body ∷ [])) same p
  where
    same : (l : ℕ) → used_above s lines l ≡ used_in (body ∷ []) l
    same l =
        ap (λ z. used_above z lines l) e
        ∙ (ap (λ z. used_above (senses_of body.scope) z l) (h ∙ ap own_lines (sym b))
        ∙ sym (append-nil (used_by body l)))
