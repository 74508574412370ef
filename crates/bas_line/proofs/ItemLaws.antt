-- A line that is cut into tokens has the item that is read, and no other.
use Rattle.std.proofs.Common.{◌≡◌, ℕ, ◌+◌, ◌==◌, inl, inr, Bool, true, false, List, length, Option, Some, None, IsSome, codes, refl, sym, ap, ◌∙◌, subst, arith, eqb-true, eq-eqb}
use Rattle.bas_form.specs.Form.{Form}
use Rattle.bas_form.specs.Reader.{Reader, ◌>>=◌, ReadsLongest}
use Rattle.bas_form.proofs.ReaderLaws.{same_some, some_is, ends}
use Rattle.bas_ast.specs.declared.condition.Cond.{Cond}
use Rattle.bas_ast.specs.declared.declaration.Decl.{Decl}
use Rattle.bas_ast.specs.declared.part.Part.{Part}
use Rattle.bas_ast.specs.declared.part.Part.TheVariants as part
use Rattle.bas_ast.specs.declared.statement.Plain.{Plain}
use Rattle.bas_ast.specs.declared.statement.Simple.{Simple}
use Rattle.bas_ast.specs.declared.block.LineItem.{LineItem}
use Rattle.bas_ast.specs.declared.block.LineItem.TheVariants as item
use Rattle.bas_expr.specs.Lexemes.{Lexeme}
use Rattle.bas_expr.specs.Marks.{mark}
use Rattle.bas_expr.specs.Words.{connective}
use Rattle.bas_expr.specs.Testing.{GoesCond}
use Rattle.bas_expr.proofs.ConditionLaws.{cond_longest}
use Rattle.bas_expr.specs.declared.TheConstants.{LEVELS}
use Rattle.bas_declaration.specs.declared.keyword.Keyword.{Keyword}
use Rattle.bas_declaration.specs.declared.keyword.Keyword.TheVariants as k
use Rattle.bas_declaration.specs.Keywords.{keyword, at_word, then_word}
use Rattle.bas_declaration.specs.Parts.{C, Tested, PartBy, IsPart}
use Rattle.bas_declaration.specs.Declarations.{DeclBy, IsDecl}
use Rattle.bas_declaration.specs.Reading.{GoesLine, part_at}
use Rattle.bas_declaration.specs.Declaring.{decl_at}
use Rattle.bas_declaration.proofs.WordLaws.{past_cond}
use Rattle.bas_declaration.proofs.PartLaws.{part_longest}
use Rattle.bas_declaration.proofs.DeclLaws.{decl_longest}
use Rattle.bas_line.specs.Words.{if_word, rem, exclaimed, LineEnds}
use Rattle.bas_line.specs.Simples.{IsIf, IsSimple}
use Rattle.bas_line.specs.Reading.{simple_at}
use Rattle.bas_line.specs.Items.{IsItemBy}
use Rattle.bas_line.specs.Itemizing.{stands, line_ends, ended, closed, worded, item_with, item_by}
use Rattle.bas_line.proofs.WordLaws.{on_no_keyword, line_ends_at, rem_first, no_keyword, line_end_ends}
use Rattle.bas_line.proofs.SimpleLaws.{GoesPlain, BeginsPlain, simple_longest, branch_begins, if_first, on_first}

-- ---- parts and declarations begin with different words

kinds_apart : (tokens : List Lexeme) (x : Keyword) (n : ℕ) (p : Part) (m : ℕ) (d : Decl) (l : ℕ) → PartBy tokens x n p m → DeclBy tokens x n d l → ⊥
kinds_apart tokens k.Option n p m d l h g = h
kinds_apart tokens k.Dim n p m d l h g = h
kinds_apart tokens k.Declare n p m d l h g = h
kinds_apart tokens k.Public n p m d l h g = h
kinds_apart tokens k.Share n p m d l h g = h
kinds_apart tokens k.Private n p m d l h g = h
kinds_apart tokens _ n p m d l h g = g

if_is : (o : Option Keyword) (x : Keyword) → o ≡ Some x → IsSome (o >>= if_word) → x ≡ k.If
if_is None x e h = absurd (cc)
if_is (Some k.If) x e h = sym (same_some e)
if_is _ x e h = absurd (cc)

module _ (tokens : List Lexeme) where
  -- ---- where the line ends

  stands_sound : (o : Option (Unit {0})) → stands o ≡ true → IsSome o
  stands_sound None e = absurd (cc)
  stands_sound (Some u) e = refl

  stands_whole : (o : Option (Unit {0})) → IsSome o → stands o ≡ true
  stands_whole None h = absurd (cc)
  stands_whole (Some u) h = refl

  ends_by : (at : ℕ) (t : Bool) → (at == length tokens) ≡ t → line_ends tokens at ≡ true → LineEnds tokens at
  unfolding line_ends
  ends_by at true et e = inl (eqb-true at (length tokens) et)
  ends_by at false et e = inr (stands_sound (exclaimed tokens at) (let f = rw et at e in f))

  pub ends_sound : (at : ℕ) → line_ends tokens at ≡ true → LineEnds tokens at
  ends_sound at e = ends_by at (at == length tokens) refl e

  whole_by : (at : ℕ) (t : Bool) → (at == length tokens) ≡ t → LineEnds tokens at → line_ends tokens at ≡ true
  unfolding line_ends
  whole_by at true et l = rw et refl
  whole_by at false et (inl e) = let f = eq-eqb at (length tokens) e in absurd (cc)
  whole_by at false et (inr h) = rw et (stands_whole (exclaimed tokens at) h)

  pub ends_whole : (at : ℕ) → LineEnds tokens at → line_ends tokens at ≡ true
  ends_whole at l = whole_by at (at == length tokens) refl l

  no_end_by : (at : ℕ) (t : Bool) → line_ends tokens at ≡ t → (LineEnds tokens at → ⊥) → line_ends tokens at ≡ false
  no_end_by at true e never = absurd (never (ends_sound at e))
  no_end_by at false e never = e

  pub ends_never : (at : ℕ) → (LineEnds tokens at → ⊥) → line_ends tokens at ≡ false
  ends_never at never = no_end_by at (line_ends tokens at) refl never

  some_none : {A : Type 0} (o : Option A) → o ≡ None → IsSome o → ⊥
  some_none o e h = let f = rw e at h in absurd (cc)

  -- no part and no declaration goes on where the line ends
  line_stops : (n : ℕ) → LineEnds tokens n → GoesLine tokens n → ⊥
  line_stops n l (inl h) = some_none (mark tokens n) (line_ends_at tokens n l).0.0 h
  line_stops n l (inr (inl h)) = some_none (keyword tokens n) (line_ends_at tokens n l).0.1 h
  line_stops n l (inr (inr h)) = some_none (connective tokens n) (line_ends_at tokens n l).0.2 h

  -- ---- what was read up to the end of the line

  module _ {A : Type 0} (make : A → LineItem) where
    closed_by : (found : A × ℕ) (x : LineItem) (t : Bool) → line_ends tokens found.1 ≡ t → closed tokens make (Some found) ≡ Some x → (x ≡ make found.0) × LineEnds tokens found.1
    unfolding ended
    closed_by found x true et e = (sym (same_some (let f = rw et at e in f)), ends_sound found.1 et)
    closed_by found x false et e = let f = rw et at e in absurd (cc)

    closed_from : (o : Option (A × ℕ)) (x : LineItem) → closed tokens make o ≡ Some x → (found : A × ℕ) × (o ≡ Some found) × (x ≡ make found.0) × LineEnds tokens found.1
    unfolding ended
    closed_from None x e = absurd (cc)
    closed_from (Some found) x e = let c = closed_by found x (line_ends tokens found.1) refl e in (found, refl, c.0, c.1)

    closed_of : (o : Option (A × ℕ)) (a : A) (next : ℕ) → o ≡ Some (a, next) → LineEnds tokens next → closed tokens make o ≡ Some (make a)
    unfolding ended
    closed_of o a next e l = rw (e, ends_whole next l) refl

    closed_none_by : (o : Option (A × ℕ)) (c : Option LineItem) → closed tokens make o ≡ c → ((found : A × ℕ) → o ≡ Some found → LineEnds tokens found.1 → ⊥) → closed tokens make o ≡ None
    closed_none_by o None ec never = ec
    closed_none_by o (Some x) ec never = let f = closed_from o x ec in absurd (never f.0 f.1 f.3)

    closed_none : (o : Option (A × ℕ)) → ((found : A × ℕ) → o ≡ Some found → LineEnds tokens found.1 → ⊥) → closed tokens make o ≡ None
    closed_none o never = closed_none_by o (closed tokens make o) refl never

  -- a part or declaration begins with a word
  part_first : (p : Part) (n : ℕ) → IsPart tokens 0 p n → IsSome (keyword tokens 0)
  part_first p n h = some_is h.1

  decl_first : (d : Decl) (n : ℕ) → IsDecl tokens 0 d n → IsSome (keyword tokens 0)
  decl_first d n h = some_is h.1

  decl_no_part : (d : Decl) (n : ℕ) → IsDecl tokens 0 d n → (p : Part) (m : ℕ) → IsPart tokens 0 p m → ⊥
  decl_no_part d n h p m g =
      let same : g.0 ≡ h.0 = same_some (sym g.1 ∙ h.1) in
      kinds_apart tokens h.0 0 p m d n (subst (λ (x : Keyword). PartBy tokens x 0 p m) same g.2) h.2

  -- ---- where plain statements are read

  module _ (P : Form Plain) (p : Reader Plain) (is : ReadsLongest (length tokens) 1 P (GoesPlain tokens) p) (begins : (n : ℕ) (a : Plain) (m : ℕ) → P n a m → BeginsPlain tokens n) where
    -- no declaration begins with IF
    if_no_decl : (x : Keyword) → x ≡ k.If → (d : Decl) (m : ℕ) → DeclBy tokens x 0 d m → ⊥
    if_no_decl x e d m h = let g = subst (λ (y : Keyword). DeclBy tokens y 0 d m) e h in g

    simple_no_decl : (s : Simple) (n : ℕ) → IsSimple tokens P 0 s n → (d : Decl) (m : ℕ) → IsDecl tokens 0 d m → ⊥
    simple_no_decl s n (inl h) d m g = some_none (keyword tokens 0) (begins 0 h.0 n h.2).0 (decl_first d m g)
    simple_no_decl s n (inr (inl h)) d m g =
        let front = h.2 in
        let body = front.2 in
        if_no_decl g.0 (if_is (keyword tokens 0) g.0 g.1 (some_is body.1.0)) d m g.2
    simple_no_decl s n (inr (inr h)) d m g = let o = on_first tokens P p is begins 0 s n h in some_none (keyword tokens 0) (on_no_keyword tokens 0 o.0 o.1) (decl_first d m g)

    no_then : (n : ℕ) (u : Unit {0}) → at_word then_word tokens n ≡ Some u → GoesCond tokens n → ⊥
    no_then n u e g = let none = no_keyword tokens then_word n (past_cond tokens n g) in absurd (cc)

    -- a line ends behind THEN, or a branch stands there
    then_once : (s : Simple) (n : ℕ) → IsIf tokens P 0 s n → (q : Part) (m : ℕ) → Tested tokens part.If 0 q m → LineEnds tokens m → ⊥
    then_once s n h q m g l =
        let front = h.2 in
        let body = front.2 in
        let inner = body.2 in
        let behind = inner.2 in
        let after = behind.2 in
        let other = g.2 in
        let cond = other.2 in
        let last = cond.2 in
        let first_place = body.1.1 in
        let second_place = other.1.1 in
        let one = ends (cond_longest tokens LEVELS) (0 + 1) h.2.0.1.0 inner.0 (subst (λ (k : ℕ). C tokens k h.2.0.1.0 inner.0) first_place inner.1) (no_then inner.0 _ after.1.0) in
        let two = ends (cond_longest tokens LEVELS) (0 + 1) g.0.1.0 cond.0 (subst (λ (k : ℕ). C tokens k g.0.1.0 cond.0) second_place cond.1) (no_then cond.0 _ last.0) in
        let place : inner.0 ≡ cond.0 = ap (λ (r : Cond × ℕ). r.1) (same_some (sym one ∙ two)) in
        let here = after.1.1 in
        let there = last.1 in
        let same : after.0 ≡ m = omega arith in
        let both = after.2 in
        branch_begins tokens P p is begins after.0 _ both.0 both.1 (subst (LineEnds tokens) (sym same) l)

    simple_no_part : (s : Simple) (n : ℕ) → IsSimple tokens P 0 s n → (q : Part) (m : ℕ) → IsPart tokens 0 q m → LineEnds tokens m → ⊥
    simple_no_part s n (inl h) q m g l = some_none (keyword tokens 0) (begins 0 h.0 n h.2).0 (part_first q m g)
    simple_no_part s n (inr (inl h)) q m g l =
        let front = h.2 in
        let body = front.2 in
        let same = if_is (keyword tokens 0) g.0 g.1 (some_is body.1.0) in
        then_once s n h q m (subst (λ (x : Keyword). PartBy tokens x 0 q m) same g.2) l
    simple_no_part s n (inr (inr h)) q m g l = let o = on_first tokens P p is begins 0 s n h in some_none (keyword tokens 0) (on_no_keyword tokens 0 o.0 o.1) (part_first q m g)

    -- ---- the item that is read stands there

    part_sound : (x : LineItem) → closed tokens item.Part (part_at tokens 0) ≡ Some x → IsItemBy tokens P x
    part_sound x e =
        let c = closed_from item.Part (part_at tokens 0) x e in
        subst (IsItemBy tokens P) (sym c.2) (c.0.1, (part_longest tokens).sound 0 c.0.0 c.0.1 c.1, c.3)

    decl_sound : (x : LineItem) → closed tokens item.Decl (decl_at tokens 0) ≡ Some x → IsItemBy tokens P x
    decl_sound x e =
        let c = closed_from item.Decl (decl_at tokens 0) x e in
        subst (IsItemBy tokens P) (sym c.2) (c.0.1, (decl_longest tokens).sound 0 c.0.0 c.0.1 c.1, c.3)

    simple_sound : (x : LineItem) → closed tokens item.Simple (simple_at tokens p 0) ≡ Some x → IsItemBy tokens P x
    simple_sound x e =
        let c = closed_from item.Simple (simple_at tokens p 0) x e in
        subst (IsItemBy tokens P) (sym c.2) (c.0.1, (simple_longest tokens P p is begins).sound 0 c.0.0 c.0.1 c.1, c.3)

    worded_sound : (x : LineItem) (a b : Option LineItem) → closed tokens item.Part (part_at tokens 0) ≡ a → closed tokens item.Decl (decl_at tokens 0) ≡ b → worded tokens p ≡ Some x → IsItemBy tokens P x
    worded_sound x (Some y) b ea eb e = part_sound x (ea ∙ (let f = rw ea at e in f))
    worded_sound x None (Some y) ea eb e = decl_sound x (eb ∙ (let f = rw (ea, eb) at e in f))
    worded_sound x None None ea eb e = simple_sound x (let f = rw (ea, eb) at e in f)

    sound_by : (x : LineItem) (r : Option (List ℕ)) (t : Bool) → rem tokens 0 ≡ r → line_ends tokens 0 ≡ t → item_with tokens p r ≡ Some x → IsItemBy tokens P x
    sound_by x (Some bytes) t er et e = subst (IsItemBy tokens P) (same_some e) er
    sound_by x None true er et e = let f = rw et at e in subst (IsItemBy tokens P) (same_some f) (ends_sound 0 et)
    sound_by x None false er et e = worded_sound x _ _ refl refl (let f = rw et at e in f)

    pub item_sound : (x : LineItem) → item_by tokens p ≡ Some x → IsItemBy tokens P x
    unfolding item_by
    item_sound x e = sound_by x (rem tokens 0) (line_ends tokens 0) refl refl e

    -- ---- the item that stands there is read

    no_rem_by : (r : Option (List ℕ)) → rem tokens 0 ≡ r → IsSome (keyword tokens 0) → rem tokens 0 ≡ None
    no_rem_by None e h = e
    no_rem_by (Some bytes) e h = absurd (some_none (keyword tokens 0) (rem_first tokens 0 bytes e).0.1 h)

    word_ends : IsSome (keyword tokens 0) → LineEnds tokens 0 → ⊥
    word_ends h l = some_none (keyword tokens 0) (line_ends_at tokens 0 l).0.1 h

    part_read : (q : Part) (n : ℕ) → IsPart tokens 0 q n → LineEnds tokens n → closed tokens item.Part (part_at tokens 0) ≡ Some (item.Part q)
    part_read q n h l = closed_of item.Part (part_at tokens 0) q n (ends (part_longest tokens) 0 q n h (line_stops n l)) l

    decl_read : (d : Decl) (n : ℕ) → IsDecl tokens 0 d n → LineEnds tokens n → closed tokens item.Decl (decl_at tokens 0) ≡ Some (item.Decl d)
    decl_read d n h l = closed_of item.Decl (decl_at tokens 0) d n (ends (decl_longest tokens) 0 d n h (line_stops n l)) l

    simple_read : (s : Simple) (n : ℕ) → IsSimple tokens P 0 s n → LineEnds tokens n → closed tokens item.Simple (simple_at tokens p 0) ≡ Some (item.Simple s)
    simple_read s n h l = closed_of item.Simple (simple_at tokens p 0) s n (ends (simple_longest tokens P p is begins) 0 s n h (λ g. g l)) l

    part_not_read : ((q : Part) (m : ℕ) → IsPart tokens 0 q m → LineEnds tokens m → ⊥) → closed tokens item.Part (part_at tokens 0) ≡ None
    part_not_read never = closed_none item.Part (part_at tokens 0) (λ found e l. never found.0 found.1 ((part_longest tokens).sound 0 found.0 found.1 e) l)

    decl_not_read : ((d : Decl) (m : ℕ) → IsDecl tokens 0 d m → ⊥) → closed tokens item.Decl (decl_at tokens 0) ≡ None
    decl_not_read never = closed_none item.Decl (decl_at tokens 0) (λ found e l. never found.0 found.1 ((decl_longest tokens).sound 0 found.0 found.1 e))

    -- a statement begins neither a remark nor the end of the line
    simple_begins : (s : Simple) (n : ℕ) → IsSimple tokens P 0 s n → (rem tokens 0 ≡ None) × (LineEnds tokens 0 → ⊥)
    simple_begins s n (inl h) = (plain_rem (rem tokens 0) refl, λ l. (begins 0 h.0 n h.2).3 (line_end_ends tokens 0 l))
      where
        plain_rem : (r : Option (List ℕ)) → rem tokens 0 ≡ r → rem tokens 0 ≡ None
        plain_rem None e = e
        plain_rem (Some bytes) e = absurd ((begins 0 h.0 n h.2).3 (inr (some_is (rem_first tokens 0 bytes e).1)))
    simple_begins s n (inr (inl h)) = let f = if_first tokens P p is begins 0 s n h in (no_rem_by (rem tokens 0) refl f, word_ends f)
    simple_begins s n (inr (inr h)) = (on_rem (rem tokens 0) refl, on_ends)
      where
        on_rem : (r : Option (List ℕ)) → rem tokens 0 ≡ r → rem tokens 0 ≡ None
        on_rem None e = e
        on_rem (Some bytes) e = let o = on_first tokens P p is begins 0 s n h in let none = (rem_first tokens 0 bytes e).0.4 (codes "ON") in let some = o.1 in absurd (cc)

        on_ends : LineEnds tokens 0 → ⊥
        on_ends l = let o = on_first tokens P p is begins 0 s n h in let none = (line_ends_at tokens 0 l).0.4 (codes "ON") in let some = o.1 in absurd (cc)

    pub item_whole : (x : LineItem) → IsItemBy tokens P x → item_by tokens p ≡ Some x
    unfolding item_by
    item_whole item.Nothing l = rw ((line_ends_at tokens 0 l).1, ends_whole 0 l) refl
    item_whole (item.Rem bytes) e = rw e refl
    item_whole (item.Part q) h =
        let f = part_first q h.0 h.1 in
        rw (no_rem_by (rem tokens 0) refl f, ends_never 0 (word_ends f), part_read q h.0 h.1 h.2) refl
    item_whole (item.Decl d) h =
        let f = decl_first d h.0 h.1 in
        rw (no_rem_by (rem tokens 0) refl f, ends_never 0 (word_ends f), part_not_read (λ q m g l. decl_no_part d h.0 h.1 q m g), decl_read d h.0 h.1 h.2) refl
    item_whole (item.Simple s) h =
        let b = simple_begins s h.0 h.1 in
        rw (b.0, ends_never 0 b.1, part_not_read (simple_no_part s h.0 h.1), decl_not_read (simple_no_decl s h.0 h.1), simple_read s h.0 h.1 h.2) refl
