-- What is found among the sections of a construct.
use Rattle.std.proofs.Common.{◌≡◌, ℕ, zero, suc, ◌+◌, ◌<◌, ◌≤◌, true, false, if◌then◌else◌, length, get_or, drop, List, [], ◌∷◌, ◌++◌, Option, Some, None, is_some, refl, sym, ap, ◌∙◌, add-one, arith}
use Rattle.std.specs.List.{slice_get}
use Rattle.std.proofs.lemmas.List.{at_drop_all}
use Rattle.bas_ast.specs.Tree as t
use Rattle.bas_ast.specs.BlockTree.{item_tree, line_tree, section_tree, sections_tree}
use Rattle.bas_ast.specs.declared.block.Section.{Section, out-Section}
use Rattle.bas_ast.proofs.BlockTrees.{section_out}
use Rattle.bas_scope.specs.Lines.{opens_procedure}
use Rattle.bas_rules.specs.Sites.{Ground, block_sites, first_sites, inside, internal_ground, later_sites, line_sites, site_at}
use Rattle.bas_rules.specs.Well as rule
use Rattle.bas_check.specs.declared.fault.Fault.{Fault}
use Rattle.bas_check.specs.Faults.{Finds}
use Rattle.bas_check.specs.Walks.{dividing_sites, inside_sites, opened_ground, opener_in, opening_sites, procedure_body_sites, section_sites, sites_from}
use Rattle.bas_check.proofs.Finding.{found_first, found_next, next_of, passed}

-- ---- one section

pub head_is : (x : Section) → line_tree (out-Section x).head ≡ (section_tree x).0
head_is x = ap (λ s. s.0) (sym (section_out x))

module _ (g : Ground) (close : ℕ) (s : t.NumLine × t.Block) (found : Option Fault) where
  -- the first line of a construct breaks a rule
  pub opening_found : is_some found ≡ true → Finds found (line_sites g s.0) → Finds found (opening_sites g close s)
  opening_found e p = found_first found (line_sites g s.0) (block_sites (opened_ground g close s) s.1) e p

  -- it begins an internal procedure
  pub opening_procedure : (next : Option Fault) → is_some found ≡ false → Finds found (line_sites g s.0) → opens_procedure s.0.item ≡ true
      → Finds next (procedure_body_sites g s) → Finds next (opening_sites g close s)
  opening_procedure next e p o q =
      found_next found next (line_sites g s.0) (block_sites (opened_ground g close s) s.1) e p
      (q ∙ ap (λ b. rule.fault_among (block_sites (if b then internal_ground g s else record g { around = inside s.0.item s.1 close g.around }) s.1)) (sym o))

  -- or a block
  pub opening_inside : (next : Option Fault) → is_some found ≡ false → Finds found (line_sites g s.0) → opens_procedure s.0.item ≡ false
      → Finds next (inside_sites g close s) → Finds next (opening_sites g close s)
  opening_inside next e p o q =
      found_next found next (line_sites g s.0) (block_sites (opened_ground g close s) s.1) e p
      (q ∙ ap (λ b. rule.fault_among (block_sites (if b then internal_ground g s else record g { around = inside s.0.item s.1 close g.around }) s.1)) (sym o))

  -- a dividing line breaks a rule
  pub dividing_found : (opener : t.LineItem) → is_some found ≡ true → Finds found ((site_at g opener s.0 ∷ []) ∷ []) → Finds found (dividing_sites g opener close s)
  dividing_found opener e p = found_first found ((site_at g opener s.0 ∷ []) ∷ []) (inside_sites g close s) e p

  -- or a line behind it does
  pub dividing_inside : (opener : t.LineItem) (next : Option Fault) → is_some found ≡ false → Finds found ((site_at g opener s.0 ∷ []) ∷ [])
      → Finds next (inside_sites g close s) → Finds next (dividing_sites g opener close s)
  dividing_inside opener next e p q = found_next found next ((site_at g opener s.0 ∷ []) ∷ []) (inside_sites g close s) e p q

-- section 0 opens, and every other one divides
pub opens_first : (g : Ground) (opener : t.LineItem) (i close : ℕ) (s : t.NumLine × t.Block) → i ≡ 0 → section_sites g opener i close s ≡ opening_sites g close s
opens_first g opener zero close s e = refl
opens_first g opener (suc i) close s e = absurd (omega (arith, e))

pub divides_later : (g : Ground) (opener : t.LineItem) (i close : ℕ) (s : t.NumLine × t.Block) → (i ≡ 0 → ⊥) → section_sites g opener i close s ≡ dividing_sites g opener close s
divides_later g opener zero close s e = absurd (e refl)
divides_later g opener (suc i) close s e = refl

-- ---- all sections

-- what opens the construct stands on the line of its first section
pub opener_is : (xs : List Section) (x : Section) → slice_get xs 0 ≡ Some x → item_tree (out-Section x).head.item ≡ opener_in (sections_tree xs)
opener_is [] x e = let bad : None ≡ Some x = e in absurd cc
opener_is (y ∷ ys) x e = let same : y ≡ x = cc in ap (λ l. l.item) (head_is x) ∙ ap (λ z. (section_tree z).0.item) (sym same)

pub no_opener : (xs : List Section) → slice_get xs 0 ≡ None → t.Nothing ≡ opener_in (sections_tree xs)
no_opener [] e = refl
no_opener (y ∷ ys) e = let bad : Some y ≡ None = e in absurd cc

next_is : (i : ℕ) → suc i + 1 ≡ suc (suc i)
next_is i = add-one (suc i)

-- of what is left of a construct from section i on, that section comes first
from_section : (g : Ground) (xs : List Section) (i : ℕ) (x : Section) (close : t.NumLine) → x ≡ get_or xs i x → i < length xs
    → sites_from g (opener_in (sections_tree xs)) i (sections_tree (drop i xs)) close
    ≡ section_sites g (opener_in (sections_tree xs)) i close.line (section_tree x) ++ sites_from g (opener_in (sections_tree xs)) (i + 1) (sections_tree (drop (i + 1) xs)) close
from_section g (y ∷ ys) zero x close e h = ap (λ z. section_sites g (section_tree y).0.item zero close.line (section_tree z) ++ later_sites g (section_tree y).0.item (sections_tree ys) close) (sym e)
from_section g xs (suc i) x close e h =
    ap (λ l. later_sites g (opener_in (sections_tree xs)) (sections_tree l) close) (next_of xs (suc i) x e h)
    ∙ ap (λ n. dividing_sites g (opener_in (sections_tree xs)) close.line (section_tree x) ++ sites_from g (opener_in (sections_tree xs)) n (sections_tree (drop (suc i + 1) xs)) close) (sym (next_is i))
from_section g [] zero x close e h = absurd (omega (arith, h))

module _ (g : Ground) (xs : List Section) (i : ℕ) (x : Section) (close : t.NumLine) (opener : t.LineItem) (is : opener ≡ opener_in (sections_tree xs)) (e : x ≡ get_or xs i x) (h : i < length xs) (found : Option Fault) (p : Finds found (section_sites g opener i close.line (section_tree x))) where
  -- what a section breaks, by what opens the construct
  at_section : Finds found (section_sites g (opener_in (sections_tree xs)) i close.line (section_tree x))
  at_section = p ∙ ap (λ o. rule.fault_among (section_sites g o i close.line (section_tree x))) is

  pub section_found : is_some found ≡ true
      → rule.fault_among (sites_from g (opener_in (sections_tree xs)) i (sections_tree (drop i xs)) close) ≡ rule.fault_among (first_sites g (sections_tree xs) close)
      → Finds found (first_sites g (sections_tree xs) close)
  section_found s left =
      found_first found (section_sites g (opener_in (sections_tree xs)) i close.line (section_tree x)) (sites_from g (opener_in (sections_tree xs)) (i + 1) (sections_tree (drop (i + 1) xs)) close) s at_section
      ∙ ap rule.fault_among (sym (from_section g xs i x close e h)) ∙ left

  pub section_next : is_some found ≡ false
      → rule.fault_among (sites_from g (opener_in (sections_tree xs)) i (sections_tree (drop i xs)) close) ≡ rule.fault_among (first_sites g (sections_tree xs) close)
      → rule.fault_among (sites_from g (opener_in (sections_tree xs)) (i + 1) (sections_tree (drop (i + 1) xs)) close) ≡ rule.fault_among (first_sites g (sections_tree xs) close)
  section_next s left =
      sym (ap rule.fault_among (from_section g xs i x close e h)
      ∙ passed found (section_sites g (opener_in (sections_tree xs)) i close.line (section_tree x)) (sites_from g (opener_in (sections_tree xs)) (i + 1) (sections_tree (drop (i + 1) xs)) close) s at_section)
      ∙ left

-- behind all sections stands the line that closes the construct
end_of : (g : Ground) (xs : List Section) (i : ℕ) (close : t.NumLine) → length xs ≤ i
    → sites_from g (opener_in (sections_tree xs)) i (sections_tree (drop i xs)) close ≡ (site_at g (opener_in (sections_tree xs)) close ∷ []) ∷ []
end_of g [] zero close h = refl
end_of g xs (suc i) close h = at_drop_all (λ l. later_sites g (opener_in (sections_tree xs)) (sections_tree l) close) xs (suc i) h
end_of g (y ∷ ys) zero close h = absurd (omega (arith, h))

pub sections_end : (g : Ground) (xs : List Section) (i : ℕ) (close : t.NumLine) (opener : t.LineItem) (found : Option Fault) → opener ≡ opener_in (sections_tree xs) → length xs ≤ i
    → Finds found ((site_at g opener close ∷ []) ∷ [])
    → rule.fault_among (sites_from g (opener_in (sections_tree xs)) i (sections_tree (drop i xs)) close) ≡ rule.fault_among (first_sites g (sections_tree xs) close)
    → Finds found (first_sites g (sections_tree xs) close)
sections_end g xs i close opener found is h p left =
    p ∙ ap (λ o. rule.fault_among ((site_at g o close ∷ []) ∷ [])) is ∙ ap rule.fault_among (sym (end_of g xs i close h)) ∙ left
