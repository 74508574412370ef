-- The counted lines of a block, one statement after another.
use Rattle.std.proofs.Common.{◌≡◌, ℕ, nat_eq, Bool, true, false, ◌||◌, List, [], ◌∷◌, ◌++◌, Some, None, refl, sym, ap, ◌∙◌}
use Rattle.std.specs.List.{slice_get, list_any}
use Rattle.std.specs.Ordering.{nat_cmp}
use Rattle.std.specs.BTreeSet.{BTreeSet, IsEmpty}
use Rattle.std.specs.BTreeMap.{is_at}
use Rattle.std.proofs.lemmas.List.Folds.{list_any-append}
use Rattle.bas_ast.specs.Tree as t
use Rattle.bas_ast.specs.BlockTree.{sections_tree, section_tree, stmts_tree, block_tree}
use Rattle.bas_ast.specs.declared.block.Block.{Block, out-Block}
use Rattle.bas_ast.specs.declared.block.Stmt.{Stmt}
use Rattle.bas_ast.proofs.BlockTrees.{block_out}
use Rattle.bas_ast.specs.declared.block.Section.{Section}
use Rattle.bas_rules.specs.Jumping.{is_listed}
use Rattle.bas_rules.specs.Sites.{counted_line, counted_stmt, counted_lines}
use Rattle.bas_reach.specs.Sets.{HasNumbers, Adds}

pub first_counts : (xs : List Section) (x : Section) (close : t.NumLine) → slice_get xs 0 ≡ Some x → counted_stmt (t.Nest (sections_tree xs) close) ≡ counted_line (section_tree x).0
first_counts [] x close e = let bad : None ≡ Some x = e in absurd (cc)
first_counts (y ∷ ys) x close e = let same : y ≡ x = cc in ap (λ z. counted_line (section_tree z).0) same

pub none_counts : (xs : List Section) (close : t.NumLine) → slice_get xs 0 ≡ None → counted_stmt (t.Nest (sections_tree xs) close) ≡ []
none_counts [] close e = refl
none_counts (y ∷ ys) close e = let bad : Some y ≡ None = e in absurd (cc)

pub or_false : (b : Bool) → (b || false) ≡ b
or_false true = refl
or_false false = refl

-- at first a set is empty, then it has the last line, and then those before it
pub both_added : (fresh first set : BTreeSet ℕ) (numbers last : List ℕ) → IsEmpty fresh → Adds fresh first last → Adds first set numbers → HasNumbers set (numbers ++ last)
both_added fresh first set numbers last none one more l =
    more l
    ∙ ap (λ b. is_listed numbers l || b) (one l ∙ ap (λ ks. is_listed last l || list_any (is_at (nat_cmp l)) ks) none ∙ or_false (is_listed last l))
    ∙ sym (list_any-append (nat_eq l) numbers last)

-- a block is its statements
pub block_counts : (block : Block) (stmts : List Stmt) (set : BTreeSet ℕ) (last : List ℕ) → stmts ≡ (out-Block block).stmts → HasNumbers set (counted_lines (stmts_tree stmts) ++ last) → HasNumbers set (counted_lines (block_tree block) ++ last)
block_counts block stmts set last e has l = has l ∙ ap (λ b. is_listed (counted_lines b ++ last) l) (ap stmts_tree e ∙ sym (block_out block))

-- nothing is put behind
pub no_more : (set : BTreeSet ℕ) (numbers : List ℕ) → HasNumbers set (numbers ++ []) → HasNumbers set numbers
no_more set numbers has l = has l ∙ list_any-append (nat_eq l) numbers [] ∙ or_false (is_listed numbers l)
