-- Sizes that are listed before those of the parts.
use Rattle.std.proofs.Common.{◌≡◌, ℕ, ◌+◌, List, [], ◌∷◌, ◌++◌, length, sym, ap, ◌∙◌, subst, arith, append-nil}
use Rattle.std.specs.Prelude.{slice_set}
use Rattle.std.proofs.Math.Seq.{set-append_seam}
use Rattle.bas_ast.specs.Tree as t
use Rattle.bas_ast.specs.ConditionTree.{cond_tree, conj_tree, test_tree, conjs_tree, tests_tree}
use Rattle.bas_ast.specs.declared.condition.Cond.{Cond, out-Cond}
use Rattle.bas_ast.specs.declared.condition.Conj.{Conj, out-Conj}
use Rattle.bas_ast.specs.declared.condition.Test.{Test}
use Rattle.bas_ast.proofs.ConditionTrees.{cond_out, conj_out}
use Rattle.bas_carry.specs.Codes.{expr_size, cond_size, conjs_size, conj_size, tests_size, test_size}
use Rattle.bas_genexpr.specs.Counts.{counted}
use Rattle.bas_genexpr.specs.Sizes.{cond_sizes, conjs_sizes, conj_sizes, tests_sizes, test_sizes, Sized}
use Rattle.bas_genexpr.proofs.Pieces.{three}
use Rattle.bas_genexpr.proofs.CountLemmas.{counted_two}

headed : (old pushed s1 s2 xs ys : List ℕ) (at a b n x y : ℕ) → at ≡ length old → pushed ≡ old ++ 0 ∷ [] → Sized pushed s1 a x xs → Sized s1 s2 b y ys → n ≡ counted (a + b) → Sized old (slice_set s2 at n) n (x + y) (counted (x + y) ∷ (xs ++ ys))
headed old pushed s1 s2 xs ys at a b n x y l p q r e =
    let same : n ≡ counted (x + y) = counted_two x y a b n q.same r.same e in
    record {
      same = same;
      listed =
          ap (λ s. slice_set s at n) (three old pushed s1 s2 (0 ∷ []) xs ys p q.listed r.listed)
          ∙ ap (λ k. slice_set (old ++ 0 ∷ (xs ++ ys)) k n) l
          ∙ set-append_seam old 0 (xs ++ ys) n
          ∙ ap (λ k. old ++ k ∷ (xs ++ ys)) same;
    }

pub cond_listed : (c : Cond) (rest : List Conj) (old pushed s1 s2 : List ℕ) (at a b n : ℕ) → rest ≡ (out-Cond c).rest → at ≡ length old → pushed ≡ old ++ 0 ∷ [] → Sized pushed s1 a (conj_size (conj_tree (out-Cond c).first)) (conj_sizes (conj_tree (out-Cond c).first)) → Sized s1 s2 b (conjs_size (conjs_tree rest)) (conjs_sizes (conjs_tree rest)) → n ≡ counted (a + b) → Sized old (slice_set s2 at n) n (cond_size (cond_tree c)) (cond_sizes (cond_tree c))
cond_listed c rest old pushed s1 s2 at a b n g l p q r e =
    subst (λ x. Sized old (slice_set s2 at n) n (cond_size x) (cond_sizes x)) (sym (cond_out c))
    (headed old pushed s1 s2 _ _ at a b n (conj_size (conj_tree (out-Cond c).first)) (conjs_size (conjs_tree (out-Cond c).rest)) l p q (subst (λ x. Sized s1 s2 b (conjs_size (conjs_tree x)) (conjs_sizes (conjs_tree x))) g r) e)

pub conj_listed : (c : Conj) (rest : List Test) (old pushed s1 s2 : List ℕ) (at a b n : ℕ) → rest ≡ (out-Conj c).rest → at ≡ length old → pushed ≡ old ++ 0 ∷ [] → Sized pushed s1 a (test_size (test_tree (out-Conj c).first)) (test_sizes (test_tree (out-Conj c).first)) → Sized s1 s2 b (tests_size (tests_tree rest)) (tests_sizes (tests_tree rest)) → n ≡ counted (a + b) → Sized old (slice_set s2 at n) n (conj_size (conj_tree c)) (conj_sizes (conj_tree c))
conj_listed c rest old pushed s1 s2 at a b n g l p q r e =
    subst (λ x. Sized old (slice_set s2 at n) n (conj_size x) (conj_sizes x)) (sym (conj_out c))
    (headed old pushed s1 s2 _ _ at a b n (test_size (test_tree (out-Conj c).first)) (tests_size (tests_tree (out-Conj c).rest)) l p q (subst (λ x. Sized s1 s2 b (tests_size (tests_tree x)) (tests_sizes (tests_tree x))) g r) e)

pub compare_listed : (x y : t.Expr) (rel : t.Rel) (old : List ℕ) (a b m n : ℕ) → a ≡ counted (expr_size x) → b ≡ counted (expr_size y) → m ≡ counted (a + b) → n ≡ counted (m + 2) → Sized old old n (test_size (t.Compare x rel y)) (test_sizes (t.Compare x rel y))
compare_listed x y rel old a b m n p q r s =
    let e : n ≡ counted (expr_size x + (expr_size y + 2)) = omega arith in
    record { same = e; listed = sym (append-nil old) }
