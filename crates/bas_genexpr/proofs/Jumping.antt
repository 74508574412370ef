-- The code of a condition, from left to right, is the code of the condition.
use Rattle.std.proofs.Common.{◌≡◌, ℕ, suc, ◌+◌, ◌≤◌, Bool, true, false, List, [], ◌∷◌, ◌++◌, length, refl, sym, ap, ◌∙◌, subst, arith, append_assoc, append-nil, length-append, drop, length-drop}
use Rattle.std.specs.Prelude.{not, ◌==◌}
use Rattle.std.proofs.lemmas.Bool.{ne_eqb}
use Rattle.bas_ast.specs.Tree as t
use Rattle.bas_ast.specs.ConditionTree.{cond_tree, conj_tree, test_tree, conjs_tree, tests_tree}
use Rattle.bas_ast.specs.declared.condition.Cond.{Cond, out-Cond}
use Rattle.bas_ast.specs.declared.condition.Conj.{Conj, out-Conj}
use Rattle.bas_ast.specs.declared.condition.Test.{Test}
use Rattle.bas_ast.proofs.ConditionTrees.{cond_out, conj_out}
use Rattle.bas_mean.specs.World.{Variable}
use Rattle.bas_code.specs.declared.instr.Instr.{Instr}
use Rattle.bas_code.specs.declared.instr.Instr.TheVariants as instr
use Rattle.bas_code.specs.declared.instr.CompareInstr.TheVariants as compare
use Rattle.bas_carry.specs.Conditions.{relation_of}
use Rattle.bas_carry.specs.Codes.{expr_code, cond_size, conjs_size, conj_size, tests_size, test_size, unless_any_code, if_any_code, unless_each_code, if_each_code, unless_all_code, if_all_code, unless_test_code, if_test_code}
use Rattle.bas_carry.proofs.Lengths.{unless_all_length, if_all_length, unless_test_length, if_test_length}
use Rattle.bas_genexpr.specs.Counts.{code_limit, counted}
use Rattle.bas_genexpr.specs.Jumps.{chosen, is_last_conj, is_last_test, jump_on, jump_code, jump_conj_code, jump_test_code, conjs_code, tests_code}
use Rattle.bas_genexpr.specs.Sizes.{IsNext, Follows, cond_sizes, conjs_sizes, conj_sizes, tests_sizes, test_sizes}
use Rattle.bas_genexpr.proofs.Pieces.{two, four}
use Rattle.bas_genexpr.proofs.Readings.{next_is}
use Rattle.bas_genexpr.proofs.Turns.{Turned, turned_next}

empty_last_conj : (xs : List Conj) → (length xs == 0) ≡ is_last_conj (conjs_tree xs)
empty_last_conj [] = refl
empty_last_conj (x ∷ xs) = ne_eqb (suc (length xs)) 0 (λ e. cc)

empty_last_test : (xs : List Test) → (length xs == 0) ≡ is_last_test (tests_tree xs)
empty_last_test [] = refl
empty_last_test (x ∷ xs) = ne_eqb (suc (length xs)) 0 (λ e. cc)

module _ (order : List Variable) where
  jump_conj_length : (w : Bool) (c : t.Conj) (from a : ℕ) → length (jump_conj_code order w c from a) ≡ conj_size c
  jump_conj_length true c from a = if_all_length order c from a
  jump_conj_length false c from a = unless_all_length order c from a

  jump_test_length : (w : Bool) (c : t.Test) (from a : ℕ) → length (jump_test_code order w c from a) ≡ test_size c
  jump_test_length true c from a = if_test_length order c from a
  jump_test_length false c from a = unless_test_length order c from a

  any_unless : (rest : t.Conjs) (first : t.Conj) (from to a : ℕ) → unless_any_code order (unless_all_code order first) (if_all_code order first) (conj_size first) rest from to a ≡ jump_conj_code order (chosen (is_last_conj rest) false true) first from (chosen (is_last_conj rest) a to) ++ conjs_code order false rest (from + conj_size first) to a
  any_unless t.NoConjs first from to a = sym (append-nil (unless_all_code order first from a))
  any_unless (t.MoreConjs next rest) first from to a = ap (λ l. if_all_code order first from to ++ l) (any_unless rest next (from + conj_size first) to a)

  any_if : (rest : t.Conjs) (first : t.Conj) (from a : ℕ) → if_any_code order (if_all_code order first) (conj_size first) rest from a ≡ jump_conj_code order (chosen (is_last_conj rest) true true) first from (chosen (is_last_conj rest) a a) ++ conjs_code order true rest (from + conj_size first) a a
  any_if t.NoConjs first from a = sym (append-nil (if_all_code order first from a))
  any_if (t.MoreConjs next rest) first from a = ap (λ l. if_all_code order first from a ++ l) (any_if rest next (from + conj_size first) a)

  each_unless : (rest : t.Tests) (first : t.Test) (from a : ℕ) → unless_each_code order (unless_test_code order first) (test_size first) rest from a ≡ jump_test_code order (chosen (is_last_test rest) false false) first from (chosen (is_last_test rest) a a) ++ tests_code order false rest (from + test_size first) a a
  each_unless t.NoTests first from a = sym (append-nil (unless_test_code order first from a))
  each_unless (t.MoreTests next rest) first from a = ap (λ l. unless_test_code order first from a ++ l) (each_unless rest next (from + test_size first) a)

  each_if : (rest : t.Tests) (first : t.Test) (from to a : ℕ) → if_each_code order (unless_test_code order first) (if_test_code order first) (test_size first) rest from to a ≡ jump_test_code order (chosen (is_last_test rest) true false) first from (chosen (is_last_test rest) a to) ++ tests_code order true rest (from + test_size first) to a
  each_if t.NoTests first from to a = sym (append-nil (if_test_code order first from a))
  each_if (t.MoreTests next rest) first from to a = ap (λ l. unless_test_code order first from to ++ l) (each_if rest next (from + test_size first) to a)

  any_parts : (w : Bool) (first : t.Conj) (rest : t.Conjs) (from a : ℕ) → jump_code order w (t.AnyOf first rest) from a ≡ jump_conj_code order (chosen (is_last_conj rest) w true) first from (chosen (is_last_conj rest) a (chosen w a (from + (conj_size first + conjs_size rest)))) ++ conjs_code order w rest (from + conj_size first) (chosen w a (from + (conj_size first + conjs_size rest))) a
  any_parts true first rest from a = any_if rest first from a
  any_parts false first rest from a = any_unless rest first from (from + (conj_size first + conjs_size rest)) a

  all_parts : (w : Bool) (first : t.Test) (rest : t.Tests) (from a : ℕ) → jump_conj_code order w (t.AllOf first rest) from a ≡ jump_test_code order (chosen (is_last_test rest) w false) first from (chosen (is_last_test rest) a (chosen w (from + (test_size first + tests_size rest)) a)) ++ tests_code order w rest (from + test_size first) (chosen w (from + (test_size first + tests_size rest)) a) a
  all_parts true first rest from a = each_if rest first from (from + (test_size first + tests_size rest)) a
  all_parts false first rest from a = each_unless rest first from a

  any_glued : (w : Bool) (first : t.Conj) (rest : t.Conjs) (from a inner a1 m : ℕ) (w1 : Bool) → inner ≡ chosen w a (from + (conj_size first + conjs_size rest)) → w1 ≡ chosen (is_last_conj rest) w true → a1 ≡ chosen (is_last_conj rest) a inner → m ≡ from + conj_size first → jump_conj_code order w1 first from a1 ++ conjs_code order w rest m inner a ≡ jump_code order w (t.AnyOf first rest) from a
  any_glued w first rest from a inner a1 m w1 ei ew ea em =
      ap (λ x. jump_conj_code order x first from a1 ++ conjs_code order w rest m inner a) ew
      ∙ ap (λ x. jump_conj_code order (chosen (is_last_conj rest) w true) first from x ++ conjs_code order w rest m inner a) ea
      ∙ ap (λ x. jump_conj_code order (chosen (is_last_conj rest) w true) first from (chosen (is_last_conj rest) a inner) ++ conjs_code order w rest x inner a) em
      ∙ ap (λ x. jump_conj_code order (chosen (is_last_conj rest) w true) first from (chosen (is_last_conj rest) a x) ++ conjs_code order w rest (from + conj_size first) x a) ei
      ∙ sym (any_parts w first rest from a)

  all_glued : (w : Bool) (first : t.Test) (rest : t.Tests) (from a inner a1 m : ℕ) (w1 : Bool) → inner ≡ chosen w (from + (test_size first + tests_size rest)) a → w1 ≡ chosen (is_last_test rest) w false → a1 ≡ chosen (is_last_test rest) a inner → m ≡ from + test_size first → jump_test_code order w1 first from a1 ++ tests_code order w rest m inner a ≡ jump_conj_code order w (t.AllOf first rest) from a
  all_glued w first rest from a inner a1 m w1 ei ew ea em =
      ap (λ x. jump_test_code order x first from a1 ++ tests_code order w rest m inner a) ew
      ∙ ap (λ x. jump_test_code order (chosen (is_last_test rest) w false) first from x ++ tests_code order w rest m inner a) ea
      ∙ ap (λ x. jump_test_code order (chosen (is_last_test rest) w false) first from (chosen (is_last_test rest) a inner) ++ tests_code order w rest x inner a) em
      ∙ ap (λ x. jump_test_code order (chosen (is_last_test rest) w false) first from (chosen (is_last_test rest) a x) ++ tests_code order w rest (from + test_size first) x a) ei
      ∙ sym (all_parts w first rest from a)

  any_follows : (w : Bool) (a : ℕ) (first : t.Conj) (rest : t.Conjs) (s0 s1 s2 s3 : List ℕ) (n end inner a1 : ℕ) (w1 : Bool) (old mid new : List Instr) → IsNext s0 n s1 → (length old + n ≤ code_limit → end ≡ length old + n) → inner ≡ chosen w a end → w1 ≡ chosen (is_last_conj rest) w true → a1 ≡ chosen (is_last_conj rest) a inner → Follows s1 s2 (conj_sizes first) (conj_size first) old mid (jump_conj_code order w1 first (length old) a1) → Follows s2 s3 (conjs_sizes rest) (conjs_size rest) mid new (conjs_code order w rest (length mid) inner a) → Follows s0 s3 (cond_sizes (t.AnyOf first rest)) (cond_size (t.AnyOf first rest)) old new (jump_code order w (t.AnyOf first rest) (length old) a)
  any_follows w a first rest s0 s1 s2 s3 n end inner a1 w1 old mid new i h ei ew ea f g = λ more e r.
      let nx = next_is s0 s1 ((conj_sizes first ++ conjs_sizes rest) ++ more) n (counted (conj_size first + conjs_size rest)) e i in
      let same : n ≡ conj_size first + conjs_size rest = let q = nx.0 in omega arith in
      let ends : end ≡ length old + (conj_size first + conjs_size rest) = h (omega arith) ∙ ap (λ k. length old + k) same in
      let one = f (conjs_sizes rest ++ more) (nx.1 ∙ append_assoc (conj_sizes first) (conjs_sizes rest) more) (omega arith) in
      let len : length mid ≡ length old + conj_size first = ap length one.1 ∙ length-append old (jump_conj_code order w1 first (length old) a1) ∙ ap (λ k. length old + k) (jump_conj_length w1 first (length old) a1) in
      let both = g more one.0 (omega arith) in
      (both.0, two old mid new _ _ one.1 both.1 ∙ ap (λ l. old ++ l) (any_glued w first rest (length old) a inner a1 (length mid) w1 (ei ∙ ap (chosen w a) ends) ew ea len))

  all_follows : (w : Bool) (a : ℕ) (first : t.Test) (rest : t.Tests) (s0 s1 s2 s3 : List ℕ) (n end inner a1 : ℕ) (w1 : Bool) (old mid new : List Instr) → IsNext s0 n s1 → (length old + n ≤ code_limit → end ≡ length old + n) → inner ≡ chosen w end a → w1 ≡ chosen (is_last_test rest) w false → a1 ≡ chosen (is_last_test rest) a inner → Follows s1 s2 (test_sizes first) (test_size first) old mid (jump_test_code order w1 first (length old) a1) → Follows s2 s3 (tests_sizes rest) (tests_size rest) mid new (tests_code order w rest (length mid) inner a) → Follows s0 s3 (conj_sizes (t.AllOf first rest)) (conj_size (t.AllOf first rest)) old new (jump_conj_code order w (t.AllOf first rest) (length old) a)
  all_follows w a first rest s0 s1 s2 s3 n end inner a1 w1 old mid new i h ei ew ea f g = λ more e r.
      let nx = next_is s0 s1 ((test_sizes first ++ tests_sizes rest) ++ more) n (counted (test_size first + tests_size rest)) e i in
      let same : n ≡ test_size first + tests_size rest = let q = nx.0 in omega arith in
      let ends : end ≡ length old + (test_size first + tests_size rest) = h (omega arith) ∙ ap (λ k. length old + k) same in
      let one = f (tests_sizes rest ++ more) (nx.1 ∙ append_assoc (test_sizes first) (tests_sizes rest) more) (omega arith) in
      let len : length mid ≡ length old + test_size first = ap length one.1 ∙ length-append old (jump_test_code order w1 first (length old) a1) ∙ ap (λ k. length old + k) (jump_test_length w1 first (length old) a1) in
      let both = g more one.0 (omega arith) in
      (both.0, two old mid new _ _ one.1 both.1 ∙ ap (λ l. old ++ l) (all_glued w first rest (length old) a inner a1 (length mid) w1 (ei ∙ ap (λ k. chosen w k a) ends) ew ea len))

  pub cond_follows : (w : Bool) (a : ℕ) (c : Cond) (rest : List Conj) (s0 s1 s2 s3 : List ℕ) (n end inner a1 : ℕ) (b w1 : Bool) (old mid new : List Instr) → rest ≡ (out-Cond c).rest → IsNext s0 n s1 → (length old + n ≤ code_limit → end ≡ length old + n) → inner ≡ chosen w a end → b ≡ (length rest == 0) → w1 ≡ chosen b w true → a1 ≡ chosen b a inner → Follows s1 s2 (conj_sizes (conj_tree (out-Cond c).first)) (conj_size (conj_tree (out-Cond c).first)) old mid (jump_conj_code order w1 (conj_tree (out-Cond c).first) (length old) a1) → Follows s2 s3 (conjs_sizes (conjs_tree rest)) (conjs_size (conjs_tree rest)) mid new (conjs_code order w (conjs_tree rest) (length mid) inner a) → Follows s0 s3 (cond_sizes (cond_tree c)) (cond_size (cond_tree c)) old new (jump_code order w (cond_tree c) (length old) a)
  cond_follows w a c rest s0 s1 s2 s3 n end inner a1 b w1 old mid new er i h ei eb ew ea f g =
      let last : b ≡ is_last_conj (conjs_tree rest) = eb ∙ empty_last_conj rest in
      let P : t.Cond → Type 0 = λ x. Follows s0 s3 (cond_sizes x) (cond_size x) old new (jump_code order w x (length old) a) in
      subst P (ap (λ x. t.AnyOf (conj_tree (out-Cond c).first) (conjs_tree x)) er ∙ sym (cond_out c))
      (any_follows w a (conj_tree (out-Cond c).first) (conjs_tree rest) s0 s1 s2 s3 n end inner a1 w1 old mid new i h ei (ew ∙ ap (λ x. chosen x w true) last) (ea ∙ ap (λ x. chosen x a inner) last) f g)

  pub conj_follows : (w : Bool) (a : ℕ) (c : Conj) (rest : List Test) (s0 s1 s2 s3 : List ℕ) (n end inner a1 : ℕ) (b w1 : Bool) (old mid new : List Instr) → rest ≡ (out-Conj c).rest → IsNext s0 n s1 → (length old + n ≤ code_limit → end ≡ length old + n) → inner ≡ chosen w end a → b ≡ (length rest == 0) → w1 ≡ chosen b w false → a1 ≡ chosen b a inner → Follows s1 s2 (test_sizes (test_tree (out-Conj c).first)) (test_size (test_tree (out-Conj c).first)) old mid (jump_test_code order w1 (test_tree (out-Conj c).first) (length old) a1) → Follows s2 s3 (tests_sizes (tests_tree rest)) (tests_size (tests_tree rest)) mid new (tests_code order w (tests_tree rest) (length mid) inner a) → Follows s0 s3 (conj_sizes (conj_tree c)) (conj_size (conj_tree c)) old new (jump_conj_code order w (conj_tree c) (length old) a)
  conj_follows w a c rest s0 s1 s2 s3 n end inner a1 b w1 old mid new er i h ei eb ew ea f g =
      let last : b ≡ is_last_test (tests_tree rest) = eb ∙ empty_last_test rest in
      let P : t.Conj → Type 0 = λ x. Follows s0 s3 (conj_sizes x) (conj_size x) old new (jump_conj_code order w x (length old) a) in
      subst P (ap (λ x. t.AllOf (test_tree (out-Conj c).first) (tests_tree x)) er ∙ sym (conj_out c))
      (all_follows w a (test_tree (out-Conj c).first) (tests_tree rest) s0 s1 s2 s3 n end inner a1 w1 old mid new i h ei (ew ∙ ap (λ x. chosen x w false) last) (ea ∙ ap (λ x. chosen x a inner) last) f g)

  -- a turn of the loop over what OR joins
  pub conjs_turn : (w : Bool) (inner a : ℕ) (initial now new : List ℕ) (old code code2 : List Instr) (xs : List Conj) (i k : ℕ) (x : Conj) (b w1 : Bool) (a1 : ℕ) → drop i xs ≡ x ∷ drop (i + 1) xs → k + (i + 1) ≡ length xs → b ≡ (k == 0) → w1 ≡ chosen b w true → a1 ≡ chosen b a inner
      → Turned initial now (conjs_sizes (conjs_tree xs)) (conjs_sizes (conjs_tree (drop i xs))) (conjs_size (conjs_tree xs)) (conjs_size (conjs_tree (drop i xs))) old code (λ from. conjs_code order w (conjs_tree xs) from inner a) (λ from. conjs_code order w (conjs_tree (drop i xs)) from inner a)
      → Follows now new (conj_sizes (conj_tree x)) (conj_size (conj_tree x)) code code2 (jump_conj_code order w1 (conj_tree x) (length code) a1)
      → Turned initial new (conjs_sizes (conjs_tree xs)) (conjs_sizes (conjs_tree (drop (i + 1) xs))) (conjs_size (conjs_tree xs)) (conjs_size (conjs_tree (drop (i + 1) xs))) old code2 (λ from. conjs_code order w (conjs_tree xs) from inner a) (λ from. conjs_code order w (conjs_tree (drop (i + 1) xs)) from inner a)
  conjs_turn w inner a initial now new old code code2 xs i k x b w1 a1 e count eb ew ea turned f =
      let more = drop (i + 1) xs in
      let size : k ≡ length more = let d = length-drop (i + 1) xs in omega arith in
      let last : b ≡ is_last_conj (conjs_tree more) = eb ∙ ap (λ n. n == 0) size ∙ empty_last_conj more in
      let tree : conjs_tree (drop i xs) ≡ t.MoreConjs (conj_tree x) (conjs_tree more) = ap conjs_tree e in
      turned_next initial now new (conjs_sizes (conjs_tree xs)) (conjs_sizes (conjs_tree (drop i xs))) (conj_sizes (conj_tree x)) (conjs_sizes (conjs_tree more)) (conjs_size (conjs_tree xs)) (conjs_size (conjs_tree (drop i xs))) (conj_size (conj_tree x)) (conjs_size (conjs_tree more)) old code code2
      (λ from. conjs_code order w (conjs_tree xs) from inner a) (λ from. conjs_code order w (conjs_tree (drop i xs)) from inner a) (λ from. jump_conj_code order w1 (conj_tree x) from a1) (λ from. conjs_code order w (conjs_tree more) from inner a)
      (ap conjs_sizes tree) (ap conjs_size tree)
      (ap (λ y. conjs_code order w y (length code) inner a) tree
      ∙ ap (λ y. jump_conj_code order y (conj_tree x) (length code) (chosen (is_last_conj (conjs_tree more)) a inner) ++ conjs_code order w (conjs_tree more) (length code + conj_size (conj_tree x)) inner a) (sym (ew ∙ ap (λ y. chosen y w true) last))
      ∙ ap (λ y. jump_conj_code order w1 (conj_tree x) (length code) y ++ conjs_code order w (conjs_tree more) (length code + conj_size (conj_tree x)) inner a) (sym (ea ∙ ap (λ y. chosen y a inner) last)))
      (jump_conj_length w1 (conj_tree x) (length code) a1)
      turned f

  -- a turn of the loop over what AND joins
  pub tests_turn : (w : Bool) (inner a : ℕ) (initial now new : List ℕ) (old code code2 : List Instr) (xs : List Test) (i k : ℕ) (x : Test) (b w1 : Bool) (a1 : ℕ) → drop i xs ≡ x ∷ drop (i + 1) xs → k + (i + 1) ≡ length xs → b ≡ (k == 0) → w1 ≡ chosen b w false → a1 ≡ chosen b a inner
      → Turned initial now (tests_sizes (tests_tree xs)) (tests_sizes (tests_tree (drop i xs))) (tests_size (tests_tree xs)) (tests_size (tests_tree (drop i xs))) old code (λ from. tests_code order w (tests_tree xs) from inner a) (λ from. tests_code order w (tests_tree (drop i xs)) from inner a)
      → Follows now new (test_sizes (test_tree x)) (test_size (test_tree x)) code code2 (jump_test_code order w1 (test_tree x) (length code) a1)
      → Turned initial new (tests_sizes (tests_tree xs)) (tests_sizes (tests_tree (drop (i + 1) xs))) (tests_size (tests_tree xs)) (tests_size (tests_tree (drop (i + 1) xs))) old code2 (λ from. tests_code order w (tests_tree xs) from inner a) (λ from. tests_code order w (tests_tree (drop (i + 1) xs)) from inner a)
  tests_turn w inner a initial now new old code code2 xs i k x b w1 a1 e count eb ew ea turned f =
      let more = drop (i + 1) xs in
      let size : k ≡ length more = let d = length-drop (i + 1) xs in omega arith in
      let last : b ≡ is_last_test (tests_tree more) = eb ∙ ap (λ n. n == 0) size ∙ empty_last_test more in
      let tree : tests_tree (drop i xs) ≡ t.MoreTests (test_tree x) (tests_tree more) = ap tests_tree e in
      turned_next initial now new (tests_sizes (tests_tree xs)) (tests_sizes (tests_tree (drop i xs))) (test_sizes (test_tree x)) (tests_sizes (tests_tree more)) (tests_size (tests_tree xs)) (tests_size (tests_tree (drop i xs))) (test_size (test_tree x)) (tests_size (tests_tree more)) old code code2
      (λ from. tests_code order w (tests_tree xs) from inner a) (λ from. tests_code order w (tests_tree (drop i xs)) from inner a) (λ from. jump_test_code order w1 (test_tree x) from a1) (λ from. tests_code order w (tests_tree more) from inner a)
      (ap tests_sizes tree) (ap tests_size tree)
      (ap (λ y. tests_code order w y (length code) inner a) tree
      ∙ ap (λ y. jump_test_code order y (test_tree x) (length code) (chosen (is_last_test (tests_tree more)) a inner) ++ tests_code order w (tests_tree more) (length code + test_size (test_tree x)) inner a) (sym (ew ∙ ap (λ y. chosen y w false) last))
      ∙ ap (λ y. jump_test_code order w1 (test_tree x) (length code) y ++ tests_code order w (tests_tree more) (length code + test_size (test_tree x)) inner a) (sym (ea ∙ ap (λ y. chosen y a inner) last)))
      (jump_test_length w1 (test_tree x) (length code) a1)
      turned f

  pub not_jumps : (w v : Bool) (x : t.Test) (from a : ℕ) → v ≡ not w → jump_test_code order v x from a ≡ jump_test_code order w (t.Not x) from a
  not_jumps true v x from a e = ap (λ y. jump_test_code order y x from a) e
  not_jumps false v x from a e = ap (λ y. jump_test_code order y x from a) e

  pub group_jumps : (w : Bool) (x : t.Cond) (from a : ℕ) → jump_code order w x from a ≡ jump_test_code order w (t.CondGroup x) from a
  group_jumps true x from a = refl
  group_jumps false x from a = refl

  compare_jumps : (w : Bool) (x y : t.Expr) (rel : t.Rel) (from a : ℕ) → expr_code order x ++ (expr_code order y ++ (instr.Compare (compare.CompareNum (relation_of rel)) ∷ jump_on w a ∷ [])) ≡ jump_test_code order w (t.Compare x rel y) from a
  compare_jumps true x y rel from a = refl
  compare_jumps false x y rel from a = refl

  pub compare_follows : (w : Bool) (x y : t.Expr) (rel : t.Rel) (a : ℕ) (sizes : List ℕ) (old c1 c2 c3 new : List Instr) → c1 ≡ old ++ expr_code order x → c2 ≡ c1 ++ expr_code order y → c3 ≡ c2 ++ instr.Compare (compare.CompareNum (relation_of rel)) ∷ [] → new ≡ c3 ++ jump_on w a ∷ [] → Follows sizes sizes (test_sizes (t.Compare x rel y)) (test_size (t.Compare x rel y)) old new (jump_test_code order w (t.Compare x rel y) (length old) a)
  compare_follows w x y rel a sizes old c1 c2 c3 new p q r s = λ more e h.
      (e, four old c1 c2 c3 new _ _ _ _ p q r s ∙ ap (λ l. old ++ l) (compare_jumps w x y rel (length old) a))
