-- The sizes of a condition and of the conditions in it, each before those of its parts.
use Rattle.std.specs.Prelude.{◌≡◌, ℕ, ◌+◌, ◌≤◌, List, [], ◌∷◌, ◌++◌, length}
use Rattle.bas_ast.specs.Tree.{Cond, AnyOf, Conjs, NoConjs, MoreConjs, Conj, AllOf, Tests, NoTests, MoreTests, Test, Not, CondGroup, Compare}
use Rattle.bas_carry.specs.Codes.{cond_size, conj_size}
use Rattle.bas_genexpr.specs.Counts.{code_limit, counted}

abbrev mutual
  -- a condition, before those that OR joins
  pub cond_sizes : Cond → List ℕ
  cond_sizes (AnyOf first rest) = counted (cond_size (AnyOf first rest)) ∷ (conj_sizes first ++ conjs_sizes rest)

  -- the conditions behind the first OR
  pub conjs_sizes : Conjs → List ℕ
  conjs_sizes NoConjs = []
  conjs_sizes (MoreConjs next rest) = conj_sizes next ++ conjs_sizes rest

  -- conditions joined by AND, before those
  pub conj_sizes : Conj → List ℕ
  conj_sizes (AllOf first rest) = counted (conj_size (AllOf first rest)) ∷ (test_sizes first ++ tests_sizes rest)

  -- the conditions behind the first AND
  pub tests_sizes : Tests → List ℕ
  tests_sizes NoTests = []
  tests_sizes (MoreTests next rest) = test_sizes next ++ tests_sizes rest

  -- a relation has no conditions in it
  pub test_sizes : Test → List ℕ
  test_sizes (Not t) = test_sizes t
  test_sizes (CondGroup c) = cond_sizes c
  test_sizes (Compare a rel b) = []

-- the first of a list was taken off it
abbrev pub IsNext : (old : List ℕ) → (n : ℕ) → (new : List ℕ) → Type 0
IsNext [] n new = Unit {0}
IsNext (x ∷ xs) n new = (n ≡ x) × (new ≡ xs)

-- a size was counted, and the sizes of its parts were put behind those before them
pub record Sized (old new : List ℕ) (size whole : ℕ) (sizes : List ℕ) : Type 0 where
  pub same : size ≡ counted whole
  pub listed : new ≡ old ++ sizes

-- where the sizes ahead begin with these and there is room, they were read and the code was appended
abbrev pub Follows : {A : Type 0} → (ahead left sizes : List ℕ) → (size : ℕ) → (old new made : List A) → Type 0
Follows ahead left sizes size old new made =
    (rest : List ℕ) → ahead ≡ sizes ++ rest → length old + size ≤ code_limit → (left ≡ rest) × (new ≡ old ++ made)
