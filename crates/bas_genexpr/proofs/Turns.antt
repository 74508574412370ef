-- A loop that appends code from an address on and reads sizes.
use Rattle.std.proofs.Common.{◌≡◌, ℕ, ◌+◌, ◌≤◌, List, [], ◌++◌, length, refl, sym, ap, ◌∙◌, arith, append_assoc, append-nil, length-append}
use Rattle.bas_code.specs.declared.instr.Instr.{Instr}
use Rattle.bas_genexpr.specs.Counts.{code_limit}
use Rattle.bas_genexpr.specs.Sizes.{Follows}

-- where the sizes ahead begin with those of the whole and there is room, so it is with what is left
pub record At (sizes left_sizes more : List ℕ) (left_size : ℕ) (code whole : List Instr) (left_code : ℕ → List Instr) : Type 0 where
  pub ahead : sizes ≡ left_sizes ++ more
  pub room : length code + left_size ≤ code_limit
  pub made : code ++ left_code (length code) ≡ whole

abbrev pub Turned : (initial now all_sizes left_sizes : List ℕ) → (all_size left_size : ℕ) → (old code : List Instr) → (all_code left_code : ℕ → List Instr) → Type 0
Turned initial now all_sizes left_sizes all_size left_size old code all_code left_code =
    (more : List ℕ) → initial ≡ all_sizes ++ more → length old + all_size ≤ code_limit → At now left_sizes more left_size code (old ++ all_code (length old)) left_code

pub turned_first : (sizes all_sizes : List ℕ) (all_size : ℕ) (old : List Instr) (all_code : ℕ → List Instr) → Turned sizes sizes all_sizes all_sizes all_size all_size old old all_code all_code
turned_first sizes all_sizes all_size old all_code = λ more e r. record { ahead = e; room = r; made = refl }

-- one part more
pub turned_next : (initial now new all_sizes left_sizes xs ys : List ℕ) (all_size left_size m n : ℕ) (old code code2 : List Instr) (all_code left_code piece rest_code : ℕ → List Instr) → left_sizes ≡ xs ++ ys → left_size ≡ m + n → left_code (length code) ≡ piece (length code) ++ rest_code (length code + m) → length (piece (length code)) ≡ m → Turned initial now all_sizes left_sizes all_size left_size old code all_code left_code → Follows now new xs m code code2 (piece (length code)) → Turned initial new all_sizes ys all_size n old code2 all_code rest_code
turned_next initial now new all_sizes left_sizes xs ys all_size left_size m n old code code2 all_code left_code piece rest_code es en ec el t f = λ more e r.
    let a = t more e r in
    let room : length code + m ≤ code_limit = let h = a.room in omega arith in
    let g = f (ys ++ more) (a.ahead ∙ ap (λ l. l ++ more) es ∙ append_assoc xs ys more) room in
    let len : length code2 ≡ length code + m = ap length g.1 ∙ length-append code (piece (length code)) ∙ ap (λ k. length code + k) el in
    record {
      ahead = g.0;
      room = let h = a.room in omega arith;
      made =
          ap (λ k. code2 ++ rest_code k) len
          ∙ ap (λ l. l ++ rest_code (length code + m)) g.1
          ∙ append_assoc code (piece (length code)) (rest_code (length code + m))
          ∙ ap (λ l. code ++ l) (sym ec)
          ∙ a.made;
    }

-- nothing is left
pub turned_end : (initial now all_sizes left_sizes : List ℕ) (all_size left_size : ℕ) (old code : List Instr) (all_code left_code : ℕ → List Instr) → left_sizes ≡ [] → left_code (length code) ≡ [] → Turned initial now all_sizes left_sizes all_size left_size old code all_code left_code → Follows initial now all_sizes all_size old code (all_code (length old))
turned_end initial now all_sizes left_sizes all_size left_size old code all_code left_code es ec t = λ more e r.
    let a = t more e r in
    (a.ahead ∙ ap (λ l. l ++ more) es, sym (append-nil code) ∙ ap (λ l. code ++ l) (sym ec) ∙ a.made)
