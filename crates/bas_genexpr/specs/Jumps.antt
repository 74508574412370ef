-- The code of a condition with a jump where it is true, or where it is false; and the same again,
-- told from left to right: each part but the last one jumps to the end of the whole or to the target.
use Rattle.std.specs.Prelude.{ℕ, ◌+◌, Bool, true, false, List, [], ◌++◌}
use Rattle.bas_ast.specs.Tree.{Cond, Conjs, NoConjs, MoreConjs, Conj, Tests, NoTests, MoreTests, Test}
use Rattle.bas_mean.specs.World.{Variable}
use Rattle.bas_code.specs.declared.instr.Instr.{Instr}
use Rattle.bas_code.specs.declared.instr.Instr.TheVariants as instr
use Rattle.bas_code.specs.declared.instr.JumpInstr.TheVariants as jump
use Rattle.bas_carry.specs.Codes.{conj_size, test_size, unless_code, if_code, unless_all_code, if_all_code, unless_test_code, if_test_code}

-- the jump on a truth that is the wanted one
abbrev pub jump_on : (wanted : Bool) → (a : ℕ) → Instr
jump_on true a = instr.Jump (jump.JumpTrue a)
jump_on false a = instr.Jump (jump.JumpFalse a)

-- whether a part has none behind it
abbrev pub is_last_conj : Conjs → Bool
is_last_conj NoConjs = true
is_last_conj (MoreConjs next rest) = false

abbrev pub is_last_test : Tests → Bool
is_last_test NoTests = true
is_last_test (MoreTests next rest) = false

-- the last of several is as the whole, the others are not
abbrev pub chosen : {A : Type 0} → (last : Bool) → A → A → A
chosen true whole other = whole
chosen false whole other = other

module _ (order : List Variable) where
  -- a condition from an address, with a jump to another one where its truth is the wanted one
  abbrev pub jump_code : (wanted : Bool) → Cond → (from a : ℕ) → List Instr
  jump_code true c from a = if_code order c from a
  jump_code false c from a = unless_code order c from a

  -- conditions joined by AND
  abbrev pub jump_conj_code : (wanted : Bool) → Conj → (from a : ℕ) → List Instr
  jump_conj_code true c from a = if_all_code order c from a
  jump_conj_code false c from a = unless_all_code order c from a

  -- a test
  abbrev pub jump_test_code : (wanted : Bool) → Test → (from a : ℕ) → List Instr
  jump_test_code true t from a = if_test_code order t from a
  jump_test_code false t from a = unless_test_code order t from a

  -- what stands behind the first OR: all but the last jump to the inner address where they are true
  abbrev pub conjs_code : (wanted : Bool) → Conjs → (from inner a : ℕ) → List Instr
  conjs_code wanted NoConjs from inner a = []
  conjs_code wanted (MoreConjs next rest) from inner a =
      jump_conj_code (chosen (is_last_conj rest) wanted true) next from (chosen (is_last_conj rest) a inner) ++ conjs_code wanted rest (from + conj_size next) inner a

  -- what stands behind the first AND: all but the last jump to the inner address where they are false
  abbrev pub tests_code : (wanted : Bool) → Tests → (from inner a : ℕ) → List Instr
  tests_code wanted NoTests from inner a = []
  tests_code wanted (MoreTests next rest) from inner a =
      jump_test_code (chosen (is_last_test rest) wanted false) next from (chosen (is_last_test rest) a inner) ++ tests_code wanted rest (from + test_size next) inner a
