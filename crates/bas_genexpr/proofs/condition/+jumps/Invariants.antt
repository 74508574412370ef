-- What was appended and read, with what is left, is what the whole has.
use Rattle.std.proofs.Common.{◌≡◌, ◌+◌, drop, length}
use Rattle.bas_ast.specs.ConditionTree.{conjs_tree, tests_tree}
use Rattle.bas_carry.specs.Codes.{conjs_size, tests_size}
use Rattle.bas_genexpr.specs.Numbering.{variables}
use Rattle.bas_genexpr.specs.Jumps.{conjs_code, tests_code}
use Rattle.bas_genexpr.specs.Sizes.{conjs_sizes, tests_sizes}
use Rattle.bas_genexpr.proofs.Turns.{Turned}
use Rattle.bas_genexpr.proofs.condition.+jumps.Given as goal

abbrev pub invariant-put_conjs-loop-next : goal.invariant-put_conjs-loop-next
invariant-put_conjs-loop-next l =
    record {
      count : l.left + l.next-index ≡ length l.rest;
      state : Turned l.initial.sizes l.sizes (conjs_sizes (conjs_tree l.rest)) (conjs_sizes (conjs_tree (drop l.next-index l.rest))) (conjs_size (conjs_tree l.rest)) (conjs_size (conjs_tree (drop l.next-index l.rest))) l.initial.code l.code (λ from. conjs_code (variables l.slots) l.aim.wanted (conjs_tree l.rest) from l.inner l.aim.to) (λ from. conjs_code (variables l.slots) l.aim.wanted (conjs_tree (drop l.next-index l.rest)) from l.inner l.aim.to);
    }

abbrev pub invariant-put_tests-loop-next : goal.invariant-put_tests-loop-next
invariant-put_tests-loop-next l =
    record {
      count : l.left + l.next-index ≡ length l.rest;
      state : Turned l.initial.sizes l.sizes (tests_sizes (tests_tree l.rest)) (tests_sizes (tests_tree (drop l.next-index l.rest))) (tests_size (tests_tree l.rest)) (tests_size (tests_tree (drop l.next-index l.rest))) l.initial.code l.code (λ from. tests_code (variables l.slots) l.aim.wanted (tests_tree l.rest) from l.inner l.aim.to) (λ from. tests_code (variables l.slots) l.aim.wanted (tests_tree (drop l.next-index l.rest)) from l.inner l.aim.to);
    }
