-- What was counted and listed, with what is left, is what the whole has.
use Rattle.std.proofs.Common.{◌≡◌, ◌+◌, ◌++◌, ◌≤◌, drop}
use Rattle.bas_ast.specs.ConditionTree.{conjs_tree, tests_tree}
use Rattle.bas_carry.specs.Codes.{conjs_size, tests_size}
use Rattle.bas_genexpr.specs.Counts.{counted}
use Rattle.bas_genexpr.specs.Sizes.{conjs_sizes, tests_sizes}
use Rattle.bas_genexpr.proofs.listing.+lists.Given as goal

abbrev pub invariant-list_conjs-loop-next : goal.invariant-list_conjs-loop-next
invariant-list_conjs-loop-next l =
    record {
      within : l.size ≤ 65536;
      same : counted (l.size + conjs_size (conjs_tree (drop l.next-index l.rest))) ≡ counted (conjs_size (conjs_tree l.rest));
      listed : l.sizes.items ++ conjs_sizes (conjs_tree (drop l.next-index l.rest)) ≡ l.initial.sizes.items ++ conjs_sizes (conjs_tree l.rest);
    }

abbrev pub invariant-list_tests-loop-next : goal.invariant-list_tests-loop-next
invariant-list_tests-loop-next l =
    record {
      within : l.size ≤ 65536;
      same : counted (l.size + tests_size (tests_tree (drop l.next-index l.rest))) ≡ counted (tests_size (tests_tree l.rest));
      listed : l.sizes.items ++ tests_sizes (tests_tree (drop l.next-index l.rest)) ≡ l.initial.sizes.items ++ tests_sizes (tests_tree l.rest);
    }
