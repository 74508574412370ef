-- What is left tells of the whole.
use Rattle.std.proofs.Common.{◌≡◌, drop}
use Rattle.bas_ast.specs.BlockTree.{line_tree, sections_tree, stmts_tree}
use Rattle.bas_rules.specs.Sites.{Ground, block_sites, first_sites}
use Rattle.bas_rules.specs.Well.{fault_among}
use Rattle.bas_check.specs.Walks.{WalksOn, opener_in, sites_from}
use Rattle.bas_check.proofs.block.+walks.Given as goal

abbrev pub invariant-stmts_fault-loop-stmt : goal.invariant-stmts_fault-loop-stmt
invariant-stmts_fault-loop-stmt l = (g : Ground) → WalksOn l.walk g
    → fault_among (block_sites g (stmts_tree (drop l.stmt-index l.stmts))) ≡ fault_among (block_sites g (stmts_tree l.stmts))

abbrev pub invariant-nest_fault-loop-i : goal.invariant-nest_fault-loop-i
invariant-nest_fault-loop-i l = (g : Ground) → WalksOn l.walk g
    → fault_among (sites_from g (opener_in (sections_tree l.sections)) l.i (sections_tree (drop l.i l.sections)) (line_tree l.close))
    ≡ fault_among (first_sites g (sections_tree l.sections) (line_tree l.close))
