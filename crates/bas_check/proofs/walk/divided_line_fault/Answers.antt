-- The least rule that is broken, at its line.
use Rattle.bas_ast.specs.BlockTree.{item_tree, line_tree}
use Rattle.bas_check.proofs.Finding.{line_found}
use Rattle.bas_check.proofs.walk.divided_line_fault.Goals as goal

pub returns : goal.returns
returns c = λ g h.
    line_found c.fault_at.result c.in_ok-rule.rule g (item_tree c.args.opener.now) (line_tree c.args.line.now) c.fault_at.ensures (c.in_ok-rule.ensures g h.place)
