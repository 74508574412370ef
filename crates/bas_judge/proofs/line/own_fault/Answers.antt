-- Each rule as its test tells.
use Rattle.std.proofs.Common.{◌∙◌}
use Rattle.bas_ast.specs.BlockTree.{item_tree, line_tree}
use Rattle.bas_rules.specs.Sites.{site_at}
use Rattle.bas_judge.proofs.Lines.{row_is}
use Rattle.bas_judge.proofs.line.own_fault.Goals as goal

pub returns : goal.returns
returns c = λ ground stands.
    let opener = item_tree c.args.opener.now in
    c.first_broken.ensures
    ∙ row_is (site_at ground opener (line_tree c.args.line.now)) (c.in_ok-is_declared_twice.ensures opener ground stands) c.has_wrong_kind.ensures
    (c.jumps_into_block.ensures opener ground stands) (c.gosub_into_block.ensures opener ground stands)
    (c.exits_nothing.ensures opener ground stands) (c.resumes_nothing.ensures opener ground stands)
    (c.handler_is_not_one.ensures opener ground stands) (c.counts_by_wrong_variable.ensures ground stands)
    c.has_bad_case.ensures c.has_type_out_of_bounds.ensures
    (c.has_bounds_out_of_range.ensures opener ground stands) (c.has_late_option.ensures opener ground stands)
    (c.restores_no_data.ensures opener ground stands) (c.is_out_of_module.ensures opener ground stands)
    c.has_bad_attributes.ensures c.lists_too_many.ensures c.awaits_what_never_comes.ensures
    (c.chains_in_initial_part.ensures opener ground stands) c.has_program_formal.ensures
