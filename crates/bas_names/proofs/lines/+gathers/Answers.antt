-- Each part pushes its lines.
use Rattle.std.proofs.Common.{refl}
use Rattle.bas_ast.proofs.BlockTrees.{stmt_single, stmt_nest, block_out}
use Rattle.bas_names.proofs.Walking.{pushed, section_pushed, section_left_out}
use Rattle.bas_names.proofs.lines.+gathers.Goals as goal

pub push_block-returns : goal.push_block-returns
push_block-returns t c = rw (block_out, ← c.as_slice.ensures) c.push_stmts.ensures

pub push_stmt-returns-in_ok-push-in-Single : goal.push_stmt-returns-in_ok-push-in-Single
push_stmt-returns-in_ok-push-in-Single t c = rw (c.in-Single.is, stmt_single) (pushed c.args.lines.now.items c.push.new.self.items _ c.in_ok-push-in-Single.ensures.items)

pub push_stmt-returns-in-Nest : goal.push_stmt-returns-in-Nest
push_stmt-returns-in-Nest t c = rw (c.in-Nest.is, stmt_nest, ← c.as_slice.ensures) c.push_sections.ensures

pub push_section-returns-in_ok-push_block : goal.push_section-returns-in_ok-push_block
push_section-returns-in_ok-push_block t c =
    section_pushed c.args.section.now c.args.inside c.opens_procedure.result c.args.lines.now.items c.push.new.self.items c.push_block.new.lines.items _
    c.opens_procedure.ensures c.in_ok-push.ensures.items refl c.in_ok-push_block.ensures c.if-not-left_out.true

pub push_section-returns-else-not-left_out : goal.push_section-returns-else-not-left_out
push_section-returns-else-not-left_out t c =
    section_left_out c.args.section.now c.args.inside c.opens_procedure.result c.args.lines.now.items c.push.new.self.items _
    c.opens_procedure.ensures c.in_ok-push.ensures.items refl c.if-not-left_out.false
