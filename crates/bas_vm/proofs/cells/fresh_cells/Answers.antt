use Rattle.std.proofs.Common.{rules, sym, ◌∙◌}
use Rattle.bas_vm.proofs.Slots.{low_zero, cells-fresh}
use Rattle.bas_vm.proofs.cells.fresh_cells.Goals as goal

pub unwrap-zero-requires : goal.unwrap-zero-requires
unwrap-zero-requires c = rw (c.of_parts.ensures, low_zero) (search rules)

pub returns : goal.returns
returns c = cells-fresh (λ v. v.items) c.vec.result c.unwrap-zero.result c.from.result c.args.slots c.vec.ensures.items_if_clones_equal (sym c.of_parts.ensures ∙ c.unwrap-zero.ensures) c.from.ensures
