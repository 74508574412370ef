use Rattle.std.proofs.Common.{◌≡◌, ◌∙◌, sym, ap, map, List, Result, Ok, Err}
use Rattle.bas_ast.specs.UnitTree.{unit_tree}
use Rattle.bas_ast.specs.declared.unit.Unit.{Unit as SourceUnit}
use Rattle.bas_block.specs.Files.{plain_units, units_of}
use Rattle.bas_block.proofs.FileLaws.{only_units, no_units}
use Rattle.bas_block.proofs.file.units_of.Goals as goal

pub returns-in-Ok-clause-only : goal.returns-in-Ok-clause-only
returns-in-Ok-clause-only c other h =
    only_units c.args.file.now (map unit_tree c.into_items.result.items) other
    (sym c.in_ok-units.ensures ∙ ap plain_units c.in-Ok.is ∙ ap (λ (us : List SourceUnit). Ok (map unit_tree us)) (sym c.into_items.ensures)) h

pub returns-in-Err-clause-none : goal.returns-in-Err-clause-none
returns-in-Err-clause-none c f units bad h = absurd (no_units c.args.file.now c.in-Err.fault units (sym c.in_ok-units.ensures ∙ ap plain_units c.in-Err.is) h)
