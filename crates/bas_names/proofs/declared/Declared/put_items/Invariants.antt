-- What is put, and the items that are left.
use Rattle.std.proofs.Common.{◌≡◌, ℕ, List, map, drop}
use Rattle.std.specs.Option.{option_or}
use Rattle.std.specs.List.{find}
use Rattle.std.specs.Str.{bytes_eq}
use Rattle.bas_ast.specs.DeclarationTree.{declared_tree}
use Rattle.bas_names.specs.Tables.{item_in}
use Rattle.bas_names.proofs.declared.Declared.put_items.Given as goal

abbrev pub invariant-loop-item : goal.invariant-loop-item
invariant-loop-item l = (name : List ℕ)
    → option_or (item_in l.self name) (find (λ item. bytes_eq name item.name) (map declared_tree (drop l.item-index l.items)))
    ≡ option_or (item_in l.initial.self name) (find (λ item. bytes_eq name item.name) (map declared_tree l.items))
