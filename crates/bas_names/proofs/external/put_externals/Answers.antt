-- One more procedure is put.
use Rattle.std.proofs.Common.{ℕ, List, [], ◌∷◌, map, refl, arith}
use Rattle.bas_scope.specs.Scope.{Meaning, external}
use Rattle.bas_names.proofs.Putting.{leaves_more, leaves_end}
use Rattle.bas_names.proofs.external.put_externals.Goals as goal

pub loop-name-preserved : goal.loop-name-preserved
loop-name-preserved c = λ outer has.
    let entry : List ℕ → List ℕ × Meaning = λ name. (name, external outer c.args.kind name) in
    leaves_more (λ xs. map entry xs) (λ x. entry x ∷ []) (λ x xs. refl) c.args.names.now c.loop-name.name-index c.name-item.result c.args.table.now c.loop-name.table c.put_external.new.table _
    c.name-item.is (omega arith) (c.loop-name.invariant outer has) (c.in_ok-put_external.ensures outer has)

pub returns : goal.returns
returns c = λ outer has.
    let entry : List ℕ → List ℕ × Meaning = λ name. (name, external outer c.args.kind name) in
    leaves_end (λ xs. map entry xs) refl c.args.names.now c.loop-name.name-index c.args.table.now c.loop-name.table _ (omega arith) (c.loop-name.invariant outer has)
