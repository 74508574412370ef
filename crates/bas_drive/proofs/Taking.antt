-- What a sink took, where that is all of a text or nothing.
use Rattle.std.proofs.Common.{ℕ, List, [], Option, Some, None, refl, sym, ap, append-nil}
use Rattle.bas_vm.specs.Took.{TookAll, TookPrefix}

-- nothing was taken
pub TookAll-none : (before : Option (List ℕ)) → TookAll before before []
TookAll-none None = refl
TookAll-none (Some taken) = ap (λ t. Some t) (sym (append-nil taken))

-- nothing was taken of any text
pub TookPrefix-none : (before : Option (List ℕ)) (text : List ℕ) → TookPrefix before before text
TookPrefix-none before text = record { part = []; rest = text; whole = refl; took = TookAll-none before }

-- all of a text is some of it
pub TookPrefix-all : (before now : Option (List ℕ)) (text : List ℕ) → TookAll before now text → TookPrefix before now text
TookPrefix-all before now text took = record { part = text; rest = []; whole = append-nil text; took = took }
