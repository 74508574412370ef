-- The sizes ahead are those of the condition alone.
use Rattle.std.proofs.Common.{[], ◌++◌, sym, ap, ◌∙◌, append-nil}
use Rattle.std.proofs.lemmas.Result.{on_ok_weaker}
use Rattle.bas_ast.specs.ConditionTree.{cond_tree}
use Rattle.bas_genexpr.specs.Sizes.{cond_sizes}
use Rattle.bas_genexpr.proofs.condition.put_condition.Goals as goal

pub returns : goal.returns
returns c =
    on_ok_weaker c.put_cond.result
    (λ f. (f [] (c.of-sizes.ensures ∙ c.in_ok-list_cond.ensures.listed ∙ ap (λ l. l ++ cond_sizes (cond_tree c.args.c.now)) c.new-listed.ensures.items ∙ sym (append-nil (cond_sizes (cond_tree c.args.c.now)))) c.requires.room).1)
    c.put_cond.ensures
