use Rattle.std.proofs.Common.{sym, ◌∙◌}
use Rattle.bas_line.proofs.WholeLaws.{data_is, cut_is, found_by, only_by, value_by, no_item}
use Rattle.bas_line.proofs.whole_line.line_item.Goals as goal

pub returns-in-Some-clause-found : goal.returns-in-Some-clause-found
returns-in-Some-clause-found c = found_by c.args.line.now _ c.data_line.result (data_is c.args.line.now c.in-Some.behind (sym c.data_word.ensures.value ∙ c.in-Some.is)) c.data_line.ensures.found

pub returns-in-Some-clause-only : goal.returns-in-Some-clause-only
returns-in-Some-clause-only c = only_by c.args.line.now _ c.data_line.result (data_is c.args.line.now c.in-Some.behind (sym c.data_word.ensures.value ∙ c.in-Some.is)) c.data_line.ensures.found

pub returns-in-Some-clause-value : goal.returns-in-Some-clause-value
returns-in-Some-clause-value c = value_by c.args.line.now _ c.data_line.result (data_is c.args.line.now c.in-Some.behind (sym c.data_word.ensures.value ∙ c.in-Some.is)) c.data_line.ensures.found

pub returns-in-Some-clause-none : goal.returns-in-Some-clause-none
returns-in-Some-clause-none c e item is = no_item c.args.line.now (data_is c.args.line.now c.in-Some.behind (sym c.data_word.ensures.value ∙ c.in-Some.is) ∙ c.data_line.ensures.none e) item is

pub returns-in-Some-clause-no_value : goal.returns-in-Some-clause-no_value
returns-in-Some-clause-no_value c e = data_is c.args.line.now c.in-Some.behind (sym c.data_word.ensures.value ∙ c.in-Some.is) ∙ c.data_line.ensures.none e

pub returns-in-None-clause-found : goal.returns-in-None-clause-found
returns-in-None-clause-found c = found_by c.args.line.now _ c.cut_item.result (cut_is c.args.line.now (sym c.data_word.ensures.value ∙ c.in-None.is)) c.cut_item.ensures.found

pub returns-in-None-clause-only : goal.returns-in-None-clause-only
returns-in-None-clause-only c = only_by c.args.line.now _ c.cut_item.result (cut_is c.args.line.now (sym c.data_word.ensures.value ∙ c.in-None.is)) c.cut_item.ensures.found

pub returns-in-None-clause-value : goal.returns-in-None-clause-value
returns-in-None-clause-value c = value_by c.args.line.now _ c.cut_item.result (cut_is c.args.line.now (sym c.data_word.ensures.value ∙ c.in-None.is)) c.cut_item.ensures.found

pub returns-in-None-clause-none : goal.returns-in-None-clause-none
returns-in-None-clause-none c e item is = no_item c.args.line.now (cut_is c.args.line.now (sym c.data_word.ensures.value ∙ c.in-None.is) ∙ c.cut_item.ensures.none e) item is

pub returns-in-None-clause-no_value : goal.returns-in-None-clause-no_value
returns-in-None-clause-no_value c e = cut_is c.args.line.now (sym c.data_word.ensures.value ∙ c.in-None.is) ∙ c.cut_item.ensures.none e
