use Rattle.std.proofs.Common.{map, string_bytes}
use Rattle.bas_drive.specs.Answer.{answer_of, command_of}
use Rattle.bas_drive.proofs.Headlines.{answers_told, exactly, report_prefix, line_of_answer, told_usage, told_no_command, told_built, told_store_fault, told_output_fault, store_fault_is_rose, output_fault_is_rose, store_fault_is_told, output_fault_is_told}
use Rattle.bas_drive.proofs.top.basic_words.Goals as goal

pub returns-clause-exact : goal.returns-clause-exact
returns-clause-exact g c =
    exactly (λ files input. answer_of (map string_bytes c.args.words.now) files input) (g.S.Store.files c.args.store.now) _ _ _ _ c.perform-ending.result c.write_report.result _ _ _ _ _ _
    c.perform-ending.ensures.does c.write_report.ensures.told c.perform-ending.ensures.store c.perform-ending.ensures.output c.write_report.ensures.counted

pub returns-clause-answered : goal.returns-clause-answered
returns-clause-answered g c =
    answers_told (λ files input. answer_of (map string_bytes c.args.words.now) files input) (g.S.Store.files c.args.store.now) _ _ _ _ c.perform-ending.result c.write_report.result c.perform-ending.ensures.does c.write_report.ensures.told

pub returns-clause-one_report_line : goal.returns-clause-one_report_line
returns-clause-one_report_line g c = report_prefix (map string_bytes c.args.words.now) _ _ c.perform-ending.result c.write_report.result c.perform-ending.ensures.ends c.write_report.ensures.told

pub returns-clause-line_of_answer : goal.returns-clause-line_of_answer
returns-clause-line_of_answer g c =
    line_of_answer (λ files input. answer_of (map string_bytes c.args.words.now) files input) (g.S.Store.files c.args.store.now) _ _ _ _ c.perform-ending.result c.write_report.result c.perform-ending.ensures.does c.write_report.ensures.told

pub returns-clause-usage : goal.returns-clause-usage
returns-clause-usage g c = told_usage (command_of (map string_bytes c.args.words.now)) _ _ c.perform-ending.result c.write_report.result c.perform-ending.ensures.ends c.write_report.ensures.told

pub returns-clause-no_command : goal.returns-clause-no_command
returns-clause-no_command g c = told_no_command (command_of (map string_bytes c.args.words.now)) _ _ c.perform-ending.result c.write_report.result c.perform-ending.ensures.ends c.write_report.ensures.told

pub returns-clause-built_statuses : goal.returns-clause-built_statuses
returns-clause-built_statuses g c = told_built _ _ c.perform-ending.result c.write_report.result c.write_report.ensures.told

pub returns-clause-store_fault : goal.returns-clause-store_fault
returns-clause-store_fault g c = λ is. c.perform-ending.ensures.store.rises (told_store_fault _ _ c.perform-ending.result c.write_report.result c.write_report.ensures.told is)

pub returns-clause-output_fault : goal.returns-clause-output_fault
returns-clause-output_fault g c = λ is. c.perform-ending.ensures.output.rises (told_output_fault _ _ c.perform-ending.result c.write_report.result c.write_report.ensures.told is)

pub returns-clause-store_rose : goal.returns-clause-store_rose
returns-clause-store_rose g c = λ rose. store_fault_is_rose _ _ c.perform-ending.result c.write_report.result _ _ c.write_report.ensures.told c.perform-ending.ensures.store rose

pub returns-clause-output_rose : goal.returns-clause-output_rose
returns-clause-output_rose g c = λ rose. output_fault_is_rose _ _ c.perform-ending.result c.write_report.result _ _ c.write_report.ensures.told c.perform-ending.ensures.output rose

pub returns-clause-store_fault_told : goal.returns-clause-store_fault_told
returns-clause-store_fault_told g c = λ is. store_fault_is_told _ _ c.perform-ending.result c.write_report.result c.write_report.ensures.told is

pub returns-clause-output_fault_told : goal.returns-clause-output_fault_told
returns-clause-output_fault_told g c = λ is. output_fault_is_told _ _ c.perform-ending.result c.write_report.result c.write_report.ensures.told is
