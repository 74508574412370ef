use Rattle.bas_block.proofs.FileLaws.{all_files_are_read}
use Rattle.bas_block.proofs.law.file_law.Goals as goal

pub returns-clause-whole : goal.returns-clause-whole
returns-clause-whole c file units h = all_files_are_read file units h
