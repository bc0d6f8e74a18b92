use Rattle.token_file.proofs.WritingLemmas.{row_is_imported, row_is_line, row_is_read, row_is_short}
use Rattle.token_file.proofs.laws.rows_read_back.Goals as goal

pub returns-clause-row : goal.returns-clause-row
returns-clause-row c = row_is_read

pub returns-clause-lines : goal.returns-clause-lines
returns-clause-lines c = row_is_line

pub returns-clause-import : goal.returns-clause-import
returns-clause-import c = row_is_imported

pub returns-clause-short : goal.returns-clause-short
returns-clause-short c = row_is_short
