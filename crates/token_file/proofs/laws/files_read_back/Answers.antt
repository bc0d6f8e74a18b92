use Rattle.token_file.proofs.WrittenFileLemmas.{file_is_read, file_is_short}
use Rattle.token_file.proofs.laws.files_read_back.Goals as goal

pub returns : goal.returns
returns c = record { read = file_is_read; short = file_is_short }
