use Rattle.std.proofs.Common.{map}
use Rattle.floors_file.specs.Floors.{floors_value}
use Rattle.oathd_database.proofs.LostLemmas.{HasFiles}
use Rattle.oathd_database.proofs.gather.read_files.Given as goal

-- the texts so far are read
abbrev pub invariant-loop-text : goal.invariant-loop-text
invariant-loop-text l = HasFiles (λ text. text.items) l.fn.texts (map floors_value l.files.items) l.text-index
