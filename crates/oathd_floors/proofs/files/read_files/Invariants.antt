use Rattle.std.proofs.Common.{map}
use Rattle.floors_file.specs.Named.{named_value}
use Rattle.oathd_floors.specs.Files.{taking_value}
use Rattle.oathd_floors.proofs.FilesLemmas.{HasFiles}
use Rattle.oathd_floors.proofs.files.read_files.Given as goal

-- the texts so far are taken
abbrev pub invariant-loop-text : goal.invariant-loop-text
invariant-loop-text l = HasFiles (taking_value l.fn.taking) (λ text. text.items) l.fn.texts (map named_value l.files.items) l.text-index
