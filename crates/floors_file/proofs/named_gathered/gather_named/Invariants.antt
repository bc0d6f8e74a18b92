use Rattle.std.proofs.Common.{◌≡◌, [], map, take}
use Rattle.floors_file.specs.Named.{named_value}
use Rattle.floors_file.specs.NamedGathered.{with_files}
use Rattle.floors_file.proofs.named_gathered.gather_named.Given as goal

-- the rows of the files so far are gathered
abbrev pub invariant-loop-file : goal.invariant-loop-file
invariant-loop-file l = l.gathered ≡ with_files [] (map named_value (take l.file-index l.files))
