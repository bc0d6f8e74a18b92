use Rattle.std.proofs.Common.{◌≡◌, take}
use Rattle.token_names.proofs.NamesLemmas.{HasAll}
use Rattle.token_names.specs.Names.{AreDistinct, names_of}
use Rattle.token_names.proofs.names.names_of.Given as goal

-- the names of the rows so far, all different, are in the list and in the set
abbrev pub invariant-loop-row : goal.invariant-loop-row
invariant-loop-row l =
    record {
      listed : l.names.items ≡ names_of l.salt (take l.row l.book);
      has : HasAll l.seen (names_of l.salt (take l.row l.book));
      distinct : AreDistinct (names_of l.salt (take l.row l.book));
    }
