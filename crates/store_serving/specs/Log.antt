-- The log of a node that is served by names.
use Rattle.std.specs.Prelude.{ℕ, ◌-◌, List, length}
use Rattle.named_store.specs.declared.opening.RowCounts.{RowCounts}
use Rattle.node_log.specs.declared.text.Roster.{Roster}
use Rattle.token_file.specs.Credential.{Credential}

-- the content of the line of a store's rows; a row is retired that no token of the book has
abbrev pub roster_at : RowCounts → List Credential → List ℕ → Roster
roster_at counts book print = record {
  rows = counts.all;
  enrolled = counts.enrolled;
  retired = counts.all - length book;
  book = print;
}
