use Rattle.std.proofs.Common.{◌≡◌, ◌+◌, length, map, take}
use Rattle.std.specs.Io.KnownBytes.{Appends}
use Rattle.oathd_asking.specs.Table.{rows_text}
use Rattle.oathd_asking.proofs.table.write_rows.Given as goal

-- the rows so far are written
abbrev pub invariant-loop-text : goal.invariant-loop-text
invariant-loop-text g l = record {
  next : l.number ≡ l.text-index + 1;
  written : Appends (g.W.Write.contents l.fn.writer) (g.W.Write.contents l.writer)
      (rows_text l.first (length l.texts) 1 (map (λ text. text.items) (take l.text-index l.texts)));
}
