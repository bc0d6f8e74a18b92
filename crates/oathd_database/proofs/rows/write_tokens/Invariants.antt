use Rattle.std.proofs.Common.{take}
use Rattle.std.specs.Io.KnownBytes.{Appends}
use Rattle.oathd_database.specs.Text.{rows_text}
use Rattle.oathd_database.proofs.rows.write_tokens.Given as goal

-- the tokens so far are written
abbrev pub invariant-loop-token : goal.invariant-loop-token
invariant-loop-token g l =
    let held = g.S.FloorStore.held l.store in
    held.is_clean → Appends (g.W.Write.contents l.fn.writer) (g.W.Write.contents l.writer)
    (rows_text g.T.RowText.text_of (take l.token l.book) (take l.token held.content.rows))
