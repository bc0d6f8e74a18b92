use Rattle.std.proofs.Common.{refl, ap}
use Rattle.otp_core.specs.Gate.{clear_gate}
use Rattle.floor_store.specs.Records.{RowRecord}
use Rattle.vote_core.specs.Rows.{no_row, row, row_with_gate}
use Rattle.oath_node.proofs.RefusalLemmas.{cleared, elsewhere, gate_alone}
use Rattle.oath_node.proofs.unlock_laws.unlocks_change_one_gate.Goals as goal

pub returns-clause-floors : goal.returns-clause-floors
returns-clause-floors c node token = gate_alone node.content token clear_gate

pub returns-clause-others : goal.returns-clause-others
returns-clause-others c node token other ne =
    ap (λ (w : RowRecord). w.gate) (elsewhere node.content.rows token other (row_with_gate clear_gate (row node.content token)) no_row ne)

pub returns-clause-cleared : goal.returns-clause-cleared
returns-clause-cleared c node token = cleared node.content.rows token (row_with_gate clear_gate (row node.content token)) refl
