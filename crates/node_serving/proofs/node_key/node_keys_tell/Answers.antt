use Rattle.node_serving.proofs.KeyLemmas.{tags_apart, tags_own, tags_shared}
use Rattle.node_serving.proofs.node_key.node_keys_tell.Goals as goal

pub returns-clause-own : goal.returns-clause-own
returns-clause-own c = tags_own

pub returns-clause-shared : goal.returns-clause-shared
returns-clause-shared c = tags_shared

pub returns-clause-apart : goal.returns-clause-apart
returns-clause-apart c = tags_apart
