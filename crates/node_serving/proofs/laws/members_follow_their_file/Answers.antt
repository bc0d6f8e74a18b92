use Rattle.std.proofs.Common.{ap}
use Rattle.node_serving.specs.NodeKey.{tag_key}
use Rattle.node_serving.specs.declared.node_key.NodeKey.{NodeKey}
use Rattle.node_serving.proofs.laws.members_follow_their_file.Goals as goal

pub returns-clause-settings : goal.returns-clause-settings
returns-clause-settings c cluster key place serving is = is.of_settings

pub returns-clause-place : goal.returns-clause-place
returns-clause-place c cluster key place serving is = is.of_place

pub returns-clause-members : goal.returns-clause-members
returns-clause-members c cluster key place serving is = is.of_members

pub returns-clause-key : goal.returns-clause-key
returns-clause-key c cluster key place serving book is = ap (λ (k : NodeKey). tag_key k book) is.of_key
