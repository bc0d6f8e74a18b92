-- The key of a served node, and its agreement with the cluster file.
use Rattle.std.specs.Prelude.{ℕ, List, Option, None, Some}
use Rattle.std.specs.declared.net.socket_addr.SocketAddrV4.{SocketAddrV4}
use Rattle.otp_core.specs.Limits.{Limits}
use Rattle.token_file.specs.Credential.{Credential}
use Rattle.cluster_file.specs.ClusterFile.{cluster_value}
use Rattle.cluster_file.specs.Key.{shared_key_of}
use Rattle.cluster_file.specs.Shared.{Shared as AllShared, shared_of}
use Rattle.node_serving.specs.declared.node_key.NodeKey.{NodeKey}
use Rattle.node_serving.specs.declared.node_key.NodeKey.TheVariants.{Own, Shared}

-- The key under which a node with the tokens of `book` tags its datagrams. It is the cluster's own key, or the shared
-- key, which is derived from it, the cluster file and the tokens.
abbrev pub tag_key : NodeKey → List Credential → List ℕ
tag_key (Own key) book = key
tag_key (Shared key cluster) book = shared_key_of key (shared_of (cluster_value cluster.now) book)

-- the cluster's own key
abbrev pub own_key : NodeKey → List ℕ
own_key (Own key) = key
own_key (Shared key cluster) = key

-- what a node with a cluster file shares with the nodes that it hears
abbrev pub shared_by : NodeKey → List Credential → Option AllShared
shared_by (Own key) book = None
shared_by (Shared key cluster) book = Some (shared_of (cluster_value cluster.now) book)

-- the settings of the cluster file, or, without one, the node's own
abbrev pub agreed_settings : NodeKey → Limits → Limits
agreed_settings (Own key) settings = settings
agreed_settings (Shared key cluster) settings = cluster.now.settings

-- the members of the cluster file, or, without one, the node's own
abbrev pub agreed_members : NodeKey → List SocketAddrV4 → List SocketAddrV4
agreed_members (Own key) members = members
agreed_members (Shared key cluster) members = cluster.now.members.items
