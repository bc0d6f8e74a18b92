-- The words of a command, and what they ask for.
use Rattle.std.proofs.Common.{◌≡◌, refl, sym, subst, ℕ, List, Ok, length}
use Rattle.std.specs.Prelude.{Result, Bool}
use Rattle.std.specs.Borrow.{Bor}
use Rattle.std.specs.declared.net.socket_addr.SocketAddrV4.{SocketAddrV4}
use Rattle.std.specs.Global.{Vec}
use Rattle.sqlite.specs.Store.{Ghosts}
use Rattle.sqlite.specs.Held as sql
use Rattle.otp_core.specs.Limits.{Limits}
use Rattle.vote_core.specs.NodeSet.{PlaceRecord}
use Rattle.cluster_file.specs.ClusterFile.{cluster_of, cluster_value}
use Rattle.cluster_file.specs.Said.{key_place}
use Rattle.cluster_file.specs.declared.cluster.Cluster.{Cluster}
use Rattle.oathd_words.specs.declared.store_words.ClientWords.{ClientWords}
use Rattle.oathd_words.specs.declared.store_words.ClientWords.TheVariants as client_words
use Rattle.oathd_words.specs.declared.store_words.ClusterWords.{ClusterWords}
use Rattle.oathd_words.specs.declared.store_words.ClusterWords.TheVariants.{Given, Named}
use Rattle.node_serving.specs.declared.serving.Serving.{Serving}
use Rattle.oathd_tasks.specs.Check.{IsKeyIn}
use Rattle.node_serving.specs.Serving.{IsOfMember}
use Rattle.node_serving.specs.declared.gate.ClientLines.{ClientLines}
use Rattle.node_serving.specs.declared.gate.ClientLines.TheVariants.{Of}
use Rattle.oathd_tasks.specs.Clients.{HasClients}
use Rattle.clients_file.specs.declared.clients.Clients.{Clients}
use Rattle.node_serving.specs.declared.node_key.NodeKey.TheVariants.{Own}
use Rattle.oathd_serving.specs.Ends.{EndsSo, names_asked}
use Rattle.oathd_serving.specs.Serve.{AreLinesOf, IsAskedFor, IsMemberOf, IsRunOf, ServeEndsSo}
use Rattle.oathd_site.specs.declared.fault.Fault.{Fault}

-- the lines of clients in the file that the words name
pub lines_in_file : (words : ClientWords) (path : Bor (List ℕ)) (clients : Clients) → words ≡ client_words.Named path → HasClients clients
    → AreLinesOf words (Of clients)
lines_in_file words path clients named has = subst (λ said. AreLinesOf said (Of clients)) (sym named) (clients, has, refl)

-- the member at its place of the described cluster, with the run that the words name
pub member_asked : (node : ℕ) (text : List ℕ) (turns : ℕ) (is_logged : Bool) (clients : ClientWords) (serving : Serving) (cluster : Bor Cluster)
    (own : List ℕ) (place : PlaceRecord) (lines : ClientLines) → cluster_of text ≡ Ok (cluster_value cluster.now) → IsKeyIn (key_place cluster.now.key) own
    → place ≡ record { me = node; n = length cluster.now.members.items } → AreLinesOf clients lines
    → IsOfMember cluster own place serving × (serving.turns ≡ turns) × (serving.is_logged ≡ is_logged) × (serving.lines ≡ lines)
    → IsMemberOf node text serving × IsRunOf turns is_logged clients serving
member_asked node text turns is_logged clients serving cluster own place lines said key_is at are made = (
  record {
    cluster = cluster;
    of_text = said;
    own = own;
    of_key = key_is;
    of_member = subst (λ (p : PlaceRecord). IsOfMember cluster own p serving) at made.0;
  },
  record {
    for_turns = made.1;
    with_log = made.2;
    of_lines = subst (λ (taken : ClientLines). AreLinesOf clients taken) (sym made.3) are;
  },
)

-- the node that the words describe, with the run that they name
pub node_asked : (cluster : ClusterWords) (settings : Limits) (place : PlaceRecord) (members : Vec SocketAddrV4) (path : Bor (List ℕ)) (turns : ℕ)
    (is_logged : Bool) (clients : ClientWords) (text : List ℕ) (serving : Serving) (own : List ℕ) → cluster ≡ Given settings place members path
    → serving.settings ≡ settings → serving.place ≡ place → serving.members.items ≡ members.items → serving.key ≡ Own own → serving.turns ≡ turns
    → serving.is_logged ≡ is_logged → AreLinesOf clients serving.lines → IsAskedFor cluster turns is_logged clients text serving
node_asked cluster settings place members path turns is_logged clients text serving own is a b c d e f h =
    subst (λ (words : ClusterWords). IsAskedFor words turns is_logged clients text serving) (sym is) (
      record { of_settings = a; of_place = b; of_members = c; own = own; of_key = d },
      record { for_turns = e; with_log = f; of_lines = h },
    )

module _ {S : Type 0} (g : Ghosts S) (finds : sql.Held S → Type 0) where
  -- a node that the text of the named cluster file describes
  pub named_ends : (cluster : ClusterWords) (node : ℕ) (path : Bor (List ℕ)) (turns : ℕ) (is_logged : Bool) (clients : ClientWords) (text : List ℕ)
      (result : Result Unit Fault) → cluster ≡ Named node path
      → EndsSo g finds (IsAskedFor (Named node path) turns is_logged clients text) text (names_asked (Named node path) text) result
      → EndsSo g finds (IsAskedFor cluster turns is_logged clients text) text (names_asked cluster text) result
  named_ends cluster node path turns is_logged clients text result is h =
      subst (λ (words : ClusterWords). EndsSo g finds (IsAskedFor words turns is_logged clients text) text (names_asked words text) result) (sym is) h

  -- a node that the words describe has no names
  pub given_ends : (cluster : ClusterWords) (settings : Limits) (place : PlaceRecord) (members : Vec SocketAddrV4) (path : Bor (List ℕ)) (turns : ℕ)
      (is_logged : Bool) (clients : ClientWords) (text : List ℕ) (result : Result Unit Fault) → cluster ≡ Given settings place members path
      → ServeEndsSo g finds (IsAskedFor cluster turns is_logged clients text) result
      → EndsSo g finds (IsAskedFor cluster turns is_logged clients text) text (names_asked cluster text) result
  given_ends cluster settings place members path turns is_logged clients text result is h =
      subst (λ (words : ClusterWords). ServeEndsSo g finds (IsAskedFor words turns is_logged clients text) result
      → EndsSo g finds (IsAskedFor words turns is_logged clients text) text (names_asked words text) result) (sym is) (λ same. same) h
