-- What the commands over a database have done.
use Rattle.std.proofs.Common.{◌≡◌, ◌∙◌, ap, sym, subst, ℕ, List, Option, None, Some, length}
use Rattle.std.specs.Borrow.{Bor}
use Rattle.std.specs.Prelude.{Result, Ok, Err, IfOk}
use Rattle.std.specs.Option.{option_map}
use Rattle.std.specs.Io.KnownBytes.{Appends}
use Rattle.sqlite.specs.Store.{Ghosts}
use Rattle.sqlite.specs.Held as sql
use Rattle.sqlite.specs.State.{HasCleanDisk}
use Rattle.otp_core.specs.Limits.{Limits, default_limits}
use Rattle.otp_core.specs.Range.{IsMoment}
use Rattle.floor_sql.specs.Held.{SqlHeld}
use Rattle.vote_core.specs.NodeSet.{PlaceRecord}
use Rattle.cluster_file.specs.ClusterFile.{cluster_of, cluster_value}
use Rattle.cluster_file.specs.declared.cluster.Cluster.{Cluster}
use Rattle.oathd_words.specs.declared.former_words.FormerWords.{FormerWords}
use Rattle.oathd_words.specs.declared.store_words.Owner.{Owner}
use Rattle.oathd_database.specs.Commands.{HasMade}
use Rattle.oathd_database.specs.Floors.{HasToldFloors}
use Rattle.oathd_database.specs.Level.{HasLevelled}
use Rattle.oathd_database.specs.Lost.{HasRemade}
use Rattle.oathd_database.specs.Made.{HasMadeMember, store_line}
use Rattle.oathd_database.specs.declared.lost.LostNode.{LostNode}
use Rattle.cluster_file.specs.Said.{key_place}
use Rattle.oathd_roster.specs.declared.cluster.NamedCluster.{NamedCluster}
use Rattle.oathd_tasks.specs.Check.{IsKeyIn}
use Rattle.oathd_site.proofs.NamesLemmas.{member_at}
use Rattle.oathd_acts.specs.Plain.{AreFloorsTold, AreFloorsToldBy, AreMembersFloorsTold, IsCreated, IsLevelled, IsLevelledBy, IsLostNodeOf, IsMemberCreated, IsMemberReplaced, IsMigratedBy, IsMomentOf, IsReplaced, IsReplacedBy, IsReplacedSo}
use Rattle.oathd_acts.specs.Named.{AreNamedFloorsTold, IsRemadeByNames}
use Rattle.oathd_site.specs.Names.{AreNamesIn}
use Rattle.oathd_site.specs.Names.{place_in}
use Rattle.oathd_site.specs.declared.fault.Fault.{Fault}

module _ {V : Type 0} (items : V → List ℕ) (taken : Option (Bor (List ℕ))) (given : Option V) where
  -- the nodes that are named
  pub lost_named : (slice : Bor (List ℕ)) (nodes : V) → given ≡ Some nodes → slice.now ≡ items nodes → taken ≡ Some slice
      → option_map (λ (lost : Bor (List ℕ)). lost.now) taken ≡ option_map items given
  lost_named slice nodes is value at =
      ap (λ (named : Option (Bor (List ℕ))). option_map (λ (lost : Bor (List ℕ)). lost.now) named) at
      ∙ ap (λ (list : List ℕ). Some list) value
      ∙ sym (ap (λ (named : Option V). option_map items named) is)

  -- no node is named
  pub lost_none : given ≡ None → taken ≡ None → option_map (λ (lost : Bor (List ℕ)). lost.now) taken ≡ option_map items given
  lost_none is at =
      ap (λ (named : Option (Bor (List ℕ))). option_map (λ (lost : Bor (List ℕ)). lost.now) named) at
      ∙ sym (ap (λ (named : Option V). option_map items named) is)

module _ {S : Type 0} (g : Ghosts S) (finds : sql.Held S → Type 0) (node : ℕ) (users : List ℕ) where
  -- a store is created
  pub created : (settings : Limits) (given : Option ℕ) (moment : ℕ) (store : SqlHeld S) → IsMomentOf given moment
      → HasMade g finds settings moment 16777216 node store users → IsCreated g finds node settings given
  created settings given moment store at h = record { moment = moment; of_moment = at; users = users; store = store; made = h }

  -- a store is replaced
  pub replaced : (settings : Limits) (given : Option ℕ) (former : FormerWords) (moment : ℕ) (lost : LostNode) (texts : List (List ℕ)) (store : SqlHeld S)
      → IsMomentOf given moment → IsLostNodeOf node former lost → length texts ≡ length former.floors.items
      → HasRemade g finds settings moment 16777216 lost texts store users → IsReplaced g finds node settings given former store
  replaced settings given former moment lost texts store at of_lost each h =
      record { moment = moment; of_moment = at; users = users; lost = lost; of_lost = of_lost; texts = texts; each = each; made = h }

  -- floors are raised
  pub levelled : (count : ℕ) (texts : List (List ℕ)) (store : SqlHeld S) → length texts ≡ count
      → HasLevelled g finds default_limits 16777216 node texts store users → IsLevelled g finds node count
  levelled count texts store each h = record { users = users; texts = texts; each = each; store = store; levelled = h }

  -- a floors file is written
  pub floors_told : (members moment : ℕ) (old new : Option (List ℕ)) → IsMoment moment
      → HasToldFloors g finds default_limits 16777216 node members moment old new users → AreFloorsTold g finds node members old new
  floors_told members moment old new at h = record { moment = moment; is_moment = at; users = users; told = h }

module _ {S : Type 0} (g : Ghosts S) (finds : sql.Held S → Type 0) (owner other : Owner) where
  -- an owner with a name is the owner
  pub migrated_by : (members : Option ℕ) (text : List ℕ) (result : Result Unit Fault) → owner ≡ other
      → IfOk result (λ _. IsMigratedBy g finds other members text) → IfOk result (λ _. IsMigratedBy g finds owner members text)
  migrated_by members text result is h = subst (λ (it : Owner). IfOk result (λ _. IsMigratedBy g finds it members text)) (sym is) h

  pub levelled_by : (count : ℕ) (text : List ℕ) (result : Result Unit Fault) → owner ≡ other
      → IfOk result (λ _. IsLevelledBy g finds other count text) → IfOk result (λ _. IsLevelledBy g finds owner count text)
  levelled_by count text result is h = subst (λ (it : Owner). IfOk result (λ _. IsLevelledBy g finds it count text)) (sym is) h

-- floors are raised by the files at the same paths
pub levelled_paths : {S : Type 0} {V : Type 0} (g : Ghosts S) (finds : sql.Held S → Type 0) (node : ℕ) (paths all : List V) → paths ≡ all
    → IsLevelled g finds node (length paths) → IsLevelled g finds node (length all)
levelled_paths g finds node paths all same h = subst (λ (count : ℕ). IsLevelled g finds node count) (ap length same) h

module _ {S : Type 0} (g : Ghosts S) (finds : sql.Held S → Type 0) (node : ℕ) (given : Option ℕ) (text : List ℕ) (old new : Option (List ℕ))
    (cluster : Cluster) (place : PlaceRecord) (of_text : cluster_of text ≡ Ok (cluster_value cluster))
    (at_place : place ≡ record { me = node; n = length cluster.members.items }) (store : SqlHeld S) where
  -- a member's store is created
  pub member_created : (cluster_value cluster).names ≡ None → (moment : ℕ) (users : List ℕ) → IsMomentOf given moment
      → HasMadeMember g finds cluster.settings moment 16777216 place store old new users → IsMemberCreated g finds node given text old new
  member_created unnamed moment users at h = record {
    cluster = cluster_value cluster;
    of_text = of_text;
    unnamed = unnamed;
    moment = moment;
    of_moment = at;
    users = users;
    store = store;
    made = subst (λ (p : PlaceRecord). HasMadeMember g finds cluster.settings moment 16777216 p store old new users)
        (member_at cluster node place at_place) h;
  }

-- a store is replaced, and its line is written
pub replaced_so : {S : Type 0} (g : Ghosts S) (finds : sql.Held S → Type 0) (settings : Limits) (place : PlaceRecord) (given : Option ℕ) (former : FormerWords)
    (old new : Option (List ℕ)) (node : ℕ) (store : SqlHeld S) → node ≡ place.me → IsReplaced g finds node settings given former store
    → (HasCleanDisk (sql.state g store.conn) → Appends old new (store_line place store.mirror)) → IsReplacedSo g finds settings place given former old new
replaced_so g finds settings place given former old new node store same h written = record {
  store = store;
  replaced = subst (λ (n : ℕ). IsReplaced g finds n settings given former store) same h;
  written = written;
}

module _ {S : Type 0} (g : Ghosts S) (finds : sql.Held S → Type 0) (node : ℕ) (given : Option ℕ) (text : List ℕ) (old new : Option (List ℕ))
    (cluster : Cluster) (place : PlaceRecord) (of_text : cluster_of text ≡ Ok (cluster_value cluster))
    (at_place : place ≡ record { me = node; n = length cluster.members.items }) (former : FormerWords) where
  -- a member's store is replaced
  pub member_replaced : (maybe : Option NamedCluster) (result : Result Unit Fault) → maybe ≡ None → AreNamesIn (cluster_value cluster) maybe
      → IfOk result (λ _. IsReplacedSo g finds cluster.settings place given former old new) → IfOk result (λ _. IsMemberReplaced g finds node given former text old new)
  member_replaced maybe (Err fault) is are h = tt
  member_replaced maybe (Ok done) is are h =
      let unnamed : (cluster_value cluster).names ≡ None = subst (AreNamesIn (cluster_value cluster)) is are in
      let at = subst (λ (p : PlaceRecord). IsReplacedSo g finds cluster.settings p given former old new) (member_at cluster node place at_place) h in
      record {
        cluster = cluster_value cluster;
        of_text = of_text;
        replaced = subst (λ (names : Option (List ℕ)). IsReplacedBy g finds (cluster_value cluster) (place_in (cluster_value cluster) node) given former names old new)
            (sym unnamed) at;
      }

  -- a member's store is replaced by names
  pub member_remade : (named : NamedCluster) (key : List ℕ) (maybe : Option NamedCluster) (result : Result Unit Fault) → maybe ≡ Some named
      → AreNamesIn (cluster_value cluster) maybe → IsKeyIn (key_place cluster.key) key
      → IfOk result (λ _. IsRemadeByNames g finds cluster.settings place given named key former old new)
      → IfOk result (λ _. IsMemberReplaced g finds node given former text old new)
  member_remade named key maybe (Err fault) is are of_key h = tt
  member_remade named key maybe (Ok done) is are of_key h =
      let is_in = subst (AreNamesIn (cluster_value cluster)) is are in
      let at = subst (λ (p : PlaceRecord). IsRemadeByNames g finds cluster.settings p given named key former old new) (member_at cluster node place at_place) h in
      record {
        cluster = cluster_value cluster;
        of_text = of_text;
        replaced = subst (λ (names : Option (List ℕ)). IsReplacedBy g finds (cluster_value cluster) (place_in (cluster_value cluster) node) given former names old new)
            (sym is_in.of_names) (record { named = named; is_in = is_in; key = key; of_key = of_key; remade = at });
      }

module _ {S : Type 0} (g : Ghosts S) (finds : sql.Held S → Type 0) (node : ℕ) (text : List ℕ) (old new : Option (List ℕ)) (cluster : Cluster) where
  -- a member's floors file is written
  pub members_floors : (place : PlaceRecord) → cluster_of text ≡ Ok (cluster_value cluster) → place ≡ record { me = node; n = length cluster.members.items }
      → (maybe : Option NamedCluster) (members : ℕ) (result : Result Unit Fault) → members ≡ place.n → maybe ≡ None → AreNamesIn (cluster_value cluster) maybe
      → IfOk result (λ _. AreFloorsTold g finds node members old new) → IfOk result (λ _. AreMembersFloorsTold g finds node text old new)
  members_floors place of_text at_place maybe members (Err fault) counted is are h = tt
  members_floors place of_text at_place maybe members (Ok done) counted is are h =
      let unnamed : (cluster_value cluster).names ≡ None = subst (AreNamesIn (cluster_value cluster)) is are in
      let each = counted ∙ ap (λ (p : PlaceRecord). p.n) (member_at cluster node place at_place) in
      record {
        cluster = cluster_value cluster;
        of_text = of_text;
        told = subst (λ (names : Option (List ℕ)). AreFloorsToldBy g finds (cluster_value cluster) node names old new) (sym unnamed)
            (subst (λ (n : ℕ). AreFloorsTold g finds node n old new) each h);
      }

  -- a member's floors file is written by names
  pub members_named_floors : cluster_of text ≡ Ok (cluster_value cluster) → (named : NamedCluster) (key : List ℕ) (maybe : Option NamedCluster)
      (result : Result Unit Fault) → maybe ≡ Some named → AreNamesIn (cluster_value cluster) maybe → IsKeyIn (key_place cluster.key) key
      → IfOk result (λ _. AreNamedFloorsTold g finds named key node old new) → IfOk result (λ _. AreMembersFloorsTold g finds node text old new)
  members_named_floors of_text named key maybe (Err fault) is are of_key h = tt
  members_named_floors of_text named key maybe (Ok done) is are of_key h =
      let is_in = subst (AreNamesIn (cluster_value cluster)) is are in
      record {
        cluster = cluster_value cluster;
        of_text = of_text;
        told = subst (λ (names : Option (List ℕ)). AreFloorsToldBy g finds (cluster_value cluster) node names old new) (sym is_in.of_names)
            (record { named = named; is_in = is_in; key = key; of_key = of_key; told = h });
      }
