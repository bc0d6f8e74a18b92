-- What the words of the command `serve` don't ask for.
use Rattle.std.proofs.Common.{◌≡◌, ℕ, List, [], Option, Some, None, length, refl, sym, ap, subst, ◌∙◌, lit<}
use Rattle.std.specs.Prelude.{codes}
use Rattle.std.specs.declared.net.socket_addr.SocketAddrV4.{SocketAddrV4}
use Rattle.clap.specs.Matches.{first_value}
use Rattle.clap.specs.declared.parser.matches.Found.{Found}
use Rattle.otp_core.specs.Limits.{Limits}
use Rattle.vote_core.specs.NodeSet.{PlaceRecord}
use Rattle.oathd_words.specs.Members.{AreMembers, SayAddresses, parts_of}
use Rattle.oathd_words.specs.Given.{GivesLimits, GivesMember}
use Rattle.oathd_words.specs.StoreWords.{AsksForAction, AsksForCluster, AsksForLog, AsksForLook, GivesPlace, turns_given}
use Rattle.oathd_words.specs.declared.store_words.Action.{Action}
use Rattle.oathd_words.specs.declared.store_words.Action.TheVariants.{Init, Begin, Remake, Serve, Look as Looks, Roster, Migrate, Floors, Level}
use Rattle.oathd_words.specs.declared.store_words.LogWords.{LogWords}
use Rattle.oathd_words.specs.declared.store_words.Look.{Look}
use Rattle.oathd_words.specs.declared.store_words.Look.TheVariants.{Export, Audit, Gates, Unlock}
use Rattle.oathd_words.specs.declared.store_words.ClusterWords.{ClusterWords}
use Rattle.oathd_words.specs.declared.store_words.ClusterWords.TheVariants.{Given, Named}
use Rattle.oathd_words.proofs.MembersLemmas.{says_unique}
use Rattle.oathd_words.proofs.WordsLemmas.{apart}

-- the text of an option that has one
abbrev text_in : Option (List ℕ) → List ℕ
text_in None = []
text_in (Some text) = text

module _ (found : Found) where
  -- the words alone name no cluster if they name a cluster file, and no file does if they don't
  pub no_place : (text : List ℕ) (members : List SocketAddrV4) (n : ℕ) → first_value found (codes "cluster") ≡ None
      → Some text ≡ first_value found (codes "members") → AreMembers text members
      → ((place : PlaceRecord) → GivesPlace found place → place.n ≡ n → ⊥) → length members ≡ n
      → (cluster : ClusterWords) → AsksForCluster found cluster → ⊥
  no_place text members n unnamed given are none count (Given settings place others key) asks =
      let serve = asks.1 in
      let alike : serve.text ≡ text = ap text_in (sym (given ∙ serve.text_given)) in
      let same : others.items ≡ members =
      says_unique (parts_of text) others.items members (subst (λ t. SayAddresses (parts_of t) others.items) alike serve.members_given.said) are.said in
      none place serve.place_given (serve.each ∙ (ap (length {A = SocketAddrV4}) same ∙ count))
  no_place text members n unnamed given are none count (Named node path) asks = let clash = sym unnamed ∙ asks.0 in absurd cc

  -- without limits no cluster is asked for
  pub no_limits : first_value found (codes "cluster") ≡ None → ((limits : Limits) → GivesLimits found limits → ⊥)
      → (cluster : ClusterWords) → AsksForCluster found cluster → ⊥
  no_limits unnamed none (Given settings place others key) asks = none settings asks.1.limits_given
  no_limits unnamed none (Named node path) asks = let clash = sym unnamed ∙ asks.0 in absurd cc

  -- if the node is no member's number, no file names it
  pub no_member : (path : List ℕ) → first_value found (codes "cluster") ≡ Some path
      → ((node : ℕ) → GivesMember found (codes "node") node → ⊥) → (cluster : ClusterWords) → AsksForCluster found cluster → ⊥
  no_member path named none (Given settings place others key) asks = let clash = sym named ∙ asks.0 in absurd cc
  no_member path named none (Named node other) asks = none node asks.1

  -- a store is served by no look at it
  no_look : (look : Look) → AsksForLook (codes "serve") found look → ⊥
  no_look Export asks = apart (codes "serve") _ _ asks refl (lit< tt)
  no_look Audit asks = apart (codes "serve") _ _ asks refl (lit< tt)
  no_look Gates asks = apart (codes "serve") _ _ asks refl (lit< tt)
  no_look (Unlock user) asks = apart (codes "serve") _ _ refl asks.0 (lit< tt)

  -- if no cluster is asked for, no action is
  pub no_cluster : ((cluster : ClusterWords) → AsksForCluster found cluster → ⊥) → (action : Action) → AsksForAction (codes "serve") found action → ⊥
  no_cluster none (Init node settings moment) asks = apart (codes "serve") _ _ asks.0 refl (lit< tt)
  no_cluster none (Begin node path) asks = apart (codes "serve") _ _ asks.0 refl (lit< tt)
  no_cluster none (Remake node settings moment former) asks = apart (codes "serve") _ _ asks.0 refl (lit< tt)
  no_cluster none (Serve cluster turns log clients reloads) asks = none cluster asks.1
  no_cluster none (Looks owner look) asks = no_look look asks.0
  no_cluster none (Roster node path drops) asks = apart (codes "serve") _ _ asks.0 refl (lit< tt)
  no_cluster none (Migrate owner members) asks = apart (codes "serve") _ _ asks.0 refl (lit< tt)
  no_cluster none (Floors node count) asks = apart (codes "serve") _ _ asks.0 refl (lit< tt)
  no_cluster none (Level owner floors) asks = apart (codes "serve") _ _ asks.0 refl (lit< tt)

  -- if `turns_given` is None, no action is asked for
  pub no_turns : turns_given found ≡ None → (action : Action) → AsksForAction (codes "serve") found action → ⊥
  no_turns none (Init node settings moment) asks = apart (codes "serve") _ _ asks.0 refl (lit< tt)
  no_turns none (Begin node path) asks = apart (codes "serve") _ _ asks.0 refl (lit< tt)
  no_turns none (Remake node settings moment former) asks = apart (codes "serve") _ _ asks.0 refl (lit< tt)
  no_turns none (Serve cluster turns log clients reloads) asks = let clash = sym none ∙ asks.2 in absurd cc
  no_turns none (Looks owner look) asks = no_look look asks.0
  no_turns none (Roster node path drops) asks = apart (codes "serve") _ _ asks.0 refl (lit< tt)
  no_turns none (Migrate owner members) asks = apart (codes "serve") _ _ asks.0 refl (lit< tt)
  no_turns none (Floors node count) asks = apart (codes "serve") _ _ asks.0 refl (lit< tt)
  no_turns none (Level owner floors) asks = apart (codes "serve") _ _ asks.0 refl (lit< tt)

  -- if no log is asked for, no action is
  pub no_log : ((log : LogWords) → AsksForLog found log → ⊥) → (action : Action) → AsksForAction (codes "serve") found action → ⊥
  no_log none (Init node settings moment) asks = apart (codes "serve") _ _ asks.0 refl (lit< tt)
  no_log none (Begin node path) asks = apart (codes "serve") _ _ asks.0 refl (lit< tt)
  no_log none (Remake node settings moment former) asks = apart (codes "serve") _ _ asks.0 refl (lit< tt)
  no_log none (Serve cluster turns log clients reloads) asks = none log asks.3
  no_log none (Looks owner look) asks = no_look look asks.0
  no_log none (Roster node path drops) asks = apart (codes "serve") _ _ asks.0 refl (lit< tt)
  no_log none (Migrate owner members) asks = apart (codes "serve") _ _ asks.0 refl (lit< tt)
  no_log none (Floors node count) asks = apart (codes "serve") _ _ asks.0 refl (lit< tt)
  no_log none (Level owner floors) asks = apart (codes "serve") _ _ asks.0 refl (lit< tt)
