-- What the words of a command don't ask for.
use Rattle.std.proofs.Common.{◌≡◌, ℕ, ◌+◌, ◌*◌, ◌<◌, Bool, true, false, not, List, [], ◌∷◌, Option, Some, None, length, slice_index, refl, sym, ap, subst, ◌∙◌, lit<, arith}
use Rattle.std.specs.Prelude.{IfNone, codes}
use Rattle.std.specs.List.{list_any}
use Rattle.std.specs.Str.{bytes_eq}
use Rattle.std.proofs.lemmas.Bool.{false≢true}
use Rattle.std.specs.Net.Grammar.{IsSocketV4Text}
use Rattle.clap.specs.Matches.{first_value}
use Rattle.clap.specs.declared.parser.matches.Found.{Found}
use Rattle.std.specs.declared.net.socket_addr.SocketAddrV4.{SocketAddrV4}
use Rattle.oathd_words.specs.Given.{GivesMember, is_flag}
use Rattle.oathd_words.specs.InquiryWords.{AsksForInquiry, AsksMembers, AsksNode, GivesAddress}
use Rattle.oathd_words.specs.NodesWords.{AsksForNodes}
use Rattle.oathd_words.specs.StoreWords.{AsksForAction, AsksForLog, AsksForLook, AsksForStore, GivesMoment, GivesOwner, is_of_node}
use Rattle.oathd_words.specs.Words.{AsksForNothing, AsksToCheck}
use Rattle.oathd_words.specs.declared.inquiry_words.Inquiry.{Inquiry}
use Rattle.oathd_words.specs.declared.inquiry_words.Inquiry.TheVariants as inquiries
use Rattle.oathd_words.specs.declared.nodes_words.NodesWords.{NodesWords}
use Rattle.oathd_words.specs.declared.store_words.Action.{Action}
use Rattle.oathd_words.specs.declared.store_words.Action.TheVariants.{Init, Begin, Remake, Serve, Look as Looks, Roster, Migrate, Floors, Level}
use Rattle.oathd_words.specs.declared.store_words.LogWords.{LogWords}
use Rattle.oathd_words.specs.declared.store_words.LogWords.TheVariants.{Nowhere, Output, Syslog}
use Rattle.oathd_words.specs.declared.store_words.Look.{Look}
use Rattle.oathd_words.specs.declared.store_words.Look.TheVariants.{Export, Audit, Gates, Unlock}
use Rattle.oathd_words.specs.declared.store_words.Owner.{Owner}
use Rattle.oathd_words.specs.declared.store_words.Owner.TheVariants as owners
use Rattle.oathd_words.specs.declared.words.Task.TheVariants.{Lines, Sim, Cluster, Store, Ask, Survey, Check, NewKey, NewCluster, Secret, SecretOfInput}

-- a number that distinguishes the names of the commands
abbrev mark : List ℕ → ℕ
mark name = slice_index name 0 * 256 + length name

-- a name is not two names
pub apart : (name a b : List ℕ) → name ≡ a → name ≡ b → mark a < mark b → ⊥
apart name a b p q below =
    let same : mark a ≡ mark b = ap mark (sym p ∙ q) in omega (arith, same, below)

-- ---- The names of the commands over a database

-- the name of the command that looks at a store so
abbrev look_name : Look → List ℕ
look_name Export = codes "export"
look_name Audit = codes "audit"
look_name Gates = codes "gates"
look_name (Unlock user) = codes "unlock"

-- the name of the command that does this with a store
abbrev action_name : Action → List ℕ
action_name (Init node import moment) = codes "init"
action_name (Begin node path) = codes "init"
action_name (Remake node import moment former) = codes "init"
action_name (Serve cluster turns log clients reloads) = codes "serve"
action_name (Looks owner look) = look_name look
action_name (Roster node path drops) = codes "roster"
action_name (Migrate owner members) = codes "migrate"
action_name (Floors node count) = codes "floors"
action_name (Level owner floors) = codes "level"

abbrev is_store_name : List ℕ → Bool
is_store_name name = list_any (bytes_eq name) (codes "init" ∷ codes "serve" ∷ codes "export" ∷ codes "audit" ∷ codes "migrate" ∷ codes "floors"
    ∷ codes "level" ∷ codes "gates" ∷ codes "unlock" ∷ codes "roster" ∷ [])

look_stored : (look : Look) → is_store_name (look_name look) ≡ true
look_stored Export = refl
look_stored Audit = refl
look_stored Gates = refl
look_stored (Unlock user) = refl

store_named : (action : Action) → is_store_name (action_name action) ≡ true
store_named (Init node import moment) = refl
store_named (Begin node path) = refl
store_named (Remake node import moment former) = refl
store_named (Serve cluster turns log clients reloads) = refl
store_named (Looks owner look) = look_stored look
store_named (Roster node path drops) = refl
store_named (Migrate owner members) = refl
store_named (Floors node count) = refl
store_named (Level owner floors) = refl

look_so : (name : List ℕ) (found : Found) (look : Look) → AsksForLook name found look → name ≡ look_name look
look_so name found Export asks = asks
look_so name found Audit asks = asks
look_so name found Gates asks = asks
look_so name found (Unlock user) asks = asks.0

-- an action is asked for by its command
pub named_so : (name : List ℕ) (found : Found) (action : Action) → AsksForAction name found action → name ≡ action_name action
named_so name found (Init node import moment) asks = asks.0
named_so name found (Begin node path) asks = asks.0
named_so name found (Remake node import moment former) asks = asks.0
named_so name found (Serve cluster turns log clients reloads) asks = asks.0
named_so name found (Looks owner look) asks = look_so name found look asks.0
named_so name found (Roster node path drops) asks = asks.0
named_so name found (Migrate owner members) asks = asks.0
named_so name found (Floors node count) asks = asks.0
named_so name found (Level owner floors) asks = asks.0

-- a command with another name asks for none
no_store : (name other : List ℕ) (found : Found) → name ≡ other → is_store_name other ≡ false → (action : Action) → AsksForAction name found action → ⊥
no_store name other found is others action asks =
    false≢true (sym others ∙ ap is_store_name (sym is ∙ named_so name found action asks) ∙ store_named action)

-- ---- The names of the commands that ask running nodes

-- the name of the command of an inquiry
abbrev inquiry_name : Inquiry → List ℕ
inquiry_name inquiries.Status = codes "status"
inquiry_name inquiries.Gates = codes "gates"
inquiry_name inquiries.Floors = codes "floors"
inquiry_name inquiries.Audit = codes "audit"
inquiry_name inquiries.Roster = codes "roster"
inquiry_name inquiries.Drain = codes "drain"
inquiry_name (inquiries.Unlock user) = codes "unlock"

abbrev is_asking_name : List ℕ → Bool
is_asking_name name = list_any (bytes_eq name) (codes "status" ∷ codes "gates" ∷ codes "floors" ∷ codes "audit" ∷ codes "roster" ∷ codes "drain"
    ∷ codes "unlock" ∷ [])

inquiry_asked : (inquiry : Inquiry) → is_asking_name (inquiry_name inquiry) ≡ true
inquiry_asked inquiries.Status = refl
inquiry_asked inquiries.Gates = refl
inquiry_asked inquiries.Floors = refl
inquiry_asked inquiries.Audit = refl
inquiry_asked inquiries.Roster = refl
inquiry_asked inquiries.Drain = refl
inquiry_asked (inquiries.Unlock user) = refl

inquired_so : (name : List ℕ) (found : Found) (inquiry : Inquiry) → AsksForInquiry name found inquiry → name ≡ inquiry_name inquiry
inquired_so name found inquiries.Status asks = asks
inquired_so name found inquiries.Gates asks = asks
inquired_so name found inquiries.Floors asks = asks
inquired_so name found inquiries.Audit asks = asks
inquired_so name found inquiries.Roster asks = asks
inquired_so name found inquiries.Drain asks = asks
inquired_so name found (inquiries.Unlock user) asks = asks.0

-- a command with another name asks no node
no_ask : (name other : List ℕ) (found : Found) → name ≡ other → is_asking_name other ≡ false → (inquiry : Inquiry) → AsksForInquiry name found inquiry → ⊥
no_ask name other found is others inquiry asks =
    false≢true (sym others ∙ ap is_asking_name (sym is ∙ inquired_so name found inquiry asks) ∙ inquiry_asked inquiry)

-- ---- The other names in order of their marks: check, cluster, lines, new-key, new-cluster, sim, secret

module _ (name : List ℕ) (found : Found) where
  pub not_for_lines : name ≡ codes "lines"
      → ((nodes : NodesWords) (moment : ℕ) → AsksForNodes (λ n. n ≡ 1) found nodes → GivesMoment found (Some moment) → ⊥)
      → AsksForNothing name found
  not_for_lines is none (Lines nodes moment) asks = none nodes moment asks.1 asks.2
  not_for_lines is none NewKey asks = apart name _ _ is asks (lit< tt)
  not_for_lines is none NewCluster asks = apart name _ _ is asks (lit< tt)
  not_for_lines is none (Secret hex) asks = apart name _ _ is asks.0 (lit< tt)
  not_for_lines is none SecretOfInput asks = apart name _ _ is asks.0 (lit< tt)
  not_for_lines is none (Check users cluster) asks = apart name _ _ asks.0 is (lit< tt)
  not_for_lines is none (Sim nodes moment) asks = apart name _ _ is asks.0 (lit< tt)
  not_for_lines is none (Cluster users nodes moment) asks = apart name _ _ asks.0 is (lit< tt)
  not_for_lines is none (Store database users action) asks = no_store name (codes "lines") found is refl action asks.2
  not_for_lines is none (Ask address node operator inquiry) asks = no_ask name (codes "lines") found is refl inquiry asks.inquiry_is
  not_for_lines is none (Survey file operator) asks = no_ask name (codes "lines") found is refl inquiries.Status asks.command

  pub not_for_sim : name ≡ codes "sim"
      → ((nodes : NodesWords) (moment : ℕ) → AsksForNodes (GivesMember found (codes "N")) found nodes → GivesMoment found (Some moment) → ⊥)
      → AsksForNothing name found
  not_for_sim is none (Lines nodes moment) asks = apart name _ _ asks.0 is (lit< tt)
  not_for_sim is none NewKey asks = apart name _ _ asks is (lit< tt)
  not_for_sim is none NewCluster asks = apart name _ _ asks is (lit< tt)
  not_for_sim is none (Secret hex) asks = apart name _ _ is asks.0 (lit< tt)
  not_for_sim is none SecretOfInput asks = apart name _ _ is asks.0 (lit< tt)
  not_for_sim is none (Check users cluster) asks = apart name _ _ asks.0 is (lit< tt)
  not_for_sim is none (Sim nodes moment) asks = none nodes moment asks.1 asks.2
  not_for_sim is none (Cluster users nodes moment) asks = apart name _ _ asks.0 is (lit< tt)
  not_for_sim is none (Store database users action) asks = no_store name (codes "sim") found is refl action asks.2
  not_for_sim is none (Ask address node operator inquiry) asks = no_ask name (codes "sim") found is refl inquiry asks.inquiry_is
  not_for_sim is none (Survey file operator) asks = no_ask name (codes "sim") found is refl inquiries.Status asks.command

  pub not_for_cluster : name ≡ codes "cluster"
      → ((users : List ℕ) (nodes : NodesWords) (moment : ℕ) → first_value found (codes "USERS") ≡ Some users
      → AsksForNodes (GivesMember found (codes "N")) found nodes → GivesMoment found (Some moment) → ⊥)
      → AsksForNothing name found
  not_for_cluster is none (Lines nodes moment) asks = apart name _ _ is asks.0 (lit< tt)
  not_for_cluster is none NewKey asks = apart name _ _ is asks (lit< tt)
  not_for_cluster is none NewCluster asks = apart name _ _ is asks (lit< tt)
  not_for_cluster is none (Secret hex) asks = apart name _ _ is asks.0 (lit< tt)
  not_for_cluster is none SecretOfInput asks = apart name _ _ is asks.0 (lit< tt)
  not_for_cluster is none (Check users cluster) asks = apart name _ _ asks.0 is (lit< tt)
  not_for_cluster is none (Sim nodes moment) asks = apart name _ _ is asks.0 (lit< tt)
  not_for_cluster is none (Cluster users nodes moment) asks = none users.now nodes moment asks.1 asks.2 asks.3
  not_for_cluster is none (Store database users action) asks = no_store name (codes "cluster") found is refl action asks.2
  not_for_cluster is none (Ask address node operator inquiry) asks = no_ask name (codes "cluster") found is refl inquiry asks.inquiry_is
  not_for_cluster is none (Survey file operator) asks = no_ask name (codes "cluster") found is refl inquiries.Status asks.command

  pub not_for_secret : name ≡ codes "secret"
      → (first_value found (codes "HEX") ≡ None) × (is_flag (first_value found (codes "stdin")) ≡ false) → AsksForNothing name found
  not_for_secret is none (Lines nodes moment) asks = apart name _ _ asks.0 is (lit< tt)
  not_for_secret is none NewKey asks = apart name _ _ asks is (lit< tt)
  not_for_secret is none NewCluster asks = apart name _ _ asks is (lit< tt)
  not_for_secret is none (Secret hex) asks = let clash = sym none.0 ∙ asks.1 in cc
  not_for_secret is none SecretOfInput asks = false≢true (sym none.1 ∙ asks.1)
  not_for_secret is none (Check users cluster) asks = apart name _ _ asks.0 is (lit< tt)
  not_for_secret is none (Sim nodes moment) asks = apart name _ _ asks.0 is (lit< tt)
  not_for_secret is none (Cluster users nodes moment) asks = apart name _ _ asks.0 is (lit< tt)
  not_for_secret is none (Store database users action) asks = no_store name (codes "secret") found is refl action asks.2
  not_for_secret is none (Ask address node operator inquiry) asks = no_ask name (codes "secret") found is refl inquiry asks.inquiry_is
  not_for_secret is none (Survey file operator) asks = no_ask name (codes "secret") found is refl inquiries.Status asks.command

  pub not_for_check : name ≡ codes "check" → ((users cluster : List ℕ) → AsksToCheck found users cluster → ⊥) → AsksForNothing name found
  not_for_check is none (Lines nodes moment) asks = apart name _ _ is asks.0 (lit< tt)
  not_for_check is none NewKey asks = apart name _ _ is asks (lit< tt)
  not_for_check is none NewCluster asks = apart name _ _ is asks (lit< tt)
  not_for_check is none (Secret hex) asks = apart name _ _ is asks.0 (lit< tt)
  not_for_check is none SecretOfInput asks = apart name _ _ is asks.0 (lit< tt)
  not_for_check is none (Check users cluster) asks = none _ _ asks.1
  not_for_check is none (Sim nodes moment) asks = apart name _ _ is asks.0 (lit< tt)
  not_for_check is none (Cluster users nodes moment) asks = apart name _ _ is asks.0 (lit< tt)
  not_for_check is none (Store database users action) asks = no_store name (codes "check") found is refl action asks.2
  not_for_check is none (Ask address node operator inquiry) asks = no_ask name (codes "check") found is refl inquiry asks.inquiry_is
  not_for_check is none (Survey file operator) asks = no_ask name (codes "check") found is refl inquiries.Status asks.command

  -- a name of no other command
  pub not_for_store : (name ≡ codes "lines" → ⊥) → (name ≡ codes "sim" → ⊥) → (name ≡ codes "cluster" → ⊥) → (name ≡ codes "check" → ⊥)
      → (name ≡ codes "new-key" → ⊥) → (name ≡ codes "new-cluster" → ⊥) → (name ≡ codes "secret" → ⊥)
      → ((database users : List ℕ) (action : Action) → AsksForStore name found database users action → ⊥)
      → ((address : SocketAddrV4) (node : ℕ) (operator : List ℕ) (inquiry : Inquiry) → AsksNode name found address node operator inquiry → ⊥)
      → ((file operator : List ℕ) → AsksMembers name found file operator → ⊥)
      → AsksForNothing name found
  not_for_store lines sim cluster check new_key new_cluster secret none ask survey (Lines nodes moment) asks = lines asks.0
  not_for_store lines sim cluster check new_key new_cluster secret none ask survey NewKey asks = new_key asks
  not_for_store lines sim cluster check new_key new_cluster secret none ask survey NewCluster asks = new_cluster asks
  not_for_store lines sim cluster check new_key new_cluster secret none ask survey (Secret hex) asks = secret asks.0
  not_for_store lines sim cluster check new_key new_cluster secret none ask survey SecretOfInput asks = secret asks.0
  not_for_store lines sim cluster check new_key new_cluster secret none ask survey (Check users file) asks = check asks.0
  not_for_store lines sim cluster check new_key new_cluster secret none ask survey (Sim nodes moment) asks = sim asks.0
  not_for_store lines sim cluster check new_key new_cluster secret none ask survey (Cluster users nodes moment) asks = cluster asks.0
  not_for_store lines sim cluster check new_key new_cluster secret none ask survey (Store database users action) asks = none _ _ _ asks
  not_for_store lines sim cluster check new_key new_cluster secret none ask survey (Ask address node operator inquiry) asks = ask _ _ _ _ asks
  not_for_store lines sim cluster check new_key new_cluster secret none ask survey (Survey file operator) asks = survey _ _ asks

-- without a node's number nothing is asked for by `init`
pub no_init_node : (found : Found) → ((number : ℕ) → GivesMember found (codes "node") number → ⊥) → (action : Action)
    → AsksForAction (codes "init") found action → ⊥
no_init_node found none (Init node import moment) asks = none node asks.3
no_init_node found none (Begin node path) asks = none node asks.4
no_init_node found none (Remake node import moment former) asks = none node asks.3
no_init_node found none (Serve cluster turns log clients reloads) asks = apart (codes "init") _ _ refl asks.0 (lit< tt)
no_init_node found none (Looks owner Export) asks = apart (codes "init") _ _ asks.0 refl (lit< tt)
no_init_node found none (Looks owner Audit) asks = apart (codes "init") _ _ asks.0 refl (lit< tt)
no_init_node found none (Looks owner Gates) asks = apart (codes "init") _ _ asks.0 refl (lit< tt)
no_init_node found none (Looks owner (Unlock user)) asks = apart (codes "init") _ _ refl asks.0.0 (lit< tt)
no_init_node found none (Roster node path drops) asks = apart (codes "init") _ _ refl asks.0 (lit< tt)
no_init_node found none (Migrate owner members) asks = apart (codes "init") _ _ refl asks.0 (lit< tt)
no_init_node found none (Floors node count) asks = apart (codes "init") _ _ asks.0 refl (lit< tt)
no_init_node found none (Level owner floors) asks = apart (codes "init") _ _ refl asks.0 (lit< tt)

-- ---- The commands that look at a store

abbrev is_look_name : List ℕ → Bool
is_look_name name = list_any (bytes_eq name) (codes "export" ∷ codes "audit" ∷ codes "gates" ∷ codes "unlock" ∷ [])

look_named : (look : Look) → is_look_name (look_name look) ≡ true
look_named Export = refl
look_named Audit = refl
look_named Gates = refl
look_named (Unlock user) = refl

no_look_name : (look : Look) (name : List ℕ) → look_name look ≡ name → is_look_name name ≡ false → ⊥
no_look_name look name is others = false≢true (sym others ∙ ap is_look_name (sym is) ∙ look_named look)

of_node_named : (look : Look) → is_of_node look ≡ not (bytes_eq (look_name look) (codes "export"))
of_node_named Export = refl
of_node_named Audit = refl
of_node_named Gates = refl
of_node_named (Unlock user) = refl

-- without an owner nothing is asked for by such a command
pub no_owner : (found : Found) (look : Look) → ((owner : Owner) → GivesOwner found (is_of_node look) owner → ⊥) → (action : Action)
    → AsksForAction (look_name look) found action → ⊥
no_owner found look none (Looks owner other) asks =
    let same : look_name look ≡ look_name other = look_so (look_name look) found other asks.0 in
    let alike : is_of_node other ≡ is_of_node look =
    of_node_named other ∙ ap (λ (name : List ℕ). not (bytes_eq name (codes "export"))) (sym same) ∙ sym (of_node_named look) in
    none owner (subst (λ (b : Bool). GivesOwner found b owner) alike asks.1)
no_owner found look none (Init node import moment) asks = no_look_name look (codes "init") asks.0 refl
no_owner found look none (Begin node path) asks = no_look_name look (codes "init") asks.0 refl
no_owner found look none (Remake node import moment former) asks = no_look_name look (codes "init") asks.0 refl
no_owner found look none (Serve cluster turns log clients reloads) asks = no_look_name look (codes "serve") asks.0 refl
no_owner found look none (Roster node path drops) asks = no_look_name look (codes "roster") asks.0 refl
no_owner found look none (Migrate owner members) asks = no_look_name look (codes "migrate") asks.0 refl
no_owner found look none (Floors node count) asks = no_look_name look (codes "floors") asks.0 refl
no_owner found look none (Level owner floors) asks = no_look_name look (codes "level") asks.0 refl

-- a claim that holds without a result gives what follows from it
pub none_then : {A : Type 0} (result : Option A) (P Q : Type 0) → IfNone result P → (P → Q) → IfNone result Q
none_then None P Q p then = then p
none_then (Some x) P Q p then = tt

-- two claims that hold without a result give what follows from both
pub none_of_both : {A : Type 0} (result : Option A) (P Q R : Type 0) → IfNone result P → IfNone result Q → (P → Q → R) → IfNone result R
none_of_both None P Q R p q then = then p q
none_of_both (Some x) P Q R p q then = tt

-- a claim that always holds also holds without a result
pub where_none : {A : Type 0} (result : Option A) (P : Type 0) → P → IfNone result P
where_none None P p = p
where_none (Some x) P p = tt

-- ---- The address of a node

abbrev text_in : Option (List ℕ) → List ℕ
text_in None = []
text_in (Some text) = text

-- a text that is no address gives no syslog
pub no_syslog : (found : Found) (text : List ℕ) → first_value found (codes "log-to") ≡ Some text
    → ((address : SocketAddrV4) → IsSocketV4Text text address → ⊥) → (log : LogWords) → AsksForLog found log → ⊥
no_syslog found text given none Nowhere asks = let clash = sym given ∙ asks.0 in absurd cc
no_syslog found text given none Output asks = let clash = sym given ∙ asks.0 in absurd cc
no_syslog found text given none (Syslog address) asks =
    let alike : asks.text ≡ text = ap text_in (sym asks.given ∙ given) in
    none address (subst (λ t. IsSocketV4Text t address) alike asks.says)

-- a text that is no address gives none
pub no_address : (found : Found) (text : List ℕ) → first_value found (codes "ADDRESS") ≡ Some text
    → ((address : SocketAddrV4) → IsSocketV4Text text address → ⊥) → (address : SocketAddrV4) → GivesAddress found address → ⊥
no_address found text given none address asks =
    let alike : asks.text ≡ text = ap text_in (sym asks.given ∙ given) in
    none address (subst (λ t. IsSocketV4Text t address) alike asks.says)
