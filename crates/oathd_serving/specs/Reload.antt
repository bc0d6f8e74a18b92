-- A node by names that takes its users file again when it changes.
use Rattle.std.specs.Prelude.{◌≡◌, ◌⊎◌, ◌+◌, ◌<◌, ◌≤◌, ℕ, Bool, true, false, List, [], ◌∷◌, Option, None, Some, length, min}
use Rattle.sqlite.specs.Store.{Ghosts}
use Rattle.sqlite.specs.Held as sql
use Rattle.otp_core.specs.Limits.{Limits}
use Rattle.named_store.specs.Entries.{entries_of}
use Rattle.named_store.specs.Seating.{AreDistinct}
use Rattle.oathd_words.specs.declared.store_words.ClusterWords.{ClusterWords}
use Rattle.oathd_words.specs.declared.store_words.ClusterWords.TheVariants.{Given, Named}
use Rattle.oathd_database.specs.Commands.{HasImport}
use Rattle.node_serving.specs.Serving.{IsAgain}
use Rattle.oathd_database.specs.declared.fault.Fault as database
use Rattle.oathd_database.specs.declared.fault.Fault.TheVariants.{CannotWrite, NoClock, Users, Store, Socket}
use Rattle.oathd_database.specs.declared.fault.Fault.TheVariants as faults
use Rattle.node_serving.specs.declared.serving.Serving.{Serving}
use Rattle.oathd_roster.specs.Enrolled.{IsServedText}
use Rattle.oathd_roster.specs.Users.{IsUnnamed}
use Rattle.oathd_roster.specs.declared.cluster.NamedCluster.{NamedCluster}
use Rattle.oathd_roster.specs.declared.fault.RosterFault.{RosterFault}
use Rattle.oathd_roster.specs.declared.fault.RosterFault.TheVariants as roster
use Rattle.oathd_site.specs.Names.{IsNamedOf}
use Rattle.oathd_serving.specs.Ends.{IsServedByNames}
use Rattle.oathd_site.specs.declared.fault.Fault.{Fault}
use Rattle.oathd_site.specs.declared.fault.Fault.TheVariants.{Database, Floors, Task, Roster, Seats, Names}
use Rattle.oathd_serving.specs.declared.refusal.Refusal.{Refusal}
use Rattle.oathd_serving.specs.declared.refusal.Refusal.TheVariants.{Line, SameName, NoTokens, CannotRead, Memory}
use Rattle.oathd_serving.specs.declared.reload.Boot.{Boot}
use Rattle.oathd_serving.specs.declared.watch.Found.{Found}
use Rattle.oathd_serving.specs.declared.watch.Found.TheVariants.{Text, Unread}

-- ---- The reasons of a refusal

-- the reason for a fault of reading a users file
abbrev pub reason_of : database.Fault → Refusal
reason_of faults.Memory = Memory
reason_of CannotWrite = CannotRead
reason_of NoClock = CannotRead
reason_of (Users fault) = Line fault
reason_of (Store fault) = CannotRead
reason_of Socket = CannotRead

-- the reason for a fault of a users file by names; the last two are none of them
abbrev pub named_reason_of : RosterFault → Refusal
named_reason_of (roster.Command fault) = reason_of fault
named_reason_of (roster.SameName row) = SameName row
named_reason_of roster.AnotherCluster = CannotRead
named_reason_of roster.Full = CannotRead

-- the reason for a fault of the program at a users file
abbrev pub file_reason_of : Fault → Refusal
file_reason_of (Database fault) = reason_of fault
file_reason_of (Task fault) = CannotRead
file_reason_of (Floors fault) = CannotRead
file_reason_of (Roster fault) = CannotRead
file_reason_of (Seats fault) = CannotRead
file_reason_of (Names fault) = CannotRead

-- ---- The text of a changed users file

-- A text that a node takes: without a fault, with a token, and with a name for each token that no other one has.
pub record IsTaken (limits : Limits) (salt text : List ℕ) : Type 0 where
  pub import : HasImport limits 0 16777216 text
  pub some : 0 < length import.book
  pub distinct : AreDistinct (entries_of salt import.book)

-- a text that a node does not take: one without a token, or with a fault
abbrev pub IsRefused : Limits → List ℕ → List ℕ → Refusal → Type 0
IsRefused limits salt text refusal =
    ((import : HasImport limits 0 16777216 text) × (import.book ≡ []) × (refusal ≡ NoTokens))
    ⊎ ((fault : RosterFault) × IsUnnamed salt limits 0 16777216 fault text × (refusal ≡ named_reason_of fault))

-- The next text, after a boot with the text `text`, for what was found. A text that is refused, and a file that can't
-- be read, change nothing.
abbrev pub IsNextOf : Limits → List ℕ → List ℕ → Option Found → List ℕ → Type 0
IsNextOf limits salt text None next = next ≡ text
IsNextOf limits salt text (Some (Unread refusal)) next = next ≡ text
IsNextOf limits salt text (Some (Text other)) next = (IsTaken limits salt other.items × (next ≡ other.items))
    ⊎ ((refusal : Refusal) × IsRefused limits salt other.items refusal × (next ≡ text))

-- the next text after a boot with the text `text`: the same one, or one that is taken
abbrev pub IsNextText : Limits → List ℕ → List ℕ → List ℕ → Type 0
IsNextText limits salt text next = (next ≡ text) ⊎ IsTaken limits salt next

-- ---- The end of a boot

-- The answer of a watch that found a change at the moment `since`, if its last moment is `now`, in milliseconds. It
-- keeps the number of turns that are left. It ends the turns if no line waits for votes, or two seconds have passed.
abbrev pub answers_of : ℕ → ℕ → ℕ → ℕ → Bool → Bool → Type 0
answers_of kept since now left is_waiting ends =
    (kept ≡ left) × (ends ≡ true → (is_waiting ≡ false) ⊎ (since + 2000 ≤ now))

-- ---- The boots of a node

-- the parameters of a boot with `turns` turns, of a node that was asked for
abbrev pub IsOfBoot : (Serving → Type 0) → ℕ → Serving → Type 0
IsOfBoot IsAsked turns serving =
    (asked : Serving) × IsAsked asked × IsAgain asked serving × (serving.turns ≡ turns)

-- Databases are opened by a connection that shows what `finds` says. `IsAsked` holds for the parameters that were asked
-- for, and `IsCluster` for the cluster.
module _ {S : Type 0} (g : Ghosts S) (finds : sql.Held S → Type 0) (IsAsked : Serving → Type 0)
    (IsCluster : NamedCluster → Type 0) where
  -- A boot of a node: it was served by names for the tokens of its text, for its turns. If the store has no room for
  -- the new ones, it was served for those that the store has. The next boot has the turns that are left, and the same
  -- text or one that is taken.
  pub record IsBoot (boot next : Boot) : Type 0 where
    pub kept : ℕ
    pub since : ℕ
    pub now : ℕ
    pub served : IsServedByNames g finds (IsOfBoot IsAsked boot.turns) IsCluster (answers_of kept since now)
    pub of_text : IsServedText g served.named served.serving.settings finds served.moment served.serving.place.me
        boot.text.items served.users
    pub left_are : next.turns ≡ min kept boot.turns
    pub next_text : IsNextText served.serving.settings served.named.salt boot.text.items next.text.items

-- One after another, from `first` to `last`. The list has what each leaves.
abbrev pub AreBoots : {A : Type 0} → (A → A → Type 0) → A → A → List A → Type 0
AreBoots IsLater first last [] = first ≡ last
AreBoots IsLater first last (next ∷ boots) = IsLater first next × AreBoots IsLater next last boots

-- A first boot with `turns` turns, and later ones until no turn is left.
pub record AreServedBoots (IsFirst IsLater : Boot → Boot → Type 0) (turns : ℕ) : Type 0 where
  pub first : Boot
  pub of_turns : first.turns ≡ turns
  pub next : Boot
  pub is_first : IsFirst first next
  pub last : Boot
  pub later : List Boot
  pub boots : AreBoots IsLater next last later
  pub none_left : last.turns ≡ 0

-- a member of the cluster file that the words name is served in a first boot at least
abbrev pub IsReloaded : {S : Type 0} → Ghosts S → (sql.Held S → Type 0) → (Serving → Type 0) → ClusterWords → ℕ
    → List ℕ → Type 0
IsReloaded g finds IsAsked (Given settings place members key) turns text = ⊥
IsReloaded g finds IsAsked (Named node path) turns text =
    (first : Boot) × (next : Boot) × (first.turns ≡ turns) × IsBoot g finds IsAsked (IsNamedOf text) first next
