-- What `init` says of the store that it made for a member of a cluster.
--
-- Floor: the first free factor of a token at a node.
use Rattle.std.specs.Prelude.{ℕ, ◌+◌, ◌*◌, ◌/◌, ◌%◌, ◌==◌, Bool, false, List, [], ◌++◌, length, Option, Some, None, if◌then◌else◌, codes}
use Rattle.std.specs.List.{list_any}
use Rattle.std.specs.Fmt.{decimal}
use Rattle.std.specs.Io.KnownBytes.{Appends}
use Rattle.sqlite.specs.Store.{Ghosts}
use Rattle.sqlite.specs.Held as sql
use Rattle.sqlite.specs.State.{HasCleanDisk}
use Rattle.otp_core.specs.Limits.{Limits}
use Rattle.token_file.specs.Credential.{Credential, period_of}
use Rattle.floor_store.specs.Content.{Content}
use Rattle.floor_sql.specs.Calls.{IsMade}
use Rattle.floor_sql.specs.Held.{SqlHeld}
use Rattle.vote_core.specs.NodeSet.{PlaceRecord}
use Rattle.oathd_database.specs.Commands.{HasMade, IsRefused}
use Rattle.oathd_database.specs.declared.fault.Fault.{Fault}
use Rattle.oathd_database.specs.declared.fault.Fault.TheVariants.{Memory, CannotWrite, NoClock, Users, Store, Socket}

-- ---- The moments

-- The moment from which on the code of the current step is free, for a time token with steps of `step` seconds. An
-- import at `moment` uses up the moment's step, and the steps of the skew and the drift after it (RFC 6238, sections
-- 5.2 and 6).
abbrev pub ready_at : Limits → ℕ → ℕ → ℕ
ready_at limits moment step = (moment / step + limits.skew + limits.drift + 1) * step

-- a number below 100 in two digits
abbrev pub two_digits : ℕ → List ℕ
two_digits number = decimal (number / 10) ++ decimal (number % 10)

-- the clock's time of a moment in UTC: `HH:MM:SS`
unfoldable pub time_text : ℕ → List ℕ
time_text moment =
    two_digits (moment / 3600 % 24) ++ codes ":" ++ two_digits (moment / 60 % 60) ++ codes ":"
    ++ two_digits (moment % 60)

-- ---- The tokens

-- whether a period is one of `step` seconds; events have none
abbrev pub is_period : ℕ → Option ℕ → Bool
is_period step None = false
is_period step (Some period) = period == step

-- whether a token has time steps of `step` seconds
abbrev pub has_step : ℕ → Credential → Bool
has_step step token = is_period step (period_of token.kind)

-- ---- The text

-- a member, the number of members, and the boot and the number of tokens of its store
unfoldable pub member_line : PlaceRecord → ℕ → ℕ → List ℕ
member_line place boot tokens =
    codes "made node " ++ decimal place.me ++ codes " of " ++ decimal place.n ++ codes ": boot " ++ decimal boot
    ++ codes ", tokens " ++ decimal tokens ++ codes "\n"

-- the line of a member whose store has a content
abbrev pub store_line : PlaceRecord → Content → List ℕ
store_line place content = member_line place content.boot (length content.rows)

-- the first words of a line on time tokens with steps of `step` seconds
unfoldable pub step_words : ℕ → List ℕ
step_words step = codes "time tokens with steps of " ++ decimal step ++ codes " s are accepted from "

-- the line that such tokens are accepted from a moment on
unfoldable pub ready_line : ℕ → ℕ → List ℕ
ready_line step from = step_words step ++ time_text from ++ codes " UTC on\n"

-- the line that such tokens of a book are accepted from a moment on, or nothing if there is none
unfoldable pub step_text : List Credential → ℕ → ℕ → List ℕ
step_text book step from = if list_any (has_step step) book then ready_line step from else []

-- a line for each kind of time token that a book has; `from` gives the moment for steps of so many seconds
abbrev pub steps_text : List Credential → (ℕ → ℕ) → List ℕ
steps_text book from = step_text book 30 (from 30) ++ step_text book 60 (from 60)

-- the line of the member, and the lines of the time tokens that were imported at a moment
abbrev pub made_text : PlaceRecord → Content → List Credential → Limits → ℕ → List ℕ
made_text place content book limits moment = store_line place content ++ steps_text book (ready_at limits moment)

-- the same for tokens whose secrets are new: the time tokens are accepted from the moment on
abbrev pub fresh_text : PlaceRecord → Content → List Credential → ℕ → List ℕ
fresh_text place content book moment = store_line place content ++ steps_text book (λ step. moment)

-- ---- The store

-- The databases of the commands are opened by a connection that shows what `finds` says, if the disk returns what was
-- written.
module _ {S : Type 0} (g : Ghosts S) (finds : sql.Held S → Type 0) where
  -- the store is the node's, created by one commit in the tables of some connection, with the given floors
  pub record IsMadeAt (node : ℕ) (floors : List ℕ) (store : SqlHeld S) : Type 0 where
    pub conn : sql.Held S
    pub found : HasCleanDisk (sql.state g conn) → finds conn
    pub made : IsMade g conn node 0 floors store

  -- The store of a member is created from a users file, and its text is written.
  pub record HasMadeMember (limits : Limits) (moment longest : ℕ) (place : PlaceRecord) (store : SqlHeld S)
      (old new : Option (List ℕ)) (text : List ℕ) : Type 0 where
    pub made : HasMade g finds limits moment longest place.me store text
    pub written : HasCleanDisk (sql.state g store.conn)
        → Appends old new (made_text place store.mirror made.import.book limits moment)

  -- No store is created, or the output failed after the store of the node was created.
  abbrev pub IsNotTold : Limits → ℕ → ℕ → ℕ → Fault → List ℕ → Type 0
  IsNotTold limits moment longest node Memory text = IsRefused limits moment longest Memory text
  IsNotTold limits moment longest node CannotWrite text =
      (store : SqlHeld S) × HasMade g finds limits moment longest node store text
  IsNotTold limits moment longest node NoClock text = IsRefused limits moment longest NoClock text
  IsNotTold limits moment longest node (Users fault) text = IsRefused limits moment longest (Users fault) text
  IsNotTold limits moment longest node (Store fault) text = IsRefused limits moment longest (Store fault) text
  IsNotTold limits moment longest node Socket text = IsRefused limits moment longest Socket text
