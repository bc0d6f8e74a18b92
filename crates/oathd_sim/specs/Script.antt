-- The reading of scripts, as functions. Grammar.antt has the same as relations.
use Rattle.std.specs.Prelude.{ℕ, ◌*◌, ◌^◌, ◌==◌, ◌&&◌, nat_le, nat_lt, Bool, true, false, if◌then◌else◌, List, [], ◌∷◌, ◌++◌, length, Option, Some, None, option_map, Result, codes}
use Rattle.std.specs.Option.{option_or}
use Rattle.std.specs.Result.{result_ok}
use Rattle.std.specs.Str.{bytes_eq}
use Rattle.hex.specs.Hex.{decode_of}
use Rattle.field_text.specs.Cut.{halves_of}
use Rattle.field_text.specs.Number.{number_of}
use Rattle.cluster_sim.specs.Rounds.{RoundLine, is_live}
use Rattle.oathd_sim.specs.Lines.{fields_of, is_remark, lines_of}
use Rattle.oathd_sim.specs.Event.{Act, Says, Deliver, Ticks, Noise, Event, Happens, Cut, Restart, Lost, Anew, ScriptRecord, empty_script}
use Rattle.oathd_sim.specs.Turns.{state_after}

-- the next step on a value, or None
infixl 10 ◌>>=◌
abbrev pub ◌>>=◌ : {A B : Type 0} → Option A → (A → Option B) → Option B
None >>= next = None
Some x >>= next = next x

-- the bytes of 2 to 1,024 hexadecimal digits, two a byte, in either case
abbrev pub bytes_of : List ℕ → Option (List ℕ)
bytes_of digits = if nat_le 2 (length digits) && nat_le (length digits) 1024 then result_ok (decode_of digits) else None

-- `NODE CLIENT MOMENT LINE`; the line is all of the text after the third space
abbrev pub said_line : List ℕ → Option RoundLine
said_line text = do
  first ← halves_of 32 text
  second ← halves_of 32 first.behind
  third ← halves_of 32 second.behind
  node ← number_of first.before
  client ← number_of second.before
  moment ← number_of third.before
  Some (record { node = node; client = client; moment = moment; line = third.behind })

-- the action of a client's line
abbrev pub client_act : List ℕ → Option Act
client_act text = do
  said ← said_line text
  Some (Says said.node said.client said.moment said.line)

-- `NODE K`
abbrev pub deliver_act : List ℕ → Option Act
deliver_act text = do
  halves ← halves_of 32 text
  node ← number_of halves.before
  k ← number_of halves.behind
  Some (Deliver node k)

-- `NODE`
abbrev pub tick_act : List ℕ → Option Act
tick_act text = do
  node ← number_of text
  Some (Ticks node)

-- `NODE FROM HEX`
abbrev pub noise_act : List ℕ → Option Act
noise_act text = do
  first ← halves_of 32 text
  second ← halves_of 32 first.behind
  node ← number_of first.before
  from ← number_of second.before
  bytes ← bytes_of second.behind
  Some (Noise node from bytes)

-- the action of a word and the text after the next space
abbrev pub act_of_word : List ℕ → List ℕ → Option Act
act_of_word word rest =
    if bytes_eq word (codes "client") then client_act rest
    else if bytes_eq word (codes "deliver") then deliver_act rest
    else if bytes_eq word (codes "tick") then tick_act rest
    else if bytes_eq word (codes "noise") then noise_act rest
    else None

-- the action of a line
abbrev pub act_line : List ℕ → Option Act
act_line line = do
  halves ← halves_of 32 line
  act_of_word halves.before halves.behind

-- whether a stop keeps the change, by its word
abbrev pub kept_of_word : List ℕ → Option Bool
kept_of_word word =
    if bytes_eq word (codes "kept") then Some true
    else if bytes_eq word (codes "lost") then Some false
    else None

-- `kept` or `lost`, and an action
abbrev pub cut_event : List ℕ → Option Event
cut_event text = do
  halves ← halves_of 32 text
  kept ← kept_of_word halves.before
  act ← act_line halves.behind
  Some (Cut kept act)

-- `NODE`
abbrev pub restart_event : List ℕ → Option Event
restart_event text = do
  node ← number_of text
  Some (Restart node)

-- `NODE`, for a loss of its store
abbrev pub lost_event : List ℕ → Option Event
lost_event text = do
  node ← number_of text
  Some (Lost node)

-- a floor (the first free factor of a token): at most 2^62
abbrev pub next_of : List ℕ → Option ℕ
next_of text = do
  number ← number_of text
  if nat_le number (2 ^ 62) then Some number else None

-- a floor for each field
abbrev pub nexts_of : List (List ℕ) → Option (List ℕ)
nexts_of [] = Some []
nexts_of (field ∷ fields) = do
  next ← next_of field
  more ← nexts_of fields
  Some (next ∷ more)

-- `NODE BOOT NEXT ..`
abbrev pub anew_event : List ℕ → Option Event
anew_event text = do
  first ← halves_of 32 text
  second ← halves_of 32 first.behind
  node ← number_of first.before
  boot ← number_of second.before
  floors ← nexts_of (fields_of second.behind)
  Some (Anew node boot floors)

-- the event of a word and the text after the next space
abbrev pub event_of_word : List ℕ → List ℕ → Option Event
event_of_word word rest =
    if bytes_eq word (codes "restart") then restart_event rest
    else if bytes_eq word (codes "lost") then lost_event rest
    else if bytes_eq word (codes "anew") then anew_event rest
    else if bytes_eq word (codes "cut") then cut_event rest
    else do
      act ← act_of_word word rest
      Some (Happens act)

-- the event of a line, if it is in the grammar
abbrev pub event_line : List ℕ → Option Event
event_line line = do
  halves ← halves_of 32 line
  event_of_word halves.before halves.behind

-- the number of a node above `last`, at most `nodes`
abbrev pub member_above : ℕ → ℕ → List ℕ → Option ℕ
member_above nodes last text = do
  node ← number_of text
  if nat_lt last node && nat_le node nodes then Some node else None

-- the nodes of fields, in ascending order, above `last` and at most `nodes`
abbrev pub members_above : ℕ → ℕ → List (List ℕ) → Option (List ℕ)
members_above nodes last [] = Some []
members_above nodes last (field ∷ fields) = do
  node ← member_above nodes last field
  more ← members_above nodes node fields
  Some (node ∷ more)

-- `A B ..`: a strict majority of `nodes` nodes, in ascending order
abbrev pub live_members : ℕ → List ℕ → Option (List ℕ)
live_members nodes text = do
  live ← members_above nodes 0 (fields_of text)
  if nat_lt nodes (2 * length live) then Some live else None

-- the live members of a line, among `nodes` nodes
abbrev pub live_line : ℕ → List ℕ → Option (List ℕ)
live_line nodes line = do
  halves ← halves_of 32 line
  if bytes_eq halves.before (codes "live") then live_members nodes halves.behind else None

-- `NODE CLIENT MOMENT LINE`, at one of the live members
abbrev pub line_among : List ℕ → List ℕ → Option RoundLine
line_among live text = do
  said ← said_line text
  if is_live live said.node then Some said else None

-- the round of a line, among the live members
abbrev pub round_among : List ℕ → List ℕ → Option RoundLine
round_among live line = do
  halves ← halves_of 32 line
  if bytes_eq halves.before (codes "round") then line_among live halves.behind else None

-- a script with one event more
abbrev pub with_event : ScriptRecord → Event → ScriptRecord
with_event script event = record script { events = script.events ++ event ∷ [] }

-- a script with live members, whose events are complete
abbrev pub with_live : ScriptRecord → List ℕ → ScriptRecord
with_live script live = record script { live = live }

-- a script with one round more
abbrev pub with_round : ScriptRecord → RoundLine → ScriptRecord
with_round script round = record script { rounds = script.rounds ++ round ∷ [] }

-- a script with one line more, which has live members or an event
abbrev pub with_first_part : ℕ → ScriptRecord → List ℕ → Option ScriptRecord
with_first_part nodes script line =
    option_or (option_map (with_live script) (live_line nodes line)) (option_map (with_event script) (event_line line))

-- A script with one line more, for `nodes` nodes. After the live members all lines are rounds.
abbrev pub with_telling_line : ℕ → ScriptRecord → List ℕ → Option ScriptRecord
with_telling_line nodes script line =
    if length script.live == 0 then with_first_part nodes script line
    else option_map (with_round script) (round_among script.live line)

-- a script with one line more, which may be a remark
abbrev pub with_line : ℕ → ScriptRecord → List ℕ → Option ScriptRecord
with_line nodes script line = if is_remark line then Some script else with_telling_line nodes script line

-- the script of a text for `nodes` nodes, or the number, from 1, of its first bad line
abbrev pub script_of : ℕ → List ℕ → Result ScriptRecord ℕ
script_of nodes text = state_after (with_line nodes) 1 empty_script (lines_of text)
