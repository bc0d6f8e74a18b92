-- The grammar of scripts. The fields of a line are separated by single spaces.
use Rattle.std.specs.Prelude.{◌≡◌, ℕ, ◌+◌, ◌*◌, ◌^◌, ◌<◌, ◌≤◌, Bool, true, false, List, [], ◌∷◌, ◌++◌, length, Some, Ok, codes}
use Rattle.std.specs.List.{join_with_byte}
use Rattle.hex.specs.Hex.{decode_of}
use Rattle.field_text.specs.Number.{number_of}
use Rattle.cluster_sim.specs.Rounds.{IsAscending, RoundLine, is_live}
use Rattle.oathd_sim.specs.Lines.{fields_of, lines_of, telling_lines}
use Rattle.oathd_sim.specs.Event.{Act, Says, Deliver, Ticks, Noise, Event, Happens, Cut, Restart, Lost, Anew, ScriptRecord}

-- a line with these fields, separated by spaces
abbrev pub HasFields : List ℕ → List (List ℕ) → Type 0
HasFields line fields = line ≡ join_with_byte 32 fields

-- a number in decimal digits
abbrev pub IsNumber : List ℕ → ℕ → Type 0
IsNumber text number = number_of text ≡ Some number

-- bytes in 2 to 1,024 hexadecimal digits, two a byte, in either case
pub record IsHex (text bytes : List ℕ) : Type 0 where
  pub least : 2 ≤ length text
  pub most : length text ≤ 1024
  pub value : decode_of text ≡ Ok bytes

-- `WORD NODE CLIENT MOMENT LINE`; the client's line may be any bytes
pub record IsSaidLine (word line : List ℕ) (node client moment : ℕ) (said : List ℕ) : Type 0 where
  pub node_text : List ℕ
  pub client_text : List ℕ
  pub moment_text : List ℕ
  pub fields : HasFields line (word ∷ node_text ∷ client_text ∷ moment_text ∷ said ∷ [])
  pub is_node : IsNumber node_text node
  pub is_client : IsNumber client_text client
  pub is_moment : IsNumber moment_text moment

-- `deliver NODE K`
pub record IsDeliverLine (line : List ℕ) (node k : ℕ) : Type 0 where
  pub node_text : List ℕ
  pub k_text : List ℕ
  pub fields : HasFields line (codes "deliver" ∷ node_text ∷ k_text ∷ [])
  pub is_node : IsNumber node_text node
  pub is_k : IsNumber k_text k

-- `tick NODE`
pub record IsTickLine (line : List ℕ) (node : ℕ) : Type 0 where
  pub node_text : List ℕ
  pub fields : HasFields line (codes "tick" ∷ node_text ∷ [])
  pub is_node : IsNumber node_text node

-- `noise NODE FROM HEX`
pub record IsNoiseLine (line : List ℕ) (node from : ℕ) (bytes : List ℕ) : Type 0 where
  pub node_text : List ℕ
  pub from_text : List ℕ
  pub digits : List ℕ
  pub fields : HasFields line (codes "noise" ∷ node_text ∷ from_text ∷ digits ∷ [])
  pub is_node : IsNumber node_text node
  pub is_from : IsNumber from_text from
  pub is_hex : IsHex digits bytes

-- a line of an action at a node
abbrev pub IsActLine : List ℕ → Act → Type 0
IsActLine line (Says node client moment said) = IsSaidLine (codes "client") line node client moment said
IsActLine line (Deliver node k) = IsDeliverLine line node k
IsActLine line (Ticks node) = IsTickLine line node
IsActLine line (Noise node from bytes) = IsNoiseLine line node from bytes

-- `restart NODE`
pub record IsRestartLine (line : List ℕ) (node : ℕ) : Type 0 where
  pub node_text : List ℕ
  pub fields : HasFields line (codes "restart" ∷ node_text ∷ [])
  pub is_node : IsNumber node_text node

-- `lost NODE`
pub record IsLostLine (line : List ℕ) (node : ℕ) : Type 0 where
  pub node_text : List ℕ
  pub fields : HasFields line (codes "lost" ∷ node_text ∷ [])
  pub is_node : IsNumber node_text node

-- the numbers of texts, one each
abbrev pub AreNumbers : List (List ℕ) → List ℕ → Type 0
AreNumbers [] [] = Unit {0}
AreNumbers (text ∷ texts) (number ∷ numbers) = IsNumber text number × AreNumbers texts numbers
AreNumbers _ _ = ⊥

-- each number is at most `most`
abbrev pub AreUpTo : ℕ → List ℕ → Type 0
AreUpTo most [] = Unit {0}
AreUpTo most (number ∷ numbers) = (number ≤ most) × AreUpTo most numbers

-- `anew NODE BOOT NEXT ..`: the floors of the tokens from 0, each at most 2^62 (floor: the first free factor)
pub record IsAnewLine (line : List ℕ) (node boot : ℕ) (floors : List ℕ) : Type 0 where
  pub node_text : List ℕ
  pub boot_text : List ℕ
  pub text : List ℕ
  pub fields : HasFields line (codes "anew" ∷ node_text ∷ boot_text ∷ text ∷ [])
  pub is_node : IsNumber node_text node
  pub is_boot : IsNumber boot_text boot
  pub are_numbers : AreNumbers (fields_of text) floors
  pub within : AreUpTo (2 ^ 62) floors

-- the word for a stop that keeps the change, or loses it
abbrev pub kept_word : Bool → List ℕ
kept_word true = codes "kept"
kept_word false = codes "lost"

-- `cut kept EVENT` and `cut lost EVENT`, with an action at a node
pub record IsCutLine (line : List ℕ) (kept : Bool) (act : Act) : Type 0 where
  pub act_text : List ℕ
  pub fields : HasFields line (codes "cut" ∷ kept_word kept ∷ act_text ∷ [])
  pub is_act : IsActLine act_text act

-- the line grammar
abbrev pub IsEventLine : List ℕ → Event → Type 0
IsEventLine line (Happens act) = IsActLine line act
IsEventLine line (Cut kept act) = IsCutLine line kept act
IsEventLine line (Restart node) = IsRestartLine line node
IsEventLine line (Lost node) = IsLostLine line node
IsEventLine line (Anew node boot floors) = IsAnewLine line node boot floors

-- the lines of events, in order
abbrev pub SayEvents : List (List ℕ) → List Event → Type 0
SayEvents [] [] = Unit {0}
SayEvents (line ∷ lines) (event ∷ events) = IsEventLine line event × SayEvents lines events
SayEvents _ _ = ⊥

-- `live A B ..`: a strict majority of `nodes` nodes, in ascending order from 1
pub record IsLiveLine (nodes : ℕ) (line live : List ℕ) : Type 0 where
  pub text : List ℕ
  pub fields : HasFields line (codes "live" ∷ text ∷ [])
  pub are_numbers : AreNumbers (fields_of text) live
  pub ascending : IsAscending (0 ∷ live)
  pub within : AreUpTo nodes live
  pub majority : nodes < 2 * length live

-- `round NODE CLIENT MOMENT LINE`, at one of the live members
pub record IsRoundLine (live line : List ℕ) (round : RoundLine) : Type 0 where
  pub said : IsSaidLine (codes "round") line round.node round.client round.moment round.line
  pub at_live : is_live live round.node ≡ true

-- the lines of rounds among the live members, in order
abbrev pub SayRounds : List ℕ → List (List ℕ) → List RoundLine → Type 0
SayRounds live [] [] = Unit {0}
SayRounds live (line ∷ lines) (round ∷ rounds) = IsRoundLine live line round × SayRounds live lines rounds
SayRounds live _ _ = ⊥

-- the lines of live members and of rounds among them, or no lines for none
abbrev pub SayLast : ℕ → List (List ℕ) → List ℕ → List RoundLine → Type 0
SayLast nodes [] live rounds = (live ≡ []) × (rounds ≡ [])
SayLast nodes (line ∷ lines) live rounds = IsLiveLine nodes line live × SayRounds live lines rounds

-- the lines of a script for `nodes` nodes: its events, its live members, its rounds
pub record SayScript (nodes : ℕ) (lines : List (List ℕ)) (script : ScriptRecord) : Type 0 where
  pub first : List (List ℕ)
  pub last : List (List ℕ)
  pub parts : lines ≡ first ++ last
  pub events : SayEvents first script.events
  pub rounds : SayLast nodes last script.live script.rounds

-- the text of a script, with remarks
abbrev pub IsScript : ℕ → List ℕ → ScriptRecord → Type 0
IsScript nodes text script = SayScript nodes (telling_lines (lines_of text)) script

-- A text with the first bad line `number`, from 1: the lines before it are a script's, and with it they are none's.
pub record HasFirstBad (nodes : ℕ) (text : List ℕ) (number : ℕ) : Type 0 where
  pub front : List (List ℕ)
  pub line : List ℕ
  pub rest : List (List ℕ)
  pub parts : lines_of text ≡ front ++ line ∷ rest
  pub place : number ≡ length front + 1
  pub before : ScriptRecord
  pub is_good : SayScript nodes (telling_lines front) before
  pub is_bad : (script : ScriptRecord) → SayScript nodes (telling_lines (front ++ line ∷ [])) script → ⊥
