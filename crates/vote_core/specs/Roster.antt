-- A book that changes while the cluster serves: members enrol tokens one after another, in any order, while the others
-- serve.
--
-- Floor: the first free factor of a token at a node. A token's number is its canonical name here: one number for one
-- identity, the same at each member, and never one number for two. Numbers.antt has the numbers that a store gives to
-- its own rows.
--
-- In the cluster each member has a row for every token. `enrolled` says for which tokens the member's store really has
-- one. The row of a token that is not enrolled is a bound: its floor is the least that an enrolment there may give. A
-- member neither proposes nor tells a token that it has not enrolled, and drops messages about it.
--
-- Each action is an act of the schedule, or idleness if the roster doesn't allow it. Retiring a token is no event: its
-- row stays in the store, and the member no longer uses it. Taking a retired token back is no event either.
use Rattle.std.specs.Prelude.{◌≡◌, ℕ, ℤ, suc, ◌==◌, nat_le, Bool, true, false, not, ◌&&◌, ◌||◌, if◌then◌else◌, List, [], ◌∷◌, take, Option, Some, None, slice_get, ◌≤◌, ◌<◌}
use Rattle.std.specs.List.{filter}
use Rattle.otp_core.specs.Acceptance.{Acceptance}
use Rattle.otp_core.specs.Gate.{GateRecord}
use Rattle.vote_core.specs.Rows.{row}
use Rattle.vote_core.specs.Schedule.{Envelope, Cluster, Act, Begin, Deliver, Tick, TickTelling, Tell, Throttle, Idle, Raise, Event, Happens, Cut, Restart, Lost, Replaced, Opening, has_store, may_replace, after_event, start}
use Rattle.vote_core.specs.declared.message.Message.{Message}
use Rattle.vote_core.specs.declared.message.Message.TheVariants.{Ask, Grant, Deny, Floor}

-- a cluster, and the tokens enrolled at each node
pub record Roster : Type 0 where
  pub cluster : Cluster
  pub enrolled : ℕ → ℕ → Bool

-- An action of a node. Ticks and Tells list tokens, and the node tells the floors of the enrolled ones among them.
-- Enrols: the store gets rows for the given tokens without a row, each with the given floor. The node may be stopped or
-- running; a node that has to stop for it restarts afterwards.
pub data Deed : Type 0 where
  Proposes : (node token lo hi : ℕ) (drift : ℤ) → Deed
  Hears : (number : ℕ) → Deed
  Ticks : (node : ℕ) (told : List ℕ) → Deed
  Tells : (node : ℕ) (told : List ℕ) → Deed
  Throttles : (node token : ℕ) (gate : GateRecord) → Deed
  Enrols : (node : ℕ) (given : ℕ → Bool) (floor : ℕ → ℕ) → Deed
  Rests : (node : ℕ) → Deed

-- Renews: the lost node gets a replacement store with rows for the given tokens, each with the given floor.
pub data Happening : Type 0 where
  Does : (deed : Deed) → Happening
  Stops : (kept : Bool) (deed : Deed) → Happening
  Reopens : (node : ℕ) → Happening
  Loses : (node : ℕ) → Happening
  Renews : (node boot : ℕ) (given : ℕ → Bool) (floor : ℕ → ℕ) → Happening

-- the token of a message
abbrev pub token_of : Message → ℕ
token_of (Ask proposal token span) = token
token_of (Grant proposal token span) = token
token_of (Deny proposal token next) = token
token_of (Floor token next) = token

-- the act in which an envelope arrives; the receiver drops a message about a token that it hasn't enrolled
abbrev pub act_of_hearing : Roster → ℕ → Option Envelope → Act
act_of_hearing roster number None = Deliver number
act_of_hearing roster number (Some envelope) =
    if roster.enrolled envelope.receiver (token_of envelope.message) then Deliver number else Idle envelope.receiver

-- The action enrols the token: the token is given and not enrolled yet, and its floor is not below the bound. An
-- enrolled token keeps its row, even if the node retired it.
abbrev pub is_new : Roster → ℕ → (ℕ → Bool) → (ℕ → ℕ) → ℕ → Bool
is_new roster node given floor token =
    given token
    && (not (roster.enrolled node token)
    && nat_le (row (roster.cluster.nodes node).content token).next (floor token))

-- the act of the schedule for an action
abbrev pub act_of : Roster → Deed → Act
act_of roster (Proposes node token lo hi drift) =
    if roster.enrolled node token then Begin node token lo hi drift else Idle node
act_of roster (Hears number) = act_of_hearing roster number (slice_get roster.cluster.sent number)
act_of roster (Ticks node told) = TickTelling node (filter (roster.enrolled node) told)
act_of roster (Tells node told) = Tell node (filter (roster.enrolled node) told)
act_of roster (Throttles node token gate) =
    if roster.enrolled node token then Throttle node token gate else Idle node
act_of roster (Enrols node given floor) =
    Raise node (λ token. if is_new roster node given floor token then floor token else 0)
act_of roster (Rests node) = Idle node

-- the floors of a replacement store; a token that isn't given keeps the bound that holds for it
abbrev pub renewed_floor : Cluster → (ℕ → Bool) → (ℕ → ℕ) → ℕ → ℕ
renewed_floor cluster given floor token = if given token then floor token else cluster.least token

-- the event of the schedule
abbrev pub event_of : Roster → Happening → Event
event_of roster (Does deed) = Happens (act_of roster deed)
event_of roster (Stops kept deed) = Cut kept (act_of roster deed)
event_of roster (Reopens node) = Restart node
event_of roster (Loses node) = Lost node
event_of roster (Renews node boot given floor) =
    Replaced node boot (renewed_floor roster.cluster given floor)

-- the tokens by node, with other tokens at the node `changed`
abbrev pub with_tokens : ℕ → (ℕ → Bool) → (ℕ → ℕ → Bool) → ℕ → ℕ → Bool
with_tokens changed tokens enrolled node = if node == changed then tokens else enrolled node

-- the tokens enrolled after an action that was kept
abbrev pub enrolled_by : Roster → Deed → ℕ → ℕ → Bool
enrolled_by roster (Proposes node token lo hi drift) = roster.enrolled
enrolled_by roster (Hears number) = roster.enrolled
enrolled_by roster (Ticks node told) = roster.enrolled
enrolled_by roster (Tells node told) = roster.enrolled
enrolled_by roster (Throttles node token gate) = roster.enrolled
enrolled_by roster (Enrols node given floor) =
    if has_store roster.cluster node
    then with_tokens node (λ token. roster.enrolled node token || is_new roster node given floor token) roster.enrolled
    else roster.enrolled
enrolled_by roster (Rests node) = roster.enrolled

-- the tokens enrolled after an event; a lost node keeps its list until its store is replaced
abbrev pub enrolled_after : Roster → Happening → ℕ → ℕ → Bool
enrolled_after roster (Does deed) = enrolled_by roster deed
enrolled_after roster (Stops true deed) = enrolled_by roster deed
enrolled_after roster (Stops false deed) = roster.enrolled
enrolled_after roster (Reopens node) = roster.enrolled
enrolled_after roster (Loses node) = roster.enrolled
enrolled_after roster (Renews node boot given floor) =
    if may_replace roster.cluster node boot (renewed_floor roster.cluster given floor)
    then with_tokens node given roster.enrolled
    else roster.enrolled

-- the roster after the event of the given number
abbrev pub after_happening : ℕ → Happening → Roster → Roster
after_happening event happening roster = record {
  cluster = after_event event (event_of roster happening) roster.cluster;
  enrolled = enrolled_after roster happening;
}

-- the roster after the events, the first of which has the given number
unfoldable pub serve : ℕ → List Happening → Roster → Roster
serve first [] roster = roster
serve first (happening ∷ more) roster = serve (suc first) more (after_happening first happening roster)

-- A roster after its opening, with the tokens enrolled at each node. The opening's floor of any other token is its
-- bound.
abbrev pub opened : ℕ → ℕ → Opening → (ℕ → ℕ → Bool) → Roster
opened n tokens opening enrolled = record { cluster = start n tokens opening; enrolled = enrolled }

-- the roster after its opening and the events
abbrev pub served : ℕ → ℕ → Opening → (ℕ → ℕ → Bool) → List Happening → Roster
served n tokens opening enrolled happenings = serve 0 happenings (opened n tokens opening enrolled)

-- all acceptances
abbrev pub taken : ℕ → ℕ → Opening → (ℕ → ℕ → Bool) → List Happening → List Acceptance
taken n tokens opening enrolled happenings = (served n tokens opening enrolled happenings).cluster.accepted

-- all messages sent
abbrev pub posted : ℕ → ℕ → Opening → (ℕ → ℕ → Bool) → List Happening → List Envelope
posted n tokens opening enrolled happenings = (served n tokens opening enrolled happenings).cluster.sent

-- the floor that the node has of the token before the event of the given number
abbrev pub free_before : ℕ → ℕ → Opening → (ℕ → ℕ → Bool) → List Happening → ℕ → ℕ → ℕ → ℕ
free_before n tokens opening enrolled happenings node token event =
    (row ((served n tokens opening enrolled (take event happenings)).cluster.nodes node).content token).next

-- the action is the proposal of the acceptance
abbrev pub IsDeedOf : Acceptance → Deed → Type 0
IsDeedOf acceptance (Proposes node token lo hi drift) =
    (node ≡ acceptance.node) × (token ≡ acceptance.token) × (lo ≡ acceptance.lo) × (hi ≡ acceptance.hi)
IsDeedOf acceptance (Hears number) = ⊥
IsDeedOf acceptance (Ticks node told) = ⊥
IsDeedOf acceptance (Tells node told) = ⊥
IsDeedOf acceptance (Throttles node token gate) = ⊥
IsDeedOf acceptance (Enrols node given floor) = ⊥
IsDeedOf acceptance (Rests node) = ⊥

-- the event is the proposal of the acceptance, and its change was kept
abbrev pub IsDoneIn : Acceptance → Option Happening → Type 0
IsDoneIn acceptance None = ⊥
IsDoneIn acceptance (Some (Does deed)) = IsDeedOf acceptance deed
IsDoneIn acceptance (Some (Stops true deed)) = IsDeedOf acceptance deed
IsDoneIn acceptance (Some (Stops false deed)) = ⊥
IsDoneIn acceptance (Some (Reopens node)) = ⊥
IsDoneIn acceptance (Some (Loses node)) = ⊥
IsDoneIn acceptance (Some (Renews node boot given floor)) = ⊥

-- each acceptance was proposed in the event in which it began
abbrev pub AreDone : List Happening → List Acceptance → Type 0
AreDone happenings accepted =
    (i : ℕ) (acceptance : Acceptance) → slice_get accepted i ≡ Some acceptance
    → IsDoneIn acceptance (slice_get happenings acceptance.began)

-- no event from `first` to before `later` replaces the node's store
abbrev pub SparesStore : List Happening → ℕ → ℕ → ℕ → Type 0
SparesStore happenings node first later =
    (event boot : ℕ) (given : ℕ → Bool) (floor : ℕ → ℕ) → first ≤ event → event < later
    → slice_get happenings event ≡ Some (Renews node boot given floor) → ⊥

-- Each replacement store gets every token that another member with a store has enrolled at the time.
abbrev pub AreGivenAll : ℕ → ℕ → Opening → (ℕ → ℕ → Bool) → List Happening → Type 0
AreGivenAll n tokens opening enrolled happenings =
    (event node boot : ℕ) (given : ℕ → Bool) (floor : ℕ → ℕ)
    → slice_get happenings event ≡ Some (Renews node boot given floor)
    → (other token : ℕ) → has_store (served n tokens opening enrolled (take event happenings)).cluster other ≡ true
    → (served n tokens opening enrolled (take event happenings)).enrolled other token ≡ true → given token ≡ true

-- no opening bound for the tokens that aren't enrolled
abbrev pub AreUnbound : Opening → (ℕ → ℕ → Bool) → Type 0
AreUnbound opening enrolled = (node token : ℕ) → enrolled node token ≡ false → opening.floor node token ≡ 0

-- if the event gives the token, its floor is at least `least`
abbrev pub IsGivenFrom : ℕ → ℕ → Happening → Type 0
IsGivenFrom token least (Does (Enrols node given floor)) = given token ≡ true → least ≤ floor token
IsGivenFrom token least (Stops kept (Enrols node given floor)) = given token ≡ true → least ≤ floor token
IsGivenFrom token least (Renews node boot given floor) = given token ≡ true → least ≤ floor token
IsGivenFrom token least happening = Unit {0}

-- the token is enrolled with no floor below `least`, at the opening or later
abbrev pub IsEnrolledFrom : ℕ → ℕ → Opening → (ℕ → ℕ → Bool) → List Happening → Type 0
IsEnrolledFrom token least opening enrolled happenings =
    ((node : ℕ) → enrolled node token ≡ true → least ≤ opening.floor node token)
    × ((event : ℕ) (happening : Happening) → slice_get happenings event ≡ Some happening
    → IsGivenFrom token least happening)

-- ---- a book that never changes

-- every token, enrolled at every member
abbrev pub all_tokens : ℕ → ℕ → Bool
all_tokens node token = true

-- The action of an act when all tokens are enrolled: a tick tells the floor of the turn's token. Nothing is left to
-- enrol.
abbrev pub deed_of : Cluster → Act → Deed
deed_of cluster (Begin node token lo hi drift) = Proposes node token lo hi drift
deed_of cluster (Deliver number) = Hears number
deed_of cluster (Tick node) = Ticks node ((cluster.nodes node).voter.turn ∷ [])
deed_of cluster (Throttle node token gate) = Throttles node token gate
deed_of cluster (Idle node) = Rests node
deed_of cluster (TickTelling node told) = Ticks node told
deed_of cluster (Tell node told) = Tells node told
deed_of cluster (Raise node floor) = Rests node

-- the event of a roster for an event of the schedule when all tokens are enrolled
abbrev pub happening_of : Cluster → Event → Happening
happening_of cluster (Happens act) = Does (deed_of cluster act)
happening_of cluster (Cut kept act) = Stops kept (deed_of cluster act)
happening_of cluster (Restart node) = Reopens node
happening_of cluster (Lost node) = Loses node
happening_of cluster (Replaced node boot floor) = Renews node boot (λ token. true) floor

-- the events of a roster for the events of the schedule from the cluster on, the first of which has the given number
unfoldable pub happenings_of : ℕ → List Event → Cluster → List Happening
happenings_of first [] cluster = []
happenings_of first (event ∷ events) cluster =
    happening_of cluster event ∷ happenings_of (suc first) events (after_event first event cluster)

-- the event raises no floors; no event does over a book that never changes
abbrev pub RaisesNone : Event → Type 0
RaisesNone (Happens (Raise node floor)) = ⊥
RaisesNone (Cut kept (Raise node floor)) = ⊥
RaisesNone event = Unit {0}

abbrev pub RaiseNone : List Event → Type 0
RaiseNone events = (i : ℕ) (event : Event) → slice_get events i ≡ Some event → RaisesNone event
