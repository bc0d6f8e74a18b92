-- Members whose users files change. A store has a row for each token that its node ever enrolled. The node's process
-- sees the tokens of its users file alone, in their order there. Each has a seat, whose number is its place in the
-- file. Messages and records are under the tokens' canonical names. Floor: the first free factor of a token at a node.
--
-- A start may be with other seats: users came, went or came back, and lines changed places. The rows of users that went
-- stay in the store, aside.
use Rattle.std.specs.Prelude.{◌≡◌, ℕ, suc, ◌<◌, ◌≤◌, ◌==◌, nat_le, nat_lt, Bool, true, false, not, ◌&&◌, ◌||◌, if◌then◌else◌, List, [], ◌∷◌, length, map, take, Option, Some, None, slice_get, slice_index_or, option_map}
use Rattle.std.specs.List.{list_all, list_any}
use Rattle.std.specs.Option.{option_and_then, option_or}
use Rattle.floor_store.specs.Content.{Content, opening_row}
use Rattle.floor_store.specs.Records.{PassRecord, RowRecord}
use Rattle.otp_core.specs.Acceptance.{Acceptance, majority_of, size}
use Rattle.seated_store.specs.Seats.{with_token}
use Rattle.vote_core.specs.Books.{Books, Doing, Begins, Gets, Turns, Speaks, Shuts, Adds, Waits, IsBegunIn, are_apart, blank_books, deed_by, doer_of, is_number, number_at, number_of, own_after, with_names}
use Rattle.vote_core.specs.NodeSet.{with_node}
use Rattle.vote_core.specs.Numbers.{named_pass}
use Rattle.vote_core.specs.Roster.{Deed, Enrols, Hears, Rests, Happening, Does, Stops, Reopens, Loses, Renews, token_of, with_tokens}
use Rattle.vote_core.specs.Rows.{row}
use Rattle.vote_core.specs.Schedule.{Cluster, Envelope, after_restart, all_most, greatest, has_store, is_member, last_boot, lost_member, opening_member, restarted_member, set_node, with_member, with_sent_of, without_node}

-- The processes see the books `seen`, whose numbers are seats. Each node's store has rows for the tokens `enrolled`.
-- The rows without a seat are aside. `last` is the last pass that the store had when the process started, under its
-- token's name.
pub record Sites : Type 0 where
  pub seen : Books
  pub enrolled : ℕ → ℕ → Bool
  pub aside : ℕ → ℕ → RowRecord
  pub last : ℕ → Option PassRecord

-- Starts: the node's process restarts, with a seat for each of the tokens `seats`. Remade: a replacement store of a
-- lost node, with rows for the tokens `given`, and floors by name.
--
-- After `Breaks` the process has the seats that it had. A stop inside a step may be followed by other seats. It is
-- `Runs` whose messages never arrive, or no event if its change is dropped, followed by `Starts`.
pub data Course : Type 0 where
  Runs : (doing : Doing) → Course
  Breaks : (kept : Bool) (doing : Doing) → Course
  Starts : (node : ℕ) (seats : List ℕ) → Course
  Gone : (node : ℕ) → Course
  Remade : (node boot : ℕ) (given : List ℕ) (floor : ℕ → ℕ) → Course

-- ---- what a store has

-- the row that the node's store has of the token, which has the given seat
abbrev pub row_at : Sites → ℕ → ℕ → Option ℕ → RowRecord
row_at sites node token None = sites.aside node token
row_at sites node token (Some seat) = row (sites.seen.own.nodes node).content seat

-- the row that the node's store has of the token
abbrev pub stored_row : Sites → ℕ → ℕ → RowRecord
stored_row sites node token = row_at sites node token (number_at sites.seen node token)

-- the last pass of the node's store
abbrev pub stored_last : Sites → ℕ → Option PassRecord
stored_last sites node =
    let seen = (sites.seen.own.nodes node).content.last in
    option_or (option_map (named_pass (sites.seen.name node)) seen) (sites.last node)

-- the floor that the node's store has of the token, seated or not; 0 if it has no row for it
abbrev pub free_of : Sites → ℕ → ℕ → ℕ
free_of sites node token = if sites.enrolled node token then (stored_row sites node token).next else 0

-- the rows by node, with other rows at the node `changed`
abbrev pub with_rows : ℕ → (ℕ → RowRecord) → (ℕ → ℕ → RowRecord) → ℕ → ℕ → RowRecord
with_rows changed rows aside node = if node == changed then rows else aside node

-- the last passes by node, with another one at the node `changed`
abbrev pub with_last : ℕ → Option PassRecord → (ℕ → Option PassRecord) → ℕ → Option PassRecord
with_last changed pass last node = if node == changed then pass else last node

-- the sites with other processes
abbrev pub with_own : Cluster → Sites → Sites
with_own own sites = record sites { seen = record sites.seen { own = own } }

-- ---- a start

-- the token of a seat
abbrev pub seat_name : List ℕ → ℕ → ℕ
seat_name seats seat = slice_index_or seats seat 0

-- the pass by its token's seat, or None if its token has no seat
abbrev pub seated_pass : List ℕ → PassRecord → Option PassRecord
seated_pass seats pass = option_map (with_token pass) (number_of (length seats) (seat_name seats) pass.token)

-- what a process with the seats sees of the node's store
abbrev pub seat_content : Sites → ℕ → List ℕ → Content
seat_content sites node seats = record {
  rows = map (stored_row sites node) seats;
  boot = (sites.seen.own.nodes node).content.boot;
  last = option_and_then (seated_pass seats) (stored_last sites node);
}

-- The sites after a start of the node's process with the seats. The rows of all former seats go aside first.
abbrev pub with_seats : ℕ → List ℕ → Sites → Sites
with_seats node seats sites =
    let member = record (sites.seen.own.nodes node) { content = seat_content sites node seats } in
    record sites {
      seen = record sites.seen {
        name = with_names node (seat_name seats) sites.seen.name;
        own = with_member node (restarted_member member) sites.seen.own;
      };
      aside = with_rows node (stored_row sites node) sites.aside;
      last = with_last node (stored_last sites node) sites.last;
    }

-- A process may start with the seats. The node has its store and a boot left. No two seats have the same token, and the
-- store has a row for each.
abbrev pub may_seat : Sites → ℕ → List ℕ → Bool
may_seat sites node seats =
    (has_store sites.seen.own node && nat_lt (sites.seen.own.nodes node).content.boot last_boot)
    && (are_apart (length seats) (seat_name seats) && list_all (sites.enrolled node) seats)

-- the sites after a start of the node, with the seats that it had if these may not be
abbrev pub after_start : ℕ → List ℕ → Sites → Sites
after_start node seats sites =
    if may_seat sites node seats
    then with_seats node seats sites
    else with_own (after_restart (Some node) sites.seen.own) sites

-- ---- an action

-- the node's store may get a row for the token
abbrev pub may_add : Sites → ℕ → ℕ → Bool
may_add sites node token =
    has_store sites.seen.own node && (nat_lt token sites.seen.tokens && not (sites.enrolled node token))

-- the rows, with an opening row of the token
abbrev pub with_opening : ℕ → ℕ → (ℕ → RowRecord) → ℕ → RowRecord
with_opening token floor rows other = if other == token then opening_row floor else rows other

-- the sites after the node's store got a row for the token, which has no seat before the next start
abbrev pub after_adding : ℕ → ℕ → ℕ → Sites → Sites
after_adding node token floor sites =
    if may_add sites node token
    then record sites {
      enrolled = with_tokens node (λ other. sites.enrolled node other || (other == token)) sites.enrolled;
      aside = with_rows node (with_opening token floor (sites.aside node)) sites.aside;
    }
    else sites

-- The sites after an action in the event: as in books, over seats. A message for a token without a seat is dropped.
abbrev pub after_doing : ℕ → Doing → Sites → Sites
after_doing event (Adds node token floor) sites = after_adding node token floor sites
after_doing event (Begins node seat lo hi drift) sites =
    with_own (own_after event (Begins node seat lo hi drift) sites.seen) sites
after_doing event (Gets message) sites = with_own (own_after event (Gets message) sites.seen) sites
after_doing event (Turns node) sites = with_own (own_after event (Turns node) sites.seen) sites
after_doing event (Speaks node seats) sites = with_own (own_after event (Speaks node seats) sites.seen) sites
after_doing event (Shuts node seat gate) sites = with_own (own_after event (Shuts node seat gate) sites.seen) sites
after_doing event (Waits node) sites = sites

-- ---- a loss, and a replacement store

-- the members after the node lost its store
abbrev pub own_lost : ℕ → Sites → Cluster
own_lost node sites =
    let own = sites.seen.own in
    if has_store own node
    then record own {
      nodes = set_node node (lost_member (own.nodes node)) own.nodes;
      lost = with_node node own.lost;
      least = λ token. greatest own.n (with_node node own.lost) (λ other. free_of sites other token);
    }
    else own

-- the token is among the given ones
abbrev pub is_among : List ℕ → ℕ → Bool
is_among given token = list_any (λ other. other == token) given

-- the floor of the token in a store with rows for the given tokens; 0 if it has no row for it
abbrev pub made_floor : List ℕ → (ℕ → ℕ) → ℕ → ℕ
made_floor given floor token = if is_among given token then floor token else 0

-- The conditions for a replacement store, as in books. The store's floors are at least those that the remaining nodes
-- had at the latest loss.
abbrev pub may_remake : Sites → ℕ → ℕ → List ℕ → (ℕ → ℕ) → Bool
may_remake sites node boot given floor =
    let own = sites.seen.own in
    list_all (λ token. nat_lt token sites.seen.tokens) given
    && ((is_member own.n node && own.lost node)
    && (nat_lt (size own.n own.lost) (majority_of own.n)
    && (nat_le (own.nodes node).content.boot boot
    && (nat_le boot last_boot
    && all_most sites.seen.tokens own.least (made_floor given floor)))))

-- The sites after a store is replaced for a node, if the rule allows it. All rows are aside, and the node has no seats
-- before its next start.
abbrev pub after_remaking : ℕ → ℕ → List ℕ → (ℕ → ℕ) → Sites → Sites
after_remaking node boot given floor sites =
    let own = sites.seen.own in
    let remade = record own {
      nodes = set_node node (opening_member boot 0 (λ seat. 0)) own.nodes;
      lost = without_node node own.lost;
    } in
    if may_remake sites node boot given floor
    then record sites {
      seen = record sites.seen { own = remade };
      enrolled = with_tokens node (is_among given) sites.enrolled;
      aside = with_rows node (λ token. opening_row (floor token)) sites.aside;
      last = with_last node None sites.last;
    }
    else sites

-- ---- all events

-- the sites after the event
unfoldable pub after_course : ℕ → Course → Sites → Sites
after_course event (Runs doing) sites = after_doing event doing sites
after_course event (Breaks true doing) sites =
    let done = after_doing event doing sites in
    with_own (after_restart (doer_of doing sites.seen) (with_sent_of sites.seen.own done.seen.own)) done
after_course event (Breaks false doing) sites =
    with_own (after_restart (doer_of doing sites.seen) sites.seen.own) sites
after_course event (Starts node seats) sites = after_start node seats sites
after_course event (Gone node) sites = with_own (own_lost node sites) sites
after_course event (Remade node boot given floor) sites = after_remaking node boot given floor sites

-- the sites after the events, the first of which has the given number
unfoldable pub go : ℕ → List Course → Sites → Sites
go first [] sites = sites
go first (course ∷ more) sites = go (suc first) more (after_course first course sites)

-- members that open with empty stores at the given boots, with messages of their former stores on their way
abbrev pub blank_sites : ℕ → ℕ → (ℕ → ℕ) → List Envelope → Sites
blank_sites n tokens boot old = record {
  seen = blank_books n tokens boot old;
  enrolled = λ node token. false;
  aside = λ node token. opening_row 0;
  last = λ node. None;
}

-- ---- the roster over canonical names

-- the action in which an envelope arrives; the receiver drops a message for a token without a seat
abbrev pub deed_of_hearing : Sites → ℕ → Option Envelope → Deed
deed_of_hearing sites message None = Hears message
deed_of_hearing sites message (Some envelope) =
    if is_number (number_at sites.seen envelope.receiver (token_of envelope.message)) then Hears message
    else Rests envelope.receiver

-- the action of the roster
abbrev pub deed_at : Sites → Doing → Deed
deed_at sites (Adds node token floor) =
    if may_add sites node token then Enrols node (λ other. other == token) (λ other. floor) else Rests node
deed_at sites (Begins node seat lo hi drift) = deed_by sites.seen (Begins node seat lo hi drift)
deed_at sites (Gets message) = deed_of_hearing sites message (slice_get sites.seen.own.sent message)
deed_at sites (Turns node) = deed_by sites.seen (Turns node)
deed_at sites (Speaks node seats) = deed_by sites.seen (Speaks node seats)
deed_at sites (Shuts node seat gate) = deed_by sites.seen (Shuts node seat gate)
deed_at sites (Waits node) = deed_by sites.seen (Waits node)

-- the event of the roster
abbrev pub happening_at : Sites → Course → Happening
happening_at sites (Runs doing) = Does (deed_at sites doing)
happening_at sites (Breaks kept doing) = Stops kept (deed_at sites doing)
happening_at sites (Starts node seats) = Reopens node
happening_at sites (Gone node) = Loses node
happening_at sites (Remade node boot given floor) =
    if may_remake sites node boot given floor then Renews node boot (is_among given) floor else Does (Rests node)

-- the events of the roster for the events from the sites on
unfoldable pub happenings_at : ℕ → List Course → Sites → List Happening
happenings_at first [] sites = []
happenings_at first (course ∷ more) sites =
    happening_at sites course ∷ happenings_at (suc first) more (after_course first course sites)

-- ---- what the laws say

-- the floor that the node's store has of the token before the event of the given number
abbrev pub free_in : Sites → List Course → ℕ → ℕ → ℕ → ℕ
free_in sites courses node token event = free_of (go 0 (take event courses) sites) node token

-- no event from `first` to before `later` replaces the node's store
abbrev pub KeepsStore : List Course → ℕ → ℕ → ℕ → Type 0
KeepsStore courses node first later =
    (event boot : ℕ) (given : List ℕ) (floor : ℕ → ℕ) → first ≤ event → event < later
    → slice_get courses event ≡ Some (Remade node boot given floor) → ⊥

-- if the event gives a store a row for the token, its floor is at least `least`
abbrev pub IsAddedFrom : ℕ → ℕ → Course → Type 0
IsAddedFrom token least (Runs (Adds node other floor)) = other ≡ token → least ≤ floor
IsAddedFrom token least (Breaks kept (Adds node other floor)) = other ≡ token → least ≤ floor
IsAddedFrom token least (Remade node boot given floor) = least ≤ floor token
IsAddedFrom token least course = Unit {0}

-- each of the events gives rows for the token only with floors of at least `least`
abbrev pub AreAddedFrom : ℕ → ℕ → List Course → Type 0
AreAddedFrom token least courses =
    (i : ℕ) (course : Course) → slice_get courses i ≡ Some course → IsAddedFrom token least course

-- the event is the proposal of the acceptance, and its change was kept
abbrev pub IsBegunBy : (ℕ → ℕ → ℕ) → Acceptance → Option Course → Type 0
IsBegunBy name acceptance None = ⊥
IsBegunBy name acceptance (Some (Runs doing)) = IsBegunIn name acceptance doing
IsBegunBy name acceptance (Some (Breaks true doing)) = IsBegunIn name acceptance doing
IsBegunBy name acceptance (Some (Breaks false doing)) = ⊥
IsBegunBy name acceptance (Some (Starts node seats)) = ⊥
IsBegunBy name acceptance (Some (Gone node)) = ⊥
IsBegunBy name acceptance (Some (Remade node boot given floor)) = ⊥

-- each acceptance was proposed in the event in which it began, under the names that the seats had at that time
abbrev pub AreBegun : Sites → List Course → List Acceptance → Type 0
AreBegun sites courses accepted =
    (i : ℕ) (acceptance : Acceptance) → slice_get accepted i ≡ Some acceptance
    → IsBegunBy (go 0 (take acceptance.began courses) sites).seen.name acceptance
    (slice_get courses acceptance.began)
