-- Members with books of their own: each store has rows for some tokens and numbers them in its own order. Messages and
-- records are under the tokens' canonical names. Floor: the first free factor of a token at a node.
use Rattle.std.specs.Prelude.{◌≡◌, ℕ, ℤ, zero, suc, ◌<◌, ◌≤◌, ◌^◌, ◌==◌, nat_le, nat_lt, Bool, true, false, not, ◌&&◌, if◌then◌else◌, List, [], ◌∷◌, length, map, take, Option, Some, None, slice_get}
use Rattle.std.specs.List.{filter}
use Rattle.otp_core.specs.Acceptance.{Acceptance, majority_of, size}
use Rattle.otp_core.specs.Gate.{GateRecord}
use Rattle.vote_core.specs.NodeSet.{with_node}
use Rattle.vote_core.specs.Numbers.{named_made, named_send, named_turn, with_new_row}
use Rattle.vote_core.specs.Roster.{Deed, Proposes, Hears, Ticks, Tells, Throttles, Enrols, Rests, Happening, Does, Stops, Reopens, Loses, Renews, token_of}
use Rattle.vote_core.specs.Rows.{row}
use Rattle.vote_core.specs.Safety.{IsDeliverable}
use Rattle.vote_core.specs.Schedule.{Envelope, Cluster, Opening, is_member, has_store, is_running, place_of, set_node, with_member, stopped_member, lost_member, cluster_after, with_proposal_begun, may_begin, content_with_gate, receiver_of, after_restart, with_sent_of, greatest, all_most, last_boot, opening_member, without_node}
use Rattle.vote_core.specs.Voting.{Voted, quiet_step, propose, on_message, tick, tell}
use Rattle.vote_core.specs.declared.message.Message.{Message}
use Rattle.vote_core.specs.declared.message.Message.TheVariants.{Ask, Grant, Deny, Floor}

-- The number of names, the name of each row of each node, and the members. The contents and voters of members have
-- their own numbers. Everything else in the cluster is under names.
pub record Books : Type 0 where
  pub tokens : ℕ
  pub name : ℕ → ℕ → ℕ
  pub own : Cluster

-- An action of a member. Adds: its store gets a row for the token `token`, at the end.
pub data Doing : Type 0 where
  Begins : (node number lo hi : ℕ) (drift : ℤ) → Doing
  Gets : (message : ℕ) → Doing
  Turns : (node : ℕ) → Doing
  -- tells the others the floors of the member's rows `numbers`
  Speaks : (node : ℕ) (numbers : List ℕ) → Doing
  Shuts : (node number : ℕ) (gate : GateRecord) → Doing
  Adds : (node token floor : ℕ) → Doing
  Waits : (node : ℕ) → Doing

-- Remade: a replacement store of a lost node, with `count` rows of tokens with the names `name`, and floors by name.
pub data Course : Type 0 where
  Runs : (doing : Doing) → Course
  Breaks : (kept : Bool) (doing : Doing) → Course
  Starts : (node : ℕ) → Course
  Gone : (node : ℕ) → Course
  Remade : (node boot count : ℕ) (name floor : ℕ → ℕ) → Course

-- the number of the row with the name `token`, among the given number of rows
abbrev pub number_of : ℕ → (ℕ → ℕ) → ℕ → Option ℕ
number_of zero name token = None
number_of (suc number) name token = if name number == token then Some number else number_of number name token

-- whether there is a number
abbrev pub is_number : Option ℕ → Bool
is_number None = false
is_number (Some number) = true

-- each of the given number of rows has one of the `tokens` names
abbrev pub are_names : ℕ → ℕ → (ℕ → ℕ) → Bool
are_names tokens zero name = true
are_names tokens (suc number) name = nat_lt (name number) tokens && are_names tokens number name

-- no two of the given number of rows share a name
abbrev pub are_apart : ℕ → (ℕ → ℕ) → Bool
are_apart zero name = true
are_apart (suc number) name = not (is_number (number_of number name (name number))) && are_apart number name

-- the number of rows in the node's store
abbrev pub rows_of : Books → ℕ → ℕ
rows_of books node = length (books.own.nodes node).content.rows

-- the number that the node gives to the token `token`
abbrev pub number_at : Books → ℕ → ℕ → Option ℕ
number_at books node token = number_of (rows_of books node) (books.name node) token

-- the message with the receiver's number of its token
abbrev pub numbered_message : ℕ → Message → Message
numbered_message number (Ask proposal token span) = Ask proposal number span
numbered_message number (Grant proposal token span) = Grant proposal number span
numbered_message number (Deny proposal token next) = Deny proposal number next
numbered_message number (Floor token next) = Floor number next

-- the step with its messages and decisions under names
abbrev pub named_step : (ℕ → ℕ) → Voted → Voted
named_step name step =
    record step { sends = map (named_send name) step.sends; decisions = map (named_made name) step.decisions }

-- the members after a message that has this number at its receiver; without a number it is dropped
abbrev pub after_number : ℕ → Envelope → Option ℕ → Books → Cluster
after_number event envelope None books = books.own
after_number event envelope (Some number) books =
    let node = envelope.receiver in
    let member = books.own.nodes node in
    let step = on_message (place_of books.own node) envelope.sender (numbered_message number envelope.message)
    member.content member.voter in
    if is_running books.own node
    then cluster_after event node (named_step (books.name node) step) books.own
    else books.own

-- the members after a message arrives, under the number that its receiver gives to the token's name
abbrev pub after_getting : ℕ → Option Envelope → Books → Cluster
after_getting event None books = books.own
after_getting event (Some envelope) books =
    after_number event envelope (number_at books envelope.receiver (token_of envelope.message)) books

-- the members after a node proposes; a node without a proposal number left stops
abbrev pub after_beginning : ℕ → ℕ → ℕ → ℕ → ℕ → ℤ → Books → Cluster
after_beginning event node number lo hi drift books =
    let member = books.own.nodes node in
    let step = propose (place_of books.own node) number lo hi drift member.content member.voter in
    if nat_lt member.voter.seq (2 ^ 62)
    then cluster_after event node (named_step (books.name node) step)
    (with_proposal_begun event node (books.name node number) lo hi books.own)
    else with_member node (stopped_member member) books.own

-- the node's store may get a row for the token `token`
abbrev pub may_add : Books → ℕ → ℕ → Bool
may_add books node token =
    has_store books.own node && (nat_lt token books.tokens && not (is_number (number_at books node token)))

-- the numbers for which the node has a row
abbrev pub known_numbers : Books → ℕ → List ℕ → List ℕ
known_numbers books node numbers = filter (λ number. nat_lt number (rows_of books node)) numbers

-- the members after an action in the event
abbrev pub own_after : ℕ → Doing → Books → Cluster
own_after event (Begins node number lo hi drift) books =
    if may_begin books.own node number lo hi then after_beginning event node number lo hi drift books else books.own
own_after event (Gets message) books = after_getting event (slice_get books.own.sent message) books
own_after event (Turns node) books =
    let member = books.own.nodes node in
    let step = tick (place_of books.own node) member.content member.voter in
    if is_running books.own node
    then cluster_after event node (named_step (books.name node) step) books.own
    else books.own
own_after event (Speaks node numbers) books =
    let member = books.own.nodes node in
    let step = tell (place_of books.own node) (known_numbers books node numbers) member.content member.voter in
    if is_running books.own node
    then cluster_after event node (named_step (books.name node) step) books.own
    else books.own
own_after event (Shuts node number gate) books =
    let member = books.own.nodes node in
    let step = quiet_step (content_with_gate number gate member.content) member.voter in
    if is_running books.own node && nat_lt number (rows_of books node)
    then cluster_after event node step books.own
    else books.own
own_after event (Adds node token floor) books =
    let member = books.own.nodes node in
    if may_add books node token
    then with_member node (record member { content = with_new_row floor member.content }) books.own
    else books.own
own_after event (Waits node) books = books.own

-- the names, with the name `token` for the row `number`
abbrev pub with_name : ℕ → ℕ → (ℕ → ℕ) → ℕ → ℕ
with_name number token name other = if other == number then token else name other

-- the names by node, with other names at the node `changed`
abbrev pub with_names : ℕ → (ℕ → ℕ) → (ℕ → ℕ → ℕ) → ℕ → ℕ → ℕ
with_names changed names name node = if node == changed then names else name node

-- the names of the rows after an action of a member: `Adds` alone changes them
abbrev pub names_after : Doing → Books → ℕ → ℕ → ℕ
names_after (Begins node number lo hi drift) books = books.name
names_after (Gets message) books = books.name
names_after (Turns node) books = books.name
names_after (Speaks node numbers) books = books.name
names_after (Shuts node number gate) books = books.name
names_after (Adds node token floor) books =
    if may_add books node token
    then with_names node (with_name (rows_of books node) token (books.name node)) books.name
    else books.name
names_after (Waits node) books = books.name

-- the node that acts
abbrev pub doer_of : Doing → Books → Option ℕ
doer_of (Begins node number lo hi drift) books = Some node
doer_of (Gets message) books = receiver_of (slice_get books.own.sent message)
doer_of (Turns node) books = Some node
doer_of (Speaks node numbers) books = Some node
doer_of (Shuts node number gate) books = Some node
doer_of (Adds node token floor) books = Some node
doer_of (Waits node) books = Some node

-- the floor that the node has of the token with the number; 0 if it has no row for it
abbrev pub free_at : Books → ℕ → Option ℕ → ℕ
free_at books node None = 0
free_at books node (Some number) = (row (books.own.nodes node).content number).next

-- the same by the token's name
abbrev pub free_of : Books → ℕ → ℕ → ℕ
free_of books node token = free_at books node (number_at books node token)

-- the members after the node lost its store
abbrev pub own_lost : ℕ → Books → Cluster
own_lost node books =
    if has_store books.own node
    then record books.own {
      nodes = set_node node (lost_member (books.own.nodes node)) books.own.nodes;
      lost = with_node node books.own.lost;
      least = λ token.
          greatest books.own.n (with_node node books.own.lost) (λ other. free_of books other token);
    }
    else books.own

-- the floor of the token `token` in a store with the given rows; 0 if it has no row for the token
abbrev pub made_floor : ℕ → (ℕ → ℕ) → (ℕ → ℕ) → ℕ → ℕ
made_floor count name floor token = if is_number (number_of count name token) then floor token else 0

-- The conditions for a replacement store, as in the schedule, but over names. The store's floors are at least those
-- that the remaining nodes had at the latest loss.
abbrev pub may_remake : Books → ℕ → ℕ → ℕ → (ℕ → ℕ) → (ℕ → ℕ) → Bool
may_remake books node boot count name floor =
    (are_names books.tokens count name && are_apart count name)
    && ((is_member books.own.n node && books.own.lost node)
    && (nat_lt (size books.own.n books.own.lost) (majority_of books.own.n)
    && (nat_le (books.own.nodes node).content.boot boot
    && (nat_le boot last_boot
    && all_most books.tokens books.own.least (made_floor count name floor)))))

-- the members after a store is replaced for a node, if the rule allows it
abbrev pub own_remade : ℕ → ℕ → ℕ → (ℕ → ℕ) → (ℕ → ℕ) → Books → Cluster
own_remade node boot count name floor books =
    if may_remake books node boot count name floor
    then record books.own {
      nodes = set_node node (opening_member boot count (λ number. floor (name number))) books.own.nodes;
      lost = without_node node books.own.lost;
    }
    else books.own

-- the books after the event
unfoldable pub after_course : ℕ → Course → Books → Books
after_course event (Runs doing) books =
    record books { own = own_after event doing books; name = names_after doing books }
after_course event (Breaks true doing) books = record books {
  own = after_restart (doer_of doing books) (with_sent_of books.own (own_after event doing books));
  name = names_after doing books;
}
after_course event (Breaks false doing) books = record books { own = after_restart (doer_of doing books) books.own }
after_course event (Starts node) books = record books { own = after_restart (Some node) books.own }
after_course event (Gone node) books = record books { own = own_lost node books }
after_course event (Remade node boot count name floor) books = record books {
  own = own_remade node boot count name floor books;
  name = if may_remake books node boot count name floor then with_names node name books.name else books.name;
}

-- the books after the events, the first of which has the given number
unfoldable pub go : ℕ → List Course → Books → Books
go first [] books = books
go first (course ∷ more) books = go (suc first) more (after_course first course books)

-- members that open without tokens at the given boots, with messages of their former stores on their way
abbrev pub blank_books : ℕ → ℕ → (ℕ → ℕ) → List Envelope → Books
blank_books n tokens boot old = record {
  tokens = tokens;
  name = λ node number. 0;
  own = record {
    n = n;
    nodes = λ node. opening_member (boot node) 0 (λ number. 0);
    lost = λ node. false;
    least = λ token. 0;
    sent = old;
    begun = λ proposal. None;
    accepted = [];
  };
}

-- ---- the roster over canonical names

-- the action of the roster
abbrev pub deed_by : Books → Doing → Deed
deed_by books (Begins node number lo hi drift) =
    if nat_lt number (rows_of books node) then Proposes node (books.name node number) lo hi drift else Rests node
deed_by books (Gets message) = Hears message
deed_by books (Turns node) =
    Ticks node (named_turn (books.name node) (books.own.nodes node).content (books.own.nodes node).voter)
deed_by books (Speaks node numbers) = Tells node (map (books.name node) (known_numbers books node numbers))
deed_by books (Shuts node number gate) =
    if nat_lt number (rows_of books node) then Throttles node (books.name node number) gate else Rests node
deed_by books (Adds node token floor) =
    if may_add books node token then Enrols node (λ other. other == token) (λ other. floor) else Rests node
deed_by books (Waits node) = Rests node

-- the event of the roster
abbrev pub happening_by : Books → Course → Happening
happening_by books (Runs doing) = Does (deed_by books doing)
happening_by books (Breaks kept doing) = Stops kept (deed_by books doing)
happening_by books (Starts node) = Reopens node
happening_by books (Gone node) = Loses node
happening_by books (Remade node boot count name floor) =
    if may_remake books node boot count name floor
    then Renews node boot (λ token. is_number (number_of count name token)) floor
    else Does (Rests node)

-- the events of the roster for the events from the books on
unfoldable pub happenings_by : ℕ → List Course → Books → List Happening
happenings_by first [] books = []
happenings_by first (course ∷ more) books =
    happening_by books course ∷ happenings_by (suc first) more (after_course first course books)

-- the opening of the roster, without bounds
abbrev pub blank_opening : (ℕ → ℕ) → List Envelope → Opening
blank_opening boot old = record { boot = boot; floor = λ node token. 0; old = old }

-- the floor that the node has of the token `token` before the event of the given number
abbrev pub free_in : Books → List Course → ℕ → ℕ → ℕ → ℕ
free_in books courses node token event = free_of (go 0 (take event courses) books) node token

-- no event from `first` to before `later` replaces the node's store
abbrev pub KeepsBook : List Course → ℕ → ℕ → ℕ → Type 0
KeepsBook courses node first later =
    (event boot count : ℕ) (name floor : ℕ → ℕ) → first ≤ event → event < later
    → slice_get courses event ≡ Some (Remade node boot count name floor) → ⊥

-- if the event gives a store a row for the token `token`, its floor is at least `least`
abbrev pub IsAddedFrom : ℕ → ℕ → Course → Type 0
IsAddedFrom token least (Runs (Adds node other floor)) = other ≡ token → least ≤ floor
IsAddedFrom token least (Breaks kept (Adds node other floor)) = other ≡ token → least ≤ floor
IsAddedFrom token least (Remade node boot count name floor) = least ≤ floor token
IsAddedFrom token least course = Unit {0}

-- each of the events gives rows for the token only with floors of at least `least`
abbrev pub AreAddedFrom : ℕ → ℕ → List Course → Type 0
AreAddedFrom token least courses =
    (i : ℕ) (course : Course) → slice_get courses i ≡ Some course → IsAddedFrom token least course

-- the action is the proposal of the acceptance, under the names of the rows
abbrev pub IsBegunIn : (ℕ → ℕ → ℕ) → Acceptance → Doing → Type 0
IsBegunIn name acceptance (Begins node number lo hi drift) =
    (node ≡ acceptance.node) × (name node number ≡ acceptance.token) × (lo ≡ acceptance.lo) × (hi ≡ acceptance.hi)
IsBegunIn name acceptance (Gets message) = ⊥
IsBegunIn name acceptance (Turns node) = ⊥
IsBegunIn name acceptance (Speaks node numbers) = ⊥
IsBegunIn name acceptance (Shuts node number gate) = ⊥
IsBegunIn name acceptance (Adds node token floor) = ⊥
IsBegunIn name acceptance (Waits node) = ⊥

-- the event is the proposal of the acceptance, and its change was kept
abbrev pub IsBegunBy : (ℕ → ℕ → ℕ) → Acceptance → Option Course → Type 0
IsBegunBy name acceptance None = ⊥
IsBegunBy name acceptance (Some (Runs doing)) = IsBegunIn name acceptance doing
IsBegunBy name acceptance (Some (Breaks true doing)) = IsBegunIn name acceptance doing
IsBegunBy name acceptance (Some (Breaks false doing)) = ⊥
IsBegunBy name acceptance (Some (Starts node)) = ⊥
IsBegunBy name acceptance (Some (Gone node)) = ⊥
IsBegunBy name acceptance (Some (Remade node boot count names floor)) = ⊥

-- each acceptance was proposed in the event in which it began, under the names that the rows had at that time
abbrev pub AreBegun : Books → List Course → List Acceptance → Type 0
AreBegun books courses accepted =
    (i : ℕ) (acceptance : Acceptance) → slice_get accepted i ≡ Some acceptance
    → IsBegunBy (go 0 (take acceptance.began courses) books).name acceptance (slice_get courses acceptance.began)

-- The receiver of each message sent may take it, under its own number of the token, if it has a row for the token.
abbrev pub AreHeard : ℕ → Books → Type 0
AreHeard n books =
    (i : ℕ) (envelope : Envelope) (number : ℕ) → slice_get books.own.sent i ≡ Some envelope
    → number_at books envelope.receiver (token_of envelope.message) ≡ Some number
    → IsDeliverable n (rows_of books envelope.receiver)
    (record envelope { message = numbered_message number envelope.message })
