-- A run of turns is a list of steps: what a batch received, its commit, and what it offers.
use Rattle.std.proofs.Common.{◌≡◌, ℕ, List, [], ◌∷◌, ◌++◌, map, Option, Some, None, refl, sym, ap, ◌∙◌, subst}
use Rattle.std.proofs.lemmas.List.{append-nil, append_assoc, map-append}
use Rattle.vote_core.specs.Schedule.{Envelope, envelope_from}
use Rattle.vote_core.specs.declared.message.Message.{Message}
use Rattle.oath_node.specs.Machine.{NodeEvent, NodeState, Reply}
use Rattle.oath_node.specs.Outputs.{items_of, outputs_of}
use Rattle.oath_node.specs.Turns.{Member, Receipt, Run, FromPeer, FromClient, Nothing, Failure, entry_of, events_of_turn, events_of_turns, offer_of, received_after, received_with, run_with_batch, run_with_batches, run_with_event, run_with_events, run_with_receipt, run_with_receipts, tally_with, while_going}
use Rattle.oath_node.specs.declared.serve_fault.ServeFault.{ServeFault}
use Rattle.book_law.specs.Lives.{Setting, Store, Terms, made_by_input, place_in}
use Rattle.book_law.specs.Uses.{member_at}
use Rattle.order_law.specs.Steps.{AreOfProcess, AreSteps, Commits, Hears, Open, Pauses, Place, Says, Sends, Live, Step, Telling, cleared_in, entries_of_steps, later_tellings, offer_of_telling, place_after, place_in_end, live_done, live_heard, live_taken, live_with, telling_of_reply, tellings_of}

-- ---- steps, one list after the other

pub steps_append : (setting : Setting) (node : ℕ) (place : Place) (xs ys : List Step) → AreSteps setting node place xs → AreSteps setting node (place_in_end setting node place xs) ys → AreSteps setting node place (xs ++ ys)
steps_append setting node place [] ys h k = k
steps_append setting node place (x ∷ xs) ys h k = (h.0, steps_append setting node (place_after setting node place x) xs ys h.1 k)

pub end_append : (setting : Setting) (node : ℕ) (place : Place) (xs ys : List Step) → place_in_end setting node place (xs ++ ys) ≡ place_in_end setting node (place_in_end setting node place xs) ys
end_append setting node place [] ys = refl
end_append setting node place (x ∷ xs) ys = end_append setting node (place_after setting node place x) xs ys

pub entries_append : (port : List ℕ) (xs ys : List Step) → entries_of_steps port (xs ++ ys) ≡ entries_of_steps port xs ++ entries_of_steps port ys
entries_append port [] ys = refl
entries_append port (Hears receipt ∷ xs) ys = ap (λ l. entry_of receipt ∷ l) (entries_append port xs ys)
entries_append port (Says telling ∷ xs) ys = ap (λ l. offer_of_telling port telling ∷ l) (entries_append port xs ys)
entries_append port (x ∷ xs) ys = entries_append port xs ys

pub process_append : (xs ys : List Step) → AreOfProcess xs → AreOfProcess ys → AreOfProcess (xs ++ ys)
process_append [] ys h k = k
process_append (x ∷ xs) ys h k = (h.0, process_append xs ys h.1 k)

pub cleared_append : (xs ys : List Step) → cleared_in (xs ++ ys) ≡ cleared_in xs ++ cleared_in ys
cleared_append [] ys = refl
cleared_append (Pauses cleared ∷ xs) ys = ap (λ l. cleared ∷ l) (cleared_append xs ys)
cleared_append (x ∷ xs) ys = cleared_append xs ys

-- ---- receives

abbrev pub hearings : List Receipt → List Step
hearings [] = []
hearings (receipt ∷ receipts) = Hears receipt ∷ hearings receipts

-- the process after the receipts
abbrev pub heard_all : Live → List Receipt → Live
heard_all s receipts = record s { received = received_after receipts s.received; heard = s.heard ++ events_of_turns s.port s.received receipts }

pub hears : (setting : Setting) (node : ℕ) (s : Live) (receipts : List Receipt) → s.waiting ≡ [] → AreSteps setting node (Open s) (hearings receipts)
hears setting node s [] none = tt
hears setting node s (receipt ∷ receipts) none = (none, hears setting node (live_heard s receipt) receipts none)

pub hears_one : (receipts : List Receipt) → AreOfProcess (hearings receipts)
hears_one [] = tt
hears_one (receipt ∷ receipts) = (tt, hears_one receipts)

pub hears_clear : (receipts : List Receipt) → cleared_in (hearings receipts) ≡ []
hears_clear [] = refl
hears_clear (receipt ∷ receipts) = hears_clear receipts

pub hears_end : (setting : Setting) (node : ℕ) (s : Live) (receipts : List Receipt) → place_in_end setting node (Open s) (hearings receipts) ≡ Open (heard_all s receipts)
hears_end setting node s [] = ap (λ l. Open (record s { heard = l })) (sym (append-nil s.heard))
hears_end setting node s (receipt ∷ receipts) =
    let count = received_with receipt s.received in
    hears_end setting node (live_heard s receipt) receipts
    ∙ ap (λ l. Open (record s { received = received_after receipts count; heard = l })) (append_assoc s.heard (events_of_turn s.port count receipt) (events_of_turns s.port count receipts))

pub hears_entries : (port : List ℕ) (receipts : List Receipt) → entries_of_steps port (hearings receipts) ≡ map entry_of receipts
hears_entries port [] = refl
hears_entries port (receipt ∷ receipts) = ap (λ l. entry_of receipt ∷ l) (hears_entries port receipts)

-- ---- inputs

step_items : (key : List ℕ) (node : ℕ) (sends : List (ℕ × Message)) (replies : List Reply)
    → map offer_of (items_of key node sends replies) ≡ map (offer_of_telling key) (map (λ (envelope : Envelope). Sends envelope) (map (envelope_from node) sends) ++ map telling_of_reply replies)
step_items key node [] [] = refl
step_items key node [] (r ∷ replies) = ap (λ xs. offer_of_telling key (telling_of_reply r) ∷ xs) (step_items key node [] replies)
step_items key node (x ∷ sends) replies = ap (λ xs. offer_of_telling key (Sends (envelope_from node x)) ∷ xs) (step_items key node sends replies)

-- the process that took the inputs is where the run is
pub record Took (setting : Setting) (node : ℕ) (s : Live) (inputs : List NodeEvent) (r : Run) : Type 0 where
  pub new : List Telling
  pub live : live_taken setting node s inputs
      ≡ record s { state = (run_with_events (member_at setting s.terms s.port node) inputs r).node; waiting = s.waiting ++ new }
  pub entries : (run_with_events (member_at setting s.terms s.port node) inputs r).entries ≡ r.entries ++ map (offer_of_telling s.port) new
  pub count : (run_with_events (member_at setting s.terms s.port node) inputs r).tally.received ≡ r.tally.received

pub takes : (setting : Setting) (node : ℕ) (s : Live) (inputs : List NodeEvent) (r : Run) → s.state ≡ r.node → Took setting node s inputs r
takes setting node s [] r same = record {
  new = [];
  live = ap (λ z. record s { state = z }) same ∙ ap (λ l. record s { state = r.node; waiting = l }) (sym (append-nil s.waiting));
  entries = sym (append-nil r.entries);
  count = refl;
}
takes setting node s (input ∷ inputs) r same =
    let m = member_at setting s.terms s.port node in
    let made = made_by_input setting s.terms node input s.state in
    let more = tellings_of node made in
    let next = live_with setting node s input in
    let r1 = run_with_event m input r in
    let state : made.state ≡ r1.node = ap (λ (z : NodeState). (made_by_input setting s.terms node input z).state) same in
    let t = takes setting node next inputs r1 state in
    let entries : r1.entries ≡ r.entries ++ map (offer_of_telling s.port) more =
    ap (λ (z : NodeState). r.entries ++ map offer_of (outputs_of s.port (place_in setting node) (made_by_input setting s.terms node input z)).items) (sym same)
    ∙ ap (λ l. r.entries ++ l) (step_items s.port node made.sends made.replies) in
    record {
      new = more ++ t.new;
      live = t.live ∙ ap (λ l. record s { state = (run_with_events m inputs r1).node; waiting = l }) (append_assoc s.waiting more t.new);
      entries = t.entries
          ∙ ap (λ l. l ++ map (offer_of_telling s.port) t.new) entries
          ∙ append_assoc r.entries (map (offer_of_telling s.port) more) (map (offer_of_telling s.port) t.new)
          ∙ ap (λ l. r.entries ++ l) (sym (map-append (offer_of_telling s.port) more t.new));
      count = t.count;
    }

-- ---- offers

abbrev pub sayings : List Telling → List Step
sayings [] = []
sayings (telling ∷ tellings) = Says telling ∷ sayings tellings

says : (setting : Setting) (node : ℕ) (s : Live) (tellings : List Telling) → s.waiting ≡ tellings → AreSteps setting node (Open s) (sayings tellings)
says setting node s [] is = tt
says setting node s (telling ∷ tellings) is = ((tellings, is), says setting node (record s { waiting = later_tellings s.waiting }) tellings (ap later_tellings is))

says_one : (tellings : List Telling) → AreOfProcess (sayings tellings)
says_one [] = tt
says_one (telling ∷ tellings) = (tt, says_one tellings)

says_clear : (tellings : List Telling) → cleared_in (sayings tellings) ≡ []
says_clear [] = refl
says_clear (telling ∷ tellings) = says_clear tellings

says_end : (setting : Setting) (node : ℕ) (s : Live) (tellings : List Telling) → s.waiting ≡ tellings → place_in_end setting node (Open s) (sayings tellings) ≡ Open (record s { waiting = [] })
says_end setting node s [] is = ap (λ l. Open (record s { waiting = l })) is
says_end setting node s (telling ∷ tellings) is = says_end setting node (record s { waiting = later_tellings s.waiting }) tellings (ap later_tellings is)

says_entries : (port : List ℕ) (tellings : List Telling) → entries_of_steps port (sayings tellings) ≡ map (offer_of_telling port) tellings
says_entries port [] = refl
says_entries port (telling ∷ tellings) = ap (λ l. offer_of_telling port telling ∷ l) (says_entries port tellings)

-- ---- receipts of a run

pub receipts_entries : (xs : List Receipt) (r : Run) → (run_with_receipts xs r).entries ≡ r.entries ++ map entry_of xs
receipts_entries [] r = sym (append-nil r.entries)
receipts_entries (x ∷ xs) r = receipts_entries xs (run_with_receipt x r) ∙ append_assoc r.entries (entry_of x ∷ []) (map entry_of xs)

pub receipts_node : (xs : List Receipt) (r : Run) → (run_with_receipts xs r).node ≡ r.node
receipts_node [] r = refl
receipts_node (x ∷ xs) r = receipts_node xs (run_with_receipt x r)

counted : (x : Receipt) (r : Run) → (tally_with x r.tally).received ≡ received_with x r.tally.received
counted (FromPeer from bytes) r = refl
counted (FromClient client bytes moment) r = refl
counted Nothing r = refl
counted Failure r = refl

receipts_count : (xs : List Receipt) (r : Run) → (run_with_receipts xs r).tally.received ≡ received_after xs r.tally.received
receipts_count [] r = refl
receipts_count (x ∷ xs) r = receipts_count xs (run_with_receipt x r) ∙ ap (λ k. received_after xs k) (counted x r)

-- ---- a batch

-- a process between two batches
abbrev pub idle : Terms → List ℕ → Store → NodeState → ℕ → Live
idle terms port found state received = record {
  terms = terms;
  port = port;
  found = found;
  state = state;
  received = received;
  heard = [];
  waiting = [];
}

module _ (setting : Setting) (node : ℕ) (terms : Terms) (port : List ℕ) (found : Store) where
  abbrev pub here : Member
  here = member_at setting terms port node

  abbrev pub at_run : Run → Place
  at_run r = Open (idle terms port found r.node r.tally.received)

  -- steps from a run to a later one
  pub record Leads (r last : Run) : Type 0 where
    pub steps : List Step
    pub of_one : AreOfProcess steps
    pub clear : cleared_in steps ≡ []
    pub are : AreSteps setting node (at_run r) steps
    pub ends : place_in_end setting node (at_run r) steps ≡ at_run last
    pub entries : last.entries ≡ r.entries ++ entries_of_steps port steps

  pub batch_leads : (batch : List Receipt) (r : Run) → Leads r (run_with_batch here batch r)
  batch_leads batch r =
      let s = idle terms port found r.node r.tally.received in
      let r1 = run_with_receipts batch r in
      let inputs = events_of_turns port r.tally.received batch in
      let s1 = heard_all s batch in
      let t = takes setting node s1 inputs r1 (sym (receipts_node batch r)) in
      let last = run_with_batch here batch r in
      let taken = live_taken setting node s1 inputs in
      let waits : (live_done taken).waiting ≡ t.new = ap (λ (z : Live). z.waiting) t.live in
      let said = sayings t.new in
      let later = Commits inputs ∷ said in
      let heard = hearings batch in
      let at : place_in_end setting node (at_run r) heard ≡ Open s1 = hears_end setting node s batch in
      record {
        steps = heard ++ later;
        of_one = process_append heard later (hears_one batch) (tt, says_one t.new);
        clear = cleared_append heard later ∙ ap (λ l. l ++ cleared_in said) (hears_clear batch) ∙ says_clear t.new;
        are = steps_append setting node (at_run r) heard later (hears setting node s batch refl)
            (subst (λ p. AreSteps setting node p later) (sym at) (refl, says setting node (live_done taken) t.new waits));
        ends = end_append setting node (at_run r) heard later
            ∙ ap (λ p. place_in_end setting node p later) at
            ∙ says_end setting node (live_done taken) t.new waits
            ∙ ap (λ (z : Live). Open (record z { heard = []; waiting = [] })) t.live
            ∙ ap (λ k. Open (idle terms port found last.node k)) (sym (t.count ∙ receipts_count batch r));
        entries = t.entries
            ∙ ap (λ l. l ++ map (offer_of_telling port) t.new) (receipts_entries batch r)
            ∙ append_assoc r.entries (map entry_of batch) (map (offer_of_telling port) t.new)
            ∙ ap (λ l. r.entries ++ (l ++ map (offer_of_telling port) t.new)) (sym (hears_entries port batch))
            ∙ ap (λ l. r.entries ++ (entries_of_steps port heard ++ l)) (sym (says_entries port t.new))
            ∙ ap (λ l. r.entries ++ l) (sym (entries_append port heard later));
      }

  pub no_steps : (r : Run) → Leads r r
  no_steps r = record { steps = []; of_one = tt; clear = refl; are = tt; ends = refl; entries = sym (append-nil r.entries) }

  pub then : (r next last : Run) → Leads r next → Leads next last → Leads r last
  then r next last a b = record {
    steps = a.steps ++ b.steps;
    of_one = process_append a.steps b.steps a.of_one b.of_one;
    clear = cleared_append a.steps b.steps ∙ ap (λ l. l ++ cleared_in b.steps) a.clear ∙ b.clear;
    are = steps_append setting node (at_run r) a.steps b.steps a.are (subst (λ p. AreSteps setting node p b.steps) (sym a.ends) b.are);
    ends = end_append setting node (at_run r) a.steps b.steps ∙ ap (λ p. place_in_end setting node p b.steps) a.ends ∙ b.ends;
    entries = b.entries
        ∙ ap (λ l. l ++ entries_of_steps port b.steps) a.entries
        ∙ append_assoc r.entries (entries_of_steps port a.steps) (entries_of_steps port b.steps)
        ∙ ap (λ l. r.entries ++ l) (sym (entries_append port a.steps b.steps));
  }

  -- a batch, if no fault has ended the run
  going : (batch : List Receipt) (r : Run) (o : Option ServeFault) → Leads r (while_going o (run_with_batch here batch r) r)
  going batch r None = batch_leads batch r
  going batch r (Some fault) = no_steps r

  pub batches_lead : (batches : List (List Receipt)) (r : Run) → Leads r (run_with_batches here batches r)
  batches_lead [] r = no_steps r
  batches_lead (batch ∷ batches) r =
      let next = while_going r.end (run_with_batch here batch r) r in
      then r next (run_with_batches here batches next) (going batch r r.end) (batches_lead batches next)
