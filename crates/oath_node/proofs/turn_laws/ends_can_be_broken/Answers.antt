-- A run that failed did so in its last batch.
use Rattle.std.proofs.Common.{◌≡◌, inl, inr, ℕ, zero, suc, List, [], ◌∷◌, ◌++◌, codes, map, take, Option, Some, None, Err, refl, ap, sym, subst, ◌∙◌, arith}
use Rattle.floor_store.specs.Broken.{SmallStore, booted, broken_at, small_held, store_at}
use Rattle.floor_store.specs.Content.{Content}
use Rattle.oath_node.specs.Calls.{CommitsNode}
use Rattle.oath_node.specs.Hosted.{Hosted}
use Rattle.oath_node.specs.Machine.{NodeEvent}
use Rattle.oath_node.specs.Broken.{node_of_three, node_over, stopped}
use Rattle.oath_node.specs.declared.fault.NodeFault.{NodeFault}
use Rattle.oath_node.specs.declared.fault.NodeFault.TheVariants.{Spent as NoNumber}
use Rattle.oath_node.specs.TurnsBroken.{no_line_came, nothing_yet, run_from, store_failed}
use Rattle.datagram_port.specs.Port.{Faulted}
use Rattle.oath_node.specs.TurnServing.{FailsAmong, FailsNext, LeavesAmong, run_over}
use Rattle.oath_node.specs.TurnExamples.{line_without_moment}
use Rattle.oath_node.specs.Turns.{AreBatches, Failure, FromClient, FromPeer, Member, Nothing, Receipt, Run, entry_of, events_of_turns, member_of, moments_in, receipts_in, run_with_batches, run_with_events, run_with_receipts, run_with_turn, run_with_turns, while_going}
use Rattle.oath_node.specs.declared.serve_fault.ServeFault.{ServeFault}
use Rattle.oath_node.specs.declared.serve_fault.ServeFault.TheVariants.{Clock}
use Rattle.oath_node.proofs.OrderLemmas.{batches_order, comes}
use Rattle.oath_node.proofs.turn_laws.ends_can_be_broken.Goals as goal

-- ---- The last of some batches

-- no batch is no last one
none_is_last : (before : List (List Receipt)) (last : List Receipt) → [] ≡ before ++ last ∷ [] → ⊥
none_is_last [] last e = absurd cc
none_is_last (batch ∷ before) last e = absurd cc

-- of one batch it is that
one_is_last : (batch : List Receipt) (before : List (List Receipt)) (last : List Receipt) → batch ∷ [] ≡ before ++ last ∷ []
    → ([] ≡ before) × (batch ≡ last)
one_is_last batch [] last e = (refl, cc)
one_is_last batch (other ∷ before) last e = absurd (none_is_last before last cc)

-- of two it is the second
second_is_last : (first second : List Receipt) (before : List (List Receipt)) (last : List Receipt)
    → first ∷ second ∷ [] ≡ before ++ last ∷ [] → (first ∷ [] ≡ before) × (second ≡ last)
second_is_last first second [] last e = absurd cc
second_is_last first second (batch ∷ before) last e =
    let parts = one_is_last second before last cc in
    (ap (λ (rest : List (List Receipt)). first ∷ rest) parts.0 ∙ ap (λ (b : List Receipt). b ∷ before) cc, parts.1)

-- ---- Among no events

-- no events are parted in none and none
nothing_done : (done later : List NodeEvent) → [] ≡ done ++ later → ([] ≡ done) × ([] ≡ later)
nothing_done [] later e = (refl, e)
nothing_done (event ∷ done) later e = absurd cc

-- so it is the commit that fails
commit_fails : (before new : Hosted SmallStore) (fault : NodeFault) (done later : List NodeEvent) → [] ≡ done ++ later
    → FailsNext small_held before new later fault → CommitsNode {A = Unit {0}} small_held before new (Err fault)
commit_fails before new fault done later parted fails =
    subst (λ (events : List NodeEvent). FailsNext small_held before new events fault) (sym (nothing_done done later parted).1) fails

-- boot 1 is not boot 0
not_first : booted 1 ≡ booted 0 → ⊥
not_first e = let x : 1 ≡ 0 = ap (λ (content : Content). content.boot) e in omega (arith, x)

-- the first of no events are none
first_of_none : (count : ℕ) → take {A = NodeEvent} count [] ≡ []
first_of_none zero = refl
first_of_none (suc count) = refl

-- ---- A run of one receive that failed

-- what is said of its last batch
abbrev SaysOf : List ℕ → Hosted SmallStore → List (List Receipt) → List Receipt → Type 0
SaysOf key new before last =
    let old = node_over (store_at 0) key in
    FailsAmong small_held nothing_yet (member_of old) (run_with_receipts last (run_over small_held old before))
    (events_of_turns key (run_over small_held old before).tally.received last) new (Some (Faulted ∷ [])) store_failed

-- what a stop leaves in it
abbrev LeavesIn : List ℕ → Hosted SmallStore → List (List Receipt) → List Receipt → Type 0
LeavesIn key new before last =
    let old = node_over (store_at 0) key in
    LeavesAmong (small_held new.store) (member_of old) (run_over small_held old before)
    (events_of_turns key (run_over small_held old before).tally.received last)

failed_commit : (key : List ℕ) → FailsAmong small_held nothing_yet (member_of (node_over (store_at 0) key))
    (run_with_receipts (Failure ∷ []) (run_over small_held (node_over (store_at 0) key) [])) []
    (stopped (node_over (broken_at 0) key)) (Some (Faulted ∷ [])) store_failed
failed_commit key = record {
  done = [];
  later = [];
  events_are = refl;
  before = node_over (store_at 0) key;
  state = refl;
  fails = record {
    commits = record {
      makes = record {
        ok = λ clean. tt;
        err = λ clean. inl refl;
        stays = λ broken. absurd cc;
        count = omega arith;
        clean = λ clean. clean;
        tokens = refl;
      };
      left = λ content l. inl l;
      settled = λ clean. tt;
      intact = tt;
    };
    state = λ clean. tt;
    runs = tt;
    fails = record {
      breaks = record { broken = record { is = refl; failure = refl }; counted = inr (refl, omega arith) };
      counted = omega arith;
      stops = refl;
    };
    stopped = (λ e. absurd cc, λ e. absurd cc);
    same = record { book = refl; limits = refl; key = refl; place = refl };
  };
  kept = refl;
}

pub returns-clause-after : goal.returns-clause-after
returns-clause-after c = λ key. record {
  before = [];
  last = Failure ∷ [];
  batches_are = refl;
  going = refl;
  fails = failed_commit key;
  left = λ settled content l. record {
    count = 0;
    within = omega arith;
    is = elim l [ inl e ↦ e | inr e ↦ e ];
  };
}

pub returns-clause-after_no_batch : goal.returns-clause-after_no_batch
returns-clause-after_no_batch c = λ key h. none_is_last h.before h.last h.batches_are

pub returns-clause-after_the_end : goal.returns-clause-after_the_end
returns-clause-after_the_end c = λ key h.
    let parts = second_is_last _ _ h.before h.last h.batches_are in
    let going : (run_over small_held (node_over (store_at 0) key) ((line_without_moment ∷ []) ∷ [])).end ≡ None =
    subst (λ (before : List (List Receipt)). (run_over small_held (node_over (store_at 0) key) before).end ≡ None) (sym parts.0) h.going in
    absurd cc

pub returns-clause-after_and_runs_on : goal.returns-clause-after_and_runs_on
returns-clause-after_and_runs_on c = λ key h.
    let new = node_over (broken_at 0) key in
    let parts = one_is_last _ h.before h.last h.batches_are in
    let by_last = subst (λ (last : List Receipt). SaysOf key new h.before last) (sym parts.1) h.fails in
    let among = subst (λ (before : List (List Receipt)). SaysOf key new before (Failure ∷ [])) (sym parts.0) by_last in
    let commit = commit_fails among.before new store_failed among.done among.later among.events_are among.fails in
    let stops = commit.fails.stops in
    absurd cc

pub returns-clause-after_leaves : goal.returns-clause-after_leaves
returns-clause-after_leaves c = λ key h.
    let new = stopped (node_over (record (broken_at 0) { other = booted 1 }) key) in
    let parts = one_is_last _ h.before h.last h.batches_are in
    let left = h.left (λ content l. elim l [ inl e ↦ e | inr e ↦ e ]) in
    let by_last = subst (λ (last : List Receipt). LeavesIn key new h.before last) (sym parts.1) left in
    let leaves = subst (λ (before : List (List Receipt)). LeavesIn key new before (Failure ∷ [])) (sym parts.0) by_last in
    let among = leaves (booted 1) (inr refl) in
    let member = member_of (node_over (store_at 0) key) in
    not_first (subst (λ (events : List NodeEvent). booted 1 ≡ (run_with_events member events (run_from (node_over (store_at 0) key))).node.content) (first_of_none among.count) among.is)

pub returns-clause-fails_of_no_event : goal.returns-clause-fails_of_no_event
returns-clause-fails_of_no_event c = λ member h.
    let new = stopped (node_of_three 4611686018427387904) in
    (commit_fails h.before new NoNumber h.done h.later h.events_are h.fails).fails

-- ---- Receipts that are no batch

-- a client's datagram
client_line : (x : Receipt) → entry_of x ≡ no_line_came → (moment : Option ℕ) × (x ≡ FromClient 7 (codes "CHECK") moment)
client_line (FromPeer from bytes) e = absurd cc
client_line (FromClient client bytes moment) e = (moment, cc)
client_line Nothing e = absurd cc
client_line Failure e = absurd cc

-- a receive that failed
failure_is : (x : Receipt) → entry_of x ≡ Faulted → x ≡ Failure
failure_is (FromPeer from bytes) e = absurd cc
failure_is (FromClient client bytes moment) e = absurd cc
failure_is Nothing e = absurd cc
failure_is Failure e = refl

-- a line for which the clock had no moment, and a receive that failed
two_are : (xs : List Receipt) → map entry_of xs ≡ no_line_came ∷ Faulted ∷ [] → moments_in xs ≡ None ∷ []
    → xs ≡ line_without_moment ∷ Failure ∷ []
two_are [] entries moments = absurd cc
two_are (x ∷ []) entries moments = absurd cc
two_are (x ∷ y ∷ z ∷ xs) entries moments = absurd cc
two_are (x ∷ y ∷ []) entries moments =
    let line = client_line x cc in
    let failure = failure_is y cc in
    let told : line.0 ∷ [] ≡ None ∷ [] =
    sym (ap (λ (xs : List Receipt). moments_in xs) (ap (λ (a : Receipt). a ∷ y ∷ []) line.1 ∙ ap (λ (b : Receipt). FromClient 7 (codes "CHECK") line.0 ∷ b ∷ []) failure))
    ∙ moments in
    let none : line.0 ≡ None = cc in
    ap (λ (a : Receipt). a ∷ y ∷ []) (line.1 ∙ ap (λ (moment : Option ℕ). FromClient 7 (codes "CHECK") moment) none)
    ∙ ap (λ (b : Receipt). line_without_moment ∷ b ∷ []) failure

-- the clock ends the run over the batches
two_end : (member : Member) (batches : List (List Receipt)) (start : Run) → start.end ≡ None → AreBatches start.tally.received batches
    → receipts_in batches ≡ line_without_moment ∷ Failure ∷ [] → (run_with_batches member batches start).end ≡ Some Clock
two_end member batches start going formed two =
    let same = batches_order member batches start start start.end refl formed (comes start) in
    let first : while_going start.end (run_with_turn member line_without_moment start) start ≡ run_with_turn member line_without_moment start =
    ap (λ (end : Option ServeFault). while_going end (run_with_turn member line_without_moment start) start) going in
    same.end ∙ ap (λ (xs : List Receipt). (run_with_turns member xs start).end) two
    ∙ ap (λ (run : Run). (run_with_turns member (Failure ∷ []) run).end) first

pub returns-clause-serves_formed : goal.returns-clause-serves_formed
returns-clause-serves_formed c = λ key h.
    let old = node_over (store_at 0) key in
    let entries : map entry_of (receipts_in h.batches) ≡ no_line_came ∷ Faulted ∷ [] = let e = h.receives in cc in
    let moments : moments_in (receipts_in h.batches) ≡ None ∷ [] = let e = h.moments in cc in
    let ended = two_end (member_of old) h.batches (run_from old) refl h.formed (two_are (receipts_in h.batches) entries moments) in
    let going = (h.exact refl).1 in
    let e : Some Clock ≡ None = sym ended ∙ going in
    absurd cc
