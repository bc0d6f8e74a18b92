-- What batches do, one after the other.
use Rattle.std.proofs.Common.{◌≡◌, inl, inr, Bool, false, ℕ, ◌+◌, ◌*◌, ◌^◌, ◌<◌, ◌≤◌, List, [], ◌∷◌, ◌++◌, length, map, refl, sym, ap, ◌∙◌, subst, arith, length-append}
use Rattle.std.specs.Prelude.{◌⊎◌, Option, None, Result, Ok, Err}
use Rattle.std.specs.Option.{option_map}
use Rattle.std.proofs.lemmas.List.{append_assoc, append-nil, map-append}
use Rattle.floor_store.specs.Held.{Held, IsSettled}
use Rattle.oath_node.specs.Hosted.{Hosted, IsSameNode, is_waiting, state_of}
use Rattle.datagram_port.specs.Port.{Grows, PortEvent}
use Rattle.oath_node.specs.TurnServing.{EndsByClock, EndsSettled, EndsSo, EndsTurns, Serves, ServesUntil, Stands, run_over, served_in}
use Rattle.oath_node.specs.TurnSteps.{BatchEnds, IsClean, IsOf, Scene, StepsBatch, TakesBatch}
use Rattle.oath_node.specs.Turns.{AreBatches, GoesOn, IsBatch, Member, Receipt, Run, entry_of, member_of, moments_for, moments_in, received_after, received_with, receipts_in, receives_in, run_at, run_with_batch, run_with_batches, while_going}
use Rattle.oath_node.specs.declared.serve_fault.ServeFault.{ServeFault}
use Rattle.oath_node.specs.declared.serve_fault.ServeFault.TheVariants.{Node, Port, Clock}
use Rattle.oath_node.specs.declared.turns.Served.{Served}
use Rattle.oath_node.specs.declared.turns.Tally.{Tally}
use Rattle.oath_node.proofs.BatchLemmas.{one_more, received_after-append, received_after_few, received_after_is}
use Rattle.oath_node.proofs.GrowLemmas.{grows_refl, grows_trans}
use Rattle.oath_node.proofs.TurnStepLemmas.{member_same, same_refl, same_trans}

-- After `count` turns the scene is the scene of the run over their batches.
pub record IsSoFar {S : Type 0} (held : S → Held) (old : Hosted S) (first : Option (List PortEvent))
    (asked : Option (List (Option ℕ))) (count : ℕ) (now : Scene S) (told : Option (List (Option ℕ))) : Type 0 where
  pub batches : List (List Receipt)
  pub formed : AreBatches 0 batches
  pub many : length (receipts_in batches) ≡ count
  pub moments : Grows asked told (moments_in (receipts_in batches))
  pub receives : Grows (option_map receives_in first) (option_map receives_in now.entries) (map entry_of (receipts_in batches))
  pub same : IsSameNode old now.node
  pub few : IsClean held now → now.tally.replied ≤ 528 * count
  pub received : now.tally.received ≡ received_after (receipts_in batches) 0
  pub faults : now.tally.faults < 16
  pub settled : IsClean held now → IsSettled (held old.store) → IsSettled (held now.node.store)
  pub of : IsClean held now → count < 2 ^ 54 → IsOf held first now (run_over held old batches)
  pub going : IsClean held now → count < 2 ^ 54 → (run_over held old batches).end ≡ None

-- a tally of nothing
pub zero_tally : (t : Tally) → t.received ≡ 0 → t.replied ≡ 0 → t.faults ≡ 0
    → t ≡ record { received = 0; replied = 0; faults = 0 }
zero_tally t a b c =
    ap (λ (n : ℕ). let u : Tally = record { received = n; replied = t.replied; faults = t.faults } in u) a
    ∙ ap (λ (n : ℕ). let u : Tally = record { received = 0; replied = n; faults = t.faults } in u) b
    ∙ ap (λ (n : ℕ). let u : Tally = record { received = 0; replied = 0; faults = n } in u) c

-- at the start
pub so_far_start : {S : Type 0} (held : S → Held) (old : Hosted S) (first : Option (List PortEvent))
    (asked : Option (List (Option ℕ)))
    → IsSoFar held old first asked 0
    (record { node = old; entries = first; tally = record { received = 0; replied = 0; faults = 0 } }) asked
so_far_start held old first asked = record {
  batches = [];
  formed = tt;
  many = refl;
  moments = grows_refl asked;
  receives = grows_refl (option_map receives_in first);
  same = same_refl old;
  few = λ clean. omega arith;
  received = refl;
  faults = omega arith;
  settled = λ clean settled. settled;
  of = λ clean below. record { stands = record { state = refl; entries = grows_refl first }; tally = refl };
  going = λ clean below. refl;
}

-- ---- One batch more

run_with_batches-append : (member : Member) (bs : List (List Receipt)) (b : List Receipt) (run : Run)
    → run_with_batches member (bs ++ b ∷ []) run
    ≡ while_going (run_with_batches member bs run).end (run_with_batch member b (run_with_batches member bs run))
    (run_with_batches member bs run)
run_with_batches-append member [] b run = refl
run_with_batches-append member (c ∷ bs) b run =
    run_with_batches-append member bs b (while_going run.end (run_with_batch member c run) run)

-- a batch of a run that continues
run_with_more : (member : Member) (bs : List (List Receipt)) (b : List Receipt) (run : Run)
    → (run_with_batches member bs run).end ≡ None
    → run_with_batches member (bs ++ b ∷ []) run ≡ run_with_batch member b (run_with_batches member bs run)
run_with_more member bs b run going =
    run_with_batches-append member bs b run
    ∙ ap (λ (e : Option ServeFault).
    while_going e (run_with_batch member b (run_with_batches member bs run)) (run_with_batches member bs run)) going

receipts_more : (bs : List (List Receipt)) (b : List Receipt) → receipts_in (bs ++ b ∷ []) ≡ receipts_in bs ++ b
receipts_more [] b = append-nil b
receipts_more (c ∷ bs) b =
    ap (λ (xs : List Receipt). c ++ xs) (receipts_more bs b) ∙ sym (append_assoc c (receipts_in bs) b)

formed_more : (n : ℕ) (bs : List (List Receipt)) (b : List Receipt) → AreBatches n bs
    → IsBatch (received_after (receipts_in bs) n) b → AreBatches n (bs ++ b ∷ [])
formed_more n [] b h k = (k, tt)
formed_more n (c ∷ bs) b h k = (
  h.0,
  formed_more (received_after c n) bs b h.1
      (subst (λ (m : ℕ). IsBatch m b) (received_after-append c (receipts_in bs) n) k),
)

moments-append : (xs ys : List Receipt) → moments_in (xs ++ ys) ≡ moments_in xs ++ moments_in ys
moments-append [] ys = refl
moments-append (x ∷ xs) ys =
    ap (λ ms. moments_for x ++ ms) (moments-append xs ys) ∙ sym (append_assoc (moments_for x) (moments_in xs) (moments_in ys))

moments_with : (asked told said : Option (List (Option ℕ))) (bs : List (List Receipt)) (b : List Receipt)
    → Grows asked told (moments_in (receipts_in bs)) → Grows told said (moments_in b)
    → Grows asked said (moments_in (receipts_in (bs ++ b ∷ [])))
moments_with asked told said bs b h k =
    subst (Grows asked said) (sym (ap moments_in (receipts_more bs b) ∙ moments-append (receipts_in bs) b))
    (grows_trans asked told said (moments_in (receipts_in bs)) (moments_in b) h k)

receives_with : (first e0 e1 : Option (List PortEvent)) (bs : List (List Receipt)) (b : List Receipt)
    → Grows first e0 (map entry_of (receipts_in bs)) → Grows e0 e1 (map entry_of b)
    → Grows first e1 (map entry_of (receipts_in (bs ++ b ∷ [])))
receives_with first e0 e1 bs b h k =
    subst (Grows first e1) (sym (ap (map entry_of) (receipts_more bs b) ∙ map-append entry_of (receipts_in bs) b))
    (grows_trans first e0 e1 (map entry_of (receipts_in bs)) (map entry_of b) h k)

many_with : (bs : List (List Receipt)) (b : List Receipt)
    → length (receipts_in (bs ++ b ∷ [])) ≡ length (receipts_in bs) + length b
many_with bs b = ap (λ (xs : List Receipt). length xs) (receipts_more bs b) ∙ length-append (receipts_in bs) b

-- the outcome of a batch after the turns until now
ends_so_far : {A S : Type 0} (held : S → Held) (old : Hosted S) (first : Option (List PortEvent)) (asked : Option (List (Option ℕ)))
    (count : ℕ) (now new : Scene S) (batch : List Receipt) (told said : Option (List (Option ℕ))) (result : Result A ServeFault)
    (h : IsSoFar held old first asked count now told) → StepsBatch held now new batch told said result
    → IsClean held new → count + length batch < 2 ^ 54
    → BatchEnds held first (held now.node.store) (member_of old) (run_over held old h.batches) batch new result
ends_so_far held old first asked count now new batch told said result h t clean below =
    let before = t.clean clean in
    let small : count < 2 ^ 54 = omega (arith, below) in
    let run = run_over held old h.batches in
    subst (λ (m : Member). BatchEnds held first (held now.node.store) m run batch new result) (member_same old now.node h.same)
    (t.does clean (omega (arith, h.few before, below)) first run (h.of before small) (h.going before small))

-- after one batch more
pub so_far_next : (A : Type 0) {S : Type 0} (held : S → Held) (old : Hosted S) (first : Option (List PortEvent))
    (asked : Option (List (Option ℕ))) (count : ℕ) (now new : Scene S) (batch : List Receipt) (told said : Option (List (Option ℕ)))
    (done : A) → IsSoFar held old first asked count now told → IsBatch now.tally.received batch
    → StepsBatch {A = A} held now new batch told said (Ok done)
    → IsSoFar held old first asked (count + length batch) new said
so_far_next A held old first asked count now new batch told said done h is t =
    let member = member_of old in
    let start = run_at (state_of held old) in
    let whole : IsClean held new → count + length batch < 2 ^ 54
    → run_over held old (h.batches ++ batch ∷ []) ≡ run_with_batch member batch (run_over held old h.batches) =
    λ clean below. run_with_more member h.batches batch start (h.going (t.clean clean) (omega (arith, below))) in
    record {
      batches = h.batches ++ batch ∷ [];
      formed = formed_more 0 h.batches batch h.formed (subst (λ (n : ℕ). IsBatch n batch) h.received is);
      many = many_with h.batches batch ∙ ap (λ (n : ℕ). n + length batch) h.many;
      moments = moments_with asked told said h.batches batch h.moments t.moments;
      receives = receives_with (option_map receives_in first) (option_map receives_in now.entries)
          (option_map receives_in new.entries) h.batches batch h.receives t.receives;
      same = same_trans old now.node new.node h.same t.same;
      few = λ clean. omega (arith, t.few clean, h.few (t.clean clean));
      received = t.received ∙ received_after_is batch now.tally ∙ ap (received_after batch) h.received
          ∙ sym (ap (λ (xs : List Receipt). received_after xs 0) (receipts_more h.batches batch) ∙ received_after-append (receipts_in h.batches) batch 0);
      faults = t.faults;
      settled = λ clean settled. t.settled clean;
      of = λ clean below. subst (IsOf held first new) (sym (whole clean below))
          (ends_so_far {A = A} held old first asked count now new batch told said (Ok done) h t clean below).0;
      going = λ clean below. ap (λ (r : Run). r.end) (whole clean below)
          ∙ (ends_so_far {A = A} held old first asked count now new batch told said (Ok done) h t clean below).1;
    }

-- after a step that received nothing
so_far_same : (A : Type 0) {S : Type 0} (held : S → Held) (old : Hosted S) (first : Option (List PortEvent))
    (asked : Option (List (Option ℕ))) (count : ℕ) (now new : Scene S) (told said : Option (List (Option ℕ)))
    (done : A) → IsSoFar held old first asked count now told → StepsBatch {A = A} held now new [] told said (Ok done)
    → IsSoFar held old first asked count new said
so_far_same A held old first asked count now new told said done h t =
    let ends : IsClean held new → count < 2 ^ 54
    → BatchEnds {A = A} held first (held now.node.store) (member_of old) (run_over held old h.batches) [] new (Ok done) =
    λ clean below. ends_so_far {A = A} held old first asked count now new [] told said (Ok done) h t clean (omega (arith, below)) in
    record {
      batches = h.batches;
      formed = h.formed;
      many = h.many;
      moments = subst (Grows asked said) (append-nil (moments_in (receipts_in h.batches)))
          (grows_trans asked told said (moments_in (receipts_in h.batches)) [] h.moments t.moments);
      receives = subst (Grows (option_map receives_in first) (option_map receives_in new.entries))
          (append-nil (map entry_of (receipts_in h.batches)))
          (grows_trans (option_map receives_in first) (option_map receives_in now.entries) (option_map receives_in new.entries)
          (map entry_of (receipts_in h.batches)) [] h.receives t.receives);
      same = same_trans old now.node new.node h.same t.same;
      few = λ clean. omega (arith, t.few clean, h.few (t.clean clean));
      received = t.received ∙ h.received;
      faults = t.faults;
      settled = λ clean settled. t.settled clean;
      of = λ clean below. (ends clean below).0;
      going = λ clean below. (ends clean below).1;
    }

-- the turns that are left fit
-- after a call that leaves the port's record as it is
pub so_far_asked : {S : Type 0} (held : S → Held) (old : Hosted S) (first : Option (List PortEvent))
    (asked : Option (List (Option ℕ))) (count : ℕ) (node : Hosted S) (tally : Tally) (before after : Option (List PortEvent))
    (told : Option (List (Option ℕ))) → after ≡ before
    → IsSoFar held old first asked count (record { node = node; entries = before; tally = tally }) told
    → IsSoFar held old first asked count (record { node = node; entries = after; tally = tally }) told
so_far_asked held old first asked count node tally before after told same =
    subst (λ (e : Option (List PortEvent)). IsSoFar held old first asked count (record { node = node; entries = e; tally = tally }) told) (sym same)

pub so_far_few : {S : Type 0} (held : S → Held) (old : Hosted S) (first : Option (List PortEvent))
    (asked : Option (List (Option ℕ))) (count left turns : ℕ) (now : Scene S) (told : Option (List (Option ℕ)))
    → IsSoFar held old first asked count now told → count + left ≡ turns → turns < 2 ^ 54
    → (now.tally.received + left < 2 ^ 54) × (now.tally.faults < 16)
so_far_few held old first asked count left turns now told h sum below =
    let received = h.received in
    let few = received_after_few (receipts_in h.batches) 0 in
    let many = h.many in
    (omega (arith, received, few, many, sum, below), h.faults)

-- ---- The end

-- all turns are taken
pub serves_all : {S : Type 0} (held : S → Held) (old : Hosted S) (first : Option (List PortEvent))
    (asked : Option (List (Option ℕ))) (turns : ℕ) (now : Scene S) (told : Option (List (Option ℕ)))
    → turns < 2 ^ 54 → IsSoFar held old first asked turns now told
    → Serves held old now.node first now.entries asked told turns (Ok (served_in now.tally))
serves_all held old first asked turns now told below h = record {
  batches = h.batches;
  formed = h.formed;
  moments = h.moments;
  receives = h.receives;
  most = omega (arith, h.many);
  all = h.many;
  exact = λ clean.
      let of = h.of clean below in
      (of.stands, h.going clean below, ap served_in of.tally);
  settled = h.settled;
  same = h.same;
}

-- how a run ends by its last batch
ends_with : (A : Type 0) {S : Type 0} (held : S → Held) (old new : Hosted S) (first : Option (List PortEvent)) (store : Held)
    (bs : List (List Receipt)) (b : List Receipt) (now : Scene S) (fault : ServeFault)
    → (run_over held old bs).end ≡ None → (IsSettled (held old.store) → IsSettled store)
    → BatchEnds {A = A} held first store (member_of old) (run_over held old bs) b now (Err fault)
    → EndsSo held old now.node first now.entries (bs ++ b ∷ []) (Err fault)
ends_with A held old new first store bs b now (Node fault) going settled h =
    record { before = bs; last = b; batches_are = refl; going = going; fails = h.0; left = λ s. h.1 (settled s) }
ends_with A held old new first store bs b now Port going settled h =
    let whole = run_with_more (member_of old) bs b (run_at (state_of held old)) going in
    (subst (Stands held first now.node now.entries) (sym whole) h.0, ap (λ (r : Run). r.end) whole ∙ h.1)
ends_with A held old new first store bs b now Clock going settled h =
    let whole = run_with_more (member_of old) bs b (run_at (state_of held old)) going in
    (subst (Stands held first now.node now.entries) (sym whole) h.0, ap (λ (r : Run). r.end) whole ∙ h.1)

settled_so : (A B : Type 0) (store : Held) (fault : ServeFault) → EndsSettled {A = A} store (Err fault) → EndsSettled {A = B} store (Err fault)
settled_so A B store (Node fault) h = tt
settled_so A B store Port h = h
settled_so A B store Clock h = h

-- a batch ends the run
pub serves_less : {S : Type 0} (held : S → Held) (old : Hosted S) (first : Option (List PortEvent))
    (asked : Option (List (Option ℕ))) (count left turns : ℕ) (now new : Scene S) (told said : Option (List (Option ℕ)))
    (fault : ServeFault) → turns < 2 ^ 54 → count + left ≡ turns → IsSoFar held old first asked count now told
    → TakesBatch held now new told said left (Err fault)
    → Serves held old new.node first new.entries asked said turns (Err fault)
serves_less held old first asked count left turns now new told said fault below sum h b =
    let t = b.steps in
    let batch = b.batch in
    record {
      batches = h.batches ++ batch ∷ [];
      formed = formed_more 0 h.batches batch h.formed (subst (λ (n : ℕ). IsBatch n batch) h.received b.is_batch);
      moments = moments_with asked told said h.batches batch h.moments t.moments;
      receives = receives_with (option_map receives_in first) (option_map receives_in now.entries)
          (option_map receives_in new.entries) h.batches batch h.receives t.receives;
      most = omega (arith, many_with h.batches batch, h.many, sum, b.most);
      all = tt;
      exact = λ clean.
          let before = t.clean clean in
          let small : count < 2 ^ 54 = omega (arith, below, sum) in
          ends_with ℕ held old new.node first (held now.node.store) h.batches batch new fault (h.going before small) (h.settled before)
          (ends_so_far {A = ℕ} held old first asked count now new batch told said (Err fault) h t clean (omega (arith, below, sum, b.most)));
      settled = λ clean settled. settled_so ℕ Served (held new.node.store) fault (t.settled clean);
      same = same_trans old now.node new.node h.same t.same;
    }

-- a fault ends the turns
pub serves_until_fault : {S : Type 0} (held : S → Held) (old new : Hosted S) (first entries : Option (List PortEvent))
    (asked told : Option (List (Option ℕ))) (turns : ℕ) (answers : ℕ → Bool → Bool → Type 0) (fault : ServeFault)
    → Serves held old new first entries asked told turns (Err fault)
    → ServesUntil held old new first entries asked told turns answers (Err fault)
serves_until_fault held old new first entries asked told turns answers fault serves =
    record { most = turns; within = omega arith; ends = tt; serves = serves }

-- an answer ends the turns, or none is left
pub serves_until_end : {S : Type 0} (held : S → Held) (old : Hosted S) (first : Option (List PortEvent))
    (asked : Option (List (Option ℕ))) (count left turns : ℕ) (now : Scene S) (told : Option (List (Option ℕ)))
    (answers : ℕ → Bool → Bool → Type 0) (is_early : Bool) → turns < 2 ^ 54 → count + left ≡ turns
    → IsSoFar held old first asked count now told
    → (turns ≡ 0) ⊎ ((0 < count) × answers left (is_waiting now.node) is_early) → (is_early ≡ false → left ≡ 0)
    → ServesUntil held old now.node first now.entries asked told turns answers (Ok (served_in now.tally))
serves_until_end held old first asked count left turns now told answers is_early below sum h last all = record {
  most = count;
  within = omega (arith, sum);
  ends = record { left = left; sum = sum; is_early = is_early; asked = last; all = all };
  serves = serves_all held old first asked count now told (omega (arith, below, sum)) h;
}

all_served : (turns most : ℕ) → EndsTurns turns most (λ _ ends. ends ≡ false) → most ≡ turns
all_served turns most h =
    let sum = h.sum in
    elim h.asked [
      | inl none ↦ omega (arith, sum, none)
      | inr last ↦ let left = h.all last.1 in omega (arith, sum, left)
    ]

-- of a fault it is also told that more turns were given
more_turns : {S : Type 0} (held : S → Held) (old new : Hosted S) (first entries : Option (List PortEvent))
    (asked told : Option (List (Option ℕ))) (most turns : ℕ) (fault : ServeFault) → most ≤ turns
    → Serves held old new first entries asked told most (Err fault)
    → Serves held old new first entries asked told turns (Err fault)
more_turns held old new first entries asked told most turns fault within h =
    let few = h.most in
    record {
      batches = h.batches;
      formed = h.formed;
      moments = h.moments;
      receives = h.receives;
      most = omega (arith, few, within);
      all = tt;
      exact = h.exact;
      settled = h.settled;
      same = h.same;
    }

-- a call that never ends early serves all turns
pub serves_never : {S : Type 0} (held : S → Held) (old new : Hosted S) (first entries : Option (List PortEvent))
    (asked told : Option (List (Option ℕ))) (turns : ℕ) (result : Result Served ServeFault)
    → ServesUntil held old new first entries asked told turns (λ _ _ ends. ends ≡ false) result
    → Serves held old new first entries asked told turns result
serves_never held old new first entries asked told turns (Ok served) h =
    let all : h.most ≡ turns = all_served turns h.most h.ends in
    subst (λ (n : ℕ). Serves held old new first entries asked told n (Ok served)) all h.serves
serves_never held old new first entries asked told turns (Err fault) h = more_turns held old new first entries asked told h.most turns fault h.within h.serves

batch_of_going : (x : Receipt) (xs : List Receipt) (n : ℕ) → GoesOn n (x ∷ xs) → IsBatch n (x ∷ xs)
batch_of_going x [] n h = record { before = []; last = x; is = refl; goes_on = tt }
batch_of_going x (y ∷ ys) n h =
    let b = batch_of_going y ys (received_with x n) h.1 in
    record { before = x ∷ b.before; last = b.last; is = ap (λ (zs : List Receipt). x ∷ zs) b.is; goes_on = (h.0, b.goes_on) }

-- what was received before the clock failed is served
served_before : {S : Type 0} (held : S → Held) (old : Hosted S) (first : Option (List PortEvent))
    (asked : Option (List (Option ℕ))) (count : ℕ) (now new : Scene S) (before : List Receipt) (told said : Option (List (Option ℕ)))
    → IsSoFar held old first asked count now told → GoesOn now.tally.received before
    → StepsBatch {A = Unit {0}} held now new before told said (Ok tt)
    → IsSoFar held old first asked (count + length before) new said
served_before held old first asked count now new [] told said h goes t =
    subst (λ (n : ℕ). IsSoFar held old first asked n new said) (let e : count ≡ count + 0 = omega arith in e)
    (so_far_same (Unit {0}) held old first asked count now new told said tt h t)
served_before held old first asked count now new (x ∷ xs) told said h goes t =
    so_far_next (Unit {0}) held old first asked count now new (x ∷ xs) told said tt h
    (batch_of_going x xs now.tally.received goes) t

-- a batch ends the run by the clock
by_clock : {S : Type 0} (held : S → Held) (old : Hosted S) (first : Option (List PortEvent))
    (asked : Option (List (Option ℕ))) (count left turns : ℕ) (now new : Scene S) (told said : Option (List (Option ℕ)))
    → turns < 2 ^ 54 → count + left ≡ turns → IsSoFar held old first asked count now told
    → TakesBatch held now new told said left (Err Clock) → EndsByClock held old new.node first asked turns
by_clock held old first asked count left turns now new told said below sum h b =
    let c = b.clock in
    let then : Scene _ = record { node = new.node; entries = c.kept; tally = c.tally } in
    let fewer : count + length c.before < turns =
    let e = ap (λ (xs : List Receipt). length xs) c.is ∙ one_more c.before c.last in omega (arith, sum, e, b.most) in
    record {
      count = count + length c.before;
      within = fewer;
      served = served_in c.tally;
      kept = c.kept;
      told = c.said;
      before = serves_all held old first asked (count + length c.before) then c.said (omega (arith, fewer, below))
          (served_before held old first asked count now then c.before told c.said h c.goes_on c.steps);
    }

-- a batch ends the run, by the clock if the fault says so
pub ends_by_clock : {S : Type 0} (held : S → Held) (old : Hosted S) (first : Option (List PortEvent))
    (asked : Option (List (Option ℕ))) (count left turns : ℕ) (now new : Scene S) (told said : Option (List (Option ℕ)))
    (fault : ServeFault) → turns < 2 ^ 54 → count + left ≡ turns → IsSoFar held old first asked count now told
    → TakesBatch held now new told said left (Err fault) → (result : Result Served ServeFault) → result ≡ Err fault
    → result ≡ Err Clock → EndsByClock held old new.node first asked turns
ends_by_clock held old first asked count left turns now new told said (Node fault) below sum h b result is clock =
    absurd cc
ends_by_clock held old first asked count left turns now new told said Port below sum h b result is clock = absurd cc
ends_by_clock held old first asked count left turns now new told said Clock below sum h b result is clock =
    by_clock held old first asked count left turns now new told said below sum h b
