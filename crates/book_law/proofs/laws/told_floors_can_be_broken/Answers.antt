-- Each event before the action is looked at.
use Rattle.std.proofs.Common.{◌≡◌, ℕ, zero, suc, ◌≤◌, List, take, Option, Some, refl, sym, ap, ◌∙◌, arith, subst}
use Rattle.admit_core.specs.Fit.{code_at}
use Rattle.sha1.specs.Sha1.{first_words, schedule, rounds, compress, hash_after, digest_bytes, sha1}
use Rattle.vote_core.specs.Schedule.{Envelope}
use Rattle.vote_core.specs.Voting.{propose, propose_alone, propose_among, on_ask, accept, count_grant, on_grant, raise, count_deny, on_deny, on_floor, on_message, tick}
use Rattle.vote_core.specs.declared.message.Message.TheVariants.{Floor}
use Rattle.oath_node.specs.Machine.{Client, Peer, Tick, made_by_proposal, made_by_ruling, made_by_datagram, made_while_running, made_by_event}
use Rattle.book_law.specs.Broken.{locks_out}
use Rattle.book_law.specs.Examples.{tells_early, tells_held, three}
use Rattle.book_law.specs.Floors.{WasHeld, WasHeldAt}
use Rattle.book_law.specs.Lives.{floor_in, state_after, state_after_action, state_of}
use Rattle.book_law.proofs.laws.told_floors_can_be_broken.Goals as goal

pub returns-clause-held : goal.returns-clause-held
unfolding code_at first_words schedule rounds compress hash_after digest_bytes sha1 state_after state_after_action made_by_event made_while_running made_by_datagram made_by_ruling made_by_proposal propose propose_alone propose_among on_ask accept count_grant on_grant raise count_deny on_deny on_floor on_message tick
returns-clause-held c = record {
  node = 1;
  from = 2;
  envelope = record { sender = 2; receiver = 1; message = Floor 1 4 };
  number = 1;
  floor = 4;
  tells = refl;
  taken = (refl, refl);
  held = record { event = 3; earlier = omega arith; held = omega arith };
}

pub returns-clause-held_floor : goal.returns-clause-held_floor
unfolding code_at first_words schedule rounds compress hash_after digest_bytes sha1 state_after state_after_action made_by_event made_while_running made_by_datagram made_by_ruling made_by_proposal propose propose_alone propose_among on_ask accept count_grant on_grant raise count_deny on_deny on_floor on_message tick
returns-clause-held_floor c = refl

pub returns-clause-was_held : goal.returns-clause-was_held
unfolding code_at first_words schedule rounds compress hash_after digest_bytes sha1 state_after state_after_action made_by_event made_while_running made_by_datagram made_by_ruling made_by_proposal propose propose_alone propose_among on_ask accept count_grant on_grant raise count_deny on_deny on_floor on_message tick
returns-clause-was_held c = record { event = 3; earlier = omega arith; held = omega arith }

pub returns-clause-less_was_held : goal.returns-clause-less_was_held
unfolding code_at first_words schedule rounds compress hash_after digest_bytes sha1 state_after state_after_action made_by_event made_while_running made_by_datagram made_by_ruling made_by_proposal propose propose_alone propose_among on_ask accept count_grant on_grant raise count_deny on_deny on_floor on_message tick
returns-clause-less_was_held c = record { event = 4; earlier = omega arith; held = omega arith }

pub returns-clause-held_later : goal.returns-clause-held_later
unfolding code_at first_words schedule rounds compress hash_after digest_bytes sha1 state_after state_after_action made_by_event made_while_running made_by_datagram made_by_ruling made_by_proposal propose propose_alone propose_among on_ask accept count_grant on_grant raise count_deny on_deny on_floor on_message tick
returns-clause-held_later c = refl

more : (event : ℕ) → event ≤ 4 → 5 ≤ floor_in three tells_held 2 0 event → ⊥
unfolding code_at first_words schedule rounds compress hash_after digest_bytes sha1 state_after state_after_action made_by_event made_while_running made_by_datagram made_by_ruling made_by_proposal propose propose_alone propose_among on_ask accept count_grant on_grant raise count_deny on_deny on_floor on_message tick
more zero low h = omega (arith, h)
more (suc zero) low h = omega (arith, h)
more (suc (suc zero)) low h = omega (arith, h)
more (suc (suc (suc zero))) low h = omega (arith, h)
more (suc (suc (suc (suc zero)))) low h = omega (arith, h)
more (suc (suc (suc (suc (suc later))))) low h = omega (arith, low)

pub returns-clause-more_was_not_held : goal.returns-clause-more_was_not_held
returns-clause-more_was_not_held c h = more h.event h.earlier h.held

elsewhere : (event : ℕ) → event ≤ 4 → 4 ≤ floor_in three tells_held 1 0 event → ⊥
unfolding code_at first_words schedule rounds compress hash_after digest_bytes sha1 state_after state_after_action made_by_event made_while_running made_by_datagram made_by_ruling made_by_proposal propose propose_alone propose_among on_ask accept count_grant on_grant raise count_deny on_deny on_floor on_message tick
elsewhere zero low h = omega (arith, h)
elsewhere (suc zero) low h = omega (arith, h)
elsewhere (suc (suc zero)) low h = omega (arith, h)
elsewhere (suc (suc (suc zero))) low h = omega (arith, h)
elsewhere (suc (suc (suc (suc zero)))) low h = omega (arith, h)
elsewhere (suc (suc (suc (suc (suc later))))) low h = omega (arith, low)

pub returns-clause-not_held_at_another_node : goal.returns-clause-not_held_at_another_node
returns-clause-not_held_at_another_node c h = elsewhere h.event h.earlier h.held

another : (event : ℕ) → event ≤ 4 → 4 ≤ floor_in three tells_held 2 1 event → ⊥
unfolding code_at first_words schedule rounds compress hash_after digest_bytes sha1 state_after state_after_action made_by_event made_while_running made_by_datagram made_by_ruling made_by_proposal propose propose_alone propose_among on_ask accept count_grant on_grant raise count_deny on_deny on_floor on_message tick
another zero low h = omega (arith, h)
another (suc zero) low h = omega (arith, h)
another (suc (suc zero)) low h = omega (arith, h)
another (suc (suc (suc zero))) low h = omega (arith, h)
another (suc (suc (suc (suc zero)))) low h = omega (arith, h)
another (suc (suc (suc (suc (suc later))))) low h = omega (arith, low)

pub returns-clause-not_held_of_another_token : goal.returns-clause-not_held_of_another_token
returns-clause-not_held_of_another_token c h = another h.event h.earlier h.held

early : (event : ℕ) → event ≤ 3 → 4 ≤ floor_in three tells_early 2 0 event → ⊥
unfolding code_at first_words schedule rounds compress hash_after digest_bytes sha1 state_after state_after_action made_by_event made_while_running made_by_datagram made_by_ruling made_by_proposal propose propose_alone propose_among on_ask accept count_grant on_grant raise count_deny on_deny on_floor on_message tick
early zero low h = omega (arith, h)
early (suc zero) low h = omega (arith, h)
early (suc (suc zero)) low h = omega (arith, h)
early (suc (suc (suc zero))) low h = omega (arith, h)
early (suc (suc (suc (suc later)))) low h = omega (arith, low)

pub returns-clause-not_held_yet : goal.returns-clause-not_held_yet
returns-clause-not_held_yet c h = early h.event h.earlier h.held

too_high : (event : ℕ) → event ≤ 6 → 9 ≤ floor_in three locks_out 2 0 event → ⊥
unfolding code_at first_words schedule rounds compress hash_after digest_bytes sha1 state_after state_after_action made_by_event made_while_running made_by_datagram made_by_ruling made_by_proposal propose propose_alone propose_among on_ask accept count_grant on_grant raise count_deny on_deny on_floor on_message tick
too_high zero low h = omega (arith, h)
too_high (suc zero) low h = omega (arith, h)
too_high (suc (suc zero)) low h = omega (arith, h)
too_high (suc (suc (suc zero))) low h = omega (arith, h)
too_high (suc (suc (suc (suc zero)))) low h = omega (arith, h)
too_high (suc (suc (suc (suc (suc zero))))) low h = omega (arith, h)
too_high (suc (suc (suc (suc (suc (suc zero)))))) low h = omega (arith, h)
too_high (suc (suc (suc (suc (suc (suc (suc later))))))) low h = omega (arith, low)

pub returns-clause-not_held : goal.returns-clause-not_held
returns-clause-not_held c h = too_high h.event h.earlier h.held

-- what an input tells
the_envelope : (from other : ℕ) (one two : Envelope) → Peer from (Some one) ≡ Peer other (Some two) → one ≡ two
the_envelope from other one two e = cc

the_token : (t u floor other : ℕ) → Floor t floor ≡ Floor u other → t ≡ u
the_token t u floor other e = cc

the_floor : (t u floor other : ℕ) → Floor t floor ≡ Floor u other → floor ≡ other
the_floor t u floor other e = cc

no_line : (client moment : ℕ) (text : List ℕ) (from : ℕ) (read : Option Envelope) → Client client moment text ≡ Peer from read → ⊥
no_line client moment text from read e = cc

no_tick : (client moment : ℕ) (text : List ℕ) → Client client moment text ≡ Tick → ⊥
no_tick client moment text e = cc

pub returns-clause-tells_too_high : goal.returns-clause-tells_too_high
unfolding code_at first_words schedule rounds compress hash_after digest_bytes sha1 state_after state_after_action made_by_event made_while_running made_by_datagram made_by_ruling made_by_proposal propose propose_alone propose_among on_ask accept count_grant on_grant raise count_deny on_deny on_floor on_message tick
returns-clause-tells_too_high c h =
    let before = (state_of three (take 6 locks_out)).processes 1 in
    let told : Envelope = record { sender = 2; receiver = 1; message = Floor 0 9 } in
    let same : told ≡ h.envelope = the_envelope 2 h.from told h.envelope h.taken.1 in
    let message : Floor 0 9 ≡ Floor h.number h.floor = ap (λ (l : Envelope). l.message) same ∙ h.tells in
    let held : WasHeldAt three locks_out 6 h.envelope.sender h.number h.floor before =
    subst (λ n. WasHeldAt three locks_out 6 h.envelope.sender h.number h.floor ((state_of three (take 6 locks_out)).processes n)) (sym h.taken.0) h.held in
    let by_node : WasHeldAt three locks_out 6 2 h.number h.floor before = subst (λ (l : Envelope). WasHeldAt three locks_out 6 l.sender h.number h.floor before) (sym same) held in
    let of_token : WasHeldAt three locks_out 6 2 0 h.floor before =
    subst (λ t. WasHeldAt three locks_out 6 2 t h.floor before) (sym (the_token 0 h.number 9 h.floor message)) by_node in
    let was : WasHeld three locks_out 6 2 0 9 = subst (λ x. WasHeldAt three locks_out 6 2 0 x before) (sym (the_floor 0 h.number 9 h.floor message)) of_token in
    too_high was.event was.earlier was.held

pub returns-clause-tells_by_a_line : goal.returns-clause-tells_by_a_line
returns-clause-tells_by_a_line c h = no_line _ _ _ h.from (Some h.envelope) h.taken.1

pub returns-clause-tells_by_an_offer : goal.returns-clause-tells_by_an_offer
returns-clause-tells_by_an_offer c h = h.taken

pub returns-clause-taken : goal.returns-clause-taken
returns-clause-taken c = (refl, refl)

pub returns-clause-taken_in_a_stop : goal.returns-clause-taken_in_a_stop
returns-clause-taken_in_a_stop c = (refl, refl)

pub returns-clause-taken_elsewhere : goal.returns-clause-taken_elsewhere
returns-clause-taken_elsewhere c h = let node : 1 ≡ 2 = h.0 in omega (arith, node)

pub returns-clause-taken_in_a_stop_elsewhere : goal.returns-clause-taken_in_a_stop_elsewhere
returns-clause-taken_in_a_stop_elsewhere c h = let node : 1 ≡ 2 = h.0 in omega (arith, node)

pub returns-clause-taken_another : goal.returns-clause-taken_another
returns-clause-taken_another c h = no_tick _ _ _ h.1

pub returns-clause-taken_another_in_a_stop : goal.returns-clause-taken_another_in_a_stop
returns-clause-taken_another_in_a_stop c h = no_tick _ _ _ h.1
