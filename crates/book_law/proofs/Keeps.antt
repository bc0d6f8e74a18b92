-- A step of a machine begins and fails for tokens of the users file alone, and never forgets the last pass of its content.
use Rattle.std.proofs.Common.{◌≡◌, ℕ, ℤ, ◌^◌, ◌<◌, List, [], ◌∷◌, ◌++◌, length, Option, Some, None, refl, ap, ltb}
use Rattle.std.specs.Option.{option_or}
use Rattle.std.proofs.lemmas.Bool.{cond_both}
use Rattle.floor_store.specs.Records.{PassRecord}
use Rattle.client_lines.specs.Request.{without_lf}
use Rattle.vote_core.specs.NodeSet.{PlaceRecord}
use Rattle.vote_core.specs.Schedule.{Envelope}
use Rattle.vote_core.specs.Voting.{Voted, on_message, pass_in, propose, tick, tick_telling}
use Rattle.oath_node.specs.Grounds.{HasGrounds}
use Rattle.oath_node.specs.Machine.{Beginning, Config, Made, NodeEvent, NodeState, Client, Peer, Tick, Owner, is_heard, made_by_datagram, made_by_event, made_by_message, made_by_proposal, made_by_ruling, made_by_vote, made_while_running, next_beginning, next_owner, quiet_made, ruling_at, standing_at, stopped_node}
use Rattle.oath_node.specs.declared.ruling.Ruling.{Ruling}
use Rattle.oath_node.specs.declared.ruling.Ruling.TheVariants.{Outside, Again, Waiting, Denied, Wrong, Fitting}
use Rattle.cluster_sim.proofs.BelowLaws.{GroundLaw}
use Rattle.seat_law.proofs.Last.{blind_message, blind_propose, blind_tick}

-- ---- what a step begins, fails and keeps

abbrev pub LowBegan : ℕ → Option Beginning → Type 0
LowBegan m None = Unit {0}
LowBegan m (Some b) = b.token < m

abbrev pub LowFailed : ℕ → Option (ℕ × ℕ) → Type 0
LowFailed m None = Unit {0}
LowFailed m (Some f) = f.0 < m

abbrev pub LowPass : ℕ → Option PassRecord → Type 0
LowPass m None = Unit {0}
LowPass m (Some p) = p.token < m

pub record Keeps (m : ℕ) (x : NodeState) (made : Made) : Type 0 where
  pub began : LowBegan m made.began
  pub failed : LowFailed m made.failed
  pub last : made.state.content.last ≡ option_or made.pass x.content.last

module _ (law : GroundLaw) (config : Config) (place : PlaceRecord) (x : NodeState) where
  abbrev m : ℕ
  m = length config.book

  voted : (owners : List Owner) (began : Option Beginning) (step : Voted) → LowBegan m began → step.content.last ≡ option_or (pass_in step.decisions) x.content.last → Keeps m x (made_by_vote owners began step x)
  voted owners began step low last = record { began = low; failed = tt; last = last }

  proposes : (client : ℕ) (line nonce : List ℕ) (t lo hi : ℕ) (drift : ℤ) → t < m → Keeps m x (made_by_proposal place client line nonce t lo hi drift x)
  unfolding made_by_proposal
  proposes client line nonce t lo hi drift low =
      let step = propose place t lo hi drift x.content x.voter in
      let goes = made_by_vote (x.owners ++ next_owner client line nonce x ∷ []) (Some (next_beginning place t lo hi x)) step x in
      cond_both (ltb x.voter.seq (2 ^ 62)) goes (quiet_made (stopped_node x)) (λ made. Keeps m x made)
      (λ _. voted (x.owners ++ next_owner client line nonce x ∷ []) (Some (next_beginning place t lo hi x)) step low
      (ap (λ (w : Voted). w.content.last) (blind_propose place t lo hi drift x.voter x.content x.content.last)))
      (λ _. record { began = tt; failed = tt; last = refl })

  ruled : (client moment : ℕ) (text : List ℕ) (r : Ruling) → HasGrounds config.book config.limits (standing_at x client moment (without_lf text)) moment text r → Keeps m x (made_by_ruling place client moment (without_lf text) r x)
  unfolding made_by_ruling
  ruled client moment text Outside h = record { began = tt; failed = tt; last = refl }
  ruled client moment text (Again kept) h = record { began = tt; failed = tt; last = refl }
  ruled client moment text Waiting h = record { began = tt; failed = tt; last = refl }
  ruled client moment text (Denied nonce reason) h = record { began = tt; failed = tt; last = refl }
  ruled client moment text (Wrong nonce reason token) h = record { began = tt; failed = h.within; last = refl }
  ruled client moment text (Fitting nonce t span drift) h = proposes client (without_lf text) nonce t span.lo span.hi drift h.within

  reads : (from : ℕ) (read : Option Envelope) → Keeps m x (made_by_datagram config place from read x)
  unfolding made_by_datagram
  reads from None = record { began = tt; failed = tt; last = refl }
  reads from (Some l) =
      cond_both (is_heard config place from l) (made_by_message place from l.message x) (quiet_made x) (λ made. Keeps m x made)
      (λ _. voted x.owners None (on_message place from l.message x.content x.voter) tt
      (ap (λ (w : Voted). w.content.last) (blind_message place from l.message x.voter x.content x.content.last)))
      (λ _. record { began = tt; failed = tt; last = refl })

  tick_last : (tick place x.content x.voter).content.last ≡ option_or (pass_in (tick place x.content x.voter).decisions) x.content.last
  unfolding tick tick_telling
  tick_last = ap (λ (w : Voted). w.content.last) (blind_tick place [] x.voter x.content x.content.last)

  runs : (input : NodeEvent) → Keeps m x (made_while_running config place input x)
  unfolding made_while_running
  runs (Client client moment text) = ruled client moment text (ruling_at config x client moment text) (law config.book config.limits (standing_at x client moment (without_lf text)) moment text)
  runs (Peer from read) = reads from read
  runs Tick = voted x.owners None (tick place x.content x.voter) tt tick_last

  pub keeps : (input : NodeEvent) → Keeps m x (made_by_event config place input x)
  unfolding made_by_event
  keeps input =
      cond_both x.running (made_while_running config place input x) (quiet_made x) (λ made. Keeps m x made)
      (λ _. runs input) (λ _. record { began = tt; failed = tt; last = refl })
