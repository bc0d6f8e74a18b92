-- What the simulation takes of an event is what the world does.
use Rattle.std.proofs.Common.{◌≡◌, ℕ, suc, Bool, true, false, cond, ⊎_elim, List, [], ◌∷◌, ◌++◌, length, map, Option, Some, None, refl, sym, ap, ◌∙◌, subst, eqb}
use Rattle.std.specs.Option.{option_map}
use Rattle.std.specs.Prelude.{OnOk, Result}
use Rattle.std.proofs.lemmas.Result.{on_ok_weaker}
use Rattle.std.proofs.lemmas.Bool.{cases_Bool, cond-false, cond-true, cond_both, eqb-true}
use Rattle.floor_store.specs.Content.{Content}
use Rattle.floor_store.specs.Records.{PassRecord, ProposalRecord}
use Rattle.otp_core.specs.Acceptance.{Acceptance}
use Rattle.vote_core.specs.NodeSet.{PlaceRecord}
use Rattle.vote_core.specs.Schedule.{Begun, Envelope, began_in, envelope_from, is_member}
use Rattle.vote_core.specs.Voting.{same_proposal}
use Rattle.vote_core.specs.declared.message.Message.{Message}
use Rattle.oath_node.specs.Hosted.{Hosted}
use Rattle.oath_node.specs.Machine.{Beginning, Config, Made, NodeEvent, NodeState, Peer, Reply, made_by_event, made_by_datagram, made_while_running, quiet_made}
use Rattle.oath_node.specs.Outputs.{OutputsRecord, datagram_item, outputs_of, reply_item}
use Rattle.cluster_sim.specs.Journal.{AreHosts, AreLosses, IsAsked, IsHost, IsRecorded, IsRun, IsPutOut, JournalRecord, Letter, SimulationRecord, StartRecord, letter_of, outputs_at, nodes_after, passes_with_pass, sent_items, start_event, starts_with_begun, journal_with, journal_with_outputs, told_world, told_act, told_items, told_turn}
use Rattle.oath_node.specs.Outputs.{no_outputs}
use Rattle.cluster_sim.specs.World.{Act, Note, Answer, World, acting_node, has_store, node_event_of, world_after_act, begun_with, begun_in, is_from, world_with_made, note_of, acceptance_in, passes_in, with_state, told_reply, world_after_turn, with_told_of}
use Rattle.cluster_sim.proofs.Acts.{unheard, unread}
use Rattle.cluster_sim.proofs.HostLemmas.{has_it, has_none, losses_set}
use Rattle.cluster_sim.proofs.Shape.{right_nil}
use Rattle.cluster_sim.proofs.Starts.{one_more}

sent_replies : (i : ℕ) (rs : List Reply) → sent_items i (map reply_item rs) ≡ []
sent_replies i [] = refl
sent_replies i (r ∷ rs) = sent_replies i rs

-- the datagrams among what is put out
sent_of : (key : List ℕ) (i : ℕ) (sends : List (ℕ × Message)) (rs : List Reply) → sent_items i (map (datagram_item key i) sends ++ map reply_item rs) ≡ map (letter_of key) (map (envelope_from i) sends)
sent_of key i [] rs = sent_replies i rs
sent_of key i (x ∷ sends) rs = ap (λ (l : List Letter). letter_of key (envelope_from i x) ∷ l) (sent_of key i sends rs)

told_replies : (e i : ℕ) (rs : List Reply) → told_items e i (map reply_item rs) ≡ map (told_reply e i) rs
told_replies e i [] = refl
told_replies e i (r ∷ rs) = ap (λ (l : List Answer). told_reply e i r ∷ l) (told_replies e i rs)

-- and the replies
told_of : (key : List ℕ) (e i : ℕ) (sends : List (ℕ × Message)) (rs : List Reply) → told_items e i (map (datagram_item key i) sends ++ map reply_item rs) ≡ map (told_reply e i) rs
told_of key e i [] rs = told_replies e i rs
told_of key e i (x ∷ sends) rs = told_of key e i sends rs

letters_append : (key : List ℕ) (xs ys : List Envelope) → map (letter_of key) (xs ++ ys) ≡ map (letter_of key) xs ++ map (letter_of key) ys
letters_append key [] ys = refl
letters_append key (x ∷ xs) ys = ap (λ (l : List Letter). letter_of key x ∷ l) (letters_append key xs ys)

-- ---- starts and passes

starts_same : (e : ℕ) (h : List Note) (starts : List StartRecord) → ((p : ProposalRecord) → began_in (begun_in h p) ≡ start_event starts p)
    → (o : Option Beginning) (q : ProposalRecord) → began_in (begun_with e o (begun_in h) q) ≡ start_event (starts_with_begun e (option_map (λ (b : Beginning). b.proposal) o) starts) q
starts_same e h starts same None q = same q
starts_same e h starts same (Some b) q =
    cond_both (same_proposal q b.proposal) (Some (record { token = b.token; lo = b.lo; hi = b.hi; event = e })) (begun_in h q)
    (λ (x : Option Begun). began_in x ≡ start_event (starts ++ record { proposal = b.proposal; event = e } ∷ []) q)
    (λ t. sym (one_more 0 starts (record { proposal = b.proposal; event = e }) q ∙ cond-true (same_proposal q b.proposal) e (start_event starts q) t))
    (λ f. same q ∙ sym (one_more 0 starts (record { proposal = b.proposal; event = e }) q ∙ cond-false (same_proposal q b.proposal) e (start_event starts q) f))

passes_same : (begun : ProposalRecord → Option Begun) (starts : List StartRecord) (passes : List Acceptance) (e i : ℕ) → ((p : ProposalRecord) → began_in (begun p) ≡ start_event starts p)
    → (o : Option PassRecord) → passes_with_pass starts e i o passes ≡ passes ++ acceptance_in begun e i o
passes_same begun starts passes e i same None = sym (right_nil passes)
passes_same begun starts passes e i same (Some p) =
    ap (λ (k : ℕ). passes ++ record { began = k; ended = e; node = i; token = p.token; lo = p.lo; hi = p.hi } ∷ []) (sym (same (record { node = i; boot = p.boot; seq = p.seq })))

-- ---- what is taken

noted_starts : (key : List ℕ) (e i n : ℕ) (m : Made) (w : World) (j : JournalRecord) → IsRecorded key w j → (p : ProposalRecord)
    → began_in (begun_in (note_of e i m ∷ w.history) p) ≡ start_event (starts_with_begun e (option_map (λ (b : Beginning). b.proposal) m.began) j.starts) p
noted_starts key e i n m w j h p = starts_same e w.history j.starts h.starts m.began p

noted_passes : (key : List ℕ) (e i n : ℕ) (m : Made) (w : World) (j : JournalRecord) → IsRecorded key w j
    → passes_with_pass (starts_with_begun e (option_map (λ (b : Beginning). b.proposal) m.began) j.starts) e i m.pass j.passes ≡ passes_in (note_of e i m ∷ w.history)
noted_passes key e i n m w j h =
    passes_same (begun_in (note_of e i m ∷ w.history)) (starts_with_begun e (option_map (λ (b : Beginning). b.proposal) m.began) j.starts) j.passes e i (noted_starts key e i n m w j h) m.pass
    ∙ ap (λ (l : List Acceptance). l ++ acceptance_in (begun_in (note_of e i m ∷ w.history)) e i m.pass) h.passes

taken_told : (key : List ℕ) (e i n : ℕ) (m : Made) (w : World) (j : JournalRecord) → IsRecorded key w j → IsRecorded key (world_with_made e i m w) (journal_with e i true (outputs_of key (record { me = i; n = n }) m) j)
unfolding world_with_made
taken_told key e i n m w j h = record {
  sent = ap (λ (l : List Letter). l ++ sent_items i (map (datagram_item key i) m.sends ++ map reply_item m.replies)) h.sent
      ∙ ap (λ (l : List Letter). map (letter_of key) w.sent ++ l) (sent_of key i m.sends m.replies) ∙ sym (letters_append key w.sent (map (envelope_from i) m.sends));
  starts = noted_starts key e i n m w j h;
  passes = noted_passes key e i n m w j h;
  answers = ap (λ (l : List Answer). l ++ told_items e i (map (datagram_item key i) m.sends ++ map reply_item m.replies)) h.answers
      ∙ ap (λ (l : List Answer). w.told ++ l) (told_of key e i m.sends m.replies);
}

taken_kept : (key : List ℕ) (e i n : ℕ) (m : Made) (w : World) (j : JournalRecord) → IsRecorded key w j → IsRecorded key (with_told_of w (world_with_made e i m w)) (journal_with e i false (outputs_of key (record { me = i; n = n }) m) j)
unfolding world_with_made
taken_kept key e i n m w j h = record { sent = h.sent; starts = noted_starts key e i n m w j h; passes = noted_passes key e i n m w j h; answers = h.answers }

taken_nothing : (e i : ℕ) (b : Bool) (j : JournalRecord) → journal_with e i b no_outputs j ≡ j
taken_nothing e i true j =
    ap (λ (l : List Letter). record { sent = l; starts = j.starts; passes = j.passes; answers = j.answers ++ []; losses = j.losses; least = j.least }) (right_nil j.sent)
    ∙ ap (λ (l : List Answer). record { sent = j.sent; starts = j.starts; passes = j.passes; answers = l; losses = j.losses; least = j.least }) (right_nil j.answers)
taken_nothing e i false j = refl

taken_from : (e i : ℕ) (b : Bool) (o : Option OutputsRecord) (out : OutputsRecord) (j : JournalRecord) → IsPutOut o out → journal_with e i b out j ≡ journal_with_outputs e i b o j
taken_from e i b None out j h = ap (λ (x : OutputsRecord). journal_with e i b x j) h ∙ taken_nothing e i b j
taken_from e i b (Some x) out j h = ap (λ (y : OutputsRecord). journal_with e i b y j) (sym h)

taken_made : (key : List ℕ) (e i n : ℕ) (b : Bool) (m : Made) (w : World) (j : JournalRecord) → IsRecorded key w j → IsRecorded key (told_world b w (world_with_made e i m w)) (journal_with e i b (outputs_of key (record { me = i; n = n }) m) j)
taken_made key e i n true m w j h = taken_told key e i n m w j h
taken_made key e i n false m w j h = taken_kept key e i n m w j h

unmoved : (b : Bool) (w : World) → told_world b w w ≡ w
unmoved true w = refl
unmoved false w = refl

turned_recorded : (config : Config) (key : List ℕ) (e i : ℕ) (x : NodeEvent) (w : World) (b : Bool) (o : Option OutputsRecord) (j : JournalRecord) → w.lost i ≡ false → IsRecorded key w j → IsPutOut o (outputs_at config key w.n w.nodes i x)
    → IsRecorded key (told_world b w (world_after_turn config e i (Some x) w)) (journal_with_outputs e i b o j)
unfolding world_after_turn
turned_recorded config key e i x w b o j there h told = split (has_store w i) (subst (λ t. IsPutOut o (cond t (outputs_of key place m) no_outputs)) (has_it w i there) told)
  where
    place : PlaceRecord
    place = record { me = i; n = w.n }

    m : Made
    m = made_by_event config place x (w.nodes i)

    split : (t : Bool) → IsPutOut o (cond t (outputs_of key place m) no_outputs) → IsRecorded key (told_world b w (cond t (world_with_made e i m w) w)) (journal_with_outputs e i b o j)
    split true k = subst (IsRecorded key (told_world b w (world_with_made e i m w))) (taken_from e i b o (outputs_of key place m) j k) (taken_made key e i w.n b m w j h)
    split false k = subst (IsRecorded key (told_world b w w)) (taken_from e i b o no_outputs j k) (subst (λ (y : World). IsRecorded key y (journal_with e i b no_outputs j)) (sym (unmoved b w)) (subst (IsRecorded key w) (sym (taken_nothing e i b j)) h))

turned_n : (config : Config) (e i : ℕ) (x : NodeEvent) (w : World) (b : Bool) → (told_world b w (world_after_turn config e i (Some x) w)).n ≡ w.n
unfolding world_after_turn world_with_made
turned_n config e i x w true = cond_both (has_store w i) (world_with_made e i (made_by_event config (record { me = i; n = w.n }) x (w.nodes i)) w) w (λ (y : World). y.n ≡ w.n) (λ _. refl) (λ _. refl)
turned_n config e i x w false = cond_both (has_store w i) (world_with_made e i (made_by_event config (record { me = i; n = w.n }) x (w.nodes i)) w) w (λ (y : World). y.n ≡ w.n) (λ _. refl) (λ _. refl)

turned_lost : (config : Config) (e i : ℕ) (x : NodeEvent) (w : World) (b : Bool) → (told_world b w (world_after_turn config e i (Some x) w)).lost ≡ w.lost
unfolding world_after_turn world_with_made
turned_lost config e i x w true = cond_both (has_store w i) (world_with_made e i (made_by_event config (record { me = i; n = w.n }) x (w.nodes i)) w) w (λ (y : World). y.lost ≡ w.lost) (λ _. refl) (λ _. refl)
turned_lost config e i x w false = cond_both (has_store w i) (world_with_made e i (made_by_event config (record { me = i; n = w.n }) x (w.nodes i)) w) w (λ (y : World). y.lost ≡ w.lost) (λ _. refl) (λ _. refl)

turned_nodes : (config : Config) (e i : ℕ) (x : NodeEvent) (w : World) (b : Bool) → w.lost i ≡ false → nodes_after config w.n w.nodes i x ≡ (told_world b w (world_after_turn config e i (Some x) w)).nodes
unfolding world_after_turn world_with_made
turned_nodes config e i x w b there = ap (λ t. cond t (with_state i m.state w.nodes) w.nodes) (has_it w i there) ∙ split (has_store w i) b
  where
    m : Made
    m = made_by_event config (record { me = i; n = w.n }) x (w.nodes i)

    split : (t b : Bool) → cond t (with_state i m.state w.nodes) w.nodes ≡ (told_world b w (cond t (world_with_made e i m w) w)).nodes
    split true true = refl
    split true false = refl
    split false true = refl
    split false false = refl

turned_losses : (config : Config) (tokens e i : ℕ) (x : NodeEvent) (w : World) (b : Bool) (j : JournalRecord) → w.lost i ≡ false → AreLosses tokens w j → AreLosses tokens (told_world b w (world_after_turn config e i (Some x) w)) j
unfolding world_after_turn world_with_made
turned_losses config tokens e i x w b j there h = split (has_store w i) b
  where
    m : Made
    m = made_by_event config (record { me = i; n = w.n }) x (w.nodes i)

    split : (t b : Bool) → AreLosses tokens (told_world b w (cond t (world_with_made e i m w) w)) j
    split true true = record { used = losses_set tokens i m.state w j there h.used; least = h.least }
    split true false = record { used = losses_set tokens i m.state w j there h.used; least = h.least }
    split false true = record { used = h.used; least = h.least }
    split false false = record { used = h.used; least = h.least }

-- what is put out changes no losses
put_out_losses : (tokens e i : ℕ) (b : Bool) (o : Option OutputsRecord) (w : World) (j : JournalRecord) → AreLosses tokens w j → AreLosses tokens w (journal_with_outputs e i b o j)
put_out_losses tokens e i b None w j h = h
put_out_losses tokens e i true (Some outputs) w j h = record { used = h.used; least = h.least }
put_out_losses tokens e i false (Some outputs) w j h = record { used = h.used; least = h.least }

pub turned_run : (config : Config) (key : List ℕ) (e i : ℕ) (x : NodeEvent) (w : World) (b : Bool) (o : Option OutputsRecord) (s : SimulationRecord) (hosts : List (Hosted Content)) → IsRun config key w s
    → length hosts ≡ length s.nodes → w.lost i ≡ false → AreHosts config key w.n w.lost (nodes_after config w.n w.nodes i x) hosts → IsPutOut o (outputs_at config key w.n w.nodes i x)
    → IsRun config key (told_world b w (world_after_turn config e i (Some x) w)) (record { nodes = hosts; journal = journal_with_outputs e i b o s.journal })
turned_run config key e i x w b o s hosts h len there are told =
    let new = told_world b w (world_after_turn config e i (Some x) w) in
    let tokens = length config.book in
    record {
      n = turned_n config e i x w b ∙ h.n ∙ sym len;
      hosts = subst (λ (k : ℕ). AreHosts config key k new.lost new.nodes hosts) (sym (turned_n config e i x w b))
          (subst (λ (l : ℕ → Bool). AreHosts config key w.n l new.nodes hosts) (sym (turned_lost config e i x w b))
          (subst (λ (f : ℕ → NodeState). AreHosts config key w.n w.lost f hosts) (turned_nodes config e i x w b there) are));
      recorded = turned_recorded config key e i x w b o s.journal there h.recorded told;
      losses = put_out_losses tokens e i b o new s.journal (turned_losses config tokens e i x w b s.journal there h.losses);
    }

-- a turn, once what it puts out is in the journal
pub turn_plays : {A E : Type 0} (config : Config) (key : List ℕ) (e i : ℕ) (x : NodeEvent) (w : World) (b : Bool) (o : Option OutputsRecord) (s : SimulationRecord) (hosts : List (Hosted Content)) (j : JournalRecord)
    (result : Result A E) → IsRun config key w s → length hosts ≡ length s.nodes → w.lost i ≡ false → IsAsked config key w.n w.lost w.nodes i x hosts o → OnOk result (j ≡ journal_with_outputs e i b o s.journal)
    → OnOk result (IsRun config key (told_turn b e i (Some x) config w) (record { nodes = hosts; journal = j }))
turn_plays config key e i x w b o s hosts j result h len there asked taken =
    on_ok_weaker result
    (λ (is : j ≡ journal_with_outputs e i b o s.journal). subst (λ (k : JournalRecord). IsRun config key (told_turn b e i (Some x) config w) (record { nodes = hosts; journal = k })) (sym is)
    (turned_run config key e i x w b o s hosts h len there asked.left asked.put_out)) taken

-- ---- noise

-- a datagram that is not heard is dropped
abbrev pub IsSilent : Config → ℕ → Option Envelope → Type 0
IsSilent config from o = (place : PlaceRecord) (x : NodeState) → made_by_datagram config place from o x ≡ quiet_made x

silent_unread : (config : Config) (from : ℕ) → IsSilent config from None
silent_unread config from place x = unread config place from x

silent_other : (config : Config) (from : ℕ) (l : Envelope) → eqb l.sender from ≡ false → IsSilent config from (Some l)
silent_other config from l other place x = unheard config place from l x other

-- what says no envelope of the node that it comes from is not heard
pub silent_noise : (config : Config) (from : ℕ) (o : Option Envelope) → is_from from o ≡ false → IsSilent config from o
silent_noise config from None other = silent_unread config from
silent_noise config from (Some l) other = silent_other config from l other

silent : (config : Config) (place : PlaceRecord) (x : NodeState) (from : ℕ) (r : Option Envelope) → IsSilent config from r → made_by_event config place (Peer from r) x ≡ quiet_made x
unfolding made_by_event made_while_running
silent config place x from r s = cond_both x.running (made_by_datagram config place from r x) (quiet_made x) (λ (m : Made). m ≡ quiet_made x) (λ _. s place x) (λ _. refl)

-- without its store nothing happens at a node
pub gone_run : (config : Config) (key : List ℕ) (e i : ℕ) (o : Option NodeEvent) (w : World) (b : Bool) (s : SimulationRecord) → w.lost i ≡ true → IsRun config key w s
    → IsRun config key (told_world b w (world_after_turn config e i o w)) s
unfolding world_after_turn
gone_run config key e i None w b s gone h = subst (λ (x : World). IsRun config key x s) (sym (unmoved b w)) h
gone_run config key e i (Some x) w b s gone h =
    subst (λ (t : Bool). IsRun config key (told_world b w (cond t (world_with_made e i (made_by_event config (record { me = i; n = w.n }) x (w.nodes i)) w) w)) s) (sym (has_none w i gone))
    (subst (λ (x : World). IsRun config key x s) (sym (unmoved b w)) h)

dropped_run : (config : Config) (key : List ℕ) (e i from : ℕ) (r : Option Envelope) (w : World) (b : Bool) (s : SimulationRecord) → IsSilent config from r → w.lost i ≡ false → IsRun config key w s
    → IsRun config key (told_world b w (world_after_turn config e i (Some (Peer from r)) w)) s
dropped_run config key e i from r w b s drops there h = turned_run config key e i (Peer from r) w b None s s.nodes h refl there are (told (is_member w.n i))
  where
    place : PlaceRecord
    place = record { me = i; n = w.n }

    m : Made
    m = made_by_event config place (Peer from r) (w.nodes i)

    same : m.state ≡ w.nodes i
    same = ap (λ (y : Made). y.state) (silent config place (w.nodes i) from r drops)

    told : (t : Bool) → cond t (outputs_of key place m) no_outputs ≡ no_outputs
    told true = ap (outputs_of key place) (silent config place (w.nodes i) from r drops)
    told false = refl

    stays : (j : ℕ) → with_state i m.state w.nodes j ≡ w.nodes j
    stays j = cond_both (eqb j i) m.state (w.nodes j) (λ (y : NodeState). y ≡ w.nodes j) (λ t. same ∙ ap w.nodes (sym (eqb-true j i t))) (λ _. refl)

    nodes : (t : Bool) (j : ℕ) → cond t (with_state i m.state w.nodes) w.nodes j ≡ w.nodes j
    nodes true j = stays j
    nodes false j = refl

    are : AreHosts config key w.n w.lost (nodes_after config w.n w.nodes i (Peer from r)) s.nodes
    are k y g at = subst (λ (x : NodeState). IsHost config key (record { me = suc k; n = w.n }) x y) (sym (nodes (is_member w.n i) (suc k))) (h.hosts k y g at)

-- what is dropped leaves all as it was
pub silent_run : (config : Config) (key : List ℕ) (e i from : ℕ) (r : Option Envelope) (w : World) (b : Bool) (s : SimulationRecord) → IsSilent config from r → IsRun config key w s
    → IsRun config key (told_world b w (world_after_turn config e i (Some (Peer from r)) w)) s
silent_run config key e i from r w b s drops h =
    ⊎_elim (λ (gone : w.lost i ≡ true). gone_run config key e i (Some (Peer from r)) w b s gone h)
    (λ (there : w.lost i ≡ false). dropped_run config key e i from r w b s drops there h) (cases_Bool (w.lost i))

-- with no event all is as it was
pub idle_run : (config : Config) (key : List ℕ) (e i : ℕ) (w : World) (b : Bool) (s : SimulationRecord) → IsRun config key w s → IsRun config key (told_world b w (world_after_turn config e i None w)) s
unfolding world_after_turn
idle_run config key e i w b s h = subst (λ (x : World). IsRun config key x s) (sym (unmoved b w)) h

-- ---- acts

-- an act in which nothing happens at a node
pub act_idle : (config : Config) (key : List ℕ) (e : ℕ) (a : Act) (w : World) (b : Bool) (s : SimulationRecord) → node_event_of w.sent a ≡ None → IsRun config key w s → IsRun config key (told_act b e a config w) s
unfolding world_after_act
act_idle config key e a w b s none h =
    subst (λ (o : Option NodeEvent). IsRun config key (told_turn b e (acting_node a) o config w) s) (sym none) (idle_run config key e (acting_node a) w b s h)

-- an act in which what happens is dropped
pub act_silent : (config : Config) (key : List ℕ) (e from : ℕ) (r : Option Envelope) (a : Act) (w : World) (b : Bool) (s : SimulationRecord) → node_event_of w.sent a ≡ Some (Peer from r) → IsSilent config from r
    → IsRun config key w s → IsRun config key (told_act b e a config w) s
unfolding world_after_act
act_silent config key e from r a w b s is drops h =
    subst (λ (o : Option NodeEvent). IsRun config key (told_turn b e (acting_node a) o config w) s) (sym is) (silent_run config key e (acting_node a) from r w b s drops h)

-- an act in which this happens at a node
pub act_turn : {A E : Type 0} (config : Config) (key : List ℕ) (e : ℕ) (x : NodeEvent) (a : Act) (w : World) (b : Bool) (s : SimulationRecord) (result : Result A E) → Some x ≡ node_event_of w.sent a
    → OnOk result (IsRun config key (told_turn b e (acting_node a) (Some x) config w) s) → OnOk result (IsRun config key (told_act b e a config w) s)
unfolding world_after_act
act_turn config key e x a w b s result is h =
    subst (λ (o : Option NodeEvent). OnOk result (IsRun config key (told_turn b e (acting_node a) o config w) s)) is h

-- an act at a node that lost its store
pub act_gone : (config : Config) (key : List ℕ) (e : ℕ) (a : Act) (w : World) (b : Bool) (s : SimulationRecord) → w.lost (acting_node a) ≡ true → IsRun config key w s → IsRun config key (told_act b e a config w) s
unfolding world_after_act
act_gone config key e a w b s gone h = gone_run config key e (acting_node a) (node_event_of w.sent a) w b s gone h
