-- Each run is computed.
use Rattle.std.proofs.Common.{◌≡◌, inl, inr, ℕ, List, [], ◌∷◌, map, take, Option, None, Some, Ok, Err, refl, ap, subst, arith}
use Rattle.std.specs.Fmt.{digits}
use Rattle.std.specs.Prelude.{codes, slice_index}
use Rattle.hex.specs.Hex.{decode_pairs}
use Rattle.secret_text.specs.Bits.{bits_of}
use Rattle.secret_text.specs.Hexadecimal.{hex_refusal_of}
use Rattle.secret_text.specs.declared.fault.SecretFault.{SecretFault}
use Rattle.secret_text.specs.declared.fault.SecretFault.TheVariants.{BadLength, Empty}
use Rattle.oath_node.specs.Report.{report_from}
use Rattle.cluster_sim.specs.World.{world_after_events}
use Rattle.oathd_cluster.specs.Run.{Reply, printed}
use Rattle.client_lines.specs.Request.{without_lf}
use Rattle.oathd_lines.specs.Secret.{EndsWithText, secret_end}
use Rattle.oathd_lines.specs.declared.fault.Fault.TheVariants.{BadKey, Memory}
use Rattle.oathd_tasks.specs.Broken.{run_ended_by}
use Rattle.oathd_tasks.specs.Nodes.{InputEndsSo, SecretEndsSo}
use Rattle.oathd_tasks.proofs.laws.ends_can_be_broken.Goals as goal

pub returns-clause-lines : goal.returns-clause-lines
unfolding report_from
returns-clause-lines c = (refl, refl)

pub returns-clause-lines_write_more : goal.returns-clause-lines_write_more
unfolding report_from
returns-clause-lines_write_more c h = let e = h.1 in absurd cc

pub returns-clause-bad_line : goal.returns-clause-bad_line
unfolding report_from
returns-clause-bad_line c = (refl, refl)

pub returns-clause-lines_at_the_moment : goal.returns-clause-lines_at_the_moment
unfolding decode_pairs digits report_from
returns-clause-lines_at_the_moment c = (refl, refl)

pub returns-clause-lines_with_the_limits : goal.returns-clause-lines_with_the_limits
unfolding decode_pairs digits report_from
returns-clause-lines_with_the_limits c = (refl, refl)

pub returns-clause-sim : goal.returns-clause-sim
unfolding digits world_after_events
returns-clause-sim c = (refl, refl)

pub returns-clause-sim_writes_nothing : goal.returns-clause-sim_writes_nothing
unfolding digits world_after_events
returns-clause-sim_writes_nothing c h = let e = h.1 in absurd cc

pub returns-clause-bad_script : goal.returns-clause-bad_script
returns-clause-bad_script c = (refl, refl)

-- a reply has its bytes
has_byte : (replies : List Reply) (node : ℕ) (nodes : List ℕ) → map (λ (reply : Reply). reply.node) replies ≡ node ∷ nodes
    → [] ≡ printed replies → ⊥
has_byte [] node nodes e p = absurd cc
has_byte (reply ∷ replies) node nodes e p = absurd cc

pub returns-clause-cluster : goal.returns-clause-cluster
returns-clause-cluster c = (refl, record { replies = record { node = 2; text = codes "-" } ∷ []; each = refl; written = refl })

pub returns-clause-cluster_writes_nothing : goal.returns-clause-cluster_writes_nothing
returns-clause-cluster_writes_nothing c h = has_byte h.1.replies 2 [] h.1.each h.1.written

pub returns-clause-cluster_of_one : goal.returns-clause-cluster_of_one
returns-clause-cluster_of_one c = (refl, record { replies = []; each = refl; written = refl })

pub returns-clause-secret : goal.returns-clause-secret
unfolding bits_of decode_pairs
returns-clause-secret c = (refl, refl)

pub returns-clause-secret_is_lost : goal.returns-clause-secret_is_lost
unfolding bits_of decode_pairs
returns-clause-secret_is_lost c h = let e = h.1 in absurd cc

pub returns-clause-input_secret : goal.returns-clause-input_secret
unfolding bits_of decode_pairs
returns-clause-input_secret c = (inl (codes "00", refl, inr (refl, refl)), inl (codes "00", refl, inr (refl, refl)))

-- a secret of two digits on the input
input_ends : (hex : List ℕ) (new : List ℕ) → InputEndsSo (Some hex) (Ok tt) (Some []) (Some new)
    → EndsWithText (without_lf (take 258 hex)) (Ok tt) (Some []) (Some new)
input_ends hex new (inl w) = elim w.2 [
  | inl e ↦ absurd cc
  | inr ends ↦ subst (λ digits. EndsWithText digits (Ok tt) (Some []) (Some new)) w.1 ends
]
input_ends hex new (inr w) = absurd w.0

pub returns-clause-input_secret_is_lost : goal.returns-clause-input_secret_is_lost
unfolding bits_of decode_pairs
returns-clause-input_secret_is_lost c h = let e = (input_ends (codes "00") [] h).1 in absurd cc

pub returns-clause-input_secret_of_another : goal.returns-clause-input_secret_of_another
unfolding bits_of decode_pairs
returns-clause-input_secret_of_another c h =
    let seconds : 65 ≡ 69 = ap (λ (text : List ℕ). slice_index text 1) (input_ends (codes "01\n") (codes "AA======\n") h).1 in omega (arith, seconds)

pub returns-clause-no_input : goal.returns-clause-no_input
returns-clause-no_input c = (inr (tt, refl), inr (tt, refl))

-- the end of a secret is no lack of memory
no_memory : (refusal : Option SecretFault) → Err Memory ≡ secret_end refusal → ⊥
no_memory None e = absurd cc
no_memory (Some fault) e = absurd cc

pub returns-clause-no_input_and_writes : goal.returns-clause-no_input_and_writes
returns-clause-no_input_and_writes c h = by h
  where
    by : InputEndsSo None (run_ended_by Memory) (Some []) (Some (codes "x")) → ⊥
    by (inl w) = elim w.2 [
      | inl e ↦ absurd cc
      | inr ends ↦ no_memory (hex_refusal_of w.0) ends.0
    ]
    by (inr w) = let e = w.1 in absurd cc

pub returns-clause-refused_secret : goal.returns-clause-refused_secret
returns-clause-refused_secret c = (inr (refl, refl), inl refl)

pub returns-clause-refused_for_another_fault : goal.returns-clause-refused_for_another_fault
returns-clause-refused_for_another_fault c h = by h
  where
    by : SecretEndsSo (codes "666") (run_ended_by (BadKey Empty)) (Some []) (Some []) → ⊥
    by (inl w) = absurd cc
    by (inr w) = let e = w.0 in absurd cc

pub returns-clause-refused_and_writes : goal.returns-clause-refused_and_writes
returns-clause-refused_and_writes c h = by h
  where
    by : SecretEndsSo (codes "666") (run_ended_by (BadKey BadLength)) (Some []) (Some (codes "x")) → ⊥
    by (inl w) = absurd cc
    by (inr w) = let e = w.1 in absurd cc
