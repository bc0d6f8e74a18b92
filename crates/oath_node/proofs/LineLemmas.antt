-- What the rules make of a line, step by step.
use Rattle.std.proofs.Common.{◌≡◌, ℕ, Bool, true, false, List, length, Some, None, refl, sym, ap, ◌∙◌}
use Rattle.std.specs.Prelude.{nat_le}
use Rattle.std.proofs.lemmas.List.{length-map}
use Rattle.otp_core.specs.Limits.{Limits}
use Rattle.token_file.specs.Credential.{Credential}
use Rattle.vote_core.specs.State.{VoterRecord, ballot_of}
use Rattle.floor_store.specs.Content.{Content}
use Rattle.client_lines.specs.Request.{Request, request_at, without_lf}
use Rattle.answer_ring.specs.Answers.{KeptAnswer, kept_answer}
use Rattle.oath_node.specs.Hosted.{running_state}
use Rattle.oath_node.specs.Recording.{standing_in}
use Rattle.oath_node.proofs.PeerLemmas.{config_of}
use Rattle.oath_node.specs.Machine.{Config, NodeState, Owner, is_owned, ruling_at}
use Rattle.oath_node.specs.Rules.{request_ruling}
use Rattle.oath_node.specs.declared.ruling.Ruling.TheVariants.{Outside, Again, Waiting}

pub unread : (config : Config) (x : NodeState) (client moment : ℕ) (bytes : List ℕ) → request_at bytes ≡ None
    → ruling_at config x client moment bytes ≡ Outside
unread config x client moment bytes e = rw e refl

pub again : (config : Config) (x : NodeState) (client moment : ℕ) (bytes : List ℕ) (r : Request) (text : List ℕ) → request_at bytes ≡ Some r
    → kept_answer x.answers client (without_lf bytes) ≡ Some text → ruling_at config x client moment bytes ≡ Again text
again config x client moment bytes r text e k = rw (e, k) refl

pub waits : (config : Config) (x : NodeState) (client moment : ℕ) (bytes : List ℕ) (r : Request) → request_at bytes ≡ Some r
    → kept_answer x.answers client (without_lf bytes) ≡ None → is_owned x.owners client (without_lf bytes) ≡ true → ruling_at config x client moment bytes ≡ Waiting
waits config x client moment bytes r e k o = rw (e, k, o) refl

pub ruled : (book : List Credential) (limits : Limits) (c : Content) (voter : VoterRecord) (owners : List Owner) (answers : List KeptAnswer)
    (client moment : ℕ) (bytes : List ℕ) (r : Request) (full : Bool) → request_at bytes ≡ Some r
    → kept_answer answers client (without_lf bytes) ≡ None → is_owned owners client (without_lf bytes) ≡ false → full ≡ nat_le 32 (length voter.ballots)
    → request_ruling book limits (standing_in c full moment) moment r ≡ ruling_at (config_of book limits) (running_state c voter owners answers) client moment bytes
ruled book limits c voter owners answers client moment bytes r full e k o f =
    ap (λ b. request_ruling book limits (standing_in c b moment) moment r) (f ∙ ap (λ n. nat_le 32 n) (sym (length-map voter.ballots ballot_of)))
    ∙ rw (e, k, o) refl
