-- A step of a machine speaks of tokens of the users file alone, and never forgets the last pass of its content.
use Rattle.std.proofs.Common.{◌≡◌, ℕ, ℤ, ◌<◌, true, false, List, [], ◌∷◌, length, map, Option, Some, None, refl, sym, ap, ◌∙◌, subst}
use Rattle.std.specs.Option.{option_or}
use Rattle.std.specs.Prelude.{option_map}
use Rattle.std.proofs.lemmas.Option.{none-some, same_Some, slice_get_within}
use Rattle.floor_store.specs.Records.{PassRecord}
use Rattle.otp_core.specs.Acceptance.{Acceptance}
use Rattle.seated_store.specs.Places.{own_seats}
use Rattle.vote_core.specs.NodeSet.{PlaceRecord}
use Rattle.vote_core.specs.Numbers.{named_message, named_pass}
use Rattle.vote_core.specs.Schedule.{Envelope, envelope_from}
use Rattle.vote_core.specs.Safety.{IsDeliverable}
use Rattle.vote_core.specs.declared.message.Message.{Message}
use Rattle.vote_core.specs.declared.message.Message.TheVariants.{Ask, Grant, Deny, Floor}
use Rattle.vote_core.proofs.Basics.{Each}
use Rattle.oath_node.specs.Machine.{Beginning, Config, Made, NodeEvent, NodeState, made_by_event, token_of}
use Rattle.cluster_sim.proofs.BelowLaws.{GroundLaw}
use Rattle.cluster_sim.specs.Justified.{IsGroundIn, IsGroundOf}
use Rattle.cluster_sim.specs.World.{Act, Says, Deliver, Ticks, Noise, WorldEvent, Happens, Cut, Restart, Lost, Anew, note_of}
use Rattle.seat_law.specs.Seats.{seat_name}
use Rattle.book_law.specs.Lives.{Sealed, Terms, named_beginning, named_failure, note_of_step, sealed_from}
use Rattle.book_law.proofs.Keeps.{LowBegan, LowFailed, LowPass, keeps}
use Rattle.world_law.proofs.Seats.{own_name}

-- ---- an acceptance that is justified

act_low : (config : Config) (next : ℕ) (drift : ℤ) (results : List _) (p : Acceptance) (a : Act) → IsGroundIn config next drift results p a → p.token < length config.book
act_low config next drift results p (Says node client moment line) h = slice_get_within config.book p.token h.1.credential h.1.is_token
act_low config next drift results p (Deliver node k) h = absurd h
act_low config next drift results p (Ticks node) h = absurd h
act_low config next drift results p (Noise node from read) h = absurd h

pub ground_low : (config : Config) (next : ℕ) (drift : ℤ) (results : List _) (p : Acceptance) (o : Option WorldEvent) → IsGroundOf config next drift results p o → p.token < length config.book
ground_low config next drift results p None h = absurd h
ground_low config next drift results p (Some (Happens a)) h = act_low config next drift results p a h
ground_low config next drift results p (Some (Cut true a)) h = act_low config next drift results p a h
ground_low config next drift results p (Some (Cut false a)) h = absurd h
ground_low config next drift results p (Some (Restart node)) h = absurd h
ground_low config next drift results p (Some (Lost node)) h = absurd h
ground_low config next drift results p (Some (Anew node boot floors)) h = absurd h

-- ---- under the tokens of the users file nothing has another name

began_same : (m : ℕ) (o : Option Beginning) → LowBegan m o → option_map (named_beginning (seat_name (own_seats m))) o ≡ o
began_same m None low = refl
began_same m (Some b) low = ap (λ (t : ℕ). Some (record b { token = t })) (own_name m b.token low)

failed_same : (m : ℕ) (o : Option (ℕ × ℕ)) → LowFailed m o → option_map (named_failure (seat_name (own_seats m))) o ≡ o
failed_same m None low = refl
failed_same m (Some f) low = ap (λ (t : ℕ). Some (t, f.1)) (own_name m f.0 low)

pass_same : (m : ℕ) (o : Option PassRecord) → LowPass m o → option_map (named_pass (seat_name (own_seats m))) o ≡ o
pass_same m None low = refl
pass_same m (Some p) low = ap (λ (t : ℕ). Some (record p { token = t })) (own_name m p.token low)

pub message_same : (m : ℕ) (message : Message) → token_of message < m → named_message (seat_name (own_seats m)) message ≡ message
message_same m (Ask p t span) low = ap (λ k. Ask p k span) (own_name m t low)
message_same m (Grant p t span) low = ap (λ k. Grant p k span) (own_name m t low)
message_same m (Deny p t next) low = ap (λ k. Deny p k next) (own_name m t low)
message_same m (Floor t next) low = ap (λ k. Floor k next) (own_name m t low)

-- the token of a message that its receiver may take
deliverable_low : (n m : ℕ) (l : Envelope) → IsDeliverable n m l → token_of l.message < m
deliverable_low n m l h = by_message l.sender l.receiver l.message h
  where
    by_message : (from to : ℕ) (message : Message) → IsDeliverable n m (record { sender = from; receiver = to; message = message }) → token_of message < m
    by_message from to (Ask p t span) d = d.fits.0
    by_message from to (Grant p t span) d = d.fits.0
    by_message from to (Deny p t next) d = d.fits.0
    by_message from to (Floor t next) d = d.fits

-- the same under the key
abbrev pub sealed_in : List ℕ → Envelope → Sealed
sealed_in key l = record { key = key; envelope = l }

sends_same : (n m : ℕ) (terms : Terms) (i : ℕ) (sends : List (ℕ × Message)) → terms.seats ≡ own_seats m → Each (IsDeliverable n m) (map (envelope_from i) sends)
    → map (sealed_from terms i) sends ≡ map (sealed_in terms.key) (map (envelope_from i) sends)
sends_same n m terms i [] seats h = refl
sends_same n m terms i (send ∷ sends) seats h =
    ap (λ (message : Message). sealed_in terms.key (envelope_from i (send.0, message)) ∷ map (sealed_from terms i) sends)
    (ap (λ (l : List ℕ). named_message (seat_name l) send.1) seats ∙ message_same m send.1 (deliverable_low n m (envelope_from i send) h.0))
    ∙ ap (λ l. sealed_in terms.key (envelope_from i send) ∷ l) (sends_same n m terms i sends seats h.1)

-- ---- a step of which all this is known

-- a step's pass, and what it sends, are of tokens of the users file
pub record Low (terms : Terms) (m i : ℕ) (x : NodeState) (made : Made) : Type 0 where
  pub note : (e : ℕ) → note_of_step terms e i made ≡ note_of e i made
  pub sends : map (sealed_from terms i) made.sends ≡ map (sealed_in terms.key) (map (envelope_from i) made.sends)
  pub known : ((z : PassRecord) → x.content.last ≡ Some z → z.token < m) → (z : PassRecord) → made.state.content.last ≡ Some z → z.token < m
  pub grows : made.state.content.last ≡ None → x.content.last ≡ None

nothing_or : (o l : Option PassRecord) → option_or o l ≡ None → l ≡ None
nothing_or None l e = e
nothing_or (Some p) l e = absurd (none-some p (sym e))

either_low : (m : ℕ) (o l : Option PassRecord) → LowPass m o → ((z : PassRecord) → l ≡ Some z → z.token < m) → (z : PassRecord) → option_or o l ≡ Some z → z.token < m
either_low m None l low known z e = known z e
either_low m (Some p) l low known z e = subst (λ (y : PassRecord). y.token < m) (same_Some p z e) low

pub is_low : GroundLaw → (n : ℕ) (terms : Terms) (place : PlaceRecord) (x : NodeState) (input : NodeEvent) → let m = length terms.config.book in let made = made_by_event terms.config place input x in
    terms.seats ≡ own_seats m → ((p : PassRecord) → made.pass ≡ Some p → p.token < m) → Each (IsDeliverable n m) (map (envelope_from place.me) made.sends) → Low terms m place.me x made
is_low law n terms place x input seats pass sends =
    let m = length terms.config.book in
    let made = made_by_event terms.config place input x in
    let k = keeps law terms.config place x input in
    let low = low_of made.pass pass in
    record {
      note = λ e.
          ap (λ (l : List ℕ). note_of_step (record terms { seats = l }) e place.me made) seats
          ∙ ap (λ o. record { event = e; node = place.me; anew = false; began = o; pass = option_map (named_pass (seat_name (own_seats m))) made.pass; failed = option_map (named_failure (seat_name (own_seats m))) made.failed }) (began_same m made.began k.began)
          ∙ ap (λ o. record { event = e; node = place.me; anew = false; began = made.began; pass = o; failed = option_map (named_failure (seat_name (own_seats m))) made.failed }) (pass_same m made.pass low)
          ∙ ap (λ o. record { event = e; node = place.me; anew = false; began = made.began; pass = made.pass; failed = o }) (failed_same m made.failed k.failed);
      sends = sends_same n m terms place.me made.sends seats sends;
      known = λ known z e. either_low m made.pass x.content.last low known z (sym k.last ∙ e);
      grows = λ none. nothing_or made.pass x.content.last (sym k.last ∙ none);
    }
  where
    low_of : {m : ℕ} (o : Option PassRecord) → ((p : PassRecord) → o ≡ Some p → p.token < m) → LowPass m o
    low_of None h = tt
    low_of (Some p) h = h p refl
