-- A port and its bundler after one more call.
use Rattle.std.proofs.Common.{◌≡◌, ◌≢◌, ℕ, Bool, true, eqb, List, [], ◌∷◌, ◌++◌, length, Option, Some, refl, sym, ap, subst, ◌∙◌, append_assoc, append-nil}
use Rattle.std.proofs.lemmas.Bool.{and_parts}
use Rattle.std.specs.Prelude.{◌&&◌}
use Rattle.datagram_port.specs.Port.{Grows, PortEvent, event_of_receive}
use Rattle.datagram_port.specs.declared.port.Received.{Received as Receive}
use Rattle.datagram_port.specs.declared.port.Received.TheVariants.{Datagram, Quiet as QuietReceive, Fault}
use Rattle.bundle_port.specs.Bundler.{BundlerRecord, after_flush, flush_offers, new_bundler}
use Rattle.bundle_port.specs.Runs.{Call, Flush, Waits, Polls, IsAfter, may_call, may_make, after, after_calls, below, below_events, handed, handed_events}
use Rattle.bundle_port.proofs.OfferLemmas.{grown, grows_both}

abbrev present : {A : Type 0} → A → Option A
present x = Some x

-- ---- one more call

pub after_more : (b : BundlerRecord) (calls : List Call) (call : Call) → after_calls b (calls ++ call ∷ []) ≡ after (after_calls b calls) call
after_more b [] call = refl
after_more b (one ∷ calls) call = after_more (after b one) calls call

handed_more : (b : BundlerRecord) (calls : List Call) (call : Call) → handed_events b (calls ++ call ∷ []) ≡ handed_events b calls ++ handed (after_calls b calls) call
handed_more b [] call = append-nil (handed b call)
handed_more b (one ∷ calls) call =
    ap (λ (l : List PortEvent). handed b one ++ l) (handed_more (after b one) calls call)
    ∙ sym (append_assoc (handed b one) (handed_events (after b one) calls) (handed (after_calls (after b one) calls) call))

below_more : (b : BundlerRecord) (calls : List Call) (call : Call) → below_events b (calls ++ call ∷ []) ≡ below_events b calls ++ below (after_calls b calls) call
below_more b [] call = append-nil (below b call)
below_more b (one ∷ calls) call =
    ap (λ (l : List PortEvent). below b one ++ l) (below_more (after b one) calls call)
    ∙ sym (append_assoc (below b one) (below_events (after b one) calls) (below (after_calls (after b one) calls) call))

may_more : (b : BundlerRecord) (calls : List Call) (call : Call) → may_make b calls ≡ true → may_call (after_calls b calls) call ≡ true → may_make b (calls ++ call ∷ []) ≡ true
may_more b [] call may last = ap (λ (x : Bool). x && true) last
may_more b (one ∷ calls) call may last =
    let parts = and_parts (may_call b one) (may_make (after b one) calls) may in
    ap (λ (x : Bool). x && may_make (after b one) (calls ++ call ∷ [])) parts.0 ∙ may_more (after b one) calls call parts.1 last

-- ---- whether a call may be made

-- a receive of the port below may be made if no part is left
pub may_wait : (b : BundlerRecord) (received : Receive) (buffer : List ℕ) → eqb (length b.left.parts) 0 ≡ true → may_call b (Waits (event_of_receive received buffer)) ≡ true
may_wait b (Datagram sender len) buffer none = none
may_wait b QuietReceive buffer none = none
may_wait b Fault buffer none = none

-- a poll of the port below may be made if no part is left
pub may_poll : (b : BundlerRecord) (received : Receive) (buffer : List ℕ) → eqb (length b.left.parts) 0 ≡ true → present received ≢ Some QuietReceive
    → may_call b (Polls (event_of_receive received buffer)) ≡ true
may_poll b (Datagram sender len) buffer none loud = none
may_poll b QuietReceive buffer none loud = absurd (loud refl)
may_poll b Fault buffer none loud = none

-- a call that is noted with what a buffer holds
pub noted_with : (call : List ℕ → Call) (calls more : List Call) (seen buffer : List ℕ) → more ≡ calls ++ call seen ∷ [] → seen ≡ buffer → more ≡ calls ++ call buffer ∷ []
noted_with call calls more seen buffer noted is = noted ∙ ap (λ (b : List ℕ). calls ++ call b ∷ []) is

-- ---- a port after calls

-- one more call of the port below
pub after_call : (old new : Option (List PortEvent)) (b u : BundlerRecord) (calls more : List Call) (call : Call)
    → IsAfter old b calls → may_call b call ≡ true → more ≡ calls ++ call ∷ [] → u ≡ after b call → Grows old new (below b call) → IsAfter new u more
after_call old new b u calls more call a may noted is grows =
    subst (IsAfter new u) (sym noted) (record {
      is_made = may_more new_bundler calls call a.is_made (subst (λ (x : BundlerRecord). may_call x call ≡ true) a.bundler_is may);
      bundler_is = is ∙ ap (λ (x : BundlerRecord). after x call) a.bundler_is ∙ sym (after_more new_bundler calls call);
      below_is = λ now e.
          let g = grown old new (below b call) now grows e in
          sym g.2
          ∙ ap (λ (l : List PortEvent). l ++ below b call) (a.below_is g.0 g.1)
          ∙ ap (λ (x : BundlerRecord). below_events new_bundler calls ++ below x call) a.bundler_is
          ∙ sym (below_more new_bundler calls call);
    })

-- lists of one event each
pub only_event : {one other : PortEvent} → one ≡ other → one ∷ [] ≡ other ∷ []
only_event e = ap (λ (x : PortEvent). x ∷ []) e

-- the events of the node's port for one more call that hands in an event
pub told_call : (below : Option (List PortEvent)) (b : BundlerRecord) (calls more : List Call) (call : Call) (event : PortEvent) → IsAfter below b calls
    → more ≡ calls ++ call ∷ [] → event ∷ [] ≡ handed b call → Grows (Some (handed_events new_bundler calls)) (Some (handed_events new_bundler more)) (event ∷ [])
told_call below b calls more call event a noted event_is =
    ap present
    (ap (λ (l : List PortEvent). handed_events new_bundler calls ++ l) event_is
    ∙ ap (λ (x : BundlerRecord). handed_events new_bundler calls ++ handed x call) a.bundler_is
    ∙ sym (handed_more new_bundler calls call)
    ∙ ap (handed_events new_bundler) (sym noted))

-- a flush hands in nothing
pub told_none : (below : Option (List PortEvent)) (b : BundlerRecord) (calls more : List Call) → IsAfter below b calls → more ≡ calls ++ Flush ∷ []
    → present (handed_events new_bundler more) ≡ Some (handed_events new_bundler calls)
told_none below b calls more a noted =
    ap present
    (ap (handed_events new_bundler) noted ∙ handed_more new_bundler calls Flush ∙ append-nil (handed_events new_bundler calls))

-- ---- a receive of the port below

-- the bundler after all that waited was offered has the same parts left
pub after_waits : (old mid new : Option (List PortEvent)) (b flushed u : BundlerRecord) (calls more : List Call) (received : Receive) (buffer : List ℕ) → IsAfter old b calls
    → eqb (length b.left.parts) 0 ≡ true → more ≡ calls ++ Waits (event_of_receive received buffer) ∷ [] → flushed ≡ after_flush b → u ≡ after flushed (Polls (event_of_receive received buffer))
    → Grows old mid (flush_offers b) → Grows mid new (event_of_receive received buffer ∷ []) → IsAfter new u more
after_waits old mid new b flushed u calls more received buffer a none noted is then one two =
    let event = event_of_receive received buffer in
    after_call old new b u calls more (Waits event) a (may_wait b received buffer none) noted (then ∙ ap (λ (x : BundlerRecord). after x (Polls event)) is)
    (grows_both old mid new (flush_offers b) (event ∷ []) one two)
