-- The events of one more call.
use Rattle.std.proofs.Common.{◌≡◌, ℕ, suc, ◌+◌, Bool, false, true, List, [], ◌∷◌, ◌++◌, length, length-append, refl, sym, ap, ◌∙◌, append-nil, append_assoc}
use Rattle.std.specs.declared.net.socket_addr.SocketAddrV4.{SocketAddrV4}
use Rattle.udp_port.specs.declared.calls.Call.{Call}
use Rattle.udp_port.specs.declared.calls.Call.TheVariants.{GivenUp}
use Rattle.udp_port.specs.Calls.{IsOneCall, Perseveres, events_of_call, events_of_calls, is_given_up}

pub events_more : (skips alone : Bool) (members : List SocketAddrV4) (calls : List (Call × List ℕ)) (call : Call × List ℕ)
    → events_of_calls skips alone members (calls ++ call ∷ [])
    ≡ events_of_calls skips alone members calls ++ events_of_call skips alone members call
events_more skips alone members [] call = append-nil (events_of_call skips alone members call)
events_more skips alone members (first ∷ calls) call =
    ap (λ rest. events_of_call skips alone members first ++ rest) (events_more skips alone members calls call)
    ∙ sym (append_assoc (events_of_call skips alone members first) (events_of_calls skips alone members calls) (events_of_call skips alone members call))

pub one_call : (old new : List (Call × List ℕ)) (call : Call × List ℕ) → new ≡ old ++ call ∷ [] → is_given_up call.0 ≡ false
    → IsOneCall old new
one_call old new call calls goes_on = record { call = call; calls = calls; goes_on = goes_on }

-- some more calls
pub record AreCalls (old new : List (Call × List ℕ)) (number : ℕ) : Type 0 where
  pub others : List (Call × List ℕ)
  pub calls : new ≡ old ++ others
  pub many : length others ≡ number

pub no_calls : (old : List (Call × List ℕ)) → AreCalls old old 0
no_calls old = record { others = []; calls = sym (append-nil old); many = refl }

pub calls_more : (old now new : List (Call × List ℕ)) (number : ℕ) → AreCalls old now number → IsOneCall now new
    → AreCalls old new (number + 1)
calls_more old now new number a one = record {
  others = a.others ++ one.call ∷ [];
  calls = one.calls ∙ ap (λ l. l ++ one.call ∷ []) a.calls ∙ append_assoc old a.others (one.call ∷ []);
  many = length-append a.others (one.call ∷ []) ∙ ap (λ n. n + 1) a.many;
}

pub goes_on : (most : ℕ) (old now new : List (Call × List ℕ)) (number : ℕ) → AreCalls old now number → IsOneCall now new
    → Perseveres most old new
goes_on most old now new number a one = record {
  others = a.others;
  last = one.call;
  calls = one.calls ∙ ap (λ l. l ++ one.call ∷ []) a.calls;
  gives_up = λ e. let clash : true ≡ false = sym e ∙ one.goes_on in absurd cc;
}

pub gives_up : (most : ℕ) (old now new : List (Call × List ℕ)) (number : ℕ) → AreCalls old now number → number ≡ most
    → new ≡ now ++ (GivenUp, []) ∷ [] → Perseveres most old new
gives_up most old now new number a is one = record {
  others = a.others;
  last = (GivenUp, []);
  calls = one ∙ ap (λ l. l ++ (GivenUp, []) ∷ []) a.calls;
  gives_up = λ e. a.many ∙ is;
}

-- no tail is both empty and longer
not_longer : {X : Type 0} (xs : List X) (x : X) → [] ≡ xs ++ x ∷ [] → ⊥
not_longer [] x e = absurd cc
not_longer (y ∷ xs) x e = absurd cc

abbrev tail_of : {X : Type 0} → List X → List X
tail_of [] = []
tail_of (x ∷ xs) = xs

-- a receive without a call
pub calls_nothing : (most : ℕ) → Perseveres most [] [] → ⊥
calls_nothing most p = not_longer p.others p.last p.calls

-- two lists of calls with one more at the end that are equal have as many calls before it, and the same last one
pub ends_alike : (others more : List (Call × List ℕ)) (call last : Call × List ℕ) → others ++ call ∷ [] ≡ more ++ last ∷ []
    → (call ≡ last) × (length others ≡ length more)
ends_alike [] [] call last e = (cc, refl)
ends_alike [] (other ∷ more) call last e = absurd (not_longer more last (ap tail_of e))
ends_alike (other ∷ others) [] call last e = absurd (not_longer others call (ap tail_of (sym e)))
ends_alike (other ∷ others) (another ∷ more) call last e =
    let rest : (call ≡ last) × (length others ≡ length more) = ends_alike others more call last (ap tail_of e) in
    (rest.0, ap (λ n. suc n) rest.1)
