-- The events of a script, one after another.
use Rattle.std.proofs.Common.{◌≡◌, ℕ, zero, suc, ◌+◌, ◌≤◌, List, [], ◌∷◌, length, take, map, Some, refl, sym, ap, ◌∙◌, subst, arith}
use Rattle.std.specs.List.{slice_get}
use Rattle.std.proofs.Math.Seq.{take-length}
use Rattle.std.proofs.lemmas.Option.{none-some, same_Some}
use Rattle.oath_node.specs.Machine.{Config}
use Rattle.cluster_sim.specs.Journal.{AreSpelled, AreSpelledAlong, IsRun, SimulationRecord}
use Rattle.cluster_sim.specs.World.{World, WorldEvent, world_after_event, world_after_events}

take_none : {A : Type 0} (xs : List A) → take zero xs ≡ []
take_none [] = refl
take_none (x ∷ xs) = refl

get_map : {A B : Type 0} (f : A → B) (xs : List A) (k : ℕ) (x : A) → slice_get xs k ≡ Some x → slice_get (map f xs) k ≡ Some (f x)
get_map f [] k x e = absurd (none-some x e)
get_map f (y ∷ xs) zero x e = ap (λ z. Some (f z)) (same_Some y x e)
get_map f (y ∷ xs) (suc k) x e = get_map f xs k x e

none_played : (config : Config) (e : ℕ) (xs : List WorldEvent) (w : World) → world_after_events config e (take zero xs) w ≡ w
unfolding world_after_events
none_played config e xs w = ap (λ l. world_after_events config e l w) (take_none xs)

-- one event more
one_played : (config : Config) (e k m : ℕ) (xs : List WorldEvent) (w : World) (x : WorldEvent) → m ≡ e + k → slice_get xs k ≡ Some x
    → world_after_events config e (take (suc k) xs) w ≡ world_after_event config m x (world_after_events config e (take k xs) w)
unfolding world_after_events
one_played config e k m [] w x is at = absurd (none-some x at)
one_played config e zero m (y ∷ xs) w x is at =
    none_played config (suc e) xs (world_after_event config e y w)
    ∙ ap (λ z. world_after_event config e z w) (same_Some y x at)
    ∙ ap (λ j. world_after_event config j x w) (first e m is)
  where
    first : (e m : ℕ) → m ≡ e + 0 → e ≡ m
    first e m h = omega (arith, h)
one_played config e (suc k) m (y ∷ xs) w x is at = one_played config (suc e) k m xs (world_after_event config e y w) x (later e k m is) at
  where
    later : (e k m : ℕ) → m ≡ e + suc k → m ≡ suc e + k
    later e k m h = omega (arith, h)

-- a simulation after `k` of the events
abbrev pub IsPlayed : Config → List ℕ → List WorldEvent → World → ℕ → SimulationRecord → Type 0
IsPlayed config key xs w k s = IsRun config key (world_after_events config 0 (take k xs) w) s

pub at_start : (config : Config) (key : List ℕ) (xs : List WorldEvent) (w : World) (s : SimulationRecord) → IsRun config key w s → IsPlayed config key xs w 0 s
at_start config key xs w s h = subst (λ v. IsRun config key v s) (sym (none_played config 0 xs w)) h

-- what a call of the simulation makes of each world
abbrev pub MakesEvent : Config → List ℕ → ℕ → WorldEvent → SimulationRecord → SimulationRecord → Type 0
MakesEvent config key k x old new = (w : World) → IsRun config key w old → AreSpelled w → IsRun config key (world_after_event config k x w) new

pub at_next : {A : Type 0} (f : A → WorldEvent) (config : Config) (key : List ℕ) (xs : List A) (w : World) (k : ℕ) (x : A) (old new : SimulationRecord) → slice_get xs k ≡ Some x
    → AreSpelledAlong config (map f xs) w → MakesEvent config key k (f x) old new → IsPlayed config key (map f xs) w k old → IsPlayed config key (map f xs) w (k + 1) new
at_next f config key xs w k x old new at spelled makes h =
    subst (λ j. IsPlayed config key (map f xs) w j new) (more k)
    (subst (λ v. IsRun config key v new) (sym (one_played config 0 k k (map f xs) w (f x) (omega arith) (get_map f xs k x at)))
    (makes (world_after_events config 0 (take k (map f xs)) w) h (spelled k)))
  where
    more : (k : ℕ) → suc k ≡ k + 1
    more k = omega arith

length_map : {A B : Type 0} (f : A → B) (xs : List A) → length (map f xs) ≡ length xs
length_map f [] = refl
length_map f (x ∷ xs) = ap suc (length_map f xs)

pub at_end : {A : Type 0} (f : A → WorldEvent) (config : Config) (key : List ℕ) (xs : List A) (w : World) (k : ℕ) (s : SimulationRecord) → length xs ≤ k → k ≤ length xs
    → IsPlayed config key (map f xs) w k s → IsRun config key (world_after_events config 0 (map f xs) w) s
at_end f config key xs w k s low high h =
    subst (λ l. IsRun config key (world_after_events config 0 l w) s) (take-length (map f xs))
    (subst (λ j. IsPlayed config key (map f xs) w j s) (same k (length xs) (length (map f xs)) low high (length_map f xs)) h)
  where
    same : (k n m : ℕ) → n ≤ k → k ≤ n → m ≡ n → k ≡ m
    same k n m a b c = omega (arith, a, b, c)
