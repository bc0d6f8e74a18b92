-- What a run of a script tells, and how a simulation ends.
use Rattle.std.proofs.Common.{◌≡◌, ◌+◌, ◌<◌, arith, ℕ, Bool, true, List, [], ◌∷◌, length, map, replicate, Option, Some, None, IfSome, refl, sym, ap, subst, ◌∙◌}
use Rattle.std.proofs.lemmas.Bool.{eqb-true}
use Rattle.std.specs.Prelude.{◌==◌, Result, Ok, Err, IfErr, IfOk, OnOk, slice_get}
use Rattle.std.specs.Option.{option_map}
use Rattle.std.proofs.lemmas.List.{get_or-replicate, length-replicate}
use Rattle.std.proofs.lemmas.Option.{get_or_from_slice_get, slice_get-map, slice_get_within}
use Rattle.std.specs.Io.KnownBytes.{Appends}
use Rattle.std.proofs.KnownBytes.{Appends-nil}
use Rattle.std.proofs.lemmas.List.{append-nil}
use Rattle.oath_node.specs.Machine.{Config}
use Rattle.otp_core.specs.Limits.{Limits}
use Rattle.token_file.specs.Credential.{Credential}
use Rattle.token_file.specs.UsersFile.{Import, import_of}
use Rattle.token_file.specs.declared.fault.LineFault.{LineFault}
use Rattle.cluster_sim.specs.Run as code
use Rattle.cluster_sim.specs.Run.{round_lines}
use Rattle.cluster_sim.specs.Rounds.{events_with_rounds}
use Rattle.cluster_sim.specs.World as world
use Rattle.cluster_sim.specs.World.{ReportValue, first_start, report_of}
use Rattle.cluster_sim.specs.declared.script.Act as acts
use Rattle.cluster_sim.specs.declared.script.Act.TheVariants.{Client, Deliver, Tick, Noise}
use Rattle.cluster_sim.specs.declared.script.WorldEvent as events
use Rattle.cluster_sim.specs.declared.script.WorldEvent.TheVariants.{Happens, Cut, Restart, Lost, Anew}
use Rattle.oathd_sim.specs.Event.{ScriptRecord, act_of, event_of, script_value}
use Rattle.oathd_sim.specs.declared.script.Script.{Script}
use Rattle.oathd_sim.specs.ReportText.{report_text}
use Rattle.users_input.specs.Input.{lines_between, lines_of, pieces_of, rest_part, users_part}
use Rattle.oathd_sim.specs.Parts.{HasParts, IsGivenUp, IsUnread}
use Rattle.oathd_sim.specs.Sim.{EndsSo, IsCutSo, IsTaken, Setup, Sim, Reports, act_under, end_of, event_under, script_events, script_lines, script_read, sim_of_script, sim_of_users, sim_read}
use Rattle.oathd_sim.specs.declared.fault.Fault.{Fault}
use Rattle.oathd_sim.specs.declared.fault.Fault.TheVariants as fault
use Rattle.oathd_sim.proofs.ScriptLemmas.{numbered_script}

-- ---- the events of the code

act_same : (key : List ℕ) (act : acts.Act) → act_under key (act_of act) ≡ code.act_of key act
act_same key (Client node client moment line) = refl
act_same key (Deliver node k) = refl
act_same key (Tick node) = refl
act_same key (Noise node from bytes) = refl

event_same : (key : List ℕ) (event : events.WorldEvent) → event_under key (event_of event) ≡ code.event_of key event
event_same key (Happens act) = ap world.Happens (act_same key act)
event_same key (Cut kept act) = ap (world.Cut kept) (act_same key act)
event_same key (Restart node) = refl
event_same key (Lost node) = refl
event_same key (Anew node boot floors) = refl

events_same : (key : List ℕ) (all : List events.WorldEvent) → map (event_under key) (map event_of all) ≡ map (code.event_of key) all
events_same key [] = refl
events_same key (event ∷ more) =
    ap (λ (e : world.WorldEvent). e ∷ map (event_under key) (map event_of more)) (event_same key event)
    ∙ ap (λ (es : List world.WorldEvent). code.event_of key event ∷ es) (events_same key more)

-- what is run of a script, as the code has it
pub script_same : (config : Config) (floors : List (List ℕ)) (key : List ℕ) (script : Script)
    → script_events config floors key (script_value script)
    ≡ events_with_rounds config (first_start floors) (map (code.event_of key) script.events.items) script.live.items (round_lines script.rounds.items)
script_same config floors key script =
    ap (λ (es : List world.WorldEvent). events_with_rounds config (first_start floors) es script.live.items (round_lines script.rounds.items)) (events_same key script.events.items)

-- a list that is tested to be empty
pub empty_is : {X : Type 0} (xs : List X) → (length xs == 0) ≡ true → xs ≡ []
empty_is [] e = refl
empty_is (x ∷ xs) e = let zero = eqb-true (length (x ∷ xs)) 0 e in absurd (omega (arith, zero))

-- what is run of a script without rounds
pub eventful_same : (config : Config) (floors : List (List ℕ)) (key : List ℕ) (script : Script) → script.rounds.items ≡ []
    → script_events config floors key (script_value script) ≡ map (code.event_of key) script.events.items
eventful_same config floors key script none =
    script_same config floors key script
    ∙ ap (λ rounds. events_with_rounds config (first_start floors) (map (code.event_of key) script.events.items) script.live.items (round_lines rounds)) none
    ∙ append-nil (map (code.event_of key) script.events.items)

-- a run of the script tells this
told : (setup : Setup) (book : List Credential) (floors : List ℕ) (said : Result ScriptRecord ℕ) (script : ScriptRecord)
    (lists : List (List ℕ)) (report : ReportValue) → said ≡ Ok script → lists ≡ replicate setup.nodes floors
    → report ≡ report_of (record { book = book; limits = setup.limits }) (first_start lists)
    (script_events (record { book = book; limits = setup.limits }) lists setup.key script)
    → sim_of_script setup (import_of book floors) said ≡ Reports report
told setup book floors said script lists report is copied same =
    ap (sim_of_script setup (import_of book floors)) is
    ∙ ap (λ (ls : List (List ℕ)). Reports (report_of (record { book = book; limits = setup.limits }) (first_start ls)
    (script_events (record { book = book; limits = setup.limits }) ls setup.key script))) (sym copied)
    ∙ ap Reports (sym same)

-- a report is the report of the script
pub told_by : (setup : Setup) (book : List Credential) (floors : List ℕ) (said : Result ScriptRecord ℕ) (script : ScriptRecord)
    (lists : List (List ℕ)) (result : Result ReportValue Fault) → said ≡ Ok script → lists ≡ replicate setup.nodes floors
    → IfOk result (λ report. report ≡ report_of (record { book = book; limits = setup.limits }) (first_start lists)
    (script_events (record { book = book; limits = setup.limits }) lists setup.key script))
    → IfOk result (λ report. sim_of_script setup (import_of book floors) said ≡ Reports report)
told_by setup book floors said script lists (Ok report) is copied same = told setup book floors said script lists report is copied same
told_by setup book floors said script lists (Err x) is copied same = tt

-- each of the same lists is the list
pub copy_at : {X : Type 0} (f : X → List ℕ) (lists : List X) (count : ℕ) (floors : List ℕ) → map f lists ≡ replicate count floors
    → (k : ℕ) (list : X) → slice_get lists k ≡ Some list → f list ≡ floors
copy_at f lists count floors e k list at =
    let got : slice_get (replicate count floors) k ≡ Some (f list) =
    ap (λ ls. slice_get ls k) (sym e) ∙ slice_get-map f lists k ∙ ap (option_map f) at in
    let within : k < count = omega (arith, slice_get_within (replicate count floors) k (f list) got, length-replicate count floors) in
    sym (get_or_from_slice_get (replicate count floors) k (f list) floors got) ∙ get_or-replicate count k floors floors within

-- ---- the ends

is_taken : (setup : Setup) (import : Import) (script : Result ScriptRecord ℕ) → IsTaken (sim_of_script setup import script)
is_taken setup import (Ok all) = tt
is_taken setup import (Err number) = tt

unread_text : (setup : Setup) (longest room : ℕ) (text : List ℕ) (x : Fault) (out : Option (List ℕ))
    → IsUnread setup.limits setup.moment longest room text x → EndsSo (sim_read setup longest room text) (Err x) out out
unread_text setup longest room text fault.Memory out h = Appends-nil out
unread_text setup longest room text fault.CannotRead out h =
    (subst (λ (r : Result Import (ℕ × LineFault)). IsTaken (sim_of_users setup r (script_read setup.nodes room text))) (sym h.1) (is_taken setup h.0 (script_read setup.nodes room text)), Appends-nil out)
unread_text setup longest room text fault.CannotWrite out h = absurd h
unread_text setup longest room text (fault.Users f) out h =
    (λ t. ap (λ (r : Result Import (ℕ × LineFault)). end_of (sim_of_users setup r (script_read setup.nodes room text))) (sym (h.0 t)), Appends-nil out)
unread_text setup longest room text (fault.ScriptLine number) out h = absurd h

pub unread_ends : (setup : Setup) (longest room : ℕ) (a : Option (List ℕ)) (x : Fault) (out : Option (List ℕ))
    → IfSome a (λ text. IsUnread setup.limits setup.moment longest room text x) → IfSome a (λ text. EndsSo (sim_read setup longest room text) (Err x) out out)
unread_ends setup longest room None x out h = tt
unread_ends setup longest room (Some text) x out h = unread_text setup longest room text x out h

unread_cut_text : (limits : Limits) (moment longest room : ℕ) (text : List ℕ) (x : Fault) → IsUnread limits moment longest room text x → IsCutSo limits moment longest room text x
unread_cut_text limits moment longest room text fault.Memory h = tt
unread_cut_text limits moment longest room text fault.CannotRead h = tt
unread_cut_text limits moment longest room text fault.CannotWrite h = tt
unread_cut_text limits moment longest room text (fault.Users f) h = h.1
unread_cut_text limits moment longest room text (fault.ScriptLine number) h = tt

pub unread_is_cut : (limits : Limits) (moment longest room : ℕ) (a : Option (List ℕ)) (x : Fault) → IfSome a (λ text. IsUnread limits moment longest room text x)
    → IfSome a (λ text. IsCutSo limits moment longest room text x)
unread_is_cut limits moment longest room None x h = tt
unread_is_cut limits moment longest room (Some text) x h = unread_cut_text limits moment longest room text x h

-- the simulation over two parts that are read
module _ (setup : Setup) (longest room : ℕ) (book : List Credential) (floors : List ℕ) (first : ℕ) (script : List ℕ) (is_cut : Bool) where
  abbrev sim : Sim
  sim = sim_of_script setup (import_of book floors) (script_lines setup.nodes first (lines_between is_cut (pieces_of script)))

  parts_make : (text : List ℕ) → HasParts setup.limits setup.moment longest room text book floors first script is_cut → sim_read setup longest room text ≡ sim
  parts_make text h =
      let lines = lines_of room text in
      let before = length (users_part lines) in
      let same : before + 2 ≡ 0 + before + 2 = omega arith in
      ap (λ (r : Result Import (ℕ × LineFault)). sim_of_users setup r (script_read setup.nodes room text)) h.import
      ∙ ap (sim_of_script setup (import_of book floors))
      (ap (λ (n : ℕ). script_lines setup.nodes n (rest_part lines)) same
      ∙ sym (numbered_script setup.nodes first (0 + before + 2) (lines_between is_cut (pieces_of script)) (rest_part lines) h.rest))

  given_up : (x : Fault) (out : Option (List ℕ)) → IsGivenUp sim x → EndsSo sim (Err x) out out
  given_up fault.Memory out h = Appends-nil out
  given_up fault.CannotRead out h = absurd h
  given_up fault.CannotWrite out h = absurd h
  given_up (fault.Users f) out h = absurd h
  given_up (fault.ScriptLine number) out h =
      subst (λ (s : Sim). EndsSo s (Err (fault.ScriptLine number)) out out) (sym h) (refl, Appends-nil out)

  pub given_up_ends : (a : Option (List ℕ)) (x : Fault) (out : Option (List ℕ)) → IfSome a (λ text. HasParts setup.limits setup.moment longest room text book floors first script is_cut)
      → IsGivenUp sim x → IfSome a (λ text. EndsSo (sim_read setup longest room text) (Err x) out out)
  given_up_ends None x out h g = tt
  given_up_ends (Some text) x out h g = subst (λ (s : Sim). EndsSo s (Err x) out out) (sym (parts_make text h)) (given_up x out g)

  reported_ends : (a : Option (List ℕ)) (report : ReportValue) (old new : Option (List ℕ))
      → IfSome a (λ text. HasParts setup.limits setup.moment longest room text book floors first script is_cut) → sim ≡ Reports report
      → Appends old new (report_text report) → IfSome a (λ text. EndsSo (sim_read setup longest room text) (Ok tt) old new)
  reported_ends None report old new h is written = tt
  reported_ends (Some text) report old new h is written =
      subst (λ (s : Sim). EndsSo s (Ok tt) old new) (sym (parts_make text h ∙ is)) (refl, written)

  unwritten_ends : (a : Option (List ℕ)) (report : ReportValue) (old new : Option (List ℕ))
      → IfSome a (λ text. HasParts setup.limits setup.moment longest room text book floors first script is_cut) → sim ≡ Reports report
      → IfSome a (λ text. EndsSo (sim_read setup longest room text) (Err fault.CannotWrite) old new)
  unwritten_ends None report old new h is = tt
  unwritten_ends (Some text) report old new h is =
      subst (λ (s : Sim). EndsSo s (Err fault.CannotWrite) old new) (sym (parts_make text h ∙ is)) refl

  pub printed_ends : (a : Option (List ℕ)) (report : ReportValue) (end : Result Unit Fault) (old new : Option (List ℕ))
      → IfSome a (λ text. HasParts setup.limits setup.moment longest room text book floors first script is_cut) → sim ≡ Reports report
      → OnOk end (Appends old new (report_text report)) → IfErr end (λ x. x ≡ fault.CannotWrite)
      → IfSome a (λ text. EndsSo (sim_read setup longest room text) end old new)
  printed_ends a report (Ok tt) old new h is written failed = reported_ends a report old new h is written
  printed_ends a report (Err x) old new h is written failed =
      subst (λ y. IfSome a (λ text. EndsSo (sim_read setup longest room text) (Err y) old new)) (sym failed) (unwritten_ends a report old new h is)

given_up_cut_text : (limits : Limits) (moment longest room : ℕ) (text : List ℕ) (s : Sim) (x : Fault) → IsGivenUp s x → IsCutSo limits moment longest room text x
given_up_cut_text limits moment longest room text s fault.Memory h = tt
given_up_cut_text limits moment longest room text s fault.CannotRead h = absurd h
given_up_cut_text limits moment longest room text s fault.CannotWrite h = absurd h
given_up_cut_text limits moment longest room text s (fault.Users f) h = absurd h
given_up_cut_text limits moment longest room text s (fault.ScriptLine number) h = tt

pub given_up_is_no_cut : (limits : Limits) (moment longest room : ℕ) (a : Option (List ℕ)) (s : Sim) (x : Fault) → IsGivenUp s x
    → IfSome a (λ text. IsCutSo limits moment longest room text x)
given_up_is_no_cut limits moment longest room None s x h = tt
given_up_is_no_cut limits moment longest room (Some text) s x h = given_up_cut_text limits moment longest room text s x h

-- for any text
pub memory_ends : (a : Option (List ℕ)) (make : List ℕ → Sim) (out : Option (List ℕ)) → IfSome a (λ text. EndsSo (make text) (Err fault.Memory) out out)
memory_ends None make out = tt
memory_ends (Some text) make out = Appends-nil out

pub any_cut : (a : Option (List ℕ)) (limits : Limits) (moment longest limit : ℕ) (front : List ℕ → List ℕ)
    → IfSome a (λ text. IsCutSo limits moment longest limit (front text) fault.Memory)
any_cut None limits moment longest limit front = tt
any_cut (Some text) limits moment longest limit front = tt

pub written_is_no_cut : (limits : Limits) (moment longest room : ℕ) (a : Option (List ℕ)) (end : Result Unit Fault) → IfErr end (λ x. x ≡ fault.CannotWrite)
    → IfErr end (λ x. IfSome a (λ text. IsCutSo limits moment longest room text x))
written_is_no_cut limits moment longest room a (Ok one) h = tt
written_is_no_cut limits moment longest room a (Err x) h =
    subst (λ y. IfSome a (λ text. IsCutSo limits moment longest room text y)) (sym h) (at a)
  where
    at : (o : Option (List ℕ)) → IfSome o (λ text. IsCutSo limits moment longest room text fault.CannotWrite)
    at None = tt
    at (Some text) = tt
