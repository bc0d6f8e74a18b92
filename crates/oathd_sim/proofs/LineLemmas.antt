-- The grammar of scripts, and the reader of scripts as a function.
use Rattle.std.proofs.Common.{◌≡◌, ℕ, ◌+◌, Bool, true, false, cond, List, [], ◌∷◌, ◌++◌, length, Option, Some, None, refl, sym, ap, subst, ◌∙◌, arith}
use Rattle.std.specs.Prelude.{Result, Ok, Err, not, ◌==◌}
use Rattle.std.specs.Option.{option_map, option_or}
use Rattle.std.proofs.lemmas.Bool.{ne_eqb}
use Rattle.std.proofs.lemmas.List.{append-nil, append_assoc}
use Rattle.cluster_sim.specs.Rounds.{RoundLine}
use Rattle.oathd_sim.specs.Event.{Event, ScriptRecord, empty_script, eventful}
use Rattle.oathd_sim.specs.Grammar.{HasFirstBad, IsLiveLine, IsScript, SayEvents, SayLast, SayRounds, SayScript}
use Rattle.oathd_sim.specs.Lines.{is_remark, lines_of, telling_lines}
use Rattle.oathd_sim.specs.Script.{event_line, live_line, round_among, script_of, with_event, with_line, with_live, with_round, with_telling_line}
use Rattle.oathd_sim.specs.Turns.{state_after, value_then}
use Rattle.oathd_sim.proofs.GrammarLemmas.{event_again, event_is, live_again, live_is, no_live, round_again, round_is}
use Rattle.oathd_sim.proofs.TurnLemmas.{first_refused, refused_behind, taken_behind}

abbrev Said : Type 0
Said = Result ScriptRecord ℕ

-- a script of these parts
abbrev of_parts : List Event → List ℕ → List RoundLine → ScriptRecord
of_parts events live rounds = record { events = events; live = live; rounds = rounds }

-- what lines that tell something make of a script
abbrev told_after : ℕ → ℕ → ScriptRecord → List (List ℕ) → Said
told_after nodes number script lines = state_after (with_telling_line nodes) number script lines

-- what all lines make of it
abbrev read_after : ℕ → ℕ → ScriptRecord → List (List ℕ) → Said
read_after nodes number script lines = state_after (with_line nodes) number script lines

-- ---- Remarks

module _ (nodes : ℕ) where
  telling_at : (remark : Bool) (number other : ℕ) (script : ScriptRecord) (line : List ℕ) (more : List (List ℕ)) (end : ScriptRecord)
      → ((n m : ℕ) (new : ScriptRecord) → read_after nodes n new more ≡ Ok end → told_after nodes m new (telling_lines more) ≡ Ok end)
      → value_then number (cond remark (Some script) (with_telling_line nodes script line)) (λ new. read_after nodes (number + 1) new more) ≡ Ok end
      → told_after nodes other script (cond (not remark) (line ∷ telling_lines more) (telling_lines more)) ≡ Ok end
  telling_at true number other script line more end later e = later (number + 1) other script e
  telling_at false number other script line more end later e = at (with_telling_line nodes script line) e
    where
      at : (value : Option ScriptRecord) → value_then number value (λ new. read_after nodes (number + 1) new more) ≡ Ok end
          → value_then other value (λ new. told_after nodes (other + 1) new (telling_lines more)) ≡ Ok end
      at None h = absurd cc
      at (Some new) h = later (number + 1) (other + 1) new h

  told : (number other : ℕ) (script : ScriptRecord) (lines : List (List ℕ)) (end : ScriptRecord) → read_after nodes number script lines ≡ Ok end
      → told_after nodes other script (telling_lines lines) ≡ Ok end
  told number other script [] end e = e
  told number other script (line ∷ more) end e =
      telling_at (is_remark line) number other script line more end (λ n m new h. told n m new more end h) e

  reading_at : (remark : Bool) (number other : ℕ) (script : ScriptRecord) (line : List ℕ) (more : List (List ℕ)) (end : ScriptRecord)
      → ((n m : ℕ) (new : ScriptRecord) → told_after nodes m new (telling_lines more) ≡ Ok end → read_after nodes n new more ≡ Ok end)
      → told_after nodes other script (cond (not remark) (line ∷ telling_lines more) (telling_lines more)) ≡ Ok end
      → value_then number (cond remark (Some script) (with_telling_line nodes script line)) (λ new. read_after nodes (number + 1) new more) ≡ Ok end
  reading_at true number other script line more end later e = later (number + 1) other script e
  reading_at false number other script line more end later e = at (with_telling_line nodes script line) e
    where
      at : (value : Option ScriptRecord) → value_then other value (λ new. told_after nodes (other + 1) new (telling_lines more)) ≡ Ok end
          → value_then number value (λ new. read_after nodes (number + 1) new more) ≡ Ok end
      at None h = absurd cc
      at (Some new) h = later (number + 1) (other + 1) new h

  read : (number other : ℕ) (script : ScriptRecord) (lines : List (List ℕ)) (end : ScriptRecord) → told_after nodes other script (telling_lines lines) ≡ Ok end
      → read_after nodes number script lines ≡ Ok end
  read number other script [] end e = e
  read number other script (line ∷ more) end e =
      reading_at (is_remark line) number other script line more end (λ n m new h. read n m new more end h) e

  -- ---- Rounds

  some_live : (line live : List ℕ) → IsLiveLine nodes line live → (length live == 0) ≡ false
  some_live line live h = ne_eqb (length live) 0 (λ e. omega (arith, e, h.majority))

  -- a line among live members
  round_step : (events : List Event) (live : List ℕ) (rounds : List RoundLine) (line : List ℕ) → (length live == 0) ≡ false
      → with_telling_line nodes (of_parts events live rounds) line ≡ option_map (with_round (of_parts events live rounds)) (round_among live line)
  round_step events live rounds line some =
      ap (λ b. cond b (option_or (option_map (with_live (of_parts events live rounds)) (live_line nodes line)) (option_map (with_event (of_parts events live rounds)) (event_line line)))
      (option_map (with_round (of_parts events live rounds)) (round_among live line))) some

  rounds_again : (number : ℕ) (events : List Event) (live : List ℕ) (before : List RoundLine) (lines : List (List ℕ)) (rounds : List RoundLine)
      → (length live == 0) ≡ false → SayRounds live lines rounds
      → told_after nodes number (of_parts events live before) lines ≡ Ok (of_parts events live (before ++ rounds))
  rounds_again number events live before [] [] some h = ap (λ l. Ok (of_parts events live l)) (sym (append-nil before))
  rounds_again number events live before [] (round ∷ rounds) some h = absurd h
  rounds_again number events live before (line ∷ lines) [] some h = absurd h
  rounds_again number events live before (line ∷ lines) (round ∷ rounds) some h =
      ap (λ o. value_then number o (λ new. told_after nodes (number + 1) new lines))
      (round_step events live before line some ∙ ap (option_map (with_round (of_parts events live before))) (round_again live line round h.0))
      ∙ rounds_again (number + 1) events live (before ++ round ∷ []) lines rounds some h.1
      ∙ ap (λ l. Ok (of_parts events live l)) (append_assoc before (round ∷ []) rounds)

  -- what is said in rounds
  abbrev RoundsSaid : List Event → List ℕ → List RoundLine → List (List ℕ) → ScriptRecord → Type 0
  RoundsSaid events live before lines end = (rounds : List RoundLine) × SayRounds live lines rounds × (end ≡ of_parts events live (before ++ rounds))

  rounds_said : (number : ℕ) (events : List Event) (live : List ℕ) (before : List RoundLine) (lines : List (List ℕ)) (end : ScriptRecord)
      → (length live == 0) ≡ false → told_after nodes number (of_parts events live before) lines ≡ Ok end
      → RoundsSaid events live before lines end
  rounds_said number events live before [] end some e =
      let is : of_parts events live before ≡ end = cc in ([], tt, sym is ∙ ap (of_parts events live) (sym (append-nil before)))
  rounds_said number events live before (line ∷ lines) end some e =
      at (λ round h. rounds_said (number + 1) events live (before ++ round ∷ []) lines end some h) (round_among live line) refl
      (subst (λ o. value_then number o (λ new. told_after nodes (number + 1) new lines) ≡ Ok end) (round_step events live before line some) e)
    where
      at : ((round : RoundLine) → told_after nodes (number + 1) (of_parts events live (before ++ round ∷ [])) lines ≡ Ok end
          → RoundsSaid events live (before ++ round ∷ []) lines end) → (value : Option RoundLine) → round_among live line ≡ value
          → value_then number (option_map (with_round (of_parts events live before)) value) (λ new. told_after nodes (number + 1) new lines) ≡ Ok end
          → RoundsSaid events live before (line ∷ lines) end
      at later None is h = absurd cc
      at later (Some round) is h =
          let more = later round h in
          (round ∷ more.0, (round_is live line round is, more.1), more.2 ∙ ap (of_parts events live) (append_assoc before (round ∷ []) more.0))

  -- ---- events, and the lines after them

  last_again : (number : ℕ) (before : List Event) (lines : List (List ℕ)) (live : List ℕ) (rounds : List RoundLine) → SayLast nodes lines live rounds
      → told_after nodes number (eventful before) lines ≡ Ok (of_parts before live rounds)
  last_again number before [] live rounds h =
      ap (λ l. Ok (of_parts before l [])) (sym h.0) ∙ ap (λ l. Ok (of_parts before live l)) (sym h.1)
  last_again number before (line ∷ lines) live rounds h =
      ap (λ o. value_then number (option_or (option_map (with_live (eventful before)) o) (option_map (with_event (eventful before)) (event_line line)))
      (λ new. told_after nodes (number + 1) new lines)) (live_again nodes line live h.0)
      ∙ rounds_again (number + 1) before live [] lines rounds (some_live line live h.0) h.1

  first_again : (number : ℕ) (before : List Event) (first last : List (List ℕ)) (events : List Event) (live : List ℕ) (rounds : List RoundLine)
      → SayEvents first events → SayLast nodes last live rounds
      → told_after nodes number (eventful before) (first ++ last) ≡ Ok (of_parts (before ++ events) live rounds)
  first_again number before [] last [] live rounds said h =
      last_again number before last live rounds h ∙ ap (λ l. Ok (of_parts l live rounds)) (sym (append-nil before))
  first_again number before [] last (event ∷ events) live rounds said h = absurd said
  first_again number before (line ∷ first) last [] live rounds said h = absurd said
  first_again number before (line ∷ first) last (event ∷ events) live rounds said h =
      let is = event_again line event said.0 in
      ap (λ o. value_then number (option_or (option_map (with_live (eventful before)) o) (option_map (with_event (eventful before)) (event_line line)))
      (λ new. told_after nodes (number + 1) new (first ++ last))) (no_live nodes line event is)
      ∙ ap (λ o. value_then number (option_map (with_event (eventful before)) o) (λ new. told_after nodes (number + 1) new (first ++ last))) is
      ∙ first_again (number + 1) (before ++ event ∷ []) first last events live rounds said.1 h
      ∙ ap (λ l. Ok (of_parts l live rounds)) (append_assoc before (event ∷ []) events)

  -- what is said from events on
  abbrev AllSaid : List Event → List (List ℕ) → ScriptRecord → Type 0
  AllSaid before lines end =
      (script : ScriptRecord) × SayScript nodes lines script × (end ≡ of_parts (before ++ script.events) script.live script.rounds)

  first_said : (number : ℕ) (before : List Event) (lines : List (List ℕ)) (end : ScriptRecord) → told_after nodes number (eventful before) lines ≡ Ok end
      → AllSaid before lines end
  first_said number before [] end e =
      let is : eventful before ≡ end = cc in (
        empty_script,
        record { first = []; last = []; parts = refl; events = tt; rounds = (refl, refl) },
        sym is ∙ ap (λ l. of_parts l [] []) (sym (append-nil before)),
      )
  first_said number before (line ∷ lines) end e =
      at (λ event h. first_said (number + 1) (before ++ event ∷ []) lines end h) (live_line nodes line) (event_line line) refl refl e
    where
      at : ((event : Event) → told_after nodes (number + 1) (eventful (before ++ event ∷ [])) lines ≡ Ok end → AllSaid (before ++ event ∷ []) lines end)
          → (members : Option (List ℕ)) (said : Option Event) → live_line nodes line ≡ members → event_line line ≡ said
          → value_then number (option_or (option_map (with_live (eventful before)) members) (option_map (with_event (eventful before)) said))
          (λ new. told_after nodes (number + 1) new lines) ≡ Ok end → AllSaid before (line ∷ lines) end
      at later (Some live) said is other h =
          let named = live_is nodes line live is in
          let more = rounds_said (number + 1) before live [] lines end (some_live line live named) h in (
            of_parts [] live more.0,
            record { first = []; last = line ∷ lines; parts = refl; events = tt; rounds = (named, more.1) },
            more.2 ∙ ap (λ l. of_parts l live more.0) (sym (append-nil before)),
          )
      at later None (Some event) is other h =
          let more = later event h in
          let script = more.0 in
          let says = more.1 in (
            of_parts (event ∷ script.events) script.live script.rounds,
            record {
              first = line ∷ says.first;
              last = says.last;
              parts = ap (λ l. line ∷ l) says.parts;
              events = (event_is line event other, says.events);
              rounds = says.rounds;
            },
            more.2 ∙ ap (λ l. of_parts l script.live script.rounds) (append_assoc before (event ∷ []) script.events),
          )
      at later None None is other h = absurd cc

  -- ---- Scripts

  lines_again : (lines : List (List ℕ)) (script : ScriptRecord) → SayScript nodes (telling_lines lines) script
      → read_after nodes 1 empty_script lines ≡ Ok script
  lines_again lines script h =
      read 1 1 empty_script lines script
      (ap (told_after nodes 1 empty_script) h.parts ∙ first_again 1 [] h.first h.last script.events script.live script.rounds h.events h.rounds)

  lines_said : (lines : List (List ℕ)) (script : ScriptRecord) → read_after nodes 1 empty_script lines ≡ Ok script
      → SayScript nodes (telling_lines lines) script
  lines_said lines script e =
      let all = first_said 1 [] (telling_lines lines) script (told 1 1 empty_script lines script e) in
      subst (SayScript nodes (telling_lines lines)) (sym all.2) all.1

  pub script_again : (text : List ℕ) (script : ScriptRecord) → IsScript nodes text script → script_of nodes text ≡ Ok script
  script_again text script h = lines_again (lines_of text) script h

  pub script_said : (text : List ℕ) (script : ScriptRecord) → script_of nodes text ≡ Ok script → IsScript nodes text script
  script_said text script e = lines_said (lines_of text) script e

  -- ---- The first bad line

  pub bad_said_first : (text : List ℕ) (number : ℕ) → script_of nodes text ≡ Err number → HasFirstBad nodes text number
  bad_said_first text number e =
      let first = first_refused (with_line nodes) 1 empty_script (lines_of text) number e in
      record {
        front = first.front;
        line = first.item;
        rest = first.rest;
        parts = first.parts;
        place = first.place;
        before = first.before;
        is_good = lines_said first.front first.before first.is_good;
        is_bad = λ script says. (
            let good = lines_again (first.front ++ first.item ∷ []) script says in
            let bad = refused_behind (with_line nodes) 1 empty_script first.front first.item [] first.before first.is_good first.is_bad in
            absurd cc
            );
      }

  pub bad_said_again : (text : List ℕ) (number : ℕ) → HasFirstBad nodes text number → script_of nodes text ≡ Err number
  bad_said_again text number h =
      let good = lines_again h.front h.before h.is_good in
      ap (read_after nodes 1 empty_script) h.parts
      ∙ refused_behind (with_line nodes) 1 empty_script h.front h.line h.rest h.before good (none (with_line nodes h.before h.line) refl)
      ∙ ap Err (sym h.place)
    where
      none : (value : Option ScriptRecord) → with_line nodes h.before h.line ≡ value → value ≡ None
      none None is = refl
      none (Some new) is =
          absurd (h.is_bad new (lines_said (h.front ++ h.line ∷ []) new
          (taken_behind (with_line nodes) 1 empty_script h.front h.line h.before new (lines_again h.front h.before h.is_good) is)))
