-- The line grammar, and the reader of lines as a function.
use Rattle.std.proofs.Common.{◌≡◌, ℕ, suc, add-one, ◌+◌, ◌*◌, ◌^◌, ◌<◌, ◌≤◌, Bool, true, false, cond, List, [], ◌∷◌, ◌++◌, length, take, drop, Option, Some, None, refl, sym, ap, subst, ◌∙◌, arith, get_or, ◌⊎◌, inl, inr, nat_lt}
use Rattle.std.specs.Prelude.{Result, Ok, Err, ◌==◌, ◌&&◌, nat_le, codes, not, position}
use Rattle.std.specs.Char.{is_ascii_digit}
use Rattle.std.specs.List.{list_all, position_or_len}
use Rattle.std.specs.Result.{result_ok}
use Rattle.std.specs.Str.{bytes_eq}
use Rattle.std.proofs.lemmas.Bool.{and_parts, cond_both, eqb-true, ne_eqb, leb-true, le-leb, lt-ltb, ltb-true}
use Rattle.std.proofs.lemmas.List.{length-append, take-append-drop}
use Rattle.std.proofs.lemmas.List.Sums.{AllPass-from_list_all, passes_at_first, position_or_len_is}
use Rattle.std.proofs.lemmas.Slice.Eq.{bytes_eq-Decides}
use Rattle.std.proofs.Math.ListN.{get_or-append}
use Rattle.std.proofs.Math.Seq.{drop-append-add, drop-cons, get_or-append_seam, take-append_seam}
use Rattle.hex.specs.Hex.{decode_of}
use Rattle.field_text.specs.Cut.{Halves, halves_at, halves_of}
use Rattle.field_text.specs.Number.{number_of}
use Rattle.cluster_sim.specs.Rounds.{IsAscending, RoundLine, is_live}
use Rattle.oathd_sim.specs.Lines.{fields_of}
use Rattle.oathd_sim.specs.Event.{Act, Says, Deliver, Ticks, Noise, Event, Happens, Cut, Restart, Lost, Anew}
use Rattle.oathd_sim.specs.Grammar.{AreNumbers, AreUpTo, IsActLine, IsDeliverLine, IsEventLine, IsHex, IsLiveLine, IsNoiseLine, IsRoundLine, IsSaidLine, IsTickLine, kept_word}
use Rattle.oathd_sim.specs.Script.{◌>>=◌, act_line, act_of_word, anew_event, lost_event, next_of, nexts_of, bytes_of, client_act, cut_event, deliver_act, event_line, event_of_word, kept_of_word, line_among, live_line, live_members, member_above, members_above, noise_act, restart_event, round_among, said_line, tick_act}

-- ---- A text cut at its first space

-- a text without a space
pub record LacksSpace (text : List ℕ) : Type 0 where
  each : (k : ℕ) → k < length text → (get_or text k 0 == 32) ≡ false

-- a text without a space is cut off again
cut_again : (text rest : List ℕ) → LacksSpace text → halves_of 32 (text ++ 32 ∷ rest) ≡ Some (record { before = text; behind = rest })
cut_again text rest lacks =
    let p : ℕ → Bool = λ byte. byte == 32 in
    let whole = text ++ 32 ∷ rest in
    let long : length text < length whole = omega (arith, length-append text (32 ∷ rest)) in
    let place : position_or_len p whole ≡ length text =
    position_or_len_is p whole (length text) 0 (omega arith)
    (λ k l. ap p (get_or-append text (32 ∷ rest) 0 k l) ∙ lacks.each k l)
    (λ _. ap p (get_or-append_seam text 32 rest 0)) in
    let found : position p whole ≡ Some (length text) =
    subst (λ n. cond (nat_lt n (length whole)) (Some n) None ≡ Some (length text)) (sym place)
    (ap (λ b. cond b (Some (length text)) None) (lt-ltb (length text) (length whole) long)) in
    let behind : drop (length text + 1) whole ≡ rest = drop-append-add text (32 ∷ rest) 1 in
    ap (halves_at whole) found
    ∙ ap (λ x. Some (record { before = x; behind = drop (length text + 1) whole })) (take-append_seam text (32 ∷ rest))
    ∙ ap (λ x. Some (record { before = text; behind = x })) behind

-- the halves at the place of a space
halves_join : (text : List ℕ) (place : ℕ) → place < length text → get_or text place 0 ≡ 32
    → text ≡ take place text ++ 32 ∷ drop (place + 1) text
halves_join text place within space =
    sym (take-append-drop place text) ∙ ap (λ x. take place text ++ x) (rw (add-one, drop-cons text place 0 within) (ap (λ x. x ∷ drop (suc place) text) space))

-- a text is its halves, with a space between
cut_joins : (text : List ℕ) (halves : Halves) → halves_of 32 text ≡ Some halves → text ≡ halves.before ++ 32 ∷ halves.behind
cut_joins text halves =
    let p : ℕ → Bool = λ byte. byte == 32 in
    let place = position_or_len p text in
    cond_both (nat_lt place (length text)) (Some place) None
    (λ (o : Option ℕ). halves_at text o ≡ Some halves → text ≡ halves.before ++ 32 ∷ halves.behind)
    (λ t e.
    let within = ltb-true place (length text) t in
    let is : record { before = take place text; behind = drop (place + 1) text } ≡ halves = cc in
    subst (λ (h : Halves). text ≡ h.before ++ 32 ∷ h.behind) is
    (halves_join text place within (eqb-true _ 32 (passes_at_first p text 0 within))))
    (λ f e. absurd cc)

-- a test that was passed
some_if : {A : Type 0} (test : Bool) (x y : A) → cond test (Some x) None ≡ Some y → (test ≡ true) × (x ≡ y)
some_if true x y e = (refl, cc)
some_if false x y e = absurd cc

-- a number has no space
number_lacks : (text : List ℕ) (number : ℕ) → number_of text ≡ Some number → LacksSpace text
number_lacks text number e = record {
  each = λ k l.
      let digits = (and_parts _ _ (some_if _ _ _ e).0).0 in
      let digit = AllPass-from_list_all is_ascii_digit text digits k 0 l in
      let least = leb-true 48 (get_or text k 0) (and_parts _ _ digit).0 in
      ne_eqb (get_or text k 0) 32 (λ h. omega arith);
}

-- ---- Words

-- a word without a space
word_lacks : (word : List ℕ) → list_all (λ byte. not (byte == 32)) word ≡ true → LacksSpace word
word_lacks word e = record { each = λ k l. is_false _ (AllPass-from_list_all (λ byte. not (byte == 32)) word e k 0 l) }
  where
    is_false : (b : Bool) → not b ≡ true → b ≡ false
    is_false true h = absurd cc
    is_false false h = refl

-- ---- Steps that may give nothing

-- both steps give something
both_steps : {A B : Type 0} (first : Option A) (next : A → Option B) (given : B) → (first >>= next) ≡ Some given
    → (x : A) × (first ≡ Some x) × (next x ≡ Some given)
both_steps None next given e = absurd cc
both_steps (Some x) next given e = (x, refl, e)

-- one of two, by a test
either : {A : Type 0} (test : Bool) (x y : Option A) (given : A) → cond test x y ≡ Some given
    → ((test ≡ true) × (x ≡ Some given)) ⊎ ((test ≡ false) × (y ≡ Some given))
either true x y given e = inl (refl, e)
either false x y given e = inr (refl, e)

-- ---- Hexadecimal digits

hex_again : (digits bytes : List ℕ) → IsHex digits bytes → bytes_of digits ≡ Some bytes
hex_again digits bytes hex =
    ap (λ b. cond (b && nat_le (length digits) 1024) (result_ok (decode_of digits)) None) (le-leb 2 (length digits) hex.least)
    ∙ ap (λ b. cond b (result_ok (decode_of digits)) None) (le-leb (length digits) 1024 hex.most)
    ∙ ap result_ok hex.value

ok_is : {A E : Type 0} (r : Result A E) (x : A) → result_ok r ≡ Some x → r ≡ Ok x
ok_is (Ok y) x e = cc
ok_is (Err f) x e = absurd cc

hex_is : (digits bytes : List ℕ) → bytes_of digits ≡ Some bytes → IsHex digits bytes
hex_is digits bytes e = elim (either _ (result_ok (decode_of digits)) None bytes e) [
  | inl h ↦ (let range = and_parts _ _ h.0 in record {
    least = leb-true 2 (length digits) range.0;
    most = leb-true (length digits) 1024 range.1;
    value = ok_is (decode_of digits) bytes h.1;
  })
  | inr h ↦ absurd cc
]

-- ---- What is in the grammar is read

client_again : (line : List ℕ) (node client moment : ℕ) (said : List ℕ) → IsSaidLine (codes "client") line node client moment said
    → act_line line ≡ Some (Says node client moment said)
client_again line node client moment said h =
    rw (
      h.fields,
      cut_again (codes "client") _ (word_lacks (codes "client") refl),
      cut_again h.node_text _ (number_lacks h.node_text node h.is_node),
      cut_again h.client_text _ (number_lacks h.client_text client h.is_client),
      cut_again h.moment_text _ (number_lacks h.moment_text moment h.is_moment),
      h.is_node,
      h.is_client,
      h.is_moment,
    )

deliver_again : (line : List ℕ) (node k : ℕ) → IsDeliverLine line node k → act_line line ≡ Some (Deliver node k)
deliver_again line node k h =
    rw (
      h.fields,
      cut_again (codes "deliver") _ (word_lacks (codes "deliver") refl),
      cut_again h.node_text _ (number_lacks h.node_text node h.is_node),
      h.is_node,
      h.is_k,
    )

tick_again : (line : List ℕ) (node : ℕ) → IsTickLine line node → act_line line ≡ Some (Ticks node)
tick_again line node h = rw (h.fields, cut_again (codes "tick") _ (word_lacks (codes "tick") refl), h.is_node)

noise_again : (line : List ℕ) (node from : ℕ) (bytes : List ℕ) → IsNoiseLine line node from bytes
    → act_line line ≡ Some (Noise node from bytes)
noise_again line node from bytes h =
    rw (
      h.fields,
      cut_again (codes "noise") _ (word_lacks (codes "noise") refl),
      cut_again h.node_text _ (number_lacks h.node_text node h.is_node),
      cut_again h.from_text _ (number_lacks h.from_text from h.is_from),
      h.is_node,
      h.is_from,
      hex_again h.digits bytes h.is_hex,
    )

act_again : (line : List ℕ) (act : Act) → IsActLine line act → act_line line ≡ Some act
act_again line (Says node client moment said) h = client_again line node client moment said h
act_again line (Deliver node k) h = deliver_again line node k h
act_again line (Ticks node) h = tick_again line node h
act_again line (Noise node from bytes) h = noise_again line node from bytes h

-- floors, field by field
next_again : (text : List ℕ) (next : ℕ) → number_of text ≡ Some next → next ≤ 2 ^ 62 → next_of text ≡ Some next
next_again text next e within =
    ap (λ o. o >>= (λ number. cond (nat_le number (2 ^ 62)) (Some number) None)) e ∙ ap (λ b. cond b (Some next) None) (le-leb next (2 ^ 62) within)

nexts_again : (fields : List (List ℕ)) (floors : List ℕ) → AreNumbers fields floors → AreUpTo (2 ^ 62) floors → nexts_of fields ≡ Some floors
nexts_again [] [] are within = refl
nexts_again [] (next ∷ floors) are within = absurd are
nexts_again (field ∷ fields) [] are within = absurd are
nexts_again (field ∷ fields) (next ∷ floors) are within =
    ap (λ o. o >>= (λ first. nexts_of fields >>= (λ more. Some (first ∷ more)))) (next_again field next are.0 within.0)
    ∙ ap (λ o. o >>= (λ more. Some (next ∷ more))) (nexts_again fields floors are.1 within.1)

-- the word of an act is no other word of an event
act_event : (word rest : List ℕ) (act : Act) → act_of_word word rest ≡ Some act → event_of_word word rest ≡ Some (Happens act)
act_event word rest act e =
    let other : (name : List ℕ) → act_of_word name rest ≡ None → bytes_eq word name ≡ false =
    λ name none. (let d = bytes_eq-Decides word name in not_true (bytes_eq word name) (λ t. (let same : act_of_word name rest ≡ Some act = subst (λ w. act_of_word w rest ≡ Some act) (d.0 t) e in absurd cc))) in
    let happens_or : Option Event = act_of_word word rest >>= (λ a. Some (Happens a)) in
    let cut_or : Option Event = cond (bytes_eq word (codes "cut")) (cut_event rest) happens_or in
    let anew_or : Option Event = cond (bytes_eq word (codes "anew")) (anew_event rest) cut_or in
    let lost_or : Option Event = cond (bytes_eq word (codes "lost")) (lost_event rest) anew_or in
    ap (λ b. cond b (restart_event rest) lost_or) (other (codes "restart") refl)
    ∙ ap (λ b. cond b (lost_event rest) anew_or) (other (codes "lost") refl)
    ∙ ap (λ b. cond b (anew_event rest) cut_or) (other (codes "anew") refl)
    ∙ ap (λ b. cond b (cut_event rest) (act_of_word word rest >>= (λ a. Some (Happens a)))) (other (codes "cut") refl)
    ∙ ap (λ o. o >>= (λ a. Some (Happens a))) e
  where
    not_true : (b : Bool) → (b ≡ true → ⊥) → b ≡ false
    not_true true h = absurd (h refl)
    not_true false h = refl

kept_again : (kept : Bool) → kept_of_word (kept_word kept) ≡ Some kept
kept_again true = refl
kept_again false = refl

kept_lacks : (kept : Bool) → LacksSpace (kept_word kept)
kept_lacks true = word_lacks (codes "kept") refl
kept_lacks false = word_lacks (codes "lost") refl

-- what is in the grammar is read
pub event_again : (line : List ℕ) (event : Event) → IsEventLine line event → event_line line ≡ Some event
event_again line (Happens act) h =
    let steps = both_steps (halves_of 32 line) (λ halves. act_of_word halves.before halves.behind) act (act_again line act h) in
    ap (λ o. o >>= (λ halves. event_of_word halves.before halves.behind)) steps.1 ∙ act_event steps.0.before steps.0.behind act steps.2
event_again line (Cut kept act) h =
    rw (
      h.fields,
      cut_again (codes "cut") _ (word_lacks (codes "cut") refl),
      cut_again (kept_word kept) _ (kept_lacks kept),
      kept_again kept,
      act_again h.act_text act h.is_act,
    )
event_again line (Restart node) h = rw (h.fields, cut_again (codes "restart") _ (word_lacks (codes "restart") refl), h.is_node)
event_again line (Lost node) h = rw (h.fields, cut_again (codes "lost") _ (word_lacks (codes "lost") refl), h.is_node)
event_again line (Anew node boot floors) h =
    rw (
      h.fields,
      cut_again (codes "anew") _ (word_lacks (codes "anew") refl),
      cut_again h.node_text _ (number_lacks h.node_text node h.is_node),
      cut_again h.boot_text _ (number_lacks h.boot_text boot h.is_boot),
      h.is_node,
      h.is_boot,
      nexts_again (fields_of h.text) floors h.are_numbers h.within,
    )

-- ---- What is read is in the grammar

said_is : (word line rest : List ℕ) (round : RoundLine) → line ≡ word ++ 32 ∷ rest → said_line rest ≡ Some round
    → IsSaidLine word line round.node round.client round.moment round.line
said_is word line rest round form e =
    let first = both_steps (halves_of 32 rest) _ round e in
    let second = both_steps (halves_of 32 first.0.behind) _ round first.2 in
    let third = both_steps (halves_of 32 second.0.behind) _ round second.2 in
    let node = both_steps (number_of first.0.before) _ round third.2 in
    let client = both_steps (number_of second.0.before) _ round node.2 in
    let moment = both_steps (number_of third.0.before) _ round client.2 in
    let is : record { node = node.0; client = client.0; moment = moment.0; line = third.0.behind } ≡ round = cc in
    subst (λ (r : RoundLine). IsSaidLine word line r.node r.client r.moment r.line) is (record {
      node_text = first.0.before;
      client_text = second.0.before;
      moment_text = third.0.before;
      fields = form ∙ ap (λ x. word ++ 32 ∷ x) (cut_joins rest first.0 first.1
          ∙ ap (λ x. first.0.before ++ 32 ∷ x) (cut_joins first.0.behind second.0 second.1
          ∙ ap (λ x. second.0.before ++ 32 ∷ x) (cut_joins second.0.behind third.0 third.1)));
      is_node = node.1;
      is_client = client.1;
      is_moment = moment.1;
    })

client_is : (line rest : List ℕ) (act : Act) → line ≡ codes "client" ++ 32 ∷ rest → client_act rest ≡ Some act → IsActLine line act
client_is line rest act form e =
    let said = both_steps (said_line rest) _ act e in
    let is : Says said.0.node said.0.client said.0.moment said.0.line ≡ act = cc in
    subst (IsActLine line) is (said_is (codes "client") line rest said.0 form said.1)

deliver_is : (line rest : List ℕ) (act : Act) → line ≡ codes "deliver" ++ 32 ∷ rest → deliver_act rest ≡ Some act → IsActLine line act
deliver_is line rest act form e =
    let first = both_steps (halves_of 32 rest) _ act e in
    let node = both_steps (number_of first.0.before) _ act first.2 in
    let k = both_steps (number_of first.0.behind) _ act node.2 in
    let is : Deliver node.0 k.0 ≡ act = cc in
    subst (IsActLine line) is (record {
      node_text = first.0.before;
      k_text = first.0.behind;
      fields = form ∙ ap (λ x. codes "deliver" ++ 32 ∷ x) (cut_joins rest first.0 first.1);
      is_node = node.1;
      is_k = k.1;
    })

tick_is : (line rest : List ℕ) (act : Act) → line ≡ codes "tick" ++ 32 ∷ rest → tick_act rest ≡ Some act → IsActLine line act
tick_is line rest act form e =
    let node = both_steps (number_of rest) _ act e in
    let is : Ticks node.0 ≡ act = cc in
    subst (IsActLine line) is (record { node_text = rest; fields = form; is_node = node.1 })

noise_is : (line rest : List ℕ) (act : Act) → line ≡ codes "noise" ++ 32 ∷ rest → noise_act rest ≡ Some act → IsActLine line act
noise_is line rest act form e =
    let first = both_steps (halves_of 32 rest) _ act e in
    let second = both_steps (halves_of 32 first.0.behind) _ act first.2 in
    let node = both_steps (number_of first.0.before) _ act second.2 in
    let from = both_steps (number_of second.0.before) _ act node.2 in
    let bytes = both_steps (bytes_of second.0.behind) _ act from.2 in
    let is : Noise node.0 from.0 bytes.0 ≡ act = cc in
    subst (IsActLine line) {x = Noise node.0 from.0 bytes.0} is (record {
      node_text = first.0.before;
      from_text = second.0.before;
      digits = second.0.behind;
      fields = form ∙ ap (λ x. codes "noise" ++ 32 ∷ x) (cut_joins rest first.0 first.1
          ∙ ap (λ x. first.0.before ++ 32 ∷ x) (cut_joins first.0.behind second.0 second.1));
      is_node = node.1;
      is_from = from.1;
      is_hex = hex_is second.0.behind bytes.0 bytes.1;
    })

-- the word at the start of a line
worded : (line word rest name : List ℕ) → line ≡ word ++ 32 ∷ rest → bytes_eq word name ≡ true → line ≡ name ++ 32 ∷ rest
worded line word rest name form same = form ∙ ap (λ w. w ++ 32 ∷ rest) ((bytes_eq-Decides word name).0 same)

act_is_said : (line word rest : List ℕ) (act : Act) → line ≡ word ++ 32 ∷ rest → act_of_word word rest ≡ Some act → IsActLine line act
act_is_said line word rest act form e =
    let noise_or : Option Act = cond (bytes_eq word (codes "noise")) (noise_act rest) None in
    let tick_or : Option Act = cond (bytes_eq word (codes "tick")) (tick_act rest) noise_or in
    let deliver_or : Option Act = cond (bytes_eq word (codes "deliver")) (deliver_act rest) tick_or in
    elim (either (bytes_eq word (codes "client")) (client_act rest) deliver_or act e) [
      | inl h ↦ client_is line rest act (worded line word rest (codes "client") form h.0) h.1
      | inr h ↦ elim (either (bytes_eq word (codes "deliver")) (deliver_act rest) tick_or act h.1) [
        | inl h ↦ deliver_is line rest act (worded line word rest (codes "deliver") form h.0) h.1
        | inr h ↦ elim (either (bytes_eq word (codes "tick")) (tick_act rest) noise_or act h.1) [
          | inl h ↦ tick_is line rest act (worded line word rest (codes "tick") form h.0) h.1
          | inr h ↦ elim (either (bytes_eq word (codes "noise")) (noise_act rest) None act h.1) [
            | inl h ↦ noise_is line rest act (worded line word rest (codes "noise") form h.0) h.1
            | inr h ↦ (let none = h.1 in absurd cc)
          ]
        ]
      ]
    ]

act_is : (line : List ℕ) (act : Act) → act_line line ≡ Some act → IsActLine line act
act_is line act e =
    let steps = both_steps (halves_of 32 line) (λ halves. act_of_word halves.before halves.behind) act e in
    act_is_said line steps.0.before steps.0.behind act (cut_joins line steps.0 steps.1) steps.2

restart_is : (line rest : List ℕ) (event : Event) → line ≡ codes "restart" ++ 32 ∷ rest → restart_event rest ≡ Some event → IsEventLine line event
restart_is line rest event form e =
    let node = both_steps (number_of rest) _ event e in
    let is : Restart node.0 ≡ event = cc in
    subst (IsEventLine line) is (record { node_text = rest; fields = form; is_node = node.1 })

lost_is : (line rest : List ℕ) (event : Event) → line ≡ codes "lost" ++ 32 ∷ rest → lost_event rest ≡ Some event → IsEventLine line event
lost_is line rest event form e =
    let node = both_steps (number_of rest) _ event e in
    let is : Lost node.0 ≡ event = cc in
    subst (IsEventLine line) is (record { node_text = rest; fields = form; is_node = node.1 })

next_is : (text : List ℕ) (next : ℕ) → next_of text ≡ Some next → (number_of text ≡ Some next) × (next ≤ 2 ^ 62)
next_is text next e =
    let number = both_steps (number_of text) _ next e in
    let test = some_if (nat_le number.0 (2 ^ 62)) number.0 next number.2 in
    let most = leb-true number.0 (2 ^ 62) test.0 in
    (number.1 ∙ ap Some test.1, omega (arith, most, test.1))

nexts_are : (fields : List (List ℕ)) (floors : List ℕ) → nexts_of fields ≡ Some floors → AreNumbers fields floors × AreUpTo (2 ^ 62) floors
nexts_are [] floors e =
    let is : [] ≡ floors = cc in subst (λ l. AreNumbers [] l × AreUpTo (2 ^ 62) l) is (tt, tt)
nexts_are (field ∷ fields) floors e =
    let next = both_steps (next_of field) _ floors e in
    let more = both_steps (nexts_of fields) _ floors next.2 in
    let is : next.0 ∷ more.0 ≡ floors = cc in
    let first = next_is field next.0 next.1 in
    let rest = nexts_are fields more.0 more.1 in
    subst (λ l. AreNumbers (field ∷ fields) l × AreUpTo (2 ^ 62) l) is ((first.0, rest.0), (first.1, rest.1))

anew_is : (line rest : List ℕ) (event : Event) → line ≡ codes "anew" ++ 32 ∷ rest → anew_event rest ≡ Some event → IsEventLine line event
anew_is line rest event form e =
    let first = both_steps (halves_of 32 rest) _ event e in
    let second = both_steps (halves_of 32 first.0.behind) _ event first.2 in
    let node = both_steps (number_of first.0.before) _ event second.2 in
    let boot = both_steps (number_of second.0.before) _ event node.2 in
    let floors = both_steps (nexts_of (fields_of second.0.behind)) _ event boot.2 in
    let is : Anew node.0 boot.0 floors.0 ≡ event = cc in
    let said = nexts_are (fields_of second.0.behind) floors.0 floors.1 in
    subst (IsEventLine line) {x = Anew node.0 boot.0 floors.0} is (record {
      node_text = first.0.before;
      boot_text = second.0.before;
      text = second.0.behind;
      fields = form ∙ ap (λ x. codes "anew" ++ 32 ∷ x) (cut_joins rest first.0 first.1
          ∙ ap (λ x. first.0.before ++ 32 ∷ x) (cut_joins first.0.behind second.0 second.1));
      is_node = node.1;
      is_boot = boot.1;
      are_numbers = said.0;
      within = said.1;
    })

kept_is : (word : List ℕ) (kept : Bool) → kept_of_word word ≡ Some kept → word ≡ kept_word kept
kept_is word kept e =
    let lost_or : Option Bool = cond (bytes_eq word (codes "lost")) (Some false) None in
    elim (either (bytes_eq word (codes "kept")) (Some true) lost_or kept e) [
      | inl h ↦ (let said = h.1 in let is : true ≡ kept = cc in (bytes_eq-Decides word (codes "kept")).0 h.0 ∙ ap kept_word is)
      | inr h ↦ elim (either (bytes_eq word (codes "lost")) (Some false) None kept h.1) [
        | inl h ↦ (let said = h.1 in let is : false ≡ kept = cc in (bytes_eq-Decides word (codes "lost")).0 h.0 ∙ ap kept_word is)
        | inr h ↦ (let none = h.1 in absurd cc)
      ]
    ]

cut_is : (line rest : List ℕ) (event : Event) → line ≡ codes "cut" ++ 32 ∷ rest → cut_event rest ≡ Some event → IsEventLine line event
cut_is line rest event form e =
    let halves = both_steps (halves_of 32 rest) _ event e in
    let kept = both_steps (kept_of_word halves.0.before) _ event halves.2 in
    let act = both_steps (act_line halves.0.behind) _ event kept.2 in
    let is : Cut kept.0 act.0 ≡ event = cc in
    subst (IsEventLine line) is (record {
      act_text = halves.0.behind;
      fields = form ∙ ap (λ x. codes "cut" ++ 32 ∷ x) (cut_joins rest halves.0 halves.1
          ∙ ap (λ x. x ++ 32 ∷ halves.0.behind) (kept_is halves.0.before kept.0 kept.1));
      is_act = act_is halves.0.behind act.0 act.1;
    })

happens_is : (line word rest : List ℕ) (event : Event) → line ≡ word ++ 32 ∷ rest
    → (act_of_word word rest >>= (λ act. Some (Happens act))) ≡ Some event → IsEventLine line event
happens_is line word rest event form e =
    let act = both_steps (act_of_word word rest) _ event e in
    let is : Happens act.0 ≡ event = cc in
    subst (IsEventLine line) is (act_is_said line word rest act.0 form act.1)

-- what is read is in the grammar
pub event_is : (line : List ℕ) (event : Event) → event_line line ≡ Some event → IsEventLine line event
event_is line event e =
    let steps = both_steps (halves_of 32 line) (λ halves. event_of_word halves.before halves.behind) event e in
    let word = steps.0.before in
    let rest = steps.0.behind in
    let form = cut_joins line steps.0 steps.1 in
    let happens_or : Option Event = act_of_word word rest >>= (λ act. Some (Happens act)) in
    let cut_or : Option Event = cond (bytes_eq word (codes "cut")) (cut_event rest) happens_or in
    let anew_or : Option Event = cond (bytes_eq word (codes "anew")) (anew_event rest) cut_or in
    let lost_or : Option Event = cond (bytes_eq word (codes "lost")) (lost_event rest) anew_or in
    elim (either (bytes_eq word (codes "restart")) (restart_event rest) lost_or event steps.2) [
      | inl h ↦ restart_is line rest event (worded line word rest (codes "restart") form h.0) h.1
      | inr h ↦ elim (either (bytes_eq word (codes "lost")) (lost_event rest) anew_or event h.1) [
        | inl h ↦ lost_is line rest event (worded line word rest (codes "lost") form h.0) h.1
        | inr h ↦ elim (either (bytes_eq word (codes "anew")) (anew_event rest) cut_or event h.1) [
          | inl h ↦ anew_is line rest event (worded line word rest (codes "anew") form h.0) h.1
          | inr h ↦ elim (either (bytes_eq word (codes "cut")) (cut_event rest) happens_or event h.1) [
            | inl h ↦ cut_is line rest event (worded line word rest (codes "cut") form h.0) h.1
            | inr h ↦ happens_is line word rest event form h.1
          ]
        ]
      ]
    ]

-- ---- lines after the events

-- a line of a word followed by a text
word_is : {A : Type 0} (line name : List ℕ) (next : List ℕ → Option A) (given : A)
    → (halves_of 32 line >>= (λ halves. cond (bytes_eq halves.before name) (next halves.behind) None)) ≡ Some given
    → (rest : List ℕ) × (line ≡ name ++ 32 ∷ rest) × (next rest ≡ Some given)
word_is line name next given e =
    let steps = both_steps (halves_of 32 line) (λ halves. cond (bytes_eq halves.before name) (next halves.behind) None) given e in
    elim (either (bytes_eq steps.0.before name) (next steps.0.behind) None given steps.2) [
      | inl h ↦ (steps.0.behind, worded line steps.0.before steps.0.behind name (cut_joins line steps.0 steps.1) h.0, h.1)
      | inr h ↦ (let none = h.1 in absurd cc)
    ]

-- the nodes of fields
member_again : (nodes last : ℕ) (text : List ℕ) (node : ℕ) → number_of text ≡ Some node → last < node → node ≤ nodes
    → member_above nodes last text ≡ Some node
member_again nodes last text node e above within =
    ap (λ o. o >>= (λ number. cond (nat_lt last number && nat_le number nodes) (Some number) None)) e
    ∙ ap (λ b. cond (b && nat_le node nodes) (Some node) None) (lt-ltb last node above)
    ∙ ap (λ b. cond b (Some node) None) (le-leb node nodes within)

members_again : (nodes last : ℕ) (fields : List (List ℕ)) (live : List ℕ) → AreNumbers fields live → IsAscending (last ∷ live) → AreUpTo nodes live
    → members_above nodes last fields ≡ Some live
members_again nodes last [] [] are ascending within = refl
members_again nodes last [] (node ∷ live) are ascending within = absurd are
members_again nodes last (field ∷ fields) [] are ascending within = absurd are
members_again nodes last (field ∷ fields) (node ∷ live) are ascending within =
    ap (λ o. o >>= (λ first. members_above nodes first fields >>= (λ more. Some (first ∷ more)))) (member_again nodes last field node are.0 ascending.0 within.0)
    ∙ ap (λ o. o >>= (λ more. Some (node ∷ more))) (members_again nodes node fields live are.1 ascending.1 within.1)

member_is : (nodes last : ℕ) (text : List ℕ) (node : ℕ) → member_above nodes last text ≡ Some node
    → (number_of text ≡ Some node) × (last < node) × (node ≤ nodes)
member_is nodes last text node e =
    let number = both_steps (number_of text) _ node e in
    let test = some_if (nat_lt last number.0 && nat_le number.0 nodes) number.0 node number.2 in
    let parts = and_parts _ _ test.0 in
    let least = ltb-true last number.0 parts.0 in
    let most = leb-true number.0 nodes parts.1 in
    (number.1 ∙ ap Some test.1, omega (arith, least, test.1), omega (arith, most, test.1))

members_is : (nodes last : ℕ) (fields : List (List ℕ)) (live : List ℕ) → members_above nodes last fields ≡ Some live
    → AreNumbers fields live × IsAscending (last ∷ live) × AreUpTo nodes live
members_is nodes last [] live e =
    let is : [] ≡ live = cc in subst (λ l. AreNumbers [] l × IsAscending (last ∷ l) × AreUpTo nodes l) is (tt, tt, tt)
members_is nodes last (field ∷ fields) live e =
    let node = both_steps (member_above nodes last field) _ live e in
    let more = both_steps (members_above nodes node.0 fields) _ live node.2 in
    let is : node.0 ∷ more.0 ≡ live = cc in
    let first = member_is nodes last field node.0 node.1 in
    let rest = members_is nodes node.0 fields more.0 more.1 in
    subst (λ l. AreNumbers (field ∷ fields) l × IsAscending (last ∷ l) × AreUpTo nodes l) is
    ((first.0, rest.0), (first.1, rest.1), (first.2, rest.2))

pub live_again : (nodes : ℕ) (line live : List ℕ) → IsLiveLine nodes line live → live_line nodes line ≡ Some live
live_again nodes line live h =
    rw (
      h.fields,
      cut_again (codes "live") _ (word_lacks (codes "live") refl),
      members_again nodes 0 (fields_of h.text) live h.are_numbers h.ascending h.within,
      lt-ltb nodes (2 * length live) h.majority,
    )

pub live_is : (nodes : ℕ) (line live : List ℕ) → live_line nodes line ≡ Some live → IsLiveLine nodes line live
live_is nodes line live e =
    let named = word_is line (codes "live") (live_members nodes) live e in
    let members = both_steps (members_above nodes 0 (fields_of named.0)) _ live named.2 in
    let test = some_if (nat_lt nodes (2 * length members.0)) members.0 live members.2 in
    let said = members_is nodes 0 (fields_of named.0) members.0 members.1 in
    subst (IsLiveLine nodes line) test.1 (record {
      text = named.0;
      fields = named.1;
      are_numbers = said.0;
      ascending = said.1;
      within = said.2;
      majority = ltb-true nodes (2 * length members.0) test.0;
    })

-- an event's line says no live members
pub no_live : (nodes : ℕ) (line : List ℕ) (event : Event) → event_line line ≡ Some event → live_line nodes line ≡ None
no_live nodes line event e =
    let steps = both_steps (halves_of 32 line) (λ halves. event_of_word halves.before halves.behind) event e in
    ap (λ o. o >>= (λ halves. cond (bytes_eq halves.before (codes "live")) (live_members nodes halves.behind) None)) steps.1
    ∙ other steps.0.before steps.0.behind (bytes_eq steps.0.before (codes "live")) refl steps.2
  where
    other : (word rest : List ℕ) (test : Bool) → bytes_eq word (codes "live") ≡ test → event_of_word word rest ≡ Some event
        → cond test (live_members nodes rest) None ≡ None
    other word rest true same said =
        let none : event_of_word (codes "live") rest ≡ Some event =
        subst (λ w. event_of_word w rest ≡ Some event) ((bytes_eq-Decides word (codes "live")).0 same) said in
        absurd cc
    other word rest false same said = refl

pub round_again : (live line : List ℕ) (round : RoundLine) → IsRoundLine live line round → round_among live line ≡ Some round
round_again live line round h =
    rw (
      h.said.fields,
      cut_again (codes "round") _ (word_lacks (codes "round") refl),
      cut_again h.said.node_text _ (number_lacks h.said.node_text round.node h.said.is_node),
      cut_again h.said.client_text _ (number_lacks h.said.client_text round.client h.said.is_client),
      cut_again h.said.moment_text _ (number_lacks h.said.moment_text round.moment h.said.is_moment),
      h.said.is_node,
      h.said.is_client,
      h.said.is_moment,
      h.at_live,
    )

pub round_is : (live line : List ℕ) (round : RoundLine) → round_among live line ≡ Some round → IsRoundLine live line round
round_is live line round e =
    let named = word_is line (codes "round") (line_among live) round e in
    let said = both_steps (said_line named.0) _ round named.2 in
    let test = some_if (is_live live said.0.node) said.0 round said.2 in
    subst (IsRoundLine live line) test.1 (record {
      said = said_is (codes "round") line named.0 said.0 named.1 said.1;
      at_live = test.0;
    })
