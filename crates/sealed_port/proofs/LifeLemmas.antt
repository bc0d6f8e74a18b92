-- What an incarnation of a gate opened, no later one opens.
use Rattle.std.proofs.Common.{◌≡◌, ℕ, ◌≤◌, Bool, true, false, cond, eqb, List, [], ◌∷◌, ◌++◌, Option, Some, None, refl, sym, ap, subst, ◌∙◌, inl, inr}
use Rattle.std.specs.Prelude.{not}
use Rattle.std.specs.List.{AllByRecursion, IsDistinct}
use Rattle.std.specs.Option.{option_map}
use Rattle.std.proofs.Math.Nat.{le_trans}
use Rattle.std.proofs.lemmas.Bool.{and_parts}
use Rattle.replay_window.specs.Window.{last_at, with_seen}
use Rattle.replay_window.proofs.OnceLemmas.{ahead_stays, fresh_is_near}
use Rattle.sealed_port.specs.Asked.{AskedRecord, clashes}
use Rattle.sealed_port.specs.Gate.{GateRecord, SealedLine, admits, asked_of, gate_with, named, opened, with_moment}
use Rattle.sealed_port.specs.Runs.{AreGatesInOrder, GateLife, IsGateBefore, Step, Comes, Answers, Drains, Takes, WasTold, gate_step, is_same, opened_in, opened_over, opening_of}
use Rattle.sealed_port.specs.declared.client.Client.{Client}
use Rattle.sealed_port.proofs.OpenLemmas.{opened_law}
use Rattle.sealed_port.proofs.RunLemmas.{all_append, named_stays, never_again_in, once_law}

abbrev present : {A : Type 0} → A → Option A
present x = Some x

some_is : {A : Type 0} (x y : A) → present x ≡ present y → x ≡ y
some_is x y e = cc

-- ---- the lead of a client's window stays

-- each client with this number of the gate has this lead
abbrev HasLead : GateRecord → ℕ → ℕ → Type 0
HasLead gate number ahead = (client : Client) → named number gate.clients ≡ Some client → client.window.ahead ≡ ahead

keeps_lead : (b : Bool) (client : Client) (moment ahead : ℕ) → client.window.ahead ≡ ahead → (cond b (record client { window = with_seen client.window moment }) client).window.ahead ≡ ahead
keeps_lead true client moment ahead h = ahead_stays client.window moment ∙ h
keeps_lead false client moment ahead h = h

lead_with : (gate : GateRecord) (now : Option ℕ) (address : ℕ) (found : Option SealedLine) (n ahead : ℕ) → HasLead gate n ahead → HasLead (gate_with gate now address found) n ahead
lead_with gate now address None n ahead h = h
lead_with gate now address (Some line) n ahead h = λ client e.
    from (named n gate.clients) refl (sym (named_stays n line.client line.moment gate.clients) ∙ e)
  where
    from : {client : Client} (o : Option Client) → named n gate.clients ≡ o → option_map (with_moment line.client line.moment) o ≡ Some client → client.window.ahead ≡ ahead
    from None is e = absurd cc
    from (Some before) is e =
        subst (λ (c : Client). c.window.ahead ≡ ahead) (some_is _ _ e) (keeps_lead (eqb before.number line.client) before line.moment ahead (h before is))

-- ---- an opened line is near a second that the clock told

-- a line is at most its client's lead ahead of a second that was told
record IsNear (gate : GateRecord) (steps : List Step) (line : AskedRecord) : Type 0 where
  second : ℕ
  told : WasTold second steps
  client : Client
  is_client : named line.client gate.clients ≡ Some client
  near : line.moment ≤ last_at second client.window.ahead

admits_near : (o : Option Client) (now moment : ℕ) → admits o now moment ≡ true → (client : Client) × (o ≡ Some client) × (moment ≤ last_at now client.window.ahead)
admits_near None now moment e = absurd cc
admits_near (Some client) now moment e = (client, refl, fresh_is_near client.window now moment e)

near_now : (gate : GateRecord) (now : Option ℕ) (address : ℕ) (bytes : List ℕ) (steps : List Step) (line : SealedLine) → opened gate now bytes ≡ Some line
    → IsNear gate (Comes now address bytes ∷ steps) (asked_of address line)
near_now gate now address bytes steps line e =
    let o = opened_law gate now bytes line e in
    let fresh = (and_parts (admits (named line.client gate.clients) o.second line.moment) (not (clashes line.client line.line gate.asked)) o.admitted).0 in
    let n = admits_near (named line.client gate.clients) o.second line.moment fresh in
    record {
      second = o.second;
      told = inl o.told;
      client = n.0;
      is_client = n.1;
      near = n.2;
    }

-- what is near after a step is near before it
near_before : (gate : GateRecord) (step : Step) (steps : List Step) (line : AskedRecord) → IsNear (gate_step gate step) steps line → IsNear gate (step ∷ steps) line
near_before gate (Answers client answer) steps line n = record { second = n.second; told = n.told; client = n.client; is_client = n.is_client; near = n.near }
near_before gate Takes steps line n = record { second = n.second; told = n.told; client = n.client; is_client = n.is_client; near = n.near }
near_before gate Drains steps line n = record { second = n.second; told = n.told; client = n.client; is_client = n.is_client; near = n.near }
near_before gate (Comes now address bytes) steps line n = from (opened gate now bytes) n.is_client
  where
    go : (line' : SealedLine) (o : Option Client) → named line.client gate.clients ≡ o → option_map (with_moment line'.client line'.moment) o ≡ Some n.client → IsNear gate (Comes now address bytes ∷ steps) line
    go line' None is e = absurd cc
    go line' (Some before) is e =
        let same : with_moment line'.client line'.moment before ≡ n.client = some_is _ _ e in
        let lead : n.client.window.ahead ≡ before.window.ahead =
        ap (λ (c : Client). c.window.ahead) (sym same) ∙ keeps_lead (eqb before.number line'.client) before line'.moment before.window.ahead refl in
        record {
          second = n.second;
          told = inr n.told;
          client = before;
          is_client = is;
          near = subst (λ (k : ℕ). line.moment ≤ last_at n.second k) lead n.near;
        }

    from : (o : Option SealedLine) → named line.client (gate_with gate now address o).clients ≡ Some n.client → IsNear gate (Comes now address bytes ∷ steps) line
    from None is = record { second = n.second; told = inr n.told; client = n.client; is_client = is; near = n.near }
    from (Some line') is = go line' (named line.client gate.clients) refl (sym (named_stays line.client line'.client line'.moment gate.clients) ∙ is)

pub all_of : {X : Type 0} (P Q : X → Type 0) → ((x : X) → P x → Q x) → (xs : List X) → AllByRecursion P xs → AllByRecursion Q xs
all_of P Q f [] h = tt
all_of P Q f (x ∷ xs) h = (f x h.0, all_of P Q f xs h.1)

all_near : (gate : GateRecord) (steps : List Step) → AllByRecursion (IsNear gate steps) (opened_in gate steps)
all_near gate [] = tt
all_near gate (Answers client answer ∷ steps) =
    all_of (IsNear (gate_step gate (Answers client answer)) steps) (IsNear gate (Answers client answer ∷ steps)) (near_before gate (Answers client answer) steps)
    (opened_in (gate_step gate (Answers client answer)) steps) (all_near (gate_step gate (Answers client answer)) steps)
all_near gate (Takes ∷ steps) =
    all_of (IsNear (gate_step gate Takes) steps) (IsNear gate (Takes ∷ steps)) (near_before gate Takes steps)
    (opened_in (gate_step gate Takes) steps) (all_near (gate_step gate Takes) steps)
all_near gate (Drains ∷ steps) =
    all_of (IsNear (gate_step gate Drains) steps) (IsNear gate (Drains ∷ steps)) (near_before gate Drains steps)
    (opened_in (gate_step gate Drains) steps) (all_near (gate_step gate Drains) steps)
all_near gate (Comes now address bytes ∷ steps) =
    all_append (IsNear gate (Comes now address bytes ∷ steps)) (opening_of address (opened gate now bytes)) (opened_in (gate_step gate (Comes now address bytes)) steps)
    (from (opened gate now bytes) refl)
    (all_of (IsNear (gate_step gate (Comes now address bytes)) steps) (IsNear gate (Comes now address bytes ∷ steps)) (near_before gate (Comes now address bytes) steps)
    (opened_in (gate_step gate (Comes now address bytes)) steps) (all_near (gate_step gate (Comes now address bytes)) steps))
  where
    from : (o : Option SealedLine) → opened gate now bytes ≡ o → AllByRecursion (IsNear gate (Comes now address bytes ∷ steps)) (opening_of address o)
    from None is = tt
    from (Some line) is = (near_now gate now address bytes steps line is, tt)

-- ---- incarnations

-- no later incarnation opens a line that is near
apart_from_later : (life : GateLife) (line : AskedRecord) (lives : List GateLife) → IsNear life.gate life.steps line → AllByRecursion (IsGateBefore life) lives
    → AllByRecursion (λ other. is_same line other ≡ false) (opened_over lives)
apart_from_later life line [] near h = tt
apart_from_later life line (later ∷ lives) near h =
    all_append (λ other. is_same line other ≡ false) (opened_in later.gate later.steps) (opened_over lives)
    (never_again_in later.gate later.steps line (λ next e. inl (le_trans near.near (h.0 line.client near.second near.client next near.told near.is_client e))))
    (apart_from_later life line lives near h.1)

pub distinct_append : (xs ys : List AskedRecord) → IsDistinct is_same xs → IsDistinct is_same ys → AllByRecursion (λ x. AllByRecursion (λ y. is_same x y ≡ false) ys) xs → IsDistinct is_same (xs ++ ys)
unfolding IsDistinct
distinct_append [] ys h k apart = k
distinct_append (x ∷ xs) ys h k apart = (all_append (λ y. is_same x y ≡ false) xs ys h.0 apart.0, distinct_append xs ys h.1 k apart.1)

pub gates_law : (lives : List GateLife) → AreGatesInOrder lives → IsDistinct is_same (opened_over lives)
unfolding IsDistinct
gates_law [] h = tt
gates_law (life ∷ lives) h =
    distinct_append (opened_in life.gate life.steps) (opened_over lives) (once_law life.gate life.steps) (gates_law lives h.1)
    (all_of (IsNear life.gate life.steps) (λ line. AllByRecursion (λ other. is_same line other ≡ false) (opened_over lives))
    (λ line near. apart_from_later life line lives near h.0) (opened_in life.gate life.steps) (all_near life.gate life.steps))
