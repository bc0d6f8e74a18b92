-- A node that is served in stretches.
use Rattle.std.proofs.Common.{◌≡◌, inl, inr, Bool, true, false, ℕ, ◌+◌, ◌<◌, ◌≤◌, List, [], ◌∷◌, refl, sym, ap, ◌∙◌, subst, arith}
use Rattle.std.specs.Prelude.{◌⊎◌, Option, None, Some, Result, Ok, Err}
use Rattle.datagram_port.specs.Port.{PortEvent}
use Rattle.floor_store.specs.Held.{Held}
use Rattle.oath_node.specs.Hosted.{Hosted, IsSameNode, is_waiting}
use Rattle.oath_node.specs.TurnServing.{EndsTurns, Serves, ServesUntil}
use Rattle.oath_node.specs.declared.fault.NodeFault.{NodeFault}
use Rattle.oath_node.specs.declared.serve_fault.ServeFault.{ServeFault}
use Rattle.oath_node.specs.declared.serve_fault.ServeFault.TheVariants.{Node}
use Rattle.oath_node.specs.declared.turns.Served.{Served}
use Rattle.oath_node.proofs.TurnLemmas.{serves_never}
use Rattle.oath_node.proofs.TurnStepLemmas.{same_refl, same_trans}
use Rattle.node_serving.specs.Stretches.{ActsOf, AreServed, ServesIn, Stretch, counted, counts_after, end_after, no_acts, operator_acts, unasked}

-- ---- A run that may end early

answers_so : (turns most : ℕ) (answers others : ℕ → Bool → Type 0) → ((left : ℕ) (ends : Bool) → answers left ends → others left ends)
    → EndsTurns turns most answers → EndsTurns turns most others
answers_so turns most answers others so h = record {
  left = h.left;
  sum = h.sum;
  is_early = h.is_early;
  asked = elim h.asked [
    | inl none ↦ inl none
    | inr last ↦ inr (last.0, so h.left h.is_early last.1)
  ];
  all = h.all;
}

module _ {S : Type 0} (held : S → Held) (old new : Hosted S) (first entries : Option (List PortEvent))
    (asked told : Option (List (Option ℕ))) (turns : ℕ) (answers others : ℕ → Bool → Bool → Type 0) where
  -- what holds after an answer is weakened
  pub until_so : (result : Result Served ServeFault)
      → ((left : ℕ) (waits ends : Bool) → answers left waits ends → others left waits ends)
      → ServesUntil held old new first entries asked told turns answers result
      → ServesUntil held old new first entries asked told turns others result
  until_so (Ok served) so h = record {
    most = h.most;
    within = h.within;
    ends = answers_so turns h.most (λ left. answers left (is_waiting new)) (λ left. others left (is_waiting new))
        (λ left ends. so left (is_waiting new) ends) h.ends;
    serves = h.serves;
  }
  until_so (Err fault) so h = record { most = h.most; within = h.within; ends = tt; serves = h.serves }

  -- no answer ends a fault
  pub until_fault : (fault : ServeFault) → ServesUntil held old new first entries asked told turns answers (Err fault)
      → ServesUntil held old new first entries asked told turns others (Err fault)
  until_fault fault h = record { most = h.most; within = h.within; ends = tt; serves = h.serves }

-- what the last answer tells of the turns that are left
pub left_after : (turns most kept : ℕ) (answers : ℕ → Bool → Type 0) → 0 < turns
    → EndsTurns turns most (λ left ends. (kept ≡ left) × answers left ends) → (0 < most) × (most + kept ≡ turns)
left_after turns most kept answers some h =
    let sum = h.sum in
    elim h.asked [
      | inl none ↦ (omega (arith, some, none), omega (arith, some, none))
      | inr last ↦ let is = last.1.0 in (last.0, omega (arith, is, sum))
    ]

-- ---- The stretches so far

-- the counts of stretches, if there are any
abbrev pub counts_of : {S : Type 0} → List (Stretch S) → Option Served
counts_of [] = None
counts_of (stretch ∷ earlier) = Some (counted earlier stretch.served)

counted_after : {S : Type 0} (stretches : List (Stretch S)) (served : Served)
    → counts_after (counts_of stretches) served ≡ counted stretches served
counted_after [] served = refl
counted_after (stretch ∷ earlier) served = refl

abbrev some_counts : Served → Option Served
some_counts counts = Some counts

abbrev ok_counts : Served → Result Served ServeFault
ok_counts counts = Ok counts

-- Stretches were served, and their counts are `before`.
pub record AreSoFar {S : Type 0} (held : S → Held) (acts : ActsOf S) (old now : Hosted S)
    (first entries : Option (List PortEvent)) (asked told : Option (List (Option ℕ))) (turns left : ℕ)
    (before : Option Served) : Type 0 where
  pub stretches : List (Stretch S)
  pub are : AreServed held acts old first asked turns stretches now entries told left
  pub counts : before ≡ counts_of stretches

module _ {S : Type 0} (held : S → Held) (acts : ActsOf S) (old : Hosted S) (first : Option (List PortEvent))
    (asked : Option (List (Option ℕ))) (turns : ℕ) where
  -- none at the start
  pub none_so_far : AreSoFar held acts old old first first asked asked turns turns None
  none_so_far = record { stretches = []; are = (refl, refl, refl, refl); counts = refl }

  counts_are : (now : Hosted S) (entries : Option (List PortEvent)) (told : Option (List (Option ℕ))) (left : ℕ) (before : Option Served)
      (h : AreSoFar held acts old now first entries asked told turns left before) (served all : Served)
      → all ≡ counts_after before served → all ≡ counted h.stretches served
  counts_are now entries told left before h served all is =
      is ∙ ap (λ (b : Option Served). counts_after b served) h.counts ∙ counted_after h.stretches served

  -- one stretch more, and the act after it
  pub one_more : (now stood next : Hosted S) (entries last after : Option (List PortEvent)) (told said : Option (List (Option ℕ)))
      (left kept : ℕ) (before : Option Served) (served all : Served) (answers : ℕ → Bool → Bool → Type 0)
      → AreSoFar held acts old now first entries asked told turns left before → 0 < left → 0 < kept
      → ServesUntil held now stood entries last told said left (λ n waits ends. (kept ≡ n) × answers n waits ends) (Ok served)
      → after ≡ last → acts stood next (Ok true) → all ≡ counts_after before served
      → AreSoFar held acts old next first after asked said turns kept (Some all)
  one_more now stood next entries last after told said left kept before served all answers h some more run same act is =
      let sum = left_after left run.most kept (λ n. answers n (is_waiting stood)) some run.ends in
      record {
        stretches = record { from = now; stood = stood; first = entries; asked = told; turns = run.most; served = served } ∷ h.stretches;
        are = (
          subst (λ (n : ℕ). AreServed held acts old first asked turns h.stretches now entries told n) (sym sum.1) h.are,
          sum.0,
          more,
          subst (λ (e : Option (List PortEvent)). Serves held now stood entries e told said run.most (Ok served)) (sym same) run.serves,
          act,
        );
        counts = ap some_counts (counts_are now entries told left before h served all is);
      }

  -- the last stretch
  pub ends_ok : (now new : Hosted S) (entries last : Option (List PortEvent)) (told said : Option (List (Option ℕ)))
      (left : ℕ) (before : Option Served) (served all : Served) (answers : ℕ → Bool → Bool → Type 0)
      → AreSoFar held acts old now first entries asked told turns left before
      → ServesUntil held now new entries last told said left answers (Ok served)
      → all ≡ counts_after before served
      → ServesIn held acts old new first last asked said turns answers (Ok all)
  ends_ok now new entries last told said left before served all answers h run is = record {
    stretches = h.stretches;
    from = now;
    from_first = entries;
    from_asked = told;
    left = left;
    before = h.are;
    end = Ok served;
    last = inl run;
    counts = ap ok_counts (counts_are now entries told left before h served all is);
  }

  -- a fault of the last stretch
  pub ends_err : (now new : Hosted S) (entries last : Option (List PortEvent)) (told said : Option (List (Option ℕ)))
      (left : ℕ) (before : Option Served) (fault : ServeFault) (answers : ℕ → Bool → Bool → Type 0)
      → AreSoFar held acts old now first entries asked told turns left before
      → ServesUntil held now new entries last told said left answers (Err fault)
      → ServesIn held acts old new first last asked said turns answers (Err fault)
  ends_err now new entries last told said left before fault answers h run = record {
    stretches = h.stretches;
    from = now;
    from_first = entries;
    from_asked = told;
    left = left;
    before = h.are;
    end = Err fault;
    last = inl run;
    counts = refl;
  }

  -- a fault of the act after the last stretch
  pub ends_act : (now stood new : Hosted S) (entries last after : Option (List PortEvent)) (told said : Option (List (Option ℕ)))
      (left : ℕ) (before : Option Served) (served : Served) (fault : NodeFault) (told_of answers : ℕ → Bool → Bool → Type 0)
      → AreSoFar held acts old now first entries asked told turns left before
      → ServesUntil held now stood entries last told said left told_of (Ok served)
      → after ≡ last → acts stood new (Err fault)
      → ServesIn held acts old new first after asked said turns answers (Err (Node fault))
  ends_act now stood new entries last after told said left before served fault told_of answers h run same act = record {
    stretches = h.stretches;
    from = now;
    from_first = entries;
    from_asked = told;
    left = left;
    before = h.are;
    end = Err (Node fault);
    last = inr (record {
      count = run.most;
      within = run.within;
      served = served;
      stood = stood;
      serves = subst (λ (e : Option (List PortEvent)). Serves held now stood entries e told said run.most (Ok served)) (sym same) run.serves;
      fault = fault;
      fails = act;
      end_is = refl;
    });
    counts = refl;
  }

-- ---- What is known of a call by its stretches

module _ {S : Type 0} (held : S → Held) (acts : ActsOf S) (old : Hosted S) (first : Option (List PortEvent))
    (asked : Option (List (Option ℕ))) (turns : ℕ) where
  -- no more turns are left than were given
  pub left_within : (stretches : List (Stretch S)) (now : Hosted S) (entries : Option (List PortEvent)) (told : Option (List (Option ℕ)))
      (left : ℕ) → AreServed held acts old first asked turns stretches now entries told left → left ≤ turns
  left_within [] now entries told left h = let is = h.3 in omega (arith, is)
  left_within (stretch ∷ earlier) now entries told left h =
      let within = left_within earlier stretch.from stretch.first stretch.asked (stretch.turns + left) h.0 in
      omega (arith, within)

  -- without turns no stretch ends
  none_left : (stretches : List (Stretch S)) (now : Hosted S) (entries : Option (List PortEvent)) (told : Option (List (Option ℕ)))
      (left : ℕ) → AreServed held acts old first asked turns stretches now entries told left → left ≡ 0 → turns ≡ 0
  none_left [] now entries told left h none = sym h.3 ∙ none
  none_left (stretch ∷ earlier) now entries told left h none = let some = h.2 in absurd (omega (arith, some, none))

  same_so_far : ((a b : Hosted S) (r : Result Bool NodeFault) → acts a b r → IsSameNode a b)
      → (stretches : List (Stretch S)) (now : Hosted S) (entries : Option (List PortEvent)) (told : Option (List (Option ℕ))) (left : ℕ)
      → AreServed held acts old first asked turns stretches now entries told left → IsSameNode old now
  same_so_far so [] now entries told left h = subst (λ (n : Hosted S). IsSameNode old n) (sym h.0) (same_refl old)
  same_so_far so (stretch ∷ earlier) now entries told left h =
      same_trans old stretch.stood now
      (same_trans old stretch.from stretch.stood
      (same_so_far so earlier stretch.from stretch.first stretch.asked (stretch.turns + left) h.0) h.3.same)
      (so stretch.stood now (Ok true) h.4)

ends_ok_of : {S : Type 0} (stretches : List (Stretch S)) (end : Result Served ServeFault) (served : Served)
    → Ok served ≡ end_after stretches end → (counts : Served) × (end ≡ Ok counts)
ends_ok_of stretches (Ok counts) served is = (counts, refl)
ends_ok_of stretches (Err fault) served is = absurd cc

last_answer : (turns left most : ℕ) (answers : ℕ → Bool → Type 0) → left ≤ turns → (left ≡ 0 → turns ≡ 0)
    → EndsTurns left most answers → (turns ≡ 0) ⊎ ((n : ℕ) × (n < turns) × (is_early : Bool) × answers n is_early)
last_answer turns left most answers within none h =
    let sum = h.sum in
    elim h.asked [
      | inl zero ↦ inl (none zero)
      | inr last ↦ let some = last.0 in inr (h.left, omega (arith, some, sum, within), h.is_early, last.1)
    ]

module _ {S : Type 0} (held : S → Held) (acts : ActsOf S) (old new : Hosted S) (first entries : Option (List PortEvent))
    (asked told : Option (List (Option ℕ))) (turns : ℕ) (answers : ℕ → Bool → Bool → Type 0) where
  -- the last answer of a call that is no fault, and the turns that are left then
  pub some_served : (served : Served) → ServesIn held acts old new first entries asked told turns answers (Ok served)
      → (turns ≡ 0) ⊎ ((left : ℕ) × (left < turns) × (is_early : Bool) × answers left (is_waiting new) is_early)
  some_served served h =
      let ends = ends_ok_of h.stretches h.end served h.counts in
      elim h.last [
        | inl run ↦
            let last = subst (λ (r : Result Served ServeFault). ServesUntil held h.from new h.from_first entries h.from_asked told h.left answers r) ends.1 run in
            last_answer turns h.left last.most (λ left. answers left (is_waiting new))
            (left_within held acts old first asked turns h.stretches h.from h.from_first h.from_asked h.left h.before)
            (none_left held acts old first asked turns h.stretches h.from h.from_first h.from_asked h.left h.before) last.ends
        | inr act ↦ let e = sym ends.1 ∙ act.end_is in absurd cc
      ]

  -- the parts of the node that no act changes
  pub same_in : (result : Result Served ServeFault) → ((a b : Hosted S) (r : Result Bool NodeFault) → acts a b r → IsSameNode a b)
      → ServesIn held acts old new first entries asked told turns answers result → IsSameNode old new
  same_in result so h =
      let before = same_so_far held acts old first asked turns so h.stretches h.from h.from_first h.from_asked h.left h.before in
      elim h.last [
        | inl run ↦ same_trans old h.from new before run.serves.same
        | inr act ↦ same_trans old h.from new before (same_trans h.from act.stood new act.serves.same (so act.stood new (Err act.fault) act.fails))
      ]

  -- what holds after an answer is weakened
  pub stretches_so : (others : ℕ → Bool → Bool → Type 0) (result : Result Served ServeFault)
      → ((left : ℕ) (waits ends : Bool) → answers left waits ends → others left waits ends)
      → ServesIn held acts old new first entries asked told turns answers result
      → ServesIn held acts old new first entries asked told turns others result
  stretches_so others result so h = record {
    stretches = h.stretches;
    from = h.from;
    from_first = h.from_first;
    from_asked = h.from_asked;
    left = h.left;
    before = h.before;
    end = h.end;
    last = elim h.last [
      | inl run ↦ inl (until_so held h.from new h.from_first entries h.from_asked told h.left answers others h.end so run)
      | inr act ↦ inr act
    ];
    counts = h.counts;
  }

  -- nothing is told of an answer
  pub unasked_so : (result : Result Served ServeFault) → ServesIn held acts old new first entries asked told turns answers result
      → ServesIn held acts old new first entries asked told turns unasked result
  unasked_so result = stretches_so unasked result (λ left waits ends h. tt)

-- ---- A call without acts

end_after_none : (S : Type 0) (end : Result Served ServeFault) → end_after {S = S} [] end ≡ end
end_after_none S (Ok served) = refl
end_after_none S (Err fault) = refl

once : {S : Type 0} (held : S → Held) (old new : Hosted S) (first entries : Option (List PortEvent))
    (asked told : Option (List (Option ℕ))) (turns : ℕ) (answers : ℕ → Bool → Bool → Type 0) (stretches : List (Stretch S))
    (from : Hosted S) (from_first : Option (List PortEvent)) (from_asked : Option (List (Option ℕ))) (left : ℕ)
    (end result : Result Served ServeFault) → AreServed held no_acts old first asked turns stretches from from_first from_asked left
    → ServesUntil held from new from_first entries from_asked told left answers end → result ≡ end_after stretches end
    → ServesUntil held old new first entries asked told turns answers result
once {S = S} held old new first entries asked told turns answers [] from from_first from_asked left end result h run is =
    subst (λ (r : Result Served ServeFault). ServesUntil held old new first entries asked told turns answers r) (sym (is ∙ end_after_none S end))
    (subst (λ (n : ℕ). ServesUntil held old new first entries asked told n answers end) h.3
    (subst (λ (a : Option (List (Option ℕ))). ServesUntil held old new first entries a told left answers end) h.2
    (subst (λ (f : Option (List PortEvent)). ServesUntil held old new f entries from_asked told left answers end) h.1
    (subst (λ (n : Hosted S). ServesUntil held n new from_first entries from_asked told left answers end) h.0 run))))
once held old new first entries asked told turns answers (stretch ∷ earlier) from from_first from_asked left end result h run is = absurd h.4

module _ {S : Type 0} (held : S → Held) (old new : Hosted S) (first entries : Option (List PortEvent))
    (asked told : Option (List (Option ℕ))) (turns : ℕ) (result : Result Served ServeFault) where
  -- a call without acts is one run
  pub serves_once : (answers : ℕ → Bool → Bool → Type 0) → ServesIn held no_acts old new first entries asked told turns answers result
      → ServesUntil held old new first entries asked told turns answers result
  serves_once answers h =
      elim h.last [
        | inl run ↦ once held old new first entries asked told turns answers h.stretches h.from h.from_first h.from_asked h.left h.end result
            h.before run h.counts
        | inr act ↦ absurd act.fails
      ]

  -- without acts, and if no answer ends it, it serves all turns
  pub serves_through : ServesIn held no_acts old new first entries asked told turns (λ _ _ ends. ends ≡ false) result
      → Serves held old new first entries asked told turns result
  serves_through h = serves_never held old new first entries asked told turns result (serves_once (λ _ _ ends. ends ≡ false) h)

-- ---- The acts for operators

-- they keep the parts of the node that no call changes
pub operator_same : {S : Type 0} (held : S → Held) (a b : Hosted S) (r : Result Bool NodeFault)
    → operator_acts held a b r → IsSameNode a b
operator_same held a b r h =
    elim h [
      | inl unlocks ↦ subst (λ n. IsSameNode a n) (sym unlocks.1.others) (record { book = refl; limits = refl; key = refl; place = refl })
      | inr other ↦ elim other [
        | inl reads ↦ reads.same
        | inr none ↦ subst (λ n. IsSameNode a n) (sym none.1) (same_refl a)
      ]
    ]
