-- The offers of a quiet turn, one after the other.
use Rattle.std.proofs.Common.{◌≡◌, ℕ, zero, suc, ◌+◌, List, [], ◌∷◌, ◌++◌, length, Option, Some, None, refl, sym, ap, subst, ◌∙◌, arith, append_assoc, append-nil}
use Rattle.datagram_port.specs.Port.{Grows, PortEvent}
use Rattle.floor_port.specs.Floors.{floors_body}
use Rattle.floor_port.specs.Packer.{PackerRecord, body_of, body_offers, member_offer, offers_of, turn_offers}
use Rattle.floor_port.specs.Rows.{RowsRecord, after_turn, after_turns, next_floors}
use Rattle.floor_port.specs.declared.floor.NamedFloor.{NamedFloor}

abbrev present : {A : Type 0} → A → Option A
present x = Some x

some_is : {A : Type 0} (x y : A) → present x ≡ present y → x ≡ y
some_is x y e = cc

-- ---- records that grow

pub grown : (old new : Option (List PortEvent)) (added now : List PortEvent) → Grows old new added → new ≡ Some now
    → (before : List PortEvent) × (old ≡ Some before) × (before ++ added ≡ now)
grown (Some before) (Some all) added now grows e = (before, refl, some_is (before ++ added) now (grows ∙ e))
grown None (Some all) added now grows e = absurd cc
grown old None added now grows e = absurd cc

pub grows_both : (old mid new : Option (List PortEvent)) (first second : List PortEvent) → Grows old mid first → Grows mid new second → Grows old new (first ++ second)
grows_both old mid None first second one two = tt
grows_both old None (Some now) first second one two = absurd cc
grows_both None (Some between) (Some now) first second one two = absurd cc
grows_both (Some before) (Some between) (Some now) first second one two =
    let b : before ++ first ≡ between = some_is (before ++ first) between one in
    let n : between ++ second ≡ now = some_is (between ++ second) now two in
    ap present (sym (append_assoc before first second) ∙ ap (λ (l : List PortEvent). l ++ second) b ∙ n)

pub grows_none : (events : Option (List PortEvent)) → Grows events events []
grows_none None = tt
grows_none (Some events) = ap present (append-nil events)

-- ---- offers of a body

offers_more : (packer : PackerRecord) (body : List ℕ) (first count : ℕ) → body_offers packer body first (suc count) ≡ body_offers packer body first count ++ member_offer packer body (first + count)
offers_more packer body first zero =
    let same : first ≡ first + 0 = omega arith in
    append-nil (member_offer packer body first) ∙ ap (member_offer packer body) same
offers_more packer body first (suc count) =
    let next : first + 1 + count ≡ first + suc count = omega arith in
    ap (λ (l : List PortEvent). member_offer packer body first ++ l) (offers_more packer body (first + 1) count)
    ∙ ap (λ (n : ℕ). member_offer packer body first ++ (body_offers packer body (first + 1) count ++ member_offer packer body n)) next
    ∙ sym (append_assoc (member_offer packer body first) (body_offers packer body (first + 1) count) (member_offer packer body (first + suc count)))

-- one more member
pub one_offer : (old mid new : Option (List PortEvent)) (packer : PackerRecord) (body : List ℕ) (place : ℕ) → Grows old mid (body_offers packer body 1 place)
    → Grows mid new (member_offer packer body (place + 1)) → Grows old new (body_offers packer body 1 (place + 1))
one_offer old mid new packer body place before grows =
    let next : 1 + place ≡ place + 1 = omega arith in
    let after : suc place ≡ place + 1 = omega arith in
    subst (Grows old new) (sym (offers_more packer body 1 place) ∙ ap (body_offers packer body 1) after)
    (grows_both old mid new (body_offers packer body 1 place) (member_offer packer body (1 + place)) before
    (subst (λ (n : ℕ). Grows mid new (member_offer packer body n)) (sym next) grows))

-- ---- turns

abbrev pub with_rows : PackerRecord → RowsRecord → PackerRecord
with_rows packer rows = record packer { rows = rows }

offers_same : (packer : PackerRecord) (rows : RowsRecord) (body : List ℕ) (first count : ℕ) → body_offers (with_rows packer rows) body first count ≡ body_offers packer body first count
offers_same packer rows body first zero = refl
offers_same packer rows body first (suc count) = ap (λ (l : List PortEvent). member_offer packer body first ++ l) (offers_same packer rows body (first + 1) count)

offers_of_same : (packer : PackerRecord) (rows : RowsRecord) (body : Option (List ℕ)) → offers_of (with_rows packer rows) body ≡ offers_of packer body
offers_of_same packer rows None = refl
offers_of_same packer rows (Some body) = offers_same packer rows body 1 packer.members

-- no floors have no body
pub no_body : (floors : List NamedFloor) → length floors ≡ 0 → body_of floors ≡ None
no_body [] none = refl
no_body (floor ∷ floors) none = absurd (omega (arith, none))

-- some floors have a body
pub some_body : (floors : List NamedFloor) → (length floors ≡ 0 → ⊥) → body_of floors ≡ Some (floors_body floors)
some_body [] some = absurd (some refl)
some_body (floor ∷ floors) some = refl

-- the body of some floors is told
pub told_body : (old new : Option (List PortEvent)) (packer at : PackerRecord) (rows : RowsRecord) (body : List ℕ) (floors : List NamedFloor) → at ≡ with_rows packer rows → Some body ≡ body_of floors
    → Grows old new (body_offers at body 1 at.members) → Grows old new (offers_of packer (body_of floors))
told_body old new packer at rows body floors at_is is grows =
    subst (Grows old new)
    (ap (λ (p : PackerRecord). body_offers p body 1 p.members) at_is ∙ offers_same packer rows body 1 packer.members ∙ ap (offers_of packer) is) grows

-- there are no floors to tell
pub told_none : (events : Option (List PortEvent)) (packer : PackerRecord) (floors : List NamedFloor) → None ≡ body_of floors → Grows events events (offers_of packer (body_of floors))
told_none events packer floors is = subst (Grows events events) (ap (offers_of packer) is) (grows_none events)

turns_more : (rows : RowsRecord) (turns : ℕ) → after_turns rows (suc turns) ≡ after_turn (after_turns rows turns)
turns_more rows zero = refl
turns_more rows (suc turns) = turns_more (after_turn rows) turns

-- the rows after one more turn
pub turn_after : (rows : RowsRecord) (turns : ℕ) → after_turn (after_turns rows turns) ≡ after_turns rows (turns + 1)
turn_after rows turns =
    let next : suc turns ≡ turns + 1 = omega arith in sym (turns_more rows turns) ∙ ap (after_turns rows) next

turn_offers_more : (packer : PackerRecord) (rows : RowsRecord) (turns : ℕ)
    → turn_offers packer rows (suc turns) ≡ turn_offers packer rows turns ++ offers_of packer (body_of (next_floors (after_turns rows turns)))
turn_offers_more packer rows zero = append-nil (offers_of packer (body_of (next_floors rows)))
turn_offers_more packer rows (suc turns) =
    let first = offers_of packer (body_of (next_floors rows)) in
    ap (λ (l : List PortEvent). first ++ l) (turn_offers_more packer (after_turn rows) turns)
    ∙ sym (append_assoc first (turn_offers packer (after_turn rows) turns) (offers_of packer (body_of (next_floors (after_turns (after_turn rows) turns)))))

-- the offers of one more turn
pub one_turn : (old mid new : Option (List PortEvent)) (packer at : PackerRecord) (turns : ℕ) → Grows old mid (turn_offers packer packer.rows turns) → at ≡ with_rows packer (after_turns packer.rows turns)
    → Grows mid new (offers_of at (body_of (next_floors at.rows))) → Grows old new (turn_offers packer packer.rows (turns + 1))
one_turn old mid new packer at turns before at_is grows =
    let next : suc turns ≡ turns + 1 = omega arith in
    let rows = after_turns packer.rows turns in
    let told : offers_of at (body_of (next_floors at.rows)) ≡ offers_of packer (body_of (next_floors rows)) =
    ap (λ (p : PackerRecord). offers_of p (body_of (next_floors p.rows))) at_is ∙ offers_of_same packer rows (body_of (next_floors rows)) in
    subst (Grows old new) (ap (λ (l : List PortEvent). turn_offers packer packer.rows turns ++ l) told
    ∙ sym (turn_offers_more packer packer.rows turns) ∙ ap (turn_offers packer packer.rows) next)
    (grows_both old mid new (turn_offers packer packer.rows turns) (offers_of at (body_of (next_floors at.rows))) before grows)
