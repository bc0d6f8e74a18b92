-- A store that shows some rows of the store below, by its values.
use Rattle.std.specs.Prelude.{◌≡◌, ℕ, ◌+◌, Bool, true, false, List, Option, Some, IsErr, Result, Err, if◌then◌else◌, slice_index_or, refl}
use Rattle.std.specs.Option.{option_and_then}
use Rattle.std.specs.Coded.{Coded, code_by, coded×, coded_ℕ, coded_bool, coded_list}
use Rattle.floor_store.specs.Content.{Content, with_row}
use Rattle.floor_store.specs.Held.{Held, Puts}
use Rattle.floor_store.specs.Records.{RowRecord, PassRecord}
use Rattle.floor_store.specs.declared.fault.StoreFault.{StoreFault}
use Rattle.floor_store.specs.declared.fault.StoreFault.TheVariants.{Unusable}
use Rattle.seated_store.specs.Seats.{IsSeen, pass_below, seated_content}

pub record SeatedRecord (S : Type 0) : Type 0 where
  pub inner : S
  -- for each token its row in the store below
  pub seats : List ℕ
  -- whether a pass of a token without a seat was put
  pub is_unusable : Bool

abbrev pub seated_code : {S : Type 0} → Coded S → Coded (SeatedRecord S)
seated_code {S} inner =
    code_by (S × (List ℕ × Bool)) (coded× inner (coded× (coded_list coded_ℕ) coded_bool))
    (λ s. (s.inner, (s.seats, s.is_unusable)))
    (λ p. record { inner = p.0; seats = p.1.0; is_unusable = p.1.1 }) (λ _. refl)

-- The contract's view of a seated store: the store below, seen through the seats. A pass that can't be kept is a fault
-- of its own, and one more failure.
abbrev pub seated_held : {S : Type 0} → (S → Held) → SeatedRecord S → Held
seated_held inner s = record (inner s.inner) {
  content = seated_content s.seats (inner s.inner).content;
  fault = if s.is_unusable then Some Unusable else (inner s.inner).fault;
  failures = (if s.is_unusable then 1 else 0) + (inner s.inner).failures;
  leaves = λ left. (c : Content) × (inner s.inner).leaves c × (left ≡ seated_content s.seats c);
}

-- A call of the store below. If the store has a fault of its own, that fault is returned and nothing changes.
pub record IsPassedOn {S A : Type 0} (call : S → S → Result A StoreFault → Type 0) (old new : SeatedRecord S)
    (result : Result A StoreFault) : Type 0 where
  pub called : old.is_unusable ≡ false → call old.inner new.inner result
  pub refused : old.is_unusable ≡ true → (result ≡ Err Unusable) × (new ≡ old)
  pub seats : new.seats ≡ old.seats
  pub fault : new.is_unusable ≡ old.is_unusable

-- A put of the row and the pass by the token's seat. A pass of a token without a seat changes nothing below.
pub record PutsBelow {S A : Type 0} (held : S → Held) (old new : SeatedRecord S) (token : ℕ) (row : RowRecord)
    (pass : Option PassRecord) (result : Result A StoreFault) : Type 0 where
  pub seen : IsSeen old.seats pass → IsPassedOn (λ was now. Puts held was now
      (with_row (held was).content (slice_index_or old.seats token 0) row
      (option_and_then (pass_below old.seats) pass))) old new result
  pub unseen : (IsSeen old.seats pass → ⊥) → IsErr result × (new.inner ≡ old.inner) × (new.seats ≡ old.seats)
