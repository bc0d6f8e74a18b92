-- Fields that are left.
use Rattle.std.proofs.Common.{◌≡◌, ℕ, ◌+◌, List, [], ◌∷◌, length, refl, sym, ap, ◌∙◌, arith}
use Rattle.std.specs.Prelude.{Ok, Err}
use Rattle.std.proofs.lemmas.List.Splits.{length-slice_split}
use Rattle.floors_file.specs.declared.fault.LineFault.TheVariants.{SurplusField}
use Rattle.floors_file.specs.Fields.{◌>>=◌, fields_of, last_field, last_number, next_field, number_field, with_none}

surplus : {A : Type 0} (value : A) (fields : List (List ℕ)) (count : ℕ) → length fields ≡ count + 1 → with_none value fields ≡ Err SurplusField
surplus value [] count e = absurd (omega (arith, e))
surplus value (field ∷ fields) count e = refl

-- a field follows a space
pub surplus_field : {A : Type 0} (value : A) (text : List ℕ) → with_none value (fields_of text) ≡ Err SurplusField
surplus_field value text = surplus value (fields_of text) _ (length-slice_split _ text)

-- a number followed by a field is not the last one
pub last_surplus : (fields : List (List ℕ)) (number : ℕ) (text : List ℕ) → Ok (number, fields_of text) ≡ number_field fields
    → Err SurplusField ≡ last_number fields
last_surplus fields number text e = sym (ap (λ o. o >>= λ n. with_none n.0 n.1) (sym e) ∙ surplus_field number text)

-- a field followed by a field is not the last one
pub field_surplus : (fields : List (List ℕ)) (field text : List ℕ) → Ok (field, fields_of text) ≡ next_field fields
    → Err SurplusField ≡ last_field fields
field_surplus fields field text e = sym (ap (λ o. o >>= λ f. with_none f.0 f.1) (sym e) ∙ surplus_field field text)
