-- A users file is not imported, or two of its tokens have one name.
use Rattle.std.proofs.Common.{◌≡◌, ◌<◌, ◌∙◌, ap, arith, ℕ, List, [], ◌∷◌, Option, Some, None, IfSome, length, map, refl, sym, subst}
use Rattle.std.specs.Prelude.{Result, Ok, Err, IfErr, IfOk, IsErrAnd}
use Rattle.std.proofs.lemmas.List.{get_or-map, length-map}
use Rattle.otp_core.specs.Limits.{Limits}
use Rattle.token_file.specs.Credential.{Credential}
use Rattle.roster_sql.specs.declared.entry.Entry.{Entry}
use Rattle.named_store.specs.Entries.{entries_of}
use Rattle.named_store.specs.Seating.{AreDistinct}
use Rattle.token_names.specs.Names as names
use Rattle.token_names.specs.Names.{IsFaultOf, name_of, names_of}
use Rattle.token_names.specs.declared.fault.NamesFault.{NamesFault}
use Rattle.token_names.specs.declared.fault.NamesFault.TheVariants as reason
use Rattle.oathd_database.specs.Users.{IsImported, IsUnread}
use Rattle.oathd_database.specs.declared.fault.Fault.{Fault}
use Rattle.oathd_roster.specs.Fault.{names_fault_of}
use Rattle.oathd_roster.specs.Users.{IsUnnamed}
use Rattle.oathd_roster.specs.declared.fault.RosterFault.TheVariants.{Command}

-- a fault is passed on
pub err_is : {T E : Type 0} (r : Result T E) (x : E) (Q : E → Type 0) → IsErrAnd r (λ y. y ≡ x) → Q x → IfErr r Q
err_is (Ok one) x Q h q = absurd h
err_is (Err y) x Q h q = subst Q (sym h) q

-- a call that failed has no value
pub no_value : {T E : Type 0} (r : Result T E) (Q : E → Type 0) (P : T → Type 0) → IsErrAnd r Q → IfOk r P
no_value (Ok one) Q P h = absurd h
no_value (Err y) Q P h = tt

module _ (salt : List ℕ) (limits : Limits) (moment longest : ℕ) where
  -- the users file is not imported
  pub unnamed : (a : Option (List ℕ)) (fault : Fault) → IfSome a (IsUnread limits moment longest fault)
      → IfSome a (IsUnnamed salt limits moment longest (Command fault))
  unnamed None fault h = tt
  unnamed (Some text) fault h = h

  -- the book has no names
  pub no_names : (a : Option (List ℕ)) (fault : NamesFault) (book : List Credential) (floors : List ℕ)
      → IfSome a (IsImported limits moment longest book floors) → IsFaultOf (names_of salt book) fault
      → IfSome a (IsUnnamed salt limits moment longest (names_fault_of fault))
  no_names None fault book floors h is = tt
  no_names (Some text) reason.Memory book floors h is = tt
  no_names (Some text) (reason.SameName row) book floors h is =
      record { import = record { book = book; floors = floors; imported = h }; repeat = is }

-- ---- the names of entries

abbrev pub name_in : Entry → List ℕ
name_in entry = entry.name

-- the names of the entries are those of the book
pub names_are : (salt : List ℕ) (book : List Credential) → map name_in (entries_of salt book) ≡ names_of salt book
names_are salt [] = refl
names_are salt (token ∷ book) = ap (λ (l : List (List ℕ)). name_of salt token ∷ l) (names_are salt book)

-- the names of different entries are different
pub distinct_names : (entries : List Entry) → AreDistinct entries → names.AreDistinct (map name_in entries)
distinct_names entries apart i j d before within same =
    let e : Entry = record { name = d; seed = [] } in
    let last : j < length entries = omega (arith, within, length-map entries name_in) in
    apart i j e before last
    (sym (get_or-map name_in entries i e d (omega (arith, before, last))) ∙ same ∙ get_or-map name_in entries j e d last)
