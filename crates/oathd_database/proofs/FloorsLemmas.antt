-- The floors of tokens, one after the other.
use Rattle.std.proofs.Common.{◌≡◌, ℕ, zero, suc, ◌+◌, ◌<◌, List, [], ◌∷◌, ◌++◌, map, take, length, Option, Some, sym, ap, ◌∙◌, arith}
use Rattle.std.specs.Prelude.{Result, Ok, Err, IfErr, IfOk, OnOk, slice_get, IfSome}
use Rattle.std.specs.Io.KnownBytes.{Appends}
use Rattle.std.proofs.lemmas.Option.{IfSome_then}
use Rattle.sqlite.specs.Store.{Ghosts}
use Rattle.sqlite.specs.Held as sql
use Rattle.sqlite.specs.Held.{state}
use Rattle.sqlite.specs.State.{HasCleanDisk}
use Rattle.otp_core.specs.Limits.{Limits}
use Rattle.floor_sql.specs.Held.{SqlHeld}
use Rattle.floors_file.specs.Writing.{floors_text}
use Rattle.oathd_database.specs.Commands.{EndsOutput, HasOpened}
use Rattle.oathd_database.specs.Users.{IsImported}
use Rattle.oathd_database.specs.declared.fault.Fault.{Fault}
use Rattle.oathd_database.specs.declared.fault.Fault.TheVariants.{Memory, CannotWrite, NoClock, Users, Store, Socket}
use Rattle.std.proofs.lemmas.List.{map-append}
use Rattle.std.proofs.lemmas.Option.{none-some, same_Some}
use Rattle.token_file.specs.Credential.{Credential}
use Rattle.floor_store.specs.Records.{RowRecord}
use Rattle.floors_file.specs.declared.floors.Floor.{Floor}
use Rattle.floors_file.specs.Floors.{floor_value}
use Rattle.oathd_database.specs.Floors.{HasToldFloors, IsToldFault, told_floors, told_rows}

-- one token more
told_on : (place : ℕ) (book : List Credential) (rows : List RowRecord) (token : Credential) (next : ℕ) → slice_get book place ≡ Some token
    → IfSome (slice_get rows place) (λ row. row.next ≡ next) → place < length rows
    → told_rows (take (suc place) book) (take (suc place) rows) ≡ told_rows (take place book) (take place rows) ++ record { user = token.name; next = next } ∷ []
told_on place [] rows token next is_token is_next within = absurd (none-some token is_token)
told_on place (first ∷ book) [] token next is_token is_next within = absurd (omega (arith, within))
told_on zero (first ∷ book) (top ∷ rows) token next is_token is_next within =
    ap (λ (t : Credential). record { user = t.name; next = top.next } ∷ []) (same_Some first token is_token)
    ∙ ap (λ n. record { user = token.name; next = n } ∷ []) is_next
told_on (suc place) (first ∷ book) (top ∷ rows) token next is_token is_next within =
    ap (λ l. record { user = first.name; next = top.next } ∷ l) (told_on place book rows token next is_token is_next (omega (arith, within)))

pub told_next : (place : ℕ) (book : List Credential) (rows : List RowRecord) (token : Credential) (before after : List Floor) (floor : Floor) (name : List ℕ)
    → slice_get book place ≡ Some token → place < length rows → IfSome (slice_get rows place) (λ row. row.next ≡ floor.next)
    → floor.user.now ≡ name → name ≡ token.name → after ≡ before ++ floor ∷ []
    → map floor_value before ≡ told_rows (take place book) (take place rows)
    → map floor_value after ≡ told_rows (take (place + 1) book) (take (place + 1) rows)
told_next place book rows token before after floor name is_token within is_next named of more so_far =
    let on : place + 1 ≡ suc place = omega arith in
    ap (map floor_value) more ∙ map-append floor_value before (floor ∷ []) ∙ ap (λ l. l ++ floor_value floor ∷ []) so_far
    ∙ ap (λ n. told_rows (take place book) (take place rows) ++ record { user = n; next = floor.next } ∷ []) (named ∙ of)
    ∙ sym (told_on place book rows token floor.next is_token is_next within) ∙ sym (ap (λ n. told_rows (take n book) (take n rows)) on)

-- ---- how the command ends

module _ (limits : Limits) (longest : ℕ) (a : Option (List ℕ)) (book : List Credential) (floors : List ℕ)
    (h : IfSome a (IsImported limits 0 longest book floors)) where
  told_fault : (fault : Fault) (text : List ℕ) → IsImported limits 0 longest book floors text → IsToldFault fault → EndsOutput limits 0 longest fault text
  told_fault Memory text i is = tt
  told_fault CannotWrite text i is = record { book = book; floors = floors; imported = i }
  told_fault NoClock text i is = absurd is
  told_fault (Users fault) text i is = absurd is
  told_fault (Store fault) text i is = record { book = book; floors = floors; imported = i }
  told_fault Socket text i is = absurd is

  -- the store or the output fails
  pub ends_told : {T : Type 0} (result : Result T Fault) → IfErr result IsToldFault → IfErr result (λ fault. IfSome a (EndsOutput limits 0 longest fault))
  ends_told (Ok one) is = tt
  ends_told (Err fault) is = IfSome_then a h (λ text i. told_fault fault text i is)

  -- the floors file is written
  pub has_told : {S T : Type 0} (g : Ghosts S) (finds : sql.Held S → Type 0) (node members moment : ℕ) (old new : Option (List ℕ)) (store : SqlHeld S)
      → HasOpened g finds (Some node) (length book) store → (result : Result T Fault)
      → (HasCleanDisk (state g store.conn) → OnOk result (Appends old new (floors_text (told_floors node members moment book store.mirror))))
      → IfOk result (λ _. IfSome a (HasToldFloors g finds limits longest node members moment old new))
  has_told g finds node members moment old new store opened (Ok one) written = IfSome_then a h (λ text i. record {
    import = record { book = book; floors = floors; imported = i };
    store = store;
    opened = opened;
    written = written;
  })
  has_told g finds node members moment old new store opened (Err fault) written = tt
