-- How a command ends.
use Rattle.std.proofs.Common.{ℕ, List, Option, IfSome}
use Rattle.std.specs.Prelude.{Result, Ok, Err, IfErr}
use Rattle.std.proofs.lemmas.Option.{IfSome_then}
use Rattle.sqlite.specs.Held as sql
use Rattle.otp_core.specs.Limits.{Limits}
use Rattle.token_file.specs.Credential.{Credential}
use Rattle.floor_store.specs.declared.fault.StoreFault.{StoreFault}
use Rattle.oathd_database.specs.Commands.{EndsOutput, HasImport, IsRefused}
use Rattle.oathd_database.specs.Fault.{IsOutputFault}
use Rattle.oathd_database.specs.Users.{IsImported}
use Rattle.oathd_database.specs.declared.fault.Fault.{Fault}
use Rattle.oathd_database.specs.declared.fault.Fault.TheVariants.{Memory, CannotWrite, NoClock, Users, Store, Socket}

module _ (limits : Limits) (moment longest : ℕ) where
  refused_output : (fault : Fault) (text : List ℕ) → IsRefused limits moment longest fault text → EndsOutput limits moment longest fault text
  refused_output Memory text h = tt
  refused_output CannotWrite text h = absurd h
  refused_output NoClock text h = h
  refused_output (Users fault) text h = h
  refused_output (Store fault) text h = h
  refused_output Socket text h = h

  failed_output : (broken : Option StoreFault) (fault : Fault) (text : List ℕ) → HasImport limits moment longest text → IsOutputFault broken fault
      → EndsOutput limits moment longest fault text
  failed_output broken Memory text h is = tt
  failed_output broken CannotWrite text h is = h
  failed_output broken NoClock text h is = absurd is
  failed_output broken (Users fault) text h is = absurd is
  failed_output broken (Store fault) text h is = h
  failed_output broken Socket text h is = absurd is

  imported : (book : List Credential) (floors : List ℕ) (text : List ℕ) → IsImported limits moment longest book floors text → HasImport limits moment longest text
  imported book floors text h = record { book = book; floors = floors; imported = h }

  module _ (a : Option (List ℕ)) where
    -- no store is opened
    pub unopened_output : (fault : Fault) → IfSome a (IsRefused limits moment longest fault) → IfSome a (EndsOutput limits moment longest fault)
    unopened_output fault h = IfSome_then a h (λ text g. refused_output fault text g)

    module _ (book : List Credential) (floors : List ℕ) (h : IfSome a (IsImported limits moment longest book floors)) where
      -- the users file is imported
      pub has_import : IfSome a (HasImport limits moment longest)
      has_import = IfSome_then a h (λ text g. imported book floors text g)

      -- the store that was opened, or the output, fails
      pub ends_output : {T : Type 0} (broken : Option StoreFault) (result : Result T Fault) → IfErr result (IsOutputFault broken)
          → IfErr result (λ fault. IfSome a (EndsOutput limits moment longest fault))
      ends_output broken (Ok one) is = tt
      ends_output broken (Err fault) is = IfSome_then a has_import (λ text g. failed_output broken fault text g is)
