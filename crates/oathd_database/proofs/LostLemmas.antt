-- Files that are read one after the other.
use Rattle.std.proofs.Common.{◌≡◌, ℕ, ◌+◌, ◌<◌, ◌≤◌, List, [], ◌∷◌, ◌++◌, map, drop, length, suc, add-one, sym, ap, ◌∙◌, arith, subst, get_or}
use Rattle.std.specs.Prelude.{Ok, Err, Option, IfSome}
use Rattle.std.proofs.lemmas.Option.{IfSome_then}
use Rattle.std.specs.Borrow.{Bor}
use Rattle.sqlite.specs.Store.{Ghosts}
use Rattle.sqlite.specs.Held as sql
use Rattle.sqlite.specs.State.{HasCleanDisk}
use Rattle.otp_core.specs.Limits.{Limits}
use Rattle.token_file.specs.Credential.{Credential}
use Rattle.floor_store.specs.declared.fault.StoreFault.{StoreFault}
use Rattle.floor_sql.specs.Calls.{IsMade}
use Rattle.floor_sql.specs.Held.{SqlHeld}
use Rattle.floors_file.specs.declared.fault.LineFault.{LineFault}
use Rattle.floors_file.specs.declared.gathered.Asked.{Asked}
use Rattle.oathd_database.specs.Commands.{IsRefused}
use Rattle.oathd_database.specs.Users.{IsImported, IsUnread, drifted_floors}
use Rattle.oathd_database.specs.declared.fault.Fault.{Fault}
use Rattle.oathd_database.specs.declared.fault.Fault.TheVariants.{Memory, CannotWrite, NoClock, Users, Store, Socket}
use Rattle.oathd_database.specs.declared.lost.LostNode.{LostNode}
use Rattle.oathd_database.specs.declared.gather.GatherFault.{GatherFault}
use Rattle.oathd_database.specs.declared.gather.GatherFault.TheVariants.{Command, Files}
use Rattle.oathd_database.specs.declared.gather.GatherFault.TheVariants as GatherFaults
use Rattle.std.proofs.Math.ListN.{drop_of_length-le}
use Rattle.std.proofs.Math.Seq.{drop-cons}
use Rattle.std.proofs.lemmas.List.{map-append, length-map}
use Rattle.floors_file.specs.declared.floors.Floors.{Floors}
use Rattle.floors_file.specs.Fields.{◌>>=◌}
use Rattle.floors_file.specs.Floors.{FloorsRecord, floors_value}
use Rattle.floors_file.specs.Gathered.{gathered_floors}
use Rattle.floors_file.specs.Reading.{floors_of}
use Rattle.oathd_database.specs.Gather.{IsUnreadFile, at_file, files_after}
use Rattle.oathd_database.specs.Lost.{HasRemade, IsGathered, IsNotRemade, IsUngathered, asked_at, boot_at}

-- the first `number` texts are read
pub record HasFiles {T : Type 0} (text_of : T → List ℕ) (texts : List T) (files : List FloorsRecord) (number : ℕ) : Type 0 where
  pub so_far : files_after [] (map text_of texts) ≡ files_after files (map text_of (drop number texts))

pub files_next : {T : Type 0} (text_of : T → List ℕ) (texts : List T) (before after : List Floors) (number : ℕ) (text : T) (file : Floors)
    → number < length texts → text ≡ get_or texts number text → floors_of (text_of text) ≡ Ok (floors_value file) → after ≡ before ++ file ∷ []
    → HasFiles text_of texts (map floors_value before) number → HasFiles text_of texts (map floors_value after) (number + 1)
files_next text_of texts before after number text file within is reads more has =
    let left : drop number texts ≡ text ∷ drop (number + 1) texts =
    rw (add-one, drop-cons texts number text within) (ap (λ y. y ∷ drop (suc number) texts) (sym is)) in
    record {
      so_far = has.so_far ∙ ap (λ l. files_after (map floors_value before) (map text_of l)) left
          ∙ ap (λ o. at_file (length (map floors_value before) + 1) o >>= λ new. files_after (map floors_value before ++ new ∷ []) (map text_of (drop (number + 1) texts))) reads
          ∙ ap (λ l. files_after l (map text_of (drop (number + 1) texts))) (sym (ap (map floors_value) more ∙ map-append floors_value before (file ∷ [])));
    }

pub files_all : {T : Type 0} (text_of : T → List ℕ) (texts : List T) (files : List FloorsRecord) (number : ℕ) → length texts ≤ number
    → HasFiles text_of texts files number → files_after [] (map text_of texts) ≡ Ok files
files_all text_of texts files number le has = has.so_far ∙ ap (λ l. files_after files (map text_of l)) (drop_of_length-le texts le)

pub files_bad : {T : Type 0} (text_of : T → List ℕ) (texts : List T) (before : List Floors) (number : ℕ) (text : T) (line : ℕ) (kind : LineFault)
    (at : ℕ) → number < length texts → text ≡ get_or texts number text → floors_of (text_of text) ≡ Err (line, kind) → at ≡ length before + 1
    → HasFiles text_of texts (map floors_value before) number → files_after [] (map text_of texts) ≡ Err (at, line, kind)
files_bad text_of texts before number text line kind at within is reads counted has =
    let left : drop number texts ≡ text ∷ drop (number + 1) texts =
    rw (add-one, drop-cons texts number text within) (ap (λ y. y ∷ drop (suc number) texts) (sym is)) in
    has.so_far ∙ ap (λ l. files_after (map floors_value before) (map text_of l)) left
    ∙ ap (λ o. at_file (length (map floors_value before) + 1) o >>= λ new. files_after (map floors_value before ++ new ∷ []) (map text_of (drop (number + 1) texts))) reads
    ∙ ap (λ n. Err (n, line, kind)) (ap (λ n. n + 1) (length-map before floors_value) ∙ sym counted)

-- what ends the reading ends the gathering
pub unread_ungathered : (asked : Asked) (node : ℕ) (lost : Option (Bor (List ℕ))) (book : List Credential) (texts : List (List ℕ)) (fault : GatherFault)
    → IsUnreadFile texts fault → IsUngathered asked node lost book texts fault
unread_ungathered asked node lost book texts (Command fault) h = h
unread_ungathered asked node lost book texts (GatherFaults.Floors number fault) h = h
unread_ungathered asked node lost book texts (Files fault) h = absurd h

module _ (limits : Limits) (moment longest : ℕ) (lost : LostNode) (texts : List (List ℕ)) where
  refused_by : (fault : Fault) (text : List ℕ) → IsUnread limits moment longest fault text → IsRefused limits moment longest fault text
  refused_by Memory text h = tt
  refused_by CannotWrite text h = h
  refused_by NoClock text h = h
  refused_by (Users fault) text h = h
  refused_by (Store fault) text h = absurd h
  refused_by Socket text h = h

  -- the users file is not imported
  pub unread_users : (a : Option (List ℕ)) (fault : Fault) → IfSome a (IsUnread limits moment longest fault)
      → IfSome a (IsNotRemade limits moment longest lost texts (Command fault))
  unread_users a fault h = IfSome_then a h (λ text i. refused_by fault text i)

  module _ (book : List Credential) (floors : List ℕ) where
    ungathered_at : (fault : GatherFault) (text : List ℕ) → IsImported limits moment longest book floors text
        → IsUngathered (asked_at lost.since moment) lost.node lost.lost book texts fault → IsNotRemade limits moment longest lost texts fault text
    ungathered_at (Command fault) text i h = subst (λ f. IsRefused limits moment longest f text) (sym h) tt
    ungathered_at (GatherFaults.Floors number fault) text i h = record { import = record { book = book; floors = floors; imported = i }; cause = h }
    ungathered_at (Files fault) text i h = record { import = record { book = book; floors = floors; imported = i }; cause = h }

    -- the texts don't tell enough
    pub ungathered : (a : Option (List ℕ)) (fault : GatherFault) → IfSome a (IsImported limits moment longest book floors)
        → IsUngathered (asked_at lost.since moment) lost.node lost.lost book texts fault → IfSome a (IsNotRemade limits moment longest lost texts fault)
    ungathered a fault h is = IfSome_then a h (λ text i. ungathered_at fault text i is)

    -- the store refuses
    pub refused_late : (a : Option (List ℕ)) (fault : StoreFault) → IfSome a (IsImported limits moment longest book floors)
        → IfSome a (IsNotRemade limits moment longest lost texts (Command (Store fault)))
    refused_late a fault h = IfSome_then a h (λ text i. record { book = book; floors = floors; imported = i })

    -- the store is made
    pub remade : {S : Type 0} (g : Ghosts S) (finds : sql.Held S → Type 0) (a : Option (List ℕ)) (conn : sql.Held S) (store : SqlHeld S) (own gathered given : List ℕ)
        → IfSome a (IsImported limits moment longest book floors) → given ≡ gathered → own ≡ drifted_floors limits.drift book floors
        → IsGathered (asked_at lost.since moment) lost.node lost.lost book own texts gathered
        → (HasCleanDisk (sql.state g conn) → finds conn) → IsMade g conn lost.node (boot_at moment) given store → IfSome a (HasRemade g finds limits moment longest lost texts store)
    remade g finds a conn store own gathered given h same later is found made = IfSome_then a h (λ text i. record {
      import = record { book = book; floors = floors; imported = i };
      floors = gathered;
      gathered = subst (λ o. IsGathered (asked_at lost.since moment) lost.node lost.lost book o texts gathered) later is;
      conn = conn;
      found = found;
      made = subst (λ fs. IsMade g conn lost.node (boot_at moment) fs store) same made;
    })

-- there are no more gathered floors than tokens
few_gathered : (files : List FloorsRecord) (book : List Credential) (own : List ℕ) → length (gathered_floors files book own) ≤ length book
few_gathered files [] own = omega arith
few_gathered files (token ∷ book) [] = omega arith
few_gathered files (token ∷ book) (floor ∷ own) = let rest = few_gathered files book own in omega (arith, rest)

pub gathered_fit : (asked : Asked) (node : ℕ) (lost : Option (Bor (List ℕ))) (book : List Credential) (own : List ℕ) (texts : List (List ℕ)) (floors given : List ℕ)
    → given ≡ floors → length book ≤ 10000 → IsGathered asked node lost book own texts floors → length given ≤ 10000
gathered_fit asked node lost book own texts floors given same few is =
    let bound = few_gathered is.files book own in
    omega (arith, ap length (same ∙ is.greatest), bound, few)
