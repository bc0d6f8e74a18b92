-- A users file is read, or is not.
use Rattle.std.proofs.Common.{◌≡◌, ◌∙◌, arith, ℕ, List, Option, Some, None, IfSome, IfOk, IfErr, refl, sym, subst}
use Rattle.std.specs.Prelude.{Result, Ok, Err, IsTrue}
use Rattle.sqlite.specs.Store.{Ghosts}
use Rattle.sqlite.specs.Held as sql
use Rattle.sqlite.specs.State.{HasCleanDisk}
use Rattle.sqlite.specs.Tree.{Trees}
use Rattle.sqlite.proofs.StateLemmas.{survives_then}
use Rattle.otp_core.specs.Limits.{Limits}
use Rattle.floor_store.specs.declared.fault.StoreFault.{StoreFault}
use Rattle.floor_sql.specs.Calls.{IsOpened, KeepsTables}
use Rattle.floor_sql.specs.Held.{HasTables, SqlHeld}
use Rattle.token_file.specs.Credential.{Credential}
use Rattle.token_file.specs.Source.{OfText}
use Rattle.token_file.specs.UsersFile.{IsCutOff, book_of, instant_of, is_of_text}
use Rattle.token_file.specs.declared.fault.FileFault.{FileFault}
use Rattle.token_file.specs.declared.fault.LineFault.TheVariants.{Read}
use Rattle.oathd_database.specs.Commands.{HasOpened, IsRefused}
use Rattle.oathd_database.specs.Fault.{IsStoreFault}
use Rattle.oathd_database.specs.Users.{IsImported, IsUnread}
use Rattle.oathd_database.specs.declared.fault.Fault.{Fault}
use Rattle.oathd_database.specs.declared.fault.Fault.TheVariants.{Memory, CannotWrite, NoClock, Users, Store, Socket}

-- what a source tells of its text is so of the reader's
pub of_reader : (a left : Option (List ℕ)) (P : List ℕ → Type 0) → left ≡ a → OfText left P → IfSome a P
of_reader None left P is h = tt
of_reader (Some text) left P is h = subst (λ (o : Option (List ℕ)). OfText o P) is h

module _ (limits : Limits) (moment longest : ℕ) where
  pub unread : (a left : Option (List ℕ)) (fault : FileFault) → left ≡ a
      → (IsTrue (is_of_text fault.kind) → OfText left (λ text. book_of longest (instant_of limits moment) text ≡ Err (fault.line, fault.kind)))
      → (fault.kind ≡ Read → OfText left (λ text. IsCutOff Read longest (instant_of limits moment) text fault.line))
      → IfSome a (IsUnread limits moment longest (Users fault))
  unread None left fault is h k = tt
  unread (Some text) left fault is h k = (
    (λ t. subst (λ (o : Option (List ℕ)). OfText o (λ text. book_of longest (instant_of limits moment) text ≡ Err (fault.line, fault.kind))) is (h t)),
    (λ t. subst (λ (o : Option (List ℕ)). OfText o (λ text. IsCutOff Read longest (instant_of limits moment) text fault.line)) is (k t)),
  )

  -- no memory
  pub no_memory : (a : Option (List ℕ)) → IfSome a (IsUnread limits moment longest Memory)
  no_memory None = tt
  no_memory (Some text) = tt

  -- ---- the commands

  refused_text : (fault : Fault) (text : List ℕ) → IsUnread limits moment longest fault text → IsRefused limits moment longest fault text
  refused_text Memory text h = tt
  refused_text CannotWrite text h = h
  refused_text NoClock text h = h
  refused_text (Users fault) text h = h
  refused_text (Store fault) text h = absurd h
  refused_text Socket text h = h

  -- the users file is not imported
  pub refused : (a : Option (List ℕ)) (fault : Fault) → IfSome a (IsUnread limits moment longest fault) → IfSome a (IsRefused limits moment longest fault)
  refused None fault h = tt
  refused (Some text) fault h = refused_text fault text h

  -- the store refuses
  pub refused_by_store : (a : Option (List ℕ)) (fault : StoreFault) (book : List Credential) (floors : List ℕ)
      → IfSome a (IsImported limits moment longest book floors) → IfSome a (IsRefused limits moment longest (Store fault))
  refused_by_store None fault book floors h = tt
  refused_by_store (Some text) fault book floors h = record { book = book; floors = floors; imported = h }

  refused_at : (fault : Fault) (text : List ℕ) (book : List Credential) (floors : List ℕ) → IsImported limits moment longest book floors text
      → IsStoreFault fault → IsRefused limits moment longest fault text
  refused_at Memory text book floors h is = absurd is
  refused_at CannotWrite text book floors h is = absurd is
  refused_at NoClock text book floors h is = absurd is
  refused_at (Users fault) text book floors h is = absurd is
  refused_at (Store fault) text book floors h is = record { book = book; floors = floors; imported = h }
  refused_at Socket text book floors h is = absurd is

  -- the same, for any fault of a store
  pub refused_so : (a : Option (List ℕ)) (fault : Fault) (book : List Credential) (floors : List ℕ)
      → IfSome a (IsImported limits moment longest book floors) → IsStoreFault fault → IfSome a (IsRefused limits moment longest fault)
  refused_so None fault book floors h is = tt
  refused_so (Some text) fault book floors h is = refused_at fault text book floors h is

  -- what the store refuses with is a fault of a store
  pub refused_late : {T : Type 0} (a : Option (List ℕ)) (result : Result T Fault) (book : List Credential) (floors : List ℕ)
      → IfSome a (IsImported limits moment longest book floors) → IfErr result IsStoreFault
      → IfErr result (λ fault. IfSome a (IsRefused limits moment longest fault))
  refused_late a (Ok one) book floors h is = tt
  refused_late a (Err fault) book floors h is = refused_so a fault book floors h is

module _ {S : Type 0} (g : Ghosts S) (node tokens : ℕ) where
  -- the store of the node that is given is opened
  pub opened_given : (conn : sql.Held S) (result : Result (SqlHeld S) Fault) (given : Option ℕ) → given ≡ Some node
      → IfOk result (IsOpened g conn node tokens) → IfOk result (HasOpened g (λ first. first ≡ conn) given tokens)
  opened_given conn (Err fault) given e is = tt
  opened_given conn (Ok store) given e is = record {
    conn = conn;
    found = λ clean. refl;
    node = node;
    is_given = subst (λ (o : Option ℕ). IfSome o (λ n. node ≡ n)) (sym e) refl;
    opened = is;
  }

  -- a store that is opened after reads is opened over the connection before them
  opened_before : (first conn : sql.Held S) (store : SqlHeld S) → KeepsTables g first conn → IsOpened g conn node tokens store
      → IsOpened g first node tokens store
  opened_before first conn store kept is =
      let none = λ (clean : HasCleanDisk (sql.state g store.conn)) (db : Trees) (never : ⊥). never in
      record {
        content = λ clean. subst (λ db. HasTables db node tokens store.mirror store.passes)
            (kept.read (omega (arith, is.kept.survives.clean))).now (is.content clean);
        sound = is.sound;
        kept = record {
          idle = is.kept.idle;
          read = λ clean.
              let one = kept.read (omega (arith, is.kept.survives.clean)) in
              let two = is.kept.read clean in
              record { is_open = two.is_open ∙ one.is_open; now = two.now ∙ one.now; committed = two.committed ∙ one.committed };
          survives = survives_then (sql.state g first) (sql.state g conn) (sql.state g store.conn) _ _ (λ _. ⊥) none none kept.survives is.kept.survives;
        };
      }

  -- the store of any node is opened, after its node was read
  pub opened_any : (first conn : sql.Held S) (result : Result (SqlHeld S) Fault) (given : Option ℕ) → given ≡ None
      → KeepsTables g first conn → IfOk result (IsOpened g conn node tokens)
      → IfOk result (HasOpened g (λ found. found ≡ first) given tokens)
  opened_any first conn (Err fault) given e kept is = tt
  opened_any first conn (Ok store) given e kept is = record {
    conn = first;
    found = λ clean. refl;
    node = node;
    is_given = subst (λ (o : Option ℕ). IfSome o (λ n. node ≡ n)) (sym e) tt;
    opened = opened_before first conn store kept is;
  }

-- the connection is found that the database finds
pub opened_found : {S : Type 0} (g : Ghosts S) (tokens : ℕ) (finds : sql.Held S → Type 0) (conn : sql.Held S) (given : Option ℕ) (store : SqlHeld S)
    → (HasCleanDisk (sql.state g conn) → finds conn) → HasOpened g (λ first. first ≡ conn) given tokens store → HasOpened g finds given tokens store
opened_found g tokens finds conn given store found is = record {
  conn = is.conn;
  found = λ clean.
      let same = is.found clean in
      subst finds (sym same) (found (subst (λ c. HasCleanDisk (sql.state g c)) same clean));
  node = is.node;
  is_given = is.is_given;
  opened = is.opened;
}
