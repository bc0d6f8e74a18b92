-- A store is seen, or is not.
use Rattle.std.proofs.Common.{◌≡◌, ◌≤◌, ◌<◌, ◌∙◌, ℕ, false, List, Option, Some, None, IfSome, length, slice_get, refl, sym, ap, subst, arith}
use Rattle.std.proofs.lemmas.List.{length-map}
use Rattle.std.proofs.lemmas.List.FromFn.{length-range_with_len}
use Rattle.sqlite.specs.Store.{Ghosts}
use Rattle.sqlite.specs.Held as sql
use Rattle.sqlite.specs.State.{HasCleanDisk}
use Rattle.otp_core.specs.Limits.{Limits}
use Rattle.token_file.specs.Credential.{Credential}
use Rattle.floor_sql.specs.Calls.{HandsBack}
use Rattle.floor_sql.specs.Held.{SqlHeld}
use Rattle.floor_store.specs.declared.fault.StoreFault.{StoreFault}
use Rattle.roster_sql.specs.declared.entry.Entry.{Entry}
use Rattle.seated_store.specs.Seated.{SeatedRecord}
use Rattle.named_store.specs.Entries.{entries_of, entry_under}
use Rattle.named_store.specs.Looked.{HasLooked, IsLookFault, IsUnseen}
use Rattle.named_store.specs.declared.fault.LookFault.{LookFault}
use Rattle.named_store.specs.declared.fault.LookFault.TheVariants as look
use Rattle.named_store.specs.declared.fault.NamedFault.TheVariants as named
use Rattle.seated_store.specs.Places.{own_seats}
use Rattle.seated_store.proofs.PlaceLemmas.{own_seat_within}
use Rattle.oathd_database.specs.Commands.{HasOpened, IsRefused}
use Rattle.oathd_database.specs.Users.{IsImported}
use Rattle.oathd_database.specs.declared.fault.Fault.{Fault}
use Rattle.oathd_database.specs.declared.fault.Fault.TheVariants.{Memory, Store}
use Rattle.oathd_roster.specs.Users.{IsUnnamed}
use Rattle.oathd_roster.specs.declared.cluster.NamedCluster.{NamedCluster}
use Rattle.oathd_roster.specs.declared.fault.RosterFault.{RosterFault}
use Rattle.oathd_roster.specs.declared.fault.RosterFault.TheVariants.{Command, SameName, AnotherCluster, Full}
use Rattle.named_store.proofs.LookLemmas.{seats_within}
use Rattle.oathd_seats.proofs.FaultLemmas.{refused_text}
use Rattle.oathd_seats.specs.Fault.{IsPlace, look_fault_of}
use Rattle.oathd_seats.specs.Seen.{HasPlaced, HasSeen, HasSeenNamed, IsNotLooked, IsNotPlaced, IsNotSeenNamed}
use Rattle.oathd_seats.specs.declared.fault.SeatsFault.TheVariants.{Roster}
use Rattle.oathd_seats.specs.declared.naming.Naming.{Naming}
use Rattle.oathd_seats.specs.declared.naming.Naming.TheVariants.{ByPlace, ByName}

-- the place of a token is below the maximum number of tokens
pub place_is : (names : List Entry) (fault : LookFault) → length names ≤ 10000 → IsLookFault names fault → IsPlace fault
place_is names (look.NotEnrolled place) few known = omega (arith, few, known)
place_is names (look.Named fault) few known = tt

module _ {S : Type 0} (g : Ghosts S) (finds : sql.Held S → Type 0) (cluster : NamedCluster) where
  module _ (limits : Limits) (longest node : ℕ) where
    -- the users file is not imported, or has no names
    pub unnamed_unseen : (a : Option (List ℕ)) (fault : RosterFault) → IfSome a (IsUnnamed cluster.salt limits 0 longest fault)
        → IfSome a (IsNotSeenNamed g finds cluster limits longest node (Roster fault))
    unnamed_unseen None fault h = tt
    unnamed_unseen (Some text) (Command fault) h = refused_text limits 0 longest fault text h
    unnamed_unseen (Some text) (SameName row) h = h
    unnamed_unseen (Some text) AnotherCluster h = absurd h
    unnamed_unseen (Some text) Full h = absurd h

    module _ (book : List Credential) (floors : List ℕ) where
      -- the store fails after the import
      pub store_unseen : (a : Option (List ℕ)) (fault : StoreFault) → IfSome a (IsImported limits 0 longest book floors)
          → IfSome a (IsNotSeenNamed g finds cluster limits longest node (Roster (Command (Store fault))))
      store_unseen None fault h = tt
      store_unseen (Some text) fault h = record { book = book; floors = floors; imported = h }

      module _ (conn left : sql.Held S) (found : HasCleanDisk (sql.state g conn) → finds conn) (kept : HandsBack g conn left (λ _. ⊥)) where
        not_looked : (fault : LookFault) (text : List ℕ)
            → (HasCleanDisk (sql.state g left) → IsUnseen (sql.state g conn).now node (entries_of cluster.salt book) cluster.bond fault)
            → IsImported limits 0 longest book floors text → IsNotLooked g finds cluster limits longest node fault text
        not_looked fault text cause h = record {
          import = record { book = book; floors = floors; imported = h };
          conn = conn;
          found = found;
          left = left;
          cause = cause;
          kept = kept;
        }

        unseen_text : (names : List Entry) (fault : LookFault) (text : List ℕ) → IsLookFault names fault
            → (HasCleanDisk (sql.state g left) → IsUnseen (sql.state g conn).now node (entries_of cluster.salt book) cluster.bond fault)
            → IsImported limits 0 longest book floors text → IsNotSeenNamed g finds cluster limits longest node (look_fault_of fault) text
        unseen_text names (look.NotEnrolled place) text known cause h =
            record { place = place; row_is = refl; looked = not_looked (look.NotEnrolled place) text cause h }
        unseen_text names (look.Named named.AnotherCluster) text known cause h = not_looked (look.Named named.AnotherCluster) text cause h
        unseen_text names (look.Named named.Full) text known cause h = absurd known
        unseen_text names (look.Named (named.Store fault)) text known cause h = record { book = book; floors = floors; imported = h }

        -- the tables give the reason
        pub tables_unseen : (a : Option (List ℕ)) (names : List Entry) (fault : LookFault) → names ≡ entries_of cluster.salt book
            → (HasCleanDisk (sql.state g left) → IsUnseen (sql.state g conn).now node names cluster.bond fault) → IsLookFault names fault
            → IfSome a (IsImported limits 0 longest book floors)
            → IfSome a (IsNotSeenNamed g finds cluster limits longest node (look_fault_of fault))
        tables_unseen None names fault same cause known h = tt
        tables_unseen (Some text) names fault same cause known h =
            unseen_text names fault text known (λ clean. subst (λ (l : List Entry). IsUnseen (sql.state g conn).now node l cluster.bond fault) same (cause clean)) h

  -- the store is seen
  pub has_seen : (node : ℕ) (book : List Credential) (names roster : List Entry) (conn : sql.Held S) (store : SeatedRecord (SqlHeld S))
      → names ≡ entries_of cluster.salt book → (HasCleanDisk (sql.state g conn) → finds conn)
      → HasLooked g conn node names cluster.bond roster store → HasSeenNamed g finds cluster node book roster store
  has_seen node book names roster conn store same found looked = record {
    conn = conn;
    found = found;
    looked = subst (λ (l : List Entry). HasLooked g conn node l cluster.bond roster store) same looked;
  }

  -- each token of the book has a seat
  pub seen_each : (node : ℕ) (book : List Credential) (roster : List Entry) (store : SeatedRecord (SqlHeld S))
      → HasSeenNamed g finds cluster node book roster store → length store.seats ≡ length book
  seen_each node book roster store seen = seen.looked.seats.each ∙ length-map book (entry_under cluster.salt)

  -- the seat of a token is a row
  pub seen_row : (node : ℕ) (book : List Credential) (roster : List Entry) (store : SeatedRecord (SqlHeld S)) (token row : ℕ) (inner : SqlHeld S)
      → HasSeenNamed g finds cluster node book roster store → slice_get store.seats token ≡ Some row → inner ≡ store.inner → row < length inner.mirror.rows
  seen_row node book roster store token row inner seen at same =
      let names = entries_of cluster.salt book in
      let within = (seats_within roster names store.seats (length store.inner.mirror.rows) seen.looked.rows seen.looked.seats).within token row at in
      subst (λ (s : SqlHeld S). row < length s.mirror.rows) (sym same) within

-- ---- by places

-- no store is seen by places, since the users file or the store refuses
pub unplaced : (limits : Limits) (longest : ℕ) (a : Option (List ℕ)) (fault : Fault) → IfSome a (IsRefused limits 0 longest fault)
    → IfSome a (IsNotPlaced limits longest (Roster (Command fault)))
unplaced limits longest a fault h = h

-- the allocator refuses the memory
pub unplaced_memory : (limits : Limits) (longest : ℕ) (a : Option (List ℕ)) → IfSome a (IsNotPlaced limits longest (Roster (Command Memory)))
unplaced_memory limits longest None = tt
unplaced_memory limits longest (Some text) = tt

module _ {S : Type 0} (g : Ghosts S) (finds : sql.Held S → Type 0) where
  -- the store is seen
  pub has_placed : (given : Option ℕ) (book : List Credential) (inner : SqlHeld S) (seats : List ℕ) (tokens : ℕ) (store : SeatedRecord (SqlHeld S))
      → HasOpened g finds given (length book) inner → length inner.mirror.rows ≡ length book → tokens ≡ length inner.mirror.rows
      → seats ≡ own_seats tokens → store ≡ record { inner = inner; seats = seats; is_unusable = false } → HasPlaced g finds given book store
  has_placed given book inner seats tokens store opened each number own same =
      subst (HasPlaced g finds given book) (sym same)
      (record { opened = opened; seats = own ∙ ap own_seats (number ∙ each); rows = each; works = refl })

  -- each token of the book has a seat
  pub placed_each : (given : Option ℕ) (book : List Credential) (store : SeatedRecord (SqlHeld S)) → HasPlaced g finds given book store
      → length store.seats ≡ length book
  placed_each given book store seen = ap length seen.seats ∙ length-range_with_len 0 (length book)

  -- ---- by places or names

  -- each token of the book has a seat
  pub each_seat : (naming : Naming) (book : List Credential) (store : SeatedRecord (SqlHeld S)) → HasSeen g finds naming book store
      → length store.seats ≡ length book
  each_seat (ByPlace given) book store seen = placed_each given book store seen
  each_seat (ByName node cluster) book store seen = seen_each g finds cluster.now node book seen.0 store seen.1

  -- the seat of a token is a row
  pub seat_within : (naming : Naming) (book : List Credential) (store : SeatedRecord (SqlHeld S)) (token row : ℕ) (inner : SqlHeld S)
      → HasSeen g finds naming book store → slice_get store.seats token ≡ Some row → inner ≡ store.inner → row < length inner.mirror.rows
  seat_within (ByPlace given) book store token row inner seen at same =
      let own : slice_get (own_seats (length book)) token ≡ Some row = subst (λ (l : List ℕ). slice_get l token ≡ Some row) seen.seats at in
      let low = own_seat_within (length book) token row own in
      subst (λ (s : SqlHeld S). row < length s.mirror.rows) (sym same) (subst (λ (n : ℕ). row < n) (sym seen.rows) low)
  seat_within (ByName node cluster) book store token row inner seen at same =
      seen_row g finds cluster.now node book seen.0 store token row inner seen.1 at same

  -- a store that is seen by places or by names is seen
  pub seen_placed : (naming : Naming) (given : Option ℕ) (book : List Credential) (store : SeatedRecord (SqlHeld S)) → naming ≡ ByPlace given
      → HasPlaced g finds given book store → HasSeen g finds naming book store
  seen_placed naming given book store is h = subst (λ (n : Naming). HasSeen g finds n book store) (sym is) h
