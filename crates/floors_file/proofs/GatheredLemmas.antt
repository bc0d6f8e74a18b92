-- Loops over files, tokens and rows.
use Rattle.std.proofs.Common.{◌≡◌, ℕ, suc, add-one, ◌+◌, ◌-◌, ◌<◌, ◌≤◌, Bool, true, false, cond, List, [], ◌∷◌, ◌++◌, length, map, take, drop, Option, Some, None, inl, inr, refl, sym, ap, subst, ◌∙◌, arith, get_or}
use Rattle.std.specs.Prelude.{◌⊎◌, IfSome, slice_get, option_map, unwrap_or, find, ◌||◌}
use Rattle.std.specs.List.{position_from}
use Rattle.std.specs.Option.{option_copied, option_or}
use Rattle.std.specs.Borrow.{Bor}
use Rattle.std.specs.Str.{bytes_eq}
use Rattle.std.proofs.Math.ListN.{drop_of_length-le}
use Rattle.std.proofs.Math.Seq.{drop-cons}
use Rattle.std.proofs.lemmas.List.{take_more, length-take-le}
use Rattle.std.proofs.lemmas.Option.{slice_get_within, slice_get_cases, get_or_from_slice_get}
use Rattle.token_file.specs.Credential.{Credential}
use Rattle.floors_file.specs.declared.floors.Floor.{Floor}
use Rattle.floors_file.specs.declared.floors.Floors.{Floors}
use Rattle.floors_file.specs.declared.gathered.Asked.{Asked}
use Rattle.floors_file.specs.declared.gathered.FileFault.{FileFault}
use Rattle.floors_file.specs.declared.gathered.FilesFault.{FilesFault}
use Rattle.floors_file.specs.declared.gathered.FilesFault.TheVariants.{File, Missing}
use Rattle.floors_file.specs.Floors.{FloorsRecord, floor_value, floors_value}
use Rattle.floors_file.specs.Gathered.{files_fault, floor_in, gathered_floors, greater_of, greatest_of, head_fault, is_among, is_of_files, members_of, missing_from, rows_fault}

-- what is left from a place on
pub left_at : {A : Type 0} (xs : List A) (k : ℕ) (x : A) → slice_get xs k ≡ Some x → drop k xs ≡ x ∷ drop (k + 1) xs
left_at xs k x is =
    rw (add-one, drop-cons xs k x (slice_get_within xs k x is)) (ap (λ y. y ∷ drop (suc k) xs) (get_or_from_slice_get xs k x x is))

pub place_of_map : {A B : Type 0} (p : B → Bool) (f : A → B) (k : ℕ) (xs : List A)
    → position_from p k (map f xs) ≡ position_from (λ x. p (f x)) k xs
place_of_map p f k [] = refl
place_of_map p f k (x ∷ xs) = ap (cond (p (f x)) (Some k)) (place_of_map p f (k + 1) xs)

found_or : {A B : Type 0} (p : B → Bool) (f : A → B) (x : A) (xs : List A) (b : Bool) → p (f x) ≡ b
    → option_map f (find (λ x. p (f x)) xs) ≡ find p (map f xs) → option_map f (find (λ x. p (f x)) (x ∷ xs)) ≡ find p (map f (x ∷ xs))
found_or p f x xs true e same = rw e refl
found_or p f x xs false e same = rw e same

pub found_in_map : {A B : Type 0} (p : B → Bool) (f : A → B) (xs : List A) → option_map f (find (λ x. p (f x)) xs) ≡ find p (map f xs)
found_in_map p f [] = refl
found_in_map p f (x ∷ xs) = found_or p f x xs (p (f x)) refl (found_in_map p f xs)

-- the floor of the row that is found
pub floor_found : (user : List ℕ) (rows : List Floor) (row : Option (Bor Floor)) → option_copied row ≡ find (λ row. bytes_eq row.user.now user) rows
    → option_map (λ row. row.now.next) row ≡ floor_in user (map floor_value rows)
floor_found user rows None is = ap (option_map (λ row. row.next)) (ap (option_map floor_value) is ∙ found_in_map (λ row. bytes_eq row.user user) floor_value rows)
floor_found user rows (Some row) is = ap (option_map (λ row. row.next)) (ap (option_map floor_value) is ∙ found_in_map (λ row. bytes_eq row.user user) floor_value rows)

-- ---- the first that passes

-- none of the first k passes
pub record NonePasses {A : Type 0} (p : A → Bool) (xs : List A) (k : ℕ) : Type 0 where
  pub so_far : position_from p 0 xs ≡ position_from p k (drop k xs)

pub none_passes : {A : Type 0} (p : A → Bool) (xs : List A) → NonePasses p xs 0
none_passes p xs = record { so_far = refl }

pub next_fails : {A : Type 0} (p : A → Bool) (xs : List A) (k : ℕ) (x : A) → slice_get xs k ≡ Some x → p x ≡ false → NonePasses p xs k
    → NonePasses p xs (k + 1)
next_fails p xs k x is fails has = record {
  so_far = has.so_far ∙ ap (position_from p k) (left_at xs k x is) ∙ ap (λ b. cond b (Some k) (position_from p (k + 1) (drop (k + 1) xs))) fails;
}

pub next_passes : {A : Type 0} (p : A → Bool) (xs : List A) (k : ℕ) (x : A) → slice_get xs k ≡ Some x → p x ≡ true → NonePasses p xs k
    → position_from p 0 xs ≡ Some k
next_passes p xs k x is passes has =
    has.so_far ∙ ap (position_from p k) (left_at xs k x is) ∙ ap (λ b. cond b (Some k) (position_from p (k + 1) (drop (k + 1) xs))) passes

pub all_fail : {A : Type 0} (p : A → Bool) (xs : List A) (k : ℕ) → length xs ≤ k → NonePasses p xs k → position_from p 0 xs ≡ None
all_fail p xs k le has = has.so_far ∙ ap (position_from p k) (drop_of_length-le xs le)

-- ---- files one after the other

module _ (asked : Asked) (lost : List ℕ) (is_same : Bool) (book : List Credential) (files : List Floors) where
  abbrev pub faults_from : ℕ → List Floors → Option FilesFault
  faults_from place left = files_fault asked lost is_same book (map floors_value files) place (map floors_value left)

  -- what is wrong with a file before others
  abbrev pub fault_at : Floors → List Floors → Option FileFault
  fault_at file later =
      option_or (head_fault asked lost (members_of (map floors_value files)) (map floors_value later) file.head)
      (rows_fault is_same book (map floors_value files) (map floor_value file.rows.items))

  -- none of the first files has a fault
  pub record NoFault (place : ℕ) : Type 0 where
    pub so_far : faults_from 0 files ≡ faults_from place (drop place files)

  pub no_fault : NoFault 0
  no_fault = record { so_far = refl }

  fault_to : (place : ℕ) (file : Floors) → slice_get files place ≡ Some file → NoFault place → faults_from 0 files
      ≡ option_or (option_map (File (place + 1)) (fault_at file (drop (place + 1) files))) (faults_from (place + 1) (drop (place + 1) files))
  fault_to place file is has = has.so_far ∙ ap (faults_from place) (left_at files place file is)

  pub fault_next : (place : ℕ) (file : Floors) → slice_get files place ≡ Some file → fault_at file (drop (place + 1) files) ≡ None → NoFault place
      → NoFault (place + 1)
  fault_next place file is none has = record {
    so_far = fault_to place file is has
        ∙ ap (λ fault. option_or (option_map (File (place + 1)) fault) (faults_from (place + 1) (drop (place + 1) files))) none;
  }

  pub fault_found : (place : ℕ) (file : Floors) (fault : FileFault) → slice_get files place ≡ Some file
      → fault_at file (drop (place + 1) files) ≡ Some fault → NoFault place → faults_from 0 files ≡ Some (File (place + 1) fault)
  fault_found place file fault is some has =
      fault_to place file is has
      ∙ ap (λ fault. option_or (option_map (File (place + 1)) fault) (faults_from (place + 1) (drop (place + 1) files))) some

  pub fault_none : (place : ℕ) → length files ≤ place → NoFault place → faults_from 0 files ≡ None
  fault_none place le has = has.so_far ∙ ap (faults_from place) (drop_of_length-le files le)

  -- what the code found with the number of members that it read
  pub same_members : (place : ℕ) (result : Option FileFault) (members : ℕ) → members ≡ members_of (map floors_value files)
      → IfSome (slice_get files place) (λ file. result ≡ option_or
      (head_fault asked lost members (map floors_value (drop (place + 1) files)) file.head)
      (rows_fault is_same book (map floors_value files) (map floor_value file.rows.items)))
      → IfSome (slice_get files place) (λ file. result ≡ fault_at file (drop (place + 1) files))
  same_members place result members e is =
      subst (λ members. IfSome (slice_get files place) (λ file. result ≡ option_or
      (head_fault asked lost members (map floors_value (drop (place + 1) files)) file.head)
      (rows_fault is_same book (map floors_value files) (map floor_value file.rows.items)))) e is

  -- what the code found of the file at a place
  pub fault_next_at : (place : ℕ) (result : Option FileFault) → place < length files
      → IfSome (slice_get files place) (λ file. result ≡ fault_at file (drop (place + 1) files)) → result ≡ None → NoFault place → NoFault (place + 1)
  fault_next_at place result within is none has = next (slice_get_cases files place).1 where
    next : ((x : Floors) × (place < length files) × (slice_get files place ≡ Some x) × (get_or files place x ≡ x)) ⊎ ((length files ≤ place) × (slice_get files place ≡ None)) → NoFault (place + 1)
    next (inl found) =
        let fault : result ≡ fault_at found.0 (drop (place + 1) files) = subst (λ o. IfSome o (λ file. result ≡ fault_at file (drop (place + 1) files))) found.2 is in
        fault_next place found.0 found.2 (sym fault ∙ none) has
    next (inr past) = absurd (omega (arith, within, past.0))

  pub fault_found_at : (place : ℕ) (result : Option FileFault) (fault : FileFault) → place < length files
      → IfSome (slice_get files place) (λ file. result ≡ fault_at file (drop (place + 1) files)) → result ≡ Some fault → NoFault place
      → Some (File (place + 1) fault) ≡ faults_from 0 files
  fault_found_at place result fault within is some has = next (slice_get_cases files place).1 where
    next : ((x : Floors) × (place < length files) × (slice_get files place ≡ Some x) × (get_or files place x ≡ x)) ⊎ ((length files ≤ place) × (slice_get files place ≡ None)) → Some (File (place + 1) fault) ≡ faults_from 0 files
    next (inl found) =
        let at : result ≡ fault_at found.0 (drop (place + 1) files) = subst (λ o. IfSome o (λ file. result ≡ fault_at file (drop (place + 1) files))) found.2 is in
        sym (fault_found place found.0 fault found.2 (sym at ∙ some) has)
    next (inr past) = absurd (omega (arith, within, past.0))

-- ---- nodes one after the other

-- none of the first nodes is missing
pub record NoneMissing (lost : List ℕ) (files : List FloorsRecord) (members number : ℕ) : Type 0 where
  pub so_far : missing_from lost files 1 members ≡ missing_from lost files (number + 1) (members - number)

pub none_missing : (lost : List ℕ) (files : List FloorsRecord) (members : ℕ) → NoneMissing lost files members 0
none_missing lost files members = record { so_far = ap (missing_from lost files 1) (omega arith) }

node_left : (members number : ℕ) → number < members → members - number ≡ suc (members - (number + 1))
node_left members number h = omega (arith, h)

pub next_there : (lost : List ℕ) (files : List FloorsRecord) (members number : ℕ) → number < members
    → (is_among (number + 1) lost || is_of_files (number + 1) files) ≡ true → NoneMissing lost files members number
    → NoneMissing lost files members (number + 1)
next_there lost files members number within there has = record {
  so_far = has.so_far ∙ ap (missing_from lost files (number + 1)) (node_left members number within)
      ∙ ap (λ b. cond b (missing_from lost files (number + 1 + 1) (members - (number + 1))) (Some (Missing (number + 1)))) there;
}

pub next_missing : (lost : List ℕ) (files : List FloorsRecord) (members number : ℕ) → number < members
    → (is_among (number + 1) lost || is_of_files (number + 1) files) ≡ false → NoneMissing lost files members number
    → missing_from lost files 1 members ≡ Some (Missing (number + 1))
next_missing lost files members number within lacks has =
    has.so_far ∙ ap (missing_from lost files (number + 1)) (node_left members number within)
    ∙ ap (λ b. cond b (missing_from lost files (number + 1 + 1) (members - (number + 1))) (Some (Missing (number + 1)))) lacks

pub all_there : (lost : List ℕ) (files : List FloorsRecord) (members number : ℕ) → members ≤ number → NoneMissing lost files members number
    → missing_from lost files 1 members ≡ None
all_there lost files members number le has =
    let none : members - number ≡ 0 = omega (arith, le) in
    has.so_far ∙ ap (missing_from lost files (number + 1)) none

-- ---- the greatest

pub greatest_next : (user : List ℕ) (files : List Floors) (place : ℕ) (file : Floors) → slice_get files place ≡ Some file
    → greater_of (floor_in user (map floor_value file.rows.items)) (greatest_of user (map floors_value (drop (place + 1) files)))
    ≡ greatest_of user (map floors_value (drop place files))
greatest_next user files place file is = sym (ap (λ left. greatest_of user (map floors_value left)) (left_at files place file is))

gathered_more : (files : List FloorsRecord) (book : List Credential) (own : List ℕ) (token : Credential) (floor : ℕ) → length book ≡ length own
    → gathered_floors files (book ++ token ∷ []) (own ++ floor ∷ []) ≡ gathered_floors files book own ++ unwrap_or (greatest_of token.name files) floor ∷ []
gathered_more files [] [] token floor e = refl
gathered_more files [] (x ∷ own) token floor e = absurd (omega (arith, e))
gathered_more files (t ∷ book) [] token floor e = absurd (omega (arith, e))
gathered_more files (t ∷ book) (x ∷ own) token floor e =
    ap (λ floors. unwrap_or (greatest_of t.name files) x ∷ floors) (gathered_more files book own token floor (omega (arith, e)))

pub gathered_next : (files : List FloorsRecord) (book : List Credential) (own : List ℕ) (place : ℕ) (token : Credential) (floor : ℕ)
    → slice_get book place ≡ Some token → slice_get own place ≡ Some floor
    → gathered_floors files (take (place + 1) book) (take (place + 1) own)
    ≡ gathered_floors files (take place book) (take place own) ++ unwrap_or (greatest_of token.name files) floor ∷ []
gathered_next files book own place token floor is of =
    let within = slice_get_within book place token is in
    let inside = slice_get_within own place floor of in
    let tokens : take (place + 1) book ≡ take place book ++ token ∷ [] =
    take_more book place token within ∙ ap (λ t. take place book ++ t ∷ []) (get_or_from_slice_get book place token token is) in
    let floors : take (place + 1) own ≡ take place own ++ floor ∷ [] =
    take_more own place floor inside ∙ ap (λ t. take place own ++ t ∷ []) (get_or_from_slice_get own place floor floor of) in
    ap (λ l. gathered_floors files l (take (place + 1) own)) tokens ∙ ap (gathered_floors files (take place book ++ token ∷ [])) floors
    ∙ gathered_more files (take place book) (take place own) token floor
    (omega (arith, length-take-le place book (omega (arith, within)), length-take-le place own (omega (arith, inside))))

pub gathered_step : (files : List FloorsRecord) (book : List Credential) (own : List ℕ) (place : ℕ) (token : Credential) (floor : ℕ)
    (greatest : Option ℕ) (name : List ℕ) (chosen : ℕ) (before after : List ℕ)
    → slice_get book place ≡ Some token → slice_get own place ≡ Some floor → name ≡ token.name → greatest ≡ greatest_of name files
    → chosen ≡ unwrap_or greatest floor → after ≡ before ++ chosen ∷ [] → before ≡ gathered_floors files (take place book) (take place own)
    → after ≡ gathered_floors files (take (place + 1) book) (take (place + 1) own)
gathered_step files book own place token floor greatest name chosen before after is of named most chose pushed so_far =
    let choice : chosen ≡ unwrap_or (greatest_of token.name files) floor =
    chose ∙ ap (λ o. unwrap_or o floor) (most ∙ ap (λ n. greatest_of n files) named) in
    pushed ∙ ap (λ l. l ++ chosen ∷ []) so_far
    ∙ ap (λ n. gathered_floors files (take place book) (take place own) ++ n ∷ []) choice
    ∙ sym (gathered_next files book own place token floor is of)
