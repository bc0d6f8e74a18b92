-- The rows of a store that is made from floors files.
use Rattle.std.proofs.Common.{◌≡◌, ◌≢◌, ℕ, suc, ◌+◌, ◌<◌, Bool, true, false, cond, not, ◌||◌, List, [], ◌∷◌, ◌++◌, length, drop, get_or, Some, All, refl, sym, ap, subst, ◌∙◌, append-nil, append_assoc, arith}
use Rattle.std.specs.Ordering.{nat_cmp}
use Rattle.std.specs.Cmp.Lexicographic.{slice_cmp}
use Rattle.std.specs.Str.{bytes_eq}
use Rattle.std.specs.BTreeMap as tree
use Rattle.std.specs.BTreeMap.{BTreeMap}
use Rattle.std.proofs.Math.Seq.{drop-cons}
use Rattle.std.proofs.lemmas.List.Elements.{All-cons, All-nil}
use Rattle.std.proofs.lemmas.List.Folds.{list_any-append}
use Rattle.std.proofs.lemmas.List.Kept.{AllPairs-filter}
use Rattle.std.proofs.lemmas.Map.Text.{is_eq-slice_cmp}
use Rattle.std.proofs.lemmas.Slice.Eq.{bytes_eq-Decides}
use Rattle.roster_sql.specs.declared.entry.Entry.{Entry}
use Rattle.named_store.specs.Seating.{AreDistinct, has_name, new_entries, rows_after}
use Rattle.named_store.proofs.IndexLemmas.{distinct_more}
use Rattle.named_floors.specs.Remade.{AddsSeed, seed_in}

-- ---- the index of seeds

-- the index has the seeds of the entries from a place on
abbrev pub HasSeedsFrom : ℕ → List Entry → BTreeMap (List ℕ) (List ℕ) → Type 0
HasSeedsFrom place names index = (name : List ℕ) → tree.get (slice_cmp nat_cmp) index name ≡ seed_in name (drop place names)

-- one more entry, at the place before
pub seeds_before : {e : Entry} (names : List Entry) (place upper : ℕ) (old new : BTreeMap (List ℕ) (List ℕ)) → AddsSeed e old new → upper ≡ place + 1
    → place < length names → e ≡ get_or names place e → HasSeedsFrom upper names old → HasSeedsFrom place names new
seeds_before {e} names place upper old new adds up within is has = λ name.
    let next : suc place ≡ upper = omega (arith, up) in
    let parts : drop place names ≡ e ∷ drop upper names =
    drop-cons names place e within ∙ ap (λ (x : Entry). x ∷ drop (suc place) names) (sym is) ∙ ap (λ (n : ℕ). e ∷ drop n names) next in
    adds.updates.0 name
    ∙ ap (λ (t : Bool). cond t (Some e.seed) (tree.get (slice_cmp nat_cmp) old name)) (is_eq-slice_cmp e.name name)
    ∙ ap (cond (bytes_eq e.name name) (Some e.seed)) (has name)
    ∙ sym (ap (λ (l : List Entry). seed_in name l) parts)

-- ---- names that differ

is_new : (rows : List Entry) (x y : Entry) (t : Bool) → bytes_eq x.name y.name ≡ t → x.name ≢ y.name → has_name rows y.name ≡ false
    → has_name (rows ++ x ∷ []) y.name ≡ false
is_new rows x y true is apart none = absurd (apart ((bytes_eq-Decides x.name y.name).0 is))
is_new rows x y false is apart none =
    list_any-append (λ row. bytes_eq row.name y.name) rows (x ∷ []) ∙ ap (λ b. b || (bytes_eq x.name y.name || false)) none ∙ ap (λ b. b || false) is

-- rows whose names differ, followed by entries with other names that differ
distinct_append : (rows entries : List Entry) → AreDistinct rows → AreDistinct entries → All (λ e. has_name rows e.name ≡ false) entries
    → AreDistinct (rows ++ entries)
distinct_append rows [] distinct apart new = subst AreDistinct (sym (append-nil rows)) distinct
distinct_append rows (e ∷ entries) distinct apart new =
    subst AreDistinct (append_assoc rows (e ∷ []) entries)
    (distinct_append (rows ++ e ∷ []) entries (distinct_more rows e distinct (new 0 e (omega arith)))
    (λ i j d low high. apart (suc i) (suc j) d (omega (arith, low)) (omega (arith, high)))
    (λ k d low. is_new rows e (get_or entries k d) (bytes_eq e.name (get_or entries k d).name) refl
    (apart 0 (suc k) d (omega arith) (omega (arith, low))) (new (suc k) d (omega (arith, low)))))

fresh_here : (roster : List Entry) (e : Entry) (t : Bool) (rest : List Entry) → has_name roster e.name ≡ t
    → All (λ x. has_name roster x.name ≡ false) rest → All (λ x. has_name roster x.name ≡ false) (cond (not t) (e ∷ rest) rest)
fresh_here roster e true rest is all = all
fresh_here roster e false rest is all = All-cons (λ x. has_name roster x.name ≡ false) e rest is all

all_fresh : (roster names : List Entry) → All (λ e. has_name roster e.name ≡ false) (new_entries roster names)
all_fresh roster [] = All-nil (λ e. has_name roster e.name ≡ false)
all_fresh roster (e ∷ names) = fresh_here roster e (has_name roster e.name) (new_entries roster names) refl (all_fresh roster names)

pub rows_distinct : (roster names : List Entry) → AreDistinct roster → AreDistinct names → AreDistinct (rows_after roster names)
rows_distinct roster names distinct apart =
    distinct_append roster (new_entries roster names) distinct
    (AllPairs-filter (λ a b. a.name ≢ b.name) (λ e. not (has_name roster e.name)) names apart) (all_fresh roster names)
