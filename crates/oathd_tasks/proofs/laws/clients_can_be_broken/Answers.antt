-- A key of 32 zeros is written, and an empty file has no client at its first line.
use Rattle.std.proofs.Common.{◌≡◌, ℕ, ◌+◌, ◌∷◌, List, [], ◌++◌, length, replicate, refl, ap, ◌∙◌, arith}
use Rattle.std.proofs.lemmas.List.{length-append}
use Rattle.hex.specs.Hex.{encode_lower, encode_with}
use Rattle.oathd_tasks.specs.NewCluster.{names_line, new_cluster_text}
use Rattle.oathd_tasks.proofs.laws.clients_can_be_broken.Goals as goal

pub returns-clause-new_key : goal.returns-clause-new_key
unfolding encode_with
returns-clause-new_key c = record { key = replicate 32 0; size = refl; written = refl }

-- a line has a byte
has_byte : (text : List ℕ) → [] ≡ text ++ 10 ∷ [] → ⊥
has_byte text e = let long : 0 ≡ length text + 1 = ap length e ∙ length-append text (10 ∷ []) in omega (arith, long)

pub returns-clause-new_key_is_lost : goal.returns-clause-new_key_is_lost
returns-clause-new_key_is_lost c h = has_byte (encode_lower h.key) h.written

pub returns-clause-of_clients : goal.returns-clause-of_clients
returns-clause-of_clients c = (tt, refl, tt, ([], refl))

pub returns-clause-new_cluster : goal.returns-clause-new_cluster
unfolding new_cluster_text names_line encode_with
returns-clause-new_cluster c = refl

-- the text begins with a letter
has_letter : (bytes : List ℕ) → [] ≡ new_cluster_text bytes → ⊥
unfolding new_cluster_text names_line
has_letter bytes e = absurd cc

pub returns-clause-new_cluster_is_lost : goal.returns-clause-new_cluster_is_lost
returns-clause-new_cluster_is_lost c h = has_letter h.bytes h.written
