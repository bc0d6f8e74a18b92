-- Under which key a node tags its datagrams.
use Rattle.std.proofs.Common.{◌≡◌, List, Some, None, refl, sym, ap, ◌∙◌}
use Rattle.std.proofs.lemmas.Option.{same_Some}
use Rattle.token_file.specs.Credential.{Credential}
use Rattle.cluster_file.specs.Key.{IsCollision, shared_key_of}
use Rattle.cluster_file.specs.Shared.{IsShared, Shared as AllShared, shared_text}
use Rattle.cluster_file.proofs.SharedLemmas.{shared_same}
use Rattle.node_serving.specs.NodeKey.{own_key, shared_by, tag_key}
use Rattle.node_serving.specs.declared.node_key.NodeKey.{NodeKey}
use Rattle.node_serving.specs.declared.node_key.NodeKey.TheVariants.{Own, Shared}

-- without a cluster file
pub tags_own : (a : NodeKey) (book : List Credential) → shared_by a book ≡ None → tag_key a book ≡ own_key a
tags_own (Own key) book is = refl
tags_own (Shared key cluster) book is = absurd cc

-- with one
pub tags_shared : (a : NodeKey) (book : List Credential) (s : AllShared) → shared_by a book ≡ Some s → tag_key a book ≡ shared_key_of (own_key a) s
tags_shared (Own key) book s is = absurd cc
tags_shared (Shared key cluster) book s is = ap (shared_key_of key) (same_Some _ s is)

-- two that don't share the same
pub tags_apart : (a b : NodeKey) (book tokens : List Credential) (s t : AllShared) → shared_by a book ≡ Some s → shared_by b tokens ≡ Some t
    → IsShared s → IsShared t → own_key a ≡ own_key b → (s ≡ t → ⊥) → tag_key a book ≡ tag_key b tokens
    → IsCollision (own_key a) (shared_text s) (shared_text t)
tags_apart a b book tokens s t is js h k one apart same = record {
  different = λ e. apart (shared_same s t h k e);
  same = sym (tags_shared a book s is) ∙ same ∙ tags_shared b tokens t js ∙ ap (λ key. shared_key_of key t) (sym one);
}
