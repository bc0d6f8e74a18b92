-- Texts that are all digits of nodes, or are not.
use Rattle.std.proofs.Common.{◌≡◌, ℕ, Bool, true, false, cond, List, [], ◌∷◌, map, Some, None, refl, ap, ◌∙◌}
use Rattle.std.specs.Prelude.{◌&&◌}
use Rattle.std.specs.Borrow.{Bor}
use Rattle.std.specs.List.{list_all}
use Rattle.oathd_words.specs.FormerWords.{is_node_text, node_in, nodes_in}

all_of_map : {A B : Type 0} (p : B → Bool) (f : A → B) (xs : List A) → list_all p (map f xs) ≡ list_all (λ x. p (f x)) xs
all_of_map p f [] = refl
all_of_map p f (x ∷ xs) = ap (λ b. p (f x) && b) (all_of_map p f xs)

map_of_map : {A B C : Type 0} (g : B → C) (f : A → B) (xs : List A) → map g (map f xs) ≡ map (λ x. g (f x)) xs
map_of_map g f [] = refl
map_of_map g f (x ∷ xs) = ap (λ l. g (f x) ∷ l) (map_of_map g f xs)

pub nodes_none : (texts : List (Bor (List ℕ))) → list_all (λ text. is_node_text text.now) texts ≡ false
    → nodes_in (map (λ text. text.now) texts) ≡ None
nodes_none texts others =
    ap (λ b. cond b (Some (map node_in (map (λ text. text.now) texts))) None) (all_of_map is_node_text (λ text. text.now) texts ∙ others)

pub nodes_all : (texts : List (Bor (List ℕ))) → list_all (λ text. is_node_text text.now) texts ≡ true
    → nodes_in (map (λ text. text.now) texts) ≡ Some (map (λ text. node_in text.now) texts)
nodes_all texts each =
    ap (λ b. cond b (Some (map node_in (map (λ text. text.now) texts))) None) (all_of_map is_node_text (λ text. text.now) texts ∙ each)
    ∙ ap Some (map_of_map node_in (λ text. text.now) texts)
