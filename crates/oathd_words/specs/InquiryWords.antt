-- The words of a command that asks running nodes, as values that clap found.
use Rattle.std.specs.Prelude.{◌≡◌, ◌⊎◌, ◌==◌, ◌&&◌, ◌||◌, ℕ, Bool, true, false, List, [], ◌∷◌, take, drop, Option, None, Some, codes}
use Rattle.std.specs.Net.Grammar.{IsSocketV4Text}
use Rattle.std.specs.Str.{bytes_eq}
use Rattle.std.specs.declared.net.socket_addr.SocketAddrV4.{SocketAddrV4}
use Rattle.clap.specs.Matches.{first_value}
use Rattle.clap.specs.declared.parser.matches.Found.{Found}
use Rattle.oathd_words.specs.Given.{GivesMember}
use Rattle.oathd_words.specs.declared.inquiry_words.Inquiry.{Inquiry}
use Rattle.oathd_words.specs.declared.inquiry_words.Inquiry.TheVariants.{Status, Gates, Floors, Audit, Roster, Unlock, Drain}

-- the address of the node is given
pub record GivesAddress (found : Found) (address : SocketAddrV4) : Type 0 where
  pub text : List ℕ
  pub given : first_value found (codes "ADDRESS") ≡ Some text
  pub says : IsSocketV4Text text address

-- the number of the node is given, or it is 1
abbrev pub GivesAskedNode : Found → ℕ → Type 0
GivesAskedNode found node =
    ((first_value found (codes "node") ≡ None) × (node ≡ 1)) ⊎ GivesMember found (codes "node") node

-- the inquiry of the command `name`
abbrev pub AsksForInquiry : List ℕ → Found → Inquiry → Type 0
AsksForInquiry name found Status = name ≡ codes "status"
AsksForInquiry name found Gates = name ≡ codes "gates"
AsksForInquiry name found Floors = name ≡ codes "floors"
AsksForInquiry name found Audit = name ≡ codes "audit"
AsksForInquiry name found Roster = name ≡ codes "roster"
AsksForInquiry name found Drain = name ≡ codes "drain"
AsksForInquiry name found (Unlock user) =
    (name ≡ codes "unlock") × (first_value found (codes "USER") ≡ Some user.now)

-- The command `name` asks the node at an address, with the operator's key file at a path.
pub record AsksNode (name : List ℕ) (found : Found) (address : SocketAddrV4) (node : ℕ) (operator : List ℕ)
    (inquiry : Inquiry) : Type 0 where
  pub key : first_value found (codes "operator") ≡ Some operator
  pub alone : first_value found (codes "cluster") ≡ None
  pub at : GivesAddress found address
  pub number : GivesAskedNode found node
  pub inquiry_is : AsksForInquiry name found inquiry

-- The command `status` asks all members of the cluster that the file at a path describes.
pub record AsksMembers (name : List ℕ) (found : Found) (cluster operator : List ℕ) : Type 0 where
  pub command : name ≡ codes "status"
  pub key : first_value found (codes "operator") ≡ Some operator
  pub file : first_value found (codes "cluster") ≡ Some cluster

-- whether nothing or an equals sign follows the name of an option
abbrev pub ends_option : List ℕ → Bool
ends_option [] = true
ends_option (byte ∷ rest) = byte == 61

-- whether a word is the option of an operator's key, with or without its value
abbrev pub is_operator_word : List ℕ → Bool
is_operator_word word = bytes_eq (take 10 word) (codes "--operator") && ends_option (drop 10 word)
