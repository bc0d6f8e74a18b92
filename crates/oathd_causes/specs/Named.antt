-- The reasons why a store is not the one that a command needs, from its tables.
use Rattle.std.specs.Prelude.{ℕ, Bool, ◌==◌, if◌then◌else◌, Option, Some, None}
use Rattle.std.specs.Option.{option_or}
use Rattle.oathd_causes.specs.declared.named.Bound.{Bound}
use Rattle.oathd_causes.specs.declared.named.Named.{Named}
use Rattle.oathd_causes.specs.declared.named.StoreCause.{StoreCause}
use Rattle.oathd_causes.specs.declared.named.StoreCause.TheVariants.{VersionOne, Unnamed, ByNames, Version, OtherNode, OtherRows, OtherNames, OtherLife, OtherMembers}

-- the reason in a version, for a command over a store by names or over another one
abbrev pub version_cause : Bool → ℕ → Option StoreCause
version_cause is_named version =
    if version == 1 then Some VersionOne
    else if version == 2 then (if is_named then Some Unnamed else None)
    else if version == 3 then (if is_named then None else Some ByNames)
    else Some (Version version)

-- the reason in a node that is not the asked one
abbrev pub node_cause : ℕ → Option ℕ → Option StoreCause
node_cause node None = None
node_cause node (Some asked) = if node == asked then None else Some (OtherNode node asked)

-- the reason in a number of tokens that is not the number of rows
abbrev pub tokens_cause : ℕ → Option ℕ → Option StoreCause
tokens_cause tokens None = None
tokens_cause tokens (Some rows) = if tokens == rows then None else Some (OtherRows tokens rows)

-- the first of these reasons
abbrev pub named_cause : Named → Bool → Option ℕ → Option ℕ → Option StoreCause
named_cause named is_named node rows =
    option_or (version_cause is_named named.version) (option_or (node_cause named.node node)
    (tokens_cause named.tokens rows))

-- what differs first between the cluster of a store and that of a cluster file: names, life, number of members
abbrev pub bond_cause : Bound → ℕ → Option StoreCause
bond_cause bound members =
    if bound.has_names then
    (if bound.has_life then (if bound.members == members then None else Some (OtherMembers bound.members members))
    else Some OtherLife)
    else Some OtherNames
