-- What the words of a command give: names, numbers of nodes, numbers that 64 bits hold, and lists of at most 32 items.
use Rattle.std.specs.Prelude.{ℕ, ◌≤◌, ◌<◌, ◌^◌, List, length}
use Rattle.std.specs.List.{AllByRecursion}
use Rattle.cl_base.specs.Limits.{most_nodes}
use Rattle.cl_base.specs.Names.{IsName}
use Rattle.ccr_tables.specs.declared.address.Weight.{Weight}
use Rattle.ccr_tables.specs.declared.update.Update.{Update}
use Rattle.ccr_tables.specs.declared.update.Update.TheVariants.{RegisterType, UnregisterType, CreateGroup, DeleteGroup, SetGroup, ChangeGroup, SwitchGroup, CreateResource, DeleteResource, SetResource, ChangeResource, Device, NodeVote, AddNode, RemoveNode, CreateLimit, DeleteLimit, CreateAddress, DeleteAddress, SetWeights}

abbrev pub IsNode : ℕ → Type 0
IsNode n = (1 ≤ n) × (n ≤ most_nodes)

abbrev pub AreFew : {X : Type 0} → (X → Type 0) → List X → Type 0
AreFew P xs = (length xs ≤ 32) × AllByRecursion P xs

abbrev pub IsWeight : Weight → Type 0
IsWeight w = IsNode w.node × (w.weight < 2 ^ 64)

-- of what the update makes or sets: what it names besides has to be there already, and the words of a value are read
abbrev pub IsGiven : Update → Type 0
IsGiven (RegisterType name agent methods single failover) = IsName name × IsName agent
IsGiven (UnregisterType name) = Unit {0}
IsGiven (CreateGroup name nodes) = IsName name × AreFew IsNode nodes
IsGiven (DeleteGroup name) = Unit {0}
IsGiven (SetGroup name property value) = Unit {0}
IsGiven (ChangeGroup name change) = Unit {0}
IsGiven (SwitchGroup name nodes) = Unit {0}
IsGiven (CreateResource name of_group of_type) = IsName name × IsName of_group × IsName of_type
IsGiven (DeleteResource name) = Unit {0}
IsGiven (SetResource name property value) = Unit {0}
IsGiven (ChangeResource name change) = Unit {0}
IsGiven (Device d change) = Unit {0}
IsGiven (NodeVote n vote) = Unit {0}
IsGiven (AddNode n) = IsNode n
IsGiven (RemoveNode n) = IsNode n
IsGiven (CreateLimit n limit soft hard) = IsNode n × IsName limit × (soft < 2 ^ 64) × (hard < 2 ^ 64)
IsGiven (DeleteLimit n limit) = Unit {0}
IsGiven (CreateAddress name of_group policy) = IsName name × IsName of_group
IsGiven (DeleteAddress name) = Unit {0}
IsGiven (SetWeights name weights) = AreFew IsWeight weights
