-- Which updates have words: their operands have the forms of operands.
use Rattle.std.specs.Prelude.{◌≡◌, ℕ, ◌≤◌, ◌==◌, not, Bool, true, List, [], ◌∷◌, length}
use Rattle.std.specs.List.{AllByRecursion, list_all}
use Rattle.cl_base.specs.Limits.{most_devices}
use Rattle.cl_base.specs.Names.{IsName}
use Rattle.cl_base.specs.declared.header.Version.{Version}
use Rattle.cl_base.specs.declared.header.Version.TheVariants.{Two}
use Rattle.rg_props.specs.Values.{are_distinct, most_of, same_node}
use Rattle.ccr_tables.specs.Refusals.{is_complete}
use Rattle.ccr_tables.specs.declared.address.Weight.{Weight}
use Rattle.ccr_tables.specs.declared.update.Update.{Update}
use Rattle.ccr_tables.specs.declared.update.Update.TheVariants.{RegisterType, UnregisterType, CreateGroup, DeleteGroup, SetGroup, ChangeGroup, SwitchGroup, CreateResource, DeleteResource, SetResource, ChangeResource, Device, NodeVote, AddNode, RemoveNode, CreateLimit, DeleteLimit, CreateAddress, DeleteAddress, SetWeights}
use Rattle.admin_words.specs.Methods.{plain_set}

abbrev pub AreNames : List (List ℕ) → Type 0
AreNames words = AllByRecursion IsName words

-- a node that there may be under the version
pub record IsNodeOf (version : Version) (n : ℕ) : Type 0 where
  pub low : 1 ≤ n
  pub high : n ≤ most_of version

-- 1 to 32 nodes, each once
pub record AreNodesOf (version : Version) (nodes : List ℕ) : Type 0 where
  pub some : 1 ≤ length nodes
  pub few : length nodes ≤ 32
  pub each : AllByRecursion (IsNodeOf version) nodes
  pub distinct : are_distinct same_node nodes ≡ true

pub record IsWeightOf (version : Version) (w : Weight) : Type 0 where
  pub weight : w.weight ≤ 1000
  pub node : IsNodeOf version w.node

-- 1 to 32 weights
pub record AreWeightsOf (version : Version) (weights : List Weight) : Type 0 where
  pub some : 1 ≤ length weights
  pub few : length weights ≤ 32
  pub each : AllByRecursion (IsWeightOf version) weights

-- a set of methods alone, and of methods that make a resource type
pub record AreMethods (set : ℕ) : Type 0 where
  pub plain : plain_set set ≡ set
  pub complete : is_complete set ≡ true

-- a property and its value, each without a space (32)
abbrev pub is_word : List ℕ → Bool
is_word word = list_all (λ b. not (b == 32)) word

pub record AreWords (p v : List ℕ) : Type 0 where
  pub property : is_word p ≡ true
  pub value : is_word v ≡ true

pub record IsDevice (d : ℕ) : Type 0 where
  pub low : 1 ≤ d
  pub high : d ≤ most_devices

pub record AreLoads (s h : ℕ) : Type 0 where
  pub soft : s ≤ 1000000
  pub hard : h ≤ 1000000

-- the version has the command
pub record IsSecond (version : Version) : Type 0 where
  pub is : version ≡ Two

abbrev pub IsSpelled : Version → Update → Type 0
IsSpelled version (RegisterType name agent methods single failover) = AreNames (name ∷ agent ∷ []) × AreMethods methods
IsSpelled version (UnregisterType name) = AreNames (name ∷ [])
IsSpelled version (CreateGroup name nodes) = AreNames (name ∷ []) × AreNodesOf version nodes
IsSpelled version (DeleteGroup name) = AreNames (name ∷ [])
IsSpelled version (SetGroup name property value) = AreNames (name ∷ []) × AreWords property value
IsSpelled version (ChangeGroup name change) = AreNames (name ∷ [])
IsSpelled version (SwitchGroup name nodes) = AreNames (name ∷ []) × AreNodesOf version nodes
IsSpelled version (CreateResource name of_group of_type) = AreNames (name ∷ of_group ∷ of_type ∷ [])
IsSpelled version (DeleteResource name) = AreNames (name ∷ [])
IsSpelled version (SetResource name property value) = AreNames (name ∷ []) × AreWords property value
IsSpelled version (ChangeResource name change) = AreNames (name ∷ [])
IsSpelled version (Device d change) = IsDevice d
IsSpelled version (NodeVote n vote) = IsNodeOf version n
IsSpelled version (AddNode n) = IsNodeOf version n × IsSecond version
IsSpelled version (RemoveNode n) = IsNodeOf version n × IsSecond version
IsSpelled version (CreateLimit n limit soft hard) = AreNames (limit ∷ []) × AreLoads soft hard × IsNodeOf version n × IsSecond version
IsSpelled version (DeleteLimit n limit) = AreNames (limit ∷ []) × IsNodeOf version n × IsSecond version
IsSpelled version (CreateAddress name of_group policy) = AreNames (name ∷ of_group ∷ []) × IsSecond version
IsSpelled version (DeleteAddress name) = AreNames (name ∷ []) × IsSecond version
IsSpelled version (SetWeights name weights) = AreNames (name ∷ []) × AreWeightsOf version weights × IsSecond version
