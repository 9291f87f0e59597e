-- What a node does in one step: what it gives and saves, in order, and how it ends. Each save may be lost.
use Rattle.std.specs.Prelude.{◌≡◌, ◌⊎◌, List, ◌++◌, None, Some, Result, Ok, Err}
use Rattle.std.specs.Option.{option_map}
use Rattle.cl_base.specs.declared.panic.Panic.TheVariants as panic
use Rattle.cmm_member.specs.Records.{NodeRecord}
use Rattle.record_disk.specs.Savings.{Saving}
use Rattle.record_disk.specs.declared.error.Loss.{Loss}
use Rattle.record_disk.specs.declared.error.Loss.TheVariants.{Stopped, Fault}
use Rattle.status_report.specs.declared.node_entry.DownCause.{DownCause}
use Rattle.status_report.specs.declared.node_entry.DownCause.TheVariants as down
use Rattle.node_model.specs.declared.node.UpNode.{UpNode}
use Rattle.node_model.specs.declared.output.Output.{Output}
use Rattle.node_model.specs.declared.stop.Stop.{Stop}
use Rattle.node_model.specs.declared.stop.Stop.TheVariants.{Down, NoMemory}

pub data Plan : Type 0 where
  Stays : (x : UpNode) → Plan  -- the node is up so
  Falls : (why : DownCause) → Plan  -- it goes down
  Says : (os : List Output) → (rest : Plan) → Plan  -- it gives these, then ..
  Saves : (r : NodeRecord) → (rest : Plan) → Plan  -- it saves this record, then ..

-- a plan, and what follows where the node is up after it
abbrev pub and_then : Plan → (UpNode → Plan) → Plan
and_then (Stays x) next = next x
and_then (Falls why) next = Falls why
and_then (Says os rest) next = Says os (and_then rest next)
and_then (Saves r rest) next = Saves r (and_then rest next)

-- why a node goes down whose save is lost, or that cannot read its record
abbrev pub cause_of : Loss → DownCause
cause_of Stopped = down.Stopped
cause_of Fault = down.Panic panic.Disk

-- A save that came to this is lost: the node goes down for this cause, has given no more, and leaves this disk.
pub record IsLost {K : Type 0} (s : Saving K) (given : List Output) (why : DownCause) (after : List Output) (left : K) : Type 0 where
  pub cause : option_map cause_of s.lost ≡ Some why
  pub given_so : after ≡ given
  pub left_so : left ≡ s.after

-- The plan is carried out with each save done: given before and after, the disk before and after, the node after.
abbrev pub IsDone : {K : Type 0} → (K → NodeRecord → Saving K) → Plan → List Output → K → UpNode → List Output → K → Type 0
IsDone saving (Stays x) given disk up after left = (up ≡ x) × (after ≡ given) × (left ≡ disk)
IsDone saving (Falls why) given disk up after left = ⊥
IsDone saving (Says os rest) given disk up after left = IsDone saving rest (given ++ os) disk up after left
IsDone saving (Saves r rest) given disk up after left = ((saving disk r).lost ≡ None) × IsDone saving rest given (saving disk r).after up after left

-- The node has gone down in it: by the plan, or since a save was lost.
abbrev pub HasFallen : {K : Type 0} → (K → NodeRecord → Saving K) → Plan → List Output → K → DownCause → List Output → K → Type 0
HasFallen saving (Stays x) given disk why after left = ⊥
HasFallen saving (Falls cause) given disk why after left = (why ≡ cause) × (after ≡ given) × (left ≡ disk)
HasFallen saving (Says os rest) given disk why after left = HasFallen saving rest (given ++ os) disk why after left
HasFallen saving (Saves r rest) given disk why after left =
    (((saving disk r).lost ≡ None) × HasFallen saving rest given (saving disk r).after why after left) ⊎ IsLost (saving disk r) given why after left

-- What a call that follows the plan comes to. Where memory runs out, the run ends there.
abbrev pub Follows : {K : Type 0} → (K → NodeRecord → Saving K) → Plan → List Output → K → Result UpNode Stop → List Output → K → Type 0
Follows saving plan given disk (Ok up) after left = IsDone saving plan given disk up after left
Follows saving plan given disk (Err (Down why)) after left = HasFallen saving plan given disk why after left
Follows saving plan given disk (Err NoMemory) after left = Unit {0}

-- The same of a plan that saves nothing.
abbrev pub Gives : Plan → List Output → Result UpNode Stop → List Output → Type 0
Gives (Stays x) given (Ok up) after = (up ≡ x) × (after ≡ given)
Gives (Stays x) given (Err (Down why)) after = ⊥
Gives (Falls cause) given (Ok up) after = ⊥
Gives (Falls cause) given (Err (Down why)) after = (why ≡ cause) × (after ≡ given)
Gives (Says os rest) given result after = Gives rest (given ++ os) result after
Gives (Saves r rest) given (Ok up) after = ⊥
Gives (Saves r rest) given (Err (Down why)) after = ⊥
Gives _ given (Err NoMemory) after = Unit {0}

-- A save that is not done: it is lost, or memory ran out.
abbrev pub KeepFails : {K : Type 0} → Saving K → List Output → List Output → K → Stop → Type 0
KeepFails s given after left (Down why) = IsLost s given why after left
KeepFails s given after left NoMemory = Unit {0}
