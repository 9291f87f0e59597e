-- A step of a node is its small steps.
use Rattle.std.specs.Prelude.{ℕ, ◌≡◌, ◌⊎◌, ◌++◌, List, [], None, Some}
use Rattle.cl_base.specs.declared.method.Outcome as method
use Rattle.cmm_member.specs.Records.{NodeRecord}
use Rattle.record_disk.specs.Disks as disks
use Rattle.record_disk.specs.Disks.{DiskState}
use Rattle.record_disk.specs.declared.error.Loss.{Loss}
use Rattle.node_model.specs.declared.cluster.Cluster.{Cluster}
use Rattle.node_model.specs.declared.input.Input.{Input}
use Rattle.node_model.specs.declared.node.Node.{Node}
use Rattle.node_model.specs.declared.output.Output.{Output}
use Rattle.node_model.specs.Steps.{DiskRules, Outcome, stepped}
use Rattle.refinement.specs.Doings.{Doing, Site, after_all, given_all, site}
use Rattle.refinement.specs.Courses.{Reply}
use Rattle.refinement.specs.Cuts.{doings}

-- What is supposed of a disk: a save that is done leaves the record, one that is lost leaves it or the one before, and a mounting changes no record.
pub record IsDisk {K : Type 0} (rules : DiskRules K) : Type 0 where
  pub saved : (disk : K) (r : NodeRecord) → (rules.saving disk r).lost ≡ None → rules.kept (rules.saving disk r).after ≡ r
  pub lost : (disk : K) (r : NodeRecord) (loss : Loss) → (rules.saving disk r).lost ≡ Some loss
      → (rules.kept (rules.saving disk r).after ≡ r) ⊎ (rules.kept (rules.saving disk r).after ≡ rules.kept disk)
  pub mounted : (disk : K) → rules.kept (rules.mounting disk).after ≡ rules.kept disk

-- From this site on these small steps, once more was given, come to this outcome.
pub record ComesTo {K : Type 0} (rules : DiskRules K) (c : Cluster) (me : ℕ) (x : Site) (before : List Output) (small : List Doing) (o : Outcome K) : Type 0 where
  pub left : after_all c me x small ≡ site o.after (rules.kept o.disk)
  pub given : before ++ given_all c me x small ≡ o.given

-- The step at a second of the clock, in which a method that is called ends so, is small steps, for some replies of the disk.
pub record IsCut {K : Type 0} (rules : DiskRules K) (c : Cluster) (me now : ℕ) (ends : method.Outcome) (node : Node) (disk : K) (i : Input) (before : List Output) (o : Outcome K) : Type 0 where
  pub replies : List Reply
  pub comes : ComesTo rules c me (site node (rules.kept disk)) before (doings c me now ends replies i node) o

-- the simulated disk of a node
abbrev pub disk_rules : DiskRules DiskState
disk_rules = record { kept = λ disk. disk.kept; saving = disks.saving; mounting = disks.mounting }

-- The laws.

abbrev pub DisksKeepRules : Type 0
DisksKeepRules = IsDisk disk_rules

abbrev pub StepsAreCut : Type 0
StepsAreCut = (c : Cluster) (me now : ℕ) (ends : method.Outcome) (node : Node) (disk : DiskState) (i : Input)
    → IsCut disk_rules c me now ends node disk i [] (stepped disk_rules c me now ends node disk i)
