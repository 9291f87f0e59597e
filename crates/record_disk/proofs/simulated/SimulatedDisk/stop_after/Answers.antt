use Rattle.std.proofs.Common.{sym, ◌∙◌, ap, subst}
use Rattle.local_disk.specs.Memory.{State}
use Rattle.record_store.specs.Images.{selected}
use Rattle.record_disk.specs.Disks.{DiskState, armed}
use Rattle.record_disk.specs.Inside.{IsTied, seen, standing}
use Rattle.record_disk.proofs.Tied.{tied_armed}
use Rattle.record_disk.proofs.simulated.SimulatedDisk.stop_after.Goals as goal

pub invariant_of-self : goal.invariant_of-self
invariant_of-self c =
    let d = c.self.inside in
    subst (λ (disk : State). IsTied disk d.store d.last d.tried) (sym c.stop_after.ensures) (tied_armed d.disk d.store d.last d.tried c.args.calls c.args.choice c.self.invariant)

pub returns : goal.returns
returns c =
    let d = c.self.inside in
    record {
      after =
          ap (λ (disk : State). seen disk d.store (standing (selected disk.reads) d.last d.tried)) c.stop_after.ensures
          ∙ ap (λ (now : DiskState). armed now c.args.calls c.args.choice) c.self.view_is;
    }
