use Rattle.std.proofs.Common.{◌≤◌, length}
use Rattle.cmm_member.specs.Views.{kept}
use Rattle.record_disk.specs.declared.simulated.Saved.{Saved}
use Rattle.record_disk.specs.Images.{IsTextFor}
use Rattle.record_disk.proofs.Tied.{tied_saved}
use Rattle.record_disk.proofs.simulated.SimulatedDiskRecordDisk.save.Goals as goal

pub write-requires-clause-most : goal.write-requires-clause-most
write-requires-clause-most c =
    let most : length c.in-Some.text.items ≤ 65536 = rw c.in-Some.is at c.in_ok-text.ensures.most in
    rw c.as_slice.ensures.value most

pub invariant_of-self-2 : goal.invariant_of-self-2
invariant_of-self-2 c =
    let d = c.self.inside in
    let saved : Saved = record { durable = c.in_ok-durable.durable; saves = c.saturating_add-saves.result } in
    let form : IsTextFor c.in-Some.text.items saved.saves (kept c.args.durable.now) = rw c.in-Some.is at c.in_ok-text.ensures.text in
    tied_saved c.write.new.disk d.store c.in-Some-store.store c.write.new.store saved d.tried c.as_slice.result.now c.in-Some-store.is c.self.invariant.none_tried
    c.in_default-write.ensures.settled c.in_default-write.ensures.stands c.in_default-write.ensures.held
    (rw (c.as_slice.ensures.value, c.in_ok-durable.ensures) form)
