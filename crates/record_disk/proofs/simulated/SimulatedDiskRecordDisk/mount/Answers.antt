use Rattle.std.proofs.Common.{sym, ◌∙◌, ap}
use Rattle.record_store.specs.Images.{selected, text_of}
use Rattle.cmm_member.specs.Nodes.{NodeState, booted}
use Rattle.record_disk.specs.Disks.{DiskState, remounted, mounting}
use Rattle.record_disk.specs.Savings.{Saving}
use Rattle.record_disk.proofs.Outcomes.{in_four_done}
use Rattle.record_disk.specs.Inside.{seen, standing}
use Rattle.record_disk.proofs.Tied.{Up, first_is, record_text, up_from_items, tied_unmounted, tied_mounted, seen_mounted}
use Rattle.record_disk.proofs.simulated.SimulatedDiskRecordDisk.mount.Goals as goal

pub invariant_of-self : goal.invariant_of-self
invariant_of-self c =
    let d = c.self.inside in
    tied_unmounted d.disk c.read.new.disk d.store d.last d.tried c.self.invariant c.in_err-store.ensures.settled c.in_err-store.ensures.reads

pub boot-requires-clause-first : goal.boot-requires-clause-first
boot-requires-clause-first c = λ e.
    let d = c.self.inside in first_is (selected d.disk.reads) (text_of d.disk.reads) d.last d.tried c.self.invariant.text (sym c.in_ok-store.ensures.text ∙ e)

pub boot-requires-clause-table : goal.boot-requires-clause-table
boot-requires-clause-table c =
    let d = c.self.inside in record_text (selected d.disk.reads) (text_of d.disk.reads) c.in_ok-store.text.items d.last d.tried c.in_ok-store.ensures.text c.self.invariant.text

pub invariant_of-self-2 : goal.invariant_of-self-2
invariant_of-self-2 c =
    let d = c.self.inside in
    let up : Up c.in_ok-node.node c.in_ok-node.saves c.args.down (standing (selected d.disk.reads) d.last d.tried) =
    up_from_items (selected d.disk.reads) (text_of d.disk.reads) c.in_ok-store.text.items d.last d.tried c.args.down c.in_ok-node.node c.in_ok-node.saves c.in_ok-store.ensures.text c.self.invariant.text c.in_ok-node.ensures.first c.in_ok-node.ensures.table in
    tied_mounted d.disk c.read.new.disk d.store d.last d.tried c.in_ok-store.store (record { durable = c.in_ok-durable.durable; saves = c.in_ok-node.saves }) c.self.invariant c.in_ok-store.ensures.settled c.in_ok-store.ensures.reads
    c.in_ok-store.ensures.stands up.saves_are (c.in_ok-durable.ensures ∙ c.record.ensures.value ∙ ap (λ (n : NodeState). n.saved) up.is)

pub returns-clause-up : goal.returns-clause-up
returns-clause-up c =
    let d = c.self.inside in
    let up : Up c.in_ok-node.node c.in_ok-node.saves c.args.down (standing (selected d.disk.reads) d.last d.tried) =
    up_from_items (selected d.disk.reads) (text_of d.disk.reads) c.in_ok-store.text.items d.last d.tried c.args.down c.in_ok-node.node c.in_ok-node.saves c.in_ok-store.ensures.text c.self.invariant.text c.in_ok-node.ensures.first c.in_ok-node.ensures.table in
    up.is ∙ ap (λ (v : DiskState). booted c.args.down v.kept) c.self.view_is

pub returns-clause-after : goal.returns-clause-after
returns-clause-after c =
    let d = c.self.inside in
    let up : Up c.in_ok-node.node c.in_ok-node.saves c.args.down (standing (selected d.disk.reads) d.last d.tried) =
    up_from_items (selected d.disk.reads) (text_of d.disk.reads) c.in_ok-store.text.items d.last d.tried c.args.down c.in_ok-node.node c.in_ok-node.saves c.in_ok-store.ensures.text c.self.invariant.text c.in_ok-node.ensures.first c.in_ok-node.ensures.table in
    let now = seen d.disk d.store (standing (selected d.disk.reads) d.last d.tried) in
    seen_mounted d.disk c.read.new.disk d.store c.in_ok-store.store (standing (selected d.disk.reads) d.last d.tried) (record { durable = c.in_ok-durable.durable; saves = c.in_ok-node.saves }) c.in_ok-store.ensures.reads
    c.in_ok-store.ensures.stop up.saves_are (c.in_ok-durable.ensures ∙ c.record.ensures.value ∙ ap (λ (n : NodeState). n.saved) up.is)
    ∙ sym (ap (λ (s : Saving DiskState). s.after) (in_four_done now.stop (remounted now) now c.in_ok-store.ensures.when))
    ∙ ap (λ (v : DiskState). (mounting v).after) c.self.view_is
