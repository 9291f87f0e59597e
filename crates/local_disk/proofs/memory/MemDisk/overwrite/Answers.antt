use Rattle.std.proofs.Common.{◌≡◌, ℕ, ◌+◌, ◌≤◌, List, Bool, true, length, replicate, sym, ◌∙◌, ap, subst, arith}
use Rattle.std.proofs.lemmas.List.{with_items_is}
use Rattle.std.specs.Vec.{with_items}
use Rattle.local_disk.specs.LocalDisk.{overwritten, SameOutside, FollowsBy, disk_bytes_is}
use Rattle.local_disk.specs.Memory.{State, IsImage, IsWithin, choice_of, left_by}
use Rattle.local_disk.proofs.Places.{length_overwritten, outside_overwritten}
use Rattle.local_disk.proofs.Left.{left_after}
use Rattle.local_disk.proofs.Zeros.{left_image}
use Rattle.local_disk.proofs.Spans.{wider, length_marked, write_images, written_image}
use Rattle.local_disk.proofs.memory.MemDisk.overwrite.Goals as goal

pub invariant_of-self : goal.invariant_of-self
invariant_of-self c =
    let n = length c.args.bytes.now in
    let old = c.self.inside in
    let fits : c.args.place + n ≤ length old.reads.items = omega (arith, disk_bytes_is, c.self.invariant.reads) in
    let marks_fit : c.args.place + n ≤ length old.unsynced.items = omega (arith, disk_bytes_is, c.self.invariant.unsynced) in
    let size : length old.unsynced.items ≡ length old.reads.items = c.self.invariant.unsynced ∙ sym c.self.invariant.reads in
    let reads_is : (with_items old.reads c.put.new.disk).items ≡ overwritten old.reads.items c.args.place c.args.bytes.now =
    with_items_is old.reads c.put.new.disk (omega arith) ∙ c.put.ensures ∙ ap (λ (l : List ℕ). overwritten l c.args.place c.args.bytes.now) c.deref_mut.ensures.value in
    let marks_is : (with_items old.unsynced c.mark.new.marks).items ≡ overwritten old.unsynced.items c.args.place (replicate n true) =
    with_items_is old.unsynced c.mark.new.marks (omega arith) ∙ c.mark.ensures ∙ ap (λ (l : List Bool). overwritten l c.args.place (replicate n true)) c.deref_mut-2.ensures.value in
    record {
      synced = c.self.invariant.synced;
      reads = ap length reads_is ∙ length_overwritten old.reads.items c.args.place c.args.bytes.now fits ∙ c.self.invariant.reads;
      unsynced = ap length marks_is ∙ length_marked old.unsynced.items c.args.place n marks_fit ∙ c.self.invariant.unsynced;
      span = subst (λ (m : List Bool). IsWithin m c.widened-low.result.0 c.widened-low.result.1) (sym marks_is)
          (wider old.unsynced.items c.args.place n old.low old.high c.widened-low.result.0 c.widened-low.result.1 c.self.invariant.span marks_fit
          c.widened-low.ensures.ordered (c.widened-low.ensures.within (length old.unsynced.items) c.self.invariant.span.fits marks_fit) c.widened-low.ensures.first c.widened-low.ensures.second);
      same = subst (λ (m : List Bool). IsImage m (with_items old.reads c.put.new.disk).items old.synced.items) (sym marks_is)
          (subst (λ (r : List ℕ). IsImage (overwritten old.unsynced.items c.args.place (replicate n true)) r old.synced.items) (sym reads_is)
          (written_image old.unsynced.items old.reads.items c.args.place c.args.bytes.now size fits old.synced.items c.self.invariant.same));
    }

pub returns-clause-outside : goal.returns-clause-outside
returns-clause-outside c =
    let old = c.self.inside in
    let fits : c.args.place + length c.args.bytes.now ≤ length old.reads.items = omega (arith, disk_bytes_is, c.self.invariant.reads) in
    let reads_is : (with_items old.reads c.put.new.disk).items ≡ overwritten old.reads.items c.args.place c.args.bytes.now =
    with_items_is old.reads c.put.new.disk (omega arith) ∙ c.put.ensures ∙ ap (λ (l : List ℕ). overwritten l c.args.place c.args.bytes.now) c.deref_mut.ensures.value in
    rw (← c.self.view_is) (subst (λ (r : List ℕ). SameOutside c.args.place (length c.args.bytes.now) old.reads.items r) (sym reads_is) (outside_overwritten old.reads.items c.args.place c.args.bytes.now fits))

pub returns-clause-images : goal.returns-clause-images
returns-clause-images c =
    let n = length c.args.bytes.now in
    let old = c.self.inside in
    let fits : c.args.place + n ≤ length old.reads.items = omega (arith, disk_bytes_is, c.self.invariant.reads) in
    let size : length old.unsynced.items ≡ length old.reads.items = c.self.invariant.unsynced ∙ sym c.self.invariant.reads in
    let reads_is : (with_items old.reads c.put.new.disk).items ≡ overwritten old.reads.items c.args.place c.args.bytes.now =
    with_items_is old.reads c.put.new.disk (omega arith) ∙ c.put.ensures ∙ ap (λ (l : List ℕ). overwritten l c.args.place c.args.bytes.now) c.deref_mut.ensures.value in
    let marks_is : (with_items old.unsynced c.mark.new.marks).items ≡ overwritten old.unsynced.items c.args.place (replicate n true) =
    with_items_is old.unsynced c.mark.new.marks (omega arith) ∙ c.mark.ensures ∙ ap (λ (l : List Bool). overwritten l c.args.place (replicate n true)) c.deref_mut-2.ensures.value in
    rw (← c.self.view_is)
    (subst (λ (m : List Bool). FollowsBy (SameOutside c.args.place n) (IsImage old.unsynced.items old.reads.items) (IsImage m (with_items old.reads c.put.new.disk).items)) (sym marks_is)
    (subst (λ (r : List ℕ). FollowsBy (SameOutside c.args.place n) (IsImage old.unsynced.items old.reads.items) (IsImage (overwritten old.unsynced.items c.args.place (replicate n true)) r)) (sym reads_is)
    (write_images old.unsynced.items old.reads.items c.args.place c.args.bytes.now size fits)))

pub returns-clause-one : goal.returns-clause-one
returns-clause-one c =
    let old = c.self.inside in
    let size : length old.unsynced.items ≡ length old.reads.items = c.self.invariant.unsynced ∙ sym c.self.invariant.reads in
    rw (← c.self.view_is) (left_image (choice_of old.stop) old.unsynced.items old.synced.items old.reads.items size c.self.invariant.same)

pub returns-clause-left : goal.returns-clause-left
returns-clause-left c =
    let old = c.self.inside in
    let d : State = record { synced = old.synced.items; reads = old.reads.items; unsynced = old.unsynced.items; stop = old.stop; faults = old.faults } in
    let fits : c.args.place + length c.args.bytes.now ≤ length old.reads.items = omega (arith, disk_bytes_is, c.self.invariant.reads) in
    let size : length old.unsynced.items ≡ length old.reads.items = c.self.invariant.unsynced ∙ sym c.self.invariant.reads in
    let n = length c.args.bytes.now in
    let reads_is : (with_items old.reads c.put.new.disk).items ≡ overwritten old.reads.items c.args.place c.args.bytes.now =
    with_items_is old.reads c.put.new.disk (omega arith) ∙ c.put.ensures ∙ ap (λ (l : List ℕ). overwritten l c.args.place c.args.bytes.now) c.deref_mut.ensures.value in
    let marks_is : (with_items old.unsynced c.mark.new.marks).items ≡ overwritten old.unsynced.items c.args.place (replicate n true) =
    with_items_is old.unsynced c.mark.new.marks (omega arith) ∙ c.mark.ensures ∙ ap (λ (l : List Bool). overwritten l c.args.place (replicate n true)) c.deref_mut-2.ensures.value in
    rw (← c.self.view_is)
    (ap (λ (m : List Bool). left_by (choice_of old.stop) m old.synced.items (with_items old.reads c.put.new.disk).items) marks_is
    ∙ ap (left_by (choice_of old.stop) (overwritten old.unsynced.items c.args.place (replicate n true)) old.synced.items) reads_is
    ∙ left_after d c.args.place c.args.bytes.now size fits)
