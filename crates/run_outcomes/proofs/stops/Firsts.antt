-- What the course of a tick comes to on a disk, up to the save with which an attempt begins.
use Rattle.std.specs.Prelude.{ℕ, ◌≡◌, ◌++◌, ◌&&◌, Bool, true, false, List, ◌∷◌, Some, None, if◌then◌else◌}
use Rattle.std.proofs.Common.{refl, sym, ap, subst, ◌∙◌}
use Rattle.std.proofs.lemmas.List.{append_assoc}
use Rattle.cl_base.specs.declared.panic.Panic.TheVariants as panic
use Rattle.cmm_attempt.proofs.Basics.{none_some, same_some}
use Rattle.cmm_member.specs.Records.{NodeRecord}
use Rattle.node_model.specs.Entries.{unknown_lines}
use Rattle.node_model.specs.Plans.{Plan}
use Rattle.node_model.specs.Seats.{record_of}
use Rattle.node_model.specs.Steps.{Outcome, carried, unless_lost}
use Rattle.node_model.specs.declared.cluster.Cluster.{Cluster}
use Rattle.node_model.specs.declared.node.UpNode.{UpNode}
use Rattle.node_model.specs.declared.output.Output.{Output}
use Rattle.node_model.specs.declared.output.Output.TheVariants.{Tells}
use Rattle.record_disk.specs.Disks.{DiskState, crashed, fits, in_four, next_save, saved, saving, stands_after, stops_in_four}
use Rattle.record_disk.specs.Savings.{Saving}
use Rattle.record_disk.specs.declared.error.Loss.TheVariants.{Fault, Stopped}
use Rattle.record_store.specs.Images.{other_slot}
use Rattle.refinement.specs.Courses.{Course, plan_from, saying}
use Rattle.refinement.specs.Courses.Course.{Acts, Falls, Keeps, Stops}
use Rattle.refinement.specs.Doings.{Act, acted, changed, gone_line, of_node, said, saved_lines}
use Rattle.refinement.specs.Doings.Change.{Leads}
use Rattle.status_report.specs.declared.attempt_entry.AttemptEntry.TheVariants as attempt
use Rattle.status_report.specs.declared.entry.Entry.TheVariants as entry
use Rattle.status_report.specs.declared.node_entry.DownCause.TheVariants as cause
use Rattle.status_report.specs.declared.node_entry.NodeEntry.TheVariants as note
use Rattle.run_history.proofs.Idle.{if_false, if_true}
use Rattle.run_downs.proofs.Courses.{GoesFine, Walked, says_all, walked}
use Rattle.run_outcomes.specs.stops.Courses.{Lead, first_said, lead_at}

-- a disk can hold the record
abbrev pub can_save : DiskState → NodeRecord → Bool
can_save d r = d.mounted && fits (next_save d.saves) r

abbrev pub lead_record : Cluster → ℕ → Lead → NodeRecord
lead_record c me l = record_of (changed c me l.node (Leads l.epoch l.members))

-- the promise of an attempt is saved, and its line comes next
pub record LedOn (c : Cluster) (me : ℕ) (x : UpNode) (k : Course) (before : List Output) (l : Lead) (o : Outcome DiskState) : Type 0 where
  pub more : List Output
  pub given : before ++ (first_said c me x k ++ of_node me note.Saved ∷ Tells (entry.Attempt (attempt.Begun l.epoch l.members)) ∷ more) ≡ o.given

-- .. or the disk fails, and the node goes down
abbrev pub FailedOn : Cluster → ℕ → UpNode → Course → List Output → Outcome DiskState → Type 0
FailedOn c me x k before o = before ++ (first_said c me x k ++ gone_line me (cause.Panic panic.Disk)) ≡ o.given

regroup : (before first second tail : List Output) → before ++ ((first ++ second) ++ tail) ≡ (before ++ first) ++ (second ++ tail)
regroup before first second tail = ap (λ os. before ++ os) (append_assoc first second tail) ∙ sym (append_assoc before first (second ++ tail))

-- ---- where a save can be made

acted_led : (c : Cluster) (me : ℕ) (x : UpNode) (a : Act) (rest : Course) (before : List Output) (l : Lead) (o : Outcome DiskState) → LedOn c me (acted c me x a) rest (before ++ said c me x a) l o → LedOn c me x (Acts a rest) before l o
acted_led c me x a rest before l o h = record { more = h.more; given = regroup before (said c me x a) (first_said c me (acted c me x a) rest) (of_node me note.Saved ∷ Tells (entry.Attempt (attempt.Begun l.epoch l.members)) ∷ h.more) ∙ h.given }

done_save : (d : DiskState) (r : NodeRecord) → can_save d r ≡ true → stops_in_four d.stop ≡ false → saving d r ≡ record { after = saved d r; lost = None }
done_save d r can far =
    let left : DiskState = if stands_after d.stop (other_slot d.slot) then saved d r else d in
    if_true (can_save d r) (in_four d.stop (saved d r) left) (record { after = d; lost = Some Fault }) can
    ∙ if_false (stops_in_four d.stop) (record { after = crashed left; lost = Some Stopped }) (record { after = saved d r; lost = None }) far

kept_led : (c : Cluster) (me : ℕ) (x : UpNode) (p members : ℕ) (rest : Course) (before : List Output) (disk : DiskState)
    → (let l : Lead = record { node = x; epoch = p; members = members } in GoesFine true rest → can_save disk (lead_record c me l) ≡ true → stops_in_four disk.stop ≡ false
    → LedOn c me x (Keeps (Leads p members) rest) before l (carried saving me (plan_from c me x (Keeps (Leads p members) rest)) before disk))
kept_led c me x p members rest before disk fine can far =
    let l : Lead = record { node = x; epoch = p; members = members } in
    let y : UpNode = changed c me x (Leads p members) in
    let r : NodeRecord = record_of y in
    let last : List Output = saved_lines c me x (Leads p members) in
    let next : Plan = plan_from c me y rest in
    let after : DiskState = saved disk r in
    let w : Walked me true after.stop (before ++ last) (carried saving me next (before ++ last) after) = walked c me true y rest (before ++ last) after fine in
    subst (λ (z : Saving DiskState). LedOn c me x (Keeps (Leads p members) rest) before l (unless_lost me before z.after z.lost (carried saving me (saying last next) before z.after))) (sym (done_save disk r can far))
    (subst (LedOn c me x (Keeps (Leads p members) rest) before l) (says_all me last next before after)
    (record { more = unknown_lines me x.requests.waiting ++ w.outputs; given = sym (append_assoc before last w.outputs) ∙ w.given }))

pub led_on : (c : Cluster) (me : ℕ) (x : UpNode) (k : Course) (before : List Output) (disk : DiskState) (l : Lead) → GoesFine true k → lead_at c me x k ≡ Some l → can_save disk (lead_record c me l) ≡ true
    → stops_in_four disk.stop ≡ false → LedOn c me x k before l (carried saving me (plan_from c me x k) before disk)
led_on c me x Stops before disk l fine is can far = absurd (none_some l is)
led_on c me x (Acts a rest) before disk l fine is can far =
    subst (LedOn c me x (Acts a rest) before l) (says_all me (said c me x a) (plan_from c me (acted c me x a) rest) before disk)
    (acted_led c me x a rest before l (carried saving me (plan_from c me (acted c me x a) rest) (before ++ said c me x a) disk) (led_on c me (acted c me x a) rest (before ++ said c me x a) disk l fine.1 is can far))
led_on c me x (Keeps (Leads p members) rest) before disk l fine is can far =
    let m : Lead = record { node = x; epoch = p; members = members } in
    let e : m ≡ l = same_some m l is in
    subst (λ z. LedOn c me x (Keeps (Leads p members) rest) before z (carried saving me (plan_from c me x (Keeps (Leads p members) rest)) before disk)) e
    (kept_led c me x p members rest before disk fine.1 (subst (λ z. can_save disk (lead_record c me z) ≡ true) (sym e) can) far)
led_on c me x (Keeps _ rest) before disk l fine is can far = absurd (none_some l is)
led_on c me x (Falls why) before disk l fine is can far = absurd (none_some l is)

-- ---- where none can be made

failed_save : (d : DiskState) (r : NodeRecord) → can_save d r ≡ false → saving d r ≡ record { after = d; lost = Some Fault }
failed_save d r can = if_false (can_save d r) (in_four d.stop (saved d r) (if stands_after d.stop (other_slot d.slot) then saved d r else d)) (record { after = d; lost = Some Fault }) can

pub failed_on : (c : Cluster) (me : ℕ) (x : UpNode) (k : Course) (before : List Output) (disk : DiskState) (l : Lead) → lead_at c me x k ≡ Some l → can_save disk (lead_record c me l) ≡ false
    → FailedOn c me x k before (carried saving me (plan_from c me x k) before disk)
failed_on c me x Stops before disk l is can = absurd (none_some l is)
failed_on c me x (Acts a rest) before disk l is can =
    subst (FailedOn c me x (Acts a rest) before) (says_all me (said c me x a) (plan_from c me (acted c me x a) rest) before disk)
    (regroup before (said c me x a) (first_said c me (acted c me x a) rest) (gone_line me (cause.Panic panic.Disk)) ∙ failed_on c me (acted c me x a) rest (before ++ said c me x a) disk l is can)
failed_on c me x (Keeps (Leads p members) rest) before disk l is can =
    let m : Lead = record { node = x; epoch = p; members = members } in
    let y : UpNode = changed c me x (Leads p members) in
    subst (λ (z : Saving DiskState). FailedOn c me x (Keeps (Leads p members) rest) before (unless_lost me before z.after z.lost (carried saving me (saying (saved_lines c me x (Leads p members)) (plan_from c me y rest)) before z.after)))
    (sym (failed_save disk (record_of y) (subst (λ z. can_save disk (lead_record c me z) ≡ false) (sym (same_some m l is)) can))) refl
failed_on c me x (Keeps _ rest) before disk l is can = absurd (none_some l is)
failed_on c me x (Falls why) before disk l is can = absurd (none_some l is)
