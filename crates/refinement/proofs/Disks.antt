-- The simulated disk keeps the rules of a disk.
use Rattle.std.specs.Prelude.{◌≡◌, ◌⊎◌, ◌&&◌, Bool, true, false, None, Some, if◌then◌else◌}
use Rattle.std.proofs.Common.{refl, sym, inl, inr}
use Rattle.cmm_attempt.proofs.Basics.{if_either, none_some}
use Rattle.cmm_member.specs.Records.{NodeRecord}
use Rattle.record_disk.specs.Disks.{DiskState, crashed, fits, in_four, next_save, remounted, saved, stands_after, stops_in_four}
use Rattle.record_disk.specs.Savings.{Saving}
use Rattle.record_disk.specs.declared.error.Loss.{Loss}
use Rattle.record_disk.specs.declared.error.Loss.TheVariants.{Stopped, Fault}
use Rattle.record_store.specs.Images.{other_slot}
use Rattle.refinement.specs.Steps.{DisksKeepRules}

-- what a save has come to
record Good (d : DiskState) (r : NodeRecord) (s : Saving DiskState) : Type 0 where
  saved_so : s.lost ≡ None → s.after.kept ≡ r
  lost_so : (loss : Loss) → s.lost ≡ Some loss → (s.after.kept ≡ r) ⊎ (s.after.kept ≡ d.kept)

lost_is : (l : Loss) (P : Type 0) → Some l ≡ None → P
lost_is l P h = absurd (none_some l (sym h))

either : (d : DiskState) (r : NodeRecord) (b : Bool) → ((if b then saved d r else d).kept ≡ r) ⊎ ((if b then saved d r else d).kept ≡ d.kept)
either d r true = inl refl
either d r false = inr refl

fault_good : (d : DiskState) (r : NodeRecord) → Good d r (record { after = d; lost = Some Fault })
fault_good d r = record { saved_so = λ h. lost_is Fault _ h; lost_so = λ loss h. inr refl }

stopped_good : (d : DiskState) (r : NodeRecord) (b : Bool) → Good d r (record { after = crashed (if b then saved d r else d); lost = Some Stopped })
stopped_good d r b = record { saved_so = λ h. lost_is Stopped _ h; lost_so = λ loss h. either d r b }

done_good : (d : DiskState) (r : NodeRecord) → Good d r (record { after = saved d r; lost = None })
done_good d r = record { saved_so = λ h. refl; lost_so = λ loss h. absurd (none_some loss h) }

four_good : (d : DiskState) (r : NodeRecord) (b : Bool) → Good d r (in_four d.stop (saved d r) (if b then saved d r else d))
four_good d r b =
    if_either (Good d r) (stops_in_four d.stop) (record { after = crashed (if b then saved d r else d); lost = Some Stopped }) (record { after = saved d r; lost = None })
    (stopped_good d r b) (done_good d r)

save_good : (d : DiskState) (r : NodeRecord) → Good d r (if d.mounted && fits (next_save d.saves) r then in_four d.stop (saved d r) (if stands_after d.stop (other_slot d.slot) then saved d r else d) else record { after = d; lost = Some Fault })
save_good d r =
    if_either (Good d r) (d.mounted && fits (next_save d.saves) r) (in_four d.stop (saved d r) (if stands_after d.stop (other_slot d.slot) then saved d r else d)) (record { after = d; lost = Some Fault })
    (four_good d r (stands_after d.stop (other_slot d.slot))) (fault_good d r)

abbrev Keeps : DiskState → Saving DiskState → Type 0
Keeps d s = s.after.kept ≡ d.kept

pub disks_keep_rules : DisksKeepRules
disks_keep_rules = record {
  saved = λ d r. (save_good d r).saved_so;
  lost = λ d r. (save_good d r).lost_so;
  mounted = λ d. if_either (Keeps d) (stops_in_four d.stop) (record { after = crashed d; lost = Some Stopped }) (record { after = remounted d; lost = None }) refl refl;
}
