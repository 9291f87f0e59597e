-- What a save and a mounting of a simulated disk leave of the record.
use Rattle.std.specs.Prelude.{◌≡◌, ◌⊎◌, Bool, true, false, ◌&&◌, if◌then◌else◌, Option, Some, None, MatchOption, refl}
use Rattle.std.proofs.Common.{inl, inr, subst}
use Rattle.record_store.specs.Images.{other_slot}
use Rattle.cmm_member.specs.Records.{NodeRecord}
use Rattle.record_disk.specs.declared.error.Loss.{Loss}
use Rattle.record_disk.specs.declared.error.Loss.TheVariants.{Stopped, Fault}
use Rattle.record_disk.specs.Savings.{Saving}
use Rattle.record_disk.specs.Disks.{DiskState, crashed, remounted, saved, fits, next_save, stops_in_four, stands_after, mounting, saving}

none_lost : (loss : Loss) → Some loss ≡ None → ⊥
none_lost loss e = subst (λ (o : Option Loss). MatchOption o ⊥ (λ _. Unit {0})) e tt

-- where the tests of a save come out so
abbrev pub saving_by : Bool → Bool → Bool → DiskState → NodeRecord → Saving DiskState
saving_by can stops reached d r =
    if can
    then (if stops then record { after = crashed (if reached then saved d r else d); lost = Some Stopped } else record { after = saved d r; lost = None })
    else record { after = d; lost = Some Fault }

done_by : (can stops reached : Bool) (d : DiskState) (r : NodeRecord) → (saving_by can stops reached d r).lost ≡ None → (saving_by can stops reached d r).after.kept ≡ r
done_by true false reached d r e = refl
done_by true true reached d r e = absurd (none_lost Stopped e)
done_by false stops reached d r e = absurd (none_lost Fault e)

lost_by : (can stops reached : Bool) (d : DiskState) (r : NodeRecord) → ((saving_by can stops reached d r).after.kept ≡ d.kept) ⊎ ((saving_by can stops reached d r).after.kept ≡ r)
lost_by true false reached d r = inr refl
lost_by true true true d r = inr refl
lost_by true true false d r = inl refl
lost_by false stops reached d r = inl refl

mount_by : (stops : Bool) (d : DiskState) → (let s : Saving DiskState = if stops then record { after = crashed d; lost = Some Stopped } else record { after = remounted d; lost = None } in s.after.kept ≡ d.kept)
mount_by true d = refl
mount_by false d = refl

-- a save that is not lost keeps its record
pub done_keeps : (d : DiskState) (r : NodeRecord) → (saving d r).lost ≡ None → (saving d r).after.kept ≡ r
done_keeps d r = done_by (d.mounted && fits (next_save d.saves) r) (stops_in_four d.stop) (stands_after d.stop (other_slot d.slot)) d r

-- a save keeps the old record or its own
pub lost_keeps : (d : DiskState) (r : NodeRecord) → ((saving d r).after.kept ≡ d.kept) ⊎ ((saving d r).after.kept ≡ r)
lost_keeps d r = lost_by (d.mounted && fits (next_save d.saves) r) (stops_in_four d.stop) (stands_after d.stop (other_slot d.slot)) d r

-- a mounting keeps the record
pub mount_keeps : (d : DiskState) → (mounting d).after.kept ≡ d.kept
mount_keeps d = mount_by (stops_in_four d.stop) d
