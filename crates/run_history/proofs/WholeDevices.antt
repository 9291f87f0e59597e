-- The devices of a scene by their numbers.
use Rattle.std.specs.Prelude.{ℕ, zero, suc, ◌-◌, ◌≡◌, ◌≢◌, ◌≤◌, ◌⊎◌, List, Some, slice_get, slice_set, slice_index_or}
use Rattle.std.proofs.Common.{sym, ap, subst, ◌∙◌, inl, inr, arith}
use Rattle.std.proofs.lemmas.List.{get_or-set_other, get_or-set_same}
use Rattle.std.proofs.lemmas.Option.{get_or_from_slice_get, slice_get_within}
use Rattle.cluster_machine.specs.Cluster.{Cluster as Whole}
use Rattle.cluster_ties.specs.Ties.{Devices, DevicesTied}
use Rattle.device_ties.specs.Devices.{DeviceTied}
use Rattle.machine_base.proofs.Puts.{put_here, put_there, same_or_not}
use Rattle.machine_base.specs.Put.{put}
use Rattle.node_model.specs.declared.cluster.Cluster.{Cluster}
use Rattle.pgr_device.specs.Device.{Device}
use Rattle.refinement.proofs.Worlds.{set_other, set_same}
use Rattle.refinement.specs.Worlds.{DeviceFits}
use Rattle.run_history.specs.Wholes.{device_at, no_device}

-- devices that are the same are tied
pub tied_same : (c : Cluster) (W : Whole) (devices other : Devices) → ((d : ℕ) → other d ≡ devices d) → DevicesTied c devices W → DevicesTied c other W
tied_same c W devices other same tied = λ d. subst (λ z. DeviceTied c.id z (W.device d).device) (sym (same d)) (tied d)

one_more : (d : ℕ) → 1 ≤ d → suc (d - 1) ≡ d
one_more d low = omega (arith, low)

pub device_there : (ds : List Device) (d : ℕ) (old : Device) → 1 ≤ d → slice_get ds (d - 1) ≡ Some old → device_at ds d ≡ old
device_there ds d old low is = ap (λ j. device_at ds j) (sym (one_more d low)) ∙ get_or_from_slice_get ds (d - 1) old no_device is

-- one device is another
set_at : (ds : List Device) (k : ℕ) (old new : Device) → slice_get ds k ≡ Some old → (e : ℕ) → device_at (slice_set ds k new) e ≡ put (device_at ds) (suc k) new e
set_at ds k old new is zero = sym (put_there (device_at ds) (suc k) new zero (differs k))
  where
    differs : (j : ℕ) → zero ≢ suc j
    differs j h = grind arith
set_at ds k old new is (suc j) = by_place (same_or_not j k)
  where
    apart : j ≢ k → suc j ≢ suc k
    apart ne h = ne (grind arith)

    by_place : (j ≡ k) ⊎ (j ≢ k) → slice_index_or (slice_set ds k new) j no_device ≡ put (device_at ds) (suc k) new (suc j)
    by_place (inl e) =
        subst (λ i. slice_index_or (slice_set ds k new) i no_device ≡ put (device_at ds) (suc k) new (suc i)) (sym e)
        (get_or-set_same ds k new no_device (slice_get_within ds k old is) ∙ sym (put_here (device_at ds) (suc k) new))
    by_place (inr ne) = get_or-set_other ds k j new no_device ne ∙ sym (put_there (device_at ds) (suc k) new (suc j) (apart ne))

pub device_set : (ds : List Device) (d : ℕ) (old new : Device) → 1 ≤ d → slice_get ds (d - 1) ≡ Some old → (e : ℕ) → device_at (slice_set ds (d - 1) new) e ≡ put (device_at ds) d new e
device_set ds d old new low is e = set_at ds (d - 1) old new is e ∙ ap (λ j. put (device_at ds) j new e) (one_more d low)

-- nothing is changed
pub put_back : (devices : Devices) (d : ℕ) (e : ℕ) → put devices d (devices d) e ≡ devices e
put_back devices d e = by_place (same_or_not e d)
  where
    by_place : (e ≡ d) ⊎ (e ≢ d) → put devices d (devices d) e ≡ devices e
    by_place (inl is) = subst (λ k. put devices d (devices d) k ≡ devices k) (sym is) (put_here devices d (devices d))
    by_place (inr ne) = put_there devices d (devices d) e ne

-- all have their widths
pub set_fits : (ds : List Device) (k : ℕ) (old new : Device) → slice_get ds k ≡ Some old → ((d : ℕ) (device : Device) → slice_get ds d ≡ Some device → DeviceFits device) → DeviceFits new
    → (d : ℕ) (device : Device) → slice_get (slice_set ds k new) d ≡ Some device → DeviceFits device
set_fits ds k old new was all fits d device is = by_place (same_or_not d k)
  where
    by_place : (d ≡ k) ⊎ (d ≢ k) → DeviceFits device
    by_place (inl e) = subst DeviceFits (set_same ds k old new device was (subst (λ i. slice_get (slice_set ds k new) i ≡ Some device) e is)) fits
    by_place (inr ne) = all d device (set_other ds k d new device ne is)
