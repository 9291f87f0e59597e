-- Sets of devices of the cluster stay so with one device more, and with one less.
use Rattle.std.specs.Prelude.{ℕ, ◌-◌, ◌==◌, ◌||◌, ◌≡◌, ◌≤◌, ◌<◌, ◌⊎◌, ◌^◌, bit_and, fold, min, true, List, [], ◌∷◌, if◌then◌else◌}
use Rattle.std.specs.Int.{bit_at}
use Rattle.std.proofs.Common.{sym, subst, ◌∙◌, inl, inr, arith}
use Rattle.std.proofs.lemmas.Bool.Decides.{nat_tests}
use Rattle.std.proofs.lemmas.Nat.Bits.{bit_at-lt, bit_at_and}
use Rattle.cl_base.proofs.SetLemmas.{has_at, has_not_above, has_with, none_of_zero, or_bit_value}
use Rattle.cl_base.specs.Sets.{has, set_with, set_without}
use Rattle.cmm_attempt.proofs.Basics.{false_true, if_either, or_cases, same_number}
use Rattle.cmm_attempt.specs.declared.attached.AttachedDevice.{AttachedDevice}
use Rattle.cmm_member.specs.Nodes.{Devices, NodeState, devices_after, joining_all, joining_one, joins}
use Rattle.node_model.specs.Clusters.{first_valid_of, is_first_valid}
use Rattle.node_model.specs.declared.cluster.Cluster.{Cluster}
use Rattle.wire.specs.declared.lists.Reading.{Reading}
use Rattle.wire.specs.declared.message.Install.{Install}
use Rattle.run_packets.specs.native.Named.{AttachedKnown, IsKnown}
use Rattle.run_packets.proofs.native.Beats.{some_low}
use Rattle.run_packets.specs.admitted.Known.{DevicesKnown, InDevices, ReadingsKnown}

-- ---- one device more

pub none_in : (c : Cluster) → InDevices c 0
none_in c d is = absurd (false_true (sym (none_of_zero d) ∙ is))

-- a number that a set of 32 has is at most 32
high_of : (set d : ℕ) → set < 2 ^ 32 → has set d ≡ true → d ≤ 32
high_of set d small is = by_width (low_or_high d)
  where
    low_or_high : (m : ℕ) → (m ≤ 32) ⊎ (32 < m)
    low_or_high m = grind arith

    by_width : (d ≤ 32) ⊎ (32 < d) → d ≤ 32
    by_width (inl high) = high
    by_width (inr above) = absurd (false_true (sym (has_not_above set 32 d small above) ∙ is))

has_more : (set d e : ℕ) → 1 ≤ d → d ≤ 32 → has (set_with set d) e ≡ ((e == d) || has set e)
has_more set d e low high = subst (λ z. has z e ≡ ((e == d) || has set e)) (or_bit_value set d high) (has_with set d low high e)

pub with_in : (c : Cluster) (set d : ℕ) → DevicesKnown c → IsKnown c d → InDevices c set → InDevices c (set_with set d)
with_in c set d fixed is are e has_it =
    by_cases (or_cases (e == d) (has set e) (sym (has_more set d e (some_low c.devices d is) (high_of c.devices d fixed.small is)) ∙ has_it))
  where
    by_cases : ((e == d) ≡ true) ⊎ (has set e ≡ true) → has c.devices e ≡ true
    by_cases (inl same) = subst (λ z. has c.devices z ≡ true) (sym (same_number e d same)) is
    by_cases (inr old) = are e old

-- ---- one device less

first_bit : (a b : ℕ) → a < 2 → b < 2 → (min a b == 1) ≡ true → (a == 1) ≡ true
first_bit a b low small h = grind (arith, nat_tests)

less_has : (set mask m : ℕ) → 1 ≤ m → has (bit_and set mask) m ≡ true → has set m ≡ true
less_has set mask m low h =
    has_at set m low
    ∙ first_bit (bit_at set (m - 1)) (bit_at mask (m - 1)) (bit_at-lt set (m - 1)) (bit_at-lt mask (m - 1))
    (subst (λ z. (z == 1) ≡ true) (bit_at_and set mask (m - 1)) (sym (has_at (bit_and set mask) m low) ∙ h))

pub without_in : (c : Cluster) (set d : ℕ) → InDevices c set → InDevices c (set_without set d)
unfolding set_without
without_in c set d are e has_it = are e (less_has set _ e (some_low (bit_and set _) e has_it) has_it)

-- ---- the first valid devices

first_in : (c : Cluster) (me : ℕ) → DevicesKnown c → (attached : List AttachedDevice) (set : ℕ) → AttachedKnown c attached → InDevices c set
    → InDevices c (fold (λ set a. if is_first_valid c me a then set_with set a.device else set) set attached)
first_in c me fixed [] set known are = are
first_in c me fixed (a ∷ attached) set known are =
    first_in c me fixed attached (if is_first_valid c me a then set_with set a.device else set) known.1
    (if_either (InDevices c) (is_first_valid c me a) (set_with set a.device) set (with_in c set a.device fixed known.0 are) are)

pub first_valid_in : (c : Cluster) (me : ℕ) → DevicesKnown c → InDevices c (first_valid_of c me)
first_valid_in c me fixed = first_in c me fixed c.attached 0 fixed.attached (none_in c)

-- ---- the devices after an install

record BothIn (c : Cluster) (d : Devices) : Type 0 where
  valid : InDevices c d.valid
  joined : InDevices c d.joined

one_in : (c : Cluster) (me members : ℕ) (d : Devices) (r : Reading) → DevicesKnown c → IsKnown c r.device → BothIn c d → BothIn c (joining_one me d r)
one_in c me members d r fixed is h =
    if_either (BothIn c) (joins me d.valid r) (record { valid = set_with d.valid r.device; joined = set_with d.joined r.device })
    (record { valid = set_without d.valid r.device; joined = set_without d.joined r.device })
    (record { valid = with_in c d.valid r.device fixed is h.valid; joined = with_in c d.joined r.device fixed is h.joined })
    (record { valid = without_in c d.valid r.device h.valid; joined = without_in c d.joined r.device h.joined })

all_in : (c : Cluster) (me members : ℕ) (d : Devices) (readings : List Reading) → DevicesKnown c → ReadingsKnown c members readings → BothIn c d → BothIn c (joining_all me d readings)
all_in c me members d [] fixed are h = h
all_in c me members d (r ∷ readings) fixed are h = all_in c me members (joining_one me d r) readings fixed are.1 (one_in c me members d r fixed are.0.0 h)

pub after_in : (c : Cluster) (s : NodeState) (i : Install) → DevicesKnown c → ReadingsKnown c i.members i.readings → InDevices c s.saved.valid
    → InDevices c (devices_after s i).valid × InDevices c (devices_after s i).joined
after_in c s i fixed are valid =
    let both : BothIn c (devices_after s i) = all_in c s.me i.members (record { valid = s.saved.valid; joined = 0 }) i.readings fixed are (record { valid = valid; joined = none_in c }) in
    (both.valid, both.joined)
