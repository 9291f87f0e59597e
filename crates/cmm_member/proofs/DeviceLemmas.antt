-- What an install decides of each device.
use Rattle.std.proofs.Common.{◌≡◌, ◌≢◌, ℕ, ◌<◌, ◌≤◌, ◌^◌, ◌==◌, ◌||◌, ◌&&◌, inl, inr, not, List, [], ◌∷◌, Bool, true, false, refl, ap, sym, subst, ◌∙◌, arith}
use Rattle.std.specs.Prelude.{All, if◌then◌else◌}
use Rattle.std.proofs.lemmas.List.Elements.{All-head, All-tail}
use Rattle.std.proofs.lemmas.Bool.Decides.{nat_tests}
use Rattle.cl_base.specs.Sets.{has, set_with, set_without}
use Rattle.cl_base.proofs.SetLemmas.{has_with, has_without, or_bit_value, and_bit_value, or_narrow, and_narrow, none_of_zero}
use Rattle.wire.specs.declared.lists.Reading.{Reading}
use Rattle.wire.specs.declared.message.Install.{Install}
use Rattle.cmm_member.specs.Nodes.{NodeState, Devices, AreOfDevices, IsOneOf, has_key_of, joins, joining_all, devices_after}

with_at : (s n m : ℕ) → 1 ≤ n → n ≤ 16 → has (set_with s n) m ≡ ((m == n) || has s m)
with_at s n m low high = ap (λ t. has t m) (sym (or_bit_value s n (omega arith))) ∙ has_with s n low (omega arith) m

without_at : (s n m : ℕ) → 1 ≤ n → n ≤ 16 → s < 2 ^ 16 → has (set_without s n) m ≡ (not (m == n) && has s m)
without_at s n m low high narrow = ap (λ t. has t m) (sym (and_bit_value s n (omega arith))) ∙ has_without s n low (omega arith) (omega arith) m

with_narrow : (s n : ℕ) → n ≤ 16 → s < 2 ^ 16 → set_with s n < 2 ^ 16
with_narrow s n high narrow = subst (λ t. t < 2 ^ 16) (or_bit_value s n (omega arith)) (or_narrow s n narrow high)

without_narrow : (s n : ℕ) → n ≤ 16 → s < 2 ^ 16 → set_without s n < 2 ^ 16
without_narrow s n high narrow = subst (λ t. t < 2 ^ 16) (and_bit_value s n (omega arith)) (and_narrow s _ narrow)

differs : (a b : ℕ) → a ≢ b → (a == b) ≡ false
differs a b h = grind (arith, nat_tests)

same_number : (n : ℕ) → (n == n) ≡ true
same_number n = grind (arith, nat_tests)

pub record AreNarrow (d : Devices) : Type 0 where
  pub valid : d.valid < 2 ^ 16
  pub joined : d.joined < 2 ^ 16

-- both sets with the device, or both without it
abbrev pub decided : Bool → Devices → ℕ → Devices
decided b d n =
    if b
    then record { valid = set_with d.valid n; joined = set_with d.joined n }
    else record { valid = set_without d.valid n; joined = set_without d.joined n }

decided_narrow : (b : Bool) (d : Devices) (n : ℕ) → n ≤ 16 → AreNarrow d → AreNarrow (decided b d n)
decided_narrow true d n high w = record { valid = with_narrow d.valid n high w.valid; joined = with_narrow d.joined n high w.joined }
decided_narrow false d n high w = record { valid = without_narrow d.valid n high w.valid; joined = without_narrow d.joined n high w.joined }

decided_other : (b : Bool) (d : Devices) (n m : ℕ) → 1 ≤ n → n ≤ 16 → AreNarrow d → n ≢ m → (has (decided b d n).valid m ≡ has d.valid m) × (has (decided b d n).joined m ≡ has d.joined m)
decided_other true d n m low high w other =
    let apart : (m == n) ≡ false = differs m n (λ e. other (sym e)) in
    (with_at d.valid n m low high ∙ rw apart refl, with_at d.joined n m low high ∙ rw apart refl)
decided_other false d n m low high w other =
    let apart : (m == n) ≡ false = differs m n (λ e. other (sym e)) in
    (without_at d.valid n m low high w.valid ∙ rw apart refl, without_at d.joined n m low high w.joined ∙ rw apart refl)

decided_here : (b : Bool) (d : Devices) (n : ℕ) → 1 ≤ n → n ≤ 16 → AreNarrow d → (has (decided b d n).valid n ≡ b) × (has (decided b d n).joined n ≡ b)
decided_here true d n low high w = (with_at d.valid n n low high ∙ rw (same_number n) refl, with_at d.joined n n low high ∙ rw (same_number n) refl)
decided_here false d n low high w =
    (without_at d.valid n n low high w.valid ∙ rw (same_number n) refl, without_at d.joined n n low high w.joined ∙ rw (same_number n) refl)

-- a device that was not read stays as it was
unread : (me m : ℕ) (d : Devices) (readings : List Reading) → AreNarrow d → AreOfDevices readings → All (λ r. r.device ≢ m) readings → (has (joining_all me d readings).valid m ≡ has d.valid m) × (has (joining_all me d readings).joined m ≡ has d.joined m)
unread me m d [] w are none = (refl, refl)
unread me m d (r ∷ readings) w are none =
    let b = joins me d.valid r in
    let rest = unread me m (decided b d r.device) readings (decided_narrow b d r.device are.1 w) are.3 (All-tail (λ x. x.device ≢ m) r readings none) in
    let first = decided_other b d r.device m are.0 are.1 w (All-head (λ x. x.device ≢ m) r readings none) in
    (rest.0 ∙ first.0, rest.1 ∙ first.1)

apart_from : (m : ℕ) (r : Reading) (readings : List Reading) → All (λ x. x.device ≢ m) readings → IsOneOf r readings → r.device ≢ m
apart_from m r [] none there = elim there [ ]
apart_from m r (x ∷ readings) none (inl same) = subst (λ (y : Reading). y.device ≢ m) (sym same) (All-head (λ y. y.device ≢ m) x readings none)
apart_from m r (x ∷ readings) none (inr there) = apart_from m r readings (All-tail (λ y. y.device ≢ m) x readings none) there

-- a device that was read is valid and joined exactly where the node joins it
decides : (me : ℕ) (d : Devices) (readings : List Reading) (r : Reading) → AreNarrow d → AreOfDevices readings → IsOneOf r readings
    → (has (joining_all me d readings).valid r.device ≡ joins me d.valid r) × (has (joining_all me d readings).joined r.device ≡ joins me d.valid r)
decides me d [] r w are there = elim there [ ]
decides me d (x ∷ readings) r w are (inl same) =
    let b = joins me d.valid x in
    let here = decided_here b d x.device are.0 are.1 w in
    let rest = unread me x.device (decided b d x.device) readings (decided_narrow b d x.device are.1 w) are.3 are.2 in
    rw same (rest.0 ∙ here.0, rest.1 ∙ here.1)
decides me d (x ∷ readings) r w are (inr there) =
    let b = joins me d.valid x in
    let other : r.device ≢ x.device = apart_from x.device r readings are.2 there in
    let rest = decides me (decided b d x.device) readings r (decided_narrow b d x.device are.1 w) are.3 there in
    let kept : has (decided b d x.device).valid r.device ≡ has d.valid r.device = (decided_other b d x.device r.device are.0 are.1 w (λ e. other (sym e))).0 in
    let same : joins me (decided b d x.device).valid r ≡ joins me d.valid r = ap (λ v. (r.seizer == me) || (has_key_of me r.keys && v)) kept in
    (rest.0 ∙ same, rest.1 ∙ same)

zero_narrow : (s : NodeState) → s.saved.valid < 2 ^ 16 → AreNarrow (record { valid = s.saved.valid; joined = 0 })
zero_narrow s narrow = record { valid = narrow; joined = omega arith }

pub install_valid : (s : NodeState) (i : Install) (r : Reading) → s.saved.valid < 2 ^ 16 → AreOfDevices i.readings → IsOneOf r i.readings → has (devices_after s i).valid r.device ≡ joins s.me s.saved.valid r
install_valid s i r narrow are there = (decides s.me _ i.readings r (zero_narrow s narrow) are there).0

pub install_joined : (s : NodeState) (i : Install) (r : Reading) → s.saved.valid < 2 ^ 16 → AreOfDevices i.readings → IsOneOf r i.readings → has (devices_after s i).joined r.device ≡ joins s.me s.saved.valid r
install_joined s i r narrow are there = (decides s.me _ i.readings r (zero_narrow s narrow) are there).1

pub install_stays : (s : NodeState) (i : Install) (m : ℕ) → s.saved.valid < 2 ^ 16 → AreOfDevices i.readings → All (λ r. r.device ≢ m) i.readings → has (devices_after s i).valid m ≡ has s.saved.valid m
install_stays s i m narrow are none = (unread s.me m _ i.readings (zero_narrow s narrow) are none).0

pub install_not_joined : (s : NodeState) (i : Install) (m : ℕ) → s.saved.valid < 2 ^ 16 → AreOfDevices i.readings → All (λ r. r.device ≢ m) i.readings → has (devices_after s i).joined m ≡ false
install_not_joined s i m narrow are none = (unread s.me m _ i.readings (zero_narrow s narrow) are none).1 ∙ none_of_zero m
