-- What is told of valid devices at first.
use Rattle.std.specs.Prelude.{ℕ, zero, suc, ◌+◌, ◌-◌, ◌≡◌, ◌<◌, ◌≤◌, ◌==◌, ◌&&◌, ◌||◌, Bool, true, false, List, [], ◌∷◌, length, fold, Option, None, Some, slice_get, if◌then◌else◌}
use Rattle.std.specs.List.{AllByRecursion}
use Rattle.std.proofs.Common.{refl, sym, ap, ◌∙◌, arith}
use Rattle.cl_base.proofs.SetLemmas.{has_with, none_of_zero, or_bit_value}
use Rattle.cl_base.specs.Limits.{most_devices}
use Rattle.cl_base.specs.Sets.{has, set_with}
use Rattle.cl_base.specs.declared.header.DeviceKind.{DeviceKind}
use Rattle.cl_base.specs.declared.header.DeviceKind.TheVariants.{Data, Quorum, Server}
use Rattle.cl_base.specs.declared.header.Header.{Header}
use Rattle.cl_base.specs.declared.header.HeaderDevice.{HeaderDevice}
use Rattle.cmm_attempt.proofs.Basics.{same_number}
use Rattle.cmm_attempt.specs.declared.attached.AttachedDevice.{AttachedDevice}
use Rattle.history.specs.Setting.{has_votes, is_configured, is_quorum, is_quorum_in, paths_in, paths_of}
use Rattle.history.specs.Validated.{at_first}
use Rattle.node_model.specs.Clusters.{first_valid_of, is_first_valid}
use Rattle.node_model.specs.declared.cluster.Cluster.{Cluster}
use Rattle.world_model.specs.First.{attached_from, first_cluster, quorum_from, with_quorum}
use Rattle.run_history.specs.WorldLines.{AreDisks, IsDevice, IsDisk}
use Rattle.run_devices.specs.validity.Laws.{Agrees}

-- whether P holds of the one that has number d, of these devices, whose numbers begin with this
abbrev at_number : (HeaderDevice → Bool) → ℕ → ℕ → List HeaderDevice → Bool
at_number P d number [] = false
at_number P d number (x ∷ xs) = ((d == number) && P x) || at_number P d (number + 1) xs

-- ---- the sets that are put together

has_more : (set d e : ℕ) → 1 ≤ d → d ≤ 32 → has (set_with set d) e ≡ ((e == d) || has set e)
has_more set d e low high = ap (λ s. has s e) (sym (or_bit_value set d high)) ∙ has_with set d low high e

quorum_more : (s t b : Bool) → ((t || s) || b) ≡ (s || ((t && true) || b))
quorum_more true true b = refl
quorum_more true false b = refl
quorum_more false true b = refl
quorum_more false false b = refl

data_more : (s t b : Bool) → (s || b) ≡ (s || ((t && false) || b))
data_more s true b = refl
data_more s false b = refl

low_more : (k : ℕ) → 1 ≤ k + 1
low_more k = omega arith

high_more : (k m : ℕ) → k + suc m ≤ 17 → (k + 1) + m ≤ 17
high_more k m l = omega (arith, l)

few : (k m : ℕ) → k + suc m ≤ 17 → k ≤ 32
few k m l = omega (arith, l)

quorum_has : (ds : List HeaderDevice) (number set d : ℕ) → 1 ≤ number → number + length ds ≤ 17 → AllByRecursion (λ (x : HeaderDevice). IsDisk x.kind) ds
    → has (quorum_from number ds set) d ≡ (has set d || at_number (λ x. has_votes x.kind) d number ds)
quorum_has [] number set d low high disks = or_none (has set d)
  where
    or_none : (b : Bool) → b ≡ (b || false)
    or_none true = refl
    or_none false = refl
quorum_has (x ∷ xs) number set d low high disks =
    quorum_has xs (number + 1) (with_quorum x.kind number set) d (low_more number) (high_more number (length xs) high) disks.1 ∙ by_kind x.kind disks.0
  where
    rest : Bool
    rest = at_number (λ x. has_votes x.kind) d (number + 1) xs

    by_kind : (k : DeviceKind) → IsDisk k → (has (with_quorum k number set) d || rest) ≡ (has set d || (((d == number) && has_votes k) || rest))
    by_kind Data is = data_more (has set d) (d == number) rest
    by_kind Quorum is = ap (λ b. b || rest) (has_more set number d low (few number (length xs) high)) ∙ quorum_more (has set d) (d == number) rest
    by_kind Server is = absurd is

-- a device that is valid at first, by its number and its paths
abbrev valid_by : Cluster → ℕ → ℕ → HeaderDevice → Bool
valid_by c n d x = has c.configured n && has c.first_valid d && has x.attached n

abbrev with_first : Cluster → ℕ → ℕ → AttachedDevice → ℕ
with_first c n set a = if is_first_valid c n a then set_with set a.device else set

valid_now : (c : Cluster) (n number d : ℕ) (x : HeaderDevice)
    → ((d == number) && is_first_valid c n (record { device = number; nodes = x.attached })) ≡ ((d == number) && valid_by c n d x)
valid_now c n number d x = by_test (d == number) refl
  where
    by_test : (b : Bool) → (d == number) ≡ b → (b && is_first_valid c n (record { device = number; nodes = x.attached })) ≡ (b && valid_by c n d x)
    by_test true is = ap (λ e. has c.configured n && has c.first_valid e && has x.attached n) (sym (same_number d number is))
    by_test false is = refl

one_more : (s t v b : Bool) → ((s || (t && v)) || b) ≡ (s || ((t && v) || b))
one_more true t v b = refl
one_more false t v b = refl

one_first : (c : Cluster) (n set d : ℕ) (a : AttachedDevice) → 1 ≤ a.device → a.device ≤ 32 → has (with_first c n set a) d ≡ (has set d || ((d == a.device) && is_first_valid c n a))
one_first c n set d a low high = by_test (is_first_valid c n a)
  where
    or_swap : (s t : Bool) → (t || s) ≡ (s || (t && true))
    or_swap true true = refl
    or_swap true false = refl
    or_swap false true = refl
    or_swap false false = refl

    or_off : (s t : Bool) → s ≡ (s || (t && false))
    or_off true t = refl
    or_off false true = refl
    or_off false false = refl

    by_test : (b : Bool) → has (if b then set_with set a.device else set) d ≡ (has set d || ((d == a.device) && b))
    by_test true = has_more set a.device d low high ∙ or_swap (has set d) (d == a.device)
    by_test false = or_off (has set d) (d == a.device)

first_has : (c : Cluster) (n : ℕ) (ds : List HeaderDevice) (number set d : ℕ) → 1 ≤ number → number + length ds ≤ 17
    → has (fold (λ s a. if is_first_valid c n a then set_with s a.device else s) set (attached_from number ds)) d ≡ (has set d || at_number (valid_by c n d) d number ds)
first_has c n [] number set d low high = or_none (has set d)
  where
    or_none : (b : Bool) → b ≡ (b || false)
    or_none true = refl
    or_none false = refl
first_has c n (x ∷ xs) number set d low high =
    let a : AttachedDevice = record { device = number; nodes = x.attached } in
    let rest : Bool = at_number (valid_by c n d) d (number + 1) xs in
    first_has c n xs (number + 1) (with_first c n set a) d (low_more number) (high_more number (length xs) high)
    ∙ (ap (λ b. b || rest) (one_first c n set d a low (few number (length xs) high) ∙ ap (λ b. has set d || b) (valid_now c n number d x))
    ∙ one_more (has set d) (d == number) (valid_by c n d x) rest)

-- ---- the device of a number

none_before : (P : HeaderDevice → Bool) (ds : List HeaderDevice) (d number : ℕ) → d < number → at_number P d number ds ≡ false
none_before P [] d number low = refl
none_before P (x ∷ xs) d number low = ap (λ b. (b && P x) || at_number P d (number + 1) xs) (other d number low) ∙ none_before P xs d (number + 1) (more d number low)
  where
    other : (a b : ℕ) → a < b → (a == b) ≡ false
    other a b l = grind arith

    more : (a b : ℕ) → a < b → a < b + 1
    more a b l = omega (arith, l)

abbrev passes : (HeaderDevice → Bool) → Option HeaderDevice → Bool
passes P None = false
passes P (Some x) = P x

at_place : (P : HeaderDevice → Bool) (ds : List HeaderDevice) (j number : ℕ) → at_number P (number + j) number ds ≡ passes P (slice_get ds j)
at_place P [] j number = refl
at_place P (x ∷ xs) zero number =
    ap (λ b. (b && P x) || at_number P (number + zero) (number + 1) xs) (itself number)
    ∙ (ap (λ b. P x || b) (none_before P xs (number + zero) (number + 1) (next number)) ∙ or_false (P x))
  where
    itself : (k : ℕ) → (k + zero == k) ≡ true
    itself k = grind arith

    next : (k : ℕ) → k + zero < k + 1
    next k = omega arith

    or_false : (b : Bool) → (b || false) ≡ b
    or_false true = refl
    or_false false = refl
at_place P (x ∷ xs) (suc j) number =
    ap (λ b. (b && P x) || at_number P (number + suc j) (number + 1) xs) (other number j)
    ∙ (ap (λ d. at_number P d (number + 1) xs) (moved number j) ∙ at_place P xs j (number + 1))
  where
    other : (k i : ℕ) → (k + suc i == k) ≡ false
    other k i = grind arith

    moved : (k i : ℕ) → k + suc i ≡ (k + 1) + i
    moved k i = omega arith

-- ---- at first

quorum_so : (o : Option HeaderDevice) → passes (λ x. has_votes x.kind) o ≡ is_quorum_in o
quorum_so None = refl
quorum_so (Some x) = refl

paths_so : (c : Cluster) (n d : ℕ) (o : Option HeaderDevice) → passes (valid_by c n d) o ≡ (has c.configured n && has c.first_valid d && has (paths_in o) n)
paths_so c n d None = sym (ap (λ b. has c.configured n && has c.first_valid d && b) (none_of_zero n) ∙ none_so (has c.configured n && has c.first_valid d))
  where
    none_so : (a : Bool) → (a && false) ≡ false
    none_so true = refl
    none_so false = refl
paths_so c n d (Some x) = refl

low_count : (k : ℕ) → k ≤ most_devices → 1 + k ≤ 17
low_count k l = omega (arith, l)

turned : (a b e : Bool) → (a && b && e) ≡ (b && e && a)
turned true true true = refl
turned true true false = refl
turned true false true = refl
turned true false false = refl
turned false true true = refl
turned false true false = refl
turned false false true = refl
turned false false false = refl

one_more_than : (j : ℕ) → suc j ≡ 1 + j
one_more_than j = omega arith

one_less : (j : ℕ) → suc j - 1 ≡ j
one_less j = omega arith

at_device : (P : HeaderDevice → Bool) (ds : List HeaderDevice) (j : ℕ) → at_number P (suc j) 1 ds ≡ passes P (slice_get ds (suc j - 1))
at_device P ds j = ap (λ d. at_number P d 1 ds) (one_more_than j) ∙ (at_place P ds j 1 ∙ ap (λ k. passes P (slice_get ds k)) (sym (one_less j)))

valid_first : (h : Header) (n j : ℕ) → length h.devices ≤ most_devices → AreDisks h
    → has (first_valid_of (first_cluster h) n) (suc j) ≡ (is_quorum h (suc j) && has (paths_of h (suc j)) n && is_configured h n)
valid_first h n j many disks =
    let c : Cluster = first_cluster h in
    let d : ℕ = suc j in
    let quorum : has c.first_valid d ≡ is_quorum h d =
    quorum_has h.devices 1 0 d (omega arith) (low_count (length h.devices) many) disks
    ∙ (ap (λ b. b || at_number (λ x. has_votes x.kind) d 1 h.devices) (none_of_zero d)
    ∙ (at_device (λ x. has_votes x.kind) h.devices j ∙ quorum_so (slice_get h.devices (d - 1)))) in
    first_has c n h.devices 1 0 d (omega arith) (low_count (length h.devices) many)
    ∙ (ap (λ b. b || at_number (valid_by c n d) d 1 h.devices) (none_of_zero d)
    ∙ (at_device (valid_by c n d) h.devices j ∙ (paths_so c n d (slice_get h.devices (d - 1))
    ∙ (ap (λ b. has h.configured n && b && has (paths_of h d) n) quorum ∙ turned (has h.configured n) (is_quorum h d) (has (paths_of h d) n)))))

at_first_agrees : (a b : Bool) → a ≡ b → Agrees (at_first b) a
at_first_agrees true true is = refl
at_first_agrees false false is = refl
at_first_agrees true false is = is
at_first_agrees false true is = is

pub first_told : (h : Header) (n d : ℕ) → length h.devices ≤ most_devices → AreDisks h → IsDevice h d
    → Agrees (at_first (is_quorum h d && has (paths_of h d) n && is_configured h n)) (has (first_valid_of (first_cluster h) n) d)
first_told h n zero many disks is = absurd (none is.0)
  where
    none : 1 ≤ 0 → ⊥
    none l = omega (arith, l)
first_told h n (suc j) many disks is =
    at_first_agrees (has (first_valid_of (first_cluster h) n) (suc j)) (is_quorum h (suc j) && has (paths_of h (suc j)) n && is_configured h n) (valid_first h n j many disks)
