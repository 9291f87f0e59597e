-- Of each device an install makes what the lines say: the seizer's own is valid, that of another member stays or lapses by what the seizer read.
use Rattle.std.specs.Prelude.{zero, suc, ℕ, ◌-◌, ◌^◌, ◌⊎◌, ◌&&◌, ◌||◌, ◌≡◌, ◌≢◌, ◌<◌, ◌≤◌, ◌==◌, nat_le, All, Bool, true, false, List, [], ◌∷◌, length, None, Some, if◌then◌else◌}
use Rattle.std.specs.List.{AllByRecursion, list_any}
use Rattle.std.proofs.Common.{refl, sym, ap, subst, ◌∙◌, arith, inl, inr, w32}
use Rattle.std.proofs.lemmas.Nat.Bits.{bit_at_clear_other, bit_at_clear_same}
use Rattle.attempt_laws.proofs.Goes.{chosen_reached, goes_by_call}
use Rattle.attempt_laws.proofs.Stays.{plan_stays}
use Rattle.cl_base.proofs.SetLemmas.{and_bit_value, has_at, has_with, none_of_zero, or_bit_value}
use Rattle.cl_base.specs.Limits.{most_devices}
use Rattle.cl_base.specs.Sets.{has, set_with, set_without}
use Rattle.cl_base.specs.declared.header.Header.{Header}
use Rattle.cluster_ties.proofs.Commands.{has_same}
use Rattle.cmm_attempt.specs.Attempts.{AttemptState, install_in}
use Rattle.cmm_attempt.specs.Calls as calls
use Rattle.cmm_attempt.specs.Calls.{Call, turn}
use Rattle.cmm_attempt.specs.declared.plan.Plan.{Plan}
use Rattle.cmm_member.specs.Nodes.{AreOfDevices, Devices, NodeState, devices_after, has_key_of, joining_all, joining_one, joins}
use Rattle.cmm_member.specs.Records.{NodeRecord}
use Rattle.membership_machine.specs.State.{Memberships}
use Rattle.wire.specs.declared.lists.Reading.{Reading}
use Rattle.wire.specs.declared.message.Body.TheVariants as body
use Rattle.wire.specs.declared.message.Install.{Install}
use Rattle.history.specs.Moment.{Moment}
use Rattle.history.specs.Seizing.{is_attempt, seizing_of}
use Rattle.history.specs.Trace.{installed, saved}
use Rattle.history.specs.Validated.{Lapsed, Open, Valid, Validity, at_install, validity}
use Rattle.node_model.specs.Seats.{session_of}
use Rattle.node_model.specs.declared.cluster.Cluster.{Cluster}
use Rattle.node_model.specs.declared.node.Node.TheVariants.{Up}
use Rattle.node_model.specs.declared.node.UpNode.{UpNode}
use Rattle.refinement.proofs.Attempts.{install_epoch, may_be_called}
use Rattle.refinement.specs.Doings.{site}
use Rattle.refinement.specs.Doings.Change.{Counts}
use Rattle.refinement.specs.Guards.{MayChange, Says}
use Rattle.refinement.specs.Runs.{Nodes}
use Rattle.refinement.specs.Ties.{Delivered}
use Rattle.run_history.proofs.Changes.{At, at_attempt}
use Rattle.run_history.proofs.WholeChanges.{attached_of}
use Rattle.run_history.specs.Guards.{AtCall, Hand}
use Rattle.run_history.specs.Scenes.{Scene, passing}
use Rattle.run_history.specs.WorldLines.{IsDevice}
use Rattle.run_seizings.specs.Seized.{AttemptSo, HeldSo, IsKnown, ReadSo, StandsSo}
use Rattle.run_seizings.specs.Sites.{InHand}
use Rattle.run_seizings.proofs.Brings.{reads_so}
use Rattle.run_seizings.proofs.Calls.{attempt_of, call_keeps}
use Rattle.run_seizings.proofs.Changes.{mid}
use Rattle.run_seizings.proofs.Goes as seizings
use Rattle.run_seizings.proofs.Progress.{if_so, or_left, same_is}
use Rattle.run_seizings.proofs.Stays.{reads_stay}
use Rattle.run_seizings.proofs.Turns.{Keeps}
use Rattle.machine_base.proofs.Puts.{same_or_not}
use Rattle.run_devices.proofs.readings.Installs.{installs_as_read}
use Rattle.run_devices.specs.readings.Laws.{IsSo, told_in}
use Rattle.run_devices.specs.installs.Shown.{InstallSo}
use Rattle.run_devices.specs.validity.Laws.{Agrees}

no_truth : false ≡ true → ⊥
no_truth e = cc

-- ---- sets

pub less_other : (set d e : ℕ) → 1 ≤ d → d ≤ 32 → 1 ≤ e → e ≤ 32 → e ≢ d → has (set_without set d) e ≡ has set e
less_other set d e low high lo hi ne =
    ap (λ s. has s e) (sym (and_bit_value set d high))
    ∙ (has_at _ e lo ∙ (ap (λ b. b == 1) (bit_at_clear_other w32 set (d - 1) (under d low high) (e - 1) (under e lo hi) (apart d e low lo ne)) ∙ sym (has_at set e lo)))
  where
    under : (k : ℕ) → 1 ≤ k → k ≤ 32 → k - 1 < 32
    under k l m = omega (arith, l, m)

    apart : (a b : ℕ) → 1 ≤ a → 1 ≤ b → b ≢ a → b - 1 ≢ a - 1
    apart a b l m n e = n (omega (arith, l, m, e))

pub few : (d : ℕ) → d ≤ 16 → d ≤ 32
few d l = omega (arith, l)

before : (k : ℕ) → 1 ≤ k → k ≤ 32 → k - 1 < 32
before k l m = omega (arith, l, m)

pub less_same : (set d : ℕ) → 1 ≤ d → d ≤ 32 → has (set_without set d) d ≡ false
less_same set d low high =
    ap (λ s. has s d) (sym (and_bit_value set d high)) ∙ (has_at _ d low ∙ ap (λ b. b == 1) (bit_at_clear_same w32 set (d - 1) (before d low high)))

pub more_same : (set d : ℕ) → 1 ≤ d → d ≤ 32 → has (set_with set d) d ≡ true
more_same set d low high =
    ap (λ s. has s d) (sym (or_bit_value set d high)) ∙ (has_with set d low high d ∙ or_left (d == d) (has set d) (same_is d))

-- ---- what an install makes of a device rests on the device alone

turned : (a b : ℕ) → a ≢ b → b ≢ a
turned a b ne e = ne (sym e)

-- with the device that was read, or without it
abbrev joined_by : Bool → Devices → Reading → Devices
joined_by b D r =
    if b then record { valid = set_with D.valid r.device; joined = set_with D.joined r.device } else record { valid = set_without D.valid r.device; joined = set_without D.joined r.device }

here_same : (a b : Bool) (D E : Devices) (r : Reading) → 1 ≤ r.device → r.device ≤ 32 → a ≡ b → has (joined_by a D r).valid r.device ≡ has (joined_by b E r).valid r.device
here_same true true D E r lo hi e = more_same D.valid r.device lo hi ∙ sym (more_same E.valid r.device lo hi)
here_same false false D E r lo hi e = less_same D.valid r.device lo hi ∙ sym (less_same E.valid r.device lo hi)
here_same true false D E r lo hi e = absurd (no_truth (sym e))
here_same false true D E r lo hi e = absurd (no_truth e)

there_same : (b : Bool) (D : Devices) (r : Reading) (d : ℕ) → 1 ≤ d → d ≤ 32 → 1 ≤ r.device → r.device ≤ 32 → r.device ≢ d → has (joined_by b D r).valid d ≡ has D.valid d
there_same true D r d low high lo hi ne = has_same D.valid r.device d lo hi (turned r.device d ne)
there_same false D r d low high lo hi ne = less_other D.valid r.device d lo hi low high (turned r.device d ne)

one_same : (me d : ℕ) (D E : Devices) (r : Reading) → 1 ≤ d → d ≤ 32 → 1 ≤ r.device → r.device ≤ 32 → has D.valid d ≡ has E.valid d
    → has (joining_one me D r).valid d ≡ has (joining_one me E r).valid d
one_same me d D E r low high lo hi same = by_device (same_or_not r.device d)
  where
    by_device : (r.device ≡ d) ⊎ (r.device ≢ d) → has (joining_one me D r).valid d ≡ has (joining_one me E r).valid d
    by_device (inl is) =
        subst (λ z. has (joining_one me D r).valid z ≡ has (joining_one me E r).valid z) is
        (here_same (joins me D.valid r) (joins me E.valid r) D E r lo hi
        (ap (λ b. (r.seizer == me) || (has_key_of me r.keys && b)) (subst (λ z. has D.valid z ≡ has E.valid z) (sym is) same)))
    by_device (inr ne) =
        there_same (joins me D.valid r) D r d low high lo hi ne ∙ (same ∙ sym (there_same (joins me E.valid r) E r d low high lo hi ne))

all_same : (me d : ℕ) (D E : Devices) (rs : List Reading) → 1 ≤ d → d ≤ 32 → AreOfDevices rs → has D.valid d ≡ has E.valid d
    → has (joining_all me D rs).valid d ≡ has (joining_all me E rs).valid d
all_same me d D E [] low high apart same = same
all_same me d D E (r ∷ rs) low high apart same =
    all_same me d (joining_one me D r) (joining_one me E r) rs low high apart.3 (one_same me d D E r low high apart.0 (few r.device apart.1) same)

-- ---- the line of an install

agrees_so : (v : Validity) (b : Bool) → IsSo v b → Agrees v b
agrees_so Valid b k = k
agrees_so Lapsed b k = k
agrees_so Open b k = k

so_agrees : (v : Validity) (b : Bool) → Agrees v b → IsSo v b
so_agrees Valid b k = k
so_agrees Lapsed b k = k
so_agrees Open b k = k

-- the set of all devices has each
none_low : 1 ≤ 0 → ⊥
none_low l = omega (arith, l)

too_high : (k : ℕ) → suc (suc (suc (suc (suc (suc (suc (suc (suc (suc (suc (suc (suc (suc (suc (suc (suc (k))))))))))))))))) ≤ 16 → ⊥
too_high k l = omega (arith, l)

full : (d : ℕ) → 1 ≤ d → d ≤ 16 → has 65535 d ≡ true
unfolding has
full zero low high = absurd (none_low low)
full (suc zero) low high = refl
full (suc (suc zero)) low high = refl
full (suc (suc (suc zero))) low high = refl
full (suc (suc (suc (suc zero)))) low high = refl
full (suc (suc (suc (suc (suc zero))))) low high = refl
full (suc (suc (suc (suc (suc (suc zero)))))) low high = refl
full (suc (suc (suc (suc (suc (suc (suc zero))))))) low high = refl
full (suc (suc (suc (suc (suc (suc (suc (suc zero)))))))) low high = refl
full (suc (suc (suc (suc (suc (suc (suc (suc (suc zero))))))))) low high = refl
full (suc (suc (suc (suc (suc (suc (suc (suc (suc (suc zero)))))))))) low high = refl
full (suc (suc (suc (suc (suc (suc (suc (suc (suc (suc (suc zero))))))))))) low high = refl
full (suc (suc (suc (suc (suc (suc (suc (suc (suc (suc (suc (suc zero)))))))))))) low high = refl
full (suc (suc (suc (suc (suc (suc (suc (suc (suc (suc (suc (suc (suc zero))))))))))))) low high = refl
full (suc (suc (suc (suc (suc (suc (suc (suc (suc (suc (suc (suc (suc (suc zero)))))))))))))) low high = refl
full (suc (suc (suc (suc (suc (suc (suc (suc (suc (suc (suc (suc (suc (suc (suc zero))))))))))))))) low high = refl
full (suc (suc (suc (suc (suc (suc (suc (suc (suc (suc (suc (suc (suc (suc (suc (suc zero)))))))))))))))) low high = refl
full (suc (suc (suc (suc (suc (suc (suc (suc (suc (suc (suc (suc (suc (suc (suc (suc (suc k))))))))))))))))) low high = absurd (too_high k high)

-- a set of devices that has a device or not
some_set : Bool → ℕ
some_set true = 65535
some_set false = 0

-- whatever was told of the device before
pub install_makes : (h : Header) (ms : List Moment) (n d : ℕ) (old : ℕ) (r : NodeState) (i : Install) (v : Validity) → length h.devices ≤ most_devices → IsDevice h d → n ≤ 32
    → r.saved.valid ≡ old → InstallSo h ms n r i → Agrees v (has old d) → Agrees (at_install h n (seizing_of h i.epoch d ms) v) (has (devices_after r i).valid d)
unfolding some_set
install_makes h ms n d old r i v many is low same so k =
    let b : Bool = has r.saved.valid d in
    let s : NodeState = record r { saved = record r.saved { valid = some_set b } } in
    subst (λ o. Agrees (at_install h n o v) (has (devices_after r i).valid d)) (so.told d)
    (agrees_so _ _ (subst (λ z. IsSo (at_install h n (told_in i.readings d) v) z)
    (all_same r.me d (record { valid = some_set b; joined = 0 }) (record { valid = r.saved.valid; joined = 0 }) i.readings is.0 high so.apart (some_has b))
    (subst (λ z. IsSo (at_install h z (told_in i.readings d) v) (has (devices_after s i).valid d)) so.me
    (installs_as_read h ms s i d v (some_narrow b) so.apart (subst (λ z. z ≤ 32) (sym so.me) low) so.read
    (subst (λ z. IsSo v z) (sym (some_has b)) (so_agrees v b (subst (λ z. Agrees v (has z d)) (sym same) k)))))))
  where
    high : d ≤ 32
    high = within (length h.devices) is.1 many
      where
        within : (m : ℕ) → d ≤ m → m ≤ most_devices → d ≤ 32
        within m l q = omega (arith, l, q)

    top : d ≤ 16
    top = within (length h.devices) is.1 many
      where
        within : (m : ℕ) → d ≤ m → m ≤ most_devices → d ≤ 16
        within m l q = omega (arith, l, q)

    some_narrow : (b : Bool) → some_set b < 2 ^ 16
    some_narrow true = omega arith
    some_narrow false = omega arith

    some_has : (b : Bool) → has (some_set b) d ≡ b
    some_has true = full d is.0 top
    some_has false = none_of_zero d

pub install_told : (h : Header) (ms : List Moment) (n d : ℕ) (old : ℕ) (r : NodeState) (i : Install) → length h.devices ≤ most_devices → IsDevice h d → n ≤ 32 → r.saved.valid ≡ old
    → InstallSo h ms n r i → Agrees (validity h n d ms) (has old d) → Agrees (validity h n d (installed n i.epoch ∷ ms)) (has (devices_after r i).valid d)
install_told h ms n d old r i many is low same so k =
    subst (λ v. Agrees v (has (devices_after r i).valid d))
    (sym (if_so (n == n) (at_install h n (seizing_of h i.epoch d ms) (validity h n d ms)) (validity h n d ms) (same_is n)))
    (install_makes h ms n d old r i (validity h n d ms) many is low same so k)

-- ---- what it brings was seized for it

pub record Brings (h : Header) (ms : List Moment) (i : Install) : Type 0 where
  pub begun : list_any (is_attempt i.epoch) ms ≡ true
  pub reads : ReadSo h ms i.epoch i.readings

pub mid_brings : (h : Header) (n : ℕ) (i : Install) (b : Bool) (s : Scene) → Brings h s.moments i → Brings h (passing n (mid b n) s).moments i
mid_brings h n i false s k = k
mid_brings h n i true s k = record { begun = k.begun; reads = reads_stay h s.moments (saved n) i.epoch i.readings tt k.begun k.reads }

pub install_brings : (h : Header) (ms : List Moment) (n : ℕ) (told : Delivered) (i : Install) → Says (λ b. b ≡ body.Install i) told → InHand h ms n told → Brings h ms i
install_brings h ms n None i says hand = absurd says
install_brings h ms n (Some d) i says hand =
    let stands : StandsSo h ms d.0 (body.Install i) = subst (λ b. StandsSo h ms d.0 b) says hand.stands in
    record { begun = stands.0.1; reads = stands.1 }

pub counts_bring : (h : Header) (c : Cluster) (M : Memberships) (n : ℕ) (told : Delivered) (v w : Nodes) (disk : NodeRecord) (x : UpNode) (g : Hand) (a : AttemptState) (q : Call)
    (r : NodeState) (i : Install) (s : Scene) → nat_le n 32 ≡ true → At c M n told disk x → MayChange c n told x (Counts a q r i) → AtCall x q
    → seizings.Goes h n told v w (site (Up x) disk) g s → Brings h s.moments i
counts_bring h c M n told v w disk x g a q r i s low at may guard z =
    let old : AttemptSo h s.moments n (session_of x) a = attempt_of h s.moments n (session_of x) x.attempt a may.0 z.here.up.attempt in
    let t : AttemptState = (turn a q).after in
    let plan : t.plan ≡ a.plan = plan_stays a q (may_be_called c told a q may.2) in
    let gives : i ≡ install_in t =
    at_attempt c M n told disk x a (i ≡ install_in t) at may.0 (λ z shows co. ((goes_by_call a q (may_be_called c told a q may.2) (chosen_reached a co.reached)).install i may.3).1) in
    let fits : All calls.IsDevice a.plan.attached = at_attempt c M n told disk x a (All calls.IsDevice a.plan.attached) at may.0 (λ z shows co. attached_of a co.reached) in
    let keeps : Keeps (IsKnown h s.moments a.plan.epoch) a t = call_keeps h c s.moments n told x a q low may.2 guard z.hand z.here.up old in
    let epoch : i.epoch ≡ a.plan.epoch = ap (λ (z : Install). z.epoch) gives ∙ (install_epoch t ∙ ap (λ (z : Plan). z.epoch) plan) in
    let reads : ReadSo h s.moments t.plan.epoch (install_in t).readings =
    reads_so h s.moments t (subst (λ (z : Plan). All calls.IsDevice z.attached) (sym plan) fits)
    (subst (λ (z : Plan). AllByRecursion (HeldSo (IsKnown h s.moments z.epoch)) t.devices) (sym plan) keeps.2) in
    record {
      begun = subst (λ e. list_any (is_attempt e) s.moments ≡ true) (sym epoch) old.of.0;
      reads = subst (λ (z : Install). ReadSo h s.moments z.epoch z.readings) (sym gives)
          (subst (λ e. ReadSo h s.moments e (install_in t).readings) (sym (install_epoch t)) reads);
    }
