-- A device that an install reads is joined by it where it is valid by it, as the lines tell.
use Rattle.std.specs.Prelude.{ℕ, zero, suc, ◌-◌, ◌≡◌, ◌≢◌, ◌<◌, ◌≤◌, ◌||◌, ◌⊎◌, All, Bool, true, false, List, [], ◌∷◌, length, slice_get, if◌then◌else◌}
use Rattle.std.specs.List.{AllByRecursion, list_any}
use Rattle.std.proofs.Common.{refl, sym, subst, ◌∙◌, arith, inl, inr}
use Rattle.std.proofs.lemmas.List.Elements.{All-head, All-tail}
use Rattle.std.proofs.lemmas.List.Folds.{list_any-append}
use Rattle.cl_base.proofs.SetLemmas.{none_of_zero}
use Rattle.cl_base.specs.Limits.{most_devices}
use Rattle.cl_base.specs.Sets.{has, set_with, set_without}
use Rattle.cl_base.specs.declared.header.HeaderDevice.{HeaderDevice}
use Rattle.cluster_ties.proofs.Commands.{has_same}
use Rattle.cmm_member.specs.Nodes.{AreOfDevices, Devices, NodeState, devices_after, joining_all, joining_one, joins}
use Rattle.machine_base.proofs.Puts.{same_or_not}
use Rattle.wire.specs.declared.lists.Reading.{Reading}
use Rattle.wire.specs.declared.message.Install.{Install}
use Rattle.history.specs.Moment.{Moment}
use Rattle.history.specs.Setting.{Setting, all_to, paths_in, paths_of}
use Rattle.history.specs.Seizing.{seizing_of}
use Rattle.history.specs.Validated.{Validity, at_install}
use Rattle.node_model.specs.Clusters.{has_path}
use Rattle.node_model.specs.declared.cluster.Cluster.{Cluster}
use Rattle.run_history.specs.WorldLines.{IsDevice}
use Rattle.run_seizings.proofs.Progress.{no_truth, or_left, or_right}
use Rattle.run_devices.specs.installs.Shown.{InstallSo}
use Rattle.run_devices.specs.validity.Laws.{Agrees}
use Rattle.run_devices.proofs.validity.Installs.{few, install_makes, less_other, less_same, more_same}

-- ---- the devices of the header

-- the paths that the node has are the header's
abbrev pub Paths : Setting → Cluster → ℕ → Type 0
Paths S c n = (d : ℕ) → 1 ≤ d → has_path c.attached n d ≡ has (paths_of S.header d) n

pub path_in : (n : ℕ) (ds : List HeaderDevice) (j : ℕ) → has (paths_in (slice_get ds j)) n ≡ true → j < length ds
path_in n [] j is = absurd (no_truth (sym (none_of_zero n) ∙ is))
path_in n (x ∷ ds) zero is = above (length ds)
  where
    above : (k : ℕ) → 0 < suc k
    above k = omega arith
path_in n (x ∷ ds) (suc j) is = more j (length ds) (path_in n ds j is)
  where
    more : (a b : ℕ) → a < b → suc a < suc b
    more a b l = omega (arith, l)

pub up_to : (a k : ℕ) → 1 ≤ a → a - 1 < k → a ≤ k
up_to a k l m = omega (arith, l, m)

pub any_to : (P : ℕ → Bool) (k d : ℕ) → 1 ≤ d → d ≤ k → P d ≡ true → list_any P (all_to k) ≡ true
any_to P zero d low high is = absurd (none d low high)
  where
    none : (a : ℕ) → 1 ≤ a → a ≤ 0 → ⊥
    none a l m = omega (arith, l, m)
any_to P (suc k) d low high is = list_any-append P (all_to k) (suc k ∷ []) ∙ by_place (same_or_not d (suc k)) (λ under. any_to P k d low under is)
  where
    below : (a b : ℕ) → a ≤ suc b → a ≢ suc b → a ≤ b
    below a b l ne = omega (arith, l, ne)

    by_place : (d ≡ suc k) ⊎ (d ≢ suc k) → (d ≤ k → list_any P (all_to k) ≡ true) → (list_any P (all_to k) || (P (suc k) || false)) ≡ true
    by_place (inl same) f = or_right (list_any P (all_to k)) (P (suc k) || false) (or_left (P (suc k)) false (subst (λ e. P e ≡ true) same is))
    by_place (inr ne) f = or_left (list_any P (all_to k)) (P (suc k) || false) (f (below d k high ne))

-- ---- a device that was read is joined where it is valid

abbrev joined_by : Bool → Devices → ℕ → Devices
joined_by b D d = if b then record { valid = set_with D.valid d; joined = set_with D.joined d } else record { valid = set_without D.valid d; joined = set_without D.joined d }

turned : (a b : ℕ) → a ≢ b → b ≢ a
turned a b ne e = ne (sym e)

other_same : (b : Bool) (D : Devices) (d e : ℕ) → 1 ≤ e → e ≤ 32 → 1 ≤ d → d ≤ 32 → d ≢ e
    → (has (joined_by b D d).valid e ≡ has D.valid e) × (has (joined_by b D d).joined e ≡ has D.joined e)
other_same true D d e low high lo hi ne = (has_same D.valid d e lo hi (turned d e ne), has_same D.joined d e lo hi (turned d e ne))
other_same false D d e low high lo hi ne = (less_other D.valid d e lo hi low high (turned d e ne), less_other D.joined d e lo hi low high (turned d e ne))

here_same : (b : Bool) (D : Devices) (d : ℕ) → 1 ≤ d → d ≤ 32 → has (joined_by b D d).joined d ≡ has (joined_by b D d).valid d
here_same true D d low high = more_same D.joined d low high ∙ sym (more_same D.valid d low high)
here_same false D d low high = less_same D.joined d low high ∙ sym (less_same D.valid d low high)

others_same : (me d : ℕ) (D : Devices) (rs : List Reading) → 1 ≤ d → d ≤ 32 → AreOfDevices rs → All (λ (r : Reading). r.device ≢ d) rs → has D.joined d ≡ has D.valid d
    → has (joining_all me D rs).joined d ≡ has (joining_all me D rs).valid d
others_same me d D [] low high apart other same = same
others_same me d D (r ∷ rs) low high apart other same =
    let ne : r.device ≢ d = All-head (λ (z : Reading). z.device ≢ d) r rs other in
    let two : (has (joining_one me D r).valid d ≡ has D.valid d) × (has (joining_one me D r).joined d ≡ has D.joined d) =
    other_same (joins me D.valid r) D r.device d low high apart.0 (few r.device apart.1) ne in
    others_same me d (joining_one me D r) rs low high apart.3 (All-tail (λ (z : Reading). z.device ≢ d) r rs other) (two.1 ∙ (same ∙ sym two.0))

all_same : (me : ℕ) (D : Devices) (rs : List Reading) → AreOfDevices rs
    → AllByRecursion (λ (r : Reading). has (joining_all me D rs).joined r.device ≡ has (joining_all me D rs).valid r.device) rs
all_same me D [] apart = tt
all_same me D (r ∷ rs) apart = (
  others_same me r.device (joining_one me D r) rs apart.0 (few r.device apart.1) apart.3 apart.2 (here_same (joins me D.valid r) D r.device apart.0 (few r.device apart.1)),
  all_same me (joining_one me D r) rs apart.3,
)

-- ---- as the lines tell

-- each device that is read is joined by the install itself where it is valid by it, as the seizings tell it of what was held before
abbrev pub ReadAgrees : Setting → ℕ → ℕ → ℕ → ℕ → List Moment → List Reading → Type 0
ReadAgrees S n e held joined_set ms rs =
    AllByRecursion (λ (r : Reading). IsDevice S.header r.device → (v : Validity) → Agrees v (has held r.device)
    → Agrees (at_install S.header n (seizing_of S.header e r.device ms) v) (has joined_set r.device)) rs

pub read_agrees : (S : Setting) (n : ℕ) (ms : List Moment) (r : NodeState) (i : Install) → length S.header.devices ≤ most_devices → n ≤ 32 → InstallSo S.header ms n r i
    → ReadAgrees S n i.epoch r.saved.valid (devices_after r i).joined ms i.readings
read_agrees S n ms r i many low so = each i.readings (all_same r.me (record { valid = r.saved.valid; joined = 0 }) i.readings so.apart)
  where
    D : Devices
    D = devices_after r i

    each : (rs : List Reading) → AllByRecursion (λ (z : Reading). has D.joined z.device ≡ has D.valid z.device) rs → ReadAgrees S n i.epoch r.saved.valid D.joined ms rs
    each [] k = tt
    each (z ∷ rs) k = (
      λ is v agrees.
          subst (λ b. Agrees (at_install S.header n (seizing_of S.header i.epoch z.device ms) v) b) (sym k.0)
          (install_makes S.header ms n z.device r.saved.valid r i v many is low refl so agrees),
      each rs k.1,
    )
