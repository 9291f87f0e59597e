-- Sets keep their widths.
use Rattle.std.specs.Prelude.{ℕ, zero, suc, ◌-◌, ◌^◌, ◌≤◌, ◌<◌, All, Bool, List, [], ◌∷◌, fold, if◌then◌else◌}
use Rattle.std.specs.List.{AllByRecursion}
use Rattle.std.specs.Int.Bits.{and_le_l}
use Rattle.std.proofs.Common.{arith}
use Rattle.std.proofs.Math.Pow.{pow-lt}
use Rattle.std.proofs.lemmas.List.Elements.{All-head, All-tail}
use Rattle.std.proofs.lemmas.Nat.{or_lt}
use Rattle.cl_base.specs.Sets.{set_with, set_without}
use Rattle.cmm_attempt.specs.declared.attached.AttachedDevice.{AttachedDevice}
use Rattle.cmm_attempt.specs.declared.seizing.Seizing.{Seizing}
use Rattle.cmm_attempt.specs.Seizings.{held_set, is_held_by}
use Rattle.cmm_attempt.specs.Calls as calls
use Rattle.cmm_attempt.proofs.Basics.{if_either}
use Rattle.heartbeats.specs.Views.{set_where}
use Rattle.wire.specs.Spelling.{IsDevice, IsDevices, IsNodes}
use Rattle.node_model.specs.Clusters.{first_valid_of, is_first_valid}
use Rattle.node_model.specs.declared.cluster.Cluster.{Cluster}
use Rattle.refinement.specs.node_widths.Widths.{AreDevices, SeizingFits}

node_with : (s n : ℕ) → IsNodes s → n ≤ 32 → IsNodes (set_with s n)
unfolding set_with
node_with s n h high = or_lt 32 s (2 ^ (n - 1)) h (pow-lt {i = n - 1} {j = 32} (omega (arith, high)))

pub device_with : (s d : ℕ) → IsDevices s → IsDevice d → IsDevices (set_with s d)
unfolding set_with
device_with s d h is = or_lt 16 s (2 ^ (d - 1)) h (pow-lt {i = d - 1} {j = 16} (omega (arith, is.0, is.1)))

lower : (x y z : ℕ) → x ≤ y → y < z → x < z
lower x y z le lt = omega (arith, le, lt)

pub device_without : (s d : ℕ) → IsDevices s → IsDevices (set_without s d)
unfolding set_without
device_without s d h = lower (set_without s d) s (2 ^ 16) (and_le_l s (2 ^ 32 - 1 - 2 ^ (d - 1))) h

pub nodes_without : (s n : ℕ) → IsNodes s → IsNodes (set_without s n)
unfolding set_without
nodes_without s n h = lower (set_without s n) s (2 ^ 32) (and_le_l s (2 ^ 32 - 1 - 2 ^ (n - 1))) h

held_from : (start : ℕ) (es : List Seizing) → IsDevices start → AllByRecursion SeizingFits es
    → IsDevices (fold (λ set (e : Seizing). if is_held_by e.result then set_with set e.attached.device else set) start es)
held_from start [] h all = h
held_from start (e ∷ es) h all =
    held_from (if is_held_by e.result then set_with start e.attached.device else start) es
    (if_either IsDevices (is_held_by e.result) (set_with start e.attached.device) start (device_with start e.attached.device h all.0.0) h) all.1

-- the devices that are held
pub held_fits : (es : List Seizing) → AllByRecursion SeizingFits es → IsDevices (held_set es)
held_fits es all = held_from 0 es (omega arith) all

pub nodes_where : (test : ℕ → Bool) (k : ℕ) → k ≤ 32 → IsNodes (set_where test k)
nodes_where test zero h = omega arith
nodes_where test (suc k) h =
    let before : IsNodes (set_where test k) = nodes_where test k (omega (arith, h)) in
    if_either IsNodes (test (suc k)) (set_with (set_where test k) (suc k)) (set_where test k) (node_with (set_where test k) (suc k) before h) before

first_from : (c : Cluster) (n set : ℕ) (all : List AttachedDevice) → IsDevices set → All calls.IsDevice all
    → IsDevices (fold (λ set (a : AttachedDevice). if is_first_valid c n a then set_with set a.device else set) set all)
first_from c n set [] h are = h
first_from c n set (a ∷ later) h are =
    first_from c n (if is_first_valid c n a then set_with set a.device else set) later
    (if_either IsDevices (is_first_valid c n a) (set_with set a.device) set (device_with set a.device h (All-head calls.IsDevice a later are)) h)
    (All-tail calls.IsDevice a later are)

-- the devices that are valid at first
pub first_valid_fits : (c : Cluster) (n : ℕ) → AreDevices c → IsDevices (first_valid_of c n)
first_valid_fits c n are = first_from c n 0 c.attached (omega arith) are.attached
