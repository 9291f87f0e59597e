-- Devices of the header: their paths, which stay, and that none is a server.
use Rattle.std.specs.Prelude.{ℕ, zero, suc, ◌+◌, ◌-◌, ◌≡◌, ◌<◌, ◌≤◌, ◌==◌, ◌&&◌, ◌||◌, Bool, true, false, List, [], ◌∷◌, Option, None, Some, slice_get}
use Rattle.std.specs.List.{AllByRecursion}
use Rattle.std.proofs.Common.{refl, sym, ap, ◌∙◌, arith}
use Rattle.cl_base.specs.Sets.{has}
use Rattle.cl_base.proofs.SetLemmas.{none_of_zero}
use Rattle.cl_base.specs.declared.header.DeviceKind.{DeviceKind}
use Rattle.cl_base.specs.declared.header.DeviceKind.TheVariants.{Data, Quorum, Server}
use Rattle.cl_base.specs.declared.header.Header.{Header}
use Rattle.cl_base.specs.declared.header.HeaderDevice.{HeaderDevice}
use Rattle.cmm_attempt.proofs.Basics.{if_either}
use Rattle.pgr_device.specs.Device.{Device}
use Rattle.pgr_device.specs.declared.command.PrCommand.{PrCommand}
use Rattle.pgr_device.specs.declared.run.Step.TheVariants.{Command}
use Rattle.pgr_device.specs.Spc.{step}
use Rattle.pgr_device.proofs.Laws.{run_stays}
use Rattle.history.specs.DeviceRun.{armed_fault, commanded, state_of}
use Rattle.history.specs.Moment.{Moment}
use Rattle.history.specs.Setting.{is_server, is_server_in, is_server_kind, paths_in, paths_of}
use Rattle.history.specs.Trace.{device}
use Rattle.node_model.specs.Clusters.{has_path}
use Rattle.world_model.specs.First.{attached_from, first_cluster}
use Rattle.run_history.specs.WorldLines.{AreDisks, IsDisk}

-- ---- who has a path

no_path_above : (k d n : ℕ) (ds : List HeaderDevice) → d < k → has_path (attached_from k ds) n d ≡ false
no_path_above k d n [] low = refl
no_path_above k d n (x ∷ ds) low = neither (k == d) (has x.attached n) (has_path (attached_from (k + 1) ds) n d) (other k d low) (no_path_above (k + 1) d n ds (above k d low))
  where
    other : (a b : ℕ) → b < a → (a == b) ≡ false
    other a b h = grind arith

    above : (a b : ℕ) → b < a → b < a + 1
    above a b h = omega (arith, h)

    neither : (p q r : Bool) → p ≡ false → r ≡ false → ((p && q) || r) ≡ false
    neither false q r e h = h
    neither true q r e h = absurd (cc)

path_at : (k j n : ℕ) (ds : List HeaderDevice) → has_path (attached_from k ds) n (k + j) ≡ has (paths_in (slice_get ds j)) n
path_at k j n [] = sym (none_of_zero n)
path_at k zero n (x ∷ ds) = here (k == k + zero) (has x.attached n) (has_path (attached_from (k + 1) ds) n (k + zero)) (same k) (no_path_above (k + 1) (k + zero) n ds (below k))
  where
    same : (a : ℕ) → (a == a + zero) ≡ true
    same a = grind arith

    below : (a : ℕ) → a + zero < a + 1
    below a = omega arith

    here : (p q r : Bool) → p ≡ true → r ≡ false → ((p && q) || r) ≡ q
    here true true r e h = refl
    here true false r e h = h
    here false q r e h = absurd (cc)
path_at k (suc j) n (x ∷ ds) =
    later (k == k + suc j) (has x.attached n) (has_path (attached_from (k + 1) ds) n (k + suc j)) (other k j)
    ∙ (ap (λ d. has_path (attached_from (k + 1) ds) n d) (next k j) ∙ path_at (k + 1) j n ds)
  where
    other : (a b : ℕ) → (a == a + suc b) ≡ false
    other a b = grind arith

    next : (a b : ℕ) → a + suc b ≡ (a + 1) + b
    next a b = omega arith

    later : (p q r : Bool) → p ≡ false → ((p && q) || r) ≡ r
    later false q r e = refl
    later true q r e = absurd (cc)

-- a node has a path to a device where the header says so
pub path_so : (h : Header) (n d : ℕ) → 1 ≤ d → has_path (first_cluster h).attached n d ≡ has (paths_of h d) n
path_so h n d low = ap (λ z. has_path (attached_from 1 h.devices) n z) (back d low) ∙ path_at 1 (d - 1) n h.devices
  where
    back : (a : ℕ) → 1 ≤ a → a ≡ 1 + (a - 1)
    back a l = omega (arith, l)

-- ---- no servers

kind_so : (kind : DeviceKind) → IsDisk kind → is_server_kind kind ≡ false
kind_so Data is = refl
kind_so Quorum is = refl
kind_so Server is = absurd is

server_in : (ds : List HeaderDevice) (j : ℕ) → AllByRecursion (λ (d : HeaderDevice). IsDisk d.kind) ds → is_server_in (slice_get ds j) ≡ false
server_in [] j are = refl
server_in (x ∷ ds) zero are = kind_so x.kind are.0
server_in (x ∷ ds) (suc j) are = server_in ds j are.1

pub no_server : (h : Header) (d : ℕ) → AreDisks h → is_server h d ≡ false
no_server h d are = server_in h.devices (d - 1) are

-- ---- the paths of a device stay

step_paths : (x : Device) (n : ℕ) (k : PrCommand) → (step x n k).after.paths ≡ x.paths
step_paths x n k = run_stays x (Command n k ∷ [])

commanded_paths : (f : Option Bool) (x : Device) (n : ℕ) (k : PrCommand) → (commanded f x n k).paths ≡ x.paths
commanded_paths None x n k = step_paths x n k
commanded_paths (Some true) x n k = step_paths x n k
commanded_paths (Some false) x n k = refl

pub paths_stay : (h : Header) (d : ℕ) (ms : List Moment) → (state_of h d ms).paths ≡ paths_of h d
paths_stay h d [] = refl
paths_stay h d (device n x k a ∷ ms) =
    if_either (λ (z : Device). z.paths ≡ paths_of h d) (x == d) (commanded (armed_fault n d ms) (state_of h d ms) n k) (state_of h d ms)
    (commanded_paths (armed_fault n d ms) (state_of h d ms) n k ∙ paths_stay h d ms) (paths_stay h d ms)
paths_stay h d (_ ∷ ms) = paths_stay h d ms
