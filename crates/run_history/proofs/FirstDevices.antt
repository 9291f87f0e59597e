-- The devices before the first line are those of the header.
use Rattle.std.specs.Prelude.{ℕ, zero, suc, ◌+◌, ◌-◌, ◌*◌, ◌&&◌, ◌≡◌, ◌≤◌, ◌<◌, ◌++◌, Bool, true, false, List, [], ◌∷◌, Option, None, Some, length, map, replicate, slice_get, if◌then◌else◌}
use Rattle.std.proofs.Common.{refl, sym, ap, ◌∙◌, arith}
use Rattle.std.proofs.lemmas.List.{append-nil}
use Rattle.std.specs.List.{AllByRecursion}
use Rattle.cl_base.specs.Sets.{has}
use Rattle.cl_base.specs.declared.header.DeviceKind.{DeviceKind}
use Rattle.cl_base.specs.declared.header.DeviceKind.TheVariants.{Data, Quorum, Server}
use Rattle.cl_base.specs.declared.header.Header.{Header}
use Rattle.cl_base.specs.declared.header.HeaderDevice.{HeaderDevice}
use Rattle.pgr_device.specs.Device.{Device, first_keys, own_key}
use Rattle.pgr_device.specs.declared.registration.Registration.{Registration}
use Rattle.pgr_device.proofs.FirstKeys.{first_keys_more}
use Rattle.history.specs.DeviceRun.{keys_to}
use Rattle.history.specs.Setting.{is_configured, is_quorum_in, key_of, paths_in}
use Rattle.world_model.specs.First.{first_device, first_device_of}
use Rattle.run_history.specs.Scenes.{first_scene}
use Rattle.run_history.specs.WorldLines.{AreDisks, IsDisk}
use Rattle.run_history.proofs.LineDevices.{AtDevices}
use Rattle.run_history.proofs.Places.{none_first}

-- the keys, one node after another
one_more : (xs : List Registration) (r : Registration) (has_path configured : Bool)
    → xs ++ (if has_path && configured then r ∷ [] else []) ≡ (if configured && has_path then xs ++ r ∷ [] else xs)
one_more xs r true true = refl
one_more xs r true false = append-nil xs
one_more xs r false true = append-nil xs
one_more xs r false false = append-nil xs

one_up : (k : ℕ) → k + 1 ≡ suc k
one_up k = omega arith

same_keys : (h : Header) (attached k : ℕ) → keys_to k h attached ≡ first_keys attached h.configured h.cluster k
same_keys h attached zero = refl
same_keys h attached (suc k) =
    ap (λ xs. xs ++ (if has attached (k + 1) && is_configured h (k + 1) then record { node = k + 1; key = key_of h (k + 1) } ∷ [] else [])) (same_keys h attached k)
    ∙ one_more (first_keys attached h.configured h.cluster k) (own_key h.cluster (k + 1)) (has attached (k + 1)) (has h.configured (k + 1))
    ∙ sym (first_keys_more attached h.configured h.cluster k)
    ∙ ap (first_keys attached h.configured h.cluster) (one_up k)

-- the state of a device, by its place in the header
abbrev state_by : Header → Option HeaderDevice → Device
state_by h o = record {
  paths = paths_in o;
  registrations = if is_quorum_in o then keys_to 32 h (paths_in o) else [];
  reservation = None;
  word = 0;
  value = 0;
}

with_these : (paths : ℕ) (xs ys : List Registration) → xs ≡ ys
    → (let left : Device = record { paths = paths; registrations = xs; reservation = None; word = 0; value = 0 } in
    let right : Device = record { paths = paths; registrations = ys; reservation = None; word = 0; value = 0 } in left ≡ right)
with_these paths xs ys e = ap (λ z. record { paths = paths; registrations = z; reservation = None; word = 0; value = 0 }) e

by_kind : (h : Header) (attached : ℕ) (kind : DeviceKind) → IsDisk kind
    → first_device_of kind attached h.configured h.cluster ≡ state_by h (Some (record { kind = kind; attached = attached }))
by_kind h attached Data is = refl
by_kind h attached Quorum is = with_these attached _ _ (sym (same_keys h attached 32))
by_kind h attached Server is = absurd is

at_place : (h : Header) (ds : List HeaderDevice) (i : ℕ) → AllByRecursion (λ (d : HeaderDevice). IsDisk d.kind) ds → i < length ds
    → slice_get (map (first_device h) ds) i ≡ Some (state_by h (slice_get ds i))
at_place h [] i are lt = absurd (omega (arith, lt))
at_place h (d ∷ ds) zero are lt = ap (λ z. Some z) (by_kind h d.attached d.kind are.0)
at_place h (d ∷ ds) (suc i) are lt = at_place h ds i are.1 (omega (arith, lt))

mapped_count : {X Y : Type 0} (f : X → Y) (xs : List X) → length (map f xs) ≡ length xs
mapped_count f [] = refl
mapped_count f (x ∷ xs) = ap suc (mapped_count f xs)

none_count : (k : ℕ) → (let xs : List (Option Bool) = replicate k None in length xs ≡ k)
none_count zero = refl
none_count (suc k) = ap suc (none_count k)

below : (d l : ℕ) → 1 ≤ d → d ≤ l → d - 1 < l
below d l low most = omega (arith, low, most)

pub first_devices : (h : Header) (cells : ℕ) → AreDisks h → AtDevices h (first_scene h cells)
unfolding first_scene
first_devices h cells are = record {
  count = mapped_count (first_device h) h.devices;
  room = none_count (h.nodes * length h.devices);
  states = λ d is. at_place h h.devices (d - 1) are (below d (length h.devices) is.0 is.1);
  armed = λ n d low is. none_first (h.nodes * length h.devices) ((n - 1) * length (map (first_device h) h.devices) + (d - 1));
  run = tt;
}
