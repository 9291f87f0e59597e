-- Each thing that happens, and all of them: every run is one of the machine of the whole.
use Rattle.std.specs.Prelude.{ℕ, zero, suc, ◌+◌, ◌-◌, ◌≡◌, ◌≤◌, ◌<◌, ◌^◌, ◌++◌, ◌==◌, ◌||◌, All, Bool, true, false, List, [], ◌∷◌, length, map, slice_get, slice_index_or}
use Rattle.std.proofs.Common.{refl, sym, subst, arith}
use Rattle.std.proofs.lemmas.List.Elements.{All-cons, All-nil}
use Rattle.std.specs.List.{list_any}
use Rattle.attempt_laws.specs.Asking.{AreApart, numbers_of}
use Rattle.cl_base.specs.declared.header.DeviceKind.TheVariants.{Data}
use Rattle.cl_base.specs.declared.header.Header.{Header}
use Rattle.cl_base.specs.declared.header.HeaderDevice.{HeaderDevice}
use Rattle.cl_base.specs.declared.method.Outcome as method
use Rattle.cluster_machine.proofs.Safety.{attempts, meetings, outsiders, promises, records, reservations, tasks, valid_nodes, words}
use Rattle.cluster_machine.proofs.SampleRun.{run_on}
use Rattle.cluster_machine.proofs.Whole.{InOrder}
use Rattle.run_history.proofs.DeedRuns.{repository_of_each_run, runs_are_cut}
use Rattle.run_history.specs.Cuts.{Cut, Cuts, StepCut, all_events, events_of, step_events}
use Rattle.run_history.specs.Runs.{CutsOf}
use Rattle.cluster_ties.proofs.First.{first_devices_are_tied, first_is_tied, in_order}
use Rattle.cluster_ties.proofs.Safe.{reached_is_safe}
use Rattle.cluster_ties.specs.Laws.{IsFirst}
use Rattle.cmm_attempt.specs.Calls.{IsDevice}
use Rattle.device_machine.specs.Device as machine
use Rattle.device_ties.specs.Devices.{DeviceTied}
use Rattle.interconnect.specs.Links.{Packet, sending}
use Rattle.node_model.specs.Clusters.{first_valid_of}
use Rattle.node_model.specs.declared.cluster.Cluster.{Cluster}
use Rattle.node_model.specs.declared.input.Input.TheVariants as input
use Rattle.pgr_device.specs.declared.command.PrCommand.{PrCommand}
use Rattle.pgr_device.specs.declared.command.PrCommand.TheVariants as command
use Rattle.record_disk.specs.Disks.{empty_disk}
use Rattle.refinement.proofs.node_widths.Sets.{first_valid_fits}
use Rattle.refinement.proofs.Acts.{run_append}
use Rattle.refinement.proofs.DeviceWidths.{first_devices_fit}
use Rattle.refinement.proofs.Lines.{few_attached}
use Rattle.refinement.proofs.Logs.{no_updates}
use Rattle.refinement.specs.Ties.{setting_of}
use Rattle.world_model.specs.First.{attached_from, first_cluster, first_device}
use Rattle.run_history.specs.Happenings as happening
use Rattle.run_history.specs.Happenings.{Commanded, Happening, MayAllHappen, MayHappen, all_happened, answering, commanded, commanded_at, happened, wrote}
use Rattle.run_history.specs.Scenes.{Scene, first_scene}
use Rattle.run_history.proofs.Flying.{Flying, dropped_links, dropped_same, packet_told, removing_told, sending_told}
use Rattle.run_history.proofs.Happens.{arrived, commands_by, kept_whole, spoken, taken}
use Rattle.run_history.proofs.WholeScenes.{Follows}
use Rattle.run_history.proofs.Stores.{write_safe, writes_by}
use Rattle.run_history.specs.Wholes.{IsRunOfWhole, IsWhole, RepositoriesAreKept, RunsAreWhole, RunsWriteSafely, WholeRunsAreInOrder, WholeRunsAreSafe, device_at, first_state, no_device, registered_at, registered_in, valid_at}
use Rattle.run_history.specs.Sites.{IsCluster}

repeated : (c : Cluster) (s : Scene) (w : IsWhole c s) (number : ℕ) (x : Packet) → MayHappen c s (happening.Repeats number x) → Follows c s w (happened c s (happening.Repeats number x)) []
repeated c s w number x may =
    kept_whole c s (happened c s (happening.Repeats number x)) w (dropped_same (sending s.links x.from x.to x.bytes).sent.dropped _).nodes (dropped_same (sending s.links x.from x.to x.bytes).sent.dropped _).devices
    (subst (Flying w.machine) (sym (dropped_links (sending s.links x.from x.to x.bytes).sent.dropped _))
    (sending_told w.machine s.links x.from x.to x.bytes w.flying (packet_told w.machine s.links number x w.flying may.0)))

-- a command that happens is the one at its device
commanded_same : (s : Scene) (n d : ℕ) (k : PrCommand) → commanded_at s n d (slice_get s.devices (d - 1)) k ≡ commanded s n d k
commanded_same s n d k = refl

commands : (c : Cluster) (s : Scene) (w : IsWhole c s) (n d : ℕ) (k : PrCommand) (now : ℕ) (ends : method.Outcome) (o : Commanded) → commanded_at s n d (slice_get s.devices (d - 1)) k ≡ o
    → (cut : StepCut c n now ends s.nodes (input.Answered o.answer)) → MayHappen c s (happening.Commands n d k now ends)
    → Follows c s w (answering c n now ends o) (step_events c n now ends s.nodes (input.Answered o.answer) cut)
commands c s w n d k now ends o same cut may =
    subst (λ (z : Commanded). (q : StepCut c n now ends s.nodes (input.Answered z.answer)) → Follows c s w (answering c n now ends z) (step_events c n now ends s.nodes (input.Answered z.answer) q)) same
    (λ q. commands_by c s w n d k now ends (slice_get s.devices (d - 1)) refl q may) cut

stores : (c : Cluster) (s : Scene) (w : IsWhole c s) (n d value now : ℕ) (ends : method.Outcome) (o : Commanded) → commanded_at s n d (slice_get s.devices (d - 1)) (command.Write value) ≡ o
    → (cut : StepCut c n now ends s.nodes (input.Wrote d value o.answer)) → MayHappen c s (happening.Writes n d value now ends)
    → Follows c s w (wrote c n d value now ends o) (step_events c n now ends s.nodes (input.Wrote d value o.answer) cut)
stores c s w n d value now ends o same cut may =
    subst (λ (z : Commanded). (q : StepCut c n now ends s.nodes (input.Wrote d value z.answer)) → Follows c s w (wrote c n d value now ends z) (step_events c n now ends s.nodes (input.Wrote d value z.answer) q)) same
    (λ q. writes_by c s w n d value now ends (slice_get s.devices (d - 1)) refl q may) cut

pub happens : (c : Cluster) (s : Scene) (w : IsWhole c s) (h : Happening) (cut : Cut c s h) → MayHappen c s h → Follows c s w (happened c s h) (events_of c s h cut)
happens c s w (happening.Speaks e) cut may = spoken c s w e
happens c s w (happening.Begins e) cut may = kept_whole c s (happened c s (happening.Begins e)) w refl refl w.flying
happens c s w (happening.Notes e) cut may = kept_whole c s (happened c s (happening.Notes e)) w refl refl w.flying
happens c s w (happening.Takes n now ends i) cut may = taken c s w n now ends i cut may
happens c s w (happening.Arrives number x m now ends) cut may = arrived c s w number x m now ends cut may
happens c s w (happening.Strays number x) cut may = kept_whole c s (happened c s (happening.Strays number x)) w refl refl (removing_told w.machine s.links number w.flying)
happens c s w (happening.Misses number x) cut may = kept_whole c s (happened c s (happening.Misses number x)) w refl refl (removing_told w.machine s.links number w.flying)
happens c s w (happening.Loses number x) cut may = kept_whole c s (happened c s (happening.Loses number x)) w refl refl (removing_told w.machine s.links number w.flying)
happens c s w (happening.Repeats number x) cut may = repeated c s w number x may
happens c s w (happening.Commands n d k now ends) cut may = commands c s w n d k now ends (commanded s n d k) (commanded_same s n d k) cut may
happens c s w (happening.Writes n d value now ends) cut may = stores c s w n d value now ends (commanded s n d (command.Write value)) (commanded_same s n d (command.Write value)) cut may
happens c s w (happening.Refuses n d value cause) cut may = kept_whole c s (happened c s (happening.Refuses n d value cause)) w refl refl w.flying

-- All of them.
pub all_follow : (c : Cluster) (s : Scene) (w : IsWhole c s) (hs : List Happening) (cuts : Cuts c s hs) → MayAllHappen c s hs → Follows c s w (all_happened c s hs) (all_events c s hs cuts)
all_follow c s w [] cuts may = record { next = w; run = refl; steps = []; whole_run = refl }
all_follow c s w (h ∷ hs) cuts may =
    let first : Follows c s w (happened c s h) (events_of c s h cuts.0) = happens c s w h cuts.0 may.0 in
    let rest : Follows c (happened c s h) first.next (all_happened c (happened c s h) hs) (all_events c (happened c s h) hs cuts.1) = all_follow c (happened c s h) first.next hs cuts.1 may.1 in
    record {
      next = rest.next;
      run = run_append (setting_of c) w.machine.memberships first.next.machine.memberships rest.next.machine.memberships (events_of c s h cuts.0) (all_events c (happened c s h) hs cuts.1) first.run rest.run;
      steps = first.steps ++ rest.steps;
      whole_run = run_on (setting_of c) w.machine first.next.machine rest.next.machine first.steps rest.steps first.whole_run rest.whole_run;
    }

-- At first.

attached_fit : (number : ℕ) (ds : List HeaderDevice) → 1 ≤ number → number + length ds ≤ 17 → All IsDevice (attached_from number ds)
attached_fit number [] low high = All-nil IsDevice
attached_fit number (d ∷ ds) low high =
    All-cons IsDevice _ _ (low, below number (length ds) high) (attached_fit (number + 1) ds (more number) (same number (length ds) high))
  where
    below : (a b : ℕ) → a + suc b ≤ 17 → a ≤ 16
    below a b h = omega arith

    more : (a : ℕ) → 1 ≤ a + 1
    more a = omega arith

    same : (a b : ℕ) → a + suc b ≤ 17 → (a + 1) + b ≤ 17
    same a b h = omega arith

-- the numbers from one on are above those before
not_among : (d number : ℕ) (ds : List HeaderDevice) → d < number → list_any (λ x. x == d) (numbers_of (attached_from number ds)) ≡ false
not_among d number [] low = refl
not_among d number (e ∷ ds) low = both (number == d) (list_any (λ x. x == d) (numbers_of (attached_from (number + 1) ds))) (other d number low) (not_among d (number + 1) ds (above d number low))
  where
    other : (a b : ℕ) → a < b → (b == a) ≡ false
    other a b h = grind arith

    above : (a b : ℕ) → a < b → a < b + 1
    above a b h = omega (arith, h)

    both : (p q : Bool) → p ≡ false → q ≡ false → (p || q) ≡ false
    both false q e h = h
    both true q e h = e

are_apart : (number : ℕ) (ds : List HeaderDevice) → AreApart (numbers_of (attached_from number ds))
are_apart number [] = tt
are_apart number (d ∷ ds) = (not_among number (number + 1) ds (next number), are_apart (number + 1) ds)
  where
    next : (a : ℕ) → a < a + 1
    next a = omega arith

one_is_low : 1 ≤ 1
one_is_low = omega arith

numbers_high : (k : ℕ) → k ≤ 16 → 1 + k ≤ 17
numbers_high k l = omega arith

none_fits : 0 < 2 ^ 64
none_fits = omega arith

first_fits : (h : Header) → length h.devices ≤ 16 → h.cluster < 2 ^ 32 → IsCluster (first_cluster h)
first_fits h devices small = record {
  fits = record {
    devices = record { few = few_attached 1 h.devices devices; attached = attached_fit 1 h.devices one_is_low (numbers_high (length h.devices) devices) };
  };
  apart = are_apart 1 h.devices;
  small = small;
}

device_tied : (h : Header) (ds : List HeaderDevice) (k : ℕ) → DeviceTied h.cluster (slice_index_or (map (first_device h) ds) k no_device) (machine.first_device (registered_in h ds k))
device_tied h [] zero = first_devices_are_tied Data 0 0 h.cluster
device_tied h [] (suc k) = first_devices_are_tied Data 0 0 h.cluster
device_tied h (d ∷ ds) zero = first_devices_are_tied d.kind d.attached h.configured h.cluster
device_tied h (d ∷ ds) (suc k) = device_tied h ds k

all_tied : (h : Header) (d : ℕ) → DeviceTied h.cluster (device_at (map (first_device h) h.devices) d) (machine.first_device (registered_at h d))
all_tied h zero = first_devices_are_tied Data 0 0 h.cluster
all_tied h (suc k) = device_tied h h.devices k

pub first_whole_so : (h : Header) (cells : ℕ) → length h.devices ≤ 16 → h.cluster < 2 ^ 32 → IsWhole (first_cluster h) (first_scene h cells)
unfolding first_scene
first_whole_so h cells devices small =
    let c : Cluster = first_cluster h in
    let k : IsCluster c = first_fits h devices small in
    let f : IsFirst (setting_of c) c (device_at (map (first_device h) h.devices)) (λ n. (empty_disk (first_valid_of c n)).kept) (first_state h) =
    first_is_tied (setting_of c) c (registered_at h) (valid_at h) (device_at (map (first_device h) h.devices)) (λ n. (empty_disk (first_valid_of c n)).kept) (all_tied h) (λ d n. refl) in
    record {
      cluster = k;
      machine = first_state h;
      reached = f.reached;
      devices_so = f.devices_so;
      sites = λ n. record {
        tied = (record { promised = refl; saved = refl; session = refl; member = refl }, no_updates c);
        joins = tt;
        at = f.at n;
        own = tt;
        valid = first_valid_fits c n k.fits.devices;
      };
      sent = tt;
      flying = tt;
      fits = record {
        nodes = λ n. tt;
        disks = λ n. record { promised = none_fits; installed = none_fits; members = omega arith; valid = first_valid_fits c n k.fits.devices; places = none_fits };
        sent = tt;
      };
      device_fits = first_devices_fit h h.devices small;
    }

-- The laws.

pub runs_are_whole : RunsAreWhole
unfolding first_whole_so
runs_are_whole h cells hs cuts devices small may =
    let c : Cluster = first_cluster h in
    let f : Follows c (first_scene h cells) (first_whole_so h cells devices small) (all_happened c (first_scene h cells) hs) (all_events c (first_scene h cells) hs cuts) =
    all_follow c (first_scene h cells) (first_whole_so h cells devices small) hs cuts may in
    record { scene = f.next; events = f.steps; run = f.whole_run; memberships = f.run }

pub whole_runs_are_safe : WholeRunsAreSafe
whole_runs_are_safe c s w = reached_is_safe (setting_of c) w.machine w.reached

pub whole_runs_are_in_order : WholeRunsAreInOrder
whole_runs_are_in_order c s w =
    let i : InOrder (setting_of c) w.machine = in_order (setting_of c) w.machine w.reached in
    record {
      promises = promises (setting_of c) w.machine i;
      attempts = attempts (setting_of c) w.machine i;
      words = words (setting_of c) w.machine i;
      reservations = reservations (setting_of c) w.machine i;
      tasks = tasks (setting_of c) w.machine i;
      outsiders = outsiders (setting_of c) w.machine i;
      valid_nodes = valid_nodes (setting_of c) w.machine i;
      meetings = meetings (setting_of c) w.machine i;
      records = records (setting_of c) w.machine i;
    }

pub runs_write_safely : RunsWriteSafely
runs_write_safely c s w n d value now ends may takes = write_safe c s w n d value now ends may takes

pub repositories_are_kept : RepositoriesAreKept
repositories_are_kept h cells hs devices small may =
    let cuts : CutsOf h cells hs = runs_are_cut h cells hs in
    let r : IsRunOfWhole h cells hs cuts = runs_are_whole h cells hs cuts devices small may in
    repository_of_each_run h cells hs cuts r.scene.machine.memberships devices may r.memberships (whole_runs_are_safe (first_cluster h) (all_happened (first_cluster h) (first_scene h cells) hs) r.scene).devices_meet
