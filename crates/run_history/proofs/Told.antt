-- Each run of the world, from its first line on, is things that happen.
use Rattle.std.specs.Prelude.{ℕ, suc, zero, ◌-◌, ◌+◌, ◌≡◌, ◌≤◌, ◌<◌, ◌++◌, nat_lt, Bool, true, false, All, List, [], ◌∷◌, Some, length, map, replicate, slice_get}
use Rattle.std.proofs.Common.{refl, sym, ap, subst, ◌∙◌, append-nil, arith}
use Rattle.std.proofs.Math.ListN.{get_or}
use Rattle.std.proofs.Math.Seq.{get_or-append_seam}
use Rattle.std.proofs.lemmas.List.{get_or_append_left, get_or-replicate, length-append, length-map, length-replicate}
use Rattle.std.proofs.lemmas.List.Elements.{All-nil, All-cons}
use Rattle.std.proofs.lemmas.Option.{get_or_from_slice_get, slice_get_within}
use Rattle.agents.specs.Calls.{AgentState}
use Rattle.cl_base.specs.declared.header.Header.{Header}
use Rattle.cl_base.specs.declared.header.HeaderDevice.{HeaderDevice}
use Rattle.cmm_attempt.specs.Calls.{IsDevice}
use Rattle.record_disk.specs.Disks as disks
use Rattle.record_disk.specs.Disks.{DiskState}
use Rattle.schedule_text.specs.declared.event.Event.{Event}
use Rattle.history.specs.Moment.{lines_of}
use Rattle.node_model.specs.Clusters.{first_valid_of}
use Rattle.node_model.specs.declared.cluster.Cluster.{Cluster}
use Rattle.node_model.specs.declared.node.Node.TheVariants.{Down}
use Rattle.world_model.specs.First.{attached_from, first_cluster, first_device, first_disks, first_world}
use Rattle.world_model.specs.Worlds.{Play, play}
use Rattle.refinement.specs.Runs.{first_nodes}
use Rattle.refinement.specs.Widths.{ClusterFits}
use Rattle.refinement.specs.Worlds.{DevicesFit, GivesFit, lines_on}
use Rattle.refinement.proofs.DeviceWidths.{first_devices_fit}
use Rattle.refinement.proofs.Lines.{few_attached}
use Rattle.refinement.proofs.Widths.{devices_fit, gives_fit}
use Rattle.run_history.specs.Telling.{IsSeen, IsTold, WorldsAreTold, lines_upon}
use Rattle.run_history.specs.Scenes.{Scene, first_scene, text_of}
use Rattle.run_history.specs.Shapes.{nothing}
use Rattle.run_history.proofs.Alike.{Alike, AreFit}
use Rattle.run_history.proofs.Lines.{lines_so}
use Rattle.run_history.proofs.Stands.{Stands}
use Rattle.run_history.proofs.Views.{view}

-- The world before the first line.

one_of : {X : Type 0} (k j : ℕ) (a z : X) → slice_get (replicate k a) j ≡ Some z → a ≡ z
one_of k j a z e =
    sym (get_or-replicate k j a z (subst (λ n. j < n) (length-replicate k a) (slice_get_within (replicate k a) j z e))) ∙ get_or_from_slice_get (replicate k a) j z z e

disks_length : (c : Cluster) (k : ℕ) → length (first_disks c k) ≡ k
disks_length c zero = refl
disks_length c (suc k) = omega (arith, length-append (first_disks c k) (disks.empty_disk (first_valid_of c (suc k)) ∷ []), disks_length c k)

less_so : (i n : ℕ) → nat_lt i n ≡ true → i < n
less_so i n h = grind arith

last_so : (i n : ℕ) → nat_lt i n ≡ false → i < suc n → i ≡ n
last_so i n h l = grind arith

one_more_disk : (c : Cluster) (k j : ℕ) (d : DiskState) (b : Bool) → nat_lt j k ≡ b → j < suc k
    → (j < k → get_or (first_disks c k) j d ≡ disks.empty_disk (first_valid_of c (suc j))) → get_or (first_disks c (suc k)) j d ≡ disks.empty_disk (first_valid_of c (suc j))
one_more_disk c k j d true e low before =
    get_or_append_left (first_disks c k) (disks.empty_disk (first_valid_of c (suc k)) ∷ []) d j (subst (λ n. j < n) (sym (disks_length c k)) (less_so j k e)) ∙ before (less_so j k e)
one_more_disk c k j d false e low before =
    let last : DiskState = disks.empty_disk (first_valid_of c (suc k)) in
    let here : j ≡ k = last_so j k e low in
    ap (λ n. get_or (first_disks c k ++ last ∷ []) n d) (here ∙ sym (disks_length c k)) ∙ get_or-append_seam (first_disks c k) last [] d
    ∙ ap (λ n. disks.empty_disk (first_valid_of c (suc n))) (sym here)

disk_at : (c : Cluster) (k j : ℕ) (d : DiskState) → j < k → get_or (first_disks c k) j d ≡ disks.empty_disk (first_valid_of c (suc j))
disk_at c zero j d low = absurd (omega (arith, low))
disk_at c (suc k) j d low = one_more_disk c k j d (nat_lt j k) refl low (disk_at c k j d)

-- the disk of node n
first_of_disks : (c : Cluster) (k n : ℕ) (disk : DiskState) → 1 ≤ n → slice_get (first_disks c k) (n - 1) ≡ Some disk → disks.empty_disk (first_valid_of c n) ≡ disk
first_of_disks c k n disk low e =
    let within : n - 1 < k = subst (λ m. n - 1 < m) (disks_length c k) (slice_get_within (first_disks c k) (n - 1) disk e) in
    ap (λ m. disks.empty_disk (first_valid_of c m)) (sym (number n low)) ∙ sym (disk_at c k (n - 1) disk within) ∙ get_or_from_slice_get (first_disks c k) (n - 1) disk disk e
  where
    number : (m : ℕ) → 1 ≤ m → suc (m - 1) ≡ m
    number m h = omega (arith, h)

first_alike : (h : Header) (cells : ℕ) (agents : List AgentState) → h.nodes ≤ 32 → AreFit (map (first_device h) h.devices)
    → Alike (first_cluster h) (first_nodes (first_cluster h)) (first_world h cells agents)
unfolding first_world
first_alike h cells agents few fits = record {
  moves = [];
  run = refl;
  in_time = tt;
  shows = record {
    cluster = refl;
    few = subst (λ k. k ≤ 32) (sym (length-replicate h.nodes Down)) few;
    node = λ n node low e. one_of h.nodes (n - 1) Down node e;
    disk = λ n disk low e. first_of_disks (first_cluster h) h.nodes n disk low e;
    device = fits;
    packets = tt;
    clock = omega arith;
  };
  paired = disks_length (first_cluster h) h.nodes ∙ sym (length-replicate h.nodes Down);
  absent = λ k low e. refl;
  count = length-map h.devices (first_device h);
  placed = length-replicate h.nodes Down;
}

first_same : (h : Header) (cells : ℕ) (agents : List AgentState) → first_scene h cells ≡ view (first_nodes (first_cluster h)) (first_world h cells agents) []
unfolding first_scene first_world
first_same h cells agents = refl

first_stands : (h : Header) (cells : ℕ) (agents : List AgentState) (text : List ℕ) → h.nodes ≤ 32 → AreFit (map (first_device h) h.devices)
    → Stands (first_cluster h) (first_scene h cells) text [] nothing (play (first_world h cells agents) text)
first_stands h cells agents text few fits = record {
  nodes = first_nodes (first_cluster h);
  moments = [];
  reached = record { happenings = []; may = tt; shaped = refl; is = first_same h cells agents };
  alike = first_alike h cells agents few fits;
  spoken = refl;
  written = sym (append-nil text);
}

-- The devices of the header.

attached_fit : (number : ℕ) (ds : List HeaderDevice) → 1 ≤ number → number + length ds ≤ 17 → All IsDevice (attached_from number ds)
attached_fit number [] low high = All-nil IsDevice
attached_fit number (d ∷ ds) low high =
    All-cons IsDevice _ _ (low, below number (length ds) high) (attached_fit (number + 1) ds (more number) (same number (length ds) high))
  where
    below : (a b : ℕ) → a + suc b ≤ 17 → a ≤ 16
    below a b h = omega arith

    more : (a : ℕ) → 1 ≤ a + 1
    more a = omega arith

    same : (a b : ℕ) → a + suc b ≤ 17 → (a + 1) + b ≤ 17
    same a b h = omega arith

one_is_low : 1 ≤ 1
one_is_low = omega arith

numbers_high : (k : ℕ) → k ≤ 16 → 1 + k ≤ 17
numbers_high k l = omega arith

-- The law.

told_of : (h : Header) (cells : ℕ) (text : List ℕ) (events : List Event) (p : Play) → Stands (first_cluster h) (first_scene h cells) text (lines_upon [] events) nothing p
    → IsTold h cells text events p
told_of h cells text events p k = record {
  happenings = k.reached.happenings;
  may = k.reached.may;
  shaped = k.reached.shaped;
  seen = subst (λ s. IsSeen (first_cluster h) p.world s) (sym k.reached.is) (record { nodes = k.alike.shows; devices = refl; faults = refl; links = refl });
  said = ap (λ (s : Scene). lines_of s.moments) k.reached.is ∙ k.spoken;
  text = k.written ∙ ap (λ (s : Scene). text ++ text_of s.moments) (sym k.reached.is);
}

pub worlds_are_told : WorldsAreTold
worlds_are_told h cells agents text events few devices small named known =
    let c : Cluster = first_cluster h in
    let whole : ClusterFits c = record {
      devices = record { few = few_attached 1 h.devices devices; attached = attached_fit 1 h.devices one_is_low (numbers_high (length h.devices) devices) };
    } in
    let gives : GivesFit c = gives_fit c whole in
    let fit : DevicesFit c = devices_fit c whole small in
    told_of h cells text events (lines_on events (play (first_world h cells agents) text))
    (lines_so c gives fit (first_scene h cells) text events [] (play (first_world h cells agents) text) named known
    (first_stands h cells agents text few (first_devices_fit h h.devices small)))
