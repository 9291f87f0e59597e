-- A node writes to a device, and takes the answer.
use Rattle.std.specs.Prelude.{ℕ, ◌-◌, ◌≡◌, ◌≤◌, ◌<◌, ◌^◌, nat_le, Bool, true, false, List, Option, None, Some, Ok, Err, is_ok, slice_get, slice_set, if◌then◌else◌}
use Rattle.std.proofs.Common.{refl, sym, subst, arith}
use Rattle.cl_base.specs.Sets.{has}
use Rattle.cl_base.specs.declared.method.Outcome as method
use Rattle.cluster_machine.specs.Cluster.{Cluster as Whole}
use Rattle.cluster_machine.specs.Parts.{WriteIsSafe}
use Rattle.cluster_ties.proofs.Moves.{and_on}
use Rattle.cluster_ties.proofs.Others.{reached_stays}
use Rattle.cluster_ties.proofs.Safe.{writes_are_safe}
use Rattle.cluster_ties.proofs.Writes.{writes_go}
use Rattle.cluster_ties.specs.Moves.{DeviceGoes}
use Rattle.cluster_ties.specs.Ties.{Devices}
use Rattle.cmm_attempt.proofs.Basics.{and_cases, false_true}
use Rattle.cmm_member.specs.Nodes.{NodeState}
use Rattle.cmm_member.specs.Records.{NodeRecord}
use Rattle.device_ties.specs.Commands.{Completion, executed}
use Rattle.machine_base.specs.Put.{put}
use Rattle.membership_machine.specs.Events as membership
use Rattle.membership_machine.specs.Votes.{Setting}
use Rattle.node_model.specs.Clusters.{has_path}
use Rattle.node_model.specs.Devices.{may_write_as}
use Rattle.node_model.specs.Seats.{state_of}
use Rattle.node_model.specs.declared.cluster.Cluster.{Cluster}
use Rattle.node_model.specs.declared.input.Input.{Input}
use Rattle.node_model.specs.declared.input.Input.TheVariants as input
use Rattle.node_model.specs.declared.node.Node.{Node}
use Rattle.node_model.specs.declared.node.Node.TheVariants.{Down, Up}
use Rattle.node_model.specs.declared.node.UpNode.{UpNode}
use Rattle.node_model.specs.declared.seat.Seat.{Seat}
use Rattle.node_model.specs.declared.seat.Seat.TheVariants.{Forming, Member}
use Rattle.refinement.specs.node_widths.Widths.{NodeFits}
use Rattle.pgr_device.specs.Device.{Device}
use Rattle.pgr_device.specs.Spc as spc
use Rattle.pgr_device.specs.declared.command.PrAnswer.TheVariants as given
use Rattle.pgr_device.specs.declared.command.PrCommand.TheVariants as command
use Rattle.refinement.proofs.DeviceWidths.{command_keeps}
use Rattle.refinement.specs.Courses.{Reply}
use Rattle.refinement.specs.Cuts.{doings}
use Rattle.refinement.specs.Doings.{Doing, Site, site}
use Rattle.refinement.specs.Events.{of_doings}
use Rattle.refinement.specs.Guards.{MayAll, OfUp}
use Rattle.refinement.specs.Ties.{SeatTied, SiteTied, setting_of}
use Rattle.seize.specs.Answers.{Answer}
use Rattle.world_model.specs.Devices as world
use Rattle.run_history.specs.Happenings as happening
use Rattle.run_history.specs.Happenings.{MayHappen, commanded_at, taking, wrote}
use Rattle.run_history.specs.Scenes.{Scene, fault_in, with_fault}
use Rattle.run_history.specs.Cuts.{StepCut, step_events}
use Rattle.run_history.proofs.WholeCommands.{Goes, device_goes_same}
use Rattle.run_history.proofs.WholeDevices.{device_there}
use Rattle.run_history.proofs.WholeDoings.{Ready}
use Rattle.run_history.proofs.Happens.{DoneSo, done_nowhere, done_there}
use Rattle.run_history.proofs.WholeScenes.{Follows, may_of, node_at, ready_of, scene_of, small_steps, step_follows}
use Rattle.run_history.proofs.Stays.{own_stays}
use Rattle.run_history.proofs.WholeSteps.{doings_go, hand_all}
use Rattle.run_history.specs.Wholes.{IsWhole, TakesAt, TakesWrite, device_at}
use Rattle.run_history.specs.Sites.{SiteAt}

-- A node that may write is a member, which has joined the device.

record Writer (d : ℕ) (seat : Seat) : Type 0 where
  state : NodeState
  member : seat ≡ Member state
  joined : has state.joined d ≡ true

inner_ok : {X E : Type 0} → (a b : Bool) (x : X) (e g : E) → is_ok (if a then (if b then Ok x else Err e) else Err g) ≡ true → b ≡ true
inner_ok true true x e g h = refl
inner_ok true false x e g h = absurd (false_true h)
inner_ok false b x e g h = absurd (false_true h)

writer : (c : Cluster) (n d : ℕ) (seat : Seat) → is_ok (may_write_as c n d seat) ≡ true → Writer d seat
writer c n d (Forming s) h = absurd (false_true h)
writer c n d (Member s) h = record { state = s; member = refl; joined = inner_ok (has_path c.attached n d) (has s.joined d) s.session _ _ h }

has_low : (set d : ℕ) → has set d ≡ true → 1 ≤ d
unfolding has
has_low set d h = low d (and_cases (nat_le 1 d) _ h).0
  where
    low : (k : ℕ) → nat_le 1 k ≡ true → 1 ≤ k
    low k e = grind arith

writes_in : (c : Cluster) (W : Whole) (n : ℕ) (x : UpNode) (disk : NodeRecord) (d : ℕ) → SiteAt c W n (site (Up x) disk) → Writer d x.seat → (W.memberships.node n).member ≡ true
writes_in c W n x disk d at k = (subst (λ seat. SeatTied c W.memberships n disk x.attempt seat) k.member at.tied.0).0.member

joined_in : (x : UpNode) (d : ℕ) → Writer d x.seat → has (state_of x.seat).joined d ≡ true
joined_in x d k = subst (λ seat. has (state_of seat).joined d ≡ true) (sym k.member) k.joined

-- The write at its device, and what the node makes of the answer.
stored_goes : (c : Cluster) (W : Whole) (n now : ℕ) (ends : method.Outcome) (devices after : Devices) (d value : ℕ) (a : Answer) (how : Completion) (replies : List Reply) (node : Node) (disk : NodeRecord)
    → Ready c W n None None devices (site node disk) → now < 2 ^ 64 → OfUp (λ x. is_ok (may_write_as c n d x.seat) ≡ true) node → NodeFits c n node
    → ((e : ℕ) → after e ≡ put devices d (executed how (devices d) n (command.Write value)) e) → MayAll c n None (site node disk) (doings c n now ends replies (input.Wrote d value a) node)
    → Goes c W n after (site node disk) (doings c n now ends replies (input.Wrote d value a) node)
stored_goes c W n now ends devices after d value a how replies Down disk r time can fit leaves may = absurd can
stored_goes c W n now ends devices after d value a how replies (Up x) disk r time can fit leaves may =
    let S : Setting = setting_of c in
    let can_so : Writer d x.seat = writer c n d x.seat can in
    let ds : List Doing = doings c n now ends replies (input.Wrote d value a) (Up x) in
    let z : Site = site (Up x) disk in
    let g : DeviceGoes S c W n after x =
    device_goes_same S c W n (put devices d (executed how (devices d) n (command.Write value))) after x leaves
    (writes_go S c W n x devices how d value r.reached r.tied r.site_so.at (writes_in c W n x disk d r.site_so can_so) (joined_in x d can_so)) in
    let V : Whole = g.machine in
    let next : Ready c V n None None after z = record {
      fits = r.fits;
      low = r.low;
      reached = reached_stays S W V n r.reached g.moves;
      tied = g.devices_so;
      site_so = record {
        tied = subst (λ M. SiteTied c M n z) (sym g.memberships) r.site_so.tied;
        joins = r.site_so.joins;
        at = g.at;
        own = own_stays S W V n n (Up x) r.reached g.moves r.site_so.own;
        valid = r.site_so.valid;
      };
      known = tt;
      known_of = tt;
      hand = tt;
    } in
    let k : Goes c V n after z ds = doings_go c V n None None after z ds next may (node_at c n now ends (Up x) disk replies (input.Wrote d value a) tt time fit) in
    record {
      machine = k.machine;
      moves = and_on S W V k.machine n g.moves k.moves;
      run = subst (λ M. membership.Run S M (of_doings n ds) k.machine.memberships) g.memberships k.run;
      devices_so = k.devices_so;
      site_so = k.site_so;
      said = k.said;
      told = k.told;
      hand = k.hand;
    }

writer_low : (c : Cluster) (n d : ℕ) (node : Node) → OfUp (λ x. is_ok (may_write_as c n d x.seat) ≡ true) node → 1 ≤ d
writer_low c n d Down can = absurd can
writer_low c n d (Up x) can = has_low (state_of x.seat).joined d (joined_in x d (writer c n d x.seat can))

write_follows : (c : Cluster) (s : Scene) (w : IsWhole c s) (n d value now : ℕ) (ends : method.Outcome) (devices : List Device) (faults : List (Option Bool)) (a : Answer)
    (cut : StepCut c n now ends s.nodes (input.Wrote d value a)) → MayHappen c s (happening.Writes n d value now ends) → DoneSo s n d (command.Write value) devices a
    → Follows c s w (taking c n now ends (input.Wrote d value a) (scene_of s.nodes devices faults s.links s.moments)) (step_events c n now ends s.nodes (input.Wrote d value a) cut)
write_follows c s w n d value now ends devices faults a cut may u =
    let i : Input = input.Wrote d value a in
    step_follows c s w n now ends i devices faults s.links s.moments (hand_all None (small_steps c n now ends s.nodes i cut)) cut may.0 may.2 tt tt w.flying u.device_fits
    (stored_goes c w.machine n now ends (device_at s.devices) (device_at devices) d value a u.how cut.replies (s.nodes.node n) (s.nodes.disk n).kept (ready_of c s w n i may.0.1 tt tt) may.2 may.1 (w.fits.nodes n)
    u.leaves (may_of c s w n now ends i cut may.0.1))

pub writes_by : (c : Cluster) (s : Scene) (w : IsWhole c s) (n d value now : ℕ) (ends : method.Outcome) (o : Option Device) → slice_get s.devices (d - 1) ≡ o
    → (cut : StepCut c n now ends s.nodes (input.Wrote d value (commanded_at s n d o (command.Write value)).answer)) → MayHappen c s (happening.Writes n d value now ends)
    → Follows c s w (wrote c n d value now ends (commanded_at s n d o (command.Write value))) (step_events c n now ends s.nodes (input.Wrote d value (commanded_at s n d o (command.Write value)).answer) cut)
writes_by c s w n d value now ends None at cut may = write_follows c s w n d value now ends s.devices s.faults (Err (record {})) cut may (done_nowhere s n d (command.Write value) w.device_fits)
writes_by c s w n d value now ends (Some device) at cut may =
    write_follows c s w n d value now ends (slice_set s.devices (d - 1) (world.executed device n (command.Write value) (fault_in s n d)).device) (with_fault s n d None).faults
    (world.executed device n (command.Write value) (fault_in s n d)).answer cut may
    (done_there s n d (command.Write value) device (fault_in s n d) (writer_low c n d (s.nodes.node n) may.1) at w.device_fits
    (command_keeps device n (command.Write value) may.0.0 may.0.1 tt (w.device_fits (d - 1) device at)))

-- A write that the device takes is safe.

taken_good : (o : Option Device) (fault : Option Bool) (n value : ℕ) (P : Type 0) → TakesAt o fault n value → ((device : Device) → o ≡ Some device → (spc.step device n (command.Write value)).answer ≡ given.Good → P) → P
taken_good None fault n value P takes f = absurd takes
taken_good (Some device) None n value P takes f = f device refl takes
taken_good (Some device) (Some true) n value P takes f = f device refl takes
taken_good (Some device) (Some false) n value P takes f = absurd takes

safe_by : (c : Cluster) (s : Scene) (w : IsWhole c s) (n d value : ℕ) (device : Device) (node : Node) (disk : NodeRecord) → SiteAt c w.machine n (site node disk)
    → OfUp (λ x. is_ok (may_write_as c n d x.seat) ≡ true) node → slice_get s.devices (d - 1) ≡ Some device → (spc.step device n (command.Write value)).answer ≡ given.Good → WriteIsSafe w.machine d n
safe_by c s w n d value device Down disk at can there good = absurd can
safe_by c s w n d value device (Up x) disk at can there good =
    let can_so : Writer d x.seat = writer c n d x.seat can in
    writes_are_safe (setting_of c) c w.machine n d value x (device_at s.devices) w.reached w.devices_so at.at (writes_in c w.machine n x disk d at can_so) (joined_in x d can_so)
    (subst (λ z. (spc.step z n (command.Write value)).answer ≡ given.Good) (sym (device_there s.devices d device (has_low (state_of x.seat).joined d (joined_in x d can_so)) there)) good)

pub write_safe : (c : Cluster) (s : Scene) (w : IsWhole c s) (n d value now : ℕ) (ends : method.Outcome) → MayHappen c s (happening.Writes n d value now ends) → TakesWrite s n d value → WriteIsSafe w.machine d n
write_safe c s w n d value now ends may takes =
    taken_good (slice_get s.devices (d - 1)) (fault_in s n d) n value (WriteIsSafe w.machine d n) takes
    (λ device there good. safe_by c s w n d value device (s.nodes.node n) (s.nodes.disk n).kept (w.sites n) may.1 there good)
