-- Nodes at devices: commands that are due, writes, faults and stops that are armed.
use Rattle.std.specs.Prelude.{ℕ, ◌-◌, ◌^◌, ◌≡◌, ◌≤◌, ◌<◌, Bool, true, List, [], ◌∷◌, Option, None, Some, Result, Ok, Err, is_ok, is_some, slice_get, if◌then◌else◌}
use Rattle.std.proofs.Common.{refl, sym, ap, subst, ◌∙◌, inl, inr}
use Rattle.std.proofs.lemmas.Bool.{cond_both}
use Rattle.cl_base.specs.declared.method.Outcome as method
use Rattle.cmm_attempt.proofs.Basics.{none_some}
use Rattle.local_disk.specs.declared.memory.Choice.{Choice}
use Rattle.machine_base.proofs.Puts.{put_here}
use Rattle.pgr_device.specs.Device.{Device}
use Rattle.pgr_device.specs.declared.command.PrCommand.{PrCommand}
use Rattle.pgr_device.specs.declared.command.PrCommand.TheVariants as command
use Rattle.record_disk.specs.Disks.{DiskState}
use Rattle.schedule_text.specs.declared.event.Event.{Event}
use Rattle.schedule_text.specs.declared.event.Event.TheVariants as event
use Rattle.schedule_text.specs.declared.event.StopChoice.{StopChoice}
use Rattle.schedule_text.specs.declared.line.Line.{Line}
use Rattle.schedule_text.specs.declared.line.Line.TheVariants as line
use Rattle.seize.specs.Answers.{Answer}
use Rattle.status_report.specs.declared.device_entry.DeviceEntry.TheVariants as device
use Rattle.status_report.specs.declared.device_entry.WriteRefusal.{WriteRefusal}
use Rattle.status_report.specs.declared.entry.Entry.TheVariants as entry
use Rattle.status_report.specs.declared.schedule_entry.ScheduleEntry.TheVariants.{Armed, Skipped}
use Rattle.status_report.specs.declared.schedule_entry.SkipCause.TheVariants as skip
use Rattle.history.specs.Letters.{arrived}
use Rattle.history.specs.Moment.{Moment, Said}
use Rattle.history.specs.Order.{under_way}
use Rattle.node_model.specs.declared.cluster.Cluster.{Cluster}
use Rattle.node_model.specs.declared.input.Input.{Input}
use Rattle.node_model.specs.declared.input.Input.TheVariants as input
use Rattle.node_model.specs.declared.node.Node.{Node}
use Rattle.node_model.specs.declared.node.Node.TheVariants.{Down, Up}
use Rattle.node_model.specs.declared.node.UpNode.{UpNode}
use Rattle.node_model.specs.Devices.{may_write_as}
use Rattle.node_model.specs.Steps.{stepped}
use Rattle.refinement.specs.node_widths.Widths.{AnswerFits}
use Rattle.world_model.specs.Devices as world
use Rattle.world_model.specs.Devices.{doing_command, doing_due, due, due_at, on_disk, on_disk_due, writing_at, writing_if}
use Rattle.world_model.specs.Lines.{left_by, with_stop_at}
use Rattle.world_model.specs.Sends.{giving}
use Rattle.world_model.specs.Worlds.{Play, WorldState, is_up, node_at, noting, skipping, with_world}
use Rattle.refinement.specs.Guards.{IsDown, OfUp}
use Rattle.refinement.specs.Runs.{AnswersFit, Nodes, WasSent, moved}
use Rattle.refinement.specs.Runs.Move.{Takes as Takes_in}
use Rattle.refinement.specs.Steps.{disk_rules}
use Rattle.refinement.specs.Worlds.{DeviceFits, DevicesFit, GivesFit, Keeps}
use Rattle.run_history.specs.Happenings as happen
use Rattle.run_history.specs.Happenings.{IsReadied, happened, taking}
use Rattle.run_history.specs.Happenings.Happening.{Commands, Refuses, Speaks, Writes}
use Rattle.run_history.specs.Telling.{IsInHeader}
use Rattle.run_history.specs.Scenes as scene
use Rattle.run_history.specs.Scenes.{Scene, adding}
use Rattle.run_history.proofs.Apart.{readied_apart}
use Rattle.run_history.proofs.UnderWay.{taking_under}
use Rattle.run_history.proofs.Alike.{alike_devices, alike_no_stop, alike_stop, played, with_arms}
use Rattle.run_history.proofs.WorldDevices.{After, after_command, commanded_so, viewed, write_keeps}
use Rattle.run_history.proofs.Gives.{Gave, Took, gave_so}
use Rattle.run_history.specs.Rounds.{Progress}
use Rattle.run_history.specs.Shapes.{Due, Want, commanding, due as due_so_far, if_up, nothing, skipping as skipping_wants, still, writing as writing_wants}
use Rattle.run_history.specs.Shapes.Want.{Command, Note, Refuse, Take, Write}
use Rattle.run_history.proofs.Reached.{reached_as}
use Rattle.run_history.proofs.Readied.{Ready, readied}
use Rattle.run_history.proofs.Stands.{IsThere, Stands, as_due, down_there, due_seen, followed, gives_so, node_number, noted, seen, stands_so, took_plain, up_is_there, up_there}
use Rattle.run_history.proofs.Views.{Follows, said_so, told_so, view}

-- A command is done at a device, and the node takes its answer as this input.
record Done (c : Cluster) (text : List ℕ) (said : List Line) (n : ℕ) (i : Answer → Input) (o : happen.Commanded) (r : Play) : Type 0 where
  now : ℕ
  time : now < 2 ^ 64
  ends : method.Outcome
  after : Nodes
  follows : Follows c text said after (taking c n now ends (i o.answer) o.scene) r

done_so : (c : Cluster) → GivesFit c
    → (first : Scene) (text : List ℕ) (said : List Line) (z : Due) (p : Play) (n d : ℕ) (k : PrCommand) (i : Answer → Input) (node : Node) (h : Stands c first text said z p) → 1 ≤ n
    → slice_get p.world.nodes (n - 1) ≡ Some node → ((device : Device) → DeviceFits device → Keeps device n k) → ((a : Answer) (v : Nodes) → WasSent v (i a))
    → ((a : Answer) → AnswerFits a → AnswersFit (i a))
    → Done c text said n i (happen.commanded (seen c first text said z p h) n d k) (giving n (i (world.commanded p.world n d k).answer) (with_world p (world.commanded p.world n d k).world))
done_so c gives first text said z p n d k i node h low at keeps sent bounded =
    subst (λ e. Done c text said n i e (giving n (i o.answer) q)) (commanded_so p.world h.nodes h.moments n d k)
    (go (gave_so c gives text said h.nodes h.moments q n (i o.answer) h.spoken h.written low (sent o.answer h.nodes) (bounded o.answer a.bounded) a.alike))
  where
    o : world.Commanded
    o = world.commanded p.world n d k

    q : Play
    q = with_world p o.world

    a : After c h.nodes p.world.nodes o
    a = after_command c p.world h.nodes n d k keeps h.alike

    go : Gave c text said h.nodes (view h.nodes o.world h.moments) n o.world.clock o.world.nodes (i o.answer) (giving n (i o.answer) q)
        → Done c text said n i (viewed h.nodes h.moments o) (giving n (i o.answer) q)
    go (inl none) = absurd (none_some node (sym none.nobody ∙ ap (λ (ns : List Node). slice_get ns (n - 1)) a.same ∙ at))
    go (inr t) = record { now = o.world.clock; time = a.alike.shows.clock; ends = t.ends; after = moved c h.nodes (Takes_in n o.world.clock t.ends (i o.answer)); follows = t.follows }

-- a command is due at a node that is up
pub due_there : (o : Option Node) (d : ℕ) (k : PrCommand) (P : Type 0) → due_at o ≡ Some (d, k) → ((x : UpNode) → o ≡ Some (Up x) → P) → P
due_there None d k P e f = absurd (none_some (d, k) e)
due_there (Some Down) d k P e f = absurd (none_some (d, k) e)
due_there (Some (Up x)) d k P e f = f x refl

abbrev AllReady : WorldState → ℕ → Type 0
AllReady w n = (z : Node) → node_at w n ≡ Some z → Ready z

commands_so : (c : Cluster) → GivesFit c → DevicesFit c → (first : Scene) (text : List ℕ) (said : List Line) (rounds : Option Progress) (p : Play) (n d : ℕ) (k : PrCommand) (x : UpNode) → 1 ≤ n
    → AllReady p.world n → due p.world n ≡ Some (d, k) → node_at p.world n ≡ Some (Up x) → (h : Stands c first text said (due_so_far (Command n ∷ []) rounds) p) → arrived h.moments ≡ None
    → under_way h.moments ≡ Some (event.Disk n) → Stands c first text said (due_so_far [] rounds) (doing_due n (Some (d, k)) p)
commands_so c gives fit first text said rounds p n d k x low ready is at h apart brought =
    let z : Due = due_so_far (Command n ∷ []) rounds in
    let s : Scene = seen c first text said z p h in
    let node : h.nodes.node n ≡ Up x = h.alike.shows.node n (Up x) low at in
    let done : Done c text said n input.Answered (happen.commanded s n d k) (doing_due n (Some (d, k)) p) =
    done_so c gives first text said z p n d k input.Answered (Up x) h low at (λ device f. fit p.world n d k device (played c h.nodes p.world h.alike) low is f) (λ a v. tt) (λ a b. b) in
    stands_so c first text said (due_so_far [] rounds) (doing_due n (Some (d, k)) p) done.after (happened c s (Commands n d k done.now done.ends))
    (reached_as c first z (due_so_far [] rounds) s (Commands n d k done.now done.ends) h.reached
    (node_number c h.nodes p.world n (Up x) low at h.alike, subst (λ y. OfUp IsReadied y) (sym node) (ready (Up x) at), ap (λ y. due_at (Some y)) node ∙ ap due_at (sym at) ∙ is, done.time, apart, brought)
    refl refl) done.follows

-- the command, where one is due still
abbrev command_if : ℕ → Option (ℕ × PrCommand) → List Want
command_if n o = if is_some o then Command n ∷ [] else []

due_so : (c : Cluster) → GivesFit c → DevicesFit c → (first : Scene) (text : List ℕ) (said : List Line) (wants : List Want) (rounds : Option Progress) (p : Play) (n : ℕ) (o : Option (ℕ × PrCommand)) → 1 ≤ n
    → AllReady p.world n → due p.world n ≡ o → wants ≡ command_if n o → (h : Stands c first text said (due_so_far wants rounds) p) → arrived h.moments ≡ None
    → under_way h.moments ≡ Some (event.Disk n) → Stands c first text said (due_so_far [] rounds) (doing_due n o p)
due_so c gives fit first text said wants rounds p n None low ready is shape h apart brought = as_due c first text said rounds p wants [] shape h
due_so c gives fit first text said wants rounds p n (Some (d, k)) low ready is shape h apart brought =
    due_there (node_at p.world n) d k (Stands c first text said (due_so_far [] rounds) (doing_due n (Some (d, k)) p)) is
    (λ x at. commands_so c gives fit first text said rounds p n d k x low ready is at (as_due c first text said rounds p wants (Command n ∷ []) shape h) apart brought)

-- The node readies itself, then does the command that is due.
pub command_so : (c : Cluster) → GivesFit c → DevicesFit c → (first : Scene) (text : List ℕ) (said : List Line) (rounds : Option Progress) (p : Play) (n : ℕ) → 1 ≤ n → IsThere p.world n
    → (h : Stands c first text said (due_so_far (Take n input.CommandDue ∷ Command n ∷ []) rounds) p)
    → arrived h.moments ≡ None → under_way h.moments ≡ Some (event.Disk n) → Stands c first text said (due_so_far [] rounds) (doing_command n p)
command_so c gives fit first text said rounds p n low there h apart brought = go (gives_so c gives first text said z p n input.CommandDue h low tt tt)
  where
    z : Due
    z = due_so_far (Take n input.CommandDue ∷ Command n ∷ []) rounds

    s : Scene
    s = seen c first text said z p h

    q : Play
    q = giving n input.CommandDue p

    took_ready : Took c text said h.nodes s n p.world.clock input.CommandDue q → AllReady q.world n
    took_ready k y at =
        subst Ready (sym (put_here h.nodes.node n (stepped disk_rules c n p.world.clock k.ends (h.nodes.node n) (h.nodes.disk n) input.CommandDue).after) ∙ k.follows.alike.shows.node n y low at)
        (readied c n p.world.clock k.ends (h.nodes.node n) (h.nodes.disk n))

    still_due : (k : Took c text said h.nodes s n p.world.clock input.CommandDue q) → still (taking c n p.world.clock k.ends input.CommandDue s) (Command n ∷ []) ≡ command_if n (due q.world n)
    still_due k =
        ap (λ o. command_if n o)
        (sym (ap (λ (y : Scene). due_at (Some (y.nodes.node n))) k.follows.is) ∙ due_seen c (moved c h.nodes (Takes_in n p.world.clock k.ends input.CommandDue)) q.world n low k.follows.alike)

    go : Gave c text said h.nodes s n p.world.clock p.world.nodes input.CommandDue q → Stands c first text said (due_so_far [] rounds) (doing_due n (due q.world n) q)
    go (inl none) = absurd (there none.nobody)
    go (inr k) =
        due_so c gives fit first text said (command_if n (due q.world n)) rounds q n (due q.world n) low (took_ready k) refl refl
        (took_plain c first text said (Command n ∷ []) rounds p n input.CommandDue h tt apart tt brought k (command_if n (due q.world n)) (still_due k))
        (ap (λ (y : Scene). arrived y.moments) k.follows.is ∙ readied_apart c n p.world.clock k.ends s apart)
        (ap (λ (y : Scene). under_way y.moments) k.follows.is ∙ (taking_under c n p.world.clock k.ends input.CommandDue s ∙ brought))

-- what a node that is down is skipped for
pub skipped_down : (z : Node) (f : UpNode → List Want) → IsDown z → if_up z f ≡ skipping_wants skip.Down
skipped_down Down f down = refl
skipped_down (Up x) f down = absurd down

disk_due : (c : Cluster) → GivesFit c → DevicesFit c → (first : Scene) (text : List ℕ) (said : List Line) (wants : List Want) (rounds : Option Progress) (p : Play) (n : ℕ) (o : Option (ℕ × PrCommand)) → 1 ≤ n
    → IsThere p.world n → wants ≡ commanding n o → (h : Stands c first text said (due_so_far wants rounds) p)
    → arrived h.moments ≡ None → under_way h.moments ≡ Some (event.Disk n) → Stands c first text said (due_so_far [] rounds) (on_disk_due n o p)
disk_due c gives fit first text said wants rounds p n None low there shape h apart brought =
    noted c first text said rounds p (Skipped skip.NoWork) (as_due c first text said rounds p wants (skipping_wants skip.NoWork) shape h)
disk_due c gives fit first text said wants rounds p n (Some due) low there shape h apart brought =
    command_so c gives fit first text said rounds p n low there (as_due c first text said rounds p wants (Take n input.CommandDue ∷ Command n ∷ []) shape h) apart brought

pub disk_so : (c : Cluster) → GivesFit c → DevicesFit c → (first : Scene) (text : List ℕ) (said : List Line) (wants : List Want) (rounds : Option Progress) (p : Play) (n : ℕ) → 1 ≤ n
    → (h : Stands c first text said (due_so_far wants rounds) p) → wants ≡ if_up (h.nodes.node n) (λ x. commanding n (due_at (Some (h.nodes.node n))))
    → arrived h.moments ≡ None → under_way h.moments ≡ Some (event.Disk n) → Stands c first text said (due_so_far [] rounds) (on_disk n p)
disk_so c gives fit first text said wants rounds p n low h shape apart brought =
    cond_both (is_up p.world n) (on_disk_due n (due p.world n) p) (skipping skip.Down p) (Stands c first text said (due_so_far [] rounds))
    (λ up. up_there (node_at p.world n) (Stands c first text said (due_so_far [] rounds) (on_disk_due n (due p.world n) p)) up
    (λ x at. disk_due c gives fit first text said wants rounds p n (due p.world n) low (up_is_there p.world n x at)
    (shape ∙ (ap (λ z. if_up z works) (h.alike.shows.node n (Up x) low at) ∙ ap (λ o. commanding n o) (due_seen c h.nodes p.world n low h.alike))) h apart brought))
    (λ down. noted c first text said rounds p (Skipped skip.Down)
    (as_due c first text said rounds p wants (skipping_wants skip.Down)
    (shape ∙ skipped_down (h.nodes.node n) works (down_there c h.nodes p.world n (node_at p.world n) low refl down h.alike)) h))
  where
    works : UpNode → List Want
    works x = commanding n (due_at (Some (h.nodes.node n)))

-- A node writes, or refuses to.

written_if : (c : Cluster) → GivesFit c → (first : Scene) (text : List ℕ) (said : List Line) (wants : List Want) (rounds : Option Progress) (p : Play) (n d value : ℕ) (x : UpNode) (r : Result ℕ WriteRefusal) → 1 ≤ n
    → slice_get p.world.nodes (n - 1) ≡ Some (Up x) → may_write_as c n d x.seat ≡ r → wants ≡ writing_wants n d value r → (h : Stands c first text said (due_so_far wants rounds) p)
    → arrived h.moments ≡ None → under_way h.moments ≡ Some (event.Write n d value) → Stands c first text said (due_so_far [] rounds) (writing_if n d value r p)
written_if c gives first text said wants rounds p n d value x (Ok e) low at may shape g apart brought =
    let z : Due = due_so_far (Write n d value ∷ []) rounds in
    let h : Stands c first text said z p = as_due c first text said rounds p wants (Write n d value ∷ []) shape g in
    let s : Scene = seen c first text said z p h in
    let node : g.nodes.node n ≡ Up x = g.alike.shows.node n (Up x) low at in
    let k : PrCommand = command.Write value in
    let i : Answer → Input = λ a. input.Wrote d value a in
    let done : Done c text said n i (happen.commanded s n d k) (writing_if n d value (Ok e) p) =
    done_so c gives first text said z p n d k i (Up x) h low at (λ device f. write_keeps n value device f) (λ a v. tt) (λ a b. tt) in
    stands_so c first text said (due_so_far [] rounds) (writing_if n d value (Ok e) p) done.after (happened c s (Writes n d value done.now done.ends))
    (reached_as c first z (due_so_far [] rounds) s (Writes n d value done.now done.ends) h.reached
    (node_number c g.nodes p.world n (Up x) low at g.alike, subst (λ y. OfUp (λ u. is_ok (may_write_as c n d u.seat) ≡ true) y) (sym node) (ap is_ok may), done.time, apart, brought)
    (refl, refl, refl) refl) done.follows
written_if c gives first text said wants rounds p n d value x (Err cause) low at may shape g apart brought =
    let z : Due = due_so_far (Refuse n d value cause ∷ []) rounds in
    let h : Stands c first text said z p = as_due c first text said rounds p wants (Refuse n d value cause ∷ []) shape g in
    let s : Scene = seen c first text said z p h in
    let node : g.nodes.node n ≡ Up x = g.alike.shows.node n (Up x) low at in
    stands_so c first text said (due_so_far [] rounds) (writing_if n d value (Err cause) p) g.nodes (happened c s (Refuses n d value cause))
    (reached_as c first z (due_so_far [] rounds) s (Refuses n d value cause) h.reached
    (node_number c g.nodes p.world n (Up x) low at g.alike, subst (λ y. OfUp (λ u. may_write_as c n d u.seat ≡ Err cause) y) (sym node) may, brought) (refl, refl, refl, refl) refl)
    (told_so c text said g.nodes s p (entry.Device (device.Refused n d value cause)) (followed c first text said z p h))

abbrev writes_of : Cluster → ℕ → ℕ → ℕ → UpNode → List Want
writes_of c n d value x = writing_wants n d value (may_write_as c n d x.seat)

pub written_at : (c : Cluster) → GivesFit c → (first : Scene) (text : List ℕ) (said : List Line) (wants : List Want) (rounds : Option Progress) (p : Play) (n d value : ℕ) (o : Option Node) → 1 ≤ n
    → slice_get p.world.nodes (n - 1) ≡ o → (h : Stands c first text said (due_so_far wants rounds) p) → wants ≡ if_up (h.nodes.node n) (λ x. writing_wants n d value (may_write_as c n d x.seat))
    → arrived h.moments ≡ None → under_way h.moments ≡ Some (event.Write n d value) → Stands c first text said (due_so_far [] rounds) (writing_at n d value o p)
written_at c gives first text said wants rounds p n d value None low at h shape apart brought =
    noted c first text said rounds p (Skipped skip.Down)
    (as_due c first text said rounds p wants (skipping_wants skip.Down)
    (shape ∙ skipped_down (h.nodes.node n) (writes_of c n d value) (down_there c h.nodes p.world n None low at refl h.alike)) h)
written_at c gives first text said wants rounds p n d value (Some Down) low at h shape apart brought =
    noted c first text said rounds p (Skipped skip.Down)
    (as_due c first text said rounds p wants (skipping_wants skip.Down)
    (shape ∙ skipped_down (h.nodes.node n) (writes_of c n d value) (down_there c h.nodes p.world n (Some Down) low at refl h.alike)) h)
written_at c gives first text said wants rounds p n d value (Some (Up x)) low at h shape apart brought =
    let same : may_write_as c n d x.seat ≡ may_write_as p.world.cluster n d x.seat = ap (λ z. may_write_as z n d x.seat) (sym h.alike.shows.cluster) in
    written_if c gives first text said wants rounds p n d value x (may_write_as p.world.cluster n d x.seat) low at same
    (shape ∙ (ap (λ z. if_up z (writes_of c n d value)) (h.alike.shows.node n (Up x) low at) ∙ ap (λ r. writing_wants n d value r) same)) h apart brought

-- that a fault or a stop is armed is to be told
abbrev armed_due : Due
armed_due = due_so_far (Note Armed ∷ []) None

-- A fault is armed.

faulted : (c : Cluster) (text : List ℕ) (said : List Line) (v : Nodes) (s : Scene) (p : Play) (n d : ℕ) (fault : Option Bool) → Follows c text said v s p
    → Follows c text said v (scene.with_fault s n d fault) (with_world p (world.with_fault p.world n d fault))
faulted c text said v s p n d fault f = record {
  moments = f.moments;
  is = ap (λ z. scene.with_fault z n d fault) f.is;
  alike = alike_devices c v p.world p.world.devices (world.with_fault p.world n d fault).faults f.alike.shows.device refl f.alike;
  spoken = f.spoken;
  written = f.written;
}

pub fault_so : (c : Cluster) (first : Scene) (text : List ℕ) (said : List Line) (p : Play) (n d : ℕ) (done : Bool) → IsInHeader c.header (event.Fault n d done) → Stands c first text said nothing p
    → Stands c first text (line.Event (event.Fault n d done) ∷ said) nothing (noting Armed (with_world p (world.with_fault p.world n d (Some done))))
fault_so c first text said p n d done known h =
    let s : Scene = seen c first text said nothing p h in
    let e : Event = event.Fault n d done in
    let lines : List Line = line.Event e ∷ said in
    noted c first text lines None (with_world p (world.with_fault p.world n d (Some done))) Armed
    (stands_so c first text lines armed_due (with_world p (world.with_fault p.world n d (Some done))) h.nodes (happened c s (Speaks e))
    (reached_as c first nothing armed_due s (Speaks e) h.reached (known.0, known.1, known.2, subst (λ k. d ≤ k) (sym h.alike.count) known.3) tt refl)
    (faulted c text lines h.nodes (adding (Said (line.Event e)) s) p n d (Some done) (said_so c text said h.nodes s p e (followed c first text said nothing p h))))

-- A stop is armed.

stopped_at : (c : Cluster) (text : List ℕ) (said : List Line) (v : Nodes) (moments : List Moment) (p : Play) (n calls : ℕ) (choice : Choice) (o : Option DiskState) → 1 ≤ n
    → slice_get p.world.disks (n - 1) ≡ o → Follows c text said v (view v p.world moments) p
    → Follows c text said (with_arms c v n calls choice) (view (with_arms c v n calls choice) p.world moments) (with_world p (with_stop_at p.world n calls choice o))
stopped_at c text said v moments p n calls choice None low is f =
    record { moments = f.moments; is = ap (λ (z : Scene). record z { nodes = with_arms c v n calls choice }) f.is; alike = alike_no_stop c v p.world n calls choice is f.alike; spoken = f.spoken; written = f.written }
stopped_at c text said v moments p n calls choice (Some disk) low is f =
    record { moments = f.moments; is = ap (λ (z : Scene). record z { nodes = with_arms c v n calls choice }) f.is; alike = alike_stop c v p.world n calls choice disk low is f.alike; spoken = f.spoken; written = f.written }

pub stop_so : (c : Cluster) (first : Scene) (text : List ℕ) (said : List Line) (p : Play) (n calls : ℕ) (choice : StopChoice) → 1 ≤ n → Stands c first text said nothing p
    → Stands c first text (line.Event (event.CrashAt n calls choice) ∷ said) nothing (noting Armed (with_world p (with_stop_at p.world n calls (left_by choice) (slice_get p.world.disks (n - 1)))))
stop_so c first text said p n calls choice low h =
    let s : Scene = seen c first text said nothing p h in
    let e : Event = event.CrashAt n calls choice in
    let lines : List Line = line.Event e ∷ said in
    let q : Play = with_world p (with_stop_at p.world n calls (left_by choice) (slice_get p.world.disks (n - 1))) in
    noted c first text lines None q Armed
    (stands_so c first text lines armed_due q (with_arms c h.nodes n calls (left_by choice)) (happened c s (Speaks e)) (reached_as c first nothing armed_due s (Speaks e) h.reached tt tt refl)
    (stopped_at c text lines h.nodes (Said (line.Event e) ∷ h.moments) p n calls (left_by choice) (slice_get p.world.disks (n - 1)) low refl
    (said_so c text said h.nodes s p e (followed c first text said nothing p h))))
