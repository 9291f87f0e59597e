-- In each scene of a run no attempt asks for votes, and what the lines say that a node has installed its record has, or a newer epoch.
use Rattle.std.specs.Prelude.{ℕ, ◌-◌, ◌≡◌, ◌<◌, ◌≤◌, ◌^◌, All, true, List, Option, None, Some, length, slice_get}
use Rattle.std.specs.List.{list_any}
use Rattle.std.proofs.Common.{refl, sym, subst, arith}
use Rattle.cl_base.specs.declared.header.Header.{Header}
use Rattle.cl_base.specs.declared.method.Outcome as method
use Rattle.cl_base.specs.declared.packet.DropCause.{DropCause}
use Rattle.cmm_attempt.proofs.Basics.{false_true}
use Rattle.cmm_attempt.specs.Calls.{IsDevice}
use Rattle.history.specs.Moment.{Said}
use Rattle.history.specs.Seizing.{is_install}
use Rattle.interconnect.specs.Links as net
use Rattle.interconnect.specs.Links.{sending}
use Rattle.machine_base.proofs.Puts.{put_cases, put_here}
use Rattle.membership_machine.specs.Invariant.{Holds}
use Rattle.membership_machine.specs.State.{Memberships}
use Rattle.node_model.specs.Steps.{Outcome, stepped}
use Rattle.node_model.specs.declared.cluster.Cluster.{Cluster}
use Rattle.node_model.specs.declared.input.Input.{Input}
use Rattle.node_model.specs.declared.input.Input.TheVariants as input
use Rattle.pgr_device.specs.Device.{Device}
use Rattle.pgr_device.specs.declared.command.PrCommand.{PrCommand}
use Rattle.pgr_device.specs.declared.command.PrCommand.TheVariants as command
use Rattle.record_disk.specs.Disks.{DiskState, armed}
use Rattle.refinement.proofs.EveryRun.{true_of}
use Rattle.refinement.specs.Runs.{Nodes, moved}
use Rattle.refinement.specs.Runs.Move.{Takes as Takes_in}
use Rattle.refinement.specs.Steps.{disk_rules}
use Rattle.refinement.specs.Ties.{setting_of}
use Rattle.refinement.specs.Whole.{IsTrue, Stands}
use Rattle.schedule_text.specs.declared.event.Event.{Event}
use Rattle.schedule_text.specs.declared.event.Event.TheVariants as event
use Rattle.schedule_text.specs.declared.line.Line.TheVariants as line
use Rattle.status_report.specs.declared.entry.Entry.TheVariants as entry
use Rattle.status_report.specs.declared.packet_entry.PacketEntry.TheVariants as packet
use Rattle.world_model.specs.First.{first_cluster}
use Rattle.world_model.specs.Lines.{left_by}
use Rattle.run_history.specs.Happenings.{Arrives, Begins, Commands, Happening, IsPlain, Loses, MayAllHappen, MayHappen, Misses, Notes, Refuses, Repeats, Speaks, Strays, Takes, Writes, all_happened, armed_by, commanded, commanded_at, happened, removed, taking}
use Rattle.run_history.specs.Scenes.{Scene, adding, dropped_so, first_scene, passing, telling, with_links}
use Rattle.run_history.proofs.Idle.{passing_nodes}
use Rattle.run_history.proofs.MemberRuns.{first_fit}
use Rattle.run_messages.proofs.Reaching.{holds_of_each}
use Rattle.run_messages.specs.records.Kept.{KnownScene}
use Rattle.run_downs.proofs.Promised.{known_at}
use Rattle.run_outcomes.specs.saves.Kept.{AreLow, IsAt, Kept, KeptIn, Rests, Within}
use Rattle.run_outcomes.proofs.saves.Installed.{StepLow, passing_within, step_low}
use Rattle.run_outcomes.proofs.saves.RestSteps.{step_rests}

most_then : (a b k : ℕ) → a ≤ b → b ≤ k → a ≤ k
most_then a b k h i = omega (arith, h, i)

-- ---- a step

taking_kept : (c : Cluster) (M : Memberships) (n now : ℕ) (ends : method.Outcome) (i : Input) (z : Scene) → n ≤ 32 → All IsDevice c.attached → Holds (setting_of c) M → IsTrue M i
    → Stands c M n (z.nodes.node n) (z.nodes.disk n).kept → KeptIn z → KeptIn (taking c n now ends i z)
taking_kept c M n now ends i z low fits holds so stands h =
    subst (λ (v : Nodes). Kept v u.moments) (sym (passing_nodes n o.given t)) (record {
      rests = put_cases (λ k x. IsAt Rests x) z.nodes.node n o.after (step_rests c n now ends (z.nodes.node n) (z.nodes.disk n) i (h.rests n)) (λ k ne. h.rests k);
      low = passing_within B n o.given t (subst (λ (d : DiskState). AreLow n d.kept.installed o.given) (sym (put_here z.nodes.disk n o.disk)) lows.low) within;
    })
  where
    o : Outcome DiskState
    o = stepped disk_rules c n now ends (z.nodes.node n) (z.nodes.disk n) i

    t : Scene
    t = record z { nodes = moved c z.nodes (Takes_in n now ends i) }

    u : Scene
    u = passing n o.given t

    B : ℕ → ℕ
    B k = (t.nodes.disk k).kept.installed

    lows : StepLow n (z.nodes.disk n).kept o
    lows = step_low c M n now ends (z.nodes.node n) (z.nodes.disk n) i low fits holds so stands

    within : Within B z.moments
    within =
        put_cases (λ k (d : DiskState). (e : ℕ) → list_any (is_install k e) z.moments ≡ true → e ≤ d.kept.installed) z.nodes.disk n o.disk
        (λ e is. most_then e (z.nodes.disk n).kept.installed o.disk.kept.installed (h.low n e is) lows.grown) (λ k ne e is. h.low k e is)

-- ---- each thing that happens

plain_true : (M : Memberships) (i : Input) → IsPlain i → IsTrue M i
plain_true M (input.Packet from m) plain = absurd plain
plain_true M _ plain = tt

dropped_kept : (o : Option (ℕ × DropCause)) (s : Scene) → KeptIn s → KeptIn (dropped_so o s)
dropped_kept None s h = h
dropped_kept (Some x) s h = record { rests = h.rests; low = h.low }

speaks_kept : (c : Cluster) (e : Event) (s : Scene) → KeptIn s → KeptIn (armed_by c e (adding (Said (line.Event e)) s))
speaks_kept c (event.CrashAt n calls choice) s h = record {
  rests = h.rests;
  low = put_cases (λ k (d : DiskState). (e : ℕ) → list_any (is_install k e) s.moments ≡ true → e ≤ d.kept.installed) s.nodes.disk n (armed (s.nodes.disk n) calls (left_by choice)) (λ e is. h.low n e is) (λ k ne e is. h.low k e is);
}
speaks_kept c (event.Fault n d done) s h = record { rests = h.rests; low = h.low }
speaks_kept c _ s h = record { rests = h.rests; low = h.low }

commanded_kept : (s : Scene) (n d : ℕ) (o : Option Device) (k : PrCommand) → KeptIn s → KeptIn (commanded_at s n d o k).scene
commanded_kept s n d None k h = h
commanded_kept s n d (Some x) k h = record { rests = h.rests; low = h.low }

commanded_nodes : (s : Scene) (n d : ℕ) (o : Option Device) (k : PrCommand) → (commanded_at s n d o k).scene.nodes ≡ s.nodes
commanded_nodes s n d None k = refl
commanded_nodes s n d (Some x) k = refl

happening_kept : (c : Cluster) (s : Scene) (x : Happening) → All IsDevice c.attached → MayHappen c s x → KnownScene c s → KeptIn s → KeptIn (happened c s x)
happening_kept c s (Speaks e) fits may k h = speaks_kept c e s h
happening_kept c s (Begins e) fits may k h = record { rests = h.rests; low = h.low }
happening_kept c s (Notes e) fits may k h = record { rests = h.rests; low = h.low }
happening_kept c s (Takes n now ends i) fits may k h = taking_kept c k.stage.machine n now ends i s may.0.1 fits k.stage.holds (plain_true k.stage.machine i may.1) (k.stage.stands n) h
happening_kept c s (Arrives number x m now ends) fits may k h =
    taking_kept c k.stage.machine x.to now ends (input.Packet x.from m) (telling (entry.Packet (packet.Delivered number x.from x.to)) (removed s number)) may.3.1 fits k.stage.holds
    (true_of k.stage.machine x.from m.body s.nodes.sent may.4 k.stage.sent) (k.stage.stands x.to) (record { rests = h.rests; low = h.low })
happening_kept c s (Strays number x) fits may k h = record { rests = h.rests; low = h.low }
happening_kept c s (Misses number x) fits may k h = record { rests = h.rests; low = h.low }
happening_kept c s (Loses number x) fits may k h = record { rests = h.rests; low = h.low }
happening_kept c s (Repeats number x) fits may k h =
    let o : net.Outcome = sending s.links x.from x.to x.bytes in
    dropped_kept o.sent.dropped (telling (entry.Packet (packet.Repeated number s.links.next)) (with_links s o.after)) (record { rests = h.rests; low = h.low })
happening_kept c s (Commands n d q now ends) fits may k h =
    let o : Option Device = slice_get s.devices (d - 1) in
    let z : Scene = (commanded s n d q).scene in
    taking_kept c k.stage.machine n now ends (input.Answered (commanded s n d q).answer) z may.0.1 fits k.stage.holds tt
    (subst (λ (v : Nodes). Stands c k.stage.machine n (v.node n) (v.disk n).kept) (sym (commanded_nodes s n d o q)) (k.stage.stands n)) (commanded_kept s n d o q h)
happening_kept c s (Writes n d value now ends) fits may k h =
    let o : Option Device = slice_get s.devices (d - 1) in
    let q : PrCommand = command.Write value in
    let z : Scene = (commanded s n d q).scene in
    taking_kept c k.stage.machine n now ends (input.Wrote d value (commanded s n d q).answer) z may.0.1 fits k.stage.holds tt
    (subst (λ (v : Nodes). Stands c k.stage.machine n (v.node n) (v.disk n).kept) (sym (commanded_nodes s n d o q)) (k.stage.stands n)) (commanded_kept s n d o q h)
happening_kept c s (Refuses n d value why) fits may k h = record { rests = h.rests; low = h.low }

-- ---- runs

first_kept : (h : Header) (cells : ℕ) → KeptIn (first_scene h cells)
unfolding first_scene
first_kept h cells = record { rests = λ k. tt; low = λ k e is. absurd (false_true is) }

pub run_kept : (h : Header) (cells : ℕ) (hs : List Happening) → length h.devices ≤ 16 → h.cluster < 2 ^ 32 → MayAllHappen (first_cluster h) (first_scene h cells) hs
    → KeptIn (all_happened (first_cluster h) (first_scene h cells) hs)
run_kept h cells hs few small may =
    holds_of_each h cells KeptIn (λ s x now at more so. happening_kept (first_cluster h) s x (first_fit h few) now (known_at h cells s few small at) so) (first_kept h cells) hs may
