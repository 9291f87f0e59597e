-- What happens where a node takes no part leaves the node, its tasks by the lines, whether its queue is open, and whether it leads.
use Rattle.std.specs.Prelude.{All, ℕ, ◌-◌, ◌≡◌, ◌≢◌, ◌≤◌, ◌==◌, false, List, [], ◌∷◌, Option, None, Some, slice_get}
use Rattle.std.proofs.Common.{arith, refl, sym, ap, subst, ◌∙◌}
use Rattle.cl_base.specs.declared.method.Outcome as method
use Rattle.cmm_attempt.specs.Calls.{IsDevice}
use Rattle.history.specs.Setting.{Setting}
use Rattle.history.specs.Trace.{delivered}
use Rattle.history_setting.specs.Settings.{setting_of}
use Rattle.machine_base.proofs.Puts.{put_there}
use Rattle.membership_machine.specs.State.{Memberships}
use Rattle.node_model.specs.Steps.{Outcome, stepped}
use Rattle.node_model.specs.declared.cluster.Cluster.{Cluster}
use Rattle.node_model.specs.declared.input.Input.{Input}
use Rattle.node_model.specs.declared.input.Input.TheVariants as input
use Rattle.node_model.specs.declared.output.Output.{Output}
use Rattle.pgr_device.specs.Device.{Device}
use Rattle.pgr_device.specs.declared.command.PrCommand.{PrCommand}
use Rattle.pgr_device.specs.declared.command.PrCommand.TheVariants as command
use Rattle.record_disk.specs.Disks.{DiskState}
use Rattle.refinement.proofs.Disks.{disks_keep_rules}
use Rattle.refinement.proofs.EveryRun.{is_true}
use Rattle.refinement.proofs.Facts.{known_by, step_may}
use Rattle.refinement.proofs.Handlers.{delivered_by}
use Rattle.refinement.proofs.Replies.{steps_are_cut}
use Rattle.refinement.specs.Cuts.{doings}
use Rattle.refinement.specs.Guards.{MayAll}
use Rattle.refinement.specs.Runs.{Nodes, WasSent, moved}
use Rattle.refinement.specs.Runs.Move.{Takes as Takes_in}
use Rattle.refinement.specs.Steps.{IsCut, disk_rules}
use Rattle.run_history.proofs.Idle.{passing_nodes}
use Rattle.run_history.proofs.MemberRuns.{first_fit}
use Rattle.run_history.specs.Happenings.{Happening, MayHappen, all_happened, commanded, commanded_at, given_by, happened, removed, taking}
use Rattle.run_history.specs.Happenings.Happening.{Arrives, Begins, Commands, Loses, Misses, Notes, Refuses, Repeats, Speaks, Strays, Takes, Writes}
use Rattle.run_history.specs.Scenes.{Scene, first_scene, telling}
use Rattle.run_history.specs.Stages.{Stage, site_of}
use Rattle.run_lines.proofs.Outputs.{gives_entries}
use Rattle.run_messages.proofs.Reaching.{IsReached, IsSmall, stage_of}
use Rattle.run_packets.proofs.repeats.Scenes.{given_own}
use Rattle.run_packets.proofs.prepares.Adds.{adds_passing}
use Rattle.run_packets.specs.prepares.Events.{AddsOf}
use Rattle.run_packets.specs.prepares.Proposals.{AreSo}
use Rattle.run_seizings.proofs.Moments.{plain_sent}
use Rattle.status_report.specs.declared.entry.Entry.TheVariants as entry
use Rattle.status_report.specs.declared.packet_entry.PacketEntry.TheVariants as packet
use Rattle.world_model.specs.First.{first_cluster}
use Rattle.run_outcomes.proofs.elsewhere.Lines.{Leaves, all_leave, leaves_on, none_leaves, one_leaves, quiet_leave}
use Rattle.run_outcomes.proofs.elsewhere.Whose.{entries_elsewhere}
use Rattle.run_outcomes.proofs.others.Ends.{last_may}
use Rattle.run_outcomes.proofs.own_steps.Steps.{OfEachStep, takes_part}
use Rattle.run_outcomes.proofs.told_tasks.Prefixes.{happened_last, may_before}
use Rattle.run_outcomes.proofs.told_tasks.Simple.{Simply, simply}

-- the node is as it was, and so is what the lines tell of its tasks
pub record Untouched (S : Setting) (n : ℕ) (s t : Scene) : Type 0 where
  pub node : t.nodes.node n ≡ s.nodes.node n
  pub lines : Leaves S n s.moments t.moments

-- ---- whose lines a step gives

given_so : (c : Cluster) (s : Scene) (m now : ℕ) (ends : method.Outcome) (i : Input) → m ≤ 32 → All IsDevice c.attached → Stage c s → WasSent s.nodes i → AreSo [] m (given_by c m now ends i s.nodes)
given_so c s m now ends i high fits b was =
    let v : Nodes = s.nodes in
    let M : Memberships = b.machine in
    let o : Outcome DiskState = stepped disk_rules c m now ends (v.node m) (v.disk m) i in
    let cut : IsCut disk_rules c m now ends (v.node m) (v.disk m) i [] o = steps_are_cut disk_rules disks_keep_rules c m now ends (v.node m) (v.disk m) i in
    let may : MayAll c m (delivered_by i) (site_of v m) (doings c m now ends cut.replies i (v.node m)) = step_may c M m now ends (v.node m) (v.disk m).kept i cut.replies high fits b.holds (b.stands m).tied (b.stands m).joins in
    subst (AreSo [] m) cut.comes.given (given_own c M m now ends i cut.replies (v.node m) (v.disk m).kept fits b.holds (known_by M i (is_true M v i was b.sent)) (b.stands m).tied may)

taken_adds : (c : Cluster) (s t : Scene) (m now : ℕ) (ends : method.Outcome) (i : Input) → m ≤ 32 → All IsDevice c.attached → Stage c s → WasSent s.nodes i → t.nodes ≡ s.nodes
    → AddsOf [] m t.moments (taking c m now ends i t)
taken_adds c s t m now ends i high fits b was same =
    adds_passing [] m (given_by c m now ends i t.nodes) (record t { nodes = moved c t.nodes (Takes_in m now ends i) }) (gives_entries c m now ends (t.nodes.node m) (t.nodes.disk m) i)
    (subst (λ (v : Nodes). AreSo [] m (given_by c m now ends i v)) (sym same) (given_so c s m now ends i high fits b was))

-- ---- a step of another node

apart : (m n : ℕ) → (m == n) ≡ false → m ≢ n
apart m n h e = grind (arith, h, e)

-- t is the scene in which it takes what comes to it
taken_leaves : (S : Setting) (c : Cluster) (s t : Scene) (m n now : ℕ) (ends : method.Outcome) (i : Input) → m ≢ n → m ≤ 32 → All IsDevice c.attached → Stage c s → WasSent s.nodes i → t.nodes ≡ s.nodes
    → Leaves S n s.moments t.moments → Untouched S n s (taking c m now ends i t)
taken_leaves S c s t m n now ends i ne high fits b was same first = record {
  node = ap (λ (v : Nodes). v.node n) (passing_nodes m os (record t { nodes = moved c t.nodes (Takes_in m now ends i) }))
      ∙ (put_there t.nodes.node m (stepped disk_rules c m now ends (t.nodes.node m) (t.nodes.disk m) i).after n (λ e. ne (sym e)) ∙ ap (λ (v : Nodes). v.node n) same);
  lines = leaves_on S n s.moments t.moments (taking c m now ends i t).moments first
      (subst (λ ms. Leaves S n t.moments ms) adds.is (all_leave S n t.moments adds.entries (entries_elsewhere m n adds.entries ne adds.own)));
}
  where
    os : List Output
    os = given_by c m now ends i t.nodes

    adds : AddsOf [] m t.moments (taking c m now ends i t)
    adds = taken_adds c s t m now ends i high fits b was same

-- .. at a device
done_leaves : (S : Setting) (c : Cluster) (s : Scene) (m n d now : ℕ) (ends : method.Outcome) (o : Option Device) (q : PrCommand) (i : Input) → m ≢ n → m ≤ 32 → All IsDevice c.attached → Stage c s
    → WasSent s.nodes i → Untouched S n s (taking c m now ends i (commanded_at s m d o q).scene)
done_leaves S c s m n d now ends None q i ne high fits b was = taken_leaves S c s s m n now ends i ne high fits b was refl (none_leaves S n s.moments)
done_leaves S c s m n d now ends (Some x) q i ne high fits b was =
    taken_leaves S c s (commanded_at s m d (Some x) q).scene m n now ends i ne high fits b was refl (none_leaves S n s.moments)

-- ---- each thing that happens

simple_leaves : (S : Setting) (n : ℕ) (s t : Scene) → Simply s t → Untouched S n s t
simple_leaves S n s t z = record { node = z.nodes n; lines = subst (λ ms. Leaves S n s.moments ms) (sym z.parts) (quiet_leave S n s.moments z.newer (z.quiet n)) }

happening_leaves : (S : Setting) (c : Cluster) (s : Scene) (x : Happening) → All IsDevice c.attached → Stage c s → MayHappen c s x → (n : ℕ) → takes_part n x ≡ false → Untouched S n s (happened c s x)
happening_leaves S c s (Speaks e) fits b may n off = simple_leaves S n s (happened c s (Speaks e)) (simply c s (Speaks e) tt)
happening_leaves S c s (Begins e) fits b may n off = simple_leaves S n s (happened c s (Begins e)) (simply c s (Begins e) tt)
happening_leaves S c s (Notes e) fits b may n off = simple_leaves S n s (happened c s (Notes e)) (simply c s (Notes e) tt)
happening_leaves S c s (Takes m now ends i) fits b may n off =
    taken_leaves S c s s m n now ends i (apart m n off) may.0.1 fits b (plain_sent s.nodes i may.1) refl (none_leaves S n s.moments)
happening_leaves S c s (Arrives number x m now ends) fits b may n off =
    taken_leaves S c s (telling (entry.Packet (packet.Delivered number x.from x.to)) (removed s number)) x.to n now ends (input.Packet x.from m) (apart x.to n off) may.3.1 fits b may.4 refl
    (one_leaves S n s.moments (delivered number x.from x.to) (apart x.to n off))
happening_leaves S c s (Strays number x) fits b may n off = record { node = refl; lines = one_leaves S n s.moments (delivered number x.from x.to) (apart x.to n off) }
happening_leaves S c s (Misses number x) fits b may n off = simple_leaves S n s (happened c s (Misses number x)) (simply c s (Misses number x) tt)
happening_leaves S c s (Loses number x) fits b may n off = simple_leaves S n s (happened c s (Loses number x)) (simply c s (Loses number x) tt)
happening_leaves S c s (Repeats number x) fits b may n off = simple_leaves S n s (happened c s (Repeats number x)) (simply c s (Repeats number x) tt)
happening_leaves S c s (Commands m d q now ends) fits b may n off =
    done_leaves S c s m n d now ends (slice_get s.devices (d - 1)) q (input.Answered (commanded s m d q).answer) (apart m n off) may.0.1 fits b tt
happening_leaves S c s (Writes m d value now ends) fits b may n off =
    let q : PrCommand = command.Write value in
    done_leaves S c s m n d now ends (slice_get s.devices (d - 1)) q (input.Wrote d value (commanded s m d q).answer) (apart m n off) may.0.1 fits b tt
happening_leaves S c s (Refuses m d value why) fits b may n off = simple_leaves S n s (happened c s (Refuses m d value why)) (simply c s (Refuses m d value why) tt)

-- ---- runs

pub others_stay : OfEachStep (λ h s x t. (n : ℕ) → takes_part n x ≡ false → Untouched (setting_of h) n s t)
others_stay h cells hs x last nodes few small disks may shaped native boots left n off =
    subst (λ (t : Scene). Untouched (setting_of h) n s t) (sym (happened_last (first_cluster h) (first_scene h cells) hs x))
    (happening_leaves (setting_of h) (first_cluster h) s x (first_fit h few) (stage_of h cells s size reached) (last_may (first_cluster h) (first_scene h cells) hs x may) n off)
  where
    s : Scene
    s = all_happened (first_cluster h) (first_scene h cells) hs

    size : IsSmall h
    size = record { few = few; small = small }

    reached : IsReached h cells s
    reached = record { happenings = hs; may = may_before (first_cluster h) (first_scene h cells) hs (x ∷ []) may; is = refl }
