-- In each run a device that a node was asked to seize as one without votes, for a session that it has not installed, is seized for that by no other.
use Rattle.std.specs.Prelude.{ℕ, ◌-◌, ◌≡◌, ◌≤◌, ◌<◌, ◌^◌, ◌⊎◌, true, List, [], ◌∷◌, length, Option, None, Some, slice_get}
use Rattle.std.proofs.Common.{refl, sym, subst, ◌∙◌, inl, inr}
use Rattle.cl_base.specs.Limits.{most_devices}
use Rattle.cl_base.specs.declared.header.Header.{Header}
use Rattle.cl_base.specs.declared.method.Outcome as method
use Rattle.cl_base.specs.declared.packet.DropCause.{DropCause}
use Rattle.cluster_machine.proofs.Whole.{InOrder}
use Rattle.cluster_machine.specs.Cluster.{Cluster as Whole}
use Rattle.cluster_ties.proofs.First.{in_order}
use Rattle.cmm_attempt.proofs.Basics.{false_true, none_some, same_some}
use Rattle.device_queue.specs.declared.task.Task.{Task}
use Rattle.history.specs.Moment.{Moment, Said}
use Rattle.history.specs.Member.{members_of}
use Rattle.history.specs.Seizing.{Seizing, keys_seized, or_else, seizing_among, seizing_by}
use Rattle.history.specs.Setting.{nodes_of}
use Rattle.interconnect.specs.Links.{sending}
use Rattle.node_model.specs.Seats.{session_of}
use Rattle.node_model.specs.declared.cluster.Cluster.{Cluster}
use Rattle.node_model.specs.declared.input.Input.TheVariants as input
use Rattle.node_model.specs.declared.node.Node.TheVariants.{Up}
use Rattle.pgr_device.specs.Device.{Device}
use Rattle.pgr_device.specs.declared.command.PrCommand.{PrCommand}
use Rattle.pgr_device.specs.declared.command.PrCommand.TheVariants as command
use Rattle.refinement.proofs.Changes.{sees}
use Rattle.refinement.specs.Doings.{site}
use Rattle.refinement.specs.Ties.{setting_of}
use Rattle.run_devices.proofs.readings.Runs.{run_reads}
use Rattle.run_devices.proofs.valid.Machine.{engaged_stays}
use Rattle.run_devices.proofs.valid.Runs.{lines_engaged}
use Rattle.run_devices.specs.readings.Sites.{IsReading}
use Rattle.run_devices.specs.valid.Engaged.{SeizersEngaged}
use Rattle.run_history.proofs.DeedRuns.{runs_are_cut}
use Rattle.run_history.proofs.Reached.{Reached, reached_more}
use Rattle.run_history.proofs.WholeEachRun.{first_whole_so, happens}
use Rattle.run_history.proofs.WholeScenes.{Follows}
use Rattle.run_history.specs.Cuts.{Cuts, events_of}
use Rattle.run_history.specs.Happenings.{Happening, MayAllHappen, MayHappen, all_happened, answering, armed_by, commanded_at, happened, removed, wrote}
use Rattle.run_history.specs.Happenings.Happening.{Arrives, Begins, Commands, Loses, Misses, Notes, Refuses, Repeats, Speaks, Strays, Takes, Writes}
use Rattle.run_history.specs.Scenes.{Scene, adding, dropped_so, first_scene, telling, with_links}
use Rattle.run_history.specs.Sites.{SiteAt}
use Rattle.run_history.specs.Wholes.{IsWhole}
use Rattle.run_seizings.proofs.Moments.{plain_no}
use Rattle.schedule_text.specs.declared.line.Line.TheVariants as line
use Rattle.schedule_text.specs.declared.event.Event.{Event}
use Rattle.schedule_text.specs.declared.event.Event.TheVariants as event
use Rattle.status_report.specs.declared.entry.Entry.TheVariants as entry
use Rattle.status_report.specs.declared.packet_entry.PacketEntry.TheVariants as packet
use Rattle.world_model.specs.First.{first_cluster}
use Rattle.run_outcomes.specs.tasks.Others.{PlainIsOwn}
use Rattle.run_outcomes.proofs.others.Tasks.{EndsThere, ended_plain, has_ended, has_plain}
use Rattle.run_outcomes.proofs.others.Turns.{answering_turns, plainly_turns, tasks_in}
use Rattle.run_outcomes.proofs.others.Votes.{Plainly, plainly_alone, plainly_stays}
use Rattle.run_outcomes.proofs.others.Machine.{PlainIn, node_asked, tasks_session}

-- ---- each thing that happens

same_there : (ts : List Task) → EndsThere ts ts
same_there ts d e h = ended_plain d e ts h

armed_turns : (c : Cluster) (e : Event) (s : Scene) (k : ℕ) → EndsThere (tasks_in (s.nodes.node k)) (tasks_in ((armed_by c e s).nodes.node k))
armed_turns c (event.Fault n d done) s k = same_there (tasks_in (s.nodes.node k))
armed_turns c (event.CrashAt n calls choice) s k = same_there (tasks_in (s.nodes.node k))
armed_turns c _ s k = same_there (tasks_in (s.nodes.node k))

dropped_turns : (o : Option (ℕ × DropCause)) (s : Scene) (k : ℕ) → EndsThere (tasks_in (s.nodes.node k)) (tasks_in ((dropped_so o s).nodes.node k))
dropped_turns None s k = same_there (tasks_in (s.nodes.node k))
dropped_turns (Some drop) s k = same_there (tasks_in (s.nodes.node k))

answered_turns : (c : Cluster) (s : Scene) (n d : ℕ) (q : PrCommand) (now : ℕ) (ends : method.Outcome) (o : Option Device) (k : ℕ)
    → EndsThere (tasks_in (s.nodes.node k)) (tasks_in ((answering c n now ends (commanded_at s n d o q)).nodes.node k))
answered_turns c s n d q now ends None k = answering_turns c n now ends (commanded_at s n d None q).answer s k
answered_turns c s n d q now ends (Some x) k = answering_turns c n now ends (commanded_at s n d (Some x) q).answer (commanded_at s n d (Some x) q).scene k

happening_turns : (c : Cluster) (s : Scene) (w : IsWhole c s) (x : Happening) → MayHappen c s x → (k : ℕ) → EndsThere (tasks_in (s.nodes.node k)) (tasks_in ((happened c s x).nodes.node k))
happening_turns c s w (Speaks e) may k = armed_turns c e (adding (Said (line.Event e)) s) k
happening_turns c s w (Begins e) may k = same_there (tasks_in (s.nodes.node k))
happening_turns c s w (Notes e) may k = same_there (tasks_in (s.nodes.node k))
happening_turns c s w (Takes n now ends i) may k = plainly_turns c n now ends i s (plain_no i may.1) may.2 (w.fits.nodes n) k
happening_turns c s w (Arrives number x m now ends) may k =
    plainly_turns c x.to now ends (input.Packet x.from m) (telling (entry.Packet (packet.Delivered number x.from x.to)) (removed s number)) tt may.5 (w.fits.nodes x.to) k
happening_turns c s w (Strays number x) may k = same_there (tasks_in (s.nodes.node k))
happening_turns c s w (Misses number x) may k = same_there (tasks_in (s.nodes.node k))
happening_turns c s w (Loses number x) may k = same_there (tasks_in (s.nodes.node k))
happening_turns c s w (Repeats number x) may k =
    dropped_turns (sending s.links x.from x.to x.bytes).sent.dropped (telling (entry.Packet (packet.Repeated number s.links.next)) (with_links s (sending s.links x.from x.to x.bytes).after)) k
happening_turns c s w (Commands n d q now ends) may k = answered_turns c s n d q now ends (slice_get s.devices (d - 1)) k
happening_turns c s w (Writes n d value now ends) may k = by_device (slice_get s.devices (d - 1))
  where
    by_device : (o : Option Device) → EndsThere (tasks_in (s.nodes.node k)) (tasks_in ((wrote c n d value now ends (commanded_at s n d o (command.Write value))).nodes.node k))
    by_device None = plainly_turns c n now ends (input.Wrote d value (commanded_at s n d None (command.Write value)).answer) s tt may.2 (w.fits.nodes n) k
    by_device (Some y) =
        plainly_turns c n now ends (input.Wrote d value (commanded_at s n d (Some y) (command.Write value)).answer) (commanded_at s n d (Some y) (command.Write value)).scene tt may.2 (w.fits.nodes n) k
happening_turns c s w (Refuses n d value why) may k = same_there (tasks_in (s.nodes.node k))

-- ---- runs

record Comes (h : Header) (cells : ℕ) (s : Scene) : Type 0 where
  reached : Reached (first_cluster h) (first_scene h cells) s
  whole : IsWhole (first_cluster h) s
  engaged : SeizersEngaged h whole.machine s.moments
  plain : (n : ℕ) → PlainIn whole.machine n (tasks_in (s.nodes.node n))

reading_at : (h : Header) (cells : ℕ) (s : Scene) → length h.devices ≤ most_devices → h.cluster < 2 ^ 32 → Reached (first_cluster h) (first_scene h cells) s → IsReading h s
reading_at h cells s few small r = subst (IsReading h) r.is (run_reads h cells r.happenings few small r.may).reading

run_comes : (h : Header) (cells : ℕ) → length h.devices ≤ most_devices → h.cluster < 2 ^ 32 → (s : Scene) (xs : List Happening) → Cuts (first_cluster h) s xs
    → MayAllHappen (first_cluster h) s xs → Comes h cells s → Comes h cells (all_happened (first_cluster h) s xs)
run_comes h cells few small s [] cuts may k = k
run_comes h cells few small s (x ∷ xs) cuts may k =
    let c : Cluster = first_cluster h in
    let W : Whole = k.whole.machine in
    let order : InOrder (setting_of c) W = in_order (setting_of c) W k.whole.reached in
    let f : Follows c s k.whole (happened c s x) (events_of c s x cuts.0) = happens c s k.whole x cuts.0 may.0 in
    let V : Whole = f.next.machine in
    let told : SeizersEngaged h W (happened c s x).moments = lines_engaged h s k.whole x may.0 (record { order = order; reading = reading_at h cells s few small k.reached }) k.engaged in
    run_comes h cells few small (happened c s x) xs cuts.1 may.1 (record {
      reached = reached_more c (first_scene h cells) s x k.reached may.0;
      whole = f.next;
      engaged = λ n e d keys is. engaged_stays (setting_of c) W V f.steps n e d order f.whole_run (told n e d keys is);
      plain = λ n d e is. by_task c W V n d e (in_order (setting_of c) V f.next.reached)
          (λ ended. plainly_stays (setting_of c) W V f.steps n e d order f.whole_run (k.plain n d e (happening_turns c s k.whole x may.0 n d e ended)))
          (f.next.sites n) is;
    })
  where
    by_task : (c : Cluster) (W V : Whole) (n d e : ℕ) → InOrder (setting_of c) V → (has_ended d e (tasks_in ((happened c s x).nodes.node n)) ≡ true → Plainly (V.device d) n e)
        → SiteAt c V n (site ((happened c s x).nodes.node n) ((happened c s x).nodes.disk n).kept) → has_plain d e (tasks_in ((happened c s x).nodes.node n)) ≡ true → Plainly (V.device d) n e
    by_task c W V n d e order earlier at is =
        by_side (node_asked c V n d e ((happened c s x).nodes.disk n).kept ((happened c s x).nodes.node n) order.device at.at is)
      where
        by_side : Plainly (V.device d) n e ⊎ (has_ended d e (tasks_in ((happened c s x).nodes.node n)) ≡ true) → Plainly (V.device d) n e
        by_side (inl z) = z
        by_side (inr z) = earlier z

first_comes : (h : Header) (cells : ℕ) → length h.devices ≤ most_devices → h.cluster < 2 ^ 32 → Comes h cells (first_scene h cells)
unfolding first_scene
first_comes h cells few small = record {
  reached = record { happenings = []; may = tt; is = refl };
  whole = first_whole_so h cells few small;
  engaged = λ n e d keys is. absurd (none_some keys is);
  plain = λ n d e is. absurd (false_true is);
}

-- ---- who is told

told_keys : (h : Header) (e d : ℕ) (ms : List Moment) (found : Seizing) (ns : List ℕ) → seizing_among h e d ms ns ≡ Some found → keys_seized h found.seizer e d ms ≡ Some found.keys
told_keys h e d ms found [] is = absurd (none_some found is)
told_keys h e d ms found (n ∷ ns) is = by_keys (keys_seized h n e d ms) refl is (λ rest. told_keys h e d ms found ns rest)
  where
    by_keys : (o : Option (List ℕ)) → keys_seized h n e d ms ≡ o → or_else (seizing_by n o) (seizing_among h e d ms ns) ≡ Some found
        → (seizing_among h e d ms ns ≡ Some found → keys_seized h found.seizer e d ms ≡ Some found.keys) → keys_seized h found.seizer e d ms ≡ Some found.keys
    by_keys None at k rest = rest k
    by_keys (Some keys) at k rest = subst (λ (z : Seizing). keys_seized h z.seizer e d ms ≡ Some z.keys) (same_some (record { seizer = n; keys = keys }) found k) at

pub plain_is_own : PlainIsOwn
plain_is_own h cells hs last few small disks may shaped native n x d found up device fresh plain told = plainly_alone (setting_of c) W d n found.seizer (session_of x) z.whole.reached asked
    (z.engaged found.seizer (session_of x) d found.keys (told_keys h (session_of x) d s.moments found (nodes_of (members_of (session_of x) s.moments)) told))
  where
    c : Cluster
    c = first_cluster h

    s : Scene
    s = all_happened c (first_scene h cells) hs

    z : Comes h cells s
    z = run_comes h cells few small (first_scene h cells) hs (runs_are_cut h cells hs) may (first_comes h cells few small)

    W : Whole
    W = z.whole.machine

    at : SiteAt c W n (site (Up x) (s.nodes.disk n).kept)
    at = subst (λ node. SiteAt c W n (site node (s.nodes.disk n).kept)) up (z.whole.sites n)

    session : ((W.device d).node n).session ≡ session_of x
    session = (((in_order (setting_of c) W z.whole.reached).agrees d).node n).session ∙ (sees c W.memberships n (s.nodes.disk n).kept x.attempt x.seat at.tied.0).session

    asked : Plainly (W.device d) n (session_of x)
    asked = subst (Plainly (W.device d) n) session
        (z.plain n d ((W.device d).node n).session (subst (λ node. has_plain d ((W.device d).node n).session (tasks_in node) ≡ true) (sym up) (tasks_session c W n d x.tasks at.at.tasks plain)))
