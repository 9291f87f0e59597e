-- Each thing that happens keeps what attempts and messages have of seizings, and so does each run.
use Rattle.std.specs.Prelude.{ℕ, ◌-◌, ◌^◌, ◌≡◌, ◌<◌, ◌≤◌, true, List, [], ◌∷◌, Some, length, slice_get}
use Rattle.std.proofs.Common.{refl, sym, subst, arith, inl}
use Rattle.cl_base.specs.Limits.{most_devices}
use Rattle.cl_base.specs.declared.header.Header.{Header}
use Rattle.cl_base.specs.declared.packet.DropCause.TheVariants as drop
use Rattle.cluster_machine.proofs.Whole.{InOrder}
use Rattle.cluster_ties.proofs.First.{in_order}
use Rattle.cmm_attempt.proofs.Basics.{none_some, same_some}
use Rattle.history.specs.Contact.{AttemptsDiffer}
use Rattle.history.specs.Moment.{Moment, Part, Said, Told}
use Rattle.interconnect.specs.Links.{Links, Packet, removing, sending}
use Rattle.interconnect.specs.Links as links
use Rattle.membership_machine.specs.Growth.{Grows}
use Rattle.membership_machine.specs.Invariant.{Holds}
use Rattle.membership_machine.specs.State.{Memberships}
use Rattle.membership_machine.specs.Votes.{Setting}
use Rattle.node_model.specs.declared.cluster.Cluster.{Cluster}
use Rattle.node_model.specs.declared.input.Input.{Input}
use Rattle.node_model.specs.declared.input.Input.TheVariants as input
use Rattle.pgr_device.specs.Device.{Device}
use Rattle.refinement.proofs.DeviceWidths.{command_keeps}
use Rattle.refinement.specs.Ties.{setting_of}
use Rattle.refinement.specs.Worlds.{Keeps}
use Rattle.run_history.proofs.ContactWidths.{node_due}
use Rattle.run_history.proofs.DeedRuns.{runs_are_cut}
use Rattle.run_history.proofs.DevicesRun.{packet_quiet, plain_quiet}
use Rattle.run_history.proofs.LineSteps.{commands_are_told}
use Rattle.run_history.proofs.Reached.{Reached, reached_more}
use Rattle.run_history.proofs.Runs.{once_of_each_run}
use Rattle.run_history.proofs.Stays.{run_grows, run_same, whole_holds}
use Rattle.run_history.proofs.WholeEachRun.{first_whole_so, happens}
use Rattle.run_history.proofs.WholeScenes.{Follows}
use Rattle.run_history.specs.CommandLines.{AllQuiet}
use Rattle.run_history.specs.Cuts.{Cut, Cuts, events_of, step_events}
use Rattle.run_history.specs.Happenings.{Happening, MayAllHappen, MayHappen, all_happened, given_by, happened, removed, taking}
use Rattle.run_history.specs.Happenings.Happening.{Arrives, Begins, Commands, Loses, Misses, Notes, Refuses, Repeats, Speaks, Strays, Takes, Writes}
use Rattle.run_history.specs.Scenes.{Scene, adding, first_scene, telling, with_links}
use Rattle.run_history.specs.Wholes.{IsWhole}
use Rattle.schedule_text.specs.declared.line.Line.TheVariants as line
use Rattle.status_report.specs.declared.device_entry.DeviceEntry.TheVariants as device
use Rattle.status_report.specs.declared.entry.Entry.TheVariants as entry
use Rattle.status_report.specs.declared.packet_entry.PacketEntry.TheVariants as packet
use Rattle.world_model.specs.First.{first_cluster}
use Rattle.run_seizings.proofs.Moments.{answer_fits, due_low, due_own, plain_fits, plain_no, plain_sent}
use Rattle.run_seizings.proofs.Steps.{plain_may}
use Rattle.run_devices.proofs.readings.Letters.{arrived_hand}
use Rattle.run_devices.proofs.readings.Moments.{delivered_reads, plain_hand}
use Rattle.run_devices.proofs.readings.Runs.{run_reads}
use Rattle.run_devices.specs.readings.Sites.{IsReading}
use Rattle.run_devices.specs.valid.Engaged.{SeizersEngaged}
use Rattle.run_devices.proofs.valid.Machine.{engaged_stays}
use Rattle.run_devices.proofs.valid.Told.{installs_tell_seizings}
use Rattle.run_devices.specs.installs.Laws.{InstallsTellAllSeizings}
use Rattle.run_devices.specs.installs.Shown.{BodyShown, Shown, shown_in}
use Rattle.run_devices.proofs.installs.Asks.{promise_in}
use Rattle.run_devices.proofs.installs.Begins.{engaged_later}
use Rattle.run_devices.proofs.installs.Calls.{HandLow, HandShown}
use Rattle.run_devices.proofs.installs.Links.{AllSay, dropped_stays, packet_says, removing_says, say_later, sending_says}
use Rattle.run_devices.proofs.installs.News.{lines_new}
use Rattle.run_devices.proofs.installs.Steps.{Stepped, small_of, step_goes}
use Rattle.run_devices.proofs.installs.Told.{all_told}
use Rattle.run_devices.proofs.installs.Taken.{Facts, IsShown, ground_of, mine_at, more_said, packets_begin, sites_begin, taken_shown}
use Rattle.node_model.specs.Steps.{stepped}
use Rattle.refinement.specs.node_widths.Widths.{NodeFits}
use Rattle.refinement.specs.Steps.{disk_rules}
use Rattle.run_history.proofs.Flying.{dropped_links}
use Rattle.run_seizings.proofs.Progress.{installed_stays}
use Rattle.run_seizings.specs.Seized.{has_installed}
use Rattle.run_devices.proofs.installs.Answered.{armed_shown, commands_shown, cut_quiet, dropped_brings, dropped_nodes, plain_none, quiet_brings, world_shown, writes_shown}
use Rattle.run_devices.proofs.readings.Order.{header_order}

-- ---- each thing that happens

pub known_facts : (h : Header) (s : Scene) (w : IsWhole (first_cluster h) s) (x : Happening) → MayHappen (first_cluster h) s x → InOrder (setting_of (first_cluster h)) w.machine
    → SeizersEngaged h w.machine s.moments → IsReading h s → IsShown h s w.machine.memberships → Facts h s w (happened (first_cluster h) s x).moments
known_facts h s w x may order engaged reading shown =
    record { order = order; engaged = engaged; reading = reading; new = lines_new h s w x may order reading; shown = shown }

happening_shown : (h : Header) (s : Scene) (w : IsWhole (first_cluster h) s) (x : Happening) (cut : Cut (first_cluster h) s x)
    → (f : Follows (first_cluster h) s w (happened (first_cluster h) s x) (events_of (first_cluster h) s x cut)) → MayHappen (first_cluster h) s x
    → Facts h s w (happened (first_cluster h) s x).moments → AttemptsDiffer (happened (first_cluster h) s x).moments → IsShown h (happened (first_cluster h) s x) f.next.machine.memberships
happening_shown h s w x cut f may b differ = by_happening x cut f may b differ
  where
    c : Cluster
    c = first_cluster h

    S : Setting
    S = setting_of c

    M : Memberships
    M = w.machine.memberships

    grows : (x : Happening) (cut : Cut c s x) → (f : Follows c s w (happened c s x) (events_of c s x cut)) → Grows M f.next.machine.memberships
    grows x cut f = run_grows S M f.next.machine.memberships (events_of c s x cut) (whole_holds S w.machine w.reached) f.run

    one : (y : Moment) (n e : ℕ) → has_installed n e s.moments ≡ true → has_installed n e (y ∷ s.moments) ≡ true
    one y n e is = installed_stays s.moments y n e is

    by_happening : (x : Happening) (cut : Cut c s x) → (f : Follows c s w (happened c s x) (events_of c s x cut)) → MayHappen c s x → Facts h s w (happened c s x).moments
        → AttemptsDiffer (happened c s x).moments → IsShown h (happened c s x) f.next.machine.memberships
    by_happening (Speaks e) cut f may b differ =
        armed_shown h c e (adding (Said (line.Event e)) s) f.next.machine.memberships
        (world_shown h s w (adding (Said (line.Event e)) s) f.next.machine.memberships
        (record { order = b.order; engaged = b.engaged; reading = b.reading; new = λ m q j. inl refl; shown = b.shown }) (grows (Speaks e) cut f) refl (one (Said (line.Event e))) (tt, b.shown.brings) (λ k. k))
    by_happening (Begins e) cut f may b differ =
        world_shown h s w (adding (Part e) s) f.next.machine.memberships b (grows (Begins e) cut f) refl (one (Part e)) (tt, b.shown.brings) (λ k. k)
    by_happening (Notes e) cut f may b differ =
        world_shown h s w (telling (entry.Schedule e) s) f.next.machine.memberships b (grows (Notes e) cut f) refl (one (Told (entry.Schedule e))) (tt, b.shown.brings) (λ k. k)
    by_happening (Takes n now ends i) cut f m b differ =
        let end : List Moment = (taking c n now ends i s).moments in
        let K : Shown = shown_in h end in
        let quiet : AllQuiet (given_by c n now ends i s.nodes) =
        plain_quiet n (s.nodes.node n) i (given_by c n now ends i s.nodes) m.1 (commands_are_told c n now ends (s.nodes.node n) (s.nodes.disk n) i) in
        let z : Stepped h c M n 0 K s.nodes (stepped disk_rules c n now ends (s.nodes.node n) (s.nodes.disk n) i) (small_of c n now ends s.nodes i cut) end =
        step_goes h c n now ends i s 0 refl (record { fits = w.cluster.fits; small = w.cluster.small }) (header_order h) (ground_of c s w) m.0 m.2
        (plain_sent s.nodes i m.1) (plain_fits i m.1) (plain_hand h s.moments n i m.1 m.3)
        (plain_may h c n now ends (s.nodes.node n) (s.nodes.disk n).kept i (plain_no i m.1) m.2 (w.fits.nodes n)) differ b.reading cut (cut_quiet c n now ends s.nodes i cut quiet)
        (subst (λ d. HandLow 0 d) (sym (plain_none i m.1)) tt) (subst (λ d. HandShown K M s.moments d) (sym (plain_none i m.1)) tt) (mine_at h s w end 0 n b) in
        taken_shown h c n now ends i s 0 M f.next.machine.memberships cut z
        (run_same S M z.went.machine f.next.machine.memberships (step_events c n now ends s.nodes i cut) z.went.run f.run) (sites_begin h s w end b) (packets_begin h s w end b)
        (quiet_brings h s c n now ends i 0 M cut quiet z b.shown.brings)
    by_happening (Arrives number x m now ends) cut f may b differ =
        let i : Input = input.Packet x.from m in
        let t : Scene = telling (entry.Packet (packet.Delivered number x.from x.to)) (removed s number) in
        let end : List Moment = (taking c x.to now ends i t).moments in
        let K : Shown = shown_in h end in
        let high : ℕ = promise_in m.body in
        let holds : Holds S M = whole_holds S w.machine w.reached in
        let quiet : AllQuiet (given_by c x.to now ends i s.nodes) =
        packet_quiet x.to (s.nodes.node x.to) x.from m (given_by c x.to now ends i s.nodes) (commands_are_told c x.to now ends (s.nodes.node x.to) (s.nodes.disk x.to) i) in
        let said : AllSay (BodyShown K M t.moments) s.links =
        say_later (BodyShown K M s.moments) (BodyShown K M t.moments) s.links (more_said h K M S (Told (entry.Packet (packet.Delivered number x.from x.to))) s.moments holds) (packets_begin h s w end b) in
        let z : Stepped h c M x.to high K s.nodes (stepped disk_rules c x.to now ends (s.nodes.node x.to) (s.nodes.disk x.to) i) (small_of c x.to now ends s.nodes i cut) end =
        step_goes h c x.to now ends i t high refl (record { fits = w.cluster.fits; small = w.cluster.small }) (header_order h) (ground_of c s w) may.3 may.5 may.4 tt
        (arrived_hand h s.moments s.links number x m may.0 may.1 b.reading.carried)
        (plain_may h c x.to now ends (s.nodes.node x.to) (s.nodes.disk x.to).kept i tt may.5 (w.fits.nodes x.to)) differ (delivered_reads h s number x.from x.to b.reading) cut
        (cut_quiet c x.to now ends s.nodes i cut quiet) (itself high) (packet_says (BodyShown K M t.moments) s.links number x said may.0 m may.1) (mine_at h s w end high x.to b) in
        taken_shown h c x.to now ends i t high M f.next.machine.memberships cut z
        (run_same S M z.went.machine f.next.machine.memberships (step_events c x.to now ends s.nodes i cut) z.went.run f.run) (sites_begin h s w end b)
        (removing_says (BodyShown K M t.moments) s.links number said)
        (quiet_brings h t c x.to now ends i high M cut quiet z (tt, b.shown.brings))
      where
        itself : (a : ℕ) → a ≤ a
        itself a = omega arith
    by_happening (Strays number x) cut f may b differ =
        world_shown h s w (telling (entry.Packet (packet.Delivered number x.from x.to)) (removed s number)) f.next.machine.memberships b (grows (Strays number x) cut f) refl
        (one (Told (entry.Packet (packet.Delivered number x.from x.to)))) (tt, b.shown.brings) (λ k. removing_says _ s.links number k)
    by_happening (Misses number x) cut f may b differ =
        world_shown h s w (telling (entry.Packet (packet.Dropped number drop.Down)) (removed s number)) f.next.machine.memberships b (grows (Misses number x) cut f) refl
        (one (Told (entry.Packet (packet.Dropped number drop.Down)))) (tt, b.shown.brings) (λ k. removing_says _ s.links number k)
    by_happening (Loses number x) cut f may b differ =
        world_shown h s w (telling (entry.Packet (packet.Lost number)) (removed s number)) f.next.machine.memberships b (grows (Loses number x) cut f) refl
        (one (Told (entry.Packet (packet.Lost number)))) (tt, b.shown.brings) (λ k. removing_says _ s.links number k)
    by_happening (Repeats number x) cut f may b differ =
        let o : links.Outcome = sending s.links x.from x.to x.bytes in
        let t : Scene = telling (entry.Packet (packet.Repeated number s.links.next)) (with_links s o.after) in
        world_shown h s w (happened c s (Repeats number x)) f.next.machine.memberships b (grows (Repeats number x) cut f) (dropped_nodes o.sent.dropped t)
        (λ n e is. dropped_stays (λ ms. has_installed n e ms ≡ true) (λ y ms k. installed_stays ms y n e k) o.sent.dropped t (one (Told (entry.Packet (packet.Repeated number s.links.next))) n e is))
        (dropped_brings h o.sent.dropped t (tt, b.shown.brings))
        (λ k. subst (AllSay _) (sym (dropped_links o.sent.dropped t)) (sending_says _ s.links x.from x.to x.bytes k (packet_says _ s.links number x k may.0)))
    by_happening (Commands n d q now ends) cut f may b differ =
        let keeps : (x : Device) → slice_get s.devices (d - 1) ≡ Some x → Keeps x n q =
        λ x is. command_keeps x n q may.0.0 may.0.1
        (node_due c n d q (Some (s.nodes.node n)) w.cluster.small may.0.1
        (λ node at. subst (λ z. NodeFits c n z) (same_some (s.nodes.node n) node at) (w.fits.nodes n)) may.2)
        (w.device_fits (d - 1) x is) in
        commands_shown h s w n d q now ends (slice_get s.devices (d - 1)) f.next.machine.memberships may cut b (answer_fits c s n d q (slice_get s.devices (d - 1)) keeps)
        (due_own h s n d q (s.nodes.node n) w may.2 (due_low c n (s.nodes.node n) d q (w.fits.nodes n) may.2)) differ f.run
    by_happening (Writes n d value now ends) cut f may b differ =
        writes_shown h s w n d value now ends (slice_get s.devices (d - 1)) f.next.machine.memberships may cut b differ f.run
    by_happening (Refuses n d value why) cut f may b differ =
        world_shown h s w (telling (entry.Device (device.Refused n d value why)) s) f.next.machine.memberships b (grows (Refuses n d value why) cut f) refl
        (one (Told (entry.Device (device.Refused n d value why)))) (tt, b.shown.brings) (λ k. k)

-- ---- runs

pub record Comes (h : Header) (cells : ℕ) (s : Scene) : Type 0 where
  pub reached : Reached (first_cluster h) (first_scene h cells) s
  pub whole : IsWhole (first_cluster h) s
  pub engaged : SeizersEngaged h whole.machine s.moments
  pub shown : IsShown h s whole.machine.memberships

reading_at : (h : Header) (cells : ℕ) (s : Scene) → length h.devices ≤ most_devices → h.cluster < 2 ^ 32 → Reached (first_cluster h) (first_scene h cells) s → IsReading h s
reading_at h cells s few small r = subst (IsReading h) r.is (run_reads h cells r.happenings few small r.may).reading

differ_at : (h : Header) (cells : ℕ) (s : Scene) → length h.devices ≤ most_devices → h.cluster < 2 ^ 32 → Reached (first_cluster h) (first_scene h cells) s → AttemptsDiffer s.moments
differ_at h cells s few small r = subst (λ (z : Scene). AttemptsDiffer z.moments) r.is (once_of_each_run h cells r.happenings few small r.may)

run_comes : (h : Header) (cells : ℕ) → length h.devices ≤ most_devices → h.cluster < 2 ^ 32 → (s : Scene) (xs : List Happening) → Cuts (first_cluster h) s xs
    → MayAllHappen (first_cluster h) s xs → Comes h cells s → Comes h cells (all_happened (first_cluster h) s xs)
run_comes h cells few small s [] cuts may k = k
run_comes h cells few small s (x ∷ xs) cuts may k =
    let c : Cluster = first_cluster h in
    let order : InOrder (setting_of c) k.whole.machine = in_order (setting_of c) k.whole.machine k.whole.reached in
    let f : Follows c s k.whole (happened c s x) (events_of c s x cuts.0) = happens c s k.whole x cuts.0 may.0 in
    let next : Reached c (first_scene h cells) (happened c s x) = reached_more c (first_scene h cells) s x k.reached may.0 in
    let b : Facts h s k.whole (happened c s x).moments = known_facts h s k.whole x may.0 order k.engaged (reading_at h cells s few small k.reached) k.shown in
    let told : SeizersEngaged h k.whole.machine (happened c s x).moments = engaged_later h k.whole.machine s.moments (happened c s x).moments b.new k.engaged in
    run_comes h cells few small (happened c s x) xs cuts.1 may.1 (record {
      reached = next;
      whole = f.next;
      engaged = λ n e d keys is. engaged_stays (setting_of c) k.whole.machine f.next.machine f.steps n e d order f.whole_run (told n e d keys is);
      shown = happening_shown h s k.whole x cuts.0 f may.0 b (differ_at h cells (happened c s x) few small next);
    })

first_comes : (h : Header) (cells : ℕ) → length h.devices ≤ most_devices → h.cluster < 2 ^ 32 → Comes h cells (first_scene h cells)
unfolding first_scene
first_comes h cells few small = record {
  reached = record { happenings = []; may = tt; is = refl };
  whole = first_whole_so h cells few small;
  engaged = λ n e d keys is. absurd (none_some keys is);
  shown = record { sites = λ n. tt; packets = tt; brings = tt };
}

pub run_shows : (h : Header) (cells : ℕ) (xs : List Happening) → length h.devices ≤ most_devices → h.cluster < 2 ^ 32 → MayAllHappen (first_cluster h) (first_scene h cells) xs
    → Comes h cells (all_happened (first_cluster h) (first_scene h cells) xs)
run_shows h cells xs few small may = run_comes h cells few small (first_scene h cells) xs (runs_are_cut h cells xs) may (first_comes h cells few small)

-- ---- the laws

pub installs_tell_all_seizings : InstallsTellAllSeizings
installs_tell_all_seizings h cells xs few small may =
    all_told h _ (run_shows h cells xs few small may).shown.brings (installs_tell_seizings h cells xs few small may)
