-- In each run the own Promise of a coordinator shows as valid what its record has as valid, but for devices that it seizes as such without votes.
use Rattle.std.specs.Prelude.{All, ℕ, ◌-◌, ◌++◌, ◌≡◌, ◌≤◌, List, [], ◌∷◌, None, Some, slice_get}
use Rattle.std.proofs.Common.{refl, sym, subst}
use Rattle.attempt_laws.specs.Staying.{IsBefore}
use Rattle.cl_base.specs.declared.header.Header.{Header}
use Rattle.cl_base.specs.declared.method.Outcome as method
use Rattle.cmm_attempt.specs.Attempts.{AttemptState}
use Rattle.cmm_attempt.specs.Calls.{IsDevice}
use Rattle.history.specs.Moment.{Said}
use Rattle.interconnect.specs.Links as net
use Rattle.interconnect.specs.Links.{sending}
use Rattle.machine_base.proofs.Puts.{put_cases}
use Rattle.node_model.specs.Seats.{record_of}
use Rattle.node_model.specs.Steps.{Outcome, stepped}
use Rattle.node_model.specs.declared.cluster.Cluster.{Cluster}
use Rattle.node_model.specs.declared.input.Input.{Input}
use Rattle.node_model.specs.declared.input.Input.TheVariants as input
use Rattle.node_model.specs.declared.node.Node.TheVariants.{Up}
use Rattle.node_model.specs.declared.node.UpNode.{UpNode}
use Rattle.pgr_device.specs.declared.command.PrCommand.TheVariants as command
use Rattle.record_disk.specs.Disks.{DiskState}
use Rattle.refinement.proofs.Disks.{disks_keep_rules}
use Rattle.refinement.proofs.Facts.{step_may}
use Rattle.refinement.proofs.Handlers.{delivered_by}
use Rattle.refinement.proofs.Replies.{steps_are_cut}
use Rattle.refinement.specs.Courses.{Reply}
use Rattle.refinement.specs.Cuts.{doings}
use Rattle.refinement.specs.Doings.{Doing, Site, after_all, effect, gives}
use Rattle.refinement.specs.Guards.{MayAll}
use Rattle.refinement.specs.Runs.{Letter, Nodes, letters_of, moved}
use Rattle.refinement.specs.Runs.Move.{Takes as Takes_in}
use Rattle.refinement.specs.Steps.{IsCut, disk_rules}
use Rattle.refinement.specs.Ties.{Delivered}
use Rattle.run_history.proofs.Idle.{passing_nodes}
use Rattle.run_history.specs.Guards.{Hand, hand_after}
use Rattle.run_history.specs.Happenings.{Commanded, Happening, MayAllHappen, MayHappen, all_happened, armed_by, commanded, given_by, happened, removed, taking}
use Rattle.run_history.specs.Happenings.Happening.{Arrives, Commands, Repeats, Speaks, Takes, Writes}
use Rattle.run_history.specs.Scenes.{Scene, adding, first_scene, telling, with_links}
use Rattle.run_history.specs.Stages.{Sized, Stage, site_of}
use Rattle.run_history.specs.Wholes.{IsWhole}
use Rattle.run_messages.proofs.Reaching.{IsReached, IsSmall, holds_of_each, stage_of}
use Rattle.run_messages.proofs.records.Sizes.{header_sized}
use Rattle.run_seizings.proofs.Asked.{AllMay}
use Rattle.run_seizings.proofs.Moments.{due_low, due_own, plain_no}
use Rattle.run_seizings.proofs.Steps.{Ground, answer_may, ground_of, plain_may}
use Rattle.schedule_text.specs.declared.event.Event.{Event}
use Rattle.schedule_text.specs.declared.event.Event.TheVariants as event
use Rattle.schedule_text.specs.declared.line.Line.TheVariants as line
use Rattle.status_report.specs.declared.entry.Entry.TheVariants as entry
use Rattle.status_report.specs.declared.packet_entry.PacketEntry.TheVariants as packet
use Rattle.world_model.specs.First.{first_cluster}
use Rattle.run_outcomes.specs.phases.Kept.{In}
use Rattle.run_outcomes.specs.saves.Kept.{IsAt}
use Rattle.run_outcomes.specs.tasks.OwnPromise.{AsksPlainly, KeepsOwn, OwnPromise}
use Rattle.run_outcomes.specs.tasks.Shown.{HandSent, SceneSo}
use Rattle.run_outcomes.proofs.own_shown.Acts.{doing_asks, doing_keeps}
use Rattle.run_outcomes.proofs.phases.Own.{dropped_nodes}
use Rattle.run_outcomes.proofs.reports.Disks.{commanded_nodes}
use Rattle.run_outcomes.proofs.shown.Admits.{answer_admits, plain_admits}
use Rattle.run_outcomes.proofs.shown.Deeds.{AllAdmit}
use Rattle.run_outcomes.proofs.shown.Letters.{older}
use Rattle.run_outcomes.proofs.shown.Now.{Now}
use Rattle.run_outcomes.proofs.shown.Steps.{plain_hand, run_so, whole_at}
use Rattle.run_outcomes.proofs.shown.Walk.{Done, doing_done, sent_more}

-- ---- a step

all_keep : (h : Header) (L : List Letter) (c : Cluster) (n : ℕ) (told : Delivered) (g : Hand) (x : Site) (ds : List Doing) → All IsDevice c.attached → HandSent L told → MayAll c n told x ds → AllMay h c n told g x ds → AllAdmit c n x ds
    → Now L n x g → AsksPlainly g → IsAt (OwnPromise n) x.node → IsAt (OwnPromise n) (after_all c n x ds).node
all_keep h L c n told g x [] fits sent may at admit now asks own = own
all_keep h L c n told g x (d ∷ ds) fits sent may at admit now asks own =
    let M : List Letter = letters_of n (gives c n x d) ++ L in
    let one : Done L c n x g d = doing_done h L c n told g x.node x.disk d fits sent may.0 at.0 admit.0 now in
    all_keep h M c n told (hand_after g d) (effect c n x d) ds fits (sent_more L M told (older n (gives c n x d) L) sent) may.1 at.1 admit.1 one.now
    (doing_asks L c n told g x.node x.disk d may.0 now.here asks) (doing_keeps h L c n told g x.node x.disk d may.0 at.0 admit.0 sent asks now.here own)

-- what the small steps of node n ask, where this comes to it
record Asks (h : Header) (c : Cluster) (n now : ℕ) (ends : method.Outcome) (i : Input) (s : Scene) : Type 0 where
  low : n ≤ 32
  sent : HandSent s.nodes.sent (delivered_by i)
  guard : (replies : List Reply) → AllMay h c n (delivered_by i) None (site_of s.nodes n) (doings c n now ends replies i (s.nodes.node n))
  admits : (replies : List Reply) → AllAdmit c n (site_of s.nodes n) (doings c n now ends replies i (s.nodes.node n))

step_keeps : (h : Header) (c : Cluster) (n now : ℕ) (ends : method.Outcome) (i : Input) (s : Scene) → Sized c → Ground c s.nodes → Asks h c n now ends i s → SceneSo s → IsAt (OwnPromise n) (s.nodes.node n)
    → IsAt (OwnPromise n) (stepped disk_rules c n now ends (s.nodes.node n) (s.nodes.disk n) i).after
step_keeps h c n now ends i s sized b asks k own =
    let v : Nodes = s.nodes in
    let o : Outcome DiskState = stepped disk_rules c n now ends (v.node n) (v.disk n) i in
    let cut : IsCut disk_rules c n now ends (v.node n) (v.disk n) i [] o = steps_are_cut disk_rules disks_keep_rules c n now ends (v.node n) (v.disk n) i in
    let x : Site = site_of v n in
    let small : List Doing = doings c n now ends cut.replies i (v.node n) in
    let may : MayAll c n (delivered_by i) x small =
    step_may c b.machine n now ends (v.node n) (v.disk n).kept i cut.replies asks.low sized.fits.devices.attached b.holds (b.stands n).tied (b.stands n).joins in
    subst (λ (z : Site). IsAt (OwnPromise n) z.node) cut.comes.left
    (all_keep h v.sent c n (delivered_by i) None x small sized.fits.devices.attached asks.sent may (asks.guard cut.replies) (asks.admits cut.replies)
    (record { apart = k.apart; agree = k.agree; here = k.sites n; hand = tt }) tt own)

-- ---- each thing that happens

abbrev pub AllKeep : Scene → Type 0
AllKeep s = (n : ℕ) → IsAt (OwnPromise n) (s.nodes.node n)

abbrev KeepIn : Nodes → Type 0
KeepIn v = (n : ℕ) → IsAt (OwnPromise n) (v.node n)

taking_keeps : (h : Header) (c : Cluster) (n now : ℕ) (ends : method.Outcome) (i : Input) (s t : Scene) → Sized c → Ground c s.nodes → Asks h c n now ends i s → SceneSo s → t.nodes ≡ s.nodes → AllKeep s
    → AllKeep (taking c n now ends i t)
taking_keeps h c n now ends i s t sized b asks k same own =
    subst KeepIn (sym (passing_nodes n (given_by c n now ends i t.nodes) (record t { nodes = moved c t.nodes (Takes_in n now ends i) })))
    (subst (λ v. KeepIn (moved c v (Takes_in n now ends i))) (sym same)
    (put_cases (λ j z. IsAt (OwnPromise j) z) s.nodes.node n (stepped disk_rules c n now ends (s.nodes.node n) (s.nodes.disk n) i).after (step_keeps h c n now ends i s sized b asks k (own n)) (λ j ne. own j)))

armed_keeps : (c : Cluster) (e : Event) (s : Scene) → AllKeep s → AllKeep (armed_by c e (adding (Said (line.Event e)) s))
armed_keeps c (event.CrashAt n calls choice) s own = own
armed_keeps c (event.Fault n d done) s own = own
armed_keeps c _ s own = own

happening_keeps : (h : Header) (s : Scene) (x : Happening) → MayHappen (first_cluster h) s x → Sized (first_cluster h) → Stage (first_cluster h) s → IsWhole (first_cluster h) s → SceneSo s → AllKeep s
    → AllKeep (happened (first_cluster h) s x)
happening_keeps h s (Speaks e) may sized b w k own = armed_keeps (first_cluster h) e s own
happening_keeps h s (Takes n now ends i) may sized b w k own =
    let c : Cluster = first_cluster h in
    taking_keeps h c n now ends i s s sized (ground_of c s b) (record {
      low = may.0.1;
      sent = plain_hand s.nodes.sent i may.1;
      guard = plain_may h c n now ends (s.nodes.node n) (s.nodes.disk n).kept i (plain_no i may.1) may.2 (b.fits.nodes n);
      admits = plain_admits c n now ends (s.nodes.node n) (s.nodes.disk n).kept i (plain_no i may.1) may.2 (b.fits.nodes n);
    }) k refl own
happening_keeps h s (Arrives number x m now ends) may sized b w k own =
    let c : Cluster = first_cluster h in
    let i : Input = input.Packet x.from m in
    taking_keeps h c x.to now ends i s (telling (entry.Packet (packet.Delivered number x.from x.to)) (removed s number)) sized (ground_of c s b) (record {
      low = may.3.1;
      sent = may.4;
      guard = plain_may h c x.to now ends (s.nodes.node x.to) (s.nodes.disk x.to).kept i tt may.5 (b.fits.nodes x.to);
      admits = plain_admits c x.to now ends (s.nodes.node x.to) (s.nodes.disk x.to).kept i tt may.5 (b.fits.nodes x.to);
    }) k refl own
happening_keeps h s (Repeats number x) may sized b w k own =
    let o : net.Outcome = sending s.links x.from x.to x.bytes in
    subst KeepIn (sym (dropped_nodes o.sent.dropped (telling (entry.Packet (packet.Repeated number s.links.next)) (with_links s o.after)))) own
happening_keeps h s (Commands n d q now ends) may sized b w k own =
    let c : Cluster = first_cluster h in
    let o : Commanded = commanded s n d q in
    taking_keeps h c n now ends (input.Answered o.answer) s o.scene sized (ground_of c s b) (record {
      low = may.0.1;
      sent = tt;
      guard = answer_may h c n now ends (s.nodes.node n) (s.nodes.disk n).kept o.answer (due_own h s n d q (s.nodes.node n) w may.2 (due_low c n (s.nodes.node n) d q (b.fits.nodes n) may.2));
      admits = answer_admits c n now ends (s.nodes.node n) (s.nodes.disk n).kept o.answer;
    }) k (commanded_nodes s n d (slice_get s.devices (d - 1)) q) own
happening_keeps h s (Writes n d value now ends) may sized b w k own =
    let c : Cluster = first_cluster h in
    let o : Commanded = commanded s n d (command.Write value) in
    let i : Input = input.Wrote d value o.answer in
    taking_keeps h c n now ends i s o.scene sized (ground_of c s b) (record {
      low = may.0.1;
      sent = tt;
      guard = plain_may h c n now ends (s.nodes.node n) (s.nodes.disk n).kept i tt may.2 (b.fits.nodes n);
      admits = plain_admits c n now ends (s.nodes.node n) (s.nodes.disk n).kept i tt may.2 (b.fits.nodes n);
    }) k (commanded_nodes s n d (slice_get s.devices (d - 1)) (command.Write value)) own
happening_keeps h s _ may sized b w k own = own

-- ---- each run

first_keeps : (h : Header) (cells : ℕ) → AllKeep (first_scene h cells)
unfolding first_scene
first_keeps h cells n = tt

pub scene_at : (h : Header) (cells : ℕ) (s : Scene) → IsSmall h → IsReached h cells s → SceneSo s
scene_at h cells s size r = subst SceneSo r.is (run_so h cells r.happenings size r.may)

run_keeps : (h : Header) (cells : ℕ) (hs : List Happening) → IsSmall h → MayAllHappen (first_cluster h) (first_scene h cells) hs → AllKeep (all_happened (first_cluster h) (first_scene h cells) hs)
run_keeps h cells hs size may =
    holds_of_each h cells AllKeep
    (λ s x now at more own. happening_keeps h s x now (header_sized h size.few size.small) (stage_of h cells s size at) (whole_at h cells s size at) (scene_at h cells s size at) own) (first_keeps h cells) hs may

-- so it is of each node with an attempt that has not installed
pub own_at : (h : Header) (cells : ℕ) (hs : List Happening) → IsSmall h → MayAllHappen (first_cluster h) (first_scene h cells) hs → (n : ℕ) (x : UpNode) (a : AttemptState)
    → (all_happened (first_cluster h) (first_scene h cells) hs).nodes.node n ≡ Up x → x.attempt ≡ Some a → IsBefore a.phase → KeepsOwn n (record_of x).valid x.tasks a
own_at h cells hs size may n x a up has_it before =
    subst (In (λ b. IsBefore b.phase → KeepsOwn n (record_of x).valid x.tasks b)) has_it (subst (IsAt (OwnPromise n)) up (run_keeps h cells hs size may n)) before
