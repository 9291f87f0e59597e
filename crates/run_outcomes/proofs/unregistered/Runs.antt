-- In each run no attempt that starts was told of a device without votes that a key is not registered.
use Rattle.std.specs.Prelude.{List, None, Option, Some, [], ◌∷◌, slice_get, ℕ, ◌-◌, ◌≡◌, ◌≢◌, ◌≤◌, ◌++◌}
use Rattle.std.proofs.Common.{refl, subst, sym, inl, inr}
use Rattle.cl_base.specs.declared.header.Header.{Header}
use Rattle.cl_base.specs.declared.method.Outcome as method
use Rattle.cl_base.specs.declared.packet.DropCause.{DropCause}
use Rattle.history.specs.Moment.{Said}
use Rattle.interconnect.specs.Links as links
use Rattle.interconnect.specs.Links.{Links, Packet, appending, count_on, crowding, dropping, free_cells_of, oldest_on, packet_of, refusing, removing, sending}
use Rattle.node_model.specs.Steps.{Outcome, stepped}
use Rattle.node_model.specs.declared.cluster.Cluster.{Cluster}
use Rattle.node_model.specs.declared.input.Input.{Input}
use Rattle.node_model.specs.declared.input.Input.TheVariants as input
use Rattle.pgr_device.specs.Device.{Device}
use Rattle.pgr_device.specs.declared.command.PrCommand.{PrCommand}
use Rattle.pgr_device.specs.declared.command.PrCommand.TheVariants as command
use Rattle.record_disk.specs.Disks.{DiskState}
use Rattle.refinement.proofs.Disks.{disks_keep_rules}
use Rattle.refinement.proofs.Facts.{step_may}
use Rattle.refinement.proofs.Handlers.{delivered_by}
use Rattle.refinement.proofs.Replies.{steps_are_cut}
use Rattle.refinement.specs.Courses.{Reply}
use Rattle.refinement.specs.Cuts.{doings}
use Rattle.refinement.specs.Doings.{Doing, Site, after_all, given_all, site}
use Rattle.refinement.specs.Runs.{Letter, Nodes, letters_of, moved}
use Rattle.refinement.specs.Runs.Move.{Takes as Takes_in}
use Rattle.refinement.specs.Steps.{IsCut, disk_rules}
use Rattle.run_history.specs.Wholes.{IsWhole}
use Rattle.run_history.proofs.Idle.{passing_nodes}
use Rattle.run_history.proofs.Steps.{put_all}
use Rattle.run_history.specs.Happenings.{Commanded, Happening, MayAllHappen, MayHappen, all_happened, armed_by, commanded, commanded_at, happened, removed, taking}
use Rattle.run_history.specs.Happenings.Happening.{Arrives, Begins, Commands, Loses, Misses, Notes, Refuses, Repeats, Speaks, Strays, Takes, Writes}
use Rattle.run_history.specs.Scenes.{Scene, adding, dropped_so, first_scene, passing, telling, with_links}
use Rattle.run_history.specs.Stages.{Sized, Stage, site_of}
use Rattle.run_messages.proofs.Reaching.{IsReached, IsSmall, holds_of_each, stage_of}
use Rattle.run_messages.proofs.records.Sizes.{header_sized}
use Rattle.run_seizings.proofs.Asked.{AllMay}
use Rattle.run_seizings.proofs.Moments.{due_low, due_own, plain_no}
use Rattle.run_seizings.proofs.Steps.{Ground, OwnKeysOnly, answer_may, ground_of, plain_may}
use Rattle.schedule_text.specs.declared.event.Event.{Event}
use Rattle.schedule_text.specs.declared.event.Event.TheVariants as event
use Rattle.schedule_text.specs.declared.line.Line.TheVariants as line
use Rattle.status_report.specs.declared.entry.Entry.TheVariants as entry
use Rattle.status_report.specs.declared.packet_entry.PacketEntry.TheVariants as packet
use Rattle.wire.specs.Spelling.{IsNode}
use Rattle.world_model.specs.First.{first_cluster}
use Rattle.run_outcomes.specs.tasks.Shown.{HandSent, SceneSo}
use Rattle.run_outcomes.proofs.shown.Admits.{answer_admits, plain_admits}
use Rattle.run_outcomes.proofs.shown.Letters.{older}
use Rattle.run_outcomes.proofs.shown.Deeds.{AllAdmit}
use Rattle.run_outcomes.proofs.shown.Walk.{given_less, given_more, on_all}
use Rattle.world_model.specs.Lines.{left_by}
use Rattle.cl_base.specs.declared.seizing.SeizeEnd.TheVariants.{NotRegistered}
use Rattle.node_model.specs.declared.output.Output.{Output}
use Rattle.node_model.specs.declared.output.Output.TheVariants.{Sends, Tells}
use Rattle.refinement.specs.Runs.{IsAmong}
use Rattle.run_history.proofs.Courses.{doings_so}
use Rattle.wire.specs.declared.message.Body.{Body}
use Rattle.wire.specs.declared.message.Body.TheVariants as body
use Rattle.run_outcomes.proofs.results.Pathed.{whole_at}
use Rattle.run_outcomes.proofs.shown.Steps.{armed_kept, plain_hand, run_so}
use Rattle.run_outcomes.proofs.unregistered.Tells.{KeptAt, kept_more, site_more}
use Rattle.run_outcomes.proofs.unregistered.Walk.{Walked, all_kept}
use Rattle.run_outcomes.specs.accounts.Unregistered.{AreAsked, SceneKept, SiteKept, StartsKept}

-- ---- small steps

-- whatever the disk replies
walked : (h : Header) (c : Cluster) (n now : ℕ) (ends : method.Outcome) (i : Input) (s : Scene) → Sized c → Ground c s.nodes → IsNode n → HandSent s.nodes.sent (delivered_by i)
    → ((replies : List Reply) → AllMay h c n (delivered_by i) None (site_of s.nodes n) (doings c n now ends replies i (s.nodes.node n)))
    → ((replies : List Reply) → AllAdmit c n (site_of s.nodes n) (doings c n now ends replies i (s.nodes.node n))) → SceneSo s → SceneKept s
    → (replies : List Reply) → Walked s.nodes.sent c n (site_of s.nodes n) (doings c n now ends replies i (s.nodes.node n))
walked h c n now ends i s sized b is hand guard admits so k replies =
    let v : Nodes = s.nodes in
    all_kept h v.sent c n (delivered_by i) None (site_of v n) (doings c n now ends replies i (v.node n)) sized.fits.devices.attached hand
    (step_may c b.machine n now ends (v.node n) (v.disk n).kept i replies is.1 sized.fits.devices.attached b.holds (b.stands n).tied (b.stands n).joins) (guard replies) (admits replies)
    (doings_so c n now ends replies i (v.node n)) (record { apart = so.apart; agree = so.agree; here = so.sites n; hand = tt }) (record { asked = k.asked; here = k.sites n; hand = tt })

-- what others tell is not this node's
other_tells : (n j : ℕ) (os : List Output) (L : List Letter) (b : Body) → j ≢ n → IsAmong j b (letters_of n os ++ L) → IsAmong j b L
other_tells n j [] L b ne t = t
other_tells n j (Tells e ∷ os) L b ne t = other_tells n j os L b ne t
other_tells n j (Sends to o ∷ os) L b ne (inl here) = absurd (ne (sym here.0))
other_tells n j (Sends to o ∷ os) L b ne (inr there) = other_tells n j os L b ne there

step_kept : (h : Header) (c : Cluster) (n now : ℕ) (ends : method.Outcome) (i : Input) (s : Scene)
    → ((replies : List Reply) → Walked s.nodes.sent c n (site_of s.nodes n) (doings c n now ends replies i (s.nodes.node n))) → SceneKept s → SceneKept (taking c n now ends i s)
step_kept h c n now ends i s walks k =
    let v : Nodes = s.nodes in
    let o : Outcome DiskState = stepped disk_rules c n now ends (v.node n) (v.disk n) i in
    let cut : IsCut disk_rules c n now ends (v.node n) (v.disk n) i [] o = steps_are_cut disk_rules disks_keep_rules c n now ends (v.node n) (v.disk n) i in
    let x : Site = site_of v n in
    let small : List Doing = doings c n now ends cut.replies i (v.node n) in
    let t : Scene = record s { nodes = moved c v (Takes_in n now ends i) } in
    let w : Walked v.sent c n x small = walks cut.replies in
    let N : List Letter = letters_of n (given_all c n x small) ++ v.sent in
    let z : KeptAt N n (after_all c n x small) w.hand =
    kept_more (on_all n c x small v.sent) N n (after_all c n x small) w.hand (given_more n c x small v.sent) (λ m e d keys y. given_less n c x small v.sent m (body.Seized e d (NotRegistered keys)) y) w.kept in
    let y : KeptAt (letters_of n o.given ++ v.sent) n (site o.after o.disk.kept) w.hand =
    subst (λ os. KeptAt (letters_of n os ++ v.sent) n (site o.after o.disk.kept) w.hand) cut.comes.given (subst (λ q. KeptAt N n q w.hand) cut.comes.left z) in
    let r : Scene = passing n o.given t in
    let same : r.nodes ≡ moved c v (Takes_in n now ends i) = passing_nodes n o.given t in
    let L : List Letter = letters_of n o.given ++ v.sent in
    record {
      asked = subst (λ (q : Nodes). AreAsked q.sent) (sym same) y.asked;
      sites = subst (λ (q : Nodes). (j : ℕ) → SiteKept q.sent j (site_of q j)) (sym same)
          (put_all (λ j node disk. SiteKept L j (site node disk)) v n o.after o.disk y.here
          (λ j ne. site_more v.sent L j (site_of v j) (older n o.given v.sent) (λ e d keys told. other_tells n j o.given v.sent (body.Seized e d (NotRegistered keys)) ne told) (k.sites j)));
    }

-- ---- where memberships start

abbrev pub StartsAt : Cluster → ℕ → ℕ → method.Outcome → Input → Nodes → Type 0
StartsAt c n now ends i v = (replies : List Reply) → StartsKept (doings c n now ends replies i (v.node n))

-- in what happens
abbrev pub StartsSo : Cluster → Scene → Happening → Type 0
StartsSo c s (Takes n now ends i) = StartsAt c n now ends i s.nodes
StartsSo c s (Arrives number x m now ends) = StartsAt c x.to now ends (input.Packet x.from m) s.nodes
StartsSo c s (Commands n d q now ends) = StartsAt c n now ends (input.Answered (commanded s n d q).answer) (commanded s n d q).scene.nodes
StartsSo c s (Writes n d value now ends) = StartsAt c n now ends (input.Wrote d value (commanded s n d (command.Write value)).answer) (commanded s n d (command.Write value)).scene.nodes
StartsSo c s _ = Unit {0}

record Happens (c : Cluster) (s : Scene) (x : Happening) : Type 0 where
  starts : StartsSo c s x
  kept : SceneKept (happened c s x)

-- ---- each thing that happens

armed_so : (c : Cluster) (e : Event) (s : Scene) → SceneKept s → SceneKept (armed_by c e s)
armed_so c (event.CrashAt n calls choice) s k =
    record { asked = k.asked; sites = λ j. subst (λ r. SiteKept s.nodes.sent j (site (s.nodes.node j) r)) (sym (armed_kept s.nodes.disk n j calls (left_by choice))) (k.sites j) }
armed_so c (event.Fault n d done) s k = record { asked = k.asked; sites = k.sites }
armed_so c _ s k = k

-- what a command at a device leaves
record Left (c : Cluster) (s : Scene) (o : Commanded) : Type 0 where
  so : SceneSo o.scene
  kept : SceneKept o.scene
  ground : Ground c o.scene.nodes
  nodes : o.scene.nodes ≡ s.nodes

left_at : (c : Cluster) (s : Scene) (n d : ℕ) (k : PrCommand) (o : Option Device) → Ground c s.nodes → SceneSo s → SceneKept s → Left c s (commanded_at s n d o k)
left_at c s n d k None g z y = record { so = z; kept = y; ground = g; nodes = refl }
left_at c s n d k (Some x) g z y = record {
  so = record { apart = z.apart; agree = z.agree; sites = z.sites; packets = z.packets; lines = z.lines };
  kept = record { asked = y.asked; sites = y.sites };
  ground = g;
  nodes = refl;
}

copied_kept : (o : Option (ℕ × DropCause)) (t : Scene) → SceneKept t → SceneKept (dropped_so o t)
copied_kept None t z = z
copied_kept (Some d) t z = record { asked = z.asked; sites = z.sites }

happening_kept : (h : Header) (s : Scene) (x : Happening) → MayHappen (first_cluster h) s x → Sized (first_cluster h) → Stage (first_cluster h) s → IsWhole (first_cluster h) s → SceneSo s → SceneKept s
    → Happens (first_cluster h) s x
happening_kept h s (Speaks e) may sized b w so k = record { starts = tt; kept = armed_so (first_cluster h) e (adding (Said (line.Event e)) s) (record { asked = k.asked; sites = k.sites }) }
happening_kept h s (Begins e) may sized b w so k = record { starts = tt; kept = record { asked = k.asked; sites = k.sites } }
happening_kept h s (Notes e) may sized b w so k = record { starts = tt; kept = record { asked = k.asked; sites = k.sites } }
happening_kept h s (Takes n now ends i) may sized b w so k =
    let c : Cluster = first_cluster h in
    let walks : (replies : List Reply) → Walked s.nodes.sent c n (site_of s.nodes n) (doings c n now ends replies i (s.nodes.node n)) =
    walked h c n now ends i s sized (ground_of c s b) may.0 (plain_hand s.nodes.sent i may.1)
    (plain_may h c n now ends (s.nodes.node n) (s.nodes.disk n).kept i (plain_no i may.1) may.2 (b.fits.nodes n))
    (plain_admits c n now ends (s.nodes.node n) (s.nodes.disk n).kept i (plain_no i may.1) may.2 (b.fits.nodes n)) so k in
    record { starts = λ replies. (walks replies).starts; kept = step_kept h c n now ends i s walks k }
happening_kept h s (Arrives number x m now ends) may sized b w so k =
    let c : Cluster = first_cluster h in
    let t : Scene = telling (entry.Packet (packet.Delivered number x.from x.to)) (removed s number) in
    let walks : (replies : List Reply) → Walked s.nodes.sent c x.to (site_of s.nodes x.to) (doings c x.to now ends replies (input.Packet x.from m) (s.nodes.node x.to)) =
    walked h c x.to now ends (input.Packet x.from m) s sized (ground_of c s b) may.3 may.4
    (plain_may h c x.to now ends (s.nodes.node x.to) (s.nodes.disk x.to).kept (input.Packet x.from m) tt may.5 (b.fits.nodes x.to))
    (plain_admits c x.to now ends (s.nodes.node x.to) (s.nodes.disk x.to).kept (input.Packet x.from m) tt may.5 (b.fits.nodes x.to)) so k in
    record { starts = λ replies. (walks replies).starts; kept = step_kept h c x.to now ends (input.Packet x.from m) t walks (record { asked = k.asked; sites = k.sites }) }
happening_kept h s (Strays number x) may sized b w so k = record { starts = tt; kept = record { asked = k.asked; sites = k.sites } }
happening_kept h s (Misses number x) may sized b w so k = record { starts = tt; kept = record { asked = k.asked; sites = k.sites } }
happening_kept h s (Loses number x) may sized b w so k = record { starts = tt; kept = record { asked = k.asked; sites = k.sites } }
happening_kept h s (Repeats number x) may sized b w so k =
    let o : links.Outcome = sending s.links x.from x.to x.bytes in
    record { starts = tt; kept = copied_kept o.sent.dropped (telling (entry.Packet (packet.Repeated number s.links.next)) (with_links s o.after)) (record { asked = k.asked; sites = k.sites }) }
happening_kept h s (Commands n d q now ends) may sized b w so k =
    let c : Cluster = first_cluster h in
    let o : Commanded = commanded s n d q in
    let l : Left c s o = left_at c s n d q (slice_get s.devices (d - 1)) (ground_of c s b) so k in
    let low : 1 ≤ d = due_low c n (s.nodes.node n) d q (b.fits.nodes n) may.2 in
    let walks : (replies : List Reply) → Walked o.scene.nodes.sent c n (site_of o.scene.nodes n) (doings c n now ends replies (input.Answered o.answer) (o.scene.nodes.node n)) =
    walked h c n now ends (input.Answered o.answer) o.scene sized l.ground may.0 tt
    (answer_may h c n now ends (o.scene.nodes.node n) (o.scene.nodes.disk n).kept o.answer
    (subst (λ (v : Nodes). OwnKeysOnly h (v.node n) o.answer) (sym l.nodes) (due_own h s n d q (s.nodes.node n) w may.2 low)))
    (answer_admits c n now ends (o.scene.nodes.node n) (o.scene.nodes.disk n).kept o.answer) l.so l.kept in
    record { starts = λ replies. (walks replies).starts; kept = step_kept h c n now ends (input.Answered o.answer) o.scene walks l.kept }
happening_kept h s (Writes n d value now ends) may sized b w so k =
    let c : Cluster = first_cluster h in
    let o : Commanded = commanded s n d (command.Write value) in
    let l : Left c s o = left_at c s n d (command.Write value) (slice_get s.devices (d - 1)) (ground_of c s b) so k in
    let walks : (replies : List Reply) → Walked o.scene.nodes.sent c n (site_of o.scene.nodes n) (doings c n now ends replies (input.Wrote d value o.answer) (o.scene.nodes.node n)) =
    walked h c n now ends (input.Wrote d value o.answer) o.scene sized l.ground may.0 tt
    (plain_may h c n now ends (o.scene.nodes.node n) (o.scene.nodes.disk n).kept (input.Wrote d value o.answer) tt may.2 (l.ground.fits.nodes n))
    (plain_admits c n now ends (o.scene.nodes.node n) (o.scene.nodes.disk n).kept (input.Wrote d value o.answer) tt may.2 (l.ground.fits.nodes n)) l.so l.kept in
    record { starts = λ replies. (walks replies).starts; kept = step_kept h c n now ends (input.Wrote d value o.answer) o.scene walks l.kept }
happening_kept h s (Refuses n d value cause) may sized b w so k = record { starts = tt; kept = record { asked = k.asked; sites = k.sites } }

-- ---- runs

first_kept : (h : Header) (cells : ℕ) → SceneKept (first_scene h cells)
unfolding first_scene
first_kept h cells = record { asked = λ n e d keys other t. absurd t; sites = λ n. record { low = λ e d keys t. absurd t; up = tt } }

-- what is known where something happens
happens_at : (h : Header) (cells : ℕ) (s : Scene) (x : Happening) → IsSmall h → IsReached h cells s → MayHappen (first_cluster h) s x → SceneKept s → Happens (first_cluster h) s x
happens_at h cells s x size at may k =
    happening_kept h s x may (header_sized h size.few size.small) (stage_of h cells s size at) (whole_at h cells s size at) (subst SceneSo at.is (run_so h cells at.happenings size at.may)) k

run_kept : (h : Header) (cells : ℕ) (hs : List Happening) → IsSmall h → MayAllHappen (first_cluster h) (first_scene h cells) hs → SceneKept (all_happened (first_cluster h) (first_scene h cells) hs)
run_kept h cells hs size may = holds_of_each h cells SceneKept (λ s x now at more k. (happens_at h cells s x size at now k).kept) (first_kept h cells) hs may

pub starts_at : (h : Header) (cells : ℕ) (s : Scene) (x : Happening) → IsSmall h → IsReached h cells s → MayHappen (first_cluster h) s x → StartsSo (first_cluster h) s x
starts_at h cells s x size at may = (happens_at h cells s x size at may (subst SceneKept at.is (run_kept h cells at.happenings size at.may))).starts
