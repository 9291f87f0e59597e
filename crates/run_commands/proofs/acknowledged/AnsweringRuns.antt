-- Each thing that happens keeps what is carried; so does each run.
use Rattle.std.specs.Prelude.{ℕ, ◌-◌, ◌≡◌, ◌≢◌, ◌≤◌, ◌⊎◌, All, List, ◌∷◌, Option, None, Some, slice_get}
use Rattle.std.proofs.Common.{refl, sym, ap, subst, ◌∙◌, inl, inr}
use Rattle.cl_base.specs.declared.header.Header.{Header}
use Rattle.cl_base.specs.declared.packet.DropCause.{DropCause}
use Rattle.cl_base.specs.declared.packet.DropCause.TheVariants as drop
use Rattle.cmm_attempt.specs.Calls.{IsDevice}
use Rattle.interconnect.specs.Links as links
use Rattle.interconnect.specs.Links.{sending}
use Rattle.machine_base.specs.Put.{put}
use Rattle.machine_base.proofs.Puts.{put_here, put_there, same_or_not}
use Rattle.pgr_device.specs.Device.{Device}
use Rattle.pgr_device.specs.declared.command.PrCommand.{PrCommand}
use Rattle.pgr_device.specs.declared.command.PrCommand.TheVariants as command
use Rattle.record_disk.specs.Disks.{DiskState, armed}
use Rattle.schedule_text.specs.declared.event.Event.{Event}
use Rattle.schedule_text.specs.declared.event.Event.TheVariants as event
use Rattle.schedule_text.specs.declared.line.Line.TheVariants as line
use Rattle.status_report.specs.declared.device_entry.DeviceEntry.TheVariants as device
use Rattle.status_report.specs.declared.entry.Entry.TheVariants as entry
use Rattle.status_report.specs.declared.packet_entry.PacketEntry.{PacketEntry}
use Rattle.status_report.specs.declared.packet_entry.PacketEntry.TheVariants as packet
use Rattle.history.specs.Moment.{Moment, Part, Said, Told}
use Rattle.history.specs.Setting.{Setting}
use Rattle.history.specs.Trace.{delivered}
use Rattle.node_model.specs.declared.cluster.Cluster.{Cluster}
use Rattle.node_model.specs.declared.input.Input.{Input}
use Rattle.node_model.specs.declared.input.Input.TheVariants as input
use Rattle.node_model.specs.declared.node.UpNode.{UpNode}
use Rattle.refinement.specs.Doings.{Act, Change}
use Rattle.world_model.specs.First.{first_cluster}
use Rattle.world_model.specs.Lines.{left_by}
use Rattle.run_history.specs.Happenings.{Arrives, Begins, Commands, Happening, IsPlain, Loses, MayAllHappen, MayHappen, Misses, Notes, Refuses, Repeats, Speaks, Strays, Takes, Writes, all_happened, armed_by, commanded, commanded_at, happened, removed}
use Rattle.run_history.specs.Scenes.{Scene, adding, dropped_so, first_scene, telling, with_links}
use Rattle.run_history.specs.Stages.{Stage}
use Rattle.run_history.proofs.MemberRuns.{first_fit}
use Rattle.run_messages.proofs.Collecting.{arrival_collects}
use Rattle.run_messages.proofs.Reaching.{IsReached, IsSmall, holds_of_each, stage_of, taking_good}
use Rattle.run_messages.proofs.Runs.{Knows}
use Rattle.run_messages.specs.Laws.{AreSeated}
use Rattle.run_commands.proofs.carried.Causes.{ArrivedSo}
use Rattle.run_commands.proofs.carried.Flying.{arrived_so, flying_stays, removing_posted}
use Rattle.run_commands.proofs.carried.Kept.{CarriesIn, moment_carries}
use Rattle.run_commands.proofs.carried.Runs.{FewLines, carries_of, commanded_collects, commanded_knows, commanded_seats, few_before, knows, plain_came, plain_collects, plain_known, quiet_packet, seats_of, told_among}
use Rattle.run_commands.proofs.acknowledged.Commands.{Reads}
use Rattle.run_commands.proofs.acknowledged.Frames.{packet_frame}
use Rattle.run_commands.proofs.acknowledged.Kept.{KeepsIn, moment_keeps}
use Rattle.run_commands.proofs.acknowledged.Runs.{Brought, KeptSo, answer_hand, brought, came_hand, commanded_carries, commanded_few, commanded_keeps, first_keeps, keeps_kept, plain_hand, sender_fits}
use Rattle.run_commands.proofs.acknowledged.Carrying.{CameFrom, Carries, EachGoes, IsOutside, NodeAt}
use Rattle.run_commands.specs.acknowledged.AnsweringGuards.{Due}
use Rattle.run_commands.proofs.acknowledged.Settled.{AcksArePending}
use Rattle.run_commands.proofs.acknowledged.Before.{acks_before}
use Rattle.run_commands.proofs.acknowledged.Numbers.{no_less, sending_next}
use Rattle.run_commands.proofs.acknowledged.AnsweringKept.{EachGoesSo, Stays, moment_stays, taking_stays}

-- ---- a packet comes

plain_from : (i : Input) (ms : List Moment) → IsPlain i → CameFrom i ms
plain_from (input.Packet from m) ms plain = absurd plain
plain_from _ ms plain = tt

-- .. and so each scene that a run comes to keeps what run_commands keeps
pub keeps_of : (S : Setting) (h : Header) (cells : ℕ) (s : Scene) → Reads (first_cluster h) S → IsSmall h → IsReached h cells s → KeptSo S (first_cluster h) s
keeps_of S h cells s reads size r =
    subst (KeptSo S (first_cluster h)) r.is (holds_of_each h cells (KeptSo S (first_cluster h)) (keeps_kept S h cells reads size) (λ first. first_keeps S h cells) r.happenings r.may)

module _ (S : Setting) (c : Cluster) (P : ℕ → ℕ → Due → UpNode → ℕ → List Moment → Type 0) (Q : ℕ → ℕ → List Moment → Type 0) (W : List Moment → Type 0) (N : ℕ → UpNode → Type 0) (A : Input → ℕ → Option ℕ → UpNode → Act → Type 0)
    (B : Input → ℕ → Option ℕ → UpNode → Change → Type 0) (R : Carries S c P Q W N A B) (each : EachGoes c N A B) (goes : EachGoesSo c) (reads : Reads c S) where
  abbrev StaysIn : Scene → Type 0
  StaysIn s = Stays P Q W s.nodes s

  -- ---- lines of the world

  outside : (m : Moment) (s t : Scene) → Knows c s.nodes → AreSeated s → IsOutside m → t.nodes ≡ s.nodes → t.moments ≡ m ∷ s.moments → s.links.next ≤ t.links.next → StaysIn s → StaysIn t
  outside m s t k seated out same after low h =
      subst (λ v. Stays P Q W v t) (sym same) (moment_stays S c P Q W N A B R each goes reads s.nodes m s t k out after low seated h)

  dropped_stays : (o : Option (ℕ × DropCause)) (s : Scene) → Knows c s.nodes → AreSeated s → StaysIn s → StaysIn (dropped_so o s)
  dropped_stays None s k seated h = h
  dropped_stays (Some dropped) s k seated h = outside (Told (entry.Packet (packet.Dropped dropped.0 dropped.1))) s (dropped_so (Some dropped) s) k seated tt refl refl (no_less s.links.next) h

  armed_kept : (g : ℕ → DiskState) (n k : ℕ) (d : DiskState) → d.kept ≡ (g n).kept → (put g n d k).kept ≡ (g k).kept
  armed_kept g n k d same = go (same_or_not k n)
    where
      go : (k ≡ n) ⊎ (k ≢ n) → (put g n d k).kept ≡ (g k).kept
      go (inl e) = ap (λ j. (put g n d j).kept) e ∙ (ap (λ (z : DiskState). z.kept) (put_here g n d) ∙ (same ∙ ap (λ j. (g j).kept) (sym e)))
      go (inr ne) = ap (λ (z : DiskState). z.kept) (put_there g n d k ne)

  armed_stays : (e : Event) (s : Scene) → StaysIn s → StaysIn (armed_by c e s)
  armed_stays (event.Fault n d done) s h = record { nodes = h.nodes; told = h.told }
  armed_stays (event.CrashAt n calls choice) s h = record {
    nodes = λ k. subst (λ r. NodeAt P Q k r.promised (s.nodes.node k) s) (sym (armed_kept s.nodes.disk n k (armed (s.nodes.disk n) calls (left_by choice)) refl)) (h.nodes k);
    told = h.told;
  }
  armed_stays _ s h = h

  commanded_stays : (s : Scene) (n d : ℕ) (o : Option Device) (k : PrCommand) → StaysIn s → StaysIn (commanded_at s n d o k).scene
  commanded_stays s n d None k h = h
  commanded_stays s n d (Some x) k h = record { nodes = h.nodes; told = h.told }

  -- ---- each thing that happens

  happening_stays : (s : Scene) (x : Happening) → All IsDevice c.attached → MayHappen c s x → Stage c s → Stage c (happened c s x) → AreSeated s → FewLines s.moments → CarriesIn S s → KeepsIn S c s
      → AcksArePending (happened c s x).moments → StaysIn s → StaysIn (happened c s x)
  happening_stays s (Speaks e) fits may before b seated few carries keeps acks h =
      armed_stays e (adding (Said (line.Event e)) s) (outside (Said (line.Event e)) s (adding (Said (line.Event e)) s) (knows c s before) seated tt refl refl (no_less s.links.next) h)
  happening_stays s (Begins e) fits may before b seated few carries keeps acks h = outside (Part e) s (adding (Part e) s) (knows c s before) seated tt refl refl (no_less s.links.next) h
  happening_stays s (Notes e) fits may before b seated few carries keeps acks h =
      outside (Told (entry.Schedule e)) s (telling (entry.Schedule e) s) (knows c s before) seated tt refl refl (no_less s.links.next) h
  happening_stays s (Takes n now ends i) fits may before b seated few carries keeps acks h =
      let k : Knows c s.nodes = knows c s before in
      taking_stays S c P Q W N A B R each goes reads s n now ends i may.0 fits k (plain_known k.machine i may.1) (plain_collects n s.moments i may.1 may.3) (taking_good c s n now ends i b) (seated n) may.4
      (plain_came n s.moments i may.1) few (carries.nodes n) carries.carried (plain_hand S c n i s.moments (s.nodes.node n) may.1) keeps (plain_from i s.moments may.1) acks h
  happening_stays s (Arrives number x m now ends) fits may before b seated few carries keeps acks h =
      let e : PacketEntry = packet.Delivered number x.from x.to in
      let t : Scene = telling (entry.Packet e) (removed s number) in
      let k : Knows c s.nodes = knows c s before in
      let came : ArrivedSo (delivered number x.from x.to ∷ s.moments) x.to x.from m = arrived_so s.moments s.links number x m may.0 may.1 carries.flying in
      let after : CarriesIn S t =
      moment_carries S c s.nodes (Told (entry.Packet e)) s.moments s.links (links.removing s.links number) k (λ j. quiet_packet S j e s.moments) tt
      (flying_stays s.moments (Told (entry.Packet e)) (links.removing s.links number) (λ p. refl) (removing_posted s.moments s.links number carries.flying)) carries in
      let letter : Brought s.moments number x m = brought c s number x m may.0 may.1 before came in
      taking_stays S c P Q W N A B R each goes reads t x.to now ends (input.Packet x.from m) may.3 fits k (told_among k.machine x.from m.body s.nodes.sent may.4 before.sent) (arrival_collects c s number x m may.0 may.1 before)
      (taking_good c t x.to now ends (input.Packet x.from m) b) (seated x.to) tt came few (after.nodes x.to) after.carried
      (came_hand S c s number x m (s.nodes.node x.to) letter (sender_fits x.from m.body s.nodes.sent may.4 before.fits.sent) keeps.told (seated x.to))
      (moment_keeps S c s.nodes s.moments t.moments k (λ j. packet_frame S j e s.moments tt) (record { once = (tt, keeps.told.once); letters = (tt, keeps.told.letters); asked = (tt, keeps.told.asked) }) keeps)
      (record { letter = letter.letter; here = letter.at; sender = letter.sender; says_so = letter.says_so }) acks (outside (Told (entry.Packet e)) s t k seated tt refl refl (no_less s.links.next) h)
  happening_stays s (Strays number x) fits may before b seated few carries keeps acks h =
      outside (Told (entry.Packet (packet.Delivered number x.from x.to))) s (telling (entry.Packet (packet.Delivered number x.from x.to)) (removed s number)) (knows c s before) seated tt refl refl (no_less s.links.next) h
  happening_stays s (Misses number x) fits may before b seated few carries keeps acks h =
      outside (Told (entry.Packet (packet.Dropped number drop.Down))) s (telling (entry.Packet (packet.Dropped number drop.Down)) (removed s number)) (knows c s before) seated tt refl refl (no_less s.links.next) h
  happening_stays s (Loses number x) fits may before b seated few carries keeps acks h =
      outside (Told (entry.Packet (packet.Lost number))) s (telling (entry.Packet (packet.Lost number)) (removed s number)) (knows c s before) seated tt refl refl (no_less s.links.next) h
  happening_stays s (Repeats number x) fits may before b seated few carries keeps acks h =
      let o : links.Outcome = sending s.links x.from x.to x.bytes in
      let e : PacketEntry = packet.Repeated number s.links.next in
      let t : Scene = telling (entry.Packet e) (with_links s o.after) in
      dropped_stays o.sent.dropped t (knows c s before) seated (outside (Told (entry.Packet e)) s t (knows c s before) seated tt refl refl (sending_next s.links x.from x.to x.bytes) h)
  happening_stays s (Commands n d k now ends) fits may before b seated few carries keeps acks h =
      let o : Option Device = slice_get s.devices (d - 1) in
      let t : Scene = (commanded s n d k).scene in
      let y : CarriesIn S t = commanded_carries S s n d o k carries in
      taking_stays S c P Q W N A B R each goes reads t n now ends (input.Answered (commanded s n d k).answer) may.0 fits (commanded_knows c s n d o k (knows c s before)) tt (commanded_collects s n d n o k may.4)
      (taking_good c t n now ends (input.Answered (commanded s n d k).answer) b) (commanded_seats s n d n o k (seated n)) tt tt (commanded_few s n d o k few) (y.nodes n) y.carried
      (answer_hand S c n (input.Answered (commanded s n d k).answer) t.moments (t.nodes.node n) tt) (commanded_keeps S c s n d o k keeps) tt acks (commanded_stays s n d o k h)
  happening_stays s (Writes n d value now ends) fits may before b seated few carries keeps acks h =
      let o : Option Device = slice_get s.devices (d - 1) in
      let t : Scene = (commanded s n d (command.Write value)).scene in
      let y : CarriesIn S t = commanded_carries S s n d o (command.Write value) carries in
      taking_stays S c P Q W N A B R each goes reads t n now ends (input.Wrote d value (commanded s n d (command.Write value)).answer) may.0 fits (commanded_knows c s n d o (command.Write value) (knows c s before)) tt
      (commanded_collects s n d n o (command.Write value) may.3) (taking_good c t n now ends (input.Wrote d value (commanded s n d (command.Write value)).answer) b) (commanded_seats s n d n o (command.Write value) (seated n)) tt tt
      (commanded_few s n d o (command.Write value) few) (y.nodes n) y.carried (answer_hand S c n (input.Wrote d value (commanded s n d (command.Write value)).answer) t.moments (t.nodes.node n) tt)
      (commanded_keeps S c s n d o (command.Write value) keeps) tt acks (commanded_stays s n d o (command.Write value) h)
  happening_stays s (Refuses n d value cause) fits may before b seated few carries keeps acks h =
      outside (Told (entry.Device (device.Refused n d value cause))) s (telling (entry.Device (device.Refused n d value cause)) s) (knows c s before) seated tt refl refl (no_less s.links.next) h

-- ---- a run

module _ (S : Setting) (h : Header) (cells : ℕ) (P : ℕ → ℕ → Due → UpNode → ℕ → List Moment → Type 0) (Q : ℕ → ℕ → List Moment → Type 0) (W : List Moment → Type 0) (N : ℕ → UpNode → Type 0) (A : Input → ℕ → Option ℕ → UpNode → Act → Type 0)
    (B : Input → ℕ → Option ℕ → UpNode → Change → Type 0) (R : Carries S (first_cluster h) P Q W N A B) (each : EachGoes (first_cluster h) N A B) (goes : EachGoesSo (first_cluster h)) (reads : Reads (first_cluster h) S) (size : IsSmall h) where
  abbrev StaysSo : Scene → Type 0
  StaysSo s = FewLines s.moments → AcksArePending s.moments → Stays P Q W s.nodes s

  first_stays : Stays P Q W (first_scene h cells).nodes (first_scene h cells)
  unfolding first_scene
  first_stays = record { nodes = λ k. R.first k _; told = R.first_told }

  stays_kept : (s : Scene) (x : Happening) → MayHappen (first_cluster h) s x → IsReached h cells s → IsReached h cells (happened (first_cluster h) s x) → StaysSo s → StaysSo (happened (first_cluster h) s x)
  stays_kept s x may at more stays few acks =
      let before : FewLines s.moments = few_before (first_cluster h) s x few in
      happening_stays S (first_cluster h) P Q W N A B R each goes reads s x (first_fit h size.few) may (stage_of h cells s size at) (stage_of h cells (happened (first_cluster h) s x) size more) (seats_of h cells s size at) before
      (carries_of S h cells s (record { answers = reads.answers; requests = reads.requests }) size at before) (keeps_of S h cells s reads size at before) acks (stays before (acks_before (first_cluster h) s x acks))

  -- what was told in each run
  pub carried_in_each : (hs : List Happening) → MayAllHappen (first_cluster h) (first_scene h cells) hs → FewLines (all_happened (first_cluster h) (first_scene h cells) hs).moments
      → AcksArePending (all_happened (first_cluster h) (first_scene h cells) hs).moments → W (all_happened (first_cluster h) (first_scene h cells) hs).moments
  carried_in_each hs may few acks = (holds_of_each h cells StaysSo stays_kept (λ few acks. first_stays) hs may few acks).told
