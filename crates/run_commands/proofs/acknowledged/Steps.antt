-- A whole step of a node keeps what is known of requests, whatever comes to it.
use Rattle.std.specs.Prelude.{ℕ, ◌≤◌, ◌<◌, All, List, [], ◌∷◌, Option, None}
use Rattle.std.proofs.Common.{refl, arith}
use Rattle.cl_base.specs.declared.method.Outcome as method
use Rattle.cmm_attempt.specs.Calls.{IsDevice}
use Rattle.cmm_attempt.proofs.Basics.{none_some}
use Rattle.cmm_member.specs.Records.{NodeRecord}
use Rattle.rgm_member.specs.Probes.{probed}
use Rattle.status_report.specs.declared.entry.Entry.TheVariants as entry
use Rattle.status_report.specs.declared.node_entry.DownCause.{DownCause}
use Rattle.status_report.specs.declared.node_entry.DownCause.TheVariants as down
use Rattle.status_report.specs.declared.node_entry.NodeEntry.TheVariants as note
use Rattle.history.specs.Moment.{Moment, Told}
use Rattle.history.specs.Setting.{Setting}
use Rattle.node_model.specs.Configurations.{own_config}
use Rattle.node_model.specs.Steps.{at_second}
use Rattle.node_model.specs.declared.cluster.Cluster.{Cluster}
use Rattle.node_model.specs.declared.input.Input.{Input}
use Rattle.node_model.specs.declared.input.Input.TheVariants as input
use Rattle.node_model.specs.declared.node.Node.TheVariants.{Down, Up}
use Rattle.node_model.specs.declared.node.UpNode.{UpNode}
use Rattle.refinement.proofs.Handlers.{delivered_by}
use Rattle.refinement.specs.Courses.{Reply, under}
use Rattle.refinement.specs.Courses.Reply.{Done, Lost_new, Lost_old}
use Rattle.refinement.specs.Cuts as cuts
use Rattle.refinement.specs.Cuts.{course_at, down_doings}
use Rattle.refinement.specs.Doings.{after_all, given_all, gone_line, of_node, said, site}
use Rattle.refinement.specs.Doings.Act.{Dates}
use Rattle.run_history.specs.Happenings.{IsSaid}
use Rattle.run_history.specs.Scenes.{Scene}
use Rattle.run_messages.specs.Laws.{membership_in}
use Rattle.run_commands.specs.carried.Steps.{CarriedSo, Counted}
use Rattle.run_commands.proofs.carried.Acting.{Ready, ready_act}
use Rattle.run_commands.proofs.carried.Boots.{at_first}
use Rattle.run_commands.proofs.carried.Causes.{CameSo}
use Rattle.run_commands.proofs.carried.Counts.{room_left}
use Rattle.run_commands.proofs.carried.Courses as asks
use Rattle.run_commands.proofs.carried.Leaving as leaving
use Rattle.run_commands.specs.acknowledged.Steps.{ToldSo, Unused}
use Rattle.run_commands.proofs.acknowledged.Acts.{Holding}
use Rattle.run_commands.proofs.acknowledged.Courses as hands
use Rattle.run_commands.proofs.acknowledged.Frames.{frame_then, passing_mute, up_frame, unused_stays}
use Rattle.run_commands.proofs.acknowledged.Saying.{passing_told}
use Rattle.run_commands.proofs.acknowledged.Walk.{Left}
use Rattle.run_commands.proofs.acknowledged.Commands.{Reads, command_left, walked}
use Rattle.run_commands.proofs.acknowledged.Reports.{reporting_left}

-- ---- a node that is up

pub dated_holds : (S : Setting) (c : Cluster) (n now : ℕ) (i : Input) (v : Option ℕ) (promised : ℕ) (x : UpNode) (ms : List Moment) → Holding S c n i v promised x ms → Holding S c n i v promised (at_second now x) ms
dated_holds S c n now i v promised x ms k = record {
  up = record { within = k.up.within; forming = k.up.forming; member = k.up.member; requested = k.up.requested; quiet = k.up.quiet; hand = k.up.hand };
  told = k.told;
  came = k.came;
}

abbrev LeftBy : Setting → Cluster → ℕ → ℕ → method.Outcome → List Reply → UpNode → NodeRecord → Input → Scene → Type 0
LeftBy S c n now ends replies x disk i s =
    Left S c n (after_all c n (site (Up x) disk) (under replies (course_at c n now ends x i))).disk.promised (after_all c n (site (Up x) disk) (under replies (course_at c n now ends x i))).node
    (given_all c n (site (Up x) disk) (under replies (course_at c n now ends x i))) s

plain_left : (S : Setting) (c : Cluster) (n now : ℕ) (ends : method.Outcome) (i : Input) (replies : List Reply) (x : UpNode) (disk : NodeRecord) (s : Scene) → Reads c S → (1 ≤ n) × (n ≤ 32) → All IsDevice c.attached
    → asks.IsNoCommand c n i None i → hands.IsNoCommand c n i (membership_in x.seat) i → Ready c n (delivered_by i) x disk (under replies (course_at c n now ends x i)) s → leaving.UpSo S n x.requests.asked x s.moments
    → CarriedSo S s.moments → CameSo i n s.moments → Holding S c n i (membership_in x.seat) disk.promised x s.moments → LeftBy S c n now ends replies x disk i s
plain_left S c n now ends i replies x disk s reads range fits plain calm r known carried came k =
    walked S c n i (membership_in x.seat) None replies (course_at c n now ends x i) None x.requests.asked x disk s reads range fits r (asks.course_at_so c n i None now ends x i refl plain)
    (hands.course_at_so c n i (membership_in x.seat) now ends x i refl refl calm) (at_first S n i x s known carried came) k

pub up_dated : (S : Setting) (n now : ℕ) (x : UpNode) (ms : List Moment) → leaving.UpSo S n x.requests.asked x ms → leaving.UpSo S n x.requests.asked (at_second now x) ms
up_dated S n now x ms known = record { last_so = refl; queued = known.queued; pending = λ text so is. known.pending text so is }

pub up_left : (S : Setting) (c : Cluster) (n now : ℕ) (ends : method.Outcome) (i : Input) (replies : List Reply) (x : UpNode) (disk : NodeRecord) (s : Scene) → Reads c S → (1 ≤ n) × (n ≤ 32) → All IsDevice c.attached
    → IsSaid s.moments n i → Ready c n (delivered_by i) x disk (under replies (course_at c n now ends x i)) s → leaving.UpSo S n x.requests.asked x s.moments → CarriedSo S s.moments → CameSo i n s.moments
    → Counted x.requests.asked s.moments → Holding S c n i (membership_in x.seat) disk.promised x s.moments → LeftBy S c n now ends replies x disk i s
up_left S c n now ends (input.Commanded words) replies x disk s reads range fits said r known carried came counted k =
    let y : UpNode = at_second now x in
    command_left S c n replies y disk words s reads range fits (ready_act c n None x disk (Dates now) (under replies (cuts.command_course c n y words)) s fits r) (room_left x.requests.asked s.moments counted) said
    (up_dated S n now x s.moments known) carried (dated_holds S c n now (input.Commanded words) (membership_in x.seat) disk.promised x s.moments k)
up_left S c n now ends (input.Reported p good) replies x disk s reads range fits said r known carried came counted k =
    let y : UpNode = at_second now x in
    reporting_left S c n (input.Reported p good) (membership_in x.seat) replies y disk p (probed y.worker (own_config c y) p good y.second) s reads range fits (room_left x.requests.asked s.moments counted)
    (ready_act c n None x disk (Dates now) (under replies (cuts.report_course c n y p good)) s fits r)
    (record { so = record { queued = known.queued; now = tt; hand = tt; pending = λ text so is. known.pending text so is; last_so = refl }; carried = carried; came = tt })
    (dated_holds S c n now (input.Reported p good) (membership_in x.seat) disk.promised x s.moments k)
up_left S c n now ends input.Boot replies x disk s reads range fits said r known carried came counted k = plain_left S c n now ends input.Boot replies x disk s reads range fits tt tt r known carried came k
up_left S c n now ends input.Crash replies x disk s reads range fits said r known carried came counted k = plain_left S c n now ends input.Crash replies x disk s reads range fits tt tt r known carried came k
up_left S c n now ends input.Tick replies x disk s reads range fits said r known carried came counted k = plain_left S c n now ends input.Tick replies x disk s reads range fits tt tt r known carried came k
up_left S c n now ends (input.Packet from m) replies x disk s reads range fits said r known carried came counted k =
    plain_left S c n now ends (input.Packet from m) replies x disk s reads range fits tt tt r known carried came k
up_left S c n now ends input.CommandDue replies x disk s reads range fits said r known carried came counted k = plain_left S c n now ends input.CommandDue replies x disk s reads range fits tt tt r known carried came k
up_left S c n now ends (input.Answered a) replies x disk s reads range fits said r known carried came counted k =
    plain_left S c n now ends (input.Answered a) replies x disk s reads range fits tt tt r known carried came k
up_left S c n now ends (input.Wrote d value a) replies x disk s reads range fits said r known carried came counted k =
    plain_left S c n now ends (input.Wrote d value a) replies x disk s reads range fits tt tt r known carried came k
up_left S c n now ends (input.Client name client port) replies x disk s reads range fits said r known carried came counted k =
    plain_left S c n now ends (input.Client name client port) replies x disk s reads range fits tt tt r known carried came k

-- ---- a node that is down

none_above : 0 < 0 → ⊥
none_above h = omega (arith, h)

told_up : (S : Setting) (c : Cluster) (n : ℕ) (ms : List Moment) → ToldSo S c ms → ToldSo S c (Told (entry.Node n note.Up) ∷ ms)
told_up S c n ms h = record { once = (tt, h.once); letters = (tt, h.letters); asked = (tt, h.asked) }

boot_falls : (S : Setting) (c : Cluster) (n promised : ℕ) (why : DownCause) (s : Scene) → ((e : ℕ) → promised < e → Unused n e s.moments) → ToldSo S c s.moments
    → Left S c n promised Down (of_node n note.Up ∷ gone_line n why) s
boot_falls S c n promised why s within told = record {
  own = λ e above. unused_stays S n e s.moments _ (frame_then S n s.moments (Told (entry.Node n note.Up) ∷ s.moments) _ (up_frame S n n s.moments)
      (passing_mute S n n (gone_line n why) (record s { moments = Told (entry.Node n note.Up) ∷ s.moments }) (tt, tt) (tt, tt))) (within e above);
  told = passing_told S c n None 0 (gone_line n why) (record s { moments = Told (entry.Node n note.Up) ∷ s.moments }) (tt, tt) (tt, tt) (tt, tt) (told_up S c n s.moments told);
}

booted : (S : Setting) (c : Cluster) (n : ℕ) (replies : List Reply) (disk : NodeRecord) (s : Scene) → ((e : ℕ) → disk.promised < e → Unused n e s.moments) → ToldSo S c s.moments
    → Left S c n (after_all c n (site Down disk) (cuts.boot_doings replies)).disk.promised (after_all c n (site Down disk) (cuts.boot_doings replies)).node (given_all c n (site Down disk) (cuts.boot_doings replies)) s
booted S c n [] disk s within told = boot_falls S c n disk.promised down.Stopped s within told
booted S c n (Done ∷ replies) disk s within told = record {
  own = record {
    within = λ e above. unused_stays S n e s.moments (Told (entry.Node n note.Up) ∷ s.moments) (up_frame S n n s.moments) (within e above);
    forming = λ none some. absurd (none_above some);
    member = λ e q at above. absurd (none_some e at);
    requested = λ e q at above. absurd (none_some e at);
    quiet = tt;
    hand = tt;
  };
  told = told_up S c n s.moments told;
}
booted S c n (Lost_new why ∷ replies) disk s within told = boot_falls S c n disk.promised why s within told
booted S c n (Lost_old why ∷ replies) disk s within told = boot_falls S c n disk.promised why s within told

pub down_left : (S : Setting) (c : Cluster) (n : ℕ) (i : Input) (replies : List Reply) (disk : NodeRecord) (s : Scene) → ((e : ℕ) → disk.promised < e → Unused n e s.moments) → ToldSo S c s.moments
    → Left S c n (after_all c n (site Down disk) (down_doings replies i)).disk.promised (after_all c n (site Down disk) (down_doings replies i)).node (given_all c n (site Down disk) (down_doings replies i)) s
down_left S c n input.Boot replies disk s within told = booted S c n replies disk s within told
down_left S c n input.Crash replies disk s within told = record { own = within; told = told }
down_left S c n input.Tick replies disk s within told = record { own = within; told = told }
down_left S c n (input.Packet from m) replies disk s within told = record { own = within; told = told }
down_left S c n input.CommandDue replies disk s within told = record { own = within; told = told }
down_left S c n (input.Answered a) replies disk s within told = record { own = within; told = told }
down_left S c n (input.Wrote d value a) replies disk s within told = record { own = within; told = told }
down_left S c n (input.Commanded words) replies disk s within told = record { own = within; told = told }
down_left S c n (input.Reported r good) replies disk s within told = record { own = within; told = told }
down_left S c n (input.Client name client port) replies disk s within told = record { own = within; told = told }
