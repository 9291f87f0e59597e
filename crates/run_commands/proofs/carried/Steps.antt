-- A whole step of a node, whatever comes to it.
use Rattle.std.specs.Prelude.{ℕ, ◌+◌, ◌≡◌, ◌≤◌, All, List, [], ◌∷◌, length, None}
use Rattle.std.proofs.Common.{refl, sym, arith}
use Rattle.cl_base.specs.declared.method.Outcome as method
use Rattle.cmm_attempt.specs.Calls.{IsDevice}
use Rattle.cmm_member.specs.Records.{NodeRecord}
use Rattle.history.specs.Moment.{Moment, lines_of}
use Rattle.history.specs.Setting.{Setting}
use Rattle.node_model.specs.declared.cluster.Cluster.{Cluster}
use Rattle.node_model.specs.declared.input.Input.{Input}
use Rattle.node_model.specs.declared.input.Input.TheVariants as input
use Rattle.node_model.specs.declared.node.Node.TheVariants.{Down, Up}
use Rattle.node_model.specs.declared.node.UpNode.{UpNode}
use Rattle.node_model.specs.declared.output.Output.{Output}
use Rattle.admin_words.specs.Commands.{command_of}
use Rattle.node_model.specs.Requests.{numbered}
use Rattle.node_model.specs.Seats.{version_of}
use Rattle.node_model.specs.Steps.{at_second}
use Rattle.node_model.specs.Configurations.{own_config}
use Rattle.refinement.proofs.Handlers.{delivered_by}
use Rattle.refinement.specs.Courses.{Reply, under}
use Rattle.refinement.specs.Courses.Reply.{Done, Lost_new, Lost_old}
use Rattle.refinement.specs.Cuts as cuts
use Rattle.refinement.specs.Cuts.{course_at, down_doings}
use Rattle.refinement.specs.Doings.{after_all, given_all, gone_line, of_node, site}
use Rattle.refinement.specs.Doings.Act.{Dates}
use Rattle.request_queue.specs.Queue.{next_number}
use Rattle.rgm_member.specs.Probes.{probed}
use Rattle.schedule_text.specs.declared.event.Event.TheVariants as event
use Rattle.schedule_text.specs.declared.line.Line.TheVariants as line
use Rattle.status_report.specs.declared.command_entry.CommandEntry.TheVariants as command
use Rattle.status_report.specs.declared.entry.Entry.TheVariants as entry
use Rattle.status_report.specs.declared.node_entry.DownCause.{DownCause}
use Rattle.status_report.specs.declared.node_entry.DownCause.TheVariants as down
use Rattle.status_report.specs.declared.node_entry.NodeEntry.TheVariants as note
use Rattle.run_history.specs.Happenings.{IsSaid}
use Rattle.run_history.specs.Scenes.{Scene, passing}
use Rattle.run_commands.specs.carried.Steps.{CarriedSo, Counted, used_lines}
use Rattle.run_commands.proofs.carried.Acting.{Ready, ready_act}
use Rattle.run_commands.proofs.carried.Boots.{boot_so, plain_leaves}
use Rattle.run_commands.proofs.carried.Causes.{CameSo, ReadsAnswers}
use Rattle.run_commands.proofs.carried.Commands.{ReadsRequests, command_leaves, next_is}
use Rattle.run_commands.proofs.carried.Counts.{next_low, passing_used, room_left, then_le, told_uses}
use Rattle.run_commands.proofs.carried.Courses.{IsNoCommand}
use Rattle.run_commands.proofs.carried.Leaving.{UpSo, down_ends}
use Rattle.run_commands.proofs.carried.Reports.{Stepped, reporting_leaves}

-- a setting that reads words and answers as the nodes do
pub record Reads (c : Cluster) (S : Setting) : Type 0 where
  pub answers : ReadsAnswers S
  pub requests : ReadsRequests c S

-- ---- a node that is up

low_next : (a b : ℕ) → b ≡ a + 1 → b ≤ a + 1
low_next a b is = grind arith

none_used : (k : ℕ) → 0 ≤ k
none_used k = omega arith

plain_step : (S : Setting) (c : Cluster) (n now : ℕ) (ends : method.Outcome) (i : Input) (replies : List Reply) (x : UpNode) (disk : NodeRecord) (s : Scene) → ReadsAnswers S → All IsDevice c.attached
    → IsNoCommand c n i None i → Ready c n (delivered_by i) x disk (under replies (course_at c n now ends x i)) s → UpSo S n x.requests.asked x s.moments → CarriedSo S s.moments → CameSo i n s.moments
    → Counted x.requests.asked s.moments
    → Stepped S n (after_all c n (site (Up x) disk) (under replies (course_at c n now ends x i))).node (given_all c n (site (Up x) disk) (under replies (course_at c n now ends x i))) s
plain_step S c n now ends i replies x disk s exact fits plain r up carried came k =
    let os : List Output = given_all c n (site (Up x) disk) (under replies (course_at c n now ends x i)) in
    record {
      last = x.requests.asked;
      left = plain_leaves S c n now ends i replies r.machine x disk s exact fits r.holds r.known r.tied plain r.may r.small r.calm r.at r.good r.seated up carried came;
      low = then_le x.requests.asked (used_lines s.moments) (used_lines (passing n os s).moments) k.low (passing_used n os s).used;
    }

up_dated : (S : Setting) (n now : ℕ) (x : UpNode) (ms : List Moment) → UpSo S n x.requests.asked x ms → UpSo S n x.requests.asked (at_second now x) ms
up_dated S n now x ms up = record { last_so = refl; queued = up.queued; pending = λ text so is. up.pending text so is }

pub up_step : (S : Setting) (c : Cluster) (n now : ℕ) (ends : method.Outcome) (i : Input) (replies : List Reply) (x : UpNode) (disk : NodeRecord) (s : Scene) → Reads c S → All IsDevice c.attached
    → IsSaid s.moments n i → Ready c n (delivered_by i) x disk (under replies (course_at c n now ends x i)) s → UpSo S n x.requests.asked x s.moments → CarriedSo S s.moments → CameSo i n s.moments
    → Counted x.requests.asked s.moments
    → Stepped S n (after_all c n (site (Up x) disk) (under replies (course_at c n now ends x i))).node (given_all c n (site (Up x) disk) (under replies (course_at c n now ends x i))) s
up_step S c n now ends (input.Commanded words) replies x disk s reads fits said r up carried came k =
    let y : UpNode = at_second now x in
    let room : _ = room_left x.requests.asked s.moments k in
    let q : ℕ = next_number x.requests in
    let more : Ready c n None y disk (under replies (cuts.command_course c n y words)) s = ready_act c n None x disk (Dates now) (under replies (cuts.command_course c n y words)) s fits r in
    record {
      last = q;
      left = command_leaves S c n replies more.machine y disk words s reads.answers reads.requests fits more.holds more.tied more.may more.small more.calm more.at more.good more.seated room said
          (up_dated S n now x s.moments up) carried;
      low = then_le q (length (lines_of s.moments)) (used_lines (passing n (given_all c n (site (Up x) disk) (under replies (course_at c n now ends x (input.Commanded words)))) s).moments) (next_low x.requests.asked q (line.Event (event.Command n words)) s.moments (low_next x.requests.asked q (next_is x.requests.asked x refl room)) said k)
          (told_uses n (entry.Command (command.Asked n q)) (given_all c n (site (Up (numbered y)) disk) (under replies (cuts.worded_course c n (numbered y) q (command_of (version_of c) words)))) s);
    }
up_step S c n now ends (input.Reported p good) replies x disk s reads fits said r up carried came k =
    let y : UpNode = at_second now x in
    let more : Ready c n None y disk (under replies (cuts.report_course c n y p good)) s = ready_act c n None x disk (Dates now) (under replies (cuts.report_course c n y p good)) s fits r in
    reporting_leaves S c n (input.Reported p good) replies y disk p (probed y.worker (own_config c y) p good y.second) (line.Event (event.Probe n p good)) s reads.answers fits said k more
    (record { so = record { queued = up.queued; now = tt; hand = tt; pending = λ text so is. up.pending text so is; last_so = refl }; carried = carried; came = tt })
up_step S c n now ends input.Boot replies x disk s reads fits said r up carried came k = plain_step S c n now ends input.Boot replies x disk s reads.answers fits tt r up carried came k
up_step S c n now ends input.Crash replies x disk s reads fits said r up carried came k = plain_step S c n now ends input.Crash replies x disk s reads.answers fits tt r up carried came k
up_step S c n now ends input.Tick replies x disk s reads fits said r up carried came k = plain_step S c n now ends input.Tick replies x disk s reads.answers fits tt r up carried came k
up_step S c n now ends (input.Packet from m) replies x disk s reads fits said r up carried came k = plain_step S c n now ends (input.Packet from m) replies x disk s reads.answers fits tt r up carried came k
up_step S c n now ends input.CommandDue replies x disk s reads fits said r up carried came k = plain_step S c n now ends input.CommandDue replies x disk s reads.answers fits tt r up carried came k
up_step S c n now ends (input.Answered a) replies x disk s reads fits said r up carried came k = plain_step S c n now ends (input.Answered a) replies x disk s reads.answers fits tt r up carried came k
up_step S c n now ends (input.Wrote d value a) replies x disk s reads fits said r up carried came k = plain_step S c n now ends (input.Wrote d value a) replies x disk s reads.answers fits tt r up carried came k
up_step S c n now ends (input.Client name client port) replies x disk s reads fits said r up carried came k =
    plain_step S c n now ends (input.Client name client port) replies x disk s reads.answers fits tt r up carried came k

-- ---- a node that is down

boot_ends : (S : Setting) (n : ℕ) (why : DownCause) (s : Scene) → CarriedSo S s.moments → Stepped S n Down (of_node n note.Up ∷ gone_line n why) s
boot_ends S n why s carried =
    record { last = 0; left = down_ends S n 0 (of_node n note.Up ∷ []) why s (tt, tt) (λ k ne. (λ same. ne (sym same), tt)) carried; low = none_used (used_lines (passing n (of_node n note.Up ∷ gone_line n why) s).moments) }

booted : (S : Setting) (c : Cluster) (n : ℕ) (replies : List Reply) (disk : NodeRecord) (s : Scene) → CarriedSo S s.moments
    → Stepped S n (after_all c n (site Down disk) (cuts.boot_doings replies)).node (given_all c n (site Down disk) (cuts.boot_doings replies)) s
booted S c n [] disk s carried = boot_ends S n down.Stopped s carried
booted S c n (Done ∷ replies) disk s carried = record { last = 0; left = boot_so S c n disk s carried; low = none_used (used_lines (passing n (of_node n note.Up ∷ []) s).moments) }
booted S c n (Lost_new why ∷ replies) disk s carried = boot_ends S n why s carried
booted S c n (Lost_old why ∷ replies) disk s carried = boot_ends S n why s carried

nothing_taken : (S : Setting) (n : ℕ) (s : Scene) → CarriedSo S s.moments → Stepped S n Down [] s
nothing_taken S n s carried = record { last = 0; left = record { own = tt; carried = carried; apart = λ k ne. tt; answers = tt }; low = none_used (used_lines s.moments) }

pub down_step : (S : Setting) (c : Cluster) (n : ℕ) (i : Input) (replies : List Reply) (disk : NodeRecord) (s : Scene) → CarriedSo S s.moments
    → Stepped S n (after_all c n (site Down disk) (down_doings replies i)).node (given_all c n (site Down disk) (down_doings replies i)) s
down_step S c n input.Boot replies disk s carried = booted S c n replies disk s carried
down_step S c n input.Crash replies disk s carried = nothing_taken S n s carried
down_step S c n input.Tick replies disk s carried = nothing_taken S n s carried
down_step S c n (input.Packet from m) replies disk s carried = nothing_taken S n s carried
down_step S c n input.CommandDue replies disk s carried = nothing_taken S n s carried
down_step S c n (input.Answered a) replies disk s carried = nothing_taken S n s carried
down_step S c n (input.Wrote d value a) replies disk s carried = nothing_taken S n s carried
down_step S c n (input.Commanded words) replies disk s carried = nothing_taken S n s carried
down_step S c n (input.Reported r good) replies disk s carried = nothing_taken S n s carried
down_step S c n (input.Client name client port) replies disk s carried = nothing_taken S n s carried
