-- A monitor reports: what it asks waits with the next number, and has no line.
use Rattle.std.specs.Prelude.{ℕ, ◌+◌, ◌≡◌, ◌&&◌, not, All, Bool, true, false, List, [], ◌∷◌, length, Option, None, Some, slice_get, if◌then◌else◌}
use Rattle.std.specs.List.{AllByRecursion}
use Rattle.std.proofs.Common.{refl}
use Rattle.history.specs.Moment.{Moment}
use Rattle.history.specs.Setting.{Setting}
use Rattle.node_model.specs.declared.node.UpNode.{UpNode}
use Rattle.node_model.specs.declared.seat.Seat.TheVariants.{Member}
use Rattle.run_messages.specs.Laws.{membership_in}
use Rattle.run_commands.specs.carried.Steps.{PendingSo}
use Rattle.run_commands.proofs.carried.Changes.{Changed}
use Rattle.run_commands.proofs.carried.Queues.{Queued}
use Rattle.std.specs.Prelude.{◌≤◌, ◌<◌, ◌^◌, ◌-◌}
use Rattle.request_queue.specs.Queue.{next_number}
use Rattle.request_queue.specs.declared.request.Request.{Request}
use Rattle.std.proofs.Common.{arith}
use Rattle.run_commands.proofs.carried.Queues.{Waits as Waiting}
use Rattle.cl_base.specs.declared.command.Ask.{Ask}
use Rattle.node_model.specs.Groups.{monitor_asked}
use Rattle.node_model.specs.Seats.{is_member}
use Rattle.node_model.specs.declared.seat.Seat.{Seat}
use Rattle.node_model.specs.declared.seat.Seat.TheVariants.{Forming}
use Rattle.run_history.proofs.Lists.{all_and}
use Rattle.run_commands.proofs.carried.Commands.{next_is, past, within}
use Rattle.update_words.specs.Words.{ask_words_of}
use Rattle.cmm_attempt.proofs.Basics.{and_cases}
use Rattle.cmm_attempt.specs.Calls.{IsDevice}
use Rattle.cmm_member.specs.Records.{NodeRecord}
use Rattle.history.specs.Moment.{Said, lines_of}
use Rattle.node_model.specs.Groups.{asked_by, report_told, reported, result_of}
use Rattle.node_model.specs.Configurations.{own_config}
use Rattle.node_model.specs.Requests.{is_idle}
use Rattle.node_model.specs.declared.cluster.Cluster.{Cluster}
use Rattle.node_model.specs.declared.input.Input.{Input}
use Rattle.node_model.specs.declared.node.Node.{Node}
use Rattle.node_model.specs.declared.node.Node.TheVariants.{Up}
use Rattle.node_model.specs.declared.output.Output.{Output}
use Rattle.refinement.proofs.Handlers.{delivered_by}
use Rattle.refinement.specs.Courses.{Course, Reply, under}
use Rattle.refinement.specs.Courses.Course.{Acts, Stops}
use Rattle.refinement.specs.Cuts as cuts
use Rattle.refinement.specs.Doings.{Act, Doing, after_all, given_all, site}
use Rattle.refinement.specs.Doings.Act.{Gives, Minds, Works}
use Rattle.refinement.specs.Doings.Doing.{Does}
use Rattle.request_queue.specs.Queue.{is_full}
use Rattle.rgm_member.specs.Probes.{after_probe}
use Rattle.rgm_member.specs.declared.probed.Probed.{Probed}
use Rattle.rgm_member.specs.declared.probed.Probed.TheVariants as probe
use Rattle.schedule_text.specs.declared.line.Line.{Line}
use Rattle.status_report.specs.declared.call_entry.CallEntry.TheVariants as call
use Rattle.status_report.specs.declared.entry.Entry.TheVariants as entry
use Rattle.run_history.specs.Scenes.{Scene, passing}
use Rattle.run_commands.specs.carried.Steps.{Counted, used_lines}
use Rattle.run_commands.proofs.carried.Acting.{Goes, Ready, goes_act, ready_act, walked}
use Rattle.run_commands.proofs.carried.Causes.{ReadsAnswers}
use Rattle.run_commands.proofs.carried.Counts.{next_low, passing_used, room_left, then_le, told_uses}
use Rattle.run_commands.proofs.carried.Courses.{asking_if_so}
use Rattle.run_commands.proofs.carried.Leaving.{Leaves}
use Rattle.run_commands.proofs.carried.Walk.{Between, then_leaves}

-- ---- the request that is added

wait_up : (S : Setting) (n q : ℕ) (ms : List Moment) (v : Option ℕ) (last : ℕ) (r : Request) → q ≡ last + 1 → Waiting S n ms v last r → Waiting S n ms v q r
wait_up S n q ms v last r is h = record { number = within last r.number q is h.number; words = h.words; member = h.member; other = h.other }

waits_up : (S : Setting) (n q : ℕ) (ms : List Moment) (v : Option ℕ) (last : ℕ) (rs : List Request) → q ≡ last + 1 → AllByRecursion (Waiting S n ms v last) rs → AllByRecursion (Waiting S n ms v q) rs
waits_up S n q ms v last [] is h = tt
waits_up S n q ms v last (r ∷ rs) is h = (wait_up S n q ms v last r is h.0, waits_up S n q ms v last rs is h.1)

less_next : (a q : ℕ) → q ≡ a + 1 → a < q
less_next a q is = grind arith

same_low : (k : ℕ) → k ≤ k
same_low k = omega arith

false_not : false ≡ true → ⊥
false_not e = cc

member_seat : (x : UpNode) → is_member x.seat ≡ true → membership_in x.seat ≡ None → ⊥
member_seat x at is = by x.seat at is
  where
    by : (seat : Seat) → is_member seat ≡ true → membership_in seat ≡ None → ⊥
    by (Forming s) at is = cc
    by (Member s) at is = cc

pub added_so : (S : Setting) (n : ℕ) (x : UpNode) (ask : Ask) (ms : List Moment) → x.requests.asked < 2 ^ 64 - 1 → is_member x.seat ≡ true → Queued S n ms (membership_in x.seat) x.requests → PendingSo ms x
    → Changed S n None None (next_number x.requests) (monitor_asked x ask) ms
added_so S n x ask ms room at h pend =
    let q : ℕ = next_number x.requests in
    let is : q ≡ x.requests.asked + 1 = next_is x.requests.asked x refl room in
    let r : Request = record { number = q; text = ask_words_of ask; told = false; second = x.second } in
    record {
      queued = record {
        waits = all_and (Waiting S n ms (membership_in x.seat) q) x.requests.waiting r (waits_up S n q ms (membership_in x.seat) x.requests.asked x.requests.waiting is h.waits) (record {
          number = same_low q;
          words = λ told. absurd (false_not told);
          member = λ told. absurd (false_not told);
          other = λ told. h.fresh q (less_next x.requests.asked q is);
        });
        fresh = λ k above. h.fresh k (past x.requests.asked q k is above);
        none = λ no_seat. absurd (member_seat x at no_seat);
      };
      now = tt;
      hand = tt;
      pending = λ text so e. pend text so e;
      last_so = refl;
    }

-- ---- the step

-- a step that leaves the node with at most one number more
pub record Rises (S : Setting) (n asked : ℕ) (node : Node) (os : List Output) (s : Scene) : Type 0 where
  pub last : ℕ
  pub left : Leaves S n last node os s
  pub low : last ≤ asked + 1

low_next : (a b : ℕ) → b ≡ a + 1 → b ≤ a + 1
low_next a b is = grind arith

low_same : (a : ℕ) → a ≤ a + 1
low_same a = omega arith

abbrev RisesBy : Setting → Cluster → ℕ → UpNode → NodeRecord → List Doing → Scene → Type 0
RisesBy S c n x disk ds s = Rises S n x.requests.asked (after_all c n (site (Up x) disk) ds).node (given_all c n (site (Up x) disk) ds) s

asking_when : (S : Setting) (c : Cluster) (n : ℕ) (i : Input) (replies : List Reply) (x : UpNode) (disk : NodeRecord) (ask : Ask) (s : Scene) (b : Bool) → (is_member x.seat && not (is_full x.requests)) ≡ b
    → ReadsAnswers S → All IsDevice c.attached → x.requests.asked < 2 ^ 64 - 1
    → (let k : Course = if b then Acts (Minds (monitor_asked x ask).requests x.presidency) (cuts.asking_if_course (is_idle x.requests.waiting) c n (monitor_asked x ask)) else Stops in
    Ready c n (delivered_by i) x disk (under replies k) s → Between S n i None None x.requests.asked x s → RisesBy S c n x disk (under replies k) s)
asking_when S c n i replies x disk ask s false is exact fits room rd b =
    record { last = x.requests.asked; left = walked S c n i None replies Stops None x.requests.asked x disk s exact fits rd tt b; low = low_same x.requests.asked }
asking_when S c n i replies x disk ask s true is exact fits room rd b =
    let y : UpNode = monitor_asked x ask in
    let q : ℕ = next_number x.requests in
    let rest : Course = cuts.asking_if_course (is_idle x.requests.waiting) c n y in
    let more : Ready c n (delivered_by i) y disk (under replies rest) s = ready_act c n (delivered_by i) x disk (Minds y.requests x.presidency) (under replies rest) s fits rd in
    let so : Changed S n None None q y s.moments = added_so S n x ask s.moments room (and_cases _ _ is).0 b.so.queued b.so.pending in
    record {
      last = q;
      left = walked S c n i None replies rest None q y disk s exact fits more (asking_if_so c n i None None (is_idle x.requests.waiting) y) (record { so = so; carried = b.carried; came = b.came });
      low = low_next x.requests.asked q (next_is x.requests.asked x refl room);
    }

asking_this_leaves : (S : Setting) (c : Cluster) (n : ℕ) (i : Input) (replies : List Reply) (x : UpNode) (disk : NodeRecord) (o : Option Ask) (s : Scene) → ReadsAnswers S → All IsDevice c.attached
    → x.requests.asked < 2 ^ 64 - 1 → Ready c n (delivered_by i) x disk (under replies (cuts.asking_this_course c n x o)) s → Between S n i None None x.requests.asked x s
    → RisesBy S c n x disk (under replies (cuts.asking_this_course c n x o)) s
asking_this_leaves S c n i replies x disk None s exact fits room rd b =
    record { last = x.requests.asked; left = walked S c n i None replies Stops None x.requests.asked x disk s exact fits rd tt b; low = low_same x.requests.asked }
asking_this_leaves S c n i replies x disk (Some ask) s exact fits room rd b = asking_when S c n i replies x disk ask s (is_member x.seat && not (is_full x.requests)) refl exact fits room rd b

-- what a step leaves: the node's numbers are within the lines used
pub record Stepped (S : Setting) (n : ℕ) (node : Node) (os : List Output) (s : Scene) : Type 0 where
  pub last : ℕ
  pub left : Leaves S n last node os s
  pub low : last ≤ used_lines (passing n os s).moments

stays_counted : (S : Setting) (n asked : ℕ) (node : Node) (os : List Output) (s : Scene) → Counted asked s.moments → Leaves S n asked node os s → Stepped S n node os s
stays_counted S n asked node os s k left =
    record { last = asked; left = left; low = then_le asked (used_lines s.moments) (used_lines (passing n os s).moments) k.low (passing_used n os s).used }

abbrev SteppedBy : Setting → Cluster → ℕ → UpNode → NodeRecord → List Doing → Scene → Type 0
SteppedBy S c n x disk ds s = Stepped S n (after_all c n (site (Up x) disk) ds).node (given_all c n (site (Up x) disk) ds) s

pub reporting_leaves : (S : Setting) (c : Cluster) (n : ℕ) (i : Input) (replies : List Reply) (x : UpNode) (disk : NodeRecord) (r : List ℕ) (p : Probed) (line : Line) (s : Scene) → ReadsAnswers S
    → All IsDevice c.attached → slice_get s.moments 0 ≡ Some (Said line) → Counted x.requests.asked s.moments → Ready c n (delivered_by i) x disk (under replies (cuts.reporting_course c n x r p)) s
    → Between S n i None None x.requests.asked x s → SteppedBy S c n x disk (under replies (cuts.reporting_course c n x r p)) s
reporting_leaves S c n i replies x disk r probe.NoMonitor line s exact fits said k rd b =
    stays_counted S n x.requests.asked _ _ s k (walked S c n i None replies Stops None x.requests.asked x disk s exact fits rd tt b)
reporting_leaves S c n i replies x disk r probe.Good line s exact fits said k rd b =
    stays_counted S n x.requests.asked _ _ s k (walked S c n i None replies (cuts.reporting_course c n x r probe.Good) None x.requests.asked x disk s exact fits rd ((tt, tt), (tt, tt)) b)
reporting_leaves S c n i replies x disk r (probe.Failed a) line s exact fits said k rd b =
    let tell : Act = Gives (report_told n r (result_of a) ∷ []) in
    let works : Act = Works (after_probe x.worker (own_config c x) r x.second (probe.Failed a)) in
    let y : UpNode = reported x c r (probe.Failed a) in
    let rest : Course = cuts.asking_this_course c n y (asked_by a r) in
    let t : Scene = passing n (report_told n r (result_of a) ∷ []) s in
    let first : Goes S n i None None x.requests.asked x (report_told n r (result_of a) ∷ []) s = goes_act S c n i None None x disk tell (Does works ∷ under replies rest) s exact rd (tt, tt) b in
    let behind : Ready c n (delivered_by i) x disk (Does works ∷ under replies rest) t = ready_act c n (delivered_by i) x disk tell (Does works ∷ under replies rest) s fits rd in
    let second : Goes S n i None None x.requests.asked y [] t = goes_act S c n i None None x disk works (under replies rest) t exact behind tt first.between in
    let after : Ready c n (delivered_by i) y disk (under replies rest) t = ready_act c n (delivered_by i) x disk works (under replies rest) t fits behind in
    let end : Rises S n x.requests.asked (after_all c n (site (Up y) disk) (under replies rest)).node (given_all c n (site (Up y) disk) (under replies rest)) t =
    asking_this_leaves S c n i replies y disk (asked_by a r) t exact fits (room_left x.requests.asked s.moments k) after second.between in
    record {
      last = end.last;
      left = then_leaves S n end.last (after_all c n (site (Up y) disk) (under replies rest)).node (report_told n r (result_of a) ∷ []) (given_all c n (site (Up y) disk) (under replies rest)) s
          first.left.apart first.left.answers end.left;
      low = then_le end.last (length (lines_of s.moments)) _ (next_low x.requests.asked end.last line s.moments end.low said k)
          (told_uses n (entry.Call (call.Probed n r (result_of a))) (given_all c n (site (Up y) disk) (under replies rest)) s);
    }
