-- A monitor reports: what it asks waits with the next number, and is no update.
use Rattle.std.specs.Prelude.{ℕ, ◌+◌, ◌-◌, ◌^◌, ◌≡◌, ◌≤◌, ◌<◌, ◌&&◌, not, All, Bool, true, false, if◌then◌else◌, List, [], ◌∷◌, Option, None, Some, Ok}
use Rattle.std.proofs.Common.{refl}
use Rattle.admin_words.specs.Commands.{request_of}
use Rattle.admin_words.specs.declared.request.Request.TheVariants as wish
use Rattle.ccr_tables.specs.declared.update.Update.{Update}
use Rattle.cl_base.specs.declared.command.Ask.{Ask}
use Rattle.cmm_attempt.specs.Calls.{IsDevice}
use Rattle.cmm_attempt.proofs.Basics.{and_cases}
use Rattle.cmm_member.specs.Records.{NodeRecord}
use Rattle.request_queue.specs.Queue.{is_full, next_number}
use Rattle.rgm_member.specs.Probes.{after_probe}
use Rattle.rgm_member.specs.declared.probed.Probed.{Probed}
use Rattle.rgm_member.specs.declared.probed.Probed.TheVariants as probe
use Rattle.update_words.specs.Words.{ask_words_of}
use Rattle.history.specs.Moment.{Moment}
use Rattle.history.specs.Setting.{Setting}
use Rattle.node_model.specs.Configurations.{own_config}
use Rattle.node_model.specs.Groups.{asked_by, monitor_asked, report_told, reported, result_of}
use Rattle.node_model.specs.Requests.{is_idle}
use Rattle.node_model.specs.Seats.{is_member, version_of}
use Rattle.node_model.specs.declared.cluster.Cluster.{Cluster}
use Rattle.node_model.specs.declared.input.Input.{Input}
use Rattle.node_model.specs.declared.node.Node.TheVariants.{Up}
use Rattle.node_model.specs.declared.node.UpNode.{UpNode}
use Rattle.refinement.proofs.Handlers.{delivered_by}
use Rattle.refinement.specs.Courses.{Course, Reply, under}
use Rattle.refinement.specs.Courses.Course.{Acts, Stops}
use Rattle.refinement.specs.Cuts as cuts
use Rattle.refinement.specs.Cuts.{course_at, down_doings}
use Rattle.refinement.specs.Doings.{Act, after_all, given_all, site}
use Rattle.refinement.specs.Doings.Act.{Gives, Minds, Works}
use Rattle.refinement.specs.Doings.Doing.{Does}
use Rattle.run_history.proofs.Lists.{all_and}
use Rattle.run_history.specs.Scenes.{Scene, passing}
use Rattle.run_commands.proofs.carried.Acting.{Goes, Ready, goes_act, ready_act}
use Rattle.run_commands.proofs.carried.Changes.{Changed}
use Rattle.run_commands.proofs.carried.Commands.{next_is}
use Rattle.run_commands.proofs.carried.Courses as asks
use Rattle.run_commands.proofs.carried.Reports.{added_so}
use Rattle.run_commands.proofs.carried.Walk.{Between}
use Rattle.run_commands.specs.acknowledged.Steps.{IsQuiet}
use Rattle.run_commands.proofs.acknowledged.Acts.{Holding}
use Rattle.run_commands.proofs.acknowledged.Courses as hands
use Rattle.run_commands.proofs.acknowledged.Walk.{Left, then_left}
use Rattle.run_commands.proofs.acknowledged.Commands.{Reads, hold_act, less_next, walked}

-- ---- a monitor's report

-- what a monitor asks waits with the next number
pub asked_holds : (S : Setting) (c : Cluster) (n : ℕ) (i : Input) (v : Option ℕ) (promised : ℕ) (x : UpNode) (ask : Ask) (ms : List Moment) → next_number x.requests ≡ x.requests.asked + 1
    → ((u : Update) → request_of (version_of c) (ask_words_of ask) ≡ Ok (wish.Change u) → ⊥) → Holding S c n i v promised x ms → Holding S c n i v promised (monitor_asked x ask) ms
asked_holds S c n i v promised x ask ms is calm k = record {
  up = record {
    within = k.up.within;
    forming = k.up.forming;
    member = λ e r at above. k.up.member e r at (less_next x.requests.asked (next_number x.requests) r is above);
    requested = λ e r at above. k.up.requested e r at (less_next x.requests.asked (next_number x.requests) r is above);
    quiet = all_and (IsQuiet c) x.requests.waiting (record { number = next_number x.requests; text = ask_words_of ask; told = false; second = x.second }) k.up.quiet (λ untold. calm);
    hand = k.up.hand;
  };
  told = k.told;
  came = k.came;
}

asking_when : (S : Setting) (c : Cluster) (n : ℕ) (i : Input) (v : Option ℕ) (replies : List Reply) (x : UpNode) (disk : NodeRecord) (ask : Ask) (s : Scene) (b : Bool) → (is_member x.seat && not (is_full x.requests)) ≡ b
    → Reads c S → (1 ≤ n) × (n ≤ 32) → All IsDevice c.attached → x.requests.asked < 2 ^ 64 - 1 → ((u : Update) → request_of (version_of c) (ask_words_of ask) ≡ Ok (wish.Change u) → ⊥)
    → (let k : Course = if b then Acts (Minds (monitor_asked x ask).requests x.presidency) (cuts.asking_if_course (is_idle x.requests.waiting) c n (monitor_asked x ask)) else Stops in
    Ready c n (delivered_by i) x disk (under replies k) s → Between S n i None None x.requests.asked x s → Holding S c n i v disk.promised x s.moments
    → Left S c n (after_all c n (site (Up x) disk) (under replies k)).disk.promised (after_all c n (site (Up x) disk) (under replies k)).node (given_all c n (site (Up x) disk) (under replies k)) s)
asking_when S c n i v replies x disk ask s false is reads range fits room calm rd b k = walked S c n i v None replies Stops None x.requests.asked x disk s reads range fits rd tt tt b k
asking_when S c n i v replies x disk ask s true is reads range fits room calm rd b k =
    let y : UpNode = monitor_asked x ask in
    let q : ℕ = next_number x.requests in
    let rest : Course = cuts.asking_if_course (is_idle x.requests.waiting) c n y in
    let more : Ready c n (delivered_by i) y disk (under replies rest) s = ready_act c n (delivered_by i) x disk (Minds y.requests x.presidency) (under replies rest) s fits rd in
    let so : Changed S n None None q y s.moments = added_so S n x ask s.moments room (and_cases _ _ is).0 b.so.queued b.so.pending in
    walked S c n i v None replies rest None q y disk s reads range fits more (asks.asking_if_so c n i None None (is_idle x.requests.waiting) y) (hands.asking_if_so c n i v (is_idle x.requests.waiting) y)
    (record { so = so; carried = b.carried; came = b.came }) (asked_holds S c n i v disk.promised x ask s.moments (next_is x.requests.asked x refl room) calm k)

asking_this : (S : Setting) (c : Cluster) (n : ℕ) (i : Input) (v : Option ℕ) (replies : List Reply) (x : UpNode) (disk : NodeRecord) (o : Option Ask) (s : Scene) → Reads c S → (1 ≤ n) × (n ≤ 32) → All IsDevice c.attached
    → x.requests.asked < 2 ^ 64 - 1 → ((ask : Ask) (u : Update) → o ≡ Some ask → request_of (version_of c) (ask_words_of ask) ≡ Ok (wish.Change u) → ⊥) → Ready c n (delivered_by i) x disk (under replies (cuts.asking_this_course c n x o)) s
    → Between S n i None None x.requests.asked x s → Holding S c n i v disk.promised x s.moments
    → Left S c n (after_all c n (site (Up x) disk) (under replies (cuts.asking_this_course c n x o))).disk.promised (after_all c n (site (Up x) disk) (under replies (cuts.asking_this_course c n x o))).node
    (given_all c n (site (Up x) disk) (under replies (cuts.asking_this_course c n x o))) s
asking_this S c n i v replies x disk None s reads range fits room calm rd b k = walked S c n i v None replies Stops None x.requests.asked x disk s reads range fits rd tt tt b k
asking_this S c n i v replies x disk (Some ask) s reads range fits room calm rd b k =
    asking_when S c n i v replies x disk ask s (is_member x.seat && not (is_full x.requests)) refl reads range fits room (λ u. calm ask u refl) rd b k

pub reporting_left : (S : Setting) (c : Cluster) (n : ℕ) (i : Input) (v : Option ℕ) (replies : List Reply) (x : UpNode) (disk : NodeRecord) (r : List ℕ) (p : Probed) (s : Scene) → Reads c S → (1 ≤ n) × (n ≤ 32) → All IsDevice c.attached
    → x.requests.asked < 2 ^ 64 - 1 → Ready c n (delivered_by i) x disk (under replies (cuts.reporting_course c n x r p)) s → Between S n i None None x.requests.asked x s → Holding S c n i v disk.promised x s.moments
    → Left S c n (after_all c n (site (Up x) disk) (under replies (cuts.reporting_course c n x r p))).disk.promised (after_all c n (site (Up x) disk) (under replies (cuts.reporting_course c n x r p))).node
    (given_all c n (site (Up x) disk) (under replies (cuts.reporting_course c n x r p))) s
reporting_left S c n i v replies x disk r probe.NoMonitor s reads range fits room rd b k = walked S c n i v None replies Stops None x.requests.asked x disk s reads range fits rd tt tt b k
reporting_left S c n i v replies x disk r probe.Good s reads range fits room rd b k =
    walked S c n i v None replies (cuts.reporting_course c n x r probe.Good) None x.requests.asked x disk s reads range fits rd ((tt, tt), (tt, tt)) ((tt, tt), (tt, tt)) b k
reporting_left S c n i v replies x disk r (probe.Failed a) s reads range fits room rd b k =
    let tell : Act = Gives (report_told n r (result_of a) ∷ []) in
    let works : Act = Works (after_probe x.worker (own_config c x) r x.second (probe.Failed a)) in
    let y : UpNode = reported x c r (probe.Failed a) in
    let rest : Course = cuts.asking_this_course c n y (asked_by a r) in
    let t : Scene = passing n (report_told n r (result_of a) ∷ []) s in
    let first : Goes S n i None None x.requests.asked x (report_told n r (result_of a) ∷ []) s = goes_act S c n i None None x disk tell (Does works ∷ under replies rest) s reads.answers rd (tt, tt) b in
    let behind : Ready c n (delivered_by i) x disk (Does works ∷ under replies rest) t = ready_act c n (delivered_by i) x disk tell (Does works ∷ under replies rest) s fits rd in
    let second : Goes S n i None None x.requests.asked y [] t = goes_act S c n i None None x disk works (under replies rest) t reads.answers behind tt first.between in
    let after : Ready c n (delivered_by i) y disk (under replies rest) t = ready_act c n (delivered_by i) x disk works (under replies rest) t fits behind in
    let one : Holding S c n i v disk.promised x t.moments = hold_act S c n i v None None x disk tell (Does works ∷ under replies rest) s reads range tt rd (tt, tt) (tt, tt) b k in
    let two : Holding S c n i v disk.promised y t.moments = hold_act S c n i v None None x disk works (under replies rest) t reads range tt behind tt tt first.between one in
    then_left S c n _ _ (report_told n r (result_of a) ∷ []) (given_all c n (site (Up y) disk) (under replies rest)) s
    (asking_this S c n i v replies y disk (asked_by a r) t reads range fits room (λ ask u is. reads.monitors a r ask u is) after second.between two)
