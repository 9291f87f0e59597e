-- A node carries its command out, and takes the answer.
use Rattle.std.specs.Prelude.{ℕ, ◌≡◌, ◌<◌, ◌^◌, List, [], ◌∷◌, Option, None, Some, true}
use Rattle.std.specs.Option.{option_and_then, option_map}
use Rattle.std.proofs.Common.{refl, sym, ap, subst, ◌∙◌, arith}
use Rattle.cl_base.specs.declared.header.Header.{Header}
use Rattle.cl_base.specs.declared.method.Outcome as method
use Rattle.cmm_attempt.proofs.Basics.{none_some, same_some}
use Rattle.cmm_member.specs.Records.{NodeRecord}
use Rattle.device_queue.specs.Queue.{due_device, next_of, progress_after}
use Rattle.device_queue.specs.Tasks.{command_in, is_joining}
use Rattle.device_queue.specs.declared.progress.Progress.{Progress}
use Rattle.device_queue.specs.declared.progress.Progress.TheVariants.{GoesOn, Joined, Seized}
use Rattle.device_queue.specs.declared.task.Task.{Task}
use Rattle.membership_machine.specs.State.{Memberships}
use Rattle.pgr_device.specs.declared.command.PrCommand.{PrCommand}
use Rattle.seize.specs.Answers.{Answer}
use Rattle.seize.specs.declared.kind.JoinResult.TheVariants as join
use Rattle.status_report.specs.declared.node_entry.DownCause.TheVariants as cause
use Rattle.node_model.specs.Seats.{coordinator_of, installed_of, record_of, session_of}
use Rattle.node_model.specs.Devices.{joining_so}
use Rattle.node_model.specs.Steps.{at_second}
use Rattle.node_model.specs.declared.cluster.Cluster.{Cluster}
use Rattle.node_model.specs.declared.input.Input.{Input}
use Rattle.node_model.specs.declared.input.Input.TheVariants as input
use Rattle.node_model.specs.declared.node.Node.{Node}
use Rattle.node_model.specs.declared.node.Node.TheVariants.{Down, Up}
use Rattle.node_model.specs.declared.node.UpNode.{UpNode}
use Rattle.refinement.proofs.Changes.{sees}
use Rattle.refinement.specs.Courses.{Course, Reply, under}
use Rattle.refinement.specs.Courses.Reply.{Done, Lost_new, Lost_old}
use Rattle.refinement.specs.Cuts.{answered_course, doings, joined_course, progress_course, seized_course}
use Rattle.refinement.specs.Doings.{Doing, after_all, answered_so, changed, given_all, site}
use Rattle.refinement.specs.Doings.Act.{Dates, Takes}
use Rattle.refinement.specs.Doings.Change.{Admits}
use Rattle.refinement.specs.Doings.Doing.{Does, Saves}
use Rattle.refinement.specs.Runs.{AnswersFit, Nodes}
use Rattle.run_history.specs.Guards.{Hand}
use Rattle.run_history.specs.Happenings.{IsNode, taking}
use Rattle.run_history.specs.Scenes.{Scene, passing}
use Rattle.run_history.specs.Stages.{Sized, site_of}
use Rattle.run_seizings.proofs.Asked.{AllMay}
use Rattle.run_seizings.proofs.Goes as seizings
use Rattle.run_seizings.proofs.Steps.{Ground}
use Rattle.run_devices.specs.validity.Kept.{AllAgree, JoinsFirst, NoExcuse, readying}
use Rattle.run_devices.proofs.validity.Acts.{mild_at}
use Rattle.run_devices.proofs.validity.Tasks.{IsFirst, WorkFits}
use Rattle.run_devices.proofs.validity.Courses.{joined_trusts, seized, under_trusts}
use Rattle.run_devices.proofs.validity.Doings.{Ahead, Fixed, Ready, admits_goes, ahead_next, also_next, rest_go, takes_goes}
use Rattle.run_devices.proofs.validity.Downs.{Small, lost_goes, small_rest}
use Rattle.run_devices.proofs.validity.Goes.{Goes, HandSo}
use Rattle.run_devices.proofs.validity.Steps.{Around, Beside, StepAgrees, Strict, all_around, ready_of, step_around}
use Rattle.device_queue.specs.declared.task.Work.{Work}
use Rattle.device_queue.specs.declared.task.Work.TheVariants.{Joining, Seizing}

-- ---- the command is carried out

goes_on_no : (d : ℕ) → GoesOn ≡ Joined d join.Joined → ⊥
goes_on_no d is = cc

seized_no : (d e : ℕ) (r : _) → Seized e r ≡ Joined d join.Joined → ⊥
seized_no d e r is = cc

late_no : (d e word : ℕ) → Joined e (join.Late word) ≡ Joined d join.Joined → ⊥
late_no d e word is = cc

fault_no : (d e : ℕ) → Joined e join.Fault ≡ Joined d join.Joined → ⊥
fault_no d e is = cc

first_due : (x : UpNode) (at : ℕ) (k : PrCommand) → IsFirst x at k → (due_device x.tasks ≡ Some at) × (next_of x.tasks ≡ Some k)
first_due x at k f = (
  ap (λ o. option_map (λ (t : Task). t.device) o) f.found ∙ ap Some f.device,
  ap (λ o. option_and_then (λ (t : Task). command_in t.work) o) f.found ∙ f.command,
)

-- once it has installed its session a joining is first
first_joins : (x : UpNode) (at : ℕ) (k : PrCommand) → IsFirst x at k → JoinsFirst x
first_joins x at k f same t found = subst (λ (z : Task). is_joining z.work ≡ true) (same_some f.task t (sym f.found ∙ found)) (by_work f.task.work f.fits)
  where
    below : (a b : ℕ) → a < b → a ≡ b → ⊥
    below a b low is = grind arith

    by_work : (z : Work) → WorkFits x at z → is_joining z ≡ true
    by_work (Seizing s) fits = absurd (below (installed_of x) (session_of x) fits same)
    by_work (Joining j) fits = refl

answers_walk : (h : Header) (c : Cluster) (M : Memberships) (n : ℕ) (v w : Nodes) (disk : NodeRecord) (x : UpNode) (g : Hand) (replies : List Reply) (at : ℕ) (k : PrCommand) (a : Answer)
    (p : Progress) (s : Scene) → Fixed h c n → Ready c M n None (site (Up x) disk) → disk ≡ record_of x → IsFirst x at k → progress_after x.tasks a ≡ p
    → Small h c n None g (site (Up x) disk) (under replies (progress_course c n x at k a p))
    → Ahead h c n (site (Up x) disk) (under replies (progress_course c n x at k a p)) s → seizings.Goes h n None v w (site (Up x) disk) g s → Goes h n None v w (readying (site (Up x) disk)) (site (Up x) disk) s
    → Goes h n None v w NoExcuse (after_all c n (site (Up x) disk) (under replies (progress_course c n x at k a p)))
    (passing n (given_all c n (site (Up x) disk) (under replies (progress_course c n x at k a p))) s)
    × AllAgree h c n (site (Up x) disk) (under replies (progress_course c n x at k a p)) s
answers_walk h c M n v w disk x g replies at k a GoesOn s fixed r same f is small differ z l =
    rest_go h c M n None v w (site (Up x) disk) g (Does (Takes at k a)) [] s fixed r small tt differ z (first_joins x at k f)
    (takes_goes h c n None v w disk x at k a s same f (λ d e. goes_on_no d (sym is ∙ e)) l)
answers_walk h c M n v w disk x g replies at k a (Seized e q) s fixed r same f is small differ z l =
    let y : UpNode = answered_so x a in
    let rest : Course = seized_course c n y e q (coordinator_of y) in
    rest_go h c M n None v w (site (Up x) disk) g (Does (Takes at k a)) (under replies rest) s fixed r small (under_trusts replies rest (seized c n y e q (coordinator_of y))) differ z (first_joins x at k f)
    (takes_goes h c n None v w disk x at k a s same f (λ d i. seized_no d e q (sym is ∙ i)) l)
answers_walk h c M n v w disk x g replies at k a (Joined e (join.Late word)) s fixed r same f is small differ z l =
    let y : UpNode = answered_so x a in
    let rest : Course = joined_course c n y (coordinator_of y) in
    rest_go h c M n None v w (site (Up x) disk) g (Does (Takes at k a)) (under replies rest) s fixed r small (under_trusts replies rest (joined_trusts c n y (coordinator_of y))) differ z (first_joins x at k f)
    (takes_goes h c n None v w disk x at k a s same f (λ d i. late_no d e word (sym is ∙ i)) l)
answers_walk h c M n v w disk x g replies at k a (Joined e join.Fault) s fixed r same f is small differ z l =
    let y : UpNode = answered_so x a in
    let rest : Course = joined_course c n y (coordinator_of y) in
    rest_go h c M n None v w (site (Up x) disk) g (Does (Takes at k a)) (under replies rest) s fixed r small (under_trusts replies rest (joined_trusts c n y (coordinator_of y))) differ z (first_joins x at k f)
    (takes_goes h c n None v w disk x at k a s same f (λ d i. fault_no d e (sym is ∙ i)) l)
answers_walk h c M n v w disk x g [] at k a (Joined e join.Joined) s fixed r same f is small differ z l =
    (lost_goes h n None v w (readying (site (Up x) disk)) (site (Up x) disk) disk (Admits at k a e) cause.Stopped s small.lost.0 l, (tt, tt))
answers_walk h c M n v w disk x g (Lost_new why ∷ replies) at k a (Joined e join.Joined) s fixed r same f is small differ z l =
    (lost_goes h n None v w (readying (site (Up x) disk)) (site (Up x) disk) (record_of (changed c n x (Admits at k a e))) (Admits at k a e) why s small.lost.0 l, (tt, tt))
answers_walk h c M n v w disk x g (Lost_old why ∷ replies) at k a (Joined e join.Joined) s fixed r same f is small differ z l =
    (lost_goes h n None v w (readying (site (Up x) disk)) (site (Up x) disk) disk (Admits at k a e) why s small.lost.0 l, (tt, tt))
answers_walk h c M n v w disk x g (Done ∷ replies) at k a (Joined e join.Joined) s fixed r same f is small differ z l =
    let y : UpNode = joining_so (answered_so x a) e in
    let rest : Course = joined_course c n y (coordinator_of y) in
    rest_go h c M n None v w (site (Up x) disk) g (Saves (Admits at k a e)) (under replies rest) s fixed r small (under_trusts replies rest (joined_trusts c n y (coordinator_of y))) differ z (first_joins x at k f)
    (admits_goes h c n None v w disk x at k a e s same tt f is l)

-- what is so of the first task of a node that is up
abbrev pub FirstIn : ℕ → PrCommand → Node → Type 0
FirstIn at k Down = ⊥
FirstIn at k (Up x) = IsFirst x at k

pub answer_step : (h : Header) (c : Cluster) (n now at : ℕ) (k : PrCommand) (ends : method.Outcome) (a : Answer) (s : Scene) → Sized c → Ground c s.nodes → IsNode n → now < 2 ^ 64
    → AnswersFit (input.Answered a) → HandSo s.moments n None
    → ((replies : List Reply) → AllMay h c n None None (site_of s.nodes n) (doings c n now ends replies (input.Answered a) (s.nodes.node n)))
    → Beside h c n now ends (input.Answered a) s → FirstIn at k (s.nodes.node n) → Around h s n (readying (site_of s.nodes n))
    → Strict h (taking c n now ends (input.Answered a) s) × StepAgrees h c n now ends (input.Answered a) s
answer_step h c n now at k ends a s sized b is time answer hand guard beside first l =
    let gone : Around h (taking c n now ends (input.Answered a) s) n NoExcuse × StepAgrees h c n now ends (input.Answered a) s =
    step_around h c n now ends (input.Answered a) s (readying (site_of s.nodes n)) (λ x. NoExcuse) sized b is time tt answer hand guard beside
    (λ replies w t small differ z k. by_node (s.nodes.node n) replies w t (ready_of c s.nodes n (input.Answered a) sized b tt) first small differ z k) l in
    (all_around h (taking c n now ends (input.Answered a) s) n gone.0, gone.1)
  where
    disk : NodeRecord
    disk = (s.nodes.disk n).kept

    i : Input
    i = input.Answered a

    Walked : Nodes → Scene → UpNode → List Doing → Type 0
    Walked w t y ds = Goes h n None s.nodes w NoExcuse (after_all c n (site (Up y) disk) ds) (passing n (given_all c n (site (Up y) disk) ds) t) × AllAgree h c n (site (Up y) disk) ds t

    Differs : Scene → UpNode → List Doing → Type 0
    Differs t y ds = Ahead h c n (site (Up y) disk) ds t

    by_due : (y : UpNode) (o : Option ℕ) (q : Option PrCommand) (replies : List Reply) (w : Nodes) (t : Scene) → due_device y.tasks ≡ o → next_of y.tasks ≡ q
        → Ready c b.machine n None (site (Up y) disk) → IsFirst y at k → Small h c n None None (site (Up y) disk) (under replies (answered_course c n y a o q))
        → Differs t y (under replies (answered_course c n y a o q)) → seizings.Goes h n None s.nodes w (site (Up y) disk) None t
        → Goes h n None s.nodes w (readying (site (Up y) disk)) (site (Up y) disk) t → Walked w t y (under replies (answered_course c n y a o q))
    by_due y None q replies w t due next r f small differ z l = absurd (none_some at (sym due ∙ (first_due y at k f).0))
    by_due y (Some d) None replies w t due next r f small differ z l = absurd (none_some k (sym next ∙ (first_due y at k f).1))
    by_due y (Some d) (Some j) replies w t due next r f small differ z l =
        let same_device : at ≡ d = same_some at d (sym (first_due y at k f).0 ∙ due) in
        let same_command : k ≡ j = same_some k j (sym (first_due y at k f).1 ∙ next) in
        answers_walk h c b.machine n s.nodes w disk y None replies d j a (progress_after y.tasks a) t beside.fixed r (sees c b.machine n disk y.attempt y.seat r.tied.0).disk_so
        (subst (λ e. IsFirst y d e) same_command (subst (λ e. IsFirst y e k) same_device f)) refl small differ z l

    by_node : (node : Node) (replies : List Reply) (w : Nodes) (t : Scene) → Ready c b.machine n None (site node disk) → FirstIn at k node
        → Small h c n None None (site node disk) (doings c n now ends replies i node)
        → Ahead h c n (site node disk) (doings c n now ends replies i node) t → seizings.Goes h n None s.nodes w (site node disk) None t
        → Goes h n None s.nodes w (readying (site node disk)) (site node disk) t
        → Goes h n None s.nodes w NoExcuse (after_all c n (site node disk) (doings c n now ends replies i node)) (passing n (given_all c n (site node disk) (doings c n now ends replies i node)) t)
        × AllAgree h c n (site node disk) (doings c n now ends replies i node) t
    by_node Down replies w t r f small differ z l = absurd f
    by_node (Up x) replies w t r f small differ z l =
        let y : UpNode = at_second now x in
        let rest : List Doing = under replies (answered_course c n y a (due_device y.tasks) (next_of y.tasks)) in
        let gone : Walked w t y rest =
        by_due y (due_device y.tasks) (next_of y.tasks) replies w t refl refl
        (record { fits = r.fits; holds = r.holds; known = r.known; tied = r.tied; joins = r.joins })
        (record { task = f.task; found = f.found; device = f.device; command = f.command; number = f.number; fits = f.fits; readied = f.readied })
        (small_rest h c n None None (site (Up x) disk) (Does (Dates now)) rest small) (ahead_next h c n (site (Up x) disk) (Does (Dates now)) rest t differ)
        (also_next h c b.machine n None s.nodes w (site (Up x) disk) None (Does (Dates now)) rest t beside.fixed r small differ.differ z)
        (mild_at h n None s.nodes w (readying (site (Up x) disk)) disk x y [] t tt tt refl refl refl l) in
        (gone.0, (tt, gone.1))
