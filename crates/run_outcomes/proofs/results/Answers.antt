-- A node takes the answer to the command that is due: what the line of the command shows it has, and goes on.
use Rattle.node_model.specs.declared.output.Output.{Output}
use Rattle.membership_machine.specs.State.{Memberships, Node as MachineNode}
use Rattle.membership_machine.specs.Events.{Event}
use Rattle.membership_machine.specs.Invariant.{Holds}
use Rattle.refinement.proofs.Acts.{does_one}
use Rattle.refinement.specs.Events.{of_doing}
use Rattle.refinement.specs.Courses.Course.{Stops}
use Rattle.refinement.specs.Doings.Change.{Admits}
use Rattle.std.specs.Prelude.{All, ℕ, ◌≡◌, nat_le, true, List, [], ◌∷◌, Option, None, Some, find, Ok, Err, ◌≤◌, ◌++◌}
use Rattle.std.proofs.Common.{refl, sym, ap, subst, arith, ◌∙◌}
use Rattle.cl_base.specs.declared.header.Header.{Header}
use Rattle.cl_base.specs.declared.method.Outcome as method
use Rattle.cmm_attempt.specs.Calls.{IsDevice}
use Rattle.cmm_member.specs.Nodes.{NodeState}
use Rattle.cmm_member.specs.Records.{NodeRecord}
use Rattle.device_queue.specs.Queue.{after_answer, due_device, next_of, progress_after}
use Rattle.device_queue.specs.Tasks.{is_queued}
use Rattle.device_queue.specs.declared.progress.Progress.{Progress}
use Rattle.device_queue.specs.declared.progress.Progress.TheVariants.{GoesOn, Joined, Seized}
use Rattle.history.specs.Moment.{Moment, Told}
use Rattle.node_model.specs.Devices.{answer_told, joining_so}
use Rattle.node_model.specs.Seats.{coordinator_of, record_of, session_of}
use Rattle.node_model.specs.Steps.{at_second}
use Rattle.node_model.specs.declared.cluster.Cluster.{Cluster}
use Rattle.node_model.specs.declared.input.Input.TheVariants as input
use Rattle.node_model.specs.declared.node.Node.{Node}
use Rattle.node_model.specs.declared.node.Node.TheVariants.{Down, Up}
use Rattle.node_model.specs.declared.node.UpNode.{UpNode}
use Rattle.pgr_device.specs.declared.command.PrCommand.{PrCommand}
use Rattle.refinement.specs.Courses.{Course, Reply, under}
use Rattle.refinement.specs.Courses.Reply.{Done as Reply_done, Lost_new, Lost_old}
use Rattle.refinement.specs.Cuts.{answered_course, doings, joined_course, progress_course, seized_course}
use Rattle.refinement.specs.Doings.{Doing, Site, answered_so, effect, gives, site}
use Rattle.refinement.specs.Doings.Act.{Dates, Takes}
use Rattle.refinement.specs.Doings.Doing.{Does, Forgets, Loses, Saves}
use Rattle.refinement.specs.Guards.{MayAll}
use Rattle.refinement.specs.Ties.{GoesOn as StepGoes, NodeTied, SiteTied, setting_of}
use Rattle.run_outcomes.specs.counts.Ends.{AllFit}
use Rattle.run_history.proofs.AtSteps.{joined_course_to, seized_here_to}
use Rattle.run_history.proofs.Ups.{same_state}
use Rattle.run_history.proofs.WholeSteps.{at_under}
use Rattle.run_history.specs.Guards.{AtAll}
use Rattle.run_history.specs.Marks.{AllSo}
use Rattle.run_history.specs.Scenes.{Scene, passing, telling}
use Rattle.run_seizings.proofs.Stages.{told_of}
use Rattle.seize.specs.Answers.{Answer}
use Rattle.seize.specs.declared.kind.JoinResult.TheVariants as join
use Rattle.status_report.specs.declared.device_entry.DeviceEntry.TheVariants as device_entry
use Rattle.status_report.specs.declared.entry.Entry.TheVariants as entry
use Rattle.status_report.specs.declared.node_entry.DownCause.{DownCause}
use Rattle.status_report.specs.declared.node_entry.DownCause.TheVariants as down
use Rattle.status_report.specs.declared.node_entry.NodeEntry.TheVariants as note
use Rattle.run_outcomes.proofs.results.Stays.{attempt_stays}
use Rattle.run_outcomes.proofs.results.Tasks.{FirstHigh, ReadsOwn, tasks_taken}
use Rattle.run_outcomes.proofs.results.Ups.{up_same}
use Rattle.run_outcomes.proofs.results.Acted.{Done, Goes, Now, goes_last}
use Rattle.run_outcomes.proofs.results.Walk.{Comes, all_done, none_comes, then_comes}
use Rattle.run_outcomes.proofs.results.Freed.{inst}
use Rattle.run_outcomes.specs.results.Shown.{AttemptIn, OfHeader, TasksShown, UpShown}
use Rattle.run_outcomes.specs.results.Tried.{Collected, TasksHeld}
use Rattle.run_outcomes.proofs.results.Held.{held_answered, held_stay, seat_stays, seizes_answered}
use Rattle.run_outcomes.proofs.results.Marks.{more_has, seat_more}
use Rattle.run_devices.specs.validity.Kept.{AllAgree}
use Rattle.run_devices.proofs.validity.Courses.{AllTrust, joined_trusts, seized, under_trusts}
use Rattle.run_outcomes.proofs.results.Fresh.{trust_gone}
use Rattle.cl_base.specs.Sets.{has}
use Rattle.run_outcomes.specs.accounts.Unregistered.{StartsKept}

told_same : (a : Answer) → told_of a ≡ answer_told a
told_same (Ok a) = refl
told_same (Err e) = refl

-- ---- the line of the command

abbrev told_line : ℕ → ℕ → PrCommand → Answer → Moment
told_line n d k a = Told (entry.Device (device_entry.Command n d k (answer_told a)))

taken_goes : (h : Header) (past : Collected) (f : ℕ → ℕ) (n d : ℕ) (k : PrCommand) (a : Answer) (y : UpNode) (ms : List Moment) → nat_le n 32 ≡ true → due_device y.tasks ≡ Some d → next_of y.tasks ≡ Some k → ReadsOwn h k a
    → FirstHigh (find is_queued y.tasks) a → Goes h past n None f (Up y) None ms → Goes h past n None f (Up (answered_so y a)) None (told_line n d k a ∷ ms)
taken_goes h past f n d k a y ms low device next own high g differ =
    let z : Now h past n None f (Up y) None ms = g differ.1 in
    record {
      here = record {
        tasks = subst (λ t. TasksShown h (Told (entry.Device (device_entry.Command n d k t)) ∷ ms) n (session_of y) (after_answer y.tasks a)) (told_same a)
            (tasks_taken h ms n (session_of y) d k a y.tasks low device next own high z.here.held z.here.tasks);
        held = held_answered h (told_line n d k a ∷ ms) n (session_of y) a y.tasks (held_stay h ms (told_line n d k a) n (session_of y) y.tasks tt z.here.held);
        seat = seat_more h past (told_line n d k a ∷ ms) n y (answered_so y a) refl refl (λ e none. none) (λ e seizes. seizes_answered y.tasks e a seizes) (seat_stays h past ms (told_line n d k a) n y tt z.here.seat);
        attempt = attempt_stays h ms (told_line n d k a) (session_of y) y.attempt tt z.here.attempt;
        mine = z.here.mine;
      };
      hand = tt;
      lines = (tt, z.lines);
      reached = tt;
      fresh = z.fresh;
      begun = z.begun;
    }

-- ---- what follows

-- it goes down in the save after it
gone_goes : (h : Header) (past : Collected) (f : ℕ → ℕ) (n d : ℕ) (k : PrCommand) (a : Answer) (z : UpNode) (why : DownCause) (ms : List Moment) → Goes h past n None f (Up z) None (told_line n d k a ∷ ms)
    → Goes h past n None f Down None (Told (entry.Node n (note.Down why)) ∷ told_line n d k a ∷ ms)
gone_goes h past f n d k a z why ms g differ =
    let y : Now h past n None f (Up z) None (told_line n d k a ∷ ms) = g differ.1 in
    record { here = tt; hand = tt; lines = (tt, y.lines); reached = tt; fresh = tt; begun = y.begun }

-- what is known of the node as it takes the answer
record At (c : Cluster) (M : Memberships) (n : ℕ) (f : ℕ → ℕ) (x : Site) : Type 0 where
  holds : Holds (setting_of c) M
  tied : SiteTied c M n x
  low : (k : ℕ) → f k ≤ inst M k

at_next : (c : Cluster) (M : Memberships) (n : ℕ) (f : ℕ → ℕ) (x y : Site) (os : List Output) (events : List Event) → At c M n f x → (o : StepGoes c M n y os events) → At c o.machine n f y
at_next c M n f x y os events z o = record { holds = o.holds; tied = o.tied; low = λ k. at_most (f k) (inst M k) (inst o.machine k) (z.low k) (o.grows.node k).installed }
  where
    at_most : (a b d : ℕ) → a ≤ b → b ≤ d → a ≤ d
    at_most a b d i j = omega (arith, i, j)

-- the small steps that follow, of a node that is so
rest_done : (h : Header) (past : Collected) (c : Cluster) (M : Memberships) (f : ℕ → ℕ) (n : ℕ) (z : UpNode) (disk : NodeRecord) (replies : List Reply) (rest : Course) (s : Scene) → All IsDevice c.attached → OfHeader h c
    → At c M n f (site (Up z) disk) → MayAll c n None (site (Up z) disk) (under replies rest) → AtAll c n None None (site (Up z) disk) (under replies rest)
    → AllFit c n None (site (Up z) disk) (under replies rest) → AllSo (under replies rest) → AllAgree h c n (site (Up z) disk) (under replies rest) s → AllTrust (under replies rest) → StartsKept (under replies rest) → Goes h past n None f (Up z) None s.moments
    → Comes h past c M n None f (site (Up z) disk) (under replies rest) s
rest_done h past c M f n z disk replies rest s fits id at may asks ends so agrees trusts starts g =
    all_done h past c M n None f None (site (Up z) disk) (under replies rest) None s fits id at.holds tt at.tied at.low may asks ends so agrees (trust_gone past c n (site (Up z) disk) (under replies rest) trusts starts) g

-- the command is answered first
first_comes : (h : Header) (past : Collected) (c : Cluster) (M : Memberships) (f : ℕ → ℕ) (n d : ℕ) (k : PrCommand) (a : Answer) (y : UpNode) (disk : NodeRecord) (ds : List Doing) (s : Scene)
    → (o : StepGoes c M n (effect c n (site (Up y) disk) (Does (Takes d k a))) (gives c n (site (Up y) disk) (Does (Takes d k a))) (of_doing n (Does (Takes d k a))))
    → Comes h past c o.machine n None f (site (Up (answered_so y a)) disk) ds (telling (entry.Device (device_entry.Command n d k (answer_told a))) s)
    → Comes h past c M n None f (site (Up y) disk) (Does (Takes d k a) ∷ ds) s
first_comes h past c M f n d k a y disk ds s o z =
    then_comes h past c M n None f (site (Up y) disk) (Does (Takes d k a)) ds s _ o z (record { goes = z.done.goes; says = λ differ. (tt, z.done.says differ) })

-- it takes the answer, and goes on so
takes_comes : (h : Header) (past : Collected) (c : Cluster) (M : Memberships) (f : ℕ → ℕ) (n d : ℕ) (k : PrCommand) (a : Answer) (y : UpNode) (disk : NodeRecord) (replies : List Reply) (rest : Course) (s : Scene)
    → All IsDevice c.attached → OfHeader h c → At c M n f (site (Up y) disk) → MayAll c n None (site (Up y) disk) (Does (Takes d k a) ∷ under replies rest)
    → AtAll c n None None (site (Up (answered_so y a)) disk) (under replies rest) → AllFit c n None (site (Up (answered_so y a)) disk) (under replies rest) → AllSo (under replies rest)
    → AllAgree h c n (site (Up (answered_so y a)) disk) (under replies rest) (telling (entry.Device (device_entry.Command n d k (answer_told a))) s)
    → AllTrust (under replies rest) → StartsKept (under replies rest)
    → Goes h past n None f (Up (answered_so y a)) None (told_line n d k a ∷ s.moments) → Comes h past c M n None f (site (Up y) disk) (Does (Takes d k a) ∷ under replies rest) s
takes_comes h past c M f n d k a y disk replies rest s fits id at may asks ends so agrees trusts starts g =
    let o : StepGoes c M n (effect c n (site (Up y) disk) (Does (Takes d k a))) (gives c n (site (Up y) disk) (Does (Takes d k a))) (of_doing n (Does (Takes d k a))) =
    does_one c M n None (site (Up y) disk) (Does (Takes d k a)) fits at.holds tt at.tied may.0 in
    first_comes h past c M f n d k a y disk (under replies rest) s o
    (rest_done h past c o.machine f n (answered_so y a) disk replies rest _ fits id (at_next c M n f _ _ _ _ at o) may.1 asks ends so agrees trusts starts g)

-- it goes down in the save of what the answer admits
lost_comes : (h : Header) (past : Collected) (c : Cluster) (M : Memberships) (f : ℕ → ℕ) (n : ℕ) (y : UpNode) (disk : NodeRecord) (d : Doing) (s : Scene)
    → (o : StepGoes c M n (effect c n (site (Up y) disk) d) (gives c n (site (Up y) disk) d) (of_doing n d))
    → Done h past n None f (inst o.machine) (effect c n (site (Up y) disk) d).node None (gives c n (site (Up y) disk) d ++ []) (passing n (gives c n (site (Up y) disk) d ++ []) s).moments
    → Comes h past c M n None f (site (Up y) disk) (d ∷ []) s
lost_comes h past c M f n y disk d s o done = record {
  machine = o.machine;
  grows = λ k. (o.grows.node k).installed;
  tied = o.tied;
  others = λ k ne. ap (λ (z : MachineNode). z.saved.installed) (o.others k ne);
  last = None;
  done = done;
}

-- the device is valid that it has joined
joined_up : (h : Header) (past : Collected) (ms : List Moment) (n : ℕ) (x : UpNode) (e : ℕ) → UpShown h past ms n x → UpShown h past ms n (joining_so x e)
joined_up h past ms n x e k =
    let y : UpNode = joining_so x e in
    let session : session_of y ≡ session_of x = ap (λ (u : NodeState). u.session) (same_state x.seat _) in
    record {
      tasks = subst (λ q. TasksShown h ms n q x.tasks) (sym session) k.tasks;
      held = subst (λ q. TasksHeld h ms n q x.tasks) (sym session) k.held;
      seat = seat_more h past ms n x y session (ap (λ (u : NodeState). u.saved.installed) (same_state x.seat _))
          (λ d none. more_has (record_of x).valid e d (sym (ap (λ (u : NodeState). has u.saved.valid d) (same_state x.seat _)) ∙ none)) (λ d seizes. seizes) k.seat;
      attempt = subst (λ q. AttemptIn h ms q x.attempt) (sym session) k.attempt;
      mine = k.mine;
    }

answered_comes : (h : Header) (past : Collected) (c : Cluster) (M : Memberships) (f : ℕ → ℕ) (n d : ℕ) (k : PrCommand) (a : Answer) (y : UpNode) (disk : NodeRecord) (replies : List Reply) (s : Scene)
    → All IsDevice c.attached → OfHeader h c → At c M n f (site (Up y) disk) → Goes h past n None f (Up y) None s.moments
    → Goes h past n None f (Up (answered_so y a)) None (told_line n d k a ∷ s.moments) → (p : Progress) → progress_after y.tasks a ≡ p
    → MayAll c n None (site (Up y) disk) (under replies (progress_course c n y d k a p)) → AllFit c n None (site (Up y) disk) (under replies (progress_course c n y d k a p))
    → AllSo (under replies (progress_course c n y d k a p)) → AllAgree h c n (site (Up y) disk) (under replies (progress_course c n y d k a p)) s
    → StartsKept (under replies (progress_course c n y d k a p)) → Comes h past c M n None f (site (Up y) disk) (under replies (progress_course c n y d k a p)) s
answered_comes h past c M f n d k a y disk replies s fits id at before g GoesOn is may ends so agrees starts =
    takes_comes h past c M f n d k a y disk replies Stops s fits id at may tt tt tt tt tt tt g
answered_comes h past c M f n d k a y disk replies s fits id at before g (Seized e r) is may ends so agrees starts =
    let z : UpNode = answered_so y a in
    let rest : Course = seized_course c n z e r (coordinator_of z) in
    takes_comes h past c M f n d k a y disk replies rest s fits id at may (at_under c n None None z disk replies rest (seized_here_to c n None y a e r is)) ends.1 so.1 agrees.1 (under_trusts replies rest (seized c n z e r (coordinator_of z))) starts.1 g
answered_comes h past c M f n d k a y disk replies s fits id at before g (Joined e (join.Late w)) is may ends so agrees starts =
    let z : UpNode = answered_so y a in
    let rest : Course = joined_course c n z (coordinator_of z) in
    takes_comes h past c M f n d k a y disk replies rest s fits id at may (at_under c n None None z disk replies rest (joined_course_to c n None z (coordinator_of z))) ends.1 so.1 agrees.1 (under_trusts replies rest (joined_trusts c n z (coordinator_of z))) starts.1 g
answered_comes h past c M f n d k a y disk replies s fits id at before g (Joined e join.Fault) is may ends so agrees starts =
    let z : UpNode = answered_so y a in
    let rest : Course = joined_course c n z (coordinator_of z) in
    takes_comes h past c M f n d k a y disk replies rest s fits id at may (at_under c n None None z disk replies rest (joined_course_to c n None z (coordinator_of z))) ends.1 so.1 agrees.1 (under_trusts replies rest (joined_trusts c n z (coordinator_of z))) starts.1 g
answered_comes h past c M f n d k a y disk [] s fits id at before g (Joined e join.Joined) is may ends so agrees starts =
    lost_comes h past c M f n y disk (Forgets (Admits d k a e) down.Stopped) s (does_one c M n None (site (Up y) disk) (Forgets (Admits d k a e) down.Stopped) fits at.holds tt at.tied may.0)
    (record { goes = gone_goes h past f n d k a (answered_so y a) down.Stopped s.moments g; says = λ differ. (tt, (tt, tt)) })
answered_comes h past c M f n d k a y disk (Lost_new why ∷ replies) s fits id at before g (Joined e join.Joined) is may ends so agrees starts =
    lost_comes h past c M f n y disk (Loses (Admits d k a e) why) s (does_one c M n None (site (Up y) disk) (Loses (Admits d k a e) why) fits at.holds tt at.tied may.0)
    (record { goes = gone_goes h past f n d k a (answered_so y a) why s.moments g; says = λ differ. (tt, (tt, tt)) })
answered_comes h past c M f n d k a y disk (Lost_old why ∷ replies) s fits id at before g (Joined e join.Joined) is may ends so agrees starts =
    lost_comes h past c M f n y disk (Forgets (Admits d k a e) why) s (does_one c M n None (site (Up y) disk) (Forgets (Admits d k a e) why) fits at.holds tt at.tied may.0)
    (record { goes = gone_goes h past f n d k a (answered_so y a) why s.moments g; says = λ differ. (tt, (tt, tt)) })
answered_comes h past c M f n d k a y disk (Reply_done ∷ replies) s fits id at before g (Joined e join.Joined) is may ends so agrees starts =
    let z : UpNode = answered_so y a in
    let x : UpNode = joining_so z e in
    let rest : Course = joined_course c n x (coordinator_of x) in
    let t : Scene = telling (entry.Node n note.Saved) (telling (entry.Device (device_entry.Command n d k (answer_told a))) s) in
    let o : StepGoes c M n (effect c n (site (Up y) disk) (Saves (Admits d k a e))) (gives c n (site (Up y) disk) (Saves (Admits d k a e))) (of_doing n (Saves (Admits d k a e))) =
    does_one c M n None (site (Up y) disk) (Saves (Admits d k a e)) fits at.holds tt at.tied may.0 in
    let more : Comes h past c o.machine n None f (site (Up x) (record_of x)) (under replies rest) t =
    rest_done h past c o.machine f n x (record_of x) replies rest t fits id (at_next c M n f _ _ _ _ at o) may.1
    (at_under c n None None x (record_of x) replies rest (joined_course_to c n None x (coordinator_of x))) ends.1 so.1 agrees.1 (under_trusts replies rest (joined_trusts c n x (coordinator_of x))) starts.1 saved in
    then_comes h past c M n None f (site (Up y) disk) (Saves (Admits d k a e)) (under replies rest) s t o more
    (record { goes = more.done.goes; says = λ differ. (tt, (tt, more.done.says differ)) })
  where
    saved : Goes h past n None f (Up (joining_so (answered_so y a) e)) None (Told (entry.Node n note.Saved) ∷ told_line n d k a ∷ s.moments)
    saved differ =
        let m : Now h past n None f (Up (answered_so y a)) None (Told (entry.Node n note.Saved) ∷ told_line n d k a ∷ s.moments) =
        goes_last h past n None f (Up (answered_so y a)) None (Told (entry.Node n note.Saved)) (told_line n d k a ∷ s.moments) tt g differ in
        record {
          here = joined_up h past (Told (entry.Node n note.Saved) ∷ told_line n d k a ∷ s.moments) n (answered_so y a) e m.here;
          hand = m.hand;
          lines = m.lines;
          reached = m.reached;
          fresh = m.fresh;
          begun = m.begun;
        }

-- ---- the whole step

-- where a command is due, this is known of its answer
abbrev pub DueShown : Header → Answer → UpNode → Type 0
DueShown h a x = ((k : PrCommand) → next_of x.tasks ≡ Some k → ReadsOwn h k a) × FirstHigh (find is_queued x.tasks) a

abbrev pub NodeDue : Header → Answer → Node → Type 0
NodeDue h a Down = Unit {0}
NodeDue h a (Up x) = DueShown h a x

pub answer_comes : (h : Header) (past : Collected) (c : Cluster) (M : Memberships) (f : ℕ → ℕ) (n now : ℕ) (ends : method.Outcome) (a : Answer) (node : Node) (disk : NodeRecord) (replies : List Reply) (s : Scene)
    → All IsDevice c.attached → OfHeader h c → nat_le n 32 ≡ true → NodeDue h a node → Holds (setting_of c) M → NodeTied c M n disk node → ((k : ℕ) → f k ≤ inst M k)
    → MayAll c n None (site node disk) (doings c n now ends replies (input.Answered a) node)
    → AllFit c n None (site node disk) (doings c n now ends replies (input.Answered a) node) → AllSo (doings c n now ends replies (input.Answered a) node)
    → AllAgree h c n (site node disk) (doings c n now ends replies (input.Answered a) node) s → StartsKept (doings c n now ends replies (input.Answered a) node) → Goes h past n None f node None s.moments → Comes h past c M n None f (site node disk) (doings c n now ends replies (input.Answered a) node) s
answer_comes h past c M f n now ends a Down disk replies s fits id small due holds tied low may asks so agrees starts g = none_comes h past c M n None f (site Down disk) None s tied g
answer_comes h past c M f n now ends a (Up x) disk replies s fits id small due holds tied low may asks so agrees starts g =
    let o : StepGoes c M n (effect c n (site (Up x) disk) (Does (Dates now))) (gives c n (site (Up x) disk) (Does (Dates now))) (of_doing n (Does (Dates now))) =
    does_one c M n None (site (Up x) disk) (Does (Dates now)) fits holds tt tied may.0 in
    let at : At c o.machine n f (site (Up y) disk) = at_next c M n f (site (Up x) disk) (site (Up y) disk) _ _ (record { holds = holds; tied = tied; low = low }) o in
    let z : Comes h past c o.machine n None f (site (Up y) disk) (under replies (answered_course c n y a (due_device y.tasks) (next_of y.tasks))) s =
    by_due o.machine at (due_device y.tasks) (next_of y.tasks) refl refl may.1 asks.1 so.1 agrees.1 starts.1 in
    then_comes h past c M n None f (site (Up x) disk) (Does (Dates now)) (under replies (answered_course c n y a (due_device y.tasks) (next_of y.tasks))) s s o z
    (record { goes = z.done.goes; says = z.done.says })
  where
    y : UpNode
    y = at_second now x

    dated : Goes h past n None f (Up y) None s.moments
    dated differ =
        let m : Now h past n None f (Up x) None s.moments = g differ in
        record { here = up_same h past s.moments n x y refl refl refl refl refl m.here; hand = m.hand; lines = m.lines; reached = m.reached; fresh = m.fresh; begun = m.begun }

    by_due : (N : Memberships) → At c N n f (site (Up y) disk) → (o : Option ℕ) (q : Option PrCommand) → due_device y.tasks ≡ o → next_of y.tasks ≡ q
        → MayAll c n None (site (Up y) disk) (under replies (answered_course c n y a o q))
        → AllFit c n None (site (Up y) disk) (under replies (answered_course c n y a o q)) → AllSo (under replies (answered_course c n y a o q))
        → AllAgree h c n (site (Up y) disk) (under replies (answered_course c n y a o q)) s → StartsKept (under replies (answered_course c n y a o q)) → Comes h past c N n None f (site (Up y) disk) (under replies (answered_course c n y a o q)) s
    by_due N at None q device next m e o l t = none_comes h past c N n None f (site (Up y) disk) None s at.tied dated
    by_due N at (Some d) None device next m e o l t = none_comes h past c N n None f (site (Up y) disk) None s at.tied dated
    by_due N at (Some d) (Some k) device next m e o l t =
        answered_comes h past c N f n d k a y disk replies s fits id at dated (taken_goes h past f n d k a y s.moments small device next (due.0 k next) due.1 dated) (progress_after y.tasks a) refl m e o l t
