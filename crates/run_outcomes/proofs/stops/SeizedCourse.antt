-- Where the answer ends a seizing of its own, a coordinator installs and starts with no work left.
use Rattle.std.specs.Prelude.{ℕ, ◌≡◌, ◌==◌, Bool, true, false, List, [], ◌∷◌, map, Option, None, Some, if◌then◌else◌}
use Rattle.std.proofs.Common.{refl, sym, ap, subst, ◌∙◌}
use Rattle.cl_base.specs.Seizings.{SeizeResult}
use Rattle.cmm_attempt.proofs.Basics.{if_either}
use Rattle.cmm_attempt.specs.Attempts.{AttemptState, all_ready, install_in, installs, own_readying, own_readying_in, silent_others, starting, waits, with_steps}
use Rattle.cmm_attempt.specs.Calls.{Call, Own_ready, Own_seized, With_votes, starts_in, turn}
use Rattle.cmm_attempt.specs.Installs.{send_start, send_to}
use Rattle.cmm_attempt.specs.Plans.{others_of}
use Rattle.cmm_attempt.specs.declared.phase.Phase.{Phase}
use Rattle.cmm_attempt.specs.declared.phase.Phase.TheVariants.{Choosing, Collecting, Installing, Over, SeizingOthers, SeizingVotes}
use Rattle.cmm_attempt.specs.declared.plan.Plan.{Plan}
use Rattle.cmm_attempt.specs.declared.step.Step.{Step}
use Rattle.cmm_attempt.specs.declared.step.Step.TheVariants as step
use Rattle.cmm_member.specs.Nodes.{NodeState}
use Rattle.cmm_member.specs.Records.{NodeRecord}
use Rattle.device_queue.specs.Queue.{joins}
use Rattle.history.specs.Setting.{Setting}
use Rattle.history.specs.Trace.{installed, saved}
use Rattle.node_model.specs.Attempts.{begins_install, installs_now, is_choosing, votes_in}
use Rattle.node_model.specs.Seats.{record_of, session_of}
use Rattle.node_model.specs.declared.cluster.Cluster.{Cluster}
use Rattle.node_model.specs.declared.node.Node.TheVariants.{Up}
use Rattle.node_model.specs.declared.node.UpNode.{UpNode}
use Rattle.node_model.specs.declared.seat.Seat.{Seat}
use Rattle.node_model.specs.declared.seat.Seat.TheVariants.{Forming, Member}
use Rattle.refinement.specs.Courses.{Course, Reply, joined, under}
use Rattle.refinement.specs.Courses.Course.{Acts, Keeps, Stops}
use Rattle.refinement.specs.Courses.Reply.{Done, Lost_new, Lost_old}
use Rattle.refinement.specs.Cuts as cuts
use Rattle.refinement.specs.Cuts.{if_installed, if_started, steps_course}
use Rattle.refinement.specs.Doings.{changed, going as going_on, gives, site}
use Rattle.refinement.specs.Doings.Act.{Goes_on}
use Rattle.refinement.specs.Doings.Change.{Counts}
use Rattle.refinement.specs.Doings.Doing.{Saves}
use Rattle.wire.specs.declared.message.Body.{Body}
use Rattle.wire.specs.declared.message.Body.TheVariants as body
use Rattle.wire.specs.declared.message.Install.{Install}
use Rattle.run_history.specs.Scenes.{Scene, passing}
use Rattle.run_outcomes.specs.phases.Laws.{is_seizing}
use Rattle.run_outcomes.specs.stops.Idle.{AllIdle, IsIdle}
use Rattle.run_outcomes.proofs.saves.Trying.{gone_t}
use Rattle.run_outcomes.proofs.stops.Settles.{IfInstalls, Settles, installs_so, none_sent, not_choosing, ready_alone}
use Rattle.run_outcomes.proofs.stops.Starting.{if_started_still, joined_still, own_ready_idle, tries_still}
use Rattle.run_outcomes.proofs.stops.Unled.{NotTried, Still, still_idle}

-- ---- where others are to be ready, it does not start

ready_still : (c : Cluster) (n : ℕ) (x : UpNode) (b : AttemptState) → x.attempt ≡ Some b → all_ready b ≡ false → Still (cuts.own_ready_course c n x)
unfolding own_readying starting
ready_still c n x b is unready =
    if_either Still (joins x.tasks) Stops (cuts.readied_course c n x x.attempt) tt (subst (λ o. Still (cuts.readied_course c n x o)) (sym is) (turned_still (turn b Own_ready).steps (steps_none b.phase)))
  where
    steps_none : (p : Phase) → (own_readying_in b p).steps ≡ []
    steps_none Installing =
        ap (λ t. (if t then with_steps (record b { own_ready = true; phase = Over }) (step.StartHere ∷ map (send_start b.plan) (others_of b.plan)) else waits (record b { own_ready = true })).steps) unready
    steps_none Collecting = refl
    steps_none Choosing = refl
    steps_none SeizingVotes = refl
    steps_none SeizingOthers = refl
    steps_none Over = refl

    turned_still : (steps : List Step) → steps ≡ [] → Still (joined c n x (cuts.turned_by c n x b Own_ready steps) (if_started c n steps))
    turned_still steps none = subst (λ z. Still (joined c n x (cuts.turned_by c n x b Own_ready z) (if_started c n z))) (sym none) tt

-- ---- its Installs are sent

starts_not : (plan : Plan) (bd : Body) (ns : List ℕ) → starts_in (map (send_to plan bd) ns) ≡ false
starts_not plan bd [] = refl
starts_not plan bd (m ∷ ns) = starts_not plan bd ns

-- these leave the node as it is
sent_still : (c : Cluster) (n : ℕ) (x : UpNode) (plan : Plan) (bd : Body) (ns : List ℕ) (f g : UpNode → Course) → Still (joined c n x (f x) g) → Still (joined c n x (joined c n x (steps_course c n x (map (send_to plan bd) ns)) f) g)
sent_still c n x plan bd [] f g h = h
sent_still c n x plan bd (m ∷ ns) f g h = sent_still c n x plan bd ns f g h

-- this course of a turn with these steps, and what follows it
abbrev behind : Cluster → ℕ → UpNode → List Step → Course → Course
behind c n x steps k = joined c n x (joined c n x k (if_started c n steps)) (if_installed c n steps)

behind_still : (c : Cluster) (n : ℕ) (x : UpNode) (i : Install) (plan : Plan) (bd : Body) (ns : List ℕ) → Still (cuts.own_ready_course c n x)
    → Still (behind c n x (step.InstallHere i ∷ map (send_to plan bd) ns) (steps_course c n x (map (send_to plan bd) ns)))
behind_still c n x i plan bd ns h =
    let steps : List Step = step.InstallHere i ∷ map (send_to plan bd) ns in
    sent_still c n x plan bd ns (if_started c n steps) (if_installed c n steps)
    (subst (λ t. Still (joined c n x (if t then cuts.deciding_course c n x else Stops) (if_installed c n steps))) (sym (starts_not plan bd ns)) h)

-- ---- it installs

kept_idle : (S : Setting) (c : Cluster) (n : ℕ) (x : UpNode) (disk : NodeRecord) (a : AttemptState) (k : Call) (st : NodeState) (i : Install) (rest : Course) (replies : List Reply) (s : Scene) → IsIdle S n s.moments
    → ((rs : List Reply) → (let y : UpNode = changed c n x (Counts a k st i) in AllIdle S c n (site (Up y) (record_of y)) (under rs rest) (passing n (gives c n (site (Up x) disk) (Saves (Counts a k st i))) s)))
    → AllIdle S c n (site (Up x) disk) (under replies (Keeps (Counts a k st i) rest)) s
kept_idle S c n x disk a k st i rest [] s idle later = (idle, tt)
kept_idle S c n x disk a k st i rest (Done ∷ rs) s idle later = (tt, later rs)
kept_idle S c n x disk a k st i rest (Lost_new why ∷ rs) s idle later = (idle, tt)
kept_idle S c n x disk a k st i rest (Lost_old why ∷ rs) s idle later = (idle, tt)

-- the lines leave it no work, and none behind its install either, where it is alone
pub record Rests (S : Setting) (n : ℕ) (b : AttemptState) (i : Install) (s : Scene) : Type 0 where
  pub line : IsIdle S n s.moments
  pub alone : all_ready b ≡ true → IsIdle S n (installed n i.epoch ∷ saved n ∷ s.moments)

-- it is alone: where it has nothing to join it starts at once
alone_idle : (S : Setting) (c : Cluster) (n : ℕ) (x : UpNode) (disk : NodeRecord) (a : AttemptState) (k : Call) (i : Install) (replies : List Reply) (s : Scene) (seat : Seat) → all_ready (turn a k).after ≡ true
    → Rests S n (turn a k).after i s → AllIdle S c n (site (Up x) disk) (under replies (behind c n x (step.InstallHere i ∷ []) (cuts.counted c n x a k i [] seat))) s
alone_idle S c n x disk a k i replies s seat ready z = by_seat seat
  where
    starts : (y : UpNode) (kept : NodeRecord) (rs : List Reply) (u : Scene) → y.attempt ≡ Some (turn a k).after → IsIdle S n u.moments → AllIdle S c n (site (Up y) kept) (under rs (cuts.own_ready_course c n y)) u
    starts y kept rs u is idle = own_ready_idle S c n y kept (turn a k).after rs u is (λ none done. idle)

    goes_on : AllIdle S c n (site (Up x) disk) (under replies (behind c n x (step.InstallHere i ∷ []) (cuts.gone_on c n x a k []))) s
    goes_on = (tt, starts (going_on x a k) disk replies s refl z.line)

    by_seat : (seat : Seat) → AllIdle S c n (site (Up x) disk) (under replies (behind c n x (step.InstallHere i ∷ []) (cuts.counted c n x a k i [] seat))) s
    by_seat (Member st) = goes_on
    by_seat (Forming st) =
        let y : UpNode = changed c n x (Counts a k st i) in
        if_either (λ q. AllIdle S c n (site (Up x) disk) (under replies (behind c n x (step.InstallHere i ∷ []) q)) s) (installs_now st i) (Keeps (Counts a k st i) Stops) (cuts.gone_on c n x a k [])
        (kept_idle S c n x disk a k st i (cuts.own_ready_course c n y) replies s z.line (λ rs. starts y (record_of y) rs _ refl (z.alone ready))) goes_on

-- others are to be ready first
others_idle : (S : Setting) (c : Cluster) (n : ℕ) (x : UpNode) (disk : NodeRecord) (a : AttemptState) (k : Call) (i : Install) (replies : List Reply) (s : Scene) (seat : Seat) → all_ready (turn a k).after ≡ false
    → Rests S n (turn a k).after i s → AllIdle S c n (site (Up x) disk) (under replies (behind c n x (step.InstallHere i ∷ installs (turn a k).after) (cuts.counted c n x a k i (installs (turn a k).after) seat))) s
others_idle S c n x disk a k i replies s seat unready z = by_seat seat
  where
    b : AttemptState
    b = (turn a k).after

    waits_for : (y : UpNode) → y.attempt ≡ Some b → Still (behind c n y (step.InstallHere i ∷ installs b) (steps_course c n y (installs b)))
    waits_for y is = behind_still c n y i b.plan (body.Install (install_in b)) (silent_others b) (ready_still c n y b is unready)

    goes_on : AllIdle S c n (site (Up x) disk) (under replies (behind c n x (step.InstallHere i ∷ installs b) (cuts.gone_on c n x a k (installs b)))) s
    goes_on = still_idle S c n x disk (behind c n x (step.InstallHere i ∷ installs b) (cuts.gone_on c n x a k (installs b))) replies s (waits_for (going_on x a k) refl)

    by_seat : (seat : Seat) → AllIdle S c n (site (Up x) disk) (under replies (behind c n x (step.InstallHere i ∷ installs b) (cuts.counted c n x a k i (installs b) seat))) s
    by_seat (Member st) = goes_on
    by_seat (Forming st) =
        let y : UpNode = changed c n x (Counts a k st i) in
        let rest : Course = behind c n y (step.InstallHere i ∷ installs b) (steps_course c n y (installs b)) in
        if_either (λ q. AllIdle S c n (site (Up x) disk) (under replies (behind c n x (step.InstallHere i ∷ installs b) q)) s) (installs_now st i) (Keeps (Counts a k st i) (steps_course c n y (installs b)))
        (cuts.gone_on c n x a k (installs b)) (kept_idle S c n x disk a k st i rest replies s z.line (λ rs. still_idle S c n y (record_of y) rest rs _ (waits_for y refl))) goes_on

-- ---- its attempt takes how the seizing ended

called_idle : (S : Setting) (c : Cluster) (n : ℕ) (x : UpNode) (disk : NodeRecord) (a : AttemptState) (d : ℕ) (r : SeizeResult) (replies : List Reply) (s : Scene) → (is_seizing a.phase ≡ true → a.readies ≡ [])
    → ((i : Install) (rest : List Step) → Settles d r a (turn a (Own_seized d r)).after i rest → Rests S n (turn a (Own_seized d r)).after i s)
    → AllIdle S c n (site (Up x) disk) (under replies (cuts.called c n x a (Own_seized d r))) s
called_idle S c n x disk a d r replies s unready idle = by_steps (turn a k).steps (installs_so d r a)
  where
    k : Call
    k = Own_seized d r

    b : AttemptState
    b = (turn a k).after

    installs_idle : (i : Install) (rest : List Step) → Settles d r a b i rest → AllIdle S c n (site (Up x) disk) (under replies (behind c n x (step.InstallHere i ∷ rest) (cuts.counted c n x a k i rest x.seat))) s
    installs_idle i rest z = subst (λ q. AllIdle S c n (site (Up x) disk) (under replies (behind c n x (step.InstallHere i ∷ q) (cuts.counted c n x a k i q x.seat))) s) (sym z.sends) (by_ready (all_ready b) refl)
      where
        by_ready : (t : Bool) → all_ready b ≡ t → AllIdle S c n (site (Up x) disk) (under replies (behind c n x (step.InstallHere i ∷ installs b) (cuts.counted c n x a k i (installs b) x.seat))) s
        by_ready true ready =
            subst (λ q. AllIdle S c n (site (Up x) disk) (under replies (behind c n x (step.InstallHere i ∷ q) (cuts.counted c n x a k i q x.seat))) s) (sym (none_sent b (ready_alone b (z.readies ∙ unready z.seizing) ready)))
            (alone_idle S c n x disk a k i replies s x.seat ready (idle i rest z))
        by_ready false not_ready = others_idle S c n x disk a k i replies s x.seat not_ready (idle i rest z)

    still : (steps : List Step) → begins_install steps ≡ false → AllIdle S c n (site (Up x) disk) (under replies (behind c n x steps (cuts.gone_on c n x a k steps))) s
    still steps off =
        still_idle S c n x disk (behind c n x steps (cuts.gone_on c n x a k steps)) replies s
        (joined_still c n x (joined c n x (cuts.gone_on c n x a k steps) (if_started c n steps)) (if_installed c n steps)
        (joined_still c n x (cuts.gone_on c n x a k steps) (if_started c n steps) (tries_still (cuts.gone_on c n x a k steps) (gone_t NotTried c n x a k steps)) (λ y. if_started_still c n steps y))
        (λ y. subst (λ t. Still (if t then cuts.own_ready_course c n y else Stops)) (sym off) tt))

    by_steps : (steps : List Step) → IfInstalls d r a b steps → AllIdle S c n (site (Up x) disk) (under replies (behind c n x steps (cuts.turned_by c n x a k steps))) s
    by_steps [] h = still [] refl
    by_steps (step.InstallHere i ∷ rest) h = installs_idle i rest h
    by_steps (step.StartHere ∷ rest) h = absurd h
    by_steps (step.Send to m ∷ rest) h = still (step.Send to m ∷ rest) refl
    by_steps (step.SeizeHere e kind ∷ rest) h = still (step.SeizeHere e kind ∷ rest) refl
    by_steps (step.NeedVotes m ∷ rest) h = still (step.NeedVotes m ∷ rest) refl
    by_steps (step.Ended e ∷ rest) h = still (step.Ended e ∷ rest) refl

pub seized_idle : (S : Setting) (c : Cluster) (n : ℕ) (x : UpNode) (disk : NodeRecord) (a : AttemptState) (d : ℕ) (r : SeizeResult) (o : Option ℕ) (replies : List Reply) (s : Scene) → x.attempt ≡ Some a
    → is_choosing a.phase ≡ false → (is_seizing a.phase ≡ true → a.readies ≡ [])
    → ((i : Install) (rest : List Step) → Settles d r a (turn a (Own_seized d r)).after i rest → Rests S n (turn a (Own_seized d r)).after i s)
    → AllIdle S c n (site (Up x) disk) (under replies (cuts.seized_course c n x d r o)) s
seized_idle S c n x disk a d r None replies s is rests unready idle = tt
seized_idle S c n x disk a d r (Some m) replies s is rests unready idle =
    if_either (λ q. AllIdle S c n (site (Up x) disk) (under replies q) s) (m == n) (cuts.own_seized_course c n x d r x.attempt) (cuts.writing m (body.Seized (session_of x) d r))
    (subst (λ z. AllIdle S c n (site (Up x) disk) (under replies (cuts.own_seized_course c n x d r z)) s) (sym is) going) (tt, tt)
  where
    k : Call
    k = Own_seized d r

    going : AllIdle S c n (site (Up x) disk) (under replies (cuts.going_course c n x a k)) s
    going =
        subst
        (λ t. AllIdle S c n (site (Up x) disk)
        (under replies (if t then Acts (Goes_on a k) (cuts.called c n (going_on x a k) (turn a k).after (With_votes (votes_in c (turn a k).after))) else cuts.called c n x a k)) s) (sym (not_choosing d r a rests))
        (called_idle S c n x disk a d r replies s unready idle)
