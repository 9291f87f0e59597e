-- What a call of its attempt leaves of the tasks of a node that has no attempt after it.
use Rattle.std.specs.Prelude.{ℕ, ◌≡◌, ◌++◌, true, false, List, [], ◌∷◌, Option, None, Some, is_some}
use Rattle.std.proofs.Common.{refl, sym, ap, subst, ◌∙◌, append-nil, inl, inr}
use Rattle.attempt_laws.proofs.Causes.{caused_by_call}
use Rattle.attempt_laws.proofs.Stays.{plan_stays}
use Rattle.attempt_laws.specs.Laws.{HasCause}
use Rattle.cl_base.specs.Sets.{has}
use Rattle.cmm_attempt.proofs.Basics.{false_true, if_either, none_some}
use Rattle.cmm_attempt.specs.Attempts.{AttemptState}
use Rattle.cmm_attempt.specs.Calls.{Call, May, Own_ready, With_votes, end_in, installs_in, starts_in, turn}
use Rattle.cmm_attempt.specs.declared.counting.BothVotes.{BothVotes}
use Rattle.cmm_attempt.specs.declared.phase.Phase.{Phase}
use Rattle.cmm_attempt.specs.declared.phase.Phase.TheVariants.{Over}
use Rattle.cmm_attempt.specs.declared.plan.Plan.{Plan}
use Rattle.cmm_attempt.specs.declared.step.AttemptEnd.{AttemptEnd}
use Rattle.cmm_attempt.specs.declared.step.AttemptEnd.TheVariants as end
use Rattle.cmm_attempt.specs.declared.step.Step.{Step}
use Rattle.cmm_attempt.specs.declared.step.Step.TheVariants as step
use Rattle.rgm_president.specs.Decisions as decisions
use Rattle.device_queue.specs.Queue.{joins}
use Rattle.device_queue.specs.declared.task.Task.{Task}
use Rattle.history.specs.Setting.{coordinator}
use Rattle.node_model.specs.Attempts.{installs_now, is_choosing, starts_now, votes_in}
use Rattle.node_model.specs.Configurations.{in_force}
use Rattle.node_model.specs.Deciding.{is_held_up, may_order, orders_sent, with_turn}
use Rattle.node_model.specs.declared.cluster.Cluster.{Cluster}
use Rattle.node_model.specs.declared.node.UpNode.{UpNode}
use Rattle.node_model.specs.declared.output.Output.{Output}
use Rattle.node_model.specs.declared.presidency.Presidency.{Presidency}
use Rattle.node_model.specs.declared.seat.Seat.{Seat}
use Rattle.node_model.specs.declared.seat.Seat.TheVariants.{Forming, Member}
use Rattle.refinement.specs.Courses.{Course, joined}
use Rattle.refinement.specs.Courses.Course.{Acts, Keeps, Stops}
use Rattle.refinement.specs.Cuts as cuts
use Rattle.refinement.specs.Cuts.{deciding_course, if_installed, if_started, steps_course}
use Rattle.refinement.specs.Doings.{changed, going, minded}
use Rattle.refinement.specs.Doings.Act.{Goes_on}
use Rattle.refinement.specs.Doings.Change.{Counts, Starts}
use Rattle.run_attempts.proofs.Staid.{deciding_staid}
use Rattle.run_downs.proofs.Courses.{by_test}
use Rattle.run_history.proofs.Asking.{AfterInstall, AsksIn, AsksNone, after_install, asks_in}
use Rattle.run_history.proofs.QuietCourses.{deciding}
use Rattle.wire.specs.declared.message.Install.{Install}
use Rattle.run_outcomes.specs.saves.Courses.{LeadsTo}
use Rattle.run_outcomes.specs.tasks.Onward.{GoesOut}
use Rattle.run_outcomes.specs.tasks.Own.{CallSo, OwnsAfter}
use Rattle.run_outcomes.proofs.counts.Given.{call_ends_so}
use Rattle.run_outcomes.proofs.free.Presidents.{deciding_free}
use Rattle.run_outcomes.proofs.onward.Beside.{given_still}
use Rattle.run_outcomes.proofs.onward.Given.{Behind, out_behind, out_by, out_joined, out_leads}
use Rattle.run_outcomes.proofs.own_tasks.Calls.{before_none, turn_owns}
use Rattle.run_outcomes.proofs.own_tasks.Courses.{begun_for, begun_none, is_early}
use Rattle.run_outcomes.proofs.phases.Leading.{is_choice}
use Rattle.run_outcomes.proofs.saves.Rests.{leads_joined}
use Rattle.run_outcomes.proofs.rests.Drops.{DropsSo, call_drops, is_dropping, own_ready_drops}
use Rattle.run_outcomes.proofs.rests.Installed.{counts_installed, if_started_installed, own_ready_installed, started_by, steps_installed}
use Rattle.run_outcomes.proofs.rests.Kept.{AreKept, Stays, kept_out, staid_kept}
use Rattle.run_outcomes.proofs.rests.Left.{IsInstalled, IsLeft, alive_left, left_behind, left_more}
use Rattle.run_outcomes.proofs.rests.Turns.{alive_leads, calm_kept, ended_out}

-- ---- the steps of a turn

-- C is why it ends with tasks queued
pub record StepsSo (C : Type 0) (ts : List Task) (phase : Phase) (steps : List Step) : Type 0 where
  pub asks : AsksIn phase steps
  pub after : AfterInstall steps
  pub over : (e : AttemptEnd) → end_in steps ≡ Some e → phase ≡ Over
  pub alone : (e : AttemptEnd) → end_in steps ≡ Some e → installs_in steps ≡ None
  pub leaves : (e : AttemptEnd) → end_in steps ≡ Some e → is_dropping e ≡ false → C
  pub drops : DropsSo ts steps

asks_over : (p : Phase) (steps : List Step) → p ≡ Over → AsksIn p steps → AsksNone steps
asks_over p steps is h = subst (λ q. AsksIn q steps) is h

pub steps_so : (C : Type 0) (ts : List Task) (a : AttemptState) (k : Call) → ((e : AttemptEnd) → end_in (turn a k).steps ≡ Some e → is_dropping e ≡ false → C) → DropsSo ts (turn a k).steps
    → StepsSo C ts (turn a k).after.phase (turn a k).steps
steps_so C ts a k leaves drops = record {
  asks = asks_in a k;
  after = after_install a k;
  over = λ e is. (caused_by_call a k).over e (inl is);
  alone = λ e is. (call_ends_so a k e is).installs;
  leaves = leaves;
  drops = drops;
}

votes_none : (a : AttemptState) (both : BothVotes) (e : AttemptEnd) → HasCause a (With_votes both) (turn a (With_votes both)).after e → is_dropping e ≡ false → ⊥
votes_none a both (end.Superseded q) cause leaves = cause
votes_none a both (end.Silent m) cause leaves = cause
votes_none a both (end.Votes have need lacking) cause leaves = false_true (sym leaves)
votes_none a both (end.Foreign m) cause leaves = false_true (sym leaves)
votes_none a both (end.Excluded m) cause leaves = false_true (sym leaves)

ready_none : (a : AttemptState) (e : AttemptEnd) → HasCause a Own_ready (turn a Own_ready).after e → is_dropping e ≡ false → ⊥
ready_none a (end.Superseded q) cause leaves = cause
ready_none a (end.Silent m) cause leaves = cause
ready_none a (end.Votes have need lacking) cause leaves = false_true (sym leaves)
ready_none a (end.Foreign m) cause leaves = false_true (sym leaves)
ready_none a (end.Excluded m) cause leaves = false_true (sym leaves)

pub ready_so : (C : Type 0) (ts : List Task) (a : AttemptState) → StepsSo C ts (turn a Own_ready).after.phase (turn a Own_ready).steps
ready_so C ts a = steps_so C ts a Own_ready (λ e is leaves. absurd (ready_none a e ((caused_by_call a Own_ready).end e is) leaves)) (own_ready_drops ts a)

-- ---- a turn

deciding_left : (n : ℕ) (c : Cluster) (C : Type 0) (ts : List Task) (y : UpNode) (all : List Output) (o : Option Presidency) → IsLeft n C ts y all → GoesOut c n (IsLeft n C ts) y all (cuts.deciding_by_course c n y o)
deciding_left n c C ts y all None h = h
deciding_left n c C ts y all (Some p) h =
    let t : decisions.Turn = decisions.decision (in_force c y) y.second (is_held_up p) p.groups in
    let os : List Output = orders_sent n t.orders in
    if_either (GoesOut c n (IsLeft n C ts) y all) (may_order p.groups) (cuts.decided_course n y p t) Stops
    (λ so so2. left_more n C ts y (minded y y.requests (Some (with_turn n p t))) (all ++ os) [] refl refl refl tt (left_more n C ts y y all os refl refl refl (given_still n os so) h)) h

deciding_kept : (c : Cluster) (n : ℕ) (steps : List Step) (y : UpNode) → AreKept (if_started c n steps y)
deciding_kept c n steps y = if_either AreKept (starts_in steps) (deciding_course c n y) Stops (staid_kept (deciding_course c n y) (deciding c n y) (deciding_staid c n y) (deciding_free c n y)) tt

installed_left : (c : Cluster) (n : ℕ) (C : Type 0) (ts : List Task) (x : UpNode) (os : List Output) (l : Course) → LeadsTo c n IsInstalled x l → GoesOut c n (IsLeft n C ts) x os l
installed_left c n C ts x os l h = out_leads c n IsInstalled (IsLeft n C ts) x os l (λ y more i none. inr (inr i)) h

module _ (c : Cluster) (n : ℕ) (C : Type 0) (a : AttemptState) (k : Call) (own : coordinator (turn a k).after.plan.epoch ≡ n) where
  -- its steps, where neither installs or starts
  gone_left : (x : UpNode) (steps : List Step) → ((e : AttemptEnd) → end_in steps ≡ Some e → AsksNone steps)
      → ((e : AttemptEnd) → end_in steps ≡ Some e → is_dropping e ≡ false → C) → DropsSo x.tasks steps → GoesOut c n (IsLeft n C x.tasks) x [] (cuts.gone_on c n x a k steps)
  gone_left x steps asks leaves drops = λ so. by_end (end_in steps) refl
    where
      t : AttemptState
      t = (turn a k).after

      y : UpNode
      y = going x a k

      by_end : (o : Option AttemptEnd) → end_in steps ≡ o → GoesOut c n (IsLeft n C x.tasks) y [] (steps_course c n y steps)
      by_end None is =
          out_leads c n (λ z. z.attempt ≡ Some t) (IsLeft n C x.tasks) y [] (steps_course c n y steps) (λ z more at. alive_left n C x.tasks z more t at) (alive_leads c n y t steps refl is)
      by_end (Some e) is = ended_out c n C y [] t e steps refl own (asks e is) is (leaves e is) (drops e is) tt

  first_left : (x : UpNode) (steps : List Step) → StepsSo C x.tasks (turn a k).after.phase steps → GoesOut c n (IsLeft n C x.tasks) x [] (cuts.gone_on c n x a k steps)
  first_left x steps h = gone_left x steps (λ e is. asks_over (turn a k).after.phase steps (h.over e is) h.asks) h.leaves h.drops

  -- the first step starts
  started_left : (x : UpNode) (rest : List Step) (seat : Seat) → StepsSo C x.tasks (turn a k).after.phase (step.StartHere ∷ rest) → GoesOut c n (IsLeft n C x.tasks) x [] (cuts.started c n x a k rest seat)
  started_left x rest (Member s) h = gone_left x rest (λ e is. asks_over (turn a k).after.phase (step.StartHere ∷ rest) (h.over e is) h.asks) h.leaves h.drops
  started_left x rest (Forming s) h =
      let starts : Course = cuts.kept_if (is_some s.saved.entries.pending) (Starts a k s) (steps_course c n (changed c n x (Starts a k s)) rest) in
      by_test (GoesOut c n (IsLeft n C x.tasks) x []) (starts_now s (turn a k).after.plan.epoch) starts (cuts.gone_on c n x a k rest)
      (λ now. installed_left c n C x.tasks x [] starts (started_by c n x a k rest s now)) (λ no. gone_left x rest (λ e is. asks_over (turn a k).after.phase (step.StartHere ∷ rest) (h.over e is) h.asks) h.leaves h.drops)

  -- the first step installs
  counted_left : (x : UpNode) (i : Install) (rest : List Step) (seat : Seat) → StepsSo C x.tasks (turn a k).after.phase (step.InstallHere i ∷ rest) → GoesOut c n (IsLeft n C x.tasks) x [] (cuts.counted c n x a k i rest seat)
  counted_left x i rest (Member s) h = gone_left x rest (λ e is. h.after) h.leaves h.drops
  counted_left x i rest (Forming s) h =
      by_test (GoesOut c n (IsLeft n C x.tasks) x []) (installs_now s i) (Keeps (Counts a k s i) (steps_course c n (changed c n x (Counts a k s i)) rest)) (cuts.gone_on c n x a k rest)
      (λ now. installed_left c n C x.tasks x [] (Keeps (Counts a k s i) (steps_course c n (changed c n x (Counts a k s i)) rest)) (steps_installed c n (changed c n x (Counts a k s i)) rest (counts_installed c n x a k s i now)))
      (λ no. gone_left x rest (λ e is. h.after) h.leaves h.drops)

  turned_left : (x : UpNode) (steps : List Step) → StepsSo C x.tasks (turn a k).after.phase steps → GoesOut c n (IsLeft n C x.tasks) x [] (cuts.turned_by c n x a k steps)
  turned_left x [] h = first_left x [] h
  turned_left x (step.InstallHere i ∷ rest) h = counted_left x i rest x.seat h
  turned_left x (step.StartHere ∷ rest) h = started_left x rest x.seat h
  turned_left x (step.Send to m ∷ rest) h = first_left x (step.Send to m ∷ rest) h
  turned_left x (step.SeizeHere d kind ∷ rest) h = first_left x (step.SeizeHere d kind ∷ rest) h
  turned_left x (step.NeedVotes m ∷ rest) h = first_left x (step.NeedVotes m ∷ rest) h
  turned_left x (step.Ended e ∷ rest) h = first_left x (step.Ended e ∷ rest) h

  pub turned_all_left : (x : UpNode) (steps : List Step) → StepsSo C x.tasks (turn a k).after.phase steps
      → GoesOut c n (IsLeft n C x.tasks) x [] (joined c n x (cuts.turned_by c n x a k steps) (if_started c n steps))
  turned_all_left x steps h =
      out_joined c n (IsLeft n C x.tasks) (IsLeft n C x.tasks) x [] (cuts.turned_by c n x a k steps) (if_started c n steps) (turned_left x steps h)
      (λ y more l. if_either (GoesOut c n (IsLeft n C x.tasks) y more) (starts_in steps) (deciding_course c n y) Stops (deciding_left n c C x.tasks y more y.presidency l) l)

-- ---- a call

-- where its install is not due, the attempt goes on, and it may be ready
module _ (c : Cluster) (n : ℕ) (C : Type 0) (a : AttemptState) (k : Call) (own : coordinator (turn a k).after.plan.epoch ≡ n) where
  ready_left : (x z : UpNode) (more : List Output) → Stays n (going x a k) z more → GoesOut c n (IsLeft n C x.tasks) z more (cuts.own_ready_course c n z)
  ready_left x z more s =
      if_either (GoesOut c n (IsLeft n C x.tasks) z more) (joins z.tasks) Stops (cuts.readied_course c n z z.attempt) (alive_left n C x.tasks z more t s.0)
      (subst (λ o. GoesOut c n (IsLeft n C x.tasks) z more (cuts.readied_course c n z o)) (sym s.0)
      (out_by c n (Behind more (IsLeft n C z.tasks)) (IsLeft n C x.tasks) z more (cuts.turned_all c n z t Own_ready) by_behind
      (subst (λ all. GoesOut c n (Behind more (IsLeft n C z.tasks)) z all (cuts.turned_all c n z t Own_ready)) (append-nil more)
      (out_behind c n (IsLeft n C z.tasks) z more [] (cuts.turned_all c n z t Own_ready)
      (turned_all_left c n C t Own_ready (ap (λ (p : Plan). coordinator p.epoch) (plan_stays t Own_ready tt) ∙ own) z (turn t Own_ready).steps (ready_so C z.tasks t))))))
    where
      t : AttemptState
      t = (turn a k).after

      by_behind : (y : UpNode) (all : List Output) → Behind more (IsLeft n C z.tasks) y all → IsLeft n C x.tasks y all
      by_behind y all h = subst (IsLeft n C x.tasks y) (sym h.1) (left_behind n C x.tasks y more h.0 s.2 (subst (λ ts. IsLeft n C ts y h.0) s.1 h.2))

  no_end : (i : Install) (rest : List Step) (p : Phase) (ts : List Task) → StepsSo C ts p (step.InstallHere i ∷ rest) → end_in rest ≡ None
  no_end i rest p ts h = by_end (end_in rest) refl
    where
      by_end : (o : Option AttemptEnd) → end_in rest ≡ o → o ≡ None
      by_end None is = refl
      by_end (Some e) is = absurd (none_some i (sym (h.alone e is)))

  abbrev counted_all : UpNode → Install → List Step → Course → Course
  counted_all x i rest first = joined c n x (joined c n x first (if_started c n (step.InstallHere i ∷ rest))) (λ y. cuts.own_ready_course c n y)

  held_left : (x : UpNode) (i : Install) (rest : List Step) → StepsSo C x.tasks (turn a k).after.phase (step.InstallHere i ∷ rest) → GoesOut c n (IsLeft n C x.tasks) x [] (counted_all x i rest (cuts.gone_on c n x a k rest))
  held_left x i rest h =
      let y : UpNode = going x a k in
      out_joined c n (Stays n y) (IsLeft n C x.tasks) x [] (joined c n x (cuts.gone_on c n x a k rest) (if_started c n (step.InstallHere i ∷ rest))) (λ z. cuts.own_ready_course c n z)
      (out_joined c n (Stays n y) (Stays n y) x [] (cuts.gone_on c n x a k rest) (if_started c n (step.InstallHere i ∷ rest))
      (λ so. kept_out c n y y [] (steps_course c n y rest) (calm_kept c n y rest h.after (no_end i rest (turn a k).after.phase x.tasks h)) (refl, refl, tt))
      (λ z more s. kept_out c n y z more (if_started c n (step.InstallHere i ∷ rest) z) (deciding_kept c n (step.InstallHere i ∷ rest) z) s))
      (λ z more s. ready_left x z more s)

  counts_left : (x : UpNode) (i : Install) (rest : List Step) (seat : Seat) → StepsSo C x.tasks (turn a k).after.phase (step.InstallHere i ∷ rest)
      → GoesOut c n (IsLeft n C x.tasks) x [] (counted_all x i rest (cuts.counted c n x a k i rest seat))
  counts_left x i rest (Member s) h = held_left x i rest h
  counts_left x i rest (Forming s) h =
      let y : UpNode = changed c n x (Counts a k s i) in
      by_test (λ first. GoesOut c n (IsLeft n C x.tasks) x [] (counted_all x i rest first)) (installs_now s i) (Keeps (Counts a k s i) (steps_course c n y rest)) (cuts.gone_on c n x a k rest)
      (λ now. installed_left c n C x.tasks x [] (counted_all x i rest (Keeps (Counts a k s i) (steps_course c n y rest)))
      (leads_joined c n IsInstalled IsInstalled x (joined c n x (Keeps (Counts a k s i) (steps_course c n y rest)) (if_started c n (step.InstallHere i ∷ rest))) (λ z. cuts.own_ready_course c n z)
      (leads_joined c n IsInstalled IsInstalled x (Keeps (Counts a k s i) (steps_course c n y rest)) (if_started c n (step.InstallHere i ∷ rest)) (steps_installed c n y rest (counts_installed c n x a k s i now))
      (λ z is. if_started_installed c n z (step.InstallHere i ∷ rest) is)) (λ z is. own_ready_installed c n z is)))
      (λ no. held_left x i rest h)

  others_left : (x : UpNode) (steps : List Step) → StepsSo C x.tasks (turn a k).after.phase steps → GoesOut c n (IsLeft n C x.tasks) x [] (joined c n x (joined c n x (cuts.turned_by c n x a k steps) (if_started c n steps)) (λ y. Stops))
  others_left x steps h =
      out_joined c n (IsLeft n C x.tasks) (IsLeft n C x.tasks) x [] (joined c n x (cuts.turned_by c n x a k steps) (if_started c n steps)) (λ y. Stops) (turned_all_left c n C a k own x steps h) (λ y more l. l)

  calls_left : (x : UpNode) (steps : List Step) → StepsSo C x.tasks (turn a k).after.phase steps
      → GoesOut c n (IsLeft n C x.tasks) x [] (joined c n x (joined c n x (cuts.turned_by c n x a k steps) (if_started c n steps)) (if_installed c n steps))
  calls_left x [] h = others_left x [] h
  calls_left x (step.InstallHere i ∷ rest) h = counts_left x i rest x.seat h
  calls_left x (step.StartHere ∷ rest) h = others_left x (step.StartHere ∷ rest) h
  calls_left x (step.Send to m ∷ rest) h = others_left x (step.Send to m ∷ rest) h
  calls_left x (step.SeizeHere d kind ∷ rest) h = others_left x (step.SeizeHere d kind ∷ rest) h
  calls_left x (step.NeedVotes m ∷ rest) h = others_left x (step.NeedVotes m ∷ rest) h
  calls_left x (step.Ended e ∷ rest) h = others_left x (step.Ended e ∷ rest) h

pub called_left : (c : Cluster) (n : ℕ) (C : Type 0) (x : UpNode) (a : AttemptState) (k : Call) → coordinator (turn a k).after.plan.epoch ≡ n → StepsSo C x.tasks (turn a k).after.phase (turn a k).steps
    → GoesOut c n (IsLeft n C x.tasks) x [] (cuts.called c n x a k)
called_left c n C x a k own h = calls_left c n C a k own x (turn a k).steps h

-- an attempt that was given its votes, where the node has no task
pub votes_left : (c : Cluster) (n : ℕ) (C : Type 0) (x : UpNode) (a : AttemptState) → coordinator a.plan.epoch ≡ n → May a (With_votes (votes_in c a)) → x.tasks ≡ []
    → GoesOut c n (IsLeft n C x.tasks) x [] (cuts.called c n x a (With_votes (votes_in c a)))
votes_left c n C x a own may none =
    let k : Call = With_votes (votes_in c a) in
    called_left c n C x a k (ap (λ (p : Plan). coordinator p.epoch) (plan_stays a k may) ∙ own)
    (steps_so C x.tasks a k (λ e is leaves. absurd (votes_none a (votes_in c a) e ((caused_by_call a k).end e is) leaves)) (call_drops n x.tasks a k none))

pub going_left : (c : Cluster) (n : ℕ) (C : Type 0) (x : UpNode) (a : AttemptState) (k : Call) → coordinator a.plan.epoch ≡ n → May a k → CallSo n x.tasks a k
    → ((e : AttemptEnd) → HasCause a k (turn a k).after e → is_dropping e ≡ false → C) → GoesOut c n (IsLeft n C x.tasks) x [] (cuts.going_course c n x a k)
going_left c n C x a k own may so leaves =
    by_test (GoesOut c n (IsLeft n C x.tasks) x []) (is_choosing t.phase) (Acts (Goes_on a k) (cuts.called c n (going x a k) t (With_votes (votes_in c t)))) (cuts.called c n x a k)
    (λ chooses so2. votes_left c n C (going x a k) t mine (is_choice t.phase chooses) (none chooses))
    (λ rests. called_left c n C x a k mine (steps_so C x.tasks a k (λ e is no. leaves e ((caused_by_call a k).end e is) no) (call_drops n x.tasks a k so)))
  where
    t : AttemptState
    t = (turn a k).after

    mine : coordinator t.plan.epoch ≡ n
    mine = ap (λ (p : Plan). coordinator p.epoch) (plan_stays a k may) ∙ own

    after : OwnsAfter n (begun_for c n x t) x.tasks (turn a k)
    after = turn_owns n (begun_for c n x t) (begun_none c n x t) x.tasks a k so

    none : is_choosing t.phase ≡ true → x.tasks ≡ []
    none chooses = before_none (has t.plan.members n) (begun_for c n x t) (turn a k).steps x.tasks (after.owns.idle (is_early t.phase chooses))
