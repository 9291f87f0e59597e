-- How a coordinator has come to its tasks, where its attempt took a call, or was given its votes.
use Rattle.std.specs.Prelude.{ℕ, ◌≡◌, ◌≢◌, ◌++◌, true, List, [], None, Some}
use Rattle.std.specs.List.{AllByRecursion}
use Rattle.std.proofs.Common.{sym, ap, subst, ◌∙◌, append-nil, inl, inr}
use Rattle.attempt_laws.proofs.Stays.{plan_stays}
use Rattle.attempt_laws.proofs.Walk.{TellsResult}
use Rattle.cl_base.specs.Seizings.{SeizeResult}
use Rattle.cmm_attempt.proofs.Basics.{same_some}
use Rattle.cmm_attempt.specs.Attempts.{AttemptState}
use Rattle.cmm_attempt.specs.Calls.{Call, IsReached, May, Own_ready, With_votes, turn}
use Rattle.cmm_attempt.specs.declared.counting.BothVotes.{BothVotes}
use Rattle.cmm_attempt.specs.declared.plan.Plan.{Plan}
use Rattle.device_queue.specs.declared.task.Task.{Task}
use Rattle.history.specs.Moment.{Moment}
use Rattle.history.specs.Queue as told
use Rattle.history.specs.Setting.{Setting}
use Rattle.node_model.specs.Attempts.{is_choosing, votes_in}
use Rattle.node_model.specs.Seats.{record_of}
use Rattle.node_model.specs.declared.cluster.Cluster.{Cluster}
use Rattle.node_model.specs.declared.node.UpNode.{UpNode}
use Rattle.run_devices.specs.queues.Laws.{Same}
use Rattle.run_outcomes.specs.phases.Laws.{is_seizing}
use Rattle.run_outcomes.specs.tasks.Entries.{EntriesSo}
use Rattle.run_outcomes.specs.tasks.Laws.{AsksTold, own_result}
use Rattle.run_outcomes.specs.tasks.Onward.{ByTurn}
use Rattle.run_outcomes.specs.tasks.Quiet.{AreQuiet}
use Rattle.run_outcomes.proofs.phases.Leading.{is_choice}
use Rattle.run_outcomes.proofs.onward.Asked.{HoldsOwn, all_asked}
use Rattle.run_outcomes.proofs.onward.Befores.{own_ready_same, seized_before, seizing_keeps, votes_given}
use Rattle.run_outcomes.proofs.onward.Messages.{Took}
use Rattle.run_outcomes.proofs.told_tasks.Led.{IsAsked, LedOn}

-- ---- what is known beside

-- Up to the mark `history` has the tasks that the node had, and adds its own there; since then no line changes them.
pub record MarkedSo (S : Setting) (c : Cluster) (n : ℕ) (b : AttemptState) (both : BothVotes) (old : List Task) (moments : List Moment) : Type 0 where
  pub seizing : is_seizing b.phase ≡ true
  pub given : b.votes ≡ Some both
  pub reached : IsReached b
  pub cluster : c.id ≡ S.header.cluster
  pub marked : List Moment
  pub newer : List Moment
  pub parts : moments ≡ newer ++ marked
  pub quiet : AreQuiet n marked newer
  pub had : List told.Task
  pub same : Same old had
  pub told_so : told.tasks_of S n marked ≡ told.with_own S n (Some b.plan.epoch) marked had

-- of the attempt before the call, and of what the call tells
pub record CallSo (a : AttemptState) (k : Call) (tasks : List Task) (marked : List Moment) : Type 0 where
  pub entries : EntriesSo a
  pub asks : AsksTold a marked
  pub told_other : (d from : ℕ) (r : SeizeResult) → TellsResult k a d from r → from ≢ a.plan.coordinator → told.seized_by a.plan.epoch d from marked ≡ Some r
  pub told_own : (d from : ℕ) (r : SeizeResult) → TellsResult k a d from r → from ≡ a.plan.coordinator → own_result d tasks ≡ Some r

-- ---- a call

pub call_led : (S : Setting) (c : Cluster) (n valid : ℕ) (a : AttemptState) (k : Call) (old : List Task) (y : UpNode) (b : AttemptState) (both : BothVotes) (moments : List Moment)
    → (g : MarkedSo S c n b both old moments) → ((v : BothVotes) → k ≡ With_votes v → ⊥) → May a k → HoldsOwn b valid → CallSo a k y.tasks g.marked → ByTurn c n valid a k old b y.tasks
    → LedOn S n y b both moments
call_led S c n valid a k old y b both moments g none_given may holds so r = record {
  given = g.given;
  marked = g.marked;
  newer = g.newer;
  parts = g.parts;
  quiet = g.quiet;
  old = old;
  new = r.new;
  had = g.had;
  tasks = r.tasks;
  same = g.same;
  told_so = g.told_so;
  asked = subst (λ z. AllByRecursion (IsAsked S n z both) r.new) (sym r.is)
      (all_asked S c n valid a k both r.new g.cluster may (subst IsReached r.is g.reached) (subst (λ (z : AttemptState). z.votes ≡ Some both) r.is g.given) (subst (λ z. HoldsOwn z valid) r.is holds) r.begun);
  comes = inl (record {
    before = a;
    call = k;
    none_given = none_given;
    seized = seized;
    entries = so.entries;
    is = r.is;
    plan = ap (λ (z : AttemptState). z.plan) r.is ∙ plan_stays a k may;
    promises = ap (λ (z : AttemptState). z.promises) r.is ∙ kept.0;
    votes = ap (λ (z : AttemptState). z.votes) r.is ∙ kept.1;
    asks = so.asks;
    told_other = so.told_other;
    told_own = so.told_own;
  });
}
  where
    seized : is_seizing a.phase ≡ true
    seized = seized_before a k none_given (subst (λ (z : AttemptState). is_seizing z.phase ≡ true) r.is g.seizing)

    kept : ((turn a k).after.promises ≡ a.promises) × ((turn a k).after.votes ≡ a.votes)
    kept = seizing_keeps a k none_given seized

-- ---- the votes

pub votes_led : (S : Setting) (c : Cluster) (n valid : ℕ) (a : AttemptState) (v : BothVotes) (old : List Task) (y : UpNode) (b : AttemptState) (both : BothVotes) (moments : List Moment)
    → (g : MarkedSo S c n b both old moments) → May a (With_votes v) → HoldsOwn b valid → ((d : ℕ) → told.asked_last a.plan.epoch d g.marked ≡ None)
    → ByTurn c n valid a (With_votes v) old b y.tasks → LedOn S n y b both moments
votes_led S c n valid a v old y b both moments g may holds none r = record {
  given = g.given;
  marked = g.marked;
  newer = g.newer;
  parts = g.parts;
  quiet = g.quiet;
  old = old;
  new = r.new;
  had = g.had;
  tasks = r.tasks;
  same = g.same;
  told_so = g.told_so;
  asked = subst (λ z. AllByRecursion (IsAsked S n z both) r.new) (sym r.is)
      (all_asked S c n valid a (With_votes v) both r.new g.cluster may (subst IsReached r.is g.reached) (subst (λ (z : AttemptState). z.votes ≡ Some both) r.is g.given) (subst (λ z. HoldsOwn z valid) r.is holds) r.begun);
  comes = inr (record {
    before = a;
    is = r.is ∙ ap (λ z. (turn a (With_votes z)).after) same;
    plan = ap (λ (z : AttemptState). z.plan) r.is ∙ plan_stays a (With_votes v) may;
    promises = ap (λ (z : AttemptState). z.promises) r.is ∙ (votes_given a v).0;
    none = none;
  });
}
  where
    same : v ≡ both
    same = same_some v both (sym (votes_given a v).1 ∙ subst (λ (z : AttemptState). z.votes ≡ Some both) r.is g.given)

-- ---- the attempt of a node took the call, or is as it was

pub no_votes : (v : BothVotes) → Own_ready ≡ With_votes v → ⊥
no_votes v e = cc

pub took_led : (S : Setting) (c : Cluster) (n : ℕ) (x : UpNode) (k : Call) (y : UpNode) (b : AttemptState) (both : BothVotes) (moments : List Moment) → (g : MarkedSo S c n b both x.tasks moments)
    → ((v : BothVotes) → k ≡ With_votes v → ⊥) → ((a : AttemptState) → May a k) → HoldsOwn b (record_of x).valid
    → ((a : AttemptState) → x.attempt ≡ Some a → is_seizing a.phase ≡ true → EntriesSo a × AsksTold a g.marked)
    → ((a : AttemptState) → x.attempt ≡ Some a → is_seizing a.phase ≡ true → CallSo a k y.tasks g.marked)
    → ((a : AttemptState) → x.attempt ≡ Some a → is_choosing (turn a k).after.phase ≡ true → (d : ℕ) → told.asked_last a.plan.epoch d g.marked ≡ None)
    → Took c n x k b y.tasks → LedOn S n y b both moments
took_led S c n x k y b both moments g none_given may holds before calls none (inl same) =
    call_led S c n (record_of x).valid b Own_ready x.tasks y b both moments g no_votes tt holds
    (record { entries = (before b same.0 g.seizing).0; asks = (before b same.0 g.seizing).1; told_other = λ d from r tells other. absurd tells; told_own = λ d from r tells own. absurd tells })
    (record { is = sym (own_ready_same b g.seizing); new = []; tasks = same.1 ∙ sym (append-nil x.tasks); begun = tt })
took_led S c n x k y b both moments g none_given may holds before calls none (inr (a, at, inl rests)) =
    call_led S c n (record_of x).valid a k x.tasks y b both moments g none_given (may a) holds
    (calls a at (seized_before a k none_given (subst (λ (z : AttemptState). is_seizing z.phase ≡ true) rests.1.is g.seizing))) rests.1
took_led S c n x k y b both moments g none_given may holds before calls none (inr (a, at, inr chooses)) =
    let t : AttemptState = (turn a k).after in
    votes_led S c n (record_of x).valid t (votes_in c t) x.tasks y b both moments g (is_choice t.phase chooses.0) holds
    (λ d. ap (λ (p : Plan). told.asked_last p.epoch d g.marked) (plan_stays a k (may a)) ∙ none a at chooses.0 d) chooses.1
