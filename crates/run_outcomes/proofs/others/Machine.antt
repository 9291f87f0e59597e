-- The seizings without votes that a node has, in the machine of the whole cluster: each that goes on was asked for, and each is of the session.
use Rattle.std.specs.Prelude.{ℕ, ◌≡◌, ◌≤◌, ◌<◌, ◌==◌, ◌&&◌, ◌⊎◌, true, false, List, [], ◌∷◌}
use Rattle.std.specs.List.{AllByRecursion}
use Rattle.std.proofs.Common.{refl, sym, ap, subst, ◌∙◌, inl, inr, arith}
use Rattle.cl_base.specs.Seizings.{SeizeResult}
use Rattle.cluster_machine.specs.Cluster.{Cluster as Whole}
use Rattle.cluster_ties.specs.Ties.{NodeAt, SeizingAt, TaskAt, WorkAt}
use Rattle.cmm_attempt.proofs.Basics.{and_cases, false_true, or_cases, same_number}
use Rattle.cmm_member.specs.Records.{NodeRecord}
use Rattle.device_machine.proofs.Invariant.{Inv}
use Rattle.device_machine.specs.Phase.{Phase, rank}
use Rattle.device_machine.specs.Sharing.{Sharing}
use Rattle.device_queue.specs.Tasks.{is_over}
use Rattle.device_queue.specs.declared.task.Task.{Task}
use Rattle.device_queue.specs.declared.task.Work.{Work}
use Rattle.device_queue.specs.declared.task.Work.TheVariants.{Joining as Joins, Seizing as Seizes}
use Rattle.device_ties.specs.Tasks.{SeizingTied, StepTied}
use Rattle.node_model.specs.declared.cluster.Cluster.{Cluster}
use Rattle.node_model.specs.declared.node.Node.{Node}
use Rattle.node_model.specs.declared.node.Node.TheVariants.{Down, Up}
use Rattle.run_history.proofs.ContactStays.{or_left, or_right}
use Rattle.run_history.proofs.Heard.{and_both}
use Rattle.run_seizings.proofs.Promising.{same_so}
use Rattle.seize.specs.Seizing.{SeizeState}
use Rattle.seize.specs.Shows.{is_vote}
use Rattle.seize.specs.declared.kind.SeizeKind.{SeizeKind}
use Rattle.seize.specs.declared.kind.SeizeKind.TheVariants.{Plain, Vote}
use Rattle.seize.specs.declared.step.SeizeStep.{SeizeStep}
use Rattle.seize.specs.declared.step.SeizeStep.TheVariants as step
use Rattle.run_outcomes.specs.tasks.Laws.{is_plain, is_plain_in, seizes_plainly}
use Rattle.run_outcomes.proofs.others.Tasks.{has_ended, has_plain, is_ended_of, is_plain_of, plain_for}
use Rattle.run_outcomes.proofs.others.Turns.{tasks_in}
use Rattle.run_outcomes.proofs.others.Votes.{Plainly}

-- ---- a seizing that goes on was asked for

not_vote : (kind : SeizeKind) → is_plain kind ≡ true → is_vote kind ≡ false
not_vote Plain is = refl
not_vote Vote is = absurd (false_true is)

running : (c n : ℕ) (s : Sharing) (t : SeizeState) (p : Phase) → Inv s → SeizingTied c n s t → is_plain t.kind ≡ true → (s.node n).phase ≡ p → 0 < rank p → rank p ≤ 9 → Plainly s n t.epoch
running c n s t p i tied plain at low high =
    let some : 0 < rank (s.node n).phase = subst (λ q. 0 < rank q) (sym at) low in
    let few : rank (s.node n).phase ≤ 9 = subst (λ q. rank q ≤ 9) (sym at) high in
    record {
      asked = subst (λ e. (s.attempt e).asked n ≡ true) tied.session ((i.node n).asked some few);
      plain = subst (λ e. (s.attempt e).quorum ≡ false) tied.session ((i.node n).kind some few ∙ (tied.kind ∙ not_vote t.kind plain));
    }

over_so : (t : SeizeState) (r : SeizeResult) → t.step ≡ step.Ended r → is_over (record { device = 0; work = Seizes t }) ≡ true
over_so t r is = ap (λ z. is_over (record { device = 0; work = Seizes (record t { step = z }) })) is

step_asked : (c n : ℕ) (s : Sharing) (t : SeizeState) (z : SeizeStep) → Inv s → t.step ≡ z → SeizingAt c n s t z → is_plain t.kind ≡ true → Plainly s n t.epoch ⊎ (is_over (record { device = 0; work = Seizes t }) ≡ true)
step_asked c n s t (step.Ended r) i is at plain = inr (over_so t r is)
step_asked c n s t step.Check i is at plain = inl (running c n s t Phase.Asked i at.0 plain (subst (λ z. StepTied t.kind t.cluster z (s.node n)) is at.0.step).0 (omega arith) (omega arith))
step_asked c n s t step.Register i is at plain = inl (by_save (subst (λ z. StepTied t.kind t.cluster z (s.node n)) is at.0.step).0)
  where
    by_save : ((s.node n).phase ≡ Phase.Asked) ⊎ (((s.node n).phase ≡ Phase.Untrusted) × ((s.node n).valid ≡ false)) → Plainly s n t.epoch
    by_save (inl k) = running c n s t Phase.Asked i at.0 plain k (omega arith) (omega arith)
    by_save (inr k) = running c n s t Phase.Untrusted i at.0 plain k.0 (omega arith) (omega arith)
step_asked c n s t step.ReadWord i is at plain = inl (running c n s t Phase.Keyed i at.0 plain (subst (λ z. StepTied t.kind t.cluster z (s.node n)) is at.0.step) (omega arith) (omega arith))
step_asked c n s t (step.Swap expected) i is at plain = inl (running c n s t Phase.Swapping i at.0 plain (subst (λ z. StepTied t.kind t.cluster z (s.node n)) is at.0.step).0 (omega arith) (omega arith))
step_asked c n s t step.Reserve i is at plain = inl (running c n s t Phase.Marked i at.0 plain (subst (λ z. StepTied t.kind t.cluster z (s.node n)) is at.0.step) (omega arith) (omega arith))
step_asked c n s t (step.ReadKeys reading) i is at plain = inl (running c n s t Phase.Reserved i at.0 plain (subst (λ z. StepTied t.kind t.cluster z (s.node n)) is at.0.step) (omega arith) (omega arith))
step_asked c n s t (step.Preempt victim reading) i is at plain =
    inl (running c n s t Phase.Preempting i at.0 plain (subst (λ z. StepTied t.kind t.cluster z (s.node n)) is at.0.step).0 (omega arith) (omega arith))
step_asked c n s t (step.Confirm keys) i is at plain = inl (running c n s t Phase.Cleared i at.0 plain (subst (λ z. StepTied t.kind t.cluster z (s.node n)) is at.0.step) (omega arith) (omega arith))

task_asked : (c : Cluster) (W : Whole) (n : ℕ) (t : Task) (d e : ℕ) → ((k : ℕ) → Inv (W.device k)) → TaskAt c W n t → is_plain_of d e t ≡ true → Plainly (W.device d) n e ⊎ (is_ended_of d e t ≡ true)
task_asked c W n t d e i at is =
    let two : ((t.device == d) ≡ true) × (plain_for e t.work ≡ true) = and_cases (t.device == d) (plain_for e t.work) is in
    by_work t.work refl (subst (λ k. WorkAt c.id n (W.device k) t.work) (same_number t.device d two.0) at) two.1
  where
    by_work : (w : Work) → t.work ≡ w → WorkAt c.id n (W.device d) w → plain_for e w ≡ true → Plainly (W.device d) n e ⊎ (is_ended_of d e t ≡ true)
    by_work (Joins j) same k plain = absurd (false_true plain)
    by_work (Seizes s) same k plain =
        let kind : (is_plain s.kind ≡ true) × ((s.epoch == e) ≡ true) = and_cases (is_plain s.kind) (s.epoch == e) plain in
        by_step (step_asked c.id n (W.device d) s s.step (i d) refl k kind.0)
      where
        by_step : Plainly (W.device d) n s.epoch ⊎ (is_over (record { device = 0; work = Seizes s }) ≡ true) → Plainly (W.device d) n e ⊎ (is_ended_of d e t ≡ true)
        by_step (inl z) = inl (subst (Plainly (W.device d) n) (same_number s.epoch e (and_cases (is_plain s.kind) (s.epoch == e) plain).1) z)
        by_step (inr z) = inr (and_both (is_plain_of d e t) (is_over t) is (ap (λ w. is_over (record { device = 0; work = w })) same ∙ z))

tasks_asked : (c : Cluster) (W : Whole) (n d e : ℕ) (ts : List Task) → ((k : ℕ) → Inv (W.device k)) → AllByRecursion (TaskAt c W n) ts → has_plain d e ts ≡ true → Plainly (W.device d) n e ⊎ (has_ended d e ts ≡ true)
tasks_asked c W n d e [] i at is = absurd (false_true is)
tasks_asked c W n d e (t ∷ ts) i at is = by_side (or_cases (is_plain_of d e t) (has_plain d e ts) is) (λ rest. tasks_asked c W n d e ts i at.1 rest)
  where
    first : Plainly (W.device d) n e ⊎ (is_ended_of d e t ≡ true) → Plainly (W.device d) n e ⊎ (has_ended d e (t ∷ ts) ≡ true)
    first (inl z) = inl z
    first (inr z) = inr (or_left (is_ended_of d e t) (has_ended d e ts) z)

    later : Plainly (W.device d) n e ⊎ (has_ended d e ts ≡ true) → Plainly (W.device d) n e ⊎ (has_ended d e (t ∷ ts) ≡ true)
    later (inl z) = inl z
    later (inr z) = inr (or_right (is_ended_of d e t) (has_ended d e ts) z)

    by_side : (is_plain_of d e t ≡ true) ⊎ (has_plain d e ts ≡ true) → (has_plain d e ts ≡ true → Plainly (W.device d) n e ⊎ (has_ended d e ts ≡ true))
        → Plainly (W.device d) n e ⊎ (has_ended d e (t ∷ ts) ≡ true)
    by_side (inl here) rest = first (task_asked c W n t d e i at.0 here)
    by_side (inr there) rest = later (rest there)

-- ---- of a node

-- each of its seizings without votes was asked for
abbrev pub PlainIn : Whole → ℕ → List Task → Type 0
PlainIn W n ts = (d e : ℕ) → has_plain d e ts ≡ true → Plainly (W.device d) n e

pub node_asked : (c : Cluster) (W : Whole) (n d e : ℕ) (disk : NodeRecord) (node : Node) → ((k : ℕ) → Inv (W.device k)) → NodeAt c W n disk node → has_plain d e (tasks_in node) ≡ true
    → Plainly (W.device d) n e ⊎ (has_ended d e (tasks_in node) ≡ true)
node_asked c W n d e disk Down i at is = absurd (false_true is)
node_asked c W n d e disk (Up x) i at is = tasks_asked c W n d e x.tasks i at.tasks is

-- ---- what the node has is of its session

work_session : (c n : ℕ) (s : Sharing) (t : SeizeState) (z : SeizeStep) → SeizingAt c n s t z → (s.node n).session ≡ t.epoch
work_session c n s t (step.Ended r) at = at.1
work_session c n s t step.Check at = at.0.session
work_session c n s t step.Register at = at.0.session
work_session c n s t step.ReadWord at = at.0.session
work_session c n s t (step.Swap expected) at = at.0.session
work_session c n s t step.Reserve at = at.0.session
work_session c n s t (step.ReadKeys reading) at = at.0.session
work_session c n s t (step.Preempt victim reading) at = at.0.session
work_session c n s t (step.Confirm keys) at = at.0.session

task_session : (c : Cluster) (W : Whole) (n d : ℕ) (t : Task) → TaskAt c W n t → ((t.device == d) && is_plain_in t.work) ≡ true → is_plain_of d ((W.device d).node n).session t ≡ true
task_session c W n d t at is =
    let two : ((t.device == d) ≡ true) × (is_plain_in t.work ≡ true) = and_cases (t.device == d) (is_plain_in t.work) is in
    and_both (t.device == d) (plain_for ((W.device d).node n).session t.work) two.0 (by_work t.work (subst (λ k. WorkAt c.id n (W.device k) t.work) (same_number t.device d two.0) at) two.1)
  where
    by_work : (w : Work) → WorkAt c.id n (W.device d) w → is_plain_in w ≡ true → plain_for ((W.device d).node n).session w ≡ true
    by_work (Joins j) k plain = absurd (false_true plain)
    by_work (Seizes s) k plain = and_both (is_plain s.kind) (s.epoch == ((W.device d).node n).session) plain (same_so s.epoch ((W.device d).node n).session (sym (work_session c.id n (W.device d) s s.step k)))

pub tasks_session : (c : Cluster) (W : Whole) (n d : ℕ) (ts : List Task) → AllByRecursion (TaskAt c W n) ts → seizes_plainly d ts ≡ true → has_plain d ((W.device d).node n).session ts ≡ true
tasks_session c W n d [] at is = absurd (false_true is)
tasks_session c W n d (t ∷ ts) at is = by_side (or_cases ((t.device == d) && is_plain_in t.work) (seizes_plainly d ts) is) (λ rest. tasks_session c W n d ts at.1 rest)
  where
    e : ℕ
    e = ((W.device d).node n).session

    by_side : (((t.device == d) && is_plain_in t.work) ≡ true) ⊎ (seizes_plainly d ts ≡ true) → (seizes_plainly d ts ≡ true → has_plain d e ts ≡ true) → has_plain d e (t ∷ ts) ≡ true
    by_side (inl here) rest = or_left (is_plain_of d e t) (has_plain d e ts) (task_session c W n d t at.0 here)
    by_side (inr there) rest = or_right (is_plain_of d e t) (has_plain d e ts) (rest there)
