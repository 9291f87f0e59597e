-- Each small step of a node leaves the own Promise of a coordinator such that it shows as valid what the record has as valid.
use Rattle.std.specs.Prelude.{ℕ, ◌≡◌, ◌⊎◌, Bool, true, false, List, None, Some}
use Rattle.std.proofs.Common.{refl, sym, subst, ◌∙◌, inl, inr}
use Rattle.attempt_laws.specs.Staying.{IsBefore}
use Rattle.cl_base.specs.Sets.{has}
use Rattle.cl_base.specs.declared.header.Header.{Header}
use Rattle.cmm_attempt.proofs.Basics.{false_true, if_either, same_some}
use Rattle.cmm_attempt.specs.Attempts.{AttemptState}
use Rattle.cmm_attempt.specs.Calls.{Call, May as MayCall, turn}
use Rattle.cmm_attempt.specs.declared.step.Step.TheVariants.{SeizeHere}
use Rattle.cmm_member.specs.Records.{NodeRecord}
use Rattle.device_queue.specs.Queue.{after_answer, after_seize}
use Rattle.device_queue.specs.declared.task.Task.{Task}
use Rattle.node_model.specs.Seats.{record_of, session_of}
use Rattle.node_model.specs.declared.cluster.Cluster.{Cluster}
use Rattle.node_model.specs.declared.node.Node.{Node}
use Rattle.node_model.specs.declared.node.Node.TheVariants.{Down, Up}
use Rattle.node_model.specs.declared.node.UpNode.{UpNode}
use Rattle.refinement.proofs.Attempts.{may_be_called, reached_more}
use Rattle.refinement.specs.Doings.{Act, Doing, acted, effect, site}
use Rattle.refinement.specs.Doings.Act.{Accepts, Ends, Goes_on, Makes, Queues, Takes}
use Rattle.refinement.specs.Doings.Doing.{Comes_up, Does, Forgets, Goes_down, Loses, Saves}
use Rattle.refinement.specs.Guards.{May, MayAct}
use Rattle.refinement.specs.Runs.{Letter}
use Rattle.refinement.specs.Ties.{Delivered}
use Rattle.run_history.specs.Guards.{Hand, InHand, IsStep, hand_after}
use Rattle.run_seizings.proofs.Acts.{ActMay}
use Rattle.run_seizings.proofs.Asked.{DoingMay}
use Rattle.seize.specs.Answers.{Answer}
use Rattle.seize.specs.Seizing as seizing
use Rattle.seize.specs.declared.kind.SeizeKind.{SeizeKind}
use Rattle.seize.specs.declared.kind.SeizeKind.TheVariants.{Plain, Vote}
use Rattle.run_outcomes.specs.phases.Kept.{In}
use Rattle.run_outcomes.specs.saves.Kept.{IsAt}
use Rattle.run_outcomes.specs.tasks.Laws.{is_plain, seizes_plainly}
use Rattle.run_outcomes.specs.tasks.OwnPromise.{AsksPlainly, IsSpared, KeepsOwn, OwnPromise}
use Rattle.run_outcomes.specs.tasks.Shown.{AsksData, AttemptSo, HandSent, IsPlainTo, SiteSo}
use Rattle.run_outcomes.proofs.own_shown.Calls.{called_before, called_shows, plain_here}
use Rattle.run_outcomes.proofs.own_shown.Changes.{change_keeps, in_with}
use Rattle.run_outcomes.proofs.shown.Acts.{made_device, plain_asked}
use Rattle.run_outcomes.proofs.shown.Calls.{plain_stays}
use Rattle.run_outcomes.proofs.shown.Deeds.{AdmitSo, change_device}
use Rattle.run_outcomes.proofs.shown.Goes.{attempt_in}
use Rattle.run_outcomes.proofs.shown.Tasks.{answer_fits, answer_plain, seize_fits, seize_more, seize_new}

-- ---- what becomes of it

-- its attempt takes a call
called : (n valid : ℕ) (ts : List Task) (a : AttemptState) (k : Call) → MayCall a k → (IsBefore a.phase → KeepsOwn n valid ts a) → IsBefore (turn a k).after.phase → KeepsOwn n valid ts (turn a k).after
called n valid ts a k may h before =
    let z : KeepsOwn n valid ts a = h (called_before a k may before) in
    record { plain = λ d is. plain_stays a k d may (z.plain d is); fit = z.fit; own = called_shows n valid (IsSpared ts) a k may z.own }

-- another seizing is begun: as a device without votes only such as has none
seized : (n set d e members cluster : ℕ) (valid : Bool) (kind : SeizeKind) (ts : List Task) (a : AttemptState) → (is_plain kind ≡ true → IsPlainTo a d) → KeepsOwn n set ts a
    → KeepsOwn n set (after_seize ts d (seizing.begun kind e members n cluster valid)) a
seized n set d e members cluster valid kind ts a asked h = record {
  plain = λ j z. by_new j (seize_new j d ts _ z);
  fit = seize_fits d ts kind e members n cluster valid h.fit;
  own = record { promised = h.own.promised; shown = λ j is. h.own.shown j (is.0, spared j (seizes_plainly j ts) refl is.1) };
}
  where
    by_new : (j : ℕ) → (seizes_plainly j ts ≡ true) ⊎ ((d ≡ j) × (is_plain kind ≡ true)) → IsPlainTo a j
    by_new j (inl z) = h.plain j z
    by_new j (inr z) = subst (IsPlainTo a) z.0 (asked z.1)

    spared : (j : ℕ) (b : Bool) → seizes_plainly j ts ≡ b → seizes_plainly j (after_seize ts d (seizing.begun kind e members n cluster valid)) ≡ false → b ≡ false
    spared j true is none = absurd (false_true (sym none ∙ seize_more j d ts _ is))
    spared j false is none = refl

-- a command at a device is answered
answered : (n set : ℕ) (b : Answer) (ts : List Task) (a : AttemptState) → KeepsOwn n set ts a → KeepsOwn n set (after_answer ts b) a
answered n set b ts a h = record {
  plain = λ d z. h.plain d (sym (answer_plain d b ts) ∙ z);
  fit = answer_fits b ts h.fit;
  own = record { promised = h.own.promised; shown = λ d is. h.own.shown d (is.0, sym (answer_plain d b ts) ∙ is.1) };
}

-- its attempt has asked for it
asked_here : (b : AttemptState) (d : ℕ) (kind : SeizeKind) (g : Hand) → AsksPlainly g → InHand (λ u. (u.after ≡ b) × IsBefore b.phase × IsStep (SeizeHere d kind) u.steps) g → is_plain kind ≡ true → IsPlainTo b d
asked_here b d kind None asks at is = absurd at
asked_here b d Plain (Some u) asks at is = subst (λ t. IsPlainTo t d) at.0 (asks d at.2)
asked_here b d Vote (Some u) asks at is = absurd (false_true is)

-- ---- each act

act_keeps : (h : Header) (L : List Letter) (c : Cluster) (n : ℕ) (told : Delivered) (g : Hand) (x : UpNode) (disk : NodeRecord) (a : Act) → MayAct c n told x a → ActMay h n told g x a → HandSent L told → AsksPlainly g
    → SiteSo L n (site (Up x) disk) → OwnPromise n x → OwnPromise n (acted c n x a)
act_keeps h L c n told g x disk a may at sent asks so own = by_act a may at
  where
    Keeps : AttemptState → Type 0
    Keeps b = IsBefore b.phase → KeepsOwn n (record_of x).valid x.tasks b

    attempt : (b : AttemptState) → x.attempt ≡ Some b → AttemptSo L n (session_of x) b
    attempt b is = attempt_in L n (session_of x) x.attempt b is so.up.1.attempt

    by_act : (a : Act) → MayAct c n told x a → ActMay h n told g x a → OwnPromise n (acted c n x a)
    by_act (Goes_on b k) m q = called n (record_of x).valid x.tasks b k (may_be_called c told b k m.1) (subst (In Keeps) m.0 own)
    by_act (Ends b e) m q = tt
    by_act (Queues b d kind) m q =
        let s : seizing.SeizeState = seizing.begun kind b.plan.epoch b.plan.members n c.id (has (record_of x).valid d) in
        if_either (OwnPromise n) (has b.plan.members n) (record x { tasks = after_seize x.tasks d s }) x
        (in_with Keeps (λ e. IsBefore e.phase → KeepsOwn n (record_of x).valid (after_seize x.tasks d s) e) x.attempt
        (λ e is z before. seized n (record_of x).valid d b.plan.epoch b.plan.members c.id (has (record_of x).valid d) kind x.tasks e
        (λ plain. subst (λ t. IsPlainTo t d) (same_some b e (sym m ∙ is)) (asked_here b d kind g asks q plain)) (z before)) own) own
    by_act (Accepts kind e members d) m q =
        in_with Keeps (λ b. IsBefore b.phase → KeepsOwn n (record_of x).valid (after_seize x.tasks d (seizing.begun kind e members n c.id (has (record_of x).valid d))) b) x.attempt
        (λ b is z before. seized n (record_of x).valid d e members c.id (has (record_of x).valid d) kind x.tasks b
        (λ plain. (attempt b is).asked_data d (subst (λ j. AsksData L j d) (m ∙ sym (attempt b is).epoch) (plain_asked L told kind e members d sent q.0 plain))) (z before)) own
    by_act (Takes on command b) m q =
        in_with Keeps (λ e. IsBefore e.phase → KeepsOwn n (record_of x).valid (after_answer x.tasks b) e) x.attempt (λ e is z before. answered n (record_of x).valid b x.tasks e (z before)) own
    by_act (Makes ch) m q = change_keeps L c n told x disk ch m.0 (made_device x ch q) sent so own
    by_act _ m q = own

-- ---- each small step

pub doing_keeps : (h : Header) (L : List Letter) (c : Cluster) (n : ℕ) (told : Delivered) (g : Hand) (node : Node) (disk : NodeRecord) (d : Doing) → May c n told (site node disk) d → DoingMay h n told g (site node disk) d → AdmitSo (site node disk) d
    → HandSent L told → AsksPlainly g → SiteSo L n (site node disk) → IsAt (OwnPromise n) node → IsAt (OwnPromise n) (effect c n (site node disk) d).node
doing_keeps h L c n told g (Up x) disk (Does a) may at admit sent asks so own = act_keeps h L c n told g x disk a may at sent asks so own
doing_keeps h L c n told g (Up x) disk (Saves ch) may at admit sent asks so own = change_keeps L c n told x disk ch may (change_device h x ch at.0 admit) sent so own
doing_keeps h L c n told g Down disk Comes_up may at admit sent asks so own = tt
doing_keeps h L c n told g (Up x) disk Comes_up may at admit sent asks so own = absurd may
doing_keeps h L c n told g Down disk (Does a) may at admit sent asks so own = absurd may
doing_keeps h L c n told g Down disk (Saves ch) may at admit sent asks so own = absurd may
doing_keeps h L c n told g node disk (Goes_down why) may at admit sent asks so own = tt
doing_keeps h L c n told g node disk (Loses ch why) may at admit sent asks so own = tt
doing_keeps h L c n told g node disk (Forgets ch why) may at admit sent asks so own = tt

pub doing_asks : (L : List Letter) (c : Cluster) (n : ℕ) (told : Delivered) (g : Hand) (node : Node) (disk : NodeRecord) (d : Doing) → May c n told (site node disk) d → SiteSo L n (site node disk) → AsksPlainly g → AsksPlainly (hand_after g d)
doing_asks L c n told g (Up x) disk (Does a) may so asks = by_act a may
  where
    by_act : (a : Act) → MayAct c n told x a → AsksPlainly (hand_after g (Does a))
    by_act (Goes_on b k) m = λ e is.
        plain_here b k e (may_be_called c told b k m.1) (reached_more b k (may_be_called c told b k m.1) (attempt_in L n (session_of x) x.attempt b m.0 so.up.1.attempt).reached) is
    by_act _ m = asks
doing_asks L c n told g Down disk (Does a) may so asks = absurd may
doing_asks L c n told g node disk (Saves ch) may so asks = asks
doing_asks L c n told g node disk Comes_up may so asks = asks
doing_asks L c n told g node disk (Goes_down why) may so asks = asks
doing_asks L c n told g node disk (Loses ch why) may so asks = asks
doing_asks L c n told g node disk (Forgets ch why) may so asks = asks
