-- What an attempt asks its coordinator for: for their votes those quorum devices that its own Promise shows as valid, and the others as such.
use Rattle.std.specs.Prelude.{All, Contains, ℕ, ◌≡◌, ◌≤◌, ◌==◌, true, false, Bool, List, [], ◌∷◌, Option, Some, if◌then◌else◌}
use Rattle.std.specs.List.{AllByRecursion}
use Rattle.std.proofs.Common.{arith, refl, sym, ap, subst, ◌∙◌, inl, inr}
use Rattle.std.proofs.lemmas.List.Elements.{All-contains, All-head, All-tail}
use Rattle.attempt_laws.proofs.Numbered.{IsNumbered, numbered_reached}
use Rattle.attempt_laws.proofs.Plain.{plain_has_no_votes}
use Rattle.attempt_laws.proofs.Sends.{Steps, call_sends}
use Rattle.attempt_laws.proofs.Stays.{plan_steady}
use Rattle.attempt_laws.proofs.Walk.{IsSeizing, if_with}
use Rattle.cl_base.specs.Sets.{has}
use Rattle.cmm_attempt.proofs.Basics.{same_number}
use Rattle.cmm_attempt.specs.Attempts.{AttemptState}
use Rattle.cmm_attempt.specs.Calls.{Call, IsReached, May, turn}
use Rattle.cmm_attempt.specs.Counts.{is_quorum}
use Rattle.cmm_attempt.specs.Promises.{holds_valid}
use Rattle.cmm_attempt.specs.Seizings.{request_body}
use Rattle.cmm_attempt.specs.declared.counting.BothVotes.{BothVotes}
use Rattle.cmm_attempt.specs.declared.phase.Phase.{Phase}
use Rattle.cmm_attempt.specs.declared.phase.Phase.TheVariants.{Choosing, Collecting, Installing, Over, SeizingOthers, SeizingVotes}
use Rattle.cmm_attempt.specs.declared.plan.Plan.{Plan}
use Rattle.cmm_attempt.specs.declared.seizing.Seizing.{Seizing}
use Rattle.cmm_attempt.specs.declared.step.Step.{Step}
use Rattle.cmm_attempt.specs.declared.step.Step.TheVariants as step
use Rattle.device_queue.specs.declared.task.Task.{Task}
use Rattle.device_queue.specs.declared.task.Work.TheVariants.{Seizing as Seizing_of}
use Rattle.history.specs.Setting.{Setting}
use Rattle.node_model.specs.declared.cluster.Cluster.{Cluster}
use Rattle.run_history.specs.Guards.{IsStep}
use Rattle.seize.specs.Seizing as seizing
use Rattle.seize.specs.declared.kind.SeizeKind.{SeizeKind}
use Rattle.seize.specs.declared.kind.SeizeKind.TheVariants.{Plain, Vote}
use Rattle.run_outcomes.specs.tasks.Entries.{quorum_in}
use Rattle.run_outcomes.specs.tasks.Onward.{IsBegun}
use Rattle.run_outcomes.specs.tasks.Shown.{InRange}
use Rattle.run_outcomes.proofs.shown.Entries.{EntryOk, entries_reached}
use Rattle.run_outcomes.proofs.told_tasks.Led.{IsAsked}

-- the coordinator itself is asked, by an entry whose answer is awaited
pub record OwnAsked (t : AttemptState) (kind : SeizeKind) (d : ℕ) : Type 0 where
  pub seizing : IsSeizing t.phase
  pub entry : Seizing
  pub listed : Contains t.devices entry
  pub device : entry.attached.device ≡ d
  pub as_kind : entry.kind ≡ kind
  pub seizer : entry.seizer ≡ Some t.plan.coordinator

abbrev OwnBy : AttemptState → Step → Type 0
OwnBy t (step.SeizeHere d kind) = OwnAsked t kind d
OwnBy t _ = Unit {0}

abbrev HasPlan : Plan → AttemptState → Type 0
HasPlan plan s = s.plan ≡ plan

own_steps : (plan : Plan) → Steps (HasPlan plan) OwnBy
own_steps plan = record {
  asks = λ t e n is i among none asked.
      if_with (OwnBy t) (n == t.plan.coordinator) (n == t.plan.coordinator) (step.SeizeHere e.attached.device e.kind)
      (step.Send n (record { sender = t.plan.coordinator; body = request_body t.plan e.kind e.attached.device })) refl
      (λ k. record { seizing = is; entry = e; listed = among; device = refl; as_kind = refl; seizer = asked ∙ ap Some (same_number n t.plan.coordinator k) })
      (λ k. tt);
  wish = λ t n. tt;
  start_here = λ t. tt;
  end = λ t e. tt;
  collect = λ t n. tt;
  start = λ t n. tt;
  install = λ t n i. tt;
  install_here = λ t i. tt;
}

among : (P : Step → Type 0) (x : Step) (xs : List Step) → IsStep x xs → All P xs → P x
among P x [] is all = absurd is
among P x (y ∷ ys) (inl same) all = subst P same (All-head P y ys all)
among P x (y ∷ ys) (inr later) all = among P x ys later (All-tail P y ys all)

pub own_asked : (a : AttemptState) (k : Call) → May a k → (d : ℕ) (kind : SeizeKind) → IsStep (step.SeizeHere d kind) (turn a k).steps → OwnAsked (turn a k).after kind d
own_asked a k may d kind is =
    among (OwnBy (turn a k).after) (step.SeizeHere d kind) (turn a k).steps is ((call_sends (HasPlan a.plan) (HasPlan a.plan) OwnBy a k (plan_steady a.plan k) (own_steps a.plan) may refl).1)

-- The device counts for the attempt, which may seize it for its votes: each does until the votes are given, then those that have some, and none once it installs.
abbrev pub MayCount : Phase → Option BothVotes → ℕ → Type 0
MayCount Collecting votes d = Unit {0}
MayCount Choosing votes d = Unit {0}
MayCount SeizingVotes votes d = quorum_in votes d ≡ true
MayCount SeizingOthers votes d = quorum_in votes d ≡ true
MayCount Installing votes d = ⊥
MayCount Over votes d = ⊥

-- of these, as far as a set of devices may have them, what the own Promise shows as valid the record has as valid
abbrev pub HoldsOwn : AttemptState → ℕ → Type 0
HoldsOwn t valid = (d : ℕ) → InRange d → MayCount t.phase t.votes d → holds_valid t.promises d t.plan.coordinator ≡ true → has valid d ≡ true

counts_while : (p : Phase) (votes : Option BothVotes) (d : ℕ) → IsSeizing p → quorum_in votes d ≡ true → MayCount p votes d
counts_while p votes d (inl is) h = subst (λ q. MayCount q votes d) (sym is) h
counts_while p votes d (inr is) h = subst (λ q. MayCount q votes d) (sym is) h

kind_of : (t : AttemptState) (both : BothVotes) (kind : SeizeKind) (d : ℕ) → IsReached t → t.votes ≡ Some both → OwnAsked t kind d → (if is_quorum both d then Vote else Plain) ≡ kind
kind_of t both Vote d r given k =
    let ok : EntryOk t.promises t.votes k.entry = All-contains (EntryOk t.promises t.votes) t.devices k.entry (entries_reached t r) k.listed in
    ap (λ (b : Bool). if b then Vote else Plain) (subst (λ z. is_quorum both z ≡ true) k.device (ok.quorum k.as_kind both given))
kind_of t both Plain d r given k = ap (λ (b : Bool). if b then Vote else Plain) (subst (λ z. is_quorum both z ≡ false) k.device (plain_has_no_votes t both k.entry r given k.listed k.as_kind))

range_of : (d e : ℕ) → (1 ≤ d) × (d ≤ 16) → d ≡ e → InRange e
range_of d e is same = subst InRange same (is.0, wide d is.1)
  where
    wide : (d : ℕ) → d ≤ 16 → d ≤ 32
    wide d h = omega (arith, h)

valid_of : (t : AttemptState) (both : BothVotes) (kind : SeizeKind) (d valid : ℕ) → IsReached t → t.votes ≡ Some both → HoldsOwn t valid → OwnAsked t kind d → is_quorum both d ≡ true → kind ≡ Vote → has valid d ≡ true
valid_of t both kind d valid r given holds k quorum is =
    let ok : EntryOk t.promises t.votes k.entry = All-contains (EntryOk t.promises t.votes) t.devices k.entry (entries_reached t r) k.listed in
    holds d (range_of k.entry.attached.device d (All-contains IsNumbered t.devices k.entry (numbered_reached t r).1 k.listed) k.device) (counts_while t.phase t.votes d k.seizing (ap (λ o. quorum_in o d) given ∙ quorum))
    (subst (λ z. holds_valid t.promises z t.plan.coordinator ≡ true) k.device (ok.holds (k.as_kind ∙ is) t.plan.coordinator k.seizer))

-- so is a task that it begins
begun_asked : (S : Setting) (c : Cluster) (n valid : ℕ) (a : AttemptState) (k : Call) (both : BothVotes) (t : Task) → c.id ≡ S.header.cluster → May a k → IsReached (turn a k).after → (turn a k).after.votes ≡ Some both
    → HoldsOwn (turn a k).after valid → IsBegun c n valid a k t → IsAsked S n (turn a k).after both t
begun_asked S c n valid a k both t cluster may r given holds h = record {
  valid = has valid t.device;
  is = h.work ∙ (ap (λ q. Seizing_of (seizing.begun q after.plan.epoch after.plan.members n c.id (has valid t.device))) (sym kind) ∙ ap (λ id. Seizing_of (seizing.begun (if is_quorum both t.device then Vote else Plain) after.plan.epoch after.plan.members n id (has valid t.device))) cluster);
  so = λ quorum. valid_of after both h.kind t.device valid r given holds asked quorum (sym kind ∙ ap (λ (b : Bool). if b then Vote else Plain) quorum);
}
  where
    after : AttemptState
    after = (turn a k).after

    asked : OwnAsked after h.kind t.device
    asked = own_asked a k may t.device h.kind h.step

    kind : (if is_quorum both t.device then Vote else Plain) ≡ h.kind
    kind = kind_of after both h.kind t.device r given asked

pub all_asked : (S : Setting) (c : Cluster) (n valid : ℕ) (a : AttemptState) (k : Call) (both : BothVotes) (ts : List Task) → c.id ≡ S.header.cluster → May a k → IsReached (turn a k).after → (turn a k).after.votes ≡ Some both
    → HoldsOwn (turn a k).after valid → AllByRecursion (IsBegun c n valid a k) ts → AllByRecursion (IsAsked S n (turn a k).after both) ts
all_asked S c n valid a k both [] cluster may r given holds h = tt
all_asked S c n valid a k both (t ∷ ts) cluster may r given holds h = (begun_asked S c n valid a k both t cluster may r given holds h.0, all_asked S c n valid a k both ts cluster may r given holds h.1)
