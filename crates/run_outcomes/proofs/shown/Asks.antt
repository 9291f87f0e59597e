-- What an attempt sends of requests to seize: to others than its coordinator, of a quorum device to one that has shown it as valid.
use Rattle.std.specs.Prelude.{All, Contains, ℕ, ◌≡◌, ◌≢◌, ◌≤◌, ◌==◌, false, true, List, [], ◌∷◌, Some}
use Rattle.std.proofs.Common.{refl, sym, subst, inl, inr, arith}
use Rattle.std.proofs.lemmas.List.Elements.{All-contains, All-head, All-tail}
use Rattle.attempt_laws.proofs.Numbered.{IsNumbered, numbered_reached}
use Rattle.attempt_laws.proofs.Plain.{plain_has_no_votes}
use Rattle.attempt_laws.proofs.Sends.{Steps, call_sends}
use Rattle.attempt_laws.proofs.Stays.{plan_steady}
use Rattle.attempt_laws.proofs.Walk.{IsSeizing, if_with}
use Rattle.attempt_laws.specs.Staying.{IsPast}
use Rattle.cmm_attempt.specs.Attempts.{AttemptState}
use Rattle.cmm_attempt.specs.Calls.{Call, IsReached, May, turn}
use Rattle.cmm_attempt.specs.Counts.{is_quorum}
use Rattle.cmm_attempt.specs.Promises.{holds_valid}
use Rattle.cmm_attempt.specs.Seizings.{request_body}
use Rattle.cmm_attempt.specs.declared.phase.Phase.{Phase}
use Rattle.cmm_attempt.specs.declared.plan.Plan.{Plan}
use Rattle.cmm_attempt.specs.declared.seizing.Seizing.{Seizing}
use Rattle.cmm_attempt.specs.declared.step.Step.{Step}
use Rattle.cmm_attempt.specs.declared.step.Step.TheVariants as step
use Rattle.run_history.specs.Guards.{IsStep}
use Rattle.seize.specs.declared.kind.SeizeKind.{SeizeKind}
use Rattle.seize.specs.declared.kind.SeizeKind.TheVariants.{Plain, Vote}
use Rattle.wire.specs.declared.message.Body.{Body}
use Rattle.wire.specs.declared.message.Body.TheVariants as body
use Rattle.run_outcomes.specs.tasks.Shown.{BodyStep, InRange, StepSo}
use Rattle.run_outcomes.proofs.shown.Entries.{EntryOk, entries_reached}
use Rattle.run_outcomes.proofs.shown.Given.{Given, votes_given}

-- another node than the coordinator is asked, by an entry whose answer is awaited
record Asked (t : AttemptState) (kind : SeizeKind) (e n d : ℕ) : Type 0 where
  epoch : e ≡ t.plan.epoch
  other : (n == t.plan.coordinator) ≡ false
  seizing : IsSeizing t.phase
  entry : Seizing
  listed : Contains t.devices entry
  device : entry.attached.device ≡ d
  as_kind : entry.kind ≡ kind
  seizer : entry.seizer ≡ Some n

abbrev AskedIn : AttemptState → ℕ → Body → Type 0
AskedIn t n (body.SeizeQuorum e members d) = Asked t Vote e n d
AskedIn t n (body.SeizeData e members d) = Asked t Plain e n d
AskedIn t n _ = Unit {0}

abbrev AskedBy : AttemptState → Step → Type 0
AskedBy t (step.Send n m) = AskedIn t n m.body
AskedBy t _ = Unit {0}

abbrev HasPlan : Plan → AttemptState → Type 0
HasPlan plan s = s.plan ≡ plan

asked_in : (t : AttemptState) (kind : SeizeKind) (n d : ℕ) → Asked t kind t.plan.epoch n d → AskedIn t n (request_body t.plan kind d)
asked_in t Vote n d h = h
asked_in t Plain n d h = h

asked_steps : (plan : Plan) → Steps (HasPlan plan) AskedBy
asked_steps plan = record {
  asks = λ t e n is i among none asked.
      if_with (AskedBy t) (n == t.plan.coordinator) (n == t.plan.coordinator) (step.SeizeHere e.attached.device e.kind)
      (step.Send n (record { sender = t.plan.coordinator; body = request_body t.plan e.kind e.attached.device })) refl
      (λ k. tt)
      (λ k. asked_in t e.kind n e.attached.device
      (record { epoch = refl; other = k; seizing = is; entry = e; listed = among; device = refl; as_kind = refl; seizer = asked }));
  wish = λ t n. tt;
  start_here = λ t. tt;
  end = λ t e. tt;
  collect = λ t n. tt;
  start = λ t n. tt;
  install = λ t n i. tt;
  install_here = λ t i. tt;
}

call_asks : (s : AttemptState) (c : Call) → May s c → All (AskedBy (turn s c).after) (turn s c).steps
call_asks s c may = (call_sends (HasPlan s.plan) (HasPlan s.plan) AskedBy s c (plan_steady s.plan c) (asked_steps s.plan) may refl).1

pub past_of : (p : Phase) → IsSeizing p → IsPast p
past_of p (inl is) = subst IsPast (sym is) tt
past_of p (inr is) = subst IsPast (sym is) tt

differs : (a b : ℕ) → (a == b) ≡ false → a ≢ b
differs a b h e = grind (arith, h, e)

within : (d : ℕ) → d ≤ 16 → d ≤ 32
within d h = omega (arith, h)

-- ---- what is asked

vote_step : (t : AttemptState) (e members n d : ℕ) → IsReached t → Asked t Vote e n d → BodyStep t n (body.SeizeQuorum e members d)
vote_step t e members n d r k =
    let g : Given t.votes = votes_given t r k.seizing in
    let ok : EntryOk t.promises t.votes k.entry = All-contains (EntryOk t.promises t.votes) t.devices k.entry (entries_reached t r) k.listed in
    let number : IsNumbered k.entry = All-contains IsNumbered t.devices k.entry (numbered_reached t r).1 k.listed in (
      subst InRange k.device (number.0, within k.entry.attached.device number.1),
      k.epoch,
      differs n t.plan.coordinator k.other,
      record { past = past_of t.phase k.seizing; both = g.both; votes = g.is; some = subst (λ z. is_quorum g.both z ≡ true) k.device (ok.quorum k.as_kind g.both g.is) },
      subst (λ z. holds_valid t.promises z n ≡ true) k.device (ok.holds k.as_kind n k.seizer),
    )

plain_step : (t : AttemptState) (e members n d : ℕ) → IsReached t → Asked t Plain e n d → BodyStep t n (body.SeizeData e members d)
plain_step t e members n d r k =
    let g : Given t.votes = votes_given t r k.seizing in (
      k.epoch,
      record {
        past = past_of t.phase k.seizing;
        both = g.both;
        votes = g.is;
        none = subst (λ z. is_quorum g.both z ≡ false) k.device (plain_has_no_votes t g.both k.entry r g.is k.listed k.as_kind);
      },
    )

body_step : (t : AttemptState) (n : ℕ) (b : Body) → IsReached t → AskedIn t n b → BodyStep t n b
body_step t n (body.SeizeQuorum e members d) r k = vote_step t e members n d r k
body_step t n (body.SeizeData e members d) r k = plain_step t e members n d r k
body_step t n _ r k = tt

step_so : (t : AttemptState) (x : Step) → IsReached t → AskedBy t x → StepSo t x
step_so t (step.Send n m) r k = body_step t n m.body r k
step_so t _ r k = tt

pub among : (P : Step → Type 0) (x : Step) (xs : List Step) → IsStep x xs → All P xs → P x
among P x [] is all = absurd is
among P x (y ∷ ys) (inl same) all = subst P same (All-head P y ys all)
among P x (y ∷ ys) (inr later) all = among P x ys later (All-tail P y ys all)

pub steps_ask : (a : AttemptState) (k : Call) → May a k → IsReached (turn a k).after → (x : Step) → IsStep x (turn a k).steps → StepSo (turn a k).after x
steps_ask a k may r x is = step_so (turn a k).after x r (among (AskedBy (turn a k).after) x (turn a k).steps is (call_asks a k may))
