-- An attempt asks a member to seize a quorum device only while it seizes.
use Rattle.std.specs.Prelude.{All, ℕ, ◌==◌, ◌≡◌, List, [], ◌∷◌}
use Rattle.std.proofs.Common.{refl, sym, ap, ◌∙◌, inl, inr}
use Rattle.std.proofs.lemmas.List.Elements.{All-head, All-tail}
use Rattle.attempt_laws.proofs.Sends.{Steps, call_sends, first_sends}
use Rattle.attempt_laws.proofs.Steady.{Steady}
use Rattle.attempt_laws.proofs.Walk.{IsSeizing}
use Rattle.cmm_attempt.proofs.Basics.{if_either}
use Rattle.cmm_attempt.specs.Attempts.{AttemptState, beginning, first_state, promises_of}
use Rattle.cmm_attempt.specs.Calls.{Call, May, Tick as Call_tick, turn}
use Rattle.cmm_attempt.specs.Promises.{promised_by, shown_by}
use Rattle.cmm_attempt.specs.Seizings.{request_body}
use Rattle.cmm_attempt.specs.declared.attached.AttachedDevice.{AttachedDevice}
use Rattle.cmm_attempt.specs.declared.phase.Phase.{Phase}
use Rattle.cmm_attempt.specs.declared.phase.Phase.TheVariants.{Choosing, SeizingOthers, SeizingVotes}
use Rattle.cmm_attempt.specs.declared.step.Step.{Step}
use Rattle.cmm_attempt.specs.declared.step.Step.TheVariants as step
use Rattle.seize.specs.declared.kind.SeizeKind.{SeizeKind}
use Rattle.seize.specs.declared.kind.SeizeKind.TheVariants.{Plain, Vote}
use Rattle.wire.specs.declared.message.Body.{Body}
use Rattle.wire.specs.declared.message.Body.TheVariants as body
use Rattle.wire.specs.declared.message.Message.{Message}
use Rattle.run_outcomes.specs.tasks.Asks.{asked_by_body, asked_by_steps}

-- ---- a request is made while it seizes

abbrev AsksSeizing : Phase → Body → Type 0
AsksSeizing phase (body.SeizeQuorum e members d) = IsSeizing phase
AsksSeizing phase _ = Unit {0}

abbrev pub StepSeizing : AttemptState → Step → Type 0
StepSeizing t (step.Send to m) = AsksSeizing t.phase m.body
StepSeizing t _ = Unit {0}

abbrev Any : AttemptState → Type 0
Any s = Unit {0}

any_steady : (k : Call) → Steady k Any Any
any_steady k = record {
  within = λ s i. tt;
  ticked = λ s i. tt;
  over = λ s k. tt;
  promise = λ s from m p is awaited of promised i. tt;
  collecting = λ s is all k. tt;
  no_newest = λ s is all none k. tt;
  chosen = λ s newest is all some k. tt;
  votes = λ s both is i. tt;
  entries = λ s is k. tt;
  result = λ s d from r is tells i. tt;
  next = λ s d m x kind r is found i. tt;
  seizing = λ s is all k. tt;
  counted = λ s is h k. tt;
  others = λ s is ne k. tt;
  installs = λ s is k. tt;
  ready = λ s from m is at of ready_body i. tt;
  own = λ s is at i. tt;
  installing = λ s is h k. tt;
}

asks_seizing : (t : AttemptState) (kind : SeizeKind) (d : ℕ) → IsSeizing t.phase → AsksSeizing t.phase (request_body t.plan kind d)
asks_seizing t Vote d h = h
asks_seizing t Plain d h = tt

steps_seizing : Steps Any StepSeizing
steps_seizing = record {
  asks = λ t e n is i among none asked.
      if_either (StepSeizing t) (n == t.plan.coordinator) (step.SeizeHere e.attached.device e.kind)
      (step.Send n (record { sender = t.plan.coordinator; body = request_body t.plan e.kind e.attached.device })) tt (asks_seizing t e.kind e.attached.device is);
  wish = λ t n. tt;
  start_here = λ t. tt;
  end = λ t e. tt;
  collect = λ t n. tt;
  start = λ t n. tt;
  install = λ t n i. tt;
  install_here = λ t i. tt;
}

not_seizing : (phase : Phase) → phase ≡ Choosing → IsSeizing phase → ⊥
not_seizing phase is (inl at) = apart (sym is ∙ at)
  where
    apart : Choosing ≡ SeizingVotes → ⊥
    apart h = cc
not_seizing phase is (inr at) = apart (sym is ∙ at)
  where
    apart : Choosing ≡ SeizingOthers → ⊥
    apart h = cc

body_asks : (phase : Phase) (d to : ℕ) (b : Body) (asked : List ℕ) → phase ≡ Choosing → AsksSeizing phase b → asked_by_body d to b asked ≡ asked
body_asks phase d to (body.SeizeQuorum e members x) asked is h = absurd (not_seizing phase is h)
body_asks phase d to _ asked is h = refl

pub none_asked : (t : AttemptState) (d : ℕ) (steps : List Step) (asked : List ℕ) → t.phase ≡ Choosing → All (StepSeizing t) steps → asked_by_steps d steps asked ≡ asked
none_asked t d [] asked is all = refl
none_asked t d (step.Send to m ∷ steps) asked is all =
    ap (asked_by_steps d steps) (body_asks t.phase d to m.body asked is (All-head (StepSeizing t) (step.Send to m) steps all)) ∙ none_asked t d steps asked is (All-tail (StepSeizing t) (step.Send to m) steps all)
none_asked t d (step.SeizeHere x kind ∷ steps) asked is all = none_asked t d steps asked is (All-tail (StepSeizing t) (step.SeizeHere x kind) steps all)
none_asked t d (step.NeedVotes n ∷ steps) asked is all = none_asked t d steps asked is (All-tail (StepSeizing t) (step.NeedVotes n) steps all)
none_asked t d (step.InstallHere i ∷ steps) asked is all = none_asked t d steps asked is (All-tail (StepSeizing t) (step.InstallHere i) steps all)
none_asked t d (step.StartHere ∷ steps) asked is all = none_asked t d steps asked is (All-tail (StepSeizing t) step.StartHere steps all)
none_asked t d (step.Ended e ∷ steps) asked is all = none_asked t d steps asked is (All-tail (StepSeizing t) (step.Ended e) steps all)

pub turn_seizing : (a : AttemptState) (k : Call) → May a k → All (StepSeizing (turn a k).after) (turn a k).steps
turn_seizing a k may = (call_sends Any Any StepSeizing a k (any_steady k) steps_seizing may tt).1

pub first_seizing : (p members : ℕ) (own : Message) (attached : List AttachedDevice) (cluster : ℕ) → All (StepSeizing (beginning p members own attached cluster).after) (beginning p members own attached cluster).steps
unfolding beginning
first_seizing p members own attached cluster =
    (first_sends Any Any StepSeizing (any_steady Call_tick) steps_seizing (first_state p members own attached cluster (promises_of (promised_by own (shown_by own.sender own.body)))) refl tt).1
