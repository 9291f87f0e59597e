-- An attempt that asks for its votes sends no message in that call.
use Rattle.std.specs.Prelude.{ℕ, ◌≡◌, Bool, List, [], ◌∷◌}
use Rattle.std.proofs.Common.{refl, sym, subst, ◌∙◌, inl, inr}
use Rattle.attempt_laws.proofs.Walk.{IsSeizing, Walk, walks, walks_begun}
use Rattle.cmm_attempt.specs.Attempts.{AttemptState, Turn, again_in, asked_next, beginning, first_state, installing, later, promises_of}
use Rattle.cmm_attempt.specs.Calls.{Call, Tick, turn}
use Rattle.cmm_attempt.specs.Promises.{promised_by, shown_by}
use Rattle.cmm_attempt.specs.declared.attached.AttachedDevice.{AttachedDevice}
use Rattle.cmm_attempt.specs.declared.phase.Phase.{Phase}
use Rattle.cmm_attempt.specs.declared.phase.Phase.TheVariants.{Choosing, Collecting, Installing, Over, SeizingOthers, SeizingVotes}
use Rattle.cmm_attempt.specs.declared.step.Step.{Step}
use Rattle.cmm_attempt.specs.declared.step.Step.TheVariants as step
use Rattle.wire.specs.declared.message.Message.{Message}
use Rattle.run_outcomes.specs.silence.Asked.{Query, asked_by_steps}

abbrev pub NoSends : List Step → Type 0
NoSends [] = Unit {0}
NoSends (step.Send to m ∷ steps) = ⊥
NoSends (_ ∷ steps) = NoSends steps

abbrev Silent : Turn → Type 0
Silent u = u.after.phase ≡ Choosing → NoSends u.steps

abbrev Any : AttemptState → Type 0
Any s = Unit {0}

is_choosing : Phase → Type 0
is_choosing Choosing = Unit {0}
is_choosing _ = ⊥

other : (phase p : Phase) → phase ≡ p → (is_choosing p → ⊥) → phase ≡ Choosing → ⊥
unfolding is_choosing
other phase p is not at = not (subst is_choosing (sym at ∙ is) tt)

seizing : (phase : Phase) → IsSeizing phase → phase ≡ Choosing → ⊥
unfolding is_choosing
seizing phase (inl is) at = other phase SeizingVotes is (λ x. x) at
seizing phase (inr is) at = other phase SeizingOthers is (λ x. x) at

over : Over ≡ Choosing → ⊥
over h = cc

walk : (c : Call) → Walk c Any Any Silent
unfolding asked_next installing is_choosing
walk c = record {
  within = λ s i. tt;
  rests = λ s i at. tt;
  passes = λ s is e i at. tt;
  again = λ s is e i at. subst (λ p. NoSends (again_in (record s { ticks = later s.ticks }) p)) (sym at) tt;
  silent = λ s n is late least i at. absurd (over at);
  superseded = λ s from m q is nack i at. absurd (over at);
  promise = λ s from m p is awaited of promised i. tt;
  collects = λ s is e k at. absurd (other s.phase Collecting is (λ x. x) at);
  collecting = λ s is e k at. tt;
  no_newest = λ s is all none k at. tt;
  chosen = λ s newest is all some k at. tt;
  votes = λ s both is i. tt;
  foreign = λ s both n is given least k at. absurd (over at);
  excluded = λ s n is least k at. absurd (over at);
  impossible = λ s e is short k at. absurd (over at);
  entries = λ s is enough k. tt;
  requests = λ s is e k at. absurd (other s.phase SeizingVotes is (λ x. x) at);
  result = λ s d from r e is tells found none i. tt;
  next = λ s d from n r e is tells found next i at. absurd (seizing s.phase is at);
  seizing = λ s is e k at. tt;
  short = λ s e is all few k at. absurd (over at);
  others = λ s is all enough some k at. absurd (other SeizingOthers SeizingOthers refl (λ x. x) at);
  installs_at_once = λ s is all enough none k at. absurd (other Installing Installing refl (λ x. x) at);
  installs = λ s is all k at. absurd (other Installing Installing refl (λ x. x) at);
  ready = λ s from m is at of ready_body i. tt;
  own = λ s is at i. tt;
  installing = λ s at e k now. tt;
  starts = λ s at e k now. absurd (over now);
}

pub call_silent : (a : AttemptState) (c : Call) → Silent (turn a c)
call_silent a c = walks Any Any Silent a c (walk c) tt

pub first_silent : (p members : ℕ) (own : Message) (attached : List AttachedDevice) (cluster : ℕ) → Silent (beginning p members own attached cluster)
unfolding beginning
first_silent p members own attached cluster = walks_begun Tick Any Any Silent (walk Tick) (first_state p members own attached cluster (promises_of (promised_by own (shown_by own.sender own.body)))) refl tt

pub none_sent : (q : Query) (steps : List Step) (asked : Bool) → NoSends steps → asked_by_steps q steps asked ≡ asked
none_sent q [] asked h = refl
none_sent q (step.Send to m ∷ steps) asked h = absurd h
none_sent q (step.SeizeHere d kind ∷ steps) asked h = none_sent q steps asked h
none_sent q (step.NeedVotes n ∷ steps) asked h = none_sent q steps asked h
none_sent q (step.InstallHere i ∷ steps) asked h = none_sent q steps asked h
none_sent q (step.StartHere ∷ steps) asked h = none_sent q steps asked h
none_sent q (step.Ended e ∷ steps) asked h = none_sent q steps asked h
