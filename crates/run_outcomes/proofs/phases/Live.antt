-- Once a node has done what it does, its attempt is not over: where it ends or starts, the node has none any more.
use Rattle.std.specs.Prelude.{ℕ, ◌≡◌, ◌&&◌, ◌⊎◌, Bool, true, false, List, [], ◌∷◌, map}
use Rattle.std.proofs.Common.{refl, sym, subst, inl, inr}
use Rattle.attempt_laws.proofs.Walk.{IsSeizing, Walk, walks}
use Rattle.cmm_attempt.proofs.Basics.{false_true}
use Rattle.cmm_attempt.specs.Attempts.{AttemptState, Turn, asked_next, installing, is_over}
use Rattle.cmm_attempt.specs.Calls.{Call, turn}
use Rattle.cmm_attempt.specs.Installs.{send_start}
use Rattle.cmm_attempt.specs.Plans.{others_of}
use Rattle.cmm_attempt.specs.declared.phase.Phase.{Phase}
use Rattle.cmm_attempt.specs.declared.phase.Phase.TheVariants.{SeizingOthers, SeizingVotes}
use Rattle.cmm_attempt.specs.declared.plan.Plan.{Plan}
use Rattle.cmm_attempt.specs.declared.step.Step.{Step}
use Rattle.cmm_attempt.specs.declared.step.Step.TheVariants as step

abbrev pub IsLive : AttemptState → Type 0
IsLive a = is_over a.phase ≡ false

live_in : (s : AttemptState) (p : Phase) → s.phase ≡ p → is_over p ≡ false → IsLive s
live_in s p is live = subst (λ q. is_over q ≡ false) (sym is) live

-- ---- each turn leaves it so, or ends it, or starts

abbrev pub EndsOnly : List Step → Type 0
EndsOnly (step.Ended e ∷ []) = Unit {0}
EndsOnly _ = ⊥

abbrev pub AreSends : List Step → Type 0
AreSends [] = Unit {0}
AreSends (step.Send to m ∷ steps) = AreSends steps
AreSends _ = ⊥

abbrev pub StartsOnly : List Step → Type 0
StartsOnly (step.StartHere ∷ steps) = AreSends steps
StartsOnly _ = ⊥

abbrev pub Leads : Turn → Type 0
Leads t = IsLive t.after ⊎ (EndsOnly t.steps ⊎ (StartsOnly t.steps × (t.after.own_ready ≡ true)))

are_sends : (plan : Plan) (ns : List ℕ) → AreSends (map (send_start plan) ns)
are_sends plan [] = tt
are_sends plan (n ∷ ns) = are_sends plan ns

both_first : (a b : Bool) → (a && b) ≡ true → a ≡ true
both_first true b h = refl
both_first false b h = absurd (false_true h)

seizing_live : (s : AttemptState) → IsSeizing s.phase → IsLive s
seizing_live s (inl is) = live_in s SeizingVotes is refl
seizing_live s (inr is) = live_in s SeizingOthers is refl

live_walk : (c : Call) → Walk c IsLive IsLive Leads
unfolding asked_next installing
live_walk c = record {
  within = λ s i. i;
  rests = λ s i. inl i;
  passes = λ s is e i. inl i;
  again = λ s is e i. inl i;
  silent = λ s n is late least i. inr (inl tt);
  superseded = λ s from m q is body i. inr (inl tt);
  promise = λ s from m p is awaited of promised i. i;
  collects = λ s is e k. inl k;
  collecting = λ s is e k. inl k;
  no_newest = λ s is all none k. inl k;
  chosen = λ s newest is all some k. inl refl;
  votes = λ s both is i. refl;
  foreign = λ s both n is votes least k. inr (inl tt);
  excluded = λ s n is least k. inr (inl tt);
  impossible = λ s e is short k. inr (inl tt);
  entries = λ s is enough k. k;
  requests = λ s is e k. inl k;
  result = λ s d from r e is tells found none i. i;
  next = λ s d from n r e is tells found next i. inl i;
  seizing = λ s is e k. inl k;
  short = λ s e is all few k. inr (inl tt);
  others = λ s is all enough some k. inl refl;
  installs_at_once = λ s is all enough none k. inl refl;
  installs = λ s is all k. inl refl;
  ready = λ s from m is at of body i. i;
  own = λ s is at i. i;
  installing = λ s at e k. inl k;
  starts = λ s at e k. inr (inr (are_sends s.plan (others_of s.plan), both_first _ _ e));
}

pub call_leads : (a : AttemptState) (k : Call) → IsLive a → Leads (turn a k)
call_leads a k h = walks IsLive IsLive Leads a k (live_walk k) h
