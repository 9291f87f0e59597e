-- Calls leave what the own Promise of a coordinator shows, and bring no device to count; as devices without votes they ask it to seize only such as have none.
use Rattle.std.specs.Prelude.{ℕ, ◌++◌, ◌==◌, ◌&&◌, ◌||◌, not, ◌≡◌, Bool, true, false, List, [], ◌∷◌, Option, Some}
use Rattle.std.specs.List.{list_any}
use Rattle.std.proofs.Common.{arith, refl, sym, ap, subst, ◌∙◌}
use Rattle.attempt_laws.proofs.Plain.{plain_has_no_votes}
use Rattle.attempt_laws.proofs.Steady.{Steady, begun_keeps, call_keeps}
use Rattle.attempt_laws.proofs.Walk.{awaits_collecting}
use Rattle.attempt_laws.specs.Staying.{IsBefore}
use Rattle.cl_base.specs.Sets.{has}
use Rattle.cmm_attempt.proofs.Basics.{and_cases, false_true, same_number}
use Rattle.cmm_attempt.specs.Attempts.{AttemptState, awaits_promise, beginning, first_state, promises_of}
use Rattle.cmm_attempt.specs.Calls.{Call, IsReached, May, Tick, turn}
use Rattle.cmm_attempt.specs.Counts.{is_quorum}
use Rattle.cmm_attempt.specs.Promises.{has_promised, holds_valid, promised_by, shown_by}
use Rattle.cmm_attempt.specs.declared.counting.BothVotes.{BothVotes}
use Rattle.cmm_attempt.specs.declared.phase.Phase.{Phase}
use Rattle.cmm_attempt.specs.declared.promised.Promised.{Promised}
use Rattle.cmm_attempt.specs.declared.step.Step.TheVariants.{SeizeHere}
use Rattle.node_model.specs.Attempts.{own_promise}
use Rattle.node_model.specs.Seats.{record_of}
use Rattle.node_model.specs.declared.cluster.Cluster.{Cluster}
use Rattle.node_model.specs.declared.node.UpNode.{UpNode}
use Rattle.run_history.specs.Guards.{IsStep}
use Rattle.seize.specs.declared.kind.SeizeKind.TheVariants.{Plain}
use Rattle.wire.specs.declared.message.Message.{Message}
use Rattle.run_outcomes.proofs.shown.Asks.{past_of}
use Rattle.run_outcomes.specs.tasks.OwnPromise.{ShowsOwn}
use Rattle.run_outcomes.specs.tasks.Shown.{IsPlainTo}
use Rattle.run_outcomes.proofs.onward.Asked.{MayCount, OwnAsked, own_asked}
use Rattle.run_outcomes.proofs.phases.Gathering.{any_first, shown_node}
use Rattle.run_outcomes.proofs.shown.Given.{Given, votes_given}

-- ---- a Promise of another

last_valid : (d n : ℕ) (p : Promised) (ps : List Promised) → (p.shown.summary.node == n) ≡ false → holds_valid (ps ++ p ∷ []) d n ≡ holds_valid ps d n
last_valid d n p [] other = ap (λ b. (b && has p.shown.valid d) || false) other
last_valid d n p (q ∷ ps) other = ap (λ b. ((q.shown.summary.node == n) && has q.shown.valid d) || b) (last_valid d n p ps other)

-- a Promise that is awaited is of another than those that are there
awaited_other : (s : AttemptState) (from n : ℕ) (phase : Phase) → awaits_promise s from phase ≡ true → has_promised s.promises n ≡ true → (from == n) ≡ false
awaited_other s from n phase awaited there = by_value (from == n) refl
  where
    missing : not (has_promised s.promises from) ≡ true
    missing = (and_cases (list_any (λ m. m == from) s.plan.nodes) (not (has_promised s.promises from)) (subst (λ p. awaits_promise s from p ≡ true) (awaits_collecting s from phase awaited) awaited)).1

    by_value : (b : Bool) → (from == n) ≡ b → b ≡ false
    by_value true is = absurd (false_true (ap not (sym there) ∙ subst (λ k. not (has_promised s.promises k) ≡ true) (same_number from n is) missing))
    by_value false is = refl

-- ---- calls

-- these Promises have one of node n, which shows what those of the attempt show of it
pub record Same (n : ℕ) (a : AttemptState) (promises : List Promised) : Type 0 where
  pub promised : has_promised promises n ≡ true
  pub shown : (d : ℕ) → holds_valid promises d n ≡ holds_valid a.promises d n

-- its phase goes on, no other device comes to count, and Promises that it takes are of others
record Since (n : ℕ) (a : AttemptState) (phase : Phase) (votes : Option BothVotes) (promises : List Promised) : Type 0 where
  before : IsBefore phase → IsBefore a.phase
  counts : (d : ℕ) → MayCount phase votes d → MayCount a.phase a.votes d
  own : has_promised a.promises n ≡ true → Same n a promises

abbrev SinceIn : ℕ → AttemptState → AttemptState → Type 0
SinceIn n a s = Since n a s.phase s.votes s.promises

taken_same : (n from : ℕ) (a s : AttemptState) (m : Message) (p : Promised) → awaits_promise s from s.phase ≡ true → promised_by m (shown_by from m.body) ≡ Some p → Same n a s.promises → Same n a (s.promises ++ p ∷ [])
taken_same n from a s m p awaited promised h = record {
  promised = any_first (λ q. q.shown.summary.node == n) s.promises (p ∷ []) h.promised;
  shown = λ d. last_valid d n p s.promises (ap (λ k. k == n) (shown_node from m p m.body promised) ∙ awaited_other s from n s.phase awaited h.promised) ∙ h.shown d;
}

since_steady : (n : ℕ) (a : AttemptState) (c : Call) → Steady c (SinceIn n a) (SinceIn n a)
since_steady n a c = record {
  within = λ s i. i;
  ticked = λ s i. i;
  over = λ s k. record { before = λ b. absurd b; counts = λ d z. absurd z; own = k.own };
  promise = λ s from m p is awaited of promised i. record { before = i.before; counts = i.counts; own = λ there. taken_same n from a s m p awaited promised (i.own there) };
  collecting = λ s is all k. k;
  no_newest = λ s is all none k. k;
  chosen = λ s newest is all some k. record { before = λ b. k.before (subst IsBefore (sym is) tt); counts = λ d z. k.counts d (subst (λ p. MayCount p s.votes d) (sym is) tt); own = k.own };
  votes = λ s both is i. record { before = λ b. i.before (subst IsBefore (sym is) tt); counts = λ d z. i.counts d (subst (λ p. MayCount p s.votes d) (sym is) tt); own = i.own };
  entries = λ s is k. k;
  result = λ s d from r is tells i. i;
  next = λ s d m x kind r is found i. i;
  seizing = λ s is all k. k;
  counted = λ s is h k. k;
  others = λ s is ne k. record { before = λ b. k.before (subst IsBefore (sym is) tt); counts = λ d z. k.counts d (subst (λ p. MayCount p s.votes d) (sym is) z); own = k.own };
  installs = λ s is k. record { before = λ b. absurd b; counts = λ d z. absurd z; own = k.own };
  ready = λ s from m is at of ready_body i. i;
  own = λ s is at i. i;
  installing = λ s is h k. k;
}

itself_since : (n : ℕ) (a : AttemptState) → SinceIn n a a
itself_since n a = record { before = λ b. b; counts = λ d z. z; own = λ there. record { promised = there; shown = λ d. refl } }

call_since : (n : ℕ) (a : AttemptState) (k : Call) → May a k → SinceIn n a (turn a k).after
call_since n a k may = call_keeps (SinceIn n a) (SinceIn n a) a k (since_steady n a k) may (itself_since n a)

pub called_before : (a : AttemptState) (k : Call) → May a k → IsBefore (turn a k).after.phase → IsBefore a.phase
called_before a k may is = (call_since 0 a k may).before is

pub called_counts : (a : AttemptState) (k : Call) (d : ℕ) → May a k → MayCount (turn a k).after.phase (turn a k).after.votes d → MayCount a.phase a.votes d
called_counts a k d may = (call_since 0 a k may).counts d

-- what its own Promise shows, it shows still
pub called_same : (n : ℕ) (a : AttemptState) (k : Call) → May a k → has_promised a.promises n ≡ true → Same n a (turn a k).after.promises
called_same n a k may = (call_since n a k may).own

same_shows : (n valid : ℕ) (of : ℕ → Type 0) (a : AttemptState) (promises : List Promised) → Same n a promises → ShowsOwn n valid of a.promises → ShowsOwn n valid of promises
same_shows n valid of a promises same h = record { promised = same.promised; shown = λ d is. same.shown d ∙ h.shown d is }

pub called_shows : (n valid : ℕ) (of : ℕ → Type 0) (a : AttemptState) (k : Call) → May a k → ShowsOwn n valid of a.promises → ShowsOwn n valid of (turn a k).after.promises
called_shows n valid of a k may h = same_shows n valid of a (turn a k).after.promises (called_same n a k may h.promised) h

-- ---- an attempt begins

itself : (n : ℕ) → ((n == n) || false) ≡ true
itself n = grind arith

alone : (n : ℕ) (b : Bool) → (((n == n) && b) || false) ≡ b
alone n true = grind arith
alone n false = grind arith

pub begun_shows : (c : Cluster) (n p members : ℕ) (x : UpNode) (of : ℕ → Type 0) → ShowsOwn n (record_of x).valid of (beginning p members (own_promise n x p) c.attached c.id).after.promises
unfolding beginning
begun_shows c n p members x of =
    let own : Message = own_promise n x p in
    let s : AttemptState = first_state p members own c.attached c.id (promises_of (promised_by own (shown_by n own.body))) in
    same_shows n (record_of x).valid of s _ ((begun_keeps Tick (SinceIn n s) (SinceIn n s) (since_steady n s Tick) s refl (itself_since n s)).own (itself n))
    (record { promised = itself n; shown = λ d is. alone n (has (record_of x).valid d) })

-- ---- what the coordinator is asked for

pub plain_here : (a : AttemptState) (k : Call) (d : ℕ) → May a k → IsReached (turn a k).after → IsStep (SeizeHere d Plain) (turn a k).steps → IsPlainTo (turn a k).after d
plain_here a k d may r is =
    let t : AttemptState = (turn a k).after in
    let asked : OwnAsked t Plain d = own_asked a k may d Plain is in
    let g : Given t.votes = votes_given t r asked.seizing in
    record {
      past = past_of t.phase asked.seizing;
      both = g.both;
      votes = g.is;
      none = subst (λ z. is_quorum g.both z ≡ false) asked.device (plain_has_no_votes t g.both asked.entry r g.is asked.listed asked.as_kind);
    }
