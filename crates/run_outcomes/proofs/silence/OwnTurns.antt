-- What a call leaves of the coordinator's own part, and where an attempt comes to install.
use Rattle.std.specs.Prelude.{ℕ, ◌≡◌, ◌⊎◌, ◌&&◌, Bool, true, false, List, [], ◌∷◌, Option, None, Some, map}
use Rattle.std.proofs.Common.{refl, sym, subst, ◌∙◌, inl, inr}
use Rattle.attempt_laws.proofs.Steady.{Steady, call_keeps}
use Rattle.attempt_laws.proofs.Walk.{IsSeizing, Walk, walks}
use Rattle.attempt_laws.specs.Staying.{IsBefore, IsFinal}
use Rattle.cmm_attempt.proofs.Basics.{false_true, if_either}
use Rattle.cmm_attempt.specs.Attempts.{AttemptState, Turn, all_promised, all_ready, again_in, asked_next, beginning, begun, choosing, chosen_by, collects, first_state, installing, later, own_readying, own_readying_in, promises_of, starting, waits, with_steps}
use Rattle.cmm_attempt.specs.Calls.{Call, May, Own_ready, With_votes, turn}
use Rattle.cmm_attempt.specs.Installs.{send_to}
use Rattle.cmm_attempt.specs.Promises.{newest_shown, promised_by, shown_by}
use Rattle.cmm_attempt.specs.declared.attached.AttachedDevice.{AttachedDevice}
use Rattle.cmm_attempt.specs.declared.counting.BothVotes.{BothVotes}
use Rattle.cmm_attempt.specs.declared.phase.Phase.{Phase}
use Rattle.cmm_attempt.specs.declared.phase.Phase.TheVariants.{Choosing, Collecting, Installing, Over, SeizingOthers, SeizingVotes}
use Rattle.cmm_attempt.specs.declared.plan.Plan.{Plan}
use Rattle.cmm_attempt.specs.declared.promised.Shown.{Shown}
use Rattle.device_queue.specs.declared.task.Task.{Task}
use Rattle.node_model.specs.Attempts.{begins_install}
use Rattle.wire.specs.declared.message.Body.{Body}
use Rattle.wire.specs.declared.message.Message.{Message}
use Rattle.run_outcomes.specs.silence.OwnPart.{PartSo, Undone}

-- ---- whether it is done

-- another call leaves it
abbrev Same : Bool → AttemptState → Type 0
Same b s = s.own_ready ≡ b

steady : (b : Bool) (c : Call) → (c ≡ Own_ready → ⊥) → Steady c (Same b) (Same b)
steady b c other = record {
  within = λ s i. i;
  ticked = λ s i. i;
  over = λ s i. i;
  promise = λ s from m p is awaited of promised i. i;
  collecting = λ s is all i. i;
  no_newest = λ s is all none i. i;
  chosen = λ s newest is all some i. i;
  votes = λ s both is i. i;
  entries = λ s is i. i;
  result = λ s d from r is tells i. i;
  next = λ s d n x kind r is found i. i;
  seizing = λ s is all i. i;
  counted = λ s is h i. i;
  others = λ s is ne i. i;
  installs = λ s is i. i;
  ready = λ s from m is at of ready_body i. i;
  own = λ s is at i. absurd (other is);
  installing = λ s is h i. i;
}

pub same_own : (b : Bool) (s : AttemptState) (c : Call) → May s c → (c ≡ Own_ready → ⊥) → s.own_ready ≡ b → (turn s c).after.own_ready ≡ b
same_own b s c may other h = call_keeps (Same b) (Same b) s c (steady b c other) may h

-- it is not done before the attempt installs
abbrev Early : AttemptState → Type 0
Early s = IsBefore s.phase → s.own_ready ≡ false

early_steady : (c : Call) → Steady c Early Early
early_steady c = record {
  within = λ s i. i;
  ticked = λ s i. i;
  over = λ s i b. absurd b;
  promise = λ s from m p is awaited of promised i. i;
  collecting = λ s is all i. i;
  no_newest = λ s is all none i. i;
  chosen = λ s newest is all some i b. i (subst IsBefore (sym is) tt);
  votes = λ s both is i b. i (subst IsBefore (sym is) tt);
  entries = λ s is i. i;
  result = λ s d from r is tells i. i;
  next = λ s d n x kind r is found i. i;
  seizing = λ s is all i. i;
  counted = λ s is h i. i;
  others = λ s is ne i b. i (subst IsBefore (sym is) tt);
  installs = λ s is i b. absurd b;
  ready = λ s from m is at of ready_body i. i;
  own = λ s is at i b. absurd (subst IsBefore at b);
  installing = λ s is h i. i;
}

pub early_own : (s : AttemptState) (c : Call) → May s c → (IsBefore s.phase → s.own_ready ≡ false) → IsBefore (turn s c).after.phase → (turn s c).after.own_ready ≡ false
early_own s c may h = call_keeps Early Early s c (early_steady c) may h

-- ---- where it comes to install

abbrev Between : Phase → AttemptState → Type 0
Between old s = (s.phase ≡ Installing → old ≡ Installing) × (IsFinal old → IsFinal s.phase)

abbrev Comes : Phase → Turn → Type 0
Comes old u = (begins_install u.steps ≡ true → IsFinal old → ⊥) × (u.after.phase ≡ Installing → (begins_install u.steps ≡ true) ⊎ (old ≡ Installing))

sends_none : (plan : Plan) (b : Body) (ns : List ℕ) → begins_install (map (send_to plan b) ns) ≡ true → ⊥
sends_none plan b [] h = false_true h
sends_none plan b (n ∷ ns) h = false_true h

-- what goes again in a final phase
again_none : (s : AttemptState) (p : Phase) → IsFinal p → begins_install (again_in s p) ≡ true → ⊥
again_none s Installing final h = sends_none s.plan _ _ h
again_none s Over final h = false_true h
again_none s Collecting final h = absurd final
again_none s Choosing final h = absurd final
again_none s SeizingVotes final h = absurd final
again_none s SeizingOthers final h = absurd final

not_final : (s : AttemptState) (p : Phase) → s.phase ≡ p → (IsFinal p → ⊥) → IsFinal s.phase → ⊥
not_final s p is none final = none (subst IsFinal is final)

not_seizing : (s : AttemptState) → IsSeizing s.phase → IsFinal s.phase → ⊥
not_seizing s (inl is) final = subst IsFinal is final
not_seizing s (inr is) final = subst IsFinal is final

-- in this phase it takes the call; votes are given where they were asked for
abbrev At : Phase → Call → AttemptState → Type 0
At old c s = (s.phase ≡ old) × ((both : BothVotes) → c ≡ With_votes both → s.phase ≡ Choosing)

walk : (old : Phase) (c : Call) → Walk c (At old c) (Between old) (Comes old)
unfolding asked_next installing
walk old c = record {
  within = λ s i. ((λ at. sym i.0 ∙ at), (λ final. subst IsFinal (sym i.0) final));
  rests = λ s i. ((λ begins final. false_true begins), (λ at. inr (sym i.0 ∙ at)));
  passes = λ s is e i. ((λ begins final. false_true begins), (λ at. inr (sym i.0 ∙ at)));
  again = λ s is e i. ((λ begins final. again_none (record s { ticks = later s.ticks }) s.phase (subst IsFinal (sym i.0) final) begins), (λ at. inr (sym i.0 ∙ at)));
  silent = λ s n is late least i. ((λ begins final. false_true begins), (λ at. absurd (over at)));
  superseded = λ s from m q is nack i. ((λ begins final. false_true begins), (λ at. absurd (over at)));
  promise = λ s from m p is awaited of promised i. ((λ at. sym i.0 ∙ at), (λ final. subst IsFinal (sym i.0) final));
  collects = λ s is e k. ((λ begins final. not_final s Collecting is (λ z. z) (k.1 final)), (λ at. inr (k.0 at)));
  collecting = λ s is e k. ((λ begins final. false_true begins), (λ at. inr (k.0 at)));
  no_newest = λ s is all none k. ((λ begins final. false_true begins), (λ at. inr (k.0 at)));
  chosen = λ s newest is all some k. ((λ begins final. false_true begins), (λ at. absurd (chooses at)));
  votes = λ s both is i. ((λ at. absurd (seizes at)), (λ final. not_final s Choosing (i.1 both is) (λ z. z) (subst IsFinal (sym i.0) final)));
  foreign = λ s both n is given least k. ((λ begins final. false_true begins), (λ at. absurd (over at)));
  excluded = λ s n is least k. ((λ begins final. false_true begins), (λ at. absurd (over at)));
  impossible = λ s e is short k. ((λ begins final. false_true begins), (λ at. absurd (over at)));
  entries = λ s is enough k. k;
  requests = λ s is e k. ((λ begins final. not_final s SeizingVotes is (λ z. z) (k.1 final)), (λ at. inr (k.0 at)));
  result = λ s d from r e is tells found none i. ((λ at. sym i.0 ∙ at), (λ final. subst IsFinal (sym i.0) final));
  next = λ s d from n r e is tells found next i. ((λ begins final. not_seizing s is (subst IsFinal (sym i.0) final)), (λ at. inr (sym i.0 ∙ at)));
  seizing = λ s is e k. ((λ begins final. false_true begins), (λ at. inr (k.0 at)));
  short = λ s e is all few k. ((λ begins final. false_true begins), (λ at. absurd (over at)));
  others = λ s is all enough some k. ((λ begins final. not_final s SeizingVotes is (λ z. z) (k.1 final)), (λ at. absurd (seizes_others at)));
  installs_at_once = λ s is all enough none k. ((λ begins final. not_final s SeizingVotes is (λ z. z) (k.1 final)), (λ at. inl refl));
  installs = λ s is all k. ((λ begins final. not_final s SeizingOthers is (λ z. z) (k.1 final)), (λ at. inl refl));
  ready = λ s from m is at of ready_body i. ((λ now. sym i.0 ∙ now), (λ final. subst IsFinal (sym i.0) final));
  own = λ s is at i. ((λ now. sym i.0 ∙ now), (λ final. subst IsFinal (sym i.0) final));
  installing = λ s at e k. ((λ begins final. false_true begins), (λ now. inr (k.0 now)));
  starts = λ s at e k. ((λ begins final. false_true begins), (λ now. absurd (over now)));
}
  where
    over : Over ≡ Installing → ⊥
    over h = cc

    chooses : Choosing ≡ Installing → ⊥
    chooses h = cc

    seizes : SeizingVotes ≡ Installing → ⊥
    seizes h = cc

    seizes_others : SeizingOthers ≡ Installing → ⊥
    seizes_others h = cc

asked_at : (a : AttemptState) (k : Call) → May a k → (both : BothVotes) → k ≡ With_votes both → a.phase ≡ Choosing
asked_at a k may both is = subst (May a) is may

comes : (a : AttemptState) (k : Call) → May a k → Comes a.phase (turn a k)
comes a k may = walks (At a.phase k) (Between a.phase) (Comes a.phase) a k (walk a.phase k) (refl, asked_at a k may)

before_by : (p : Phase) → (IsFinal p → ⊥) → IsBefore p
before_by Collecting none = tt
before_by Choosing none = tt
before_by SeizingVotes none = tt
before_by SeizingOthers none = tt
before_by Installing none = none tt
before_by Over none = none tt

-- it begins to install in this call: its own part is not done
pub begins_undone : (a : AttemptState) (k : Call) → May a k → (k ≡ Own_ready → ⊥) → (IsBefore a.phase → a.own_ready ≡ false) → begins_install (turn a k).steps ≡ true → Undone (turn a k).after
begins_undone a k may other early begins =
    let same : (turn a k).after.own_ready ≡ false = same_own false a k may other (early (before_by a.phase ((comes a k may).0 begins))) in
    record { early = λ before. same; ready = λ at. same }

-- .. and where it does not, it installed before, or does not install
pub installed_before : (a : AttemptState) (k : Call) → May a k → begins_install (turn a k).steps ≡ false → (turn a k).after.phase ≡ Installing → a.phase ≡ Installing
installed_before a k may none at = by_side ((comes a k may).1 at)
  where
    by_side : (begins_install (turn a k).steps ≡ true) ⊎ (a.phase ≡ Installing) → a.phase ≡ Installing
    by_side (inl begins) = absurd (false_true (sym none ∙ begins))
    by_side (inr was) = was

-- ---- its own part is done

starting_own : (s : AttemptState) → s.own_ready ≡ true → (begins_install (starting s).steps ≡ false) × ((starting s).after.own_ready ≡ true)
unfolding starting
starting_own s done = if_either (λ (u : Turn). (begins_install u.steps ≡ false) × (u.after.own_ready ≡ true)) (s.own_ready && all_ready s) (with_steps (record s { phase = Over }) _) (waits s) (refl, done) (refl, done)

own_in : (s : AttemptState) (p : Phase) → s.phase ≡ p → (begins_install (own_readying_in s p).steps ≡ false) × ((own_readying_in s p).after.phase ≡ Installing → (own_readying_in s p).after.own_ready ≡ true)
own_in s Installing is = let k : (begins_install (starting (record s { own_ready = true })).steps ≡ false) × ((starting (record s { own_ready = true })).after.own_ready ≡ true) = starting_own (record s { own_ready = true }) refl in (k.0, λ at. k.1)
own_in s Collecting is = (refl, λ at. absurd (apart (sym is ∙ at)))
  where
    apart : Collecting ≡ Installing → ⊥
    apart h = cc
own_in s Choosing is = (refl, λ at. absurd (apart (sym is ∙ at)))
  where
    apart : Choosing ≡ Installing → ⊥
    apart h = cc
own_in s SeizingVotes is = (refl, λ at. absurd (apart (sym is ∙ at)))
  where
    apart : SeizingVotes ≡ Installing → ⊥
    apart h = cc
own_in s SeizingOthers is = (refl, λ at. absurd (apart (sym is ∙ at)))
  where
    apart : SeizingOthers ≡ Installing → ⊥
    apart h = cc
own_in s Over is = (refl, λ at. absurd (apart (sym is ∙ at)))
  where
    apart : Over ≡ Installing → ⊥
    apart h = cc

pub own_done : (s : AttemptState) → (begins_install (turn s Own_ready).steps ≡ false) × ((turn s Own_ready).after.phase ≡ Installing → (turn s Own_ready).after.own_ready ≡ true)
unfolding own_readying
own_done s = own_in s s.phase refl

-- ---- an attempt begins

abbrev Fresh : Turn → Type 0
Fresh u = (u.after.own_ready ≡ false) × (u.after.phase ≡ Installing → ⊥)

chosen_fresh : (s : AttemptState) (o : Option Shown) → s.own_ready ≡ false → (s.phase ≡ Installing → ⊥) → Fresh (chosen_by s o)
chosen_fresh s None undone not = (undone, not)
chosen_fresh s (Some newest) undone not = (undone, chooses)
  where
    chooses : Choosing ≡ Installing → ⊥
    chooses h = cc

choosing_fresh : (s : AttemptState) → s.own_ready ≡ false → (s.phase ≡ Installing → ⊥) → Fresh (choosing s)
unfolding choosing
choosing_fresh s undone not = chosen_fresh s (newest_shown s.promises) undone not

begun_fresh : (s : AttemptState) → s.own_ready ≡ false → (s.phase ≡ Installing → ⊥) → Fresh (begun s)
begun_fresh s undone not = if_either Fresh (all_promised s) (choosing s) (with_steps s (collects s)) (choosing_fresh s undone not) (undone, not)

pub first_part : (ts : List Task) (p members : ℕ) (own : Message) (attached : List AttachedDevice) (cluster : ℕ) → PartSo ts (beginning p members own attached cluster).after
unfolding beginning
first_part ts p members own attached cluster =
    let s : AttemptState = first_state p members own attached cluster (promises_of (promised_by own (shown_by own.sender own.body))) in
    let k : Fresh (begun s) = begun_fresh s refl collects_not in
    record { early = λ before. k.0; ready = λ at. absurd (k.1 at) }
  where
    collects_not : Collecting ≡ Installing → ⊥
    collects_not h = cc
