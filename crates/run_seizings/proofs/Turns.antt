-- What an attempt counts as held is what it was told, before it installs.
use Rattle.std.specs.Prelude.{ℕ, ◌≡◌, ◌≢◌, ◌==◌, ◌&&◌, true, false, List, [], ◌∷◌, Option, None, Some, IfSome, find, is_none, map}
use Rattle.std.specs.List.{AllByRecursion, filter_map}
use Rattle.std.proofs.Common.{refl, sym, ap, subst, ◌∙◌, inl, inr}
use Rattle.attempt_laws.proofs.Steady.{Steady, begun_keeps, call_keeps}
use Rattle.attempt_laws.proofs.Walk.{IsSeizing, TellsResult, if_with}
use Rattle.attempt_laws.specs.Staying.{IsBefore}
use Rattle.cl_base.specs.Sets.{has, set_with}
use Rattle.cl_base.specs.Seizings.{SeizeResult}
use Rattle.cmm_attempt.proofs.Basics.{and_cases, if_either, same_number}
use Rattle.cmm_attempt.specs.Attempts.{AttemptState, Turn, all_promised, beginning, begun, choosing, chosen_by, collects, first_state, plain_devices, promises_of, vote_entries_under, with_steps}
use Rattle.cmm_attempt.specs.Calls.{Call, May, Own_ready, Own_seized, Take, Tick, With_votes, turn}
use Rattle.cmm_attempt.specs.Counts.{is_quorum, vote_new}
use Rattle.cmm_attempt.specs.Plans.{is_reachable}
use Rattle.cmm_attempt.specs.Promises.{newest_shown, promised_by, shown_by}
use Rattle.cmm_attempt.specs.Seizings.{first_seizer, is_held_by, is_seized, plain_entry, plain_new, vote_entry, with_next, with_result}
use Rattle.cmm_attempt.specs.declared.attached.AttachedDevice.{AttachedDevice}
use Rattle.cmm_attempt.specs.declared.counting.BothVotes.{BothVotes}
use Rattle.cmm_attempt.specs.declared.phase.Phase.{Phase}
use Rattle.cmm_attempt.specs.declared.phase.Phase.TheVariants.{Choosing, Collecting, Installing}
use Rattle.cmm_attempt.specs.declared.plan.Plan.{Plan}
use Rattle.cmm_attempt.specs.declared.promised.Promised.{Promised}
use Rattle.cmm_attempt.specs.declared.promised.Shown.{Shown}
use Rattle.cmm_attempt.specs.declared.seizing.Seizing.{Seizing}
use Rattle.wire.specs.declared.message.Body.TheVariants as body
use Rattle.wire.specs.declared.message.Message.{Message}
use Rattle.run_history.proofs.Lists.{both, more}
use Rattle.run_seizings.specs.Seized.{HeldSo}
use Rattle.run_seizings.proofs.Progress.{no_truth}

abbrev AllHeld : (ℕ → Type 0) → List Seizing → Type 0
AllHeld P es = AllByRecursion (HeldSo P) es

none_held : (P : ℕ → Type 0) (e : Seizing) → is_held_by e.result ≡ false → HeldSo P e
none_held P e none is = absurd (no_truth (sym none ∙ is))

votes_held : (P : ℕ → Type 0) (plan : Plan) (promises : List Promised) (votes : BothVotes) (attached : List AttachedDevice)
    → AllHeld P (filter_map (vote_new plan promises votes) attached)
votes_held P plan promises votes [] = tt
votes_held P plan promises votes (a ∷ attached) =
    more (HeldSo P) (vote_new plan promises votes a) (filter_map (vote_new plan promises votes) attached)
    (if_either (λ o. IfSome o (HeldSo P)) (is_quorum votes a.device && is_reachable plan a) (Some (vote_entry a (first_seizer plan promises a))) None
    (by_seizer (first_seizer plan promises a)) tt)
    (votes_held P plan promises votes attached)
  where
    by_seizer : (o : Option ℕ) → HeldSo P (vote_entry a o)
    by_seizer None = none_held P (vote_entry a None) refl
    by_seizer (Some n) = none_held P (vote_entry a (Some n)) refl

entries_held : (P : ℕ → Type 0) (s : AttemptState) (o : Option BothVotes) → AllHeld P (vote_entries_under s o)
entries_held P s None = tt
entries_held P s (Some votes) = votes_held P s.plan s.promises votes s.plan.attached

plain_held : (P : ℕ → Type 0) (a : AttachedDevice) (o : Option ℕ) → IfSome (plain_entry a o) (HeldSo P)
plain_held P a None = tt
plain_held P a (Some n) = λ is. absurd (no_truth is)

plains_held : (P : ℕ → Type 0) (plan : Plan) (devices : List Seizing) (attached : List AttachedDevice) → AllHeld P (filter_map (plain_new plan devices) attached)
plains_held P plan devices [] = tt
plains_held P plan devices (a ∷ attached) =
    more (HeldSo P) (plain_new plan devices a) (filter_map (plain_new plan devices) attached)
    (if_either (λ o. IfSome o (HeldSo P)) (is_seized devices a.device) None (plain_entry a (find (λ n. has a.nodes n) plan.nodes)) tt
    (plain_held P a (find (λ n. has a.nodes n) plan.nodes)))
    (plains_held P plan devices attached)

results_held : (P : ℕ → Type 0) (d : ℕ) (r : SeizeResult) (es : List Seizing) → (is_held_by (Some r) ≡ true → P d) → AllHeld P es → AllHeld P (map (with_result d r) es)
results_held P d r [] f k = tt
results_held P d r (e ∷ es) f k = (one, results_held P d r es f k.1)
  where
    one : HeldSo P (with_result d r e)
    one =
        if_with (λ z. HeldSo P z) ((e.attached.device == d) && is_none e.result) ((e.attached.device == d) && is_none e.result) (record e { result = Some r }) e refl
        (λ at is. subst P (sym (same_number e.attached.device d (and_cases (e.attached.device == d) (is_none e.result) at).0)) (f is)) (λ at. k.0)

nexts_held : (P : ℕ → Type 0) (d n : ℕ) (es : List Seizing) → AllHeld P es → AllHeld P (map (with_next d n) es)
nexts_held P d n [] k = tt
nexts_held P d n (e ∷ es) k = (
  if_either (λ z. HeldSo P z) ((e.attached.device == d) && is_none e.result)
      (record e { seizer = Some n; asked = set_with e.asked n }) e k.0 k.0,
  nexts_held P d n es k.1,
)

-- ---- each call

abbrev pub Keeps : (ℕ → Type 0) → AttemptState → AttemptState → Type 0
Keeps P a s = (s.plan ≡ a.plan) × (IsBefore s.phase → IsBefore a.phase) × AllHeld P s.devices

-- what the call tells of a device that is held is so, before the attempt installs
abbrev pub Source : (ℕ → Type 0) → AttemptState → Call → Type 0
Source P a c = (d from : ℕ) (r : SeizeResult) → IsBefore a.phase → TellsResult c a d from r → is_held_by (Some r) ≡ true → P d

tells_at : (c : Call) (s a : AttemptState) (d n : ℕ) (r : SeizeResult) → s.plan ≡ a.plan → TellsResult c s d n r → TellsResult c a d n r
tells_at (Take from m) s a d n r same tells = (tells.0, tells.1 ∙ ap (λ (p : Plan). body.Seized p.epoch d r) same)
tells_at (Own_seized device told) s a d n r same tells = (tells.0, tells.1, tells.2 ∙ ap (λ (p : Plan). p.coordinator) same)
tells_at (With_votes votes) s a d n r same tells = absurd tells
tells_at Own_ready s a d n r same tells = absurd tells
tells_at Tick s a d n r same tells = absurd tells

seizing_before : (phase : Phase) → IsSeizing phase → IsBefore phase
seizing_before phase (inl is) = subst IsBefore (sym is) tt
seizing_before phase (inr is) = subst IsBefore (sym is) tt

steady : (P : ℕ → Type 0) (a : AttemptState) (c : Call) → Source P a c → Steady c (Keeps P a) (Keeps P a)
steady P a c source = record {
  within = λ s i. i;
  ticked = λ s i. i;
  over = λ s k. (k.0, (λ b. absurd b), k.2);
  promise = λ s from m p is awaited of promised i. i;
  collecting = λ s is e k. k;
  no_newest = λ s is all none k. k;
  chosen = λ s newest is all some k. (k.0, (λ b. k.1 (subst IsBefore (sym is) tt)), k.2);
  votes = λ s both_votes is i. (i.0, (λ b. i.1 (subst IsBefore (sym is) tt)), tt);
  entries = λ s is k. (k.0, k.1, entries_held P s s.votes);
  result = λ s d from r is tells i. (i.0, i.1, results_held P d r s.devices (source d from r (i.1 (seizing_before s.phase is)) (tells_at c s a d from r i.0 tells)) i.2);
  next = λ s d n e kind r is found i. (i.0, i.1, nexts_held P d n s.devices i.2);
  seizing = λ s is e k. k;
  counted = λ s is h k. k;
  others = λ s is ne k. (k.0, (λ b. k.1 (subst IsBefore (sym is) tt)), both (HeldSo P) s.devices (plain_devices s) k.2 (plains_held P s.plan s.devices s.plan.attached));
  installs = λ s is k. (k.0, (λ b. absurd b), k.2);
  ready = λ s from m is at of ready_body i. i;
  own = λ s is at i. i;
  installing = λ s at e k. k;
}

pub turn_held : (P : ℕ → Type 0) (a : AttemptState) (c : Call) → May a c → Source P a c → AllByRecursion (HeldSo P) a.devices → Keeps P a (turn a c).after
turn_held P a c may source k = call_keeps (Keeps P a) (Keeps P a) a c (steady P a c source) may (refl, (λ b. b), k)

-- ---- an attempt begins

begun_none : (s : AttemptState) → s.phase ≡ Collecting → (begun s).after.phase ≢ Installing
unfolding choosing
begun_none s is =
    if_either (λ (t : Turn). t.after.phase ≢ Installing) (all_promised s) (choosing s) (with_steps s (collects s)) (by_newest (newest_shown s.promises))
    (λ e. collecting_no (sym is ∙ e))
  where
    collecting_no : Collecting ≡ Installing → ⊥
    collecting_no e = cc

    choosing_no : Choosing ≡ Installing → ⊥
    choosing_no e = cc

    by_newest : (o : Option Shown) → (chosen_by s o).after.phase ≢ Installing
    by_newest None = λ e. collecting_no (sym is ∙ e)
    by_newest (Some newest) = λ e. choosing_no e

pub record First (P : ℕ → Type 0) (a : AttemptState) : Type 0 where
  pub phase : a.phase ≢ Installing
  pub held : AllByRecursion (HeldSo P) a.devices

pub first_so : (P : ℕ → Type 0) (p members : ℕ) (own : Message) (attached : List AttachedDevice) (cluster : ℕ) → First P (beginning p members own attached cluster).after
unfolding beginning
first_so P p members own attached cluster =
    let s : AttemptState = first_state p members own attached cluster (promises_of (promised_by own (shown_by own.sender own.body))) in
    record {
      phase = begun_none s refl;
      held = (begun_keeps Tick (Keeps P s) (Keeps P s) (steady P s Tick (λ d from r before tells is. absurd tells)) s refl (refl, (λ b. b), tt)).2;
    }
