-- An attempt ends for a foreign member, and for want of votes, under the votes that this call gives it, or that it was given before.
use Rattle.std.specs.Prelude.{ℕ, ◌≡◌, ◌⊎◌, false, List, [], ◌∷◌, Option, None, Some}
use Rattle.std.specs.List.{filter_map}
use Rattle.std.proofs.Common.{refl, sym, ap, subst, ◌∙◌, inl, inr}
use Rattle.attempt_laws.proofs.QuietLemmas.{IsQuiet, quiet_again_in, quiet_asked, quiet_collects, quiet_installed, quiet_none, quiet_requests, quiet_starts}
use Rattle.attempt_laws.proofs.Walk.{Walk, walks}
use Rattle.cmm_attempt.proofs.Basics.{if_either, none_some, same_some}
use Rattle.cmm_attempt.specs.Attempts.{AttemptState, Turn, again_in, all_promised, asked_next, begun, beginning, choosing, chosen_by, collects, first_state, in_phase, installing, later, plain_devices, promises_of, with_steps}
use Rattle.cmm_attempt.specs.Calls.{Call, With_votes, end_in, installs_in, starts_in, turn}
use Rattle.cmm_attempt.specs.Promises.{newest_shown, promised_by, shown_by}
use Rattle.cmm_attempt.specs.Seizings.{held_set, request_for}
use Rattle.cmm_attempt.specs.declared.attached.AttachedDevice.{AttachedDevice}
use Rattle.cmm_attempt.specs.declared.counting.BothVotes.{BothVotes}
use Rattle.cmm_attempt.specs.declared.phase.Phase.TheVariants.{SeizingVotes, Installing, Over}
use Rattle.cmm_attempt.specs.declared.promised.Shown.{Shown}
use Rattle.cmm_attempt.specs.declared.step.AttemptEnd.{AttemptEnd}
use Rattle.cmm_attempt.specs.declared.step.AttemptEnd.TheVariants as end
use Rattle.cmm_attempt.specs.declared.step.Step.{Step}
use Rattle.cmm_attempt.specs.declared.step.Step.TheVariants as step
use Rattle.wire.specs.declared.message.Message.{Message}

-- it ends by what it counts
abbrev pub IsCounting : AttemptEnd → Type 0
IsCounting (end.Foreign m) = Unit {0}
IsCounting (end.Votes have need lacking) = Unit {0}
IsCounting _ = ⊥

-- these votes are given by the call c, or are those that the attempt a seizes devices for
abbrev pub AreFrom : AttemptState → Call → Option BothVotes → Type 0
AreFrom a c votes = ((both : BothVotes) × (c ≡ With_votes both) × (votes ≡ Some both)) ⊎ ((a.phase ≡ SeizingVotes) × (votes ≡ a.votes))

-- what a call that ends the attempt gives: no install, and no start
pub record EndSo (a : AttemptState) (c : Call) (t : Turn) (why : AttemptEnd) : Type 0 where
  pub installs : installs_in t.steps ≡ None
  pub starts : starts_in t.steps ≡ false
  pub votes : IsCounting why → AreFrom a c t.after.votes

abbrev EndsSo : AttemptState → Call → Turn → Type 0
EndsSo a c t = (why : AttemptEnd) → end_in t.steps ≡ Some why → EndSo a c t why

quiet_so : (a : AttemptState) (c : Call) (t : AttemptState) (steps : List Step) → IsQuiet steps → EndsSo a c (with_steps t steps)
quiet_so a c t steps q why is = absurd (none_some why (sym q.end ∙ is))

-- while it seizes for votes
abbrev Between : AttemptState → Call → AttemptState → Type 0
Between a c s = s.phase ≡ SeizingVotes → AreFrom a c s.votes

at_first : (a : AttemptState) (c : Call) (s : AttemptState) → s ≡ a → Between a c s
at_first a c s same is = inr (ap (λ (z : AttemptState). z.phase) (sym same) ∙ is, ap (λ (z : AttemptState). z.votes) same)

-- an end by what it counts
counts_so : (a : AttemptState) (c : Call) (s : AttemptState) (e : AttemptEnd) → AreFrom a c s.votes → EndsSo a c (with_steps (record s { phase = Over }) (step.Ended e ∷ []))
counts_so a c s e from why is = record { installs = refl; starts = refl; votes = λ counting. from }

-- .. and another
other_so : (a : AttemptState) (c : Call) (s : AttemptState) (e : AttemptEnd) → (IsCounting e → ⊥) → EndsSo a c (with_steps s (step.Ended e ∷ []))
other_so a c s e other why is = record { installs = refl; starts = refl; votes = λ counting. absurd (other (subst IsCounting (sym (same_some e why is)) counting)) }

walk : (a : AttemptState) (c : Call) → Walk c (λ s. s ≡ a) (Between a c) (EndsSo a c)
unfolding asked_next installing
walk a c = record {
  within = λ s i. at_first a c s i;
  rests = λ s i. quiet_so a c s [] quiet_none;
  passes = λ s is e i. quiet_so a c (record s { ticks = later s.ticks }) [] quiet_none;
  again = λ s is e i. quiet_so a c (record s { ticks = later s.ticks }) (again_in (record s { ticks = later s.ticks }) s.phase) (quiet_again_in (record s { ticks = later s.ticks }) s.phase);
  silent = λ s n is late least i. other_so a c _ (end.Silent n) (λ h. h);
  superseded = λ s from m q is nack i. other_so a c _ (end.Superseded q) (λ h. h);
  promise = λ s from m p is awaited of promised i. at_first a c s i;
  collects = λ s is e k. quiet_so a c s (collects s) (quiet_collects s);
  collecting = λ s is e k. quiet_so a c s [] quiet_none;
  no_newest = λ s is all none k. quiet_so a c s [] quiet_none;
  chosen = λ s newest is all some k why ends. absurd (none_some why ends);
  votes = λ s both is i phase. inl (both, is, refl);
  foreign = λ s both n is given least k. counts_so a c s (end.Foreign n) (k is);
  excluded = λ s n is least k. other_so a c _ (end.Excluded n) (λ h. h);
  impossible = λ s e is short k. counts_so a c s e (k is);
  entries = λ s is enough k. k;
  requests = λ s is e k. quiet_so a c s (filter_map (request_for s.plan) s.devices) (quiet_requests s.plan s.devices);
  result = λ s d from r e is tells found none i. at_first a c s i;
  next = λ s d from n r e is tells found next i. quiet_so a c _ _ (quiet_asked s.plan e.kind d n);
  seizing = λ s is e k. quiet_so a c s [] quiet_none;
  short = λ s e is all few k. counts_so a c s e (k is);
  others = λ s is all enough some k. quiet_so a c _ _ (quiet_requests s.plan (plain_devices s));
  installs_at_once = λ s is all enough none k. quiet_so a c _ _ (quiet_installed (in_phase (record s { counted = held_set s.devices }) Installing));
  installs = λ s is all k. quiet_so a c _ _ (quiet_installed (in_phase s Installing));
  ready = λ s from m is at of ready_body i. at_first a c s i;
  own = λ s is at i. at_first a c s i;
  installing = λ s at e k. quiet_so a c s [] quiet_none;
  starts = λ s at e k why ends. absurd (none_some why (sym (quiet_starts s).end ∙ ends));
}

pub call_ends_so : (a : AttemptState) (c : Call) (why : AttemptEnd) → end_in (turn a c).steps ≡ Some why → EndSo a c (turn a c) why
call_ends_so a c why is = walks (λ s. s ≡ a) (Between a c) (EndsSo a c) a c (walk a c) refl why is

-- ---- at its beginning no attempt ends

pub begins_alive : (p members : ℕ) (own : Message) (attached : List AttachedDevice) (cluster : ℕ) → end_in (beginning p members own attached cluster).steps ≡ None
unfolding beginning choosing
begins_alive p members own attached cluster = by_begun (first_state p members own attached cluster (promises_of (promised_by own (shown_by own.sender own.body))))
  where
    by_chosen : (s : AttemptState) (o : Option Shown) → end_in (chosen_by s o).steps ≡ None
    by_chosen s None = refl
    by_chosen s (Some newest) = refl

    by_begun : (s : AttemptState) → end_in (begun s).steps ≡ None
    by_begun s = if_either (λ t. end_in t.steps ≡ None) (all_promised s) (choosing s) (with_steps s (collects s)) (by_chosen s (newest_shown s.promises)) (quiet_collects s).end
