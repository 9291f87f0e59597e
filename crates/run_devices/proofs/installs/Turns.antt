-- How the seizings of an attempt ended is as it was told, before the attempt installs and as it installs.
use Rattle.std.specs.Prelude.{ℕ, ◌≡◌, true, List}
use Rattle.std.proofs.Common.{refl, sym, ap, subst, ◌∙◌, inl, inr}
use Rattle.attempt_laws.proofs.Walk.{IsSeizing, TellsResult, Walk, walks, walks_begun}
use Rattle.attempt_laws.specs.Asking.{AreApart, entry_numbers, numbers_of}
use Rattle.attempt_laws.specs.Staying.{IsBefore}
use Rattle.cl_base.specs.Seizings.{SeizeResult}
use Rattle.cmm_attempt.specs.Attempts.{AttemptState, Turn, asked_next, beginning, ends, first_state, installing, later, plain_devices, promises_of}
use Rattle.cmm_attempt.specs.Calls.{Call, Own_ready, Own_seized, Take, Tick, With_votes, turn}
use Rattle.cmm_attempt.specs.Promises.{promised_by, shown_by}
use Rattle.cmm_attempt.specs.Seizings.{all_settled, with_next, with_result}
use Rattle.cmm_attempt.specs.declared.attached.AttachedDevice.{AttachedDevice}
use Rattle.cmm_attempt.specs.declared.phase.Phase.{Phase}
use Rattle.cmm_attempt.specs.declared.phase.Phase.TheVariants.{Choosing, Collecting, Installing, Over, SeizingOthers, SeizingVotes}
use Rattle.cmm_attempt.specs.declared.plan.Plan.{Plan}
use Rattle.cmm_attempt.specs.declared.step.AttemptEnd.TheVariants as end
use Rattle.wire.specs.declared.message.Body.TheVariants as body
use Rattle.wire.specs.declared.message.Message.{Message}
use Rattle.run_history.proofs.Lists.{both}
use Rattle.run_seizings.proofs.Progress.{no_truth}
use Rattle.run_devices.proofs.readings.Apart.{nexts_apart, plain_apart, results_apart, votes_apart}
use Rattle.run_devices.proofs.installs.Entries.{AllEnded, EntryEnded, Fact, Within, append_within, entries_ended, mapped_within, next_same, nexts_ended, plains_ended, plains_within, result_same, results_ended, votes_within}

-- ---- each call

tells_at : (c : Call) (s a : AttemptState) (d n : ℕ) (r : SeizeResult) → s.plan ≡ a.plan → TellsResult c s d n r → TellsResult c a d n r
tells_at (Take from m) s a d n r same tells = (tells.0, tells.1 ∙ ap (λ (p : Plan). body.Seized p.epoch d r) same)
tells_at (Own_seized device told) s a d n r same tells = (tells.0, tells.1, tells.2 ∙ ap (λ (p : Plan). p.coordinator) same)
tells_at (With_votes votes) s a d n r same tells = absurd tells
tells_at Own_ready s a d n r same tells = absurd tells
tells_at Tick s a d n r same tells = absurd tells

-- the seizings of an attempt ended so, and are of devices apart, which are those of its plan
abbrev pub Rests : Fact → AttemptState → Type 0
Rests P s = AllEnded P s.devices × AreApart (entry_numbers s.devices) × Within s.plan.attached s.devices

-- between the small steps of a call, and at rest
abbrev Stands : Fact → AttemptState → AttemptState → Type 0
Stands P a s = (s.plan ≡ a.plan) × IsBefore s.phase × (IsSeizing s.phase → Rests P s)

-- .. and once it installs, each has a result
abbrev pub EndsSo : Fact → AttemptState → Type 0
EndsSo P s = (IsSeizing s.phase → Rests P s) × (s.phase ≡ Installing → Rests P s × (all_settled s.devices ≡ true))

abbrev Ends : Fact → Turn → Type 0
Ends P t = EndsSo P t.after

pub before_seizing : (phase : Phase) → IsSeizing phase → IsBefore phase
before_seizing phase (inl is) = subst IsBefore (sym is) tt
before_seizing phase (inr is) = subst IsBefore (sym is) tt

pub no_install : (phase : Phase) → IsBefore phase → phase ≡ Installing → ⊥
no_install phase before is = subst IsBefore is before

pub none_over : IsSeizing Over → ⊥
none_over (inl is) = before_over is
  where
    before_over : Over ≡ SeizingVotes → ⊥
    before_over is = cc
none_over (inr is) = before_over is
  where
    before_over : Over ≡ SeizingOthers → ⊥
    before_over is = cc

pub none_installing : IsSeizing Installing → ⊥
none_installing is = before_seizing Installing is

pub none_choosing : IsSeizing Choosing → ⊥
none_choosing (inl is) = other is
  where
    other : Choosing ≡ SeizingVotes → ⊥
    other is = cc
none_choosing (inr is) = other is
  where
    other : Choosing ≡ SeizingOthers → ⊥
    other is = cc

over_no : Over ≡ Installing → ⊥
over_no is = cc

stays : (P : Fact) (a s : AttemptState) → Stands P a s → EndsSo P s
stays P a s k = (k.2, λ is. absurd (no_install s.phase k.1 is))

over : (P : Fact) (s : AttemptState) → s.phase ≡ Over → EndsSo P s
over P s is = (
  λ seizing. absurd (none_over (subst IsSeizing is seizing)),
  λ installs. absurd (over_no (sym is ∙ installs)),
)

walk : (P : Fact) (a : AttemptState) (c : Call) → AreApart (numbers_of a.plan.attached) → ((d from : ℕ) (r : SeizeResult) → TellsResult c a d from r → P d from r)
    → Walk c (Stands P a) (Stands P a) (Ends P)
unfolding asked_next installing
walk P a c attached tells = record {
  within = λ s i. i;
  rests = λ s i. stays P a s i;
  passes = λ s is e i. stays P a (record s { ticks = later s.ticks }) i;
  again = λ s is e i. stays P a (record s { ticks = later s.ticks }) i;
  silent = λ s n is late least i. over P (ends (record s { ticks = later s.ticks }) (end.Silent n)).after refl;
  superseded = λ s from m q is body i. over P (ends s (end.Superseded q)).after refl;
  promise = λ s from m p is awaited of promised i. i;
  collects = λ s is e k. stays P a s k;
  collecting = λ s is e k. stays P a s k;
  no_newest = λ s is all none k. stays P a s k;
  chosen = λ s newest is all some k. (λ seizing. absurd (none_choosing seizing), λ installs. absurd (no_install Choosing tt installs));
  votes = λ s both_votes is i. (i.0, tt, λ seizing. (tt, tt, λ d is. absurd (no_truth is)));
  foreign = λ s both_votes n is votes least k. over P (ends s (end.Foreign n)).after refl;
  excluded = λ s n is least k. over P (ends s (end.Excluded n)).after refl;
  impossible = λ s e is short k. over P (ends s e).after refl;
  entries = λ s is enough k. (
    k.0,
    k.1,
    λ seizing. (
      entries_ended P s s.votes,
      votes_apart s s.votes (subst (λ (p : Plan). AreApart (numbers_of p.attached)) (sym k.0) attached),
      votes_within s s.votes,
    ),
  );
  requests = λ s is e k. stays P a s k;
  result = λ s d from r e is told found none i.
      let old : Rests P s = i.2 is in (
        i.0,
        i.1,
        λ seizing. (
          results_ended P d from r e s.devices old.1 found (tells d from r (tells_at c s a d from r i.0 told)) old.0,
          results_apart d r s.devices old.1,
          mapped_within s.plan.attached (with_result d r) (result_same d r) s.devices old.2,
        ),
      );
  next = λ s d from n r e is told found next i.
      let old : Rests P s = i.2 is in (
        λ seizing. (
          nexts_ended P d n s.devices old.0,
          nexts_apart d n s.devices old.1,
          mapped_within s.plan.attached (with_next d n) (next_same d n) s.devices old.2,
        ),
        λ installs. absurd (no_install s.phase i.1 installs),
      );
  seizing = λ s is e k. stays P a s k;
  short = λ s e is all few k. over P (ends s e).after refl;
  others = λ s is all enough some k.
      let old : Rests P s = k.2 (inl is) in (
        λ seizing. (
          both (EntryEnded P) s.devices (plain_devices s) old.0 (plains_ended P s.plan s.devices s.plan.attached),
          plain_apart s (subst (λ (p : Plan). AreApart (numbers_of p.attached)) (sym k.0) attached) old.1,
          append_within s.plan.attached s.devices (plain_devices s) old.2 (plains_within s),
        ),
        λ installs. absurd (no_install SeizingOthers tt installs),
      );
  installs_at_once = λ s is all enough none k. (λ seizing. absurd (none_installing seizing), λ installs. (k.2 (inl is), all));
  installs = λ s is all k. (λ seizing. absurd (none_installing seizing), λ installs. (k.2 (inr is), all));
  ready = λ s from m is at of body i. absurd (no_install s.phase i.1 at);
  own = λ s is at i. absurd (no_install s.phase i.1 at);
  installing = λ s at e k. absurd (no_install s.phase k.1 at);
  starts = λ s at e k. absurd (no_install s.phase k.1 at);
}

pub turn_ends : (P : Fact) (a : AttemptState) (c : Call) → AreApart (numbers_of a.plan.attached) → ((d from : ℕ) (r : SeizeResult) → TellsResult c a d from r → P d from r)
    → IsBefore a.phase → (IsSeizing a.phase → Rests P a) → EndsSo P (turn a c).after
turn_ends P a c attached tells before k = walks (Stands P a) (Stands P a) (Ends P) a c (walk P a c attached tells) (refl, before, k)

-- ---- an attempt begins

pub none_collecting : IsSeizing Collecting → ⊥
none_collecting (inl is) = other is
  where
    other : Collecting ≡ SeizingVotes → ⊥
    other is = cc
none_collecting (inr is) = other is
  where
    other : Collecting ≡ SeizingOthers → ⊥
    other is = cc

pub first_ends : (P : Fact) (p members : ℕ) (own : Message) (attached : List AttachedDevice) (cluster : ℕ) → AreApart (numbers_of attached)
    → EndsSo P (beginning p members own attached cluster).after
unfolding beginning
first_ends P p members own attached cluster apart =
    let s : AttemptState = first_state p members own attached cluster (promises_of (promised_by own (shown_by own.sender own.body))) in
    walks_begun Tick (Stands P s) (Stands P s) (Ends P) (walk P s Tick apart (λ d from r tells. absurd tells)) s refl
    (refl, tt, λ seizing. absurd (none_collecting seizing))
