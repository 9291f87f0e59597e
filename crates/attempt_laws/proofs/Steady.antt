-- What holds of an attempt at rest is kept by each call, where the small steps keep it.
use Rattle.std.proofs.Common.{◌≡◌, ℕ, inl, inr, List, [], ◌∷◌, ◌++◌, length, map, refl, sym, subst}
use Rattle.std.specs.Prelude.{◌==◌, ◌&&◌, true, false, Some, None}
use Rattle.seize.specs.declared.kind.SeizeKind.{SeizeKind}
use Rattle.cl_base.specs.Seizings.{SeizeResult}
use Rattle.wire.specs.declared.message.Message.{Message}
use Rattle.cmm_attempt.specs.declared.counting.BothVotes.{BothVotes}
use Rattle.cmm_attempt.specs.declared.phase.Phase.TheVariants.{Collecting, Choosing, SeizingVotes, SeizingOthers, Installing, Over}
use Rattle.cmm_attempt.specs.declared.promised.Promised.{Promised}
use Rattle.cmm_attempt.specs.declared.promised.Shown.{Shown}
use Rattle.cmm_attempt.specs.declared.seizing.Seizing.{Seizing}
use Rattle.cmm_attempt.specs.Promises.{promised_by, shown_by, newest_shown}
use Rattle.wire.specs.Kinds.{is_ready}
use Rattle.cmm_attempt.specs.Seizings.{all_settled, held_set, next_by, with_next, with_result}
use Rattle.cmm_attempt.specs.Calls.{Call, Take, With_votes, Own_ready, Tick, turn, May, Run, IsReached}
use Rattle.attempt_laws.proofs.Walk.{IsSeizing, TellsResult, Walk, walks, walks_begun}
use Rattle.cmm_attempt.specs.Attempts.{AttemptState, Turn, all_ready, in_phase, installing, plain_devices, shortage, asked_next, vote_entries, all_promised, first_state, promises_of, begun, beginning, awaits_promise, is_of, later}

-- `I` holds at rest, `K` between the small steps of the call c.
pub record Steady (c : Call) (I K : AttemptState → Type 0) : Type 0 where
  pub within : (s : AttemptState) → I s → K s
  pub ticked : (s : AttemptState) → I s → I (record s { ticks = later s.ticks })
  pub over : (s : AttemptState) → K s → I (record s { phase = Over })
  -- a Promise is taken, and others are awaited; all are there
  pub promise : (s : AttemptState) (from : ℕ) (m : Message) (p : Promised) → c ≡ Take from m → awaits_promise s from s.phase ≡ true → is_of s.plan.epoch m.body ≡ true
      → promised_by m (shown_by from m.body) ≡ Some p → I s → K (record s { promises = s.promises ++ p ∷ [] })
  pub collecting : (s : AttemptState) → s.phase ≡ Collecting → all_promised s ≡ false → K s → I s
  pub no_newest : (s : AttemptState) → s.phase ≡ Collecting → all_promised s ≡ true → newest_shown s.promises ≡ None → K s → I s
  pub chosen : (s : AttemptState) (newest : Shown) → s.phase ≡ Collecting → all_promised s ≡ true → newest_shown s.promises ≡ Some newest → K s
      → I (record (in_phase s Choosing) { newest = newest.summary.node })
  -- the votes are given, and quorum devices are to be seized
  pub votes : (s : AttemptState) (both : BothVotes) → s.phase ≡ Choosing → I s → K (record (in_phase s SeizingVotes) { votes = Some both; devices = [] })
  pub entries : (s : AttemptState) → s.phase ≡ SeizingVotes → K s → K (record s { devices = vote_entries s })
  -- a seizing ends, or the next node is asked
  pub result : (s : AttemptState) (d from : ℕ) (r : SeizeResult) → IsSeizing s.phase → TellsResult c s d from r → I s → K (record s { devices = map (with_result d r) s.devices })
  pub next : (s : AttemptState) (d n : ℕ) (e : Seizing) (kind : SeizeKind) (r : SeizeResult) → IsSeizing s.phase
      → next_by s.plan.cluster s.promises s.plan.nodes e kind r ≡ Some n → I s → I (record s { devices = map (with_next d n) s.devices; ticks = 0 })
  pub seizing : (s : AttemptState) → IsSeizing s.phase → all_settled s.devices ≡ false → K s → I s
  -- the votes are counted, and the other devices are to be seized
  pub counted : (s : AttemptState) → s.phase ≡ SeizingVotes → shortage s (held_set s.devices) ≡ None → K s → K (record s { counted = held_set s.devices })
  pub others : (s : AttemptState) → s.phase ≡ SeizingVotes → (length (plain_devices s) == 0) ≡ false → K s
      → I (record (in_phase s SeizingOthers) { devices = s.devices ++ plain_devices s })
  pub installs : (s : AttemptState) → IsSeizing s.phase → K s → I (in_phase s Installing)
  -- members are ready
  pub ready : (s : AttemptState) (from : ℕ) (m : Message) → c ≡ Take from m → s.phase ≡ Installing → is_of s.plan.epoch m.body ≡ true → is_ready m.body ≡ true → I s
      → K (record s { readies = s.readies ++ record { node = from; message = m } ∷ [] })
  pub own : (s : AttemptState) → c ≡ Own_ready → s.phase ≡ Installing → I s → K (record s { own_ready = true })
  pub installing : (s : AttemptState) → s.phase ≡ Installing → (s.own_ready && all_ready s) ≡ false → K s → I s

-- The walk.

abbrev pub After : (AttemptState → Type 0) → Turn → Type 0
After I t = I t.after

given : (s : AttemptState) (c : Call) (both : BothVotes) → c ≡ With_votes both → May s c → s.phase ≡ Choosing
given s c both is may = subst (May s) is may

pub walk : (c : Call) (I K : AttemptState → Type 0) → Steady c I K → Walk c (λ s. I s × May s c) K (After I)
unfolding asked_next installing
walk c I K S = record {
  within = λ s i. S.within s i.0;
  rests = λ s i. i.0;
  passes = λ s is e i. S.ticked s i.0;
  again = λ s is e i. S.ticked s i.0;
  silent = λ s n is late least i. S.over (record s { ticks = later s.ticks }) (S.within (record s { ticks = later s.ticks }) (S.ticked s i.0));
  superseded = λ s from m q is body i. S.over s (S.within s i.0);
  promise = λ s from m p is awaited of promised i. S.promise s from m p is awaited of promised i.0;
  collects = λ s is e k. S.collecting s is e k;
  collecting = λ s is e k. S.collecting s is e k;
  no_newest = λ s is all none k. S.no_newest s is all none k;
  chosen = λ s newest is all some k. S.chosen s newest is all some k;
  votes = λ s both is i. S.votes s both (given s c both is i.1) i.0;
  foreign = λ s both n is votes least k. S.over s k;
  excluded = λ s n is least k. S.over s k;
  impossible = λ s e is short k. S.over s k;
  entries = λ s is enough k. S.entries s is k;
  requests = λ s is e k. S.seizing s (inl is) e k;
  result = λ s d from r e is tells found none i. S.result s d from r is tells i.0;
  next = λ s d from n r e is tells found next i. S.next s d n e e.kind r is next i.0;
  seizing = λ s is e k. S.seizing s is e k;
  short = λ s e is all few k. S.over s k;
  others = λ s is all enough some k. S.others (record s { counted = held_set s.devices }) is some (S.counted s is enough k);
  installs_at_once = λ s is all enough none k. S.installs (record s { counted = held_set s.devices }) (inl is) (S.counted s is enough k);
  installs = λ s is all k. S.installs s (inr is) k;
  ready = λ s from m is at of body i. S.ready s from m is at of body i.0;
  own = λ s is at i. S.own s is at i.0;
  installing = λ s at e k. S.installing s at e k;
  starts = λ s at e k. S.over s k;
}

pub begun_keeps : (c : Call) (I K : AttemptState → Type 0) → Steady c I K → (s : AttemptState) → s.phase ≡ Collecting → K s → After I (begun s)
begun_keeps c I K S s is k = walks_begun c (λ s. I s × May s c) K (After I) (walk c I K S) s is k

pub call_keeps : (I K : AttemptState → Type 0) (s : AttemptState) (c : Call) → Steady c I K → May s c → I s → I (turn s c).after
call_keeps I K s c S may i = walks (λ s. I s × May s c) K (After I) s c (walk c I K S) (i, may)

run_keeps : (I K : AttemptState → Type 0) → ((c : Call) → Steady c I K) → (s : AttemptState) (calls : List Call) (t : AttemptState) → Run s calls t → I s → I t
run_keeps I K S s [] t run i = subst I (sym run) i
run_keeps I K S s (c ∷ calls) t run i = run_keeps I K S (turn s c).after calls t run.1 (call_keeps I K s c (S c) run.0 i)

-- what holds between steps at the beginning, and is kept by every call, holds of each attempt
pub reached_keeps : (I K : AttemptState → Type 0) → ((c : Call) → Steady c I K) → (s : AttemptState) → (r : IsReached s)
    → K (first_state r.p r.members r.own r.attached r.cluster (promises_of (promised_by r.own (shown_by r.own.sender r.own.body)))) → I s
unfolding beginning
reached_keeps I K S s r k =
    run_keeps I K S (beginning r.p r.members r.own r.attached r.cluster).after r.calls s r.run
    (begun_keeps Tick I K (S Tick) (first_state r.p r.members r.own r.attached r.cluster (promises_of (promised_by r.own (shown_by r.own.sender r.own.body)))) refl k)
