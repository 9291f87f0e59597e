-- A membership starts only where the votes were found enough.
use Rattle.std.proofs.Common.{◌≡◌, ℕ, ◌+◌, ◌*◌, ◌/◌, ◌<◌, ◌≤◌, List, [], ◌∷◌, ◌++◌, map, refl, sym, ap, subst, ◌∙◌, arith}
use Rattle.std.specs.Prelude.{◌&&◌, nat_lt, Bool, true, false, Option, Some, None, if◌then◌else◌}
use Rattle.std.specs.List.{filter_map}
use Rattle.quorum_votes.specs.Tables.{VoteTable}
use Rattle.quorum_votes.specs.Votes.{held_of, needed_of, total_of}
use Rattle.quorum_votes.specs.Quorum.{IsMajority}
use Rattle.cl_base.specs.Seizings.{SeizeResult}
use Rattle.wire.specs.declared.message.Message.{Message}
use Rattle.cmm_attempt.specs.declared.attached.AttachedDevice.{AttachedDevice}
use Rattle.cmm_attempt.specs.declared.seizing.Seizing.{Seizing}
use Rattle.cmm_attempt.specs.declared.counting.BothVotes.{BothVotes}
use Rattle.cmm_attempt.specs.declared.phase.Phase.{Phase}
use Rattle.cmm_attempt.specs.declared.phase.Phase.TheVariants.{Collecting, Choosing, SeizingVotes, SeizingOthers, Installing, Over}
use Rattle.cmm_attempt.specs.declared.step.Step.{Step}
use Rattle.cmm_attempt.specs.declared.step.Step.TheVariants.{StartHere}
use Rattle.cmm_attempt.specs.declared.step.AttemptEnd.{AttemptEnd}
use Rattle.cmm_attempt.specs.declared.step.AttemptEnd.TheVariants.{Silent, Superseded, Foreign, Excluded}
use Rattle.cmm_attempt.specs.Plans.{others_of}
use Rattle.cmm_attempt.specs.Seizings.{with_result, held_set, request_for, with_next}
use Rattle.cmm_attempt.specs.Calls.{Call, Take, With_votes, Own_seized, Own_ready, Tick, turn, Run, starts_in}
use Rattle.cmm_attempt.proofs.Basics.{none_some, false_true, and_cases}
use Rattle.attempt_laws.specs.Laws.{IsMajorityPending, HasVotes, CountsHeld, IsStarted, StartsAreCounted, EndsOnce}
use Rattle.attempt_laws.proofs.QuietLemmas.{IsQuiet, quiet_none, quiet_collects, quiet_installed, quiet_asked, quiet_requests, quiet_again_in}
use Rattle.attempt_laws.proofs.StillHeld.{counts_now, counts_appended, counts_with_result, counts_with_next}
use Rattle.attempt_laws.proofs.Walk.{Walk, walks, walks_begun}
use Rattle.cmm_attempt.specs.Promises.{promised_by, shown_by}
use Rattle.cmm_attempt.specs.Counts.{is_short, first_short, short_pending, votes_end}
use Rattle.cmm_attempt.specs.Installs.{send_start}
use Rattle.cmm_attempt.specs.Attempts.{AttemptState, Turn, with_steps, ends, is_over, all_ready, in_phase, installing, installed, plain_devices, ended_by, shortage_under, asked_next, vote_entries, collects, first_state, promises_of, beginning, taking, own_readying, own_answering, again_in, later, ticking}

-- The votes that were given are enough with the devices that were counted.

half : (t h : ℕ) → t / 2 + 1 ≤ h → t < 2 * h
half t h le = omega (arith, le)

not_short : (a b : ℕ) → nat_lt a b ≡ false → b ≤ a
not_short a b h = grind arith

majority : (v : VoteTable) (members devices : ℕ) → is_short v members devices ≡ false → IsMajority v members devices
majority v members devices h = half (total_of v) (held_of v members devices) (not_short (held_of v members devices) (needed_of v) h)

if_none : (w : VoteTable) (rest : Option VoteTable) (b : Bool) → (if b then Some w else rest) ≡ None → (b ≡ false) × (rest ≡ None)
if_none w rest true h = absurd (none_some w (sym h))
if_none w rest false h = (refl, h)

majority_pending : (o : Option VoteTable) (members devices : ℕ) → short_pending o members devices ≡ None → IsMajorityPending o members devices
majority_pending None members devices h = tt
majority_pending (Some v) members devices h = majority v members devices (if_none v None (is_short v members devices) h).0

majorities : (both : BothVotes) (members devices : ℕ) → first_short both members devices ≡ None
    → IsMajority both.committed members devices × IsMajorityPending both.pending members devices
majorities both members devices h =
    let two : (is_short both.committed members devices ≡ false) × (short_pending both.pending members devices ≡ None) =
    if_none both.committed (short_pending both.pending members devices) (is_short both.committed members devices) h in
    (majority both.committed members devices two.0, majority_pending both.pending members devices two.1)

-- In the phases after the count the votes were enough, with devices that were held then and still are; while quorum devices are seized the
-- votes are there.

abbrev pub HasGiven : Option BothVotes → Type 0
HasGiven None = ⊥
HasGiven (Some both) = Unit {0}

abbrev pub SoundIn : Option BothVotes → ℕ → ℕ → List Seizing → Phase → Type 0
SoundIn votes members counted devices Collecting = Unit {0}
SoundIn votes members counted devices Choosing = Unit {0}
SoundIn votes members counted devices SeizingVotes = HasGiven votes
SoundIn votes members counted devices SeizingOthers = HasVotes votes members counted × CountsHeld counted devices
SoundIn votes members counted devices Installing = HasVotes votes members counted × CountsHeld counted devices
SoundIn votes members counted devices Over = Unit {0}

abbrev pub Sound : AttemptState → Type 0
Sound s = SoundIn s.votes s.plan.members s.counted s.devices s.phase

abbrev Enough : AttemptState → Type 0
Enough s = HasVotes s.votes s.plan.members s.counted × CountsHeld s.counted s.devices

sound_results : (votes : Option BothVotes) (members counted : ℕ) (devices : List Seizing) (d : ℕ) (r : SeizeResult) (phase : Phase)
    → SoundIn votes members counted devices phase → SoundIn votes members counted (map (with_result d r) devices) phase
sound_results votes members counted devices d r Collecting sound = tt
sound_results votes members counted devices d r Choosing sound = tt
sound_results votes members counted devices d r SeizingVotes sound = sound
sound_results votes members counted devices d r SeizingOthers sound = (sound.0, counts_with_result counted devices d r sound.1)
sound_results votes members counted devices d r Installing sound = (sound.0, counts_with_result counted devices d r sound.1)
sound_results votes members counted devices d r Over sound = tt

sound_next : (votes : Option BothVotes) (members counted : ℕ) (devices : List Seizing) (d n : ℕ) (phase : Phase)
    → SoundIn votes members counted devices phase → SoundIn votes members counted (map (with_next d n) devices) phase
sound_next votes members counted devices d n Collecting sound = tt
sound_next votes members counted devices d n Choosing sound = tt
sound_next votes members counted devices d n SeizingVotes sound = sound
sound_next votes members counted devices d n SeizingOthers sound = (sound.0, counts_with_next counted devices d n sound.1)
sound_next votes members counted devices d n Installing sound = (sound.0, counts_with_next counted devices d n sound.1)
sound_next votes members counted devices d n Over sound = tt

enough_by : (s : AttemptState) (devices : ℕ) (both : BothVotes) (w : Option VoteTable) → first_short both s.plan.members devices ≡ w → ended_by s devices w ≡ None
    → HasVotes (Some both) s.plan.members devices
enough_by s devices both None short h = majorities both s.plan.members devices short
enough_by s devices both (Some v) short h = absurd (none_some (votes_end s.plan s.devices devices v) (sym h))

enough_under : (s : AttemptState) (devices : ℕ) (o : Option BothVotes) → HasGiven o → shortage_under s devices o ≡ None → HasVotes o s.plan.members devices
enough_under s devices None given h = absurd given
enough_under s devices (Some both) given h = enough_by s devices both (first_short both s.plan.members devices) refl h

pub record IsKept (t : Turn) : Type 0 where
  pub sound : Sound t.after
  pub start : starts_in t.steps ≡ true → IsStarted t.after

quietly : (s : AttemptState) (steps : List Step) → IsQuiet steps → Sound s → IsKept (with_steps s steps)
quietly s steps q sound = record { sound = sound; start = λ h. absurd (false_true (sym q.start ∙ h)) }

ending : (s : AttemptState) (e : AttemptEnd) → IsKept (ends s e)
ending s e = record { sound = tt; start = λ h. absurd (false_true h) }

starting : (s : AttemptState) → Enough s → (s.own_ready && all_ready s) ≡ true
    → IsKept (with_steps (record s { phase = Over }) (StartHere ∷ map (send_start s.plan) (others_of s.plan)))
starting s enough h =
    let two : (s.own_ready ≡ true) × (all_ready s ≡ true) = and_cases s.own_ready (all_ready s) h in
    record { sound = tt; start = λ _. record { own = two.0; ready = two.1; votes = enough.0; devices = enough.1 } }

-- what is known in the phase
there : (s : AttemptState) (phase : Phase) → s.phase ≡ phase → Sound s → SoundIn s.votes s.plan.members s.counted s.devices phase
there s phase is k = subst (SoundIn s.votes s.plan.members s.counted s.devices) is k

enough_now : (s : AttemptState) → s.phase ≡ SeizingVotes → shortage_under s (held_set s.devices) s.votes ≡ None → Sound s
    → HasVotes s.votes s.plan.members (held_set s.devices) × CountsHeld (held_set s.devices) s.devices
enough_now s is enough k = (enough_under s (held_set s.devices) s.votes (there s SeizingVotes is k) enough, counts_now s.devices)

walk : (c : Call) → Walk c Sound Sound IsKept
unfolding asked_next installing
walk c = record {
  within = λ s i. i;
  rests = λ s i. quietly s [] quiet_none i;
  passes = λ s is e i. quietly (record s { ticks = later s.ticks }) [] quiet_none i;
  again = λ s is e i. quietly (record s { ticks = later s.ticks }) (again_in (record s { ticks = later s.ticks }) s.phase) (quiet_again_in (record s { ticks = later s.ticks }) s.phase) i;
  silent = λ s n is late least i. ending (record s { ticks = later s.ticks }) (Silent n);
  superseded = λ s from m q is nack i. ending s (Superseded q);
  promise = λ s from m p is awaited of promised i. i;
  collects = λ s is e k. quietly s (collects s) (quiet_collects s) k;
  collecting = λ s is e k. quietly s [] quiet_none k;
  no_newest = λ s is all none k. quietly s [] quiet_none k;
  chosen = λ s newest is all some k. record { sound = tt; start = λ h. absurd (false_true h) };
  votes = λ s both is i. tt;
  foreign = λ s both n is given least k. ending s (Foreign n);
  excluded = λ s n is least k. ending s (Excluded n);
  impossible = λ s e is short k. ending s e;
  entries = λ s is enough k.
      subst (SoundIn s.votes s.plan.members s.counted (vote_entries s)) (sym is) (there s SeizingVotes is k);
  requests = λ s is e k. quietly s (filter_map (request_for s.plan) s.devices) (quiet_requests s.plan s.devices) k;
  result = λ s d from r e is tells found none i. sound_results s.votes s.plan.members s.counted s.devices d r s.phase i;
  next = λ s d from n r e is tells found next i.
      quietly (record s { devices = map (with_next d n) s.devices; ticks = 0 }) _ (quiet_asked s.plan e.kind d n)
      (sound_next s.votes s.plan.members s.counted s.devices d n s.phase i);
  seizing = λ s is e k. quietly s [] quiet_none k;
  short = λ s e is all few k. ending s e;
  others = λ s is all enough some k.
      let two : HasVotes s.votes s.plan.members (held_set s.devices) × CountsHeld (held_set s.devices) s.devices = enough_now s is enough k in
      quietly (record (in_phase s SeizingOthers) { counted = held_set s.devices; devices = s.devices ++ plain_devices s }) (filter_map (request_for s.plan) (plain_devices s))
      (quiet_requests s.plan (plain_devices s)) (two.0, counts_appended (held_set s.devices) s.devices (plain_devices s) two.1);
  installs_at_once = λ s is all enough none k.
      let t : AttemptState = in_phase (record s { counted = held_set s.devices }) Installing in
      quietly t (installed t).steps (quiet_installed t) (enough_now s is enough k);
  installs = λ s is all k. quietly (in_phase s Installing) (installed (in_phase s Installing)).steps (quiet_installed (in_phase s Installing)) (there s SeizingOthers is k);
  ready = λ s from m is at of ready_body i. i;
  own = λ s is at i. i;
  installing = λ s at e k. quietly s [] quiet_none k;
  starts = λ s at e k. starting s (there s Installing at k) e;
}

pub kept_by_call : (s : AttemptState) (c : Call) → Sound s → IsKept (turn s c)
kept_by_call s c sound = walks Sound Sound IsKept s c (walk c) sound

sound_run : (s : AttemptState) (calls : List Call) (t : AttemptState) → Sound s → Run s calls t → Sound t
sound_run s [] t sound run = subst Sound (sym run) sound
sound_run s (c ∷ calls) t sound run = sound_run (turn s c).after calls t (kept_by_call s c sound).sound run.1

pub sound_from : (p members : ℕ) (own : Message) (attached : List AttachedDevice) (cluster : ℕ) (calls : List Call) (s : AttemptState)
    → Run (beginning p members own attached cluster).after calls s → Sound s
unfolding beginning
sound_from p members own attached cluster calls s run =
    sound_run (beginning p members own attached cluster).after calls s
    (walks_begun Tick Sound Sound IsKept (walk Tick) (first_state p members own attached cluster (promises_of (promised_by own (shown_by own.sender own.body)))) refl tt).sound run

pub starts_are_counted : StartsAreCounted
starts_are_counted p members own attached cluster calls s c run may h = (kept_by_call s c (sound_from p members own attached cluster calls s run)).start h

-- Once over, no call does anything.

is_over_there : (s : AttemptState) → s.phase ≡ Over → is_over s.phase ≡ true
is_over_there s h = ap is_over h

abbrev IsOnlyOver : Phase → Type 0
IsOnlyOver Over = ⊥
IsOnlyOver Choosing = Unit {0}
IsOnlyOver Collecting = Unit {0}
IsOnlyOver SeizingVotes = Unit {0}
IsOnlyOver SeizingOthers = Unit {0}
IsOnlyOver Installing = Unit {0}

not_choosing : (s : AttemptState) → s.phase ≡ Over → s.phase ≡ Choosing → ⊥
not_choosing s h k = subst IsOnlyOver (sym k ∙ h) tt

pub ends_once : EndsOnce
unfolding taking own_answering own_readying ticking
ends_once s (Take from m) over may = rw (is_over_there s over) refl
ends_once s (With_votes both) over may = absurd (not_choosing s over may)
ends_once s (Own_seized d r) over may = rw over refl
ends_once s Own_ready over may = rw over refl
ends_once s Tick over may = rw (is_over_there s over) refl
