-- Each call on an attempt leaves it bounded, and gives few steps.
use Rattle.std.specs.Prelude.{ℕ, ◌+◌, ◌≡◌, ◌≤◌, ◌++◌, List, [], ◌∷◌, Option, None, Some, length, map}
use Rattle.std.proofs.Common.{refl, sym, subst, arith}
use Rattle.std.specs.List.{filter_map}
use Rattle.std.proofs.lemmas.List.{length-append}
use Rattle.cmm_attempt.specs.declared.attached.AttachedDevice.{AttachedDevice}
use Rattle.cmm_attempt.specs.declared.counting.BothVotes.{BothVotes}
use Rattle.cmm_attempt.specs.declared.phase.Phase.{Phase}
use Rattle.cmm_attempt.specs.declared.phase.Phase.TheVariants.{Collecting, Choosing, SeizingVotes, SeizingOthers, Installing, Over}
use Rattle.cmm_attempt.specs.declared.plan.Plan.{Plan}
use Rattle.cmm_attempt.specs.declared.seizing.Seizing.{Seizing}
use Rattle.cmm_attempt.specs.declared.step.Step.{Step}
use Rattle.cmm_attempt.specs.declared.step.Step.TheVariants.{InstallHere, StartHere}
use Rattle.cmm_attempt.specs.Attempts.{AttemptState, Turn, again_in, asked_next, beginning, collects, first_state, in_phase, install_in, installing, installs, later, plain_devices, promises_of, silent_others, vote_entries_under}
use Rattle.cmm_attempt.specs.Calls.{Call, May, Tick, turn}
use Rattle.cmm_attempt.specs.Counts.{vote_new}
use Rattle.cmm_attempt.specs.Installs.{send_start}
use Rattle.cmm_attempt.specs.Plans.{others_of}
use Rattle.cmm_attempt.specs.Promises.{promised_by, shown_by}
use Rattle.cmm_attempt.specs.Seizings.{again_for, held_set, plain_new, request_for, with_next, with_result}
use Rattle.attempt_laws.proofs.Steady.{Steady, walk as steady_walk}
use Rattle.attempt_laws.proofs.Walk.{Walk, walks, walks_begun}
use Rattle.wire.specs.declared.message.Message.{Message}
use Rattle.refinement.specs.node_bounds.Bounded.{AttemptIsBounded, PartsAreBounded, most_seizings}
use Rattle.refinement.proofs.node_bounds.Counts.{filtered_few, found_few, mapped_few, numbers_few}

-- What an attempt keeps.

few_at_most : (phase : Phase) → most_seizings phase ≤ 32
few_at_most Collecting = omega arith
few_at_most Choosing = omega arith
few_at_most SeizingVotes = omega arith
few_at_most SeizingOthers = omega arith
few_at_most Installing = omega arith
few_at_most Over = omega arith

below : (a b c : ℕ) → a ≤ b → b ≤ c → a ≤ c
below a b c h k = omega (arith, h, k)

few_devices : (plan : Plan) (devices : List Seizing) (phase : Phase) → PartsAreBounded plan devices phase → length devices ≤ 32
few_devices plan devices phase h = below (length devices) (most_seizings phase) 32 h.seizings (few_at_most phase)

with_devices : (plan : Plan) (devices new : List Seizing) (phase next : Phase) → length new ≤ most_seizings next → PartsAreBounded plan devices phase → PartsAreBounded plan new next
with_devices plan devices new phase next few h = record { members = h.members; attached = h.attached; seizings = few }

-- the attempt is in this phase, in which there may be so many
in_votes : (phase : Phase) (k : ℕ) → phase ≡ SeizingVotes → k ≤ 16 → k ≤ most_seizings phase
in_votes phase k is few = subst (λ p. k ≤ most_seizings p) (sym is) few

votes_few : (s : AttemptState) (o : Option BothVotes) → length s.plan.attached ≤ 16 → length (vote_entries_under s o) ≤ 16
votes_few s None h = omega arith
votes_few s (Some both) h = found_few (vote_new s.plan s.promises both) s.plan.attached 16 h

plains_few : (s : AttemptState) → length s.plan.attached ≤ 16 → length (plain_devices s) ≤ 16
plains_few s h = found_few (plain_new s.plan s.devices) s.plan.attached 16 h

-- the quorum devices and the others
both_few : (s : AttemptState) → s.phase ≡ SeizingVotes → AttemptIsBounded s → length (s.devices ++ plain_devices s) ≤ 32
both_few s is h =
    sum (length s.devices) (length (plain_devices s)) (length (s.devices ++ plain_devices s)) (length-append s.devices (plain_devices s))
    (subst (λ phase. length s.devices ≤ most_seizings phase) is h.seizings) (plains_few s h.attached)
  where
    sum : (a b c : ℕ) → c ≡ a + b → a ≤ 16 → b ≤ 16 → c ≤ 32
    sum a b c e h k = omega (arith, e, h, k)

-- The small steps of a call.

steady : (c : Call) → Steady c AttemptIsBounded AttemptIsBounded
steady c = record {
  within = λ s i. i;
  ticked = λ s i. i;
  over = λ s k. with_devices s.plan s.devices s.devices s.phase Over (few_devices s.plan s.devices s.phase k) k;
  promise = λ s from m p is awaited of promised i. i;
  collecting = λ s is e k. k;
  no_newest = λ s is all none k. k;
  chosen = λ s newest is all some k. with_devices s.plan s.devices s.devices s.phase Choosing (few_devices s.plan s.devices s.phase k) k;
  votes = λ s both is i. with_devices s.plan s.devices [] s.phase SeizingVotes (omega arith) i;
  entries = λ s is k.
      with_devices s.plan s.devices (vote_entries_under s s.votes) s.phase s.phase (in_votes s.phase (length (vote_entries_under s s.votes)) is (votes_few s s.votes k.attached)) k;
  result = λ s d from r is tells i.
      with_devices s.plan s.devices (map (with_result d r) s.devices) s.phase s.phase (mapped_few (with_result d r) s.devices (most_seizings s.phase) i.seizings) i;
  next = λ s d n e kind r is found i.
      with_devices s.plan s.devices (map (with_next d n) s.devices) s.phase s.phase (mapped_few (with_next d n) s.devices (most_seizings s.phase) i.seizings) i;
  seizing = λ s is e k. k;
  counted = λ s is h k. k;
  others = λ s is ne k. with_devices s.plan s.devices (s.devices ++ plain_devices s) s.phase SeizingOthers (both_few s is k) k;
  installs = λ s is k. with_devices s.plan s.devices s.devices s.phase Installing (few_devices s.plan s.devices s.phase k) k;
  ready = λ s from m is at of ready_body i. i;
  own = λ s is at i. i;
  installing = λ s at e k. k;
}

-- The steps.

silent_few : (s : AttemptState) → AttemptIsBounded s → length (silent_others s) ≤ 32
silent_few s h = filtered_few _ s.plan.nodes 32 h.members

collects_few : (s : AttemptState) → AttemptIsBounded s → length (collects s) ≤ 32
collects_few s h = mapped_few _ (silent_others s) 32 (silent_few s h)

installs_few : (s : AttemptState) → AttemptIsBounded s → length (installs s) ≤ 32
installs_few s h = mapped_few _ (silent_others s) 32 (silent_few s h)

one_more : (n : ℕ) → n ≤ 32 → n ≤ 33
one_more n h = omega (arith, h)

-- the coordinator's own first
one_before : (first : Step) (steps : List Step) → length steps ≤ 32 → length (first ∷ steps) ≤ 33
one_before first steps h = omega (arith, h)

again_few : (s : AttemptState) (phase : Phase) → AttemptIsBounded s → length (again_in s phase) ≤ 32
again_few s Collecting h = collects_few s h
again_few s Choosing h = omega arith
again_few s SeizingVotes h = found_few (again_for s.plan) s.devices 32 (few_devices s.plan s.devices s.phase h)
again_few s SeizingOthers h = found_few (again_for s.plan) s.devices 32 (few_devices s.plan s.devices s.phase h)
again_few s Installing h = installs_few s h
again_few s Over h = omega arith

-- at most one to each node, and one of the coordinator's own
abbrev pub IsBrief : Turn → Type 0
IsBrief u = AttemptIsBounded u.after × (length u.steps ≤ 33)

none_of_33 : 0 ≤ 33
none_of_33 = omega arith

one_of_33 : 1 ≤ 33
one_of_33 = omega arith

requests_few : (plan : Plan) (devices : List Seizing) → length devices ≤ 32 → length (filter_map (request_for plan) devices) ≤ 33
requests_few plan devices h = one_more (length (filter_map (request_for plan) devices)) (found_few (request_for plan) devices 32 h)

brief_walk : (c : Call) → Walk c (λ s. AttemptIsBounded s × May s c) AttemptIsBounded IsBrief
unfolding asked_next installing
brief_walk c =
    let W : Walk c (λ s. AttemptIsBounded s × May s c) AttemptIsBounded (λ u. AttemptIsBounded u.after) = steady_walk c AttemptIsBounded AttemptIsBounded (steady c) in
    record {
      within = λ s i. W.within s i;
      rests = λ s i. (i.0, none_of_33);
      passes = λ s is e i. (W.passes s is e i, none_of_33);
      again = λ s is e i. (W.again s is e i, one_more (length (again_in (record s { ticks = later s.ticks }) s.phase)) (again_few (record s { ticks = later s.ticks }) s.phase (W.again s is e i)));
      silent = λ s n is late least i. (W.silent s n is late least i, one_of_33);
      superseded = λ s from m q is nack i. (W.superseded s from m q is nack i, one_of_33);
      promise = λ s from m p is awaited of promised i. W.promise s from m p is awaited of promised i;
      collects = λ s is e k. (W.collects s is e k, one_more (length (collects s)) (collects_few s (W.collects s is e k)));
      collecting = λ s is e k. (W.collecting s is e k, none_of_33);
      no_newest = λ s is all none k. (W.no_newest s is all none k, none_of_33);
      chosen = λ s newest is all some k. (W.chosen s newest is all some k, one_of_33);
      votes = λ s both is i. W.votes s both is i;
      foreign = λ s both n is given least k. (W.foreign s both n is given least k, one_of_33);
      excluded = λ s n is least k. (W.excluded s n is least k, one_of_33);
      impossible = λ s e is short k. (W.impossible s e is short k, one_of_33);
      entries = λ s is enough k. W.entries s is enough k;
      requests = λ s is e k. (W.requests s is e k, requests_few s.plan s.devices (few_devices s.plan s.devices s.phase k));
      result = λ s d from r e is tells found none i. W.result s d from r e is tells found none i;
      next = λ s d from n r e is tells found next i. (W.next s d from n r e is tells found next i, one_of_33);
      seizing = λ s is e k. (W.seizing s is e k, none_of_33);
      short = λ s e is all few k. (W.short s e is all few k, one_of_33);
      others = λ s is all enough some k. (W.others s is all enough some k, requests_few s.plan (plain_devices s) (below (length (plain_devices s)) 16 32 (plains_few s k.attached) (omega arith)));
      installs_at_once = λ s is all enough none k.
          let t : AttemptState = in_phase (record s { counted = held_set s.devices }) Installing in
          let i : AttemptIsBounded t = W.installs_at_once s is all enough none k in
          (i, one_before (InstallHere (install_in t)) (installs t) (installs_few t i));
      installs = λ s is all k.
          let t : AttemptState = in_phase s Installing in
          let i : AttemptIsBounded t = W.installs s is all k in
          (i, one_before (InstallHere (install_in t)) (installs t) (installs_few t i));
      ready = λ s from m is at of ready_body i. W.ready s from m is at of ready_body i;
      own = λ s is at i. W.own s is at i;
      installing = λ s at e k. (W.installing s at e k, none_of_33);
      starts = λ s at e k. (
        W.starts s at e k,
        one_before StartHere (map (send_start s.plan) (others_of s.plan)) (mapped_few (send_start s.plan) (others_of s.plan) 32 (filtered_few _ s.plan.nodes 32 k.members)),
      );
    }

pub turn_is_brief : (s : AttemptState) (c : Call) → May s c → AttemptIsBounded s → IsBrief (turn s c)
turn_is_brief s c may h = walks (λ x. AttemptIsBounded x × May x c) AttemptIsBounded IsBrief s c (brief_walk c) (h, may)

-- an attempt begins
pub first_is_brief : (p members : ℕ) (own : Message) (attached : List AttachedDevice) (cluster : ℕ) → length attached ≤ 16 → IsBrief (beginning p members own attached cluster)
unfolding beginning
first_is_brief p members own attached cluster few =
    walks_begun Tick (λ s. AttemptIsBounded s × May s Tick) AttemptIsBounded IsBrief (brief_walk Tick)
    (first_state p members own attached cluster (promises_of (promised_by own (shown_by own.sender own.body)))) refl
    (record { members = numbers_few members 32; attached = few; seizings = omega arith })
