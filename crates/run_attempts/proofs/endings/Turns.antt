-- What a call gives of ends: an attempt is superseded by a Nack that it takes, and ends for want of an answer in a tick; and it sends no Nack.
use Rattle.std.specs.Prelude.{ℕ, ◌<◌, ◌≡◌, ◌==◌, ◌++◌, nat_lt, Bool, true, false, List, [], ◌∷◌, Option, None, Some, is_some, map, if◌then◌else◌}
use Rattle.std.specs.List.{cons_option, filter_map, list_any}
use Rattle.std.proofs.Common.{refl, sym, ap, subst, arith}
use Rattle.attempt_laws.proofs.Asks.{found_among}
use Rattle.attempt_laws.proofs.Walk.{Walk, walks}
use Rattle.cl_base.specs.Seizings.{SeizeResult}
use Rattle.cmm_attempt.proofs.Basics.{if_either, none_some, same_some}
use Rattle.cmm_attempt.specs.Attempts.{AttemptState, Turn, again_in, asked_next, begun, beginning, choosing, chosen_by, collects, ended_by, first_state, in_phase, installing, later, plain_devices, promises_of, shortage_under, silent_others, with_steps, install_in, all_promised, is_missing}
use Rattle.cmm_attempt.specs.Calls.{Call, turn}
use Rattle.cmm_attempt.specs.Counts.{first_foreign, first_short, is_foreign, is_short, short_pending, votes_end}
use Rattle.cmm_attempt.specs.Plans.{others_of}
use Rattle.cmm_attempt.specs.Promises.{first_left_out, is_left_out, newest_shown, promised_by, shown_by}
use Rattle.cmm_attempt.specs.Seizings.{again_by, again_for, held_set, request, request_body, request_by, request_for, with_next}
use Rattle.cmm_attempt.specs.declared.attached.AttachedDevice.{AttachedDevice}
use Rattle.cmm_attempt.specs.declared.counting.BothVotes.{BothVotes}
use Rattle.cmm_attempt.specs.declared.phase.Phase.{Phase}
use Rattle.cmm_attempt.specs.declared.phase.Phase.TheVariants.{Collecting, Choosing, SeizingVotes, SeizingOthers, Installing, Over}
use Rattle.cmm_attempt.specs.declared.plan.Plan.{Plan}
use Rattle.cmm_attempt.specs.declared.promised.Promised.{Promised}
use Rattle.cmm_attempt.specs.declared.promised.Shown.{Shown}
use Rattle.cmm_attempt.specs.declared.seizing.Seizing.{Seizing}
use Rattle.cmm_attempt.specs.declared.step.AttemptEnd.{AttemptEnd}
use Rattle.cmm_attempt.specs.declared.step.Step.{Step}
use Rattle.cmm_attempt.specs.declared.step.Step.TheVariants.{Send, SeizeHere}
use Rattle.quorum_votes.specs.Tables.{VoteTable}
use Rattle.quorum_votes.specs.Votes.{held_of, needed_of}
use Rattle.refinement.specs.Guards.{Says}
use Rattle.refinement.specs.Ties.{Delivered}
use Rattle.seize.specs.declared.kind.SeizeKind.{SeizeKind}
use Rattle.seize.specs.declared.kind.SeizeKind.TheVariants.{Vote, Plain}
use Rattle.wire.specs.declared.message.Body.{Body}
use Rattle.wire.specs.declared.message.Body.TheVariants as body
use Rattle.wire.specs.declared.message.Message.{Message}
use Rattle.run_attempts.specs.endings.Steps.{CallFits, EndSo, NoNack, StepFits, StepsFit}

-- ---- what is sent

sent_fit : (told : Delivered) (ticks : Bool) (t : AttemptState) (sender : ℕ) (b : Body) (ns : List ℕ) → NoNack b → StepsFit told ticks t (map (λ n. Send n (record { sender = sender; body = b })) ns)
sent_fit told ticks t sender b [] h = tt
sent_fit told ticks t sender b (n ∷ ns) h = (h, sent_fit told ticks t sender b ns h)

abbrev MaybeFits : Delivered → Bool → AttemptState → Option Step → Type 0
MaybeFits told ticks t None = Unit {0}
MaybeFits told ticks t (Some s) = StepFits told ticks t s

with_fits : (told : Delivered) (ticks : Bool) (t : AttemptState) (o : Option Step) (steps : List Step) → MaybeFits told ticks t o → StepsFit told ticks t steps → StepsFit told ticks t (cons_option o steps)
with_fits told ticks t None steps h k = k
with_fits told ticks t (Some s) steps h k = (h, k)

request_body_fits : (plan : Plan) (kind : SeizeKind) (d : ℕ) → NoNack (request_body plan kind d)
request_body_fits plan Vote d = tt
request_body_fits plan Plain d = tt

request_fits : (told : Delivered) (ticks : Bool) (t : AttemptState) (plan : Plan) (kind : SeizeKind) (d n : ℕ) → StepFits told ticks t (request plan kind d n)
request_fits told ticks t plan kind d n =
    if_either (StepFits told ticks t) (n == plan.coordinator) (SeizeHere d kind) (Send n (record { sender = plan.coordinator; body = request_body plan kind d })) tt (request_body_fits plan kind d)

request_by_fits : (told : Delivered) (ticks : Bool) (t : AttemptState) (plan : Plan) (x : Seizing) (r : Option SeizeResult) (o : Option ℕ) → MaybeFits told ticks t (request_by plan x r o)
request_by_fits told ticks t plan x None (Some n) = request_fits told ticks t plan x.kind x.attached.device n
request_by_fits told ticks t plan x None None = tt
request_by_fits told ticks t plan x (Some r) o = tt

requests_fit : (told : Delivered) (ticks : Bool) (t : AttemptState) (plan : Plan) (xs : List Seizing) → StepsFit told ticks t (filter_map (request_for plan) xs)
requests_fit told ticks t plan [] = tt
requests_fit told ticks t plan (x ∷ xs) = with_fits told ticks t (request_for plan x) (filter_map (request_for plan) xs) (request_by_fits told ticks t plan x x.result x.seizer) (requests_fit told ticks t plan xs)

again_by_fits : (told : Delivered) (ticks : Bool) (t : AttemptState) (plan : Plan) (x : Seizing) (r : Option SeizeResult) (o : Option ℕ) → MaybeFits told ticks t (again_by plan x r o)
again_by_fits told ticks t plan x None (Some n) =
    if_either (MaybeFits told ticks t) (n == plan.coordinator) None (Some (request plan x.kind x.attached.device n)) tt (request_fits told ticks t plan x.kind x.attached.device n)
again_by_fits told ticks t plan x None None = tt
again_by_fits told ticks t plan x (Some r) o = tt

again_fit : (told : Delivered) (ticks : Bool) (t : AttemptState) (plan : Plan) (xs : List Seizing) → StepsFit told ticks t (filter_map (again_for plan) xs)
again_fit told ticks t plan [] = tt
again_fit told ticks t plan (x ∷ xs) = with_fits told ticks t (again_for plan x) (filter_map (again_for plan) xs) (again_by_fits told ticks t plan x x.result x.seizer) (again_fit told ticks t plan xs)

collects_fit : (told : Delivered) (ticks : Bool) (t s : AttemptState) → StepsFit told ticks t (collects s)
collects_fit told ticks t s = sent_fit told ticks t s.plan.coordinator (body.Collect s.plan.epoch s.plan.members) (silent_others s) tt

repeats_fit : (told : Delivered) (ticks : Bool) (t s : AttemptState) (phase : Phase) → StepsFit told ticks t (again_in s phase)
repeats_fit told ticks t s Collecting = collects_fit told ticks t s
repeats_fit told ticks t s Choosing = tt
repeats_fit told ticks t s SeizingVotes = again_fit told ticks t s.plan s.devices
repeats_fit told ticks t s SeizingOthers = again_fit told ticks t s.plan s.devices
repeats_fit told ticks t s Installing = sent_fit told ticks t s.plan.coordinator (body.Install (install_in s)) (silent_others s) tt
repeats_fit told ticks t s Over = tt

-- ---- for want of votes

below : (a b : ℕ) → nat_lt a b ≡ true → a < b
below a b h = grind arith

below_by : (w : VoteTable) (rest : Option VoteTable) (members devices : ℕ) (v : VoteTable) (b : Bool) → is_short w members devices ≡ b
    → (rest ≡ Some v → held_of v members devices < needed_of v) → (if b then Some w else rest) ≡ Some v → held_of v members devices < needed_of v
below_by w rest members devices v true e k h = subst (λ x. held_of x members devices < needed_of x) (same_some w v h) (below (held_of w members devices) (needed_of w) e)
below_by w rest members devices v false e k h = k h

below_pending : (o : Option VoteTable) (members devices : ℕ) (v : VoteTable) → short_pending o members devices ≡ Some v → held_of v members devices < needed_of v
below_pending None members devices v h = absurd (none_some v h)
below_pending (Some w) members devices v h = below_by w None members devices v (is_short w members devices) refl (λ n. absurd (none_some v n)) h

below_first : (both : BothVotes) (members devices : ℕ) (v : VoteTable) → first_short both members devices ≡ Some v → held_of v members devices < needed_of v
below_first both members devices v h =
    below_by both.committed (short_pending both.pending members devices) members devices v (is_short both.committed members devices) refl (below_pending both.pending members devices v) h

short_by : (told : Delivered) (ticks : Bool) (s : AttemptState) (devices : ℕ) (both : BothVotes) (o : Option VoteTable) (e : AttemptEnd) → is_some s.votes ≡ true → first_short both s.plan.members devices ≡ o → ended_by s devices o ≡ Some e
    → EndSo told ticks (record s { phase = Over }) e
short_by told ticks s devices both None e some short is = absurd (none_some e is)
short_by told ticks s devices both (Some v) e some short is = subst (EndSo told ticks (record s { phase = Over })) (same_some (votes_end s.plan s.devices devices v) e is) (below_first both s.plan.members devices v short, some)

short_fits : (told : Delivered) (ticks : Bool) (s : AttemptState) (devices : ℕ) (o : Option BothVotes) (e : AttemptEnd) → s.votes ≡ o → shortage_under s devices o ≡ Some e → EndSo told ticks (record s { phase = Over }) e
short_fits told ticks s devices None e at is = absurd (none_some e is)
short_fits told ticks s devices (Some both) e at is = short_by told ticks s devices both (first_short both s.plan.members devices) e (ap is_some at) refl is

-- ---- who is named

first_member : (both : BothVotes) (nodes : List ℕ) (n : ℕ) → first_foreign both nodes ≡ Some n → list_any (λ k. k == n) nodes ≡ true
first_member both nodes n is = (found_among (is_foreign both) nodes n is).1

left_member : (ps : List Promised) (nodes : List ℕ) (o : Option Shown) (n : ℕ) → first_left_out ps nodes o ≡ Some n → list_any (λ k. k == n) nodes ≡ true
left_member ps nodes None n is = absurd (none_some n is)
left_member ps nodes (Some newest) n is = (found_among (is_left_out newest ps) nodes n is).1

-- ---- each call

abbrev pub TurnFits : Delivered → Bool → Turn → Type 0
TurnFits told ticks t = StepsFit told ticks t.after t.steps

abbrev Any : AttemptState → Type 0
Any s = Unit {0}

installing_fits : (told : Delivered) (ticks : Bool) (s : AttemptState) → TurnFits told ticks (installing s)
unfolding installing
installing_fits told ticks s =
    let t : AttemptState = in_phase s Installing in
    (tt, sent_fit told ticks t t.plan.coordinator (body.Install (install_in t)) (silent_others t) tt)

walk : (told : Delivered) (ticks : Bool) (c : Call) → CallFits told ticks c → Walk c Any Any (TurnFits told ticks)
unfolding asked_next
walk told ticks c fits = record {
  within = λ s i. tt;
  rests = λ s i. tt;
  passes = λ s is e i. tt;
  again = λ s is e i. repeats_fit told ticks (record s { ticks = later s.ticks }) (record s { ticks = later s.ticks }) s.phase;
  silent = λ s n is late least i. ((subst (CallFits told ticks) is fits, (found_among (is_missing s) s.plan.nodes n least).1, late), tt);
  superseded = λ s from m q is nack i. (subst (λ t. Says (λ b. b ≡ body.Nack s.plan.epoch q) t) (sym (subst (CallFits told ticks) is fits)) nack, tt);
  promise = λ s from m p is awaited of promised i. tt;
  collects = λ s is e k. collects_fit told ticks s s;
  collecting = λ s is e k. tt;
  no_newest = λ s is all none k. tt;
  chosen = λ s newest is all some k. (tt, tt);
  votes = λ s both is i. tt;
  foreign = λ s both n is given least k. ((ap is_some given, first_member both s.plan.nodes n least), tt);
  excluded = λ s n is least k. (left_member s.promises s.plan.nodes (newest_shown s.promises) n least, tt);
  impossible = λ s e is short k. (short_fits told ticks s _ s.votes e refl short, tt);
  entries = λ s is enough k. tt;
  requests = λ s is e k. requests_fit told ticks s s.plan s.devices;
  result = λ s d from r e is tells found none i. tt;
  next = λ s d from n r e is tells found next i. (request_fits told ticks (record s { devices = map (with_next d n) s.devices; ticks = 0 }) s.plan e.kind d n, tt);
  seizing = λ s is e k. tt;
  short = λ s e is all few k. (short_fits told ticks s _ s.votes e refl few, tt);
  others = λ s is all enough some k. requests_fit told ticks (record (in_phase s SeizingOthers) { counted = held_set s.devices; devices = s.devices ++ plain_devices s }) s.plan (plain_devices s);
  installs_at_once = λ s is all enough none k. installing_fits told ticks (record s { counted = held_set s.devices });
  installs = λ s is all k. installing_fits told ticks s;
  ready = λ s from m is here of ready_body i. tt;
  own = λ s is here i. tt;
  installing = λ s here e k. tt;
  starts = λ s here e k. (tt, sent_fit told ticks (record s { phase = Over }) s.plan.coordinator (body.Start s.plan.epoch) (others_of s.plan) tt);
}

pub turn_fits : (told : Delivered) (ticks : Bool) (s : AttemptState) (c : Call) → CallFits told ticks c → TurnFits told ticks (turn s c)
turn_fits told ticks s c fits = walks Any Any (TurnFits told ticks) s c (walk told ticks c fits) tt

-- ---- at its beginning

chosen_fits : (told : Delivered) (ticks : Bool) (s : AttemptState) (o : Option Shown) → TurnFits told ticks (chosen_by s o)
chosen_fits told ticks s None = tt
chosen_fits told ticks s (Some newest) = (tt, tt)

begun_fits : (told : Delivered) (ticks : Bool) (s : AttemptState) → TurnFits told ticks (begun s)
unfolding choosing
begun_fits told ticks s =
    if_either (TurnFits told ticks) (all_promised s) (choosing s) (with_steps s (collects s)) (chosen_fits told ticks s (newest_shown s.promises)) (collects_fit told ticks s s)

pub first_fits : (told : Delivered) (ticks : Bool) (p members : ℕ) (own : Message) (attached : List AttachedDevice) (cluster : ℕ) → TurnFits told ticks (beginning p members own attached cluster)
unfolding beginning
first_fits told ticks p members own attached cluster = begun_fits told ticks (first_state p members own attached cluster (promises_of (promised_by own (shown_by own.sender own.body))))
