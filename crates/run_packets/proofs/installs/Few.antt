-- An attempt reads few keys on few devices, where each result that it takes has few.
use Rattle.std.specs.Prelude.{ℕ, ◌+◌, ◌≡◌, ◌≤◌, ◌==◌, ◌&&◌, ◌++◌, is_none, Bool, true, false, if◌then◌else◌, List, [], ◌∷◌, length, Option, None, Some, IfSome, map}
use Rattle.std.specs.List.{AllByRecursion, cons_option, filter_map, find}
use Rattle.std.proofs.Common.{refl, sym, subst, arith}
use Rattle.attempt_laws.proofs.Walk.{TellsResult, Walk, walks}
use Rattle.cl_base.specs.Seizings.{SeizeResult}
use Rattle.cl_base.specs.declared.seizing.SeizeEnd.TheVariants as end
use Rattle.cmm_attempt.proofs.Basics.{if_either}
use Rattle.cmm_attempt.specs.Attempts.{AttemptState, Turn, asked_next, installing, plain_devices, vote_entries_under, install_in}
use Rattle.cmm_attempt.specs.Calls.{Call, Take, With_votes, Own_seized, Own_ready, Tick, turn}
use Rattle.cmm_attempt.specs.Counts.{is_quorum, vote_new}
use Rattle.cmm_attempt.specs.Plans.{is_reachable}
use Rattle.cmm_attempt.specs.Installs.{install_by}
use Rattle.cmm_attempt.specs.Promises.{is_from}
use Rattle.cmm_attempt.specs.Seizings.{first_seizer, is_seized, plain_entry, plain_new, reading_by, reading_in, reading_of, vote_entry, with_next, with_result}
use Rattle.cmm_attempt.specs.declared.attached.AttachedDevice.{AttachedDevice}
use Rattle.cmm_attempt.specs.declared.counting.BothVotes.{BothVotes}
use Rattle.cmm_attempt.specs.declared.plan.Plan.{Plan}
use Rattle.cmm_attempt.specs.declared.promised.Promised.{Promised}
use Rattle.cmm_attempt.specs.declared.seizing.Seizing.{Seizing}
use Rattle.cl_base.specs.Sets.{has}
use Rattle.wire.specs.declared.lists.Reading.{Reading}
use Rattle.run_packets.specs.admitted.Known.{ResultFew}
use Rattle.run_packets.specs.installs.Passing.{BodyFew, CallFew, EntriesFew, EntryFew, InstallFew, ReadingFew}

-- ---- lists of devices

abbrev AreFew : List Seizing → Type 0
AreFew es = AllByRecursion EntryFew es

abbrev MaybeFew : Option Seizing → Type 0
MaybeFew o = IfSome o EntryFew

with_few : (o : Option Seizing) (es : List Seizing) → MaybeFew o → AreFew es → AreFew (cons_option o es)
with_few None es h k = k
with_few (Some e) es h k = (h, k)

both_few : (xs ys : List Seizing) → AreFew xs → AreFew ys → AreFew (xs ++ ys)
both_few [] ys h k = k
both_few (x ∷ xs) ys h k = (h.0, both_few xs ys h.1 k)

new_few : {X : Type 0} (f : X → Option Seizing) (xs : List X) → ((x : X) → MaybeFew (f x)) → AreFew (filter_map f xs)
new_few f [] h = tt
new_few f (x ∷ xs) h = with_few (f x) (filter_map f xs) (h x) (new_few f xs h)

vote_few : (a : AttachedDevice) (o : Option ℕ) → EntryFew (vote_entry a o)
vote_few a None = omega arith
vote_few a (Some n) = tt

vote_new_few : (plan : Plan) (promises : List Promised) (both : BothVotes) (a : AttachedDevice) → MaybeFew (vote_new plan promises both a)
vote_new_few plan promises both a = if_either MaybeFew (is_quorum both a.device && is_reachable plan a) (Some (vote_entry a (first_seizer plan promises a))) None (vote_few a (first_seizer plan promises a)) tt

votes_few : (s : AttemptState) (o : Option BothVotes) → AreFew (vote_entries_under s o)
votes_few s None = tt
votes_few s (Some both) = new_few (vote_new s.plan s.promises both) s.plan.attached (vote_new_few s.plan s.promises both)

plain_few : (a : AttachedDevice) (o : Option ℕ) → MaybeFew (plain_entry a o)
plain_few a None = tt
plain_few a (Some n) = tt

plain_new_few : (plan : Plan) (devices : List Seizing) (a : AttachedDevice) → MaybeFew (plain_new plan devices a)
plain_new_few plan devices a = if_either MaybeFew (is_seized devices a.device) None (plain_entry a (find (λ n. has a.nodes n) plan.nodes)) tt (plain_few a (find (λ n. has a.nodes n) plan.nodes))

plains_few : (s : AttemptState) → AreFew (plain_devices s)
plains_few s = new_few (plain_new s.plan s.devices) s.plan.attached (plain_new_few s.plan s.devices)

result_few : (d : ℕ) (r : SeizeResult) (es : List Seizing) → ResultFew r → AreFew es → AreFew (map (with_result d r) es)
result_few d r [] few h = tt
result_few d r (e ∷ es) few h = (if_either EntryFew ((e.attached.device == d) && is_none e.result) (record e { result = Some r }) e few h.0, result_few d r es few h.1)

next_few : (d n : ℕ) (es : List Seizing) → AreFew es → AreFew (map (with_next d n) es)
next_few d n [] h = tt
next_few d n (e ∷ es) h = (if_either EntryFew ((e.attached.device == d) && is_none e.result) _ e h.0 h.0, next_few d n es h.1)

-- ---- each call

told_few : (c : Call) (s : AttemptState) (d n : ℕ) (r : SeizeResult) → TellsResult c s d n r → CallFew c → ResultFew r
told_few (Take from m) s d n r tells few = subst BodyFew tells.1 few
told_few (Own_seized device told) s d n r tells few = subst ResultFew tells.1 few
told_few (With_votes both) s d n r tells few = absurd tells
told_few Own_ready s d n r tells few = absurd tells
told_few Tick s d n r tells few = absurd tells

abbrev TurnFew : Turn → Type 0
TurnFew t = EntriesFew t.after

walk : (c : Call) → CallFew c → Walk c EntriesFew EntriesFew TurnFew
unfolding asked_next installing
walk c few = record {
  within = λ s i. i;
  rests = λ s i. i;
  passes = λ s is e i. i;
  again = λ s is e i. i;
  silent = λ s n is late least i. i;
  superseded = λ s from m q is nack i. i;
  promise = λ s from m p is awaited of promised i. i;
  collects = λ s is e k. k;
  collecting = λ s is e k. k;
  no_newest = λ s is all none k. k;
  chosen = λ s newest is all some k. k;
  votes = λ s both is i. tt;
  foreign = λ s both n is given least k. k;
  excluded = λ s n is least k. k;
  impossible = λ s e is short k. k;
  entries = λ s is enough k. votes_few s s.votes;
  requests = λ s is e k. k;
  result = λ s d from r e is tells found none i. result_few d r s.devices (told_few c s d from r tells few) i;
  next = λ s d from n r e is tells found next i. next_few d n s.devices i;
  seizing = λ s is e k. k;
  short = λ s e is all few_votes k. k;
  others = λ s is all enough some k. both_few s.devices (plain_devices s) k (plains_few s);
  installs_at_once = λ s is all enough none k. k;
  installs = λ s is all k. k;
  ready = λ s from m is here of ready_body i. i;
  own = λ s is here i. i;
  installing = λ s here e k. k;
  starts = λ s here e k. k;
}

pub turn_few : (a : AttemptState) (k : Call) → CallFew k → EntriesFew a → EntriesFew (turn a k).after
turn_few a k few h = walks EntriesFew EntriesFew TurnFew a k (walk k few) h

-- ---- an Install has few readings

abbrev MaybeRead : Option Reading → Type 0
MaybeRead o = IfSome o ReadingFew

read_by_few : (d : ℕ) (o : Option ℕ) (r : Option SeizeResult) → IfSome r ResultFew → MaybeRead (reading_by d o r)
read_by_few d (Some n) (Some (end.Held keys)) h = h
read_by_few d (Some n) (Some (end.NotRegistered keys)) h = tt
read_by_few d (Some n) (Some (end.Greater w)) h = tt
read_by_few d (Some n) (Some end.Expelled) h = tt
read_by_few d (Some n) (Some (end.Contended key)) h = tt
read_by_few d (Some n) (Some end.Fault) h = tt
read_by_few d (Some n) None h = tt
read_by_few d None (Some r) h = tt
read_by_few d None None h = tt

read_in_few : (o : Option Seizing) → MaybeFew o → MaybeRead (reading_in o)
read_in_few None h = tt
read_in_few (Some e) h = read_by_few e.attached.device e.seizer e.result h

found_few : (test : Seizing → Bool) (es : List Seizing) → AreFew es → MaybeFew (find test es)
found_few test [] h = tt
found_few test (e ∷ es) h = by_test (test e) (found_few test es h.1)
  where
    by_test : (b : Bool) → MaybeFew (find test es) → MaybeFew (if b then Some e else find test es)
    by_test true k = h.0
    by_test false k = k

read_few : (o : Option Reading) (rs : List Reading) → MaybeRead o → AllByRecursion ReadingFew rs → AllByRecursion ReadingFew (cons_option o rs)
read_few None rs h k = k
read_few (Some r) rs h k = (h, k)

readings_few : (devices : List Seizing) (attached : List AttachedDevice) → AreFew devices → AllByRecursion ReadingFew (filter_map (reading_of devices) attached)
readings_few devices [] h = tt
readings_few devices (a ∷ attached) h =
    read_few (reading_of devices a) (filter_map (reading_of devices) attached) (read_in_few (find (λ e. e.attached.device == a.device) devices) (found_few (λ e. e.attached.device == a.device) devices h)) (readings_few devices attached h)

one_more : (o : Option Reading) (rs : List Reading) (k : ℕ) → length rs ≤ k → length (cons_option o rs) ≤ k + 1
one_more None rs k h = omega (arith, h)
one_more (Some r) rs k h = omega (arith, h)

readings_of_few : (devices : List Seizing) (attached : List AttachedDevice) → length (filter_map (reading_of devices) attached) ≤ length attached
readings_of_few devices [] = omega arith
readings_of_few devices (a ∷ attached) = omega (arith, one_more (reading_of devices a) (filter_map (reading_of devices) attached) (length attached) (readings_of_few devices attached))

readings_are : (plan : Plan) (rs : List Reading) (o : Option Promised) → (install_by plan rs o).readings ≡ rs
readings_are plan rs None = refl
readings_are plan rs (Some p) = refl

pub install_few : (a : AttemptState) → EntriesFew a → length a.plan.attached ≤ 16 → InstallFew (install_in a)
install_few a few small =
    let rs : List Reading = filter_map (reading_of a.devices) a.plan.attached in
    let same : (install_in a).readings ≡ rs = readings_are a.plan rs (find (is_from a.newest) a.promises) in (
      subst (λ (z : List Reading). length z ≤ 16) (sym same) (omega (arith, readings_of_few a.devices a.plan.attached, small)),
      subst (λ (z : List Reading). AllByRecursion ReadingFew z) (sym same) (readings_few a.devices a.plan.attached few),
    )
