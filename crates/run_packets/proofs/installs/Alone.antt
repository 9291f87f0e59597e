-- Where the coordinator of an attempt has no other member it seizes all devices itself.
use Rattle.std.specs.Prelude.{ℕ, ◌≡◌, ◌==◌, ◌&&◌, ◌++◌, Bool, true, false, ◌≤◌, All, if◌then◌else◌, List, [], ◌∷◌, Option, None, Some, IfSome, find, map, is_none}
use Rattle.std.proofs.Common.{refl, sym, subst}
use Rattle.std.proofs.lemmas.List.Elements.{All-head, All-tail}
use Rattle.std.specs.List.{AllByRecursion, cons_option, filter_map}
use Rattle.attempt_laws.proofs.Walk.{Walk, walks}
use Rattle.cl_base.specs.Seizings.{SeizeResult}
use Rattle.cl_base.specs.Sets.{has}
use Rattle.cl_base.specs.declared.seizing.SeizeEnd.TheVariants as end
use Rattle.cmm_attempt.proofs.Basics.{if_either, same_number}
use Rattle.cmm_attempt.specs.Attempts.{AttemptState, Turn, all_promised, asked_next, beginning, begun, choosing, chosen_by, collects, first_state, install_in, installing, plain_devices, promises_of, vote_entries_under, with_steps}
use Rattle.cmm_attempt.specs.Calls.{Call, IsDevice, turn}
use Rattle.cmm_attempt.specs.Counts.{is_quorum, vote_new}
use Rattle.cmm_attempt.specs.Installs.{install_by}
use Rattle.cmm_attempt.specs.Plans.{is_reachable}
use Rattle.cmm_attempt.specs.Promises.{is_from, newest_shown, promised_by, shown_by}
use Rattle.cmm_attempt.specs.Seizings.{first_seizer, is_seized, may_follow, may_seize, next_by, plain_entry, plain_new, reading_by, reading_in, reading_of, vote_entry, with_next, with_result}
use Rattle.cmm_attempt.specs.declared.attached.AttachedDevice.{AttachedDevice}
use Rattle.cmm_attempt.specs.declared.counting.BothVotes.{BothVotes}
use Rattle.cmm_attempt.specs.declared.plan.Plan.{Plan}
use Rattle.cmm_attempt.specs.declared.promised.Promised.{Promised}
use Rattle.cmm_attempt.specs.declared.promised.Shown.{Shown}
use Rattle.cmm_attempt.specs.declared.seizing.Seizing.{Seizing}
use Rattle.seize.specs.declared.kind.SeizeKind.{SeizeKind}
use Rattle.seize.specs.declared.kind.SeizeKind.TheVariants.{Plain, Vote}
use Rattle.wire.specs.declared.lists.Reading.{Reading}
use Rattle.wire.specs.declared.message.Message.{Message}
use Rattle.run_packets.specs.installs.Passing.{EntryBy, ReadingBy, SeizersIn}

-- ---- who is among nodes that are all one

found_one : (n : ℕ) (test : ℕ → Bool) (ns : List ℕ) → AllByRecursion (λ k. k ≡ n) ns → IfSome (find test ns) (λ k. k ≡ n)
found_one n test [] h = tt
found_one n test (k ∷ ns) h = by_test (test k) (found_one n test ns h.1)
  where
    by_test : (b : Bool) → IfSome (find test ns) (λ j. j ≡ n) → IfSome (if b then Some k else find test ns) (λ j. j ≡ n)
    by_test true rest = h.0
    by_test false rest = rest

-- ---- the devices of an attempt

abbrev AreBy : ℕ → List Seizing → Type 0
AreBy n es = AllByRecursion (EntryBy n) es

abbrev MaybeBy : ℕ → Option Seizing → Type 0
MaybeBy n o = IfSome o (EntryBy n)

with_by : (n : ℕ) (o : Option Seizing) (es : List Seizing) → MaybeBy n o → AreBy n es → AreBy n (cons_option o es)
with_by n None es h k = k
with_by n (Some e) es h k = (h, k)

both_by : (n : ℕ) (xs ys : List Seizing) → AreBy n xs → AreBy n ys → AreBy n (xs ++ ys)
both_by n [] ys h k = k
both_by n (x ∷ xs) ys h k = (h.0, both_by n xs ys h.1 k)

new_by : {X : Type 0} (n : ℕ) (f : X → Option Seizing) (xs : List X) → ((x : X) → MaybeBy n (f x)) → AreBy n (filter_map f xs)
new_by n f [] h = tt
new_by n f (x ∷ xs) h = with_by n (f x) (filter_map f xs) (h x) (new_by n f xs h)

vote_by : (n : ℕ) (a : AttachedDevice) (o : Option ℕ) → IfSome o (λ k. k ≡ n) → EntryBy n (vote_entry a o)
vote_by n a None h = tt
vote_by n a (Some k) h = h

plain_by : (n : ℕ) (a : AttachedDevice) (o : Option ℕ) → IfSome o (λ k. k ≡ n) → MaybeBy n (plain_entry a o)
plain_by n a None h = tt
plain_by n a (Some k) h = h

votes_by : (s : AttemptState) (o : Option BothVotes) (n : ℕ) → AllByRecursion (λ k. k ≡ n) s.plan.nodes → AreBy n (vote_entries_under s o)
votes_by s None n one = tt
votes_by s (Some both) n one =
    new_by n (vote_new s.plan s.promises both) s.plan.attached
    (λ a. if_either (MaybeBy n) (is_quorum both a.device && is_reachable s.plan a) (Some (vote_entry a (first_seizer s.plan s.promises a))) None
    (vote_by n a (first_seizer s.plan s.promises a) (found_one n (may_seize s.promises a) s.plan.nodes one)) tt)

plains_by : (s : AttemptState) (n : ℕ) → AllByRecursion (λ k. k ≡ n) s.plan.nodes → AreBy n (plain_devices s)
plains_by s n one =
    new_by n (plain_new s.plan s.devices) s.plan.attached
    (λ a. if_either (MaybeBy n) (is_seized s.devices a.device) None (plain_entry a (find (λ k. has a.nodes k) s.plan.nodes)) tt
    (plain_by n a (find (λ k. has a.nodes k) s.plan.nodes) (found_one n (λ k. has a.nodes k) s.plan.nodes one)))

result_by : (n d : ℕ) (r : SeizeResult) (es : List Seizing) → AreBy n es → AreBy n (map (with_result d r) es)
result_by n d r [] h = tt
result_by n d r (e ∷ es) h = (if_either (EntryBy n) ((e.attached.device == d) && is_none e.result) (record e { result = Some r }) e h.0 h.0, result_by n d r es h.1)

next_is : (n d k : ℕ) (es : List Seizing) → k ≡ n → AreBy n es → AreBy n (map (with_next d k) es)
next_is n d k [] is h = tt
next_is n d k (e ∷ es) is h = (if_either (EntryBy n) ((e.attached.device == d) && is_none e.result) _ e is h.0, next_is n d k es is h.1)

-- who is asked next is a member
next_one : (n k cluster : ℕ) (promises : List Promised) (nodes : List ℕ) (e : Seizing) (kind : SeizeKind) (r : SeizeResult) → AllByRecursion (λ j. j ≡ n) nodes → next_by cluster promises nodes e kind r ≡ Some k → k ≡ n
next_one n k cluster promises nodes e Vote (end.NotRegistered keys) one is =
    subst (λ o. IfSome o (λ j. j ≡ n)) is (found_one n (may_follow cluster promises e keys) nodes one)
next_one n k cluster promises nodes e Vote (end.Held keys) one is = absurd (cc)
next_one n k cluster promises nodes e Vote (end.Greater w) one is = absurd (cc)
next_one n k cluster promises nodes e Vote end.Expelled one is = absurd (cc)
next_one n k cluster promises nodes e Vote (end.Contended key) one is = absurd (cc)
next_one n k cluster promises nodes e Vote end.Fault one is = absurd (cc)
next_one n k cluster promises nodes e Plain r one is = absurd (cc)

-- ---- each call

abbrev TurnBy : Turn → Type 0
TurnBy t = SeizersIn t.after

walk : (c : Call) → Walk c SeizersIn SeizersIn TurnBy
unfolding asked_next installing
walk c = record {
  within = λ s i. i;
  rests = λ s i. i;
  passes = λ s is e i. i;
  again = λ s is e i. i;
  silent = λ s n is late least i. i;
  superseded = λ s from m q is nack i. i;
  promise = λ s from m p is awaited of promised i. i;
  collects = λ s is e k. k;
  collecting = λ s is e k. k;
  no_newest = λ s is all none k. k;
  chosen = λ s newest is all some k. k;
  votes = λ s both is i. λ n one. tt;
  foreign = λ s both n is given least k. k;
  excluded = λ s n is least k. k;
  impossible = λ s e is short k. k;
  entries = λ s is enough k. λ n one. votes_by s s.votes n one;
  requests = λ s is e k. k;
  result = λ s d from r e is tells found none i. λ n one. result_by n d r s.devices (i n one);
  next = λ s d from m r e is tells found next i. λ n one. next_is n d m s.devices (next_one n m s.plan.cluster s.promises s.plan.nodes e e.kind r one next) (i n one);
  seizing = λ s is e k. k;
  short = λ s e is all few_votes k. k;
  others = λ s is all enough some k. λ n one. both_by n s.devices (plain_devices s) (k n one) (plains_by s n one);
  installs_at_once = λ s is all enough none k. k;
  installs = λ s is all k. k;
  ready = λ s from m is here of ready_body i. i;
  own = λ s is here i. i;
  installing = λ s here e k. k;
  starts = λ s here e k. k;
}

pub turn_by : (a : AttemptState) (k : Call) → SeizersIn a → SeizersIn (turn a k).after
turn_by a k h = walks SeizersIn SeizersIn TurnBy a k (walk k) h

-- ---- an Install has readings of its own

abbrev MaybeRead : ℕ → Option Reading → Type 0
MaybeRead n o = IfSome o (ReadingBy n)

abbrev InRange : Option Seizing → Type 0
InRange o = IfSome o (λ e. (1 ≤ e.attached.device) × (e.attached.device ≤ 16))

read_by : (n d : ℕ) (o : Option ℕ) (r : Option SeizeResult) → IfSome o (λ k. k ≡ n) → 1 ≤ d → d ≤ 16 → MaybeRead n (reading_by d o r)
read_by n d (Some k) (Some (end.Held keys)) h low high = (h, low, high)
read_by n d (Some k) (Some (end.NotRegistered keys)) h low high = tt
read_by n d (Some k) (Some (end.Greater w)) h low high = tt
read_by n d (Some k) (Some end.Expelled) h low high = tt
read_by n d (Some k) (Some (end.Contended key)) h low high = tt
read_by n d (Some k) (Some end.Fault) h low high = tt
read_by n d (Some k) None h low high = tt
read_by n d None (Some r) h low high = tt
read_by n d None None h low high = tt

read_in : (n : ℕ) (o : Option Seizing) → MaybeBy n o → InRange o → MaybeRead n (reading_in o)
read_in n None h range = tt
read_in n (Some e) h range = read_by n e.attached.device e.seizer e.result h range.0 range.1

found_by : (n : ℕ) (test : Seizing → Bool) (es : List Seizing) → AreBy n es → MaybeBy n (find test es)
found_by n test [] h = tt
found_by n test (e ∷ es) h = by_test (test e) (found_by n test es h.1)
  where
    by_test : (b : Bool) → MaybeBy n (find test es) → MaybeBy n (if b then Some e else find test es)
    by_test true k = h.0
    by_test false k = k

found_range : (d : ℕ) (es : List Seizing) → 1 ≤ d → d ≤ 16 → InRange (find (λ e. e.attached.device == d) es)
found_range d [] low high = tt
found_range d (e ∷ es) low high = by_test (e.attached.device == d) refl (found_range d es low high)
  where
    by_test : (b : Bool) → (e.attached.device == d) ≡ b → InRange (find (λ x. x.attached.device == d) es) → InRange (if b then Some e else find (λ x. x.attached.device == d) es)
    by_test true is k = subst (λ j. (1 ≤ j) × (j ≤ 16)) (sym (same_number e.attached.device d is)) (low, high)
    by_test false is k = k

read_all : (n : ℕ) (o : Option Reading) (rs : List Reading) → MaybeRead n o → AllByRecursion (ReadingBy n) rs → AllByRecursion (ReadingBy n) (cons_option o rs)
read_all n None rs h k = k
read_all n (Some r) rs h k = (h, k)

readings_by : (n : ℕ) (devices : List Seizing) (attached : List AttachedDevice) → All IsDevice attached → AreBy n devices → AllByRecursion (ReadingBy n) (filter_map (reading_of devices) attached)
readings_by n devices [] fits h = tt
readings_by n devices (a ∷ attached) fits h =
    read_all n (reading_of devices a) (filter_map (reading_of devices) attached)
    (read_in n (find (λ e. e.attached.device == a.device) devices) (found_by n (λ e. e.attached.device == a.device) devices h) (found_range a.device devices (All-head IsDevice a attached fits).0 (All-head IsDevice a attached fits).1))
    (readings_by n devices attached (All-tail IsDevice a attached fits) h)

readings_are : (plan : Plan) (rs : List Reading) (o : Option Promised) → (install_by plan rs o).readings ≡ rs
readings_are plan rs None = refl
readings_are plan rs (Some p) = refl

pub install_by_one : (n : ℕ) (a : AttemptState) → All IsDevice a.plan.attached → AllByRecursion (λ k. k ≡ n) a.plan.nodes → SeizersIn a → AllByRecursion (ReadingBy n) (install_in a).readings
install_by_one n a fits one h =
    subst (λ (rs : List Reading). AllByRecursion (ReadingBy n) rs) (sym (readings_are a.plan (filter_map (reading_of a.devices) a.plan.attached) (find (is_from a.newest) a.promises)))
    (readings_by n a.devices a.plan.attached fits (h n one))

-- ---- an attempt begins

chosen_by_none : (s : AttemptState) (o : Option Shown) → s.devices ≡ [] → (chosen_by s o).after.devices ≡ []
chosen_by_none s None h = h
chosen_by_none s (Some newest) h = h

begun_none : (s : AttemptState) → s.devices ≡ [] → (begun s).after.devices ≡ []
unfolding choosing
begun_none s h = if_either (λ (t : Turn). t.after.devices ≡ []) (all_promised s) (choosing s) (with_steps s (collects s)) (chosen_by_none s (newest_shown s.promises) h) h

pub first_by : (p members : ℕ) (own : Message) (attached : List AttachedDevice) (cluster : ℕ) → SeizersIn (beginning p members own attached cluster).after
unfolding beginning
first_by p members own attached cluster =
    λ n one. subst (λ es. AllByRecursion (EntryBy n) es) (sym (begun_none (first_state p members own attached cluster (promises_of (promised_by own (shown_by own.sender own.body)))) refl)) tt
