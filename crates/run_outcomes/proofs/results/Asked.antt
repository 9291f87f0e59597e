-- Whom an attempt asks to seize a device has a path to it.
use Rattle.std.specs.Prelude.{All, ℕ, ◌≡◌, ◌==◌, ◌&&◌, Bool, true, false, List, [], ◌∷◌, Option, None, Some, IfSome, find, is_none, map, if◌then◌else◌}
use Rattle.std.specs.List.{AllByRecursion, filter_map}
use Rattle.std.proofs.Common.{refl, sym, subst, inl, inr}
use Rattle.std.proofs.lemmas.List.Elements.{All-contains, All-from_recursion, All-head, All-tail}
use Rattle.attempt_laws.proofs.Sends.{asks_are_entries}
use Rattle.attempt_laws.proofs.Walk.{Walk, if_with, walks, walks_begun}
use Rattle.attempt_laws.specs.Sending.{AsksEntry, AsksFor, AsksIn}
use Rattle.cl_base.specs.Seizings.{SeizeResult}
use Rattle.cl_base.specs.Sets.{has, set_with}
use Rattle.cl_base.specs.declared.seizing.SeizeEnd.TheVariants as end
use Rattle.cmm_attempt.proofs.Basics.{and_cases, if_either, none_some, same_number, same_some}
use Rattle.cmm_attempt.specs.Attempts.{AttemptState, asked_next, beginning, first_state, installing, plain_devices, promises_of, vote_entries_under}
use Rattle.cmm_attempt.specs.Calls.{Call, IsReached, May, Tick, turn}
use Rattle.cmm_attempt.specs.Counts.{is_quorum, vote_new}
use Rattle.cmm_attempt.specs.Plans.{is_reachable}
use Rattle.cmm_attempt.specs.Promises.{holds_valid, promised_by, shown_by}
use Rattle.cmm_attempt.specs.Seizings.{awaits, first_seizer, is_asked, is_seized, may_follow, may_seize, next_by, plain_entry, plain_new, vote_entry, with_next, with_result}
use Rattle.cmm_attempt.specs.declared.attached.AttachedDevice.{AttachedDevice}
use Rattle.cmm_attempt.specs.declared.counting.BothVotes.{BothVotes}
use Rattle.cmm_attempt.specs.declared.plan.Plan.{Plan}
use Rattle.cmm_attempt.specs.declared.promised.Promised.{Promised}
use Rattle.cmm_attempt.specs.declared.seizing.Seizing.{Seizing}
use Rattle.cmm_attempt.specs.declared.step.Step.{Step}
use Rattle.cmm_attempt.specs.declared.step.Step.TheVariants as step
use Rattle.node_model.specs.Clusters.{has_path}
use Rattle.node_model.specs.declared.cluster.Cluster.{Cluster}
use Rattle.run_history.proofs.Lists.{both, more}
use Rattle.run_history.specs.Guards.{IsStep}
use Rattle.run_seizings.proofs.Progress.{or_left, or_right, same_is}
use Rattle.seize.specs.declared.kind.SeizeKind.{SeizeKind}
use Rattle.seize.specs.declared.kind.SeizeKind.TheVariants.{Plain, Vote}
use Rattle.wire.specs.declared.message.Body.{Body}
use Rattle.wire.specs.declared.message.Body.TheVariants as body
use Rattle.wire.specs.declared.message.Message.{Message}
use Rattle.run_outcomes.proofs.results.Stays.{both_true}
use Rattle.run_outcomes.specs.results.Paths.{BodyPath, EntryPath, StepPath}

-- ---- the devices of the cluster

-- a node that is attached has a path
abbrev pub Paths : Cluster → AttachedDevice → Type 0
Paths c a = (n : ℕ) → has a.nodes n ≡ true → has_path c.attached n a.device ≡ true

paths_in : (xs : List AttachedDevice) → AllByRecursion (λ (a : AttachedDevice). (n : ℕ) → has a.nodes n ≡ true → has_path xs n a.device ≡ true) xs
paths_in [] = tt
paths_in (a ∷ xs) = (
  (λ n is. or_left ((a.device == a.device) && has a.nodes n) (has_path xs n a.device) (both_true (a.device == a.device) (has a.nodes n) (same_is a.device) is)),
  lifted xs (paths_in xs),
)
  where
    lifted : (ys : List AttachedDevice) → AllByRecursion (λ (y : AttachedDevice). (n : ℕ) → has y.nodes n ≡ true → has_path xs n y.device ≡ true) ys
        → AllByRecursion (λ (y : AttachedDevice). (n : ℕ) → has y.nodes n ≡ true → has_path (a ∷ xs) n y.device ≡ true) ys
    lifted [] k = tt
    lifted (y ∷ ys) k = ((λ n is. or_right ((a.device == y.device) && has a.nodes n) (has_path xs n y.device) (k.0 n is)), lifted ys k.1)

all_paths : (c : Cluster) → AllByRecursion (Paths c) c.attached
all_paths c = paths_in c.attached

-- what is found passes the test
found_passes : (f : ℕ → Bool) (ns : List ℕ) (n : ℕ) → find f ns ≡ Some n → f n ≡ true
found_passes f [] n is = absurd (none_some n is)
found_passes f (m ∷ ns) n is = by_test (f m) refl is (λ rest. found_passes f ns n rest)
  where
    by_test : (b : Bool) → f m ≡ b → (if b then Some m else find f ns) ≡ Some n → (find f ns ≡ Some n → f n ≡ true) → f n ≡ true
    by_test true passes here rest = subst (λ z. f z ≡ true) (same_some m n here) passes
    by_test false misses there rest = rest there

-- ---- new entries

vote_path : (c : Cluster) (promises : List Promised) (a : AttachedDevice) (o : Option ℕ) → Paths c a → ((n : ℕ) → o ≡ Some n → has a.nodes n ≡ true) → EntryPath c (vote_entry a o)
vote_path c promises a None p f = record { attached = p; seizer = λ n is. absurd (none_some n is) }
vote_path c promises a (Some m) p f = record { attached = p; seizer = λ n is. subst (λ z. has_path c.attached z a.device ≡ true) (same_some m n is) (p m (f m refl)) }

votes_path : (c : Cluster) (plan : Plan) (promises : List Promised) (votes : BothVotes) (attached : List AttachedDevice) → AllByRecursion (Paths c) attached
    → AllByRecursion (EntryPath c) (filter_map (vote_new plan promises votes) attached)
votes_path c plan promises votes [] k = tt
votes_path c plan promises votes (a ∷ attached) k =
    more (EntryPath c) (vote_new plan promises votes a) (filter_map (vote_new plan promises votes) attached)
    (if_either (λ o. IfSome o (EntryPath c)) (is_quorum votes a.device && is_reachable plan a) (Some (vote_entry a (first_seizer plan promises a))) None
    (vote_path c promises a (first_seizer plan promises a) k.0
    (λ n is. (and_cases (has a.nodes n) (holds_valid promises a.device n) (found_passes (may_seize promises a) plan.nodes n is)).0)) tt)
    (votes_path c plan promises votes attached k.1)

entries_path : (c : Cluster) (s : AttemptState) (o : Option BothVotes) → AllByRecursion (Paths c) s.plan.attached → AllByRecursion (EntryPath c) (vote_entries_under s o)
entries_path c s None k = tt
entries_path c s (Some votes) k = votes_path c s.plan s.promises votes s.plan.attached k

plain_path : (c : Cluster) (a : AttachedDevice) (o : Option ℕ) → Paths c a → ((n : ℕ) → o ≡ Some n → has a.nodes n ≡ true) → IfSome (plain_entry a o) (EntryPath c)
plain_path c a None p f = tt
plain_path c a (Some m) p f = record { attached = p; seizer = λ n is. subst (λ z. has_path c.attached z a.device ≡ true) (same_some m n is) (p m (f m refl)) }

plains_path : (c : Cluster) (plan : Plan) (devices : List Seizing) (attached : List AttachedDevice) → AllByRecursion (Paths c) attached
    → AllByRecursion (EntryPath c) (filter_map (plain_new plan devices) attached)
plains_path c plan devices [] k = tt
plains_path c plan devices (a ∷ attached) k =
    more (EntryPath c) (plain_new plan devices a) (filter_map (plain_new plan devices) attached)
    (if_either (λ o. IfSome o (EntryPath c)) (is_seized devices a.device) None (plain_entry a (find (λ n. has a.nodes n) plan.nodes)) tt
    (plain_path c a (find (λ n. has a.nodes n) plan.nodes) k.0 (λ n is. found_passes (λ m. has a.nodes m) plan.nodes n is)))
    (plains_path c plan devices attached k.1)

-- ---- answers

results_path : (c : Cluster) (d : ℕ) (r : SeizeResult) (es : List Seizing) → AllByRecursion (EntryPath c) es → AllByRecursion (EntryPath c) (map (with_result d r) es)
results_path c d r [] k = tt
results_path c d r (e ∷ es) k = (
  if_either (EntryPath c) ((e.attached.device == d) && is_none e.result) (record e { result = Some r }) e (record { attached = k.0.attached; seizer = k.0.seizer }) k.0,
  results_path c d r es k.1,
)

nexts_path : (c : Cluster) (d n : ℕ) (es : List Seizing) → has_path c.attached n d ≡ true → AllByRecursion (EntryPath c) es → AllByRecursion (EntryPath c) (map (with_next d n) es)
nexts_path c d n [] p k = tt
nexts_path c d n (e ∷ es) p k = (
  if_with (EntryPath c) ((e.attached.device == d) && is_none e.result) ((e.attached.device == d) && is_none e.result) (record e { seizer = Some n; asked = set_with e.asked n }) e refl
      (λ is. record {
        attached = k.0.attached;
        seizer = λ m same. subst (λ z. has_path c.attached z e.attached.device ≡ true) (same_some n m same)
            (subst (λ z. has_path c.attached n z ≡ true) (sym (same_number e.attached.device d (and_cases (e.attached.device == d) (is_none e.result) is).0)) p);
      }) (λ is. k.0),
  nexts_path c d n es p k.1,
)

-- the entry that is found is of this device
found_entry : (c : Cluster) (d from : ℕ) (e : Seizing) (es : List Seizing) → AllByRecursion (EntryPath c) es → find (awaits d from) es ≡ Some e → (e.attached.device ≡ d) × EntryPath c e
found_entry c d from e [] k is = absurd (none_some e is)
found_entry c d from e (x ∷ xs) k is = by_test (awaits d from x) refl is (λ rest. found_entry c d from e xs k.1 rest)
  where
    by_test : (b : Bool) → awaits d from x ≡ b → (if b then Some x else find (awaits d from) xs) ≡ Some e → (find (awaits d from) xs ≡ Some e → (e.attached.device ≡ d) × EntryPath c e)
        → (e.attached.device ≡ d) × EntryPath c e
    by_test true passes here rest =
        subst (λ z. (z.attached.device ≡ d) × EntryPath c z) (same_some x e here) (
          same_number x.attached.device d
              (and_cases (x.attached.device == d) (is_none x.result) (and_cases ((x.attached.device == d) && is_none x.result) (is_asked x.seizer from) passes).0).0,
          k.0,
        )
    by_test false misses there rest = rest there

-- who is asked next is attached
next_attached : (cluster : ℕ) (promises : List Promised) (nodes : List ℕ) (e : Seizing) (kind : SeizeKind) (r : SeizeResult) (n : ℕ) → next_by cluster promises nodes e kind r ≡ Some n
    → has e.attached.nodes n ≡ true
next_attached cluster promises nodes e Vote (end.NotRegistered keys) n is =
    first_of (has e.attached.nodes n) _ _ _ (found_passes (may_follow cluster promises e keys) nodes n is)
  where
    first_of : (a b c d : Bool) → (a && b && c && d) ≡ true → a ≡ true
    first_of a b c d k = (and_cases a b (and_cases (a && b) c (and_cases (a && b && c) d k).0).0).0
next_attached cluster promises nodes e Plain r n is = absurd (none_some n is)
next_attached cluster promises nodes e Vote (end.Held keys) n is = absurd (none_some n is)
next_attached cluster promises nodes e Vote (end.Greater w) n is = absurd (none_some n is)
next_attached cluster promises nodes e Vote end.Expelled n is = absurd (none_some n is)
next_attached cluster promises nodes e Vote (end.Contended key) n is = absurd (none_some n is)
next_attached cluster promises nodes e Vote end.Fault n is = absurd (none_some n is)

-- ---- each call

abbrev AtRest : Cluster → AttemptState → Type 0
AtRest c s = AllByRecursion (Paths c) s.plan.attached × AllByRecursion (EntryPath c) s.devices

walk : (c : Cluster) (k : Call) → Walk k (AtRest c) (AtRest c) (λ t. AllByRecursion (EntryPath c) t.after.devices)
unfolding asked_next installing
walk c k = record {
  within = λ s i. i;
  rests = λ s i. i.1;
  passes = λ s is e i. i.1;
  again = λ s is e i. i.1;
  silent = λ s n is late least i. i.1;
  superseded = λ s from m q is body i. i.1;
  promise = λ s from m p is awaited of promised i. i;
  collects = λ s is e i. i.1;
  collecting = λ s is e i. i.1;
  no_newest = λ s is all none i. i.1;
  chosen = λ s newest is all some i. i.1;
  votes = λ s both_votes is i. (i.0, tt);
  foreign = λ s both_votes n is votes least i. i.1;
  excluded = λ s n is least i. i.1;
  impossible = λ s e is short i. i.1;
  entries = λ s is enough i. (i.0, entries_path c s s.votes i.0);
  requests = λ s is e i. i.1;
  result = λ s d from r e is says found none i. (i.0, results_path c d r s.devices i.1);
  next = λ s d from n r e is says found next i.
      let z : (e.attached.device ≡ d) × EntryPath c e = found_entry c d from e s.devices i.1 found in
      nexts_path c d n s.devices (subst (λ y. has_path c.attached n y ≡ true) z.0 (z.1.attached n (next_attached s.plan.cluster s.promises s.plan.nodes e e.kind r n next))) i.1;
  seizing = λ s is e i. i.1;
  short = λ s e is all few i. i.1;
  others = λ s is all enough some i. both (EntryPath c) s.devices (plain_devices s) i.1 (plains_path c s.plan s.devices s.plan.attached i.0);
  installs_at_once = λ s is all enough none i. i.1;
  installs = λ s is all i. i.1;
  ready = λ s from m is at of body i. i;
  own = λ s is at i. i;
  installing = λ s at e i. i.1;
  starts = λ s at e i. i.1;
}

pub turn_path : (c : Cluster) (a : AttemptState) (k : Call) → a.plan.attached ≡ c.attached → AllByRecursion (EntryPath c) a.devices → AllByRecursion (EntryPath c) (turn a k).after.devices
turn_path c a k at es =
    walks (AtRest c) (AtRest c) (λ t. AllByRecursion (EntryPath c) t.after.devices) a k (walk c k) (subst (λ xs. AllByRecursion (Paths c) xs) (sym at) (all_paths c), es)

pub first_path : (c : Cluster) (p members : ℕ) (own : Message) (cluster : ℕ) → AllByRecursion (EntryPath c) (beginning p members own c.attached cluster).after.devices
unfolding beginning
first_path c p members own cluster =
    walks_begun Tick (AtRest c) (AtRest c) (λ t. AllByRecursion (EntryPath c) t.after.devices) (walk c Tick)
    (first_state p members own c.attached cluster (promises_of (promised_by own (shown_by own.sender own.body)))) refl (all_paths c, tt)

-- ---- steps

asks_path : (c : Cluster) (t : AttemptState) (kind : SeizeKind) (n d : ℕ) → AllByRecursion (EntryPath c) t.devices → AsksFor t kind n d → has_path c.attached n d ≡ true
asks_path c t kind n d es k =
    subst (λ z. has_path c.attached n z ≡ true) k.device
    ((All-contains (EntryPath c) t.devices k.entry (All-from_recursion (EntryPath c) t.devices es) k.listed).seizer n k.seizer)

body_path : (c : Cluster) (t : AttemptState) (n : ℕ) (b : Body) → AllByRecursion (EntryPath c) t.devices → AsksIn t n b → BodyPath c n b
body_path c t n (body.SeizeQuorum e members d) es k = asks_path c t Vote n d es k
body_path c t n (body.SeizeData e members d) es k = asks_path c t Plain n d es k
body_path c t n _ es k = tt

step_path : (c : Cluster) (n : ℕ) (t : AttemptState) (x : Step) → t.plan.coordinator ≡ n → AllByRecursion (EntryPath c) t.devices → AsksEntry t x → StepPath c n x
step_path c n t (step.Send to m) me es k = body_path c t to m.body es k
step_path c n t (step.SeizeHere d kind) me es k = asks_path c t kind n d es (subst (λ z. AsksFor t kind z d) me k)
step_path c n t _ me es k = tt

among : (P : Step → Type 0) (x : Step) (xs : List Step) → IsStep x xs → All P xs → P x
among P x [] is all = absurd is
among P x (y ∷ ys) (inl same) all = subst P same (All-head P y ys all)
among P x (y ∷ ys) (inr later) all = among P x ys later (All-tail P y ys all)

pub steps_path : (c : Cluster) (n : ℕ) (a : AttemptState) (k : Call) → IsReached a → May a k → (turn a k).after.plan.coordinator ≡ n → AllByRecursion (EntryPath c) (turn a k).after.devices
    → (x : Step) → IsStep x (turn a k).steps → StepPath c n x
steps_path c n a k reached may me es x is = step_path c n (turn a k).after x me es (among (AsksEntry (turn a k).after) x (turn a k).steps is (asks_are_entries a k reached may))
