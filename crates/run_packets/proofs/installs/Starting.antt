-- A coordinator alone has joined all devices by its install, and its membership starts at once.
use Rattle.std.specs.Prelude.{ℕ, ◌≡◌, ◌≤◌, ◌==◌, ◌&&◌, ◌||◌, not, nat_le, Bool, true, false, if◌then◌else◌, List, [], ◌∷◌, Option, None, Some, is_some, map, bit_or}
use Rattle.std.proofs.Common.{refl, ap, sym, subst, ◌∙◌, arith}
use Rattle.std.specs.List.{AllByRecursion, list_all}
use Rattle.cl_base.proofs.SetLemmas.{has_with, or_bit_value}
use Rattle.cl_base.specs.Sets.{has, set_with, set_without}
use Rattle.cmm_attempt.proofs.Basics.{and_cases, false_true, if_either}
use Rattle.cmm_attempt.specs.Attempts.{AttemptState, Turn, all_ready, has_readied, own_readying, own_readying_in, starting, waits, with_steps}
use Rattle.cmm_attempt.specs.Calls.{Call, Own_ready, starts_in, turn}
use Rattle.cmm_attempt.specs.Installs.{send_start}
use Rattle.cmm_attempt.specs.Plans.{others_of}
use Rattle.cmm_attempt.specs.declared.phase.Phase.{Phase}
use Rattle.cmm_attempt.specs.declared.phase.Phase.TheVariants.{Installing, Over}
use Rattle.cmm_attempt.specs.declared.step.Step.{Step}
use Rattle.cmm_attempt.specs.declared.step.Step.TheVariants as step
use Rattle.cmm_member.specs.Nodes.{Devices, NodeState, devices_after, has_key_of, installed_with, joining_all, joining_one, joins as joins_by}
use Rattle.device_queue.specs.Queue.{after_join, joins}
use Rattle.device_queue.specs.declared.task.Task.{Task}
use Rattle.node_model.specs.Attempts.{installs_now, is_to_join, joining_from, joining_with, starts_now}
use Rattle.node_model.specs.Clusters.{has_path}
use Rattle.node_model.specs.declared.cluster.Cluster.{Cluster}
use Rattle.node_model.specs.declared.node.UpNode.{UpNode}
use Rattle.node_model.specs.declared.seat.Seat.{Seat}
use Rattle.node_model.specs.declared.seat.Seat.TheVariants.{Forming, Member}
use Rattle.refinement.specs.Courses.{Course, joined}
use Rattle.refinement.specs.Courses.Course.{Acts, Falls, Keeps, Stops}
use Rattle.refinement.specs.Cuts as cuts
use Rattle.refinement.specs.Doings.{Act, Change, acted, changed}
use Rattle.refinement.specs.Doings.Act.{Goes_on, Makes}
use Rattle.refinement.specs.Doings.Change.{Counts, Starts}
use Rattle.wire.specs.declared.lists.Reading.{Reading}
use Rattle.wire.specs.declared.message.Install.{Install}
use Rattle.run_packets.specs.installs.Passing.{IsAlone, IsLonely, ReadingBy, StartsFirst}

-- ---- it has joined all that was read

itself : (a b : ℕ) → a ≡ b → (a == b) ≡ true
itself a b h = grind arith

low_device : (d : ℕ) → d ≤ 16 → d ≤ 32
low_device d h = omega (arith, h)

has_more : (set d e : ℕ) → 1 ≤ d → d ≤ 16 → has (set_with set d) e ≡ ((e == d) || has set e)
has_more set d e low high = ap (λ s. has s e) (sym (or_bit_value set d (low_device d high))) ∙ has_with set d low (low_device d high) e

or_first : (a b : Bool) → a ≡ true → (a || b) ≡ true
or_first true b h = refl
or_first false b h = absurd (false_true h)

or_later : (a b : Bool) → b ≡ true → (a || b) ≡ true
or_later true b h = refl
or_later false b h = h

-- its own reading joins the device
one_joined : (me : ℕ) (d : Devices) (r : Reading) → r.seizer ≡ me → (joining_one me d r).joined ≡ set_with d.joined r.device
one_joined me d r own = ap (λ (z : Devices). z.joined) (by_test (joins_by me d.valid r) (or_first (r.seizer == me) (has_key_of me r.keys && has d.valid r.device) (itself r.seizer me own)))
  where
    more : Devices
    more = record { valid = set_with d.valid r.device; joined = set_with d.joined r.device }

    less : Devices
    less = record { valid = set_without d.valid r.device; joined = set_without d.joined r.device }

    by_test : (b : Bool) → b ≡ true → (if b then more else less) ≡ more
    by_test true is = refl
    by_test false is = absurd (false_true is)

stays_joined : (me : ℕ) (d : Devices) (rs : List Reading) (e : ℕ) → AllByRecursion (ReadingBy me) rs → has d.joined e ≡ true → has (joining_all me d rs).joined e ≡ true
stays_joined me d [] e own h = h
stays_joined me d (r ∷ rs) e own h =
    stays_joined me (joining_one me d r) rs e own.1
    (ap (λ s. has s e) (one_joined me d r own.0.0) ∙ (has_more d.joined r.device e own.0.1 own.0.2 ∙ or_later (e == r.device) (has d.joined e) h))

-- each of these is joined
abbrev AreJoined : ℕ → List Reading → Type 0
AreJoined joined rs = AllByRecursion (λ (r : Reading). has joined r.device ≡ true) rs

all_joined : (me : ℕ) (d : Devices) (rs : List Reading) → AllByRecursion (ReadingBy me) rs → AreJoined (joining_all me d rs).joined rs
all_joined me d [] own = tt
all_joined me d (r ∷ rs) own = (
  stays_joined me (joining_one me d r) rs r.device own.1
      (ap (λ s. has s r.device) (one_joined me d r own.0.0) ∙ (has_more d.joined r.device r.device own.0.1 own.0.2 ∙ or_first (r.device == r.device) (has d.joined r.device) (itself r.device r.device refl))),
  all_joined me (joining_one me d r) rs own.1,
)

-- .. so that it queues nothing
none_to_join : (c : Cluster) (n e set : ℕ) (tasks : List Task) (rs : List Reading) → AreJoined set rs → joining_from c n e set tasks rs ≡ tasks
none_to_join c n e set tasks [] h = refl
none_to_join c n e set tasks (r ∷ rs) h =
    none_to_join c n e set (joining_with c n e set tasks r) rs h.1 ∙ by_test (has_path c.attached n r.device) (has set r.device) _ h.0
  where
    by_test : (path has_it : Bool) (more : List Task) → has_it ≡ true → (if path && not has_it then more else tasks) ≡ tasks
    by_test true true more is = refl
    by_test false true more is = refl
    by_test path false more is = absurd (false_true is)

nothing_left : (c : Cluster) (n : ℕ) (s : NodeState) (i : Install) → s.me ≡ n → AllByRecursion (ReadingBy n) i.readings → joins (joining_from c n i.epoch (installed_with s i).joined [] i.readings) ≡ false
nothing_left c n s i me own =
    ap joins (none_to_join c n i.epoch (installed_with s i).joined [] i.readings
    (all_joined s.me (record { valid = s.saved.valid; joined = 0 }) i.readings (subst (λ k. AllByRecursion (ReadingBy k) i.readings) (sym me) own)))

-- ---- it starts

all_are_ready : (s : AttemptState) (n : ℕ) (ns : List ℕ) → s.plan.coordinator ≡ n → AllByRecursion (λ k. k ≡ n) ns → list_all (λ k. (k == s.plan.coordinator) || has_readied s.readies k) ns ≡ true
all_are_ready s n [] own alone = refl
all_are_ready s n (k ∷ ns) own alone =
    both_true ((k == s.plan.coordinator) || has_readied s.readies k) (list_all (λ j. (j == s.plan.coordinator) || has_readied s.readies j) ns)
    (or_first (k == s.plan.coordinator) (has_readied s.readies k) (itself k s.plan.coordinator (alone.0 ∙ sym own))) (all_are_ready s n ns own alone.1)
  where
    both_true : (a b : Bool) → a ≡ true → b ≡ true → (a && b) ≡ true
    both_true a b h k = cc

-- the turn in which the coordinator's own part is done
abbrev Started : AttemptState → Turn
Started t = with_steps (record t { own_ready = true; phase = Over }) (step.StartHere ∷ map (send_start t.plan) (others_of t.plan))

own_starts_in : (t : AttemptState) (n : ℕ) (p : Phase) → p ≡ Installing → IsAlone n t → own_readying_in t p ≡ Started t
unfolding starting
own_starts_in t n p is alone = ap (own_readying_in t) is ∙ by_ready (all_ready (record t { own_ready = true })) (all_are_ready t n t.plan.nodes alone.0 alone.1)
  where
    by_ready : (b : Bool) → b ≡ true → (if true && b then Started t else waits (record t { own_ready = true })) ≡ Started t
    by_ready true h = refl
    by_ready false h = absurd (false_true h)

own_starts : (t : AttemptState) (n : ℕ) → t.phase ≡ Installing → IsAlone n t → turn t Own_ready ≡ Started t
unfolding own_readying
own_starts t n is alone = own_starts_in t n t.phase is alone

pub first_joined : (c : Cluster) (n e : ℕ) (x : UpNode) (k : Course) (next : UpNode → Course) → StartsFirst e k → StartsFirst e (joined c n x k next)
first_joined c n e x (Keeps (Starts a k s) rest) next h = h
first_joined c n e x (Acts (Makes (Starts a k s)) rest) next h = h
first_joined c n e x _ next h = absurd h

kept_first : (e : ℕ) (keeps : Bool) (a : AttemptState) (k : Call) (s : NodeState) (rest : Course) → (turn a k).after.plan.epoch ≡ e → StartsFirst e (cuts.kept_if keeps (Starts a k s) rest)
kept_first e true a k s rest h = h
kept_first e false a k s rest h = h

turned_first : (c : Cluster) (n e : ℕ) (x : UpNode) (t : AttemptState) (k : Call) (s : NodeState) (rest : List Step) → x.seat ≡ Forming s → (turn t k).after.plan.epoch ≡ e → starts_now s e ≡ true
    → StartsFirst e (cuts.turned_by c n x t k (step.StartHere ∷ rest))
turned_first c n e x t k s rest seat epoch starts =
    subst (λ z. StartsFirst e (cuts.started c n x t k rest z)) (sym seat)
    (by_test (starts_now s (turn t k).after.plan.epoch) (ap (λ j. starts_now s j) epoch ∙ starts))
  where
    by_test : (b : Bool) → b ≡ true
        → StartsFirst e (if b then cuts.kept_if (is_some s.saved.entries.pending) (Starts t k s) (cuts.steps_course c n (changed c n x (Starts t k s)) rest) else cuts.gone_on c n x t k rest)
    by_test true is = kept_first e (is_some s.saved.entries.pending) t k s _ epoch
    by_test false is = absurd (false_true is)

readied_first : (c : Cluster) (n e : ℕ) (x : UpNode) (t : AttemptState) (s : NodeState) → t.phase ≡ Installing → IsAlone n t → t.plan.epoch ≡ e → x.seat ≡ Forming s → starts_now s e ≡ true → StartsFirst e (cuts.turned_all c n x t Own_ready)
readied_first c n e x t s is alone epoch seat starts =
    let now : turn t Own_ready ≡ Started t = own_starts t n is alone in
    first_joined c n e x (cuts.turned c n x t Own_ready) (cuts.if_started c n (turn t Own_ready).steps)
    (subst (λ (steps : List Step). StartsFirst e (cuts.turned_by c n x t Own_ready steps)) (sym (ap (λ (u : Turn). u.steps) now))
    (turned_first c n e x t Own_ready s (map (send_start t.plan) (others_of t.plan)) seat (ap (λ (u : Turn). u.after.plan.epoch) now ∙ epoch) starts))

pub own_ready_first : (c : Cluster) (n e : ℕ) (x : UpNode) (t : AttemptState) (s : NodeState) → joins x.tasks ≡ false → x.attempt ≡ Some t → t.phase ≡ Installing → IsAlone n t → t.plan.epoch ≡ e → x.seat ≡ Forming s → starts_now s e ≡ true
    → StartsFirst e (cuts.own_ready_course c n x)
own_ready_first c n e x t s none has_t is alone epoch seat starts =
    by_test (joins x.tasks) none (subst (λ o. StartsFirst e (cuts.readied_course c n x o)) (sym has_t) (readied_first c n e x t s is alone epoch seat starts))
  where
    by_test : (b : Bool) → b ≡ false → StartsFirst e (cuts.readied_course c n x x.attempt) → StartsFirst e (if b then Stops else cuts.readied_course c n x x.attempt)
    by_test false h k = k
    by_test true h k = absurd (false_true (sym h))

-- behind the install of a coordinator alone
starts_after : (s : NodeState) (i : Install) → installs_now s i ≡ true → starts_now (installed_with s i) i.epoch ≡ true
starts_after s i now =
    let parts : (nat_le 1 i.epoch && (s.session == i.epoch)) ≡ true × (not (s.saved.installed == i.epoch) ≡ true) = and_cases (nat_le 1 i.epoch && (s.session == i.epoch)) (not (s.saved.installed == i.epoch)) now in
    both_true (nat_le 1 i.epoch && (s.session == i.epoch)) (i.epoch == i.epoch) parts.0 (itself i.epoch i.epoch refl)
  where
    both_true : (a b : Bool) → a ≡ true → b ≡ true → (a && b) ≡ true
    both_true a b h k = cc

pub lonely_first : (c : Cluster) (n : ℕ) (x : UpNode) (a : AttemptState) (k : Call) (s : NodeState) (i : Install) → installs_now s i ≡ true → (turn a k).after.phase ≡ Installing → i.epoch ≡ (turn a k).after.plan.epoch
    → IsLonely n s (turn a k).after i → StartsFirst i.epoch (cuts.own_ready_course c n (changed c n x (Counts a k s i)))
lonely_first c n x a k s i now is epoch lonely =
    own_ready_first c n i.epoch (changed c n x (Counts a k s i)) (turn a k).after (installed_with s i) (nothing_left c n s i lonely.me lonely.own) refl is lonely.alone (sym epoch) refl (starts_after s i now)
