-- The devices that an attempt seizes are those of the cluster, and who is asked is a member.
use Rattle.std.specs.Prelude.{ℕ, zero, suc, ◌==◌, ◌&&◌, ◌++◌, List, [], ◌∷◌, map, Option, None, Some, IfSome, is_none, find}
use Rattle.std.specs.List.{AllByRecursion, filter_map}
use Rattle.std.proofs.Common.{refl, subst}
use Rattle.attempt_laws.proofs.Steady.{Steady, begun_keeps, call_keeps}
use Rattle.attempt_laws.proofs.Walk.{if_with}
use Rattle.cl_base.specs.Limits.{most_nodes}
use Rattle.cl_base.specs.Numbers.{numbers_to}
use Rattle.cl_base.specs.Sets.{has, set_with}
use Rattle.cmm_attempt.proofs.Basics.{if_either}
use Rattle.cmm_attempt.specs.Attempts.{AttemptState, beginning, first_state, plain_devices, promises_of, vote_entries_under}
use Rattle.cmm_attempt.specs.Calls.{Call, May, Tick, turn}
use Rattle.cmm_attempt.specs.Counts.{is_quorum, vote_new}
use Rattle.cmm_attempt.specs.Plans.{is_reachable}
use Rattle.cmm_attempt.specs.Promises.{promised_by, shown_by}
use Rattle.cmm_attempt.specs.Seizings.{first_seizer, is_seized, may_follow, may_seize, next_by, plain_entry, plain_new, vote_entry, with_next, with_result}
use Rattle.cmm_attempt.specs.declared.attached.AttachedDevice.{AttachedDevice}
use Rattle.cmm_attempt.specs.declared.counting.BothVotes.{BothVotes}
use Rattle.cmm_attempt.specs.declared.plan.Plan.{Plan}
use Rattle.cmm_attempt.specs.declared.promised.Promised.{Promised}
use Rattle.cmm_attempt.specs.declared.seizing.Seizing.{Seizing}
use Rattle.cl_base.specs.Seizings.{SeizeResult}
use Rattle.cl_base.specs.declared.seizing.SeizeEnd.TheVariants.{Contended, Expelled, Fault, Greater, Held, NotRegistered}
use Rattle.node_model.specs.declared.cluster.Cluster.{Cluster}
use Rattle.run_history.proofs.Lists.{both, found, more}
use Rattle.seize.specs.declared.kind.SeizeKind.{SeizeKind}
use Rattle.seize.specs.declared.kind.SeizeKind.TheVariants.{Plain, Vote}
use Rattle.wire.specs.declared.message.Message.{Message}
use Rattle.run_packets.specs.native.Named.{AttemptKnown, EntryKnown, IsKnown, IsMemberOf, PartsKnown}

-- with other entries
with_entries : (c : Cluster) (s : AttemptState) (devices : List Seizing) → AllByRecursion (EntryKnown c s.plan.members) devices → AttemptKnown c s
    → PartsKnown c s.plan.members s.plan.nodes s.plan.attached devices
with_entries c s devices are h = record { nodes_so = h.nodes_so; attached_so = h.attached_so; devices_so = are }

mapped : (c : Cluster) (members : ℕ) (f : Seizing → Seizing) → ((e : Seizing) → EntryKnown c members e → EntryKnown c members (f e)) → (es : List Seizing)
    → AllByRecursion (EntryKnown c members) es → AllByRecursion (EntryKnown c members) (map f es)
mapped c members f keeps [] h = tt
mapped c members f keeps (e ∷ es) h = (keeps e h.0, mapped c members f keeps es h.1)

-- ---- new entries

plain_known : (c : Cluster) (members : ℕ) (a : AttachedDevice) (o : Option ℕ) → IsKnown c a.device → IfSome o (IsMemberOf members) → IfSome (plain_entry a o) (EntryKnown c members)
plain_known c members a None is of = tt
plain_known c members a (Some n) is of = (is, of)

plains_known : (c : Cluster) (plan : Plan) (devices : List Seizing) (attached : List AttachedDevice) → AllByRecursion (IsMemberOf plan.members) plan.nodes
    → AllByRecursion (λ (a : AttachedDevice). IsKnown c a.device) attached → AllByRecursion (EntryKnown c plan.members) (filter_map (plain_new plan devices) attached)
plains_known c plan devices [] nodes are = tt
plains_known c plan devices (a ∷ attached) nodes are =
    more (EntryKnown c plan.members) (plain_new plan devices a) (filter_map (plain_new plan devices) attached)
    (if_either (λ o. IfSome o (EntryKnown c plan.members)) (is_seized devices a.device) None (plain_entry a (find (λ n. has a.nodes n) plan.nodes)) tt
    (plain_known c plan.members a (find (λ n. has a.nodes n) plan.nodes) are.0 (found (IsMemberOf plan.members) (λ n. has a.nodes n) plan.nodes nodes)))
    (plains_known c plan devices attached nodes are.1)

vote_known : (c : Cluster) (members : ℕ) (a : AttachedDevice) (o : Option ℕ) → IsKnown c a.device → IfSome o (IsMemberOf members) → EntryKnown c members (vote_entry a o)
vote_known c members a None is of = (is, tt)
vote_known c members a (Some n) is of = (is, of)

votes_known : (c : Cluster) (plan : Plan) (promises : List Promised) (votes : BothVotes) (attached : List AttachedDevice) → AllByRecursion (IsMemberOf plan.members) plan.nodes
    → AllByRecursion (λ (a : AttachedDevice). IsKnown c a.device) attached → AllByRecursion (EntryKnown c plan.members) (filter_map (vote_new plan promises votes) attached)
votes_known c plan promises votes [] nodes are = tt
votes_known c plan promises votes (a ∷ attached) nodes are =
    more (EntryKnown c plan.members) (vote_new plan promises votes a) (filter_map (vote_new plan promises votes) attached)
    (if_either (λ o. IfSome o (EntryKnown c plan.members)) (is_quorum votes a.device && is_reachable plan a) (Some (vote_entry a (first_seizer plan promises a))) None
    (vote_known c plan.members a (first_seizer plan promises a) are.0 (found (IsMemberOf plan.members) (may_seize promises a) plan.nodes nodes)) tt)
    (votes_known c plan promises votes attached nodes are.1)

entries_known : (c : Cluster) (s : AttemptState) (o : Option BothVotes) → AttemptKnown c s → AllByRecursion (EntryKnown c s.plan.members) (vote_entries_under s o)
entries_known c s None h = tt
entries_known c s (Some votes) h = votes_known c s.plan s.promises votes s.plan.attached h.nodes_so h.attached_so

-- ---- an entry that goes on

result_known : (c : Cluster) (members d : ℕ) (r : SeizeResult) (e : Seizing) → EntryKnown c members e → EntryKnown c members (with_result d r e)
result_known c members d r e h = if_either (EntryKnown c members) ((e.attached.device == d) && is_none e.result) (record e { result = Some r }) e h h

next_known : (c : Cluster) (members d n : ℕ) (e : Seizing) → IsMemberOf members n → EntryKnown c members e → EntryKnown c members (with_next d n e)
next_known c members d n e of h =
    if_either (EntryKnown c members) ((e.attached.device == d) && is_none e.result) (record e { seizer = Some n; asked = set_with e.asked n }) e (h.0, of) h

-- who is asked next is a member
asked_next : (P : ℕ → Type 0) (cluster : ℕ) (promises : List Promised) (nodes : List ℕ) (e : Seizing) (kind : SeizeKind) (r : SeizeResult) → AllByRecursion P nodes
    → IfSome (next_by cluster promises nodes e kind r) P
asked_next P cluster promises nodes e Vote (NotRegistered keys) are = found P (may_follow cluster promises e keys) nodes are
asked_next P cluster promises nodes e Vote (Held keys) are = tt
asked_next P cluster promises nodes e Vote (Greater w) are = tt
asked_next P cluster promises nodes e Vote Expelled are = tt
asked_next P cluster promises nodes e Vote (Contended key) are = tt
asked_next P cluster promises nodes e Vote Fault are = tt
asked_next P cluster promises nodes e Plain r are = tt

known_steady : (c : Cluster) (k : Call) → Steady k (AttemptKnown c) (AttemptKnown c)
known_steady c k = record {
  within = λ s i. i;
  ticked = λ s i. i;
  over = λ s i. i;
  promise = λ s from message p is awaited of promised i. i;
  collecting = λ s is e i. i;
  no_newest = λ s is all none i. i;
  chosen = λ s newest is all some i. i;
  votes = λ s votes is i. with_entries c s [] tt i;
  entries = λ s is i. with_entries c s (vote_entries_under s s.votes) (entries_known c s s.votes i) i;
  result = λ s d from r is tells i. with_entries c s (map (with_result d r) s.devices) (mapped c s.plan.members (with_result d r) (result_known c s.plan.members d r) s.devices i.devices_so) i;
  next = λ s d n e kind r is asked i.
      with_entries c s (map (with_next d n) s.devices)
      (mapped c s.plan.members (with_next d n)
      (λ x. next_known c s.plan.members d n x
      (subst (λ o. IfSome o (IsMemberOf s.plan.members)) asked (asked_next (IsMemberOf s.plan.members) s.plan.cluster s.promises s.plan.nodes e kind r i.nodes_so))) s.devices i.devices_so) i;
  seizing = λ s is e i. i;
  counted = λ s is h i. i;
  others = λ s is ne i.
      with_entries c s (s.devices ++ plain_devices s)
      (both (EntryKnown c s.plan.members) s.devices (plain_devices s) i.devices_so (plains_known c s.plan s.devices s.plan.attached i.nodes_so i.attached_so)) i;
  installs = λ s is i. i;
  ready = λ s from message is at of ready_body i. i;
  own = λ s is at i. i;
  installing = λ s at e i. i;
}

pub call_known : (c : Cluster) (a : AttemptState) (k : Call) → May a k → AttemptKnown c a → AttemptKnown c (turn a k).after
call_known c a k may h = call_keeps (AttemptKnown c) (AttemptKnown c) a k (known_steady c k) may h

-- ---- at first

numbers_of : (members k : ℕ) → AllByRecursion (IsMemberOf members) (numbers_to members k)
numbers_of members zero = tt
numbers_of members (suc k) =
    if_with (AllByRecursion (IsMemberOf members)) (has members (suc k)) (has members (suc k)) (numbers_to members k ++ suc k ∷ []) (numbers_to members k) refl
    (λ is. both (IsMemberOf members) (numbers_to members k) (suc k ∷ []) (numbers_of members k) (is, tt)) (λ none. numbers_of members k)

pub begun_known : (c : Cluster) (p members : ℕ) (own : Message) (attached : List AttachedDevice) (cluster : ℕ) → AllByRecursion (λ (a : AttachedDevice). IsKnown c a.device) attached
    → AttemptKnown c (beginning p members own attached cluster).after
unfolding beginning
begun_known c p members own attached cluster are =
    let first : AttemptState = first_state p members own attached cluster (promises_of (promised_by own (shown_by own.sender own.body))) in
    begun_keeps Tick (AttemptKnown c) (AttemptKnown c) (known_steady c Tick) first refl
    (record { nodes_so = numbers_of members most_nodes; attached_so = are; devices_so = tt })
