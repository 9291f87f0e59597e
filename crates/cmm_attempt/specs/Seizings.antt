-- Which member seizes a device, which is asked next, and how it ended.
use Rattle.std.specs.Prelude.{ℕ, ◌==◌, ◌&&◌, Bool, true, false, not, List, [], Option, Some, None, is_none, is_some, fold, if◌then◌else◌}
use Rattle.std.specs.List.{list_any, list_all, find}
use Rattle.cl_base.specs.Keys.{key_of}
use Rattle.cl_base.specs.Sets.{has, set_with}
use Rattle.seize.specs.declared.kind.SeizeKind.{SeizeKind}
use Rattle.seize.specs.declared.kind.SeizeKind.TheVariants.{Vote, Plain}
use Rattle.cl_base.specs.Seizings.{SeizeResult}
use Rattle.cl_base.specs.declared.seizing.SeizeEnd.TheVariants.{Held, NotRegistered}
use Rattle.wire.specs.declared.message.Body.{Body}
use Rattle.wire.specs.declared.message.Body.TheVariants.{SeizeQuorum, SeizeData}
use Rattle.wire.specs.declared.lists.Reading.{Reading}
use Rattle.cmm_attempt.specs.declared.attached.AttachedDevice.{AttachedDevice}
use Rattle.cmm_attempt.specs.declared.plan.Plan.{Plan}
use Rattle.cmm_attempt.specs.declared.promised.Promised.{Promised}
use Rattle.cmm_attempt.specs.declared.seizing.Seizing.{Seizing}
use Rattle.cmm_attempt.specs.declared.step.Step.{Step}
use Rattle.cmm_attempt.specs.declared.step.Step.TheVariants.{Send, SeizeHere}
use Rattle.cmm_attempt.specs.Promises.{holds_valid}

-- The member may seize a device for its votes: it has a path to it and holds it valid.
abbrev pub may_seize : List Promised → AttachedDevice → ℕ → Bool
may_seize promises a n = has a.nodes n && holds_valid promises a.device n

-- The member may be asked after another was not registered: it may seize the device, its key is among those that were read,
-- and it was not asked yet.
abbrev pub may_follow : ℕ → List Promised → Seizing → List ℕ → ℕ → Bool
may_follow cluster promises e keys n =
    has e.attached.nodes n && holds_valid promises e.attached.device n && not (has e.asked n) && list_any (λ key. key == key_of cluster n) keys

-- a quorum device that is to be seized: the least member that may is asked; where there is none, it is not registered
abbrev pub vote_entry : AttachedDevice → Option ℕ → Seizing
vote_entry a None = record { attached = a; kind = Vote; seizer = None; asked = 0; result = Some (NotRegistered []) }
vote_entry a (Some n) = record { attached = a; kind = Vote; seizer = Some n; asked = set_with 0 n; result = None }

abbrev pub first_seizer : Plan → List Promised → AttachedDevice → Option ℕ
first_seizer plan promises a = find (may_seize promises a) plan.nodes

-- another device that is to be seized: the least member that has a path to it is asked
abbrev pub plain_entry : AttachedDevice → Option ℕ → Option Seizing
plain_entry a None = None
plain_entry a (Some n) = Some (record { attached = a; kind = Plain; seizer = Some n; asked = set_with 0 n; result = None })

abbrev pub is_seized : List Seizing → ℕ → Bool
is_seized devices d = list_any (λ e. e.attached.device == d) devices

abbrev pub plain_new : Plan → List Seizing → AttachedDevice → Option Seizing
plain_new plan devices a = if is_seized devices a.device then None else plain_entry a (find (λ n. has a.nodes n) plan.nodes)

-- the node that is asked to seize the device
abbrev pub is_asked : Option ℕ → ℕ → Bool
is_asked None n = false
is_asked (Some m) n = m == n

-- the node was asked to seize this device, and its answer is awaited
abbrev pub awaits : ℕ → ℕ → Seizing → Bool
awaits d n e = (e.attached.device == d) && is_none e.result && is_asked e.seizer n

-- the node's answer is awaited
abbrev pub awaits_from : ℕ → Seizing → Bool
awaits_from n e = is_none e.result && is_asked e.seizer n

-- each seizing has ended
abbrev pub all_settled : List Seizing → Bool
all_settled devices = list_all (λ e. is_some e.result) devices

-- the seizing of this device ends so, where its answer is awaited
abbrev pub with_result : ℕ → SeizeResult → Seizing → Seizing
with_result d r e = if (e.attached.device == d) && is_none e.result then record e { result = Some r } else e

-- this member is asked next to seize this device
abbrev pub with_next : ℕ → ℕ → Seizing → Seizing
with_next d n e = if (e.attached.device == d) && is_none e.result then record e { seizer = Some n; asked = set_with e.asked n } else e

-- the member to be asked after this result, if there is one
abbrev pub next_by : ℕ → List Promised → List ℕ → Seizing → SeizeKind → SeizeResult → Option ℕ
next_by cluster promises nodes e Vote (NotRegistered keys) = find (may_follow cluster promises e keys) nodes
next_by cluster promises nodes e _ _ = None

abbrev pub is_held_by : Option SeizeResult → Bool
is_held_by (Some (Held keys)) = true
is_held_by (Some _) = false
is_held_by None = false

-- the devices that are held
abbrev pub held_set : List Seizing → ℕ
held_set devices = fold (λ set e. if is_held_by e.result then set_with set e.attached.device else set) 0 devices

abbrev pub request_body : Plan → SeizeKind → ℕ → Body
request_body plan Vote d = SeizeQuorum plan.epoch plan.members d
request_body plan Plain d = SeizeData plan.epoch plan.members d

-- the node is asked to seize the device
abbrev pub request : Plan → SeizeKind → ℕ → ℕ → Step
request plan kind d n =
    if n == plan.coordinator then SeizeHere d kind else Send n (record { sender = plan.coordinator; body = request_body plan kind d })

abbrev pub request_by : Plan → Seizing → Option SeizeResult → Option ℕ → Option Step
request_by plan e None (Some n) = Some (request plan e.kind e.attached.device n)
request_by plan e None None = None
request_by plan e (Some r) _ = None

-- what is to be asked for a seizing that has not ended
abbrev pub request_for : Plan → Seizing → Option Step
request_for plan e = request_by plan e e.result e.seizer

abbrev pub again_by : Plan → Seizing → Option SeizeResult → Option ℕ → Option Step
again_by plan e None (Some n) = if n == plan.coordinator then None else Some (request plan e.kind e.attached.device n)
again_by plan e None None = None
again_by plan e (Some r) _ = None

-- the same, where another node than the coordinator was asked
abbrev pub again_for : Plan → Seizing → Option Step
again_for plan e = again_by plan e e.result e.seizer

abbrev pub reading_by : ℕ → Option ℕ → Option SeizeResult → Option Reading
reading_by d (Some n) (Some (Held keys)) = Some (record { device = d; seizer = n; keys = keys })
reading_by d (Some n) (Some _) = None
reading_by d (Some n) None = None
reading_by d None _ = None

abbrev pub reading_in : Option Seizing → Option Reading
reading_in None = None
reading_in (Some e) = reading_by e.attached.device e.seizer e.result

-- what was read on the device, where it is held
abbrev pub reading_of : List Seizing → AttachedDevice → Option Reading
reading_of devices a = reading_in (find (λ e. e.attached.device == a.device) devices)
