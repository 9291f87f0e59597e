-- Each step that a call gives has its widths.
use Rattle.std.specs.Prelude.{ℕ, zero, suc, ◌≡◌, ◌≤◌, ◌==◌, ◌&&◌, ◌++◌, All, Bool, true, false, List, [], ◌∷◌, Option, None, Some, IfSome, is_none, find, filter, length, map, if◌then◌else◌}
use Rattle.std.proofs.Common.{refl, subst, arith}
use Rattle.std.specs.List.{AllByRecursion, cons_option, filter_map}
use Rattle.cl_base.specs.Numbers.{numbers_to}
use Rattle.cl_base.specs.Sets.{has}
use Rattle.seize.specs.declared.kind.SeizeKind.{SeizeKind}
use Rattle.seize.specs.declared.kind.SeizeKind.TheVariants.{Vote, Plain}
use Rattle.cl_base.specs.Seizings.{SeizeResult}
use Rattle.wire.specs.declared.message.Body.{Body}
use Rattle.wire.specs.declared.message.Body.TheVariants as body
use Rattle.wire.specs.declared.message.Message.{Message}
use Rattle.wire.specs.Spelling.{IsDevice, IsNode, IsNodes, IsWord}
use Rattle.cmm_attempt.specs.declared.attached.AttachedDevice.{AttachedDevice}
use Rattle.cmm_attempt.specs.declared.phase.Phase.{Phase}
use Rattle.cmm_attempt.specs.declared.phase.Phase.TheVariants.{Collecting, Choosing, SeizingVotes, SeizingOthers, Installing, Over}
use Rattle.cmm_attempt.specs.declared.plan.Plan.{Plan}
use Rattle.cmm_attempt.specs.declared.promised.Promised.{Promised}
use Rattle.cmm_attempt.specs.declared.promised.Shown.{Shown}
use Rattle.cmm_attempt.specs.declared.seizing.Seizing.{Seizing}
use Rattle.cmm_attempt.specs.declared.step.AttemptEnd.{AttemptEnd}
use Rattle.cmm_attempt.specs.declared.step.AttemptEnd.TheVariants as ended
use Rattle.cmm_attempt.specs.declared.step.Step.{Step}
use Rattle.cmm_attempt.specs.declared.step.Step.TheVariants as step
use Rattle.cmm_attempt.specs.Attempts.{AttemptState, Turn, again_in, asked_next, beginning, collects, first_state, in_phase, install_in, installing, installs, later, plain_devices, promises_of, silent_others, shortage, shortage_under, ended_by}
use Rattle.cmm_attempt.specs.Calls as calls
use Rattle.cmm_attempt.specs.Calls.{Call, May, Tick, turn}
use Rattle.cmm_attempt.specs.Plans.{others_of}
use Rattle.cmm_attempt.specs.Promises.{first_left_out, newest_shown, promised_by, shown_by}
use Rattle.cmm_attempt.specs.Seizings.{again_by, again_for, awaits, held_set, is_asked, next_by, request, request_body, request_by, request_for}
use Rattle.cmm_attempt.specs.Counts.{first_short, reached_set}
use Rattle.cmm_attempt.specs.declared.counting.BothVotes.{BothVotes}
use Rattle.quorum_votes.specs.Tables.{VoteTable}
use Rattle.cmm_attempt.proofs.Basics.{and_cases, if_either, same_number}
use Rattle.attempt_laws.proofs.Sends.{found_entry}
use Rattle.attempt_laws.proofs.Steady.{walk as steady_walk}
use Rattle.attempt_laws.proofs.Walk.{Walk, walks, walks_begun}
use Rattle.refinement.specs.node_widths.Widths.{AttemptFits, BodyFits, PromisedFits, SeizingFits}
use Rattle.refinement.proofs.node_widths.Attempts.{CallFits, install_fits, next_is_node, promise_fits, steady, when_some}
use Rattle.refinement.proofs.node_widths.Tasks.{all_and_one, found_fits}

-- one that names a member that is left out names a node
abbrev pub EndFits : AttemptEnd → Type 0
EndFits (ended.Excluded n) = IsNode n
EndFits _ = Unit {0}

abbrev pub StepFits : Step → Type 0
StepFits (step.Send to m) = IsNode to × BodyFits m.body
StepFits (step.SeizeHere d kind) = IsDevice d
StepFits (step.InstallHere i) = BodyFits (body.Install i)
StepFits (step.Ended e) = EndFits e
StepFits (step.NeedVotes n) = Unit {0}
StepFits step.StartHere = Unit {0}

abbrev pub AllSteps : List Step → Type 0
AllSteps steps = AllByRecursion StepFits steps

-- Lists of steps.

kept_if : (b : Bool) (n : ℕ) (ns : List ℕ) → IsNode n → AllByRecursion IsNode ns → AllByRecursion IsNode (if b then n ∷ ns else ns)
kept_if true n ns is h = (is, h)
kept_if false n ns is h = h

some_nodes : (f : ℕ → Bool) (ns : List ℕ) → AllByRecursion IsNode ns → AllByRecursion IsNode (filter f ns)
some_nodes f [] h = tt
some_nodes f (n ∷ ns) h = kept_if (f n) n (filter f ns) h.0 (some_nodes f ns h.1)

sent_fit : (sender : ℕ) (b : Body) (ns : List ℕ) → BodyFits b → AllByRecursion IsNode ns → AllSteps (map (λ n. step.Send n (record { sender = sender; body = b })) ns)
sent_fit sender b [] f h = tt
sent_fit sender b (n ∷ ns) f h = ((h.0, f), sent_fit sender b ns f h.1)

request_body_fits : (plan : Plan) (kind : SeizeKind) (d : ℕ) → IsWord plan.epoch → IsNodes plan.members → IsDevice d → BodyFits (request_body plan kind d)
request_body_fits plan Vote d epoch members is = (epoch, members, is)
request_body_fits plan Plain d epoch members is = (epoch, members, is)

request_fits : (plan : Plan) (kind : SeizeKind) (d n : ℕ) → IsWord plan.epoch → IsNodes plan.members → IsDevice d → IsNode n → StepFits (request plan kind d n)
request_fits plan kind d n epoch members is node =
    if_either StepFits (n == plan.coordinator) (step.SeizeHere d kind) (step.Send n (record { sender = plan.coordinator; body = request_body plan kind d }))
    is (node, request_body_fits plan kind d epoch members is)

by_request : (plan : Plan) (e : Seizing) (r : Option SeizeResult) (o : Option ℕ) → IsWord plan.epoch → IsNodes plan.members → IsDevice e.attached.device → IfSome o IsNode
    → IfSome (request_by plan e r o) StepFits
by_request plan e None (Some n) epoch members is node = request_fits plan e.kind e.attached.device n epoch members is node
by_request plan e None None epoch members is node = tt
by_request plan e (Some r) o epoch members is node = tt

by_again : (plan : Plan) (e : Seizing) (r : Option SeizeResult) (o : Option ℕ) → IsWord plan.epoch → IsNodes plan.members → IsDevice e.attached.device → IfSome o IsNode
    → IfSome (again_by plan e r o) StepFits
by_again plan e None (Some n) epoch members is node =
    if_either (λ s. IfSome s StepFits) (n == plan.coordinator) None (Some (request plan e.kind e.attached.device n)) tt (request_fits plan e.kind e.attached.device n epoch members is node)
by_again plan e None None epoch members is node = tt
by_again plan e (Some r) o epoch members is node = tt

step_more : (o : Option Step) (steps : List Step) → IfSome o StepFits → AllSteps steps → AllSteps (cons_option o steps)
step_more None steps q h = h
step_more (Some s) steps q h = (q, h)

requests_fit : (plan : Plan) (es : List Seizing) → IsWord plan.epoch → IsNodes plan.members → AllByRecursion SeizingFits es → AllSteps (filter_map (request_for plan) es)
requests_fit plan [] epoch members h = tt
requests_fit plan (e ∷ es) epoch members h =
    step_more (request_for plan e) (filter_map (request_for plan) es) (by_request plan e e.result e.seizer epoch members h.0.0 h.0.1) (requests_fit plan es epoch members h.1)

agains_fit : (plan : Plan) (es : List Seizing) → IsWord plan.epoch → IsNodes plan.members → AllByRecursion SeizingFits es → AllSteps (filter_map (again_for plan) es)
agains_fit plan [] epoch members h = tt
agains_fit plan (e ∷ es) epoch members h =
    step_more (again_for plan e) (filter_map (again_for plan) es) (by_again plan e e.result e.seizer epoch members h.0.0 h.0.1) (agains_fit plan es epoch members h.1)

silent_nodes : (s : AttemptState) → AttemptFits s → AllByRecursion IsNode (silent_others s)
silent_nodes s h = some_nodes _ s.plan.nodes h.nodes

collects_fit : (s : AttemptState) → AttemptFits s → AllSteps (collects s)
collects_fit s h = sent_fit s.plan.coordinator (body.Collect s.plan.epoch s.plan.members) (silent_others s) (h.epoch, h.members) (silent_nodes s h)

installs_fit : (s : AttemptState) → AttemptFits s → AllSteps (installs s)
installs_fit s h = sent_fit s.plan.coordinator (body.Install (install_in s)) (silent_others s) (install_fits s h) (silent_nodes s h)

again_fits : (s : AttemptState) (phase : Phase) → AttemptFits s → AllSteps (again_in s phase)
again_fits s Collecting h = collects_fit s h
again_fits s Choosing h = tt
again_fits s SeizingVotes h = agains_fit s.plan s.devices h.epoch h.members h.seizings
again_fits s SeizingOthers h = agains_fit s.plan s.devices h.epoch h.members h.seizings
again_fits s Installing h = installs_fit s h
again_fits s Over h = tt

-- a node that the newest record left out is a member
left_out_is_node : (promises : List Promised) (nodes : List ℕ) (o : Option Shown) → AllByRecursion IsNode nodes → IfSome (first_left_out promises nodes o) IsNode
left_out_is_node promises nodes None h = tt
left_out_is_node promises nodes (Some newest) h = found_fits IsNode _ nodes h

-- want of votes names no node
ended_fits : (s : AttemptState) (devices : ℕ) (o : Option VoteTable) → IfSome (ended_by s devices o) EndFits
ended_fits s devices None = tt
ended_fits s devices (Some v) = tt

under_fits : (s : AttemptState) (devices : ℕ) (o : Option BothVotes) → IfSome (shortage_under s devices o) EndFits
under_fits s devices None = tt
under_fits s devices (Some both) = ended_fits s devices (first_short both s.plan.members devices)

short_fits : (s : AttemptState) (devices : ℕ) (e : AttemptEnd) → shortage s devices ≡ Some e → EndFits e
short_fits s devices e is = when_some EndFits (shortage s devices) e (under_fits s devices s.votes) is

-- the device whose answer was awaited
awaited_device : (d from : ℕ) (es : List Seizing) (e : Seizing) → find (awaits d from) es ≡ Some e → AllByRecursion SeizingFits es → IsDevice d
awaited_device d from es e found h =
    let is : awaits d from e ≡ true = (found_entry (awaits d from) es e found).0 in
    let here : ((e.attached.device == d) && is_none e.result) ≡ true = (and_cases ((e.attached.device == d) && is_none e.result) (is_asked e.seizer from) is).0 in
    subst IsDevice (same_number e.attached.device d (and_cases (e.attached.device == d) (is_none e.result) here).0)
    (when_some SeizingFits (find (awaits d from) es) e (found_fits SeizingFits (awaits d from) es h) found).0

-- The walk.

abbrev Good : Turn → Type 0
Good u = AttemptFits u.after × AllSteps u.steps

second_fits : (xs ys : List Seizing) → AllByRecursion SeizingFits (xs ++ ys) → AllByRecursion SeizingFits ys
second_fits [] ys h = h
second_fits (x ∷ xs) ys h = second_fits xs ys h.1

good_walk : (c : Call) → CallFits c → Walk c (λ s. AttemptFits s × May s c) AttemptFits Good
unfolding asked_next installing
good_walk c fits =
    let W : Walk c (λ s. AttemptFits s × May s c) AttemptFits (λ u. AttemptFits u.after) = steady_walk c AttemptFits AttemptFits (steady c fits) in
    record {
      within = λ s i. W.within s i;
      rests = λ s i. (i.0, tt);
      passes = λ s is e i. (W.passes s is e i, tt);
      again = λ s is e i. (W.again s is e i, again_fits (record s { ticks = later s.ticks }) s.phase (W.again s is e i));
      silent = λ s n is late least i. (W.silent s n is late least i, (tt, tt));
      superseded = λ s from m q is nack i. (W.superseded s from m q is nack i, (tt, tt));
      promise = λ s from m p is awaited of promised i. W.promise s from m p is awaited of promised i;
      collects = λ s is e k. (W.collects s is e k, collects_fit s (W.collects s is e k));
      collecting = λ s is e k. (W.collecting s is e k, tt);
      no_newest = λ s is all none k. (W.no_newest s is all none k, tt);
      chosen = λ s newest is all some k. (W.chosen s newest is all some k, (tt, tt));
      votes = λ s both is i. W.votes s both is i;
      foreign = λ s both n is given least k. (W.foreign s both n is given least k, (tt, tt));
      excluded = λ s n is least k. (
        W.excluded s n is least k,
        (when_some IsNode (first_left_out s.promises s.plan.nodes (newest_shown s.promises)) n (left_out_is_node s.promises s.plan.nodes (newest_shown s.promises) k.nodes) least, tt),
      );
      impossible = λ s e is short k. (W.impossible s e is short k, (short_fits s (reached_set s.plan) e short, tt));
      entries = λ s is enough k. W.entries s is enough k;
      requests = λ s is e k. (W.requests s is e k, requests_fit s.plan s.devices k.epoch k.members k.seizings);
      result = λ s d from r e is tells found none i. W.result s d from r e is tells found none i;
      next = λ s d from n r e is tells found next i. (
        W.next s d from n r e is tells found next i,
        (
          request_fits s.plan e.kind d n i.0.epoch i.0.members (awaited_device d from s.devices e found i.0.seizings)
              (when_some IsNode (next_by s.plan.cluster s.promises s.plan.nodes e e.kind r) n (next_is_node s.plan.cluster s.promises s.plan.nodes e e.kind r i.0.nodes) next),
          tt,
        ),
      );
      seizing = λ s is e k. (W.seizing s is e k, tt);
      short = λ s e is all few k. (W.short s e is all few k, (short_fits s (held_set s.devices) e few, tt));
      others = λ s is all enough some k.
          let t : AttemptState = record (in_phase s SeizingOthers) { counted = held_set s.devices; devices = s.devices ++ plain_devices s } in
          let i : AttemptFits t = W.others s is all enough some k in
          (i, requests_fit s.plan (plain_devices s) i.epoch i.members (second_fits s.devices (plain_devices s) i.seizings));
      installs_at_once = λ s is all enough none k.
          let t : AttemptState = in_phase (record s { counted = held_set s.devices }) Installing in
          let i : AttemptFits t = W.installs_at_once s is all enough none k in
          (i, (install_fits t i, installs_fit t i));
      installs = λ s is all k.
          let t : AttemptState = in_phase s Installing in
          let i : AttemptFits t = W.installs s is all k in
          (i, (install_fits t i, installs_fit t i));
      ready = λ s from m is at of ready_body i. W.ready s from m is at of ready_body i;
      own = λ s is at i. W.own s is at i;
      installing = λ s at e k. (W.installing s at e k, tt);
      starts = λ s at e k. (
        W.starts s at e k,
        (tt, sent_fit s.plan.coordinator (body.Start s.plan.epoch) (others_of s.plan) k.epoch (some_nodes _ s.plan.nodes k.nodes)),
      );
    }

-- each call keeps the widths, and so do its steps
pub turn_fits : (s : AttemptState) (c : Call) → May s c → CallFits c → AttemptFits s → AttemptFits (turn s c).after × AllSteps (turn s c).steps
turn_fits s c may fits h = walks (λ x. AttemptFits x × May x c) AttemptFits Good s c (good_walk c fits) (h, may)

-- the attempt begins
number_is_node : (k : ℕ) → suc k ≤ 32 → IsNode (suc k)
number_is_node k h = (omega arith, h)

pub numbers_are_nodes : (set k : ℕ) → k ≤ 32 → AllByRecursion IsNode (numbers_to set k)
numbers_are_nodes set zero h = tt
numbers_are_nodes set (suc k) h =
    let before : AllByRecursion IsNode (numbers_to set k) = numbers_are_nodes set k (omega (arith, h)) in
    if_either (AllByRecursion IsNode) (has set (suc k)) (numbers_to set k ++ suc k ∷ []) (numbers_to set k)
    (all_and_one IsNode (numbers_to set k) (suc k) before (number_is_node k h)) before

first_promises : (o : Option Promised) → IfSome o PromisedFits → AllByRecursion PromisedFits (promises_of o)
first_promises None h = tt
first_promises (Some p) h = (h, tt)

all_some : {X : Type 0} (P : X → Type 0) (o : Option X) → ((x : X) → o ≡ Some x → P x) → IfSome o P
all_some P None f = tt
all_some P (Some x) f = f x refl

pub first_fits : (p members : ℕ) (own : Message) (attached : List AttachedDevice) (cluster : ℕ) → IsWord p → IsNodes members → BodyFits own.body → length attached ≤ 16 → All calls.IsDevice attached
    → AttemptFits (beginning p members own attached cluster).after × AllSteps (beginning p members own attached cluster).steps
unfolding beginning
first_fits p members own attached cluster epoch set promise few are =
    let shown : Option Promised = promised_by own (shown_by own.sender own.body) in
    walks_begun Tick (λ s. AttemptFits s × May s Tick) AttemptFits Good (good_walk Tick tt) (first_state p members own attached cluster (promises_of shown)) refl (record {
      epoch = epoch;
      members = set;
      nodes = numbers_are_nodes members 32 (omega arith);
      few = few;
      attached = are;
      promised = first_promises shown (all_some PromisedFits shown (λ x e. promise_fits own own.sender x e promise));
      seizings = tt;
    })
