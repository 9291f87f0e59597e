-- What an attempt keeps has its widths after each call.
use Rattle.std.specs.Prelude.{ℕ, suc, ◌≡◌, ◌≤◌, ◌<◌, ◌^◌, ◌==◌, ◌&&◌, ◌++◌, All, Bool, true, false, List, [], ◌∷◌, Option, None, Some, IfSome, is_none, find, length, map, if◌then◌else◌}
use Rattle.std.proofs.Common.{subst, arith}
use Rattle.std.specs.List.{AllByRecursion, cons_option, filter_map}
use Rattle.std.proofs.lemmas.List.Elements.{All-head, All-tail}
use Rattle.cl_base.specs.Seizings.{SeizeResult}
use Rattle.cl_base.specs.Sets.{has, set_with}
use Rattle.cl_base.specs.declared.seizing.SeizeEnd.TheVariants as end
use Rattle.seize.specs.declared.kind.SeizeKind.{SeizeKind}
use Rattle.seize.specs.declared.kind.SeizeKind.TheVariants.{Vote, Plain}
use Rattle.wire.specs.declared.lists.Reading.{Reading}
use Rattle.wire.specs.declared.message.Body.{Body}
use Rattle.wire.specs.declared.message.Body.TheVariants as body
use Rattle.wire.specs.declared.message.Message.{Message}
use Rattle.wire.specs.Spelling.{FitsReading, FitsResult, IsDevice, IsNode, IsShortList, IsWord}
use Rattle.cmm_attempt.specs.declared.attached.AttachedDevice.{AttachedDevice}
use Rattle.cmm_attempt.specs.declared.counting.BothVotes.{BothVotes}
use Rattle.cmm_attempt.specs.declared.plan.Plan.{Plan}
use Rattle.cmm_attempt.specs.declared.promised.Promised.{Promised}
use Rattle.cmm_attempt.specs.declared.seizing.Seizing.{Seizing}
use Rattle.cmm_attempt.specs.Attempts.{AttemptState, install_in, plain_devices, vote_entries_under}
use Rattle.cmm_attempt.specs.Calls as calls
use Rattle.cmm_attempt.specs.Calls.{Call, Own_ready, Own_seized, Take, Tick, With_votes}
use Rattle.cmm_attempt.specs.Counts.{is_quorum, vote_new}
use Rattle.cmm_attempt.specs.Installs.{committed_in, install_by, pending_in}
use Rattle.cmm_attempt.specs.Plans.{is_reachable}
use Rattle.cmm_attempt.specs.Promises.{is_from, promised_by, shown_by}
use Rattle.cmm_attempt.specs.Seizings.{first_seizer, is_seized, next_by, plain_entry, plain_new, reading_by, reading_in, reading_of, vote_entry, with_next, with_result}
use Rattle.cmm_attempt.proofs.Basics.{if_either, none_some, same_some}
use Rattle.attempt_laws.proofs.Steady.{Steady}
use Rattle.attempt_laws.proofs.Walk.{TellsResult}
use Rattle.refinement.specs.node_widths.Widths.{AttemptFits, BodyFits, PartsFit, PlacesFit, PromisedFits, SeizingFits}
use Rattle.refinement.proofs.node_widths.Tasks.{all_and_one, found_fits}

-- what a call tells has its widths
abbrev pub CallFits : Call → Type 0
CallFits (Take from m) = BodyFits m.body
CallFits (Own_seized d r) = FitsResult r
CallFits (With_votes both) = Unit {0}
CallFits Own_ready = Unit {0}
CallFits Tick = Unit {0}

-- Promises.

shown_fits : (m : Message) (n : ℕ) (b : Body) (p : Promised) → promised_by m (shown_by n b) ≡ Some p → BodyFits m.body → BodyFits b → PromisedFits p
shown_fits m n (body.Promise epoch installed members valid flagged committed pending) p h whole f = subst PromisedFits (same_some _ p h) (whole, f.1)
shown_fits m n _ p h whole f = absurd (none_some p h)

pub promise_fits : (m : Message) (n : ℕ) (p : Promised) → promised_by m (shown_by n m.body) ≡ Some p → BodyFits m.body → PromisedFits p
promise_fits m n p h f = shown_fits m n m.body p h f f

-- Results.

told_fits : (c : Call) (s : AttemptState) (d from : ℕ) (r : SeizeResult) → CallFits c → TellsResult c s d from r → FitsResult r
told_fits (Take n m) s d from r f tells = (subst BodyFits tells.1 f).2
told_fits (Own_seized device told) s d from r f tells = subst FitsResult tells.1 f
told_fits (With_votes both) s d from r f tells = absurd tells
told_fits Own_ready s d from r f tells = absurd tells
told_fits Tick s d from r f tells = absurd tells

abbrev AllSeizings : List Seizing → Type 0
AllSeizings es = AllByRecursion SeizingFits es

result_fits : (r : SeizeResult) → FitsResult r → (e : Seizing) (b : Bool) → SeizingFits e → SeizingFits (if b then record e { result = Some r } else e)
result_fits r f e true h = (h.0, h.1, f)
result_fits r f e false h = h

results_fit : (d : ℕ) (r : SeizeResult) → FitsResult r → (es : List Seizing) → AllSeizings es → AllSeizings (map (with_result d r) es)
results_fit d r f [] h = tt
results_fit d r f (e ∷ es) h = (result_fits r f e ((e.attached.device == d) && is_none e.result) h.0, results_fit d r f es h.1)

next_fits : (n : ℕ) → IsNode n → (e : Seizing) (b : Bool) → SeizingFits e → SeizingFits (if b then record e { seizer = Some n; asked = set_with e.asked n } else e)
next_fits n is e true h = (h.0, is, h.2)
next_fits n is e false h = h

nexts_fit : (d n : ℕ) → IsNode n → (es : List Seizing) → AllSeizings es → AllSeizings (map (with_next d n) es)
nexts_fit d n is [] h = tt
nexts_fit d n is (e ∷ es) h = (next_fits n is e ((e.attached.device == d) && is_none e.result) h.0, nexts_fit d n is es h.1)

-- who is asked next is a member
pub next_is_node : (cluster : ℕ) (promises : List Promised) (nodes : List ℕ) (e : Seizing) (kind : SeizeKind) (r : SeizeResult) → AllByRecursion IsNode nodes
    → IfSome (next_by cluster promises nodes e kind r) IsNode
next_is_node cluster promises nodes e Vote (end.NotRegistered keys) h = found_fits IsNode _ nodes h
next_is_node cluster promises nodes e Vote (end.Held keys) h = tt
next_is_node cluster promises nodes e Vote (end.Greater word) h = tt
next_is_node cluster promises nodes e Vote end.Expelled h = tt
next_is_node cluster promises nodes e Vote (end.Contended key) h = tt
next_is_node cluster promises nodes e Vote end.Fault h = tt
next_is_node cluster promises nodes e Plain r h = tt

pub when_some : {X : Type 0} (P : X → Type 0) (o : Option X) (x : X) → IfSome o P → o ≡ Some x → P x
when_some P None x h e = absurd (none_some x e)
when_some P (Some y) x h e = subst P (same_some y x e) h

-- New entries.

entry_more : (o : Option Seizing) (es : List Seizing) → IfSome o SeizingFits → AllSeizings es → AllSeizings (cons_option o es)
entry_more None es q h = h
entry_more (Some e) es q h = (q, h)

no_keys : (length {A = ℕ} [] < 2 ^ 16) × Unit {0}
no_keys = (omega arith, tt)

vote_fits : (a : AttachedDevice) (o : Option ℕ) → calls.IsDevice a → IfSome o IsNode → SeizingFits (vote_entry a o)
vote_fits a None is h = (is, tt, no_keys)
vote_fits a (Some n) is h = (is, h, tt)

votes_fit : (plan : Plan) (promises : List Promised) (both : BothVotes) (attached : List AttachedDevice) → AllByRecursion IsNode plan.nodes → All calls.IsDevice attached
    → AllSeizings (filter_map (vote_new plan promises both) attached)
votes_fit plan promises both [] nodes are = tt
votes_fit plan promises both (a ∷ attached) nodes are =
    entry_more (vote_new plan promises both a) (filter_map (vote_new plan promises both) attached)
    (if_either (λ o. IfSome o SeizingFits) (is_quorum both a.device && is_reachable plan a) (Some (vote_entry a (first_seizer plan promises a))) None
    (vote_fits a (first_seizer plan promises a) (All-head calls.IsDevice a attached are) (found_fits IsNode _ plan.nodes nodes)) tt)
    (votes_fit plan promises both attached nodes (All-tail calls.IsDevice a attached are))

entries_fit : (s : AttemptState) (o : Option BothVotes) → AttemptFits s → AllSeizings (vote_entries_under s o)
entries_fit s None h = tt
entries_fit s (Some both) h = votes_fit s.plan s.promises both s.plan.attached h.nodes h.attached

plain_fits : (a : AttachedDevice) (o : Option ℕ) → calls.IsDevice a → IfSome o IsNode → IfSome (plain_entry a o) SeizingFits
plain_fits a None is h = tt
plain_fits a (Some n) is h = (is, h, tt)

plains_fit : (plan : Plan) (devices : List Seizing) (attached : List AttachedDevice) → AllByRecursion IsNode plan.nodes → All calls.IsDevice attached
    → AllSeizings (filter_map (plain_new plan devices) attached)
plains_fit plan devices [] nodes are = tt
plains_fit plan devices (a ∷ attached) nodes are =
    entry_more (plain_new plan devices a) (filter_map (plain_new plan devices) attached)
    (if_either (λ o. IfSome o SeizingFits) (is_seized devices a.device) None (plain_entry a (find (λ n. has a.nodes n) plan.nodes)) tt
    (plain_fits a (find (λ n. has a.nodes n) plan.nodes) (All-head calls.IsDevice a attached are) (found_fits IsNode _ plan.nodes nodes)))
    (plains_fit plan devices attached nodes (All-tail calls.IsDevice a attached are))

all_append : (xs ys : List Seizing) → AllSeizings xs → AllSeizings ys → AllSeizings (xs ++ ys)
all_append [] ys h k = k
all_append (x ∷ xs) ys h k = (h.0, all_append xs ys h.1 k)

-- The small steps of a call.

with_promises : (plan : Plan) (promises : List Promised) (devices : List Seizing) (new : List Promised) → AllByRecursion PromisedFits new → PartsFit plan promises devices → PartsFit plan new devices
with_promises plan promises devices new f h =
    record { epoch = h.epoch; members = h.members; nodes = h.nodes; few = h.few; attached = h.attached; promised = f; seizings = h.seizings }

with_devices : (plan : Plan) (promises : List Promised) (devices new : List Seizing) → AllSeizings new → PartsFit plan promises devices → PartsFit plan promises new
with_devices plan promises devices new f h =
    record { epoch = h.epoch; members = h.members; nodes = h.nodes; few = h.few; attached = h.attached; promised = h.promised; seizings = f }

pub steady : (c : Call) → CallFits c → Steady c AttemptFits AttemptFits
steady c fits = record {
  within = λ s i. i;
  ticked = λ s i. i;
  over = λ s k. k;
  promise = λ s from m p is awaited of promised i.
      with_promises s.plan s.promises s.devices (s.promises ++ p ∷ []) (all_and_one PromisedFits s.promises p i.promised (promise_fits m from p promised (subst CallFits is fits))) i;
  collecting = λ s is e k. k;
  no_newest = λ s is all none k. k;
  chosen = λ s newest is all some k. k;
  votes = λ s both is i. with_devices s.plan s.promises s.devices [] tt i;
  entries = λ s is k. with_devices s.plan s.promises s.devices (vote_entries_under s s.votes) (entries_fit s s.votes k) k;
  result = λ s d from r is tells i. with_devices s.plan s.promises s.devices _ (results_fit d r (told_fits c s d from r fits tells) s.devices i.seizings) i;
  next = λ s d n e kind r is found i.
      with_devices s.plan s.promises s.devices _
      (nexts_fit d n (when_some IsNode (next_by s.plan.cluster s.promises s.plan.nodes e kind r) n (next_is_node s.plan.cluster s.promises s.plan.nodes e kind r i.nodes) found) s.devices i.seizings) i;
  seizing = λ s is e k. k;
  counted = λ s is h k. k;
  others = λ s is ne k.
      with_devices s.plan s.promises s.devices (s.devices ++ plain_devices s)
      (all_append s.devices (plain_devices s) k.seizings (plains_fit s.plan s.devices s.plan.attached k.nodes k.attached)) k;
  installs = λ s is k. k;
  ready = λ s from m is at of ready_body i. i;
  own = λ s is at i. i;
  installing = λ s at e k. k;
}

-- The install.

reading_fits_by : (d : ℕ) (o : Option ℕ) (r : Option SeizeResult) → IsDevice d → IfSome o IsNode → IfSome r FitsResult → IfSome (reading_by d o r) FitsReading
reading_fits_by d (Some n) (Some (end.Held keys)) is node h = (is, node, h)
reading_fits_by d (Some n) (Some (end.NotRegistered keys)) is node h = tt
reading_fits_by d (Some n) (Some (end.Greater word)) is node h = tt
reading_fits_by d (Some n) (Some end.Expelled) is node h = tt
reading_fits_by d (Some n) (Some (end.Contended key)) is node h = tt
reading_fits_by d (Some n) (Some end.Fault) is node h = tt
reading_fits_by d (Some n) None is node h = tt
reading_fits_by d None r is node h = tt

reading_fits_in : (o : Option Seizing) → IfSome o SeizingFits → IfSome (reading_in o) FitsReading
reading_fits_in None h = tt
reading_fits_in (Some e) h = reading_fits_by e.attached.device e.seizer e.result h.0 h.1 h.2

more_readings : (o : Option Reading) (rs : List Reading) (k : ℕ) → IfSome o FitsReading → (length rs ≤ k) × AllByRecursion FitsReading rs
    → (length (cons_option o rs) ≤ suc k) × AllByRecursion FitsReading (cons_option o rs)
more_readings None rs k q h = (omega (arith, h.0), h.1)
more_readings (Some r) rs k q h = (omega (arith, h.0), (q, h.1))

readings_fit : (devices : List Seizing) → AllSeizings devices → (attached : List AttachedDevice)
    → (length (filter_map (reading_of devices) attached) ≤ length attached) × AllByRecursion FitsReading (filter_map (reading_of devices) attached)
readings_fit devices h [] = (omega arith, tt)
readings_fit devices h (a ∷ attached) =
    more_readings (reading_of devices a) (filter_map (reading_of devices) attached) (length attached)
    (reading_fits_in (find (λ e. e.attached.device == a.device) devices) (found_fits SeizingFits _ devices h)) (readings_fit devices h attached)

-- the updates of a message, and none
pub none_placed : PlacesFit [] None
none_placed = omega arith

placed_in : (b : Body) → BodyFits b → PlacesFit (committed_in b) (pending_in b)
placed_in (body.Promise epoch installed members valid flagged committed pending) h = h.4
placed_in _ h = none_placed

install_fits_by : (plan : Plan) (rs : List Reading) (o : Option Promised) → IfSome o PromisedFits → IsWord plan.epoch → (plan.members < 2 ^ 32) → IsShortList FitsReading rs
    → BodyFits (body.Install (install_by plan rs o))
install_fits_by plan rs None h epoch members f = (epoch, members, none_placed, f)
install_fits_by plan rs (Some p) h epoch members f = (epoch, members, placed_in p.message.body h.0, f)

few_devices : (a b : ℕ) → a ≤ b → b ≤ 16 → a < 2 ^ 16
few_devices a b h k = omega (arith, h, k)

pub install_fits : (t : AttemptState) → AttemptFits t → BodyFits (body.Install (install_in t))
install_fits t h =
    let rs : List Reading = filter_map (reading_of t.devices) t.plan.attached in
    let two : (length rs ≤ length t.plan.attached) × AllByRecursion FitsReading rs = readings_fit t.devices h.seizings t.plan.attached in
    install_fits_by t.plan rs (find (is_from t.newest) t.promises) (found_fits PromisedFits (is_from t.newest) t.promises h.promised) h.epoch h.members
    (few_devices (length rs) (length t.plan.attached) two.0 h.few, two.1)
