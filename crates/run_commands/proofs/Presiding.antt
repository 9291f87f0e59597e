-- A member that coordinates its membership is its president.
use Rattle.std.specs.Prelude.{ℕ, ◌≡◌, ◌<◌, All, true, false, List, [], ◌∷◌, Option, None, Some, is_some}
use Rattle.std.proofs.Common.{refl, sym, ap, subst, ◌∙◌}
use Rattle.cl_base.specs.Sets.{has, set_without}
use Rattle.cmm_attempt.proofs.Basics.{if_either}
use Rattle.cmm_attempt.specs.Attempts.{AttemptState}
use Rattle.cmm_attempt.specs.Calls.{IsDevice}
use Rattle.cmm_member.specs.Machine.{Shows}
use Rattle.cmm_member.specs.Nodes.{NodeState, with_joined, with_valid}
use Rattle.cmm_member.specs.Records.{NodeRecord}
use Rattle.device_queue.specs.Queue.{after_seize}
use Rattle.machine_base.specs.Epochs.{coordinator}
use Rattle.membership_machine.specs.Invariant.{EpochOk, Holds}
use Rattle.membership_machine.specs.State.{Memberships}
use Rattle.seize.specs.Seizing as seizing
use Rattle.wire.specs.declared.message.Body.TheVariants as body
use Rattle.node_model.specs.Members.{rested_by}
use Rattle.node_model.specs.Seats.{promising, record_of, state_of, with_state}
use Rattle.node_model.specs.Updates.{later_presidency}
use Rattle.node_model.specs.declared.cluster.Cluster.{Cluster}
use Rattle.node_model.specs.declared.node.Node.{Node}
use Rattle.node_model.specs.declared.node.Node.TheVariants.{Down, Up}
use Rattle.node_model.specs.declared.node.UpNode.{UpNode}
use Rattle.node_model.specs.declared.presidency.Presidency.{Presidency}
use Rattle.node_model.specs.declared.seat.Seat.{Seat}
use Rattle.node_model.specs.declared.seat.Seat.TheVariants.{Forming, Member}
use Rattle.refinement.proofs.Acts.{does_one}
use Rattle.refinement.proofs.Changes.{said_known}
use Rattle.refinement.proofs.Ties.{known_stays}
use Rattle.refinement.specs.Doings.{Act, Change, Doing, Site, acted, after_all, changed, effect, gives, site}
use Rattle.refinement.specs.Doings.Act.{Accepts, Dates, Ends, Gives, Goes_on, Hears, Makes, Minds, Notes, Queues, Spreads, Stores, Takes, Ticks, Waits, Works, Writes}
use Rattle.refinement.specs.Doings.Change.{Acks, Admits, Commits, Counts, Distrusts, Installs, Leads, Prepares, Promises, Proposes, Sits, Starts}
use Rattle.refinement.specs.Doings.Doing.{Comes_up, Does, Forgets, Goes_down, Loses, Saves}
use Rattle.refinement.specs.Guards.{May, MayAct, MayAll, MayChange, SameProposed}
use Rattle.refinement.specs.Ties.{Delivered, GoesOn, Known, NodeTied, SeatTied, SiteTied, setting_of}

-- whose seat this is, with this in hand
abbrev pub Presides : ℕ → Seat → Option Presidency → Type 0
Presides n (Forming s) office = Unit {0}
Presides n (Member s) office = coordinator s.session ≡ n → is_some office ≡ true

abbrev pub UpPresides : ℕ → UpNode → Type 0
UpPresides n x = Presides n x.seat x.presidency

abbrev pub NodePresides : ℕ → Node → Type 0
NodePresides n Down = Unit {0}
NodePresides n (Up x) = UpPresides n x

-- with an office that is one if the other was
more_office : (n : ℕ) (seat : Seat) (office left : Option Presidency) → (is_some office ≡ true → is_some left ≡ true) → Presides n seat office → Presides n seat left
more_office n (Forming s) office left so h = tt
more_office n (Member s) office left so h = λ own. so (h own)

-- with another state of the same session
same_session : (n : ℕ) (seat : Seat) (t : NodeState) (office : Option Presidency) → t.session ≡ (state_of seat).session → Presides n seat office → Presides n (with_state seat t) office
same_session n (Forming s) t office is h = tt
same_session n (Member s) t office is h = λ own. h (ap coordinator (sym is) ∙ own)

any_office : (n : ℕ) (seat : Seat) (office : Option Presidency) → is_some office ≡ true → Presides n seat office
any_office n (Forming s) office is = tt
any_office n (Member s) office is = λ own. is

-- ---- changes

rested_none : (n p : ℕ) (x : UpNode) (a : Option AttemptState) → UpPresides n (rested_by (promising x p) a)
rested_none n p x None = tt
rested_none n p x (Some a) = tt

-- a node that is told that its own membership has started is a member already
no_sitting : (c : Cluster) (M : Memberships) (n : ℕ) (told : Delivered) (x : UpNode) (disk : NodeRecord) (s : NodeState) (e : ℕ) → Holds (setting_of c) M → Known M told → NodeTied c M n disk (Up x)
    → MayChange c n told x (Sits s e) → coordinator s.session ≡ n → ⊥
no_sitting c M n told x disk s e holds known tied may own =
    let shows : Shows s.saved s.session false (M.node n) = (subst (λ z. SeatTied c M n disk x.attempt z) may.0 tied.0).0 in
    let at : (M.node n).session ≡ e = shows.session ∙ may.2 in
    let ok : EpochOk (setting_of c) M.node e (M.epoch e) = holds.epoch e in
    said_known M told (body.Start e) ⊥ may.1 known (λ from started.
    true_false (sym ((holds.leads n).sits (subst (λ k. 0 < k) (sym at) (ok.tried_positive (ok.counted_tried (ok.started_counted started)))) (ap coordinator shows.session ∙ own)
    (subst (λ k. (M.epoch k).started ≡ true) (sym at) started)) ∙ shows.member))
  where
    true_false : true ≡ false → ⊥
    true_false e = cc

change_presides : (c : Cluster) (M : Memberships) (n : ℕ) (told : Delivered) (x : UpNode) (disk : NodeRecord) (change : Change) → Holds (setting_of c) M → Known M told → NodeTied c M n disk (Up x)
    → MayChange c n told x change → UpPresides n x → UpPresides n (changed c n x change)
change_presides c M n told x disk (Promises p) holds known tied may h = rested_none n p x x.attempt
change_presides c M n told x disk (Leads p members) holds known tied may h = tt
change_presides c M n told x disk (Counts a k s i) holds known tied may h = tt
change_presides c M n told x disk (Installs s i) holds known tied may h = tt
change_presides c M n told x disk (Starts a k s) holds known tied may h = λ own. refl
change_presides c M n told x disk (Sits s e) holds known tied may h = λ own. absurd (no_sitting c M n told x disk s e holds known tied may own)
change_presides c M n told x disk (Distrusts d) holds known tied may h = same_session n x.seat (with_valid (state_of x.seat) (set_without (record_of x).valid d)) x.presidency refl h
change_presides c M n told x disk (Admits at command a d) holds known tied may h = same_session n x.seat (with_joined (state_of x.seat) d) x.presidency refl h
change_presides c M n told x disk (Proposes s p text) holds known tied may h =
    let y : UpNode = changed c n x (Proposes s p text) in any_office n y.seat y.presidency refl
change_presides c M n told x disk (Acks s p q left text) holds known tied may h =
    let y : UpNode = changed c n x (Acks s p q left text) in any_office n y.seat y.presidency refl
change_presides c M n told x disk (Prepares s text) holds known tied may h = subst (λ z. Presides n z x.presidency) may.0 h
change_presides c M n told x disk (Commits s) holds known tied may h = subst (λ z. Presides n z x.presidency) may.0 h

-- ---- acts

same_office : (o p : Option Presidency) → SameProposed o p → is_some o ≡ true → is_some p ≡ true
same_office None None same is = is
same_office (Some q) (Some p) same is = refl
same_office None (Some p) same is = absurd same
same_office (Some q) None same is = absurd same

later_office : (o : Option Presidency) → is_some o ≡ true → is_some (later_presidency o) ≡ true
later_office None is = is
later_office (Some p) is = refl

act_presides : (c : Cluster) (M : Memberships) (n : ℕ) (told : Delivered) (x : UpNode) (disk : NodeRecord) (a : Act) → Holds (setting_of c) M → Known M told → NodeTied c M n disk (Up x)
    → MayAct c n told x a → UpPresides n x → UpPresides n (acted c n x a)
act_presides c M n told x disk (Hears from b) holds known tied may h = h
act_presides c M n told x disk Ticks holds known tied may h = more_office n x.seat x.presidency (later_presidency x.presidency) (later_office x.presidency) h
act_presides c M n told x disk Waits holds known tied may h = h
act_presides c M n told x disk (Goes_on a k) holds known tied may h = h
act_presides c M n told x disk (Ends a e) holds known tied may h = h
act_presides c M n told x disk (Queues a d kind) holds known tied may h =
    if_either (λ (z : UpNode). UpPresides n z) (has a.plan.members n)
    (record x { tasks = after_seize x.tasks d (seizing.begun kind a.plan.epoch a.plan.members n c.id (has (record_of x).valid d)) }) x h h
act_presides c M n told x disk (Accepts kind e members d) holds known tied may h = h
act_presides c M n told x disk (Takes at command a) holds known tied may h = h
act_presides c M n told x disk (Stores d value a) holds known tied may h = h
act_presides c M n told x disk (Writes to b) holds known tied may h = h
act_presides c M n told x disk (Makes change) holds known tied may h = change_presides c M n told x disk change holds known tied may.0 h
act_presides c M n told x disk (Gives os) holds known tied may h = h
act_presides c M n told x disk (Spreads receivers b) holds known tied may h = h
act_presides c M n told x disk (Minds q p) holds known tied may h = more_office n x.seat x.presidency p (same_office x.presidency p may) h
act_presides c M n told x disk (Notes from place p) holds known tied may h =
    let y : UpNode = acted c n x (Notes from place p) in any_office n y.seat y.presidency refl
act_presides c M n told x disk (Dates now) holds known tied may h = h
act_presides c M n told x disk (Works w) holds known tied may h = h

-- ---- all of a step

one_presides : (c : Cluster) (M : Memberships) (n : ℕ) (told : Delivered) (node : Node) (disk : NodeRecord) (d : Doing) → Holds (setting_of c) M → Known M told → NodeTied c M n disk node
    → May c n told (site node disk) d → NodePresides n node → NodePresides n (effect c n (site node disk) d).node
one_presides c M n told (Up x) disk (Does a) holds known tied may h = act_presides c M n told x disk a holds known tied may h
one_presides c M n told (Up x) disk (Saves change) holds known tied may h = change_presides c M n told x disk change holds known tied may h
one_presides c M n told (Up x) disk (Goes_down why) holds known tied may h = tt
one_presides c M n told (Up x) disk (Loses change why) holds known tied may h = tt
one_presides c M n told (Up x) disk (Forgets change why) holds known tied may h = tt
one_presides c M n told (Up x) disk Comes_up holds known tied may h = h
one_presides c M n told Down disk Comes_up holds known tied may h = tt
one_presides c M n told Down disk (Does a) holds known tied may h = tt
one_presides c M n told Down disk (Saves change) holds known tied may h = tt
one_presides c M n told Down disk (Goes_down why) holds known tied may h = tt
one_presides c M n told Down disk (Loses change why) holds known tied may h = tt
one_presides c M n told Down disk (Forgets change why) holds known tied may h = tt

pub all_preside : (c : Cluster) (n : ℕ) (told : Delivered) (ds : List Doing) (M : Memberships) (x : Site) → All IsDevice c.attached → Holds (setting_of c) M → Known M told → SiteTied c M n x
    → MayAll c n told x ds → NodePresides n x.node → NodePresides n (after_all c n x ds).node
all_preside c n told [] M x fits holds known tied may h = h
all_preside c n told (d ∷ ds) M x fits holds known tied may h =
    let g : GoesOn c M n (effect c n x d) (gives c n x d) _ = does_one c M n told x d fits holds known tied may.0 in
    all_preside c n told ds g.machine (effect c n x d) fits g.holds (known_stays c M g.machine told holds g.grows known) g.tied may.1
    (one_presides c M n told x.node x.disk d holds known tied may.0 h)
