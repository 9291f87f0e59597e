-- The ticks that an attempt has counted came since it began: each small step keeps it so.
use Rattle.std.specs.Prelude.{ℕ, ◌+◌, ◌≡◌, ◌≤◌, ◌==◌, ◌++◌, nat_le, Bool, true, false, List, [], ◌∷◌, Option, None, Some, if◌then◌else◌}
use Rattle.std.specs.List.{AllByRecursion}
use Rattle.std.proofs.Common.{refl, sym, ap, subst, ◌∙◌, arith}
use Rattle.attempt_laws.proofs.Stays.{plan_begins, plan_stays}
use Rattle.attempt_laws.proofs.Walk.{Walk, walks, walks_begun}
use Rattle.cl_base.specs.Limits.{most_nodes}
use Rattle.cl_base.specs.Numbers.{numbers_to}
use Rattle.cl_base.specs.Sets.{has}
use Rattle.cl_base.specs.declared.packet.DropCause.{DropCause}
use Rattle.cmm_attempt.proofs.Basics.{if_either}
use Rattle.cmm_attempt.specs.Attempts.{AttemptState, asked_next, beginning, first_state, installing, later, promises_of}
use Rattle.cmm_attempt.specs.Calls.{Call, Own_ready, Own_seized, Take, Tick as Call_tick, With_votes, turn}
use Rattle.cmm_attempt.specs.Promises.{promised_by, shown_by}
use Rattle.cmm_attempt.specs.declared.attached.AttachedDevice.{AttachedDevice}
use Rattle.cmm_attempt.specs.declared.plan.Plan.{Plan}
use Rattle.cmm_member.specs.Records.{NodeRecord}
use Rattle.device_queue.specs.Queue.{after_seize}
use Rattle.history.specs.Moment.{Moment, Told}
use Rattle.history.specs.Setting.{coordinator}
use Rattle.interconnect.specs.Links as links
use Rattle.interconnect.specs.Links.{sending}
use Rattle.node_model.specs.Attempts.{own_promise}
use Rattle.node_model.specs.Entries.{unknown_lines}
use Rattle.node_model.specs.Members.{rested_by}
use Rattle.node_model.specs.Seats.{coordinator_of, promising, record_of}
use Rattle.node_model.specs.Ticks as clock
use Rattle.node_model.specs.Ticks.{heartbeat_of, heartbeats_to, ticked_output}
use Rattle.node_model.specs.Updates.{request_again, request_again_by, request_again_to}
use Rattle.node_model.specs.declared.cluster.Cluster.{Cluster}
use Rattle.node_model.specs.declared.node.Node.{Node}
use Rattle.node_model.specs.declared.node.Node.TheVariants.{Down, Up}
use Rattle.node_model.specs.declared.node.UpNode.{UpNode}
use Rattle.node_model.specs.declared.output.Output.{Output}
use Rattle.node_model.specs.declared.output.Output.TheVariants.{Sends, Tells}
use Rattle.node_model.specs.declared.presidency.Presidency.{Presidency}
use Rattle.refinement.proofs.Attempts.{may_be_called}
use Rattle.refinement.specs.Doings.{Act, Change, Doing, acted, changed, effect, first_lines, gives, last_lines, said, saved_lines, site}
use Rattle.refinement.specs.Doings.Act.{Accepts, Dates, Ends, Gives, Goes_on, Hears, Makes, Minds, Notes, Queues, Spreads, Stores, Takes, Ticks, Waits, Works, Writes}
use Rattle.refinement.specs.Doings.Change.{Acks, Admits, Commits, Counts, Distrusts, Installs, Leads, Prepares, Promises, Proposes, Sits, Starts}
use Rattle.refinement.specs.Doings.Doing.{Comes_up, Does, Forgets, Goes_down, Loses, Saves}
use Rattle.refinement.specs.Guards.{May as May_do, MayAct, MayCall, MayChange}
use Rattle.refinement.specs.Ties.{Delivered}
use Rattle.request_queue.specs.Queue as queue
use Rattle.request_queue.specs.declared.request.Request.{Request}
use Rattle.run_attempts.proofs.Mild.{AreMild, IsMild, IsMildLine, first_mild, last_mild, said_mild, unknown_mild}
use Rattle.run_attempts.proofs.Walk.{act_calm}
use Rattle.run_attempts.specs.Steps.{ActSo, CalmChange, Never}
use Rattle.run_history.proofs.Idle.{if_true}
use Rattle.run_history.proofs.Lists.{both, mapped}
use Rattle.run_history.proofs.Small.{IsSmall, IsSmallAct}
use Rattle.run_history.specs.Scenes.{Scene, dropped_so, passing, posting, sent_as, telling, with_links}
use Rattle.seize.specs.Seizing as seizing
use Rattle.status_report.specs.declared.attempt_entry.AttemptEntry.TheVariants as attempt_entry
use Rattle.status_report.specs.declared.entry.Entry.{Entry}
use Rattle.status_report.specs.declared.entry.Entry.TheVariants as entry
use Rattle.status_report.specs.declared.node_entry.NodeEntry.TheVariants as note
use Rattle.status_report.specs.declared.packet_entry.PacketEntry.TheVariants as packet
use Rattle.wire.specs.Spelling.{spelling}
use Rattle.wire.specs.declared.message.Message.{Message}
use Rattle.world_model.specs.Sends.{is_sent, name_of}
use Rattle.run_attempts.specs.endings.Laws.{ticks_of}
use Rattle.run_attempts.specs.endings.Once.{ActOnce, CallOnce, ChangeOnce, DoingOnce, WaitAt, WaitIn, left_after, left_by, left_by_call, left_by_change, one}
use Rattle.run_attempts.proofs.endings.Ways.{itself}

-- ---- each call counts a tick at most

abbrev cost : Call → ℕ
cost Call_tick = 1
cost (Take from m) = 0
cost (With_votes both) = 0
cost (Own_seized d r) = 0
cost Own_ready = 0

abbrev Within : ℕ → Call → AttemptState → Type 0
Within k c s = s.ticks ≤ k + cost c

abbrev Rests : ℕ → AttemptState → Type 0
Rests k s = s.ticks ≤ k

later_most : (t k : ℕ) → t ≤ k → later t ≤ k + 1
later_most t k h = by_test (nat_le 8 t) refl
  where
    eight : (t k : ℕ) → nat_le 8 t ≡ true → t ≤ k → 8 ≤ k + 1
    eight t k is h = grind arith

    more : (t k : ℕ) → t ≤ k → t + 1 ≤ k + 1
    more t k h = omega (arith, h)

    by_test : (b : Bool) → nat_le 8 t ≡ b → (if b then 8 else t + 1) ≤ k + 1
    by_test true is = eight t k is h
    by_test false is = more t k h

no_more : (t k n : ℕ) → t ≤ k → t ≤ k + n
no_more t k n h = omega (arith, h)

none : (k : ℕ) → 0 ≤ k
none k = omega arith

tick_most : (c : Call) (t k : ℕ) → c ≡ Call_tick → t ≤ k → later t ≤ k + cost c
tick_most c t k is h = subst (λ z. later t ≤ k + cost z) (sym is) (later_most t k h)

walk : (k : ℕ) (c : Call) → Walk c (Rests k) (Within k c) (λ t. t.after.ticks ≤ k + cost c)
unfolding asked_next installing
walk k c = record {
  within = λ s i. no_more s.ticks k (cost c) i;
  rests = λ s i. no_more s.ticks k (cost c) i;
  passes = λ s is e i. tick_most c s.ticks k is i;
  again = λ s is e i. tick_most c s.ticks k is i;
  silent = λ s n is late least i. tick_most c s.ticks k is i;
  superseded = λ s from m q is nack i. no_more s.ticks k (cost c) i;
  promise = λ s from m p is awaited of promised i. no_more s.ticks k (cost c) i;
  collects = λ s is e h. h;
  collecting = λ s is e h. h;
  no_newest = λ s is all some h. h;
  chosen = λ s newest is all some h. none (k + cost c);
  votes = λ s both is i. none (k + cost c);
  foreign = λ s both n is given least h. h;
  excluded = λ s n is least h. h;
  impossible = λ s e is short h. h;
  entries = λ s is enough h. h;
  requests = λ s is e h. h;
  result = λ s d from r e is tells found ends i. no_more s.ticks k (cost c) i;
  next = λ s d from n r e is tells found next i. none (k + cost c);
  seizing = λ s is e h. h;
  short = λ s e is all few h. h;
  others = λ s is all enough some h. none (k + cost c);
  installs_at_once = λ s is all enough ends h. none (k + cost c);
  installs = λ s is all h. none (k + cost c);
  ready = λ s from m is here of ready_body i. no_more s.ticks k (cost c) i;
  own = λ s is here i. no_more s.ticks k (cost c) i;
  installing = λ s here e h. h;
  starts = λ s here e h. h;
}

self_most : (k : ℕ) → k ≤ k
self_most k = omega arith

turn_ticks : (s : AttemptState) (c : Call) → (turn s c).after.ticks ≤ s.ticks + cost c
turn_ticks s c = walks (Rests s.ticks) (Within s.ticks c) (λ t. t.after.ticks ≤ s.ticks + cost c) s c (walk s.ticks c) (self_most s.ticks)

-- at its beginning it has counted none
no_tick_yet : (p members : ℕ) (own : Message) (attached : List AttachedDevice) (cluster : ℕ) → (beginning p members own attached cluster).after.ticks ≤ 0 + cost Own_ready
unfolding beginning
no_tick_yet p members own attached cluster =
    walks_begun Own_ready (Rests 0) (Within 0 Own_ready) (λ t. t.after.ticks ≤ 0 + cost Own_ready) (walk 0 Own_ready) (first_state p members own attached cluster (promises_of (promised_by own (shown_by own.sender own.body)))) refl (self_most 0)

-- ---- lines that tell no tick, and begin no attempt

abbrev pub IsEvenLine : Entry → Type 0
IsEvenLine (entry.Node m note.Ticked) = ⊥
IsEvenLine (entry.Attempt (attempt_entry.Begun e members)) = ⊥
IsEvenLine _ = Unit {0}

abbrev pub IsEvenOutput : Output → Type 0
IsEvenOutput (Tells e) = IsEvenLine e
IsEvenOutput (Sends to b) = Unit {0}

abbrev pub AreEven : List Output → Type 0
AreEven os = AllByRecursion IsEvenOutput os

mild_line : (e : Entry) → IsMildLine e → IsEvenLine e
mild_line (entry.Node m note.Ticked) h = h
mild_line (entry.Attempt (attempt_entry.Begun e members)) h = h
mild_line _ h = tt

mild_even : (os : List Output) → AreMild os → AreEven os
mild_even [] h = tt
mild_even (Tells e ∷ os) h = (mild_line e h.0, mild_even os h.1)
mild_even (Sends to b ∷ os) h = (tt, mild_even os h.1)

told_even : (e : ℕ) (x : Entry) (ms : List Moment) → IsEvenLine x → ticks_of e (Told x ∷ ms) ≡ ticks_of e ms
told_even e (entry.Node m note.Ticked) ms h = absurd h
told_even e (entry.Attempt (attempt_entry.Begun f members)) ms h = absurd h
told_even e _ ms h = refl

dropped_even : (e : ℕ) (o : Option (ℕ × DropCause)) (s : Scene) → ticks_of e (dropped_so o s).moments ≡ ticks_of e s.moments
dropped_even e None s = refl
dropped_even e (Some drop) s = refl

posting_even : (e from to : ℕ) (m : Message) (s : Scene) → ticks_of e (posting from to m s).moments ≡ ticks_of e s.moments
posting_even e from to m s =
    let o : links.Outcome = sending s.links from to (spelling m) in
    if_either (λ (t : Scene). ticks_of e t.moments ≡ ticks_of e s.moments) (is_sent s.links m) (sent_as from to m o s) s
    (dropped_even e o.sent.dropped (telling (entry.Packet (packet.Sent s.links.next from to (name_of m.body) (spelling m))) (with_links s o.after))) refl

pub passing_even : (e n : ℕ) (os : List Output) (s : Scene) → AreEven os → ticks_of e (passing n os s).moments ≡ ticks_of e s.moments
passing_even e n [] s h = refl
passing_even e n (Tells x ∷ os) s h = passing_even e n os (telling x s) h.1 ∙ told_even e x s.moments h.0
passing_even e n (Sends to b ∷ os) s h = passing_even e n os (posting n to (record { sender = n; body = b }) s) h.1 ∙ posting_even e n to (record { sender = n; body = b }) s

-- ---- what stays

pub wait_stays : (before after : List Moment) (n : ℕ) (left : Bool) (o : Option AttemptState) → ((e : ℕ) → coordinator e ≡ n → ticks_of e after ≡ ticks_of e before) → WaitIn before n left o → WaitIn after n left o
wait_stays before after n left None same h = tt
wait_stays before after n left (Some a) same h = (h.0, subst (λ k. a.ticks + one left ≤ k) (sym (same a.plan.epoch h.0)) h.1)

pub at_stays : (before after : List Moment) (n : ℕ) (left : Bool) (node : Node) → ((e : ℕ) → coordinator e ≡ n → ticks_of e after ≡ ticks_of e before) → WaitAt before n left node → WaitAt after n left node
at_stays before after n left Down same h = tt
at_stays before after n left (Up x) same h = wait_stays before after n left x.attempt same h

fewer : (a b k : ℕ) → a + b ≤ k → a + 0 ≤ k
fewer a b k h = omega (arith, h)

-- where nothing is left the same is so
pub wait_less : (ms : List Moment) (n : ℕ) (left : Bool) (node : Node) → WaitAt ms n left node → WaitAt ms n false node
wait_less ms n left Down h = tt
wait_less ms n left (Up x) h = by_attempt x.attempt h
  where
    by_attempt : (o : Option AttemptState) → WaitIn ms n left o → WaitIn ms n false o
    by_attempt None h = tt
    by_attempt (Some a) h = (h.0, fewer a.ticks (one left) (ticks_of a.plan.epoch ms) h.1)

-- ---- a call

same_most : (l s t k : ℕ) → t ≤ s + 0 → s + l ≤ k → t + l ≤ k
same_most l s t k most h = omega (arith, most, h)

call_most : (left : Bool) (c : Call) (s t k : ℕ) → CallOnce left c → t ≤ s + cost c → s + one left ≤ k → t + one (left_by_call left c) ≤ k
call_most left Call_tick s t k once most h = taken (one left) s t k (ap one once) most h
  where
    taken : (l s t k : ℕ) → l ≡ 1 → t ≤ s + 1 → s + l ≤ k → t + 0 ≤ k
    taken l s t k is most h = omega (arith, is, most, h)
call_most left (Take from m) s t k once most h = same_most (one left) s t k most h
call_most left (With_votes both) s t k once most h = same_most (one left) s t k most h
call_most left (Own_seized d r) s t k once most h = same_most (one left) s t k most h
call_most left Own_ready s t k once most h = same_most (one left) s t k most h

turned_waits : (c : Cluster) (ms : List Moment) (n : ℕ) (told : Delivered) (left : Bool) (x : UpNode) (a : AttemptState) (k : Call) → x.attempt ≡ Some a → MayCall c told a k → CallOnce left k → WaitIn ms n left x.attempt
    → WaitIn ms n (left_by_call left k) (Some (turn a k).after)
turned_waits c ms n told left x a k is may once h =
    let plan : (turn a k).after.plan ≡ a.plan = plan_stays a k (may_be_called c told a k may) in
    let epoch : (turn a k).after.plan.epoch ≡ a.plan.epoch = ap (λ (p : Plan). p.epoch) plan in
    let w : WaitIn ms n left (Some a) = subst (WaitIn ms n left) is h in
    (ap coordinator epoch ∙ w.0, subst (λ e. (turn a k).after.ticks + one (left_by_call left k) ≤ ticks_of e ms) (sym epoch) (call_most left k a.ticks (turn a k).after.ticks (ticks_of a.plan.epoch ms) once (turn_ticks a k) w.1))

-- ---- changes

rest_waits : (ms : List Moment) (n : ℕ) (left : Bool) (x : UpNode) (p : ℕ) (o : Option AttemptState) → WaitIn ms n left (rested_by (promising x p) o).attempt
rest_waits ms n left x p None = tt
rest_waits ms n left x p (Some a) = tt

-- all but the beginning of an attempt
change_waits : (c : Cluster) (ms : List Moment) (n : ℕ) (told : Delivered) (left : Bool) (x : UpNode) (change : Change) → CalmChange change → MayChange c n told x change → ChangeOnce left change → WaitIn ms n left x.attempt
    → WaitIn ms n (left_by_change left change) (changed c n x change).attempt
change_waits c ms n told left x (Leads p members) calm may once h = absurd calm
change_waits c ms n told left x (Promises p) calm may once h = rest_waits ms n left x p x.attempt
change_waits c ms n told left x (Counts a k s i) calm may once h = turned_waits c ms n told left x a k may.0 may.2 once h
change_waits c ms n told left x (Starts a k s) calm may once h = tt
change_waits c ms n told left x (Installs s i) calm may once h = h
change_waits c ms n told left x (Sits s e) calm may once h = h
change_waits c ms n told left x (Distrusts d) calm may once h = h
change_waits c ms n told left x (Admits at command a d) calm may once h = h
change_waits c ms n told left x (Proposes s p text) calm may once h = h
change_waits c ms n told left x (Acks s p q behind text) calm may once h = h
change_waits c ms n told left x (Prepares s text) calm may once h = h
change_waits c ms n told left x (Commits s) calm may once h = h

calm_saved : (c : Cluster) (n : ℕ) (told : Delivered) (left : Bool) (x : UpNode) (change : Change) (s : Scene) → CalmChange change → MayChange c n told x change → ChangeOnce left change → WaitIn s.moments n left x.attempt
    → WaitIn (passing n (first_lines n change ++ saved_lines c n x change) s).moments n (left_by_change left change) (changed c n x change).attempt
calm_saved c n told left x change s calm may once h =
    wait_stays s.moments (passing n (first_lines n change ++ saved_lines c n x change) s).moments n (left_by_change left change) (changed c n x change).attempt
    (λ e own. passing_even e n (first_lines n change ++ saved_lines c n x change) s
    (mild_even (first_lines n change ++ saved_lines c n x change) (both IsMild (first_lines n change) (saved_lines c n x change) (first_mild n change) (tt, last_mild c n x change calm))))
    (change_waits c s.moments n told left x change calm may once h)

begun_waits : (c : Cluster) (n : ℕ) (told : Delivered) (x : UpNode) (p members : ℕ) (s : Scene) → MayChange c n told x (Leads p members)
    → WaitIn (passing n (saved_lines c n x (Leads p members)) s).moments n false (changed c n x (Leads p members)).attempt
begun_waits c n told x p members s may =
    let z : UpNode = record (promising x p) { greatest = p } in
    let t : Scene = telling (entry.Node n note.Saved) s in
    let u : Scene = telling (entry.Attempt (attempt_entry.Begun p members)) t in
    let a : AttemptState = (beginning p members (own_promise n z p) c.attached c.id).after in
    let epoch : a.plan.epoch ≡ p = (plan_begins p members (own_promise n z p) c.attached c.id).of_epoch in
    wait_stays u.moments (passing n (unknown_lines n x.requests.waiting) u).moments n false (Some a) (λ e own. passing_even e n (unknown_lines n x.requests.waiting) u (mild_even (unknown_lines n x.requests.waiting) (unknown_mild n x.requests.waiting)))
    (ap coordinator epoch ∙ may.1, no_tick (ticks_of a.plan.epoch u.moments) a.ticks (no_tick_yet p members (own_promise n z p) c.attached c.id))
  where
    no_tick : (k t : ℕ) → t ≤ 0 + 0 → t + 0 ≤ k
    no_tick k t h = omega (arith, h)

saved_waits : (c : Cluster) (n : ℕ) (told : Delivered) (left : Bool) (x : UpNode) (change : Change) (s : Scene) → MayChange c n told x change → ChangeOnce left change → WaitIn s.moments n left x.attempt
    → WaitIn (passing n (first_lines n change ++ saved_lines c n x change) s).moments n (left_by_change left change) (changed c n x change).attempt
saved_waits c n told left x (Leads p members) s may once h = begun_waits c n told x p members s may
saved_waits c n told left x (Promises p) s may once h = calm_saved c n told left x (Promises p) s tt may once h
saved_waits c n told left x (Counts a k st i) s may once h = calm_saved c n told left x (Counts a k st i) s tt may once h
saved_waits c n told left x (Starts a k st) s may once h = calm_saved c n told left x (Starts a k st) s tt may once h
saved_waits c n told left x (Installs st i) s may once h = calm_saved c n told left x (Installs st i) s tt may once h
saved_waits c n told left x (Sits st e) s may once h = calm_saved c n told left x (Sits st e) s tt may once h
saved_waits c n told left x (Distrusts d) s may once h = calm_saved c n told left x (Distrusts d) s tt may once h
saved_waits c n told left x (Admits at command a d) s may once h = calm_saved c n told left x (Admits at command a d) s tt may once h
saved_waits c n told left x (Proposes st p text) s may once h = calm_saved c n told left x (Proposes st p text) s tt may once h
saved_waits c n told left x (Acks st p q behind text) s may once h = calm_saved c n told left x (Acks st p q behind text) s tt may once h
saved_waits c n told left x (Prepares st text) s may once h = calm_saved c n told left x (Prepares st text) s tt may once h
saved_waits c n told left x (Commits st) s may once h = calm_saved c n told left x (Commits st) s tt may once h

-- ---- the clock ticks

again_to_even : (x : UpNode) (r : Option Request) (o : Option ℕ) → AreEven (request_again_to x r o)
again_to_even x (Some r) (Some president) = (tt, tt)
again_to_even x None president = tt
again_to_even x (Some r) None = tt

again_even : (x : UpNode) (o : Option Presidency) → AreEven (request_again_by x o)
again_even x None =
    if_either AreEven (queue.goes_again x.requests) (request_again_to x (queue.oldest x.requests) (coordinator_of x)) [] (again_to_even x (queue.oldest x.requests) (coordinator_of x)) tt
again_even x (Some p) = tt

beats_even : (x : UpNode) (receivers : ℕ) → AreEven (heartbeats_to x receivers)
unfolding heartbeats_to
beats_even x receivers = mapped IsEvenOutput (λ m. Sends m (heartbeat_of x)) (numbers_to receivers most_nodes) (λ m. tt)

ticked_even : (c : Cluster) (before x : UpNode) → AreEven (ticked_output c before x)
ticked_even c before x = both IsEvenOutput (heartbeats_to x _) (request_again before) (beats_even x _) (again_even before before.presidency)

ticks_wait : (c : Cluster) (n : ℕ) (left : Bool) (x : UpNode) (o : Option AttemptState) (s : Scene) → WaitIn s.moments n left o → WaitIn (passing n (said c n x Ticks) s).moments n true o
ticks_wait c n left x None s h = tt
ticks_wait c n left x (Some a) s h =
    let t : Scene = telling (entry.Node n note.Ticked) s in
    let e : ℕ = a.plan.epoch in
    let one_more : ticks_of e t.moments ≡ ticks_of e s.moments + 1 = if_true (n == coordinator e) (ticks_of e s.moments + 1) (ticks_of e s.moments) (itself n (coordinator e) (sym h.0)) in
    let same : ticks_of e (passing n (said c n x Ticks) s).moments ≡ ticks_of e s.moments + 1 = passing_even e n (ticked_output c x (clock.later c x)) t (ticked_even c x (clock.later c x)) ∙ one_more in
    (h.0, subst (λ k. a.ticks + 1 ≤ k) (sym same) (more a.ticks (one left) (ticks_of e s.moments) h.1))
  where
    more : (t l k : ℕ) → t + l ≤ k → t + 1 ≤ k + 1
    more t l k h = omega (arith, h)

-- ---- acts

made_waits : (c : Cluster) (n : ℕ) (told : Delivered) (left : Bool) (x : UpNode) (change : Change) (s : Scene) → MayAct c n told x (Makes change) → ChangeOnce left change → WaitIn s.moments n left x.attempt
    → WaitIn (passing n (first_lines n change ++ last_lines c n x change) s).moments n (left_by_change left change) (changed c n x change).attempt
made_waits c n told left x change s may once h =
    let calm : CalmChange change = act_calm c n told x (Makes change) may change refl in
    wait_stays s.moments (passing n (first_lines n change ++ last_lines c n x change) s).moments n (left_by_change left change) (changed c n x change).attempt
    (λ e own. passing_even e n (first_lines n change ++ last_lines c n x change) s
    (mild_even (first_lines n change ++ last_lines c n x change) (both IsMild (first_lines n change) (last_lines c n x change) (first_mild n change) (last_mild c n x change calm))))
    (change_waits c s.moments n told left x change calm may.0 once h)

-- what leaves the attempt
mere_waits : (c : Cluster) (n : ℕ) (told : Delivered) (left : Bool) (x : UpNode) (a : Act) (s : Scene) (o : Option AttemptState) → MayAct c n told x a → IsSmallAct a → ActSo Never x a → WaitIn s.moments n left o → WaitIn (passing n (said c n x a) s).moments n left o
mere_waits c n told left x a s o may small so h =
    wait_stays s.moments (passing n (said c n x a) s).moments n left o (λ e own. passing_even e n (said c n x a) s (mild_even (said c n x a) (said_mild c n told Never x a may small so (act_calm c n told x a may)))) h

act_waits : (c : Cluster) (n : ℕ) (told : Delivered) (left : Bool) (x : UpNode) (a : Act) (s : Scene) → MayAct c n told x a → IsSmallAct a → ActOnce left a → WaitIn s.moments n left x.attempt
    → WaitIn (passing n (said c n x a) s).moments n (left_by left a) (acted c n x a).attempt
act_waits c n told left x (Hears from b) s may small once h = h
act_waits c n told left x Ticks s may small once h = ticks_wait c n left x x.attempt s h
act_waits c n told left x Waits s may small once h = h
act_waits c n told left x (Goes_on a k) s may small once h = turned_waits c s.moments n told left x a k may.0 may.1 once h
act_waits c n told left x (Ends a e) s may small once h = tt
act_waits c n told left x (Queues a d kind) s may small once h =
    if_either (λ (y : UpNode). WaitIn s.moments n left y.attempt) (has a.plan.members n)
    (record x { tasks = after_seize x.tasks d (seizing.begun kind a.plan.epoch a.plan.members n c.id (has (record_of x).valid d)) }) x h h
act_waits c n told left x (Makes change) s may small once h = made_waits c n told left x change s may once h
act_waits c n told left x (Accepts kind e members d) s may small once h = h
act_waits c n told left x (Takes at command a) s may small once h = mere_waits c n told left x (Takes at command a) s x.attempt may small tt h
act_waits c n told left x (Stores d value a) s may small once h = mere_waits c n told left x (Stores d value a) s x.attempt may small tt h
act_waits c n told left x (Writes to b) s may small once h = mere_waits c n told left x (Writes to b) s x.attempt may small tt h
act_waits c n told left x (Gives os) s may small once h = mere_waits c n told left x (Gives os) s x.attempt may small tt h
act_waits c n told left x (Spreads receivers b) s may small once h = mere_waits c n told left x (Spreads receivers b) s x.attempt may small tt h
act_waits c n told left x (Minds q p) s may small once h = h
act_waits c n told left x (Notes from place p) s may small once h = h
act_waits c n told left x (Dates now) s may small once h = h
act_waits c n told left x (Works w) s may small once h = h

-- ---- each small step

pub doing_waits : (c : Cluster) (n : ℕ) (told : Delivered) (left : Bool) (node : Node) (disk : NodeRecord) (d : Doing) (s : Scene) → May_do c n told (site node disk) d → IsSmall d → DoingOnce left d → WaitAt s.moments n left node
    → WaitAt (passing n (gives c n (site node disk) d) s).moments n (left_after left d) (effect c n (site node disk) d).node
doing_waits c n told left Down disk Comes_up s may small once h = tt
doing_waits c n told left (Up x) disk Comes_up s may small once h = absurd may
doing_waits c n told left node disk (Goes_down why) s may small once h = tt
doing_waits c n told left Down disk (Does a) s may small once h = absurd may
doing_waits c n told left (Up x) disk (Does a) s may small once h = act_waits c n told left x a s may small once h
doing_waits c n told left Down disk (Saves change) s may small once h = absurd may
doing_waits c n told left (Up x) disk (Saves change) s may small once h = saved_waits c n told left x change s may once h
doing_waits c n told left node disk (Loses change why) s may small once h = tt
doing_waits c n told left node disk (Forgets change why) s may small once h = tt
