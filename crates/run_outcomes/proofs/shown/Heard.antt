-- Each Promise that an attempt has is its coordinator's own, or came since it began, as it is told.
use Rattle.std.specs.Prelude.{ℕ, ◌==◌, ◌&&◌, ◌||◌, ◌++◌, ◌⊎◌, ◌≡◌, ◌≤◌, All, Bool, false, true, List, [], ◌∷◌, Option, None, Some, if◌then◌else◌}
use Rattle.std.proofs.Common.{arith, refl, sym, subst}
use Rattle.cl_base.specs.Sets.{has}
use Rattle.cl_base.specs.declared.method.Outcome as method
use Rattle.cmm_attempt.proofs.Basics.{if_either}
use Rattle.cmm_attempt.specs.Attempts.{AttemptState, beginning}
use Rattle.cmm_attempt.specs.Calls.{Call, IsDevice, turn}
use Rattle.cmm_attempt.specs.Promises.{promised_by, shown_by}
use Rattle.cmm_member.specs.Records.{NodeRecord}
use Rattle.device_queue.specs.Queue.{after_seize}
use Rattle.node_model.specs.Attempts.{own_promise}
use Rattle.node_model.specs.Members.{rested_by}
use Rattle.node_model.specs.Seats.{promising, record_of}
use Rattle.node_model.specs.Steps.{Outcome, stepped}
use Rattle.node_model.specs.declared.cluster.Cluster.{Cluster}
use Rattle.node_model.specs.declared.input.Input.{Input}
use Rattle.node_model.specs.declared.node.Node.{Node}
use Rattle.node_model.specs.declared.node.Node.TheVariants.{Down, Up}
use Rattle.node_model.specs.declared.node.UpNode.{UpNode}
use Rattle.record_disk.specs.Disks.{DiskState}
use Rattle.refinement.proofs.Attempts.{may_be_called}
use Rattle.refinement.proofs.Disks.{disks_keep_rules}
use Rattle.refinement.proofs.Facts.{step_may}
use Rattle.refinement.proofs.Handlers.{delivered_by}
use Rattle.refinement.specs.Cuts.{doings}
use Rattle.refinement.specs.Doings.{Act, Change, Doing, Site, acted, after_all, changed, effect, site}
use Rattle.refinement.specs.Doings.Act.{Ends, Goes_on, Makes, Queues}
use Rattle.refinement.specs.Doings.Change.{Counts, Leads, Promises, Starts}
use Rattle.refinement.specs.Doings.Doing.{Comes_up, Does, Forgets, Goes_down, Loses, Saves}
use Rattle.refinement.specs.Guards.{May, MayAct, MayAll, MayChange}
use Rattle.refinement.specs.Steps.{disk_rules}
use Rattle.refinement.specs.Ties.{Delivered}
use Rattle.run_history.specs.Scenes.{Scene}
use Rattle.run_messages.proofs.records.Replies.{CutSo, steps_are_cut_so}
use Rattle.run_messages.specs.records.Kept.{KnownScene}
use Rattle.run_outcomes.specs.saves.Kept.{IsAt}
use Rattle.seize.specs.Seizing as seizing
use Rattle.run_outcomes.specs.phases.Kept.{In}
use Rattle.run_outcomes.proofs.phases.Leading.{Has}
use Rattle.std.proofs.Common.{◌∙◌, ap, inl, inr}
use Rattle.attempt_laws.proofs.Stays.{plan_begins, plan_stays}
use Rattle.cmm_attempt.proofs.Basics.{false_true, none_some, same_number, same_some}
use Rattle.cmm_attempt.specs.Attempts.{is_of}
use Rattle.cmm_attempt.specs.declared.plan.Plan.{Plan}
use Rattle.cmm_attempt.specs.declared.promised.Promised.{Promised}
use Rattle.history.specs.Letters.{Letter, letter_of, says}
use Rattle.history.specs.Member.{promised_to}
use Rattle.history.specs.Moment.{Moment}
use Rattle.history.specs.Names as name
use Rattle.history.specs.Names.{named, same_name}
use Rattle.history.specs.Queue.{valid_in}
use Rattle.history.specs.Records.{is_promise_of, promise_among, promises}
use Rattle.history.specs.Seizing.{is_number}
use Rattle.history.specs.Setting.{coordinator}
use Rattle.history.specs.Trace.{delivered}
use Rattle.membership_machine.specs.State.{Memberships}
use Rattle.refinement.specs.Guards.{MayCall}
use Rattle.run_messages.proofs.records.Letters.{read_letter}
use Rattle.run_messages.specs.records.Kept.{Came}
use Rattle.run_messages.specs.records.Sound.{BodySound, LetterSound}
use Rattle.std.specs.List.{AllByRecursion, list_any}
use Rattle.wire.specs.declared.message.Body.{Body}
use Rattle.wire.specs.declared.message.Body.TheVariants as body
use Rattle.wire.specs.declared.message.Message.{Message}
use Rattle.world_model.specs.Sends.{name_of}
use Rattle.run_outcomes.proofs.results.Promises.{Taken, promises_first, promises_taken}

-- a letter of this node that shows these devices as valid
abbrev pub shows_so : ℕ → ℕ → Letter → Bool
shows_so k v l = (l.from == k) && (valid_in (says l.bytes) == v)

abbrev pub HeardSo : List Moment → ℕ → ℕ → Promised → Type 0
HeardSo ms n e p = (p.shown.summary.node ≡ n) ⊎ (list_any (shows_so p.shown.summary.node p.shown.valid) (promises e ms) ≡ true)

-- the attempt is the node's, and has heard what it has
pub record Heard (ms : List Moment) (n : ℕ) (a : AttemptState) : Type 0 where
  pub own : coordinator a.plan.epoch ≡ n
  pub all : AllByRecursion (HeardSo ms n a.plan.epoch) a.promises

-- a Promise to node n for an attempt of its own has come
abbrev pub BodyHeard : List Moment → ℕ → ℕ → Body → Type 0
BodyHeard ms n from (body.Promise e newest members valid flagged committed pending) = coordinator e ≡ n → list_any (shows_so from valid) (promises e ms) ≡ true
BodyHeard ms n from _ = Unit {0}

abbrev pub HandHeard : List Moment → ℕ → Delivered → Type 0
HandHeard ms n None = Unit {0}
HandHeard ms n (Some d) = BodyHeard ms n d.0 d.1.body

-- ---- a call

body_taken : (ms : List Moment) (n e from : ℕ) (m : Message) (p : Promised) (b : Body) → coordinator e ≡ n → BodyHeard ms n from b → is_of e b ≡ true → promised_by m (shown_by from b) ≡ Some p → HeardSo ms n e p
body_taken ms n e from m p (body.Promise q newest members valid flagged committed pending) own heard of is =
    let same : q ≡ e = same_number q e of in
    subst (HeardSo ms n e) (same_some _ p is) (inr (subst (λ z. list_any (shows_so from valid) (promises z ms) ≡ true) same (heard (ap coordinator same ∙ own))))
body_taken ms n e from m p _ own heard of is = absurd (none_some p is)

hand_body : (ms : List Moment) (n from : ℕ) (m : Message) → HandHeard ms n (Some (from, m)) → BodyHeard ms n from m.body
hand_body ms n from m h = h

takes_heard : (c : Cluster) (told : Delivered) (ms : List Moment) (n : ℕ) (a : AttemptState) (k : Call) → coordinator a.plan.epoch ≡ n → HandHeard ms n told → MayCall c told a k → Taken (HeardSo ms n a.plan.epoch) a k
takes_heard c told ms n a k own hand may from m p is at of promised =
    body_taken ms n a.plan.epoch from m p m.body own (hand_body ms n from m (subst (HandHeard ms n) (subst (MayCall c told a) is may).0 hand)) of promised

call_heard : (c : Cluster) (told : Delivered) (ms : List Moment) (n : ℕ) (a : AttemptState) (k : Call) → HandHeard ms n told → MayCall c told a k → Heard ms n a → Heard ms n (turn a k).after
call_heard c told ms n a k hand may h =
    let epoch : (turn a k).after.plan.epoch ≡ a.plan.epoch = ap (λ (z : Plan). z.epoch) (plan_stays a k (may_be_called c told a k may)) in
    record {
      own = ap coordinator epoch ∙ h.own;
      all = subst (λ e. AllByRecursion (HeardSo ms n e) (turn a k).after.promises) (sym epoch) (promises_taken (HeardSo ms n a.plan.epoch) a k (takes_heard c told ms n a k h.own hand may) h.all);
    }

begun_heard : (c : Cluster) (ms : List Moment) (n : ℕ) (x : UpNode) (p members : ℕ) → coordinator p ≡ n → Heard ms n (beginning p members (own_promise n x p) c.attached c.id).after
begun_heard c ms n x p members own =
    let t : AttemptState = (beginning p members (own_promise n x p) c.attached c.id).after in
    let epoch : t.plan.epoch ≡ p = (plan_begins p members (own_promise n x p) c.attached c.id).of_epoch in
    record {
      own = ap coordinator epoch ∙ own;
      all = subst (λ e. AllByRecursion (HeardSo ms n e) t.promises) (sym epoch) (promises_first (HeardSo ms n p) p members (own_promise n x p) c.attached c.id (inl refl));
    }

-- ---- each small step

rested_heard : (ms : List Moment) (n : ℕ) (x : UpNode) (p : ℕ) (o : Option AttemptState) → Has (Heard ms n) (rested_by (promising x p) o)
rested_heard ms n x p None = tt
rested_heard ms n x p (Some a) = tt

attempt_heard : (ms : List Moment) (n : ℕ) (x : UpNode) (a : AttemptState) → x.attempt ≡ Some a → Has (Heard ms n) x → Heard ms n a
attempt_heard ms n x a is h = subst (In (Heard ms n)) is h

change_heard : (c : Cluster) (n : ℕ) (told : Delivered) (ms : List Moment) (x : UpNode) (change : Change) → HandHeard ms n told → MayChange c n told x change → Has (Heard ms n) x → Has (Heard ms n) (changed c n x change)
change_heard c n told ms x (Promises p) hand may h = rested_heard ms n x p x.attempt
change_heard c n told ms x (Leads p members) hand may h = begun_heard c ms n (record (promising x p) { greatest = p }) p members may.1
change_heard c n told ms x (Counts a k s i) hand may h = call_heard c told ms n a k hand may.2 (attempt_heard ms n x a may.0 h)
change_heard c n told ms x (Starts a k s) hand may h = tt
change_heard c n told ms x _ hand may h = h

act_heard : (c : Cluster) (n : ℕ) (told : Delivered) (ms : List Moment) (x : UpNode) (a : Act) → HandHeard ms n told → MayAct c n told x a → Has (Heard ms n) x → Has (Heard ms n) (acted c n x a)
act_heard c n told ms x (Goes_on a k) hand may h = call_heard c told ms n a k hand may.1 (attempt_heard ms n x a may.0 h)
act_heard c n told ms x (Ends a e) hand may h = tt
act_heard c n told ms x (Makes change) hand may h = change_heard c n told ms x change hand may.0 h
act_heard c n told ms x (Queues a d kind) hand may h =
    if_either (Has (Heard ms n)) (has a.plan.members n) (record x { tasks = after_seize x.tasks d (seizing.begun kind a.plan.epoch a.plan.members n c.id (has (record_of x).valid d)) }) x h h
act_heard c n told ms x _ hand may h = h

doing_heard : (c : Cluster) (n : ℕ) (told : Delivered) (ms : List Moment) (node : Node) (disk : NodeRecord) (d : Doing) → HandHeard ms n told → May c n told (site node disk) d → IsAt (Has (Heard ms n)) node
    → IsAt (Has (Heard ms n)) (effect c n (site node disk) d).node
doing_heard c n told ms Down disk Comes_up hand may h = tt
doing_heard c n told ms Down disk (Goes_down why) hand may h = tt
doing_heard c n told ms Down disk (Does a) hand may h = tt
doing_heard c n told ms Down disk (Saves change) hand may h = tt
doing_heard c n told ms Down disk (Loses change why) hand may h = tt
doing_heard c n told ms Down disk (Forgets change why) hand may h = tt
doing_heard c n told ms (Up x) disk Comes_up hand may h = h
doing_heard c n told ms (Up x) disk (Goes_down why) hand may h = tt
doing_heard c n told ms (Up x) disk (Does a) hand may h = act_heard c n told ms x a hand may h
doing_heard c n told ms (Up x) disk (Saves change) hand may h = change_heard c n told ms x change hand may h
doing_heard c n told ms (Up x) disk (Loses change why) hand may h = tt
doing_heard c n told ms (Up x) disk (Forgets change why) hand may h = tt

all_heard : (c : Cluster) (n : ℕ) (told : Delivered) (ms : List Moment) (x : Site) (ds : List Doing) → HandHeard ms n told → MayAll c n told x ds → IsAt (Has (Heard ms n)) x.node → IsAt (Has (Heard ms n)) (after_all c n x ds).node
all_heard c n told ms x [] hand may h = h
all_heard c n told ms x (d ∷ ds) hand may h = all_heard c n told ms (effect c n x d) ds hand may.1 (doing_heard c n told ms x.node x.disk d hand may.0 h)

pub step_heard : (c : Cluster) (s : Scene) (ms : List Moment) (n now : ℕ) (ends : method.Outcome) (i : Input) → n ≤ 32 → All IsDevice c.attached → KnownScene c s → HandHeard ms n (delivered_by i) → IsAt (Has (Heard ms n)) (s.nodes.node n)
    → IsAt (Has (Heard ms n)) (stepped disk_rules c n now ends (s.nodes.node n) (s.nodes.disk n) i).after
step_heard c s ms n now ends i high fits k hand h =
    let o : Outcome DiskState = stepped disk_rules c n now ends (s.nodes.node n) (s.nodes.disk n) i in
    let cut : CutSo disk_rules c n now ends (s.nodes.node n) (s.nodes.disk n) i [] o = steps_are_cut_so disk_rules disks_keep_rules c n now ends (s.nodes.node n) (s.nodes.disk n) i in
    let x : Site = site (s.nodes.node n) (s.nodes.disk n).kept in
    let ds : List Doing = doings c n now ends cut.replies i (s.nodes.node n) in
    let may : MayAll c n (delivered_by i) x ds =
    step_may c k.stage.machine n now ends (s.nodes.node n) (s.nodes.disk n).kept i cut.replies high fits k.stage.holds (k.stage.stands n).tied (k.stage.stands n).joins in
    subst (λ (z : Site). IsAt (Has (Heard ms n)) z.node) cut.comes.left (all_heard c n (delivered_by i) ms x ds hand may h)

-- ---- what comes

or_first : (a b : Bool) → a ≡ true → (a || b) ≡ true
or_first true b h = refl
or_first false b h = absurd (false_true h)

both_true : (a b : Bool) → a ≡ true → b ≡ true → (a && b) ≡ true
both_true true b h k = k
both_true false b h k = absurd (false_true h)

itself : (n : ℕ) → (n == n) ≡ true
itself n = grind arith

same_so : (a b : ℕ) → a ≡ b → (a == b) ≡ true
same_so a b h = grind arith

named_so : (l : Letter) → l.name ≡ name.Promise → same_name l.name name.Promise ≡ true
named_so l is = ap (λ z. same_name z name.Promise) is

promise_of_it : (M : Memberships) (l : Letter) (n q newest members valid : ℕ) (flagged : Bool) (committed : List (List ℕ)) (pending : Option (List ℕ)) → l.name ≡ name.Promise → l.to ≡ n → coordinator q ≡ n
    → BodySound M l.before l.from l.to (body.Promise q newest members valid flagged committed pending) → is_promise_of q l ≡ true
promise_of_it M l n q newest members valid flagged committed pending called to own sound =
    both_true (same_name l.name name.Promise && (l.from == l.from) && (l.to == coordinator q)) (is_number q (promised_to l.before))
    (both_true (same_name l.name name.Promise && (l.from == l.from)) (l.to == coordinator q) (both_true (same_name l.name name.Promise) (l.from == l.from) (named_so l called) (itself l.from)) (same_so l.to (coordinator q) (to ∙ sym own)))
    (subst (λ o. is_number q o ≡ true) (sym sound.asked) (itself q))

among_more : (e : ℕ) (o : Option Letter) (l : Letter) (ls : List Letter) (f : Letter → Bool) → o ≡ Some l → is_promise_of e l ≡ true → f l ≡ true → list_any f (promise_among e o ++ ls) ≡ true
among_more e o l ls f is promise passes =
    subst (λ z. list_any f (promise_among e z ++ ls) ≡ true) (sym is) (subst (λ t. list_any f ((if t then l ∷ [] else []) ++ ls) ≡ true) (sym promise) (or_first (f l) (list_any f ls) passes))

body_came : (M : Memberships) (number from n : ℕ) (ms : List Moment) (l : Letter) (b : Body) → letter_of number ms ≡ Some l → l.from ≡ from → l.to ≡ n → says l.bytes ≡ Some b → l.name ≡ named (name_of b)
    → BodySound M l.before l.from l.to b → BodyHeard (delivered number from n ∷ ms) n from b
body_came M number from n ms l (body.Promise q newest members valid flagged committed pending) at sender to read called sound = λ own.
    among_more q (letter_of number ms) l (promises q ms) (shows_so from valid) at (promise_of_it M l n q newest members valid flagged committed pending called to own sound)
    (both_true (l.from == from) (valid_in (says l.bytes) == valid) (same_so l.from from sender) (same_so (valid_in (says l.bytes)) valid (ap valid_in read)))
body_came M number from n ms l _ at sender to read called sound = tt

pub hand_came : (M : Memberships) (number from n : ℕ) (ms : List Moment) (m : Message) → (came : Came (delivered number from n ∷ ms) n from m.body) → LetterSound M came.letter → HandHeard (delivered number from n ∷ ms) n (Some (from, m))
hand_came M number from n ms m came sound =
    let read : (came.letter.name ≡ named (name_of m.body)) × BodySound M came.letter.before came.letter.from came.letter.to m.body = read_letter M came.letter m.body sound came.read in
    body_came M number from n ms came.letter m.body came.here came.sender came.receiver came.read read.0 read.1
