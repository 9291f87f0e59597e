-- In no step does a node send itself a request to seize.
use Rattle.std.specs.Prelude.{All, ℕ, ◌≡◌, ◌≢◌, ◌==◌, false, List, [], ◌∷◌, ◌++◌, Option, None, Some}
use Rattle.std.specs.List.{AllByRecursion}
use Rattle.std.proofs.Common.{arith, refl, ap, subst, ◌∙◌, inl, inr}
use Rattle.std.proofs.lemmas.List.Elements.{All-head, All-tail}
use Rattle.attempt_laws.proofs.Sends.{Steps, call_sends}
use Rattle.attempt_laws.proofs.Stays.{plan_begins, plan_stays, plan_steady}
use Rattle.attempt_laws.proofs.Walk.{if_with}
use Rattle.cl_base.specs.Sets.{has}
use Rattle.cl_base.specs.declared.header.Header.{Header}
use Rattle.cmm_attempt.proofs.Basics.{if_either}
use Rattle.cmm_attempt.specs.Attempts.{AttemptState, Turn}
use Rattle.cmm_attempt.specs.Calls.{Call, May as May_call, turn}
use Rattle.cmm_attempt.specs.Seizings.{request_body}
use Rattle.cmm_attempt.specs.declared.plan.Plan.{Plan}
use Rattle.cmm_attempt.specs.declared.step.Step.{Step}
use Rattle.cmm_attempt.specs.declared.step.Step.TheVariants as step
use Rattle.cmm_member.specs.Records.{NodeRecord}
use Rattle.device_queue.specs.Queue.{after_seize}
use Rattle.node_model.specs.Attempts.{own_promise}
use Rattle.node_model.specs.Members.{rested_by}
use Rattle.node_model.specs.Seats.{promising, record_of}
use Rattle.node_model.specs.declared.cluster.Cluster.{Cluster}
use Rattle.node_model.specs.declared.node.Node.{Node}
use Rattle.node_model.specs.declared.node.Node.TheVariants.{Down, Up}
use Rattle.node_model.specs.declared.node.UpNode.{UpNode}
use Rattle.node_model.specs.declared.output.Output.{Output}
use Rattle.node_model.specs.declared.output.Output.TheVariants.{Sends, Tells}
use Rattle.refinement.proofs.Attempts.{may_be_called}
use Rattle.refinement.specs.Doings.{Act, Change, Doing, Site, acted, changed, effect, first_lines, given_all, gives, gone_line, said, site}
use Rattle.refinement.specs.Doings.Act.{Accepts, Dates, Ends, Gives, Goes_on, Hears, Makes, Minds, Notes, Queues, Spreads, Stores, Takes, Ticks, Waits, Works, Writes}
use Rattle.refinement.specs.Doings.Change.{Counts, Leads, Promises, Starts}
use Rattle.refinement.specs.Doings.Doing.{Comes_up, Does, Forgets, Goes_down, Loses, Saves}
use Rattle.refinement.specs.Guards.{May, MayAct, MayAll, MayChange}
use Rattle.refinement.specs.Ties.{Delivered}
use Rattle.run_history.proofs.Lists.{both}
use Rattle.run_history.specs.Guards.{AtWrite, Hand, IsStep, SendsSo, hand_after, hand_by}
use Rattle.run_seizings.proofs.Acts.{ActMay}
use Rattle.run_seizings.proofs.Asked.{AllMay, DoingMay}
use Rattle.seize.specs.Seizing as seizing
use Rattle.seize.specs.declared.kind.SeizeKind.{SeizeKind}
use Rattle.seize.specs.declared.kind.SeizeKind.TheVariants.{Plain, Vote}
use Rattle.wire.specs.declared.message.Body.{Body}
use Rattle.wire.specs.declared.message.Body.TheVariants as body
use Rattle.run_outcomes.specs.phases.Kept.{In}
use Rattle.run_outcomes.specs.saves.Kept.{IsAt}
use Rattle.run_outcomes.proofs.phases.Leading.{Has}
use Rattle.run_outcomes.proofs.shown.Aside.{lost_aside, made_aside, minor_aside, plain_aside, saved_aside, spread_aside, tick_aside, write_aside}
use Rattle.run_outcomes.proofs.shown.Letters.{AllAside, IsAside}

-- ---- what goes out

abbrev pub BodyOut : ℕ → ℕ → Body → Type 0
BodyOut n to (body.SeizeQuorum e members d) = to ≢ n
BodyOut n to (body.SeizeData e members d) = to ≢ n
BodyOut n to _ = Unit {0}

abbrev pub Goes_out : ℕ → Output → Type 0
Goes_out n (Tells e) = Unit {0}
Goes_out n (Sends to b) = BodyOut n to b

abbrev pub Outs : ℕ → List Output → Type 0
Outs n os = AllByRecursion (Goes_out n) os

body_aside : (n to : ℕ) (b : Body) → IsAside b → BodyOut n to b
body_aside n to (body.SeizeQuorum e members d) k = absurd k
body_aside n to (body.SeizeData e members d) k = absurd k
body_aside n to _ k = tt

outs_aside : (n : ℕ) (os : List Output) → AllAside os → Outs n os
outs_aside n [] k = tt
outs_aside n (Tells e ∷ os) k = (tt, outs_aside n os k.1)
outs_aside n (Sends to b ∷ os) k = (body_aside n to b k.0, outs_aside n os k.1)

-- ---- the steps of an attempt

abbrev StepOut : ℕ → Step → Type 0
StepOut n (step.Send to m) = BodyOut n to m.body
StepOut n _ = Unit {0}

abbrev OfOthers : AttemptState → Step → Type 0
OfOthers t s = StepOut t.plan.coordinator s

abbrev HasPlan : Plan → AttemptState → Type 0
HasPlan plan s = s.plan ≡ plan

differs : (a b : ℕ) → (a == b) ≡ false → a ≢ b
differs a b h e = grind (arith, h, e)

request_out : (plan : Plan) (kind : SeizeKind) (n to d : ℕ) → to ≢ n → BodyOut n to (request_body plan kind d)
request_out plan Vote n to d h = h
request_out plan Plain n to d h = h

steps_out : (plan : Plan) → Steps (HasPlan plan) OfOthers
steps_out plan = record {
  asks = λ t e n is i among none asked.
      if_with (OfOthers t) (n == t.plan.coordinator) (n == t.plan.coordinator) (step.SeizeHere e.attached.device e.kind)
      (step.Send n (record { sender = t.plan.coordinator; body = request_body t.plan e.kind e.attached.device })) refl
      (λ k. tt)
      (λ k. request_out t.plan e.kind t.plan.coordinator n e.attached.device (differs n t.plan.coordinator k));
  wish = λ t n. tt;
  start_here = λ t. tt;
  end = λ t e. tt;
  collect = λ t n. tt;
  start = λ t n. tt;
  install = λ t n i. tt;
  install_here = λ t i. tt;
}

among : (P : Step → Type 0) (x : Step) (xs : List Step) → IsStep x xs → All P xs → P x
among P x [] is all = absurd is
among P x (y ∷ ys) (inl same) all = subst P same (All-head P y ys all)
among P x (y ∷ ys) (inr later) all = among P x ys later (All-tail P y ys all)

-- ---- its coordinator is the node

abbrev pub IsLed : ℕ → AttemptState → Type 0
IsLed n a = a.plan.coordinator ≡ n

abbrev pub HandOut : ℕ → Hand → Type 0
HandOut n None = Unit {0}
HandOut n (Some u) = (x : Step) → IsStep x u.steps → StepOut n x

call_led : (n : ℕ) (a : AttemptState) (k : Call) → May_call a k → IsLed n a → IsLed n (turn a k).after
call_led n a k may h = ap (λ (p : Plan). p.coordinator) (plan_stays a k may) ∙ h

turn_out : (n : ℕ) (a : AttemptState) (k : Call) → May_call a k → IsLed n a → HandOut n (Some (turn a k))
turn_out n a k may h x is =
    subst (λ j. StepOut j x) (call_led n a k may h)
    (among (OfOthers (turn a k).after) x (turn a k).steps is (call_sends (HasPlan a.plan) (HasPlan a.plan) OfOthers a k (plan_steady a.plan k) (steps_out a.plan) may refl).1)

rested_led : (n : ℕ) (x : UpNode) (p : ℕ) (o : Option AttemptState) → Has (IsLed n) (rested_by (promising x p) o)
rested_led n x p None = tt
rested_led n x p (Some a) = tt

attempt_led : (n : ℕ) (x : UpNode) (a : AttemptState) → x.attempt ≡ Some a → Has (IsLed n) x → IsLed n a
attempt_led n x a is h = subst (In (IsLed n)) is h

change_led : (c : Cluster) (me : ℕ) (told : Delivered) (x : UpNode) (change : Change) → MayChange c me told x change → Has (IsLed me) x → Has (IsLed me) (changed c me x change)
change_led c me told x (Promises p) may h = rested_led me x p x.attempt
change_led c me told x (Leads p members) may h = (plan_begins p members (own_promise me (record (promising x p) { greatest = p }) p) c.attached c.id).of_coordinator
change_led c me told x (Counts a k s i) may h = call_led me a k (may_be_called c told a k may.2) (attempt_led me x a may.0 h)
change_led c me told x (Starts a k s) may h = tt
change_led c me told x _ may h = h

act_led : (c : Cluster) (me : ℕ) (told : Delivered) (x : UpNode) (a : Act) → MayAct c me told x a → Has (IsLed me) x → Has (IsLed me) (acted c me x a)
act_led c me told x (Goes_on a k) may h = call_led me a k (may_be_called c told a k may.1) (attempt_led me x a may.0 h)
act_led c me told x (Ends a e) may h = tt
act_led c me told x (Makes change) may h = change_led c me told x change may.0 h
act_led c me told x (Queues a d kind) may h =
    if_either (Has (IsLed me)) (has a.plan.members me) (record x { tasks = after_seize x.tasks d (seizing.begun kind a.plan.epoch a.plan.members me c.id (has (record_of x).valid d)) }) x h h
act_led c me told x _ may h = h

doing_led : (c : Cluster) (me : ℕ) (told : Delivered) (node : Node) (disk : NodeRecord) (d : Doing) → May c me told (site node disk) d → IsAt (Has (IsLed me)) node → IsAt (Has (IsLed me)) (effect c me (site node disk) d).node
doing_led c me told Down disk Comes_up may h = tt
doing_led c me told Down disk (Goes_down why) may h = tt
doing_led c me told Down disk (Does a) may h = tt
doing_led c me told Down disk (Saves change) may h = tt
doing_led c me told Down disk (Loses change why) may h = tt
doing_led c me told Down disk (Forgets change why) may h = tt
doing_led c me told (Up x) disk Comes_up may h = h
doing_led c me told (Up x) disk (Goes_down why) may h = tt
doing_led c me told (Up x) disk (Does a) may h = act_led c me told x a may h
doing_led c me told (Up x) disk (Saves change) may h = change_led c me told x change may h
doing_led c me told (Up x) disk (Loses change why) may h = tt
doing_led c me told (Up x) disk (Forgets change why) may h = tt

-- ---- the steps in hand

act_hand : (c : Cluster) (me : ℕ) (told : Delivered) (x : UpNode) (a : Act) (g : Hand) → MayAct c me told x a → Has (IsLed me) x → HandOut me g → HandOut me (hand_by g a)
act_hand c me told x (Goes_on a k) g may h out = turn_out me a k (may_be_called c told a k may.1) (attempt_led me x a may.0 h)
act_hand c me told x _ g may h out = out

doing_hand : (c : Cluster) (me : ℕ) (told : Delivered) (node : Node) (disk : NodeRecord) (d : Doing) (g : Hand) → May c me told (site node disk) d → IsAt (Has (IsLed me)) node → HandOut me g → HandOut me (hand_after g d)
doing_hand c me told Down disk (Does a) g may h out = absurd may
doing_hand c me told (Up x) disk (Does a) g may h out = act_hand c me told x a g may h out
doing_hand c me told node disk _ g may h out = out

sent_out : (me to : ℕ) (b : Body) (u : Turn) → SendsSo u.steps to b → HandOut me (Some u) → BodyOut me to b
sent_out me to b u at out = subst (BodyOut me to) at.body_so (out (step.Send to at.message) at.step_so)

write_out : (me to : ℕ) (told : Delivered) (g : Hand) (x : UpNode) (b : Body) → AtWrite told g x to b → HandOut me g → BodyOut me to b
write_out me to told None x (body.SeizeQuorum e members d) at out = absurd at
write_out me to told None x (body.SeizeData e members d) at out = absurd at
write_out me to told (Some u) x (body.SeizeQuorum e members d) at out = sent_out me to (body.SeizeQuorum e members d) u at out
write_out me to told (Some u) x (body.SeizeData e members d) at out = sent_out me to (body.SeizeData e members d) u at out
write_out me to told g x _ at out = tt

said_out : (h : Header) (c : Cluster) (me : ℕ) (told : Delivered) (g : Hand) (x : UpNode) (a : Act) → MayAct c me told x a → ActMay h me told g x a → HandOut me g → Outs me (said c me x a)
said_out h c me told g x (Writes to b) may at out = (write_out me to told g x b at out, tt)
said_out h c me told g x Ticks may at out = (tt, outs_aside me _ (tick_aside c x))
said_out h c me told g x (Ends b e) may at out = (tt, tt)
said_out h c me told g x (Takes on command b) may at out = (tt, tt)
said_out h c me told g x (Stores d value b) may at out = (tt, outs_aside me _ (write_aside me x d value b))
said_out h c me told g x (Makes ch) may at out = outs_aside me _ (made_aside c me x ch)
said_out h c me told g x (Gives os) may at out = outs_aside me os (minor_aside os may)
said_out h c me told g x (Spreads receivers b) may at out = outs_aside me _ (spread_aside receivers b (plain_aside b at))
said_out h c me told g x (Hears from b) may at out = tt
said_out h c me told g x Waits may at out = tt
said_out h c me told g x (Goes_on b q) may at out = tt
said_out h c me told g x (Queues b d kind) may at out = tt
said_out h c me told g x (Accepts kind e members d) may at out = tt
said_out h c me told g x (Minds q p) may at out = tt
said_out h c me told g x (Notes from place p) may at out = tt
said_out h c me told g x (Dates now) may at out = tt
said_out h c me told g x (Works w) may at out = tt

doing_out : (h : Header) (c : Cluster) (me : ℕ) (told : Delivered) (g : Hand) (node : Node) (disk : NodeRecord) (d : Doing) → May c me told (site node disk) d → DoingMay h me told g (site node disk) d → HandOut me g
    → Outs me (gives c me (site node disk) d)
doing_out h c me told g node disk Comes_up may at out = (tt, tt)
doing_out h c me told g node disk (Goes_down why) may at out = (tt, tt)
doing_out h c me told g Down disk (Does a) may at out = absurd may
doing_out h c me told g (Up x) disk (Does a) may at out = said_out h c me told g x a may at out
doing_out h c me told g Down disk (Saves ch) may at out = absurd may
doing_out h c me told g (Up x) disk (Saves ch) may at out = outs_aside me _ (saved_aside c me x ch)
doing_out h c me told g node disk (Loses ch why) may at out = outs_aside me (first_lines me ch ++ gone_line me why) (lost_aside me ch why)
doing_out h c me told g node disk (Forgets ch why) may at out = outs_aside me (first_lines me ch ++ gone_line me why) (lost_aside me ch why)

pub all_out : (h : Header) (c : Cluster) (me : ℕ) (told : Delivered) (g : Hand) (x : Site) (ds : List Doing) → MayAll c me told x ds → AllMay h c me told g x ds → IsAt (Has (IsLed me)) x.node → HandOut me g → Outs me (given_all c me x ds)
all_out h c me told g x [] may at led out = tt
all_out h c me told g x (d ∷ ds) may at led out =
    both (Goes_out me) (gives c me x d) (given_all c me (effect c me x d) ds) (doing_out h c me told g x.node x.disk d may.0 at.0 out)
    (all_out h c me told (hand_after g d) (effect c me x d) ds may.1 at.1 (doing_led c me told x.node x.disk d may.0 led) (doing_hand c me told x.node x.disk d g may.0 led out))
