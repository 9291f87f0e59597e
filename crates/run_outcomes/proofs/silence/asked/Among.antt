-- In each step of a node the Collects and the Installs of its attempt go to nodes of the attempt.
use Rattle.std.specs.Prelude.{ℕ, ◌≤◌, ◌==◌, ◌&&◌, ◌||◌, ◌≡◌, ◌⊎◌, ◌++◌, All, Bool, true, false, List, [], ◌∷◌, Option, None, Some, if◌then◌else◌}
use Rattle.std.specs.List.{list_any}
use Rattle.std.proofs.Common.{arith, refl, sym, subst, ◌∙◌, inl, inr}
use Rattle.attempt_laws.proofs.Stays.{plan_begins, plan_stays}
use Rattle.cl_base.specs.declared.method.Outcome as method
use Rattle.cmm_attempt.proofs.Basics.{false_true, or_cases, same_number}
use Rattle.cmm_attempt.specs.Attempts.{AttemptState}
use Rattle.cmm_attempt.specs.Calls.{Call, IsDevice, May, turn}
use Rattle.cmm_attempt.specs.declared.plan.Plan.{Plan}
use Rattle.cmm_member.specs.Records.{NodeRecord}
use Rattle.history.specs.Letters.{name_of}
use Rattle.history.specs.Names as name
use Rattle.history.specs.Names.{Name, same_name}
use Rattle.membership_machine.specs.Invariant.{Holds}
use Rattle.membership_machine.specs.State.{Memberships}
use Rattle.node_model.specs.Attempts.{promise_of}
use Rattle.node_model.specs.Presidents.{sent_to}
use Rattle.node_model.specs.Seats.{promising}
use Rattle.node_model.specs.Steps.{Outcome, stepped}
use Rattle.node_model.specs.Ticks.{later}
use Rattle.node_model.specs.declared.cluster.Cluster.{Cluster}
use Rattle.node_model.specs.declared.input.Input.{Input}
use Rattle.node_model.specs.declared.node.Node.{Node}
use Rattle.node_model.specs.declared.node.Node.TheVariants.{Down, Up}
use Rattle.node_model.specs.declared.node.UpNode.{UpNode}
use Rattle.node_model.specs.declared.output.Output.{Output}
use Rattle.node_model.specs.declared.output.Output.TheVariants.{Sends, Tells}
use Rattle.record_disk.specs.Disks.{DiskState}
use Rattle.refinement.proofs.Attempts.{may_be_called}
use Rattle.refinement.proofs.Disks.{disks_keep_rules}
use Rattle.refinement.proofs.Facts.{step_may}
use Rattle.refinement.proofs.Handlers.{delivered_by}
use Rattle.refinement.proofs.Replies.{steps_are_cut}
use Rattle.refinement.specs.Cuts.{doings, first_turn}
use Rattle.refinement.specs.Doings.{Act, Change, Doing, Site, acted, after_all, changed, effect, first_lines, given_all, gives, last_lines, said, saved_lines, site}
use Rattle.refinement.specs.Doings.Act.{Ends, Gives, Goes_on, Makes, Queues, Spreads, Stores, Takes, Ticks, Writes}
use Rattle.refinement.specs.Doings.Change.{Acks, Admits, Commits, Counts, Distrusts, Installs, Leads, Prepares, Promises, Proposes, Sits, Starts}
use Rattle.refinement.specs.Doings.Doing.{Comes_up, Does, Forgets, Goes_down, Loses, Saves}
use Rattle.refinement.specs.Guards.{May as May_do, MayAct, MayAll, MayChange, OfAttempt}
use Rattle.refinement.specs.Runs.{AnswersFit}
use Rattle.refinement.specs.Steps.{IsCut, disk_rules}
use Rattle.refinement.specs.Ties.{Delivered, setting_of}
use Rattle.refinement.specs.Whole.{Stands}
use Rattle.run_messages.proofs.records.Courses.{doings_told}
use Rattle.run_messages.specs.records.Answers.{ActTold, AllTold, DoingTold, IsAmong, IsOrdinary}
use Rattle.run_packets.proofs.admitted.Courses.{doings_for}
use Rattle.run_packets.specs.admitted.Guards.{ActFor, AllFor, DoingFor}
use Rattle.status_report.specs.declared.attempt_entry.AttemptEntry.TheVariants as attempt_entry
use Rattle.status_report.specs.declared.entry.Entry.TheVariants as entry
use Rattle.wire.specs.declared.message.Body.{Body}
use Rattle.wire.specs.declared.message.Body.TheVariants as body
use Rattle.run_outcomes.specs.phases.Kept.{In}
use Rattle.run_outcomes.specs.saves.Kept.{IsAt}
use Rattle.run_outcomes.specs.silence.Asked.{Query, asked_by_output, asked_by_outputs, asks, is_sent}
use Rattle.run_outcomes.specs.silence.AskedCourses.{Tally, then_given}
use Rattle.run_outcomes.specs.silence.Ticks.{IsToAll}
use Rattle.run_outcomes.proofs.phases.Leading.{act_has, change_has}
use Rattle.run_outcomes.proofs.silence.asked.Beside.{AllElse, IsElse, given_else, made_else, saved_else, spread_else, ticked_else, unknown_else, write_else}

-- who was sent a Collect or an Install is a node of the plan
abbrev pub AmongIn : Tally → Plan → Type 0
AmongIn g plan = (m : ℕ) (q : Name) → IsToAll q → g plan.epoch (record { to = m; called = q }) ≡ true → list_any (λ k. k == m) plan.nodes ≡ true

abbrev pub Among : Tally → AttemptState → Type 0
Among g a = AmongIn g a.plan

abbrev pub HasAmong : Tally → UpNode → Type 0
HasAmong g x = In (Among g) x.attempt

-- ---- what is given beside

else_name : (q : Name) (b : Body) (t asked : Bool) → IsToAll q → IsElse b → ((is_sent q && t && same_name (name_of b) q) || asked) ≡ asked
else_name q (body.Collect p members) t asked of is = absurd is
else_name q (body.Install i) t asked of is = absurd is
else_name name.Collect _ t asked of is = none t asked
  where
    none : (a b : Bool) → ((a && false) || b) ≡ b
    none true b = refl
    none false b = refl
else_name name.Install _ t asked of is = none t asked
  where
    none : (a b : Bool) → ((a && false) || b) ≡ b
    none true b = refl
    none false b = refl
else_name _ b t asked of is = absurd of

less : (e : ℕ) (q : Query) (o : Output) (asked : Bool) → IsToAll q.called → AllElse (o ∷ []) → asked_by_output e q o asked ≡ true → asked ≡ true
less e q (Sends to b) asked of h is = sym (else_name q.called b (to == q.to) asked of h.0) ∙ is
less e q (Tells (entry.Attempt (attempt_entry.Begun f members))) asked of h is = by_test (f == e) is
  where
    by_test : (t : Bool) → (if t then false else asked) ≡ true → asked ≡ true
    by_test true k = absurd (false_true k)
    by_test false k = k
less e q (Tells x) asked of h is = is

all_less : (e : ℕ) (q : Query) (os : List Output) (asked : Bool) → IsToAll q.called → AllElse os → asked_by_outputs e q os asked ≡ true → asked ≡ true
all_less e q [] asked of h is = is
all_less e q (o ∷ os) asked of h is = less e q o asked of (h.0, tt) (all_less e q os (asked_by_output e q o asked) of h.1 is)

with_lines : (g : Tally) (os : List Output) (o : Option AttemptState) → AllElse os → In (Among g) o → In (Among (then_given g os)) o
with_lines g os None none h = tt
with_lines g os (Some a) none h = λ m q of is. h m q of (all_less a.plan.epoch (record { to = m; called = q }) os (g a.plan.epoch (record { to = m; called = q })) of none is)

-- ---- what is sent to a node of the attempt

second : (x y z : Bool) → (x && y && z) ≡ true → y ≡ true
second true true z k = refl
second true false z k = absurd (false_true k)
second false y z k = absurd (false_true k)

sent_among : (g : Tally) (to : ℕ) (b : Body) (a : AttemptState) → IsAmong to a → Among g a → Among (then_given g (Sends to b ∷ [])) a
sent_among g to b a among h m q of is = by_side (or_cases (asks (record { to = m; called = q }) to (name_of b)) (g a.plan.epoch (record { to = m; called = q })) is)
  where
    by_side : (asks (record { to = m; called = q }) to (name_of b) ≡ true) ⊎ (g a.plan.epoch (record { to = m; called = q }) ≡ true) → list_any (λ k. k == m) a.plan.nodes ≡ true
    by_side (inl here) = subst (λ j. list_any (λ k. k == j) a.plan.nodes ≡ true) (same_number to m (second (is_sent q) (to == m) (same_name (name_of b) q) here)) among
    by_side (inr before) = h m q of before

sent_in : (g : Tally) (to : ℕ) (b : Body) (o : Option AttemptState) → OfAttempt (IsAmong to) o → In (Among g) o → In (Among (then_given g (Sends to b ∷ []))) o
sent_in g to b None among h = tt
sent_in g to b (Some a) among h = sent_among g to b a among h

writes_among : (c : Cluster) (told : Delivered) (x : UpNode) (g : Tally) (to : ℕ) (b : Body) → ActTold told x (Writes to b) → ActFor c x (Writes to b) → HasAmong g x → HasAmong (then_given g (Sends to b ∷ [])) x
writes_among c told x g to (body.Collect p members) tells for h = sent_in g to (body.Collect p members) x.attempt tells h
writes_among c told x g to (body.Install i) tells for h = sent_in g to (body.Install i) x.attempt for h
writes_among c told x g to b tells for h = with_lines g (Sends to b ∷ []) x.attempt (tt, tt) h

-- ---- changes

call_among : (g : Tally) (a : AttemptState) (k : Call) → May a k → Among g a → Among g (turn a k).after
call_among g a k may h = subst (AmongIn g) (sym (plan_stays a k may)) h

among_of : (g : Tally) (x : UpNode) (a : AttemptState) → x.attempt ≡ Some a → HasAmong g x → Among g a
among_of g x a is h = subst (In (Among g)) is h

-- where an attempt begins, none was sent for it
abbrev LedBy : Change → List Output → Type 0
LedBy (Leads p members) os = (q : Query) (asked : Bool) → IsToAll q.called → asked_by_outputs p q os asked ≡ true → ⊥
LedBy _ os = Unit {0}

led_none : (p members : ℕ) (q : Query) (rest : List Output) (asked : Bool) → IsToAll q.called → AllElse rest → asked_by_outputs p q (Tells (entry.Attempt (attempt_entry.Begun p members)) ∷ rest) asked ≡ true → ⊥
led_none p members q rest asked of none is = by_test (p == p) (itself p) (all_less p q rest (if p == p then false else asked) of none is)
  where
    itself : (a : ℕ) → (a == a) ≡ true
    itself a = grind arith

    by_test : (t : Bool) → t ≡ true → (if t then false else asked) ≡ true → ⊥
    by_test true k z = false_true z
    by_test false k z = false_true k

led_saved : (c : Cluster) (me : ℕ) (x : UpNode) (change : Change) → LedBy change (first_lines me change ++ saved_lines c me x change)
led_saved c me x (Leads p members) = λ q asked of is. led_none p members q _ asked of (unknown_else me x.requests.waiting) is
led_saved c me x _ = tt

led_made : (c : Cluster) (me : ℕ) (x : UpNode) (change : Change) → LedBy change (first_lines me change ++ last_lines c me x change)
led_made c me x (Leads p members) = λ q asked of is. led_none p members q _ asked of (unknown_else me x.requests.waiting) is
led_made c me x _ = tt

begun_epoch : (c : Cluster) (me : ℕ) (x : UpNode) (p members : ℕ) → (first_turn c me x p members).after.plan.epoch ≡ p
begun_epoch c me x p members = (plan_begins p members (record { sender = me; body = promise_of (record (promising x p) { greatest = p }) p }) c.attached c.id).of_epoch

change_among : (c : Cluster) (me : ℕ) (told : Delivered) (x : UpNode) (g : Tally) (os : List Output) (change : Change) → AllElse os → LedBy change os → MayChange c me told x change → HasAmong g x → HasAmong (then_given g os) (changed c me x change)
change_among c me told x g os (Counts a k s i) none led may h = with_lines g os (Some (turn a k).after) none (call_among g a k (may_be_called c told a k may.2) (among_of g x a may.0 h))
change_among c me told x g os (Leads p members) none led may h =
    λ m q of is. absurd (led (record { to = m; called = q }) (g p (record { to = m; called = q })) of (subst (λ e. asked_by_outputs e (record { to = m; called = q }) os (g e (record { to = m; called = q })) ≡ true) (begun_epoch c me x p members) is))
change_among c me told x g os (Promises p) none led may h = change_has (Among (then_given g os)) c me x (Promises p) tt (with_lines g os x.attempt none h)
change_among c me told x g os (Installs s i) none led may h = with_lines g os x.attempt none h
change_among c me told x g os (Starts a k s) none led may h = tt
change_among c me told x g os (Sits s e) none led may h = with_lines g os x.attempt none h
change_among c me told x g os (Distrusts d) none led may h = with_lines g os x.attempt none h
change_among c me told x g os (Admits at command a d) none led may h = with_lines g os x.attempt none h
change_among c me told x g os (Proposes s p text) none led may h = with_lines g os x.attempt none h
change_among c me told x g os (Acks s p q left text) none led may h = with_lines g os x.attempt none h
change_among c me told x g os (Prepares s text) none led may h = with_lines g os x.attempt none h
change_among c me told x g os (Commits s) none led may h = with_lines g os x.attempt none h

-- ---- small steps

ordinary_else : (b : Body) → IsOrdinary b → IsElse b
ordinary_else (body.Collect p members) h = absurd h
ordinary_else (body.Install i) h = absurd h
ordinary_else _ h = tt

act_among : (c : Cluster) (me : ℕ) (told : Delivered) (x : UpNode) (g : Tally) (a : Act) → MayAct c me told x a → ActTold told x a → ActFor c x a → HasAmong g x → HasAmong (then_given g (said c me x a)) (acted c me x a)
act_among c me told x g (Goes_on a k) may tells for h = call_among g a k (may_be_called c told a k may.1) (among_of g x a may.0 h)
act_among c me told x g (Makes change) may tells for h =
    change_among c me told x g (first_lines me change ++ last_lines c me x change) change (made_else c me x change) (led_made c me x change) may.0 h
act_among c me told x g (Writes to b) may tells for h = writes_among c told x g to b tells for h
act_among c me told x g (Spreads receivers b) may tells for h = with_lines g (sent_to receivers b) x.attempt (spread_else receivers b (ordinary_else b tells)) h
act_among c me told x g Ticks may tells for h = with_lines g (said c me x Ticks) x.attempt (tt, ticked_else c x (later c x)) h
act_among c me told x g (Ends a e) may tells for h = tt
act_among c me told x g (Takes at command a) may tells for h = with_lines g (said c me x (Takes at command a)) x.attempt (tt, tt) h
act_among c me told x g (Stores d value a) may tells for h = with_lines g (said c me x (Stores d value a)) x.attempt (tt, write_else me x d value a) h
act_among c me told x g (Gives os) may tells for h = with_lines g os x.attempt (given_else os may) h
act_among c me told x g (Queues a d kind) may tells for h = act_has (Among g) c me x (Queues a d kind) tt h
act_among c me told x g _ may tells for h = h

doing_among : (c : Cluster) (me : ℕ) (told : Delivered) (node : Node) (disk : NodeRecord) (g : Tally) (d : Doing) → May_do c me told (site node disk) d → DoingTold told (site node disk) d → DoingFor c (site node disk) d → IsAt (HasAmong g) node
    → IsAt (HasAmong (then_given g (gives c me (site node disk) d))) (effect c me (site node disk) d).node
doing_among c me told Down disk g Comes_up may tells for h = tt
doing_among c me told (Up x) disk g Comes_up may tells for h = absurd may
doing_among c me told node disk g (Goes_down why) may tells for h = tt
doing_among c me told Down disk g (Does a) may tells for h = absurd may
doing_among c me told (Up x) disk g (Does a) may tells for h = act_among c me told x g a may tells for h
doing_among c me told Down disk g (Saves change) may tells for h = absurd may
doing_among c me told (Up x) disk g (Saves change) may tells for h =
    change_among c me told x g (first_lines me change ++ saved_lines c me x change) change (saved_else c me x change) (led_saved c me x change) may h
doing_among c me told node disk g (Loses change why) may tells for h = tt
doing_among c me told node disk g (Forgets change why) may tells for h = tt

append_asked : (e : ℕ) (q : Query) (os more : List Output) (asked : Bool) → asked_by_outputs e q (os ++ more) asked ≡ asked_by_outputs e q more (asked_by_outputs e q os asked)
append_asked e q [] more asked = refl
append_asked e q (o ∷ os) more asked = append_asked e q os more (asked_by_output e q o asked)

among_both : (g : Tally) (os more : List Output) (node : Node) → IsAt (HasAmong (then_given (then_given g os) more)) node → IsAt (HasAmong (then_given g (os ++ more))) node
among_both g os more Down h = tt
among_both g os more (Up x) h = by_attempt x.attempt h
  where
    by_attempt : (o : Option AttemptState) → In (Among (then_given (then_given g os) more)) o → In (Among (then_given g (os ++ more))) o
    by_attempt None k = tt
    by_attempt (Some a) k = λ m q of is. k m q of (sym (append_asked a.plan.epoch (record { to = m; called = q }) os more (g a.plan.epoch (record { to = m; called = q }))) ∙ is)

all_among : (c : Cluster) (me : ℕ) (told : Delivered) (x : Site) (g : Tally) (ds : List Doing) → MayAll c me told x ds → AllTold c me told x ds → AllFor c me x ds → IsAt (HasAmong g) x.node
    → IsAt (HasAmong (then_given g (given_all c me x ds))) (after_all c me x ds).node
all_among c me told x g [] may tells for h = h
all_among c me told x g (d ∷ ds) may tells for h =
    let y : Site = effect c me x d in
    among_both g (gives c me x d) (given_all c me y ds) (after_all c me y ds).node
    (all_among c me told y (then_given g (gives c me x d)) ds may.1 tells.1 for.1 (doing_among c me told x.node x.disk g d may.0 tells.0 for.0 h))

-- ---- a step

pub step_among : (c : Cluster) (M : Memberships) (n now : ℕ) (ends : method.Outcome) (node : Node) (disk : DiskState) (i : Input) (g : Tally) → n ≤ 32 → All IsDevice c.attached → Holds (setting_of c) M → Stands c M n node disk.kept → AnswersFit i → IsAt (HasAmong g) node
    → (let o : Outcome DiskState = stepped disk_rules c n now ends node disk i in IsAt (HasAmong (then_given g o.given)) o.after)
step_among c M n now ends node disk i g low fits holds stands fit h =
    let o : Outcome DiskState = stepped disk_rules c n now ends node disk i in
    let cut : IsCut disk_rules c n now ends node disk i [] o = steps_are_cut disk_rules disks_keep_rules c n now ends node disk i in
    let x : Site = site node disk.kept in
    let small : List Doing = doings c n now ends cut.replies i node in
    let all : IsAt (HasAmong (then_given g (given_all c n x small))) (after_all c n x small).node =
    all_among c n (delivered_by i) x g small (step_may c M n now ends node disk.kept i cut.replies low fits holds stands.tied stands.joins) (doings_told c n now ends cut.replies i disk.kept node)
    (doings_for c n now ends cut.replies i disk.kept node fit) h in
    subst (λ (z : Site). IsAt (HasAmong (then_given g o.given)) z.node) cut.comes.left (subst (λ os. IsAt (HasAmong (then_given g os)) (after_all c n x small).node) cut.comes.given all)
