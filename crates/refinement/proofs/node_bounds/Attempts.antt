-- What a coordinator sends: a message for each step of a call at most, and for those of one more call.
use Rattle.std.specs.Prelude.{ℕ, ◌+◌, ◌≡◌, ◌≤◌, ◌==◌, nat_lt, true, List, [], ◌∷◌, Option, None, Some, IfSome, is_some, length, if◌then◌else◌}
use Rattle.std.specs.Option.{unwrap_or}
use Rattle.std.proofs.Common.{refl, arith}
use Rattle.cl_base.specs.Sets.{has}
use Rattle.ccr_commit.specs.Entries.{all_committed}
use Rattle.cmm_attempt.specs.declared.phase.Phase.{Phase}
use Rattle.cmm_attempt.specs.declared.phase.Phase.TheVariants.{Collecting, Choosing, SeizingVotes, SeizingOthers, Installing, Over}
use Rattle.cmm_attempt.specs.declared.step.AttemptEnd.{AttemptEnd}
use Rattle.cmm_attempt.specs.declared.step.Step.{Step}
use Rattle.cmm_attempt.specs.declared.step.Step.TheVariants as step
use Rattle.cmm_attempt.specs.Attempts.{AttemptState, Turn, beginning, newest_installed, own_readying}
use Rattle.cmm_attempt.specs.Calls.{Own_ready, With_votes, starts_in, turn}
use Rattle.cmm_attempt.proofs.Basics.{false_true, if_either}
use Rattle.attempt_laws.proofs.Walk.{if_with}
use Rattle.device_queue.specs.Queue.{joins}
use Rattle.proposals.proofs.OneEach.{none_wait}
use Rattle.request_queue.specs.declared.request.Request.{Request}
use Rattle.seize.specs.declared.kind.SeizeKind.{SeizeKind}
use Rattle.wire.specs.declared.message.Body.TheVariants as body
use Rattle.wire.specs.declared.message.Install.{Install}
use Rattle.node_model.specs.declared.cluster.Cluster.{Cluster}
use Rattle.node_model.specs.declared.node.UpNode.{UpNode}
use Rattle.node_model.specs.declared.seat.Seat.{Seat}
use Rattle.node_model.specs.declared.seat.Seat.TheVariants.{Forming, Member}
use Rattle.node_model.specs.Attempts as attempts
use Rattle.node_model.specs.Attempts.{begins_install, installing, is_choosing, left_out_by, own_promise, presiding, resting, start_lines, starting_as, under_way, votes_in}
use Rattle.node_model.specs.Configurations.{in_force}
use Rattle.node_model.specs.Deciding as deciding
use Rattle.node_model.specs.Entries.{answering, telling_of, unknown_lines}
use Rattle.node_model.specs.Plans.{Plan}
use Rattle.node_model.specs.Plans.Plan.{Stays, Falls}
use Rattle.node_model.specs.Seats.{promised_of, promising}
use Rattle.status_report.specs.declared.node_entry.NodeEntry.TheVariants as note
use Rattle.refinement.specs.node_bounds.Bounded.{AttemptIsBounded, OfficeIsBounded, UpIsBounded}
use Rattle.refinement.proofs.node_bounds.Calls.{IsBrief, first_is_brief, turn_is_brief}
use Rattle.refinement.proofs.node_bounds.Counts.{adopted_quiet, base_quiet, unknown_quiet}
use Rattle.refinement.proofs.node_bounds.Deciding.{decides}
use Rattle.refinement.proofs.node_bounds.Plans.{Costs, answers, costs_less, either_costs, falls, keeps, stays, tells, then_costs}

-- How it ended: one that is left out is told so.

excludes : (n : ℕ) (x : UpNode) (e newest : ℕ) (o : Option ℕ) → UpIsBounded x → Costs 1 (attempts.excluding n x e newest o)
excludes n x e newest None h = stays x 1 h
excludes n x e newest (Some m) h = either_costs (m == n) (Falls _) (answering m (body.Excluded e newest) x) 1 (falls _ 1) (answers m (body.Excluded e newest) x 1 (omega arith) h)

rests : (x : UpNode) → UpIsBounded x → UpIsBounded (resting x)
rests x h = record { own = tt; few = h.few; presides = h.presides }

ends : (n : ℕ) (x : UpNode) (e : AttemptEnd) (o : Option AttemptState) → UpIsBounded x → Costs 1 (attempts.ending n x e o)
ends n x e None h = stays x 1 h
ends n x e (Some a) h =
    tells _ (attempts.excluding n (resting x) a.plan.epoch (unwrap_or (newest_installed a) 0) (left_out_by e)) 1 refl
    (excludes n (resting x) a.plan.epoch (unwrap_or (newest_installed a) 0) (left_out_by e) (rests x h))

-- The coordinator's own part sends nothing.

seizes_here : (c : Cluster) (n : ℕ) (x : UpNode) (d : ℕ) (kind : SeizeKind) (o : Option AttemptState) → UpIsBounded x → UpIsBounded (attempts.seizing_here c n x d kind o)
seizes_here c n x d kind None h = h
seizes_here c n x d kind (Some a) h = if_either UpIsBounded (has a.plan.members n) _ x (record { own = h.own; few = h.few; presides = h.presides }) h

installs_here : (c : Cluster) (n : ℕ) (x : UpNode) (i : Install) (seat : Seat) → UpIsBounded x → Costs 1 (attempts.installing_here c n x i seat)
installs_here c n x i (Member s) h = stays x 1 h
installs_here c n x i (Forming s) h =
    let y : UpNode = installing c n x s [] i in
    let k : UpIsBounded y = record { own = h.own; few = h.few; presides = h.presides } in
    either_costs (attempts.installs_now s i) (attempts.installed_so n y i.epoch (Stays y)) (Stays x) 1
    (keeps n y (telling_of n (note.Installed i.epoch) (Stays y)) 1 (tells _ (Stays y) 1 refl (stays y 1 k))) (stays x 1 h)

presides : (c : Cluster) (n : ℕ) (x : UpNode) (a : AttemptState) → OfficeIsBounded (presiding c n x a)
presides c n x a = (tt, none_wait)

starts_with : (c : Cluster) (n : ℕ) (x : UpNode) (a : AttemptState) (seat : Seat) → UpIsBounded x → Costs 1 (attempts.starting_with c n x a seat)
starts_with c n x a (Member s) h = stays x 1 h
starts_with c n x a (Forming s) h =
    let y : UpNode = starting_as c n x a s in
    let k : UpIsBounded y = record { own = tt; few = h.few; presides = presides c n x a } in
    let last : Plan = telling_of n (note.Member a.plan.epoch) (Stays y) in
    let member : Costs 1 last = tells _ (Stays y) 1 refl (stays y 1 k) in
    let lines : Costs 1 (start_lines c a s y last) =
    tells _ _ 1 refl
    (tells _ _ 1 (base_quiet a.plan.epoch 0 (all_committed s.saved.entries).committed) (tells _ last 1 (adopted_quiet a.plan.epoch (in_force c y) y.presidency) member)) in
    either_costs (attempts.starts_now s a.plan.epoch) (attempts.started_so c n a s y) (Stays x) 1
    (either_costs (is_some s.saved.entries.pending) _ _ 1 (keeps n y (start_lines c a s y last) 1 lines) lines) (stays x 1 h)

starts_here : (c : Cluster) (n : ℕ) (x : UpNode) (o : Option AttemptState) → UpIsBounded x → Costs 1 (attempts.starting_here c n x o)
starts_here c n x None h = stays x 1 h
starts_here c n x (Some a) h = starts_with c n x a x.seat h

-- Step by step.

does_step : (c : Cluster) (n : ℕ) (x : UpNode) (s : Step) → UpIsBounded x → Costs 1 (attempts.step_plan c n x s)
does_step c n x (step.Send to m) h = answers to m.body x 1 (omega arith) h
does_step c n x (step.SeizeHere d kind) h = stays _ 1 (seizes_here c n x d kind x.attempt h)
does_step c n x (step.NeedVotes m) h = stays x 1 h
does_step c n x (step.InstallHere i) h = installs_here c n x i x.seat h
does_step c n x step.StartHere h = starts_here c n x x.attempt h
does_step c n x (step.Ended e) h = ends n x e x.attempt h

does_steps : (c : Cluster) (n : ℕ) (x : UpNode) (steps : List Step) → UpIsBounded x → Costs (length steps) (attempts.performing c n x steps)
does_steps c n x [] h = stays x 0 h
does_steps c n x (s ∷ steps) h =
    costs_less (attempts.performing c n x (s ∷ steps)) (1 + length steps) (length (s ∷ steps)) (omega arith)
    (then_costs (attempts.step_plan c n x s) (λ y. attempts.performing c n y steps) 1 (length steps) (does_step c n x s h) (λ y k. does_steps c n y steps k))

with_attempt : (x : UpNode) (a : AttemptState) → AttemptIsBounded a → UpIsBounded x → UpIsBounded (under_way x a)
with_attempt x a f h = record { own = f; few = h.few; presides = h.presides }

-- the steps of a call, and a decision where the membership has started
call_costs : (c : Cluster) (n : ℕ) (x : UpNode) (t : Turn) → IsBrief t → UpIsBounded x → Costs 65 (attempts.performed_all c n (under_way x t.after) t.steps)
call_costs c n x t brief h =
    then_costs (attempts.performing c n (under_way x t.after) t.steps) (λ y. if starts_in t.steps then deciding.deciding c n y else Stays y) 33 32
    (costs_less (attempts.performing c n (under_way x t.after) t.steps) (length t.steps) 33 brief.1 (does_steps c n (under_way x t.after) t.steps (with_attempt x t.after brief.0 h)))
    (λ y k. either_costs (starts_in t.steps) (deciding.deciding c n y) (Stays y) 32 (decides c n y k) (stays y 32 k))

readied : (c : Cluster) (n : ℕ) (x : UpNode) (o : Option AttemptState) → IfSome o AttemptIsBounded → UpIsBounded x → Costs 65 (attempts.readied_by c n x o)
readied c n x None f h = stays x 65 h
readied c n x (Some a) f h = call_costs c n x (own_readying a) (turn_is_brief a Own_ready tt f) h

pub own_ready_costs : (c : Cluster) (n : ℕ) (x : UpNode) → UpIsBounded x → Costs 65 (attempts.own_ready c n x)
own_ready_costs c n x h = either_costs (joins x.tasks) (Stays x) (attempts.readied_by c n x x.attempt) 65 (stays x 65 h) (readied c n x x.attempt h.own h)

performed_costs : (c : Cluster) (n : ℕ) (x : UpNode) (t : Turn) → IsBrief t → UpIsBounded x → Costs 130 (attempts.performed c n (under_way x t.after) t.steps)
performed_costs c n x t brief h =
    then_costs (attempts.performed_all c n (under_way x t.after) t.steps) (λ y. if begins_install t.steps then attempts.own_ready c n y else Stays y) 65 65 (call_costs c n x t brief h)
    (λ y k. either_costs (begins_install t.steps) (attempts.own_ready c n y) (Stays y) 65 (own_ready_costs c n y k) (stays y 65 k))

choosing_is : (phase : Phase) → is_choosing phase ≡ true → phase ≡ Choosing
choosing_is Collecting h = absurd (false_true h)
choosing_is Choosing h = refl
choosing_is SeizingVotes h = absurd (false_true h)
choosing_is SeizingOthers h = absurd (false_true h)
choosing_is Installing h = absurd (false_true h)
choosing_is Over h = absurd (false_true h)

pub goes_on : (c : Cluster) (n : ℕ) (x : UpNode) (t : Turn) → IsBrief t → UpIsBounded x → Costs 130 (attempts.going_on c n x t)
goes_on c n x t brief h =
    let u : Turn = turn t.after (With_votes (votes_in c t.after)) in
    if_with (Costs 130) (is_choosing t.after.phase) (is_choosing t.after.phase) (attempts.performed c n (under_way x u.after) u.steps) (attempts.performed c n (under_way x t.after) t.steps) refl
    (λ e. performed_costs c n x u (turn_is_brief t.after (With_votes (votes_in c t.after)) (choosing_is t.after.phase e) brief.0) h)
    (λ e. performed_costs c n x t brief h)

-- An attempt begins.

pub promises : (x : UpNode) (p : ℕ) → UpIsBounded (promising x p)
promises x p = record { own = tt; few = omega arith; presides = tt }

led_costs : (c : Cluster) (n : ℕ) (y : UpNode) (waiting : List Request) (p members : ℕ) → length c.attached ≤ 16 → UpIsBounded y → Costs 130 (attempts.led c n y waiting p members)
led_costs c n y waiting p members few h =
    let t : Turn = beginning p members (own_promise n y p) c.attached c.id in
    keeps n y _ 130
    (tells _ _ 130 refl (tells (unknown_lines n waiting) (attempts.going_on c n y t) 130 (unknown_quiet n waiting) (goes_on c n y t (first_is_brief p members (own_promise n y p) c.attached c.id few) h)))

pub leads : (c : Cluster) (n : ℕ) (x : UpNode) (p members : ℕ) → length c.attached ≤ 16 → UpIsBounded x → Costs 130 (attempts.leading_to c n x p members)
leads c n x p members few h =
    let y : UpNode = record (promising x p) { greatest = p } in
    let k : UpIsBounded y = record { own = tt; few = omega arith; presides = tt } in
    either_costs (nat_lt (promised_of x) p) (attempts.led c n y x.requests.waiting p members) (Stays x) 130 (led_costs c n y x.requests.waiting p members few k) (stays x 130 h)
