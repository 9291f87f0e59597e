-- What each act, and each change that a node saves, makes of what it has of results.
use Rattle.std.specs.Prelude.{All, List, [], Option, None, Some, ℕ, ◌<◌, ◌≡◌}
use Rattle.std.specs.List.{AllByRecursion}
use Rattle.std.proofs.Common.{ap, arith, inl, refl, subst, sym, ◌∙◌}
use Rattle.attempt_laws.proofs.Stays.{plan_begins, plan_stays}
use Rattle.attempt_laws.specs.Staying.{IsBefore, IsOf as IsOfPlan}
use Rattle.attempt_laws.proofs.Goes.{chosen_reached, goes_by_call}
use Rattle.attempt_laws.specs.Asking.{AreApart, numbers_of}
use Rattle.cmm_attempt.specs.declared.step.Step.TheVariants as steps
use Rattle.cmm_member.specs.Nodes.{NodeState}
use Rattle.cl_base.specs.Sets.{has}
use Rattle.cl_base.specs.declared.header.Header.{Header}
use Rattle.cmm_attempt.specs.Attempts.{AttemptState, beginning, install_in}
use Rattle.cmm_attempt.specs.Calls.{IsDevice, May, turn}
use Rattle.cmm_attempt.specs.declared.plan.Plan.{Plan}
use Rattle.history.specs.Moment.{Moment}
use Rattle.history.specs.Setting.{coordinator, nodes_of}
use Rattle.node_model.specs.Attempts.{own_promise}
use Rattle.node_model.specs.Members.{rested_by}
use Rattle.node_model.specs.Seats.{promising, record_of, session_of, state_of}
use Rattle.node_model.specs.declared.cluster.Cluster.{Cluster}
use Rattle.node_model.specs.declared.node.UpNode.{UpNode}
use Rattle.refinement.proofs.Attempts.{install_epoch, may_be_called}
use Rattle.refinement.specs.Doings.{Act, Change, acted, changed}
use Rattle.refinement.specs.Doings.Act.{Accepts, Dates, Ends, Gives, Goes_on, Hears, Makes, Minds, Notes, Queues, Spreads, Stores, Takes, Ticks, Waits, Works, Writes}
use Rattle.refinement.specs.Doings.Change.{Acks, Admits, Commits, Counts, Distrusts, Installs, Leads, Prepares, Promises, Proposes, Sits, Starts}
use Rattle.refinement.specs.Guards.{MayAct, MayChange}
use Rattle.refinement.specs.Ties.{Delivered}
use Rattle.run_history.proofs.Changes.{session_after}
use Rattle.run_history.proofs.Ups.{same_state}
use Rattle.run_history.specs.Guards.{InHand, IsStep}
use Rattle.wire.specs.declared.message.Install.{Install}
use Rattle.run_history.specs.Guards.{AtAct, AtChange, Hand, MadeAt}
use Rattle.run_seizings.specs.Seized.{IsOf}
use Rattle.seize.specs.declared.kind.SeizeKind.{SeizeKind}
use Rattle.run_outcomes.proofs.results.Entries.{first_told}
use Rattle.run_outcomes.proofs.results.Fresh.{GoneIn}
use Rattle.run_outcomes.proofs.results.Held.{held_joined}
use Rattle.run_outcomes.proofs.results.Marks.{begins_seizing, distrusts_seat, seat_same}
use Rattle.run_outcomes.specs.results.Tried.{Collected, TasksHeld, Unheld}
use Rattle.run_outcomes.proofs.results.Promises.{promises_first}
use Rattle.run_outcomes.proofs.results.Tasks.{joins_shown}
use Rattle.run_outcomes.specs.results.Shown.{AttemptIn, AttemptShown, HandShown, IsPlaced, OfHeader, PromiseShown, TasksShown, UpShown, Was}
use Rattle.run_outcomes.proofs.results.Ups.{IsOpen, Late, accepts_up, attempt_of, low_nodes, queues_up, turned_mine, turned_shown, up_same}

-- ---- changes

-- it enters session p so, and does not hold there the devices that its record does not
abbrev pub Entered : Header → List Moment → ℕ → ℕ → UpNode → Type 0
Entered h ms n p x = (d : ℕ) → Unheld h p d ms n (has (record_of x).valid d)

-- the change enters session p
abbrev pub Enters : ℕ → Change → Type 0
Enters p (Promises q) = p ≡ q
Enters p (Leads q members) = p ≡ q
Enters p _ = ⊥

rested_up : (h : Header) (past : Collected) (ms : List Moment) (n p : ℕ) (x : UpNode) (o : Option AttemptState) → Entered h ms n p x → UpShown h past ms n (rested_by (promising x p) o)
rested_up h past ms n p x None seat = record { tasks = tt; held = tt; seat = λ some ahead d is none. inl (seat d is none); attempt = tt; mine = tt }
rested_up h past ms n p x (Some a) seat = record { tasks = tt; held = tt; seat = λ some ahead d is none. inl (seat d is none); attempt = tt; mine = tt }

above : (p q : ℕ) → q < p → 0 < p
above p q l = omega (arith, l)

leads_up : (h : Header) (past : Collected) (c : Cluster) (ms : List Moment) (n p members : ℕ) (told : Delivered) (x : UpNode) → All IsDevice c.attached → OfHeader h c → MayChange c n told x (Leads p members) → IsOf ms p members
    → Entered h ms n p x → UpShown h past ms n (changed c n x (Leads p members))
leads_up h past c ms n p members told x fits id may of seat =
    let z : UpNode = record (promising x p) { greatest = p } in
    let a : AttemptState = (beginning p members (own_promise n z p) c.attached c.id).after in
    let begins : IsOfPlan a p members (own_promise n z p) c.attached c.id = plan_begins p members (own_promise n z p) c.attached c.id in
    let epoch : a.plan.epoch ≡ p = begins.of_epoch in
    let same : a.plan.members ≡ members = begins.of_members in
    let own : n ≡ coordinator p = sym may.1 in
    record {
      tasks = tt;
      held = tt;
      seat = λ some ahead d is none. inl (seat d is none);
      mine = begins.of_coordinator;
      attempt = record {
        reached = record { p = p; members = members; own = own_promise n z p; attached = c.attached; cluster = c.id; devices = fits; calls = []; run = refl };
        of = subst (λ q. IsOf ms q a.plan.members) (sym epoch) (subst (λ k. IsOf ms p k) (sym same) of);
        some = subst (λ q. 0 < q) (sym epoch) (above p _ may.0);
        epoch = epoch;
        plan = record {
          own = begins.of_coordinator ∙ (own ∙ ap coordinator (sym epoch));
          nodes = begins.of_nodes ∙ ap nodes_of (sym same);
          cluster = begins.of_cluster ∙ id.id;
          places = subst (λ zs. AllByRecursion (IsPlaced h) zs) (sym begins.of_attached) id.places;
          apart = subst (λ zs. AreApart (numbers_of zs)) (sym begins.of_attached) id.apart;
          all = begins.of_attached ∙ id.all;
        };
        promises = promises_first (PromiseShown h ms a.plan.epoch) p members (own_promise n z p) c.attached c.id
            (λ d. subst (λ q. Unheld h q d ms n (has (record_of x).valid d)) (sym epoch) (seat d));
        rests = first_told (Was h ms a.plan.epoch) p members (own_promise n z p) c.attached c.id
            (record { places = id.places; apart = id.apart; low = λ j among. low_nodes members j among });
      };
    }

pub change_up : (h : Header) (past : Collected) (c : Cluster) (f : ℕ → ℕ) (ms : List Moment) (n : ℕ) (told : Delivered) (x : UpNode) (ch : Change) → All IsDevice c.attached → OfHeader h c → MayChange c n told x ch → AtChange x ch
    → HandShown h past f ms told → Late past f x → ((p members : ℕ) → ch ≡ Leads p members → IsOf ms p members) → ((p : ℕ) → Enters p ch → Entered h ms n p x)
    → ((d : ℕ) → ch ≡ Distrusts d → GoneIn past x) → UpShown h past ms n x
    → UpShown h past ms n (changed c n x ch)
change_up h past c f ms n told x (Promises p) fits id may at hand late of seats gone k = rested_up h past ms n p x x.attempt (seats p refl)
change_up h past c f ms n told x (Leads p members) fits id may at hand late of seats gone k = leads_up h past c ms n p members told x fits id may (of p members refl) (seats p refl)
change_up h past c f ms n told x (Counts a q s i) fits id may at hand late of seats gone k =
    let same : session_of (changed c n x (Counts a q s i)) ≡ session_of x = session_after c n told x (Counts a q s i) may tt (λ p e. cc) in
    let so : AttemptShown h ms (session_of x) a = attempt_of h ms (session_of x) x.attempt a may.0 k.attempt in
    let calls : May a q = may_be_called c told a q may.2 in
    let gives : i ≡ install_in (turn a q).after = ((goes_by_call a q calls (chosen_reached a so.reached)).install i may.3).1 in
    let epoch : i.epoch ≡ session_of x = ap (λ (z : Install). z.epoch) gives ∙ (install_epoch (turn a q).after ∙ (ap (λ (z : Plan). z.epoch) (plan_stays a q calls) ∙ so.epoch)) in
    record {
      tasks = joins_shown h c ms n (session_of (changed c n x (Counts a q s i))) n i.epoch _ i.readings [] tt;
      held = held_joined h c ms n (session_of (changed c n x (Counts a q s i))) n i.epoch _ i.readings [] tt;
      seat = λ some ahead d is none. absurd (ahead (epoch ∙ sym same));
      attempt = subst (λ z. AttemptShown h ms z (turn a q).after) (sym same) (turned_shown h past c f ms n told x a q may.0 may.2 at hand late k);
      mine = turned_mine c n told x a q may.0 may.2 k.mine;
    }
change_up h past c f ms n told x (Installs s i) fits id may at hand late of seats gone k =
    let same : session_of (changed c n x (Installs s i)) ≡ session_of x = session_after c n told x (Installs s i) may tt (λ p e. cc) in
    record {
      tasks = joins_shown h c ms n (session_of (changed c n x (Installs s i))) n i.epoch _ i.readings x.tasks (subst (λ z. TasksShown h ms n z x.tasks) (sym same) k.tasks);
      held = held_joined h c ms n (session_of (changed c n x (Installs s i))) n i.epoch _ i.readings x.tasks (subst (λ z. TasksHeld h ms n z x.tasks) (sym same) k.held);
      seat = λ some ahead d is none. absurd (ahead (sym may.3 ∙ (ap (λ z. (state_of z).session) (sym may.0) ∙ sym same)));
      attempt = subst (λ z. AttemptIn h ms z x.attempt) (sym same) k.attempt;
      mine = k.mine;
    }
change_up h past c f ms n told x (Starts a q s) fits id may at hand late of seats gone k =
    let same : session_of (changed c n x (Starts a q s)) ≡ session_of x = session_after c n told x (Starts a q s) may tt (λ p e. cc) in
    record {
      tasks = subst (λ z. TasksShown h ms n z x.tasks) (sym same) k.tasks;
      held = subst (λ z. TasksHeld h ms n z x.tasks) (sym same) k.held;
      seat = seat_same h past ms n x (changed c n x (Starts a q s)) same (ap (λ z. (state_of z).saved.installed) (sym may.1)) (ap (λ z. (state_of z).saved.valid) (sym may.1)) refl k.seat;
      attempt = tt;
      mine = tt;
    }
change_up h past c f ms n told x (Sits s e) fits id may at hand late of seats gone k =
    up_same h past ms n x (changed c n x (Sits s e)) (session_after c n told x (Sits s e) may tt (λ p e. cc)) (ap (λ z. (state_of z).saved.installed) (sym may.0)) (ap (λ z. (state_of z).saved.valid) (sym may.0)) refl refl k
change_up h past c f ms n told x (Distrusts d) fits id may at hand late of seats gone k =
    let y : UpNode = changed c n x (Distrusts d) in
    let session : session_of y ≡ session_of x = session_after c n told x (Distrusts d) may tt (λ p e. cc) in
    record {
      tasks = subst (λ q. TasksShown h ms n q x.tasks) (sym session) k.tasks;
      held = subst (λ q. TasksHeld h ms n q x.tasks) (sym session) k.held;
      seat = distrusts_seat h past ms n x y d session (ap (λ (z : NodeState). z.saved.installed) (same_state x.seat _)) (ap (λ (z : NodeState). z.saved.valid) (same_state x.seat _)) refl id.few at.0
          (begins_seizing x.tasks d at.1) (gone d refl) k.seat;
      attempt = subst (λ q. AttemptIn h ms q x.attempt) (sym session) k.attempt;
      mine = k.mine;
    }
change_up h past c f ms n told x (Admits on command a d) fits id may at hand late of seats gone k = absurd at
change_up h past c f ms n told x (Proposes s p text) fits id may at hand late of seats gone k =
    up_same h past ms n x (changed c n x (Proposes s p text)) (session_after c n told x (Proposes s p text) may tt (λ p e. cc)) (ap (λ (z : NodeState). z.saved.installed) (same_state x.seat _)) (ap (λ (z : NodeState). z.saved.valid) (same_state x.seat _)) refl refl k
change_up h past c f ms n told x (Acks s p q left text) fits id may at hand late of seats gone k =
    up_same h past ms n x (changed c n x (Acks s p q left text)) (session_after c n told x (Acks s p q left text) may tt (λ p e. cc)) (ap (λ (z : NodeState). z.saved.installed) (same_state x.seat _)) (ap (λ (z : NodeState). z.saved.valid) (same_state x.seat _)) refl refl k
change_up h past c f ms n told x (Prepares s text) fits id may at hand late of seats gone k =
    up_same h past ms n x (changed c n x (Prepares s text)) (session_after c n told x (Prepares s text) may tt (λ p e. cc)) (ap (λ z. (state_of z).saved.installed) (sym may.0)) (ap (λ z. (state_of z).saved.valid) (sym may.0)) refl refl k
change_up h past c f ms n told x (Commits s) fits id may at hand late of seats gone k =
    up_same h past ms n x (changed c n x (Commits s)) (session_after c n told x (Commits s) may tt (λ p e. cc)) (ap (λ z. (state_of z).saved.installed) (sym may.0)) (ap (λ z. (state_of z).saved.valid) (sym may.0)) refl refl k

pub made_at : (x : UpNode) (ch : Change) → MadeAt ch → AtChange x ch
made_at x (Starts a q s) made = tt
made_at x (Sits s e) made = tt
made_at x _ made = absurd made

pub made_gone : (past : Collected) (x : UpNode) (ch : Change) → MadeAt ch → (d : ℕ) → ch ≡ Distrusts d → GoneIn past x
made_gone past x ch made d is = absurd (subst MadeAt is made)

pub made_enters : (h : Header) (ms : List Moment) (n : ℕ) (x : UpNode) (ch : Change) → MadeAt ch → (p : ℕ) → Enters p ch → Entered h ms n p x
made_enters h ms n x (Promises q) made p is = absurd made
made_enters h ms n x (Leads q members) made p is = absurd made
made_enters h ms n x _ made p is = absurd is

pub made_leads : (ms : List Moment) (ch : Change) → MadeAt ch → (p members : ℕ) → ch ≡ Leads p members → IsOf ms p members
made_leads ms ch made p members is = absurd (subst MadeAt is made)

-- ---- acts

-- an own task is begun before the attempt installs
before_of : (b : AttemptState) (d : ℕ) (kind : SeizeKind) (g : Hand) → InHand (λ u. (u.after ≡ b) × IsBefore b.phase × IsStep (steps.SeizeHere d kind) u.steps) g → IsBefore b.phase
before_of b d kind None k = absurd k
before_of b d kind (Some u) k = k.1

pub act_up : (h : Header) (past : Collected) (c : Cluster) (f : ℕ → ℕ) (ms : List Moment) (n : ℕ) (told : Delivered) (g : Hand) (x : UpNode) (a : Act) → All IsDevice c.attached → OfHeader h c → MayAct c n told x a
    → AtAct n told g x a → HandShown h past f ms told → Late past f x → IsOpen x → UpShown h past ms n x → UpShown h past ms n (acted c n x a)
act_up h past c f ms n told g x (Goes_on b q) fits id may at hand late opens k = record {
  tasks = k.tasks;
  held = k.held;
  seat = k.seat;
  attempt = turned_shown h past c f ms n told x b q may.0 may.1 at hand late k;
  mine = turned_mine c n told x b q may.0 may.1 k.mine;
}
act_up h past c f ms n told g x (Ends b end) fits id may at hand late opens k = record { tasks = k.tasks; held = k.held; seat = k.seat; attempt = tt; mine = tt }
act_up h past c f ms n told g x (Queues b d kind) fits id may at hand late opens k = queues_up h past c ms n d x kind b id may (opens b may (before_of b d kind g at)) k
act_up h past c f ms n told g x (Accepts kind e members d) fits id may at hand late opens k = accepts_up h past c f ms n e members d x kind told id may at.0 at.1 at.2 at.3 hand k
act_up h past c f ms n told g x (Makes ch) fits id may at hand late opens k = change_up h past c f ms n told x ch fits id may.0 (made_at x ch at) hand late (made_leads ms ch at) (made_enters h ms n x ch at) (made_gone past x ch at) k
act_up h past c f ms n told g x (Takes on command a) fits id may at hand late opens k = absurd at
act_up h past c f ms n told g x (Hears from b) fits id may at hand late opens k = up_same h past ms n x (acted c n x (Hears from b)) refl refl refl refl refl k
act_up h past c f ms n told g x Ticks fits id may at hand late opens k = up_same h past ms n x (acted c n x Ticks) refl refl refl refl refl k
act_up h past c f ms n told g x Waits fits id may at hand late opens k = up_same h past ms n x (acted c n x Waits) refl refl refl refl refl k
act_up h past c f ms n told g x (Stores d value a) fits id may at hand late opens k = k
act_up h past c f ms n told g x (Writes to b) fits id may at hand late opens k = k
act_up h past c f ms n told g x (Gives os) fits id may at hand late opens k = k
act_up h past c f ms n told g x (Spreads receivers b) fits id may at hand late opens k = k
act_up h past c f ms n told g x (Minds q p) fits id may at hand late opens k = up_same h past ms n x (acted c n x (Minds q p)) refl refl refl refl refl k
act_up h past c f ms n told g x (Notes from place p) fits id may at hand late opens k = up_same h past ms n x (acted c n x (Notes from place p)) refl refl refl refl refl k
act_up h past c f ms n told g x (Dates now) fits id may at hand late opens k = up_same h past ms n x (acted c n x (Dates now)) refl refl refl refl refl k
act_up h past c f ms n told g x (Works w) fits id may at hand late opens k = up_same h past ms n x (acted c n x (Works w)) refl refl refl refl refl k
