-- What each small step of a node, by which no answer of a device comes, makes of what it has of results.
use Rattle.std.specs.Prelude.{true, List, Option, None, Some, false, ℕ, ◌<◌, ◌≡◌, ◌≢◌, ◌≤◌, ◌⊎◌, is_some, nat_le, suc, zero}
use Rattle.std.specs.List.{AllByRecursion}
use Rattle.std.proofs.Common.{ap, arith, inl, inr, refl, subst, sym, ◌∙◌}
use Rattle.attempt_laws.proofs.Stays.{plan_stays}
use Rattle.attempt_laws.proofs.Walk.{if_with}
use Rattle.attempt_laws.specs.Staying.{IsBefore}
use Rattle.attempt_laws.proofs.Told.{is_among}
use Rattle.cl_base.proofs.SetLemmas.{has_not_zero}
use Rattle.device_queue.specs.declared.task.Task.{Task}
use Rattle.cl_base.specs.Sets.{has}
use Rattle.cl_base.specs.declared.header.Header.{Header}
use Rattle.cmm_attempt.proofs.Basics.{and_cases, false_true, none_some, same_number, same_some}
use Rattle.cmm_attempt.specs.Attempts.{AttemptState, is_of}
use Rattle.cmm_attempt.specs.Calls.{Call, May, Own_ready, Own_seized, Take, Tick, With_votes, turn}
use Rattle.cmm_attempt.specs.Promises.{promised_by, shown_by}
use Rattle.cmm_attempt.specs.declared.phase.Phase.TheVariants.{Collecting}
use Rattle.cmm_attempt.specs.declared.plan.Plan.{Plan}
use Rattle.device_queue.specs.Queue.{after_seize, seizure_of}
use Rattle.history.specs.Moment.{Moment}
use Rattle.history.specs.Setting.{coordinator, nodes_of}
use Rattle.node_model.specs.Attempts.{seizing_here}
use Rattle.node_model.specs.Seats.{installed_of, record_of, session_of}
use Rattle.node_model.specs.declared.cluster.Cluster.{Cluster}
use Rattle.node_model.specs.declared.node.UpNode.{UpNode}
use Rattle.refinement.proofs.Attempts.{may_be_called, reached_more}
use Rattle.refinement.specs.Doings.{acted}
use Rattle.refinement.specs.Doings.Act.{Accepts}
use Rattle.refinement.specs.Guards.{MayCall, Says}
use Rattle.refinement.specs.Ties.{Delivered}
use Rattle.run_history.specs.Guards.{AtCall, HasEnded, request_as}
use Rattle.run_seizings.specs.Seized.{Base, IsFirst, IsOf}
use Rattle.seize.specs.Seizing as seizing
use Rattle.seize.specs.Seizing.{SeizeState}
use Rattle.seize.specs.declared.kind.SeizeKind.{SeizeKind}
use Rattle.seize.specs.declared.kind.SeizeKind.TheVariants.{Plain, Vote}
use Rattle.wire.specs.declared.message.Body.TheVariants as body
use Rattle.run_outcomes.proofs.results.Entries.{Planned, Tells, turn_told}
use Rattle.run_outcomes.proofs.results.Fresh.{Fresh}
use Rattle.run_history.specs.WorldLines.{IsDevice as IsDeviceOf}
use Rattle.run_outcomes.proofs.results.Held.{held_seized, seizes_more}
use Rattle.run_outcomes.proofs.results.Marks.{seat_more, seat_same}
use Rattle.run_outcomes.specs.results.Tried.{Collected, HeldOr, SeatHeld, TasksHeld, Unheld, Without}
use Rattle.run_outcomes.proofs.results.Promises.{Taken, promises_taken}
use Rattle.wire.specs.declared.message.Body.{Body}
use Rattle.run_outcomes.proofs.results.Tasks.{ended_shown, seize_shown}
use Rattle.run_outcomes.specs.results.Shown.{AsksOf, AttemptIn, AttemptShown, EndShown, HandShown, IsAmong, MineIn, OfHeader, PlanShown, PromiseShown, Rests, SaysShown, TasksShown, UpShown, Was}

-- with the same session, tasks and attempt, and what its record says of them
pub up_same : (h : Header) (past : Collected) (ms : List Moment) (n : ℕ) (x y : UpNode) → session_of y ≡ session_of x → installed_of y ≡ installed_of x → (record_of y).valid ≡ (record_of x).valid → y.tasks ≡ x.tasks
    → y.attempt ≡ x.attempt → UpShown h past ms n x → UpShown h past ms n y
up_same h past ms n x y session installed valid tasks tries k = record {
  tasks = subst (λ ts. TasksShown h ms n (session_of y) ts) (sym tasks) (subst (λ q. TasksShown h ms n q x.tasks) (sym session) k.tasks);
  held = subst (λ ts. TasksHeld h ms n (session_of y) ts) (sym tasks) (subst (λ q. TasksHeld h ms n q x.tasks) (sym session) k.held);
  seat = seat_same h past ms n x y session installed valid tasks k.seat;
  attempt = subst (λ o. AttemptIn h ms (session_of y) o) (sym tries) (subst (λ q. AttemptIn h ms q x.attempt) (sym session) k.attempt);
  mine = subst (λ o. MineIn n o) (sym tries) k.mine;
}

pub attempt_of : (h : Header) (ms : List Moment) (q : ℕ) (o : Option AttemptState) (a : AttemptState) → o ≡ Some a → AttemptIn h ms q o → AttemptShown h ms q a
attempt_of h ms q o a is k = subst (λ z. AttemptIn h ms q z) is k

-- the attempt of the node has not installed yet what its coordinator is known to have installed
abbrev pub NoneLate : (ℕ → ℕ) → UpNode → Type 0
NoneLate f x = (b : AttemptState) → x.attempt ≡ Some b → IsBefore b.phase → b.plan.epoch ≤ f (coordinator b.plan.epoch) → ⊥

-- .. and collects no Promises, where this is known of it
abbrev pub Late : Collected → (ℕ → ℕ) → UpNode → Type 0
Late past f x = NoneLate f x × Fresh past x

-- and its session is not installed before it installs
abbrev pub IsOpen : UpNode → Type 0
IsOpen x = (b : AttemptState) → x.attempt ≡ Some b → IsBefore b.phase → installed_of x ≢ session_of x

-- ---- a call

-- the Promise that is in hand shows what its sender held where it promised
call_takes : (h : Header) (past : Collected) (c : Cluster) (f : ℕ → ℕ) (ms : List Moment) (told : Delivered) (a : AttemptState) (k : Call) → MayCall c told a k → HandShown h past f ms told
    → (IsBefore a.phase → a.plan.epoch ≤ f (coordinator a.plan.epoch) → ⊥) → (a.phase ≡ Collecting → past a.plan.epoch → ⊥) → Taken (PromiseShown h ms a.plan.epoch) a k
call_takes h past c f ms told a k may hand late fresh from m p is at of promised =
    let there : told ≡ Some (from, m) = (subst (MayCall c told a) is may).0 in
    by_body m.body of promised (subst (λ t. HandShown h past f ms t) there hand).1
  where
    e : ℕ
    e = a.plan.epoch

    by_shown : (q valid : ℕ) → q ≡ e → (q ≤ f (coordinator q)) ⊎ ((d : ℕ) → IsDeviceOf h d → has valid d ≡ false → Without h q d ms from ⊎ past q) → (d : ℕ) → Unheld h e d ms from (has valid d)
    by_shown q valid same (inl installed) d is none = absurd (late (subst IsBefore (sym at) tt) (subst (λ j. j ≤ f (coordinator j)) same installed))
    by_shown q valid same (inr shows) d is none = by_case (shows d is none)
      where
        by_case : Without h q d ms from ⊎ past q → Without h e d ms from
        by_case (inl w) = subst (λ j. Without h j d ms from) same w
        by_case (inr gone) = absurd (fresh at (subst past same gone))

    by_body : (b : Body) → is_of e b ≡ true → promised_by m (shown_by from b) ≡ Some p → SaysShown h past f ms from b → PromiseShown h ms e p
    by_body (body.Promise q newest members valid flagged committed pending) of promised so =
        subst (PromiseShown h ms e) (same_some _ p promised) (by_shown q valid (same_number q e of) so)
    by_body _ of promised so = absurd (none_some p promised)

call_tells : (h : Header) (past : Collected) (c : Cluster) (f : ℕ → ℕ) (ms : List Moment) (n : ℕ) (told : Delivered) (x : UpNode) (a : AttemptState) (k : Call) → MayCall c told a k → AtCall x k → HandShown h past f ms told
    → (IsBefore a.phase → a.plan.epoch ≤ f (coordinator a.plan.epoch) → ⊥) → UpShown h past ms n x → AttemptShown h ms (session_of x) a → a.plan.coordinator ≡ n → Tells (Was h ms a.plan.epoch) a k
call_tells h past c f ms n told x a (Take from m) may at hand late up so mine d giver r before tells =
    by_says (subst (λ b. SaysShown h past f ms from b) tells.1 (subst (λ t. HandShown h past f ms t) may.0 hand).1)
  where
    by_says : SaysShown h past f ms from (body.Seized a.plan.epoch d r) → EndShown h a.plan.epoch d ms giver r
    by_says (inl fault) = absurd (late before fault.1)
    by_says (inr k) = subst (λ j. EndShown h a.plan.epoch d ms j r) tells.0 k.1
call_tells h past c f ms n told x a (Own_seized device result) may at hand late up so mine d giver r before tells =
    subst (λ e. EndShown h e d ms giver r) (sym so.epoch)
    (subst (λ j. EndShown h (session_of x) d ms j r) (sym (tells.2 ∙ mine))
    (ended_shown h ms n (session_of x) d r x.tasks (subst (λ z. HasEnded x.tasks d z) tells.1 (subst (λ z. HasEnded x.tasks z result) tells.0 at)) up.tasks).shown)
call_tells h past c f ms n told x a (With_votes votes) may at hand late up so mine d giver r before tells = absurd tells
call_tells h past c f ms n told x a Own_ready may at hand late up so mine d giver r before tells = absurd tells
call_tells h past c f ms n told x a Tick may at hand late up so mine d giver r before tells = absurd tells

-- the nodes of a plan are low
pub low_nodes : (members n : ℕ) → IsAmong n (nodes_of members) → (1 ≤ n) × (n ≤ 32)
low_nodes members n among =
    let two : (nat_le n 32 ≡ true) × (has members n ≡ true) = and_cases (nat_le n 32) (has members n) (sym (is_among members 32 n) ∙ among) in
    (positive n two.1, low n two.0)
  where
    low : (k : ℕ) → nat_le k 32 ≡ true → k ≤ 32
    low k i = grind arith

    positive : (k : ℕ) → has members k ≡ true → 1 ≤ k
    positive zero is = absurd (false_true (sym (has_not_zero members) ∙ is))
    positive (suc k) is = omega arith

planned_of : (h : Header) (ms : List Moment) (e : ℕ) (plan : Plan) → PlanShown h plan → Planned (Was h ms e) plan
planned_of h ms e plan k = record {
  places = k.places;
  apart = k.apart;
  low = λ n among. low_nodes plan.members n (subst (λ ns. IsAmong n ns) k.nodes among);
}

pub mine_of : (n : ℕ) (o : Option AttemptState) (a : AttemptState) → o ≡ Some a → MineIn n o → a.plan.coordinator ≡ n
mine_of n o a is k = subst (λ z. MineIn n z) is k

pub turned_mine : (c : Cluster) (n : ℕ) (told : Delivered) (x : UpNode) (a : AttemptState) (k : Call) → x.attempt ≡ Some a → MayCall c told a k → MineIn n x.attempt → (turn a k).after.plan.coordinator ≡ n
turned_mine c n told x a k is may mine = ap (λ (p : Plan). p.coordinator) (plan_stays a k (may_be_called c told a k may)) ∙ mine_of n x.attempt a is mine

pub turned_shown : (h : Header) (past : Collected) (c : Cluster) (f : ℕ → ℕ) (ms : List Moment) (n : ℕ) (told : Delivered) (x : UpNode) (a : AttemptState) (k : Call) → x.attempt ≡ Some a → MayCall c told a k → AtCall x k
    → HandShown h past f ms told → Late past f x → UpShown h past ms n x → AttemptShown h ms (session_of x) (turn a k).after
turned_shown h past c f ms n told x a k is may at hand late up =
    let so : AttemptShown h ms (session_of x) a = attempt_of h ms (session_of x) x.attempt a is up.attempt in
    let calls : May a k = may_be_called c told a k may in
    let same : (turn a k).after.plan ≡ a.plan = plan_stays a k calls in
    record {
      reached = reached_more a k calls so.reached;
      of = subst (λ (p : Plan). IsOf ms p.epoch p.members) (sym same) so.of;
      some = subst (λ (p : Plan). 0 < p.epoch) (sym same) so.some;
      epoch = ap (λ (p : Plan). p.epoch) same ∙ so.epoch;
      plan = subst (PlanShown h) (sym same) so.plan;
      promises = subst (λ (p : Plan). AllByRecursion (PromiseShown h ms p.epoch) (turn a k).after.promises) (sym same)
          (promises_taken (PromiseShown h ms a.plan.epoch) a k (call_takes h past c f ms told a k may hand (late.0 a is) (late.1 a is)) so.promises);
      rests = subst (λ (p : Plan). Rests (Was h ms p.epoch) (turn a k).after) (sym same)
          (turn_told (Was h ms a.plan.epoch) a k calls (planned_of h ms a.plan.epoch a.plan so.plan)
          (call_tells h past c f ms n told x a k may at hand (late.0 a is) up so (mine_of n x.attempt a is up.mine)) so.rests);
    }

-- ---- another task

first_kind : (kind : SeizeKind) → IsFirst (seizing.first_step kind)
first_kind Vote = tt
first_kind Plain = tt

-- the device is not seized yet, and so its record says of it what it said as the session was entered
held_yet : (h : Header) (past : Collected) (ms : List Moment) (n d : ℕ) (x : UpNode) → 0 < session_of x → installed_of x ≢ session_of x → SeatHeld h past ms n x → seizure_of x.tasks d ≡ None
    → Unheld h (session_of x) d ms n (has (record_of x).valid d)
held_yet h past ms n d x some ahead seat none is no_mark = by_case (seat some ahead d is no_mark)
  where
    by_case : HeldOr h past ms n (session_of x) d x.tasks → Without h (session_of x) d ms n
    by_case (inl w) = w
    by_case (inr seizes) = absurd (false_true (sym (ap (λ (o : Option Task). is_some o) none) ∙ seizes.0))

queued_up : (h : Header) (past : Collected) (ms : List Moment) (n d : ℕ) (x : UpNode) (s : SeizeState) → Base h ms n (session_of x) s → IsFirst s.step → installed_of x ≢ session_of x → s.valid ≡ has (record_of x).valid d
    → UpShown h past ms n x → UpShown h past ms n (record x { tasks = after_seize x.tasks d s })
queued_up h past ms n d x s base first ahead valid k = record {
  tasks = seize_shown h ms n (session_of x) d x.tasks s base first k.tasks;
  held = held_seized h ms n (session_of x) d x.tasks s
      (λ none. subst (λ b. Unheld h (session_of x) d ms n b) (sym valid) (held_yet h past ms n d x base.some ahead k.seat none)) k.held;
  seat = seat_more h past ms n x (record x { tasks = after_seize x.tasks d s }) refl refl (λ e none. none) (λ e seizes. seizes_more x.tasks e d s seizes) k.seat;
  attempt = k.attempt;
  mine = k.mine;
}

pub queues_up : (h : Header) (past : Collected) (c : Cluster) (ms : List Moment) (n d : ℕ) (x : UpNode) (kind : SeizeKind) (a : AttemptState) → OfHeader h c → x.attempt ≡ Some a → installed_of x ≢ session_of x
    → UpShown h past ms n x → UpShown h past ms n (seizing_here c n x d kind (Some a))
queues_up h past c ms n d x kind a id is ahead k =
    let so : AttemptShown h ms (session_of x) a = attempt_of h ms (session_of x) x.attempt a is k.attempt in
    if_with (λ y. UpShown h past ms n y) (has a.plan.members n) (has a.plan.members n)
    (record x { tasks = after_seize x.tasks d (seizing.begun kind a.plan.epoch a.plan.members n c.id (has (record_of x).valid d)) }) x refl
    (λ member. queued_up h past ms n d x (seizing.begun kind a.plan.epoch a.plan.members n c.id (has (record_of x).valid d))
    (record {
      me = refl;
      cluster = id.id;
      epoch = so.epoch;
      some = subst (λ q. 0 < q) so.epoch so.some;
      of = subst (λ q. IsOf ms q a.plan.members) so.epoch so.of;
      member = member;
    }) (first_kind kind) ahead refl k)
    (λ none. k)

asked_of : (h : Header) (past : Collected) (f : ℕ → ℕ) (ms : List Moment) (e members d : ℕ) (kind : SeizeKind) (told : Delivered) → Says (λ b. b ≡ request_as kind e members d) told → HandShown h past f ms told → IsOf ms e members
asked_of h past f ms e members d kind None says hand = absurd says
asked_of h past f ms e members d Vote (Some x) says hand = subst (λ b. AsksOf ms b) says hand.0
asked_of h past f ms e members d Plain (Some x) says hand = subst (λ b. AsksOf ms b) says hand.0

pub accepts_up : (h : Header) (past : Collected) (c : Cluster) (f : ℕ → ℕ) (ms : List Moment) (n e members d : ℕ) (x : UpNode) (kind : SeizeKind) (told : Delivered) → OfHeader h c → e ≡ session_of x
    → Says (λ b. b ≡ request_as kind e members d) told → has members n ≡ true → 0 < e → installed_of x ≢ e → HandShown h past f ms told → UpShown h past ms n x
    → UpShown h past ms n (acted c n x (Accepts kind e members d))
accepts_up h past c f ms n e members d x kind told id at says member some ahead hand k =
    queued_up h past ms n d x (seizing.begun kind e members n c.id (has (record_of x).valid d))
    (record {
      me = refl;
      cluster = id.id;
      epoch = at;
      some = subst (λ q. 0 < q) at some;
      of = subst (λ q. IsOf ms q members) at (asked_of h past f ms e members d kind told says hand);
      member = member;
    }) (first_kind kind) (λ same. ahead (same ∙ sym at)) refl k
