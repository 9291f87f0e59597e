-- A call on an attempt, with all that its steps ask for, may be made.
use Rattle.std.specs.Prelude.{ℕ, ◌≡◌, ◌<◌, ◌⊎◌, ◌++◌, ◌==◌, ◌&&◌, nat_le, not, Bool, true, false, List, [], ◌∷◌, Option, None, Some, is_some, flat_map, if◌then◌else◌}
use Rattle.std.proofs.Common.{refl, sym, ap, subst, ◌∙◌, inl, inr, arith}
use Rattle.std.proofs.lemmas.List.{append-nil}
use Rattle.std.specs.Option.{unwrap_or}
use Rattle.cl_base.specs.Sets.{has}
use Rattle.cl_base.specs.declared.panic.Panic.TheVariants as panic
use Rattle.ccr_commit.specs.Entries.{EntryList, listed}
use Rattle.seize.specs.declared.kind.SeizeKind.{SeizeKind}
use Rattle.status_report.specs.declared.node_entry.DownCause.TheVariants as down
use Rattle.wire.specs.declared.message.Body.{Body}
use Rattle.wire.specs.declared.message.Body.TheVariants as body
use Rattle.wire.specs.declared.message.Install.{Install}
use Rattle.wire.specs.declared.message.Order.{Order}
use Rattle.cmm_attempt.specs.declared.phase.Phase.{Phase}
use Rattle.cmm_attempt.specs.declared.phase.Phase.TheVariants.{Collecting, Choosing, SeizingVotes, SeizingOthers, Installing, Over}
use Rattle.cmm_attempt.specs.declared.step.AttemptEnd.{AttemptEnd}
use Rattle.cmm_attempt.specs.declared.step.Step.{Step}
use Rattle.cmm_attempt.specs.declared.step.Step.TheVariants as step
use Rattle.cmm_attempt.specs.Attempts.{AttemptState, Turn, install_in, newest_installed}
use Rattle.cmm_attempt.specs.Calls.{Call, IsReached, May, Own_ready, With_votes, installs_in, starts_in, turn}
use Rattle.cmm_attempt.proofs.Basics.{false_true, if_either}
use Rattle.cmm_member.specs.Nodes.{NodeState, installed_with, started}
use Rattle.attempt_laws.specs.Staying.{IsBefore}
use Rattle.attempt_laws.proofs.Goes.{chosen_reached, goes_by_call}
use Rattle.attempt_laws.proofs.MachineLemmas.{starts_follow}
use Rattle.attempt_laws.proofs.Stays.{final_stays, installs_come_before, plan_stays}
use Rattle.attempt_laws.proofs.Starts.{ends_once}
use Rattle.attempt_laws.proofs.Walk.{if_with}
use Rattle.node_model.specs.declared.cluster.Cluster.{Cluster}
use Rattle.node_model.specs.declared.node.UpNode.{UpNode}
use Rattle.node_model.specs.declared.output.Output.{Output}
use Rattle.node_model.specs.declared.presidency.Presidency.{Presidency}
use Rattle.node_model.specs.declared.seat.Seat.TheVariants.{Forming}
use Rattle.node_model.specs.Attempts.{begins_install, installs_now, is_choosing, left_out_by, resting, starts_now, votes_in}
use Rattle.node_model.specs.Configurations.{in_force}
use Rattle.node_model.specs.Deciding.{is_held_up, may_order, order_sent, orders_sent, with_turn}
use Rattle.node_model.specs.Seats as seats
use Rattle.node_model.specs.Seats.{record_of, session_of, state_of}
use Rattle.device_queue.specs.Queue.{joins}
use Rattle.rgm_president.specs.Decisions as decisions
use Rattle.refinement.specs.Doings.{acted, changed, going, minded}
use Rattle.refinement.specs.Doings.Act.{Goes_on, Makes}
use Rattle.refinement.specs.Doings.Change.{Counts, Starts}
use Rattle.refinement.specs.Courses.{Course, joined}
use Rattle.refinement.specs.Courses.Course.{Acts, Falls as Course_falls, Keeps, Stops}
use Rattle.refinement.specs.Cuts.{called, counted, decided_course, deciding_by_course, deciding_course, ended_course, excluded_course, going_course, gone_on, if_installed, if_started, kept_if, own_ready_course, queued_course, readied_course, started as started_course, steps_course, turned, turned_all, turned_by, writing}
use Rattle.refinement.specs.Facts.{AttemptFacts}
use Rattle.refinement.specs.Guards.{MayAct, MayCall, MayChange, MayGo, MayWrite, OfAttempt, SameProposed, TellNothing}
use Rattle.refinement.specs.Ties.{Delivered}
use Rattle.refinement.proofs.Attempts.{install_epoch, may_be_called, reached_more}
use Rattle.refinement.proofs.Fits.{AllFit, AllSent, AllStart, FitsBody, FitsTurn, StartsBody, turn_fits}

-- the course may go, and where the node is up at its end this holds
abbrev pub MayTo : Cluster → ℕ → Delivered → (UpNode → Type 0) → UpNode → Course → Type 0
MayTo c me told P x Stops = P x
MayTo c me told P x (Acts a rest) = MayAct c me told x a × MayTo c me told P (acted c me x a) rest
MayTo c me told P x (Keeps change rest) = MayChange c me told x change × MayTo c me told P (changed c me x change) rest
MayTo c me told P x (Course_falls why) = Unit {0}

pub go : (c : Cluster) (me : ℕ) (told : Delivered) (P : UpNode → Type 0) (x : UpNode) (k : Course) → MayTo c me told P x k → MayGo c me told x k
go c me told P x Stops h = tt
go c me told P x (Acts a rest) h = (h.0, go c me told P (acted c me x a) rest h.1)
go c me told P x (Keeps change rest) h = (h.0, go c me told P (changed c me x change) rest h.1)
go c me told P x (Course_falls why) h = tt

abbrev pub Any : UpNode → Type 0
Any x = Unit {0}

pub joined_to : (c : Cluster) (me : ℕ) (told : Delivered) (P Q : UpNode → Type 0) (x : UpNode) (k : Course) (next : UpNode → Course) → MayTo c me told P x k
    → ((y : UpNode) → P y → MayTo c me told Q y (next y)) → MayTo c me told Q x (joined c me x k next)
joined_to c me told P Q x Stops next h f = f x h
joined_to c me told P Q x (Acts a rest) next h f = (h.0, joined_to c me told P Q (acted c me x a) rest next h.1 f)
joined_to c me told P Q x (Keeps change rest) next h f = (h.0, joined_to c me told P Q (changed c me x change) rest next h.1 f)
joined_to c me told P Q x (Course_falls why) next h f = tt

-- The president decides: it sends orders, and what is proposed is the same.

pub nothing_append : (os more : List Output) → TellNothing os → TellNothing more → TellNothing (os ++ more)
nothing_append [] more h k = k
nothing_append (o ∷ os) more h k = (h.0, nothing_append os more h.1 k)

pub nothing_of : {X : Type 0} → (f : X → List Output) (xs : List X) → ((x : X) → TellNothing (f x)) → TellNothing (flat_map f xs)
nothing_of f [] h = tt
nothing_of f (x ∷ xs) h = nothing_append (f x) (flat_map f xs) (h x) (nothing_of f xs h)

pub orders_nothing : (me : ℕ) (orders : List (ℕ × Order)) → TellNothing (orders_sent me orders)
unfolding orders_sent
orders_nothing me orders = nothing_of (order_sent me) orders (λ e. if_either TellNothing (e.0 == me) [] _ tt (tt, tt))

pub same_of : (o : Option Presidency) (p q : Presidency) → o ≡ Some p → q.proposals.proposed ≡ p.proposals.proposed → SameProposed o (Some q)
same_of o p q is same = subst (λ z. SameProposed z (Some q)) (sym is) same

pub deciding_to : (c : Cluster) (me : ℕ) (told : Delivered) (P : UpNode → Type 0) (x : UpNode) → P x
    → ((q : Presidency) → SameProposed x.presidency (Some q) → P (minded x x.requests (Some q))) → MayTo c me told P x (deciding_course c me x)
deciding_to c me told P x h more = by_presidency x.presidency refl
  where
    by_presidency : (o : Option Presidency) → x.presidency ≡ o → MayTo c me told P x (deciding_by_course c me x o)
    by_presidency None is = h
    by_presidency (Some p) is =
        let t : decisions.Turn = decisions.decision (in_force c x) x.second (is_held_up p) p.groups in
        let q : Presidency = with_turn me p t in
        let same : SameProposed x.presidency (Some q) = same_of x.presidency p q is refl in
        if_either (MayTo c me told P x) (may_order p.groups) (decided_course me x p t) Stops (orders_nothing me t.orders, (same, more q same)) h

-- The steps.

may_send : (x : UpNode) (t : AttemptState) (b : Body) → x.attempt ≡ Some t → FitsBody t b → MayWrite x b
may_send x t (body.Collect p members) e h = subst (OfAttempt (λ a. (p ≡ a.plan.epoch) × (members ≡ a.plan.members))) (sym e) h
may_send x t (body.Install i) e h = subst (OfAttempt (λ a. (a.phase ≡ Installing) × (i ≡ install_in a))) (sym e) h
may_send x t (body.SeizeQuorum p members d) e h = tt
may_send x t (body.SeizeData p members d) e h = tt
may_send x t (body.Start p) e h = absurd h
may_send x t (body.Promise p installed members valid flagged committed pending) e h = absurd h
may_send x t (body.Ready p joined_devices report) e h = absurd h
may_send x t (body.Heartbeat promised session member) e h = absurd h
may_send x t (body.Nack p promised) e h = absurd h
may_send x t (body.Seized p d outcome) e h = absurd h
may_send x t (body.Prepare p place text) e h = absurd h
may_send x t (body.Prepared p place) e h = absurd h
may_send x t (body.Commit p place) e h = absurd h
may_send x t (body.Order o) e h = absurd h
may_send x t (body.Done p number outcome) e h = absurd h
may_send x t (body.Request p number text) e h = absurd h
may_send x t (body.Answer p number text) e h = absurd h
may_send x t (body.Excluded p newest) e h = absurd h

sent_to : (c : Cluster) (me : ℕ) (told : Delivered) (P : UpNode → Type 0) (x : UpNode) (t : AttemptState) (steps : List Step) → AllSent t steps → x.attempt ≡ Some t → P x
    → MayTo c me told P x (steps_course c me x steps)
sent_to c me told P x t [] h e p = p
sent_to c me told P x t (step.Send to m ∷ steps) h e p = (may_send x t m.body e h.0, sent_to c me told P x t steps h.1 e p)
sent_to c me told P x t (step.SeizeHere d kind ∷ steps) h e p = absurd h
sent_to c me told P x t (step.NeedVotes n ∷ steps) h e p = absurd h
sent_to c me told P x t (step.InstallHere i ∷ steps) h e p = absurd h
sent_to c me told P x t (step.StartHere ∷ steps) h e p = absurd h
sent_to c me told P x t (step.Ended end ∷ steps) h e p = absurd h

may_start : (x : UpNode) (p : ℕ) (b : Body) → seats.is_member x.seat ≡ true → p ≡ session_of x → StartsBody p b → MayWrite x b
may_start x p (body.Start e) member session h = (member, h ∙ session)
may_start x p (body.Collect e members) member session h = absurd h
may_start x p (body.Install i) member session h = absurd h
may_start x p (body.SeizeQuorum e members d) member session h = absurd h
may_start x p (body.SeizeData e members d) member session h = absurd h
may_start x p (body.Promise e installed members valid flagged committed pending) member session h = absurd h
may_start x p (body.Ready e joined_devices report) member session h = absurd h
may_start x p (body.Heartbeat promised in_session is_one) member session h = absurd h
may_start x p (body.Nack e promised) member session h = absurd h
may_start x p (body.Seized e d outcome) member session h = absurd h
may_start x p (body.Prepare e place text) member session h = absurd h
may_start x p (body.Prepared e place) member session h = absurd h
may_start x p (body.Commit e place) member session h = absurd h
may_start x p (body.Order o) member session h = absurd h
may_start x p (body.Done e number outcome) member session h = absurd h
may_start x p (body.Request e number text) member session h = absurd h
may_start x p (body.Answer e number text) member session h = absurd h
may_start x p (body.Excluded e newest) member session h = absurd h

start_to : (c : Cluster) (me : ℕ) (told : Delivered) (P : UpNode → Type 0) (x : UpNode) (p : ℕ) (steps : List Step) → AllStart p steps → seats.is_member x.seat ≡ true → p ≡ session_of x → P x
    → MayTo c me told P x (steps_course c me x steps)
start_to c me told P x p [] h member session q = q
start_to c me told P x p (step.Send to m ∷ steps) h member session q = (may_start x p m.body member session h.0, start_to c me told P x p steps h.1 member session q)
start_to c me told P x p (step.SeizeHere d kind ∷ steps) h member session q = absurd h.0
start_to c me told P x p (step.NeedVotes n ∷ steps) h member session q = absurd h.0
start_to c me told P x p (step.InstallHere i ∷ steps) h member session q = absurd h.0
start_to c me told P x p (step.StartHere ∷ steps) h member session q = absurd h.0
start_to c me told P x p (step.Ended end ∷ steps) h member session q = absurd h.0

-- the attempt is under way
abbrev Under : AttemptState → UpNode → Type 0
Under t x = x.attempt ≡ Some t

queued_to : (c : Cluster) (me : ℕ) (told : Delivered) (x : UpNode) (t : AttemptState) (d : ℕ) (kind : SeizeKind) → x.attempt ≡ Some t → MayTo c me told (Under t) x (queued_course d kind x.attempt)
queued_to c me told x t d kind e =
    subst (λ o. MayTo c me told (Under t) x (queued_course d kind o)) (sym e) (e, if_either (Under t) (has t.plan.members me) _ x e e)

excluded_to : (c : Cluster) (me : ℕ) (told : Delivered) (P : UpNode → Type 0) (x : UpNode) (e newest : ℕ) (o : Option ℕ) → P x → MayTo c me told P x (excluded_course me e newest o)
excluded_to c me told P x e newest None p = p
excluded_to c me told P x e newest (Some m) p =
    if_either (MayTo c me told P x) (m == me) (Course_falls (down.Panic (panic.Excluded newest))) (writing m (body.Excluded e newest)) tt (tt, p)

ended_to : (c : Cluster) (me : ℕ) (told : Delivered) (P : UpNode → Type 0) (x : UpNode) (t : AttemptState) (end : AttemptEnd) → ((z : UpNode) → P z) → x.attempt ≡ Some t
    → MayTo c me told P x (ended_course me end x.attempt)
ended_to c me told P x t end p e =
    subst (λ o. MayTo c me told P x (ended_course me end o)) (sym e)
    (tt, excluded_to c me told P (resting x) t.plan.epoch (unwrap_or (newest_installed t) 0) (left_out_by end) (p (resting x)))

pub fit_to : (c : Cluster) (me : ℕ) (told : Delivered) (P : UpNode → Type 0) (x : UpNode) (t : AttemptState) (steps : List Step) → AllFit t steps → x.attempt ≡ Some t → ((z : UpNode) → P z)
    → MayTo c me told P x (steps_course c me x steps)
fit_to c me told P x t [] h e p = p x
fit_to c me told P x t (step.Send to m ∷ steps) h e p = (may_send x t m.body e h.0, fit_to c me told P x t steps h.2 e p)
fit_to c me told P x t (step.SeizeHere d kind ∷ steps) h e p =
    joined_to c me told (Under t) P x (queued_course d kind x.attempt) (λ y. steps_course c me y steps) (queued_to c me told x t d kind e)
    (λ y u. fit_to c me told P y t steps h.2 u p)
fit_to c me told P x t (step.NeedVotes n ∷ steps) h e p = fit_to c me told P x t steps h.2 e p
fit_to c me told P x t (step.InstallHere i ∷ steps) h e p = absurd h.0
fit_to c me told P x t (step.StartHere ∷ steps) h e p = absurd h.0
fit_to c me told P x t (step.Ended end ∷ steps) h e p =
    subst (λ more. MayTo c me told P x (joined c me x (ended_course me end x.attempt) (λ y. steps_course c me y more))) (sym h.1)
    (joined_to c me told P P x (ended_course me end x.attempt) (λ y. Stops) (ended_to c me told P x t end p e) (λ y q. q))

fit_none : (t : AttemptState) (steps : List Step) → AllFit t steps → installs_in steps ≡ None
fit_none t [] h = refl
fit_none t (step.Send to m ∷ steps) h = fit_none t steps h.2
fit_none t (step.SeizeHere d kind ∷ steps) h = fit_none t steps h.2
fit_none t (step.NeedVotes n ∷ steps) h = fit_none t steps h.2
fit_none t (step.InstallHere i ∷ steps) h = absurd h.0
fit_none t (step.StartHere ∷ steps) h = absurd h.0
fit_none t (step.Ended end ∷ steps) h = fit_none t steps h.2

fit_no_install : (t : AttemptState) (steps : List Step) → AllFit t steps → begins_install steps ≡ false
fit_no_install t [] h = refl
fit_no_install t (step.Send to m ∷ steps) h = refl
fit_no_install t (step.SeizeHere d kind ∷ steps) h = refl
fit_no_install t (step.NeedVotes n ∷ steps) h = refl
fit_no_install t (step.InstallHere i ∷ steps) h = absurd h.0
fit_no_install t (step.StartHere ∷ steps) h = refl
fit_no_install t (step.Ended end ∷ steps) h = refl

-- The call.

install_is_now : (e session installed : ℕ) → 0 < e → session ≡ e → installed < e → (nat_le 1 e && (session == e) && not (installed == e)) ≡ true
install_is_now e session installed low is below = grind arith

start_is_now : (e session installed : ℕ) → 0 < e → session ≡ e → installed ≡ e → (nat_le 1 e && (session == e) && (installed == e)) ≡ true
start_is_now e session installed low is at = grind arith

true_false : true ≡ false → ⊥
true_false h = cc

entries_same : (committed : List (List ℕ)) (o : Option (List ℕ)) → is_some o ≡ false
    → (let left : EntryList = record { committed = committed ++ listed o; pending = None } in let right : EntryList = record { committed = committed; pending = o } in left ≡ right)
entries_same committed None h = ap (λ texts. record { committed = texts; pending = None }) (append-nil committed)
entries_same committed (Some text) h = absurd (true_false h)

-- a start leaves a record with nothing pending as it is
pub started_same : (s : NodeState) → is_some s.saved.entries.pending ≡ false → (started s).saved ≡ s.saved
started_same s h =
    ap (λ e. record { promised = s.saved.promised; installed = s.saved.installed; members = s.saved.members; valid = s.saved.valid; entries = e })
    (entries_same s.saved.entries.committed s.saved.entries.pending h)

not_before : (phase : Phase) → phase ≡ Installing → IsBefore phase → ⊥
not_before phase is h = subst IsBefore is h

installed_facts : (s : NodeState) (a t : AttemptState) (i : Install) → AttemptFacts s a → t.plan ≡ a.plan → IsReached t → t.phase ≡ Installing → i.epoch ≡ t.plan.epoch
    → AttemptFacts (installed_with s i) t
installed_facts s a t i f plan reached phase number = record {
  epoch = ap (λ p. p.epoch) plan ∙ f.epoch;
  some = subst (λ p. 0 < p.epoch) (sym plan) f.some;
  reached = reached;
  before = λ h. absurd (not_before t.phase phase h);
  installed = λ is. number;
}

-- what follows a call: where it begins with an install, the node has installed the attempt
turned_by_to : (c : Cluster) (me : ℕ) (told : Delivered) (P : UpNode → Type 0) (x : UpNode) (a : AttemptState) (k : Call) (s : NodeState) (steps : List Step)
    → x.attempt ≡ Some a → x.seat ≡ Forming s → AttemptFacts s a → MayCall c told a k → (begins_install (turn a k).steps ≡ false → (z : UpNode) → P z)
    → ((z : UpNode) (s' : NodeState) → z.seat ≡ Forming s' → z.attempt ≡ Some (turn a k).after → AttemptFacts s' (turn a k).after → P z)
    → (turn a k).steps ≡ steps → FitsTurn (turn a k).after steps → MayTo c me told P x (turned_by c me x a k steps)
turned_by_to c me told P x a k s steps attempt seat f call other so_installed = by_steps steps
  where
    t : AttemptState
    t = (turn a k).after

    may : May a k
    may = may_be_called c told a k call

    plan : t.plan ≡ a.plan
    plan = plan_stays a k may

    number : t.plan.epoch ≡ a.plan.epoch
    number = ap (λ p. p.epoch) plan

    -- neither an install nor a start comes first
    gone : (plain : List Step) → (turn a k).steps ≡ plain → AllFit t plain → MayTo c me told P x (gone_on c me x a k plain)
    gone plain is fits = (
      (attempt, call, ap installs_in is ∙ fit_none t plain fits),
      fit_to c me told P (going x a k) t plain fits refl (other (ap begins_install is ∙ fit_no_install t plain fits)),
    )

    installs : (i : Install) (rest : List Step) → (turn a k).steps ≡ step.InstallHere i ∷ rest → AllSent t rest → MayTo c me told P x (counted c me x a k i rest x.seat)
    installs i rest is fits =
        let given : installs_in (turn a k).steps ≡ Some i = ap installs_in is in
        let here : (t.phase ≡ Installing) × (i ≡ install_in t) = (goes_by_call a k may (chosen_reached a f.reached)).install i given in
        let epoch : i.epoch ≡ t.plan.epoch = ap (λ z. z.epoch) here.1 ∙ install_epoch t in
        let at : i.epoch ≡ a.plan.epoch = epoch ∙ number in
        let now : installs_now s i ≡ true =
        install_is_now i.epoch s.session s.saved.installed (subst (λ q. 0 < q) (sym at) f.some) (sym f.epoch ∙ sym at)
        (subst (λ q. s.saved.installed < q) (sym at) (f.before (installs_come_before a k i f.reached may given))) in
        subst (λ z. MayTo c me told P x (counted c me x a k i rest z)) (sym seat)
        (if_with (MayTo c me told P x) (installs_now s i) (installs_now s i) (Keeps (Counts a k s i) (steps_course c me (changed c me x (Counts a k s i)) rest)) (gone_on c me x a k rest) refl
        (λ e. (
          (attempt, seat, call, given),
          sent_to c me told P (changed c me x (Counts a k s i)) t rest fits refl
              (so_installed (changed c me x (Counts a k s i)) (installed_with s i) refl refl (installed_facts s a t i f plan (reached_more a k may f.reached) here.0 epoch)),
        ))
        (λ e. absurd (true_false (sym now ∙ e))))

    begins : (rest : List Step) → (turn a k).steps ≡ step.StartHere ∷ rest → AllStart t.plan.epoch rest → MayTo c me told P x (started_course c me x a k rest x.seat)
    begins rest is fits =
        let given : starts_in (turn a k).steps ≡ true = ap starts_in is in
        let installed_so : s.saved.installed ≡ a.plan.epoch = f.installed (starts_follow a k f.reached may given) in
        let y : UpNode = changed c me x (Starts a k s) in
        let session : t.plan.epoch ≡ session_of y = number ∙ f.epoch in
        let now : starts_now s t.plan.epoch ≡ true =
        start_is_now t.plan.epoch s.session s.saved.installed (subst (λ q. 0 < q) (sym number) f.some) (sym session) (installed_so ∙ sym number) in
        let ends : MayTo c me told P y (steps_course c me y rest) = start_to c me told P y t.plan.epoch rest fits refl session (other (ap begins_install is) y) in
        let pending : Bool = is_some s.saved.entries.pending in
        subst (λ z. MayTo c me told P x (started_course c me x a k rest z)) (sym seat)
        (if_with (MayTo c me told P x) (starts_now s t.plan.epoch) (starts_now s t.plan.epoch) (kept_if pending (Starts a k s) (steps_course c me y rest)) (gone_on c me x a k rest) refl
        (λ e. if_with (MayTo c me told P x) pending pending (Keeps (Starts a k s) (steps_course c me y rest)) (Acts (Makes (Starts a k s)) (steps_course c me y rest)) refl
        (λ p. ((attempt, seat, call, given), ends))
        (λ p. (((attempt, seat, call, given), started_same s p ∙ ap (λ z. (state_of z).saved) (sym seat)), ends)))
        (λ e. absurd (true_false (sym now ∙ e))))

    by_steps : (all : List Step) → (turn a k).steps ≡ all → FitsTurn t all → MayTo c me told P x (turned_by c me x a k all)
    by_steps [] is fits = gone [] is tt
    by_steps (step.InstallHere i ∷ rest) is fits = installs i rest is fits
    by_steps (step.StartHere ∷ rest) is fits = begins rest is fits
    by_steps (step.Send to m ∷ rest) is fits = gone (step.Send to m ∷ rest) is fits
    by_steps (step.SeizeHere d kind ∷ rest) is fits = gone (step.SeizeHere d kind ∷ rest) is fits
    by_steps (step.NeedVotes n ∷ rest) is fits = gone (step.NeedVotes n ∷ rest) is fits
    by_steps (step.Ended end ∷ rest) is fits = gone (step.Ended end ∷ rest) is fits

pub turned_to : (c : Cluster) (me : ℕ) (told : Delivered) (P : UpNode → Type 0) (x : UpNode) (a : AttemptState) (k : Call) (s : NodeState)
    → x.attempt ≡ Some a → x.seat ≡ Forming s → AttemptFacts s a → MayCall c told a k → (begins_install (turn a k).steps ≡ false → (z : UpNode) → P z)
    → ((z : UpNode) (s' : NodeState) → z.seat ≡ Forming s' → z.attempt ≡ Some (turn a k).after → AttemptFacts s' (turn a k).after → P z)
    → MayTo c me told P x (turned c me x a k)
turned_to c me told P x a k s attempt seat f call other so_installed =
    turned_by_to c me told P x a k s (turn a k).steps attempt seat f call other so_installed refl (turn_fits a k)

-- .. and where it has started, the president decides
turned_all_to : (c : Cluster) (me : ℕ) (told : Delivered) (P : UpNode → Type 0) (x : UpNode) (a : AttemptState) (k : Call) (s : NodeState)
    → x.attempt ≡ Some a → x.seat ≡ Forming s → AttemptFacts s a → MayCall c told a k → (begins_install (turn a k).steps ≡ false → (z : UpNode) → P z)
    → ((z : UpNode) (s' : NodeState) → z.seat ≡ Forming s' → z.attempt ≡ Some (turn a k).after → AttemptFacts s' (turn a k).after → P z)
    → MayTo c me told P x (turned_all c me x a k)
turned_all_to c me told P x a k s attempt seat f call other so_installed =
    joined_to c me told Next P x (turned c me x a k) (if_started c me steps)
    (turned_to c me told Next x a k s attempt seat f call (λ none z. decides z (other none z) (λ q. other none (minded z z.requests (Some q))))
    (λ z s' e g h. decides z (so_installed z s' e g h) (λ q. so_installed (minded z z.requests (Some q)) s' e g h)))
    (λ y h. h)
  where
    steps : List Step
    steps = (turn a k).steps

    Next : UpNode → Type 0
    Next z = MayTo c me told P z (if_started c me steps z)

    decides : (z : UpNode) → P z → ((q : Presidency) → P (minded z z.requests (Some q))) → Next z
    decides z h more = if_either (MayTo c me told P z) (starts_in steps) (deciding_course c me z) Stops (deciding_to c me told P z h (λ q same. more q)) h

-- the own part of an attempt that is installed
pub readied_to : (c : Cluster) (me : ℕ) (told : Delivered) (x : UpNode) (a : AttemptState) (s : NodeState) → x.attempt ≡ Some a → x.seat ≡ Forming s → AttemptFacts s a
    → MayTo c me told Any x (own_ready_course c me x)
readied_to c me told x a s attempt seat f =
    if_either (MayTo c me told Any x) (joins x.tasks) Stops (readied_course c me x x.attempt) tt
    (subst (λ o. MayTo c me told Any x (readied_course c me x o)) (sym attempt)
    (turned_all_to c me told Any x a Own_ready s attempt seat f tt (λ h z. tt) (λ z s' e g h. tt)))

pub called_to : (c : Cluster) (me : ℕ) (told : Delivered) (x : UpNode) (a : AttemptState) (k : Call) (s : NodeState) → x.attempt ≡ Some a → x.seat ≡ Forming s → AttemptFacts s a → MayCall c told a k
    → MayTo c me told Any x (called c me x a k)
called_to c me told x a k s attempt seat f call =
    let steps : List Step = (turn a k).steps in
    joined_to c me told (λ y. MayTo c me told Any y (if_installed c me steps y)) Any x (turned_all c me x a k) (if_installed c me steps)
    (turned_all_to c me told (λ y. MayTo c me told Any y (if_installed c me steps y)) x a k s attempt seat f call
    (λ none z. subst (λ b. MayTo c me told Any z (if b then own_ready_course c me z else Stops)) (sym none) tt)
    (λ z s' e g h. if_either (MayTo c me told Any z) (begins_install steps) (own_ready_course c me z) Stops (readied_to c me told z (turn a k).after s' g e h) tt))
    (λ y h. h)

-- The votes are given at once.

pub choosing_is : (phase : Phase) → is_choosing phase ≡ true → phase ≡ Choosing
choosing_is Choosing h = refl
choosing_is Collecting h = absurd (false_true h)
choosing_is SeizingVotes h = absurd (false_true h)
choosing_is SeizingOthers h = absurd (false_true h)
choosing_is Installing h = absurd (false_true h)
choosing_is Over h = absurd (false_true h)

abbrev IsChoosing : Phase → Type 0
IsChoosing Choosing = Unit {0}
IsChoosing Collecting = ⊥
IsChoosing SeizingVotes = ⊥
IsChoosing SeizingOthers = ⊥
IsChoosing Installing = ⊥
IsChoosing Over = ⊥

not_choosing : (phase other : Phase) → phase ≡ Choosing → phase ≡ other → (IsChoosing other → ⊥) → ⊥
not_choosing phase other h is not_so = not_so (subst IsChoosing (sym h ∙ is) tt)

before_choosing : (a : AttemptState) (k : Call) (phase : Phase) → a.phase ≡ phase → May a k → (turn a k).after.phase ≡ Choosing → IsBefore phase
before_choosing a k Collecting is may h = tt
before_choosing a k Choosing is may h = tt
before_choosing a k SeizingVotes is may h = tt
before_choosing a k SeizingOthers is may h = tt
before_choosing a k Installing is may h = absurd (by_final (final_stays a k may is))
  where
    by_final : ((turn a k).after.phase ≡ Installing) ⊎ ((turn a k).after.phase ≡ Over) → ⊥
    by_final (inl e) = not_choosing (turn a k).after.phase Installing h e (λ z. z)
    by_final (inr e) = not_choosing (turn a k).after.phase Over h e (λ z. z)
before_choosing a k Over is may h =
    absurd (not_choosing (turn a k).after.phase Over h (ap (λ (t : Turn). t.after.phase) (ends_once a k is may) ∙ is) (λ z. z))

none_choosing : (a : AttemptState) (k : Call) (o : Option Install) → IsReached a → May a k → (turn a k).after.phase ≡ Choosing → installs_in (turn a k).steps ≡ o → installs_in (turn a k).steps ≡ None
none_choosing a k None reached may h is = is
none_choosing a k (Some i) reached may h is =
    absurd (not_choosing (turn a k).after.phase Installing h ((goes_by_call a k may (chosen_reached a reached)).install i is).0 (λ z. z))

choosing_facts : (s : NodeState) (a : AttemptState) (k : Call) → AttemptFacts s a → May a k → (turn a k).after.phase ≡ Choosing → AttemptFacts s (turn a k).after
choosing_facts s a k f may h =
    let plan : (turn a k).after.plan ≡ a.plan = plan_stays a k may in
    record {
      epoch = ap (λ p. p.epoch) plan ∙ f.epoch;
      some = subst (λ p. 0 < p.epoch) (sym plan) f.some;
      reached = reached_more a k may f.reached;
      before = λ b. subst (λ p. s.saved.installed < p.epoch) (sym plan) (f.before (before_choosing a k a.phase refl may h));
      installed = λ is. absurd (not_choosing (turn a k).after.phase Installing h is (λ z. z));
    }

pub going_to : (c : Cluster) (me : ℕ) (told : Delivered) (x : UpNode) (a : AttemptState) (k : Call) (s : NodeState) → x.attempt ≡ Some a → x.seat ≡ Forming s → AttemptFacts s a → MayCall c told a k
    → MayTo c me told Any x (going_course c me x a k)
going_to c me told x a k s attempt seat f call =
    let t : AttemptState = (turn a k).after in
    let may : May a k = may_be_called c told a k call in
    if_with (MayTo c me told Any x) (is_choosing t.phase) (is_choosing t.phase)
    (Acts (Goes_on a k) (called c me (going x a k) t (With_votes (votes_in c t)))) (called c me x a k) refl
    (λ e.
    let h : t.phase ≡ Choosing = choosing_is t.phase e in (
      (attempt, call, none_choosing a k (installs_in (turn a k).steps) f.reached may h refl),
      called_to c me told (going x a k) t (With_votes (votes_in c t)) s refl seat (choosing_facts s a k f may h) (refl, h),
    ))
    (λ e. called_to c me told x a k s attempt seat f call)
