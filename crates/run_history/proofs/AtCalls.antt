-- What a node does by a call on its attempt may be done at devices.
use Rattle.std.specs.Prelude.{ℕ, ◌≡◌, ◌==◌, Bool, List, [], ◌∷◌, Option, None, Some, is_some}
use Rattle.std.proofs.Common.{refl, sym, subst, inl, inr}
use Rattle.std.specs.Option.{unwrap_or}
use Rattle.attempt_laws.specs.Staying.{IsBefore}
use Rattle.cl_base.specs.Sets.{has}
use Rattle.cl_base.specs.declared.panic.Panic.TheVariants as panic
use Rattle.cmm_attempt.proofs.Basics.{if_either}
use Rattle.cmm_attempt.specs.Attempts.{AttemptState, Turn, newest_installed}
use Rattle.cmm_attempt.specs.Calls.{Call, Own_ready, With_votes, starts_in, turn}
use Rattle.cmm_attempt.specs.declared.phase.Phase.{Phase}
use Rattle.cmm_attempt.specs.declared.phase.Phase.TheVariants.{Choosing, Collecting, Installing, Over, SeizingOthers, SeizingVotes}
use Rattle.cmm_attempt.specs.declared.step.AttemptEnd.{AttemptEnd}
use Rattle.cmm_attempt.specs.declared.step.Step.{Step}
use Rattle.cmm_attempt.specs.declared.step.Step.TheVariants as step
use Rattle.device_queue.specs.Queue.{joins}
use Rattle.node_model.specs.Attempts.{begins_install, installs_now, is_choosing, left_out_by, resting, starts_now, votes_in}
use Rattle.node_model.specs.declared.cluster.Cluster.{Cluster}
use Rattle.node_model.specs.declared.node.UpNode.{UpNode}
use Rattle.node_model.specs.declared.seat.Seat.{Seat}
use Rattle.node_model.specs.declared.seat.Seat.TheVariants.{Forming, Member}
use Rattle.refinement.proofs.Fits.{AllFit, FitsBody, FitsTurn, turn_fits}
use Rattle.refinement.specs.Courses.{Course, joined}
use Rattle.refinement.specs.Courses.Course.{Acts, Falls, Keeps, Stops}
use Rattle.refinement.specs.Cuts as cuts
use Rattle.refinement.specs.Cuts.{called, counted, ended_course, excluded_course, going_course, gone_on, if_installed, if_started, kept_if, own_ready_course, queued_course, readied_course, started, steps_course, turned, turned_all, turned_by, writing}
use Rattle.refinement.specs.Doings.{acted, changed, going}
use Rattle.refinement.specs.Doings.Act.{Goes_on, Makes}
use Rattle.refinement.specs.Doings.Change.{Counts, Starts}
use Rattle.refinement.specs.Ties.{Delivered}
use Rattle.seize.specs.declared.kind.SeizeKind.{SeizeKind}
use Rattle.status_report.specs.declared.node_entry.DownCause.TheVariants as down
use Rattle.wire.specs.declared.message.Body.{Body}
use Rattle.wire.specs.declared.message.Body.TheVariants as body
use Rattle.wire.specs.declared.message.Install.{Install}
use Rattle.wire.specs.declared.message.Message.{Message}
use Rattle.run_history.specs.Guards.{AtCall, AtTo, AtWrite, Hand, InHand, IsStep, SendsSo, hand_by}
use Rattle.run_history.proofs.Asking.{AfterInstall, AsksIn, AsksNone, after_install, asks_in, starts_none, steps_quiet}
use Rattle.run_history.proofs.QuietCourses.{deciding, quiet_to}

abbrev pub Any : Hand → UpNode → Type 0
Any h x = Unit {0}

pub joined_to : (c : Cluster) (me : ℕ) (told : Delivered) (P Q : Hand → UpNode → Type 0) (h : Hand) (x : UpNode) (k : Course) (next : UpNode → Course) → AtTo c me told P h x k
    → ((g : Hand) (y : UpNode) → P g y → AtTo c me told Q g y (next y)) → AtTo c me told Q h x (joined c me x k next)
joined_to c me told P Q h x Stops next p f = f h x p
joined_to c me told P Q h x (Acts a rest) next p f = (p.0, joined_to c me told P Q (hand_by h a) (acted c me x a) rest next p.1 f)
joined_to c me told P Q h x (Keeps change rest) next p f = (p.0, joined_to c me told P Q h (changed c me x change) rest next p.1 f)
joined_to c me told P Q h x (Falls why) next p f = tt

-- The steps of a turn that is in hand, while the attempt is that of the turn, or over.

abbrev AttemptIn : Turn → Option AttemptState → Type 0
AttemptIn u None = Unit {0}
AttemptIn u (Some a) = u.after ≡ a

abbrev InTurn : Turn → Hand → UpNode → Type 0
InTurn u h x = (h ≡ Some u) × AttemptIn u x.attempt

at_send : (told : Delivered) (h : Hand) (x : UpNode) (u : Turn) (t : AttemptState) (to : ℕ) (m : Message) (b : Body) → m.body ≡ b → h ≡ Some u → FitsBody t b → IsStep (step.Send to m) u.steps
    → AtWrite told h x to b
at_send told h x u t to m (body.SeizeQuorum e members d) is hand fits among =
    subst (InHand (λ v. SendsSo v.steps to (body.SeizeQuorum e members d))) (sym hand) (record { message = m; body_so = is; step_so = among })
at_send told h x u t to m (body.SeizeData e members d) is hand fits among =
    subst (InHand (λ v. SendsSo v.steps to (body.SeizeData e members d))) (sym hand) (record { message = m; body_so = is; step_so = among })
at_send told h x u t to m (body.Seized e d r) is hand fits among = absurd fits
at_send told h x u t to m _ is hand fits among = tt

queued_to : (c : Cluster) (me : ℕ) (told : Delivered) (h : Hand) (x : UpNode) (u : Turn) (d : ℕ) (kind : SeizeKind) (o : Option AttemptState) → x.attempt ≡ o → h ≡ Some u → AttemptIn u o
    → IsBefore u.after.phase → IsStep (step.SeizeHere d kind) u.steps → AtTo c me told (InTurn u) h x (queued_course d kind o)
queued_to c me told h x u d kind None is hand own before among = (hand, subst (AttemptIn u) (sym is) own)
queued_to c me told h x u d kind (Some a) is hand own before among = (
  subst (InHand (λ v. (v.after ≡ a) × IsBefore a.phase × IsStep (step.SeizeHere d kind) v.steps)) (sym hand) (own, subst (λ (t : AttemptState). IsBefore t.phase) own before, among),
  (hand, if_either (λ (y : UpNode). AttemptIn u y.attempt) (has a.plan.members me) _ x (subst (AttemptIn u) (sym is) own) (subst (AttemptIn u) (sym is) own)),
)

excluded_to : (c : Cluster) (me : ℕ) (told : Delivered) (P : Hand → UpNode → Type 0) (h : Hand) (x : UpNode) (e newest : ℕ) (o : Option ℕ) → P h x → AtTo c me told P h x (excluded_course me e newest o)
excluded_to c me told P h x e newest None p = p
excluded_to c me told P h x e newest (Some m) p =
    if_either (AtTo c me told P h x) (m == me) (Falls (down.Panic (panic.Excluded newest))) (writing m (body.Excluded e newest)) tt (tt, p)

ended_to : (c : Cluster) (me : ℕ) (told : Delivered) (h : Hand) (x : UpNode) (u : Turn) (e : AttemptEnd) (o : Option AttemptState) → x.attempt ≡ o → h ≡ Some u → AttemptIn u o
    → AtTo c me told (InTurn u) h x (ended_course me e o)
ended_to c me told h x u e None is hand own = (hand, subst (AttemptIn u) (sym is) own)
ended_to c me told h x u e (Some a) is hand own =
    (tt, excluded_to c me told (InTurn u) h (resting x) a.plan.epoch (unwrap_or (newest_installed a) 0) (left_out_by e) (hand, tt))

steps_to : (c : Cluster) (me : ℕ) (told : Delivered) (h : Hand) (x : UpNode) (u : Turn) (t : AttemptState) (steps : List Step) → AllFit t steps
    → ((s : Step) → IsStep s steps → IsStep s u.steps) → ((d : ℕ) (kind : SeizeKind) → IsStep (step.SeizeHere d kind) u.steps → IsBefore u.after.phase) → InTurn u h x
    → AtTo c me told Any h x (steps_course c me x steps)
steps_to c me told h x u t [] fits among before p = tt
steps_to c me told h x u t (step.Send to m ∷ steps) fits among before p =
    (at_send told h x u t to m m.body refl p.0 fits.0 (among (step.Send to m) (inl refl)), steps_to c me told h x u t steps fits.2 (λ s i. among s (inr i)) before p)
steps_to c me told h x u t (step.SeizeHere d kind ∷ steps) fits among before p =
    joined_to c me told (InTurn u) Any h x (queued_course d kind x.attempt) (λ y. steps_course c me y steps)
    (queued_to c me told h x u d kind x.attempt refl p.0 p.1 (before d kind (among (step.SeizeHere d kind) (inl refl))) (among (step.SeizeHere d kind) (inl refl)))
    (λ g y q. steps_to c me told g y u t steps fits.2 (λ s i. among s (inr i)) before q)
steps_to c me told h x u t (step.NeedVotes n ∷ steps) fits among before p = steps_to c me told h x u t steps fits.2 (λ s i. among s (inr i)) before p
steps_to c me told h x u t (step.InstallHere i ∷ steps) fits among before p = absurd fits.0
steps_to c me told h x u t (step.StartHere ∷ steps) fits among before p = absurd fits.0
steps_to c me told h x u t (step.Ended e ∷ steps) fits among before p =
    joined_to c me told (InTurn u) Any h x (ended_course me e x.attempt) (λ y. steps_course c me y steps) (ended_to c me told h x u e x.attempt refl p.0 p.1)
    (λ g y q. steps_to c me told g y u t steps fits.2 (λ s i. among s (inr i)) before q)

-- A request is among the steps only before the attempt installs.

none_asked : (d : ℕ) (kind : SeizeKind) (steps : List Step) → AsksNone steps → IsStep (step.SeizeHere d kind) steps → ⊥
none_asked d kind [] none h = absurd h
none_asked d kind (s ∷ steps) none (inl is) = subst (λ z. AsksNone (z ∷ steps)) is none
none_asked d kind (step.Send to m ∷ steps) none (inr h) = none_asked d kind steps none.1 h
none_asked d kind (step.SeizeHere e other ∷ steps) none (inr h) = none
none_asked d kind (step.NeedVotes n ∷ steps) none (inr h) = none_asked d kind steps none h
none_asked d kind (step.InstallHere i ∷ steps) none (inr h) = none_asked d kind steps none h
none_asked d kind (step.StartHere ∷ steps) none (inr h) = none_asked d kind steps none h
none_asked d kind (step.Ended e ∷ steps) none (inr h) = none_asked d kind steps none h

asks_before : (d : ℕ) (kind : SeizeKind) (phase : Phase) (steps : List Step) → AsksIn phase steps → IsStep (step.SeizeHere d kind) steps → IsBefore phase
asks_before d kind Collecting steps asks h = tt
asks_before d kind Choosing steps asks h = tt
asks_before d kind SeizingVotes steps asks h = tt
asks_before d kind SeizingOthers steps asks h = tt
asks_before d kind Installing steps asks h = none_asked d kind steps asks h
asks_before d kind Over steps asks h = none_asked d kind steps asks h

-- The call.

turned_by_to : (c : Cluster) (me : ℕ) (told : Delivered) (h : Hand) (x : UpNode) (a : AttemptState) (k : Call) (steps : List Step) → AtCall x k → (turn a k).steps ≡ steps
    → FitsTurn (turn a k).after steps → AtTo c me told Any h x (turned_by c me x a k steps)
turned_by_to c me told h x a k steps call = by_steps steps
  where
    t : AttemptState
    t = (turn a k).after

    before : (d : ℕ) (kind : SeizeKind) → IsStep (step.SeizeHere d kind) (turn a k).steps → IsBefore t.phase
    before d kind i = asks_before d kind t.phase (turn a k).steps (asks_in a k) i

    -- neither an install nor a start comes first
    gone : (plain : List Step) → (turn a k).steps ≡ plain → AllFit t plain → AtTo c me told Any h x (gone_on c me x a k plain)
    gone plain is fits = (call, steps_to c me told (Some (turn a k)) (going x a k) (turn a k) t plain fits (λ s i. subst (IsStep s) (sym is) i) before (refl, refl))

    quiet : (g : Hand) (y : UpNode) (rest : List Step) → AsksNone rest → AtTo c me told Any g y (steps_course c me y rest)
    quiet g y rest none = quiet_to c me told Any g y (steps_course c me y rest) (steps_quiet c me y rest none) (λ z w. tt)

    installs : (i : Install) (rest : List Step) (seat : Seat) → AsksNone rest → AtTo c me told Any h x (counted c me x a k i rest seat)
    installs i rest (Member s) none = (call, quiet (Some (turn a k)) (going x a k) rest none)
    installs i rest (Forming s) none =
        let y : UpNode = changed c me x (Counts a k s i) in
        if_either (AtTo c me told Any h x) (installs_now s i) (Keeps (Counts a k s i) (steps_course c me y rest)) (gone_on c me x a k rest)
        (call, quiet h y rest none) (call, quiet (Some (turn a k)) (going x a k) rest none)

    begins : (rest : List Step) (seat : Seat) → AsksNone rest → AtTo c me told Any h x (started c me x a k rest seat)
    begins rest (Member s) none = (call, quiet (Some (turn a k)) (going x a k) rest none)
    begins rest (Forming s) none =
        let y : UpNode = changed c me x (Starts a k s) in
        let pending : Bool = is_some s.saved.entries.pending in
        if_either (AtTo c me told Any h x) (starts_now s t.plan.epoch) (kept_if pending (Starts a k s) (steps_course c me y rest)) (gone_on c me x a k rest)
        (if_either (AtTo c me told Any h x) pending (Keeps (Starts a k s) (steps_course c me y rest)) (Acts (Makes (Starts a k s)) (steps_course c me y rest))
        (tt, quiet h y rest none) (tt, quiet h y rest none))
        (call, quiet (Some (turn a k)) (going x a k) rest none)

    by_steps : (all : List Step) → (turn a k).steps ≡ all → FitsTurn t all → AtTo c me told Any h x (turned_by c me x a k all)
    by_steps [] is fits = gone [] is tt
    by_steps (step.InstallHere i ∷ rest) is fits = installs i rest x.seat (subst AfterInstall is (after_install a k))
    by_steps (step.StartHere ∷ rest) is fits = begins rest x.seat (starts_none t.plan.epoch rest fits)
    by_steps (step.Send to m ∷ rest) is fits = gone (step.Send to m ∷ rest) is fits
    by_steps (step.SeizeHere d kind ∷ rest) is fits = gone (step.SeizeHere d kind ∷ rest) is fits
    by_steps (step.NeedVotes n ∷ rest) is fits = gone (step.NeedVotes n ∷ rest) is fits
    by_steps (step.Ended e ∷ rest) is fits = gone (step.Ended e ∷ rest) is fits

turned_to : (c : Cluster) (me : ℕ) (told : Delivered) (h : Hand) (x : UpNode) (a : AttemptState) (k : Call) → AtCall x k → AtTo c me told Any h x (turned c me x a k)
turned_to c me told h x a k call = turned_by_to c me told h x a k (turn a k).steps call refl (turn_fits a k)

turned_all_to : (c : Cluster) (me : ℕ) (told : Delivered) (h : Hand) (x : UpNode) (a : AttemptState) (k : Call) → AtCall x k → AtTo c me told Any h x (turned_all c me x a k)
turned_all_to c me told h x a k call =
    joined_to c me told Any Any h x (turned c me x a k) (if_started c me (turn a k).steps) (turned_to c me told h x a k call)
    (λ g y p. if_either (AtTo c me told Any g y) (starts_in (turn a k).steps) (cuts.deciding_course c me y) Stops
    (quiet_to c me told Any g y (cuts.deciding_course c me y) (deciding c me y) (λ z w. tt)) tt)

readied_to : (c : Cluster) (me : ℕ) (told : Delivered) (h : Hand) (x : UpNode) (o : Option AttemptState) → AtTo c me told Any h x (readied_course c me x o)
readied_to c me told h x None = tt
readied_to c me told h x (Some a) = turned_all_to c me told h x a Own_ready tt

pub own_ready_to : (c : Cluster) (me : ℕ) (told : Delivered) (h : Hand) (x : UpNode) → AtTo c me told Any h x (own_ready_course c me x)
own_ready_to c me told h x = if_either (AtTo c me told Any h x) (joins x.tasks) Stops (readied_course c me x x.attempt) tt (readied_to c me told h x x.attempt)

pub called_to : (c : Cluster) (me : ℕ) (told : Delivered) (h : Hand) (x : UpNode) (a : AttemptState) (k : Call) → AtCall x k → AtTo c me told Any h x (called c me x a k)
called_to c me told h x a k call =
    joined_to c me told Any Any h x (turned_all c me x a k) (if_installed c me (turn a k).steps) (turned_all_to c me told h x a k call)
    (λ g y p. if_either (AtTo c me told Any g y) (begins_install (turn a k).steps) (own_ready_course c me y) Stops (own_ready_to c me told g y) tt)

pub going_to : (c : Cluster) (me : ℕ) (told : Delivered) (h : Hand) (x : UpNode) (a : AttemptState) (k : Call) → AtCall x k → AtTo c me told Any h x (going_course c me x a k)
going_to c me told h x a k call =
    let t : AttemptState = (turn a k).after in
    if_either (AtTo c me told Any h x) (is_choosing t.phase) (Acts (Goes_on a k) (called c me (going x a k) t (With_votes (votes_in c t)))) (called c me x a k)
    (call, called_to c me told (Some (turn a k)) (going x a k) t (With_votes (votes_in c t)) tt) (called_to c me told h x a k call)
