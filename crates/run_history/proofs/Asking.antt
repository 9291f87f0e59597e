-- When an attempt asks: never by the steps of a call after which it installs or is over, and not at its beginning.
use Rattle.std.specs.Prelude.{ℕ, ◌==◌, List, [], ◌∷◌, Option, None, Some, map}
use Rattle.std.proofs.Common.{sym, subst, inl, inr}
use Rattle.std.specs.List.{cons_option, filter_map}
use Rattle.std.specs.Option.{unwrap_or}
use Rattle.attempt_laws.proofs.Walk.{IsSeizing, Walk, walks}
use Rattle.cl_base.specs.declared.panic.Panic.TheVariants as panic
use Rattle.cmm_attempt.proofs.Basics.{if_either}
use Rattle.cmm_attempt.specs.Attempts.{AttemptState, Turn, again_in, all_promised, asked_next, beginning, begun, choosing, chosen_by, collects, first_state, in_phase, install_in, installing, later, newest_installed, plain_devices, promises_of, silent_others, with_steps}
use Rattle.cmm_attempt.specs.Calls.{Call, turn}
use Rattle.cmm_attempt.specs.Installs.{send_collect, send_install, send_start}
use Rattle.cmm_attempt.specs.Plans.{others_of}
use Rattle.cmm_attempt.specs.Promises.{newest_shown, promised_by, shown_by}
use Rattle.cmm_attempt.specs.Seizings.{again_by, again_for, held_set, request, request_body, request_by, request_for}
use Rattle.cl_base.specs.Seizings.{SeizeResult}
use Rattle.cmm_attempt.specs.declared.attached.AttachedDevice.{AttachedDevice}
use Rattle.cmm_attempt.specs.declared.phase.Phase.{Phase}
use Rattle.cmm_attempt.specs.declared.phase.Phase.TheVariants.{Choosing, Collecting, Installing, Over, SeizingOthers, SeizingVotes}
use Rattle.cmm_attempt.specs.declared.plan.Plan.{Plan}
use Rattle.cmm_attempt.specs.declared.promised.Shown.{Shown}
use Rattle.cmm_attempt.specs.declared.seizing.Seizing.{Seizing}
use Rattle.seize.specs.declared.kind.SeizeKind.{SeizeKind}
use Rattle.cmm_attempt.specs.declared.step.AttemptEnd.{AttemptEnd}
use Rattle.cmm_attempt.specs.declared.step.Step.{Step}
use Rattle.cmm_attempt.specs.declared.step.Step.TheVariants.{Ended, InstallHere, NeedVotes, SeizeHere, Send, StartHere}
use Rattle.node_model.specs.Attempts.{left_out_by}
use Rattle.node_model.specs.declared.cluster.Cluster.{Cluster}
use Rattle.node_model.specs.declared.node.UpNode.{UpNode}
use Rattle.refinement.proofs.Fits.{AllStart, StartsBody}
use Rattle.refinement.specs.Courses.Course.{Falls}
use Rattle.refinement.specs.Cuts.{ended_course, excluded_course, steps_course, writing}
use Rattle.status_report.specs.declared.node_entry.DownCause.TheVariants as down
use Rattle.wire.specs.declared.message.Body.{Body}
use Rattle.wire.specs.declared.message.Body.TheVariants as body
use Rattle.wire.specs.declared.message.Install.{Install}
use Rattle.wire.specs.declared.message.Message.{Message}
use Rattle.run_history.proofs.QuietCourses.{IsQuietBody, Quiet, quiet_joined}

-- no request to seize is among the steps
abbrev pub AsksNone : List Step → Type 0
AsksNone [] = Unit {0}
AsksNone (Send to m ∷ steps) = IsQuietBody m.body × AsksNone steps
AsksNone (SeizeHere d kind ∷ steps) = ⊥
AsksNone (NeedVotes n ∷ steps) = AsksNone steps
AsksNone (InstallHere i ∷ steps) = AsksNone steps
AsksNone (StartHere ∷ steps) = AsksNone steps
AsksNone (Ended e ∷ steps) = AsksNone steps

abbrev pub AsksIn : Phase → List Step → Type 0
AsksIn Installing steps = AsksNone steps
AsksIn Over steps = AsksNone steps
AsksIn Collecting steps = Unit {0}
AsksIn Choosing steps = Unit {0}
AsksIn SeizingVotes steps = Unit {0}
AsksIn SeizingOthers steps = Unit {0}

asks_nil : (p : Phase) → AsksIn p []
asks_nil Installing = tt
asks_nil Over = tt
asks_nil Collecting = tt
asks_nil Choosing = tt
asks_nil SeizingVotes = tt
asks_nil SeizingOthers = tt

asks_seizing : (p : Phase) (steps : List Step) → IsSeizing p → AsksIn p steps
asks_seizing p steps (inl is) = subst (λ q. AsksIn q steps) (sym is) tt
asks_seizing p steps (inr is) = subst (λ q. AsksIn q steps) (sym is) tt

install_sends : (plan : Plan) (i : Install) (ns : List ℕ) → AsksNone (map (send_install plan i) ns)
install_sends plan i [] = tt
install_sends plan i (n ∷ ns) = (tt, install_sends plan i ns)

start_sends : (plan : Plan) (ns : List ℕ) → AsksNone (map (send_start plan) ns)
start_sends plan [] = tt
start_sends plan (n ∷ ns) = (tt, start_sends plan ns)

collect_sends : (plan : Plan) (ns : List ℕ) → AsksNone (map (send_collect plan) ns)
collect_sends plan [] = tt
collect_sends plan (n ∷ ns) = (tt, collect_sends plan ns)

asks_again : (s : AttemptState) (p : Phase) → AsksIn p (again_in s p)
asks_again s Installing = install_sends s.plan (install_in s) (silent_others s)
asks_again s Over = tt
asks_again s Collecting = tt
asks_again s Choosing = tt
asks_again s SeizingVotes = tt
asks_again s SeizingOthers = tt

-- what follows an install here asks none
abbrev pub AfterInstall : List Step → Type 0
AfterInstall [] = Unit {0}
AfterInstall (InstallHere i ∷ rest) = AsksNone rest
AfterInstall (Send to m ∷ rest) = Unit {0}
AfterInstall (SeizeHere d kind ∷ rest) = Unit {0}
AfterInstall (NeedVotes n ∷ rest) = Unit {0}
AfterInstall (StartHere ∷ rest) = Unit {0}
AfterInstall (Ended e ∷ rest) = Unit {0}

abbrev IsNoInstall : Option Step → Type 0
IsNoInstall None = Unit {0}
IsNoInstall (Some (InstallHere i)) = ⊥
IsNoInstall (Some (Send to m)) = Unit {0}
IsNoInstall (Some (SeizeHere d kind)) = Unit {0}
IsNoInstall (Some (NeedVotes n)) = Unit {0}
IsNoInstall (Some StartHere) = Unit {0}
IsNoInstall (Some (Ended e)) = Unit {0}

after_cons : (o : Option Step) (steps : List Step) → IsNoInstall o → AfterInstall steps → AfterInstall (cons_option o steps)
after_cons None steps h k = k
after_cons (Some (InstallHere i)) steps h k = absurd h
after_cons (Some (Send to m)) steps h k = tt
after_cons (Some (SeizeHere d kind)) steps h k = tt
after_cons (Some (NeedVotes n)) steps h k = tt
after_cons (Some StartHere) steps h k = tt
after_cons (Some (Ended e)) steps h k = tt

one_request : (plan : Plan) (kind : SeizeKind) (d n : ℕ) → IsNoInstall (Some (request plan kind d n))
one_request plan kind d n =
    if_either (λ (s : Step). IsNoInstall (Some s)) (n == plan.coordinator) (SeizeHere d kind) (Send n (record { sender = plan.coordinator; body = request_body plan kind d })) tt tt

by_request : (plan : Plan) (e : Seizing) (r : Option SeizeResult) (o : Option ℕ) → IsNoInstall (request_by plan e r o)
by_request plan e None (Some n) = one_request plan e.kind e.attached.device n
by_request plan e None None = tt
by_request plan e (Some r) o = tt

by_again : (plan : Plan) (e : Seizing) (r : Option SeizeResult) (o : Option ℕ) → IsNoInstall (again_by plan e r o)
by_again plan e None (Some n) =
    if_either IsNoInstall (n == plan.coordinator) None (Some (request plan e.kind e.attached.device n)) tt (one_request plan e.kind e.attached.device n)
by_again plan e None None = tt
by_again plan e (Some r) o = tt

after_requests : (plan : Plan) (es : List Seizing) → AfterInstall (filter_map (request_for plan) es)
after_requests plan [] = tt
after_requests plan (e ∷ es) = after_cons (request_for plan e) (filter_map (request_for plan) es) (by_request plan e e.result e.seizer) (after_requests plan es)

after_agains : (plan : Plan) (es : List Seizing) → AfterInstall (filter_map (again_for plan) es)
after_agains plan [] = tt
after_agains plan (e ∷ es) = after_cons (again_for plan e) (filter_map (again_for plan) es) (by_again plan e e.result e.seizer) (after_agains plan es)

after_collects : (plan : Plan) (ns : List ℕ) → AfterInstall (map (send_collect plan) ns)
after_collects plan [] = tt
after_collects plan (n ∷ ns) = tt

after_installs : (plan : Plan) (i : Install) (ns : List ℕ) → AfterInstall (map (send_install plan i) ns)
after_installs plan i [] = tt
after_installs plan i (n ∷ ns) = tt

after_repeats : (s : AttemptState) (p : Phase) → AfterInstall (again_in s p)
after_repeats s Collecting = after_collects s.plan (silent_others s)
after_repeats s Choosing = tt
after_repeats s SeizingVotes = after_agains s.plan s.devices
after_repeats s SeizingOthers = after_agains s.plan s.devices
after_repeats s Installing = after_installs s.plan (install_in s) (silent_others s)
after_repeats s Over = tt

after_one : (plan : Plan) (kind : SeizeKind) (d n : ℕ) → AfterInstall (request plan kind d n ∷ [])
after_one plan kind d n = after_cons (Some (request plan kind d n)) [] (one_request plan kind d n) tt

abbrev Any : AttemptState → Type 0
Any s = Unit {0}

abbrev AsksSo : Turn → Type 0
AsksSo u = AsksIn u.after.phase u.steps × AfterInstall u.steps

installing_asks : (s : AttemptState) → AsksSo (installing s)
unfolding installing
installing_asks s =
    let t : AttemptState = in_phase s Installing in
    (install_sends t.plan (install_in t) (silent_others t), install_sends t.plan (install_in t) (silent_others t))

walk : (c : Call) → Walk c Any Any AsksSo
unfolding asked_next
walk c = record {
  within = λ s i. tt;
  rests = λ s i. (asks_nil s.phase, tt);
  passes = λ s is e i. (asks_nil s.phase, tt);
  again = λ s is e i.
      let t : AttemptState = record s { ticks = later s.ticks } in
      (asks_again t s.phase, after_repeats t s.phase);
  silent = λ s n is late least i. (tt, tt);
  superseded = λ s from m q is nack i. (tt, tt);
  promise = λ s from m p is awaited of promised i. tt;
  collects = λ s is e k. (subst (λ p. AsksIn p (collects s)) (sym is) tt, after_collects s.plan (silent_others s));
  collecting = λ s is e k. (asks_nil s.phase, tt);
  no_newest = λ s is all none k. (asks_nil s.phase, tt);
  chosen = λ s newest is all some k. (tt, tt);
  votes = λ s both is i. tt;
  foreign = λ s both n is given least k. (tt, tt);
  excluded = λ s n is least k. (tt, tt);
  impossible = λ s e is short k. (tt, tt);
  entries = λ s is enough k. tt;
  requests = λ s is e k. (asks_seizing s.phase (filter_map (request_for s.plan) s.devices) (inl is), after_requests s.plan s.devices);
  result = λ s d from r e is tells found none i. tt;
  next = λ s d from n r e is tells found next i. (asks_seizing s.phase (request s.plan e.kind d n ∷ []) is, after_one s.plan e.kind d n);
  seizing = λ s is e k. (asks_nil s.phase, tt);
  short = λ s e is all few k. (tt, tt);
  others = λ s is all enough some k. (tt, after_requests s.plan (plain_devices s));
  installs_at_once = λ s is all enough none k. installing_asks (record s { counted = held_set s.devices });
  installs = λ s is all k. installing_asks s;
  ready = λ s from m is here of ready_body i. tt;
  own = λ s is here i. tt;
  installing = λ s here e k. (asks_nil s.phase, tt);
  starts = λ s here e k. (start_sends s.plan (others_of s.plan), tt);
}

pub asks_in : (a : AttemptState) (k : Call) → AsksIn (turn a k).after.phase (turn a k).steps
asks_in a k = (walks Any Any AsksSo a k (walk k) tt).0

pub after_install : (a : AttemptState) (k : Call) → AfterInstall (turn a k).steps
after_install a k = (walks Any Any AsksSo a k (walk k) tt).1

-- At its beginning it asks none.

chosen_none : (s : AttemptState) (o : Option Shown) → AsksNone (chosen_by s o).steps
chosen_none s None = tt
chosen_none s (Some newest) = tt

begun_none : (s : AttemptState) → AsksNone (begun s).steps
unfolding choosing
begun_none s =
    if_either (λ (t : Turn). AsksNone t.steps) (all_promised s) (choosing s) (with_steps s (collects s)) (chosen_none s (newest_shown s.promises)) (collect_sends s.plan (silent_others s))

pub first_none : (p members : ℕ) (own : Message) (attached : List AttachedDevice) (cluster : ℕ) → AsksNone (beginning p members own attached cluster).steps
unfolding beginning
first_none p members own attached cluster = begun_none (first_state p members own attached cluster (promises_of (promised_by own (shown_by own.sender own.body))))

-- nor does it by what follows its start
pub starts_none : (p : ℕ) (steps : List Step) → AllStart p steps → AsksNone steps
starts_none p [] h = tt
starts_none p (Send to m ∷ steps) h = (quiet m.body h.0, starts_none p steps h.1)
  where
    quiet : (b : Body) → StartsBody p b → IsQuietBody b
    quiet (body.Start e) h = tt
    quiet (body.SeizeQuorum e members d) h = absurd h
    quiet (body.SeizeData e members d) h = absurd h
    quiet (body.Seized e d r) h = absurd h
    quiet _ h = tt
starts_none p (SeizeHere d kind ∷ steps) h = absurd h.0
starts_none p (NeedVotes n ∷ steps) h = absurd h.0
starts_none p (InstallHere i ∷ steps) h = absurd h.0
starts_none p (StartHere ∷ steps) h = absurd h.0
starts_none p (Ended e ∷ steps) h = absurd h.0

-- So these steps do nothing at devices.

excluded_quiet : (me e newest : ℕ) (o : Option ℕ) → Quiet (excluded_course me e newest o)
excluded_quiet me e newest None = tt
excluded_quiet me e newest (Some m) =
    if_either Quiet (m == me) (Falls (down.Panic (panic.Excluded newest))) (writing m (body.Excluded e newest)) tt (tt, tt)

ended_quiet : (me : ℕ) (e : AttemptEnd) (o : Option AttemptState) → Quiet (ended_course me e o)
ended_quiet me e None = tt
ended_quiet me e (Some a) = (tt, excluded_quiet me a.plan.epoch (unwrap_or (newest_installed a) 0) (left_out_by e))

pub steps_quiet : (c : Cluster) (me : ℕ) (x : UpNode) (steps : List Step) → AsksNone steps → Quiet (steps_course c me x steps)
steps_quiet c me x [] h = tt
steps_quiet c me x (Send to m ∷ steps) h = (h.0, steps_quiet c me x steps h.1)
steps_quiet c me x (SeizeHere d kind ∷ steps) h = absurd h
steps_quiet c me x (NeedVotes n ∷ steps) h = steps_quiet c me x steps h
steps_quiet c me x (InstallHere i ∷ steps) h = steps_quiet c me x steps h
steps_quiet c me x (StartHere ∷ steps) h = steps_quiet c me x steps h
steps_quiet c me x (Ended e ∷ steps) h =
    quiet_joined c me x (ended_course me e x.attempt) (λ y. steps_course c me y steps) (ended_quiet me e x.attempt) (λ y. steps_quiet c me y steps h)
