-- Which messages are among the steps of a call: a Start only after the node's own, an Install only while the attempt installs, and an end is the last.
use Rattle.std.specs.Prelude.{ℕ, ◌≡◌, List, [], ◌∷◌, ◌++◌, Option, None, Some, map, ◌==◌}
use Rattle.std.proofs.Common.{refl}
use Rattle.std.specs.List.{cons_option, filter_map}
use Rattle.cl_base.specs.Seizings.{SeizeResult}
use Rattle.seize.specs.declared.kind.SeizeKind.{SeizeKind}
use Rattle.seize.specs.declared.kind.SeizeKind.TheVariants.{Vote, Plain}
use Rattle.wire.specs.declared.message.Body.{Body}
use Rattle.wire.specs.declared.message.Body.TheVariants as body
use Rattle.wire.specs.declared.message.Message.{Message}
use Rattle.cmm_attempt.specs.declared.attached.AttachedDevice.{AttachedDevice}
use Rattle.cmm_attempt.specs.declared.phase.Phase.{Phase}
use Rattle.cmm_attempt.specs.declared.phase.Phase.TheVariants.{Collecting, Choosing, SeizingVotes, SeizingOthers, Installing, Over}
use Rattle.cmm_attempt.specs.declared.plan.Plan.{Plan}
use Rattle.cmm_attempt.specs.declared.promised.Shown.{Shown}
use Rattle.cmm_attempt.specs.declared.seizing.Seizing.{Seizing}
use Rattle.cmm_attempt.specs.declared.step.Step.{Step}
use Rattle.cmm_attempt.specs.declared.step.Step.TheVariants.{Send, SeizeHere, NeedVotes, InstallHere, StartHere, Ended}
use Rattle.cmm_attempt.specs.Attempts.{AttemptState, Turn, again_in, all_promised, asked_next, beginning, begun, choosing, chosen_by, collects, first_state, in_phase, installing, install_in, later, plain_devices, promises_of, silent_others, with_steps}
use Rattle.cmm_attempt.specs.Calls.{Call, turn}
use Rattle.cmm_attempt.specs.Plans.{others_of}
use Rattle.cmm_attempt.specs.Promises.{newest_shown, promised_by, shown_by}
use Rattle.cmm_attempt.specs.Seizings.{again_by, again_for, held_set, request, request_body, request_by, request_for}
use Rattle.cmm_attempt.proofs.Basics.{if_either}
use Rattle.attempt_laws.proofs.Walk.{Walk, walks}

-- a message of the attempt t, but for a Start
abbrev pub FitsBody : AttemptState → Body → Type 0
FitsBody t (body.Collect p members) = (p ≡ t.plan.epoch) × (members ≡ t.plan.members)
FitsBody t (body.Install i) = (t.phase ≡ Installing) × (i ≡ install_in t)
FitsBody t (body.SeizeQuorum p members d) = Unit {0}
FitsBody t (body.SeizeData p members d) = Unit {0}
FitsBody t _ = ⊥

abbrev pub FitsStep : AttemptState → Step → Type 0
FitsStep t (Send to m) = FitsBody t m.body
FitsStep t (SeizeHere d kind) = Unit {0}
FitsStep t (NeedVotes n) = Unit {0}
FitsStep t (InstallHere i) = ⊥
FitsStep t StartHere = ⊥
FitsStep t (Ended e) = Unit {0}

-- an end is the last
abbrev pub EndsHere : Step → List Step → Type 0
EndsHere (Ended e) rest = rest ≡ []
EndsHere (Send to m) rest = Unit {0}
EndsHere (SeizeHere d kind) rest = Unit {0}
EndsHere (NeedVotes n) rest = Unit {0}
EndsHere (InstallHere i) rest = Unit {0}
EndsHere StartHere rest = Unit {0}

abbrev pub AllFit : AttemptState → List Step → Type 0
AllFit t [] = Unit {0}
AllFit t (s ∷ steps) = FitsStep t s × EndsHere s steps × AllFit t steps

-- after the node's own start, Starts alone
abbrev pub StartsBody : ℕ → Body → Type 0
StartsBody p (body.Start e) = e ≡ p
StartsBody p _ = ⊥

abbrev pub StartsStep : ℕ → Step → Type 0
StartsStep p (Send to m) = StartsBody p m.body
StartsStep p _ = ⊥

abbrev pub AllStart : ℕ → List Step → Type 0
AllStart p [] = Unit {0}
AllStart p (s ∷ steps) = StartsStep p s × AllStart p steps

-- messages alone
abbrev pub AllSent : AttemptState → List Step → Type 0
AllSent t [] = Unit {0}
AllSent t (Send to m ∷ steps) = FitsBody t m.body × AllSent t steps
AllSent t (SeizeHere d kind ∷ steps) = ⊥
AllSent t (NeedVotes n ∷ steps) = ⊥
AllSent t (InstallHere i ∷ steps) = ⊥
AllSent t (StartHere ∷ steps) = ⊥
AllSent t (Ended e ∷ steps) = ⊥

abbrev pub FitsTurn : AttemptState → List Step → Type 0
FitsTurn t [] = Unit {0}
FitsTurn t (StartHere ∷ rest) = AllStart t.plan.epoch rest
FitsTurn t (InstallHere i ∷ rest) = AllSent t rest
FitsTurn t (Send to m ∷ rest) = AllFit t (Send to m ∷ rest)
FitsTurn t (SeizeHere d kind ∷ rest) = AllFit t (SeizeHere d kind ∷ rest)
FitsTurn t (NeedVotes n ∷ rest) = AllFit t (NeedVotes n ∷ rest)
FitsTurn t (Ended e ∷ rest) = AllFit t (Ended e ∷ rest)

all_fit : (t : AttemptState) (steps : List Step) → AllFit t steps → FitsTurn t steps
all_fit t [] h = tt
all_fit t (StartHere ∷ rest) h = absurd h.0
all_fit t (InstallHere i ∷ rest) h = absurd h.0
all_fit t (Send to m ∷ rest) h = h
all_fit t (SeizeHere d kind ∷ rest) h = h
all_fit t (NeedVotes n ∷ rest) h = h
all_fit t (Ended e ∷ rest) h = h

fit_sends : (t : AttemptState) (sender : ℕ) (b : Body) (ns : List ℕ) → FitsBody t b → AllFit t (map (λ n. Send n (record { sender = sender; body = b })) ns)
fit_sends t sender b [] h = tt
fit_sends t sender b (n ∷ ns) h = (h, tt, fit_sends t sender b ns h)

sent_all : (t : AttemptState) (sender : ℕ) (b : Body) (ns : List ℕ) → FitsBody t b → AllSent t (map (λ n. Send n (record { sender = sender; body = b })) ns)
sent_all t sender b [] h = tt
sent_all t sender b (n ∷ ns) h = (h, sent_all t sender b ns h)

start_sends : (p sender : ℕ) (ns : List ℕ) → AllStart p (map (λ n. Send n (record { sender = sender; body = body.Start p })) ns)
start_sends p sender [] = tt
start_sends p sender (n ∷ ns) = (refl, start_sends p sender ns)

-- a request
abbrev Asking : AttemptState → Step → Type 0
Asking t s = FitsStep t s × ((rest : List Step) → EndsHere s rest)

fits_request_body : (t : AttemptState) (plan : Plan) (kind : SeizeKind) (d : ℕ) → FitsBody t (request_body plan kind d)
fits_request_body t plan Vote d = tt
fits_request_body t plan Plain d = tt

asking : (t : AttemptState) (plan : Plan) (kind : SeizeKind) (d n : ℕ) → Asking t (request plan kind d n)
asking t plan kind d n =
    if_either (Asking t) (n == plan.coordinator) (SeizeHere d kind) (Send n (record { sender = plan.coordinator; body = request_body plan kind d }))
    (tt, λ rest. tt) (fits_request_body t plan kind d, λ rest. tt)

abbrev AskingMaybe : AttemptState → Option Step → Type 0
AskingMaybe t None = Unit {0}
AskingMaybe t (Some s) = Asking t s

cons_fit : (t : AttemptState) (o : Option Step) (steps : List Step) → AskingMaybe t o → AllFit t steps → AllFit t (cons_option o steps)
cons_fit t None steps h k = k
cons_fit t (Some s) steps h k = (h.0, h.1 steps, k)

asking_by : (t : AttemptState) (plan : Plan) (e : Seizing) (r : Option SeizeResult) (o : Option ℕ) → AskingMaybe t (request_by plan e r o)
asking_by t plan e None (Some n) = asking t plan e.kind e.attached.device n
asking_by t plan e None None = tt
asking_by t plan e (Some r) o = tt

fit_requests : (t : AttemptState) (plan : Plan) (es : List Seizing) → AllFit t (filter_map (request_for plan) es)
fit_requests t plan [] = tt
fit_requests t plan (e ∷ es) = cons_fit t (request_for plan e) (filter_map (request_for plan) es) (asking_by t plan e e.result e.seizer) (fit_requests t plan es)

asking_again : (t : AttemptState) (plan : Plan) (e : Seizing) (r : Option SeizeResult) (o : Option ℕ) → AskingMaybe t (again_by plan e r o)
asking_again t plan e None (Some n) =
    if_either (AskingMaybe t) (n == plan.coordinator) None (Some (request plan e.kind e.attached.device n)) tt (asking t plan e.kind e.attached.device n)
asking_again t plan e None None = tt
asking_again t plan e (Some r) o = tt

fit_again : (t : AttemptState) (plan : Plan) (es : List Seizing) → AllFit t (filter_map (again_for plan) es)
fit_again t plan [] = tt
fit_again t plan (e ∷ es) = cons_fit t (again_for plan e) (filter_map (again_for plan) es) (asking_again t plan e e.result e.seizer) (fit_again t plan es)

fit_collects : (t : AttemptState) → AllFit t (collects t)
fit_collects t = fit_sends t t.plan.coordinator (body.Collect t.plan.epoch t.plan.members) (silent_others t) (refl, refl)

fit_repeats : (t : AttemptState) (phase : Phase) → t.phase ≡ phase → AllFit t (again_in t phase)
fit_repeats t Collecting is = fit_collects t
fit_repeats t Choosing is = tt
fit_repeats t SeizingVotes is = fit_again t t.plan t.devices
fit_repeats t SeizingOthers is = fit_again t t.plan t.devices
fit_repeats t Installing is = fit_sends t t.plan.coordinator (body.Install (install_in t)) (silent_others t) (is, refl)
fit_repeats t Over is = tt

abbrev Any : AttemptState → Type 0
Any s = Unit {0}

abbrev Fitting : Turn → Type 0
Fitting t = FitsTurn t.after t.steps

installed : (s : AttemptState) → Fitting (installing s)
unfolding installing
installed s =
    let t : AttemptState = in_phase s Installing in
    sent_all t t.plan.coordinator (body.Install (install_in t)) (silent_others t) (refl, refl)

walk : (c : Call) → Walk c Any Any Fitting
unfolding asked_next
walk c = record {
  within = λ s i. tt;
  rests = λ s i. tt;
  passes = λ s is e i. tt;
  again = λ s is e i.
      let t : AttemptState = record s { ticks = later s.ticks } in
      all_fit t (again_in t s.phase) (fit_repeats t s.phase refl);
  silent = λ s n is late least i. (tt, refl, tt);
  superseded = λ s from m q is nack i. (tt, refl, tt);
  promise = λ s from m p is awaited of promised i. tt;
  collects = λ s is e k. all_fit s (collects s) (fit_collects s);
  collecting = λ s is e k. tt;
  no_newest = λ s is all none k. tt;
  chosen = λ s newest is all some k. (tt, tt, tt);
  votes = λ s both is i. tt;
  foreign = λ s both n is given least k. (tt, refl, tt);
  excluded = λ s n is least k. (tt, refl, tt);
  impossible = λ s e is short k. (tt, refl, tt);
  entries = λ s is enough k. tt;
  requests = λ s is e k. all_fit s (filter_map (request_for s.plan) s.devices) (fit_requests s s.plan s.devices);
  result = λ s d from r e is tells found none i. tt;
  next = λ s d from n r e is tells found next i.
      let t : AttemptState = (asked_next s d e.kind n).after in
      all_fit t (request s.plan e.kind d n ∷ []) ((asking t s.plan e.kind d n).0, (asking t s.plan e.kind d n).1 [], tt);
  seizing = λ s is e k. tt;
  short = λ s e is all few k. (tt, refl, tt);
  others = λ s is all enough some k.
      let t : AttemptState = record (in_phase s SeizingOthers) { counted = held_set s.devices; devices = s.devices ++ plain_devices s } in
      all_fit t (filter_map (request_for s.plan) (plain_devices s)) (fit_requests t s.plan (plain_devices s));
  installs_at_once = λ s is all enough none k. installed (record s { counted = held_set s.devices });
  installs = λ s is all k. installed s;
  ready = λ s from m is here of ready_body i. tt;
  own = λ s is here i. tt;
  installing = λ s here e k. tt;
  starts = λ s here e k. start_sends s.plan.epoch s.plan.coordinator (others_of s.plan);
}

pub turn_fits : (s : AttemptState) (c : Call) → FitsTurn (turn s c).after (turn s c).steps
turn_fits s c = walks Any Any Fitting s c (walk c) tt

-- At its beginning.

chosen_fits : (s : AttemptState) (o : Option Shown) → AllFit (chosen_by s o).after (chosen_by s o).steps
chosen_fits s None = tt
chosen_fits s (Some newest) = (tt, tt, tt)

begun_fits : (s : AttemptState) → AllFit (begun s).after (begun s).steps
unfolding choosing
begun_fits s =
    if_either (λ (t : Turn). AllFit t.after t.steps) (all_promised s) (choosing s) (with_steps s (collects s)) (chosen_fits s (newest_shown s.promises)) (fit_collects s)

pub first_fits : (p members : ℕ) (own : Message) (attached : List AttachedDevice) (cluster : ℕ) → AllFit (beginning p members own attached cluster).after (beginning p members own attached cluster).steps
unfolding beginning
first_fits p members own attached cluster = begun_fits (first_state p members own attached cluster (promises_of (promised_by own (shown_by own.sender own.body))))
