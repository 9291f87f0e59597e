-- Each message that an attempt takes, its ticks, and the coordinator's own part.
use Rattle.std.specs.Prelude.{ℕ, ◌≡◌, ◌==◌, ◌&&◌, ◌++◌, nat_le, not, Bool, true, false, List, [], ◌∷◌, map, Option, None, Some, if◌then◌else◌}
use Rattle.std.specs.List.{cons_option, filter_map, find}
use Rattle.std.proofs.Common.{refl, sym, subst}
use Rattle.attempt_laws.proofs.Walk.{awaits_collecting, awaits_installing}
use Rattle.attempt_laws.specs.Staying.{IsFinal}
use Rattle.cl_base.specs.Seizings.{SeizeResult}
use Rattle.cl_base.specs.Sets.{has}
use Rattle.cmm_attempt.proofs.Basics.{and_cases, if_either}
use Rattle.cmm_attempt.specs.Attempts.{AttemptState, again_in, all_promised, all_ready, awaits_promise, awaits_ready, begun as begun_turn, beginning, chosen_by, choosing, collects, first_state, is_missing, is_of, is_over, later, own_readying, own_readying_in, promises_of, promising, readying, silenced, silent_others, starting, taken, taking, ticked, ticking, waits, with_promise, with_steps}
use Rattle.cmm_attempt.specs.Calls.{Call, Own_ready, Own_seized, Take, Tick, With_votes, turn}
use Rattle.cmm_attempt.specs.Installs.{send_start, send_to}
use Rattle.cmm_attempt.specs.Plans.{others_of}
use Rattle.cmm_attempt.specs.Promises.{newest_shown, promised_by, shown_by}
use Rattle.cmm_attempt.specs.Seizings.{again_by, again_for, request, request_body}
use Rattle.cmm_attempt.specs.declared.attached.AttachedDevice.{AttachedDevice}
use Rattle.cmm_attempt.specs.declared.phase.Phase.{Phase}
use Rattle.cmm_attempt.specs.declared.phase.Phase.TheVariants.{Choosing, Collecting, Installing, Over, SeizingOthers, SeizingVotes}
use Rattle.cmm_attempt.specs.declared.plan.Plan.{Plan}
use Rattle.cmm_attempt.specs.declared.promised.Promised.{Promised}
use Rattle.cmm_attempt.specs.declared.promised.Shown.{Shown}
use Rattle.cmm_attempt.specs.declared.seizing.Seizing.{Seizing}
use Rattle.cmm_attempt.specs.declared.step.Step.{Step}
use Rattle.cmm_attempt.specs.declared.step.Step.TheVariants.{Ended, InstallHere, NeedVotes, Send, SeizeHere, StartHere}
use Rattle.device_queue.specs.Queue.{put_unless, seizure_of}
use Rattle.device_queue.specs.declared.task.Task.{Task}
use Rattle.device_queue.specs.declared.task.Work.TheVariants.{Seizing as Seizes}
use Rattle.seize.specs.Seizing as seizing
use Rattle.seize.specs.Seizing.{SeizeState}
use Rattle.seize.specs.declared.kind.SeizeKind.{SeizeKind}
use Rattle.wire.specs.Kinds.{is_ready}
use Rattle.wire.specs.declared.message.Body.{Body}
use Rattle.wire.specs.declared.message.Body.TheVariants as body
use Rattle.wire.specs.declared.message.Message.{Message}
use Rattle.run_outcomes.specs.tasks.Own.{CallSo, IsEarly, IsFinalWhere, IsOfOthers, IsOrdered, Owns, OwnsAfter, begun_here, with_own}
use Rattle.run_outcomes.proofs.own_tasks.Turns.{answering_in_owns, early_owns, ends_owns, final_owns, own_seized_owns, voting_owns, waits_owns}

-- ---- what asks the coordinator for nothing

-- messages alone
AreSent : List Step → Type 0
AreSent [] = Unit {0}
AreSent (Send to m ∷ steps) = AreSent steps
AreSent _ = ⊥

sent_own : (member : Bool) (begun : ℕ → SeizeKind → SeizeState) (steps : List Step) (ts : List Task) → AreSent steps → with_own member begun steps ts ≡ ts
unfolding AreSent
sent_own member begun [] ts h = refl
sent_own member begun (Send to m ∷ steps) ts h = sent_own member begun steps ts h
sent_own member begun (SeizeHere d kind ∷ steps) ts h = absurd h
sent_own member begun (NeedVotes n ∷ steps) ts h = absurd h
sent_own member begun (InstallHere i ∷ steps) ts h = absurd h
sent_own member begun (StartHere ∷ steps) ts h = absurd h
sent_own member begun (Ended e ∷ steps) ts h = absurd h

sent_final : (steps : List Step) (p : Phase) → AreSent steps → IsFinalWhere steps p
unfolding AreSent
sent_final [] p h = tt
sent_final (Send to m ∷ steps) p h = tt
sent_final (SeizeHere d kind ∷ steps) p h = tt
sent_final (NeedVotes n ∷ steps) p h = tt
sent_final (InstallHere i ∷ steps) p h = absurd h
sent_final (StartHere ∷ steps) p h = absurd h
sent_final (Ended e ∷ steps) p h = tt

sends_sent : (plan : Plan) (b : Body) (ns : List ℕ) → AreSent (map (send_to plan b) ns)
unfolding AreSent
sends_sent plan b [] = tt
sends_sent plan b (n ∷ ns) = sends_sent plan b ns

again_sent : (plan : Plan) (es : List Seizing) → AreSent (filter_map (again_for plan) es)
unfolding AreSent
again_sent plan [] = tt
again_sent plan (e ∷ es) = by_entry e.result e.seizer (again_sent plan es)
  where
    by_test : (m : ℕ) (b : Bool) → (m == plan.coordinator) ≡ b → AreSent (filter_map (again_for plan) es)
        → AreSent (cons_option (if b then None else Some (request plan e.kind e.attached.device m)) (filter_map (again_for plan) es))
    by_test m true own rest = rest
    by_test m false other rest =
        subst (λ b. AreSent ((if b then SeizeHere e.attached.device e.kind else Send m (record { sender = plan.coordinator; body = request_body plan e.kind e.attached.device })) ∷ filter_map (again_for plan) es)) (sym other) rest

    by_entry : (r : Option SeizeResult) (o : Option ℕ) → AreSent (filter_map (again_for plan) es) → AreSent (cons_option (again_by plan e r o) (filter_map (again_for plan) es))
    by_entry (Some r) o rest = rest
    by_entry None None rest = rest
    by_entry None (Some m) rest = by_test m (m == plan.coordinator) refl rest

again_all : (s : AttemptState) (p : Phase) → AreSent (again_in s p)
unfolding AreSent
again_all s Collecting = sends_sent s.plan _ (silent_others s)
again_all s Choosing = tt
again_all s SeizingVotes = again_sent s.plan s.devices
again_all s SeizingOthers = again_sent s.plan s.devices
again_all s Installing = sends_sent s.plan _ (silent_others s)
again_all s Over = tt

-- ---- turns

module _ (n : ℕ) (begun : ℕ → SeizeKind → SeizeState) (none : (d : ℕ) (kind : SeizeKind) → seizing.result_of (begun d kind) ≡ None) where
  sent_owns : (ts : List Task) (s : AttemptState) (steps : List Step) → AreSent steps → Owns n ts s → OwnsAfter n begun ts (with_steps s steps)
  sent_owns ts s steps sent h = record { owns = subst (λ us. Owns n us s) (sym (sent_own (has s.plan.members n) begun steps ts sent)) h; final = sent_final steps s.phase sent }

  starting_owns : (ts : List Task) (s : AttemptState) → s.phase ≡ Installing → OwnsAfter n begun ts (starting s)
  unfolding starting
  starting_owns ts s at =
      if_either (OwnsAfter n begun ts) (s.own_ready && all_ready s) (with_steps (record s { phase = Over }) (StartHere ∷ map (send_start s.plan) (others_of s.plan))) (waits s)
      (record { owns = final_owns n _ (record s { phase = Over }) tt; final = tt }) (waits_owns n begun none ts s (final_owns n ts s (subst IsFinal (sym at) tt)))

  -- ---- Promises

  chosen_owns : (ts : List Task) (s : AttemptState) (o : Option Shown) → IsEarly s.phase → ts ≡ [] → OwnsAfter n begun ts (chosen_by s o)
  chosen_owns ts s None early is = waits_owns n begun none ts s (early_owns n ts s early is)
  chosen_owns ts s (Some newest) early is = record { owns = early_owns n ts _ tt is; final = tt }

  choosing_owns : (ts : List Task) (s : AttemptState) → IsEarly s.phase → ts ≡ [] → OwnsAfter n begun ts (choosing s)
  unfolding choosing
  choosing_owns ts s early is = chosen_owns ts s (newest_shown s.promises) early is

  promise_owns : (ts : List Task) (s : AttemptState) (o : Option Promised) → s.phase ≡ Collecting → ts ≡ [] → OwnsAfter n begun ts (with_promise s o)
  promise_owns ts s None at is = waits_owns n begun none ts s (early_owns n ts s (subst IsEarly (sym at) tt) is)
  promise_owns ts s (Some p) at is =
      let t : AttemptState = record s { promises = s.promises ++ p ∷ [] } in
      let early : IsEarly t.phase = subst IsEarly (sym at) tt in
      if_either (OwnsAfter n begun ts) (all_promised t) (choosing t) (waits t) (choosing_owns ts t early is) (waits_owns n begun none ts t (early_owns n ts t early is))

  promising_owns : (ts : List Task) (s : AttemptState) (from : ℕ) (m : Message) → Owns n ts s → OwnsAfter n begun ts (promising s from m)
  unfolding promising
  promising_owns ts s from m h = by_test (awaits_promise s from s.phase) refl
    where
      by_test : (b : Bool) → awaits_promise s from s.phase ≡ b → OwnsAfter n begun ts (if b then with_promise s (promised_by m (shown_by from m.body)) else waits s)
      by_test true awaited =
          let at : s.phase ≡ Collecting = awaits_collecting s from s.phase awaited in
          promise_owns ts s (promised_by m (shown_by from m.body)) at (h.idle (subst IsEarly (sym at) tt))
      by_test false other = waits_owns n begun none ts s h

  readying_owns : (ts : List Task) (s : AttemptState) (from : ℕ) (m : Message) → Owns n ts s → OwnsAfter n begun ts (readying s from m)
  unfolding readying
  readying_owns ts s from m h = by_test (awaits_ready s from s.phase && is_ready m.body) refl
    where
      by_test : (b : Bool) → (awaits_ready s from s.phase && is_ready m.body) ≡ b
          → OwnsAfter n begun ts (if b then starting (record s { readies = s.readies ++ record { node = from; message = m } ∷ [] }) else waits s)
      by_test true awaited = starting_owns ts (record s { readies = s.readies ++ record { node = from; message = m } ∷ [] }) (awaits_installing s from s.phase (and_cases (awaits_ready s from s.phase) (is_ready m.body) awaited).0)
      by_test false other = waits_owns n begun none ts s h

  -- ---- each message

  taken_owns : (ts : List Task) (s : AttemptState) (from : ℕ) (m : Message) (b : Body) → IsOrdered n s → Owns n ts s → IsOfOthers s from b → is_of s.plan.epoch b ≡ true → OwnsAfter n begun ts (taken s from m b)
  taken_owns ts s from m (body.Promise e installed members valid flagged committed pending) ok h others of = promising_owns ts s from m h
  taken_owns ts s from m (body.Nack e promised) ok h others of = ends_owns n begun none ts s _
  taken_owns ts s from m (body.Seized e d r) ok h others of = answering_in_owns n begun none ts s d from r s.phase refl ok h (λ is own. others is of own)
  taken_owns ts s from m (body.Ready e joined report) ok h others of = readying_owns ts s from m h
  taken_owns ts s from m _ ok h others of = waits_owns n begun none ts s h

  pub taking_owns : (ts : List Task) (s : AttemptState) (from : ℕ) (m : Message) → IsOrdered n s → Owns n ts s → IsOfOthers s from m.body → OwnsAfter n begun ts (taking s from m)
  unfolding taking
  taking_owns ts s from m ok h others = by_test (not (is_over s.phase) && is_of s.plan.epoch m.body) refl
    where
      by_test : (b : Bool) → (not (is_over s.phase) && is_of s.plan.epoch m.body) ≡ b → OwnsAfter n begun ts (if b then taken s from m m.body else waits s)
      by_test true so = taken_owns ts s from m m.body ok h others (and_cases (not (is_over s.phase)) (is_of s.plan.epoch m.body) so).1
      by_test false other = waits_owns n begun none ts s h

  -- ---- the coordinator's own part, and ticks

  own_in : (ts : List Task) (s : AttemptState) (p : Phase) → s.phase ≡ p → Owns n ts s → OwnsAfter n begun ts (own_readying_in s p)
  own_in ts s Installing at h = starting_owns ts (record s { own_ready = true }) at
  own_in ts s Collecting at h = waits_owns n begun none ts s h
  own_in ts s Choosing at h = waits_owns n begun none ts s h
  own_in ts s SeizingVotes at h = waits_owns n begun none ts s h
  own_in ts s SeizingOthers at h = waits_owns n begun none ts s h
  own_in ts s Over at h = waits_owns n begun none ts s h

  pub own_ready_owns : (ts : List Task) (s : AttemptState) → Owns n ts s → OwnsAfter n begun ts (own_readying s)
  unfolding own_readying
  own_ready_owns ts s h = own_in ts s s.phase refl h

  silenced_owns : (ts : List Task) (s : AttemptState) (o : Option ℕ) → Owns n ts s → OwnsAfter n begun ts (silenced s o)
  silenced_owns ts s None h = waits_owns n begun none ts s h
  silenced_owns ts s (Some m) h = ends_owns n begun none ts s _

  ticked_owns : (ts : List Task) (s : AttemptState) → Owns n ts s → OwnsAfter n begun ts (ticked s)
  ticked_owns ts s h =
      if_either (OwnsAfter n begun ts) (nat_le 8 s.ticks) (silenced s (find (is_missing s) s.plan.nodes)) (if s.ticks == 4 then with_steps s (again_in s s.phase) else waits s) (silenced_owns ts s (find (is_missing s) s.plan.nodes) h)
      (if_either (OwnsAfter n begun ts) (s.ticks == 4) (with_steps s (again_in s s.phase)) (waits s) (sent_owns ts s (again_in s s.phase) (again_all s s.phase) h) (waits_owns n begun none ts s h))

  pub ticking_owns : (ts : List Task) (s : AttemptState) → Owns n ts s → OwnsAfter n begun ts (ticking s)
  unfolding ticking
  ticking_owns ts s h =
      let t : AttemptState = record s { ticks = later s.ticks } in
      if_either (OwnsAfter n begun ts) (is_over s.phase) (waits s) (ticked t) (waits_owns n begun none ts s h) (ticked_owns ts t (record { idle = h.idle; seizes = λ is ok. h.seizes is (record { plan = ok.plan; member = ok.member; apart = ok.apart }) }))

  -- ---- an attempt begins

  first_owns : (ts : List Task) (s : AttemptState) → s.phase ≡ Collecting → ts ≡ [] → OwnsAfter n begun ts (begun_turn s)
  first_owns ts s at is =
      let early : IsEarly s.phase = subst IsEarly (sym at) tt in
      if_either (OwnsAfter n begun ts) (all_promised s) (choosing s) (with_steps s (collects s)) (choosing_owns ts s early is) (sent_owns ts s (collects s) (sends_sent s.plan _ (silent_others s)) (early_owns n ts s early is))

  pub beginning_owns : (p members : ℕ) (own : Message) (attached : List AttachedDevice) (cluster : ℕ) → OwnsAfter n begun [] (beginning p members own attached cluster)
  unfolding beginning
  beginning_owns p members own attached cluster = first_owns [] (first_state p members own attached cluster (promises_of (promised_by own (shown_by own.sender own.body)))) refl refl

  -- ---- each call

  pub turn_owns : (ts : List Task) (s : AttemptState) (k : Call) → CallSo n ts s k → OwnsAfter n begun ts (turn s k)
  turn_owns ts s (Take from m) h = taking_owns ts s from m h.0 h.1 h.2
  turn_owns ts s (With_votes both) h = voting_owns n begun none ts s both h
  turn_owns ts s (Own_seized d r) h = own_seized_owns n begun none ts s d r h.0 h.1
  turn_owns ts s Own_ready h = own_ready_owns ts s h
  turn_owns ts s Tick h = ticking_owns ts s h

-- ---- nothing is begun in a turn that leaves nothing

appended_some : (ts : List Task) (t : Task) → ts ++ t ∷ [] ≡ [] → ⊥
appended_some [] t h = cc
appended_some (u ∷ ts) t h = cc

put_none : (o : Option Task) (t : Task) (ts : List Task) → put_unless o t ts ≡ [] → ts ≡ []
put_none None t ts h = absurd (appended_some ts t h)
put_none (Some u) t ts h = h

here_none : (member : Bool) (begun : ℕ → SeizeKind → SeizeState) (d : ℕ) (kind : SeizeKind) (ts : List Task) → begun_here member begun d kind ts ≡ [] → ts ≡ []
here_none true begun d kind ts h = put_none (seizure_of ts d) (record { device = d; work = Seizes (begun d kind) }) ts h
here_none false begun d kind ts h = h

pub before_none : (member : Bool) (begun : ℕ → SeizeKind → SeizeState) (steps : List Step) (ts : List Task) → with_own member begun steps ts ≡ [] → ts ≡ []
before_none member begun [] ts h = h
before_none member begun (SeizeHere d kind ∷ steps) ts h = here_none member begun d kind ts (before_none member begun steps (begun_here member begun d kind ts) h)
before_none member begun (Send to m ∷ steps) ts h = before_none member begun steps ts h
before_none member begun (NeedVotes n ∷ steps) ts h = before_none member begun steps ts h
before_none member begun (InstallHere i ∷ steps) ts h = before_none member begun steps ts h
before_none member begun (StartHere ∷ steps) ts h = before_none member begun steps ts h
before_none member begun (Ended e ∷ steps) ts h = before_none member begun steps ts h
