-- Where an attempt ends for its votes, or for a member, its coordinator has no task queued: none was begun yet, or each seizing has ended.
use Rattle.std.specs.Prelude.{ℕ, ◌≡◌, ◌==◌, ◌&&◌, ◌++◌, nat_le, not, Bool, true, false, List, [], ◌∷◌, filter, map, Option, None, Some, is_some, if◌then◌else◌}
use Rattle.std.specs.List.{find}
use Rattle.std.proofs.Common.{refl, sym, ap, subst, ◌∙◌, inl, inr}
use Rattle.attempt_laws.proofs.QuietLemmas.{IsQuiet, quiet_again_in, quiet_asked, quiet_none, quiet_starts}
use Rattle.cl_base.specs.Seizings.{SeizeResult}
use Rattle.cmm_attempt.proofs.Basics.{and_cases, false_true, if_either, none_some, same_some}
use Rattle.cmm_attempt.specs.Attempts.{AttemptState, Turn, again_in, all_promised, all_ready, answered_on, answering, answering_in, asked_next, awaits_promise, awaits_ready, choosing, chosen_by, ends, is_missing, is_of, is_over, later, next_asked, own_answering, own_readying, own_readying_in, proceeding, promising, readying, settled, settled_in, silenced, starting, taken, taking, ticked, ticking, waits, with_promise, with_steps}
use Rattle.cmm_attempt.specs.Calls.{Call, Own_ready, Own_seized, Take, Tick, With_votes, end_in, turn}
use Rattle.cmm_attempt.specs.Installs.{send_start}
use Rattle.cmm_attempt.specs.Plans.{others_of}
use Rattle.cmm_attempt.specs.Promises.{newest_shown, promised_by, shown_by}
use Rattle.cmm_attempt.specs.Seizings.{all_settled, awaits, is_asked, next_by, request, with_next, with_result}
use Rattle.cmm_attempt.specs.declared.phase.Phase.{Phase}
use Rattle.cmm_attempt.specs.declared.phase.Phase.TheVariants.{Choosing, Collecting, Installing, Over, SeizingOthers, SeizingVotes}
use Rattle.cmm_attempt.specs.declared.promised.Promised.{Promised}
use Rattle.cmm_attempt.specs.declared.promised.Shown.{Shown}
use Rattle.cmm_attempt.specs.declared.seizing.Seizing.{Seizing}
use Rattle.cmm_attempt.specs.declared.step.AttemptEnd.{AttemptEnd}
use Rattle.cmm_attempt.specs.declared.step.AttemptEnd.TheVariants as end
use Rattle.cmm_attempt.specs.declared.step.Step.{Step}
use Rattle.cmm_attempt.specs.declared.step.Step.TheVariants.{StartHere}
use Rattle.device_queue.specs.Tasks.{is_over_in, is_queued, is_seizing as is_seizure, result_in}
use Rattle.device_queue.specs.declared.task.Task.{Task}
use Rattle.device_queue.specs.declared.task.Work.{Work}
use Rattle.device_queue.specs.declared.task.Work.TheVariants.{Joining, Seizing as Seizes}
use Rattle.wire.specs.Kinds.{is_ready}
use Rattle.wire.specs.declared.message.Body.{Body}
use Rattle.wire.specs.declared.message.Body.TheVariants as body
use Rattle.wire.specs.declared.message.Message.{Message}
use Rattle.run_outcomes.specs.phases.Laws.{is_seizing}
use Rattle.run_outcomes.specs.tasks.Laws.{IsUnregistered}
use Rattle.run_outcomes.specs.tasks.Own.{CallSo, IsEnded, IsOfOthers, IsOrdered, IsOwn, IsOwnBut, Match, Owns}
use Rattle.run_outcomes.proofs.own_tasks.Answered.{not_own, others_settled, own_settled}
use Rattle.run_outcomes.proofs.own_tasks.Matching.{else_so, of_test, then_so}

-- with this end `history` drops the tasks
abbrev pub is_dropping : AttemptEnd → Bool
is_dropping (end.Votes have need lacking) = true
is_dropping (end.Foreign n) = true
is_dropping (end.Excluded n) = true
is_dropping (end.Superseded q) = false
is_dropping (end.Silent n) = false

abbrev pub NoneQueued : List Task → Type 0
NoneQueued ts = filter is_queued ts ≡ []

abbrev pub DropsSo : List Task → List Step → Type 0
DropsSo ts steps = (e : AttemptEnd) → end_in steps ≡ Some e → is_dropping e ≡ true → NoneQueued ts

-- ---- each seizing has ended

some_unregistered : (o : Option SeizeResult) → IsUnregistered o → is_some o ≡ true
some_unregistered None h = absurd h
some_unregistered (Some r) h = refl

over_so : (w : Work) → is_seizure w ≡ true → is_some (result_in w) ≡ true → is_over_in w ≡ true
over_so (Seizes s) is some = some
over_so (Joining j) is some = absurd (false_true is)

own_over : (c : ℕ) (e : Seizing) (t : Task) → IsOwn c e t → is_some e.result ≡ true → is_queued t ≡ false
own_over c e t own some = ap not (over_so t.work own.work (by_test (is_asked e.seizer c) refl))
  where
    by_test : (b : Bool) → is_asked e.seizer c ≡ b → is_some (result_in t.work) ≡ true
    by_test true is = ap (λ (o : Option SeizeResult). is_some o) (then_so _ _ (is_asked e.seizer c) is own.result) ∙ some
    by_test false is = some_unregistered (result_in t.work) (else_so _ _ (is_asked e.seizer c) is own.result)

pub settled_none : (c : ℕ) (promises : List Promised) (es : List Seizing) (ts : List Task) → Match (IsOwn c) c promises es ts → all_settled es ≡ true → NoneQueued ts
settled_none c promises [] ts h all = ap (λ (us : List Task). filter is_queued us) h
settled_none c promises (e ∷ es) ts (inl h) all = settled_none c promises es ts h.1 (and_cases (is_some e.result) (all_settled es) all).1
settled_none c promises (e ∷ es) (t ∷ ts) (inr h) all =
    let two : (is_some e.result ≡ true) × (all_settled es ≡ true) = and_cases (is_some e.result) (all_settled es) all in
    ap (λ b. if b then t ∷ filter is_queued ts else filter is_queued ts) (own_over c e t h.0 two.0) ∙ settled_none c promises es ts h.1 two.1
settled_none c promises (e ∷ es) [] (inr h) all = absurd h

-- ---- turns

abbrev TurnDrops : List Task → Turn → Type 0
TurnDrops ts t = DropsSo ts t.steps

quiet_drops : (ts : List Task) (s : AttemptState) (steps : List Step) → IsQuiet steps → TurnDrops ts (with_steps s steps)
quiet_drops ts s steps q e is drops = absurd (none_some e (sym q.end ∙ is))

none_drops : (ts : List Task) (s : AttemptState) → TurnDrops ts (waits s)
none_drops ts s = quiet_drops ts s [] quiet_none

-- an end that leaves the tasks queued
leaves_drops : (ts : List Task) (s : AttemptState) (e : AttemptEnd) → is_dropping e ≡ false → TurnDrops ts (ends s e)
leaves_drops ts s e leaves f is drops = absurd (false_true (sym leaves ∙ (ap is_dropping (same_some e f is) ∙ drops)))

-- ---- a seizing ends, or the next node is asked

proceeding_drops : (ts : List Task) (s : AttemptState) → Match (IsOwn s.plan.coordinator) s.plan.coordinator s.promises s.devices ts → TurnDrops ts (proceeding s)
unfolding proceeding
proceeding_drops ts s h =
    of_test (TurnDrops ts) (all_settled s.devices) (settled_in s s.phase) (waits s) (λ all e is drops. settled_none s.plan.coordinator s.promises s.devices ts h all) (λ some. none_drops ts s)

settled_drops : (ts : List Task) (s : AttemptState) (d : ℕ) (r : SeizeResult) → Match (IsOwn s.plan.coordinator) s.plan.coordinator s.promises (map (with_result d r) s.devices) ts → TurnDrops ts (settled s d r)
unfolding settled
settled_drops ts s d r h = proceeding_drops ts (record s { devices = map (with_result d r) s.devices }) h

next_drops : (ts : List Task) (s : AttemptState) (d m : ℕ) (e : Seizing) → TurnDrops ts (asked_next s d e.kind m)
unfolding asked_next
next_drops ts s d m e = quiet_drops ts (record s { devices = map (with_next d m) s.devices; ticks = 0 }) (request s.plan e.kind d m ∷ []) (quiet_asked s.plan e.kind d m)

asked_drops : (ts : List Task) (s : AttemptState) (d : ℕ) (r : SeizeResult) (e : Seizing) (o : Option ℕ) → Match (IsOwn s.plan.coordinator) s.plan.coordinator s.promises (map (with_result d r) s.devices) ts → TurnDrops ts (next_asked s d r e o)
asked_drops ts s d r e None h = settled_drops ts s d r h
asked_drops ts s d r e (Some m) h = next_drops ts s d m e

-- another node's answer
others_drops : (n : ℕ) (ts : List Task) (s : AttemptState) (d from : ℕ) (r : SeizeResult) (o : Option Seizing) → IsOrdered n s → Match (IsOwn s.plan.coordinator) s.plan.coordinator s.promises s.devices ts
    → (from == s.plan.coordinator) ≡ false → find (awaits d from) s.devices ≡ o → TurnDrops ts (answered_on s d r o)
others_drops n ts s d from r None ok h other found = none_drops ts s
others_drops n ts s d from r (Some e) ok h other found =
    let c : ℕ = s.plan.coordinator in
    asked_drops ts s d r e (next_by s.plan.cluster s.promises s.plan.nodes e e.kind r) (others_settled c d s.promises r s.devices ts (not_own c d from s.devices e ok.apart found other) h)

answering_drops : (n : ℕ) (ts : List Task) (s : AttemptState) (d from : ℕ) (r : SeizeResult) → is_seizing s.phase ≡ true → IsOrdered n s → Owns n ts s
    → ((from == s.plan.coordinator) ≡ true → find (awaits d from) s.devices ≡ None) → TurnDrops ts (answering s d from r)
unfolding answering
answering_drops n ts s d from r is ok h self = by_test (from == s.plan.coordinator) refl
  where
    by_test : (b : Bool) → (from == s.plan.coordinator) ≡ b → TurnDrops ts (answered_on s d r (find (awaits d from) s.devices))
    by_test true own = subst (λ o. TurnDrops ts (answered_on s d r o)) (sym (self own)) (none_drops ts s)
    by_test false other = others_drops n ts s d from r (find (awaits d from) s.devices) ok (h.seizes is ok) other refl

answering_in_drops : (n : ℕ) (ts : List Task) (s : AttemptState) (d from : ℕ) (r : SeizeResult) (p : Phase) → s.phase ≡ p → IsOrdered n s → Owns n ts s
    → (is_seizing s.phase ≡ true → (from == s.plan.coordinator) ≡ true → find (awaits d from) s.devices ≡ None) → TurnDrops ts (answering_in s d from r p)
answering_in_drops n ts s d from r SeizingVotes at ok h self = answering_drops n ts s d from r (ap is_seizing at) ok h (self (ap is_seizing at))
answering_in_drops n ts s d from r SeizingOthers at ok h self = answering_drops n ts s d from r (ap is_seizing at) ok h (self (ap is_seizing at))
answering_in_drops n ts s d from r Collecting at ok h self = none_drops ts s
answering_in_drops n ts s d from r Choosing at ok h self = none_drops ts s
answering_in_drops n ts s d from r Installing at ok h self = none_drops ts s
answering_in_drops n ts s d from r Over at ok h self = none_drops ts s

-- the own one
own_on_drops : (ts : List Task) (s : AttemptState) (d : ℕ) (r : SeizeResult) (o : Option Seizing) → Match (IsOwnBut s.plan.coordinator d r) s.plan.coordinator s.promises s.devices ts → TurnDrops ts (answered_on s d r o)
own_on_drops ts s d r None h = none_drops ts s
own_on_drops ts s d r (Some e) h =
    asked_drops ts s d r e (next_by s.plan.cluster s.promises s.plan.nodes e e.kind r) (own_settled s.plan.coordinator d s.promises r s.devices ts h)

own_answering_drops : (ts : List Task) (s : AttemptState) (d : ℕ) (r : SeizeResult) → Match (IsOwnBut s.plan.coordinator d r) s.plan.coordinator s.promises s.devices ts → TurnDrops ts (answering s d s.plan.coordinator r)
unfolding answering
own_answering_drops ts s d r h = own_on_drops ts s d r (find (awaits d s.plan.coordinator) s.devices) h

own_in_drops : (n : ℕ) (ts : List Task) (s : AttemptState) (d : ℕ) (r : SeizeResult) (p : Phase) → s.phase ≡ p → (is_seizing s.phase ≡ true → IsEnded n ts s d r) → TurnDrops ts (answering_in s d s.plan.coordinator r p)
own_in_drops n ts s d r SeizingVotes at h = own_answering_drops ts s d r (h (ap is_seizing at)).match
own_in_drops n ts s d r SeizingOthers at h = own_answering_drops ts s d r (h (ap is_seizing at)).match
own_in_drops n ts s d r Collecting at h = none_drops ts s
own_in_drops n ts s d r Choosing at h = none_drops ts s
own_in_drops n ts s d r Installing at h = none_drops ts s
own_in_drops n ts s d r Over at h = none_drops ts s

own_seized_drops : (n : ℕ) (ts : List Task) (s : AttemptState) (d : ℕ) (r : SeizeResult) → (is_seizing s.phase ≡ true → IsEnded n ts s d r) → TurnDrops ts (own_answering s d r)
unfolding own_answering
own_seized_drops n ts s d r h = own_in_drops n ts s d r s.phase refl h

-- ---- Promises and Readies

chosen_drops : (ts : List Task) (s : AttemptState) (o : Option Shown) → TurnDrops ts (chosen_by s o)
chosen_drops ts s None = none_drops ts s
chosen_drops ts s (Some newest) = λ e is drops. absurd (none_some e is)

choosing_drops : (ts : List Task) (s : AttemptState) → TurnDrops ts (choosing s)
unfolding choosing
choosing_drops ts s = chosen_drops ts s (newest_shown s.promises)

promise_drops : (ts : List Task) (s : AttemptState) (o : Option Promised) → TurnDrops ts (with_promise s o)
promise_drops ts s None = none_drops ts s
promise_drops ts s (Some p) =
    let t : AttemptState = record s { promises = s.promises ++ p ∷ [] } in
    if_either (TurnDrops ts) (all_promised t) (choosing t) (waits t) (choosing_drops ts t) (none_drops ts t)

promising_drops : (ts : List Task) (s : AttemptState) (from : ℕ) (m : Message) → TurnDrops ts (promising s from m)
unfolding promising
promising_drops ts s from m =
    if_either (TurnDrops ts) (awaits_promise s from s.phase) (with_promise s (promised_by m (shown_by from m.body))) (waits s) (promise_drops ts s (promised_by m (shown_by from m.body))) (none_drops ts s)

starting_drops : (ts : List Task) (s : AttemptState) → TurnDrops ts (starting s)
unfolding starting
starting_drops ts s =
    if_either (TurnDrops ts) (s.own_ready && all_ready s) (with_steps (record s { phase = Over }) (StartHere ∷ map (send_start s.plan) (others_of s.plan))) (waits s)
    (λ e is drops. absurd (none_some e (sym (quiet_starts s).end ∙ is))) (none_drops ts s)

readying_drops : (ts : List Task) (s : AttemptState) (from : ℕ) (m : Message) → TurnDrops ts (readying s from m)
unfolding readying
readying_drops ts s from m =
    let t : AttemptState = record s { readies = s.readies ++ record { node = from; message = m } ∷ [] } in
    if_either (TurnDrops ts) (awaits_ready s from s.phase && is_ready m.body) (starting t) (waits s) (starting_drops ts t) (none_drops ts s)

own_ready_in_drops : (ts : List Task) (s : AttemptState) (p : Phase) → TurnDrops ts (own_readying_in s p)
own_ready_in_drops ts s Installing = starting_drops ts (record s { own_ready = true })
own_ready_in_drops ts s Collecting = none_drops ts s
own_ready_in_drops ts s Choosing = none_drops ts s
own_ready_in_drops ts s SeizingVotes = none_drops ts s
own_ready_in_drops ts s SeizingOthers = none_drops ts s
own_ready_in_drops ts s Over = none_drops ts s

pub own_ready_drops : (ts : List Task) (s : AttemptState) → TurnDrops ts (own_readying s)
unfolding own_readying
own_ready_drops ts s = own_ready_in_drops ts s s.phase

-- ---- messages and ticks

taken_drops : (n : ℕ) (ts : List Task) (s : AttemptState) (from : ℕ) (m : Message) (b : Body) → IsOrdered n s → Owns n ts s → IsOfOthers s from b → is_of s.plan.epoch b ≡ true → TurnDrops ts (taken s from m b)
taken_drops n ts s from m (body.Promise e installed members valid flagged committed pending) ok h others of = promising_drops ts s from m
taken_drops n ts s from m (body.Nack e promised) ok h others of = leaves_drops ts s _ refl
taken_drops n ts s from m (body.Seized e d r) ok h others of = answering_in_drops n ts s d from r s.phase refl ok h (λ is own. others is of own)
taken_drops n ts s from m (body.Ready e joined report) ok h others of = readying_drops ts s from m
taken_drops n ts s from m _ ok h others of = none_drops ts s

taking_drops : (n : ℕ) (ts : List Task) (s : AttemptState) (from : ℕ) (m : Message) → IsOrdered n s → Owns n ts s → IsOfOthers s from m.body → TurnDrops ts (taking s from m)
unfolding taking
taking_drops n ts s from m ok h others =
    of_test (TurnDrops ts) (not (is_over s.phase) && is_of s.plan.epoch m.body) (taken s from m m.body) (waits s)
    (λ so. taken_drops n ts s from m m.body ok h others (and_cases (not (is_over s.phase)) (is_of s.plan.epoch m.body) so).1) (λ no. none_drops ts s)

silenced_drops : (ts : List Task) (s : AttemptState) (o : Option ℕ) → TurnDrops ts (silenced s o)
silenced_drops ts s None = none_drops ts s
silenced_drops ts s (Some m) = leaves_drops ts s _ refl

ticked_drops : (ts : List Task) (s : AttemptState) → TurnDrops ts (ticked s)
ticked_drops ts s =
    if_either (TurnDrops ts) (nat_le 8 s.ticks) (silenced s (find (is_missing s) s.plan.nodes)) (if s.ticks == 4 then with_steps s (again_in s s.phase) else waits s) (silenced_drops ts s (find (is_missing s) s.plan.nodes))
    (if_either (TurnDrops ts) (s.ticks == 4) (with_steps s (again_in s s.phase)) (waits s) (quiet_drops ts s (again_in s s.phase) (quiet_again_in s s.phase)) (none_drops ts s))

ticking_drops : (ts : List Task) (s : AttemptState) → TurnDrops ts (ticking s)
unfolding ticking
ticking_drops ts s =
    let t : AttemptState = record s { ticks = later s.ticks } in
    if_either (TurnDrops ts) (is_over s.phase) (waits s) (ticked t) (none_drops ts s) (ticked_drops ts t)

-- ---- each call

pub call_drops : (n : ℕ) (ts : List Task) (s : AttemptState) (k : Call) → CallSo n ts s k → DropsSo ts (turn s k).steps
call_drops n ts s (Take from m) h = taking_drops n ts s from m h.0 h.1 h.2
call_drops n ts s (With_votes both) h = λ e is drops. ap (λ (us : List Task). filter is_queued us) h
call_drops n ts s (Own_seized d r) h = own_seized_drops n ts s d r h.0
call_drops n ts s Own_ready h = own_ready_drops ts s
call_drops n ts s Tick h = ticking_drops ts s
