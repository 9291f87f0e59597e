-- Where an attempt ends for want of votes: either before anything was seized, or once all seizings of quorum devices have ended.
use Rattle.std.specs.Prelude.{ℕ, ◌≡◌, ◌==◌, ◌&&◌, ◌⊎◌, nat_le, not, true, List, [], ◌∷◌, ◌++◌, length, map, Option, None, Some}
use Rattle.std.specs.List.{filter_map, find}
use Rattle.std.proofs.Common.{refl, sym, subst, ◌∙◌, inl, inr}
use Rattle.attempt_laws.proofs.QuietLemmas.{IsQuiet, quiet_again_in, quiet_asked, quiet_installed, quiet_requests, quiet_starts}
use Rattle.cl_base.specs.Seizings.{SeizeResult}
use Rattle.attempt_laws.proofs.Walk.{if_with}
use Rattle.cmm_attempt.proofs.Basics.{if_either, none_some, same_some}
use Rattle.cmm_attempt.specs.Attempts.{AttemptState, Turn, admitted, again_in, all_promised, all_ready, answered_on, answering, answering_in, asked_next, asked_votes, awaits_promise, awaits_ready, choosing, chosen_by, counted_by, counting, ended_by, ends, in_phase, installing, is_missing, is_of, is_over, known, knowing, later, next_asked, own_answering, own_readying, own_readying_in, plain_devices, possible, proceeding, promising, readying, seizing_others, seizing_votes, settled, settled_in, shortage, shortage_under, silenced, starting, taken, taking, ticked, ticking, vote_entries, voting, waits, with_promise, with_steps}
use Rattle.cmm_attempt.specs.Calls.{Call, IsReached, Own_ready, Own_seized, Take, Tick, With_votes, end_in, turn}
use Rattle.cmm_attempt.specs.Counts.{first_foreign, first_short, reached_set, votes_end}
use Rattle.cmm_attempt.specs.Installs.{send_start}
use Rattle.cmm_attempt.specs.Plans.{others_of}
use Rattle.cmm_attempt.specs.Promises.{first_left_out, newest_shown, promised_by, shown_by}
use Rattle.cmm_attempt.specs.Seizings.{all_settled, awaits, held_set, next_by, request_for, with_result}
use Rattle.cmm_attempt.specs.declared.counting.BothVotes.{BothVotes}
use Rattle.cmm_attempt.specs.declared.phase.Phase.{Phase}
use Rattle.cmm_attempt.specs.declared.phase.Phase.TheVariants.{Collecting, Choosing, SeizingVotes, SeizingOthers, Installing, Over}
use Rattle.cmm_attempt.specs.declared.promised.Promised.{Promised}
use Rattle.cmm_attempt.specs.declared.promised.Shown.{Shown}
use Rattle.cmm_attempt.specs.declared.seizing.Seizing.{Seizing}
use Rattle.cmm_attempt.specs.declared.step.AttemptEnd.{AttemptEnd}
use Rattle.cmm_attempt.specs.declared.step.AttemptEnd.TheVariants as end
use Rattle.cmm_attempt.specs.declared.step.Step.{Step}
use Rattle.cmm_attempt.specs.declared.step.Step.TheVariants.{StartHere}
use Rattle.quorum_votes.specs.Tables.{VoteTable}
use Rattle.wire.specs.Kinds.{is_ready}
use Rattle.wire.specs.declared.message.Body.{Body}
use Rattle.wire.specs.declared.message.Body.TheVariants as body
use Rattle.wire.specs.declared.message.Message.{Message}
use Rattle.run_outcomes.specs.counts.Shorts.{IsPossible, IsSettled, ShortBy}
use Rattle.run_outcomes.proofs.counts.Listed.{AreListed, IsVotes, entries_listed, listed_reached, same_result}

-- ---- steps that end it so

abbrev Shorts : Turn → Type 0
Shorts t = (why : AttemptEnd) → end_in t.steps ≡ Some why → IsVotes why → ShortBy t.after why

waits_so : (s : AttemptState) → Shorts (waits s)
waits_so s why is votes = absurd (none_some why is)

quiet_so : (s : AttemptState) (steps : List Step) → IsQuiet steps → Shorts (with_steps s steps)
quiet_so s steps q why is votes = absurd (none_some why (sym q.end ∙ is))

other_so : (s : AttemptState) (e : AttemptEnd) → (IsVotes e → ⊥) → Shorts (ends s e)
other_so s e other why is votes = absurd (other (subst IsVotes (sym (same_some e why is)) votes))

ends_so : (s : AttemptState) (e : AttemptEnd) → ShortBy (record s { phase = Over }) e → Shorts (ends s e)
ends_so s e h why is votes = subst (ShortBy (record s { phase = Over })) (same_some e why is) h

starting_so : (s : AttemptState) → Shorts (starting s)
unfolding starting
starting_so s =
    if_either Shorts (s.own_ready && all_ready s) (with_steps (record s { phase = Over }) (StartHere ∷ map (send_start s.plan) (others_of s.plan))) (waits s)
    (λ why is votes. absurd (none_some why (sym (quiet_starts s).end ∙ is))) (waits_so s)

installing_so : (s : AttemptState) → Shorts (installing s)
unfolding installing
installing_so s why is votes = absurd (none_some why (sym (quiet_installed (in_phase s Installing)).end ∙ is))

others_so : (s : AttemptState) → Shorts (seizing_others s)
unfolding seizing_others
others_so s =
    let t : AttemptState = record (in_phase s SeizingOthers) { devices = s.devices ++ plain_devices s } in
    if_either Shorts (length (plain_devices s) == 0) (installing s) (with_steps t (filter_map (request_for s.plan) (plain_devices s))) (installing_so s)
    (quiet_so t (filter_map (request_for s.plan) (plain_devices s)) (quiet_requests s.plan (plain_devices s)))

-- ---- counting

short_by : (s : AttemptState) (both : BothVotes) (set : ℕ) (o : Option VoteTable) (e : AttemptEnd) → s.votes ≡ Some both → first_short both s.plan.members set ≡ o → ended_by s set o ≡ Some e → IsPossible s set ⊎ IsSettled s both set
    → ShortBy (record s { phase = Over }) e
short_by s both set None e given short is stage = absurd (none_some e is)
short_by s both set (Some v) e given short is stage = record { both = both; given = given; set = set; v = v; short = short; is = sym (same_some (votes_end s.plan s.devices set v) e is); stage = stage_over stage }
  where
    stage_over : IsPossible s set ⊎ IsSettled s both set → IsPossible (record s { phase = Over }) set ⊎ IsSettled (record s { phase = Over }) both set
    stage_over (inl h) = inl h
    stage_over (inr h) = inr h

short_so : (s : AttemptState) (set : ℕ) (o : Option BothVotes) (e : AttemptEnd) → s.votes ≡ o → shortage_under s set o ≡ Some e → ((both : BothVotes) → s.votes ≡ Some both → IsPossible s set ⊎ IsSettled s both set) → ShortBy (record s { phase = Over }) e
short_so s set None e given is stage = absurd (none_some e is)
short_so s set (Some both) e given is stage = short_by s both set (first_short both s.plan.members set) e given refl is (stage both given)

counted_so : (s : AttemptState) (o : Option AttemptEnd) → ((e : AttemptEnd) → o ≡ Some e → ShortBy (record s { phase = Over }) e) → Shorts (counted_by s o)
counted_so s None h = others_so (record s { counted = held_set s.devices })
counted_so s (Some e) h = ends_so s e (h e refl)

counting_so : (s : AttemptState) → all_settled s.devices ≡ true → AreListed s → Shorts (counting s)
unfolding counting
counting_so s all listed = counted_so s (shortage s (held_set s.devices)) (λ e is. short_so s (held_set s.devices) s.votes e refl is (λ both given. inr (refl, all, listed both given)))

settled_in_so : (s : AttemptState) (phase : Phase) → s.phase ≡ phase → all_settled s.devices ≡ true → (s.phase ≡ SeizingVotes → AreListed s) → Shorts (settled_in s phase)
settled_in_so s SeizingVotes is all listed = counting_so s all (listed is)
settled_in_so s SeizingOthers is all listed = installing_so s
settled_in_so s Collecting is all listed = waits_so s
settled_in_so s Choosing is all listed = waits_so s
settled_in_so s Installing is all listed = waits_so s
settled_in_so s Over is all listed = waits_so s

proceeding_so : (s : AttemptState) → (s.phase ≡ SeizingVotes → AreListed s) → Shorts (proceeding s)
unfolding proceeding
proceeding_so s listed = if_with Shorts (all_settled s.devices) (all_settled s.devices) (settled_in s s.phase) (waits s) refl (λ all. settled_in_so s s.phase refl all listed) (λ none. waits_so s)

settled_so : (s : AttemptState) (d : ℕ) (r : SeizeResult) → (s.phase ≡ SeizingVotes → AreListed s) → Shorts (settled s d r)
unfolding settled
settled_so s d r listed = proceeding_so (record s { devices = map (with_result d r) s.devices }) (λ is both given. same_result d r s.devices ∙ listed is both given)

-- ---- answers

next_so : (s : AttemptState) (d : ℕ) (r : SeizeResult) (e : Seizing) (o : Option ℕ) → (s.phase ≡ SeizingVotes → AreListed s) → Shorts (next_asked s d r e o)
unfolding asked_next
next_so s d r e None listed = settled_so s d r listed
next_so s d r e (Some n) listed = λ why is votes. absurd (none_some why (sym (quiet_asked s.plan e.kind d n).end ∙ is))

answered_so : (s : AttemptState) (d : ℕ) (r : SeizeResult) (o : Option Seizing) → (s.phase ≡ SeizingVotes → AreListed s) → Shorts (answered_on s d r o)
answered_so s d r None listed = waits_so s
answered_so s d r (Some e) listed = next_so s d r e (next_by s.plan.cluster s.promises s.plan.nodes e e.kind r) listed

answering_so : (s : AttemptState) (d from : ℕ) (r : SeizeResult) → (s.phase ≡ SeizingVotes → AreListed s) → Shorts (answering s d from r)
unfolding answering
answering_so s d from r listed = answered_so s d r (find (awaits d from) s.devices) listed

answering_in_so : (s : AttemptState) (d from : ℕ) (r : SeizeResult) (phase : Phase) → (s.phase ≡ SeizingVotes → AreListed s) → Shorts (answering_in s d from r phase)
answering_in_so s d from r SeizingVotes listed = answering_so s d from r listed
answering_in_so s d from r SeizingOthers listed = answering_so s d from r listed
answering_in_so s d from r Collecting listed = waits_so s
answering_in_so s d from r Choosing listed = waits_so s
answering_in_so s d from r Installing listed = waits_so s
answering_in_so s d from r Over listed = waits_so s

own_answering_so : (s : AttemptState) (d : ℕ) (r : SeizeResult) → (s.phase ≡ SeizingVotes → AreListed s) → Shorts (own_answering s d r)
unfolding own_answering
own_answering_so s d r listed = answering_in_so s d s.plan.coordinator r s.phase listed

-- ---- Promises and Readies

chosen_so : (s : AttemptState) (o : Option Shown) → Shorts (chosen_by s o)
chosen_so s None = waits_so s
chosen_so s (Some newest) = λ why is votes. absurd (none_some why is)

choosing_so : (s : AttemptState) → Shorts (choosing s)
unfolding choosing
choosing_so s = chosen_so s (newest_shown s.promises)

promise_so : (s : AttemptState) (o : Option Promised) → Shorts (with_promise s o)
promise_so s None = waits_so s
promise_so s (Some p) =
    let t : AttemptState = record s { promises = s.promises ++ p ∷ [] } in
    if_either Shorts (all_promised t) (choosing t) (waits t) (choosing_so t) (waits_so t)

promising_so : (s : AttemptState) (from : ℕ) (m : Message) → Shorts (promising s from m)
unfolding promising
promising_so s from m = if_either Shorts (awaits_promise s from s.phase) (with_promise s (promised_by m (shown_by from m.body))) (waits s) (promise_so s (promised_by m (shown_by from m.body))) (waits_so s)

readying_so : (s : AttemptState) (from : ℕ) (m : Message) → Shorts (readying s from m)
unfolding readying
readying_so s from m =
    if_either Shorts (awaits_ready s from s.phase && is_ready m.body) (starting (record s { readies = s.readies ++ record { node = from; message = m } ∷ [] })) (waits s)
    (starting_so (record s { readies = s.readies ++ record { node = from; message = m } ∷ [] })) (waits_so s)

own_ready_so : (s : AttemptState) (phase : Phase) → Shorts (own_readying_in s phase)
own_ready_so s Installing = starting_so (record s { own_ready = true })
own_ready_so s Collecting = waits_so s
own_ready_so s Choosing = waits_so s
own_ready_so s SeizingVotes = waits_so s
own_ready_so s SeizingOthers = waits_so s
own_ready_so s Over = waits_so s

own_readying_so : (s : AttemptState) → Shorts (own_readying s)
unfolding own_readying
own_readying_so s = own_ready_so s s.phase

-- ---- calls

taken_so : (s : AttemptState) (from : ℕ) (m : Message) (b : Body) → (s.phase ≡ SeizingVotes → AreListed s) → Shorts (taken s from m b)
taken_so s from m (body.Promise epoch installed members valid flagged committed pending) listed = promising_so s from m
taken_so s from m (body.Nack epoch promised) listed = other_so s (end.Superseded promised) (λ h. h)
taken_so s from m (body.Seized epoch device outcome) listed = answering_in_so s device from outcome s.phase listed
taken_so s from m (body.Ready epoch joined report) listed = readying_so s from m
taken_so s from m _ listed = waits_so s

taking_so : (s : AttemptState) (from : ℕ) (m : Message) → (s.phase ≡ SeizingVotes → AreListed s) → Shorts (taking s from m)
unfolding taking
taking_so s from m listed = if_either Shorts (not (is_over s.phase) && is_of s.plan.epoch m.body) (taken s from m m.body) (waits s) (taken_so s from m m.body listed) (waits_so s)

silenced_so : (s : AttemptState) (o : Option ℕ) → Shorts (silenced s o)
silenced_so s None = waits_so s
silenced_so s (Some n) = other_so s (end.Silent n) (λ h. h)

ticked_so : (s : AttemptState) → Shorts (ticked s)
ticked_so s =
    if_either Shorts (nat_le 8 s.ticks) (silenced s (find (is_missing s) s.plan.nodes)) _ (silenced_so s (find (is_missing s) s.plan.nodes))
    (if_either Shorts (s.ticks == 4) (with_steps s (again_in s s.phase)) (waits s) (quiet_so s (again_in s s.phase) (quiet_again_in s s.phase)) (waits_so s))

ticking_so : (s : AttemptState) → Shorts (ticking s)
unfolding ticking
ticking_so s = if_either Shorts (is_over s.phase) (waits s) (ticked (record s { ticks = later s.ticks })) (waits_so s) (ticked_so (record s { ticks = later s.ticks }))

-- ---- votes are given

votes_so : (s : AttemptState) → Shorts (seizing_votes s)
unfolding seizing_votes asked_votes
votes_so s =
    let t : AttemptState = record s { devices = vote_entries s } in
    if_with Shorts (all_settled t.devices) (all_settled t.devices) (counting t) (with_steps t (filter_map (request_for t.plan) t.devices)) refl (λ all. counting_so t all (λ both given. entries_listed s both given))
    (λ none. quiet_so t (filter_map (request_for t.plan) t.devices) (quiet_requests t.plan t.devices))

possible_so : (s : AttemptState) (o : Option AttemptEnd) → ((e : AttemptEnd) → o ≡ Some e → ShortBy (record s { phase = Over }) e) → Shorts (possible s o)
possible_so s None h = votes_so s
possible_so s (Some e) h = ends_so s e (h e refl)

known_so : (s : AttemptState) (o : Option ℕ) → s.devices ≡ [] → Shorts (known s o)
known_so s None none = possible_so s (shortage s (reached_set s.plan)) (λ e is. short_so s (reached_set s.plan) s.votes e refl is (λ both given. inl (refl, none)))
known_so s (Some n) none = other_so s (end.Excluded n) (λ h. h)

knowing_so : (s : AttemptState) → s.devices ≡ [] → Shorts (knowing s)
unfolding knowing
knowing_so s none = known_so s (first_left_out s.promises s.plan.nodes (newest_shown s.promises)) none

admitted_so : (s : AttemptState) (o : Option ℕ) → s.devices ≡ [] → Shorts (admitted s o)
admitted_so s None none = knowing_so s none
admitted_so s (Some n) none = other_so s (end.Foreign n) (λ h. h)

voting_so : (s : AttemptState) (both : BothVotes) → Shorts (voting s both)
unfolding voting
voting_so s both = admitted_so (record (in_phase s SeizingVotes) { votes = Some both; devices = [] }) (first_foreign both s.plan.nodes) refl

-- an attempt that is reached ends so by what it has seized
pub call_short : (a : AttemptState) (k : Call) (why : AttemptEnd) → IsReached a → end_in (turn a k).steps ≡ Some why → IsVotes why → ShortBy (turn a k).after why
call_short a (With_votes both) why reached is votes = voting_so a both why is votes
call_short a (Take from message) why reached is votes = taking_so a from message (listed_reached a reached) why is votes
call_short a (Own_seized d r) why reached is votes = own_answering_so a d r (listed_reached a reached) why is votes
call_short a Own_ready why reached is votes = own_readying_so a why is votes
call_short a Tick why reached is votes = ticking_so a why is votes
