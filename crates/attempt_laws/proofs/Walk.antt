-- One walk over the calls: what holds of an attempt at rest, what holds of it between the small steps of a call, and what holds of each turn that a
-- call may be.
use Rattle.std.proofs.Common.{◌≡◌, ℕ, ◌⊎◌, inl, inr, ap, ◌∙◌, [], ◌∷◌, ◌++◌, length, map, refl, subst, arith}
use Rattle.std.specs.Prelude.{◌==◌, ◌&&◌, nat_le, Bool, true, false, not, Option, Some, None, if◌then◌else◌}
use Rattle.std.specs.List.{find, filter_map}
use Rattle.cl_base.specs.Seizings.{SeizeResult}
use Rattle.wire.specs.declared.message.Body.{Body}
use Rattle.wire.specs.declared.message.Body.TheVariants as body
use Rattle.wire.specs.declared.message.Message.{Message}
use Rattle.cmm_attempt.specs.declared.counting.BothVotes.{BothVotes}
use Rattle.cmm_attempt.specs.declared.phase.Phase.{Phase}
use Rattle.cmm_attempt.specs.declared.phase.Phase.TheVariants.{Collecting, Choosing, SeizingVotes, SeizingOthers, Installing, Over}
use Rattle.cmm_attempt.specs.declared.promised.Promised.{Promised}
use Rattle.cmm_attempt.specs.declared.promised.Shown.{Shown}
use Rattle.cmm_attempt.specs.declared.seizing.Seizing.{Seizing}
use Rattle.cmm_attempt.specs.declared.step.Step.TheVariants.{StartHere}
use Rattle.cmm_attempt.specs.declared.step.AttemptEnd.{AttemptEnd}
use Rattle.cmm_attempt.specs.declared.step.AttemptEnd.TheVariants.{Superseded, Silent, Foreign, Excluded}
use Rattle.cmm_attempt.specs.Plans.{others_of}
use Rattle.cmm_attempt.specs.Seizings.{all_settled, awaits, held_set, next_by, request_for, with_result}
use Rattle.cmm_attempt.specs.Calls.{Call, Take, With_votes, Own_seized, Own_ready, Tick, turn}
use Rattle.cmm_attempt.proofs.Basics.{and_cases, false_true}
use Rattle.cmm_attempt.specs.Promises.{promised_by, shown_by, newest_shown, first_left_out}
use Rattle.wire.specs.Kinds.{is_ready}
use Rattle.cmm_attempt.specs.Counts.{first_foreign, reached_set}
use Rattle.cmm_attempt.specs.Installs.{send_start}
use Rattle.cmm_attempt.specs.Attempts.{AttemptState, Turn, with_steps, waits, ends, is_over, is_missing, all_ready, starting, in_phase, installing, plain_devices, seizing_others, shortage, counted_by, counting, settled_in, proceeding, settled, asked_next, next_asked, answered_on, answering, answering_in, asked_votes, vote_entries, seizing_votes, possible, known, knowing, admitted, voting, chosen, chosen_by, choosing, all_promised, collects, begun, awaits_promise, gathered, with_promise, promising, awaits_ready, readying, is_of, taken, taking, own_readying_in, own_readying, own_answering, again_in, silenced, ticked, later, ticking}

pub if_with : {X : Type 0} (P : X → Type 0) (b c : Bool) (x y : X) → b ≡ c → (b ≡ true → P x) → (b ≡ false → P y) → P (if c then x else y)
if_with P b true x y e p q = p e
if_with P b false x y e p q = q e

abbrev pub IsSeizing : Phase → Type 0
IsSeizing phase = (phase ≡ SeizingVotes) ⊎ (phase ≡ SeizingOthers)

-- The call tells how the seizing of device d by this node ended.
abbrev pub TellsResult : Call → AttemptState → ℕ → ℕ → SeizeResult → Type 0
TellsResult (Take from m) s d n r = (from ≡ n) × (m.body ≡ body.Seized s.plan.epoch d r)
TellsResult (Own_seized device told) s d n r = (device ≡ d) × (told ≡ r) × (n ≡ s.plan.coordinator)
TellsResult (With_votes both) s d n r = ⊥
TellsResult Own_ready s d n r = ⊥
TellsResult Tick s d n r = ⊥

-- `I` holds at rest, `K` between the small steps of the call c, and `P` of the turn.
pub record Walk (c : Call) (I K : AttemptState → Type 0) (P : Turn → Type 0) : Type 0 where
  pub within : (s : AttemptState) → I s → K s
  pub rests : (s : AttemptState) → I s → P (waits s)
  -- a tick passes: nothing is done, the phase's message goes again, or a missing answer ends it
  pub passes : (s : AttemptState) → c ≡ Tick → (later s.ticks == 4) ≡ false → I s → P (waits (record s { ticks = later s.ticks }))
  pub again : (s : AttemptState) → c ≡ Tick → (later s.ticks == 4) ≡ true → I s
      → P (with_steps (record s { ticks = later s.ticks }) (again_in (record s { ticks = later s.ticks }) s.phase))
  pub silent : (s : AttemptState) (n : ℕ) → c ≡ Tick → nat_le 8 (later s.ticks) ≡ true → find (is_missing s) s.plan.nodes ≡ Some n → I s
      → P (ends (record s { ticks = later s.ticks }) (Silent n))
  pub superseded : (s : AttemptState) (from : ℕ) (m : Message) (q : ℕ) → c ≡ Take from m → m.body ≡ body.Nack s.plan.epoch q → I s → P (ends s (Superseded q))
  -- a Promise is taken, and others are awaited; all are there
  pub promise : (s : AttemptState) (from : ℕ) (m : Message) (p : Promised) → c ≡ Take from m → awaits_promise s from s.phase ≡ true → is_of s.plan.epoch m.body ≡ true
      → promised_by m (shown_by from m.body) ≡ Some p → I s → K (record s { promises = s.promises ++ p ∷ [] })
  pub collects : (s : AttemptState) → s.phase ≡ Collecting → all_promised s ≡ false → K s → P (with_steps s (collects s))
  pub collecting : (s : AttemptState) → s.phase ≡ Collecting → all_promised s ≡ false → K s → P (waits s)
  pub no_newest : (s : AttemptState) → s.phase ≡ Collecting → all_promised s ≡ true → newest_shown s.promises ≡ None → K s → P (waits s)
  pub chosen : (s : AttemptState) (newest : Shown) → s.phase ≡ Collecting → all_promised s ≡ true → newest_shown s.promises ≡ Some newest → K s → P (chosen s newest)
  -- the votes are given: a member is foreign, or left out, or the votes are too few; or quorum devices are to be seized
  pub votes : (s : AttemptState) (both : BothVotes) → c ≡ With_votes both → I s → K (record (in_phase s SeizingVotes) { votes = Some both; devices = [] })
  pub foreign : (s : AttemptState) (both : BothVotes) (n : ℕ) → s.phase ≡ SeizingVotes → s.votes ≡ Some both → first_foreign both s.plan.nodes ≡ Some n → K s → P (ends s (Foreign n))
  pub excluded : (s : AttemptState) (n : ℕ) → s.phase ≡ SeizingVotes → first_left_out s.promises s.plan.nodes (newest_shown s.promises) ≡ Some n → K s → P (ends s (Excluded n))
  pub impossible : (s : AttemptState) (e : AttemptEnd) → s.phase ≡ SeizingVotes → shortage s (reached_set s.plan) ≡ Some e → K s → P (ends s e)
  pub entries : (s : AttemptState) → s.phase ≡ SeizingVotes → shortage s (reached_set s.plan) ≡ None → K s → K (record s { devices = vote_entries s })
  pub requests : (s : AttemptState) → s.phase ≡ SeizingVotes → all_settled s.devices ≡ false → K s → P (with_steps s (filter_map (request_for s.plan) s.devices))
  -- a seizing ends, or the next node is asked
  pub result : (s : AttemptState) (d from : ℕ) (r : SeizeResult) (e : Seizing) → IsSeizing s.phase → TellsResult c s d from r → find (awaits d from) s.devices ≡ Some e
      → next_by s.plan.cluster s.promises s.plan.nodes e e.kind r ≡ None → I s → K (record s { devices = map (with_result d r) s.devices })
  pub next : (s : AttemptState) (d from n : ℕ) (r : SeizeResult) (e : Seizing) → IsSeizing s.phase → TellsResult c s d from r → find (awaits d from) s.devices ≡ Some e
      → next_by s.plan.cluster s.promises s.plan.nodes e e.kind r ≡ Some n → I s → P (asked_next s d e.kind n)
  pub seizing : (s : AttemptState) → IsSeizing s.phase → all_settled s.devices ≡ false → K s → P (waits s)
  -- the votes are counted, and the other devices are to be seized, if there are any
  pub short : (s : AttemptState) (e : AttemptEnd) → s.phase ≡ SeizingVotes → all_settled s.devices ≡ true → shortage s (held_set s.devices) ≡ Some e → K s → P (ends s e)
  pub others : (s : AttemptState) → s.phase ≡ SeizingVotes → all_settled s.devices ≡ true → shortage s (held_set s.devices) ≡ None → (length (plain_devices s) == 0) ≡ false → K s
      → P (with_steps (record (in_phase s SeizingOthers) { counted = held_set s.devices; devices = s.devices ++ plain_devices s }) (filter_map (request_for s.plan) (plain_devices s)))
  pub installs_at_once : (s : AttemptState) → s.phase ≡ SeizingVotes → all_settled s.devices ≡ true → shortage s (held_set s.devices) ≡ None → (length (plain_devices s) == 0) ≡ true → K s
      → P (installing (record s { counted = held_set s.devices }))
  pub installs : (s : AttemptState) → s.phase ≡ SeizingOthers → all_settled s.devices ≡ true → K s → P (installing s)
  -- members are ready
  pub ready : (s : AttemptState) (from : ℕ) (m : Message) → c ≡ Take from m → s.phase ≡ Installing → is_of s.plan.epoch m.body ≡ true → is_ready m.body ≡ true → I s
      → K (record s { readies = s.readies ++ record { node = from; message = m } ∷ [] })
  pub own : (s : AttemptState) → c ≡ Own_ready → s.phase ≡ Installing → I s → K (record s { own_ready = true })
  pub installing : (s : AttemptState) → s.phase ≡ Installing → (s.own_ready && all_ready s) ≡ false → K s → P (waits s)
  pub starts : (s : AttemptState) → s.phase ≡ Installing → (s.own_ready && all_ready s) ≡ true → K s
      → P (with_steps (record s { phase = Over }) (StartHere ∷ map (send_start s.plan) (others_of s.plan)))

-- The walk.

IsNoSeizing : Phase → Type 0
IsNoSeizing SeizingVotes = ⊥
IsNoSeizing SeizingOthers = ⊥
IsNoSeizing Collecting = Unit {0}
IsNoSeizing Choosing = Unit {0}
IsNoSeizing Installing = Unit {0}
IsNoSeizing Over = Unit {0}

not_seizing : (phase : Phase) → IsSeizing phase → IsNoSeizing phase → ⊥
unfolding IsNoSeizing
not_seizing phase (inl h) no_such = subst IsNoSeizing h no_such
not_seizing phase (inr h) no_such = subst IsNoSeizing h no_such

walks_starting : (c : Call) (I K : AttemptState → Type 0) (P : Turn → Type 0) → Walk c I K P → (s : AttemptState) → s.phase ≡ Installing → K s → P (starting s)
unfolding starting
walks_starting c I K P W s is k =
    let test : Bool = s.own_ready && all_ready s in
    if_with P test test (with_steps (record s { phase = Over }) (StartHere ∷ map (send_start s.plan) (others_of s.plan))) (waits s) refl
    (λ e. W.starts s is e k) (λ e. W.installing s is e k)

walks_others : (c : Call) (I K : AttemptState → Type 0) (P : Turn → Type 0) → Walk c I K P → (s : AttemptState) → s.phase ≡ SeizingVotes → all_settled s.devices ≡ true
    → shortage s (held_set s.devices) ≡ None → K s → P (seizing_others (record s { counted = held_set s.devices }))
unfolding seizing_others
walks_others c I K P W s is all enough k =
    let t : AttemptState = record s { counted = held_set s.devices } in
    let none : Bool = length (plain_devices s) == 0 in
    if_with P none none (installing t)
    (with_steps (record (in_phase t SeizingOthers) { devices = s.devices ++ plain_devices s }) (filter_map (request_for s.plan) (plain_devices s))) refl
    (λ e. W.installs_at_once s is all enough e k) (λ e. W.others s is all enough e k)

walks_counted : (c : Call) (I K : AttemptState → Type 0) (P : Turn → Type 0) → Walk c I K P → (s : AttemptState) (o : Option AttemptEnd) → shortage s (held_set s.devices) ≡ o
    → s.phase ≡ SeizingVotes → all_settled s.devices ≡ true → K s → P (counted_by s o)
walks_counted c I K P W s (Some e) h is all k = W.short s e is all h k
walks_counted c I K P W s None h is all k = walks_others c I K P W s is all h k

walks_counting : (c : Call) (I K : AttemptState → Type 0) (P : Turn → Type 0) → Walk c I K P → (s : AttemptState) → s.phase ≡ SeizingVotes → all_settled s.devices ≡ true → K s
    → P (counting s)
unfolding counting
walks_counting c I K P W s is all k = walks_counted c I K P W s (shortage s (held_set s.devices)) refl is all k

walks_settled_in : (c : Call) (I K : AttemptState → Type 0) (P : Turn → Type 0) → Walk c I K P → (s : AttemptState) (phase : Phase) → IsSeizing phase → s.phase ≡ phase
    → all_settled s.devices ≡ true → K s → P (settled_in s phase)
unfolding IsNoSeizing
walks_settled_in c I K P W s SeizingVotes seizing is all k = walks_counting c I K P W s is all k
walks_settled_in c I K P W s SeizingOthers seizing is all k = W.installs s is all k
walks_settled_in c I K P W s Collecting seizing is all k = absurd (not_seizing Collecting seizing tt)
walks_settled_in c I K P W s Choosing seizing is all k = absurd (not_seizing Choosing seizing tt)
walks_settled_in c I K P W s Installing seizing is all k = absurd (not_seizing Installing seizing tt)
walks_settled_in c I K P W s Over seizing is all k = absurd (not_seizing Over seizing tt)

walks_proceeding : (c : Call) (I K : AttemptState → Type 0) (P : Turn → Type 0) → Walk c I K P → (s : AttemptState) → IsSeizing s.phase → K s → P (proceeding s)
unfolding proceeding
walks_proceeding c I K P W s is k =
    if_with P (all_settled s.devices) (all_settled s.devices) (settled_in s s.phase) (waits s) refl
    (λ e. walks_settled_in c I K P W s s.phase is refl e k) (λ e. W.seizing s is e k)

walks_settled : (c : Call) (I K : AttemptState → Type 0) (P : Turn → Type 0) → Walk c I K P → (s : AttemptState) (d : ℕ) (r : SeizeResult) → IsSeizing s.phase
    → K (record s { devices = map (with_result d r) s.devices }) → P (settled s d r)
unfolding settled
walks_settled c I K P W s d r is k = walks_proceeding c I K P W (record s { devices = map (with_result d r) s.devices }) is k

walks_next : (c : Call) (I K : AttemptState → Type 0) (P : Turn → Type 0) → Walk c I K P → (s : AttemptState) (d from : ℕ) (r : SeizeResult) (e : Seizing) (o : Option ℕ) → IsSeizing s.phase
    → TellsResult c s d from r → find (awaits d from) s.devices ≡ Some e → next_by s.plan.cluster s.promises s.plan.nodes e e.kind r ≡ o → I s → P (next_asked s d r e o)
walks_next c I K P W s d from r e None is tells found next i = walks_settled c I K P W s d r is (W.result s d from r e is tells found next i)
walks_next c I K P W s d from r e (Some n) is tells found next i = W.next s d from n r e is tells found next i

walks_on : (c : Call) (I K : AttemptState → Type 0) (P : Turn → Type 0) → Walk c I K P → (s : AttemptState) (d from : ℕ) (r : SeizeResult) (o : Option Seizing) → IsSeizing s.phase
    → TellsResult c s d from r → find (awaits d from) s.devices ≡ o → I s → P (answered_on s d r o)
walks_on c I K P W s d from r None is tells found i = W.rests s i
walks_on c I K P W s d from r (Some e) is tells found i =
    walks_next c I K P W s d from r e (next_by s.plan.cluster s.promises s.plan.nodes e e.kind r) is tells found refl i

walks_answering : (c : Call) (I K : AttemptState → Type 0) (P : Turn → Type 0) → Walk c I K P → (s : AttemptState) (d from : ℕ) (r : SeizeResult) → IsSeizing s.phase
    → TellsResult c s d from r → I s → P (answering s d from r)
unfolding answering
walks_answering c I K P W s d from r is tells i = walks_on c I K P W s d from r (find (awaits d from) s.devices) is tells refl i

walks_answering_in : (c : Call) (I K : AttemptState → Type 0) (P : Turn → Type 0) → Walk c I K P → (s : AttemptState) (d from : ℕ) (r : SeizeResult) (phase : Phase) → s.phase ≡ phase
    → TellsResult c s d from r → I s → P (answering_in s d from r phase)
walks_answering_in c I K P W s d from r SeizingVotes is tells i = walks_answering c I K P W s d from r (inl is) tells i
walks_answering_in c I K P W s d from r SeizingOthers is tells i = walks_answering c I K P W s d from r (inr is) tells i
walks_answering_in c I K P W s d from r Collecting is tells i = W.rests s i
walks_answering_in c I K P W s d from r Choosing is tells i = W.rests s i
walks_answering_in c I K P W s d from r Installing is tells i = W.rests s i
walks_answering_in c I K P W s d from r Over is tells i = W.rests s i

pub walks_asked_votes : (c : Call) (I K : AttemptState → Type 0) (P : Turn → Type 0) → Walk c I K P → (s : AttemptState) → s.phase ≡ SeizingVotes → K s → P (asked_votes s)
unfolding asked_votes
walks_asked_votes c I K P W s is k =
    if_with P (all_settled s.devices) (all_settled s.devices) (counting s) (with_steps s (filter_map (request_for s.plan) s.devices)) refl
    (λ e. walks_counting c I K P W s is e k) (λ e. W.requests s is e k)

walks_seizing_votes : (c : Call) (I K : AttemptState → Type 0) (P : Turn → Type 0) → Walk c I K P → (s : AttemptState) → s.phase ≡ SeizingVotes → shortage s (reached_set s.plan) ≡ None
    → K s → P (seizing_votes s)
unfolding seizing_votes
walks_seizing_votes c I K P W s is enough k = walks_asked_votes c I K P W (record s { devices = vote_entries s }) is (W.entries s is enough k)

walks_possible : (c : Call) (I K : AttemptState → Type 0) (P : Turn → Type 0) → Walk c I K P → (s : AttemptState) (o : Option AttemptEnd) → s.phase ≡ SeizingVotes
    → shortage s (reached_set s.plan) ≡ o → K s → P (possible s o)
walks_possible c I K P W s (Some e) is h k = W.impossible s e is h k
walks_possible c I K P W s None is h k = walks_seizing_votes c I K P W s is h k

walks_known : (c : Call) (I K : AttemptState → Type 0) (P : Turn → Type 0) → Walk c I K P → (s : AttemptState) (o : Option ℕ) → s.phase ≡ SeizingVotes
    → first_left_out s.promises s.plan.nodes (newest_shown s.promises) ≡ o → K s → P (known s o)
walks_known c I K P W s (Some n) is h k = W.excluded s n is h k
walks_known c I K P W s None is h k = walks_possible c I K P W s (shortage s (reached_set s.plan)) is refl k

walks_admitted : (c : Call) (I K : AttemptState → Type 0) (P : Turn → Type 0) → Walk c I K P → (s : AttemptState) (both : BothVotes) (o : Option ℕ) → s.phase ≡ SeizingVotes
    → s.votes ≡ Some both → first_foreign both s.plan.nodes ≡ o → K s → P (admitted s o)
unfolding knowing
walks_admitted c I K P W s both (Some n) is given h k = W.foreign s both n is given h k
walks_admitted c I K P W s both None is given h k = walks_known c I K P W s (first_left_out s.promises s.plan.nodes (newest_shown s.promises)) is refl k

walks_voting : (I K : AttemptState → Type 0) (P : Turn → Type 0) (both : BothVotes) → Walk (With_votes both) I K P → (s : AttemptState) → I s → P (voting s both)
unfolding voting
walks_voting I K P both W s i =
    let t : AttemptState = record (in_phase s SeizingVotes) { votes = Some both; devices = [] } in
    walks_admitted (With_votes both) I K P W t both (first_foreign both s.plan.nodes) refl refl refl (W.votes s both refl i)

walks_chosen_by : (c : Call) (I K : AttemptState → Type 0) (P : Turn → Type 0) → Walk c I K P → (s : AttemptState) (o : Option Shown) → s.phase ≡ Collecting → all_promised s ≡ true
    → newest_shown s.promises ≡ o → K s → P (chosen_by s o)
walks_chosen_by c I K P W s None at all is k = W.no_newest s at all is k
walks_chosen_by c I K P W s (Some newest) at all is k = W.chosen s newest at all is k

walks_choosing : (c : Call) (I K : AttemptState → Type 0) (P : Turn → Type 0) → Walk c I K P → (s : AttemptState) → s.phase ≡ Collecting → all_promised s ≡ true → K s → P (choosing s)
unfolding choosing
walks_choosing c I K P W s at all k = walks_chosen_by c I K P W s (newest_shown s.promises) at all refl k

walks_gathered : (c : Call) (I K : AttemptState → Type 0) (P : Turn → Type 0) → Walk c I K P → (s : AttemptState) → s.phase ≡ Collecting → K s → P (gathered s)
walks_gathered c I K P W s is k =
    if_with P (all_promised s) (all_promised s) (choosing s) (waits s) refl (λ e. walks_choosing c I K P W s is e k) (λ e. W.collecting s is e k)

pub walks_begun : (c : Call) (I K : AttemptState → Type 0) (P : Turn → Type 0) → Walk c I K P → (s : AttemptState) → s.phase ≡ Collecting → K s → P (begun s)
walks_begun c I K P W s is k =
    if_with P (all_promised s) (all_promised s) (choosing s) (with_steps s (collects s)) refl (λ e. walks_choosing c I K P W s is e k) (λ e. W.collects s is e k)

pub awaits_collecting : (s : AttemptState) (n : ℕ) (phase : Phase) → awaits_promise s n phase ≡ true → phase ≡ Collecting
awaits_collecting s n Collecting h = refl
awaits_collecting s n Choosing h = absurd (false_true h)
awaits_collecting s n SeizingVotes h = absurd (false_true h)
awaits_collecting s n SeizingOthers h = absurd (false_true h)
awaits_collecting s n Installing h = absurd (false_true h)
awaits_collecting s n Over h = absurd (false_true h)

walks_promise : (I K : AttemptState → Type 0) (P : Turn → Type 0) (from : ℕ) (m : Message) → Walk (Take from m) I K P → (s : AttemptState) (o : Option Promised)
    → promised_by m (shown_by from m.body) ≡ o → awaits_promise s from s.phase ≡ true → is_of s.plan.epoch m.body ≡ true → I s → P (with_promise s o)
walks_promise I K P from m W s None is awaited of i = W.rests s i
walks_promise I K P from m W s (Some p) is awaited of i =
    walks_gathered (Take from m) I K P W (record s { promises = s.promises ++ p ∷ [] }) (awaits_collecting s from s.phase awaited) (W.promise s from m p refl awaited of is i)

walks_promising : (I K : AttemptState → Type 0) (P : Turn → Type 0) (from : ℕ) (m : Message) → Walk (Take from m) I K P → (s : AttemptState) → is_of s.plan.epoch m.body ≡ true → I s
    → P (promising s from m)
unfolding promising
walks_promising I K P from m W s of i =
    if_with P (awaits_promise s from s.phase) (awaits_promise s from s.phase) (with_promise s (promised_by m (shown_by from m.body))) (waits s) refl
    (λ e. walks_promise I K P from m W s (promised_by m (shown_by from m.body)) refl e of i) (λ e. W.rests s i)

pub awaits_installing : (s : AttemptState) (n : ℕ) (phase : Phase) → awaits_ready s n phase ≡ true → phase ≡ Installing
awaits_installing s n Installing h = refl
awaits_installing s n Collecting h = absurd (false_true h)
awaits_installing s n Choosing h = absurd (false_true h)
awaits_installing s n SeizingVotes h = absurd (false_true h)
awaits_installing s n SeizingOthers h = absurd (false_true h)
awaits_installing s n Over h = absurd (false_true h)

walks_readying : (I K : AttemptState → Type 0) (P : Turn → Type 0) (from : ℕ) (m : Message) → Walk (Take from m) I K P → (s : AttemptState) → is_of s.plan.epoch m.body ≡ true → I s
    → P (readying s from m)
unfolding readying
walks_readying I K P from m W s of i =
    let u : AttemptState = record s { readies = s.readies ++ record { node = from; message = m } ∷ [] } in
    let test : Bool = awaits_ready s from s.phase && is_ready m.body in
    if_with P test test (starting u) (waits s) refl
    (λ e. let two : (awaits_ready s from s.phase ≡ true) × (is_ready m.body ≡ true) = and_cases (awaits_ready s from s.phase) (is_ready m.body) e in
    walks_starting (Take from m) I K P W u (awaits_installing s from s.phase two.0) (W.ready s from m refl (awaits_installing s from s.phase two.0) of two.1 i))
    (λ e. W.rests s i)

same_epoch : (a b : ℕ) → (a == b) ≡ true → a ≡ b
same_epoch a b h = grind arith

walks_taken : (I K : AttemptState → Type 0) (P : Turn → Type 0) (from : ℕ) (m : Message) → Walk (Take from m) I K P → (s : AttemptState) (b : Body) → m.body ≡ b → is_of s.plan.epoch b ≡ true
    → I s → P (taken s from m b)
walks_taken I K P from m W s (body.Promise epoch installed members valid flagged committed pending) is of i =
    walks_promising I K P from m W s (ap (is_of s.plan.epoch) is ∙ of) i
walks_taken I K P from m W s (body.Nack epoch promised) is of i =
    W.superseded s from m promised refl (is ∙ ap (λ p. body.Nack p promised) (same_epoch epoch s.plan.epoch of)) i
walks_taken I K P from m W s (body.Seized epoch device outcome) is of i =
    walks_answering_in (Take from m) I K P W s device from outcome s.phase refl
    (refl, is ∙ ap (λ p. body.Seized p device outcome) (same_epoch epoch s.plan.epoch of)) i
walks_taken I K P from m W s (body.Ready epoch joined report) is of i = walks_readying I K P from m W s (ap (is_of s.plan.epoch) is ∙ of) i
walks_taken I K P from m W s _ is of i = W.rests s i

walks_taking : (I K : AttemptState → Type 0) (P : Turn → Type 0) (from : ℕ) (m : Message) → Walk (Take from m) I K P → (s : AttemptState) → I s → P (taking s from m)
unfolding taking
walks_taking I K P from m W s i =
    let test : Bool = not (is_over s.phase) && is_of s.plan.epoch m.body in
    if_with P test test (taken s from m m.body) (waits s) refl
    (λ e. walks_taken I K P from m W s m.body refl (and_cases (not (is_over s.phase)) (is_of s.plan.epoch m.body) e).1 i) (λ e. W.rests s i)

walks_own : (I K : AttemptState → Type 0) (P : Turn → Type 0) → Walk Own_ready I K P → (s : AttemptState) (phase : Phase) → s.phase ≡ phase → I s → P (own_readying_in s phase)
walks_own I K P W s Installing is i = walks_starting Own_ready I K P W (record s { own_ready = true }) is (W.own s refl is i)
walks_own I K P W s Collecting is i = W.rests s i
walks_own I K P W s Choosing is i = W.rests s i
walks_own I K P W s SeizingVotes is i = W.rests s i
walks_own I K P W s SeizingOthers is i = W.rests s i
walks_own I K P W s Over is i = W.rests s i

late_not_fourth : (t : ℕ) → nat_le 8 t ≡ true → (t == 4) ≡ false
late_not_fourth t h = grind arith

walks_silenced : (I K : AttemptState → Type 0) (P : Turn → Type 0) → Walk Tick I K P → (s : AttemptState) (o : Option ℕ) → nat_le 8 (later s.ticks) ≡ true
    → find (is_missing s) s.plan.nodes ≡ o → I s → P (silenced (record s { ticks = later s.ticks }) o)
walks_silenced I K P W s None late is i = W.passes s refl (late_not_fourth (later s.ticks) late) i
walks_silenced I K P W s (Some n) late is i = W.silent s n refl late is i

walks_ticked : (I K : AttemptState → Type 0) (P : Turn → Type 0) → Walk Tick I K P → (s : AttemptState) → I s → P (ticked (record s { ticks = later s.ticks }))
walks_ticked I K P W s i =
    let t : AttemptState = record s { ticks = later s.ticks } in
    if_with P (nat_le 8 t.ticks) (nat_le 8 t.ticks) (silenced t (find (is_missing t) t.plan.nodes)) (if t.ticks == 4 then with_steps t (again_in t t.phase) else waits t) refl
    (λ e. walks_silenced I K P W s (find (is_missing s) s.plan.nodes) e refl i)
    (λ _. if_with P (t.ticks == 4) (t.ticks == 4) (with_steps t (again_in t t.phase)) (waits t) refl (λ e. W.again s refl e i) (λ e. W.passes s refl e i))

pub walks : (I K : AttemptState → Type 0) (P : Turn → Type 0) (s : AttemptState) (c : Call) → Walk c I K P → I s → P (turn s c)
unfolding own_answering own_readying ticking
walks I K P s (Take from m) W i = walks_taking I K P from m W s i
walks I K P s (With_votes both) W i = walks_voting I K P both W s i
walks I K P s (Own_seized d r) W i = walks_answering_in (Own_seized d r) I K P W s d s.plan.coordinator r s.phase refl (refl, refl, refl) i
walks I K P s Own_ready W i = walks_own I K P W s s.phase refl i
walks I K P s Tick W i =
    if_with P (is_over s.phase) (is_over s.phase) (waits s) (ticked (record s { ticks = later s.ticks })) refl (λ e. W.rests s i) (λ e. walks_ticked I K P W s i)
