-- Each call of an attempt leaves the members that were asked for a device as the device's entry has them, with those that its steps ask.
use Rattle.std.specs.Prelude.{ℕ, ◌==◌, ◌&&◌, ◌++◌, ◌≡◌, nat_le, not, Bool, true, false, List, [], ◌∷◌, Option, None, Some, is_none, map, option_map, if◌then◌else◌}
use Rattle.std.specs.List.{find}
use Rattle.std.proofs.Common.{arith, refl, sym, ap, subst, ◌∙◌}
use Rattle.attempt_laws.proofs.StillHeld.{same_attached}
use Rattle.attempt_laws.proofs.Walk.{if_with}
use Rattle.attempt_laws.specs.Asking.{AreApart, entry_of}
use Rattle.cl_base.specs.Seizings.{SeizeResult}
use Rattle.cl_base.specs.Sets.{set_with}
use Rattle.cmm_attempt.proofs.Basics.{false_true, if_either, same_number}
use Rattle.cmm_attempt.specs.Attempts.{AttemptState, again_in, all_promised, answered_on, answering, answering_in, asked_next, awaits_promise, awaits_ready, begun, chosen_by, choosing, collects, gathered, install_in, is_missing, is_of, is_over, later, next_asked, own_answering, own_readying, own_readying_in, proceeding, promising, readying, settled, settled_in, silenced, silent_others, starting, taken, taking, ticked, ticking, waits, with_promise, with_steps}
use Rattle.cmm_attempt.specs.Calls.{Call, May, Own_ready, Own_seized, Take, Tick, With_votes, turn}
use Rattle.cmm_attempt.specs.Promises.{newest_shown, promised_by, shown_by}
use Rattle.cmm_attempt.specs.Seizings.{all_settled, awaits, is_asked, next_by, with_next, with_result}
use Rattle.cmm_attempt.specs.declared.phase.Phase.{Phase}
use Rattle.cmm_attempt.specs.declared.phase.Phase.TheVariants.{Choosing, Collecting, Installing, Over, SeizingOthers, SeizingVotes}
use Rattle.cmm_attempt.specs.declared.promised.Promised.{Promised}
use Rattle.cmm_attempt.specs.declared.promised.Shown.{Shown}
use Rattle.cmm_attempt.specs.declared.seizing.Seizing.{Seizing}
use Rattle.cmm_attempt.specs.declared.step.AttemptEnd.TheVariants.{Silent, Superseded}
use Rattle.seize.specs.declared.kind.SeizeKind.{SeizeKind}
use Rattle.seize.specs.declared.kind.SeizeKind.TheVariants.{Plain, Vote}
use Rattle.wire.specs.Kinds.{is_ready}
use Rattle.wire.specs.declared.message.Body.{Body}
use Rattle.wire.specs.declared.message.Body.TheVariants as body
use Rattle.wire.specs.declared.message.Message.{Message}
use Rattle.run_outcomes.specs.tasks.Laws.{is_vote}
use Rattle.run_outcomes.specs.tasks.Asks.{IsEarly, IsSound, IsTold, Sound, Told, TurnTold, asked_by_steps, one_more, wants_by}
use Rattle.run_outcomes.proofs.asks.Apart.{entry_found, entry_mapped, found_device, numbers_mapped}
use Rattle.run_outcomes.proofs.asks.Entries.{IsNext, again_told, next_of, next_other, next_told, result_told}
use Rattle.run_outcomes.proofs.asks.Requests.{again_asks, one_asked, sent_asks}
use Rattle.run_outcomes.proofs.asks.Counting.{counting_told, ending, installing_told, quiet, starting_told, voting_told, waiting}

-- ---- a seizing ends

settled_in_told : (d : ℕ) (asked : List ℕ) (s : AttemptState) (phase : Phase) → Sound s → Told d asked s → TurnTold d asked (settled_in s phase)
settled_in_told d asked s SeizingVotes sound h = counting_told d asked s sound h
settled_in_told d asked s SeizingOthers sound h = installing_told d asked s sound h
settled_in_told d asked s Collecting sound h = waiting d asked s sound h
settled_in_told d asked s Choosing sound h = waiting d asked s sound h
settled_in_told d asked s Installing sound h = waiting d asked s sound h
settled_in_told d asked s Over sound h = waiting d asked s sound h

proceeding_told : (d : ℕ) (asked : List ℕ) (s : AttemptState) → Sound s → Told d asked s → TurnTold d asked (proceeding s)
unfolding proceeding
proceeding_told d asked s sound h = if_either (TurnTold d asked) (all_settled s.devices) (settled_in s s.phase) (waits s) (settled_in_told d asked s s.phase sound h) (waiting d asked s sound h)

-- entries that change and leave their devices
mapped_sound : (s : AttemptState) (f : Seizing → Seizing) → ((e : Seizing) → (f e).attached ≡ e.attached) → Sound s → IsSound s.plan (map f s.devices) s.phase
mapped_sound s f same sound = record {
  first = sound.first;
  nodes = sound.nodes;
  attached = sound.attached;
  apart = subst AreApart (sym (numbers_mapped f same s.devices)) sound.apart;
  early = λ early. ap (map f) (sound.early early);
}

settled_told : (d : ℕ) (asked : List ℕ) (s : AttemptState) (x : ℕ) (r : SeizeResult) → Sound s → Told d asked s → TurnTold d asked (settled s x r)
unfolding settled
settled_told d asked s x r sound h =
    let same : (e : Seizing) → (with_result x r e).attached ≡ e.attached = (λ e. same_attached e (record e { result = Some r }) ((e.attached.device == x) && is_none e.result) refl) in
    proceeding_told d asked (record s { devices = map (with_result x r) s.devices }) (mapped_sound s (with_result x r) same sound)
    (subst (λ o. IsTold s.promises s.plan.coordinator o asked) (sym (entry_mapped (with_result x r) same s.devices d)) (by_entry (entry_of s.devices d) h))
  where
    by_entry : (o : Option Seizing) → IsTold s.promises s.plan.coordinator o asked → IsTold s.promises s.plan.coordinator (option_map (with_result x r) o) asked
    by_entry None k = k
    by_entry (Some e) k = result_told s.promises s.plan.coordinator e r ((e.attached.device == x) && is_none e.result) asked k

-- ---- the next member is asked

three : (a b c : Bool) → (a && b && c) ≡ true → (a ≡ true) × (b ≡ true)
three true true c h = (refl, refl)
three true false c h = absurd (false_true h)
three false b c h = absurd (false_true h)

both_so : {X : Type 0} (a b : Bool) (x y : X) → a ≡ true → b ≡ true → (if a && b then x else y) ≡ x
both_so true true x y h k = refl
both_so true false x y h k = absurd (false_true k)
both_so false b x y h k = absurd (false_true h)

-- the entry of device d, where x is another
other_entry : (x n d : ℕ) (es : List Seizing) (o : Option Seizing) → (x == d) ≡ false → entry_of es d ≡ o → option_map (with_next x n) o ≡ o
other_entry x n d es None ne is = refl
other_entry x n d es (Some e) ne is = ap Some (by_test (e.attached.device == x) refl)
  where
    differ : (a : ℕ) → a ≡ d → (x == d) ≡ false → (a == x) ≡ false
    differ a h k = grind arith

    by_test : (b : Bool) → (e.attached.device == x) ≡ b → (if b && is_none e.result then record e { seizer = Some n; asked = set_with e.asked n } else e) ≡ e
    by_test true here = absurd (false_true (sym (differ e.attached.device (found_device es d e is) ne) ∙ here))
    by_test false here = refl

vote_is : (kind : SeizeKind) → is_vote kind ≡ true → kind ≡ Vote
vote_is Vote h = refl
vote_is Plain h = absurd (false_true h)

-- who is asked is one more
wished : (c n : ℕ) (kind : SeizeKind) (b : Bool) (asked : List ℕ) → b ≡ true → kind ≡ Vote → (n == c) ≡ false → (if b then one_more (wants_by c kind None (Some n)) asked else asked) ≡ n ∷ asked
wished c n kind b asked here is other =
    ap (λ t. if t then one_more (wants_by c kind None (Some n)) asked else asked) here
    ∙ (ap (λ k. one_more (wants_by c k None (Some n)) asked) is ∙ ap (λ t. one_more (if t then None else Some n) asked) other)

-- what is known of the entry that is awaited
awaited_parts : (x from : ℕ) (e : Seizing) → awaits x from e ≡ true → ((e.attached.device == x) ≡ true) × (is_none e.result ≡ true)
awaited_parts x from e h = three (e.attached.device == x) (is_none e.result) (is_asked e.seizer from) h

asked_next_told : (d : ℕ) (asked : List ℕ) (s : AttemptState) (x from n : ℕ) (e : Seizing) → Sound s → Told d asked s → find (awaits x from) s.devices ≡ Some e → IsNext s.promises e e.kind n → TurnTold d asked (asked_next s x e.kind n)
unfolding asked_next
asked_next_told d asked s x from n e sound h found next = (mapped_sound s (with_next x n) same sound, subst (IsTold s.promises c after) (sym (one_asked s.plan d x n e.kind [] asked)) (by_test (x == d) refl))
  where
    c : ℕ
    c = s.plan.coordinator

    same : (y : Seizing) → (with_next x n y).attached ≡ y.attached
    same y = same_attached y (record y { seizer = Some n; asked = set_with y.asked n }) ((y.attached.device == x) && is_none y.result) refl

    after : Option Seizing
    after = entry_of (map (with_next x n) s.devices) d

    two : (entry_of s.devices x ≡ Some e) × (awaits x from e ≡ true)
    two = entry_found x (awaits x from) (λ y k. (awaited_parts x from y k).0) s.devices sound.apart e found

    tests : ((e.attached.device == x) ≡ true) × (is_none e.result ≡ true)
    tests = awaited_parts x from e two.1

    by_test : (b : Bool) → (x == d) ≡ b → IsTold s.promises c after (if x == d then one_more (wants_by c e.kind None (Some n)) asked else asked)
    by_test true here =
        let entry : entry_of s.devices d ≡ Some e = subst (λ k. entry_of s.devices k ≡ Some e) (same_number x d here) two.0 in
        let old : IsTold s.promises c (Some e) asked = subst (λ o. IsTold s.promises c o asked) entry h in
        let other : (n == c) ≡ false = next_other s.promises c n e asked next old in
        subst (IsTold s.promises c after) (sym (wished c n e.kind (x == d) asked here (vote_is e.kind next.vote) other))
        (subst (λ o. IsTold s.promises c o (n ∷ asked))
        (sym (entry_mapped (with_next x n) same s.devices d ∙ (ap (option_map (with_next x n)) entry ∙ ap Some (both_so (e.attached.device == x) (is_none e.result) _ e tests.0 tests.1))))
        (next_told s.promises c n e asked next.vote next.low next.high other old))
    by_test false there =
        subst (λ t. IsTold s.promises c after (if t then one_more (wants_by c e.kind None (Some n)) asked else asked)) (sym there)
        (subst (λ o. IsTold s.promises c o asked) (sym (entry_mapped (with_next x n) same s.devices d ∙ other_entry x n d s.devices (entry_of s.devices d) there refl)) h)

next_asked_told : (d : ℕ) (asked : List ℕ) (s : AttemptState) (x from : ℕ) (r : SeizeResult) (e : Seizing) (o : Option ℕ) → Sound s → Told d asked s → find (awaits x from) s.devices ≡ Some e
    → next_by s.plan.cluster s.promises s.plan.nodes e e.kind r ≡ o → TurnTold d asked (next_asked s x r e o)
next_asked_told d asked s x from r e None sound h found is = settled_told d asked s x r sound h
next_asked_told d asked s x from r e (Some n) sound h found is = asked_next_told d asked s x from n e sound h found (next_of s.plan.cluster s.promises s.plan e e.kind r n sound.nodes is)

on_told : (d : ℕ) (asked : List ℕ) (s : AttemptState) (x from : ℕ) (r : SeizeResult) (o : Option Seizing) → Sound s → Told d asked s → find (awaits x from) s.devices ≡ o → TurnTold d asked (answered_on s x r o)
on_told d asked s x from r None sound h found = waiting d asked s sound h
on_told d asked s x from r (Some e) sound h found = next_asked_told d asked s x from r e (next_by s.plan.cluster s.promises s.plan.nodes e e.kind r) sound h found refl

answering_told : (d : ℕ) (asked : List ℕ) (s : AttemptState) (x from : ℕ) (r : SeizeResult) → Sound s → Told d asked s → TurnTold d asked (answering s x from r)
unfolding answering
answering_told d asked s x from r sound h = on_told d asked s x from r (find (awaits x from) s.devices) sound h refl

answering_in_told : (d : ℕ) (asked : List ℕ) (s : AttemptState) (x from : ℕ) (r : SeizeResult) (phase : Phase) → Sound s → Told d asked s → TurnTold d asked (answering_in s x from r phase)
answering_in_told d asked s x from r SeizingVotes sound h = answering_told d asked s x from r sound h
answering_in_told d asked s x from r SeizingOthers sound h = answering_told d asked s x from r sound h
answering_in_told d asked s x from r Collecting sound h = waiting d asked s sound h
answering_in_told d asked s x from r Choosing sound h = waiting d asked s sound h
answering_in_told d asked s x from r Installing sound h = waiting d asked s sound h
answering_in_told d asked s x from r Over sound h = waiting d asked s sound h

-- ---- Promises

-- while it collects no device is asked for, whatever was promised
early_told : (d : ℕ) (asked : List ℕ) (s : AttemptState) (promises : List Promised) → s.phase ≡ Collecting → Sound s → Told d asked s → IsTold promises s.plan.coordinator (entry_of s.devices d) asked
early_told d asked s promises is sound h =
    let none : s.devices ≡ [] = sound.early (subst IsEarly (sym is) tt) in
    let k : IsTold s.promises s.plan.coordinator None asked = subst (λ es. IsTold s.promises s.plan.coordinator (entry_of es d) asked) none h in
    subst (λ es. IsTold promises s.plan.coordinator (entry_of es d) asked) (sym none) (record { last = k.last; each = k.each; own = tt })

chosen_by_told : (d : ℕ) (asked : List ℕ) (s : AttemptState) (o : Option Shown) → s.phase ≡ Collecting → Sound s → Told d asked s → TurnTold d asked (chosen_by s o)
chosen_by_told d asked s None is sound h = waiting d asked s sound h
chosen_by_told d asked s (Some newest) is sound h = (record { first = sound.first; nodes = sound.nodes; attached = sound.attached; apart = sound.apart; early = λ early. sound.early (subst IsEarly (sym is) tt) }, h)

choosing_told : (d : ℕ) (asked : List ℕ) (s : AttemptState) → s.phase ≡ Collecting → Sound s → Told d asked s → TurnTold d asked (choosing s)
unfolding choosing
choosing_told d asked s is sound h = chosen_by_told d asked s (newest_shown s.promises) is sound h

gathered_told : (d : ℕ) (asked : List ℕ) (s : AttemptState) → s.phase ≡ Collecting → Sound s → Told d asked s → TurnTold d asked (gathered s)
gathered_told d asked s is sound h = if_either (TurnTold d asked) (all_promised s) (choosing s) (waits s) (choosing_told d asked s is sound h) (waiting d asked s sound h)

pub begun_told : (d : ℕ) (asked : List ℕ) (s : AttemptState) → s.phase ≡ Collecting → Sound s → Told d asked s → TurnTold d asked (begun s)
begun_told d asked s is sound h =
    if_either (TurnTold d asked) (all_promised s) (choosing s) (with_steps s (collects s)) (choosing_told d asked s is sound h)
    (quiet d asked s (collects s) (sent_asks s.plan (body.Collect s.plan.epoch s.plan.members) d (λ to xs. refl) (silent_others s) asked) sound h)

awaits_collecting : (s : AttemptState) (n : ℕ) (phase : Phase) → awaits_promise s n phase ≡ true → phase ≡ Collecting
awaits_collecting s n Collecting h = refl
awaits_collecting s n Choosing h = absurd (false_true h)
awaits_collecting s n SeizingVotes h = absurd (false_true h)
awaits_collecting s n SeizingOthers h = absurd (false_true h)
awaits_collecting s n Installing h = absurd (false_true h)
awaits_collecting s n Over h = absurd (false_true h)

with_promise_told : (d : ℕ) (asked : List ℕ) (s : AttemptState) (o : Option Promised) → s.phase ≡ Collecting → Sound s → Told d asked s → TurnTold d asked (with_promise s o)
with_promise_told d asked s None is sound h = waiting d asked s sound h
with_promise_told d asked s (Some p) is sound h = gathered_told d asked (record s { promises = s.promises ++ p ∷ [] }) is sound (early_told d asked s (s.promises ++ p ∷ []) is sound h)

promising_told : (d : ℕ) (asked : List ℕ) (s : AttemptState) (from : ℕ) (m : Message) → Sound s → Told d asked s → TurnTold d asked (promising s from m)
unfolding promising
promising_told d asked s from m sound h =
    if_with (TurnTold d asked) (awaits_promise s from s.phase) (awaits_promise s from s.phase) (with_promise s (promised_by m (shown_by from m.body))) (waits s) refl
    (λ is. with_promise_told d asked s (promised_by m (shown_by from m.body)) (awaits_collecting s from s.phase is) sound h) (λ _. waiting d asked s sound h)

-- ---- the calls

readying_told : (d : ℕ) (asked : List ℕ) (s : AttemptState) (from : ℕ) (m : Message) → Sound s → Told d asked s → TurnTold d asked (readying s from m)
unfolding readying
readying_told d asked s from m sound h =
    let u : AttemptState = record s { readies = s.readies ++ record { node = from; message = m } ∷ [] } in
    if_either (TurnTold d asked) (awaits_ready s from s.phase && is_ready m.body) (starting u) (waits s) (starting_told d asked u sound h) (waiting d asked s sound h)

own_ready_told : (d : ℕ) (asked : List ℕ) (s : AttemptState) (phase : Phase) → Sound s → Told d asked s → TurnTold d asked (own_readying_in s phase)
own_ready_told d asked s Installing sound h = starting_told d asked (record s { own_ready = true }) sound h
own_ready_told d asked s Collecting sound h = waiting d asked s sound h
own_ready_told d asked s Choosing sound h = waiting d asked s sound h
own_ready_told d asked s SeizingVotes sound h = waiting d asked s sound h
own_ready_told d asked s SeizingOthers sound h = waiting d asked s sound h
own_ready_told d asked s Over sound h = waiting d asked s sound h

taken_told : (d : ℕ) (asked : List ℕ) (s : AttemptState) (from : ℕ) (m : Message) (b : Body) → Sound s → Told d asked s → TurnTold d asked (taken s from m b)
taken_told d asked s from m (body.Promise epoch installed members valid flagged committed pending) sound h = promising_told d asked s from m sound h
taken_told d asked s from m (body.Nack epoch promised) sound h = ending d asked s (Superseded promised) sound h
taken_told d asked s from m (body.Seized epoch device outcome) sound h = answering_in_told d asked s device from outcome s.phase sound h
taken_told d asked s from m (body.Ready epoch joined report) sound h = readying_told d asked s from m sound h
taken_told d asked s from m _ sound h = waiting d asked s sound h

taking_told : (d : ℕ) (asked : List ℕ) (s : AttemptState) (from : ℕ) (m : Message) → Sound s → Told d asked s → TurnTold d asked (taking s from m)
unfolding taking
taking_told d asked s from m sound h =
    if_either (TurnTold d asked) (not (is_over s.phase) && is_of s.plan.epoch m.body) (taken s from m m.body) (waits s) (taken_told d asked s from m m.body sound h) (waiting d asked s sound h)

silenced_told : (d : ℕ) (asked : List ℕ) (s : AttemptState) (o : Option ℕ) → Sound s → Told d asked s → TurnTold d asked (silenced s o)
silenced_told d asked s None sound h = waiting d asked s sound h
silenced_told d asked s (Some n) sound h = ending d asked s (Silent n) sound h

again_told_in : (d : ℕ) (asked : List ℕ) (s : AttemptState) (phase : Phase) → Sound s → Told d asked s → Told d (asked_by_steps d (again_in s phase) asked) s
again_told_in d asked s Collecting sound h = subst (λ xs. Told d xs s) (sym (sent_asks s.plan (body.Collect s.plan.epoch s.plan.members) d (λ to xs. refl) (silent_others s) asked)) h
again_told_in d asked s Choosing sound h = h
again_told_in d asked s SeizingVotes sound h = subst (λ xs. Told d xs s) (sym (again_asks s.plan s.devices d asked sound.apart)) (again_told s.promises s.plan.coordinator (entry_of s.devices d) asked h)
again_told_in d asked s SeizingOthers sound h = subst (λ xs. Told d xs s) (sym (again_asks s.plan s.devices d asked sound.apart)) (again_told s.promises s.plan.coordinator (entry_of s.devices d) asked h)
again_told_in d asked s Installing sound h = subst (λ xs. Told d xs s) (sym (sent_asks s.plan (body.Install (install_in s)) d (λ to xs. refl) (silent_others s) asked)) h
again_told_in d asked s Over sound h = h

ticked_told : (d : ℕ) (asked : List ℕ) (s : AttemptState) → Sound s → Told d asked s → TurnTold d asked (ticked s)
ticked_told d asked s sound h =
    if_either (TurnTold d asked) (nat_le 8 s.ticks) (silenced s (find (is_missing s) s.plan.nodes)) (if s.ticks == 4 then with_steps s (again_in s s.phase) else waits s)
    (silenced_told d asked s (find (is_missing s) s.plan.nodes) sound h)
    (if_either (TurnTold d asked) (s.ticks == 4) (with_steps s (again_in s s.phase)) (waits s) (sound, again_told_in d asked s s.phase sound h) (waiting d asked s sound h))

pub call_told : (d : ℕ) (asked : List ℕ) (s : AttemptState) (k : Call) → May s k → Sound s → Told d asked s → TurnTold d asked (turn s k)
unfolding own_answering own_readying ticking
call_told d asked s (Take from m) may sound h = taking_told d asked s from m sound h
call_told d asked s (With_votes both) may sound h = voting_told d asked s both may sound h
call_told d asked s (Own_seized x r) may sound h = answering_in_told d asked s x s.plan.coordinator r s.phase sound h
call_told d asked s Own_ready may sound h = own_ready_told d asked s s.phase sound h
call_told d asked s Tick may sound h =
    if_either (TurnTold d asked) (is_over s.phase) (waits s) (ticked (record s { ticks = later s.ticks })) (waiting d asked s sound h) (ticked_told d asked (record s { ticks = later s.ticks }) sound h)
