-- Where the votes are given or counted, an attempt asks as its new entries want it; where it ends, installs or starts it asks nobody.
use Rattle.std.specs.Prelude.{ℕ, ◌==◌, ◌&&◌, ◌++◌, ◌≡◌, Bool, true, false, List, [], ◌∷◌, length, Option, None, Some, is_none, is_some, map, if◌then◌else◌}
use Rattle.std.specs.List.{filter_map, find}
use Rattle.std.proofs.Common.{refl, sym, ap, subst, ◌∙◌}
use Rattle.attempt_laws.proofs.Walk.{if_with}
use Rattle.attempt_laws.specs.Asking.{AreApart, entry_numbers, entry_of, numbers_of}
use Rattle.cl_base.specs.Seizings.{SeizeResult}
use Rattle.cl_base.specs.Sets.{has}
use Rattle.cmm_attempt.proofs.Basics.{false_true, if_either, none_some, same_some}
use Rattle.cmm_attempt.specs.Attempts.{AttemptState, admitted, all_ready, asked_plain, asked_votes, counted_by, counting, ends, in_phase, install_in, installing, installs, known, knowing, plain_devices, possible, seizing_others, seizing_votes, shortage, silent_others, starting, vote_entries, vote_entries_under, voting, waits, with_steps}
use Rattle.cmm_attempt.specs.Counts.{first_foreign, is_quorum, reached_set, vote_new}
use Rattle.cmm_attempt.specs.Installs.{send_start}
use Rattle.cmm_attempt.specs.Plans.{is_reachable, others_of}
use Rattle.cmm_attempt.specs.Promises.{first_left_out, newest_shown}
use Rattle.cmm_attempt.specs.Seizings.{all_settled, first_seizer, held_set, is_seized, plain_entry, plain_new, request_for, vote_entry}
use Rattle.cmm_attempt.specs.declared.attached.AttachedDevice.{AttachedDevice}
use Rattle.cmm_attempt.specs.declared.counting.BothVotes.{BothVotes}
use Rattle.cmm_attempt.specs.declared.phase.Phase.{Phase}
use Rattle.cmm_attempt.specs.declared.phase.Phase.TheVariants.{Choosing, Installing, Over, SeizingOthers, SeizingVotes}
use Rattle.cmm_attempt.specs.declared.plan.Plan.{Plan}
use Rattle.cmm_attempt.specs.declared.promised.Promised.{Promised}
use Rattle.cmm_attempt.specs.declared.seizing.Seizing.{Seizing}
use Rattle.cmm_attempt.specs.declared.step.AttemptEnd.{AttemptEnd}
use Rattle.cmm_attempt.specs.declared.step.AttemptEnd.TheVariants.{Excluded, Foreign}
use Rattle.cmm_attempt.specs.declared.step.Step.{Step}
use Rattle.cmm_attempt.specs.declared.step.Step.TheVariants.{InstallHere, StartHere}
use Rattle.seize.specs.declared.kind.SeizeKind.TheVariants.{Plain}
use Rattle.wire.specs.declared.message.Body.TheVariants as body
use Rattle.run_outcomes.specs.tasks.Asks.{IsEarly, IsSound, IsTold, Sound, Told, TurnTold, asked_by_steps, one_more, wants_by, wants_in}
use Rattle.run_outcomes.proofs.asks.Apart.{appended_by, apart_append, apart_new, entry_new, lacks_seized, plain_keeps, settled_one, vote_keeps}
use Rattle.run_outcomes.proofs.asks.Entries.{fresh_told, plain_told, settled_wants}
use Rattle.run_outcomes.proofs.asks.Requests.{requests_ask, sent_asks}

-- ---- nobody is asked

pub quiet : (d : ℕ) (asked : List ℕ) (s : AttemptState) (steps : List Step) → asked_by_steps d steps asked ≡ asked → Sound s → Told d asked s → TurnTold d asked (with_steps s steps)
quiet d asked s steps none sound h = (sound, subst (λ xs. Told d xs s) (sym none) h)

pub waiting : (d : ℕ) (asked : List ℕ) (s : AttemptState) → Sound s → Told d asked s → TurnTold d asked (waits s)
waiting d asked s sound h = (sound, h)

-- past the votes
late : (plan : Plan) (devices : List Seizing) (was phase : Phase) → (IsEarly phase → ⊥) → IsSound plan devices was → IsSound plan devices phase
late plan devices was phase past h = record { first = h.first; nodes = h.nodes; attached = h.attached; apart = h.apart; early = λ early. absurd (past early) }

over : (s : AttemptState) → Sound s → Sound (record s { phase = Over })
over s h = late s.plan s.devices s.phase Over (λ x. x) h

pub ending : (d : ℕ) (asked : List ℕ) (s : AttemptState) (e : AttemptEnd) → Sound s → Told d asked s → TurnTold d asked (ends s e)
ending d asked s e sound h = (over s sound, h)

pub starting_told : (d : ℕ) (asked : List ℕ) (s : AttemptState) → Sound s → Told d asked s → TurnTold d asked (starting s)
unfolding starting
starting_told d asked s sound h =
    let o : AttemptState = record s { phase = Over } in
    if_either (TurnTold d asked) (s.own_ready && all_ready s) (with_steps o (StartHere ∷ map (send_start s.plan) (others_of s.plan))) (waits s)
    (quiet d asked o (StartHere ∷ map (send_start s.plan) (others_of s.plan)) (sent_asks s.plan (body.Start s.plan.epoch) d (λ to xs. refl) (others_of s.plan) asked) (over s sound) h) (waiting d asked s sound h)

pub installing_told : (d : ℕ) (asked : List ℕ) (s : AttemptState) → Sound s → Told d asked s → TurnTold d asked (installing s)
unfolding installing
installing_told d asked s sound h =
    let t : AttemptState = in_phase s Installing in
    quiet d asked t (InstallHere (install_in t) ∷ installs t) (sent_asks s.plan (body.Install (install_in t)) d (λ to xs. refl) (silent_others t) asked) (late s.plan s.devices s.phase Installing (λ x. x) sound) h

-- ---- the other devices

-- a plain entry wants nobody, and its device was asked of nobody
plain_kind : (plan : Plan) (devices : List Seizing) (a : AttachedDevice) (e : Seizing) → plain_new plan devices a ≡ Some e → e.kind ≡ Plain
plain_kind plan devices a e h = by_test (is_seized devices a.device) h
  where
    by_entry : (o : Option ℕ) → plain_entry a o ≡ Some e → e.kind ≡ Plain
    by_entry None k = absurd (none_some e k)
    by_entry (Some n) k = ap (λ (x : Seizing). x.kind) (sym (same_some _ e k))

    by_test : (b : Bool) → (if b then None else plain_entry a (find (λ n. has a.nodes n) plan.nodes)) ≡ Some e → e.kind ≡ Plain
    by_test true k = absurd (none_some e k)
    by_test false k = by_entry (find (λ n. has a.nodes n) plan.nodes) k

no_wish : (c : ℕ) (e : Seizing) → e.kind ≡ Plain → wants_in c (Some e) ≡ None
no_wish c e is = ap (λ k. wants_by c k e.result e.seizer) is

plain_wants : (c : ℕ) (o : Option Seizing) → ((e : Seizing) → o ≡ Some e → e.kind ≡ Plain) → wants_in c o ≡ None
plain_wants c None f = refl
plain_wants c (Some e) f = no_wish c e (f e refl)

more_told : (promises : List Promised) (c d : ℕ) (asked : List ℕ) (es more : List Seizing) → ((e : Seizing) → entry_of more d ≡ Some e → e.kind ≡ Plain) → IsTold promises c (entry_of es d) asked
    → IsTold promises c (entry_of (es ++ more) d) asked
more_told promises c d asked es more plain h = by_entry (entry_of es d) refl h
  where
    by_more : (o : Option Seizing) → ((e : Seizing) → o ≡ Some e → e.kind ≡ Plain) → IsTold promises c None asked → IsTold promises c o asked
    by_more None f k = k
    by_more (Some e) f k = plain_told promises c e asked (f e refl) k

    by_entry : (o : Option Seizing) → entry_of es d ≡ o → IsTold promises c o asked → IsTold promises c (entry_of (es ++ more) d) asked
    by_entry (Some e) is k = subst (λ z. IsTold promises c z asked) (sym (appended_by d es more (Some e) is)) k
    by_entry None is k = subst (λ z. IsTold promises c z asked) (sym (appended_by d es more None is)) (by_more (entry_of more d) plain k)

plain_asked : (d : ℕ) (asked : List ℕ) (s : AttemptState) (more : List Seizing) → ((e : Seizing) → entry_of more d ≡ Some e → e.kind ≡ Plain) → AreApart (entry_numbers more) → AreApart (entry_numbers (s.devices ++ more)) → Sound s → Told d asked s
    → TurnTold d asked (asked_plain s more)
plain_asked d asked s more plain apart all sound h =
    if_either (TurnTold d asked) (length more == 0) (installing s) (with_steps (record (in_phase s SeizingOthers) { devices = s.devices ++ more }) (filter_map (request_for s.plan) more))
    (installing_told d asked s sound h)
    (quiet d asked (record (in_phase s SeizingOthers) { devices = s.devices ++ more }) (filter_map (request_for s.plan) more)
    (requests_ask s.plan more d asked apart ∙ ap (λ o. one_more o asked) (plain_wants s.plan.coordinator (entry_of more d) plain))
    (record { first = sound.first; nodes = sound.nodes; attached = sound.attached; apart = all; early = λ early. absurd early })
    (more_told s.promises s.plan.coordinator d asked s.devices more plain h))

others_told : (d : ℕ) (asked : List ℕ) (s : AttemptState) → Sound s → Told d asked s → TurnTold d asked (seizing_others s)
unfolding seizing_others
others_told d asked s sound h =
    let apart : AreApart (entry_numbers (plain_devices s)) = apart_new (plain_new s.plan s.devices) (plain_keeps s.plan s.devices) s.plan.attached sound.attached in
    plain_asked d asked s (plain_devices s) (λ e is. entry_new (plain_new s.plan s.devices) (λ x. x.kind ≡ Plain) (plain_kind s.plan s.devices) s.plan.attached d e is) apart
    (apart_append s.devices (plain_devices s) sound.apart apart (lacks_seized s.plan s.devices s.plan.attached)) sound h

counted_told : (d : ℕ) (asked : List ℕ) (s : AttemptState) (o : Option AttemptEnd) → Sound s → Told d asked s → TurnTold d asked (counted_by s o)
counted_told d asked s (Some e) sound h = ending d asked s e sound h
counted_told d asked s None sound h = others_told d asked (record s { counted = held_set s.devices }) sound h

pub counting_told : (d : ℕ) (asked : List ℕ) (s : AttemptState) → Sound s → Told d asked s → TurnTold d asked (counting s)
unfolding counting
counting_told d asked s sound h = counted_told d asked s (shortage s (held_set s.devices)) sound h

-- ---- the quorum devices

votes_apart : (s : AttemptState) (o : Option BothVotes) → AreApart (numbers_of s.plan.attached) → AreApart (entry_numbers (vote_entries_under s o))
votes_apart s None h = tt
votes_apart s (Some both) h = apart_new (vote_new s.plan s.promises both) (vote_keeps s.plan s.promises both) s.plan.attached h

abbrev Fresh : AttemptState → List ℕ → Option Seizing → Type 0
Fresh s asked o = IsTold s.promises s.plan.coordinator o (one_more (wants_in s.plan.coordinator o) asked)

vote_fresh : (s : AttemptState) (asked : List ℕ) (both : BothVotes) → Sound s → IsTold s.promises s.plan.coordinator None asked → (a : AttachedDevice) (e : Seizing) → vote_new s.plan s.promises both a ≡ Some e → Fresh s asked (Some e)
vote_fresh s asked both sound h a e is = by_test (is_quorum both a.device && is_reachable s.plan a) is
  where
    by_test : (b : Bool) → (if b then Some (vote_entry a (first_seizer s.plan s.promises a)) else None) ≡ Some e → Fresh s asked (Some e)
    by_test true k = subst (λ x. Fresh s asked (Some x)) (same_some _ e k) (fresh_told s.plan s.promises a (first_seizer s.plan s.promises a) asked sound.first sound.nodes refl h)
    by_test false k = absurd (none_some e k)

votes_fresh : (s : AttemptState) (d : ℕ) (asked : List ℕ) (o : Option BothVotes) → Sound s → IsTold s.promises s.plan.coordinator None asked → Fresh s asked (entry_of (vote_entries_under s o) d)
votes_fresh s d asked None sound h = h
votes_fresh s d asked (Some both) sound h = by_entry (entry_of (vote_entries_under s (Some both)) d) refl
  where
    by_entry : (o : Option Seizing) → entry_of (vote_entries_under s (Some both)) d ≡ o → Fresh s asked o
    by_entry None is = h
    by_entry (Some e) is = entry_new (vote_new s.plan s.promises both) (λ x. Fresh s asked (Some x)) (vote_fresh s asked both sound h) s.plan.attached d e is

-- where each seizing is over, none wants a member
over_wants : (c d : ℕ) (es : List Seizing) → all_settled es ≡ true → wants_in c (entry_of es d) ≡ None
over_wants c d es all = by_entry (entry_of es d) refl
  where
    none_left : (o : Option SeizeResult) → is_some o ≡ true → is_none o ≡ false
    none_left None h = absurd (false_true h)
    none_left (Some r) h = refl

    by_entry : (o : Option Seizing) → entry_of es d ≡ o → wants_in c o ≡ None
    by_entry None is = refl
    by_entry (Some e) is = settled_wants c e (none_left e.result (settled_one es d e all is))

asked_votes_told : (d : ℕ) (asked : List ℕ) (s : AttemptState) → Sound s → Fresh s asked (entry_of s.devices d) → TurnTold d asked (asked_votes s)
unfolding asked_votes
asked_votes_told d asked s sound h =
    if_with (TurnTold d asked) (all_settled s.devices) (all_settled s.devices) (counting s) (with_steps s (filter_map (request_for s.plan) s.devices)) refl
    (λ all. counting_told d asked s sound (subst (λ o. IsTold s.promises s.plan.coordinator (entry_of s.devices d) (one_more o asked)) (over_wants s.plan.coordinator d s.devices all) h))
    (λ _. (sound, subst (λ xs. Told d xs s) (sym (requests_ask s.plan s.devices d asked sound.apart)) h))

seizing_votes_told : (d : ℕ) (asked : List ℕ) (s : AttemptState) → s.phase ≡ SeizingVotes → Sound s → IsTold s.promises s.plan.coordinator None asked → TurnTold d asked (seizing_votes s)
unfolding seizing_votes
seizing_votes_told d asked s is sound h =
    let u : AttemptState = record s { devices = vote_entries s } in
    asked_votes_told d asked u (record { first = sound.first; nodes = sound.nodes; attached = sound.attached; apart = votes_apart s s.votes sound.attached; early = λ early. absurd (subst IsEarly is early) }) (votes_fresh s d asked s.votes sound h)

nothing_told : (d : ℕ) (asked : List ℕ) (s : AttemptState) → s.devices ≡ [] → IsTold s.promises s.plan.coordinator None asked → Told d asked s
nothing_told d asked s none h = subst (λ es. IsTold s.promises s.plan.coordinator (entry_of es d) asked) (sym none) h

possible_told : (d : ℕ) (asked : List ℕ) (s : AttemptState) (o : Option AttemptEnd) → s.phase ≡ SeizingVotes → s.devices ≡ [] → Sound s → IsTold s.promises s.plan.coordinator None asked → TurnTold d asked (possible s o)
possible_told d asked s (Some e) is none sound h = ending d asked s e sound (nothing_told d asked s none h)
possible_told d asked s None is none sound h = seizing_votes_told d asked s is sound h

known_told : (d : ℕ) (asked : List ℕ) (s : AttemptState) (o : Option ℕ) → s.phase ≡ SeizingVotes → s.devices ≡ [] → Sound s → IsTold s.promises s.plan.coordinator None asked → TurnTold d asked (known s o)
known_told d asked s (Some m) is none sound h = ending d asked s (Excluded m) sound (nothing_told d asked s none h)
known_told d asked s None is none sound h = possible_told d asked s (shortage s (reached_set s.plan)) is none sound h

admitted_told : (d : ℕ) (asked : List ℕ) (s : AttemptState) (o : Option ℕ) → s.phase ≡ SeizingVotes → s.devices ≡ [] → Sound s → IsTold s.promises s.plan.coordinator None asked → TurnTold d asked (admitted s o)
unfolding knowing
admitted_told d asked s (Some m) is none sound h = ending d asked s (Foreign m) sound (nothing_told d asked s none h)
admitted_told d asked s None is none sound h = known_told d asked s (first_left_out s.promises s.plan.nodes (newest_shown s.promises)) is none sound h

pub voting_told : (d : ℕ) (asked : List ℕ) (s : AttemptState) (both : BothVotes) → s.phase ≡ Choosing → Sound s → Told d asked s → TurnTold d asked (voting s both)
unfolding voting
voting_told d asked s both is sound h =
    let u : AttemptState = record (in_phase s SeizingVotes) { votes = Some both; devices = [] } in
    let none : s.devices ≡ [] = sound.early (subst IsEarly (sym is) tt) in
    admitted_told d asked u (first_foreign both s.plan.nodes) refl refl (record { first = sound.first; nodes = sound.nodes; attached = sound.attached; apart = tt; early = λ early. absurd early })
    (subst (λ es. IsTold s.promises s.plan.coordinator (entry_of es d) asked) none h)
