-- Each call of an attempt leaves those that were asked to seize a device that is no quorum device as the device's entry has them.
use Rattle.std.specs.Prelude.{ℕ, ◌==◌, ◌&&◌, ◌||◌, ◌≡◌, ◌≤◌, ◌++◌, not, Bool, true, false, List, [], ◌∷◌, Option, None, Some, is_none, map, option_map, if◌then◌else◌}
use Rattle.std.specs.List.{filter_map, find, list_any}
use Rattle.std.proofs.Common.{arith, refl, sym, ap, subst, ◌∙◌}
use Rattle.attempt_laws.proofs.StillHeld.{same_attached}
use Rattle.attempt_laws.proofs.Walk.{Walk, walks, walks_begun}
use Rattle.attempt_laws.specs.Asking.{AreApart, entry_numbers, entry_of, numbers_of}
use Rattle.cl_base.specs.Seizings.{SeizeResult}
use Rattle.cl_base.specs.Sets.{has, set_with}
use Rattle.cl_base.proofs.SetLemmas.{none_of_zero}
use Rattle.cl_base.specs.Numbers.{numbers_to}
use Rattle.cmm_attempt.proofs.Basics.{false_true, none_some, same_number, same_some}
use Rattle.cmm_attempt.specs.Attempts.{AttemptState, again_in, asked_next, begun, collects, in_phase, install_in, installing, installs, later, plain_devices, silent_others, vote_entries, vote_entries_under, with_steps}
use Rattle.cmm_attempt.specs.Calls.{Call, May, Tick, turn}
use Rattle.cmm_attempt.specs.Counts.{is_quorum, vote_new}
use Rattle.cmm_attempt.specs.Installs.{send_start}
use Rattle.cmm_attempt.specs.Plans.{is_reachable, others_of}
use Rattle.cmm_attempt.specs.Seizings.{awaits, first_seizer, held_set, is_asked, is_seized, next_by, plain_entry, plain_new, request, request_for, vote_entry, with_next, with_result}
use Rattle.cmm_attempt.specs.declared.attached.AttachedDevice.{AttachedDevice}
use Rattle.cmm_attempt.specs.declared.counting.BothVotes.{BothVotes}
use Rattle.cmm_attempt.specs.declared.phase.Phase.{Phase}
use Rattle.cmm_attempt.specs.declared.phase.Phase.TheVariants.{Choosing, Collecting, Installing, Over, SeizingOthers, SeizingVotes}
use Rattle.cmm_attempt.specs.declared.plan.Plan.{Plan}
use Rattle.cmm_attempt.specs.declared.seizing.Seizing.{Seizing}
use Rattle.cmm_attempt.specs.declared.step.Step.TheVariants.{InstallHere, StartHere}
use Rattle.seize.specs.declared.kind.SeizeKind.{SeizeKind}
use Rattle.wire.specs.declared.message.Body.TheVariants as body
use Rattle.run_outcomes.specs.tasks.Asks.{IsEarly}
use Rattle.run_outcomes.specs.tasks.Laws.{is_vote}
use Rattle.run_outcomes.specs.silence.Asked.{Data, DataIn, DataTurn, IsVoteAt, asked_by_steps, has_plain, wants_plain}
use Rattle.run_outcomes.proofs.asks.Apart.{appended_by, apart_append, apart_new, entry_found, entry_mapped, entry_new, found_device, lacks_seized, numbers_mapped, plain_keeps, vote_keeps}
use Rattle.run_outcomes.proofs.asks.Entries.{found_node, next_of, with_one}
use Rattle.run_outcomes.proofs.silence.Plain.{again_asks, one_asked, requests_ask, sent_none, to_seize}

-- ---- phases

over_votes : Over ≡ SeizingVotes → ⊥
over_votes h = cc

installing_votes : Installing ≡ SeizingVotes → ⊥
installing_votes h = cc

choosing_votes : Choosing ≡ SeizingVotes → ⊥
choosing_votes h = cc

others_votes : SeizingOthers ≡ SeizingVotes → ⊥
others_votes h = cc

-- past the votes
past : (m d : ℕ) (asked : Bool) (plan : Plan) (devices : List Seizing) (was phase : Phase) → (IsEarly phase → ⊥) → (phase ≡ SeizingVotes → ⊥) → DataIn m d asked plan devices was → DataIn m d asked plan devices phase
past m d asked plan devices was phase late other h = record {
  sound = record { nodes = h.sound.nodes; attached = h.sound.attached; apart = h.sound.apart; early = λ early. absurd (late early) };
  told = h.told;
  awaited = h.awaited;
  votes = λ is. absurd (other is);
}

with_asked : (m d : ℕ) (asked more : Bool) (s : AttemptState) → more ≡ asked → Data m d asked s → Data m d more s
with_asked m d asked more s same h = record { sound = h.sound; told = same ∙ h.told; awaited = h.awaited; votes = h.votes }

over : (m d : ℕ) (asked : Bool) (s : AttemptState) → Data m d asked s → Data m d asked (record s { phase = Over })
over m d asked s h = past m d asked s.plan s.devices s.phase Over (λ x. x) over_votes h

-- ---- entries that change

Kept : ℕ → ℕ → (Seizing → Seizing) → Option Seizing → Type 0
Kept c m f o = (has_plain c m (option_map f o) ≡ has_plain c m o) × (wants_plain c m (option_map f o) ≡ true → wants_plain c m o ≡ true) × (IsVoteAt o → IsVoteAt (option_map f o))

mapped : (m d : ℕ) (asked : Bool) (s : AttemptState) (f : Seizing → Seizing) → ((e : Seizing) → (f e).attached ≡ e.attached) → Kept s.plan.coordinator m f (entry_of s.devices d) → Data m d asked s → DataIn m d asked s.plan (map f s.devices) s.phase
unfolding Kept
mapped m d asked s f same k h = record {
  sound = record {
    nodes = h.sound.nodes;
    attached = h.sound.attached;
    apart = subst AreApart (sym (numbers_mapped f same s.devices)) h.sound.apart;
    early = λ early. ap (map f) (h.sound.early early);
  };
  told = h.told ∙ (sym k.0 ∙ ap (has_plain s.plan.coordinator m) (sym at));
  awaited = λ wants. ap (has_plain s.plan.coordinator m) at ∙ (k.0 ∙ h.awaited (k.1 (ap (wants_plain s.plan.coordinator m) (sym at) ∙ wants)));
  votes = λ is. subst IsVoteAt (sym at) (k.2 (h.votes is));
}
  where
    at : entry_of (map f s.devices) d ≡ option_map f (entry_of s.devices d)
    at = entry_mapped f same s.devices d

result_kept : (c m x : ℕ) (r : SeizeResult) (o : Option Seizing) → Kept c m (with_result x r) o
unfolding Kept
result_kept c m x r None = (refl, λ h. h, λ h. h)
result_kept c m x r (Some e) = by_test ((e.attached.device == x) && is_none e.result)
  where
    by_test : (b : Bool)
        → (has_plain c m (Some (if b then record e { result = Some r } else e)) ≡ has_plain c m (Some e))
        × (wants_plain c m (Some (if b then record e { result = Some r } else e)) ≡ true → wants_plain c m (Some e) ≡ true)
        × (is_vote e.kind ≡ true → IsVoteAt (Some (if b then record e { result = Some r } else e)))
    by_test true = (refl, λ h. absurd (false_true h), λ h. h)
    by_test false = (refl, λ h. h, λ h. h)

vote_none : (c m : ℕ) (e : Seizing) → is_vote e.kind ≡ true → has_plain c m (Some e) ≡ false
vote_none c m e is = ap (λ b. not b && not (m == c) && has e.asked m) is

vote_wants : (c m : ℕ) (e : Seizing) → is_vote e.kind ≡ true → wants_plain c m (Some e) ≡ false
vote_wants c m e is = by_kind (is_none e.result) (is_vote e.kind) is
  where
    by_kind : (a b : Bool) → b ≡ true → (a && not b && is_asked e.seizer m && not (m == c)) ≡ false
    by_kind true true h = refl
    by_kind false true h = refl
    by_kind a false h = absurd (false_true h)

-- the next member is asked only to seize a quorum device
next_kept : (c m x n d : ℕ) (es : List Seizing) (e : Seizing) (o : Option Seizing) → entry_of es d ≡ o → entry_of es x ≡ Some e → is_vote e.kind ≡ true → Kept c m (with_next x n) o
unfolding Kept
next_kept c m x n d es e None at entry vote = (refl, λ h. h, λ h. h)
next_kept c m x n d es e (Some y) at entry vote = by_test (y.attached.device == x) refl (is_none y.result)
  where
    t : Seizing
    t = record y { seizer = Some n; asked = set_with y.asked n }

    is_it : (y.attached.device == x) ≡ true → is_vote y.kind ≡ true
    is_it here =
        let same : d ≡ x = sym (found_device es d y at) ∙ same_number y.attached.device x here in
        subst (λ (z : Seizing). is_vote z.kind ≡ true) (same_some e y (sym entry ∙ (ap (entry_of es) (sym same) ∙ at))) vote

    by_test : (a : Bool) → (y.attached.device == x) ≡ a → (b : Bool)
        → (has_plain c m (Some (if a && b then t else y)) ≡ has_plain c m (Some y)) × (wants_plain c m (Some (if a && b then t else y)) ≡ true → wants_plain c m (Some y) ≡ true)
        × (is_vote y.kind ≡ true → IsVoteAt (Some (if a && b then t else y)))
    by_test true here true = (vote_none c m t (is_it here) ∙ sym (vote_none c m y (is_it here)), λ h. absurd (false_true (sym (vote_wants c m t (is_it here)) ∙ h)), λ h. h)
    by_test true here false = (refl, λ h. h, λ h. h)
    by_test false here b = (refl, λ h. h, λ h. h)

-- ---- steps

request_none : (plan : Plan) (m d x n : ℕ) (kind : SeizeKind) (asked : Bool) → is_vote kind ≡ true → asked_by_steps (to_seize m d) (request plan kind x n ∷ []) asked ≡ asked
request_none plan m d x n kind asked vote =
    one_asked plan m d x n kind [] asked ∙ (ap (λ b. if x == d then (not b && (n == m) && not (m == plan.coordinator)) || asked else asked) vote ∙ same (x == d))
  where
    same : (b : Bool) → (if b then false || asked else asked) ≡ asked
    same true = refl
    same false = refl

absorbed : (w a : Bool) → (w ≡ true → a ≡ true) → (w || a) ≡ a
absorbed true a f = sym (f refl)
absorbed false a f = refl

again_none : (m d : ℕ) (asked : Bool) (s : AttemptState) (phase : Phase) → Data m d asked s → asked_by_steps (to_seize m d) (again_in s phase) asked ≡ asked
again_none m d asked s Collecting h = sent_none s.plan (body.Collect s.plan.epoch s.plan.members) m d refl (silent_others s) asked
again_none m d asked s Choosing h = refl
again_none m d asked s SeizingVotes h = again_asks s.plan s.devices m d asked h.sound.apart ∙ absorbed (wants_plain s.plan.coordinator m (entry_of s.devices d)) asked (λ wants. h.told ∙ h.awaited wants)
again_none m d asked s SeizingOthers h = again_asks s.plan s.devices m d asked h.sound.apart ∙ absorbed (wants_plain s.plan.coordinator m (entry_of s.devices d)) asked (λ wants. h.told ∙ h.awaited wants)
again_none m d asked s Installing h = sent_none s.plan (body.Install (install_in s)) m d refl (silent_others s) asked
again_none m d asked s Over h = refl

installing_data : (m d : ℕ) (asked : Bool) (s : AttemptState) → Data m d asked s → DataTurn m d asked (installing s)
unfolding installing
installing_data m d asked s h =
    let t : AttemptState = in_phase s Installing in
    with_asked m d asked (asked_by_steps (to_seize m d) (InstallHere (install_in t) ∷ installs t) asked) t (sent_none s.plan (body.Install (install_in t)) m d refl (silent_others t) asked)
    (past m d asked s.plan s.devices s.phase Installing (λ x. x) installing_votes h)

-- ---- the quorum devices

vote_at : (s : AttemptState) (d : ℕ) (o : Option BothVotes) → IsVoteAt (entry_of (vote_entries_under s o) d)
vote_at s d None = tt
vote_at s d (Some both) = by_entry (entry_of (vote_entries_under s (Some both)) d) refl
  where
    entry_vote : (a : AttachedDevice) (o : Option ℕ) → is_vote (vote_entry a o).kind ≡ true
    entry_vote a None = refl
    entry_vote a (Some n) = refl

    vote_kind : (a : AttachedDevice) (e : Seizing) → vote_new s.plan s.promises both a ≡ Some e → is_vote e.kind ≡ true
    vote_kind a e is = by_test (is_quorum both a.device && is_reachable s.plan a) is
      where
        by_test : (b : Bool) → (if b then Some (vote_entry a (first_seizer s.plan s.promises a)) else None) ≡ Some e → is_vote e.kind ≡ true
        by_test true k = subst (λ (x : Seizing). is_vote x.kind ≡ true) (same_some _ e k) (entry_vote a (first_seizer s.plan s.promises a))
        by_test false k = absurd (none_some e k)

    by_entry : (o : Option Seizing) → entry_of (vote_entries_under s (Some both)) d ≡ o → IsVoteAt o
    by_entry None is = tt
    by_entry (Some e) is = entry_new (vote_new s.plan s.promises both) (λ x. is_vote x.kind ≡ true) vote_kind s.plan.attached d e is

pub votes_apart : (s : AttemptState) (o : Option BothVotes) → AreApart (numbers_of s.plan.attached) → AreApart (entry_numbers (vote_entries_under s o))
votes_apart s None h = tt
votes_apart s (Some both) h = apart_new (vote_new s.plan s.promises both) (vote_keeps s.plan s.promises both) s.plan.attached h

at_vote : (c m : ℕ) (o : Option Seizing) → IsVoteAt o → (has_plain c m o ≡ false) × (wants_plain c m o ≡ false)
at_vote c m None h = (refl, refl)
at_vote c m (Some e) h = (vote_none c m e h, vote_wants c m e h)

entries_data : (m d : ℕ) (asked : Bool) (s : AttemptState) → s.phase ≡ SeizingVotes → Data m d asked s → Data m d asked (record s { devices = vote_entries s })
entries_data m d asked s is h =
    let c : ℕ = s.plan.coordinator in
    let now : (has_plain c m (entry_of (vote_entries s) d) ≡ false) × (wants_plain c m (entry_of (vote_entries s) d) ≡ false) = at_vote c m (entry_of (vote_entries s) d) (vote_at s d s.votes) in
    record {
      sound = record { nodes = h.sound.nodes; attached = h.sound.attached; apart = votes_apart s s.votes h.sound.attached; early = λ early. absurd (subst IsEarly is early) };
      told = h.told ∙ ((at_vote c m (entry_of s.devices d) (h.votes is)).0 ∙ sym now.0);
      awaited = λ wants. absurd (false_true (sym now.1 ∙ wants));
      votes = λ _. vote_at s d s.votes;
    }

given_data : (m d : ℕ) (asked : Bool) (s : AttemptState) (both : BothVotes) → s.phase ≡ Choosing → Data m d asked s → Data m d asked (record (in_phase s SeizingVotes) { votes = Some both; devices = [] })
given_data m d asked s both is h = record {
  sound = record { nodes = h.sound.nodes; attached = h.sound.attached; apart = tt; early = λ early. absurd early };
  told = h.told ∙ ap (λ es. has_plain s.plan.coordinator m (entry_of es d)) (h.sound.early (subst IsEarly (sym is) tt));
  awaited = λ wants. absurd (false_true wants);
  votes = λ _. tt;
}

-- ---- the other devices

-- a new entry has asked whom it awaits
abbrev FreshAt : ℕ → ℕ → Option Seizing → Type 0
FreshAt c m o = wants_plain c m o ≡ has_plain c m o

swapped : (n m : ℕ) (other : Bool) → ((n == m) && other) ≡ (other && ((m == n) || false))
swapped n m true = same n m
  where
    same : (n m : ℕ) → ((n == m) && true) ≡ ((m == n) || false)
    same n m = grind arith
swapped n m false = none (n == m)
  where
    none : (b : Bool) → (b && false) ≡ false
    none true = refl
    none false = refl

fresh_entry : (plan : Plan) (c m : ℕ) (a : AttachedDevice) (o : Option ℕ) (e : Seizing) → plan.nodes ≡ numbers_to plan.members 32 → find (λ n. has a.nodes n) plan.nodes ≡ o → plain_entry a o ≡ Some e → FreshAt c m (Some e)
fresh_entry plan c m a None e nodes found is = absurd (none_some e is)
fresh_entry plan c m a (Some n) e nodes found is =
    let range : (1 ≤ n) × (n ≤ 32) = found_node plan (λ k. has a.nodes k) n nodes found in
    subst (λ x. wants_plain c m (Some x) ≡ has_plain c m (Some x)) (same_some _ e is)
    (swapped n m (not (m == c)) ∙ ap (λ b. not (m == c) && b) (sym (with_one 0 n m range.0 range.1 ∙ ap (λ b. (m == n) || b) (none_of_zero m))))

fresh_new : (plan : Plan) (devices : List Seizing) (c m : ℕ) → plan.nodes ≡ numbers_to plan.members 32 → (a : AttachedDevice) (e : Seizing) → plain_new plan devices a ≡ Some e → FreshAt c m (Some e)
fresh_new plan devices c m nodes a e is = by_test (is_seized devices a.device) is
  where
    by_test : (b : Bool) → (if b then None else plain_entry a (find (λ n. has a.nodes n) plan.nodes)) ≡ Some e → FreshAt c m (Some e)
    by_test true k = absurd (none_some e k)
    by_test false k = fresh_entry plan c m a (find (λ n. has a.nodes n) plan.nodes) e nodes refl k

none_fresh : (c m : ℕ) → FreshAt c m None
none_fresh c m = refl

fresh_at : (s : AttemptState) (m d : ℕ) → s.plan.nodes ≡ numbers_to s.plan.members 32 → (o : Option Seizing) → entry_of (plain_devices s) d ≡ o → FreshAt s.plan.coordinator m o
fresh_at s m d nodes None is = none_fresh s.plan.coordinator m
fresh_at s m d nodes (Some e) is =
    entry_new (plain_new s.plan s.devices) (λ x. FreshAt s.plan.coordinator m (Some x)) (fresh_new s.plan s.devices s.plan.coordinator m nodes) s.plan.attached d e is

seized_there : (es : List Seizing) (d : ℕ) (e : Seizing) → entry_of es d ≡ Some e → is_seized es d ≡ true
seized_there [] d e h = absurd (none_some e h)
seized_there (x ∷ es) d e h = by_test (x.attached.device == d) (λ k. seized_there es d e k) h
  where
    by_test : (b : Bool) → (entry_of es d ≡ Some e → is_seized es d ≡ true) → (if b then Some x else entry_of es d) ≡ Some e → (b || is_seized es d) ≡ true
    by_test true rest k = refl
    by_test false rest k = rest k

pub lacks_entry : (es : List Seizing) (d : ℕ) → list_any (λ x. x == d) (entry_numbers es) ≡ false → entry_of es d ≡ None
lacks_entry [] d h = refl
lacks_entry (x ∷ es) d h = by_test (x.attached.device == d) (λ k. lacks_entry es d k) h
  where
    by_test : (b : Bool) → (list_any (λ y. y == d) (entry_numbers es) ≡ false → entry_of es d ≡ None) → (b || list_any (λ y. y == d) (entry_numbers es)) ≡ false → (if b then Some x else entry_of es d) ≡ None
    by_test true rest k = absurd (false_true (sym k))
    by_test false rest k = rest k

-- with those that are asked then
others_told : (m d : ℕ) (asked : Bool) (s : AttemptState) → Data m d asked s → (o : Option Seizing) → entry_of s.devices d ≡ o
    → ((wants_plain s.plan.coordinator m (entry_of (plain_devices s) d) || asked) ≡ has_plain s.plan.coordinator m (entry_of (s.devices ++ plain_devices s) d))
    × (wants_plain s.plan.coordinator m (entry_of (s.devices ++ plain_devices s) d) ≡ true → has_plain s.plan.coordinator m (entry_of (s.devices ++ plain_devices s) d) ≡ true)
others_told m d asked s h (Some e) at =
    let c : ℕ = s.plan.coordinator in
    let all : entry_of (s.devices ++ plain_devices s) d ≡ entry_of s.devices d = appended_by d s.devices (plain_devices s) (Some e) at ∙ sym at in
    let none : entry_of (plain_devices s) d ≡ None = lacks_entry (plain_devices s) d (lacks_seized s.plan s.devices s.plan.attached d (seized_there s.devices d e at)) in (
      ap (λ o. wants_plain c m o || asked) none ∙ (h.told ∙ ap (has_plain c m) (sym all)),
      λ wants. ap (has_plain c m) all ∙ h.awaited (ap (wants_plain c m) (sym all) ∙ wants),
    )
others_told m d asked s h None at =
    let c : ℕ = s.plan.coordinator in
    let all : entry_of (s.devices ++ plain_devices s) d ≡ entry_of (plain_devices s) d = appended_by d s.devices (plain_devices s) None at in
    let fresh : FreshAt c m (entry_of (plain_devices s) d) = fresh_at s m d h.sound.nodes (entry_of (plain_devices s) d) refl in (
      ap (λ b. wants_plain c m (entry_of (plain_devices s) d) || b) (h.told ∙ ap (has_plain c m) at) ∙ (or_none (wants_plain c m (entry_of (plain_devices s) d)) ∙ (fresh ∙ ap (has_plain c m) (sym all))),
      λ wants. ap (has_plain c m) all ∙ (sym fresh ∙ (ap (wants_plain c m) (sym all) ∙ wants)),
    )
  where
    or_none : (b : Bool) → (b || false) ≡ b
    or_none true = refl
    or_none false = refl

others_data : (m d : ℕ) (asked : Bool) (s : AttemptState) → Data m d asked s
    → DataTurn m d asked (with_steps (record (in_phase s SeizingOthers) { counted = held_set s.devices; devices = s.devices ++ plain_devices s }) (filter_map (request_for s.plan) (plain_devices s)))
others_data m d asked s h =
    let apart : AreApart (entry_numbers (plain_devices s)) = apart_new (plain_new s.plan s.devices) (plain_keeps s.plan s.devices) s.plan.attached h.sound.attached in
    let two = others_told m d asked s h (entry_of s.devices d) refl in
    record {
      sound = record {
        nodes = h.sound.nodes;
        attached = h.sound.attached;
        apart = apart_append s.devices (plain_devices s) h.sound.apart apart (lacks_seized s.plan s.devices s.plan.attached);
        early = λ early. absurd early;
      };
      told = requests_ask s.plan (plain_devices s) m d asked apart ∙ two.0;
      awaited = two.1;
      votes = λ is. absurd (others_votes is);
    }

-- ---- the calls

abbrev At : ℕ → ℕ → Bool → Call → AttemptState → Type 0
At m d asked c s = Data m d asked s × May s c

awaited_device : (x from : ℕ) (e : Seizing) → awaits x from e ≡ true → (e.attached.device == x) ≡ true
awaited_device x from e h = first (e.attached.device == x) (is_none e.result) (is_asked e.seizer from) h
  where
    first : (a b c : Bool) → (a && b && c) ≡ true → a ≡ true
    first true b c k = refl
    first false b c k = absurd (false_true k)

next_data : (m d : ℕ) (asked : Bool) (s : AttemptState) (x from n : ℕ) (r : SeizeResult) (e : Seizing) → find (awaits x from) s.devices ≡ Some e → next_by s.plan.cluster s.promises s.plan.nodes e e.kind r ≡ Some n → Data m d asked s
    → DataTurn m d asked (asked_next s x e.kind n)
unfolding asked_next
next_data m d asked s x from n r e found next h =
    let vote : is_vote e.kind ≡ true = (next_of s.plan.cluster s.promises s.plan e e.kind r n h.sound.nodes next).vote in
    let two : (entry_of s.devices x ≡ Some e) × (awaits x from e ≡ true) = entry_found x (awaits x from) (λ y k. awaited_device x from y k) s.devices h.sound.apart e found in
    with_asked m d asked (asked_by_steps (to_seize m d) (request s.plan e.kind x n ∷ []) asked) (record s { devices = map (with_next x n) s.devices; ticks = 0 }) (request_none s.plan m d x n e.kind asked vote)
    (mapped m d asked s (with_next x n) (λ y. same_attached y (record y { seizer = Some n; asked = set_with y.asked n }) ((y.attached.device == x) && is_none y.result) refl)
    (next_kept s.plan.coordinator m x n d s.devices e (entry_of s.devices d) refl two.0 vote) h)

result_data : (m d : ℕ) (asked : Bool) (s : AttemptState) (x : ℕ) (r : SeizeResult) → Data m d asked s → Data m d asked (record s { devices = map (with_result x r) s.devices })
result_data m d asked s x r h =
    mapped m d asked s (with_result x r) (λ e. same_attached e (record e { result = Some r }) ((e.attached.device == x) && is_none e.result) refl) (result_kept s.plan.coordinator m x r (entry_of s.devices d)) h

requests_data : (m d : ℕ) (asked : Bool) (s : AttemptState) → s.phase ≡ SeizingVotes → Data m d asked s → DataTurn m d asked (with_steps s (filter_map (request_for s.plan) s.devices))
requests_data m d asked s is h =
    with_asked m d asked (asked_by_steps (to_seize m d) (filter_map (request_for s.plan) s.devices) asked) s
    (requests_ask s.plan s.devices m d asked h.sound.apart ∙ ap (λ b. b || asked) (at_vote s.plan.coordinator m (entry_of s.devices d) (h.votes is)).1) h

walk : (m d : ℕ) (asked : Bool) (c : Call) → Walk c (At m d asked c) (Data m d asked) (DataTurn m d asked)
walk m d asked c = record {
  within = λ s i. i.0;
  rests = λ s i. i.0;
  passes = λ s is e i. i.0;
  again = λ s is e i.
      let t : AttemptState = record s { ticks = later s.ticks } in
      with_asked m d asked (asked_by_steps (to_seize m d) (again_in t s.phase) asked) t (again_none m d asked t s.phase i.0) i.0;
  silent = λ s n is late least i. over m d asked s i.0;
  superseded = λ s from x q is nack i. over m d asked s i.0;
  promise = λ s from x p is awaited of promised i. i.0;
  collects = λ s is e k. with_asked m d asked (asked_by_steps (to_seize m d) (collects s) asked) s (sent_none s.plan (body.Collect s.plan.epoch s.plan.members) m d refl (silent_others s) asked) k;
  collecting = λ s is e k. k;
  no_newest = λ s is all none k. k;
  chosen = λ s newest is all some k. record {
    sound = record { nodes = k.sound.nodes; attached = k.sound.attached; apart = k.sound.apart; early = λ early. k.sound.early (subst IsEarly (sym is) tt) };
    told = k.told;
    awaited = k.awaited;
    votes = λ at. absurd (choosing_votes at);
  };
  votes = λ s both is i. given_data m d asked s both (subst (May s) is i.1) i.0;
  foreign = λ s both n is given least k. over m d asked s k;
  excluded = λ s n is least k. over m d asked s k;
  impossible = λ s e is short k. over m d asked s k;
  entries = λ s is enough k. entries_data m d asked s is k;
  requests = λ s is e k. requests_data m d asked s is k;
  result = λ s x from r e is tells found none i. result_data m d asked s x r i.0;
  next = λ s x from n r e is tells found next i. next_data m d asked s x from n r e found next i.0;
  seizing = λ s is e k. k;
  short = λ s e is all few k. over m d asked s k;
  others = λ s is all enough some k. others_data m d asked s k;
  installs_at_once = λ s is all enough none k. installing_data m d asked (record s { counted = held_set s.devices }) k;
  installs = λ s is all k. installing_data m d asked s k;
  ready = λ s from x is at of ready_body i. i.0;
  own = λ s is at i. i.0;
  installing = λ s at e k. k;
  starts = λ s at e k. with_asked m d asked (asked_by_steps (to_seize m d) (StartHere ∷ map (send_start s.plan) (others_of s.plan)) asked) (record s { phase = Over }) (sent_none s.plan (body.Start s.plan.epoch) m d refl (others_of s.plan) asked)
      (over m d asked s k);
}

pub call_data : (m d : ℕ) (asked : Bool) (s : AttemptState) (c : Call) → May s c → Data m d asked s → DataTurn m d asked (turn s c)
call_data m d asked s c may h = walks (At m d asked c) (Data m d asked) (DataTurn m d asked) s c (walk m d asked c) (h, may)

pub begun_data : (m d : ℕ) (asked : Bool) (s : AttemptState) → s.phase ≡ Collecting → Data m d asked s → DataTurn m d asked (begun s)
begun_data m d asked s is h = walks_begun Tick (At m d asked Tick) (Data m d asked) (DataTurn m d asked) (walk m d asked Tick) s is h
