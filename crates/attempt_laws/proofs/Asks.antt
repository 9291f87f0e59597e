-- What an attempt does at one device is allowed there, and the device's machine has the attempt after it.
use Rattle.std.proofs.Common.{◌≡◌, ℕ, ◌≤◌, ◌<◌, ◌⊎◌, inl, inr, List, [], ◌∷◌, ◌++◌, length, map, zero, suc, refl, sym, ap, subst, ◌∙◌, arith}
use Rattle.std.specs.Prelude.{All, ◌==◌, ◌&&◌, ◌||◌, nat_le, Bool, true, false, not, Option, Some, None, is_none, is_some, option_map, if◌then◌else◌}
use Rattle.std.specs.List.{find, filter_map, cons_option, list_any}
use Rattle.std.proofs.lemmas.List.Elements.{All-nil, All-cons, All-head, All-tail, All-append}
use Rattle.cl_base.specs.Sets.{has, set_with}
use Rattle.cl_base.proofs.SetLemmas.{has_with, or_bit_value, has_not_zero}
use Rattle.machine_base.proofs.Puts.{put_here, put_true, true_or_false}
use Rattle.cluster_machine.specs.Cluster.{count_at}
use Rattle.device_machine.specs.Attempt as attempt
use Rattle.device_machine.specs.Sharing.{Sharing, Event, Collected, Ask, AllAnswered, Allowed, after}
use Rattle.seize.specs.declared.kind.SeizeKind.{SeizeKind}
use Rattle.seize.specs.declared.kind.SeizeKind.TheVariants.{Vote, Plain}
use Rattle.cl_base.specs.Seizings.{SeizeResult}
use Rattle.cl_base.specs.declared.seizing.SeizeEnd.TheVariants.{Held, NotRegistered, Greater, Expelled, Contended, Fault}
use Rattle.wire.specs.declared.message.Body.{Body}
use Rattle.wire.specs.declared.message.Body.TheVariants as body
use Rattle.wire.specs.declared.message.Message.{Message}
use Rattle.cmm_attempt.specs.declared.attached.AttachedDevice.{AttachedDevice}
use Rattle.cmm_attempt.specs.declared.counting.BothVotes.{BothVotes}
use Rattle.cmm_attempt.specs.declared.phase.Phase.{Phase}
use Rattle.cmm_attempt.specs.declared.phase.Phase.TheVariants.{Collecting, Choosing, SeizingVotes, SeizingOthers, Installing, Over}
use Rattle.cmm_attempt.specs.declared.plan.Plan.{Plan}
use Rattle.cmm_attempt.specs.declared.promised.Promised.{Promised}
use Rattle.cmm_attempt.specs.declared.promised.Shown.{Shown}
use Rattle.cmm_attempt.specs.declared.seizing.Seizing.{Seizing}
use Rattle.cmm_attempt.specs.declared.step.Step.{Step}
use Rattle.cmm_attempt.specs.declared.step.Step.TheVariants.{Send, SeizeHere, NeedVotes, InstallHere, StartHere, Ended}
use Rattle.cmm_attempt.specs.declared.step.AttemptEnd.{AttemptEnd}
use Rattle.cmm_attempt.specs.declared.step.AttemptEnd.TheVariants.{Silent, Superseded, Foreign, Excluded}
use Rattle.cl_base.specs.Numbers.{numbers_to}
use Rattle.cmm_attempt.specs.Plans.{others_of, is_reachable}
use Rattle.cl_base.specs.Keys.{key_of}
use Rattle.cmm_attempt.specs.Seizings.{may_follow, may_seize, all_settled, awaits, held_set, is_asked, is_held_by, is_seized, first_seizer, vote_entry, plain_entry, plain_new, next_by, request, request_body, request_by, request_for, again_by, again_for, with_next, with_result}
use Rattle.cmm_attempt.specs.Calls.{Take, With_votes, Own_seized, Own_ready, Tick, installs_in}
use Rattle.attempt_laws.specs.Laws.{is_held_in}
use Rattle.attempt_laws.specs.Machine.{is_member}
use Rattle.attempt_laws.specs.Asking.{EndedSo, TellsAt, IsUnasked, IsOpen, IsFresh, is_vote, EndedAs, IsAsked, AskedBy, HasEntry, HasAsked, AsksBy, AsksAt, entry_of, AreApart, numbers_of, HasIn, entry_numbers, HasAttempt, DeviceHas, IsAsking, CountsAt, Moves, DevicesBegin, CallsMove}
use Rattle.cmm_attempt.proofs.Basics.{none_some, false_true, same_some, and_cases, either_of, same_number, if_either}
use Rattle.attempt_laws.proofs.Walk.{if_with}
use Rattle.attempt_laws.proofs.StillHeld.{same_attached}
use Rattle.attempt_laws.proofs.Told.{is_among}
use Rattle.attempt_laws.proofs.MachineLemmas.{of_any, of_all}
use Rattle.attempt_laws.proofs.Goes.{none_sent, none_requests, none_again_in, none_cons, none_asked}
use Rattle.cmm_attempt.specs.Promises.{holds_valid, promised_by, shown_by, newest_shown, first_left_out, has_promised}
use Rattle.wire.specs.Kinds.{is_ready}
use Rattle.cmm_attempt.specs.Counts.{first_foreign, is_quorum, reached_set, vote_new}
use Rattle.cmm_attempt.specs.Installs.{send_to, send_start}
use Rattle.cmm_attempt.specs.Attempts.{AttemptState, Turn, with_steps, waits, ends, is_over, is_missing, silent_others, all_ready, starting, install_in, installs, in_phase, installing, plain_devices, asked_plain, seizing_others, shortage, counted_by, counting, settled_in, proceeding, settled, asked_next, next_asked, answered_on, answering, answering_in, asked_votes, vote_entries_under, vote_entries, seizing_votes, possible, known, knowing, admitted, voting, chosen, chosen_by, choosing, all_promised, collects, first_state, promises_of, begun, beginning, awaits_promise, gathered, with_promise, promising, awaits_ready, readying, is_of, taken, taking, own_readying_in, own_readying, own_answering, again_in, silenced, ticked, later, ticking}

-- Nodes of the plan.

in_range : (n : ℕ) (b : Bool) → (nat_le n 32 && b) ≡ true → (n ≤ 32) × (b ≡ true)
in_range n b h = grind arith

not_zero : (set n : ℕ) → has set n ≡ true → 1 ≤ n
not_zero set zero h = absurd (false_true (sym (has_not_zero set) ∙ h))
not_zero set (suc n) h = omega arith

node_in_range : (members n : ℕ) → is_member members n ≡ true → (1 ≤ n) × (n ≤ 32)
node_in_range members n h = (not_zero members n (in_range n (has members n) h).1, (in_range n (has members n) h).0)

has_itself : (set n : ℕ) → 1 ≤ n → n ≤ 32 → has (set_with set n) n ≡ true
has_itself set n low high = ap (λ s. has s n) (sym (or_bit_value set n high)) ∙ (has_with set n low high n ∙ (grind arith))

has_still : (set n m : ℕ) → 1 ≤ n → n ≤ 32 → has set m ≡ true → has (set_with set n) m ≡ true
has_still set n m low high h = ap (λ s. has s m) (sym (or_bit_value set n high)) ∙ (has_with set n low high m ∙ or_second (m == n) (has set m) h)
  where
    or_second : (a b : Bool) → b ≡ true → (a || b) ≡ true
    or_second true b h = refl
    or_second false b h = h

-- the node that is found is in the list
pub found_among : (p : ℕ → Bool) (ns : List ℕ) (n : ℕ) → find p ns ≡ Some n → (p n ≡ true) × (list_any (λ m. m == n) ns ≡ true)
found_among p [] n h = absurd (none_some n h)
found_among p (m ∷ ns) n h = by_test (found_among p ns n) (p m) refl h
  where
    itself : (n : ℕ) (b : Bool) → ((n == n) || b) ≡ true
    itself n b = grind arith

    or_more : (a b : Bool) → b ≡ true → (a || b) ≡ true
    or_more true b h = refl
    or_more false b h = h

    by_test : (find p ns ≡ Some n → (p n ≡ true) × (list_any (λ k. k == n) ns ≡ true)) → (b : Bool) → p m ≡ b → (if b then Some m else find p ns) ≡ Some n
        → (p n ≡ true) × (list_any (λ k. k == n) (m ∷ ns) ≡ true)
    by_test rest true e k =
        subst (λ x. (p x ≡ true) × (list_any (λ k. k == x) (m ∷ ns) ≡ true)) (same_some m n k) (e, itself m (list_any (λ k. k == m) ns))
    by_test rest false e k = let two : (p n ≡ true) × (list_any (λ k. k == n) ns ≡ true) = rest k in (two.0, or_more (m == n) (list_any (λ k. k == n) ns) two.1)

found_member : (plan : Plan) (p : ℕ → Bool) (n : ℕ) → plan.nodes ≡ numbers_to plan.members 32 → find p plan.nodes ≡ Some n → is_member plan.members n ≡ true
found_member plan p n nodes h =
    sym (ap (λ ns. list_any (λ m. m == n) ns) nodes ∙ is_among plan.members 32 n) ∙ (found_among p plan.nodes n h).1

-- The entry of a device.

entry_mapped : (f : Seizing → Seizing) → ((e : Seizing) → (f e).attached ≡ e.attached) → (es : List Seizing) (d : ℕ) → entry_of (map f es) d ≡ option_map f (entry_of es d)
entry_mapped f same [] d = refl
entry_mapped f same (e ∷ es) d =
    ap (λ b. if b then Some (f e) else entry_of (map f es) d) (ap (λ a. a.device == d) (same e)) ∙ by_test (entry_mapped f same es d) (e.attached.device == d)
  where
    by_test : entry_of (map f es) d ≡ option_map f (entry_of es d) → (b : Bool)
        → (if b then Some (f e) else entry_of (map f es) d) ≡ option_map f (if b then Some e else entry_of es d)
    by_test rest true = refl
    by_test rest false = rest

numbers_mapped : (f : Seizing → Seizing) → ((e : Seizing) → (f e).attached ≡ e.attached) → (es : List Seizing) → entry_numbers (map f es) ≡ entry_numbers es
numbers_mapped f same [] = refl
numbers_mapped f same (e ∷ es) = rw (same e, numbers_mapped f same es) refl

any_appended : (d : ℕ) (es more : List Seizing) → entry_of (es ++ more) d ≡ (if is_some (entry_of es d) then entry_of es d else entry_of more d)
any_appended d [] more = refl
any_appended d (e ∷ es) more = by_test (any_appended d es more) (e.attached.device == d)
  where
    by_test : entry_of (es ++ more) d ≡ (if is_some (entry_of es d) then entry_of es d else entry_of more d) → (b : Bool)
        → (if b then Some e else entry_of (es ++ more) d) ≡ (if is_some (if b then Some e else entry_of es d) then (if b then Some e else entry_of es d) else entry_of more d)
    by_test rest true = refl
    by_test rest false = rest

appended_by : (d : ℕ) (es more : List Seizing) (o : Option Seizing) → entry_of es d ≡ o → entry_of (es ++ more) d ≡ (if is_some o then o else entry_of more d)
appended_by d es more o h = subst (λ x. entry_of (es ++ more) d ≡ (if is_some x then x else entry_of more d)) h (any_appended d es more)

-- an entry that is held or awaited is the device's, since the devices are apart
none_listed : (d : ℕ) (es : List Seizing) → list_any (λ x. x == d) (entry_numbers es) ≡ false → (p : Seizing → Bool) → ((e : Seizing) → p e ≡ true → (e.attached.device == d) ≡ true)
    → (e : Seizing) → find p es ≡ Some e → ⊥
none_listed d [] none p is e h = none_some e h
none_listed d (x ∷ es) none p is e h = by_test (λ no. none_listed d es no p is e) (p x) refl h
  where
    or_false : (a b : Bool) → (a || b) ≡ false → (a ≡ false) × (b ≡ false)
    or_false true b k = absurd (false_true (sym k))
    or_false false b k = (refl, k)

    two : ((x.attached.device == d) ≡ false) × (list_any (λ y. y == d) (entry_numbers es) ≡ false)
    two = or_false (x.attached.device == d) (list_any (λ y. y == d) (entry_numbers es)) none

    by_test : (list_any (λ y. y == d) (entry_numbers es) ≡ false → find p es ≡ Some e → ⊥) → (b : Bool) → p x ≡ b → (if b then Some x else find p es) ≡ Some e → ⊥
    by_test rest true e' k = false_true (sym two.0 ∙ is x e')
    by_test rest false e' k = rest two.1 k

entry_found : (d : ℕ) (p : Seizing → Bool) → ((e : Seizing) → p e ≡ true → (e.attached.device == d) ≡ true) → (es : List Seizing) → AreApart (entry_numbers es)
    → (e : Seizing) → find p es ≡ Some e → (entry_of es d ≡ Some e) × (p e ≡ true)
entry_found d p is [] apart e h = absurd (none_some e h)
entry_found d p is (x ∷ es) apart e h = by_test (entry_found d p is es apart.1 e) (p x) refl h
  where
    here : (find p es ≡ Some e → (entry_of es d ≡ Some e) × (p e ≡ true)) → (b : Bool) → (x.attached.device == d) ≡ b → p x ≡ false → (find p es ≡ Some e)
        → ((if b then Some x else entry_of es d) ≡ Some e) × (p e ≡ true)
    here rest true k lacks_it f =
        absurd (none_listed d es (subst (λ n. list_any (λ y. y == n) (entry_numbers es) ≡ false) (same_number x.attached.device d k) apart.0) p is e f)
    here rest false k lacks_it f = rest f

    by_test : (find p es ≡ Some e → (entry_of es d ≡ Some e) × (p e ≡ true)) → (b : Bool) → p x ≡ b → (if b then Some x else find p es) ≡ Some e
        → ((if x.attached.device == d then Some x else entry_of es d) ≡ Some e) × (p e ≡ true)
    by_test rest true k f = (rw (is x k) f, subst (λ y. p y ≡ true) (same_some x e f) k)
    by_test rest false k f = here rest (x.attached.device == d) refl k f

held_found : (es : List Seizing) (d : ℕ) → is_held_in es d ≡ true → (e : Seizing) × (find (λ x. (x.attached.device == d) && is_held_by x.result) es ≡ Some e)
held_found [] d h = absurd (false_true h)
held_found (x ∷ es) d h = by_test (held_found es d) ((x.attached.device == d) && is_held_by x.result) refl h
  where
    by_test : (is_held_in es d ≡ true → (e : Seizing) × (find (λ y. (y.attached.device == d) && is_held_by y.result) es ≡ Some e)) → (b : Bool)
        → ((x.attached.device == d) && is_held_by x.result) ≡ b → (b || is_held_in es d) ≡ true
        → (e : Seizing) × ((if b then Some x else find (λ y. (y.attached.device == d) && is_held_by y.result) es) ≡ Some e)
    by_test rest true k f = (x, refl)
    by_test rest false k f = rest f

settled_one : (es : List Seizing) (d : ℕ) (e : Seizing) → all_settled es ≡ true → entry_of es d ≡ Some e → is_some e.result ≡ true
settled_one [] d e all h = absurd (none_some e h)
settled_one (x ∷ es) d e all h =
    by_test (settled_one es d e (and_cases (is_some x.result) (all_settled es) all).1) (x.attached.device == d) h
  where
    two : (is_some x.result ≡ true) × (all_settled es ≡ true)
    two = and_cases (is_some x.result) (all_settled es) all

    by_test : (entry_of es d ≡ Some e → is_some e.result ≡ true) → (b : Bool) → (if b then Some x else entry_of es d) ≡ Some e → is_some e.result ≡ true
    by_test rest true k = subst (λ y. is_some y.result ≡ true) (same_some x e k) two.0
    by_test rest false k = rest k

found_device : (es : List Seizing) (d : ℕ) (e : Seizing) → entry_of es d ≡ Some e → e.attached.device ≡ d
found_device [] d e h = absurd (none_some e h)
found_device (x ∷ es) d e h = by_test (found_device es d e) (x.attached.device == d) refl h
  where
    by_test : (entry_of es d ≡ Some e → e.attached.device ≡ d) → (b : Bool) → (x.attached.device == d) ≡ b → (if b then Some x else entry_of es d) ≡ Some e → e.attached.device ≡ d
    by_test rest true is k = subst (λ y. y.attached.device ≡ d) (same_some x e k) (same_number x.attached.device d is)
    by_test rest false is k = rest k

-- The devices of new entries.

abbrev IsOf : AttachedDevice → Option Seizing → Type 0
IsOf a None = Unit {0}
IsOf a (Some e) = e.attached ≡ a

lacks_with : (a : AttachedDevice) (o : Option Seizing) (es : List Seizing) (d : ℕ) → IsOf a o → (a.device == d) ≡ false
    → list_any (λ x. x == d) (entry_numbers es) ≡ false → list_any (λ x. x == d) (entry_numbers (cons_option o es)) ≡ false
lacks_with a None es d is ne h = h
lacks_with a (Some e) es d is ne h = rw (is, ne) h

or_false : (a b : Bool) → (a || b) ≡ false → (a ≡ false) × (b ≡ false)
or_false true b k = absurd (false_true (sym k))
or_false false b k = (refl, k)

lacks : (f : AttachedDevice → Option Seizing) → ((a : AttachedDevice) → IsOf a (f a)) → (xs : List AttachedDevice) (d : ℕ)
    → list_any (λ x. x == d) (numbers_of xs) ≡ false → list_any (λ x. x == d) (entry_numbers (filter_map f xs)) ≡ false
lacks f keeps [] d h = refl
lacks f keeps (a ∷ xs) d h =
    let two : ((a.device == d) ≡ false) × (list_any (λ x. x == d) (numbers_of xs) ≡ false) = or_false (a.device == d) (list_any (λ x. x == d) (numbers_of xs)) h in
    lacks_with a (f a) (filter_map f xs) d (keeps a) two.0 (lacks f keeps xs d two.1)

apart_with : (a : AttachedDevice) (o : Option Seizing) (es : List Seizing) → IsOf a o → list_any (λ x. x == a.device) (entry_numbers es) ≡ false
    → AreApart (entry_numbers es) → AreApart (entry_numbers (cons_option o es))
apart_with a None es is h apart = apart
apart_with a (Some e) es is h apart = (rw is h, apart)

apart_new : (f : AttachedDevice → Option Seizing) → ((a : AttachedDevice) → IsOf a (f a)) → (xs : List AttachedDevice) → AreApart (numbers_of xs)
    → AreApart (entry_numbers (filter_map f xs))
apart_new f keeps [] h = tt
apart_new f keeps (a ∷ xs) h = apart_with a (f a) (filter_map f xs) (keeps a) (lacks f keeps xs a.device h.0) (apart_new f keeps xs h.1)

-- a new entry xs it is made
entry_new : (f : AttachedDevice → Option Seizing) (Q : Seizing → Type 0) → ((a : AttachedDevice) (e : Seizing) → f a ≡ Some e → Q e) → (xs : List AttachedDevice) (d : ℕ) (e : Seizing)
    → entry_of (filter_map f xs) d ≡ Some e → Q e
entry_new f Q made [] d e h = absurd (none_some e h)
entry_new f Q made (a ∷ xs) d e h = by_option (entry_new f Q made xs d e) (f a) refl h
  where
    by_test : (entry_of (filter_map f xs) d ≡ Some e → Q e) → (x : Seizing) → Q x → (b : Bool) → (if b then Some x else entry_of (filter_map f xs) d) ≡ Some e → Q e
    by_test rest x q true k = subst Q (same_some x e k) q
    by_test rest x q false k = rest k

    by_option : (entry_of (filter_map f xs) d ≡ Some e → Q e) → (o : Option Seizing) → f a ≡ o → entry_of (cons_option o (filter_map f xs)) d ≡ Some e → Q e
    by_option rest None is k = rest k
    by_option rest (Some x) is k = by_test rest x (made a x is) (x.attached.device == d) k

-- A new entry: the first node is asked, who is a member, or it is settled xs not registered.

abbrev FirstAsked : ℕ → Seizing → Option ℕ → Type 0
FirstAsked members e None = e.result ≡ Some (NotRegistered [])
FirstAsked members e (Some n) = (e.asked ≡ set_with 0 n) × (e.result ≡ None) × (is_member members n ≡ true)

record IsNew (members : ℕ) (kind : SeizeKind) (e : Seizing) : Type 0 where
  is : e.kind ≡ kind
  first : FirstAsked members e e.seizer

vote_of_device : (a : AttachedDevice) (o : Option ℕ) → IsOf a (Some (vote_entry a o))
vote_of_device a None = refl
vote_of_device a (Some n) = refl

vote_keeps : (plan : Plan) (promises : List Promised) (both : BothVotes) (a : AttachedDevice) → IsOf a (vote_new plan promises both a)
vote_keeps plan promises both a =
    if_either (IsOf a) (is_quorum both a.device && is_reachable plan a) (Some (vote_entry a (first_seizer plan promises a))) None
    (vote_of_device a (first_seizer plan promises a)) tt

vote_is_new : (plan : Plan) (promises : List Promised) (a : AttachedDevice) (o : Option ℕ) → plan.nodes ≡ numbers_to plan.members 32 → first_seizer plan promises a ≡ o
    → IsNew plan.members Vote (vote_entry a o)
vote_is_new plan promises a None nodes h = record { is = refl; first = refl }
vote_is_new plan promises a (Some n) nodes h = record { is = refl; first = (refl, refl, found_member plan (may_seize promises a) n nodes h) }

vote_new_is : (plan : Plan) (promises : List Promised) (both : BothVotes) → plan.nodes ≡ numbers_to plan.members 32 → (a : AttachedDevice) (e : Seizing)
    → vote_new plan promises both a ≡ Some e → IsNew plan.members Vote e
vote_new_is plan promises both nodes a e h = by_test (is_quorum both a.device && is_reachable plan a) h
  where
    by_test : (b : Bool) → (if b then Some (vote_entry a (first_seizer plan promises a)) else None) ≡ Some e → IsNew plan.members Vote e
    by_test true k = subst (IsNew plan.members Vote) (same_some _ e k) (vote_is_new plan promises a (first_seizer plan promises a) nodes refl)
    by_test false k = absurd (none_some e k)

plain_of_device : (a : AttachedDevice) (o : Option ℕ) → IsOf a (plain_entry a o)
plain_of_device a None = tt
plain_of_device a (Some n) = refl

plain_keeps : (plan : Plan) (devices : List Seizing) (a : AttachedDevice) → IsOf a (plain_new plan devices a)
plain_keeps plan devices a =
    if_either (IsOf a) (is_seized devices a.device) None (plain_entry a (find (λ n. has a.nodes n) plan.nodes)) tt (plain_of_device a (find (λ n. has a.nodes n) plan.nodes))

plain_is_new : (plan : Plan) (a : AttachedDevice) (o : Option ℕ) (e : Seizing) → plan.nodes ≡ numbers_to plan.members 32 → find (λ n. has a.nodes n) plan.nodes ≡ o
    → plain_entry a o ≡ Some e → IsNew plan.members Plain e
plain_is_new plan a None e nodes is h = absurd (none_some e h)
plain_is_new plan a (Some n) e nodes is h =
    subst (IsNew plan.members Plain) (same_some _ e h) (record { is = refl; first = (refl, refl, found_member plan (λ m. has a.nodes m) n nodes is) })

plain_new_is : (plan : Plan) (devices : List Seizing) → plan.nodes ≡ numbers_to plan.members 32 → (a : AttachedDevice) (e : Seizing)
    → plain_new plan devices a ≡ Some e → IsNew plan.members Plain e
plain_new_is plan devices nodes a e h = by_test (is_seized devices a.device) h
  where
    by_test : (b : Bool) → (if b then None else plain_entry a (find (λ n. has a.nodes n) plan.nodes)) ≡ Some e → IsNew plan.members Plain e
    by_test true k = absurd (none_some e k)
    by_test false k = plain_is_new plan a (find (λ n. has a.nodes n) plan.nodes) e nodes refl k

-- the other devices are apart from those that are seized already
listed_number : (es : List Seizing) (d : ℕ) → is_seized es d ≡ list_any (λ x. x == d) (entry_numbers es)
listed_number [] d = refl
listed_number (e ∷ es) d = rw (listed_number es d) refl

lacks_seized : (plan : Plan) (devices : List Seizing) (xs : List AttachedDevice) (d : ℕ) → is_seized devices d ≡ true
    → list_any (λ x. x == d) (entry_numbers (filter_map (plain_new plan devices) xs)) ≡ false
lacks_seized plan devices [] d h = refl
lacks_seized plan devices (a ∷ xs) d h = by_test (lacks_seized plan devices xs d h) (a.device == d) refl
  where
    seized : (a.device == d) ≡ true → is_seized devices a.device ≡ true
    seized e = subst (λ n. is_seized devices n ≡ true) (sym (same_number a.device d e)) h

    by_test : list_any (λ x. x == d) (entry_numbers (filter_map (plain_new plan devices) xs)) ≡ false → (b : Bool) → (a.device == d) ≡ b
        → list_any (λ x. x == d) (entry_numbers (filter_map (plain_new plan devices) (a ∷ xs))) ≡ false
    by_test rest true e = rw (seized e) rest
    by_test rest false e = lacks_with a (plain_new plan devices a) (filter_map (plain_new plan devices) xs) d (plain_keeps plan devices a) e rest

apart_append : (es more : List Seizing) → AreApart (entry_numbers es) → AreApart (entry_numbers more)
    → ((d : ℕ) → is_seized es d ≡ true → list_any (λ x. x == d) (entry_numbers more) ≡ false) → AreApart (entry_numbers (es ++ more))
apart_append [] more h k apart = k
apart_append (e ∷ es) more h k apart = (
  lacks_both es e.attached.device h.0 (apart e.attached.device (itself e.attached.device (is_seized es e.attached.device))),
  apart_append es more h.1 k (λ d is. apart d (second (e.attached.device == d) (is_seized es d) is)),
)
  where
    itself : (n : ℕ) (b : Bool) → ((n == n) || b) ≡ true
    itself n b = grind arith

    second : (a b : Bool) → b ≡ true → (a || b) ≡ true
    second true b q = refl
    second false b q = q

    lacks_both : (xs : List Seizing) (d : ℕ) → list_any (λ x. x == d) (entry_numbers xs) ≡ false → list_any (λ x. x == d) (entry_numbers more) ≡ false
        → list_any (λ x. x == d) (entry_numbers (xs ++ more)) ≡ false
    lacks_both [] d p q = q
    lacks_both (x ∷ xs) d p q =
        let two : ((x.attached.device == d) ≡ false) × (list_any (λ y. y == d) (entry_numbers xs) ≡ false) =
        or_false (x.attached.device == d) (list_any (λ y. y == d) (entry_numbers xs)) p in
        rw two.0 (lacks_both xs d two.1 q)

-- What is asked.

sends_ask : (t : Sharing) (plan : Plan) (d : ℕ) (b : Body) → ((n : ℕ) → AsksBy t plan d n b) → (ns : List ℕ) → All (AsksAt t plan d) (map (send_to plan b) ns)
sends_ask t plan d b each [] = All-nil (AsksAt t plan d)
sends_ask t plan d b each (n ∷ ns) = All-cons (AsksAt t plan d) (send_to plan b n) (map (send_to plan b) ns) (each n) (sends_ask t plan d b each ns)

body_asks : (t : Sharing) (plan : Plan) (d x n : ℕ) (kind : SeizeKind) → (x ≡ d → HasAsked t plan.epoch n kind) → AsksBy t plan d n (request_body plan kind x)
body_asks t plan d x n Vote h = (refl, refl, h)
body_asks t plan d x n Plain h = (refl, refl, h)

request_asks : (t : Sharing) (plan : Plan) (d x n : ℕ) (kind : SeizeKind) → (x ≡ d → HasAsked t plan.epoch n kind) → AsksAt t plan d (request plan kind x n)
request_asks t plan d x n kind h =
    if_with_step (n == plan.coordinator) (n == plan.coordinator) refl
    (λ e k. subst (λ m. HasAsked t plan.epoch m kind) (same_number n plan.coordinator e) (h k)) (body_asks t plan d x n kind h)
  where
    if_with_step : (b c : Bool) → b ≡ c → (b ≡ true → x ≡ d → HasAsked t plan.epoch plan.coordinator kind) → AsksBy t plan d n (request_body plan kind x)
        → AsksAt t plan d (if c then SeizeHere x kind else Send n (record { sender = plan.coordinator; body = request_body plan kind x }))
    if_with_step b true e p q = p e
    if_with_step b false e p q = q

AsksMaybe : Sharing → Plan → ℕ → Option Step → Type 0
AsksMaybe t plan d None = Unit {0}
AsksMaybe t plan d (Some x) = AsksAt t plan d x

asks_option : (t : Sharing) (plan : Plan) (d : ℕ) (o : Option Step) (steps : List Step) → AsksMaybe t plan d o → All (AsksAt t plan d) steps
    → All (AsksAt t plan d) (cons_option o steps)
unfolding AsksMaybe
asks_option t plan d None steps h more = more
asks_option t plan d (Some x) steps h more = All-cons (AsksAt t plan d) x steps h more

-- an entry of device d is as the machine has it
abbrev IsAskedAt : Sharing → Plan → ℕ → Seizing → Type 0
IsAskedAt t plan d e = e.attached.device ≡ d → AskedBy t plan.epoch e e.seizer

asked_at : (t : Sharing) (plan : Plan) (d n : ℕ) (e : Seizing) (o : Option ℕ) → o ≡ Some n → AskedBy t plan.epoch e o → HasAsked t plan.epoch n e.kind
asked_at t plan d n e None is h = absurd (none_some n is)
asked_at t plan d n e (Some m) is h =
    (subst (λ k. (t.attempt plan.epoch).asked k ≡ true) (same_some m n is) h.asked, h.kind)

by_request : (t : Sharing) (plan : Plan) (d : ℕ) (e : Seizing) (r : Option SeizeResult) (o : Option ℕ) → e.seizer ≡ o → IsAskedAt t plan d e → AsksMaybe t plan d (request_by plan e r o)
unfolding AsksMaybe
by_request t plan d e None (Some n) is h = request_asks t plan d e.attached.device n e.kind (λ k. asked_at t plan d n e e.seizer is (h k))
by_request t plan d e None None is h = tt
by_request t plan d e (Some r) o is h = tt

requests_ask : (t : Sharing) (plan : Plan) (d : ℕ) (es : List Seizing) → All (IsAskedAt t plan d) es → All (AsksAt t plan d) (filter_map (request_for plan) es)
requests_ask t plan d [] h = All-nil (AsksAt t plan d)
requests_ask t plan d (e ∷ es) h =
    asks_option t plan d (request_for plan e) (filter_map (request_for plan) es) (by_request t plan d e e.result e.seizer refl (All-head (IsAskedAt t plan d) e es h))
    (requests_ask t plan d es (All-tail (IsAskedAt t plan d) e es h))

by_again : (t : Sharing) (plan : Plan) (d : ℕ) (e : Seizing) (r : Option SeizeResult) (o : Option ℕ) → e.seizer ≡ o → IsAskedAt t plan d e → AsksMaybe t plan d (again_by plan e r o)
unfolding AsksMaybe
by_again t plan d e None (Some n) is h =
    if_either (AsksMaybe t plan d) (n == plan.coordinator) None (Some (request plan e.kind e.attached.device n)) tt
    (request_asks t plan d e.attached.device n e.kind (λ k. asked_at t plan d n e e.seizer is (h k)))
by_again t plan d e None None is h = tt
by_again t plan d e (Some r) o is h = tt

again_asks : (t : Sharing) (plan : Plan) (d : ℕ) (es : List Seizing) → All (IsAskedAt t plan d) es → All (AsksAt t plan d) (filter_map (again_for plan) es)
again_asks t plan d [] h = All-nil (AsksAt t plan d)
again_asks t plan d (e ∷ es) h =
    asks_option t plan d (again_for plan e) (filter_map (again_for plan) es) (by_again t plan d e e.result e.seizer refl (All-head (IsAskedAt t plan d) e es h))
    (again_asks t plan d es (All-tail (IsAskedAt t plan d) e es h))

-- since devices are apart, an entry of device d is the entry of d
abbrev IsTheEntry : List Seizing → ℕ → Seizing → Type 0
IsTheEntry es d e = e.attached.device ≡ d → entry_of es d ≡ Some e

each_lacks : (es : List Seizing) (k : ℕ) → list_any (λ x. x == k) (entry_numbers es) ≡ false → All (λ e. (e.attached.device == k) ≡ false) es
each_lacks [] k h = All-nil (λ e. (e.attached.device == k) ≡ false)
each_lacks (e ∷ es) k h =
    let two : ((e.attached.device == k) ≡ false) × (list_any (λ x. x == k) (entry_numbers es) ≡ false) = or_false (e.attached.device == k) (list_any (λ x. x == k) (entry_numbers es)) h in
    All-cons (λ y. (y.attached.device == k) ≡ false) e es two.0 (each_lacks es k two.1)

is_itself : (n d : ℕ) → n ≡ d → (n == d) ≡ true
is_itself n d h = grind arith

is_not : (y e d : ℕ) → (y == e) ≡ false → y ≡ d → (e == d) ≡ false
is_not y e d h k = grind arith

behind_another : (x : Seizing) (es : List Seizing) (d : ℕ) (e : Seizing) → (e.attached.device == x.attached.device) ≡ false → IsTheEntry es d e → IsTheEntry (x ∷ es) d e
behind_another x es d e ne h k = rw (is_not e.attached.device x.attached.device d ne k) (h k)

map_two : (P Q R : Seizing → Type 0) → ((e : Seizing) → P e → Q e → R e) → (es : List Seizing) → All P es → All Q es → All R es
map_two P Q R f [] h k = All-nil R
map_two P Q R f (e ∷ es) h k =
    All-cons R e es (f e (All-head P e es h) (All-head Q e es k)) (map_two P Q R f es (All-tail P e es h) (All-tail Q e es k))

entries_apart : (es : List Seizing) (d : ℕ) → AreApart (entry_numbers es) → All (IsTheEntry es d) es
entries_apart [] d h = All-nil (IsTheEntry [] d)
entries_apart (x ∷ es) d h =
    All-cons (IsTheEntry (x ∷ es) d) x es (λ k. rw (is_itself x.attached.device d k) refl)
    (map_two (λ e. (e.attached.device == x.attached.device) ≡ false) (IsTheEntry es d) (IsTheEntry (x ∷ es) d) (behind_another x es d) es
    (each_lacks es x.attached.device h.0) (entries_apart es d h.1))

all_map : (P Q : Seizing → Type 0) → ((e : Seizing) → P e → Q e) → (es : List Seizing) → All P es → All Q es
all_map P Q f [] h = All-nil Q
all_map P Q f (e ∷ es) h = All-cons Q e es (f e (All-head P e es h)) (all_map P Q f es (All-tail P e es h))

all_right : (P : Seizing → Type 0) (xs ys : List Seizing) → All P (xs ++ ys) → All P ys
all_right P [] ys h = h
all_right P (x ∷ xs) ys h = all_right P xs ys (All-tail P x (xs ++ ys) h)

entries_asked : (t : Sharing) (plan : Plan) (es : List Seizing) (d : ℕ) → AreApart (entry_numbers es) → HasEntry t plan.epoch (entry_of es d) → All (IsAskedAt t plan d) es
entries_asked t plan es d apart h =
    all_map (IsTheEntry es d) (IsAskedAt t plan d) (λ e is k. subst (HasEntry t plan.epoch) (is k) h) es (entries_apart es d apart)

-- Moves.

moves_quiet : (t : Sharing) (all : ℕ → Bool) (s : AttemptState) (d : ℕ) (steps : List Step) → installs_in steps ≡ None → All (AsksAt t s.plan d) steps → DeviceHas t s d
    → Moves t s.plan.epoch all d (with_steps s steps)
moves_quiet t all s d steps none asks h = record {
  events = [];
  asking = All-nil (IsAsking s.plan.epoch all);
  allowed = tt;
  asked = asks;
  counts = subst (CountsAt t s d) (sym none) h;
}

moves_waits : (t : Sharing) (all : ℕ → Bool) (s : AttemptState) (d : ℕ) → DeviceHas t s d → Moves t s.plan.epoch all d (waits s)
moves_waits t all s d h = moves_quiet t all s d [] refl (All-nil (AsksAt t s.plan d)) h

over : (t : Sharing) (plan : Plan) (promises : List Promised) (devices : List Seizing) (d : ℕ) (phase : Phase) → HasAttempt t plan promises devices d phase
    → HasAttempt t plan promises devices d Over
over t plan promises devices d phase h = record { nodes = h.nodes; attached = h.attached; apart = h.apart; has = tt }

moves_ends : (t : Sharing) (all : ℕ → Bool) (s : AttemptState) (d : ℕ) (e : AttemptEnd) → DeviceHas t s d → Moves t s.plan.epoch all d (ends s e)
moves_ends t all s d e h = record {
  events = [];
  asking = All-nil (IsAsking s.plan.epoch all);
  allowed = tt;
  asked = All-cons (AsksAt t s.plan d) (Ended e) [] tt (All-nil (AsksAt t s.plan d));
  counts = over t s.plan s.promises s.devices d s.phase h;
}

moves_first : (t : Sharing) (q : ℕ) (all : ℕ → Bool) (d : ℕ) (u : Turn) (e : Event) → IsAsking q all e → Allowed t e → Moves (after t e) q all d u → Moves t q all d u
moves_first t q all d u e is may m = record {
  events = e ∷ m.events;
  asking = All-cons (IsAsking q all) e m.events is m.asking;
  allowed = (may, m.allowed);
  asked = m.asked;
  counts = m.counts;
}

moves_starting : (t : Sharing) (all : ℕ → Bool) (s : AttemptState) (d : ℕ) → DeviceHas t s d → Moves t s.plan.epoch all d (starting s)
unfolding starting
moves_starting t all s d h =
    let o : AttemptState = record s { phase = Over } in
    if_either (Moves t s.plan.epoch all d) (s.own_ready && all_ready s) (with_steps o (StartHere ∷ map (send_start s.plan) (others_of s.plan))) (waits s)
    (moves_quiet t all o d (StartHere ∷ map (send_start s.plan) (others_of s.plan)) (none_sent s.plan (body.Start s.plan.epoch) (others_of s.plan))
    (All-cons (AsksAt t s.plan d) StartHere (map (send_start s.plan) (others_of s.plan)) tt (sends_ask t s.plan d (body.Start s.plan.epoch) (λ n. tt) (others_of s.plan)))
    (over t s.plan s.promises s.devices d s.phase h))
    (moves_waits t all s d h)

-- The count.

held_result : (r : SeizeResult) → is_held_by (Some r) ≡ true → (t : Sharing) (q n : ℕ) → EndedSo t q n r → (t.node n).past.seized q ≡ true
held_result (Held keys) h t q n e = e.1
held_result (NotRegistered keys) h t q n e = absurd (false_true h)
held_result (Greater word) h t q n e = absurd (false_true h)
held_result Expelled h t q n e = absurd (false_true h)
held_result (Contended key) h t q n e = absurd (false_true h)
held_result Fault h t q n e = absurd (false_true h)

ended_result : (r : SeizeResult) (t : Sharing) (q n : ℕ) → EndedSo t q n r → (t.node n).past.ended q ≡ true
ended_result (Held keys) t q n e = e.0
ended_result (NotRegistered keys) t q n e = e.0
ended_result (Greater word) t q n e = e.0
ended_result Expelled t q n e = e.0
ended_result (Contended key) t q n e = e.0
ended_result Fault t q n e = e.0

with_held : (t : Sharing) (q n : ℕ) (o : Option SeizeResult) → is_held_by o ≡ true → EndedAs t q n o → (t.node n).past.seized q ≡ true
with_held t q n None h e = absurd (false_true h)
with_held t q n (Some r) h e = held_result r h t q n e

with_ended : (t : Sharing) (q n : ℕ) (o : Option SeizeResult) → is_some o ≡ true → EndedAs t q n o → (t.node n).past.ended q ≡ true
with_ended t q n None h e = absurd (false_true h)
with_ended t q n (Some r) h e = ended_result r t q n e

counted_as : (t : Sharing) (q : ℕ) (b : Bool) → (((after t (count_at b q)).attempt q).counted ≡ true) × (((after t (count_at b q)).attempt q).holds ≡ b)
counted_as t q true =
    let here : (after t (count_at true q)).attempt q ≡ attempt.counting (t.attempt q) true = put_here t.attempt q (attempt.counting (t.attempt q) true) in
    (ap (λ a. a.counted) here, ap (λ a. a.holds) here)
counted_as t q false =
    let here : (after t (count_at false q)).attempt q ≡ attempt.counting (t.attempt q) false = put_here t.attempt q (attempt.counting (t.attempt q) false) in
    (ap (λ a. a.counted) here, ap (λ a. a.holds) here)

-- the device is held: its seizer has seized it
allowed_held : (t : Sharing) (q set : ℕ) (e : Seizing) (o : Option ℕ) → IsOpen (t.attempt q) set → AskedBy t q e o → is_held_by e.result ≡ true → Allowed t (count_at true q)
allowed_held t q set e None opened asked held = absurd (false_true (sym (ap is_held_by asked.1) ∙ held))
allowed_held t q set e (Some n) opened asked held =
    (opened.collected, opened.counted, asked.asking, subst (λ m. (t.node m).past.seized q ≡ true) (sym asked.seizer) (with_held t q n e.result held asked.ended))

all_answered : (t : Sharing) (q : ℕ) (e : Seizing) (o : Option ℕ) → AskedBy t q e o → is_some e.result ≡ true → AllAnswered t q
all_answered t q e None asked some = inl asked.0.asking
all_answered t q e (Some n) asked some =
    inr (subst (λ m. (t.node m).past.ended q ≡ true) (sym asked.seizer) (with_ended t q n e.result some asked.ended))

answered_entry : (t : Sharing) (q d : ℕ) (es : List Seizing) (o : Option Seizing) → entry_of es d ≡ o → HasEntry t q o → all_settled es ≡ true → AllAnswered t q
answered_entry t q d es None is has settled = inl has.asking
answered_entry t q d es (Some e) is has settled = all_answered t q e e.seizer has (settled_one es d e settled is)

may_count : (t : Sharing) (q set d : ℕ) (es : List Seizing) (b : Bool) → is_held_in es d ≡ b → IsOpen (t.attempt q) set → HasEntry t q (entry_of es d) → AreApart (entry_numbers es)
    → all_settled es ≡ true → Allowed t (count_at b q)
may_count t q set d es true is opened has apart settled =
    let f : (e : Seizing) × (find (λ x. (x.attached.device == d) && is_held_by x.result) es ≡ Some e) = held_found es d is in
    let two : (entry_of es d ≡ Some f.0) × (((f.0.attached.device == d) && is_held_by f.0.result) ≡ true) =
    entry_found d (λ x. (x.attached.device == d) && is_held_by x.result) (λ x k. (and_cases (x.attached.device == d) (is_held_by x.result) k).0) es apart f.0 f.1 in
    allowed_held t q set f.0 f.0.seizer opened (subst (HasEntry t q) two.0 has) (and_cases (f.0.attached.device == d) (is_held_by f.0.result) two.1).1
may_count t q set d es false is opened has apart settled = (opened.collected, opened.counted, answered_entry t q d es (entry_of es d) refl has settled)

moves_installing : (t : Sharing) (all : ℕ → Bool) (s : AttemptState) (d : ℕ) → s.plan.nodes ≡ numbers_to s.plan.members 32 → AreApart (numbers_of s.plan.attached)
    → AreApart (entry_numbers s.devices) → IsOpen (t.attempt s.plan.epoch) s.plan.members → HasEntry t s.plan.epoch (entry_of s.devices d) → all_settled s.devices ≡ true
    → Moves t s.plan.epoch all d (installing s)
unfolding installing
moves_installing t all s d nodes attached apart opened has settled =
    let held : Bool = is_held_in s.devices d in
    record {
      events = [];
      asking = All-nil (IsAsking s.plan.epoch all);
      allowed = tt;
      asked =
          All-cons (AsksAt t s.plan d) (InstallHere (install_in (in_phase s Installing))) (installs (in_phase s Installing)) tt
          (sends_ask t s.plan d (body.Install (install_in (in_phase s Installing))) (λ n. tt) (silent_others (in_phase s Installing)));
      counts = (
        may_count t s.plan.epoch s.plan.members d s.devices held refl opened has apart settled,
        record { nodes = nodes; attached = attached; apart = apart; has = counted_as t s.plan.epoch held },
        has,
      );
    }

-- The attempt sits in its seizing.
record Sits (t : Sharing) (plan : Plan) (devices : List Seizing) (d : ℕ) : Type 0 where
  nodes : plan.nodes ≡ numbers_to plan.members 32
  attached : AreApart (numbers_of plan.attached)
  apart : AreApart (entry_numbers devices)
  opened : IsOpen (t.attempt plan.epoch) plan.members
  entry : HasEntry t plan.epoch (entry_of devices d)

IsSeizingIn : Phase → Type 0
IsSeizingIn phase = (phase ≡ SeizingVotes) ⊎ (phase ≡ SeizingOthers)

seizing_has : (t : Sharing) (plan : Plan) (promises : List Promised) (devices : List Seizing) (d : ℕ) (phase : Phase) → IsSeizingIn phase
    → HasIn t plan promises devices d phase → IsOpen (t.attempt plan.epoch) plan.members × HasEntry t plan.epoch (entry_of devices d)
unfolding IsSeizingIn
seizing_has t plan promises devices d phase (inl is) h = subst (HasIn t plan promises devices d) is h
seizing_has t plan promises devices d phase (inr is) h = subst (HasIn t plan promises devices d) is h

has_seizing : (t : Sharing) (plan : Plan) (promises : List Promised) (devices : List Seizing) (d : ℕ) (phase : Phase) → IsSeizingIn phase
    → IsOpen (t.attempt plan.epoch) plan.members × HasEntry t plan.epoch (entry_of devices d) → HasIn t plan promises devices d phase
unfolding IsSeizingIn
has_seizing t plan promises devices d phase (inl is) h = subst (HasIn t plan promises devices d) (sym is) h
has_seizing t plan promises devices d phase (inr is) h = subst (HasIn t plan promises devices d) (sym is) h

sits_of : (t : Sharing) (plan : Plan) (promises : List Promised) (devices : List Seizing) (d : ℕ) (phase : Phase) → IsSeizingIn phase
    → HasAttempt t plan promises devices d phase → Sits t plan devices d
sits_of t plan promises devices d phase is h =
    let two : IsOpen (t.attempt plan.epoch) plan.members × HasEntry t plan.epoch (entry_of devices d) = seizing_has t plan promises devices d phase is h.has in
    record { nodes = h.nodes; attached = h.attached; apart = h.apart; opened = two.0; entry = two.1 }

has_of : (t : Sharing) (plan : Plan) (promises : List Promised) (devices : List Seizing) (d : ℕ) (phase : Phase) → IsSeizingIn phase
    → Sits t plan devices d → HasAttempt t plan promises devices d phase
has_of t plan promises devices d phase is h =
    record { nodes = h.nodes; attached = h.attached; apart = h.apart; has = has_seizing t plan promises devices d phase is (h.opened, h.entry) }

moves_over : (t : Sharing) (all : ℕ → Bool) (s : AttemptState) (d : ℕ) (e : AttemptEnd) → s.plan.nodes ≡ numbers_to s.plan.members 32 → AreApart (numbers_of s.plan.attached)
    → AreApart (entry_numbers s.devices) → Moves t s.plan.epoch all d (ends s e)
moves_over t all s d e nodes attached apart = record {
  events = [];
  asking = All-nil (IsAsking s.plan.epoch all);
  allowed = tt;
  asked = All-cons (AsksAt t s.plan d) (Ended e) [] tt (All-nil (AsksAt t s.plan d));
  counts = record { nodes = nodes; attached = attached; apart = apart; has = tt };
}

-- A node is asked.

asked_opened : (t : Sharing) (q set n : ℕ) (quorum : Bool) → IsOpen (t.attempt q) set → IsOpen ((after t (Ask q n quorum)).attempt q) set
asked_opened t q set n quorum opened =
    let here : (after t (Ask q n quorum)).attempt q ≡ attempt.asking_node (t.attempt q) n quorum = put_here t.attempt q (attempt.asking_node (t.attempt q) n quorum) in
    record {
      collected = ap (λ a. a.collected) here ∙ opened.collected;
      counted = ap (λ a. a.counted) here ∙ opened.counted;
      members = λ m. ap (λ a. a.members m) here ∙ opened.members m;
    }

asked_entry : (t : Sharing) (q n : ℕ) (e : Seizing) → e.result ≡ None → ((m : ℕ) → (m ≡ n) ⊎ ((t.attempt q).asked m ≡ true) → has e.asked m ≡ true)
    → IsAsked (after t (Ask q n (is_vote e.kind))) q n e
asked_entry t q n e none covers =
    let u : Sharing = after t (Ask q n (is_vote e.kind)) in
    let here : u.attempt q ≡ attempt.asking_node (t.attempt q) n (is_vote e.kind) = put_here t.attempt q (attempt.asking_node (t.attempt q) n (is_vote e.kind)) in
    record {
      asking = ap (λ a. a.asking) here;
      seizer = ap (λ a. a.seizer) here;
      kind = ap (λ a. a.quorum) here;
      asked = ap (λ a. a.asked n) here ∙ put_here (t.attempt q).asked n true;
      before = λ m h. covers m (either_of (put_true (t.attempt q).asked n m (sym (ap (λ a. a.asked m) here) ∙ h)) (λ k. inl k) (λ k. inr k.1));
      ended = subst (EndedAs u q n) (sym none) tt;
    }

covers_first : (t : Sharing) (q n : ℕ) (asked : ℕ) → IsUnasked (t.attempt q) → asked ≡ set_with 0 n → 1 ≤ n → n ≤ 32 → (m : ℕ)
    → (m ≡ n) ⊎ ((t.attempt q).asked m ≡ true) → has asked m ≡ true
covers_first t q n asked unasked is low high m (inl h) =
    subst (λ k. has asked k ≡ true) (sym h) (subst (λ a. has a n ≡ true) (sym is) (has_itself 0 n low high))
covers_first t q n asked unasked is low high m (inr h) = absurd (false_true (sym (unasked.asked m) ∙ h))

moves_new : (t : Sharing) (q : ℕ) (all : ℕ → Bool) (d : ℕ) (u : Turn) (set : ℕ) (kind : SeizeKind) (e : Seizing) → IsOpen (t.attempt q) set
    → IsUnasked (t.attempt q) → IsNew set kind e
    → ((v : Sharing) → IsOpen (v.attempt q) set → HasEntry v q (Some e) → Moves v q all d u) → Moves t q all d u
moves_new t q all d u set kind e opened unasked new rest = by_seizer e.seizer refl new.first
  where
    by_seizer : (o : Option ℕ) → e.seizer ≡ o → FirstAsked set e o → Moves t q all d u
    by_seizer None is first = rest t opened (subst (AskedBy t q e) (sym is) (unasked, first))
    by_seizer (Some n) is first =
        let range : (1 ≤ n) × (n ≤ 32) = node_in_range set n first.2 in
        let v : Sharing = after t (Ask q n (is_vote e.kind)) in
        let asked : IsAsked v q n e =
        asked_entry t q n e first.1 (covers_first t q n e.asked unasked first.0 range.0 range.1) in
        moves_first t q all d u (Ask q n (is_vote e.kind)) refl
        (opened.collected, opened.counted, opened.members n ∙ first.2, unasked.asked n, inl unasked.asking)
        (rest v (asked_opened t q set n (is_vote e.kind) opened) (subst (AskedBy v q e) (sym is) asked))

moves_option : (t : Sharing) (q : ℕ) (all : ℕ → Bool) (d : ℕ) (u : Turn) (set : ℕ) (kind : SeizeKind) (o : Option Seizing) → IsOpen (t.attempt q) set
    → IsUnasked (t.attempt q) → ((e : Seizing) → o ≡ Some e → IsNew set kind e)
    → ((v : Sharing) → IsOpen (v.attempt q) set → HasEntry v q o → Moves v q all d u) → Moves t q all d u
moves_option t q all d u set kind None opened unasked new rest = rest t opened unasked
moves_option t q all d u set kind (Some e) opened unasked new rest = moves_new t q all d u set kind e opened unasked (new e refl) rest

-- The other devices.

moves_more : (t : Sharing) (q : ℕ) (all : ℕ → Bool) (d : ℕ) (u : Turn) (set : ℕ) (es more : List Seizing) (o : Option Seizing) → entry_of es d ≡ o
    → IsOpen (t.attempt q) set → HasEntry t q o → ((e : Seizing) → entry_of more d ≡ Some e → IsNew set Plain e)
    → ((v : Sharing) → IsOpen (v.attempt q) set → HasEntry v q (entry_of (es ++ more) d) → Moves v q all d u) → Moves t q all d u
moves_more t q all d u set es more (Some e) is opened has_it new rest =
    rest t opened (subst (HasEntry t q) (sym (appended_by d es more (Some e) is)) has_it)
moves_more t q all d u set es more None is opened has_it new rest =
    moves_option t q all d u set Plain (entry_of more d) opened has_it new
    (λ v opened_there has_there. rest v opened_there (subst (HasEntry v q) (sym (appended_by d es more None is)) has_there))

moves_plain : (t : Sharing) (all : ℕ → Bool) (s : AttemptState) (d : ℕ) (more : List Seizing) → Sits t s.plan s.devices d → all_settled s.devices ≡ true
    → ((e : Seizing) → entry_of more d ≡ Some e → IsNew s.plan.members Plain e) → AreApart (entry_numbers (s.devices ++ more)) → Moves t s.plan.epoch all d (asked_plain s more)
unfolding IsSeizingIn
moves_plain t all s d more sits is_settled new apart =
    let u : AttemptState = record (in_phase s SeizingOthers) { devices = s.devices ++ more } in
    let steps : List Step = filter_map (request_for s.plan) more in
    if_either (Moves t s.plan.epoch all d) (length more == 0) (installing s) (with_steps u steps)
    (moves_installing t all s d sits.nodes sits.attached sits.apart sits.opened sits.entry is_settled)
    (moves_more t s.plan.epoch all d (with_steps u steps) s.plan.members s.devices more (entry_of s.devices d) refl sits.opened sits.entry new
    (λ v opened_there has_there.
    moves_quiet v all u d steps (none_requests s.plan more)
    (requests_ask v s.plan d more (all_right (IsAskedAt v s.plan d) s.devices more (entries_asked v s.plan (s.devices ++ more) d apart has_there)))
    (record { nodes = sits.nodes; attached = sits.attached; apart = apart; has = (opened_there, has_there) })))

moves_others : (t : Sharing) (all : ℕ → Bool) (s : AttemptState) (d : ℕ) → Sits t s.plan s.devices d → all_settled s.devices ≡ true → Moves t s.plan.epoch all d (seizing_others s)
unfolding seizing_others
moves_others t all s d sits is_settled =
    moves_plain t all s d (plain_devices s) sits is_settled
    (λ e h. entry_new (plain_new s.plan s.devices) (IsNew s.plan.members Plain) (plain_new_is s.plan s.devices sits.nodes) s.plan.attached d e h)
    (apart_append s.devices (plain_devices s) sits.apart (apart_new (plain_new s.plan s.devices) (plain_keeps s.plan s.devices) s.plan.attached sits.attached)
    (lacks_seized s.plan s.devices s.plan.attached))

moves_counted : (t : Sharing) (all : ℕ → Bool) (s : AttemptState) (d : ℕ) (o : Option AttemptEnd) → Sits t s.plan s.devices d → all_settled s.devices ≡ true
    → Moves t s.plan.epoch all d (counted_by s o)
moves_counted t all s d (Some e) sits is_settled = moves_over t all s d e sits.nodes sits.attached sits.apart
moves_counted t all s d None sits is_settled = moves_others t all (record s { counted = held_set s.devices }) d sits is_settled

moves_counting : (t : Sharing) (all : ℕ → Bool) (s : AttemptState) (d : ℕ) → Sits t s.plan s.devices d → all_settled s.devices ≡ true → Moves t s.plan.epoch all d (counting s)
unfolding counting
moves_counting t all s d sits is_settled = moves_counted t all s d (shortage s (held_set s.devices)) sits is_settled

-- The quorum devices.

votes_apart : (s : AttemptState) (o : Option BothVotes) → AreApart (numbers_of s.plan.attached) → AreApart (entry_numbers (vote_entries_under s o))
votes_apart s None h = tt
votes_apart s (Some both) h = apart_new (vote_new s.plan s.promises both) (vote_keeps s.plan s.promises both) s.plan.attached h

votes_new : (s : AttemptState) (o : Option BothVotes) → s.plan.nodes ≡ numbers_to s.plan.members 32 → (d : ℕ) (e : Seizing) → entry_of (vote_entries_under s o) d ≡ Some e
    → IsNew s.plan.members Vote e
votes_new s None nodes d e h = absurd (none_some e h)
votes_new s (Some both) nodes d e h =
    entry_new (vote_new s.plan s.promises both) (IsNew s.plan.members Vote) (vote_new_is s.plan s.promises both nodes) s.plan.attached d e h

moves_asked_votes : (t : Sharing) (all : ℕ → Bool) (s : AttemptState) (d : ℕ) → s.phase ≡ SeizingVotes → Sits t s.plan s.devices d → Moves t s.plan.epoch all d (asked_votes s)
unfolding asked_votes IsSeizingIn
moves_asked_votes t all s d is sits =
    if_with (Moves t s.plan.epoch all d) (all_settled s.devices) (all_settled s.devices) (counting s) (with_steps s (filter_map (request_for s.plan) s.devices)) refl
    (moves_counting t all s d sits)
    (λ _. moves_quiet t all s d (filter_map (request_for s.plan) s.devices) (none_requests s.plan s.devices)
    (requests_ask t s.plan d s.devices (entries_asked t s.plan s.devices d sits.apart sits.entry)) (has_of t s.plan s.promises s.devices d s.phase (inl is) sits))

moves_seizing_votes : (t : Sharing) (all : ℕ → Bool) (s : AttemptState) (d : ℕ) → s.phase ≡ SeizingVotes → s.plan.nodes ≡ numbers_to s.plan.members 32
    → AreApart (numbers_of s.plan.attached) → IsOpen (t.attempt s.plan.epoch) s.plan.members → IsUnasked (t.attempt s.plan.epoch) → Moves t s.plan.epoch all d (seizing_votes s)
unfolding seizing_votes
moves_seizing_votes t all s d is nodes attached opened unasked =
    let u : AttemptState = record s { devices = vote_entries s } in
    moves_option t s.plan.epoch all d (asked_votes u) s.plan.members Vote (entry_of (vote_entries s) d) opened unasked (votes_new s s.votes nodes d)
    (λ v opened_there has_there.
    moves_asked_votes v all u d is
    (record { nodes = nodes; attached = attached; apart = votes_apart s s.votes attached; opened = opened_there; entry = has_there }))

moves_possible : (t : Sharing) (all : ℕ → Bool) (s : AttemptState) (d : ℕ) (o : Option AttemptEnd) → s.phase ≡ SeizingVotes → s.devices ≡ []
    → s.plan.nodes ≡ numbers_to s.plan.members 32 → AreApart (numbers_of s.plan.attached) → IsOpen (t.attempt s.plan.epoch) s.plan.members
    → IsUnasked (t.attempt s.plan.epoch) → Moves t s.plan.epoch all d (possible s o)
moves_possible t all s d (Some e) is none nodes attached opened unasked =
    moves_over t all s d e nodes attached (subst (λ es. AreApart (entry_numbers es)) (sym none) tt)
moves_possible t all s d None is none nodes attached opened unasked = moves_seizing_votes t all s d is nodes attached opened unasked

moves_known : (t : Sharing) (all : ℕ → Bool) (s : AttemptState) (d : ℕ) (o : Option ℕ) → s.phase ≡ SeizingVotes → s.devices ≡ []
    → s.plan.nodes ≡ numbers_to s.plan.members 32 → AreApart (numbers_of s.plan.attached) → IsOpen (t.attempt s.plan.epoch) s.plan.members
    → IsUnasked (t.attempt s.plan.epoch) → Moves t s.plan.epoch all d (known s o)
moves_known t all s d (Some m) is none nodes attached opened unasked =
    moves_over t all s d (Excluded m) nodes attached (subst (λ es. AreApart (entry_numbers es)) (sym none) tt)
moves_known t all s d None is none nodes attached opened unasked = moves_possible t all s d (shortage s (reached_set s.plan)) is none nodes attached opened unasked

moves_admitted : (t : Sharing) (all : ℕ → Bool) (s : AttemptState) (d : ℕ) (o : Option ℕ) → s.phase ≡ SeizingVotes → s.devices ≡ []
    → s.plan.nodes ≡ numbers_to s.plan.members 32 → AreApart (numbers_of s.plan.attached) → IsOpen (t.attempt s.plan.epoch) s.plan.members
    → IsUnasked (t.attempt s.plan.epoch) → Moves t s.plan.epoch all d (admitted s o)
unfolding knowing
moves_admitted t all s d (Some m) is none nodes attached opened unasked =
    moves_over t all s d (Foreign m) nodes attached (subst (λ es. AreApart (entry_numbers es)) (sym none) tt)
moves_admitted t all s d None is none nodes attached opened unasked =
    moves_known t all s d (first_left_out s.promises s.plan.nodes (newest_shown s.promises)) is none nodes attached opened unasked

moves_voting : (t : Sharing) (all : ℕ → Bool) (s : AttemptState) (d : ℕ) (both : BothVotes) → s.phase ≡ Choosing → DeviceHas t s d → Moves t s.plan.epoch all d (voting s both)
unfolding voting
moves_voting t all s d both is h =
    let u : AttemptState = record (in_phase s SeizingVotes) { votes = Some both; devices = [] } in
    let two : IsOpen (t.attempt s.plan.epoch) s.plan.members × IsUnasked (t.attempt s.plan.epoch) = subst (HasIn t s.plan s.promises s.devices d) is h.has in
    moves_admitted t all u d (first_foreign both s.plan.nodes) refl refl h.nodes h.attached two.0 two.1

-- A seizing ends.

settled_in_phase : (t : Sharing) (all : ℕ → Bool) (s : AttemptState) (d : ℕ) (phase : Phase) → s.phase ≡ phase → DeviceHas t s d → all_settled s.devices ≡ true
    → Moves t s.plan.epoch all d (settled_in s phase)
unfolding IsSeizingIn
settled_in_phase t all s d SeizingVotes is h is_settled =
    moves_counting t all s d (sits_of t s.plan s.promises s.devices d s.phase (inl is) h) is_settled
settled_in_phase t all s d SeizingOthers is h is_settled =
    let sits : Sits t s.plan s.devices d = sits_of t s.plan s.promises s.devices d s.phase (inr is) h in
    moves_installing t all s d sits.nodes sits.attached sits.apart sits.opened sits.entry is_settled
settled_in_phase t all s d Collecting is h is_settled = moves_waits t all s d h
settled_in_phase t all s d Choosing is h is_settled = moves_waits t all s d h
settled_in_phase t all s d Installing is h is_settled = moves_waits t all s d h
settled_in_phase t all s d Over is h is_settled = moves_waits t all s d h

moves_proceeding : (t : Sharing) (all : ℕ → Bool) (s : AttemptState) (d : ℕ) → DeviceHas t s d → Moves t s.plan.epoch all d (proceeding s)
unfolding proceeding
moves_proceeding t all s d h =
    if_with (Moves t s.plan.epoch all d) (all_settled s.devices) (all_settled s.devices) (settled_in s s.phase) (waits s) refl
    (settled_in_phase t all s d s.phase refl h) (λ _. moves_waits t all s d h)

-- what is told of a seizing of device d that has not ended
abbrev IsToldOf : Sharing → ℕ → List Seizing → ℕ → SeizeResult → Type 0
IsToldOf t q es d r = (e : Seizing) (n : ℕ) → entry_of es d ≡ Some e → e.seizer ≡ Some n → EndedSo t q n r

result_entry : (t : Sharing) (q x : ℕ) (r : SeizeResult) (e : Seizing) (b : Bool) → is_none e.result ≡ b → AskedBy t q e e.seizer
    → ((e.attached.device == x) ≡ true → (n : ℕ) → e.seizer ≡ Some n → EndedSo t q n r)
    → HasEntry t q (Some (if (e.attached.device == x) && b then record e { result = Some r } else e))
result_entry t q x r e b none asked told = by_test (e.attached.device == x) b refl none
  where
    by_seizer : (e.attached.device == x) ≡ true → is_none e.result ≡ true → (o : Option ℕ) → e.seizer ≡ o → AskedBy t q e o → AskedBy t q (record e { result = Some r }) o
    by_seizer here unended None is a = absurd (false_true (sym (ap (λ y. is_none y) a.1) ∙ unended))
    by_seizer here unended (Some n) is a = record {
      asking = a.asking;
      seizer = a.seizer;
      kind = a.kind;
      asked = a.asked;
      before = a.before;
      ended = told here n is;
    }

    by_test : (y z : Bool) → (e.attached.device == x) ≡ y → is_none e.result ≡ z → HasEntry t q (Some (if y && z then record e { result = Some r } else e))
    by_test true true here unended = by_seizer here unended e.seizer refl asked
    by_test true false here unended = asked
    by_test false z here unended = asked

entry_with_result : (t : Sharing) (q x d : ℕ) (r : SeizeResult) (es : List Seizing) (o : Option Seizing) → entry_of es d ≡ o → HasEntry t q o
    → (x ≡ d → IsToldOf t q es d r) → HasEntry t q (option_map (with_result x r) o)
entry_with_result t q x d r es None is h told = h
entry_with_result t q x d r es (Some e) is h told =
    result_entry t q x r e (is_none e.result) refl h
    (λ here n seizer. told (sym (same_number e.attached.device x here) ∙ found_device es d e is) e n is seizer)

moves_settled : (t : Sharing) (all : ℕ → Bool) (s : AttemptState) (d x : ℕ) (r : SeizeResult) → IsSeizingIn s.phase → DeviceHas t s d
    → (x ≡ d → IsToldOf t s.plan.epoch s.devices d r) → Moves t s.plan.epoch all d (settled s x r)
unfolding settled
moves_settled t all s d x r is h told =
    let u : AttemptState = record s { devices = map (with_result x r) s.devices } in
    let same : (e : Seizing) → (with_result x r e).attached ≡ e.attached =
    (λ e. same_attached e (record e { result = Some r }) ((e.attached.device == x) && is_none e.result) refl) in
    let sits : Sits t s.plan s.devices d = sits_of t s.plan s.promises s.devices d s.phase is h in
    moves_proceeding t all u d
    (has_of t s.plan s.promises (map (with_result x r) s.devices) d s.phase is (record {
      nodes = h.nodes;
      attached = h.attached;
      apart = subst AreApart (sym (numbers_mapped (with_result x r) same s.devices)) h.apart;
      opened = sits.opened;
      entry =
          subst (HasEntry t s.plan.epoch) (sym (entry_mapped (with_result x r) same s.devices d))
          (entry_with_result t s.plan.epoch x d r s.devices (entry_of s.devices d) refl sits.entry told);
    }))

-- The next node is asked.

-- what is known of the node that is to be asked next, where this is the entry of device d
record IsNext (t : Sharing) (q members : ℕ) (e : Seizing) (n : ℕ) : Type 0 where
  unregistered : (m : ℕ) → e.seizer ≡ Some m → (t.node m).past.unregistered q ≡ true
  unasked : has e.asked n ≡ false
  member : is_member members n ≡ true

covers_next : (t : Sharing) (q n m : ℕ) (e : Seizing) → ((k : ℕ) → (t.attempt q).asked k ≡ true → has e.asked k ≡ true) → 1 ≤ n → n ≤ 32
    → (m ≡ n) ⊎ ((t.attempt q).asked m ≡ true) → has (set_with e.asked n) m ≡ true
covers_next t q n m e before low high (inl h) = subst (λ k. has (set_with e.asked n) k ≡ true) (sym h) (has_itself e.asked n low high)
covers_next t q n m e before low high (inr h) = has_still e.asked n m low high (before m h)

not_asked : (t : Sharing) (q n : ℕ) (e : Seizing) → ((k : ℕ) → (t.attempt q).asked k ≡ true → has e.asked k ≡ true) → has e.asked n ≡ false → (t.attempt q).asked n ≡ false
not_asked t q n e before lacks_it =
    either_of (true_or_false ((t.attempt q).asked n)) (λ h. absurd (false_true (sym lacks_it ∙ before n h))) (λ h. h)

moves_next_entry : (t : Sharing) (q : ℕ) (all : ℕ → Bool) (d : ℕ) (u : Turn) (set n : ℕ) (e : Seizing) (o : Option ℕ) → IsOpen (t.attempt q) set → AskedBy t q e o → e.seizer ≡ o
    → e.result ≡ None → IsNext t q set e n
    → ((v : Sharing) → IsOpen (v.attempt q) set → HasEntry v q (Some (record e { seizer = Some n; asked = set_with e.asked n })) → Moves v q all d u) → Moves t q all d u
moves_next_entry t q all d u set n e None opened asked is unended next rest = absurd (none_some (NotRegistered []) (sym unended ∙ asked.1))
moves_next_entry t q all d u set n e (Some m) opened asked is unended next rest =
    let range : (1 ≤ n) × (n ≤ 32) = node_in_range set n next.member in
    let e' : Seizing = record e { seizer = Some n; asked = set_with e.asked n } in
    let v : Sharing = after t (Ask q n (is_vote e.kind)) in
    moves_first t q all d u (Ask q n (is_vote e.kind)) refl (
      opened.collected,
      opened.counted,
      opened.members n ∙ next.member,
      not_asked t q n e asked.before next.unasked,
      inr (subst (λ k. (t.node k).past.unregistered q ≡ true) (sym asked.seizer) (next.unregistered m is), asked.kind),
    )
    (rest v (asked_opened t q set n (is_vote e.kind) opened)
    (asked_entry t q n e' unended (λ k h. covers_next t q n k e asked.before range.0 range.1 h)))

is_none_of : (o : Option SeizeResult) → is_none o ≡ true → o ≡ None
is_none_of None h = refl
is_none_of (Some r) h = absurd (false_true h)

moves_with_next : (t : Sharing) (q : ℕ) (all : ℕ → Bool) (d x : ℕ) (u : Turn) (set n : ℕ) (o : Option Seizing) → IsOpen (t.attempt q) set → HasEntry t q o
    → ((e : Seizing) → o ≡ Some e → (e.attached.device == x) ≡ true → IsNext t q set e n)
    → ((v : Sharing) → IsOpen (v.attempt q) set → HasEntry v q (option_map (with_next x n) o) → Moves v q all d u) → Moves t q all d u
moves_with_next t q all d x u set n None opened h next rest = rest t opened h
moves_with_next t q all d x u set n (Some e) opened h next rest = by_test (e.attached.device == x) (is_none e.result) refl refl rest
  where
    by_test : (y z : Bool) → (e.attached.device == x) ≡ y → is_none e.result ≡ z
        → ((v : Sharing) → IsOpen (v.attempt q) set → HasEntry v q (Some (if y && z then record e { seizer = Some n; asked = set_with e.asked n } else e)) → Moves v q all d u)
        → Moves t q all d u
    by_test true true here unended go =
        moves_next_entry t q all d u set n e e.seizer opened h refl (is_none_of e.result unended) (next e refl here) go
    by_test true false here unended go = go t opened h
    by_test false z here unended go = go t opened h

asked_by_next : (t : Sharing) (q n : ℕ) (e : Seizing) (y z : Bool) → y ≡ true → z ≡ true
    → HasEntry t q (Some (if y && z then record e { seizer = Some n; asked = set_with e.asked n } else e)) → IsAsked t q n (record e { seizer = Some n; asked = set_with e.asked n })
asked_by_next t q n e true true a b h = h
asked_by_next t q n e true false a b h = absurd (false_true b)
asked_by_next t q n e false z a b h = absurd (false_true a)

-- the node that is asked next is the one that the entry has then
next_asked_there : (t : Sharing) (q d x n : ℕ) (kind : SeizeKind) (es : List Seizing) → HasEntry t q (option_map (with_next x n) (entry_of es d))
    → (x ≡ d → (e : Seizing) × (entry_of es d ≡ Some e) × (is_none e.result ≡ true) × (e.kind ≡ kind)) → x ≡ d → HasAsked t q n kind
next_asked_there t q d x n kind es h awaited here =
    let f : (e : Seizing) × (entry_of es d ≡ Some e) × (is_none e.result ≡ true) × (e.kind ≡ kind) = awaited here in
    let there : HasEntry t q (Some (with_next x n f.0)) = subst (λ o. HasEntry t q (option_map (with_next x n) o)) f.1 h in
    let device : (f.0.attached.device == x) ≡ true = is_itself f.0.attached.device x (found_device es d f.0 f.1 ∙ sym here) in
    let asked : IsAsked t q n (record f.0 { seizer = Some n; asked = set_with f.0.asked n }) =
    asked_by_next t q n f.0 (f.0.attached.device == x) (is_none f.0.result) device f.2 there in
    (asked.asked, asked.kind ∙ ap is_vote f.3)

moves_asked_next : (t : Sharing) (all : ℕ → Bool) (s : AttemptState) (d x : ℕ) (kind : SeizeKind) (n : ℕ) → IsSeizingIn s.phase → DeviceHas t s d
    → ((e : Seizing) → entry_of s.devices d ≡ Some e → x ≡ d → IsNext t s.plan.epoch s.plan.members e n)
    → (x ≡ d → (e : Seizing) × (entry_of s.devices d ≡ Some e) × (is_none e.result ≡ true) × (e.kind ≡ kind)) → Moves t s.plan.epoch all d (asked_next s x kind n)
unfolding asked_next
moves_asked_next t all s d x kind n is h next awaited =
    let u : AttemptState = record s { devices = map (with_next x n) s.devices; ticks = 0 } in
    let steps : List Step = request s.plan kind x n ∷ [] in
    let same : (e : Seizing) → (with_next x n e).attached ≡ e.attached =
    (λ e. same_attached e (record e { seizer = Some n; asked = set_with e.asked n }) ((e.attached.device == x) && is_none e.result) refl) in
    let sits : Sits t s.plan s.devices d = sits_of t s.plan s.promises s.devices d s.phase is h in
    moves_with_next t s.plan.epoch all d x (with_steps u steps) s.plan.members n (entry_of s.devices d) sits.opened sits.entry
    (λ e there here. next e there (sym (same_number e.attached.device x here) ∙ found_device s.devices d e there))
    (λ v opened_there has_there.
    moves_quiet v all u d steps (none_cons (request s.plan kind x n) [] (none_asked s.plan kind x n) refl)
    (All-cons (AsksAt v s.plan d) (request s.plan kind x n) []
    (request_asks v s.plan d x n kind (next_asked_there v s.plan.epoch d x n kind s.devices has_there awaited)) (All-nil (AsksAt v s.plan d)))
    (has_of v s.plan s.promises (map (with_next x n) s.devices) d s.phase is (record {
      nodes = h.nodes;
      attached = h.attached;
      apart = subst AreApart (sym (numbers_mapped (with_next x n) same s.devices)) h.apart;
      opened = opened_there;
      entry = subst (HasEntry v s.plan.epoch) (sym (entry_mapped (with_next x n) same s.devices d)) has_there;
    })))

-- An answer on device x comes from the node that was asked.

third : (a b c e : Bool) → (a && b && not c && e) ≡ true → c ≡ false
third a b c e h = grind arith

next_of : (cluster : ℕ) (promises : List Promised) (plan : Plan) (e : Seizing) (kind : SeizeKind) (r : SeizeResult) (n : ℕ) (t : Sharing) (q from : ℕ)
    → plan.nodes ≡ numbers_to plan.members 32 → next_by cluster promises plan.nodes e kind r ≡ Some n → e.seizer ≡ Some from → EndedSo t q from r → IsNext t q plan.members e n
next_of cluster promises plan e Vote (NotRegistered keys) n t q from nodes h seizer told =
    let test : may_follow cluster promises e keys n ≡ true = (found_among (may_follow cluster promises e keys) plan.nodes n h).0 in
    record {
      unregistered = λ m k. subst (λ x. (t.node x).past.unregistered q ≡ true) (same_some from m (sym seizer ∙ k)) told.1;
      unasked =
          third (has e.attached.nodes n) (holds_valid promises e.attached.device n) (has e.asked n) (list_any (λ key. key == key_of cluster n) keys) test;
      member = found_member plan (may_follow cluster promises e keys) n nodes h;
    }
next_of cluster promises plan e Vote (Held keys) n t q from nodes h seizer told = absurd (none_some n h)
next_of cluster promises plan e Vote (Greater word) n t q from nodes h seizer told = absurd (none_some n h)
next_of cluster promises plan e Vote Expelled n t q from nodes h seizer told = absurd (none_some n h)
next_of cluster promises plan e Vote (Contended key) n t q from nodes h seizer told = absurd (none_some n h)
next_of cluster promises plan e Vote Fault n t q from nodes h seizer told = absurd (none_some n h)
next_of cluster promises plan e Plain r n t q from nodes h seizer told = absurd (none_some n h)

asked_is : (o : Option ℕ) (n : ℕ) → is_asked o n ≡ true → o ≡ Some n
asked_is None n h = absurd (false_true h)
asked_is (Some m) n h = ap (λ k. Some k) (same_number m n h)

three : (a b c : Bool) → (a && b && c) ≡ true → (a ≡ true) × (c ≡ true)
three true true c h = (refl, h)
three true false c h = absurd (false_true h)
three false b c h = absurd (false_true h)

-- the entry of device d where it is the one that is awaited, and its node
awaited_at : (es : List Seizing) (x from d : ℕ) (e : Seizing) → AreApart (entry_numbers es) → find (awaits x from) es ≡ Some e → x ≡ d
    → (entry_of es d ≡ Some e) × (e.seizer ≡ Some from)
awaited_at es x from d e apart h is =
    let two : (entry_of es x ≡ Some e) × (awaits x from e ≡ true) =
    entry_found x (awaits x from) (λ y k. (three (y.attached.device == x) (is_none y.result) (is_asked y.seizer from) k).0) es apart e h in
    (subst (λ k. entry_of es k ≡ Some e) is two.0, asked_is e.seizer from (three (e.attached.device == x) (is_none e.result) (is_asked e.seizer from) two.1).1)

second_of : (a b c : Bool) → (a && b && c) ≡ true → b ≡ true
second_of true true c k = refl
second_of true false c k = absurd (false_true k)
second_of false b c k = absurd (false_true k)

unended_by : (es : List Seizing) (x from : ℕ) (e : Seizing) → AreApart (entry_numbers es) → find (awaits x from) es ≡ Some e → is_none e.result ≡ true
unended_by es x from e apart h =
    let two : (entry_of es x ≡ Some e) × (awaits x from e ≡ true) =
    entry_found x (awaits x from) (λ y k. (three (y.attached.device == x) (is_none y.result) (is_asked y.seizer from) k).0) es apart e h in
    second_of (e.attached.device == x) (is_none e.result) (is_asked e.seizer from) two.1

told_of : (t : Sharing) (q : ℕ) (es : List Seizing) (x from d : ℕ) (r : SeizeResult) (e : Seizing) → AreApart (entry_numbers es) → find (awaits x from) es ≡ Some e
    → (x ≡ d → EndedSo t q from r) → x ≡ d → IsToldOf t q es d r
told_of t q es x from d r e apart h told is e' n there seizer =
    let two : (entry_of es d ≡ Some e) × (e.seizer ≡ Some from) = awaited_at es x from d e apart h is in
    let same : e ≡ e' = same_some e e' (sym two.0 ∙ there) in
    let node : from ≡ n = same_some from n (sym two.1 ∙ (ap (λ y. y.seizer) same ∙ seizer)) in
    subst (λ k. EndedSo t q k r) node (told is)

moves_next : (t : Sharing) (all : ℕ → Bool) (s : AttemptState) (d x from : ℕ) (r : SeizeResult) (e : Seizing) (o : Option ℕ) → IsSeizingIn s.phase → DeviceHas t s d
    → find (awaits x from) s.devices ≡ Some e → (x ≡ d → EndedSo t s.plan.epoch from r) → next_by s.plan.cluster s.promises s.plan.nodes e e.kind r ≡ o
    → Moves t s.plan.epoch all d (next_asked s x r e o)
moves_next t all s d x from r e None is h awaited told next =
    moves_settled t all s d x r is h (told_of t s.plan.epoch s.devices x from d r e h.apart awaited told)
moves_next t all s d x from r e (Some n) is h awaited told next =
    moves_asked_next t all s d x e.kind n is h
    (λ e' there here.
    let two : (entry_of s.devices d ≡ Some e) × (e.seizer ≡ Some from) = awaited_at s.devices x from d e h.apart awaited here in
    subst (λ y. IsNext t s.plan.epoch s.plan.members y n) (same_some e e' (sym two.0 ∙ there))
    (next_of s.plan.cluster s.promises s.plan e e.kind r n t s.plan.epoch from h.nodes next two.1 (told here)))
    (λ here.
    let two : (entry_of s.devices d ≡ Some e) × (e.seizer ≡ Some from) = awaited_at s.devices x from d e h.apart awaited here in
    (e, two.0, unended_by s.devices x from e h.apart awaited, refl))

moves_on : (t : Sharing) (all : ℕ → Bool) (s : AttemptState) (d x from : ℕ) (r : SeizeResult) (o : Option Seizing) → IsSeizingIn s.phase → DeviceHas t s d
    → find (awaits x from) s.devices ≡ o → (x ≡ d → EndedSo t s.plan.epoch from r) → Moves t s.plan.epoch all d (answered_on s x r o)
moves_on t all s d x from r None is h awaited told = moves_waits t all s d h
moves_on t all s d x from r (Some e) is h awaited told =
    moves_next t all s d x from r e (next_by s.plan.cluster s.promises s.plan.nodes e e.kind r) is h awaited told refl

moves_answering : (t : Sharing) (all : ℕ → Bool) (s : AttemptState) (d x from : ℕ) (r : SeizeResult) → IsSeizingIn s.phase → DeviceHas t s d
    → (x ≡ d → EndedSo t s.plan.epoch from r) → Moves t s.plan.epoch all d (answering s x from r)
unfolding answering
moves_answering t all s d x from r is h told = moves_on t all s d x from r (find (awaits x from) s.devices) is h refl told

moves_answering_in : (t : Sharing) (all : ℕ → Bool) (s : AttemptState) (d x from : ℕ) (r : SeizeResult) (phase : Phase) → s.phase ≡ phase → DeviceHas t s d
    → (x ≡ d → EndedSo t s.plan.epoch from r) → Moves t s.plan.epoch all d (answering_in s x from r phase)
unfolding IsSeizingIn
moves_answering_in t all s d x from r SeizingVotes is h told = moves_answering t all s d x from r (inl is) h told
moves_answering_in t all s d x from r SeizingOthers is h told = moves_answering t all s d x from r (inr is) h told
moves_answering_in t all s d x from r Collecting is h told = moves_waits t all s d h
moves_answering_in t all s d x from r Choosing is h told = moves_waits t all s d h
moves_answering_in t all s d x from r Installing is h told = moves_waits t all s d h
moves_answering_in t all s d x from r Over is h told = moves_waits t all s d h

-- All have promised.

abbrev Fresh : Sharing → AttemptState → Type 0
Fresh t s = IsFresh (t.attempt s.plan.epoch) × (0 < s.plan.epoch) × All (λ p. s.plan.epoch ≤ (t.node p.shown.summary.node).promised) s.promises

promised_enough : (t : Sharing) (all : ℕ → Bool) (s : AttemptState) → ((n : ℕ) → all n ≡ is_member s.plan.members n) → s.plan.nodes ≡ numbers_to s.plan.members 32
    → all_promised s ≡ true → All (λ p. s.plan.epoch ≤ (t.node p.shown.summary.node).promised) s.promises → (m : ℕ) → all m ≡ true → s.plan.epoch ≤ (t.node m).promised
promised_enough t all s same nodes every promised m is =
    let member : list_any (λ k. k == m) s.plan.nodes ≡ true =
    ap (λ ns. list_any (λ k. k == m) ns) nodes ∙ (is_among s.plan.members 32 m ∙ (sym (same m) ∙ is)) in
    of_any (λ p. p.shown.summary.node == m) (λ p. s.plan.epoch ≤ (t.node p.shown.summary.node).promised) (s.plan.epoch ≤ (t.node m).promised) s.promises
    (of_all (has_promised s.promises) m s.plan.nodes every member) promised
    (λ p e h. subst (λ k. s.plan.epoch ≤ (t.node k).promised) (same_number p.shown.summary.node m e) h)

moves_chosen : (t : Sharing) (all : ℕ → Bool) (s : AttemptState) (d : ℕ) (newest : Shown) → ((n : ℕ) → all n ≡ is_member s.plan.members n)
    → all_promised s ≡ true → DeviceHas t s d → Fresh t s → Moves t s.plan.epoch all d (chosen s newest)
moves_chosen t all s d newest same every h fresh =
    let u : AttemptState = record (in_phase s Choosing) { newest = newest.summary.node } in
    let steps : List Step = NeedVotes newest.summary.node ∷ [] in
    let v : Sharing = after t (Collected s.plan.epoch all) in
    let here : v.attempt s.plan.epoch ≡ attempt.collecting (t.attempt s.plan.epoch) all = put_here t.attempt s.plan.epoch (attempt.collecting (t.attempt s.plan.epoch) all) in
    moves_first t s.plan.epoch all d (with_steps u steps) (Collected s.plan.epoch all) (refl, refl)
    (fresh.1, fresh.0.collected, promised_enough t all s same h.nodes every fresh.2)
    (moves_quiet v all u d steps refl (All-cons (AsksAt v s.plan d) (NeedVotes newest.summary.node) [] tt (All-nil (AsksAt v s.plan d))) (record {
      nodes = h.nodes;
      attached = h.attached;
      apart = h.apart;
      has = (
        record { collected = ap (λ a. a.collected) here; counted = ap (λ a. a.counted) here ∙ fresh.0.counted; members = λ n. ap (λ a. a.members n) here ∙ same n },
        record { asking = ap (λ a. a.asking) here ∙ fresh.0.unasked.asking; asked = λ n. ap (λ a. a.asked n) here ∙ fresh.0.unasked.asked n },
      );
    }))

moves_chosen_by : (t : Sharing) (all : ℕ → Bool) (s : AttemptState) (d : ℕ) (o : Option Shown) → ((n : ℕ) → all n ≡ is_member s.plan.members n)
    → all_promised s ≡ true → DeviceHas t s d → Fresh t s → Moves t s.plan.epoch all d (chosen_by s o)
moves_chosen_by t all s d None same every h fresh = moves_waits t all s d h
moves_chosen_by t all s d (Some newest) same every h fresh = moves_chosen t all s d newest same every h fresh

moves_choosing : (t : Sharing) (all : ℕ → Bool) (s : AttemptState) (d : ℕ) → ((n : ℕ) → all n ≡ is_member s.plan.members n) → DeviceHas t s d → Fresh t s
    → all_promised s ≡ true → Moves t s.plan.epoch all d (choosing s)
unfolding choosing
moves_choosing t all s d same h fresh every = moves_chosen_by t all s d (newest_shown s.promises) same every h fresh

moves_gathered : (t : Sharing) (all : ℕ → Bool) (s : AttemptState) (d : ℕ) → ((n : ℕ) → all n ≡ is_member s.plan.members n) → DeviceHas t s d → Fresh t s
    → Moves t s.plan.epoch all d (gathered s)
moves_gathered t all s d same h fresh =
    if_with (Moves t s.plan.epoch all d) (all_promised s) (all_promised s) (choosing s) (waits s) refl (moves_choosing t all s d same h fresh) (λ _. moves_waits t all s d h)

moves_begun : (t : Sharing) (all : ℕ → Bool) (s : AttemptState) (d : ℕ) → ((n : ℕ) → all n ≡ is_member s.plan.members n) → DeviceHas t s d → Fresh t s
    → Moves t s.plan.epoch all d (begun s)
moves_begun t all s d same h fresh =
    if_with (Moves t s.plan.epoch all d) (all_promised s) (all_promised s) (choosing s) (with_steps s (collects s)) refl (moves_choosing t all s d same h fresh)
    (λ _. moves_quiet t all s d (collects s) (none_sent s.plan (body.Collect s.plan.epoch s.plan.members) (silent_others s))
    (sends_ask t s.plan d (body.Collect s.plan.epoch s.plan.members) (λ n. tt) (silent_others s)) h)

awaits_collecting : (s : AttemptState) (n : ℕ) (phase : Phase) → awaits_promise s n phase ≡ true → phase ≡ Collecting
awaits_collecting s n Collecting h = refl
awaits_collecting s n Choosing h = absurd (false_true h)
awaits_collecting s n SeizingVotes h = absurd (false_true h)
awaits_collecting s n SeizingOthers h = absurd (false_true h)
awaits_collecting s n Installing h = absurd (false_true h)
awaits_collecting s n Over h = absurd (false_true h)

promise_node : (m : Message) (n : ℕ) (b : Body) (p : Promised) → promised_by m (shown_by n b) ≡ Some p → p.shown.summary.node ≡ n
promise_node m n (body.Promise epoch installed members valid flagged committed pending) p h = sym (ap (λ x. x.shown.summary.node) (same_some _ p h))
promise_node m n _ p h = absurd (none_some p h)

moves_promise : (t : Sharing) (all : ℕ → Bool) (s : AttemptState) (d : ℕ) (o : Option Promised) → ((n : ℕ) → all n ≡ is_member s.plan.members n) → DeviceHas t s d
    → s.phase ≡ Collecting → ((p : Promised) → o ≡ Some p → s.plan.epoch ≤ (t.node p.shown.summary.node).promised) → Moves t s.plan.epoch all d (with_promise s o)
moves_promise t all s d None same h is told = moves_waits t all s d h
moves_promise t all s d (Some p) same h is told =
    let fresh : Fresh t s = subst (HasIn t s.plan s.promises s.devices d) is h.has in
    let more : Fresh t (record s { promises = s.promises ++ p ∷ [] }) = (
      fresh.0,
      fresh.1,
      All-append (λ x. s.plan.epoch ≤ (t.node x.shown.summary.node).promised) s.promises (p ∷ []) fresh.2
          (All-cons (λ x. s.plan.epoch ≤ (t.node x.shown.summary.node).promised) p [] (told p refl) (All-nil (λ x. s.plan.epoch ≤ (t.node x.shown.summary.node).promised))),
    ) in
    moves_gathered t all (record s { promises = s.promises ++ p ∷ [] }) d same
    (record {
      nodes = h.nodes;
      attached = h.attached;
      apart = h.apart;
      has = subst (HasIn t s.plan (s.promises ++ p ∷ []) s.devices d) (sym is) more;
    }) more

moves_promising : (t : Sharing) (all : ℕ → Bool) (s : AttemptState) (d from : ℕ) (m : Message) → ((n : ℕ) → all n ≡ is_member s.plan.members n) → DeviceHas t s d
    → s.plan.epoch ≤ (t.node from).promised → Moves t s.plan.epoch all d (promising s from m)
unfolding promising
moves_promising t all s d from m same h told =
    if_with (Moves t s.plan.epoch all d) (awaits_promise s from s.phase) (awaits_promise s from s.phase) (with_promise s (promised_by m (shown_by from m.body))) (waits s) refl
    (λ e. moves_promise t all s d (promised_by m (shown_by from m.body)) same h (awaits_collecting s from s.phase e)
    (λ p k. subst (λ n. s.plan.epoch ≤ (t.node n).promised) (sym (promise_node m from m.body p k)) told))
    (λ _. moves_waits t all s d h)

-- The calls.

moves_readying : (t : Sharing) (all : ℕ → Bool) (s : AttemptState) (d from : ℕ) (m : Message) → DeviceHas t s d → Moves t s.plan.epoch all d (readying s from m)
unfolding readying
moves_readying t all s d from m h =
    if_either (Moves t s.plan.epoch all d) (awaits_ready s from s.phase && is_ready m.body)
    (starting (record s { readies = s.readies ++ record { node = from; message = m } ∷ [] })) (waits s)
    (moves_starting t all (record s { readies = s.readies ++ record { node = from; message = m } ∷ [] }) d h) (moves_waits t all s d h)

moves_own_ready : (t : Sharing) (all : ℕ → Bool) (s : AttemptState) (d : ℕ) (phase : Phase) → DeviceHas t s d → Moves t s.plan.epoch all d (own_readying_in s phase)
moves_own_ready t all s d Installing h = moves_starting t all (record s { own_ready = true }) d h
moves_own_ready t all s d Collecting h = moves_waits t all s d h
moves_own_ready t all s d Choosing h = moves_waits t all s d h
moves_own_ready t all s d SeizingVotes h = moves_waits t all s d h
moves_own_ready t all s d SeizingOthers h = moves_waits t all s d h
moves_own_ready t all s d Over h = moves_waits t all s d h

moves_taken : (t : Sharing) (all : ℕ → Bool) (s : AttemptState) (d from : ℕ) (m : Message) (b : Body) → ((n : ℕ) → all n ≡ is_member s.plan.members n) → DeviceHas t s d
    → is_of s.plan.epoch b ≡ true → TellsAt t d from b → Moves t s.plan.epoch all d (taken s from m b)
moves_taken t all s d from m (body.Promise epoch installed members valid flagged committed pending) same h of told =
    moves_promising t all s d from m same h (subst (λ q. q ≤ (t.node from).promised) (same_number epoch s.plan.epoch of) told)
moves_taken t all s d from m (body.Nack epoch promised) same h of told = moves_ends t all s d (Superseded promised) h
moves_taken t all s d from m (body.Seized epoch device outcome) same h of told =
    moves_answering_in t all s d device from outcome s.phase refl h
    (λ k. subst (λ q. EndedSo t q from outcome) (same_number epoch s.plan.epoch of) (told k))
moves_taken t all s d from m (body.Ready epoch joined report) same h of told = moves_readying t all s d from m h
moves_taken t all s d from m _ same h of told = moves_waits t all s d h

moves_taking : (t : Sharing) (all : ℕ → Bool) (s : AttemptState) (d from : ℕ) (m : Message) → ((n : ℕ) → all n ≡ is_member s.plan.members n) → DeviceHas t s d
    → TellsAt t d from m.body → Moves t s.plan.epoch all d (taking s from m)
unfolding taking
moves_taking t all s d from m same h told =
    let test : Bool = not (is_over s.phase) && is_of s.plan.epoch m.body in
    if_with (Moves t s.plan.epoch all d) test test (taken s from m m.body) (waits s) refl
    (λ e. moves_taken t all s d from m m.body same h (and_cases (not (is_over s.phase)) (is_of s.plan.epoch m.body) e).1 told) (λ _. moves_waits t all s d h)

moves_silenced : (t : Sharing) (all : ℕ → Bool) (s : AttemptState) (d : ℕ) (o : Option ℕ) → DeviceHas t s d → Moves t s.plan.epoch all d (silenced s o)
moves_silenced t all s d None h = moves_waits t all s d h
moves_silenced t all s d (Some n) h = moves_ends t all s d (Silent n) h

again_in_asks : (t : Sharing) (s : AttemptState) (d : ℕ) (phase : Phase) → s.phase ≡ phase → DeviceHas t s d → All (AsksAt t s.plan d) (again_in s phase)
unfolding IsSeizingIn
again_in_asks t s d Collecting is h = sends_ask t s.plan d (body.Collect s.plan.epoch s.plan.members) (λ n. tt) (silent_others s)
again_in_asks t s d Choosing is h = All-nil (AsksAt t s.plan d)
again_in_asks t s d SeizingVotes is h =
    let sits : Sits t s.plan s.devices d = sits_of t s.plan s.promises s.devices d s.phase (inl is) h in
    again_asks t s.plan d s.devices (entries_asked t s.plan s.devices d sits.apart sits.entry)
again_in_asks t s d SeizingOthers is h =
    let sits : Sits t s.plan s.devices d = sits_of t s.plan s.promises s.devices d s.phase (inr is) h in
    again_asks t s.plan d s.devices (entries_asked t s.plan s.devices d sits.apart sits.entry)
again_in_asks t s d Installing is h = sends_ask t s.plan d (body.Install (install_in s)) (λ n. tt) (silent_others s)
again_in_asks t s d Over is h = All-nil (AsksAt t s.plan d)

moves_ticked : (t : Sharing) (all : ℕ → Bool) (s : AttemptState) (d : ℕ) → DeviceHas t s d → Moves t s.plan.epoch all d (ticked s)
moves_ticked t all s d h =
    if_either (Moves t s.plan.epoch all d) (nat_le 8 s.ticks) (silenced s (find (is_missing s) s.plan.nodes))
    (if s.ticks == 4 then with_steps s (again_in s s.phase) else waits s)
    (moves_silenced t all s d (find (is_missing s) s.plan.nodes) h)
    (if_either (Moves t s.plan.epoch all d) (s.ticks == 4) (with_steps s (again_in s s.phase)) (waits s)
    (moves_quiet t all s d (again_in s s.phase) (none_again_in s s.phase) (again_in_asks t s d s.phase refl h) h) (moves_waits t all s d h))

pub calls_move : CallsMove
unfolding own_answering own_readying ticking
calls_move t all s (Take from m) d h may told same = moves_taking t all s d from m same h told
calls_move t all s (With_votes both) d h may told same = moves_voting t all s d both may h
calls_move t all s (Own_seized x r) d h may told same = moves_answering_in t all s d x s.plan.coordinator r s.phase refl h told
calls_move t all s Own_ready d h may told same = moves_own_ready t all s d s.phase h
calls_move t all s Tick d h may told same =
    if_either (Moves t s.plan.epoch all d) (is_over s.phase) (waits s) (ticked (record s { ticks = later s.ticks })) (moves_waits t all s d h)
    (moves_ticked t all (record s { ticks = later s.ticks }) d h)

all_first : (P : Promised → Type 0) (o : Option Promised) → ((p : Promised) → o ≡ Some p → P p) → All P (promises_of o)
all_first P None h = All-nil P
all_first P (Some p) h = All-cons P p [] (h p refl) (All-nil P)

pub devices_begin : DevicesBegin
unfolding beginning
devices_begin t p members all own attached cluster d promise positive fresh promised same apart =
    let promises : List Promised = promises_of (promised_by own (shown_by own.sender own.body)) in
    let s : AttemptState = first_state p members own attached cluster promises in
    let told : All (λ x. p ≤ (t.node x.shown.summary.node).promised) promises =
    all_first (λ x. p ≤ (t.node x.shown.summary.node).promised) (promised_by own (shown_by own.sender own.body))
    (λ x k. subst (λ n. p ≤ (t.node n).promised) (sym (promise_node own own.sender own.body x k)) promised) in
    moves_begun t all s d same (record { nodes = refl; attached = apart; apart = tt; has = (fresh, positive, told) }) (fresh, positive, told)
