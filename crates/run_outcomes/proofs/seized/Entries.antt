-- The entry of a device, as entries come, end, and ask the next.
use Rattle.std.specs.Prelude.{ℕ, ◌==◌, ◌≡◌, ◌≢◌, ◌≤◌, ◌&&◌, ◌||◌, ◌++◌, not, Bool, true, false, List, [], ◌∷◌, Option, None, Some, IfSome, find, is_none, map}
use Rattle.std.specs.List.{AllByRecursion, filter_map, list_any}
use Rattle.std.specs.Option.{option_map}
use Rattle.std.proofs.Common.{arith, refl, sym, ap, subst, ◌∙◌}
use Rattle.attempt_laws.proofs.Asks.{found_among}
use Rattle.attempt_laws.specs.Asking.{entry_of}
use Rattle.cl_base.proofs.SetLemmas.{has_with, or_bit_value}
use Rattle.cl_base.specs.Sets.{has, set_with}
use Rattle.cl_base.specs.Seizings.{SeizeResult}
use Rattle.cl_base.specs.declared.seizing.SeizeEnd.TheVariants.{Contended, Expelled, Fault, Greater, Held, NotRegistered}
use Rattle.cmm_attempt.proofs.Basics.{if_either, none_some, same_number, same_some}
use Rattle.cmm_attempt.specs.Attempts.{AttemptState, plain_devices, vote_entries_under}
use Rattle.cmm_attempt.specs.Counts.{is_quorum, vote_new}
use Rattle.cmm_attempt.specs.Plans.{is_reachable}
use Rattle.cmm_attempt.specs.Promises.{holds_valid}
use Rattle.cmm_attempt.specs.Seizings.{first_seizer, is_seized, may_follow, next_by, plain_entry, plain_new, vote_entry, with_next, with_result}
use Rattle.cl_base.specs.Keys.{key_of}
use Rattle.cmm_attempt.specs.declared.attached.AttachedDevice.{AttachedDevice}
use Rattle.cmm_attempt.specs.declared.counting.BothVotes.{BothVotes}
use Rattle.cmm_attempt.specs.declared.plan.Plan.{Plan}
use Rattle.cmm_attempt.specs.declared.promised.Promised.{Promised}
use Rattle.cmm_attempt.specs.declared.seizing.Seizing.{Seizing}
use Rattle.run_history.proofs.Lists.{more}
use Rattle.seize.specs.declared.kind.SeizeKind.{SeizeKind}
use Rattle.seize.specs.declared.kind.SeizeKind.TheVariants.{Plain, Vote}
use Rattle.run_outcomes.specs.tasks.Answers.{EntryBut, EntryHas, Heard}
use Rattle.run_outcomes.proofs.seized.Finding.{Awaited, both, entry_among, entry_device, entry_first, entry_mapped, entry_second, if_one, if_two, itself, or_false}

-- ---- an answer

result_same : (d : ℕ) (r : SeizeResult) (e : Seizing) → (with_result d r e).attached ≡ e.attached
result_same d r e = if_either (λ (z : Seizing). z.attached ≡ e.attached) ((e.attached.device == d) && is_none e.result) (record e { result = Some r }) e refl refl

next_same : (d n : ℕ) (e : Seizing) → (with_next d n e).attached ≡ e.attached
next_same d n e =
    if_either (λ (z : Seizing). z.attached ≡ e.attached) ((e.attached.device == d) && is_none e.result) (record e { seizer = Some n; asked = set_with e.asked n }) e refl refl

not_same : (a b : ℕ) → a ≢ b → (a == b) ≡ false
not_same a b ne = by_value (a == b) refl
  where
    by_value : (z : Bool) → (a == b) ≡ z → z ≡ false
    by_value true is = absurd (ne (same_number a b is))
    by_value false is = refl

-- other entries stay
pub result_aside : (T : Heard) (c d : ℕ) (r : SeizeResult) (x : ℕ) (es : List Seizing) → x ≢ d → EntryHas T c x (entry_of es x) → EntryHas T c x (entry_of (map (with_result d r) es) x)
result_aside T c d r x es ne k = subst (EntryHas T c x) (sym (entry_mapped (with_result d r) (result_same d r) es x)) (by_entry (entry_of es x) refl k)
  where
    by_entry : (o : Option Seizing) → entry_of es x ≡ o → EntryHas T c x o → EntryHas T c x (option_map (with_result d r) o)
    by_entry None at h = h
    by_entry (Some e) at h =
        subst (λ z. EntryHas T c x (Some z))
        (sym (if_two ((e.attached.device == d) && is_none e.result) (record e { result = Some r }) e (ap (λ b. b && is_none e.result) (not_same e.attached.device d (λ is. ne (sym (entry_device x es e at) ∙ is)))))) h

pub next_aside : (T : Heard) (c d n x : ℕ) (es : List Seizing) → x ≢ d → EntryHas T c x (entry_of es x) → EntryHas T c x (entry_of (map (with_next d n) es) x)
next_aside T c d n x es ne k = subst (EntryHas T c x) (sym (entry_mapped (with_next d n) (next_same d n) es x)) (by_entry (entry_of es x) refl k)
  where
    by_entry : (o : Option Seizing) → entry_of es x ≡ o → EntryHas T c x o → EntryHas T c x (option_map (with_next d n) o)
    by_entry None at h = h
    by_entry (Some e) at h =
        subst (λ z. EntryHas T c x (Some z))
        (sym (if_two ((e.attached.device == d) && is_none e.result) (record e { seizer = Some n; asked = set_with e.asked n }) e (ap (λ b. b && is_none e.result) (not_same e.attached.device d (λ is. ne (sym (entry_device x es e at) ∙ is)))))) h

awaits_both : (d : ℕ) (e : Seizing) → e.attached.device ≡ d → e.result ≡ None → ((e.attached.device == d) && is_none e.result) ≡ true
awaits_both d e at none = both (e.attached.device == d) (is_none e.result) (itself e.attached.device d at) (ap (λ o. is_none o) none)

-- it ends with what this member told
pub result_there : (T : Heard) (c d from : ℕ) (r : SeizeResult) (es : List Seizing) (e : Seizing) → Awaited d from es e → (from ≢ c → T d from ≡ Some r) → EntryBut T c d from (entry_of es d)
    → EntryHas T c d (entry_of (map (with_result d r) es) d)
result_there T c d from r es e at now k =
    subst (EntryHas T c d)
    (sym (entry_mapped (with_result d r) (result_same d r) es d ∙ ap (option_map (with_result d r)) at.there
    ∙ ap Some (if_one ((e.attached.device == d) && is_none e.result) (record e { result = Some r }) e (awaits_both d e at.device at.result))))
    (λ m. ((λ is ne. let one : from ≡ m = same_some from m (sym at.seizer ∙ is) in subst (λ z. T d z ≡ Some r) one (now (λ own. ne (sym one ∙ own)))), (subst (EntryBut T c d from) at.there k m).1))

-- .. or asks the next, who told nothing yet
pub next_there : (T : Heard) (c d from n : ℕ) (es : List Seizing) (e : Seizing) → Awaited d from es e → has e.asked n ≡ false → ((m : ℕ) → has (set_with e.asked n) m ≡ false → has e.asked m ≡ false)
    → EntryBut T c d from (entry_of es d) → EntryHas T c d (entry_of (map (with_next d n) es) d)
next_there T c d from n es e at unasked fewer k =
    subst (EntryHas T c d)
    (sym (entry_mapped (with_next d n) (next_same d n) es d ∙ ap (option_map (with_next d n)) at.there
    ∙ ap Some (if_one ((e.attached.device == d) && is_none e.result) (record e { seizer = Some n; asked = set_with e.asked n }) e (awaits_both d e at.device at.result))))
    (λ m. ((λ is ne. subst (λ z. T d z ≡ e.result) (same_some n m is) ((here n).1 unasked ∙ sym at.result)), λ none. (here m).1 (fewer m none)))
  where
    here : EntryBut T c d from (Some e)
    here = subst (EntryBut T c d from) at.there k

-- ---- who is asked next

third : (a b c e : Bool) → (a && b && not c && e) ≡ true → c ≡ false
third a b c e h = grind arith

pub next_unasked : (cluster : ℕ) (promises : List Promised) (nodes : List ℕ) (e : Seizing) (kind : SeizeKind) (r : SeizeResult) (n : ℕ) → next_by cluster promises nodes e kind r ≡ Some n
    → (has e.asked n ≡ false) × (list_any (λ m. m == n) nodes ≡ true)
next_unasked cluster promises nodes e Vote (NotRegistered keys) n h =
    let two : (may_follow cluster promises e keys n ≡ true) × (list_any (λ m. m == n) nodes ≡ true) = found_among (may_follow cluster promises e keys) nodes n h in
    (third (has e.attached.nodes n) (holds_valid promises e.attached.device n) (has e.asked n) (list_any (λ key. key == key_of cluster n) keys) two.0, two.1)
next_unasked cluster promises nodes e Vote (Held keys) n h = absurd (none_some n h)
next_unasked cluster promises nodes e Vote (Greater word) n h = absurd (none_some n h)
next_unasked cluster promises nodes e Vote Expelled n h = absurd (none_some n h)
next_unasked cluster promises nodes e Vote (Contended key) n h = absurd (none_some n h)
next_unasked cluster promises nodes e Vote Fault n h = absurd (none_some n h)
next_unasked cluster promises nodes e Plain r n h = absurd (none_some n h)

pub still_unasked : (s n m : ℕ) → 1 ≤ n → n ≤ 32 → has (set_with s n) m ≡ false → has s m ≡ false
still_unasked s n m low high none =
    (or_false (m == n) (has s m) (sym (subst (λ z. has z m ≡ ((m == n) || has s m)) (or_bit_value s n high) (has_with s n low high m)) ∙ none)).1

-- ---- new entries

-- it waits for whom it asks
abbrev pub IsNew : Seizing → Type 0
IsNew e = (m : ℕ) → e.seizer ≡ Some m → e.result ≡ None

vote_is_new : (a : AttachedDevice) (o : Option ℕ) → IsNew (vote_entry a o)
vote_is_new a None = λ m seizer. absurd (none_some m seizer)
vote_is_new a (Some n) = λ m seizer. refl

votes_new : (plan : Plan) (promises : List Promised) (votes : BothVotes) (attached : List AttachedDevice) → AllByRecursion IsNew (filter_map (vote_new plan promises votes) attached)
votes_new plan promises votes [] = tt
votes_new plan promises votes (a ∷ attached) =
    more IsNew (vote_new plan promises votes a) (filter_map (vote_new plan promises votes) attached)
    (if_either (λ o. IfSome o IsNew) (is_quorum votes a.device && is_reachable plan a) (Some (vote_entry a (first_seizer plan promises a))) None (vote_is_new a (first_seizer plan promises a)) tt)
    (votes_new plan promises votes attached)

pub entries_new : (s : AttemptState) (o : Option BothVotes) → AllByRecursion IsNew (vote_entries_under s o)
entries_new s None = tt
entries_new s (Some votes) = votes_new s.plan s.promises votes s.plan.attached

plain_is_new : (a : AttachedDevice) (o : Option ℕ) → IfSome (plain_entry a o) IsNew
plain_is_new a None = tt
plain_is_new a (Some n) = λ m seizer. refl

plains_new_in : (plan : Plan) (devices : List Seizing) (attached : List AttachedDevice) → AllByRecursion IsNew (filter_map (plain_new plan devices) attached)
plains_new_in plan devices [] = tt
plains_new_in plan devices (a ∷ attached) =
    more IsNew (plain_new plan devices a) (filter_map (plain_new plan devices) attached)
    (if_either (λ o. IfSome o IsNew) (is_seized devices a.device) None (plain_entry a (find (λ n. has a.nodes n) plan.nodes)) tt (plain_is_new a (find (λ n. has a.nodes n) plan.nodes)))
    (plains_new_in plan devices attached)

pub plains_new : (s : AttemptState) → AllByRecursion IsNew (plain_devices s)
plains_new s = plains_new_in s.plan s.devices s.plan.attached

-- where nobody told anything of the device
pub new_has : (T : Heard) (c d : ℕ) (es : List Seizing) → AllByRecursion IsNew es → ((m : ℕ) → T d m ≡ None) → EntryHas T c d (entry_of es d)
new_has T c d es all free = by_entry (entry_of es d) refl
  where
    by_entry : (o : Option Seizing) → entry_of es d ≡ o → EntryHas T c d o
    by_entry None at = free
    by_entry (Some e) at = λ m. ((λ seizer ne. free m ∙ sym (entry_among IsNew d es e all at m seizer)), λ none. free m)

pub appended_has : (T : Heard) (c d : ℕ) (es others : List Seizing) → AllByRecursion IsNew others → EntryHas T c d (entry_of es d) → EntryHas T c d (entry_of (es ++ others) d)
appended_has T c d es others all k = by_entry (entry_of es d) refl k
  where
    by_entry : (o : Option Seizing) → entry_of es d ≡ o → EntryHas T c d o → EntryHas T c d (entry_of (es ++ others) d)
    by_entry None at h = subst (EntryHas T c d) (sym (entry_second d es others at)) (new_has T c d others all h)
    by_entry (Some e) at h = subst (EntryHas T c d) (sym (entry_first d es others e at)) h
