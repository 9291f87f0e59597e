-- The devices that an attempt is to seize: how each seizing ended is as it was told, and they are those of its plan.
use Rattle.std.specs.Prelude.{ℕ, ◌≡◌, ◌==◌, ◌&&◌, ◌++◌, ◌⊎◌, Bool, true, false, List, [], ◌∷◌, Option, None, Some, IfSome, find, is_none, map, if◌then◌else◌}
use Rattle.std.specs.List.{AllByRecursion, cons_option, filter_map, list_any}
use Rattle.std.proofs.Common.{refl, sym, ap, subst, ◌∙◌, inl, inr}
use Rattle.attempt_laws.proofs.Walk.{if_with}
use Rattle.attempt_laws.specs.Asking.{AreApart, entry_numbers, numbers_of}
use Rattle.cl_base.specs.Sets.{has, set_with}
use Rattle.cl_base.specs.Seizings.{SeizeResult}
use Rattle.cmm_attempt.proofs.Basics.{and_cases, if_either, none_some, or_cases, same_number, same_some}
use Rattle.cmm_attempt.specs.Attempts.{AttemptState, plain_devices, vote_entries_under}
use Rattle.cmm_attempt.specs.Counts.{is_quorum, vote_new}
use Rattle.cmm_attempt.specs.Plans.{is_reachable}
use Rattle.cmm_attempt.specs.Seizings.{awaits, first_seizer, is_asked, is_seized, plain_entry, plain_new, vote_entry, with_next, with_result}
use Rattle.cmm_attempt.specs.declared.attached.AttachedDevice.{AttachedDevice}
use Rattle.cmm_attempt.specs.declared.counting.BothVotes.{BothVotes}
use Rattle.cmm_attempt.specs.declared.plan.Plan.{Plan}
use Rattle.cmm_attempt.specs.declared.promised.Promised.{Promised}
use Rattle.cmm_attempt.specs.declared.seizing.Seizing.{Seizing}
use Rattle.machine_base.proofs.Puts.{true_or_false}
use Rattle.run_history.proofs.Lists.{more}
use Rattle.run_seizings.proofs.Progress.{no_truth, or_left, or_right}
use Rattle.run_devices.proofs.readings.Apart.{or_false}

-- of a device, its seizer, and how the seizing ended
abbrev pub Fact : Type 1
Fact = ℕ → ℕ → SeizeResult → Type 0

abbrev pub EntryEnded : Fact → Seizing → Type 0
EntryEnded P s = (k : ℕ) (r : SeizeResult) → s.seizer ≡ Some k → s.result ≡ Some r → P s.attached.device k r

abbrev pub AllEnded : Fact → List Seizing → Type 0
AllEnded P es = AllByRecursion (EntryEnded P) es

-- ---- new entries have no result that a node told

vote_ended : (P : Fact) (a : AttachedDevice) (o : Option ℕ) → EntryEnded P (vote_entry a o)
vote_ended P a None = λ k r seizer result. absurd (none_some k seizer)
vote_ended P a (Some n) = λ k r seizer result. absurd (none_some r result)

votes_ended : (P : Fact) (plan : Plan) (promises : List Promised) (votes : BothVotes) (attached : List AttachedDevice)
    → AllEnded P (filter_map (vote_new plan promises votes) attached)
votes_ended P plan promises votes [] = tt
votes_ended P plan promises votes (a ∷ attached) =
    more (EntryEnded P) (vote_new plan promises votes a) (filter_map (vote_new plan promises votes) attached)
    (if_either (λ o. IfSome o (EntryEnded P)) (is_quorum votes a.device && is_reachable plan a) (Some (vote_entry a (first_seizer plan promises a))) None
    (vote_ended P a (first_seizer plan promises a)) tt)
    (votes_ended P plan promises votes attached)

pub entries_ended : (P : Fact) (s : AttemptState) (o : Option BothVotes) → AllEnded P (vote_entries_under s o)
entries_ended P s None = tt
entries_ended P s (Some votes) = votes_ended P s.plan s.promises votes s.plan.attached

plain_ended : (P : Fact) (a : AttachedDevice) (o : Option ℕ) → IfSome (plain_entry a o) (EntryEnded P)
plain_ended P a None = tt
plain_ended P a (Some n) = λ k r seizer result. absurd (none_some r result)

pub plains_ended : (P : Fact) (plan : Plan) (devices : List Seizing) (attached : List AttachedDevice) → AllEnded P (filter_map (plain_new plan devices) attached)
plains_ended P plan devices [] = tt
plains_ended P plan devices (a ∷ attached) =
    more (EntryEnded P) (plain_new plan devices a) (filter_map (plain_new plan devices) attached)
    (if_either (λ o. IfSome o (EntryEnded P)) (is_seized devices a.device) None (plain_entry a (find (λ n. has a.nodes n) plan.nodes)) tt
    (plain_ended P a (find (λ n. has a.nodes n) plan.nodes)))
    (plains_ended P plan devices attached)

-- ---- an answer is that of the node which is asked

asked_is : (o : Option ℕ) (n : ℕ) → is_asked o n ≡ true → o ≡ Some n
asked_is None n k = absurd (no_truth k)
asked_is (Some m) n k = ap Some (same_number m n k)

found_in : (d from : ℕ) (e : Seizing) (es : List Seizing) → find (awaits d from) es ≡ Some e → list_any (λ y. y == d) (entry_numbers es) ≡ true
found_in d from e [] found = absurd (none_some e found)
found_in d from e (x ∷ xs) found = by_test (true_or_false (awaits d from x)) (λ rest. found_in d from e xs rest)
  where
    by_test : (awaits d from x ≡ true) ⊎ (awaits d from x ≡ false) → (find (awaits d from) xs ≡ Some e → list_any (λ y. y == d) (entry_numbers xs) ≡ true)
        → list_any (λ y. y == d) (entry_numbers (x ∷ xs)) ≡ true
    by_test (inl is) rest =
        or_left (x.attached.device == d) (list_any (λ y. y == d) (entry_numbers xs))
        (and_cases (x.attached.device == d) (is_none x.result) (and_cases ((x.attached.device == d) && is_none x.result) (is_asked x.seizer from) is).0).0
    by_test (inr other) rest =
        or_right (x.attached.device == d) (list_any (λ y. y == d) (entry_numbers xs))
        (rest (sym (if_second (awaits d from x) (Some x) (find (awaits d from) xs) other) ∙ found))
      where
        if_second : {X : Type 0} (b : Bool) (y z : X) → b ≡ false → (if b then y else z) ≡ z
        if_second true y z h = absurd (no_truth (sym h))
        if_second false y z h = refl

others_ended : (P : Fact) (d : ℕ) (r : SeizeResult) (es : List Seizing) → list_any (λ y. y == d) (entry_numbers es) ≡ false → AllEnded P es
    → AllEnded P (map (with_result d r) es)
others_ended P d r [] lacks k = tt
others_ended P d r (e ∷ es) lacks k =
    let two : ((e.attached.device == d) ≡ false) × (list_any (λ y. y == d) (entry_numbers es) ≡ false) =
    or_false (e.attached.device == d) (list_any (λ y. y == d) (entry_numbers es)) lacks in (
      if_with (EntryEnded P) ((e.attached.device == d) && is_none e.result) ((e.attached.device == d) && is_none e.result) (record e { result = Some r }) e refl
          (λ is. absurd (no_truth (sym two.0 ∙ (and_cases (e.attached.device == d) (is_none e.result) is).0))) (λ is. k.0),
      others_ended P d r es two.1 k.1,
    )

pub results_ended : (P : Fact) (d from : ℕ) (r : SeizeResult) (e : Seizing) (es : List Seizing) → AreApart (entry_numbers es) → find (awaits d from) es ≡ Some e
    → P d from r → AllEnded P es → AllEnded P (map (with_result d r) es)
results_ended P d from r e [] apart found f k = absurd (none_some e found)
results_ended P d from r e (x ∷ xs) apart found f k =
    by_test (awaits d from x) refl found (λ rest. results_ended P d from r e xs apart.1 rest f k.1)
  where
    test : Bool
    test = (x.attached.device == d) && is_none x.result

    answered : awaits d from x ≡ true → EntryEnded P (record x { result = Some r })
    answered is m other seizer result =
        let two : (test ≡ true) × (is_asked x.seizer from ≡ true) = and_cases test (is_asked x.seizer from) is in
        let at : x.attached.device ≡ d = same_number x.attached.device d (and_cases (x.attached.device == d) (is_none x.result) two.0).0 in
        let one : from ≡ m = same_some from m (sym (asked_is x.seizer from two.1) ∙ seizer) in
        subst (λ z. P z m other) (sym at) (subst (λ z. P d z other) one (subst (λ z. P d from z) (same_some r other result) f))

    by_test : (b : Bool) → awaits d from x ≡ b → (if b then Some x else find (awaits d from) xs) ≡ Some e
        → (find (awaits d from) xs ≡ Some e → AllEnded P (map (with_result d r) xs)) → AllEnded P (map (with_result d r) (x ∷ xs))
    by_test true is here rest =
        let at : x.attached.device ≡ d = same_number x.attached.device d
        (and_cases (x.attached.device == d) (is_none x.result) (and_cases test (is_asked x.seizer from) is).0).0 in (
          if_with (EntryEnded P) test test (record x { result = Some r }) x refl (λ t. answered is) (λ t. k.0),
          others_ended P d r xs (subst (λ z. list_any (λ y. y == z) (entry_numbers xs) ≡ false) at apart.0) k.1,
        )
    by_test false other there rest = (
      if_with (EntryEnded P) test test (record x { result = Some r }) x refl
          (λ t. absurd (no_truth (sym apart.0
          ∙ subst (λ z. list_any (λ y. y == z) (entry_numbers xs) ≡ true) (sym (same_number x.attached.device d (and_cases (x.attached.device == d) (is_none x.result) t).0))
          (found_in d from e xs there)))) (λ t. k.0),
      rest there,
    )

pub nexts_ended : (P : Fact) (d n : ℕ) (es : List Seizing) → AllEnded P es → AllEnded P (map (with_next d n) es)
nexts_ended P d n [] k = tt
nexts_ended P d n (e ∷ es) k = (
  if_with (EntryEnded P) ((e.attached.device == d) && is_none e.result) ((e.attached.device == d) && is_none e.result)
      (record e { seizer = Some n; asked = set_with e.asked n }) e refl
      (λ is. λ m r seizer result. absurd (unended e.result r (and_cases (e.attached.device == d) (is_none e.result) is).1 result)) (λ is. k.0),
  nexts_ended P d n es k.1,
)
  where
    unended : (o : Option SeizeResult) (r : SeizeResult) → is_none o ≡ true → o ≡ Some r → ⊥
    unended None r i is = none_some r is
    unended (Some x) r i is = no_truth i

-- ---- the devices are those of the plan

abbrev pub Within : List AttachedDevice → List Seizing → Type 0
Within attached es = (d : ℕ) → list_any (λ x. x == d) (entry_numbers es) ≡ true → list_any (λ x. x == d) (numbers_of attached) ≡ true

abbrev Of : AttachedDevice → Option Seizing → Type 0
Of a None = Unit {0}
Of a (Some e) = e.attached ≡ a

one_within : (a : AttachedDevice) (attached : List AttachedDevice) (o : Option Seizing) (es : List Seizing) → Of a o → Within attached es → Within (a ∷ attached) (cons_option o es)
one_within a attached None es of k d is = or_right (a.device == d) (list_any (λ x. x == d) (numbers_of attached)) (k d is)
one_within a attached (Some e) es of k d is = by_cases (or_cases (e.attached.device == d) (list_any (λ x. x == d) (entry_numbers es)) is)
  where
    by_cases : ((e.attached.device == d) ≡ true) ⊎ (list_any (λ x. x == d) (entry_numbers es) ≡ true) → list_any (λ x. x == d) (numbers_of (a ∷ attached)) ≡ true
    by_cases (inl here) =
        or_left (a.device == d) (list_any (λ x. x == d) (numbers_of attached)) (subst (λ (z : AttachedDevice). (z.device == d) ≡ true) of here)
    by_cases (inr there) = or_right (a.device == d) (list_any (λ x. x == d) (numbers_of attached)) (k d there)

new_within : (f : AttachedDevice → Option Seizing) → ((a : AttachedDevice) → Of a (f a)) → (attached : List AttachedDevice) → Within attached (filter_map f attached)
new_within f of [] d is = is
new_within f of (a ∷ attached) d is = one_within a attached (f a) (filter_map f attached) (of a) (new_within f of attached) d is

vote_of : (a : AttachedDevice) (o : Option ℕ) → Of a (Some (vote_entry a o))
vote_of a None = refl
vote_of a (Some n) = refl

pub votes_within : (s : AttemptState) (o : Option BothVotes) → Within s.plan.attached (vote_entries_under s o)
votes_within s None = λ d is. absurd (no_truth is)
votes_within s (Some votes) =
    new_within (vote_new s.plan s.promises votes)
    (λ a. if_either (Of a) (is_quorum votes a.device && is_reachable s.plan a) (Some (vote_entry a (first_seizer s.plan s.promises a))) None
    (vote_of a (first_seizer s.plan s.promises a)) tt) s.plan.attached

plain_of : (a : AttachedDevice) (o : Option ℕ) → Of a (plain_entry a o)
plain_of a None = tt
plain_of a (Some n) = refl

pub plains_within : (s : AttemptState) → Within s.plan.attached (plain_devices s)
plains_within s =
    new_within (plain_new s.plan s.devices)
    (λ a. if_either (Of a) (is_seized s.devices a.device) None (plain_entry a (find (λ n. has a.nodes n) s.plan.nodes)) tt
    (plain_of a (find (λ n. has a.nodes n) s.plan.nodes))) s.plan.attached

pub append_within : (attached : List AttachedDevice) (es others : List Seizing) → Within attached es → Within attached others → Within attached (es ++ others)
append_within attached [] others k j = j
append_within attached (e ∷ es) others k j = λ d is. by_cases d
    (append_within attached es others (λ q there. k q (or_right (e.attached.device == q) (list_any (λ x. x == q) (entry_numbers es)) there)) j d)
    (or_cases (e.attached.device == d) (list_any (λ x. x == d) (entry_numbers (es ++ others))) is)
  where
    by_cases : (d : ℕ) → (list_any (λ x. x == d) (entry_numbers (es ++ others)) ≡ true → list_any (λ x. x == d) (numbers_of attached) ≡ true)
        → ((e.attached.device == d) ≡ true) ⊎ (list_any (λ x. x == d) (entry_numbers (es ++ others)) ≡ true) → list_any (λ x. x == d) (numbers_of attached) ≡ true
    by_cases d rest (inl here) = k d (or_left (e.attached.device == d) (list_any (λ x. x == d) (entry_numbers es)) here)
    by_cases d rest (inr there) = rest there

pub mapped_within : (attached : List AttachedDevice) (f : Seizing → Seizing) → ((e : Seizing) → (f e).attached ≡ e.attached) → (es : List Seizing) → Within attached es
    → Within attached (map f es)
mapped_within attached f same es k d is = k d (subst (λ ns. list_any (λ x. x == d) ns ≡ true) (numbers es) is)
  where
    numbers : (es : List Seizing) → entry_numbers (map f es) ≡ entry_numbers es
    numbers [] = refl
    numbers (e ∷ es) = rw (same e, numbers es) refl

pub result_same : (d : ℕ) (r : SeizeResult) (e : Seizing) → (with_result d r e).attached ≡ e.attached
result_same d r e = if_either (λ (z : Seizing). z.attached ≡ e.attached) ((e.attached.device == d) && is_none e.result) (record e { result = Some r }) e refl refl

pub next_same : (d n : ℕ) (e : Seizing) → (with_next d n e).attached ≡ e.attached
next_same d n e =
    if_either (λ (z : Seizing). z.attached ≡ e.attached) ((e.attached.device == d) && is_none e.result) (record e { seizer = Some n; asked = set_with e.asked n }) e refl refl
