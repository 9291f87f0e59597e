-- What an attempt has of a device that it holds is what its seizer told, before the attempt installs.
use Rattle.std.specs.Prelude.{ℕ, ◌≡◌, ◌==◌, ◌&&◌, ◌⊎◌, Bool, true, false, List, [], ◌∷◌, Option, None, Some, IfSome, find, is_none, map, if◌then◌else◌}
use Rattle.std.specs.List.{AllByRecursion, filter_map, list_any}
use Rattle.std.proofs.Common.{refl, sym, ap, subst, ◌∙◌, inl, inr}
use Rattle.attempt_laws.proofs.Walk.{IsSeizing, TellsResult, Walk, if_with, walks, walks_begun}
use Rattle.attempt_laws.specs.Asking.{AreApart, entry_numbers, numbers_of}
use Rattle.attempt_laws.specs.Staying.{IsBefore}
use Rattle.cl_base.specs.Sets.{has, set_with}
use Rattle.cl_base.specs.Seizings.{SeizeResult}
use Rattle.cl_base.specs.declared.seizing.SeizeEnd.TheVariants.{Held}
use Rattle.cmm_attempt.proofs.Basics.{and_cases, if_either, none_some, same_number, same_some}
use Rattle.cmm_attempt.specs.Attempts.{AttemptState, Turn, asked_next, beginning, first_state, installing, plain_devices, promises_of, vote_entries_under}
use Rattle.cmm_attempt.specs.Calls.{Call, Own_ready, Own_seized, Take, Tick, With_votes, turn}
use Rattle.cmm_attempt.specs.Counts.{is_quorum, vote_new}
use Rattle.cmm_attempt.specs.Plans.{is_reachable}
use Rattle.cmm_attempt.specs.Promises.{promised_by, shown_by}
use Rattle.cmm_attempt.specs.Seizings.{awaits, first_seizer, is_asked, is_seized, plain_entry, plain_new, vote_entry, with_next, with_result}
use Rattle.cmm_attempt.specs.declared.attached.AttachedDevice.{AttachedDevice}
use Rattle.cmm_attempt.specs.declared.counting.BothVotes.{BothVotes}
use Rattle.cmm_attempt.specs.declared.phase.Phase.{Phase}
use Rattle.cmm_attempt.specs.declared.plan.Plan.{Plan}
use Rattle.cmm_attempt.specs.declared.promised.Promised.{Promised}
use Rattle.cmm_attempt.specs.declared.seizing.Seizing.{Seizing}
use Rattle.machine_base.proofs.Puts.{true_or_false}
use Rattle.wire.specs.declared.message.Body.TheVariants as body
use Rattle.wire.specs.declared.message.Message.{Message}
use Rattle.run_history.proofs.Lists.{both, more}
use Rattle.run_seizings.proofs.Progress.{no_truth, or_left, or_right}
use Rattle.run_devices.proofs.readings.Apart.{nexts_apart, or_false, plain_apart, results_apart, votes_apart}

-- of a device, its seizer, and the keys that this one read
abbrev pub Fact : Type 1
Fact = ℕ → ℕ → List ℕ → Type 0

abbrev pub EntryRead : Fact → Seizing → Type 0
EntryRead P s = (k : ℕ) (keys : List ℕ) → s.seizer ≡ Some k → s.result ≡ Some (Held keys) → P s.attached.device k keys

abbrev pub AllRead : Fact → List Seizing → Type 0
AllRead P es = AllByRecursion (EntryRead P) es

-- ---- new entries have no result that holds

vote_read : (P : Fact) (a : AttachedDevice) (o : Option ℕ) → EntryRead P (vote_entry a o)
vote_read P a None = λ k keys seizer result. absurd (none_some k seizer)
vote_read P a (Some n) = λ k keys seizer result. absurd (none_some (Held keys) result)

votes_read : (P : Fact) (plan : Plan) (promises : List Promised) (votes : BothVotes) (attached : List AttachedDevice)
    → AllRead P (filter_map (vote_new plan promises votes) attached)
votes_read P plan promises votes [] = tt
votes_read P plan promises votes (a ∷ attached) =
    more (EntryRead P) (vote_new plan promises votes a) (filter_map (vote_new plan promises votes) attached)
    (if_either (λ o. IfSome o (EntryRead P)) (is_quorum votes a.device && is_reachable plan a) (Some (vote_entry a (first_seizer plan promises a))) None
    (vote_read P a (first_seizer plan promises a)) tt)
    (votes_read P plan promises votes attached)

entries_read : (P : Fact) (s : AttemptState) (o : Option BothVotes) → AllRead P (vote_entries_under s o)
entries_read P s None = tt
entries_read P s (Some votes) = votes_read P s.plan s.promises votes s.plan.attached

plain_read : (P : Fact) (a : AttachedDevice) (o : Option ℕ) → IfSome (plain_entry a o) (EntryRead P)
plain_read P a None = tt
plain_read P a (Some n) = λ k keys seizer result. absurd (none_some (Held keys) result)

plains_read : (P : Fact) (plan : Plan) (devices : List Seizing) (attached : List AttachedDevice) → AllRead P (filter_map (plain_new plan devices) attached)
plains_read P plan devices [] = tt
plains_read P plan devices (a ∷ attached) =
    more (EntryRead P) (plain_new plan devices a) (filter_map (plain_new plan devices) attached)
    (if_either (λ o. IfSome o (EntryRead P)) (is_seized devices a.device) None (plain_entry a (find (λ n. has a.nodes n) plan.nodes)) tt
    (plain_read P a (find (λ n. has a.nodes n) plan.nodes)))
    (plains_read P plan devices attached)

-- ---- an answer is that of the node which is asked

asked_is : (o : Option ℕ) (n : ℕ) → is_asked o n ≡ true → o ≡ Some n
asked_is None n k = absurd (no_truth k)
asked_is (Some m) n k = ap Some (same_number m n k)

-- what is found among them is of this device
found_in : (d from : ℕ) (e : Seizing) (es : List Seizing) → find (awaits d from) es ≡ Some e → list_any (λ y. y == d) (entry_numbers es) ≡ true
found_in d from e [] found = absurd (none_some e found)
found_in d from e (x ∷ xs) found = by_test (true_or_false (awaits d from x)) (λ rest. found_in d from e xs rest)
  where
    by_test : (awaits d from x ≡ true) ⊎ (awaits d from x ≡ false) → (find (awaits d from) xs ≡ Some e → list_any (λ y. y == d) (entry_numbers xs) ≡ true)
        → list_any (λ y. y == d) (entry_numbers (x ∷ xs)) ≡ true
    by_test (inl is) rest =
        or_left (x.attached.device == d) (list_any (λ y. y == d) (entry_numbers xs))
        (and_cases (x.attached.device == d) (is_none x.result) (and_cases ((x.attached.device == d) && is_none x.result) (is_asked x.seizer from) is).0).0
    by_test (inr other) rest =
        or_right (x.attached.device == d) (list_any (λ y. y == d) (entry_numbers xs))
        (rest (sym (if_second (awaits d from x) (Some x) (find (awaits d from) xs) other) ∙ found))
      where
        if_second : {X : Type 0} (b : Bool) (y z : X) → b ≡ false → (if b then y else z) ≡ z
        if_second true y z h = absurd (no_truth (sym h))
        if_second false y z h = refl

-- the entries of other devices stay
others_read : (P : Fact) (d : ℕ) (r : SeizeResult) (es : List Seizing) → list_any (λ y. y == d) (entry_numbers es) ≡ false → AllRead P es
    → AllRead P (map (with_result d r) es)
others_read P d r [] lacks k = tt
others_read P d r (e ∷ es) lacks k =
    let two : ((e.attached.device == d) ≡ false) × (list_any (λ y. y == d) (entry_numbers es) ≡ false) =
    or_false (e.attached.device == d) (list_any (λ y. y == d) (entry_numbers es)) lacks in (
      if_with (EntryRead P) ((e.attached.device == d) && is_none e.result) ((e.attached.device == d) && is_none e.result) (record e { result = Some r }) e refl
          (λ is. absurd (no_truth (sym two.0 ∙ (and_cases (e.attached.device == d) (is_none e.result) is).0))) (λ is. k.0),
      others_read P d r es two.1 k.1,
    )

pub results_read : (P : Fact) (d from : ℕ) (r : SeizeResult) (e : Seizing) (es : List Seizing) → AreApart (entry_numbers es) → find (awaits d from) es ≡ Some e
    → ((keys : List ℕ) → r ≡ Held keys → P d from keys) → AllRead P es → AllRead P (map (with_result d r) es)
results_read P d from r e [] apart found f k = absurd (none_some e found)
results_read P d from r e (x ∷ xs) apart found f k =
    by_test (awaits d from x) refl found (λ rest. results_read P d from r e xs apart.1 rest f k.1)
  where
    test : Bool
    test = (x.attached.device == d) && is_none x.result

    answered : awaits d from x ≡ true → EntryRead P (record x { result = Some r })
    answered is m keys seizer result =
        let two : (test ≡ true) × (is_asked x.seizer from ≡ true) = and_cases test (is_asked x.seizer from) is in
        let at : x.attached.device ≡ d = same_number x.attached.device d (and_cases (x.attached.device == d) (is_none x.result) two.0).0 in
        let one : from ≡ m = same_some from m (sym (asked_is x.seizer from two.1) ∙ seizer) in
        subst (λ z. P z m keys) (sym at) (subst (λ z. P d z keys) one (f keys (same_some r (Held keys) result)))

    by_test : (b : Bool) → awaits d from x ≡ b → (if b then Some x else find (awaits d from) xs) ≡ Some e
        → (find (awaits d from) xs ≡ Some e → AllRead P (map (with_result d r) xs)) → AllRead P (map (with_result d r) (x ∷ xs))
    by_test true is here rest =
        let at : x.attached.device ≡ d = same_number x.attached.device d
        (and_cases (x.attached.device == d) (is_none x.result) (and_cases test (is_asked x.seizer from) is).0).0 in (
          if_with (EntryRead P) test test (record x { result = Some r }) x refl (λ t. answered is) (λ t. k.0),
          others_read P d r xs (subst (λ z. list_any (λ y. y == z) (entry_numbers xs) ≡ false) at apart.0) k.1,
        )
    by_test false other there rest = (
      if_with (EntryRead P) test test (record x { result = Some r }) x refl
          (λ t. absurd (no_truth (sym apart.0
          ∙ subst (λ z. list_any (λ y. y == z) (entry_numbers xs) ≡ true) (sym (same_number x.attached.device d (and_cases (x.attached.device == d) (is_none x.result) t).0))
          (found_in d from e xs there)))) (λ t. k.0),
      rest there,
    )

nexts_read : (P : Fact) (d n : ℕ) (es : List Seizing) → AllRead P es → AllRead P (map (with_next d n) es)
nexts_read P d n [] k = tt
nexts_read P d n (e ∷ es) k = (
  if_with (EntryRead P) ((e.attached.device == d) && is_none e.result) ((e.attached.device == d) && is_none e.result)
      (record e { seizer = Some n; asked = set_with e.asked n }) e refl
      (λ is. λ m keys seizer result. absurd (unended e.result keys (and_cases (e.attached.device == d) (is_none e.result) is).1 result)) (λ is. k.0),
  nexts_read P d n es k.1,
)
  where
    unended : (o : Option SeizeResult) (keys : List ℕ) → is_none o ≡ true → o ≡ Some (Held keys) → ⊥
    unended None keys i r = none_some (Held keys) r
    unended (Some x) keys i r = no_truth i

-- ---- each call

tells_at : (c : Call) (s a : AttemptState) (d n : ℕ) (r : SeizeResult) → s.plan ≡ a.plan → TellsResult c s d n r → TellsResult c a d n r
tells_at (Take from m) s a d n r same tells = (tells.0, tells.1 ∙ ap (λ (p : Plan). body.Seized p.epoch d r) same)
tells_at (Own_seized device told) s a d n r same tells = (tells.0, tells.1, tells.2 ∙ ap (λ (p : Plan). p.coordinator) same)
tells_at (With_votes votes) s a d n r same tells = absurd tells
tells_at Own_ready s a d n r same tells = absurd tells
tells_at Tick s a d n r same tells = absurd tells

seizing_before : (phase : Phase) → IsSeizing phase → IsBefore phase
seizing_before phase (inl is) = subst IsBefore (sym is) tt
seizing_before phase (inr is) = subst IsBefore (sym is) tt

-- the seizings of an attempt are so, and of devices apart
abbrev pub Rests : Fact → AttemptState → Type 0
Rests P s = AllRead P s.devices × AreApart (entry_numbers s.devices)

-- what a call tells of a device that is held is so, before the attempt installs
abbrev pub Tells : Fact → AttemptState → Call → Type 0
Tells P a c = (d from : ℕ) (keys : List ℕ) → IsBefore a.phase → TellsResult c a d from (Held keys) → P d from keys

abbrev AtRest : Fact → AttemptState → AttemptState → Type 0
AtRest P a s = (s.plan ≡ a.plan) × (IsBefore s.phase → IsBefore a.phase) × Rests P s

abbrev Within : Fact → AttemptState → AttemptState → Type 0
Within P a s = (s.plan ≡ a.plan) × Rests P s

abbrev Ends : Fact → Turn → Type 0
Ends P t = Rests P t.after

walk : (P : Fact) (a : AttemptState) (c : Call) → AreApart (numbers_of a.plan.attached) → Tells P a c → Walk c (AtRest P a) (Within P a) (Ends P)
unfolding asked_next installing
walk P a c attached tells = record {
  within = λ s i. (i.0, i.2);
  rests = λ s i. i.2;
  passes = λ s is e i. i.2;
  again = λ s is e i. i.2;
  silent = λ s n is late least i. i.2;
  superseded = λ s from m q is body i. i.2;
  promise = λ s from m p is awaited of promised i. (i.0, i.2);
  collects = λ s is e k. k.1;
  collecting = λ s is e k. k.1;
  no_newest = λ s is all none k. k.1;
  chosen = λ s newest is all some k. k.1;
  votes = λ s both_votes is i. (i.0, (tt, tt));
  foreign = λ s both_votes n is votes least k. k.1;
  excluded = λ s n is least k. k.1;
  impossible = λ s e is short k. k.1;
  entries = λ s is enough k. (k.0, (entries_read P s s.votes, votes_apart s s.votes (subst (λ (p : Plan). AreApart (numbers_of p.attached)) (sym k.0) attached)));
  requests = λ s is e k. k.1;
  result = λ s d from r e is told found none i. (
    i.0,
    (
      results_read P d from r e s.devices i.2.1 found
          (λ keys same. tells d from keys (i.1 (seizing_before s.phase is)) (tells_at c s a d from (Held keys) i.0 (subst (λ z. TellsResult c s d from z) same told))) i.2.0,
      results_apart d r s.devices i.2.1,
    ),
  );
  next = λ s d from n r e is told found next i. (nexts_read P d n s.devices i.2.0, nexts_apart d n s.devices i.2.1);
  seizing = λ s is e k. k.1;
  short = λ s e is all few k. k.1;
  others = λ s is all enough some k. (
    both (EntryRead P) s.devices (plain_devices s) k.1.0 (plains_read P s.plan s.devices s.plan.attached),
    plain_apart s (subst (λ (p : Plan). AreApart (numbers_of p.attached)) (sym k.0) attached) k.1.1,
  );
  installs_at_once = λ s is all enough none k. k.1;
  installs = λ s is all k. k.1;
  ready = λ s from m is at of body i. (i.0, i.2);
  own = λ s is at i. (i.0, i.2);
  installing = λ s at e k. k.1;
  starts = λ s at e k. k.1;
}

pub turn_reads : (P : Fact) (a : AttemptState) (c : Call) → AreApart (numbers_of a.plan.attached) → Tells P a c → Rests P a → Rests P (turn a c).after
turn_reads P a c attached tells k = walks (AtRest P a) (Within P a) (Ends P) a c (walk P a c attached tells) (refl, (λ b. b), k)

-- ---- an attempt begins

pub first_reads : (P : Fact) (p members : ℕ) (own : Message) (attached : List AttachedDevice) (cluster : ℕ) → AreApart (numbers_of attached)
    → Rests P (beginning p members own attached cluster).after
unfolding beginning
first_reads P p members own attached cluster apart =
    let s : AttemptState = first_state p members own attached cluster (promises_of (promised_by own (shown_by own.sender own.body))) in
    walks_begun Tick (AtRest P s) (Within P s) (Ends P) (walk P s Tick apart (λ d from keys before tells. absurd tells)) s refl (refl, (tt, tt))
