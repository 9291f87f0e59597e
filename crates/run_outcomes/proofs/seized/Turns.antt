-- Where the turn of an attempt goes that takes an answer: the answer is taken, where it is awaited.
use Rattle.std.specs.Prelude.{ℕ, zero, suc, ◌==◌, ◌≡◌, ◌≢◌, ◌≤◌, ◌⊎◌, ◌&&◌, ◌++◌, nat_le, Bool, true, false, length, Option, None, Some, find, map}
use Rattle.std.specs.List.{filter_map, list_any}
use Rattle.std.proofs.Common.{arith, refl, sym, ap, subst, ◌∙◌, inl, inr}
use Rattle.attempt_laws.proofs.Told.{is_among}
use Rattle.attempt_laws.proofs.Walk.{IsSeizing}
use Rattle.attempt_laws.specs.Asking.{AreApart, entry_of, numbers_of}
use Rattle.attempt_laws.specs.Machine.{is_member}
use Rattle.attempt_laws.specs.Staying.{IsBefore}
use Rattle.cl_base.proofs.SetLemmas.{has_not_zero}
use Rattle.cl_base.specs.Numbers.{numbers_to}
use Rattle.cl_base.specs.Seizings.{SeizeResult}
use Rattle.cl_base.specs.Sets.{has}
use Rattle.cmm_attempt.proofs.Basics.{false_true, if_either, same_number}
use Rattle.cmm_attempt.specs.Attempts.{AttemptState, answered_on, answering, answering_in, asked_next, counted_by, counting, in_phase, installing, next_asked, plain_devices, proceeding, seizing_others, settled, settled_in, shortage, waits, with_steps}
use Rattle.cmm_attempt.specs.Seizings.{awaits, all_settled, held_set, next_by, request_for, with_next, with_result}
use Rattle.cmm_attempt.specs.declared.phase.Phase.{Phase}
use Rattle.cmm_attempt.specs.declared.phase.Phase.TheVariants.{Choosing, Collecting, Installing, Over, SeizingOthers, SeizingVotes}
use Rattle.cmm_attempt.specs.declared.plan.Plan.{Plan}
use Rattle.cmm_attempt.specs.declared.seizing.Seizing.{Seizing}
use Rattle.cmm_attempt.specs.declared.step.AttemptEnd.{AttemptEnd}
use Rattle.run_outcomes.specs.tasks.Answers.{After, EntryBut, EntryHas, Has, HasBut, Heard, IsEarly}
use Rattle.run_devices.proofs.readings.Apart.{nexts_apart, plain_apart, results_apart}
use Rattle.run_outcomes.proofs.seized.Entries.{appended_has, next_aside, next_there, next_unasked, plains_new, result_aside, result_there, still_unasked}
use Rattle.run_outcomes.proofs.seized.Finding.{Awaited, awaited, is_awaited}

-- ---- where a turn goes

pub not_before : (s phase : Phase) → (IsBefore phase → ⊥) → s ≡ phase → IsBefore s → ⊥
not_before s phase none is before = none (subst IsBefore is before)

installing_after : (T : Heard) (s : AttemptState) → After T (installing s)
unfolding installing
installing_after T s = λ b. absurd b

-- the other devices
plain_has : (T : Heard) (s : AttemptState) → AreApart (numbers_of s.plan.attached) → Has T s → Has T (record (in_phase s SeizingOthers) { devices = s.devices ++ plain_devices s })
plain_has T s attached k = record {
  entries = λ d. appended_has T s.plan.coordinator d s.devices (plain_devices s) (plains_new s) (k.entries d);
  apart = plain_apart s attached k.apart;
  early = λ e. absurd e;
}

others_after : (T : Heard) (s : AttemptState) → AreApart (numbers_of s.plan.attached) → Has T s → After T (seizing_others s)
unfolding seizing_others
others_after T s attached k =
    if_either (After T) (length (plain_devices s) == 0) (installing s)
    (with_steps (record (in_phase s SeizingOthers) { devices = s.devices ++ plain_devices s }) (filter_map (request_for s.plan) (plain_devices s)))
    (installing_after T s) (λ b. plain_has T s attached k)

counted_after : (T : Heard) (s : AttemptState) (o : Option AttemptEnd) → AreApart (numbers_of s.plan.attached) → Has T s → After T (counted_by s o)
counted_after T s (Some e) attached k = λ b. absurd b
counted_after T s None attached k =
    others_after T (record s { counted = held_set s.devices }) attached (record { entries = k.entries; apart = k.apart; early = k.early })

pub counting_after : (T : Heard) (s : AttemptState) → AreApart (numbers_of s.plan.attached) → Has T s → After T (counting s)
unfolding counting
counting_after T s attached k = counted_after T s (shortage s (held_set s.devices)) attached k

settled_after : (T : Heard) (s : AttemptState) (phase : Phase) → AreApart (numbers_of s.plan.attached) → Has T s → After T (settled_in s phase)
settled_after T s SeizingVotes attached k = counting_after T s attached k
settled_after T s SeizingOthers attached k = installing_after T s
settled_after T s Collecting attached k = λ b. k
settled_after T s Choosing attached k = λ b. k
settled_after T s Installing attached k = λ b. k
settled_after T s Over attached k = λ b. k

proceeding_after : (T : Heard) (s : AttemptState) → AreApart (numbers_of s.plan.attached) → Has T s → After T (proceeding s)
unfolding proceeding
proceeding_after T s attached k = if_either (After T) (all_settled s.devices) (settled_in s s.phase) (waits s) (settled_after T s s.phase attached k) (λ b. k)

-- ---- an answer

but_has : (T : Heard) (d from : ℕ) (s : AttemptState) → (EntryBut T s.plan.coordinator d from (entry_of s.devices d) → EntryHas T s.plan.coordinator d (entry_of s.devices d)) → HasBut T d from s → Has T s
but_has T d from s f k = record { entries = λ x. by_device x (x == d) refl; apart = k.apart; early = k.early }
  where
    by_device : (x : ℕ) (b : Bool) → (x == d) ≡ b → EntryHas T s.plan.coordinator x (entry_of s.devices x)
    by_device x true is = subst (λ z. EntryHas T s.plan.coordinator z (entry_of s.devices z)) (sym (same_number x d is)) (f k.there)
    by_device x false other = k.others x (unlike x d other)
      where
        unlike : (a b : ℕ) → (a == b) ≡ false → a ≢ b
        unlike a b off is = grind arith

-- nothing was missing
none_missing : (T : Heard) (c d from : ℕ) (o : Option Seizing) → ((e : Seizing) → o ≡ Some e → e.seizer ≡ Some from → from ≢ c → e.result ≡ None → T d from ≡ None) → EntryBut T c d from o → EntryHas T c d o
none_missing T c d from None f k = k
none_missing T c d from (Some e) f k = λ m. ((λ seizer ne. by_case m seizer ne ((k m).0 seizer ne)), (k m).1)
  where
    by_case : (m : ℕ) → e.seizer ≡ Some m → m ≢ c → (T d m ≡ e.result) ⊎ ((m ≡ from) × (e.result ≡ None)) → T d m ≡ e.result
    by_case m seizer ne (inl is) = is
    by_case m seizer ne (inr two) =
        subst (λ z. T d z ≡ e.result) (sym two.0) (f e refl (subst (λ z. e.seizer ≡ Some z) two.0 seizer) (λ own. ne (two.0 ∙ own)) two.1 ∙ sym two.1)

waits_early : (T : Heard) (d from : ℕ) (s : AttemptState) → IsEarly s.phase → HasBut T d from s → Has T s
waits_early T d from s early k = but_has T d from s (none_missing T s.plan.coordinator d from (entry_of s.devices d) (λ e at seizer ne none. k.early early d from)) k

other_is : (x d : ℕ) → (x == d) ≡ false → x ≢ d
other_is x d off is = grind arith

ended_has : (T : Heard) (d from : ℕ) (r : SeizeResult) (s : AttemptState) (e : Seizing) → IsSeizing s.phase → Awaited d from s.devices e → (from ≢ s.plan.coordinator → T d from ≡ Some r) → HasBut T d from s
    → Has T (record s { devices = map (with_result d r) s.devices })
ended_has T d from r s e is at now k = record { entries = λ x. by_device x (x == d) refl; apart = results_apart d r s.devices k.apart; early = k.early }
  where
    by_device : (x : ℕ) (b : Bool) → (x == d) ≡ b → EntryHas T s.plan.coordinator x (entry_of (map (with_result d r) s.devices) x)
    by_device x true is =
        subst (λ z. EntryHas T s.plan.coordinator z (entry_of (map (with_result d r) s.devices) z)) (sym (same_number x d is)) (result_there T s.plan.coordinator d from r s.devices e at now k.there)
    by_device x false other = result_aside T s.plan.coordinator d r x s.devices (other_is x d other) (k.others x (other_is x d other))

within : (n : ℕ) (b : Bool) → (nat_le n 32 && b) ≡ true → (n ≤ 32) × (b ≡ true)
within n b h = grind arith

not_zero : (set n : ℕ) → has set n ≡ true → 1 ≤ n
not_zero set zero h = absurd (false_true (sym (has_not_zero set) ∙ h))
not_zero set (suc n) h = omega arith

member_in_range : (members n : ℕ) → is_member members n ≡ true → (1 ≤ n) × (n ≤ 32)
member_in_range members n h = (not_zero members n (within n (has members n) h).1, (within n (has members n) h).0)

in_range : (plan : Plan) (n : ℕ) → plan.nodes ≡ numbers_to plan.members 32 → list_any (λ m. m == n) plan.nodes ≡ true → (1 ≤ n) × (n ≤ 32)
in_range plan n nodes among = member_in_range plan.members n (sym (ap (λ ns. list_any (λ m. m == n) ns) nodes ∙ is_among plan.members 32 n) ∙ among)

next_has : (T : Heard) (d from n : ℕ) (s : AttemptState) (e : Seizing) → Awaited d from s.devices e → has e.asked n ≡ false → (1 ≤ n) × (n ≤ 32) → HasBut T d from s
    → Has T (record s { devices = map (with_next d n) s.devices; ticks = 0 })
next_has T d from n s e at unasked range k = record { entries = λ x. by_device x (x == d) refl; apart = nexts_apart d n s.devices k.apart; early = k.early }
  where
    by_device : (x : ℕ) (b : Bool) → (x == d) ≡ b → EntryHas T s.plan.coordinator x (entry_of (map (with_next d n) s.devices) x)
    by_device x true is =
        subst (λ z. EntryHas T s.plan.coordinator z (entry_of (map (with_next d n) s.devices) z)) (sym (same_number x d is))
        (next_there T s.plan.coordinator d from n s.devices e at unasked (λ m none. still_unasked e.asked n m range.0 range.1 none) k.there)
    by_device x false other = next_aside T s.plan.coordinator d n x s.devices (other_is x d other) (k.others x (other_is x d other))

settled_so : (T : Heard) (d : ℕ) (r : SeizeResult) (s : AttemptState) → AreApart (numbers_of s.plan.attached) → Has T (record s { devices = map (with_result d r) s.devices }) → After T (settled s d r)
unfolding settled
settled_so T d r s attached k = proceeding_after T (record s { devices = map (with_result d r) s.devices }) attached k

asked_so : (T : Heard) (d n : ℕ) (kind : _) (s : AttemptState) → Has T (record s { devices = map (with_next d n) s.devices; ticks = 0 }) → After T (asked_next s d kind n)
unfolding asked_next
asked_so T d n kind s k = λ b. k

answering_after : (T : Heard) (d from : ℕ) (r : SeizeResult) (s : AttemptState) → s.plan.nodes ≡ numbers_to s.plan.members 32 → AreApart (numbers_of s.plan.attached) → IsSeizing s.phase
    → (from ≢ s.plan.coordinator → T d from ≡ Some r) → HasBut T d from s → After T (answering s d from r)
unfolding answering
answering_after T d from r s nodes attached is now k = by_found (find (awaits d from) s.devices) refl
  where
    by_next : (e : Seizing) → Awaited d from s.devices e → (o : Option ℕ) → next_by s.plan.cluster s.promises s.plan.nodes e e.kind r ≡ o → After T (next_asked s d r e o)
    by_next e at None none = settled_so T d r s attached (ended_has T d from r s e is at now k)
    by_next e at (Some n) next =
        let two : (has e.asked n ≡ false) × (list_any (λ m. m == n) s.plan.nodes ≡ true) = next_unasked s.plan.cluster s.promises s.plan.nodes e e.kind r n next in
        asked_so T d n e.kind s (next_has T d from n s e at two.0 (in_range s.plan n nodes two.1) k)

    by_found : (o : Option Seizing) → find (awaits d from) s.devices ≡ o → After T (answered_on s d r o)
    by_found None none = λ b. but_has T d from s
        (none_missing T s.plan.coordinator d from (entry_of s.devices d) (λ e at seizer ne unended. absurd (is_awaited d from s.devices e at seizer unended none))) k
    by_found (Some e) found = by_next e (awaited d from s.devices e k.apart found) (next_by s.plan.cluster s.promises s.plan.nodes e e.kind r) refl

pub answered_in : (T : Heard) (d from : ℕ) (r : SeizeResult) (s : AttemptState) (phase : Phase) → s.phase ≡ phase → s.plan.nodes ≡ numbers_to s.plan.members 32 → AreApart (numbers_of s.plan.attached)
    → (from ≢ s.plan.coordinator → T d from ≡ Some r) → HasBut T d from s → After T (answering_in s d from r phase)
answered_in T d from r s SeizingVotes is nodes attached now k = answering_after T d from r s nodes attached (inl is) now k
answered_in T d from r s SeizingOthers is nodes attached now k = answering_after T d from r s nodes attached (inr is) now k
answered_in T d from r s Collecting is nodes attached now k = λ b. waits_early T d from s (subst IsEarly (sym is) tt) k
answered_in T d from r s Choosing is nodes attached now k = λ b. waits_early T d from s (subst IsEarly (sym is) tt) k
answered_in T d from r s Installing is nodes attached now k = λ b. absurd (not_before s.phase Installing (λ z. z) is b)
answered_in T d from r s Over is nodes attached now k = λ b. absurd (not_before s.phase Over (λ z. z) is b)

pub in_phase_after : (T : Heard) (d from : ℕ) (r : SeizeResult) (s : AttemptState) → s.plan.nodes ≡ numbers_to s.plan.members 32 → AreApart (numbers_of s.plan.attached)
    → (from ≢ s.plan.coordinator → T d from ≡ Some r) → (IsBefore s.phase → HasBut T d from s) → After T (answering_in s d from r s.phase)
in_phase_after T d from r s nodes attached now k = by_phase s.phase refl
  where
    here : (p : Phase) → s.phase ≡ p → IsBefore p → After T (answering_in s d from r p)
    here p is before = answered_in T d from r s p is nodes attached now (k (subst IsBefore (sym is) before))

    by_phase : (p : Phase) → s.phase ≡ p → After T (answering_in s d from r p)
    by_phase SeizingVotes is = here SeizingVotes is tt
    by_phase SeizingOthers is = here SeizingOthers is tt
    by_phase Collecting is = here Collecting is tt
    by_phase Choosing is = here Choosing is tt
    by_phase Installing is = λ b. absurd (not_before s.phase Installing (λ z. z) is b)
    by_phase Over is = λ b. absurd (not_before s.phase Over (λ z. z) is b)
