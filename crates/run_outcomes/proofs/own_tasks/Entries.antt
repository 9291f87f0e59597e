-- New entries, and what an answer makes of entries. The first member is the coordinator: it is asked first where it may seize the device, and never next.
use Rattle.std.specs.Prelude.{ℕ, ◌≡◌, ◌==◌, ◌&&◌, ◌||◌, ◌≤◌, nat_le, zero, suc, Bool, true, false, List, [], ◌∷◌, Option, None, Some, slice_get, if◌then◌else◌}
use Rattle.std.specs.List.{AllByRecursion, cons_option, filter_map, find, list_any}
use Rattle.std.proofs.Common.{arith, refl, sym, ap, subst, ◌∙◌, inl, inr}
use Rattle.attempt_laws.proofs.Asks.{found_among}
use Rattle.attempt_laws.proofs.Told.{is_among}
use Rattle.cl_base.proofs.SetLemmas.{has_not_zero, has_with, none_of_zero, or_bit_value}
use Rattle.cl_base.specs.Numbers.{numbers_to}
use Rattle.cl_base.specs.Sets.{has, set_with}
use Rattle.cmm_attempt.proofs.Basics.{false_true, none_some, same_number, same_some}
use Rattle.cmm_attempt.specs.Attempts.{AttemptState, plain_devices, vote_entries_under}
use Rattle.cmm_attempt.specs.Counts.{is_quorum, vote_new}
use Rattle.cmm_attempt.specs.Plans.{is_reachable}
use Rattle.cmm_attempt.specs.Seizings.{first_seizer, is_asked, is_seized, may_seize, plain_entry, plain_new, vote_entry}
use Rattle.cmm_attempt.specs.declared.attached.AttachedDevice.{AttachedDevice}
use Rattle.cmm_attempt.specs.declared.counting.BothVotes.{BothVotes}
use Rattle.cmm_attempt.specs.declared.plan.Plan.{Plan}
use Rattle.cmm_attempt.specs.declared.promised.Promised.{Promised}
use Rattle.cmm_attempt.specs.declared.seizing.Seizing.{Seizing}
use Rattle.seize.specs.declared.kind.SeizeKind.{SeizeKind}
use Rattle.seize.specs.declared.kind.SeizeKind.TheVariants.{Plain, Vote}
use Rattle.run_outcomes.specs.tasks.Own.{IsFirstOf}
use Rattle.run_outcomes.proofs.own_tasks.Matching.{itself, not_both}
use Rattle.run_outcomes.proofs.own_tasks.Requests.{IsFresh}

-- ---- sets

within : (n : ℕ) (b : Bool) → (nat_le n 32 && b) ≡ true → (n ≤ 32) × (b ≡ true)
within n b h = grind arith

not_zero : (set n : ℕ) → has set n ≡ true → 1 ≤ n
not_zero set zero h = absurd (false_true (sym (has_not_zero set) ∙ h))
not_zero set (suc n) h = omega arith

-- a member that is found has a number of a node
pub found_node : (plan : Plan) (p : ℕ → Bool) (n : ℕ) → plan.nodes ≡ numbers_to plan.members 32 → find p plan.nodes ≡ Some n → (1 ≤ n) × (n ≤ 32)
found_node plan p n nodes is =
    let two : (n ≤ 32) × (has plan.members n ≡ true) = within n (has plan.members n) (sym (is_among plan.members 32 n) ∙ (sym (ap (λ ns. list_any (λ m. m == n) ns) nodes) ∙ (found_among p plan.nodes n is).1)) in
    (not_zero plan.members n two.1, two.0)

has_more : (set n m : ℕ) → 1 ≤ n → n ≤ 32 → has (set_with set n) m ≡ ((m == n) || has set m)
has_more set n m low high = ap (λ s. has s m) (sym (or_bit_value set n high)) ∙ has_with set n low high m

pub has_other : (set n m : ℕ) → 1 ≤ n → n ≤ 32 → (n == m) ≡ false → has (set_with set n) m ≡ has set m
has_other set n m low high other = has_more set n m low high ∙ ap (λ b. b || has set m) (turned n m other)
  where
    turned : (a b : ℕ) → (a == b) ≡ false → (b == a) ≡ false
    turned a b h = grind arith

has_first : (set n : ℕ) → 1 ≤ n → n ≤ 32 → has (set_with set n) n ≡ true
has_first set n low high = has_more set n n low high ∙ ap (λ b. b || has set n) (itself n)

pub has_still : (set n m : ℕ) → 1 ≤ n → n ≤ 32 → has set m ≡ true → has (set_with set n) m ≡ true
has_still set n m low high h = has_more set n m low high ∙ or_second (m == n) (has set m) h
  where
    or_second : (a b : Bool) → b ≡ true → (a || b) ≡ true
    or_second true b k = refl
    or_second false b k = k

-- ---- the first member

-- where another is found, or none, the first does not pass the test
first_fails : (p : ℕ → Bool) (ns : List ℕ) (c : ℕ) (o : Option ℕ) → slice_get ns 0 ≡ Some c → find p ns ≡ o → is_asked o c ≡ false → p c ≡ false
first_fails p [] c o first is other = absurd (never c first)
  where
    never : (c : ℕ) → slice_get [] 0 ≡ Some c → ⊥
    never c h = cc
first_fails p (m ∷ ns) c o first is other = subst (λ k. p k ≡ false) (same_some m c first) (by_test (p m) is)
  where
    by_test : (b : Bool) → (if b then Some m else find p ns) ≡ o → b ≡ false
    by_test true k = absurd (not_both (is_asked o c) (ap (λ z. is_asked z c) (sym k) ∙ (ap (λ j. j == c) (same_some m c first) ∙ itself c)) other)
    by_test false k = refl

fresh_by : (plan : Plan) (promises : List Promised) (a : AttachedDevice) (kind : SeizeKind) (p : ℕ → Bool) (n : ℕ) → IsFirstOf plan → find p plan.nodes ≡ Some n
    → (kind ≡ Vote → (n == plan.coordinator) ≡ false → may_seize promises a plan.coordinator ≡ false)
    → IsFresh plan.coordinator promises (record { attached = a; kind = kind; seizer = Some n; asked = set_with 0 n; result = None })
fresh_by plan promises a kind p n ok is never = by_test (n == plan.coordinator) refl
  where
    e : Seizing
    e = record { attached = a; kind = kind; seizer = Some n; asked = set_with 0 n; result = None }

    range : (1 ≤ n) × (n ≤ 32)
    range = found_node plan p n ok.nodes is

    by_test : (b : Bool) → (n == plan.coordinator) ≡ b → IsFresh plan.coordinator promises e
    by_test true same = inl (record {
      asked = subst (λ k. has (set_with 0 n) k ≡ true) (same_number n plan.coordinator same) (has_first 0 n range.0 range.1);
      seizer = ap Some (same_number n plan.coordinator same);
      awaited = refl;
    })
    by_test false other = inr (record {
      unasked = has_other 0 n plan.coordinator range.0 range.1 other ∙ none_of_zero plan.coordinator;
      seizer = other;
      never = λ vote. never vote other;
    })

vote_fresh : (plan : Plan) (promises : List Promised) (a : AttachedDevice) (o : Option ℕ) → IsFirstOf plan → first_seizer plan promises a ≡ o → IsFresh plan.coordinator promises (vote_entry a o)
vote_fresh plan promises a None ok is =
    inr (record { unasked = none_of_zero plan.coordinator; seizer = refl; never = λ vote. first_fails (may_seize promises a) plan.nodes plan.coordinator None ok.first is refl })
vote_fresh plan promises a (Some n) ok is =
    fresh_by plan promises a Vote (may_seize promises a) n ok is (λ vote other. first_fails (may_seize promises a) plan.nodes plan.coordinator (Some n) ok.first is other)

vote_new_fresh : (plan : Plan) (promises : List Promised) (both : BothVotes) (a : AttachedDevice) (e : Seizing) → IsFirstOf plan → vote_new plan promises both a ≡ Some e → IsFresh plan.coordinator promises e
vote_new_fresh plan promises both a e ok is = by_test (is_quorum both a.device && is_reachable plan a) is
  where
    by_test : (b : Bool) → (if b then Some (vote_entry a (first_seizer plan promises a)) else None) ≡ Some e → IsFresh plan.coordinator promises e
    by_test true k = subst (IsFresh plan.coordinator promises) (same_some (vote_entry a (first_seizer plan promises a)) e k) (vote_fresh plan promises a (first_seizer plan promises a) ok refl)
    by_test false k = absurd (none_some e k)

plain_fresh : (plan : Plan) (promises : List Promised) (a : AttachedDevice) (o : Option ℕ) (e : Seizing) → IsFirstOf plan → find (λ n. has a.nodes n) plan.nodes ≡ o → plain_entry a o ≡ Some e
    → IsFresh plan.coordinator promises e
plain_fresh plan promises a None e ok is h = absurd (none_some e h)
plain_fresh plan promises a (Some n) e ok is h =
    subst (IsFresh plan.coordinator promises) (same_some _ e h) (fresh_by plan promises a Plain (λ m. has a.nodes m) n ok is (λ vote other. absurd (no_vote vote)))
  where
    no_vote : Plain ≡ Vote → ⊥
    no_vote k = cc

plain_new_fresh : (plan : Plan) (promises : List Promised) (devices : List Seizing) (a : AttachedDevice) (e : Seizing) → IsFirstOf plan → plain_new plan devices a ≡ Some e
    → IsFresh plan.coordinator promises e
plain_new_fresh plan promises devices a e ok is = by_test (is_seized devices a.device) is
  where
    by_test : (b : Bool) → (if b then None else plain_entry a (find (λ n. has a.nodes n) plan.nodes)) ≡ Some e → IsFresh plan.coordinator promises e
    by_test true k = absurd (none_some e k)
    by_test false k = plain_fresh plan promises a (find (λ n. has a.nodes n) plan.nodes) e ok refl k

all_new : (f : AttachedDevice → Option Seizing) (Q : Seizing → Type 0) → ((a : AttachedDevice) (e : Seizing) → f a ≡ Some e → Q e) → (xs : List AttachedDevice) → AllByRecursion Q (filter_map f xs)
all_new f Q made [] = tt
all_new f Q made (a ∷ xs) = by_option (f a) refl (all_new f Q made xs)
  where
    by_option : (o : Option Seizing) → f a ≡ o → AllByRecursion Q (filter_map f xs) → AllByRecursion Q (cons_option o (filter_map f xs))
    by_option None is rest = rest
    by_option (Some e) is rest = (made a e is, rest)

pub votes_fresh : (s : AttemptState) (o : Option BothVotes) → IsFirstOf s.plan → AllByRecursion (IsFresh s.plan.coordinator s.promises) (vote_entries_under s o)
votes_fresh s None ok = tt
votes_fresh s (Some both) ok = all_new (vote_new s.plan s.promises both) (IsFresh s.plan.coordinator s.promises) (λ a e is. vote_new_fresh s.plan s.promises both a e ok is) s.plan.attached

pub plains_fresh : (s : AttemptState) → IsFirstOf s.plan → AllByRecursion (IsFresh s.plan.coordinator s.promises) (plain_devices s)
plains_fresh s ok = all_new (plain_new s.plan s.devices) (IsFresh s.plan.coordinator s.promises) (λ a e is. plain_new_fresh s.plan s.promises s.devices a e ok is) s.plan.attached
