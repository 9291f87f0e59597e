-- What becomes of the members that were asked for a device, as its entry has them: a new entry, a result, the next member.
use Rattle.std.specs.Prelude.{ℕ, zero, suc, ◌==◌, ◌&&◌, ◌||◌, ◌≡◌, ◌≤◌, nat_le, not, Bool, true, false, List, [], ◌∷◌, Option, None, Some, is_none, if◌then◌else◌}
use Rattle.std.specs.List.{find, list_any}
use Rattle.std.proofs.Common.{arith, refl, sym, ap, subst, ◌∙◌}
use Rattle.attempt_laws.proofs.Asks.{found_among}
use Rattle.attempt_laws.proofs.Told.{is_among}
use Rattle.cl_base.proofs.SetLemmas.{has_not_zero, has_with, none_of_zero, or_bit_value}
use Rattle.cl_base.specs.Keys.{key_of}
use Rattle.cl_base.specs.Numbers.{numbers_to}
use Rattle.cl_base.specs.Seizings.{SeizeResult}
use Rattle.cl_base.specs.Sets.{has, set_with}
use Rattle.cl_base.specs.declared.seizing.SeizeEnd.TheVariants.{Contended, Expelled, Fault, Greater, Held, NotRegistered}
use Rattle.cmm_attempt.proofs.Basics.{false_true, none_some, same_number, same_some}
use Rattle.cmm_attempt.specs.Promises.{holds_valid}
use Rattle.cmm_attempt.specs.Seizings.{first_seizer, may_follow, may_seize, next_by, vote_entry}
use Rattle.cmm_attempt.specs.declared.attached.AttachedDevice.{AttachedDevice}
use Rattle.cmm_attempt.specs.declared.plan.Plan.{Plan}
use Rattle.cmm_attempt.specs.declared.promised.Promised.{Promised}
use Rattle.cmm_attempt.specs.declared.seizing.Seizing.{Seizing}
use Rattle.seize.specs.declared.kind.SeizeKind.{SeizeKind}
use Rattle.seize.specs.declared.kind.SeizeKind.TheVariants.{Plain, Vote}
use Rattle.run_outcomes.specs.tasks.Laws.{but, is_vote}
use Rattle.run_outcomes.specs.tasks.Asks.{IsFirst, IsTold, first_in, has_for, last_for, one_more, wants_by, wants_in}

-- ---- sets

pub with_one : (set n m : ℕ) → 1 ≤ n → n ≤ 32 → has (set_with set n) m ≡ ((m == n) || has set m)
with_one set n m low high = ap (λ s. has s m) (sym (or_bit_value set n high)) ∙ has_with set n low high m

in_range : (n : ℕ) (b : Bool) → (nat_le n 32 && b) ≡ true → (n ≤ 32) × (b ≡ true)
in_range n b h = grind arith

not_zero : (set n : ℕ) → has set n ≡ true → 1 ≤ n
not_zero set zero h = absurd (false_true (sym (has_not_zero set) ∙ h))
not_zero set (suc n) h = omega arith

-- a member that is found is a node
pub found_node : (plan : Plan) (p : ℕ → Bool) (n : ℕ) → plan.nodes ≡ numbers_to plan.members 32 → find p plan.nodes ≡ Some n → (1 ≤ n) × (n ≤ 32)
found_node plan p n nodes h =
    let both : (n ≤ 32) × (has plan.members n ≡ true) = in_range n (has plan.members n) (sym (ap (λ ns. list_any (λ m. m == n) ns) nodes ∙ is_among plan.members 32 n) ∙ (found_among p plan.nodes n h).1) in
    (not_zero plan.members n both.1, both.0)

-- ---- a new entry

none_asked : (asked : List ℕ) → first_in asked ≡ None → asked ≡ []
none_asked [] h = refl
none_asked (m ∷ asked) h = absurd (none_some m (sym h))

nobody : (a : Bool) → false ≡ (a && false)
nobody true = refl
nobody false = refl

itself : (n : ℕ) → (n == n) ≡ true
itself n = grind arith

not_own : (n m c : ℕ) (z : Bool) → (n == c) ≡ true → z ≡ false → false ≡ (not (m == c) && ((m == n) || z))
not_own n m c z is none = grind arith

but_one : (n m c : ℕ) (z : Bool) → (n == c) ≡ false → z ≡ false → ((n == m) || false) ≡ (not (m == c) && ((m == n) || z))
but_one n m c z is none = grind arith

first_own : (n m : ℕ) (z : Bool) → (n == m) ≡ true → ((m == n) || z) ≡ true
first_own n m z is = grind arith

pub vote_told : (plan : Plan) (promises : List Promised) (a : AttachedDevice) (o : Option ℕ) → IsFirst plan → plan.nodes ≡ numbers_to plan.members 32 → first_seizer plan promises a ≡ o
    → IsTold promises plan.coordinator (Some (vote_entry a o)) (one_more (wants_in plan.coordinator (Some (vote_entry a o))) [])
vote_told plan promises a None first nodes is = record {
  last = refl;
  each = λ m. nobody (not (m == plan.coordinator)) ∙ ap (λ b. not (m == plan.coordinator) && b) (sym (none_of_zero m));
  own = λ vote may. absurd (none_some plan.coordinator (sym is ∙ first (may_seize promises a) may));
}
vote_told plan promises a (Some n) first nodes is = by_test (n == plan.coordinator) refl
  where
    c : ℕ
    c = plan.coordinator

    range : (1 ≤ n) × (n ≤ 32)
    range = found_node plan (may_seize promises a) n nodes is

    with_it : (m : ℕ) → has (set_with 0 n) m ≡ ((m == n) || has 0 m)
    with_it m = with_one 0 n m range.0 range.1

    own_so : may_seize promises a c ≡ true → has (set_with 0 n) c ≡ true
    own_so may = subst (λ k. has (set_with 0 n) k ≡ true) (same_some n c (sym is ∙ first (may_seize promises a) may)) (with_it n ∙ first_own n n (has 0 n) (itself n))

    by_test : (b : Bool) → (n == c) ≡ b → IsTold promises c (Some (vote_entry a (Some n))) (one_more (if b then None else Some n) [])
    by_test true is_own = record {
      last = ap (λ b. if b then None else Some n) (sym is_own);
      each = λ m. not_own n m c (has 0 m) is_own (none_of_zero m) ∙ ap (λ b. not (m == c) && b) (sym (with_it m));
      own = λ vote may. own_so may;
    }
    by_test false other = record {
      last = ap (λ b. if b then None else Some n) (sym other);
      each = λ m. but_one n m c (has 0 m) other (none_of_zero m) ∙ ap (λ b. not (m == c) && b) (sym (with_it m));
      own = λ vote may. own_so may;
    }

pub fresh_told : (plan : Plan) (promises : List Promised) (a : AttachedDevice) (o : Option ℕ) (asked : List ℕ) → IsFirst plan → plan.nodes ≡ numbers_to plan.members 32 → first_seizer plan promises a ≡ o
    → IsTold promises plan.coordinator None asked → IsTold promises plan.coordinator (Some (vote_entry a o)) (one_more (wants_in plan.coordinator (Some (vote_entry a o))) asked)
fresh_told plan promises a o asked first nodes is h =
    subst (λ xs. IsTold promises plan.coordinator (Some (vote_entry a o)) (one_more (wants_in plan.coordinator (Some (vote_entry a o))) xs)) (sym (none_asked asked h.last)) (vote_told plan promises a o first nodes is)

plain_last : (c : ℕ) (kind : SeizeKind) (o : Option ℕ) → kind ≡ Plain → None ≡ (if is_vote kind then but c o else None)
plain_last c kind o is = ap (λ k. if is_vote k then but c o else None) (sym is)

plain_each : (kind : SeizeKind) (a b : Bool) → kind ≡ Plain → false ≡ (is_vote kind && a && b)
plain_each kind a b is = ap (λ k. is_vote k && a && b) (sym is)

-- a device that is seized as plain data
pub plain_told : (promises : List Promised) (c : ℕ) (e : Seizing) (asked : List ℕ) → e.kind ≡ Plain → IsTold promises c None asked → IsTold promises c (Some e) asked
plain_told promises c e asked is h = record {
  last = h.last ∙ plain_last c e.kind e.seizer is;
  each = λ m. h.each m ∙ plain_each e.kind (not (m == c)) (has e.asked m) is;
  own = λ vote may. absurd (false_true (sym (ap is_vote is) ∙ vote));
}

-- ---- a result

pub result_told : (promises : List Promised) (c : ℕ) (e : Seizing) (r : SeizeResult) (b : Bool) (asked : List ℕ) → IsTold promises c (Some e) asked → IsTold promises c (Some (if b then record e { result = Some r } else e)) asked
result_told promises c e r true asked h = record { last = h.last; each = h.each; own = h.own }
result_told promises c e r false asked h = h

-- ---- asked again

once_more : (m c : ℕ) (promises : List Promised) (e : Seizing) (asked : List ℕ) → IsTold promises c (Some e) asked → last_for c (Some e) ≡ Some m → IsTold promises c (Some e) (m ∷ asked)
once_more m c promises e asked h is = record { last = sym is; each = λ k. one k asked (h.last ∙ is) (h.each k); own = h.own }
  where
    one : (k : ℕ) (asked : List ℕ) → first_in asked ≡ Some m → list_any (λ j. j == k) asked ≡ has_for c k (Some e) → ((m == k) || list_any (λ j. j == k) asked) ≡ has_for c k (Some e)
    one k [] at is = absurd (none_some m at)
    one k (x ∷ asked) at is = twice (m == k) (x == k) (list_any (λ j. j == k) asked) (ap (λ j. j == k) (sym (same_some x m at))) ∙ is
      where
        twice : (a b rest : Bool) → a ≡ b → (a || (b || rest)) ≡ (b || rest)
        twice true true rest is = refl
        twice true false rest is = absurd (false_true (sym is))
        twice false b rest is = refl

same_wants : (c : ℕ) (kind : SeizeKind) (r : Option SeizeResult) (o : Option ℕ) (m : ℕ) → wants_by c kind r o ≡ Some m → (if is_vote kind then but c o else None) ≡ Some m
same_wants c Vote None o m is = is
same_wants c Vote (Some r) o m is = absurd (none_some m is)
same_wants c Plain r o m is = absurd (none_some m is)

pub again_told : (promises : List Promised) (c : ℕ) (o : Option Seizing) (asked : List ℕ) → IsTold promises c o asked → IsTold promises c o (one_more (wants_in c o) asked)
again_told promises c None asked h = h
again_told promises c (Some e) asked h = by_wish (wants_in c (Some e)) refl
  where
    by_wish : (o : Option ℕ) → wants_in c (Some e) ≡ o → IsTold promises c (Some e) (one_more o asked)
    by_wish None is = h
    by_wish (Some m) is = once_more m c promises e asked h (same_wants c e.kind e.result e.seizer m is)

settled_kind : (c : ℕ) (kind : SeizeKind) (r : Option SeizeResult) (o : Option ℕ) → is_none r ≡ false → wants_by c kind r o ≡ None
settled_kind c Vote None o is = absurd (false_true (sym is))
settled_kind c Vote (Some r) o is = refl
settled_kind c Plain r o is = refl

-- nobody is asked where the seizing is over
pub settled_wants : (c : ℕ) (e : Seizing) → is_none e.result ≡ false → wants_in c (Some e) ≡ None
settled_wants c e is = settled_kind c e.kind e.result e.seizer is

-- ---- the next member

next_last : (c n : ℕ) (v : Bool) → v ≡ true → (n == c) ≡ false → Some n ≡ (if v then (if n == c then None else Some n) else None)
next_last c n v is other = ap (λ b. if b then None else Some n) (sym other) ∙ ap (λ b. if b then (if n == c then None else Some n) else None) (sym is)

next_each : (c n m : ℕ) (v z l : Bool) → v ≡ true → (n == c) ≡ false → l ≡ (v && not (m == c) && z) → ((n == m) || l) ≡ (v && not (m == c) && ((m == n) || z))
next_each c n m v z l is other h = grind arith

or_second : (a b : Bool) → b ≡ true → (a || b) ≡ true
or_second true b h = refl
or_second false b h = h

pub next_told : (promises : List Promised) (c n : ℕ) (e : Seizing) (asked : List ℕ) → is_vote e.kind ≡ true → 1 ≤ n → n ≤ 32 → (n == c) ≡ false → IsTold promises c (Some e) asked
    → IsTold promises c (Some (record e { seizer = Some n; asked = set_with e.asked n })) (n ∷ asked)
next_told promises c n e asked vote low high other h = record {
  last = next_last c n (is_vote e.kind) vote other;
  each = λ m. next_each c n m (is_vote e.kind) (has e.asked m) (list_any (λ k. k == m) asked) vote other (h.each m) ∙ ap (λ b. is_vote e.kind && not (m == c) && b) (sym (with_one e.asked n m low high));
  own = λ is may. with_one e.asked n c low high ∙ or_second (c == n) (has e.asked c) (h.own is may);
}

-- who is asked next may seize the device, and was not asked
pub record IsNext (promises : List Promised) (e : Seizing) (kind : SeizeKind) (n : ℕ) : Type 0 where
  pub vote : is_vote kind ≡ true
  pub may : may_seize promises e.attached n ≡ true
  pub unasked : has e.asked n ≡ false
  pub low : 1 ≤ n
  pub high : n ≤ 32

parts : (a b c e : Bool) → (a && b && not c && e) ≡ true → ((a && b) ≡ true) × (c ≡ false)
parts true true false e h = (refl, refl)
parts true true true e h = absurd (false_true h)
parts true false c e h = absurd (false_true h)
parts false b c e h = absurd (false_true h)

pub next_of : (cluster : ℕ) (promises : List Promised) (plan : Plan) (e : Seizing) (kind : SeizeKind) (r : SeizeResult) (n : ℕ) → plan.nodes ≡ numbers_to plan.members 32
    → next_by cluster promises plan.nodes e kind r ≡ Some n → IsNext promises e kind n
next_of cluster promises plan e Vote (NotRegistered keys) n nodes h =
    let range : (1 ≤ n) × (n ≤ 32) = found_node plan (may_follow cluster promises e keys) n nodes h in
    let two : ((has e.attached.nodes n && holds_valid promises e.attached.device n) ≡ true) × (has e.asked n ≡ false) =
    parts (has e.attached.nodes n) (holds_valid promises e.attached.device n) (has e.asked n) (list_any (λ key. key == key_of cluster n) keys) (found_among (may_follow cluster promises e keys) plan.nodes n h).0 in
    record { vote = refl; may = two.0; unasked = two.1; low = range.0; high = range.1 }
next_of cluster promises plan e Vote (Held keys) n nodes h = absurd (none_some n h)
next_of cluster promises plan e Vote (Greater word) n nodes h = absurd (none_some n h)
next_of cluster promises plan e Vote Expelled n nodes h = absurd (none_some n h)
next_of cluster promises plan e Vote (Contended key) n nodes h = absurd (none_some n h)
next_of cluster promises plan e Vote Fault n nodes h = absurd (none_some n h)
next_of cluster promises plan e Plain r n nodes h = absurd (none_some n h)

-- so it is another than the coordinator
pub next_other : (promises : List Promised) (c n : ℕ) (e : Seizing) (asked : List ℕ) → IsNext promises e e.kind n → IsTold promises c (Some e) asked → (n == c) ≡ false
next_other promises c n e asked next h = by_test (n == c) refl
  where
    by_test : (b : Bool) → (n == c) ≡ b → b ≡ false
    by_test true is =
        let same : n ≡ c = same_number n c is in
        absurd (false_true (sym (subst (λ k. has e.asked k ≡ false) same next.unasked) ∙ h.own next.vote (subst (λ k. may_seize promises e.attached k ≡ true) same next.may)))
    by_test false is = refl
