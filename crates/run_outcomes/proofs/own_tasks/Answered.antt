-- What an answer makes of the entries: the own tasks still match them.
use Rattle.std.specs.Prelude.{ℕ, ◌≡◌, ◌⊎◌, ◌==◌, ◌&&◌, ◌||◌, ◌≤◌, not, Bool, true, false, List, [], ◌∷◌, map, Option, None, Some, is_none, if◌then◌else◌}
use Rattle.std.specs.List.{AllByRecursion, find, list_any}
use Rattle.std.proofs.Common.{refl, sym, ap, subst, ◌∙◌, inl, inr}
use Rattle.attempt_laws.specs.Asking.{AreApart, entry_numbers}
use Rattle.cl_base.specs.Seizings.{SeizeResult}
use Rattle.cl_base.specs.Sets.{has, set_with}
use Rattle.cl_base.specs.declared.seizing.SeizeEnd.TheVariants.{NotRegistered}
use Rattle.cmm_attempt.proofs.Basics.{and_cases, false_true, if_either, none_some, same_number, same_some}
use Rattle.cmm_attempt.specs.Promises.{holds_valid}
use Rattle.cmm_attempt.specs.Seizings.{awaits, is_asked, may_follow, may_seize, next_by, with_next, with_result}
use Rattle.cmm_attempt.specs.declared.promised.Promised.{Promised}
use Rattle.cmm_attempt.specs.declared.seizing.Seizing.{Seizing}
use Rattle.device_queue.specs.declared.task.Task.{Task}
use Rattle.seize.specs.declared.kind.SeizeKind.{SeizeKind}
use Rattle.seize.specs.declared.kind.SeizeKind.TheVariants.{Vote}
use Rattle.run_outcomes.specs.tasks.Laws.{IsUnregistered}
use Rattle.run_outcomes.specs.tasks.Own.{IsOthers, IsOwn, IsOwnBut, Match}
use Rattle.run_outcomes.proofs.own_tasks.Matching.{else_so, entry_so, match_map, not_both, of_test, so_else, so_then}
use Rattle.run_outcomes.proofs.own_tasks.Moving.{each_lacks}
use Rattle.run_outcomes.proofs.own_tasks.Entries.{has_other, has_still}

-- ---- an entry whose answer is awaited from another node

or_false : (a b : Bool) → (a || b) ≡ false → (a ≡ false) × (b ≡ false)
or_false true b k = absurd (false_true (sym k))
or_false false b k = (refl, k)

found_listed : (d : ℕ) (p : Seizing → Bool) → ((e : Seizing) → p e ≡ true → (e.attached.device == d) ≡ true) → (es : List Seizing) (e : Seizing) → find p es ≡ Some e
    → list_any (λ x. x == d) (entry_numbers es) ≡ false → ⊥
found_listed d p of [] e is lacks = none_some e is
found_listed d p of (x ∷ es) e is lacks = by_test (λ k. found_listed d p of es e k two.1) (p x) refl is
  where
    two : ((x.attached.device == d) ≡ false) × (list_any (λ y. y == d) (entry_numbers es) ≡ false)
    two = or_false (x.attached.device == d) _ lacks

    by_test : (find p es ≡ Some e → ⊥) → (b : Bool) → p x ≡ b → (if b then Some x else find p es) ≡ Some e → ⊥
    by_test rest true at k = not_both (x.attached.device == d) (of x at) two.0
    by_test rest false at k = rest k

awaited_device : (d from : ℕ) (e : Seizing) → awaits d from e ≡ true → (e.attached.device == d) ≡ true
awaited_device d from e h = (and_cases (e.attached.device == d) _ (and_cases _ (is_asked e.seizer from) h).0).0

awaited_seizer : (d from : ℕ) (e : Seizing) → awaits d from e ≡ true → is_asked e.seizer from ≡ true
awaited_seizer d from e h = (and_cases _ (is_asked e.seizer from) h).1

asked_other : (o : Option ℕ) (from c : ℕ) → is_asked o from ≡ true → (from == c) ≡ false → is_asked o c ≡ false
asked_other None from c h other = refl
asked_other (Some n) from c h other = ap (λ k. k == c) (same_number n from h) ∙ other

-- so no entry of the device is the coordinator's to answer
abbrev pub IsNotOwn : ℕ → ℕ → Seizing → Type 0
IsNotOwn c d x = ((x.attached.device == d) && is_none x.result) ≡ true → is_asked x.seizer c ≡ false

pub not_own : (c d from : ℕ) (es : List Seizing) (e : Seizing) → AreApart (entry_numbers es) → find (awaits d from) es ≡ Some e → (from == c) ≡ false → AllByRecursion (IsNotOwn c d) es
not_own c d from [] e apart is other = tt
not_own c d from (x ∷ es) e apart is other = by_test (λ k. not_own c d from es e apart.1 k other) (awaits d from x) refl is
  where
    lacks : (x.attached.device == d) ≡ true → list_any (λ y. y == d) (entry_numbers es) ≡ false
    lacks same = subst (λ j. list_any (λ y. y == j) (entry_numbers es) ≡ false) (same_number x.attached.device d same) apart.0

    never : (ys : List Seizing) → AllByRecursion (λ (y : Seizing). (y.attached.device == d) ≡ false) ys → AllByRecursion (IsNotOwn c d) ys
    never [] all = tt
    never (y ∷ ys) all = ((λ h. absurd (not_both (y.attached.device == d) (and_cases (y.attached.device == d) (is_none y.result) h).0 all.0)), never ys all.1)

    by_test : (find (awaits d from) es ≡ Some e → AllByRecursion (IsNotOwn c d) es) → (b : Bool) → awaits d from x ≡ b → (if b then Some x else find (awaits d from) es) ≡ Some e
        → AllByRecursion (IsNotOwn c d) (x ∷ es)
    by_test rest true at k = ((λ h. asked_other x.seizer from c (awaited_seizer d from x at) other), never es (each_lacks es d (lacks (awaited_device d from x at))))
    by_test rest false at k =
        ((λ h. absurd (found_listed d (awaits d from) (λ y z. awaited_device d from y z) es e k (lacks (and_cases (x.attached.device == d) (is_none x.result) h).0))), rest k)

-- ---- its seizing ends

others_result : (c d : ℕ) (promises : List Promised) (r : SeizeResult) (e : Seizing) → IsOthers c promises e → IsOthers c promises (with_result d r e)
others_result c d promises r e h =
    if_either (IsOthers c promises) ((e.attached.device == d) && is_none e.result) (record e { result = Some r }) e (record { unasked = h.unasked; seizer = h.seizer; never = h.never }) h

own_result_kept : (c d : ℕ) (r : SeizeResult) (e : Seizing) (t : Task) → IsNotOwn c d e → IsOwn c e t → IsOwn c (with_result d r e) t
own_result_kept c d r e t other h =
    of_test (λ x. IsOwn c x t) ((e.attached.device == d) && is_none e.result) (record e { result = Some r }) e
    (λ at. record { device = h.device; asked = h.asked; work = h.work; result = so_else _ _ (is_asked e.seizer c) (other at) (else_so _ _ (is_asked e.seizer c) (other at) h.result) })
    (λ no. h)

-- another node's answer
pub others_settled : (c d : ℕ) (promises : List Promised) (r : SeizeResult) (es : List Seizing) (ts : List Task) → AllByRecursion (IsNotOwn c d) es → Match (IsOwn c) c promises es ts
    → Match (IsOwn c) c promises (map (with_result d r) es) ts
others_settled c d promises r es ts other h =
    match_map (IsOwn c) (IsOwn c) (IsNotOwn c d) c promises (with_result d r) (λ e k. others_result c d promises r e k) (λ e t not k. own_result_kept c d r e t not k) es ts other h

nothing_asked : (es : List Seizing) → AllByRecursion (λ (e : Seizing). Unit {0}) es
nothing_asked [] = tt
nothing_asked (e ∷ es) = (tt, nothing_asked es)

ending_settled : (c d : ℕ) (r : SeizeResult) (e : Seizing) (t : Task) → IsOwnBut c d r e t → IsOwn c (with_result d r e) t
ending_settled c d r e t (inl h) =
    of_test (λ x. IsOwn c x t) ((e.attached.device == d) && is_none e.result) (record e { result = Some r }) e
    (λ at. record { device = h.device; asked = h.asked; work = h.work; result = so_then _ _ (is_asked e.seizer c) h.seizer h.result })
    (λ no. absurd (not_both ((e.attached.device == d) && is_none e.result) (ap (λ b. b && is_none e.result) h.of ∙ ap (λ (o : Option SeizeResult). is_none o) h.awaited) no))
ending_settled c d r e t (inr h) =
    of_test (λ x. IsOwn c x t) ((e.attached.device == d) && is_none e.result) (record e { result = Some r }) e
    (λ at. absurd (not_both (e.attached.device == d) (and_cases (e.attached.device == d) (is_none e.result) at).0 h.1)) (λ no. h.0)

-- the own one
pub own_settled : (c d : ℕ) (promises : List Promised) (r : SeizeResult) (es : List Seizing) (ts : List Task) → Match (IsOwnBut c d r) c promises es ts
    → Match (IsOwn c) c promises (map (with_result d r) es) ts
own_settled c d promises r es ts h =
    match_map (IsOwnBut c d r) (IsOwn c) (λ e. Unit {0}) c promises (with_result d r) (λ e k. others_result c d promises r e k) (λ e t not k. ending_settled c d r e t k) es ts (nothing_asked es) h

-- ---- another is asked next

others_next : (c d n : ℕ) (promises : List Promised) (e : Seizing) → 1 ≤ n → n ≤ 32 → (n == c) ≡ false → IsOthers c promises e → IsOthers c promises (with_next d n e)
others_next c d n promises e low high other h =
    if_either (IsOthers c promises) ((e.attached.device == d) && is_none e.result) (record e { seizer = Some n; asked = set_with e.asked n }) e
    (record { unasked = has_other e.asked n c low high other ∙ h.unasked; seizer = other; never = h.never }) h

own_next_kept : (c d n : ℕ) (e : Seizing) (t : Task) → 1 ≤ n → n ≤ 32 → (n == c) ≡ false → IsNotOwn c d e → IsOwn c e t → IsOwn c (with_next d n e) t
own_next_kept c d n e t low high differs other h =
    of_test (λ x. IsOwn c x t) ((e.attached.device == d) && is_none e.result) (record e { seizer = Some n; asked = set_with e.asked n }) e
    (λ at. record {
      device = h.device;
      asked = has_still e.asked n c low high h.asked;
      work = h.work;
      result = so_else _ _ (n == c) differs (else_so _ _ (is_asked e.seizer c) (other at) h.result);
    })
    (λ no. h)

pub others_asked : (c d n : ℕ) (promises : List Promised) (es : List Seizing) (ts : List Task) → 1 ≤ n → n ≤ 32 → (n == c) ≡ false → AllByRecursion (IsNotOwn c d) es → Match (IsOwn c) c promises es ts
    → Match (IsOwn c) c promises (map (with_next d n) es) ts
others_asked c d n promises es ts low high differs other h =
    match_map (IsOwn c) (IsOwn c) (IsNotOwn c d) c promises (with_next d n) (λ e k. others_next c d n promises e low high differs k) (λ e t not k. own_next_kept c d n e t low high differs not k) es ts other h

ending_next : (c d n : ℕ) (r : SeizeResult) (e : Seizing) (t : Task) → 1 ≤ n → n ≤ 32 → (n == c) ≡ false → IsUnregistered (Some r) → IsOwnBut c d r e t → IsOwn c (with_next d n e) t
ending_next c d n r e t low high differs none (inl h) =
    of_test (λ x. IsOwn c x t) ((e.attached.device == d) && is_none e.result) (record e { seizer = Some n; asked = set_with e.asked n }) e
    (λ at. record {
      device = h.device;
      asked = has_still e.asked n c low high h.asked;
      work = h.work;
      result = so_else _ _ (n == c) differs (subst IsUnregistered (sym h.result) none);
    })
    (λ no. absurd (not_both ((e.attached.device == d) && is_none e.result) (ap (λ b. b && is_none e.result) h.of ∙ ap (λ (o : Option SeizeResult). is_none o) h.awaited) no))
ending_next c d n r e t low high differs none (inr h) =
    of_test (λ x. IsOwn c x t) ((e.attached.device == d) && is_none e.result) (record e { seizer = Some n; asked = set_with e.asked n }) e
    (λ at. absurd (not_both (e.attached.device == d) (and_cases (e.attached.device == d) (is_none e.result) at).0 h.1)) (λ no. h.0)

pub own_asked : (c d n : ℕ) (promises : List Promised) (r : SeizeResult) (es : List Seizing) (ts : List Task) → 1 ≤ n → n ≤ 32 → (n == c) ≡ false → IsUnregistered (Some r)
    → Match (IsOwnBut c d r) c promises es ts → Match (IsOwn c) c promises (map (with_next d n) es) ts
own_asked c d n promises r es ts low high differs none h =
    match_map (IsOwnBut c d r) (IsOwn c) (λ e. Unit {0}) c promises (with_next d n) (λ e k. others_next c d n promises e low high differs k)
    (λ e t not k. ending_next c d n r e t low high differs none k) es ts (nothing_asked es) h

-- ---- who is asked next

-- a quorum device alone, whose seizing ended not registered; and it is a member that may seize it, and was not asked
pub record IsNext (promises : List Promised) (nodes : List ℕ) (e : Seizing) (kind : SeizeKind) (r : SeizeResult) (n : ℕ) : Type 0 where
  pub vote : kind ≡ Vote
  pub unregistered : IsUnregistered (Some r)
  pub may : may_seize promises e.attached n ≡ true
  pub unasked : has e.asked n ≡ false
  pub test : ℕ → Bool
  pub found : find test nodes ≡ Some n

holds_found : (p : ℕ → Bool) (ns : List ℕ) (n : ℕ) → find p ns ≡ Some n → p n ≡ true
holds_found p [] n is = absurd (none_some n is)
holds_found p (m ∷ ns) n is = by_test (λ k. holds_found p ns n k) (p m) refl is
  where
    by_test : (find p ns ≡ Some n → p n ≡ true) → (b : Bool) → p m ≡ b → (if b then Some m else find p ns) ≡ Some n → p n ≡ true
    by_test rest true at k = subst (λ j. p j ≡ true) (same_some m n k) at
    by_test rest false at k = rest k

not_true : (b : Bool) → not b ≡ true → b ≡ false
not_true true h = absurd (false_true h)
not_true false h = refl

pub next_so : (cluster : ℕ) (promises : List Promised) (nodes : List ℕ) (e : Seizing) (kind : SeizeKind) (r : SeizeResult) (n : ℕ) → next_by cluster promises nodes e kind r ≡ Some n → IsNext promises nodes e kind r n
next_so cluster promises nodes e Vote (NotRegistered keys) n is =
    let p : ℕ → Bool = may_follow cluster promises e keys in
    let four : ((has e.attached.nodes n && holds_valid promises e.attached.device n && not (has e.asked n)) ≡ true) × (_ ≡ true) = and_cases _ _ (holds_found p nodes n is) in
    let three : ((has e.attached.nodes n && holds_valid promises e.attached.device n) ≡ true) × (not (has e.asked n) ≡ true) = and_cases _ _ four.0 in
    record { vote = refl; unregistered = tt; may = three.0; unasked = not_true (has e.asked n) three.1; test = p; found = is }
next_so cluster promises nodes e _ _ n is = absurd (none_some n is)

-- it is never the coordinator
pub next_other : (A : Seizing → Task → Type 0) (c d from n : ℕ) (promises : List Promised) (nodes : List ℕ) (r : SeizeResult) (es : List Seizing) (ts : List Task) (e : Seizing)
    → ((x : Seizing) (t : Task) → A x t → has x.asked c ≡ true) → Match A c promises es ts → find (awaits d from) es ≡ Some e → IsNext promises nodes e e.kind r n → (n == c) ≡ false
next_other A c d from n promises nodes r es ts e asked h is next = by_test (n == c) refl
  where
    by_entry : n ≡ c → (has e.asked c ≡ true) ⊎ IsOthers c promises e → ⊥
    by_entry same (inl k) = not_both (has e.asked c) k (subst (λ j. has e.asked j ≡ false) same next.unasked)
    by_entry same (inr k) = not_both (may_seize promises e.attached c) (subst (λ j. may_seize promises e.attached j ≡ true) same next.may) (k.never next.vote)

    by_test : (b : Bool) → (n == c) ≡ b → b ≡ false
    by_test true same = absurd (by_entry (same_number n c same) (entry_so A c promises (awaits d from) asked es ts e h is))
    by_test false other = refl
