-- Whoever seized a device for e is a member of it.
use Rattle.std.specs.Prelude.{ℕ, ◌+◌, ◌*◌, ◌^◌, ◌≡◌, ◌==◌, ◌&&◌, ◌||◌, ◌⊎◌, Bool, true, false, List, [], ◌∷◌, Some, if◌then◌else◌}
use Rattle.std.specs.List.{list_all, list_any}
use Rattle.std.proofs.Common.{refl, sym, subst, ◌∙◌, arith, inl, inr}
use Rattle.attempt_laws.proofs.Told.{is_among}
use Rattle.cl_base.proofs.SetLemmas.{none_of_zero}
use Rattle.cl_base.specs.Keys as keys
use Rattle.cl_base.specs.Sets.{has}
use Rattle.cl_base.specs.declared.header.Header.{Header}
use Rattle.cmm_attempt.proofs.Basics.{and_cases, none_some, or_cases, same_number}
use Rattle.machine_base.proofs.Puts.{true_or_false}
use Rattle.status_report.specs.declared.attempt_entry.AttemptEntry.TheVariants as attempt_entry
use Rattle.status_report.specs.declared.device_entry.DeviceEntry.TheVariants as device_entry
use Rattle.status_report.specs.declared.entry.Entry.TheVariants as entry
use Rattle.history.specs.Contact.{AttemptsDiffer, IsNew}
use Rattle.history.specs.Member.{members_of}
use Rattle.history.specs.Moment.{Moment, Told}
use Rattle.history.specs.Seizing.{is_attempt, is_members_key, keys_seized}
use Rattle.history.specs.Setting.{key_of, nodes_of}
use Rattle.run_seizings.proofs.Progress.{begun_stays, leaves, no_truth, or_left, or_right, same_is}
use Rattle.run_devices.proofs.valid.Lines.{CommandOf, NoCommand, Newly, command_shows, same_keys, sorted}

-- ---- members by their keys

same_key : (cluster m n : ℕ) → keys.key_of cluster m ≡ keys.key_of cluster n → m ≡ n
same_key cluster m n is = lift (cluster * 2 ^ 32) m n is
  where
    lift : (a b c : ℕ) → a + b ≡ a + c → b ≡ c
    lift a b c e = omega (arith, e)

-- a node with this key is among them
with_key : (h : Header) (n : ℕ) (ns : List ℕ) → list_any (λ m. key_of h m == key_of h n) ns ≡ true → list_any (λ m. m == n) ns ≡ true
with_key h n [] is = absurd (no_truth is)
with_key h n (m ∷ ns) is = by_cases (or_cases (key_of h m == key_of h n) (list_any (λ j. key_of h j == key_of h n) ns) is) (λ rest. with_key h n ns rest)
  where
    by_cases : ((key_of h m == key_of h n) ≡ true) ⊎ (list_any (λ j. key_of h j == key_of h n) ns ≡ true)
        → (list_any (λ j. key_of h j == key_of h n) ns ≡ true → list_any (λ j. j == n) ns ≡ true) → list_any (λ j. j == n) (m ∷ ns) ≡ true
    by_cases (inl same) rest =
        or_left (m == n) (list_any (λ j. j == n) ns)
        (subst (λ z. (m == z) ≡ true) (same_key h.cluster m n (same_number (key_of h m) (key_of h n) same)) (same_is m))
    by_cases (inr later) rest = or_right (m == n) (list_any (λ j. j == n) ns) (rest later)

-- its own key is among keys which are all members'
own_member : (h : Header) (members n : ℕ) (ks : List ℕ) → list_any (λ key. key == key_of h n) ks ≡ true → list_all (is_members_key h members) ks ≡ true
    → is_members_key h members (key_of h n) ≡ true
own_member h members n [] own all = absurd (no_truth own)
own_member h members n (k ∷ ks) own all =
    let two : (is_members_key h members k ≡ true) × (list_all (is_members_key h members) ks ≡ true) =
    and_cases (is_members_key h members k) (list_all (is_members_key h members) ks) all in
    by_cases (or_cases (k == key_of h n) (list_any (λ key. key == key_of h n) ks) own) two.0 (λ rest. own_member h members n ks rest two.1)
  where
    by_cases : ((k == key_of h n) ≡ true) ⊎ (list_any (λ key. key == key_of h n) ks ≡ true) → is_members_key h members k ≡ true
        → (list_any (λ key. key == key_of h n) ks ≡ true → is_members_key h members (key_of h n) ≡ true) → is_members_key h members (key_of h n) ≡ true
    by_cases (inl same) here rest = subst (λ z. is_members_key h members z ≡ true) (same_number k (key_of h n) same) here
    by_cases (inr later) here rest = rest later

-- ---- an attempt that has a member has its line

pub record IsMember (ms : List Moment) (n e : ℕ) : Type 0 where
  pub begun : list_any (is_attempt e) ms ≡ true
  pub member : list_any (λ m. m == n) (nodes_of (members_of e ms)) ≡ true

no_members : (ms : List Moment) (e : ℕ) → list_any (is_attempt e) ms ≡ false → members_of e ms ≡ 0
no_members [] e none = refl
no_members (Told (entry.Attempt (attempt_entry.Begun p members)) ∷ ms) e none = by_test (p == e) none (λ rest. no_members ms e rest)
  where
    by_test : (b : Bool) → (b || list_any (is_attempt e) ms) ≡ false → (list_any (is_attempt e) ms ≡ false → members_of e ms ≡ 0) → (if b then members else members_of e ms) ≡ 0
    by_test true is rest = absurd (no_truth (sym is))
    by_test false is rest = rest is
no_members (Told (entry.Attempt (attempt_entry.Votes q have need lacking)) ∷ ms) e none = no_members ms e none
no_members (Told (entry.Attempt (attempt_entry.Superseded q p)) ∷ ms) e none = no_members ms e none
no_members (Told (entry.Attempt (attempt_entry.Silent q m)) ∷ ms) e none = no_members ms e none
no_members (Told (entry.Attempt (attempt_entry.Excluded q m)) ∷ ms) e none = no_members ms e none
no_members (Told (entry.Attempt (attempt_entry.Foreign q m)) ∷ ms) e none = no_members ms e none
no_members (_ ∷ ms) e none = no_members ms e none

second : (b c : Bool) → (b && c) ≡ true → c ≡ true
second true c is = is
second false c is = absurd (no_truth is)

is_member : (ms : List Moment) (n e : ℕ) → list_any (λ m. m == n) (nodes_of (members_of e ms)) ≡ true → IsMember ms n e
is_member ms n e is = record { begun = by_cases (true_or_false (list_any (is_attempt e) ms)); member = is }
  where
    by_cases : (list_any (is_attempt e) ms ≡ true) ⊎ (list_any (is_attempt e) ms ≡ false) → list_any (is_attempt e) ms ≡ true
    by_cases (inl begun) = begun
    by_cases (inr none) =
        absurd (no_truth (sym (none_of_zero n) ∙ second _ (has 0 n) (sym (is_among 0 32 n) ∙ subst (λ z. list_any (λ m. m == n) (nodes_of z) ≡ true) (no_members ms e none) is)))

member_stays : (x : Moment) (ms : List Moment) (n e : ℕ) → IsNew ms x → IsMember ms n e → IsMember (x ∷ ms) n e
member_stays x ms n e new k = record {
  begun = begun_stays ms x e k.begun;
  member = subst (λ z. list_any (λ m. m == n) (nodes_of z) ≡ true) (sym (leaves ms x e new k.begun).members) k.member;
}

-- ---- who seized a device

newly_member : (h : Header) (ms : List Moment) (n d m e j : ℕ) → Newly h ms n d m e j → IsMember ms m e
newly_member h ms n d m e j k =
    let two : (list_any (λ key. key == key_of h n) k.seen ≡ true) × (list_all (is_members_key h (members_of e ms)) k.seen ≡ true) =
    and_cases (list_any (λ key. key == key_of h n) k.seen) (list_all (is_members_key h (members_of e ms)) k.seen) k.members in
    subst (λ z. IsMember ms z e) k.node (is_member ms n e (with_key h n (nodes_of (members_of e ms)) (own_member h (members_of e ms) n k.seen two.0 two.1)))

pub seizer_member : (h : Header) (ms : List Moment) (m e j : ℕ) (ks : List ℕ) → AttemptsDiffer ms → keys_seized h m e j ms ≡ Some ks → IsMember ms m e
seizer_member h [] m e j ks differ is = absurd (none_some ks is)
seizer_member h (x ∷ ms) m e j ks differ is = by_kind (sorted x) is (λ old. seizer_member h ms m e j ks differ.1 old)
  where
    by_line : (z : CommandOf x)
        → (keys_seized h m e j (Told (entry.Device (device_entry.Command z.node z.device z.command z.answer)) ∷ ms) ≡ keys_seized h m e j ms) ⊎ Newly h ms z.node z.device m e j
        → keys_seized h m e j (Told (entry.Device (device_entry.Command z.node z.device z.command z.answer)) ∷ ms) ≡ Some ks
        → (keys_seized h m e j ms ≡ Some ks → IsMember ms m e) → IsMember ms m e
    by_line z (inl same) told rest = rest (sym same ∙ told)
    by_line z (inr newly) told rest = newly_member h ms z.node z.device m e j newly

    by_kind : NoCommand x ⊎ CommandOf x → keys_seized h m e j (x ∷ ms) ≡ Some ks → (keys_seized h m e j ms ≡ Some ks → IsMember ms m e) → IsMember (x ∷ ms) m e
    by_kind (inl none) told rest = member_stays x ms m e differ.0 (rest (sym (same_keys h m e j x ms none) ∙ told))
    by_kind (inr z) told rest =
        member_stays x ms m e differ.0
        (by_line z (command_shows h ms z.node z.device z.command z.answer m e j) (subst (λ y. keys_seized h m e j (y ∷ ms) ≡ Some ks) (sym z.is) told) rest)
