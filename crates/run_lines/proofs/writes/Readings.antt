-- An attempt reads each device that it holds: its entries are of devices that are apart, and each that is held was seized by a node.
use Rattle.std.specs.Prelude.{ℕ, ◌≡◌, ◌==◌, ◌&&◌, ◌||◌, ◌++◌, Bool, true, false, Contains, List, [], ◌∷◌, Option, None, Some, find, is_none, is_some, map, if◌then◌else◌}
use Rattle.std.specs.List.{AllByRecursion, cons_option, filter_map, list_any}
use Rattle.std.proofs.Common.{refl, sym, ap, subst, ◌∙◌, arith}
use Rattle.std.proofs.lemmas.List.Elements.{All-contains, All-contains_itself, All-from_recursion, recursion_from_All}
use Rattle.attempt_laws.proofs.Readings.{held_is_read}
use Rattle.attempt_laws.proofs.StillHeld.{same_attached}
use Rattle.attempt_laws.proofs.Steady.{Steady, reached_keeps}
use Rattle.attempt_laws.proofs.Walk.{if_with}
use Rattle.attempt_laws.specs.Asking.{AreApart, entry_numbers, numbers_of}
use Rattle.attempt_laws.specs.Laws.{is_held_in}
use Rattle.cl_base.specs.Sets.{has, set_with}
use Rattle.cl_base.specs.Seizings.{SeizeResult}
use Rattle.cl_base.specs.declared.seizing.SeizeEnd.TheVariants.{Contended, Expelled, Fault, Greater, Held, NotRegistered}
use Rattle.cmm_attempt.proofs.Basics.{and_cases, false_true, if_either, same_number}
use Rattle.cmm_attempt.specs.Attempts.{AttemptState, install_in, plain_devices, vote_entries_under}
use Rattle.cmm_attempt.specs.Calls.{Call, IsReached}
use Rattle.cmm_attempt.specs.Counts.{is_quorum, vote_new}
use Rattle.cmm_attempt.specs.Plans.{is_reachable}
use Rattle.cmm_attempt.specs.Seizings.{first_seizer, is_held_by, is_seized, plain_entry, plain_new, vote_entry, with_next, with_result}
use Rattle.cmm_attempt.specs.declared.attached.AttachedDevice.{AttachedDevice}
use Rattle.cmm_attempt.specs.declared.counting.BothVotes.{BothVotes}
use Rattle.cmm_attempt.specs.declared.plan.Plan.{Plan}
use Rattle.cmm_attempt.specs.declared.promised.Promised.{Promised}
use Rattle.cmm_attempt.specs.declared.seizing.Seizing.{Seizing}
use Rattle.run_history.proofs.Lists.{both}
use Rattle.wire.specs.declared.lists.Reading.{Reading}
use Rattle.run_lines.specs.writes.Covers.{has_reading}

-- ---- entries

-- of a device of the plan; where its answer is awaited or it is held, a node was asked
abbrev IsGood : List AttachedDevice → Seizing → Type 0
IsGood full e = Contains full e.attached × (is_none e.result ≡ true → is_some e.seizer ≡ true) × (is_held_by e.result ≡ true → is_some e.seizer ≡ true)

abbrev AllGood : List AttachedDevice → List Seizing → Type 0
AllGood full es = AllByRecursion (IsGood full) es

-- of this device, where there is one
abbrev IsFor : List AttachedDevice → AttachedDevice → Option Seizing → Type 0
IsFor full a None = Unit {0}
IsFor full a (Some e) = (e.attached.device ≡ a.device) × (Contains full a → IsGood full e)

-- ---- new entries

vote_for : (full : List AttachedDevice) (a : AttachedDevice) (o : Option ℕ) → IsFor full a (Some (vote_entry a o))
vote_for full a None = (refl, λ listed. (listed, (λ is. absurd (false_true is)), (λ is. absurd (false_true is))))
vote_for full a (Some n) = (refl, λ listed. (listed, (λ is. refl), (λ is. refl)))

vote_new_for : (full : List AttachedDevice) (plan : Plan) (promises : List Promised) (votes : BothVotes) (a : AttachedDevice) → IsFor full a (vote_new plan promises votes a)
vote_new_for full plan promises votes a =
    if_either (IsFor full a) (is_quorum votes a.device && is_reachable plan a) (Some (vote_entry a (first_seizer plan promises a))) None (vote_for full a (first_seizer plan promises a)) tt

plain_for : (full : List AttachedDevice) (a : AttachedDevice) (o : Option ℕ) → IsFor full a (plain_entry a o)
plain_for full a None = tt
plain_for full a (Some n) = (refl, λ listed. (listed, (λ is. refl), (λ is. refl)))

plain_new_for : (full : List AttachedDevice) (plan : Plan) (devices : List Seizing) (a : AttachedDevice) → IsFor full a (plain_new plan devices a)
plain_new_for full plan devices a =
    if_either (IsFor full a) (is_seized devices a.device) None (plain_entry a (find (λ n. has a.nodes n) plan.nodes)) tt (plain_for full a (find (λ n. has a.nodes n) plan.nodes))

good_with : (full : List AttachedDevice) (a : AttachedDevice) (o : Option Seizing) (es : List Seizing) → Contains full a → IsFor full a o → AllGood full es → AllGood full (cons_option o es)
good_with full a None es listed is h = h
good_with full a (Some e) es listed is h = (is.1 listed, h)

good_new : (full : List AttachedDevice) (f : AttachedDevice → Option Seizing) → ((a : AttachedDevice) → IsFor full a (f a)) → (xs : List AttachedDevice) → AllByRecursion (Contains full) xs
    → AllGood full (filter_map f xs)
good_new full f is [] listed = tt
good_new full f is (a ∷ xs) listed = good_with full a (f a) (filter_map f xs) listed.0 (is a) (good_new full f is xs listed.1)

itself : (full : List AttachedDevice) → AllByRecursion (Contains full) full
itself full = recursion_from_All (Contains full) full (All-contains_itself full)

-- ---- they are apart

or_false : (a b : Bool) → (a || b) ≡ false → (a ≡ false) × (b ≡ false)
or_false true b k = absurd (false_true (sym k))
or_false false b k = (refl, k)

lacks_with : (full : List AttachedDevice) (a : AttachedDevice) (o : Option Seizing) (es : List Seizing) (d : ℕ) → IsFor full a o → (a.device == d) ≡ false
    → list_any (λ x. x == d) (entry_numbers es) ≡ false → list_any (λ x. x == d) (entry_numbers (cons_option o es)) ≡ false
lacks_with full a None es d is ne h = h
lacks_with full a (Some e) es d is ne h = ap (λ n. (n == d) || list_any (λ x. x == d) (entry_numbers es)) is.0 ∙ (ap (λ b. b || list_any (λ x. x == d) (entry_numbers es)) ne ∙ h)

lacks : (full : List AttachedDevice) (f : AttachedDevice → Option Seizing) → ((a : AttachedDevice) → IsFor full a (f a)) → (xs : List AttachedDevice) (d : ℕ)
    → list_any (λ x. x == d) (numbers_of xs) ≡ false → list_any (λ x. x == d) (entry_numbers (filter_map f xs)) ≡ false
lacks full f is [] d h = refl
lacks full f is (a ∷ xs) d h =
    let two : ((a.device == d) ≡ false) × (list_any (λ x. x == d) (numbers_of xs) ≡ false) = or_false (a.device == d) (list_any (λ x. x == d) (numbers_of xs)) h in
    lacks_with full a (f a) (filter_map f xs) d (is a) two.0 (lacks full f is xs d two.1)

apart_with : (full : List AttachedDevice) (a : AttachedDevice) (o : Option Seizing) (es : List Seizing) → IsFor full a o → list_any (λ x. x == a.device) (entry_numbers es) ≡ false
    → AreApart (entry_numbers es) → AreApart (entry_numbers (cons_option o es))
apart_with full a None es is h apart = apart
apart_with full a (Some e) es is h apart = (ap (λ n. list_any (λ x. x == n) (entry_numbers es)) is.0 ∙ h, apart)

apart_new : (full : List AttachedDevice) (f : AttachedDevice → Option Seizing) → ((a : AttachedDevice) → IsFor full a (f a)) → (xs : List AttachedDevice) → AreApart (numbers_of xs)
    → AreApart (entry_numbers (filter_map f xs))
apart_new full f is [] h = tt
apart_new full f is (a ∷ xs) h = apart_with full a (f a) (filter_map f xs) (is a) (lacks full f is xs a.device h.0) (apart_new full f is xs h.1)

numbers_mapped : (f : Seizing → Seizing) → ((e : Seizing) → (f e).attached ≡ e.attached) → (es : List Seizing) → entry_numbers (map f es) ≡ entry_numbers es
numbers_mapped f same [] = refl
numbers_mapped f same (e ∷ es) = ap (λ a. a.device ∷ entry_numbers (map f es)) (same e) ∙ ap (λ ns. e.attached.device ∷ ns) (numbers_mapped f same es)

-- the other devices are apart from those that are seized already
lacks_seized : (full : List AttachedDevice) (plan : Plan) (devices : List Seizing) (xs : List AttachedDevice) (d : ℕ) → is_seized devices d ≡ true
    → list_any (λ x. x == d) (entry_numbers (filter_map (plain_new plan devices) xs)) ≡ false
lacks_seized full plan devices [] d h = refl
lacks_seized full plan devices (a ∷ xs) d h = by_test (a.device == d) refl (lacks_seized full plan devices xs d h)
  where
    rest : List Seizing
    rest = filter_map (plain_new plan devices) xs

    none : (a.device == d) ≡ true → plain_new plan devices a ≡ None
    none e =
        ap (λ b. if b then None else plain_entry a (find (λ n. has a.nodes n) plan.nodes)) (subst (λ n. is_seized devices n ≡ true) (sym (same_number a.device d e)) h)

    by_test : (b : Bool) → (a.device == d) ≡ b → list_any (λ x. x == d) (entry_numbers rest) ≡ false → list_any (λ x. x == d) (entry_numbers (cons_option (plain_new plan devices a) rest)) ≡ false
    by_test true e k = ap (λ o. list_any (λ x. x == d) (entry_numbers (cons_option o rest))) (none e) ∙ k
    by_test false e k = lacks_with full a (plain_new plan devices a) rest d (plain_new_for full plan devices a) e k

second : (a b : Bool) → b ≡ true → (a || b) ≡ true
second true b q = refl
second false b q = q

same_self : (n : ℕ) (b : Bool) → ((n == n) || b) ≡ true
same_self n b = grind arith

lacks_both : (xs more : List Seizing) (d : ℕ) → list_any (λ x. x == d) (entry_numbers xs) ≡ false → list_any (λ x. x == d) (entry_numbers more) ≡ false
    → list_any (λ x. x == d) (entry_numbers (xs ++ more)) ≡ false
lacks_both [] more d p q = q
lacks_both (x ∷ xs) more d p q =
    let two : ((x.attached.device == d) ≡ false) × (list_any (λ y. y == d) (entry_numbers xs) ≡ false) = or_false (x.attached.device == d) (list_any (λ y. y == d) (entry_numbers xs)) p in
    ap (λ b. b || list_any (λ y. y == d) (entry_numbers (xs ++ more))) two.0 ∙ lacks_both xs more d two.1 q

apart_both : (es more : List Seizing) → AreApart (entry_numbers es) → AreApart (entry_numbers more)
    → ((d : ℕ) → is_seized es d ≡ true → list_any (λ x. x == d) (entry_numbers more) ≡ false) → AreApart (entry_numbers (es ++ more))
apart_both [] more h k apart = k
apart_both (e ∷ es) more h k apart = (
  lacks_both es more e.attached.device h.0 (apart e.attached.device (same_self e.attached.device (is_seized es e.attached.device))),
  apart_both es more h.1 k (λ d is. apart d (second (e.attached.device == d) (is_seized es d) is)),
)

-- ---- each attempt

record Sound (s : AttemptState) : Type 0 where
  good : AllGood s.plan.attached s.devices
  apart : AreApart (entry_numbers s.devices)

-- where the devices of the plan are apart
abbrev IsSound : AttemptState → Type 0
IsSound s = AreApart (numbers_of s.plan.attached) → Sound s

votes_sound : (s : AttemptState) (o : Option BothVotes) → AreApart (numbers_of s.plan.attached) → AllGood s.plan.attached (vote_entries_under s o) × AreApart (entry_numbers (vote_entries_under s o))
votes_sound s None apart = (tt, tt)
votes_sound s (Some votes) apart = (
  good_new s.plan.attached (vote_new s.plan s.promises votes) (vote_new_for s.plan.attached s.plan s.promises votes) s.plan.attached (itself s.plan.attached),
  apart_new s.plan.attached (vote_new s.plan s.promises votes) (vote_new_for s.plan.attached s.plan s.promises votes) s.plan.attached apart,
)

all_mapped : (full : List AttachedDevice) (f : Seizing → Seizing) → ((e : Seizing) → IsGood full e → IsGood full (f e)) → (es : List Seizing) → AllGood full es → AllGood full (map f es)
all_mapped full f keeps [] h = tt
all_mapped full f keeps (e ∷ es) h = (keeps e h.0, all_mapped full f keeps es h.1)

result_good : (full : List AttachedDevice) (d : ℕ) (r : SeizeResult) (e : Seizing) → IsGood full e → IsGood full (with_result d r e)
result_good full d r e h =
    if_with (IsGood full) ((e.attached.device == d) && is_none e.result) ((e.attached.device == d) && is_none e.result) (record e { result = Some r }) e refl
    (λ at. (h.0, (λ is. absurd (false_true is)), (λ is. h.1 (and_cases (e.attached.device == d) (is_none e.result) at).1))) (λ other. h)

next_good : (full : List AttachedDevice) (d n : ℕ) (e : Seizing) → IsGood full e → IsGood full (with_next d n e)
next_good full d n e h =
    if_either (IsGood full) ((e.attached.device == d) && is_none e.result) (record e { seizer = Some n; asked = set_with e.asked n }) e (h.0, (λ is. refl), (λ is. refl)) h

sound_steady : (c : Call) → Steady c IsSound IsSound
sound_steady c = record {
  within = λ s i. i;
  ticked = λ s i apart. record { good = (i apart).good; apart = (i apart).apart };
  over = λ s k apart. record { good = (k apart).good; apart = (k apart).apart };
  promise = λ s from message p is awaited of promised i apart. record { good = (i apart).good; apart = (i apart).apart };
  collecting = λ s is e k. k;
  no_newest = λ s is all none k. k;
  chosen = λ s newest is all some k apart. record { good = (k apart).good; apart = (k apart).apart };
  votes = λ s votes is i apart. record { good = tt; apart = tt };
  entries = λ s is k apart. record { good = (votes_sound s s.votes apart).0; apart = (votes_sound s s.votes apart).1 };
  result = λ s d from r is tells i apart. record {
    good = all_mapped s.plan.attached (with_result d r) (result_good s.plan.attached d r) s.devices (i apart).good;
    apart = subst AreApart
        (sym (numbers_mapped (with_result d r) (λ e. same_attached e (record e { result = Some r }) ((e.attached.device == d) && is_none e.result) refl) s.devices)) (i apart).apart;
  };
  next = λ s d n e kind r is found i apart. record {
    good = all_mapped s.plan.attached (with_next d n) (next_good s.plan.attached d n) s.devices (i apart).good;
    apart = subst AreApart
        (sym (numbers_mapped (with_next d n) (λ x. same_attached x (record x { seizer = Some n; asked = set_with x.asked n }) ((x.attached.device == d) && is_none x.result) refl) s.devices))
        (i apart).apart;
  };
  seizing = λ s is e k. k;
  counted = λ s is h k apart. record { good = (k apart).good; apart = (k apart).apart };
  others = λ s is ne k apart. record {
    good = both (IsGood s.plan.attached) s.devices (plain_devices s) (k apart).good
        (good_new s.plan.attached (plain_new s.plan s.devices) (plain_new_for s.plan.attached s.plan s.devices) s.plan.attached (itself s.plan.attached));
    apart = apart_both s.devices (plain_devices s) (k apart).apart
        (apart_new s.plan.attached (plain_new s.plan s.devices) (plain_new_for s.plan.attached s.plan s.devices) s.plan.attached apart)
        (λ d seized. lacks_seized s.plan.attached s.plan s.devices s.plan.attached d seized);
  };
  installs = λ s is k apart. record { good = (k apart).good; apart = (k apart).apart };
  ready = λ s from message is at of ready_body i apart. record { good = (i apart).good; apart = (i apart).apart };
  own = λ s is at i apart. record { good = (i apart).good; apart = (i apart).apart };
  installing = λ s at e k. k;
}

reached_sound : (s : AttemptState) → IsReached s → IsSound s
reached_sound s r = reached_keeps IsSound IsSound sound_steady s r (λ apart. record { good = tt; apart = tt })

-- ---- what is held is read

record FirstHeld (full : List AttachedDevice) (es : List Seizing) (d : ℕ) : Type 0 where
  entry : Seizing
  found : find (λ x. x.attached.device == d) es ≡ Some entry
  device : entry.attached.device ≡ d
  held : is_held_by entry.result ≡ true
  good : IsGood full entry

none_listed : (es : List Seizing) (d : ℕ) → list_any (λ x. x == d) (entry_numbers es) ≡ false → is_held_in es d ≡ false
none_listed [] d h = refl
none_listed (e ∷ es) d h =
    let two : ((e.attached.device == d) ≡ false) × (list_any (λ y. y == d) (entry_numbers es) ≡ false) = or_false (e.attached.device == d) (list_any (λ y. y == d) (entry_numbers es)) h in
    ap (λ b. (b && is_held_by e.result) || is_held_in es d) two.0 ∙ none_listed es d two.1

first_held : (full : List AttachedDevice) (es : List Seizing) (d : ℕ) → AllGood full es → AreApart (entry_numbers es) → is_held_in es d ≡ true → FirstHeld full es d
first_held full [] d good apart held = absurd (false_true held)
first_held full (e ∷ es) d good apart held = by_test (e.attached.device == d) refl (λ k. first_held full es d good.1 apart.1 k)
  where
    here : (b : Bool) → b ≡ true → ((b && is_held_by e.result) || is_held_in es d) ≡ true → is_held_in es d ≡ false → is_held_by e.result ≡ true
    here true at h none = by_held (is_held_by e.result) (is_held_in es d) h none
      where
        by_held : (p q : Bool) → (p || q) ≡ true → q ≡ false → p ≡ true
        by_held true q x y = refl
        by_held false q x y = absurd (false_true (sym y ∙ x))
    here false at h none = absurd (false_true at)

    by_test : (b : Bool) → (e.attached.device == d) ≡ b → (is_held_in es d ≡ true → FirstHeld full es d) → FirstHeld full (e ∷ es) d
    by_test true at later =
        let none : is_held_in es d ≡ false = none_listed es d (subst (λ n. list_any (λ x. x == n) (entry_numbers es) ≡ false) (same_number e.attached.device d at) apart.0) in
        record {
          entry = e;
          found = ap (λ b. if b then Some e else find (λ x. x.attached.device == d) es) at;
          device = same_number e.attached.device d at;
          held = here (e.attached.device == d) at held none;
          good = good.0;
        }
    by_test false at later =
        let rest : FirstHeld full es d = later (sym (ap (λ b. (b && is_held_by e.result) || is_held_in es d) at) ∙ held) in
        record {
          entry = rest.entry;
          found = ap (λ b. if b then Some e else find (λ x. x.attached.device == d) es) at ∙ rest.found;
          device = rest.device;
          held = rest.held;
          good = rest.good;
        }

record WithKeys (r : Option SeizeResult) : Type 0 where
  keys : List ℕ
  is : r ≡ Some (Held keys)

with_keys : (r : Option SeizeResult) → is_held_by r ≡ true → WithKeys r
with_keys (Some (Held keys)) is = record { keys = keys; is = refl }
with_keys (Some (NotRegistered keys)) is = absurd (false_true is)
with_keys (Some (Greater word)) is = absurd (false_true is)
with_keys (Some Expelled) is = absurd (false_true is)
with_keys (Some (Contended key)) is = absurd (false_true is)
with_keys (Some Fault) is = absurd (false_true is)
with_keys None is = absurd (false_true is)

record Asks (o : Option ℕ) : Type 0 where
  node : ℕ
  is : o ≡ Some node

asks : (o : Option ℕ) → is_some o ≡ true → Asks o
asks None is = absurd (false_true is)
asks (Some n) is = record { node = n; is = refl }

-- each reading is among the readings
weaker : (r : Reading) (rs xs : List Reading) → AllByRecursion (λ (x : Reading). has_reading x.device rs ≡ true) xs → AllByRecursion (λ (x : Reading). has_reading x.device (r ∷ rs) ≡ true) xs
weaker r rs [] h = tt
weaker r rs (x ∷ xs) h = (second (r.device == x.device) (has_reading x.device rs) h.0, weaker r rs xs h.1)

all_listed : (rs : List Reading) → AllByRecursion (λ (x : Reading). has_reading x.device rs ≡ true) rs
all_listed [] = tt
all_listed (r ∷ rs) = (same_self r.device (has_reading r.device rs), weaker r rs rs (all_listed rs))

among_read : (rs : List Reading) (r : Reading) → Contains rs r → has_reading r.device rs ≡ true
among_read rs r among =
    All-contains (λ (x : Reading). has_reading x.device rs ≡ true) rs r (All-from_recursion (λ (x : Reading). has_reading x.device rs ≡ true) rs (all_listed rs)) among

pub held_read : (t : AttemptState) (d : ℕ) → IsReached t → AreApart (numbers_of t.plan.attached) → is_held_in t.devices d ≡ true → has_reading d (install_in t).readings ≡ true
held_read t d reached apart held =
    let s : Sound t = reached_sound t reached apart in
    let f : FirstHeld t.plan.attached t.devices d = first_held t.plan.attached t.devices d s.good s.apart held in
    let k : WithKeys f.entry.result = with_keys f.entry.result f.held in
    let n : Asks f.entry.seizer = asks f.entry.seizer (f.good.2 f.held) in
    let found : find (λ x. x.attached.device == f.entry.attached.device) t.devices ≡ Some f.entry =
    subst (λ z. find (λ x. x.attached.device == z) t.devices ≡ Some f.entry) (sym f.device) f.found in
    subst (λ z. has_reading z (install_in t).readings ≡ true) f.device
    (among_read (install_in t).readings (record { device = f.entry.attached.device; seizer = n.node; keys = k.keys })
    (held_is_read t f.entry.attached f.entry n.node k.keys f.good.0 found n.is k.is))
