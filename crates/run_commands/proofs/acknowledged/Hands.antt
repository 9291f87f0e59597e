-- What a president has in hand stays sound, and what is past stays past.
use Rattle.std.specs.Prelude.{ℕ, ◌-◌, ◌≡◌, ◌≢◌, ◌≤◌, ◌<◌, ◌⊎◌, ◌==◌, ◌&&◌, ◌||◌, nat_le, nat_lt, Bool, true, false, if◌then◌else◌, List, [], ◌∷◌, ◌++◌, length, Option, None, Some, is_some, slice_set, slice_index_or}
use Rattle.std.specs.List.{AllByRecursion, list_any}
use Rattle.std.proofs.Common.{refl, sym, ap, subst, ◌∙◌, arith, inl, inr}
use Rattle.std.proofs.lemmas.List.{get_or-set_other, get_or-set_same, length-set}
use Rattle.proposals.specs.Arrivals.{after_kept, answer_first, answered, arrival_of, is_from, waits_or_is_new, with_arrival}
use Rattle.proposals.specs.Proposing.{proposing}
use Rattle.proposals.specs.State.{State, first_in, kept_at}
use Rattle.proposals.specs.declared.arrived.Arrival.TheVariants.{Answered as Answered_last, New, Past, Waits}
use Rattle.proposals.specs.declared.arrived.Arrived.{Arrived}
use Rattle.proposals.specs.declared.arrived.Kept.{Kept}
use Rattle.run_commands.specs.acknowledged.Hands.{AreApart, HandGoes, IsLater, SameHand, Sound, Stays_or_comes, is_past, is_reached, is_taken}
use Rattle.run_commands.proofs.acknowledged.Askings.{is_equal, is_same, true_two, two_true}

or_left : (a b : Bool) → a ≡ true → (a || b) ≡ true
or_left true b h = refl
or_left false b h = cc

or_right : (a b : Bool) → b ≡ true → (a || b) ≡ true
or_right true b h = refl
or_right false b h = h

or_either : (a b : Bool) → (a || b) ≡ true → (a ≡ true) ⊎ (b ≡ true)
or_either true b h = inl refl
or_either false b h = inr h

or_none : (a b : Bool) → (a || b) ≡ false → (a ≡ false) × (b ≡ false)
or_none true b h = cc
or_none false b h = (refl, h)

no_new : Waits ≡ New → ⊥
no_new e = cc

no_past : Past ≡ New → ⊥
no_past e = cc

no_last : Answered_last ≡ New → ⊥
no_last e = cc

-- ---- one that is new

record Fresh (o : Option Kept) (q : ℕ) (waits : Bool) : Type 0 where
  later : is_reached o q ≡ false
  alone : waits ≡ false

none_waits : (waits : Bool) → waits_or_is_new waits ≡ New → waits ≡ false
none_waits true h = absurd (no_new h)
none_waits false h = refl

later_than : (q k : ℕ) → nat_lt q k ≡ false → (q == k) ≡ false → nat_le q k ≡ false
later_than q k h e = grind arith

new_is : (o : Option Kept) (q : ℕ) (waits : Bool) → after_kept o q waits ≡ New → Fresh o q waits
new_is None q waits h = record { later = refl; alone = none_waits waits h }
new_is (Some k) q waits h = by_less (nat_lt q k.number) refl h
  where
    by_same : (b : Bool) → (q == k.number) ≡ b → nat_lt q k.number ≡ false → (if b then Answered_last else waits_or_is_new waits) ≡ New → Fresh (Some k) q waits
    by_same true same less g = absurd (no_last g)
    by_same false same less g = record { later = later_than q k.number less same; alone = none_waits waits g }

    by_less : (b : Bool) → nat_lt q k.number ≡ b → (if b then Past else (if q == k.number then Answered_last else waits_or_is_new waits)) ≡ New → Fresh (Some k) q waits
    by_less true less g = absurd (no_past g)
    by_less false less g = by_same (q == k.number) refl less g

end_all : (P : Arrived → Type 0) (xs : List Arrived) (y : Arrived) → AllByRecursion P xs → P y → AllByRecursion P (xs ++ y ∷ [])
end_all P [] y h p = (p, tt)
end_all P (x ∷ xs) y h p = (h.0, end_all P xs y h.1 p)

other_way : (a b : ℕ) → (a == b) ≡ false → (b == a) ≡ false
other_way a b h = grind arith

end_any : (n : ℕ) (xs : List Arrived) (y : Arrived) → list_any (is_from n) xs ≡ false → (y.from == n) ≡ false → list_any (is_from n) (xs ++ y ∷ []) ≡ false
end_any n [] y h k = ap (λ b. b || false) k
end_any n (x ∷ xs) y h k =
    let two : _ = or_none (x.from == n) (list_any (is_from n) xs) h in
    ap (λ b. b || list_any (is_from n) (xs ++ y ∷ [])) two.0 ∙ end_any n xs y two.1 k

end_apart : (xs : List Arrived) (y : Arrived) → AreApart xs → list_any (is_from y.from) xs ≡ false → AreApart (xs ++ y ∷ [])
end_apart [] y h k = (refl, tt)
end_apart (x ∷ xs) y h k =
    let two : _ = or_none (x.from == y.from) (list_any (is_from y.from) xs) k in
    (end_any x.from xs y h.0 (other_way x.from y.from two.0), end_apart xs y h.1 two.1)

-- it is in the range of nodes
abbrev pub InRange : Arrived → Type 0
InRange a = (1 ≤ a.from) × (a.from ≤ 32)

comes_sound : (s : State) (a : Arrived) → arrival_of s a.from a.number ≡ New → InRange a → Sound s → Sound (with_arrival s a New)
comes_sound s a new range h =
    let f : Fresh (kept_at s.answers a.from) a.number (list_any (is_from a.from) s.arrived) = new_is (kept_at s.answers a.from) a.number (list_any (is_from a.from) s.arrived) new in
    record {
      later = end_all (IsLater s.answers) s.arrived a h.later (record { later = f.later; low = range.0; high = range.1 });
      apart = end_apart s.arrived a h.apart f.alone;
      slots = h.slots;
    }

-- the first stays the first
still_first : (p : Bool) (xs : List Arrived) (y : Arrived) (n q : ℕ) → is_taken p (first_in xs) n q ≡ true → is_taken p (first_in (xs ++ y ∷ [])) n q ≡ true
still_first p [] y n q h = cc
still_first p (x ∷ xs) y n q h = h

comes_past : (s : State) (a : Arrived) (n q : ℕ) → is_past s n q ≡ true → is_past (with_arrival s a New) n q ≡ true
comes_past s a n q h = by (or_either (is_reached (kept_at s.answers n) q) (is_taken (is_some s.proposed) (first_in s.arrived) n q) h)
  where
    by : ((is_reached (kept_at s.answers n) q ≡ true) ⊎ (is_taken (is_some s.proposed) (first_in s.arrived) n q ≡ true)) → is_past (with_arrival s a New) n q ≡ true
    by (inl k) = or_left (is_reached (kept_at s.answers n) q) _ k
    by (inr k) = or_right (is_reached (kept_at s.answers n) q) _ (still_first (is_some s.proposed) s.arrived a n q k)

-- ---- the first is answered

same_slot : (a : ℕ) → (b : ℕ) → 1 ≤ a → 1 ≤ b → a - 1 ≡ b - 1 → a ≡ b
same_slot a b h k e = omega (arith, h, k, e)

in_slots : (a k : ℕ) → 1 ≤ a → a ≤ 32 → k ≡ 32 → a - 1 < k
in_slots a k low high is = omega (arith, low, high, is)

not_from : (a n : ℕ) → (a == n) ≡ false → a ≡ n → ⊥
not_from a n h e = grind arith

-- the answers once it is answered
abbrev answers_after : List (Option Kept) → Arrived → List ℕ → List (Option Kept)
answers_after answers a text = slice_set answers (a.from - 1) (Some (record { number = a.number; text = text }))

slot_here : (answers : List (Option Kept)) (a : Arrived) (text : List ℕ) (n : ℕ) → n - 1 ≡ a.from - 1 → InRange a → length answers ≡ 32
    → kept_at (answers_after answers a text) n ≡ Some (record { number = a.number; text = text })
slot_here answers a text n same range slots =
    ap (λ i. slice_index_or (answers_after answers a text) i None) same
    ∙ get_or-set_same answers (a.from - 1) (Some (record { number = a.number; text = text })) None (in_slots a.from (length answers) range.0 range.1 slots)

slot_there : (answers : List (Option Kept)) (a : Arrived) (text : List ℕ) (n : ℕ) → n - 1 ≢ a.from - 1 → kept_at (answers_after answers a text) n ≡ kept_at answers n
slot_there answers a text n ne = get_or-set_other answers (a.from - 1) (n - 1) (Some (record { number = a.number; text = text })) None ne

rest_later : (answers : List (Option Kept)) (a : Arrived) (text : List ℕ) (rest : List Arrived) → 1 ≤ a.from → list_any (is_from a.from) rest ≡ false → AllByRecursion (IsLater answers) rest
    → AllByRecursion (IsLater (answers_after answers a text)) rest
rest_later answers a text [] low apart h = tt
rest_later answers a text (b ∷ rest) low apart h =
    let two : _ = or_none (b.from == a.from) (list_any (is_from a.from) rest) apart in
    let ne : b.from - 1 ≢ a.from - 1 = λ e. not_from b.from a.from two.0 (same_slot b.from a.from h.0.low low e) in
    (record { later = ap (λ o. is_reached o b.number) (slot_there answers a text b.from ne) ∙ h.0.later; low = h.0.low; high = h.0.high }, rest_later answers a text rest low two.1 h.1)

answered_sound : (s : State) (text : List ℕ) → Sound s → Sound (answered s text)
answered_sound s text h = by s.arrived h.later h.apart
  where
    by : (xs : List Arrived) → AllByRecursion (IsLater s.answers) xs → AreApart xs → Sound (answer_first s xs text)
    by [] later apart = h
    by (a ∷ rest) later apart = record {
      later = rest_later s.answers a text rest later.0.low apart.0 later.1;
      apart = apart.1;
      slots = length-set s.answers (a.from - 1) (Some (record { number = a.number; text = text })) ∙ h.slots;
    }

reached_same : (q : ℕ) → nat_le q q ≡ true
reached_same q = grind arith

reached_up : (q j k : ℕ) → nat_le q j ≡ true → nat_le k j ≡ false → nat_le q k ≡ true
reached_up q j k h n = grind arith

slot_up : (o : Option Kept) (q k : ℕ) → is_reached o q ≡ true → is_reached o k ≡ false → nat_le q k ≡ true
slot_up None q k h n = cc
slot_up (Some j) q k h n = reached_up q j.number k h n

slot_or : (a b : ℕ) → (a ≡ b) ⊎ (a ≢ b)
slot_or a b = by (a == b) refl
  where
    by : (t : Bool) → (a == b) ≡ t → (a ≡ b) ⊎ (a ≢ b)
    by true is = inl (is_equal a b is)
    by false is = inr (λ e. not_from a b is e)

answered_past : (s : State) (text : List ℕ) (n q : ℕ) → Sound s → is_past s n q ≡ true → is_past (answered s text) n q ≡ true
answered_past s text n q h past = by s.arrived h.later (or_either (is_reached (kept_at s.answers n) q) (is_taken (is_some s.proposed) (first_in s.arrived) n q) past)
  where
    by : (xs : List Arrived) → AllByRecursion (IsLater s.answers) xs → ((is_reached (kept_at s.answers n) q ≡ true) ⊎ (is_taken (is_some s.proposed) (first_in xs) n q ≡ true))
        → is_past (answer_first s xs text) n q ≡ true
    by [] later k = past
    by (a ∷ rest) later (inr k) =
        let two : _ = two_true (is_some s.proposed) ((a.from == n) && (a.number == q)) k in
        let it : _ = two_true (a.from == n) (a.number == q) two.1 in
        or_left (is_reached (kept_at (answers_after s.answers a text) n) q) _
        (ap (λ o. is_reached o q) (slot_here s.answers a text n (ap (λ j. j - 1) (sym (is_equal a.from n it.0))) (later.0.low, later.0.high) h.slots)
        ∙ (ap (λ j. nat_le j a.number) (sym (is_equal a.number q it.1)) ∙ reached_same a.number))
    by (a ∷ rest) later (inl k) = by_slot (slot_or (n - 1) (a.from - 1))
      where
        by_slot : ((n - 1 ≡ a.from - 1) ⊎ (n - 1 ≢ a.from - 1)) → is_past (answer_first s (a ∷ rest) text) n q ≡ true
        by_slot (inr ne) = or_left (is_reached (kept_at (answers_after s.answers a text) n) q) _ (ap (λ o. is_reached o q) (slot_there s.answers a text n ne) ∙ k)
        by_slot (inl e) =
            or_left (is_reached (kept_at (answers_after s.answers a text) n) q) _
            (ap (λ o. is_reached o q) (slot_here s.answers a text n e (later.0.low, later.0.high) h.slots)
            ∙ slot_up (kept_at s.answers n) q a.number k (ap (λ i. is_reached (slice_index_or s.answers i None) a.number) e ∙ later.0.later))

rest_all : (P : Arrived → Type 0) (s : State) (text : List ℕ) → AllByRecursion P s.arrived → AllByRecursion P (answered s text).arrived
rest_all P s text h = by s.arrived h
  where
    by : (xs : List Arrived) → AllByRecursion P xs → AllByRecursion P (answer_first s xs text).arrived
    by [] k = h
    by (a ∷ rest) k = k.1

-- ---- it goes on

same_sound : (s t : State) → SameHand s t → Sound s → Sound t
same_sound s t f h = record {
  later = subst (λ os. AllByRecursion (IsLater os) t.arrived) (sym f.1) (subst (λ xs. AllByRecursion (IsLater s.answers) xs) (sym f.0) h.later);
  apart = subst AreApart (sym f.0) h.apart;
  slots = ap (λ (os : List (Option Kept)). length os) f.1 ∙ h.slots;
}

same_past : (s t : State) (n q : ℕ) → SameHand s t → is_past s n q ≡ true → is_past t n q ≡ true
same_past s t n q f h =
    ap (λ os. is_reached (kept_at os n) q || is_taken (is_some t.proposed) (first_in t.arrived) n q) f.1
    ∙ (ap (λ xs. is_reached (kept_at s.answers n) q || is_taken (is_some t.proposed) (first_in xs) n q) f.0
    ∙ (ap (λ b. is_reached (kept_at s.answers n) q || is_taken b (first_in s.arrived) n q) f.2 ∙ h))

one_sound : (C : Arrived → Type 0) (s t : State) → ((a : Arrived) → C a → InRange a) → Stays_or_comes C s t → Sound s → Sound t
one_sound C s t range (inl f) h = same_sound s t f h
one_sound C s t range (inr k) h = subst Sound (sym k.is) (comes_sound s k.request k.new (range k.request k.cause) h)

one_past : (C : Arrived → Type 0) (s t : State) (n q : ℕ) → Stays_or_comes C s t → is_past s n q ≡ true → is_past t n q ≡ true
one_past C s t n q (inl f) h = same_past s t n q f h
one_past C s t n q (inr k) h = ap (λ (z : State). is_past z n q) k.is ∙ comes_past s k.request n q h

one_all : (C P : Arrived → Type 0) (s t : State) → ((a : Arrived) → C a → P a) → Stays_or_comes C s t → AllByRecursion P s.arrived → AllByRecursion P t.arrived
one_all C P s t so (inl f) h = subst (AllByRecursion P) (sym f.0) h
one_all C P s t so (inr k) h = subst (λ (z : State). AllByRecursion P z.arrived) (sym k.is) (end_all P s.arrived k.request h (so k.request k.cause))

pub goes_sound : (C : Arrived → Type 0) (s t : State) → ((a : Arrived) → C a → InRange a) → HandGoes C s t → Sound s → Sound t
goes_sound C s t range (inl k) h = one_sound C s t range k h
goes_sound C s t range (inr k) h = one_sound C (answered s k.text) t range k.then (answered_sound s k.text h)

pub goes_past : (C : Arrived → Type 0) (s t : State) (n q : ℕ) → HandGoes C s t → Sound s → is_past s n q ≡ true → is_past t n q ≡ true
goes_past C s t n q (inl k) h past = one_past C s t n q k past
goes_past C s t n q (inr k) h past = one_past C (answered s k.text) t n q k.then (answered_past s k.text n q h past)

pub goes_all : (C P : Arrived → Type 0) (s t : State) → ((a : Arrived) → C a → P a) → HandGoes C s t → AllByRecursion P s.arrived → AllByRecursion P t.arrived
goes_all C P s t so (inl k) h = one_all C P s t so k h
goes_all C P s t so (inr k) h = one_all C P (answered s k.text) t so k.then (rest_all P s k.text h)

-- ---- an update is proposed for the first

first_all : (P : Arrived → Type 0) (xs : List Arrived) (a : Arrived) → AllByRecursion P xs → first_in xs ≡ Some a → P a
first_all P [] a h e = cc
first_all P (x ∷ xs) a h e = subst P (some_is x a e) h.0
  where
    some_is : (x y : Arrived) → Some x ≡ Some y → x ≡ y
    some_is x y e = cc

pub first_of : (P : Arrived → Type 0) (s : State) (a : Arrived) → AllByRecursion P s.arrived → first_in s.arrived ≡ Some a → P a
first_of P s a h e = first_all P s.arrived a h e

pub proposing_sound : (s : State) (place missing : ℕ) → Sound s → Sound (proposing s place missing)
proposing_sound s place missing h = record { later = h.later; apart = h.apart; slots = h.slots }

-- it was not past
pub first_waits : (s : State) (a : Arrived) → Sound s → s.proposed ≡ None → first_in s.arrived ≡ Some a → is_past s a.from a.number ≡ false
first_waits s a h none first =
    let k : IsLater s.answers a = first_all (IsLater s.answers) s.arrived a h.later first in
    both_no (is_reached (kept_at s.answers a.from) a.number) _ k.later
    (ap (λ o. is_taken (is_some o) (first_in s.arrived) a.from a.number) none ∙ no_taken (first_in s.arrived))
  where
    both_no : (b d : Bool) → b ≡ false → d ≡ false → (b || d) ≡ false
    both_no true d x y = cc
    both_no false d x y = y

    no_taken : (o : Option Arrived) → is_taken false o a.from a.number ≡ false
    no_taken None = refl
    no_taken (Some b) = refl

-- .. and is past then, with all that was
pub first_taken : (s : State) (place missing : ℕ) (a : Arrived) → first_in s.arrived ≡ Some a → is_past (proposing s place missing) a.from a.number ≡ true
first_taken s place missing a first =
    or_right (is_reached (kept_at s.answers a.from) a.number) _
    (ap (λ o. is_taken true o a.from a.number) first ∙ true_two (a.from == a.from) (a.number == a.number) (is_same a.from) (is_same a.number))

pub proposing_past : (s : State) (place missing n q : ℕ) → is_past s n q ≡ true → is_past (proposing s place missing) n q ≡ true
proposing_past s place missing n q h = by (or_either (is_reached (kept_at s.answers n) q) (is_taken (is_some s.proposed) (first_in s.arrived) n q) h)
  where
    taken : (p : Bool) (o : Option Arrived) → is_taken p o n q ≡ true → is_taken true o n q ≡ true
    taken p None k = k
    taken p (Some b) k = (two_true p ((b.from == n) && (b.number == q)) k).1

    by : ((is_reached (kept_at s.answers n) q ≡ true) ⊎ (is_taken (is_some s.proposed) (first_in s.arrived) n q ≡ true)) → is_past (proposing s place missing) n q ≡ true
    by (inl k) = or_left (is_reached (kept_at s.answers n) q) _ k
    by (inr k) = or_right (is_reached (kept_at s.answers n) q) _ (taken (is_some s.proposed) (first_in s.arrived) k)
