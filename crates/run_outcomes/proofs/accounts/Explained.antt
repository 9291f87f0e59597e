-- Each device that an attempt does not hold as it installs is accounted for.
use Rattle.std.specs.Prelude.{ℕ, ◌≡◌, ◌==◌, ◌&&◌, ◌||◌, not, nat_lt, Bool, true, false, List, [], ◌∷◌, Some, find, if◌then◌else◌}
use Rattle.std.specs.List.{list_all, list_any, count_by}
use Rattle.std.proofs.Common.{refl, arith}
use Rattle.cl_base.specs.Seizings.{SeizeResult}
use Rattle.cl_base.specs.declared.header.Header.{Header}
use Rattle.cl_base.specs.declared.seizing.SeizeEnd.TheVariants as end
use Rattle.cl_base.specs.declared.seizing.SeizeEnd.TheVariants.{Expelled, Fault, NotRegistered}
use Rattle.history.specs.Attempts.{is_ended_so, reads_keys, reserves, shows_contended, shows_contention, shows_greater, shows_word, some_member}
use Rattle.history.specs.Member.{members_of}
use Rattle.history.specs.Moment.{Moment}
use Rattle.history.specs.Order.{since, somewhere}
use Rattle.history.specs.Seizing.{is_attempt, is_members_key, is_number}
use Rattle.history.specs.Setting.{nodes_of}
use Rattle.cmm_attempt.proofs.Basics.{and_cases}
use Rattle.history.specs.Trace.{device}
use Rattle.pgr_device.specs.declared.command.PrAnswer.TheVariants as answer
use Rattle.pgr_device.specs.declared.command.PrCommand.TheVariants as command
use Rattle.status_report.specs.declared.device_entry.DeviceAnswer.TheVariants.{Given}
use Rattle.run_seizings.proofs.Progress.{no_truth, or_both}
use Rattle.run_outcomes.proofs.results.Stays.{both_true}
use Rattle.run_outcomes.specs.results.Shown.{EndShown}

-- ---- by how a seizing ended

-- what shows one thing of a member shows another
any_maps : (f g : ℕ → Bool) (ns : List ℕ) → ((n : ℕ) → f n ≡ true → g n ≡ true) → list_any f ns ≡ true → list_any g ns ≡ true
any_maps f g [] h k = absurd (no_truth k)
any_maps f g (n ∷ ns) h k = or_both (f n) (list_any f ns) (g n) (list_any g ns) (h n) (any_maps f g ns h) k

somewhere_maps : (p q : List Moment → Moment → Bool) (ms : List Moment) → ((before : List Moment) (x : Moment) → p before x ≡ true → q before x ≡ true) → somewhere p ms ≡ true → somewhere q ms ≡ true
somewhere_maps p q [] h k = absurd (no_truth k)
somewhere_maps p q (x ∷ ms) h k = or_both (p ms x) (somewhere p ms) (q ms x) (somewhere q ms) (h ms x) (somewhere_maps p q ms h) k

pub member_maps : (e : ℕ) (ms : List Moment) (p q : ℕ → List Moment → Moment → Bool) → ((m : ℕ) (before : List Moment) (x : Moment) → p m before x ≡ true → q m before x ≡ true) → some_member e ms p ≡ true
    → some_member e ms q ≡ true
member_maps e ms p q h k =
    any_maps (λ m. somewhere (p m) (since (is_attempt e) ms)) (λ m. somewhere (q m) (since (is_attempt e) ms)) (nodes_of (members_of e ms)) (λ m. somewhere_maps (p m) (q m) (since (is_attempt e) ms) (h m)) k

-- ---- what `is_not_held` asks

first_of_five : (a b c d f : Bool) → a ≡ true → (a || b || c || d || f) ≡ true
first_of_five true b c d f k = refl
first_of_five false b c d f k = absurd (no_truth k)

second_of_five : (a b c d f : Bool) → b ≡ true → (a || b || c || d || f) ≡ true
second_of_five true b c d f k = refl
second_of_five false true c d f k = refl
second_of_five false false c d f k = absurd (no_truth k)

third_of_five : (a b c d f : Bool) → c ≡ true → (a || b || c || d || f) ≡ true
third_of_five true b c d f k = refl
third_of_five false true c d f k = refl
third_of_five false false true d f k = refl
third_of_five false false false d f k = absurd (no_truth k)

fourth_of_five : (a b c d f : Bool) → d ≡ true → (a || b || c || d || f) ≡ true
fourth_of_five true b c d f k = refl
fourth_of_five false true c d f k = refl
fourth_of_five false false true d f k = refl
fourth_of_five false false false true f k = refl
fourth_of_five false false false false f k = absurd (no_truth k)

pub fifth_of_five : (a b c d f : Bool) → f ≡ true → (a || b || c || d || f) ≡ true
fifth_of_five true b c d f k = refl
fifth_of_five false true c d f k = refl
fifth_of_five false false true d f k = refl
fifth_of_five false false false true f k = refl
fifth_of_five false false false false true k = refl
fifth_of_five false false false false false k = absurd (no_truth k)

-- a word that was read or found is the greater one
same_word : (e w v : ℕ) → (v == w) ≡ true → nat_lt e w ≡ true → nat_lt e v ≡ true
same_word e w v i j = grind arith

word_greater : (e d w m : ℕ) (before : List Moment) (x : Moment) → nat_lt e w ≡ true → shows_word d w m before x ≡ true → shows_greater e d m before x ≡ true
word_greater e d w m before (device n x command.Word (Given (answer.Word v))) above k =
    let two : (((n == m) && (x == d)) ≡ true) × ((v == w) ≡ true) = and_cases ((n == m) && (x == d)) (v == w) k in
    both_true ((n == m) && (x == d)) (nat_lt e v) two.0 (same_word e w v two.1 above)
word_greater e d w m before (device n x (command.Swap expect new) (Given (answer.Miscompare v))) above k =
    let two : (((n == m) && (x == d)) ≡ true) × ((v == w) ≡ true) = and_cases ((n == m) && (x == d)) (v == w) k in
    both_true ((n == m) && (x == d)) (nat_lt e v) two.0 (same_word e w v two.1 above)
word_greater e d w m before _ above k = absurd (no_truth k)

-- where a key of no member is found first, not all are members'
not_all : (p : ℕ → Bool) (key : ℕ) (keys : List ℕ) → is_number key (find (λ k. not (p k)) keys) ≡ true → not (list_all p keys) ≡ true
not_all p key [] k = absurd (no_truth k)
not_all p key (j ∷ keys) k = by_test (p j) k (not_all p key keys)
  where
    by_test : (b : Bool) → is_number key (if not b then Some j else find (λ i. not (p i)) keys) ≡ true → (is_number key (find (λ i. not (p i)) keys) ≡ true → not (list_all p keys) ≡ true)
        → not (b && list_all p keys) ≡ true
    by_test true k next = next k
    by_test false k next = refl

contended_so : (h : Header) (members d key m : ℕ) (before : List Moment) (x : Moment) → shows_contended h members d key m before x ≡ true → shows_contention h members d m before x ≡ true
contended_so h members d key m before (device n x command.Keys (Given (answer.Keys keys))) k =
    let last : Bool = count_by (reads_keys m d) (since (reserves m d) before) == 63 in
    let two : (((n == m) && (x == d) && is_number key (find (λ j. not (is_members_key h members j)) keys)) ≡ true) × (last ≡ true) =
    and_cases ((n == m) && (x == d) && is_number key (find (λ j. not (is_members_key h members j)) keys)) last k in
    let parts : (((n == m) && (x == d)) ≡ true) × (is_number key (find (λ j. not (is_members_key h members j)) keys) ≡ true) =
    and_cases ((n == m) && (x == d)) (is_number key (find (λ j. not (is_members_key h members j)) keys)) two.0 in
    both_true ((n == m) && (x == d) && not (list_all (is_members_key h members) keys)) last
    (both_true ((n == m) && (x == d)) (not (list_all (is_members_key h members) keys)) parts.0 (not_all (is_members_key h members) key keys parts.1)) two.1
contended_so h members d key m before _ k = absurd (no_truth k)

-- device lines show that d is lost
abbrev pub is_shown_lost : Header → ℕ → ℕ → List Moment → Bool
is_shown_lost h e d before =
    some_member e before (shows_greater e d) || is_ended_so h e d before Expelled || some_member e before (shows_contention h (members_of e before) d)
    || is_ended_so h e d before Fault || false

pub first_four : (a b c d f : Bool) → (a || b || c || d || false) ≡ true → (a || b || c || d || f) ≡ true
first_four true b c d f k = refl
first_four false true c d f k = refl
first_four false false true d f k = refl
first_four false false false true f k = refl
first_four false false false false f k = absurd (no_truth k)

-- a seizing that ended otherwise than held, or not registered
abbrev pub IsOther : SeizeResult → Type 0
IsOther (end.Held keys) = ⊥
IsOther (end.NotRegistered keys) = ⊥
IsOther _ = Unit {0}

pub lost_so : (h : Header) (e d n : ℕ) (ms : List Moment) (r : SeizeResult) → IsOther r → EndShown h e d ms n r → is_shown_lost h e d ms ≡ true
lost_so h e d n ms (end.Held keys) other k = absurd other
lost_so h e d n ms (end.NotRegistered keys) other k = absurd other
lost_so h e d n ms (end.Greater w) other k =
    let two : (nat_lt e w ≡ true) × (some_member e ms (shows_word d w) ≡ true) = and_cases (nat_lt e w) (some_member e ms (shows_word d w)) k in
    first_of_five (some_member e ms (shows_greater e d)) _ _ _ _ (member_maps e ms (shows_word d w) (shows_greater e d) (λ m before x shown. word_greater e d w m before x two.0 shown) two.1)
lost_so h e d n ms end.Expelled other k = second_of_five (some_member e ms (shows_greater e d)) (is_ended_so h e d ms Expelled) _ _ _ k
lost_so h e d n ms (end.Contended key) other k =
    third_of_five (some_member e ms (shows_greater e d)) (is_ended_so h e d ms Expelled) (some_member e ms (shows_contention h (members_of e ms) d)) _ _
    (member_maps e ms (shows_contended h (members_of e ms) d key) (shows_contention h (members_of e ms) d) (λ m before x shown. contended_so h (members_of e ms) d key m before x shown) k)
lost_so h e d n ms end.Fault other k =
    fourth_of_five (some_member e ms (shows_greater e d)) (is_ended_so h e d ms Expelled) (some_member e ms (shows_contention h (members_of e ms) d)) (is_ended_so h e d ms Fault) _ k
