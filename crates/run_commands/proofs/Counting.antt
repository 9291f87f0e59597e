-- No more commands have a request in the queue of a node than wait, so a queue that is full is full of commands and of monitors' requests.
use Rattle.std.specs.Prelude.{ℕ, ◌+◌, ◌≡◌, ◌≢◌, ◌≤◌, ◌==◌, ◌&&◌, ◌||◌, nat_le, not, Bool, true, false, List, [], ◌∷◌, length, if◌then◌else◌}
use Rattle.std.specs.List.{AllByRecursion, count_by, list_any}
use Rattle.std.proofs.Common.{refl, sym, ap, subst, arith}
use Rattle.std.proofs.lemmas.List.Recursion.{is_count_by}
use Rattle.cmm_attempt.proofs.Basics.{and_cases, false_true}
use Rattle.request_queue.specs.declared.request.Request.{Request}
use Rattle.status_report.specs.declared.command_entry.Answer.TheVariants as answer
use Rattle.status_report.specs.declared.command_entry.CommandEntry.TheVariants as command
use Rattle.status_report.specs.declared.entry.Entry.TheVariants as entry
use Rattle.history.specs.Commands.{count_monitors, count_waiting, full, is_answered_to, is_monitors, is_waiting_one}
use Rattle.history.specs.Commands.Own.{Full, MayBeFull, Taken}
use Rattle.history.specs.Moment.{Moment, Part, Said, Told}
use Rattle.history.specs.Order.{since}
use Rattle.history.specs.Requests.{is_asking}
use Rattle.history.specs.Seizing.{is_boot}
use Rattle.history.specs.Setting.{Setting}
use Rattle.run_commands.specs.Guards.Hand.{Free}
use Rattle.run_commands.specs.Own.{FitsCase}
use Rattle.run_commands.proofs.Owed.{AreDue, AreOnce, Others, Owed, is_told, is_untold}
use Rattle.run_commands.proofs.Tallies.{le_same, le_then, tally, waits_here}

-- ---- the line of a command

and_second : (a b : Bool) → b ≡ false → (a && b) ≡ false
and_second true b h = h
and_second false b h = refl

not_it : (q k j : ℕ) → (q == k) ≡ true → j ≢ k → (q == j) ≡ false
not_it q k j is ne = grind arith

-- and of no other
one_here : (n k j : ℕ) (x : Moment) → is_asking n k x ≡ true → j ≢ k → is_asking n j x ≡ false
one_here n k j (Told (entry.Command (command.Asked m q))) is ne = and_second (m == n) (q == j) (not_it q k j (and_cases (m == n) (q == k) is).1 ne)
one_here n k j (Told (entry.Command (command.Answered m q reply))) is ne = refl
one_here n k j (Told _) is ne = refl
one_here n k j (Said l) is ne = refl
one_here n k j (Part e) is ne = refl

-- ---- numbers of commands that wait, each once

abbrev IsOpen : ℕ → List Moment → List Moment → ℕ → Type 0
IsOpen n later ms k = (list_any (is_asking n k) ms ≡ true) × (list_any (is_answered_to n k) later ≡ false)

abbrev Apart : ℕ → List ℕ → Type 0
Apart k ks = AllByRecursion (λ (j : ℕ). j ≢ k) ks

abbrev Once : List ℕ → Type 0
Once [] = Unit {0}
Once (k ∷ ks) = Apart k ks × Once ks

-- without that of this line
abbrev without : ℕ → Moment → List ℕ → List ℕ
without n x [] = []
without n x (k ∷ ks) = if is_asking n k x then without n x ks else k ∷ without n x ks

left_open : (n : ℕ) (later ms : List Moment) (x : Moment) (ks : List ℕ) → AllByRecursion (IsOpen n later (x ∷ ms)) ks → AllByRecursion (IsOpen n later ms) (without n x ks)
left_open n later ms x [] h = tt
left_open n later ms x (k ∷ ks) h = by_test (is_asking n k x) h.0 (left_open n later ms x ks h.1)
  where
    by_test : (b : Bool) → ((b || list_any (is_asking n k) ms) ≡ true) × (list_any (is_answered_to n k) later ≡ false) → AllByRecursion (IsOpen n later ms) (without n x ks)
        → AllByRecursion (IsOpen n later ms) (if b then without n x ks else k ∷ without n x ks)
    by_test true o rest = rest
    by_test false o rest = (o, rest)

left_apart : (n j : ℕ) (x : Moment) (ks : List ℕ) → Apart j ks → Apart j (without n x ks)
left_apart n j x [] h = tt
left_apart n j x (k ∷ ks) h = by_test (is_asking n k x) (left_apart n j x ks h.1)
  where
    by_test : (b : Bool) → Apart j (without n x ks) → Apart j (if b then without n x ks else k ∷ without n x ks)
    by_test true rest = rest
    by_test false rest = (h.0, rest)

left_once : (n : ℕ) (x : Moment) (ks : List ℕ) → Once ks → Once (without n x ks)
left_once n x [] h = tt
left_once n x (k ∷ ks) h = by_test (is_asking n k x) (left_once n x ks h.1)
  where
    by_test : (b : Bool) → Once (without n x ks) → Once (if b then without n x ks else k ∷ without n x ks)
    by_test true rest = rest
    by_test false rest = (left_apart n k x ks h.0, rest)

-- the line of k is of no other
all_left : (n k : ℕ) (x : Moment) (ks : List ℕ) → is_asking n k x ≡ true → Apart k ks → without n x ks ≡ ks
all_left n k x [] is h = refl
all_left n k x (j ∷ ks) is h = by_test (is_asking n j x) (one_here n k j x is h.0) (all_left n k x ks is h.1)
  where
    by_test : (b : Bool) → b ≡ false → without n x ks ≡ ks → (if b then without n x ks else j ∷ without n x ks) ≡ j ∷ ks
    by_test true e rest = cc
    by_test false e rest = ap (λ (z : List ℕ). j ∷ z) rest

least : (k : ℕ) → 0 ≤ k
least k = omega arith

up_one : (a b : ℕ) → a ≤ b → 1 + a ≤ 1 + b
up_one a b h = omega (arith, h)

one_longer : (k : ℕ) (ks : List ℕ) → length (k ∷ ks) ≤ 1 + length ks
one_longer k ks = omega arith

both_longer : (k : ℕ) (ks js : List ℕ) → length ks ≤ length js → length (k ∷ ks) ≤ length (k ∷ js)
both_longer k ks js h = omega (arith, h)

both_longer_by : (k : ℕ) (ks js : List ℕ) → length ks ≤ 1 + length js → length (k ∷ ks) ≤ 1 + length (k ∷ js)
both_longer_by k ks js h = omega (arith, h)

-- at most one goes, and only by the line of one that waits
at_most_one : (n : ℕ) (later : List Moment) (x : Moment) (ks : List ℕ) → Once ks → AllByRecursion (λ (k : ℕ). list_any (is_answered_to n k) later ≡ false) ks
    → length ks ≤ (if is_waiting_one n later x then 1 + length (without n x ks) else length (without n x ks))
at_most_one n later x [] once none = least (if is_waiting_one n later x then 1 + 0 else 0)
at_most_one n later x (k ∷ ks) once none = by_test (is_asking n k x) refl (at_most_one n later x ks once.1 none.1)
  where
    same : (w : Bool) → length ks ≤ (if w then 1 + length (without n x ks) else length (without n x ks))
        → length (k ∷ ks) ≤ (if w then 1 + length (k ∷ without n x ks) else length (k ∷ without n x ks))
    same true h = both_longer_by k ks (without n x ks) h
    same false h = both_longer k ks (without n x ks) h

    gone : (w : Bool) → w ≡ true → (rest : List ℕ) → rest ≡ ks → length (k ∷ ks) ≤ (if w then 1 + length rest else length rest)
    gone true e rest is = subst (λ z. length (k ∷ ks) ≤ 1 + length z) (sym is) (one_longer k ks)
    gone false e rest is = cc

    by_test : (b : Bool) → is_asking n k x ≡ b → length ks ≤ (if is_waiting_one n later x then 1 + length (without n x ks) else length (without n x ks))
        → length (k ∷ ks) ≤ (if is_waiting_one n later x then 1 + length (if b then without n x ks else k ∷ without n x ks) else length (if b then without n x ks else k ∷ without n x ks))
    by_test true is rest = gone (is_waiting_one n later x) (waits_here n k later x is none.0) (without n x ks) (all_left n k x ks is once.0)
    by_test false is rest = same (is_waiting_one n later x) rest

unanswered : (n : ℕ) (later ms : List Moment) (ks : List ℕ) → AllByRecursion (IsOpen n later ms) ks → AllByRecursion (λ (k : ℕ). list_any (is_answered_to n k) later ≡ false) ks
unanswered n later ms [] h = tt
unanswered n later ms (k ∷ ks) h = (h.0.1, unanswered n later ms ks h.1)

-- so there are no more than lines of commands that wait
few_open : (n : ℕ) (later ms : List Moment) (ks : List ℕ) → Once ks → AllByRecursion (IsOpen n later ms) ks → length ks ≤ tally (is_waiting_one n later) ms
few_open n later [] [] once h = le_same 0
few_open n later [] (k ∷ ks) once h = absurd (false_true h.0.0)
few_open n later (x ∷ ms) ks once h =
    le_then (length ks) (if is_waiting_one n later x then 1 + length (without n x ks) else length (without n x ks)) (tally (is_waiting_one n later) (x ∷ ms))
    (at_most_one n later x ks once (unanswered n later (x ∷ ms) ks h))
    (by_test (is_waiting_one n later x) (few_open n later ms (without n x ks) (left_once n x ks once) (left_open n later ms x ks h)))
  where
    by_test : (w : Bool) → length (without n x ks) ≤ tally (is_waiting_one n later) ms
        → (if w then 1 + length (without n x ks) else length (without n x ks)) ≤ (if w then 1 + tally (is_waiting_one n later) ms else tally (is_waiting_one n later) ms)
    by_test true k = up_one (length (without n x ks)) (tally (is_waiting_one n later) ms) k
    by_test false k = k

-- ---- the queue

-- the numbers of the commands in it
abbrev told_in : List Request → List ℕ
told_in [] = []
told_in (r ∷ rs) = if r.told then r.number ∷ told_in rs else told_in rs

told_open : (n : ℕ) (ms : List Moment) (rs : List Request) → AreDue n ms rs → AllByRecursion (IsOpen n (since (is_boot n) ms) (since (is_boot n) ms)) (told_in rs)
told_open n ms [] h = tt
told_open n ms (r ∷ rs) h = by_told r.told refl (told_open n ms rs h.1)
  where
    by_told : (b : Bool) → r.told ≡ b → AllByRecursion (IsOpen n (since (is_boot n) ms) (since (is_boot n) ms)) (told_in rs)
        → AllByRecursion (IsOpen n (since (is_boot n) ms) (since (is_boot n) ms)) (if b then r.number ∷ told_in rs else told_in rs)
    by_told true is rest = (((and_cases (list_any (is_asking n r.number) (since (is_boot n) ms)) _ (h.0 is).0).0, (h.0 is).1), rest)
    by_told false is rest = rest

told_apart : (k : ℕ) (rs : List Request) → Others k rs → Apart k (told_in rs)
told_apart k [] h = tt
told_apart k (r ∷ rs) h = by_told r.told (told_apart k rs h.1)
  where
    by_told : (b : Bool) → Apart k (told_in rs) → Apart k (if b then r.number ∷ told_in rs else told_in rs)
    by_told true rest = (h.0, rest)
    by_told false rest = rest

told_once : (rs : List Request) → AreOnce rs → Once (told_in rs)
told_once [] h = tt
told_once (r ∷ rs) h = by_told r.told (told_once rs h.1)
  where
    by_told : (b : Bool) → Once (told_in rs) → Once (if b then r.number ∷ told_in rs else told_in rs)
    by_told true rest = (told_apart r.number rs h.0, rest)
    by_told false rest = rest

one_told : (r : Request) (rs : List Request) (k : ℕ) (ks : List ℕ) (c : ℕ) → length rs ≡ length ks + c → length (r ∷ rs) ≡ length (k ∷ ks) + c
one_told r rs k ks c h = omega (arith, h)

one_untold : (r : Request) (rs : List Request) (b c : ℕ) → length rs ≡ b + c → length (r ∷ rs) ≡ b + (1 + c)
one_untold r rs b c h = omega (arith, h)

-- the others are of monitors
all_told : (rs : List Request) → length rs ≡ length (told_in rs) + tally is_untold rs
all_told [] = refl
all_told (r ∷ rs) = by_told r.told (all_told rs)
  where
    by_told : (b : Bool) → length rs ≡ length (told_in rs) + tally is_untold rs
        → length (r ∷ rs) ≡ length (if b then r.number ∷ told_in rs else told_in rs) + (if not b then 1 + tally is_untold rs else tally is_untold rs)
    by_told true h = one_told r rs r.number (told_in rs) (tally is_untold rs) h
    by_told false h = one_untold r rs (length (told_in rs)) (tally is_untold rs) h

counted : {X : Type 0} (p : X → Bool) (xs : List X) → tally p xs ≡ count_by p xs
counted p xs = is_count_by (tally p) p refl (λ x ys. refl) xs

enough : (l a b c d : ℕ) → nat_le 64 l ≡ true → l ≡ a + b → a ≤ c → b ≤ d → nat_le 64 (c + d) ≡ true
enough l a b c d h is k m = grind arith

-- where it is full, commands and monitors are as many
pub is_enough : (n : ℕ) (ms : List Moment) (top : ℕ) (rs : List Request) → nat_le 64 (length rs) ≡ true → Owed n ms Free top rs → nat_le 64 (count_waiting n ms + count_monitors n ms) ≡ true
is_enough n ms top rs full d =
    let later : List Moment = since (is_boot n) ms in
    enough (length rs) (length (told_in rs)) (tally is_untold rs) (count_waiting n ms) (count_monitors n ms) full (all_told rs)
    (subst (λ k. length (told_in rs) ≤ k) (counted (is_waiting_one n later) later) (few_open n later later (told_in rs) (told_once rs d.once) (told_open n ms rs d.due)))
    (subst (λ k. tally is_untold rs ≤ k) (counted (is_monitors n) later) d.monitors)

few_told : (rs : List Request) → tally is_told rs ≤ length rs
few_told [] = le_same 0
few_told (r ∷ rs) = by_told r.told (few_told rs)
  where
    up : (a : ℕ) → a ≤ length rs → 1 + a ≤ length (r ∷ rs)
    up a h = omega (arith, h)

    less : (a : ℕ) → a ≤ length rs → a ≤ length (r ∷ rs)
    less a h = omega (arith, h)

    by_told : (b : Bool) → tally is_told rs ≤ length rs → (if b then 1 + tally is_told rs else tally is_told rs) ≤ length (r ∷ rs)
    by_told true h = up (tally is_told rs) h
    by_told false h = less (tally is_told rs) h

filled : (a b c l : ℕ) → nat_le 64 c ≡ true → b ≡ c → b ≤ a → a ≤ l → nat_le 64 l ≡ true
filled a b c l h is k m = grind arith

-- where so many commands wait the queue is full
pub is_filled : (n : ℕ) (ms : List Moment) (top : ℕ) (rs : List Request) → nat_le 64 (count_waiting n ms) ≡ true → Owed n ms Free top rs → nat_le 64 (length rs) ≡ true
is_filled n ms top rs many d =
    let later : List Moment = since (is_boot n) ms in
    filled (tally is_told rs) (tally (is_waiting_one n later) later) (count_waiting n ms) (length rs) many (counted (is_waiting_one n later) later) d.most (few_told rs)

-- so the answer is that of a full queue
pub full_fits : (S : Setting) (words : List ℕ) (commands monitors : ℕ) → nat_le 64 (commands + monitors) ≡ true → FitsCase S words (full commands monitors) answer.QueueFull
full_fits S words commands monitors h = by_test (nat_le 64 commands) (nat_le 64 (commands + monitors)) h
  where
    by_test : (a b : Bool) → b ≡ true → FitsCase S words (if a then Full else (if b then MayBeFull else Taken)) answer.QueueFull
    by_test true b e = refl
    by_test false true e = refl
    by_test false false e = cc
