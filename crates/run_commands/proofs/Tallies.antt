-- How many commands of a node wait, moment by moment.
use Rattle.std.specs.Prelude.{ℕ, ◌+◌, ◌≡◌, ◌≤◌, ◌==◌, ◌&&◌, ◌||◌, not, Bool, true, false, List, [], ◌∷◌, if◌then◌else◌}
use Rattle.std.specs.List.{list_any}
use Rattle.std.proofs.Common.{refl, sym, ap, subst, ◌∙◌, arith}
use Rattle.cmm_attempt.proofs.Basics.{and_cases, false_true, same_number}
use Rattle.status_report.specs.declared.command_entry.Answer.{Answer}
use Rattle.status_report.specs.declared.command_entry.CommandEntry.TheVariants as command
use Rattle.status_report.specs.declared.entry.Entry.TheVariants as entry
use Rattle.history.specs.Commands.{is_answered_to, is_waiting_one}
use Rattle.history.specs.Moment.{Moment, Part, Said, Told}
use Rattle.history.specs.Order.{since}
use Rattle.history.specs.Requests.{is_asking}
use Rattle.history.specs.Seizing.{is_boot}
use Rattle.history.specs.Trace.{answered, asked, up}
use Rattle.run_history.proofs.Idle.{if_false, if_true}

-- ---- counts

-- how many pass the test
abbrev pub tally : {X : Type 0} → (X → Bool) → List X → ℕ
tally p [] = 0
tally p (x ∷ xs) = if p x then 1 + tally p xs else tally p xs

le_more : (k : ℕ) → k ≤ 1 + k
le_more k = omega arith

pub le_same : (k : ℕ) → k ≤ k
le_same k = omega arith

pub le_then : (a b c : ℕ) → a ≤ b → b ≤ c → a ≤ c
le_then a b c h k = omega (arith, h, k)

up_one : (a b : ℕ) → a ≤ b → 1 + a ≤ 1 + b
up_one a b h = omega (arith, h)

up_more : (a b : ℕ) → a ≤ b → a ≤ 1 + b
up_more a b h = omega (arith, h)

pub tally_more : {X : Type 0} (p : X → Bool) (x : X) (xs : List X) → tally p xs ≤ tally p (x ∷ xs)
tally_more {X} p x xs = by_test (p x)
  where
    by_test : (b : Bool) → tally p xs ≤ (if b then 1 + tally p xs else tally p xs)
    by_test true = le_more (tally p xs)
    by_test false = le_same (tally p xs)

-- by tests that say the same
tally_same : (p q : Moment → Bool) → ((m : Moment) → p m ≡ q m) → (ms : List Moment) → tally p ms ≡ tally q ms
tally_same p q same [] = refl
tally_same p q same (m ∷ ms) = by_test (p m) (q m) (same m) (tally_same p q same ms)
  where
    by_test : (a b : Bool) → a ≡ b → tally p ms ≡ tally q ms → (if a then 1 + tally p ms else tally p ms) ≡ (if b then 1 + tally q ms else tally q ms)
    by_test true true e h = ap (λ k. 1 + k) h
    by_test false false e h = h
    by_test true false e h = cc
    by_test false true e h = cc

-- ---- the commands that wait

-- how many commands of k wait
abbrev pub waiting_of : ℕ → List Moment → ℕ
waiting_of k ms = tally (is_waiting_one k (since (is_boot k) ms)) (since (is_boot k) ms)

and_here : (a b : Bool) → a ≡ true → b ≡ true → (a && b) ≡ true
and_here true b g h = h
and_here false b g h = cc

and_second : (a b : Bool) → b ≡ false → (a && b) ≡ false
and_second true b h = h
and_second false b h = refl

-- a line of no answer changes nothing of what waits before it
calm_one : (k : ℕ) (x : Moment) (later : List Moment) → ((q : ℕ) → is_answered_to k q x ≡ false) → (m : Moment) → is_waiting_one k (x ∷ later) m ≡ is_waiting_one k later m
calm_one k x later none (Told (entry.Command (command.Asked m q))) = ap (λ b. (m == k) && not (b || list_any (is_answered_to k q) later)) (none q)
calm_one k x later none (Told (entry.Command (command.Answered m q reply))) = refl
calm_one k x later none (Told _) = refl
calm_one k x later none (Said l) = refl
calm_one k x later none (Part e) = refl

-- a moment of no boot, no command and no answer leaves no more of them
pub calm_fewer : (k : ℕ) (x : Moment) (ms : List Moment) → is_boot k x ≡ false → ((q : ℕ) → is_answered_to k q x ≡ false) → ((later : List Moment) → is_waiting_one k later x ≡ false)
    → waiting_of k (x ∷ ms) ≤ waiting_of k ms
calm_fewer k x ms boot none one =
    let later : List Moment = since (is_boot k) ms in
    let all : (if is_boot k x then [] else x ∷ later) ≡ x ∷ later = if_false (is_boot k x) [] (x ∷ later) boot in
    let first : tally (is_waiting_one k (x ∷ later)) (x ∷ later) ≡ tally (is_waiting_one k (x ∷ later)) later =
    if_false (is_waiting_one k (x ∷ later) x) (1 + tally (is_waiting_one k (x ∷ later)) later) (tally (is_waiting_one k (x ∷ later)) later) (one (x ∷ later)) in
    let others : tally (is_waiting_one k (x ∷ later)) later ≡ tally (is_waiting_one k later) later =
    tally_same (is_waiting_one k (x ∷ later)) (is_waiting_one k later) (calm_one k x later none) later in
    subst (λ xs. tally (is_waiting_one k xs) xs ≤ tally (is_waiting_one k later) later) (sym all)
    (subst (λ n. n ≤ tally (is_waiting_one k later) later) (sym (first ∙ others)) (le_same (tally (is_waiting_one k later) later)))

-- a command is one more
pub asked_more : (k q : ℕ) (ms : List Moment) → waiting_of k (asked k q ∷ ms) ≤ 1 + waiting_of k ms
asked_more k q ms = by_test (is_waiting_one k (asked k q ∷ later) (asked k q))
  where
    later : List Moment
    later = since (is_boot k) ms

    others : tally (is_waiting_one k (asked k q ∷ later)) later ≡ tally (is_waiting_one k later) later
    others = tally_same (is_waiting_one k (asked k q ∷ later)) (is_waiting_one k later) (calm_one k (asked k q) later (λ r. refl)) later

    by_test : (b : Bool)
        → (if b then 1 + tally (is_waiting_one k (asked k q ∷ later)) later else tally (is_waiting_one k (asked k q ∷ later)) later) ≤ 1 + tally (is_waiting_one k later) later
    by_test true = subst (λ n. 1 + n ≤ 1 + tally (is_waiting_one k later) later) (sym others) (le_same (1 + tally (is_waiting_one k later) later))
    by_test false = subst (λ n. n ≤ 1 + tally (is_waiting_one k later) later) (sym others) (le_more (tally (is_waiting_one k later) later))

-- none waits where the node goes up
pub boot_none : (k : ℕ) (ms : List Moment) → waiting_of k (up k ∷ ms) ≤ 0
boot_none k ms =
    let later : List Moment = since (is_boot k) ms in
    subst (λ xs. tally (is_waiting_one k xs) xs ≤ 0) (sym (if_true (k == k) [] (up k ∷ later) (is_here k))) (le_same 0)
  where
    is_here : (n : ℕ) → (n == n) ≡ true
    is_here n = grind arith

-- ---- a command is answered

-- its line is of one that waits, if it is not answered
pub waits_here : (n k : ℕ) (later : List Moment) (x : Moment) → is_asking n k x ≡ true → list_any (is_answered_to n k) later ≡ false → is_waiting_one n later x ≡ true
waits_here n k later (Told (entry.Command (command.Asked m q))) is none =
    let two : ((m == n) ≡ true) × ((q == k) ≡ true) = and_cases (m == n) (q == k) is in
    and_here (m == n) (not (list_any (is_answered_to n q) later)) two.0
    (ap not (subst (λ j. list_any (is_answered_to n j) later ≡ false) (sym (same_number q k two.1)) none))
waits_here n k later (Told (entry.Command (command.Answered m q reply))) is none = absurd (false_true is)
waits_here n k later (Told _) is none = absurd (false_true is)
waits_here n k later (Said l) is none = absurd (false_true is)
waits_here n k later (Part e) is none = absurd (false_true is)

-- .. and of none, if it is
over_here : (n k : ℕ) (later : List Moment) (x : Moment) → is_asking n k x ≡ true → list_any (is_answered_to n k) later ≡ true → is_waiting_one n later x ≡ false
over_here n k later (Told (entry.Command (command.Asked m q))) is told =
    let two : ((m == n) ≡ true) × ((q == k) ≡ true) = and_cases (m == n) (q == k) is in
    and_second (m == n) (not (list_any (is_answered_to n q) later)) (ap not (subst (λ j. list_any (is_answered_to n j) later ≡ true) (sym (same_number q k two.1)) told))
over_here n k later (Told (entry.Command (command.Answered m q reply))) is told = absurd (false_true is)
over_here n k later (Told _) is told = absurd (false_true is)
over_here n k later (Said l) is told = absurd (false_true is)
over_here n k later (Part e) is told = absurd (false_true is)

-- what waits behind one more answer waits without it
waits_without : (a b c : Bool) → (a && not (b || c)) ≡ true → (a && not c) ≡ true
waits_without true false c h = h
waits_without true true c h = absurd (false_true h)
waits_without false b c h = absurd (false_true h)

still_one : (k : ℕ) (x : Moment) (later : List Moment) (m : Moment) → is_waiting_one k (x ∷ later) m ≡ true → is_waiting_one k later m ≡ true
still_one k x later (Told (entry.Command (command.Asked m q))) h = waits_without (m == k) (is_answered_to k q x) (list_any (is_answered_to k q) later) h
still_one k x later (Told (entry.Command (command.Answered m q reply))) h = h
still_one k x later (Told _) h = h
still_one k x later (Said l) h = h
still_one k x later (Part e) h = h

fewer_by : (p q : Moment → Bool) → ((m : Moment) → p m ≡ true → q m ≡ true) → (ms : List Moment) → tally p ms ≤ tally q ms
fewer_by p q so [] = le_same 0
fewer_by p q so (m ∷ ms) = by_test (p m) (q m) (so m) (fewer_by p q so ms)
  where
    by_test : (a b : Bool) → (a ≡ true → b ≡ true) → tally p ms ≤ tally q ms → (if a then 1 + tally p ms else tally p ms) ≤ (if b then 1 + tally q ms else tally q ms)
    by_test true true f h = up_one (tally p ms) (tally q ms) h
    by_test false true f h = up_more (tally p ms) (tally q ms) h
    by_test false false f h = h
    by_test true false f h = absurd (false_true (f refl))

-- one is less where a moment passes the second test alone
one_fewer : (p q t : Moment → Bool) → ((m : Moment) → p m ≡ true → q m ≡ true) → ((m : Moment) → t m ≡ true → (p m ≡ false) × (q m ≡ true)) → (ms : List Moment) → list_any t ms ≡ true
    → 1 + tally p ms ≤ tally q ms
one_fewer p q t so here [] h = absurd (false_true h)
one_fewer p q t so here (m ∷ ms) h = by_test (t m) (here m) h (fewer_by p q so ms) (one_fewer p q t so here ms)
  where
    more : (a b : Bool) → (a ≡ true → b ≡ true) → 1 + tally p ms ≤ tally q ms → 1 + (if a then 1 + tally p ms else tally p ms) ≤ (if b then 1 + tally q ms else tally q ms)
    more true true f k = up_one (1 + tally p ms) (tally q ms) k
    more false true f k = up_more (1 + tally p ms) (tally q ms) k
    more false false f k = k
    more true false f k = absurd (false_true (f refl))

    now : (a b : Bool) → a ≡ false → b ≡ true → tally p ms ≤ tally q ms → 1 + (if a then 1 + tally p ms else tally p ms) ≤ (if b then 1 + tally q ms else tally q ms)
    now false true e f k = up_one (tally p ms) (tally q ms) k
    now true b e f k = cc
    now false false e f k = cc

    by_test : (b : Bool) → (b ≡ true → (p m ≡ false) × (q m ≡ true)) → (b || list_any t ms) ≡ true → tally p ms ≤ tally q ms → (list_any t ms ≡ true → 1 + tally p ms ≤ tally q ms)
        → 1 + tally p (m ∷ ms) ≤ tally q (m ∷ ms)
    by_test true at any all rest = now (p m) (q m) (at refl).0 (at refl).1 all
    by_test false at any all rest = more (p m) (q m) (so m) (rest any)

or_first : (a b : Bool) → a ≡ true → (a || b) ≡ true
or_first true b h = refl
or_first false b h = cc

-- one that waited is one less
pub answered_less : (k q : ℕ) (reply : Answer) (ms : List Moment) → list_any (is_asking k q) (since (is_boot k) ms) ≡ true → list_any (is_answered_to k q) (since (is_boot k) ms) ≡ false
    → 1 + waiting_of k (answered k q reply ∷ ms) ≤ waiting_of k ms
answered_less k q reply ms asks stands =
    let later : List Moment = since (is_boot k) ms in
    let x : Moment = answered k q reply in
    one_fewer (is_waiting_one k (x ∷ later)) (is_waiting_one k later) (is_asking k q) (still_one k x later)
    (λ m is. (over_here k q (x ∷ later) m is (or_first ((k == k) && (q == q)) (list_any (is_answered_to k q) later) (and_here (k == k) (q == q) (is_here k) (is_here q))), waits_here k q later m is stands))
    later asks
  where
    is_here : (n : ℕ) → (n == n) ≡ true
    is_here n = grind arith
