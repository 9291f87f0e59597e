-- What lines count of the ticks of an attempt: none is lost where they do not begin anew.
use Rattle.std.specs.Prelude.{ℕ, ◌+◌, ◌==◌, ◌&&◌, ◌||◌, ◌≡◌, ◌≤◌, ◌⊎◌, not, Bool, true, false, List, [], ◌∷◌, if◌then◌else◌}
use Rattle.std.specs.List.{list_any}
use Rattle.std.proofs.Common.{arith, refl, sym, ◌∙◌, inl, inr}
use Rattle.cmm_attempt.proofs.Basics.{and_cases, false_true, or_cases}
use Rattle.history.specs.Attempts.{asks_first, gets_task, is_question, phase_tick}
use Rattle.history.specs.Letters.{sends}
use Rattle.history.specs.Moment.{Moment}
use Rattle.history.specs.Names as name
use Rattle.history.specs.Names.{Name, named, same_name}
use Rattle.history.specs.Order.{since}
use Rattle.history.specs.Seizing.{is_attempt, is_install}
use Rattle.history.specs.Setting.{Setting, coordinator}
use Rattle.history.specs.Trace.{attempt, delivered, device, installed, sent, ticked}
use Rattle.run_lines.proofs.Adds.{onto}
use Rattle.run_outcomes.specs.silence.Asked.{Query, asked_in, asks, is_sent}
use Rattle.run_outcomes.specs.silence.Ticks.{asks_in, brings_task, tasks_in}
use Rattle.run_outcomes.proofs.silence.Lines.{any_asked}
use Rattle.run_outcomes.proofs.silence.Outgoing.{asked_more, asked_one}

or_none : (a b : Bool) → (a || b) ≡ false → (a ≡ false) × (b ≡ false)
or_none true b h = absurd (false_true (sym h))
or_none false b h = (refl, h)

-- ---- one line

if_same : (b : Bool) (k : ℕ) → b ≡ false → k ≤ (if b then 0 else k)
if_same true k h = absurd (false_true (sym h))
if_same false k h = omega arith

if_more : (b : Bool) (k : ℕ) → k ≤ (if b then k + 1 else k)
if_more true k = omega arith
if_more false k = omega arith

same_le : (k : ℕ) → k ≤ k
same_le k = omega arith

le_then : (a b c : ℕ) → a ≤ b → b ≤ c → a ≤ c
le_then a b c h k = omega (arith, h, k)

one_more : (S : Setting) (e : ℕ) (x : Moment) (ms : List Moment) → is_attempt e x ≡ false → is_install (coordinator e) e x ≡ false → asks_first (coordinator e) (since (is_attempt e) ms) x ≡ false → brings_task S (coordinator e) ms x ≡ false
    → phase_tick S e ms ≤ phase_tick S e (x ∷ ms)
one_more S e (attempt f members) ms begun installs asks tasks = if_same (f == e) (phase_tick S e ms) begun
one_more S e (ticked n) ms begun installs asks tasks = if_more (n == coordinator e) (phase_tick S e ms)
one_more S e (sent p a b called bytes) ms begun installs asks tasks = if_same (asks_first (coordinator e) (since (is_attempt e) ms) (sent p a b called bytes)) (phase_tick S e ms) asks
one_more S e (delivered p a b) ms begun installs asks tasks = if_same (gets_task S (coordinator e) ms (delivered p a b)) (phase_tick S e ms) tasks
one_more S e (device n d done reply) ms begun installs asks tasks = if_same (gets_task S (coordinator e) ms (device n d done reply)) (phase_tick S e ms) tasks
one_more S e (installed n f) ms begun installs asks tasks = if_same ((n == coordinator e) && (f == e)) (phase_tick S e ms) installs
one_more S e _ ms begun installs asks tasks = same_le (phase_tick S e ms)

-- ---- more of them

pub more_ticks : (S : Setting) (e : ℕ) (xs ms : List Moment) → list_any (is_attempt e) xs ≡ false → list_any (is_install (coordinator e) e) xs ≡ false → asks_in e xs ms ≡ false → tasks_in S (coordinator e) xs ms ≡ false
    → phase_tick S e ms ≤ phase_tick S e (onto xs ms)
more_ticks S e [] ms begun installs asks tasks = same_le (phase_tick S e ms)
more_ticks S e (x ∷ xs) ms begun installs asks tasks =
    let b : (is_attempt e x ≡ false) × (list_any (is_attempt e) xs ≡ false) = or_none (is_attempt e x) (list_any (is_attempt e) xs) begun in
    let i : (is_install (coordinator e) e x ≡ false) × (list_any (is_install (coordinator e) e) xs ≡ false) = or_none (is_install (coordinator e) e x) (list_any (is_install (coordinator e) e) xs) installs in
    let k : (asks_first (coordinator e) (since (is_attempt e) ms) x ≡ false) × (asks_in e xs (x ∷ ms) ≡ false) = or_none (asks_first (coordinator e) (since (is_attempt e) ms) x) (asks_in e xs (x ∷ ms)) asks in
    let t : (brings_task S (coordinator e) ms x ≡ false) × (tasks_in S (coordinator e) xs (x ∷ ms) ≡ false) = or_none (brings_task S (coordinator e) ms x) (tasks_in S (coordinator e) xs (x ∷ ms)) tasks in
    le_then (phase_tick S e ms) (phase_tick S e (x ∷ ms)) (phase_tick S e (onto xs (x ∷ ms))) (one_more S e x ms b.0 i.0 k.0 t.0) (more_ticks S e xs (x ∷ ms) b.1 i.1 k.1 t.1)

-- ---- what is asked for the first time

question_sent : (q : Name) → is_question q ≡ true → is_sent q ≡ true
question_sent name.Collect h = refl
question_sent name.Install h = refl
question_sent (name.SeizeQuorum d) h = refl
question_sent (name.SeizeData d) h = refl
question_sent _ h = absurd (false_true h)

name_itself : (q : Name) → is_question q ≡ true → same_name q q ≡ true
name_itself name.Collect h = refl
name_itself name.Install h = refl
name_itself (name.SeizeQuorum d) h = itself d
  where
    itself : (n : ℕ) → (n == n) ≡ true
    itself n = grind arith
name_itself (name.SeizeData d) h = itself d
  where
    itself : (n : ℕ) → (n == n) ≡ true
    itself n = grind arith
name_itself _ h = absurd (false_true h)

unless : (b : Bool) → not b ≡ true → b ≡ false
unless true h = absurd (false_true h)
unless false h = refl

not_yet : (e : ℕ) (q : Query) (x : Moment) (ms : List Moment) → is_attempt e x ≡ false → asked_in e q (x ∷ ms) ≡ false → asked_in e q ms ≡ false
not_yet e q x ms none h = by_value (asked_in e q ms) refl
  where
    by_value : (b : Bool) → asked_in e q ms ≡ b → b ≡ false
    by_value true is = absurd (false_true (sym h ∙ asked_one e q x ms none is))
    by_value false is = refl

-- it was not asked before, and is then
abbrev pub IsAsked : ℕ → List Moment → List Moment → Type 0 → Type 0
IsAsked e before after G = (m : ℕ) (q : Name) → is_question q ≡ true → asked_in e (record { to = m; called = q }) before ≡ false → asked_in e (record { to = m; called = q }) after ≡ true → G

first_one : (G : Type 0) (e : ℕ) (x : Moment) (xs ms : List Moment) → list_any (is_attempt e) xs ≡ false → IsAsked e ms (onto xs (x ∷ ms)) G → asks_first (coordinator e) (since (is_attempt e) ms) x ≡ true → G
first_one G e (sent p a b called bytes) xs ms none f h =
    let two : (((a == coordinator e) && is_question (named called)) ≡ true) × (not (list_any (sends (coordinator e) b (named called)) (since (is_attempt e) ms)) ≡ true) =
    and_cases ((a == coordinator e) && is_question (named called)) (not (list_any (sends (coordinator e) b (named called)) (since (is_attempt e) ms))) h in
    let own : ((a == coordinator e) ≡ true) × (is_question (named called) ≡ true) = and_cases (a == coordinator e) (is_question (named called)) two.0 in
    let q : Query = record { to = b; called = named called } in
    f b (named called) own.1 (sym (any_asked e q ms (question_sent (named called) own.1)) ∙ unless (list_any (sends (coordinator e) b (named called)) (since (is_attempt e) ms)) two.1)
    (asked_more e q xs (sent p a b called bytes ∷ ms) none (or_first ((a == coordinator e) && asks q b (named called)) (asked_in e q ms) (all_true (a == coordinator e) (is_sent (named called)) (b == b) (same_name (named called) (named called)) own.0 (question_sent (named called) own.1) (itself b) (name_itself (named called) own.1))))
  where
    itself : (n : ℕ) → (n == n) ≡ true
    itself n = grind arith

    or_first : (a b : Bool) → a ≡ true → (a || b) ≡ true
    or_first true b h = refl
    or_first false b h = absurd (false_true h)

    all_true : (a b c d : Bool) → a ≡ true → b ≡ true → c ≡ true → d ≡ true → (a && (b && c && d)) ≡ true
    all_true true true true d h k j l = l
    all_true true true false d h k j l = absurd (false_true j)
    all_true true false c d h k j l = absurd (false_true k)
    all_true false b c d h k j l = absurd (false_true h)
first_one G e _ xs ms none f h = absurd (false_true h)

pub asked_first : (G : Type 0) (e : ℕ) (xs ms : List Moment) → list_any (is_attempt e) xs ≡ false → IsAsked e ms (onto xs ms) G → asks_in e xs ms ≡ true → G
asked_first G e [] ms none f h = absurd (false_true h)
asked_first G e (x ∷ xs) ms none f h = by_place (λ g k. asked_first G e xs (x ∷ ms) two.1 g k) (or_cases (asks_first (coordinator e) (since (is_attempt e) ms) x) (asks_in e xs (x ∷ ms)) h)
  where
    two : (is_attempt e x ≡ false) × (list_any (is_attempt e) xs ≡ false)
    two = or_none (is_attempt e x) (list_any (is_attempt e) xs) none

    by_place : (IsAsked e (x ∷ ms) (onto xs (x ∷ ms)) G → asks_in e xs (x ∷ ms) ≡ true → G) → (asks_first (coordinator e) (since (is_attempt e) ms) x ≡ true) ⊎ (asks_in e xs (x ∷ ms) ≡ true) → G
    by_place rest (inl here) = first_one G e x xs ms two.1 f here
    by_place rest (inr there) = rest (λ m q is fresh now. f m q is (not_yet e (record { to = m; called = q }) x ms two.0 fresh) now) there
