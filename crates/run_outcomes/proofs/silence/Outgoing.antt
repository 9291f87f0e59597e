-- What more lines leave of an attempt that is under way: what it has sent, its members, and what is installed. An install that is told is followed by its Installs.
use Rattle.std.specs.Prelude.{ℕ, ◌==◌, ◌&&◌, ◌||◌, ◌≡◌, ◌⊎◌, Bool, true, false, List, [], ◌∷◌, if◌then◌else◌}
use Rattle.std.specs.List.{list_any}
use Rattle.std.proofs.Common.{arith, refl, sym, ap, subst, ◌∙◌, inl, inr}
use Rattle.cmm_attempt.proofs.Basics.{and_cases, false_true, or_cases, same_number}
use Rattle.history.specs.Contact.{AttemptsDiffer}
use Rattle.history.specs.Letters.{letter_of, sends}
use Rattle.history.specs.Member.{members_of}
use Rattle.history.specs.Moment.{Moment}
use Rattle.history.specs.Names as name
use Rattle.history.specs.Names.{named, same_name}
use Rattle.history.specs.Seizing.{is_attempt, is_install}
use Rattle.history.specs.Setting.{coordinator}
use Rattle.history.specs.Trace.{attempt, delivered, installed, sent}
use Rattle.history.specs.UnderWay.{is_under_way}
use Rattle.run_lines.proofs.Adds.{onto}
use Rattle.run_packets.specs.installs.Passing.{AllGoOut, IsMember}
use Rattle.run_outcomes.proofs.phases.Lines.{way_before}
use Rattle.run_outcomes.specs.silence.Asked.{Query, asked_in, asks, comes}
use Rattle.run_outcomes.specs.silence.AskedCourses.{to_install}

or_first : (a b : Bool) → a ≡ true → (a || b) ≡ true
or_first true b h = refl
or_first false b h = absurd (false_true h)

or_second : (a b : Bool) → b ≡ true → (a || b) ≡ true
or_second true b h = refl
or_second false b h = h

or_none : (a b : Bool) → (a || b) ≡ false → (a ≡ false) × (b ≡ false)
or_none true b h = absurd (false_true (sym h))
or_none false b h = (refl, h)

if_not : {X : Type 0} (b : Bool) (x y : X) → b ≡ false → (if b then x else y) ≡ y
if_not true x y h = absurd (false_true (sym h))
if_not false x y h = refl

-- ---- one line more

pub asked_one : (e : ℕ) (q : Query) (x : Moment) (ms : List Moment) → is_attempt e x ≡ false → asked_in e q ms ≡ true → asked_in e q (x ∷ ms) ≡ true
asked_one e q (attempt f members) ms none h = if_not (f == e) false (asked_in e q ms) none ∙ h
asked_one e q (sent p c m called bytes) ms none h = or_second ((c == coordinator e) && asks q m (named called)) (asked_in e q ms) h
asked_one e q (delivered p a b) ms none h = or_second (comes e q (letter_of p ms)) (asked_in e q ms) h
asked_one e q _ ms none h = h

members_one : (e : ℕ) (x : Moment) (ms : List Moment) → is_attempt e x ≡ false → members_of e (x ∷ ms) ≡ members_of e ms
members_one e (attempt f members) ms none = if_not (f == e) members (members_of e ms) none
members_one e _ ms none = refl

-- ---- more of them

pub asked_more : (e : ℕ) (q : Query) (xs ms : List Moment) → list_any (is_attempt e) xs ≡ false → asked_in e q ms ≡ true → asked_in e q (onto xs ms) ≡ true
asked_more e q [] ms none h = h
asked_more e q (x ∷ xs) ms none h =
    let two : (is_attempt e x ≡ false) × (list_any (is_attempt e) xs ≡ false) = or_none (is_attempt e x) (list_any (is_attempt e) xs) none in
    asked_more e q xs (x ∷ ms) two.1 (asked_one e q x ms two.0 h)

pub members_more : (e : ℕ) (xs ms : List Moment) → list_any (is_attempt e) xs ≡ false → members_of e (onto xs ms) ≡ members_of e ms
members_more e [] ms none = refl
members_more e (x ∷ xs) ms none =
    let two : (is_attempt e x ≡ false) × (list_any (is_attempt e) xs ≡ false) = or_none (is_attempt e x) (list_any (is_attempt e) xs) none in
    members_more e xs (x ∷ ms) two.1 ∙ members_one e x ms two.0

pub way_more : (e : ℕ) (xs ms : List Moment) → list_any (is_attempt e) xs ≡ false → is_under_way e (onto xs ms) ≡ true → is_under_way e ms ≡ true
way_more e [] ms none h = h
way_more e (x ∷ xs) ms none h =
    let two : (is_attempt e x ≡ false) × (list_any (is_attempt e) xs ≡ false) = or_none (is_attempt e x) (list_any (is_attempt e) xs) none in
    way_before e x ms two.0 (way_more e xs (x ∷ ms) two.1 h)

-- a test that one of them passes
pub any_cases : (test : Moment → Bool) (xs ms : List Moment) → list_any test (onto xs ms) ≡ true → (list_any test xs ≡ true) ⊎ (list_any test ms ≡ true)
any_cases test [] ms h = inr h
any_cases test (x ∷ xs) ms h = by_last (any_cases test xs (x ∷ ms) h)
  where
    by_first : (test x ≡ true) ⊎ (list_any test ms ≡ true) → (list_any test (x ∷ xs) ≡ true) ⊎ (list_any test ms ≡ true)
    by_first (inl here) = inl (or_first (test x) (list_any test xs) here)
    by_first (inr there) = inr there

    by_last : (list_any test xs ≡ true) ⊎ (list_any test (x ∷ ms) ≡ true) → (list_any test (x ∷ xs) ≡ true) ⊎ (list_any test ms ≡ true)
    by_last (inl later) = inl (or_second (test x) (list_any test xs) later)
    by_last (inr more) = by_first (or_cases (test x) (list_any test ms) more)

any_onto : (test : Moment → Bool) (xs ms : List Moment) → list_any test ms ≡ true → list_any test (onto xs ms) ≡ true
any_onto test [] ms h = h
any_onto test (x ∷ xs) ms h = any_onto test xs (x ∷ ms) (or_second (test x) (list_any test ms) h)

-- one of them
pub in_onto : (test : Moment → Bool) (xs ms : List Moment) → list_any test xs ≡ true → list_any test (onto xs ms) ≡ true
in_onto test [] ms h = absurd (false_true h)
in_onto test (x ∷ xs) ms h = by_place (λ k. in_onto test xs (x ∷ ms) k) (or_cases (test x) (list_any test xs) h)
  where
    by_place : (list_any test xs ≡ true → list_any test (onto xs (x ∷ ms)) ≡ true) → (test x ≡ true) ⊎ (list_any test xs ≡ true) → list_any test (onto xs (x ∷ ms)) ≡ true
    by_place rest (inl here) = any_onto test xs (x ∷ ms) (or_first (test x) (list_any test ms) here)
    by_place rest (inr later) = rest later

-- ---- no number is tried twice

new_one : (e : ℕ) (x : Moment) (ms : List Moment) → AttemptsDiffer (x ∷ ms) → list_any (is_attempt e) ms ≡ true → is_attempt e x ≡ false
new_one e (attempt f members) ms once there = by_test (f == e) refl
  where
    by_test : (b : Bool) → (f == e) ≡ b → b ≡ false
    by_test true is = absurd (false_true (sym once.0 ∙ subst (λ k. list_any (is_attempt k) ms ≡ true) (sym (same_number f e is)) there))
    by_test false is = refl
new_one e _ ms once there = refl

pub once_before : (xs ms : List Moment) → AttemptsDiffer (onto xs ms) → AttemptsDiffer ms
once_before [] ms h = h
once_before (x ∷ xs) ms h = (once_before xs (x ∷ ms) h).1

pub none_again : (e : ℕ) (xs ms : List Moment) → AttemptsDiffer (onto xs ms) → list_any (is_attempt e) ms ≡ true → list_any (is_attempt e) xs ≡ false
none_again e [] ms once there = refl
none_again e (x ∷ xs) ms once there =
    none_of (is_attempt e x) (list_any (is_attempt e) xs) (new_one e x ms (once_before xs (x ∷ ms) once) there) (none_again e xs (x ∷ ms) once (or_second (is_attempt e x) (list_any (is_attempt e) ms) there))
  where
    none_of : (a b : Bool) → a ≡ false → b ≡ false → (a || b) ≡ false
    none_of true b h k = absurd (false_true (sym h))
    none_of false b h k = k

-- ---- what is installed

itself : (a b : ℕ) → a ≡ b → (a == b) ≡ true
itself a b h = grind arith

all_true : (a b c : Bool) → a ≡ true → b ≡ true → c ≡ true → (a && (b && c)) ≡ true
all_true true true c h k j = j
all_true true false c h k j = absurd (false_true k)
all_true false b c h k j = absurd (false_true h)

-- an Install that is sent was sent
sends_asked : (n e m : ℕ) (x : Moment) (ms : List Moment) → n ≡ coordinator e → sends n m name.Install x ≡ true → asked_in e (to_install m) (x ∷ ms) ≡ true
sends_asked n e m (sent p a b called bytes) ms own h =
    let first : (((a == n) && (b == m)) ≡ true) × (same_name (named called) name.Install ≡ true) = split (a == n) (b == m) (same_name (named called) name.Install) h in
    let two : ((a == n) ≡ true) × ((b == m) ≡ true) = and_cases (a == n) (b == m) first.0 in
    or_first ((a == coordinator e) && asks (to_install m) b (named called)) (asked_in e (to_install m) ms)
    (all_true (a == coordinator e) (b == m) (same_name (named called) name.Install) (itself a (coordinator e) (same_number a n two.0 ∙ own)) two.1 first.1)
  where
    split : (x y z : Bool) → (x && y && z) ≡ true → ((x && y) ≡ true) × (z ≡ true)
    split true true z k = (refl, k)
    split true false z k = absurd (false_true k)
    split false y z k = absurd (false_true k)
sends_asked n e m _ ms own h = absurd (false_true h)

sent_among : (n e m : ℕ) (xs ms : List Moment) → n ≡ coordinator e → list_any (is_attempt e) xs ≡ false → list_any (sends n m name.Install) xs ≡ true → asked_in e (to_install m) (onto xs ms) ≡ true
sent_among n e m [] ms own none h = absurd (false_true h)
sent_among n e m (x ∷ xs) ms own none h = by_place (λ k. sent_among n e m xs (x ∷ ms) own later k) (or_cases (sends n m name.Install x) (list_any (sends n m name.Install) xs) h)
  where
    later : list_any (is_attempt e) xs ≡ false
    later = (or_none (is_attempt e x) (list_any (is_attempt e) xs) none).1

    by_place : (list_any (sends n m name.Install) xs ≡ true → asked_in e (to_install m) (onto xs (x ∷ ms)) ≡ true) → (sends n m name.Install x ≡ true) ⊎ (list_any (sends n m name.Install) xs ≡ true) → asked_in e (to_install m) (onto xs (x ∷ ms)) ≡ true
    by_place rest (inl here) = asked_more e (to_install m) xs (x ∷ ms) later (sends_asked n e m x ms own here)
    by_place rest (inr there) = rest there

-- among entries in which each install is followed by its Installs
pub gone_among : (before : List Moment) (e m : ℕ) (xs ms : List Moment) → AllGoOut before xs → IsMember before e m → list_any (is_attempt e) xs ≡ false → list_any (is_install (coordinator e) e) xs ≡ true
    → asked_in e (to_install m) (onto xs ms) ≡ true
gone_among before e m [] ms all member none h = absurd (false_true h)
gone_among before e m (installed n f ∷ xs) ms all member none h = by_place (λ k. gone_among before e m xs (installed n f ∷ ms) all.1 member none k) (or_cases ((n == coordinator e) && (f == e)) (list_any (is_install (coordinator e) e) xs) h)
  where
    here_so : (n ≡ coordinator e) → f ≡ e → list_any (sends n m name.Install) xs ≡ true
    here_so own same = (all.0 (own ∙ ap coordinator (sym same))).0 m (subst (λ k. IsMember before k m) (sym same) member)

    by_place : (list_any (is_install (coordinator e) e) xs ≡ true → asked_in e (to_install m) (onto xs (installed n f ∷ ms)) ≡ true) → (((n == coordinator e) && (f == e)) ≡ true) ⊎ (list_any (is_install (coordinator e) e) xs ≡ true) → asked_in e (to_install m) (onto xs (installed n f ∷ ms)) ≡ true
    by_place rest (inl here) =
        let own : n ≡ coordinator e = same_number n (coordinator e) (and_cases (n == coordinator e) (f == e) here).0 in
        sent_among n e m xs (installed n f ∷ ms) own none (here_so own (same_number f e (and_cases (n == coordinator e) (f == e) here).1))
    by_place rest (inr later) = rest later
gone_among before e m (x ∷ xs) ms all member none h = gone_among before e m xs (x ∷ ms) all.1 member (or_none (is_attempt e x) (list_any (is_attempt e) xs) none).1 h
