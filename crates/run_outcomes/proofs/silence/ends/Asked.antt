-- Where something is asked of a member for the first time, the lines of an attempt begin to count anew.
use Rattle.std.specs.Prelude.{ℕ, ◌==◌, ◌&&◌, ◌||◌, ◌≡◌, ◌⊎◌, not, Bool, true, false, if◌then◌else◌, List, [], ◌∷◌, Option, None, Some}
use Rattle.std.specs.List.{list_any}
use Rattle.std.proofs.Common.{refl, sym, ap, ◌∙◌, inl, inr}
use Rattle.cmm_attempt.proofs.Basics.{and_cases, false_true, or_cases, same_number}
use Rattle.history.specs.Attempts.{is_question}
use Rattle.history.specs.Letters.{Letter, letter_of, sends}
use Rattle.history.specs.Moment.{Moment}
use Rattle.history.specs.Names as name
use Rattle.history.specs.Names.{Name, named, same_name}
use Rattle.history.specs.Order.{since}
use Rattle.history.specs.Seizing.{is_attempt, is_install}
use Rattle.history.specs.Setting.{Setting, coordinator}
use Rattle.history.specs.Trace.{attempt, delivered, installed, sent}
use Rattle.run_lines.proofs.Adds.{onto}
use Rattle.run_outcomes.specs.silence.Anew.{anew, begins}
use Rattle.run_outcomes.specs.silence.Asked.{Query, asked_in, asks, comes, is_sent}
use Rattle.run_outcomes.proofs.silence.Lines.{any_asked}

or_first : (a b : Bool) → a ≡ true → (a || b) ≡ true
or_first true b h = refl
or_first false b h = absurd (false_true h)

or_second : (a b : Bool) → b ≡ true → (a || b) ≡ true
or_second true b h = refl
or_second false b h = h

-- ---- names

abbrev pub IsExact : Name → Type 0
IsExact q = (m : Name) → same_name m q ≡ true → m ≡ q

quorum_is : (m : Name) (d : ℕ) → same_name m (name.SeizeQuorum d) ≡ true → m ≡ name.SeizeQuorum d
quorum_is (name.SeizeQuorum k) d h = ap (λ j. name.SeizeQuorum j) (same_number k d (and_cases true (k == d) h).1)
quorum_is name.Heartbeat d h = absurd (false_true h)
quorum_is name.Collect d h = absurd (false_true h)
quorum_is name.Promise d h = absurd (false_true h)
quorum_is name.Nack d h = absurd (false_true h)
quorum_is name.Install d h = absurd (false_true h)
quorum_is name.Ready d h = absurd (false_true h)
quorum_is name.Start d h = absurd (false_true h)
quorum_is name.Excluded d h = absurd (false_true h)
quorum_is (name.SeizeData k) d h = absurd (false_true h)
quorum_is (name.Seized k) d h = absurd (false_true h)
quorum_is (name.Prepare k) d h = absurd (false_true h)
quorum_is (name.Prepared k) d h = absurd (false_true h)
quorum_is (name.Commit k) d h = absurd (false_true h)
quorum_is (name.Order k) d h = absurd (false_true h)
quorum_is (name.Done k) d h = absurd (false_true h)
quorum_is (name.Request k) d h = absurd (false_true h)
quorum_is (name.Answer k) d h = absurd (false_true h)

data_is : (m : Name) (d : ℕ) → same_name m (name.SeizeData d) ≡ true → m ≡ name.SeizeData d
data_is (name.SeizeData k) d h = ap (λ j. name.SeizeData j) (same_number k d (and_cases true (k == d) h).1)
data_is name.Heartbeat d h = absurd (false_true h)
data_is name.Collect d h = absurd (false_true h)
data_is name.Promise d h = absurd (false_true h)
data_is name.Nack d h = absurd (false_true h)
data_is name.Install d h = absurd (false_true h)
data_is name.Ready d h = absurd (false_true h)
data_is name.Start d h = absurd (false_true h)
data_is name.Excluded d h = absurd (false_true h)
data_is (name.SeizeQuorum k) d h = absurd (false_true h)
data_is (name.Seized k) d h = absurd (false_true h)
data_is (name.Prepare k) d h = absurd (false_true h)
data_is (name.Prepared k) d h = absurd (false_true h)
data_is (name.Commit k) d h = absurd (false_true h)
data_is (name.Order k) d h = absurd (false_true h)
data_is (name.Done k) d h = absurd (false_true h)
data_is (name.Request k) d h = absurd (false_true h)
data_is (name.Answer k) d h = absurd (false_true h)

pub quorum_exact : (d : ℕ) → IsExact (name.SeizeQuorum d)
quorum_exact d m h = quorum_is m d h

pub data_exact : (d : ℕ) → IsExact (name.SeizeData d)
data_exact d m h = data_is m d h

-- ---- what is asked

-- it was not asked before the line, and is then
first_ask : (S : Setting) (e : ℕ) (q : Query) (x : Moment) (ms : List Moment) → is_sent q.called ≡ true → is_question q.called ≡ true → IsExact q.called → asked_in e q ms ≡ false → asked_in e q (x ∷ ms) ≡ true → begins S e ms x ≡ true
first_ask S e q (sent p c m called bytes) ms goes question exact fresh now = by_side (or_cases ((c == coordinator e) && asks q m (named called)) (asked_in e q ms) now)
  where
    all_three : (a b d : Bool) → a ≡ true → b ≡ true → d ≡ true → ((a && b) && d) ≡ true
    all_three true true d h k j = j
    all_three true false d h k j = absurd (false_true k)
    all_three false b d h k j = absurd (false_true h)

    by_side : (((c == coordinator e) && asks q m (named called)) ≡ true) ⊎ (asked_in e q ms ≡ true) → begins S e ms (sent p c m called bytes) ≡ true
    by_side (inr old) = absurd (false_true (sym fresh ∙ old))
    by_side (inl is) =
        let two : ((c == coordinator e) ≡ true) × (asks q m (named called) ≡ true) = and_cases (c == coordinator e) (asks q m (named called)) is in
        let three : ((is_sent q.called && (m == q.to)) ≡ true) × (same_name (named called) q.called ≡ true) = and_cases (is_sent q.called && (m == q.to)) (same_name (named called) q.called) two.1 in
        let same : named called ≡ q.called = exact (named called) three.1 in
        let to : m ≡ q.to = same_number m q.to (and_cases (is_sent q.called) (m == q.to) three.0).1 in
        all_three (c == coordinator e) (is_question (named called)) (not (list_any (sends (coordinator e) m (named called)) (since (is_attempt e) ms))) two.0 (ap is_question same ∙ question)
        (ap (λ j. not (list_any (sends (coordinator e) j (named called)) (since (is_attempt e) ms))) to
        ∙ (ap (λ k. not (list_any (sends (coordinator e) q.to k) (since (is_attempt e) ms))) same ∙ ap not (any_asked e q ms goes ∙ fresh)))
first_ask S e q (attempt f members) ms goes question exact fresh now = by_test (f == e) now
  where
    by_test : (b : Bool) → (if b then false else asked_in e q ms) ≡ true → b ≡ true
    by_test true h = refl
    by_test false h = absurd (false_true (sym fresh ∙ h))
first_ask S e q (delivered p a b) ms goes question exact fresh now = by_side (or_cases (comes e q (letter_of p ms)) (asked_in e q ms) now)
  where
    none_comes : (o : Option Letter) → comes e q o ≡ true → ⊥
    none_comes None h = false_true h
    none_comes (Some l) h = false_true (sym (ap not goes) ∙ (and_cases (not (is_sent q.called)) _ (and_cases _ _ h).0).0)

    by_side : (comes e q (letter_of p ms) ≡ true) ⊎ (asked_in e q ms ≡ true) → begins S e ms (delivered p a b) ≡ true
    by_side (inl is) = absurd (none_comes (letter_of p ms) is)
    by_side (inr old) = absurd (false_true (sym fresh ∙ old))
first_ask S e q _ ms goes question exact fresh now = absurd (false_true (sym fresh ∙ now))

pub asked_anew : (S : Setting) (e : ℕ) (q : Query) (xs ms : List Moment) → is_sent q.called ≡ true → is_question q.called ≡ true → IsExact q.called → asked_in e q ms ≡ false → asked_in e q (onto xs ms) ≡ true → anew S e xs ms ≡ true
asked_anew S e q [] ms goes question exact fresh now = absurd (false_true (sym fresh ∙ now))
asked_anew S e q (x ∷ xs) ms goes question exact fresh now = by_value (asked_in e q (x ∷ ms)) refl (λ k. asked_anew S e q xs (x ∷ ms) goes question exact k now)
  where
    by_value : (b : Bool) → asked_in e q (x ∷ ms) ≡ b → (asked_in e q (x ∷ ms) ≡ false → anew S e xs (x ∷ ms) ≡ true) → anew S e (x ∷ xs) ms ≡ true
    by_value true is rest = or_first (begins S e ms x) (anew S e xs (x ∷ ms)) (first_ask S e q x ms goes question exact fresh is)
    by_value false is rest = or_second (begins S e ms x) (anew S e xs (x ∷ ms)) (rest is)

-- ---- what is installed

install_line : (S : Setting) (e : ℕ) (x : Moment) (ms : List Moment) → is_install (coordinator e) e x ≡ true → begins S e ms x ≡ true
install_line S e (installed n f) ms h = h
install_line S e _ ms h = absurd (false_true h)

pub install_anew : (S : Setting) (e : ℕ) (xs ms : List Moment) → list_any (is_install (coordinator e) e) xs ≡ true → anew S e xs ms ≡ true
install_anew S e [] ms h = absurd (false_true h)
install_anew S e (x ∷ xs) ms h = by_place (λ k. install_anew S e xs (x ∷ ms) k) (or_cases (is_install (coordinator e) e x) (list_any (is_install (coordinator e) e) xs) h)
  where
    by_place : (list_any (is_install (coordinator e) e) xs ≡ true → anew S e xs (x ∷ ms) ≡ true) → (is_install (coordinator e) e x ≡ true) ⊎ (list_any (is_install (coordinator e) e) xs ≡ true) → anew S e (x ∷ xs) ms ≡ true
    by_place rest (inl here) = or_first (begins S e ms x) (anew S e xs (x ∷ ms)) (install_line S e x ms here)
    by_place rest (inr there) = or_second (begins S e ms x) (anew S e xs (x ∷ ms)) (rest there)
