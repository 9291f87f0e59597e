-- A queue that is open stays so behind the lines of an attempt that goes on, or they begin its count anew.
use Rattle.std.specs.Prelude.{ℕ, ◌≡◌, ◌==◌, ◌&&◌, ◌||◌, ◌⊎◌, not, Bool, true, false, List, [], ◌∷◌, Option, None, Some, is_some}
use Rattle.std.specs.List.{list_any}
use Rattle.std.proofs.Common.{refl, sym, ap, subst, ◌∙◌, inl, inr}
use Rattle.cmm_attempt.proofs.Basics.{and_cases, false_true, same_number}
use Rattle.history.specs.Member.{attempt_of, member_of, session_of}
use Rattle.history.specs.Moment.{Moment}
use Rattle.history.specs.Order.{Always, since}
use Rattle.history.specs.Queue.{clears, is_untold, queue_is_open}
use Rattle.history.specs.Seizing.{is_attempt, is_number}
use Rattle.history.specs.Setting.{Setting, coordinator}
use Rattle.history.specs.Trace.{attempt, down, ended_excluded, ended_foreign, ended_votes, installed, member, saved, up}
use Rattle.history.specs.UnderWay.{is_over, is_under_way}
use Rattle.run_attempts.specs.endings.Laws.{EndsUnderWay}
use Rattle.run_lines.proofs.Adds.{onto}
use Rattle.run_outcomes.specs.reports.Laws.{AsksSo}
use Rattle.run_outcomes.specs.silence.Anew.{anew, begins}
use Rattle.run_outcomes.proofs.led.Lines.{InstallsInSession}
use Rattle.run_outcomes.proofs.phases.Lines.{way_before}
use Rattle.run_outcomes.proofs.silence.ends.ShutMembers.{joins, member_one, none_begins, none_over}
use Rattle.run_outcomes.proofs.silence.ends.ShutSessions.{always_of, enters_anew, session_one}

-- ---- one line

or_first : (a b : Bool) → a ≡ true → (a || b) ≡ true
or_first true b h = refl
or_first false b h = absurd (false_true h)

or_second : (a b : Bool) → b ≡ true → (a || b) ≡ true
or_second true b h = refl
or_second false b h = h

or_none : (a b : Bool) → (a || b) ≡ false → (a ≡ false) × (b ≡ false)
or_none true b h = absurd (false_true (sym h))
or_none false b h = (refl, h)

last_so : (a b c : Bool) → b ≡ true → c ≡ false → (a || (b && not c)) ≡ true
last_so true b c h k = refl
last_so false true c h k = ap not k
last_so false false c h k = absurd (false_true h)

both_true : (a b : Bool) → a ≡ true → b ≡ true → (a && b) ≡ true
both_true true b h k = k
both_true false b h k = absurd (false_true h)

one_number : (e f : ℕ) (o : Option ℕ) → is_number e o ≡ true → is_number f o ≡ true → (f == e) ≡ true
one_number e f None h k = absurd (false_true h)
one_number e f (Some g) h k = subst (λ j. (j == e) ≡ true) (same_number g f k) h

-- of one coordinator one attempt alone is under way
one_way : (e f n : ℕ) (ms : List Moment) → coordinator e ≡ n → (coordinator f == n) ≡ true → is_under_way e ms ≡ true → is_under_way f ms ≡ true → (f == e) ≡ true
one_way e f n ms own clear way other = one_number e f (attempt_of n ms) (first e own way) (first f (same_number (coordinator f) n clear) other)
  where
    first : (k : ℕ) → coordinator k ≡ n → is_under_way k ms ≡ true → is_number k (attempt_of n ms) ≡ true
    first k at is =
        let parts : (is_number k (attempt_of (coordinator k) ms) ≡ true) × (not (list_any (is_over k) (since (is_attempt k) ms)) ≡ true) = and_cases _ _ is in
        subst (λ j. is_number k (attempt_of j ms) ≡ true) at parts.0

-- an attempt that ends is the one that is under way
ended_none : (e f n : ℕ) (x : Moment) (ms : List Moment) → coordinator e ≡ n → (coordinator f == n) ≡ true → is_under_way f ms ≡ true → is_attempt e x ≡ false → is_over e x ≡ (f == e) → is_under_way e (x ∷ ms) ≡ true → ⊥
ended_none e f n x ms own clear other young ends way =
    false_true (sym (none_over e x ms young way) ∙ (ends ∙ one_way e f n ms own clear (way_before e x ms young way) other))

-- a line that clears the queue begins a phase of it
abbrev ClearsAnew : Setting → ℕ → ℕ → List Moment → Moment → Type 0
ClearsAnew S n e ms x = EndsUnderWay ms x → InstallsInSession ms x → is_number e (session_of n ms) ≡ true → enters_anew n ms x ≡ false → joins n x ≡ false → coordinator e ≡ n → clears n ms x ≡ true → is_attempt e x ≡ false → is_under_way e (x ∷ ms) ≡ true → begins S e ms x ≡ true

clears_anew : (S : Setting) (n e : ℕ) (ms : List Moment) (x : Moment) → ClearsAnew S n e ms x
clears_anew S n e ms (up m) so inst within stays off own clear young way = absurd (false_true (sym stays ∙ clear))
clears_anew S n e ms (saved m) so inst within stays off own clear young way = absurd (false_true (sym stays ∙ clear))
clears_anew S n e ms (member m f) so inst within stays off own clear young way = absurd (false_true (sym off ∙ clear))
clears_anew S n e ms (down m why) so inst within stays off own clear young way =
    absurd (false_true (sym (none_over e (down m why) ms young way) ∙ subst (λ k. (m == k) ≡ true) (sym own) clear))
clears_anew S n e ms (attempt f members) so inst within stays off own clear young way =
    absurd (none_begins e f members ms young way (subst (λ k. (coordinator f == k) ≡ true) (sym own) clear))
clears_anew S n e ms (ended_votes f have need lacking) so inst within stays off own clear young way = absurd (ended_none e f n (ended_votes f have need lacking) ms own clear so young refl way)
clears_anew S n e ms (ended_excluded f m) so inst within stays off own clear young way = absurd (ended_none e f n (ended_excluded f m) ms own clear so young refl way)
clears_anew S n e ms (ended_foreign f m) so inst within stays off own clear young way = absurd (ended_none e f n (ended_foreign f m) ms own clear so young refl way)
clears_anew S n e ms (installed m f) so inst within stays off own clear young way =
    both_true (m == coordinator e) (f == e) (subst (λ k. (m == k) ≡ true) (sym own) clear)
    (one_number e f (session_of n ms) within (subst (λ k. is_number f (session_of k ms) ≡ true) (same_number m n clear) inst.0))
clears_anew S n e ms _ so inst within stays off own clear young way = absurd (false_true clear)

-- ---- more of them

-- what is known of all lines
pub record Lawful (ms : List Moment) : Type 0 where
  pub ends : Always EndsUnderWay ms
  pub installs : Always InstallsInSession ms
  pub asks : Always AsksSo ms

-- behind them the coordinator of the attempt is in its session, and no member
pub record Within (n e : ℕ) (ms : List Moment) : Type 0 where
  pub way : is_under_way e ms ≡ true
  pub session : is_number e (session_of n ms) ≡ true
  pub none : is_some (member_of n ms) ≡ false

-- .. and so it was before the last of them
record Here (n e : ℕ) (x : Moment) (ms : List Moment) : Type 0 where
  stays : enters_anew n ms x ≡ false
  off : joins n x ≡ false
  before : Within n e ms

here_of : (n e : ℕ) (x : Moment) (ms : List Moment) → coordinator e ≡ n → Always AsksSo ms → is_attempt e x ≡ false → Within n e (x ∷ ms) → Here n e x ms
here_of n e x ms own asks young w =
    let one : (is_number e (session_of n ms) ≡ true) × (enters_anew n ms x ≡ false) = session_one n e x ms own asks young w.session in
    let two : (is_some (member_of n ms) ≡ false) × (joins n x ≡ false) = member_one n e x ms own young w.way one.1 w.none in
    record { stays = one.1; off = two.1; before = record { way = way_before e x ms young w.way; session = one.0; none = two.0 } }

within_more : (n e : ℕ) (xs ms : List Moment) → coordinator e ≡ n → Always AsksSo (onto xs ms) → list_any (is_attempt e) xs ≡ false → Within n e (onto xs ms) → Within n e ms
within_more n e [] ms own asks young w = w
within_more n e (x ∷ xs) ms own asks young w =
    let two : (is_attempt e x ≡ false) × (list_any (is_attempt e) xs ≡ false) = or_none (is_attempt e x) (list_any (is_attempt e) xs) young in
    (here_of n e x ms own (always_of AsksSo xs (x ∷ ms) asks).1 two.0 (within_more n e xs (x ∷ ms) own asks two.1 w)).before

pub stays_open : (S : Setting) (n e : ℕ) (xs ms : List Moment) → coordinator e ≡ n → list_any (is_attempt e) xs ≡ false → Lawful (onto xs ms)
    → Within n e (onto xs ms) → queue_is_open S n ms ≡ true → (queue_is_open S n (onto xs ms) ≡ true) ⊎ (anew S e xs ms ≡ true)
stays_open S n e [] ms own young all within opened = inl opened
stays_open S n e (x ∷ xs) ms own young all within opened = by_clears (clears n ms x) refl (λ k. stays_open S n e xs (x ∷ ms) own two.1 all within k)
  where
    two : (is_attempt e x ≡ false) × (list_any (is_attempt e) xs ≡ false)
    two = or_none (is_attempt e x) (list_any (is_attempt e) xs) young

    later : Within n e (x ∷ ms)
    later = within_more n e xs (x ∷ ms) own all.asks two.1 within

    here : Here n e x ms
    here = here_of n e x ms own (always_of AsksSo xs (x ∷ ms) all.asks).1 two.0 later

    begins_here : clears n ms x ≡ true → begins S e ms x ≡ true
    begins_here is =
        clears_anew S n e ms x (always_of EndsUnderWay xs (x ∷ ms) all.ends).0 (always_of InstallsInSession xs (x ∷ ms) all.installs).0 here.before.session here.stays here.off own is two.0 later.way

    by_rest : (queue_is_open S n (onto xs (x ∷ ms)) ≡ true) ⊎ (anew S e xs (x ∷ ms) ≡ true) → (queue_is_open S n (onto xs (x ∷ ms)) ≡ true) ⊎ ((begins S e ms x || anew S e xs (x ∷ ms)) ≡ true)
    by_rest (inl is) = inl is
    by_rest (inr is) = inr (or_second (begins S e ms x) (anew S e xs (x ∷ ms)) is)

    by_clears : (b : Bool) → clears n ms x ≡ b → (queue_is_open S n (x ∷ ms) ≡ true → (queue_is_open S n (onto xs (x ∷ ms)) ≡ true) ⊎ (anew S e xs (x ∷ ms) ≡ true))
        → (queue_is_open S n (onto xs (x ∷ ms)) ≡ true) ⊎ ((begins S e ms x || anew S e xs (x ∷ ms)) ≡ true)
    by_clears true is rest = inr (or_first (begins S e ms x) (anew S e xs (x ∷ ms)) (begins_here is))
    by_clears false is rest = by_rest (rest (last_so (is_untold S n (attempt_of n (x ∷ ms)) (x ∷ ms)) (queue_is_open S n ms) (clears n ms x) opened is))
