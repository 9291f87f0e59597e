-- A tick and packets that ask nothing change nothing of what is missing by the lines, and no tick is lost with them.
use Rattle.std.specs.Prelude.{ℕ, ◌+◌, ◌==◌, ◌&&◌, ◌||◌, ◌≡◌, ◌≤◌, not, nat_le, Bool, true, false, List, [], ◌∷◌, Option, None, Some, find, length, if◌then◌else◌}
use Rattle.std.specs.List.{AllByRecursion, list_any}
use Rattle.std.proofs.Common.{arith, refl, sym, ap, subst, ◌∙◌}
use Rattle.cmm_attempt.proofs.Basics.{false_true}
use Rattle.history.specs.Attempts.{asks_first, first_missing, is_answered, is_missing, is_question, is_silent, is_unanswered, may_be_silent, phase_tick, questions, seize_questions}
use Rattle.history.specs.Contact.{others}
use Rattle.history.specs.Letters.{sends}
use Rattle.history.specs.Member.{attempt_of, members_of}
use Rattle.history.specs.Moment.{Moment, Told}
use Rattle.history.specs.Names as name
use Rattle.history.specs.Names.{Name, named, same_name}
use Rattle.history.specs.Order.{since}
use Rattle.history.specs.Queue.{clears, has_work, is_untold, queue_is_open}
use Rattle.history.specs.Seizing.{is_attempt, is_number}
use Rattle.history.specs.Setting.{Setting, all_to, coordinator, nodes_of}
use Rattle.history.specs.Trace.{sent, ticked}
use Rattle.status_report.specs.declared.entry.Entry.TheVariants as entry
use Rattle.status_report.specs.declared.packet_entry.PacketEntry.TheVariants as packet
use Rattle.run_lines.proofs.Adds.{onto}
use Rattle.run_outcomes.specs.silence.Beats.{IsBeat}

-- ---- where the queue is told

open_again : (u q : Bool) → (u || ((u || q) && true)) ≡ (u || q)
open_again true q = refl
open_again false true = refl
open_again false false = refl

untold_same : (S : Setting) (n : ℕ) (o : Option ℕ) (x : Moment) (ms : List Moment) → IsBeat x → is_untold S n o (x ∷ ms) ≡ is_untold S n o ms
untold_same S n None x ms beat = refl
untold_same S n (Some e) (ticked k) ms beat = refl
untold_same S n (Some e) (sent p a b called bytes) ms beat = refl
untold_same S n (Some e) (Told (entry.Packet (packet.Dropped p cause))) ms beat = refl
untold_same S n (Some e) _ ms beat = absurd beat

attempt_same : (n : ℕ) (x : Moment) (ms : List Moment) → IsBeat x → attempt_of n (x ∷ ms) ≡ attempt_of n ms
attempt_same n (ticked k) ms beat = refl
attempt_same n (sent p a b called bytes) ms beat = refl
attempt_same n (Told (entry.Packet (packet.Dropped p cause))) ms beat = refl
attempt_same n _ ms beat = absurd beat

none_cleared : (n : ℕ) (x : Moment) (ms : List Moment) → IsBeat x → clears n ms x ≡ false
none_cleared n (ticked k) ms beat = refl
none_cleared n (sent p a b called bytes) ms beat = refl
none_cleared n (Told (entry.Packet (packet.Dropped p cause))) ms beat = refl
none_cleared n _ ms beat = absurd beat

told_same : (S : Setting) (n : ℕ) (x : Moment) (ms : List Moment) → IsBeat x → is_untold S n (attempt_of n (x ∷ ms)) (x ∷ ms) ≡ is_untold S n (attempt_of n ms) ms
told_same S n x ms beat = untold_same S n (attempt_of n (x ∷ ms)) x ms beat ∙ ap (λ o. is_untold S n o ms) (attempt_same n x ms beat)

open_as : (S : Setting) (n : ℕ) (ms : List Moment) → (is_untold S n (attempt_of n ms) ms || (queue_is_open S n ms && true)) ≡ queue_is_open S n ms
open_as S n [] = refl
open_as S n (y ∷ ms) = open_again (is_untold S n (attempt_of n (y ∷ ms)) (y ∷ ms)) (queue_is_open S n ms && not (clears n ms y))

quiet_open : (S : Setting) (n : ℕ) (x : Moment) (ms : List Moment) → IsBeat x → queue_is_open S n (x ∷ ms) ≡ queue_is_open S n ms
quiet_open S n x ms beat =
    ap (λ b. is_untold S n (attempt_of n (x ∷ ms)) (x ∷ ms) || (queue_is_open S n ms && not b)) (none_cleared n x ms beat)
    ∙ (ap (λ b. b || (queue_is_open S n ms && true)) (told_same S n x ms beat) ∙ open_as S n ms)

-- ---- what is missing

other_name : (p q : Name) → is_question p ≡ false → is_question q ≡ true → same_name p q ≡ false
other_name p name.Collect none is = by_name p none
  where
    by_name : (p : Name) → is_question p ≡ false → same_name p name.Collect ≡ false
    by_name name.Collect h = absurd (false_true (sym h))
    by_name _ h = refl
other_name p name.Install none is = by_name p none
  where
    by_name : (p : Name) → is_question p ≡ false → same_name p name.Install ≡ false
    by_name name.Install h = absurd (false_true (sym h))
    by_name _ h = refl
other_name p (name.SeizeQuorum d) none is = by_name p none
  where
    by_name : (p : Name) → is_question p ≡ false → same_name p (name.SeizeQuorum d) ≡ false
    by_name (name.SeizeQuorum k) h = absurd (false_true (sym h))
    by_name _ h = refl
other_name p (name.SeizeData d) none is = by_name p none
  where
    by_name : (p : Name) → is_question p ≡ false → same_name p (name.SeizeData d) ≡ false
    by_name (name.SeizeData k) h = absurd (false_true (sym h))
    by_name _ h = refl
other_name p _ none is = absurd (false_true is)

none_sent : (c m : ℕ) (q : Name) (x : Moment) → IsBeat x → is_question q ≡ true → sends c m q x ≡ false
none_sent c m q (ticked k) beat is = refl
none_sent c m q (Told (entry.Packet (packet.Dropped p cause))) beat is = refl
none_sent c m q (sent p a b called bytes) beat is = last_false (a == c) (b == m) (same_name (named called) q) (other_name (named called) q beat is)
  where
    last_false : (a b d : Bool) → d ≡ false → ((a && b) && d) ≡ false
    last_false true true d h = h
    last_false true false d h = refl
    last_false false b d h = refl
none_sent c m q _ beat is = absurd beat

answered_same : (e m : ℕ) (q : Name) (x : Moment) (ms : List Moment) → IsBeat x → is_question q ≡ true → is_answered e (x ∷ ms) m q ≡ is_answered e ms m q
answered_same e m name.Collect (ticked k) ms beat is = refl
answered_same e m name.Install (ticked k) ms beat is = refl
answered_same e m (name.SeizeQuorum d) (ticked k) ms beat is = refl
answered_same e m (name.SeizeData d) (ticked k) ms beat is = refl
answered_same e m name.Collect (sent p a b called bytes) ms beat is = refl
answered_same e m name.Install (sent p a b called bytes) ms beat is = refl
answered_same e m (name.SeizeQuorum d) (sent p a b called bytes) ms beat is = refl
answered_same e m (name.SeizeData d) (sent p a b called bytes) ms beat is = refl
answered_same e m name.Collect (Told (entry.Packet (packet.Dropped p cause))) ms beat is = refl
answered_same e m name.Install (Told (entry.Packet (packet.Dropped p cause))) ms beat is = refl
answered_same e m (name.SeizeQuorum d) (Told (entry.Packet (packet.Dropped p cause))) ms beat is = refl
answered_same e m (name.SeizeData d) (Told (entry.Packet (packet.Dropped p cause))) ms beat is = refl
answered_same e m _ (ticked k) ms beat is = absurd (false_true is)
answered_same e m _ (sent p a b called bytes) ms beat is = absurd (false_true is)
answered_same e m _ (Told (entry.Packet (packet.Dropped p cause))) ms beat is = absurd (false_true is)
answered_same e m _ _ ms beat is = absurd beat

since_more : (e : ℕ) (f : Moment → Bool) (x : Moment) (ms : List Moment) → IsBeat x → list_any f (since (is_attempt e) (x ∷ ms)) ≡ (f x || list_any f (since (is_attempt e) ms))
since_more e f (ticked k) ms beat = refl
since_more e f (sent p a b called bytes) ms beat = refl
since_more e f (Told (entry.Packet (packet.Dropped p cause))) ms beat = refl
since_more e f _ ms beat = absurd beat

quiet_asked : (e m : ℕ) (q : Name) (x : Moment) (ms : List Moment) → IsBeat x → is_question q ≡ true → is_unanswered e (x ∷ ms) m q ≡ is_unanswered e ms m q
quiet_asked e m q x ms beat is =
    let f : Moment → Bool = sends (coordinator e) m q in
    ap (λ b. b && not (is_answered e (x ∷ ms) m q)) (since_more e f x ms beat ∙ ap (λ b. b || list_any f (since (is_attempt e) ms)) (none_sent (coordinator e) m q x beat is))
    ∙ ap (λ b. list_any f (since (is_attempt e) ms) && not b) (answered_same e m q x ms beat is)

-- so of all questions
seizes_are : (ds : List ℕ) → AllByRecursion (λ q. is_question q ≡ true) (seize_questions ds)
seizes_are [] = tt
seizes_are (d ∷ ds) = (refl, (refl, seizes_are ds))

any_same : (e m : ℕ) (qs : List Name) (x : Moment) (ms : List Moment) → IsBeat x → AllByRecursion (λ q. is_question q ≡ true) qs → list_any (is_unanswered e (x ∷ ms) m) qs ≡ list_any (is_unanswered e ms m) qs
any_same e m [] x ms beat are = refl
any_same e m (q ∷ qs) x ms beat are =
    ap (λ b. b || list_any (is_unanswered e (x ∷ ms) m) qs) (quiet_asked e m q x ms beat are.0) ∙ ap (λ b. is_unanswered e ms m q || b) (any_same e m qs x ms beat are.1)

work_same : (S : Setting) (n : ℕ) (x : Moment) (ms : List Moment) → IsBeat x → has_work S n (x ∷ ms) ≡ has_work S n ms
work_same S n (ticked k) ms beat = refl
work_same S n (sent p a b called bytes) ms beat = refl
work_same S n (Told (entry.Packet (packet.Dropped p cause))) ms beat = refl
work_same S n _ ms beat = absurd beat

missing_same : (S : Setting) (e m : ℕ) (x : Moment) (ms : List Moment) → IsBeat x → is_missing S e (x ∷ ms) m ≡ is_missing S e ms m
missing_same S e m x ms beat =
    let qs : List Name = questions (length S.header.devices) in
    ap (λ b. if m == coordinator e then b else list_any (is_unanswered e (x ∷ ms) m) qs) (work_same S m x ms beat)
    ∙ ap (λ b. if m == coordinator e then has_work S m ms else b) (any_same e m qs x ms beat (refl, (refl, seizes_are (all_to (length S.header.devices)))))

pub find_same : (P Q : ℕ → Bool) (ns : List ℕ) → ((m : ℕ) → P m ≡ Q m) → find P ns ≡ find Q ns
find_same P Q [] f = refl
find_same P Q (n ∷ ns) f = ap (λ b. if b then Some n else find P ns) (f n) ∙ ap (λ o. if Q n then Some n else o) (find_same P Q ns f)

members_same : (e : ℕ) (x : Moment) (ms : List Moment) → IsBeat x → members_of e (x ∷ ms) ≡ members_of e ms
members_same e (ticked k) ms beat = refl
members_same e (sent p a b called bytes) ms beat = refl
members_same e (Told (entry.Packet (packet.Dropped p cause))) ms beat = refl
members_same e _ ms beat = absurd beat

first_same : (S : Setting) (e : ℕ) (x : Moment) (ms : List Moment) → IsBeat x → first_missing S e (x ∷ ms) ≡ first_missing S e ms
first_same S e x ms beat =
    ap (λ k. find (is_missing S e (x ∷ ms)) (nodes_of k)) (members_same e x ms beat)
    ∙ find_same (is_missing S e (x ∷ ms)) (is_missing S e ms) (nodes_of (members_of e ms)) (λ m. missing_same S e m x ms beat)

may_same : (S : Setting) (e m : ℕ) (x : Moment) (ms : List Moment) → IsBeat x → may_be_silent S e m (x ∷ ms) ≡ may_be_silent S e m ms
may_same S e m x ms beat =
    ap (λ k. (m == coordinator e) || is_number m (find (is_missing S e (x ∷ ms)) (others e k))) (members_same e x ms beat)
    ∙ ap (λ o. (m == coordinator e) || is_number m o) (find_same (is_missing S e (x ∷ ms)) (is_missing S e ms) (others e (members_of e ms)) (λ k. missing_same S e k x ms beat))

-- ---- ticks

same_le : (k : ℕ) → k ≤ k
same_le k = omega arith

if_more : (b : Bool) (k : ℕ) → k ≤ (if b then k + 1 else k)
if_more true k = omega arith
if_more false k = omega arith

if_same : (b : Bool) (k : ℕ) → b ≡ false → k ≤ (if b then 0 else k)
if_same true k h = absurd (false_true (sym h))
if_same false k h = same_le k

second_false : (a b d : Bool) → b ≡ false → ((a && b) && d) ≡ false
second_false true true d h = absurd (false_true (sym h))
second_false true false d h = refl
second_false false b d h = refl

ticks_same : (S : Setting) (e : ℕ) (x : Moment) (ms : List Moment) → IsBeat x → phase_tick S e ms ≤ phase_tick S e (x ∷ ms)
ticks_same S e (ticked n) ms beat = if_more (n == coordinator e) (phase_tick S e ms)
ticks_same S e (sent p a b called bytes) ms beat =
    if_same (asks_first (coordinator e) (since (is_attempt e) ms) (sent p a b called bytes)) (phase_tick S e ms)
    (second_false (a == coordinator e) (is_question (named called)) (not (list_any (sends (coordinator e) b (named called)) (since (is_attempt e) ms))) beat)
ticks_same S e (Told (entry.Packet (packet.Dropped p cause))) ms beat = same_le (phase_tick S e ms)
ticks_same S e _ ms beat = absurd beat

-- ---- with all of them

pub record Same (S : Setting) (e : ℕ) (after before : List Moment) : Type 0 where
  pub queue : queue_is_open S (coordinator e) after ≡ queue_is_open S (coordinator e) before
  pub first : first_missing S e after ≡ first_missing S e before
  pub may : (m : ℕ) → may_be_silent S e m after ≡ may_be_silent S e m before
  pub ticks : phase_tick S e before ≤ phase_tick S e after

le_then : (a b c : ℕ) → a ≤ b → b ≤ c → a ≤ c
le_then a b c h k = omega (arith, h, k)

pub all_same : (S : Setting) (e : ℕ) (xs ms : List Moment) → AllByRecursion IsBeat xs → Same S e (onto xs ms) ms
all_same S e [] ms are = record { queue = refl; first = refl; may = λ m. refl; ticks = same_le (phase_tick S e ms) }
all_same S e (x ∷ xs) ms are =
    let k : Same S e (onto xs (x ∷ ms)) (x ∷ ms) = all_same S e xs (x ∷ ms) are.1 in
    record {
      queue = k.queue ∙ quiet_open S (coordinator e) x ms are.0;
      first = k.first ∙ first_same S e x ms are.0;
      may = λ m. k.may m ∙ may_same S e m x ms are.0;
      ticks = le_then (phase_tick S e ms) (phase_tick S e (x ∷ ms)) (phase_tick S e (onto xs (x ∷ ms))) (ticks_same S e x ms are.0) k.ticks;
    }

-- ---- so an attempt that has waited for seven ticks may end for want of the member that it waits for first

eight : (k p q : ℕ) → 7 ≤ k → k ≤ p → p + 1 ≤ q → nat_le 8 q ≡ true
eight k p q h l m = nat_of 8 q (omega (arith, h, l, m))
  where
    nat_of : (a b : ℕ) → a ≤ b → nat_le a b ≡ true
    nat_of a b h = grind (arith, h)

both : (a b : Bool) → a ≡ true → b ≡ true → (a && b) ≡ true
both true b h k = k
both false b h k = absurd (false_true h)

itself : (n : ℕ) → (n == n) ≡ true
itself n = grind arith

pub silent_behind : (S : Setting) (e m k : ℕ) (xs ms : List Moment) → AllByRecursion IsBeat xs → 7 ≤ k → k ≤ phase_tick S e ms → (queue_is_open S (coordinator e) ms ≡ true → may_be_silent S e m ms ≡ true)
    → (queue_is_open S (coordinator e) ms ≡ false → first_missing S e ms ≡ Some m) → is_silent S e m (onto xs (ticked (coordinator e) ∷ ms)) ≡ true
silent_behind S e m k xs ms are seven counted may first =
    both (nat_le 8 (phase_tick S e now)) (if queue_is_open S (coordinator e) now then may_be_silent S e m now else is_number m (first_missing S e now)) late (by_open (queue_is_open S (coordinator e) now) refl)
  where
    now : List Moment
    now = onto xs (ticked (coordinator e) ∷ ms)

    s : Same S e now (ticked (coordinator e) ∷ ms)
    s = all_same S e xs (ticked (coordinator e) ∷ ms) are

    t : Same S e (ticked (coordinator e) ∷ ms) ms
    t = all_same S e (ticked (coordinator e) ∷ []) ms (tt, tt)

    late : nat_le 8 (phase_tick S e now) ≡ true
    late = eight k (phase_tick S e ms) (phase_tick S e now) seven counted (subst (λ z. z ≤ phase_tick S e now) (ap (λ b. if b then phase_tick S e ms + 1 else phase_tick S e ms) (itself (coordinator e))) s.ticks)

    by_open : (b : Bool) → queue_is_open S (coordinator e) now ≡ b → (if b then may_be_silent S e m now else is_number m (first_missing S e now)) ≡ true
    by_open true is = s.may m ∙ (t.may m ∙ may (sym (s.queue ∙ t.queue) ∙ is))
    by_open false is = ap (is_number m) (s.first ∙ (t.first ∙ first (sym (s.queue ∙ t.queue) ∙ is))) ∙ itself m
