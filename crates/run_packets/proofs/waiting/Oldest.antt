-- The oldest command that waits is that of the oldest request.
use Rattle.std.specs.Prelude.{ℕ, ◌+◌, ◌≡◌, ◌≢◌, ◌≤◌, ◌⊎◌, ◌==◌, ◌&&◌, ◌||◌, not, Bool, true, false, List, [], ◌∷◌, Option, None, Some, if◌then◌else◌, cond}
use Rattle.std.specs.List.{AllByRecursion, list_any}
use Rattle.std.proofs.Common.{refl, ap, sym, subst, ◌∙◌, inl, inr, arith}
use Rattle.cmm_attempt.proofs.Basics.{and_cases, false_true, none_some, or_cases, same_number, same_some}
use Rattle.history.specs.Commands.{IsNumbered, is_answered_to, is_monitors, last_number, waits}
use Rattle.history.specs.Messages.{older, oldest_waiting}
use Rattle.history.specs.Moment.{Moment}
use Rattle.history.specs.Order.{since}
use Rattle.history.specs.Requests.{is_asking}
use Rattle.history.specs.Seizing.{is_boot}
use Rattle.history.specs.Trace.{answered, asked, up}
use Rattle.request_queue.specs.Queue.{oldest_in}
use Rattle.request_queue.specs.declared.request.Request.{Request}
use Rattle.run_commands.proofs.Owed.{AreDue, AreOnce, Owed, due_others, is_told, is_untold, one_less}
use Rattle.run_commands.proofs.Tallies.{answered_less, tally, waiting_of}
use Rattle.run_commands.proofs.Waiting.{Open, answered_since, monitors_of, other_waits}
use Rattle.run_commands.specs.Answers.{AnswersWait}
use Rattle.run_commands.specs.Guards.{Free}
use Rattle.status_report.specs.declared.command_entry.Answer.TheVariants as answer
use Rattle.run_packets.specs.waiting.Waiting.{AreAbove, AreRising, IsQueue}

or_left : (a b : Bool) → a ≡ true → (a || b) ≡ true
or_left true b h = refl
or_left false b h = absurd (false_true h)

or_right : (a b : Bool) → b ≡ true → (a || b) ≡ true
or_right true b h = refl
or_right false b h = h

both : (a b : Bool) → a ≡ true → b ≡ true → (a && b) ≡ true
both true b h k = k
both false b h k = absurd (false_true h)

not_true : (b : Bool) → not b ≡ true → b ≡ true → ⊥
not_true true h k = false_true h
not_true false h k = false_true k

le_then : (a b d : ℕ) → a ≤ b → b ≤ d → a ≤ d
le_then a b d h k = omega (arith, h, k)

same_le : (a b : ℕ) → a ≡ b → a ≤ b
same_le a b h = omega (arith, h)

before_next : (a b k : ℕ) → a ≤ b → b + 1 ≤ k → a ≤ k
before_next a b k h next = omega (arith, h, next)

never_next : (a b : ℕ) → a ≤ b → b + 1 ≤ a → ⊥
never_next a b h next = omega (arith, h, next)

module _ (n : ℕ) where
  abbrev Asked : ℕ → List Moment → Type 0
  Asked q ms = list_any (is_asking n q) (since (is_boot n) ms) ≡ true

  -- the number of another node's command is no matter
  numbered_own : (m r : ℕ) (ms : List Moment) → m ≡ n → IsNumbered m r ms → last_number n ms + 1 ≤ r
  numbered_own m r ms same law = subst (λ k. last_number k ms + 1 ≤ r) same law.0

  asked_low : (q : ℕ) (ms : List Moment) → AnswersWait ms → Asked q ms → q ≤ last_number n ms
  asked_low q [] law h = absurd (false_true h)
  asked_low q (up m ∷ ms) law h = by_test (m == n) h (λ k. asked_low q ms law.1 k)
    where
      by_test : (b : Bool) → list_any (is_asking n q) (if b then [] else up m ∷ since (is_boot n) ms) ≡ true → (Asked q ms → q ≤ last_number n ms) → q ≤ (if b then 0 else last_number n ms)
      by_test true k rest = absurd (false_true k)
      by_test false k rest = rest k
  asked_low q (asked m r ∷ ms) law h = by_test (m == n) refl h (λ k. asked_low q ms law.1 k)
    where
      by_test : (b : Bool) → (m == n) ≡ b → ((b && (r == q)) || list_any (is_asking n q) (since (is_boot n) ms)) ≡ true → (Asked q ms → q ≤ last_number n ms) → q ≤ (if b then r else last_number n ms)
      by_test true own k rest = by_case (or_cases (r == q) (list_any (is_asking n q) (since (is_boot n) ms)) k)
        where
          by_case : ((r == q) ≡ true) ⊎ Asked q ms → q ≤ r
          by_case (inl here) = same_le q r (sym (same_number r q here))
          by_case (inr there) = before_next q (last_number n ms) r (rest there) (numbered_own m r ms (same_number m n own) law.0)
      by_test false other k rest = rest k
  asked_low q (x ∷ ms) law h = asked_low q ms law.1 h

  -- what is answered was asked
  answered_asked : (q : ℕ) (ms : List Moment) → AnswersWait ms → answered_since n q ms ≡ true → Asked q ms
  answered_asked q [] law h = absurd (false_true h)
  answered_asked q (up m ∷ ms) law h = by_test (m == n) h (λ k. answered_asked q ms law.1 k)
    where
      by_test : (b : Bool) → list_any (is_answered_to n q) (if b then [] else up m ∷ since (is_boot n) ms) ≡ true → (answered_since n q ms ≡ true → Asked q ms)
          → list_any (is_asking n q) (if b then [] else up m ∷ since (is_boot n) ms) ≡ true
      by_test true k rest = absurd (false_true k)
      by_test false k rest = rest k
  answered_asked q (asked m r ∷ ms) law h = or_right ((m == n) && (r == q)) (list_any (is_asking n q) (since (is_boot n) ms)) (answered_asked q ms law.1 h)
  answered_asked q (answered m r reply ∷ ms) law h = by_case (or_cases ((m == n) && (r == q)) (list_any (is_answered_to n q) (since (is_boot n) ms)) h) (λ k. answered_asked q ms law.1 k)
    where
      by_case : (((m == n) && (r == q)) ≡ true) ⊎ (answered_since n q ms ≡ true) → (answered_since n q ms ≡ true → Asked q ms) → Asked q ms
      by_case (inl here) rest =
          let two : ((m == n) ≡ true) × ((r == q) ≡ true) = and_cases (m == n) (r == q) here in
          let stands : waits n q ms ≡ true = subst (λ k. waits n k ms ≡ true) (same_number r q two.1) (subst (λ k. waits k r ms ≡ true) (same_number m n two.0) law.0) in
          (and_cases (list_any (is_asking n q) (since (is_boot n) ms)) (not (list_any (is_answered_to n q) (since (is_asking n q) ms))) stands).0
      by_case (inr there) rest = rest there
  answered_asked q (x ∷ ms) law h = answered_asked q ms law.1 h

  -- what waits is not answered
  not_both : (q : ℕ) (ms : List Moment) → AnswersWait ms → waits n q ms ≡ true → answered_since n q ms ≡ true → ⊥
  not_both q [] law h g = false_true h
  not_both q (up m ∷ ms) law h g = by_test (m == n) h g (λ k l. not_both q ms law.1 k l)
    where
      by_test : (b : Bool) → (list_any (is_asking n q) (if b then [] else up m ∷ since (is_boot n) ms) && not (list_any (is_answered_to n q) (since (is_asking n q) ms))) ≡ true
          → list_any (is_answered_to n q) (if b then [] else up m ∷ since (is_boot n) ms) ≡ true → (waits n q ms ≡ true → answered_since n q ms ≡ true → ⊥) → ⊥
      by_test true k l rest = false_true l
      by_test false k l rest = rest k l
  not_both q (asked m r ∷ ms) law h g = by_test ((m == n) && (r == q)) refl h (λ k. not_both q ms law.1 k g)
    where
      by_test : (b : Bool) → ((m == n) && (r == q)) ≡ b
          → ((b || list_any (is_asking n q) (since (is_boot n) ms)) && not (list_any (is_answered_to n q) (if b then [] else asked m r ∷ since (is_asking n q) ms))) ≡ true → (waits n q ms ≡ true → ⊥) → ⊥
      by_test true here k rest =
          let two : ((m == n) ≡ true) × ((r == q) ≡ true) = and_cases (m == n) (r == q) here in
          never_next q (last_number n ms) (asked_low q ms law.1 (answered_asked q ms law.1 g))
          (subst (λ z. last_number n ms + 1 ≤ z) (same_number r q two.1) (numbered_own m r ms (same_number m n two.0) law.0))
      by_test false other k rest = rest k
  not_both q (answered m r reply ∷ ms) law h g = by_test ((m == n) && (r == q)) h g (λ k l. not_both q ms law.1 k l)
    where
      by_test : (b : Bool) → (list_any (is_asking n q) (since (is_boot n) ms) && not (b || list_any (is_answered_to n q) (since (is_asking n q) ms))) ≡ true
          → (b || list_any (is_answered_to n q) (since (is_boot n) ms)) ≡ true → (waits n q ms ≡ true → answered_since n q ms ≡ true → ⊥) → ⊥
      by_test true k l rest = false_true (and_cases (list_any (is_asking n q) (since (is_boot n) ms)) false k).1
      by_test false k l rest = rest k l
  not_both q (x ∷ ms) law h g = not_both q ms law.1 h g

  opens : (q : ℕ) (ms : List Moment) → AnswersWait ms → waits n q ms ≡ true → Open n q ms
  opens q ms law h = (h, by_test (answered_since n q ms) refl)
    where
      by_test : (b : Bool) → answered_since n q ms ≡ b → answered_since n q ms ≡ false
      by_test true is = absurd (not_both q ms law h is)
      by_test false is = is

  -- ---- the oldest that waits has the least number

  abbrev Leads : List Moment → List Moment → Option ℕ → Type 0
  Leads whole ms None = (k : ℕ) → Asked k ms → waits n k whole ≡ true → ⊥
  Leads whole ms (Some q) = (waits n q whole ≡ true) × Asked q ms × ((k : ℕ) → Asked k ms → waits n k whole ≡ true → q ≤ k)

  abbrev LeadsUp : List Moment → ℕ → List Moment → Bool → Option ℕ → Type 0
  LeadsUp whole m ms b None = (k : ℕ) → list_any (is_asking n k) (if b then [] else up m ∷ since (is_boot n) ms) ≡ true → waits n k whole ≡ true → ⊥
  LeadsUp whole m ms b (Some q) =
      (waits n q whole ≡ true) × (list_any (is_asking n q) (if b then [] else up m ∷ since (is_boot n) ms) ≡ true)
      × ((k : ℕ) → list_any (is_asking n k) (if b then [] else up m ∷ since (is_boot n) ms) ≡ true → waits n k whole ≡ true → q ≤ k)

  abbrev LeadsAsked : List Moment → ℕ → List Moment → Bool → Option ℕ → Type 0
  LeadsAsked whole r ms b None = (k : ℕ) → ((b && (r == k)) || list_any (is_asking n k) (since (is_boot n) ms)) ≡ true → waits n k whole ≡ true → ⊥
  LeadsAsked whole r ms b (Some q) =
      (waits n q whole ≡ true) × (((b && (r == q)) || list_any (is_asking n q) (since (is_boot n) ms)) ≡ true)
      × ((k : ℕ) → ((b && (r == k)) || list_any (is_asking n k) (since (is_boot n) ms)) ≡ true → waits n k whole ≡ true → q ≤ k)

  leads : (whole ms : List Moment) → AnswersWait ms → Leads whole ms (oldest_waiting n whole ms)
  leads whole [] law = λ k h w. false_true h
  leads whole (up m ∷ ms) law = by_test (m == n) (oldest_waiting n whole ms) (leads whole ms law.1)
    where
      by_test : (b : Bool) (o : Option ℕ) → Leads whole ms o → LeadsUp whole m ms b (if b then None else o)
      by_test true o h = λ k asks w. false_true asks
      by_test false None h = h
      by_test false (Some q) h = h
  leads whole (asked m r ∷ ms) law = by_test (m == n) (waits n r whole) refl refl (oldest_waiting n whole ms) (leads whole ms law.1)
    where
      itself : (k : ℕ) → (k == k) ≡ true
      itself k = grind arith

      by_test : (b w : Bool) → (m == n) ≡ b → waits n r whole ≡ w → (o : Option ℕ) → Leads whole ms o → LeadsAsked whole r ms b (older o (b && w) r)
      by_test false w other is None h = h
      by_test false w other is (Some q) h = h
      by_test true w own is (Some q) h = (h.0, or_right (r == q) (list_any (is_asking n q) (since (is_boot n) ms)) h.1, λ k asks stands. by_case k stands (or_cases (r == k) (list_any (is_asking n k) (since (is_boot n) ms)) asks))
        where
          by_case : (k : ℕ) → waits n k whole ≡ true → ((r == k) ≡ true) ⊎ Asked k ms → q ≤ k
          by_case k stands (inl here) =
              subst (λ z. q ≤ z) (same_number r k here) (before_next q (last_number n ms) r (asked_low q ms law.1 h.1) (numbered_own m r ms (same_number m n own) law.0))
          by_case k stands (inr there) = h.2 k there stands
      by_test true true own is None h = (is, or_left (r == r) (list_any (is_asking n r) (since (is_boot n) ms)) (itself r), λ k asks stands. by_case k stands (or_cases (r == k) (list_any (is_asking n k) (since (is_boot n) ms)) asks))
        where
          by_case : (k : ℕ) → waits n k whole ≡ true → ((r == k) ≡ true) ⊎ Asked k ms → r ≤ k
          by_case k stands (inl here) = same_le r k (same_number r k here)
          by_case k stands (inr there) = absurd (h k there stands)
      by_test true false own is None h = λ k asks stands. by_case k stands (or_cases (r == k) (list_any (is_asking n k) (since (is_boot n) ms)) asks)
        where
          by_case : (k : ℕ) → waits n k whole ≡ true → ((r == k) ≡ true) ⊎ Asked k ms → ⊥
          by_case k stands (inl here) = false_true (sym is ∙ subst (λ z. waits n z whole ≡ true) (sym (same_number r k here)) stands)
          by_case k stands (inr there) = h k there stands
  leads whole (x ∷ ms) law = leads whole ms law.1

  -- ---- each command that waits has its request

  abbrev AreTold : List Request → Type 0
  AreTold rs = AllByRecursion (λ (r : Request). r.told ≡ true) rs

  not_same : (a b : ℕ) → (a == b) ≡ false → b ≢ a
  not_same a b h = grind arith

  or_none : (a b : Bool) → (a || b) ≡ false → (a ≡ false) × (b ≡ false)
  or_none true b h = absurd (false_true (sym h))
  or_none false b h = (refl, h)

  none_more : (a b : ℕ) → 1 + a ≤ b → b ≤ 0 → ⊥
  none_more a b h none = omega (arith, h, none)

  -- .. a command's request with this number
  abbrev has_told : ℕ → List Request → Bool
  has_told q rs = list_any (λ (r : Request). r.told && (r.number == q)) rs

  no_other : (q : ℕ) (rs : List Request) (ms : List Moment) → AreDue n ms rs → AreOnce rs → waiting_of n ms ≤ tally is_told rs → Open n q ms → has_told q rs ≡ false → ⊥
  no_other q [] ms due once most stands apart =
      none_more (waiting_of n (answered n q answer.Ok ∷ ms)) (waiting_of n ms)
      (answered_less n q answer.Ok ms (and_cases (list_any (is_asking n q) (since (is_boot n) ms)) (not (list_any (is_answered_to n q) (since (is_asking n q) ms))) stands.0).0 stands.1) most
  no_other q (r ∷ rs) ms due once most stands apart =
      by_told r.told refl most (or_none (r.told && (r.number == q)) (has_told q rs) apart).0
      (λ ms more few still. no_other q rs ms more once.1 few still (or_none (r.told && (r.number == q)) (has_told q rs) apart).1)
    where
      by_told : (b : Bool) → r.told ≡ b → waiting_of n ms ≤ cond b (1 + tally is_told rs) (tally is_told rs) → (b && (r.number == q)) ≡ false
          → ((later : List Moment) → AreDue n later rs → waiting_of n later ≤ tally is_told rs → Open n q later → ⊥) → ⊥
      by_told true is few other rest =
          rest (answered n r.number answer.Ok ∷ ms) (due_others n r.number answer.Ok ms rs once.0 due.1) (one_less n r.number answer.Ok ms (tally is_told rs) (due.0 is) few)
          (other_waits n r.number q answer.Ok ms (not_same r.number q other) stands)
      by_told false is few other rest = rest ms due.1 few stands

  -- where no monitor asked, each request is a command's
  tally_none : (xs : List Moment) → list_any (is_monitors n) xs ≡ false → tally (is_monitors n) xs ≤ 0
  tally_none [] h = same_le 0 0 refl
  tally_none (x ∷ xs) h = by_test (is_monitors n x) (or_none (is_monitors n x) (list_any (is_monitors n) xs) h).0 (tally_none xs (or_none (is_monitors n x) (list_any (is_monitors n) xs) h).1)
    where
      by_test : (b : Bool) → b ≡ false → tally (is_monitors n) xs ≤ 0 → cond b (1 + tally (is_monitors n) xs) (tally (is_monitors n) xs) ≤ 0
      by_test true is rest = absurd (false_true (sym is))
      by_test false is rest = rest

  all_told : (rs : List Request) → tally is_untold rs ≤ 0 → AreTold rs
  all_told [] h = tt
  all_told (r ∷ rs) h = by_test r.told refl h (λ k. all_told rs k)
    where
      some_none : (k : ℕ) → 1 + k ≤ 0 → ⊥
      some_none k e = omega (arith, e)

      by_test : (b : Bool) → r.told ≡ b → cond (not b) (1 + tally is_untold rs) (tally is_untold rs) ≤ 0 → (tally is_untold rs ≤ 0 → AreTold rs) → (r.told ≡ true) × AreTold rs
      by_test true is k rest = (is, rest k)
      by_test false is k rest = absurd (some_none (tally is_untold rs) k)

  above_in : (k q : ℕ) (rs : List Request) → AreAbove k rs → has_told q rs ≡ true → k ≤ q
  above_in k q [] above h = absurd (false_true h)
  above_in k q (r ∷ rs) above h = by_case (or_cases (r.told && (r.number == q)) (has_told q rs) h) (λ there. above_in k q rs above.1 there)
    where
      by_case : ((r.told && (r.number == q)) ≡ true) ⊎ (has_told q rs ≡ true) → (has_told q rs ≡ true → k ≤ q) → k ≤ q
      by_case (inl here) rest = subst (λ z. k ≤ z) (same_number r.number q (and_cases r.told (r.number == q) here).1) above.0
      by_case (inr there) rest = rest there

  first_least : (r : Request) (rs : List Request) (q : ℕ) → AreRising (r ∷ rs) → has_told q (r ∷ rs) ≡ true → r.number ≤ q
  first_least r rs q rising h = by_case (or_cases (r.told && (r.number == q)) (has_told q rs) h)
    where
      by_case : ((r.told && (r.number == q)) ≡ true) ⊎ (has_told q rs ≡ true) → r.number ≤ q
      by_case (inl here) = same_le r.number q (same_number r.number q (and_cases r.told (r.number == q) here).1)
      by_case (inr there) = above_in r.number q rs rising.0 there

  both_ways : (a b : ℕ) → a ≤ b → b ≤ a → a ≡ b
  both_ways a b h k = omega (arith, h, k)

  -- where no monitor asked since the node went up, each request is a command's
  pub told_by : (top : ℕ) (rs : List Request) (ms : List Moment) → Owed n ms Free top rs → list_any (is_monitors n) (since (is_boot n) ms) ≡ false → AreTold rs
  told_by top rs ms owed quiet = all_told rs (le_then (tally is_untold rs) (monitors_of n ms) 0 owed.monitors (tally_none (since (is_boot n) ms) quiet))

  in_queue : (top : ℕ) (rs : List Request) (ms : List Moment) → AnswersWait ms → Owed n ms Free top rs → (q : ℕ) → waits n q ms ≡ true → has_told q rs ≡ true
  in_queue top rs ms law owed q stands = by_test (has_told q rs) refl
    where
      by_test : (b : Bool) → has_told q rs ≡ b → has_told q rs ≡ true
      by_test true is = is
      by_test false is = absurd (no_other q rs ms owed.due owed.once owed.most (opens q ms law stands) is)

  pub none_waits : (top : ℕ) (rs : List Request) (ms : List Moment) → AnswersWait ms → Owed n ms Free top rs → oldest_in rs ≡ None → oldest_waiting n ms ms ≡ None
  none_waits top [] ms law owed none = by_oldest (oldest_waiting n ms ms) (leads ms ms law)
    where
      by_oldest : (o : Option ℕ) → Leads ms ms o → o ≡ None
      by_oldest None h = refl
      by_oldest (Some q) h = absurd (false_true (in_queue top [] ms law owed q h.0))
  none_waits top (r ∷ rs) ms law owed none = absurd (none_some r (sym none))

  pub oldest_is : (top : ℕ) (rs : List Request) (ms : List Moment) (first : Request) → AnswersWait ms → Owed n ms Free top rs → IsQueue top rs → oldest_in rs ≡ Some first → first.told ≡ true
      → oldest_waiting n ms ms ≡ Some first.number
  oldest_is top [] ms first law owed queue is told = absurd (none_some first is)
  oldest_is top (r ∷ rs) ms first law owed queue is told =
      subst (λ (z : Request). z.told ≡ true → oldest_waiting n ms ms ≡ Some z.number) (same_some r first is) (λ of_command. by_oldest of_command (oldest_waiting n ms ms) (leads ms ms law)) told
    where
      by_oldest : r.told ≡ true → (o : Option ℕ) → Leads ms ms o → o ≡ Some r.number
      by_oldest of_command None h =
          absurd (h r.number (and_cases (list_any (is_asking n r.number) (since (is_boot n) ms)) (not (list_any (is_answered_to n r.number) (since (is_asking n r.number) ms))) (owed.due.0 of_command).0).0 (owed.due.0 of_command).0)
      by_oldest of_command (Some q) h =
          ap Some (both_ways q r.number
          (h.2 r.number (and_cases (list_any (is_asking n r.number) (since (is_boot n) ms)) (not (list_any (is_answered_to n r.number) (since (is_asking n r.number) ms))) (owed.due.0 of_command).0).0 (owed.due.0 of_command).0)
          (first_least r rs q queue.rising (in_queue top (r ∷ rs) ms law owed q h.0)))
