-- A Request that was sent and answered since its node became a member last was exchanged among the moments since.
use Rattle.std.specs.Prelude.{ℕ, ◌+◌, ◌≡◌, ◌≤◌, ◌⊎◌, ◌==◌, ◌&&◌, ◌||◌, Bool, true, false, List, [], ◌∷◌, Option, None, Some, if◌then◌else◌}
use Rattle.std.proofs.Common.{refl, ap, sym, subst, ◌∙◌, inl, inr, arith}
use Rattle.cmm_attempt.proofs.Basics.{and_cases, false_true, none_some, or_cases, same_number, same_some}
use Rattle.history.specs.Letters.{Letter, is_exchanged, is_letter, letter_of, passes, reached}
use Rattle.history.specs.Messages.{is_membership_of}
use Rattle.history.specs.Moment.{Moment}
use Rattle.history.specs.Names as name
use Rattle.history.specs.Names.{named}
use Rattle.history.specs.Order.{since}
use Rattle.history.specs.Trace.{delivered, member, repeated, sent}
use Rattle.run_history.proofs.Idle.{if_false, if_true}
use Rattle.run_packets.specs.again.Exchanges.{exchanged_in, is_answer_in, is_request_in, memberships}

module _ (n : ℕ) where
  -- it becomes a member
  abbrev T : Moment → Bool
  T x = is_membership_of n x

  -- a letter among the moments since
  cut : Letter → Letter
  cut l = record { from = l.from; to = l.to; name = l.name; bytes = l.bytes; before = since T l.before }

  same_le : (a : ℕ) → a ≤ a
  same_le a = omega arith

  one_more : (a b : ℕ) → a ≤ b → a ≤ b + 1
  one_more a b h = omega (arith, h)

  no_more : (a b : ℕ) → a ≤ b → a ≡ b + 1 → ⊥
  no_more a b h is = absurd (omega (arith, h, is))

  -- what stands before a letter stands among the moments
  few : (p : ℕ) (ms : List Moment) (l : Letter) → letter_of p ms ≡ Some l → memberships n l.before ≤ memberships n ms
  few p [] l is = absurd (none_some l is)
  few p (sent q a b called bytes ∷ ms) l is = by_test (q == p) is (λ k. few p ms l k)
    where
      here : Letter
      here = record { from = a; to = b; name = named called; bytes = bytes; before = ms }

      by_test : (t : Bool) → (if t then Some here else letter_of p ms) ≡ Some l → (letter_of p ms ≡ Some l → memberships n l.before ≤ memberships n ms) → memberships n l.before ≤ memberships n ms
      by_test true found rest = subst (λ (k : Letter). memberships n k.before ≤ memberships n ms) (same_some here l found) (same_le (memberships n ms))
      by_test false found rest = rest found
  few p (repeated q copy ∷ ms) l is = few (if copy == p then q else p) ms l is
  few p (member m e ∷ ms) l is = by_test (m == n) (few p ms l is)
    where
      by_test : (t : Bool) → memberships n l.before ≤ memberships n ms → memberships n l.before ≤ (if t then memberships n ms + 1 else memberships n ms)
      by_test true h = one_more (memberships n l.before) (memberships n ms) h
      by_test false h = h
  few p (x ∷ ms) l is = few p ms l is

  letter_since : (p : ℕ) (ms : List Moment) (l : Letter) → memberships n l.before ≡ memberships n ms → letter_of p ms ≡ Some l → letter_of p (since T ms) ≡ Some (cut l)
  unfolding cut
  letter_since p [] l same is = absurd (none_some l is)
  letter_since p (sent q a b called bytes ∷ ms) l same is = by_test (q == p) is (λ k. letter_since p ms l same k)
    where
      here : Letter
      here = record { from = a; to = b; name = named called; bytes = bytes; before = ms }

      short : Letter
      short = record { from = a; to = b; name = named called; bytes = bytes; before = since T ms }

      by_test : (t : Bool) → (if t then Some here else letter_of p ms) ≡ Some l → (letter_of p ms ≡ Some l → letter_of p (since T ms) ≡ Some (cut l)) → (if t then Some short else letter_of p (since T ms)) ≡ Some (cut l)
      by_test true found rest = ap (λ (k : Letter). Some (cut k)) (same_some here l found)
      by_test false found rest = rest found
  letter_since p (repeated q copy ∷ ms) l same is = letter_since (if copy == p then q else p) ms l same is
  letter_since p (member m e ∷ ms) l same is = by_test (m == n) refl (λ k. letter_since p ms l k is)
    where
      by_test : (t : Bool) → (m == n) ≡ t → (memberships n l.before ≡ memberships n ms → letter_of p (since T ms) ≡ Some (cut l)) → letter_of p (since T (member m e ∷ ms)) ≡ Some (cut l)
      by_test true here rest = absurd (no_more (memberships n l.before) (memberships n ms) (few p ms l is) (same ∙ if_true (m == n) (memberships n ms + 1) (memberships n ms) here))
      by_test false here rest =
          ap (letter_of p) (if_false (m == n) [] (member m e ∷ since T ms) here) ∙ rest (same ∙ if_false (m == n) (memberships n ms + 1) (memberships n ms) here)
  letter_since p (x ∷ ms) l same is = letter_since p ms l same is

  passed : (test : Letter → Bool) (o : Option Letter) (R : Type 0) → passes test o ≡ true → ((l : Letter) → o ≡ Some l → test l ≡ true → R) → R
  passed test None R h f = absurd (false_true h)
  passed test (Some l) R h f = f l refl h

  at_least : (a b c : ℕ) → a ≤ b → b ≤ c → a ≤ c
  at_least a b c h k = omega (arith, h, k)

  -- a test that letters pass which were sent in its k-th membership, or later
  Behind : ℕ → (Letter → Bool) → Type 0
  Behind k test = (l : Letter) → test l ≡ true → k ≤ memberships n l.before

  reached_low : (k : ℕ) (test : Letter → Bool) (ms : List Moment) → Behind k test → reached test ms ≡ true → k ≤ memberships n ms
  unfolding Behind
  reached_low k test [] behind h = absurd (false_true h)
  reached_low k test (delivered p a b ∷ ms) behind h = by_case (or_cases (passes test (letter_of p ms)) (reached test ms) h) (λ there. reached_low k test ms behind there)
    where
      by_case : (passes test (letter_of p ms) ≡ true) ⊎ (reached test ms ≡ true) → (reached test ms ≡ true → k ≤ memberships n ms) → k ≤ memberships n ms
      by_case (inl here) rest = passed test (letter_of p ms) (k ≤ memberships n ms) here (λ l is so. at_least k (memberships n l.before) (memberships n ms) (behind l so) (few p ms l is))
      by_case (inr there) rest = rest there
  reached_low k test (member m e ∷ ms) behind h = by_test (m == n) (reached_low k test ms behind h)
    where
      by_test : (t : Bool) → k ≤ memberships n ms → k ≤ (if t then memberships n ms + 1 else memberships n ms)
      by_test true low = one_more k (memberships n ms) low
      by_test false low = low
  reached_low k test (x ∷ ms) behind h = reached_low k test ms behind h

  between : (a b k : ℕ) → k ≤ a → a ≤ b → k ≡ b → a ≡ b
  between a b k low high is = omega (arith, low, high, is)

  -- what was reached was reached since
  reached_later : (k : ℕ) (test other : Letter → Bool) (ms : List Moment) → k ≡ memberships n ms → Behind k test → ((l : Letter) → k ≡ memberships n l.before → test l ≡ true → other (cut l) ≡ true) → reached test ms ≡ true
      → reached other (since T ms) ≡ true
  unfolding Behind
  reached_later k test other [] last behind so h = absurd (false_true h)
  reached_later k test other (delivered p a b ∷ ms) last behind so h = by_case (or_cases (passes test (letter_of p ms)) (reached test ms) h) (λ there. reached_later k test other ms last behind so there)
    where
      or_left : (a b : Bool) → a ≡ true → (a || b) ≡ true
      or_left a b h = cc

      or_right : (a b : Bool) → b ≡ true → (a || b) ≡ true
      or_right true b h = refl
      or_right false b h = h

      by_case : (passes test (letter_of p ms) ≡ true) ⊎ (reached test ms ≡ true) → (reached test ms ≡ true → reached other (since T ms) ≡ true) → (passes other (letter_of p (since T ms)) || reached other (since T ms)) ≡ true
      by_case (inl here) rest =
          or_left (passes other (letter_of p (since T ms))) (reached other (since T ms))
          (passed test (letter_of p ms) (passes other (letter_of p (since T ms)) ≡ true) here
          (λ l is good.
          let same : memberships n l.before ≡ memberships n ms = between (memberships n l.before) (memberships n ms) k (behind l good) (few p ms l is) last in
          ap (passes other) (letter_since p ms l same is) ∙ so l (last ∙ sym same) good))
      by_case (inr there) rest = or_right (passes other (letter_of p (since T ms))) (reached other (since T ms)) (rest there)
  reached_later k test other (member m e ∷ ms) last behind so h = by_test (m == n) refl (λ below. reached_later k test other ms below behind so h)
    where
      by_test : (t : Bool) → (m == n) ≡ t → (k ≡ memberships n ms → reached other (since T ms) ≡ true) → reached other (since T (member m e ∷ ms)) ≡ true
      by_test true here rest = absurd (no_more k (memberships n ms) (reached_low k test ms behind h) (last ∙ if_true (m == n) (memberships n ms + 1) (memberships n ms) here))
      by_test false here rest =
          ap (reached other) (if_false (m == n) [] (member m e ∷ since T ms) here) ∙ rest (last ∙ if_false (m == n) (memberships n ms + 1) (memberships n ms) here)
  reached_later k test other (x ∷ ms) last behind so h = reached_later k test other ms last behind so h

  -- ---- the Request, and its Answer

  least : (a k : ℕ) → a ≡ k → k ≤ a
  least a k h = omega (arith, h)

  request_behind : (c q k : ℕ) → Behind k (is_request_in n c q k)
  unfolding Behind
  request_behind c q k l is = least (memberships n l.before) k (same_number (memberships n l.before) k (and_cases (is_letter (name.Request q) n c l) (memberships n l.before == k) is).1)

  answer_behind : (c q k : ℕ) → Behind k (is_answer_in n c q k)
  unfolding Behind
  answer_behind c q k l is = reached_low k (is_request_in n c q k) l.before (request_behind c q k) (and_cases (is_letter (name.Answer q) c n l) (reached (is_request_in n c q k) l.before) is).1

  both_true : (a b : Bool) → a ≡ true → b ≡ true → (a && b) ≡ true
  both_true a b h k = cc

  pub exchanged_since : (c q : ℕ) (ms : List Moment) → exchanged_in n c q (memberships n ms) ms ≡ true → is_exchanged (name.Request q) (name.Answer q) n c (since (is_membership_of n) ms) ≡ true
  unfolding cut
  exchanged_since c q ms h =
      let k : ℕ = memberships n ms in
      reached_later k (is_answer_in n c q k) (λ l. is_letter (name.Answer q) c n l && reached (is_letter (name.Request q) n c) l.before) ms refl (answer_behind c q k)
      (λ l last is.
      let parts : (is_letter (name.Answer q) c n l ≡ true) × (reached (is_request_in n c q k) l.before ≡ true) = and_cases (is_letter (name.Answer q) c n l) (reached (is_request_in n c q k) l.before) is in
      both_true (is_letter (name.Answer q) c n l) (reached (is_letter (name.Request q) n c) (since T l.before)) parts.0
      (reached_later k (is_request_in n c q k) (is_letter (name.Request q) n c) l.before last (request_behind c q k)
      (λ j same good. (and_cases (is_letter (name.Request q) n c j) (memberships n j.before == k) good).0) parts.1)) h
