-- What was answered since an update was proposed: its Prepares are sent behind its line, which stands once.
use Rattle.std.specs.Prelude.{ℕ, ◌≡◌, ◌⊎◌, ◌==◌, ◌&&◌, ◌||◌, Bool, true, false, List, [], ◌∷◌, Option, None, Some, IfSome, if◌then◌else◌}
use Rattle.std.specs.List.{list_any}
use Rattle.std.proofs.Common.{refl, ap, sym, subst, ◌∙◌, inl, inr}
use Rattle.cl_base.specs.declared.packet.MessageName.{MessageName}
use Rattle.cmm_attempt.proofs.Basics.{and_cases, false_true, none_some, or_cases, same_number, same_some}
use Rattle.history.specs.Contact.{IsPrepared, IsProposed, Prepared, came, has_answered, is_message_of, is_proposal}
use Rattle.history.specs.Letters.{Letter, is_exchanged, is_letter, letter_of, passes, reached}
use Rattle.history.specs.Member.{attempt_of, number_of}
use Rattle.history.specs.Moment.{Moment}
use Rattle.history.specs.Names as name
use Rattle.history.specs.Names.{Name, named, same_name}
use Rattle.history.specs.Order.{before_last, since}
use Rattle.history.specs.Seizing.{is_number}
use Rattle.history.specs.Setting.{coordinator}
use Rattle.history.specs.Trace.{delivered, propose, repeated, sent}
use Rattle.run_history.proofs.Idle.{if_false, if_true}

-- a letter of these moments: what was before it keeps to the law, and so does its line
record IsLawful (l : Letter) : Type 0 where
  earlier : Prepared l.before
  number : ℕ
  called : MessageName
  name : named called ≡ l.name
  line : IsPrepared l.before (sent number l.from l.to called l.bytes)

lawful : (p : ℕ) (ms : List Moment) (l : Letter) → Prepared ms → letter_of p ms ≡ Some l → IsLawful l
lawful p [] l law is = absurd (none_some l is)
lawful p (sent q a b called bytes ∷ ms) l law is = by_test (q == p) is (λ h. lawful p ms l law.1 h)
  where
    here : Letter
    here = record { from = a; to = b; name = named called; bytes = bytes; before = ms }

    by_test : (t : Bool) → (if t then Some here else letter_of p ms) ≡ Some l → (letter_of p ms ≡ Some l → IsLawful l) → IsLawful l
    by_test true found rest = subst IsLawful (same_some here l found) (record { earlier = law.1; number = q; called = called; name = refl; line = law.0 })
    by_test false found rest = rest found
lawful p (repeated q copy ∷ ms) l law is = lawful (if copy == p then q else p) ms l law.1 is
lawful p (x ∷ ms) l law is = lawful p ms l law.1 is

module _ (e v : ℕ) where
  -- the line of the proposal
  abbrev T : Moment → Bool
  T x = is_proposal e v x

  or_right : (a b : Bool) → b ≡ true → (a || b) ≡ true
  or_right true b h = refl
  or_right false b h = h

  -- what stands before a letter stands among the moments
  within : (p : ℕ) (ms : List Moment) (l : Letter) → letter_of p ms ≡ Some l → list_any T l.before ≡ true → list_any T ms ≡ true
  within p [] l is h = absurd (none_some l is)
  within p (sent q a b called bytes ∷ ms) l is h = by_test (q == p) is (λ k. within p ms l k h)
    where
      here : Letter
      here = record { from = a; to = b; name = named called; bytes = bytes; before = ms }

      by_test : (t : Bool) → (if t then Some here else letter_of p ms) ≡ Some l → (letter_of p ms ≡ Some l → list_any T ms ≡ true) → list_any T ms ≡ true
      by_test true found rest = subst (λ (k : Letter). list_any T k.before ≡ true) (sym (same_some here l found)) h
      by_test false found rest = rest found
  within p (repeated q copy ∷ ms) l is h = within (if copy == p then q else p) ms l is h
  within p (propose f w words ∷ ms) l is h = or_right ((f == e) && (w == v)) (list_any T ms) (within p ms l is h)
  within p (x ∷ ms) l is h = or_right (T x) (list_any T ms) (within p ms l is h)

  -- the proposal stands once
  abbrev Once : List Moment → Type 0
  Once ms = list_any T (before_last T ms) ≡ false

  true_false : (b : Bool) → b ≡ true → b ≡ false → ⊥
  true_false b h k = cc

  -- .. so it does among what was before a letter that was sent behind it
  once_before : (p : ℕ) (ms : List Moment) (l : Letter) → Once ms → letter_of p ms ≡ Some l → list_any T l.before ≡ true → Once l.before
  once_before p [] l once is h = absurd (none_some l is)
  once_before p (sent q a b called bytes ∷ ms) l once is h = by_test (q == p) is (λ k. once_before p ms l once k h)
    where
      here : Letter
      here = record { from = a; to = b; name = named called; bytes = bytes; before = ms }

      by_test : (t : Bool) → (if t then Some here else letter_of p ms) ≡ Some l → (letter_of p ms ≡ Some l → Once l.before) → Once l.before
      by_test true found rest = subst (λ (k : Letter). Once k.before) (same_some here l found) once
      by_test false found rest = rest found
  once_before p (repeated q copy ∷ ms) l once is h = once_before (if copy == p then q else p) ms l once is h
  once_before p (propose f w words ∷ ms) l once is h = by_test ((f == e) && (w == v)) refl (λ k. once_before p ms l k is h)
    where
      by_test : (t : Bool) → ((f == e) && (w == v)) ≡ t → (Once ms → Once l.before) → Once l.before
      by_test true here rest = absurd (true_false (list_any T ms) (within p ms l is h) (ap (list_any T) (sym (if_true ((f == e) && (w == v)) ms (before_last T ms) here)) ∙ once))
      by_test false here rest = rest (ap (list_any T) (sym (if_false ((f == e) && (w == v)) ms (before_last T ms) here)) ∙ once)
  once_before p (x ∷ ms) l once is h = once_before p ms l once is h

  -- a letter among the moments since
  cut : Letter → Letter
  cut l = record { from = l.from; to = l.to; name = l.name; bytes = l.bytes; before = since T l.before }

  letter_since : (p : ℕ) (ms : List Moment) (l : Letter) → Once ms → letter_of p ms ≡ Some l → list_any T l.before ≡ true → letter_of p (since T ms) ≡ Some (cut l)
  unfolding cut
  letter_since p [] l once is h = absurd (none_some l is)
  letter_since p (sent q a b called bytes ∷ ms) l once is h = by_test (q == p) is (λ k. letter_since p ms l once k h)
    where
      here : Letter
      here = record { from = a; to = b; name = named called; bytes = bytes; before = ms }

      short : Letter
      short = record { from = a; to = b; name = named called; bytes = bytes; before = since T ms }

      by_test : (t : Bool) → (if t then Some here else letter_of p ms) ≡ Some l → (letter_of p ms ≡ Some l → letter_of p (since T ms) ≡ Some (cut l)) → (if t then Some short else letter_of p (since T ms)) ≡ Some (cut l)
      by_test true found rest = ap (λ (k : Letter). Some (cut k)) (same_some here l found)
      by_test false found rest = rest found
  letter_since p (repeated q copy ∷ ms) l once is h = letter_since (if copy == p then q else p) ms l once is h
  letter_since p (propose f w words ∷ ms) l once is h = by_test ((f == e) && (w == v)) refl (λ k. letter_since p ms l k is h)
    where
      by_test : (t : Bool) → ((f == e) && (w == v)) ≡ t → (Once ms → letter_of p (since T ms) ≡ Some (cut l)) → letter_of p (since T (propose f w words ∷ ms)) ≡ Some (cut l)
      by_test true here rest = absurd (true_false (list_any T ms) (within p ms l is h) (ap (list_any T) (sym (if_true ((f == e) && (w == v)) ms (before_last T ms) here)) ∙ once))
      by_test false here rest =
          ap (letter_of p) (if_false ((f == e) && (w == v)) [] (propose f w words ∷ since T ms) here)
          ∙ rest (ap (list_any T) (sym (if_false ((f == e) && (w == v)) ms (before_last T ms) here)) ∙ once)
  letter_since p (x ∷ ms) l once is h = letter_since p ms l once is h

  -- a test that only letters pass which were sent behind the proposal
  Behind : (Letter → Bool) → Type 0
  Behind test = (l : Letter) → IsLawful l → test l ≡ true → list_any T l.before ≡ true

  passed : (test : Letter → Bool) (o : Option Letter) (R : Type 0) → passes test o ≡ true → ((l : Letter) → o ≡ Some l → test l ≡ true → R) → R
  passed test None R h f = absurd (false_true h)
  passed test (Some l) R h f = f l refl h

  reached_within : (test : Letter → Bool) (ms : List Moment) → Prepared ms → Behind test → reached test ms ≡ true → list_any T ms ≡ true
  unfolding Behind
  reached_within test [] law behind h = absurd (false_true h)
  reached_within test (delivered p a b ∷ ms) law behind h = by_case (or_cases (passes test (letter_of p ms)) (reached test ms) h) (λ k. reached_within test ms law.1 behind k)
    where
      by_case : (passes test (letter_of p ms) ≡ true) ⊎ (reached test ms ≡ true) → (reached test ms ≡ true → list_any T ms ≡ true) → list_any T ms ≡ true
      by_case (inl here) rest = passed test (letter_of p ms) (list_any T ms ≡ true) here (λ l is so. within p ms l is (behind l (lawful p ms l law.1 is) so))
      by_case (inr there) rest = rest there
  reached_within test (propose f w words ∷ ms) law behind h = or_right ((f == e) && (w == v)) (list_any T ms) (reached_within test ms law.1 behind h)
  reached_within test (x ∷ ms) law behind h = or_right (T x) (list_any T ms) (reached_within test ms law.1 behind h)

  -- what was reached was reached since
  reached_later : (test other : Letter → Bool) (ms : List Moment) → Prepared ms → Once ms → Behind test → ((l : Letter) → IsLawful l → Once l.before → test l ≡ true → other (cut l) ≡ true) → reached test ms ≡ true
      → reached other (since T ms) ≡ true
  unfolding Behind
  reached_later test other [] law once behind so h = absurd (false_true h)
  reached_later test other (delivered p a b ∷ ms) law once behind so h = by_case (or_cases (passes test (letter_of p ms)) (reached test ms) h) (λ k. reached_later test other ms law.1 once behind so k)
    where
      or_left : (a b : Bool) → a ≡ true → (a || b) ≡ true
      or_left a b h = cc

      by_case : (passes test (letter_of p ms) ≡ true) ⊎ (reached test ms ≡ true) → (reached test ms ≡ true → reached other (since T ms) ≡ true) → (passes other (letter_of p (since T ms)) || reached other (since T ms)) ≡ true
      by_case (inl here) rest =
          or_left (passes other (letter_of p (since T ms))) (reached other (since T ms))
          (passed test (letter_of p ms) (passes other (letter_of p (since T ms)) ≡ true) here
          (λ l is good.
          let fine : IsLawful l = lawful p ms l law.1 is in
          let after : list_any T l.before ≡ true = behind l fine good in
          ap (passes other) (letter_since p ms l once is after) ∙ so l fine (once_before p ms l once is after) good))
      by_case (inr there) rest = or_right (passes other (letter_of p (since T ms))) (reached other (since T ms)) (rest there)
  reached_later test other (propose f w words ∷ ms) law once behind so h = by_test ((f == e) && (w == v)) refl (λ k. reached_later test other ms law.1 k behind so h)
    where
      by_test : (t : Bool) → ((f == e) && (w == v)) ≡ t → (Once ms → reached other (since T ms) ≡ true) → reached other (since T (propose f w words ∷ ms)) ≡ true
      by_test true here rest = absurd (true_false (list_any T ms) (reached_within test ms law.1 behind h) (ap (list_any T) (sym (if_true ((f == e) && (w == v)) ms (before_last T ms) here)) ∙ once))
      by_test false here rest =
          ap (reached other) (if_false ((f == e) && (w == v)) [] (propose f w words ∷ since T ms) here)
          ∙ rest (ap (list_any T) (sym (if_false ((f == e) && (w == v)) ms (before_last T ms) here)) ∙ once)
  reached_later test other (x ∷ ms) law once behind so h = reached_later test other ms law.1 once behind so h

  -- ---- the Prepares of the proposal

  named_prepare : (before : List Moment) (c : ℕ) (called : Name) → same_name called (name.Prepare v) ≡ true → IsProposed before c called → IfSome (attempt_of c before) (λ f. list_any (is_proposal f v) before ≡ true)
  named_prepare before c (name.Prepare w) same h = subst (λ z. IfSome (attempt_of c before) (λ f. list_any (is_proposal f z) before ≡ true)) (same_number w v same) h
  named_prepare before c _ same h = absurd (false_true same)

  of_attempt : (before : List Moment) (o : Option ℕ) → is_number e o ≡ true → IfSome o (λ f. list_any (is_proposal f v) before ≡ true) → list_any (is_proposal e v) before ≡ true
  of_attempt before None same h = absurd (false_true same)
  of_attempt before (Some f) same h = subst (λ z. list_any (is_proposal z v) before ≡ true) (same_number f e same) h

  prepare_behind : (m : ℕ) → Behind (is_message_of e (name.Prepare v) m)
  unfolding Behind
  prepare_behind m l good is =
      let parts : (is_letter (name.Prepare v) (coordinator e) m l ≡ true) × (is_number e (number_of l) ≡ true) = and_cases (is_letter (name.Prepare v) (coordinator e) m l) (is_number e (number_of l)) is in
      let two : ((same_name l.name (name.Prepare v) && (l.from == coordinator e)) ≡ true) × ((l.to == m) ≡ true) = and_cases (same_name l.name (name.Prepare v) && (l.from == coordinator e)) (l.to == m) parts.0 in
      of_attempt l.before (attempt_of l.from l.before) parts.1
      (named_prepare l.before l.from l.name (and_cases (same_name l.name (name.Prepare v)) (l.from == coordinator e) two.0).0 (subst (IsProposed l.before l.from) good.name good.line))

  came_since : (m : ℕ) (ms : List Moment) → Prepared ms → Once ms → came e (name.Prepare v) m ms ≡ true → reached (is_letter (name.Prepare v) (coordinator e) m) (since T ms) ≡ true
  unfolding cut
  came_since m ms law once h =
      reached_later (is_message_of e (name.Prepare v) m) (is_letter (name.Prepare v) (coordinator e) m) ms law once (prepare_behind m)
      (λ l good still is. (and_cases (is_letter (name.Prepare v) (coordinator e) m l) (is_number e (number_of l)) is).0) h

  answered_test : ℕ → Letter → Bool
  answered_test m l = is_letter (name.Prepared v) m (coordinator e) l && came e (name.Prepare v) m l.before

  answered_behind : (m : ℕ) → Behind (answered_test m)
  unfolding Behind answered_test
  answered_behind m l good is =
      reached_within (is_message_of e (name.Prepare v) m) l.before good.earlier (prepare_behind m) (and_cases (is_letter (name.Prepared v) m (coordinator e) l) (came e (name.Prepare v) m l.before) is).1

  pub exchanged : (m : ℕ) (ms : List Moment) → Prepared ms → list_any (is_proposal e v) (before_last (is_proposal e v) ms) ≡ false → has_answered e (name.Prepare v) (name.Prepared v) m ms ≡ true
      → is_exchanged (name.Prepare v) (name.Prepared v) (coordinator e) m (since (is_proposal e v) ms) ≡ true
  unfolding answered_test cut
  exchanged m ms law once h =
      reached_later (answered_test m) (λ l. is_letter (name.Prepared v) m (coordinator e) l && reached (is_letter (name.Prepare v) (coordinator e) m) l.before) ms law once (answered_behind m)
      (λ l good still is.
      let parts : (is_letter (name.Prepared v) m (coordinator e) l ≡ true) × (came e (name.Prepare v) m l.before ≡ true) = and_cases (is_letter (name.Prepared v) m (coordinator e) l) (came e (name.Prepare v) m l.before) is in
      both_true (is_letter (name.Prepared v) m (coordinator e) l) (reached (is_letter (name.Prepare v) (coordinator e) m) (since T l.before)) parts.0 (came_since m l.before good.earlier still parts.1)) h
    where
      both_true : (a b : Bool) → a ≡ true → b ≡ true → (a && b) ≡ true
      both_true a b h k = cc
