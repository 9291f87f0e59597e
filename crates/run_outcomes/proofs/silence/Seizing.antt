-- While an attempt seizes devices, the answers for which it waits are missing by the lines.
use Rattle.std.specs.Prelude.{ℕ, ◌==◌, ◌&&◌, ◌||◌, ◌≡◌, ◌⊎◌, not, Bool, true, false, List, [], ◌∷◌, Option, None, Some, is_none, is_some, if◌then◌else◌}
use Rattle.std.specs.List.{list_any}
use Rattle.std.specs.Option.{option_and_then}
use Rattle.std.proofs.Common.{arith, refl, sym, ap, subst, ◌∙◌, inl, inr}
use Rattle.attempt_laws.specs.Asking.{AreApart, entry_numbers, entry_of}
use Rattle.attempt_laws.specs.Staying.{IsBefore}
use Rattle.cmm_attempt.proofs.Basics.{and_cases, false_true, none_some, or_cases, same_number, same_some}
use Rattle.cmm_attempt.specs.Attempts.{AttemptState}
use Rattle.cmm_attempt.specs.Seizings.{awaits_from, is_asked}
use Rattle.cmm_attempt.specs.declared.seizing.Seizing.{Seizing}
use Rattle.history.specs.Letters.{sends}
use Rattle.history.specs.Moment.{Moment}
use Rattle.history.specs.Names as name
use Rattle.history.specs.Names.{Name}
use Rattle.history.specs.Order.{since}
use Rattle.history.specs.Queue as told
use Rattle.history.specs.Seizing.{is_attempt}
use Rattle.history.specs.Setting.{all_to, coordinator}
use Rattle.run_outcomes.specs.silence.Asked.{Data, Query, asked_in, wants_plain}
use Rattle.history.specs.Attempts.{is_unanswered, questions, seize_questions}
use Rattle.run_outcomes.specs.tasks.Asks.{first_in}
use Rattle.run_outcomes.specs.tasks.AsksGiven as given
use Rattle.run_outcomes.specs.tasks.Laws.{SeizedsTold, but, is_vote, other_seizer}
use Rattle.run_outcomes.proofs.asks.Lines as lines
use Rattle.run_outcomes.proofs.silence.Data.{lacks_entry}
use Rattle.run_outcomes.proofs.silence.Lacks.{Known}
use Rattle.run_outcomes.proofs.silence.Lines.{any_asked}

both : (x y : Bool) → x ≡ true → y ≡ true → (x && y) ≡ true
both true y h j = j
both false y h j = absurd (false_true h)

or_second : (a b : Bool) → b ≡ true → (a || b) ≡ true
or_second true b h = refl
or_second false b h = h

or_first : (a b : Bool) → a ≡ true → (a || b) ≡ true
or_first true b h = refl
or_first false b h = absurd (false_true h)

-- ---- the entry that is awaited

itself : (n : ℕ) → (n == n) ≡ true
itself n = grind arith

found : (G : Type 0) (P : Seizing → Bool) (es : List Seizing) → AreApart (entry_numbers es) → list_any P es ≡ true → ((e : Seizing) → entry_of es e.attached.device ≡ Some e → P e ≡ true → G) → G
found G P [] apart h f = absurd (false_true h)
found G P (x ∷ es) apart h f = by_cases (λ k g. found G P es apart.1 k g) (or_cases (P x) (list_any P es) h)
  where
    at_head : (b : Bool) → b ≡ true → (if b then Some x else entry_of es x.attached.device) ≡ Some x
    at_head true k = refl
    at_head false k = absurd (false_true k)

    behind : (e : Seizing) (b : Bool) → (x.attached.device == e.attached.device) ≡ b → entry_of es e.attached.device ≡ Some e → (if b then Some x else entry_of es e.attached.device) ≡ Some e
    behind e true same at = absurd (none_some e (sym (lacks_entry es x.attached.device apart.0) ∙ (ap (entry_of es) (same_number x.attached.device e.attached.device same) ∙ at)))
    behind e false other at = at

    by_cases : (list_any P es ≡ true → ((e : Seizing) → entry_of es e.attached.device ≡ Some e → P e ≡ true → G) → G) → (P x ≡ true) ⊎ (list_any P es ≡ true) → G
    by_cases rest (inl here) = f x (at_head (x.attached.device == x.attached.device) (itself x.attached.device)) here
    by_cases rest (inr there) = rest there (λ e at is. f e (behind e (x.attached.device == e.attached.device) refl at) is)

seizer_is : (o : Option ℕ) (m : ℕ) → is_asked o m ≡ true → o ≡ Some m
seizer_is None m h = absurd (false_true h)
seizer_is (Some k) m h = ap Some (same_number k m h)

result_is : {A : Type 0} (o : Option A) → is_none o ≡ true → o ≡ None
result_is None h = refl
result_is (Some r) h = absurd (false_true h)

-- ---- it was asked

first_one : (xs : List ℕ) (m : ℕ) → first_in xs ≡ Some m → list_any (λ k. k == m) xs ≡ true
first_one [] m h = absurd (none_some m h)
first_one (x ∷ xs) m h = or_first (x == m) (list_any (λ k. k == m) xs) (subst (λ k. (k == m) ≡ true) (sym (same_some x m h)) (itself m))

asked_quorum : (ms : List Moment) (a : AttemptState) (m : ℕ) (e : Seizing) → Known ms a → (m == a.plan.coordinator) ≡ false → entry_of a.devices e.attached.device ≡ Some e → e.seizer ≡ Some m → is_vote e.kind ≡ true
    → list_any (sends (coordinator a.plan.epoch) m (name.SeizeQuorum e.attached.device)) (since (is_attempt a.plan.epoch) ms) ≡ true
asked_quorum ms a m e k other at seizer vote =
    lines.any_asked a.plan.epoch d m ms ∙ first_one (given.asked_in a.plan.epoch d ms) m (sym (lines.last_asked a.plan.epoch d ms) ∙ (k.asks.last d ∙ (ap (option_and_then (other_seizer a)) at ∙ one)))
  where
    d : ℕ
    d = e.attached.device

    one : other_seizer a e ≡ Some m
    one = ap (λ b. if b then but a.plan.coordinator e.seizer else None) vote ∙ (ap (but a.plan.coordinator) seizer ∙ ap (λ b. if b then None else Some m) other)

asked_plainly : (ms : List Moment) (a : AttemptState) (m : ℕ) (e : Seizing) → Known ms a → (m == a.plan.coordinator) ≡ false → entry_of a.devices e.attached.device ≡ Some e → is_asked e.seizer m ≡ true → is_none e.result ≡ true → is_vote e.kind ≡ false
    → list_any (sends (coordinator a.plan.epoch) m (name.SeizeData e.attached.device)) (since (is_attempt a.plan.epoch) ms) ≡ true
asked_plainly ms a m e k other at seizer result plain =
    any_asked a.plan.epoch q ms refl ∙ (so.told ∙ so.awaited (ap (wants_plain a.plan.coordinator m) at ∙ wants (is_none e.result) (is_vote e.kind) (is_asked e.seizer m) (m == a.plan.coordinator) result plain seizer other))
  where
    q : Query
    q = record { to = m; called = name.SeizeData e.attached.device }

    so : Data m e.attached.device (asked_in a.plan.epoch q ms) a
    so = k.told q

    wants : (r v s c : Bool) → r ≡ true → v ≡ false → s ≡ true → c ≡ false → (r && not v && s && not c) ≡ true
    wants true false true false p q1 p1 p2 = refl
    wants true false true true p q1 p1 p2 = absurd (false_true (sym p2))
    wants true false false c p q1 p1 p2 = absurd (false_true p1)
    wants true true s c p q1 p1 p2 = absurd (false_true (sym q1))
    wants false v s c p q1 p1 p2 = absurd (false_true p)

-- ---- it is among the questions

quorum_question : (P : Name → Bool) (d : ℕ) (ds : List ℕ) → list_any (λ k. k == d) ds ≡ true → P (name.SeizeQuorum d) ≡ true → list_any P (seize_questions ds) ≡ true
quorum_question P d [] h is = absurd (false_true h)
quorum_question P d (x ∷ ds) h is = by_cases (λ k. quorum_question P d ds k is) (or_cases (x == d) (list_any (λ k. k == d) ds) h)
  where
    by_cases : (list_any (λ k. k == d) ds ≡ true → list_any P (seize_questions ds) ≡ true) → ((x == d) ≡ true) ⊎ (list_any (λ k. k == d) ds ≡ true) → list_any P (seize_questions (x ∷ ds)) ≡ true
    by_cases rest (inl here) = or_first (P (name.SeizeQuorum x)) (P (name.SeizeData x) || list_any P (seize_questions ds)) (subst (λ k. P (name.SeizeQuorum k) ≡ true) (sym (same_number x d here)) is)
    by_cases rest (inr there) = or_second (P (name.SeizeQuorum x)) (P (name.SeizeData x) || list_any P (seize_questions ds)) (or_second (P (name.SeizeData x)) (list_any P (seize_questions ds)) (rest there))

data_question : (P : Name → Bool) (d : ℕ) (ds : List ℕ) → list_any (λ k. k == d) ds ≡ true → P (name.SeizeData d) ≡ true → list_any P (seize_questions ds) ≡ true
data_question P d [] h is = absurd (false_true h)
data_question P d (x ∷ ds) h is = by_cases (λ k. data_question P d ds k is) (or_cases (x == d) (list_any (λ k. k == d) ds) h)
  where
    by_cases : (list_any (λ k. k == d) ds ≡ true → list_any P (seize_questions ds) ≡ true) → ((x == d) ≡ true) ⊎ (list_any (λ k. k == d) ds ≡ true) → list_any P (seize_questions (x ∷ ds)) ≡ true
    by_cases rest (inl here) =
        or_second (P (name.SeizeQuorum x)) (P (name.SeizeData x) || list_any P (seize_questions ds)) (or_first (P (name.SeizeData x)) (list_any P (seize_questions ds)) (subst (λ k. P (name.SeizeData k) ≡ true) (sym (same_number x d here)) is))
    by_cases rest (inr there) = or_second (P (name.SeizeQuorum x)) (P (name.SeizeData x) || list_any P (seize_questions ds)) (or_second (P (name.SeizeData x)) (list_any P (seize_questions ds)) (rest there))

-- ---- it is missing

among : (ms : List Moment) (e m devices : ℕ) → list_any (is_unanswered e ms m) (seize_questions (all_to devices)) ≡ true → list_any (is_unanswered e ms m) (questions devices) ≡ true
among ms e m devices h =
    or_second (is_unanswered e ms m name.Collect) (is_unanswered e ms m name.Install || list_any (is_unanswered e ms m) (seize_questions (all_to devices)))
    (or_second (is_unanswered e ms m name.Install) (list_any (is_unanswered e ms m) (seize_questions (all_to devices))) h)

pub seizing_lacks : (ms : List Moment) (a : AttemptState) (m devices : ℕ) → Known ms a → SeizedsTold a ms → IsBefore a.phase → (m == a.plan.coordinator) ≡ false
    → ((e : Seizing) (n : ℕ) → entry_of a.devices e.attached.device ≡ Some e → e.seizer ≡ Some n → list_any (λ k. k == e.attached.device) (all_to devices) ≡ true) → list_any (awaits_from m) a.devices ≡ true
    → list_any (is_unanswered a.plan.epoch ms m) (questions devices) ≡ true
seizing_lacks ms a m devices k seizeds before other listed h =
    found (list_any (is_unanswered e ms m) (questions devices) ≡ true) (awaits_from m) a.devices so.sound.apart h (λ x at is. one x at (and_cases (is_none x.result) (is_asked x.seizer m) is).0 (and_cases (is_none x.result) (is_asked x.seizer m) is).1)
  where
    e : ℕ
    e = a.plan.epoch

    so : Data m 0 (asked_in e (record { to = m; called = name.SeizeData 0 }) ms) a
    so = k.told (record { to = m; called = name.SeizeData 0 })

    not_own : (n : ℕ) → (m == a.plan.coordinator) ≡ false → m ≡ a.plan.coordinator → ⊥
    not_own n q is = false_true (sym q ∙ subst (λ c. (m == c) ≡ true) is (itself m))

    silent : (x : Seizing) → entry_of a.devices x.attached.device ≡ Some x → is_none x.result ≡ true → is_asked x.seizer m ≡ true → not (is_some (told.seized_by e x.attached.device m ms)) ≡ true
    silent x at result seizer =
        ap (λ o. not (is_some o)) (seizeds before x.attached.device m x at (seizer_is x.seizer m seizer) (λ is. not_own 0 other is) ∙ result_is x.result result)

    one : (x : Seizing) → entry_of a.devices x.attached.device ≡ Some x → is_none x.result ≡ true → is_asked x.seizer m ≡ true → list_any (is_unanswered e ms m) (questions devices) ≡ true
    one x at result seizer = by_kind (is_vote x.kind) refl
      where
        d : ℕ
        d = x.attached.device

        range : list_any (λ k1. k1 == d) (all_to devices) ≡ true
        range = listed x m at (seizer_is x.seizer m seizer)

        by_kind : (b : Bool) → is_vote x.kind ≡ b → list_any (is_unanswered e ms m) (questions devices) ≡ true
        by_kind true vote = among ms e m devices (quorum_question (is_unanswered e ms m) d (all_to devices) range
            (both (list_any (sends (coordinator e) m (name.SeizeQuorum d)) (since (is_attempt e) ms)) (not (is_some (told.seized_by e d m ms))) (asked_quorum ms a m x k other at (seizer_is x.seizer m seizer) vote) (silent x at result seizer)))
        by_kind false plain = among ms e m devices (data_question (is_unanswered e ms m) d (all_to devices) range
            (both (list_any (sends (coordinator e) m (name.SeizeData d)) (since (is_attempt e) ms)) (not (is_some (told.seized_by e d m ms))) (asked_plainly ms a m x k other at seizer result plain) (silent x at result seizer)))
