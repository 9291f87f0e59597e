-- In each run an attempt waits for the answers that are missing by the lines.
use Rattle.std.specs.Prelude.{ℕ, ◌==◌, ◌&&◌, ◌||◌, ◌≡◌, ◌⊎◌, not, Bool, true, false, List, [], ◌∷◌, Option, None, Some, is_none, is_some, if◌then◌else◌}
use Rattle.std.specs.List.{list_all, list_any}
use Rattle.std.proofs.Common.{refl, sym, ap, subst, ◌∙◌, inl, inr}
use Rattle.attempt_laws.specs.Asking.{entry_of}
use Rattle.attempt_laws.specs.Staying.{IsFinal}
use Rattle.cl_base.specs.Sets.{has}
use Rattle.cmm_attempt.proofs.Basics.{and_cases, false_true, none_some, or_cases, same_number}
use Rattle.cmm_attempt.specs.Attempts.{AttemptState, is_missing, is_missing_in, is_over, is_unready}
use Rattle.cmm_attempt.specs.Attempts as attempts
use Rattle.cmm_attempt.specs.Seizings.{awaits_from, is_asked}
use Rattle.cmm_attempt.specs.declared.phase.Phase.{Phase}
use Rattle.cmm_attempt.specs.declared.phase.Phase.TheVariants.{Choosing, Collecting, Installing, Over, SeizingOthers, SeizingVotes}
use Rattle.cmm_attempt.specs.declared.seizing.Seizing.{Seizing}
use Rattle.history.specs.Contact.{others}
use Rattle.history.specs.Letters.{Letter, is_letter, letter_of, passes, says, sends}
use Rattle.history.specs.Member.{members_of}
use Rattle.history.specs.Moment.{Moment}
use Rattle.history.specs.Names as name
use Rattle.history.specs.Names.{Name}
use Rattle.history.specs.Order.{since}
use Rattle.history.specs.Queue as told
use Rattle.history.specs.Seizing.{is_attempt}
use Rattle.history.specs.Setting.{all_to, coordinator}
use Rattle.history.specs.Trace.{attempt, delivered, sent}
use Rattle.wire.specs.declared.message.Body.{Body}
use Rattle.wire.specs.declared.message.Body.TheVariants as body
use Rattle.run_outcomes.specs.tasks.Asks.{IsEarly}
use Rattle.run_outcomes.specs.phases.Laws.{PromisesTold, has_gathered, is_other}
use Rattle.run_outcomes.specs.silence.Asked.{Answers, HasAnswered, IsSettledAt, Query, answers, asked_in, comes, has_plain, is_other_node}
use Rattle.run_outcomes.specs.silence.AskedCourses.{AttemptTold, Late, to_install}
use Rattle.history.specs.Attempts.{has_readied, is_ready_of, is_unanswered, questions, readies, seize_questions}
use Rattle.run_outcomes.specs.tasks.Laws.{AsksTold, has_asked, is_vote}
use Rattle.run_outcomes.proofs.silence.Lines.{any_asked, seized_come}

-- ---- questions

or_second : (a b : Bool) → b ≡ true → (a || b) ≡ true
or_second true b h = refl
or_second false b h = h

or_first : (a b : Bool) → a ≡ true → (a || b) ≡ true
or_first true b h = refl
or_first false b h = absurd (false_true h)

seize_one : (G : Type 0) (P : Name → Bool) → ((d : ℕ) → P (name.SeizeQuorum d) ≡ true → G) → ((d : ℕ) → P (name.SeizeData d) ≡ true → G) → (ds : List ℕ) → list_any P (seize_questions ds) ≡ true → G
seize_one G P f g [] h = absurd (false_true h)
seize_one G P f g (d ∷ ds) h = by_first (λ k. seize_one G P f g ds k) (or_cases (P (name.SeizeQuorum d)) (P (name.SeizeData d) || list_any P (seize_questions ds)) h)
  where
    by_second : (list_any P (seize_questions ds) ≡ true → G) → (P (name.SeizeData d) ≡ true) ⊎ (list_any P (seize_questions ds) ≡ true) → G
    by_second rest (inl here) = g d here
    by_second rest (inr there) = rest there

    by_first : (list_any P (seize_questions ds) ≡ true → G) → (P (name.SeizeQuorum d) ≡ true) ⊎ ((P (name.SeizeData d) || list_any P (seize_questions ds)) ≡ true) → G
    by_first rest (inl here) = f d here
    by_first rest (inr there) = by_second rest (or_cases (P (name.SeizeData d)) (list_any P (seize_questions ds)) there)

one_question : (G : Type 0) (P : Name → Bool) (devices : ℕ) → (P name.Collect ≡ true → G) → (P name.Install ≡ true → G) → ((d : ℕ) → P (name.SeizeQuorum d) ≡ true → G) → ((d : ℕ) → P (name.SeizeData d) ≡ true → G)
    → list_any P (questions devices) ≡ true → G
one_question G P devices c i f g h = by_first (or_cases (P name.Collect) (P name.Install || list_any P (seize_questions (all_to devices))) h)
  where
    by_second : (P name.Install ≡ true) ⊎ (list_any P (seize_questions (all_to devices)) ≡ true) → G
    by_second (inl here) = i here
    by_second (inr there) = seize_one G P f g (all_to devices) there

    by_first : (P name.Collect ≡ true) ⊎ ((P name.Install || list_any P (seize_questions (all_to devices))) ≡ true) → G
    by_first (inl here) = c here
    by_first (inr there) = by_second (or_cases (P name.Install) (list_any P (seize_questions (all_to devices))) there)

-- ---- what is known of the attempt

pub record Known (ms : List Moment) (a : AttemptState) : Type 0 where
  pub own : coordinator a.plan.epoch ≡ a.plan.coordinator
  pub live : is_over a.phase ≡ false
  pub promises : PromisesTold a ms
  pub asks : AsksTold a ms
  pub told : AttemptTold (λ e q. asked_in e q ms) a
  pub late : Late (λ e q. asked_in e q ms) a

unless : (b : Bool) → not b ≡ true → b ≡ false
unless true h = absurd (false_true h)
unless false h = refl

-- ---- Collects

by_phase : (P : Type 0) (p : Phase) → has_gathered p ≡ false → (p ≡ Collecting → P) → P
by_phase P Collecting h f = f refl
by_phase P Choosing h f = absurd (false_true (sym h))
by_phase P SeizingVotes h f = absurd (false_true (sym h))
by_phase P SeizingOthers h f = absurd (false_true (sym h))
by_phase P Installing h f = absurd (false_true (sym h))
by_phase P Over h f = absurd (false_true (sym h))

not_all : (test : ℕ → Bool) (m : ℕ) (ns : List ℕ) → list_any (λ k. k == m) ns ≡ true → test m ≡ false → list_all test ns ≡ false
not_all test m [] h none = absurd (false_true h)
not_all test m (n ∷ ns) h none = by_cases (λ k. not_all test m ns k none) (or_cases (n == m) (list_any (λ k. k == m) ns) h)
  where
    and_none : (a b : Bool) → b ≡ false → (a && b) ≡ false
    and_none true b k = k
    and_none false b k = refl

    by_cases : (list_any (λ k. k == m) ns ≡ true → list_all test ns ≡ false) → ((n == m) ≡ true) ⊎ (list_any (λ k. k == m) ns ≡ true) → (test n && list_all test ns) ≡ false
    by_cases rest (inl here) = ap (λ b. b && list_all test ns) (ap test (same_number n m here) ∙ none)
    by_cases rest (inr there) = and_none (test n) (list_all test ns) (rest there)

collect_missing : (ms : List Moment) (a : AttemptState) (m : ℕ) → Known ms a → is_other a ms m ≡ true → told.has_promised a.plan.epoch ms m ≡ false → is_missing a m ≡ true
collect_missing ms a m k other none =
    by_phase (is_missing a m ≡ true) a.phase (sym k.promises.phase ∙ not_all (told.has_promised a.plan.epoch ms) m (others a.plan.epoch (members_of a.plan.epoch ms)) other none)
    (λ at. ap (is_missing_in a m) at ∙ ap not (sym (k.promises.taken m other) ∙ none))

-- ---- Installs

final_live : (P : Type 0) (p : Phase) → is_over p ≡ false → IsFinal p → (p ≡ Installing → P) → P
final_live P Installing live f g = g refl
final_live P Over live f g = absurd (false_true (sym live))
final_live P Collecting live f g = absurd f
final_live P Choosing live f g = absurd f
final_live P SeizingVotes live f g = absurd f
final_live P SeizingOthers live f g = absurd f

install_missing : (ms : List Moment) (a : AttemptState) (m : ℕ) → Known ms a → (m == a.plan.coordinator) ≡ false → asked_in a.plan.epoch (to_install m) ms ≡ true → asked_in a.plan.epoch (record { to = m; called = name.Ready }) ms ≡ false → is_missing a m ≡ true
install_missing ms a m k other was none =
    final_live (is_missing a m ≡ true) a.phase k.live (k.late m was)
    (λ at. ap (is_missing_in a m) at ∙ (ap (λ b. if b then not a.own_ready else not (attempts.has_readied a.readies m)) other ∙ ap not (lacks (attempts.has_readied a.readies m) refl)))
  where
    lacks : (b : Bool) → attempts.has_readied a.readies m ≡ b → b ≡ false
    lacks true is = absurd (false_true (sym none ∙ k.told (record { to = m; called = name.Ready }) is))
    lacks false is = refl

-- ---- requests to seize

awaiting : (P : Seizing → Bool) (es : List Seizing) (d : ℕ) (e : Seizing) → entry_of es d ≡ Some e → P e ≡ true → list_any P es ≡ true
awaiting P [] d e h is = absurd (none_some e h)
awaiting P (x ∷ es) d e h is = by_test (x.attached.device == d) (λ k. awaiting P es d e k is) h
  where
    same : Some x ≡ Some e → x ≡ e
    same k = cc

    by_test : (b : Bool) → (entry_of es d ≡ Some e → list_any P es ≡ true) → (if b then Some x else entry_of es d) ≡ Some e → (P x || list_any P es) ≡ true
    by_test true rest k = or_first (P x) (list_any P es) (ap P (same k) ∙ is)
    by_test false rest k = or_second (P x) (list_any P es) (rest k)

seizing_missing : (ms : List Moment) (a : AttemptState) (d m : ℕ) (e : Seizing) → Known ms a → (m == a.plan.coordinator) ≡ false → entry_of a.devices d ≡ Some e → has e.asked m ≡ true → asked_in a.plan.epoch (record { to = m; called = name.Seized d }) ms ≡ false
    → is_missing a m ≡ true
seizing_missing ms a d m e k other at asked none = by_phase_of a.phase refl
  where
    so : Answers m d (asked_in a.plan.epoch (record { to = m; called = name.Seized d }) ms) a
    so = k.told (record { to = m; called = name.Seized d })

    awaited : (is_asked e.seizer m ≡ true) × (is_none e.result ≡ true)
    awaited = by_side (subst (HasAnswered a.plan.coordinator m (asked_in a.plan.epoch (record { to = m; called = name.Seized d }) ms)) at so.told asked other)
      where
        by_side : (asked_in a.plan.epoch (record { to = m; called = name.Seized d }) ms ≡ true) ⊎ ((is_asked e.seizer m ≡ true) × (is_none e.result ≡ true)) → (is_asked e.seizer m ≡ true) × (is_none e.result ≡ true)
        by_side (inl came) = absurd (false_true (sym none ∙ came))
        by_side (inr h) = h

    both : (x y : Bool) → x ≡ true → y ≡ true → (x && y) ≡ true
    both true y p q = q
    both false y p q = absurd (false_true p)

    there : list_any (awaits_from m) a.devices ≡ true
    there = awaiting (awaits_from m) a.devices d e at (both (is_none e.result) (is_asked e.seizer m) awaited.1 awaited.0)

    nothing : a.devices ≡ [] → ⊥
    nothing is = none_some e (sym (sym at ∙ ap (λ es. entry_of es d) is) ∙ refl)

    by_phase_of : (p : Phase) → a.phase ≡ p → is_missing a m ≡ true
    by_phase_of SeizingVotes is = ap (is_missing_in a m) is ∙ there
    by_phase_of SeizingOthers is = ap (is_missing_in a m) is ∙ there
    by_phase_of Collecting is = absurd (nothing (so.sound.early (subst IsEarly (sym is) tt)))
    by_phase_of Choosing is = absurd (nothing (so.sound.early (subst IsEarly (sym is) tt)))
    by_phase_of Installing is = absurd (false_true (sym (subst IsSettledAt at (so.settled is)) ∙ awaited.1))
    by_phase_of Over is = absurd (false_true (sym k.live ∙ ap is_over is))

-- ---- Readies

ready_told : (e : ℕ) (b : Option Body) → readies e b ≡ answers name.Ready e b
ready_told e None = refl
ready_told e (Some (body.Ready p joined report)) = refl
ready_told e (Some _) = refl

ready_come : (e m : ℕ) (ms : List Moment) → has_readied e ms m ≡ asked_in e (record { to = m; called = name.Ready }) ms
ready_come e m [] = refl
ready_come e m (attempt f members ∷ ms) = by_test (f == e) (ready_come e m ms)
  where
    by_test : (t : Bool) → has_readied e ms m ≡ asked_in e (record { to = m; called = name.Ready }) ms → (if t then false else has_readied e ms m) ≡ (if t then false else asked_in e (record { to = m; called = name.Ready }) ms)
    by_test true rest = refl
    by_test false rest = rest
ready_come e m (delivered p a b ∷ ms) =
    ap (λ t. t || has_readied e ms m) (by_letter (letter_of p ms)) ∙ ap (λ t. comes e (record { to = m; called = name.Ready }) (letter_of p ms) || t) (ready_come e m ms)
  where
    by_letter : (o : Option Letter) → passes (is_ready_of e m) o ≡ comes e (record { to = m; called = name.Ready }) o
    by_letter None = refl
    by_letter (Some l) = ap (λ t. is_letter name.Ready m (coordinator e) l && t) (ready_told e (says l.bytes))
ready_come e m (sent p c t called bytes ∷ ms) = ready_come e m ms ∙ sym (no_one (c == coordinator e) (asked_in e (record { to = m; called = name.Ready }) ms))
  where
    no_one : (x y : Bool) → ((x && false) || y) ≡ y
    no_one true y = refl
    no_one false y = refl
ready_come e m (_ ∷ ms) = ready_come e m ms

-- ---- each question

plain_asked : (c m : ℕ) (o : Option Seizing) → has_plain c m o ≡ true → (G : Type 0) → ((e : Seizing) → o ≡ Some e → has e.asked m ≡ true → G) → G
plain_asked c m None h G f = absurd (false_true h)
plain_asked c m (Some e) h G f = f e refl (and_cases (not (is_vote e.kind) && not (m == c)) (has e.asked m) h).1

vote_asked : (a : AttemptState) (m : ℕ) (o : Option Seizing) → has_asked a m o ≡ true → (G : Type 0) → ((e : Seizing) → o ≡ Some e → has e.asked m ≡ true → G) → G
vote_asked a m None h G f = absurd (false_true h)
vote_asked a m (Some e) h G f = f e refl (and_cases (is_vote e.kind && not (m == a.plan.coordinator)) (has e.asked m) h).1

pub lacks_so : (ms : List Moment) (a : AttemptState) (m devices : ℕ) → Known ms a → is_other a ms m ≡ true → (m == a.plan.coordinator) ≡ false → list_any (is_unanswered a.plan.epoch ms m) (questions devices) ≡ true → is_missing a m ≡ true
lacks_so ms a m devices k is other h =
    one_question (is_missing a m ≡ true) (is_unanswered e ms m) devices
    (λ q. collect_missing ms a m k is (unless (told.has_promised e ms m) (and_cases _ _ q).1))
    (λ q. install_missing ms a m k other (sym (any_asked e (to_install m) ms refl) ∙ (and_cases _ _ q).0) (sym (ready_come e m ms) ∙ unless (has_readied e ms m) (and_cases _ _ q).1))
    (λ d q. vote_asked a m (entry_of a.devices d) (sym (k.asks.asked d m) ∙ subst (λ c. list_any (sends c m (name.SeizeQuorum d)) (since (is_attempt e) ms) ≡ true) k.own (and_cases _ _ q).0) (is_missing a m ≡ true)
    (λ x at asked. seizing_missing ms a d m x k other at asked (silent d (and_cases _ _ q).1)))
    (λ d q. plain_asked a.plan.coordinator m (entry_of a.devices d) (sym (k.told (record { to = m; called = name.SeizeData d })).told ∙ (sym (any_asked e (record { to = m; called = name.SeizeData d }) ms refl) ∙ (and_cases _ _ q).0)) (is_missing a m ≡ true)
    (λ x at asked. seizing_missing ms a d m x k other at asked (silent d (and_cases _ _ q).1)))
    h
  where
    e : ℕ
    e = a.plan.epoch

    silent : (d : ℕ) → not (is_some (told.seized_by e d m ms)) ≡ true → asked_in e (record { to = m; called = name.Seized d }) ms ≡ false
    silent d q = sym (seized_come e d m ms) ∙ unless (is_some (told.seized_by e d m ms)) q

-- ---- while it collects

-- a member that has not promised was sent a Collect, and lacks its answer by the lines
pub collecting_so : (ms : List Moment) (a : AttemptState) (m devices : ℕ) → Known ms a → is_other a ms m ≡ true → is_other_node a.plan m ≡ true → a.phase ≡ Collecting → is_missing a m ≡ true → list_any (is_unanswered a.plan.epoch ms m) (questions devices) ≡ true
collecting_so ms a m devices k is member at missing =
    or_first (is_unanswered e ms m name.Collect) (is_unanswered e ms m name.Install || list_any (is_unanswered e ms m) (seize_questions (all_to devices)))
    (both (list_any (sends (coordinator e) m name.Collect) (since (is_attempt e) ms)) (not (told.has_promised e ms m)) (any_asked e q ms refl ∙ k.told q member)
    (ap not (k.promises.taken m is) ∙ (sym (ap (is_missing_in a m) at) ∙ missing)))
  where
    e : ℕ
    e = a.plan.epoch

    q : Query
    q = record { to = m; called = name.Collect }

    both : (x y : Bool) → x ≡ true → y ≡ true → (x && y) ≡ true
    both true y h j = j
    both false y h j = absurd (false_true h)
