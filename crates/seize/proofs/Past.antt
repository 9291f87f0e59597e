-- What passed up to each step of a seizing.
use Rattle.std.proofs.Common.{◌≡◌, ℕ, ◌+◌, ◌<◌, ◌≤◌, nat_lt, ◌==◌, inl, inr, Bool, true, false, not, ◌&&◌, ◌||◌, cond, List, [], ◌∷◌, find, Option, Some, None, Ok, arith, refl, sym, ap, subst, ◌∙◌}
use Rattle.std.specs.List.{AllPass}
use Rattle.std.proofs.lemmas.Bool.{cond_both, cases_Bool, ltb-true, ltb-false, le-ltb, eqb-true, eqb-false, and_cases, cond-true, cond-false, not_from_true, not_from_false}
use Rattle.std.proofs.lemmas.Option.{none-some, same_Some}
use Rattle.std.proofs.lemmas.List.Elements.{All-nil, All-cons}
use Rattle.pgr_device.specs.declared.kind.PrKind.TheVariants.{WriteExclusiveRegistrantsOnly}
use Rattle.pgr_device.specs.declared.command.PrCommand.{PrCommand}
use Rattle.pgr_device.specs.declared.command.PrCommand.TheVariants as command
use Rattle.pgr_device.specs.declared.command.PrAnswer.TheVariants as answer
use Rattle.seize.specs.declared.kind.SeizeKind.TheVariants.{Vote, Plain}
use Rattle.seize.specs.declared.kind.SeizeKind.{SeizeKind}
use Rattle.cl_base.specs.Seizings.{SeizeResult}
use Rattle.cl_base.specs.declared.seizing.SeizeEnd.TheVariants.{Held, NotRegistered, Greater, Expelled, Contended, Fault}
use Rattle.seize.specs.declared.step.SeizeStep.{SeizeStep}
use Rattle.seize.specs.declared.step.SeizeStep.TheVariants.{Check, Register, ReadWord, Swap, Reserve, ReadKeys, Preempt, Confirm, Ended}
use Rattle.seize.specs.Answers.{Answer, keys_told, word_told, word_found, is_good, is_conflict, IsFailure}
use Rattle.seize.specs.Endings.{HasBegun, SawMembers, SawMembersAndEpoch, SawStranger, SawWord, LackedKey, WasExpelled, HasFailed}
use Rattle.seize.specs.Exchanges.{Exchange, exchanged, fed, exchanges, keys_read, word_read, shown_word, running, has_reserved}
use Rattle.seize.specs.Keys.{has_key, first_stranger, is_key_of}
use Rattle.seize.specs.Seizing.{SeizeState, own_key, first_step, command_at, command_of, result_at, result_of, checked, compared, swapped, cleared, looked, confirmed, next_step, taken}
use Rattle.seize.proofs.Failures.{from_keys, from_word, from_conflict, shown_read, shown_found, keys_failed, word_failed, ignore_failed, reserve_failed, preempt_failed, swap_failed}

abbrev pub IsEnding : SeizeState → SeizeResult → List Exchange → Type 0
IsEnding s (Held keys) es = SawMembersAndEpoch s keys es
IsEnding s (NotRegistered keys) es = LackedKey s keys es
IsEnding s (Greater word) es = SawWord s word es
IsEnding s Expelled es = WasExpelled s es
IsEnding s (Contended key) es = SawStranger s key es
IsEnding s Fault es = HasFailed es

abbrev pub IsPast : SeizeState → SeizeStep → List Exchange → Type 0
IsPast s Check es = (es ≡ []) × (s.kind ≡ Vote)
IsPast s Register es = es ≡ []
IsPast s ReadWord es = Unit {0}
IsPast s (Swap expected) es = Unit {0}
IsPast s Reserve es = Unit {0}
IsPast s (ReadKeys reading) es = (reading ≡ running es + 1) × (reading ≤ 64) × (has_reserved es ≡ true)
IsPast s (Preempt victim reading) es = (reading ≡ running es) × (reading < 64) × (has_reserved es ≡ true)
IsPast s (Confirm keys) es = SawMembers s keys es
IsPast s (Ended result) es = IsEnding s result es

abbrev with : PrCommand → Answer → List Exchange → List Exchange
with sent a es = record { command = sent; answer = a } ∷ es

-- where no element is found that fails, each passes
none_found : (p : ℕ → Bool) (xs : List ℕ) → find (λ x. not (p x)) xs ≡ None → AllPass p xs
none_found p [] e = All-nil (λ x. p x ≡ true)
none_found p (x ∷ xs) e = elim (cases_Bool (p x)) [
  | inl passes ↦
      All-cons (λ y. p y ≡ true) x xs passes
      (none_found p xs (sym (cond-false (not (p x)) (Some x) (find (λ y. not (p y)) xs) (not_from_true (p x) passes)) ∙ e))
  | inr fails ↦
      absurd (none-some _ (sym e ∙ cond-true (not (p x)) (Some x) (find (λ y. not (p y)) xs) (not_from_false (p x) fails)))
]

told_keys : (a : Answer) (keys : List ℕ) (es : List Exchange) → keys_told a ≡ Some keys → with command.Keys a es ≡ keys_read keys ∷ es
told_keys a keys es e = ap (λ b. with command.Keys b es) (sym (from_keys a keys e))

told_word : (a : Answer) (word : ℕ) (es : List Exchange) → word_told a ≡ Some word → with command.Word a es ≡ word_read word ∷ es
told_word a word es e = ap (λ b. with command.Word b es) (sym (from_word a word e))

past_checked : (s : SeizeState) (es : List Exchange) (a : Answer) (told : Option (List ℕ)) → keys_told a ≡ told → (es ≡ []) × (s.kind ≡ Vote)
    → IsPast s (checked s told) (with command.Keys a es)
past_checked s es a None e h = keys_failed a e
past_checked s es a (Some keys) e h =
    cond_both (has_key (own_key s) keys && s.valid) ReadWord (Ended (NotRegistered keys)) (λ x. IsPast s x (with command.Keys a es)) (λ _. tt)
    (λ lacks. record {
      kind = h.1;
      alone = told_keys a keys es e ∙ ap (λ none. keys_read keys ∷ none) h.0;
      absent = and_cases (has_key (own_key s) keys) s.valid lacks;
    })

past_compared : (s : SeizeState) (sent : PrCommand) (a : Answer) (es : List Exchange) (told : Option ℕ) → (told ≡ None → IsFailure sent a)
    → ((word : ℕ) → told ≡ Some word → shown_word a ≡ Some word) → IsPast s (compared s told) (with sent a es)
past_compared s sent a es None lost shown = lost refl
past_compared s sent a es (Some word) lost shown =
    cond_both (nat_lt word s.epoch) (Swap word) (cond (word == s.epoch) Reserve (Ended (Greater word))) (λ x. IsPast s x (with sent a es)) (λ _. tt)
    (λ ge. cond_both (word == s.epoch) Reserve (Ended (Greater word)) (λ x. IsPast s x (with sent a es)) (λ _. tt)
    (λ other. record {
      before = es;
      sent = sent;
      answer = a;
      last = refl;
      shown = shown word refl;
      other = eqb-false word s.epoch other;
      above = inl (omega (arith, ltb-false word s.epoch ge, eqb-false word s.epoch other));
    }))

past_swapped : (s : SeizeState) (expected : ℕ) (a : Answer) (es : List Exchange)
    → IsPast s (swapped s expected a) (with (command.Swap expected s.epoch) a es)
past_swapped s expected a es =
    let sent : PrCommand = command.Swap expected s.epoch in
    let next : SeizeStep = compared s (word_found expected a) in
    cond_both (is_good a) Reserve (cond (is_conflict a) (Ended Expelled) next) (λ x. IsPast s x (with sent a es)) (λ _. tt)
    (λ bad. cond_both (is_conflict a) (Ended Expelled) next (λ x. IsPast s x (with sent a es))
    (λ conflict. subst (λ b. WasExpelled s (with sent b es)) (from_conflict a conflict) tt)
    (λ other. past_compared s sent a es (word_found expected a) (swap_failed expected s.epoch a bad other) (shown_found expected a)))

past_cleared : (s : SeizeState) (reading : ℕ) (es : List Exchange) (a : Answer) (keys : List ℕ) (found : Option ℕ)
    → first_stranger s.cluster s.members keys ≡ found → has_key (own_key s) keys ≡ true → with command.Keys a es ≡ keys_read keys ∷ es
    → (reading ≡ running es + 1) × (reading ≤ 64) × (has_reserved es ≡ true) → IsPast s (cleared keys reading found) (with command.Keys a es)
past_cleared s reading es a keys None first own last h =
    record { before = es; last = last; own = own; members = none_found (is_key_of s.cluster s.members) keys first; reserved = h.2 }
past_cleared s reading es a keys (Some key) first own last h =
    cond_both (nat_lt reading 64) (Preempt key reading) (Ended (Contended key)) (λ x. IsPast s x (with command.Keys a es))
    (λ lt. (h.0, ltb-true reading 64 lt, h.2))
    (λ ge. record {
      before = es;
      keys = keys;
      last = last;
      count = omega (arith, h.0, h.1, ltb-false reading 64 ge);
      own = own;
      first = first;
    })

past_looked : (s : SeizeState) (reading : ℕ) (es : List Exchange) (a : Answer) (told : Option (List ℕ)) → keys_told a ≡ told
    → (reading ≡ running es + 1) × (reading ≤ 64) × (has_reserved es ≡ true) → IsPast s (looked s reading told) (with command.Keys a es)
past_looked s reading es a None e h = keys_failed a e
past_looked s reading es a (Some keys) e h =
    let found : Option ℕ = first_stranger s.cluster s.members keys in
    cond_both (has_key (own_key s) keys) (cleared keys reading found) (Ended Expelled) (λ x. IsPast s x (with command.Keys a es))
    (λ own. past_cleared s reading es a keys found refl own (told_keys a keys es e) h)
    (λ lacks. subst (λ b. WasExpelled s (with command.Keys b es)) (from_keys a keys e) (lacks, h.2))

past_confirmed : (s : SeizeState) (keys : List ℕ) (es : List Exchange) (a : Answer) (told : Option ℕ) → word_told a ≡ told → SawMembers s keys es
    → IsPast s (confirmed s keys told) (with command.Word a es)
past_confirmed s keys es a None e h = word_failed a e
past_confirmed s keys es a (Some word) e h =
    cond_both (word == s.epoch) (Ended (Held keys)) (Ended (Greater word)) (λ x. IsPast s x (with command.Word a es))
    (λ same. record { before = es; last = told_word a word es e ∙ ap (λ n. word_read n ∷ es) (eqb-true word s.epoch same); members = h })
    (λ other. record {
      before = es;
      sent = command.Word;
      answer = a;
      last = refl;
      shown = shown_read a word e;
      other = eqb-false word s.epoch other;
      above = inr (ap has_reserved h.last ∙ h.reserved);
    })

past_next : (s : SeizeState) (step : SeizeStep) (es : List Exchange) (a : Answer) → IsPast s step es
    → IsPast s (next_step s step a) (exchanged (command_at s step) a es)
past_next s Check es a h = past_checked s es a (keys_told a) refl h
past_next s Register es a h =
    cond_both (is_good a) ReadWord (Ended Fault) (λ x. IsPast s x (with (command.Ignore (own_key s)) a es)) (λ _. tt) (ignore_failed (own_key s) a)
past_next s ReadWord es a h = past_compared s command.Word a es (word_told a) (word_failed a) (shown_read a)
past_next s (Swap expected) es a h = past_swapped s expected a es
past_next s Reserve es a h =
    let sent : PrCommand = command.Reserve WriteExclusiveRegistrantsOnly (own_key s) in
    cond_both (is_good a || is_conflict a) (ReadKeys 1) (Ended Fault) (λ x. IsPast s x (with sent a es))
    (λ _. (refl, omega arith, refl)) (reserve_failed WriteExclusiveRegistrantsOnly (own_key s) a)
past_next s (ReadKeys reading) es a h = past_looked s reading es a (keys_told a) refl h
past_next s (Preempt victim reading) es a h =
    let sent : PrCommand = command.Preempt WriteExclusiveRegistrantsOnly (own_key s) victim in
    cond_both (is_good a || is_conflict a) (ReadKeys (reading + 1)) (Ended Fault) (λ x. IsPast s x (with sent a es))
    (λ _. (omega (arith, h.0), omega (arith, h.1), h.2)) (preempt_failed WriteExclusiveRegistrantsOnly (own_key s) victim a)
past_next s (Confirm keys) es a h = past_confirmed s keys es a (word_told a) refl h
past_next s (Ended result) es a h = h

-- the step after these answers
abbrev pub reached : SeizeState → List Answer → SeizeStep
reached s [] = s.step
reached s (a ∷ earlier) = next_step s (reached s earlier) a

pub fed_is : (s : SeizeState) (answers : List Answer) → fed s answers ≡ record s { step = reached s answers }
fed_is s [] = refl
fed_is s (a ∷ earlier) = ap (λ t. taken t a) (fed_is s earlier)

past_first : (s : SeizeState) (k : SeizeKind) → s.kind ≡ k → IsPast s (first_step k) []
past_first s Vote e = (refl, e)
past_first s Plain e = refl

pub past : (s : SeizeState) → HasBegun s → (answers : List Answer) → IsPast s (reached s answers) (exchanges s answers)
past s begun [] = subst (λ x. IsPast s x []) (sym begun) (past_first s s.kind refl)
past s begun (a ∷ earlier) =
    subst (λ t. IsPast s (next_step s (reached s earlier) a) (exchanged (command_at t t.step) a (exchanges s earlier))) (sym (fed_is s earlier))
    (past_next s (reached s earlier) (exchanges s earlier) a (past s begun earlier))

ended_at : (step : SeizeStep) (result : SeizeResult) → result_at step ≡ Some result → step ≡ Ended result
ended_at (Ended other) result e = ap Ended (same_Some _ _ e)
ended_at step result e = absurd (none-some _ e)

pub ending : (s : SeizeState) (answers : List Answer) (result : SeizeResult) → HasBegun s → result_of (fed s answers) ≡ Some result
    → IsEnding s result (exchanges s answers)
ending s answers result begun e =
    subst (λ x. IsPast s x (exchanges s answers)) (ended_at (reached s answers) result (sym (ap result_of (fed_is s answers)) ∙ e))
    (past s begun answers)

contends_at : (s : SeizeState) (step : SeizeStep) (es : List Exchange) (keys : List ℕ) (key : ℕ) → IsPast s step es
    → command_at s step ≡ Some command.Keys → running es ≡ 63 → has_key (own_key s) keys ≡ true
    → first_stranger s.cluster s.members keys ≡ Some key → result_at (next_step s step (Ok (answer.Keys keys))) ≡ Some (Contended key)
contends_at s Check es keys key h due count own first =
    let none : running es ≡ 0 = ap running h.0 in
    absurd (omega (arith, none, count))
contends_at s (ReadKeys reading) es keys key h due count own first =
    let found : Option ℕ = first_stranger s.cluster s.members keys in
    let last : nat_lt reading 64 ≡ false = le-ltb reading 64 (omega (arith, h.0, count)) in
    ap result_at (cond-true (has_key (own_key s) keys) (cleared keys reading found) (Ended Expelled) own)
    ∙ ap (λ o. result_at (cleared keys reading o)) first
    ∙ ap result_at (cond-false (nat_lt reading 64) (Preempt key reading) (Ended (Contended key)) last)
contends_at s step es keys key h due count own first = absurd (cc)

pub contends : (s : SeizeState) (answers : List Answer) (keys : List ℕ) (key : ℕ) → HasBegun s → command_of (fed s answers) ≡ Some command.Keys
    → running (exchanges s answers) ≡ 63 → has_key (own_key s) keys ≡ true → first_stranger s.cluster s.members keys ≡ Some key
    → result_of (fed s (Ok (answer.Keys keys) ∷ answers)) ≡ Some (Contended key)
contends s answers keys key begun due count own first =
    ap result_of (fed_is s (Ok (answer.Keys keys) ∷ answers))
    ∙ contends_at s (reached s answers) (exchanges s answers) keys key (past s begun answers) (sym (ap command_of (fed_is s answers)) ∙ due) count own first
