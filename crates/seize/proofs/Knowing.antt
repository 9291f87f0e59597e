-- What each command and its answer tell.
use Rattle.std.proofs.Common.{◌≡◌, ◌≢◌, ℕ, ◌<◌, nat_lt, ◌==◌, Bool, true, false, ◌&&◌, ◌||◌, cond, List, Option, Some, None, Ok, refl, sym, ap, subst, ◌∙◌}
use Rattle.std.proofs.lemmas.Bool.{cond_both, ltb-true, eqb-true, eqb-false, and_cases}
use Rattle.std.proofs.lemmas.Option.{none-some, same_Some}
use Rattle.pgr_device.specs.declared.kind.PrKind.TheVariants.{WriteExclusiveRegistrantsOnly}
use Rattle.pgr_device.specs.declared.command.PrCommand.{PrCommand}
use Rattle.pgr_device.specs.declared.command.PrCommand.TheVariants as command
use Rattle.pgr_device.specs.declared.command.PrAnswer.TheVariants as answer
use Rattle.cl_base.specs.Keys.{key_of}
use Rattle.cl_base.specs.declared.seizing.SeizeEnd.TheVariants.{Held, NotRegistered, Greater, Expelled, Contended, Fault}
use Rattle.seize.specs.declared.step.SeizeStep.{SeizeStep}
use Rattle.seize.specs.declared.step.SeizeStep.TheVariants.{Check, Register, ReadWord, Swap, Reserve, ReadKeys, Preempt, Confirm, Ended}
use Rattle.seize.specs.declared.step.JoinStep.{JoinStep}
use Rattle.seize.specs.declared.step.JoinStep.TheVariants as join
use Rattle.seize.specs.declared.kind.JoinResult.TheVariants as joined
use Rattle.seize.specs.Answers.{Answer, keys_told, word_told, word_found, is_good, is_conflict, IsFailure}
use Rattle.seize.specs.Exchanges.{shown_word}
use Rattle.seize.specs.Joining as joining
use Rattle.seize.specs.Keys.{has_key, first_stranger}
use Rattle.seize.specs.Known.{WordIsEpoch, Knows, KnowsJoin, KnowsJoinEnd}
use Rattle.seize.specs.Seizing.{SeizeState, own_key, command_at, checked, compared, swapped, cleared, looked, confirmed, next_step}
use Rattle.seize.proofs.Failures.{from_keys, from_word, from_good, from_conflict, shown_read, shown_found, keys_failed, word_failed, ignore_failed, reserve_failed, preempt_failed, swap_failed}

both : (a b : Bool) → (a && b) ≡ true → (a ≡ true) × (b ≡ true)
both true true e = (refl, refl)
both true false e = absurd cc
both false b e = absurd cc

knows_checked : (s : SeizeState) (a : Answer) (told : Option (List ℕ)) → keys_told a ≡ told → Knows s (checked s told) command.Keys a
knows_checked s a None e = keys_failed a e
knows_checked s a (Some keys) e =
    subst (λ b. Knows s (checked s (Some keys)) command.Keys b) (from_keys a keys e)
    (cond_both (has_key (own_key s) keys && s.valid) ReadWord (Ended (NotRegistered keys)) (λ x. Knows s x command.Keys (Ok (answer.Keys keys)))
    (both (has_key (own_key s) keys) s.valid)
    (λ lacks. (refl, refl, and_cases (has_key (own_key s) keys) s.valid lacks)))

-- the word that an answer showed, to a command that is no swap that was done
knows_compared : (s : SeizeState) (sent : PrCommand) (a : Answer) (told : Option ℕ) → (told ≡ None → IsFailure sent a)
    → ((word : ℕ) → told ≡ Some word → shown_word a ≡ Some word) → (shown_word a ≡ Some s.epoch → WordIsEpoch s sent a)
    → Knows s (compared s told) sent a
knows_compared s sent a None lost shown is = lost refl
knows_compared s sent a (Some word) lost shown is =
    cond_both (nat_lt word s.epoch) (Swap word) (cond (word == s.epoch) Reserve (Ended (Greater word))) (λ x. Knows s x sent a)
    (λ lt. (shown word refl, ltb-true word s.epoch lt))
    (λ ge. cond_both (word == s.epoch) Reserve (Ended (Greater word)) (λ x. Knows s x sent a)
    (λ same. is (shown word refl ∙ ap Some (eqb-true word s.epoch same)))
    (λ other. (shown word refl, eqb-false word s.epoch other)))

-- a swap that showed a word was not done
not_done : (s : SeizeState) (expected : ℕ) (a : Answer) → shown_word a ≡ Some s.epoch → WordIsEpoch s (command.Swap expected s.epoch) a
not_done s expected (Ok answer.Good) e = refl
not_done s expected a e = e

knows_swapped : (s : SeizeState) (expected : ℕ) (a : Answer) → Knows s (swapped s expected a) (command.Swap expected s.epoch) a
knows_swapped s expected a =
    let sent : PrCommand = command.Swap expected s.epoch in
    let next : SeizeStep = compared s (word_found expected a) in
    cond_both (is_good a) Reserve (cond (is_conflict a) (Ended Expelled) next) (λ x. Knows s x sent a)
    (λ good. subst (λ b. WordIsEpoch s sent b) (from_good a good) refl)
    (λ bad. cond_both (is_conflict a) (Ended Expelled) next (λ x. Knows s x sent a)
    (λ conflict. subst (λ b. Knows s (Ended Expelled) sent b) (from_conflict a conflict) tt)
    (λ other. knows_compared s sent a (word_found expected a) (swap_failed expected s.epoch a bad other) (shown_found expected a) (not_done s expected a)))

knows_cleared : (s : SeizeState) (keys : List ℕ) (reading : ℕ) (found : Option ℕ) → has_key (own_key s) keys ≡ true
    → first_stranger s.cluster s.members keys ≡ found → Knows s (cleared keys reading found) command.Keys (Ok (answer.Keys keys))
knows_cleared s keys reading None own first = (refl, refl, own, first)
knows_cleared s keys reading (Some key) own first =
    cond_both (nat_lt reading 64) (Preempt key reading) (Ended (Contended key)) (λ x. Knows s x command.Keys (Ok (answer.Keys keys)))
    (λ _. (own, first)) (λ _. (own, first))

knows_looked : (s : SeizeState) (reading : ℕ) (a : Answer) (told : Option (List ℕ)) → keys_told a ≡ told → Knows s (looked s reading told) command.Keys a
knows_looked s reading a None e = keys_failed a e
knows_looked s reading a (Some keys) e =
    let found : Option ℕ = first_stranger s.cluster s.members keys in
    subst (λ b. Knows s (looked s reading (Some keys)) command.Keys b) (from_keys a keys e)
    (cond_both (has_key (own_key s) keys) (cleared keys reading found) (Ended Expelled) (λ x. Knows s x command.Keys (Ok (answer.Keys keys)))
    (λ own. knows_cleared s keys reading found own refl) (λ lacks. lacks))

knows_confirmed : (s : SeizeState) (keys : List ℕ) (a : Answer) (told : Option ℕ) → word_told a ≡ told → Knows s (confirmed s keys told) command.Word a
knows_confirmed s keys a None e = word_failed a e
knows_confirmed s keys a (Some word) e =
    cond_both (word == s.epoch) (Ended (Held keys)) (Ended (Greater word)) (λ x. Knows s x command.Word a)
    (λ same. (refl, sym (from_word a word e) ∙ ap (λ w. Ok (answer.Word w)) (eqb-true word s.epoch same)))
    (λ other. (shown_read a word e, eqb-false word s.epoch other))

knows_next : (s : SeizeState) (step : SeizeStep) (sent : PrCommand) (a : Answer) → command_at s step ≡ Some sent → Knows s (next_step s step a) sent a
knows_next s Check sent a e = subst (λ c. Knows s (next_step s Check a) c a) (same_Some _ _ e) (knows_checked s a (keys_told a) refl)
knows_next s Register sent a e =
    subst (λ c. Knows s (next_step s Register a) c a) (same_Some _ _ e)
    (cond_both (is_good a) ReadWord (Ended Fault) (λ x. Knows s x (command.Ignore (own_key s)) a)
    (λ good. subst (λ b. Knows s ReadWord (command.Ignore (own_key s)) b) (from_good a good) refl)
    (ignore_failed (own_key s) a))
knows_next s ReadWord sent a e =
    subst (λ c. Knows s (next_step s ReadWord a) c a) (same_Some _ _ e)
    (knows_compared s command.Word a (word_told a) (word_failed a) (shown_read a) (λ is. is))
knows_next s (Swap expected) sent a e =
    subst (λ c. Knows s (next_step s (Swap expected) a) c a) (same_Some _ _ e) (knows_swapped s expected a)
knows_next s Reserve sent a e =
    let due : PrCommand = command.Reserve WriteExclusiveRegistrantsOnly (own_key s) in
    subst (λ c. Knows s (next_step s Reserve a) c a) (same_Some _ _ e)
    (cond_both (is_good a || is_conflict a) (ReadKeys 1) (Ended Fault) (λ x. Knows s x due a) (λ tried. tried)
    (reserve_failed WriteExclusiveRegistrantsOnly (own_key s) a))
knows_next s (ReadKeys reading) sent a e =
    subst (λ c. Knows s (next_step s (ReadKeys reading) a) c a) (same_Some _ _ e) (knows_looked s reading a (keys_told a) refl)
knows_next s (Preempt victim reading) sent a e =
    let due : PrCommand = command.Preempt WriteExclusiveRegistrantsOnly (own_key s) victim in
    subst (λ c. Knows s (next_step s (Preempt victim reading) a) c a) (same_Some _ _ e)
    (cond_both (is_good a || is_conflict a) (ReadKeys _) (Ended Fault) (λ x. Knows s x due a) (λ tried. tried)
    (preempt_failed WriteExclusiveRegistrantsOnly (own_key s) victim a))
knows_next s (Confirm keys) sent a e =
    subst (λ c. Knows s (next_step s (Confirm keys) a) c a) (same_Some _ _ e) (knows_confirmed s keys a (word_told a) refl)
knows_next s (Ended result) sent a e = absurd (none-some _ e)

pub tells : (s : SeizeState) (sent : PrCommand) (a : Answer) → command_at s s.step ≡ Some sent → Knows s (next_step s s.step a) sent a
tells s sent a e = knows_next s s.step sent a e

knows_joined : (s : joining.JoinState) (a : Answer) (told : Option ℕ) → word_told a ≡ told → KnowsJoinEnd s (joining.compared s told) command.Word a
knows_joined s a None e = word_failed a e
knows_joined s a (Some word) e =
    cond_both (word == s.epoch) joined.Joined (joined.Late word) (λ r. KnowsJoinEnd s r command.Word a)
    (λ same. (refl, sym (from_word a word e) ∙ ap (λ w. Ok (answer.Word w)) (eqb-true word s.epoch same)))
    (λ other. (refl, sym (from_word a word e), eqb-false word s.epoch other))

knows_next_join : (s : joining.JoinState) (step : JoinStep) (sent : PrCommand) (a : Answer) → joining.command_at s step ≡ Some sent
    → KnowsJoin s (joining.next_step s step a) sent a
knows_next_join s join.Register sent a e =
    let own : ℕ = key_of s.cluster s.me in
    subst (λ c. KnowsJoin s (joining.next_step s join.Register a) c a) (same_Some _ _ e)
    (cond_both (is_good a) join.ReadWord (join.Ended joined.Fault) (λ x. KnowsJoin s x (command.Ignore own) a)
    (λ good. (refl, sym (from_good a good))) (ignore_failed own a))
knows_next_join s join.ReadWord sent a e =
    subst (λ c. KnowsJoin s (joining.next_step s join.ReadWord a) c a) (same_Some _ _ e) (knows_joined s a (word_told a) refl)
knows_next_join s (join.Ended result) sent a e = absurd (none-some _ e)

pub join_tells : (s : joining.JoinState) (sent : PrCommand) (a : Answer) → joining.command_at s s.step ≡ Some sent
    → KnowsJoin s (joining.next_step s s.step a) sent a
join_tells s sent a e = knows_next_join s s.step sent a e
