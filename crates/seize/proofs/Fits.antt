-- Each answer leads to a step at which the invariant of a seizing holds, and which shows as the initiator's next phase.
use Rattle.std.proofs.Common.{◌≡◌, ◌≢◌, ℕ, ◌+◌, ◌≤◌, nat_lt, ◌==◌, Bool, true, not, ◌&&◌, ◌||◌, cond, List, All, find, Option, Some, None, IfSome, Ok, IfOk, arith, refl, sym, ap, subst, ◌∙◌}
use Rattle.std.proofs.lemmas.Bool.{cond_both, ltb-true, not-true}
use Rattle.pgr_device.specs.declared.command.PrAnswer.TheVariants as answer
use Rattle.pgr_device.specs.Keys.{HasNoZeroKey}
use Rattle.device_machine.specs.Initiator.{Initiator, unvalidated}
use Rattle.seize.specs.declared.kind.SeizeKind.{SeizeKind}
use Rattle.seize.specs.declared.kind.SeizeKind.TheVariants.{Vote, Plain}
use Rattle.cl_base.specs.declared.seizing.SeizeEnd.TheVariants.{Held, NotRegistered, Greater, Expelled, Contended, Fault}
use Rattle.seize.specs.declared.step.SeizeStep.{SeizeStep}
use Rattle.seize.specs.declared.step.SeizeStep.TheVariants.{Check, Register, ReadWord, Swap, Reserve, ReadKeys, Preempt, Confirm, Ended}
use Rattle.seize.specs.Answers.{Answer, keys_told, word_told, word_found, is_good, is_conflict}
use Rattle.seize.specs.Keys.{has_key, is_key_of}
use Rattle.seize.specs.Seizing.{SeizeState, own_key, checked, compared, swapped, cleared, looked, confirmed, next_step, taken}
use Rattle.seize.specs.SeizeKept.{FitsStep, IsSeizing}
use Rattle.seize.specs.Shows.{Shows, is_vote, arrived, answered}
use Rattle.seize.proofs.Tells.{keys_nonzero, find_passes, find_all}

either : (P : SeizeStep → Type 0) (b : Bool) (x y : SeizeStep) → P x → P y → P (cond b x y)
either P b x y p q = cond_both b x y P (λ _. p) (λ _. q)

-- the invariant
fits_checked : (s : SeizeState) (told : Option (List ℕ)) → FitsStep s (checked s told)
fits_checked s None = tt
fits_checked s (Some keys) = either (FitsStep s) (has_key (own_key s) keys && s.valid) ReadWord (Ended (NotRegistered keys)) tt tt

fits_compared : (s : SeizeState) (told : Option ℕ) → FitsStep s (compared s told)
fits_compared s None = tt
fits_compared s (Some word) =
    cond_both (nat_lt word s.epoch) (Swap word) (cond (word == s.epoch) Reserve (Ended (Greater word))) (FitsStep s) (ltb-true word s.epoch)
    (λ _. either (FitsStep s) (word == s.epoch) Reserve (Ended (Greater word)) tt tt)

fits_swapped : (s : SeizeState) (expected : ℕ) (a : Answer) → FitsStep s (swapped s expected a)
fits_swapped s expected a =
    either (FitsStep s) (is_good a) Reserve (cond (is_conflict a) (Ended Expelled) (compared s (word_found expected a))) tt
    (either (FitsStep s) (is_conflict a) (Ended Expelled) (compared s (word_found expected a)) tt (fits_compared s (word_found expected a)))

fits_cleared : (s : SeizeState) (keys : List ℕ) (reading : ℕ) (found : Option ℕ) → 1 ≤ reading → IfSome found (λ key. key ≢ 0)
    → IfSome found (λ key. not (is_key_of s.cluster s.members key) ≡ true) → FitsStep s (cleared keys reading found)
fits_cleared s keys reading None low nonzero strange = tt
fits_cleared s keys reading (Some key) low nonzero strange =
    cond_both (nat_lt reading 64) (Preempt key reading) (Ended (Contended key)) (FitsStep s)
    (λ lt. (nonzero, not-true (is_key_of s.cluster s.members key) strange, low, ltb-true reading 64 lt)) (λ _. tt)

fits_looked : (s : SeizeState) (reading : ℕ) (told : Option (List ℕ)) → 1 ≤ reading → IfSome told (λ keys. All (λ key. key ≢ 0) keys)
    → FitsStep s (looked s reading told)
fits_looked s reading None low nonzero = tt
fits_looked s reading (Some keys) low nonzero =
    let p : ℕ → Bool = λ k. not (is_key_of s.cluster s.members k) in
    either (FitsStep s) (has_key (own_key s) keys) (cleared keys reading (find p keys)) (Ended Expelled)
    (fits_cleared s keys reading (find p keys) low (find_all (λ key. key ≢ 0) p keys nonzero) (find_passes p keys)) tt

fits_confirmed : (s : SeizeState) (keys : List ℕ) (told : Option ℕ) → FitsStep s (confirmed s keys told)
fits_confirmed s keys None = tt
fits_confirmed s keys (Some word) = either (FitsStep s) (word == s.epoch) (Ended (Held keys)) (Ended (Greater word)) tt tt

pub fits_next : (s : SeizeState) (step : SeizeStep) (a : Answer) → FitsStep s step → IfOk a HasNoZeroKey → FitsStep s (next_step s step a)
fits_next s Check a fits keys = fits_checked s (keys_told a)
fits_next s Register a fits keys = either (FitsStep s) (is_good a) ReadWord (Ended Fault) tt tt
fits_next s ReadWord a fits keys = fits_compared s (word_told a)
fits_next s (Swap expected) a fits keys = fits_swapped s expected a
fits_next s Reserve a fits keys =
    either (FitsStep s) (is_good a || is_conflict a) (ReadKeys 1) (Ended Fault) (omega arith, omega arith) tt
fits_next s (ReadKeys reading) a fits keys = fits_looked s reading (keys_told a) fits.0 (keys_nonzero a keys)
fits_next s (Preempt victim reading) a fits keys =
    either (FitsStep s) (is_good a || is_conflict a) (ReadKeys (reading + 1)) (Ended Fault) (omega arith, omega (arith, fits.3)) tt
fits_next s (Confirm keys) a fits _ = fits_confirmed s keys (word_told a)
fits_next s (Ended result) a fits keys = tt

pub taken_fits : (s : SeizeState) (a : Answer) → IsSeizing s → IfOk a HasNoZeroKey → IsSeizing (taken s a)
taken_fits s a h keys = record { member = h.member; fits = fits_next s s.step a h.fits keys }

-- what a seizing shows at each step
record Same (s : SeizeState) (v : Initiator) : Type 0 where
  session : v.session ≡ s.epoch
  quorum : v.quorum ≡ is_vote s.kind
  valid : s.kind ≡ Vote → v.valid ≡ s.valid

shows_at : (s : SeizeState) (next : SeizeStep) (v : Initiator) → Same s v → Shows (record s { step = next }) (arrived s next v)
shows_at s (Swap expected) v same = record { session = same.session; quorum = same.quorum; valid = same.valid; step = (refl, refl) }
shows_at s (Preempt victim reading) v same = record { session = same.session; quorum = same.quorum; valid = same.valid; step = (refl, refl) }
shows_at s (Ended (Held keys)) v same = record { session = same.session; quorum = same.quorum; valid = same.valid; step = refl }
shows_at s next v same = record { session = same.session; quorum = same.quorum; valid = same.valid; step = refl }

not_vote : (k : SeizeKind) {A : Type 0} → k ≡ Plain → k ≡ Vote → A
not_vote k plain vote = absurd (cc)

shows_next : (s : SeizeState) (step : SeizeStep) (a : Answer) (v : Initiator) → FitsStep s step → Same s v
    → Shows (record s { step = next_step s step a }) (answered s step a v)
shows_next s Register a v fits same =
    let plain : s.kind ≡ Plain = fits in
    shows_at s (next_step s Register a) (unvalidated v)
    (record { session = same.session; quorum = same.quorum; valid = λ vote. not_vote s.kind plain vote })
shows_next s (Swap expected) (Ok answer.Good) v fits same =
    record { session = same.session; quorum = same.quorum; valid = same.valid; step = refl }
shows_next s step a v fits same = shows_at s (next_step s step a) v same

pub taken_shows : (s : SeizeState) (a : Answer) (v : Initiator) → IsSeizing s → Shows s v → Shows (taken s a) (answered s s.step a v)
taken_shows s a v h shows = shows_next s s.step a v h.fits (record { session = shows.session; quorum = shows.quorum; valid = shows.valid })

-- the same, where the step is another name for the one that the rules give
step_is : (s now : SeizeState) (a : Answer) (next : SeizeStep) → s ≡ now → next ≡ next_step now now.step a → next_step s s.step a ≡ next
step_is s now a next same is = ap (λ t. next_step t t.step a) same ∙ sym is

pub kept_after : (s now : SeizeState) (a : Answer) (next : SeizeStep) → s ≡ now → next ≡ next_step now now.step a → IsSeizing s
    → IfOk a HasNoZeroKey → IsSeizing (record s { step = next })
kept_after s now a next same is h keys = subst (λ n. IsSeizing (record s { step = n })) (step_is s now a next same is) (taken_fits s a h keys)

pub shows_after : (s now : SeizeState) (a : Answer) (next : SeizeStep) → s ≡ now → next ≡ next_step now now.step a → IsSeizing s
    → (v : Initiator) → Shows now v → Shows (record s { step = next }) (answered now now.step a v)
shows_after s now a next same is h v =
    subst (λ t. Shows t v → Shows (record s { step = next }) (answered t t.step a v)) same
    (λ shows. subst (λ n. Shows (record s { step = n }) (answered s s.step a v)) (step_is s now a next same is) (taken_shows s a v h shows))
