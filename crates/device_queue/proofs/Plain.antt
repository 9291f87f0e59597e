-- Which step of a seizing registers.
use Rattle.std.proofs.Common.{◌≡◌, ℕ, ◌+◌, nat_lt, ◌==◌, ◌&&◌, ◌||◌, Bool, false, cond, List, Option, Some, None, refl}
use Rattle.std.proofs.lemmas.Bool.{cond_both}
use Rattle.cl_base.specs.declared.seizing.SeizeEnd.TheVariants.{Held, NotRegistered, Greater, Expelled, Contended, Fault}
use Rattle.seize.specs.declared.step.SeizeStep.{SeizeStep}
use Rattle.seize.specs.declared.step.SeizeStep.TheVariants.{Check, Register, ReadWord, Swap, Reserve, ReadKeys, Preempt, Confirm, Ended}
use Rattle.seize.specs.Answers.{Answer, keys_told, word_told, word_found, is_good, is_conflict}
use Rattle.seize.specs.Keys.{has_key, first_stranger}
use Rattle.seize.specs.Seizing.{SeizeState, own_key, checked, compared, swapped, cleared, looked, confirmed, next_step}
use Rattle.device_queue.specs.Tasks.{is_register}
use Rattle.device_queue.specs.Laws.{NoneRegistersLater}

abbrev Goes : SeizeStep → Type 0
Goes x = is_register x ≡ false

either : (b : Bool) (x y : SeizeStep) → Goes x → Goes y → Goes (cond b x y)
either b x y one other = cond_both b x y Goes (λ _. one) (λ _. other)

from_word : (s : SeizeState) (told : Option ℕ) → Goes (compared s told)
from_word s None = refl
from_word s (Some word) = either (nat_lt word s.epoch) (Swap word) (cond (word == s.epoch) Reserve (Ended (Greater word))) refl (either (word == s.epoch) Reserve (Ended (Greater word)) refl refl)

from_check : (s : SeizeState) (told : Option (List ℕ)) → Goes (checked s told)
from_check s None = refl
from_check s (Some keys) = either (has_key (own_key s) keys && s.valid) ReadWord (Ended (NotRegistered keys)) refl refl

from_swap : (s : SeizeState) (expected : ℕ) (a : Answer) → Goes (swapped s expected a)
from_swap s expected a =
    either (is_good a) Reserve (cond (is_conflict a) (Ended Expelled) (compared s (word_found expected a))) refl
    (either (is_conflict a) (Ended Expelled) (compared s (word_found expected a)) refl (from_word s (word_found expected a)))

from_strangers : (keys : List ℕ) (reading : ℕ) (found : Option ℕ) → Goes (cleared keys reading found)
from_strangers keys reading None = refl
from_strangers keys reading (Some key) = either (nat_lt reading 64) (Preempt key reading) (Ended (Contended key)) refl refl

from_keys : (s : SeizeState) (reading : ℕ) (told : Option (List ℕ)) → Goes (looked s reading told)
from_keys s reading None = refl
from_keys s reading (Some keys) =
    either (has_key (own_key s) keys) (cleared keys reading (first_stranger s.cluster s.members keys)) (Ended Expelled) (from_strangers keys reading (first_stranger s.cluster s.members keys)) refl

from_last : (s : SeizeState) (keys : List ℕ) (told : Option ℕ) → Goes (confirmed s keys told)
from_last s keys None = refl
from_last s keys (Some word) = either (word == s.epoch) (Ended (Held keys)) (Ended (Greater word)) refl refl

from_any : (s : SeizeState) (x : SeizeStep) (a : Answer) → Goes (next_step s x a)
from_any s Check a = from_check s (keys_told a)
from_any s Register a = either (is_good a) ReadWord (Ended Fault) refl refl
from_any s ReadWord a = from_word s (word_told a)
from_any s (Swap expected) a = from_swap s expected a
from_any s Reserve a = either (is_good a || is_conflict a) (ReadKeys 1) (Ended Fault) refl refl
from_any s (ReadKeys reading) a = from_keys s reading (keys_told a)
from_any s (Preempt victim reading) a = either (is_good a || is_conflict a) (ReadKeys (reading + 1)) (Ended Fault) refl refl
from_any s (Confirm keys) a = from_last s keys (word_told a)
from_any s (Ended result) a = refl

pub none_registers_later : NoneRegistersLater
none_registers_later s a = from_any s s.step a
