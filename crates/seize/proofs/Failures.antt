-- From which answers comes what an answer tells, and which ones are failures.
use Rattle.std.proofs.Common.{◌≡◌, ℕ, ◌==◌, Bool, true, false, not, ◌||◌, cond, List, Some, None, Ok, Err, refl, ap, sym}
use Rattle.std.proofs.lemmas.Bool.{true≢false, false≢true}
use Rattle.std.proofs.lemmas.Option.{none-some, same_Some}
use Rattle.pgr_device.specs.declared.kind.PrKind.{PrKind}
use Rattle.pgr_device.specs.declared.command.PrCommand.TheVariants as command
use Rattle.pgr_device.specs.declared.command.PrAnswer.TheVariants as answer
use Rattle.seize.specs.Answers.{Answer, keys_told, word_told, word_found, is_good, is_conflict, IsFailure}
use Rattle.seize.specs.Exchanges.{shown_word}

pub from_keys : (a : Answer) (keys : List ℕ) → keys_told a ≡ Some keys → Ok (answer.Keys keys) ≡ a
from_keys (Ok (answer.Keys read)) keys e = ap (λ ks. Ok (answer.Keys ks)) (sym (same_Some _ _ e))
from_keys a keys e = absurd (none-some _ e)

pub from_word : (a : Answer) (word : ℕ) → word_told a ≡ Some word → Ok (answer.Word word) ≡ a
from_word (Ok (answer.Word read)) word e = ap (λ w. Ok (answer.Word w)) (sym (same_Some _ _ e))
from_word a word e = absurd (none-some _ e)

pub from_good : (a : Answer) → is_good a ≡ true → Ok answer.Good ≡ a
from_good (Ok answer.Good) e = refl
from_good a e = absurd (false≢true e)

pub from_conflict : (a : Answer) → is_conflict a ≡ true → Ok answer.Conflict ≡ a
from_conflict (Ok answer.Conflict) e = refl
from_conflict a e = absurd (false≢true e)

other_word : (b : Bool) (found word : ℕ) → cond b None (Some found) ≡ Some word → found ≡ word
other_word true found word e = absurd (none-some _ e)
other_word false found word e = same_Some _ _ e

pub shown_read : (a : Answer) (word : ℕ) → word_told a ≡ Some word → shown_word a ≡ Some word
shown_read (Ok (answer.Word read)) word e = e
shown_read a word e = absurd (none-some _ e)

pub shown_found : (expected : ℕ) (a : Answer) (word : ℕ) → word_found expected a ≡ Some word → shown_word a ≡ Some word
shown_found expected (Ok (answer.Miscompare found)) word e = ap Some (other_word (found == expected) found word e)
shown_found expected a word e = absurd (none-some _ e)

pub keys_failed : (a : Answer) → keys_told a ≡ None → IsFailure command.Keys a
keys_failed (Ok (answer.Keys keys)) e = absurd (none-some _ (sym e))
keys_failed (Err lost) e = tt
keys_failed a e = refl

pub word_failed : (a : Answer) → word_told a ≡ None → IsFailure command.Word a
word_failed (Ok (answer.Word word)) e = absurd (none-some _ (sym e))
word_failed (Err lost) e = tt
word_failed a e = refl

pub ignore_failed : (new : ℕ) (a : Answer) → is_good a ≡ false → IsFailure (command.Ignore new) a
ignore_failed new (Ok answer.Good) e = absurd (true≢false e)
ignore_failed new (Err lost) e = tt
ignore_failed new a e = refl

pub reserve_failed : (kind : PrKind) (key : ℕ) (a : Answer) → (is_good a || is_conflict a) ≡ false → IsFailure (command.Reserve kind key) a
reserve_failed kind key (Ok answer.Good) e = absurd (true≢false e)
reserve_failed kind key (Ok answer.Conflict) e = absurd (true≢false e)
reserve_failed kind key (Err lost) e = tt
reserve_failed kind key a e = refl

pub preempt_failed : (kind : PrKind) (key victim : ℕ) (a : Answer) → (is_good a || is_conflict a) ≡ false → IsFailure (command.Preempt kind key victim) a
preempt_failed kind key victim (Ok answer.Good) e = absurd (true≢false e)
preempt_failed kind key victim (Ok answer.Conflict) e = absurd (true≢false e)
preempt_failed kind key victim (Err lost) e = tt
preempt_failed kind key victim a e = refl

same_word : (b : Bool) (word : ℕ) → cond b None (Some word) ≡ None → not b ≡ false
same_word true word e = refl
same_word false word e = absurd (none-some _ (sym e))

pub swap_failed : (expected new : ℕ) (a : Answer) → is_good a ≡ false → is_conflict a ≡ false → word_found expected a ≡ None
    → IsFailure (command.Swap expected new) a
swap_failed expected new (Ok answer.Good) g c e = absurd (true≢false g)
swap_failed expected new (Ok answer.Conflict) g c e = absurd (true≢false c)
swap_failed expected new (Ok (answer.Miscompare word)) g c e = same_word (word == expected) word e
swap_failed expected new (Err lost) g c e = tt
swap_failed expected new a g c e = refl
