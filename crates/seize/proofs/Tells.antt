-- What an answer tells, and from which answers it comes.
use Rattle.std.proofs.Common.{◌≡◌, ◌≢◌, ℕ, Bool, true, List, [], ◌∷◌, find, All, Some, IfSome, Ok, IfOk}
use Rattle.std.proofs.lemmas.Bool.{cond_both}
use Rattle.std.proofs.lemmas.List.Elements.{All-head, All-tail}
use Rattle.pgr_device.specs.declared.command.PrAnswer.TheVariants as answer
use Rattle.pgr_device.specs.Keys.{HasNoZeroKey}
use Rattle.seize.specs.Answers.{Answer, keys_told}

pub keys_nonzero : (a : Answer) → IfOk a HasNoZeroKey → IfSome (keys_told a) (λ keys. All (λ key. key ≢ 0) keys)
keys_nonzero (Ok (answer.Keys keys)) h = h
keys_nonzero a h = tt

pub find_passes : (p : ℕ → Bool) (xs : List ℕ) → IfSome (find p xs) (λ x. p x ≡ true)
find_passes p [] = tt
find_passes p (y ∷ ys) = cond_both (p y) (Some y) (find p ys) (λ o. IfSome o (λ x. p x ≡ true)) (λ e. e) (λ _. find_passes p ys)

pub find_all : (P : ℕ → Type 0) (p : ℕ → Bool) (xs : List ℕ) → All P xs → IfSome (find p xs) P
find_all P p [] h = tt
find_all P p (y ∷ ys) h =
    cond_both (p y) (Some y) (find p ys) (λ o. IfSome o P) (λ _. All-head P y ys h) (λ _. find_all P p ys (All-tail P y ys h))
