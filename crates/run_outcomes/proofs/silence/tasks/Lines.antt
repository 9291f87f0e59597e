-- The lines of a step are known by the lines behind it; and a line brings a node no task, unless a packet comes to that node in it, or it does a command at a device.
use Rattle.std.specs.Prelude.{ℕ, ◌+◌, ◌==◌, ◌&&◌, ◌||◌, ◌≡◌, ◌≢◌, ◌⊎◌, not, true, false, List, [], ◌∷◌, length}
use Rattle.std.specs.List.{AllByRecursion}
use Rattle.std.proofs.Common.{arith, refl, sym, ap, subst, suc, ◌∙◌, inl, inr}
use Rattle.history.specs.Member.{attempt_of}
use Rattle.history.specs.Moment.{Moment}
use Rattle.history.specs.Queue as told
use Rattle.history.specs.Queue.{is_write}
use Rattle.history.specs.Letters.{letter_of}
use Rattle.history.specs.Setting.{Setting}
use Rattle.history.specs.Trace.{delivered, device}
use Rattle.pgr_device.specs.declared.command.PrCommand.{PrCommand}
use Rattle.run_lines.proofs.Adds.{onto}
use Rattle.run_outcomes.specs.silence.Ticks.{brings_task, tasks_in}
use Rattle.run_outcomes.proofs.silence.tasks.Fresh.{is_queued_at, none_gets}
use Rattle.run_outcomes.proofs.told_tasks.Quiet.{differs, if_off, off_first, off_second}

-- ---- the lines of a step are its own

onto_length : (xs ms : List Moment) → length (onto xs ms) ≡ length xs + length ms
onto_length [] ms = grind arith
onto_length (x ∷ xs) ms = omega (arith, onto_length xs (x ∷ ms))

abbrev head_or : Moment → List Moment → Moment
head_or d [] = d
head_or d (x ∷ xs) = x

abbrev tail_of : List Moment → List Moment
tail_of [] = []
tail_of (x ∷ xs) = xs

longer : (ms ns ys : List Moment) (y : Moment) → length ms ≡ length ns → ms ≡ onto ys (y ∷ ns) → ⊥
longer ms ns ys y same is = more (length ms) (length ns) (length ys) same (ap (λ zs. length zs) is ∙ onto_length ys (y ∷ ns))
  where
    more : (a b c : ℕ) → a ≡ b → a ≡ c + suc b → ⊥
    more a b c h k = omega (arith, h, k)

same_both : (xs ys ms ns : List Moment) → length ms ≡ length ns → onto xs ms ≡ onto ys ns → (xs ≡ ys) × (ms ≡ ns)
same_both [] [] ms ns same is = (refl, is)
same_both [] (y ∷ ys) ms ns same is = absurd (longer ms ns ys y same is)
same_both (x ∷ xs) [] ms ns same is = absurd (longer ns ms xs x (sym same) (sym is))
same_both (x ∷ xs) (y ∷ ys) ms ns same is =
    let r : (xs ≡ ys) × (x ∷ ms ≡ y ∷ ns) = same_both xs ys (x ∷ ms) (y ∷ ns) (ap (λ k. suc k) same) is in
    (ap (λ z. z ∷ xs) (ap (head_or x) r.1) ∙ ap (λ zs. y ∷ zs) r.0, ap tail_of r.1)

pub onto_same : (xs ys ms : List Moment) → onto xs ms ≡ onto ys ms → xs ≡ ys
onto_same xs ys ms is = (same_both xs ys ms ms refl is).0

-- ---- lines that bring no task

-- no packet comes to the node, and it does no command at a device, but for a write
abbrev pub NoTask : ℕ → Moment → Type 0
NoTask n (delivered p a m) = m ≢ n
NoTask n (device m d done reply) = (m ≢ n) ⊎ (is_write done ≡ true)
NoTask n _ = Unit {0}

command_off : (m n : ℕ) (done : PrCommand) → (m ≢ n) ⊎ (is_write done ≡ true) → ((m == n) && not (is_write done)) ≡ false
command_off m n done (inl ne) = off_first (m == n) (not (is_write done)) (differs m n ne)
command_off m n done (inr is) = off_second (m == n) (not (is_write done)) (ap not is)

pub no_task : (S : Setting) (n : ℕ) (ms : List Moment) (x : Moment) → NoTask n x → brings_task S n ms x ≡ false
no_task S n ms (delivered p a m) h =
    none_gets S n ms (delivered p a m) refl (λ none d is. subst (λ ts. is_queued_at d ts ≡ true) (if_off (m == n) (told.with_own S n (attempt_of n ms) (delivered p a m ∷ ms) (told.requested S n (letter_of p ms) ms (told.tasks_of S n ms))) (told.tasks_of S n ms) (differs m n h)) is)
no_task S n ms (device m d done reply) h =
    none_gets S n ms (device m d done reply) refl (λ none k is. subst (λ ts. is_queued_at k ts ≡ true)
    (if_off ((m == n) && not (is_write done)) (told.with_own S n (attempt_of n ms) (device m d done reply ∷ ms) (told.moved (told.answer_told reply) (told.tasks_of S n ms))) (told.tasks_of S n ms) (command_off m n done h)) is)
no_task S n ms _ h = refl

pub no_tasks : (S : Setting) (n : ℕ) (xs ms : List Moment) → AllByRecursion (NoTask n) xs → tasks_in S n xs ms ≡ false
no_tasks S n [] ms h = refl
no_tasks S n (x ∷ xs) ms h = ap (λ b. b || tasks_in S n xs (x ∷ ms)) (no_task S n ms x h.0) ∙ no_tasks S n xs (x ∷ ms) h.1
