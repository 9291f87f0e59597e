-- What is told of an end among the outputs of a node stands among the entries that they leave.
use Rattle.std.specs.Prelude.{ℕ, ◌+◌, ◌≡◌, ◌≤◌, ◌||◌, Bool, true, false, List, [], ◌∷◌, if◌then◌else◌}
use Rattle.std.specs.List.{AllByRecursion, list_any}
use Rattle.std.proofs.Common.{arith, refl, sym, ap, subst, ◌∙◌}
use Rattle.cmm_attempt.proofs.Basics.{false_true}
use Rattle.history.specs.Attempts.{ends_silent_or_falls}
use Rattle.history.specs.Messages as messages
use Rattle.history.specs.Moment.{Moment, Told}
use Rattle.node_model.specs.declared.output.Output.{Output}
use Rattle.node_model.specs.declared.output.Output.TheVariants.{Sends, Tells}
use Rattle.run_history.specs.Scenes.{Scene, passing, posting, telling}
use Rattle.run_lines.proofs.Adds.{Adds, adds_passing, onto}
use Rattle.run_lines.specs.Entries.{GivesEntry}
use Rattle.run_outcomes.specs.silence.Ends.{shows_end}

-- how many of these moments pass
abbrev passed : (Moment → Bool) → List Moment → ℕ
passed f [] = 0
passed f (x ∷ xs) = (if f x then 1 else 0) + passed f xs

moved_one : (a b d : ℕ) → a + (b + d) ≡ (b + a) + d
moved_one a b d = omega arith

passed_onto : (f : Moment → Bool) (xs ms : List Moment) → passed f (messages.onto ms xs) ≡ passed f xs + passed f ms
passed_onto f [] ms = none_more (passed f ms)
  where
    none_more : (n : ℕ) → n ≡ 0 + n
    none_more n = omega arith
passed_onto f (x ∷ xs) ms = passed_onto f xs (x ∷ ms) ∙ moved_one (passed f xs) (if f x then 1 else 0) (passed f ms)

same_onto : (xs ms : List Moment) → onto xs ms ≡ messages.onto ms xs
same_onto [] ms = refl
same_onto (x ∷ xs) ms = same_onto xs (x ∷ ms)

pass_some : (f : Moment → Bool) (xs : List Moment) → 1 ≤ passed f xs → list_any f xs ≡ true
pass_some f [] h = absurd (none h)
  where
    none : 1 ≤ 0 → ⊥
    none k = grind arith
pass_some f (x ∷ xs) h = by_value (f x) (λ k. pass_some f xs k) h
  where
    none_more : (n : ℕ) → 1 ≤ 0 + n → 1 ≤ n
    none_more n k = omega (arith, k)

    by_value : (b : Bool) → (1 ≤ passed f xs → list_any f xs ≡ true) → 1 ≤ (if b then 1 else 0) + passed f xs → (b || list_any f xs) ≡ true
    by_value true rest k = refl
    by_value false rest k = rest (none_more (passed f xs) k)

-- ---- what a node gives

more_le : (n a : ℕ) → n ≤ a + n
more_le n a = omega arith

-- none is lost
passed_more : (f : Moment → Bool) (ms after : List Moment) → Adds ms after → passed f ms ≤ passed f after
passed_more f ms after a =
    subst (λ n. passed f ms ≤ n) (sym (passed_onto f a.entries ms) ∙ ap (passed f) (sym (same_onto a.entries ms) ∙ a.is)) (more_le (passed f ms) (passed f a.entries))

passing_more : (f : Moment → Bool) (n : ℕ) (os : List Output) (s : Scene) → AllByRecursion GivesEntry os → passed f s.moments ≤ passed f (passing n os s).moments
passing_more f n os s are = passed_more f s.moments (passing n os s).moments (adds_passing n os s are)

one_more : (e n : ℕ) (os : List Output) (s : Scene) → AllByRecursion GivesEntry os → list_any (shows_end e) os ≡ true
    → 1 + passed (ends_silent_or_falls e) s.moments ≤ passed (ends_silent_or_falls e) (passing n os s).moments
one_more e n [] s are h = absurd (false_true h)
one_more e n (Tells t ∷ os) s are h = by_value (ends_silent_or_falls e (Told t)) refl (λ k. one_more e n os (telling t s) are.1 k) h
  where
    f : Moment → Bool
    f = ends_silent_or_falls e

    z : Scene
    z = passing n os (telling t s)

    later : (a b : ℕ) → 1 + (0 + a) ≤ b → 1 + a ≤ b
    later a b k = omega (arith, k)

    by_value : (b : Bool) → f (Told t) ≡ b → (list_any (shows_end e) os ≡ true → 1 + passed f (telling t s).moments ≤ passed f z.moments) → (b || list_any (shows_end e) os) ≡ true → 1 + passed f s.moments ≤ passed f z.moments
    by_value true is rest k = subst (λ b. (if b then 1 else 0) + passed f s.moments ≤ passed f z.moments) is (passing_more f n os (telling t s) are.1)
    by_value false is rest k = later (passed f s.moments) (passed f z.moments) (subst (λ b. 1 + ((if b then 1 else 0) + passed f s.moments) ≤ passed f z.moments) is (rest k))
one_more e n (Sends to b ∷ os) s are h =
    let f : Moment → Bool = ends_silent_or_falls e in
    let u : Scene = posting n to (record { sender = n; body = b }) s in
    then_le (passed f s.moments) (passed f u.moments) (passed f (passing n os u).moments) (passing_more f n (Sends to b ∷ []) s (are.0, tt)) (one_more e n os u are.1 h)
  where
    then_le : (a b d : ℕ) → a ≤ b → 1 + b ≤ d → 1 + a ≤ d
    then_le a b d p q = omega (arith, p, q)

pub shown_told : (e n : ℕ) (os : List Output) (s : Scene) (later : List Moment) → AllByRecursion GivesEntry os → messages.onto s.moments later ≡ (passing n os s).moments → list_any (shows_end e) os ≡ true → list_any (ends_silent_or_falls e) later ≡ true
shown_told e n os s later are is h =
    let f : Moment → Bool = ends_silent_or_falls e in
    pass_some f later (as_many (passed f later) (passed f s.moments) (subst (λ k. 1 + passed f s.moments ≤ k) (ap (passed f) (sym is) ∙ passed_onto f later s.moments) (one_more e n os s are h)))
  where
    as_many : (a b : ℕ) → 1 + b ≤ a + b → 1 ≤ a
    as_many a b k = omega (arith, k)
