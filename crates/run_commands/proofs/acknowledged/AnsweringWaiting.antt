-- A command that waits: behind which moments it was asked, and what passed since.
use Rattle.std.specs.Prelude.{ℕ, ◌≡◌, ◌⊎◌, ◌==◌, ◌&&◌, ◌||◌, not, Bool, true, false, if◌then◌else◌, List, [], ◌∷◌, is_some}
use Rattle.std.specs.List.{list_any}
use Rattle.std.proofs.Common.{refl, sym, ap, subst, ◌∙◌, inl, inr}
use Rattle.status_report.specs.declared.command_entry.CommandEntry.TheVariants as command
use Rattle.status_report.specs.declared.entry.Entry.TheVariants as entry
use Rattle.status_report.specs.declared.node_entry.NodeEntry.TheVariants as note
use Rattle.history.specs.Commands.{is_answered_to, waits}
use Rattle.history.specs.Moment.{Moment, Told}
use Rattle.history.specs.Order.{Always, before_last, since}
use Rattle.history.specs.Requests.{before_asking, command_before, command_of, is_asking}
use Rattle.history.specs.Seizing.{is_boot}
use Rattle.history.specs.Setting.{Setting}
use Rattle.history.specs.Trace.{asked, gives}
use Rattle.run_commands.proofs.acknowledged.Askings.{is_equal, is_same, true_two, two_true}
use Rattle.run_commands.specs.acknowledged.Followed.{AreFollowed, IsError, IsFollowed}

-- neither a boot of the node, nor does it ask so again, nor is it answered
pub record Passes (n q : ℕ) (x : Moment) : Type 0 where
  pub up : is_boot n x ≡ false
  pub other : is_asking n q x ≡ false
  pub silent : is_answered_to n q x ≡ false

-- it was asked behind these moments, and all since pass
abbrev pub Back : ℕ → ℕ → List Moment → List Moment → Type 0
Back n q first [] = ⊥
Back n q first (x ∷ before) = ((x ≡ asked n q) × (before ≡ first)) ⊎ (Passes n q x × Back n q first before)

pub record Open (n q : ℕ) (before : List Moment) : Type 0 where
  pub first : List Moment
  pub back : Back n q first before

-- ---- it is open while it waits

false_true : false ≡ true → ⊥
false_true e = cc

true_false : true ≡ false → ⊥
true_false e = cc

right_of : (a b : Bool) → a ≡ false → (a || b) ≡ true → b ≡ true
right_of true b none h = absurd (true_false none)
right_of false b none h = h

not_true : (b : Bool) → not b ≡ true → b ≡ false
not_true true h = absurd (false_true h)
not_true false h = refl

neither : (a b : Bool) → not (a || b) ≡ true → (a ≡ false) × (not b ≡ true)
neither true b h = absurd (false_true h)
neither false b h = (refl, h)

pub asking_is : (n q : ℕ) (x : Moment) → is_asking n q x ≡ true → x ≡ asked n q
asking_is n q (Told (entry.Command (command.Asked m r))) h =
    let two : _ = two_true (m == n) (r == q) h in
    ap (λ k. asked k r) (is_equal m n two.0) ∙ ap (λ k. asked n k) (is_equal r q two.1)
asking_is n q _ h = absurd (false_true h)

pub open_of : (n q : ℕ) (before : List Moment) → waits n q before ≡ true → Open n q before
open_of n q [] h = absurd (false_true h)
open_of n q (x ∷ ms) h = by_boot (open_of n q ms) (is_boot n x) refl h
  where
    further : (waits n q ms ≡ true → Open n q ms) → is_boot n x ≡ false → is_asking n q x ≡ false → (is_asking n q x || list_any (is_asking n q) (since (is_boot n) ms)) ≡ true
        → not (is_answered_to n q x || list_any (is_answered_to n q) (since (is_asking n q) ms)) ≡ true → Open n q (x ∷ ms)
    further rest no_boot other some none =
        let two : _ = neither (is_answered_to n q x) (list_any (is_answered_to n q) (since (is_asking n q) ms)) none in
        let later : Open n q ms =
        rest (true_two (list_any (is_asking n q) (since (is_boot n) ms)) (not (list_any (is_answered_to n q) (since (is_asking n q) ms)))
        (right_of (is_asking n q x) (list_any (is_asking n q) (since (is_boot n) ms)) other some) two.1) in
        record { first = later.first; back = inr (record { up = no_boot; other = other; silent = two.0 }, later.back) }

    by_asking : (waits n q ms ≡ true → Open n q ms) → (b : Bool) → is_asking n q x ≡ b → is_boot n x ≡ false → (is_asking n q x || list_any (is_asking n q) (since (is_boot n) ms)) ≡ true
        → not (list_any (is_answered_to n q) (if b then [] else x ∷ since (is_asking n q) ms)) ≡ true → Open n q (x ∷ ms)
    by_asking rest true is no_boot some none = record { first = ms; back = inl (asking_is n q x is, refl) }
    by_asking rest false is no_boot some none = further rest no_boot is some none

    by_boot : (waits n q ms ≡ true → Open n q ms) → (a : Bool) → is_boot n x ≡ a
        → (list_any (is_asking n q) (if a then [] else x ∷ since (is_boot n) ms) && not (list_any (is_answered_to n q) (if is_asking n q x then [] else x ∷ since (is_asking n q) ms))) ≡ true → Open n q (x ∷ ms)
    by_boot rest true is k = absurd (false_true k)
    by_boot rest false is k =
        let two : _ = two_true (is_asking n q x || list_any (is_asking n q) (since (is_boot n) ms)) (not (list_any (is_answered_to n q) (if is_asking n q x then [] else x ∷ since (is_asking n q) ms))) k in
        by_asking rest (is_asking n q x) refl is two.0 two.1

-- ---- where it was asked

pub if_yes : {X : Type 0} (b : Bool) (x y : X) → b ≡ true → (if b then x else y) ≡ x
if_yes true x y h = refl
if_yes false x y h = absurd (false_true h)

pub if_no : {X : Type 0} (b : Bool) (x y : X) → b ≡ false → (if b then x else y) ≡ y
if_no true x y h = absurd (true_false h)
if_no false x y h = refl

here : (n q : ℕ) → ((n == n) && (q == q)) ≡ true
here n q = true_two (n == n) (q == q) (is_same n) (is_same q)

pub back_asking : (n q : ℕ) (first ms : List Moment) → Back n q first ms → before_asking n q ms ≡ first
back_asking n q first [] b = absurd b
back_asking n q first (x ∷ ms) (inl e) =
    subst (λ z. (if is_asking n q z then ms else before_asking n q ms) ≡ first) (sym e.0) (if_yes ((n == n) && (q == q)) ms (before_asking n q ms) (here n q) ∙ e.1)
back_asking n q first (x ∷ ms) (inr b) = if_no (is_asking n q x) ms (before_asking n q ms) b.0.other ∙ back_asking n q first ms b.1

back_since : (n q : ℕ) (first ms : List Moment) → Back n q first ms → before_last (is_asking n q) (since (is_boot n) ms) ≡ since (is_boot n) first
back_since n q first [] b = absurd b
back_since n q first (x ∷ ms) (inl e) =
    subst (λ z. before_last (is_asking n q) (if is_boot n z then [] else z ∷ since (is_boot n) ms) ≡ since (is_boot n) first) (sym e.0)
    (if_yes ((n == n) && (q == q)) (since (is_boot n) ms) (before_last (is_asking n q) (since (is_boot n) ms)) (here n q) ∙ ap (λ l. since (is_boot n) l) e.1)
back_since n q first (x ∷ ms) (inr b) =
    ap (λ l. before_last (is_asking n q) l) (if_no (is_boot n x) [] (x ∷ since (is_boot n) ms) b.0.up)
    ∙ (if_no (is_asking n q x) (since (is_boot n) ms) (before_last (is_asking n q) (since (is_boot n) ms)) b.0.other ∙ back_since n q first ms b.1)

-- the words are in the line right before it, whatever came earlier
words_since : (S : Setting) (n : ℕ) (ms : List Moment) → command_before S (since (is_boot n) ms) ≡ command_before S ms
words_since S n [] = refl
words_since S n (gives m words ∷ ms) = refl
words_since S n (Told (entry.Node m note.Up) ∷ ms) = by_test (m == n)
  where
    by_test : (b : Bool) → command_before S (if b then [] else Told (entry.Node m note.Up) ∷ since (is_boot n) ms) ≡ command_before S (Told (entry.Node m note.Up) ∷ ms)
    by_test true = refl
    by_test false = refl
words_since S n (_ ∷ ms) = refl

pub back_command : (S : Setting) (n q : ℕ) (first ms : List Moment) → Back n q first ms → command_of S n q ms ≡ command_before S first
back_command S n q first ms b = ap (λ l. command_before S l) (back_since n q first ms b) ∙ words_since S n first

-- ---- what is always so, is so there

pub back_always : (P : List Moment → Moment → Type 0) (n q : ℕ) (first ms : List Moment) → Always P ms → Back n q first ms → P first (asked n q)
back_always P n q first [] all b = absurd b
back_always P n q first (x ∷ ms) all (inl e) = subst (λ z. P first z) e.0 (subst (λ l. P l x) e.1 all.0)
back_always P n q first (x ∷ ms) all (inr b) = back_always P n q first ms all.1 b.1

pub back_earlier : (P : List Moment → Moment → Type 0) (n q : ℕ) (first ms : List Moment) → Always P ms → Back n q first ms → Always P first
back_earlier P n q first [] all b = absurd b
back_earlier P n q first (x ∷ ms) all (inl e) = subst (λ l. Always P l) e.1 all.1
back_earlier P n q first (x ∷ ms) all (inr b) = back_earlier P n q first ms all.1 b.1

-- ---- it has canonical words, where its answer is no error

pass_no_error : (n q : ℕ) (first : List Moment) (x : Moment) → is_answered_to n q x ≡ false → IsError (asked n q ∷ first) x → ⊥
pass_no_error n q first (Told (entry.Command (command.Answered m r reply))) silent e =
    true_false (sym (true_two (m == n) (r == q) (ap (λ k. k == n) e.0 ∙ is_same n) (ap (λ k. k == q) e.1 ∙ is_same q)) ∙ silent)
pass_no_error n q first _ silent e = absurd e

pub back_worded : (S : Setting) (n q : ℕ) (first : List Moment) (x : Moment) (ms : List Moment) → IsFollowed S ms x → (IsError (asked n q ∷ first) x → ⊥) → AreFollowed S ms → Back n q first ms
    → is_some (command_before S first) ≡ true
back_worded S n q first x [] followed none all b = absurd b
back_worded S n q first x (y ∷ ms) followed none all (inl e) = by (subst (λ l. IsFollowed S l x) same followed)
  where
    same : y ∷ ms ≡ asked n q ∷ first
    same = ap (λ z. z ∷ ms) e.0 ∙ ap (λ l. asked n q ∷ l) e.1

    by : IsFollowed S (asked n q ∷ first) x → is_some (command_before S first) ≡ true
    by (inl is) = is
    by (inr error) = absurd (none error)
back_worded S n q first x (y ∷ ms) followed none all (inr b) = back_worded S n q first y ms all.0 (λ e. pass_no_error n q first y b.0.silent e) all.1 b.1
