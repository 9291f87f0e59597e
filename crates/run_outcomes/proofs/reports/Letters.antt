-- What a law of each moment says of the line of a letter, and of one that has reached a node.
use Rattle.std.specs.Prelude.{ℕ, ◌≡◌, ◌==◌, ◌||◌, Bool, true, false, List, [], ◌∷◌, Option, None, Some, if◌then◌else◌}
use Rattle.std.proofs.Common.{refl, subst}
use Rattle.cl_base.specs.declared.packet.MessageName.{MessageName}
use Rattle.cmm_attempt.proofs.Basics.{false_true, none_some, same_some}
use Rattle.history.specs.Letters.{Letter, arriving, letter_of, passes, reached_since}
use Rattle.history.specs.Moment.{Moment}
use Rattle.history.specs.Names.{named}
use Rattle.history.specs.Order.{Always}
use Rattle.history.specs.Trace.{delivered, repeated, sent}

-- the line, with the letter's name
pub record LineOf (Q : List Moment → Moment → Type 0) (l : Letter) : Type 0 where
  pub number : ℕ
  pub called : MessageName
  pub name_so : l.name ≡ named called
  pub line_so : Q l.before (sent number l.from l.to called l.bytes)

pub found_line : (Q : List Moment → Moment → Type 0) (p : ℕ) (ms : List Moment) (l : Letter) → Always Q ms → letter_of p ms ≡ Some l → LineOf Q l
found_line Q p [] l law is = absurd (none_some l is)
found_line Q p (sent q a b called bytes ∷ ms) l law is = by_test (q == p) is (λ h. found_line Q p ms l law.1 h)
  where
    here : Letter
    here = record { from = a; to = b; name = named called; bytes = bytes; before = ms }

    by_test : (t : Bool) → (if t then Some here else letter_of p ms) ≡ Some l → (letter_of p ms ≡ Some l → LineOf Q l) → LineOf Q l
    by_test true at rest = subst (LineOf Q) (same_some here l at) (record { number = q; called = called; name_so = refl; line_so = law.0 })
    by_test false at rest = rest at
found_line Q p (repeated q copy ∷ ms) l law is = found_line Q (if copy == p then q else p) ms l law.1 is
found_line Q p (x ∷ ms) l law is = found_line Q p ms l law.1 is

-- a letter that has come since then and passes the test
pub record Reaching (Q : List Moment → Moment → Type 0) (test : Letter → Bool) : Type 0 where
  pub letter : Letter
  pub passed : test letter ≡ true
  pub line : LineOf Q letter

passed_by : (Q : List Moment → Moment → Type 0) (test : Letter → Bool) (p : ℕ) (ms : List Moment) (o : Option Letter) → Always Q ms → letter_of p ms ≡ o → passes test o ≡ true → Reaching Q test
passed_by Q test p ms None law at is = absurd (false_true is)
passed_by Q test p ms (Some l) law at is = record { letter = l; passed = is; line = found_line Q p ms l law at }

arriving_by : (Q : List Moment → Moment → Type 0) (test : Letter → Bool) (x : Moment) (ms : List Moment) → Always Q ms → passes test (arriving ms x) ≡ true → Reaching Q test
arriving_by Q test (delivered p a b) ms law is = passed_by Q test p ms (letter_of p ms) law refl is
arriving_by Q test _ ms law is = absurd (false_true is)

pub reaching : (Q : List Moment → Moment → Type 0) (stop : Moment → Bool) (test : Letter → Bool) (ms : List Moment) → Always Q ms → reached_since stop test ms ≡ true → Reaching Q test
reaching Q stop test [] law is = absurd (false_true is)
reaching Q stop test (x ∷ ms) law is = by_stop (stop x) is (λ h. reaching Q stop test ms law.1 h)
  where
    by_pass : (b : Bool) → passes test (arriving ms x) ≡ b → (b || reached_since stop test ms) ≡ true → (reached_since stop test ms ≡ true → Reaching Q test) → Reaching Q test
    by_pass true here h later = arriving_by Q test x ms law.1 here
    by_pass false here h later = later h

    by_stop : (b : Bool) → (if b then false else (passes test (arriving ms x) || reached_since stop test ms)) ≡ true → (reached_since stop test ms ≡ true → Reaching Q test) → Reaching Q test
    by_stop true h later = absurd (false_true h)
    by_stop false h later = by_pass (passes test (arriving ms x)) refl h later
