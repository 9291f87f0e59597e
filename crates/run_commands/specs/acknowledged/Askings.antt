-- Which commands a node asked as a member of a membership, which Requests it sent of it, and what is done in it.
use Rattle.std.specs.Prelude.{ℕ, ◌≡◌, ◌==◌, ◌&&◌, ◌||◌, Bool, false, if◌then◌else◌, List, [], ◌∷◌, Option, None, Some, cond, ◌+◌}
use Rattle.wire.specs.declared.message.Body.{Body}
use Rattle.wire.specs.declared.message.Body.TheVariants as body
use Rattle.history.specs.Letters.{Letter, says}
use Rattle.history.specs.Member.{member_of}
use Rattle.history.specs.Moment.{Moment}
use Rattle.history.specs.Names.{named}
use Rattle.history.specs.Order.{Always}
use Rattle.history.specs.Requests.{Request, command_before, same_words}
use Rattle.history.specs.Seizing.{is_number}
use Rattle.history.specs.Setting.{Setting}
use Rattle.history.specs.Trace.{asked, propose, sent}

-- whether n asked by this number as a member of e
abbrev pub asked_as : ℕ → ℕ → ℕ → List Moment → Bool
asked_as n q e [] = false
asked_as n q e (asked m r ∷ before) = (((m == n) && (r == q)) && is_number e (member_of n before)) || asked_as n q e before
asked_as n q e (_ ∷ before) = asked_as n q e before

-- the canonical words of that command, the last
abbrev pub text_asked : Setting → ℕ → ℕ → ℕ → List Moment → Option (List ℕ)
text_asked S n q e [] = None
text_asked S n q e (asked m r ∷ before) = if ((m == n) && (r == q)) && is_number e (member_of n before) then command_before S before else text_asked S n q e before
text_asked S n q e (_ ∷ before) = text_asked S n q e before

-- whether it is a Request of e with this number
abbrev pub is_request : ℕ → ℕ → Option Body → Bool
is_request q e (Some (body.Request f r text)) = (f == e) && (r == q)
is_request q e _ = false

-- whether n sent a Request of e with this number
abbrev pub requested_as : ℕ → ℕ → ℕ → List Moment → Bool
requested_as n q e [] = false
requested_as n q e (sent p m b called bytes ∷ before) = ((m == n) && is_request q e (says bytes)) || requested_as n q e before
requested_as n q e (_ ∷ before) = requested_as n q e before

-- a member asks by a number once, before it sends a Request with it
abbrev pub IsFirst : List Moment → Moment → Type 0
IsFirst before (asked n q) = (e : ℕ) → member_of n before ≡ Some e → (asked_as n q e before ≡ false) × (requested_as n q e before ≡ false)
IsFirst before _ = Unit {0}

abbrev pub AskedOnce : List Moment → Type 0
AskedOnce moments = Always IsFirst moments

-- ---- what letters are

abbrev pub IsLetterOf : (Letter → Type 0) → List Moment → Moment → Type 0
IsLetterOf P before (sent p n b called bytes) = P (record { from = n; to = b; name = named called; bytes = bytes; before = before })
IsLetterOf P before _ = Unit {0}

abbrev pub LettersAre : (Letter → Type 0) → List Moment → Type 0
LettersAre P moments = Always (IsLetterOf P) moments

-- ---- how many

abbrev pub tally : {X : Type 0} → (X → Bool) → List X → ℕ
tally p [] = 0
tally p (x ∷ xs) = cond (p x) 1 0 + tally p xs

-- of a node, a number and words
abbrev pub Test : Type 0
Test = ℕ → ℕ → List ℕ → Bool

abbrev pub passes_test : Test → Request → Bool
passes_test T r = T r.node r.number r.words

abbrev pub held : Test → List Request → ℕ
held T rs = tally (passes_test T) rs

-- this request, with these words
abbrev pub is_it : ℕ → ℕ → List ℕ → Test
is_it n q words = λ m r found. ((m == n) && (r == q)) && same_words found words

-- how many updates of e with these words were proposed
abbrev pub proposals : ℕ → List ℕ → List Moment → ℕ
proposals e words [] = 0
proposals e words (propose f v found ∷ before) = cond ((f == e) && same_words found words) 1 0 + proposals e words before
proposals e words (_ ∷ before) = proposals e words before
