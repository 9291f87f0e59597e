-- What was exchanged since a node became a member: its Request came to its president, and then an Answer was sent that came to the node.
use Rattle.std.specs.Prelude.{ℕ, ◌+◌, ◌==◌, ◌&&◌, Bool, if◌then◌else◌, List, [], ◌∷◌}
use Rattle.history.specs.Letters.{Letter, is_letter, reached}
use Rattle.history.specs.Moment.{Moment}
use Rattle.history.specs.Names as name
use Rattle.history.specs.Trace.{member}

-- how many times n became a member
abbrev pub memberships : ℕ → List Moment → ℕ
memberships n [] = 0
memberships n (member m e ∷ before) = if m == n then memberships n before + 1 else memberships n before
memberships n (_ ∷ before) = memberships n before

-- a Request with this number came to c that n sent as it had been a member so many times
abbrev pub is_request_in : ℕ → ℕ → ℕ → ℕ → Letter → Bool
is_request_in n c q k l = is_letter (name.Request q) n c l && (memberships n l.before == k)

-- .. and then c sent the Answer, which came to n
abbrev pub is_answer_in : ℕ → ℕ → ℕ → ℕ → Letter → Bool
is_answer_in n c q k l = is_letter (name.Answer q) c n l && reached (is_request_in n c q k) l.before

abbrev pub exchanged_in : ℕ → ℕ → ℕ → ℕ → List Moment → Bool
exchanged_in n c q k moments = reached (is_answer_in n c q k) moments
