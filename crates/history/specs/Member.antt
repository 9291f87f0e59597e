-- Member: node n is a member of e where `member n e` is its last such line, it neither went up nor down since, and since then it has begun
-- no attempt and saved nothing in the event of a Collect that was delivered to it.
use Rattle.std.specs.Prelude.{ℕ, ◌==◌, ◌&&◌, Bool, true, false, if◌then◌else◌, List, [], ◌∷◌, Option, Some, None}
use Rattle.std.specs.Option.{option_and_then}
use Rattle.history.specs.Names as name
use Rattle.history.specs.Names.{same_name}
use Rattle.history.specs.Moment.{Moment}
use Rattle.history.specs.Trace.{up, down, saved, installed, member, attempt, stopped, disk_failed}
use Rattle.history.specs.Letters.{Letter, arrived, passes}
use Rattle.history.specs.Setting.{coordinator}

abbrev pub is_up : ℕ → List Moment → Bool
is_up n [] = false
is_up n (up m ∷ before) = if m == n then true else is_up n before
is_up n (down m why ∷ before) = if m == n then false else is_up n before
is_up n (_ ∷ before) = is_up n before

-- whether the event under way is that of a Collect delivered to n
abbrev pub in_collect : ℕ → List Moment → Bool
in_collect n before = passes (λ l. same_name l.name name.Collect && (l.to == n)) (arrived before)

-- the membership of which n is a member
abbrev pub member_of : ℕ → List Moment → Option ℕ
member_of n [] = None
member_of n (up m ∷ before) = if m == n then None else member_of n before
member_of n (down m why ∷ before) = if m == n then None else member_of n before
member_of n (member m e ∷ before) = if m == n then Some e else member_of n before
member_of n (attempt e members ∷ before) = if coordinator e == n then None else member_of n before
member_of n (saved m ∷ before) = if (m == n) && in_collect n before then None else member_of n before
member_of n (_ ∷ before) = member_of n before

-- the number of the last `member` line of n since it went up
abbrev pub last_member : ℕ → List Moment → Option ℕ
last_member n [] = None
last_member n (up m ∷ before) = if m == n then None else last_member n before
last_member n (member m e ∷ before) = if m == n then Some e else last_member n before
last_member n (_ ∷ before) = last_member n before

-- the last attempt that c began: the number of a Collect of c that is sent after these moments
abbrev pub attempt_of : ℕ → List Moment → Option ℕ
attempt_of c [] = None
attempt_of c (attempt e members ∷ before) = if coordinator e == c then Some e else attempt_of c before
attempt_of c (_ ∷ before) = attempt_of c before

-- the members of the attempt e
abbrev pub members_of : ℕ → List Moment → ℕ
members_of e [] = 0
members_of e (attempt f members ∷ before) = if f == e then members else members_of e before
members_of e (_ ∷ before) = members_of e before

-- the attempt in which a letter of its coordinator was sent
abbrev pub number_of : Letter → Option ℕ
number_of l = attempt_of l.from l.before

-- the number that is promised in this event: that of the Collect that was delivered
abbrev pub promised_to : List Moment → Option ℕ
promised_to before = option_and_then number_of (arrived before)

-- the session of n: the number that it promised last since it went up, be it for a Collect or for an attempt of its own. It changes where
-- the promise is saved, and so does the membership of n.
abbrev pub session_of : ℕ → List Moment → Option ℕ
session_of n [] = None
session_of n (up m ∷ before) = if m == n then None else session_of n before
session_of n (down m why ∷ before) = if m == n then None else session_of n before
session_of n (attempt e members ∷ before) = if coordinator e == n then Some e else session_of n before
session_of n (saved m ∷ before) = if (m == n) && in_collect n before then promised_to before else session_of n before
session_of n (_ ∷ before) = session_of n before

-- the installed epoch of n: that of its last `installed` line, or 0 without one; None, where a later save may have stopped
abbrev pub installed_of : ℕ → List Moment → Option ℕ
installed_of n [] = Some 0
installed_of n (installed m e ∷ before) = if m == n then Some e else installed_of n before
installed_of n (stopped m ∷ before) = if m == n then None else installed_of n before
installed_of n (disk_failed m ∷ before) = if m == n then None else installed_of n before
installed_of n (_ ∷ before) = installed_of n before

-- the number of its last `installed` line, or 0, whatever came since
abbrev pub last_installed : ℕ → List Moment → ℕ
last_installed n [] = 0
last_installed n (installed m e ∷ before) = if m == n then e else last_installed n before
last_installed n (_ ∷ before) = last_installed n before
