-- The desk of a member: its own requests that wait, of commands and of its monitors, and, where it is the president, the requests that have
-- come to it and are not handled. The president's own come one at a time: the next once the one before is handled.
use Rattle.std.specs.Prelude.{ℕ, ◌+◌, ◌==◌, ◌&&◌, not, nat_lt, Bool, true, false, if◌then◌else◌, List, [], ◌∷◌, ◌++◌, length, count_by, Option, Some, None, codes}
use Rattle.std.specs.List.{list_any, filter, find}
use Rattle.ccr_tables.specs.declared.command.AdminCommand.{AdminCommand}
use Rattle.ccr_tables.specs.declared.command.AdminCommand.TheVariants.{Change, Act}
use Rattle.status_report.specs.declared.call_entry.ProbeResult.{ProbeResult}
use Rattle.status_report.specs.declared.call_entry.ProbeResult.TheVariants as result
use Rattle.history.specs.Moment.{Moment}
use Rattle.history.specs.Names as name
use Rattle.history.specs.Names.{Name, named}
use Rattle.history.specs.Trace.{up, sent, delivered, asked, answered}
use Rattle.history.specs.Setting.{coordinator}
use Rattle.history.specs.Letters.{Letter, letter_of, reached_since, is_letter, says, text_in}
use Rattle.history.specs.Member.{member_of}
use Rattle.history.specs.Requests.{command_before}
use Rattle.group_history.specs.Setting.{Groups, second_of}
use Rattle.group_history.specs.Doings.{probed, is_joining}
use Rattle.group_history.specs.Orders.{is_sent_in}

pub record Request : Type 0 where
  pub node : ℕ
  pub number : ℕ
  -- the canonical words
  pub words : List ℕ
  -- a monitor's has neither an `asked` nor an `answer` line
  pub monitors : Bool
  -- when it was made
  pub second : ℕ

pub record Desk : Type 0 where
  -- the last number that a request of the node took
  pub last : ℕ
  -- its own that wait, the oldest first
  pub own : List Request
  -- those that have come to the president and wait
  pub come : List Request
  -- those that were handled as the newest moment came
  pub handled : List Request

abbrev pub is_request : ℕ → ℕ → Request → Bool
is_request n q r = (r.node == n) && (r.number == q)

abbrev pub is_nodes : ℕ → Request → Bool
is_nodes n r = r.node == n

-- how many requests of the node wait, with the one that is being handled
abbrev pub waiting : ℕ → Desk → ℕ
waiting n d = length d.own + count_by (is_nodes n) d.come

abbrev pub most : ℕ
most = 64

abbrev pub has_room : ℕ → Desk → Bool
has_room n d = nat_lt (waiting n d) most

-- ---- requests of the node itself

abbrev pub is_request_in : Option AdminCommand → Bool
is_request_in (Some (Change u)) = true
is_request_in (Some (Act a)) = true
is_request_in _ = false

abbrev pub with_own : Request → Desk → Desk
with_own r d = record d { last = r.number; own = d.own ++ r ∷ [] }

abbrev pub own_request : ℕ → ℕ → List ℕ → Bool → ℕ → Request
own_request n q words monitors second = record { node = n; number = q; words = words; monitors = monitors; second = second }

-- a command that is a request waits where there is room
abbrev pub with_words : Groups → ℕ → ℕ → ℕ → Option (List ℕ) → Desk → Desk
with_words S n q second None d = record d { last = q }
with_words S n q second (Some words) d =
    if is_request_in (S.command words) && has_room n d then with_own (own_request n q words false second) d else record d { last = q }

abbrev pub words_for : ProbeResult → List ℕ → Option (List ℕ)
words_for result.Ok r = None
words_for result.Restart r = Some (codes "restart " ++ r)
words_for result.Move r = Some (codes "move " ++ r)
words_for result.Logged r = None

-- what a monitor asks waits where there is room, and is asked of nobody else
abbrev pub with_probe : ℕ → ℕ → Option (List ℕ) → Desk → Desk
with_probe n second None d = d
with_probe n second (Some words) d = if has_room n d then with_own (own_request n (d.last + 1) words true second) d else d

-- ---- requests that are over

abbrev pub without : ℕ → ℕ → List Request → List Request
without n q rs = filter (λ r. not (is_request n q r)) rs

abbrev pub found : Option Request → List Request
found None = []
found (Some r) = r ∷ []

-- the request of this node and number is over: handled, where it had come here
abbrev pub over : ℕ → ℕ → Desk → Desk
over n q d = record d { own = if list_any (is_request n q) d.come then d.own else without n q d.own; come = without n q d.come; handled = found (find (is_request n q) d.come) }

-- ---- requests of others, each once for a node and number

abbrev pub is_request_letter : ℕ → ℕ → ℕ → ℕ → Letter → Bool
is_request_letter e c m q l = is_letter (name.Request q) m c l && is_sent_in e l

abbrev pub come_from : ℕ → ℕ → ℕ → Letter → List Moment → Option (List ℕ) → Desk → Desk
come_from e c q l before None d = d
come_from e c q l before (Some words) d =
    if reached_since (is_joining c) (is_request_letter e c l.from q) before then d
    else record d { come = d.come ++ (record { node = l.from; number = q; words = words; monitors = false; second = second_of before }) ∷ [] }

abbrev pub with_letter : ℕ → ℕ → Letter → List Moment → Name → Desk → Desk
with_letter e n l before (name.Request q) d =
    if is_sent_in e l && (n == coordinator e) then come_from e n q l before (text_in (says l.bytes)) d else d
with_letter e n l before (name.Answer q) d =
    if is_sent_in e l && (l.from == coordinator e) && not (n == l.from) && list_any (λ r. is_request n q r && r.monitors) d.own then over n q d else d
with_letter e n l before _ d = d

abbrev pub with_arrival : ℕ → ℕ → Option Letter → List Moment → Desk → Desk
with_arrival e n None before d = d
with_arrival e n (Some l) before d = with_letter e n l before l.name d

-- the president answers another node
abbrev pub with_answer : ℕ → Name → Desk → Desk
with_answer m (name.Answer q) d = if list_any (is_request m q) d.come then over m q d else d
with_answer m _ d = d

-- ---- the president's own

-- The next comes where none of its own has; a monitor's is handled at once where nothing is before it.
abbrev pub brought : ℕ → List Request → Desk → Desk
brought n [] d = record d { own = [] }
brought n (r ∷ own) d =
    if list_any (is_nodes n) d.come then record d { own = r ∷ own }
    else if r.monitors && (length d.come == 0) then brought n own (record d { handled = d.handled ++ r ∷ [] })
    else record d { own = own; come = d.come ++ r ∷ [] }

abbrev pub advanced : ℕ → List Request → Desk → Desk
advanced n [] d = brought n d.own d
advanced n (r ∷ come) d =
    if (r.node == n) && r.monitors then brought n d.own (record d { come = come; handled = d.handled ++ r ∷ [] }) else brought n d.own d

abbrev pub settled : ℕ → ℕ → Desk → Desk
settled e n d = if n == coordinator e then advanced n d.come d else d

-- ---- moment by moment

abbrev pub empty : ℕ → Desk
empty last = record { last = last; own = []; come = []; handled = [] }

-- what the moment changes at the desk of n, which is a member of e
abbrev pub moved : Groups → ℕ → ℕ → List Moment → Moment → Desk → Desk
moved S e n before (asked m q) d = if m == n then with_words S n q (second_of before) (command_before S.cluster before) d else d
moved S e n before (answered m q reply) d = if m == n then over n q d else d
moved S e n before (probed m r result) d = if m == n then with_probe n (second_of before) (words_for result r) d else d
moved S e n before (delivered p a m) d = if m == n then with_arrival e n (letter_of p before) before d else d
moved S e n before (sent p a m called bytes) d = if (a == n) && (n == coordinator e) then with_answer m (named called) d else d
moved S e n before _ d = d

-- the last number also counts where the node is no member
abbrev pub last_number : ℕ → Moment → Desk → ℕ
last_number n (up m) d = if m == n then 0 else d.last
last_number n (asked m q) d = if m == n then q else d.last
last_number n _ d = d.last

abbrev pub moved_in : Groups → Option ℕ → ℕ → List Moment → Moment → Desk → Desk
moved_in S None n before x d = empty (last_number n x d)
moved_in S (Some e) n before x d = settled e n (moved S e n before x (record d { handled = [] }))

abbrev pub desk_of : Groups → ℕ → List Moment → Desk
desk_of S n [] = empty 0
desk_of S n (x ∷ before) =
    if is_joining n x then empty (desk_of S n before).last else moved_in S (member_of n (x ∷ before)) n before x (desk_of S n before)
