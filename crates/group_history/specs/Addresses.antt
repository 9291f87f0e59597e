-- Shared addresses: what a client's request at a president is answered is what the requests for the address in this membership since it was last
-- deleted, its policy and its targets at each of them give.
use Rattle.std.specs.Prelude.{◌≡◌, ℕ, ◌==◌, ◌&&◌, not, Bool, false, if◌then◌else◌, List, map, [], ◌∷◌, ◌++◌, Option, Some, None}
use Rattle.address_targets.specs.Targets.{targets_of}
use Rattle.ccr_tables.specs.declared.address.Address.{Address}
use Rattle.ccr_tables.specs.declared.command.AdminCommand.{AdminCommand}
use Rattle.ccr_tables.specs.declared.command.AdminCommand.TheVariants.{Change}
use Rattle.ccr_tables.specs.declared.update.Update.TheVariants.{DeleteAddress}
use Rattle.rg_props.specs.Lookups.{named}
use Rattle.schedule_text.specs.declared.event.Event.TheVariants as event
use Rattle.schedule_text.specs.declared.line.Line.TheVariants as line
use Rattle.std.specs.Str.{bytes_eq}
use Rattle.shared_address.specs.Choosing.{Outcome, Request, asked}
use Rattle.shared_address.specs.History.{outcome_after}
use Rattle.shared_address.specs.declared.choice.Client.{Client}
use Rattle.status_report.specs.declared.schedule_entry.SkipCause.TheVariants as skip
use Rattle.history.specs.Moment.{Moment, Said}
use Rattle.history.specs.Trace.{member, ack, served, skipped}
use Rattle.history.specs.Order.{EachEvent, Unless}
use Rattle.history.specs.Setting.{coordinator}
use Rattle.history.specs.Member.{member_of}
use Rattle.group_history.specs.Setting.{Groups, config_of}
use Rattle.group_history.specs.Doings.{forgot}
use Rattle.group_history.specs.KnownMap.{known_of}

-- ---- the requests for an address at the president of e since it became one or the address was deleted, newest first, with what their lines tell

pub record Answered : Type 0 where
  pub request : Request
  pub node : Option ℕ
  pub forgot : Option Client

abbrev pub requests_of : List Answered → List Request
requests_of answers = map (λ a. a.request) answers

abbrev pub request_at : Groups → ℕ → List Moment → ℕ → ℕ → Address → Request
request_at S e before client port a = asked a.policy client port (targets_of (config_of S e before) (known_of S e before) a)

abbrev pub answer_at : Groups → ℕ → List Moment → ℕ → ℕ → Option ℕ → Option Client → Option Address → List Answered
answer_at S e before client port target evicted None = []
answer_at S e before client port target evicted (Some a) = record { request = request_at S e before client port a; node = target; forgot = evicted } ∷ []

-- whether n is the president of e, where this is the membership that it has
abbrev pub presides : ℕ → ℕ → Option ℕ → Bool
presides e n None = false
presides e n (Some f) = (f == e) && (coordinator e == n)

-- the line of the client comes right before those of its answer
abbrev pub answer_of : Groups → ℕ → List ℕ → Option ℕ → Option Client → List Moment → List Answered
answer_of S e name target evicted (Said (line.Event (event.Client n other client port)) ∷ before) =
    if bytes_eq other name && presides e n (member_of n before)
    then answer_at S e before client port target evicted (named (config_of S e before).addresses name)
    else []
answer_of S e name target evicted _ = []

abbrev pub answer_told : Groups → ℕ → List ℕ → Option ℕ → List Moment → List Answered
answer_told S e name target (forgot other client port ∷ before) = answer_of S e name target (Some (record { address = client; port = port })) before
answer_told S e name target before = answer_of S e name target None before

abbrev pub deletes : List ℕ → Option AdminCommand → Bool
deletes name (Some (Change (DeleteAddress other))) = bytes_eq other name
deletes name _ = false

abbrev pub answers_in : Groups → ℕ → List ℕ → List Moment → List Answered
answers_in S e name [] = []
answers_in S e name (member n f ∷ before) = if (f == e) && (n == coordinator e) then [] else answers_in S e name before
answers_in S e name (served other client port target ∷ before) = answer_told S e name target before ++ answers_in S e name before
answers_in S e name (ack f v words ∷ before) = if (f == e) && deletes name (S.command words) then [] else answers_in S e name before
answers_in S e name (_ ∷ before) = answers_in S e name before

-- ---- the entries of a request

abbrev pub forgot_line : List ℕ → Option Client → List Moment
forgot_line name None = []
forgot_line name (Some client) = forgot name client.address client.port ∷ []

abbrev pub lines_of : List ℕ → ℕ → ℕ → Outcome → List Moment
lines_of name client port o = forgot_line name o.forgot ++ served name client port o.node ∷ []

abbrev pub entries_for : Groups → ℕ → List Moment → List ℕ → ℕ → ℕ → Option Address → List Moment
entries_for S e before name client port None = skipped skip.NoAddress ∷ []
entries_for S e before name client port (Some a) =
    lines_of name client port (outcome_after (requests_of (answers_in S e name before)) (request_at S e before client port a))

abbrev pub IsServedAt : Groups → List Moment → ℕ → List ℕ → ℕ → ℕ → List Moment → Option ℕ → Type 0
IsServedAt S before n name client port entries None = Unit {0}
IsServedAt S before n name client port entries (Some e) =
    Unless (not (coordinator e == n)) (entries ≡ entries_for S e before name client port (named (config_of S e before).addresses name))

abbrev pub IsServed : Groups → List Moment → Moment → List Moment → Type 0
IsServed S before (Said (line.Event (event.Client n name client port))) entries = IsServedAt S before n name client port entries (member_of n before)
IsServed S before _ entries = Unit {0}

abbrev pub ClientsServed : Groups → List Moment → Type 0
ClientsServed S moments = EachEvent (IsServed S) moments
