-- When an answer may still be missing: after each event the first request that has come to a president waits for a cause that is there.
use Rattle.std.specs.Prelude.{◌≡◌, ℕ, ◌==◌, ◌&&◌, ◌||◌, not, Bool, true, false, List, ◌∷◌, Option, Some, None, slice_get}
use Rattle.std.specs.List.{list_any}
use Rattle.std.specs.Option.{option_and_then}
use Rattle.ccr_tables.specs.declared.command.AdminCommand.{AdminCommand}
use Rattle.ccr_tables.specs.declared.command.AdminCommand.TheVariants.{Change, Act}
use Rattle.cl_base.specs.declared.command.Ask.TheVariants.{Clear}
use Rattle.history.specs.Moment.{Moment}
use Rattle.history.specs.Names as name
use Rattle.history.specs.Order.{EachEvent, since}
use Rattle.history.specs.Setting.{coordinator}
use Rattle.history.specs.Letters.{is_exchanged}
use Rattle.history.specs.Member.{member_of}
use Rattle.history.specs.Starts.{start_of, members_in}
use Rattle.history.specs.Contact.{others, is_proposal}
use Rattle.history.specs.Messages.{onto, actor_of, pending_place}
use Rattle.group_history.specs.Setting.{Groups}
use Rattle.group_history.specs.Desk.{Request, desk_of}
use Rattle.group_history.specs.Quiet.{has_no_own}
use Rattle.group_history.specs.Sending.{all_free}

-- a member has not prepared what is proposed
abbrev pub lacks_prepared : ℕ → ℕ → List Moment → Bool
lacks_prepared e v moments =
    list_any (λ m. not (is_exchanged (name.Prepare v) (name.Prepared v) (coordinator e) m (since (is_proposal e v) moments))) (others e (members_in (start_of e moments)))

-- an update or a clear waits for the orders before it
abbrev pub wants_no_order : Option AdminCommand → Bool
wants_no_order (Some (Change u)) = true
wants_no_order (Some (Act (Clear r n))) = true
wants_no_order _ = false

abbrev pub may_wait : Groups → ℕ → List Moment → Option ℕ → Request → Bool
may_wait S e moments (Some v) r = lacks_prepared e v moments
may_wait S e moments None r = wants_no_order (S.command r.words) && (not (all_free e moments) || not (has_no_own S e moments))

abbrev pub first_may_wait : Groups → ℕ → List Moment → Option Request → Bool
first_may_wait S e moments None = true
first_may_wait S e moments (Some r) = may_wait S e moments (pending_place e moments) r

abbrev pub waits_at : Groups → ℕ → List Moment → Option ℕ → Bool
waits_at S n moments None = true
waits_at S n moments (Some e) = not (coordinator e == n) || first_may_wait S e moments (slice_get (desk_of S n moments).come 0)

abbrev pub waits_on : Groups → List Moment → Option ℕ → Bool
waits_on S moments None = true
waits_on S moments (Some n) = waits_at S n moments (member_of n moments)

-- of the node whose doing the event is
abbrev pub IsWaiting : Groups → List Moment → Moment → List Moment → Type 0
IsWaiting S before x entries = waits_on S (onto (x ∷ before) entries) (option_and_then actor_of (slice_get entries 0)) ≡ true

abbrev pub AnswersCome : Groups → List Moment → Type 0
AnswersCome S moments = EachEvent (IsWaiting S) moments
