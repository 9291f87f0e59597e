-- Again: an Order that lacks its Done goes again at each fourth tick of a president that is still a member. What Prepares and Requests are
-- asked for stands in `history`; a monitor's request is sent in the event in which it becomes the oldest of its node.
use Rattle.std.specs.Prelude.{◌≡◌, ℕ, ◌==◌, ◌||◌, not, Bool, true, List, ◌∷◌, Option, Some, None, slice_get}
use Rattle.std.specs.List.{list_all}
use Rattle.std.specs.Option.{option_map, option_and_then}
use Rattle.schedule_text.specs.declared.event.Event.{Event}
use Rattle.schedule_text.specs.declared.event.Event.TheVariants as event
use Rattle.history.specs.Moment.{Moment, event_of}
use Rattle.history.specs.Names as name
use Rattle.history.specs.Order.{EachEvent}
use Rattle.history.specs.Setting.{coordinator}
use Rattle.history.specs.Member.{member_of}
use Rattle.history.specs.Seizing.{is_number}
use Rattle.history.specs.Starts.{start_of, members_in}
use Rattle.history.specs.Contact.{others}
use Rattle.history.specs.Messages.{onto, sends_or_falls, ticks_since, is_fourth, actor_of}
use Rattle.group_history.specs.Setting.{Groups}
use Rattle.group_history.specs.Orders.{is_answered}
use Rattle.group_history.specs.Sending.{last_order}
use Rattle.group_history.specs.Desk.{desk_of}

-- ---- Orders

abbrev pub order_again : ℕ → List Moment → List Moment → ℕ → Option ℕ → Bool
order_again e before entries n None = true
order_again e before entries n (Some k) =
    is_answered e n k before || not (is_fourth (ticks_since (coordinator e) n (name.Order k) before))
    || sends_or_falls (coordinator e) n (name.Order k) entries

abbrev pub orders_again : ℕ → List Moment → List Moment → Bool
orders_again e before entries =
    list_all (λ n. order_again e before entries n (last_order (coordinator e) n before)) (others e (members_in (start_of e before)))

abbrev pub of_president : ℕ → Option ℕ → List Moment → List Moment → Bool
of_president c None before entries = true
of_president c (Some e) before entries = not (coordinator e == c) || orders_again e before entries

abbrev pub OrdersAgain : List Moment → Option Event → List Moment → Type 0
OrdersAgain before (Some (event.Tick n)) entries = of_president n (member_of n before) before entries ≡ true
OrdersAgain before _ entries = Unit {0}

-- ---- Requests: of the one that waits longest, once it does

abbrev pub oldest : Groups → ℕ → List Moment → Option ℕ
oldest S n moments = option_map (λ r. r.number) (slice_get (desk_of S n moments).own 0)

abbrev pub is_sent_on : ℕ → Option ℕ → Option ℕ → Option ℕ → List Moment → Bool
is_sent_on n (Some e) (Some q) old entries =
    (coordinator e == n) || is_number q old || sends_or_falls n (coordinator e) (name.Request q) entries
is_sent_on n _ _ old entries = true

abbrev pub RequestGoes : Groups → List Moment → List Moment → List Moment → Option ℕ → Type 0
RequestGoes S before after entries None = Unit {0}
RequestGoes S before after entries (Some n) = is_sent_on n (member_of n after) (oldest S n after) (oldest S n before) entries ≡ true

pub record GoesAgain (S : Groups) (before : List Moment) (x : Moment) (entries : List Moment) : Type 0 where
  pub orders : OrdersAgain before (event_of x) entries
  pub requests : RequestGoes S before (onto (x ∷ before) entries) entries (option_and_then actor_of (slice_get entries 0))

abbrev pub Again : Groups → List Moment → Type 0
Again S moments = EachEvent (GoesAgain S) moments
