-- Sending: the president gives a member one order at a time, under a new number each, and an Order that goes again is the same.
use Rattle.std.specs.Prelude.{◌≡◌, ℕ, ◌==◌, ◌&&◌, max, nat_lt, Bool, true, false, if◌then◌else◌, List, [], ◌∷◌, Option, Some, None}
use Rattle.std.specs.List.{list_all}
use Rattle.history.specs.Moment.{Moment}
use Rattle.history.specs.Names as name
use Rattle.history.specs.Names.{Name, named}
use Rattle.history.specs.Trace.{sent}
use Rattle.history.specs.Order.{Always}
use Rattle.history.specs.Setting.{coordinator}
use Rattle.history.specs.Letters.{says}
use Rattle.history.specs.Member.{member_of}
use Rattle.history.specs.Seizing.{is_number}
use Rattle.history.specs.Starts.{start_of, members_in}
use Rattle.history.specs.Contact.{others}
use Rattle.group_history.specs.Doings.{is_joining}
use Rattle.group_history.specs.Orders.{order_in, order_sent, is_answered}

abbrev pub order_number : Name → Option ℕ
order_number (name.Order k) = Some k
order_number _ = None

abbrev pub or_later : Option ℕ → Option ℕ → Option ℕ
or_later None found = found
or_later (Some k) found = Some k

-- the number of the last Order that c has sent to n since it became a member
abbrev pub last_order : ℕ → ℕ → List Moment → Option ℕ
last_order c n [] = None
last_order c n (sent p a b called bytes ∷ before) =
    if (a == c) && (b == n) then or_later (order_number (named called)) (last_order c n before) else last_order c n before
last_order c n (x ∷ before) = if is_joining c x then None else last_order c n before

abbrev pub is_over : ℕ → ℕ → List Moment → Option ℕ → Bool
is_over e n before None = true
is_over e n before (Some k) = is_answered e n k before

-- no Order to n lacks its Done
abbrev pub is_free : ℕ → List Moment → ℕ → Bool
is_free e before n = is_over e n before (last_order (coordinator e) n before)

-- no Order to any member lacks its Done
abbrev pub all_free : ℕ → List Moment → Bool
all_free e before = list_all (is_free e before) (others e (members_in (start_of e before)))

-- the greatest number of an Order that c has sent since it became a member
abbrev pub or_zero : Option ℕ → ℕ
or_zero None = 0
or_zero (Some k) = k

abbrev pub greatest_order : ℕ → List Moment → ℕ
greatest_order c [] = 0
greatest_order c (sent p a b called bytes ∷ before) =
    if a == c then max (or_zero (order_number (named called))) (greatest_order c before) else greatest_order c before
greatest_order c (x ∷ before) = if is_joining c x then 0 else greatest_order c before

-- An Order to n that is not the last one again is the first of its number, and n is free.
abbrev pub IsGiven : ℕ → ℕ → ℕ → List ℕ → List Moment → Bool → Type 0
IsGiven e n k bytes before true = order_in (says bytes) ≡ order_sent e n k before
IsGiven e n k bytes before false = (is_free e before n ≡ true) × (nat_lt (greatest_order (coordinator e) before) k ≡ true)

abbrev pub IsGivenBy : Option ℕ → ℕ → ℕ → ℕ → List ℕ → List Moment → Type 0
IsGivenBy None c n k bytes before = ⊥
IsGivenBy (Some e) c n k bytes before = (c ≡ coordinator e) × IsGiven e n k bytes before (is_number k (last_order c n before))

abbrev pub GivesOrder : List Moment → ℕ → ℕ → List ℕ → Name → Type 0
GivesOrder before c n bytes (name.Order k) = IsGivenBy (member_of c before) c n k bytes before
GivesOrder before c n bytes _ = Unit {0}

abbrev pub IsSending : List Moment → Moment → Type 0
IsSending before (sent p c n called bytes) = GivesOrder before c n bytes (named called)
IsSending before _ = Unit {0}

abbrev pub OrdersInTurn : List Moment → Type 0
OrdersInTurn moments = Always IsSending moments
