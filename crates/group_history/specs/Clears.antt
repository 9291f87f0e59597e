-- Clears: where an order to clear a resource's stop-failed mark is carried out. It writes no line of its own.
use Rattle.std.specs.Prelude.{ℕ, ◌==◌, ◌&&◌, not, Bool, if◌then◌else◌, List, [], ◌∷◌, Option, Some, None, option_map, codes}
use Rattle.std.specs.List.{list_any}
use Rattle.std.specs.Option.{option_and_then}
use Rattle.cl_base.specs.declared.command.Ask.TheVariants.{Clear}
use Rattle.cl_base.specs.declared.method.Method.{Method}
use Rattle.ccr_tables.specs.declared.command.AdminCommand.{AdminCommand}
use Rattle.ccr_tables.specs.declared.command.AdminCommand.TheVariants.{Act}
use Rattle.wire.specs.declared.message.Order.{Order}
use Rattle.status_report.specs.declared.command_entry.Answer.TheVariants as answer
use Rattle.history.specs.Moment.{Moment}
use Rattle.history.specs.Names as name
use Rattle.history.specs.Names.{Name, named}
use Rattle.history.specs.Trace.{up, ticked, sent, delivered, answered}
use Rattle.history.specs.Order.{since}
use Rattle.history.specs.Setting.{coordinator}
use Rattle.history.specs.Letters.{Letter, letter_of, sends, reached_since, is_letter, says, text_in}
use Rattle.history.specs.Member.{member_of}
use Rattle.history.specs.Seizing.{or_else, is_start}
use Rattle.history.specs.Requests.{command_of, are_words}
use Rattle.group_history.specs.Setting.{Groups}
use Rattle.group_history.specs.Doings.{is_joining}
use Rattle.group_history.specs.Orders.{from_president, order_of_letter, is_sent_in}

-- ---- on a member other than the president: with the first Order of its number

-- the Order of number k of e has come to n
abbrev pub has_come : ℕ → ℕ → ℕ → List Moment → Bool
has_come e n k before = reached_since (is_start e) (λ l. is_letter (name.Order k) (coordinator e) n l && is_sent_in e l) before

abbrev pub clears : Order → Option Method → Option Order
clears o None = Some o
clears o (Some method) = None

abbrev pub is_new_clear : ℕ → ℕ → List Moment → Option Order → Option Order
is_new_clear e n before None = None
is_new_clear e n before (Some o) = if has_come e n o.number before then None else clears o o.method

abbrev pub clear_in : ℕ → ℕ → List Moment → Option Letter → Option Order
clear_in e n before letter = is_new_clear e n before (option_and_then (λ l. option_and_then order_of_letter (from_president e n l)) letter)

abbrev pub clear_as : Option ℕ → ℕ → List Moment → Option Letter → Option Order
clear_as None n before letter = None
clear_as (Some e) n before letter = clear_in e n before letter

-- the clear that n carries out as this moment comes
abbrev pub clear_at : ℕ → List Moment → Moment → Option Order
clear_at n before (delivered p c m) = if m == n then clear_as (member_of n before) n before (letter_of p before) else None
clear_at n before _ = None

-- ---- on the president: at its tick after it has answered the command, since an order to itself is no message

-- the resource of a `clear R N` command, where N is n
abbrev pub clears_on : ℕ → Option AdminCommand → Option (List ℕ)
clears_on n (Some (Act (Clear r m))) = if m == n then Some r else None
clears_on n _ = None

-- the resource to be cleared on c by the command that m asked by this number
abbrev pub asked_clear : Groups → ℕ → ℕ → ℕ → List Moment → Option (List ℕ)
asked_clear S c m q before = clears_on c (option_and_then S.command (command_of S.cluster m q before))

-- c sends m its first answer of this number, and it is `ok`
abbrev pub accepts : ℕ → ℕ → ℕ → List ℕ → List Moment → Bool
accepts c m q bytes before = are_words (codes "ok") (text_in (says bytes)) && not (list_any (sends c m (name.Answer q)) (since (is_joining c) before))

abbrev pub clear_accepted : Groups → ℕ → ℕ → Name → List ℕ → List Moment → Option (List ℕ)
clear_accepted S c m (name.Answer q) bytes before = if accepts c m q bytes before then asked_clear S c m q before else None
clear_accepted S c m _ bytes before = None

-- the resource whose mark c is to clear on itself at its next tick
abbrev pub own_clear : Groups → ℕ → List Moment → Option (List ℕ)
own_clear S c [] = None
own_clear S c (up m ∷ before) = if m == c then None else own_clear S c before
own_clear S c (ticked m ∷ before) = if m == c then None else own_clear S c before
own_clear S c (answered m q answer.Ok ∷ before) = if m == c then or_else (asked_clear S c c q before) (own_clear S c before) else own_clear S c before
own_clear S c (sent p a m called bytes ∷ before) =
    if a == c then or_else (clear_accepted S c m (named called) bytes before) (own_clear S c before) else own_clear S c before
own_clear S c (_ ∷ before) = own_clear S c before

-- the resource whose mark is cleared on n as this moment comes
abbrev pub cleared_at : Groups → ℕ → List Moment → Moment → Option (List ℕ)
cleared_at S n before (ticked m) = if m == n then own_clear S n before else None
cleared_at S n before x = option_map (λ o. o.resource) (clear_at n before x)
