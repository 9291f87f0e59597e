-- The first request is answered: what that leaves, and what is told.
use Rattle.std.proofs.Common.{◌≡◌, ℕ, ◌==◌, Bool, true, false, if◌then◌else◌, List, ◌++◌, Option, None, Some, Ok, refl, ap, subst, sym}
use Rattle.std.proofs.lemmas.List.{append-nil}
use Rattle.proposals.specs.Arrivals as arrivals
use Rattle.proposals.specs.State.{State, first_in}
use Rattle.proposals.specs.declared.arrived.Arrived.{Arrived}
use Rattle.request_queue.specs.Queue as queue
use Rattle.request_queue.specs.Queue.{Queue, oldest}
use Rattle.status_report.specs.CommandLines.{reply_text}
use Rattle.status_report.specs.declared.command_entry.Answer.{Answer}
use Rattle.node_model.specs.declared.node.UpNode.{UpNode}
use Rattle.node_model.specs.declared.output.Output.{Output}
use Rattle.node_model.specs.declared.presidency.Presidency.{Presidency}
use Rattle.node_model.specs.Plans.{Gives}
use Rattle.node_model.specs.Presidents.{answered_by, own_answered, with_own, with_proposals}
use Rattle.node_model.specs.Seats.{session_of}
use Rattle.node_presidents.specs.Presidents.{answer_lines, giving_at, giving_by, proposals_after, requests_after}

-- the node, with these requests
abbrev pub left_so : UpNode → Presidency → Queue → State → UpNode
left_so x p q s = record x { requests = q; presidency = Some (record p { proposals = s }) }

left_is : (me : ℕ) (x : UpNode) (p : Presidency) (told : Answer) (a : Arrived)
    → left_so x p (requests_after me x.requests (Some a)) (proposals_after me x.requests p.proposals told (Some a)) ≡ answered_by me x p a told
left_is me x p told a = by_test (a.from == me)
  where
    now : State
    now = arrivals.answered p.proposals (reply_text told)

    mine : Queue
    mine = queue.answered x.requests a.number

    by_test : (b : Bool) → left_so x p (if b then mine else x.requests) (if b then with_own me now (oldest mine) else now) ≡ (if b then own_answered me x p now mine else with_proposals x p now)
    by_test true = refl
    by_test false = refl

given_at : (me : ℕ) (x : UpNode) (p : Presidency) (told : Answer) (first : Option Arrived) (given : List Output)
    → x.presidency ≡ Some p
    → Gives (giving_at me x p told first) given (Ok (left_so x p (requests_after me x.requests first) (proposals_after me x.requests p.proposals told first))) (given ++ answer_lines me (session_of x) x.requests told first)
given_at me x p told None given is = (ap (λ found. record x { presidency = found }) (sym is), append-nil given)
given_at me x p told (Some a) given is = (left_is me x p told a, refl)

pub first_given : (me : ℕ) (x : UpNode) (p r : Presidency) (told : Answer) (q : Queue) (given after : List Output)
    → x.presidency ≡ Some p → q ≡ requests_after me x.requests (first_in p.proposals.arrived)
    → r ≡ record p { proposals = proposals_after me x.requests p.proposals told (first_in p.proposals.arrived) }
    → after ≡ given ++ answer_lines me (session_of x) x.requests told (first_in p.proposals.arrived)
    → Gives (giving_by me x told x.presidency) given (Ok (record x { requests = q; presidency = Some r })) after
first_given me x p r told q given after is here come lines =
    let first = first_in p.proposals.arrived in
    let whole : Gives (giving_at me x p told first) given (Ok (left_so x p (requests_after me x.requests first) (proposals_after me x.requests p.proposals told first))) (given ++ answer_lines me (session_of x) x.requests told first)
    = given_at me x p told first given is in
    subst (λ found. Gives (giving_by me x told found) given (Ok (record x { requests = q; presidency = Some r })) after) (sym is)
    (subst (λ (k : Presidency). Gives (giving_at me x p told first) given (Ok (record x { requests = q; presidency = Some k })) after) (sym come)
    (subst (λ (k : Queue). Gives (giving_at me x p told first) given (Ok (left_so x p k (proposals_after me x.requests p.proposals told first))) after) (sym here)
    (subst (λ os. Gives (giving_at me x p told first) given (Ok (left_so x p (requests_after me x.requests first) (proposals_after me x.requests p.proposals told first))) os) (sym lines) whole)))
