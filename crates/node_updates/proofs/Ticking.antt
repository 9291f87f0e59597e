-- The Prepares that go again at a tick are told by what the node was before it.
use Rattle.std.proofs.Common.{◌≡◌, ℕ, Bool, List, [], Option, Some, None, if◌then◌else◌, refl, ap, sym, ◌∙◌}
use Rattle.proposals.specs.Proposing.{goes_again}
use Rattle.proposals.specs.declared.arrived.Proposed.{Proposed}
use Rattle.request_queue.specs.Queue.{Queue}
use Rattle.wire.specs.declared.message.Body.TheVariants as body
use Rattle.node_model.specs.declared.node.UpNode.{UpNode}
use Rattle.node_model.specs.declared.output.Output.{Output}
use Rattle.node_model.specs.declared.presidency.Presidency.{Presidency}
use Rattle.node_model.specs.declared.seat.Seat.{Seat}
use Rattle.node_model.specs.Presidents.{sent_to}
use Rattle.node_model.specs.Seats.{record_of, state_of}
use Rattle.node_model.specs.Updates.{prepares_again, prepares_again_by, prepares_of}

abbrev sent_by : Seat → Option Proposed → Option (List ℕ) → List Output
sent_by s (Some p) (Some text) = sent_to p.missing (body.Prepare (state_of s).session p.place text)
sent_by s None text = []
sent_by s (Some p) None = []

of_seat : (x : UpNode) (o : Option Proposed) (text : Option (List ℕ)) → prepares_of x o text ≡ sent_by x.seat o text
of_seat x (Some p) (Some text) = refl
of_seat x None (Some text) = refl
of_seat x None None = refl
of_seat x (Some p) None = refl

same_prepares : (x y : UpNode) (o : Option Proposed) → y.seat ≡ x.seat → prepares_of y o (record_of y).entries.pending ≡ prepares_of x o (record_of x).entries.pending
same_prepares x y o same =
    of_seat y o (record_of y).entries.pending ∙ ap (λ s. sent_by s o (state_of s).saved.entries.pending) same ∙ sym (of_seat x o (record_of x).entries.pending)

-- y is the node once its requests and its presidency are a tick older
pub prepares_at_tick : (x : UpNode) (requests : Queue) (after : Option Presidency) (p : Presidency) (due : Bool) (proposed : Option Proposed) (given : List Output) → x.presidency ≡ Some p
    → due ≡ goes_again p.proposals → proposed ≡ p.proposals.proposed
    → (let y : UpNode = record x { requests = requests; presidency = after } in given ≡ (if due then prepares_of y proposed (record_of y).entries.pending else [])) → given ≡ prepares_again x
prepares_at_tick x requests after p due proposed given office again at is =
    let y : UpNode = record x { requests = requests; presidency = after } in
    is ∙ ap (λ b. if b then prepares_of y proposed (record_of y).entries.pending else []) again
    ∙ ap (λ o. if goes_again p.proposals then prepares_of y o (record_of y).entries.pending else []) at
    ∙ ap (λ os. if goes_again p.proposals then os else []) (same_prepares x y p.proposals.proposed refl) ∙ ap (λ o. prepares_again_by x o) (sym office)
