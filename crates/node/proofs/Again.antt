-- What goes at a tick: heartbeats, and again a request that is not answered.
use Rattle.std.proofs.Common.{◌≡◌, ℕ, List, [], ◌∷◌, ◌++◌, Option, Some, None, if◌then◌else◌, refl, ap, sym, ◌∙◌, append_assoc}
use Rattle.cl_base.specs.declared.header.Version.{Version}
use Rattle.cl_base.specs.declared.header.Version.TheVariants.{One, Two}
use Rattle.heartbeats.specs.State.{State}
use Rattle.heartbeats.specs.Views.{receivers_of, ticked}
use Rattle.proposals.specs.Proposing.{goes_again}
use Rattle.proposals.specs.declared.arrived.Proposed.{Proposed}
use Rattle.request_queue.specs.Queue as queue
use Rattle.request_queue.specs.Queue.{oldest}
use Rattle.request_queue.specs.declared.request.Request.{Request}
use Rattle.status_report.specs.declared.entry.Entry.TheVariants as trace
use Rattle.status_report.specs.declared.node_entry.NodeEntry.TheVariants as note
use Rattle.node_model.specs.declared.cluster.Cluster.{Cluster}
use Rattle.node_model.specs.declared.node.UpNode.{UpNode}
use Rattle.node_model.specs.declared.output.Output.{Output}
use Rattle.node_model.specs.declared.output.Output.TheVariants.{Tells}
use Rattle.node_model.specs.declared.presidency.Presidency.{Presidency}
use Rattle.node_model.specs.Configurations.{configured_at, configured_by}
use Rattle.node_model.specs.Seats.{coordinator_of, record_of, version_of}
use Rattle.node_model.specs.Ticks.{heartbeats_to, later, ticked_output}
use Rattle.node_model.specs.Updates.{prepares_again, prepares_again_by, prepares_of, request_again, request_again_by, request_again_to}

abbrev pub beating : UpNode → State → UpNode
beating x beats = record x { beats = beats }

-- heartbeats tell nothing of what waits
same_beats : (c : Cluster) (x : UpNode) (set : ℕ) → heartbeats_to (beating x (ticked x.beats (configured_at c x))) set ≡ heartbeats_to (later c x) set
unfolding heartbeats_to
same_beats c x set = refl

-- a tick leaves the committed updates, and so who is configured
configured_by_later : (v : Version) (c : Cluster) (x : UpNode) → configured_by v c (later c x) ≡ configured_by v c x
configured_by_later One c x = refl
configured_by_later Two c x = refl

pub configured_later : (c : Cluster) (x : UpNode) → configured_at c (later c x) ≡ configured_at c x
configured_later c x = configured_by_later (version_of c) c x

same_request : (x : UpNode) (beats : State) (first : Option Request) (president : Option ℕ) → request_again_to (beating x beats) first president ≡ request_again_to x first president
same_request x beats (Some r) (Some president) = refl
same_request x beats None (Some president) = refl
same_request x beats None None = refl
same_request x beats (Some r) None = refl

same_requests : (x : UpNode) (beats : State) (office : Option Presidency) → request_again_by (beating x beats) office ≡ request_again_by x office
same_requests x beats None = ap (λ os. if queue.goes_again x.requests then os else []) (same_request x beats (oldest x.requests) (coordinator_of x))
same_requests x beats (Some p) = refl

same_prepares_of : (x : UpNode) (beats : State) (proposed : Option Proposed) (text : Option (List ℕ)) → prepares_of (beating x beats) proposed text ≡ prepares_of x proposed text
same_prepares_of x beats (Some p) (Some text) = refl
same_prepares_of x beats None (Some text) = refl
same_prepares_of x beats None None = refl
same_prepares_of x beats (Some p) None = refl

same_prepares_by : (x : UpNode) (beats : State) (office : Option Presidency) → prepares_again_by (beating x beats) office ≡ prepares_again_by x office
same_prepares_by x beats None = refl
same_prepares_by x beats (Some p) = ap (λ os. if goes_again p.proposals then os else []) (same_prepares_of x beats p.proposals.proposed (record_of x).entries.pending)

pub same_prepares : (x : UpNode) (beats : State) → prepares_again (beating x beats) ≡ prepares_again x
same_prepares x beats = same_prepares_by x beats x.presidency

pub told_at_tick : (c : Cluster) (me : ℕ) (x : UpNode) (set : ℕ) (beats : State) (given first second third : List Output) → set ≡ configured_at c x → beats ≡ ticked x.beats set
    → first ≡ given ++ Tells (trace.Node me note.Ticked) ∷ [] → second ≡ first ++ heartbeats_to (record x { beats = beats }) (receivers_of beats set)
    → third ≡ second ++ request_again (record x { beats = beats })
    → third ≡ (given ++ Tells (trace.Node me note.Ticked) ∷ []) ++ ticked_output c x (later c x)
told_at_tick c me x set beats given first second third configured is said beat again =
    let now : ℕ = configured_at c x in
    let later_beats : State = ticked x.beats now in
    let beats_now : beats ≡ later_beats = is ∙ ap (λ s. ticked x.beats s) configured in
    let head : List Output = given ++ Tells (trace.Node me note.Ticked) ∷ [] in
    let sent : second ≡ head ++ heartbeats_to (later c x) (receivers_of later_beats (configured_at c (later c x))) =
    beat ∙ ap (λ b. first ++ heartbeats_to (beating x b) (receivers_of b set)) beats_now
    ∙ ap (λ s. first ++ heartbeats_to (beating x later_beats) (receivers_of later_beats s)) (configured ∙ sym (configured_later c x))
    ∙ ap (λ os. os ++ heartbeats_to (beating x later_beats) (receivers_of later_beats (configured_at c (later c x)))) said
    ∙ ap (λ os. head ++ os) (same_beats c x (receivers_of later_beats (configured_at c (later c x)))) in
    let requests : request_again (beating x beats) ≡ request_again x = same_requests x beats x.presidency in
    let hearts : List Output = heartbeats_to (later c x) (receivers_of later_beats (configured_at c (later c x))) in
    again ∙ ap (λ os. second ++ os) requests ∙ ap (λ os. os ++ request_again x) sent ∙ append_assoc head hearts (request_again x)
