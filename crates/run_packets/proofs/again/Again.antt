-- At its fourth tick the Request that a member awaits the Answer to goes again.
use Rattle.std.specs.Prelude.{ℕ, ◌+◌, ◌≡◌, ◌⊎◌, ◌||◌, nat_le, not, Bool, true, false, IfSome, List, [], ◌∷◌, Option, None, Some, if◌then◌else◌}
use Rattle.std.proofs.Common.{refl, ap, sym, subst, ◌∙◌, inl, inr, arith}
use Rattle.cl_base.specs.declared.method.Outcome as method
use Rattle.cmm_attempt.proofs.Basics.{none_some, same_number}
use Rattle.cmm_member.specs.Nodes.{NodeState}
use Rattle.history.specs.Letters.{is_exchanged}
use Rattle.history.specs.Messages.{asks_again, is_fourth, last_request, onto, sends_or_falls, ticks_since}
use Rattle.history.specs.Moment.{Moment}
use Rattle.history.specs.Names as name
use Rattle.history.specs.Setting.{coordinator}
use Rattle.node_model.specs.Configurations.{configured_at}
use Rattle.node_model.specs.Seats.{coordinator_of, node_numbered, session_of, state_of}
use Rattle.node_model.specs.Steps.{at_second, stepped}
use Rattle.node_model.specs.Ticks.{heartbeats_to, later, ticked_output}
use Rattle.node_model.specs.Updates.{request_again, request_again_by, request_again_to}
use Rattle.node_model.specs.declared.cluster.Cluster.{Cluster}
use Rattle.node_model.specs.declared.input.Input.TheVariants as input
use Rattle.node_model.specs.declared.node.Node.TheVariants.{Up}
use Rattle.node_model.specs.declared.node.UpNode.{UpNode}
use Rattle.node_model.specs.declared.presidency.Presidency.{Presidency}
use Rattle.node_model.specs.declared.seat.Seat.{Seat}
use Rattle.node_model.specs.declared.seat.Seat.TheVariants.{Member}
use Rattle.heartbeats.specs.Views.{receivers_of}
use Rattle.refinement.proofs.Disks.{disks_keep_rules}
use Rattle.refinement.proofs.Replies.{steps_are_cut}
use Rattle.refinement.specs.Courses.{under}
use Rattle.refinement.specs.Doings.{given_all, site}
use Rattle.refinement.specs.Runs.{Nodes}
use Rattle.refinement.specs.Steps.{IsCut, disk_rules}
use Rattle.request_queue.specs.Queue.{goes_again, is_due, oldest, oldest_in}
use Rattle.request_queue.specs.declared.request.Request.{Request}
use Rattle.run_history.specs.Happenings.{given_by}
use Rattle.run_history.specs.Scenes.{Scene}
use Rattle.run_packets.proofs.repeats.Courses.{tick_rest}
use Rattle.run_packets.proofs.repeats.Leading.{behind_first, behind_later}
use Rattle.run_packets.proofs.repeats.Ticking.{with_tick}
use Rattle.run_packets.specs.prepares.Events.{IsLeftAfter}
use Rattle.run_packets.specs.prepares.Proposals.{IsBehind}
use Rattle.run_packets.specs.repeats.Events.{Comes}
use Rattle.wire.specs.declared.message.Body.{Body}
use Rattle.wire.specs.declared.message.Body.TheVariants as body
use Rattle.run_packets.specs.again.Ages.{HasAnswer, IsAnswered, IsAwaited, NodeIn, SeatIn, current}
use Rattle.run_packets.proofs.again.Scenes.{Held}

-- ---- tests

or_first : (a b d : Bool) → a ≡ true → (a || b || d) ≡ true
or_first true b d h = refl
or_first false b d h = cc

or_second : (a b d : Bool) → b ≡ true → (a || b || d) ≡ true
or_second true b d h = refl
or_second false true d h = refl
or_second false false d h = cc

or_third : (a b d : Bool) → d ≡ true → (a || b || d) ≡ true
or_third true b d h = refl
or_third false true d h = refl
or_third false false d h = h

due_at : (rs : List Request) (age : ℕ) (r : Request) → oldest_in rs ≡ Some r → age ≡ 3 → is_due rs age ≡ true
due_at [] age r is three = absurd (none_some r is)
due_at (first ∷ rs) age r is three = due_at_three age three
  where
    due_at_three : (k : ℕ) → k ≡ 3 → nat_le 4 (k + 1) ≡ true
    due_at_three k h = grind (arith, h)

-- ---- what a tick sends

-- a Request that is due is among what the node gives
again_behind : (c : Cluster) (n to : ℕ) (x : UpNode) (r : Request) → x.presidency ≡ None → goes_again x.requests ≡ true → oldest x.requests ≡ Some r → coordinator_of x ≡ Some to
    → IsBehind n to (body.Request (session_of x) r.number r.text) (request_again x)
again_behind c n to x r none due first leads =
    let b : Body = body.Request (session_of x) r.number r.text in
    subst (λ (o : Option Presidency). IsBehind n to b (request_again_by x o)) (sym none)
    (subst (λ (z : Bool). IsBehind n to b (if z then request_again_to x (oldest x.requests) (coordinator_of x) else [])) (sym due)
    (subst (λ o. IsBehind n to b (request_again_to x o (coordinator_of x))) (sym first) (subst (λ o. IsBehind n to b (request_again_to x (Some r) o)) (sym leads) (inl (refl, refl)))))

tick_behind : (c : Cluster) (v : Nodes) (n to now : ℕ) (ends : method.Outcome) (x : UpNode) (r : Request) → v.node n ≡ Up x → x.presidency ≡ None → goes_again x.requests ≡ true → oldest x.requests ≡ Some r
    → coordinator_of x ≡ Some to → IsBehind n to (body.Request (session_of x) r.number r.text) (given_by c n now ends input.Tick v)
tick_behind c v n to now ends x r at none due first leads =
    let b : Body = body.Request (session_of x) r.number r.text in
    let y : UpNode = at_second now x in
    let z : UpNode = later c y in
    let cut : IsCut disk_rules c n now ends (Up x) (v.disk n) input.Tick [] (stepped disk_rules c n now ends (Up x) (v.disk n) input.Tick) = steps_are_cut disk_rules disks_keep_rules c n now ends (Up x) (v.disk n) input.Tick in
    subst (λ node. IsBehind n to b (stepped disk_rules c n now ends node (v.disk n) input.Tick).given) (sym at)
    (subst (IsBehind n to b) cut.comes.given
    (behind_first n to b (with_tick n (ticked_output c y z)) (given_all c n (site (Up z) (v.disk n).kept) (under cut.replies (tick_rest c n ends y)))
    (inr (behind_later n to b (heartbeats_to z (receivers_of z.beats (configured_at c z))) (request_again y) (again_behind c n to y r none due first leads)))))

-- ---- a tick of a member

pub member_again : (cells : ℕ) (c : Cluster) (s u : Scene) (x : Moment) (n : ℕ) (y : UpNode) (t : NodeState) (later : List Moment) → u.moments ≡ x ∷ s.moments → u.nodes ≡ s.nodes → s.nodes.node n ≡ Up y → y.seat ≡ Member t
    → Held s → Comes cells c u n input.Tick later → IsLeftAfter cells (onto (x ∷ s.moments) later)
    → asks_again n (coordinator t.session) (last_request n (current n s.moments)) (current n s.moments) later ≡ true
member_again cells c s u x n y t later adds same at sits held comes left = by_case here
  where
    here : SeatIn n (current n s.moments) y.requests y.presidency (Member t)
    here = subst (SeatIn n (current n s.moments) y.requests y.presidency) sits (subst (NodeIn n s.moments) at (held n))

    by_last : (o : Option ℕ) → IfSome o (HasAnswer n t.session (current n s.moments)) → asks_again n (coordinator t.session) o (current n s.moments) later ≡ true
    by_last None h = refl
    by_last (Some q) h =
        or_second (not (is_fourth (ticks_since n (coordinator t.session) (name.Request q) (current n s.moments)))) (is_exchanged (name.Request q) (name.Answer q) n (coordinator t.session) (current n s.moments))
        (sends_or_falls n (coordinator t.session) (name.Request q) later) h

    sends_it : (h : IsAwaited n t.session (current n s.moments) y.requests y.presidency) → y.requests.age ≡ 3 → sends_or_falls n (coordinator t.session) (name.Request h.request.number) later ≡ true
    sends_it h three =
        let r : Request = h.request in
        let session : session_of y ≡ t.session = ap (λ (z : Seat). (state_of z).session) sits in
        let leads : coordinator_of y ≡ Some (coordinator t.session) = subst (λ e. node_numbered (coordinator e) ≡ Some (coordinator t.session)) (sym session) h.leads in
        comes.are_sent (coordinator t.session) (body.Request t.session r.number r.text)
        (subst (λ e. IsBehind n (coordinator t.session) (body.Request e r.number r.text) (given_by c n comes.now comes.ends input.Tick u.nodes)) session
        (tick_behind c u.nodes n (coordinator t.session) comes.now comes.ends y r (ap (λ (v : Nodes). v.node n) same ∙ at) h.none (due_at y.requests.waiting y.requests.age r h.first three) h.first leads)) h.short
        (subst (λ before. IsLeftAfter cells (onto before later)) (sym adds) left)

    awaited : (h : IsAwaited n t.session (current n s.moments) y.requests y.presidency) → (b : Bool) → is_fourth (Some y.requests.age) ≡ b
        → asks_again n (coordinator t.session) (Some h.request.number) (current n s.moments) later ≡ true
    awaited h false is =
        or_first (not (is_fourth (ticks_since n (coordinator t.session) (name.Request h.request.number) (current n s.moments)))) (is_exchanged (name.Request h.request.number) (name.Answer h.request.number) n (coordinator t.session) (current n s.moments))
        (sends_or_falls n (coordinator t.session) (name.Request h.request.number) later) (ap not (ap is_fourth h.aged ∙ is))
    awaited h true is =
        or_third (not (is_fourth (ticks_since n (coordinator t.session) (name.Request h.request.number) (current n s.moments)))) (is_exchanged (name.Request h.request.number) (name.Answer h.request.number) n (coordinator t.session) (current n s.moments))
        (sends_or_falls n (coordinator t.session) (name.Request h.request.number) later) (sends_it h (same_number y.requests.age 3 is))

    by_case : IsAnswered n t.session (current n s.moments) ⊎ IsAwaited n t.session (current n s.moments) y.requests y.presidency
        → asks_again n (coordinator t.session) (last_request n (current n s.moments)) (current n s.moments) later ≡ true
    by_case (inl h) = by_last (last_request n (current n s.moments)) h
    by_case (inr h) = subst (λ o. asks_again n (coordinator t.session) o (current n s.moments) later ≡ true) (sym h.last) (awaited h (is_fourth (Some y.requests.age)) refl)
