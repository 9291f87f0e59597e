-- A tick of a member: its last Request is a tick older, or goes again.
use Rattle.std.specs.Prelude.{ℕ, ◌+◌, ◌≡◌, ◌⊎◌, ◌^◌, nat_le, Bool, true, false, IfSome, List, [], ◌∷◌, Option, None, Some, if◌then◌else◌}
use Rattle.std.proofs.Common.{refl, ap, sym, subst, ◌∙◌, inl, inr}
use Rattle.cl_base.specs.Limits.{most_nodes}
use Rattle.cl_base.specs.Numbers.{numbers_to}
use Rattle.cmm_attempt.proofs.Basics.{false_true, none_some, same_some}
use Rattle.cmm_member.specs.Nodes.{NodeState}
use Rattle.heartbeats.specs.Views.{receivers_of}
use Rattle.history.specs.Messages.{last_request, one_more, ticks_since}
use Rattle.history.specs.Moment.{Moment, Told}
use Rattle.history.specs.Names as name
use Rattle.history.specs.Setting.{coordinator}
use Rattle.node_model.specs.Configurations.{configured_at}
use Rattle.node_model.specs.Seats.{coordinator_of, node_numbered, session_of, state_of}
use Rattle.node_model.specs.Ticks.{heartbeat_of, heartbeats_to, later, ticked_output}
use Rattle.node_model.specs.Updates.{later_presidency, request_again, request_again_by, request_again_to}
use Rattle.node_model.specs.declared.cluster.Cluster.{Cluster}
use Rattle.node_model.specs.declared.node.UpNode.{UpNode}
use Rattle.node_model.specs.declared.output.Output.{Output}
use Rattle.node_model.specs.declared.output.Output.TheVariants.{Sends}
use Rattle.node_model.specs.declared.presidency.Presidency.{Presidency}
use Rattle.node_model.specs.declared.seat.Seat.{Seat}
use Rattle.node_model.specs.declared.seat.Seat.TheVariants.{Forming, Member}
use Rattle.request_queue.specs.Queue.{age_after, goes_again, is_due, oldest, oldest_in, ticked}
use Rattle.request_queue.specs.declared.request.Request.{Request}
use Rattle.run_history.proofs.Idle.{if_false, if_true, passing_append}
use Rattle.run_history.proofs.Lists.{mapped}
use Rattle.run_history.specs.Scenes.{Scene, passing, posting, telling}
use Rattle.run_packets.proofs.repeats.Ticking.{with_tick}
use Rattle.run_packets.proofs.prepares.Numbers.{left_before, passing_next}
use Rattle.run_packets.specs.prepares.Events.{IsLeft}
use Rattle.run_packets.specs.prepares.Proposals.{IsShort}
use Rattle.status_report.specs.declared.entry.Entry.TheVariants as entry
use Rattle.status_report.specs.declared.node_entry.NodeEntry.TheVariants as note
use Rattle.wire.specs.declared.message.Body.TheVariants as body
use Rattle.run_packets.specs.again.Ages.{HasAnswer, IsAnswered, IsAwaited, SeatIn, current}
use Rattle.run_packets.proofs.again.Lines.{AreEven, Asked, EvenOut, Leaves, Older, older_then, passing_leaves, posting_asks, posting_either, tick_older}
use Rattle.run_packets.proofs.again.Seats.{answered_leaves, numbered_is}

-- ---- ages

due_zero : (rs : List Request) (age : ℕ) → is_due rs age ≡ true → age_after rs age ≡ 0
due_zero [] age due = refl
due_zero (r ∷ rs) age due = if_true (nat_le 4 (age + 1)) 0 (age + 1) due

later_one : (rs : List Request) (age : ℕ) (r : Request) → oldest_in rs ≡ Some r → is_due rs age ≡ false → age_after rs age ≡ age + 1
later_one [] age r is due = absurd (none_some r is)
later_one (first ∷ rs) age r is due = if_false (nat_le 4 (age + 1)) 0 (age + 1) due

beats_even : (n receivers : ℕ) (x : UpNode) → AreEven n n (heartbeats_to x receivers)
unfolding heartbeats_to
beats_even n receivers x = mapped (EvenOut n n) (λ k. Sends k (heartbeat_of x)) (numbers_to receivers most_nodes) (λ k own. tt)

later_none : (o : Option Presidency) → o ≡ None → later_presidency o ≡ None
later_none None is = refl
later_none (Some p) is = absurd (none_some p (sym is))

-- ---- what is known before the tick, and then of the lines behind the tick and the heartbeats

module _ (n : ℕ) (x : UpNode) (before : List Moment) (u : Scene) (o : Older n before u.moments) where
  answered_older : (e : ℕ) → IsAnswered n e (current n before) → IsAnswered n e (current n u.moments)
  answered_older e h = subst (λ z. IfSome z (HasAnswer n e (current n u.moments))) (sym o.last) (by_last (last_request n (current n before)) h)
    where
      by_last : (z : Option ℕ) → IfSome z (HasAnswer n e (current n before)) → IfSome z (HasAnswer n e (current n u.moments))
      by_last None k = k
      by_last (Some q) k = o.more (coordinator e) q k

  -- no Request goes again
  abbrev Still : Seat → Type 0
  Still seat = SeatIn n (current n u.moments) (ticked x.requests) (later_presidency x.presidency) seat

  awaited_older : (t : NodeState) → goes_again x.requests ≡ false → IsAwaited n t.session (current n before) x.requests x.presidency → Still (Member t)
  awaited_older t due h = inr (record {
    request = h.request;
    first = h.first;
    none = later_none x.presidency h.none;
    leads = h.leads;
    last = o.last ∙ h.last;
    aged = o.ticks (coordinator t.session) h.request.number
        ∙ (ap one_more h.aged ∙ ap (λ k. Some k) (sym (later_one x.requests.waiting x.requests.age h.request h.first due)));
    short = h.short;
  })

  still_so : (seat : Seat) → (x.presidency ≡ None → goes_again x.requests ≡ false) → SeatIn n (current n before) x.requests x.presidency seat → Still seat
  still_so (Forming t) none h = tt
  still_so (Member t) none (inl h) = inl (answered_older t.session h)
  still_so (Member t) none (inr h) = awaited_older t (none h.none) h

  -- the oldest goes again
  abbrev Sent : Request → ℕ → List Moment
  Sent r to = (posting n to (record { sender = n; body = body.Request (session_of x) r.number r.text }) u).moments

  abbrev Then : Request → ℕ → Seat → Type 0
  Then r to seat = SeatIn n (current n (Sent r to)) (ticked x.requests) (later_presidency x.presidency) seat

  asked_again : (t : NodeState) (r : Request) (to : ℕ) → x.seat ≡ Member t → x.presidency ≡ None → goes_again x.requests ≡ true → oldest x.requests ≡ Some r → coordinator_of x ≡ Some to
      → IsShort n (body.Request (session_of x) r.number r.text) → Asked n to r.number (Sent r to) → Then r to (Member t)
  asked_again t r to sits none due first leads short asked =
      let same : session_of x ≡ t.session = ap (λ (z : Seat). (state_of z).session) sits in
      let leader : node_numbered (coordinator t.session) ≡ Some to = subst (λ e. node_numbered (coordinator e) ≡ Some to) same leads in
      let is : to ≡ coordinator t.session = numbered_is (coordinator t.session) to leader in
      inr (record {
        request = r;
        first = first;
        none = later_none x.presidency none;
        leads = subst (λ z. node_numbered (coordinator t.session) ≡ Some z) is leader;
        last = asked.last;
        aged = subst (λ z. ticks_since n z (name.Request r.number) (current n (Sent r to)) ≡ Some (ticked x.requests).age) is (asked.ticks ∙ ap (λ k. Some k) (sym (due_zero x.requests.waiting x.requests.age due)));
        short = subst (λ e. IsShort n (body.Request e r.number r.text)) same short;
      })

  again_so : (seat : Seat) (r : Request) (to : ℕ) → x.seat ≡ seat → x.presidency ≡ None → goes_again x.requests ≡ true → oldest x.requests ≡ Some r → coordinator_of x ≡ Some to → IsLeft u.links.next
      → SeatIn n (current n before) x.requests x.presidency seat → Then r to seat
  again_so (Forming t) r to sits none due first leads left h = tt
  again_so (Member t) r to sits none due first leads left (inl h) = by_sent (posting_either n to (session_of x) r.number r.text u)
    where
      by_sent : Leaves n u.moments (Sent r to) ⊎ (IsShort n (body.Request (session_of x) r.number r.text) × Asked n to r.number (Sent r to)) → Then r to (Member t)
      by_sent (inl l) = inl (answered_leaves n u.moments (Sent r to) l t.session (answered_older t.session h))
      by_sent (inr sent) = asked_again t r to sits none due first leads sent.0 sent.1
  again_so (Member t) r to sits none due first leads left (inr h) =
      let same : session_of x ≡ t.session = ap (λ (z : Seat). (state_of z).session) sits in
      let short : IsShort n (body.Request (session_of x) r.number r.text) =
      subst (λ e. IsShort n (body.Request e r.number r.text)) (sym same) (subst (λ (z : Request). IsShort n (body.Request t.session z.number z.text)) (same_some h.request r (sym h.first ∙ first)) h.short) in
      asked_again t r to sits none due first leads short (posting_asks n to (session_of x) r.number r.text u short left)

  abbrev Passed : List Output → Type 0
  Passed os = IsLeft u.links.next → SeatIn n (current n (passing n os u).moments) (ticked x.requests) (later_presidency x.presidency) x.seat

  -- there is nothing to send, or nobody to send it to
  never_due : (rs : List Request) (age : ℕ) → oldest_in rs ≡ None → is_due rs age ≡ false
  never_due [] age is = refl
  never_due (r ∷ rs) age is = absurd (none_some r (sym is))

  no_leader : (seat : Seat) → x.seat ≡ seat → coordinator_of x ≡ None → SeatIn n (current n before) x.requests x.presidency seat → Still seat
  no_leader (Forming t) sits none h = tt
  no_leader (Member t) sits none (inl h) = inl (answered_older t.session h)
  no_leader (Member t) sits none (inr h) =
      let same : session_of x ≡ t.session = ap (λ (z : Seat). (state_of z).session) sits in
      absurd (none_some (coordinator t.session) (sym (subst (λ e. node_numbered (coordinator e) ≡ None) same none) ∙ h.leads))

  again_to : (r : Option Request) (to : Option ℕ) → x.presidency ≡ None → goes_again x.requests ≡ true → oldest x.requests ≡ r → coordinator_of x ≡ to → SeatIn n (current n before) x.requests x.presidency x.seat
      → Passed (request_again_to x r to)
  again_to None to none due first leads h = λ left. absurd (false_true (sym (never_due x.requests.waiting x.requests.age first) ∙ due))
  again_to (Some r) None none due first leads h = λ left. no_leader x.seat refl leads h
  again_to (Some r) (Some to) none due first leads h = λ left. again_so x.seat r to refl none due first leads left h

  again_by : (p : Option Presidency) → x.presidency ≡ p → SeatIn n (current n before) x.requests x.presidency x.seat → Passed (request_again_by x p)
  again_by (Some p) is h = λ left. still_so x.seat (λ none. absurd (none_some p (sym none ∙ is))) h
  again_by None is h = by_due (goes_again x.requests) refl
    where
      by_due : (b : Bool) → goes_again x.requests ≡ b → Passed (if b then request_again_to x (oldest x.requests) (coordinator_of x) else [])
      by_due true due = again_to (oldest x.requests) (coordinator_of x) is due refl refl h
      by_due false due = λ left. still_so x.seat (λ none. due) h

-- the tick with its heartbeats, and what goes again
module _ (c : Cluster) (n : ℕ) (x : UpNode) (s : Scene) where
  abbrev y : UpNode
  y = later c x

  abbrev beats : List Output
  beats = heartbeats_to y (receivers_of y.beats (configured_at c y))

  abbrev behind : Scene
  behind = passing n beats (telling (entry.Node n note.Ticked) s)

  pub tick_in : IsLeft (passing n (with_tick n (ticked_output c x y)) s).links.next → SeatIn n (current n s.moments) x.requests x.presidency x.seat
      → SeatIn n (current n (passing n (with_tick n (ticked_output c x y)) s).moments) y.requests y.presidency y.seat
  tick_in left h =
      let last : IsLeft (passing n (request_again x) behind).links.next = subst (λ (t : Scene). IsLeft t.links.next) (passing_append n beats (request_again x) (telling (entry.Node n note.Ticked) s)) left in
      let o : Older n s.moments behind.moments =
      older_then n s.moments (Told (entry.Node n note.Ticked) ∷ s.moments) behind.moments (tick_older n s.moments)
      (passing_leaves n n beats (telling (entry.Node n note.Ticked) s) (beats_even n (receivers_of y.beats (configured_at c y)) y)) in
      subst (λ (t : Scene). SeatIn n (current n t.moments) y.requests y.presidency y.seat) (sym (passing_append n beats (request_again x) (telling (entry.Node n note.Ticked) s)))
      (again_by n x s.moments behind o x.presidency refl h (left_before behind.links.next (passing n (request_again x) behind).links.next (2 ^ 63) (passing_next n (request_again x) behind) last))
