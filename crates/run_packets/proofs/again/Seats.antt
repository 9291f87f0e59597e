-- What lines, requests and changes leave of the Request that a member awaits an Answer to.
use Rattle.std.specs.Prelude.{ℕ, ◌≡◌, ◌⊎◌, ◌++◌, ◌&&◌, nat_le, Bool, true, false, IfSome, List, [], ◌∷◌, Option, None, Some, is_some, if◌then◌else◌}
use Rattle.std.proofs.Common.{refl, ap, sym, subst, ◌∙◌, inl, inr}
use Rattle.cl_base.specs.Limits.{most_nodes}
use Rattle.cl_base.specs.Sets.{set_without}
use Rattle.cmm_attempt.proofs.Basics.{false_true, none_some, same_some}
use Rattle.cmm_attempt.specs.Attempts.{AttemptState}
use Rattle.cmm_attempt.specs.Calls.{turn}
use Rattle.ccr_commit.specs.Entries.{all_committed, with_next}
use Rattle.cmm_member.specs.Nodes.{NodeState, with_entries, with_joined, with_valid}
use Rattle.history.specs.Messages.{last_request, ticks_since}
use Rattle.history.specs.Moment.{Moment}
use Rattle.history.specs.Names as name
use Rattle.history.specs.Setting.{coordinator}
use Rattle.node_model.specs.Attempts.{starting_as}
use Rattle.node_model.specs.Members.{rested_by}
use Rattle.node_model.specs.Seats.{coordinator_of, node_numbered, promising, record_of, session_of, state_of, with_state}
use Rattle.node_model.specs.declared.cluster.Cluster.{Cluster}
use Rattle.node_model.specs.declared.node.UpNode.{UpNode}
use Rattle.node_model.specs.declared.output.Output.{Output}
use Rattle.node_model.specs.declared.output.Output.TheVariants.{Tells}
use Rattle.node_model.specs.declared.presidency.Presidency.{Presidency}
use Rattle.node_model.specs.declared.seat.Seat.{Seat}
use Rattle.node_model.specs.declared.seat.Seat.TheVariants.{Forming, Member}
use Rattle.refinement.specs.Doings.{Change, adopted_by, changed, first_lines, last_lines, start_lines}
use Rattle.refinement.specs.Doings.Change.{Acks, Admits, Commits, Counts, Distrusts, Installs, Leads, Prepares, Promises, Proposes, Sits, Starts}
use Rattle.refinement.specs.Guards.{MayChange, SameProposed}
use Rattle.refinement.specs.Ties.{Delivered}
use Rattle.request_queue.specs.Queue.{Queue, oldest}
use Rattle.request_queue.specs.declared.request.Request.{Request}
use Rattle.run_history.proofs.Idle.{passing_append}
use Rattle.run_history.specs.Scenes.{Scene, passing, posting}
use Rattle.run_packets.specs.prepares.Proposals.{IsShort}
use Rattle.run_packets.specs.waiting.Asking.{IsOldest}
use Rattle.status_report.specs.declared.entry.Entry.TheVariants as entry
use Rattle.status_report.specs.declared.node_entry.NodeEntry.TheVariants as note
use Rattle.wire.specs.declared.message.Body.{Body}
use Rattle.wire.specs.declared.message.Body.TheVariants as body
use Rattle.run_packets.specs.again.Ages.{HasAnswer, HeardIn, IsAnswered, IsAwaited, SeatIn, current}
use Rattle.run_packets.specs.again.Asking.{ChangeAgain, Heard, IsDone, QueueSo}
use Rattle.run_packets.proofs.again.Lines.{AreEven, Asked, Leaves, member_last, passing_leaves, posting_either, posting_more}

-- ---- lines

module _ (n : ℕ) (ms after : List Moment) (l : Leaves n ms after) where
  pub answered_leaves : (e : ℕ) → IsAnswered n e (current n ms) → IsAnswered n e (current n after)
  answered_leaves e h = subst (λ o. IfSome o (HasAnswer n e (current n after))) (sym l.last) (by_last (last_request n (current n ms)) h)
    where
      by_last : (o : Option ℕ) → IfSome o (HasAnswer n e (current n ms)) → IfSome o (HasAnswer n e (current n after))
      by_last None k = k
      by_last (Some q) k = l.more (coordinator e) q k

  awaited_leaves : (e : ℕ) (q : Queue) (o : Option Presidency) → IsAwaited n e (current n ms) q o → IsAwaited n e (current n after) q o
  awaited_leaves e q o h = record {
    request = h.request;
    first = h.first;
    none = h.none;
    leads = h.leads;
    last = l.last ∙ h.last;
    aged = l.ticks (coordinator e) h.request.number ∙ h.aged;
    short = h.short;
  }

  pub seat_leaves : (q : Queue) (o : Option Presidency) (seat : Seat) → SeatIn n (current n ms) q o seat → SeatIn n (current n after) q o seat
  seat_leaves q o (Forming s) h = tt
  seat_leaves q o (Member s) (inl h) = inl (answered_leaves s.session h)
  seat_leaves q o (Member s) (inr h) = inr (awaited_leaves s.session q o h)

  heard_leaves : (heard : Option Heard) (seat : Seat) → HeardIn heard n (current n ms) seat → HeardIn heard n (current n after) seat
  heard_leaves heard (Forming s) h = tt
  heard_leaves heard (Member s) h = λ q is. l.more (coordinator s.session) q (h q is)

-- what is so of a node that is up
pub record Kept (heard : Option Heard) (n : ℕ) (ms : List Moment) (x : UpNode) : Type 0 where
  pub own : SeatIn n (current n ms) x.requests x.presidency x.seat
  pub came : HeardIn heard n (current n ms) x.seat

pub kept_leaves : (heard : Option Heard) (n : ℕ) (ms after : List Moment) (x : UpNode) → Leaves n ms after → Kept heard n ms x → Kept heard n after x
kept_leaves heard n ms after x l h = record { own = seat_leaves n ms after l x.requests x.presidency x.seat h.own; came = heard_leaves n ms after l heard x.seat h.came }

-- ---- the queue, and what the president has in hand

-- a president awaits no Answer
pub office_answered : (n : ℕ) (ms : List Moment) (q r : Queue) (o p : Option Presidency) (seat : Seat) → is_some o ≡ true → SeatIn n ms q o seat → SeatIn n ms r p seat
office_answered n ms q r o p (Forming s) some h = tt
office_answered n ms q r o p (Member s) some (inl h) = inl h
office_answered n ms q r o p (Member s) some (inr h) = absurd (false_true (ap is_some (sym h.none) ∙ some))

same_none : (o p : Option Presidency) → SameProposed o p → o ≡ None → p ≡ None
same_none None None may is = refl
same_none None (Some p) may is = absurd may
same_none (Some o) p may is = absurd (none_some o (sym is))

module _ (heard : Option Heard) (n : ℕ) (ms : List Moment) (x : UpNode) where
  done_answered : (s : NodeState) (r : Request) → x.seat ≡ Member s → last_request n ms ≡ Some r.number → IsDone heard x (Some r) → HeardIn heard n ms (Member s) → IsAnswered n s.session ms
  done_answered s r sits last done came =
      subst (λ o. IfSome o (HasAnswer n s.session ms)) (sym last)
      (came r.number (subst (λ (z : Seat). heard ≡ Some (record { epoch = (state_of z).session; number = r.number })) sits done))

  pub minds_in : (q : Queue) (p : Option Presidency) (seat : Seat) → x.seat ≡ seat → SameProposed x.presidency p → QueueSo heard x q → HeardIn heard n ms seat → SeatIn n ms x.requests x.presidency seat → SeatIn n ms q p seat
  minds_in q p (Forming s) sits may so came h = tt
  minds_in q p (Member s) sits may so came (inl h) = inl h
  minds_in q p (Member s) sits may (inl office) came (inr h) = absurd (false_true (ap is_some (sym h.none) ∙ office))
  minds_in q p (Member s) sits may (inr (inl same)) came (inr h) = inr (record {
    request = h.request;
    first = same.0 ∙ h.first;
    none = same_none x.presidency p may h.none;
    leads = h.leads;
    last = h.last;
    aged = h.aged ∙ ap (λ k. Some k) (sym same.1);
    short = h.short;
  })
  minds_in q p (Member s) sits may (inr (inr done)) came (inr h) = inl (done_answered s h.request sits h.last (subst (IsDone heard x) h.first done) came)

-- ---- a Request

pub numbered_is : (k to : ℕ) → node_numbered k ≡ Some to → to ≡ k
numbered_is k to is = by_test (nat_le 1 k && nat_le k most_nodes) is
  where
    by_test : (b : Bool) → (if b then Some k else None) ≡ Some to → to ≡ k
    by_test true h = sym (same_some k to h)
    by_test false h = absurd (none_some to h)

module _ (n : ℕ) (x : UpNode) (s : Scene) where
  -- the oldest is sent
  pub asks_in : (to : ℕ) (b : Body) → IsOldest x to b → x.presidency ≡ None → SeatIn n (current n s.moments) x.requests x.presidency x.seat
      → SeatIn n (current n (posting n to (record { sender = n; body = b }) s).moments) x.requests x.presidency x.seat
  asks_in to b old none h =
      let r : Request = old.0 in
      subst (λ z. SeatIn n (current n (posting n to (record { sender = n; body = z }) s).moments) x.requests x.presidency x.seat) (sym old.3) (by_seat x.seat refl r old.1 old.2 old.4 h)
    where
      by_sent : (t : NodeState) (r : Request) → x.seat ≡ Member t → oldest x.requests ≡ Some r → coordinator_of x ≡ Some to → x.requests.age ≡ 0
          → (let u : Scene = posting n to (record { sender = n; body = body.Request (session_of x) r.number r.text }) s in
          Leaves n s.moments u.moments ⊎ (IsShort n (body.Request (session_of x) r.number r.text) × Asked n to r.number u.moments)
          → SeatIn n (current n s.moments) x.requests x.presidency (Member t) → SeatIn n (current n u.moments) x.requests x.presidency (Member t))
      by_sent t r sits first leads fresh (inl l) k =
          seat_leaves n s.moments (posting n to (record { sender = n; body = body.Request (session_of x) r.number r.text }) s).moments l x.requests x.presidency (Member t) k
      by_sent t r sits first leads fresh (inr sent) k =
          let same : session_of x ≡ t.session = ap (λ (z : Seat). (state_of z).session) sits in
          let leader : node_numbered (coordinator t.session) ≡ Some to = subst (λ e. node_numbered (coordinator e) ≡ Some to) same leads in
          let is : to ≡ coordinator t.session = numbered_is (coordinator t.session) to leader in
          inr (record {
            request = r;
            first = first;
            none = none;
            leads = subst (λ z. node_numbered (coordinator t.session) ≡ Some z) is leader;
            last = sent.1.last;
            aged = subst (λ z. ticks_since n z (name.Request r.number) (current n (posting n to (record { sender = n; body = body.Request (session_of x) r.number r.text }) s).moments) ≡ Some x.requests.age) is
                (sent.1.ticks ∙ ap (λ k. Some k) (sym fresh));
            short = subst (λ e. IsShort n (body.Request e r.number r.text)) same sent.0;
          })

      by_seat : (seat : Seat) → x.seat ≡ seat → (r : Request) → oldest x.requests ≡ Some r → coordinator_of x ≡ Some to → x.requests.age ≡ 0
          → SeatIn n (current n s.moments) x.requests x.presidency seat
          → SeatIn n (current n (posting n to (record { sender = n; body = body.Request (session_of x) r.number r.text }) s).moments) x.requests x.presidency seat
      by_seat (Forming t) sits r first leads fresh k = tt
      by_seat (Member t) sits r first leads fresh k = by_sent t r sits first leads fresh (posting_either n to (session_of x) r.number r.text s) k

  -- what came is there still
  pub asked_heard : (heard : Option Heard) (to e q : ℕ) (text : List ℕ) (seat : Seat) → HeardIn heard n (current n s.moments) seat
      → HeardIn heard n (current n (posting n to (record { sender = n; body = body.Request e q text }) s).moments) seat
  asked_heard heard to e q text (Forming t) h = tt
  asked_heard heard to e q text (Member t) h = λ r is. posting_more n n to (body.Request e q text) s (coordinator t.session) r (h r is)

-- ---- changes

-- it becomes a member
started_empty : (n e : ℕ) (saved first later : List Output) (s : Scene) → current n (passing n (saved ++ (first ++ (later ++ Tells (entry.Node n (note.Member e)) ∷ []))) s).moments ≡ []
started_empty n e saved first later s =
    let ends : List Output = later ++ Tells (entry.Node n (note.Member e)) ∷ [] in
    subst (λ (t : Scene). current n t.moments ≡ []) (sym (passing_append n saved (first ++ ends) s))
    (subst (λ (t : Scene). current n t.moments ≡ []) (sym (passing_append n first ends (passing n saved s))) (member_last n e later (passing n first (passing n saved s))))

pub none_heard : (heard : Option Heard) (n : ℕ) (ms : List Moment) (seat : Seat) → heard ≡ None → HeardIn heard n ms seat
none_heard heard n ms (Forming s) none = tt
none_heard heard n ms (Member s) none = λ q is. absurd (none_some (record { epoch = s.session; number = q }) (sym none ∙ is))

module _ (c : Cluster) (n : ℕ) (heard : Option Heard) (told : Delivered) where
  rested_kept : (ms : List Moment) (x : UpNode) (p : ℕ) (o : Option AttemptState) → Kept heard n ms (rested_by (promising x p) o)
  rested_kept ms x p None = record { own = tt; came = tt }
  rested_kept ms x p (Some a) = record { own = tt; came = tt }

  -- with another state of this session
  with_state_in : (ms : List Moment) (q : Queue) (o : Option Presidency) (seat : Seat) (t : NodeState) → t.session ≡ (state_of seat).session → SeatIn n ms q o seat → SeatIn n ms q o (with_state seat t)
  with_state_in ms q o (Forming s) t same h = tt
  with_state_in ms q o (Member s) t same h = subst (λ e. IsAnswered n e ms ⊎ IsAwaited n e ms q o) (sym same) h

  with_state_heard : (ms : List Moment) (seat : Seat) (t : NodeState) → t.session ≡ (state_of seat).session → HeardIn heard n ms seat → HeardIn heard n ms (with_state seat t)
  with_state_heard ms (Forming s) t same h = tt
  with_state_heard ms (Member s) t same h = subst (λ e. (q : ℕ) → heard ≡ Some (record { epoch = e; number = q }) → HasAnswer n e ms q) (sym same) h

  abbrev lines : UpNode → Change → List Output → List Output
  lines x change saved = first_lines n change ++ (saved ++ last_lines c n x change)

  abbrev After : UpNode → Change → List Output → Scene → List Moment
  After x change saved s = (passing n (lines x change saved) s).moments

  even_more : (os : List Output) → AreEven n n os → AreEven n n (os ++ [])
  even_more [] e = tt
  even_more (o ∷ os) e = (e.0, even_more os e.1)

  even_last : (os : List Output) → AreEven n n os → (t : NodeState) (p : Presidency) (q : Queue) (left : Presidency) (text : List ℕ) (x : UpNode) → AreEven n n (os ++ last_lines c n x (Acks t p q left text))
  even_last [] e t p q left text x = (tt, tt)
  even_last (o ∷ os) e t p q left text x = (e.0, even_last os e.1 t p q left text x)

  -- what is kept where nothing but the state of the node changes
  state_kept : (x : UpNode) (os : List Output) (s : Scene) (t : NodeState) → t.session ≡ (state_of x.seat).session → AreEven n n os → Kept heard n s.moments x
      → SeatIn n (current n (passing n os s).moments) x.requests x.presidency (with_state x.seat t) × HeardIn heard n (current n (passing n os s).moments) (with_state x.seat t)
  state_kept x os s t same even h =
      let ms : List Moment = (passing n os s).moments in
      let k : Kept heard n ms x = kept_leaves heard n s.moments ms x (passing_leaves n n os s even) h in
      (with_state_in (current n ms) x.requests x.presidency x.seat t same k.own, with_state_heard (current n ms) x.seat t same k.came)

  -- .. of a president
  office_kept : (x : UpNode) (q : Queue) (o : Option Presidency) (os : List Output) (s : Scene) (t : NodeState) → t.session ≡ (state_of x.seat).session → AreEven n n os → is_some x.presidency ≡ true → Kept heard n s.moments x
      → SeatIn n (current n (passing n os s).moments) q o (with_state x.seat t) × HeardIn heard n (current n (passing n os s).moments) (with_state x.seat t)
  office_kept x q o os s t same even office h =
      let ms : List Moment = (passing n os s).moments in
      let k : Kept heard n ms x = kept_leaves heard n s.moments ms x (passing_leaves n n os s even) h in
      (with_state_in (current n ms) q o x.seat t same (office_answered n (current n ms) x.requests q x.presidency o x.seat office k.own), with_state_heard (current n ms) x.seat t same k.came)

  -- .. of a member
  member_kept : (x : UpNode) (os : List Output) (s : Scene) (t : NodeState) → x.seat ≡ Member t → AreEven n n os → Kept heard n s.moments x
      → SeatIn n (current n (passing n os s).moments) x.requests x.presidency (Member t) × HeardIn heard n (current n (passing n os s).moments) (Member t)
  member_kept x os s t sits even h =
      let ms : List Moment = (passing n os s).moments in
      let k : Kept heard n ms x = kept_leaves heard n s.moments ms x (passing_leaves n n os s even) h in
      (subst (SeatIn n (current n ms) x.requests x.presidency) sits k.own, subst (HeardIn heard n (current n ms)) sits k.came)

  pub change_kept : (x : UpNode) (change : Change) (saved : List Output) (s : Scene) → AreEven n n saved → MayChange c n told x change → ChangeAgain heard change → Kept heard n s.moments x
      → Kept heard n (After x change saved s) (changed c n x change)
  change_kept x (Promises p) saved s even may so h = rested_kept (After x (Promises p) saved s) x p x.attempt
  change_kept x (Leads p members) saved s even may so h = record { own = tt; came = tt }
  change_kept x (Counts a k t i) saved s even may so h = record { own = tt; came = tt }
  change_kept x (Installs t i) saved s even may so h = record { own = tt; came = tt }
  change_kept x (Starts a k t) saved s even may so h =
      let b : AttemptState = (turn a k).after in
      let y : UpNode = changed c n x (Starts a k t) in
      let empty : current n (After x (Starts a k t) saved s) ≡ [] = started_empty n b.plan.epoch saved (start_lines b t) (adopted_by c b (starting_as c n x b t)) s in
      record { own = subst (λ ms. SeatIn n ms y.requests y.presidency y.seat) (sym empty) (inl tt); came = none_heard heard n (current n (After x (Starts a k t) saved s)) y.seat so.0 }
  change_kept x (Sits t e) saved s even may so h =
      let y : UpNode = changed c n x (Sits t e) in
      let empty : current n (After x (Sits t e) saved s) ≡ [] = member_last n e saved s in
      record { own = subst (λ ms. SeatIn n ms y.requests y.presidency y.seat) (sym empty) (inl tt); came = none_heard heard n (current n (After x (Sits t e) saved s)) y.seat so }
  change_kept x (Distrusts d) saved s even may so h =
      let k = state_kept x (lines x (Distrusts d) saved) s (with_valid (state_of x.seat) (set_without (record_of x).valid d)) refl (even_more saved even) h in record { own = k.0; came = k.1 }
  change_kept x (Admits at command a d) saved s even may so h =
      let k = state_kept x (lines x (Admits at command a d) saved) s (with_joined (state_of x.seat) d) refl (tt, even_more saved even) h in record { own = k.0; came = k.1 }
  change_kept x (Proposes t p text) saved s even may so h =
      let y : UpNode = changed c n x (Proposes t p text) in
      let k = office_kept x y.requests y.presidency (lines x (Proposes t p text) saved) s (with_entries (state_of x.seat) (with_next (record_of x).entries text)) refl (tt, even_more saved even) (ap is_some may.0) h in
      record { own = k.0; came = k.1 }
  change_kept x (Acks t p q left text) saved s even may so h =
      let y : UpNode = changed c n x (Acks t p q left text) in
      let k = office_kept x y.requests y.presidency (lines x (Acks t p q left text) saved) s (with_entries (state_of x.seat) (all_committed (record_of x).entries)) refl (even_last saved even t p q left text x) (ap is_some may.0) h in
      record { own = k.0; came = k.1 }
  change_kept x (Prepares t text) saved s even may so h = let k = member_kept x (lines x (Prepares t text) saved) s t may.0 (even_more saved even) h in record { own = k.0; came = k.1 }
  change_kept x (Commits t) saved s even may so h = let k = member_kept x (lines x (Commits t) saved) s t may.0 (even_more saved even) h in record { own = k.0; came = k.1 }
