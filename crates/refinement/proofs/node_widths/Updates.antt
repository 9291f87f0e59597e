-- What members and their president do for an update has its widths.
use Rattle.std.specs.Prelude.{ℕ, ◌+◌, ◌≡◌, ◌==◌, ◌&&◌, nat_le, Bool, true, false, List, [], Option, None, Some, IfSome, length, if◌then◌else◌}
use Rattle.std.proofs.Common.{refl, subst}
use Rattle.ccr_commit.specs.Entries.{answer_for, texts_of, with_next}
use Rattle.ccr_commit.specs.declared.entries.Prepared.{Prepared}
use Rattle.ccr_commit.specs.declared.entries.Prepared.TheVariants.{Taken, Already, Gap}
use Rattle.cmm_attempt.proofs.Basics.{if_either, same_number}
use Rattle.cmm_member.specs.Nodes.{NodeState, with_entries}
use Rattle.proposals.specs.Proposing.{goes_again, is_prepared, prepared_by}
use Rattle.proposals.specs.State.{State}
use Rattle.proposals.specs.declared.arrived.Proposed.{Proposed}
use Rattle.request_queue.specs.Queue as queue
use Rattle.request_queue.specs.Queue.{oldest}
use Rattle.request_queue.specs.declared.request.Request.{Request}
use Rattle.wire.specs.declared.message.Body.TheVariants as body
use Rattle.wire.specs.Spelling.{IsNode, IsWord}
use Rattle.node_model.specs.declared.cluster.Cluster.{Cluster}
use Rattle.node_model.specs.declared.node.UpNode.{UpNode}
use Rattle.node_model.specs.declared.presidency.Presidency.{Presidency}
use Rattle.node_model.specs.declared.seat.Seat.{Seat}
use Rattle.node_model.specs.declared.seat.Seat.TheVariants.{Forming, Member}
use Rattle.node_model.specs.Entries.{answering}
use Rattle.node_model.specs.Plans.Plan.{Stays}
use Rattle.node_model.specs.Presidents as presidents
use Rattle.node_model.specs.Presidents.{with_proposals}
use Rattle.node_model.specs.Seats.{coordinator_of, is_in, record_of, session_of, state_of}
use Rattle.node_model.specs.Updates as updates
use Rattle.node_model.specs.Updates.{commits_now, committed_so, is_of_member, prepared_so}
use Rattle.refinement.specs.node_widths.Widths.{AllFit, PresidencyFits, ProposedFits, RequestFits, StateFits, UpFits}
use Rattle.refinement.specs.node_widths.Plans.{PlanFits}
use Rattle.refinement.proofs.node_widths.Nodes.{answers, committed_fits, coordinator_is_node, either_fits, keeps, next_entry_fits, sent_to_fits, then_fits, tidied_fits}
use Rattle.refinement.proofs.node_widths.Presidents.{acknowledges_so, arrives, handles, with_proposals_fits}
use Rattle.refinement.proofs.node_widths.Queues.{oldest_fits, prepared_fits}

-- A member asks.

requests_of_president : (c : Cluster) (n : ℕ) (x : UpNode) (from number : ℕ) (text : List ℕ) (o : Option Presidency) → IsNode n → IsNode from → IsWord number → IfSome o PresidencyFits → UpFits c n x
    → PlanFits c n (updates.requested c n x from number text o)
requests_of_president c n x from number text None is who small office h = h
requests_of_president c n x from number text (Some p) is who small office h = arrives c n x p (record { from = from; number = number; text = text }) is (who, small) office h

pub asked_so : (c : Cluster) (n : ℕ) (x : UpNode) (from e number : ℕ) (text : List ℕ) → IsNode n → IsNode from → IsWord number → UpFits c n x → PlanFits c n (updates.on_asked c n x from e number text)
asked_so c n x from e number text is who small h =
    either_fits c n (is_of_member x from e) _ (Stays x) (requests_of_president c n x from number text x.presidency is who small h.presides h) h

-- Prepare.

abbrev IsTaken : Prepared → Type 0
IsTaken Taken = Unit {0}
IsTaken _ = ⊥

-- an update is taken at the next place alone
taken_place : (count place : ℕ) → IsTaken (answer_for count place) → place ≡ count + 1
taken_place count place h = by_tests (nat_le place count) (place == count + 1) refl h
  where
    by_tests : (there next : Bool) → (place == count + 1) ≡ next → IsTaken (if there then Already else (if next then Taken else Gap (count + 1))) → place ≡ count + 1
    by_tests true next is f = absurd f
    by_tests false true is f = same_number place (count + 1) is
    by_tests false false is f = absurd f

prepares : (c : Cluster) (n : ℕ) (x : UpNode) (from e place : ℕ) (s : NodeState) (text : List ℕ) (a : Prepared) → IsNode from → IsWord e → IsWord place
    → (IsTaken a → place ≡ length (texts_of s.saved.entries) + 1) → StateFits s → UpFits c n x → PlanFits c n (updates.preparing c n x from e place s text a)
prepares c n x from e place s text Taken who epoch small next state h =
    let y : UpNode = prepared_so c x s text in
    let k : UpFits c n y = tidied_fits c n (record x { seat = Member (with_entries s (with_next s.saved.entries text)) }) (record {
      state = next_entry_fits s text (subst IsWord (next tt) small) state;
      all_tasks = h.all_tasks;
      own = h.own;
      seen = h.seen;
      asked = h.asked;
      works = h.works;
      clock = h.clock;
      presides = h.presides;
    }) in
    keeps c n y (answering from (body.Prepared e place) y) k (answers c n from (body.Prepared e place) y who.0 (epoch, small) k)
prepares c n x from e place s text Already who epoch small next state h = answers c n from (body.Prepared e place) x who.0 (epoch, small) h
prepares c n x from e place s text (Gap k) who epoch small next state h = h

pub prepare_so : (c : Cluster) (n : ℕ) (x : UpNode) (from e place : ℕ) (text : List ℕ) (seat : Seat) → IsNode from → IsWord e → IsWord place → StateFits (state_of seat) → UpFits c n x
    → PlanFits c n (updates.on_prepare_as c n x from e place text seat)
prepare_so c n x from e place text (Forming s) who epoch small state h = h
prepare_so c n x from e place text (Member s) who epoch small state h =
    either_fits c n (is_in x e) _ (Stays x)
    (prepares c n x from e place s text (answer_for (length (texts_of s.saved.entries)) place) who epoch small (taken_place (length (texts_of s.saved.entries)) place) state h) h

-- Prepared.

prepared_all_fits : (c : Cluster) (n : ℕ) (x : UpNode) (p : Presidency) → IsNode n → UpFits c n x → PlanFits c n (updates.prepared_all c n x p)
prepared_all_fits c n x p is h =
    either_fits c n (is_prepared p.proposals) _ (Stays x) (then_fits c n (presidents.acknowledging c n x) (presidents.handling c n) (acknowledges_so c n x is h) (λ y k. handles c n y is k)) h

prepared_at_fits : (c : Cluster) (n : ℕ) (x : UpNode) (from place : ℕ) (o : Option Presidency) → IsNode n → IfSome o PresidencyFits → UpFits c n x → PlanFits c n (updates.prepared_at c n x from place o)
prepared_at_fits c n x from place None is office h = h
prepared_at_fits c n x from place (Some p) is office h =
    let s : State = prepared_by p.proposals from place in
    prepared_all_fits c n (with_proposals x p s) (record p { proposals = s }) is (with_proposals_fits c n x p s (prepared_fits p.proposals from place office.0) office h)

pub prepared_fits_so : (c : Cluster) (n : ℕ) (x : UpNode) (from e place : ℕ) → IsNode n → UpFits c n x → PlanFits c n (updates.on_prepared c n x from e place)
prepared_fits_so c n x from e place is h = either_fits c n (is_of_member x from e) _ (Stays x) (prepared_at_fits c n x from place x.presidency is h.presides h) h

-- Commit.

pub commit_so : (c : Cluster) (n : ℕ) (x : UpNode) (e place : ℕ) (seat : Seat) → StateFits (state_of seat) → UpFits c n x → PlanFits c n (updates.on_commit_as n x e place seat)
commit_so c n x e place (Forming s) state h = h
commit_so c n x e place (Member s) state h =
    let y : UpNode = committed_so x s in
    let k : UpFits c n y = record {
      state = committed_fits s state;
      all_tasks = h.all_tasks;
      own = h.own;
      seen = h.seen;
      asked = h.asked;
      works = h.works;
      clock = h.clock;
      presides = h.presides;
    } in
    either_fits c n (is_in x e && commits_now s place) _ (Stays x) (keeps c n y (Stays y) k k) h

-- What goes again at a tick.

again_to_fits : (c : Cluster) (n : ℕ) (x : UpNode) (r : Option Request) (o : Option ℕ) → IfSome r RequestFits → IfSome o IsNode → UpFits c n x → AllFit (updates.request_again_to x r o)
again_to_fits c n x (Some r) (Some president) f is h = (is.0, (h.state.session, f.0), tt)
again_to_fits c n x None president f is h = tt
again_to_fits c n x (Some r) None f is h = tt

again_by_fits : (c : Cluster) (n : ℕ) (x : UpNode) (o : Option Presidency) → UpFits c n x → AllFit (updates.request_again_by x o)
again_by_fits c n x None h =
    if_either AllFit (queue.goes_again x.requests) _ [] (again_to_fits c n x (oldest x.requests) (coordinator_of x) (oldest_fits x.requests.waiting h.asked.1) (coordinator_is_node x) h) tt
again_by_fits c n x (Some p) h = tt

pub request_again_fits : (c : Cluster) (n : ℕ) (x : UpNode) → UpFits c n x → AllFit (updates.request_again x)
request_again_fits c n x h = again_by_fits c n x x.presidency h

prepares_of_fits : (c : Cluster) (n : ℕ) (x : UpNode) (p : Option Proposed) (pending : Option (List ℕ)) → IfSome p ProposedFits → UpFits c n x → AllFit (updates.prepares_of x p pending)
prepares_of_fits c n x (Some p) (Some text) f h = sent_to_fits p.missing (body.Prepare (session_of x) p.place text) (h.state.session, f.0)
prepares_of_fits c n x None text f h = tt
prepares_of_fits c n x (Some p) None f h = tt

prepares_by_fits : (c : Cluster) (n : ℕ) (x : UpNode) (o : Option Presidency) → IfSome o PresidencyFits → UpFits c n x → AllFit (updates.prepares_again_by x o)
prepares_by_fits c n x None office h = tt
prepares_by_fits c n x (Some p) office h =
    if_either AllFit (goes_again p.proposals) _ [] (prepares_of_fits c n x p.proposals.proposed (record_of x).entries.pending office.0.1 h) tt

pub prepares_again_fits : (c : Cluster) (n : ℕ) (x : UpNode) → UpFits c n x → AllFit (updates.prepares_again x)
prepares_again_fits c n x h = prepares_by_fits c n x x.presidency h.presides h
