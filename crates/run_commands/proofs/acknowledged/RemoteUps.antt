-- What a node that is up knows of the requests of others stays with quiet lines.
use Rattle.std.specs.Prelude.{ℕ, ◌≡◌, ◌≢◌, ◌≤◌, ◌<◌, true, List, [], Option, None, Some, is_some}
use Rattle.std.proofs.Common.{refl, sym, ap, subst, ◌∙◌, inl, inr}
use Rattle.proposals.specs.declared.arrived.Arrived.{Arrived}
use Rattle.wire.specs.declared.message.Body.TheVariants as body
use Rattle.history.specs.Contents.{proposed_at}
use Rattle.history.specs.Moment.{Moment}
use Rattle.history.specs.Requests.{requests_of}
use Rattle.history.specs.Setting.{Setting, coordinator}
use Rattle.node_model.specs.Seats.{session_of}
use Rattle.node_model.specs.declared.cluster.Cluster.{Cluster}
use Rattle.node_model.specs.declared.input.Input.{Input}
use Rattle.node_model.specs.declared.node.UpNode.{UpNode}
use Rattle.node_model.specs.declared.output.Output.{Output}
use Rattle.node_model.specs.declared.presidency.Presidency.{Presidency}
use Rattle.run_history.specs.Scenes.{Scene, passing}
use Rattle.run_messages.specs.Laws.{membership_in}
use Rattle.run_commands.proofs.carried.Causes.{PresidentAt}
use Rattle.run_commands.proofs.carried.Lines.{AreApart, SameAsk, passing_ask}
use Rattle.run_commands.specs.acknowledged.Guards.{CauseOf}
use Rattle.run_commands.proofs.acknowledged.Asides.{of_member}
use Rattle.run_commands.proofs.acknowledged.Carrying.{CameFrom, FromLetter}
use Rattle.run_commands.specs.acknowledged.AnsweringGuards.{Due}
use Rattle.run_commands.proofs.acknowledged.Remote.{DueSo, IsUntouched, RemoteIn, RemoteUp}
use Rattle.run_commands.specs.acknowledged.Requested.{HasRequested}
use Rattle.run_commands.proofs.acknowledged.Numbers.{passing_next}
use Rattle.run_commands.proofs.acknowledged.Quiet.{Quiet, arrived_sent, passing_none}
use Rattle.run_commands.proofs.acknowledged.Remotes.{quiet_lasts, remote_more}

pub own_of : (x : UpNode) (n : ℕ) → PresidentAt x n → coordinator (session_of x) ≡ n
own_of x n p = ap coordinator p.session ∙ p.own

-- a request of another node came as its Request
pub request_came : (c : Cluster) (i : Input) (n : ℕ) (v : Option ℕ) (x : UpNode) (ms : List Moment) → CameFrom i ms → (a : Arrived) → CauseOf i n v x a → a.from ≢ n → HasRequested a.from a.number (session_of x) a.text ms
request_came c i n v x ms came a (inl k) ne =
    let l : FromLetter a.from k.message ms = subst (λ (z : Input). CameFrom z ms) k.input came in
    record {
      letter = l.letter;
      sent_so = arrived_sent l.letter ms l.here;
      from = l.sender;
      says_so = l.says_so ∙ ap (λ z. Some z) (k.says ∙ ap (λ e. body.Request e a.number a.text) (sym (of_member x a.from k.epoch k.here).1));
    }
request_came c i n v x ms came a (inr k) ne = absurd (ne (ap (λ (z : Arrived). z.from) k.is))

-- ---- quiet lines

pub untouched_stays : (S : Setting) (k n promised : ℕ) (os : List Output) (s : Scene) → AreApart k os → IsUntouched S k promised s.moments → IsUntouched S k promised (passing n os s).moments
untouched_stays S k n promised os s apart h = λ e above own. passing_none S k n e os s own apart (h e above own)

pub hand_in : (S : Setting) (c : Cluster) (k e : ℕ) (d : Due) (o : Option Presidency) (next more : ℕ) (before after : List Moment) → (is_some o ≡ true → coordinator e ≡ k) → Quiet S c k before after
    → ((v : ℕ) → coordinator e ≡ k → proposed_at (Some e) v after ≡ proposed_at (Some e) v before) → next ≤ more → ((p : Presidency) → o ≡ Some p → DueSo S c k e d p.proposals after) → RemoteIn S c k e d o next before
    → RemoteIn S c k e d o more after
hand_in S c k e d None next more before after own quiet same low due h = h
hand_in S c k e d (Some p) next more before after own quiet same low due h =
    remote_more S c k e d p.proposals next more before after (quiet_lasts S c k e d p.proposals.answers before after (own refl) quiet) (λ v. same v (own refl)) low (due p refl) h

-- .. of node n, for node k
pub up_stays : (S : Setting) (c : Cluster) (k n promised : ℕ) (d : Due) (x : UpNode) (os : List Output) (s : Scene) → AreApart k os → Quiet S c k s.moments (passing n os s).moments → (is_some x.presidency ≡ true → PresidentAt x k)
    → ((p : Presidency) → x.presidency ≡ Some p → DueSo S c k (session_of x) d p.proposals (passing n os s).moments) → RemoteUp S c k promised d x s.links.next s.moments
    → RemoteUp S c k promised d x (passing n os s).links.next (passing n os s).moments
up_stays S c k n promised d x os s apart quiet president due h =
    let same : SameAsk S k s.moments (passing n os s).moments = passing_ask S k n os s apart in
    record {
      within = untouched_stays S k n promised os s apart h.within;
      forming = λ none some own. passing_none S k n (session_of x) os s own apart (h.forming none some own);
      hand = hand_in S c k (session_of x) d x.presidency s.links.next (passing n os s).links.next s.moments (passing n os s).moments (λ so. own_of x k (president so)) quiet (λ v own. same.proposed (session_of x) v own)
          (passing_next n os s) due h.hand;
    }

-- ---- the node seen so

-- in the same membership and session
pub up_seen : (S : Setting) (c : Cluster) (n promised : ℕ) (d g : Due) (x y : UpNode) (next : ℕ) (ms : List Moment) → membership_in y.seat ≡ membership_in x.seat → session_of y ≡ session_of x
    → RemoteIn S c n (session_of x) g y.presidency next ms → RemoteUp S c n promised d x next ms → RemoteUp S c n promised g y next ms
up_seen S c n promised d g x y next ms seat session hand h = record {
  within = h.within;
  forming = λ none some own. subst (λ e. requests_of S e ms ≡ []) (sym session) (h.forming (sym seat ∙ none) (subst (λ e. 0 < e) session some) (ap coordinator (sym session) ∙ own));
  hand = subst (λ e. RemoteIn S c n e g y.presidency next ms) (sym session) hand;
}
