-- All that a member does in a step, but for its tick, leaves its last Request as old as the lines tell, or answered.
use Rattle.std.specs.Prelude.{ℕ, List, [], ◌∷◌, Option, Ok, is_some}
use Rattle.std.proofs.Common.{refl, ap, sym, subst}
use Rattle.cl_base.specs.Limits.{most_nodes}
use Rattle.cl_base.specs.Numbers.{numbers_to}
use Rattle.cl_base.specs.Sets.{has}
use Rattle.cmm_attempt.proofs.Basics.{if_either}
use Rattle.cmm_member.specs.Records.{NodeRecord}
use Rattle.device_queue.specs.Queue.{after_seize}
use Rattle.history.specs.Moment.{Moment}
use Rattle.node_model.specs.Presidents.{sent_to}
use Rattle.node_model.specs.Seats.{record_of}
use Rattle.node_model.specs.declared.cluster.Cluster.{Cluster}
use Rattle.node_model.specs.declared.node.Node.{Node}
use Rattle.node_model.specs.declared.node.Node.TheVariants.{Down, Up}
use Rattle.node_model.specs.declared.node.UpNode.{UpNode}
use Rattle.node_model.specs.declared.output.Output.{Output}
use Rattle.node_model.specs.declared.output.Output.TheVariants.{Sends, Tells}
use Rattle.pgr_device.specs.declared.command.PrAnswer.TheVariants as given
use Rattle.refinement.specs.Doings.{Act, Doing, Site, acted, after_all, effect, given_all, gives, of_node, said, site, write_lines}
use Rattle.refinement.specs.Doings.Act.{Accepts, Dates, Ends, Gives, Goes_on, Hears, Makes, Minds, Notes, Queues, Spreads, Stores, Takes, Ticks, Waits, Works, Writes}
use Rattle.refinement.specs.Doings.Doing.{Comes_up, Does, Forgets, Goes_down, Loses, Saves}
use Rattle.refinement.specs.Guards.{May, MayAct, MayAll}
use Rattle.refinement.specs.Ties.{Delivered}
use Rattle.run_history.proofs.Idle.{passing_append}
use Rattle.run_history.proofs.Lists.{mapped}
use Rattle.run_history.specs.Marks.{ActSo, AllSo, AreMinor, DoingSo}
use Rattle.run_history.specs.Scenes.{Scene, passing, posting}
use Rattle.seize.specs.Answers.{Answer}
use Rattle.seize.specs.Seizing as seizing
use Rattle.status_report.specs.declared.entry.Entry.TheVariants as entry
use Rattle.status_report.specs.declared.node_entry.NodeEntry.TheVariants as note
use Rattle.wire.specs.declared.message.Body.{Body}
use Rattle.wire.specs.declared.message.Body.TheVariants as body
use Rattle.run_packets.specs.again.Ages.{NodeHeard, NodeIn, current}
use Rattle.run_packets.specs.again.Asking.{ActAgain, AllAgain, AskNone, DoingAgain, Heard, NoRequest, RequestSo}
use Rattle.run_packets.proofs.again.Lines.{AreEven, EvenOut, passing_leaves, posting_leaves}
use Rattle.run_packets.proofs.again.Seats.{Kept, asked_heard, asks_in, change_kept, kept_leaves, minds_in, office_answered}

-- ---- what is told and sent besides

given_even : (n : ℕ) (os : List Output) → AreMinor os → AskNone os → AreEven n n os
given_even n [] minor none = tt
given_even n (Tells (entry.Command e) ∷ os) minor none = (tt, given_even n os minor.1 none.1)
given_even n (Tells (entry.Call e) ∷ os) minor none = (tt, given_even n os minor.1 none.1)
given_even n (Tells (entry.Status e) ∷ os) minor none = (tt, given_even n os minor.1 none.1)
given_even n (Tells (entry.Address e) ∷ os) minor none = (tt, given_even n os minor.1 none.1)
given_even n (Tells _ ∷ os) minor none = absurd minor.0
given_even n (Sends to b ∷ os) minor none = (λ own. none.0, given_even n os minor none.1)

write_even : (n : ℕ) (x : UpNode) (d value : ℕ) (a : Answer) → AreEven n n (write_lines n x d value a)
write_even n x d value (Ok given.Good) = (tt, tt)
write_even n x d value (Ok given.Conflict) = (tt, tt)
write_even n x d value _ = (tt, tt)

spread_even : (n receivers : ℕ) (b : Body) → NoRequest b → AreEven n n (sent_to receivers b)
unfolding sent_to
spread_even n receivers b none = mapped (EvenOut n n) (λ k. Sends k b) (numbers_to receivers most_nodes) (λ k own. none)

module _ (c : Cluster) (n : ℕ) (heard : Option Heard) (told : Delivered) where
  -- the node stays as it is
  stays : (x : UpNode) (os : List Output) (s : Scene) → AreEven n n os → Kept heard n s.moments x → Kept heard n (passing n os s).moments x
  stays x os s even h = kept_leaves heard n s.moments (passing n os s).moments x (passing_leaves n n os s even) h

  request_kept : (x : UpNode) (to e q : ℕ) (text : List ℕ) (s : Scene) → RequestSo x to (body.Request e q text) → Kept heard n s.moments x
      → Kept heard n (posting n to (record { sender = n; body = body.Request e q text }) s).moments x
  request_kept x to e q text s so h = record {
    own = asks_in n x s to (body.Request e q text) so.0 so.1 h.own;
    came = asked_heard n x s heard to e q text x.seat h.came;
  }

  write_kept : (x : UpNode) (to : ℕ) (b : Body) (s : Scene) → RequestSo x to b → Kept heard n s.moments x → Kept heard n (posting n to (record { sender = n; body = b }) s).moments x
  write_kept x to (body.Request e q text) s so h = request_kept x to e q text s so h
  write_kept x to b s so h = kept_leaves heard n s.moments (posting n to (record { sender = n; body = b }) s).moments x (posting_leaves n n to b s (λ own. tt)) h

  act_kept : (x : UpNode) (a : Act) (s : Scene) → MayAct c n told x a → ActAgain heard x a → ActSo a → Kept heard n s.moments x → Kept heard n (passing n (said c n x a) s).moments (acted c n x a)
  act_kept x (Hears from b) s may so minor h = record { own = h.own; came = h.came }
  act_kept x Ticks s may so minor h = absurd so
  act_kept x Waits s may so minor h = record { own = h.own; came = h.came }
  act_kept x (Goes_on a k) s may so minor h = record { own = h.own; came = h.came }
  act_kept x (Ends a e) s may so minor h =
      let k : Kept heard n (passing n (said c n x (Ends a e)) s).moments x = stays x (said c n x (Ends a e)) s (tt, tt) h in record { own = k.own; came = k.came }
  act_kept x (Queues a d kind) s may so minor h =
      if_either (λ (y : UpNode). Kept heard n s.moments y) (has a.plan.members n)
      (record x { tasks = after_seize x.tasks d (seizing.begun kind a.plan.epoch a.plan.members n c.id (has (record_of x).valid d)) }) x (record { own = h.own; came = h.came }) h
  act_kept x (Accepts kind e members d) s may so minor h = record { own = h.own; came = h.came }
  act_kept x (Takes at command a) s may so minor h =
      let k : Kept heard n (passing n (said c n x (Takes at command a)) s).moments x = stays x (said c n x (Takes at command a)) s (tt, tt) h in record { own = k.own; came = k.came }
  act_kept x (Stores d value a) s may so minor h = stays x (said c n x (Stores d value a)) s (tt, write_even n x d value a) h
  act_kept x (Writes to b) s may so minor h = write_kept x to b s so h
  act_kept x (Makes change) s may so minor h = change_kept c n heard told x change [] s tt may.0 so h
  act_kept x (Gives os) s may so minor h = stays x os s (given_even n os minor so) h
  act_kept x (Spreads receivers b) s may so minor h = stays x (sent_to receivers b) s (spread_even n receivers b so) h
  act_kept x (Minds q p) s may so minor h = record { own = minds_in heard n (current n s.moments) x q p x.seat refl may so h.came h.own; came = h.came }
  act_kept x (Notes from place p) s may so minor h = record { own = office_answered n (current n s.moments) x.requests x.requests x.presidency _ x.seat (ap is_some may.0) h.own; came = h.came }
  act_kept x (Dates now) s may so minor h = record { own = h.own; came = h.came }
  act_kept x (Works w) s may so minor h = record { own = h.own; came = h.came }

  -- ---- small steps

  abbrev NodeKept : List Moment → Node → Type 0
  NodeKept ms node = NodeIn n ms node × NodeHeard heard n ms node

  doing_kept : (x : Site) (d : Doing) (s : Scene) → May c n told x d → DoingAgain heard x d → DoingSo d → NodeKept s.moments x.node → NodeKept (passing n (gives c n x d) s).moments (effect c n x d).node
  doing_kept x d s may so minor h = by_node x.node x.disk d may so minor h
    where
      by_node : (node : Node) (disk : NodeRecord) (d : Doing) → May c n told (site node disk) d → DoingAgain heard (site node disk) d → DoingSo d → NodeKept s.moments node
          → NodeKept (passing n (gives c n (site node disk) d) s).moments (effect c n (site node disk) d).node
      by_node Down disk Comes_up may so minor h = (tt, tt)
      by_node (Up x) disk Comes_up may so minor h = absurd may
      by_node node disk (Goes_down why) may so minor h = (tt, tt)
      by_node Down disk (Does a) may so minor h = absurd may
      by_node (Up x) disk (Does a) may so minor h = let k : Kept heard n (passing n (said c n x a) s).moments (acted c n x a) = act_kept x a s may so minor (record { own = h.0; came = h.1 }) in (k.own, k.came)
      by_node Down disk (Saves change) may so minor h = absurd may
      by_node (Up x) disk (Saves change) may so minor h =
          let k = change_kept c n heard told x change (of_node n note.Saved ∷ []) s (tt, tt) may so (record { own = h.0; came = h.1 }) in (k.own, k.came)
      by_node node disk (Loses change why) may so minor h = (tt, tt)
      by_node node disk (Forgets change why) may so minor h = (tt, tt)

  pub all_kept : (ds : List Doing) (x : Site) (s : Scene) → MayAll c n told x ds → AllAgain c n heard x ds → AllSo ds → NodeKept s.moments x.node
      → NodeIn n (passing n (given_all c n x ds) s).moments (after_all c n x ds).node
  all_kept [] x s may so minor h = h.0
  all_kept (d ∷ ds) x s may so minor h =
      let u : Scene = passing n (gives c n x d) s in
      subst (λ (t : Scene). NodeIn n t.moments (after_all c n (effect c n x d) ds).node) (sym (passing_append n (gives c n x d) (given_all c n (effect c n x d) ds) s))
      (all_kept ds (effect c n x d) u may.1 so.1 minor.1 (doing_kept x d s may.0 so.0 minor.0 h))
