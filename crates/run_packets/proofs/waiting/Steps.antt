-- All small steps of a node, one after another, keep its queue in order, and the oldest request is sent where that is another.
use Rattle.std.specs.Prelude.{ℕ, ◌≡◌, ◌⊎◌, ◌++◌, true, List, [], ◌∷◌, Option, None, Some, is_some}
use Rattle.std.proofs.Common.{refl, ◌∙◌, inl, inr, arith}
use Rattle.cl_base.specs.Sets.{has}
use Rattle.cmm_attempt.proofs.Basics.{false_true, if_either}
use Rattle.device_queue.specs.Queue.{after_seize}
use Rattle.cmm_member.specs.Records.{NodeRecord}
use Rattle.node_model.specs.Seats.{record_of, session_of}
use Rattle.node_model.specs.Updates.{later_presidency}
use Rattle.node_model.specs.declared.cluster.Cluster.{Cluster}
use Rattle.node_model.specs.declared.input.Input.{Input}
use Rattle.node_model.specs.declared.node.Node.{Node}
use Rattle.node_model.specs.declared.node.Node.TheVariants.{Down, Up}
use Rattle.node_model.specs.declared.node.UpNode.{UpNode}
use Rattle.node_model.specs.declared.output.Output.{Output}
use Rattle.node_model.specs.declared.presidency.Presidency.{Presidency}
use Rattle.refinement.specs.Doings.{Act, Doing, Site, acted, after_all, effect, given_all, gives, minded, site}
use Rattle.refinement.specs.Doings.{Act as act}
use Rattle.refinement.specs.Doings.Doing.{Comes_up, Does, Forgets, Goes_down, Loses, Saves}
use Rattle.refinement.specs.Guards.{May, MayAct, MayAll, SameProposed}
use Rattle.refinement.specs.Ties.{Delivered}
use Rattle.request_queue.specs.Queue.{Queue, oldest}
use Rattle.request_queue.specs.declared.request.Request.{Request}
use Rattle.seize.specs.Seizing as seizing
use Rattle.wire.specs.declared.message.Body.{Body}
use Rattle.run_packets.specs.waiting.Asking.{ActAsksIn, AllAsk, DoingAsks, NeedsNone, SendsOldestIn}
use Rattle.run_packets.specs.waiting.Sendings.{IsBehind}
use Rattle.run_packets.specs.waiting.Waiting.{IsPaid, NodePaid, NodeQueues, Sendings, WordsFit}
use Rattle.run_packets.proofs.waiting.Walk.{IsGood, change_good, queue_goes, steady_good}

-- what is behind some outputs is behind more
pub behind_later : (n m : ℕ) (b : Body) (os more : List Output) → IsBehind n m b more → IsBehind n m b (os ++ more)
behind_later n m b [] more h = h
behind_later n m b (o ∷ os) more h = inr (behind_later n m b os more h)

later_office : (o : Option Presidency) → is_some o ≡ true → is_some (later_presidency o) ≡ true
later_office None h = absurd (false_true h)
later_office (Some p) h = refl

same_office : (o p : Option Presidency) → SameProposed o p → is_some o ≡ true → is_some p ≡ true
same_office None p may h = absurd (false_true h)
same_office (Some o) None may h = absurd may
same_office (Some o) (Some p) may h = refl

module _ (n : ℕ) (c : Cluster) (came : Input) (told : Delivered) (words : WordsFit c came) (first : Option Request) (G : Sendings) where
  abbrev Good : UpNode → Type 0
  Good x = IsGood first G x

  -- all that these small steps give is among the outputs
  abbrev Within : Site → List Doing → Type 0
  Within x ds = (m : ℕ) (b : Body) → IsBehind n m b (given_all c n x ds) → G m b

  next_sent : (y : UpNode) (disk : NodeRecord) (ds : List Doing) → SendsOldestIn y ds → Within (site (Up y) disk) ds → IsPaid first G y
  next_sent y disk (Does (act.Writes to b) ∷ ds) sends within =
      inr (inr (inr (inr (record { to = to; leads = sends.2; request = sends.0; first = sends.1; epoch = session_of y; given = within to _ (inl (refl, sends.3)) }))))
  next_sent y disk _ sends within = absurd sends

  -- where the office, the oldest and the president are as they were
  stays_paid : (x : UpNode) (q : Queue) (p : Option Presidency) → oldest q ≡ oldest x.requests → SameProposed x.presidency p → IsPaid first G x → IsPaid first G (minded x q p)
  stays_paid x q p same may (inl office) = inl (same_office x.presidency p may office)
  stays_paid x q p same may (inr (inl is)) = inr (inl (same ∙ is))
  stays_paid x q p same may (inr (inr (inl none))) = inr (inr (inl (same ∙ none)))
  stays_paid x q p same may (inr (inr (inr (inl none)))) = inr (inr (inr (inl none)))
  stays_paid x q p same may (inr (inr (inr (inr sent)))) =
      inr (inr (inr (inr (record { to = sent.to; leads = sent.leads; request = sent.request; first = same ∙ sent.first; epoch = sent.epoch; given = sent.given }))))

  minded_paid : (x : UpNode) (q : Queue) (p : Option Presidency) (disk : NodeRecord) (ds : List Doing) → SameProposed x.presidency p → NeedsNone x q p ⊎ SendsOldestIn (minded x q p) ds
      → Within (site (Up (minded x q p)) disk) ds → IsPaid first G x → IsPaid first G (minded x q p)
  minded_paid x q p disk ds may (inl (inl office)) within h = inl office
  minded_paid x q p disk ds may (inl (inr (inl same))) within h = stays_paid x q p same.0 may h
  minded_paid x q p disk ds may (inl (inr (inr (inl none)))) within h = inr (inr (inl none))
  minded_paid x q p disk ds may (inl (inr (inr (inr none)))) within h = inr (inr (inr (inl none)))
  minded_paid x q p disk ds may (inr sends) within h = next_sent (minded x q p) disk ds sends within

  still : (x : UpNode) → Good x → Good x
  still x h = h

  act_good : (x : UpNode) (disk : NodeRecord) (a : Act) (ds : List Doing) → MayAct c n told x a → ActAsksIn c came x a ds → Within (site (Up (acted c n x a)) disk) ds → Good x → Good (acted c n x a)
  act_good x disk (act.Hears from b) ds may asks within h = steady_good first G x (acted c n x (act.Hears from b)) (record { asked = refl; waiting = refl; office = λ z. z; session = refl }) h
  act_good x disk act.Ticks ds may asks within h = steady_good first G x (acted c n x act.Ticks) (record { asked = refl; waiting = refl; office = later_office x.presidency; session = refl }) h
  act_good x disk act.Waits ds may asks within h = steady_good first G x (acted c n x act.Waits) (record { asked = refl; waiting = refl; office = λ z. z; session = refl }) h
  act_good x disk (act.Goes_on a k) ds may asks within h = steady_good first G x (acted c n x (act.Goes_on a k)) (record { asked = refl; waiting = refl; office = λ z. z; session = refl }) h
  act_good x disk (act.Ends a e) ds may asks within h = steady_good first G x (acted c n x (act.Ends a e)) (record { asked = refl; waiting = refl; office = λ z. z; session = refl }) h
  act_good x disk (act.Queues a d kind) ds may asks within h =
      let y : UpNode = record x { tasks = after_seize x.tasks d (seizing.begun kind a.plan.epoch a.plan.members n c.id (has (record_of x).valid d)) } in
      if_either Good (has a.plan.members n) y x (steady_good first G x y (record { asked = refl; waiting = refl; office = λ z. z; session = refl }) h) h
  act_good x disk (act.Accepts kind e members d) ds may asks within h =
      steady_good first G x (acted c n x (act.Accepts kind e members d)) (record { asked = refl; waiting = refl; office = λ z. z; session = refl }) h
  act_good x disk (act.Takes at command a) ds may asks within h = steady_good first G x (acted c n x (act.Takes at command a)) (record { asked = refl; waiting = refl; office = λ z. z; session = refl }) h
  act_good x disk (act.Makes change) ds may asks within h = change_good n c came told words first G x change may.0 asks h
  act_good x disk (act.Minds q p) ds may asks within h = record { queue = queue_goes c came x.requests q words asks.0 h.queue; paid = minded_paid x q p disk ds may asks.1 within h.paid }
  act_good x disk (act.Notes from place p) ds may asks within h = record { queue = h.queue; paid = inl refl }
  act_good x disk (act.Dates now) ds may asks within h = steady_good first G x (acted c n x (act.Dates now)) (record { asked = refl; waiting = refl; office = λ z. z; session = refl }) h
  act_good x disk (act.Works w) ds may asks within h = steady_good first G x (acted c n x (act.Works w)) (record { asked = refl; waiting = refl; office = λ z. z; session = refl }) h
  act_good x disk (act.Stores d value a) ds may asks within h = h
  act_good x disk (act.Writes to b) ds may asks within h = h
  act_good x disk (act.Gives more) ds may asks within h = h
  act_good x disk (act.Spreads receivers b) ds may asks within h = h

  -- ---- one after another

  abbrev NodeGood : Node → Type 0
  NodeGood Down = Unit {0}
  NodeGood (Up x) = Good x

  doing_good : (z : Node) (disk : NodeRecord) (d : Doing) (ds : List Doing) → May c n told (site z disk) d → DoingAsks c came (site z disk) d ds → Within (effect c n (site z disk) d) ds → NodeGood z
      → NodeGood (effect c n (site z disk) d).node
  doing_good Down disk Comes_up ds may asks within h = record { queue = record { rising = tt; low = tt; word = omega arith; fit = tt }; paid = inr (inr (inl refl)) }
  doing_good (Up x) disk Comes_up ds may asks within h = h
  doing_good z disk (Goes_down why) ds may asks within h = tt
  doing_good Down disk (Does a) ds may asks within h = tt
  doing_good (Up x) disk (Does a) ds may asks within h = act_good x disk a ds may asks within h
  doing_good Down disk (Saves change) ds may asks within h = tt
  doing_good (Up x) disk (Saves change) ds may asks within h = change_good n c came told words first G x change may asks h
  doing_good z disk (Loses change why) ds may asks within h = tt
  doing_good z disk (Forgets change why) ds may asks within h = tt

  pub all_good : (x : Site) (ds : List Doing) → MayAll c n told x ds → AllAsk c n came x ds → Within x ds → NodeGood x.node → NodeGood (after_all c n x ds).node
  all_good x [] may asks within h = h
  all_good x (d ∷ ds) may asks within h =
      let rest : Within (effect c n x d) ds = λ m b later. within m b (behind_later n m b (gives c n x d) (given_all c n (effect c n x d) ds) later) in
      all_good (effect c n x d) ds may.1 asks.1 rest (doing_good x.node x.disk d ds may.0 asks.0 rest h)

-- ---- a step

abbrev pub first_at : Node → Option Request
first_at Down = None
first_at (Up x) = oldest x.requests

-- the queue is in order after it, and the oldest is sent
pub record IsServed (first : Option Request) (G : Sendings) (z : Node) : Type 0 where
  pub queue : NodeQueues z
  pub paid : NodePaid first G z

pub all_served : (n : ℕ) (c : Cluster) (came : Input) (told : Delivered) (first : Option Request) (G : Sendings) (x : Site) (ds : List Doing) → WordsFit c came → MayAll c n told x ds → AllAsk c n came x ds
    → ((m : ℕ) (b : Body) → IsBehind n m b (given_all c n x ds) → G m b) → IsServed first G x.node → IsServed first G (after_all c n x ds).node
all_served n c came told first G x ds words may asks within h = served_of (after_all c n x ds).node (all_good n c came told words first G x ds may asks within (good_of x.node h))
  where
    good_of : (z : Node) → IsServed first G z → NodeGood n c came told words first G z
    good_of Down h = tt
    good_of (Up y) h = record { queue = h.queue; paid = h.paid }

    served_of : (z : Node) → NodeGood n c came told words first G z → IsServed first G z
    served_of Down g = record { queue = tt; paid = tt }
    served_of (Up y) g = record { queue = g.queue; paid = g.paid }
