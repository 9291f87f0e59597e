-- An event in which a node does its command: a message is sent in it, or the node goes down.
use Rattle.std.specs.Prelude.{ℕ, ◌-◌, ◌%◌, ◌≤◌, ◌^◌, ◌≡◌, ◌++◌, ◌||◌, Bool, true, false, if◌then◌else◌, List, [], ◌∷◌, Some, filter, is_some, slice_get}
use Rattle.std.proofs.Common.{refl, ap, sym, subst, ◌∙◌}
use Rattle.cl_base.specs.declared.header.Header.{Header}
use Rattle.cl_base.specs.declared.method.Outcome.{Outcome}
use Rattle.cmm_attempt.proofs.Basics.{false_true}
use Rattle.device_queue.specs.Queue.{first_of}
use Rattle.device_queue.specs.Tasks.{is_queued}
use Rattle.device_queue.specs.declared.task.Task.{Task}
use Rattle.history.specs.Letters.{sends}
use Rattle.history.specs.Links.{links_after}
use Rattle.history.specs.Messages.{is_down_of, onto, sends_or_falls}
use Rattle.history.specs.Moment.{Moment}
use Rattle.history.specs.Names.{Name, named}
use Rattle.history.specs.Queue as told
use Rattle.history.specs.Setting.{coordinator}
use Rattle.history_setting.specs.Settings.{setting_of}
use Rattle.interconnect.specs.Links.{Links}
use Rattle.node_model.specs.Seats.{node_numbered, session_of}
use Rattle.node_model.specs.Steps.{at_second}
use Rattle.node_model.specs.declared.input.Input.TheVariants as input
use Rattle.node_model.specs.declared.node.Node.{Node}
use Rattle.node_model.specs.declared.node.Node.TheVariants.{Down, Up}
use Rattle.node_model.specs.declared.node.UpNode.{UpNode}
use Rattle.node_model.specs.declared.output.Output.{Output}
use Rattle.pgr_device.specs.declared.command.PrCommand.{PrCommand}
use Rattle.refinement.specs.Runs.{Nodes}
use Rattle.run_devices.specs.queues.Laws.{Same}
use Rattle.run_history.specs.Happenings.{Happening, MayHappen, commanded, given_by, happened, taking}
use Rattle.run_history.specs.Happenings.Happening.{Commands, Takes}
use Rattle.run_history.specs.Scenes.{Scene}
use Rattle.run_history.specs.Shapes.{IsThis, Want, still}
use Rattle.run_history.specs.Shapes as want
use Rattle.run_packets.proofs.prepares.Numbers.{left_before, lines_next}
use Rattle.run_packets.specs.prepares.Events.{IsLeft, IsLeftAfter}
use Rattle.run_packets.specs.prepares.Proposals.{IsBehind, IsShort}
use Rattle.run_packets.specs.repeats.Events.{AreSent}
use Rattle.seize.specs.Answers.{Answer}
use Rattle.wire.specs.declared.message.Body.{Body}
use Rattle.world_model.specs.Devices.{due_at}
use Rattle.world_model.specs.First.{first_cluster}
use Rattle.world_model.specs.Sends.{name_of}
use Rattle.run_outcomes.specs.reports.Events.{Ends, LeftBy, Two}
use Rattle.run_outcomes.specs.reports.Facts.{Facts}
use Rattle.run_outcomes.proofs.reports.Commanding.{Due, IsLedBy, SameTasks, Took, readied, taking_lands, took_lands}
use Rattle.run_outcomes.proofs.reports.Disks.{Within, any_first, any_later, commanded_nodes, due_next, onto_both}
use Rattle.run_outcomes.proofs.reports.Ending.{Landed}
use Rattle.run_outcomes.proofs.reports.Replies.{queue_then}
use Rattle.run_outcomes.proofs.reports.Tasks.{FirstAt, at_same, is_at}

-- the node takes the answer of its command, and is up then
pub record Answering (h : Header) (t : Scene) (n e : ℕ) (task : Task) (called : Name) (rest : List Moment) : Type 0 where
  pub before : UpNode
  pub after : UpNode
  pub scene : Scene
  pub now : ℕ
  pub ends : Outcome
  pub answer : Answer
  pub at : scene.nodes.node n ≡ Up before
  pub due : Due (at_second now before) task
  pub led : IsLedBy (first_cluster h) n (coordinator e) (at_second now before)
  pub in_e : session_of before ≡ e
  pub there : t.nodes.node n ≡ Up after
  pub took : Took (at_second now before) answer after
  pub is : (taking (first_cluster h) n now ends (input.Answered answer) scene).nodes.node n ≡ t.nodes.node n
  pub are : (b : Body) → IsBehind n (coordinator e) b (given_by (first_cluster h) n now ends (input.Answered answer) scene.nodes) → IsShort n b → named (name_of b) ≡ called → sends_or_falls n (coordinator e) called rest ≡ true

module _ (h : Header) (cells : ℕ) (s u t : Scene) (x : Moment) (n : ℕ) (w : UpNode) (later : List Moment) (d e : ℕ) (called : Name) (some : Body)
    (g : Facts h cells t) (nodes : u.nodes ≡ s.nodes) (moments : u.moments ≡ x ∷ s.moments) (up : s.nodes.node n ≡ Up w) (k : Within h s n w e) (left : IsLeftAfter cells (onto u.moments later))
    (f : FirstAt w.tasks d) (queued : is_at d w.tasks ≡ true) (ended : told.is_queued (setting_of h) n d (onto u.moments later) ≡ false) (short : IsShort n some) (names : named (name_of some) ≡ called)
    (total : onto u.moments later ≡ t.moments)
    (finish : (rest : List Moment) → Answering h t n e f.task called rest → sends_or_falls n (coordinator e) called rest ≡ true) where
  abbrev Sent : List Moment → Type 0
  Sent entries = sends_or_falls n (coordinator e) called entries ≡ true

  left_then : IsLeft t.links.next
  left_then = subst (λ (z : Links). IsLeft z.next) (sym g.linked) (subst (λ ms. IsLeft (links_after cells ms).next) total left)

  -- the device is queued no more
  pub over : (z : UpNode) → t.nodes.node n ≡ Up z → session_of z ≡ e → is_at d z.tasks ≡ true → ⊥
  over z at in_e is =
      let same : Same (filter is_queued z.tasks) (told.queued_of (setting_of h) n t.moments) = queue_then h cells t n e z g left_then at k.some in_e k.led.1 in
      false_true (sym ended ∙ (ap (told.is_queued (setting_of h) n d) total ∙ (at_same d z.tasks (told.queued_of (setting_of h) n t.moments) same ∙ is)))

  left_first : (first rest : List Moment) → later ≡ first ++ rest → IsLeftAfter cells (onto u.moments first)
  left_first first rest is =
      left_before (links_after cells (onto u.moments first)).next (links_after cells (onto u.moments later)).next (2 ^ 63)
      (subst (λ ms. (links_after cells (onto u.moments first)).next ≤ (links_after cells ms).next) (sym (ap (onto u.moments) is ∙ onto_both u.moments first rest)) (lines_next cells (onto u.moments first) rest)) left

  falls : (ms entries : List Moment) (os : List Output) → AreSent cells ms n os entries → IsLeftAfter cells (onto ms entries) → ((to : ℕ) (b : Body) → IsBehind n to b os) → Sent entries
  falls ms entries os are count down = subst (λ q. sends_or_falls n (coordinator e) q entries ≡ true) names (are (coordinator e) some (down (coordinator e) some) short count)

  -- it takes the answer
  answers : (m : Scene) (y : UpNode) (rest : List Moment) (at : ℕ) (q : PrCommand) (now : ℕ) (ends : Outcome) → m.nodes.node n ≡ Up y → SameTasks w y → due_at (Some (m.nodes.node n)) ≡ Some (at, q)
      → AreSent cells m.moments n (given_by (first_cluster h) n now ends (input.Answered (commanded m n at q).answer) (commanded m n at q).scene.nodes) rest → IsLeftAfter cells (onto m.moments rest)
      → happened (first_cluster h) m (Commands n at q now ends) ≡ t → Sent rest
  answers m y rest at q now ends here same due are count is = by_node (t.nodes.node n) refl (subst (λ (v : Scene). Landed (first_cluster h) n (Took z a) (given_by (first_cluster h) n now ends (input.Answered a) o.nodes) (v.nodes.node n)) is landed)
    where
      o : Scene
      o = (commanded m n at q).scene

      a : Answer
      a = (commanded m n at q).answer

      z : UpNode
      z = at_second now y

      there : o.nodes.node n ≡ Up y
      there = ap (λ (v : Nodes). v.node n) (commanded_nodes m n at (slice_get m.devices (at - 1)) q) ∙ here

      is_due : Due z f.task
      is_due = record { first = ap first_of same.tasks ∙ f.first; next = due_next y (at, q) (sym (ap (λ (v : Node). due_at (Some v)) here) ∙ due) }

      led : IsLedBy (first_cluster h) n (coordinator e) z
      led = (ap (λ j. node_numbered (j % 64)) same.session ∙ k.led.0, k.led.1)

      landed : Landed (first_cluster h) n (Took z a) (given_by (first_cluster h) n now ends (input.Answered a) o.nodes) ((taking (first_cluster h) n now ends (input.Answered a) o).nodes.node n)
      landed = taking_lands (first_cluster h) n (Took z a) o now ends (input.Answered a) y there (took_lands (first_cluster h) n (coordinator e) z a f.task is_due led)

      by_node : (v : Node) → t.nodes.node n ≡ v → Landed (first_cluster h) n (Took z a) (given_by (first_cluster h) n now ends (input.Answered a) o.nodes) (t.nodes.node n) → Sent rest
      by_node Down down l =
          falls m.moments rest (given_by (first_cluster h) n now ends (input.Answered a) o.nodes) are count (subst (Landed (first_cluster h) n (Took z a) (given_by (first_cluster h) n now ends (input.Answered a) o.nodes)) down l)
      by_node (Up v) there_up l =
          finish rest (record {
            before = y;
            after = v;
            scene = o;
            now = now;
            ends = ends;
            answer = a;
            at = there;
            due = is_due;
            led = led;
            in_e = same.session ∙ k.in_e;
            there = there_up;
            took = subst (Landed (first_cluster h) n (Took z a) (given_by (first_cluster h) n now ends (input.Answered a) o.nodes)) there_up l;
            is = ap (λ (b : Scene). b.nodes.node n) is;
            are = λ b behind fits so. subst (λ c. sends_or_falls n (coordinator e) c rest ≡ true) so (are (coordinator e) b behind fits count);
          })

  -- its command comes
  commands : (m : Scene) (y : UpNode) (rest : List Moment) (q : Happening) → m.nodes.node n ≡ Up y → SameTasks w y → IsThis (want.Command n) q → MayHappen (first_cluster h) m q → LeftBy cells (first_cluster h) m q rest
      → IsLeftAfter cells (onto m.moments rest) → happened (first_cluster h) m q ≡ t → Sent rest
  commands m y rest (Commands j at q now ends) here same this may by count is =
      subst (λ i. MayHappen (first_cluster h) m (Commands i at q now ends) → LeftBy cells (first_cluster h) m (Commands i at q now ends) rest → happened (first_cluster h) m (Commands i at q now ends) ≡ t → Sent rest) (sym this)
      (λ may by is. answers m y rest at q now ends here same may.2 by.1 count is) may by is
  commands m y rest _ here same this may by count is = absurd this

  behind_so : (m : Scene) (y : UpNode) (first rest : List Moment) → m.nodes.node n ≡ Up y → SameTasks w y → later ≡ first ++ rest → onto u.moments first ≡ m.moments
      → Ends cells (first_cluster h) m (still m (want.Command n ∷ [])) rest t → Sent rest
  behind_so m y first rest here same split so ends = by_due (is_some (due_at (Some (m.nodes.node n)))) ends
    where
      count : IsLeftAfter cells (onto m.moments rest)
      count = subst (IsLeftAfter cells) (ap (onto u.moments) split ∙ (onto_both u.moments first rest ∙ ap (λ ms. onto ms rest) so)) left

      by_due : (b : Bool) → Ends cells (first_cluster h) m (if b then want.Command n ∷ [] else []) rest t → Sent rest
      by_due true one = commands m y rest one.happening here same one.this one.may one.left count one.at
      by_due false none =
          absurd
          (over y (ap (λ (v : Scene). v.nodes.node n) none.1 ∙ here) (same.session ∙ k.in_e)
          (subst (λ ts. is_at d ts ≡ true) (sym same.tasks) queued))

  readies : (first rest : List Moment) (now : ℕ) (ends : Outcome) → later ≡ first ++ rest → AreSent cells u.moments n (given_by (first_cluster h) n now ends input.CommandDue u.nodes) first
      → onto u.moments first ≡ (taking (first_cluster h) n now ends input.CommandDue u).moments
      → (let m : Scene = taking (first_cluster h) n now ends input.CommandDue u in Ends cells (first_cluster h) m (still m (want.Command n ∷ [])) rest t) → Sent later
  readies first rest now ends split are so behind =
      by_node ((taking (first_cluster h) n now ends input.CommandDue u).nodes.node n) refl (readied (first_cluster h) n now ends u w (ap (λ (v : Nodes). v.node n) nodes ∙ up))
    where
      by_node : (v : Node) → (taking (first_cluster h) n now ends input.CommandDue u).nodes.node n ≡ v → Landed (first_cluster h) n (SameTasks w) (given_by (first_cluster h) n now ends input.CommandDue u.nodes) v → Sent later
      by_node Down at down =
          subst Sent (sym split)
          (any_first (λ z. sends n (coordinator e) called z || is_down_of n z) first rest (falls u.moments first (given_by (first_cluster h) n now ends input.CommandDue u.nodes) are (left_first first rest split) down))
      by_node (Up y) at same =
          subst Sent (sym split)
          (any_later (λ z. sends n (coordinator e) called z || is_down_of n z) first rest (behind_so (taking (first_cluster h) n now ends input.CommandDue u) y first rest at same split so behind))

  goes : (first rest : List Moment) (q : Happening) → IsThis (want.Take n input.CommandDue) q → later ≡ first ++ rest → LeftBy cells (first_cluster h) u q first → onto u.moments first ≡ (happened (first_cluster h) u q).moments
      → (let m : Scene = happened (first_cluster h) u q in Ends cells (first_cluster h) m (still m (want.Command n ∷ [])) rest t) → Sent later
  goes first rest (Takes j now ends i) this split by so behind =
      subst
      (λ p. LeftBy cells (first_cluster h) u (Takes p now ends i) first → onto u.moments first ≡ (taking (first_cluster h) p now ends i u).moments
      → (let m : Scene = taking (first_cluster h) p now ends i u in Ends cells (first_cluster h) m (still m (want.Command n ∷ [])) rest t) → Sent later) (sym this.0)
      (subst
      (λ p. LeftBy cells (first_cluster h) u (Takes n now ends p) first → onto u.moments first ≡ (taking (first_cluster h) n now ends p u).moments
      → (let m : Scene = taking (first_cluster h) n now ends p u in Ends cells (first_cluster h) m (still m (want.Command n ∷ [])) rest t) → Sent later) (sym this.1)
      (λ by so behind. readies first rest now ends split by.1 so behind)) by so behind
  goes first rest _ this split by so behind = absurd this

  pub two_sends : Two cells (first_cluster h) u (want.Take n input.CommandDue) (want.Command n) later t → Sent later
  two_sends two = goes two.some two.rest two.happening two.this two.is two.left two.moments two.behind
