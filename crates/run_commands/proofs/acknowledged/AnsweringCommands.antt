-- The rest of a course keeps what is carried; and so does a command, once it has its number and its line.
use Rattle.std.specs.Prelude.{ℕ, ◌+◌, ◌-◌, ◌^◌, ◌≡◌, ◌≤◌, ◌<◌, ◌==◌, All, Bool, true, false, if◌then◌else◌, List, [], ◌∷◌, Option, None, Some, slice_get}
use Rattle.std.proofs.Common.{refl, ap, subst, ◌∙◌, inl, inr}
use Rattle.admin_words.specs.Commands.{command_of}
use Rattle.cmm_attempt.specs.Calls.{IsDevice}
use Rattle.cmm_member.specs.Records.{NodeRecord}
use Rattle.proposals.specs.declared.arrived.Arrived.{Arrived}
use Rattle.request_queue.specs.Queue.{found, next_number, with_number}
use Rattle.request_queue.specs.declared.request.Request.{Request}
use Rattle.status_report.specs.CommandLines.{reply_text}
use Rattle.status_report.specs.declared.command_entry.Answer.{Answer}
use Rattle.status_report.specs.declared.command_entry.CommandEntry.TheVariants as command
use Rattle.status_report.specs.declared.entry.Entry.TheVariants as entry
use Rattle.wire.specs.declared.message.Body.TheVariants as body
use Rattle.run_commands.specs.carried.Steps.{CarriedSo}
use Rattle.history.specs.Moment.{Moment}
use Rattle.history.specs.Setting.{Setting}
use Rattle.history.specs.Trace.{gives as gives_line}
use Rattle.node_model.specs.Entries.{answered_line}
use Rattle.node_model.specs.Presidents.{answer_given, own_line}
use Rattle.node_model.specs.Requests.{numbered}
use Rattle.node_model.specs.Seats.{session_of, version_of}
use Rattle.node_model.specs.declared.cluster.Cluster.{Cluster}
use Rattle.node_model.specs.declared.input.Input.{Input}
use Rattle.node_model.specs.declared.input.Input.TheVariants as input
use Rattle.node_model.specs.declared.node.Node.TheVariants.{Up}
use Rattle.node_model.specs.declared.node.UpNode.{UpNode}
use Rattle.node_model.specs.declared.output.Output.{Output}
use Rattle.node_model.specs.declared.output.Output.TheVariants.{Sends, Tells}
use Rattle.refinement.proofs.Handlers.{delivered_by}
use Rattle.refinement.specs.Courses.{Course, Reply, under}
use Rattle.refinement.specs.Cuts as cuts
use Rattle.refinement.specs.Doings.{Act, Change, Doing, acted, after_all, given_all, said, site}
use Rattle.refinement.specs.Doings.Act.{Gives, Minds}
use Rattle.refinement.specs.Doings.Doing.{Does}
use Rattle.run_history.specs.Scenes.{Scene, passing}
use Rattle.run_messages.specs.Laws.{membership_in}
use Rattle.run_messages.proofs.Doings.{first_good}
use Rattle.run_commands.specs.carried.Guards.{ActAsk, Command, GoesAsk}
use Rattle.run_commands.proofs.carried.Acting.{Ready, ready_act}
use Rattle.run_commands.proofs.carried.Causes.{president_at}
use Rattle.run_commands.proofs.carried.Commands.{command_at, next_is, numbered_so, read_text}
use Rattle.run_commands.proofs.carried.Courses as asks
use Rattle.run_commands.proofs.carried.Leaving as leaving
use Rattle.run_commands.proofs.carried.Walk.{Between, before_of}
use Rattle.run_commands.specs.acknowledged.Guards.{ActHand, GoesHand}
use Rattle.run_commands.proofs.acknowledged.Acts.{Holding}
use Rattle.run_commands.proofs.acknowledged.Changing.{bound_of, member_some}
use Rattle.run_commands.proofs.acknowledged.Commands.{Reads, numbered_holds}
use Rattle.run_commands.proofs.acknowledged.Courses as hands
use Rattle.run_commands.proofs.acknowledged.Carrying.{At, CameFrom, Carries, EachGoes, GoesAlso}
use Rattle.run_commands.specs.acknowledged.AnsweringGuards.{ActSo, Due, GivesSo, GoesSo, MindsSo}
use Rattle.run_commands.specs.acknowledged.AnsweringGuards.Due.{Even}
use Rattle.run_commands.proofs.acknowledged.Own.{NowAsked}
use Rattle.run_commands.proofs.acknowledged.Settled.{AcksArePending}
use Rattle.run_commands.proofs.acknowledged.Acks.{first_acks, then_acks}
use Rattle.run_commands.proofs.acknowledged.Elsewhere.{elsewhere}
use Rattle.run_commands.proofs.acknowledged.OwnNow.{now_first}
use Rattle.run_commands.proofs.acknowledged.AnsweringWalk.{Left, Next, act_next, place_so, then_left, walk_left}

-- ---- the line of a command is no answer

no_own : (n q k : ℕ) (reply : Answer) (o : Option Request) → Tells (entry.Command (command.Asked n q)) ∷ [] ≡ own_line n reply o → ⊥
no_own n q k reply None e = cc
no_own n q k reply (Some r) e = by r.told e
  where
    by : (b : Bool) → Tells (entry.Command (command.Asked n q)) ∷ [] ≡ (if b then Tells (answered_line n r.number reply) ∷ [] else []) → ⊥
    by true z = cc
    by false z = cc

no_answer : (n q : ℕ) (x : UpNode) (a : Arrived) (reply : Answer) → Tells (entry.Command (command.Asked n q)) ∷ [] ≡ answer_given n x a reply → ⊥
no_answer n q x a reply e = by (a.from == n) e
  where
    by : (b : Bool) → Tells (entry.Command (command.Asked n q)) ∷ [] ≡ (if b then own_line n reply (found x.requests.waiting a.number) else Sends a.from (body.Answer (session_of x) a.number (reply_text reply)) ∷ []) → ⊥
    by true z = no_own n q a.number reply (found x.requests.waiting a.number) z
    by false z = cc

asked_even : (c : Cluster) (i : Input) (n q : ℕ) (x : UpNode) (g : Due) → GivesSo c i n x Even (Tells (entry.Command (command.Asked n q)) ∷ []) g → g ≡ Even
asked_even c i n q x g (inl k) = k.1
asked_even c i n q x g (inr (inl k)) = absurd (no_answer n q x k.request k.reply k.is)
asked_even c i n q x g (inr (inr k)) = k.1

module _ (S : Setting) (c : Cluster) (P : ℕ → ℕ → Due → UpNode → ℕ → List Moment → Type 0) (Q : ℕ → ℕ → List Moment → Type 0) (W : List Moment → Type 0) (N : ℕ → UpNode → Type 0) (A : Input → ℕ → Option ℕ → UpNode → Act → Type 0)
    (B : Input → ℕ → Option ℕ → UpNode → Change → Type 0) (R : Carries S c P Q W N A B) where
  abbrev pub LeftAfter : ℕ → UpNode → NodeRecord → List Doing → Scene → Type 0
  LeftAfter n x disk ds s = Left P Q W n (after_all c n (site (Up x) disk) ds).disk.promised (after_all c n (site (Up x) disk) ds).node (given_all c n (site (Up x) disk) ds) s

  abbrev pub AcksAfter : ℕ → UpNode → NodeRecord → List Doing → Scene → Type 0
  AcksAfter n x disk ds s = AcksArePending (passing n (given_all c n (site (Up x) disk) ds) s).moments

  pub walked : (n : ℕ) (i : Input) (v : Option ℕ) (o : Option Command) (replies : List Reply) (k : Course) (h : Option ℕ) (last : ℕ) (x : UpNode) (disk : NodeRecord) (d : Due) (s : Scene) → Reads c S → (1 ≤ n) × (n ≤ 32)
      → All IsDevice c.attached → Ready c n (delivered_by i) x disk (under replies k) s → GoesAsk c n i o h x k → GoesHand c i n v x k → GoesSo c i n v d x k → GoesAlso A B c i n v x k → Between S n i o h last x s
      → Holding S c n i v disk.promised x s.moments → CameFrom i s.moments → NowAsked S n i x.requests.asked s.moments → AcksAfter n x disk (under replies k) s → At P n disk.promised d x s → W s.moments → LeftAfter n x disk (under replies k) s
  walked n i v o replies k h last x disk d s reads range fits r asks_so hand so also b holds from now acks inside told =
      walk_left S c P Q W N A B R n i v o replies k r.machine h last x disk d s reads.answers reads.updates range fits r.holds r.known r.tied r.may r.small r.calm r.at r.good r.seated asks_so hand so also b holds from now acks inside told

  -- one act before the rest
  pub one_act : (n : ℕ) (i : Input) (v : Option ℕ) (o : Option Command) (h : Option ℕ) (x : UpNode) (disk : NodeRecord) (a : Act) (ds : List Doing) (d g : Due) (s : Scene) → Reads c S → (1 ≤ n) × (n ≤ 32) → All IsDevice c.attached
      → Ready c n (delivered_by i) x disk (Does a ∷ ds) s → ActAsk n i o h x a → ActHand c i n v x a → ActSo c i n v x d a g → A i n v x a → Between S n i o h x.requests.asked x s → Holding S c n i v disk.promised x s.moments
      → CameFrom i s.moments → NowAsked S n i x.requests.asked s.moments → AcksAfter n x disk (Does a ∷ ds) s → At P n disk.promised d x s → W s.moments → Next S c P W n i v disk.promised g (acted c n x a) (passing n (said c n x a) s)
  one_act n i v o h x disk a ds d g s reads range fits r ask hand so also b holds from now acks inside told =
      let y : UpNode = acted c n x a in
      let next : Ready c n (delivered_by i) y disk ds (passing n (said c n x a) s) = ready_act c n (delivered_by i) x disk a ds s fits r in
      act_next S c P Q W N A B R n i v o h disk.promised x a d g s reads.updates (λ change fine. elsewhere c r.machine n (delivered_by i) x disk change r.holds r.known r.tied fine)
      (record {
        range = range;
        before = before_of S c r.machine n i o h x.requests.asked x disk s r.tied b;
        holds = holds;
        bound = bound_of c r.machine n x disk r.holds r.tied;
        seated = r.seated;
        place = place_so r.machine n x r.tied.1;
        from = from;
        now = now;
      })
      r.may.0 r.small.0 ask hand so also (first_good n (said c n x a) (given_all c n (site (Up y) disk) ds) r.good) (first_acks n (said c n x a) (given_all c n (site (Up y) disk) ds) s acks)
      (record { president = president_at next.machine n y next.tied.1; session = member_some c next.machine n y disk next.holds next.tied; place = place_so next.machine n y next.tied.1 }) inside told

  -- ---- a command

  pub command_left : (n : ℕ) (replies : List Reply) (x : UpNode) (disk : NodeRecord) (words : List ℕ) (s : Scene) → EachGoes c N A B → Reads c S → (1 ≤ n) × (n ≤ 32) → All IsDevice c.attached
      → Ready c n None x disk (under replies (cuts.command_course c n x words)) s → x.requests.asked < 2 ^ 64 - 1 → slice_get s.moments 0 ≡ Some (gives_line n words) → leaving.UpSo S n x.requests.asked x s.moments
      → CarriedSo S s.moments → GoesSo c (input.Commanded words) n (membership_in x.seat) Even x (cuts.command_course c n x words) → Holding S c n (input.Commanded words) (membership_in x.seat) disk.promised x s.moments
      → AcksAfter n x disk (under replies (cuts.command_course c n x words)) s → At P n disk.promised Even x s → W s.moments → LeftAfter n x disk (under replies (cuts.command_course c n x words)) s
  command_left n replies x disk words s each reads range fits r room first known carried so k acks inside told =
      let i : Input = input.Commanded words in
      let v : Option ℕ = membership_in x.seat in
      let q : ℕ = next_number x.requests in
      let o : Command = command_at c x words in
      let tell : Act = Gives (Tells (entry.Command (command.Asked n q)) ∷ []) in
      let mind : Act = Minds (with_number x.requests) x.presidency in
      let y : UpNode = numbered x in
      let rest : Course = cuts.worded_course c n y q (command_of (version_of c) words) in
      let t : Scene = passing n (Tells (entry.Command (command.Asked n q)) ∷ []) s in
      let more : List Output = given_all c n (site (Up y) disk) (under replies rest) in
      let second : Ready c n None x disk (Does mind ∷ under replies rest) t = ready_act c n None x disk tell (Does mind ∷ under replies rest) s fits r in
      let third : Ready c n None y disk (under replies rest) t = ready_act c n None x disk mind (under replies rest) t fits second in
      let next : q ≡ x.requests.asked + 1 = next_is x.requests.asked x refl room in
      let even : so.0 ≡ Even = asked_even c i n q x so.0 so.1 in
      let minds : MindsSo c i n v x Even x.presidency so.2.0 = subst (λ z. MindsSo c i n v x z x.presidency so.2.0) even so.2.1 in
      let onward : GoesSo c i n v Even y rest = subst (λ z. GoesSo c i n v z y rest) minds.1 so.2.2 in
      let holds : Holding S c n i v disk.promised y t.moments = numbered_holds S c n words disk.promised x s.moments next r.seated (bound_of c r.machine n x disk r.holds r.tied) k in
      let asked : At P n disk.promised Even y t × W t.moments =
      R.asks n disk.promised s.links.next words x s.moments next first r.seated (bound_of c r.machine n x disk r.holds r.tied) (president_at r.machine n x r.tied.1) k inside told in
      then_left P Q W n _ _ (Tells (entry.Command (command.Asked n q)) ∷ []) more s
      (walked n i v (Some o) replies rest None q y disk Even t reads range fits third
      (asks.worded_so c n i (Some o) None y q (command_of (version_of c) words) (record { command = o; is = refl; number = refl; session = refl }) (λ a text is so. ap read_text is ∙ so))
      (hands.worded_so c n i v y q (command_of (version_of c) words)) onward (each.words n x words (R.nexts n disk.promised s.links.next x s.moments next inside))
      (record { so = numbered_so S c n x words s.moments reads.requests room first r.seated known.queued known.pending; carried = (tt, carried); came = tt }) holds tt (now_first S n q words s.moments first)
      (then_acks n (Tells (entry.Command (command.Asked n q)) ∷ []) more s acks) asked.0 asked.1)
