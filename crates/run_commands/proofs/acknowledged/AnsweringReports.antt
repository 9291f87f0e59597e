-- A monitor's report keeps what is carried.
use Rattle.std.specs.Prelude.{ℕ, ◌+◌, ◌-◌, ◌^◌, ◌≡◌, ◌≤◌, ◌<◌, ◌&&◌, not, All, Bool, true, false, if◌then◌else◌, List, [], ◌∷◌, Option, None, Some, Ok}
use Rattle.std.proofs.Common.{refl, subst}
use Rattle.admin_words.specs.Commands.{request_of}
use Rattle.admin_words.specs.declared.request.Request.TheVariants as wish
use Rattle.ccr_tables.specs.declared.update.Update.{Update}
use Rattle.cl_base.specs.declared.command.Ask.{Ask}
use Rattle.cmm_attempt.specs.Calls.{IsDevice}
use Rattle.cmm_attempt.proofs.Basics.{and_cases}
use Rattle.cmm_member.specs.Records.{NodeRecord}
use Rattle.request_queue.specs.Queue.{is_full, next_number}
use Rattle.rgm_member.specs.Probes.{after_probe}
use Rattle.rgm_member.specs.declared.probed.Probed.{Probed}
use Rattle.rgm_member.specs.declared.probed.Probed.TheVariants as probe
use Rattle.status_report.specs.declared.call_entry.ProbeResult.TheVariants as result
use Rattle.update_words.specs.Words.{ask_words_of}
use Rattle.history.specs.Moment.{Moment}
use Rattle.history.specs.Setting.{Setting}
use Rattle.node_model.specs.Configurations.{own_config}
use Rattle.node_model.specs.Groups.{asked_by, monitor_asked, report_told, reported, result_of}
use Rattle.node_model.specs.Requests.{is_idle}
use Rattle.node_model.specs.Seats.{is_member, version_of}
use Rattle.node_model.specs.declared.cluster.Cluster.{Cluster}
use Rattle.node_model.specs.declared.input.Input.{Input}
use Rattle.node_model.specs.declared.node.UpNode.{UpNode}
use Rattle.node_model.specs.declared.output.Output.{Output}
use Rattle.refinement.proofs.Handlers.{delivered_by}
use Rattle.refinement.specs.Courses.{Course, Reply, under}
use Rattle.refinement.specs.Courses.Course.{Acts, Stops}
use Rattle.refinement.specs.Cuts as cuts
use Rattle.refinement.specs.Doings.{Act, Change, given_all, site}
use Rattle.refinement.specs.Doings.Act.{Gives, Minds, Works}
use Rattle.refinement.specs.Doings.Doing.{Does}
use Rattle.node_model.specs.declared.node.Node.TheVariants.{Up}
use Rattle.run_history.specs.Scenes.{Scene, passing}
use Rattle.run_messages.specs.Laws.{membership_in}
use Rattle.run_commands.proofs.carried.Acting.{Goes, Ready, goes_act, ready_act}
use Rattle.run_commands.proofs.carried.Changes.{Changed}
use Rattle.run_commands.proofs.carried.Commands.{next_is}
use Rattle.run_commands.proofs.carried.Courses as asks
use Rattle.run_commands.proofs.carried.Reports.{added_so}
use Rattle.run_commands.proofs.carried.Walk.{Between}
use Rattle.run_commands.proofs.acknowledged.Acts.{Holding}
use Rattle.run_commands.proofs.acknowledged.Commands.{Reads}
use Rattle.run_commands.proofs.acknowledged.Courses as hands
use Rattle.run_commands.proofs.acknowledged.Reports.{asked_holds}
use Rattle.run_commands.proofs.acknowledged.Carrying.{At, CameFrom, Carries, EachGoes}
use Rattle.run_commands.specs.acknowledged.AnsweringGuards.{Due, GoesSo}
use Rattle.run_commands.specs.acknowledged.AnsweringGuards.Due.{Even}
use Rattle.run_commands.proofs.acknowledged.Own.{NowAsked}
use Rattle.run_commands.proofs.acknowledged.Acks.{then_acks}
use Rattle.run_commands.proofs.acknowledged.AnsweringCommands.{AcksAfter, LeftAfter, one_act, walked}
use Rattle.run_commands.proofs.acknowledged.AnsweringWalk.{Next, from_stays, then_left}

module _ (S : Setting) (c : Cluster) (P : ℕ → ℕ → Due → UpNode → ℕ → List Moment → Type 0) (Q : ℕ → ℕ → List Moment → Type 0) (W : List Moment → Type 0) (N : ℕ → UpNode → Type 0) (A : Input → ℕ → Option ℕ → UpNode → Act → Type 0)
    (B : Input → ℕ → Option ℕ → UpNode → Change → Type 0) (R : Carries S c P Q W N A B) (each : EachGoes c N A B) (reads : Reads c S) where
  asking_when : (n : ℕ) (i : Input) (replies : List Reply) (x : UpNode) (disk : NodeRecord) (ask : Ask) (s : Scene) (b : Bool) → (is_member x.seat && not (is_full x.requests)) ≡ b → (1 ≤ n) × (n ≤ 32) → All IsDevice c.attached
      → x.requests.asked < 2 ^ 64 - 1 → ((u : Update) → request_of (version_of c) (ask_words_of ask) ≡ Ok (wish.Change u) → ⊥)
      → (let k : Course = if b then Acts (Minds (monitor_asked x ask).requests x.presidency) (cuts.asking_if_course (is_idle x.requests.waiting) c n (monitor_asked x ask)) else Stops in
      Ready c n (delivered_by i) x disk (under replies k) s → GoesSo c i n (membership_in x.seat) Even x k → Between S n i None None x.requests.asked x s → Holding S c n i (membership_in x.seat) disk.promised x s.moments
      → CameFrom i s.moments → ((last : ℕ) (ms : List Moment) → NowAsked S n i last ms) → AcksAfter S c P Q W N A B R n x disk (under replies k) s → At P n disk.promised Even x s → W s.moments → LeftAfter S c P Q W N A B R n x disk (under replies k) s)
  asking_when n i replies x disk ask s false is range fits room calm rd so b k from now acks inside told =
      walked S c P Q W N A B R n i (membership_in x.seat) None replies Stops None x.requests.asked x disk Even s reads range fits rd tt tt so tt b k from (now x.requests.asked s.moments) acks inside told
  asking_when n i replies x disk ask s true is range fits room calm rd so b k from now acks inside told =
      let y : UpNode = monitor_asked x ask in
      let q : ℕ = next_number x.requests in
      let v : Option ℕ = membership_in x.seat in
      let rest : Course = cuts.asking_if_course (is_idle x.requests.waiting) c n y in
      let next : q ≡ x.requests.asked + 1 = next_is x.requests.asked x refl room in
      let more : Ready c n (delivered_by i) y disk (under replies rest) s = ready_act c n (delivered_by i) x disk (Minds y.requests x.presidency) (under replies rest) s fits rd in
      let known : Changed S n None None q y s.moments = added_so S n x ask s.moments room (and_cases _ _ is).0 b.so.queued b.so.pending in
      let onward : GoesSo c i n v Even y rest = subst (λ z. GoesSo c i n v z y rest) so.1.1 so.2 in
      walked S c P Q W N A B R n i v None replies rest None q y disk Even s reads range fits more (asks.asking_if_so c n i None None (is_idle x.requests.waiting) y) (hands.asking_if_so c n i v (is_idle x.requests.waiting) y)
      onward (each.monitors n i x ask) (record { so = known; carried = b.carried; came = b.came }) (asked_holds S c n i v disk.promised x ask s.moments next calm k) from (now q s.moments) acks
      (R.monitors n disk.promised s.links.next x ask s.moments next (and_cases _ _ is).0 calm inside) told

  asking_this : (n : ℕ) (i : Input) (replies : List Reply) (x : UpNode) (disk : NodeRecord) (o : Option Ask) (s : Scene) → (1 ≤ n) × (n ≤ 32) → All IsDevice c.attached → x.requests.asked < 2 ^ 64 - 1
      → ((ask : Ask) (u : Update) → o ≡ Some ask → request_of (version_of c) (ask_words_of ask) ≡ Ok (wish.Change u) → ⊥) → Ready c n (delivered_by i) x disk (under replies (cuts.asking_this_course c n x o)) s
      → GoesSo c i n (membership_in x.seat) Even x (cuts.asking_this_course c n x o) → Between S n i None None x.requests.asked x s → Holding S c n i (membership_in x.seat) disk.promised x s.moments → CameFrom i s.moments → ((last : ℕ) (ms : List Moment) → NowAsked S n i last ms)
      → AcksAfter S c P Q W N A B R n x disk (under replies (cuts.asking_this_course c n x o)) s → At P n disk.promised Even x s → W s.moments
      → LeftAfter S c P Q W N A B R n x disk (under replies (cuts.asking_this_course c n x o)) s
  asking_this n i replies x disk None s range fits room calm rd so b k from now acks inside told =
      walked S c P Q W N A B R n i (membership_in x.seat) None replies Stops None x.requests.asked x disk Even s reads range fits rd tt tt so tt b k from (now x.requests.asked s.moments) acks inside told
  asking_this n i replies x disk (Some ask) s range fits room calm rd so b k from now acks inside told =
      asking_when n i replies x disk ask s (is_member x.seat && not (is_full x.requests)) refl range fits room (λ u. calm ask u refl) rd so b k from now acks inside told

  pub reporting_left : (n : ℕ) (i : Input) (replies : List Reply) (x : UpNode) (disk : NodeRecord) (r : List ℕ) (p : Probed) (s : Scene) → (1 ≤ n) × (n ≤ 32) → All IsDevice c.attached → x.requests.asked < 2 ^ 64 - 1
      → Ready c n (delivered_by i) x disk (under replies (cuts.reporting_course c n x r p)) s → GoesSo c i n (membership_in x.seat) Even x (cuts.reporting_course c n x r p) → Between S n i None None x.requests.asked x s
      → Holding S c n i (membership_in x.seat) disk.promised x s.moments → CameFrom i s.moments → ((last : ℕ) (ms : List Moment) → NowAsked S n i last ms) → AcksAfter S c P Q W N A B R n x disk (under replies (cuts.reporting_course c n x r p)) s → At P n disk.promised Even x s → W s.moments
      → LeftAfter S c P Q W N A B R n x disk (under replies (cuts.reporting_course c n x r p)) s
  reporting_left n i replies x disk r probe.NoMonitor s range fits room rd so b k from now acks inside told =
      walked S c P Q W N A B R n i (membership_in x.seat) None replies Stops None x.requests.asked x disk Even s reads range fits rd tt tt so tt b k from (now x.requests.asked s.moments) acks inside told
  reporting_left n i replies x disk r probe.Good s range fits room rd so b k from now acks inside told =
      walked S c P Q W N A B R n i (membership_in x.seat) None replies (cuts.reporting_course c n x r probe.Good) None x.requests.asked x disk Even s reads range fits rd ((tt, tt), (tt, tt)) ((tt, tt), (tt, tt)) so
      (each.reports n i x r result.Ok, (each.works n i x (after_probe x.worker (own_config c x) r x.second probe.Good), tt)) b k from (now x.requests.asked s.moments) acks inside told
  reporting_left n i replies x disk r (probe.Failed a) s range fits room rd so b k from now acks inside told =
      let v : Option ℕ = membership_in x.seat in
      let tell : Act = Gives (report_told n r (result_of a) ∷ []) in
      let works : Act = Works (after_probe x.worker (own_config c x) r x.second (probe.Failed a)) in
      let y : UpNode = reported x c r (probe.Failed a) in
      let rest : Course = cuts.asking_this_course c n y (asked_by a r) in
      let t : Scene = passing n (report_told n r (result_of a) ∷ []) s in
      let more : List Output = given_all c n (site (Up y) disk) (under replies rest) in
      let first : Goes S n i None None x.requests.asked x (report_told n r (result_of a) ∷ []) s = goes_act S c n i None None x disk tell (Does works ∷ under replies rest) s reads.answers rd (tt, tt) b in
      let behind : Ready c n (delivered_by i) x disk (Does works ∷ under replies rest) t = ready_act c n (delivered_by i) x disk tell (Does works ∷ under replies rest) s fits rd in
      let second : Goes S n i None None x.requests.asked y [] t = goes_act S c n i None None x disk works (under replies rest) t reads.answers behind tt first.between in
      let after : Ready c n (delivered_by i) y disk (under replies rest) t = ready_act c n (delivered_by i) x disk works (under replies rest) t fits behind in
      let one : Next S c P W n i v disk.promised so.0 x t =
      one_act S c P Q W N A B R n i v None None x disk tell (Does works ∷ under replies rest) Even so.0 s reads range fits rd (tt, tt) (tt, tt) so.1 (each.reports n i x r (result_of a)) b k from (now x.requests.asked s.moments) acks inside told in
      let came : CameFrom i t.moments = from_stays i s.moments t.moments refl from in
      let later : AcksAfter S c P Q W N A B R n x disk (Does works ∷ under replies rest) t = then_acks n (report_told n r (result_of a) ∷ []) more s acks in
      let two : Next S c P W n i v disk.promised so.2.0 y t =
      one_act S c P Q W N A B R n i v None None x disk works (under replies rest) so.0 so.2.0 t reads range fits behind tt tt so.2.1 (each.works n i x (after_probe x.worker (own_config c x) r x.second (probe.Failed a)))
      first.between one.holds came (now x.requests.asked t.moments) later one.inside one.told in
      then_left P Q W n _ _ (report_told n r (result_of a) ∷ []) more s
      (asking_this n i replies y disk (asked_by a r) t range fits room (λ ask u is. reads.monitors a r ask u is) after (subst (λ z. GoesSo c i n v z y rest) so.2.1.1 so.2.2) second.between two.holds came now later
      (subst (λ z. At P n disk.promised z y t) so.2.1.1 two.inside) two.told)
