-- A whole step of a node keeps what is carried, whatever comes to it.
use Rattle.std.specs.Prelude.{ℕ, ◌≤◌, All, List, [], ◌∷◌, Option, None}
use Rattle.std.proofs.Common.{refl, subst}
use Rattle.cl_base.specs.declared.method.Outcome as method
use Rattle.cmm_attempt.specs.Calls.{IsDevice}
use Rattle.cmm_member.specs.Records.{NodeRecord}
use Rattle.rgm_member.specs.Probes.{probed}
use Rattle.status_report.specs.declared.node_entry.DownCause.TheVariants as down
use Rattle.run_commands.specs.carried.Steps.{CarriedSo}
use Rattle.history.specs.Moment.{Moment}
use Rattle.history.specs.Setting.{Setting}
use Rattle.node_model.specs.Configurations.{own_config}
use Rattle.node_model.specs.Steps.{at_second}
use Rattle.node_model.specs.declared.cluster.Cluster.{Cluster}
use Rattle.node_model.specs.declared.input.Input.{Input}
use Rattle.node_model.specs.declared.input.Input.TheVariants as input
use Rattle.node_model.specs.declared.node.Node.TheVariants.{Down}
use Rattle.node_model.specs.declared.node.UpNode.{UpNode}
use Rattle.refinement.proofs.Handlers.{delivered_by}
use Rattle.refinement.specs.Courses.{Reply, under}
use Rattle.refinement.specs.Courses.Reply.{Done, Lost_new, Lost_old}
use Rattle.refinement.specs.Cuts as cuts
use Rattle.refinement.specs.Cuts.{course_at, down_doings}
use Rattle.refinement.specs.Doings.{Act, Change, after_all, given_all, site}
use Rattle.refinement.specs.Doings.Act.{Dates}
use Rattle.run_history.specs.Happenings.{IsSaid}
use Rattle.run_history.specs.Scenes.{Scene}
use Rattle.run_messages.specs.Laws.{membership_in}
use Rattle.run_commands.specs.carried.Steps.{Counted}
use Rattle.run_commands.proofs.carried.Acting.{Ready, ready_act}
use Rattle.run_commands.proofs.carried.Boots.{at_first}
use Rattle.run_commands.proofs.carried.Causes.{CameSo}
use Rattle.run_commands.proofs.carried.Counts.{room_left}
use Rattle.run_commands.proofs.carried.Courses as asks
use Rattle.run_commands.proofs.carried.Leaving as leaving
use Rattle.run_commands.proofs.acknowledged.Acts.{Holding}
use Rattle.run_commands.proofs.acknowledged.Commands.{Reads}
use Rattle.run_commands.proofs.acknowledged.Courses as hands
use Rattle.run_commands.proofs.acknowledged.Steps.{dated_holds, up_dated}
use Rattle.run_commands.proofs.acknowledged.Carrying.{At, CameFrom, Carries, EachGoes, IsNoCommand}
use Rattle.run_commands.specs.acknowledged.AnsweringGuards.{Due, GoesSo}
use Rattle.run_commands.specs.acknowledged.AnsweringGuards.Due.{Even}
use Rattle.run_commands.proofs.acknowledged.Own.{NowAsked}
use Rattle.run_commands.proofs.acknowledged.AnsweringCommands.{AcksAfter, LeftAfter, command_left, walked}
use Rattle.run_commands.proofs.acknowledged.AnsweringReports.{reporting_left}
use Rattle.run_commands.proofs.acknowledged.AnsweringWalk.{Left}

module _ (S : Setting) (c : Cluster) (P : ℕ → ℕ → Due → UpNode → ℕ → List Moment → Type 0) (Q : ℕ → ℕ → List Moment → Type 0) (W : List Moment → Type 0) (N : ℕ → UpNode → Type 0) (A : Input → ℕ → Option ℕ → UpNode → Act → Type 0)
    (B : Input → ℕ → Option ℕ → UpNode → Change → Type 0) (R : Carries S c P Q W N A B) (each : EachGoes c N A B) (reads : Reads c S) where
  -- ---- a node that is up

  abbrev LeftBy : ℕ → ℕ → method.Outcome → List Reply → UpNode → NodeRecord → Input → Scene → Type 0
  LeftBy n now ends replies x disk i s = LeftAfter S c P Q W N A B R n x disk (under replies (course_at c n now ends x i)) s

  plain_left : (n now : ℕ) (ends : method.Outcome) (i : Input) (replies : List Reply) (x : UpNode) (disk : NodeRecord) (s : Scene) → (1 ≤ n) × (n ≤ 32) → All IsDevice c.attached → asks.IsNoCommand c n i None i
      → hands.IsNoCommand c n i (membership_in x.seat) i → IsNoCommand i → Ready c n (delivered_by i) x disk (under replies (course_at c n now ends x i)) s → leaving.UpSo S n x.requests.asked x s.moments
      → CarriedSo S s.moments → CameSo i n s.moments → GoesSo c i n (membership_in x.seat) Even x (course_at c n now ends x i) → Holding S c n i (membership_in x.seat) disk.promised x s.moments → CameFrom i s.moments
      → NowAsked S n i x.requests.asked s.moments → AcksAfter S c P Q W N A B R n x disk (under replies (course_at c n now ends x i)) s → At P n disk.promised Even x s → W s.moments → LeftBy n now ends replies x disk i s
  plain_left n now ends i replies x disk s range fits plain calm none r known carried came so k from asked_so acks inside told =
      walked S c P Q W N A B R n i (membership_in x.seat) None replies (course_at c n now ends x i) None x.requests.asked x disk Even s reads range fits r (asks.course_at_so c n i None now ends x i refl plain)
      (hands.course_at_so c n i (membership_in x.seat) now ends x i refl refl calm) so (each.plain n now ends x i none) (at_first S n i x s known carried came) k from asked_so acks inside told

  pub up_left : (n now : ℕ) (ends : method.Outcome) (i : Input) (replies : List Reply) (x : UpNode) (disk : NodeRecord) (s : Scene) → (1 ≤ n) × (n ≤ 32) → All IsDevice c.attached → IsSaid s.moments n i
      → Ready c n (delivered_by i) x disk (under replies (course_at c n now ends x i)) s → leaving.UpSo S n x.requests.asked x s.moments → CarriedSo S s.moments → CameSo i n s.moments → Counted x.requests.asked s.moments
      → GoesSo c i n (membership_in x.seat) Even x (course_at c n now ends x i) → Holding S c n i (membership_in x.seat) disk.promised x s.moments → CameFrom i s.moments
      → AcksAfter S c P Q W N A B R n x disk (under replies (course_at c n now ends x i)) s → At P n disk.promised Even x s → W s.moments → LeftBy n now ends replies x disk i s
  up_left n now ends (input.Commanded words) replies x disk s range fits said r known carried came counted so k from acks inside told =
      let y : UpNode = at_second now x in
      command_left S c P Q W N A B R n replies y disk words s each reads range fits (ready_act c n None x disk (Dates now) (under replies (cuts.command_course c n y words)) s fits r)
      (room_left x.requests.asked s.moments counted) said (up_dated S n now x s.moments known) carried
      (subst (λ z. GoesSo c (input.Commanded words) n (membership_in x.seat) z y (cuts.command_course c n y words)) so.1.1 so.2)
      (dated_holds S c n now (input.Commanded words) (membership_in x.seat) disk.promised x s.moments k) acks (R.dates n disk.promised now s.links.next x s.moments inside) told
  up_left n now ends (input.Reported p good) replies x disk s range fits said r known carried came counted so k from acks inside told =
      let y : UpNode = at_second now x in
      reporting_left S c P Q W N A B R each reads n (input.Reported p good) replies y disk p (probed y.worker (own_config c y) p good y.second) s range fits (room_left x.requests.asked s.moments counted)
      (ready_act c n None x disk (Dates now) (under replies (cuts.report_course c n y p good)) s fits r)
      (subst (λ z. GoesSo c (input.Reported p good) n (membership_in x.seat) z y (cuts.report_course c n y p good)) so.1.1 so.2)
      (record { so = record { queued = known.queued; now = tt; hand = tt; pending = λ text so is. known.pending text so is; last_so = refl }; carried = carried; came = tt })
      (dated_holds S c n now (input.Reported p good) (membership_in x.seat) disk.promised x s.moments k) tt (λ last ms. tt) acks (R.dates n disk.promised now s.links.next x s.moments inside) told
  up_left n now ends input.Boot replies x disk s range fits said r known carried came counted so k from acks inside told =
      plain_left n now ends input.Boot replies x disk s range fits tt tt tt r known carried came so k from tt acks inside told
  up_left n now ends input.Crash replies x disk s range fits said r known carried came counted so k from acks inside told =
      plain_left n now ends input.Crash replies x disk s range fits tt tt tt r known carried came so k from tt acks inside told
  up_left n now ends input.Tick replies x disk s range fits said r known carried came counted so k from acks inside told =
      plain_left n now ends input.Tick replies x disk s range fits tt tt tt r known carried came so k from tt acks inside told
  up_left n now ends (input.Packet from m) replies x disk s range fits said r known carried came counted so k letter acks inside told =
      plain_left n now ends (input.Packet from m) replies x disk s range fits tt tt tt r known carried came so k letter tt acks inside told
  up_left n now ends input.CommandDue replies x disk s range fits said r known carried came counted so k from acks inside told =
      plain_left n now ends input.CommandDue replies x disk s range fits tt tt tt r known carried came so k from tt acks inside told
  up_left n now ends (input.Answered a) replies x disk s range fits said r known carried came counted so k from acks inside told =
      plain_left n now ends (input.Answered a) replies x disk s range fits tt tt tt r known carried came so k from tt acks inside told
  up_left n now ends (input.Wrote d value a) replies x disk s range fits said r known carried came counted so k from acks inside told =
      plain_left n now ends (input.Wrote d value a) replies x disk s range fits tt tt tt r known carried came so k from tt acks inside told
  up_left n now ends (input.Client name client port) replies x disk s range fits said r known carried came counted so k from acks inside told =
      plain_left n now ends (input.Client name client port) replies x disk s range fits tt tt tt r known carried came so k from tt acks inside told

  -- ---- a node that is down

  booted : (n : ℕ) (replies : List Reply) (disk : NodeRecord) (s : Scene) → Q n disk.promised s.moments → W s.moments
      → Left P Q W n (after_all c n (site Down disk) (cuts.boot_doings replies)).disk.promised (after_all c n (site Down disk) (cuts.boot_doings replies)).node (given_all c n (site Down disk) (cuts.boot_doings replies)) s
  booted n [] disk s inside told = let r : _ = R.fails n disk.promised down.Stopped s inside told in record { own = r.0; told = r.1 }
  booted n (Done ∷ replies) disk s inside told = let r : _ = R.boots n disk s inside told in record { own = r.0; told = r.1 }
  booted n (Lost_new why ∷ replies) disk s inside told = let r : _ = R.fails n disk.promised why s inside told in record { own = r.0; told = r.1 }
  booted n (Lost_old why ∷ replies) disk s inside told = let r : _ = R.fails n disk.promised why s inside told in record { own = r.0; told = r.1 }

  pub down_left : (n : ℕ) (i : Input) (replies : List Reply) (disk : NodeRecord) (s : Scene) → Q n disk.promised s.moments → W s.moments
      → Left P Q W n (after_all c n (site Down disk) (down_doings replies i)).disk.promised (after_all c n (site Down disk) (down_doings replies i)).node (given_all c n (site Down disk) (down_doings replies i)) s
  down_left n input.Boot replies disk s inside told = booted n replies disk s inside told
  down_left n input.Crash replies disk s inside told = record { own = inside; told = told }
  down_left n input.Tick replies disk s inside told = record { own = inside; told = told }
  down_left n (input.Packet from m) replies disk s inside told = record { own = inside; told = told }
  down_left n input.CommandDue replies disk s inside told = record { own = inside; told = told }
  down_left n (input.Answered a) replies disk s inside told = record { own = inside; told = told }
  down_left n (input.Wrote d value a) replies disk s inside told = record { own = inside; told = told }
  down_left n (input.Commanded words) replies disk s inside told = record { own = inside; told = told }
  down_left n (input.Reported r good) replies disk s inside told = record { own = inside; told = told }
  down_left n (input.Client name client port) replies disk s inside told = record { own = inside; told = told }
