-- In each course of a command, of a monitor's report and of a president's Answer only a query that has just come is answered `ok`, or what the Answer says is told.
use Rattle.std.specs.Prelude.{ℕ, ◌≡◌, ◌&&◌, not, Bool, true, List, [], ◌∷◌, Option, None, Some, Result, Ok, Err, is_some}
use Rattle.std.proofs.Common.{refl, ap, inl, inr}
use Rattle.attempt_laws.proofs.Walk.{if_with}
use Rattle.admin_commands.specs.declared.accepted.Accepted.{Accepted}
use Rattle.admin_commands.specs.declared.accepted.Accepted.TheVariants as accepted
use Rattle.admin_commands.specs.declared.error.CheckError.{CheckError}
use Rattle.admin_commands.specs.declared.error.CheckError.TheVariants as because
use Rattle.admin_words.specs.Commands.{command_of}
use Rattle.admin_words.specs.declared.error.WordError.{WordError}
use Rattle.admin_words.specs.declared.error.WordError.TheVariants as word
use Rattle.answer_words.specs.Answers.{answer_in}
use Rattle.ccr_tables.specs.State.{ConfigState}
use Rattle.ccr_tables.specs.declared.command.AdminCommand.{AdminCommand}
use Rattle.ccr_tables.specs.declared.command.AdminCommand.TheVariants as wish
use Rattle.cl_base.specs.declared.command.Ask.{Ask}
use Rattle.cmm_attempt.proofs.Basics.{and_cases}
use Rattle.history_setting.specs.Settings.{is_asked}
use Rattle.request_queue.specs.Queue as queue
use Rattle.request_queue.specs.Queue.{found, is_full, next_number}
use Rattle.request_queue.specs.declared.request.Request.{Request}
use Rattle.rgm_member.specs.Probes.{probed}
use Rattle.rgm_member.specs.declared.probed.Probed.{Probed}
use Rattle.rgm_member.specs.declared.probed.Probed.TheVariants as probe
use Rattle.status_report.specs.declared.command_entry.Answer.{Answer}
use Rattle.status_report.specs.declared.command_entry.Answer.TheVariants as answer
use Rattle.status_report.specs.declared.status_entry.StatusEntry.{StatusEntry}
use Rattle.update_words.specs.Words.{ask_words_of, words_of}
use Rattle.wire.specs.declared.message.Body.TheVariants as body
use Rattle.wire.specs.declared.message.Message.{Message}
use Rattle.node_model.specs.Configurations.{in_force, own_config}
use Rattle.node_model.specs.Entries.{answered_line}
use Rattle.node_model.specs.Groups.{asked_by, monitor_asked, reported}
use Rattle.node_model.specs.Presidents.{checked, query_lines, word_answer}
use Rattle.node_model.specs.Requests.{is_idle, numbered, waiting_with}
use Rattle.node_model.specs.Seats.{coordinator_of, is_in, is_member, version_of}
use Rattle.node_model.specs.declared.cluster.Cluster.{Cluster}
use Rattle.node_model.specs.declared.input.Input.{Input}
use Rattle.node_model.specs.declared.input.Input.TheVariants.{Commanded, Packet}
use Rattle.node_model.specs.declared.node.UpNode.{UpNode}
use Rattle.node_model.specs.declared.output.Output.TheVariants.{Tells}
use Rattle.node_model.specs.declared.presidency.Presidency.{Presidency}
use Rattle.refinement.specs.Courses.{Course}
use Rattle.refinement.specs.Cuts as cuts
use Rattle.run_commands.specs.acknowledged.Guards.{CauseOf}
use Rattle.run_commands.specs.acknowledged.AnsweringGuards.{GoesSo, IsStill}
use Rattle.run_commands.specs.acknowledged.AnsweringGuards.Due.{Even}
use Rattle.run_commands.proofs.acknowledged.Dues.{lines_still, reply_given, same_office}
use Rattle.run_commands.proofs.acknowledged.Forming.{either_so}
use Rattle.run_commands.proofs.acknowledged.Offices.{asking_if_so, asking_so}

error_still : (me q : ℕ) (e : WordError) → IsStill (Tells (answered_line me q (word_answer e)))
error_still me q word.UnknownCommand = tt
error_still me q word.MissingOperand = tt
error_still me q word.BadValue = tt
error_still me q word.NoMemory = tt

-- which query it is, and the number that it has taken
record Asks (c : Cluster) (came : Input) (words : List ℕ) (x : UpNode) (number : ℕ) (question : AdminCommand) : Type 0 where
  input : came ≡ Commanded words
  read : command_of (version_of c) words ≡ Ok question
  asked : is_asked question ≡ true
  number_so : number ≡ x.requests.asked

module _ (c : Cluster) (me : ℕ) (came : Input) (v : Option ℕ) where
  abbrev G : UpNode → Course → Type 0
  G x k = GoesSo c came me v Even x k

  -- a command that came

  replying_so : (x : UpNode) (number : ℕ) (told : Answer) → IsStill (Tells (answered_line me number told)) → G x (cuts.replying_course me number told)
  replying_so x number told still = (Even, inl ((still, tt), refl), refl)

  waiting_so : (x : UpNode) (number : ℕ) (text : List ℕ) → G x (cuts.waiting_course c me x number text)
  waiting_so x number text =
      either_so c me came v x (is_full x.requests) _ _ (replying_so x number answer.QueueFull tt)
      (Even, (same_office (CauseOf came me v x) x.presidency, refl), asking_if_so c me came v (is_idle x.requests.waiting) (waiting_with x number text))

  elsewhere_so : (x : UpNode) (number : ℕ) (o : Option ℕ) → G x (cuts.elsewhere_course me number o)
  elsewhere_so x number None = refl
  elsewhere_so x number (Some president) = replying_so x number (answer.Ask president) tt

  telling_so : (words : List ℕ) (x : UpNode) (number : ℕ) (question : AdminCommand) (lines : List StatusEntry) → Asks c came words x number question → is_some x.presidency ≡ true → G x (cuts.telling_course me number lines)
  telling_so words x number question lines k president = (
    Even,
    inl (lines_still lines, refl),
    (
      Even,
      inr (inr (
        inl (record {
          words = words;
          input = k.input;
          question = question;
          read = k.read;
          asked = k.asked;
          president = president;
          is = ap (λ q. Tells (answered_line me q answer.Ok) ∷ []) k.number_so;
        }),
        refl,
      )),
      refl,
    ),
  )

  query_so : (words : List ℕ) (x : UpNode) (p : Presidency) (number : ℕ) (question : AdminCommand) (s : ConfigState) (r : Result Accepted CheckError) → Asks c came words x number question → is_some x.presidency ≡ true
      → G x (cuts.query_course me x p number s r)
  query_so words x p number question s (Ok (accepted.Query q)) k president = telling_so words x number question (query_lines x p s q) k president
  query_so words x p number question s (Ok (accepted.Change u)) k president = refl
  query_so words x p number question s (Ok (accepted.Act ask)) k president = refl
  query_so words x p number question s (Err (because.Refused r)) k president = replying_so x number (answer.Refused r) tt
  query_so words x p number question s (Err because.NoMemory) k president = refl

  queried_so : (words : List ℕ) (x : UpNode) (number : ℕ) (question : AdminCommand) (o : Option Presidency) → x.presidency ≡ o → Asks c came words x number question → G x (cuts.queried_course c me x number question o)
  queried_so words x number question None is k = elsewhere_so x number (coordinator_of x)
  queried_so words x number question (Some p) is k =
      either_so c me came v x (is_full x.requests) _ _ (replying_so x number answer.QueueFull tt)
      (query_so words x p number question (in_force c x) (checked c x p question) k (ap (λ (o : Option Presidency). is_some o) is))

  commanded_so : (words : List ℕ) (x : UpNode) (number : ℕ) (o : AdminCommand) → came ≡ Commanded words → command_of (version_of c) words ≡ Ok o → number ≡ x.requests.asked
      → G x (cuts.commanded_course c me x number o)
  commanded_so words x number (wish.Change u) at read same = waiting_so x number (words_of u)
  commanded_so words x number (wish.Act a) at read same = waiting_so x number (ask_words_of a)
  commanded_so words x number (wish.Status q) at read same = queried_so words x number (wish.Status q) x.presidency refl (record { input = at; read = read; asked = refl; number_so = same })
  commanded_so words x number (wish.Rows table) at read same =
      queried_so words x number (wish.Rows table) x.presidency refl (record { input = at; read = read; asked = refl; number_so = same })

  pub worded_so : (words : List ℕ) (x : UpNode) (number : ℕ) (r : Result AdminCommand WordError) → came ≡ Commanded words → command_of (version_of c) words ≡ r → number ≡ x.requests.asked
      → G x (cuts.worded_course c me x number r)
  worded_so words x number (Err e) at read same = replying_so x number (word_answer e) (error_still me number e)
  worded_so words x number (Ok command) at read same =
      either_so c me came v x (is_member x.seat) _ _ (commanded_so words x number command at read same) (replying_so x number answer.NotMember tt)

  pub command_so : (words : List ℕ) (x : UpNode) → came ≡ Commanded words → G x (cuts.command_course c me x words)
  command_so words x at = (
    Even,
    inl ((tt, tt), refl),
    (
      Even,
      (same_office (CauseOf came me v x) x.presidency, refl),
      worded_so words (numbered x) (next_number x.requests) (command_of (version_of c) words) at refl refl,
    ),
  )

  -- a monitor reports

  pub asking_this_so : (x : UpNode) (o : Option Ask) → G x (cuts.asking_this_course c me x o)
  asking_this_so x None = refl
  asking_this_so x (Some ask) =
      either_so c me came v x (is_member x.seat && not (is_full x.requests)) _ _
      (Even, (same_office (CauseOf came me v x) x.presidency, refl), asking_if_so c me came v (is_idle x.requests.waiting) (monitor_asked x ask)) refl

  reporting_so : (x : UpNode) (r : List ℕ) (p : Probed) → G x (cuts.reporting_course c me x r p)
  reporting_so x r probe.NoMonitor = refl
  reporting_so x r probe.Good = (Even, inl ((tt, tt), refl), (Even, (refl, refl), refl))
  reporting_so x r (probe.Failed a) = (Even, inl ((tt, tt), refl), (Even, (refl, refl), asking_this_so (reported x c r (probe.Failed a)) (asked_by a r)))

  pub report_so : (x : UpNode) (r : List ℕ) (good : Bool) → G x (cuts.report_course c me x r good)
  report_so x r good = reporting_so x r (probed x.worker (own_config c x) r good x.second)

  -- the president's Answer

  replied_to_so : (x : UpNode) (from : ℕ) (m : Message) (e number : ℕ) (text : List ℕ) (told : Answer) (o : Option Request) → came ≡ Packet from m → m.body ≡ body.Answer e number text → answer_in text ≡ Some told → is_in x e ≡ true
      → found x.requests.waiting number ≡ o → G x (cuts.replied_to_course c me x number told o)
  replied_to_so x from m e number text told None at says reads here is = refl
  replied_to_so x from m e number text told (Some r) at says reads here is = (
    Even,
    reply_given c came me x from m e number text told r at says reads here is,
    (Even, (same_office (CauseOf came me v x) x.presidency, refl), asking_so c me came v (record x { requests = queue.answered x.requests number })),
  )

  replied_so : (x : UpNode) (from : ℕ) (m : Message) (e number : ℕ) (text : List ℕ) (o : Option Answer) → came ≡ Packet from m → m.body ≡ body.Answer e number text → answer_in text ≡ o → is_in x e ≡ true
      → G x (cuts.replied_course c me x number o)
  replied_so x from m e number text None at says reads here = refl
  replied_so x from m e number text (Some told) at says reads here = replied_to_so x from m e number text told (found x.requests.waiting number) at says reads here refl

  pub reply_so : (x : UpNode) (from : ℕ) (m : Message) (e number : ℕ) (text : List ℕ) → came ≡ Packet from m → m.body ≡ body.Answer e number text → G x (cuts.reply_course c me x e number (answer_in text))
  reply_so x from m e number text at says =
      if_with (λ z. G x z) (is_member x.seat && is_in x e) (is_member x.seat && is_in x e) _ _ refl
      (λ both. replied_so x from m e number text (answer_in text) at says refl (and_cases (is_member x.seat) (is_in x e) both).1) (λ not_both. refl)
