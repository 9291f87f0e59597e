-- What a node gives that a command comes to is what the case is to have.
use Rattle.std.specs.Prelude.{ℕ, ◌+◌, ◌%◌, ◌≡◌, ◌≢◌, ◌++◌, ◌==◌, ◌&&◌, ◌||◌, nat_le, not, Bool, true, false, List, [], ◌∷◌, Option, None, Some, Result, Ok, Err, is_ok, is_some, if◌then◌else◌}
use Rattle.std.specs.List.{list_any}
use Rattle.std.proofs.Common.{refl, sym, ap, subst, ◌∙◌, inl, inr, arith}
use Rattle.admin_commands.specs.declared.accepted.Accepted.{Accepted}
use Rattle.admin_commands.specs.declared.accepted.Accepted.TheVariants as accepted
use Rattle.admin_commands.specs.declared.error.CheckError.{CheckError}
use Rattle.admin_commands.specs.declared.error.CheckError.TheVariants as because
use Rattle.admin_words.specs.Commands.{command_of}
use Rattle.admin_words.specs.declared.error.WordError.{WordError}
use Rattle.ccr_tables.specs.State.{ConfigState}
use Rattle.ccr_tables.specs.Updates.{table_named}
use Rattle.ccr_tables.specs.declared.command.AdminCommand.{AdminCommand}
use Rattle.ccr_tables.specs.declared.command.AdminCommand.TheVariants.{Change, Act, Status, Rows}
use Rattle.cl_base.specs.declared.header.Header.{Header}
use Rattle.cmm_attempt.proofs.Basics.{false_true}
use Rattle.cmm_member.specs.Nodes.{NodeState}
use Rattle.record_disk.specs.Disks.{DiskState}
use Rattle.request_queue.specs.Queue.{is_full}
use Rattle.status_report.specs.declared.command_entry.Answer.{Answer}
use Rattle.status_report.specs.declared.command_entry.Answer.TheVariants as answer
use Rattle.status_report.specs.declared.command_entry.CommandEntry.TheVariants as said
use Rattle.status_report.specs.declared.entry.Entry.{Entry}
use Rattle.status_report.specs.declared.entry.Entry.TheVariants as entry
use Rattle.update_words.specs.Words.{ask_words_of, words_of}
use Rattle.history.specs.Commands.{AnswersQuery, count_monitors, count_waiting, has_own_answer, is_answered_to}
use Rattle.history.specs.Member.{member_of}
use Rattle.history.specs.Moment.{Moment, Told}
use Rattle.history.specs.Setting.{Setting, coordinator}
use Rattle.history_setting.proofs.Telling.{words_have_errors}
use Rattle.history_setting.specs.Settings.{canonical_in, canonical_words, error_in, is_asked, is_query_in, setting_of}
use Rattle.node_model.specs.Configurations.{in_force}
use Rattle.node_model.specs.Entries.{answered_line, replying}
use Rattle.node_model.specs.Plans.{Plan}
use Rattle.node_model.specs.Presidents.{answering_query, checked, query_lines, query_told, told_lines, word_answer}
use Rattle.node_model.specs.Requests.{asking_if, commanded, elsewhere, is_idle, queried, queued, waiting_with, worded}
use Rattle.node_model.specs.Seats.{coordinator_of, is_member, node_numbered, state_of}
use Rattle.node_model.specs.Steps.{carried}
use Rattle.node_model.specs.declared.cluster.Cluster.{Cluster}
use Rattle.node_model.specs.declared.node.UpNode.{UpNode}
use Rattle.node_model.specs.declared.output.Output.{Output}
use Rattle.node_model.specs.declared.output.Output.TheVariants.{Tells, Sends}
use Rattle.node_model.specs.declared.presidency.Presidency.{Presidency}
use Rattle.node_model.specs.declared.seat.Seat.{Seat}
use Rattle.node_model.specs.declared.seat.Seat.TheVariants.{Forming, Member}
use Rattle.refinement.specs.Steps.{disk_rules}
use Rattle.run_messages.specs.Laws.{membership_in}
use Rattle.run_commands.proofs.carried.Causes.{PresidentAt}
use Rattle.run_commands.specs.Guards.{IsLed}
use Rattle.run_commands.proofs.Fitting.{none_own, numbered_is, own_epoch, query_is}
use Rattle.run_commands.proofs.Presiding.{Presides}
use Rattle.run_commands.proofs.Requesting.{IsOfQuery, rows_of_query}
use Rattle.run_commands.specs.taken.Entries.{Leave, any_told}
use Rattle.run_commands.proofs.taken.Cases.{FitsIn, bad_fits, elsewhere_fits, full_fits, replies, stranger_fits, taken_fits}
use Rattle.run_commands.proofs.taken.Free.{NoCause}

-- what is known of a node that a command comes to, behind these moments, and of the entries that it leaves
pub record Came (h : Header) (n : ℕ) (y : UpNode) (words : List ℕ) (ms later : List Moment) : Type 0 where
  pub at : member_of n ms ≡ membership_in y.seat
  pub presides : Presides n y.seat y.presidency
  pub president : is_some y.presidency ≡ true → PresidentAt y n
  pub led : IsLed y
  pub enough : is_full y.requests ≡ true → nat_le 64 (count_waiting n ms + count_monitors n ms) ≡ true
  pub filled : nat_le 64 (count_waiting n ms) ≡ true → is_full y.requests ≡ true
  pub free : NoCause h.version y words → list_any has_own_answer later ≡ false

-- the last output tells what passes
any_last : (test : Moment → Bool) (os : List Output) (e : Entry) → test (Told e) ≡ true → any_told test (os ++ Tells e ∷ []) ≡ true
any_last test [] e is = or_first (test (Told e)) false is
  where
    or_first : (a b : Bool) → a ≡ true → (a || b) ≡ true
    or_first true b k = refl
    or_first false b k = cc
any_last test (Tells f ∷ os) e is = or_second (test (Told f)) (any_told test (os ++ Tells e ∷ [])) (any_last test os e is)
  where
    or_second : (a b : Bool) → b ≡ true → (a || b) ≡ true
    or_second true b k = refl
    or_second false b k = k
any_last test (Sends to b ∷ os) e is = any_last test os e is

is_same : (k : ℕ) → (k == k) ≡ true
is_same k = grind arith

both_true : (a b : Bool) → a ≡ true → b ≡ true → (a && b) ≡ true
both_true true b g h = h
both_true false b g h = cc

same_is : (a b : ℕ) → a ≡ b → (a == b) ≡ true
same_is a b e = grind arith

same_not : (a b : ℕ) → a ≡ b → not (a == b) ≡ false
same_not a b e = grind arith

other_not : (a b : ℕ) → a ≢ b → not (a == b) ≡ true
other_not a b ne = grind arith

and_second : (a b : Bool) → b ≡ false → (a && b) ≡ false
and_second true b h = h
and_second false b h = refl

and_first : (a b : Bool) → a ≡ false → (a && b) ≡ false
and_first true b h = cc
and_first false b h = refl

module _ (h : Header) (c : Cluster) (n q : ℕ) (y : UpNode) (words : List ℕ) (ms later : List Moment) (disk : DiskState) (k : Came h n y words ms later) where
  abbrev S : Setting
  S = setting_of h

  -- the entries are those of this plan, behind the line of the command
  abbrev By : Plan → Type 0
  By p = Leave (carried disk_rules.saving n p (Tells (entry.Command (said.Asked n q)) ∷ []) disk).given later

  abbrev Goal : Option (List ℕ) → Option ℕ → Type 0
  Goal canonical membership = FitsIn S n q words ms later canonical membership

  replied : (reply : Answer) → By (replying n q reply y) → later ≡ replies n q reply
  replied reply by = by.all tt

  -- ---- words that are no command's, and a node that is no member

  bad : (e : WordError) → command_of h.version words ≡ Err e → By (replying n q (word_answer e) y) → Goal (S.canonical words) (member_of n ms)
  bad e read by =
      let none : S.canonical words ≡ None = ap canonical_in read in
      subst (λ o. Goal o (member_of n ms)) (sym none)
      (bad_fits S n q words ms later (member_of n ms) ((words_have_errors h words).0 none) (replied (word_answer e) by ∙ ap (λ z. replies n q z) (sym (ap error_in read))))

  -- its canonical words, and its membership
  of_command : (command : AdminCommand) (membership : Option ℕ) → command_of h.version words ≡ Ok command → member_of n ms ≡ membership → Goal (Some (canonical_words command)) membership
      → Goal (S.canonical words) (member_of n ms)
  of_command command membership read at g = subst (λ o. Goal o (member_of n ms)) (sym (ap canonical_in read)) (subst (λ m. Goal (Some (canonical_words command)) m) (sym at) g)

  -- ---- a member

  module _ (command : AdminCommand) (read : command_of h.version words ≡ Ok command) (t : NodeState) (sits : y.seat ≡ Member t) where
    abbrev Fitting : Type 0
    Fitting = Goal (Some (canonical_words command)) (Some t.session)

    asks : S.is_query (canonical_words command) ≡ is_asked command
    asks = query_is h words command read

    here : is_member y.seat ≡ true
    here = ap is_member sits

    -- nothing is to be answered by the node itself where its queue is not full, and no query comes to another than the president
    no_cause : is_full y.requests ≡ false → (is_asked command ≡ true → is_some y.presidency ≡ true) → NoCause h.version y words
    no_cause room office reply (inl cause) = false_true (sym (ap is_ok cause.read) ∙ ap is_ok read)
    no_cause room office reply (inr (inl cause)) = false_true (sym cause.seated ∙ here)
    no_cause room office reply (inr (inr (inl cause))) =
        false_true (sym (ap is_some cause.none) ∙ office (sym (ap is_query_in read) ∙ (ap is_query_in cause.read ∙ cause.query)))
    no_cause room office reply (inr (inr (inr cause))) = false_true (sym room ∙ cause.full)

    few_wait : is_full y.requests ≡ false → nat_le 64 (count_waiting n ms) ≡ false
    few_wait room = by_test (nat_le 64 (count_waiting n ms)) refl
      where
        by_test : (b : Bool) → nat_le 64 (count_waiting n ms) ≡ b → b ≡ false
        by_test false is = refl
        by_test true is = absurd (false_true (sym room ∙ k.filled is))

    -- a queue that is full, of a command that is for this node
    full_so : (is_asked command && not (coordinator t.session == n)) ≡ false → is_full y.requests ≡ true → By (replying n q answer.QueueFull y) → Fitting
    full_so own full by =
        full_fits S n q words ms later (canonical_words command) t.session (ap (λ b. b && not (coordinator t.session == n)) asks ∙ own) (k.enough full) (replied answer.QueueFull by)

    room_so : (is_asked command && not (coordinator t.session == n)) ≡ false → is_full y.requests ≡ false → (is_asked command ≡ true → is_some y.presidency ≡ true)
        → AnswersQuery (is_asked command && (coordinator t.session == n)) n q later → Fitting
    room_so own room office answers =
        taken_fits S n q words ms later (canonical_words command) t.session (ap (λ b. b && not (coordinator t.session == n)) asks ∙ own) (few_wait room) (k.free (no_cause room office))
        (subst (λ b. AnswersQuery (b && (coordinator t.session == n)) n q later) (sym asks) answers)

    -- what goes to the president waits behind the others
    queued_so : (text : List ℕ) → is_asked command ≡ false → By (queued c n y q text) → Fitting
    queued_so text none by = by_test (is_full y.requests) refl by
      where
        own : (is_asked command && not (coordinator t.session == n)) ≡ false
        own = and_first (is_asked command) (not (coordinator t.session == n)) none

        by_test : (b : Bool) → is_full y.requests ≡ b → By (if b then replying n q answer.QueueFull y else asking_if (is_idle y.requests.waiting) c n (waiting_with y q text)) → Fitting
        by_test true full l = full_so own full l
        by_test false room l =
            room_so own room (λ is. absurd (false_true (sym none ∙ is))) (subst (λ b. AnswersQuery (b && (coordinator t.session == n)) n q later) (sym none) tt)

    -- a query of which another node is president
    elsewhere_so : is_asked command ≡ true → y.presidency ≡ None → By (elsewhere n y q (coordinator_of y)) → Fitting
    elsewhere_so is none by = by_node (coordinator_of y) refl by
      where
        other : coordinator t.session ≢ n
        other own = none_own n t y.presidency none (subst (λ z. Presides n z y.presidency) sits k.presides) own

        at : (president : ℕ) → coordinator_of y ≡ Some president → president ≡ coordinator t.session
        at president found = numbered_is (t.session % 64) president (sym (ap (λ (z : Seat). node_numbered ((state_of z).session % 64)) sits) ∙ found)

        by_node : (o : Option ℕ) → coordinator_of y ≡ o → By (elsewhere n y q o) → Fitting
        by_node None found l = absurd (false_true (sym (ap is_some found) ∙ k.led here))
        by_node (Some president) found l =
            elsewhere_fits S n q words ms later (canonical_words command) t.session
            (both_true (S.is_query (canonical_words command)) (not (coordinator t.session == n)) (asks ∙ is) (other_not (coordinator t.session) n other))
            (replied (answer.Ask president) l ∙ ap (λ z. replies n q (answer.Ask z)) (at president found))

    -- the president answers at once
    answered_so : (p : Presidency) (s : ConfigState) (r : Result Accepted CheckError) → IsOfQuery r → By (query_told n y p q s r) → list_any (is_answered_to n q) later ≡ true
    answered_so p s (Ok (accepted.Query u)) of by = by.any (is_answered_to n q) (λ e. refl) ∙ any_last (is_answered_to n q) (Tells (entry.Command (said.Asked n q)) ∷ told_lines (query_lines y p s u)) (answered_line n q answer.Ok) (both_true (n == n) (q == q) (is_same n) (is_same q))
    answered_so p s (Ok (accepted.Change u)) of by = absurd of
    answered_so p s (Ok (accepted.Act ask)) of by = absurd of
    answered_so p s (Err (because.Refused r)) of by =
        by.any (is_answered_to n q) (λ e. refl)
        ∙ any_last (is_answered_to n q) (Tells (entry.Command (said.Asked n q)) ∷ []) (answered_line n q (answer.Refused r)) (both_true (n == n) (q == q) (is_same n) (is_same q))
    answered_so p s (Err because.NoMemory) of by = absurd of

    president_so : (p : Presidency) (question : AdminCommand) → is_asked command ≡ true → y.presidency ≡ Some p → IsOfQuery (checked c y p question)
        → By (if is_full y.requests then replying n q answer.QueueFull y else answering_query c n y p q question) → Fitting
    president_so p question is office of by = by_test (is_full y.requests) refl by
      where
        some : is_some y.presidency ≡ true
        some = ap is_some office

        mine : coordinator t.session ≡ n
        mine = own_epoch n y t (ap membership_in sits) (k.president some)

        own : (is_asked command && not (coordinator t.session == n)) ≡ false
        own = and_second (is_asked command) (not (coordinator t.session == n)) (same_not (coordinator t.session) n mine)

        by_test : (b : Bool) → is_full y.requests ≡ b → By (if b then replying n q answer.QueueFull y else answering_query c n y p q question) → Fitting
        by_test true full l = full_so own full l
        by_test false room l =
            room_so own room (λ asked. some)
            (subst (λ b. AnswersQuery b n q later) (sym (both_true (is_asked command) (coordinator t.session == n) is (same_is (coordinator t.session) n mine)))
            (answered_so p (in_force c y) (checked c y p question) of l))

    queried_so : (question : AdminCommand) → is_asked command ≡ true → ((p : Presidency) → IsOfQuery (checked c y p question)) → By (queried c n y q question y.presidency) → Fitting
    queried_so question is of by = by_office y.presidency refl by
      where
        by_office : (o : Option Presidency) → y.presidency ≡ o → By (queried c n y q question o) → Fitting
        by_office None none l = elsewhere_so is none l
        by_office (Some p) office l = president_so p question is office (of p) l

  commanded_so : (command : AdminCommand) (t : NodeState) → command_of h.version words ≡ Ok command → y.seat ≡ Member t → By (commanded c n y q command)
      → Goal (Some (canonical_words command)) (Some t.session)
  commanded_so (Change u) t read sits by = queued_so (Change u) read t sits (words_of u) refl by
  commanded_so (Act a) t read sits by = queued_so (Act a) read t sits (ask_words_of a) refl by
  commanded_so (Status u) t read sits by = queried_so (Status u) read t sits (Status u) refl (λ p. tt) by
  commanded_so (Rows table) t read sits by =
      queried_so (Rows table) read t sits (Rows table) refl (λ p. rows_of_query (table_named (in_force c y).groups.version table) table) by

  -- ---- each command

  seated_so : (command : AdminCommand) (seat : Seat) → command_of h.version words ≡ Ok command → y.seat ≡ seat
      → By (if is_member seat then commanded c n y q command else replying n q answer.NotMember y) → Goal (S.canonical words) (member_of n ms)
  seated_so command (Forming t) read sits by =
      of_command command None read (k.at ∙ ap membership_in sits) (stranger_fits S n q words ms later (canonical_words command) (replied answer.NotMember by))
  seated_so command (Member t) read sits by = of_command command (Some t.session) read (k.at ∙ ap membership_in sits) (commanded_so command t read sits by)

  read_so : (r : Result AdminCommand WordError) → command_of h.version words ≡ r → By (worded c n y q r) → Goal (S.canonical words) (member_of n ms)
  read_so (Err e) read by = bad e read by
  read_so (Ok command) read by = seated_so command y.seat read refl by

  pub command_fits : By (worded c n y q (command_of h.version words)) → Goal (S.canonical words) (member_of n ms)
  command_fits by = read_so (command_of h.version words) refl by
