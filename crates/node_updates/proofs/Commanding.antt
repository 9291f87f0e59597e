-- A command makes a request, or is answered.
use Rattle.std.proofs.Common.{◌≡◌, ◌≢◌, ◌⊎◌, inl, inr, ℕ, Bool, true, false, if◌then◌else◌, List, ◌++◌, Option, None, Some, Result, Ok, Err, IfOk, refl, ap, subst, sym, ◌∙◌}
use Rattle.std.proofs.lemmas.Option.{none-some, same_Some}
use Rattle.admin_words.specs.Commands.{command_of}
use Rattle.admin_words.specs.declared.error.WordError.{WordError}
use Rattle.admin_words.specs.declared.error.WordError.TheVariants.{NoMemory}
use Rattle.ccr_tables.specs.declared.command.AdminCommand.{AdminCommand}
use Rattle.ccr_tables.specs.declared.command.AdminCommand.TheVariants.{Change, Act, Status, Rows}
use Rattle.cmm_member.specs.Records.{NodeRecord}
use Rattle.record_disk.specs.Savings.{Saving}
use Rattle.request_queue.specs.Queue.{next_number}
use Rattle.status_report.specs.declared.command_entry.Answer.{Answer}
use Rattle.status_report.specs.declared.command_entry.Answer.TheVariants.{NotMember}
use Rattle.update_words.specs.Words.{ask_words_of, words_of}
use Rattle.node_model.specs.declared.cluster.Cluster.{Cluster}
use Rattle.node_model.specs.declared.node.UpNode.{UpNode}
use Rattle.node_model.specs.declared.output.Output.{Output}
use Rattle.node_model.specs.declared.stop.Stop.{Stop}
use Rattle.node_model.specs.Entries.{replying}
use Rattle.node_model.specs.Plans.{Plan, Follows, Gives}
use Rattle.node_model.specs.Presidents.{word_answer}
use Rattle.node_model.specs.Requests.{commanded, numbered, on_command, queried, queued, worded}
use Rattle.node_model.specs.Seats.{is_member, version_of}
use Rattle.node_model.proofs.Plans.{follows_says, gives_follows}
use Rattle.node_updates.specs.Commands.{asked_line, obeyed, read_as, request_text}

queued_so : (c : Cluster) (me : ℕ) (x : UpNode) (number : ℕ) (command : AdminCommand) (text : List ℕ) → request_text command ≡ Some text → commanded c me x number command ≡ queued c me x number text
queued_so c me x number (Change u) text is = ap (queued c me x number) (same_Some (words_of u) text is)
queued_so c me x number (Act a) text is = ap (queued c me x number) (same_Some (ask_words_of a) text is)
queued_so c me x number (Status q) text is = absurd (none-some text is)
queued_so c me x number (Rows table) text is = absurd (none-some text is)

queried_so : (c : Cluster) (me : ℕ) (x : UpNode) (number : ℕ) (command : AdminCommand) → request_text command ≡ None → commanded c me x number command ≡ queried c me x number command x.presidency
queried_so c me x number (Change u) is = absurd (none-some (words_of u) (sym is))
queried_so c me x number (Act a) is = absurd (none-some (ask_words_of a) (sym is))
queried_so c me x number (Status q) is = refl
queried_so c me x number (Rows table) is = refl

-- its request waits
pub makes_request : {K : Type 0} → (saving : K → NodeRecord → Saving K) (c : Cluster) (me : ℕ) (x : UpNode) (number : ℕ) (command : AdminCommand) (found : Option (List ℕ)) (text : List ℕ) (result : Result UpNode Stop) (given after : List Output) (disk left : K)
    → found ≡ request_text command → found ≡ Some text → Follows saving (queued c me x number text) given disk result after left → Follows saving (commanded c me x number command) given disk result after left
makes_request saving c me x number command found text result given after disk left is some h =
    subst (λ (plan : Plan). Follows saving plan given disk result after left) (sym (queued_so c me x number command text (sym is ∙ some))) h

-- it is a query
pub makes_none : {K : Type 0} → (saving : K → NodeRecord → Saving K) (c : Cluster) (me : ℕ) (x : UpNode) (number : ℕ) (command : AdminCommand) (found : Option (List ℕ)) (result : Result UpNode Stop) (given after : List Output) (disk : K)
    → found ≡ request_text command → found ≡ None → Gives (queried c me x number command x.presidency) given result after → Follows saving (commanded c me x number command) given disk result after disk
makes_none saving c me x number command found result given after disk is none h =
    subst (λ (plan : Plan). Follows saving plan given disk result after disk) (sym (queried_so c me x number command (sym is ∙ none)))
    (gives_follows saving (queried c me x number command x.presidency) given after result disk h)

-- What words are read as.

pub reads_command : (found : Result AdminCommand WordError) (command : AdminCommand) (member : Bool) → found ≡ Ok command → member ≡ true → Ok command ≡ read_as member found
unfolding read_as
reads_command found command member is so = sym (ap (λ r. read_as member r) is ∙ ap (λ b. read_as b (Ok command)) so)

pub reads_other : (found : Result AdminCommand WordError) (command : AdminCommand) (member : Bool) → found ≡ Ok command → member ≡ false → Err NotMember ≡ read_as member found
unfolding read_as
reads_other found command member is so = sym (ap (λ r. read_as member r) is ∙ ap (λ b. read_as b (Ok command)) so)

pub reads_error : (found : Result AdminCommand WordError) (e : WordError) (told : Answer) (member : Bool) → (e ≡ NoMemory) ⊎ (found ≡ Err e) → e ≢ NoMemory → told ≡ word_answer e → Err told ≡ read_as member found
unfolding read_as
reads_error found e told member (inl none) some so = absurd (some none)
reads_error found e told member (inr is) some so = ap (λ a. Err a) so ∙ sym (ap (λ r. read_as member r) is)

obeyed_by : (c : Cluster) (me : ℕ) (x : UpNode) (number : ℕ) (found : Result AdminCommand WordError) (member : Bool) → member ≡ is_member x.seat → obeyed c me x number (read_as member found) ≡ worded c me x number found
unfolding read_as
obeyed_by c me x number (Err e) member is = refl
obeyed_by c me x number (Ok command) true is = ap (λ b. if b then commanded c me x number command else replying me number NotMember x) is
obeyed_by c me x number (Ok command) false is = ap (λ b. if b then commanded c me x number command else replying me number NotMember x) is

-- a command is read at a member alone
pub reads_member : (found : Result AdminCommand WordError) (read : Result AdminCommand Answer) (member : Bool) → read ≡ read_as member found → IfOk read (λ _. member ≡ true)
unfolding read_as
reads_member (Err e) read member is = subst (λ r. IfOk r (λ _. member ≡ true)) (sym is) tt
reads_member (Ok command) read true is = subst (λ r. IfOk r (λ _. true ≡ true)) (sym is) refl
reads_member (Ok command) read false is = subst (λ r. IfOk r (λ _. false ≡ true)) (sym is) tt

-- it has its number, which is told, and what was read is obeyed
pub takes : {K : Type 0} → (saving : K → NodeRecord → Saving K) (c : Cluster) (me : ℕ) (x y : UpNode) (words : List ℕ) (number : ℕ) (read : Result AdminCommand Answer) (result : Result UpNode Stop) (given mid after : List Output) (disk left : K)
    → number ≡ next_number x.requests → y ≡ numbered x → mid ≡ given ++ asked_line me (next_number x.requests)
    → read ≡ read_as (is_member x.seat) (command_of (version_of c) words)
    → Follows saving (obeyed c me y number read) mid disk result after left
    → Follows saving (on_command c me x words) given disk result after left
takes saving c me x y words number read result given mid after disk left numbered_so is told read_so h =
    follows_says saving (asked_line me (next_number x.requests)) (worded c me (numbered x) (next_number x.requests) (command_of (version_of c) words)) given after disk left result
    (subst (λ m. Follows saving (worded c me (numbered x) (next_number x.requests) (command_of (version_of c) words)) m disk result after left) told
    (subst (λ z. Follows saving (worded c me z (next_number x.requests) (command_of (version_of c) words)) mid disk result after left) is
    (subst (λ n. Follows saving (worded c me y n (command_of (version_of c) words)) mid disk result after left) numbered_so
    (subst (λ (plan : Plan). Follows saving plan mid disk result after left) (obeyed_by c me y number (command_of (version_of c) words) (is_member x.seat) (sym (ap (λ (z : UpNode). is_member z.seat) is)))
    (subst (λ r. Follows saving (obeyed c me y number r) mid disk result after left) read_so h)))))

-- so it is once the number is taken
pub has_read : (x y : UpNode) (found : Result AdminCommand WordError) (read : Result AdminCommand Answer) → y ≡ numbered x → read ≡ read_as (is_member x.seat) found → IfOk read (λ _. is_member y.seat ≡ true)
has_read x y found read is so = subst (λ (z : UpNode). IfOk read (λ _. is_member z.seat ≡ true)) (sym is) (reads_member found read (is_member x.seat) so)
