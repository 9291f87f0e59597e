-- The setting of a header reads updates as its nodes do, and a monitor asks for none, so the law holds of it.
use Rattle.std.specs.Prelude.{ℕ, ◌≡◌, ◌<◌, ◌^◌, ◌∷◌, ◌++◌, Bool, true, false, if◌then◌else◌, List, [], length, Some, Result, Ok, Err, codes}
use Rattle.std.specs.Str.{bytes_eq}
use Rattle.std.proofs.Common.{refl, sym, ap, subst, ◌∙◌}
use Rattle.admin_words.specs.Answers.{Spelled}
use Rattle.admin_words.specs.Commands.{acting, as_request, command_in, command_of, name_request, request_in, request_of}
use Rattle.admin_words.specs.declared.error.WordError.{WordError}
use Rattle.admin_words.specs.declared.request.Request.{Request}
use Rattle.admin_words.specs.declared.request.Request.TheVariants as wish
use Rattle.ccr_tables.specs.declared.command.AdminCommand.{AdminCommand}
use Rattle.ccr_tables.specs.declared.command.AdminCommand.TheVariants.{Act, Change, Rows, Status}
use Rattle.ccr_tables.specs.declared.update.Update.{Update}
use Rattle.cl_base.specs.declared.command.Ask.{Ask}
use Rattle.cl_base.specs.declared.command.Ask.TheVariants.{Move, Restart}
use Rattle.cl_base.specs.declared.header.Header.{Header}
use Rattle.cl_base.specs.declared.header.Version.{Version}
use Rattle.cmm_attempt.proofs.Basics.{none_some, same_some}
use Rattle.restart_policy.specs.declared.policy.ProbeAction.{ProbeAction}
use Rattle.restart_policy.specs.declared.policy.ProbeAction.TheVariants as action
use Rattle.rg_props.specs.Words.{parts_at}
use Rattle.update_words.specs.Words.{ask_words_of, words_of}
use Rattle.history.specs.Moment.{lines_of}
use Rattle.history_setting.specs.Laws.{OfEachRunIn}
use Rattle.history_setting.specs.Settings.{canonical_in, canonical_words, setting_of}
use Rattle.history_setting.proofs.Canonical.{canonical_words_are_read}
use Rattle.node_model.specs.Groups.{asked_by}
use Rattle.world_model.specs.First.{first_cluster}
use Rattle.run_commands.proofs.carried.Laws as requests
use Rattle.run_commands.specs.acknowledged.Askings.{AskedOnce}
use Rattle.run_commands.specs.acknowledged.Laws.{AskedOfEachRun}
use Rattle.run_commands.proofs.acknowledged.Runs.{asked_in_each, told_in_each}
use Rattle.run_commands.proofs.acknowledged.Commands.{Reads}
use Rattle.run_commands.proofs.acknowledged.Waiting.{ReadsUpdates}

-- ---- what is read as an update is a command

acting_no : (make : List ℕ → Ask) (r : Result (List ℕ) WordError) (u : Update) → acting make r ≡ Ok (wish.Change u) → ⊥
acting_no make (Ok name) u e = cc
acting_no make (Err x) u e = cc

request_command : (r : Spelled) (u : Update) → as_request r ≡ Ok (wish.Change u) → r ≡ Ok (Change u)
request_command (Ok (Change w)) u e = cc
request_command (Ok (Act a)) u e = cc
request_command (Ok (Status q)) u e = cc
request_command (Ok (Rows name)) u e = cc
request_command (Err x) u e = cc

by_test : (b d : Bool) (x y : Result Request WordError) (r : Spelled) (u : Update) → (x ≡ Ok (wish.Change u) → ⊥) → (y ≡ Ok (wish.Change u) → ⊥) → (if b then x else if d then y else as_request r) ≡ Ok (wish.Change u) → r ≡ Ok (Change u)
by_test true d x y r u f g e = absurd (f e)
by_test false true x y r u f g e = absurd (g e)
by_test false false x y r u f g e = request_command r u e

change_in : (v : Version) (parts : List (List ℕ)) (u : Update) → request_in v parts ≡ Ok (wish.Change u) → command_in v parts ≡ Ok (Change u)
unfolding request_in
change_in v [] u e = cc
change_in v (word ∷ words) u e =
    by_test (bytes_eq word (codes "restart")) (bytes_eq word (codes "move")) (acting Restart (name_request words)) (acting Move (name_request words)) (command_in v (word ∷ words)) u
    (acting_no Restart (name_request words) u) (acting_no Move (name_request words) u) e

same_command : (a b : AdminCommand) (v : Version) (text : List ℕ) → command_of v text ≡ Ok a → command_of v text ≡ Ok b → a ≡ b
same_command a b v text f g = ok_is a b (sym f ∙ g)
  where
    ok_is : (x y : AdminCommand) → (let r : Spelled = Ok x in r ≡ Ok y) → x ≡ y
    ok_is x y e = cc

updates_read : (h : Header) → ReadsUpdates (first_cluster h) (setting_of h)
updates_read h words text u canonical read = by (command_of h.version words) refl canonical
  where
    by : (r : Spelled) → command_of h.version words ≡ r → canonical_in r ≡ Some text → words_of u ≡ text
    by (Err x) is e = absurd (none_some text e)
    by (Ok command) is e =
        let same : canonical_words command ≡ text = same_some (canonical_words command) text e in
        let again : command_of h.version text ≡ Ok command = subst (λ t. command_of h.version t ≡ Ok command) same (canonical_words_are_read h.version words command is) in
        ap canonical_words (same_command (Change u) command h.version text (change_in h.version (parts_at 32 text) u read) again) ∙ same

-- ---- a monitor asks for no update

restart_no : (v : Version) (r : List ℕ) (u : Update) → request_of v (ask_words_of (Restart r)) ≡ Ok (wish.Change u) → ⊥
unfolding request_in
restart_no v r u e = acting_no Restart (name_request (parts_at 32 (r ++ []))) u e

move_no : (v : Version) (r : List ℕ) (u : Update) → request_of v (ask_words_of (Move r)) ≡ Ok (wish.Change u) → ⊥
unfolding request_in
move_no v r u e = acting_no Move (name_request (parts_at 32 (r ++ []))) u e

monitors_no : (v : Version) (a : ProbeAction) (r : List ℕ) (ask : Ask) (u : Update) → asked_by a r ≡ Some ask → request_of v (ask_words_of ask) ≡ Ok (wish.Change u) → ⊥
monitors_no v action.Restart r ask u is e = restart_no v r u (subst (λ z. request_of v (ask_words_of z) ≡ Ok (wish.Change u)) (sym (same_some (Restart r) ask is)) e)
monitors_no v action.Move r ask u is e = move_no v r u (subst (λ z. request_of v (ask_words_of z) ≡ Ok (wish.Change u)) (sym (same_some (Move r) ask is)) e)
monitors_no v action.Logged r ask u is e = absurd (none_some ask is)

-- ---- the law

pub reads : (h : Header) → Reads (first_cluster h) (setting_of h)
reads h = record { answers = (requests.reads h).answers; requests = (requests.reads h).requests; updates = updates_read h; monitors = monitors_no h.version }

pub asked_of_each_run : AskedOfEachRun
asked_of_each_run h cells hs few small may lines = asked_in_each (setting_of h) h cells hs (reads h) (record { few = few; small = small }) may lines

-- .. on the way: a member asks by a number once, before it sends a Request with it
pub asked_once_in_each_run : OfEachRunIn (λ S moments. length (lines_of moments) < 2 ^ 63 → AskedOnce moments)
asked_once_in_each_run h cells hs few small may lines = (told_in_each (setting_of h) h cells hs (reads h) (record { few = few; small = small }) may lines).once
