-- The setting of a header reads words as its nodes do: what is an update for it is a request for one, and a query's canonical words are no update's.
use Rattle.std.specs.Prelude.{ℕ, ◌≡◌, Bool, true, false, if◌then◌else◌, List, [], ◌∷◌, Some, Ok, Err, codes}
use Rattle.std.specs.Str.{bytes_eq}
use Rattle.std.proofs.Common.{refl, sym, ap, subst, ◌∙◌}
use Rattle.std.proofs.lemmas.Slice.Eq.{bytes_eq-Decides}
use Rattle.admin_words.specs.Answers.{Spelled}
use Rattle.admin_words.specs.Commands.{acting, as_request, command_in, command_of, name_request, request_in, request_of}
use Rattle.admin_words.specs.Spellings.{tool_named}
use Rattle.admin_words.specs.declared.error.WordError.TheVariants.{UnknownCommand}
use Rattle.admin_words.specs.declared.request.Request.TheVariants as wish
use Rattle.ccr_tables.specs.declared.command.AdminCommand.{AdminCommand}
use Rattle.ccr_tables.specs.declared.command.AdminCommand.TheVariants.{Act, Change, Rows, Status}
use Rattle.ccr_tables.specs.declared.update.Update.{Update}
use Rattle.cl_base.specs.declared.command.Ask.TheVariants.{Move, Restart}
use Rattle.cl_base.specs.declared.header.Header.{Header}
use Rattle.cl_base.specs.declared.header.Version.{Version}
use Rattle.cl_base.specs.declared.header.Version.TheVariants.{One, Two}
use Rattle.cmm_attempt.proofs.Basics.{same_some}
use Rattle.rg_props.specs.Words.{parts_at}
use Rattle.update_log.specs.Logs.{is_update, is_update_in}
use Rattle.history_setting.specs.Settings.{canonical_in, canonical_words, is_asked, setting_of}
use Rattle.history_setting.proofs.Canonical.{canonical_words_are_read}
use Rattle.world_model.specs.First.{first_cluster}
use Rattle.run_commands.proofs.acknowledged.Own.{ReadsOwn}

-- ---- what is an update is a request for it

restart_none : (v : Version) (ws : List (List ℕ)) → command_in v (codes "restart" ∷ ws) ≡ Err UnknownCommand
unfolding command_in tool_named
restart_none One ws = refl
restart_none Two ws = refl

move_none : (v : Version) (ws : List (List ℕ)) → command_in v (codes "move" ∷ ws) ≡ Err UnknownCommand
unfolding command_in tool_named
move_none One ws = refl
move_none Two ws = refl

err_ok : (r : Spelled) (a : AdminCommand) → r ≡ Err UnknownCommand → r ≡ Ok a → ⊥
err_ok r a none is = cc

no_words : (v : Version) (a : AdminCommand) → command_in v [] ≡ Ok a → ⊥
unfolding command_in
no_words v a e = cc

words_asked : (v : Version) (ws : List (List ℕ)) (u : Update) → command_in v ws ≡ Ok (Change u) → request_in v ws ≡ Ok (wish.Change u)
unfolding request_in
words_asked v [] u is = absurd (no_words v (Change u) is)
words_asked v (w ∷ ws) u is = by_tests (bytes_eq w (codes "restart")) (bytes_eq w (codes "move")) refl refl
  where
    by_tests : (p q : Bool) → bytes_eq w (codes "restart") ≡ p → bytes_eq w (codes "move") ≡ q
        → (if p then acting Restart (name_request ws) else if q then acting Move (name_request ws) else as_request (command_in v (w ∷ ws))) ≡ Ok (wish.Change u)
    by_tests true q one other =
        absurd (err_ok (command_in v (codes "restart" ∷ ws)) (Change u) (restart_none v ws) (subst (λ (z : List ℕ). command_in v (z ∷ ws) ≡ Ok (Change u)) ((bytes_eq-Decides w (codes "restart")).0 one) is))
    by_tests false true one other =
        absurd (err_ok (command_in v (codes "move" ∷ ws)) (Change u) (move_none v ws) (subst (λ (z : List ℕ). command_in v (z ∷ ws) ≡ Ok (Change u)) ((bytes_eq-Decides w (codes "move")).0 other) is))
    by_tests false false one other = ap as_request is

update_read : (v : Version) (text : List ℕ) (r : Spelled) → command_of v text ≡ r → is_update_in text r ≡ true → (u : Update) × (request_of v text ≡ Ok (wish.Change u))
update_read v text (Ok (Change u)) read is = (u, words_asked v (parts_at 32 text) u read)
update_read v text (Ok (Act a)) read is = absurd (cc)
update_read v text (Ok (Status q)) read is = absurd (cc)
update_read v text (Ok (Rows name)) read is = absurd (cc)
update_read v text (Err e) read is = absurd (cc)

pub is_update_read : (h : Header) (text : List ℕ) → is_update h.version text ≡ true → (u : Update) × (request_of h.version text ≡ Ok (wish.Change u))
unfolding is_update
is_update_read h text is = update_read h.version text (command_of h.version text) refl is

-- ---- a query is none

query_none : (text : List ℕ) (question : AdminCommand) → is_asked question ≡ true → is_update_in text (Ok question) ≡ false
query_none text (Change u) asks = absurd (cc)
query_none text (Act a) asks = absurd (cc)
query_none text (Status q) asks = refl
query_none text (Rows name) asks = refl

query_no_update : (h : Header) (words text : List ℕ) (question : AdminCommand) → command_of h.version words ≡ Ok question → is_asked question ≡ true → canonical_in (command_of h.version words) ≡ Some text → is_update h.version text ≡ false
unfolding is_update
query_no_update h words text question read asks canonical =
    let same : canonical_words question ≡ text = same_some (canonical_words question) text (sym (ap canonical_in read) ∙ canonical) in
    ap (λ (r : Spelled). is_update_in text r) (subst (λ t. command_of h.version t ≡ Ok question) same (canonical_words_are_read h.version words question read)) ∙ query_none text question asks

pub reads_own : (h : Header) → ReadsOwn (first_cluster h) (setting_of h)
reads_own h = record {
  updates = λ text is. is_update_read h text is;
  queries = λ words text question read asks canonical. query_no_update h words text question read asks canonical;
}
