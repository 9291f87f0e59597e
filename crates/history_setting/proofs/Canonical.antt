-- The canonical words of a command are read as this command, and so they are their own.
use Rattle.std.proofs.Common.{◌≡◌, ℕ, List, [], ◌∷◌, map, Some, Ok, Err, codes, refl, sym, ap, ◌∙◌}
use Rattle.std.specs.Fmt.{decimal}
use Rattle.cl_base.specs.declared.command.Ask.{Ask}
use Rattle.cl_base.specs.declared.command.Ask.TheVariants.{Restart, Move, Remaster, Evacuate, Clear}
use Rattle.cl_base.specs.declared.command.Query.{Query}
use Rattle.cl_base.specs.declared.command.Query.TheVariants as query
use Rattle.cl_base.specs.declared.header.Version.{Version}
use Rattle.cl_base.specs.declared.header.Version.TheVariants.{One, Two}
use Rattle.ccr_tables.specs.declared.command.AdminCommand.{AdminCommand}
use Rattle.ccr_tables.specs.declared.command.AdminCommand.TheVariants.{Change, Act, Status, Rows}
use Rattle.rg_props.specs.Words.{name_in}
use Rattle.update_words.specs.Joined.{spaced}
use Rattle.update_words.specs.Words.{ask_words_of}
use Rattle.admin_words.specs.Answers.{Spelled, by_word, counted}
use Rattle.admin_words.specs.Commands.{command_in, command_of, group_least, group_operands, quorum_by_word, resource_least, resource_operands}
use Rattle.admin_words.specs.Operands.{one}
use Rattle.admin_words.specs.Spellings.{group_command_in, quorum_command_in, resource_command_in, tool_named}
use Rattle.word_laws.proofs.Commands.{update_read}
use Rattle.word_laws.proofs.Reading.{name_known, name_word, node_known, node_word}
use Rattle.word_laws.proofs.Split.{EachLacks, parts_joined}
use Rattle.word_laws.proofs.Updates.{update_spelled}
use Rattle.history_setting.specs.Forms.{AskForm, CommandForm, QueryForm}
use Rattle.history_setting.specs.Laws.{CanonicalWordsAreRead, CanonicalWordsStay}
use Rattle.history_setting.specs.Settings.{canonical_in, canonical_words, query_words}
use Rattle.history_setting.proofs.Commands.{command_form}

as_they_are : (ws : List (List ℕ)) → map (λ w. w) ws ≡ ws
as_they_are [] = refl
as_they_are (w ∷ ws) = ap (λ (rest : List (List ℕ)). w ∷ rest) (as_they_are ws)

-- what words spell, they spell with one space between
spelled : (v : Version) (w : List ℕ) (ws : List (List ℕ)) → EachLacks 32 (λ w. w) (w ∷ ws) → command_of v (spaced (w ∷ ws)) ≡ command_in v (w ∷ ws)
spelled v w ws h = ap (λ (words : List (List ℕ)). command_in v words) (parts_joined 32 (λ (w : List ℕ). w) w ws h ∙ as_they_are (w ∷ ws))

-- ---- the first words

groups_of : (v : Version) (ws : List (List ℕ)) → command_in v (codes "clrg" ∷ ws) ≡ by_word group_command_in group_least (group_operands v) ws
unfolding command_in tool_named
groups_of One ws = refl
groups_of Two ws = refl

resources_of : (v : Version) (ws : List (List ℕ)) → command_in v (codes "clrs" ∷ ws) ≡ by_word resource_command_in resource_least (resource_operands v) ws
unfolding command_in tool_named
resources_of One ws = refl
resources_of Two ws = refl

quorum_of : (v : Version) (ws : List (List ℕ)) → command_in v (codes "clq" ∷ ws) ≡ quorum_by_word v ws
unfolding command_in tool_named
quorum_of One ws = refl
quorum_of Two ws = refl

tables_of : (v : Version) (ws : List (List ℕ)) → command_in v (codes "ccr" ∷ ws) ≡ counted 1 (one name_in (λ name. Rows name)) ws
unfolding command_in tool_named
tables_of One ws = refl
tables_of Two ws = refl

-- ---- the commands that are no updates

ask_read : (v : Version) (a : Ask) → AskForm v a → command_of v (ask_words_of a) ≡ Ok (Act a)
unfolding group_command_in resource_command_in
ask_read v (Restart r) h = absurd h
ask_read v (Move r) h = absurd h
ask_read v (Remaster g) h =
    spelled v (codes "clrg") (codes "remaster" ∷ g ∷ []) (refl, (refl, (name_word g h, tt))) ∙ groups_of v (codes "remaster" ∷ g ∷ []) ∙ rw (name_known g h) refl
ask_read v (Evacuate n) h =
    spelled v (codes "clrg") (codes "evacuate" ∷ decimal n ∷ []) (refl, (refl, (node_word v n h, tt))) ∙ groups_of v (codes "evacuate" ∷ decimal n ∷ []) ∙ rw (node_known v n h) refl
ask_read v (Clear r n) h =
    spelled v (codes "clrs") (codes "clear" ∷ r ∷ decimal n ∷ []) (refl, (refl, (name_word r h.0, (node_word v n h.1, tt))))
    ∙ resources_of v (codes "clear" ∷ r ∷ decimal n ∷ []) ∙ rw (name_known r h.0, node_known v n h.1) refl

query_read : (v : Version) (q : Query) → QueryForm q → command_of v (spaced (query_words q)) ≡ Ok (Status q)
unfolding group_command_in resource_command_in quorum_command_in
query_read v query.GroupStatus h = spelled v (codes "clrg") (codes "status" ∷ []) (refl, (refl, tt)) ∙ groups_of v (codes "status" ∷ [])
query_read v query.ResourceStatus h = spelled v (codes "clrs") (codes "status" ∷ []) (refl, (refl, tt)) ∙ resources_of v (codes "status" ∷ [])
query_read v query.QuorumStatus h = spelled v (codes "clq") (codes "status" ∷ []) (refl, (refl, tt)) ∙ quorum_of v (codes "status" ∷ [])
query_read v (query.Rows t) h = absurd h

-- ---- each command

command_read : (v : Version) (words : List ℕ) (command : AdminCommand) → command_of v words ≡ Ok command → CommandForm v command → command_of v (canonical_words command) ≡ Ok command
command_read v words (Change u) e h = update_read v u (update_spelled v words u e)
command_read v words (Act a) e h = ask_read v a h
command_read v words (Status q) e h = query_read v q h
command_read v words (Rows name) e h =
    spelled v (codes "ccr") (name ∷ []) (refl, (name_word name h, tt)) ∙ tables_of v (name ∷ []) ∙ rw (name_known name h) refl

pub canonical_words_are_read : CanonicalWordsAreRead
canonical_words_are_read v words command e = command_read v words command e (command_form v words command e)

some_is : (a b : List ℕ) → Some a ≡ Some b → a ≡ b
some_is a b e = cc

-- what words are read as, if they are a command's
stays : (v : Version) (words canonical : List ℕ) (found : Spelled) → command_of v words ≡ found → canonical_in found ≡ Some canonical → canonical_in (command_of v canonical) ≡ Some canonical
stays v words canonical (Ok command) e is =
    ap (λ (text : List ℕ). canonical_in (command_of v text)) (sym (some_is (canonical_words command) canonical is)) ∙ (ap canonical_in (canonical_words_are_read v words command e) ∙ is)
stays v words canonical (Err error) e is = absurd (cc)

pub canonical_words_stay : CanonicalWordsStay
canonical_words_stay h words canonical is = stays h.version words canonical (command_of h.version words) refl is
