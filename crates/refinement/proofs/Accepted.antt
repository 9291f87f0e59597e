-- An update that the president accepts makes no bad list: it is read again from its words, is not refused, and makes no cycle.
use Rattle.std.specs.Prelude.{ℕ, ◌≡◌, Bool, true, false, List, [], ◌∷◌, Option, None, Some, Result, Ok, Err, codes, if◌then◌else◌}
use Rattle.std.specs.Option.{option_and_then, option_map, unwrap_or}
use Rattle.std.specs.Str.{bytes_eq}
use Rattle.std.proofs.Common.{refl, sym, ap, subst, ◌∙◌}
use Rattle.std.proofs.lemmas.Slice.Eq.{bytes_eq-Decides}
use Rattle.admin_commands.specs.Answers.{refusal_in, unless_refused}
use Rattle.admin_commands.specs.Orders.{cycle, cycle_of, makes_order}
use Rattle.admin_commands.specs.declared.accepted.Accepted.TheVariants as accepted
use Rattle.admin_words.specs.Answers.{Spelled}
use Rattle.admin_words.specs.Commands.{acting, as_request, command_in, command_of, name_request, request_in, request_of}
use Rattle.admin_words.specs.declared.error.WordError.{WordError}
use Rattle.admin_words.specs.declared.request.Request.TheVariants as asked
use Rattle.ccr_commit.specs.Entries.{texts_of}
use Rattle.ccr_tables.specs.Changes as changes
use Rattle.ccr_tables.specs.Changes.{applied, changed, group_flag, or_same, resource_flag, sets_group, sets_resource}
use Rattle.ccr_tables.specs.Refusals.{refusal_of}
use Rattle.ccr_tables.specs.State.{ConfigState, first_config}
use Rattle.ccr_tables.specs.declared.command.AdminCommand.{AdminCommand}
use Rattle.ccr_tables.specs.declared.command.AdminCommand.TheVariants as wish
use Rattle.ccr_tables.specs.declared.update.Update.{Update}
use Rattle.ccr_tables.specs.declared.update.Update.TheVariants.{RegisterType, UnregisterType, CreateGroup, DeleteGroup, SetGroup, ChangeGroup, SwitchGroup, CreateResource, DeleteResource, SetResource, ChangeResource, Device, NodeVote, AddNode, RemoveNode, CreateLimit, DeleteLimit, CreateAddress, DeleteAddress, SetWeights}
use Rattle.cl_base.specs.declared.command.Ask.{Ask}
use Rattle.cl_base.specs.declared.command.Ask.TheVariants.{Move, Restart}
use Rattle.cl_base.specs.declared.header.Header.{Header}
use Rattle.cl_base.specs.declared.header.Version.{Version}
use Rattle.cl_base.specs.declared.refusal.Refusal.{Refusal}
use Rattle.cl_base.specs.declared.refusal.Refusal.TheVariants.{Cycle}
use Rattle.cmm_member.specs.Nodes.{NodeState}
use Rattle.command_laws.specs.Laws as command
use Rattle.command_laws.proofs.Accepting.{accepting}
use Rattle.rg_deps.specs.Orderings.{first_cycle}
use Rattle.rg_props.specs.Lookups.{change_group, change_resource, flag_group, flag_resource, group_allows, named, taken_by_group, taken_by_resource, with_flag}
use Rattle.rg_props.specs.Settings.{group_setting_in, is_allowed_resource, resource_setting_in}
use Rattle.rg_props.specs.Table.{GroupTable}
use Rattle.rg_props.specs.declared.group.Resource.{Resource}
use Rattle.rg_props.specs.declared.setting.GroupSetting.{GroupSetting}
use Rattle.rg_props.specs.declared.setting.ResourceSetting.{ResourceSetting}
use Rattle.rg_props.specs.declared.setting.SetError.{SetError}
use Rattle.rg_props.specs.declared.group.Flag.{Flag}
use Rattle.rg_props.specs.declared.group.Flag.TheVariants.{Managed, Wanted, Suspended, Enabled, Monitored}
use Rattle.rg_props.specs.declared.group.Group.{Group}
use Rattle.update_log.specs.Logs.{config_after, may_come, with_command, with_text, with_texts}
use Rattle.update_words.specs.Words.{words_of}
use Rattle.word_laws.proofs.Commands.{update_read}
use Rattle.word_laws.proofs.Forms.{OnSome, on_if}
use Rattle.word_laws.proofs.Updates.{update_spelled}
use Rattle.node_model.specs.declared.cluster.Cluster.{Cluster}
use Rattle.node_model.specs.declared.node.UpNode.{UpNode}
use Rattle.node_model.specs.declared.presidency.Presidency.{Presidency}
use Rattle.node_model.specs.declared.seat.Seat.TheVariants.{Member}
use Rattle.node_model.specs.Configurations.{in_force}
use Rattle.node_model.specs.Presidents.{length_of}
use Rattle.node_model.specs.Seats.{record_of, state_of, version_of}
use Rattle.refinement.specs.Guards.{IsAccepted}
use Rattle.refinement.specs.Ties.{HasLog, IsLog}
use Rattle.refinement.proofs.Logs.{LogOf, beside_some, is_log_by, log_of}
use Rattle.refinement.proofs.Texts.{texts_none}

-- No update changes the version.

abbrev SameVersion : GroupTable → GroupTable → Type 0
SameVersion t new = new.version ≡ t.version

flagged_group_version : (t : GroupTable) (name : List ℕ) (flag : Flag) (on : Bool) (o : Option Group) → SameVersion t (flag_group t name flag on o)
flagged_group_version t name flag on None = refl
flagged_group_version t name flag on (Some g) = refl

flagged_resource_version : (t : GroupTable) (name : List ℕ) (flag : Flag) (on : Bool) (o : Option Resource) → SameVersion t (flag_resource t name flag on o)
flagged_resource_version t name flag on None = refl
flagged_resource_version t name flag on (Some r) = refl

flag_version : (t : GroupTable) (name : List ℕ) (flag : Flag) (on : Bool) → SameVersion t (with_flag t name flag on)
flag_version t name Managed on = flagged_group_version t name Managed on (named t.groups name)
flag_version t name Wanted on = flagged_group_version t name Wanted on (named t.groups name)
flag_version t name Suspended on = flagged_group_version t name Suspended on (named t.groups name)
flag_version t name Enabled on = flagged_resource_version t name Enabled on (named t.resources name)
flag_version t name Monitored on = flagged_resource_version t name Monitored on (named t.resources name)

changed_group_version : (t : GroupTable) (name : List ℕ) (setting : GroupSetting) (o : Option Group) → SameVersion t (change_group t name setting o)
changed_group_version t name setting None = refl
changed_group_version t name setting (Some g) = refl

changed_resource_version : (t : GroupTable) (name : List ℕ) (setting : ResourceSetting) (o : Option Resource) → SameVersion t (change_resource t name setting o)
changed_resource_version t name setting None = refl
changed_resource_version t name setting (Some r) = refl

either_version : (t new : GroupTable) (b : Bool) (e : SetError) → SameVersion t new → SameVersion t (or_same (if b then Ok new else Err e) t)
either_version t new true e h = h
either_version t new false e h = refl

group_set_version : (t : GroupTable) (name : List ℕ) (r : Result GroupSetting SetError) → SameVersion t (or_same (taken_by_group t name r) t)
group_set_version t name (Err e) = refl
group_set_version t name (Ok setting) = either_version t _ (group_allows t name setting) _ (changed_group_version t name setting (named t.groups name))

resource_set_version : (t : GroupTable) (name : List ℕ) (r : Result ResourceSetting SetError) → SameVersion t (or_same (taken_by_resource t name r) t)
resource_set_version t name (Err e) = refl
resource_set_version t name (Ok setting) = either_version t _ (is_allowed_resource name setting) _ (changed_resource_version t name setting (named t.resources name))

changed_version : (s : ConfigState) (u : Update) → SameVersion s.groups (changed s u).groups
changed_version s (RegisterType name agent methods single failover) = refl
changed_version s (UnregisterType name) = refl
changed_version s (CreateGroup name nodes) = refl
changed_version s (DeleteGroup name) = refl
changed_version s (SetGroup name property value) = group_set_version s.groups name (group_setting_in s.groups.version property value)
changed_version s (ChangeGroup name change) = flag_version s.groups name (group_flag change) (sets_group change)
changed_version s (SwitchGroup name nodes) = flag_version s.groups name Wanted true
changed_version s (CreateResource name of_group of_type) = refl
changed_version s (DeleteResource name) = refl
changed_version s (SetResource name property value) = resource_set_version s.groups name (resource_setting_in property value)
changed_version s (ChangeResource name change) = flag_version s.groups name (resource_flag change) (sets_resource change)
changed_version s (Device d change) = refl
changed_version s (NodeVote n vote) = refl
changed_version s (AddNode n) = refl
changed_version s (RemoveNode n) = refl
changed_version s (CreateLimit n limit soft hard) = refl
changed_version s (DeleteLimit n limit) = refl
changed_version s (CreateAddress name of_group policy) = refl
changed_version s (DeleteAddress name) = refl
changed_version s (SetWeights name weights) = refl

applied_version : (s : ConfigState) (u : Update) (o : Option Refusal) → SameVersion s.groups (changes.unless_refused s u o).groups
applied_version s u None = changed_version s u
applied_version s u (Some r) = refl

abbrev KeepsVersion : ConfigState → Option ConfigState → Type 0
KeepsVersion s o = OnSome (λ (n : ConfigState). SameVersion s.groups n.groups) o

command_version : (s : ConfigState) (text : List ℕ) (r : Result AdminCommand WordError) → KeepsVersion s (with_command s text r)
command_version s text (Ok (wish.Change u)) = on_if (λ (n : ConfigState). SameVersion s.groups n.groups) (may_come s text u) (applied s u) (λ e. applied_version s u (refusal_of s u))
command_version s text (Ok (wish.Act a)) = tt
command_version s text (Ok (wish.Status q)) = tt
command_version s text (Ok (wish.Rows name)) = tt
command_version s text (Err e) = tt

next_version : (s : ConfigState) (go : ConfigState → Option ConfigState) (o : Option ConfigState) → KeepsVersion s o → ((n : ConfigState) → KeepsVersion n (go n)) → KeepsVersion s (option_and_then go o)
next_version s go None h f = tt
next_version s go (Some n) h f = further (go n) (f n)
  where
    further : (o : Option ConfigState) → KeepsVersion n o → KeepsVersion s o
    further None k = tt
    further (Some last) k = k ∙ h

texts_version : (texts : List (List ℕ)) (s : ConfigState) → KeepsVersion s (with_texts s texts)
texts_version [] s = refl
texts_version (text ∷ texts) s =
    next_version s (λ next. with_texts next texts) (with_text s text) (command_version s text (command_of s.groups.version text)) (λ n. texts_version texts n)

config_version : (h : Header) (texts : List (List ℕ)) (s : ConfigState) → config_after h texts ≡ Some s → s.groups.version ≡ h.version
unfolding config_after
config_version h texts s is = subst (λ o. KeepsVersion (first_config h) o) is (texts_version texts (first_config h))

-- A request for an update is read as a command that changes the configuration.

request_as : (r : Spelled) (u : Update) → as_request r ≡ Ok (asked.Change u) → r ≡ Ok (wish.Change u)
request_as (Ok (wish.Change w)) u h = cc
request_as (Ok (wish.Act a)) u h = absurd cc
request_as (Ok (wish.Status q)) u h = absurd cc
request_as (Ok (wish.Rows name)) u h = absurd cc
request_as (Err e) u h = absurd cc

no_act : (ask : List ℕ → Ask) (r : Result (List ℕ) WordError) (u : Update) → acting ask r ≡ Ok (asked.Change u) → ⊥
no_act ask (Ok name) u h = cc
no_act ask (Err e) u h = cc

request_words : (v : Version) (ws : List (List ℕ)) (u : Update) → request_in v ws ≡ Ok (asked.Change u) → command_in v ws ≡ Ok (wish.Change u)
unfolding request_in
request_words v [] u h = absurd cc
request_words v (w ∷ ws) u h = by_tests (bytes_eq w (codes "restart")) (bytes_eq w (codes "move")) h
  where
    by_tests : (a b : Bool) → (if a then acting Restart (name_request ws) else if b then acting Move (name_request ws) else as_request (command_in v (w ∷ ws))) ≡ Ok (asked.Change u)
        → command_in v (w ∷ ws) ≡ Ok (wish.Change u)
    by_tests true b e = absurd (no_act Restart (name_request ws) u e)
    by_tests false true e = absurd (no_act Move (name_request ws) u e)
    by_tests false false e = request_as (command_in v (w ∷ ws)) u e

-- .. and so its words are read as the same
read_again : (v : Version) (text : List ℕ) (u : Update) → request_of v text ≡ Ok (asked.Change u) → command_of v (words_of u) ≡ Ok (wish.Change u)
read_again v text u h = update_read v u (update_spelled v text u (request_words v _ u h))

-- What is accepted is what was asked, and is neither refused nor makes a cycle.

accepted_is : (o : Option Refusal) (u w : Update) → unless_refused o (accepted.Change u) ≡ Ok (accepted.Change w) → u ≡ w
accepted_is None u w h = cc
accepted_is (Some r) u w h = absurd cc

no_cycle : (s : ConfigState) (u : Update) → (makes_order s u ≡ true → first_cycle (changed s u).groups ≡ None) → cycle s u ≡ None
unfolding cycle_of
no_cycle s u order = by_test (makes_order s u) refl
  where
    by_test : (b : Bool) → makes_order s u ≡ b → (if b then option_map (λ names. Cycle names) (first_cycle (changed s u).groups) else None) ≡ None
    by_test true e = ap (λ o. option_map (λ names. Cycle names) o) (order e)
    by_test false e = refl

same_bytes : (w : List ℕ) → bytes_eq w w ≡ true
same_bytes w = (bytes_eq-Decides w w).1 refl

comes : (s : ConfigState) (u : Update) → cycle s u ≡ None → refusal_of s u ≡ None → may_come s (words_of u) u ≡ true
comes s u cycles refused = rw (same_bytes (words_of u), cycles, refused) refl

taken_text : (s : ConfigState) (u : Update) → command_of s.groups.version (words_of u) ≡ Ok (wish.Change u) → may_come s (words_of u) u ≡ true → with_text s (words_of u) ≡ Some (applied s u)
taken_text s u read may = ap (λ r. with_command s (words_of u) r) read ∙ ap (λ b. if b then Some (applied s u) else None) may

-- So an update that is accepted may come.

in_force_is : (c : Cluster) (x : UpNode) (s : NodeState) (config : ConfigState) → x.seat ≡ Member s → config_after c.header s.saved.entries.committed ≡ Some config → in_force c x ≡ config
in_force_is c x s config at is =
    ap (λ z. unwrap_or (config_after c.header (state_of z).saved.entries.committed) (first_config c.header)) at ∙ ap (λ o. unwrap_or o (first_config c.header)) is

accepted_comes : (c : Cluster) (x : UpNode) (p : Presidency) (text : List ℕ) (s : ConfigState) → in_force c x ≡ s → s.groups.version ≡ version_of c → (a : IsAccepted c x p text)
    → with_text s text ≡ Some (applied s a.update)
accepted_comes c x p text s is version a =
    let same : a.request ≡ a.update =
    accepted_is (refusal_in (in_force c x) p.groups.view (record_of x).members p.held (length_of c x) a.request) a.request a.update a.checked_so in
    let holds : command.Holds (in_force c x) p.groups.view (record_of x).members p.held (length_of c x) a.update =
    accepting (in_force c x) p.groups.view (record_of x).members p.held (length_of c x) a.update
    (subst (λ u. unless_refused (refusal_in (in_force c x) p.groups.view (record_of x).members p.held (length_of c x) u) (accepted.Change u) ≡ Ok (accepted.Change a.update)) same a.checked_so) in
    let read : command_of (version_of c) (words_of a.update) ≡ Ok (wish.Change a.update) =
    read_again (version_of c) a.asked_for a.update (a.read ∙ ap (λ u. Ok (asked.Change u)) same) in
    subst (λ t. with_text s t ≡ Some (applied s a.update)) (sym a.words)
    (taken_text s a.update (subst (λ v. command_of v (words_of a.update) ≡ Ok (wish.Change a.update)) (sym version) read)
    (comes s a.update (subst (λ z. cycle z a.update ≡ None) is (no_cycle (in_force c x) a.update holds.order)) (subst (λ z. refusal_of z a.update ≡ None) is holds.applied)))

pub accepted_log : (c : Cluster) (x : UpNode) (s : NodeState) (p : Presidency) (text : List ℕ) → x.seat ≡ Member s → s.saved.entries.pending ≡ None → HasLog c s.saved
    → IsAccepted c x p text → IsLog c (texts_of s.saved.entries) (Some text)
accepted_log c x s p text at none log a =
    let had : LogOf c.header s.saved.entries.committed s.saved.entries.pending = log_of c s.saved.entries.committed s.saved.entries.pending log in
    let force : in_force c x ≡ had.config = in_force_is c x s had.config at had.is in
    let version : had.config.groups.version ≡ version_of c = config_version c.header s.saved.entries.committed had.config had.is in
    let next : with_text had.config text ≡ Some (applied had.config a.update) = accepted_comes c x p text had.config force version a in
    subst (λ texts. IsLog c texts (Some text)) (sym (texts_none s.saved.entries none))
    (is_log_by c s.saved.entries.committed (Some text) had.config had.is (beside_some had.config (applied had.config a.update) text next))
