-- A text that may come behind a list of updates is an update in the version of the header, which no update changes.
use Rattle.std.specs.Prelude.{ℕ, ◌≡◌, ◌++◌, ◌&&◌, not, Bool, true, false, List, [], ◌∷◌, Option, None, Some, is_some, Result, Ok, Err, if◌then◌else◌}
use Rattle.std.specs.Option.{option_and_then}
use Rattle.std.specs.Str.{bytes_eq}
use Rattle.std.proofs.Common.{refl, subst, ◌∙◌}
use Rattle.admin_commands.specs.Orders.{cycle}
use Rattle.admin_words.specs.Commands.{command_of}
use Rattle.admin_words.specs.declared.error.WordError.{WordError}
use Rattle.ccr_tables.specs.Changes as changes
use Rattle.ccr_tables.specs.Changes.{applied, changed, group_flag, or_same, resource_flag, sets_group, sets_resource}
use Rattle.ccr_tables.specs.Refusals.{refusal_of}
use Rattle.ccr_tables.specs.State.{ConfigState, first_config}
use Rattle.ccr_tables.specs.declared.command.AdminCommand.{AdminCommand}
use Rattle.ccr_tables.specs.declared.command.AdminCommand.TheVariants as wish
use Rattle.ccr_tables.specs.declared.update.Update.{Update}
use Rattle.ccr_tables.specs.declared.update.Update.TheVariants.{RegisterType, UnregisterType, CreateGroup, DeleteGroup, SetGroup, ChangeGroup, SwitchGroup, CreateResource, DeleteResource, SetResource, ChangeResource, Device, NodeVote, AddNode, RemoveNode, CreateLimit, DeleteLimit, CreateAddress, DeleteAddress, SetWeights}
use Rattle.cl_base.specs.declared.header.Header.{Header}
use Rattle.cl_base.specs.declared.header.Version.{Version}
use Rattle.cl_base.specs.declared.refusal.Refusal.{Refusal}
use Rattle.rg_props.specs.Lookups.{change_group, change_resource, flag_group, flag_resource, group_allows, named, taken_by_group, taken_by_resource, with_flag}
use Rattle.rg_props.specs.Settings.{group_setting_in, is_allowed_resource, resource_setting_in}
use Rattle.rg_props.specs.Table.{GroupTable}
use Rattle.rg_props.specs.declared.group.Resource.{Resource}
use Rattle.rg_props.specs.declared.setting.GroupSetting.{GroupSetting}
use Rattle.rg_props.specs.declared.setting.ResourceSetting.{ResourceSetting}
use Rattle.rg_props.specs.declared.setting.SetError.{SetError}
use Rattle.rg_props.specs.declared.group.Flag.{Flag}
use Rattle.rg_props.specs.declared.group.Flag.TheVariants.{Managed, Wanted, Suspended, Enabled, Monitored}
use Rattle.rg_props.specs.declared.group.Group.{Group}
use Rattle.update_words.specs.Words.{words_of}
use Rattle.word_laws.proofs.Forms.{OnSome, on_if}
use Rattle.node_model.specs.declared.cluster.Cluster.{Cluster}
use Rattle.node_model.specs.Seats.{version_of}
use Rattle.cmm_attempt.proofs.Basics.{and_cases, none_some}
use Rattle.update_log.specs.Logs.{config_after, is_update, is_update_in, may_come, with_command, with_text, with_texts, with_update}
use Rattle.refinement.proofs.Logs.{LogOf, Pending, log_next, log_of, pending_of}

-- ---- the version

abbrev SameVersion : GroupTable → GroupTable → Type 0
SameVersion t new = new.version ≡ t.version

flagged_group_version : (t : GroupTable) (name : List ℕ) (flag : Flag) (on : Bool) (o : Option Group) → SameVersion t (flag_group t name flag on o)
flagged_group_version t name flag on None = refl
flagged_group_version t name flag on (Some g) = refl

flagged_resource_version : (t : GroupTable) (name : List ℕ) (flag : Flag) (on : Bool) (o : Option Resource) → SameVersion t (flag_resource t name flag on o)
flagged_resource_version t name flag on None = refl
flagged_resource_version t name flag on (Some r) = refl

flag_version : (t : GroupTable) (name : List ℕ) (flag : Flag) (on : Bool) → SameVersion t (with_flag t name flag on)
flag_version t name Managed on = flagged_group_version t name Managed on (named t.groups name)
flag_version t name Wanted on = flagged_group_version t name Wanted on (named t.groups name)
flag_version t name Suspended on = flagged_group_version t name Suspended on (named t.groups name)
flag_version t name Enabled on = flagged_resource_version t name Enabled on (named t.resources name)
flag_version t name Monitored on = flagged_resource_version t name Monitored on (named t.resources name)

changed_group_version : (t : GroupTable) (name : List ℕ) (setting : GroupSetting) (o : Option Group) → SameVersion t (change_group t name setting o)
changed_group_version t name setting None = refl
changed_group_version t name setting (Some g) = refl

changed_resource_version : (t : GroupTable) (name : List ℕ) (setting : ResourceSetting) (o : Option Resource) → SameVersion t (change_resource t name setting o)
changed_resource_version t name setting None = refl
changed_resource_version t name setting (Some r) = refl

either_version : (t new : GroupTable) (b : Bool) (e : SetError) → SameVersion t new → SameVersion t (or_same (if b then Ok new else Err e) t)
either_version t new true e h = h
either_version t new false e h = refl

group_set_version : (t : GroupTable) (name : List ℕ) (r : Result GroupSetting SetError) → SameVersion t (or_same (taken_by_group t name r) t)
group_set_version t name (Err e) = refl
group_set_version t name (Ok setting) = either_version t _ (group_allows t name setting) _ (changed_group_version t name setting (named t.groups name))

resource_set_version : (t : GroupTable) (name : List ℕ) (r : Result ResourceSetting SetError) → SameVersion t (or_same (taken_by_resource t name r) t)
resource_set_version t name (Err e) = refl
resource_set_version t name (Ok setting) = either_version t _ (is_allowed_resource name setting) _ (changed_resource_version t name setting (named t.resources name))

changed_version : (s : ConfigState) (u : Update) → SameVersion s.groups (changed s u).groups
changed_version s (RegisterType name agent methods single failover) = refl
changed_version s (UnregisterType name) = refl
changed_version s (CreateGroup name nodes) = refl
changed_version s (DeleteGroup name) = refl
changed_version s (SetGroup name property value) = group_set_version s.groups name (group_setting_in s.groups.version property value)
changed_version s (ChangeGroup name change) = flag_version s.groups name (group_flag change) (sets_group change)
changed_version s (SwitchGroup name nodes) = flag_version s.groups name Wanted true
changed_version s (CreateResource name of_group of_type) = refl
changed_version s (DeleteResource name) = refl
changed_version s (SetResource name property value) = resource_set_version s.groups name (resource_setting_in property value)
changed_version s (ChangeResource name change) = flag_version s.groups name (resource_flag change) (sets_resource change)
changed_version s (Device d change) = refl
changed_version s (NodeVote n vote) = refl
changed_version s (AddNode n) = refl
changed_version s (RemoveNode n) = refl
changed_version s (CreateLimit n limit soft hard) = refl
changed_version s (DeleteLimit n limit) = refl
changed_version s (CreateAddress name of_group policy) = refl
changed_version s (DeleteAddress name) = refl
changed_version s (SetWeights name weights) = refl

applied_version : (s : ConfigState) (u : Update) (o : Option Refusal) → SameVersion s.groups (changes.unless_refused s u o).groups
applied_version s u None = changed_version s u
applied_version s u (Some r) = refl

abbrev KeepsVersion : ConfigState → Option ConfigState → Type 0
KeepsVersion s o = OnSome (λ (n : ConfigState). SameVersion s.groups n.groups) o

command_version : (s : ConfigState) (text : List ℕ) (r : Result AdminCommand WordError) → KeepsVersion s (with_command s text r)
command_version s text (Ok (wish.Change u)) = on_if (λ (n : ConfigState). SameVersion s.groups n.groups) (may_come s text u) (applied s u) (λ e. applied_version s u (refusal_of s u))
command_version s text (Ok (wish.Act a)) = tt
command_version s text (Ok (wish.Status q)) = tt
command_version s text (Ok (wish.Rows name)) = tt
command_version s text (Err e) = tt

next_version : (s : ConfigState) (go : ConfigState → Option ConfigState) (o : Option ConfigState) → KeepsVersion s o → ((n : ConfigState) → KeepsVersion n (go n)) → KeepsVersion s (option_and_then go o)
next_version s go None h f = tt
next_version s go (Some n) h f = further (go n) (f n)
  where
    further : (o : Option ConfigState) → KeepsVersion n o → KeepsVersion s o
    further None k = tt
    further (Some last) k = k ∙ h

texts_version : (texts : List (List ℕ)) (s : ConfigState) → KeepsVersion s (with_texts s texts)
texts_version [] s = refl
texts_version (text ∷ texts) s =
    next_version s (λ next. with_texts next texts) (with_text s text) (command_version s text (command_of s.groups.version text)) (λ n. texts_version texts n)

config_version : (h : Header) (texts : List (List ℕ)) (s : ConfigState) → config_after h texts ≡ Some s → s.groups.version ≡ h.version
unfolding config_after
config_version h texts s is = subst (λ o. KeepsVersion (first_config h) o) is (texts_version texts (first_config h))

-- ---- one more text

by_update : (s next : ConfigState) (text : List ℕ) (u : Update) → with_update s text u ≡ Some next → bytes_eq (words_of u) text ≡ true
by_update s next text u is = by_test (may_come s text u) refl is
  where
    by_test : (b : Bool) → may_come s text u ≡ b → (if b then Some (applied s u) else None) ≡ Some next → bytes_eq (words_of u) text ≡ true
    by_test true comes e =
        (and_cases (bytes_eq (words_of u) text) (not (is_some (cycle s u))) (and_cases (bytes_eq (words_of u) text && not (is_some (cycle s u))) (not (is_some (refusal_of s u))) comes).0).0
    by_test false comes e = absurd (none_some next e)

by_command : (s next : ConfigState) (text : List ℕ) (r : Result AdminCommand WordError) → with_command s text r ≡ Some next → is_update_in text r ≡ true
by_command s next text (Ok (wish.Change u)) is = by_update s next text u is
by_command s next text (Ok (wish.Act a)) is = absurd (none_some next is)
by_command s next text (Ok (wish.Status q)) is = absurd (none_some next is)
by_command s next text (Ok (wish.Rows name)) is = absurd (none_some next is)
by_command s next text (Err e) is = absurd (none_some next is)

update_in : (version : Version) (s next : ConfigState) (text : List ℕ) → s.groups.version ≡ version → with_text s text ≡ Some next → is_update version text ≡ true
unfolding is_update
update_in version s next text same is = subst (λ v. is_update_in text (command_of v text) ≡ true) same (by_command s next text (command_of s.groups.version text) is)

pub comes_as_update : (c : Cluster) (texts : List (List ℕ)) (text : List ℕ) → is_some (config_after c.header (texts ++ text ∷ [])) ≡ true → is_update (version_of c) text ≡ true
comes_as_update c texts text comes =
    let log : LogOf c.header texts (Some text) = log_of c texts (Some text) (log_next c texts text comes) in
    let more : Pending log.config text = pending_of log.config text log.rest in
    update_in (version_of c) log.config more.next text (config_version c.header texts log.config log.is) more.is
