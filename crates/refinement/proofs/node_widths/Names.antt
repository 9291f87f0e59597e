-- Each resource of a configuration that updates make has a name of 32 bytes at most, and so has that of each call that is found over it.
use Rattle.std.specs.Prelude.{ℕ, ◌≡◌, ◌++◌, Bool, true, false, List, [], ◌∷◌, Option, None, Some, Result, Ok, Err, fold, if◌then◌else◌}
use Rattle.std.proofs.Common.{refl, sym, subst}
use Rattle.std.specs.Cmp.Lexicographic.{same_text}
use Rattle.std.specs.List.{AllByRecursion}
use Rattle.std.specs.Map.{remove_entry, set_value}
use Rattle.std.specs.Option.{option_and_then, unwrap_or}
use Rattle.std.specs.Str.{bytes_eq}
use Rattle.admin_words.specs.Commands.{command_of}
use Rattle.admin_words.specs.declared.error.WordError.{WordError}
use Rattle.ccr_tables.specs.Changes.{applied, changed, group_flag, or_same, resource_flag, sets_group, sets_resource, unless_refused}
use Rattle.ccr_tables.specs.Refusals.{refusal_of}
use Rattle.ccr_tables.specs.State.{ConfigState, first_config}
use Rattle.ccr_tables.specs.declared.command.AdminCommand.{AdminCommand}
use Rattle.ccr_tables.specs.declared.command.AdminCommand.TheVariants.{Change, Act, Status, Rows}
use Rattle.ccr_tables.specs.declared.update.Update.{Update}
use Rattle.ccr_tables.specs.declared.update.Update.TheVariants.{RegisterType, UnregisterType, CreateGroup, DeleteGroup, SetGroup, ChangeGroup, SwitchGroup, CreateResource, DeleteResource, SetResource, ChangeResource, Device, NodeVote, AddNode, RemoveNode, CreateLimit, DeleteLimit, CreateAddress, DeleteAddress, SetWeights}
use Rattle.cl_base.specs.Names.{IsName}
use Rattle.cl_base.specs.declared.header.Header.{Header}
use Rattle.cl_base.specs.declared.header.Version.{Version}
use Rattle.cl_base.specs.declared.method.Method.{Method}
use Rattle.cl_base.specs.declared.method.Method.TheVariants.{PrenetStart, Start, MonitorStart, MonitorStop, Stop, PostnetStop}
use Rattle.cl_base.specs.declared.refusal.Refusal.{Refusal}
use Rattle.cmm_attempt.proofs.Basics.{false_true, if_either, none_some}
use Rattle.attempt_laws.proofs.Walk.{if_with}
use Rattle.load_limits.specs.declared.limits.Limit.{Limit}
use Rattle.rg_props.specs.declared.group.Flag.{Flag}
use Rattle.rg_props.specs.declared.group.Flag.TheVariants.{Managed, Wanted, Suspended, Enabled, Monitored}
use Rattle.rg_props.specs.declared.group.Group.{Group}
use Rattle.rg_props.specs.declared.group.Resource.{Resource}
use Rattle.rg_props.specs.declared.setting.GroupSetting.{GroupSetting}
use Rattle.rg_props.specs.declared.setting.ResourceSetting.{ResourceSetting}
use Rattle.rg_props.specs.declared.setting.SetError.{SetError}
use Rattle.rg_props.specs.Properties.{new_resource}
use Rattle.rg_props.specs.Lookups.{change_group, change_resource, flag_group, flag_resource, group_allows, group_changed, group_set, named, resource_changed, resource_set, taken_by_group, taken_by_resource, with_flag}
use Rattle.rg_props.specs.Settings.{group_setting_in, is_allowed_resource, resource_setting_in}
use Rattle.rg_props.specs.Table.{GroupTable}
use Rattle.rg_props.specs.Values.{or_else}
use Rattle.rg_view.specs.declared.view.GroupView.{GroupView}
use Rattle.rt_types.specs.Fields.{TypeFields}
use Rattle.sequencer.specs.Allowed.{is_allowed, is_callable_in}
use Rattle.sequencer.specs.Fields.{OutlookFields}
use Rattle.sequencer.specs.Next.{call_of, down_call, next_call_of, up_call, with_down, with_up}
use Rattle.update_log.specs.Logs.{config_after, may_come, with_command, with_text, with_texts}
use Rattle.node_model.specs.declared.cluster.Cluster.{Cluster}
use Rattle.node_model.specs.declared.node.UpNode.{UpNode}
use Rattle.node_model.specs.Configurations.{in_force}
use Rattle.node_model.specs.Seats.{record_of}
use Rattle.word_laws.specs.Spelled.{IsSpelled}
use Rattle.word_laws.proofs.Updates.{update_spelled}

-- The resources of a table.

abbrev KeyFits : List ℕ × Resource → Type 0
KeyFits e = IsName e.0

abbrev AllKeys : List (List ℕ × Resource) → Type 0
AllKeys es = AllByRecursion KeyFits es

abbrev pub TableFits : GroupTable → Type 0
TableFits t = AllKeys t.resources

new_key : (es : List (List ℕ × Resource)) (e : List ℕ × Resource) → IsName e.0 → AllKeys es → AllKeys (es ++ e ∷ [])
new_key [] e is h = (is, tt)
new_key (x ∷ es) e is h = (h.0, new_key es e is h.1)

keys_without : (test : List ℕ → Bool) (es : List (List ℕ × Resource)) → AllKeys es → AllKeys (remove_entry test es)
keys_without test [] h = tt
keys_without test (e ∷ es) h = if_either AllKeys (test e.0) es (e ∷ remove_entry test es) h.1 (h.0, keys_without test es h.1)

keys_with : (test : List ℕ → Bool) (es : List (List ℕ × Resource)) (x : Resource) → AllKeys es → AllKeys (set_value test es x)
keys_with test [] x h = tt
keys_with test (e ∷ es) x h = if_either AllKeys (test e.0) ((e.0, x) ∷ es) (e ∷ set_value test es x) (h.0, h.1) (h.0, keys_with test es x h.1)

-- a resource that is there has a name
there_fits : (es : List (List ℕ × Resource)) (name : List ℕ) (r : Resource) → named es name ≡ Some r → AllKeys es → IsName name
there_fits [] name r is h = absurd (none_some r is)
there_fits (e ∷ es) name r is h = by_test (bytes_eq name e.0) refl is (λ found. there_fits es name r found h.1)
  where
    by_test : (b : Bool) → bytes_eq name e.0 ≡ b → (if b then Some e.1 else named es name) ≡ Some r → (named es name ≡ Some r → IsName name) → IsName name
    by_test true same found behind = subst IsName (sym (same_text name e.0 (sym same))) h.0
    by_test false other found behind = behind found

-- An update.

flagged_fits : (t : GroupTable) (name : List ℕ) (flag : Flag) (on : Bool) (o : Option Resource) → TableFits t → TableFits (flag_resource t name flag on o)
flagged_fits t name flag on None h = h
flagged_fits t name flag on (Some r) h = keys_with (bytes_eq name) t.resources _ h

group_flagged : (t : GroupTable) (name : List ℕ) (flag : Flag) (on : Bool) (o : Option Group) → TableFits t → TableFits (flag_group t name flag on o)
group_flagged t name flag on None h = h
group_flagged t name flag on (Some g) h = h

flag_fits : (t : GroupTable) (name : List ℕ) (flag : Flag) (on : Bool) → TableFits t → TableFits (with_flag t name flag on)
flag_fits t name Managed on h = group_flagged t name Managed on (named t.groups name) h
flag_fits t name Wanted on h = group_flagged t name Wanted on (named t.groups name) h
flag_fits t name Suspended on h = group_flagged t name Suspended on (named t.groups name) h
flag_fits t name Enabled on h = flagged_fits t name Enabled on (named t.resources name) h
flag_fits t name Monitored on h = flagged_fits t name Monitored on (named t.resources name) h

abbrev SetFits : Result GroupTable SetError → Type 0
SetFits (Ok t) = TableFits t
SetFits (Err e) = Unit {0}

or_same_fits : (r : Result GroupTable SetError) (t : GroupTable) → SetFits r → TableFits t → TableFits (or_same r t)
or_same_fits (Ok new) t f h = f
or_same_fits (Err e) t f h = h

group_changed_fits : (t : GroupTable) (name : List ℕ) (setting : GroupSetting) (o : Option Group) → TableFits t → TableFits (change_group t name setting o)
group_changed_fits t name setting None h = h
group_changed_fits t name setting (Some g) h = h

group_taken : (t : GroupTable) (name : List ℕ) (r : Result GroupSetting SetError) → TableFits t → SetFits (taken_by_group t name r)
group_taken t name (Err e) h = tt
group_taken t name (Ok setting) h =
    if_either SetFits (group_allows t name setting) (Ok (group_changed t name setting)) _ (group_changed_fits t name setting (named t.groups name) h) tt

resource_changed_fits : (t : GroupTable) (name : List ℕ) (setting : ResourceSetting) (o : Option Resource) → TableFits t → TableFits (change_resource t name setting o)
resource_changed_fits t name setting None h = h
resource_changed_fits t name setting (Some r) h = keys_with (bytes_eq name) t.resources _ h

resource_taken : (t : GroupTable) (name : List ℕ) (r : Result ResourceSetting SetError) → TableFits t → SetFits (taken_by_resource t name r)
resource_taken t name (Err e) h = tt
resource_taken t name (Ok setting) h =
    if_either SetFits (is_allowed_resource name setting) (Ok (resource_changed t name setting)) _ (resource_changed_fits t name setting (named t.resources name) h) tt

changed_fits : (v : Version) (s : ConfigState) (u : Update) → IsSpelled v u → TableFits s.groups → TableFits (changed s u).groups
changed_fits v s (CreateResource name of_group of_type) f h = new_key s.groups.resources (name, new_resource of_group of_type) f.0 h
changed_fits v s (DeleteResource name) f h = keys_without (bytes_eq name) s.groups.resources h
changed_fits v s (SetResource name property value) f h =
    or_same_fits (resource_set s.groups name property value) s.groups (resource_taken s.groups name (resource_setting_in property value) h) h
changed_fits v s (ChangeResource name change) f h = flag_fits s.groups name (resource_flag change) (sets_resource change) h
changed_fits v s (SetGroup name property value) f h =
    or_same_fits (group_set s.groups name property value) s.groups (group_taken s.groups name (group_setting_in s.groups.version property value) h) h
changed_fits v s (ChangeGroup name change) f h = flag_fits s.groups name (group_flag change) (sets_group change) h
changed_fits v s (SwitchGroup name nodes) f h = flag_fits s.groups name Wanted true h
changed_fits v s (CreateGroup name nodes) f h = h
changed_fits v s (DeleteGroup name) f h = h
changed_fits v s (RegisterType name agent methods single failover) f h = h
changed_fits v s (UnregisterType name) f h = h
changed_fits v s (Device d change) f h = h
changed_fits v s (NodeVote n vote) f h = h
changed_fits v s (AddNode n) f h = h
changed_fits v s (RemoveNode n) f h = h
changed_fits v s (CreateLimit n limit soft hard) f h = h
changed_fits v s (DeleteLimit n limit) f h = h
changed_fits v s (CreateAddress name of_group policy) f h = h
changed_fits v s (DeleteAddress name) f h = h
changed_fits v s (SetWeights name weights) f h = h

-- All updates.

unless_fits : (v : Version) (s : ConfigState) (u : Update) (o : Option Refusal) → IsSpelled v u → TableFits s.groups → TableFits (unless_refused s u o).groups
unless_fits v s u None f h = changed_fits v s u f h
unless_fits v s u (Some refusal) f h = h

abbrev ConfigFits : Option ConfigState → Type 0
ConfigFits None = Unit {0}
ConfigFits (Some s) = TableFits s.groups

command_fits : (v : Version) (s : ConfigState) (text : List ℕ) (r : Result AdminCommand WordError) → command_of v text ≡ r → TableFits s.groups → ConfigFits (with_command s text r)
command_fits v s text (Ok (Change u)) is h =
    if_either ConfigFits (may_come s text u) (Some (applied s u)) None (unless_fits v s u (refusal_of s u) (update_spelled v text u is) h) tt
command_fits v s text (Ok (Act a)) is h = tt
command_fits v s text (Ok (Status q)) is h = tt
command_fits v s text (Ok (Rows name)) is h = tt
command_fits v s text (Err e) is h = tt

texts_fit : (texts : List (List ℕ)) (s : ConfigState) → TableFits s.groups → ConfigFits (with_texts s texts)
texts_fit [] s h = h
texts_fit (text ∷ texts) s h = next_fits (with_text s text) (command_fits s.groups.version s text (command_of s.groups.version text) refl h) (texts_fit texts)
  where
    next_fits : (o : Option ConfigState) → ConfigFits o → ((next : ConfigState) → TableFits next.groups → ConfigFits (with_texts next texts))
        → ConfigFits (option_and_then (λ next. with_texts next texts) o)
    next_fits None f ih = tt
    next_fits (Some next) f ih = ih next f

after_fits : (h : Header) (texts : List (List ℕ)) → ConfigFits (config_after h texts)
unfolding config_after
after_fits h texts = texts_fit texts (first_config h) tt

or_first : (h : Header) (o : Option ConfigState) → ConfigFits o → TableFits (unwrap_or o (first_config h)).groups
or_first h None f = tt
or_first h (Some s) f = f

pub in_force_fits : (c : Cluster) (x : UpNode) → TableFits (in_force c x).groups
in_force_fits c x = or_first c.header (config_after c.header (record_of x).entries.committed) (after_fits c.header (record_of x).entries.committed)

-- Calls.

module _ (t : GroupTable) (types : List (List ℕ × TypeFields)) (limits : List Limit) (v : GroupView) (o : OutlookFields) (n : ℕ) (whole : TableFits t) where
  abbrev pub CallFits : Option (List ℕ × Method) → Type 0
  CallFits None = Unit {0}
  CallFits (Some call) = IsName call.0

  allowed_fits : (name : List ℕ) (m : Method) → is_allowed t types limits v o n name m ≡ true → IsName name
  unfolding is_allowed
  allowed_fits name m is = by_resource (named t.resources name) refl is
    where
      by_resource : (found : Option Resource) → named t.resources name ≡ found → is_callable_in t types limits v o n name m found ≡ true → IsName name
      by_resource None none is = absurd (false_true is)
      by_resource (Some r) there is = there_fits t.resources name r there whole

  one_fits : (name : List ℕ) (m : Method) → CallFits (call_of t types limits v o n name m)
  one_fits name m =
      if_with CallFits (is_allowed t types limits v o n name m) (is_allowed t types limits v o n name m) (Some (name, m)) None refl (λ is. allowed_fits name m is) (λ is. tt)

  either : (a b : Option (List ℕ × Method)) → CallFits a → CallFits b → CallFits (or_else a b)
  either None b p q = q
  either (Some a) b p q = p

  down_fits : (name : List ℕ) → CallFits (down_call t types limits v o n name)
  down_fits name = either _ _ (one_fits name MonitorStop) (either _ _ (one_fits name Stop) (one_fits name PostnetStop))

  up_fits : (name : List ℕ) → CallFits (up_call t types limits v o n name)
  up_fits name = either _ _ (one_fits name PrenetStart) (either _ _ (one_fits name Start) (one_fits name MonitorStart))

  downs_fit : (order : List (List ℕ)) (found : Option (List ℕ × Method)) → CallFits found → CallFits (fold (with_down t types limits v o n) found order)
  downs_fit [] found p = p
  downs_fit (r ∷ rs) found p = downs_fit rs (with_down t types limits v o n found r) (either (down_call t types limits v o n r) found (down_fits r) p)

  ups_fit : (order : List (List ℕ)) (found : Option (List ℕ × Method)) → CallFits found → CallFits (fold (with_up t types limits v o n) found order)
  ups_fit [] found p = p
  ups_fit (r ∷ rs) found p = ups_fit rs (with_up t types limits v o n found r) (either found (up_call t types limits v o n r) p (up_fits r))

  pub call_fits : (order : List (List ℕ)) → CallFits (next_call_of t types limits v o order n)
  unfolding next_call_of
  call_fits order = either _ _ (downs_fit order None tt) (ups_fit order None tt)
