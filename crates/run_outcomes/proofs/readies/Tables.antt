-- What an update adds to the groups and resources that are reported is no more than twice its text.
use Rattle.std.specs.Prelude.{ℕ, ◌+◌, ◌*◌, ◌≤◌, ◌≡◌, ◌++◌, ◌&&◌, not, Bool, true, false, List, [], ◌∷◌, Option, None, Some, Result, Ok, Err, is_some, length, codes, if◌then◌else◌}
use Rattle.std.specs.List.{flat_map, sum_by}
use Rattle.std.specs.Option.{option_and_then, unwrap_or}
use Rattle.std.specs.Str.{bytes_eq}
use Rattle.std.proofs.Common.{arith, refl, ap, subst, length-append}
use Rattle.std.proofs.lemmas.List.Sums.{sum_by-cons}
use Rattle.std.proofs.lemmas.Slice.Eq.{bytes_eq-Decides}
use Rattle.admin_commands.specs.Orders.{cycle}
use Rattle.admin_words.specs.Commands.{command_of}
use Rattle.admin_words.specs.declared.error.WordError.{WordError}
use Rattle.ccr_tables.specs.Changes.{applied, changed, group_flag, or_same, resource_flag, sets_group, sets_resource, unless_refused}
use Rattle.ccr_tables.specs.Refusals.{refusal_of}
use Rattle.ccr_tables.specs.State.{ConfigState, first_config}
use Rattle.ccr_tables.specs.declared.command.AdminCommand.{AdminCommand}
use Rattle.ccr_tables.specs.declared.command.AdminCommand.TheVariants.{Act, Change, Rows, Status}
use Rattle.ccr_tables.specs.declared.update.Update.{Update}
use Rattle.ccr_tables.specs.declared.update.Update.TheVariants.{ChangeGroup, ChangeResource, CreateGroup, CreateResource, DeleteGroup, DeleteResource, SetGroup, SetResource, SwitchGroup}
use Rattle.cl_base.specs.declared.header.Header.{Header}
use Rattle.cl_base.specs.declared.refusal.Refusal.{Refusal}
use Rattle.cmm_attempt.proofs.Basics.{and_cases, none_some, same_some}
use Rattle.config_cache.specs.InForce.{config_under}
use Rattle.rg_props.specs.Lookups.{change_group, change_resource, flag_group, flag_resource, group_allows, group_changed, named, resource_changed, taken_by_group, taken_by_resource, with_flag, with_named, without}
use Rattle.rg_props.specs.Properties.{new_group, new_resource}
use Rattle.rg_props.specs.Settings.{group_setting_in, is_allowed_resource, resource_setting_in}
use Rattle.rg_props.specs.Table.{GroupTable}
use Rattle.rg_props.specs.declared.group.Flag.{Flag}
use Rattle.rg_props.specs.declared.group.Flag.TheVariants.{Enabled, Managed, Monitored, Suspended, Wanted}
use Rattle.rg_props.specs.declared.group.Group.{Group}
use Rattle.rg_props.specs.declared.group.Resource.{Resource}
use Rattle.rg_props.specs.declared.setting.GroupSetting.{GroupSetting}
use Rattle.rg_props.specs.declared.setting.ResourceSetting.{ResourceSetting}
use Rattle.rg_props.specs.declared.setting.SetError.{SetError}
use Rattle.rg_props.specs.declared.setting.SetError.TheVariants.{BadSetting}
use Rattle.update_log.specs.Logs.{config_after, may_come, with_command, with_text, with_texts}
use Rattle.update_words.specs.Joined.{spaced}
use Rattle.update_words.specs.Words.{nodes_text, words_of}
use Rattle.wire.specs.Lengths.{text_length}

-- ---- named things, each with so many bytes beside its name

abbrev pub names_size : {X : Type 0} → ℕ → List (List ℕ × X) → ℕ
names_size k [] = 0
names_size k (e ∷ es) = (k + length e.0) + names_size k es

set_size : {X : Type 0} → (k : ℕ) (name : List ℕ) (things : List (List ℕ × X)) (x : X) → names_size k (with_named things name x) ≡ names_size k things
set_size k name [] x = refl
set_size k name (e ∷ es) x = by_test (bytes_eq name e.0) (set_size k name es x)
  where
    by_test : (b : Bool) → names_size k (with_named es name x) ≡ names_size k es → names_size k (if b then (e.0, x) ∷ es else e ∷ with_named es name x) ≡ (k + length e.0) + names_size k es
    by_test true rest = refl
    by_test false rest = ap (λ z. (k + length e.0) + z) rest

without_size : {X : Type 0} → (k : ℕ) (name : List ℕ) (things : List (List ℕ × X)) → names_size k (without things name) ≤ names_size k things
without_size k name [] = omega arith
without_size k name (e ∷ es) = by_test (bytes_eq name e.0) (without_size k name es)
  where
    by_test : (b : Bool) → names_size k (without es name) ≤ names_size k es → names_size k (if b then es else e ∷ without es name) ≤ (k + length e.0) + names_size k es
    by_test true rest = omega arith
    by_test false rest = omega (arith, rest)

push_size : {X : Type 0} → (k : ℕ) (things : List (List ℕ × X)) (name : List ℕ) (x : X) → names_size k (things ++ (name, x) ∷ []) ≡ names_size k things + (k + length name)
push_size k [] name x = omega arith
push_size k (e ∷ es) name x = omega (arith, push_size k es name x)

-- ---- tables of groups and resources

abbrev pub table_size : GroupTable → ℕ
table_size t = names_size 32 t.groups + names_size 5 t.resources

flag_group_size : (t : GroupTable) (name : List ℕ) (flag : Flag) (on : Bool) (o : Option Group) → table_size (flag_group t name flag on o) ≡ table_size t
flag_group_size t name flag on None = refl
flag_group_size t name flag on (Some group) = ap (λ z. z + names_size 5 t.resources) (set_size 32 name t.groups _)

flag_resource_size : (t : GroupTable) (name : List ℕ) (flag : Flag) (on : Bool) (o : Option Resource) → table_size (flag_resource t name flag on o) ≡ table_size t
flag_resource_size t name flag on None = refl
flag_resource_size t name flag on (Some resource) = ap (λ z. names_size 32 t.groups + z) (set_size 5 name t.resources _)

flag_size : (t : GroupTable) (name : List ℕ) (flag : Flag) (on : Bool) → table_size (with_flag t name flag on) ≡ table_size t
flag_size t name Managed on = flag_group_size t name Managed on (named t.groups name)
flag_size t name Wanted on = flag_group_size t name Wanted on (named t.groups name)
flag_size t name Suspended on = flag_group_size t name Suspended on (named t.groups name)
flag_size t name Enabled on = flag_resource_size t name Enabled on (named t.resources name)
flag_size t name Monitored on = flag_resource_size t name Monitored on (named t.resources name)

change_group_size : (t : GroupTable) (name : List ℕ) (setting : GroupSetting) (o : Option Group) → table_size (change_group t name setting o) ≡ table_size t
change_group_size t name setting None = refl
change_group_size t name setting (Some group) = ap (λ z. z + names_size 5 t.resources) (set_size 32 name t.groups _)

taken_group_size : (t : GroupTable) (name : List ℕ) (r : Result GroupSetting SetError) → table_size (or_same (taken_by_group t name r) t) ≡ table_size t
taken_group_size t name (Err error) = refl
taken_group_size t name (Ok setting) = by_test (group_allows t name setting)
  where
    by_test : (b : Bool) → table_size (or_same (if b then Ok (group_changed t name setting) else Err BadSetting) t) ≡ table_size t
    by_test true = change_group_size t name setting (named t.groups name)
    by_test false = refl

change_resource_size : (t : GroupTable) (name : List ℕ) (setting : ResourceSetting) (o : Option Resource) → table_size (change_resource t name setting o) ≡ table_size t
change_resource_size t name setting None = refl
change_resource_size t name setting (Some resource) = ap (λ z. names_size 32 t.groups + z) (set_size 5 name t.resources _)

taken_resource_size : (t : GroupTable) (name : List ℕ) (r : Result ResourceSetting SetError) → table_size (or_same (taken_by_resource t name r) t) ≡ table_size t
taken_resource_size t name (Err error) = refl
taken_resource_size t name (Ok setting) = by_test (is_allowed_resource name setting)
  where
    by_test : (b : Bool) → table_size (or_same (if b then Ok (resource_changed t name setting) else Err BadSetting) t) ≡ table_size t
    by_test true = change_resource_size t name setting (named t.resources name)
    by_test false = refl

-- ---- an update

-- its words have the name behind the two first
words_long : (a b name : List ℕ) (rest : List (List ℕ)) → length a + length b + length name + 2 ≤ length (spaced (a ∷ b ∷ name ∷ rest))
words_long a b name rest =
    let last : List ℕ = flat_map (λ y. 32 ∷ y) rest in
    omega (arith, length-append a ((32 ∷ b) ++ ((32 ∷ name) ++ last)), length-append (32 ∷ b) ((32 ∷ name) ++ last), length-append (32 ∷ name) last)

-- so much it may add
abbrev Adds : ConfigState → Update → Type 0
Adds s u = table_size (changed s u).groups ≤ table_size s.groups + 2 * text_length (words_of u)

same_adds : (a b k : ℕ) → a ≡ b → a ≤ b + 2 * k
same_adds a b k e = omega (arith, e)

create_group : (s : ConfigState) (name nodes : List ℕ) → Adds s (CreateGroup name nodes)
create_group s name nodes =
    let four : length (codes "clrg") ≡ 4 = refl in
    let six : length (codes "create") ≡ 6 = refl in
    omega (arith, push_size 32 s.groups.groups name (new_group nodes), words_long (codes "clrg") (codes "create") name (nodes_text nodes ∷ []), four, six)

create_resource : (s : ConfigState) (name of_group of_type : List ℕ) → Adds s (CreateResource name of_group of_type)
create_resource s name of_group of_type =
    let four : length (codes "clrs") ≡ 4 = refl in
    let six : length (codes "create") ≡ 6 = refl in
    omega (arith, push_size 5 s.groups.resources name (new_resource of_group of_type), words_long (codes "clrs") (codes "create") name (of_group ∷ of_type ∷ []), four, six)

adds : (s : ConfigState) (u : Update) → Adds s u
adds s (CreateGroup name nodes) = create_group s name nodes
adds s (CreateResource name of_group of_type) = create_resource s name of_group of_type
adds s (DeleteGroup name) = omega (arith, without_size 32 name s.groups.groups)
adds s (DeleteResource name) = omega (arith, without_size 5 name s.groups.resources)
adds s (SetGroup name property value) = same_adds _ (table_size s.groups) (text_length (words_of (SetGroup name property value))) (taken_group_size s.groups name (group_setting_in s.groups.version property value))
adds s (SetResource name property value) = same_adds _ (table_size s.groups) (text_length (words_of (SetResource name property value))) (taken_resource_size s.groups name (resource_setting_in property value))
adds s (ChangeGroup name change) = same_adds _ (table_size s.groups) (text_length (words_of (ChangeGroup name change))) (flag_size s.groups name (group_flag change) (sets_group change))
adds s (SwitchGroup name nodes) = same_adds _ (table_size s.groups) (text_length (words_of (SwitchGroup name nodes))) (flag_size s.groups name Wanted true)
adds s (ChangeResource name change) = same_adds _ (table_size s.groups) (text_length (words_of (ChangeResource name change))) (flag_size s.groups name (resource_flag change) (sets_resource change))
adds s u = same_adds (table_size s.groups) (table_size s.groups) (text_length (words_of u)) refl

refused_adds : (s : ConfigState) (u : Update) (o : Option Refusal) → table_size (unless_refused s u o).groups ≤ table_size s.groups + 2 * text_length (words_of u)
refused_adds s u None = adds s u
refused_adds s u (Some r) = same_adds (table_size s.groups) (table_size s.groups) (text_length (words_of u)) refl

-- ---- texts

if_next : (b : Bool) (s next : ConfigState) → (if b then Some s else None) ≡ Some next → (b ≡ true) × (s ≡ next)
if_next true s next is = (refl, same_some s next is)
if_next false s next is = absurd (none_some next is)

command_adds : (s next : ConfigState) (text : List ℕ) (r : Result AdminCommand WordError) → with_command s text r ≡ Some next → table_size next.groups ≤ table_size s.groups + 2 * text_length text
command_adds s next text (Ok (Change u)) is =
    let two : (may_come s text u ≡ true) × (applied s u ≡ next) = if_next (may_come s text u) (applied s u) next is in
    let first : ((bytes_eq (words_of u) text && not (is_some (cycle s u))) ≡ true) × (not (is_some (refusal_of s u)) ≡ true) =
    and_cases (bytes_eq (words_of u) text && not (is_some (cycle s u))) (not (is_some (refusal_of s u))) two.0 in
    let words : words_of u ≡ text = (bytes_eq-Decides (words_of u) text).0 (and_cases (bytes_eq (words_of u) text) (not (is_some (cycle s u))) first.0).0 in
    subst (λ z. table_size next.groups ≤ table_size s.groups + 2 * text_length z) words
    (subst (λ (z : ConfigState). table_size z.groups ≤ table_size s.groups + 2 * text_length (words_of u)) two.1 (refused_adds s u (refusal_of s u)))
command_adds s next text (Ok (Act a)) is = absurd (none_some next is)
command_adds s next text (Ok (Status q)) is = absurd (none_some next is)
command_adds s next text (Ok (Rows name)) is = absurd (none_some next is)
command_adds s next text (Err e) is = absurd (none_some next is)

texts_add : (texts : List (List ℕ)) (s last : ConfigState) → with_texts s texts ≡ Some last → table_size last.groups ≤ table_size s.groups + 2 * sum_by text_length texts
texts_add [] s last is = subst (λ (z : ConfigState). table_size z.groups ≤ table_size s.groups + 2 * 0) (same_some s last is) (omega arith)
texts_add (text ∷ texts) s last is = by_next (with_text s text) refl is (λ next more. texts_add texts next last more)
  where
    by_next : (o : Option ConfigState) → with_text s text ≡ o → option_and_then (λ next. with_texts next texts) o ≡ Some last
        → ((next : ConfigState) → with_texts next texts ≡ Some last → table_size last.groups ≤ table_size next.groups + 2 * sum_by text_length texts)
        → table_size last.groups ≤ table_size s.groups + 2 * sum_by text_length (text ∷ texts)
    by_next None at none rest = absurd (none_some last none)
    by_next (Some next) at more rest =
        omega (arith, sum_by-cons text_length text texts, command_adds s next text (command_of s.groups.version text) at, rest next more)

after_size : (h : Header) (texts : List (List ℕ)) (o : Option ConfigState) → with_texts (first_config h) texts ≡ o → table_size (unwrap_or o (first_config h)).groups ≤ 2 * sum_by text_length texts
after_size h texts None is = omega arith
after_size h texts (Some last) is = omega (arith, texts_add texts (first_config h) last is)

-- the configuration under these updates
pub config_size : (h : Header) (texts : List (List ℕ)) → table_size (config_under h texts).groups ≤ 2 * sum_by text_length texts
unfolding config_after
config_size h texts = after_size h texts (with_texts (first_config h) texts) refl
