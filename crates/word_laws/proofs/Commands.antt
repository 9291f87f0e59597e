-- The words of each update are read as this update.
use Rattle.std.proofs.Common.{◌≡◌, ℕ, true, false, List, [], ◌∷◌, map, Some, Ok, codes, refl, sym, ap, ◌∙◌}
use Rattle.std.specs.Fmt.{decimal}
use Rattle.cl_base.specs.declared.command.Policy.{Policy}
use Rattle.cl_base.specs.declared.command.Policy.TheVariants.{Weighted, Sticky, StickyPort}
use Rattle.cl_base.specs.declared.header.Version.{Version}
use Rattle.cl_base.specs.declared.header.Version.TheVariants.{One, Two}
use Rattle.ccr_tables.specs.declared.command.AdminCommand.TheVariants.{Change}
use Rattle.ccr_tables.specs.declared.update.DeviceChange.TheVariants as device
use Rattle.ccr_tables.specs.declared.update.GroupChange.{GroupChange}
use Rattle.ccr_tables.specs.declared.update.GroupChange.TheVariants as change
use Rattle.ccr_tables.specs.declared.update.ResourceChange.{ResourceChange}
use Rattle.ccr_tables.specs.declared.update.ResourceChange.TheVariants as flag
use Rattle.ccr_tables.specs.declared.update.Update.{Update}
use Rattle.ccr_tables.specs.declared.update.Update.TheVariants.{RegisterType, UnregisterType, CreateGroup, DeleteGroup, SetGroup, ChangeGroup, SwitchGroup, CreateResource, DeleteResource, SetResource, ChangeResource, Device, NodeVote, AddNode, RemoveNode, CreateLimit, DeleteLimit, CreateAddress, DeleteAddress, SetWeights}
use Rattle.update_words.specs.Joined.{spaced}
use Rattle.update_words.specs.Methods.{methods_text}
use Rattle.update_words.specs.Words.{flag_words, group_word, nodes_text, policy_text, resource_word, weights_text, words_of}
use Rattle.admin_words.specs.Answers.{Spelled, by_word}
use Rattle.admin_words.specs.Commands.{address_least, address_operands, command_in, command_of, group_least, group_operands, node_least, node_operands, quorum_by_word, resource_least, resource_operands, type_least, type_operands}
use Rattle.admin_words.specs.Operands.{both_flags_in, flag_in, policy_in}
use Rattle.admin_words.specs.Spellings.{address_command_in, group_command_in, node_command_in, quorum_command_in, resource_command_in, tool_named, type_command_in, voter_in}
use Rattle.word_laws.specs.Spelled.{IsSpelled}
use Rattle.word_laws.proofs.Split.{EachLacks, lacks, parts_joined}
use Rattle.word_laws.proofs.Reading.{device_known, device_word, load_known, load_word, name_known, name_word, node_known, node_word, nodes_known, nodes_word, weights_known, weights_word}
use Rattle.word_laws.proofs.Methods.{methods_known, methods_word}

as_they_are : (ws : List (List ℕ)) → map (λ w. w) ws ≡ ws
as_they_are [] = refl
as_they_are (w ∷ ws) = ap (λ (rest : List (List ℕ)). w ∷ rest) (as_they_are ws)

abbrev Plain : List (List ℕ) → Type 0
Plain ws = EachLacks 32 (λ w. w) ws

-- what words spell, they spell with one space between
spelled : (v : Version) (w : List ℕ) (ws : List (List ℕ)) → Plain (w ∷ ws) → command_of v (spaced (w ∷ ws)) ≡ command_in v (w ∷ ws)
spelled v w ws h = ap (λ (words : List (List ℕ)). command_in v words) (parts_joined 32 (λ (w : List ℕ). w) w ws h ∙ as_they_are (w ∷ ws))

-- ---- the first words

types_of : (v : Version) (ws : List (List ℕ)) → command_in v (codes "clrt" ∷ ws) ≡ by_word type_command_in type_least type_operands ws
unfolding command_in tool_named
types_of One ws = refl
types_of Two ws = refl

groups_of : (v : Version) (ws : List (List ℕ)) → command_in v (codes "clrg" ∷ ws) ≡ by_word group_command_in group_least (group_operands v) ws
unfolding command_in tool_named
groups_of One ws = refl
groups_of Two ws = refl

resources_of : (v : Version) (ws : List (List ℕ)) → command_in v (codes "clrs" ∷ ws) ≡ by_word resource_command_in resource_least (resource_operands v) ws
unfolding command_in tool_named
resources_of One ws = refl
resources_of Two ws = refl

quorum_of : (v : Version) (ws : List (List ℕ)) → command_in v (codes "clq" ∷ ws) ≡ quorum_by_word v ws
unfolding command_in tool_named
quorum_of One ws = refl
quorum_of Two ws = refl

second_nodes : (v : Version) (ws : List (List ℕ)) → v ≡ Two → command_in v (codes "clnode" ∷ ws) ≡ by_word node_command_in node_least (node_operands v) ws
unfolding command_in tool_named
second_nodes One ws is = absurd (cc)
second_nodes Two ws is = refl

second_addresses : (v : Version) (ws : List (List ℕ)) → v ≡ Two → command_in v (codes "clsa" ∷ ws) ≡ by_word address_command_in address_least (address_operands v) ws
unfolding command_in tool_named
second_addresses One ws is = absurd (cc)
second_addresses Two ws is = refl

-- ---- the words of flags and policies

group_plain : (c : GroupChange) → lacks 32 (group_word c) ≡ true
group_plain change.Manage = refl
group_plain change.Unmanage = refl
group_plain change.Online = refl
group_plain change.Offline = refl
group_plain change.Suspend = refl
group_plain change.Resume = refl

resource_plain : (c : ResourceChange) → lacks 32 (resource_word c) ≡ true
resource_plain flag.Enable = refl
resource_plain flag.Disable = refl
resource_plain flag.Monitor = refl
resource_plain flag.Unmonitor = refl

policy_plain : (p : Policy) → lacks 32 (policy_text p) ≡ true
policy_plain Weighted = refl
policy_plain Sticky = refl
policy_plain StickyPort = refl

policy_known : (p : Policy) → policy_in (policy_text p) ≡ Some p
unfolding policy_in
policy_known Weighted = refl
policy_known Sticky = refl
policy_known StickyPort = refl

-- ---- the commands

pub update_read : (v : Version) (u : Update) → IsSpelled v u → command_of v (words_of u) ≡ Ok (Change u)
unfolding type_command_in group_command_in resource_command_in quorum_command_in voter_in node_command_in address_command_in flag_words flag_in both_flags_in
update_read v (RegisterType n a m false false) h =
    spelled v (codes "clrt") (codes "register" ∷ n ∷ a ∷ methods_text m ∷ []) (refl, (refl, (name_word n h.0.0, (name_word a h.0.1.0, (methods_word m h.1, tt)))))
    ∙ types_of v (codes "register" ∷ n ∷ a ∷ methods_text m ∷ []) ∙ rw (name_known n h.0.0, name_known a h.0.1.0, methods_known m h.1) refl
update_read v (RegisterType n a m true false) h =
    spelled v (codes "clrt") (codes "register" ∷ n ∷ a ∷ methods_text m ∷ codes "single" ∷ []) (refl, (refl, (name_word n h.0.0, (name_word a h.0.1.0, (methods_word m h.1, (refl, tt))))))
    ∙ types_of v (codes "register" ∷ n ∷ a ∷ methods_text m ∷ codes "single" ∷ []) ∙ rw (name_known n h.0.0, name_known a h.0.1.0, methods_known m h.1) refl
update_read v (RegisterType n a m false true) h =
    spelled v (codes "clrt") (codes "register" ∷ n ∷ a ∷ methods_text m ∷ codes "failover" ∷ []) (refl, (refl, (name_word n h.0.0, (name_word a h.0.1.0, (methods_word m h.1, (refl, tt))))))
    ∙ types_of v (codes "register" ∷ n ∷ a ∷ methods_text m ∷ codes "failover" ∷ []) ∙ rw (name_known n h.0.0, name_known a h.0.1.0, methods_known m h.1) refl
update_read v (RegisterType n a m true true) h =
    spelled v (codes "clrt") (codes "register" ∷ n ∷ a ∷ methods_text m ∷ codes "single" ∷ codes "failover" ∷ []) (refl, (refl, (name_word n h.0.0, (name_word a h.0.1.0, (methods_word m h.1, (refl, (refl, tt)))))))
    ∙ types_of v (codes "register" ∷ n ∷ a ∷ methods_text m ∷ codes "single" ∷ codes "failover" ∷ []) ∙ rw (name_known n h.0.0, name_known a h.0.1.0, methods_known m h.1) refl
update_read v (UnregisterType n) h =
    spelled v (codes "clrt") (codes "unregister" ∷ n ∷ []) (refl, (refl, (name_word n h.0, tt))) ∙ types_of v (codes "unregister" ∷ n ∷ []) ∙ rw (name_known n h.0) refl
update_read v (CreateGroup g ns) h =
    spelled v (codes "clrg") (codes "create" ∷ g ∷ nodes_text ns ∷ []) (refl, (refl, (name_word g h.0.0, (nodes_word v ns h.1, tt))))
    ∙ groups_of v (codes "create" ∷ g ∷ nodes_text ns ∷ []) ∙ rw (name_known g h.0.0, nodes_known v ns h.1) refl
update_read v (DeleteGroup g) h =
    spelled v (codes "clrg") (codes "delete" ∷ g ∷ []) (refl, (refl, (name_word g h.0, tt))) ∙ groups_of v (codes "delete" ∷ g ∷ []) ∙ rw (name_known g h.0) refl
update_read v (SetGroup g p x) h =
    spelled v (codes "clrg") (codes "set" ∷ g ∷ p ∷ x ∷ []) (refl, (refl, (name_word g h.0.0, (h.1.property, (h.1.value, tt)))))
    ∙ groups_of v (codes "set" ∷ g ∷ p ∷ x ∷ []) ∙ rw (name_known g h.0.0) refl
update_read v (ChangeGroup g change.Manage) h =
    spelled v (codes "clrg") (codes "manage" ∷ g ∷ []) (refl, (refl, (name_word g h.0, tt))) ∙ groups_of v (codes "manage" ∷ g ∷ []) ∙ rw (name_known g h.0) refl
update_read v (ChangeGroup g change.Unmanage) h =
    spelled v (codes "clrg") (codes "unmanage" ∷ g ∷ []) (refl, (refl, (name_word g h.0, tt))) ∙ groups_of v (codes "unmanage" ∷ g ∷ []) ∙ rw (name_known g h.0) refl
update_read v (ChangeGroup g change.Online) h =
    spelled v (codes "clrg") (codes "online" ∷ g ∷ []) (refl, (refl, (name_word g h.0, tt))) ∙ groups_of v (codes "online" ∷ g ∷ []) ∙ rw (name_known g h.0) refl
update_read v (ChangeGroup g change.Offline) h =
    spelled v (codes "clrg") (codes "offline" ∷ g ∷ []) (refl, (refl, (name_word g h.0, tt))) ∙ groups_of v (codes "offline" ∷ g ∷ []) ∙ rw (name_known g h.0) refl
update_read v (ChangeGroup g change.Suspend) h =
    spelled v (codes "clrg") (codes "suspend" ∷ g ∷ []) (refl, (refl, (name_word g h.0, tt))) ∙ groups_of v (codes "suspend" ∷ g ∷ []) ∙ rw (name_known g h.0) refl
update_read v (ChangeGroup g change.Resume) h =
    spelled v (codes "clrg") (codes "resume" ∷ g ∷ []) (refl, (refl, (name_word g h.0, tt))) ∙ groups_of v (codes "resume" ∷ g ∷ []) ∙ rw (name_known g h.0) refl
update_read v (SwitchGroup g ns) h =
    spelled v (codes "clrg") (codes "switch" ∷ g ∷ nodes_text ns ∷ []) (refl, (refl, (name_word g h.0.0, (nodes_word v ns h.1, tt))))
    ∙ groups_of v (codes "switch" ∷ g ∷ nodes_text ns ∷ []) ∙ rw (name_known g h.0.0, nodes_known v ns h.1) refl
update_read v (CreateResource r g t) h =
    spelled v (codes "clrs") (codes "create" ∷ r ∷ g ∷ t ∷ []) (refl, (refl, (name_word r h.0, (name_word g h.1.0, (name_word t h.1.1.0, tt)))))
    ∙ resources_of v (codes "create" ∷ r ∷ g ∷ t ∷ []) ∙ rw (name_known r h.0, name_known g h.1.0, name_known t h.1.1.0) refl
update_read v (DeleteResource r) h =
    spelled v (codes "clrs") (codes "delete" ∷ r ∷ []) (refl, (refl, (name_word r h.0, tt))) ∙ resources_of v (codes "delete" ∷ r ∷ []) ∙ rw (name_known r h.0) refl
update_read v (SetResource r p x) h =
    spelled v (codes "clrs") (codes "set" ∷ r ∷ p ∷ x ∷ []) (refl, (refl, (name_word r h.0.0, (h.1.property, (h.1.value, tt)))))
    ∙ resources_of v (codes "set" ∷ r ∷ p ∷ x ∷ []) ∙ rw (name_known r h.0.0) refl
update_read v (ChangeResource r flag.Enable) h =
    spelled v (codes "clrs") (codes "enable" ∷ r ∷ []) (refl, (refl, (name_word r h.0, tt))) ∙ resources_of v (codes "enable" ∷ r ∷ []) ∙ rw (name_known r h.0) refl
update_read v (ChangeResource r flag.Disable) h =
    spelled v (codes "clrs") (codes "disable" ∷ r ∷ []) (refl, (refl, (name_word r h.0, tt))) ∙ resources_of v (codes "disable" ∷ r ∷ []) ∙ rw (name_known r h.0) refl
update_read v (ChangeResource r flag.Monitor) h =
    spelled v (codes "clrs") (codes "monitor" ∷ r ∷ []) (refl, (refl, (name_word r h.0, tt))) ∙ resources_of v (codes "monitor" ∷ r ∷ []) ∙ rw (name_known r h.0) refl
update_read v (ChangeResource r flag.Unmonitor) h =
    spelled v (codes "clrs") (codes "unmonitor" ∷ r ∷ []) (refl, (refl, (name_word r h.0, tt))) ∙ resources_of v (codes "unmonitor" ∷ r ∷ []) ∙ rw (name_known r h.0) refl
update_read v (Device d device.Add) h =
    spelled v (codes "clq") (codes "add" ∷ decimal d ∷ []) (refl, (refl, (device_word d h, tt))) ∙ quorum_of v (codes "add" ∷ decimal d ∷ []) ∙ rw (device_known d h) refl
update_read v (Device d device.Remove) h =
    spelled v (codes "clq") (codes "remove" ∷ decimal d ∷ []) (refl, (refl, (device_word d h, tt))) ∙ quorum_of v (codes "remove" ∷ decimal d ∷ []) ∙ rw (device_known d h) refl
update_read v (Device d device.Enable) h =
    spelled v (codes "clq") (codes "enable" ∷ codes "device" ∷ decimal d ∷ []) (refl, (refl, (refl, (device_word d h, tt))))
    ∙ quorum_of v (codes "enable" ∷ codes "device" ∷ decimal d ∷ []) ∙ rw (device_known d h) refl
update_read v (Device d device.Disable) h =
    spelled v (codes "clq") (codes "disable" ∷ codes "device" ∷ decimal d ∷ []) (refl, (refl, (refl, (device_word d h, tt))))
    ∙ quorum_of v (codes "disable" ∷ codes "device" ∷ decimal d ∷ []) ∙ rw (device_known d h) refl
update_read v (NodeVote n true) h =
    spelled v (codes "clq") (codes "enable" ∷ codes "node" ∷ decimal n ∷ []) (refl, (refl, (refl, (node_word v n h, tt))))
    ∙ quorum_of v (codes "enable" ∷ codes "node" ∷ decimal n ∷ []) ∙ rw (node_known v n h) refl
update_read v (NodeVote n false) h =
    spelled v (codes "clq") (codes "disable" ∷ codes "node" ∷ decimal n ∷ []) (refl, (refl, (refl, (node_word v n h, tt))))
    ∙ quorum_of v (codes "disable" ∷ codes "node" ∷ decimal n ∷ []) ∙ rw (node_known v n h) refl
update_read v (AddNode n) h =
    spelled v (codes "clnode") (codes "add" ∷ decimal n ∷ []) (refl, (refl, (node_word v n h.0, tt))) ∙ second_nodes v (codes "add" ∷ decimal n ∷ []) h.1.is ∙ rw (node_known v n h.0) refl
update_read v (RemoveNode n) h =
    spelled v (codes "clnode") (codes "remove" ∷ decimal n ∷ []) (refl, (refl, (node_word v n h.0, tt))) ∙ second_nodes v (codes "remove" ∷ decimal n ∷ []) h.1.is ∙ rw (node_known v n h.0) refl
update_read v (CreateLimit n l soft hard) h =
    spelled v (codes "clnode") (codes "create-loadlimit" ∷ decimal n ∷ l ∷ decimal soft ∷ decimal hard ∷ [])
    (refl, (refl, (node_word v n h.2, (name_word l h.0.0, (load_word soft h.1.soft, (load_word hard h.1.hard, tt))))))
    ∙ second_nodes v (codes "create-loadlimit" ∷ decimal n ∷ l ∷ decimal soft ∷ decimal hard ∷ []) h.3.is
    ∙ rw (node_known v n h.2, name_known l h.0.0, load_known soft h.1.soft, load_known hard h.1.hard) refl
update_read v (DeleteLimit n l) h =
    spelled v (codes "clnode") (codes "delete-loadlimit" ∷ decimal n ∷ l ∷ []) (refl, (refl, (node_word v n h.1, (name_word l h.0.0, tt))))
    ∙ second_nodes v (codes "delete-loadlimit" ∷ decimal n ∷ l ∷ []) h.2.is ∙ rw (node_known v n h.1, name_known l h.0.0) refl
update_read v (CreateAddress a g p) h =
    spelled v (codes "clsa") (codes "create" ∷ a ∷ g ∷ policy_text p ∷ []) (refl, (refl, (name_word a h.0.0, (name_word g h.0.1.0, (policy_plain p, tt)))))
    ∙ second_addresses v (codes "create" ∷ a ∷ g ∷ policy_text p ∷ []) h.1.is ∙ rw (name_known a h.0.0, name_known g h.0.1.0, policy_known p) refl
update_read v (DeleteAddress a) h =
    spelled v (codes "clsa") (codes "delete" ∷ a ∷ []) (refl, (refl, (name_word a h.0.0, tt))) ∙ second_addresses v (codes "delete" ∷ a ∷ []) h.1.is ∙ rw (name_known a h.0.0) refl
update_read v (SetWeights a ws) h =
    spelled v (codes "clsa") (codes "weights" ∷ a ∷ weights_text ws ∷ []) (refl, (refl, (name_word a h.0.0, (weights_word v ws h.1, tt))))
    ∙ second_addresses v (codes "weights" ∷ a ∷ weights_text ws ∷ []) h.2.is ∙ rw (name_known a h.0.0, weights_known v ws h.1) refl

-- so the words tell the update
abbrev change_of : Update → Spelled → Update
change_of other (Ok (Change u)) = u
change_of other _ = other

pub update_told : (v : Version) (u w : Update) → IsSpelled v u → IsSpelled v w → words_of u ≡ words_of w → u ≡ w
update_told v u w of_u of_w same =
    ap (λ (s : Spelled). change_of u s) (sym (update_read v u of_u) ∙ ap (λ (text : List ℕ). command_of v text) same ∙ update_read v w of_w)
