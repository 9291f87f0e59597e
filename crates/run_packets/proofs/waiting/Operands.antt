-- The words that a command has, but for lists: names, numbers and those of the language.
use Rattle.std.specs.Prelude.{◌<◌, ◌^◌, decimal}
use Rattle.std.proofs.Common.{arith, ℕ, ◌≤◌, Bool, true, false, List, length}
use Rattle.std.specs.List.{AllByRecursion}
use Rattle.cl_base.specs.Names.{IsName}
use Rattle.cl_base.specs.declared.command.Policy.{Policy}
use Rattle.cl_base.specs.declared.command.Policy.TheVariants as policy
use Rattle.ccr_tables.specs.declared.update.GroupChange.{GroupChange}
use Rattle.ccr_tables.specs.declared.update.GroupChange.TheVariants as group_change
use Rattle.ccr_tables.specs.declared.update.ResourceChange.{ResourceChange}
use Rattle.ccr_tables.specs.declared.update.ResourceChange.TheVariants as resource_change
use Rattle.cl_base.specs.declared.header.Version.{Version}
use Rattle.cl_base.specs.declared.header.Version.TheVariants.{One}
use Rattle.ccr_tables.specs.declared.command.AdminCommand.{AdminCommand}
use Rattle.ccr_tables.specs.declared.command.AdminCommand.TheVariants.{Change, Act, Status, Rows}
use Rattle.ccr_tables.specs.declared.update.DeviceChange.{DeviceChange}
use Rattle.ccr_tables.specs.declared.update.DeviceChange.TheVariants as device
use Rattle.ccr_tables.specs.declared.update.Update.TheVariants.{RegisterType, Device}
use Rattle.word_laws.specs.Spelled.{IsDevice, IsNodeOf}
use Rattle.run_packets.proofs.waiting.Texts.{Fits, decimal_few, node_few, short_fits}
use Rattle.history_setting.specs.Settings.{query_words, rows_words}
use Rattle.update_words.specs.Methods.{methods_text}
use Rattle.update_words.specs.Words.{command_words, flag_words, group_word, policy_text, request_words, resource_word, vote_word}
use Rattle.cl_base.specs.Limits.{most_devices}

-- the words of a command
abbrev pub words_in : AdminCommand → List (List ℕ)
words_in (Change u) = command_words u
words_in (Act a) = request_words a
words_in (Status q) = query_words q
words_in (Rows name) = rows_words name

abbrev pub GoodCommand : Version → AdminCommand → Type 0
GoodCommand v command = AllByRecursion Fits (words_in command) × (length (words_in command) ≤ 15)

-- ---- words

pub name_fits : (w : List ℕ) → IsName w → Fits w
name_fits w p = short_fits w 32 p.1 (omega arith)

pub node_fits : (v : Version) (n : ℕ) → IsNodeOf v n → Fits (decimal n)
node_fits v n p = short_fits (decimal n) 7 (node_few v n p) (omega arith)

pub number_fits : (n : ℕ) → n < 10 ^ 7 → Fits (decimal n)
number_fits n h = short_fits (decimal n) 7 (decimal_few n h) (omega arith)

pub device_small : (d : ℕ) → IsDevice d → d < 10 ^ 7
device_small d p = small d most_devices p.high (omega arith)
  where
    small : (a b : ℕ) → a ≤ b → b ≤ 64 → a < 10 ^ 7
    small a b h k = omega (arith, h, k)

pub load_small : (n : ℕ) → n ≤ 1000000 → n < 10 ^ 7
load_small n h = omega (arith, h)

pub group_fits : (change : GroupChange) → Fits (group_word change)
group_fits group_change.Manage = omega arith
group_fits group_change.Unmanage = omega arith
group_fits group_change.Online = omega arith
group_fits group_change.Offline = omega arith
group_fits group_change.Suspend = omega arith
group_fits group_change.Resume = omega arith

pub resource_fits : (change : ResourceChange) → Fits (resource_word change)
resource_fits resource_change.Enable = omega arith
resource_fits resource_change.Disable = omega arith
resource_fits resource_change.Monitor = omega arith
resource_fits resource_change.Unmonitor = omega arith

pub vote_fits : (vote : Bool) → Fits (vote_word vote)
vote_fits true = omega arith
vote_fits false = omega arith

pub policy_fits : (p : Policy) → Fits (policy_text p)
policy_fits policy.Weighted = omega arith
policy_fits policy.Sticky = omega arith
policy_fits policy.StickyPort = omega arith

pub device_fits : (d : ℕ) (change : DeviceChange) → Fits (decimal d) → GoodCommand One (Change (Device d change))
device_fits d device.Add h = ((omega arith, (omega arith, (h, tt))), omega arith)
device_fits d device.Remove h = ((omega arith, (omega arith, (h, tt))), omega arith)
device_fits d device.Enable h = ((omega arith, (omega arith, (omega arith, (h, tt)))), omega arith)
device_fits d device.Disable h = ((omega arith, (omega arith, (omega arith, (h, tt)))), omega arith)

pub registered : (name agent : List ℕ) (methods : ℕ) (single failover : Bool) → Fits name → Fits agent → Fits (methods_text methods) → GoodCommand One (Change (RegisterType name agent methods single failover))
unfolding flag_words
registered name agent methods true true n a m = ((omega arith, (omega arith, (n, (a, (m, (omega arith, (omega arith, tt))))))), omega arith)
registered name agent methods true false n a m = ((omega arith, (omega arith, (n, (a, (m, (omega arith, tt)))))), omega arith)
registered name agent methods false true n a m = ((omega arith, (omega arith, (n, (a, (m, (omega arith, tt)))))), omega arith)
registered name agent methods false false n a m = ((omega arith, (omega arith, (n, (a, (m, tt))))), omega arith)
