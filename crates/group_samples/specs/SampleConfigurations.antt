-- What is configured in the samples: one group `g` with one resource `a` of a type `t`, on one node or on two.
use Rattle.std.specs.Prelude.{ℕ, Bool, true, false, List, [], ◌∷◌, Option, Some, None, if◌then◌else◌}
use Rattle.std.specs.Str.{bytes_eq}
use Rattle.agents.specs.Answers.{obeys, same_kept}
use Rattle.agents.specs.Calls.{rules_of}
use Rattle.ccr_tables.specs.State.{ConfigState, no_generations}
use Rattle.ccr_tables.specs.declared.command.AdminCommand.{AdminCommand}
use Rattle.ccr_tables.specs.declared.command.AdminCommand.TheVariants.{Status}
use Rattle.cl_base.specs.declared.command.Query.TheVariants.{GroupStatus}
use Rattle.cl_base.specs.declared.header.Header.{Header}
use Rattle.cl_base.specs.declared.header.Version.TheVariants.{One}
use Rattle.cl_base.specs.declared.history.FailoverMode.{FailoverMode}
use Rattle.cl_base.specs.declared.history.FailoverMode.TheVariants as mode
use Rattle.quorum_votes.specs.Votes.{first_of}
use Rattle.rg_props.specs.declared.group.Group.{Group}
use Rattle.rg_props.specs.declared.group.Resource.{Resource}
use Rattle.rg_props.specs.Table.{GroupTable}
use Rattle.rt_types.specs.Fields.{TypeFields}
use Rattle.status_report.specs.declared.command_entry.Answer.TheVariants.{BadValue}
use Rattle.history.specs.Setting.{Setting}
use Rattle.group_history.specs.Setting.{Agent, Groups}
use Rattle.history_samples.specs.SampleContents.{no_device}

-- ---- names of one letter

abbrev pub a : List ℕ
a = 97 ∷ []

abbrev pub g : List ℕ
g = 103 ∷ []

abbrev pub t : List ℕ
t = 116 ∷ []

-- the words of `clrg status`, shortened
abbrev pub asks_status : List ℕ
asks_status = 115 ∷ []

-- ---- what is configured

-- START and STOP, the methods at the places 2 and 6
abbrev pub plain_type : TypeFields
plain_type = record { agent = t; methods = 34; single = false; failover = false }

abbrev pub group_on : List ℕ → Group
group_on nodes = record {
  nodelist = nodes;
  maximum = 1;
  desired = 1;
  dependencies = [];
  affinities = [];
  pingpong = 3600;
  failback = false;
  factors = [];
  priority = 500;
  managed = true;
  wanted = true;
  suspended = false;
}

abbrev pub resource_under : FailoverMode → Resource
resource_under mode = record {
  group = g;
  resource_type = t;
  enabled = true;
  monitored = true;
  strong = [];
  weak = [];
  offline_restart = [];
  mode = mode;
  retry_count = 2;
  retry_interval = 300;
}

abbrev pub table_on : List ℕ → FailoverMode → GroupTable
table_on nodes mode = record { version = One; groups = (g, group_on nodes) ∷ []; resources = (a, resource_under mode) ∷ [] }

abbrev pub configured_on : Header → List ℕ → GroupTable → ConfigState
configured_on h nodes table = record {
  nodes = h.nodes;
  votes = first_of h;
  order = nodes;
  types = (t, plain_type) ∷ [];
  groups = table;
  limits = [];
  addresses = [];
  generations = no_generations;
}

-- ---- settings

abbrev pub is_status : List ℕ → Bool
is_status words = bytes_eq words asks_status

abbrev pub status_command : List ℕ → Option AdminCommand
status_command words = if is_status words then Some (Status GroupStatus) else None

abbrev pub cluster_of : Header → Setting
cluster_of h = record {
  header = h;
  votes = λ updates. first_of h;
  cells = 65536;
  canonical = λ words. Some words;
  word_error = λ words. BadValue;
  is_update = λ words. false;
  is_query = is_status;
  refusal_text = λ refusal. [];
}

abbrev pub obedient : Agent
obedient = record { rules = rules_of obeys same_kept; first = [] }

abbrev pub agent_named : List ℕ → Option Agent
agent_named name = if bytes_eq name t then Some obedient else None

abbrev pub groups_on : Header → List ℕ → GroupTable → Groups
groups_on h nodes table = record {
  cluster = cluster_of h;
  configured = λ updates. configured_on h nodes table;
  length = λ updates. 0;
  command = status_command;
  agent = agent_named;
}

-- one node, and no device
abbrev pub single_node : Header
single_node = record { version = One; cluster = 42; nodes = 1; configured = 1; devices = [] }

-- a resource that is not started is faulted, and its group stays
abbrev pub staying : Groups
staying = groups_on single_node (1 ∷ []) (table_on (1 ∷ []) mode.None)

-- a group that is not started twice goes to another node
abbrev pub moving : Groups
moving = groups_on no_device (1 ∷ 2 ∷ []) (table_on (1 ∷ 2 ∷ []) mode.Soft)
