-- The limits of a cluster that clauses cite.
use Rattle.std.specs.Prelude.{ℕ}

-- the greatest number of a node, and the greatest under schedules of the first version and of reservation schedules
abbrev pub most_nodes : ℕ
most_nodes = 32

abbrev pub most_nodes_at_first : ℕ
most_nodes_at_first = 16

-- the greatest number of a device
abbrev pub most_devices : ℕ
most_devices = 16

-- how many packets a link holds
abbrev pub most_packets : ℕ
most_packets = 64
