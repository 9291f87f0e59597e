-- The key that a node registers at shared devices.
use Rattle.std.specs.Prelude.{ℕ, ◌+◌, ◌*◌, ◌^◌}

-- the key of the node in the cluster of this id
abbrev pub key_of : ℕ → ℕ → ℕ
key_of cluster node = cluster * 2 ^ 32 + node
