-- The configuration repository as a node keeps it: updates in order, the last of which may be pending.
use Rattle.std.specs.Prelude.{ℕ, ◌≡◌, ◌<◌, ◌≤◌, ◌⊎◌, List, [], length, zero}

-- an update is the canonical words of one command, as text
abbrev pub Update : Type 0
Update = List ℕ

-- A node's durable record of the repository. It was installed in the epoch `installed` (0: never),
-- and holds committed updates and after them at most one that is pending.
pub record Saved : Type 0 where
  pub installed : ℕ
  pub entries : List Update
  -- so many of the entries are committed
  pub committed : ℕ

-- the record of a node that was never in a membership
abbrev pub first_record : Saved
first_record = record { installed = zero; entries = []; committed = zero }

-- Record s is at least as new as r: the greater installed epoch first, then more entries with a pending one counted, then more committed.
-- An installed epoch comes first since entries of a smaller one may have been given up by a membership that lacked them.
abbrev pub IsBehind : Saved → Saved → Type 0
IsBehind r s = (r.installed < s.installed) ⊎ ((r.installed ≡ s.installed) × ((length r.entries < length s.entries) ⊎ ((length r.entries ≡ length s.entries) × (r.committed ≤ s.committed))))
