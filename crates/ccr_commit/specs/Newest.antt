-- Which of the entries that several nodes keep are the newest.
use Rattle.std.specs.Prelude.{◌≡◌, ◌<◌, ◌⊎◌}
use Rattle.ccr_commit.specs.declared.summary.Summary.{Summary}

-- a is newer than b: the first of these in which they differ decides, and it is a's that is the greater
-- installed epoch, the greater number of entries, the greater number of committed ones, or the lesser node
abbrev pub IsNewer : Summary → Summary → Type 0
IsNewer a b =
    (b.installed < a.installed)
    ⊎ ((b.installed ≡ a.installed) × (b.all < a.all))
    ⊎ ((b.installed ≡ a.installed) × (b.all ≡ a.all) × (b.committed < a.committed))
    ⊎ ((b.installed ≡ a.installed) × (b.all ≡ a.all) × (b.committed ≡ a.committed) × (a.node < b.node))

-- they differ in none of these
abbrev pub IsAsNew : Summary → Summary → Type 0
IsAsNew a b = (b.installed ≡ a.installed) × (b.all ≡ a.all) × (b.committed ≡ a.committed) × (b.node ≡ a.node)
