-- The entries of the configuration repository, seen as one list of texts.
use Rattle.std.specs.Prelude.{ℕ, ◌+◌, ◌==◌, nat_le, if◌then◌else◌, List, [], ◌∷◌, ◌++◌, Option, Some, None}
use Rattle.ccr_commit.specs.declared.entries.Prepared.{Prepared}
use Rattle.ccr_commit.specs.declared.entries.Prepared.TheVariants.{Taken, Already, Gap}

-- the texts that are committed and, after them, at most one that is still pending
pub record EntryList : Type 0 where
  pub committed : List (List ℕ)
  pub pending : Option (List ℕ)

abbrev pub listed : Option (List ℕ) → List (List ℕ)
listed None = []
listed (Some text) = text ∷ []

-- all the texts, in order of places; places count from 1
abbrev pub texts_of : EntryList → List (List ℕ)
texts_of entries = entries.committed ++ listed entries.pending

-- no entry
abbrev pub no_entries : EntryList
no_entries = record { committed = []; pending = None }

-- a pending text joins the committed ones
abbrev pub all_committed : EntryList → EntryList
all_committed entries = record { committed = texts_of entries; pending = None }

-- a text joins the list at its end and is pending; a text that was pending before it is committed
abbrev pub with_next : EntryList → List ℕ → EntryList
with_next entries text = record { committed = texts_of entries; pending = Some text }

-- how a text for this place is answered where there are this many entries: it is taken exactly at the place
-- after the last, it is there already up to the last, and there is a gap before it farther on
abbrev pub answer_for : ℕ → ℕ → Prepared
answer_for count place = if nat_le place count then Already else (if place == count + 1 then Taken else Gap (count + 1))

-- what an answer leaves of the entries
abbrev pub left_by : Prepared → EntryList → List ℕ → EntryList
left_by Taken entries text = with_next entries text
left_by Already entries text = entries
left_by (Gap wanted) entries text = entries
