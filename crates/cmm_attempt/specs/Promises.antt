-- What the members' Promises show: their records, the devices valid to them, and whether resources have flags there.
use Rattle.std.specs.Prelude.{ℕ, ◌+◌, ◌==◌, ◌&&◌, ◌||◌, Bool, not, nat_lt, List, [], ◌∷◌, Option, Some, None, length, fold, if◌then◌else◌}
use Rattle.std.specs.List.{list_any, find}
use Rattle.cl_base.specs.Sets.{has}
use Rattle.ccr_commit.specs.declared.summary.Summary.{Summary}
use Rattle.wire.specs.declared.message.Body.{Body}
use Rattle.wire.specs.declared.message.Body.TheVariants.{Promise}
use Rattle.wire.specs.declared.message.Message.{Message}
use Rattle.cmm_attempt.specs.declared.promised.Shown.{Shown}
use Rattle.cmm_attempt.specs.declared.promised.Promised.{Promised}

abbrev pub pending_count : Option (List ℕ) → ℕ
pending_count None = 0
pending_count (Some text) = 1

-- what a message that this node sent shows, where it is a Promise
abbrev pub shown_by : ℕ → Body → Option Shown
shown_by from (Promise epoch installed members valid flagged committed pending) = Some (record {
  summary = record { node = from; installed = installed; members = members; committed = length committed; all = length committed + pending_count pending };
  valid = valid;
  flagged = flagged;
})
shown_by from _ = None

abbrev pub promised_by : Message → Option Shown → Option Promised
promised_by m None = None
promised_by m (Some shown) = Some (record { shown = shown; message = m })

abbrev pub is_from : ℕ → Promised → Bool
is_from n p = p.shown.summary.node == n

-- the node promised
abbrev pub has_promised : List Promised → ℕ → Bool
has_promised promises n = list_any (λ p. p.shown.summary.node == n) promises

-- the node promised, and holds the device valid
abbrev pub holds_valid : List Promised → ℕ → ℕ → Bool
holds_valid promises d n = list_any (λ p. (p.shown.summary.node == n) && has p.shown.valid d) promises

-- a is newer than b: the first of these in which they differ decides, and it is a's that is the greater installed epoch, the
-- greater number of entries, the greater number of committed ones, or the lesser node
abbrev pub is_newer : Summary → Summary → Bool
is_newer a b =
    nat_lt b.installed a.installed
    || ((b.installed == a.installed) && (nat_lt b.all a.all
    || ((b.all == a.all) && (nat_lt b.committed a.committed
    || ((b.committed == a.committed) && nat_lt a.node b.node)))))

abbrev pub newer_of : Shown → Promised → Shown
newer_of best p = if is_newer p.shown.summary best.summary then p.shown else best

-- the newest record that was shown, the first of those than which no other is newer
abbrev pub newest_shown : List Promised → Option Shown
newest_shown [] = None
newest_shown (p ∷ promises) = Some (fold newer_of p.shown promises)

-- The node has resources with flags of a membership older than the newest record's, which left it out.
abbrev pub is_left_out_by : Shown → Shown → Bool
is_left_out_by newest shown =
    shown.flagged && nat_lt shown.summary.installed newest.summary.installed && not (has newest.summary.members shown.summary.node)

abbrev pub is_left_out : Shown → List Promised → ℕ → Bool
is_left_out newest promises n = list_any (λ p. (p.shown.summary.node == n) && is_left_out_by newest p.shown) promises

-- the least of these nodes that the newest record left out so
abbrev pub first_left_out : List Promised → List ℕ → Option Shown → Option ℕ
first_left_out promises nodes None = None
first_left_out promises nodes (Some newest) = find (is_left_out newest promises) nodes
