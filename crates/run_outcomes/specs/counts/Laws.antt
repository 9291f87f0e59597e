-- What is proved of each run of the world, as things that happen: by which record in hand an attempt counts, where it ends for a member that is not
-- configured, and for want of votes.
use Rattle.std.specs.Prelude.{ℕ, ◌+◌, ◌≡◌, ◌≤◌, ◌==◌, ◌&&◌, ◌||◌, Bool, true, List, [], ◌∷◌, length, take, filter, IfSome}
use Rattle.std.specs.List.{AllByRecursion, list_all, list_any}
use Rattle.cl_base.specs.declared.header.Header.{Header}
use Rattle.cl_base.specs.declared.seizing.Lack.{Lack}
use Rattle.history.specs.Attempts.{IsForeign, attached_members, is_counted, is_no_path}
use Rattle.history.specs.Member.{members_of}
use Rattle.history.specs.Moment.{Moment}
use Rattle.history.specs.Order.{Always}
use Rattle.history.specs.Queue.{is_enabled}
use Rattle.history.specs.Records.{NodeRecord, committed_of, is_newest, records_in_hand}
use Rattle.history.specs.Setting.{Setting}
use Rattle.history.specs.Trace.{ended_foreign, ended_votes}
use Rattle.history_setting.specs.Laws.{OfEachRunIn}
use Rattle.quorum_votes.specs.Tables.{VoteTable}
use Rattle.quorum_votes.specs.Votes.{device_at, needed_of, state_of}

-- ---- a foreign member: of those that are configured neither in the newest committed updates nor with the pending one it is the least

abbrev pub EndsForeign : Setting → List Moment → Moment → Type 0
EndsForeign S before (ended_foreign e m) = IsForeign S before e m
EndsForeign S before _ = Unit {0}

abbrev pub ForeignOfEachRun : Type 0
ForeignOfEachRun = OfEachRunIn (λ S moments. Always (EndsForeign S) moments)

-- ---- for want of votes: what is needed, and which devices are lacking, is told by the newest record

-- so many are needed under these votes, and each device that is lacking has votes
abbrev pub needs_under : VoteTable → ℕ → List Lack → Bool
needs_under v need lacking = (needed_of v == need) && list_all (λ (x : Lack). is_enabled (state_of (device_at v x.device))) lacking

-- under those of its committed texts, or with the pending one
abbrev pub needs_for : Setting → NodeRecord → ℕ → List Lack → Bool
needs_for S r need lacking = needs_under (S.votes (take (committed_of r) r.texts)) need lacking || needs_under (S.votes r.texts) need lacking

-- .. of the newest of these records
abbrev pub is_needed : Setting → ℕ → List Lack → List NodeRecord → Bool
is_needed S need lacking records = list_any (λ r. needs_for S r need lacking) (filter (is_newest records) records)

abbrev pub EndsNeeding : Setting → List Moment → Moment → Type 0
EndsNeeding S before (ended_votes e have need lacking) = IfSome (records_in_hand e before) (λ records. is_needed S need lacking records ≡ true)
EndsNeeding S before _ = Unit {0}

abbrev pub NeededOfEachRun : Type 0
NeededOfEachRun = OfEachRunIn (λ S moments. Always (EndsNeeding S) moments)

-- ---- .. and what it has there: what is counted, by the newest record, of its members and of the devices that are not lacking

abbrev pub EndsShort : Setting → List Moment → Moment → Type 0
EndsShort S before (ended_votes e have need lacking) =
    IfSome (records_in_hand e before) (λ records. is_counted S (members_of e before) have need lacking records ≡ true)
EndsShort S before _ = Unit {0}

abbrev pub CountedOfEachRun : Type 0
CountedOfEachRun = OfEachRunIn (λ S moments. Always (EndsShort S) moments)

-- ---- which devices are lacking: devices of the header, in order, each once, and of each whether a member has a path to it

-- they are devices from low to high, in order and each once
abbrev pub IsInOrder : ℕ → ℕ → List Lack → Type 0
IsInOrder low high [] = Unit {0}
IsInOrder low high (x ∷ lacking) = (low ≤ x.device) × (x.device ≤ high) × IsInOrder (x.device + 1) high lacking

-- a device to which none of these members has a path is named so, and no other
abbrev pub NamesPath : Header → ℕ → Lack → Type 0
NamesPath h members x = is_no_path x.obstacle ≡ (length (attached_members h x.device members) == 0)

pub record AreNamed (h : Header) (members : ℕ) (lacking : List Lack) : Type 0 where
  pub order : IsInOrder 1 (length h.devices) lacking
  pub paths : AllByRecursion (NamesPath h members) lacking

abbrev pub NamesLacking : Setting → List Moment → Moment → Type 0
NamesLacking S before (ended_votes e have need lacking) = AreNamed S.header (members_of e before) lacking
NamesLacking S before _ = Unit {0}

abbrev pub LackingOfEachRun : Type 0
LackingOfEachRun = OfEachRunIn (λ S moments. Always (NamesLacking S) moments)
