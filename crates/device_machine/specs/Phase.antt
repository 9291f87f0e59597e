-- How far a node has come with its task on the device in its session. The seizing of a quorum device goes
-- Asked, Keyed, Swapping, Marked, Reserved (and Preempting, as often as a key has to go), Cleared, Seized;
-- that of a device without votes Asked, Untrusted, Keyed and on as before. A joining goes Joining, Entered, Over.
-- A task that fails ends in Over from wherever it stands.
use Rattle.std.specs.Prelude.{ℕ, ◌≤◌}

pub data Phase : Type 0 where
  -- nothing was begun in this session
  Idle : Phase
  -- a seizing was begun, and no command of it is done
  Asked : Phase
  -- a seizing without votes: its record says that its key is not validated; next it registers the key
  Untrusted : Phase
  -- its key is registered; next it reads the epoch word
  Keyed : Phase
  -- it was told a word smaller than its session; next it swaps that word for its session
  Swapping : Phase
  -- the word is its session; next it reserves
  Marked : Phase
  -- it tried to reserve, or to preempt; next it reads the keys
  Reserved : Phase
  -- it read the key of a node that is no member; next it preempts that key
  Preempting : Phase
  -- it read its own key, and besides members' keys alone; next it reads the word again
  Cleared : Phase
  -- the word was still its session: it holds the device for the attempt
  Seized : Phase
  -- nothing is queued any more in this session
  Over : Phase
  -- it installed the attempt, and its key is not validated; next it registers the key
  Joining : Phase
  -- it registered the key; next it reads the word
  Entered : Phase

-- the place of a phase in that order
abbrev pub rank : Phase → ℕ
rank Idle = 0
rank Asked = 1
rank Untrusted = 2
rank Keyed = 3
rank Swapping = 4
rank Marked = 5
rank Reserved = 6
rank Preempting = 7
rank Cleared = 8
rank Seized = 9
rank Over = 10
rank Joining = 11
rank Entered = 12

-- a seizing has commands left to do
abbrev pub IsSeizing : Phase → Type 0
IsSeizing p = (1 ≤ rank p) × (rank p ≤ 8)

-- its seizing has set the word to its session, or found it so
abbrev pub IsPastSwap : Phase → Type 0
IsPastSwap p = (5 ≤ rank p) × (rank p ≤ 9)

-- a joining has commands left to do
abbrev pub IsJoining : Phase → Type 0
IsJoining p = 11 ≤ rank p

-- the word may be told: by a reading, or by a swap that found another word than it expected
abbrev pub AsksWord : Phase → Type 0
AsksWord p = (3 ≤ rank p) × (rank p ≤ 4)
