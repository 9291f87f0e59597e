-- What passed before a task ended in one way or another.
use Rattle.std.specs.Prelude.{◌≡◌, ◌≢◌, ◌<◌, ℕ, ◌⊎◌, true, false, List, [], ◌∷◌, Some, Ok}
use Rattle.std.specs.List.{AllPass}
use Rattle.pgr_device.specs.declared.kind.PrKind.TheVariants.{WriteExclusiveRegistrantsOnly}
use Rattle.pgr_device.specs.declared.command.PrCommand.{PrCommand}
use Rattle.pgr_device.specs.declared.command.PrCommand.TheVariants as command
use Rattle.pgr_device.specs.declared.command.PrAnswer.TheVariants as answer
use Rattle.seize.specs.declared.kind.SeizeKind.TheVariants.{Vote}
use Rattle.seize.specs.Answers.{Answer, IsFailure}
use Rattle.seize.specs.Exchanges.{Exchange, keys_read, word_read, shown_word, running, has_reserved}
use Rattle.seize.specs.Keys.{has_key, first_stranger, is_key_of}
use Rattle.seize.specs.Seizing.{SeizeState, first_step, own_key}

-- no command was done yet
abbrev pub HasBegun : SeizeState → Type 0
HasBegun s = s.step ≡ first_step s.kind

-- after a try to reserve, the last reading of the keys showed the own one, and besides members' alone
pub record SawMembers (s : SeizeState) (keys : List ℕ) (es : List Exchange) : Type 0 where
  pub before : List Exchange
  pub last : es ≡ keys_read keys ∷ before
  pub own : has_key (own_key s) keys ≡ true
  pub members : AllPass (λ key. is_key_of s.cluster s.members key) keys
  pub reserved : has_reserved before ≡ true

-- .. and the word, read directly after it, was the epoch
pub record SawMembersAndEpoch (s : SeizeState) (keys : List ℕ) (es : List Exchange) : Type 0 where
  pub before : List Exchange
  pub last : es ≡ word_read s.epoch ∷ before
  pub members : SawMembers s keys before

-- the 64th reading running showed the own key, and this one as the first of no member
pub record SawStranger (s : SeizeState) (key : ℕ) (es : List Exchange) : Type 0 where
  pub before : List Exchange
  pub keys : List ℕ
  pub last : es ≡ keys_read keys ∷ before
  pub count : running es ≡ 64
  pub own : has_key (own_key s) keys ≡ true
  pub first : first_stranger s.cluster s.members keys ≡ Some key

-- the last answer showed this word, which is not the epoch; it is above the epoch, unless it was read after a try to reserve
pub record SawWord (s : SeizeState) (word : ℕ) (es : List Exchange) : Type 0 where
  pub before : List Exchange
  pub sent : PrCommand
  pub answer : Answer
  pub last : es ≡ record { command = sent; answer = answer } ∷ before
  pub shown : shown_word answer ≡ Some word
  pub other : word ≢ s.epoch
  pub above : (s.epoch < word) ⊎ (has_reserved before ≡ true)

-- the first command of a seizing for votes was the last: its reading lacked the own key, or the record does not call that key validated
pub record LackedKey (s : SeizeState) (keys : List ℕ) (es : List Exchange) : Type 0 where
  pub kind : s.kind ≡ Vote
  pub alone : es ≡ keys_read keys ∷ []
  pub absent : (has_key (own_key s) keys ≡ false) ⊎ (s.valid ≡ false)

-- a conflict to a swap, or a reading of the keys, after a try to reserve, that lacked the own one
abbrev pub IsExpulsion : SeizeState → PrCommand → Answer → List Exchange → Type 0
IsExpulsion s (command.Swap expected new) (Ok answer.Conflict) before = Unit {0}
IsExpulsion s command.Keys (Ok (answer.Keys keys)) before = (has_key (own_key s) keys ≡ false) × (has_reserved before ≡ true)
IsExpulsion s _ _ before = ⊥

-- .. came last
abbrev pub WasExpelled : SeizeState → List Exchange → Type 0
WasExpelled s [] = ⊥
WasExpelled s (e ∷ before) = IsExpulsion s e.command e.answer before

-- the last command failed
abbrev pub HasFailed : List Exchange → Type 0
HasFailed [] = ⊥
HasFailed (e ∷ before) = IsFailure e.command e.answer

-- A command of a node that seizes or joins for this epoch and has this key: it registers and shows the own key alone, reserves with type
-- 5h alone, and sets the word to the epoch alone. It never releases, clears, unregisters, or registers by another command.
abbrev pub IsOwn : ℕ → ℕ → PrCommand → Type 0
IsOwn epoch own command.Keys = Unit {0}
IsOwn epoch own command.Word = Unit {0}
IsOwn epoch own (command.Ignore new) = new ≡ own
IsOwn epoch own (command.Swap expected new) = new ≡ epoch
IsOwn epoch own (command.Reserve kind key) = (kind ≡ WriteExclusiveRegistrantsOnly) × (key ≡ own)
IsOwn epoch own (command.Preempt kind key victim) = (kind ≡ WriteExclusiveRegistrantsOnly) × (key ≡ own)
IsOwn epoch own _ = ⊥
