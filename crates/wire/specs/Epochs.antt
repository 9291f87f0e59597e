-- The epochs that a message shows: those that it names, and the epoch word of a device that it tells.
use Rattle.std.specs.Prelude.{ℕ, max, List, [], ◌∷◌}
use Rattle.std.specs.List.{fold}
use Rattle.cl_base.specs.Seizings.{SeizeResult}
use Rattle.cl_base.specs.declared.seizing.SeizeEnd.TheVariants as seized
use Rattle.wire.specs.declared.message.Body.{Body}
use Rattle.wire.specs.declared.message.Body.TheVariants as body

-- the word of the device, where the seizing ended by it
abbrev pub words_told : SeizeResult → List ℕ
words_told (seized.Greater w) = w ∷ []
words_told _ = []

abbrev pub epochs_shown : Body → List ℕ
epochs_shown (body.Heartbeat promised session member) = promised ∷ session ∷ []
epochs_shown (body.Collect epoch members) = epoch ∷ []
epochs_shown (body.Promise epoch installed members valid flagged committed pending) = epoch ∷ installed ∷ []
epochs_shown (body.Nack epoch promised) = epoch ∷ promised ∷ []
epochs_shown (body.SeizeQuorum epoch members device) = epoch ∷ []
epochs_shown (body.SeizeData epoch members device) = epoch ∷ []
epochs_shown (body.Seized epoch device outcome) = epoch ∷ words_told outcome
epochs_shown (body.Install i) = i.epoch ∷ []
epochs_shown (body.Ready epoch joined told) = epoch ∷ []
epochs_shown (body.Start epoch) = epoch ∷ []
epochs_shown (body.Prepare epoch place text) = epoch ∷ []
epochs_shown (body.Prepared epoch place) = epoch ∷ []
epochs_shown (body.Commit epoch place) = epoch ∷ []
epochs_shown (body.Order o) = o.epoch ∷ []
epochs_shown (body.Done epoch number outcome) = epoch ∷ []
epochs_shown (body.Request epoch number text) = epoch ∷ []
epochs_shown (body.Answer epoch number text) = epoch ∷ []
epochs_shown (body.Excluded epoch newest) = epoch ∷ newest ∷ []

-- the greatest of them, and 0 of none
abbrev pub greatest : List ℕ → ℕ
greatest epochs = fold max 0 epochs
