-- An Install has a packet's size: its updates have room on a disk, and it tells few keys of few devices.
use Rattle.std.specs.Prelude.{ℕ, ◌*◌, ◌≤◌, ◌++◌, List, [], ◌∷◌, length}
use Rattle.std.specs.List.{AllByRecursion, sum_by}
use Rattle.std.proofs.Common.{refl, sym, subst, inl, inr, arith}
use Rattle.std.proofs.lemmas.List.Sums.{sum_by-cons}
use Rattle.ccr_commit.specs.Entries.{listed}
use Rattle.membership_machine.specs.Invariant.{Holds}
use Rattle.membership_machine.specs.State.{Memberships}
use Rattle.node_model.specs.declared.cluster.Cluster.{Cluster}
use Rattle.node_model.specs.declared.output.Output.{Output}
use Rattle.node_model.specs.declared.output.Output.TheVariants.{Sends, Tells}
use Rattle.refinement.specs.Runs.{IsAmong, Letter, letters_of}
use Rattle.refinement.specs.Ties.{InstallTold, MessageTold, setting_of}
use Rattle.run_packets.proofs.fits.Rows.{room_take}
use Rattle.run_packets.specs.fits.Rooms.{AllHaveRoom, HasRoom}
use Rattle.wire.proofs.Lengths.{spellings}
use Rattle.wire.specs.Lengths.{reading_length}
use Rattle.wire.specs.declared.lists.Reading.{Reading}
use Rattle.wire.specs.declared.message.Body.{Body}
use Rattle.wire.specs.declared.message.Body.TheVariants as body
use Rattle.wire.specs.declared.message.Install.{Install}
use Rattle.run_packets.specs.installs.Passing.{InstallFew, IsSent, ReadingFew}
use Rattle.run_packets.specs.waiting.Sendings.{IsShort}
use Rattle.run_packets.proofs.replies.Promising.{le_test, same_listed, texts_append, texts_shorter}

readings_short : (rs : List Reading) → AllByRecursion ReadingFew rs → sum_by reading_length rs ≤ 260 * length rs
readings_short [] h = omega arith
readings_short (r ∷ rs) h = omega (arith, sum_by-cons reading_length r rs, h.0, readings_short rs h.1)

pub install_short : (nodes devices n : ℕ) (i : Install) → HasRoom nodes devices (i.committed ++ listed i.pending) → InstallFew i → IsShort n (body.Install i)
install_short nodes devices n i h few =
    le_test _ 131072
    (omega (
      arith,
      spellings (record { sender = n; body = body.Install i }),
      same_listed i.pending,
      texts_append i.committed (listed i.pending),
      texts_shorter 0 (i.committed ++ listed i.pending),
      h.most,
      readings_short i.readings few.1,
      few.0,
    ))

-- the updates of an Install that the machine has have room
install_room : (c : Cluster) (M : Memberships) (nodes devices : ℕ) (i : Install) → Holds (setting_of c) M → AllHaveRoom nodes devices M → InstallTold M i → HasRoom nodes devices (i.committed ++ listed i.pending)
install_room c M nodes devices i holds rooms told =
    subst (HasRoom nodes devices) told.base
    (subst (HasRoom nodes devices) (sym (holds.epoch i.epoch).base_log) (room_take nodes devices (length (M.epoch i.epoch).base) (M.epoch i.epoch).log (rooms.logs i.epoch)))

among_told : (M : Memberships) (from : ℕ) (b : Body) (letters : List Letter) → IsAmong from b letters → AllByRecursion (λ (l : Letter). MessageTold M l.from l.body) letters → MessageTold M from b
among_told M from b [] among told = absurd among
among_told M from b (l ∷ letters) (inl here) told = subst (λ f. MessageTold M f b) here.0 (subst (MessageTold M l.from) here.1 told.0)
among_told M from b (l ∷ letters) (inr there) told = among_told M from b letters there told.1

sent_among : (n m : ℕ) (b : Body) (os : List Output) (letters : List Letter) → IsSent m b os → IsAmong n b (letters_of n os ++ letters)
sent_among n m b [] letters h = absurd h
sent_among n m b (Tells e ∷ os) letters (inl here) = absurd here
sent_among n m b (Tells e ∷ os) letters (inr later) = sent_among n m b os letters later
sent_among n m b (Sends to other ∷ os) letters (inl here) = inl (refl, here.1)
sent_among n m b (Sends to other ∷ os) letters (inr later) = inr (sent_among n m b os letters later)

-- what a node sends is known where it was sent
pub sent_short : (c : Cluster) (M : Memberships) (nodes devices n m : ℕ) (i : Install) (os : List Output) (letters : List Letter) → Holds (setting_of c) M → AllHaveRoom nodes devices M
    → AllByRecursion (λ (l : Letter). MessageTold M l.from l.body) (letters_of n os ++ letters) → IsSent m (body.Install i) os → InstallFew i → IsShort n (body.Install i)
sent_short c M nodes devices n m i os letters holds rooms told sent few =
    install_short nodes devices n i (install_room c M nodes devices i holds rooms (among_told M n (body.Install i) (letters_of n os ++ letters) (sent_among n m (body.Install i) os letters sent) told)) few
