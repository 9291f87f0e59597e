-- Two runs, which show that each kind of event can come, and what the laws are about.
use Rattle.std.specs.Prelude.{ℕ, Bool, true, false, ◌||◌, nat_eq, List, [], ◌∷◌}
use Rattle.device_machine.specs.Sharing.{Sharing, Event, after, first_sharing}

-- the state that these events lead to
abbrev pub all_of : Sharing → List Event → Sharing
all_of s [] = s
all_of s (e ∷ es) = all_of (after s e) es

-- sets of nodes
abbrev pub no_node : ℕ → Bool
no_node m = false

abbrev pub just : ℕ → ℕ → Bool
just a m = nat_eq m a

abbrev pub pair : ℕ → ℕ → ℕ → Bool
pair a b m = nat_eq m a || nat_eq m b

abbrev pub three : ℕ → ℕ → ℕ → ℕ → Bool
three a b c m = nat_eq m a || nat_eq m b || nat_eq m c

-- A device with votes, attached to nodes 1 and 2. They form membership 65, and both write.
abbrev pub forming : List Event
forming =
    Event.Promise 1 65 ∷ Event.Promise 2 65 ∷ Event.Collected 65 (pair 1 2) ∷ Event.Ask 65 1 true ∷ Event.Seize 1 ∷ Event.Check 1 ∷ Event.Word_less 1
    ∷ Event.Swap 1 ∷ Event.Reserve 1 ∷ Event.Clear 1 ∷ Event.Confirm 1 ∷ Event.Count_with 65 ∷ Event.Install_seizer 1 ∷ Event.Install_known 2
    ∷ Event.Write 1 7 ∷ Event.Write 2 8 ∷ []

abbrev pub formed : Sharing
formed = all_of (first_sharing (pair 1 2)) forming

-- Node 1 hears node 2 no more and tries to form membership 129 alone. Its preempt of node 2's key is done, and fails: the answer is lost, and the seizing ends.
abbrev pub faulting : List Event
faulting =
    Event.Promise 1 129 ∷ Event.Collected 129 (just 1) ∷ Event.Ask 129 1 true ∷ Event.Seize 1 ∷ Event.Check 1 ∷ Event.Word_less 1 ∷ Event.Swap 1
    ∷ Event.Reserve 1 ∷ Event.Look 1 2 ∷ Event.Preempt_lost 1 ∷ []

abbrev pub faulted : Sharing
faulted = all_of formed faulting

-- Node 1 forms membership 193 alone, and writes. Node 2 still believes itself a member of 65.
abbrev pub splitting : List Event
splitting =
    Event.Promise 1 193 ∷ Event.Collected 193 (just 1) ∷ Event.Ask 193 1 true ∷ Event.Seize 1 ∷ Event.Check 1 ∷ Event.Word_less 1 ∷ Event.Swap 1
    ∷ Event.Reserve 1 ∷ Event.Clear 1 ∷ Event.Confirm 1 ∷ Event.Count_with 193 ∷ Event.Install_seizer 1 ∷ Event.Write 1 9 ∷ []

abbrev pub split : Sharing
split = all_of faulted splitting

-- Node 2 goes down, comes up, and tries to form membership 130 alone: its key is absent.
abbrev pub returning : List Event
returning =
    Event.Crash 2 ∷ Event.Promise 2 130 ∷ Event.Collected 130 (just 2) ∷ Event.Ask 130 2 true ∷ Event.Seize 2 ∷ Event.Reject 2 ∷ []

abbrev pub returned : Sharing
returned = all_of split returning

-- Both form membership 257. Node 2 registers, reads that the word is still 257, is admitted, and writes.
abbrev pub reforming : List Event
reforming =
    Event.Promise 1 257 ∷ Event.Promise 2 257 ∷ Event.Collected 257 (pair 1 2) ∷ Event.Ask 257 1 true ∷ Event.Seize 1 ∷ Event.Check 1
    ∷ Event.Word_less 1 ∷ Event.Swap 1 ∷ Event.Reserve 1 ∷ Event.Clear 1 ∷ Event.Confirm 1 ∷ Event.Count_with 257 ∷ Event.Install_seizer 1
    ∷ Event.Install_new 2 ∷ Event.Enter 2 ∷ Event.Admit 2 ∷ Event.Write 2 5 ∷ []

abbrev pub reformed : Sharing
reformed = all_of returned reforming

-- A device without votes. Nodes 1, 2 and 3 form membership 65; node 3 installs it, and its registration is still to come.
abbrev pub sharing : List Event
sharing =
    Event.Promise 1 65 ∷ Event.Promise 2 65 ∷ Event.Promise 3 65 ∷ Event.Collected 65 (three 1 2 3) ∷ Event.Ask 65 1 false ∷ Event.Seize 1
    ∷ Event.Distrust 1 ∷ Event.Register 1 ∷ Event.Word_less 1 ∷ Event.Swap 1 ∷ Event.Reserve 1 ∷ Event.Clear 1 ∷ Event.Confirm 1
    ∷ Event.Count_with 65 ∷ Event.Install_seizer 1 ∷ Event.Install_new 2 ∷ Event.Install_new 3 ∷ Event.Enter 2 ∷ Event.Admit 2 ∷ Event.Write 2 4 ∷ []

abbrev pub shared : Sharing
shared = all_of (first_sharing no_node) sharing

-- Nodes 1 and 2 form membership 129 without node 3.
abbrev pub leaving_out : List Event
leaving_out =
    Event.Promise 1 129 ∷ Event.Promise 2 129 ∷ Event.Collected 129 (pair 1 2) ∷ Event.Ask 129 1 false ∷ Event.Seize 1 ∷ Event.Distrust 1
    ∷ Event.Register 1 ∷ Event.Word_less 1 ∷ Event.Swap 1 ∷ Event.Reserve 1 ∷ Event.Clear 1 ∷ Event.Confirm 1 ∷ Event.Count_with 129
    ∷ Event.Install_seizer 1 ∷ Event.Install_known 2 ∷ Event.Write 1 5 ∷ []

abbrev pub left_out : Sharing
left_out = all_of shared leaving_out

-- Only now node 3 registers. The device would let it write, but the word that it reads is 129, so it is not admitted.
abbrev pub registering_late : List Event
registering_late =
    Event.Enter 3 ∷ Event.Late 3 ∷ []

abbrev pub late : Sharing
late = all_of left_out registering_late

-- The next seizing finds node 3's key and preempts it.
abbrev pub seizing_again : List Event
seizing_again =
    Event.Promise 1 193 ∷ Event.Promise 2 193 ∷ Event.Collected 193 (pair 1 2) ∷ Event.Ask 193 1 false ∷ Event.Seize 1 ∷ Event.Distrust 1
    ∷ Event.Register 1 ∷ Event.Word_less 1 ∷ Event.Swap 1 ∷ Event.Reserve 1 ∷ Event.Look 1 3 ∷ Event.Preempt 1 ∷ Event.Clear 1 ∷ Event.Confirm 1
    ∷ Event.Count_with 193 ∷ Event.Install_seizer 1 ∷ Event.Install_known 2 ∷ Event.Write 2 6 ∷ []

abbrev pub cleaned : Sharing
cleaned = all_of late seizing_again
