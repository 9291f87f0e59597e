-- Reading entries back from the text of their lines.
use Rattle.std.proofs.Common.{◌≡◌, ℕ, if◌then◌else◌, Some, None, List, [], ◌∷◌, refl, ap, codes}
use Rattle.pgr_device.specs.declared.command.PrAnswer.TheVariants as given
use Rattle.status_report.specs.declared.address_entry.AddressEntry.TheVariants as address
use Rattle.status_report.specs.declared.attempt_entry.AttemptEntry.TheVariants as attempt
use Rattle.status_report.specs.declared.call_entry.CallEntry.TheVariants as call
use Rattle.status_report.specs.declared.command_entry.CommandEntry.TheVariants as asking
use Rattle.status_report.specs.declared.device_entry.DeviceEntry.TheVariants as device
use Rattle.status_report.specs.declared.node_entry.NodeEntry.TheVariants as node
use Rattle.status_report.specs.declared.packet_entry.PacketEntry.TheVariants as packet
use Rattle.status_report.specs.declared.schedule_entry.ScheduleEntry.TheVariants as schedule
use Rattle.status_report.specs.declared.start_entry.StartEntry.TheVariants as start
use Rattle.status_report.specs.declared.status_entry.StatusEntry.TheVariants as status
use Rattle.status_report.specs.declared.status_entry.TableLine.TheVariants as table
use Rattle.status_report.specs.declared.update_entry.UpdateEntry.TheVariants as update
use Rattle.status_report.specs.declared.entry.Entry.{Entry}
use Rattle.status_report.specs.declared.entry.Entry.TheVariants as entry
use Rattle.status_report.specs.Lines.{entry_text}
use Rattle.status_report.specs.Entries.{IsEntry}
use Rattle.status_report.proofs.Reading.{after, word_at, number_at, last, more, number, name}
use Rattle.status_report.proofs.Lists.{starts_digit, decimal_starts, letter_starts, set_at, set_of, set_more, set_last}
use Rattle.status_report.proofs.Parts as parts
use Rattle.status_report.proofs.Parts.{choose, part}
use Rattle.status_report.proofs.Replies.{reply_of, reply_again, bytes_of, bytes_again, table_of, table_again, message_at, message_again, target_of, target_again}

-- goes on behind the words
abbrev behind : List ℕ → (List ℕ → Entry) → List ℕ → Entry
behind words go = choose entry.Powered ((words, go) ∷ [])

abbrev write_of : ℕ → ℕ → ℕ → List ℕ → Entry
write_of a b c text =
    if starts_digit text then entry.Device (device.Accepted a b c (number_at text).0)
    else behind (codes "refused ") (λ t. entry.Device (device.Refused a b c (parts.write_refusal_of t))) text

-- the entry of which this is the text
abbrev pub entry_of : List ℕ → Entry
entry_of = choose entry.Powered
    ((codes "good", λ t. entry.Answered given.Good) ∷ (codes "conflict", λ t. entry.Answered given.Conflict) ∷ (codes "invalid-release", λ t. entry.Answered given.InvalidRelease)
    ∷ (codes "no-path", λ t. entry.Answered given.NoPath) ∷ (codes "keys ", λ t. entry.Answered (given.Keys (parts.keys_of t))) ∷ (codes "reservation ", λ t. entry.Answered (given.Holder (parts.held_of t)))
    ∷ (codes "word ", λ t. entry.Answered (given.Word (number_at t).0)) ∷ (codes "data ", λ t. entry.Answered (given.Value (number_at t).0)) ∷ (codes "miscompare ", λ t. entry.Answered (given.Miscompare (number_at t).0))
    ∷ (codes "up ", λ t. entry.Node (number_at t).0 node.Up) ∷ (codes "down ", part number_at (λ n t. entry.Node n (node.Down (parts.down_of t))))
    ∷ (codes "ticked ", λ t. entry.Node (number_at t).0 node.Ticked) ∷ (codes "saved ", λ t. entry.Node (number_at t).0 node.Saved)
    ∷ (codes "installed ", part number_at (λ n t. entry.Node n (node.Installed (number_at t).0))) ∷ (codes "member ", part number_at (λ n t. entry.Node n (node.Member (number_at t).0)))
    ∷ (codes "sent ", part number_at (λ p. part number_at (λ a. part number_at (λ b t. entry.Packet (packet.Sent p a b (message_at t).0 (bytes_of (message_at t).1))))))
    ∷ (codes "delivered ", part number_at (λ p. part number_at (λ a t. entry.Packet (packet.Delivered p a (number_at t).0)))) ∷ (codes "lost ", λ t. entry.Packet (packet.Lost (number_at t).0))
    ∷ (codes "repeated ", part number_at (λ p t. entry.Packet (packet.Repeated p (number_at t).0))) ∷ (codes "dropped ", part number_at (λ p t. entry.Packet (packet.Dropped p (parts.drop_of t))))
    ∷ (codes "device ", part number_at (λ n. part number_at (λ d. part parts.command_at (λ c t. entry.Device (device.Command n d c (parts.given_of (after (after t))))))))
    ∷ (codes "write ", part number_at (λ a. part number_at (λ b. part number_at (λ c t. write_of a b c t))))
    ∷ (codes "attempt ", part number_at (λ e t. entry.Attempt (attempt.Begun e (set_of t))))
    ∷ (
      codes "ended ",
      part number_at (λ e. choose entry.Powered
          ((codes "votes ", part number_at (λ have. part number_at (λ need t. entry.Attempt (attempt.Votes e have need (parts.lacking_of t))))) ∷ (codes "superseded ", λ t. entry.Attempt (attempt.Superseded e (number_at t).0))
          ∷ (codes "silent ", λ t. entry.Attempt (attempt.Silent e (number_at t).0)) ∷ (codes "excluded ", λ t. entry.Attempt (attempt.Excluded e (number_at t).0))
          ∷ (codes "foreign ", λ t. entry.Attempt (attempt.Foreign e (number_at t).0)) ∷ [])),
    )
    ∷ (codes "start ", part number_at (λ e. part set_at (λ ns. behind (codes "held ") (part set_at (λ ds. behind (codes "base ") (λ t. entry.Start (start.Started e ns ds (number_at t).0)))))))
    ∷ (codes "base ", part number_at (λ e. part number_at (λ v t. entry.Start (start.Base e v t))))
    ∷ (codes "adopt ", part number_at (λ e. part number_at (λ n. part word_at (λ r t. entry.Start (start.Adopted e n r (parts.flags_of t))))))
    ∷ (codes "propose ", part number_at (λ e. part number_at (λ v t. entry.Update (update.Proposed e v t)))) ∷ (codes "ack ", part number_at (λ e. part number_at (λ v t. entry.Update (update.Acknowledged e v t))))
    ∷ (codes "call ", part number_at (λ e. part number_at (λ n. part parts.method_at (λ m t. entry.Call (call.Called e n m t)))))
    ∷ (codes "done ", part number_at (λ e. part number_at (λ n. part parts.method_at (λ m. part word_at (λ r t. entry.Call (call.Done e n m r (parts.outcome_of t)))))))
    ∷ (codes "probe ", part number_at (λ n. part word_at (λ r t. entry.Call (call.Probed n r (parts.probe_of t)))))
    ∷ (codes "asked ", part number_at (λ n t. entry.Command (asking.Asked n (number_at t).0))) ∷ (codes "answer ", part number_at (λ n. part number_at (λ q t. entry.Command (asking.Answered n q (reply_of t)))))
    ∷ (codes "rg ", part word_at (λ g. part number_at (λ n t. entry.Status (status.Group g n (parts.group_state_of t))))) ∷ (codes "why ", part word_at (λ g. part number_at (λ n t. entry.Status (status.Why g n (parts.reason_of t)))))
    ∷ (codes "rs ", part word_at (λ g. part number_at (λ n t. entry.Status (status.Resource g n (parts.resource_state_of t)))))
    ∷ (codes "quorum votes ", part number_at (λ v. behind (codes "need ") (λ t. entry.Status (status.QuorumVotes v (number_at t).0))))
    ∷ (codes "quorum node ", part number_at (λ n. part number_at (λ v t. entry.Status (status.QuorumNode n v (parts.member_of t)))))
    ∷ (codes "quorum device ", part number_at (λ d. part number_at (λ v t. entry.Status (status.QuorumDevice d v (parts.quorum_state_of t)))))
    ∷ (codes "table ", λ t. entry.Status (status.Table (table_of t)))
    ∷ (codes "served ", part word_at (λ a. part number_at (λ c. part number_at (λ p t. entry.Address (address.Served a c p (target_of t))))))
    ∷ (codes "forgot ", part word_at (λ a. part number_at (λ c t. entry.Address (address.Forgot a c (number_at t).0))))
    ∷ (codes "clock ", λ t. entry.Schedule (schedule.Clock (number_at t).0)) ∷ (codes "queued", λ t. entry.Schedule schedule.Queued) ∷ (codes "armed", λ t. entry.Schedule schedule.Armed)
    ∷ (codes "rounds done", λ t. entry.Schedule schedule.RoundsDone) ∷ (codes "skipped ", λ t. entry.Schedule (schedule.Skipped (parts.skip_of t))) ∷ [])

pub entry_again : (e : Entry) → IsEntry e → entry_of (entry_text e) ≡ e
entry_again (entry.Answered given.Good) h = refl
entry_again (entry.Answered given.Conflict) h = refl
entry_again (entry.Answered given.InvalidRelease) h = refl
entry_again (entry.Answered given.NoPath) h = refl
entry_again (entry.Answered (given.Keys [])) h = ap entry.Answered (parts.answer_again (given.Keys []) h)
entry_again (entry.Answered (given.Keys (k ∷ ks))) h = ap entry.Answered (parts.answer_again (given.Keys (k ∷ ks)) h)
entry_again (entry.Answered (given.Holder None)) h = ap entry.Answered (parts.answer_again (given.Holder None) h)
entry_again (entry.Answered (given.Holder (Some held))) h = ap entry.Answered (parts.answer_again (given.Holder (Some held)) h)
entry_again (entry.Answered (given.Word word)) h = rw (last (number word h)) refl
entry_again (entry.Answered (given.Value value)) h = rw (last (number value h)) refl
entry_again (entry.Answered (given.Miscompare word)) h = rw (last (number word h)) refl
entry_again entry.Powered h = refl
entry_again (entry.Node n node.Up) h = rw (last (number n h.0)) refl
entry_again (entry.Node n (node.Down cause)) h = rw (more (number n h.0), parts.down_again cause h.1) refl
entry_again (entry.Node n node.Ticked) h = rw (last (number n h.0)) refl
entry_again (entry.Node n node.Saved) h = rw (last (number n h.0)) refl
entry_again (entry.Node n (node.Installed e)) h = rw (more (number n h.0), last (number e h.1)) refl
entry_again (entry.Node n (node.Member e)) h = rw (more (number n h.0), last (number e h.1)) refl
entry_again (entry.Packet (packet.Sent p a b m bytes)) h = rw (more (number p h.0), more (number a h.1), more (number b h.2), message_again m bytes h.3 h.4, bytes_again bytes h.4) refl
entry_again (entry.Packet (packet.Delivered p a b)) h = rw (more (number p h.0), more (number a h.1), last (number b h.2)) refl
entry_again (entry.Packet (packet.Lost p)) h = rw (last (number p h)) refl
entry_again (entry.Packet (packet.Repeated p q)) h = rw (more (number p h.0), last (number q h.1)) refl
entry_again (entry.Packet (packet.Dropped p cause)) h = rw (more (number p h), parts.drop_again cause) refl
entry_again (entry.Device (device.Command n d c a)) h = rw (more (number n h.0), more (number d h.1), parts.command_again c _ h.2, parts.given_again a h.3) refl
entry_again (entry.Device (device.Accepted e n d v)) h = rw (more (number e h.0), more (number n h.1), more (number d h.2), decimal_starts v (32 ∷ codes "accepted") h.3, more (number v h.3)) refl
entry_again (entry.Device (device.Refused n d v cause)) h = rw (more (number n h.0), more (number d h.1), more (number v h.2), letter_starts 114 _ refl, parts.write_refusal_again cause) refl
entry_again (entry.Attempt (attempt.Begun e ns)) h = rw (more (number e h.0), set_last ns h.1) refl
entry_again (entry.Attempt (attempt.Votes e have need lacking)) h = rw (more (number e h.0), more (number have h.1), more (number need h.2), parts.lacking_again lacking h.3) refl
entry_again (entry.Attempt (attempt.Superseded e by)) h = rw (more (number e h.0), last (number by h.1)) refl
entry_again (entry.Attempt (attempt.Silent e n)) h = rw (more (number e h.0), last (number n h.1)) refl
entry_again (entry.Attempt (attempt.Excluded e n)) h = rw (more (number e h.0), last (number n h.1)) refl
entry_again (entry.Attempt (attempt.Foreign e n)) h = rw (more (number e h.0), last (number n h.1)) refl
entry_again (entry.Start (start.Started e ns ds base)) h = rw (more (number e h.0), set_more ns _ h.1, set_more ds _ h.2, last (number base h.3)) refl
entry_again (entry.Start (start.Base e v words)) h = rw (more (number e h.0), more (number v h.1)) refl
entry_again (entry.Start (start.Adopted e n r flags)) h = rw (more (number e h.0), more (number n h.1), more (name r h.2), parts.flags_again flags) refl
entry_again (entry.Update (update.Proposed e v words)) h = rw (more (number e h.0), more (number v h.1)) refl
entry_again (entry.Update (update.Acknowledged e v words)) h = rw (more (number e h.0), more (number v h.1)) refl
entry_again (entry.Call (call.Called e n m r)) h = rw (more (number e h.0), more (number n h.1), parts.method_again m r) refl
entry_again (entry.Call (call.Done e n m r o)) h = rw (more (number e h.0), more (number n h.1), parts.method_again m _, more (name r h.2), parts.outcome_again o) refl
entry_again (entry.Call (call.Probed n r found)) h = rw (more (number n h.0), more (name r h.1), parts.probe_again found) refl
entry_again (entry.Command (asking.Asked n q)) h = rw (more (number n h.0), last (number q h.1)) refl
entry_again (entry.Command (asking.Answered n q a)) h = rw (more (number n h.0), more (number q h.1), reply_again a h.2) refl
entry_again (entry.Status (status.Group g n state)) h = rw (more (name g h.0), more (number n h.1), parts.group_state_again state) refl
entry_again (entry.Status (status.Why g n why)) h = rw (more (name g h.0), more (number n h.1), parts.reason_again why) refl
entry_again (entry.Status (status.Resource g n state)) h = rw (more (name g h.0), more (number n h.1), parts.resource_state_again state) refl
entry_again (entry.Status (status.QuorumVotes v need)) h = rw (more (number v h.0), last (number need h.1)) refl
entry_again (entry.Status (status.QuorumNode n v member)) h = rw (more (number n h.0), more (number v h.1), parts.member_again member) refl
entry_again (entry.Status (status.QuorumDevice d v state)) h = rw (more (number d h.0), more (number v h.1), parts.quorum_state_again state) refl
entry_again (entry.Status (status.Table (table.Generation n))) h = rw (table_again (table.Generation n) h) refl
entry_again (entry.Status (status.Table (table.Checksum digest))) h = rw (table_again (table.Checksum digest) h) refl
entry_again (entry.Status (status.Table (table.Row key value))) h = rw (table_again (table.Row key value) h) refl
entry_again (entry.Address (address.Served a c p n)) h = rw (more (name a h.0), more (number c h.1), more (number p h.2), target_again n h.3) refl
entry_again (entry.Address (address.Forgot a c p)) h = rw (more (name a h.0), more (number c h.1), last (number p h.2)) refl
entry_again (entry.Schedule (schedule.Clock s)) h = rw (last (number s h)) refl
entry_again (entry.Schedule schedule.Queued) h = refl
entry_again (entry.Schedule schedule.Armed) h = refl
entry_again (entry.Schedule schedule.RoundsDone) h = refl
entry_again (entry.Schedule (schedule.Skipped cause)) h = rw (parts.skip_again cause) refl
