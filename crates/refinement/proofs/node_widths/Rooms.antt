-- A president accepts an update where its record has room: there are fewer than 65,536 updates before it.
use Rattle.std.specs.Prelude.{ℕ, ◌+◌, ◌-◌, ◌^◌, ◌≡◌, ◌≤◌, ◌<◌, min, nat_lt, Bool, true, false, List, [], ◌∷◌, Option, None, Some, Result, Ok, length, if◌then◌else◌}
use Rattle.std.specs.Fmt.{decimal}
use Rattle.std.proofs.Common.{refl, sym, subst, arith}
use Rattle.std.proofs.lemmas.Option.{none-some}
use Rattle.admin_commands.specs.Answers.{late_refusal, refusal_in, rows_of, unless_refused}
use Rattle.admin_commands.specs.Asks.{refusal_of_ask}
use Rattle.admin_commands.specs.Cases.{before, is_below}
use Rattle.admin_commands.specs.Managing.{managed, not_listed, too_many, unmanaged}
use Rattle.admin_commands.specs.Orders.{cycle, single}
use Rattle.admin_commands.specs.Records.{length_with, most_bytes, record_full, report_length, updates_in}
use Rattle.admin_commands.specs.Standing.{still_up}
use Rattle.admin_commands.specs.Votes.{device_not_held, lose_quorum, node_has_vote, node_is_member}
use Rattle.admin_commands.specs.declared.accepted.Accepted.{Accepted}
use Rattle.admin_commands.specs.declared.accepted.Accepted.TheVariants as accepted
use Rattle.admin_commands.specs.declared.error.CheckError.{CheckError}
use Rattle.ccr_commit.specs.Entries.{texts_of}
use Rattle.ccr_tables.specs.Changes.{changed}
use Rattle.ccr_tables.specs.Refusals.{refusal_of}
use Rattle.ccr_tables.specs.State.{ConfigState}
use Rattle.ccr_tables.specs.Updates.{table_named}
use Rattle.ccr_tables.specs.declared.command.AdminCommand.{AdminCommand}
use Rattle.ccr_tables.specs.declared.command.AdminCommand.TheVariants.{Change, Act, Status, Rows}
use Rattle.ccr_tables.specs.declared.update.Update.{Update}
use Rattle.ccr_text.specs.Lengths.{rows_length}
use Rattle.cl_base.specs.declared.command.Ask.{Ask}
use Rattle.cl_base.specs.declared.command.Table.{Table}
use Rattle.cl_base.specs.declared.refusal.Refusal.{Refusal}
use Rattle.cl_base.specs.declared.refusal.Refusal.TheVariants.{RecordFull}
use Rattle.cmm_member.specs.Lengths.{full_length}
use Rattle.cmm_member.specs.Records.{update_rows}
use Rattle.rg_props.specs.Values.{or_else}
use Rattle.rg_view.specs.declared.view.GroupView.{GroupView}
use Rattle.update_words.specs.Words.{words_of}
use Rattle.wire.specs.Spelling.{IsWord}
use Rattle.node_model.specs.declared.cluster.Cluster.{Cluster}
use Rattle.node_model.specs.declared.node.UpNode.{UpNode}
use Rattle.node_model.specs.declared.presidency.Presidency.{Presidency}
use Rattle.node_model.specs.Configurations.{in_force}
use Rattle.node_model.specs.Presidents.{checked, length_of, next_place}
use Rattle.node_model.specs.Seats.{record_of}

-- Refusals, one behind the other.

second_none : (first second : Option Refusal) → or_else first second ≡ None → second ≡ None
second_none None second e = e
second_none (Some refusal) second e = absurd (none-some refusal (sym e))

third_none : (first second third : Option Refusal) → or_else first (or_else second third) ≡ None → third ≡ None
third_none first second third e = second_none second third (second_none first (or_else second third) e)

first_none : (first second : Option Refusal) → or_else first second ≡ None → first ≡ None
first_none None second e = refl
first_none (Some refusal) second e = absurd (none-some refusal (sym e))

behind_none : (number : ℕ) (told behind : Option Refusal) → before number told behind ≡ None → behind ≡ None
behind_none number None behind e = e
behind_none number (Some refusal) behind e = by_test (is_below (Some refusal) number) e
  where
    by_test : (b : Bool) → (if b then Some refusal else behind) ≡ None → behind ≡ None
    by_test true is = absurd (none-some refusal (sym is))
    by_test false is = is

-- of the refusals of an accepted update that for a record without room is none
late_none : (s : ConfigState) (v : GroupView) (members held length : ℕ) (u : Update) → late_refusal s v members held length u ≡ None → record_full s length u ≡ None
late_none s v members held length u e =
    let last : Option Refusal = or_else (record_full s length u) (node_has_vote s u) in
    let votes : Option Refusal = or_else (device_not_held held u) (or_else (lose_quorum s members held u) last) in
    let orders : Option Refusal = or_else (single s u) (or_else (node_is_member members u) votes) in
    first_none (record_full s length u) (node_has_vote s u)
    (third_none (device_not_held held u) (lose_quorum s members held u) last (third_none (single s u) (node_is_member members u) votes (third_none (still_up s v members u) (cycle s u) orders e)))

room_none : (s : ConfigState) (v : GroupView) (members held length : ℕ) (u : Update) → refusal_in s v members held length u ≡ None → record_full s length u ≡ None
room_none s v members held length u e =
    let told : Option Refusal = refusal_of s u in
    let late : Option Refusal = late_refusal s v members held length u in
    let lists : Option Refusal = or_else (not_listed s u) (or_else (too_many s u) (before 17 told late)) in
    let all : Option Refusal = or_else (managed s u) (or_else (unmanaged s u) (before 13 told lists)) in
    late_none s v members held length u
    (behind_none 17 told late (third_none (not_listed s u) (too_many s u) (before 17 told late) (behind_none 13 told lists (third_none (managed s u) (unmanaged s u) (before 13 told lists) (behind_none 10 told all e)))))

-- Lengths.

rows_many : (before : ℕ) (texts : List (List ℕ)) → length texts ≤ rows_length (update_rows before texts)
rows_many before [] = omega arith
rows_many before (text ∷ texts) = omega (arith, rows_many (before + 1) texts)

-- each update has a row of its own in the record
updates_many : (nodes devices : ℕ) (texts : List (List ℕ)) → length texts ≤ full_length nodes devices texts
updates_many nodes devices texts = omega (arith, rows_many 0 texts)

fewer : (count full digits words report : ℕ) → count ≤ full → min full 65536 + (9 + digits + words) + report ≤ 65536 → count + 1 < 2 ^ 64
fewer count full digits words report many room = omega (arith, many, room)

at_most : (a b : ℕ) → nat_lt a b ≡ false → b ≤ a
at_most a b h = grind arith

has_room : (s : ConfigState) (before : ℕ) (u : Update) → record_full s before u ≡ None → length_with s before u ≤ most_bytes
has_room s before u e = by_test (nat_lt most_bytes (length_with s before u)) refl e
  where
    by_test : (b : Bool) → nat_lt most_bytes (length_with s before u) ≡ b → (if b then Some (RecordFull (min (length_with s before u) (2 ^ 64 - 1))) else None) ≡ None
        → length_with s before u ≤ most_bytes
    by_test true is none = absurd (none-some _ (sym none))
    by_test false is none = at_most most_bytes (length_with s before u) is

-- What was accepted.

abbrev IsChange : Result Accepted CheckError → Type 0
IsChange (Ok (accepted.Change u)) = Unit {0}
IsChange _ = ⊥

change_allowed : (o : Option Refusal) (u : Update) → IsChange (unless_refused o (accepted.Change u)) → o ≡ None
change_allowed None u h = refl
change_allowed (Some refusal) u h = absurd h

-- what else is asked for changes nothing
no_change : (o : Option Refusal) (ask : Ask) → IsChange (unless_refused o (accepted.Act ask)) → ⊥
no_change None ask h = h
no_change (Some refusal) ask h = h

no_rows : (o : Option Table) (name : List ℕ) → IsChange (rows_of o name) → ⊥
no_rows None name h = h
no_rows (Some table) name h = h

has_place : (c : Cluster) (x : UpNode) (p : Presidency) (command : AdminCommand) → IsChange (checked c x p command) → IsWord (next_place x)
has_place c x p (Change u) h =
    let texts : List (List ℕ) = texts_of (record_of x).entries in
    let members : ℕ = (record_of x).members in
    let s : ConfigState = in_force c x in
    let allowed : refusal_in s p.groups.view members p.held (length_of c x) u ≡ None = change_allowed (refusal_in s p.groups.view members p.held (length_of c x) u) u h in
    let room : length_with s (length_of c x) u ≤ most_bytes = has_room s (length_of c x) u (room_none s p.groups.view members p.held (length_of c x) u allowed) in
    fewer (length texts) (full_length c.nodes c.devices texts) (length (decimal (updates_in s.generations + 1))) (length (words_of u)) (report_length (changed s u).groups)
    (updates_many c.nodes c.devices texts) room
has_place c x p (Act ask) h = absurd (no_change (refusal_of_ask (in_force c x) p.groups.view ask) ask h)
has_place c x p (Status query) h = absurd h
has_place c x p (Rows name) h = absurd (no_rows (table_named (in_force c x).groups.version name) name h)

-- the place of an update that was accepted has 64 bits
pub room_for : (c : Cluster) (x : UpNode) (p : Presidency) (command : AdminCommand) (u : Update) → checked c x p command ≡ Ok (accepted.Change u) → IsWord (next_place x)
room_for c x p command u e = has_place c x p command (subst IsChange (sym e) tt)
