-- An update that a president accepts has room behind its own.
use Rattle.std.specs.Prelude.{ℕ, suc, ◌+◌, ◌-◌, ◌≡◌, ◌<◌, ◌≤◌, ◌^◌, ◌++◌, ◌&&◌, not, min, Bool, true, false, if◌then◌else◌, List, [], ◌∷◌, length, Option, None, Some, is_some, Result, Ok, Err}
use Rattle.std.specs.Fmt.{decimal}
use Rattle.std.specs.Option.{option_and_then, unwrap_or}
use Rattle.std.specs.Str.{bytes_eq}
use Rattle.std.proofs.Common.{refl, sym, ap, subst, ◌∙◌, arith}
use Rattle.std.proofs.lemmas.Slice.Eq.{bytes_eq-Decides}
use Rattle.admin_commands.specs.Answers.{refusal_in, unless_refused}
use Rattle.admin_commands.specs.Orders.{cycle}
use Rattle.admin_commands.specs.Records.{report_length, updates_in}
use Rattle.admin_commands.specs.declared.accepted.Accepted.TheVariants as accepted
use Rattle.admin_words.specs.Commands.{command_of}
use Rattle.admin_words.specs.declared.error.WordError.{WordError}
use Rattle.ccr_commit.specs.Entries.{texts_of}
use Rattle.ccr_tables.specs.Changes as changes
use Rattle.ccr_tables.specs.Changes.{applied, changed}
use Rattle.ccr_tables.specs.Refusals.{refusal_of}
use Rattle.ccr_tables.specs.State.{ConfigState, first_config}
use Rattle.ccr_tables.specs.Updates.{counted, table_of}
use Rattle.ccr_tables.specs.declared.command.AdminCommand.{AdminCommand}
use Rattle.ccr_tables.specs.declared.command.AdminCommand.TheVariants.{Act, Change, Rows, Status}
use Rattle.ccr_tables.specs.declared.generations.Generations.{Generations}
use Rattle.ccr_tables.specs.declared.update.Update.{Update}
use Rattle.ccr_text.specs.Lengths.{rows_length}
use Rattle.cl_base.specs.declared.command.Table.{Table}
use Rattle.cl_base.specs.declared.command.Table.TheVariants.{Addresses, Groups, Infrastructure, Resources, Types}
use Rattle.cl_base.specs.declared.header.Header.{Header}
use Rattle.cl_base.specs.declared.refusal.Refusal.{Refusal}
use Rattle.cmm_attempt.proofs.Basics.{and_cases, false_true, none_some}
use Rattle.cmm_member.specs.Lengths.{full_length}
use Rattle.cmm_member.specs.Nodes.{NodeState}
use Rattle.cmm_member.specs.Records.{update_rows}
use Rattle.command_laws.proofs.Accepting.{accepting}
use Rattle.command_laws.specs.Laws as command
use Rattle.node_model.specs.Configurations.{in_force}
use Rattle.node_model.specs.Presidents.{length_of}
use Rattle.node_model.specs.Seats.{record_of, state_of}
use Rattle.node_model.specs.declared.cluster.Cluster.{Cluster}
use Rattle.node_model.specs.declared.node.UpNode.{UpNode}
use Rattle.node_model.specs.declared.presidency.Presidency.{Presidency}
use Rattle.node_model.specs.declared.seat.Seat.TheVariants.{Member}
use Rattle.refinement.proofs.Accepted.{accepted_log}
use Rattle.refinement.proofs.Logs.{LogOf, Pending, log_of, pending_of}
use Rattle.refinement.proofs.Texts.{texts_none}
use Rattle.refinement.specs.Guards.{IsAccepted}
use Rattle.refinement.specs.Ties.{HasLog, IsLog}
use Rattle.update_log.specs.Logs.{config_after, may_come, with_command, with_text, with_texts}
use Rattle.update_words.specs.Words.{words_of}
use Rattle.word_laws.proofs.Updates.{update_spelled}
use Rattle.run_packets.proofs.fits.Bytes.{Plain}
use Rattle.run_packets.proofs.fits.Rows.{room_more}
use Rattle.run_packets.proofs.fits.Words.{update_plain}
use Rattle.run_packets.specs.fits.Rooms.{HasRoom}

-- ---- a text that may come next

none_is : (o : Option Refusal) → not (is_some o) ≡ true → o ≡ None
none_is None h = refl
none_is (Some r) h = absurd (false_true h)

if_is : (t : Bool) (s next : ConfigState) → (if t then Some s else None) ≡ Some next → t ≡ true
if_is true s next e = refl
if_is false s next e = absurd (none_some next e)

-- it is one of the canonical words of an update that is not refused
record IsWords (s : ConfigState) (text : List ℕ) (u : Update) : Type 0 where
  words : words_of u ≡ text
  taken : refusal_of s u ≡ None

words_in : (s : ConfigState) (text : List ℕ) (u : Update) → may_come s text u ≡ true → IsWords s text u
words_in s text u may =
    let two : ((bytes_eq (words_of u) text && not (is_some (cycle s u))) ≡ true) × (not (is_some (refusal_of s u)) ≡ true) =
    and_cases (bytes_eq (words_of u) text && not (is_some (cycle s u))) (not (is_some (refusal_of s u))) may in
    record { words = (bytes_eq-Decides (words_of u) text).0 (and_cases (bytes_eq (words_of u) text) (not (is_some (cycle s u))) two.0).0; taken = none_is (refusal_of s u) two.1 }

next_plain : (s next : ConfigState) (text : List ℕ) → with_text s text ≡ Some next → Plain text
next_plain s next text is = by_command (command_of s.groups.version text) refl is
  where
    by_command : (r : Result AdminCommand WordError) → command_of s.groups.version text ≡ r → with_command s text r ≡ Some next → Plain text
    by_command (Ok (Change u)) at e =
        let w : IsWords s text u = words_in s text u (if_is (may_come s text u) (applied s u) next e) in
        subst Plain w.words (update_plain s.groups.version s u (update_spelled s.groups.version text u at) w.taken)
    by_command (Ok (Act a)) at e = absurd (none_some next e)
    by_command (Ok (Status q)) at e = absurd (none_some next e)
    by_command (Ok (Rows name)) at e = absurd (none_some next e)
    by_command (Err z) at e = absurd (none_some next e)

-- ---- how many updates there are

one_more : (g : Generations) (t : Table) → updates_in g < 2 ^ 64 - 1 → updates_in (counted g t) ≡ updates_in g + 1
one_more g Infrastructure lt = omega (arith, lt)
one_more g Types lt = omega (arith, lt)
one_more g Groups lt = omega (arith, lt)
one_more g Resources lt = omega (arith, lt)
one_more g Addresses lt = omega (arith, lt)

abbrev Counts : ℕ → Option ConfigState → Type 0
Counts k None = Unit {0}
Counts k (Some s) = updates_in s.generations ≡ k

command_counts : (s : ConfigState) (text : List ℕ) (r : Result AdminCommand WordError) → updates_in s.generations < 2 ^ 64 - 1 → Counts (updates_in s.generations + 1) (with_command s text r)
command_counts s text (Ok (Change u)) few = by_test (may_come s text u) refl
  where
    by_test : (t : Bool) → may_come s text u ≡ t → Counts (updates_in s.generations + 1) (if t then Some (applied s u) else None)
    by_test true e = ap (λ r. updates_in (changes.unless_refused s u r).generations) (words_in s text u e).taken ∙ one_more s.generations (table_of u) few
    by_test false e = tt
command_counts s text (Ok (Act a)) few = tt
command_counts s text (Ok (Status q)) few = tt
command_counts s text (Ok (Rows name)) few = tt
command_counts s text (Err e) few = tt

then_counts : (j k : ℕ) (go : ConfigState → Option ConfigState) (o : Option ConfigState) → Counts j o → ((n : ConfigState) → updates_in n.generations ≡ j → Counts k (go n)) → Counts k (option_and_then go o)
then_counts j k go None h f = tt
then_counts j k go (Some n) h f = f n h

less_one : (a b : ℕ) → a + suc b < 2 ^ 64 - 1 → a < 2 ^ 64 - 1
less_one a b h = omega (arith, h)

texts_count : (texts : List (List ℕ)) (s : ConfigState) (k : ℕ) → updates_in s.generations ≡ k → k + length texts < 2 ^ 64 - 1 → Counts (k + length texts) (with_texts s texts)
texts_count [] s k is few = omega (arith, is)
texts_count (text ∷ texts) s k is few =
    then_counts (k + 1) (k + length (text ∷ texts)) (λ next. with_texts next texts) (with_text s text)
    (subst (λ z. Counts (z + 1) (with_text s text)) is (command_counts s text (command_of s.groups.version text) (subst (λ z. z < 2 ^ 64 - 1) (sym is) (less_one k (length texts) few))))
    (λ n at. subst (λ z. Counts z (with_texts n texts)) (next k (length texts)) (texts_count texts n (k + 1) at (less k (length texts) few)))
  where
    next : (a b : ℕ) → (a + 1) + b ≡ a + suc b
    next a b = omega arith

    less : (a b : ℕ) → a + suc b < 2 ^ 64 - 1 → (a + 1) + b < 2 ^ 64 - 1
    less a b h = omega (arith, h)

none_first : (h : Header) → updates_in (first_config h).generations ≡ 0
none_first h = refl

from_none : (k : ℕ) (o : Option ConfigState) → Counts (0 + k) o → Counts k o
from_none k o h = subst (λ z. Counts z o) (let e : 0 + k ≡ k = omega arith in e) h

config_counts : (h : Header) (texts : List (List ℕ)) (s : ConfigState) → config_after h texts ≡ Some s → length texts < 2 ^ 64 - 1 → updates_in s.generations ≡ length texts
unfolding config_after
config_counts h texts s is few = subst (Counts (length texts)) is (from_none (length texts) (with_texts (first_config h) texts) (texts_count texts (first_config h) 0 (none_first h) (omega (arith, few))))

-- ---- the length

rows_count : (k : ℕ) (texts : List (List ℕ)) → length texts ≤ rows_length (update_rows k texts)
rows_count k [] = omega arith
rows_count k (text ∷ texts) = omega (arith, rows_count (k + 1) texts)

few_texts : (nodes devices : ℕ) (texts : List (List ℕ)) → full_length nodes devices texts ≤ 65536 → length texts < 2 ^ 64 - 1
few_texts nodes devices texts h = omega (arith, h, rows_count 0 texts)

fits_so : (full a b : ℕ) → min full 65536 + (9 + a) + b ≤ 65536 → full + (9 + a) ≤ 65536
fits_so full a b h = omega (arith, h)

accepted_is : (o : Option Refusal) (u w : Update) → unless_refused o (accepted.Change u) ≡ Ok (accepted.Change w) → u ≡ w
accepted_is None u w h = cc
accepted_is (Some r) u w h = absurd cc

in_force_is : (c : Cluster) (x : UpNode) (s : NodeState) (config : ConfigState) → x.seat ≡ Member s → config_after c.header s.saved.entries.committed ≡ Some config → in_force c x ≡ config
in_force_is c x s config at is =
    ap (λ z. unwrap_or (config_after c.header (state_of z).saved.entries.committed) (first_config c.header)) at ∙ ap (λ o. unwrap_or o (first_config c.header)) is

-- what is accepted is not too long
accepted_length : (c : Cluster) (x : UpNode) (p : Presidency) (text : List ℕ) (count : ℕ) → updates_in (in_force c x).generations ≡ count → IsAccepted c x p text
    → full_length c.nodes c.devices (texts_of (record_of x).entries) + (9 + length (decimal (count + 1)) + length text) ≤ 65536
accepted_length c x p text count is a =
    let same : a.request ≡ a.update =
    accepted_is (refusal_in (in_force c x) p.groups.view (record_of x).members p.held (length_of c x) a.request) a.request a.update a.checked_so in
    let holds : command.Holds (in_force c x) p.groups.view (record_of x).members p.held (length_of c x) a.update =
    accepting (in_force c x) p.groups.view (record_of x).members p.held (length_of c x) a.update
    (subst (λ u. unless_refused (refusal_in (in_force c x) p.groups.view (record_of x).members p.held (length_of c x) u) (accepted.Change u) ≡ Ok (accepted.Change a.update)) same a.checked_so) in
    let full : ℕ = full_length c.nodes c.devices (texts_of (record_of x).entries) in
    let report : ℕ = report_length (changed (in_force c x) a.update).groups in
    let most : min full 65536 + (9 + length (decimal (updates_in (in_force c x).generations + 1)) + length (words_of a.update)) + report ≤ 65536 = holds.room in
    let here : min full 65536 + (9 + length (decimal (count + 1)) + length text) + report ≤ 65536 =
    subst (λ w. min full 65536 + (9 + length (decimal (count + 1)) + length w) + report ≤ 65536) (sym a.words)
    (subst (λ k. min full 65536 + (9 + length (decimal (k + 1)) + length (words_of a.update)) + report ≤ 65536) is most) in
    omega (arith, here)

pub proposed_room : (c : Cluster) (x : UpNode) (s : NodeState) (p : Presidency) (text : List ℕ) → x.seat ≡ Member s → s.saved.entries.pending ≡ None → HasLog c s.saved → IsAccepted c x p text
    → HasRoom c.nodes c.devices (texts_of s.saved.entries) → HasRoom c.nodes c.devices (texts_of s.saved.entries ++ text ∷ [])
proposed_room c x s p text at none log a h =
    let texts : List (List ℕ) = texts_of s.saved.entries in
    let same : texts ≡ s.saved.entries.committed = texts_none s.saved.entries none in
    let next : IsLog c texts (Some text) = accepted_log c x s p text at none log a in
    let had : LogOf c.header texts (Some text) = log_of c texts (Some text) next in
    let more : Pending had.config text = pending_of had.config text had.rest in
    let count : updates_in had.config.generations ≡ length texts = config_counts c.header texts had.config had.is (few_texts c.nodes c.devices texts h.most) in
    let force : in_force c x ≡ had.config = in_force_is c x s had.config at (subst (λ ts. config_after c.header ts ≡ Some had.config) same had.is) in
    room_more c.nodes c.devices texts text h (next_plain had.config more.next text more.is)
    (subst (λ z. full_length c.nodes c.devices (texts_of (state_of z).saved.entries) + (9 + length (decimal (length texts + 1)) + length text) ≤ 65536) at
    (accepted_length c x p text (length texts) (ap (λ (z : ConfigState). updates_in z.generations) force ∙ count) a))
