-- The Prepares of a proposal are sent to each other member, and have a packet's size.
use Rattle.std.specs.Prelude.{ℕ, ◌+◌, ◌≡◌, ◌≢◌, ◌≤◌, ◌⊎◌, ◌++◌, ◌==◌, ◌&&◌, nat_le, Bool, true, false, List, [], ◌∷◌, length, map, Option, None, Some, Ok}
use Rattle.std.specs.List.{list_any}
use Rattle.std.proofs.Common.{refl, sym, subst, ◌∙◌, inl, inr, arith}
use Rattle.std.specs.Fmt.{decimal}
use Rattle.admin_commands.specs.Answers.{answer_to, refusal_in, unless_refused}
use Rattle.admin_commands.specs.declared.accepted.Accepted.TheVariants as accepted
use Rattle.admin_commands.specs.Records.{length_with, most_bytes, report_length, updates_in}
use Rattle.ccr_tables.specs.Changes.{changed}
use Rattle.ccr_tables.specs.State.{ConfigState}
use Rattle.ccr_tables.specs.declared.command.AdminCommand.TheVariants as wish
use Rattle.rg_view.specs.declared.view.GroupView.{GroupView}
use Rattle.attempt_laws.proofs.Told.{is_among}
use Rattle.ccr_tables.specs.declared.update.Update.{Update}
use Rattle.cl_base.specs.Limits.{most_nodes}
use Rattle.cl_base.specs.Numbers.{numbers_to}
use Rattle.cl_base.specs.Sets.{has, set_without}
use Rattle.cmm_attempt.proofs.Basics.{and_cases, or_cases, same_number as equal}
use Rattle.command_laws.proofs.Accepting.{accepting}
use Rattle.node_model.specs.Configurations.{in_force}
use Rattle.node_model.specs.Presidents.{length_of, sent_to}
use Rattle.node_model.specs.Seats.{record_of}
use Rattle.node_model.specs.declared.cluster.Cluster.{Cluster}
use Rattle.node_model.specs.declared.node.UpNode.{UpNode}
use Rattle.node_model.specs.declared.output.Output.{Output}
use Rattle.node_model.specs.declared.output.Output.TheVariants.{Sends}
use Rattle.node_model.specs.declared.presidency.Presidency.{Presidency}
use Rattle.refinement.proofs.Texts.{without_other}
use Rattle.refinement.specs.Guards.{IsAccepted}
use Rattle.cl_base.specs.declared.refusal.Refusal.{Refusal}
use Rattle.update_words.specs.Words.{words_of}
use Rattle.wire.proofs.Lengths.{spellings}
use Rattle.wire.specs.Spelling.{spelling}
use Rattle.wire.specs.declared.message.Body.{Body}
use Rattle.wire.specs.declared.message.Body.TheVariants as body
use Rattle.wire.specs.declared.message.Message.{Message}
use Rattle.run_packets.specs.prepares.Proposals.{IsBehind, IsShort}

-- ---- behind

pub behind_more : (n m : ℕ) (b : Body) (os more : List Output) → IsBehind n m b os → IsBehind n m b (os ++ more)
behind_more n m b [] more h = absurd h
behind_more n m b (o ∷ os) more (inl here) = inl here
behind_more n m b (o ∷ os) more (inr later) = inr (behind_more n m b os more later)

-- ---- one message to each

each_sent : (n m : ℕ) (b : Body) (ns : List ℕ) → list_any (λ k. k == m) ns ≡ true → IsBehind n m b (map (λ k. Sends k b) ns)
each_sent n m b [] is = absurd (false_is is)
  where
    false_is : false ≡ true → ⊥
    false_is h = cc
each_sent n m b (k ∷ ns) is = by_place (or_cases (k == m) (list_any (λ j. j == m) ns) is) (λ later. each_sent n m b ns later)
  where
    by_place : ((k == m) ≡ true) ⊎ (list_any (λ j. j == m) ns ≡ true) → (list_any (λ j. j == m) ns ≡ true → IsBehind n m b (map (λ j. Sends j b) ns))
        → IsBehind n m b (Sends k b ∷ map (λ j. Sends j b) ns)
    by_place (inl here) rest = inl (equal k m here, refl)
    by_place (inr later) rest = inr (rest later)

at_most : (a b : ℕ) → a ≤ b → nat_le a b ≡ true
at_most a b h = grind arith

both_true : (a b : Bool) → a ≡ true → b ≡ true → (a && b) ≡ true
both_true a b h k = cc

pub spread_behind : (n m receivers : ℕ) (b : Body) → m ≤ most_nodes → has receivers m ≡ true → IsBehind n m b (sent_to receivers b)
unfolding sent_to
spread_behind n m receivers b low member =
    each_sent n m b (numbers_to receivers most_nodes) (is_among receivers most_nodes m ∙ both_true (nat_le m most_nodes) (has receivers m) (at_most m most_nodes low) member)

-- ---- the other members

has_some : (set m : ℕ) → has set m ≡ true → 1 ≤ m
unfolding has
has_some set m is = low m (and_cases (nat_le 1 m) _ is).0
  where
    low : (k : ℕ) → nat_le 1 k ≡ true → 1 ≤ k
    low k h = grind arith

pub has_other : (set n m : ℕ) → 1 ≤ n → n ≤ 32 → m ≤ most_nodes → m ≢ n → has set m ≡ true → has (set_without set n) m ≡ true
has_other set n m low high few other member = without_other set n m low high (has_some set m member) few other ∙ member

-- ---- the size of a Prepare

same_update : (o : Option Refusal) (u v : Update) → unless_refused o (accepted.Change u) ≡ Ok (accepted.Change v) → u ≡ v
same_update None u v h = cc
same_update (Some r) u v h = cc

words_few : (full digits words report : ℕ) → full + (9 + digits + words) + report ≤ 65536 → words ≤ 65536
words_few full digits words report room = omega (arith, room)

few_short : (size words : ℕ) → size ≡ 2 + (16 + (4 + words)) → words ≤ 65536 → nat_le size 131072 ≡ true
few_short size words is few = at_most size 131072 (omega (arith, is, few))

accepted_room : (s : ConfigState) (v : GroupView) (members held before : ℕ) (r u : Update) → answer_to s v members held before (wish.Change r) ≡ Ok (accepted.Change u) → length_with s before u ≤ most_bytes
accepted_room s v members held before r u h =
    let same : r ≡ u = same_update (refusal_in s v members held before r) r u h in
    (accepting s v members held before u (subst (λ z. answer_to s v members held before (wish.Change z) ≡ Ok (accepted.Change u)) same h)).room

pub prepare_short : (c : Cluster) (x : UpNode) (p : Presidency) (n e v : ℕ) (text : List ℕ) → IsAccepted c x p text → IsShort n (body.Prepare e v text)
prepare_short c x p n e v text h =
    let m : Message = record { sender = n; body = body.Prepare e v text } in
    let s : ConfigState = in_force c x in
    let u : Update = h.update in
    let room : length_with s (length_of c x) u ≤ most_bytes = accepted_room s p.groups.view (record_of x).members p.held (length_of c x) h.request u h.checked_so in
    few_short (length (spelling m)) (length text) (spellings m)
    (subst (λ (z : List ℕ). length z ≤ 65536) (sym h.words)
    (words_few (length_of c x) (length (decimal (updates_in s.generations + 1))) (length (words_of u)) (report_length (changed s u).groups) room))
