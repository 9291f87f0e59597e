-- Outputs leave their entries.
use Rattle.std.specs.Prelude.{ℕ, ◌≡◌, ◌++◌, ◌||◌, Bool, true, false, List, [], ◌∷◌, Option, None, Some}
use Rattle.std.specs.List.{AllByRecursion, list_any}
use Rattle.std.proofs.Common.{refl, ap, ◌∙◌}
use Rattle.cl_base.specs.declared.method.Outcome as method
use Rattle.cl_base.specs.declared.packet.DropCause.{DropCause}
use Rattle.cmm_attempt.proofs.Basics.{if_either}
use Rattle.interconnect.specs.Links as links
use Rattle.interconnect.specs.Links.{sending}
use Rattle.status_report.specs.declared.entry.Entry.TheVariants as entry
use Rattle.status_report.specs.declared.packet_entry.PacketEntry.{PacketEntry}
use Rattle.status_report.specs.declared.packet_entry.PacketEntry.TheVariants as packet
use Rattle.wire.specs.Spelling.{spelling}
use Rattle.wire.specs.declared.message.Message.{Message}
use Rattle.history.specs.Moment.{Moment, Told}
use Rattle.node_model.specs.declared.cluster.Cluster.{Cluster}
use Rattle.node_model.specs.declared.input.Input.{Input}
use Rattle.node_model.specs.declared.output.Output.{Output}
use Rattle.node_model.specs.declared.output.Output.TheVariants.{Tells, Sends}
use Rattle.refinement.specs.Runs.{moved}
use Rattle.refinement.specs.Runs.Move.{Takes as Takes_in}
use Rattle.world_model.specs.Sends.{is_sent, name_of}
use Rattle.run_history.proofs.Lists.{both}
use Rattle.run_history.specs.Happenings.{given_by, taking}
use Rattle.run_history.specs.Scenes.{Scene, dropped_so, passing, posting, sent_as, telling, with_links}
use Rattle.run_lines.specs.Entries.{GivesEntry, IsEntry}
use Rattle.run_lines.proofs.Adds.{Adds, onto}
use Rattle.run_lines.proofs.Outputs.{gives_entries}
use Rattle.run_commands.specs.taken.Entries.{Leave}

-- a test that no line of a packet passes
abbrev pub NoPackets : (Moment → Bool) → Type 0
NoPackets test = (e : PacketEntry) → test (Told (entry.Packet e)) ≡ false

neither : (a b : Bool) → a ≡ false → b ≡ false → (a || b) ≡ false
neither true b g h = cc
neither false b g h = h

-- a message leaves lines of packets alone
record Posts (before after : List Moment) : Type 0 where
  adds : Adds before after
  none : (test : Moment → Bool) → NoPackets test → list_any test adds.entries ≡ false

dropped_posts : (o : Option (ℕ × DropCause)) (s : Scene) → Posts s.moments (dropped_so o s).moments
dropped_posts None s = record { adds = record { entries = []; are = tt; is = refl }; none = λ test no. refl }
dropped_posts (Some x) s =
    let e : PacketEntry = packet.Dropped x.0 x.1 in
    record { adds = record { entries = Told (entry.Packet e) ∷ []; are = (tt, tt); is = refl }; none = λ test no. neither (test (Told (entry.Packet e))) false (no e) refl }

posting_posts : (from to : ℕ) (m : Message) (s : Scene) → Posts s.moments (posting from to m s).moments
posting_posts from to m s =
    let o : links.Outcome = sending s.links from to (spelling m) in
    let e : PacketEntry = packet.Sent s.links.next from to (name_of m.body) (spelling m) in
    let t : Scene = telling (entry.Packet e) (with_links s o.after) in
    let d : Posts t.moments (dropped_so o.sent.dropped t).moments = dropped_posts o.sent.dropped t in
    if_either (λ (z : Scene). Posts s.moments z.moments) (is_sent s.links m) (sent_as from to m o s) s
    (record {
      adds = record { entries = Told (entry.Packet e) ∷ d.adds.entries; are = (tt, d.adds.are); is = d.adds.is };
      none = λ test no. neither (test (Told (entry.Packet e))) (list_any test d.adds.entries) (no e) (d.none test no);
    })
    (record { adds = record { entries = []; are = tt; is = refl }; none = λ test no. refl })

-- behind entries none of which passes
any_after : (test : Moment → Bool) (xs ys : List Moment) → list_any test xs ≡ false → list_any test (xs ++ ys) ≡ list_any test ys
any_after test [] ys h = refl
any_after test (x ∷ xs) ys h = by_test (test x) h (any_after test xs ys)
  where
    by_test : (b : Bool) → (b || list_any test xs) ≡ false → (list_any test xs ≡ false → list_any test (xs ++ ys) ≡ list_any test ys) → (b || list_any test (xs ++ ys)) ≡ list_any test ys
    by_test true e k = cc
    by_test false e k = k e

onto_both : (xs ys before : List Moment) → onto (xs ++ ys) before ≡ onto ys (onto xs before)
onto_both [] ys before = refl
onto_both (x ∷ xs) ys before = onto_both xs ys (x ∷ before)

pub record Left (os : List Output) (before after : List Moment) : Type 0 where
  pub adds : Adds before after
  pub leave : Leave os adds.entries

left_passing : (n : ℕ) (os : List Output) (s : Scene) → AllByRecursion GivesEntry os → Left os s.moments (passing n os s).moments
left_passing n [] s are = record { adds = record { entries = []; are = tt; is = refl }; leave = record { first = tt; all = λ t. refl; any = λ test no. refl } }
left_passing n (Tells e ∷ os) s are =
    let r : Left os (telling e s).moments (passing n os (telling e s)).moments = left_passing n os (telling e s) are.1 in
    record {
      adds = record { entries = Told e ∷ r.adds.entries; are = (are.0, r.adds.are); is = r.adds.is };
      leave = record { first = refl; all = λ t. ap (λ (xs : List Moment). Told e ∷ xs) (r.leave.all t); any = λ test no. ap (λ b. test (Told e) || b) (r.leave.any test no) };
    }
left_passing n (Sends to b ∷ os) s are =
    let m : Message = record { sender = n; body = b } in
    let p : Posts s.moments (posting n to m s).moments = posting_posts n to m s in
    let r : Left os (posting n to m s).moments (passing n os (posting n to m s)).moments = left_passing n os (posting n to m s) are.1 in
    record {
      adds = record {
        entries = p.adds.entries ++ r.adds.entries;
        are = both IsEntry p.adds.entries r.adds.entries p.adds.are r.adds.are;
        is = onto_both p.adds.entries r.adds.entries s.moments ∙ (ap (λ ms. onto r.adds.entries ms) p.adds.is ∙ r.adds.is);
      };
      leave = record {
        first = tt;
        all = λ t. absurd t;
        any = λ test no. any_after test p.adds.entries r.adds.entries (p.none test no) ∙ r.leave.any test no;
      };
    }

-- what comes to a node
pub left_taking : (c : Cluster) (n now : ℕ) (ends : method.Outcome) (i : Input) (s : Scene) → Left (given_by c n now ends i s.nodes) s.moments (taking c n now ends i s).moments
left_taking c n now ends i s =
    left_passing n (given_by c n now ends i s.nodes) (record s { nodes = moved c s.nodes (Takes_in n now ends i) }) (gives_entries c n now ends (s.nodes.node n) (s.nodes.disk n) i)
