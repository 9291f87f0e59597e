-- What is told of disks, moment by moment.
use Rattle.std.specs.Prelude.{ℕ, suc, ◌+◌, ◌≡◌, ◌≢◌, ◌<◌, ◌≤◌, ◌^◌, ◌⊎◌, true, List, [], ◌∷◌, length, Option, None, Some}
use Rattle.std.proofs.Common.{sym, subst, inl, inr, arith}
use Rattle.cl_base.specs.declared.packet.DropCause.{DropCause}
use Rattle.cl_base.specs.declared.panic.Panic.TheVariants as panic
use Rattle.cmm_attempt.proofs.Basics.{if_either}
use Rattle.history.specs.Moment.{Moment, Told}
use Rattle.history.specs.Order.{Always}
use Rattle.interconnect.specs.Links as links
use Rattle.interconnect.specs.Links.{sending}
use Rattle.machine_base.proofs.Puts.{put_here, put_there, same_or_not}
use Rattle.machine_base.specs.Put.{put}
use Rattle.node_model.specs.Steps.{Outcome, stepped}
use Rattle.cl_base.specs.declared.method.Outcome as method
use Rattle.node_model.specs.declared.cluster.Cluster.{Cluster}
use Rattle.node_model.specs.declared.input.Input.{Input}
use Rattle.node_model.specs.declared.node.Node.{Node}
use Rattle.node_model.specs.declared.output.Output.{Output}
use Rattle.node_model.specs.declared.output.Output.TheVariants.{Sends, Tells}
use Rattle.record_disk.specs.Disks.{DiskState}
use Rattle.refinement.specs.Runs.{Nodes, moved}
use Rattle.refinement.specs.Runs.Move.{Takes as Takes_in}
use Rattle.refinement.specs.Steps.{disk_rules}
use Rattle.run_history.proofs.Idle.{passing_nodes}
use Rattle.run_history.specs.Happenings.{taking}
use Rattle.run_history.specs.Scenes.{Scene, dropped_so, passing, posting, sent_as, telling}
use Rattle.status_report.specs.declared.entry.Entry.{Entry}
use Rattle.status_report.specs.declared.entry.Entry.TheVariants as entry
use Rattle.status_report.specs.declared.node_entry.DownCause.TheVariants as cause
use Rattle.status_report.specs.declared.node_entry.NodeEntry.TheVariants as note
use Rattle.status_report.specs.declared.packet_entry.PacketEntry.TheVariants as packet
use Rattle.wire.specs.Spelling.{spelling}
use Rattle.wire.specs.declared.message.Message.{Message}
use Rattle.world_model.specs.Sends.{is_sent}
use Rattle.run_packets.proofs.fits.Disks.{AllTellSo, Fine, TellsSo, lines_in}
use Rattle.run_packets.proofs.fits.Steps.{Fits, step_fine}
use Rattle.run_packets.specs.fits.Known.{IfUp}
use Rattle.run_packets.specs.fits.Laws.{NoDiskFails}

-- no disk has failed so far; none has made more saves than moments were told, and that of a node that is up is mounted
pub record Disks (v : Nodes) (ms : List Moment) : Type 0 where
  pub saves : (n : ℕ) → (v.disk n).saves ≤ length ms
  pub mounted : (n : ℕ) → IfUp (λ x. (v.disk n).mounted ≡ true) (v.node n)
  pub none : Always NoDiskFails ms

-- .. while there are fewer than 2^63
abbrev pub DisksWhile : Nodes → List Moment → Type 0
DisksWhile v ms = length ms < 2 ^ 63 → Disks v ms

one_more : (a b : ℕ) → a ≤ b → a ≤ suc b
one_more a b h = omega (arith, h)

one_less : (a : ℕ) → suc a < 2 ^ 63 → a < 2 ^ 63
one_less a h = omega (arith, h)

pub line_disks : (v : Nodes) (ms : List Moment) (x : Moment) → NoDiskFails ms x → DisksWhile v ms → DisksWhile v (x ∷ ms)
line_disks v ms x so h few =
    let k : Disks v ms = h (one_less (length ms) few) in
    record { saves = λ n. one_more (v.disk n).saves (length ms) (k.saves n); mounted = k.mounted; none = (so, k.none) }

-- ---- what a node gives

told_one : (e : Entry) (ms : List Moment) → TellsSo (Tells e) → NoDiskFails ms (Told e)
told_one (entry.Node m (note.Down (cause.Panic panic.Disk))) ms h = absurd h
told_one _ ms h = tt

-- the moments have gone on, by so many lines at least
record Went (k : ℕ) (before after : List Moment) : Type 0 where
  more : length before + k ≤ length after
  none : Always NoDiskFails before → Always NoDiskFails after

went_none : (ms : List Moment) → Went 0 ms ms
went_none ms = record { more = omega arith; none = λ h. h }

went_line : (k : ℕ) (ms : List Moment) (x : Moment) → k ≤ 1 → NoDiskFails ms x → Went k ms (x ∷ ms)
went_line k ms x low so = record { more = omega (arith, low); none = λ h. (so, h) }

went_then : (j k : ℕ) (first second third : List Moment) → Went j first second → Went k second third → Went (j + k) first third
went_then j k first second third h i = record { more = omega (arith, h.more, i.more); none = λ z. i.none (h.none z) }

dropped_went : (s : Scene) (o : Option (ℕ × DropCause)) → Went 0 s.moments (dropped_so o s).moments
dropped_went s None = went_none s.moments
dropped_went s (Some drop) = went_line 0 s.moments (Told (entry.Packet (packet.Dropped drop.0 drop.1))) (omega arith) tt

posting_went : (from to : ℕ) (m : Message) (s : Scene) → Went 0 s.moments (posting from to m s).moments
posting_went from to m s =
    let o : links.Outcome = sending s.links from to (spelling m) in
    if_either (λ (t : Scene). Went 0 s.moments t.moments) (is_sent s.links m) (sent_as from to m o s) s (sent_went o) (went_none s.moments)
  where
    sent_went : (o : links.Outcome) → Went 0 s.moments (sent_as from to m o s).moments
    sent_went o = went_then 0 0 s.moments _ _ (went_line 0 s.moments _ (omega arith) tt) (dropped_went _ o.sent.dropped)

passing_went : (n : ℕ) (os : List Output) (s : Scene) → AllTellSo os → Went (lines_in os) s.moments (passing n os s).moments
passing_went n [] s h = went_none s.moments
passing_went n (Tells e ∷ os) s h =
    one (lines_in os) (went_then 1 (lines_in os) s.moments (telling e s).moments (passing n os (telling e s)).moments (went_line 1 s.moments (Told e) (omega arith) (told_one e s.moments h.0)) (passing_went n os (telling e s) h.1))
  where
    one : (k : ℕ) → Went (1 + k) s.moments (passing n os (telling e s)).moments → Went (suc k) s.moments (passing n os (telling e s)).moments
    one k w = record { more = omega (arith, w.more); none = w.none }
passing_went n (Sends to b ∷ os) s h =
    let t : Scene = posting n to (record { sender = n; body = b }) s in
    none_first (lines_in os) (went_then 0 (lines_in os) s.moments t.moments (passing n os t).moments (posting_went n to (record { sender = n; body = b }) s) (passing_went n os t h.1))
  where
    none_first : (k : ℕ) → Went (0 + k) s.moments (passing n os (posting n to (record { sender = n; body = b }) s)).moments → Went k s.moments (passing n os (posting n to (record { sender = n; body = b }) s)).moments
    none_first k w = record { more = omega (arith, w.more); none = w.none }

-- how many lines a node gives does not hang on what they are
long_none : (from to : ℕ) (m : Message) (s : Scene) → length s.moments ≤ length (posting from to m s).moments
long_none from to m s = omega (arith, (posting_went from to m s).more)

passing_long : (n : ℕ) (os : List Output) (s : Scene) → length s.moments + lines_in os ≤ length (passing n os s).moments
passing_long n [] s = omega arith
passing_long n (Tells e ∷ os) s = omega (arith, passing_long n os (telling e s))
passing_long n (Sends to b ∷ os) s = omega (arith, long_none n to (record { sender = n; body = b }) s, passing_long n os (posting n to (record { sender = n; body = b }) s))

-- ---- a step

put_both : (P : ℕ → Node → DiskState → Type 0) (v : Nodes) (n : ℕ) (node : Node) (disk : DiskState) → P n node disk → ((k : ℕ) → k ≢ n → P k (v.node k) (v.disk k)) → (k : ℕ) → P k (put v.node n node k) (put v.disk n disk k)
put_both P v n node disk here there k = go (same_or_not k n)
  where
    go : (k ≡ n) ⊎ (k ≢ n) → P k (put v.node n node k) (put v.disk n disk k)
    go (inl e) =
        subst (λ j. P j (put v.node n node j) (put v.disk n disk j)) (sym e)
        (subst (λ x. P n x (put v.disk n disk n)) (sym (put_here v.node n node)) (subst (λ d. P n node d) (sym (put_here v.disk n disk)) here))
    go (inr ne) =
        subst (λ x. P k x (put v.disk n disk k)) (sym (put_there v.node n node k ne)) (subst (λ d. P k (v.node k) d) (sym (put_there v.disk n disk k ne)) (there k ne))

below : (a b c : ℕ) → a + b ≤ c → c < 2 ^ 63 → a + b < 2 ^ 63
below a b c h l = omega (arith, h, l)

at_first : (a b : ℕ) → a + b < 2 ^ 63 → a < 2 ^ 63
at_first a b h = omega (arith, h)

over : (a b c : ℕ) → a ≤ b → b ≤ c → a ≤ c
over a b c h k = omega (arith, h, k)

first_part : (a b c : ℕ) → a + b ≤ c → a ≤ c
first_part a b c h = omega (arith, h)

pub taking_disks : (c : Cluster) (n now : ℕ) (ends : method.Outcome) (i : Input) (s : Scene) → IfUp (Fits c n now ends i) (s.nodes.node n) → DisksWhile s.nodes s.moments
    → DisksWhile (taking c n now ends i s).nodes (taking c n now ends i s).moments
taking_disks c n now ends i s f h few =
    let v : Nodes = s.nodes in
    let o : Outcome DiskState = stepped disk_rules c n now ends (v.node n) (v.disk n) i in
    let t : Scene = record s { nodes = moved c v (Takes_in n now ends i) } in
    let all : length s.moments + lines_in o.given ≤ length (passing n o.given t).moments = passing_long n o.given t in
    let small : length s.moments + lines_in o.given < 2 ^ 63 = below (length s.moments) (lines_in o.given) (length (passing n o.given t).moments) all few in
    let k : Disks v s.moments = h (at_first (length s.moments) (lines_in o.given) small) in
    let z : Fine (length s.moments) [] o = step_fine (length s.moments) c n now ends i (v.node n) (v.disk n) f (k.mounted n) (k.saves n) small in
    subst (λ w. Disks w (passing n o.given t).moments) (sym (passing_nodes n o.given t)) (record {
      saves = put_both (λ j node disk. disk.saves ≤ length (passing n o.given t).moments) v n o.after o.disk (over o.disk.saves (length s.moments + lines_in o.given) (length (passing n o.given t).moments) z.saves all)
          (λ j ne. over (v.disk j).saves (length s.moments) (length (passing n o.given t).moments) (k.saves j) (first_part (length s.moments) (lines_in o.given) (length (passing n o.given t).moments) all));
      mounted = put_both (λ j node disk. IfUp (λ x. disk.mounted ≡ true) node) v n o.after o.disk z.mounted (λ j ne. k.mounted j);
      none = (passing_went n o.given t (subst AllTellSo z.given_so z.tells)).none k.none;
    })
