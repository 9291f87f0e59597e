-- The lines of what a node gives.
use Rattle.std.specs.Prelude.{ℕ, ◌++◌, ◌≡◌, Bool, true, false, List, [], ◌∷◌, Option, None, Some, if◌then◌else◌}
use Rattle.std.specs.List.{AllByRecursion}
use Rattle.std.proofs.Common.{refl, sym, ap, subst, ◌∙◌}
use Rattle.cl_base.specs.declared.packet.DropCause.{DropCause}
use Rattle.history.specs.Moment.{Moment, Told}
use Rattle.history.specs.Trace.{ended_silent, sent, ticked}
use Rattle.interconnect.specs.Links.{sending}
use Rattle.node_model.specs.declared.output.Output.{Output}
use Rattle.node_model.specs.declared.output.Output.TheVariants.{Sends, Tells}
use Rattle.run_history.proofs.Lists.{both}
use Rattle.run_history.specs.Scenes.{Scene, dropped_so, passing, posting, sent_as}
use Rattle.run_lines.proofs.Adds.{onto}
use Rattle.status_report.specs.declared.attempt_entry.AttemptEntry.TheVariants as attempt
use Rattle.status_report.specs.declared.entry.Entry.{Entry}
use Rattle.status_report.specs.declared.entry.Entry.TheVariants as entry
use Rattle.status_report.specs.declared.packet_entry.PacketEntry.TheVariants as packet
use Rattle.wire.specs.Spelling.{spelling}
use Rattle.wire.specs.declared.message.Body.{Body}
use Rattle.wire.specs.declared.message.Message.{Message}
use Rattle.world_model.specs.Sends.{is_sent, name_of}
use Rattle.run_outcomes.specs.silence.Beats.{AllBehind, EndBehind, IsBeat}
use Rattle.run_outcomes.proofs.silence.Beating.{BeatOut}
use Rattle.run_outcomes.proofs.silence.Mute.{AreMute, NotSilent}

-- ---- lines of which all are so

abbrev pub LineOf : (Moment → Type 0) → Output → Type 0
LineOf Q (Tells e) = Q (Told e)
LineOf Q (Sends to b) = (p a k : ℕ) (bytes : List ℕ) → Q (sent p a k (name_of b) bytes)

pub record Lined (Q : Moment → Type 0) (before after : List Moment) : Type 0 where
  pub xs : List Moment
  pub is : onto xs before ≡ after
  pub are : AllByRecursion Q xs

pub onto_both : (xs ys before : List Moment) → onto (xs ++ ys) before ≡ onto ys (onto xs before)
onto_both [] ys before = refl
onto_both (x ∷ xs) ys before = onto_both xs ys (x ∷ before)

none_lined : (Q : Moment → Type 0) (ms : List Moment) → Lined Q ms ms
none_lined Q ms = record { xs = []; is = refl; are = tt }

then_lined : (Q : Moment → Type 0) (a b d : List Moment) → Lined Q a b → Lined Q b d → Lined Q a d
then_lined Q a b d h k = record { xs = h.xs ++ k.xs; is = onto_both h.xs k.xs a ∙ (ap (onto k.xs) h.is ∙ k.is); are = both Q h.xs k.xs h.are k.are }

abbrev Drops : (Moment → Type 0) → Type 0
Drops Q = (p : ℕ) (cause : DropCause) → Q (Told (entry.Packet (packet.Dropped p cause)))

dropped_lined : (Q : Moment → Type 0) → Drops Q → (o : Option (ℕ × DropCause)) (x : Moment) (s u : Scene) → u.moments ≡ x ∷ s.moments → Q x → Lined Q s.moments (dropped_so o u).moments
dropped_lined Q drops None x s u is q = record { xs = x ∷ []; is = sym is; are = (q, tt) }
dropped_lined Q drops (Some z) x s u is q = record { xs = x ∷ Told (entry.Packet (packet.Dropped z.0 z.1)) ∷ []; is = ap (λ ms. Told (entry.Packet (packet.Dropped z.0 z.1)) ∷ ms) (sym is); are = (q, (drops z.0 z.1, tt)) }

posting_lined : (Q : Moment → Type 0) → Drops Q → (n to : ℕ) (b : Body) (s : Scene) → LineOf Q (Sends to b) → Lined Q s.moments (posting n to (record { sender = n; body = b }) s).moments
posting_lined Q drops n to b s q = by_test (is_sent s.links m)
  where
    m : Message
    m = record { sender = n; body = b }

    by_test : (t : Bool) → Lined Q s.moments (if t then sent_as n to m (sending s.links n to (spelling m)) s else s).moments
    by_test true = dropped_lined Q drops (sending s.links n to (spelling m)).sent.dropped (sent s.links.next n to (name_of b) (spelling m)) s _ refl (q s.links.next n to (spelling m))
    by_test false = none_lined Q s.moments

pub given_lined : (Q : Moment → Type 0) → Drops Q → (n : ℕ) (os : List Output) (s : Scene) → AllByRecursion (LineOf Q) os → Lined Q s.moments (passing n os s).moments
given_lined Q drops n [] s h = none_lined Q s.moments
given_lined Q drops n (Tells e ∷ os) s h =
    let k : Lined Q (Told e ∷ s.moments) (passing n (Tells e ∷ os) s).moments = given_lined Q drops n os (passing n (Tells e ∷ []) s) h.1 in
    record { xs = Told e ∷ k.xs; is = k.is; are = (h.0, k.are) }
given_lined Q drops n (Sends to b ∷ os) s h =
    then_lined Q s.moments (passing n (Sends to b ∷ []) s).moments (passing n (Sends to b ∷ os) s).moments (posting_lined Q drops n to b s h.0)
    (given_lined Q drops n os (passing n (Sends to b ∷ []) s) h.1)

-- ---- lines that tell no such end

abbrev pub NoEnd : Moment → Type 0
NoEnd (ended_silent e m) = ⊥
NoEnd _ = Unit {0}

told_none : (e : Entry) → NotSilent e → NoEnd (Told e)
told_none (entry.Attempt (attempt.Silent e m)) h = absurd h
told_none _ h = tt

mute_lines : (os : List Output) → AreMute os → AllByRecursion (LineOf (λ x. NoEnd x)) os
mute_lines [] h = tt
mute_lines (Tells e ∷ os) h = (told_none e h.0, mute_lines os h.1)
mute_lines (Sends to b ∷ os) h = ((λ p a k bytes. tt), mute_lines os h.1)

pub mute_lined : (n : ℕ) (os : List Output) (s : Scene) → AreMute os → Lined (λ x. NoEnd x) s.moments (passing n os s).moments
mute_lined n os s h = given_lined (λ x. NoEnd x) (λ p cause. tt) n os s (mute_lines os h)

beat_lines : (os : List Output) → AllByRecursion BeatOut os → AllByRecursion (LineOf (λ x. IsBeat x)) os
beat_lines [] h = tt
beat_lines (Tells e ∷ os) h = absurd h.0
beat_lines (Sends to b ∷ os) h = ((λ p a k bytes. h.0), beat_lines os h.1)

pub beats_lined : (n : ℕ) (os : List Output) (s : Scene) → AllByRecursion BeatOut os → Lined (λ x. IsBeat x) s.moments (passing n os s).moments
beats_lined n os s h = given_lined (λ x. IsBeat x) (λ p cause. tt) n os s (beat_lines os h)

-- ---- so each line is behind what it has to be

end_none : (s : Scene) (older : List Moment) (x : Moment) → NoEnd x → EndBehind s older x
end_none s older (ended_silent e m) h = absurd h
end_none s older _ h = tt

pub none_behind : (s : Scene) (older xs : List Moment) → AllByRecursion (λ x. NoEnd x) xs → AllBehind s older xs
none_behind s older [] h = tt
none_behind s older (x ∷ xs) h = (end_none s older x h.0, none_behind s (older ++ x ∷ []) xs h.1)

beat_none : (x : Moment) → IsBeat x → NoEnd x
beat_none (ended_silent e m) h = absurd h
beat_none _ h = tt

beats_none : (xs : List Moment) → AllByRecursion (λ x. IsBeat x) xs → AllByRecursion (λ x. NoEnd x) xs
beats_none [] h = tt
beats_none (x ∷ xs) h = (beat_none x h.0, beats_none xs h.1)

pub append_behind : (s : Scene) (older xs ys : List Moment) → AllBehind s older xs → AllBehind s (older ++ xs) ys → AllBehind s older (xs ++ ys)
append_behind s older [] ys h k = subst (λ o. AllBehind s o ys) (append_none older) k
  where
    append_none : (xs : List Moment) → xs ++ [] ≡ xs
    append_none [] = refl
    append_none (x ∷ xs) = ap (λ z. x ∷ z) (append_none xs)
append_behind s older (x ∷ xs) ys h k = (h.0, append_behind s (older ++ x ∷ []) xs ys h.1 (subst (λ o. AllBehind s o ys) (sym (append_three older xs)) k))
  where
    append_three : (zs ws : List Moment) → (zs ++ x ∷ []) ++ ws ≡ zs ++ (x ∷ ws)
    append_three [] ws = refl
    append_three (z ∷ zs) ws = ap (λ w. z ∷ w) (append_three zs ws)

-- a tick, beats, and then such an end
pub last_behind : (s : Scene) (n : ℕ) (beats : List Moment) (x : Moment) → AllByRecursion (λ z. IsBeat z) beats → EndBehind s (ticked n ∷ beats) x → AllBehind s [] (ticked n ∷ (beats ++ x ∷ []))
last_behind s n beats x are h = (tt, append_behind s (ticked n ∷ []) beats (x ∷ []) (none_behind s (ticked n ∷ []) beats (beats_none beats are)) (h, tt))
