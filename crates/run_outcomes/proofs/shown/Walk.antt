-- Through the small steps of a node, one after another.
use Rattle.std.specs.Prelude.{All, ℕ, ◌++◌, ◌≡◌, ◌≤◌, ◌⊎◌, List, [], ◌∷◌, None, Some}
use Rattle.std.proofs.Common.{refl, sym, ap, subst, inl, inr}
use Rattle.cl_base.specs.declared.header.Header.{Header}
use Rattle.cmm_attempt.specs.Calls.{IsDevice}
use Rattle.cmm_member.specs.Records.{NodeRecord}
use Rattle.node_model.specs.Clusters.{first_valid_of}
use Rattle.node_model.specs.Seats.{record_of, up_with}
use Rattle.node_model.specs.declared.cluster.Cluster.{Cluster}
use Rattle.node_model.specs.declared.node.Node.{Node}
use Rattle.node_model.specs.declared.node.Node.TheVariants.{Down, Up}
use Rattle.node_model.specs.declared.node.UpNode.{UpNode}
use Rattle.node_model.specs.declared.output.Output.{Output}
use Rattle.node_model.specs.declared.output.Output.TheVariants.{Sends, Tells}
use Rattle.refinement.specs.Doings.{Doing, Site, after_all, changed, effect, first_lines, given_all, gives, gone_line, site}
use Rattle.refinement.specs.Doings.Doing.{Comes_up, Does, Forgets, Goes_down, Loses, Saves}
use Rattle.refinement.specs.Guards.{May, MayAll}
use Rattle.refinement.specs.Runs.{IsAmong, Letter, letters_of}
use Rattle.refinement.specs.Ties.{Delivered}
use Rattle.run_history.proofs.Lists.{both}
use Rattle.run_history.specs.Guards.{Hand, hand_after}
use Rattle.run_seizings.proofs.Asked.{AllMay, DoingMay}
use Rattle.wire.specs.declared.message.Body.{Body}
use Rattle.run_outcomes.specs.tasks.Shown.{HandSent}
use Rattle.run_outcomes.proofs.shown.Acts.{hand_changed}
use Rattle.run_outcomes.proofs.shown.Aside.{lost_aside, saved_aside}
use Rattle.run_outcomes.proofs.shown.Changes.{Goes, change_goes}
use Rattle.run_outcomes.proofs.shown.Keeps.{hand_keeps, keeps_aside, keeps_self, keeps_then, site_keeps}
use Rattle.run_outcomes.proofs.shown.Letters.{IsLess, IsMore, ask_more, older}
use Rattle.run_outcomes.proofs.shown.Now.{After, Now, OutSo, OutsSo, after_aside, less_agree, less_apart}
use Rattle.run_outcomes.proofs.shown.Deeds.{AdmitSo, AllAdmit, change_device, act_after, rises_site, Lows, change_lows, down_hand, down_now, up_now}

-- ---- each small step

abbrev pub Done : List Letter → Cluster → ℕ → Site → Hand → Doing → Type 0
Done L c n x g d = After L (letters_of n (gives c n x d) ++ L) n (effect c n x d) (hand_after g d) (gives c n x d)

pub doing_done : (h : Header) (L : List Letter) (c : Cluster) (n : ℕ) (told : Delivered) (g : Hand) (node : Node) (disk : NodeRecord) (d : Doing) → All IsDevice c.attached → HandSent L told
    → May c n told (site node disk) d → DoingMay h n told g (site node disk) d → AdmitSo (site node disk) d → Now L n (site node disk) g → Done L c n (site node disk) g d
doing_done h L c n told g (Up x) disk (Does a) fits sent may at admit now = act_after h L c n told g x disk a fits sent may at now
doing_done h L c n told g (Up x) disk (Saves ch) fits sent may at admit now =
    let k : Goes L n x (changed c n x ch) = change_goes L c n told x disk ch fits now.agree sent may (change_device h x ch at.0 admit) now.here in
    let y : UpNode = changed c n x ch in
    after_aside L n (site (Up y) (record_of y)) g (gives c n (site (Up x) disk) (Saves ch)) (saved_aside c n x ch) (record {
      apart = now.apart;
      agree = now.agree;
      here = rises_site L n x disk (record_of y) (Up y) k.order k.rises (refl, k.up) now.here;
      hand = hand_changed L c n told x ch g may k.rises now.hand;
    })
doing_done h L c n told g (Up x) disk (Loses ch why) fits sent may at admit now =
    let k : Lows x (changed c n x ch) = change_lows L c n told g x disk ch fits sent may now in
    let new : NodeRecord = record_of (changed c n x ch) in
    after_aside L n (site Down new) g (first_lines n ch ++ gone_line n why) (lost_aside n ch why) (record {
      apart = now.apart;
      agree = now.agree;
      here = rises_site L n x disk new Down k.order k.rises tt now.here;
      hand = down_hand L n disk new (Up x) g now.here.up (subst (λ (r : NodeRecord). r.promised ≤ new.promised) now.here.up.0 k.rises) now.hand;
    })
doing_done h L c n told g node disk (Forgets ch why) fits sent may at admit now =
    after_aside L n (site Down disk) g (first_lines n ch ++ gone_line n why) (lost_aside n ch why) (down_now L n (site node disk) g now)
doing_done h L c n told g node disk (Goes_down why) fits sent may at admit now = after_aside L n (site Down disk) g (gone_line n why) (tt, tt) (down_now L n (site node disk) g now)
doing_done h L c n told g Down disk Comes_up fits sent may at admit now =
    after_aside L n (site (Up (up_with n (first_valid_of c n) disk)) disk) g (gives c n (site Down disk) Comes_up) (tt, tt) (up_now L n (first_valid_of c n) disk g now)
doing_done h L c n told g (Up x) disk Comes_up fits sent may at admit now = absurd may
doing_done h L c n told g Down disk (Does a) fits sent may at admit now = absurd may
doing_done h L c n told g Down disk (Saves ch) fits sent may at admit now = absurd may
doing_done h L c n told g Down disk (Loses ch why) fits sent may at admit now = absurd may

-- ---- one after another

outs_more : (L M : List Letter) (os : List Output) → IsMore L M → OutsSo L os → OutsSo M os
outs_more L M [] f k = tt
outs_more L M (Tells e ∷ os) f k = (tt, outs_more L M os f k.1)
outs_more L M (Sends to b ∷ os) f k = (ask_more L M to b f k.0, outs_more L M os f k.1)

pub sent_more : (L M : List Letter) (told : Delivered) → IsMore L M → HandSent L told → HandSent M told
sent_more L M None f h = tt
sent_more L M (Some d) f h = f d.0 d.1.body h

-- with the letters that they bring
abbrev pub on_all : ℕ → Cluster → Site → List Doing → List Letter → List Letter
on_all n c x [] L = L
on_all n c x (d ∷ ds) L = on_all n c (effect c n x d) ds (letters_of n (gives c n x d) ++ L)

on_more : (n : ℕ) (c : Cluster) (x : Site) (ds : List Doing) (L : List Letter) → IsMore L (on_all n c x ds L)
on_more n c x [] L from b h = h
on_more n c x (d ∷ ds) L from b h = on_more n c (effect c n x d) ds (letters_of n (gives c n x d) ++ L) from b (older n (gives c n x d) L from b h)

pub record Walked (L : List Letter) (c : Cluster) (n : ℕ) (x : Site) (ds : List Doing) : Type 0 where
  pub hand : Hand
  pub after : After L (on_all n c x ds L) n (after_all c n x ds) hand (given_all c n x ds)

pub all_done : (h : Header) (L : List Letter) (c : Cluster) (n : ℕ) (told : Delivered) (g : Hand) (x : Site) (ds : List Doing) → All IsDevice c.attached → HandSent L told → MayAll c n told x ds → AllMay h c n told g x ds
    → AllAdmit c n x ds → Now L n x g → Walked L c n x ds
all_done h L c n told g x [] fits sent may at admit now = record { hand = g; after = record { now = now; others = λ k ne. keeps_self k L; given = tt } }
all_done h L c n told g x (d ∷ ds) fits sent may at admit now =
    let os : List Output = gives c n x d in
    let y : Site = effect c n x d in
    let M : List Letter = letters_of n os ++ L in
    let one : Done L c n x g d = doing_done h L c n told g x.node x.disk d fits sent may.0 at.0 admit.0 now in
    let rest : Walked M c n y ds = all_done h M c n told (hand_after g d) y ds fits (sent_more L M told (older n os L) sent) may.1 at.1 admit.1 one.now in
    record {
      hand = rest.hand;
      after = record {
        now = rest.after.now;
        others = λ k ne. keeps_then k L M (on_all n c y ds M) (one.others k ne) (rest.after.others k ne);
        given = both (OutSo (on_all n c y ds M)) os (given_all c n y ds) (outs_more M (on_all n c y ds M) os (on_more n c y ds M) one.given) rest.after.given;
      };
    }

-- ---- in whatever order

append_letters : (n : ℕ) (os ps : List Output) → letters_of n (os ++ ps) ≡ letters_of n os ++ letters_of n ps
append_letters n [] ps = refl
append_letters n (Tells e ∷ os) ps = append_letters n os ps
append_letters n (Sends to b ∷ os) ps = ap (λ ls. record { from = n; body = b } ∷ ls) (append_letters n os ps)

among_left : (from : ℕ) (b : Body) (K L : List Letter) → IsAmong from b K → IsAmong from b (K ++ L)
among_left from b [] L h = absurd h
among_left from b (l ∷ K) L (inl h) = inl h
among_left from b (l ∷ K) L (inr h) = inr (among_left from b K L h)

among_right : (from : ℕ) (b : Body) (K L : List Letter) → IsAmong from b L → IsAmong from b (K ++ L)
among_right from b [] L h = h
among_right from b (l ∷ K) L h = inr (among_right from b K L h)

pub among_split : (from : ℕ) (b : Body) (K L : List Letter) → IsAmong from b (K ++ L) → IsAmong from b K ⊎ IsAmong from b L
among_split from b [] L h = inr h
among_split from b (l ∷ K) L (inl h) = inl (inl h)
among_split from b (l ∷ K) L (inr h) = by_side (among_split from b K L h)
  where
    by_side : IsAmong from b K ⊎ IsAmong from b L → IsAmong from b (l ∷ K) ⊎ IsAmong from b L
    by_side (inl z) = inl (inr z)
    by_side (inr z) = inr z

pub given_more : (n : ℕ) (c : Cluster) (x : Site) (ds : List Doing) (L : List Letter) → IsMore (on_all n c x ds L) (letters_of n (given_all c n x ds) ++ L)
given_more n c x [] L from b h = h
given_more n c x (d ∷ ds) L from b h =
    let A : List Letter = letters_of n (gives c n x d) in
    let B : List Letter = letters_of n (given_all c n (effect c n x d) ds) in
    subst (λ ls. IsAmong from b (ls ++ L)) (sym (append_letters n (gives c n x d) (given_all c n (effect c n x d) ds)))
    (by_side A B (among_split from b B (A ++ L) (given_more n c (effect c n x d) ds (A ++ L) from b h)))
  where
    by_last : (A B : List Letter) → IsAmong from b A ⊎ IsAmong from b L → IsAmong from b ((A ++ B) ++ L)
    by_last A B (inl z) = among_left from b (A ++ B) L (among_left from b A B z)
    by_last A B (inr z) = among_right from b (A ++ B) L z

    by_side : (A B : List Letter) → IsAmong from b B ⊎ IsAmong from b (A ++ L) → IsAmong from b ((A ++ B) ++ L)
    by_side A B (inl z) = among_left from b (A ++ B) L (among_right from b A B z)
    by_side A B (inr z) = by_last A B (among_split from b A L z)

pub given_less : (n : ℕ) (c : Cluster) (x : Site) (ds : List Doing) (L : List Letter) → IsMore (letters_of n (given_all c n x ds) ++ L) (on_all n c x ds L)
given_less n c x [] L from b h = h
given_less n c x (d ∷ ds) L from b h =
    let A : List Letter = letters_of n (gives c n x d) in
    let B : List Letter = letters_of n (given_all c n (effect c n x d) ds) in
    given_less n c (effect c n x d) ds (A ++ L) from b
    (by_side A B (among_split from b (A ++ B) L (subst (λ ls. IsAmong from b (ls ++ L)) (append_letters n (gives c n x d) (given_all c n (effect c n x d) ds)) h)))
  where
    by_first : (A B : List Letter) → IsAmong from b A ⊎ IsAmong from b B → IsAmong from b (B ++ (A ++ L))
    by_first A B (inl z) = among_right from b B (A ++ L) (among_left from b A L z)
    by_first A B (inr z) = among_left from b B (A ++ L) z

    by_side : (A B : List Letter) → IsAmong from b (A ++ B) ⊎ IsAmong from b L → IsAmong from b (B ++ (A ++ L))
    by_side A B (inl z) = by_first A B (among_split from b A B z)
    by_side A B (inr z) = among_right from b B (A ++ L) (among_right from b A L z)

-- the same letters, otherwise ordered
pub same_letters : (L M N : List Letter) (n : ℕ) (x : Site) (g : Hand) (os : List Output) → IsMore M N → IsMore N M → After L M n x g os → After L N n x g os
same_letters L M N n x g os f back h =
    let less : IsLess N M = λ from b special z. back from b z in
    record {
      now = record {
        apart = less_apart M N less h.now.apart;
        agree = less_agree M N f less h.now.agree;
        here = site_keeps n M N x (keeps_aside n M N f less) h.now.here;
        hand = hand_keeps n M N x.disk x.node g (keeps_aside n M N f less) h.now.hand;
      };
      others = λ k ne. keeps_then k L M N (h.others k ne) (keeps_aside k M N f less);
      given = outs_more M N os f h.given;
    }
