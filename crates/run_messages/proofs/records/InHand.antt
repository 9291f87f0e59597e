-- The records that a coordinator has in hand: each is a member's, and the newest of the attempt is among them.
use Rattle.std.specs.Prelude.{ℕ, ◌+◌, ◌≡◌, ◌<◌, ◌==◌, ◌&&◌, ◌||◌, ◌⊎◌, ◌++◌, nat_lt, Bool, true, false, List, [], ◌∷◌, Option, None, Some, IfSome, is_some, option_map, find, length}
use Rattle.std.specs.List.{AllByRecursion, list_any}
use Rattle.std.specs.Option.{option_to_list}
use Rattle.std.proofs.Common.{refl, sym, ap, subst, ◌∙◌, arith, inl, inr}
use Rattle.std.proofs.lemmas.List.{append-nil, length-append}
use Rattle.ccr_commit.specs.Entries.{listed}
use Rattle.history.specs.Contents.{HasNewestPending, HasNewestTexts}
use Rattle.history.specs.Moment.{Moment}
use Rattle.history.specs.Records.{NodeRecord as Shown, as_installed, installed_from, is_newer, is_newest, promises, records_told}
use Rattle.membership_machine.specs.Growth.{Grows}
use Rattle.membership_machine.specs.Invariant.{Holds}
use Rattle.membership_machine.specs.State.{Memberships}
use Rattle.membership_machine.specs.Votes.{Setting}
use Rattle.wire.specs.declared.message.Install.{Install}
use Rattle.run_messages.specs.records.Kept.{HeardFrom, brought_by}
use Rattle.run_messages.specs.records.Shown.{IsOf, ShownBy, flag}
use Rattle.run_messages.specs.records.Sound.{AllSound, ShowsSo}
use Rattle.run_messages.proofs.records.Letters.{HasShown, Shows, has_from, promises_had, told_records}
use Rattle.run_messages.proofs.records.Newest.{HasBest, IsFound, best_settled, found_newest, have_newest_pending, have_newest_texts}

true_false : true ≡ false → ⊥
true_false h = cc

-- ---- before the count

shown_by : (M N : Memberships) (e : ℕ) (r : Shown) → Grows M N → (M.epoch e).counted ≡ false → Shows M e r → ShownBy N e r
shown_by M N e r g uncounted h = record {
  node = h.node;
  member = (g.epoch e).members h.promise.tried h.node ∙ h.promise.member;
  answered = (g.node h.node).answered e h.promise.answered;
  is = by_shows h.promise.shows;
}
  where
    by_shows : ShowsSo M e h.node h.saved → IsOf r ((N.node h.node).showed e)
    by_shows (inl at) = subst (λ z. IsOf r z) (sym at ∙ sym ((g.node h.node).showed e h.promise.answered)) h.is
    by_shows (inr at) = absurd (true_false (sym at.1 ∙ uncounted))

all_shown : (M N : Memberships) (e : ℕ) (rs : List Shown) → Grows M N → (M.epoch e).counted ≡ false → AllByRecursion (Shows M e) rs → AllByRecursion (ShownBy N e) rs
all_shown M N e [] g uncounted h = tt
all_shown M N e (r ∷ rs) g uncounted h = (shown_by M N e r g uncounted h.0, all_shown M N e rs g uncounted h.1)

or_parts : (a b : Bool) → (a || b) ≡ false → (a ≡ false) × (b ≡ false)
or_parts true b h = absurd (true_false h)
or_parts false b h = (refl, h)

-- the coordinator's own record, and those that came
pub record InHand (N : Memberships) (e : ℕ) (records : List Shown) : Type 0 where
  pub all : AllByRecursion (ShownBy N e) records
  pub best : HasBest N e records

-- .. of which the newest node's came
pub in_hand : (S : Setting) (M N : Memberships) (n e : ℕ) (ms : List Moment) (own : Shown) → Holds S N → Grows M N → (M.epoch e).counted ≡ false → AllSound M ms → (N.epoch e).members n ≡ true → (N.node n).answered e ≡ true
    → IsOf own ((N.node n).showed e) → HeardFrom ms n e (N.epoch e).newest → InHand N e (own ∷ records_told (promises e ms))
unfolding shown_by
in_hand S M N n e ms own holds g uncounted sound member answered is heard = record {
  all = (record { node = n; member = member; answered = answered; is = is }, all_shown M N e (records_told (promises e ms)) g uncounted (told_records M e (promises e ms) (promises_had M e ms sound)));
  best = by_heard heard;
}
  where
    by_heard : HeardFrom ms n e (N.epoch e).newest → HasBest N e (own ∷ records_told (promises e ms))
    by_heard (inl at) = record { best = own; is = subst (λ k. IsOf own ((N.node k).showed e)) (sym at) is; among = λ test none. (or_parts (test own) _ none).0 }
    by_heard (inr told) =
        let h : HasShown M e (N.epoch e).newest (records_told (promises e ms)) = has_from M e (N.epoch e).newest (promises e ms) (promises_had M e ms sound) told in
        let so : ShownBy N e h.shown = shown_by M N e h.shown g uncounted h.shows.shows in
        record {
          best = h.shown;
          is = subst (λ k. IsOf h.shown ((N.node k).showed e)) h.shows.from so.is;
          among = λ test none. h.among test (or_parts (test own) _ none).1;
        }

-- ---- what is installed

pending_count : (committed : List (List ℕ)) (pending : Option (List ℕ)) → length (committed ++ listed pending) ≡ length committed + flag (is_some pending)
pending_count committed None = ap length (append-nil committed) ∙ no_more committed
  where
    no_more : (xs : List (List ℕ)) → length xs ≡ length xs + 0
    no_more xs = grind arith
pending_count committed (Some text) = length-append committed (text ∷ [])

same_flag : (a b : Bool) (k : ℕ) → k + flag a ≡ k + flag b → a ≡ b
same_flag true true k h = refl
same_flag false false k h = refl
same_flag true false k h = absurd (apart k h)
  where
    apart : (k : ℕ) → k + 1 ≡ k + 0 → ⊥
    apart k h = grind arith
same_flag false true k h = absurd (apart k h)
  where
    apart : (k : ℕ) → k + 0 ≡ k + 1 → ⊥
    apart k h = grind arith

same_list : (pending : Option (List ℕ)) → listed pending ≡ option_to_list pending
same_list None = refl
same_list (Some text) = refl

-- the machine has what the install brings
pub record IsBrought (N : Memberships) (i : Install) : Type 0 where
  pub counted : (N.epoch i.epoch).counted ≡ true
  pub base : (N.epoch i.epoch).base ≡ i.committed ++ listed i.pending
  pub settled : (N.epoch i.epoch).settled ≡ length i.committed

brought_texts : (N : Memberships) (i : Install) → IsBrought N i → (N.epoch i.epoch).base ≡ (brought_by i).texts
brought_texts N i b = b.base ∙ ap (λ xs. i.committed ++ xs) (same_list i.pending)

brought_pending : (S : Setting) (N : Memberships) (i : Install) (records : List Shown) → Holds S N → IsBrought N i → (h : HasBest N i.epoch records) → (brought_by i).pending ≡ h.best.pending
brought_pending S N i records holds b h =
    same_flag (is_some i.pending) h.best.pending (length i.committed)
    (sym (pending_count i.committed i.pending) ∙ (ap length (sym b.base) ∙ (best_settled S N i.epoch holds b.counted records h ∙ ap (λ k. k + flag h.best.pending) b.settled)))

-- the newest of these, as installed, is what the install brings
pub installs_newest : (S : Setting) (N : Memberships) (i : Install) (own : Shown) (told : List Shown) → Holds S N → IsBrought N i → InHand N i.epoch (own ∷ told) → IfSome (installed_from i.epoch (Some own) told) (λ r. r ≡ brought_by i)
installs_newest S N i own told holds b h = by_found (find (is_newest (own ∷ told)) (own ∷ told)) refl
  where
    shown_so : (r : Shown) (texts : List (List ℕ)) (pending : Bool) → r.texts ≡ texts → r.pending ≡ pending → as_installed i.epoch r ≡ record { installed = i.epoch; texts = texts; pending = pending }
    shown_so r texts pending e f = ap (λ xs. record { installed = i.epoch; texts = xs; pending = r.pending }) e ∙ ap (λ z. record { installed = i.epoch; texts = texts; pending = z }) f

    by_found : (o : Option Shown) → find (is_newest (own ∷ told)) (own ∷ told) ≡ o → IfSome (option_map (as_installed i.epoch) o) (λ r. r ≡ brought_by i)
    by_found None is = tt
    by_found (Some r) is =
        let f : IsFound S N i.epoch holds b.counted (own ∷ told) h.best r = found_newest S N i.epoch holds b.counted (own ∷ told) h.best r h.all is in
        shown_so r (brought_by i).texts (brought_by i).pending (sym f.texts ∙ brought_texts N i b) (f.pending ∙ sym (brought_pending S N i (own ∷ told) holds b h.best))

among_all : (N : Memberships) (e : ℕ) (rs : List Shown) → AllByRecursion (ShownBy N e) rs → AllByRecursion (λ r. ShownBy N e r ⊎ ((N.epoch e).base ≡ r.texts)) rs
among_all N e [] h = tt
among_all N e (r ∷ rs) h = (inl h.0, among_all N e rs h.1)

-- each that none exceeds has what the install brings
pub install_is_newest : (S : Setting) (N : Memberships) (i : Install) (records : List Shown) → Holds S N → IsBrought N i → InHand N i.epoch records
    → HasNewestTexts (brought_by i).texts records × HasNewestPending (brought_by i).pending records
install_is_newest S N i records holds b h = (
  subst (λ xs. HasNewestTexts xs records) (brought_texts N i b) (have_newest_texts S N i.epoch holds b.counted records h.best (among_all N i.epoch records h.all)),
  subst (λ z. HasNewestPending z records) (sym (brought_pending S N i records holds b h.best)) (have_newest_pending S N i.epoch holds b.counted records h.best h.all),
)

-- ---- before the start

no_newer : (a b : Shown) (e : ℕ) → a.installed ≡ e → b.installed < e → is_newer a b ≡ false → ⊥
no_newer a b e at below none = apart a.installed b.installed (length b.texts) (length a.texts) e at below none
  where
    apart : (ai bi bl al e : ℕ) → ai ≡ e → bi < e → (nat_lt bi ai || ((ai == bi) && nat_lt bl al)) ≡ false → ⊥
    apart ai bi bl al e f l none = grind arith

-- a member's that it showed, or has the base
among : (M : Memberships) (e : ℕ) (r : Shown) → Grows M M → (M.epoch e).started ≡ false → Shows M e r → ShownBy M e r ⊎ ((M.epoch e).base ≡ r.texts)
among M e r g unstarted h = by_shows h.promise.shows
  where
    by_shows : ShowsSo M e h.node h.saved → ShownBy M e r ⊎ ((M.epoch e).base ≡ r.texts)
    by_shows (inl at) = inl (record { node = h.node; member = h.promise.member; answered = h.promise.answered; is = subst (λ z. IsOf r z) (sym at) h.is })
    by_shows (inr at) = inr (sym (at.2 unstarted) ∙ sym h.is.texts)

among_told : (M : Memberships) (e : ℕ) (rs : List Shown) → Grows M M → (M.epoch e).started ≡ false → AllByRecursion (Shows M e) rs → AllByRecursion (λ r. ShownBy M e r ⊎ ((M.epoch e).base ≡ r.texts)) rs
among_told M e [] g unstarted h = tt
among_told M e (r ∷ rs) g unstarted h = (among M e r g unstarted h.0, among_told M e rs g unstarted h.1)

-- each that none is newer than has the base
pub base_is_newest : (S : Setting) (M : Memberships) (n e : ℕ) (ms : List Moment) (own : Shown) → Holds S M → Grows M M → (M.epoch e).counted ≡ true → (M.epoch e).started ≡ false → AllSound M ms → (M.epoch e).members n ≡ true
    → (M.node n).answered e ≡ true → IsOf own ((M.node n).showed e) → HeardFrom ms n e (M.epoch e).newest → HasNewestTexts (M.epoch e).base (own ∷ records_told (promises e ms))
base_is_newest S M n e ms own holds g counted unstarted sound member answered is heard = by_heard heard
  where
    records : List Shown
    records = own ∷ records_told (promises e ms)

    all : AllByRecursion (λ r. ShownBy M e r ⊎ ((M.epoch e).base ≡ r.texts)) records
    all = (inl (record { node = n; member = member; answered = answered; is = is }), among_told M e (records_told (promises e ms)) g unstarted (told_records M e (promises e ms) (promises_had M e ms sound)))

    -- where one has installed it, that one is the newest
    by_latest : (latest : Shown) → latest.installed ≡ e → ((test : Shown → Bool) → list_any test records ≡ false → test latest ≡ false) → (rs : List Shown) → AllByRecursion (λ r. ShownBy M e r ⊎ ((M.epoch e).base ≡ r.texts)) rs
        → AllByRecursion (λ r. list_any (λ other. is_newer other r) records ≡ false → (M.epoch e).base ≡ r.texts) rs
    by_latest latest at in_them [] h = tt
    by_latest latest at in_them (r ∷ rs) h = (one h.0, by_latest latest at in_them rs h.1)
      where
        one : ShownBy M e r ⊎ ((M.epoch e).base ≡ r.texts) → list_any (λ other. is_newer other r) records ≡ false → (M.epoch e).base ≡ r.texts
        one (inr same) none = same
        one (inl so) none =
            absurd (no_newer latest r e at (subst (λ k. k < e) (sym so.is.installed) ((holds.node so.node).showed_installed e so.answered)) (in_them (λ other. is_newer other r) none))

    by_best : HasBest M e records → HasNewestTexts (M.epoch e).base records
    by_best b = have_newest_texts S M e holds counted records b all

    by_heard : HeardFrom ms n e (M.epoch e).newest → HasNewestTexts (M.epoch e).base records
    by_heard (inl at) = by_best (record { best = own; is = subst (λ k. IsOf own ((M.node k).showed e)) (sym at) is; among = λ test none. (or_parts (test own) _ none).0 })
    by_heard (inr told) = by_shown (has_from M e (M.epoch e).newest (promises e ms) (promises_had M e ms sound) told)
      where
        by_shown : HasShown M e (M.epoch e).newest (records_told (promises e ms)) → HasNewestTexts (M.epoch e).base records
        by_shown h = by_shows h.shows.shows.promise.shows
          where
            by_shows : ShowsSo M e h.shows.shows.node h.shows.shows.saved → HasNewestTexts (M.epoch e).base records
            by_shows (inl at) = by_best (record {
              best = h.shown;
              is = subst (λ k. IsOf h.shown ((M.node k).showed e)) h.shows.from (subst (λ z. IsOf h.shown z) (sym at) h.shows.shows.is);
              among = λ test none. h.among test (or_parts (test own) _ none).1;
            })
            by_shows (inr at) = by_latest h.shown (h.shows.shows.is.installed ∙ at.0) (λ test none. h.among test (or_parts (test own) _ none).1) records all
