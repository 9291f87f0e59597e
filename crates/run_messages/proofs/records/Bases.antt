-- The lines of a start: the base has what was installed, and what is newest of the records in hand.
use Rattle.std.specs.Prelude.{ℕ, suc, ◌+◌, ◌≡◌, ◌==◌, ◌++◌, Bool, true, false, List, [], ◌∷◌, Option, None, Some, IfSome, length, if◌then◌else◌}
use Rattle.std.specs.Option.{option_and_then}
use Rattle.std.proofs.Common.{refl, sym, ap, subst, ◌∙◌, arith}
use Rattle.std.proofs.lemmas.List.{append-nil, append_assoc, length-append}
use Rattle.history.specs.Contents.{IsInstalledBase, IsNewestBase, IsNewestInstalled, IsRecord}
use Rattle.history.specs.Member.{installed_of}
use Rattle.history.specs.Moment.{Moment}
use Rattle.history.specs.Order.{before_last}
use Rattle.history.specs.Records.{NodeRecord as Shown, record_of, started_from}
use Rattle.history.specs.Seizing.{is_start}
use Rattle.history.specs.Setting.{coordinator}
use Rattle.history.specs.Starts.{Start, base_so_far, completed, start_so_far}
use Rattle.history.specs.Trace.{base, start}
use Rattle.membership_machine.specs.State.{Memberships}
use Rattle.node_model.specs.Attempts.{base_lines}
use Rattle.refinement.specs.Runs.{Nodes}
use Rattle.refinement.specs.Ties.{Delivered}
use Rattle.status_report.specs.declared.entry.Entry.TheVariants as entry
use Rattle.status_report.specs.declared.start_entry.StartEntry.TheVariants as start_entry
use Rattle.run_history.specs.Scenes.{Scene, passing, telling}
use Rattle.run_messages.specs.records.Kept.{Judged}
use Rattle.run_messages.proofs.records.Changes.{at_own}
use Rattle.run_messages.proofs.records.Own.{Own, Rest, Same, own_base, own_rest, own_start, same_line, same_more}
use Rattle.run_messages.proofs.records.Sends.{if_so, is_same}

-- once these lines of the start stand
pub record Standing (n : ℕ) (told : Delivered) (v : Nodes) (N : Memberships) (ms : List Moment) (st : Start) (done : List (List ℕ)) (s : Scene) : Type 0 where
  pub rest : Rest n told v N s
  pub same : Same ms s.moments
  pub installed_so : installed_of n s.moments ≡ installed_of n ms
  pub start_so : start_so_far s.moments ≡ Some st
  pub base_so : base_so_far s.moments ≡ done
  pub last : before_last (is_start st.epoch) s.moments ≡ ms
  pub record_so : length done ≡ st.count → record_of n s.moments ≡ Some (record { installed = st.epoch; texts = done; pending = false })

-- what is to hold of the start, whatever stands behind its first line
abbrev pub StartSo : List Moment → Start → List (List ℕ) → Type 0
StartSo ms st all = (after : List Moment) → Same ms after → before_last (is_start st.epoch) after ≡ ms → IsInstalledBase after st all × IsNewestBase after st all

abbrev complete_of : Option Start → ℕ → Option Start
complete_of o k = option_and_then (λ (s : Start). if k == s.count then Some s else None) o

is_number : (a b : ℕ) → (a == b) ≡ true → a ≡ b
is_number a b h = grind arith

none_left : (k m : ℕ) → k ≡ k + suc m → ⊥
none_left k m h = grind arith

plus_zero : (k : ℕ) → k ≡ k + 0
plus_zero k = grind arith

-- as long as the whole, so the whole
whole_of : (done more all : List (List ℕ)) → done ++ more ≡ all → length done ≡ length all → done ≡ all
whole_of done [] all is same = sym (append-nil done) ∙ is
whole_of done (x ∷ more) all is same = absurd (none_left (length done) (length more) (same ∙ (ap length (sym is) ∙ length-append done (x ∷ more))))

-- of a line of the start: where it is the last one, this is to hold
judged_so : (before : List Moment) (x : Moment) (st : Start) (done : List (List ℕ)) → IsRecord before x → IsNewestInstalled before x → completed (x ∷ before) ≡ (if length done == st.count then Some st else None)
    → base_so_far (x ∷ before) ≡ done → (length done ≡ st.count → IsInstalledBase (x ∷ before) st done × IsNewestBase (x ∷ before) st done) → Judged before → Judged (x ∷ before)
judged_so before x st done r n complete base_so law h = record {
  records = (r, h.records);
  newest = (n, h.newest);
  base = (by_test (λ s us. IsInstalledBase (x ∷ before) s us) (λ e. (law e).0), h.base);
  newest_base = (by_test (λ s us. IsNewestBase (x ∷ before) s us) (λ e. (law e).1), h.newest_base);
}
  where
    by_test : (P : Start → List (List ℕ) → Type 0) → (length done ≡ st.count → P st done) → IfSome (completed (x ∷ before)) (λ s. P s (base_so_far (x ∷ before)))
    by_test P f =
        subst (λ us. IfSome (completed (x ∷ before)) (λ s. P s us)) (sym base_so)
        (subst (λ o. IfSome o (λ s. P s done)) (sym complete) (by_count (length done == st.count) refl))
      where
        by_count : (b : Bool) → (length done == st.count) ≡ b → IfSome (if b then Some st else None) (λ s. P s done)
        by_count true is = f (is_number (length done) st.count is)
        by_count false is = tt

record_at : (n : ℕ) (st : Start) (done : List (List ℕ)) (before : Option Shown) (o : Option Start) → o ≡ (if length done == st.count then Some st else None) → length done ≡ st.count
    → started_from o done before ≡ Some (record { installed = st.epoch; texts = done; pending = false })
record_at n st done before o is at =
    ap (λ z. started_from z done before) (is ∙ if_so (length done == st.count) (Some st) None (subst (λ k. (length done == k) ≡ true) at (is_same (length done))))

-- ---- its first line

abbrev start_at : ℕ → ℕ → ℕ → ℕ → Start
start_at e members held count = record { epoch = e; members = members; held = held; count = count }

pub start_stands : (n : ℕ) (told : Delivered) (v : Nodes) (N : Memberships) (e members held count : ℕ) (all : List (List ℕ)) (s : Scene) → coordinator e ≡ n → length all ≡ count
    → StartSo s.moments (record { epoch = e; members = members; held = held; count = count }) all → Rest n told v N s
    → Standing n told v N s.moments (record { epoch = e; members = members; held = held; count = count }) [] (telling (entry.Start (start_entry.Started e members held count)) s)
start_stands n told v N e members held count all s own counts law h =
    let st : Start = start_at e members held count in
    let x : Moment = start e members held count in
    let last : before_last (is_start e) (x ∷ s.moments) ≡ s.moments = if_so (e == e) s.moments (before_last (is_start e) s.moments) (is_same e) in
    let o : Own n s.moments x = own_start n s.moments e members held count own in
    let same : Same s.moments (x ∷ s.moments) = same_line n s.moments x o in
    let judged : Judged (x ∷ s.moments) = judged_so s.moments x st [] tt tt refl refl (λ at. subst (λ us. IsInstalledBase (x ∷ s.moments) st us × IsNewestBase (x ∷ s.moments) st us) (sym (none_of all (counts ∙ sym at))) (law (x ∷ s.moments) same last)) h.judged in
    record {
      rest = own_rest n told v N s (entry.Start (start_entry.Started e members held count)) o judged h;
      same = same;
      installed_so = refl;
      start_so = refl;
      base_so = refl;
      last = last;
      record_so = λ at. if_so (n == coordinator e) (started_from (completed (x ∷ s.moments)) [] (record_of n s.moments)) (record_of n s.moments) (at_own n e own) ∙ record_at n st [] (record_of n s.moments) (completed (x ∷ s.moments)) refl at;
    }
  where
    none_of : (us : List (List ℕ)) → length us ≡ 0 → [] ≡ us
    none_of [] h = refl
    none_of (u ∷ us) h = absurd (some (length us) h)
      where
        some : (k : ℕ) → suc k ≡ 0 → ⊥
        some k e = grind arith

-- ---- its base

base_stands : (n : ℕ) (told : Delivered) (v : Nodes) (N : Memberships) (ms : List Moment) (st : Start) (all done more : List (List ℕ)) (text : List ℕ) (v0 : ℕ) (s : Scene) → coordinator st.epoch ≡ n → length all ≡ st.count → StartSo ms st all
    → (done ++ text ∷ []) ++ more ≡ all → Standing n told v N ms st done s → Standing n told v N ms st (done ++ text ∷ []) (telling (entry.Start (start_entry.Base st.epoch v0 text)) s)
base_stands n told v N ms st all done more text v0 s own counts law is h =
    let x : Moment = base st.epoch v0 text in
    let now : List (List ℕ) = done ++ text ∷ [] in
    let o : Own n s.moments x = own_base n s.moments st.epoch v0 text own in
    let same : Same ms (x ∷ s.moments) = same_more ms s.moments (x ∷ s.moments) h.same (same_line n s.moments x o) in
    let so : base_so_far (x ∷ s.moments) ≡ now = ap (λ us. us ++ text ∷ []) h.base_so in
    let complete : completed (x ∷ s.moments) ≡ (if length now == st.count then Some st else None) =
    ap (λ z. complete_of z (length (base_so_far (x ∷ s.moments)))) h.start_so ∙ ap (λ us. complete_of (Some st) (length us)) so in
    let judged : Judged (x ∷ s.moments) =
    judged_so s.moments x st now tt tt complete so (λ at. subst (λ us. IsInstalledBase (x ∷ s.moments) st us × IsNewestBase (x ∷ s.moments) st us) (sym (whole_of now more all is (at ∙ sym counts))) (law (x ∷ s.moments) same h.last)) h.rest.judged in
    record {
      rest = own_rest n told v N s (entry.Start (start_entry.Base st.epoch v0 text)) o judged h.rest;
      same = same;
      installed_so = h.installed_so;
      start_so = h.start_so;
      base_so = so;
      last = h.last;
      record_so = λ at.
          if_so (n == coordinator st.epoch) (started_from (completed (x ∷ s.moments)) (base_so_far (x ∷ s.moments)) (record_of n s.moments)) (record_of n s.moments) (at_own n st.epoch own)
          ∙ (ap (λ us. started_from (completed (x ∷ s.moments)) us (record_of n s.moments)) so ∙ record_at n st now (record_of n s.moments) (completed (x ∷ s.moments)) complete at);
    }

count_more : (done : List (List ℕ)) (text : List ℕ) → length done + 1 ≡ length (done ++ text ∷ [])
count_more done text = sym (length-append done (text ∷ []))

pub bases_stand : (n : ℕ) (told : Delivered) (v : Nodes) (N : Memberships) (ms : List Moment) (st : Start) (all : List (List ℕ)) → coordinator st.epoch ≡ n → length all ≡ st.count → StartSo ms st all
    → (done texts : List (List ℕ)) (s : Scene) → done ++ texts ≡ all → Standing n told v N ms st done s → Standing n told v N ms st all (passing n (base_lines st.epoch (length done) texts) s)
bases_stand n told v N ms st all own counts law done [] s is h = subst (λ us. Standing n told v N ms st us s) (sym (append-nil done) ∙ is) h
bases_stand n told v N ms st all own counts law done (text ∷ texts) s is h =
    let whole : (done ++ text ∷ []) ++ texts ≡ all = append_assoc done (text ∷ []) texts ∙ is in
    let t : Scene = telling (entry.Start (start_entry.Base st.epoch (length done + 1) text)) s in
    subst (λ k. Standing n told v N ms st all (passing n (base_lines st.epoch k texts) t)) (sym (count_more done text))
    (bases_stand n told v N ms st all own counts law (done ++ text ∷ []) texts t whole (base_stands n told v N ms st all done texts text (length done + 1) s own counts law whole h))
