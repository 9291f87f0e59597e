use Rattle.std.proofs.Common.{◌≡◌, inl, ℕ, List, [], ◌∷◌, length, drop, sym, ◌∙◌, ap, subst}
use Rattle.std.proofs.lemmas.Result.{on_ok_weaker, on_err_weaker}
use Rattle.local_disk.specs.declared.memory.Choice.{Choice}
use Rattle.local_disk.specs.Memory.{Spoils}
use Rattle.local_disk.specs.LocalDisk.{SameOutside, overwritten}
use Rattle.record_store.specs.Images.{selected, selector_of, other_slot, text_of, MountsTo}
use Rattle.record_store.proofs.Slots.{IsStaged, staged_by, still_old_by, old_or_new, now_new}
use Rattle.record_store.specs.Store.{LeavesBy}
use Rattle.record_store.proofs.Stopped.{with_text, stopped_first, stopped_second, stopped_late, on_err}
use Rattle.record_store.proofs.calls.replace.Goals as goal

pub returns-in_err-write_at-clause-stops : goal.returns-in_err-write_at-clause-stops
returns-in_err-write_at-clause-stops g c = λ image left.
    let old = g.D.LocalDisk.reads c.args.disk.now in
    let from = c.write_at.ensures.images image left in
    let same : SameOutside c.place.result (length c.args.bytes.now) old image =
    subst (λ (was : List ℕ). SameOutside c.place.result (length c.args.bytes.now) was image) (c.requires.synced from.0 from.1) from.2 in
    inl (still_old_by c.args.slot c.place.result (length c.args.bytes.now) old image c.place.ensures.place c.requires.most c.requires.slot c.requires.mounts same)

pub returns-in_err-sync-clause-stops : goal.returns-in_err-sync-clause-stops
returns-in_err-sync-clause-stops g c = λ image left.
    let old = g.D.LocalDisk.reads c.args.disk.now in
    let from = c.write_at.ensures.images image (c.sync.ensures.images image left) in
    let same : SameOutside c.place.result (length c.args.bytes.now) old image =
    subst (λ (was : List ℕ). SameOutside c.place.result (length c.args.bytes.now) was image) (c.requires.synced from.0 from.1) from.2 in
    inl (still_old_by c.args.slot c.place.result (length c.args.bytes.now) old image c.place.ensures.place c.requires.most c.requires.slot c.requires.mounts same)

pub returns-in_err-write_at-2-clause-stops : goal.returns-in_err-write_at-2-clause-stops
returns-in_err-write_at-2-clause-stops g c = λ image left.
    let old = g.D.LocalDisk.reads c.args.disk.now in
    let text = drop 4 c.args.bytes.now in
    let is_staged : IsStaged c.args.slot text old (g.D.LocalDisk.reads c.sync.new.self) =
    subst (IsStaged c.args.slot text old) (sym c.sync.ensures.reads)
    (staged_by c.args.slot c.place.result c.args.bytes.now old (g.D.LocalDisk.reads c.write_at.new.self) c.place.ensures.place c.requires.spelled c.requires.most c.requires.mounts.mountable.size
    c.in_ok-write_at.ensures.written c.write_at.ensures.outside) in
    let from = c.write_at-2.ensures.images image left in
    let same : SameOutside 0 1 (g.D.LocalDisk.reads c.sync.new.self) image = subst (λ (was : List ℕ). SameOutside 0 1 was image) (c.in_ok-sync.ensures.synced from.0 from.1) from.2 in
    old_or_new c.args.slot text old (g.D.LocalDisk.reads c.sync.new.self) image c.requires.slot c.requires.mounts is_staged same

pub returns-clause-stops : goal.returns-clause-stops
returns-clause-stops g c = λ image left.
    let old = g.D.LocalDisk.reads c.args.disk.now in
    let text = drop 4 c.args.bytes.now in
    let is_staged : IsStaged c.args.slot text old (g.D.LocalDisk.reads c.sync.new.self) =
    subst (IsStaged c.args.slot text old) (sym c.sync.ensures.reads)
    (staged_by c.args.slot c.place.result c.args.bytes.now old (g.D.LocalDisk.reads c.write_at.new.self) c.place.ensures.place c.requires.spelled c.requires.most c.requires.mounts.mountable.size
    c.in_ok-write_at.ensures.written c.write_at.ensures.outside) in
    let from = c.write_at-2.ensures.images image (c.sync-2.ensures.images image left) in
    let same : SameOutside 0 1 (g.D.LocalDisk.reads c.sync.new.self) image = subst (λ (was : List ℕ). SameOutside 0 1 was image) (c.in_ok-sync.ensures.synced from.0 from.1) from.2 in
    old_or_new c.args.slot text old (g.D.LocalDisk.reads c.sync.new.self) image c.requires.slot c.requires.mounts is_staged same

pub returns-clause-ok : goal.returns-clause-ok
returns-clause-ok g c =
    let old = g.D.LocalDisk.reads c.args.disk.now in
    let mid = g.D.LocalDisk.reads c.sync.new.self in
    let text = drop 4 c.args.bytes.now in
    let is_staged : IsStaged c.args.slot text old mid =
    subst (IsStaged c.args.slot text old) (sym c.sync.ensures.reads)
    (staged_by c.args.slot c.place.result c.args.bytes.now old (g.D.LocalDisk.reads c.write_at.new.self) c.place.ensures.place c.requires.spelled c.requires.most c.requires.mounts.mountable.size
    c.in_ok-write_at.ensures.written c.write_at.ensures.outside) in
    let written : g.D.LocalDisk.reads c.write_at-2.new.self ≡ overwritten mid 0 (selector_of c.args.slot ∷ []) =
    c.in_ok-write_at-2.ensures.written ∙ ap (λ (s : ℕ). overwritten mid 0 (s ∷ [])) c.selector.ensures in
    let new = now_new c.args.slot text old mid (g.D.LocalDisk.reads c.write_at-2.new.self) is_staged c.write_at-2.ensures.outside written in
    on_ok_weaker c.sync-2.result
    (λ synced. record {
      synced = synced;
      slot = ap selected c.sync-2.ensures.reads ∙ new.0;
      mounts = subst (MountsTo text) (sym c.sync-2.ensures.reads) new.1;
    })
    c.sync-2.ensures.synced

pub returns-in_err-write_at-clause-left : goal.returns-in_err-write_at-clause-left
returns-in_err-write_at-clause-left g c =
    let disk = c.args.disk.now in
    on_err c.from_residual.result
    (stopped_first g.D.LocalDisk.fails_of_itself (g.D.LocalDisk.calls_left disk) (g.D.LocalDisk.calls_left c.write_at.new.self) (g.D.LocalDisk.choice disk) c.args.slot c.place.result c.args.bytes.now
    (drop 4 c.args.bytes.now) (g.D.LocalDisk.reads disk) (g.D.LocalDisk.left disk) (g.D.LocalDisk.left c.write_at.new.self) c.place.ensures.place c.place.ensures.within c.requires.most c.requires.slot
    c.requires.mounts (c.requires.synced (g.D.LocalDisk.left disk) c.write_at.ensures.one) c.in_err-write_at.ensures.calls c.write_at.ensures.left)

pub returns-in_err-sync-clause-left : goal.returns-in_err-sync-clause-left
returns-in_err-sync-clause-left g c =
    let disk = c.args.disk.now in
    on_err c.from_residual-in_err-sync.result
    (stopped_second g.D.LocalDisk.fails_of_itself (g.D.LocalDisk.calls_left disk) (g.D.LocalDisk.calls_left c.write_at.new.self) (g.D.LocalDisk.calls_left c.sync.new.self) (g.D.LocalDisk.choice disk) c.args.slot
    c.place.result c.args.bytes.now (drop 4 c.args.bytes.now) (g.D.LocalDisk.reads disk) (g.D.LocalDisk.left disk) (g.D.LocalDisk.left c.write_at.new.self) (g.D.LocalDisk.left c.sync.new.self)
    c.place.ensures.place c.place.ensures.within c.requires.most c.requires.slot c.requires.mounts (c.requires.synced (g.D.LocalDisk.left disk) c.write_at.ensures.one) c.in_ok-write_at.ensures.calls
    c.in_err-sync.ensures.calls c.write_at.ensures.left c.in_err-sync.ensures.left)

pub returns-in_err-write_at-2-clause-left : goal.returns-in_err-write_at-2-clause-left
returns-in_err-write_at-2-clause-left g c =
    let disk = c.args.disk.now in
    let old = g.D.LocalDisk.reads disk in
    let mid = g.D.LocalDisk.reads c.sync.new.self in
    let text = drop 4 c.args.bytes.now in
    let is_staged : IsStaged c.args.slot text old mid =
    subst (IsStaged c.args.slot text old) (sym c.sync.ensures.reads)
    (staged_by c.args.slot c.place.result c.args.bytes.now old (g.D.LocalDisk.reads c.write_at.new.self) c.place.ensures.place c.requires.spelled c.requires.most c.requires.mounts.mountable.size
    c.in_ok-write_at.ensures.written c.write_at.ensures.outside) in
    let was = g.D.LocalDisk.left c.sync.new.self in
    let image = g.D.LocalDisk.left c.write_at-2.new.self in
    let left : Spoils (g.D.LocalDisk.calls_left c.sync.new.self) (g.D.LocalDisk.choice disk) 0 (c.selector.result ∷ []) was image =
    subst (λ (choice : Choice). Spoils (g.D.LocalDisk.calls_left c.sync.new.self) choice 0 (c.selector.result ∷ []) was image) (c.sync.ensures.choice ∙ c.write_at.ensures.choice) c.write_at-2.ensures.left in
    on_err c.from_residual-in_err-write_at-2.result
    (stopped_late g.D.LocalDisk.fails_of_itself (g.D.LocalDisk.calls_left disk) (g.D.LocalDisk.calls_left c.write_at.new.self) (g.D.LocalDisk.calls_left c.sync.new.self) (g.D.LocalDisk.choice disk) c.args.slot
    c.selector.result text old mid was image c.requires.slot c.requires.mounts c.selector.ensures is_staged (c.in_ok-sync.ensures.synced was c.write_at-2.ensures.one) c.in_ok-write_at.ensures.calls
    c.in_ok-sync.ensures.calls left)

pub returns-clause-left : goal.returns-clause-left
returns-clause-left g c =
    let disk = c.args.disk.now in
    let old = g.D.LocalDisk.reads disk in
    let mid = g.D.LocalDisk.reads c.sync.new.self in
    let text = drop 4 c.args.bytes.now in
    let is_staged : IsStaged c.args.slot text old mid =
    subst (IsStaged c.args.slot text old) (sym c.sync.ensures.reads)
    (staged_by c.args.slot c.place.result c.args.bytes.now old (g.D.LocalDisk.reads c.write_at.new.self) c.place.ensures.place c.requires.spelled c.requires.most c.requires.mounts.mountable.size
    c.in_ok-write_at.ensures.written c.write_at.ensures.outside) in
    let was = g.D.LocalDisk.left c.sync.new.self in
    let image = g.D.LocalDisk.left c.write_at-2.new.self in
    let left : Spoils (g.D.LocalDisk.calls_left c.sync.new.self) (g.D.LocalDisk.choice disk) 0 (c.selector.result ∷ []) was image =
    subst (λ (choice : Choice). Spoils (g.D.LocalDisk.calls_left c.sync.new.self) choice 0 (c.selector.result ∷ []) was image) (c.sync.ensures.choice ∙ c.write_at.ensures.choice) c.write_at-2.ensures.left in
    let stops =
    stopped_late g.D.LocalDisk.fails_of_itself (g.D.LocalDisk.calls_left disk) (g.D.LocalDisk.calls_left c.write_at.new.self) (g.D.LocalDisk.calls_left c.sync.new.self) (g.D.LocalDisk.choice disk) c.args.slot
    c.selector.result text old mid was image c.requires.slot c.requires.mounts c.selector.ensures is_staged (c.in_ok-sync.ensures.synced was c.write_at-2.ensures.one) c.in_ok-write_at.ensures.calls
    c.in_ok-sync.ensures.calls left in
    on_err_weaker c.sync-2.result
    (λ same. subst (LeavesBy (g.D.LocalDisk.calls_left disk) (g.D.LocalDisk.choice disk) (with_text (other_slot c.args.slot) (text_of old)) (with_text c.args.slot text)) (sym same) stops) c.sync-2.ensures.left
