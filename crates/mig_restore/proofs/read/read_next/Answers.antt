use Rattle.mig_restore.proofs.Common.{any_stop, NotesOn, IsCompared, differs_behind, put_frames, ◌≡◌, ℕ, List, [], ◌∷◌, ◌++◌, true, false, nat_eq, rules, ap, sym, subst, ◌∙◌, eq-eqb, ne_eqb, map-append, done, then_reads, stopped, refused, FrameMap, kept_guest, GuestOf, StreamRecord, types_of, Opening, before, IsSeen, RecordsSeen, record_at, next_at, asks, behind_record, not_last, last_fine, last_faulty, sent_kind, sent}
use Rattle.mig_restore.proofs.Kept.{kept_more}
use Rattle.mig_restore.proofs.Noted.{both_told, stops}
use Rattle.mig_restore.proofs.read.read_next.Goals as goal

seen_more : (seen : RecordsSeen) (o : Opening) (records : List StreamRecord) (r : StreamRecord) (type : ℕ) → type ≡ r.type → IsSeen seen o (types_of records ++ type ∷ []) → IsSeen seen o (types_of (records ++ r ∷ []))
seen_more seen o records r type is h = subst (IsSeen seen o) (ap (λ t. types_of records ++ t ∷ []) is ∙ sym (map-append (λ (x : StreamRecord). x.type) records (r ∷ []))) h

guest_kind : (kept : FrameMap → FrameMap) (g : GuestOf) (o : Opening) (records : List StreamRecord) → g ≡ kept_guest kept (sent o.kind records) → g.kind ≡ o.kind
guest_kind kept g o records is = ap (λ (x : GuestOf). x.kind) is ∙ sent_kind o.kind records

guest_top : (kept : FrameMap → FrameMap) (g : GuestOf) (o : Opening) (records : List StreamRecord) → g ≡ kept_guest kept (sent o.kind records) → g.top ≡ (before o records).top
guest_top kept g o records is = ap (λ (x : GuestOf). x.top) is

pub returns-in_err-take_record-clause-read : goal.returns-in_err-take_record-clause-read
returns-in_err-take_record-clause-read g c = λ o records seen guest verified.
    stopped _ _ _ _ (record_at (before o records)) (next_at o records) (behind_record o records) c.in_err-take_record.field-0.0 c.from_residual.result (asks o records) (search rules)
    (c.in_err-take_record.ensures.read (before o records) seen (guest_kind g.F.KeepsFrames.kept _ o records guest) (guest_top g.F.KeepsFrames.kept _ o records guest) verified)

pub returns-then-branch-ne-END-clause-read : goal.returns-then-branch-ne-END-clause-read
returns-then-branch-ne-END-clause-read g c = λ o records seen guest verified.
    then_reads _ _ _ _ _ (record_at (before o records)) (next_at o records) (behind_record o records) c.in_ok-take_record.field-0 _ (asks o records)
    (c.in_ok-take_record.ensures.read (before o records) seen (guest_kind g.F.KeepsFrames.kept _ o records guest) (guest_top g.F.KeepsFrames.kept _ o records guest) verified)
    (λ r told. let goes : nat_eq r.type 0 ≡ false = ne_eqb r.type 0 (λ is. c.if-branch-ne-END.true (told.1 ∙ is)) in
    done _ _ (λ i. behind_record o records (r, i)) false r (not_last o records r goes) (kept_more g.F.KeepsFrames.kept g.F.KeepsFrames.put c.goes_on.ensures.entry c.args.guest.now _ o.kind records r guest told.0, seen_more _ o records r _ told.1 (c.in_ok-take_record.ensures.seen o (types_of records) seen), sym goes, told.2))

pub returns-in-Err-Fault-clause-read : goal.returns-in-Err-Fault-clause-read
returns-in-Err-Fault-clause-read g c = λ o records seen guest verified.
    then_reads _ _ _ _ _ (record_at (before o records)) (next_at o records) (behind_record o records) c.in_ok-take_record.field-0 _ (asks o records)
    (c.in_ok-take_record.ensures.read (before o records) seen (guest_kind g.F.KeepsFrames.kept _ o records guest) (guest_top g.F.KeepsFrames.kept _ o records guest) verified)
    (λ r told. refused _ _ (λ i. behind_record o records (r, i)) c.in-Err-Fault.cause
    (last_faulty o records r c.in-Err-Fault.cause (sym told.1 ∙ c.if-branch-ne-END.false) (c.in-Err-Fault.ensures.fault (sent o.kind (records ++ r ∷ [])) c.in-Err-Fault.cause (kept_more g.F.KeepsFrames.kept g.F.KeepsFrames.put c.goes_on.ensures.entry c.args.guest.now _ o.kind records r guest told.0) (search rules))))

pub returns-in-Ok-clause-read : goal.returns-in-Ok-clause-read
returns-in-Ok-clause-read g c = λ o records seen guest verified.
    then_reads _ _ _ _ _ (record_at (before o records)) (next_at o records) (behind_record o records) c.in_ok-take_record.field-0 _ (asks o records)
    (c.in_ok-take_record.ensures.read (before o records) seen (guest_kind g.F.KeepsFrames.kept _ o records guest) (guest_top g.F.KeepsFrames.kept _ o records guest) verified)
    (λ r told. let zero : r.type ≡ 0 = sym told.1 ∙ c.if-branch-ne-END.false in
    done _ _ (λ i. behind_record o records (r, i)) true r
    (last_fine o records r zero (c.in-Ok.ensures.ok (sent o.kind (records ++ r ∷ [])) (kept_more g.F.KeepsFrames.kept g.F.KeepsFrames.put c.goes_on.ensures.entry c.args.guest.now _ o.kind records r guest told.0)))
    (kept_more g.F.KeepsFrames.kept g.F.KeepsFrames.put c.goes_on.ensures.entry c.args.guest.now _ o.kind records r guest told.0, seen_more _ o records r _ told.1 (c.in_ok-take_record.ensures.seen o (types_of records) seen), sym (eq-eqb r.type 0 zero), told.2))

pub returns-in_err-take_record-clause-noted : goal.returns-in_err-take_record-clause-noted
returns-in_err-take_record-clause-noted g c = λ o records seen guest verified.
    stops _ _ (λ s. s ≡ c.in_err-take_record.field-0.0) _ _ _ c.from_residual.result (search rules) (returns-in_err-take_record-clause-read g c o records seen guest verified)

pub returns-then-branch-ne-END-clause-noted : goal.returns-then-branch-ne-END-clause-noted
returns-then-branch-ne-END-clause-noted g c = λ o records seen guest verified.
    let kind = guest_kind g.F.KeepsFrames.kept _ o records guest in let top = guest_top g.F.KeepsFrames.kept _ o records guest in
    then_reads _ _ _ _ _ (record_at (before o records)) (next_at o records) (behind_record o records) c.in_ok-take_record.field-0 _ (asks o records)
    (both_told _ _ _ _ (record_at (before o records)) c.in_ok-take_record.field-0 c.in_ok-take_record.field-0 (c.in_ok-take_record.ensures.read (before o records) seen kind top verified) (c.in_ok-take_record.ensures.noted (before o records) seen kind top verified))
    (λ r told. let goes : nat_eq r.type 0 ≡ false = ne_eqb r.type 0 (λ is. c.if-branch-ne-END.true (told.0.1 ∙ is)) in
    done _ _ (λ i. behind_record o records (r, i)) false r (not_last o records r goes)
    (subst (λ k. NotesOn g.F.KeepsFrames.notes c.args.keeper.now c.take_record.new.keeper (g.S.Source.left c.args.src.now) (g.S.Source.left c.take_record.new.src) (put_frames k r.content)) kind told.1))

pub returns-in-Err-Fault-clause-noted : goal.returns-in-Err-Fault-clause-noted
returns-in-Err-Fault-clause-noted g c = λ o records seen guest verified. any_stop _ _ _ _ _ _ (returns-in-Err-Fault-clause-read g c o records seen guest verified)

pub returns-in-Ok-clause-noted : goal.returns-in-Ok-clause-noted
returns-in-Ok-clause-noted g c = λ o records seen guest verified.
    let kind = guest_kind g.F.KeepsFrames.kept _ o records guest in let top = guest_top g.F.KeepsFrames.kept _ o records guest in
    then_reads _ _ _ _ _ (record_at (before o records)) (next_at o records) (behind_record o records) c.in_ok-take_record.field-0 _ (asks o records)
    (both_told _ _ _ _ (record_at (before o records)) c.in_ok-take_record.field-0 c.in_ok-take_record.field-0 (c.in_ok-take_record.ensures.read (before o records) seen kind top verified) (c.in_ok-take_record.ensures.noted (before o records) seen kind top verified))
    (λ r told. let zero : r.type ≡ 0 = sym told.0.1 ∙ c.if-branch-ne-END.false in
    done _ _ (λ i. behind_record o records (r, i)) true r
    (last_fine o records r zero (c.in-Ok.ensures.ok (sent o.kind (records ++ r ∷ [])) (kept_more g.F.KeepsFrames.kept g.F.KeepsFrames.put c.goes_on.ensures.entry c.args.guest.now _ o.kind records r guest told.0.0)))
    (subst (λ k. NotesOn g.F.KeepsFrames.notes c.args.keeper.now c.take_record.new.keeper (g.S.Source.left c.args.src.now) (g.S.Source.left c.take_record.new.src) (put_frames k r.content)) kind told.1))

pub returns-in_err-take_record-clause-compared : goal.returns-in_err-take_record-clause-compared
returns-in_err-take_record-clause-compared g c = λ o records seen guest verified.
    stops _ _ (λ s. s ≡ c.in_err-take_record.field-0.0) _ _ _ c.from_residual.result (search rules) (returns-in_err-take_record-clause-read g c o records seen guest verified)

pub returns-then-branch-ne-END-clause-compared : goal.returns-then-branch-ne-END-clause-compared
returns-then-branch-ne-END-clause-compared g c = λ o records seen guest verified.
    let kind = guest_kind g.F.KeepsFrames.kept _ o records guest in let top = guest_top g.F.KeepsFrames.kept _ o records guest in
    then_reads _ _ _ _ _ (record_at (before o records)) (next_at o records) (behind_record o records) c.in_ok-take_record.field-0 _ (asks o records)
    (both_told _ _ _ _ (record_at (before o records)) c.in_ok-take_record.field-0 c.in_ok-take_record.field-0 (c.in_ok-take_record.ensures.read (before o records) seen kind top verified) (c.in_ok-take_record.ensures.compared (before o records) seen kind top verified))
    (λ r told. let goes : nat_eq r.type 0 ≡ false = ne_eqb r.type 0 (λ is. c.if-branch-ne-END.true (told.0.1 ∙ is)) in
    done _ _ (λ i. behind_record o records (r, i)) false r (not_last o records r goes)
    (subst (λ k. IsCompared g.F.KeepsFrames.compares g.F.KeepsFrames.notes g.F.KeepsFrames.kept c.args.keeper.now (g.S.Source.left c.args.src.now) c.args.guest.now.frames (λ frames. c.take_record.new.differs ≡ differs_behind k frames c.args.differs.now r)) kind told.1))

pub returns-in-Err-Fault-clause-compared : goal.returns-in-Err-Fault-clause-compared
returns-in-Err-Fault-clause-compared g c = λ o records seen guest verified. any_stop _ _ _ _ _ _ (returns-in-Err-Fault-clause-read g c o records seen guest verified)

pub returns-in-Ok-clause-compared : goal.returns-in-Ok-clause-compared
returns-in-Ok-clause-compared g c = λ o records seen guest verified.
    let kind = guest_kind g.F.KeepsFrames.kept _ o records guest in let top = guest_top g.F.KeepsFrames.kept _ o records guest in
    then_reads _ _ _ _ _ (record_at (before o records)) (next_at o records) (behind_record o records) c.in_ok-take_record.field-0 _ (asks o records)
    (both_told _ _ _ _ (record_at (before o records)) c.in_ok-take_record.field-0 c.in_ok-take_record.field-0 (c.in_ok-take_record.ensures.read (before o records) seen kind top verified) (c.in_ok-take_record.ensures.compared (before o records) seen kind top verified))
    (λ r told. let zero : r.type ≡ 0 = sym told.0.1 ∙ c.if-branch-ne-END.false in
    done _ _ (λ i. behind_record o records (r, i)) true r
    (last_fine o records r zero (c.in-Ok.ensures.ok (sent o.kind (records ++ r ∷ [])) (kept_more g.F.KeepsFrames.kept g.F.KeepsFrames.put c.goes_on.ensures.entry c.args.guest.now _ o.kind records r guest told.0.0)))
    (subst (λ k. IsCompared g.F.KeepsFrames.compares g.F.KeepsFrames.notes g.F.KeepsFrames.kept c.args.keeper.now (g.S.Source.left c.args.src.now) c.args.guest.now.frames (λ frames. c.take_record.new.differs ≡ differs_behind k frames c.args.differs.now r)) kind told.1))
