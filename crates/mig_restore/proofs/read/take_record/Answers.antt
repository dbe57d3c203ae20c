use Rattle.mig_restore.proofs.Common.{NotesOn, put_frames, differs_behind, subst, ◌≡◌, refl, rules, ◌∙◌, padding_len, part, Passes, is_verified, placed_content, mapped, then_reads, stopped, Truncated, head_at, body_at, record_at, behind_body, behind_head, begins, goes_on, padded, front_part}
use Rattle.mig_restore.proofs.Compared.{counts_on, record_compared, record_told}
use Rattle.mig_restore.proofs.Noted.{noted_then, stops, then_compared, then_noted}
use Rattle.mig_restore.proofs.Fronts.{front_head}
use Rattle.mig_restore.proofs.read.take_record.Goals as goal

pub returns-in_err-head-clause-read : goal.returns-in_err-head-clause-read
returns-in_err-head-clause-read g c = λ b seen kind top verified.
    stopped _ _ _ _ (head_at b) (record_at b) (behind_head b) c.in_err-head.field-0.0 c.from_residual.result (begins b) (search rules) (c.in_err-head.ensures.read b seen)

pub returns-in_err-differ-clause-read : goal.returns-in_err-differ-clause-read
returns-in_err-differ-clause-read g c = λ b seen kind top verified.
    then_reads _ _ _ _ _ (head_at b) (record_at b) (behind_head b) c.in_ok-head.head c.from_residual-in_err-differ.result (begins b) (c.in_ok-head.ensures.read b seen)
    (λ head is. stopped _ _ _ _ (body_at c.args.guest.now.kind c.args.guest.now.top c.in_ok-head.head.kind c.in_ok-head.head.len) (λ i. behind_head b (head, i)) (behind_body b head) c.in_err-differ.field-0.0 c.from_residual-in_err-differ.result
    (goes_on b head c.in_ok-head.head c.args.guest.now.kind c.args.guest.now.top is kind top) (search rules) c.in_err-differ.ensures.read)

pub returns-in_err-take_padding-clause-read : goal.returns-in_err-take_padding-clause-read
returns-in_err-take_padding-clause-read g c = λ b seen kind top verified.
    then_reads _ _ _ _ _ (head_at b) (record_at b) (behind_head b) c.in_ok-head.head c.from_residual-in_err-take_padding.result (begins b) (c.in_ok-head.ensures.read b seen)
    (λ head is. then_reads _ _ _ _ _ (body_at c.args.guest.now.kind c.args.guest.now.top c.in_ok-head.head.kind c.in_ok-head.head.len) (λ i. behind_head b (head, i)) (behind_body b head) _ c.from_residual-in_err-take_padding.result
    (goes_on b head c.in_ok-head.head c.args.guest.now.kind c.args.guest.now.top is kind top) c.in_ok-differ.ensures.read
    (λ r _. stopped _ _ _ _ (part Truncated (padding_len c.in_ok-head.head.len)) (λ i. behind_body b head (r, i)) (λ padding. Passes (record { type = c.in_ok-head.head.kind; content = placed_content (is_verified b.types) r }) padding.1) c.in_err-take_padding.field-0.0 c.from_residual-in_err-take_padding.result
    (padded b head c.in_ok-head.head r is) (search rules) c.in_err-take_padding.ensures.read))

pub returns-clause-read : goal.returns-clause-read
returns-clause-read g c = λ b seen kind top verified.
    then_reads _ _ _ _ _ (head_at b) (record_at b) (behind_head b) c.in_ok-head.head _ (begins b) (c.in_ok-head.ensures.read b seen)
    (λ head is. then_reads _ _ _ _ _ (body_at c.args.guest.now.kind c.args.guest.now.top c.in_ok-head.head.kind c.in_ok-head.head.len) (λ i. behind_head b (head, i)) (behind_body b head) _ _
    (goes_on b head c.in_ok-head.head c.args.guest.now.kind c.args.guest.now.top is kind top) c.in_ok-differ.ensures.read
    (λ r told. mapped _ _ _ _ (part Truncated (padding_len c.in_ok-head.head.len)) (λ i. behind_body b head (r, i)) (λ _. record { type = c.in_ok-head.head.kind; content = placed_content (is_verified b.types) r }) _ _
    (padded b head c.in_ok-head.head r is) c.in_ok-take_padding.ensures.read (λ _ _. (record_told g.F.KeepsFrames.put c.args.guest.now c.take_placed.new.guest c.is_some.result (is_verified b.types) r (c.is_some.ensures ∙ verified) told, refl, counts_on c.args.differs.now _ c.in_ok-head.head.kind _ c.counted.ensures))))

pub returns-in_err-head-clause-noted : goal.returns-in_err-head-clause-noted
returns-in_err-head-clause-noted g c = λ b seen kind top verified.
    stops _ _ (λ s. s ≡ c.in_err-head.field-0.0) _ _ _ c.from_residual.result (search rules) (returns-in_err-head-clause-read g c b seen kind top verified)

pub returns-in_err-differ-clause-noted : goal.returns-in_err-differ-clause-noted
returns-in_err-differ-clause-noted g c = λ b seen kind top verified.
    stops _ _ (λ s. s ≡ c.in_err-differ.field-0.0) _ _ _ c.from_residual-in_err-differ.result (search rules) (returns-in_err-differ-clause-read g c b seen kind top verified)

pub returns-in_err-take_padding-clause-noted : goal.returns-in_err-take_padding-clause-noted
returns-in_err-take_padding-clause-noted g c = λ b seen kind top verified.
    stops _ _ (λ s. s ≡ c.in_err-take_padding.field-0.0) _ _ _ c.from_residual-in_err-take_padding.result (search rules) (returns-in_err-take_padding-clause-read g c b seen kind top verified)

pub returns-clause-noted : goal.returns-clause-noted
returns-clause-noted g c = λ b seen kind top verified.
    let keeper = c.args.keeper.now in let new = c.take_placed.new.keeper in
    let first = g.S.Source.left c.read_head.new.src in let behind = g.S.Source.left c.take_placed.new.src in
    let is_verified_too : c.is_some.result ≡ is_verified b.types = c.is_some.ensures ∙ verified in
    then_noted g.F.KeepsFrames.notes c.goes_on.ensures.read_on _ keeper new _ first _ (head_at b) (record_at b) (behind_head b) (λ r. put_frames c.args.guest.now.kind r.content) c.in_ok-head.head _ (front_head b) (begins b) (c.in_ok-head.ensures.read b seen)
    (λ head is. then_reads _ _ _ _ _ (body_at c.args.guest.now.kind c.args.guest.now.top c.in_ok-head.head.kind c.in_ok-head.head.len) (λ i. behind_head b (head, i)) (behind_body b head) _ _
    (goes_on b head c.in_ok-head.head c.args.guest.now.kind c.args.guest.now.top is kind top) c.in_ok-differ.ensures.noted
    (λ r noted. noted_then g.F.KeepsFrames.notes c.goes_on.ensures.read_on _ keeper new first behind _ (part Truncated (padding_len c.in_ok-head.head.len)) (λ i. behind_body b head (r, i)) (λ _. record { type = c.in_ok-head.head.kind; content = placed_content (is_verified b.types) r }) (λ r. put_frames c.args.guest.now.kind r.content) _ _
    (front_part Truncated (padding_len c.in_ok-head.head.len)) (padded b head c.in_ok-head.head r is) (λ _. subst (λ v. NotesOn g.F.KeepsFrames.notes keeper new first behind (put_frames c.args.guest.now.kind (placed_content v r))) is_verified_too noted) c.in_ok-take_padding.ensures.read))

pub returns-in_err-head-clause-compared : goal.returns-in_err-head-clause-compared
returns-in_err-head-clause-compared g c = λ b seen kind top verified.
    stops _ _ (λ s. s ≡ c.in_err-head.field-0.0) _ _ _ c.from_residual.result (search rules) (returns-in_err-head-clause-read g c b seen kind top verified)

pub returns-in_err-differ-clause-compared : goal.returns-in_err-differ-clause-compared
returns-in_err-differ-clause-compared g c = λ b seen kind top verified.
    stops _ _ (λ s. s ≡ c.in_err-differ.field-0.0) _ _ _ c.from_residual-in_err-differ.result (search rules) (returns-in_err-differ-clause-read g c b seen kind top verified)

pub returns-in_err-take_padding-clause-compared : goal.returns-in_err-take_padding-clause-compared
returns-in_err-take_padding-clause-compared g c = λ b seen kind top verified.
    stops _ _ (λ s. s ≡ c.in_err-take_padding.field-0.0) _ _ _ c.from_residual-in_err-take_padding.result (search rules) (returns-in_err-take_padding-clause-read g c b seen kind top verified)

pub returns-clause-compared : goal.returns-clause-compared
returns-clause-compared g c = λ b seen kind top verified.
    let compares = g.F.KeepsFrames.compares in let notes = g.F.KeepsFrames.notes in let kept = g.F.KeepsFrames.kept in let keeper = c.args.keeper.now in
    let there = c.args.guest.now.frames in let first = g.S.Source.left c.read_head.new.src in
    then_compared notes c.goes_on.ensures.read_on compares kept there (λ _ r frames. _ ≡ differs_behind c.args.guest.now.kind frames c.args.differs.now r) _ keeper _ first _ (head_at b) (record_at b) (behind_head b) c.in_ok-head.head _ (front_head b) (begins b) (c.in_ok-head.ensures.read b seen)
    (λ head is. then_reads _ _ _ _ _ (body_at c.args.guest.now.kind c.args.guest.now.top c.in_ok-head.head.kind c.in_ok-head.head.len) (λ i. behind_head b (head, i)) (behind_body b head) _ _
    (goes_on b head c.in_ok-head.head c.args.guest.now.kind c.args.guest.now.top is kind top) c.in_ok-differ.ensures.compared
    (λ r told. mapped _ _ _ _ (part Truncated (padding_len c.in_ok-head.head.len)) (λ i. behind_body b head (r, i)) (λ _. record { type = c.in_ok-head.head.kind; content = placed_content (is_verified b.types) r }) _ _
    (padded b head c.in_ok-head.head r is) c.in_ok-take_padding.ensures.read
    (λ _ _. record_compared compares notes kept keeper first there c.args.guest.now.kind c.is_some.result (is_verified b.types) c.args.differs.now _ _ c.in_ok-head.head.kind r (c.is_some.ensures ∙ verified) c.counted.ensures told)))
