use Rattle.mig_restore.proofs.Common.{AgreesWithJudging, subst, ℕ, Content, NotesOn, pages_at, placed_content, put_frames, ◌≡◌, ◌≢◌, true, false, sym, ap, ◌∙◌, body_at, body_said, put_content_by, IsCompared, differing, checked_in}
use Rattle.mig_restore.proofs.Compared.{judged_too, none_compared, pages_put, told_judged}
use Rattle.mig_restore.proofs.Noted.{checked_stays, placed_same, still}
use Rattle.mig_restore.proofs.Fronts.{front_pages}
use Rattle.mig_restore.proofs.check.take_placed.Goals as goal
use Rattle.mig_restore.proofs.check.take_placed.Goals.{else-verified-via-then-verified+else-head-eq-PAGE_DATA, else-verified-via-else-verified}

pub returns-clause-read : goal.returns-clause-read
returns-clause-read g c =
    let other : c.args.verified ≡ true → c.args.head.kind ≢ 1 = elim c.else-verified.branch [
      | else-verified-via-then-verified+else-head-eq-PAGE_DATA w ↦ λ _. w.if-head-eq-PAGE_DATA.false
      | else-verified-via-else-verified w ↦ λ is. let no : true ≡ false = sym is ∙ w.if-verified.false in absurd (cc)
    ] in
    let kind = c.args.guest.now.kind in let top = c.args.guest.now.top in let len = c.args.head.len in
    judged_too _ (λ (_ : ℕ) a. c.take_body.new.guest ≡ put_content_by g.F.KeepsFrames.put c.args.guest.now (placed_content c.args.verified a)) _ _ (body_at kind top c.args.head.kind len) _ 0
    (λ i rest a judged put. put ∙ ap (put_content_by g.F.KeepsFrames.put c.args.guest.now) (sym (placed_same c.args.verified c.args.head.kind a other (body_said c.args.head.kind kind top len i a rest judged)))) c.in_ok-take_body.ensures.read

pub returns-clause-compared : goal.returns-clause-compared
returns-clause-compared g c =
    let other : c.args.verified ≡ true → c.args.head.kind ≢ 1 = elim c.else-verified.branch [
      | else-verified-via-then-verified+else-head-eq-PAGE_DATA w ↦ λ _. w.if-head-eq-PAGE_DATA.false
      | else-verified-via-else-verified w ↦ λ is. let no : true ≡ false = sym is ∙ w.if-verified.false in absurd (cc)
    ] in
    let kind = c.args.guest.now.kind in let top = c.args.guest.now.top in let len = c.args.head.len in
    judged_too _ (λ (n : ℕ) a. IsCompared g.F.KeepsFrames.compares g.F.KeepsFrames.notes g.F.KeepsFrames.kept c.args.keeper.now (g.S.Source.left c.args.src.now) c.args.guest.now.frames (λ frames. n ≡ differing kind frames (checked_in (placed_content c.args.verified a)))) _ _ (body_at kind top c.args.head.kind len) _ 0
    (λ i rest a judged _. let said = body_said c.args.head.kind kind top len i a rest judged in
    none_compared g.F.KeepsFrames.compares g.F.KeepsFrames.notes g.F.KeepsFrames.kept c.args.keeper.now (g.S.Source.left c.args.src.now) c.args.guest.now.frames kind a (placed_content c.args.verified a) (placed_same c.args.verified c.args.head.kind a other said) said.unchecked) c.in_ok-take_body.ensures.read

pub returns-then-head-eq-PAGE_DATA-clause-read : goal.returns-then-head-eq-PAGE_DATA-clause-read
returns-then-head-eq-PAGE_DATA-clause-read g c =
    let guest = c.args.guest.now in let kind = guest.kind in let top = guest.top in let len = c.args.head.len in let put = g.F.KeepsFrames.put in
    let old = g.S.Source.left c.args.src.now in let new = g.S.Source.left c.check_pages.new.src in
    subst (λ v. AgreesWithJudging {X = ℕ} (λ _ said. guest ≡ put_content_by put guest (placed_content v said)) old new (body_at kind top c.args.head.kind len) c.check_pages.result) (sym c.if-verified.true)
    (subst (λ type. AgreesWithJudging {X = ℕ} (λ _ said. guest ≡ put_content_by put guest (placed_content true said)) old new (body_at kind top type len) c.check_pages.result) (sym c.if-head-eq-PAGE_DATA.true)
    (told_judged _ (λ (_ : ℕ) said. guest ≡ put_content_by put guest (placed_content true said)) old new (pages_at kind top len) c.check_pages.result (λ i rest n said judged _. pages_put put kind top len guest i rest said judged) c.check_pages.ensures.read))

pub returns-then-head-eq-PAGE_DATA-clause-compared : goal.returns-then-head-eq-PAGE_DATA-clause-compared
returns-then-head-eq-PAGE_DATA-clause-compared g c =
    let guest = c.args.guest.now in let kind = guest.kind in let top = guest.top in let len = c.args.head.len in let keeper = c.args.keeper.now in
    let old = g.S.Source.left c.args.src.now in let new = g.S.Source.left c.check_pages.new.src in
    subst (λ v. AgreesWithJudging {X = ℕ} (λ n said. IsCompared g.F.KeepsFrames.compares g.F.KeepsFrames.notes g.F.KeepsFrames.kept keeper old guest.frames (λ frames. n ≡ differing kind frames (checked_in (placed_content v said)))) old new (body_at kind top c.args.head.kind len) c.check_pages.result) (sym c.if-verified.true)
    (subst (λ type. AgreesWithJudging {X = ℕ} (λ n said. IsCompared g.F.KeepsFrames.compares g.F.KeepsFrames.notes g.F.KeepsFrames.kept keeper old guest.frames (λ frames. n ≡ differing kind frames (checked_in (placed_content true said)))) old new (body_at kind top type len) c.check_pages.result) (sym c.if-head-eq-PAGE_DATA.true)
    c.check_pages.ensures.read)

pub returns-clause-noted : goal.returns-clause-noted
returns-clause-noted g c =
    let other : c.args.verified ≡ true → c.args.head.kind ≢ 1 = elim c.else-verified.branch [
      | else-verified-via-then-verified+else-head-eq-PAGE_DATA w ↦ λ _. w.if-head-eq-PAGE_DATA.false
      | else-verified-via-else-verified w ↦ λ is. let no : true ≡ false = sym is ∙ w.if-verified.false in absurd (cc)
    ] in
    let kind = c.args.guest.now.kind in
    judged_too _ (λ (_ : ℕ) a. NotesOn g.F.KeepsFrames.notes c.args.keeper.now c.take_body.new.keeper (g.S.Source.left c.args.src.now) (g.S.Source.left c.take_body.new.src) (put_frames kind (placed_content c.args.verified a))) _ _ (body_at kind c.args.guest.now.top c.args.head.kind c.args.head.len) _ 0
    (λ i rest a judged noted. subst (λ (d : Content). NotesOn g.F.KeepsFrames.notes c.args.keeper.now c.take_body.new.keeper (g.S.Source.left c.args.src.now) (g.S.Source.left c.take_body.new.src) (put_frames kind d))
    (sym (placed_same c.args.verified c.args.head.kind a other (body_said c.args.head.kind kind c.args.guest.now.top c.args.head.len i a rest judged))) noted) c.in_ok-take_body.ensures.noted

pub returns-then-head-eq-PAGE_DATA-clause-noted : goal.returns-then-head-eq-PAGE_DATA-clause-noted
returns-then-head-eq-PAGE_DATA-clause-noted g c =
    let kind = c.args.guest.now.kind in let top = c.args.guest.now.top in let len = c.args.head.len in let keeper = c.args.keeper.now in
    let old = g.S.Source.left c.args.src.now in let new = g.S.Source.left c.check_pages.new.src in
    subst (λ v. AgreesWithJudging {X = ℕ} (λ _ said. NotesOn g.F.KeepsFrames.notes keeper keeper old new (put_frames kind (placed_content v said))) old new (body_at kind top c.args.head.kind len) c.check_pages.result) (sym c.if-verified.true)
    (subst (λ type. AgreesWithJudging {X = ℕ} (λ _ said. NotesOn g.F.KeepsFrames.notes keeper keeper old new (put_frames kind (placed_content true said))) old new (body_at kind top type len) c.check_pages.result) (sym c.if-head-eq-PAGE_DATA.true)
    (still g.F.KeepsFrames.notes c.goes_on.ensures.read_on _ keeper old new (pages_at kind top len) (λ said. put_frames kind (placed_content true said)) c.check_pages.result (front_pages kind top len) (λ i rest said judged frames. checked_stays kind top len frames said) c.check_pages.ensures.read))
