-- `pages` shows the pages that the cells lend. Assumes `Logic`.
use Rattle.mig_pagestore.proofs.Steps.{◌≡◌, ℕ, ◌*◌, ◌<◌, ◌≤◌, ◌^◌, List, [], ◌∷◌, length, refl, ap, ◌∙◌, w64, arith, proved, after, id⊢, never, ftrue, flft, named, Val, vint, vptr, fact, tables, WpFn, ‵, raw, ◌⊛◌, prop, at_ret, ◌$◌, ◌∵◌, !, qed, move, keep, drop, split, join, fsplit, fjoin, feq_i, feq_l, flt_i, regoal, suffices, frame, done, whole, sub, agg, enter, of_opd, stop, fld, no_more, and_then, first, blocks, exec, returns, alloc_all, pass_all, free_all, look_at, get, get_in, sets, sets_last, env, owns, hide, unhide, uint_vals, uint_Tells, RefOf, usize, plain, Ptr, in_a_block, ShrRef, shr_vals, shr_Tells, slice_val, nothing, heard, Stays, walk_of, says, stay_dropped, Goes-dropped, ends_at, cells_lent, Base, Cells, lowers, word}
use Rattle.mig_pagestore.specs.contracts.cells.Cells.pages as f
use Rattle.mig_pagestore.proofs.cells.Cells.pages.Statement.{statement}
use Rattle.mig_pagestore.proofs.cells.Cells.pages.Code as code
use denote.Exit.{yes}

abbrev stayed : Stays f.ended.signature.params f.ended.kept
stayed = (stay_dropped _ yes, (stay_dropped _ yes, (stay_dropped _ yes, tt)))

pub pages_spec : {M : Type 1} → statement M
pages_spec 𝓤 𝓛 𝓜 𝓡 wired =
    let c = f.clauses 𝓛 𝓜.mem 𝓡.returns in let W = walk_of 𝓛 f.ended stayed c in let 𝓣 = tables 𝓤 𝓛.H 𝓜 𝓡 𝓡.env in
    proved 𝓛 f.ended stayed c 𝓜 𝓡 (Goes-dropped 𝓛 1 (RefOf (0 ∷ []) tt (plain (λ _. Cells)) (λ _. tt)) yes (λ κs x w. refl), (Goes-dropped 𝓛 1 (plain (λ _. Base)) yes (λ κs x w. refl), (Goes-dropped 𝓛 1 (plain (λ _. usize)) yes (λ κs x w. refl), tt)))
    f.Key.name code.function (code.unfolded 𝓤 𝓛.H 𝓜 𝓡 wired)
    (λ κs. (shr_vals, ((λ x. lowers.lowered x ∷ []), (uint_vals w64, tt)))) (λ κs. (shr_Tells (named 0) κs.0 Cells, (lowers.val_is, (uint_Tells w64, tt))))
    (λ κs qs bounds a _ are.
    let d = a.0.now in let len = a.1.1.0 in let rb = a.0.ref_ptr.0 in let ro = a.0.ref_ptr.1 in
    let y : W.Ghost = ((κs, qs, bounds, a, (shr_vals a.0, (lowers.lowered a.1.0 ∷ [], (uint_vals w64 len, tt)))), tt) in
    let Asked : Type 0 = (a.1.0.ptr ≡ d.at) × (len ≡ length d.pages) × (len ≤ 16384) in
    qed 𝓛 (((‵ (flft κs.0 qs.0) ⊛ ‵ ftrue) ⊛ ‵ (owns (ShrRef (named 0) κs.0 Cells ∷ Base ∷ usize ∷ []) a y.0.4)) ∷ raw (fact 𝓤 Asked) ∷ []) ∵
    move ! (1 ∷ []) $ heard ! Asked (λ asked. split ! $ split ! $ move ! (2 ∷ []) $ fsplit ! $ fsplit ! $ feq_l ! (λ _. keep ! (0 ∷ 2 ∷ []) $
    unhide ! $ fsplit ! $ drop ! $ in_a_block ! d.at (λ p. cells_lent p d.pages κs.0) (id⊢ 𝓤 (never 𝓤)) (λ b o e.
    let fits : len < 2 ^ 64 = omega (arith, asked.2) in let at : ℕ × ℕ = (b, o) in let long = asked.1 in let few = asked.2 in
    regoal ! (λ (p : Ptr). prop (WpFn 𝓤 𝓛.H 𝓣.C 𝓣.Λ code.function (vptr rb ro ∷ word p ∷ vint w64 len ∷ []) (W.post y))) (asked.0 ∙ e) refl $
    enter ! _ _ _ _ _ $ alloc_all ! (λ l. pass_all ! refl ((tt, tt), ((tt, (tt, tt)), ((tt, record { fits = fits }), tt))) $ hide ! $
    first ! $ blocks ! $
    sets_last ! (agg ! (and_then ! (get_in ! (fld ! refl (stop !)) (sub ! 0 refl (whole !))) (and_then ! (get ! refl) (no_more !)))) refl (tt, (tt, (record { fits = fits }, tt))) $
    exec ! 𝓣.C 𝓣.Λ (env code.Mir.locals l) (after 1 (code.function).body) (at_ret _ (W.post y)) $
    sets ! (of_opd ! (get ! refl)) refl (tt, (tt, (record { fits = fits }, tt))) $
    flt_i ! (length d.pages * 4096) (2 ^ 63) (omega arith) $ flt_i ! (length d.pages) (2 ^ 64) (omega arith) $ fjoin ! $
    feq_i ! (List Val) (slice_val at len ∷ []) (slice_val at (length d.pages) ∷ []) (ap (λ k. slice_val at k ∷ []) long) $ fjoin ! $ fjoin ! $
    returns ! (look_at ! 0 refl) $ free_all ! refl $ move ! (1 ∷ []) $
    suffices ! _ (ends_at 𝓛 f.ended stayed c y (slice_val at len) (record { ref_ptr = at; now = d.pages }) (tt, (tt, (tt, tt))) (tt, (tt, (tt, tt)))) $
    says ! refl $
    nothing ! $ move ! (1 ∷ 0 ∷ []) $ join ! $ frame ! $ nothing ! $ nothing ! $ fjoin ! $ nothing ! $ fjoin ! $ nothing ! $ fjoin ! $ done !)))))
