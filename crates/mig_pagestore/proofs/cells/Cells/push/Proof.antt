-- `push` fills the place behind the pages. Assumes `Logic`.
use Rattle.mig_pagestore.proofs.Steps.{◌≡◌, ℕ, suc, ◌+◌, ◌-◌, ◌*◌, ◌<◌, ◌≤◌, ◌^◌, List, [], ◌∷◌, ◌++◌, length, length-append, refl, sym, ap, ◌∙◌, lit<, w8, w64, arith, proved, after, full_share, id⊢, never, ftrue, fat, froom, flft, named, Val, vunit, fact, tables, ‵, raw, ◌⊛◌, at_ret, ◌$◌, ◌∵◌, !, qed, move, keep, drop, use1, use2, split, join, fsplit, fsplit3, fjoin, fjoin3, feq_i, feq_l, rewrite, suffices, frame, done, whole, sub, enter, of_opd, unit_lit, bin, init, stop, fld, assigns_last, first, blocks, exec, returns, alloc_all, pass_all, free_all, look_at, get, get_in, through, sets, take_at, give_at, env, yes, owns, lone, part_at, row, array_vals, Array-Tells, Array-Lawful, uint_Lawful, uint_vals, uint_Tells, u8, usize, Ptr, in_a_block, MutRef, mut_vals, mut_Tells, plain, ArrayOf, nothing, opens, closes, heard, Stays, walk_of, says, stay_dropped, stay_ref, Goes-dropped, Goes-ref, ends_at, block, cells_own, Base, Cells, lowers, word, word-Good, Page, page, big, snoc, part_in}
use Rattle.mig_pagestore.specs.contracts.cells.Cells.push as f
use Rattle.mig_pagestore.proofs.cells.Cells.push.Statement.{statement}
use Rattle.mig_pagestore.proofs.cells.Cells.push.Code as code

abbrev stayed : Stays f.ended.signature.params f.ended.kept
stayed = (stay_ref (0 ∷ []) tt (plain (λ _. Cells)), (stay_dropped (plain (λ _. Base)) yes, (stay_dropped (plain (λ _. usize)) yes, (stay_dropped (ArrayOf (plain (λ _. u8)) (λ _. tt) 4096) yes, tt))))

pub push_spec : {M : Type 1} → statement M
push_spec 𝓤 𝓛 𝓜 𝓡 wired =
    let c = f.clauses 𝓛 𝓜.mem 𝓡.returns in let W = walk_of 𝓛 f.ended stayed c in let 𝓣 = tables 𝓤 𝓛.H 𝓜 𝓡 𝓡.env in
    proved 𝓛 f.ended stayed c 𝓜 𝓡 (Goes-ref 𝓛 1 0 tt (plain (λ _. Cells)), (Goes-dropped 𝓛 1 (plain (λ _. Base)) yes (λ κs x w. refl), (Goes-dropped 𝓛 1 (plain (λ _. usize)) yes (λ κs x w. refl), (Goes-dropped 𝓛 1 (ArrayOf (plain (λ _. u8)) (λ _. tt) 4096) yes (λ κs x w. refl), tt))))
    f.Key.name code.function (code.unfolded 𝓤 𝓛.H 𝓜 𝓡 wired)
    (λ κs. (mut_vals, ((λ x. lowers.lowered x ∷ []), (uint_vals w64, (array_vals (uint_vals w8), tt)))))
    (λ κs. (mut_Tells (named 0) κs.0 Cells, (lowers.val_is, (uint_Tells w64, (Array-Tells u8 (uint_vals w8) (uint_Tells w8) 4096, tt)))))
    (λ κs qs bounds a _ are.
    let κ = κs.0 in let q = qs.0 in let d = a.0.now in let ps = d.pages in let len = a.1.1.0 in let p = a.1.1.1.0 in let rb = a.0.ref_ptr.0 in
    let ro = a.0.ref_ptr.1 in
    let y : W.Ghost = ((κs, qs, bounds, a, (mut_vals a.0, (lowers.lowered a.1.0 ∷ [], (uint_vals w64 len, (array_vals (uint_vals w8) p, tt))))), tt) in
    let good = ((Array-Lawful 𝓛 u8 (uint_Lawful 𝓛 w8) 4096).typed p _ are.1.1.1.0).0 in
    let Asked : Type 0 = (a.1.0.ptr ≡ d.at) × (len ≡ length ps) × (len < d.places) × (d.places ≤ 16384) in
    qed 𝓛 (((‵ (flft κ q) ⊛ ‵ ftrue) ⊛ ‵ (owns (MutRef (named 0) κ Cells ∷ Base ∷ usize ∷ Page ∷ []) a y.0.4)) ∷ raw (fact 𝓤 Asked) ∷ []) ∵
    move ! (1 ∷ []) $ heard ! Asked (λ asked. split ! $ split ! $ move ! (2 ∷ []) $ fsplit ! $ fsplit3 ! $ feq_l ! (λ _.
    move ! (2 ∷ []) $ fsplit ! $ drop ! $ fsplit ! $ drop ! $ fsplit ! $ keep ! (2 ∷ 3 ∷ 4 ∷ 0 ∷ []) $
    let fits : len < 2 ^ 64 = omega (arith, asked.2, asked.3) in let far : len * 4096 < 2 ^ 64 = omega (arith, asked.2, asked.3) in
    enter ! _ _ _ _ _ $ alloc_all ! (λ l. pass_all ! refl ((tt, tt), (word-Good [] a.1.0.ptr, ((tt, record { fits = fits }), (good, tt)))) $
    opens ! tt Cells {h = d} rb ro (λ vs. move ! (1 ∷ []) $ fsplit ! $ move ! (1 ∷ []) $
    in_a_block ! d.at (λ p. cells_own d.places p ps) (id⊢ 𝓤 (never 𝓤)) (λ b o e. fsplit ! $
    take_at ! 2 $ rewrite ! 0 (λ (p : Ptr). ‵ (fat full_share (lone Base.mir) (l 2) 0 (word p))) (asked.0 ∙ e) refl $ give_at ! 2 $
    let all = ps ++ p ∷ [] in let at = len * 4096 + o in let long = length-append ps (p ∷ []) in
    let more : d.places - length ps ≡ suc (d.places - length all) = omega (arith, long, asked.1, asked.2) in
    -- [the pages; the room; the mark; its cell; the open borrow; obs; auth; what the page owns]
    move ! (1 ∷ []) $ rewrite ! 0 (λ (k : ℕ × ℕ). ‵ (froom (block k.0) b (k.1 * 4096 + o))) {x = (suc (d.places - length all), len)} (λ i. (more i, sym asked.1 i)) refl $
    use1 𝓛 (‵ (froom page b at) ⊛ ‵ (froom (block (d.places - length all)) b (at + 4096))) (𝓛.laws.room_uncons page (d.places - length all) b at) $ split ! $
    first ! $ blocks ! $ sets ! (bin ! (get ! refl) (big ! (record { fits = lit< tt })) (record { fits = far })) refl (tt, record { fits = far }) $
    sets ! (bin ! (get_in ! (fld ! refl (stop !)) (sub ! 0 refl (whole !))) (get ! refl) tt) refl (tt, tt) $
    assigns_last ! (of_opd ! (get ! refl)) (through ! refl (stop !)) (init ! 0 refl good) $
    exec ! 𝓣.C 𝓣.Λ (env code.Mir.locals l) (after 1 (code.function).body) (at_ret _ (W.post y)) $ sets ! (of_opd ! (unit_lit !)) refl (tt, tt) $
    move ! (0 ∷ 8 ∷ []) $ use2 𝓛 (‵ (part_at Page full_share p b at)) (part_in 𝓛 Page refl full_share p b at _) $
    move ! (2 ∷ 0 ∷ []) $ use2 𝓛 (‵ (row Page full_share all b o)) (snoc 𝓛 b ps p o at (ap (λ k. k * 4096 + o) asked.1)) $
    move ! (1 ∷ []) $ rewrite ! 0 (λ (k : ℕ). ‵ (froom (block (d.places - length all)) b k)) {x = length all * 4096 + o} (omega (arith, long, asked.1)) refl $
    move ! (1 ∷ 0 ∷ []) $ fjoin ! $
    rewrite ! 0 (λ (p : Ptr). ‵ (cells_own d.places p all)) (sym e) refl $ move ! (1 ∷ 0 ∷ []) $ fjoin ! $ move ! (1 ∷ 0 ∷ []) $
    closes ! tt Cells (record d { pages = all }) vs rb ro $
    returns ! (look_at ! 0 refl) $ free_all ! refl $ keep ! (0 ∷ 1 ∷ 2 ∷ []) $
    suffices ! _ (ends_at 𝓛 f.ended stayed c y vunit tt (record d { pages = all }, (tt, (tt, (tt, tt)))) (tt, (tt, (tt, (tt, tt))))) $ says ! (refl, refl, refl) $
    feq_i ! (List Val) (vunit ∷ []) (vunit ∷ []) refl $ nothing ! $ move ! (4 ∷ 0 ∷ []) $ join ! $ move ! (2 ∷ 3 ∷ []) $
    feq_i ! (List Val) (mut_vals a.0) (mut_vals a.0) refl $ fjoin3 ! $
    nothing ! $ nothing ! $ fjoin ! $ nothing ! $ fjoin ! $ nothing ! $ fjoin ! $ move ! (1 ∷ 0 ∷ []) $ fjoin ! $ move ! (1 ∷ 0 ∷ 2 ∷ []) $ frame ! $ done !))))))
