-- `pop` moves the last page out, and its place is room. Assumes `Logic`.
use Rattle.mig_pagestore.proofs.Steps.{◌≡◌, ℕ, suc, ◌+◌, ◌-◌, ◌*◌, ◌<◌, ◌≤◌, ◌^◌, List, [], ◌∷◌, length, length-append, refl, sym, ap, ◌∙◌, lit<, w8, w64, arith, proved, after, full_share, id⊢, never, ftrue, fat, froom, flft, named, Val, fact, tables, ‵, raw, ◌⊛◌, some, at_ret, ◌$◌, ◌∵◌, !, qed, move, keep, use1, use2, pick, split, join, fsplit, fsplit3, fjoin, fjoin3, feq_i, feq_l, rewrite, suffices, frame, done, whole, sub, enter, of_opd, bin, load, look, stop, fld, first, blocks, exec, returns, alloc_all, pass_all, free_all, look_at, get, get_in, through, sets, sets_last, take_at, give_at, env, yes, owns, lone, part_at, row, Array-Lawful, uint_Lawful, uint_vals, uint_Tells, u8, usize, Ptr, in_a_block, MutRef, mut_vals, mut_Tells, plain, nothing, opens, closes, heard, peeks, Is, shows, Stays, walk_of, says, stay_dropped, stay_ref, Goes-dropped, Goes-ref, ends_at, block, cells_own, Base, Cells, lowers, word, word-Good, Page, page, big, cut_end, unsnoc, part_out}
use Rattle.mig_pagestore.specs.contracts.cells.Cells.pop as f
use Rattle.mig_pagestore.proofs.cells.Cells.pop.Statement.{statement}
use Rattle.mig_pagestore.proofs.cells.Cells.pop.Code as code

abbrev stayed : Stays f.ended.signature.params f.ended.kept
stayed = (stay_ref (0 ∷ []) tt (plain (λ _. Cells)), (stay_dropped (plain (λ _. Base)) yes, (stay_dropped (plain (λ _. usize)) yes, tt)))

pub pop_spec : {M : Type 1} → statement M
pop_spec 𝓤 𝓛 𝓜 𝓡 wired =
    let c = f.clauses 𝓛 𝓜.mem 𝓡.returns in let W = walk_of 𝓛 f.ended stayed c in let 𝓣 = tables 𝓤 𝓛.H 𝓜 𝓡 𝓡.env in
    proved 𝓛 f.ended stayed c 𝓜 𝓡 (Goes-ref 𝓛 1 0 tt (plain (λ _. Cells)), (Goes-dropped 𝓛 1 (plain (λ _. Base)) yes (λ κs x w. refl), (Goes-dropped 𝓛 1 (plain (λ _. usize)) yes (λ κs x w. refl), tt)))
    f.Key.name code.function (code.unfolded 𝓤 𝓛.H 𝓜 𝓡 wired)
    (λ κs. (mut_vals, ((λ x. lowers.lowered x ∷ []), (uint_vals w64, tt)))) (λ κs. (mut_Tells (named 0) κs.0 Cells, (lowers.val_is, (uint_Tells w64, tt))))
    (λ κs qs bounds a _ are.
    let κ = κs.0 in let q = qs.0 in let d = a.0.now in let ps = d.pages in let len = a.1.1.0 in let rb = a.0.ref_ptr.0 in let ro = a.0.ref_ptr.1 in
    let y : W.Ghost = ((κs, qs, bounds, a, (mut_vals a.0, (lowers.lowered a.1.0 ∷ [], (uint_vals w64 len, tt)))), tt) in
    let Asked : Type 0 = (a.1.0.ptr ≡ d.at) × (length ps ≡ len + 1) × (len < d.places) × (d.places ≤ 16384) in
    qed 𝓛 (((‵ (flft κ q) ⊛ ‵ ftrue) ⊛ ‵ (owns (MutRef (named 0) κ Cells ∷ Base ∷ usize ∷ []) a y.0.4)) ∷ raw (fact 𝓤 Asked) ∷ []) ∵
    move ! (1 ∷ []) $ heard ! Asked (λ asked. split ! $ split ! $ move ! (2 ∷ []) $ fsplit ! $ fsplit3 ! $ feq_l ! (λ _. keep ! (0 ∷ 1 ∷ 3 ∷ []) $
    let fits : len < 2 ^ 64 = omega (arith, asked.2, asked.3) in let far : len * 4096 < 2 ^ 64 = omega (arith, asked.2, asked.3) in
    let cut = cut_end ps (omega (arith, asked.1)) in let us = cut.0 in let p = cut.1 in
    let long : length us ≡ len = omega (arith, asked.1, ap length cut.2, length-append us (p ∷ [])) in
    enter ! _ _ _ _ _ $ alloc_all ! (λ l. pass_all ! refl ((tt, tt), (word-Good [] a.1.0.ptr, ((tt, record { fits = fits }), tt))) $
    opens ! tt Cells {h = d} rb ro (λ vs. move ! (1 ∷ []) $ fsplit ! $ move ! (1 ∷ []) $
    in_a_block ! d.at (λ p. cells_own d.places p ps) (id⊢ 𝓤 (never 𝓤)) (λ b o e. fsplit ! $
    take_at ! 2 $ rewrite ! 0 (λ (p : Ptr). ‵ (fat full_share (lone Base.mir) (l 2) 0 (word p))) (asked.0 ∙ e) refl $ give_at ! 2 $
    let at = len * 4096 + o in let m = d.places - length ps in let more : suc m ≡ d.places - length us = omega (arith, long, asked.1, asked.2) in
    rewrite ! 0 (λ (l : List (List ℕ)). ‵ (row Page full_share l b o)) cut.2 refl $
    use1 𝓛 (‵ (part_at Page full_share p b at) ⊛ ‵ (row Page full_share us b o)) (unsnoc 𝓛 b us p o at (ap (λ k. k * 4096 + o) (sym long))) $ split ! $
    use1 𝓛 (some (λ (v : Val). ‵ (fat full_share page b at v) ⊛ ‵ (Page.own_val p (v ∷ [])))) (part_out 𝓛 Page refl full_share p b at) $ pick ! (λ v. split ! $
    move ! (1 ∷ []) $
    peeks ! Page (Is Page) (shows 𝓛 Page) p (v ∷ []) (λ is. move ! (1 ∷ []) $ let good = ((Array-Lawful 𝓛 u8 (uint_Lawful 𝓛 w8) 4096).typed p (v ∷ []) is).0 in
    first ! $ blocks ! $ sets ! (bin ! (get ! refl) (big ! (record { fits = lit< tt })) (record { fits = far })) refl (tt, record { fits = far }) $
    sets ! (bin ! (get_in ! (fld ! refl (stop !)) (sub ! 0 refl (whole !))) (get ! refl) tt) refl (tt, tt) $
    sets_last ! (of_opd ! (load ! (through ! refl (stop !)) (look ! 0 refl))) refl good $
    exec ! 𝓣.C 𝓣.Λ (env code.Mir.locals l) (after 1 (code.function).body) (at_ret _ (W.post y)) $ sets ! (of_opd ! (get ! refl)) refl good $
    -- [the last page's cell; what it owns; the pages; the room; the mark; its cell; the open borrow; obs; auth]
    use1 𝓛 (‵ (froom page b at)) (𝓛.laws.at_room page b at v) $ move ! (3 ∷ []) $
    rewrite ! 0 (λ (k : ℕ). ‵ (froom (block m) b k)) {x = at + 4096} (omega (arith, asked.1)) refl $
    move ! (1 ∷ 0 ∷ []) $ use2 𝓛 (‵ (froom (block (suc m)) b at)) (𝓛.laws.room_cons page m b at) $
    rewrite ! 0 (λ (k : ℕ × ℕ). ‵ (froom (block k.0) b (k.1 * 4096 + o))) {x = (d.places - length us, length us)} (λ i. (more i, sym long i)) refl $
    move ! (2 ∷ 0 ∷ []) $ fjoin ! $
    rewrite ! 0 (λ (p : Ptr). ‵ (cells_own d.places p us)) (sym e) refl $ move ! (2 ∷ 0 ∷ []) $ fjoin ! $ move ! (2 ∷ 0 ∷ 3 ∷ 4 ∷ 5 ∷ []) $
    closes ! tt Cells (record d { pages = us }) vs rb ro $
    returns ! (look_at ! 0 refl) $ free_all ! refl $ keep ! (0 ∷ 1 ∷ 2 ∷ 3 ∷ []) $
    suffices ! _ (ends_at 𝓛 f.ended stayed c y v p (record d { pages = us }, (tt, (tt, tt))) (tt, (tt, (tt, tt)))) $ says ! (refl, refl, cut.2) $
    nothing ! $ move ! (3 ∷ 0 ∷ []) $ join ! $ frame ! $ feq_i ! (List Val) (mut_vals a.0) (mut_vals a.0) refl $ fjoin3 ! $ nothing ! $ nothing ! $ fjoin ! $
    nothing ! $ fjoin ! $ move ! (1 ∷ 0 ∷ []) $ fjoin ! $ done !))))))))
