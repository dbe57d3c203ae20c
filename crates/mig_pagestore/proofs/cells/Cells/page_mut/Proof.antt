-- `page_mut` lends one page, and the cells follow it. Assumes `Logic`.
use Rattle.mig_pagestore.proofs.Steps.{◌≡◌, ℕ, ◌+◌, ◌-◌, ◌*◌, ◌<◌, ◌≤◌, ◌^◌, List, [], ◌∷◌, length, set, get_or, length-set, refl, sym, ◌∙◌, lit<, w64, arith, proved, after, full_share, ent, sep, id⊢, never, Fml, ftrue, fsep, fat, froom, flft, named, Val, vptr, fact, tables, Logic, sem, ‵, raw, ◌⊛◌, some, later, at_ret, ◌$◌, ◌∵◌, !, qed, move, keep, use1, use2, split, join, fsplit, fsplit3, fjoin, fjoin3, fpack, feq_l, pick, await, rewrite, suffices, frame, group, done, whole, sub, enter, of_opd, bin, stop, fld, first, blocks, exec, returns, alloc_all, pass_all, free_all, look_at, get, get_in, through, sets, sets_last, take_at, give_at, env, yes, no, owns, lone, mem, part_at, cell_at, row, uint_vals, uint_Tells, usize, Ptr, block_ptr, in_a_block, MutRef, mut_vals, mut_Tells, plain, mut_ref_to, nothing, opens, heard, Stays, walk_of, says, stay_dropped, Goes-dropped, Goes-spent_ref, ends_at, block, cells_own, Base, Cells, lowers, Mark, word, word-Good, Page, big}
use Rattle.mig_pagestore.proofs.SlabCommon.{Ura, GName, addr, place_is, others, takes, puts, shares}
use denote.Follow.{follows, lends_Part}
use denote.Memory.{part_of}
use Rattle.mig_pagestore.specs.Lends.{with_slab_page}
use Rattle.mig_pagestore.specs.contracts.cells.Cells.page_mut as f
use Rattle.mig_pagestore.proofs.cells.Cells.page_mut.Statement.{statement}
use Rattle.mig_pagestore.proofs.cells.Cells.page_mut.Code as code

abbrev stayed : Stays f.ended.signature.params f.ended.kept
stayed = (stay_dropped (mut_ref_to (0 ∷ []) tt (plain (λ _. Cells))) no, (stay_dropped (plain (λ _. Base)) yes, (stay_dropped (plain (λ _. usize)) yes, tt)))

module _ {M : Type 1} {𝓤 : Ura M} (𝓛 : Logic 𝓤) (d : Cells.Denot) (i : ℕ) (vs : List Val) (rb ro b o : ℕ) where
  -- all but the page
  abbrev Rest : Fml
  Rest = fsep (others (shares Page) full_share d.pages i b o)
      (fsep (froom (block (d.places - length d.pages)) b (length d.pages * 4096 + o)) (fsep (Mark.own_val (tt, tt) vs) (cell_at full_share Cells.mir vs rb ro)))

  back : d.at ≡ block_ptr b o → i < length d.pages → (w : List ℕ)
      → ent 𝓤 (sep 𝓤 (sem 𝓛 ((mem Page).own_at w b (i * 4096 + o))) (sem 𝓛 Rest)) (sem 𝓛 ((mem Cells).own_at (with_slab_page d i w) rb ro))
  unfolding part_of
  back e lt w =
      let ws = set d.pages i w in
      qed 𝓛 (‵ (part_at Page full_share w b (i * 4096 + o)) ∷ ‵ Rest ∷ []) ∵ rewrite ! 0 (λ (k : ℕ). ‵ (part_at Page full_share w b k))
      (sym (place_is 4096 o i)) refl $ move ! (1 ∷ []) $ fsplit3 ! $
      move ! (3 ∷ 0 ∷ []) $ use2 𝓛 (‵ (row Page full_share ws b o)) (puts (shares Page) full_share 𝓛 d.pages i w b o lt) $
      move ! (1 ∷ []) $ rewrite ! 0 (λ (k : ℕ). ‵ (froom (block (d.places - k)) b (k * 4096 + o))) (sym (length-set d.pages i w)) refl $ move ! (1 ∷ 0 ∷ []) $ fjoin ! $
      rewrite ! 0 (λ (p : Ptr). ‵ (cells_own d.places p ws)) (sym e) refl $ move ! (1 ∷ []) $ fsplit ! $ move ! (0 ∷ 2 ∷ []) $ fjoin ! $ move ! (1 ∷ 0 ∷ []) $ fjoin ! $
      fpack ! (List Val) (λ us. fsep (cell_at full_share Cells.mir us rb ro) (Cells.own_val (with_slab_page d i w) us)) vs $ done !

pub page_mut_spec : {M : Type 1} → statement M
page_mut_spec 𝓤 𝓛 𝓜 𝓡 wired =
    let c = f.clauses 𝓛 𝓜.mem 𝓡.returns in let W = walk_of 𝓛 f.ended stayed c in let 𝓣 = tables 𝓤 𝓛.H 𝓜 𝓡 𝓡.env in
    proved 𝓛 f.ended stayed c 𝓜 𝓡 (Goes-spent_ref 𝓛 1 (0 ∷ []) tt (plain (λ _. Cells)), (Goes-dropped 𝓛 1 (plain (λ _. Base)) yes (λ κs x w. refl), (Goes-dropped 𝓛 1 (plain (λ _. usize)) yes (λ κs x w. refl), tt)))
    f.Key.name code.function (code.unfolded 𝓤 𝓛.H 𝓜 𝓡 wired)
    (λ κs. (mut_vals, ((λ x. lowers.lowered x ∷ []), (uint_vals w64, tt)))) (λ κs. (mut_Tells (named 0) κs.0 Cells, (lowers.val_is, (uint_Tells w64, tt))))
    (λ κs qs bounds a _ are.
    let κ = κs.0 in let q = qs.0 in let d = a.0.now in let ps = d.pages in let γ = a.0.ghost_name in let i = a.1.1.0 in let rb = a.0.ref_ptr.0 in
    let ro = a.0.ref_ptr.1 in
    let y : W.Ghost = ((κs, qs, bounds, a, (mut_vals a.0, (lowers.lowered a.1.0 ∷ [], (uint_vals w64 i, tt)))), tt) in
    let Asked : Type 0 = (a.1.0.ptr ≡ d.at) × (i < length ps) × (length ps ≤ 16384) in
    qed 𝓛 (((‵ (flft κ q) ⊛ ‵ ftrue) ⊛ ‵ (owns (MutRef (named 0) κ Cells ∷ Base ∷ usize ∷ []) a y.0.4)) ∷ raw (fact 𝓤 Asked) ∷ []) ∵
    move ! (1 ∷ []) $ heard ! Asked (λ asked. split ! $ split ! $ move ! (2 ∷ []) $ fsplit ! $ fsplit3 ! $ feq_l ! (λ _. keep ! (0 ∷ 1 ∷ 3 ∷ []) $
    let fits : i < 2 ^ 64 = omega (arith, asked.1, asked.2) in let far : i * 4096 < 2 ^ 64 = omega (arith, asked.1, asked.2) in
    enter ! _ _ _ _ _ $ alloc_all ! (λ l. pass_all ! refl ((tt, tt), (word-Good [] a.1.0.ptr, ((tt, record { fits = fits }), tt))) $
    opens ! tt Cells {h = d} rb ro (λ vs. move ! (1 ∷ []) $ fsplit ! $ move ! (1 ∷ []) $
    in_a_block ! d.at (λ p. cells_own d.places p ps) (id⊢ 𝓤 (never 𝓤)) (λ b o e. fsplit ! $
    take_at ! 2 $ rewrite ! 0 (λ (p : Ptr). ‵ (fat full_share (lone Base.mir) (l 2) 0 (word p))) (asked.0 ∙ e) refl $ give_at ! 2 $
    let at = i * 4096 + o in let x = get_or ps i [] in
    use1 𝓛 (‵ (part_at Page full_share x b _) ⊛ ‵ (others (shares Page) full_share ps i b o)) (takes (shares Page) full_share 𝓛 ps i [] b o asked.1) $ split ! $
    rewrite ! 0 (λ (k : ℕ). ‵ (part_at Page full_share x b k)) (place_is 4096 o i) refl $
    first ! $ blocks ! $ sets ! (bin ! (get ! refl) (big ! (record { fits = lit< tt })) (record { fits = far })) refl (tt, record { fits = far }) $
    sets ! (bin ! (get_in ! (fld ! refl (stop !)) (sub ! 0 refl (whole !))) (get ! refl) tt) refl (tt, tt) $
    sets_last ! (addr ! (through ! refl (stop !))) refl (tt, tt) $
    exec ! 𝓣.C 𝓣.Λ (env code.Mir.locals l) (after 1 (code.function).body) (at_ret _ (W.post y)) $ sets ! (of_opd ! (get ! refl)) refl (tt, tt) $
    -- [the page; the others; the room; the mark; its cell; the open borrow; obs; auth]
    move ! (2 ∷ 3 ∷ 4 ∷ []) $ fjoin3 ! $ move ! (2 ∷ 0 ∷ []) $ fjoin ! $ move ! (2 ∷ 3 ∷ 4 ∷ 1 ∷ 0 ∷ []) $ group ! 5 $ let code' = Cells.coded.code d in
    use1 𝓛 (later (some (λ (δ : GName). ‵ ((MutRef (named 0) κ Page).own_val (record { ref_ptr = (b, at); ghost_name = δ; now = x }) (vptr b at ∷ [])) ⊛ ‵ (flft κ q) ⊛ ‵ (follows Cells Page γ δ (with_slab_page d i)))))
    (lends_Part 𝓛 Cells Page (with_slab_page d i) (named 0) κ q rb ro b at γ (sem 𝓛 (Rest 𝓛 d i vs rb ro b o)) (back 𝓛 d i vs rb ro b o e asked.1) code' code' x) $
    await ! tt $ pick ! (λ δ. split ! $ move ! (1 ∷ []) $ split ! $ move ! (2 ∷ []) $
    returns ! (look_at ! 0 refl) $ free_all ! refl $
    suffices ! _ (ends_at 𝓛 f.ended stayed c y (vptr b at) (record { ref_ptr = (b, at); ghost_name = δ; now = x }) (tt, (tt, (tt, tt))) (tt, (tt, (tt, tt)))) $
    nothing ! $ nothing ! $ fjoin ! $ nothing ! $ fjoin ! $ nothing ! $ fjoin ! $ join ! $ nothing ! $ move ! (2 ∷ 0 ∷ []) $ join ! $ join ! $ frame ! $
    says ! refl $ done !)))))))
