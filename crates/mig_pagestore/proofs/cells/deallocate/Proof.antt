-- `deallocate` makes one block of the pages and of the room behind them, and hands it back with the allocator's token. Assumes `Logic`.
use Rattle.mig_pagestore.proofs.Common.{◌⊑◌, ⊑_trans, inst_fn, lands_last, bounded, param, types_at, calls_at_last, alive, Al, seen, Gives, at_gives, Gives-goes, Gives-Gives, Goes-blank, fm, proved_at, vint, w64, capped_is, usize, bin}
use Rattle.mig_pagestore.proofs.Steps.{◌≡◌, ◌+◌, ◌-◌, ◌*◌, ◌≤◌, List, [], ◌∷◌, ◌++◌, length, refl, sym, ap, subst, ◌∙◌, lit<, arith, after, SProp, id⊢, never, ftrue, froom, flft, Val, vunit, vptr, fact, tables, WpFn, ‵, raw, ◌⊛◌, later, prop, at_ret, ◌$◌, ◌∵◌, !, qed, move, keep, drop, use1, use2, split, join, fsplit, fjoin, feq_i, await, rewrite, regoal, suffices, group, done, whole, sub, enter, of_opd, unit_lit, lit, stop, fld, no_more, and_then, first, blocks, exec, returns, alloc_all, pass_all, free_all, look_at, get, get_in, sets, env, owns, RefOf, Ptr, block_ptr, in_a_block, plain, nothing, heard, Stays, walk_of, stay_dropped, Goes-dropped, ends_at, block, cells_own, Base, Cells, lowers, word, mark, mark_told, big, all_room}
use Rattle.mig_pagestore.proofs.SlabCommon.{Lft, Share, Args, Fn, a_type, dcons, dnil, ty_unit, has_ty, WT, Env, given, learn, RattleType}
use lib.Dec.{T}
use Prim.Native.Nat.{ℕ, ◌<◌, ◌^◌}
use Rattle.mig_pagestore.specs.contracts.cells.Deed as D
use Rattle.mig_pagestore.specs.contracts.cells.deallocate as f
use Rattle.mig_pagestore.proofs.cells.deallocate.Statement.{statement}
use Rattle.mig_pagestore.proofs.cells.deallocate.Code as code

pub deallocate_spec : {M : Type 1} → statement M
deallocate_spec 𝓤 𝓛 𝓜 𝓡 wired A L g d dd met md =
    let H = 𝓛.H in let E = f.ended A g d dd in let c = f.clauses A g d dd 𝓛 𝓜.mem 𝓡.returns in
    let args : Args = bounded (a_type ∷ []) (A, tt) (dcons d (dcons dd dnil)) in let fn : Fn = inst_fn args code.function in
    let Y : Al = record { row = A; laws = L; g = g; d = d; drops = dd } in let Z : RattleType = param 0 A in let Deed : RattleType = D.the_row Z g in
    let C = (tables 𝓤 H 𝓜 𝓡 𝓡.env).C in let Λ = (tables 𝓤 H 𝓜 𝓡 𝓡.env).Λ in
    let stays : Stays E.signature.params E.kept = (stay_dropped (RefOf (0 ∷ []) tt (plain (λ _. Z)) (λ _. tt)) E.kept.0, (stay_dropped (plain (λ _. Base)) E.kept.1.0, (stay_dropped (plain (λ _. usize)) E.kept.1.1.0, (stay_dropped (plain (λ _. Cells)) E.kept.1.1.1.0, (stay_dropped (plain (λ _. Deed)) E.kept.1.1.1.1.0, tt))))) in
    proved_at 𝓛 E stays c 𝓜 𝓡 (Goes-dropped 𝓛 2 (RefOf (0 ∷ []) tt (plain (λ _. Z)) (λ _. tt)) E.kept.0 (λ κs x w. refl), (Goes-dropped 𝓛 2 (plain (λ _. Base)) E.kept.1.0 (λ κs x w. refl), (Goes-dropped 𝓛 2 (plain (λ _. usize)) E.kept.1.1.0 (λ κs x w. refl), (Goes-blank 𝓛 2 (plain (λ _. Cells)) E.kept.1.1.1.0 (λ κs x w. tt), (Goes-blank 𝓛 2 (plain (λ _. Deed)) E.kept.1.1.1.1.0 (λ κs x w. tt), tt)))))
    (f.Key.name args) fn (code.unfolded 𝓤 H 𝓜 𝓡 wired (A, tt) d dd) (λ z are.
    let Post : Val → SProp 𝓤 = (walk_of 𝓛 E stays c).post z in
    let a = z.0.3 in let h = a.0.now in let at = a.0.ref_ptr in let p = a.1.0.ptr in let n = a.1.1.0 in let cells = a.1.1.1.0 in let deed = a.1.1.1.1.0 in let ps = cells.pages in
    let vss = z.0.4 in let κ : Lft = z.0.0.0 in let q : Share = z.0.1.0 in
    let Asked : Type 0 = (cells.at ≡ p) × (cells.places ≡ n) × (length ps ≤ n) × (n ≤ 16384) × (deed.at ≡ p) × (deed.places ≡ n) × (deed.alloc ≡ h) in
    qed 𝓛 ((raw (alive 𝓛 E.signature z.0.0 z.0.1) ⊛ ‵ (owns (types_at E.signature.params z.0.0) a vss)) ∷ (raw (fact 𝓤 (z.0.0.1.0 ⊑ A.lives)) ⊛ raw (fact 𝓤 Asked)) ∷ []) ∵
    move ! (1 ∷ []) $ split ! $ heard ! (z.0.0.1.0 ⊑ A.lives) (λ le. heard ! Asked (λ asked. split ! $ move ! (1 ∷ []) $ fsplit ! $ fsplit ! $ drop ! $
    move ! (1 ∷ []) $ fsplit ! $ drop ! $ fsplit ! $ drop ! $ fsplit ! $ fsplit ! $ drop ! $ move ! (1 ∷ []) $ fsplit ! $ fsplit ! $ drop ! $
    let fits : n < 2 ^ 64 = are.1.1.0.1 in let bytes : n * 4096 < 2 ^ 64 = omega (arith, asked.3) in
    -- [the token; nothing; the pages with the room; the handle; the lifetimes]
    move ! (2 ∷ []) $ rewrite ! 0 (λ (u : ℕ × Ptr). ‵ (cells_own u.0 u.1 ps)) (λ i. (asked.1 i, asked.0 i)) refl $ in_a_block ! p (λ p. cells_own n p ps) (id⊢ 𝓤 (never 𝓤)) (λ b o e. fsplit ! $
    use2 𝓛 (‵ (froom (block n) b o)) (all_room 𝓛 b ps (n - length ps) n o (length ps * 4096 + o) (omega (arith, asked.2)) refl) $
    rewrite ! 1 (λ (u : A.Denot × Ptr × ℕ). ‵ (g.dealloc_token u.0 (block u.2) u.1)) (λ i. (asked.6 i, (asked.4 ∙ e) i, asked.5 i)) refl $ move ! (2 ∷ []) $ drop ! $
    move ! (2 ∷ []) $ use1 𝓛 (‵ (seen Y κ at h)) (id⊢ 𝓤 _) $
    move ! (3 ∷ []) $ use1 𝓛 (‵ (flft κ q) ⊛ ‵ (flft z.0.0.1.0 z.0.1.1.0) ⊛ ‵ ftrue) (id⊢ 𝓤 _) $ split ! $ move ! (3 ∷ 4 ∷ 2 ∷ 0 ∷ []) $
    let y = at_gives Y 𝓛 𝓜.mem 𝓡.returns κ q at h b o (n * 4096) 1 (block n) in
    regoal ! (λ (us : List Val). prop (WpFn 𝓤 H C Λ fn us Post))
    (λ i. are.0.0 i ++ ((lowers.val_is a.1.0 vss.1.0 are.1.0 ∙ ap (λ (p : Ptr). word p ∷ []) e) i ++ (are.1.1.0.0 i ++ (mark_told vss.1.1.1.0 are.1.1.1.0.0 i ++ (mark_told vss.1.1.1.1.0 are.1.1.1.1.0.0 i ++ []))))) refl $
    enter ! C Λ fn (vptr at.0 at.1 ∷ word (block_ptr b o) ∷ vint w64 n ∷ mark ∷ mark ∷ []) Post $
    alloc_all ! (λ l. pass_all ! refl ((tt, tt), ((tt, (tt, tt)), ((tt, record { fits = fits }), ((tt, (tt, tt)), ((tt, (tt, tt)), tt))))) $ let En : Env 𝓤 H = env fn.locals l in
    first ! $ blocks ! $ sets ! (of_opd ! (get_in ! (fld ! refl (stop !)) (sub ! 0 refl (whole !)))) refl (tt, tt) $
    sets ! (bin ! (get ! refl) (big ! (record { fits = lit< tt })) (record { fits = bytes })) refl (tt, record { fits = bytes }) $
    group ! 4 $ use1 𝓛 (raw ((Gives Y 𝓛 𝓜.mem 𝓡.returns).pre y)) (Gives-goes Y 𝓛 𝓜.mem 𝓡.returns κ q at h (⊑_trans κ z.0.0.1.0 A.lives z.0.2.0 le) b o (n * 4096) 1 (block n) (capped_is (n * 4096) bytes) refl bytes (lit< tt)) $
    calls_at_last ! (fm 𝓛 𝓜 𝓡) (Gives Y 𝓛 𝓜.mem 𝓡.returns) (met.deallocate dd) y (and_then ! (get ! refl) (and_then ! (get ! refl) (and_then ! (get ! refl) (and_then ! (lit ! tt) (no_more !))))) (λ v.
    use1 𝓛 (later (given (v ≡ vunit) (‵ (flft κ q)))) (Gives-Gives Y 𝓛 𝓜.mem 𝓡.returns κ q at h b o (n * 4096) 1 (block n) v) $ await ! tt $ learn ! (λ is_unit.
    lands_last ! refl (subst (λ (z : Val). T (has_ty ty_unit z) × WT z) (sym is_unit) (tt, tt)) $ exec ! C Λ En (after 1 fn.body) (at_ret En Post) $
    sets ! (of_opd ! (unit_lit !)) refl (tt, tt) $ returns ! (look_at ! 0 refl) $ free_all ! refl $ keep ! (0 ∷ 1 ∷ []) $
    suffices ! _ (ends_at 𝓛 E stays c z vunit tt (tt, (tt, (tt, (tt, (tt, tt))))) (tt, (tt, (tt, (tt, (tt, tt)))))) $
    join ! $ feq_i ! (List Val) (vunit ∷ []) (vunit ∷ []) refl $ nothing ! $ nothing ! $ fjoin ! $ nothing ! $ fjoin ! $ nothing ! $ fjoin ! $ nothing ! $ fjoin ! $ nothing ! $
    fjoin ! $ join ! $ move ! (1 ∷ 0 ∷ []) $ join ! $ nothing ! $ move ! (1 ∷ 0 ∷ []) $ done !)))))))
