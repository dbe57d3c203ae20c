-- `allocate` takes a block with no page in it, and keeps the right to free it. Assumes `Logic`.
use Rattle.mig_pagestore.proofs.Common.{◌⊑◌, ⊑_trans, inst_fn, get_tag, lands_as, bounded, layout, param, makes_shadow, types_at, type_at, Struct, Struct-Makes, within, calls_at, alive, Al, seen, Takes, at_takes, Answered, Answer-typed, Takes-goes, Takes-gives, answers, fm, proved_at, ◌-◌, ◌<◌, ◌≤◌, ◌^◌, vint, w64, capped_is, usize, bin}
use Rattle.mig_pagestore.proofs.Steps.{◌≡◌, ℕ, ◌+◌, ◌*◌, List, [], ◌∷◌, ◌++◌, refl, lit<, arith, after, ent, sep, SProp, id⊢, ftrue, froom, flft, Val, vptr, fact, tables, WpFn, Logic, sem, ‵, raw, ◌⊛◌, later, prop, at_ret, ◌$◌, ◌∵◌, !, qed, by, move, keep, drop, use0, use1, use2, use3, split, join, fsplit, fjoin, fpack, feq_i, await, rewrite, regoal, suffices, frame, done, whole, agg, enter, of_opd, lit, stop, fld, no_more, and_then, first, exec, returns, alloc_all, pass_all, free_all, look_at, get, get_in, sets, sets_last, env, owns, RefOf, Ptr, block_ptr, plain, nothing, heard, Stays, walk_of, says, stay_dropped, Goes-dropped, ends_at, block, Base, Cells, word, Good, Mark, mark, mark_made, big}
use mathlib.Core.Bool.{true, false}
use Rattle.mig_pagestore.proofs.SlabCommon.{Ura, Lft, Share, Args, Fn, a_type, dcons, dnil, vstruct, vcons, vnil, Env, Wp, after_seq, at_return, Item, ⋆, any_q, switches_on, RattleType, Valss}
use types.Kit.{Post as After}
use types.Match.{live, vrt, in_variant}
use denote.Laws.{Is}
use denote.RawPtr.{ptr_val}
use denote.Steps.{owned}
use denote.Struct.Declared as Declared
use denote.Struct.Tuple.{Tuple, tuple_type}
use Rattle.std.specs.Prelude.{IfOk, Ok, Err}
use Rattle.core.proofs.alloc.Shapes.{head, arm_body}
use Rattle.core.specs.contracts.alloc.AllocError as AE
use Rattle.std_alloc.proofs.RcSteps.{first_Good}
use Rattle.std_alloc.proofs.ResultValues.{ok_of, err_of}
use Rattle.mig_pagestore.specs.contracts.cells.Deed as D
use Rattle.mig_pagestore.specs.contracts.cells.allocate as f
use Rattle.mig_pagestore.proofs.cells.allocate.Statement.{statement}
use Rattle.mig_pagestore.proofs.cells.allocate.Code as code

abbrev three_val : Val → Val → Val → Val
three_val u v w = vstruct (vcons u (vcons v (vcons w vnil)))

three_of : {M : Type 1} {𝓤 : Ura M} (𝓛 : Logic 𝓤) (R S T : RattleType) (x : R.Denot) (y : S.Denot) (z : T.Denot) (u v w : Val)
    → ent 𝓤 (sep 𝓤 (sem 𝓛 (R.own_val x (u ∷ []))) (sep 𝓤 (sem 𝓛 (S.own_val y (v ∷ []))) (sem 𝓛 (T.own_val z (w ∷ [])))))
    (sem 𝓛 ((Tuple (R ∷ S ∷ T ∷ [])).own_val (x, y, z) (three_val u v w ∷ [])))
three_of 𝓛 R S T x y z u v w =
    qed 𝓛 (‵ (R.own_val x (u ∷ [])) ∷ ‵ (S.own_val y (v ∷ [])) ∷ ‵ (T.own_val z (w ∷ [])) ∷ []) ∵ nothing ! $ move ! (3 ∷ 0 ∷ []) $ fjoin ! $
    move ! (2 ∷ 0 ∷ []) $ fjoin ! $ move ! (1 ∷ 0 ∷ []) $ fjoin ! $
    feq_i ! (List Val) (three_val u v w ∷ []) (three_val u v w ∷ []) refl $ fjoin ! $
    fpack ! (Valss (R ∷ S ∷ T ∷ [])) (within (Declared.shape (tuple_type (R ∷ S ∷ T ∷ []))) (x, (y, (z, tt))) (three_val u v w ∷ []))
    (u ∷ [], (v ∷ [], (w ∷ [], tt))) $ done !

pub allocate_spec : {M : Type 1} → statement M
allocate_spec 𝓤 𝓛 𝓜 𝓡 wired A L g d dd met md =
    let H = 𝓛.H in let E = f.ended A g d dd in let c = f.clauses A g d dd 𝓛 𝓜.mem 𝓡.returns in
    let args : Args = bounded (a_type ∷ []) (A, tt) (dcons d (dcons dd dnil)) in let fn : Fn = inst_fn args code.function in
    let Y : Al = record { row = A; laws = L; g = g; d = d; drops = dd } in let Z : RattleType = param 0 A in
    let C = (tables 𝓤 H 𝓜 𝓡 𝓡.env).C in let Λ = (tables 𝓤 H 𝓜 𝓡 𝓡.env).Λ in
    let stays : Stays E.signature.params E.kept = (stay_dropped (RefOf (0 ∷ []) tt (plain (λ _. Z)) (λ _. tt)) E.kept.0, (stay_dropped (plain (λ _. usize)) E.kept.1.0, tt)) in
    proved_at 𝓛 E stays c 𝓜 𝓡 (Goes-dropped 𝓛 2 (RefOf (0 ∷ []) tt (plain (λ _. Z)) (λ _. tt)) E.kept.0 (λ κs x w. refl), (Goes-dropped 𝓛 2 (plain (λ _. usize)) E.kept.1.0 (λ κs x w. refl), tt))
    (f.Key.name args) fn (code.unfolded 𝓤 H 𝓜 𝓡 wired (A, tt) d dd) (λ z are.
    let Post : Val → SProp 𝓤 = (walk_of 𝓛 E stays c).post z in
    let a = z.0.3 in let n = a.1.0 in let h = a.0.now in let at = a.0.ref_ptr in let κ : Lft = z.0.0.0 in let q : Share = z.0.1.0 in
    let Deed : RattleType = D.the_row Z g in let Three : RattleType = Tuple (Base ∷ Cells ∷ Deed ∷ []) in
    let Out : RattleType = type_at E.signature.result z.0.0 in
    let y = at_takes Y 𝓛 𝓜.mem 𝓡.returns κ q at h (n * 4096) 1 (block n) in
    let others : Item 𝓤 = ‵ (flft z.0.0.1.0 z.0.1.1.0) ⊛ ‵ ftrue in
    let exits : (r : Out.Denot) (v : Val) → IfOk r (λ t. (t.1.at ≡ t.0.ptr) × (t.1.places ≡ n) × (t.1.pages ≡ []) × (t.2.at ≡ t.0.ptr) × (t.2.places ≡ n) × (t.2.alloc ≡ h)) → ent 𝓤 (⋆ 𝓛 (‵ (Out.own_val r (v ∷ [])) ∷ ‵ (flft κ q) ∷ others ∷ [])) (Post v) = λ r v is.
    qed 𝓛 (‵ (Out.own_val r (v ∷ [])) ∷ ‵ (flft κ q) ∷ others ∷ []) ∵ suffices ! _ (ends_at 𝓛 E stays c z v r (tt, (tt, tt)) (tt, (tt, tt))) $ says ! is $
    move ! (1 ∷ 2 ∷ []) $ join ! $ frame ! $ nothing ! $ nothing ! $ fjoin ! $ nothing ! $ fjoin ! $ done ! in
    qed 𝓛 ((raw (alive 𝓛 E.signature z.0.0 z.0.1) ⊛ ‵ (owns (types_at E.signature.params z.0.0) a z.0.4)) ∷ (raw (fact 𝓤 (z.0.0.1.0 ⊑ A.lives)) ⊛ raw (fact 𝓤 (n ≤ 16384))) ∷ []) ∵
    move ! (1 ∷ []) $ split ! $ heard ! (z.0.0.1.0 ⊑ A.lives) (λ le. heard ! (n ≤ 16384) (λ asked. split ! $ move ! (1 ∷ []) $ fsplit ! $ fsplit ! $ drop ! $ move ! (1 ∷ []) $
    drop ! $ use1 𝓛 (‵ (seen Y κ at h)) (id⊢ 𝓤 _) $
    move ! (1 ∷ []) $ use1 𝓛 (‵ (flft κ q) ⊛ others) (id⊢ 𝓤 _) $ split ! $ move ! (2 ∷ 0 ∷ []) $
    regoal ! (λ (us : List Val). prop (WpFn 𝓤 H C Λ fn us Post)) (λ i. are.0.0 i ++ (are.1.0.0 i ++ [])) refl $
    let fits : n < 2 ^ 64 = are.1.0.1 in let bytes : n * 4096 < 2 ^ 64 = omega (arith, asked) in
    enter ! C Λ fn (vptr at.0 at.1 ∷ vint w64 n ∷ []) Post $ alloc_all ! (λ l. pass_all ! refl ((tt, tt), ((tt, record { fits = fits }), tt)) $ let En : Env 𝓤 H = env fn.locals l in
    let both = head (after 2 fn.body) in let Then : After 𝓤 H = any_q (after_seq 𝓤 H (Wp 𝓤 H C Λ En (after 3 fn.body) (at_return 𝓤 H En Post)) (at_return 𝓤 H En Post)) in
    sets ! (bin ! (get ! refl) (big ! (record { fits = lit< tt })) (record { fits = bytes })) refl (tt, record { fits = bytes }) $
    use2 𝓛 (raw ((Takes Y 𝓛 𝓜.mem 𝓡.returns).pre y)) (Takes-goes Y 𝓛 𝓜.mem 𝓡.returns κ q at h (⊑_trans κ z.0.0.1.0 A.lives z.0.2.0 le) (n * 4096) 1 (block n) (capped_is (n * 4096) bytes) refl bytes (lit< tt)) $
    calls_at ! (fm 𝓛 𝓜 𝓡) (Takes Y 𝓛 𝓜.mem 𝓡.returns) (met.allocate dd) y (and_then ! (get ! refl) (and_then ! (get ! refl) (and_then ! (lit ! tt) (no_more !)))) (λ v.
    use1 𝓛 (later (raw (Answered Y 𝓛 𝓜.mem 𝓡.returns h (block n) v) ⊛ ‵ (flft κ q))) (Takes-gives Y 𝓛 𝓜.mem 𝓡.returns κ q at h (n * 4096) 1 (block n) v) $
    await ! tt $ split ! $
    answers Y ! 𝓜.mem 𝓡.returns h (block n) v
    (λ b o e.
    let p : Ptr = block_ptr b o in let base : Base.Denot = record { ptr = p } in
    let cells : Cells.Denot = record { mark = record {}; at = p; places = n; pages = [] } in let deed : Deed.Denot = record { mark = record {}; at = p; places = n; alloc = h } in
    let made : Val = three_val (word p) mark mark in let typed : Good (layout Three) made = (tt, ((tt, tt), ((tt, tt), ((tt, tt), tt)))) in
    let ok = first_Good (layout Three) made typed in
    lands_as ! e refl (Answer-typed true b o) $ first ! $ switches_on ! (get_tag ! (vrt ! refl (fld ! refl (stop !))) (whole !)) $
    exec ! C Λ En (arm_body 0 both) Then $
    sets ! (of_opd ! (get_in ! (vrt ! refl (fld ! refl (stop !))) (in_variant ! 0 0 refl refl (whole !)))) refl (tt, tt) $
    sets ! (of_opd ! (get ! refl)) refl (tt, tt) $
    sets ! (agg ! (and_then ! (get ! refl) (no_more !))) refl (tt, (tt, tt)) $
    sets ! (agg ! (no_more !)) refl (tt, tt) $ sets ! (agg ! (and_then ! (get ! refl) (no_more !))) refl (tt, (tt, tt)) $
    sets ! (agg ! (no_more !)) refl (tt, tt) $ sets ! (agg ! (and_then ! (get ! refl) (no_more !))) refl (tt, (tt, tt)) $
    sets ! (agg ! (and_then ! (get ! refl) (and_then ! (get ! refl) (and_then ! (get ! refl) (no_more !))))) refl typed $
    sets_last ! (agg ! (and_then ! (lit ! tt) (and_then ! (get ! refl) (no_more !)))) refl ok $ exec ! C Λ En (after 3 fn.body) (at_ret En Post) $
    sets ! (of_opd ! (get ! refl)) refl ok $
    move ! (1 ∷ []) $ use0 𝓛 (‵ (Mark.own_val (tt, tt) (mark ∷ []))) (mark_made 𝓛) $ fjoin ! $ move ! (1 ∷ []) $
    rewrite ! 0 (λ (k : ℕ × ℕ). ‵ (froom (block k.0) b k.1)) {x = (n - 0, 0 * 4096 + o)} (let all : n ≡ n - 0 = omega arith in let here : o ≡ 0 * 4096 + o = omega arith in λ i. (all i, here i)) refl $ nothing ! $ fjoin ! $
    use0 𝓛 (‵ (Mark.own_val (tt, tt) (mark ∷ []))) (mark_made 𝓛) $ fjoin ! $
    use0 𝓛 (‵ (Base.own_val base (word p ∷ []))) (makes_shadow 𝓛 (Base.own_val base (word p ∷ [])) (λ _. (tt, (tt, tt))) ((ptr_val p ∷ [], tt), (refl, (refl, tt)))) $
    use3 𝓛 (‵ (Three.own_val (base, cells, deed) (made ∷ []))) (three_of 𝓛 Base Cells Deed base cells deed (word p) mark mark) $
    use1 𝓛 (‵ (Out.own_val (Ok (base, cells, deed)) (live 0 (vcons made vnil) ∷ []))) (ok_of 𝓛 Three AE.the_row (base, cells, deed) made) $
    returns ! (look_at ! 0 refl) $ free_all ! refl $ keep ! (0 ∷ 1 ∷ 2 ∷ []) $
    by ! (exits (Ok (base, cells, deed)) (live 0 (vcons made vnil)) (refl, refl, refl, refl, refl, refl)))
    (λ e.
    let Refusal : RattleType = Struct (Declared.shape AE.the_type) in let none : Val = live 1 (vcons (vstruct vnil) vnil) in
    lands_as ! e refl (Answer-typed false 0 0) $ first ! $ switches_on ! (get_tag ! (vrt ! refl (fld ! refl (stop !))) (whole !)) $
    exec ! C Λ En (arm_body 1 both) Then $
    sets ! (of_opd ! (get_in ! (vrt ! refl (fld ! refl (stop !))) (in_variant ! 1 0 refl refl (whole !)))) refl (tt, tt) $
    sets_last ! (agg ! (and_then ! (lit ! tt) (and_then ! (get ! refl) (no_more !)))) refl (tt, (record { fits = lit< tt }, (tt, tt))) $
    exec ! C Λ En (after 3 fn.body) (at_ret En Post) $ sets ! (of_opd ! (get ! refl)) refl (tt, (record { fits = lit< tt }, (tt, tt))) $
    owned ! Refusal (Is Refusal) (Struct-Makes 𝓛 (Declared.shape AE.the_type) tt) tt (vstruct vnil ∷ []) (tt, (refl, tt)) $
    use1 𝓛 (‵ (Out.own_val (Err (record {})) (none ∷ []))) (err_of 𝓛 Three AE.the_row (record {}) (vstruct vnil)) $
    returns ! (look_at ! 0 refl) $ free_all ! refl $ keep ! (0 ∷ 1 ∷ 2 ∷ []) $ by ! (exits (Err (record {})) none tt)))))))
