-- `part_mut` lends the bytes of the part that `lend_part` lends.
use Rattle.mig_guest.proofs.Common.{◌≡◌, ℕ, List, [], ◌∷◌, ◌++◌, length, take, Option, Some, None, MutBor, refl, sym, ap, ◌∙◌, inl, inr, lit<, arith, option_map, option_copied_mut, PartKey, GuestOf, with_items}
use Rattle.std.proofs.Common.{drop as list_drop}
use Rattle.std.proofs.raw_atomic.Walks.{proved}
use Rattle.std.proofs.VecSteps.Element.{Some-of, none_of}
use base.Logic.{id⊢}
use base.Fml.{ftrue, flft}
use mathlib.Core.Logic.{◌⊎◌}
use mir.Syntax.{named, w64}
use mir.Val.{Val, Fits, of_list}
use contract.Monad.{fact}
use contract.Running.{tables}
use types.Kit.{‵, raw, ◌⊛◌, some, later, ◌$◌, ◌∵◌, !, qed, done, move, drop, use0, use1, use2, split, join, pick, await, fsplit, fpick, feq_l, feq_i, fjoin, suffices, frame, rewrite, at_ret}
use types.Match.{live, vrt, in_variant, by_variants}
use types.Part.{whole, agg}
use types.Run.{enter, of_opd, addr, lit, fld, stop, no_more, and_then, first, exec, returns}
use types.ByLocal.{alloc_all, pass_all, free_all, look_at, get, get_in, get_tag, through, sets, sets_last, lands_as, env}
use denote.Builtin.{u8}
use denote.Array.{Array}
use denote.Exit.{yes, no}
use denote.Follow.{follows, follows_by, follows_then}
use denote.Laws.{shows}
use denote.Ref.{MutRef, mut_vals, mut_Tells}
use denote.Slice.{MutSlice, slice_val}
use denote.Signature.{plain, mut_ref_to}
use denote.Steps.{nothing, heard, only, peeks}
use denote.Struct.Laws as laws
use denote.Struct.Loose.{loose_lawful}
use denote.Triple.Call.{calls_at}
use denote.Triple.Clauses.{lasts}
use denote.Triple.Spec.{triple_of}
use denote.Triple.Walked.{Stays, walk_of, says, stay_dropped, Goes-dropped, Goes-spent_ref, ends_at}
use denote.Triple.Table.{framed}
use Rattle.std.specs.FinMap as maps
use Rattle.std.specs.contracts.option.Option as option
use Rattle.mig_guest.specs.Lending.{Bytes, part_row, LendsGuestPart, LendsBytes, rewritten, with_part}
use Rattle.mig_guest.specs.contracts.guest.Guest as guest
use Rattle.mig_guest.specs.contracts.part_key.PartKey as key
use Rattle.mig_guest.proofs.part_key.PartKey.TheLaws.{the_laws, the_loose}
use Rattle.mig_guest.specs.contracts.guest.Guest.part_mut as f
use Rattle.mig_guest.specs.contracts.guest.Guest.lend_part as g
use Rattle.mig_guest.specs.contracts.parts.bytes_mut as h
use Rattle.mig_guest.proofs.guest.Guest.part_mut.Statement.{statement}
use Rattle.mig_guest.proofs.guest.Guest.part_mut.Code as code
use Rattle.mig_guest.proofs.guest.Guest.lend_part.Met as lend_part
use Rattle.mig_guest.proofs.parts.bytes_mut.Met as bytes_mut

some_or_none : {X : Type 0} (r : Option X) → (r ≡ None) ⊎ ((x : X) × (r ≡ Some x))
some_or_none None = inl refl
some_or_none (Some x) = inr (x, refl)

-- the guest ends alike, told by the vector that was lent and by its bytes
ends : (p : GuestOf) (k : PartKey) (b : Bytes) → Some b.items ≡ maps.get p.parts k → (w : List ℕ)
    → ◌≡◌ {A = GuestOf} (record p { parts = maps.insert p.parts k (with_items b w).items }) (record p { parts = with_part p.parts k w })
ends p k b found w =
    ap (λ (n : ℕ). record p { parts = maps.insert p.parts k (take n (w ++ list_drop (length w) b.items)) }) b.ok.0
    ∙ ap (λ (o : Option (List ℕ)). record p { parts = rewritten o p.parts k w }) found

abbrev stayed : Stays f.ended.signature.params f.ended.kept
stayed = (stay_dropped (mut_ref_to (0 ∷ []) tt (plain (λ _. guest.the_row))) no, (stay_dropped (plain (λ _. key.the_row)) yes, tt))

pub part_mut_spec : {M : Type 1} → statement M
unfolding follows_by
part_mut_spec 𝓤 𝓛 𝓜 𝓡 wired =
    let c = f.clauses 𝓛 𝓜.mem 𝓡.returns in let W = walk_of 𝓛 f.ended stayed c in let 𝓣 = tables 𝓤 𝓛.H 𝓜 𝓡 𝓡.env in
    proved 𝓛 f.ended stayed c 𝓜 𝓡 (Goes-spent_ref 𝓛 1 (0 ∷ []) tt (plain (λ _. guest.the_row)), (Goes-dropped 𝓛 1 (plain (λ _. key.the_row)) yes (λ κs x w. refl), tt))
    f.Key.name code.function (code.unfolded 𝓤 𝓛.H 𝓜 𝓡 wired)
    (λ κs. (mut_vals, (laws.vals key.the_type the_laws, tt))) (λ κs. (mut_Tells (named 0) κs.0 guest.the_row, (laws.tells key.the_type the_laws, tt))) (λ κs qs bounds a _ are.
    let κ = κs.0 in let q = qs.0 in let Part = MutRef (named 0) κ part_row in let Slice = MutSlice (named 0) κ u8 in let parts = a.0.now.parts in
    let G = triple_of 𝓛 g.signature (g.spec 𝓛 𝓜.mem 𝓡.returns) in
    let z : G.Ghost = ((κs, qs, bounds, a, (mut_vals a.0, (laws.vals key.the_type the_laws a.1.0, tt))), tt) in
    let y : W.Ghost = ((κs, qs, bounds, a, (mut_vals a.0, (laws.vals key.the_type the_laws a.1.0, tt))), tt) in
    qed 𝓛 (raw (G.pre z) ∷ []) ∵ enter ! _ _ _ _ _ $
    alloc_all ! (λ l. pass_all ! refl ((tt, tt), (((loose_lawful key.the_type the_loose 𝓛).typed a.1.0 _ are.1.0).0, tt)) $
    sets ! (addr ! (through ! refl (stop !))) refl (tt, tt) $
    calls_at ! (framed 𝓤 𝓛.H 𝓜 (tables 𝓤 𝓛.H 𝓜 𝓡 𝓡.env)) G (lend_part.met 𝓤 𝓛 𝓜 𝓡 (code.calls-mig_guest::guest::Guest::lend_part 𝓡.env wired)) z
    (and_then ! (get ! refl) (and_then ! (get ! refl) (no_more !))) (λ v.
    use1 𝓛 (later (some (λ (r : Option (MutBor Bytes)). ((‵ (flft κ q) ⊛ ‵ ftrue) ⊛ ‵ ((option.the_row Part).own_val r (v ∷ []))) ⊛
    some (λ ws. ‵ (lasts g.ended κs a ws) ⊛ ‵ (LendsGuestPart a.0 a.1.0 r) ⊛ raw (fact 𝓤 (option_map (λ (b : Bytes). b.items) (option_copied_mut r) ≡ maps.get parts a.1.0)))))) (id⊢ 𝓤 _) $
    await ! tt $ pick ! (λ r. split ! $ split ! $ split ! $ move ! (3 ∷ []) $ pick ! (λ ws. split ! $ drop ! $ split ! $ move ! (1 ∷ []) $ heard ! _ (λ value.
    -- [what the guest ends as; the token; nothing; the part, if it is there; the locals]
    move ! (2 ∷ []) $ drop ! $
    elim (some_or_none r) [
      | inl none ↦ rewrite ! 0 (λ (s : Option (MutBor Bytes)). ‵ (LendsGuestPart a.0 a.1.0 s)) none refl $ rewrite ! 2 (λ (s : Option (MutBor Bytes)). ‵ ((option.the_row Part).own_val s (v ∷ []))) none refl $
          move ! (2 ∷ []) $ fpick ! (λ us. fsplit ! $ feq_l ! (λ is_v. fpick ! (λ vss. fsplit ! $ feq_l ! (λ is_us. drop ! $
          lands_as ! (ap only is_v ∙ ap (λ (ws : List Val). live 0 (of_list ws)) is_us) refl (tt, (record { fits = lit< tt }, tt)) $
          first ! $ by_variants ! 10 (whole !) (get_tag ! (vrt ! refl (fld ! refl (stop !))) (whole !)) tt (
            (λ never. absurd (omega arith)),
            (
              (λ _.
                  sets_last ! (agg ! (and_then ! (lit ! tt) (no_more !))) refl (tt, (record { fits = lit< tt }, tt)) $
                  exec ! 𝓣.C 𝓣.Λ (env code.Mir.locals l) code.Mir.t-4 (at_ret _ (W.post y)) $
                  sets ! (of_opd ! (get ! refl)) refl (tt, (record { fits = lit< tt }, tt)) $
                  returns ! (look_at ! 0 refl) $ free_all ! refl $
                  use0 𝓛 (‵ ((option.the_row Slice).own_val None (live 0 (of_list []) ∷ []))) (none_of 𝓛 Slice) $
                  suffices ! _ (ends_at 𝓛 f.ended stayed c y (live 0 (of_list [])) None (tt, (tt, tt)) (tt, (tt, tt))) $
                  nothing ! $ nothing ! $ fjoin ! $ nothing ! $ fjoin ! $ join ! $ nothing ! $ move ! (3 ∷ 0 ∷ []) $ join ! $ join ! $ frame ! $
                  says ! (sym (ap (λ (s : Option (MutBor Bytes)). option_map (λ (b : Bytes). b.items) (option_copied_mut s)) none) ∙ value) $ done !),
              tt,
            ),
          )))))
      | inr lent ↦
          let x = lent.0 in
          let found : Some x.now.items ≡ maps.get parts a.1.0 = sym (ap (λ (s : Option (MutBor Bytes)). option_map (λ (b : Bytes). b.items) (option_copied_mut s)) lent.1) ∙ value in
          rewrite ! 0 (λ (s : Option (MutBor Bytes)). ‵ (LendsGuestPart a.0 a.1.0 s)) lent.1 refl $ rewrite ! 2 (λ (s : Option (MutBor Bytes)). ‵ ((option.the_row Part).own_val s (v ∷ []))) lent.1 refl $
          move ! (2 ∷ []) $ fpick ! (λ us. fsplit ! $ feq_l ! (λ is_v. fpick ! (λ vss. fsplit ! $ feq_l ! (λ is_us. fsplit ! $ move ! (1 ∷ []) $ drop ! $ fsplit ! $ feq_l ! (λ is_ptr.
          feq_i ! (List Val) (mut_vals x) (mut_vals x) refl $ fjoin ! $
          -- [the part; what the guest ends as; the token; the locals]
          lands_as ! (ap only is_v ∙ ap (λ (ws : List Val). live 1 (of_list ws)) (is_us ∙ ap (λ (ws : List Val). ws ++ []) is_ptr)) refl (tt, (record { fits = lit< tt }, (tt, tt))) $
          first ! $ by_variants ! 11 (whole !) (get_tag ! (vrt ! refl (fld ! refl (stop !))) (whole !)) tt (
            (λ _.
                sets ! (of_opd ! (get_in ! (vrt ! refl (fld ! refl (stop !))) (in_variant ! 1 0 refl refl (whole !)))) refl (tt, tt) $
                sets ! (addr ! (through ! refl (stop !))) refl (tt, tt) $
                let H = triple_of 𝓛 h.signature (h.spec 𝓛 𝓜.mem 𝓡.returns) in
                let u : H.Ghost = (((κ, tt), (q, tt), tt, (x, tt), (mut_vals x, tt)), tt) in
                nothing ! $ move ! (1 ∷ 0 ∷ []) $ join ! $ nothing ! $ move ! (3 ∷ 0 ∷ []) $ join ! $ join ! $
                nothing ! $ move ! (1 ∷ 0 ∷ []) $ use2 𝓛 (raw (H.pre u)) (id⊢ 𝓤 _) $
                calls_at ! (framed 𝓤 𝓛.H 𝓜 (tables 𝓤 𝓛.H 𝓜 𝓡 𝓡.env)) H (bytes_mut.met 𝓤 𝓛 𝓜 𝓡 (code.calls-mig_guest::parts::bytes_mut 𝓡.env wired)) u
                (and_then ! (get ! refl) (no_more !)) (λ w.
                use1 𝓛 (later (some (λ (s : MutBor (List ℕ)). ((‵ (flft κ q) ⊛ ‵ ftrue) ⊛ ‵ (Slice.own_val s (w ∷ []))) ⊛
                some (λ ends'. ‵ (lasts h.ended (κ, tt) (x, tt) ends') ⊛ ‵ (LendsBytes x s) ⊛ raw (fact 𝓤 (s.now ≡ x.now.items)))))) (id⊢ 𝓤 _) $
                await ! tt $ pick ! (λ s. split ! $ split ! $ split ! $ move ! (3 ∷ []) $ pick ! (λ ends'. split ! $ drop ! $ split ! $ move ! (1 ∷ []) $ heard ! _ (λ same.
                -- [what the part ends as; the token; nothing; the bytes; what the guest ends as; the locals]
                move ! (2 ∷ []) $ drop ! $ move ! (2 ∷ []) $ peeks ! Slice _ (shows 𝓛 Slice) s (w ∷ []) (λ is.
                rewrite ! 0 (λ (vs : List Val). ‵ (Slice.own_val s vs)) is.0.0 refl $
                let fits : Fits w64 (length s.now) = record { fits = is.0.1.0 } in
                lands_as ! (ap only is.0.0) refl (tt, (tt, (fits, tt))) $
                sets_last ! (agg ! (and_then ! (lit ! tt) (and_then ! (get ! refl) (no_more !)))) refl (tt, (record { fits = lit< tt }, ((tt, (fits, tt)), tt))) $
                exec ! 𝓣.C 𝓣.Λ (env code.Mir.locals l) code.Mir.t-4 (at_ret _ (W.post y)) $
                sets ! (of_opd ! (get ! refl)) refl (tt, (record { fits = lit< tt }, ((tt, (fits, tt)), tt))) $
                returns ! (look_at ! 0 refl) $ free_all ! refl $
                -- [the bytes; what the part ends as; the token; what the guest ends as]
                move ! (3 ∷ 1 ∷ []) $
                use2 𝓛 (‵ (follows guest.the_row (Array u8 0) a.0.ghost_name s.ghost_name (λ ws'. record a.0.now { parts = maps.insert parts a.1.0 (with_items x.now ws').items })))
                (follows_then 𝓛 guest.the_row part_row (Array u8 0) (λ (b : Bytes). record a.0.now { parts = maps.insert parts a.1.0 b.items }) (with_items x.now) a.0.ghost_name x.ghost_name s.ghost_name) $
                rewrite ! 0 (λ (F : List ℕ → GuestOf). ‵ (follows guest.the_row (Array u8 0) a.0.ghost_name s.ghost_name F)) (λ i ws'. ends a.0.now a.1.0 x.now found ws' i) refl $
                move ! (1 ∷ []) $ use1 𝓛 (‵ ((option.the_row Slice).own_val (Some s) (live 1 (of_list (slice_val s.ref_ptr (length s.now) ∷ [])) ∷ []))) (Some-of 𝓛 Slice s (slice_val s.ref_ptr (length s.now))) $
                suffices ! _ (ends_at 𝓛 f.ended stayed c y (live 1 (of_list (slice_val s.ref_ptr (length s.now) ∷ []))) (Some s) (tt, (tt, tt)) (tt, (tt, tt))) $
                nothing ! $ nothing ! $ fjoin ! $ nothing ! $ fjoin ! $ join ! $ nothing ! $ move ! (3 ∷ 0 ∷ []) $ join ! $ join ! $ frame ! $
                says ! (ap Some same ∙ found) $ done !)))))),
            ((λ never. absurd (omega arith)), tt),
          ))))))
    ]))))))
