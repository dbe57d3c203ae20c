-- The pages in memory, and the room behind them. Assumes `Logic`.
use Rattle.mig_pagestore.proofs.Common.{shadow, makes_shadow, Struct, ◌≡◌, ℕ, suc, ◌+◌, ◌*◌, ◌<◌, List, [], ◌∷◌, ◌++◌, length, refl, ap, ◌∙◌, arith, full_share}
use Rattle.mig_pagestore.proofs.SlabCommon.{Ura, Ty, Width, int_big, Val, Fits, vint, vstruct, vcons, vnil, of_list, Env, Fml, fat, froom, Item, ‵, ◌⊛◌, some, ◌$◌, ◌∵◌, !, qed, move, keep, drop, use1, use2, split, pick, rewrite, fsplit, fjoin, done, Opd, row, lone, part_at, RattleType}
use base.Logic.{ent, sep, emp, via, guard_i}
use borrow.Table.OneValue.{part_out}
use types.Logic.{Logic, sem}
use denote.Struct.Owning.{shape}
use Rattle.mig_pagestore.specs.Ownership.{Page, block}
use Rattle.mig_pagestore.specs.contracts.cells.Cells as C

-- the one field of `Cells` and of `Deed`, which takes no bytes
abbrev pub Mark : RattleType
Mark = Struct (shape C.the_type)

abbrev pub mark : Val
mark = vstruct (vcons (vstruct vnil) vnil)

pub mark_made : {M : Type 1} {𝓤 : Ura M} (𝓛 : Logic 𝓤) → ent 𝓤 (emp 𝓤) (sem 𝓛 (Mark.own_val (tt, tt) (mark ∷ [])))
mark_made 𝓛 = makes_shadow 𝓛 (Mark.own_val (tt, tt) (mark ∷ [])) (λ vss. (tt, ((λ uss. (tt, tt)), tt))) ((vstruct vnil ∷ [], tt), (refl, ((tt, (refl, tt)), tt)))

pub mark_told : (vs : List Val) → shadow (Mark.own_val (tt, tt) vs) → vs ≡ mark ∷ []
mark_told vs s = s.1.0 ∙ (λ i. vstruct (of_list (s.1.1.0.1.0 i ++ [])) ∷ [])

abbrev pub page : Ty
page = lone Page.mir

pub cut_end : (ps : List (List ℕ)) → 0 < length ps → (us : List (List ℕ)) × (p : List ℕ) × (ps ≡ us ++ p ∷ [])
cut_end [] h = absurd (omega arith)
cut_end (p ∷ []) h = ([], p, refl)
cut_end (p ∷ q ∷ ps) h = let on = cut_end (q ∷ ps) (omega arith) in (p ∷ on.0, on.1, ap (λ l. p ∷ l) on.2)

-- a constant that `lit` doesn't take
pub big : {M : Type 1} {𝓤 : Ura M} {𝓛 : Logic 𝓤} {K : Type 0} {Γ : List (Item 𝓤)} {E : Env 𝓤 𝓛.H} → K → {w : Width} {n : ℕ} → Fits w n
    → Opd K 𝓛 Γ E (int_big w n) (vint w n)
big {𝓤 = 𝓤} t {w} {n} z = record { go = λ Kt h. via 𝓤 (Kt (vint w n)) h (guard_i 𝓤 (Fits w n) (Kt (vint w n)) z) }

module _ {M : Type 1} {𝓤 : Ura M} (𝓛 : Logic 𝓤) (b : ℕ) where
  open 𝓛 use {H}

  abbrev Row : ℕ → List (List ℕ) → Fml
  Row o ps = row Page full_share ps b o

  abbrev One : ℕ → List ℕ → Fml
  One o p = part_at Page full_share p b o

  pub snoc : (ps : List (List ℕ)) (p : List ℕ) (o at : ℕ) → at ≡ length ps * 4096 + o
      → ent 𝓤 (sep 𝓤 (sem 𝓛 (Row o ps)) (sem 𝓛 (One at p))) (sem 𝓛 (Row o (ps ++ p ∷ [])))
  snoc [] p o at e = qed 𝓛 (‵ (Row o []) ∷ ‵ (One at p) ∷ []) ∵ rewrite ! 1 (λ (k : ℕ). ‵ (One k p)) {x = o} (omega arith) refl $ move ! (1 ∷ 0 ∷ []) $ fjoin ! $ done !
  snoc (x ∷ ps) p o at e = let more : at ≡ suc (length ps) * 4096 + o = e in qed 𝓛 (‵ (Row o (x ∷ ps)) ∷ ‵ (One at p) ∷ []) ∵ fsplit ! $ move ! (1 ∷ 2 ∷ []) $
      use2 𝓛 (‵ (Row (o + 4096) (ps ++ p ∷ []))) (snoc ps p (o + 4096) at (omega arith)) $ move ! (1 ∷ 0 ∷ []) $ fjoin ! $ done !

  pub unsnoc : (ps : List (List ℕ)) (p : List ℕ) (o at : ℕ) → at ≡ length ps * 4096 + o
      → ent 𝓤 (sem 𝓛 (Row o (ps ++ p ∷ []))) (sep 𝓤 (sem 𝓛 (One at p)) (sem 𝓛 (Row o ps)))
  unsnoc [] p o at e = qed 𝓛 (‵ (Row o (p ∷ [])) ∷ []) ∵ fsplit ! $ rewrite ! 0 (λ (k : ℕ). ‵ (One k p)) {x = at} (omega arith) refl $ done !
  unsnoc (x ∷ ps) p o at e = let more : at ≡ suc (length ps) * 4096 + o = e in qed 𝓛 (‵ (Row o (x ∷ ps ++ p ∷ [])) ∷ []) ∵ fsplit ! $ move ! (1 ∷ []) $
      use1 𝓛 (‵ (One at p) ⊛ ‵ (Row (o + 4096) ps)) (unsnoc ps p (o + 4096) at (omega arith)) $ split ! $ move ! (2 ∷ 1 ∷ []) $ fjoin ! $ move ! (1 ∷ 0 ∷ []) $
      done !

  -- the pages are let go: the logic is affine
  pub all_room : (ps : List (List ℕ)) (n t o at : ℕ) → t ≡ length ps + n → at ≡ length ps * 4096 + o
      → ent 𝓤 (sep 𝓤 (sem 𝓛 (Row o ps)) (H.room (block n) b at)) (H.room (block t) b o)
  all_room [] n t o at e f = qed 𝓛 (‵ (Row o []) ∷ ‵ (froom (block n) b at) ∷ []) ∵ drop ! $
      rewrite ! 0 (λ (k : ℕ × ℕ). ‵ (froom (block k.0) b k.1)) {x = (t, o)} (let same : n ≡ t = omega arith in let here : at ≡ o = omega arith in λ i. (same i, here i)) refl $ done !
  all_room (p ∷ ps) n t o at e f = let more : at ≡ suc (length ps) * 4096 + o = f in let all : t ≡ suc (length ps) + n = e in let last : suc (length ps + n) ≡ t = omega arith in
      qed 𝓛 (‵ (Row o (p ∷ ps)) ∷ ‵ (froom (block n) b at) ∷ []) ∵ fsplit ! $
      use1 𝓛 (some (λ (v : Val). ‵ (fat full_share page b o v) ⊛ ‵ (Page.own_val p (v ∷ [])))) (part_out 𝓛 Page refl full_share p b o) $ pick ! (λ v. split ! $
      use1 𝓛 (‵ (froom page b o)) (𝓛.laws.at_room page b o v) $ move ! (2 ∷ 3 ∷ []) $
      use2 𝓛 (‵ (froom (block (length ps + n)) b (o + 4096))) (all_room ps n (length ps + n) (o + 4096) at refl (omega arith)) $ move ! (1 ∷ 0 ∷ []) $
      use2 𝓛 (‵ (froom (block (suc (length ps + n))) b o)) (𝓛.laws.room_cons page (length ps + n) b o) $
      rewrite ! 0 (λ (k : ℕ). ‵ (froom (block k) b o)) last refl $ keep ! (0 ∷ []) $ done !)
