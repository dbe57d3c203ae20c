-- The frames that a list names, one after another, from the end of the list.
use Rattle.mig_pvtables.proofs.Common.{◌≡◌, ℕ, ◌+◌, ◌-◌, ◌/◌, ◌<◌, ◌≤◌, suc, cond, List, length, find, range_with_len, ◌==◌, Option, Some, None, refl, sym, ap, ◌∙◌, arith, nat_cmp, nat_cmp_total, nat_cmp-IsAntisymmetric, ne_eqb, eq-eqb, lt-ltb, FrameOf, FrameMap, GuestOf, PartMap, p2m_key, long_at, each_value, only, with_other_page, written_at, written_from, written_where_listed, count_in, listed, listed_in}
use Rattle.mig_pvtables.specs.BlankSteps.{place_from_in}
use Rattle.mig_pvtables.specs.P2mFrames.{place_in}
use Rattle.mig_pvtables.proofs.BlankFrames.{WithFrames}
use Rattle.mig_pvtables.proofs.EachValue.{each_same, same_each}
use Rattle.mig_pvtables.proofs.Only.{then_only}
use Rattle.mig_pvtables.proofs.Searches.{overwritten}
use Rattle.std.specs.FinMap as maps

-- behind the end none is listed
place_end : (o : Option (List ℕ)) (pfn : ℕ) → place_from_in o (count_in o) pfn ≡ None
unfolding place_from_in
place_end None pfn = refl
place_end (Some bytes) pfn = ap (λ n. find (λ j. long_at bytes j == pfn) (range_with_len (length bytes / 8) n)) (let e : length bytes / 8 - length bytes / 8 ≡ 0 = omega arith in e)

-- from the first on, each has its place
place_start : (o : Option (List ℕ)) (pfn : ℕ) → place_from_in o 0 pfn ≡ place_in o pfn
unfolding place_from_in place_in
place_start None pfn = refl
place_start (Some bytes) pfn = ap (λ n. find (λ j. long_at bytes j == pfn) (range_with_len 0 n)) (let e : length bytes / 8 - 0 ≡ length bytes / 8 = omega arith in e)

-- one more index
place_step : (o : Option (List ℕ)) (k n pfn : ℕ) → listed_in o k ≡ Some n → k < count_in o → place_from_in o k pfn ≡ cond (n == pfn) (Some k) (place_from_in o (k + 1) pfn)
unfolding place_from_in
place_step None k n pfn is lt = cc
place_step (Some bytes) k n pfn is lt =
    let here : Some (long_at bytes k) ≡ Some n = sym (ap (λ b. cond b (Some (long_at bytes k)) None) (lt-ltb k (length bytes / 8) lt)) ∙ is in let same : long_at bytes k ≡ n = cc in
    ap (λ c. find (λ j. long_at bytes j == pfn) (range_with_len k c)) (let e : length bytes / 8 - k ≡ suc (length bytes / 8 - (k + 1)) = omega (arith, lt) in e)
    ∙ ap (λ v. cond (v == pfn) (Some k) (find (λ j. long_at bytes j == pfn) (range_with_len (k + 1) (length bytes / 8 - (k + 1))))) same

module _ (f : ℕ → List ℕ) where
  written_again : (k : ℕ) (place : Option ℕ) (x : FrameOf) → with_other_page (f k) (written_at f place x) ≡ with_other_page (f k) x
  written_again k None x = refl
  written_again k (Some j) x = ap (λ (o : Option (List ℕ)). record { type = x.type; page = o }) (overwritten (λ _. f j) (f k) x.page)

  module _ (parts : PartMap) (m : FrameMap) where
    next_written : (k n : ℕ) → listed parts k ≡ Some n → k < count_in (maps.get parts p2m_key) → each_value (only nat_cmp n (with_other_page (f k))) (each_value (written_from parts (k + 1) f) m) ≡ each_value (written_from parts k f) m
    next_written k n is lt = then_only nat_cmp_total nat_cmp-IsAntisymmetric m n (with_other_page (f k)) (written_from parts (k + 1) f) (written_from parts k f)
        (λ x. written_again k (later n) x ∙ sym (ap (λ o. written_at f o x) (step n ∙ ap (λ b. cond b (Some k) (later n)) (eq-eqb n n refl))))
        (λ q x _ ne. sym (ap (λ o. written_at f o x) (step q ∙ ap (λ b. cond b (Some k) (later q)) (ne_eqb n q (λ e. ne (sym e))))))
      where
        later : ℕ → Option ℕ
        later q = place_from_in (maps.get parts p2m_key) (k + 1) q

        step : (q : ℕ) → place_from_in (maps.get parts p2m_key) k q ≡ cond (n == q) (Some k) (later q)
        step q = place_step (maps.get parts p2m_key) k n q is lt

-- on the way from g the frames that are listed from k on hold their pages
pub record WrittenFrom (f : ℕ → List ℕ) (g : GuestOf) (k : ℕ) (now : GuestOf) : Type 0 where
  pub most : k ≤ count_in (maps.get g.parts p2m_key)
  pub done : now ≡ WithFrames g (each_value (written_from g.parts k f) g.frames)

module _ {f : ℕ → List ℕ} {g : GuestOf} where
  pub listed_start : {n : ℕ} → n ≡ count_in (maps.get g.parts p2m_key) → WrittenFrom f g n g
  listed_start {n = n} is = record {
    most = omega (arith, is);
    done = ap (WithFrames g) (sym (each_same nat_cmp_total nat_cmp-IsAntisymmetric (written_from g.parts n f) g.frames (λ q x _.
        ap (λ k. written_from g.parts k f q x) is ∙ ap (λ o. written_at f o x) (place_end (maps.get g.parts p2m_key) q))));
  }

  module _ {index : ℕ} {now : GuestOf} (is : WrittenFrom f g index now) where
    pub listed_next : (k : ℕ) → index ≡ k + 1 → {new : GuestOf} {n : ℕ} → Some n ≡ listed now.parts k → new ≡ WithFrames now (each_value (only nat_cmp n (with_other_page (f k))) now.frames) → WrittenFrom f g k new
    listed_next k step {n = n} found one = record {
      most = omega (arith, step, is.most);
      done = one ∙ ap (λ (s : GuestOf). WithFrames s (each_value (only nat_cmp n (with_other_page (f k))) s.frames)) (is.done ∙ ap (λ j. WithFrames g (each_value (written_from g.parts j f) g.frames)) step)
          ∙ ap (WithFrames g) (next_written f g.parts g.frames k n (sym (found ∙ ap (λ (s : GuestOf). listed s.parts k) is.done)) (omega (arith, step, is.most)));
    }

    pub listed_end : index ≡ 0 → now ≡ WithFrames g (each_value (written_where_listed g.parts f) g.frames)
    listed_end zero =
        is.done ∙ ap (WithFrames g) (same_each nat_cmp_total nat_cmp-IsAntisymmetric (written_from g.parts index f) (written_where_listed g.parts f) g.frames (λ q x _.
        ap (λ k. written_from g.parts k f q x) zero ∙ ap (λ o. written_at f o x) (place_start (maps.get g.parts p2m_key) q)))
