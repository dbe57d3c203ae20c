-- The first tables that no stream can have, and what a finding says of them.
use Rattle.mig_dirtysave_rounds.proofs.Common.{arith, ◌≡◌, ℕ, zero, suc, ◌<◌, Bool, true, false, cond, Option, Some, None, refl, sym, ap, subst, ◌∙◌, inl, inr, ⊎_elim, ◌⊎◌, ◌==◌, eqb-true, nat_tests, FrameOf, HostFrames, Pfns, Footprint, footprint, Worst, table_of, superpage_in, superpage_slot, lost_in, lost_slot, form_of_print, Finding, judge, judged, frame_sent, is_deferred, IsWorst, or_first, place, within_set, super_of, lost_of, table_fault, worst_fault, IsUnsound}
use Rattle.mig_headers.specs.declared.unsound.Unsound.{Unsound}
use Rattle.mig_dirtysave_rounds.specs.Sends.{first_pfn}
use Rattle.mig_headers.specs.declared.unsound.Unsound.TheVariants as unsounds

not_none : {A : Type 0} (x : A) → ◌≡◌ {A = Option A} None (Some x) → ⊥
not_none x e = cc

differ : false ≡ true → ⊥
differ e = cc

-- ---- the first PFN that has a slot

first_at : (f : ℕ → Option ℕ) (n : ℕ) → first_pfn f (suc n) ≡ or_first (first_pfn f n) (place n (f n))
unfolding first_pfn
first_at f n = refl

first_zero : (f : ℕ → Option ℕ) → first_pfn f zero ≡ None
unfolding first_pfn
first_zero f = refl

same_place : (n p s : ℕ) (o : Option ℕ) (f : ℕ → Option ℕ) → f n ≡ o → place n o ≡ Some (p, s) → f p ≡ Some s
same_place n p s None f e is = absurd (not_none (p, s) is)
same_place n p s (Some t) f e is =
    let at : ◌≡◌ {A = ℕ × ℕ} (n, t) (p, s) = cc in
    ap f (sym (ap (λ (x : ℕ × ℕ). x.0) at)) ∙ e ∙ ap Some (ap (λ (x : ℕ × ℕ). x.1) at)

first_or : (x y : Option (ℕ × ℕ)) (p s : ℕ) → or_first x y ≡ Some (p, s) → (x ≡ Some (p, s)) ⊎ (y ≡ Some (p, s))
first_or None y p s e = inr e
first_or (Some a) y p s e = inl e

first_is : (f : ℕ → Option ℕ) (n p s : ℕ) → first_pfn f n ≡ Some (p, s) → f p ≡ Some s
first_is f zero p s e = absurd (not_none (p, s) (sym (first_zero f) ∙ e))
first_is f (suc n) p s e =
    ⊎_elim (λ (a : first_pfn f n ≡ Some (p, s)). first_is f n p s a) (λ (b : place n (f n) ≡ Some (p, s)). same_place n p s (f n) f refl b)
    (first_or (first_pfn f n) (place n (f n)) p s (sym (first_at f n) ∙ e))

both_none : {A : Type 0} (x y : Option A) → or_first x y ≡ None → (x ≡ None) × (y ≡ None)
both_none None y e = (refl, e)
both_none (Some a) y e = absurd (not_none a (sym e))

no_place : (n : ℕ) (o : Option ℕ) → place n o ≡ None → o ≡ None
no_place n None e = refl
no_place n (Some s) e = absurd (not_none (n, s) (sym e))

not_last : (n q : ℕ) → (q == n) ≡ false → q < suc n → q < n
not_last n q is less = grind (arith, nat_tests)

none_at : (f : ℕ → Option ℕ) (n q : ℕ) (b : Bool) → (q == n) ≡ b → place n (f n) ≡ None → q < suc n → (q < n → f q ≡ None) → f q ≡ None
none_at f n q true is here less below = ap f (eqb-true q n is) ∙ no_place n (f n) here
none_at f n q false is here less below = below (not_last n q is less)

pub first_none : (f : ℕ → Option ℕ) (n : ℕ) → first_pfn f n ≡ None → (q : ℕ) → q < n → f q ≡ None
first_none f zero e q less = absurd (omega arith)
first_none f (suc n) e q less =
    let (before, here) = both_none (first_pfn f n) (place n (f n)) (sym (first_at f n) ∙ e) in
    none_at f n q (q == n) refl here less (λ l. first_none f n before q l)

pub first_same : (f g : ℕ → Option ℕ) (n : ℕ) → ((q : ℕ) → q < n → f q ≡ g q) → first_pfn f n ≡ first_pfn g n
first_same f g zero same = first_zero f ∙ sym (first_zero g)
first_same f g (suc n) same =
    first_at f n ∙ ap (λ x. or_first x (place n (f n))) (first_same f g n (λ q l. same q (omega arith))) ∙ ap (λ o. or_first (first_pfn g n) (place n o)) (same n (omega arith)) ∙ sym (first_at g n)

-- ---- what a judgement says

judge_super : (a b : Option ℕ) (c : FrameOf) → super_of (judge a b c) ≡ a
judge_super (Some s) b c = refl
judge_super None (Some s) c = refl
judge_super None None c = refl

pub super_is : (o : Option Footprint) → super_of (judged o) ≡ superpage_slot o
super_is None = refl
super_is (Some f) = judge_super (superpage_in (table_of f)) (lost_in (table_of f) f.names) (form_of_print f)

judge_lost : (a b : Option ℕ) (c : FrameOf) → a ≡ None → lost_of (judge a b c) ≡ b
judge_lost (Some s) b c e = absurd (not_none s (sym e))
judge_lost None (Some s) c e = refl
judge_lost None None c e = refl

pub lost_is : (o : Option Footprint) → superpage_slot o ≡ None → lost_of (judged o) ≡ lost_slot o
lost_is None e = refl
lost_is (Some f) e = judge_lost (superpage_in (table_of f)) (lost_in (table_of f) f.names) (form_of_print f) e

judge_says : (a b : Option ℕ) (c : FrameOf) (s : ℕ) → lost_of (judge a b c) ≡ Some s → b ≡ Some s
judge_says (Some t) b c s e = absurd (not_none s e)
judge_says None (Some t) c s e = e
judge_says None None c s e = absurd (not_none s e)

lost_says : (o : Option Footprint) (s : ℕ) → lost_of (judged o) ≡ Some s → lost_slot o ≡ Some s
lost_says None s e = absurd (not_none s e)
lost_says (Some f) s e = judge_says (superpage_in (table_of f)) (lost_in (table_of f) f.names) (form_of_print f) s e

pub good_when : (j : Finding) → super_of j ≡ None → lost_of j ≡ None → is_deferred j ≡ false
good_when Finding.Gone e f = refl
good_when (Finding.Shows frame) e f = refl
good_when (Finding.HasSuperpage type s) e f = absurd (not_none s (sym e))
good_when (Finding.LacksFrame type s) e f = absurd (not_none s (sym f))

judge_good : (a b : Option ℕ) (c : FrameOf) → is_deferred (judge a b c) ≡ false → (a ≡ None) × (b ≡ None) × (frame_sent (judge a b c) ≡ Some c)
judge_good (Some s) b c e = absurd (differ (sym e))
judge_good None (Some s) c e = absurd (differ (sym e))
judge_good None None c e = (refl, refl, refl)

-- a frame that isn't deferred has neither, and is told as a stream has it
pub good_super : (o : Option Footprint) → is_deferred (judged o) ≡ false → superpage_slot o ≡ None
good_super None e = refl
good_super (Some f) e = (judge_good (superpage_in (table_of f)) (lost_in (table_of f) f.names) (form_of_print f) e).0

pub good_lost : (o : Option Footprint) → is_deferred (judged o) ≡ false → lost_slot o ≡ None
good_lost None e = refl
good_lost (Some f) e = (judge_good (superpage_in (table_of f)) (lost_in (table_of f) f.names) (form_of_print f) e).1

pub good_form : (f : Footprint) → is_deferred (judged (Some f)) ≡ false → frame_sent (judged (Some f)) ≡ Some (form_of_print f)
good_form f e = (judge_good (superpage_in (table_of f)) (lost_in (table_of f) f.names) (form_of_print f) e).2

some_of : (b : Bool) (x : Option ℕ) (s : ℕ) → cond b x None ≡ Some s → x ≡ Some s
some_of true x s e = e
some_of false x s e = absurd (not_none s e)

-- over any machine: what is answered as the worst stands there
pub worst_stands : (n : ℕ) (set : Pfns) (frames : HostFrames) (worst : Worst) (u : Unsound) → IsWorst n set frames worst → worst_fault worst ≡ Some u → IsUnsound frames u
worst_stands n set frames worst u h is = go worst.superpage worst.lost refl refl is
  where
    at_super : (p s : ℕ) → worst.superpage ≡ Some (p, s) → superpage_slot (footprint frames p) ≡ Some s
    at_super p s e =
        let f = footprint frames p in
        sym (super_is f) ∙ some_of (set p) (super_of (judged f)) s (first_is (within_set set (λ q. super_of (judged (footprint frames q)))) n p s (sym h.superpage ∙ e))

    at_lost : (p s : ℕ) → worst.lost ≡ Some (p, s) → lost_slot (footprint frames p) ≡ Some s
    at_lost p s e =
        let f = footprint frames p in
        lost_says f s (some_of (set p) (lost_of (judged f)) s (first_is (within_set set (λ q. lost_of (judged (footprint frames q)))) n p s (sym h.lost ∙ e)))

    same_unsound : (x y : Unsound) → ◌≡◌ {A = Option Unsound} (Some x) (Some y) → x ≡ y
    same_unsound x y e = cc

    go : (x y : Option (ℕ × ℕ)) → worst.superpage ≡ x → worst.lost ≡ y → table_fault x y ≡ Some u → IsUnsound frames u
    go (Some a) y e f t = subst (IsUnsound frames) (same_unsound (unsounds.Superpage a.0 a.1) u t) (at_super a.0 a.1 e)
    go None (Some b) e f t = subst (IsUnsound frames) (same_unsound (unsounds.NoFrame b.0 b.1) u t) (at_lost b.0 b.1 f)
    go None None e f t = absurd (not_none u t)

pub no_fault : (x y : Option (ℕ × ℕ)) → table_fault x y ≡ None → (x ≡ None) × (y ≡ None)
no_fault (Some a) y e = absurd (not_none (unsounds.Superpage a.0 a.1) (sym e))
no_fault None (Some b) e = absurd (not_none (unsounds.NoFrame b.0 b.1) (sym e))
no_fault None None e = (refl, refl)

pub same_fault : (x y z : Option (ℕ × ℕ)) → (x ≡ None → y ≡ z) → table_fault x y ≡ table_fault x z
same_fault (Some a) y z same = refl
same_fault None y z same = ap (table_fault None) (same refl)
