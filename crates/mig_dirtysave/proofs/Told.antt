-- What a saver tells of a host, as frames that an image says, and the frames that this leaves.
use Rattle.mig_dirtysave.proofs.Common.{◌≡◌, ℕ, ◌-◌, ◌<◌, ◌≤◌, List, [], ◌∷◌, ◌++◌, map, Bool, true, false, cond, Option, Some, None, refl, sym, ap, subst, ◌∙◌, arith, All, length-map, map-append, Kind, Pv, Hvm, PageType, level_of, IsGuestFrame, FrameOf, FrameMap, is_type_of, top_of, IsSendableBatch, frames_told, FrameTold, telling_frames, all_told, AreSized, AreTold, frames_meant, most_width, fold, flat_map, nat_cmp, All-nil, All-cons, framed, EachEntry, IsWithin, IsSendable, told, frame_or_xtab, telling_frame, IsToldEntry, put_at, put_told, no_level}
use Rattle.std.proofs.Common.{◌==◌, eqb-true}
use Rattle.mig_pagetypes.specs.Limits.{pfn_limit}
use Rattle.mig_pagetypes.specs.declared.page_type.PageType.TheVariants.{Notab, Broken, Xalloc, Xtab}
use Rattle.mig_host_view.proofs.ViewedFrames.{not_absent, inside_is}
use Rattle.mig_records_pages.specs.PageData.{Frame}
use Rattle.mig_restore_form.specs.Mean.{type_in_guest, put_entry, put_entries}
use Rattle.mig_dirtysave_rounds.specs.Findings.{IsToldFrame}
use Rattle.mig_dirtysave_rounds.proofs.Steps.{got}
use Rattle.std.specs.FinMap as maps

-- ---- a type of a host's frame

type_stays : (kind : Kind) (t : PageType) → is_type_of kind t ≡ true → type_in_guest kind t ≡ t
type_stays Pv t is = refl
type_stays Hvm Notab is = refl
type_stays Hvm Broken is = refl
type_stays Hvm Xalloc is = refl
type_stays Hvm _ is = absurd (cc)

xtab_stays : (kind : Kind) → type_in_guest kind Xtab ≡ Xtab
xtab_stays Pv = refl
xtab_stays Hvm = refl

-- an HVM host has no tables
no_entries : (top : ℕ) (x : FrameOf) → level_of x.type ≡ None → EachEntry (IsWithin top) x
no_entries top x none level page is at slot lt = absurd (let no : ◌≡◌ {A = Option ℕ} None (Some level) = sym none ∙ is in cc)

entries_within : (kind : Kind) (width : ℕ) (x : FrameOf) → is_type_of kind x.type ≡ true → EachEntry (IsWithin (width - 1)) x → EachEntry (IsWithin (top_of kind width)) x
entries_within Pv width x of within = within
entries_within Hvm width x of within = no_entries 0 x (no_level x.type of)

put_type : (kind : Kind) (m : FrameMap) (p : ℕ) (t : PageType) (page : Option (List ℕ)) → is_type_of kind t ≡ true → framed m p (type_in_guest kind t) page ≡ maps.insert m p (record { type = t; page = page })
put_type kind m p t page is = ap (λ u. framed m p u page) (type_stays kind t is) ∙ there t (not_absent kind t is)
  where
    there : (u : PageType) → (u ≡ Xtab → ⊥) → framed m p u page ≡ maps.insert m p (record { type = u; page = page })
    there Xtab apart = absurd (apart refl)
    there _ apart = refl

module _ (kind : Kind) (width : ℕ) where
  -- ---- an entry

  module _ (narrow : width ≤ most_width) where
    sendable : (e : FrameTold) → IsToldEntry kind width e → IsSendable kind (top_of kind width) (telling_frame e)
    sendable e h = shown e.frame refl
      where
        low : e.pfn < pfn_limit
        low = omega (arith, h.inside, narrow)

        shown : (o : Option FrameOf) → e.frame ≡ o → IsSendable kind (top_of kind width) (e.pfn, frame_or_xtab o)
        shown None is = record {
          low = low;
          inside = inside_is kind width e.pfn h.inside;
          in_step = refl;
          whole = λ page at. absurd (let no : ◌≡◌ {A = Option (List ℕ)} None (Some page) = at in cc);
          type = xtab_stays kind;
          entries = no_entries (top_of kind width) (record { type = Xtab; page = None }) refl;
        }
        shown (Some f) is =
            let t = h.frame f is in
            record { low = low; inside = inside_is kind width e.pfn h.inside; in_step = t.in_step; whole = t.whole; type = type_stays kind f.type t.type; entries = entries_within kind width f t.type t.entries }

    all_sendable : (es : List FrameTold) → AreTold kind width es → All (IsSendable kind (top_of kind width)) (telling_frames es)
    all_sendable [] h = All-nil (IsSendable kind (top_of kind width))
    all_sendable (e ∷ es) h = All-cons (IsSendable kind (top_of kind width)) (telling_frame e) (telling_frames es) (sendable e h.0) (all_sendable es h.1)

    told_parts : (es fs : List FrameTold) → AreTold kind width (es ++ fs) → AreTold kind width es × AreTold kind width fs
    told_parts [] fs h = (tt, h)
    told_parts (e ∷ es) fs h = let (a, b) = told_parts es fs h.1 in ((h.0, a), b)

    pub batches_sendable : (batches : List (List FrameTold)) → AreSized batches → AreTold kind width (all_told batches) → All (IsSendableBatch kind (top_of kind width)) (map telling_frames batches)
    batches_sendable [] sized h = All-nil (IsSendableBatch kind (top_of kind width))
    batches_sendable (b ∷ batches) sized h =
        let (first, others) = told_parts b (all_told batches) h in
        All-cons (IsSendableBatch kind (top_of kind width)) (telling_frames b) (map telling_frames batches)
        (record { some = omega (arith, sized.0.some, length-map b telling_frame); most = omega (arith, sized.0.most, length-map b telling_frame); all = all_sendable b first })
        (batches_sendable batches sized.1 others)

  -- ---- what they mean

  put_out : (m : FrameMap) (e : FrameTold) → IsToldEntry kind width e → put_entry kind m (told (telling_frame e)) ≡ put_told m e
  put_out m e h = by e.frame refl
    where
      by : (o : Option FrameOf) → e.frame ≡ o → put_entry kind m (told (e.pfn, frame_or_xtab o)) ≡ put_at m e.pfn o
      by None is = ap (λ t. framed m e.pfn t None) (xtab_stays kind)
      by (Some f) is = put_type kind m e.pfn f.type f.page (h.frame f is).type

  put_outs : (m : FrameMap) (es : List FrameTold) → AreTold kind width es → put_entries kind m (map told (telling_frames es)) ≡ fold put_told m es
  put_outs m [] h = refl
  put_outs m (e ∷ es) h = ap (λ n. put_entries kind n (map told (telling_frames es))) (put_out m e h.0) ∙ put_outs (put_told m e) es h.1

  flat_outs : (batches : List (List FrameTold)) → flat_map (λ (fs : List Frame). fs) (map telling_frames batches) ≡ telling_frames (all_told batches)
  flat_outs [] = refl
  flat_outs (b ∷ batches) = ap (λ l. telling_frames b ++ l) (flat_outs batches) ∙ sym (map-append telling_frame b (all_told batches))

  pub told_is_meant : (batches : List (List FrameTold)) → AreTold kind width (all_told batches) → frames_told kind (map telling_frames batches) ≡ frames_meant (all_told batches)
  told_is_meant batches h = ap (λ fs. put_entries kind maps.empty (map told fs)) (flat_outs batches) ∙ put_outs maps.empty (all_told batches) h

  -- ---- the frames that they leave

  abbrev Left : ℕ → FrameOf → Type 0
  Left p f = (p < width) × IsToldFrame kind width f

  left : (es : List FrameTold) (m : FrameMap) → AreTold kind width es → ((p : ℕ) (f : FrameOf) → maps.get m p ≡ Some f → Left p f) → (p : ℕ) (f : FrameOf) → maps.get (fold put_told m es) p ≡ Some f → Left p f
  left [] m h base = base
  left (e ∷ es) m h base = left es (put_told m e) h.1 (λ p f is. next p f (p == e.pfn) refl (sym (got m e.pfn e.frame p) ∙ is))
    where
      next : (p : ℕ) (f : FrameOf) (b : Bool) → (p == e.pfn) ≡ b → cond (p == e.pfn) e.frame (maps.get m p) ≡ Some f → Left p f
      next p f true here is = let told = h.0 in (subst (λ q. q < width) (sym (eqb-true p e.pfn here)) told.inside, told.frame f (sym (ap (λ b. cond b e.frame (maps.get m p)) here) ∙ is))
      next p f false other is = base p f (sym (ap (λ b. cond b e.frame (maps.get m p)) other) ∙ is)

  pub left_is_formed : (es : List FrameTold) → width ≤ most_width → AreTold kind width es → (p : ℕ) (f : FrameOf) → maps.get (frames_meant es) p ≡ Some f → IsGuestFrame kind (top_of kind width) p f
  left_is_formed es narrow h p f is =
      let (low, t) = left es maps.empty h (λ q x at. absurd (let no : ◌≡◌ {A = Option FrameOf} None (Some x) = sym (maps.get-empty nat_cmp q) ∙ at in cc)) p f is in
      record {
        small = omega (arith, low, narrow);
        inside = inside_is kind width p low;
        is = record { there = not_absent kind f.type t.type; in_step = t.in_step; whole = t.whole };
        type = t.type;
        entries = entries_within kind width f t.type t.entries;
      }
