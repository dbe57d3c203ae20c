-- The guest that is sent of a PV host: the view's parts with the frames as they are sent. Its blank form is the view, and it
-- is complete.
use Rattle.mig_dirtysave.proofs.Common.{◌≡◌, ℕ, List, length, Option, Some, refl, sym, ap, subst, ◌∙◌, arith, is_some, IsSome, nat_cmp_total, nat_cmp-IsAntisymmetric, Kind, Pv, level_of, part_exact, part_total, Entry, Frame, IsFormed, IsGuestFrame, FrameOf, FrameMap, GuestOf, HostOf, HostFrame, IsValid, pfn_in, p2m_key, each_value, blanked_page, blanked_part, blank, type_at, fits_field, is_used_somewhere, field_value, frame_of_field, IsWhole, same_each, stays_each, normalised_of, IsSound, view, guest_in, top_of, without_machine, viewed_whole, footprint_of, form_of_print, forms, HasNoEmulators, blanked_frame, blank_of, place_in, place_of, to_each, len_each, each_each, renamed, renamed_frame, viewed_blank, pv_plain}
use Rattle.mig_pvtables.specs.WholePv.{AreP2mFrames, IsCompletePv}
use Rattle.mig_pvtables.proofs.BlankShape.{table_unlisted, entries_back, type_there, frame_there}
use Rattle.mig_pvtables.proofs.PvGuests.{pv_complete}
use Rattle.mig_pvtables.proofs.SameShape.{kept_p2m}
use Rattle.mig_dirtysave.proofs.Tables.{same_page}
use Rattle.std.specs.FinMap as maps

module _ (h : HostOf) where
  -- the host's guest with PFNs in it, not yet blank
  abbrev renamed_host : GuestOf
  renamed_host = renamed is_used_somewhere (pfn_in h.frames) (guest_in h)

  abbrev pub pv_view : GuestOf
  pv_view = blank_of Pv renamed_host

  -- the guest that is sent
  abbrev pub pv_sent : GuestOf
  pv_sent = record pv_view { frames = forms h.frames }

  -- ---- its frames in blank form

  same_place : (pfn : ℕ) → place_of pv_sent.parts pfn ≡ place_of renamed_host.parts pfn
  same_place pfn = ap (λ (o : Option (List ℕ)). place_in o pfn) (stays_each part_total part_exact blanked_part p2m_key (λ _. refl) renamed_host.parts)

  same_frame : (pfn : ℕ) (frame : HostFrame) → blanked_frame pv_sent.parts pfn (form_of_print (footprint_of h.frames frame)) ≡ blanked_frame renamed_host.parts pfn (renamed_frame (pfn_in h.frames) (without_machine frame))
  same_frame pfn frame =
      ap (λ (p : Option (List ℕ)). record { type = frame.type; page = p })
      (ap (λ o. blanked_page o (level_of frame.type) (form_of_print (footprint_of h.frames frame)).page) (same_place pfn) ∙ same_page h.frames (place_of renamed_host.parts pfn) (level_of frame.type) frame.page)

  same_frames : each_value (blanked_frame pv_sent.parts) pv_sent.frames ≡ pv_view.frames
  same_frames =
      each_each nat_cmp_total nat_cmp-IsAntisymmetric (blanked_frame pv_sent.parts) (λ pfn frame. form_of_print (footprint_of h.frames frame)) h.frames
      ∙ same_each nat_cmp_total nat_cmp-IsAntisymmetric _ _ h.frames (λ pfn frame is. same_frame pfn frame)
      ∙ sym (ap (each_value (blanked_frame renamed_host.parts)) (each_each nat_cmp_total nat_cmp-IsAntisymmetric (λ pfn frame. renamed_frame (pfn_in h.frames) frame) (λ pfn frame. without_machine frame) h.frames)
      ∙ each_each nat_cmp_total nat_cmp-IsAntisymmetric (blanked_frame renamed_host.parts) (λ pfn frame. renamed_frame (pfn_in h.frames) (without_machine frame)) h.frames)

  types : (n : ℕ) → type_at pv_sent.frames n ≡ type_at pv_view.frames n
  types n = sym (type_there pv_sent n) ∙ ap (λ (m : FrameMap). type_at m n) same_frames

  there : (n : ℕ) → is_some (maps.get pv_sent.frames n) ≡ is_some (maps.get pv_view.frames n)
  there n = sym (frame_there pv_sent n) ∙ ap (λ (m : FrameMap). is_some (maps.get m n)) same_frames

  module _ (valid : IsValid h) (sound : IsSound h) (pv : h.kind ≡ Pv) where
    pub pv_seen : view h ≡ pv_view
    pv_seen = ap (λ k. normalised_of k (pfn_in h.frames) (guest_in h)) pv

    whole : IsWhole pv_view
    whole = subst IsWhole pv_seen (viewed_whole h valid sound)

    -- it has no parts of emulators
    pub plain : HasNoEmulators pv_view.parts
    plain = pv_plain pv_view whole.formed pv

    -- ---- its blank form

    still_blank : blank_of Pv pv_view ≡ pv_view
    still_blank = subst (λ (k : Kind). blank_of k pv_view ≡ pv_view) pv (subst (λ (g : GuestOf). blank g ≡ g) pv_seen (viewed_blank h valid sound))

    pub sent_blank : blank pv_sent ≡ pv_view
    sent_blank = ap (λ k. blank_of k pv_sent) pv ∙ (λ i. record pv_view { frames = same_frames i; parts = ap (λ (g : GuestOf). g.parts) still_blank i })

    -- ---- it is well formed, and complete

    pub sent_formed : ((pfn : ℕ) (frame : FrameOf) → maps.get pv_sent.frames pfn ≡ Some frame → IsGuestFrame h.kind (top_of h.kind h.width) pfn frame) → IsFormed pv_sent
    sent_formed frames = record { top = whole.formed.top; frames = frames; parts = whole.formed.parts; policies = whole.formed.policies }

    seen_complete : IsCompletePv pv_view
    seen_complete = pv_complete pv_view pv whole.faultless

    p2m : AreP2mFrames pv_sent.frames pv_sent.parts
    p2m = kept_p2m pv_view.frames pv_sent.frames pv_view.parts pv_sent.parts types (λ k. refl) seen_complete.p2m

    pub sent_complete : IsCompletePv pv_sent
    sent_complete = record {
      p2m_there = seen_complete.p2m_there;
      shared_there = seen_complete.shared_there;
      vcpu_there = seen_complete.vcpu_there;
      p2m = p2m;
      targets = λ pfn x found.
          let still = sym (ap (λ (m : FrameMap). maps.get m pfn) same_frames) ∙ to_each nat_cmp_total nat_cmp-IsAntisymmetric (blanked_frame pv_sent.parts) pv_sent.frames pfn x found in
          entries_back (place_of pv_sent.parts pfn) x (table_unlisted pv_sent.frames pv_sent.parts p2m pfn x found) (λ (e : Entry). (n : ℕ) → e ≡ Frame n → IsSome (maps.get pv_sent.frames n))
          (λ level page lev has slot lt n e. there n ∙ seen_complete.targets pfn (blanked_frame pv_sent.parts pfn x) still level page lev has slot lt n e);
      fields = λ key context found code field most used.
          ap (fits_field field) (types (frame_of_field field (field_value context field))) ∙ seen_complete.fields key context found code field most used;
      few = omega (arith, seen_complete.few, len_each nat_cmp_total nat_cmp-IsAntisymmetric (blanked_frame pv_sent.parts) pv_sent.frames, ap (λ (m : FrameMap). length (maps.entries m)) same_frames);
    }
