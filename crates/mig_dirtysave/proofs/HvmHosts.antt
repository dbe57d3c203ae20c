-- The frames of an HVM host are sent as they are, and are those of its view.
use Rattle.mig_dirtysave.proofs.Common.{◌≡◌, true, None, ap, subst, nat_cmp_total, nat_cmp-IsAntisymmetric, Hvm, level_of, FrameOf, is_type_of, HostOf, HostFrame, IsValid, same_each, hvm_view, without_machine, footprint_of, names_in, table_in, form_page, form_of_print, forms, no_level}

module _ (h : HostOf) (valid : IsValid h) (hvm : h.kind ≡ Hvm) where
  plain : (frame : HostFrame) → level_of frame.type ≡ None → form_of_print (footprint_of h.frames frame) ≡ without_machine frame
  plain frame none = ap (λ l. let t = table_in l frame.page in let f : FrameOf = record { type = frame.type; page = form_page t (names_in h.frames t) frame.page } in f) none

  pub forms_are : forms h.frames ≡ (hvm_view h).frames
  forms_are = same_each nat_cmp_total nat_cmp-IsAntisymmetric (λ _ frame. form_of_print (footprint_of h.frames frame)) (λ _ frame. without_machine frame) h.frames (λ pfn frame is.
      plain frame (no_level frame.type (subst (λ k. is_type_of k frame.type ≡ true) hvm (valid.frames pfn frame is).type)))
