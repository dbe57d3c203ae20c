-- A formed guest of bytes whose blank form is whole is whole.
use Rattle.mig_pvtables.proofs.Common.{◌≡◌, ℕ, ◌*◌, ◌^◌, ◌<◌, IsSome, refl, sym, ap, ◌∙◌, arith, nat_cmp_total, nat_cmp-IsAntisymmetric, Pv, Hvm, Frame, IsFormed, GuestOf, p2m_key, vcpu_key, shared_key, blanked_frame, blank_of, blank, IsOfBytes, place_of, type_at, fits_field, field_place, field_value, frame_of_field, blanked_context, IsWhole, recursion_from_All, long_below, Kind, AreP2mFrames, FieldsFit, IsCompletePv}
use Rattle.mig_pvtables.proofs.BlankShape.{table_unlisted, entries_back, type_there, frame_there, part_there, listed_there, context_there}
use Rattle.mig_pvtables.proofs.BlankWhole.{still_used, still_said}
use Rattle.mig_pvtables.proofs.EachValue.{to_each, len_each}
use Rattle.mig_pvtables.proofs.PvGuests.{pv_complete, pv_faultless}
use Rattle.mig_pvtables.proofs.SameShape.{kept_p2m}
use Rattle.std.specs.FinMap as maps

module _ (g : GuestOf) where
  -- what holds of the blank form held before
  p2m_before : AreP2mFrames (blank_of Pv g).frames (blank_of Pv g).parts → AreP2mFrames g.frames g.parts
  p2m_before = kept_p2m (blank_of Pv g).frames g.frames (blank_of Pv g).parts g.parts (λ n. sym (type_there g n)) (λ k. sym (listed_there g k))

  module _ (bytes : IsOfBytes g) (formed : IsFormed g) where
    fields_before : FieldsFit (blank_of Pv g).frames (blank_of Pv g).parts → FieldsFit g.frames g.parts
    fields_before fit key context found code field most used =
        let small : field_value context field < 2 ^ 64 = long_below (8 * field_place field) context (recursion_from_All (λ b. b < 256) context (bytes.parts key context found)) in
        sym (ap (fits_field field) (type_there g (frame_of_field field (field_value context field))))
        ∙ ap (λ n. fits_field field (type_at (blank_of Pv g).frames n)) (sym (still_said g formed key context found code field most small used))
        ∙ fit key (blanked_context context) (context_there g key context found code) code field most (still_used g formed key context found code field most ∙ used)

    complete_before : IsCompletePv (blank_of Pv g) → IsCompletePv g
    complete_before complete =
        let p2m = p2m_before complete.p2m in
        record {
          p2m_there = sym (part_there g p2m_key) ∙ complete.p2m_there;
          shared_there = sym (part_there g shared_key) ∙ complete.shared_there;
          vcpu_there = sym (part_there g (vcpu_key 0)) ∙ complete.vcpu_there;
          p2m = p2m;
          targets = λ pfn x found.
              let still = to_each nat_cmp_total nat_cmp-IsAntisymmetric (blanked_frame g.parts) g.frames pfn x found in
              entries_back (place_of g.parts pfn) x (table_unlisted g.frames g.parts p2m pfn x found) (λ e. (n : ℕ) → e ≡ Frame n → IsSome (maps.get g.frames n))
              (λ level page lev has slot lt n e. sym (frame_there g n) ∙ complete.targets pfn (blanked_frame g.parts pfn x) still level page lev has slot lt n e);
          fields = fields_before complete.fields;
          few = omega (arith, complete.few, len_each nat_cmp_total nat_cmp-IsAntisymmetric (blanked_frame g.parts) g.frames);
        }

    before_case : (k : Kind) → g.kind ≡ k → IsWhole (blank_of k g) → IsWhole g
    before_case Hvm kind whole = whole
    before_case Pv kind whole = record { formed = formed; faultless = pv_faultless g kind (complete_before (pv_complete (blank_of Pv g) kind whole.faultless)) }

    pub whole_before : IsWhole (blank g) → IsWhole g
    whole_before whole = before_case g.kind refl whole
