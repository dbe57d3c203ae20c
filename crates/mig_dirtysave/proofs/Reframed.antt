-- The records around the frames say nothing of the frames.
use Rattle.mig_dirtysave.proofs.Common.{◌≡◌, ℕ, List, [], ◌∷◌, ◌++◌, refl, sym, ap, ◌∙◌, Kind, Pv, Hvm, FrameMap, GuestOf, headers, info_records, static_bodies, p2m_records, text_of, batch_records, batched, batched_bodies}
use Rattle.mig_records_pages.specs.PageData.{Frame}
use Rattle.mig_canon.specs.Canon.{records_in_order, pv_last_codes, vcpus_below, all_vcpus}

module _ (g : GuestOf) (frames : FrameMap) (batches : List (List Frame)) where
  -- the guest with other frames
  abbrev pub reframed : GuestOf
  reframed = record g { frames = frames }

  vcpus_alike : (n : ℕ) → 4096 ≡ n → all_vcpus reframed ≡ all_vcpus g
  unfolding all_vcpus
  vcpus_alike n is = ap (vcpus_below reframed) is ∙ sym (ap (vcpus_below g) is)

  bodies_alike : (k : Kind) → batched_bodies k reframed batches ≡ batched_bodies k g batches
  bodies_alike Hvm = refl
  bodies_alike Pv =
      ap (λ l. info_records Pv ++ (static_bodies g ++ (p2m_records Pv g ++ (batch_records batches ++ ((records_in_order pv_last_codes g ++ l) ++ (0, []) ∷ [])))))
      (vcpus_alike 4096 refl)

  pub batched_alike : batched reframed batches ≡ batched g batches
  batched_alike = ap (λ l. headers g.kind ++ text_of l) (bodies_alike g.kind)
