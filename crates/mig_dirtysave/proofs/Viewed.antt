-- The image of a host whose frames were sent in any records.
use Rattle.mig_dirtysave.proofs.Common.{◌≡◌, ℕ, ◌≤◌, ◌^◌, List, ◌++◌, length, map, refl, sym, ap, subst, ◌∙◌, arith, All, length-map, Kind, Pv, Hvm, FrameMap, GuestOf, HostOf, IsValid, blank, IsWhole, IsSound, view, hvm_view, top_of, viewed_whole, Accepted, IsSendableBatch, frames_told, batched, bare_guest, FrameTold, telling_frames, all_told, AreSized, AreTold, frames_meant, forms, IsComplete, TellFrames, bare_is, bare_plain, bare_whole, batched_bare}
use Rattle.mig_pvtables.proofs.HvmGuests.{hvm_blank, hvm_complete}
use Rattle.mig_host_view.proofs.HostViews.{hvm_viewed}
use Rattle.mig_records_pages.specs.PageData.{Frame}
use Rattle.mig_canon.proofs.Batched.{batched_is_accepted}
use Rattle.mig_dirtysave.proofs.Told.{batches_sendable, told_is_meant, left_is_formed}
use Rattle.mig_dirtysave.proofs.Reframed.{batched_alike}
use Rattle.mig_dirtysave.proofs.HvmHosts.{forms_are}
use Rattle.mig_dirtysave.proofs.PvHosts.{pv_view, pv_sent, plain, pv_seen, sent_blank, sent_formed, sent_complete}
use Rattle.std.specs.FinMap as maps

module _ (h : HostOf) (valid : IsValid h) (sound : IsSound h) (batches : List (List FrameTold)) (sized : AreSized batches) (are_told : AreTold h.kind h.width (all_told batches))
    (few : length batches ≤ 2 ^ 27) (means : frames_meant (all_told batches) ≡ forms h.frames) (rest : List ℕ) where
  abbrev records : List (List Frame)
  records = map telling_frames batches

  sendable : All (IsSendableBatch h.kind (top_of h.kind h.width)) records
  sendable = batches_sendable h.kind h.width valid.width batches sized are_told

  few_records : length records ≤ 2 ^ 27
  few_records = omega (arith, few, length-map batches telling_frames)

  tell : frames_told h.kind records ≡ forms h.frames
  tell = told_is_meant h.kind h.width batches are_told ∙ means

  -- the guest that is sent is accepted in its blank form, the view
  hvm_case : h.kind ≡ Hvm → Accepted (batched (view h) records ++ rest) (bare_guest (view h)) rest
  hvm_case hvm =
      let seen = hvm_view h in
      let blanked = hvm_blank seen hvm in
      let bare = bare_guest seen in
      let (whole, blanked_bare) = bare_whole seen Hvm hvm (subst IsWhole (hvm_viewed h hvm) (viewed_whole h valid sound)) blanked in
      let complete : IsComplete h.kind bare = subst (λ (k : Kind). IsComplete k bare) (sym hvm) (hvm_complete bare hvm whole.faultless) in
      let tells : TellFrames bare records = record {
        sendable = subst (λ (k : Kind). All (IsSendableBatch h.kind (top_of k h.width)) records) hvm sendable;
        few = few_records;
        tell = tell ∙ forms_are h valid hvm;
      } in
      subst (λ (g : GuestOf). Accepted (batched g records ++ rest) (bare_guest g) rest) (sym (hvm_viewed h hvm))
      (subst (λ (l : List ℕ). Accepted (l ++ rest) bare rest) (batched_bare seen records)
      (subst (λ (g : GuestOf). Accepted (batched bare records ++ rest) g rest) blanked_bare
      (batched_is_accepted bare records rest whole.formed (bare_plain seen) complete tells)))

  pv_case : h.kind ≡ Pv → Accepted (batched (view h) records ++ rest) (bare_guest (view h)) rest
  pv_case pv =
      let seen = pv_view h in
      let sent = pv_sent h in
      let formed = sent_formed h valid sound pv
      (λ pfn frame is. left_is_formed h.kind h.width (all_told batches) valid.width are_told pfn frame (ap (λ (m : FrameMap). maps.get m pfn) means ∙ is)) in
      let complete : IsComplete h.kind sent = subst (λ (k : Kind). IsComplete k sent) (sym pv) (sent_complete h valid sound pv) in
      let tells : TellFrames sent records = record { sendable = sendable; few = few_records; tell = tell } in
      subst (λ (g : GuestOf). Accepted (batched g records ++ rest) (bare_guest g) rest) (sym (pv_seen h valid sound pv))
      (subst (λ (g : GuestOf). Accepted (batched seen records ++ rest) g rest) (sent_blank h valid sound pv ∙ sym (bare_is seen (plain h valid sound pv)))
      (subst (λ (l : List ℕ). Accepted (l ++ rest) (blank sent) rest) (batched_alike seen (forms h.frames) records)
      (batched_is_accepted sent records rest formed (plain h valid sound pv) complete tells)))

  by_kind : (k : Kind) → h.kind ≡ k → Accepted (batched (view h) records ++ rest) (bare_guest (view h)) rest
  by_kind Pv is = pv_case is
  by_kind Hvm is = hvm_case is

  accepted : Accepted (batched (view h) records ++ rest) (bare_guest (view h)) rest
  accepted = by_kind h.kind refl

pub saved_is_viewed : (h : HostOf) (batches : List (List FrameTold)) (rest : List ℕ) → IsValid h → IsSound h
    → AreSized batches → AreTold h.kind h.width (all_told batches) → length batches ≤ 2 ^ 27 → frames_meant (all_told batches) ≡ forms h.frames
    → Accepted (batched (view h) (map telling_frames batches) ++ rest) (bare_guest (view h)) rest
saved_is_viewed h batches rest valid sound sized are_told few means = accepted h valid sound batches sized are_told few means rest
