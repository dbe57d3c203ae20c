-- What a valid and sound HVM host is seen as is a whole guest.
use Rattle.mig_host_view.proofs.Common.{◌≡◌, ℕ, ◌<◌, true, List, Option, Some, IsSome, sym, ap, subst, ◌∙◌, arith, ◌==◌, eqb-true, Hvm, PartKey, is_type_of, GuestOf, IsFormed, IsPart, width_of, context_key, part_total, part_exact, each_value, IsWhole, pfn_limit, Kind, HvmContext, HostOf, IsHostPart, IsValid, pfn_in, row_of, FitsPolicy, one_code, from_each, some_each, count_each, part_seen, normalised_of, needed_keys, AreThere, IsSound, guest_in, view, and_parts, hvm_frame, hvm_whole}
use Rattle.mig_host_view.proofs.ViewedParts.{hvm_part}
use Rattle.mig_host_view.proofs.ViewedFrames.{top_is, each_policy, is_frame, frame_below, frame_type, few_inner}
use Rattle.std.specs.FinMap as maps

-- the context is the only part of its code
pub context_is : (h : HostOf) → IsValid h → (key : PartKey) (x : List ℕ) → maps.get h.parts key ≡ Some x → key.code ≡ 9 → key ≡ context_key
context_is h valid key x found code =
    let is = valid.parts key x found in
    let keys = subst (λ c. (row_of c).keys key.key1 key.key2 ≡ true) (sym (one_code HvmContext is.code (sym code ∙ is.number))) is.keys in
    let (a, b) = and_parts (key.key1 == 0) (key.key2 == 0) keys in let one = eqb-true key.key1 0 a in let two = eqb-true key.key2 0 b in
    λ i. record { code = code i; key1 = one i; key2 = two i }

module _ (h : HostOf) (valid : IsValid h) (sound : IsSound h) (hvm : h.kind ≡ Hvm) where
  abbrev inner : GuestOf
  inner = guest_in h

  abbrev pfn_of : ℕ → Option ℕ
  pfn_of = pfn_in h.frames

  abbrev pub cut : GuestOf
  cut = record inner { parts = each_value part_seen h.parts }

  cut_part : (key : PartKey) (x : List ℕ) → maps.get h.parts key ≡ Some x → IsPart h.kind (width_of cut) key (part_seen key x)
  cut_part key x found =
      subst (λ (k : Kind). IsPart k (width_of cut) key (part_seen key x)) (sym hvm)
      (hvm_part h.width (width_of cut) key x (subst (λ (k : Kind). IsHostPart k h.width key x) hvm (valid.parts key x found))
      (λ nine. sound.context x (ap (maps.get h.parts) (sym (context_is h valid key x found nine)) ∙ found)))

  cut_policies : (code : ℕ) → FitsPolicy code h.parts → FitsPolicy code cut.parts
  cut_policies code fits = omega (arith, fits, count_each part_total part_exact part_seen (λ k. k.code == code) h.parts)

  hvm_formed : IsFormed cut
  hvm_formed = record {
    top = top_is h.kind h.width valid.pv_width valid.some_width;
    frames = λ pfn x is.
        let small : pfn < pfn_limit = omega (arith, frame_below h valid pfn x is, valid.width) in
        hvm_frame h.kind cut.top pfn x hvm small (is_frame h valid pfn x is) (subst (λ (k : Kind). is_type_of k x.type ≡ true) hvm (frame_type h valid pfn x is));
    parts = λ key y is. let (x, found, same) = from_each part_total part_exact part_seen h.parts key y is in subst (IsPart h.kind (width_of cut) key) same (cut_part key x found);
    policies = each_policy (λ code. FitsPolicy code cut.parts) (cut_policies 17 valid.leaves) (cut_policies 18 valid.msrs);
  }

  pub hvm_viewed : IsWhole (view h)
  hvm_viewed =
      let has : IsSome (maps.get h.parts context_key) = (subst (λ (k : Kind). AreThere h.parts (needed_keys k)) hvm sound.parts).0 in
      subst (λ (k : Kind). IsWhole (normalised_of k pfn_of inner)) (sym hvm)
      ((hvm_whole cut hvm).1 (hvm_formed, some_each part_total part_exact part_seen h.parts context_key ∙ has, few_inner h valid))
