-- The settings of the guest that a PV host is seen as: they make a well formed guest, whose records are those of the view.
use Rattle.mig_dirtysave_parts.proofs.Common.{ℕ, ◌+◌, ◌-◌, ◌<◌, ◌≤◌, ◌^◌, Bool, true, false, cond, List, [], ◌∷◌, length, Option, Some, None, arith, ◌==◌, eqb-true, part_total, part_exact, part_cmp, Pv, Hvm, PartKey, FrameOf, IsFormed, IsPart, gdt_ents, ◌≢◌, AllByRecursion, flat_map, Kind, shape_of, PartCode, VcpuBasic, Tsc, is_policy, HostOf, IsHostPart, IsValid, pfn_in, code_number, Part, FitsPolicy, same_parts, empty_formed, records_of, records_in_order, last_records, blanked_context, blanked_shared, is_used_somewhere, from_each, renamed_part, renamed_context, view, top_of, each_policy, top_is, pv_part, is_setting, settings_seen, most_gdt_entries, most_policy_entries, nat_cmp, blanked_part, range_with_len, part_body, VcpuExtended, VcpuXsave, SharedInfo, VcpuMsrs, short_part, changed_part}
use Rattle.mig_host_view.proofs.Common.{◌≡◌, ◌++◌, refl, sym, ap, subst, ◌∙◌, eq-eqb, GuestOf, each_value, length_longs}
use Rattle.mig_canon.specs.Canon.{all_vcpus, key_of, part_record, pv_last_codes, records_of_vcpu, vcpu_record, vcpus_below}
use Rattle.mig_pvtables.proofs.BlankSays.{blanked_ents}
use Rattle.mig_host_view.proofs.ViewedSays.{ents_there}
use Rattle.mig_dirtysave_parts.proofs.Codes.{IsOther, IsOtherType, both_all, code_within, from_kept, same_records, seen_as}
use Rattle.mig_dirtysave_parts.proofs.Walks.{kept_at}
use Rattle.std.specs.FinMap as maps

module _ (h : HostOf) where
  -- a setting is as the view has it
  setting_at : (q : PartKey) → is_setting q.code ≡ true → maps.get (settings_seen h).parts q ≡ maps.get (view h).parts q
  setting_at q of = kept_at is_setting (view h).parts q ∙ ap (λ b. cond b (maps.get (view h).parts q) None) of

  -- nothing else is held
  other_at : (q : PartKey) → is_setting q.code ≡ false → maps.get (settings_seen h).parts q ≡ None
  other_at q isnt = kept_at is_setting (view h).parts q ∙ ap (λ b. cond b (maps.get (view h).parts q) None) isnt

  -- ---- its records

  code_seen : (code : PartCode) → is_setting (code_number code) ≡ true → records_of code (settings_seen h) ≡ records_of code (view h)
  code_seen code of = same_records code (settings_seen h) (view h) (λ q is. setting_at q (ap is_setting is ∙ of))

  vcpu_seen : (id : ℕ) → records_of_vcpu (settings_seen h) id ≡ records_of_vcpu (view h) id
  vcpu_seen id =
      let basic = setting_at (key_of VcpuBasic id) refl in let extended = setting_at (key_of VcpuExtended id) refl in
      let xsave = setting_at (key_of VcpuXsave id) refl in let msrs = setting_at (key_of VcpuMsrs id) refl in
      λ i. part_record VcpuBasic (key_of VcpuBasic id) (basic i) ++ (part_record VcpuExtended (key_of VcpuExtended id) (extended i)
      ++ (part_record VcpuXsave (key_of VcpuXsave id) (xsave i) ++ (part_record VcpuMsrs (key_of VcpuMsrs id) (msrs i) ++ [])))

  below_seen : (n : ℕ) → vcpus_below (settings_seen h) n ≡ vcpus_below (view h) n
  below_seen n = λ i. flat_map (λ id. vcpu_seen id i) (range_with_len 0 n)

  vcpus_seen : all_vcpus (settings_seen h) ≡ all_vcpus (view h)
  unfolding all_vcpus
  vcpus_seen = below_seen 4096

  pub pv_last_seen : h.kind ≡ Pv → last_records Pv (settings_seen h) ≡ last_records h.kind (view h)
  pv_last_seen pv =
      let tsc = code_seen Tsc refl in let shared = code_seen SharedInfo refl in let vcpus = vcpus_seen in
      (λ i. (tsc i ++ (shared i ++ [])) ++ vcpus i) ∙ ap (λ (k : Kind). last_records k (view h)) (sym pv)

  module _ (valid : IsValid h) (pv : h.kind ≡ Pv) where
    host_part : (key : PartKey) (bytes : List ℕ) → maps.get h.parts key ≡ Some bytes → IsHostPart Pv h.width key bytes
    host_part key bytes there = subst (λ (k : Kind). IsHostPart k h.width key bytes) pv (valid.parts key bytes there)

    -- ---- it is well formed

    module _ (few : (key : PartKey) (context : List ℕ) → maps.get h.parts key ≡ Some context → key.code ≡ 4 → gdt_ents context ≤ most_gdt_entries) where
      final_case : (key : PartKey) (x : List ℕ) → maps.get h.parts key ≡ Some x → (a b : Bool) → (key.code == 4) ≡ a → (key.code == 7) ≡ b
          → IsPart Pv h.width key (cond a (renamed_context is_used_somewhere (pfn_in h.frames) key.key1 x) x)
          → IsPart Pv h.width key (cond a (blanked_context (cond a (renamed_context is_used_somewhere (pfn_in h.frames) key.key1 x) x))
          (cond b (blanked_shared (cond a (renamed_context is_used_somewhere (pfn_in h.frames) key.key1 x) x)) (cond a (renamed_context is_used_somewhere (pfn_in h.frames) key.key1 x) x)))
      final_case key x there true b four seven part =
          let number = eqb-true key.code 4 four in
          let renamed = renamed_context is_used_somewhere (pfn_in h.frames) key.key1 x in
          let ents = ents_there (pfn_in h.frames) key.key1 x (few key x there number) in
          let again = blanked_ents renamed in
          changed_part h.width VcpuBasic (blanked_context renamed) number (eq-eqb (length (blanked_context renamed)) 5168 (length_longs 646 _)) (host_part key x there)
          (let less : gdt_ents (blanked_context renamed) ≤ most_gdt_entries = omega (arith, ents, again, few key x there number) in less)
      final_case key x there false true four seven part =
          changed_part h.width SharedInfo (blanked_shared x) (eqb-true key.code 7 seven) (eq-eqb (length (blanked_shared x)) 4096 (length_longs 512 _)) (host_part key x there) tt
      final_case key x there false false four seven part = part

      final_part : (key : PartKey) (bytes : List ℕ) → maps.get (settings_seen h).parts key ≡ Some bytes → IsPart Pv h.width key bytes
      final_part key bytes is =
          let rename = renamed_part is_used_somewhere (pfn_in h.frames) in
          let viewed = sym (ap (λ (k : Kind). maps.get (seen_as h k).parts key) pv) ∙ (from_kept is_setting (view h).parts key bytes is).1 in
          let (y, was, same) = from_each part_total part_exact blanked_part (each_value rename h.parts) key bytes viewed in
          let (x, there, before) = from_each part_total part_exact rename h.parts key y was in
          subst (IsPart Pv h.width key) same
          (subst (λ (z : List ℕ). IsPart Pv h.width key (blanked_part key z)) before
          (final_case key x there (key.code == 4) (key.code == 7) refl refl (pv_part (pfn_in h.frames) h.width key x (host_part key x there) (few key x there))))

      width_back : h.width ≡ h.width - 1 + 1
      width_back = let some = valid.some_width pv in omega (arith, some)

      no_frame : (pfn : ℕ) (frame : FrameOf) → maps.get (settings_seen h).frames pfn ≡ Some frame → ⊥
      no_frame pfn frame is = let no : ◌≡◌ {A = Option FrameOf} None (Some frame) = sym (maps.get-empty nat_cmp pfn) ∙ is in cc

      no_policy : (code : ℕ) → is_policy code ≡ true → is_setting code ≡ false → FitsPolicy code (settings_seen h).parts
      no_policy code one isnt =
          subst (λ (ps : List Part). length ps ≤ most_policy_entries) (same_parts code maps.empty (settings_seen h).parts (λ q of. maps.get-empty part_cmp q ∙ sym (other_at q (ap is_setting of ∙ isnt)))) ((empty_formed Hvm).policies code one)

      pub settings_formed : IsFormed (settings_seen h)
      settings_formed = record {
        top = top_is h.kind h.width valid.pv_width valid.some_width;
        frames = λ pfn frame is. absurd (no_frame pfn frame is);
        parts = λ key bytes is.
            subst (λ (k : Kind). IsPart k (top_of k h.width + 1) key bytes) (sym pv)
            (subst (λ (w : ℕ). IsPart Pv w key bytes) width_back (final_part key bytes is));
        policies = λ code one. each_policy (λ c. is_policy c ≡ true → FitsPolicy c (settings_seen h).parts) (λ two. no_policy 17 two refl) (λ two. no_policy 18 two refl) code one one;
      }

-- ---- none of its records is END or VERIFY, or has frames

module _ (g : GuestOf) (formed : IsFormed g) where
  part_within : (code : PartCode) (key : PartKey) (o : Option (List ℕ)) → code_number code < 2 ^ 32 → code_number code ≢ 0 → IsOtherType (code_number code)
      → ((bytes : List ℕ) → o ≡ Some bytes → length (part_body (shape_of code) (key, bytes)) ≤ 2 ^ 27) → AllByRecursion IsOther (part_record code key o)
  part_within code key None small no_end no_page short = tt
  part_within code key (Some bytes) small no_end no_page short = ((record { short = record { type = small; len = short bytes refl }; no_end = no_end }, no_page), tt)

  vcpu_within : (id : ℕ) → AllByRecursion IsOther (records_of_vcpu g id)
  vcpu_within id =
      both_all IsOther (vcpu_record g id VcpuBasic) _ (part_within VcpuBasic (key_of VcpuBasic id) (maps.get g.parts (key_of VcpuBasic id)) (omega arith) (λ e. omega (arith, e)) (λ e. omega (arith, e), λ e. omega (arith, e)) (short_part g formed VcpuBasic id))
      (both_all IsOther (vcpu_record g id VcpuExtended) _ (part_within VcpuExtended (key_of VcpuExtended id) (maps.get g.parts (key_of VcpuExtended id)) (omega arith) (λ e. omega (arith, e)) (λ e. omega (arith, e), λ e. omega (arith, e)) (short_part g formed VcpuExtended id))
      (both_all IsOther (vcpu_record g id VcpuXsave) _ (part_within VcpuXsave (key_of VcpuXsave id) (maps.get g.parts (key_of VcpuXsave id)) (omega arith) (λ e. omega (arith, e)) (λ e. omega (arith, e), λ e. omega (arith, e)) (short_part g formed VcpuXsave id))
      (both_all IsOther (vcpu_record g id VcpuMsrs) [] (part_within VcpuMsrs (key_of VcpuMsrs id) (maps.get g.parts (key_of VcpuMsrs id)) (omega arith) (λ e. omega (arith, e)) (λ e. omega (arith, e), λ e. omega (arith, e)) (short_part g formed VcpuMsrs id)) tt)))

  ids_within : (ids : List ℕ) → AllByRecursion IsOther (flat_map (records_of_vcpu g) ids)
  ids_within [] = tt
  ids_within (id ∷ ids) = both_all IsOther (records_of_vcpu g id) (flat_map (records_of_vcpu g) ids) (vcpu_within id) (ids_within ids)

  below_within : (n : ℕ) → AllByRecursion IsOther (vcpus_below g n)
  below_within n = ids_within (range_with_len 0 n)

  vcpus_within : AllByRecursion IsOther (all_vcpus g)
  unfolding all_vcpus
  vcpus_within = below_within 4096

  pub pv_last_within : AllByRecursion IsOther (last_records Pv g)
  pv_last_within =
      both_all IsOther (records_in_order pv_last_codes g) (all_vcpus g)
      (both_all IsOther (records_of Tsc g) _ (code_within g formed Tsc (omega arith) (λ e. omega (arith, e)) (λ e. omega (arith, e), λ e. omega (arith, e)))
      (both_all IsOther (records_of SharedInfo g) [] (code_within g formed SharedInfo (omega arith) (λ e. omega (arith, e)) (λ e. omega (arith, e), λ e. omega (arith, e))) tt))
      vcpus_within
