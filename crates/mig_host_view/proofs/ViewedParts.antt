-- The parts of a host, renamed and with the context cut, are those of a guest.
use Rattle.mig_host_view.proofs.Common.{◌≡◌, ℕ, ◌+◌, ◌≤◌, Bool, true, false, cond, List, length, ◌++◌, take, replicate, refl, sym, ap, subst, ◌∙◌, arith, ◌==◌, eqb-true, eq-eqb, Pv, Hvm, PartKey, IsPart, gdt_ents, length_longs, Ok, scan, cut_at, Kind, PartCode, VcpuBasic, HvmContext, IsHostPart, row_of, code_number, one_code, is_used_somewhere, renamed_part, cut_by, part_seen, renamed_context, most_gdt_entries, most_body, le-leb, length-append, leb-true, EmulatorPairs, IsCut, IsContent, IsRawContent, same_len, changed_part}
use Rattle.std.proofs.lemmas.List.{length-take-le, take_at}
use Rattle.std.specs.Prelude.{Option}
use Rattle.mig_headers.proofs.Chains.{end_fits}
use Rattle.mig_headers.proofs.ContextTexts.{scan_cut}
use Rattle.mig_host_view.proofs.ViewedSays.{ents_there}

-- what a host asks of the bytes of a part that is no context, a guest asks
plain_content : (code : PartCode) (bytes : List ℕ) → (code ≡ VcpuBasic → ⊥) → (code ≡ HvmContext → ⊥) → IsRawContent code bytes → IsContent code bytes
plain_content VcpuBasic bytes vcpu hvm raw = absurd (vcpu refl)
plain_content HvmContext bytes vcpu hvm raw = absurd (hvm refl)
plain_content EmulatorPairs bytes vcpu hvm raw = raw
plain_content _ bytes vcpu hvm raw = tt

-- a part of this kind, and one with another number, isn't of the code
not_of_kind : (kind : Kind) (code other : PartCode) → (row_of code).of_kind kind ≡ true → (row_of other).of_kind kind ≡ false → code ≡ other → ⊥
not_of_kind kind code other is isnt same = let no : false ≡ true = sym isnt ∙ subst (λ c. (row_of c).of_kind kind ≡ true) same is in cc

not_numbered : (key : ℕ) (code other : PartCode) → key ≡ code_number code → (key == code_number other) ≡ false → code ≡ other → ⊥
not_numbered key code other number isnt same = let no : true ≡ false = sym (eq-eqb key (code_number other) (number ∙ ap code_number same)) ∙ isnt in cc

-- ---- of a PV host

module _ (f : ℕ → Option ℕ) (width : ℕ) (key : PartKey) (bytes : List ℕ) (is : IsHostPart Pv width key bytes) (few : key.code ≡ 4 → gdt_ents bytes ≤ most_gdt_entries) where
  pv_case : (b : Bool) → (key.code == 4) ≡ b → IsPart Pv width key (cond b (renamed_context is_used_somewhere f key.key1 bytes) bytes)
  pv_case false other = changed_part width is.code bytes is.number is.len is (plain_content is.code bytes (not_numbered key.code is.code VcpuBasic is.number other) (not_of_kind Pv is.code HvmContext is.of_kind refl) is.content)
  pv_case true four =
      let number = eqb-true key.code 4 four in let renamed = renamed_context is_used_somewhere f key.key1 bytes in let ents = ents_there f key.key1 bytes (few number) in
      changed_part width VcpuBasic renamed number (eq-eqb (length renamed) 5168 (length_longs 646 _)) is (let less : gdt_ents renamed ≤ most_gdt_entries = omega (arith, ents, few number) in less)

  pub pv_part : IsPart Pv width key (renamed_part is_used_somewhere f key bytes)
  pv_part = pv_case (key.code == 4) refl

-- ---- of an HVM host

cut_is : (body : List ℕ) (end : ℕ) → scan body ≡ Ok end → (length (cut_at body end) ≤ length body) × IsCut (cut_at body end)
cut_is body end is =
    let fits : end + 8 ≤ length body = end_fits body end is in
    let front : length (take end body) ≡ end = length-take-le end body (omega (arith, fits)) in
    let size : length (take end body ++ replicate 8 0) ≡ end + 8 = length-append (take end body) (replicate 8 0) ∙ ap (λ n. n + 8) front in
    (omega (arith, size, fits), (end, scan_cut body end is, ap (λ l. l ++ replicate 8 0) (take_at (take end body) (replicate 8 0) end front)))

module _ (width other : ℕ) (key : PartKey) (bytes : List ℕ) (is : IsHostPart Hvm width key bytes) (ends : key.code ≡ 9 → (end : ℕ) × (scan bytes ≡ Ok end)) where
  hvm_case : (b : Bool) → (key.code == 9) ≡ b → IsPart Hvm other key (cond b (cut_by (scan bytes) bytes) bytes)
  hvm_case false apart =
      changed_part other is.code bytes is.number (sym (same_len is.code width other (length bytes) is.of_kind) ∙ is.len) is
      (plain_content is.code bytes (not_of_kind Hvm is.code VcpuBasic is.of_kind refl) (not_numbered key.code is.code HvmContext is.number apart) is.content)
  hvm_case true nine =
      let number = eqb-true key.code 9 nine in
      let (end, scanned) = ends number in
      let (short, cut) = cut_is bytes end scanned in
      let most : length bytes ≤ most_body = leb-true (length bytes) most_body (subst (λ c. (row_of c).allows width (length bytes) ≡ true) (sym (one_code HvmContext is.code (sym number ∙ is.number))) is.len) in
      subst (λ r. IsPart Hvm other key (cut_by r bytes)) (sym scanned) (changed_part other HvmContext (cut_at bytes end) number (le-leb (length (cut_at bytes end)) most_body (omega (arith, short, most))) is cut)

  pub hvm_part : IsPart Hvm other key (part_seen key bytes)
  hvm_part = hvm_case (key.code == 9) refl
