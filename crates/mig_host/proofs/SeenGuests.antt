-- The guest that stands in a host, copied frame by frame and part by part.
use Rattle.mig_host.proofs.Common.{◌≡◌, ℕ, ◌+◌, ◌<◌, Bool, true, false, cond, ◌==◌, List, ◌∷◌, length, Option, Some, None, IsSome, IfSome, is_some, refl, sym, ap, subst, ◌∙◌, arith, eqb-true, nat_cmp_total, nat_cmp-IsAntisymmetric, Kind, Pv, Hvm, PageType, type_has_data, FrameOf, FrameMap, entries_from, HostFrame, HostOf, IsHostFrame, IsHostPart, IsValid, PartKey, PartMap, parts_behind, part_total, part_exact, one_code, Xtab, PartCode, framed, GuestOf, row_of, code_number, pfn_in, each_value, each_same, part_seen, normalised, IsSound, without_machine, top_of, guest_in, view, machine_limit, ◌&&◌, and_parts, SharedInfo, HvmContext, context_key, shared_key, from_zero, cut_by}
use Rattle.std.specs.Result.{IsOk}
use Rattle.mig_headers.specs.Contexts.{scan}
use Rattle.mig_host_view.proofs.HostViews.{hvm_viewed}
use Rattle.mig_host_view.proofs.ViewedFrames.{not_absent, pfn_small}
use Rattle.mig_host.proofs.Copies.{IsCopied, copy_start, copy_there, copy_next}
use Rattle.mig_host.proofs.SoundHosts.{length_allowed, contexts_long as host_contexts}
use Rattle.std.specs.FinMap as maps

-- ---- frames

abbrev pub bare : ℕ → HostFrame → FrameOf
bare _ frame = without_machine frame

framed_is : (m : FrameMap) (pfn : ℕ) (t : PageType) (page : Option (List ℕ)) → (t ≡ Xtab → ⊥) → framed m pfn t page ≡ maps.insert m pfn (record { type = t; page = page })
framed_is m pfn Xtab page there = absurd (there refl)
framed_is m pfn _ page there = refl

module _ (h : HostOf) where
  abbrev pub FramesCopied : FrameMap → ℕ → Type 0
  FramesCopied m from = IsCopied bare h.frames m (entries_from from (maps.entries h.frames))

  pub frames_start : (m : FrameMap) → m ≡ maps.empty → FramesCopied m 0
  frames_start m none = subst (IsCopied bare h.frames m) (sym (from_zero (maps.entries h.frames))) (copy_start nat_cmp_total nat_cmp-IsAntisymmetric bare h.frames m none)

  module _ (valid : IsValid h) (g : GuestOf) (from : ℕ) (copied : FramesCopied g.frames from) (e : ℕ × HostFrame) (next : entries_from from (maps.entries h.frames) ≡ e ∷ entries_from (e.0 + 1) (maps.entries h.frames)) where
    fine : IsHostFrame h.kind h.width e.0 e.1
    fine = valid.frames e.0 e.1 (copy_there nat_cmp_total nat_cmp-IsAntisymmetric bare h.frames g.frames _ copied e _ next)

    pub frame_paged : is_some e.1.page ≡ type_has_data e.1.type
    frame_paged = fine.in_step

    pub frames_next : (new : GuestOf) → new ≡ record g { frames = framed g.frames e.0 e.1.type e.1.page } → FramesCopied new.frames (e.0 + 1)
    frames_next new is =
        copy_next nat_cmp_total nat_cmp-IsAntisymmetric bare h.frames g.frames _ copied e _ next new.frames (ap (λ (s : GuestOf). s.frames) is ∙ framed_is g.frames e.0 e.1.type e.1.page (not_absent h.kind e.1.type fine.type))

-- all but the frames stays
pub other_frames : (start g new : GuestOf) (m : FrameMap) → g ≡ record start { frames = g.frames } → new ≡ record g { frames = m } → new ≡ record start { frames = new.frames }
other_frames start g new m others is = is ∙ ap (λ (s : GuestOf). record s { frames = m }) others ∙ ap (λ n. record start { frames = n }) (sym (ap (λ (s : GuestOf). s.frames) is))

-- ---- parts

-- a part of a host, by its code
module _ (kind : Kind) (width : ℕ) (key : PartKey) (bytes : List ℕ) (is : IsHostPart kind width key bytes) (code : PartCode) (number : key.code ≡ code_number code) where
  same_code : is.code ≡ code
  same_code = one_code is.code code (sym is.number ∙ number)

  host_kind : (row_of code).of_kind kind ≡ true
  host_kind = subst (λ c. (row_of c).of_kind kind ≡ true) same_code is.of_kind

  host_keys : (row_of code).keys key.key1 key.key2 ≡ true
  host_keys = subst (λ c. (row_of c).keys key.key1 key.key2 ≡ true) same_code is.keys

  -- where no key of the code has numbers, it has one key
  host_sole : ((key.key1 == 0) && (key.key2 == 0)) ≡ true → key ≡ record { code = code_number code; key1 = 0; key2 = 0 }
  host_sole none =
      let (a, b) = and_parts (key.key1 == 0) (key.key2 == 0) none in let one = eqb-true key.key1 0 a in let two = eqb-true key.key2 0 b in
      λ i. record { code = number i; key1 = one i; key2 = two i }

module _ (h : HostOf) where
  abbrev PartsCopied : PartMap → Option PartKey → Type 0
  PartsCopied m after = IsCopied part_seen h.parts m (parts_behind after (maps.entries h.parts))

  module _ (g : GuestOf) (after : Option PartKey) (copied : PartsCopied g.parts after) (e : PartKey × List ℕ) (next : parts_behind after (maps.entries h.parts) ≡ e ∷ parts_behind (Some e.0) (maps.entries h.parts)) where
    there : maps.get h.parts e.0 ≡ Some e.1
    there = copy_there part_total part_exact part_seen h.parts g.parts _ copied e _ next

    module _ (valid : IsValid h) where
      pub context_sole : e.0.code ≡ 9 → e.0 ≡ context_key
      context_sole nine = let is = valid.parts e.0 e.1 there in host_sole h.kind h.width e.0 e.1 is HvmContext nine (host_keys h.kind h.width e.0 e.1 is HvmContext nine)

      pub context_chain : IsSound h → e.0.code ≡ 9 → IsOk (scan e.1)
      context_chain sound nine = let (end, is) = sound.context e.1 (ap (maps.get h.parts) (sym (context_sole nine)) ∙ there) in subst (λ r. IsOk r) (sym is) refl

    pub parts_next : (new : GuestOf) → new ≡ record g { parts = maps.insert g.parts e.0 (part_seen e.0 e.1) } → PartsCopied new.parts (Some e.0)
    parts_next new is = copy_next part_total part_exact part_seen h.parts g.parts _ copied e _ next new.parts (ap (λ (s : GuestOf). s.parts) is)

-- all but the parts stays
pub other_parts : (start g new : GuestOf) (m : PartMap) → g ≡ record start { parts = g.parts } → new ≡ record g { parts = m } → new ≡ record start { parts = new.parts }
other_parts start g new m others is = is ∙ ap (λ (s : GuestOf). record s { parts = m }) others ∙ ap (λ n. record start { parts = n }) (sym (ap (λ (s : GuestOf). s.parts) is))

-- ---- the guest

-- the guest that stands in the host, its context cut
abbrev pub copied_in : HostOf → GuestOf
copied_in h = record (guest_in h) { parts = each_value part_seen h.parts }

-- PFNs of a host fit into entries
pub pfns_fit : (h : HostOf) → IsValid h → h.kind ≡ Pv → (mfn pfn : ℕ) → pfn_in h.frames mfn ≡ Some pfn → pfn < machine_limit
pfns_fit h valid pv mfn pfn found = omega (arith, pfn_small h valid pv mfn pfn found)

module _ (h : HostOf) (g : GuestOf) (is : g ≡ copied_in h) where
  pub hvm_seen : h.kind ≡ Hvm → g ≡ view h
  hvm_seen hvm = is ∙ ap (λ (k : Kind). record { kind = h.kind; top = top_of k h.width; frames = each_value bare h.frames; parts = each_value part_seen h.parts }) hvm ∙ sym (hvm_viewed h hvm)

  module _ (valid : IsValid h) (pv : h.kind ≡ Pv) where
    host_part : (key : PartKey) (bytes : List ℕ) → maps.get h.parts key ≡ Some bytes → IsHostPart Pv h.width key bytes
    host_part key bytes found = subst (λ (k : Kind). IsHostPart k h.width key bytes) pv (valid.parts key bytes found)

    -- a PV host has no part of code 9, which would be cut
    stays : (key : PartKey) (bytes : List ℕ) → maps.get h.parts key ≡ Some bytes → part_seen key bytes ≡ bytes
    stays key bytes found = by_code (key.code == 9) refl
      where
        by_code : (b : Bool) → (key.code == 9) ≡ b → cond b (cut_by (scan bytes) bytes) bytes ≡ bytes
        by_code false other = refl
        by_code true nine = let no : false ≡ true = host_kind Pv h.width key bytes (host_part key bytes found) HvmContext (eqb-true key.code 9 nine) in cc

    stands : g ≡ guest_in h
    stands = is ∙ ap (λ m. record { kind = h.kind; top = top_of h.kind h.width; frames = each_value bare h.frames; parts = m }) (each_same part_total part_exact part_seen h.parts stays)

    same_parts : g.parts ≡ h.parts
    same_parts = ap (λ (s : GuestOf). s.parts) stands

    pub contexts_long : (key : PartKey) (context : List ℕ) → maps.get g.parts key ≡ Some context → key.code ≡ 4 → length context ≡ 5168
    contexts_long key context found four =
        host_contexts h valid key context (ap (λ (m : PartMap). maps.get m key) (sym same_parts) ∙ found) four

    pub page_long : IfSome (maps.get g.parts shared_key) (λ page. length page ≡ 4096)
    page_long = elim (maps.get g.parts shared_key) as (λ o. maps.get g.parts shared_key ≡ o → IfSome o (λ page. length page ≡ 4096)) [
      | None ↦ λ found. tt
      | Some page ↦ λ found. eqb-true (length page) 4096 (length_allowed SharedInfo Pv h.width shared_key page (host_part shared_key page (ap (λ (m : PartMap). maps.get m shared_key) (sym same_parts) ∙ found)) refl)
    ] refl

    pub page_sole : (key : PartKey) → IsSome (maps.get g.parts key) → key.code ≡ 7 → key ≡ shared_key
    page_sole key has seven = elim (maps.get g.parts key) as (λ o. maps.get g.parts key ≡ o → IsSome o → key ≡ shared_key) [
      | None ↦ λ found some. let no : false ≡ true = some in cc
      | Some page ↦ λ found some.
          let part = host_part key page (ap (λ (m : PartMap). maps.get m key) (sym same_parts) ∙ found) in
          host_sole Pv h.width key page part SharedInfo seven (host_keys Pv h.width key page part SharedInfo seven)
    ] refl has

    pub pv_seen : (new : GuestOf) → new ≡ normalised (pfn_in h.frames) g → new ≡ view h
    pv_seen new done = done ∙ ap (normalised (pfn_in h.frames)) stands
