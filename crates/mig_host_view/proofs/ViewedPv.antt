-- What a valid and sound PV host is seen as is a whole guest.
use Rattle.mig_host_view.proofs.Common.{◌≡◌, ℕ, ◌+◌, ◌<◌, ◌≤◌, true, List, Option, Some, None, IsSome, refl, sym, ap, subst, ◌∙◌, arith, ◌==◌, nat_cmp_total, nat_cmp-IsAntisymmetric, Pv, level_of, PartKey, Entry, Blank, NotPresent, Frame, FrameOf, GuestOf, IsFormed, IsPart, width_of, gdt_ents, p2m_key, shared_key, EachEntry, IsWithin, part_total, part_exact, blank, blank_of, type_at, fits_field, field_value, frame_of_field, is_used, IsWhole, Kind, HostOf, IsHostPart, IsValid, pfn_in, FitsPolicy, NamesKnown, renamed_table, is_used_somewhere, IsCompletePv, from_each, some_each, len_each, count_each, types_kept, entries_changed, kept_p2m, renamed_page, renamed_frame, renamed_part, renamed, normalised_of, renamed_context, needed_keys, AreThere, IsSound, top_of, guest_in, view, IsGuestFrame, vcpu_key, whole_blank, pv_whole}
use Rattle.mig_host_view.proofs.LocalisedGuests.{localised_is_frame, renamed_there, renamed_listed, from_context}
use Rattle.mig_host_view.proofs.ViewedParts.{pv_part}
use Rattle.mig_host_view.proofs.ViewedSays.{entry_there, context_fits}
use Rattle.mig_host_view.proofs.ViewedFrames.{top_is, inside_is, each_policy, is_frame, pfn_there, pfn_below, pfn_small, frame_below, frame_type, few_inner}
use Rattle.std.specs.FinMap as maps

module _ (h : HostOf) (valid : IsValid h) (sound : IsSound h) (pv : h.kind ≡ Pv) where
  abbrev inner : GuestOf
  inner = guest_in h

  abbrev pfn_of : ℕ → Option ℕ
  pfn_of = pfn_in h.frames

  abbrev pub there : GuestOf
  there = renamed is_used_somewhere pfn_of inner

  width_there : width_of there ≡ h.width
  width_there = let least : 0 < h.width = valid.some_width pv in ap (λ k. top_of k h.width + 1) pv ∙ omega (arith, least)

  -- what holds of entries that name nothing, and of those that name a PFN that has a frame, holds of each entry
  entries_there : (P : Entry → Type 0) → P Blank → P NotPresent → ((mfn pfn : ℕ) → pfn_of mfn ≡ Some pfn → P (Frame pfn)) → (x : FrameOf) → EachEntry (NamesKnown pfn_of) x → EachEntry P (renamed_frame pfn_of x)
  entries_there P blank none named x = entries_changed (NamesKnown pfn_of) P (renamed_table pfn_of) x (renamed_page pfn_of (level_of x.type) x.page) (λ level lev i. renamed_page pfn_of (lev i) x.page)
      (λ level p lev has slot lt. entry_there pfn_of (pfn_small h valid pv) P blank none named level slot p lt)

  abbrev rename : ℕ → FrameOf → FrameOf
  rename pfn x = renamed_frame pfn_of x

  within : (mfn pfn : ℕ) → pfn_of mfn ≡ Some pfn → pfn ≤ there.top
  within mfn pfn is = omega (arith, pfn_below h valid mfn pfn is, width_there)

  formed_frame : (pfn : ℕ) (x : FrameOf) → maps.get inner.frames pfn ≡ Some x → IsGuestFrame h.kind there.top pfn (renamed_frame pfn_of x)
  formed_frame pfn x found = record {
    small = omega (arith, frame_below h valid pfn x found, valid.width);
    inside = inside_is h.kind h.width pfn (frame_below h valid pfn x found);
    is = localised_is_frame pfn_of None (level_of x.type) x (is_frame h valid pfn x found);
    type = frame_type h valid pfn x found;
    entries = entries_there (IsWithin there.top) tt tt within x (sound.entries pfn x found);
  }

  formed_part : (key : PartKey) (x : List ℕ) → maps.get h.parts key ≡ Some x → IsPart h.kind (width_of there) key (renamed_part is_used_somewhere pfn_of key x)
  formed_part key x found =
      subst (λ (k : Kind). IsPart k (width_of there) key (renamed_part is_used_somewhere pfn_of key x)) (sym pv)
      (subst (λ w. IsPart Pv w key (renamed_part is_used_somewhere pfn_of key x)) (sym width_there)
      (pv_part pfn_of h.width key x (subst (λ (k : Kind). IsHostPart k h.width key x) pv (valid.parts key x found)) (sound.gdt key x found)))

  policies : (code : ℕ) → FitsPolicy code h.parts → FitsPolicy code there.parts
  policies code fits = omega (arith, fits, count_each part_total part_exact (renamed_part is_used_somewhere pfn_of) (λ k. k.code == code) h.parts)

  formed : IsFormed there
  formed = record {
    top = top_is h.kind h.width valid.pv_width valid.some_width;
    frames = λ pfn y is. let (x, found, same) = from_each nat_cmp_total nat_cmp-IsAntisymmetric rename inner.frames pfn y is in subst (IsGuestFrame h.kind there.top pfn) same (formed_frame pfn x found);
    parts = λ key y is. let (x, found, same) = from_each part_total part_exact (renamed_part is_used_somewhere pfn_of) h.parts key y is in subst (IsPart h.kind (width_of there) key) same (formed_part key x found);
    policies = each_policy (λ code. FitsPolicy code there.parts) (policies 17 valid.leaves) (policies 18 valid.msrs);
  }

  parts_known : AreThere h.parts (needed_keys Pv)
  parts_known = subst (λ (k : Kind). AreThere h.parts (needed_keys k)) pv sound.parts

  still : (key : PartKey) → IsSome (maps.get h.parts key) → IsSome (maps.get there.parts key)
  still key has = renamed_there is_used_somewhere pfn_of h.parts key ∙ has

  types : (n : ℕ) → type_at there.frames n ≡ type_at inner.frames n
  types n = types_kept rename (λ p x. refl) inner.frames n

  target : (pfn : ℕ) → IsSome (maps.get inner.frames pfn) → IsSome (maps.get there.frames pfn)
  target pfn has = some_each nat_cmp_total nat_cmp-IsAntisymmetric rename inner.frames pfn ∙ has

  abbrev HasTarget : Entry → Type 0
  HasTarget e = (n : ℕ) → e ≡ Frame n → IsSome (maps.get there.frames n)

  targets : (pfn : ℕ) (x : FrameOf) → maps.get inner.frames pfn ≡ Some x → EachEntry HasTarget (renamed_frame pfn_of x)
  targets pfn x found =
      entries_there HasTarget (λ n e. let no : Blank ≡ Frame n = e in cc) (λ n e. let no : NotPresent ≡ Frame n = e in cc)
      (λ mfn q is n e. let same : q ≡ n = cc in subst (λ k. IsSome (maps.get there.frames k)) same (target q (pfn_there h valid mfn q is))) x (sound.entries pfn x found)

  complete : IsCompletePv there
  complete = record {
    p2m_there = still p2m_key parts_known.0;
    shared_there = still shared_key parts_known.1.0;
    vcpu_there = still (vcpu_key 0) parts_known.1.1.0;
    p2m = kept_p2m inner.frames there.frames h.parts there.parts types (renamed_listed is_used_somewhere pfn_of h.parts) sound.p2m;
    targets = λ pfn y is. let (x, found, same) = from_each nat_cmp_total nat_cmp-IsAntisymmetric rename inner.frames pfn y is in subst (EachEntry HasTarget) same (targets pfn x found);
    fields = λ key y is code field most.
        let (x, found, same) = from_context is_used_somewhere pfn_of h.parts key y is code in
        subst (λ c. is_used key.key1 (gdt_ents c) field (field_value c field) ≡ true → fits_field field (type_at there.frames (frame_of_field field (field_value c field))) ≡ true) same
        (λ used. ap (fits_field field) (types (frame_of_field field (field_value (renamed_context is_used_somewhere pfn_of key.key1 x) field)))
        ∙ context_fits pfn_of key.key1 x (sound.gdt key x found code) (type_at inner.frames) (pfn_small h valid pv) field most (sound.fields key x found code field most) used);
    few = omega (arith, few_inner h valid, len_each nat_cmp_total nat_cmp-IsAntisymmetric rename inner.frames);
  }

  pub pv_viewed : IsWhole (view h)
  pv_viewed =
      let whole = whole_blank there ((pv_whole there pv).1 (record { formed = formed; complete = complete })) in
      subst (λ (k : Kind). IsWhole (normalised_of k pfn_of inner)) (sym pv) (subst (λ (k : Kind). IsWhole (blank_of k there)) pv whole)
