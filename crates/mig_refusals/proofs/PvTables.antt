-- The causes that stand in the page tables of a PV guest, and in the bodies of the records that only it has.
use Rattle.mig_refusals.proofs.Common.{◌≡◌, ◌⊎◌, inl, inr, ℕ, ◌+◌, ◌*◌, ◌<◌, List, [], ◌∷◌, length, drop, Bool, true, false, nat_le, nat_lt, nat_eq, not, slice_index, refl, sym, ap, subst, ◌∙◌, arith, leb-true, ltb-true, eqb-true, eqb-false, ne_eqb, eq-eqb, le-leb, lt-ltb, and_parts, and_from, common_steps, le32, first_fault, Cause, ◌&&◌, number_of_cause, BadLength, Pv32, BadPvInfo, P2mStart, VcpuId, GdtEnts, gdt_ents, PartCode, VcpuBasic, fault_of_pv_info, p2m_count, fault_of_p2m, fault_of_vcpu, long_at, entry, named_frame, Entry, Superpage, Frame, fault_of_page_table, is_superpage, names_above, TableHas, InfoHas, P2mHas, VcpuHas, table_entry_of, most_gdt_entries, vcpu_limit}
use Rattle.mig_headers.specs.declared.fault.Cause.TheVariants as causes
use Rattle.mig_refusals.specs.LibxcPv.TableHas.{superpage, outside}
use Rattle.mig_refusals.specs.LibxcPv.InfoHas.{width_4, other_width, other_levels}
use Rattle.mig_refusals.specs.LibxcPv.P2mHas.{bad_length, late_start}
use Rattle.mig_refusals.specs.LibxcPv.VcpuHas.{vcpu_id, descriptors}
use Rattle.mig_refusals.proofs.Least.{Least, RowHas, named, both_least}
use Rattle.mig_refusals.proofs.Tests.{differs, test_differs}
use Rattle.mig_refusals.proofs.Firsts.{Sought, slot_least}

-- ---- tables

large : (e : Entry) → is_superpage e ≡ true → e ≡ Superpage
large Superpage is = refl
large _ is = cc

-- the frame that an entry names
framed : (level slot e n : ℕ) → table_entry_of level slot e ≡ Frame n → n ≡ named_frame e
unfolding table_entry_of
framed level slot e n is = grind (arith, common_steps, is)

above : (top : ℕ) (e : Entry) → names_above top e ≡ true → (n : ℕ) × (e ≡ Frame n) × (top < n)
above top (Frame n) h = (n, refl, ltb-true _ _ h)
above top _ h = cc

module _ (top place level : ℕ) (page : List ℕ) where
  abbrev Large : ℕ → Cause → Type 0
  Large = Sought (λ slot. is_superpage (entry level page slot)) (λ slot. slot) (λ slot. causes.Superpage place slot) 512

  abbrev Above : ℕ → Cause → Type 0
  Above = Sought (λ slot. names_above top (entry level page slot)) (λ slot. slot) (λ slot. causes.EntryOutside place slot (named_frame (long_at page slot))) 512

  pub table_least : Least (TableHas top place level page) (fault_of_page_table place top level page)
  table_least = both_least Large Above (TableHas top place level page) _ _ (λ j k c d h g. inl (omega (arith, ap number_of_cause h.4, ap number_of_cause g.4))) to from
      (slot_least (λ slot. is_superpage (entry level page slot)) (λ slot. slot) (λ slot. causes.Superpage place slot) (λ i j. refl) (λ i j less. less))
      (slot_least (λ slot. names_above top (entry level page slot)) (λ slot. slot) (λ slot. causes.EntryOutside place slot (named_frame (long_at page slot))) (λ i j. refl) (λ i j less. less))
    where
      to : (k : ℕ) (c : Cause) → Large k c ⊎ Above k c → TableHas top place level page k c
      to k c (inl (slot, lt, passes, at, is)) = subst (λ i. TableHas top place level page i c) (sym at) (subst (TableHas top place level page slot) (sym is) (superpage slot lt (large _ passes)))
      to k c (inr (slot, lt, passes, at, is)) =
          let (n, named, more) = above top _ passes in
          subst (λ i. TableHas top place level page i c) (sym at)
          (subst (TableHas top place level page slot) (ap (causes.EntryOutside place slot) (framed level slot (long_at page slot) n named) ∙ sym is) (outside slot n lt named more))

      from : (k : ℕ) (c : Cause) → TableHas top place level page k c → Large k c ⊎ Above k c
      from _ _ (superpage slot lt is) = inl (slot, lt, ap is_superpage is, refl, refl)
      from _ _ (outside slot n lt is more) = inr (slot, lt, ap (names_above top) is ∙ lt-ltb _ _ more, refl, ap (causes.EntryOutside place slot) (framed level slot (long_at page slot) n is))

-- ---- X86_PV_INFO

module _ (body : List ℕ) where
  abbrev width : ℕ
  width = slice_index body 0

  abbrev levels : ℕ
  levels = slice_index body 1

  abbrev info_rows : List (Bool × Cause)
  info_rows = (nat_eq width 4, Pv32) ∷ (not (nat_eq width 8 && nat_eq levels 4), BadPvInfo) ∷ []

  info_has : (b : Bool) → nat_eq width 8 ≡ b → not (b && nat_eq levels 4) ≡ true → InfoHas body 0 BadPvInfo
  info_has true is h = other_levels (differs _ _ h)
  info_has false is h = other_width (eqb-false _ _ is)

  pub info_least : Least (InfoHas body) (fault_of_pv_info body)
  info_least = named (InfoHas body) info_rows refl ((λ h. width_4 (eqb-true _ _ h)), ((λ h. info_has _ refl h), tt)) from
    where
      from : (k : ℕ) (c : Cause) → InfoHas body k c → RowHas info_rows k c
      from _ _ (width_4 h) = (refl, inl (eq-eqb _ _ h, refl))
      from _ _ (other_width h) = (refl, inr (inl (ap (λ b. not (b && nat_eq levels 4)) (ne_eqb _ _ h), refl)))
      from _ _ (other_levels h) = (refl, inr (inl (grind (arith, common_steps, ne_eqb levels 4 h), refl)))

-- ---- X86_PV_P2M_FRAMES

module _ (body : List ℕ) where
  abbrev first : ℕ
  first = le32 body 0

  abbrev last : ℕ
  last = le32 body 4

  abbrev p2m_rows : List (Bool × Cause)
  p2m_rows = (nat_le first last && not (nat_eq (length body) (8 + 8 * p2m_count first last)), BadLength (length body)) ∷ (not (nat_eq first 0), P2mStart first) ∷ []

  pub p2m_least : Least (P2mHas body) (fault_of_p2m body)
  p2m_least = named (P2mHas body) p2m_rows refl ((λ h. let b = and_parts _ _ h in bad_length (leb-true _ _ b.0) (differs _ _ b.1)), ((λ h. late_start (differs _ _ h)), tt)) from
    where
      from : (k : ℕ) (c : Cause) → P2mHas body k c → RowHas p2m_rows k c
      from _ _ (bad_length le h) = (refl, inl (and_from _ _ (le-leb _ _ le) (test_differs _ _ h), refl))
      from _ _ (late_start h) = (refl, inr (inl (test_differs _ _ h, refl)))

-- ---- the records of vCPUs

module _ (body : List ℕ) where
  abbrev id_row : Bool × Cause
  id_row = (nat_le vcpu_limit (le32 body 0), VcpuId (le32 body 0))

  abbrev ents : ℕ
  ents = gdt_ents (drop 8 body)

  abbrev ents_row : Bool × Cause
  ents_row = (nat_lt 8 (length body) && nat_lt most_gdt_entries ents, GdtEnts ents)

  basic_least : Least (VcpuHas VcpuBasic body) (first_fault (id_row ∷ ents_row ∷ []))
  basic_least = named (VcpuHas VcpuBasic body) (id_row ∷ ents_row ∷ []) refl ((λ h. vcpu_id (leb-true _ _ h)), ((λ h. let b = and_parts _ _ h in descriptors refl (ltb-true _ _ b.0) (ltb-true _ _ b.1)), tt)) from
    where
      from : (k : ℕ) (c : Cause) → VcpuHas VcpuBasic body k c → RowHas (id_row ∷ ents_row ∷ []) k c
      from _ _ (vcpu_id h) = (refl, inl (le-leb _ _ h, refl))
      from _ _ (descriptors is some h) = (refl, inr (inl (and_from _ _ (lt-ltb _ _ some) (lt-ltb _ _ h), refl)))

  other_least : (code : PartCode) → (code ≡ VcpuBasic → ⊥) → Least (VcpuHas code body) (first_fault (id_row ∷ []))
  other_least code other = named (VcpuHas code body) (id_row ∷ []) refl ((λ h. vcpu_id (leb-true _ _ h)), tt) from
    where
      from : (k : ℕ) (c : Cause) → VcpuHas code body k c → RowHas (id_row ∷ []) k c
      from _ _ (vcpu_id h) = (refl, inl (le-leb _ _ h, refl))
      from _ _ (descriptors is some h) = absurd (other is)

pub vcpu_least : (code : PartCode) (body : List ℕ) → Least (VcpuHas code body) (fault_of_vcpu code body)
vcpu_least VcpuBasic body = basic_least body
vcpu_least code body = other_least body code (λ is. cc)
