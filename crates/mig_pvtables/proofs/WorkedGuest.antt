-- The guest of the worked PV stream is whole, so that there is a whole PV guest.
use Rattle.mig_pvtables.proofs.Common.{◌≡◌, ℕ, ◌-◌, ◌*◌, ◌/◌, ◌^◌, ◌<◌, ◌≤◌, ⊤, true, false, cond, nat_lt, List, [], ◌∷◌, length, length-replicate, Some, None, IsSome, refl, sym, ap, subst, ◌∙◌, inl, inr, arith, le-leb, lit<, ◌==◌, nat_le, option_map, IsTotalOrder, IsAntisymmetric, get-from_entries, nat_cmp, nat_cmp_total, nat_cmp-IsAntisymmetric, cases_eq, cases_lt, ne_eqb, eqb-true, le-ltb, eq-eqb, ltb-true, Pv, level_of, PageType, PartKey, Entry, Blank, NotPresent, Superpage, Frame, IsPart, IsFormed, IsGuestFrame, gdt_ents, FrameOf, FrameMap, GuestOf, long_at, longs, part_cmp, PartMap, p2m_key, vcpu_key, shared_key, EachEntry, entry, IsWithin, is_blank_slot, length_longs, long_of_longs, part_total, part_exact, field_value, is_used, is_marked, frame_of_field, listed_in, listed, type_at, fits_field, blank, IsWhole, ◌&&◌, Ordering, cond_some, Notab, VcpuBasic, SharedInfo, Part, is_present, is_large, named_frame, AreP2mFrames, most_gdt_entries, type_has_data, is_type_of, insert_holds, insert_len, AllByRecursion, L1Tab, L2Tab, L3Tab, L4Pinned, P2mFrames}
use Rattle.std.specs.Prelude.{not}
use Rattle.std.proofs.lemmas.List.Filters.{length-filter_both}
use Rattle.mig_guest.specs.Tables.{entry_of}
use Rattle.mig_pvtables.specs.WorkedGuest.{number_at, page_of_byte, worked_page, worked_table, worked_frames, worked_parts, worked_context, worked_pv_guest}
use Rattle.mig_pvtables.proofs.PvGuests.{pv_whole}
use Rattle.mig_pvtables.proofs.BlankWhole.{whole_blank}
use Rattle.mig_pvtables.proofs.BlankAgain.{blank_again}
use Rattle.std.specs.FinMap as maps

-- ---- the map of a list

module _ {K X : Type 0} {R : K → K → Ordering} (total : IsTotalOrder R) (exact : IsAntisymmetric R) where
  -- what holds of each entry of the list holds of all that is found
  listed_hold : (P : K → X → Type 0) (es : List (K × X)) → AllByRecursion (λ e. P e.0 e.1) es → (k : K) (v : X) → maps.get (maps.from_entries {R = R} es) k ≡ Some v → P k v
  listed_hold P [] all = λ k v got. let no : None ≡ Some v = sym (maps.get-empty R k) ∙ got in cc
  listed_hold P (e ∷ es) all = insert_holds total exact P (maps.from_entries es) e.0 e.1 (listed_hold P es all.1) all.0

  -- it has no more entries than the list
  listed_len : (es : List (K × X)) → length (maps.entries (maps.from_entries {R = R} es)) ≤ length es
  listed_len [] = omega (arith, maps.len-entries (maps.empty {X = X} {R = R}), maps.len-empty R X)
  listed_len (e ∷ es) = omega (arith, listed_len es, maps.len-entries (maps.from_entries {R = R} es), maps.len-entries (maps.from_entries {R = R} (e ∷ es)), insert_len total (maps.from_entries {R = R} es) e.0 e.1)

-- what holds at each place with the number of the list, and with 0, holds of the numbers of all places
each_number : (P : ℕ → ℕ → Type 0) (es : List (ℕ × ℕ)) → AllByRecursion (λ e. P e.0 e.1) es → ((i : ℕ) → P i 0) → (i : ℕ) → P i (number_at es i)
each_number P [] all none i = none i
each_number P (e ∷ es) all none i = elim (i == e.0) as (λ b. (i == e.0) ≡ b → P i (cond b e.1 (number_at es i))) [
  | true ↦ λ is. subst (λ k. P k e.1) (sym (eqb-true i e.0 is)) all.0
  | false ↦ λ is. each_number P es all.1 none i
] refl

-- ---- the guest

abbrev frames : FrameMap
frames = maps.from_entries worked_frames

abbrev parts : PartMap
parts = maps.from_entries worked_parts

abbrev p2m : List ℕ
p2m = longs 1 (λ _. 2)

abbrev shared : List ℕ
shared = longs 512 (number_at ((387, 0x99) ∷ []))

abbrev context : List ℕ
context = longs 646 (number_at worked_context)

-- what is found in the maps is what is found in the lists
got_frame : (pfn : ℕ) → maps.get frames pfn ≡ maps.find nat_cmp pfn worked_frames
got_frame pfn = get-from_entries nat_cmp_total worked_frames pfn

got_part : (key : PartKey) → maps.get parts key ≡ maps.find part_cmp key worked_parts
got_part key = get-from_entries part_total worked_parts key

-- ---- its frames

-- no superpage, and no frame that isn't there
abbrev IsKnown : Entry → Type 0
IsKnown Blank = ⊤
IsKnown NotPresent = ⊤
IsKnown Superpage = ⊥
IsKnown (Frame n) = (n ≤ 15) × IsSome (maps.get frames n)

known_within : (e : Entry) → IsKnown e → IsWithin 15 e
known_within Blank known = tt
known_within NotPresent known = tt
known_within Superpage known = known
known_within (Frame n) known = known.0

-- a number that a slot may hold, and what it says there is known
abbrev IsSlot : ℕ → ℕ → ℕ → Type 0
IsSlot level slot e = (e < 2 ^ 64) × IsKnown (entry_of level slot e)

-- what a slot that isn't blank says is known
known_slot : (level slot e : ℕ) → e < 2 ^ 64 → IsKnown (cond (not (is_present e)) NotPresent (cond (nat_le 2 level && is_large e) Superpage (Frame (named_frame e)))) → IsSlot level slot e
unfolding entry_of
known_slot level slot e small known = (small, elim (is_blank_slot level slot) as (λ b. IsKnown (cond b Blank (cond (not (is_present e)) NotPresent (cond (nat_le 2 level && is_large e) Superpage (Frame (named_frame e)))))) [ true ↦ tt | false ↦ known ])

zero_slot : (level slot : ℕ) → IsSlot level slot 0
zero_slot level slot = known_slot level slot 0 (lit< tt) tt

-- frame n is there
there : (n : ℕ) → n ≤ 15 → IsSome (maps.find nat_cmp n worked_frames) → IsKnown (Frame n)
there n inside is = (inside, subst IsSome (sym (got_frame n)) is)

-- what the hypervisor's slot holds says nothing
hypervisor_slot : IsSlot 4 260 (2 ^ 64 - 1)
unfolding entry_of
hypervisor_slot = (lit< tt, tt)

-- a frame that is well formed, and of which each entry is known
abbrev IsGood : ℕ → FrameOf → Type 0
IsGood pfn frame = IsGuestFrame Pv 15 pfn frame × EachEntry IsKnown frame

good : (pfn : ℕ) (t : PageType) (page : List ℕ) → type_has_data t ≡ true → is_type_of Pv t ≡ true → pfn ≤ 15 → length page ≡ 4096 → EachEntry IsKnown (record { type = t; page = Some page }) → IsGood pfn (record { type = t; page = Some page })
good pfn t page paged type inside size known = (
  record {
    small = omega (arith, inside);
    inside = inside;
    is = record { there = λ e. let no : false ≡ true = ap type_has_data (sym e) ∙ paged in cc; in_step = sym paged; whole = λ q e. let same : page ≡ q = cc in ap length (sym same) ∙ size };
    type = type;
    entries = λ level q is has slot lt. known_within (entry level q slot) (known level q is has slot lt);
  },
  known,
)

good_page : (pfn byte : ℕ) → pfn ≤ 15 → IsGood pfn (worked_page byte)
unfolding page_of_byte
good_page pfn byte inside = good pfn Notab (page_of_byte byte) refl refl inside (length-replicate 4096 byte) (λ level q is. let no : None ≡ Some level = is in cc)

-- a table is good where the slots of its list are
good_table : (pfn level : ℕ) (t : PageType) (es : List (ℕ × ℕ)) → type_has_data t ≡ true → is_type_of Pv t ≡ true → level_of t ≡ Some level → pfn ≤ 15 → AllByRecursion (λ e. IsSlot level e.0 e.1) es → IsGood pfn (worked_table t es)
good_table pfn level t es paged type of_level inside all = good pfn t (longs 512 (number_at es)) paged type inside (length_longs 512 (number_at es)) (λ other q is has slot lt.
    let same : longs 512 (number_at es) ≡ q = cc in
    let alike : level ≡ other = cc in
    let (small, known) = each_number (IsSlot level) es all (zero_slot level) slot in
    subst (λ p. IsKnown (entry other p slot)) same (subst (λ l. IsKnown (entry l (longs 512 (number_at es)) slot)) alike (subst (λ e. IsKnown (entry_of level slot e)) (sym (long_of_longs 512 (number_at es) slot lt small)) known)))

good_l1 : IsGood 4 (worked_table L1Tab ((1, 0x8067) ∷ (9, 0xdead000) ∷ []))
good_l1 = good_table 4 1 L1Tab ((1, 0x8067) ∷ (9, 0xdead000) ∷ []) refl refl refl (omega arith) (known_slot 1 1 0x8067 (lit< tt) (there 8 (omega arith) refl), (known_slot 1 9 0xdead000 (lit< tt) tt, tt))

good_l2 : IsGood 5 (worked_table L2Tab ((0, 0x4067) ∷ []))
good_l2 = good_table 5 2 L2Tab ((0, 0x4067) ∷ []) refl refl refl (omega arith) (known_slot 2 0 0x4067 (lit< tt) (there 4 (omega arith) refl), tt)

good_l3 : IsGood 6 (worked_table L3Tab ((0, 0x5067) ∷ []))
good_l3 = good_table 6 3 L3Tab ((0, 0x5067) ∷ []) refl refl refl (omega arith) (known_slot 3 0 0x5067 (lit< tt) (there 5 (omega arith) refl), tt)

good_l4 : IsGood 7 (worked_table L4Pinned ((0, 0x6067) ∷ (260, 2 ^ 64 - 1) ∷ []))
good_l4 = good_table 7 4 L4Pinned ((0, 0x6067) ∷ (260, 2 ^ 64 - 1) ∷ []) refl refl refl (omega arith) (known_slot 4 0 0x6067 (lit< tt) (there 6 (omega arith) refl), (hypervisor_slot, tt))

good_frames : AllByRecursion (λ e. IsGood e.0 e.1) worked_frames
good_frames =
    let one = good_page 1 0x01 (omega arith) in
    let two = good_page 2 0xee (omega arith) in
    let three = good_page 3 0x03 (omega arith) in
    let eight = good_page 8 0x08 (omega arith) in
    let nine = good_page 9 0x09 (omega arith) in
    (one, (two, (three, (good_l1, (good_l2, (good_l3, (good_l4, (eight, (nine, tt)))))))))

each_frame : (pfn : ℕ) (frame : FrameOf) → maps.get frames pfn ≡ Some frame → IsGood pfn frame
each_frame = listed_hold nat_cmp_total nat_cmp-IsAntisymmetric IsGood worked_frames good_frames

-- ---- its vCPU

-- the number at each place of the context
number_of : (i : ℕ) → i < 646 → long_at context i ≡ number_at worked_context i
number_of i lt = long_of_longs 646 (number_at worked_context) i lt (each_number (λ _ e. e < 2 ^ 64) worked_context (lit< tt, (lit< tt, (lit< tt, (lit< tt, tt)))) (λ _. lit< tt) i)

gdt_one_page : gdt_ents context ≡ 512
gdt_one_page = number_of 620 (lit< tt)

-- the field says a frame of its type
abbrev Fits : List ℕ → ℕ → Type 0
Fits bytes field = fits_field field (type_at frames (frame_of_field field (field_value bytes field))) ≡ true

-- a field that has the value v fits where v says a frame of the field's type
fits_as : (field v : ℕ) → field_value context field ≡ v → fits_field field (option_map (λ (f : FrameOf). f.type) (maps.find nat_cmp (frame_of_field field v) worked_frames)) ≡ true → Fits context field
fits_as field v is fits = ap (λ n. fits_field field (type_at frames (frame_of_field field n))) is ∙ ap (λ o. fits_field field (option_map (λ (f : FrameOf). f.type) o)) (got_frame (frame_of_field field v)) ∙ fits

-- of the GDT's frames the first alone is used
gdt_unused : (field : ℕ) → 1 < field → field ≤ 16 → (v : ℕ) → is_used 0 (gdt_ents context) field v ≡ false
gdt_unused field some most v =
    ap (λ n. is_used 0 n field v) gdt_one_page ∙ ap (λ b. cond b true (cond (nat_le field 16) (nat_lt ((field - 1) * 512) 512) (cond (field == 17) true (is_marked v)))) (ne_eqb field 0 (λ e. omega (arith, e, some)))
    ∙ ap (λ b. cond b (nat_lt ((field - 1) * 512) 512) (cond (field == 17) true (is_marked v))) (le-leb field 16 most) ∙ le-ltb ((field - 1) * 512) 512 (omega (arith, some))

-- ctrlreg[1] is 0
control_unused : is_used 0 (gdt_ents context) 18 (field_value context 18) ≡ false
control_unused = ap is_marked (number_of 624 (lit< tt))

context_fits : (field : ℕ) → field ≤ 18 → is_used 0 (gdt_ents context) field (field_value context field) ≡ true → Fits context field
context_fits field most used = elim (cases_eq field 0) [
  | inl e ↦ subst (Fits context) (sym e) (fits_as 0 1 (number_of 77 (lit< tt)) refl)
  | inr some ↦ elim (cases_eq field 1) [
    | inl e ↦ subst (Fits context) (sym e) (fits_as 1 3 (number_of 604 (lit< tt)) refl)
    | inr more ↦ elim (cases_lt field 17) [
      | inl lt ↦ let no : false ≡ true = sym (gdt_unused field (omega (arith, some, more)) (omega (arith, lt)) (field_value context field)) ∙ used in cc
      | inr ge ↦ elim (cases_eq field 17) [
        | inl e ↦ subst (Fits context) (sym e) (fits_as 17 0x7000 (number_of 626 (lit< tt)) refl)
        | inr ne ↦
            let last : field ≡ 18 = omega (arith, ge, ne, most) in
            let no : false ≡ true = sym control_unused ∙ subst (λ f. is_used 0 (gdt_ents context) f (field_value context f) ≡ true) last used in cc
      ]
    ]
  ]
]

-- ---- its parts

-- a part that is well formed, and of which each field that the vCPU uses fits, where it is a context
abbrev IsGoodPart : PartKey → List ℕ → Type 0
IsGoodPart key bytes = IsPart Pv 16 key bytes × (key.code ≡ 4 → (field : ℕ) → field ≤ 18 → is_used key.key1 (gdt_ents bytes) field (field_value bytes field) ≡ true → Fits bytes field)

good_p2m : IsGoodPart p2m_key p2m
good_p2m = (
  record { code = P2mFrames; number = refl; of_kind = refl; keys = refl; small1 = lit< tt; small2 = lit< tt; len = eq-eqb (length p2m) 8 (length_longs 1 (λ _. 2)); content = tt },
  λ is. absurd (omega (arith, is)),
)

good_shared : IsGoodPart shared_key shared
good_shared = (
  record { code = SharedInfo; number = refl; of_kind = refl; keys = refl; small1 = lit< tt; small2 = lit< tt; len = eq-eqb (length shared) 4096 (length_longs 512 (number_at ((387, 0x99) ∷ []))); content = tt },
  λ is. absurd (omega (arith, is)),
)

good_context : IsGoodPart (vcpu_key 0) context
good_context = (
  record {
    code = VcpuBasic;
    number = refl;
    of_kind = refl;
    keys = refl;
    small1 = lit< tt;
    small2 = lit< tt;
    len = eq-eqb (length context) 5168 (length_longs 646 (number_at worked_context));
    content = subst (λ n. n ≤ most_gdt_entries) (sym gdt_one_page) (omega arith);
  },
  λ is. context_fits,
)

each_part : (key : PartKey) (bytes : List ℕ) → maps.get parts key ≡ Some bytes → IsGoodPart key bytes
each_part = listed_hold part_total part_exact IsGoodPart worked_parts (good_p2m, (good_shared, (good_context, tt)))

-- ---- its P2M frame

-- only frame 2 is listed, at index 0
listed_first : (k pfn : ℕ) → listed parts k ≡ Some pfn → (k ≡ 0) × (pfn ≡ 2)
listed_first k pfn is =
    let (low, at) = cond_some (nat_lt k 1) (long_at p2m k) pfn (sym (ap (λ n. cond (nat_lt k (n / 8)) (Some (long_at p2m k)) None) (length_longs 1 (λ _. 2))) ∙ sym (ap (λ o. listed_in o k) (got_part p2m_key)) ∙ is) in
    let lt = ltb-true k 1 low in
    (omega (arith, lt), sym at ∙ long_of_longs 1 (λ _. 2) k lt (lit< tt))

p2m_frames : AreP2mFrames frames parts
p2m_frames = record {
  types = λ k pfn is. ap (type_at frames) (listed_first k pfn is).1 ∙ ap (option_map (λ (f : FrameOf). f.type)) (got_frame 2);
  twice = λ j k pfn less one two. absurd (omega (arith, less, (listed_first k pfn two).0));
}

-- ---- whole

formed : IsFormed worked_pv_guest
formed = record {
  top = lit< tt;
  frames = λ pfn frame got. (each_frame pfn frame got).0;
  parts = λ key bytes got. (each_part key bytes got).0;
  policies = λ code one. omega (arith, length-filter_both (λ (e : Part). e.0.code == code) (λ e. not (e.0.code == code)) (λ _. refl) (maps.entries parts), listed_len part_total part_exact worked_parts);
}

part_there : (key : PartKey) → IsSome (maps.find part_cmp key worked_parts) → IsSome (maps.get parts key)
part_there key is = subst IsSome (sym (got_part key)) is

pub worked_is_whole : IsWhole worked_pv_guest
worked_is_whole = (pv_whole worked_pv_guest refl).1 (record {
  formed = formed;
  complete = record {
    p2m_there = part_there p2m_key refl;
    shared_there = part_there shared_key refl;
    vcpu_there = part_there (vcpu_key 0) refl;
    p2m = p2m_frames;
    targets = λ pfn frame got level page is has slot lt n e. (subst IsKnown e ((each_frame pfn frame got).1 level page is has slot lt)).1;
    fields = λ key bytes got. (each_part key bytes got).1;
    few = omega (arith, listed_len nat_cmp_total nat_cmp-IsAntisymmetric worked_frames);
  };
})

pub some_blank_whole : (g : GuestOf) × (g.kind ≡ Pv) × IsWhole g × (blank g ≡ g)
some_blank_whole = (blank worked_pv_guest, refl, whole_blank worked_pv_guest worked_is_whole, blank_again worked_pv_guest)
