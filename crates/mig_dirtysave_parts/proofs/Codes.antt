-- The parts of some codes of a host: they make a well formed guest, and their records are those of the host's view.
use Rattle.mig_dirtysave_parts.proofs.Common.{ℕ, ◌+◌, ◌-◌, ◌<◌, ◌≤◌, ◌^◌, Bool, true, false, cond, List, [], ◌∷◌, length, Option, Some, None, option_map, arith, ◌==◌, eqb-true, part_total, part_exact, Pv, Hvm, PartKey, FrameOf, IsFormed, IsPart, context_key, part_cmp, ◌≢◌, AllByRecursion, append_assoc, inl, inr, Kind, PartCode, Tsc, is_policy, HostOf, IsHostPart, IsValid, pfn_in, row_of, code_number, Part, FitsPolicy, same_parts, empty_formed, tied, one_code, shape_of, Record, info_records, p2m_records, records_of, records_in_order, static_bodies, last_records, AreRecordsWithin, blanked_context, blanked_shared, is_used_somewhere, renamed_part, renamed_context, view, guest_in, top_of, pv_part, each_policy, top_is, is_early, is_setting, kept_parts, parts_alone, IsContextFront, context_record, closing_records, most_policy_entries, append-nil, length-append, length-take-le, map, leb-true, or_cases, length-replicate, HvmContext, HvmParam, CpuidLeaf, Msr, is_emulator_code, canonical_bodies, contents_by_shape, parts_at, SayAll, p2m_record, p2m_short, IsRecordWithin, get_each, to_each, stays_each, blanked_part, renamed, hvm_view, hvm_part, HoldsParts}
use Rattle.mig_host_view.proofs.Common.{◌≡◌, ◌++◌, replicate, refl, sym, ap, subst, ◌∙◌, ne_eqb, GuestOf}
use Rattle.std.specs.Ordering.{eq_by_cmp, nat_cmp}
use Rattle.byteorder.specs.Endian.{little_bytes}
use Rattle.byteorder.specs.Numbers.{length-bytes_low_first}
use Rattle.std.proofs.lemmas.Cmp.{eq_by_cmp_equiv}
use Rattle.mig_headers.specs.Contexts.{scan}
use Rattle.mig_guest.specs.PartKeys.{p2m_key}
use Rattle.mig_guest.specs.Parts.{PartMap, parts_of}
use Rattle.mig_records.proofs.Canonical.{canonical_bodies_say}
use Rattle.mig_host_view.specs.Normalised.{cut_by, part_seen, normalised_of}
use Rattle.mig_dirtysave_parts.proofs.Walks.{kept_at}
use Rattle.std.specs.FinMap as maps
use Rattle.mig_host_view.proofs.ViewedHvm.{context_is}

-- ---- the parts of some codes

from_cond : (b : Bool) (o : Option (List ℕ)) (bytes : List ℕ) → cond b o None ≡ Some bytes → (b ≡ true) × (o ≡ Some bytes)
from_cond true o bytes is = (refl, is)
from_cond false o bytes is = let no : ◌≡◌ {A = Option (List ℕ)} None (Some bytes) = is in cc

pub from_kept : (codes : ℕ → Bool) (m : PartMap) (key : PartKey) (bytes : List ℕ) → maps.get (kept_parts codes m) key ≡ Some bytes → (codes key.code ≡ true) × (maps.get m key ≡ Some bytes)
from_kept codes m key bytes is = from_cond (codes key.code) (maps.get m key) bytes (sym (kept_at codes m key) ∙ is)

-- the parts of emulators are among the settings
pub emulator_setting : (code : ℕ) → is_emulator_code code ≡ true → is_setting code ≡ true
emulator_setting code is = elim (or_cases (code == 258) (code == 259) is) [ inl a ↦ ap is_setting (eqb-true code 258 a) | inr b ↦ ap is_setting (eqb-true code 259 b) ]

pub emulators_kept : (m : PartMap) (q : PartKey) → is_emulator_code q.code ≡ true → maps.get m q ≡ maps.get (kept_parts is_setting m) q
emulators_kept m q is = sym (kept_at is_setting m q ∙ ap (λ b. cond b (maps.get m q) None) (emulator_setting q.code is))

-- an HVM host is no PV host
pub no_pv : (h : HostOf) (codes : ℕ → Bool) → h.kind ≡ Hvm → h.kind ≡ Pv → codes 4 ≡ false
no_pv h codes hvm pv = let no : Hvm ≡ Pv = sym hvm ∙ pv in cc

module _ (h : HostOf) (valid : IsValid h) (codes : ℕ → Bool) (plain : codes 9 ≡ false) (bare : h.kind ≡ Pv → codes 4 ≡ false) where
  apart_from : (n : ℕ) → codes n ≡ false → (key : PartKey) → codes key.code ≡ true → key.code ≡ n → ⊥
  apart_from n isnt key of same = let no : true ≡ false = sym of ∙ ap codes same ∙ isnt in absurd (cc)

  host_part : (k : Kind) → h.kind ≡ k → (key : PartKey) (bytes : List ℕ) → maps.get h.parts key ≡ Some bytes → IsHostPart k h.width key bytes
  host_part k kind key bytes there = subst (λ (k : Kind). IsHostPart k h.width key bytes) kind (valid.parts key bytes there)

  -- one frame number more than the greatest
  width_back : h.kind ≡ Pv → h.width ≡ h.width - 1 + 1
  width_back pv = let some = valid.some_width pv in omega (arith, some)

  kept_part : (k : Kind) → h.kind ≡ k → (key : PartKey) (bytes : List ℕ) → maps.get (kept_parts codes h.parts) key ≡ Some bytes → IsPart k (top_of k h.width + 1) key bytes
  kept_part Hvm hvm key bytes is =
      let (of, there) = from_kept codes h.parts key bytes is in
      let apart : (key.code == 9) ≡ false = ne_eqb key.code 9 (apart_from 9 plain key of) in
      subst (IsPart Hvm 1 key) (ap (λ b. cond b (cut_by (scan bytes) bytes) bytes) apart)
      (hvm_part h.width 1 key bytes (host_part Hvm hvm key bytes there) (λ nine. absurd (apart_from 9 plain key of nine)))
  kept_part Pv pv key bytes is =
      let (of, there) = from_kept codes h.parts key bytes is in
      let apart : (key.code == 4) ≡ false = ne_eqb key.code 4 (apart_from 4 (bare pv) key of) in
      subst (λ (w : ℕ). IsPart Pv w key bytes) (width_back pv)
      (subst (IsPart Pv h.width key) (ap (λ b. cond b (renamed_context is_used_somewhere (λ _. None) key.key1 bytes) bytes) apart)
      (pv_part (λ _. None) h.width key bytes (host_part Pv pv key bytes there) (λ four. absurd (apart_from 4 (bare pv) key of four))))

  kept_fits : (code : ℕ) → FitsPolicy code h.parts → is_policy code ≡ true → (b : Bool) → codes code ≡ b → FitsPolicy code (kept_parts codes h.parts)
  kept_fits code fits one true is =
      subst (λ (ps : List Part). length ps ≤ most_policy_entries) (same_parts code h.parts (kept_parts codes h.parts) (λ q of. sym (kept_at codes h.parts q ∙ ap (λ b. cond b (maps.get h.parts q) None) (ap codes of ∙ is)))) fits
  kept_fits code fits one false is =
      subst (λ (ps : List Part). length ps ≤ most_policy_entries) (same_parts code maps.empty (kept_parts codes h.parts) (λ q of. maps.get-empty part_cmp q ∙ sym (kept_at codes h.parts q ∙ ap (λ b. cond b (maps.get h.parts q) None) (ap codes of ∙ is))))
      ((empty_formed Hvm).policies code one)

  no_frame : (pfn : ℕ) (frame : FrameOf) → maps.get (parts_alone Hvm 0 maps.empty).frames pfn ≡ Some frame → ⊥
  no_frame pfn frame is = let no : ◌≡◌ {A = Option FrameOf} None (Some frame) = sym (maps.get-empty nat_cmp pfn) ∙ is in cc

  pub kept_formed : IsFormed (parts_alone h.kind h.width (kept_parts codes h.parts))
  kept_formed = record {
    top = top_is h.kind h.width valid.pv_width valid.some_width;
    frames = λ pfn frame is. absurd (no_frame pfn frame is);
    parts = λ key bytes is. kept_part h.kind refl key bytes is;
    policies = λ code one. each_policy (λ c. is_policy c ≡ true → FitsPolicy c (kept_parts codes h.parts)) (λ two. kept_fits 17 valid.leaves two (codes 17) refl) (λ two. kept_fits 18 valid.msrs two (codes 18) refl) code one one;
  }

pub holds_kept : (h : HostOf) (codes : ℕ → Bool) → HoldsParts codes h.kind h.width (parts_alone h.kind h.width (kept_parts codes h.parts))
holds_kept h codes = record { bare = refl; alone = λ key bytes is. (from_kept codes h.parts key bytes is).0 }

-- ---- records

-- what a guest has before its frames
abbrev pub first_records : GuestOf → List Record
first_records g = info_records g.kind ++ (static_bodies g ++ p2m_records g.kind g)

-- guests that are alike at the keys of a code have the same records of it
pub same_records : (code : PartCode) (g k : GuestOf) → ((q : PartKey) → q.code ≡ code_number code → maps.get g.parts q ≡ maps.get k.parts q) → records_of code g ≡ records_of code k
same_records code g k alike = ap (λ (ps : List Part). map (λ (body : List ℕ). (code_number code, body)) (canonical_bodies code ps)) (same_parts (code_number code) g.parts k.parts alike)

module _ (h : HostOf) where
  -- the host's view, by its kind
  abbrev pub seen_as : Kind → GuestOf
  seen_as k = normalised_of k (pfn_in h.frames) (guest_in h)

  -- its parts stay, but for contexts and the shared page
  seen_at : (k : Kind) (q : PartKey) (n : ℕ) → q.code ≡ n → (n == 9) ≡ false → (n == 4) ≡ false → (n == 7) ≡ false → maps.get (seen_as k).parts q ≡ maps.get h.parts q
  seen_at Hvm q n of nine four seven = stays_each part_total part_exact part_seen q (λ x. ap (λ b. cond b (cut_by (scan x) x) x) (ap (λ m. m == 9) of ∙ nine)) h.parts
  seen_at Pv q n of nine four seven =
      stays_each part_total part_exact blanked_part q (λ x. ap (λ b. cond b (blanked_context x) (cond (q.code == 7) (blanked_shared x) x)) (ap (λ m. m == 4) of ∙ four) ∙ ap (λ b. cond b (blanked_shared x) x) (ap (λ m. m == 7) of ∙ seven)) (renamed is_used_somewhere (pfn_in h.frames) (guest_in h)).parts
      ∙ stays_each part_total part_exact (renamed_part is_used_somewhere (pfn_in h.frames)) q (λ x. ap (λ b. cond b (renamed_context is_used_somewhere (pfn_in h.frames) q.key1 x) x) (ap (λ m. m == 4) of ∙ four)) h.parts

  -- those of emulators among them
  pub emulators_seen : (q : PartKey) → is_emulator_code q.code ≡ true → maps.get (view h).parts q ≡ maps.get h.parts q
  emulators_seen q code = elim (or_cases (q.code == 258) (q.code == 259) code) [
    | inl a ↦ seen_at h.kind q 258 (eqb-true q.code 258 a) refl refl refl
    | inr b ↦ seen_at h.kind q 259 (eqb-true q.code 259 b) refl refl refl
  ]

  kind_seen : (k : Kind) → (seen_as k).kind ≡ h.kind
  kind_seen Hvm = refl
  kind_seen Pv = refl

  pub viewed_kind : (view h).kind ≡ h.kind
  viewed_kind = kind_seen h.kind

  -- ---- before the frames

  abbrev first_of : Kind → GuestOf → List Record
  first_of k g = info_records k ++ (static_bodies g ++ p2m_records k g)

  module _ (g : GuestOf) (top : g.top ≡ top_of h.kind h.width) (alike : (key : PartKey) → is_early key.code ≡ true → maps.get h.parts key ≡ maps.get g.parts key) where
    static_seen : (k : Kind) → static_bodies (seen_as k) ≡ static_bodies g
    static_seen k =
        let leaves = same_records CpuidLeaf (seen_as k) g (λ q of. seen_at k q 17 of refl refl refl ∙ alike q (ap is_early of)) in
        let msrs = same_records Msr (seen_as k) g (λ q of. seen_at k q 18 of refl refl refl ∙ alike q (ap is_early of)) in
        λ i. (leaves i ++ (msrs i ++ [])) ++ (0x10, []) ∷ []

    first_by : (k : Kind) → first_of k (seen_as k) ≡ first_of k g
    first_by Hvm = let static = static_seen Hvm in λ i. [] ++ (static i ++ [])
    first_by Pv =
        let static = static_seen Pv in
        let tops = sym top in
        let p2m = seen_at Pv p2m_key 3 refl refl refl refl ∙ alike p2m_key refl in
        λ i. info_records Pv ++ (static i ++ p2m_record (tops i) (p2m i))

    -- what never changes
    pub first_seen : g.kind ≡ h.kind → first_records (view h) ≡ first_records g
    first_seen kind = ap (λ (k : Kind). first_of k (view h)) viewed_kind ∙ first_by h.kind ∙ ap (λ (k : Kind). first_of k g) (sym kind)

  -- ---- behind them

  -- the settings
  abbrev settings : GuestOf
  settings = parts_alone h.kind h.width (kept_parts is_setting h.parts)

  setting_seen : (code : PartCode) → is_setting (code_number code) ≡ true → (code_number code == 9) ≡ false → (code_number code == 4) ≡ false → (code_number code == 7) ≡ false → records_of code (seen_as Hvm) ≡ records_of code settings
  setting_seen code of nine four seven = same_records code (seen_as Hvm) settings (λ q is.
      seen_at Hvm q (code_number code) is nine four seven ∙ sym (kept_at is_setting h.parts q ∙ ap (λ b. cond b (maps.get h.parts q) None) (ap is_setting is ∙ of)))

  module _ (valid : IsValid h) (front : List ℕ) (f : IsContextFront h.parts front) where
    abbrev cut : List ℕ
    cut = front ++ replicate 8 0

    abbrev sole : PartMap
    sole = maps.from_sorted ((context_key, cut) ∷ [])

    sole_at : (q : PartKey) → maps.get sole q ≡ cond (eq_by_cmp part_cmp q context_key) (Some cut) None
    sole_at q = maps.get-from_sorted part_cmp ((context_key, cut) ∷ []) q tt

    cut_seen : part_seen context_key f.context ≡ cut
    cut_seen = ap (λ r. cut_by r f.context) f.scanned ∙ ap (λ l. l ++ replicate 8 0) (sym f.is)

    alike_at : (q : PartKey) → q.code ≡ 9 → (b : Bool) → eq_by_cmp part_cmp q context_key ≡ b → (o : Option (List ℕ)) → maps.get h.parts q ≡ o → maps.get (hvm_view h).parts q ≡ cond b (Some cut) None
    alike_at q nine true is o at =
        let same = part_exact q context_key (tied _ is) in
        ap (maps.get (hvm_view h).parts) same ∙ to_each part_total part_exact part_seen h.parts context_key f.context f.there ∙ ap Some cut_seen
    alike_at q nine false is None at = get_each part_total part_exact part_seen h.parts q ∙ ap (option_map (part_seen q)) at
    alike_at q nine false is (Some x) at =
        let same = context_is h valid q x at nine in
        let no : true ≡ false = sym ((eq_by_cmp_equiv part_total).refl q) ∙ ap (eq_by_cmp part_cmp q) same ∙ is in cc

    context_seen : records_of HvmContext (hvm_view h) ≡ context_record front ∷ []
    context_seen =
        same_records HvmContext (hvm_view h) (parts_alone Hvm 0 sole) (λ q nine. alike_at q nine (eq_by_cmp part_cmp q context_key) refl (maps.get h.parts q) refl ∙ sym (sole_at q))
        ∙ ap (λ (es : List Part). map (λ (body : List ℕ). (9, body)) (canonical_bodies HvmContext (parts_of 9 es))) (maps.entries-from_sorted part_cmp ((context_key, cut) ∷ []) tt)

    pub front_short : length front + 8 ≤ 2 ^ 27
    front_short =
        let is = valid.parts context_key f.context f.there in
        let most : length f.context ≤ 2 ^ 27 = leb-true (length f.context) (2 ^ 27) (subst (λ c. (row_of c).allows h.width (length f.context) ≡ true) (sym (one_code HvmContext is.code is.number)) is.len) in
        omega (arith, most, f.fits, ap length f.is ∙ length-take-le f.end f.context (omega (arith, f.fits)))

    -- the settings and the context
    pub last_seen : last_records Hvm (hvm_view h) ≡ closing_records settings front
    last_seen =
        let tsc = setting_seen Tsc refl refl refl refl in let params = setting_seen HvmParam refl refl refl refl in
        (λ i. tsc i ++ (params i ++ (context_seen i ++ [])))
        ∙ ap (λ (l : List Record). records_of Tsc settings ++ (l ++ (context_record front ∷ []))) (sym (append-nil (records_of HvmParam settings)))
        ∙ sym (append_assoc (records_of Tsc settings) (records_of HvmParam settings ++ []) (context_record front ∷ []))

-- ---- none of them is END or VERIFY, or has frames

pub both_all : (P : Record → Type 0) (rs ss : List Record) → AllByRecursion P rs → AllByRecursion P ss → AllByRecursion P (rs ++ ss)
both_all P [] ss p q = q
both_all P (r ∷ rs) ss p q = (p.0, both_all P rs ss p.1 q)

-- the type of no record that has frames, and not that of VERIFY
abbrev pub IsOtherType : ℕ → Type 0
IsOtherType type = (type ≢ 1) × (type ≢ 13)

abbrev pub IsOther : Record → Type 0
IsOther r = IsRecordWithin r × IsOtherType r.0

bodies_within : (code : PartCode) → code_number code < 2 ^ 32 → code_number code ≢ 0 → IsOtherType (code_number code) → (bodies : List (List ℕ)) (contents : List (List Part)) → SayAll code bodies contents
    → AllByRecursion IsOther (map (λ (body : List ℕ). (code_number code, body)) bodies)
bodies_within code small no_end no_page [] contents say = tt
bodies_within code small no_end no_page (body ∷ bodies) [] say = absurd say
bodies_within code small no_end no_page (body ∷ bodies) (ps ∷ pss) say =
    ((record { short = record { type = small; len = say.0.short }; no_end = no_end }, no_page), bodies_within code small no_end no_page bodies pss say.1)

-- the record of P2M frames that a guest of this kind and top has
abbrev p2m_by : Kind → ℕ → Option (List ℕ) → List Record
p2m_by Hvm top o = []
p2m_by Pv top o = p2m_record top o

module _ (g : GuestOf) (formed : IsFormed g) where
  pub code_within : (code : PartCode) → code_number code < 2 ^ 32 → code_number code ≢ 0 → IsOtherType (code_number code) → AllByRecursion IsOther (records_of code g)
  code_within code small no_end no_page = bodies_within code small no_end no_page (canonical_bodies code (parts_at code g)) (contents_by_shape (shape_of code) (parts_at code g)) (canonical_bodies_say code g formed)

  two_within : (a b : PartCode) (last : Record) → AllByRecursion IsOther (records_of a g) → AllByRecursion IsOther (records_of b g) → IsOther last → AllByRecursion IsOther (records_in_order (a ∷ b ∷ []) g ++ last ∷ [])
  two_within a b last p q r = both_all IsOther (records_of a g ++ (records_of b g ++ [])) (last ∷ []) (both_all IsOther (records_of a g) (records_of b g ++ []) p (both_all IsOther (records_of b g) [] q tt)) (r, tt)

  static_within : AllByRecursion IsOther (static_bodies g)
  static_within =
      two_within CpuidLeaf Msr (0x10, []) (code_within CpuidLeaf (omega arith) (λ e. omega (arith, e)) (λ e. omega (arith, e), λ e. omega (arith, e))) (code_within Msr (omega arith) (λ e. omega (arith, e)) (λ e. omega (arith, e), λ e. omega (arith, e)))
      (record { short = record { type = omega arith; len = omega arith }; no_end = λ e. omega (arith, e) }, (λ e. omega (arith, e), λ e. omega (arith, e)))

  info_within : (k : Kind) → AllByRecursion IsOther (info_records k)
  info_within Hvm = tt
  info_within Pv = ((record { short = record { type = omega arith; len = omega (arith, length-replicate {A = ℕ} 6 0) }; no_end = λ e. omega (arith, e) }, (λ e. omega (arith, e), λ e. omega (arith, e))), tt)

  p2m_within : (k : Kind) → g.kind ≡ k → (o : Option (List ℕ)) → maps.get g.parts p2m_key ≡ o → AllByRecursion IsOther (p2m_by k g.top o)
  p2m_within Hvm kind o at = tt
  p2m_within Pv kind None at = tt
  p2m_within Pv kind (Some frames) at =
      let short = p2m_short g formed kind frames at in
      let numbers = little_bytes 4 g.top in (
        (
          record {
            short = record { type = omega arith; len = omega (arith, short, length-append (replicate 4 0) (numbers ++ frames), length-append numbers frames, length-replicate {A = ℕ} 4 0, length-bytes_low_first 0 4 g.top) };
            no_end = λ e. omega (arith, e);
          },
          (λ e. omega (arith, e), λ e. omega (arith, e)),
        ),
        tt,
      )

  p2m_is : (k : Kind) → p2m_by k g.top (maps.get g.parts p2m_key) ≡ p2m_records k g
  p2m_is Hvm = refl
  p2m_is Pv = refl

  pub first_within : AllByRecursion IsOther (first_records g)
  first_within =
      both_all IsOther (info_records g.kind) _ (info_within g.kind)
      (both_all IsOther (static_bodies g) _ static_within
      (subst (AllByRecursion IsOther) (p2m_is g.kind) (p2m_within g.kind refl (maps.get g.parts p2m_key) refl)))

  pub closing_within : (front : List ℕ) → length front + 8 ≤ 2 ^ 27 → AllByRecursion IsOther (closing_records g front)
  closing_within front short =
      two_within Tsc HvmParam (context_record front) (code_within Tsc (omega arith) (λ e. omega (arith, e)) (λ e. omega (arith, e), λ e. omega (arith, e))) (code_within HvmParam (omega arith) (λ e. omega (arith, e)) (λ e. omega (arith, e), λ e. omega (arith, e)))
      (record { short = record { type = omega arith; len = omega (arith, short, length-append front (replicate 8 0), length-replicate {A = ℕ} 8 0) }; no_end = λ e. omega (arith, e) }, (λ e. omega (arith, e), λ e. omega (arith, e)))

pub are_within : (rs : List Record) → AllByRecursion IsOther rs → AreRecordsWithin rs
are_within [] p = tt
are_within (r ∷ rs) p = (p.0.0, are_within rs p.1)
