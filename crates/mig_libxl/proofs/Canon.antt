-- The image in a canonical stream: it says the guest without the parts of its emulators.
use Rattle.mig_libxl.proofs.Common.{and_parts, ◌≡◌, ℕ, Bool, true, false, cond, not, List, [], ◌∷◌, ◌++◌, map, Option, Some, None, refl, sym, ap, subst, ◌∙◌, ◌↔◌, ◌≤◌, length, list_any, eq_by_cmp, find, Pv, IsFormed, is_emulator_code, GuestOf, part_cmp, Part, PartMap, parts_of, EmulatorPairs, PartKey, all_found, tied, part_total, part_exact, has_emulators, bare_guest, list_any_none, same_parts, most_policy_entries, list_all, flat_map, range_with_len, Kind, Hvm, HasNoEmulators, IsWhole, text_of, or_parts, not-true, nothing, plain_policy, hvm_faultless}
use Rattle.mig_canon.specs.Canon.{records_in_order, static_codes, last_codes, pv_last_codes, vcpu_codes, bodies_of, frame_bodies, frames_in, batches, headers, info_records, key_of, last_records, p2m_record, p2m_records, part_record, records_of, records_of_vcpu, static_bodies, vcpu_record, vcpus_below, all_vcpus, canon}
use Rattle.mig_guest.specs.PartCodes.{row_of, code_number}
use Rattle.mig_guest.specs.PartKeys.{p2m_key, context_key}
use Rattle.mig_guest.specs.declared.part_code.PartCode.{PartCode}
use Rattle.mig_canon.proofs.Common.{bodies_by_shape, shape_of}
use Rattle.mig_pvtables.specs.Blank.{blank, blank_of}
use Rattle.mig_records_pages.specs.PageData.{Frame}
use Rattle.mig_canon.specs.Batched.{batch_records, batched}
use Rattle.std.specs.FinMap as maps

-- what is false of all entries is false of one that is found
none_found : (test : PartKey → Bool) (q : PartKey) (bytes : List ℕ) (es : List Part) → list_any (λ e. test e.0) es ≡ false → find part_cmp q es ≡ Some bytes → test q ≡ false
none_found test q bytes [] none is = absurd (cc)
none_found test q bytes (e ∷ es) none is =
    let (first, others) = or_parts (test e.0) (list_any (λ e. test e.0) es) none in
    elim (eq_by_cmp part_cmp q e.0) as (λ b. eq_by_cmp part_cmp q e.0 ≡ b → cond b (Some e.1) (find part_cmp q es) ≡ Some bytes → test q ≡ false) [
      | true ↦ λ t at. ap test (part_exact q e.0 (tied _ t)) ∙ first
      | false ↦ λ t at. none_found test q bytes es others at
    ] refl is

-- a test fails of all keys of a map exactly where it fails of all that are found
pub none_is : (test : PartKey → Bool) (parts : PartMap) → (list_any (λ e. test e.0) (maps.entries parts) ≡ false) ↔ ((key : PartKey) (bytes : List ℕ) → maps.get parts key ≡ Some bytes → test key ≡ false)
none_is test parts = (
  λ none key bytes got. none_found test key bytes (maps.entries parts) none (sym (maps.get-entries parts key) ∙ got),
  λ none. list_any_none (λ (e : Part). test e.0) (maps.entries parts)
      (all_found part_total part_exact (λ (e : Part). test e.0 ≡ false) (maps.entries parts) (maps.entries_sorted parts) (λ q v is. none q v (maps.get-entries parts q ∙ is))),
)

pub plain_is : (parts : PartMap) → (has_emulators parts ≡ false) ↔ HasNoEmulators parts
plain_is parts = none_is (λ k. is_emulator_code k.code) parts

-- ---- the parts that stay

module _ (g : GuestOf) where
  abbrev pub bare : GuestOf
  bare = bare_guest g

  abbrev is_kept : PartKey → Bool
  is_kept k = not (is_emulator_code k.code)

  pub bare_get : (q : PartKey) → maps.get bare.parts q ≡ cond (not (is_emulator_code q.code)) (maps.get g.parts q) None
  bare_get q = maps.get-retain_keys g.parts is_kept q (λ x e. ap is_kept (sym (part_exact q x e)))

  pub get_same : (q : PartKey) → is_emulator_code q.code ≡ false → maps.get bare.parts q ≡ maps.get g.parts q
  get_same q plain = bare_get q ∙ ap (λ b. cond (not b) (maps.get g.parts q) None) plain

  get_none : (q : PartKey) → is_emulator_code q.code ≡ true → maps.get bare.parts q ≡ None
  get_none q emulated = bare_get q ∙ ap (λ b. cond (not b) (maps.get g.parts q) None) emulated

  -- what is left was there, and is no emulator's
  pub bare_plain : HasNoEmulators bare.parts
  bare_plain q bytes got = elim (is_emulator_code q.code) as (λ b. is_emulator_code q.code ≡ b → is_emulator_code q.code ≡ false) [
    | true ↦ λ t. let no : None ≡ Some bytes = sym (get_none q t) ∙ got in cc
    | false ↦ λ t. t
  ] refl

  pub was_there : (q : PartKey) (bytes : List ℕ) → maps.get bare.parts q ≡ Some bytes → maps.get g.parts q ≡ Some bytes
  was_there q bytes got = sym (get_same q (bare_plain q bytes got)) ∙ got

  same_of_code : (c : ℕ) → is_emulator_code c ≡ false → parts_of c (maps.entries bare.parts) ≡ parts_of c (maps.entries g.parts)
  same_of_code c plain = same_parts c bare.parts g.parts (λ q is. get_same q (ap is_emulator_code is ∙ plain))

  -- ---- the image

  records_same : (code : PartCode) → is_emulator_code (code_number code) ≡ false → records_of code bare ≡ records_of code g
  records_same code plain = ap (λ ps. map (λ body. (code_number code, body)) (bodies_by_shape (shape_of code) ps)) (same_of_code (code_number code) plain)

  vcpu_same : (id : ℕ) (code : PartCode) → is_emulator_code (code_number code) ≡ false → vcpu_record bare id code ≡ vcpu_record g id code
  vcpu_same id code plain = ap (part_record code (key_of code id)) (get_same (key_of code id) plain)

  -- of the parts of these codes, of which no emulator has one
  vcpus_same : (id : ℕ) (codes : List PartCode) → list_all (λ code. not (is_emulator_code (code_number code))) codes ≡ true → flat_map (vcpu_record bare id) codes ≡ flat_map (vcpu_record g id) codes
  vcpus_same id [] plain = refl
  vcpus_same id (code ∷ codes) plain = let (first, others) = and_parts _ _ plain in (λ i. vcpu_same id code (not-true _ first) i ++ vcpus_same id codes others i)

  codes_same : (codes : List PartCode) → list_all (λ code. not (is_emulator_code (code_number code))) codes ≡ true → records_in_order codes bare ≡ records_in_order codes g
  codes_same [] plain = refl
  codes_same (code ∷ codes) plain = let (first, others) = and_parts _ _ plain in (λ i. records_same code (not-true _ first) i ++ codes_same codes others i)

  below_same : (ids : List ℕ) → flat_map (records_of_vcpu bare) ids ≡ flat_map (records_of_vcpu g) ids
  below_same [] = refl
  below_same (id ∷ ids) = (λ i. vcpus_same id vcpu_codes refl i ++ below_same ids i)

  all_same : (n : ℕ) → 4096 ≡ n → all_vcpus bare ≡ all_vcpus g
  unfolding all_vcpus
  all_same n is = ap (vcpus_below bare) is ∙ below_same (range_with_len 0 n) ∙ sym (ap (vcpus_below g) is)

  static_same : static_bodies bare ≡ static_bodies g
  static_same i = codes_same static_codes refl i ++ (0x10, []) ∷ []

  p2m_same : (kind : Kind) → p2m_records kind bare ≡ p2m_records kind g
  p2m_same Pv = ap (p2m_record g.top) (get_same p2m_key refl)
  p2m_same Hvm = refl

  last_same : (kind : Kind) → last_records kind bare ≡ last_records kind g
  last_same Pv i = codes_same pv_last_codes refl i ++ all_same 4096 refl i
  last_same Hvm i = codes_same last_codes refl i

  bodies_same : (kind : Kind) → bodies_of kind bare ≡ bodies_of kind g
  bodies_same kind i = info_records kind ++ (static_same i ++ (p2m_same kind i ++ (frame_bodies (frames_in g) (batches (frames_in g)) ++ (last_same kind i ++ (0, []) ∷ []))))

  -- the image says nothing of emulators
  pub canon_bare : canon g ≡ canon bare
  unfolding canon
  canon_bare = ap (λ bodies. headers g.kind ++ text_of bodies) (sym (bodies_same g.kind))

  -- nor with other records of its frames
  pub batched_bare : (batches : List (List Frame)) → batched bare batches ≡ batched g batches
  batched_bare batches i = headers g.kind ++ text_of (info_records g.kind ++ (static_same i ++ (p2m_same g.kind i ++ (batch_records batches ++ (last_same g.kind i ++ (0, []) ∷ [])))))

  -- ---- the guest that it says

  pub bare_is : HasNoEmulators g.parts → bare ≡ g
  bare_is plain = ap (λ (parts : PartMap). record g { parts = parts }) (maps.same_map part_total part_exact bare.parts g.parts (λ q. there q (maps.get g.parts q) refl))
    where
      there : (q : PartKey) (o : Option (List ℕ)) → maps.get g.parts q ≡ o → maps.get bare.parts q ≡ maps.get g.parts q
      there q None is = bare_get q ∙ nothing (not (is_emulator_code q.code)) (maps.get g.parts q) is
      there q (Some bytes) is = get_same q (plain q bytes is)

  -- a PV guest has no emulators
  pv_code : (c : PartCode) → (row_of c).of_kind Pv ≡ true → is_emulator_code (code_number c) ≡ false
  pv_code EmulatorPairs of_pv = cc
  pv_code _ of_pv = cc

  pub pv_plain : IsFormed g → g.kind ≡ Pv → HasNoEmulators g.parts
  pv_plain formed pv q bytes got =
      let part = formed.parts q bytes got in ap is_emulator_code part.number ∙ pv_code part.code (subst (λ (k : Kind). (row_of part.code).of_kind k ≡ true) pv part.of_kind)

  -- ---- the guest that it says is plain

  bare_formed : IsFormed g → IsFormed bare
  bare_formed formed = record {
    top = formed.top;
    frames = formed.frames;
    parts = λ key bytes got. formed.parts key bytes (was_there key bytes got);
    policies = λ code is. subst (λ (ps : List Part). length ps ≤ most_policy_entries) (sym (same_of_code code (plain_policy code is))) (formed.policies code is);
  }

  pub bare_whole : (kind : Kind) → g.kind ≡ kind → IsWhole g → blank g ≡ g → IsWhole bare × (blank bare ≡ bare)
  bare_whole Pv pv whole blanked = let is = sym (bare_is (pv_plain whole.formed pv)) in (subst IsWhole is whole, subst (λ x. blank x ≡ x) is blanked)
  bare_whole Hvm hvm whole blanked = (record { formed = bare_formed whole.formed; faultless = hvm_faultless g bare.parts hvm (get_same context_key refl) whole.faultless }, ap (λ k. blank_of k bare) hvm)
