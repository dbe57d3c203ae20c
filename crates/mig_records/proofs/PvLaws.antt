-- The bodies of X86_PV_INFO and X86_PV_P2M_FRAMES without fault are those that are spelled so; what is wrong with the body
-- of a vCPU's record.
use Rattle.mig_records.proofs.Common.{◌≡◌, ℕ, ◌+◌, ◌*◌, ◌≤◌, ◌↔◌, Bool, true, false, not, List, [], ◌∷◌, length, take, drop, nat_le, None, refl, sym, ap, ◌∙◌, arith, take-append-drop, length-append, length-drop, length-take-le, ◌==◌, ◌&&◌, little_number, eqb-true, eq-eqb, le-leb, le-ltb, and_parts, not-false, rows_fine, no_fault, Cause, Option, first_fault, fault_of_body, HasBodyLength, small_number, gdt_ents, PartCode, VcpuBasic, VcpuMsrs, leb-true, nat_lt, BadLength, Pv32, BadPvInfo, P2mStart, most_gdt_entries, vcpu_limit, option_or, common_steps, VcpuId, GdtEnts, VcpuExtended, VcpuXsave, fault_of_length, length_rows, IsPvInfo, fault_of_pv_info, p2m_count, IsP2m, fault_of_p2m, is_vcpu, fault_of_vcpu, is_vcpu_type, fault_of_vcpu_record, in32}
use Rattle.std.proofs.lemmas.List.{drop_at}
use Rattle.std.specs.Prelude.{◌||◌, ◌-◌, ◌%◌}
use Rattle.mig_bytes.specs.Fields.{le32}
use Rattle.mig_headers.specs.declared.record_type.RecordType.TheVariants as types
use Rattle.mig_records.proofs.Rows.{has_allowed}

-- ---- X86_PV_INFO

spelled_info : (body : List ℕ) → length body ≡ 8 → fault_of_pv_info body ≡ None → IsPvInfo body
spelled_info [] len fine = absurd (omega (arith, len))
spelled_info (x ∷ []) len fine = absurd (omega (arith, len))
spelled_info (x ∷ y ∷ rest) len fine =
    let both = and_parts (x == 8) (y == 4) (not-false ((x == 8) && (y == 4)) (rows_fine ((x == 4, Pv32) ∷ (not ((x == 8) && (y == 4)), BadPvInfo) ∷ []) fine).1.0) in
    record { ignored = rest; whole = rw (eqb-true x 8 both.0, eqb-true y 4 both.1) refl }

pub info_is_spelled : (body : List ℕ) → length body ≡ 8 → (fault_of_pv_info body ≡ None) ↔ IsPvInfo body
info_is_spelled body len = (spelled_info body len, (λ is. ap fault_of_pv_info is.whole))

-- ---- X86_PV_P2M_FRAMES

-- a test that isn't passed, of two of which one is met
other_fails : (b c : Bool) → (b && not c) ≡ false → b ≡ true → c ≡ true
other_fails true c none is = not-false c none
other_fails false c none is = let no : false ≡ true = is in cc

module _ (body : List ℕ) (long : 8 ≤ length body) where
  abbrev first : ℕ
  first = le32 body 0

  abbrev last : ℕ
  last = le32 body 4

  in_front : (at : ℕ) → at + 4 ≤ 8 → le32 (take 8 body) at ≡ le32 body at
  in_front at le = sym (in32 (take 8 body) (drop 8 body) at (omega (arith, le, length-take-le 8 body long))) ∙ ap (λ b. le32 b at) (take-append-drop 8 body)

  spelled_p2m : fault_of_p2m body ≡ None → IsP2m last (drop 8 body) body
  spelled_p2m fine =
      let rows = rows_fine ((nat_le first last && not (length body == 8 + 8 * p2m_count first last), BadLength (length body)) ∷ (not (first == 0), P2mStart first) ∷ []) fine in
      let zero : first ≡ 0 = eqb-true first 0 (not-false (first == 0) rows.1.0) in
      let size : length body ≡ 8 + 8 * p2m_count first last = eqb-true _ _ (other_fails (nat_le first last) (length body == 8 + 8 * p2m_count first last) rows.0 (le-leb first last (omega (arith, zero)))) in
      record {
        front = take 8 body;
        whole = sym (take-append-drop 8 body);
        front_len = length-take-le 8 body long;
        first_is = in_front 0 (omega arith) ∙ zero;
        last_is = in_front 4 (omega arith);
        listed = omega (arith, length-drop 8 body, size, ap (λ n. 8 * p2m_count n last) zero);
      }

  p2m_spelled : IsP2m last (drop 8 body) body → fault_of_p2m body ≡ None
  p2m_spelled is =
      let zero : first ≡ 0 = ap (λ b. le32 b 0) is.whole ∙ in32 is.front (drop 8 body) 0 (omega (arith, is.front_len)) ∙ is.first_is in
      let size : length body ≡ 8 + 8 * p2m_count first last = omega (arith, length-drop 8 body, long, is.listed, ap (λ n. 8 * p2m_count n last) zero) in
      no_fault ((nat_le first last && not (length body == 8 + 8 * p2m_count first last), BadLength (length body)) ∷ (not (first == 0), P2mStart first) ∷ [])
      (never (nat_le first last) _ (eq-eqb _ _ size), (ap not (eq-eqb first 0 zero), tt))
    where
      never : (b c : Bool) → c ≡ true → (b && not c) ≡ false
      never true c is = ap not is
      never false c is = refl

  pub p2m_is_spelled : (fault_of_p2m body ≡ None) ↔ IsP2m last (drop 8 body) body
  p2m_is_spelled = (spelled_p2m, p2m_spelled)

-- what a list of P2M frames is spelled as stands in its body
pub list_is : (last : ℕ) (frames body : List ℕ) → IsP2m last frames body → (8 ≤ length body) × (le32 body 4 ≡ last) × (drop 8 body ≡ frames)
list_is last frames body is =
    let size : length body ≡ 8 + length frames = ap length is.whole ∙ length-append is.front frames ∙ ap (λ n. n + length frames) is.front_len in (
      omega (arith, size),
      ap (λ l. le32 l 4) is.whole ∙ in32 is.front frames 4 (omega (arith, is.front_len)) ∙ is.last_is,
      ap (drop 8) is.whole ∙ drop_at is.front frames 8 is.front_len,
    )

-- ---- the records of vCPUs

-- a number isn't below another where that one isn't above it
not_below : (n : ℕ) → not (nat_lt n vcpu_limit && true) ≡ nat_le vcpu_limit n
not_below n = grind (arith, common_steps)

-- two rows of a table, each by a test that is another's
rows_alike : (tests : Bool × Bool) (others : Bool × Bool) (c d : Cause) → tests.0 ≡ others.0 → tests.1 ≡ others.1
    → option_or (first_fault ((tests.0, c) ∷ [])) (first_fault ((tests.1, d) ∷ [])) ≡ first_fault ((others.0, c) ∷ (others.1, d) ∷ [])
rows_alike tests others c d first second =
    elim others.0 as (λ b. tests.0 ≡ b → option_or (first_fault ((tests.0, c) ∷ [])) (first_fault ((tests.1, d) ∷ [])) ≡ first_fault ((b, c) ∷ (others.1, d) ∷ [])) [
      | true ↦ λ e. ap (λ b. option_or (first_fault ((b, c) ∷ [])) (first_fault ((tests.1, d) ∷ []))) e
      | false ↦ λ e. ap (λ b. option_or (first_fault ((b, c) ∷ [])) (first_fault ((tests.1, d) ∷ []))) e ∙ ap (λ b. first_fault ((b, d) ∷ [])) second
    ] first

module _ (body : List ℕ) where
  abbrev id : ℕ
  id = le32 body 0

  id_row : not (small_number (little_number 4 body) 0) ≡ nat_le vcpu_limit id
  unfolding le32
  id_row = not_below (little_number 4 body)

  id_named : VcpuId (little_number 4 body) ≡ VcpuId id
  unfolding le32
  id_named = refl

  -- a body that is long enough, and of which more is asked
  behind_front : (n : ℕ) (rest : Option Cause) → 8 ≤ length body → option_or (first_fault ((nat_lt (length body) 8, BadLength n) ∷ [])) rest ≡ rest
  behind_front n rest long = ap (λ b. option_or (first_fault ((b, BadLength n) ∷ [])) rest) (le-ltb (length body) 8 long)

  id_alone : first_fault ((not (small_number (little_number 4 body) 0), VcpuId (little_number 4 body)) ∷ []) ≡ first_fault ((nat_le vcpu_limit id, VcpuId id) ∷ [])
  id_alone = ap (λ b. first_fault ((b, VcpuId (little_number 4 body)) ∷ [])) id_row ∙ ap (λ c. first_fault ((nat_le vcpu_limit id, c) ∷ [])) id_named

  -- behind the id nothing is refused of a part other than a context
  other_codes : option_or (first_fault ((not (small_number (little_number 4 body) 0), VcpuId (little_number 4 body)) ∷ [])) None ≡ first_fault ((nat_le vcpu_limit id, VcpuId id) ∷ [])
  other_codes = elim (not (small_number (little_number 4 body) 0)) as (λ b. option_or (first_fault ((b, VcpuId (little_number 4 body)) ∷ [])) None ≡ first_fault ((b, VcpuId (little_number 4 body)) ∷ [])) [ true ↦ refl | false ↦ refl ] ∙ id_alone

  -- whether a context is whole
  whole_context : (length body == 8 || length body == 8 + 5168) ≡ true → (8 ≤ length body) × ((length (drop 8 body) == 5168) ≡ nat_lt 8 (length body))
  whole_context has = grind (arith, common_steps, has, length-drop 8 body)

pub vcpu_rows : (code : PartCode) (body : List ℕ) → is_vcpu code ≡ true → HasBodyLength code (length body) → fault_of_body code body ≡ fault_of_vcpu code body
vcpu_rows VcpuBasic body is has =
    let whole = whole_context body (has types.X86PvVcpuBasic refl) in
    behind_front body _ _ whole.0
    ∙ rows_alike (not (small_number (little_number 4 body) 0), (length (drop 8 body) == 5168) && nat_lt most_gdt_entries (gdt_ents (drop 8 body))) (nat_le vcpu_limit (id body), nat_lt 8 (length body) && nat_lt most_gdt_entries (gdt_ents (drop 8 body))) _ _ (id_row body)
    (ap (λ b. b && nat_lt most_gdt_entries (gdt_ents (drop 8 body))) whole.1)
    ∙ ap (λ c. first_fault ((nat_le vcpu_limit (id body), c) ∷ (nat_lt 8 (length body) && nat_lt most_gdt_entries (gdt_ents (drop 8 body)), GdtEnts (gdt_ents (drop 8 body))) ∷ [])) (id_named body)
vcpu_rows VcpuExtended body is has = behind_front body _ _ (leb-true _ _ (has types.X86PvVcpuExtended refl)) ∙ other_codes body
vcpu_rows VcpuXsave body is has = behind_front body _ _ (leb-true _ _ (has types.X86PvVcpuXsave refl)) ∙ other_codes body
vcpu_rows VcpuMsrs body is has = behind_front body _ _ (leb-true _ _ (and_parts (nat_le 8 (length body)) ((length body - 8) % 16 == 0) (has types.X86PvVcpuMsrs refl)).0) ∙ other_codes body
vcpu_rows _ body is has = let no : false ≡ true = is in cc

-- the same by the number of the record's type
pub basic_rows : (body : List ℕ) → fault_of_length 4 (length body) ≡ None → fault_of_body VcpuBasic body ≡ fault_of_vcpu_record 4 body
basic_rows body fine = vcpu_rows VcpuBasic body refl (has_allowed VcpuBasic (length body) (not-false _ (rows_fine (length_rows 4 (length body)) fine).0))

pub extended_rows : (body : List ℕ) → fault_of_length 5 (length body) ≡ None → fault_of_body VcpuExtended body ≡ fault_of_vcpu_record 5 body
extended_rows body fine = vcpu_rows VcpuExtended body refl (has_allowed VcpuExtended (length body) (not-false _ (rows_fine (length_rows 5 (length body)) fine).0))

pub xsave_rows : (body : List ℕ) → fault_of_length 6 (length body) ≡ None → fault_of_body VcpuXsave body ≡ fault_of_vcpu_record 6 body
xsave_rows body fine = vcpu_rows VcpuXsave body refl (has_allowed VcpuXsave (length body) (not-false _ (rows_fine (length_rows 6 (length body)) fine).0))

pub msrs_rows : (body : List ℕ) → fault_of_length 12 (length body) ≡ None → fault_of_body VcpuMsrs body ≡ fault_of_vcpu_record 12 body
msrs_rows body fine = vcpu_rows VcpuMsrs body refl (has_allowed VcpuMsrs (length body) (not-false _ (rows_fine (length_rows 12 (length body)) fine).0))

pub other_rows : (type : ℕ) (body : List ℕ) → is_vcpu_type type ≡ false → (type == 4) ≡ false → fault_of_vcpu_record type body ≡ None
other_rows type body other basic =
    let rest : List (Bool × Cause) = ((type == 4) && (nat_lt 8 (length body) && nat_lt most_gdt_entries (gdt_ents (drop 8 body))), GdtEnts (gdt_ents (drop 8 body))) ∷ [] in
    ap (λ b. first_fault ((b && nat_le vcpu_limit (le32 body 0), VcpuId (le32 body 0)) ∷ rest)) other
    ∙ ap (λ b. first_fault ((b && (nat_lt 8 (length body) && nat_lt most_gdt_entries (gdt_ents (drop 8 body))), GdtEnts (gdt_ents (drop 8 body))) ∷ [])) basic
