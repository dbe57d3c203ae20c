-- Frames that are compared: behind a VERIFY no more are sent, and before it none are compared.
use Rattle.mig_restore_form.proofs.Common.{◌≡◌, ◌≢◌, ℕ, ◌+◌, List, [], ◌∷◌, ◌++◌, Bool, true, false, cond, not, nat_eq, ◌||◌, Option, Some, None, is_some, refl, sym, ap, subst, ◌∙◌, append_assoc, map-append, part, tried, Passes, both_pass, same_passes, said_passes, Truncated, padding_len, le32, Kind, RecordType, numbers_are_inverse, type_of_number, is_optional, PartCode, Part, fault_of_body, parts_of_body, fault_of_pv_info, fault_of_p2m, FrameEntry, StreamRecord, Content, Nothing, Frames, Sets, Lists, Checks, types_of, is_verified, placed_content, Opening, Before, before, head_at, body_at, typed_at, coded_at, code_of_type, lists_of, pages_at, entries_at, plain_at, entries_in, entries_of, checked_in, checked_of, differing, agrees, or_parts, list_any-append, append-nil, PageData, X86PvInfo, X86PvP2mFrames, FrameMap, record_at, next_at, sum_by-append}
use Rattle.mig_restore_form.specs.Mean.{differs_of}
use Rattle.mig_restore_form.proofs.Parts.{asks, begins, behind_record, behind_head, behind_body}

-- ---- what a content says where its record stands

pub placed_is : (P : Content → Type 0) (verified : Bool) (said : Content) → ((es : List FrameEntry) → P (Checks es)) → P said → P (placed_content verified said)
placed_is P true (Frames es) checks h = checks es
placed_is P false (Frames es) checks h = h
placed_is P verified Nothing checks h = h
placed_is P verified (Sets code ps) checks h = h
placed_is P verified (Lists last frames) checks h = h
placed_is P verified (Checks es) checks h = h

-- behind a VERIFY nothing is sent, and before it nothing is compared
pub record IsPlaced (verified : Bool) (c : Content) : Type 0 where
  pub sends : verified ≡ true → entries_in c ≡ []
  pub checks : verified ≡ false → checked_in c ≡ []

pub placed_so : (verified : Bool) (said : Content) → checked_in said ≡ [] → IsPlaced verified (placed_content verified said)
placed_so true (Frames es) none = record { sends = λ _. refl; checks = λ is. absurd (cc) }
placed_so false (Frames es) none = record { sends = λ is. absurd (cc); checks = λ _. refl }
placed_so verified Nothing none = record { sends = λ _. refl; checks = λ _. refl }
placed_so verified (Sets code ps) none = record { sends = λ _. refl; checks = λ _. refl }
placed_so verified (Lists last frames) none = record { sends = λ _. refl; checks = λ _. refl }
placed_so verified (Checks es) none = record { sends = λ _. refl; checks = λ _. none }

-- ---- what a body says by itself

-- it compares nothing, and only a PAGE_DATA depends on its place
pub record IsSaid (type : ℕ) (c : Content) : Type 0 where
  pub unchecked : checked_in c ≡ []
  pub anywhere : type ≢ 1 → (verified : Bool) → placed_content verified c ≡ c

module _ (type : ℕ) where
  nothing_said : IsSaid type Nothing
  nothing_said = record { unchecked = refl; anywhere = λ _ _. refl }

  sets_said : (code : PartCode) (ps : List Part) → IsSaid type (Sets code ps)
  sets_said code ps = record { unchecked = refl; anywhere = λ _ _. refl }

  plain_said : (len : ℕ) (i : List ℕ) (c : Content) (rest : List ℕ) → plain_at Truncated (λ _. Nothing) len i ≡ Passes c rest → IsSaid type c
  plain_said len i c rest h =
      let a = both_pass (part Truncated len i) _ c rest h in
      subst (IsSaid type) (same_passes _ _ _ _ a.second).0 nothing_said

  coded_said : (o : Option PartCode) (len : ℕ) (i : List ℕ) (c : Content) (rest : List ℕ) → coded_at o len i ≡ Passes c rest → IsSaid type c
  coded_said None len i c rest h = subst (IsSaid type) (same_passes _ _ _ _ h).0 nothing_said
  coded_said (Some code) len i c rest h =
      let s = said_passes Truncated (fault_of_body code) (λ b. Sets code (parts_of_body code b)) len i c rest h in
      subst (IsSaid type) s.value (sets_said code (parts_of_body code s.bytes))

  pages_said : (kind : Kind) (top len : ℕ) (i : List ℕ) (c : Content) (rest : List ℕ) → type ≡ 1 → pages_at kind top len i ≡ Passes c rest → IsSaid type c
  pages_said kind top len i c rest is h =
      let a = both_pass (entries_at kind top len i) _ c rest h in
      subst (IsSaid type) (same_passes _ _ _ _ a.second).0 (record { unchecked = refl; anywhere = λ other. absurd (other is) })

  typed_said : (kind : Kind) (top : ℕ) (o : Option RecordType) (len : ℕ) (i : List ℕ) (c : Content) (rest : List ℕ) → type_of_number type ≡ o → typed_at kind top o len i ≡ Passes c rest → IsSaid type c
  typed_said kind top None len i c rest found h = subst (IsSaid type) (same_passes _ _ _ _ h).0 nothing_said
  typed_said kind top (Some PageData) len i c rest found h = pages_said kind top len i c rest (sym (numbers_are_inverse.number_of type PageData found)) h
  typed_said kind top (Some X86PvInfo) len i c rest found h =
      subst (IsSaid type) (said_passes Truncated fault_of_pv_info (λ _. Nothing) len i c rest h).value nothing_said
  typed_said kind top (Some X86PvP2mFrames) len i c rest found h =
      let s = said_passes Truncated fault_of_p2m lists_of len i c rest h in
      subst (IsSaid type) s.value (record { unchecked = refl; anywhere = λ _ _. refl })
  typed_said kind top (Some this) len i c rest found h = coded_said (code_of_type this) len i c rest h

  pub body_said : (kind : Kind) (top len : ℕ) (i : List ℕ) (c : Content) (rest : List ℕ) → body_at kind top type len i ≡ Passes c rest → IsSaid type c
  body_said kind top len i c rest h = by (is_optional type) h
    where
      by : (b : Bool) → cond b (plain_at Truncated (λ _. Nothing) len i) (typed_at kind top (type_of_number type) len i) ≡ Passes c rest → IsSaid type c
      by true is = plain_said len i c rest is
      by false is = typed_said kind top (type_of_number type) len i c rest refl is

-- ---- the content of a record that is judged

pub record_placed : (b : Before) (i : List ℕ) (r : StreamRecord) (rest : List ℕ) → record_at b i ≡ Passes r rest → IsPlaced (is_verified b.types) r.content
unfolding behind_head behind_body
record_placed b i r rest h =
    let a = both_pass (head_at b i) (behind_head b) r rest (sym (begins b i) ∙ h) in
    let type = le32 a.x 0 in
    let len = le32 a.x 4 in
    let c = both_pass (body_at b.opening.kind b.top type len a.mid) (behind_body b a.x) r rest a.second in
    let d = both_pass (part Truncated (padding_len len) c.mid) (λ padding. Passes (record { type = type; content = placed_content (is_verified b.types) c.x }) padding.1) r rest c.second in
    let is : placed_content (is_verified b.types) c.x ≡ r.content = ap (λ (x : StreamRecord). x.content) (same_passes _ _ _ _ d.second).0 in
    subst (IsPlaced (is_verified b.types)) is (placed_so (is_verified b.types) c.x (body_said type b.opening.kind b.top len a.mid c.x c.mid c.first).unchecked)

pub next_placed : (o : Opening) (records : List StreamRecord) (i : List ℕ) (r : StreamRecord) (rest : List ℕ) → next_at o records i ≡ Passes r rest → IsPlaced (is_verified (types_of records)) r.content
unfolding behind_record
next_placed o records i r rest h =
    let a = both_pass (record_at (before o records) i) (behind_record o records) r rest (sym (asks o records i) ∙ h) in
    let t = both_pass (tried _ a.mid) (λ _. Passes a.x a.mid) r rest a.second in
    subst (λ (x : StreamRecord). IsPlaced (is_verified (types_of records)) x.content) (same_passes _ _ _ _ t.second).0 (record_placed (before o records) i a.x a.mid a.first)

-- ---- whether a VERIFY is among records

pub verified_join : (rs qs : List StreamRecord) → is_verified (types_of (rs ++ qs)) ≡ (is_verified (types_of rs) || is_verified (types_of qs))
verified_join rs qs = ap is_verified (map-append (λ (x : StreamRecord). x.type) rs qs) ∙ list_any-append _ (types_of rs) (types_of qs)

verified_one : (r : StreamRecord) → is_verified (types_of (r ∷ [])) ≡ nat_eq r.type 0xD
verified_one r = by (nat_eq r.type 0xD)
  where
    by : (b : Bool) → ((b || false) || false) ≡ b
    by true = refl
    by false = refl

pub verified_more : (rs : List StreamRecord) (r : StreamRecord) → is_verified (types_of (rs ++ r ∷ [])) ≡ (is_verified (types_of rs) || nat_eq r.type 0xD)
verified_more rs r = verified_join rs (r ∷ []) ∙ ap (λ b. is_verified (types_of rs) || b) (verified_one r)

-- ---- what is compared, and what is sent, of records joined

pub checked_join : (rs qs : List StreamRecord) → checked_of (rs ++ qs) ≡ checked_of rs ++ checked_of qs
checked_join [] qs = refl
checked_join (r ∷ rs) qs = ap (λ l. checked_in r.content ++ l) (checked_join rs qs) ∙ sym (append_assoc (checked_in r.content) (checked_of rs) (checked_of qs))

pub entries_join : (rs qs : List StreamRecord) → entries_of (rs ++ qs) ≡ entries_of rs ++ entries_of qs
entries_join [] qs = refl
entries_join (r ∷ rs) qs = ap (λ l. entries_in r.content ++ l) (entries_join rs qs) ∙ sym (append_assoc (entries_in r.content) (entries_of rs) (entries_of qs))

pub checked_more : (rs : List StreamRecord) (r : StreamRecord) → checked_of (rs ++ r ∷ []) ≡ checked_of rs ++ checked_in r.content
checked_more rs r = checked_join rs (r ∷ []) ∙ ap (λ l. checked_of rs ++ l) (append-nil (checked_in r.content))

-- ---- one more record, and the number of entries that differ

pub differing_join : (kind : Kind) (m : FrameMap) (es fs : List FrameEntry) → differing kind m (es ++ fs) ≡ differing kind m es + differing kind m fs
differing_join kind m es fs = sum_by-append (λ e. cond (not (agrees kind m e)) 1 0) es fs

pub some_differs : (kind : Kind) (records : List StreamRecord) → is_some (differs_of kind records) ≡ is_verified (types_of records)
unfolding differs_of
some_differs kind records = by (is_verified (types_of records)) _
  where
    by : (b : Bool) (n : ℕ) → is_some (cond b (Some n) None) ≡ b
    by true n = refl
    by false n = refl

-- nothing is compared without a VERIFY
abbrev pub IsUnchecked : List StreamRecord → Type 0
IsUnchecked records = is_verified (types_of records) ≡ false → checked_of records ≡ []

pub unchecked_more : (rs : List StreamRecord) (r : StreamRecord) → IsUnchecked rs → IsPlaced (is_verified (types_of rs)) r.content → IsUnchecked (rs ++ r ∷ [])
unchecked_more rs r before placed none =
    let first = or_parts (is_verified (types_of rs)) (nat_eq r.type 0xD) (sym (verified_more rs r) ∙ none) in
    checked_more rs r ∙ ap (λ l. l ++ checked_in r.content) (before first.0) ∙ placed.checks first.0
