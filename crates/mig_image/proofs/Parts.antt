-- The parts of an image: what they spell is read, what is read they spell, and both are the parts of a valid host.
use Rattle.mig_image.proofs.Common.{◌≡◌, ℕ, ◌^◌, ◌<◌, ◌≤◌, Bool, true, false, not, nat_eq, List, [], ◌∷◌, ◌++◌, length, replicate, Some, None, refl, sym, ap, subst, ◌∙◌, arith, append_assoc, ◌+◌, cond, nat_le, Option, length-append, ◌*◌, ◌&&◌, ◌||◌, ◌==◌, if◌then◌else◌, T, list_all, AllByRecursion, and_from, eqb-true, not-false, and_parts, leb-false, eq-eqb, and_left, and_right, lt-leb, true≢false, common_steps, length-replicate, filter-append, nat_cmp, is_lt, ordering_then, Ordering, Less, Equal, Greater, nat_cmp-IsAntisymmetric, where_key, is_sorted-where_key, little_bytes, little_number-reads_back, padding_len, Judged, Passes, ImageCause, Truncated, Kind, Pv, Hvm, top_limit, no_fault, rows_fine, Part, PartKey, IsRawContent, HostOf, IsHostPart, IsValid, numbered, one_code, number_found, PartMap, parts_of, FitsPolicy, part_cmp, part_total, part_exact, part_text, head_key, code_fits, code_allows, has_part_from, put_part_in, Bytes, bytes_front, word_below, Counts, FormOf, Giving, judged_as, ◌>>>◌, first_named, is_passed, full_policy, part_causes, content_causes, padding_causes, part_head_form, part_bytes_form, padding_form, host_part_form, host_parts_form, then_goes, both_go, bytes_go, bytes_gone, gives_goes, gives_gone, steps_go, most_policy_entries, vcpu_limit, entries_behind, no_entries, has_from, get_at, each_entry, few_ranks, nat_rises, valid_part, GuestOf, valid_empty, HaveRoom}
use Rattle.std.specs.FinMap as maps
use Rattle.mig_bytes.specs.Fields.{le32}
use Rattle.mig_headers.specs.Pairs.{are_canonical_pairs, AreCanonicalPairs}
use Rattle.mig_headers.proofs.PairTexts.{canonical_pairs_are_computed}
use Rattle.mig_guest.proofs.PartRows.{host_part}
use Rattle.mig_guest.specs.Formed.{IsFormed, IsPart, IsTop, width_of}
use Rattle.mig_guest.specs.Hosts.{most_width}
use Rattle.mig_host_view.proofs.LocalisedGuests.{renamed_is_part, renamed_policy}
use Rattle.mig_host_view.specs.Localised.{localised, localised_of, renamed_part}
use Rattle.mig_pvtables.proofs.EachValue.{from_each}
use Rattle.mig_pvtables.specs.Blank.{each_value}
use Rattle.mig_pvtables.specs.VcpuContexts.{is_used}
use Rattle.mig_guest.specs.declared.part_code.PartCode.{PartCode}
use Rattle.mig_guest.specs.declared.part_code.PartCode.TheVariants.{EmulatorPairs, CpuidLeaf, Msr, P2mFrames}
use Rattle.mig_guest.specs.PartCodes.{code_number, code_of_number, row_of}
use Rattle.mig_image.specs.GuestImage.{part_head_of}
use Rattle.mig_image.proofs.FieldBytes.{word_then, word_last, regroup}
use Rattle.mig_image.proofs.ZeroPages.{all_zero, only_zeros}
use Rattle.mig_image.specs.declared.read_part.Entries.{Entries}
use Rattle.mig_image.proofs.Chains.{Chain, put_all, chain_of, chain_same, Found, AllFound, chain_back, chain_entries, chain_keeps}

-- these parts have as many of a policy's entries as there may be
abbrev pub full : PartMap → ℕ → Bool
full parts code = is_passed (full_policy parts code)

-- a part that may stand behind these
pub record PartFits (kind : Kind) (width : ℕ) (m : PartMap) (e : PartKey × List ℕ) : Type 0 where
  pub is : IsHostPart kind width e.0 e.1
  pub behind : has_part_from m e.0 ≡ false
  pub room : full m e.0.code ≡ false

-- ---- codes

code_small : (code : PartCode) → code_number code < 2 ^ 32
code_small code = grind (arith, common_steps)

-- a PV host isn't wider than its numbers reach
abbrev pub IsPvNarrow : Kind → ℕ → Type 0
IsPvNarrow kind width = kind ≡ Pv → width ≤ top_limit

pub valid_narrow : (h : HostOf) → IsValid h → IsPvNarrow h.kind h.width
valid_narrow h valid is = omega (arith, valid.width)

pub len_small : (code : PartCode) (kind : Kind) (width len : ℕ) → IsPvNarrow kind width → (row_of code).of_kind kind ≡ true → (row_of code).allows width len ≡ true → len < 2 ^ 32
len_small P2mFrames Pv width len narrow of_kind is = let wide : width ≤ 2 ^ 32 = narrow refl in grind (arith, common_steps)
len_small P2mFrames Hvm width len narrow of_kind is = absurd (true≢false (sym of_kind))
len_small _ kind width len narrow of_kind is = grind (arith, common_steps)

-- ---- the fields of a head

head_len : (key : PartKey) (len : ℕ) → length (part_head_of key len) ≡ 16
unfolding part_head_of
head_len key len = refl

-- what a head says
record Says (head : List ℕ) (k : PartKey) (n : ℕ) : Type 0 where
  code : le32 head 0 ≡ k.code
  key : head_key head ≡ k
  len : le32 head 12 ≡ n

says : (kind : Kind) (width : ℕ) (e : PartKey × List ℕ) → IsPvNarrow kind width → IsHostPart kind width e.0 e.1 → Says (part_head_of e.0 (length e.1)) e.0 (length e.1)
unfolding le32 part_head_of
says kind width e narrow is =
    let n = little_bytes 4 (length e.1) in
    let c = little_number-reads_back 4 e.0.code (little_bytes 4 e.0.key1 ++ (little_bytes 4 e.0.key2 ++ n)) (let small : e.0.code < 2 ^ 32 = omega (arith, is.number, code_small is.code) in small) in
    let k1 = little_number-reads_back 4 e.0.key1 (little_bytes 4 e.0.key2 ++ n) is.small1 in
    let k2 = little_number-reads_back 4 e.0.key2 n is.small2 in
    record {
      code = c;
      key = λ i. record { code = c i; key1 = k1 i; key2 = k2 i };
      len = little_number-reads_back 4 (length e.1) [] (len_small is.code kind width (length e.1) narrow is.of_kind is.len);
    }

-- ---- no fault

fits_is : (kind : Kind) (key : PartKey) (code : PartCode) → (row_of code).of_kind kind ≡ true → (row_of code).keys key.key1 key.key2 ≡ true → code_of_number key.code ≡ Some code
    → code_fits (code_of_number key.code) kind key ≡ true
fits_is kind key code a b is = ap (λ c. code_fits c kind key) is ∙ and_from ((row_of code).of_kind kind) ((row_of code).keys key.key1 key.key2) a b

fine : (h : HostOf) (e : PartKey × List ℕ) (head : List ℕ) → Says head e.0 (length e.1) → PartFits h.kind h.width h.parts e → first_named (part_causes h head) ≡ None
fine h e head s f =
    let is = numbered e.0.code f.is.code f.is.number in
    let row = ap (λ c. not (code_fits (code_of_number c) h.kind (head_key head))) s.code ∙ ap (λ k. not (code_fits (code_of_number e.0.code) h.kind k)) s.key ∙ ap not (fits_is h.kind e.0 f.is.code f.is.of_kind f.is.keys is) in
    let order = ap (has_part_from h.parts) s.key ∙ f.behind in
    let many = ap (full h.parts) s.code ∙ f.room in
    let len = ap (λ c. not (code_allows (code_of_number c) h.width (le32 head 12))) s.code ∙ ap (λ n. not (code_allows (code_of_number e.0.code) h.width n)) s.len ∙ ap (λ c. not (code_allows c h.width (length e.1))) is ∙ ap not f.is.len in
    no_fault (part_causes h head) (row, (order, (many, (len, tt))))

fine_bytes : (code : PartCode) (number : ℕ) (bytes : List ℕ) → number ≡ code_number code → IsRawContent code bytes → first_named (content_causes number bytes) ≡ None
fine_bytes code number bytes is content = no_fault (content_causes number bytes) (by (nat_eq number 258) refl, tt)
  where
    by : (b : Bool) → nat_eq number 258 ≡ b → (b && not (are_canonical_pairs bytes)) ≡ false
    by true same =
        let code_same : code ≡ EmulatorPairs = one_code code EmulatorPairs (sym is ∙ eqb-true number 258 same) in
        ap not ((canonical_pairs_are_computed bytes).1 (subst (λ (c : PartCode). IsRawContent c bytes) code_same content))
    by false same = refl

fine_padding : (n : ℕ) → first_named (padding_causes (replicate n 0)) ≡ None
fine_padding n = no_fault (padding_causes (replicate n 0)) (ap not (all_zero n), tt)

-- ---- the part

part_is : (h : HostOf) (e : PartKey × List ℕ) (head rest : List ℕ) → Says head e.0 (length e.1) → ◌≡◌ {A = Judged ImageCause HostOf} (Passes (put_part_in h (head_key head) e.1) rest) (Passes (put_part_in h e.0 e.1) rest)
part_is h e head rest s = ap (λ k. Passes (put_part_in h k e.1) rest) s.key

abbrev pub behind_padding : HostOf → List ℕ → List ℕ → FormOf ImageCause HostOf
behind_padding h head bytes = Giving (put_part_in h (head_key head) bytes)

abbrev pub behind_bytes : HostOf → List ℕ → List ℕ → FormOf ImageCause HostOf
behind_bytes h head bytes = padding_form (le32 head 12) >>> λ _. behind_padding h head bytes

abbrev pub behind_part_head : HostOf → List ℕ → FormOf ImageCause HostOf
behind_part_head h head = part_bytes_form (le32 head 0) (le32 head 12) >>> behind_bytes h head

pub part_goes : (h : HostOf) (e : PartKey × List ℕ) (rest : List ℕ) → IsPvNarrow h.kind h.width → PartFits h.kind h.width h.parts e → judged_as (host_part_form h) (part_text e ++ rest) ≡ Passes (put_part_in h e.0 e.1) rest
part_goes h e rest narrow f =
    let head = part_head_of e.0 (length e.1) in
    let zeros = replicate (padding_len (length e.1)) 0 in
    let mid = e.1 ++ (zeros ++ rest) in
    let s = says h.kind h.width e narrow f.is in
    ap (judged_as (host_part_form h)) (append_assoc head (e.1 ++ zeros) rest ∙ ap (λ l. head ++ l) (append_assoc e.1 zeros rest))
    ∙ then_goes (part_head_form h) (behind_part_head h) (head ++ mid) head mid _
    (bytes_go Truncated 16 (part_causes h) head mid (head_len e.0 (length e.1)) (fine h e head s f))
    (then_goes (part_bytes_form (le32 head 0) (le32 head 12)) (behind_bytes h head) mid e.1 (zeros ++ rest) _
    (ap (λ c. judged_as (part_bytes_form c (le32 head 12)) mid) s.code ∙ ap (λ n. judged_as (part_bytes_form e.0.code n) mid) s.len ∙ bytes_go Truncated (length e.1) (content_causes e.0.code) e.1 (zeros ++ rest) refl (fine_bytes f.is.code e.0.code e.1 f.is.number f.is.content))
    (then_goes (padding_form (le32 head 12)) (λ _. behind_padding h head e.1) (zeros ++ rest) zeros rest _
    (ap (λ n. judged_as (padding_form n) (zeros ++ rest)) s.len ∙ bytes_go Truncated (padding_len (length e.1)) padding_causes zeros rest (length-replicate {A = ℕ} (padding_len (length e.1)) 0) (fine_padding (padding_len (length e.1))))
    (gives_goes {C = ImageCause} (put_part_in h (head_key head) e.1) rest ∙ part_is h e head rest s)))

-- ---- one more of its code

one_more : (b : Bool) (n m : ℕ) (e : PartKey × List ℕ) → n ≡ m + length (cond b (e ∷ []) []) → n ≡ cond b (m + 1) m
one_more true n m e is = is
one_more false n m e is = omega (arith, is)

module _ (parts : PartMap) (key : PartKey) (bytes : List ℕ) (behind : has_part_from parts key ≡ false) where
  abbrev more : PartMap
  more = maps.insert parts key bytes

  count_is : (code : ℕ) → length (parts_of code (maps.entries more)) ≡ (if key.code == code then length (parts_of code (maps.entries parts)) + 1 else length (parts_of code (maps.entries parts)))
  count_is code =
      let e : PartKey × List ℕ = (key, bytes) in
      one_more (nat_eq key.code code) _ _ e (ap (λ l. length (parts_of code l)) (entries_behind part_total parts key bytes behind)
      ∙ ap length (filter-append (λ (x : PartKey × List ℕ). nat_eq x.0.code code) (maps.entries parts) (e ∷ [])) ∙ length-append (parts_of code (maps.entries parts)) (parts_of code (e ∷ [])))

  counted_by : (b : Bool) (m n k l : ℕ) → m ≡ (if b then n + 1 else n) → n ≡ k → l ≡ (if b then k + 1 else k) → m ≡ l
  counted_by true m n k l p q r = p ∙ ap (λ x. x + 1) q ∙ sym r
  counted_by false m n k l p q r = p ∙ q ∙ sym r

  -- it is counted
  pub counts_more : (old new : Entries) → Counts old parts → new.leaves ≡ (if key.code == 17 then old.leaves + 1 else old.leaves) → new.msrs ≡ (if key.code == 18 then old.msrs + 1 else old.msrs) → Counts new more
  counts_more old new counts leaves msrs = record {
    leaves = counted_by (nat_eq key.code 17) _ _ _ _ leaves counts.leaves (count_is 17);
    msrs = counted_by (nat_eq key.code 18) _ _ _ _ msrs counts.msrs (count_is 18);
  }

  fits_by : (code : ℕ) (b : Bool) → nat_eq key.code code ≡ b → ((code == 17) || (code == 18)) ≡ true → full parts key.code ≡ false → FitsPolicy code parts
      → length (parts_of code (maps.entries more)) ≡ (if b then length (parts_of code (maps.entries parts)) + 1 else length (parts_of code (maps.entries parts))) → FitsPolicy code more
  fits_by code true same policy room fits is =
      let known : full parts code ≡ false = ap (full parts) (sym (eqb-true key.code code same)) ∙ room in
      let less = leb-false most_policy_entries (length (parts_of code (maps.entries parts))) (sym (ap (λ b. b && nat_le most_policy_entries (length (parts_of code (maps.entries parts)))) policy) ∙ known) in
      omega (arith, is, less)
  fits_by code false same policy room fits is = omega (arith, is, fits)

  pub fits_more : (code : ℕ) → ((code == 17) || (code == 18)) ≡ true → full parts key.code ≡ false → FitsPolicy code parts → FitsPolicy code more
  fits_more code policy room fits = fits_by code (nat_eq key.code code) refl policy room fits (count_is code)

-- ---- a part whose head and bytes have no fault

canonical : (number : ℕ) (bytes : List ℕ) → first_named (content_causes number bytes) ≡ None → number ≡ 258 → AreCanonicalPairs bytes
canonical number bytes fine is =
    let (test, done) = rows_fine (content_causes number bytes) fine in
    (canonical_pairs_are_computed bytes).0 (not-false (are_canonical_pairs bytes) (sym (ap (λ b. b && not (are_canonical_pairs bytes)) (eq-eqb number 258 is)) ∙ test))

raw_content : (code : PartCode) (number : ℕ) (bytes : List ℕ) → number ≡ code_number code → first_named (content_causes number bytes) ≡ None → IsRawContent code bytes
raw_content EmulatorPairs number bytes is fine = canonical number bytes fine is
raw_content _ number bytes is fine = tt

coded : (kind : Kind) (width : ℕ) (key : PartKey) (bytes : List ℕ) (o : Option PartCode) → code_of_number key.code ≡ o → code_fits o kind key ≡ true → code_allows o width (length bytes) ≡ true
    → key.key1 < 2 ^ 32 → key.key2 < 2 ^ 32 → first_named (content_causes key.code bytes) ≡ None → IsHostPart kind width key bytes
coded kind width key bytes None is fits allows small1 small2 fine = let no : false ≡ true = fits in cc
coded kind width key bytes (Some code) is fits allows small1 small2 fine =
    let p = and_parts ((row_of code).of_kind kind) ((row_of code).keys key.key1 key.key2) fits in
    let number = number_found key.code code is in
    record { code = code; number = number; of_kind = p.0; keys = p.1; small1 = small1; small2 = small2; len = allows; content = raw_content code key.code bytes number fine }

module _ (h : HostOf) (head : List ℕ) (fine : first_named (part_causes h head) ≡ None) (key : PartKey) (is : key ≡ head_key head) where
  -- no part of the host has its key or a greater one
  pub is_behind : has_part_from h.parts key ≡ false
  is_behind = let (row, (order, others)) = rows_fine (part_causes h head) fine in ap (has_part_from h.parts) is ∙ order

  is_room : full h.parts key.code ≡ false
  is_room = let (row, (order, (many, others))) = rows_fine (part_causes h head) fine in ap (λ (k : PartKey). full h.parts k.code) is ∙ many

  pub is_part : (bytes : List ℕ) → length bytes ≡ le32 head 12 → key.key1 < 2 ^ 32 → key.key2 < 2 ^ 32 → first_named (content_causes key.code bytes) ≡ None → IsHostPart h.kind h.width key bytes
  is_part bytes size small1 small2 good =
      let (row, (order, (many, (len, done)))) = rows_fine (part_causes h head) fine in
      coded h.kind h.width key bytes (code_of_number key.code) refl
      (ap (λ (k : PartKey). code_fits (code_of_number k.code) h.kind k) is ∙ not-false (code_fits (code_of_number (le32 head 0)) h.kind (head_key head)) row)
      (ap (code_allows (code_of_number key.code) h.width) size ∙ ap (λ (k : PartKey). code_allows (code_of_number k.code) h.width (le32 head 12)) is ∙ not-false (code_allows (code_of_number (le32 head 0)) h.width (le32 head 12)) len)
      small1 small2 good

  -- the entries of this policy still are few
  pub policy_fits : (code : ℕ) → ((code == 17) || (code == 18)) ≡ true → FitsPolicy code h.parts → (bytes : List ℕ) → FitsPolicy code (maps.insert h.parts key bytes)
  policy_fits code policy before bytes = fits_more h.parts key bytes is_behind code policy is_room before

  -- it may stand behind the parts of the host
  pub part_fits : (bytes : List ℕ) → length bytes ≡ le32 head 12 → key.key1 < 2 ^ 32 → key.key2 < 2 ^ 32 → first_named (content_causes key.code bytes) ≡ None → PartFits h.kind h.width h.parts (key, bytes)
  part_fits bytes size small1 small2 good = record { is = is_part bytes size small1 small2 good; behind = is_behind; room = is_room }

-- of no parts there are none
pub counts_none : (entries : Entries) (parts : PartMap) → parts ≡ maps.empty → entries.leaves ≡ 0 → entries.msrs ≡ 0 → Counts entries parts
counts_none entries parts is leaves msrs =
    let none : maps.entries parts ≡ [] = ap maps.entries is ∙ no_entries part_cmp (List ℕ) in
    record { leaves = leaves ∙ sym (ap (λ l. length (parts_of 17 l)) none); msrs = msrs ∙ sym (ap (λ l. length (parts_of 18 l)) none) }

abbrev Entry : Type 0
Entry = PartKey × List ℕ

abbrev policy : ℕ → Bool
policy code = nat_eq code 17 || nat_eq code 18

-- there is room for one more of a code where there is room for it and others
room_for : (code : ℕ) (done more : List Entry) (e : Entry) → e.0.code ≡ code → length (parts_of code (done ++ e ∷ more)) ≤ most_policy_entries → nat_le most_policy_entries (length (parts_of code done)) ≡ false
room_for code done more e is few =
    let split = filter-append (λ (x : Entry). nat_eq x.0.code code) done (e ∷ more) in
    let first : parts_of code (e ∷ more) ≡ e ∷ parts_of code more = ap (λ b. cond b (e ∷ parts_of code more) (parts_of code more)) (eq-eqb e.0.code code is) in
    let size = length-append (parts_of code done) (parts_of code (e ∷ more)) in
    lt-leb most_policy_entries (length (parts_of code done)) (omega (arith, few, ap length split, size, ap length first))

module _ (g : HostOf) (valid : IsValid g) where
  roomy : (m : PartMap) (e : Entry) (more : List Entry) → maps.entries g.parts ≡ maps.entries m ++ e ∷ more → full m e.0.code ≡ false
  roomy m e more eg = by (nat_eq e.0.code 17) (nat_eq e.0.code 18) refl refl
    where
      few : (code : ℕ) → FitsPolicy code g.parts → e.0.code ≡ code → nat_le most_policy_entries (length (parts_of e.0.code (maps.entries m))) ≡ false
      few code fits is = ap (λ c. nat_le most_policy_entries (length (parts_of c (maps.entries m)))) is ∙ room_for code (maps.entries m) more e is (subst (λ l. length (parts_of code l) ≤ most_policy_entries) eg fits)

      by : (a b : Bool) → nat_eq e.0.code 17 ≡ a → nat_eq e.0.code 18 ≡ b → full m e.0.code ≡ false
      by true b p q = and_right (policy e.0.code) _ (few 17 valid.leaves (eqb-true e.0.code 17 p))
      by false true p q = and_right (policy e.0.code) _ (few 18 valid.msrs (eqb-true e.0.code 18 q))
      by false false p q = and_left (policy e.0.code) _ (rw (p, q) refl)

  fits : (m : PartMap) (e : Entry) (more : List Entry) → maps.entries g.parts ≡ maps.entries m ++ e ∷ more → has_from part_total (maps.entries m) e.0 ≡ false → PartFits g.kind g.width m e
  fits m e more is below = record { is = valid.parts e.0 e.1 (get_at part_total g.parts (maps.entries m) e more is); behind = below; room = roomy m e more is }

  pub parts_chain : Chain (PartFits g.kind g.width) maps.empty (maps.entries g.parts)
  parts_chain = chain_of part_total (PartFits g.kind g.width) (λ m e f. f.behind) g.parts fits

  pub parts_same : put_all maps.empty (maps.entries g.parts) ≡ g.parts
  parts_same = chain_same part_total (PartFits g.kind g.width) (λ m e f. f.behind) g.parts fits

-- ---- how many there are: of the codes of policies no more than fit, and of the others no more than there are keys

-- the place of a key among those that aren't a policy's
abbrev rank : PartKey → ℕ
rank k = (k.code * vcpu_limit + k.key1) * 256 + k.key2

abbrev IsSmall : PartKey → Type 0
IsSmall k = (k.key1 < vcpu_limit) × (k.key2 < 256)

small_by : (code : PartCode) (k : PartKey) → code_number code ≡ k.code → policy k.code ≡ false → (row_of code).keys k.key1 k.key2 ≡ true → IsSmall k
small_by CpuidLeaf k is other h = absurd (true≢false (ap policy is ∙ other))
small_by Msr k is other h = absurd (true≢false (ap policy is ∙ other))
small_by _ k is other h = grind (arith, common_steps)

-- greater in the order, and so of a greater rank
rises_by : (k l : PartKey) (r s : Ordering) → nat_cmp k.code l.code ≡ r → nat_cmp k.key1 l.key1 ≡ s → IsSmall k → T (is_lt (ordering_then r (ordering_then s (nat_cmp k.key2 l.key2)))) → rank k < rank l
rises_by k l Less s p q small h = let less : k.code < l.code = nat_rises k.code l.code (subst (λ o. T (is_lt o)) (sym p) tt) in omega arith
rises_by k l Greater s p q small h = absurd h
rises_by k l Equal Less p q small h =
    let same : k.code ≡ l.code = nat_cmp-IsAntisymmetric k.code l.code p in
    let less : k.key1 < l.key1 = nat_rises k.key1 l.key1 (subst (λ o. T (is_lt o)) (sym q) tt) in omega arith
rises_by k l Equal Greater p q small h = absurd h
rises_by k l Equal Equal p q small h =
    let same : k.code ≡ l.code = nat_cmp-IsAntisymmetric k.code l.code p in
    let alike : k.key1 ≡ l.key1 = nat_cmp-IsAntisymmetric k.key1 l.key1 q in
    let less : k.key2 < l.key2 = nat_rises k.key2 l.key2 h in omega arith

rises : (k l : PartKey) → IsSmall k → T (is_lt (part_cmp k l)) → rank k < rank l
rises k l small h = rises_by k l (nat_cmp k.code l.code) (nat_cmp k.key1 l.key1) refl refl small h

-- those that aren't a policy's
abbrev others : List Entry → List Entry
others es = where_key part_cmp (λ k. not (policy k.code)) es

one_split : (a b : Bool) (e : Entry) (xs ys zs : List Entry) (n : ℕ) → n ≤ length xs + length ys + length zs → n + 1 ≤ length (cond a (e ∷ xs) xs) + length (cond b (e ∷ ys) ys) + length (cond (not (a || b)) (e ∷ zs) zs)
one_split true b e xs ys zs n le = grind (arith, common_steps)
one_split false true e xs ys zs n le = omega arith
one_split false false e xs ys zs n le = omega arith

split : (es : List Entry) → length es ≤ length (parts_of 17 es) + length (parts_of 18 es) + length (others es)
split [] = omega arith
split (e ∷ es) = omega (arith, one_split (nat_eq e.0.code 17) (nat_eq e.0.code 18) e (parts_of 17 es) (parts_of 18 es) (others es) (length es) (split es))

kept : (es : List Entry) → AllByRecursion (λ (e : Entry). policy e.0.code ≡ false → IsSmall e.0 × (e.0.code < 2 ^ 32)) es → AllByRecursion (λ (e : Entry). IsSmall e.0 × (0 ≤ rank e.0) × (rank e.0 < 2 ^ 52)) (others es)
kept [] all = tt
kept (e ∷ es) all = by (policy e.0.code) refl (kept es all.1)
  where
    by : (b : Bool) → policy e.0.code ≡ b → AllByRecursion (λ (e : Entry). IsSmall e.0 × (0 ≤ rank e.0) × (rank e.0 < 2 ^ 52)) (others es) → AllByRecursion (λ (e : Entry). IsSmall e.0 × (0 ≤ rank e.0) × (rank e.0 < 2 ^ 52)) (cond (not b) (e ∷ others es) (others es))
    by true is more = more
    by false is more = let (small, code) = all.0 is in ((small, (omega arith), (omega (arith, small, code))), more)

pub parts_few : (g : HostOf) → IsValid g → length (maps.entries g.parts) < 2 ^ 64
parts_few g valid =
    let es = maps.entries g.parts in
    let all = kept es (each_entry part_total part_exact (λ k v. policy k.code ≡ false → IsSmall k × (k.code < 2 ^ 32)) g.parts (λ k v is other. let p = valid.parts k v is in (small_by p.code k (sym p.number) other p.keys, (let small : k.code < 2 ^ 32 = omega (arith, p.number, code_small p.code) in small)))) in
    let bound = few_ranks part_cmp rank (2 ^ 52) IsSmall rises 0 (others es) (omega arith) (is_sorted-where_key part_cmp (λ k. not (policy k.code)) es (maps.entries_sorted g.parts)) all in
    let leaves = valid.leaves in
    let msrs = valid.msrs in
    omega (arith, split es, bound, leaves, msrs)

-- the parts of a valid host have room in an image
pub parts_of_host : (h : HostOf) → IsValid h → HaveRoom h.parts
parts_of_host h valid = record {
  few = parts_few h valid;
  short = λ key bytes found. let part = valid.parts key bytes found in len_small part.code h.kind h.width (length bytes) (valid_narrow h valid) part.of_kind part.len;
}

-- so do parts that a host of this kind and width may have
parts_alone : (kind : Kind) (width : ℕ) (parts : PartMap) → width ≤ most_width → (kind ≡ Pv → 0 < width) → (kind ≡ Pv → width ≤ top_limit)
    → ((key : PartKey) (bytes : List ℕ) → maps.get parts key ≡ Some bytes → IsHostPart kind width key bytes) → FitsPolicy 17 parts → FitsPolicy 18 parts → HaveRoom parts
parts_alone kind width parts small some most are leaves msrs =
    let none = valid_empty kind width small some most in
    parts_of_host (record { kind = kind; width = width; frames = maps.empty; parts = parts }) (record {
      width = none.width;
      some_width = none.some_width;
      pv_width = none.pv_width;
      frames = none.frames;
      one_to_one = none.one_to_one;
      few = none.few;
      parts = are;
      leaves = leaves;
      msrs = msrs;
    })

-- those of an HVM guest
pub parts_of_guest : (g : GuestOf) → g.kind ≡ Hvm → IsFormed g → HaveRoom g.parts
parts_of_guest g hvm formed =
    parts_alone Hvm 0 g.parts (omega arith) (λ is. let no : Hvm ≡ Pv = is in cc) (λ is. let no : Hvm ≡ Pv = is in cc)
    (λ key bytes found. host_part (width_of g) 0 key bytes (subst (λ (k : Kind). IsPart k (width_of g) key bytes) hvm (formed.parts key bytes found))) (formed.policies 17 refl) (formed.policies 18 refl)

-- and those of a PV guest as it stands in a machine
pub parts_localised : (g : GuestOf) (f : ℕ → Option ℕ) → g.kind ≡ Pv → IsFormed g → HaveRoom (localised f g).parts
parts_localised g f pv formed = subst (λ (k : Kind). HaveRoom (localised_of k f g).parts) (sym pv)
    (parts_alone Pv (width_of g) (each_value (renamed_part is_used f) g.parts) (omega (arith, top)) (λ _. omega arith) (λ _. omega (arith, top))
    (λ key bytes found.
    let (x, at, same) = from_each part_total part_exact (renamed_part is_used f) g.parts key bytes found in
    subst (IsHostPart Pv (width_of g) key) same (renamed_is_part is_used f Pv (width_of g) key x (subst (λ (k : Kind). IsPart k (width_of g) key x) pv (formed.parts key x at))))
    (renamed_policy is_used f 17 g.parts (formed.policies 17 refl)) (renamed_policy is_used f 18 g.parts (formed.policies 18 refl)))
  where
    top : g.top < top_limit
    top = subst (λ (k : Kind). IsTop k g.top) pv formed.top

-- ---- a head

head_back : (head : List ℕ) → Bytes head → length head ≡ 16 → part_head_of (head_key head) (le32 head 12) ≡ head
unfolding part_head_of
head_back head all size =
    word_then head all 0 (omega (arith, size)) refl (word_then head all 4 (omega (arith, size)) refl (word_then head all 8 (omega (arith, size)) refl (word_last head all 12 size refl)))

-- ---- zeros

zeros : (n : ℕ) (xs : List ℕ) → length xs ≡ n → first_named (padding_causes xs) ≡ None → xs ≡ replicate n 0
zeros n xs size fine =
    let (test, done) = rows_fine (padding_causes xs) fine in
    only_zeros xs (not-false (list_all (λ b. nat_eq b 0) xs) test) ∙ ap (λ m. replicate m 0) size

-- ---- a part

abbrev pub with_parts : HostOf → PartMap → HostOf
with_parts h m = record h { parts = m }

spelled : (i mid last end rest head bytes padding : List ℕ) → Bytes head → length head ≡ 16 → length bytes ≡ le32 head 12 → padding ≡ replicate (padding_len (le32 head 12)) 0 → i ≡ head ++ mid → mid ≡ bytes ++ last → last ≡ padding ++ end → end ≡ rest
    → i ≡ part_text (head_key head, bytes) ++ rest
spelled i mid last end rest head bytes padding all size len zeros first second third ended =
    let text : head ≡ part_head_of (head_key head) (length bytes) = sym (head_back head all size) ∙ ap (part_head_of (head_key head)) (sym len) in
    let filled : padding ≡ replicate (padding_len (length bytes)) 0 = zeros ∙ ap (λ n. replicate (padding_len n) 0) (sym len) in
    regroup i mid rest head (bytes ++ padding) first (regroup mid last rest bytes padding second (third ∙ ap (λ l. padding ++ l) ended))
    ∙ ap (λ l. (l ++ (bytes ++ padding)) ++ rest) text ∙ ap (λ l. (part_head_of (head_key head) (length bytes) ++ (bytes ++ l)) ++ rest) filled

module _ (h : HostOf) where
  part_back : (m : PartMap) (i : List ℕ) (g : HostOf) (rest : List ℕ) → Bytes i → judged_as (host_part_form (with_parts h m)) i ≡ Passes g rest → Found (PartFits h.kind h.width) part_text Part (λ k. judged_as (host_part_form k)) (with_parts h) m i g rest
  part_back m i g rest all is =
      let a = both_go (part_head_form (with_parts h m)) (behind_part_head (with_parts h m)) i g rest is in
      let head = a.x in
      let p = bytes_gone Truncated 16 (part_causes (with_parts h m)) i head a.mid a.first in
      let b = both_go (part_bytes_form (le32 head 0) (le32 head 12)) (behind_bytes (with_parts h m) head) a.mid g rest a.second in
      let q = bytes_gone Truncated (le32 head 12) (content_causes (le32 head 0)) a.mid b.x b.mid b.first in
      let c = both_go (padding_form (le32 head 12)) (λ _. behind_padding (with_parts h m) head b.x) b.mid g rest b.second in
      let r = bytes_gone Truncated (padding_len (le32 head 12)) padding_causes b.mid c.x c.mid c.first in
      let e = gives_gone {C = ImageCause} (put_part_in (with_parts h m) (head_key head) b.x) c.mid g rest c.second in
      let bytes : Bytes head = bytes_front i head a.mid p.0 all in
      record {
        e = (head_key head, b.x);
        whole = spelled i a.mid b.mid c.mid rest head b.x c.x bytes p.1 q.1 (zeros (padding_len (le32 head 12)) c.x r.1 r.2) p.0 q.0 r.0 e.1;
        fits = part_fits (with_parts h m) head p.2 (head_key head) refl b.x q.1 (word_below 4 head bytes) (word_below 8 head bytes) q.2;
        is = sym e.0;
      }

  -- parts one behind the other
  abbrev pub PartsFound : ℕ → List ℕ → HostOf → List ℕ → Type 0
  PartsFound = AllFound (PartFits h.kind h.width) part_text Part (λ k. judged_as (host_part_form k)) (with_parts h) maps.empty

  pub parts_back : (n : ℕ) (i : List ℕ) (g : HostOf) (rest : List ℕ) → Bytes i → judged_as (host_parts_form (with_parts h maps.empty) n) i ≡ Passes g rest → PartsFound n i g rest
  parts_back n i g rest all is =
      chain_back (PartFits h.kind h.width) part_text Part (λ k. judged_as (host_part_form k)) (with_parts h) part_back maps.empty n 0 i g rest all
      (sym (steps_go Part host_part_form n (with_parts h maps.empty) i) ∙ is)

  pub part_entries : (es : List (PartKey × List ℕ)) → Chain (PartFits h.kind h.width) maps.empty es → maps.entries {R = part_cmp} (put_all maps.empty es) ≡ es
  part_entries es chain = chain_entries part_total (PartFits h.kind h.width) (λ m e f. f.behind) es chain

  fine_more : (m : PartMap) (e : PartKey × List ℕ) → PartFits h.kind h.width m e → IsValid (with_parts h m) → IsValid (with_parts h (maps.insert m e.0 e.1))
  fine_more m e f valid = valid_part (with_parts h m) e.0 e.1 valid f.is (fits_more m e.0 e.1 f.behind 17 refl f.room valid.leaves) (fits_more m e.0 e.1 f.behind 18 refl f.room valid.msrs)

  -- they are those of a valid host
  pub parts_valid : (es : List (PartKey × List ℕ)) → IsValid (with_parts h maps.empty) → Chain (PartFits h.kind h.width) maps.empty es → IsValid (with_parts h (put_all maps.empty es))
  parts_valid es valid chain = chain_keeps part_total (PartFits h.kind h.width) (λ m. IsValid (with_parts h m)) fine_more maps.empty es chain valid
