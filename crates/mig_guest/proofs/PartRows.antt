-- Each row of the table of parts has a number of its own, and each part the row of its code.
use Rattle.mig_guest.proofs.Common.{◌≡◌, ℕ, ◌<◌, ◌^◌, true, false, cond, List, [], ◌∷◌, length, Some, None, refl, sym, ap, subst, ◌∙◌, ◌==◌, ◌&&◌, eqb-true, and_parts, PartKey, FrameOf, IsFrame, is_hvm_type, is_type_of, IsPart, IsContent, IsRawContent, IsInside, IsGuestFrame, Hvm, Kind, PartCode, row_of, code_number, part_codes, code_of_number, level_of, PageType, Notab, Broken, Xalloc, Entry, IsHostPart, IsRowPart, EachEntry, IsWithin, rules}
use Rattle.std.specs.Prelude.{find}
use Rattle.mig_guest.specs.declared.part_code.PartCode.TheVariants.{P2mFrames, EmulatorPairs}
use Rattle.mig_pagetypes.specs.Limits.{pfn_limit}

pub number_back : (c : PartCode) → code_of_number (code_number c) ≡ Some c
number_back P2mFrames = refl
number_back _ = refl

pub one_code : (a b : PartCode) → code_number a ≡ code_number b → a ≡ b
one_code a b e = let same : Some a ≡ Some b = sym (number_back a) ∙ ap code_of_number e ∙ number_back b in cc

found_in : (n : ℕ) (cs : List PartCode) (c : PartCode) → find (λ code. code_number code == n) cs ≡ Some c → n ≡ code_number c
found_in n [] c is = cc
found_in n (d ∷ cs) c is = elim (code_number d == n) as (λ b. (code_number d == n) ≡ b → cond b (Some d) (find (λ code. code_number code == n) cs) ≡ Some c → n ≡ code_number c) [
  | true ↦ λ t at. let same : d ≡ c = cc in sym (eqb-true (code_number d) n t) ∙ ap code_number same
  | false ↦ λ t at. found_in n cs c at
] refl is

pub number_found : (n : ℕ) (c : PartCode) → code_of_number n ≡ Some c → n ≡ code_number c
number_found n c is = found_in n part_codes c is

pub numbered : (n : ℕ) (c : PartCode) → n ≡ code_number c → code_of_number n ≡ Some c
numbered n c is = ap code_of_number is ∙ number_back c

-- a part of this code
pub record IsOf (code : PartCode) (width : ℕ) (p : PartKey × List ℕ) : Type 0 where
  pub number : p.0.code ≡ code_number code
  pub keys : (row_of code).keys p.0.key1 p.0.key2 ≡ true
  pub len : (row_of code).allows width (length p.1) ≡ true
  pub content : IsContent code p.1
  pub small1 : p.0.key1 < 2 ^ 32
  pub small2 : p.0.key2 < 2 ^ 32

pub of_part : (code : PartCode) (kind : Kind) (width : ℕ) (p : PartKey × List ℕ) → IsPart kind width p.0 p.1 → p.0.code ≡ code_number code → IsOf code width p
of_part code kind width p is number =
    subst (λ c. IsOf c width p) (one_code is.code code (sym is.number ∙ number))
    (record { number = is.number; keys = is.keys; len = is.len; content = is.content; small1 = is.small1; small2 = is.small2 })

-- a code of which no key has numbers has one key
pub sole : (code : PartCode) (width : ℕ) (p : PartKey × List ℕ) → IsOf code width p → ((p.0.key1 == 0) && (p.0.key2 == 0)) ≡ true → p.0 ≡ record { code = code_number code; key1 = 0; key2 = 0 }
sole code width p one none =
    let (a, b) = and_parts (p.0.key1 == 0) (p.0.key2 == 0) none in let key1 = eqb-true p.0.key1 0 a in let key2 = eqb-true p.0.key2 0 b in
    λ i. record { code = one.number i; key1 = key1 i; key2 = key2 i }

-- ---- a part of a guest is one of its host

-- what the bytes of a guest's part are, a host asks of them
pub raw : (code : PartCode) (bytes : List ℕ) → IsContent code bytes → IsRawContent code bytes
raw EmulatorPairs bytes h = h
raw _ bytes h = tt

-- of an HVM guest's parts none has a length that depends on the width
pub same_len : (code : PartCode) (v w n : ℕ) → (row_of code).of_kind Hvm ≡ true → (row_of code).allows v n ≡ (row_of code).allows w n
same_len P2mFrames v w n of_hvm = cc
same_len _ v w n of_hvm = refl

-- a part with other bytes, of which the same or something else is asked
pub with_bytes : {From To : PartCode → List ℕ → Type 0} {kind : Kind} {width : ℕ} (other : ℕ) {key : PartKey} {bytes : List ℕ} (changed : List ℕ) (is : IsRowPart From kind width key bytes) → (row_of is.code).allows other (length changed) ≡ true → To is.code changed → IsRowPart To kind other key changed
with_bytes other changed is len content = search rules

-- the same, where its code is known
pub changed_part : {From To : PartCode → List ℕ → Type 0} {kind : Kind} {width : ℕ} (other : ℕ) {key : PartKey} {bytes : List ℕ} (code : PartCode) (changed : List ℕ) → key.code ≡ code_number code → (row_of code).allows other (length changed) ≡ true → IsRowPart From kind width key bytes → To code changed → IsRowPart To kind other key changed
changed_part {To = To} other code changed number len is content =
    let same = one_code code is.code (sym number ∙ is.number) in
    with_bytes other changed is (subst (λ c. (row_of c).allows other (length changed) ≡ true) same len) (subst (λ c. To c changed) same content)

pub host_part : (v w : ℕ) (key : PartKey) (bytes : List ℕ) → IsPart Hvm v key bytes → IsHostPart Hvm w key bytes
host_part v w key bytes is = with_bytes w bytes is (sym (same_len is.code v w (length bytes) is.of_kind) ∙ is.len) (raw is.code bytes is.content)

-- ---- frames that are no tables

pub no_entries : (P : Entry → Type 0) (frame : FrameOf) → is_hvm_type frame.type ≡ true → EachEntry P frame
no_entries P frame hvm level page is = let no : None ≡ Some level = sym (no_level frame.type hvm) ∙ is in cc
  where
    no_level : (t : PageType) → is_hvm_type t ≡ true → level_of t ≡ None
    no_level Notab h = refl
    no_level Broken h = refl
    no_level Xalloc h = refl
    no_level _ h = cc

-- a frame of an HVM guest
pub hvm_frame : (kind : Kind) (top pfn : ℕ) (frame : FrameOf) → kind ≡ Hvm → pfn < pfn_limit → IsFrame frame → is_hvm_type frame.type ≡ true → IsGuestFrame kind top pfn frame
hvm_frame kind top pfn frame hvm small is type = record {
  small = small;
  inside = subst (λ k. IsInside k top pfn) (sym hvm) tt;
  is = is;
  type = subst (λ k. is_type_of k frame.type ≡ true) (sym hvm) type;
  entries = no_entries (λ e. IsWithin top e) frame type;
}
