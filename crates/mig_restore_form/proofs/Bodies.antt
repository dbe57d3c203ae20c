-- The body of a record, type by type: what judging lets pass is spelled as the format says; what is spelled so passes,
-- and its length is one that its type allows.
use Rattle.mig_restore_form.proofs.Common.{◌≡◌, ◌≢◌, ℕ, ◌≤◌, ◌^◌, List, [], ◌++◌, length, drop, length-append, Bool, true, false, Option, Some, None, refl, sym, ap, subst, ◌∙◌, arith, eqb-true, eq-eqb, le32, Judged, part, Passes, both_pass, part_passes, same_passes, part_whole, then_passes, record_row_of, type_number, type_of_number, is_optional, Cause, Truncated, Kind, RecordType, numbers_are_inverse, type_allows, IsInOrder, ordered, PartCode, shape_of, has_shape, fault_of_body, parts_of_body, IsBody, bodies_are_spelled, is_shaped, fault_of_pv_info, fault_of_p2m, IsP2m, Part, FrameEntry, Content, Nothing, Frames, Sets, Lists, said_at, lists_of, plain_at, entries_at, pages_at, code_of_type, coded_at, typed_at, body_at, HasContent, IsBatch, said_goes, said_passes, leb-true, P2mFrames, End, PageData, X86PvInfo, X86PvP2mFrames, Verify, le-leb, slice_get_past, record_types, sets_at, info_at, p2m_at, StaticDataEnd, mandatory}
use Rattle.mig_order.specs.Order.{optional}
use Rattle.mig_records.proofs.PvLaws.{info_is_spelled, p2m_is_spelled, list_is}
use Rattle.mig_restore_form.specs.Spelled.HasContent.{optional as has_optional, ends as has_ends, pages as has_pages, sets as has_sets, info as has_info, p2m_frames as has_lists, static_end as has_static_end, verify as has_verify}
use Rattle.mig_restore_form.proofs.Batches.{batch_passes, batch_goes}

has_shape_in : Option PartCode → Bool
has_shape_in None = false
has_shape_in (Some code) = has_shape (shape_of code)

-- ---- judging passes

-- a body that says c
pub record Says (kind : Kind) (top : ℕ) (type len : ℕ) (i : List ℕ) (c : Content) (rest : List ℕ) : Type 0 where
  pub body : List ℕ
  pub whole : i ≡ body ++ rest
  pub body_len : length body ≡ len
  pub says : HasContent kind top type body c

plain_says : (kind : Kind) (top : ℕ) (type len : ℕ) (i : List ℕ) (c : Content) (rest : List ℕ) (f : List ℕ → Content) → ((body : List ℕ) → length body ≡ len → HasContent kind top type body (f body))
    → plain_at Truncated f len i ≡ Passes c rest → Says kind top type len i c rest
plain_says kind top type len i c rest f has_it h =
    let a = both_pass (part Truncated len i) _ c rest h in
    let p = part_passes Truncated len i a.x a.mid a.first in
    let e = same_passes _ _ _ _ a.second in
    record { body = a.x; whole = p.0 ∙ ap (λ l. a.x ++ l) e.1; body_len = p.1; says = subst (HasContent kind top type a.x) e.0 (has_it a.x p.1) }

nothing_says : (kind : Kind) (top : ℕ) (type len : ℕ) (i : List ℕ) (c : Content) (rest : List ℕ) → HasContent kind top type [] Nothing → len ≡ 0 → ◌≡◌ {A = Judged Cause Content} (Passes Nothing i) (Passes c rest) → Says kind top type len i c rest
nothing_says kind top type len i c rest has_it none h =
    let e = same_passes _ _ _ _ h in
    record { body = []; whole = e.1; body_len = sym none; says = subst (HasContent kind top type []) e.0 has_it }

-- a whole body in which no cause stands
said_says : (kind : Kind) (top : ℕ) (type len : ℕ) (i : List ℕ) (c : Content) (rest : List ℕ) (fault : List ℕ → Option Cause) (says : List ℕ → Content)
    → ((body : List ℕ) → length body ≡ len → fault body ≡ None → HasContent kind top type body (says body)) → said_at Truncated fault says len i ≡ Passes c rest → Says kind top type len i c rest
said_says kind top type len i c rest fault says has_it h =
    let p = said_passes Truncated fault says len i c rest h in
    record { body = p.bytes; whole = p.whole; body_len = p.size; says = subst (HasContent kind top type p.bytes) p.value (has_it p.bytes p.size p.fine) }

sets_say : (kind : Kind) (top : ℕ) (this : RecordType) (code : PartCode) (len : ℕ) (i : List ℕ) (c : Content) (rest : List ℕ) → code_of_type this ≡ Some code → has_shape (shape_of code) ≡ true → (record_row_of this).allows len ≡ true
    → sets_at code len i ≡ Passes c rest → Says kind top (type_number this) len i c rest
sets_say kind top this code len i c rest is shaped allowed h =
    said_says kind top (type_number this) len i c rest (fault_of_body code) (λ b. Sets code (parts_of_body code b))
    (λ body size fine. has_sets this code body (parts_of_body code body) is (ap (record_row_of this).allows size ∙ allowed) ((bodies_are_spelled code body (parts_of_body code body) shaped).0 (fine, refl))) h

info_says : (kind : Kind) (top : ℕ) (len : ℕ) (i : List ℕ) (c : Content) (rest : List ℕ) → len ≡ 8 → info_at len i ≡ Passes c rest → Says kind top 2 len i c rest
info_says kind top len i c rest eight h =
    said_says kind top 2 len i c rest fault_of_pv_info (λ _. Nothing) (λ body size fine. has_info body (size ∙ eight) ((info_is_spelled body (size ∙ eight)).0 fine)) h

p2m_says : (kind : Kind) (top : ℕ) (len : ℕ) (i : List ℕ) (c : Content) (rest : List ℕ) → 8 ≤ len → p2m_at len i ≡ Passes c rest → Says kind top 3 len i c rest
p2m_says kind top len i c rest long h =
    said_says kind top 3 len i c rest fault_of_p2m lists_of (λ body size fine. has_lists (le32 body 4) (drop 8 body) body ((p2m_is_spelled body (omega (arith, size, long))).0 fine)) h

pages_say : (kind : Kind) (top : ℕ) (len : ℕ) (i : List ℕ) (c : Content) (rest : List ℕ) → pages_at kind top len i ≡ Passes c rest → Says kind top 1 len i c rest
pages_say kind top len i c rest h =
    let a = both_pass (entries_at kind top len i) _ c rest h in
    let b = batch_passes kind top len i a.x a.mid a.first in
    let e = same_passes _ _ _ _ a.second in
    record { body = b.body; whole = b.whole ∙ ap (λ l. b.body ++ l) e.1; body_len = b.size; says = subst (HasContent kind top 1 b.body) e.0 (has_pages b.body a.x b.batch) }

-- a type that sets parts, and isn't P2M frames, is read by its code
pub coded_is : (kind : Kind) (top : ℕ) (this : RecordType) (code : PartCode) (len : ℕ) (i : List ℕ) → code_of_type this ≡ Some code → has_shape (shape_of code) ≡ true → typed_at kind top (Some this) len i ≡ sets_at code len i
coded_is kind top PageData code len i is shaped = cc
coded_is kind top X86PvInfo code len i is shaped = cc
coded_is kind top X86PvP2mFrames code len i is shaped = let same : P2mFrames ≡ code = cc in let no : false ≡ true = ap (λ c. has_shape (shape_of c)) same ∙ shaped in cc
coded_is kind top _ code len i is shaped = ap (λ o. coded_at o len i) is

-- a code without a row for its body is that of P2M frames
other_shape : (this : RecordType) (code : PartCode) → code_of_type this ≡ Some code → has_shape (shape_of code) ≡ false → this ≡ X86PvP2mFrames
unfolding has_shape_in
other_shape X86PvP2mFrames code is other = refl
other_shape _ code is other = cc (ap has_shape_in is)

pub shaped_code : (this : RecordType) (code : PartCode) → code_of_type this ≡ Some code → this ≢ X86PvP2mFrames → has_shape (shape_of code) ≡ true
shaped_code this code is not_list = by (has_shape (shape_of code)) refl
  where
    by : (b : Bool) → has_shape (shape_of code) ≡ b → has_shape (shape_of code) ≡ true
    by true row = row
    by false other = absurd (not_list (other_shape this code is other))

module _ (kind : Kind) (top : ℕ) (this : RecordType) (len : ℕ) (i : List ℕ) (c : Content) (rest : List ℕ) where
  -- the types that set no parts: END, page data, X86_PV_INFO, VERIFY, and the end of the static data
  marked : (t : RecordType) → (record_row_of t).supported ≡ true → (record_row_of t).allows len ≡ true → code_of_type t ≡ None → typed_at kind top (Some t) len i ≡ Passes c rest → Says kind top (type_number t) len i c rest
  marked End s allowed is h = nothing_says kind top 0 len i c rest has_ends (eqb-true len 0 allowed) h
  marked PageData s allowed is h = pages_say kind top len i c rest h
  marked X86PvInfo s allowed is h = info_says kind top len i c rest (eqb-true len 8 allowed) h
  marked StaticDataEnd s allowed is h = nothing_says kind top 0x10 len i c rest has_static_end (eqb-true len 0 allowed) h
  marked Verify s allowed is h = nothing_says kind top 0xD len i c rest has_verify (eqb-true len 0 allowed) h
  marked _ s allowed is h = absurd (cc)

  typed_says : (record_row_of this).supported ≡ true → (record_row_of this).allows len ≡ true → typed_at kind top (Some this) len i ≡ Passes c rest → Says kind top (type_number this) len i c rest
  typed_says s allowed h = by (code_of_type this) refl
    where
      listed : this ≡ X86PvP2mFrames → Says kind top (type_number this) len i c rest
      listed is = subst (λ (t : RecordType). Says kind top (type_number t) len i c rest) (sym is)
          (p2m_says kind top len i c rest (leb-true 8 len (subst (λ (t : RecordType). (record_row_of t).allows len ≡ true) is allowed)) (subst (λ (t : RecordType). typed_at kind top (Some t) len i ≡ Passes c rest) is h))

      shaped : (code : PartCode) → code_of_type this ≡ Some code → (b : Bool) → has_shape (shape_of code) ≡ b → Says kind top (type_number this) len i c rest
      shaped code is true row = sets_say kind top this code len i c rest is row allowed (sym (coded_is kind top this code len i is row) ∙ h)
      shaped code is false other = listed (other_shape this code is other)

      by : (o : Option PartCode) → code_of_type this ≡ o → Says kind top (type_number this) len i c rest
      by None is = marked this s allowed is h
      by (Some code) is = shaped code is (has_shape (shape_of code)) refl

-- the body of an optional record, and of a type of the table
pub optional_at : (kind : Kind) (top : ℕ) (type len : ℕ) (i : List ℕ) → 2 ^ 31 ≤ type → body_at kind top type len i ≡ plain_at Truncated (λ _. Nothing) len i
optional_at kind top type len i above = let e : is_optional type ≡ true = grind arith in rw e refl

pub type_at : (kind : Kind) (top : ℕ) (this : RecordType) (len : ℕ) (i : List ℕ) → body_at kind top (type_number this) len i ≡ typed_at kind top (Some this) len i
type_at kind top this len i = rw (mandatory this, numbers_are_inverse.type_of this) refl

pub body_says : (version : ℕ) (kind : Kind) (top : ℕ) (types : List ℕ) (type len : ℕ) (i : List ℕ) (c : Content) (rest : List ℕ) → IsInOrder version kind types type → type_allows (type_of_number type) len ≡ true
    → body_at kind top type len i ≡ Passes c rest → Says kind top type len i c rest
body_says version kind top types type len i c rest (optional above) allowed h =
    plain_says kind top type len i c rest (λ _. Nothing) (λ body size. has_optional type body above) (sym (optional_at kind top type len i above) ∙ h)
body_says version kind top types type len i c rest (ordered this is s k keeps) allowed h =
    let found : type_of_number type ≡ Some this = ap type_of_number is ∙ numbers_are_inverse.type_of this in
    subst (λ t. Says kind top t len i c rest) (sym is)
    (typed_says kind top this len i c rest s (subst (λ o. type_allows o len ≡ true) found allowed)
    (sym (type_at kind top this len i) ∙ subst (λ t. body_at kind top t len i ≡ Passes c rest) is h))

-- ---- what is spelled passes

plain_goes : (f : List ℕ → Content) (c : Content) (len : ℕ) (body rest : List ℕ) → length body ≡ len → f body ≡ c → plain_at Truncated f len (body ++ rest) ≡ Passes c rest
plain_goes f c len body rest size is = then_passes (part Truncated len (body ++ rest)) _ body rest _ (part_whole Truncated len body rest size) (ap (λ d. Passes d rest) is)

pages_go : (kind : Kind) (top : ℕ) (len : ℕ) (body rest : List ℕ) (es : List FrameEntry) → IsBatch kind top body es → length body ≡ len → pages_at kind top len (body ++ rest) ≡ Passes (Frames es) rest
pages_go kind top len body rest es b size = then_passes (entries_at kind top len (body ++ rest)) _ es rest _ (batch_goes kind top len body rest es b size) refl

list_goes : (last : ℕ) (frames body rest : List ℕ) (len : ℕ) → IsP2m last frames body → length body ≡ len → p2m_at len (body ++ rest) ≡ Passes (Lists last frames) rest
list_goes last frames body rest len is size =
    let (long, last_is, frames_are) = list_is last frames body is in
    said_goes Truncated fault_of_p2m lists_of len body rest size
    ((p2m_is_spelled body long).1 (subst (λ n. IsP2m n (drop 8 body) body) (sym last_is) (subst (λ l. IsP2m last l body) (sym frames_are) is)))
    ∙ ap (λ c. Passes c rest) (ap (λ n. Lists n (drop 8 body)) last_is ∙ ap (Lists last) frames_are)

sets_go : (code : PartCode) (len : ℕ) (body rest : List ℕ) (ps : List Part) → IsBody code body ps → length body ≡ len → sets_at code len (body ++ rest) ≡ Passes (Sets code ps) rest
sets_go code len body rest ps is size =
    let s = (bodies_are_spelled code body ps (is_shaped code body ps (shape_of code) is)).1 is in
    said_goes Truncated (fault_of_body code) (λ b. Sets code (parts_of_body code b)) len body rest size s.0 ∙ ap (λ l. Passes (Sets code l) rest) s.1

pub body_goes : (kind : Kind) (top : ℕ) (type len : ℕ) (body rest : List ℕ) (c : Content) → HasContent kind top type body c → length body ≡ len → body_at kind top type len (body ++ rest) ≡ Passes c rest
body_goes kind top _ len body rest _ (has_optional type _ above) size = optional_at kind top type len (body ++ rest) above ∙ plain_goes (λ _. Nothing) Nothing len body rest size refl
body_goes kind top _ len _ rest _ has_ends size = refl
body_goes kind top _ len body rest _ (has_pages _ es b) size = pages_go kind top len body rest es b size
body_goes kind top _ len body rest _ (has_sets this code _ ps is allowed says) size = type_at kind top this len (body ++ rest) ∙ coded_is kind top this code len (body ++ rest) is (is_shaped code body ps (shape_of code) says) ∙ sets_go code len body rest ps says size
body_goes kind top _ len body rest _ (has_info _ eight says) size = said_goes Truncated fault_of_pv_info (λ _. Nothing) len body rest size ((info_is_spelled body eight).1 says)
body_goes kind top _ len body rest _ (has_lists last frames _ says) size = list_goes last frames body rest len says size
body_goes kind top _ len _ rest _ has_static_end size = refl
body_goes kind top _ len _ rest _ has_verify size = refl

-- ---- lengths

pub no_type : (type : ℕ) → 2 ^ 31 ≤ type → type_of_number type ≡ None
no_type type above = slice_get_past record_types type (omega arith)

pub length_fits : (kind : Kind) (top : ℕ) (type len : ℕ) (body : List ℕ) (c : Content) → HasContent kind top type body c → length body ≡ len → type_allows (type_of_number type) len ≡ true
length_fits kind top _ len body _ (has_optional type _ above) size = ap (λ o. type_allows o len) (no_type type above)
length_fits kind top _ len _ _ has_ends size = eq-eqb len 0 (sym size)
length_fits kind top _ len body _ (has_pages _ es b) size = le-leb 8 len (omega (arith, ap length b.whole, length-append b.front (b.words_bytes ++ b.pages_bytes), b.front_len, size))
length_fits kind top _ len body _ (has_sets this code _ ps is allowed says) size = ap (λ o. type_allows o len) (numbers_are_inverse.type_of this) ∙ ap (record_row_of this).allows (sym size) ∙ allowed
length_fits kind top _ len body _ (has_info _ eight says) size = eq-eqb len 8 (sym size ∙ eight)
length_fits kind top _ len body _ (has_lists last frames _ says) size = le-leb 8 len (omega (arith, (list_is last frames body says).0, size))
length_fits kind top _ len _ _ has_static_end size = eq-eqb len 0 (sym size)
length_fits kind top _ len _ _ has_verify size = eq-eqb len 0 (sym size)
