-- An accepted guest is whole: each content that is spelled keeps it well formed, and its END asks for the rest.
use Rattle.mig_restore_form.proofs.Common.{◌≡◌, ℕ, zero, suc, ◌<◌, ◌≤◌, Bool, true, false, List, [], ◌∷◌, ◌++◌, length, Option, Some, is_some, refl, sym, ap, subst, ◌∙◌, arith, eqb-true, none-some, same_Some, All, common_steps, AreBytes, le32, record_row_of, type_number, Kind, Pv, Hvm, RecordType, numbers_are_inverse, pfn_limit, word_has_data, type_has_data, PageType, IsInside, GuestOf, words, IsInOrder, shape_of, bodies_are_spelled, is_shaped, Opening, type_in_guest, put_entry, put_entries, put_content, IsBegun, GrewByRecord, FrameEntry, Content, StreamRecord, types_of, is_verified, is_ended, Sets, Lists, IsPage, IsEntry, AreEntries, HasContent, IsComplete, Follows, Accepted, Spells, All-head, All-tail, X86PvP2mFrames, Notab, bytes_back, blank, optional, ends, pages, sets, info, p2m_frames, static_end, verify, no_part, one_more, most_body, HasNoEmulators, IsGoodWord, bytes_front, IsOfBytes, same_number}
use Rattle.mig_order.specs.Order.IsInOrder.{optional as is_optional, ordered as is_ordered}
use Rattle.mig_records.proofs.Reading.{AreOctets}
use Rattle.mig_records.proofs.Small.{small_parts}
use Rattle.mig_pvtables.specs.Whole.{IsWhole}
use Rattle.mig_pvtables.proofs.BlankAgain.{blank_again}
use Rattle.mig_pvtables.proofs.BlankBytesKept.{blank_bytes}
use Rattle.mig_pvtables.proofs.BlankWhole.{whole_blank, blank_plain}
use Rattle.mig_restore_form.specs.Mean.{sent}
use Rattle.mig_restore_form.proofs.Meaning.{ended_more, one_more_record, sent_kind, meant_as_sent}
use Rattle.mig_restore_form.proofs.Bodies.{no_type}
use Rattle.mig_restore_form.proofs.Growth.{empty_begun, grows_not, grows_on, word_inside, grows_frame, grows_sets, grows_list, has_length, same_kinds, sets_no_emulator}
use Rattle.mig_restore_form.proofs.Batches.{carries}
use Rattle.mig_restore_form.proofs.Laws.{complete_faultless}
use Rattle.mig_restore_form.proofs.Compared.{placed_is}

-- ---- bytes

abbrev IsByte : ℕ → Type 0
IsByte b = b < 256

octets : (xs : List ℕ) → AreBytes xs → AreOctets xs
octets [] h k = omega arith
octets (x ∷ xs) h zero = All-head IsByte x xs h
octets (x ∷ xs) h (suc k) = octets xs (All-tail IsByte x xs h) k

-- ---- frames

data_kept : (kind : Kind) (t : PageType) → type_has_data (type_in_guest kind t) ≡ type_has_data t
data_kept Pv t = refl
data_kept Hvm Notab = refl
data_kept Hvm _ = refl

page_there : (b : Bool) (bytes : List ℕ) (page : Option (List ℕ)) → IsPage b bytes page → is_some page ≡ b
page_there b bytes page h = grind (arith, common_steps, h)

page_whole : (b : Bool) (bytes : List ℕ) (page : Option (List ℕ)) → IsPage b bytes page → (l : List ℕ) → page ≡ Some l → length l ≡ 4096
page_whole b bytes page h l is = grind (arith, common_steps, h, is)

page_bytes : (b : Bool) (bytes : List ℕ) (page : Option (List ℕ)) → IsPage b bytes page → AreBytes bytes → (l : List ℕ) → page ≡ Some l → AreBytes l
page_bytes true bytes page h all l is = subst AreBytes (same_Some bytes l (sym h.1 ∙ is)) all
page_bytes false bytes page h all l is = absurd (none-some l (sym h.1 ∙ is))

entry_grows : (g : GuestOf) (w : ℕ) (bytes : List ℕ) (e : FrameEntry) → AreBytes bytes → IsGoodWord g.kind g.top w → IsEntry g.kind g.top w bytes e → GrewByRecord g (record g { frames = put_entry g.kind g.frames e })
entry_grows g w bytes e all good is =
    let (small, inside) = word_inside g.kind g.top w good.1 in
    grows_frame g (record g { frames = put_entry g.kind g.frames e }) e.type (type_in_guest g.kind e.type) e.pfn e.page refl (record {
      small = subst (λ n. n < pfn_limit) (sym is.pfn) small;
      inside = subst (IsInside g.kind g.top) (sym is.pfn) inside;
      in_step = page_there (word_has_data w) bytes e.page is.page ∙ carries w ∙ ap type_has_data (sym is.type) ∙ sym (data_kept g.kind e.type);
      whole = page_whole (word_has_data w) bytes e.page is.page;
      all = page_bytes (word_has_data w) bytes e.page is.page all;
      entries = is.within;
    }) refl

-- the entries of a PAGE_DATA leave a guest on its way
pub entries_grow : (kind : Kind) (top : ℕ) (ws bytes : List ℕ) (es : List FrameEntry) → AreBytes bytes → All (IsGoodWord kind top) ws → AreEntries kind top ws bytes es → (g : GuestOf) → kind ≡ g.kind → top ≡ g.top → GrewByRecord g (record g { frames = put_entries g.kind g.frames es })
entries_grow kind top [] bytes es all good (_, is) g k t = subst (λ l. GrewByRecord g (record g { frames = put_entries g.kind g.frames l })) (sym is) (grows_not g)
entries_grow kind top (w ∷ ws) bytes es all good (page, rest, e, others, cut, is, first, more) g k t =
    let h : GuestOf = record g { frames = put_entry g.kind g.frames e } in
    let bytes_of : AreBytes (page ++ rest) = subst AreBytes cut all in
    let word : IsGoodWord g.kind g.top w = subst (λ n. IsGoodWord g.kind n w) t (subst (λ x. IsGoodWord x top w) k (All-head (IsGoodWord kind top) w ws good)) in
    let entry : IsEntry g.kind g.top w page e = subst (λ n. IsEntry g.kind n w page e) t (subst (λ x. IsEntry x top w page e) k first) in
    subst (λ l. GrewByRecord g (record g { frames = put_entries g.kind g.frames l })) (sym is)
    (grows_on g h (record h { frames = put_entries h.kind h.frames others }) (entry_grows g w page e (bytes_front page rest bytes_of) word entry)
    (entries_grow kind top ws rest others (bytes_back page rest bytes_of) (All-tail (IsGoodWord kind top) w ws good) more h k t))

-- ---- contents

-- a record of a type that may stand here is one of this kind of guest
of_this_kind : (o : Opening) (types : List ℕ) (this : RecordType) → IsInOrder o.version o.kind types (type_number this) → (record_row_of this).of_kind o.kind ≡ true
of_this_kind o types this (is_optional above) = absurd (none-some this (sym (no_type (type_number this) above) ∙ numbers_are_inverse.type_of this))
of_this_kind o types this (is_ordered other is supported of_kind keeps) = subst (λ (t : RecordType). (record_row_of t).of_kind o.kind ≡ true) (sym (same_number this other is)) of_kind

content_grows : (g : GuestOf) (kind : Kind) (top type : ℕ) (body : List ℕ) (c : Content) → kind ≡ g.kind → top ≡ g.top → AreBytes body → length body ≤ most_body
    → ((this : RecordType) → type ≡ type_number this → (record_row_of this).of_kind g.kind ≡ true) → HasContent kind top type body c → GrewByRecord g (put_content g c)
content_grows g kind top type body c k t bytes short of_kind (optional n b many) = grows_not g
content_grows g kind top type body c k t bytes short of_kind ends = grows_not g
content_grows g kind top type body c k t bytes short of_kind static_end = grows_not g
content_grows g kind top type body c k t bytes short of_kind verify = grows_not g
content_grows g kind top type body c k t bytes short of_kind (info b eight says) = grows_not g
content_grows g kind top type body c k t bytes short of_kind (pages b es batch) =
    entries_grow kind top (words (le32 batch.front 0) batch.words_bytes) batch.pages_bytes es
    (bytes_back batch.words_bytes batch.pages_bytes (bytes_back batch.front (batch.words_bytes ++ batch.pages_bytes) (subst AreBytes batch.whole bytes))) batch.good batch.entries g k t
content_grows g kind top type body c k t bytes short of_kind (p2m_frames last frames b says) = grows_list g (put_content g (Lists last frames)) last frames b (is_pv g.kind (of_kind X86PvP2mFrames refl)) bytes says refl
  where
    is_pv : (x : Kind) → (record_row_of X86PvP2mFrames).of_kind x ≡ true → x ≡ Pv
    is_pv Pv is = refl
    is_pv Hvm is = cc
content_grows g kind top type body c k t bytes short of_kind (sets this code b ps is allowed says) =
    let (fine, same) = (bodies_are_spelled code b ps (is_shaped code b ps (shape_of code) says)).1 says in
    grows_sets code g (put_content g (Sets code ps)) b
    (sym (same_kinds this code is g.kind) ∙ of_kind this refl)
    (sets_no_emulator this code is) (has_length this code is (length b) allowed) short bytes fine
    (small_parts code b (octets b bytes) fine) (ap (λ l. put_content g (Sets code l)) (sym same))

-- ---- records

spelled_begun : (o : Opening) (bytes : List ℕ) (records : List StreamRecord) → AreBytes bytes → Spells (Follows o) bytes records → IsBegun (sent o.kind records)
unfolding sent
spelled_begun o bytes records all no_part = empty_begun o.kind
spelled_begun o bytes records all (one_more front rs r text before f) =
    let was = spelled_begun o front rs (bytes_front front text all) before in
    let g = sent o.kind rs in
    let kind : o.kind ≡ g.kind = sym (sent_kind o.kind rs) in
    let all_text = subst AreBytes f.is.whole (bytes_back front text all) in
    let all_body = bytes_front f.body f.is.padding (bytes_back f.is.head (f.body ++ f.is.padding) all_text) in
    let said = content_grows g o.kind g.top r.type f.body f.said kind refl all_body f.small
    (λ this is. subst (λ k. (record_row_of this).of_kind k ≡ true) kind (of_this_kind o (types_of rs) this (subst (IsInOrder o.version o.kind (types_of rs)) is f.ordered))) f.says in
    let grown = subst (λ (c : Content). GrewByRecord g (put_content g c)) (sym f.placed) (placed_is (λ c. GrewByRecord g (put_content g c)) (is_verified (types_of rs)) f.said (λ es. grows_not g) said) in
    subst IsBegun (sym (one_more_record o.kind rs r)) (grown.kept was)

-- the last record ends the image
spelled_ended : (o : Opening) (bytes : List ℕ) (records : List StreamRecord) → is_ended records ≡ true → Spells (Follows o) bytes records → IsComplete o.kind (sent o.kind records)
spelled_ended o bytes records ended no_part = let no : false ≡ true = ended in cc
spelled_ended o bytes records ended (one_more front rs r text before f) = f.complete (eqb-true r.type 0 (sym (ended_more rs r f.not_ended) ∙ ended))

pub accepted_whole : (input : List ℕ) (guest : GuestOf) (rest : List ℕ) → AreBytes input → Accepted input guest rest → IsWhole guest × (blank guest ≡ guest) × IsOfBytes guest × HasNoEmulators guest.parts
accepted_whole input guest rest all a =
    let im = a.image in let o = a.opening in let g = sent o.kind a.records in
    let complete = spelled_ended o im.bytes a.records im.ended im.spelled in
    let behind = bytes_back im.domain_header (im.bytes ++ rest) (bytes_back im.image_header (im.domain_header ++ (im.bytes ++ rest)) (subst AreBytes im.whole all)) in
    let begun = spelled_begun o im.bytes a.records (bytes_front im.bytes rest behind) im.spelled in
    let whole : IsWhole g = record { formed = begun.formed; faultless = complete_faultless o.kind g (sent_kind o.kind a.records) complete } in
    subst (λ x. IsWhole x × (blank x ≡ x) × IsOfBytes x × HasNoEmulators x.parts) (meant_as_sent g o.kind a.records refl ∙ sym a.means)
    (whole_blank g whole, blank_again g, blank_bytes g begun.bytes, blank_plain g begun.plain)
