-- What is spelled as the format says is accepted.
use Rattle.mig_restore_form.proofs.Common.{◌≡◌, ℕ, ◌≤◌, ◌<◌, List, [], ◌∷◌, ◌++◌, length, true, false, nat_le, not, Option, None, refl, sym, ap, subst, ◌∙◌, arith, append_assoc, drop, length-drop, ◌⊎◌, inl, inr, common_steps, le-ltb, length-map, padding_len, le32, be32, Judged, ◌>>=◌, part, placed, Passes, Faulty, part_whole, same_passes, fault_of_marker, fault_of_image, fault_of_domain, kind_of_number, IsImageHeader, IsDomainHeader, type_of_number, Cause, TooManyRecords, Truncated, Place, Kind, GuestOf, long_rows, length_rows, type_allows, fault_of_long, fault_of_length, IsInOrder, fault_of_type, fault_of_guest, StreamRecord, is_ended, is_verified, placed_content, types_of, Opening, Before, opening_of, before, fault_of_head, head_at, fault_at_end, body_at, Follows, IsImage, Accepted, ImageOf, image_of, records_at, then_passes, tried_none, no_fault, said_at, said_goes, Spells, image_is_spelled, domain_is_spelled, faultless_is_in_order, record_at, next_at, sent, placed_next, most_body, most_records, take, take-append-drop, length-take-le, lt-leb, neither_some, unless_ok}
use Rattle.mig_restore_form.specs.Stream.{IsRefused, opening_at, image_at}
use Rattle.mig_headers.specs.declared.header.ImageHeader.{ImageHeader}
use Rattle.mig_headers.specs.declared.header.DomainHeader.{DomainHeader}
use Rattle.mig_restore_form.proofs.Meaning.{sent_kind}
use Rattle.mig_restore_form.specs.Judging.{fault_of_fields}
use Rattle.mig_restore_form.specs.Mean.{mean}
use Rattle.mig_restore_form.proofs.Parts.{begins, behind_head, behind_body, asks, behind_record}
use Rattle.mig_restore_form.proofs.Bodies.{body_goes, length_fits}
use Rattle.mig_restore_form.proofs.Laws.{complete_faultless, finds, accepted_is_image, behind_marker, behind_version, behind_kind}
use Rattle.mig_bytes.proofs.Sequences as fronts
use Rattle.mig_headers.specs.declared.fault.Place.TheVariants as places

-- ---- a record

fine_fields : (b : Before) (type len : ℕ) → len ≤ most_body → IsInOrder b.opening.version b.opening.kind b.types type → type_allows (type_of_number type) len ≡ true → length b.types < most_records
    → fault_of_fields b type len ≡ None
unfolding fault_of_fields
fine_fields b type len small in_order allowed few =
    let o = b.opening in
    (neither_some (fault_of_long len) _ (no_fault (long_rows len) (le-ltb _ _ small, tt))
    (neither_some (fault_of_type o.version o.kind b.types type) _ ((faultless_is_in_order o.version o.kind b.types type).1 in_order)
    (neither_some (fault_of_length type len) _ (no_fault (length_rows type len) (ap not allowed, tt))
    (no_fault ((nat_le most_records (length b.types), TooManyRecords) ∷ []) (lt-leb most_records (length b.types) few, tt)))))

fine_at_end : (type : ℕ) (g : GuestOf) → (type ≡ 0 → fault_of_guest g ≡ None) → fault_at_end type g ≡ None
fine_at_end type g whole = grind (arith, common_steps, whole)

record_goes : (o : Opening) (records : List StreamRecord) (r : StreamRecord) (text rest : List ℕ) → Follows o records r text → record_at (before o records) (text ++ rest) ≡ Passes r rest
unfolding behind_head behind_body
record_goes o records r text rest f =
    let b = before o records in
    let is = f.is in
    let len = le32 is.head 4 in
    let mid = f.body ++ (is.padding ++ rest) in
    let input : text ++ rest ≡ is.head ++ mid = ap (λ l. l ++ rest) is.whole ∙ append_assoc is.head _ rest ∙ ap (λ l. is.head ++ l) (append_assoc f.body is.padding rest) in
    let fields = fine_fields b r.type len (omega (arith, is.len_is, f.small)) f.ordered (length_fits o.kind b.top r.type len f.body f.said f.says (sym is.len_is)) (omega (arith, f.few, length-map records (λ (x : StreamRecord). x.type))) in
    let fine : fault_of_head b is.head ≡ None = ap (λ t. fault_of_fields b t len) is.type_is ∙ fields in
    ap (record_at b) input ∙ begins b (is.head ++ mid)
    ∙ then_passes (head_at b (is.head ++ mid)) (behind_head b) is.head mid _ (then_passes (part Truncated 8 (is.head ++ mid)) _ is.head mid _ (part_whole Truncated 8 is.head mid is.head_len) (tried_none (fault_of_head b is.head) mid _ fine))
    (then_passes (body_at o.kind b.top (le32 is.head 0) len mid) (behind_body b is.head) f.said (is.padding ++ rest) _
    (ap (λ t. body_at o.kind b.top t len mid) is.type_is ∙ body_goes o.kind b.top r.type len f.body (is.padding ++ rest) f.said f.says (sym is.len_is))
    (then_passes (part Truncated (padding_len len) (is.padding ++ rest)) _ is.padding rest _ (part_whole Truncated _ is.padding rest (is.padded ∙ ap padding_len (sym is.len_is)))
    (ap (λ t. Passes (record { type = t; content = placed_content (is_verified (types_of records)) f.said }) rest) is.type_is ∙ ap (λ c. Passes (record { type = r.type; content = c }) rest) (sym f.placed))))

next_goes : (o : Opening) (records : List StreamRecord) (r : StreamRecord) (text rest : List ℕ) → Follows o records r text → next_at o records (text ++ rest) ≡ Passes r rest
unfolding behind_record
next_goes o records r text rest f =
    let whole = λ (zero : r.type ≡ 0). complete_faultless o.kind (sent o.kind (records ++ r ∷ [])) (sent_kind o.kind (records ++ r ∷ [])) (f.complete zero) in
    asks o records (text ++ rest)
    ∙ then_passes (record_at (before o records) (text ++ rest)) (behind_record o records) r rest _ (record_goes o records r text rest f)
    (tried_none (fault_at_end r.type (sent o.kind (records ++ r ∷ []))) rest _ (fine_at_end r.type (sent o.kind (records ++ r ∷ [])) whole))

-- ---- a front, and the whole image

pub goes : (o : Opening) (records : List StreamRecord) (r : StreamRecord) (text rest : List ℕ) → Follows o records r text → placed_next o records (text ++ rest) ≡ Passes r rest
goes o records r text rest f = ap (placed (places.Record (length records))) (next_goes o records r text rest f)

pub going : (o : Opening) (records : List StreamRecord) (r : StreamRecord) (text : List ℕ) → Follows o records r text → is_ended records ≡ false
going o records r text f = f.not_ended

spelled_accepted : (o : Opening) (bytes : List ℕ) (records : List StreamRecord) (rest : List ℕ) → Spells (Follows o) bytes records → is_ended records ≡ true → records_at o (bytes ++ rest) ≡ Passes (image_of o records) rest
spelled_accepted o bytes records rest spelled ended =
    ap (λ (j : Judged (Place × Cause) (List StreamRecord)). j >>= λ rs. Passes (image_of o rs.0) rs.1) (fronts.spelled_accepted is_ended (placed_next o) (Follows o) (finds o) (goes o) (going o) bytes records rest spelled ended)

-- ---- the headers

part_is : {Y Z : Type 0} (place : Place) (n : ℕ) (f : List ℕ → Option Cause) (y : List ℕ → Y) (x rest : List ℕ) (k : Y × List ℕ → Judged (Place × Cause) Z) → length x ≡ n → f x ≡ None → (placed place (said_at Truncated f y n (x ++ rest)) >>= k) ≡ k (y x, rest)
part_is place n f y x rest k size fine = ap (λ j. placed place j >>= k) (said_goes Truncated f y n x rest size fine)

domain_fine : (header : List ℕ) (kind : Kind) (major minor : ℕ) → IsDomainHeader header kind major minor → (fault_of_domain header ≡ None) × (kind_of_number (le32 header 0) ≡ kind)
domain_fine header kind major minor is =
    let read = (domain_is_spelled header kind major minor is.size).1 is in
    let o = unless_ok (fault_of_domain header) (record { kind = kind_of_number (le32 header 0); major = le32 header 8; minor = le32 header 12 }) (record { kind = kind; major = major; minor = minor }) read in
    (o.0, ap (λ (h : DomainHeader). h.kind) o.1)

-- the headers, one after another
pub marker_goes : (first rest : List ℕ) → length first ≡ 8 → fault_of_marker first ≡ None → opening_at (first ++ rest) ≡ behind_marker (first, rest)
unfolding opening_at
marker_goes first rest size fine = part_is places.ImageHeader 8 fault_of_marker (λ l. l) first rest behind_marker size fine

pub image_header_goes : (header rest : List ℕ) (version : ℕ) → IsImageHeader header version → opening_at (header ++ rest) ≡ behind_version (version, rest)
image_header_goes header rest version is =
    let first = take 8 header in
    let more = drop 8 header in
    let whole : header ≡ first ++ more = sym (take-append-drop 8 header) in
    let size : length first ≡ 8 = length-take-le 8 header (omega (arith, is.size)) in
    let more_len : length more ≡ 16 = omega (arith, length-drop 8 header, is.size) in
    let read = (image_is_spelled first more version size more_len).1 (subst (λ l. IsImageHeader l version) whole is) in
    let o = unless_ok (fault_of_image more) (record { version = be32 more 4 }) (record { version = version }) read.1 in
    ap opening_at (ap (λ l. l ++ rest) whole ∙ append_assoc first more rest) ∙ marker_goes first (more ++ rest) size read.0
    ∙ part_is places.ImageHeader 16 fault_of_image (λ l. be32 l 4) more rest behind_version more_len o.0 ∙ ap (λ (h : ImageHeader). behind_version (h.version, rest)) o.1

pub headers_go : (o : Opening) (first second rest : List ℕ) (major minor : ℕ) → IsImageHeader first o.version → IsDomainHeader second o.kind major minor → opening_at (first ++ (second ++ rest)) ≡ Passes o rest
headers_go o first second rest major minor is_first is_second =
    let d = domain_fine second o.kind major minor is_second in
    image_header_goes first (second ++ rest) o.version is_first
    ∙ part_is places.DomainHeader 16 fault_of_domain (λ l. kind_of_number (le32 l 0)) second rest (behind_kind o.version) is_second.size d.0 ∙ ap (λ k. Passes (opening_of o.version k) rest) d.1

pub image_is_accepted : (input : List ℕ) (o : Opening) (records : List StreamRecord) (rest : List ℕ) → IsImage input o records rest → image_at input ≡ Passes (image_of o records) rest
unfolding image_at
image_is_accepted input o records rest im =
    ap image_at im.whole
    ∙ then_passes (opening_at (im.image_header ++ (im.domain_header ++ (im.bytes ++ rest)))) (λ opening. records_at opening.0 opening.1) o (im.bytes ++ rest) _
    (headers_go o im.image_header im.domain_header (im.bytes ++ rest) im.major im.minor im.is_image_header im.is_domain_header) (spelled_accepted o im.bytes records rest im.spelled im.ended)

-- an input has one front that is an image
same_images : (o p : Opening) (rs ss : List StreamRecord) (i j : List ℕ) → ◌≡◌ {A = Judged (Place × Cause) ImageOf} (Passes (image_of o rs) i) (Passes (image_of p ss) j) → (o ≡ p) × (rs ≡ ss) × (i ≡ j)
same_images o p rs ss i j e =
    let same = same_passes (image_of o rs) (image_of p ss) i j e in (ap (λ (im : ImageOf). im.opening) same.0, ap (λ (im : ImageOf). im.records) same.0, same.1)

pub one_image : (input : List ℕ) (o p : Opening) (rs ss : List StreamRecord) (rest more : List ℕ) → IsImage input o rs rest → IsImage input p ss more → (o ≡ p) × (rs ≡ ss) × (rest ≡ more)
one_image input o p rs ss rest more a b = same_images o p rs ss rest more (sym (image_is_accepted input o rs rest a) ∙ image_is_accepted input p ss more b)

pub one_front : (input : List ℕ) (g h : GuestOf) (rest more : List ℕ) → Accepted input g rest → Accepted input h more → (g ≡ h) × (rest ≡ more)
one_front input g h rest more a b =
    let same = one_image input a.opening b.opening a.records b.records rest more a.image b.image in
    (a.means ∙ ap (λ (o : Opening). mean o.kind a.records) same.0 ∙ ap (mean b.opening.kind) same.1 ∙ sym b.means, same.2)

pub never_both : (input : List ℕ) (guest : GuestOf) (rest : List ℕ) (place : Place) (cause : Cause) (more : List ℕ) → Accepted input guest rest → IsRefused input place cause more → ⊥
never_both input guest rest place cause more a refused = apart (sym (image_is_accepted input a.opening a.records rest a.image) ∙ refused)
  where
    apart : ◌≡◌ {A = Judged (Place × Cause) ImageOf} (Passes (image_of a.opening a.records) rest) (Faulty (place, cause) more) → ⊥
    apart e = cc

pub accepted_or_refused : (input : List ℕ) → ((guest : GuestOf) × (rest : List ℕ) × Accepted input guest rest) ⊎ ((place : Place) × (cause : Cause) × (rest : List ℕ) × IsRefused input place cause rest)
accepted_or_refused input = either (image_at input) refl
  where
    either : (j : Judged (Place × Cause) ImageOf) → image_at input ≡ j → ((guest : GuestOf) × (rest : List ℕ) × Accepted input guest rest) ⊎ ((place : Place) × (cause : Cause) × (rest : List ℕ) × IsRefused input place cause rest)
    either (Passes im rest) is = inl (mean im.opening.kind im.records, rest, record { opening = im.opening; records = im.records; image = accepted_is_image input im.opening im.records rest is; means = refl })
    either (Faulty at rest) is = inr (at.0, at.1, rest, is)
