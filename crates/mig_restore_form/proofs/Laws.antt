-- What judging accepts is spelled as the format says.
use Rattle.mig_restore_form.proofs.Common.{◌≡◌, ℕ, ◌≤◌, ◌<◌, List, [], ◌∷◌, ◌++◌, length, true, false, nat_le, Option, None, refl, sym, ap, subst, ◌∙◌, append_assoc, ltb-false, leb-false, Ok, arith, length-append, not-false, length-map, padding_len, le32, be32, Judged, ◌>>=◌, part, tried, placed, Passes, both_pass, part_passes, tried_passes, same_passes, fault_of_marker, fault_of_image, fault_of_domain, kind_of_number, unless_faulty, IsImageHeader, IsDomainHeader, type_of_number, Cause, TooManyRecords, Truncated, Place, Kind, Pv, Hvm, GuestOf, long_rows, length_rows, type_allows, fault_of_long, fault_of_length, IsInOrder, fault_of_type, fault_of_guest, StreamRecord, is_ended, is_verified, placed_content, types_of, Opening, Before, opening_of, before, fault_of_number, fault_of_head, fault_at_end, body_at, IsComplete, Follows, IsImage, ImageOf, image_of, records_at, rows_fine, said_passes, Spells, image_is_spelled, domain_is_spelled, faultless_is_in_order, record_at, next_at, sent, placed_next, most_body, most_records, placed_passes, both_none, sequence_at}
use Rattle.mig_headers.specs.declared.fault.Place.TheVariants.{Record, ImageHeader, DomainHeader}
use Rattle.mig_pvtables.proofs.HvmGuests.{hvm_complete, hvm_faultless}
use Rattle.mig_pvtables.proofs.PvGuests.{pv_complete, pv_faultless}
use Rattle.mig_restore_form.specs.Stream.{marker_at, version_at, kind_at, image_at, opening_at}
use Rattle.mig_bytes.proofs.Sequences.{Found}
use Rattle.mig_restore_form.specs.Judging.{fault_of_fields}
use Rattle.mig_restore_form.proofs.Parts.{behind_head, behind_body, head_stage, asks, behind_record, taken}
use Rattle.mig_restore_form.proofs.Meaning.{sent_kind}
use Rattle.mig_restore_form.proofs.Bodies.{body_says}
use Rattle.mig_bytes.proofs.Sequences as fronts

-- ---- a head

-- what fields without fault say
pub record FineFields (b : Before) (type len : ℕ) : Type 0 where
  pub small : len ≤ most_body
  pub ordered : IsInOrder b.opening.version b.opening.kind b.types type
  pub allowed : type_allows (type_of_number type) len ≡ true
  pub few : length b.types < most_records

pub fields_fine : (b : Before) (type len : ℕ) → fault_of_fields b type len ≡ None → FineFields b type len
unfolding fault_of_fields
fields_fine b type len fine =
    let o = b.opening in
    let l = both_none (fault_of_long len) _ fine in
    let c = both_none (fault_of_type o.version o.kind b.types type) _ l.1 in
    let d = both_none (fault_of_length type len) (fault_of_number b.types) c.1 in
    record {
      small = ltb-false most_body len (rows_fine (long_rows len) l.0).0;
      ordered = (faultless_is_in_order o.version o.kind b.types type).0 c.0;
      allowed = not-false _ (rows_fine (length_rows type len) d.0).0;
      few = leb-false most_records (length b.types) (rows_fine ((nat_le most_records (length b.types), TooManyRecords) ∷ []) d.1).0;
    }

-- ---- the guest at END

is_complete : (kind : Kind) (g : GuestOf) → g.kind ≡ kind → fault_of_guest g ≡ None → IsComplete kind g
is_complete Hvm g is fine = hvm_complete g is fine
is_complete Pv g is fine = pv_complete g is fine

pub complete_faultless : (kind : Kind) (g : GuestOf) → g.kind ≡ kind → IsComplete kind g → fault_of_guest g ≡ None
complete_faultless Hvm g is complete = hvm_faultless g is complete.0 complete.1
complete_faultless Pv g is complete = pv_faultless g is complete

complete_at_end : (o : Opening) (records : List StreamRecord) (type : ℕ) → fault_at_end type (sent o.kind records) ≡ None → type ≡ 0 → IsComplete o.kind (sent o.kind records)
complete_at_end o records type fine is =
    let g = sent o.kind records in
    is_complete o.kind g (sent_kind o.kind records) (subst (λ t. fault_at_end t g ≡ None) is fine)

-- ---- a whole record

regroup : (i h m b c p d rest : List ℕ) → i ≡ h ++ m → m ≡ b ++ c → c ≡ p ++ d → d ≡ rest → i ≡ (h ++ (b ++ p)) ++ rest
regroup i h m b c p d rest e1 e2 e3 e4 = e1 ∙ ap (λ l. h ++ l) (e2 ∙ ap (λ l. b ++ l) (e3 ∙ ap (λ l. p ++ l) e4) ∙ sym (append_assoc b p rest)) ∙ sym (append_assoc h (b ++ p) rest)

found_same : (o : Opening) (records : List StreamRecord) (i rest : List ℕ) (r q : StreamRecord) → r ≡ q → Found (Follows o) records i r rest → Found (Follows o) records i q rest
found_same o records i rest r q is f = subst (λ (x : StreamRecord). Found (Follows o) records i x rest) is f

found : (o : Opening) (records : List StreamRecord) (i : List ℕ) (r : StreamRecord) (rest : List ℕ) → is_ended records ≡ false → next_at o records i ≡ Passes r rest → Found (Follows o) records i r rest
unfolding behind_record behind_head behind_body
found o records i r rest going h =
    let b = before o records in
    let n = both_pass (record_at b i) (behind_record o records) r rest (sym (asks o records i) ∙ h) in
    let w = both_pass (tried (fault_at_end n.x.type (sent o.kind (records ++ n.x ∷ []))) n.mid) (λ _. Passes n.x n.mid) r rest n.second in
    let whole = tried_passes _ n.mid w.mid w.x w.first in
    let same = same_passes _ _ _ _ w.second in
    let a = taken 8 (fault_of_head b) (λ head mid. behind_head b (head, mid)) i n.x n.mid (sym (head_stage b i) ∙ n.first) in
    let head = a.bytes in
    let type = le32 head 0 in
    let len = le32 head 4 in
    let fine = fields_fine b type len a.fine in
    let c = both_pass (body_at o.kind b.top type len a.mid) (behind_body b head) n.x n.mid a.after in
    let content = placed_content (is_verified (types_of records)) c.x in
    let d = both_pass (part Truncated (padding_len len) c.mid) (λ padding. Passes (record { type = type; content = content }) padding.1) n.x n.mid c.second in
    let q = part_passes Truncated _ c.mid d.x d.mid d.first in
    let f = same_passes _ _ _ _ d.second in
    let s = body_says o.version o.kind b.top b.types type len a.mid c.x c.mid fine.ordered fine.allowed c.first in
    let is_record : record { type = type; content = content } ≡ n.x = f.0 in
    found_same o records i rest (record { type = type; content = content }) r (is_record ∙ same.0) (record {
      text = head ++ (s.body ++ d.x);
      whole = regroup i head a.mid s.body c.mid d.x d.mid rest a.whole s.whole q.0 (f.1 ∙ same.1);
      some = omega (arith, length-append head (s.body ++ d.x), a.size);
      follows = record {
        body = s.body;
        is = record { head = head; padding = d.x; whole = refl {a = head ++ (s.body ++ d.x)}; head_len = a.size; type_is = refl {a = type}; len_is = sym s.body_len; padded = q.1 ∙ ap padding_len (sym s.body_len) };
        said = c.x;
        says = s.says;
        placed = refl {a = content};
        small = subst (λ n. n ≤ most_body) (sym s.body_len) fine.small;
        ordered = fine.ordered;
        few = subst (λ n. n < most_records) (length-map records (λ (x : StreamRecord). x.type)) fine.few;
        not_ended = going;
        complete = complete_at_end o (records ++ record { type = type; content = content } ∷ []) type
            (subst (λ (x : StreamRecord). fault_at_end x.type (sent o.kind (records ++ x ∷ [])) ≡ None) (sym is_record) whole.0);
      };
    })

-- ---- a whole front

module _ (o : Opening) where
  pub finds : (records : List StreamRecord) (i : List ℕ) (r : StreamRecord) (rest : List ℕ) → is_ended records ≡ false → placed_next o records i ≡ Passes r rest → Found (Follows o) records i r rest
  finds records i r rest going h = found o records i r rest going (placed_passes (Record (length records)) (next_at o records i) r rest h)

  -- what stands behind the headers of an accepted image is spelled as the format says
  accepted_spelled : (i : List ℕ) (p : Opening) (records : List StreamRecord) (rest : List ℕ) → records_at o i ≡ Passes (image_of p records) rest
      → (o ≡ p) × (bytes : List ℕ) × (i ≡ bytes ++ rest) × Spells (Follows o) bytes records × (is_ended records ≡ true)
  accepted_spelled i p records rest h =
      let b = both_pass (sequence_at is_ended (placed_next o) i) (λ rs. Passes (image_of o rs.0) rs.1) (image_of p records) rest h in
      let e = same_passes _ _ _ _ b.second in
      let same : b.x ≡ records = ap (λ (im : ImageOf). im.records) e.0 in
      let (bytes, whole, spelled, ended) = fronts.accepted_spelled is_ended (placed_next o) (Follows o) finds i b.x b.mid b.first in
      (ap (λ (im : ImageOf). im.opening) e.0, bytes, whole ∙ ap (λ l. bytes ++ l) e.1, subst (Spells (Follows o) bytes) same spelled, ap is_ended (sym same) ∙ ended)

-- ---- the headers

reads_as : {H : Type 0} (f : Option Cause) (h x : H) → f ≡ None → h ≡ x → unless_faulty f h ≡ Ok x
reads_as f h x fine is = rw (fine, is) refl

pub image_header : (first rest : List ℕ) (version : ℕ) → length first ≡ 8 → length rest ≡ 16 → fault_of_marker first ≡ None → fault_of_image rest ≡ None → be32 rest 4 ≡ version → IsImageHeader (first ++ rest) version
image_header first rest version size more marker fine is =
    (image_is_spelled first rest version size more).0 (marker, reads_as (fault_of_image rest) (record { version = be32 rest 4 }) (record { version = version }) fine (ap (λ v. record { version = v }) is))

pub domain_header : (bytes : List ℕ) (kind : Kind) → length bytes ≡ 16 → fault_of_domain bytes ≡ None → kind_of_number (le32 bytes 0) ≡ kind → IsDomainHeader bytes kind (le32 bytes 8) (le32 bytes 12)
domain_header bytes kind size fine is =
    (domain_is_spelled bytes kind (le32 bytes 8) (le32 bytes 12) size).0
    (reads_as (fault_of_domain bytes) (record { kind = kind_of_number (le32 bytes 0); major = le32 bytes 8; minor = le32 bytes 12 }) (record { kind = kind; major = le32 bytes 8; minor = le32 bytes 12 }) fine
    (ap (λ k. record { kind = k; major = le32 bytes 8; minor = le32 bytes 12 }) is))

abbrev pub behind_kind : ℕ → Kind × List ℕ → Judged (Place × Cause) Opening
behind_kind version kind = Passes (opening_of version kind.0) kind.1

abbrev pub behind_version : ℕ × List ℕ → Judged (Place × Cause) Opening
behind_version version = placed DomainHeader (kind_at version.1) >>= behind_kind version.0

abbrev pub behind_marker : List ℕ × List ℕ → Judged (Place × Cause) Opening
behind_marker marker = placed ImageHeader (version_at marker.1) >>= behind_version

-- the headers of an input, and what follows them
pub record Opened (input : List ℕ) (o : Opening) (rest : List ℕ) : Type 0 where
  pub image_header : List ℕ
  pub domain_header : List ℕ
  pub major : ℕ
  pub minor : ℕ
  pub whole : input ≡ image_header ++ (domain_header ++ rest)
  pub is_image_header : IsImageHeader image_header o.version
  pub is_domain_header : IsDomainHeader domain_header o.kind major minor

pub opened : (input : List ℕ) (o : Opening) (rest : List ℕ) → opening_at input ≡ Passes o rest → Opened input o rest
unfolding opening_at
opened input o rest h =
    let a = both_pass (placed ImageHeader (marker_at input)) behind_marker o rest h in
    let b = both_pass (placed ImageHeader (version_at a.mid)) behind_version o rest a.second in
    let c = both_pass (placed DomainHeader (kind_at b.mid)) (behind_kind b.x) o rest b.second in
    let e = same_passes _ _ _ _ c.second in
    let m = said_passes Truncated fault_of_marker (λ l. l) 8 input a.x a.mid (placed_passes ImageHeader (marker_at input) a.x a.mid a.first) in
    let g = said_passes Truncated fault_of_image (λ l. be32 l 4) 16 a.mid b.x b.mid (placed_passes ImageHeader (version_at a.mid) b.x b.mid b.first) in
    let d = said_passes Truncated fault_of_domain (λ l. kind_of_number (le32 l 0)) 16 b.mid c.x c.mid (placed_passes DomainHeader (kind_at b.mid) c.x c.mid c.first) in
    let found : Opened input (opening_of b.x c.x) rest = record {
      image_header = m.bytes ++ g.bytes;
      domain_header = d.bytes;
      major = le32 d.bytes 8;
      minor = le32 d.bytes 12;
      whole = m.whole ∙ ap (λ l. m.bytes ++ l) (g.whole ∙ ap (λ l. g.bytes ++ l) (d.whole ∙ ap (λ l. d.bytes ++ l) e.1)) ∙ sym (append_assoc m.bytes g.bytes (d.bytes ++ rest));
      is_image_header = image_header m.bytes g.bytes b.x m.size g.size m.fine g.fine g.value;
      is_domain_header = domain_header d.bytes c.x d.size d.fine d.value;
    } in
    subst (λ (p : Opening). Opened input p rest) e.0 found

pub accepted_is_image : (input : List ℕ) (o : Opening) (records : List StreamRecord) (rest : List ℕ) → image_at input ≡ Passes (image_of o records) rest → IsImage input o records rest
unfolding image_at
accepted_is_image input o records rest h =
    let n = both_pass (opening_at input) (λ opening. records_at opening.0 opening.1) (image_of o records) rest h in
    let w = opened input n.x n.mid n.first in
    let (same, bytes, whole, spelled, ended) = accepted_spelled n.x n.mid o records rest n.second in
    let image : IsImage input n.x records rest = record {
      image_header = w.image_header;
      domain_header = w.domain_header;
      major = w.major;
      minor = w.minor;
      bytes = bytes;
      whole = w.whole ∙ ap (λ l. w.image_header ++ (w.domain_header ++ l)) whole;
      is_image_header = w.is_image_header;
      is_domain_header = w.is_domain_header;
      spelled = spelled;
      ended = ended;
    } in
    subst (λ (p : Opening). IsImage input p records rest) same image
