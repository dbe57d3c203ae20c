-- Records: those that pass are those that are spelled.
use Rattle.mig_libxl_form.proofs.Common.{◌≡◌, ℕ, ◌≤◌, ◌<◌, Bool, true, false, cond, List, [], ◌++◌, length, nat_eq, Option, Some, None, is_some, is_none, refl, sym, ap, subst, ◌∙◌, arith, append_assoc, length-append, ◌&&◌, ◌||◌, eqb-true, lt-leb, common_steps, Judged, ◌>>=◌, placed, Passes, said_goes, said_passes, Cause, Truncated, Place, Kind, Pv, Hvm, IsImage, ImageOf, LibxlRecord, LibxlContent, is_libxl_ended, image_among, Image, body_of_type, HasLibxlContent, EmulatorsFit, FollowsLibxl, nil_from_length, leb-false, both_pass, placed_passes, same_passes, then_passes, both_none, neither_some, no_fault, rows_fine, image_at, accepted_is_image, has_emulator, emulators_of, IsLibxlRecord, most_body, most_records, padding_len, part, append-nil, part_passes, part_whole, Found, IsLibxlComplete}
use Rattle.mig_records.specs.Records.{IsRecord}
use Rattle.mig_libxl_form.specs.Judging.{libxl_head_at, libxl_content_at, is_pv, order_rows, fault_of_libxl_fields, fault_of_order, fault_of_libxl_head, inner_at, libxl_record_at}
use Rattle.mig_bytes.specs.Fields.{le32}
use Rattle.mig_headers.specs.declared.fault.Place.TheVariants.{LibxlRecord as AtRecord}
use Rattle.mig_restore_form.proofs.Converse.{image_is_accepted}
use Rattle.mig_libxl_form.specs.Spelled.IsLibxlRecord.{image as an_image, body as a_body}
use Rattle.mig_libxl_form.proofs.Bodies.{FineFields, fields_fine, fine_fields, body_says, body_goes, length_fits, has_no_image}
use Rattle.mig_pvtables.proofs.Searches.{none_of}
use Rattle.std.proofs.Common.{rules}

-- ---- the head

record FineOrder (records : List LibxlRecord) (type : ℕ) : Type 0 where
  few : length records < most_records
  one_image : type ≡ 1 → image_among records ≡ None
  complete : type ≡ 0 → IsLibxlComplete records

complete_is : (records : List LibxlRecord) (o : Option ImageOf) → image_among records ≡ o → is_none o ≡ false → (is_pv o && has_emulator records) ≡ false → IsLibxlComplete records
complete_is records None is h p = let no : true ≡ false = h in cc
complete_is records (Some image) is h p = record { image = image; there = is; emulators = alone image.opening.kind refl p }
  where
    alone : (k : Kind) → image.opening.kind ≡ k → (is_pv (Some image) && has_emulator records) ≡ false → image.opening.kind ≡ Pv → has_emulator records ≡ false
    alone k is h pv = grind (arith, common_steps, h, pv)

order_fine : (records : List LibxlRecord) (type : ℕ) → fault_of_order records type ≡ None → FineOrder records type
unfolding fault_of_order
order_fine records type fine =
    let rows = rows_fine (order_rows records type) fine in
    record {
      few = leb-false most_records (length records) rows.0;
      one_image = λ one. none_of (image_among records) (grind (arith, common_steps, rows.1.1.0, one));
      complete = λ zero. complete_is records (image_among records) refl (grind (arith, common_steps, rows.1.1.0, zero)) (grind (arith, common_steps, rows.1.0, zero));
    }

head_stage : (records : List LibxlRecord) (i head mid : List ℕ) → libxl_head_at records i ≡ Passes head mid → (i ≡ head ++ mid) × (length head ≡ 8) × (fault_of_libxl_head records (le32 head 0) (le32 head 4) ≡ None)
head_stage records i head mid h =
    let p = said_passes Truncated (λ l. fault_of_libxl_head records (le32 l 0) (le32 l 4)) (λ l. l) 8 i head mid h in
    (p.whole ∙ ap (λ l. l ++ mid) p.value, ap length (sym p.value) ∙ p.size, ap (λ l. fault_of_libxl_head records (le32 l 0) (le32 l 4)) (sym p.value) ∙ p.fine)

-- ---- a record that passes

found_same : (records : List LibxlRecord) (i rest : List ℕ) (r q : LibxlRecord) → r ≡ q → Found FollowsLibxl records i r rest → Found FollowsLibxl records i q rest
found_same records i rest r q is f = subst (λ (x : LibxlRecord). Found FollowsLibxl records i x rest) is f

-- an image in another input
image_moved : {input other rest more : List ℕ} {im : ImageOf} (is : IsImage input im.opening im.records rest) → other ≡ is.image_header ++ (is.domain_header ++ (is.bytes ++ more)) → IsImage other im.opening im.records more
image_moved is whole = search rules

-- the front that an image takes
image_alone : (input : List ℕ) (im : ImageOf) (rest : List ℕ) → IsImage input im.opening im.records rest → (text : List ℕ) × (input ≡ text ++ rest) × IsImage text im.opening im.records []
image_alone input im rest is = (
  is.image_header ++ (is.domain_header ++ is.bytes),
  is.whole ∙ ap (λ l. is.image_header ++ l) (sym (append_assoc is.domain_header is.bytes rest)) ∙ sym (append_assoc is.image_header (is.domain_header ++ is.bytes) rest),
  image_moved is (ap (λ l. is.image_header ++ (is.domain_header ++ l)) (sym (append-nil is.bytes))),
)

image_before : (text rest : List ℕ) (im : ImageOf) → IsImage text im.opening im.records [] → IsImage (text ++ rest) im.opening im.records rest
image_before text rest im is =
    image_moved is (ap (λ l. l ++ rest) (is.whole ∙ ap (λ l. is.image_header ++ (is.domain_header ++ l)) (append-nil is.bytes)) ∙ append_assoc is.image_header (is.domain_header ++ is.bytes) rest ∙ ap (λ l. is.image_header ++ l) (append_assoc is.domain_header is.bytes rest))

module _ (records : List LibxlRecord) where
  -- a record of type 1, and the image behind it
  image_found : (head mid : List ℕ) (c : LibxlContent) (after padding rest : List ℕ) → length head ≡ 8 → le32 head 0 ≡ 1 → FineFields (le32 head 0) (le32 head 4) → FineOrder records (le32 head 0) → is_libxl_ended records ≡ false
      → inner_at mid ≡ Passes c after → after ≡ padding ++ rest → length padding ≡ padding_len (le32 head 4)
      → Found FollowsLibxl records (head ++ mid) (record { type = le32 head 0; content = c }) rest
  image_found head mid c after padding rest size one f o going h behind padded =
      let n = both_pass (image_at mid) (λ image. Passes (Image image.0) image.1) c after h in
      let e = same_passes _ _ _ _ n.second in
      let im = n.x in
      let a = image_alone mid im n.mid (accepted_is_image mid im.opening im.records n.mid n.first) in
      let none : le32 head 4 ≡ 0 = eqb-true (le32 head 4) 0 (grind (arith, common_steps, f.allowed, one)) in
      let no_padding : padding ≡ [] = nil_from_length padding (padded ∙ ap padding_len none) in
      let rest_is : n.mid ≡ rest = e.1 ∙ behind ∙ ap (λ l. l ++ rest) no_padding in
      let is : IsLibxlRecord (record { type = 1; content = Image im }) (head ++ a.0) =
      an_image head a.0 im (record { head = head; padding = []; whole = sym (append-nil head); head_len = size; type_is = one; len_is = none; padded = refl }) a.2 in
      let found : Found FollowsLibxl records (head ++ mid) (record { type = 1; content = Image im }) rest = record {
        text = head ++ a.0;
        whole = ap (λ l. head ++ l) (a.1 ∙ ap (λ l. a.0 ++ l) rest_is) ∙ sym (append_assoc head a.0 rest);
        some = omega (arith, size, length-append head a.0);
        follows = record { is = is; fits = tt; few = o.few; not_ended = going; one_image = λ _. o.one_image one; complete = λ (zero : 1 ≡ 0). absurd (omega (arith, zero)) };
      } in
      subst (λ t. Found FollowsLibxl records (head ++ mid) (record { type = t; content = c }) rest) (sym one)
      (found_same records (head ++ mid) rest (record { type = 1; content = Image im }) (record { type = 1; content = c }) (ap (λ x. record { type = 1; content = x }) e.0) found)

  -- a record with a body
  body_found : (head mid : List ℕ) (c : LibxlContent) (after padding rest : List ℕ) → length head ≡ 8 → nat_eq (le32 head 0) 1 ≡ false → FineFields (le32 head 0) (le32 head 4) → FineOrder records (le32 head 0) → is_libxl_ended records ≡ false
      → body_of_type (emulators_of records) (le32 head 0) (le32 head 4) mid ≡ Passes c after → after ≡ padding ++ rest → length padding ≡ padding_len (le32 head 4)
      → Found FollowsLibxl records (head ++ mid) (record { type = le32 head 0; content = c }) rest
  body_found head mid c after padding rest size one f o going h behind padded =
      let s = body_says records (le32 head 0) (le32 head 4) mid c after f one h in
      let text = head ++ (s.body ++ padding) in
      record {
        text = text;
        whole = ap (λ l. head ++ l) (s.whole ∙ ap (λ l. s.body ++ l) behind ∙ sym (append_assoc s.body padding rest)) ∙ sym (append_assoc head (s.body ++ padding) rest);
        some = omega (arith, size, length-append head (s.body ++ padding));
        follows = record {
          is = a_body (le32 head 0) s.body text c (record { head = head; padding = padding; whole = refl; head_len = size; type_is = refl; len_is = sym s.body_len; padded = padded ∙ ap padding_len (sym s.body_len) }) (subst (λ n. n ≤ most_body) (sym s.body_len) f.small) s.says;
          fits = s.fits;
          few = o.few;
          not_ended = going;
          one_image = o.one_image;
          complete = o.complete;
        };
      }

  by_type : (head mid : List ℕ) (c : LibxlContent) (after padding rest : List ℕ) (b : Bool) → nat_eq (le32 head 0) 1 ≡ b → length head ≡ 8 → FineFields (le32 head 0) (le32 head 4) → FineOrder records (le32 head 0) → is_libxl_ended records ≡ false
      → cond b (inner_at mid) (placed (AtRecord (length records)) (body_of_type (emulators_of records) (le32 head 0) (le32 head 4) mid)) ≡ Passes c after → after ≡ padding ++ rest → length padding ≡ padding_len (le32 head 4)
      → Found FollowsLibxl records (head ++ mid) (record { type = le32 head 0; content = c }) rest
  by_type head mid c after padding rest true one size f o going h behind padded = image_found head mid c after padding rest size (eqb-true (le32 head 0) 1 one) f o going h behind padded
  by_type head mid c after padding rest false one size f o going h behind padded =
      body_found head mid c after padding rest size one f o going (placed_passes (AtRecord (length records)) (body_of_type (emulators_of records) (le32 head 0) (le32 head 4) mid) c after h) behind padded

  abbrev pub behind_content : List ℕ → LibxlContent × List ℕ → Judged (Place × Cause) LibxlRecord
  behind_content head content = placed (AtRecord (length records)) (part Truncated (padding_len (le32 head 4)) content.1) >>= λ padding. Passes (record { type = le32 head 0; content = content.0 }) padding.1

  abbrev pub behind_head : List ℕ × List ℕ → Judged (Place × Cause) LibxlRecord
  behind_head head = libxl_content_at records (le32 head.0 0) (le32 head.0 4) head.1 >>= behind_content head.0

  pub found : (i : List ℕ) (r : LibxlRecord) (rest : List ℕ) → is_libxl_ended records ≡ false → libxl_record_at records i ≡ Passes r rest → Found FollowsLibxl records i r rest
  unfolding libxl_record_at
  found i r rest going h =
      let a = both_pass (placed (AtRecord (length records)) (libxl_head_at records i)) behind_head r rest h in
      let head = a.x in
      let s = head_stage records i head a.mid (placed_passes (AtRecord (length records)) (libxl_head_at records i) head a.mid a.first) in
      let fine = both_none (fault_of_libxl_fields (le32 head 0) (le32 head 4)) (fault_of_order records (le32 head 0)) s.2 in
      let b = both_pass (libxl_content_at records (le32 head 0) (le32 head 4) a.mid) (behind_content head) r rest a.second in
      let d = both_pass (placed (AtRecord (length records)) (part Truncated (padding_len (le32 head 4)) b.mid)) (λ padding. Passes (record { type = le32 head 0; content = b.x }) padding.1) r rest b.second in
      let q = part_passes Truncated _ b.mid d.x d.mid (placed_passes (AtRecord (length records)) (part Truncated (padding_len (le32 head 4)) b.mid) d.x d.mid d.first) in
      let e = same_passes _ _ _ _ d.second in
      let found : Found FollowsLibxl records (head ++ a.mid) (record { type = le32 head 0; content = b.x }) rest =
      by_type head a.mid b.x b.mid d.x rest (nat_eq (le32 head 0) 1) refl s.1 (fields_fine (le32 head 0) (le32 head 4) fine.0) (order_fine records (le32 head 0) fine.1) going b.first (q.0 ∙ ap (λ l. d.x ++ l) e.1) q.1 in
      found_same records i rest (record { type = le32 head 0; content = b.x }) r e.0 (subst (λ l. Found FollowsLibxl records l (record { type = le32 head 0; content = b.x }) rest) (sym s.0) found)

-- ---- what is spelled passes

not_pv : (records : List LibxlRecord) (k : Kind) → (k ≡ Pv → has_emulator records ≡ false) → (image : ImageOf) → image.opening.kind ≡ k → (is_pv (Some image) && has_emulator records) ≡ false
not_pv records Pv alone image is = let none = alone refl in grind (arith, common_steps, is, none)
not_pv records Hvm alone image is = grind (arith, common_steps, is)

fine_order : (records : List LibxlRecord) (type : ℕ) → FineOrder records type → fault_of_order records type ≡ None
unfolding fault_of_order
fine_order records type o =
    no_fault (order_rows records type) (lt-leb most_records (length records) o.few, (stands (nat_eq type 0) refl, (counted (nat_eq type 1) (nat_eq type 0) refl refl, tt)))
  where
    stands : (b : Bool) → nat_eq type 0 ≡ b → (b && (is_pv (image_among records) && has_emulator records)) ≡ false
    stands false zero = refl
    stands true zero =
        let c = o.complete (eqb-true type 0 zero) in
        ap (λ i. is_pv i && has_emulator records) c.there ∙ not_pv records c.image.opening.kind (λ is. c.emulators is) c.image refl

    counted : (b d : Bool) → nat_eq type 1 ≡ b → nat_eq type 0 ≡ d → ((b && is_some (image_among records)) || (d && is_none (image_among records))) ≡ false
    counted true d one zero =
        let none = o.one_image (eqb-true type 1 one) in
        let is : type ≡ 1 = eqb-true type 1 one in
        let not_zero : d ≡ false = sym zero ∙ ap (λ t. nat_eq t 0) is in
        rw (none, not_zero) refl
    counted false true one zero = let c = o.complete (eqb-true type 0 zero) in rw c.there refl
    counted false false one zero = refl

head_goes : (records : List LibxlRecord) (head mid : List ℕ) → length head ≡ 8 → FineFields (le32 head 0) (le32 head 4) → FineOrder records (le32 head 0) → libxl_head_at records (head ++ mid) ≡ Passes head mid
head_goes records head mid size f o =
    said_goes Truncated (λ l. fault_of_libxl_head records (le32 l 0) (le32 l 4)) (λ l. l) 8 head mid size
    (neither_some (fault_of_libxl_fields (le32 head 0) (le32 head 4)) (fault_of_order records (le32 head 0)) (fine_fields (le32 head 0) (le32 head 4) f) (fine_order records (le32 head 0) o))

module _ (records : List LibxlRecord) where
  abbrev place : Place
  place = AtRecord (length records)

  -- behind its head, the content of a record and its padding
  goes_behind : (head mid : List ℕ) (c : LibxlContent) (padding rest : List ℕ) → length head ≡ 8 → FineFields (le32 head 0) (le32 head 4) → FineOrder records (le32 head 0)
      → libxl_content_at records (le32 head 0) (le32 head 4) mid ≡ Passes c (padding ++ rest) → length padding ≡ padding_len (le32 head 4)
      → libxl_record_at records (head ++ mid) ≡ Passes (record { type = le32 head 0; content = c }) rest
  unfolding libxl_record_at
  goes_behind head mid c padding rest size f o says padded =
      then_passes (placed place (libxl_head_at records (head ++ mid))) (behind_head records) head mid _ (ap (placed place) (head_goes records head mid size f o))
      (then_passes (libxl_content_at records (le32 head 0) (le32 head 4) mid) (behind_content records head) c (padding ++ rest) _ says
      (then_passes (placed place (part Truncated (padding_len (le32 head 4)) (padding ++ rest))) _ padding rest _ (ap (placed place) (part_whole Truncated _ padding rest padded)) refl))

  image_goes : (head text rest : List ℕ) (im : ImageOf) → IsRecord 1 [] head → IsImage text im.opening im.records [] → FineOrder records 1 → libxl_record_at records ((head ++ text) ++ rest) ≡ Passes (record { type = 1; content = Image im }) rest
  image_goes head text rest im is spelled o =
      let none : le32 is.head 4 ≡ 0 = is.len_is in
      let no_padding : is.padding ≡ [] = nil_from_length is.padding is.padded in
      let whole : head ≡ is.head = is.whole ∙ ap (λ l. is.head ++ l) no_padding ∙ append-nil is.head in
      let inner : libxl_content_at records 1 (le32 is.head 4) (text ++ rest) ≡ Passes (Image im) rest =
      then_passes (image_at (text ++ rest)) (λ image. Passes (Image image.0) image.1) im rest _ (image_is_accepted (text ++ rest) im.opening im.records rest (image_before text rest im spelled)) refl in
      let says : libxl_content_at records (le32 is.head 0) (le32 is.head 4) (text ++ rest) ≡ Passes (Image im) rest = rw is.type_is inner in
      let fields : FineFields (le32 is.head 0) (le32 is.head 4) = rw (is.type_is, none) (record { small = omega arith; supported = refl; known = refl; allowed = refl }) in
      let order : FineOrder records (le32 is.head 0) = rw is.type_is o in
      ap (libxl_record_at records) (append_assoc head text rest ∙ ap (λ l. l ++ (text ++ rest)) whole)
      ∙ goes_behind is.head (text ++ rest) (Image im) [] rest is.head_len fields order says (ap padding_len (sym none))
      ∙ ap (λ t. Passes (record { type = t; content = Image im }) rest) is.type_is

  body_record_goes : (type : ℕ) (body text rest : List ℕ) (c : LibxlContent) → IsRecord type body text → length body ≤ most_body → HasLibxlContent type body c → EmulatorsFit records c → FineOrder records type → nat_eq type 1 ≡ false
      → libxl_record_at records (text ++ rest) ≡ Passes (record { type = type; content = c }) rest
  body_record_goes type body text rest c is small says fits o one =
      let mid = body ++ (is.padding ++ rest) in
      let fields : FineFields (le32 is.head 0) (le32 is.head 4) = rw (is.type_is, is.len_is) (length_fits type body c says small one) in
      let order : FineOrder records (le32 is.head 0) = rw is.type_is o in
      let inner : libxl_content_at records type (length body) mid ≡ Passes c (is.padding ++ rest) = rw one (ap (placed place) (body_goes records type body c (is.padding ++ rest) says fits one)) in
      let content : libxl_content_at records (le32 is.head 0) (le32 is.head 4) mid ≡ Passes c (is.padding ++ rest) = rw (is.type_is, is.len_is) inner in
      ap (libxl_record_at records) (ap (λ l. l ++ rest) is.whole ∙ append_assoc is.head _ rest ∙ ap (λ l. is.head ++ l) (append_assoc body is.padding rest))
      ∙ goes_behind is.head mid c is.padding rest is.head_len fields order content (is.padded ∙ ap padding_len (sym is.len_is))
      ∙ ap (λ t. Passes (record { type = t; content = c }) rest) is.type_is

  goes_as : (r : LibxlRecord) (text rest : List ℕ) → IsLibxlRecord r text → EmulatorsFit records r.content → FineOrder records r.type → libxl_record_at records (text ++ rest) ≡ Passes r rest
  goes_as _ _ rest (an_image head text im is spelled) fits o = image_goes head text rest im is spelled o
  goes_as _ text rest (a_body type body _ c is small says) fits o = body_record_goes type body text rest c is small says fits o (has_no_image type body c says)

  pub record_goes : (r : LibxlRecord) (text rest : List ℕ) → FollowsLibxl records r text → libxl_record_at records (text ++ rest) ≡ Passes r rest
  record_goes r text rest f = goes_as r text rest f.is f.fits (record { few = f.few; one_image = f.one_image; complete = f.complete })

pub not_ended : (records : List LibxlRecord) (r : LibxlRecord) (text : List ℕ) → FollowsLibxl records r text → is_libxl_ended records ≡ false
not_ended records r text f = f.not_ended
