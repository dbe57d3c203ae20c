-- A record behind its head and behind its content, and what the reader has seen once it was read.
use Rattle.mig_libxl.proofs.Common.{◌≡◌, ℕ, ◌+◌, false, List, [], ◌∷◌, ◌++◌, length, nat_eq, Option, Some, None, refl, sym, ap, subst, ◌∙◌, arith, length-append, ◌||◌, padding_len, ◌>>=◌, part, placed, Passes, Truncated, ImageOf, LibxlRecord, LibxlContent, image_in, image_among, EmulatorsOf, put_libxl_content, libxl_head_at, body_of_type, libxl_content_at, Holds, IsLibxlSeen, WrapperSeen, le32, emulators_of, TakesLibxl, emulators_more, among_more, behind_content, behind_head, emulator_more, among_first}
use Rattle.mig_headers.specs.declared.fault.Place.TheVariants.{LibxlRecord as AtRecord}
use Rattle.mig_records.specs.declared.head.RecordHead.{RecordHead}
use Rattle.mig_records.specs.Heads.{head_in}
use Rattle.mig_libxl_form.specs.Judging.{libxl_record_at}

-- a body has its record's place
pub body_is : (records : List LibxlRecord) (e : EmulatorsOf) (n type len : ℕ) → e ≡ emulators_of records → n ≡ length records → nat_eq type 1 ≡ false → (i : List ℕ) → libxl_content_at records type len i ≡ placed (AtRecord n) (body_of_type e type len i)
body_is records e n type len same at other i = rw (other, same, at) refl

module _ (records : List LibxlRecord) where
  pub begins : (i : List ℕ) → libxl_record_at records i ≡ (placed (AtRecord (length records)) (libxl_head_at records i) >>= behind_head records)
  unfolding libxl_record_at
  begins i = refl

  pub goes_behind : (head : List ℕ) (h : RecordHead) → h ≡ head_in head → (i : List ℕ) → behind_head records (head, i) ≡ (libxl_content_at records h.kind h.len i >>= behind_content records head)
  goes_behind head h is i =
      let type_is : h.kind ≡ le32 head 0 = ap (λ (x : RecordHead). x.kind) is in
      let len_is : h.len ≡ le32 head 4 = ap (λ (x : RecordHead). x.len) is in
      rw (type_is, len_is) refl

  pub padded : (head : List ℕ) (h : RecordHead) (c : LibxlContent) → h ≡ head_in head → (i : List ℕ) → behind_content records head (c, i) ≡ (placed (AtRecord (length records)) (part Truncated (padding_len h.len) i) >>= λ padding. Passes (record { type = h.kind; content = c }) padding.1)
  padded head h c is i = rw (ap (λ (x : RecordHead). x.kind) is, ap (λ (x : RecordHead). x.len) is) refl

-- ---- one record more was seen

-- where there was no image, none was among the records
not_held : {I : Type 0} (is_of : I → ImageOf → Type 0) (o : Option I) (found : Option ImageOf) → o ≡ None → Holds is_of o found → found ≡ None
not_held is_of None None is h = refl
not_held is_of None (Some image) is h = absurd h
not_held {I = I} is_of (Some kept) found is h = let no : ◌≡◌ {A = Option I} (Some kept) None = is in cc

kept_image : (records : List LibxlRecord) (r : LibxlRecord) (found : Option ImageOf) → image_among records ≡ found → image_in r.content ≡ None → image_among (records ++ r ∷ []) ≡ image_among records
kept_image records r None is none = among_first records r is ∙ none ∙ sym is
kept_image records r (Some image) is none = among_more records (r ∷ []) image is ∙ sym is

module _ {I : Type 0} (is_of : I → ImageOf → Type 0) (old mid : WrapperSeen I) (records : List LibxlRecord) (type : ℕ) (c : LibxlContent) (seen : IsLibxlSeen is_of old records) (takes : TakesLibxl is_of old mid type c) where
  abbrev r : LibxlRecord
  r = record { type = type; content = c }

  image_seen : (found : Option ImageOf) → image_in c ≡ found → Holds is_of mid.image (image_among (records ++ r ∷ []))
  image_seen None is =
      subst (λ (o : Option I). Holds is_of o (image_among (records ++ r ∷ []))) (sym (takes.others is))
      (subst (Holds is_of old.image) (sym (kept_image records r (image_among records) refl is)) seen.image)
  image_seen (Some image) is =
      let none : image_among records ≡ None = not_held is_of old.image (image_among records) (takes.first image is) seen.image in
      subst (Holds is_of mid.image) (sym (among_first records r none ∙ is)) (takes.image image is)

  pub seen_more : IsLibxlSeen is_of (record { emulators = mid.emulators; image = mid.image; emulated = mid.emulated; records = mid.records + 1 }) (records ++ record { type = type; content = c } ∷ [])
  seen_more = record {
    count = omega (arith, seen.count, takes.records, length-append records (r ∷ []));
    emulators = takes.emulators ∙ ap (λ e. put_libxl_content e c) seen.emulators ∙ sym (emulators_more records r);
    emulated = takes.emulated ∙ ap (λ b. b || (nat_eq type 2 || nat_eq type 3)) seen.emulated ∙ sym (emulator_more records r);
    image = image_seen (image_in c) refl;
  }
