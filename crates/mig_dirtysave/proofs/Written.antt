-- What was written of a stream and isn't ended.
use Rattle.mig_dirtysave.proofs.Common.{◌≡◌, ℕ, ◌<◌, List, [], ◌∷◌, ◌++◌, length, take, drop, take-append-drop, Option, Some, None, refl, sym, ap, subst, ◌∙◌, arith, append_assoc, length-append, length-take, Appends, Appends-trans, AppendsPart, padding_len, Kind, marker, IsRecord, Record, text_of, headers, AreRecordsWithin, WroteAll, WroteSome, opening_text, AreRecords, HaveNoEnd, IsUnendedImage, IsUnclosedImage, IsUnended, HasNoStream, WroteNoStream, replicate, length-replicate, append_cancel_left, IsShortRecord, none_of_next, AreCutOff, EndedImage}
use Rattle.std.specs.Prelude.{◌⊎◌, Bool}
use mathlib.Core.Logic.{inl, inr}
use Rattle.mig_bytes.specs.Fields.{be64}
use Rattle.mig_headers.specs.Headers.{image_header_of, domain_header_of, libxl_header_of}
use Rattle.mig_headers.proofs.LibxlHeaders.{libxl_is_read_back}
use Rattle.mig_records.specs.Records.{head_of, spelled}
use Rattle.mig_records.proofs.HeadBytes.{type_in_head, len_in_head}
use Rattle.mig_dirtysave.proofs.Images.{first_number}
use Rattle.mig_dirtysave.proofs.Libxl.{unended_has_no_stream}

-- ---- canonical records are records

short_record : (r : Record) → IsShortRecord r → IsRecord r.0 r.1 (spelled r.0 r.1)
unfolding spelled head_of
short_record r s = record {
  head = head_of r.0 (length r.1);
  padding = replicate (padding_len (length r.1)) 0;
  whole = refl;
  head_len = refl;
  type_is = type_in_head r.0 (length r.1) s.type;
  len_is = len_in_head r.0 (length r.1) (omega (arith, s.len));
  padded = length-replicate (padding_len (length r.1)) 0;
}

text_are : (rs : List Record) → AreRecordsWithin rs → AreRecords rs (text_of rs)
text_are [] p = refl
text_are (r ∷ rs) p = (spelled r.0 r.1, text_of rs, refl, short_record r p.0.short, text_are rs p.1)

no_ends : (rs : List Record) → AreRecordsWithin rs → HaveNoEnd rs
no_ends [] p = tt
no_ends (r ∷ rs) p = (p.0.no_end, no_ends rs p.1)

-- records, and a part of one more
module _ (start now : Option (List ℕ)) (rs : List Record) (p : WroteSome start now rs) where
  abbrev pub some_text : List ℕ
  some_text = text_of rs ++ take p.n (spelled p.next.0 p.next.1)

  cut_off : AreCutOff some_text
  cut_off =
      let part : List ℕ = take p.n (spelled p.next.0 p.next.1) in
      record {
        records = rs;
        texts = text_of rs;
        part = part;
        whole = refl {a = text_of rs ++ part};
        are = text_are rs p.within;
        no_end = no_ends rs p.within;
        cut = record { type = p.next.0; body = p.next.1; text = spelled p.next.0 p.next.1; is = short_record p.next p.short; n = p.n; less = p.less; front = refl {a = part} };
      }

-- ---- headers

headers_len : (kind : Kind) → length (headers kind) ≡ 40
unfolding image_header_of domain_header_of
headers_len kind = refl

headers_marked : (kind : Kind) → be64 (headers kind) 0 ≡ marker
unfolding be64 image_header_of
headers_marked kind = refl

context_len : length (spelled 1 []) ≡ 8
unfolding spelled head_of
context_len = refl

opening_len : (legacy : Bool) → length (opening_text legacy) ≡ 24
opening_len legacy = length-append (libxl_header_of legacy) (spelled 1 []) ∙ omega (arith, (libxl_is_read_back legacy).spelled.size, context_len)

-- a part of them, and all of them with records that are cut off
headers_cut : (kind : Kind) (n : ℕ) → n < length (headers kind) → IsUnendedImage (take n (headers kind))
headers_cut kind n less = inl (omega (arith, less, headers_len kind, length-take n (headers kind)))

headers_then : (kind : Kind) (rest : List ℕ) → AreCutOff rest → IsUnendedImage (headers kind ++ rest)
headers_then kind rest cut = inr (record { headers = headers kind; rest = rest; whole = refl {a = headers kind ++ rest}; size = headers_len kind; cut_off = cut })

-- ---- a text that was appended

-- where a text was appended, it's the one that stands behind
appended_is : (start now : Option (List ℕ)) (text : List ℕ) → Appends start now text → IsUnended text → WroteNoStream start now
appended_is None now text a h = tt
appended_is (Some before) None text a h = tt
appended_is (Some before) (Some after) text a h = λ other is. subst HasNoStream (append_cancel_left before text other (sym a ∙ is)) (unended_has_no_stream text h)

-- ---- a bare image

bare_cut : (kind : Kind) (n : ℕ) → n < length (headers kind) → IsUnended (take n (headers kind))
bare_cut kind n less = inl (record {
  unended = headers_cut kind n less;
  marked = λ long. sym (first_number (take n (headers kind)) (drop n (headers kind)) long) ∙ ap (λ l. be64 l 0) (take-append-drop n (headers kind)) ∙ headers_marked kind;
})

bare_then : (kind : Kind) (rest : List ℕ) → AreCutOff rest → IsUnended (headers kind ++ rest)
bare_then kind rest cut = inl (record {
  unended = headers_then kind rest cut;
  marked = λ long. first_number (headers kind) rest (omega (arith, headers_len kind)) ∙ headers_marked kind;
})

pub bare_headers : (start now : Option (List ℕ)) (kind : Kind) → AppendsPart start now (headers kind) → WroteNoStream start now
bare_headers start now kind p = appended_is start now (take p.0 (headers kind)) p.2 (bare_cut kind p.0 p.1)

pub bare_some : (start opened now : Option (List ℕ)) (kind : Kind) (rs : List Record) → Appends start opened (headers kind) → WroteSome opened now rs → WroteNoStream start now
bare_some start opened now kind rs o p =
    appended_is start now (headers kind ++ some_text opened now rs p) (Appends-trans start opened now _ _ o p.appended) (bare_then kind (some_text opened now rs p) (cut_off opened now rs p))

pub bare_all : (start opened now : Option (List ℕ)) (kind : Kind) (rs : List Record) → Appends start opened (headers kind) → WroteAll opened now rs → WroteNoStream start now
bare_all start opened now kind rs o w = bare_some start opened now kind rs o (none_of_next opened now rs w)

-- ---- a libxl stream

pub wrapped_opening : (start now : Option (List ℕ)) (legacy : Bool) → AppendsPart start now (opening_text legacy) → WroteNoStream start now
wrapped_opening start now legacy p =
    appended_is start now (take p.0 (opening_text legacy)) p.2 (inr (inl (omega (arith, p.1, opening_len legacy, length-take p.0 (opening_text legacy)))))

-- it's open, and inside stands this
inside_it : (start wrapped now : Option (List ℕ)) (legacy : Bool) (inside : List ℕ) → Appends start wrapped (opening_text legacy) → Appends wrapped now inside → IsUnendedImage inside ⊎ IsUnclosedImage inside → WroteNoStream start now
inside_it start wrapped now legacy inside o a u =
    appended_is start now (opening_text legacy ++ inside) (Appends-trans start wrapped now _ _ o a)
    (inr (inr (record {
      header = libxl_header_of legacy;
      legacy = legacy;
      context = spelled 1 [];
      inside = inside;
      whole = append_assoc (libxl_header_of legacy) (spelled 1 []) inside;
      is_header = (libxl_is_read_back legacy).spelled;
      is_context = short_record (1, []) (record { type = omega arith; len = omega arith });
      unended = u;
    })))

pub wrapped_headers : (start wrapped now : Option (List ℕ)) (legacy : Bool) (kind : Kind) → Appends start wrapped (opening_text legacy) → AppendsPart wrapped now (headers kind) → WroteNoStream start now
wrapped_headers start wrapped now legacy kind o p = inside_it start wrapped now legacy (take p.0 (headers kind)) o p.2 (inl (headers_cut kind p.0 p.1))

pub wrapped_some : (start wrapped opened now : Option (List ℕ)) (legacy : Bool) (kind : Kind) (rs : List Record) → Appends start wrapped (opening_text legacy) → Appends wrapped opened (headers kind) → WroteSome opened now rs → WroteNoStream start now
wrapped_some start wrapped opened now legacy kind rs o h p =
    inside_it start wrapped now legacy (headers kind ++ some_text opened now rs p) o (Appends-trans wrapped opened now _ _ h p.appended)
    (inl (headers_then kind (some_text opened now rs p) (cut_off opened now rs p)))

pub wrapped_behind : (start wrapped closed now : Option (List ℕ)) (legacy : Bool) (rs : List Record) → Appends start wrapped (opening_text legacy) → EndedImage wrapped closed → WroteSome closed now rs → WroteNoStream start now
wrapped_behind start wrapped closed now legacy rs o i p =
    let texts : List ℕ = text_of i.records in
    let behind : List ℕ = some_text closed now rs p in
    let a = Appends-trans wrapped i.opened now _ _ i.heads (Appends-trans i.opened i.ended now _ _ i.wrote.appended (Appends-trans i.ended closed now _ _ i.last p.appended)) in
    inside_it start wrapped now legacy (headers i.kind ++ (texts ++ (spelled 0 [] ++ behind))) o a
    (inr (record {
      headers = headers i.kind;
      records = i.records;
      texts = texts;
      last = spelled 0 [];
      behind = behind;
      whole = refl {a = headers i.kind ++ (texts ++ (spelled 0 [] ++ behind))};
      size = headers_len i.kind;
      are = text_are i.records i.wrote.within;
      no_end = no_ends i.records i.wrote.within;
      is_end = short_record (0, []) (record { type = omega arith; len = omega arith });
      cut_off = cut_off closed now rs p;
    }))

pub wrapped_all : (start wrapped opened now : Option (List ℕ)) (legacy : Bool) (kind : Kind) (rs : List Record) → Appends start wrapped (opening_text legacy) → Appends wrapped opened (headers kind) → WroteAll opened now rs → WroteNoStream start now
wrapped_all start wrapped opened now legacy kind rs o h w = wrapped_some start wrapped opened now legacy kind rs o h (none_of_next opened now rs w)

pub wrapped_all_behind : (start wrapped closed now : Option (List ℕ)) (legacy : Bool) (rs : List Record) → Appends start wrapped (opening_text legacy) → EndedImage wrapped closed → WroteAll closed now rs → WroteNoStream start now
wrapped_all_behind start wrapped closed now legacy rs o i w = wrapped_behind start wrapped closed now legacy rs o i (none_of_next closed now rs w)
