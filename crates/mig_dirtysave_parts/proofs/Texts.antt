-- Parts of what a save writes: of the headers and records, of records, and of records before END.
use Rattle.mig_dirtysave_parts.proofs.Common.{◌≡◌, ◌++◌, refl, sym, ap, subst, ◌∙◌, append_assoc, inl, inr, flat_map, Appends, Kind, GuestOf, Record, text_of, info_records, static_bodies, p2m_records, records_of, records_in_order, context_record, closing_records, AreRecordsWithin, cases_lt, take-append-le, append_known, spelled, headers, text_before, StopsBehind, setting_codes, codes_alone, IsShortRecord, WroteSome, LeavesPart}
use Rattle.std.proofs.Common.{ℕ, ◌+◌, ◌-◌, ◌<◌, List, [], ◌∷◌, length, take, Option, Some, None, Result, Ok, Err, OnOk, OnErr, arith, append-nil, length-append, ◌⊎◌}
use Rattle.std.proofs.Math.Seq.{take-append-add}
use Rattle.std.proofs.KnownBytes.{Appends-trans}
use Rattle.mig_bytes.specs.declared.failure.WriteFailed.{WriteFailed}
use Rattle.mig_bytes.specs.Bytes.{AppendsPart, Puts}
use Rattle.mig_records.proofs.RecordTexts.{text_join, text_one}
use Rattle.mig_records_pages.proofs.Written.{all_behind, some_behind, none_of_next}

-- a text that is some whole records, none of them END, and a part of one more
record IsCut (text : List ℕ) : Type 0 where
  front : List Record
  next : Record
  short : IsShortRecord next
  n : ℕ
  less : n < length (spelled next.0 next.1)
  is : text ≡ text_of front ++ take n (spelled next.0 next.1)
  within : AreRecordsWithin front

-- n is below m, or m and some more
either : (n m : ℕ) → (n < m) ⊎ ((k : ℕ) × (n ≡ m + k))
either n m = elim (cases_lt n m) [ inl lt ↦ inl lt | inr le ↦ inr (n - m, omega (arith, le)) ]

-- a part of records is whole ones and a part of one more
cut_records : (rs : List Record) → AreRecordsWithin rs → (n : ℕ) → n < length (text_of rs) → IsCut (take n (text_of rs))
cut_records [] p n less = absurd (omega (arith, less))
cut_records (r ∷ rs) p n less = elim (either n (length (spelled r.0 r.1))) [
  | inl lt ↦ record { front = []; next = r; short = p.0.short; n = n; less = lt; is = take-append-le n (spelled r.0 r.1) (text_of rs) (omega (arith, lt)); within = tt }
  | inr (k, is) ↦
      let rest = cut_records rs p.1 k (omega (arith, less, is, length-append (spelled r.0 r.1) (text_of rs))) in
      record {
        front = r ∷ rest.front;
        next = rest.next;
        short = rest.short;
        n = rest.n;
        less = rest.less;
        is =
            ap (λ m. take m (spelled r.0 r.1 ++ text_of rs)) is ∙ take-append-add (spelled r.0 r.1) (text_of rs) k
            ∙ ap (λ l. spelled r.0 r.1 ++ l) rest.is ∙ sym (append_assoc (spelled r.0 r.1) (text_of rest.front) (take rest.n (spelled rest.next.0 rest.next.1)));
        within = (p.0, rest.within);
      }
]

pub some_records : (start now : Option (List ℕ)) (rs : List Record) → AreRecordsWithin rs → AppendsPart start now (text_of rs) → (front : List Record) × WroteSome start now front
some_records start now rs p (n, less, a) =
    let cut = cut_records rs p n less in
    (cut.front, record { next = cut.next; short = cut.short; n = cut.n; less = cut.less; appended = subst (Appends start now) cut.is a; within = cut.within })

-- a part of records stops behind whatever was written before
pub part_stops : (old new : Option (List ℕ)) (rs : List Record) → AreRecordsWithin rs → AppendsPart old new (text_of rs) → StopsBehind old new
part_stops old new rs within p = λ start before w. let (front, some) = some_records old new rs within p in (front, some_behind start old new before front w some)

-- nothing was written
pub nothing_stops : (old : Option (List ℕ)) → StopsBehind old old
nothing_stops old = λ start rs w. ([], subst (WroteSome start old) (sym (append-nil rs)) (none_of_next start old rs w))

-- ---- a text in two

pub appends_first : (start now : Option (List ℕ)) (first second : List ℕ) → Appends start now (first ++ second) → Appends start (append_known start first) first × Appends (append_known start first) now second
appends_first None now first second a = (tt, tt)
appends_first (Some x) None first second a = absurd a
appends_first (Some x) (Some y) first second a = (refl, a ∙ sym (append_assoc x first second))

-- a part of a text and records is a part of the text, or all of it with a part of the records
pub part_behind : (start now : Option (List ℕ)) (text : List ℕ) (rs : List Record) → AppendsPart start now (text ++ text_of rs)
    → AppendsPart start now text ⊎ (Appends start (append_known start text) text × AppendsPart (append_known start text) now (text_of rs))
part_behind start now text rs (n, less, a) = elim (either n (length text)) [
  | inl lt ↦ inl (n, lt, subst (Appends start now) (take-append-le n text (text_of rs) (omega (arith, lt))) a)
  | inr (k, is) ↦
      let both = appends_first start now text (take k (text_of rs)) (subst (Appends start now) (ap (λ m. take m (text ++ text_of rs)) is ∙ take-append-add text (text_of rs) k) a) in
      inr (both.0, (k, omega (arith, less, is, length-append text (text_of rs)), both.1))
]

-- ---- what stands before the frames

pub before_text : (g : GuestOf) (k : Kind) → k ≡ g.kind → text_before g ≡ headers k ++ (text_of (info_records g.kind) ++ (text_of (static_bodies g) ++ text_of (p2m_records g.kind g)))
before_text g k is =
    let behind = static_bodies g ++ p2m_records g.kind g in
    ap (λ l. headers g.kind ++ l) (text_join (info_records g.kind) behind ∙ ap (λ l. text_of (info_records g.kind) ++ l) (text_join (static_bodies g) (p2m_records g.kind g)))
    ∙ ap (λ (k : Kind). headers k ++ (text_of (info_records g.kind) ++ (text_of (static_bodies g) ++ text_of (p2m_records g.kind g)))) (sym is)

-- ---- what stands behind the frames

pub closing_text : (g : GuestOf) (front : List ℕ) → text_of (closing_records g front) ≡ flat_map (λ code. text_of (records_of code g)) setting_codes ++ spelled 9 (context_record front).1
closing_text g front =
    text_join (records_in_order setting_codes g) (context_record front ∷ [])
    ∙ ap (λ l. l ++ text_of (context_record front ∷ [])) (codes_alone setting_codes g)
    ∙ ap (λ l. flat_map (λ code. text_of (records_of code g)) setting_codes ++ l) (text_one 9 (context_record front).1)

-- END behind records
pub end_closes : {X : Type 0} (old mid new : Option (List ℕ)) (rs : List Record) (r : Result X WriteFailed) → Appends old mid (text_of rs) → Puts (spelled 0 []) mid new r → OnOk r (Appends old new (text_of (rs ++ (0, []) ∷ [])))
end_closes old mid new rs (Ok x) a p =
    subst (Appends old new) (sym (text_join rs ((0, []) ∷ []) ∙ ap (λ l. text_of rs ++ l) (text_one 0 []))) (Appends-trans old mid new (text_of rs) (spelled 0 []) a p)
end_closes old mid new rs (Err e) a p = tt

pub end_stops : {X : Type 0} (old mid new : Option (List ℕ)) (rs : List Record) (r : Result X WriteFailed) → AreRecordsWithin rs → Appends old mid (text_of rs) → OnErr r (LeavesPart mid new) → OnErr r (StopsBehind old new)
end_stops old mid new rs (Ok x) within a l = tt
end_stops old mid new rs (Err e) within a l = λ start before w. (rs, l start (before ++ rs) (all_behind start old mid before rs w (record { appended = a; within = within })))

-- ---- answers

pub on_err : {X E : Type 0} (P : Type 0) (r : Result X E) → P → OnErr r P
on_err P (Ok x) h = tt
on_err P (Err e) h = h
