-- Of each index of the list of P2M frames the last record that lists it decides.
use Rattle.mig_restore_form.proofs.Common.{◌≡◌, ℕ, suc, ◌+◌, ◌*◌, ◌<◌, ◌≤◌, common_steps, unwrap_or, List, [], ◌∷◌, ◌++◌, length, drop, Bool, true, false, cond, nat_eq, Option, Some, None, refl, sym, ap, subst, ◌∙◌, inl, inr, arith, length-append, length-drop, le-ltb, AllByRecursion, Kind, GuestOf, p2m_key, Part, PartCode, code_number, shape_of, has_shape, is_shaped, IsBody, Opening, Content, StreamRecord, types_of, is_verified, placed_content, Sets, put_content, last_bytes, parts_say_of_part, policy_says_of_part, says_of_part, HasContent, Follows, IsImage, part_cmp, Spells, option_map, option_or, is_policy, P2mFrames, part_total, listed_over, PartKey, optional, ends, pages, sets, info, p2m_frames, static_end, verify, no_part, one_more, ◌-◌, cases_lt, lt-ltb, drop-append-le, ◌/◌, AreTableEntries, IsShaped, named_parts}
use Rattle.mig_restore_form.specs.Mean.{lists_at, last_listed, sent}
use Rattle.std.proofs.lemmas.Slice.{drop-append-drop}
use Rattle.byteorder.specs.Endian.{little_number}
use Rattle.byteorder.specs.Numbers.{little_from-append}
use Rattle.mig_bytes.specs.Fields.{le64}
use Rattle.mig_guest.specs.Longs.{long_at}
use Rattle.mig_records.specs.declared.layout.Layout.{Layout}
use Rattle.mig_records.specs.declared.shape.Shape.{Shape}
use Rattle.mig_records.specs.declared.shape.Shape.TheVariants.{Table, Single, Named, Chain, Other}
use Rattle.mig_pvtables.specs.P2mFrames.{listed, listed_in}
use Rattle.mig_restore_form.proofs.Meaning.{one_more_record, said}
use Rattle.mig_restore_form.proofs.Compared.{placed_is}
use Rattle.std.specs.FinMap as fin

-- ---- a list joined with the one before

-- bytes of n frames and no fewer list those below n
there : (bytes : List ℕ) (n k : ℕ) → 8 * n ≤ length bytes → k < n → listed_in (Some bytes) k ≡ Some (long_at bytes k)
there bytes n k long lt = ap (λ b. cond b (Some (long_at bytes k)) None) (lt-ltb k _ (omega (arith, long, lt)))

not_there : (bytes : List ℕ) (n k : ℕ) → length bytes < 8 * n + 8 → n ≤ k → listed_in (Some bytes) k ≡ None
not_there bytes n k short le = ap (λ b. cond b (Some (long_at bytes k)) None) (le-ltb k _ (omega (arith, short, le)))

or_none : {X : Type 0} (o : Option X) → o ≡ option_or o None
or_none None = refl
or_none (Some x) = refl

-- these n frames in place of the first ones before
module _ (frames before : List ℕ) (n k : ℕ) (size : length frames ≡ 8 * n) where
  abbrev joined : List ℕ
  joined = frames ++ drop (length frames) before

  joined_len : length joined ≡ 8 * n + (length before - 8 * n)
  joined_len = length-append frames (drop (length frames) before) ∙ omega (arith, size, length-drop (length frames) before)

  in_front : k < n → long_at joined k ≡ long_at frames k
  unfolding le64
  in_front lt =
      ap (little_number 8) (drop-append-le (8 * k) frames (drop (length frames) before) (omega (arith, size, lt)))
      ∙ little_from-append 8 (drop (8 * k) frames) (drop (length frames) before) (omega (arith, size, lt, length-drop (8 * k) frames))

  behind : n ≤ k → long_at joined k ≡ long_at before k
  unfolding le64
  behind le = ap (little_number 8) (drop-append-drop (length frames) before frames (8 * k) (omega (arith, size, le)) refl)

  listed_behind : n ≤ k → listed_in (Some joined) k ≡ listed_in (Some before) k
  listed_behind le = elim (cases_lt k (length before / 8)) [
    | inl lt ↦ there joined (suc k) k (omega (arith, joined_len, lt, le)) (omega arith) ∙ ap Some (behind le) ∙ sym (there before (suc k) k (omega (arith, lt)) (omega arith))
    | inr ge ↦ not_there joined k k (omega (arith, joined_len, ge, le)) (omega arith) ∙ sym (not_there before k k (omega (arith, ge)) (omega arith))
  ]

  joined_is : listed_in (Some joined) k ≡ option_or (listed_in (Some frames) k) (listed_in (Some before) k)
  joined_is = elim (cases_lt k n) [
    | inl lt ↦
        there joined n k (omega (arith, joined_len)) lt ∙ ap Some (in_front lt)
        ∙ ap (λ o. option_or o (listed_in (Some before) k)) (sym (there frames n k (omega (arith, size)) lt))
    | inr ge ↦
        listed_behind (omega (arith, ge)) ∙ ap (λ o. option_or o (listed_in (Some before) k)) (sym (not_there frames n k (omega (arith, size)) (omega (arith, ge))))
  ]

listed_over_is : (frames : List ℕ) (n k : ℕ) → length frames ≡ 8 * n → (before : Option (List ℕ)) → listed_in (Some (listed_over frames before)) k ≡ option_or (listed_in (Some frames) k) (listed_in before k)
listed_over_is frames n k size None = or_none (listed_in (Some frames) k)
listed_over_is frames n k size (Some before) = joined_is frames before n k size

-- ---- no body of parts says the list

no_list : (code : PartCode) → has_shape (shape_of code) ≡ true → nat_eq 3 (code_number code) ≡ false
no_list P2mFrames shaped = cc
no_list _ shaped = refl

-- the keys of these parts have the code's number
abbrev AreOfCode : PartCode → List Part → Type 0
AreOfCode code ps = AllByRecursion (λ p. p.0.code ≡ code_number code) ps

entries_of_code : (code : PartCode) (l : Layout) (bytes : List ℕ) (ps : List Part) → AreTableEntries code l bytes ps → AreOfCode code ps
entries_of_code code l bytes [] h = tt
entries_of_code code l bytes (p ∷ ps) (first, second, rest, whole, width1, width2, width, key, fine, more) = (ap (λ (k : PartKey). k.code) key, entries_of_code code l rest ps more)

named_of_code : (code : PartCode) (skips : Bool) (key : PartKey) (bytes : List ℕ) → key.code ≡ code_number code → AreOfCode code (named_parts skips key bytes)
named_of_code code true key [] is = tt
named_of_code code true key (x ∷ xs) is = (is, tt)
named_of_code code false key bytes is = (is, tt)

said_of_code : (shape : Shape) (code : PartCode) (body : List ℕ) (ps : List Part) → IsShaped shape code body ps → AreOfCode code ps
said_of_code (Table l) code body ps h = entries_of_code code l h.bytes ps h.each
said_of_code (Single len ignored) code body ps h = subst (AreOfCode code) (sym h.says) (refl, tt)
said_of_code (Named second ignored skips) code body ps h = subst (AreOfCode code) (sym h.says) (named_of_code code skips _ h.bytes refl)
said_of_code Chain code body ps h = subst (AreOfCode code) (sym h.says) (refl, tt)
said_of_code Other code body ps h = absurd h

no_bytes : (code : PartCode) → nat_eq 3 (code_number code) ≡ false → (ps : List Part) → AreOfCode code ps → last_bytes p2m_key ps ≡ None
no_bytes code other [] h = refl
no_bytes code other (p ∷ ps) h = grind (arith, common_steps, no_bytes code other ps h.1, h.0, other)

no_policy : (code : PartCode) → nat_eq 3 (code_number code) ≡ false → (ps : List Part) → AreOfCode code ps → policy_says_of_part p2m_key (code_number code) ps ≡ None
no_policy code other [] h = refl
no_policy code other (p ∷ ps) h = grind (arith, common_steps, no_bytes code other (p ∷ ps) h, other)

not_said : (code : PartCode) (body : List ℕ) (ps : List Part) → IsBody code body ps → says_of_part p2m_key (Sets code ps) ≡ None
not_said code body ps says = by (is_policy (code_number code))
  where
    other : nat_eq 3 (code_number code) ≡ false
    other = no_list code (is_shaped code body ps (shape_of code) says)

    of_code : AreOfCode code ps
    of_code = said_of_code (shape_of code) code body ps says

    by : (b : Bool) → cond b (policy_says_of_part p2m_key (code_number code) ps) (parts_say_of_part p2m_key ps) ≡ None
    by true = no_policy code other ps of_code
    by false = ap (option_map Some) (no_bytes code other ps of_code)

-- ---- records

-- a content that is spelled lists its frames over those before, or none
content_listed : (g : GuestOf) (k : ℕ) (kind : Kind) (top type : ℕ) (body : List ℕ) (c : Content) → HasContent kind top type body c → listed (put_content g c).parts k ≡ option_or (lists_at k c) (listed g.parts k)
content_listed g k kind top type body c (optional n b many) = refl
content_listed g k kind top type body c ends = refl
content_listed g k kind top type body c static_end = refl
content_listed g k kind top type body c verify = refl
content_listed g k kind top type body c (info b eight says) = refl
content_listed g k kind top type body c (pages b es batch) = refl
content_listed g k kind top type body c (p2m_frames last frames b says) =
    ap (λ o. listed_in o k) (fin.get-insert part_total g.parts p2m_key (listed_over frames (fin.get g.parts p2m_key)) p2m_key)
    ∙ listed_over_is frames _ k says.listed (fin.get g.parts p2m_key)
content_listed g k kind top type body c (sets this code b ps is allowed says) =
    ap (λ o. listed_in o k) (said g (Sets code ps) p2m_key (λ last frames e. cc) ∙ ap (λ o. unwrap_or o (fin.get g.parts p2m_key)) (not_said code b ps says))

-- so it does where its record stands
record_listed : (g : GuestOf) (k : ℕ) (verified : Bool) (c said : Content) → c ≡ placed_content verified said → listed (put_content g said).parts k ≡ option_or (lists_at k said) (listed g.parts k)
    → listed (put_content g c).parts k ≡ option_or (lists_at k c) (listed g.parts k)
record_listed g k verified c said is h =
    subst (λ (x : Content). listed (put_content g x).parts k ≡ option_or (lists_at k x) (listed g.parts k)) (sym is)
    (placed_is (λ x. listed (put_content g x).parts k ≡ option_or (lists_at k x) (listed g.parts k)) verified said (λ es. refl) h)

-- the last record is asked first
last_more : (k : ℕ) (records : List StreamRecord) (r : StreamRecord) → last_listed k (records ++ r ∷ []) ≡ option_or (lists_at k r.content) (last_listed k records)
last_more k [] r = or_none (lists_at k r.content)
last_more k (x ∷ xs) r = ap (λ o. option_or o (lists_at k x.content)) (last_more k xs r) ∙ assoc (lists_at k r.content) (last_listed k xs) (lists_at k x.content)
  where
    assoc : (a b c : Option ℕ) → option_or (option_or a b) c ≡ option_or a (option_or b c)
    assoc None b c = refl
    assoc (Some x) b c = refl

spelled_listed : (o : Opening) (bytes : List ℕ) (records : List StreamRecord) (k : ℕ) → Spells (Follows o) bytes records → listed (sent o.kind records).parts k ≡ last_listed k records
unfolding sent
spelled_listed o bytes records k no_part = ap (λ l. listed_in l k) (fin.get-empty part_cmp p2m_key)
spelled_listed o bytes records k (one_more front rs r text before f) =
    ap (λ (g : GuestOf). listed g.parts k) (one_more_record o.kind rs r)
    ∙ record_listed (sent o.kind rs) k (is_verified (types_of rs)) r.content f.said f.placed (content_listed (sent o.kind rs) k o.kind (sent o.kind rs).top r.type f.body f.said f.says)
    ∙ ap (option_or (lists_at k r.content)) (spelled_listed o front rs k before)
    ∙ sym (last_more k rs r)

pub last_listing_is : (input : List ℕ) (o : Opening) (records : List StreamRecord) (rest : List ℕ) (k : ℕ) → IsImage input o records rest → listed (sent o.kind records).parts k ≡ last_listed k records
last_listing_is input o records rest k image = spelled_listed o image.bytes records k image.spelled
