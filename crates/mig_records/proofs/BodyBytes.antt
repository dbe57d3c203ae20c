-- The parts that a body of bytes says are of bytes; and parts of bytes that are set leave a map of such parts.
use Rattle.mig_records.proofs.Common.{◌≡◌, ◌<◌, ℕ, not, List, [], ◌∷◌, ◌++◌, length, take, drop, replicate, Option, Some, None, refl, sym, subst, arith, ◌==◌, take_at, drop_at, true, false, AllByRecursion, PartCode, PartKey, GuestOf, code_number, is_policy, Part, PartMap, put_part, put_parts, Layout, Shape, Table, Single, Named, Chain, Other, AreTableEntries, spelled_key, shape_of, set_parts, IsShaped, All-append, All-replicate, All-take, All-drop, AreBytes, replace_code, p2m_key, part_total, part_exact, listed_over, set_p2m, BodiesSayBytes}
use Rattle.std.specs.FinMap as maps
use Rattle.mig_guest.proofs.Found.{insert_holds, kept_holds}
use Rattle.mig_records.proofs.Reading.{named_all}

abbrev IsByte : ℕ → Type 0
IsByte b = b < 256

abbrev pub IsPartOfBytes : Part → Type 0
IsPartOfBytes p = AreBytes p.1

pub bytes_front : (xs ys : List ℕ) → AreBytes (xs ++ ys) → AreBytes xs
bytes_front xs ys h = subst AreBytes (take_at xs ys (length xs) refl) (All-take IsByte (length xs) (xs ++ ys) h)

pub bytes_back : (xs ys : List ℕ) → AreBytes (xs ++ ys) → AreBytes ys
bytes_back xs ys h = subst AreBytes (drop_at xs ys (length xs) refl) (All-drop IsByte (length xs) (xs ++ ys) h)

-- ---- what a body says

entries_bytes : (code : PartCode) (l : Layout) (bytes : List ℕ) (ps : List Part) → AreBytes bytes → AreTableEntries code l bytes ps → AllByRecursion IsPartOfBytes ps
entries_bytes code l bytes [] all h = tt
entries_bytes code l bytes (p ∷ ps) all (first, second, rest, whole, first_len, second_len, value_len, key, fine, more) =
    let behind : AreBytes (p.1 ++ rest) = bytes_back second (p.1 ++ rest) (bytes_back first (second ++ (p.1 ++ rest)) (subst AreBytes whole all)) in
    (bytes_front p.1 rest behind, entries_bytes code l rest ps (bytes_back p.1 rest behind) more)

by_shape : (code : PartCode) (body : List ℕ) (ps : List Part) (shape : Shape) → AreBytes body → IsShaped shape code body ps → AllByRecursion IsPartOfBytes ps
by_shape code body ps (Table l) all h = entries_bytes code l h.bytes ps (bytes_back h.front h.bytes (subst AreBytes h.whole all)) h.each
by_shape code body ps (Single len ignored) all h = subst (AllByRecursion IsPartOfBytes) (sym h.says) (bytes_front h.bytes h.behind (subst AreBytes h.whole all), tt)
by_shape code body ps (Named second ignored skips) all h =
    let behind = bytes_back h.name1 (h.name2 ++ (h.gap ++ h.bytes)) (subst AreBytes h.whole all) in
    subst (AllByRecursion IsPartOfBytes) (sym h.says)
    (named_all IsPartOfBytes skips (spelled_key code 4 second h.name1 h.name2) h.bytes (bytes_back h.gap h.bytes (bytes_back h.name2 (h.gap ++ h.bytes) behind)))
by_shape code body ps Chain all h =
    let end = length h.context.before in
    subst (AllByRecursion IsPartOfBytes) (sym h.says) (All-append IsByte (take end body) (replicate 8 0) (All-take IsByte end body all) (All-replicate IsByte 8 0 (omega arith)), tt)
by_shape code body ps Other all h = absurd h

pub bodies_say_bytes : BodiesSayBytes
bodies_say_bytes code body ps h all = by_shape code body ps (shape_of code) all h

-- ---- what is set

-- each part of the map is of bytes
abbrev pub HoldsBytes : PartMap → Type 0
HoldsBytes m = (key : PartKey) (bytes : List ℕ) → maps.get m key ≡ Some bytes → AreBytes bytes

puts_bytes : (m : PartMap) (ps : List Part) → AllByRecursion IsPartOfBytes ps → HoldsBytes m → HoldsBytes (put_parts m ps)
puts_bytes m [] all before = before
puts_bytes m (p ∷ ps) all before = puts_bytes (put_part m p) ps all.1 (insert_holds part_total part_exact (λ _ bytes. AreBytes bytes) m p.0 p.1 before all.0)

replaces_bytes : (code : ℕ) (m : PartMap) (ps : List Part) → AllByRecursion IsPartOfBytes ps → HoldsBytes m → HoldsBytes (replace_code code m ps)
replaces_bytes code m [] all before = before
replaces_bytes code m (p ∷ ps) all before = puts_bytes _ (p ∷ ps) all (kept_holds part_total part_exact (λ _ bytes. AreBytes bytes) m (λ k. not (k.code == code)) before)

pub sets_bytes : (code : PartCode) (m : PartMap) (ps : List Part) → AllByRecursion IsPartOfBytes ps → HoldsBytes m → HoldsBytes (set_parts code m ps)
sets_bytes code m ps all before = which (is_policy (code_number code)) refl
  where
    which : (b : _) → is_policy (code_number code) ≡ b → HoldsBytes (set_parts code m ps)
    which true is = rw is (replaces_bytes (code_number code) m ps all before)
    which false is = rw is (puts_bytes m ps all before)

-- frames that replace the first of those that were listed before
over_bytes : (frames : List ℕ) (before : Option (List ℕ)) → AreBytes frames → ((listed : List ℕ) → before ≡ Some listed → AreBytes listed) → AreBytes (listed_over frames before)
over_bytes frames None all was = all
over_bytes frames (Some listed) all was = All-append IsByte frames (drop (length frames) listed) all (All-drop IsByte (length frames) listed (was listed refl))

pub list_bytes : (last : ℕ) (frames : List ℕ) (g : GuestOf) → AreBytes frames → HoldsBytes g.parts → HoldsBytes (set_p2m last frames g).parts
list_bytes last frames g all before =
    insert_holds part_total part_exact (λ _ bytes. AreBytes bytes) g.parts p2m_key (listed_over frames (maps.get g.parts p2m_key)) before
    (over_bytes frames (maps.get g.parts p2m_key) all (before p2m_key))
