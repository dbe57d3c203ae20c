-- A guest with the parts of its emulators: what it has at each key, and that it is whole, in its blank form and of bytes.
use Rattle.mig_libxl_form.proofs.Common.{◌≡◌, ℕ, ◌+◌, ◌≤◌, true, false, List, [], ◌∷◌, ◌++◌, length, map, refl, sym, ap, subst, ◌∙◌, arith, option_or, option_map, fold-append, le-leb, AreBytes, Kind, Pv, Hvm, GuestOf, part_cmp, Part, PartMap, put_part, put_parts, PartKey, part_total, part_exact, PairMap, text_of_map, EmulatorsOf, no_emulators, store_part, AreEmulators, IsStreamed, IsStreamedBare, nil_from_length, Option, Some, None, is_none, insert_holds, maps_are_of_pairs, emulator_parts, IsEmulatorKey, IsStore, most_pairs, most_policy_entries, most_body, ◌-◌, T, if◌then◌else◌, is_sorted, All, All-head, All-tail, All-append, All-map, All-weaker, all_found, Each, with_emulators, lt-ltb, and_from, blank_of, seen, find_seen, entries_shown, parts_set, Missing}
use Rattle.mig_guest.specs.Formed.{IsPart, IsFormed, is_emulator_code, width_of, is_policy}
use Rattle.mig_guest.specs.declared.part_code.PartCode.TheVariants.{EmulatorPairs, EmulatorContext}
use Rattle.mig_guest.specs.PartKeys.{context_key}
use Rattle.mig_guest.proofs.Counts.{same_parts}
use Rattle.mig_guest.proofs.PartSets.{put_other}
use Rattle.mig_pvtables.specs.Faults.{fault_of_guest, faults_for, first_cause, too_many}
use Rattle.std.specs.FinMap as maps

-- ---- guests with other parts of emulators

-- no policy is an emulator's
pub plain_policy : (code : ℕ) → is_policy code ≡ true → is_emulator_code code ≡ false
plain_policy code is = grind (arith, is)

-- with other parts an HVM guest has no fault where it has the same context
pub hvm_faultless : (g : GuestOf) (parts : PartMap) → g.kind ≡ Hvm → maps.get parts context_key ≡ maps.get g.parts context_key → fault_of_guest g ≡ None → fault_of_guest (record g { parts = parts }) ≡ None
hvm_faultless g parts hvm same faultless =
    ap (λ k. first_cause (faults_for k (record g { parts = parts }))) hvm
    ∙ ap (λ (o : Option (List ℕ)). first_cause ((if is_none o then Some (Missing 9) else None) ∷ too_many g.frames ∷ [])) same
    ∙ sym (ap (λ k. first_cause (faults_for k g)) hvm) ∙ faultless

-- ---- the parts of emulators

-- a part that an HVM guest may have of an emulator
record IsSaid (p : Part) : Type 0 where
  emulator : is_emulator_code p.0.code ≡ true
  part : (width : ℕ) → IsPart Hvm width p.0 p.1
  bytes : AreBytes p.1

emulator_of : (code : ℕ) (key : PartKey) → is_emulator_code code ≡ true → IsEmulatorKey code key → is_emulator_code key.code ≡ true
emulator_of code key of k = ap is_emulator_code k.is ∙ of

store_said : (key : PartKey) (m : PairMap) → IsEmulatorKey 258 key → IsStore m → IsSaid (key, text_of_map m)
store_said key m k s = record {
  emulator = emulator_of 258 key refl k;
  part = λ width. record {
    code = EmulatorPairs;
    number = k.is;
    of_kind = refl;
    keys = and_from _ _ (lt-ltb key.key1 3 k.known) (lt-ltb key.key2 256 k.small);
    small1 = omega (arith, k.known);
    small2 = omega (arith, k.small);
    len = and_from _ _ (le-leb 1 (length (text_of_map m)) (omega (arith, s.some))) (le-leb (length (text_of_map m)) most_pairs s.small);
    content = maps_are_of_pairs.text m s.pairs;
  };
  bytes = s.bytes;
}

context_said : (key : PartKey) (bytes : List ℕ) → IsEmulatorKey 259 key → length bytes + 8 ≤ most_body → AreBytes bytes → IsSaid (key, bytes)
context_said key bytes k small are = record {
  emulator = emulator_of 259 key refl k;
  part = λ width. record {
    code = EmulatorContext;
    number = k.is;
    of_kind = refl;
    keys = and_from _ _ (lt-ltb key.key1 3 k.known) (lt-ltb key.key2 256 k.small);
    small1 = omega (arith, k.known);
    small2 = omega (arith, k.small);
    len = le-leb (length bytes) (most_body - 8) (omega (arith, small));
    content = tt;
  };
  bytes = are;
}

all_said : (e : EmulatorsOf) → AreEmulators e → All IsSaid (emulator_parts e)
all_said e are =
    let ss = maps.entries e.stores in
    let cs = maps.entries e.contexts in
    All-append IsSaid (map store_part ss) cs
    (All-map IsSaid store_part ss (all_found part_total part_exact (λ (s : PartKey × PairMap). IsSaid (store_part s)) ss (maps.entries_sorted e.stores) (λ key m is. let s = are.stores key m (maps.get-entries e.stores key ∙ is) in store_said key m s.0 s.1)))
    (all_found part_total part_exact IsSaid cs (maps.entries_sorted e.contexts) (λ key bytes is. let s = are.contexts key bytes (maps.get-entries e.contexts key ∙ is) in context_said key bytes s.0 s.1 s.2))

-- ---- parts set one after another

puts_each : (P : PartKey → List ℕ → Type 0) (m : PartMap) (ps : List Part) → All (λ p. P p.0 p.1) ps → Each part_total part_exact P m → Each part_total part_exact P (put_parts m ps)
puts_each P m [] are each = each
puts_each P m (p ∷ ps) are each = puts_each P (put_part m p) ps (All-tail (λ p. P p.0 p.1) p ps are) (insert_holds part_total part_exact P m p.0 p.1 each (All-head (λ p. P p.0 p.1) p ps are))

-- the parts that are no emulator's stay
puts_stay : (m : PartMap) (ps : List Part) → All IsSaid ps → (key : PartKey) → is_emulator_code key.code ≡ false → maps.get (put_parts m ps) key ≡ maps.get m key
puts_stay m [] are key other = refl
puts_stay m (p ∷ ps) are key other =
    puts_stay (put_part m p) ps (All-tail IsSaid p ps are) key other
    ∙ put_other m p key (λ same. let clash : true ≡ false = sym (All-head IsSaid p ps are).emulator ∙ ap is_emulator_code (sym same) ∙ other in cc)

-- ---- the guest

module _ (g : GuestOf) (e : EmulatorsOf) (are : AreEmulators e) where
  abbrev ps : List Part
  ps = emulator_parts e

  said : All IsSaid ps
  said = all_said e are

  -- what it has at a key of another code
  pub other_part : (key : PartKey) → is_emulator_code key.code ≡ false → maps.get (with_emulators g e).parts key ≡ maps.get g.parts key
  other_part = puts_stay g.parts ps said

  hvm_formed : IsFormed g → g.kind ≡ Hvm → IsFormed (with_emulators g e)
  hvm_formed formed hvm = record {
    top = formed.top;
    frames = formed.frames;
    parts = puts_each (IsPart g.kind (width_of g)) g.parts ps (All-weaker IsSaid (λ p. IsPart g.kind (width_of g) p.0 p.1) (λ p s. subst (λ k. IsPart k (width_of g) p.0 p.1) (sym hvm) (s.part (width_of g))) ps said) formed.parts;
    policies = λ code one. subst (λ l. length l ≤ most_policy_entries) (sym (same_parts code (put_parts g.parts ps) g.parts (λ key of. other_part key (ap is_emulator_code of ∙ plain_policy code one)))) (formed.policies code one);
  }

module _ (g : GuestOf) (e : EmulatorsOf) (plain : IsStreamedBare g) (are : AreEmulators e) where
  hvm_done : g.kind ≡ Hvm → IsStreamed (with_emulators g e)
  hvm_done hvm = record {
    whole = record { formed = hvm_formed g e are plain.whole.formed hvm; faultless = hvm_faultless g (put_parts g.parts (emulator_parts e)) hvm (other_part g e are context_key refl) plain.whole.faultless };
    blank = ap (λ k. blank_of k (with_emulators g e)) hvm;
    bytes = record { pages = plain.bytes.pages; parts = puts_each (λ key bytes. AreBytes bytes) g.parts (emulator_parts e) (All-weaker IsSaid (λ p. AreBytes p.1) (λ p s. s.bytes) (emulator_parts e) (all_said e are)) plain.bytes.parts };
  }

no_entries : {X : Type 0} → maps.entries (maps.empty {X = X} {R = part_cmp}) ≡ []
no_entries {X} = nil_from_length _ (sym (maps.len-entries (maps.empty {X = X} {R = part_cmp})) ∙ maps.len-empty part_cmp X)

-- without emulators a guest stays
pub none_set : (g : GuestOf) → with_emulators g no_emulators ≡ g
none_set g = λ i. record g { parts = put_parts g.parts (map store_part (no_entries {X = PairMap} i) ++ no_entries {X = List ℕ} i) }

pub guest_formed : (g : GuestOf) (e : EmulatorsOf) → IsFormed g → AreEmulators e → (g.kind ≡ Pv → e ≡ no_emulators) → IsFormed (with_emulators g e)
guest_formed g e formed are alone = by_kind g.kind refl
  where
    by_kind : (k : Kind) → g.kind ≡ k → IsFormed (with_emulators g e)
    by_kind Hvm is = hvm_formed g e are formed is
    by_kind Pv is = subst IsFormed (sym (ap (with_emulators g) (alone is) ∙ none_set g)) formed

pub guest_done : (g : GuestOf) (e : EmulatorsOf) → IsStreamedBare g → AreEmulators e → (g.kind ≡ Pv → e ≡ no_emulators) → IsStreamed (with_emulators g e)
guest_done g e plain are alone = by_kind g.kind refl
  where
    by_kind : (k : Kind) → g.kind ≡ k → IsStreamed (with_emulators g e)
    by_kind Hvm is = hvm_done g e plain are is
    by_kind Pv is = subst IsStreamed (sym (ap (with_emulators g) (alone is) ∙ none_set g)) (record { whole = plain.whole; blank = plain.blank; bytes = plain.bytes })

-- ---- a guest with its emulators, at each key

-- its context, or else the text of its store, or else what the guest has there
pub part_there : (g : GuestOf) (e : EmulatorsOf) (key : PartKey) → maps.get (with_emulators g e).parts key ≡ option_or (maps.get e.contexts key) (option_or (option_map text_of_map (maps.get e.stores key)) (maps.get g.parts key))
part_there g e key =
    let text : PartKey → PairMap → List ℕ = λ k m. text_of_map m in
    let stores = map store_part (maps.entries e.stores) in
    let contexts = maps.entries e.contexts in
    let in_order = subst (λ l. T (is_sorted part_cmp l)) (entries_shown part_total part_exact text (maps.entries e.stores) (maps.entries_sorted e.stores)) (maps.entries_sorted (seen part_cmp text (maps.entries e.stores))) in
    ap (λ m. maps.get m key) (fold-append put_part g.parts stores contexts)
    ∙ parts_set (put_parts g.parts stores) contexts key (maps.entries_sorted e.contexts)
    ∙ ap (λ o. option_or o (maps.get (put_parts g.parts stores) key)) (sym (maps.get-entries e.contexts key))
    ∙ ap (option_or (maps.get e.contexts key)) (parts_set g.parts stores key in_order
    ∙ ap (λ o. option_or o (maps.get g.parts key)) (find_seen part_total part_exact text (maps.entries e.stores) key ∙ ap (option_map text_of_map) (sym (maps.get-entries e.stores key))))
