-- The records of a guest's emulators say its emulators: they and the guest without emulators are the guest.
use Rattle.mig_libxl.proofs.Common.{◌≡◌, ℕ, ◌<◌, Bool, true, false, cond, not, List, [], ◌∷◌, length, map, Option, Some, None, inl, inr, refl, sym, ap, subst, ◌∙◌, ◌==◌, ◌||◌, unwrap_or, if◌then◌else◌, All, option_or, eq_by_cmp, find, eq-eqb, eqb-true, or_cases, All-nil, All-cons, All-head, All-tail, IsFormed, is_emulator_code, GuestOf, part_cmp, Part, PartMap, PartKey, all_of, tied, part_total, part_exact, put_pairs, text_of_map, some_bytes_are_some_pairs, bare_guest, Pairs, Context, EmulatorsOf, no_emulators, put_libxl_content, with_emulators, insert_leaves, pairs_in, texts_are_canonical, emulators_in_order, fold, option_map, put_parts, FinMap, map_of, or_left, or_right, part_there}
use Rattle.std.proofs.lemmas.Cmp.{eq_by_cmp_equiv}
use Rattle.mig_libxl_form.specs.Emulators.{emulators_of, emulator_parts}
use Rattle.mig_libxl.proofs.Canon.{bare_get}
use Rattle.mig_libxl.proofs.EmulatorParts.{KeysDiffer, in_order_holds, in_order_differ, emulators_found}
use Rattle.mig_restore_form.proofs.PartsInOrder.{or_none}
use Rattle.mig_libxl.proofs.EmulatorRecords.{content_of, record_of_part, some_pairs}
use Rattle.mig_libxl_form.proofs.Stores.{some_added}
use Rattle.std.specs.FinMap as maps

-- ---- what records add

-- what f makes of a value, where the test passes
abbrev pub picked : {X : Type 0} → Bool → (List ℕ → X) → Option (List ℕ) → Option X
picked true f o = option_map f o
picked false f o = None

picked_none : {X : Type 0} (b : Bool) (f : List ℕ → X) → picked b f None ≡ None
picked_none true f = refl
picked_none false f = refl

module _ {X : Type 0} (f : List ℕ → X) (c : ℕ) (m : FinMap part_cmp X) (p : Part) (ps : List Part) (q : PartKey) where
  -- a part of the code, whose key doesn't stand behind
  set_here : p.0.code ≡ c → find part_cmp p.0 ps ≡ None
      → option_or (picked (q.code == c) f (find part_cmp q ps)) (maps.get (maps.insert m p.0 (f p.1)) q) ≡ option_or (picked (q.code == c) f (find part_cmp q (p ∷ ps))) (maps.get m q)
  set_here is none =
      ap (option_or (picked (q.code == c) f (find part_cmp q ps))) (maps.get-insert part_total m p.0 (f p.1) q)
      ∙ elim (eq_by_cmp part_cmp q p.0) as (λ b. eq_by_cmp part_cmp q p.0 ≡ b → option_or (picked (q.code == c) f (find part_cmp q ps)) (cond b (Some (f p.1)) (maps.get m q)) ≡ option_or (picked (q.code == c) f (cond b (Some p.1) (find part_cmp q ps))) (maps.get m q)) [
        | true ↦ λ t. let same = part_exact q p.0 (tied _ t) in
            ap (λ o. option_or (picked (q.code == c) f o) (Some (f p.1))) (ap (λ k. find part_cmp k ps) same ∙ none)
            ∙ ap (λ o. option_or o (Some (f p.1))) (picked_none (q.code == c) f)
            ∙ sym (ap (λ b. option_or (picked b f (Some p.1)) (maps.get m q)) (eq-eqb q.code c (ap (λ (k : PartKey). k.code) same ∙ is)))
        | false ↦ λ t. refl
      ] refl

  -- a part of another code
  set_elsewhere : (p.0.code == c) ≡ false → option_or (picked (q.code == c) f (find part_cmp q ps)) (maps.get m q) ≡ option_or (picked (q.code == c) f (find part_cmp q (p ∷ ps))) (maps.get m q)
  set_elsewhere other = elim (eq_by_cmp part_cmp q p.0) as (λ b. eq_by_cmp part_cmp q p.0 ≡ b → option_or (picked (q.code == c) f (find part_cmp q ps)) (maps.get m q) ≡ option_or (picked (q.code == c) f (cond b (Some p.1) (find part_cmp q ps))) (maps.get m q)) [
    | true ↦ λ t. let no : (q.code == c) ≡ false = ap (λ (k : PartKey). k.code == c) (part_exact q p.0 (tied _ t)) ∙ other in
        ap (λ b. option_or (picked b f (find part_cmp q ps)) (maps.get m q)) no ∙ sym (ap (λ b. option_or (picked b f (Some p.1)) (maps.get m q)) no)
    | false ↦ λ t. refl
  ] refl

-- a key that doesn't stand there is that of none
pub apart : (k : PartKey) (ps : List Part) → find part_cmp k ps ≡ None → All (λ r. eq_by_cmp part_cmp r.0 k ≡ false) ps
apart k [] none = All-nil (λ r. eq_by_cmp part_cmp r.0 k ≡ false)
apart k (r ∷ rs) none = elim (eq_by_cmp part_cmp k r.0) as (λ b. eq_by_cmp part_cmp k r.0 ≡ b → cond b (Some r.1) (find part_cmp k rs) ≡ None → All (λ r. eq_by_cmp part_cmp r.0 k ≡ false) (r ∷ rs)) [
  | true ↦ λ t at. let no : Some r.1 ≡ None = at in absurd (cc)
  | false ↦ λ t at. All-cons (λ r. eq_by_cmp part_cmp r.0 k ≡ false) r rs ((eq_by_cmp_equiv part_total).symm r.0 k ∙ t) (apart k rs at)
] refl none

-- a part of an emulator; of pairs there are some
pub record IsSaid (p : Part) : Type 0 where
  pub code : is_emulator_code p.0.code ≡ true
  pub some : p.0.code ≡ 258 → 0 < length (pairs_in p.1)

-- what the records of these parts make of what was said before
abbrev pub after : EmulatorsOf → List Part → EmulatorsOf
after e ps = fold (λ e r. put_libxl_content e r.content) e (map record_of_part ps)

-- nothing is there of the store of this key
abbrev IsNew : EmulatorsOf → Part → Type 0
IsNew e p = maps.get e.stores p.0 ≡ None

module _ (e : EmulatorsOf) (p : Part) where
  pairs_said : p.0.code ≡ 258 → 0 < length (pairs_in p.1) → maps.get e.stores p.0 ≡ None → put_libxl_content e (content_of p) ≡ record e { stores = maps.insert e.stores p.0 (map_of p.1) }
  pairs_said code some new =
      ap (λ b. put_libxl_content e (if b then Pairs p.0 (pairs_in p.1) else Context p.0 p.1)) (eq-eqb p.0.code 258 code) ∙ some_added e p.0 (pairs_in p.1) some
      ∙ ap (λ o. record e { stores = maps.insert e.stores p.0 (put_pairs (unwrap_or o maps.empty) (pairs_in p.1)) }) new

  context_said : p.0.code ≡ 259 → put_libxl_content e (content_of p) ≡ record e { contexts = maps.insert e.contexts p.0 p.1 }
  context_said code = ap (λ b. put_libxl_content e (if b then Pairs p.0 (pairs_in p.1) else Context p.0 p.1)) (ap (λ n. n == 258) code)

-- the store and the context of a key, behind the records of these parts
abbrev Got : EmulatorsOf → EmulatorsOf → List Part → PartKey → Type 0
Got new e ps q =
    (maps.get new.stores q ≡ option_or (picked (q.code == 258) map_of (find part_cmp q ps)) (maps.get e.stores q))
    × (maps.get new.contexts q ≡ option_or (picked (q.code == 259) (λ bytes. bytes) (find part_cmp q ps)) (maps.get e.contexts q))

pub got : (ps : List Part) (e : EmulatorsOf) → KeysDiffer ps → All IsSaid ps → All (λ p. maps.get e.stores p.0 ≡ None) ps → (q : PartKey) → Got (after e ps) e ps q
got [] e differ said new q = (
  sym (ap (λ o. option_or o (maps.get e.stores q)) (picked_none (q.code == 258) map_of)),
  sym (ap (λ o. option_or o (maps.get e.contexts q)) (picked_none (q.code == 259) (λ bytes. bytes))),
)
got (p ∷ ps) e differ said new q =
    let one = All-head IsSaid p ps said in let others = All-tail IsSaid p ps said in
    let fresh = All-head (IsNew e) p ps new in let later = All-tail (IsNew e) p ps new in
    elim (or_cases (p.0.code == 258) (p.0.code == 259) one.code) [
      | inl a ↦ let code = eqb-true p.0.code 258 a in
          let f : EmulatorsOf = record e { stores = maps.insert e.stores p.0 (map_of p.1) } in
          let r = got ps f differ.1 others (all_of (IsNew e) (λ r. eq_by_cmp part_cmp r.0 p.0 ≡ false) (IsNew f) (λ r none other. insert_leaves part_total e.stores p.0 (map_of p.1) r.0 other ∙ none) ps later (apart p.0 ps differ.0)) q in
          subst (λ x. Got (after x ps) e (p ∷ ps) q) (sym (pairs_said e p code (one.some code) fresh))
          (r.0 ∙ set_here map_of 258 e.stores p ps q code differ.0, r.1 ∙ set_elsewhere (λ bytes. bytes) 259 e.contexts p ps q (ap (λ n. n == 259) code))
      | inr b ↦ let code = eqb-true p.0.code 259 b in
          let f : EmulatorsOf = record e { contexts = maps.insert e.contexts p.0 p.1 } in
          let r = got ps f differ.1 others later q in
          subst (λ x. Got (after x ps) e (p ∷ ps) q) (sym (context_said e p code))
          (r.0 ∙ set_elsewhere map_of 258 e.stores p ps q (ap (λ n. n == 258) code), r.1 ∙ set_here (λ bytes. bytes) 259 e.contexts p ps q code differ.0)
    ]

-- ---- the emulators of a guest

-- what the records of a guest's emulators say
abbrev pub said_of : GuestOf → EmulatorsOf
said_of g = after no_emulators (emulators_in_order g.parts)

of_said : (ps : List Part) → emulators_of (map record_of_part ps) ≡ after no_emulators ps
unfolding emulators_of
of_said ps = refl

-- the records say it alone
pub said_is : (g : GuestOf) → emulators_of (map record_of_part (emulators_in_order g.parts)) ≡ said_of g
said_is g = of_said (emulators_in_order g.parts)

module _ (g : GuestOf) (formed : IsFormed g) where
  pub all_said : All IsSaid (emulators_in_order g.parts)
  all_said k d l = let is = in_order_holds g.parts k d l in record {
    code = is.code;
    some = λ code. let pairs = some_pairs g formed _ _ code is.there in some_bytes_are_some_pairs.some _ (some_bytes_are_some_pairs.sound _ pairs.canonical) pairs.some;
  }

  said_got : (q : PartKey) → Got (said_of g) no_emulators (emulators_in_order g.parts) q
  said_got q = got (emulators_in_order g.parts) no_emulators (in_order_differ g.parts) all_said (λ k d l. maps.get-empty part_cmp _) q

  kept : {X : Type 0} (b c : Bool) (f : List ℕ → X) (o : Option (List ℕ)) → (b ≡ true → c ≡ true) → picked b f (cond c o None) ≡ picked b f o
  kept true c f o up = ap (λ c. option_map f (cond c o None)) (up refl)
  kept false c f o up = refl

  -- of each part whose key passes a test that emulators' parts alone pass
  only_said : {X : Type 0} (f : List ℕ → X) (b : Bool) (q : PartKey) → (b ≡ true → is_emulator_code q.code ≡ true)
      → option_or (picked b f (find part_cmp q (emulators_in_order g.parts))) (maps.get (maps.empty {X = X} {R = part_cmp}) q) ≡ picked b f (maps.get g.parts q)
  only_said f b q up =
      ap (option_or (picked b f (find part_cmp q (emulators_in_order g.parts)))) (maps.get-empty part_cmp q) ∙ or_none (picked b f (find part_cmp q (emulators_in_order g.parts)))
      ∙ ap (picked b f) (emulators_found g.parts q) ∙ kept b (is_emulator_code q.code) f (maps.get g.parts q) up

  -- the store of each part of pairs
  pub stores_are : (q : PartKey) → maps.get (said_of g).stores q ≡ picked (q.code == 258) map_of (maps.get g.parts q)
  stores_are q = (said_got q).0 ∙ only_said map_of (q.code == 258) q (or_left (q.code == 258) (q.code == 259))

  -- the context of each part that is one
  pub contexts_are : (q : PartKey) → maps.get (said_of g).contexts q ≡ picked (q.code == 259) (λ bytes. bytes) (maps.get g.parts q)
  contexts_are q = (said_got q).1 ∙ only_said (λ bytes. bytes) (q.code == 259) q (or_right (q.code == 258) (q.code == 259))

-- ---- the guest again

-- of a part one of the three has the bytes
settled : (a b : Bool) (o : Option (List ℕ)) → (a ≡ true → (bytes : List ℕ) → o ≡ Some bytes → text_of_map (map_of bytes) ≡ bytes)
    → option_or (picked b (λ bytes. bytes) o) (option_or (option_map text_of_map (picked a map_of o)) (cond (not (a || b)) o None)) ≡ o
settled a true (Some bytes) again = refl
settled true true None again = refl
settled false true None again = refl
settled true false None again = refl
settled true false (Some bytes) again = ap Some (again refl bytes refl)
settled false false None again = refl
settled false false (Some bytes) again = refl

module _ (g : GuestOf) (formed : IsFormed g) where
  parts_again : (q : PartKey) → maps.get (put_parts (bare_guest g).parts (emulator_parts (said_of g))) q ≡ maps.get g.parts q
  parts_again q =
      part_there (bare_guest g) (said_of g) q
      ∙ (λ i. option_or (contexts_are g formed q i) (option_or (option_map text_of_map (stores_are g formed q i)) (bare_get g q i)))
      ∙ settled (q.code == 258) (q.code == 259) (maps.get g.parts q) (λ t bytes there. texts_are_canonical.again bytes (some_pairs g formed q bytes (eqb-true q.code 258 t) there).canonical)

  -- the emulators that the records say, in the guest without emulators
  pub guest_again : with_emulators (bare_guest g) (said_of g) ≡ g
  guest_again = ap (λ (parts : PartMap). record g { parts = parts }) (maps.same_map part_total part_exact (put_parts (bare_guest g).parts (emulator_parts (said_of g))) g.parts parts_again)
