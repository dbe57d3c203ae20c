-- A walk over the keys of a machine's parts, in their order: what was passed, and what is left.
use Rattle.mig_dirtysave_parts.proofs.Common.{tied, GuestOf, Kind, is_setting, kept_parts, parts_alone, ordering_reverse, IsNextKey, part_len, SameSettings}
use Rattle.mig_guest.proofs.Common.{◌≡◌, ℕ, ◌<◌, ◌≤◌, List, [], ◌∷◌, length, filter, Bool, true, false, cond, Option, Some, None, IsSome, IfSome, refl, sym, ap, subst, ◌∙◌, arith, find, eq_by_cmp, is_eq, is_lt, Ordering, Less, Equal, Greater, get-insert, get-retain_keys, same_map, eq_by_cmp_equiv, option_map, part_cmp, IsAbove, Part, PartMap}
use Rattle.mig_guest.specs.declared.part_key.PartKey.{PartKey}
use Rattle.mig_guest.proofs.PartCursor.{less, is_above, above, is_key_above, not_itself}
use Rattle.mig_guest.proofs.PartOrder.{part_total, part_exact}
use Rattle.std.specs.FinMap as maps

above_both : (after : Option PartKey) (k q : PartKey) → IsAbove after k → part_cmp k q ≡ Less → IsAbove after q
above_both None k q h l = tt
above_both (Some a) k q h l = part_total.trans a k q h l

-- ---- how many keys are left

module _ {A : Type 0} where
  either_le : (a b : Bool) (x : A) (l r : List A) → (a ≡ true → b ≡ true) → length l ≤ length r → length (cond a (x ∷ l) l) ≤ length (cond b (x ∷ r) r)
  either_le true true x l r go le = omega (arith, le)
  either_le true false x l r go le = let no : false ≡ true = go refl in cc
  either_le false true x l r go le = omega (arith, le)
  either_le false false x l r go le = le

  either_less : (a b : Bool) (x : A) (l r : List A) → (a ≡ true → b ≡ true) → length l < length r → length (cond a (x ∷ l) l) < length (cond b (x ∷ r) r)
  either_less true true x l r go lt = omega (arith, lt)
  either_less true false x l r go lt = let no : false ≡ true = go refl in cc
  either_less false true x l r go lt = omega (arith, lt)
  either_less false false x l r go lt = lt

  alone_less : (a b : Bool) (x : A) (l r : List A) → a ≡ false → b ≡ true → length l ≤ length r → length (cond a (x ∷ l) l) < length (cond b (x ∷ r) r)
  alone_less false true x l r here there le = omega (arith, le)
  alone_less true b x l r here there le = cc
  alone_less false false x l r here there le = cc

abbrev pub remaining : PartMap → Option PartKey → ℕ
remaining m after = length (filter (λ (e : Part). is_above after e.0) (maps.entries m))

module _ (after : Option PartKey) (key : PartKey) (here : IsAbove after key) where
  -- what is behind the next key is behind the last one
  further : (q : PartKey) → is_above (Some key) q ≡ true → is_above after q ≡ true
  further q h = above after q (above_both after key q here (less _ h))

  no_more : (es : List Part) → length (filter (λ (e : Part). is_above (Some key) e.0) es) ≤ length (filter (λ (e : Part). is_above after e.0) es)
  no_more [] = omega arith
  no_more (e ∷ es) = either_le (is_above (Some key) e.0) (is_above after e.0) e _ _ (further e.0) (no_more es)

  one_less : (bytes : List ℕ) (es : List Part) → find part_cmp key es ≡ Some bytes
      → length (filter (λ (e : Part). is_above (Some key) e.0) es) < length (filter (λ (e : Part). is_above after e.0) es)
  one_less bytes [] is = let no : ◌≡◌ {A = Option (List ℕ)} None (Some bytes) = is in cc
  one_less bytes (e ∷ es) is = elim (eq_by_cmp part_cmp key e.0) as (λ b. eq_by_cmp part_cmp key e.0 ≡ b → cond b (Some e.1) (find part_cmp key es) ≡ Some bytes
      → length (filter (λ (f : Part). is_above (Some key) f.0) (e ∷ es)) < length (filter (λ (f : Part). is_above after f.0) (e ∷ es))) [
        | true ↦ λ t at.
            let same = part_exact key e.0 (tied _ t) in
            alone_less (is_above (Some key) e.0) (is_above after e.0) e _ _ (ap (λ k. is_lt (part_cmp key k)) (sym same) ∙ not_itself part_total key) (ap (is_above after) (sym same) ∙ above after key here) (no_more es)
        | false ↦ λ t at. either_less (is_above (Some key) e.0) (is_above after e.0) e _ _ (further e.0) (one_less bytes es at)
      ] refl is

is_there : (o : Option (List ℕ)) → IsSome o → (bytes : List ℕ) × (o ≡ Some bytes)
is_there None h = absurd (cc)
is_there (Some bytes) h = (bytes, refl)

-- a key of the map is left behind
pub remaining_falls : (m : PartMap) (after : Option PartKey) (key : PartKey) → IsAbove after key → IsSome (maps.get m key) → remaining m (Some key) < remaining m after
remaining_falls m after key here there =
    let (bytes, is) = is_there (maps.get m key) there in
    one_less after key here bytes (maps.entries m) (sym (maps.get-entries m key) ∙ is)

-- ---- the next key

-- what isn't ahead of a key is the key, or apart from it and was passed before or isn't there
pub data Passes (m : PartMap) (after : Option PartKey) (key q : PartKey) : Type 0 where
  it : key ≡ q → Passes m after key q
  before : eq_by_cmp part_cmp q key ≡ false → is_above after q ≡ false → Passes m after key q
  absent : eq_by_cmp part_cmp q key ≡ false → maps.get m q ≡ None → Passes m after key q

module _ (m : PartMap) (after : Option PartKey) (key : PartKey) (next : IsNextKey m after key) where
  turned : (q : PartKey) (r : Ordering) → part_cmp key q ≡ r → part_cmp q key ≡ ordering_reverse r
  turned q r is = part_total.antisymm q key ∙ ap ordering_reverse is

  pub ahead : (q : PartKey) → is_above (Some key) q ≡ true → is_above after q ≡ true
  ahead q h = further after key next.above q h

  -- what is ahead of a key is apart from it
  pub apart : (q : PartKey) → is_above (Some key) q ≡ true → eq_by_cmp part_cmp q key ≡ false
  apart q h = ap is_eq (turned q Less (less _ h))

  pub passes : (q : PartKey) → is_above (Some key) q ≡ false → Passes m after key q
  passes q h = by (part_cmp key q) refl h
    where
      lower : part_cmp q key ≡ Less → (b : Bool) → is_above after q ≡ b → Passes m after key q
      lower l true is = absent (ap is_eq l) (next.least q (is_key_above after q is) l)
      lower l false is = before (ap is_eq l) is

      by : (r : Ordering) → part_cmp key q ≡ r → is_lt r ≡ false → Passes m after key q
      by Less is past = cc
      by Equal is past = it (part_exact key q is)
      by Greater is past = lower (turned q Greater is) (is_above after q) refl

-- ---- parts of some codes that are copied

put_here : (g : PartMap) (key q : PartKey) (bytes : List ℕ) → key ≡ q → maps.get (maps.insert g key bytes) q ≡ Some bytes
put_here g key q bytes is = ap (maps.get (maps.insert g key bytes)) (sym is) ∙ get-insert part_total g key bytes key ∙ ap (λ b. cond b (Some bytes) (maps.get g key)) ((eq_by_cmp_equiv part_total).refl key)

put_apart : (g : PartMap) (key q : PartKey) (bytes : List ℕ) → eq_by_cmp part_cmp q key ≡ false → maps.get (maps.insert g key bytes) q ≡ maps.get g q
put_apart g key q bytes is = get-insert part_total g key bytes q ∙ ap (λ b. cond b (Some bytes) (maps.get g q)) is

pub kept_at : (codes : ℕ → Bool) (m : PartMap) (q : PartKey) → maps.get (kept_parts codes m) q ≡ cond (codes q.code) (maps.get m q) None
kept_at codes m q = get-retain_keys m (λ (key : PartKey). codes key.code) q (λ x e. ap (λ (key : PartKey). codes key.code) (sym (part_exact q x e)))

-- a guest that has the parts of these codes has them as the map has them
pub kept_same : (codes : ℕ → Bool) (kind : Kind) (width : ℕ) (m : PartMap) (g : GuestOf) → g ≡ parts_alone kind width (kept_parts codes m) → (key : PartKey) → codes key.code ≡ true → maps.get m key ≡ maps.get g.parts key
kept_same codes kind width m g is key of = sym (ap (λ (k : GuestOf). maps.get k.parts key) is ∙ kept_at codes m key ∙ ap (λ b. cond b (maps.get m key) None) of)

-- of the keys that were passed the parts of these codes are copied, and of those ahead none is
pub record Copied (codes : ℕ → Bool) (m : PartMap) (after : Option PartKey) (g : PartMap) : Type 0 where
  pub ahead : (q : PartKey) → is_above after q ≡ true → maps.get g q ≡ None
  pub done : (q : PartKey) → is_above after q ≡ false → maps.get g q ≡ cond (codes q.code) (maps.get m q) None

none_either : (b : Bool) → ◌≡◌ {A = Option (List ℕ)} (cond b None None) None
none_either true = refl
none_either false = refl

clash : (codes : ℕ → Bool) (key q : PartKey) → codes key.code ≡ true → codes q.code ≡ false → eq_by_cmp part_cmp q key ≡ false
clash codes key q of other = by (eq_by_cmp part_cmp q key) refl
  where
    by : (b : Bool) → eq_by_cmp part_cmp q key ≡ b → b ≡ false
    by false is = refl
    by true is = let both : false ≡ true = sym other ∙ ap (λ (k : PartKey). codes k.code) (part_exact q key (tied _ is)) ∙ of in cc

module _ (codes : ℕ → Bool) (m : PartMap) where
  pub copied_none : Copied codes m None maps.empty
  copied_none = record { ahead = λ q h. maps.get-empty part_cmp q; done = λ q h. cc }

  module _ (after : Option PartKey) (key : PartKey) (next : IsNextKey m after key) (g : PartMap) (copied : Copied codes m after g) where
    -- where the next part isn't there, nothing is to be copied
    not_there : (q : PartKey) → maps.get m q ≡ None → maps.get g q ≡ cond (codes q.code) (maps.get m q) None
    not_there q none = by (is_above after q) refl
      where
        by : (b : Bool) → is_above after q ≡ b → maps.get g q ≡ cond (codes q.code) (maps.get m q) None
        by true is = copied.ahead q is ∙ sym (ap (λ o. cond (codes q.code) o None) none ∙ none_either (codes q.code))
        by false is = copied.done q is

    pub copied_one : (bytes : List ℕ) → codes key.code ≡ true → maps.get m key ≡ Some bytes → Copied codes m (Some key) (maps.insert g key bytes)
    copied_one bytes of there = record {
      ahead = λ q h. put_apart g key q bytes (apart m after key next q h) ∙ copied.ahead q (ahead m after key next q h);
      done = λ q h. by q (passes m after key next q h);
    }
      where
        by : (q : PartKey) → Passes m after key q → maps.get (maps.insert g key bytes) q ≡ cond (codes q.code) (maps.get m q) None
        by q (it is) = put_here g key q bytes is ∙ sym (ap (λ b. cond b (maps.get m q) None) (ap (λ (k : PartKey). codes k.code) (sym is) ∙ of) ∙ ap (maps.get m) (sym is) ∙ there)
        by q (before other passed) = put_apart g key q bytes other ∙ copied.done q passed
        by q (absent other none) = put_apart g key q bytes other ∙ not_there q none

    pub copied_past : codes key.code ≡ false → Copied codes m (Some key) g
    copied_past of = record { ahead = λ q h. copied.ahead q (ahead m after key next q h); done = λ q h. by q (passes m after key next q h) }
      where
        by : (q : PartKey) → Passes m after key q → maps.get g q ≡ cond (codes q.code) (maps.get m q) None
        by q (it is) =
            subst (λ (k : PartKey). maps.get g k ≡ cond (codes k.code) (maps.get m k) None) is
            (copied.ahead key (above after key next.above) ∙ sym (ap (λ b. cond b (maps.get m key) None) of))
        by q (before other passed) = copied.done q passed
        by q (absent other none) = not_there q none

  -- behind the last key all are copied
  pub copied_all : (after : Option PartKey) (g : PartMap) → ((k : PartKey) → IsAbove after k → maps.get m k ≡ None) → Copied codes m after g → g ≡ kept_parts codes m
  copied_all after g none copied = same_map part_total part_exact g (kept_parts codes m) (λ q. by q (is_above after q) refl ∙ sym (kept_at codes m q))
    where
      by : (q : PartKey) (b : Bool) → is_above after q ≡ b → maps.get g q ≡ cond (codes q.code) (maps.get m q) None
      by q true is = copied.ahead q is ∙ sym (ap (λ o. cond (codes q.code) o None) (none q (is_key_above after q is)) ∙ none_either (codes q.code))
      by q false is = copied.done q is

-- ---- settings that are written over

-- of the keys that were passed the settings are as they are now, all have the lengths that they have now, and nothing else
-- is held
pub record Refreshed (m : PartMap) (after : Option PartKey) (g : PartMap) : Type 0 where
  pub done : (q : PartKey) → is_above after q ≡ false → is_setting q.code ≡ true → maps.get g q ≡ maps.get m q
  pub others : (q : PartKey) → is_setting q.code ≡ false → maps.get g q ≡ None
  pub same : SameSettings m g

no_len : (o : Option (List ℕ)) → ◌≡◌ {A = Option ℕ} None (option_map (λ (bytes : List ℕ). length bytes) o) → o ≡ None
no_len None is = refl
no_len (Some bytes) is = let no : ◌≡◌ {A = Option ℕ} None (Some (length bytes)) = is in cc

-- a setting that isn't there isn't held
not_held : (m g : PartMap) (q : PartKey) → SameSettings m g → is_setting q.code ≡ true → maps.get m q ≡ None → maps.get g q ≡ None
not_held m g q same of none = no_len (maps.get g q) (sym (ap (option_map (λ (bytes : List ℕ). length bytes)) none) ∙ same q of)

module _ (m : PartMap) (after : Option PartKey) (key : PartKey) (next : IsNextKey m after key) (g : PartMap) (before_it : Refreshed m after g) where
  pub refreshed_one : (bytes : List ℕ) → is_setting key.code ≡ true → maps.get m key ≡ Some bytes → Refreshed m (Some key) (maps.insert g key bytes)
  refreshed_one bytes of there = record {
    done = λ q h setting. by q setting (passes m after key next q h);
    others = λ q other. put_apart g key q bytes (clash is_setting key q of other) ∙ before_it.others q other;
    same = λ q setting. alike q setting (eq_by_cmp part_cmp q key) refl;
  }
    where
      by : (q : PartKey) → is_setting q.code ≡ true → Passes m after key q → maps.get (maps.insert g key bytes) q ≡ maps.get m q
      by q setting (it is) = put_here g key q bytes is ∙ sym (ap (maps.get m) (sym is) ∙ there)
      by q setting (before other passed) = put_apart g key q bytes other ∙ before_it.done q passed setting
      by q setting (absent other none) = put_apart g key q bytes other ∙ not_held m g q before_it.same setting none ∙ sym none

      alike : (q : PartKey) → is_setting q.code ≡ true → (b : Bool) → eq_by_cmp part_cmp q key ≡ b → part_len m q ≡ part_len (maps.insert g key bytes) q
      alike q setting true is =
          let one = part_exact q key (tied _ is) in
          ap (option_map (λ (l : List ℕ). length l)) (ap (maps.get m) one ∙ there ∙ sym (put_here g key q bytes (sym one)))
      alike q setting false is = before_it.same q setting ∙ ap (option_map (λ (l : List ℕ). length l)) (sym (put_apart g key q bytes is))

  pub refreshed_past : is_setting key.code ≡ false → Refreshed m (Some key) g
  refreshed_past of = record { done = λ q h setting. by q setting (passes m after key next q h); others = before_it.others; same = before_it.same }
    where
      by : (q : PartKey) → is_setting q.code ≡ true → Passes m after key q → maps.get g q ≡ maps.get m q
      by q setting (it is) = let both : false ≡ true = sym of ∙ ap (λ (k : PartKey). is_setting k.code) is ∙ setting in cc
      by q setting (before other passed) = before_it.done q passed setting
      by q setting (absent other none) = not_held m g q before_it.same setting none ∙ sym none

pub refreshed_all : (m : PartMap) (after : Option PartKey) (g : PartMap) → ((k : PartKey) → IsAbove after k → maps.get m k ≡ None) → Refreshed m after g → g ≡ kept_parts is_setting m
refreshed_all m after g none r = same_map part_total part_exact g (kept_parts is_setting m) (λ q. by q (is_setting q.code) refl ∙ sym (kept_at is_setting m q))
  where
    at : (q : PartKey) → is_setting q.code ≡ true → (b : Bool) → is_above after q ≡ b → maps.get g q ≡ maps.get m q
    at q of true is = let gone = none q (is_key_above after q is) in not_held m g q r.same of gone ∙ sym gone
    at q of false is = r.done q is of

    by : (q : PartKey) (b : Bool) → is_setting q.code ≡ b → maps.get g q ≡ cond b (maps.get m q) None
    by q true is = at q is (is_above after q) refl
    by q false is = r.others q is

-- ---- the guest that is walked for

pub bare_from : (kind : Kind) (width : ℕ) (g : GuestOf) (m : PartMap) → g ≡ parts_alone kind width m → g ≡ parts_alone kind width g.parts
bare_from kind width g m is = is ∙ ap (parts_alone kind width) (sym (ap (λ (k : GuestOf). k.parts) is))

-- a part that is set in such a guest
set_in : (kind : Kind) (width : ℕ) (g k : GuestOf) (key : PartKey) (bytes : List ℕ) → g ≡ parts_alone kind width g.parts → k ≡ record g { parts = maps.insert g.parts key bytes } → k ≡ parts_alone kind width (maps.insert g.parts key bytes)
set_in kind width g k key bytes bare is = is ∙ ap (λ (x : GuestOf). record x { parts = maps.insert g.parts key bytes }) bare

module _ (m : PartMap) (after : Option PartKey) (key : PartKey) (next : IsNextKey m after key) (kind : Kind) (width : ℕ) (g k : GuestOf) (bare : g ≡ parts_alone kind width g.parts)
    (set : IfSome (maps.get m key) (λ bytes. k ≡ record g { parts = maps.insert g.parts key bytes })) where
  set_one : (P : PartMap → Type 0) → ((bytes : List ℕ) → maps.get m key ≡ Some bytes → P (maps.insert g.parts key bytes)) → (k ≡ parts_alone kind width k.parts) × P k.parts
  set_one P go = by (maps.get m key) refl next.there set
    where
      by : (o : Option (List ℕ)) → maps.get m key ≡ o → IsSome o → IfSome o (λ bytes. k ≡ record g { parts = maps.insert g.parts key bytes }) → (k ≡ parts_alone kind width k.parts) × P k.parts
      by None at some is = absurd (cc)
      by (Some bytes) at some is = (bare_from kind width k _ (set_in kind width g k key bytes bare is), subst P (sym (ap (λ (x : GuestOf). x.parts) is)) (go bytes at))

  pub copies_one : (codes : ℕ → Bool) → codes key.code ≡ true → Copied codes m after g.parts → (k ≡ parts_alone kind width k.parts) × Copied codes m (Some key) k.parts
  copies_one codes of copied = set_one (Copied codes m (Some key)) (λ bytes at. copied_one codes m after key next g.parts copied bytes of at)

  pub refreshes_one : is_setting key.code ≡ true → Refreshed m after g.parts → (k ≡ parts_alone kind width k.parts) × Refreshed m (Some key) k.parts
  refreshes_one of refreshed = set_one (Refreshed m (Some key)) (λ bytes at. refreshed_one m after key next g.parts refreshed bytes of at)
