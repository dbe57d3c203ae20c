-- What is kept of a well formed guest where parts are set: one lemma over the table, whatever the code.
use Rattle.mig_guest.proofs.Common.{◌≡◌, ◌≢◌, ℕ, ◌≤◌, List, [], ◌∷◌, length, Bool, true, false, not, nat_eq, Option, Some, None, refl, sym, ap, subst, ◌∙◌, arith, nat_cmp, AllByRecursion, nat_cmp-IsAntisymmetric, nat_cmp_total, eqb-true, eq-eqb, PartKey, FrameOf, FrameMap, framed, GuestOf, part_cmp, Part, PartMap, put_part, put_parts, replace_code, parts_of, FitsPolicy, IsPart, IsTop, IsGuestFrame, is_policy, width_of, IsFormed, AreParts, is_emulator_code, HasNoEmulators, most_policy_entries, nil_from_length, Kind, Pv, Hvm, PageType, Xtab}
use Rattle.std.specs.FinMap as fin
use Rattle.mig_guest.proofs.PartOrder.{part_total, part_exact}
use Rattle.mig_guest.proofs.PartSets.{puts_other, cleared_other}
use Rattle.mig_guest.proofs.Counts.{same_parts, set_len, none_left}
use Rattle.mig_guest.proofs.Found.{Each, insert_holds, remove_holds, kept_holds}

-- ---- parts of one code

module _ (kind : Kind) (width code : ℕ) where
  of_code : (ps : List Part) → AreParts kind width code ps → AllByRecursion (λ p. p.0.code ≡ code) ps
  of_code [] are = tt
  of_code (p ∷ ps) are = (are.1, of_code ps are.2)

  module _ (P : PartKey → List ℕ → Type 0) (fits : (p : Part) → IsPart kind width p.0 p.1 → p.0.code ≡ code → P p.0 p.1) where
    puts_hold : (m : PartMap) (ps : List Part) → AreParts kind width code ps → Each part_total part_exact P m → Each part_total part_exact P (put_parts m ps)
    puts_hold m [] are each = each
    puts_hold m (p ∷ ps) are each = puts_hold (put_part m p) ps are.2 (insert_holds part_total part_exact P m p.0 p.1 each (fits p are.0 are.1))

    replace_holds : (m : PartMap) (ps : List Part) → AreParts kind width code ps → Each part_total part_exact P m → Each part_total part_exact P (replace_code code m ps)
    replace_holds m [] are each = each
    replace_holds m (p ∷ ps) are each = puts_hold _ (p ∷ ps) are (kept_holds part_total part_exact P m (λ k. not (nat_eq k.code code)) each)

pub parts_keep : (g : GuestOf) (code : ℕ) (ps : List Part) → is_policy code ≡ false → AreParts g.kind (width_of g) code ps → IsFormed g → IsFormed (record g { parts = put_parts g.parts ps })
parts_keep g code ps not_policy are formed = record {
  top = formed.top;
  frames = formed.frames;
  parts = puts_hold g.kind (width_of g) code (IsPart g.kind (width_of g)) (λ p is same. is) g.parts ps are formed.parts;
  policies = λ d one. subst (λ ps. length ps ≤ most_policy_entries) (sym (same_parts d (put_parts g.parts ps) g.parts (λ q of_d. puts_other code ps (of_code g.kind (width_of g) code ps are) g.parts q (λ is.
      let clash : true ≡ false = sym one ∙ ap is_policy (sym of_d ∙ is) ∙ not_policy in cc)))) (formed.policies d one);
}

-- ---- a policy

replace_fits : (kind : Kind) (width code : ℕ) (m : PartMap) (d : ℕ) (ps : List Part) → AreParts kind width code ps → length ps ≤ most_policy_entries → FitsPolicy d m → FitsPolicy d (replace_code code m ps)
replace_fits kind width code m d [] are few fits = fits
replace_fits kind width code m d (p ∷ ps) are few fits = which (nat_eq d code) refl
  where
    less : PartMap
    less = fin.retain_keys m (λ k. not (nat_eq k.code code))

    of : AllByRecursion (λ (q : Part). q.0.code ≡ code) (p ∷ ps)
    of = of_code kind width code (p ∷ ps) are

    which : (b : Bool) → nat_eq d code ≡ b → FitsPolicy d (put_parts less (p ∷ ps))
    which true is = subst (λ n. FitsPolicy n (put_parts less (p ∷ ps))) (sym (eqb-true d code is)) (omega (arith, set_len code less (p ∷ ps) of, ap length (none_left code m), few))
    which false is = subst (λ ps. length ps ≤ most_policy_entries) (sym (same_parts d (put_parts less (p ∷ ps)) m (λ q of_d.
        let differ : q.code ≢ code = λ e. let clash : true ≡ false = sym (eq-eqb d code (sym of_d ∙ e)) ∙ is in cc in
        puts_other code (p ∷ ps) of less q differ ∙ cleared_other code m q differ))) fits

pub policies_keep : (g : GuestOf) (code : ℕ) (ps : List Part) → length ps ≤ most_policy_entries → AreParts g.kind (width_of g) code ps → IsFormed g → IsFormed (record g { parts = replace_code code g.parts ps })
policies_keep g code ps few are formed = record {
  top = formed.top;
  frames = formed.frames;
  parts = replace_holds g.kind (width_of g) code (IsPart g.kind (width_of g)) (λ p is same. is) g.parts ps are formed.parts;
  policies = λ d one. replace_fits g.kind (width_of g) code g.parts d ps are few (formed.policies d one);
}

-- ---- no emulator parts

module _ (kind : Kind) (width code : ℕ) (plain : is_emulator_code code ≡ false) (m : PartMap) (ps : List Part) (are : AreParts kind width code ps) (before : HasNoEmulators m) where
  abbrev IsPlain : PartKey → List ℕ → Type 0
  IsPlain key bytes = is_emulator_code key.code ≡ false

  is_plain : (p : Part) → IsPart kind width p.0 p.1 → p.0.code ≡ code → IsPlain p.0 p.1
  is_plain p is same = ap is_emulator_code same ∙ plain

  pub parts_plain : HasNoEmulators (put_parts m ps)
  parts_plain = puts_hold kind width code IsPlain is_plain m ps are before

  pub policies_plain : HasNoEmulators (replace_code code m ps)
  policies_plain = replace_holds kind width code IsPlain is_plain m ps are before

-- ---- a frame

module _ (P : ℕ → FrameOf → Type 0) where
  abbrev EachFrame : FrameMap → Type 0
  EachFrame m = Each nat_cmp_total nat_cmp-IsAntisymmetric P m

  framed_holds : (m : FrameMap) (pfn : ℕ) (type : PageType) (page : Option (List ℕ)) → (type ≢ Xtab → P pfn (record { type = type; page = page })) → EachFrame m → EachFrame (framed m pfn type page)
  framed_holds m pfn Xtab page holds each = remove_holds nat_cmp_total nat_cmp-IsAntisymmetric P m pfn each
  framed_holds m pfn _ page holds each = insert_holds nat_cmp_total nat_cmp-IsAntisymmetric P m pfn _ each (holds (λ e. cc))

pub frames_keep : (g : GuestOf) (pfn : ℕ) (type : PageType) (page : Option (List ℕ)) → (type ≢ Xtab → IsGuestFrame g.kind g.top pfn (record { type = type; page = page }))
    → IsFormed g → IsFormed (record g { frames = framed g.frames pfn type page })
frames_keep g pfn type page fits formed = record {
  top = formed.top;
  frames = framed_holds (IsGuestFrame g.kind g.top) g.frames pfn type page fits formed.frames;
  parts = formed.parts;
  policies = formed.policies;
}

-- ---- a guest without frames and parts

pub bare_formed : (kind : Kind) (top : ℕ) → IsTop kind top → IsFormed (record { kind = kind; top = top; frames = fin.empty; parts = fin.empty })
bare_formed kind top fits = record {
  top = fits;
  frames = λ pfn frame got. let no : None ≡ Some frame = sym (fin.get-empty nat_cmp pfn) ∙ got in cc;
  parts = λ key bytes got. let no : None ≡ Some bytes = sym (fin.get-empty part_cmp key) ∙ got in cc;
  policies = λ code one. subst (λ es. length (parts_of code es) ≤ most_policy_entries) (sym (nil_from_length (fin.entries fin.empty) (sym (fin.len-entries fin.empty) ∙ fin.len-empty part_cmp (List ℕ)))) (omega arith);
}

pub empty_formed : (kind : Kind) → IsFormed (record { kind = kind; top = 0; frames = fin.empty; parts = fin.empty })
empty_formed Pv = bare_formed Pv 0 (omega arith)
empty_formed Hvm = bare_formed Hvm 0 refl
