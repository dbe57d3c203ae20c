-- What reading keeps of a guest: each frame, part or list of P2M frames that is set leaves it on its way.
use Rattle.mig_restore_form.proofs.Common.{◌≡◌, ◌≢◌, ℕ, ◌≤◌, ◌<◌, List, [], ◌∷◌, length, Bool, true, false, cond, nat_eq, Option, Some, None, is_some, refl, sym, ap, subst, ◌∙◌, AllByRecursion, same_Some, none-some, ltb-false, arith, ne_eqb, unwrap_or, AreBytes, Kind, Pv, Hvm, pfn_limit, type_has_data, PageType, IsInside, EachEntry, IsWithin, GuestOf, Part, PartMap, p2m_key, part_cmp, record_row_of, type_number, type_of_number, RecordType, numbers_are_inverse, PartCode, code_number, shape_of, has_shape, fault_of_body, parts_of_body, set_p2m, IsP2m, IsBody, bodies_are_spelled, code_of_type, type_in_guest, Sets, says_of_part, last_bytes, parts_say_of_part, policy_says_of_part, empty_guest, IsBegun, GrewByRecord, word_pfn, option_map, option_or, eq_by_cmp, nat_cmp, nat_cmp_total, is_policy, FrameMap, FrameOf, framed, PartKey, tied, part_total, part_exact, End, listed_over, bytes_back, most_body, AreParts, is_emulator_code, width_of, row_of, set_parts, HasBodyLength, nat_cmp-IsAntisymmetric, Xtab, is_type_of, Each, insert_holds, remove_holds, is_outside, IsSmallKey, bodies_say_bytes, sets_bytes, list_bytes}
use Rattle.mig_guest.proofs.Kept.{empty_formed, frames_keep}
use Rattle.mig_guest.proofs.PartRows.{number_found}
use Rattle.mig_records.proofs.Kept.{bodies_say_parts, bodies_keep_formed, set_plain, sets_nothing}
use Rattle.mig_records.proofs.P2mFormed.{p2m_keeps}
use Rattle.mig_restore_form.proofs.Meaning.{said}
use Rattle.std.specs.FinMap as fin

-- ---- steps

pub grows_not : (g : GuestOf) → GrewByRecord g g
grows_not g = record { kind = refl; kept = λ begun. begun }

pub grows_on : (g h k : GuestOf) → GrewByRecord g h → GrewByRecord h k → GrewByRecord g k
grows_on g h k a b = record { kind = b.kind ∙ a.kind; kept = λ begun. b.kept (a.kept begun) }

moved : (g h k : GuestOf) → k ≡ h → GrewByRecord g h → GrewByRecord g k
moved g h k is grows = subst (GrewByRecord g) (sym is) grows

-- a guest without frames and parts is on its way
pub empty_begun : (kind : Kind) → IsBegun (empty_guest kind)
empty_begun kind = record {
  formed = empty_formed kind;
  plain = λ key b got. absurd (none-some b (sym (fin.get-empty part_cmp key) ∙ got));
  start = λ none. refl;
  bytes = record {
    pages = λ pfn frame page got. absurd (none-some frame (sym (fin.get-empty nat_cmp pfn) ∙ got));
    parts = λ key b got. absurd (none-some b (sym (fin.get-empty part_cmp key) ∙ got));
  };
}

-- ---- frames

meant_is : (kind : Kind) (t : PageType) → type_in_guest kind t ≢ Xtab → is_type_of kind (type_in_guest kind t) ≡ true
meant_is Pv Xtab there = absurd (there refl)
meant_is Pv _ there = refl
meant_is Hvm Xtab there = absurd (there refl)
meant_is Hvm _ there = refl

-- the page of a frame is of bytes
abbrev IsFrameOfBytes : ℕ → FrameOf → Type 0
IsFrameOfBytes pfn frame = (page : List ℕ) → frame.page ≡ Some page → AreBytes page

abbrev HoldsPages : FrameMap → Type 0
HoldsPages m = Each nat_cmp_total nat_cmp-IsAntisymmetric IsFrameOfBytes m

framed_bytes : (m : FrameMap) (pfn : ℕ) (type : PageType) (page : Option (List ℕ)) → ((bytes : List ℕ) → page ≡ Some bytes → AreBytes bytes) → HoldsPages m → HoldsPages (framed m pfn type page)
framed_bytes m pfn Xtab page all before = remove_holds nat_cmp_total nat_cmp-IsAntisymmetric IsFrameOfBytes m pfn before
framed_bytes m pfn _ page all before = insert_holds nat_cmp_total nat_cmp-IsAntisymmetric IsFrameOfBytes m pfn _ before all

-- a frame that a word and its page may set
pub record CanBeSet (g : GuestOf) (pfn : ℕ) (meant : PageType) (page : Option (List ℕ)) : Type 0 where
  pub small : pfn < pfn_limit
  pub inside : IsInside g.kind g.top pfn
  pub in_step : is_some page ≡ type_has_data meant
  pub whole : (bytes : List ℕ) → page ≡ Some bytes → length bytes ≡ 4096
  pub all : (bytes : List ℕ) → page ≡ Some bytes → AreBytes bytes
  pub entries : EachEntry (IsWithin g.top) (record { type = meant; page = page })

pub grows_frame : (g h : GuestOf) (t meant : PageType) (pfn : ℕ) (page : Option (List ℕ)) → meant ≡ type_in_guest g.kind t → CanBeSet g pfn meant page → h ≡ record g { frames = framed g.frames pfn meant page } → GrewByRecord g h
grows_frame g h t meant pfn page is can now = moved g (record g { frames = framed g.frames pfn meant page }) h now (record {
  kind = refl;
  kept = λ begun. record {
    formed = frames_keep g pfn meant page (λ there. record {
      small = can.small;
      inside = can.inside;
      is = record { there = there; in_step = can.in_step; whole = can.whole };
      type = ap (is_type_of g.kind) is ∙ meant_is g.kind t (subst (λ m. m ≢ Xtab) is there);
      entries = can.entries;
    }) begun.formed;
    plain = begun.plain;
    start = begun.start;
    bytes = record {
      pages = λ n frame bytes got has. framed_bytes g.frames pfn meant page can.all (λ k f there p is. begun.bytes.pages k f p there is) n frame got bytes has;
      parts = begun.bytes.parts;
    };
  };
})

-- what a word names inside the guest lies inside
pub word_inside : (kind : Kind) (top w : ℕ) → is_outside kind top (word_pfn w) ≡ false → (word_pfn w < pfn_limit) × IsInside kind top (word_pfn w)
word_inside Pv top w is = (omega arith, ltb-false top (word_pfn w) is)
word_inside Hvm top w is = (omega arith, tt)

-- ---- parts

-- the type of a record that sets parts, and their code
module _ (this : RecordType) (code : PartCode) (is : code_of_type this ≡ Some code) where
  number_is : type_number this ≡ code_number code
  number_is = number_found (type_number this) code is

  -- the length that the record's type has
  pub has_length : (len : ℕ) → (record_row_of this).allows len ≡ true → HasBodyLength code len
  has_length len allowed type named =
      let same : this ≡ type = same_Some this type (sym (numbers_are_inverse.type_of this) ∙ ap type_of_number number_is ∙ named) in
      subst (λ (t : RecordType). (record_row_of t).allows len ≡ true) same allowed

kind_of : Option PartCode → Kind → Bool
kind_of None kind = false
kind_of (Some code) kind = (row_of code).of_kind kind

pub same_kinds : (this : RecordType) (code : PartCode) → code_of_type this ≡ Some code → (kind : Kind) → (record_row_of this).of_kind kind ≡ (row_of code).of_kind kind
unfolding kind_of
same_kinds End code is kind = cc
same_kinds _ code is kind = cc (ap (λ o. kind_of o kind) is)

no_emulator : (this : RecordType) → is_emulator_code (type_number this) ≡ false
no_emulator End = refl
no_emulator _ = refl

pub sets_no_emulator : (this : RecordType) (code : PartCode) → code_of_type this ≡ Some code → is_emulator_code (code_number code) ≡ false
sets_no_emulator this code is = ap is_emulator_code (sym (number_is this code is)) ∙ no_emulator this

-- where there is no list of P2M frames behind a content that sets parts, there was none before it
list_before : (g : GuestOf) (code : PartCode) (ps : List Part) → fin.get (set_parts code g.parts ps) p2m_key ≡ None → fin.get g.parts p2m_key ≡ None
list_before g code ps none = by (is_policy (code_number code)) refl (sym (said g (Sets code ps) p2m_key (λ last frames e. cc)) ∙ none)
  where
    nothing : (o p : Option (List ℕ)) → unwrap_or (option_map Some o) p ≡ None → p ≡ None
    nothing None p is = is
    nothing (Some x) p is = cc

    policy : (rs : List Part) (p : Option (List ℕ)) → is_policy (code_number code) ≡ true → unwrap_or (policy_says_of_part p2m_key (code_number code) rs) p ≡ None → p ≡ None
    policy [] p is none = none
    policy (r ∷ rs) p is none =
        let other : nat_eq 3 (code_number code) ≡ false = no_policy (code_number code) is in
        nothing (last_bytes p2m_key (r ∷ rs)) p (sym (or_none (parts_say_of_part p2m_key (r ∷ rs)) p (nat_eq 3 (code_number code)) other) ∙ none)
      where
        no_policy : (n : ℕ) → is_policy n ≡ true → nat_eq 3 n ≡ false
        no_policy n is = ne_eqb 3 n (λ e. let no : false ≡ true = ap is_policy e ∙ is in cc)

        or_none : (o : Option (Option (List ℕ))) (p : Option (List ℕ)) (b : Bool) → b ≡ false → unwrap_or (option_or o (cond b (Some None) None)) p ≡ unwrap_or o p
        or_none None p b is = rw is refl
        or_none (Some x) p b is = refl

    by : (b : Bool) → is_policy (code_number code) ≡ b → unwrap_or (says_of_part p2m_key (Sets code ps)) (fin.get g.parts p2m_key) ≡ None → fin.get g.parts p2m_key ≡ None
    by true is h = policy ps (fin.get g.parts p2m_key) is (ap (λ b. unwrap_or (cond b (policy_says_of_part p2m_key (code_number code) ps) (parts_say_of_part p2m_key ps)) (fin.get g.parts p2m_key)) (sym is) ∙ h)
    by false is h = nothing (last_bytes p2m_key ps) (fin.get g.parts p2m_key) (ap (λ b. unwrap_or (cond b (policy_says_of_part p2m_key (code_number code) ps) (parts_say_of_part p2m_key ps)) (fin.get g.parts p2m_key)) (sym is) ∙ h)

-- a body that sets parts of a code that is no emulator's
pub grows_sets : (code : PartCode) (g h : GuestOf) (body : List ℕ) → (row_of code).of_kind g.kind ≡ true → is_emulator_code (code_number code) ≡ false → HasBodyLength code (length body) → length body ≤ most_body → AreBytes body
    → fault_of_body code body ≡ None → AllByRecursion (λ p. IsSmallKey p.0) (parts_of_body code body) → h ≡ record g { parts = set_parts code g.parts (parts_of_body code body) } → GrewByRecord g h
grows_sets code g h body of_kind no_emulator has short all fine small now = by (has_shape (shape_of code)) refl
  where
    by : (b : Bool) → has_shape (shape_of code) ≡ b → GrewByRecord g h
    by true shaped =
        let ps = parts_of_body code body in
        let says : IsBody code body ps = (bodies_are_spelled code body ps shaped).0 (fine, refl) in
        let are : AreParts g.kind (width_of g) (code_number code) ps = bodies_say_parts code g.kind (width_of g) body ps of_kind has short says small in
        moved g (record g { parts = set_parts code g.parts ps }) h now (record {
          kind = refl;
          kept = λ begun. record {
            formed = bodies_keep_formed code g body ps of_kind has short says small begun.formed;
            plain = set_plain code g.kind (width_of g) no_emulator g.parts ps are begun.plain;
            start = λ none. begun.start (list_before g code ps none);
            bytes = record { pages = begun.bytes.pages; parts = sets_bytes code g.parts ps (bodies_say_bytes code body ps says all) begun.bytes.parts };
          };
        })
    by false other = moved g g h (now ∙ ap (λ (m : PartMap). record g { parts = m }) (sets_nothing code body other g.parts)) (grows_not g)

-- ---- the list of P2M frames

pub grows_list : (g h : GuestOf) (last : ℕ) (frames body : List ℕ) → g.kind ≡ Pv → AreBytes body → IsP2m last frames body → h ≡ set_p2m last frames g → GrewByRecord g h
grows_list g h last frames body pv all is now = moved g (set_p2m last frames g) h now (record {
  kind = refl;
  kept = λ begun. record {
    formed = p2m_keeps g pv begun.formed begun.start last frames body all is;
    plain = λ key bytes got. by key bytes (eq_by_cmp part_cmp key p2m_key) refl (begun.plain key bytes) (sym (fin.get-insert part_total g.parts p2m_key (listed_over frames (fin.get g.parts p2m_key)) key) ∙ got);
    start = λ none. absurd (none-some _ (sym none ∙ fin.get-insert part_total g.parts p2m_key (listed_over frames (fin.get g.parts p2m_key)) p2m_key));
    bytes = record { pages = begun.bytes.pages; parts = list_bytes last frames g (bytes_back is.front frames (subst AreBytes is.whole all)) begun.bytes.parts };
  };
})
  where
    by : (key : PartKey) (bytes : List ℕ) (b : Bool) → eq_by_cmp part_cmp key p2m_key ≡ b → (fin.get g.parts key ≡ Some bytes → is_emulator_code key.code ≡ false) → cond b (Some (listed_over frames (fin.get g.parts p2m_key))) (fin.get g.parts key) ≡ Some bytes
        → is_emulator_code key.code ≡ false
    by key bytes true same plain got = let at : key ≡ p2m_key = part_exact key p2m_key (tied (part_cmp key p2m_key) same) in ap (λ (k : PartKey). is_emulator_code k.code) at
    by key bytes false other plain got = plain got
