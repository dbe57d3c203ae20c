-- Bytes that are read as a host begin with its image, and the host is valid.
use Rattle.mig_image.proofs.Common.{◌≡◌, ℕ, ◌<◌, ◌≤◌, Bool, true, false, not, nat_eq, nat_lt, List, ◌++◌, length, None, refl, sym, ap, subst, ◌∙◌, arith, ◌&&◌, flat_map, not-false, or_parts, ltb-false, eqb-true, eqb-false, recursion_from_All, little_bytes, AreBytes, Passes, kind_number, kind_of_number, Truncated, Head, Parts, Pv, Hvm, PartKey, HostOf, HostFrame, IsValid, frame_text, part_text, IsGuestImageUpTo, GuestImageVersion, One, Two, cond, ◌||◌, head_version, top_limit, most_width, most_width_of, name_number, version_named, opened, behind_head, Bytes, bytes_front, bytes_back, rows_fine, placed_form, judged_as, first_named, host_head_causes, host_head_form, frames_form, host_parts_form, count_form, behind_frames, guest_image_form, host_at, both_go, bytes_gone, placed_gone, said_passes, most_frames, valid_empty}
use Rattle.std.specs.FinMap as maps
use Rattle.mig_bytes.specs.Fields.{le32, le64, be64}
use Rattle.mig_image.specs.GuestImage.{host_head, guest_image}
use Rattle.mig_image.proofs.FieldBytes.{name_then, word_then, long_then, long_last, regroup}
use Rattle.mig_image.proofs.Chains.{Chain, put_all}
use Rattle.mig_image.proofs.Frames.{FrameFits, with_frames, frames_back, frame_entries, frames_valid}
use Rattle.mig_image.proofs.Parts.{IsPvNarrow, PartFits, with_parts, parts_back, part_entries, parts_valid}

-- ---- the head

kind_known : (n : ℕ) → (not (nat_eq n 1) && not (nat_eq n 2)) ≡ false → kind_number (kind_of_number n) ≡ n
kind_known n h = by (nat_eq n 1) (nat_eq n 2) refl refl h
  where
    by : (a b : Bool) → nat_eq n 1 ≡ a → nat_eq n 2 ≡ b → (not a && not b) ≡ false → kind_number (kind_of_number n) ≡ n
    by true b p q h = let e : n ≡ 1 = eqb-true n 1 p in ap (λ m. kind_number (kind_of_number m)) e ∙ sym e
    by false true p q h = let e : n ≡ 2 = eqb-true n 2 q in ap (λ m. kind_number (kind_of_number m)) e ∙ sym e
    by false false p q h = cc

head_back : (version : GuestImageVersion) (h : HostOf) (head : List ℕ) → Bytes head → length head ≡ 32 → be64 head 0 ≡ name_number version → kind_number h.kind ≡ le32 head 8 → 0 ≡ le32 head 12 → h.width ≡ le64 head 16 → length (maps.entries h.frames) ≡ le64 head 24
    → host_head version h ≡ head
unfolding host_head
head_back version h head all size name kind none width count =
    name_then head all version (omega (arith, size)) name (word_then head all 8 (omega (arith, size)) kind (word_then head all 12 (omega (arith, size)) none
    (long_then head all 16 (omega (arith, size)) width (long_last head all 24 size count))))

-- one of the names is that of the version
named : (n : ℕ) → (not (nat_eq n (name_number One)) && not (nat_eq n (name_number Two))) ≡ false → n ≡ name_number (version_named n)
named n h = by (nat_eq n (name_number Two)) (nat_eq n (name_number One)) refl refl h
  where
    by : (two one : Bool) → nat_eq n (name_number Two) ≡ two → nat_eq n (name_number One) ≡ one → (not one && not two) ≡ false → n ≡ name_number (cond two Two One)
    by true one p q h = eqb-true n (name_number Two) p
    by false true p q h = eqb-true n (name_number One) q
    by false false p q h = cc

-- what a head without a fault says, where hosts up to this width are taken
pub record HeadFine (widest : ℕ) (head : List ℕ) : Type 0 where
  pub name : be64 head 0 ≡ name_number (head_version head)
  pub kind : kind_number (kind_of_number (le32 head 8)) ≡ le32 head 8
  pub none : 0 ≡ le32 head 12
  pub narrow : le64 head 16 ≤ widest
  pub holds : le64 head 16 ≤ most_width_of (head_version head)
  pub some_width : kind_of_number (le32 head 8) ≡ Pv → 0 < le64 head 16
  pub pv_narrow : IsPvNarrow (kind_of_number (le32 head 8)) (le64 head 16)
  pub few : le64 head 24 ≤ most_frames

pv_width : (is_pv : Bool) (width : ℕ) → (is_pv && (nat_eq width 0 || nat_lt top_limit width)) ≡ false → cond is_pv Pv Hvm ≡ Pv → (0 < width) × (width ≤ top_limit)
pv_width true width h is =
    let p = or_parts (nat_eq width 0) (nat_lt top_limit width) h in (positive width p.0, ltb-false top_limit width p.1)
  where
    positive : (n : ℕ) → nat_eq n 0 ≡ false → 0 < n
    positive n h = let differs = eqb-false n 0 h in omega arith
pv_width false width h is = absurd (apart is)
  where
    apart : Hvm ≡ Pv → ⊥
    apart e = cc

pub head_fine : (widest : ℕ) (head : List ℕ) → first_named (host_head_causes widest head) ≡ None → HeadFine widest head
head_fine widest head fine =
    let version = head_version head in
    let is_pv = nat_eq (le32 head 8) 1 in
    let width = le64 head 16 in
    let count = le64 head 24 in
    let (name, (known, (reserved, (wide, (many, end))))) = rows_fine (host_head_causes widest head) fine in
    let w = or_parts (nat_lt widest width) (nat_lt (most_width_of version) width || (is_pv && (nat_eq width 0 || nat_lt top_limit width))) wide in
    let v = or_parts (nat_lt (most_width_of version) width) (is_pv && (nat_eq width 0 || nat_lt top_limit width)) w.1 in
    let m = or_parts (nat_lt most_frames count) (nat_lt width count) many in
    record {
      name = named (be64 head 0) name;
      kind = kind_known (le32 head 8) known;
      none = sym (eqb-true (le32 head 12) 0 (not-false (nat_eq (le32 head 12) 0) reserved));
      narrow = ltb-false widest width w.0;
      holds = ltb-false (most_width_of version) width v.0;
      some_width = λ is. (pv_width is_pv width v.1 is).0;
      pv_narrow = λ is. (pv_width is_pv width v.1 is).1;
      few = ltb-false most_frames count m.0;
    }

-- ---- the number of parts

count_back : (i : List ℕ) (n : ℕ) (rest : List ℕ) → Bytes i → judged_as count_form i ≡ Passes n rest → i ≡ little_bytes 8 n ++ rest
unfolding judged_as
count_back i n rest all is =
    let s = said_passes Truncated (λ _. None) (λ b. le64 b 0) 8 i n rest is in
    let bytes : Bytes s.bytes = bytes_front i s.bytes rest s.whole all in
    s.whole ∙ ap (λ l. l ++ rest) (sym (long_last s.bytes bytes 0 s.size refl) ∙ ap (little_bytes 8) s.value)

-- ---- the whole

-- the host that frames give, so far without parts
abbrev framed : List ℕ → List (ℕ × HostFrame) → HostOf
framed head es = with_frames (opened head) (put_all maps.empty es)

joined : (input head at_frames frames at_count count at_parts parts rest : List ℕ) → input ≡ head ++ at_frames → at_frames ≡ frames ++ at_count → at_count ≡ count ++ at_parts → at_parts ≡ parts ++ rest
    → input ≡ (head ++ (frames ++ (count ++ parts))) ++ rest
joined input head at_frames frames at_count count at_parts parts rest a b c d =
    regroup input at_frames rest head (frames ++ (count ++ parts)) a (regroup at_frames at_count rest frames (count ++ parts) b (regroup at_count at_parts rest count parts c d))

-- an image of these pieces
image_of : (version : GuestImageVersion) (g : HostOf) (head : List ℕ) (fs : List (ℕ × HostFrame)) (n : ℕ) (ps : List (PartKey × List ℕ)) → host_head version g ≡ head → maps.entries g.frames ≡ fs → length (maps.entries g.parts) ≡ n → maps.entries g.parts ≡ ps
    → guest_image version g ≡ head ++ (flat_map (frame_text version) fs ++ (little_bytes 8 n ++ flat_map part_text ps))
unfolding guest_image
image_of version g head fs n ps a b c d = rw (a, c, b, d) refl

module _ (widest : ℕ) (few_widths : widest ≤ most_width) (head : List ℕ) (bytes : Bytes head) (size : length head ≡ 32) (said : HeadFine widest head) (fs : List (ℕ × HostFrame)) (few : length fs ≡ le64 head 24) (fits : Chain (FrameFits (opened head).kind (opened head).width) maps.empty fs)
    (ps : List (PartKey × List ℕ)) (stand : Chain (PartFits (opened head).kind (opened head).width) maps.empty ps) where
  abbrev version : GuestImageVersion
  version = head_version head

  abbrev given : HostOf
  given = with_parts (framed head fs) (put_all maps.empty ps)

  given_valid : IsValid given
  given_valid =
      let small : le64 head 16 ≤ most_width = omega (arith, few_widths, said.narrow) in
      let none = valid_empty (kind_of_number (le32 head 8)) (le64 head 16) small said.some_width said.pv_narrow in
      parts_valid (framed head fs) ps (frames_valid (opened head) fs none fits (subst (λ n. n ≤ most_frames) (sym few) said.few)) stand

  given_image : guest_image version given ≡ head ++ (flat_map (frame_text version) fs ++ (little_bytes 8 (length ps) ++ flat_map part_text ps))
  given_image =
      let frames : maps.entries given.frames ≡ fs = frame_entries (opened head) fs fits in
      let parts : maps.entries given.parts ≡ ps = part_entries (framed head fs) ps stand in
      image_of version given head fs (length ps) ps (head_back version given head bytes size said.name said.kind said.none refl (ap length frames ∙ few)) frames (ap length parts) parts

pub image_back : (widest : ℕ) (input : List ℕ) (h : HostOf) (rest : List ℕ) → widest ≤ most_width → AreBytes input → host_at widest input ≡ Passes h rest → IsGuestImageUpTo widest input h rest
unfolding guest_image_form
image_back widest input h rest few_widths are is =
    let all : Bytes input = recursion_from_All (λ b. b < 256) input are in
    let a = both_go (placed_form Head (host_head_form widest)) behind_head input h rest is in
    let p = bytes_gone Truncated 32 (host_head_causes widest) input a.x a.mid (placed_gone Head (host_head_form widest) input a.x a.mid a.first) in
    let version = head_version a.x in
    let in_frames : Bytes a.mid = bytes_back input a.x a.mid p.0 all in
    let b = both_go (frames_form version (opened a.x) (le64 a.x 24)) behind_frames a.mid h rest a.second in
    let f = frames_back version (opened a.x) (le64 a.x 24) a.mid b.x b.mid in_frames b.first in
    let in_count : Bytes b.mid = bytes_back a.mid (flat_map (frame_text version) f.es) b.mid f.whole in_frames in
    let c = both_go (placed_form Parts count_form) (host_parts_form b.x) b.mid h rest b.second in
    let n = count_back b.mid c.x c.mid in_count (placed_gone Parts count_form b.mid c.x c.mid c.first) in
    let in_parts : Bytes c.mid = bytes_back b.mid (little_bytes 8 c.x) c.mid n in_count in
    let q = parts_back (framed a.x f.es) c.x c.mid h rest in_parts (subst (λ x. judged_as (host_parts_form x c.x) c.mid ≡ Passes h rest) f.is c.second) in
    let bytes = bytes_front input a.x a.mid p.0 all in
    let said = head_fine widest a.x p.2 in
    let counted : b.mid ≡ little_bytes 8 (length q.es) ++ c.mid = n ∙ ap (λ k. little_bytes 8 k ++ c.mid) (sym q.size) in
    subst (λ (g : HostOf). IsGuestImageUpTo widest input g rest) (sym q.is) (record {
      image = record {
        version = version;
        valid = given_valid widest few_widths a.x bytes p.1 said f.es f.size f.chain q.es q.chain;
        holds = said.holds;
        spelled =
            joined input a.x a.mid (flat_map (frame_text version) f.es) b.mid (little_bytes 8 (length q.es)) c.mid (flat_map part_text q.es) rest p.0 f.whole counted q.whole
            ∙ ap (λ l. l ++ rest) (sym (given_image widest few_widths a.x bytes p.1 said f.es f.size f.chain q.es q.chain));
      };
      narrow = said.narrow;
    })
