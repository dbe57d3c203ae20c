-- What the reader keeps of a record's content.
use Rattle.mig_libxl.proofs.Common.{◌≡◌, ℕ, ◌-◌, ◌≤◌, ◌<◌, true, false, List, length, take, drop, nat_eq, nat_le, nat_lt, Option, Some, None, Ok, refl, sym, ap, subst, ◌∙◌, arith, ◌||◌, le-leb, lt-leb, common_steps, ◌>>=◌, Passes, Cause, pairs_fault, ImageOf, LibxlContent, image_in, Image, Pairs, Context, EmulatorsOf, add_pairs, put_libxl_content, emulator_key, Holds, WrapperSeen, length-drop, le32, AgreesWithJudging, pairs_in, TakesLibxl, le-ltb, lt-ltb, take_all, none-some, same_Some, BadEmulator, TooManyPairs, EmulatorIndex, spelled_with, fine_pairs, most_pairs}
use Rattle.mig_restore_form.specs.Stream.{image_at}
use Rattle.mig_libxl_form.specs.Judging.{fault_of_pairs, fault_of_context, inner_at}

-- ---- the causes of an emulator's body

pub context_bad_id : (body : List ℕ) (id named : ℕ) → id ≡ le32 body 0 → named ≡ id → 3 ≤ id → fault_of_context body ≡ Some (BadEmulator named)
unfolding fault_of_context
context_bad_id body id named is same high =
    let over : nat_le 3 (le32 body 0) ≡ true = le-leb 3 (le32 body 0) (subst (λ k. 3 ≤ k) is high) in
    let to : named ≡ le32 body 0 = same ∙ is in rw (over, to) refl

pub context_bad_index : (body : List ℕ) (id index named : ℕ) → id ≡ le32 body 0 → index ≡ le32 body 4 → named ≡ index → id < 3 → 256 ≤ index → fault_of_context body ≡ Some (EmulatorIndex named)
unfolding fault_of_context
context_bad_index body id index named is at same low high =
    let known : nat_le 3 (le32 body 0) ≡ false = lt-leb 3 (le32 body 0) (subst (λ k. k < 3) is low) in
    let over : nat_le 256 (le32 body 4) ≡ true = le-leb 256 (le32 body 4) (subst (λ k. 256 ≤ k) at high) in
    let to : named ≡ le32 body 4 = same ∙ at in rw (known, over, to) refl

-- the slice, the id and the index that are read of a body
pub record IsRead (body slice : List ℕ) (id index : ℕ) : Type 0 where
  pub slice_is : slice ≡ drop 8 body
  pub id_is : id ≡ le32 body 0
  pub index_is : index ≡ le32 body 4

-- the slice behind the front of a body
pub behind_front : (body bytes slice : List ℕ) → body ≡ bytes → slice ≡ take (length body - 8) (drop 8 body) → slice ≡ drop 8 bytes
behind_front body bytes slice same is =
    is ∙ take_all (length body - 8) (drop 8 body) (omega (arith, length-drop 8 body)) ∙ ap (drop 8) same

-- each is read of the body as it is lent for this
pub are_read : (body for_id for_index for_slice slice : List ℕ) (id index : ℕ) → for_id ≡ body → for_index ≡ body → for_slice ≡ body → id ≡ le32 for_id 0 → index ≡ le32 for_index 4 → slice ≡ take (length for_slice - 8) (drop 8 for_slice) → IsRead body slice id index
are_read body for_id for_index for_slice slice id index same alike again id_is index_is slice_is = record {
  slice_is = behind_front for_slice body slice again slice_is;
  id_is = id_is ∙ ap (λ l. le32 l 0) same;
  index_is = index_is ∙ ap (λ l. le32 l 4) alike;
}

pub read_in : {body slice : List ℕ} {id index : ℕ} (bytes : List ℕ) → IsRead body slice id index → bytes ≡ body → IsRead bytes slice id index
read_in bytes read is = rw is read

module _ (e : EmulatorsOf) (body slice : List ℕ) (id index : ℕ) (r : IsRead body slice id index) where
  pub pairs_bad : (c : Cause) → pairs_fault slice ≡ Some c → fault_of_pairs e body ≡ Some c
  unfolding fault_of_pairs
  pairs_bad c h = let bad : pairs_fault (drop 8 body) ≡ Some c = ap pairs_fault (sym r.slice_is) ∙ h in rw bad refl

  fine_slice : pairs_fault slice ≡ None → pairs_fault (drop 8 body) ≡ None
  fine_slice none = ap pairs_fault (sym r.slice_is) ∙ none

  pub pairs_bad_id : (named : ℕ) → pairs_fault slice ≡ None → named ≡ id → 3 ≤ id → fault_of_pairs e body ≡ Some (BadEmulator named)
  unfolding fault_of_pairs
  pairs_bad_id named none same high =
      let over : nat_le 3 (le32 body 0) ≡ true = le-leb 3 (le32 body 0) (subst (λ k. 3 ≤ k) r.id_is high) in
      let to : named ≡ le32 body 0 = same ∙ r.id_is in
      let fine = fine_slice none in rw (fine, over, to) refl

  -- the pairs that these make of a store
  pub spelled_len : spelled_with e (record { code = 258; key1 = id; key2 = index }) (pairs_in slice) ≡ spelled_with e (emulator_key 258 body) (pairs_in (drop 8 body))
  spelled_len =
      ap (λ l. spelled_with e (record { code = 258; key1 = id; key2 = index }) (pairs_in l)) r.slice_is
      ∙ ap (λ n. spelled_with e (record { code = 258; key1 = n; key2 = index }) (pairs_in (drop 8 body))) r.id_is
      ∙ ap (λ n. spelled_with e (record { code = 258; key1 = le32 body 0; key2 = n }) (pairs_in (drop 8 body))) r.index_is

  pub pairs_too_many : pairs_fault slice ≡ None → id < 3 → most_pairs < spelled_with e (record { code = 258; key1 = id; key2 = index }) (pairs_in slice) → fault_of_pairs e body ≡ Some TooManyPairs
  unfolding fault_of_pairs
  pairs_too_many none low many =
      let known : nat_le 3 (le32 body 0) ≡ false = lt-leb 3 (le32 body 0) (subst (λ k. k < 3) r.id_is low) in
      let full : nat_lt most_pairs (spelled_with e (emulator_key 258 body) (pairs_in (drop 8 body))) ≡ true = lt-ltb most_pairs (spelled_with e (emulator_key 258 body) (pairs_in (drop 8 body))) (subst (λ n. most_pairs < n) spelled_len many) in
      let fine = fine_slice none in rw (fine, known, full) refl

  pub pairs_bad_index : (named : ℕ) → pairs_fault slice ≡ None → id < 3 → spelled_with e (record { code = 258; key1 = id; key2 = index }) (pairs_in slice) ≤ most_pairs → named ≡ index → 256 ≤ index → fault_of_pairs e body ≡ Some (EmulatorIndex named)
  unfolding fault_of_pairs
  pairs_bad_index named none low fits same high =
      let known : nat_le 3 (le32 body 0) ≡ false = lt-leb 3 (le32 body 0) (subst (λ k. k < 3) r.id_is low) in
      let room : nat_lt most_pairs (spelled_with e (emulator_key 258 body) (pairs_in (drop 8 body))) ≡ false = le-ltb _ _ (subst (λ n. n ≤ most_pairs) spelled_len fits) in
      let over : nat_le 256 (le32 body 4) ≡ true = le-leb 256 (le32 body 4) (subst (λ k. 256 ≤ k) r.index_is high) in
      let to : named ≡ le32 body 4 = same ∙ r.index_is in
      let fine = fine_slice none in rw (fine, known, room, over, to) refl

  pub pairs_fine : pairs_fault slice ≡ None → id < 3 → spelled_with e (record { code = 258; key1 = id; key2 = index }) (pairs_in slice) ≤ most_pairs → index < 256 → fault_of_pairs e body ≡ None
  pairs_fine none low fits small = fine_pairs e body (record {
    pairs = fine_slice none;
    known = subst (λ k. k < 3) r.id_is low;
    fits = subst (λ n. n ≤ most_pairs) spelled_len fits;
    small = subst (λ k. k < 256) r.index_is small;
  })

  pub pairs_put : add_pairs e (record { code = 258; key1 = id; key2 = index }) (pairs_in slice) ≡ put_libxl_content e (Pairs (emulator_key 258 body) (pairs_in (drop 8 body)))
  pairs_put = rw (r.slice_is, r.id_is, r.index_is) refl

  pub context_put : put_libxl_content e (Context (record { code = 259; key1 = id; key2 = index }) slice) ≡ put_libxl_content e (Context (emulator_key 259 body) (drop 8 body))
  context_put = rw (r.slice_is, r.id_is, r.index_is) refl

-- ---- what is kept

pub takes_of : {I : Type 0} (is_of : I → ImageOf → Type 0) (old new : WrapperSeen I) (type : ℕ) (c : LibxlContent) → image_in c ≡ None → (nat_eq type 2 || nat_eq type 3) ≡ true → new.emulators ≡ put_libxl_content old.emulators c → new.emulated ≡ true → new.image ≡ old.image → new.records ≡ old.records → TakesLibxl is_of old new type c
takes_of is_of old new type c none of_emulator emulators emulated image records = record {
  emulators = emulators;
  emulated = emulated ∙ grind (arith, common_steps, of_emulator);
  first = λ i is. absurd (none-some i (sym none ∙ is));
  image = λ i is. absurd (none-some i (sym none ∙ is));
  others = λ _. image;
  records = records;
}

-- ---- the image

pub image_read : {I : Type 0} (is_of : I → ImageOf → Type 0) (old new : WrapperSeen I) (a b : Option (List ℕ)) (kept : I) → old.image ≡ None → new.emulators ≡ old.emulators → new.emulated ≡ old.emulated → new.image ≡ Some kept → new.records ≡ old.records
    → AgreesWithJudging is_of a b image_at (Ok kept) → AgreesWithJudging {X = Unit {0}} (λ _ c. TakesLibxl is_of old new 1 c) a b inner_at (Ok tt)
image_read is_of old new None b kept none emulators emulated image records h = tt
image_read {I = I} is_of old new (Some i) b kept none emulators emulated image records (im, rest, is, left, read) = (
  Image im,
  rest,
  ap (λ j. j >>= λ x. Passes (Image x.0) x.1) is,
  left,
  record {
    emulators = emulators;
    emulated = emulated ∙ grind (arith, common_steps);
    first = λ _ _. none;
    image = λ j e. subst (λ (o : Option I). Holds is_of o (Some j)) (sym image) (subst (is_of kept) (same_Some im j e) read);
    others = λ no. absurd (none-some im (sym no));
    records = records;
  },
)
