-- The pieces of an image, as they are put together and written one behind the other.
use Rattle.mig_image.proofs.Common.{◌≡◌, ℕ, ◌+◌, ◌<◌, ◌≤◌, List, [], ◌∷◌, ◌++◌, length, take, drop, Option, Result, refl, sym, ap, subst, ◌∙◌, arith, take-append-drop, drop-drop, append-nil, ◌^◌, codes, length-drop, flat_map-append, take_all, All-head, All-drop, All-from_recursion, All, AllByRecursion, flat_map, IsErrAnd, Appends, little_bytes, AppendsPart, Puts, puts_then, puts_stop, puts_same, kind_number, Kind, PartKey, HostOf, PartMap, part_total, part_exact, frame_text, Two, Appends-trans, each_entry, HaveRoom, parts_text}
use Rattle.std.proofs.lemmas.List.{length-drop}
use Rattle.std.proofs.Math.Seq.{take-add}
use Rattle.std.specs.FinMap as maps
use Rattle.mig_bytes.specs.declared.failure.WriteFailed.{WriteFailed}
use Rattle.mig_image.specs.GuestImage.{host_head, guest_image}

module _ {X : Type 0} where
  pub drop_next : (i : ℕ) (xs rest : List X) (x : X) → drop i xs ≡ x ∷ rest → drop (i + 1) xs ≡ rest
  drop_next i xs rest x h = sym (drop-drop 1 i xs) ∙ ap (drop 1) h

  -- a place within the list isn't its end
  pub not_ended : (i n : ℕ) (xs : List X) → drop i xs ≡ [] → i < n → n ≡ length xs → ⊥
  not_ended i n xs h less is = omega (arith, sym (length-drop i xs) ∙ ap length h, is)

  pub ended_early : (i n : ℕ) (xs : List X) → drop i xs ≡ [] → i < n → n ≤ length xs → ⊥
  ended_early i n xs h less le = omega (arith, sym (length-drop i xs) ∙ ap length h, le)

  -- what holds of all holds at a place
  pub holds_at : (P : X → Type 0) (i : ℕ) (xs rest : List X) (x : X) → drop i xs ≡ x ∷ rest → AllByRecursion P xs → P x
  holds_at P i xs rest x h all = All-head P x rest (subst (All P) h (All-drop P i xs (All-from_recursion P xs all)))

module _ {Y : Type 0} (F : Y → List ℕ) (all : List Y) (i : ℕ) (e : Y) (rest : List Y) where
  pub flat_next : drop i all ≡ e ∷ rest → flat_map F (take (i + 1) all) ≡ flat_map F (take i all) ++ F e
  flat_next h = ap (flat_map F) (take-add i 1 all ∙ ap (λ l. take i all ++ take 1 l) h) ∙ flat_map-append F (take i all) (e ∷ []) ∙ ap (λ l. flat_map F (take i all) ++ l) (append-nil (F e))

  flat_split : drop i all ≡ e ∷ rest → flat_map F all ≡ flat_map F (take i all) ++ (F e ++ flat_map F rest)
  flat_split h = ap (flat_map F) (sym (take-append-drop i all) ∙ ap (λ l. take i all ++ l) h) ∙ flat_map-append F (take i all) (e ∷ rest)

  -- one more was written
  pub walk_on : (a b c : Option (List ℕ)) → drop i all ≡ e ∷ rest → Appends a b (flat_map F (take i all)) → Appends b c (F e) → Appends a c (flat_map F (take (i + 1) all))
  walk_on a b c is before more = subst (Appends a c) (sym (flat_next is)) (Appends-trans a b c (flat_map F (take i all)) (F e) before more)

  -- its writing failed
  pub walk_stop : {X : Type 0} (a b c : Option (List ℕ)) (d x : WriteFailed) (r : Result X WriteFailed) → drop i all ≡ e ∷ rest
      → Appends a b (flat_map F (take i all)) → IsErrAnd r (λ y. y ≡ d) → AppendsPart b c (F e) → Puts (flat_map F all) a c r
  walk_stop a b c d x r is before failed part = puts_same _ _ a c r (flat_split is) (puts_then _ _ a b c r before (puts_stop _ _ b c x d r failed part))

-- all were written
pub walked : {Y : Type 0} (F : Y → List ℕ) (all : List Y) (i n : ℕ) (a b : Option (List ℕ)) → n ≤ i → n ≡ length all → Appends a b (flat_map F (take i all)) → Appends a b (flat_map F all)
walked F all i n a b done is before = subst (λ l. Appends a b (flat_map F l)) (take_all i all (omega (arith, is))) before

-- the image of a host, where its numbers are told
pub image_is : (h : HostOf) (head : List ℕ) (kind : Kind) (width frames : ℕ)
    → head ≡ codes "XGIMAGE2" ++ (little_bytes 4 (kind_number kind) ++ (little_bytes 4 0 ++ (little_bytes 8 width ++ little_bytes 8 frames)))
    → kind ≡ h.kind → width ≡ h.width → frames ≡ maps.len h.frames
    → guest_image Two h ≡ head ++ (flat_map (frame_text Two) (maps.entries h.frames) ++ parts_text h.parts)
unfolding guest_image host_head
image_is h head kind width frames is k w f = rw (is, k, w, f, maps.len-entries h.frames) refl

-- a part has a length of 32 bits, where they have room
pub part_short : (parts : PartMap) (i : ℕ) (e : PartKey × List ℕ) (rest : List (PartKey × List ℕ)) → HaveRoom parts → drop i (maps.entries parts) ≡ e ∷ rest → length e.1 < 2 ^ 32
part_short parts i e rest room is = holds_at (λ (e : PartKey × List ℕ). length e.1 < 2 ^ 32) i (maps.entries parts) rest e is (each_entry part_total part_exact (λ k b. length b < 2 ^ 32) parts room.short)
