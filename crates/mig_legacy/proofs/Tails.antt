-- The tail: how it is read, and that a guest with it is whole.
use Rattle.mig_legacy.proofs.Common.{◌≡◌, ℕ, ◌<◌, ◌≤◌, List, length, take, drop, Option, Result, Ok, Err, refl, sym, ap, subst, ◌∙◌, arith, length-take-le, length-drop, IsOk, IfOk, IsSome, replicate, false≢true, All-append, All-take, All-drop, All-replicate, AreBytes, Judged, ◌>>=◌, part, tried, AgreesWithJudging, said_at, Passes, Stop, then_reads, scan, cut_at, ContextFault, Hvm, LegacyCause, Truncated, IsCut, width_of, GuestOf, context_key, PartKey, part_total, blank_of, IsBegun, IsStreamedBare, judged_as, Test, computed, length_form, counted_form, context_fault, cut_context, tail_of, tail_form, LegacyTail, param_key, put_tail, most_body, cut_is, IsFew, computed_is}
use Rattle.std.specs.FinMap as maps
use Rattle.mig_restore_form.proofs.Laws.{complete_faultless}
use Rattle.mig_legacy.proofs.Growth.{part_grows, param_part, context_part}
use Rattle.mig_legacy.proofs.Parts.{behind_length, counted_is}
use Rattle.mig_legacy.proofs.Taking.{behind, part_set}

-- ---- the parts in their order

-- a context behind its length
abbrev pub context_at : List ℕ → ℕ → List ℕ → Judged LegacyCause LegacyTail
context_at frames n input = said_at Truncated (λ context. context_fault (scan context)) (tail_of frames) n input

abbrev tail_rows : List ℕ → List (Test × LegacyCause)
tail_rows context = computed (context_fault (scan context))

-- what follows the frame numbers
abbrev pub behind_frames : List ℕ × List ℕ → Judged LegacyCause LegacyTail
behind_frames frames = judged_as (counted_form most_body tail_rows (tail_of frames.0)) frames.1

pub tail_parts : (n : ℕ) → n ≡ 24 → (i : List ℕ) → judged_as tail_form i ≡ (part Truncated n i >>= behind_frames)
unfolding tail_form judged_as
tail_parts n is i = ap (λ k. part Truncated k i >>= behind_frames) (sym is)

context_is : (frames : List ℕ) (n : ℕ) (i : List ℕ) → behind_length most_body tail_rows (tail_of frames) (n, i) ≡ context_at frames n i
unfolding judged_as
context_is frames n i = λ at. part Truncated n i >>= λ b. tried (computed_is (context_fault (scan b.0)) at) b.1 >>= λ _. Passes (tail_of frames b.0) b.1

pub counted_parts : (frames i : List ℕ) → behind_frames (frames, i) ≡ (judged_as (length_form most_body) i >>= λ len. context_at frames len.0 len.1)
counted_parts frames i = counted_is most_body tail_rows (tail_of frames) i ∙ (λ at. judged_as (length_form most_body) i >>= λ len. context_is frames len.0 len.1 at)

module _ {V : Type 0} (Q : V → LegacyTail → Type 0) (n : ℕ) (size : n ≡ 24) (frames : List ℕ) (a b : Option (List ℕ)) (told : AgreesWithJudging {X = Unit {0}} (λ _ bytes. bytes ≡ frames) a b (part Truncated n) (Ok tt)) where
  -- behind the frame numbers
  pub framed : (d : Option (List ℕ)) (r : Result V (Stop LegacyCause)) → AgreesWithJudging Q b d (λ i. behind_frames (frames, i)) r → AgreesWithJudging Q a d (judged_as tail_form) r
  framed d r read =
      then_reads (λ _ bytes. bytes ≡ frames) Q a b d (part Truncated n) (judged_as tail_form) behind_frames tt r (tail_parts n size) told (λ bytes is. subst (λ l. AgreesWithJudging Q b d (λ i. behind_frames (l, i)) r) (sym is) read)

  -- behind the length too
  pub counted : (c d : Option (List ℕ)) (len : ℕ) (r : Result V (Stop LegacyCause)) → AgreesWithJudging {X = ℕ} (λ len n. n ≡ len) b c (judged_as (length_form most_body)) (Ok len) → AgreesWithJudging Q c d (context_at frames len) r → AgreesWithJudging Q a d (judged_as tail_form) r
  counted c d len r counts read =
      framed d r (then_reads (λ len n. n ≡ len) Q b c d (judged_as (length_form most_body)) (λ i. behind_frames (frames, i)) (λ len. context_at frames len.0 len.1) len r (counted_parts frames) counts (λ m is. subst (λ k. AgreesWithJudging Q c d (context_at frames k) r) (sym is) read))

-- ---- what is set

module _ (frames context : List ℕ) where
  -- the context that the scan found
  cut_there : (P : List ℕ → Type 0) (s : Result ℕ ContextFault) → IsOk s → IfOk s (λ end. P (cut_at context end)) → P (cut_context context s)
  cut_there P (Ok end) there is = is
  cut_there P (Err fault) there is = absurd (false≢true there)

  pub tail_set : (g1 g2 g3 g4 h : GuestOf) (k1 k2 k3 : PartKey) → length frames ≡ 24 → IsOk (scan context) → k1 ≡ param_key 5 → k2 ≡ param_key 6 → k3 ≡ param_key 1
      → g2 ≡ record g1 { parts = maps.insert g1.parts k1 (take 8 frames) } → g3 ≡ record g2 { parts = maps.insert g2.parts k2 (take 8 (drop 8 frames)) } → g4 ≡ record g3 { parts = maps.insert g3.parts k3 (take 8 (drop 16 frames)) }
      → IfOk (scan context) (λ end. h ≡ record g4 { parts = maps.insert g4.parts context_key (cut_at context end) }) → h ≡ put_tail g1 (tail_of frames context)
  tail_set g1 g2 g3 g4 h k1 k2 k3 len there is1 is2 is3 now1 now2 now3 now4 =
      let set1 = part_set g1 g2 k1 (param_key 5) _ _ is1 refl now1 in
      let set2 = part_set g2 g3 k2 (param_key 6) _ _ is2 refl now2 ∙ ap (λ (g : GuestOf). record g { parts = maps.insert g.parts (param_key 6) (take 8 (drop 8 frames)) }) set1 in
      let set3 = part_set g3 g4 k3 (param_key 1) _ (drop 16 frames) is3 (behind 16 24 frames len) now3 ∙ ap (λ (g : GuestOf). record g { parts = maps.insert g.parts (param_key 1) (drop 16 frames) }) set2 in
      cut_there (λ l. h ≡ record g4 { parts = maps.insert g4.parts context_key l }) (scan context) there now4 ∙ ap (λ (g : GuestOf). record g { parts = maps.insert g.parts context_key (cut_context context (scan context)) }) set3

-- ---- the guest with its tail

cut_bytes : (body : List ℕ) (o : ℕ) → AreBytes body → AreBytes (cut_at body o)
cut_bytes body o are = All-append (λ b. b < 256) (take o body) (replicate 8 0) (All-take (λ b. b < 256) o body are) (All-replicate (λ b. b < 256) 8 0 (omega arith))

module _ (g : GuestOf) (frames context : List ℕ) (end : ℕ) (hvm : g.kind ≡ Hvm) (len : length frames ≡ 24) (are : AreBytes frames) (are_too : AreBytes context) (found : scan context ≡ Ok end) (short : length context ≤ most_body) where
  abbrev b1 : List ℕ
  b1 = take 8 frames

  abbrev b2 : List ℕ
  b2 = take 8 (drop 8 frames)

  abbrev b3 : List ℕ
  b3 = drop 16 frames

  abbrev b4 : List ℕ
  b4 = cut_at context end

  abbrev g1 : GuestOf
  g1 = record g { parts = maps.insert g.parts (param_key 5) b1 }

  abbrev g2 : GuestOf
  g2 = record g { parts = maps.insert g1.parts (param_key 6) b2 }

  abbrev g3 : GuestOf
  g3 = record g { parts = maps.insert g2.parts (param_key 1) b3 }

  abbrev g4 : GuestOf
  g4 = record g { parts = maps.insert g3.parts context_key b4 }

  cut : (length b4 ≤ most_body) × IsCut b4
  cut = cut_is context end found short

  len1 : length b1 ≡ 8
  len1 = length-take-le 8 frames (omega (arith, len))

  len2 : length b2 ≡ 8
  len2 = length-take-le 8 (drop 8 frames) (omega (arith, len, length-drop 8 frames))

  len3 : length b3 ≡ 8
  len3 = omega (arith, len, length-drop 16 frames)

  begun4 : IsBegun g → IsBegun g4
  begun4 begun =
      let width = width_of g in
      let one = (part_grows g g1 (param_key 5) b1 refl refl refl (param_part g.kind width 5 b1 hvm (omega arith) len1) (All-take (λ b. b < 256) 8 frames are) refl).kept begun in
      let two = (part_grows g1 g2 (param_key 6) b2 refl refl refl (param_part g.kind width 6 b2 hvm (omega arith) len2) (All-take (λ b. b < 256) 8 (drop 8 frames) (All-drop (λ b. b < 256) 8 frames are)) refl).kept one in
      let three = (part_grows g2 g3 (param_key 1) b3 refl refl refl (param_part g.kind width 1 b3 hvm (omega arith) len3) (All-drop (λ b. b < 256) 16 frames are) refl).kept two in
      (part_grows g3 g4 context_key b4 refl refl refl (context_part g.kind width b4 hvm cut.0 cut.1) (cut_bytes context end are_too) refl).kept three

  is_tail : g4 ≡ put_tail g (tail_of frames context)
  is_tail = ap (λ s. record g { parts = maps.insert g3.parts context_key (cut_context context s) }) (sym found)

  pub tail_plain : (h : GuestOf) → IsBegun g → IsFew g.frames → h ≡ put_tail g (tail_of frames context) → IsStreamedBare h
  tail_plain h begun few now =
      let all = begun4 begun in
      subst IsStreamedBare (is_tail ∙ sym now) (record {
        whole = record { formed = all.formed; faultless = complete_faultless Hvm g4 hvm (subst (λ (o : Option (List ℕ)). IsSome o) (sym (maps.get-insert part_total g3.parts context_key b4 context_key)) refl, few) };
        blank = ap (λ k. blank_of k g4) hvm;
        bytes = all.bytes;
        plain = all.plain;
      })
