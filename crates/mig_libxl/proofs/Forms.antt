-- A stream of either form behind its first 8 bytes, as it is read.
use Rattle.mig_libxl.proofs.Common.{◌≡◌, ℕ, Bool, true, false, cond, List, [], ◌++◌, length, take, drop, nat_le, nat_lt, nat_eq, Option, Some, None, Ok, refl, sym, ap, subst, ◌∙◌, arith, length-append, le-leb, lt-leb, ◌>>=◌, part, placed, Passes, Cause, Truncated, LibxlHeader, header_at, bare_at, Bare, ltb-true, stop_at, AgreesWithJudging, image_behind, behind_header, Result, Err, Judged, tried, Matches, Place, be64, Faulty, Stop, part_whole, part_passes, libxl_ident, fault_of_marker, ImageHeader}
use Rattle.mig_headers.proofs.HeaderLaws.{marker_of}
use Rattle.mig_restore.proofs.Behind.{behind_is}
use Rattle.mig_restore_form.specs.Stream.{image_at, marker_at, opening_at}
use Rattle.mig_libxl_form.specs.Stream.{StreamOf, wrapped_at, stream_at}
use Rattle.mig_bytes.specs.declared.stop.Stop.TheVariants as stops

-- ---- a libxl stream behind its ident

pub wrapped_is : (i : List ℕ) → wrapped_at i ≡ (placed LibxlHeader (header_at i) >>= behind_header)
unfolding wrapped_at
wrapped_is i = refl

-- ---- a bare image

module _ (first : List ℕ) (size : length first ≡ 8) where
  -- the image header begins with the marker
  pub bare_is : fault_of_marker first ≡ None → (rest : List ℕ) → bare_at (first ++ rest) ≡ (image_behind rest >>= λ image. Passes (Bare image.0) image.1)
  unfolding image_at opening_at
  bare_is none rest =
      let marker : marker_at (first ++ rest) ≡ Passes first rest = rw (part_whole {C = Cause} Truncated 8 first rest size, none) refl in
      ap (λ j. j >>= λ image. Passes (Bare image.0) image.1) (rw marker refl ∙ sym (behind_is rest))

  pub bare_refused : (cause : Cause) → fault_of_marker first ≡ Some cause → (rest : List ℕ) → bare_at (first ++ rest) ≡ Faulty (ImageHeader, cause) rest
  unfolding image_at opening_at
  bare_refused cause bad rest =
      let marker : marker_at (first ++ rest) ≡ Faulty cause rest = rw (part_whole {C = Cause} Truncated 8 first rest size, bad) refl in
      rw marker refl

-- ---- the first 8 bytes

pub form_bare : (first : List ℕ) → length first ≡ 8 → nat_eq (be64 first 0) libxl_ident ≡ false → (rest : List ℕ) → stream_at (first ++ rest) ≡ bare_at (first ++ rest)
unfolding stream_at
form_bare first size ident rest =
    let long : nat_le 8 (length (first ++ rest)) ≡ true = le-leb 8 _ (omega (arith, size, length-append first rest)) in
    let same = marker_of first rest size in
    rw (long, same, ident) refl

part_short : (i : List ℕ) (cause : Cause) (rest : List ℕ) (b : Bool) → nat_lt (length i) 8 ≡ b → ◌≡◌ {A = Judged Cause (List ℕ)} (cond b (Faulty Truncated []) (Passes (take 8 i) (drop 8 i))) (Faulty cause rest) → nat_le 8 (length i) ≡ false
part_short i cause rest true short is = lt-leb 8 (length i) (ltb-true (length i) 8 short)
part_short i cause rest false long is = let no : ◌≡◌ {A = Judged Cause (List ℕ)} (Passes (take 8 i) (drop 8 i)) (Faulty cause rest) = is in cc

too_short : (i : List ℕ) (cause : Cause) (rest : List ℕ) → part Truncated 8 i ≡ Faulty cause rest → stream_at i ≡ Faulty (ImageHeader, cause) rest
unfolding stream_at image_at opening_at
too_short i cause rest is =
    let short = part_short i cause rest (nat_lt (length i) 8) refl is in
    let marker : marker_at i ≡ Faulty cause rest = ap (λ j. j >>= λ p. tried (fault_of_marker p.0) p.1 >>= λ _. Passes p.0 p.1) is in
    rw (short, marker) refl

module _ {X : Type 0} (R : X → StreamOf → Type 0) where
  -- they are there, and the rest is judged by their form
  pub form_reads : (a b c : Option (List ℕ)) (first : List ℕ) (k : List ℕ → Judged (Place × Cause) StreamOf) (u : Unit {0}) (r : Result X (Stop (Place × Cause))) → AgreesWithJudging {X = Unit {0}} (λ _ p. p ≡ first) a b (part Truncated (length first)) (Ok u)
      → ((rest : List ℕ) → stream_at (first ++ rest) ≡ k rest) → AgreesWithJudging R b c k r → AgreesWithJudging R a c stream_at r
  form_reads None b c first k u r is goes h = tt
  form_reads (Some i) b c first k u r (bytes, rest, is, left, same) goes h =
      let p = part_passes Truncated (length first) i bytes rest is in
      let j : stream_at i ≡ k rest = ap stream_at (p.0 ∙ ap (λ l. l ++ rest) same) ∙ goes rest in
      subst (λ x. Matches R c x r) (sym j) (subst (λ o. AgreesWithJudging R o c k r) left h)

  -- there are fewer, and so no ident
  pub form_stops : (a b : Option (List ℕ)) (first : List ℕ) (stop : Stop Cause) (d : Stop (Place × Cause)) → length first ≡ 8 → d ≡ stop_at ImageHeader stop → AgreesWithJudging {X = Unit {0}} (λ _ p. p ≡ first) a b (part Truncated (length first)) (Err stop) → AgreesWithJudging R a b stream_at (Err d)
  form_stops a b first stop d size is h = subst (λ s. AgreesWithJudging R a b stream_at (Err s)) (sym is) (stops_so a b first stop size h)
    where
      stops_so : (a b : Option (List ℕ)) (first : List ℕ) (stop : Stop Cause) → length first ≡ 8 → AgreesWithJudging {X = Unit {0}} (λ _ p. p ≡ first) a b (part Truncated (length first)) (Err stop) → AgreesWithJudging R a b stream_at (Err (stop_at ImageHeader stop))
      stops_so None b first stop size h = tt
      stops_so (Some i) b first (stops.Refused cause) size (rest, is, left) = (rest, too_short i cause rest (subst (λ n. part Truncated n i ≡ Faulty cause rest) size is), left)
      stops_so (Some i) b first stops.ReadFault size h = tt
      stops_so (Some i) b first stops.Memory size h = tt
