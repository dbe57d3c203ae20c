-- What stands before the chunks and behind them: what passes is what is spelled.
use Rattle.mig_legacy.proofs.Common.{◌≡◌, ℕ, ◌-◌, ◌<◌, List, [], ◌∷◌, ◌++◌, length, take, drop, Option, Some, None, Result, Ok, Err, inl, inr, refl, sym, ap, subst, ◌∙◌, arith, append_assoc, take-append-drop, drop-drop, length-append, length-drop, length-take-le, drop_at, take_at, le32, Passes, same_passes, contexts_are_spelled, cut_at, scan, ContextFault, LegacyCause, Truncated, BadContext, context_fault, cut_context, tail_of, signature, judged_as, SpelledAs, one_part, Test, NoneHolds, computed, start_causes, signature_causes, start_form, tail_form, device_form, counted_form, device_at, LegacyTail, IsStart, IsTail, IsDevice, most_body, bytes_spelled, computed_is, is_none, none_is, passes_is_spelled, spelled_passes}
use Rattle.std.specs.Str.{bytes_eq}
use Rattle.std.proofs.lemmas.Slice.Eq.{bytes_eq-Decides}
use Rattle.mig_legacy.proofs.Parts.{not_other, not_untrue, said_spelled, spelled_counted, counted_spelled}

-- ---- the start

pub start_passes : (i start rest : List ℕ) → judged_as start_form i ≡ Passes start rest → (i ≡ start ++ rest) × IsStart start
start_passes i start rest h =
    let (bytes, whole, spelled) = passes_is_spelled start_form i start rest h in
    let (same, _, size, none) = bytes_spelled Truncated 8 start_causes bytes start spelled in
    (whole ∙ ap (λ l. l ++ rest) same, record { len = size; no_image = λ is. none.0 (inl is); no_libxl = λ is. none.0 (inr is); small = not_other (le32 start 4) 0 none.1.0 })

pub start_goes : (start rest : List ℕ) → IsStart start → judged_as start_form (start ++ rest) ≡ Passes start rest
start_goes start rest is =
    let none : NoneHolds (start_causes start) = (λ modern. elim modern [ inl image ↦ is.no_image image | inr libxl ↦ is.no_libxl libxl ], (λ wide. wide is.small, tt)) in
    spelled_passes start_form start start rest (said_spelled 8 start_causes (λ l. l) start is.len none)

-- ---- the tail

ended_context : (r : Result ℕ ContextFault) → context_fault r ≡ None → (end : ℕ) × (r ≡ Ok end)
ended_context (Ok end) h = (end, refl)
ended_context (Err fault) h = let no : ◌≡◌ {A = Option LegacyCause} (Some (BadContext fault)) None = h in absurd (cc)

-- three frame numbers
frames_parts : (frames : List ℕ) → frames ≡ take 8 frames ++ (take 8 (drop 8 frames) ++ drop 16 frames)
frames_parts frames = sym (take-append-drop 8 frames) ∙ ap (λ l. take 8 frames ++ l) (sym (take-append-drop 8 (drop 8 frames)) ∙ ap (λ l. take 8 (drop 8 frames) ++ l) (drop-drop 8 8 frames))

joined : (a b c d : List ℕ) → (a ++ (b ++ c)) ++ d ≡ a ++ (b ++ (c ++ d))
joined a b c d = append_assoc a (b ++ c) d ∙ ap (λ l. a ++ l) (append_assoc b c d)

pub record Tail (i : List ℕ) (t : LegacyTail) (rest : List ℕ) : Type 0 where
  pub bytes : List ℕ
  pub whole : i ≡ bytes ++ rest
  pub is : IsTail bytes t

abbrev tail_rows : List ℕ → List (Test × LegacyCause)
tail_rows context = computed (context_fault (scan context))

tail_says : (bytes : List ℕ) (t : LegacyTail) → SpelledAs tail_form bytes t → IsTail bytes t
unfolding tail_form
tail_says _ t (one_part _ _ _ _ frames text _ size _ behind) =
    let c = spelled_counted most_body tail_rows (tail_of frames) text t behind in
    let (end, ends) = ended_context (scan c.bytes) (sym (computed_is (context_fault (scan c.bytes))) ∙ none_is (tail_rows c.bytes) c.fine) in
    let (entries, is, at) = (contexts_are_spelled c.bytes end).0 ends in
    let this : IsTail (frames ++ text) (tail_of frames c.bytes) = record {
      text = text;
      context = c.bytes;
      entries = entries;
      whole = ap (λ l. l ++ text) (frames_parts frames) ∙ joined (take 8 frames) (take 8 (drop 8 frames)) (drop 16 frames) text;
      requests_len = length-take-le 8 frames (omega (arith, size));
      buffered_len = length-take-le 8 (drop 8 frames) (omega (arith, size, length-drop 8 frames));
      store_len = omega (arith, size, length-drop 16 frames);
      counted = c.is;
      is_context = is;
      cut = ap (cut_context c.bytes) ends ∙ ap (cut_at c.bytes) (sym at);
    } in
    subst (λ (x : LegacyTail). IsTail (frames ++ text) x) c.value this

pub tail_passes : (i : List ℕ) (t : LegacyTail) (rest : List ℕ) → judged_as tail_form i ≡ Passes t rest → Tail i t rest
tail_passes i t rest h = let (bytes, whole, spelled) = passes_is_spelled tail_form i t rest h in record { bytes = bytes; whole = whole; is = tail_says bytes t spelled }

-- the tail that these frame numbers and this context make
module _ (bytes : List ℕ) (t : LegacyTail) (is : IsTail bytes t) where
  abbrev pub frames : List ℕ
  frames = t.requests ++ (t.buffered ++ t.store)

  behind_requests : drop 8 frames ≡ t.buffered ++ t.store
  behind_requests = drop_at t.requests (t.buffered ++ t.store) 8 is.requests_len

  pub ends : scan is.context ≡ Ok (length is.is_context.before)
  ends = (contexts_are_spelled is.context (length is.is_context.before)).1 (is.entries, is.is_context, refl)

  pub tail_is : tail_of frames is.context ≡ t
  tail_is =
      let requests : take 8 frames ≡ t.requests = take_at t.requests (t.buffered ++ t.store) 8 is.requests_len in
      let buffered : take 8 (drop 8 frames) ≡ t.buffered = ap (take 8) behind_requests ∙ take_at t.buffered t.store 8 is.buffered_len in
      let store : drop 16 frames ≡ t.store = sym (drop-drop 8 8 frames) ∙ ap (drop 8) behind_requests ∙ drop_at t.buffered t.store 8 is.buffered_len in
      let context : cut_context is.context (scan is.context) ≡ t.context = ap (cut_context is.context) ends ∙ sym is.cut in
      ap (λ l. record { requests = l; buffered = take 8 (drop 8 frames); store = drop 16 frames; context = cut_context is.context (scan is.context) }) requests
      ∙ ap (λ l. record { requests = t.requests; buffered = l; store = drop 16 frames; context = cut_context is.context (scan is.context) }) buffered
      ∙ ap (λ l. record { requests = t.requests; buffered = t.buffered; store = l; context = cut_context is.context (scan is.context) }) store
      ∙ ap (λ l. record { requests = t.requests; buffered = t.buffered; store = t.store; context = l }) context

  pub tail_goes : (rest : List ℕ) → judged_as tail_form (bytes ++ rest) ≡ Passes t rest
  unfolding tail_form
  tail_goes rest =
      let size : length frames ≡ 24 = omega (arith, length-append t.requests (t.buffered ++ t.store), length-append t.buffered t.store, is.requests_len, is.buffered_len, is.store_len) in
      let none = is_none (tail_rows is.context) (computed_is (context_fault (scan is.context)) ∙ ap context_fault ends) in
      let spelled : SpelledAs tail_form (frames ++ is.text) (tail_of frames is.context) =
      one_part 24 Truncated (λ _. []) (λ f. counted_form most_body tail_rows (tail_of f)) frames is.text (tail_of frames is.context) size tt (counted_spelled most_body tail_rows (tail_of frames) is.text is.context is.counted none) in
      spelled_passes tail_form bytes t rest (subst (λ (x : LegacyTail). SpelledAs tail_form bytes x) tail_is (subst (λ l. SpelledAs tail_form l (tail_of frames is.context)) (sym (is.whole ∙ sym (joined t.requests t.buffered t.store is.text))) spelled))

-- ---- the device model's record

pub record Device (i : List ℕ) (d : Option (List ℕ)) (rest : List ℕ) : Type 0 where
  pub bytes : List ℕ
  pub whole : i ≡ bytes ++ rest
  pub is : IsDevice bytes d rest

record_says : (bytes : List ℕ) (d : Option (List ℕ)) (rest : List ℕ) → SpelledAs device_form bytes d → IsDevice bytes d rest
record_says _ d rest (one_part _ _ _ _ first text _ size none behind) =
    let c = spelled_counted (most_body - 8) (λ _. []) Some text d behind in
    let same : first ≡ signature = (bytes_eq-Decides first signature).0 (not_untrue (bytes_eq first signature) none.0) in
    subst (λ x. IsDevice (first ++ text) x rest) c.value (text, ap (λ l. l ++ text) same, c.is)

pub device_passes : (i : List ℕ) (d : Option (List ℕ)) (rest : List ℕ) → device_at i ≡ Passes d rest → Device i d rest
unfolding device_at
device_passes [] d rest h =
    let e = same_passes {C = LegacyCause} None d [] rest h in
    let left : Device [] None [] = record { bytes = []; whole = refl; is = (refl, refl) } in
    subst (λ x. Device [] x rest) e.0 (subst (λ l. Device [] None l) e.1 left)
device_passes (b ∷ input) d rest h = let (bytes, whole, spelled) = passes_is_spelled device_form (b ∷ input) d rest h in record { bytes = bytes; whole = whole; is = record_says bytes d rest spelled }

pub some_device : (i : List ℕ) → 0 < length i → device_at i ≡ judged_as device_form i
unfolding device_at
some_device [] some = absurd (omega (arith, some))
some_device (b ∷ i) some = refl

pub device_goes : (bytes : List ℕ) (d : Option (List ℕ)) (rest : List ℕ) → IsDevice bytes d rest → device_at (bytes ++ rest) ≡ Passes d rest
unfolding device_at
device_goes bytes None rest (nothing, over) = rw (nothing, over) refl
device_goes bytes (Some content) rest (text, whole, counted) =
    let some : 0 < length (bytes ++ rest) = omega (arith, length-append bytes rest, ap length whole, length-append signature text, signature_len) in
    let none : NoneHolds (signature_causes signature) = (λ other. other ((bytes_eq-Decides signature signature).1 refl), tt) in
    let spelled : SpelledAs device_form (signature ++ text) (Some content) =
    one_part (length signature) Truncated signature_causes (λ _. counted_form (most_body - 8) (λ _. []) Some) signature text (Some content) refl none (counted_spelled (most_body - 8) (λ _. []) Some text content counted tt) in
    some_device (bytes ++ rest) some ∙ spelled_passes device_form bytes (Some content) rest (subst (λ l. SpelledAs device_form l (Some content)) (sym whole) spelled)
  where
    signature_len : length signature ≡ 21
    signature_len = refl
