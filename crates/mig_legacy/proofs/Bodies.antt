-- The bodies of chunks: those that pass are those that are spelled.
use Rattle.mig_legacy.proofs.Common.{◌≡◌, ℕ, ◌+◌, ◌*◌, ◌/◌, ◌<◌, ◌≤◌, List, [], ◌++◌, length, take, drop, Option, Some, None, refl, sym, ap, subst, ◌∙◌, arith, take-append-drop, drop-drop, length-append, length-drop, length-take-le, flat_map, option_map, drop_at, take_at, le32, both_none, neither_some, LegacyCause, Truncated, BadToolstack, emulators_of, most_pairs, ChunkKind, End, Batch, VcpuMap, Tsc, LastCheckpoint, Toolstack, Param, toolstack, toolstack_fault, BeginsAs, SpelledAs, nothing, one_part, Given, NoneHolds, first_named, plain_form, max_causes, toolstack_causes, batch_form, vcpus_form, clock_of, clock_form, value_form, toolstack_form, content_form, pairs_of_toolstack, spelled_with, LegacyContent, LegacyChunk, store_records, store_key, Nothing, Frames, Value, Clock, Pairs, HasLegacyContent, StoreFits, IsCounted, pairs_of_physmap, Physmap, IsToolstack, vcpu_limit, most_body, is_none, none_is, begins_passes, passes_is_spelled}
use Rattle.mig_legacy.specs.Spelled.HasLegacyContent.{ends, batch, vcpus, clock, last_checkpoint, toolstack as a_toolstack, value}
use Rattle.mig_legacy.proofs.Batches.{batch_passes, batch_goes}
use Rattle.mig_legacy.proofs.Parts.{not_less, not_most, said_spelled, spelled_said, spelled_counted, counted_spelled, toolstack_named, too_many}
use Rattle.mig_legacy.proofs.Spelling.{toolstack_spelled}

-- ---- what a body that passes says

-- bytes of a body that say this, behind these chunks
abbrev Says : List LegacyChunk → ChunkKind → List ℕ → LegacyContent → Type 0
Says chunks kind bytes c = HasLegacyContent kind bytes c × StoreFits chunks c

pub record Body (chunks : List LegacyChunk) (kind : ChunkKind) (i : List ℕ) (c : LegacyContent) (rest : List ℕ) : Type 0 where
  pub bytes : List ℕ
  pub whole : i ≡ bytes ++ rest
  pub says : HasLegacyContent kind bytes c
  pub fits : StoreFits chunks c

body_of : (chunks : List LegacyChunk) (kind : ChunkKind) (i : List ℕ) (c : LegacyContent) (rest : List ℕ) → ((bytes : List ℕ) → SpelledAs (content_form chunks kind) bytes c → Says chunks kind bytes c) → BeginsAs (content_form chunks kind) i c rest → Body chunks kind i c rest
body_of chunks kind i c rest says (bytes, whole, spelled) = let s = says bytes spelled in record { bytes = bytes; whole = whole; says = s.0; fits = s.1 }

-- without a body
none_says : (chunks : List LegacyChunk) (kind : ChunkKind) (c : LegacyContent) (bytes : List ℕ) → HasLegacyContent kind [] Nothing → SpelledAs {C = LegacyCause} (Given Nothing) bytes c → Says chunks kind bytes c
none_says chunks kind _ _ says (nothing _) = (says, tt)

vcpus_say : (chunks : List LegacyChunk) (c : LegacyContent) (bytes : List ℕ) → SpelledAs vcpus_form bytes c → Says chunks VcpuMap bytes c
vcpus_say chunks c _ (one_part _ _ _ _ max bits _ four small behind) =
    let (size, none, is) = spelled_said (8 * (le32 max 0 / 64 + 1)) (λ _. []) (λ _. Nothing) bits c behind in
    subst (Says chunks VcpuMap (max ++ bits)) is (vcpus max bits four (not_most vcpu_limit (le32 max 0) small.0) size, tt)

clock_parts : (bytes : List ℕ) → length bytes ≡ 20 → bytes ≡ take 4 bytes ++ (take 8 (drop 4 bytes) ++ (take 4 (drop 12 bytes) ++ drop 16 bytes))
clock_parts bytes size =
    sym (take-append-drop 4 bytes)
    ∙ ap (λ l. take 4 bytes ++ l) (sym (take-append-drop 8 (drop 4 bytes)) ∙ ap (λ l. take 8 (drop 4 bytes) ++ l) (drop-drop 8 4 bytes ∙ sym (take-append-drop 4 (drop 12 bytes)) ∙ ap (λ l. take 4 (drop 12 bytes) ++ l) (drop-drop 4 12 bytes)))

clock_says : (chunks : List LegacyChunk) (c : LegacyContent) (bytes : List ℕ) → SpelledAs clock_form bytes c → Says chunks Tsc bytes c
clock_says chunks c bytes spelled =
    let (size, none, is) = spelled_said 20 (λ _. []) (λ bytes. Clock (clock_of bytes)) bytes c spelled in
    let told = clock (take 4 bytes) (take 8 (drop 4 bytes)) (take 4 (drop 12 bytes)) (drop 16 bytes)
    (length-take-le 4 bytes (omega (arith, size))) (length-take-le 8 (drop 4 bytes) (omega (arith, size, length-drop 4 bytes))) (length-take-le 4 (drop 12 bytes) (omega (arith, size, length-drop 12 bytes))) (omega (arith, size, length-drop 16 bytes)) in
    subst (Says chunks Tsc bytes) is (subst (λ l. HasLegacyContent Tsc l (Clock (clock_of bytes))) (sym (clock_parts bytes size)) told, tt)

value_says : (chunks : List LegacyChunk) (index : ℕ) (c : LegacyContent) (bytes : List ℕ) → SpelledAs (value_form index) bytes c → Says chunks (Param index) bytes c
value_says chunks index c bytes spelled =
    let (size, none, is) = spelled_said 12 (λ _. []) (λ bytes. Value index (drop 4 bytes)) bytes c spelled in
    let told = value index (take 4 bytes) (drop 4 bytes) (length-take-le 4 bytes (omega (arith, size))) (omega (arith, size, length-drop 4 bytes)) in
    subst (Says chunks (Param index) bytes) is (subst (λ l. HasLegacyContent (Param index) l (Value index (drop 4 bytes))) (take-append-drop 4 bytes) told, tt)

batch_says : (chunks : List LegacyChunk) (n : ℕ) (i : List ℕ) (c : LegacyContent) (rest : List ℕ) → BeginsAs (batch_form n) i c rest → Body chunks (Batch n) i c rest
batch_says chunks n i c rest begins =
    let b = batch_passes n i c rest (begins_passes (batch_form n) i c rest begins) in
    subst (λ (x : LegacyContent). Body chunks (Batch n) i x rest) b.says (record { bytes = b.body; whole = b.whole; says = batch n b.body b.es b.is; fits = tt })

unmapped : {X Y : Type 0} (f : X → Y) (o : Option X) → option_map f o ≡ None → o ≡ None
unmapped f None h = refl
unmapped {X} {Y} f (Some x) h = let no : ◌≡◌ {A = Option Y} (Some (f x)) None = h in cc

toolstack_says : (chunks : List LegacyChunk) (c : LegacyContent) (bytes : List ℕ) → SpelledAs (toolstack_form (emulators_of (store_records chunks))) bytes c → Says chunks Toolstack bytes c
toolstack_says chunks c bytes spelled =
    let e = emulators_of (store_records chunks) in
    let p = spelled_counted most_body (toolstack_causes e) (λ body. Pairs (pairs_of_toolstack body)) bytes c spelled in
    let both = both_none (option_map BadToolstack (toolstack_fault p.bytes)) (first_named (too_many e p.bytes)) (sym (toolstack_named e p.bytes) ∙ none_is (toolstack_causes e p.bytes) p.fine) in
    let is = (toolstack_spelled p.bytes).faultless (unmapped BadToolstack (toolstack_fault p.bytes) both.0) in
    subst (Says chunks Toolstack bytes) p.value (a_toolstack bytes p.bytes (toolstack p.bytes) p.is is, not_less most_pairs (spelled_with e store_key (pairs_of_toolstack p.bytes)) (is_none (too_many e p.bytes) both.1).0)

pub body_says : (chunks : List LegacyChunk) (kind : ChunkKind) (i : List ℕ) (c : LegacyContent) (rest : List ℕ) → BeginsAs (content_form chunks kind) i c rest → Body chunks kind i c rest
body_says chunks End i c rest begins = body_of chunks End i c rest (λ bytes spelled. none_says chunks End c bytes ends spelled) begins
body_says chunks (Batch n) i c rest begins = batch_says chunks n i c rest begins
body_says chunks VcpuMap i c rest begins = body_of chunks VcpuMap i c rest (vcpus_say chunks c) begins
body_says chunks Tsc i c rest begins = body_of chunks Tsc i c rest (clock_says chunks c) begins
body_says chunks LastCheckpoint i c rest begins = body_of chunks LastCheckpoint i c rest (λ bytes spelled. none_says chunks LastCheckpoint c bytes last_checkpoint spelled) begins
body_says chunks Toolstack i c rest begins = body_of chunks Toolstack i c rest (toolstack_says chunks c) begins
body_says chunks (Param index) i c rest begins = body_of chunks (Param index) i c rest (value_says chunks index c) begins

-- ---- what is spelled passes

vcpus_go : (max bits : List ℕ) → length max ≡ 4 → le32 max 0 < vcpu_limit → length bits ≡ 8 * (le32 max 0 / 64 + 1) → SpelledAs vcpus_form (max ++ bits) Nothing
vcpus_go max bits four small size =
    let none : NoneHolds (max_causes max) = (λ (high : vcpu_limit ≤ le32 max 0). omega (arith, high, small), tt) in
    one_part 4 Truncated max_causes (λ m. plain_form (8 * (le32 m 0 / 64 + 1)) (λ _. Nothing)) max bits Nothing four none (said_spelled (8 * (le32 max 0 / 64 + 1)) (λ _. []) (λ _. Nothing) bits size tt)

module _ (mode nanoseconds frequency incarnation : List ℕ) (four : length mode ≡ 4) (eight : length nanoseconds ≡ 8) (next : length frequency ≡ 4) (last : length incarnation ≡ 4) where
  abbrev clock_bytes : List ℕ
  clock_bytes = mode ++ (nanoseconds ++ (frequency ++ incarnation))

  behind_mode : drop 4 clock_bytes ≡ nanoseconds ++ (frequency ++ incarnation)
  behind_mode = drop_at mode (nanoseconds ++ (frequency ++ incarnation)) 4 four

  behind_nanoseconds : drop 12 clock_bytes ≡ frequency ++ incarnation
  behind_nanoseconds = sym (drop-drop 8 4 clock_bytes) ∙ ap (drop 8) behind_mode ∙ drop_at nanoseconds (frequency ++ incarnation) 8 eight

  behind_frequency : drop 16 clock_bytes ≡ incarnation
  behind_frequency = sym (drop-drop 4 12 clock_bytes) ∙ ap (drop 4) behind_nanoseconds ∙ drop_at frequency incarnation 4 next

  clock_is : clock_of clock_bytes ≡ mode ++ (frequency ++ (nanoseconds ++ incarnation))
  clock_is =
      let first : take 4 clock_bytes ≡ mode = take_at mode (nanoseconds ++ (frequency ++ incarnation)) 4 four in
      let second : take 8 (drop 4 clock_bytes) ≡ nanoseconds = ap (take 8) behind_mode ∙ take_at nanoseconds (frequency ++ incarnation) 8 eight in
      let third : take 4 (drop 12 clock_bytes) ≡ frequency = ap (take 4) behind_nanoseconds ∙ take_at frequency incarnation 4 next in
      ap (λ l. l ++ (take 4 (drop 12 clock_bytes) ++ (take 8 (drop 4 clock_bytes) ++ drop 16 clock_bytes))) first
      ∙ ap (λ l. mode ++ (l ++ (take 8 (drop 4 clock_bytes) ++ drop 16 clock_bytes))) third
      ∙ ap (λ l. mode ++ (frequency ++ (l ++ drop 16 clock_bytes))) second
      ∙ ap (λ l. mode ++ (frequency ++ (nanoseconds ++ l))) behind_frequency

  clock_goes : SpelledAs clock_form clock_bytes (Clock (mode ++ (frequency ++ (nanoseconds ++ incarnation))))
  clock_goes =
      let size : length clock_bytes ≡ 20 = omega (arith, length-append mode (nanoseconds ++ (frequency ++ incarnation)), length-append nanoseconds (frequency ++ incarnation), length-append frequency incarnation, four, eight, next, last) in
      subst (λ l. SpelledAs clock_form clock_bytes (Clock l)) clock_is (said_spelled 20 (λ _. []) (λ bytes. Clock (clock_of bytes)) clock_bytes size tt)

value_goes : (index : ℕ) (pad bytes : List ℕ) → length pad ≡ 4 → length bytes ≡ 8 → SpelledAs (value_form index) (pad ++ bytes) (Value index bytes)
value_goes index pad bytes four eight =
    subst (λ l. SpelledAs (value_form index) (pad ++ bytes) (Value index l)) (drop_at pad bytes 4 four) (said_spelled 12 (λ _. []) (λ l. Value index (drop 4 l)) (pad ++ bytes) (omega (arith, length-append pad bytes, four, eight)) tt)

toolstack_goes : (chunks : List LegacyChunk) (text body : List ℕ) (es : List Physmap) → IsCounted most_body text body → IsToolstack body es → StoreFits chunks (Pairs (flat_map pairs_of_physmap es))
    → SpelledAs (toolstack_form (emulators_of (store_records chunks))) text (Pairs (flat_map pairs_of_physmap es))
toolstack_goes chunks text body es counted is fits =
    let e = emulators_of (store_records chunks) in
    let found = (toolstack_spelled body).spelled es is in
    let same : pairs_of_toolstack body ≡ flat_map pairs_of_physmap es = ap (flat_map pairs_of_physmap) found.1 in
    let room : NoneHolds (too_many e body) = (λ (many : most_pairs < spelled_with e store_key (pairs_of_toolstack body)). let few = subst (λ ps. spelled_with e store_key ps ≤ most_pairs) (sym same) fits in omega (arith, many, few), tt) in
    let fine = toolstack_named e body ∙ neither_some (option_map BadToolstack (toolstack_fault body)) (first_named (too_many e body)) (ap (option_map BadToolstack) found.0) (none_is (too_many e body) room) in
    subst (λ ps. SpelledAs (toolstack_form e) text (Pairs ps)) same (counted_spelled most_body (toolstack_causes e) (λ l. Pairs (pairs_of_toolstack l)) text body counted (is_none (toolstack_causes e body) fine))

pub body_goes : (chunks : List LegacyChunk) (kind : ChunkKind) (body : List ℕ) (c : LegacyContent) (rest : List ℕ) → HasLegacyContent kind body c → StoreFits chunks c → BeginsAs (content_form chunks kind) (body ++ rest) c rest
body_goes chunks _ _ _ rest ends fits = ([], refl, nothing Nothing)
body_goes chunks _ _ _ rest (batch n body es is) fits = passes_is_spelled (batch_form n) (body ++ rest) (Frames es) rest (batch_goes n body rest es is)
body_goes chunks _ _ _ rest (vcpus max bits four small size) fits = (max ++ bits, refl, vcpus_go max bits four small size)
body_goes chunks _ _ _ rest (clock mode nanoseconds frequency incarnation four eight next last) fits = (mode ++ (nanoseconds ++ (frequency ++ incarnation)), refl, clock_goes mode nanoseconds frequency incarnation four eight next last)
body_goes chunks _ _ _ rest last_checkpoint fits = ([], refl, nothing Nothing)
body_goes chunks _ _ _ rest (a_toolstack text body es counted is) fits = (text, refl, toolstack_goes chunks text body es counted is fits)
body_goes chunks _ _ _ rest (value index pad bytes four eight) fits = (pad ++ bytes, refl, value_goes index pad bytes four eight)
