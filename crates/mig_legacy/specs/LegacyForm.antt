-- The form of a legacy stream (Xen's xg_save_restore.h): its parts in byte order, and in each the causes that may stand in it, in
-- the order of their numbers.
use Rattle.std.specs.Prelude.{ℕ, ◌+◌, ◌*◌, ◌/◌, ◌-◌, ◌^◌, Bool, List, [], ◌∷◌, ◌++◌, length, take, drop, Option, Some, None, Result, Ok, Err, codes, not, if◌then◌else◌}
use Rattle.mig_legacy.specs.Common.{flat_map, option_map, le32, be64, Test, computed, scan, cut_at, marker, libxl_ident, Pair, most_body, vcpu_limit, Hvm, LegacyCause, Truncated, Modern, Tools32, BadVcpuMax, BadToolstack, UnpairedIoreq, BadContext, BadSignature, TooManyChunks, TooManyFrames, BodyTooLong, TooManyPairs, word_has_data, word_pfn, most_frames, words, sent, FrameEntry, EmulatorsOf, emulators_of, spelled_with, most_pairs}
use Rattle.std.specs.FinMap as maps
use Rattle.std.specs.Str.{bytes_eq}
use Rattle.mig_bytes_form.specs.Form.{FormOf, ◌>>>◌, bytes_form, said_form, each_form}
use Rattle.mig_bytes_form.specs.Form.FormOf.{Gives, Part}
use Rattle.mig_bytes_form.specs.Tests.Test.{Less, AtMost, Equal, Is, Not, Both, Either}
use Rattle.mig_headers.specs.declared.fault.ContextFault.{ContextFault}
use Rattle.mig_restore_form.specs.Judging.{type_in_word}
use Rattle.mig_legacy.specs.declared.chunk.ChunkKind.{ChunkKind}
use Rattle.mig_legacy.specs.declared.chunk.ChunkKind.TheVariants.{End, Batch, VcpuMap, Tsc, LastCheckpoint, Toolstack, Param}
use Rattle.mig_legacy.specs.Batches.{fault_of_batch, page_data_words}
use Rattle.mig_legacy.specs.Chunks.{number_causes, kind_numbered}
use Rattle.mig_legacy.specs.Judged.{toolstack, toolstack_fault}
use Rattle.mig_legacy.specs.Texts.{pairs_of_physmap}
use Rattle.mig_legacy.specs.Legacy.{LegacyContent, LegacyChunk, LegacyTail, is_end, has_value, store_key, image_records, store_records}
use Rattle.mig_legacy.specs.Legacy.LegacyContent.{Nothing, Frames, Value, Clock, Pairs}

-- ---- what conditions ask

-- the most chunks of a stream
abbrev pub most_chunks : ℕ
most_chunks = 2 ^ 28

-- one of the two frames of I/O requests is told, and the other isn't
abbrev pub is_unpaired : List LegacyChunk → Bool
is_unpaired chunks = if has_value 32 chunks then not (has_value 33 chunks) else has_value 33 chunks

-- how many frames the chunks leave
abbrev pub frames_sent : List LegacyChunk → ℕ
frames_sent chunks = maps.len (sent Hvm (image_records chunks)).frames

-- the pairs of the entries in the data of a toolstack
abbrev pub pairs_of_toolstack : List ℕ → List Pair
pairs_of_toolstack body = flat_map pairs_of_physmap (toolstack body)

abbrev pub context_fault : Result ℕ ContextFault → Option LegacyCause
context_fault (Ok end) = None
context_fault (Err fault) = Some (BadContext fault)

-- the first bytes of a device model's record
abbrev pub signature : List ℕ
signature = codes "DeviceModelRecord0002"

-- ---- conditions and their causes

-- the first 8 bytes: those of an image, or of a libxl stream, or the upper half of the width isn't 0
abbrev pub start_causes : List ℕ → List (Test × LegacyCause)
start_causes bytes = (Either (Equal (be64 bytes 0) marker) (Equal (be64 bytes 0) libxl_ident), Modern) ∷ (Not (Equal (le32 bytes 4) 0), Tools32) ∷ []

-- a chunk that is this, behind these chunks; the last one asks for both I/O request frames or none, and for not too many frames
abbrev pub place_causes : List LegacyChunk → ChunkKind → List (Test × LegacyCause)
place_causes chunks kind =
    (Both (Is (is_end kind)) (Is (is_unpaired chunks)), UnpairedIoreq)
    ∷ (AtMost most_chunks (length chunks), TooManyChunks)
    ∷ (Both (Is (is_end kind)) (Less most_frames (frames_sent chunks)), TooManyFrames)
    ∷ []

-- the greatest vCPU id
abbrev pub max_causes : List ℕ → List (Test × LegacyCause)
max_causes bytes = (AtMost vcpu_limit (le32 bytes 0), BadVcpuMax (le32 bytes 0)) ∷ []

-- the length of what may have at most so many bytes
abbrev pub length_causes : ℕ → List ℕ → List (Test × LegacyCause)
length_causes most bytes = (Less most (le32 bytes 0), BodyTooLong (le32 bytes 0)) ∷ []

-- the data of a toolstack: the first field that is wrong, or their pairs make the store too long
abbrev pub toolstack_causes : EmulatorsOf → List ℕ → List (Test × LegacyCause)
toolstack_causes e body = computed (option_map BadToolstack (toolstack_fault body)) ++ (Less most_pairs (spelled_with e store_key (pairs_of_toolstack body)), TooManyPairs) ∷ []

-- the first bytes of a device model's record
abbrev pub signature_causes : List ℕ → List (Test × LegacyCause)
signature_causes bytes = (Not (Is (bytes_eq bytes signature)), BadSignature) ∷ []

-- ---- the form

-- so many bytes, in which no cause stands
abbrev pub plain_form : {X : Type 0} → ℕ → (List ℕ → X) → FormOf LegacyCause X
plain_form n says = said_form Truncated n (λ _. []) says

-- a length of at most so much
abbrev pub length_form : ℕ → FormOf LegacyCause ℕ
length_form most = said_form Truncated 4 (length_causes most) (λ bytes. le32 bytes 0)

-- the same, and as many bytes
abbrev pub counted_form : {X : Type 0} → ℕ → (List ℕ → List (Test × LegacyCause)) → (List ℕ → X) → FormOf LegacyCause X
counted_form most rows says = Part 4 Truncated (length_causes most) (λ front. said_form Truncated (le32 front 0) rows says)

-- the width of the P2M, of which the upper half says nothing but 0
abbrev pub start_form : FormOf LegacyCause (List ℕ)
start_form = bytes_form Truncated 8 start_causes

-- the type of a chunk behind these chunks
abbrev pub type_form : List LegacyChunk → FormOf LegacyCause ChunkKind
type_form chunks = said_form Truncated 4 (λ bytes. number_causes (le32 bytes 0) ++ place_causes chunks (kind_numbered (le32 bytes 0))) (λ bytes. kind_numbered (le32 bytes 0))

abbrev pub words_form : ℕ → FormOf LegacyCause (List ℕ)
words_form n = said_form Truncated (8 * n) (λ bytes. computed (fault_of_batch (words n bytes))) (words n)

-- the entry of a word, with its page where the type has data
abbrev pub page_of_word : ℕ → FormOf LegacyCause (Option (List ℕ))
page_of_word word = if word_has_data word then plain_form 4096 Some else Gives None

abbrev pub entry_form : ℕ → FormOf LegacyCause FrameEntry
entry_form word = page_of_word word >>> λ page. Gives (record { pfn = word_pfn word; type = type_in_word word; page = page })

-- a batch: so many words, and a page for each word of a type with data
abbrev pub batch_form : ℕ → FormOf LegacyCause LegacyContent
batch_form n = words_form n >>> λ ws. each_form entry_form (page_data_words ws) >>> λ entries. Gives (Frames entries)

-- which vCPUs there are: the greatest id, and a bit for each id up to it, in words of 64
abbrev pub vcpus_form : FormOf LegacyCause LegacyContent
vcpus_form = Part 4 Truncated max_causes (λ max. plain_form (8 * (le32 max 0 / 64 + 1)) (λ _. Nothing))

-- mode, nanoseconds, frequency and incarnation, in the order of an X86_TSC_INFO: mode, frequency, nanoseconds, incarnation
abbrev pub clock_of : List ℕ → List ℕ
clock_of bytes = take 4 bytes ++ (take 4 (drop 12 bytes) ++ (take 8 (drop 4 bytes) ++ drop 16 bytes))

abbrev pub clock_form : FormOf LegacyCause LegacyContent
clock_form = plain_form 20 (λ bytes. Clock (clock_of bytes))

abbrev pub toolstack_form : EmulatorsOf → FormOf LegacyCause LegacyContent
toolstack_form e = counted_form most_body (toolstack_causes e) (λ body. Pairs (pairs_of_toolstack body))

-- 4 bytes that say nothing, and the value
abbrev pub value_form : ℕ → FormOf LegacyCause LegacyContent
value_form index = plain_form 12 (λ bytes. Value index (drop 4 bytes))

-- the body of a chunk that is this, behind these chunks
abbrev pub content_form : List LegacyChunk → ChunkKind → FormOf LegacyCause LegacyContent
content_form chunks End = Gives Nothing
content_form chunks (Batch n) = batch_form n
content_form chunks VcpuMap = vcpus_form
content_form chunks Tsc = clock_form
content_form chunks LastCheckpoint = Gives Nothing
content_form chunks Toolstack = toolstack_form (emulators_of (store_records chunks))
content_form chunks (Param index) = value_form index

-- a chunk behind these chunks
unfoldable pub chunk_form : List LegacyChunk → FormOf LegacyCause LegacyChunk
chunk_form chunks = type_form chunks >>> λ kind. content_form chunks kind >>> λ content. Gives (record { kind = kind; content = content })

-- the chain up to its end, and an END of zeros
abbrev pub cut_context : List ℕ → Result ℕ ContextFault → List ℕ
cut_context bytes (Ok end) = cut_at bytes end
cut_context bytes (Err fault) = []

abbrev pub tail_of : List ℕ → List ℕ → LegacyTail
tail_of frames context = record { requests = take 8 frames; buffered = take 8 (drop 8 frames); store = drop 16 frames; context = cut_context context (scan context) }

-- three frame numbers; a length, and as many bytes of a context
unfoldable pub tail_form : FormOf LegacyCause LegacyTail
tail_form = Part 24 Truncated (λ _. []) (λ frames. counted_form most_body (λ context. computed (context_fault (scan context))) (tail_of frames))

-- a device model's record: its signature; a length, and as many bytes
abbrev pub device_form : FormOf LegacyCause (Option (List ℕ))
device_form = Part (length signature) Truncated signature_causes (λ _. counted_form (most_body - 8) (λ _. []) Some)
