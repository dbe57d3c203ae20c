-- The printed texts of the places and causes of a legacy stream's refusal: number, name and arguments, parted by one space.
use Rattle.std.specs.Prelude.{ℕ, List, [], ◌∷◌, ◌++◌, codes, decimal}
use Rattle.mig_headers_text.specs.Common.{number_of_legacy_cause}
use Rattle.mig_headers.specs.declared.legacy_fault.LegacyPlace.{LegacyPlace}
use Rattle.mig_headers.specs.declared.legacy_fault.LegacyPlace.TheVariants.{Start, Chunk, Tail, Device}
use Rattle.mig_headers.specs.declared.legacy_fault.LegacyCause.{LegacyCause}
use Rattle.mig_headers.specs.declared.legacy_fault.LegacyCause.TheVariants.{Truncated, Modern, Tools32, VerifyOrPv, Tmem, Compressed, UnknownChunk, BatchTooLarge, BadPageType, WordHigh, BadVcpuMax, BadToolstack, UnpairedIoreq, BadContext, BadSignature, TooManyChunks, TooManyFrames, BodyTooLong, TooManyPairs}
use Rattle.mig_headers_text.specs.Texts.{spaced, words_of_context}

-- the words of a cause: its name, and its arguments
abbrev pub words_of_legacy_cause : LegacyCause → List (List ℕ)
words_of_legacy_cause Truncated = codes "Truncated" ∷ []
words_of_legacy_cause Modern = codes "Modern" ∷ []
words_of_legacy_cause Tools32 = codes "Tools32" ∷ []
words_of_legacy_cause VerifyOrPv = codes "VerifyOrPv" ∷ []
words_of_legacy_cause Tmem = codes "Tmem" ∷ []
words_of_legacy_cause Compressed = codes "Compressed" ∷ []
words_of_legacy_cause (UnknownChunk number) = codes "UnknownChunk" ∷ decimal number ∷ []
words_of_legacy_cause (BatchTooLarge count) = codes "BatchTooLarge" ∷ decimal count ∷ []
words_of_legacy_cause (BadPageType entry nibble) = codes "BadPageType" ∷ decimal entry ∷ decimal nibble ∷ []
words_of_legacy_cause (WordHigh entry) = codes "WordHigh" ∷ decimal entry ∷ []
words_of_legacy_cause (BadVcpuMax max) = codes "BadVcpuMax" ∷ decimal max ∷ []
words_of_legacy_cause (BadToolstack offset) = codes "BadToolstack" ∷ decimal offset ∷ []
words_of_legacy_cause UnpairedIoreq = codes "UnpairedIoreq" ∷ []
words_of_legacy_cause (BadContext fault) = codes "BadContext" ∷ words_of_context fault
words_of_legacy_cause BadSignature = codes "BadSignature" ∷ []
words_of_legacy_cause TooManyChunks = codes "TooManyChunks" ∷ []
words_of_legacy_cause TooManyFrames = codes "TooManyFrames" ∷ []
words_of_legacy_cause (BodyTooLong len) = codes "BodyTooLong" ∷ decimal len ∷ []
words_of_legacy_cause TooManyPairs = codes "TooManyPairs" ∷ []

abbrev pub text_of_legacy_cause : LegacyCause → List ℕ
text_of_legacy_cause cause = decimal (number_of_legacy_cause cause) ++ spaced (words_of_legacy_cause cause)

abbrev pub text_of_legacy_place : LegacyPlace → List ℕ
text_of_legacy_place Start = codes "Start"
text_of_legacy_place (Chunk number) = codes "Chunk " ++ decimal number
text_of_legacy_place Tail = codes "Tail"
text_of_legacy_place Device = codes "Device"
