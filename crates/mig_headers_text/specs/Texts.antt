-- The printed texts of places and causes: number, name and arguments, parted by one space.
use Rattle.std.specs.Prelude.{ℕ, List, [], ◌∷◌, ◌++◌, codes, decimal}
use Rattle.mig_headers_text.specs.Common.{number_of_cause}
use Rattle.mig_headers.specs.declared.fault.Place.{Place}
use Rattle.mig_headers.specs.declared.fault.Place.TheVariants.{ImageHeader, DomainHeader, Record, LibxlHeader, LibxlRecord}
use Rattle.mig_headers.specs.declared.fault.ContextFault.{ContextFault}
use Rattle.mig_headers.specs.declared.fault.ContextFault.TheVariants.{NoHeader, HeaderSize, ShortEntry, NoEnd}
use Rattle.mig_headers.specs.declared.fault.Cause.{Cause}
use Rattle.mig_headers.specs.declared.fault.Cause.TheVariants.{Truncated, NotStream, BadId, BadVersion, BigEndian, BadKind, BadPageShift, BodyTooLong, Unsupported, UnknownMandatory, WrongKind, OutOfOrder, BadLength, NoPages, BadPageType, PfnOutside, Superpage, EntryOutside, Pv32, BadPvInfo, P2mStart, VcpuId, GdtEnts, BadContext, ParamIndex, Missing, P2mFrame, TargetAbsent, VcpuFrame, TooManyRecords, TooManyFrames, BadPairs, BadKey, BadEmulator, EmulatorForPv, ContextCount, TooManyPairs, EmulatorIndex}

-- the name and the number of what is wrong with a chain of HVM context entries
abbrev pub words_of_context : ContextFault → List (List ℕ)
words_of_context NoHeader = codes "NoHeader" ∷ []
words_of_context (HeaderSize len) = codes "HeaderSize" ∷ decimal len ∷ []
words_of_context (ShortEntry offset) = codes "ShortEntry" ∷ decimal offset ∷ []
words_of_context NoEnd = codes "NoEnd" ∷ []

-- the words of a cause: its name, and its arguments
abbrev pub words_of_cause : Cause → List (List ℕ)
words_of_cause Truncated = codes "Truncated" ∷ []
words_of_cause NotStream = codes "NotStream" ∷ []
words_of_cause BadId = codes "BadId" ∷ []
words_of_cause (BadVersion version) = codes "BadVersion" ∷ decimal version ∷ []
words_of_cause BigEndian = codes "BigEndian" ∷ []
words_of_cause (BadKind kind) = codes "BadKind" ∷ decimal kind ∷ []
words_of_cause (BadPageShift shift) = codes "BadPageShift" ∷ decimal shift ∷ []
words_of_cause (BodyTooLong len) = codes "BodyTooLong" ∷ decimal len ∷ []
words_of_cause (Unsupported type) = codes "Unsupported" ∷ decimal type ∷ []
words_of_cause (UnknownMandatory type) = codes "UnknownMandatory" ∷ decimal type ∷ []
words_of_cause (WrongKind type) = codes "WrongKind" ∷ decimal type ∷ []
words_of_cause (OutOfOrder rule) = codes "OutOfOrder" ∷ decimal rule ∷ []
words_of_cause (BadLength len) = codes "BadLength" ∷ decimal len ∷ []
words_of_cause NoPages = codes "NoPages" ∷ []
words_of_cause (BadPageType entry nibble) = codes "BadPageType" ∷ decimal entry ∷ decimal nibble ∷ []
words_of_cause (PfnOutside entry pfn) = codes "PfnOutside" ∷ decimal entry ∷ decimal pfn ∷ []
words_of_cause (Superpage entry slot) = codes "Superpage" ∷ decimal entry ∷ decimal slot ∷ []
words_of_cause (EntryOutside entry slot pfn) = codes "EntryOutside" ∷ decimal entry ∷ decimal slot ∷ decimal pfn ∷ []
words_of_cause Pv32 = codes "Pv32" ∷ []
words_of_cause BadPvInfo = codes "BadPvInfo" ∷ []
words_of_cause (P2mStart first) = codes "P2mStart" ∷ decimal first ∷ []
words_of_cause (VcpuId id) = codes "VcpuId" ∷ decimal id ∷ []
words_of_cause (GdtEnts count) = codes "GdtEnts" ∷ decimal count ∷ []
words_of_cause (BadContext fault) = codes "BadContext" ∷ words_of_context fault
words_of_cause (ParamIndex index) = codes "ParamIndex" ∷ decimal index ∷ []
words_of_cause (Missing type) = codes "Missing" ∷ decimal type ∷ []
words_of_cause (P2mFrame index) = codes "P2mFrame" ∷ decimal index ∷ []
words_of_cause (TargetAbsent pfn slot) = codes "TargetAbsent" ∷ decimal pfn ∷ decimal slot ∷ []
words_of_cause (VcpuFrame id field) = codes "VcpuFrame" ∷ decimal id ∷ decimal field ∷ []
words_of_cause TooManyRecords = codes "TooManyRecords" ∷ []
words_of_cause TooManyFrames = codes "TooManyFrames" ∷ []
words_of_cause (BadPairs offset) = codes "BadPairs" ∷ decimal offset ∷ []
words_of_cause (BadKey offset) = codes "BadKey" ∷ decimal offset ∷ []
words_of_cause (BadEmulator id) = codes "BadEmulator" ∷ decimal id ∷ []
words_of_cause EmulatorForPv = codes "EmulatorForPv" ∷ []
words_of_cause ContextCount = codes "ContextCount" ∷ []
words_of_cause TooManyPairs = codes "TooManyPairs" ∷ []
words_of_cause (EmulatorIndex index) = codes "EmulatorIndex" ∷ decimal index ∷ []

-- each word after a space
abbrev pub spaced : List (List ℕ) → List ℕ
spaced [] = []
spaced (word ∷ words) = (codes " " ++ word) ++ spaced words

abbrev pub text_of_cause : Cause → List ℕ
text_of_cause cause = decimal (number_of_cause cause) ++ spaced (words_of_cause cause)

abbrev pub text_of_place : Place → List ℕ
text_of_place ImageHeader = codes "ImageHeader"
text_of_place DomainHeader = codes "DomainHeader"
text_of_place (Record number) = codes "Record " ++ decimal number
text_of_place LibxlHeader = codes "LibxlHeader"
text_of_place (LibxlRecord number) = codes "LibxlRecord " ++ decimal number
