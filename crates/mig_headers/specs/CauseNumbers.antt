-- The numbers of the causes of a refusal, which are printed, and decide which of several is named.
use Rattle.std.specs.Prelude.{ℕ}
use Rattle.mig_headers.specs.declared.fault.Cause.{Cause}
use Rattle.mig_headers.specs.declared.fault.Cause.TheVariants.{Truncated, NotStream, BadId, BadVersion, BigEndian, BadKind, BadPageShift, BodyTooLong, Unsupported, UnknownMandatory, WrongKind, OutOfOrder, BadLength, NoPages, BadPageType, PfnOutside, Superpage, EntryOutside, Pv32, BadPvInfo, P2mStart, VcpuId, GdtEnts, BadContext, ParamIndex, Missing, P2mFrame, TargetAbsent, VcpuFrame, TooManyRecords, TooManyFrames, BadPairs, BadKey, BadEmulator, EmulatorForPv, ContextCount, TooManyPairs, EmulatorIndex}
use Rattle.mig_headers.specs.declared.image_fault.ImageCause.{ImageCause}
use Rattle.mig_headers.specs.declared.image_fault.ImageCause.TheVariants as image
use Rattle.mig_headers.specs.declared.legacy_fault.LegacyCause.{LegacyCause}
use Rattle.mig_headers.specs.declared.legacy_fault.LegacyCause.TheVariants as legacy

-- of a stream
abbrev pub number_of_cause : Cause → ℕ
number_of_cause Truncated = 1
number_of_cause NotStream = 2
number_of_cause BadId = 3
number_of_cause (BadVersion _) = 4
number_of_cause BigEndian = 5
number_of_cause (BadKind _) = 6
number_of_cause (BadPageShift _) = 7
number_of_cause (BodyTooLong _) = 8
number_of_cause (Unsupported _) = 9
number_of_cause (UnknownMandatory _) = 10
number_of_cause (WrongKind _) = 11
number_of_cause (OutOfOrder _) = 12
number_of_cause (BadLength _) = 13
number_of_cause NoPages = 14
number_of_cause (BadPageType _ _) = 15
number_of_cause (PfnOutside _ _) = 16
number_of_cause (Superpage _ _) = 17
number_of_cause (EntryOutside _ _ _) = 18
number_of_cause Pv32 = 19
number_of_cause BadPvInfo = 20
number_of_cause (P2mStart _) = 21
number_of_cause (VcpuId _) = 23
number_of_cause (GdtEnts _) = 24
number_of_cause (BadContext _) = 25
number_of_cause (ParamIndex _) = 26
number_of_cause (Missing _) = 27
number_of_cause (P2mFrame _) = 28
number_of_cause (TargetAbsent _ _) = 29
number_of_cause (VcpuFrame _ _) = 30
number_of_cause TooManyRecords = 31
number_of_cause TooManyFrames = 32
number_of_cause (BadPairs _) = 33
number_of_cause (BadKey _) = 34
number_of_cause (BadEmulator _) = 35
number_of_cause EmulatorForPv = 36
number_of_cause ContextCount = 37
number_of_cause TooManyPairs = 38
number_of_cause (EmulatorIndex _) = 39

-- of a guest image
abbrev pub number_of_image_cause : ImageCause → ℕ
number_of_image_cause image.Truncated = 1
number_of_image_cause image.NotImage = 2
number_of_image_cause (image.BadKind _) = 3
number_of_image_cause image.Reserved = 4
number_of_image_cause (image.Width _) = 5
number_of_image_cause (image.FrameCount _) = 6
number_of_image_cause (image.BadPageType _) = 7
number_of_image_cause (image.FrameOrder _) = 8
number_of_image_cause (image.FrameOutside _) = 9
number_of_image_cause (image.MachineFrame _) = 10
number_of_image_cause (image.MachineTwice _) = 11
number_of_image_cause (image.PartKey _) = 12
number_of_image_cause (image.PartOrder _) = 13
number_of_image_cause (image.PartMany _) = 14
number_of_image_cause (image.PartLength _) = 15
number_of_image_cause image.PartBytes = 16
number_of_image_cause image.PartPadding = 17
number_of_image_cause (image.ZeroPage _) = 18

-- of a legacy stream
abbrev pub number_of_legacy_cause : LegacyCause → ℕ
number_of_legacy_cause legacy.Truncated = 1
number_of_legacy_cause legacy.Modern = 2
number_of_legacy_cause legacy.Tools32 = 3
number_of_legacy_cause legacy.VerifyOrPv = 4
number_of_legacy_cause legacy.Tmem = 5
number_of_legacy_cause legacy.Compressed = 6
number_of_legacy_cause (legacy.UnknownChunk _) = 7
number_of_legacy_cause (legacy.BatchTooLarge _) = 8
number_of_legacy_cause (legacy.BadPageType _ _) = 9
number_of_legacy_cause (legacy.WordHigh _) = 10
number_of_legacy_cause (legacy.BadVcpuMax _) = 11
number_of_legacy_cause (legacy.BadToolstack _) = 12
number_of_legacy_cause legacy.UnpairedIoreq = 13
number_of_legacy_cause (legacy.BadContext _) = 14
number_of_legacy_cause legacy.BadSignature = 15
number_of_legacy_cause legacy.TooManyChunks = 16
number_of_legacy_cause legacy.TooManyFrames = 17
number_of_legacy_cause (legacy.BodyTooLong _) = 18
number_of_legacy_cause legacy.TooManyPairs = 19
