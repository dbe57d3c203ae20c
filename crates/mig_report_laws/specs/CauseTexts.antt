-- How each cause is printed. An argument is a number of its own, so that two that change places are seen.
use Rattle.std.specs.Prelude.{ℕ, List, [], ◌∷◌, codes}
use Rattle.mig_headers.specs.declared.fault.Cause.{Cause}
use Rattle.mig_headers.specs.declared.fault.Cause.TheVariants as stream
use Rattle.mig_headers.specs.declared.fault.ContextFault.TheVariants.{NoHeader, HeaderSize, ShortEntry, NoEnd}
use Rattle.mig_headers.specs.declared.image_fault.ImageCause.{ImageCause}
use Rattle.mig_headers.specs.declared.image_fault.ImageCause.TheVariants as image
use Rattle.mig_headers.specs.declared.legacy_fault.LegacyCause.{LegacyCause}
use Rattle.mig_headers.specs.declared.legacy_fault.LegacyCause.TheVariants as legacy
use Rattle.mig_headers.specs.declared.unsound.Unsound.{Unsound}
use Rattle.mig_headers.specs.declared.unsound.Unsound.TheVariants as unsound
use Rattle.mig_tool_report.specs.declared.outcome.WalkEnd.{WalkEnd}
use Rattle.mig_tool_report.specs.declared.outcome.WalkEnd.TheVariants as walk

-- of a stream
abbrev pub cause_texts : List (Cause × List ℕ)
cause_texts =
    (stream.Truncated, codes "1 Truncated") ∷ (stream.NotStream, codes "2 NotStream") ∷ (stream.BadId, codes "3 BadId") ∷ (stream.BadVersion 4, codes "4 BadVersion 4")
    ∷ (stream.BigEndian, codes "5 BigEndian") ∷ (stream.BadKind 3, codes "6 BadKind 3") ∷ (stream.BadPageShift 13, codes "7 BadPageShift 13")
    ∷ (stream.BodyTooLong 134217729, codes "8 BodyTooLong 134217729") ∷ (stream.Unsupported 14, codes "9 Unsupported 14") ∷ (stream.UnknownMandatory 19, codes "10 UnknownMandatory 19")
    ∷ (stream.WrongKind 2, codes "11 WrongKind 2") ∷ (stream.OutOfOrder 7, codes "12 OutOfOrder 7") ∷ (stream.BadLength 23, codes "13 BadLength 23") ∷ (stream.NoPages, codes "14 NoPages")
    ∷ (stream.BadPageType 1 5, codes "15 BadPageType 1 5") ∷ (stream.PfnOutside 2 16, codes "16 PfnOutside 2 16") ∷ (stream.Superpage 3 511, codes "17 Superpage 3 511")
    ∷ (stream.EntryOutside 4 5 16, codes "18 EntryOutside 4 5 16") ∷ (stream.Pv32, codes "19 Pv32") ∷ (stream.BadPvInfo, codes "20 BadPvInfo") ∷ (stream.P2mStart 1, codes "21 P2mStart 1")
    ∷ (stream.VcpuId 4096, codes "23 VcpuId 4096") ∷ (stream.GdtEnts 7169, codes "24 GdtEnts 7169") ∷ (stream.BadContext NoHeader, codes "25 BadContext NoHeader")
    ∷ (stream.BadContext (HeaderSize 23), codes "25 BadContext HeaderSize 23") ∷ (stream.BadContext (ShortEntry 32), codes "25 BadContext ShortEntry 32")
    ∷ (stream.BadContext NoEnd, codes "25 BadContext NoEnd") ∷ (stream.ParamIndex 4097, codes "26 ParamIndex 4097") ∷ (stream.Missing 9, codes "27 Missing 9") ∷ (stream.P2mFrame 2, codes "28 P2mFrame 2")
    ∷ (stream.TargetAbsent 4 9, codes "29 TargetAbsent 4 9") ∷ (stream.VcpuFrame 0 17, codes "30 VcpuFrame 0 17") ∷ (stream.TooManyRecords, codes "31 TooManyRecords")
    ∷ (stream.TooManyFrames, codes "32 TooManyFrames") ∷ (stream.BadPairs 6, codes "33 BadPairs 6") ∷ (stream.BadKey 7, codes "34 BadKey 7") ∷ (stream.BadEmulator 8, codes "35 BadEmulator 8")
    ∷ (stream.EmulatorForPv, codes "36 EmulatorForPv") ∷ (stream.ContextCount, codes "37 ContextCount") ∷ (stream.TooManyPairs, codes "38 TooManyPairs")
    ∷ (stream.EmulatorIndex 256, codes "39 EmulatorIndex 256") ∷ []

-- of a legacy stream
abbrev pub legacy_cause_texts : List (LegacyCause × List ℕ)
legacy_cause_texts =
    (legacy.Truncated, codes "1 Truncated") ∷ (legacy.Modern, codes "2 Modern") ∷ (legacy.Tools32, codes "3 Tools32") ∷ (legacy.VerifyOrPv, codes "4 VerifyOrPv") ∷ (legacy.Tmem, codes "5 Tmem")
    ∷ (legacy.Compressed, codes "6 Compressed") ∷ (legacy.UnknownChunk 21, codes "7 UnknownChunk 21") ∷ (legacy.BatchTooLarge 1025, codes "8 BatchTooLarge 1025")
    ∷ (legacy.BadPageType 1 5, codes "9 BadPageType 1 5") ∷ (legacy.WordHigh 2, codes "10 WordHigh 2") ∷ (legacy.BadVcpuMax 4096, codes "11 BadVcpuMax 4096")
    ∷ (legacy.BadToolstack 8, codes "12 BadToolstack 8") ∷ (legacy.UnpairedIoreq, codes "13 UnpairedIoreq") ∷ (legacy.BadContext NoHeader, codes "14 BadContext NoHeader")
    ∷ (legacy.BadContext (HeaderSize 23), codes "14 BadContext HeaderSize 23") ∷ (legacy.BadContext (ShortEntry 32), codes "14 BadContext ShortEntry 32")
    ∷ (legacy.BadContext NoEnd, codes "14 BadContext NoEnd") ∷ (legacy.BadSignature, codes "15 BadSignature") ∷ (legacy.TooManyChunks, codes "16 TooManyChunks")
    ∷ (legacy.TooManyFrames, codes "17 TooManyFrames") ∷ (legacy.BodyTooLong 134217729, codes "18 BodyTooLong 134217729") ∷ (legacy.TooManyPairs, codes "19 TooManyPairs") ∷ []

-- of a guest image
abbrev pub image_cause_texts : List (ImageCause × List ℕ)
image_cause_texts =
    (image.Truncated, codes "1 Truncated") ∷ (image.NotImage, codes "2 NotImage") ∷ (image.BadKind 3, codes "3 BadKind 3") ∷ (image.Reserved, codes "4 Reserved") ∷ (image.Width 0, codes "5 Width 0")
    ∷ (image.FrameCount 9, codes "6 FrameCount 9") ∷ (image.BadPageType 15, codes "7 BadPageType 15") ∷ (image.FrameOrder 1, codes "8 FrameOrder 1") ∷ (image.FrameOutside 10, codes "9 FrameOutside 10")
    ∷ (image.MachineFrame 0, codes "10 MachineFrame 0") ∷ (image.MachineTwice 5006, codes "11 MachineTwice 5006") ∷ (image.PartKey 13, codes "12 PartKey 13") ∷ (image.PartOrder 7, codes "13 PartOrder 7")
    ∷ (image.PartMany 17, codes "14 PartMany 17") ∷ (image.PartLength 19, codes "15 PartLength 19") ∷ (image.PartBytes, codes "16 PartBytes") ∷ (image.PartPadding, codes "17 PartPadding")
    ∷ (image.ZeroPage 6, codes "18 ZeroPage 6") ∷ []

-- of a host that can't be seen as a guest
abbrev pub unsound_texts : List (Unsound × List ℕ)
unsound_texts =
    (unsound.Missing 7, codes "1 Missing 7") ∷ (unsound.P2mFrame 2, codes "2 P2mFrame 2") ∷ (unsound.Superpage 3 511, codes "3 Superpage 3 511") ∷ (unsound.NoFrame 4 9, codes "4 NoFrame 4 9")
    ∷ (unsound.GdtEnts 1 7169, codes "5 GdtEnts 1 7169") ∷ (unsound.VcpuFrame 0 17, codes "6 VcpuFrame 0 17") ∷ (unsound.BadContext NoEnd, codes "7 BadContext NoEnd")
    ∷ (unsound.BadContext (ShortEntry 32), codes "7 BadContext ShortEntry 32") ∷ (unsound.BadContext NoHeader, codes "7 BadContext NoHeader")
    ∷ (unsound.BadContext (HeaderSize 23), codes "7 BadContext HeaderSize 23") ∷ []

-- of an address that means no frame
abbrev pub walk_end_texts : List (WalkEnd × List ℕ)
walk_end_texts = (walk.NoVcpu 5, codes "1 NoVcpu 5") ∷ (walk.NotCanonical, codes "2 NotCanonical") ∷ (walk.Absent 3, codes "3 Absent 3") ∷ (walk.NotTable 2, codes "4 NotTable 2") ∷ []
