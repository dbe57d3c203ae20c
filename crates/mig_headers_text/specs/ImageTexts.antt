-- The printed texts of the places and causes of a guest image's refusal: number, name and argument, parted by one space.
use Rattle.std.specs.Prelude.{ℕ, List, [], ◌∷◌, ◌++◌, codes, decimal}
use Rattle.mig_headers_text.specs.Common.{number_of_image_cause}
use Rattle.mig_headers.specs.declared.image_fault.ImagePlace.{ImagePlace}
use Rattle.mig_headers.specs.declared.image_fault.ImagePlace.TheVariants.{Head, Frame, Parts, Part}
use Rattle.mig_headers.specs.declared.image_fault.ImageCause.{ImageCause}
use Rattle.mig_headers.specs.declared.image_fault.ImageCause.TheVariants.{Truncated, NotImage, BadKind, Reserved, Width, FrameCount, BadPageType, FrameOrder, FrameOutside, MachineFrame, MachineTwice, PartKey, PartOrder, PartMany, PartLength, PartBytes, PartPadding, ZeroPage}
use Rattle.mig_headers_text.specs.Texts.{spaced}

-- the words of a cause: its name, and its arguments
abbrev pub words_of_image_cause : ImageCause → List (List ℕ)
words_of_image_cause Truncated = codes "Truncated" ∷ []
words_of_image_cause NotImage = codes "NotImage" ∷ []
words_of_image_cause (BadKind kind) = codes "BadKind" ∷ decimal kind ∷ []
words_of_image_cause Reserved = codes "Reserved" ∷ []
words_of_image_cause (Width width) = codes "Width" ∷ decimal width ∷ []
words_of_image_cause (FrameCount count) = codes "FrameCount" ∷ decimal count ∷ []
words_of_image_cause (BadPageType type) = codes "BadPageType" ∷ decimal type ∷ []
words_of_image_cause (FrameOrder pfn) = codes "FrameOrder" ∷ decimal pfn ∷ []
words_of_image_cause (FrameOutside pfn) = codes "FrameOutside" ∷ decimal pfn ∷ []
words_of_image_cause (MachineFrame mfn) = codes "MachineFrame" ∷ decimal mfn ∷ []
words_of_image_cause (MachineTwice mfn) = codes "MachineTwice" ∷ decimal mfn ∷ []
words_of_image_cause (PartKey code) = codes "PartKey" ∷ decimal code ∷ []
words_of_image_cause (PartOrder code) = codes "PartOrder" ∷ decimal code ∷ []
words_of_image_cause (PartMany code) = codes "PartMany" ∷ decimal code ∷ []
words_of_image_cause (PartLength length) = codes "PartLength" ∷ decimal length ∷ []
words_of_image_cause PartBytes = codes "PartBytes" ∷ []
words_of_image_cause PartPadding = codes "PartPadding" ∷ []
words_of_image_cause (ZeroPage pfn) = codes "ZeroPage" ∷ decimal pfn ∷ []

abbrev pub text_of_image_cause : ImageCause → List ℕ
text_of_image_cause cause = decimal (number_of_image_cause cause) ++ spaced (words_of_image_cause cause)

abbrev pub text_of_image_place : ImagePlace → List ℕ
text_of_image_place Head = codes "Head"
text_of_image_place (Frame number) = codes "Frame " ++ decimal number
text_of_image_place Parts = codes "Parts"
text_of_image_place (Part number) = codes "Part " ++ decimal number
