-- The headers of a canonical stream, byte by byte (libxc migration stream, "Headers").
use Rattle.std.specs.Prelude.{ℕ, List, [], ◌∷◌, ◌++◌, replicate}

-- the marker, "XENF", version 3, and options and the rest of the image header, which are 0
abbrev pub hvm_image_header : List ℕ
hvm_image_header = replicate 8 255 ++ (0x58 ∷ 0x45 ∷ 0x4E ∷ 0x46 ∷ 0 ∷ 0 ∷ 0 ∷ 3 ∷ replicate 8 0)

-- an HVM guest, pages of 2^12 bytes, 2 bytes that are 0, and Xen 0.1
abbrev pub hvm_domain_header : List ℕ
hvm_domain_header = 2 ∷ 0 ∷ 0 ∷ 0 ∷ 12 ∷ 0 ∷ 0 ∷ 0 ∷ 0 ∷ 0 ∷ 0 ∷ 0 ∷ 1 ∷ 0 ∷ 0 ∷ 0 ∷ []

abbrev pub hvm_headers : List ℕ
hvm_headers = hvm_image_header ++ hvm_domain_header
