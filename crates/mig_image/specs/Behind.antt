-- What stands behind the frames of an image.
use Rattle.std.specs.Prelude.{◌≡◌, ◌<◌, ◌^◌, ℕ, List, ◌++◌, codes, length, Some}
use Rattle.std.specs.FinMap as maps
use Rattle.mig_image.specs.Common.{flat_map, little_bytes, PartKey, PartMap}
use Rattle.mig_headers.specs.Headers.{kind_number}
use Rattle.mig_headers.specs.declared.kind.Kind.{Kind}
use Rattle.mig_host.specs.Hosted.{with_machines_from}
use Rattle.mig_image.specs.GuestImage.{frame_text, part_text}
use Rattle.mig_image.specs.declared.version.GuestImageVersion.TheVariants.{Two}
use Rattle.mig_records_pages.specs.PageData.{Frame}

-- the number of the parts, and the parts
abbrev pub parts_text : PartMap → List ℕ
parts_text parts = little_bytes 8 (length (maps.entries parts)) ++ flat_map part_text (maps.entries parts)

-- the fields of an image have room for their number and for their lengths
pub record HaveRoom (parts : PartMap) : Type 0 where
  pub few : length (maps.entries parts) < 2 ^ 64
  pub short : (key : PartKey) (bytes : List ℕ) → maps.get parts key ≡ Some bytes → length bytes < 2 ^ 32

-- the image of a host of this kind and width with these parts, the first of whose frames has this machine frame, and each later one
-- the next
abbrev pub counted_image : Kind → (width machine : ℕ) → List Frame → PartMap → List ℕ
counted_image kind width machine frames parts =
    (codes "XGIMAGE2" ++ (little_bytes 4 (kind_number kind) ++ (little_bytes 4 0 ++ (little_bytes 8 width ++ little_bytes 8 (length frames)))))
    ++ (flat_map (frame_text Two) (with_machines_from machine frames) ++ parts_text parts)
