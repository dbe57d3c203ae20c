-- What stands among the records of a libxl stream.
use Rattle.std.specs.Prelude.{Bool, List, [], ◌∷◌, Option, Some, None, ◌==◌}
use Rattle.std.specs.List.{list_any}
use Rattle.mig_libxl_form.specs.Common.{option_or, ImageOf}
use Rattle.mig_libxl_form.specs.Content.{LibxlContent, LibxlRecord}
use Rattle.mig_libxl_form.specs.LibxlTypes.{libxl_end_type, is_emulator_type}
use Rattle.mig_libxl_form.specs.Content.LibxlContent.{Image}

-- one that ends the stream
abbrev pub is_libxl_ended : List LibxlRecord → Bool
is_libxl_ended records = list_any (λ r. r.type == libxl_end_type) records

-- one of an emulator
abbrev pub has_emulator : List LibxlRecord → Bool
has_emulator records = list_any (λ r. is_emulator_type r.type) records

abbrev pub image_in : LibxlContent → Option ImageOf
image_in (Image image) = Some image
image_in _ = None

-- the image of the stream
abbrev pub image_among : List LibxlRecord → Option ImageOf
image_among [] = None
image_among (r ∷ rs) = option_or (image_in r.content) (image_among rs)
