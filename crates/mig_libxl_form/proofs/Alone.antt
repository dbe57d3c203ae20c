-- The stream of a PV guest has no emulators.
use Rattle.mig_libxl_form.proofs.Common.{◌≡◌, ℕ, true, false, List, nat_eq, Some, refl, sym, ◌∙◌, ◌||◌, or_parts, Spells, no_part, one_more, Pv, ImageOf, LibxlRecord, LibxlContent, EmulatorsOf, no_emulators, put_libxl_content, has_emulator, FollowsLibxl, HasLibxlContent, IsLibxlRecord, IsStream, optional, ends, pairs, context, StreamOf, image_of_stream, Bare, Wrapped}
use Rattle.mig_libxl_form.specs.Stream.{emulators_in}
use Rattle.mig_libxl_form.proofs.AcceptedWhole.{alone}
use Rattle.mig_libxl_form.proofs.Among.{emulator_more, emulators_more}
use Rattle.mig_libxl_form.specs.Spelled.IsLibxlRecord.{image as an_image, body as a_body}
use Rattle.mig_libxl_form.specs.Emulators.{emulators_of}

-- a content that isn't of an emulator's record leaves them as they are
other_content : (e : EmulatorsOf) (type : ℕ) (body : List ℕ) (c : LibxlContent) → HasLibxlContent type body c → (nat_eq type 2 || nat_eq type 3) ≡ false → put_libxl_content e c ≡ e
other_content e _ _ c (optional type body high) other = refl
other_content e type _ c ends other = refl
other_content e type _ c (pairs front text key ps is spelled) other = let never : true ≡ false = other in cc
other_content e type _ c (context front bytes key is) other = let never : true ≡ false = other in cc

other_record : (e : EmulatorsOf) (r : LibxlRecord) (text : List ℕ) → IsLibxlRecord r text → (nat_eq r.type 2 || nat_eq r.type 3) ≡ false → put_libxl_content e r.content ≡ e
other_record e r _ (an_image head text image is spelled) other = refl
other_record e _ text (a_body type body _ c is small says) other = other_content e type body c says other

none_of : (bytes : List ℕ) (records : List LibxlRecord) → Spells FollowsLibxl bytes records → has_emulator records ≡ false → emulators_of records ≡ no_emulators
unfolding emulators_of
none_of _ _ no_part none = refl
none_of _ _ (one_more bytes records r text before f) none =
    let both = or_parts (has_emulator records) (nat_eq r.type 2 || nat_eq r.type 3) (sym (emulator_more records r) ∙ none) in
    emulators_more records r ∙ other_record (emulators_of records) r text f.is both.1 ∙ none_of bytes records before both.0

pub pv_alone : (input : List ℕ) (s : StreamOf) (rest : List ℕ) (image : ImageOf) → IsStream input s rest → image_of_stream s ≡ Some image → image.opening.kind ≡ Pv → emulators_in s ≡ no_emulators
pv_alone input (Bare other) rest image is there pv = refl
pv_alone input (Wrapped records) rest image is there pv = none_of is.bytes records is.spelled (alone is.bytes records image is.spelled is.ended there pv)
